-- The machine's count of its members, and whose desks a BSP lists.
use Rattle.std.proofs.Common.{ℕ, zero, suc, ◌+◌, ◌≡◌, ◌<◌, ◌≤◌, arith, Bool, true, false, cond, List, [], ◌∷◌, length, get_or, map, Option, None, refl, ap, sym, ◌∙◌}
use Rattle.std.specs.Prelude.{is_some}
use Rattle.std.specs.List.{count_by}
use Rattle.std.proofs.lemmas.List.Sums.{sum_by-cons}
use Rattle.std.proofs.lemmas.List.FromFn.{get_or-map-range_with_len}
use Rattle.cpu_table.specs.Data.{SetupData}
use Rattle.handler_ops.specs.declared.desk.Desk.{Desk}
use Rattle.handler_ops.specs.Course.{is_held}
use Rattle.cpu_program.specs.Processors.{desks_held}
use Rattle.rendezvous_machine.specs.Machines.{Machine, Member, member, nobody, is_counted, is_counted_phase, count_of}
use Rattle.schedule_laws.proofs.Scenes.{Scene}
use Rattle.schedule_laws.proofs.Stations.{bit, member_of, member_is}
use Rattle.schedule_laws.proofs.Sums.{sum_below, sum_below-head, sum_below-same}
use Rattle.schedule_laws.proofs.Invariant.{Context, IsReady, view}

one : (b : Bool) → cond b 1 0 ≡ bit b
one true = refl
one false = refl

members-sum : (xs : List Member) → count_by is_counted xs ≡ sum_below (length xs) (λ j. bit (is_counted (get_or xs j nobody)))
unfolding sum_below
members-sum [] = refl
members-sum (x ∷ xs) =
    let ih = members-sum xs in
    let step : count_by is_counted (x ∷ xs) ≡ cond (is_counted x) 1 0 + count_by is_counted xs = sum_by-cons (λ (y : Member). cond (is_counted y) 1 0) x xs in
    let h = sum_below-head (length xs) (λ j. bit (is_counted (get_or (x ∷ xs) j nobody))) in
    let e : cond (is_counted x) 1 0 ≡ bit (is_counted x) = one (is_counted x) in
    omega arith

-- the counter of an open session is the number of members
pub count_is : (d : SetupData) (c : Context) (s : Scene) (m : Machine) → IsReady d c s m → c.stage ≤ 9 → s.words.counter ≡ count_of m
count_is d c s m f st =
    f.totals.counted st
    ∙ sym (sum_below-same d.processors (λ j. bit (is_counted (member m j))) (λ j. member_of (view s m j).station) (λ j g. ap (λ x. bit (is_counted_phase x)) ((f.each j g).self.phase) ∙ member_is (view s m j).station))
    ∙ ap (λ (x : ℕ). sum_below x (λ j. bit (is_counted (member m j)))) (sym f.sized.members)
    ∙ sym (members-sum m.members)

some_at : (xs : List (Option Desk)) (j : ℕ) → get_or (map is_some xs) j false ≡ is_some (get_or xs j None)
some_at [] j = refl
some_at (x ∷ xs) zero = refl
some_at (x ∷ xs) (suc j) = some_at xs j

-- the list of the desks that are held
pub listed_is : (held : List (Option Desk)) (j : ℕ) → j < 64 → get_or (desks_held held) j false ≡ is_some (get_or held j None)
unfolding desks_held
listed_is held j l = get_or-map-range_with_len (is_held held) 0 64 j j false l (omega arith) ∙ some_at held j
