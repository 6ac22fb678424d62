-- What holds of the session, in the words of the machine's rules.
use Rattle.std.proofs.Common.{ℕ, ◌+◌, ◌-◌, ◌*◌, ◌≡◌, ◌≢◌, ◌<◌, ◌≤◌, arith, Bool, true, false, Option, Some, None, refl, sym, subst, ap, ⊎_elim, ◌∙◌}
use Rattle.std.specs.Prelude.{IsSome, IsSomeAnd}
use Rattle.std.proofs.lemmas.Bool.{cases_eq, cases_lt}
use Rattle.cpu_table.specs.Data.{SetupData}
use Rattle.rendezvous_machine.specs.Machines.{Machine, Member, Session, member, IsAtWork, IsClosed, IsLed, EachOther, AllReleased}
use Rattle.schedule_laws.proofs.Scenes.{Scene}
use Rattle.schedule_laws.proofs.Stations.{Withdrawing, member_of, made, low, bit}
use Rattle.schedule_laws.proofs.Sums.{sum_below, sum_below-one_gap, sum_below-zero}
use Rattle.schedule_laws.proofs.Invariant.{Context, View, IsTeam, IsPeer, IsRunOf, IsReady, view, locked}
use Rattle.schedule_laws.proofs.Frames.{bit_true, counter_low}

pub some_and : {A : Type 0} (o : Option A) (x : A) (P : A → Type 0) → o ≡ Some x → P x → IsSomeAnd o P
some_and {A} o x P e h = subst (λ (y : Option A). IsSomeAnd y P) (sym e) h

pub of_some : {A : Type 0} (o : Option A) (x : A) (P : A → Type 0) → o ≡ Some x → IsSomeAnd o P → P x
of_some {A} o x P e h = subst (λ (y : Option A). IsSomeAnd y P) e h

pub of_none : {A : Type 0} (o : Option A) (P : A → Type 0) → o ≡ None → IsSomeAnd o P → ⊥
of_none {A} o P e h = subst (λ (y : Option A). IsSomeAnd y P) e h

-- what holds of the machine's session holds of none, or of the context's
no_session : (d : SetupData) (c : Context) (s : Scene) (m : Machine) (P : Session → Type 0) → IsReady d c s m → (1 ≤ c.stage → P c.session → ⊥) → IsSomeAnd m.session P
    → ⊥
no_session d c s m P f t h =
    ⊎_elim
    (λ (z : c.stage ≡ 0). of_none m.session P (f.words.no_session z) h)
    (λ (z : c.stage ≢ 0). t (omega arith) (of_some m.session c.session P (f.words.session (omega arith)) h))
    (cases_eq c.stage 0)

pub true_false : (b : Bool) → b ≡ true → b ≡ false → ⊥
true_false true a b = absurd (let z : bit true ≡ bit false = ap bit b in omega arith)
true_false false a b = absurd (let z : bit false ≡ bit true = ap bit a in omega arith)

pub not_at_work : (d : SetupData) (c : Context) (s : Scene) (m : Machine) → IsReady d c s m → s.words.inside ≡ 0 → IsAtWork m → ⊥
not_at_work d c s m f z =
    no_session d c s m (λ x. IsSome x.served × (x.is_done ≡ false)) f
    (λ st h.
    ⊎_elim
    (λ (a : c.stage < 15).
    ⊎_elim
    (λ (b : c.stage < 2). true_false false (subst (λ (o : Option ℕ). IsSome o) (f.session.unserved (omega arith)) h.0) refl)
    (λ (b : 2 ≤ c.stage). let y = f.words.inside b (omega arith) in absurd (omega arith))
    (cases_lt c.stage 2))
    (λ (a : 15 ≤ c.stage). true_false c.session.is_done (f.session.done a) h.1)
    (cases_lt c.stage 15))

pub is_closed : (d : SetupData) (c : Context) (s : Scene) (m : Machine) → IsReady d c s m → 10 ≤ c.stage → IsClosed m
is_closed d c s m f st = some_and m.session c.session (λ x. x.is_closed ≡ true) (f.words.session (omega arith)) (f.session.closed st)

pub not_closed : (d : SetupData) (c : Context) (s : Scene) (m : Machine) → IsReady d c s m → c.stage ≤ 9 → IsClosed m → ⊥
not_closed d c s m f st = no_session d c s m (λ x. x.is_closed ≡ true) f (λ a h. true_false c.session.is_closed h (f.session.unclosed st))

pub not_led : (d : SetupData) (c : Context) (i : ℕ) (s : Scene) (m : Machine) → IsReady d c s m → i ≢ c.bsp → IsLed m i → ⊥
not_led d c i s m f nb = no_session d c s m (λ x. x.bsp ≡ i) f (λ a h. nb (sym h ∙ f.session.bsp a))

pub other_bsp : (d : SetupData) (c : Context) (i : ℕ) (s : Scene) (m : Machine) → IsReady d c s m → i ≢ c.bsp → 1 ≤ c.stage → IsSomeAnd m.session (λ x. x.bsp ≢ i)
other_bsp d c i s m f nb st = some_and m.session c.session (λ x. x.bsp ≢ i) (f.words.session st) (λ z. nb (sym z ∙ f.session.bsp st))

-- THE STAGE BY A WORD

pub locked_stage : (d : SetupData) (c : Context) (s : Scene) (m : Machine) → IsReady d c s m → s.words.counter ≡ locked → 10 ≤ c.stage
locked_stage d c s m f z = ⊎_elim (λ (g : c.stage < 10). absurd (counter_low d c s m f (omega arith) z)) (λ g. g) (cases_lt c.stage 10)

pub open_stage : (d : SetupData) (c : Context) (s : Scene) (m : Machine) → IsReady d c s m → s.words.counter ≢ locked → c.stage ≤ 9
open_stage d c s m f z = ⊎_elim (λ (g : c.stage < 10). omega arith) (λ (g : 10 ≤ c.stage). absurd (z (f.totals.counter_locked g))) (cases_lt c.stage 10)

pub inside_stage : (d : SetupData) (c : Context) (s : Scene) (m : Machine) → IsReady d c s m → s.words.inside ≢ 0 → 2 ≤ c.stage
inside_stage d c s m f z = ⊎_elim (λ (g : c.stage < 2). absurd (z (f.words.inside_before (omega arith)))) (λ g. g) (cases_lt c.stage 2)

-- one that is counted is in the counter
pub counted_some : (d : SetupData) (c : Context) (i : ℕ) (s : Scene) (m : Machine) → IsReady d c s m → i < d.processors → c.stage ≤ 9 → member_of (view s m i).station ≡ 1
    → 1 ≤ s.words.counter
counted_some d c i s m f l st e =
    let F : ℕ → ℕ = λ _. 0 in
    let G : ℕ → ℕ = λ j. member_of (view s m j).station in
    let gap : sum_below d.processors F + G i ≤ sum_below d.processors G + F i = sum_below-one_gap d.processors F G i l (λ _ _. omega arith) in
    let none : sum_below d.processors F ≡ 0 = sum_below-zero d.processors F (λ _ _. refl) in
    let count = f.totals.counted st in
    omega arith

-- ONE PROCESSOR

-- one that hasn't told its report is in a session whose BSP still waits for reports, or hasn't closed it
pub early_stage : (c : Context) (i : ℕ) (v : View) → IsTeam c i v → IsPeer c i v → member_of v.station ≡ 1 → made v.departed v.station ≡ 0 → c.stage ≤ 10
early_stage c i v h g a b =
    ⊎_elim
    (λ (z : c.stage < 11). omega arith)
    (λ (z : 11 ≤ c.stage). let t = g.told z in let u = h.team (omega arith) in absurd (omega arith))
    (cases_lt c.stage 11)

-- one whose word was raised before it lowered it was released, where it has no job
pub is_free : (c : Context) (i x : ℕ) (v : View) → 1 ≤ x → v.work ≢ 1 → low v.departed v.station ≡ 0 → v.team ≤ 1 → v.released ≤ 1 → IsPeer c i v → IsRunOf c i v x → v.released ≡ 1
is_free c i x v a nw b t r g h = grind arith

-- jobs are over before the releases
pub free_idle : (c : Context) (i : ℕ) (v : View) → v.released ≡ 1 → IsTeam c i v → v.work ≡ 0
free_idle c i v a h =
    ⊎_elim
    (λ (z : c.stage < 14). let y = h.unreleased (omega arith) in absurd (omega arith))
    (λ (z : 14 ≤ c.stage). h.idle_after z)
    (cases_lt c.stage 14)

pub work_unreleased : (c : Context) (i : ℕ) (v : View) → v.work ≡ 1 → IsTeam c i v → v.released ≡ 0
work_unreleased c i v a h =
    ⊎_elim
    (λ (z : c.stage < 14). h.unreleased (omega arith))
    (λ (z : 14 ≤ c.stage). let y = h.idle_after z in absurd (omega arith))
    (cases_lt c.stage 14)

-- one that was let leave was released, its desk was claimed, and all are released
pub depart_facts : (c : Context) (i x : ℕ) (v : View) → 1 ≤ v.present → v.present ≤ 2 → v.team ≤ 1 → v.released ≤ 1 → IsTeam c i (record v { station = Withdrawing })
    → IsPeer c i (record v { station = Withdrawing }) → IsRunOf c i (record v { station = Withdrawing }) x
    → (v.released ≡ 1) × (v.present ≡ 2) × (17 ≤ c.stage) × (v.departed ≡ 0)
depart_facts c i x v some most t r h g k = (grind arith, grind arith, grind arith, grind arith)

-- ALL OF THE CLOSED SET

pub each_peer : (d : SetupData) (c : Context) (s : Scene) (m : Machine) (P : Member → Type 0) → IsReady d c s m
    → ((j : ℕ) → j < d.processors → j ≢ c.bsp → (view s m j).team ≡ 1 → P (member m j)) → EachOther m c.bsp (λ x. x.in_closed_set) P
each_peer d c s m P f t = λ j l q h. let y = f.sized.members in t j (omega arith) q (ap bit h)

pub all_released : (d : SetupData) (c : Context) (s : Scene) (m : Machine) → IsReady d c s m → 17 ≤ c.stage → IsSomeAnd m.session (λ x. AllReleased m x.bsp)
all_released d c s m f st =
    some_and m.session c.session (λ x. AllReleased m x.bsp) (f.words.session (omega arith))
    (subst (AllReleased m) (sym (f.session.bsp (omega arith)))
    (each_peer d c s m (λ x. x.is_released ≡ true) f (λ j l q z. bit_true _ (let h = ((f.each j l).peer q).released (omega arith) in omega arith))))
