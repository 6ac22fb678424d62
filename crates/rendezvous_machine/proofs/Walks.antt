-- Runs: their parts, and what stays along them.
use Rattle.std.proofs.Common.{◌≡◌, ℕ, Bool, true, false, ◌||◌, List, [], ◌∷◌, ◌++◌, refl, sym, ap, subst, ◌∙◌, append_assoc, append-nil, true≢false}
use Rattle.cpu_table.specs.Data.{SetupData}
use Rattle.sync_words.specs.declared.label.Label.{Label}
use Rattle.rendezvous_machine.specs.Machines.{Machine}
use Rattle.rendezvous_machine.specs.Rules.{Rule}
use Rattle.rendezvous_machine.specs.Effects.{effect}
use Rattle.rendezvous_machine.specs.Runs.{Said, IsRun, machine_after}
use Rattle.rendezvous_machine.specs.Histories.{is_end, has_end, HasSaid}

pub front_of : (d : SetupData) (m : Machine) (xs ys : List Said) → IsRun d m (xs ++ ys) → IsRun d m xs
front_of d m [] ys r = tt
front_of d m (e ∷ xs) ys r = (r.0, front_of d (effect d m e.0 e.1) xs ys r.1)

pub rest_of : (d : SetupData) (m : Machine) (xs ys : List Said) → IsRun d m (xs ++ ys) → IsRun d (machine_after d m xs) ys
rest_of d m [] ys r = r
rest_of d m (e ∷ xs) ys r = rest_of d (effect d m e.0 e.1) xs ys r.1

pub after_both : (d : SetupData) (m : Machine) (xs ys : List Said) → machine_after d m (xs ++ ys) ≡ machine_after d (machine_after d m xs) ys
after_both d m [] ys = refl
after_both d m (e ∷ xs) ys = after_both d (effect d m e.0 e.1) xs ys

pub either : {A : Type 0} (b : Bool) → (b ≡ true → A) → (b ≡ false → A) → A
either true f g = f refl
either false f g = g refl

pub neither : (a b : Bool) → (a || b) ≡ false → (a ≡ false) × (b ≡ false)
neither true b h = absurd (true≢false h)
neither false b h = (refl, h)

-- what each label keeps stays
pub kept : (d : SetupData) (P : Machine → Type 0) → ((m : Machine) (i : ℕ) (l : Label) → Rule d m i l → P m → P (effect d m i l))
    → (m : Machine) (es : List Said) → IsRun d m es → P m → P (machine_after d m es)
kept d P k m [] r h = h
kept d P k m (e ∷ es) r h = kept d P k (effect d m e.0 e.1) es r.1 (k m e.0 e.1 r.0 h)

-- what each label but an end keeps stays to the end of the session
pub kept_open : (d : SetupData) (P : Machine → Type 0)
    → ((m : Machine) (i : ℕ) (l : Label) → is_end l ≡ false → Rule d m i l → P m → P (effect d m i l))
    → (m : Machine) (es : List Said) → has_end es ≡ false → IsRun d m es → P m → P (machine_after d m es)
kept_open d P k m [] n r h = h
kept_open d P k m (e ∷ es) n r h =
    let both = neither (is_end e.1) (has_end es) n in
    kept_open d P k (effect d m e.0 e.1) es both.1 r.1 (k m e.0 e.1 both.0 r.0 h)

-- the same of a property of the labels so far and the machine
pub history : (d : SetupData) (H : List Said → Machine → Type 0)
    → ((past : List Said) (m : Machine) (i : ℕ) (l : Label) → Rule d m i l → H past m → H (past ++ (i, l) ∷ []) (effect d m i l))
    → (past : List Said) (m : Machine) (es : List Said) → IsRun d m es → H past m → H (past ++ es) (machine_after d m es)
history d H k past m [] r h = subst (λ xs. H xs m) (sym (append-nil past)) h
history d H k past m (e ∷ es) r h =
    subst (λ xs. H xs (machine_after d (effect d m e.0 e.1) es)) (append_assoc past (e ∷ []) es)
    (history d H k (past ++ e ∷ []) (effect d m e.0 e.1) es r.1 (k past m e.0 e.1 r.0 h))

-- a label that was said stays said until a session ends
open_push : (es : List Said) (e : Said) → has_end es ≡ false → is_end e.1 ≡ false → has_end (es ++ e ∷ []) ≡ false
open_push [] e n k = rw k refl
open_push (x ∷ es) e n k = let both = neither (is_end x.1) (has_end es) n in rw (both.0) (open_push es e both.1 k)

pub later : (i : ℕ) (l : Label) (past : List Said) (e : Said) → is_end e.1 ≡ false → HasSaid i l past → HasSaid i l (past ++ e ∷ [])
later i l past e n h =
    record {
      front = h.front;
      back = h.back ++ e ∷ [];
      whole = ap (λ xs. xs ++ e ∷ []) h.whole ∙ append_assoc h.front ((i, l) ∷ h.back) (e ∷ []);
      since = open_push h.back e h.since n;
    }

pub now : (i : ℕ) (l : Label) (past : List Said) → HasSaid i l (past ++ (i, l) ∷ [])
now i l past = record { front = past; back = []; whole = refl; since = refl }
