-- An exit stays at its rows, and what it wants there.
use Rattle.std.proofs.Common.{◌≡◌, ℕ, ◌+◌, ◌-◌, ◌<◌, ◌==◌, inl, inr, Bool, true, false, IsTrue, if◌then◌else◌, None, refl, sym, subst, arith}
use Rattle.std.specs.Prelude.{IfSome}
use Rattle.sync_words.specs.declared.row.Row.{Row}
use Rattle.sync_words.specs.declared.row.Row.TheVariants.{Release, AwaitReleased, Dismiss, AwaitDismissed, GiveBsp, LeaveInsync, UnlockCounter, AwaitSessionEnd}
use Rattle.sync_words.specs.Steps.{IsWantWithin, next_below}
use Rattle.exit_handshake.specs.Exit.{ExitPosition, is_ap, ap_count, after_rounds, to_releases, to_released, to_dismissals, to_dismissed, want_of, go, taken, left_of, IsExitRow, IsExit}
use Rattle.exit_handshake.specs.Laws.{GivesBack, AccessHas, ExitGivesBack, ExitLeavesTo, ExitWantsWithin, ExitStaysWithin}
use Rattle.exit_handshake.proofs.NextLemmas.{next_is, row_or_is, some_left}

rounds_row : (p : ExitPosition) (b : Bool) → p.elected ≡ b → IsExitRow p (after_rounds b)
rounds_row p true e = e
rounds_row p false e = tt

dismissed_row : (p : ExitPosition) (left : ℕ) → IsExitRow p (to_dismissed p left)
dismissed_row p left = by_test (left == 0) refl
  where
    by_test : (b : Bool) → (left == 0) ≡ b → IsExitRow p (if b then after_rounds p.elected else AwaitDismissed left)
    by_test true e = rounds_row p p.elected refl
    by_test false e = some_left left e

dismissals_row : (p : ExitPosition) (from : ℕ) → IsExitRow p (to_dismissals p from)
dismissals_row p from =
    row_or_is (IsExitRow p) Dismiss (to_dismissed p (ap_count p)) (λ j. (j < p.processors) × IsTrue (is_ap p j)) (next_below p.processors (is_ap p) from)
    (next_is p.processors (is_ap p) from) (λ j h. h) (dismissed_row p (ap_count p))

released_row : (p : ExitPosition) (left : ℕ) → IsExitRow p (to_released p left)
released_row p left = by_test (left == 0) refl
  where
    by_test : (b : Bool) → (left == 0) ≡ b → IsExitRow p (if b then to_dismissals p 0 else AwaitReleased left)
    by_test true e = dismissals_row p 0
    by_test false e = some_left left e

releases_row : (p : ExitPosition) (from : ℕ) → IsExitRow p (to_releases p from)
releases_row p from =
    row_or_is (IsExitRow p) Release (to_released p (ap_count p)) (λ j. (j < p.processors) × IsTrue (is_ap p j)) (next_below p.processors (is_ap p) from)
    (next_is p.processors (is_ap p) from) (λ j h. h) (released_row p (ap_count p))

same_row : (p : ExitPosition) (r row : Row) → IsExitRow p row → IsExitRow (go p r) row
same_row p r GiveBsp h = h
same_row p r row h = h

at_row : (p : ExitPosition) (r : Row) → IsExit p → IsExitRow p r → IsExit (go p r)
at_row p r h k = record { few = h.few; own = h.own; row = same_row p r r k }

stays_at : (p : ExitPosition) (row : Row) (found : ℕ) → IsExit p → IsExit (taken row p found).after
stays_at p (Release cpu) found h = at_row p (to_releases p (cpu + 1)) h (releases_row p (cpu + 1))
stays_at p (AwaitReleased left) found h = at_row p (to_released p (left - 1)) h (released_row p (left - 1))
stays_at p (Dismiss cpu) found h = at_row p (to_dismissals p (cpu + 1)) h (dismissals_row p (cpu + 1))
stays_at p (AwaitDismissed left) found h = at_row p (to_dismissed p (left - 1)) h (dismissed_row p (left - 1))
stays_at p GiveBsp found h = at_row p LeaveInsync h tt
stays_at p LeaveInsync found h = at_row p UnlockCounter h tt
stays_at p UnlockCounter found h = at_row p AwaitSessionEnd h tt
stays_at p row found h = h

-- an exit stays within bounds
pub exit_stays : ExitStaysWithin
exit_stays p found h = stays_at p p.row found h

-- the same of a step that was told of an equal position
pub exit_steps : (p q : ExitPosition) (found : ℕ) (r : Row) → p ≡ q → go q r ≡ (taken q.row q found).after → IsExit p → IsExit (go p r)
exit_steps p q found r e d h =
    let stays : IsExit (go q r) = subst IsExit (sym d) (exit_stays q found (subst IsExit e h)) in
    subst (λ (x : ExitPosition). IsExit (go x r)) (sym e) stays

-- an exit begins within bounds
pub exit_begins : (p : ExitPosition) (r : Row) → r ≡ to_releases p 0 → IsExit p → IsExit (go p r)
exit_begins p r e h = at_row p r h (rw e (releases_row p 0))

within_at : (p : ExitPosition) (row : Row) → p.me < p.processors → IsExitRow p row → IsWantWithin p.processors (want_of row p)
within_at p (Release cpu) own h = (h.0, tt)
within_at p (AwaitReleased left) own h = (own, tt)
within_at p (Dismiss cpu) own h = (h.0, tt)
within_at p (AwaitDismissed left) own h = (own, tt)
within_at p GiveBsp own h = (tt, omega arith)
within_at p LeaveInsync own h = (tt, omega arith)
within_at p UnlockCounter own h = (tt, omega arith)
within_at p row own h = tt

pub exit_within : ExitWantsWithin
exit_within p h = within_at p p.row h.own h.row

gives_at : (p : ExitPosition) (row : Row) → IsExitRow p row → left_of row ≡ None → AccessHas (GivesBack p) (want_of row p)
gives_at p (Release cpu) h e = inl (record { there = h.0; held = h.1; word = refl })
gives_at p (AwaitReleased left) h e = tt
gives_at p (Dismiss cpu) h e = tt
gives_at p (AwaitDismissed left) h e = tt
gives_at p GiveBsp h e = inr (record { number = refl; elected = h; word = refl })
gives_at p LeaveInsync h e = tt
gives_at p UnlockCounter h e = tt
gives_at p AwaitSessionEnd h e = cc
gives_at p row h e = absurd h

pub exit_gives : ExitGivesBack
exit_gives p h e = gives_at p p.row h.row e

left_at : (p : ExitPosition) (row : Row) → IsExitRow p row → IfSome (left_of row) (λ r. r ≡ AwaitSessionEnd)
left_at p (Release cpu) h = tt
left_at p (AwaitReleased left) h = tt
left_at p (Dismiss cpu) h = tt
left_at p (AwaitDismissed left) h = tt
left_at p GiveBsp h = tt
left_at p LeaveInsync h = tt
left_at p UnlockCounter h = tt
left_at p AwaitSessionEnd h = refl
left_at p row h = absurd h

pub exit_leaves : ExitLeavesTo
exit_leaves p h = left_at p p.row h.row
