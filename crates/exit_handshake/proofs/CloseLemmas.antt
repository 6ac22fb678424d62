-- A close stays at its rows, and what it wants there.
use Rattle.std.proofs.Common.{◌≡◌, ℕ, ◌+◌, ◌-◌, ◌<◌, ◌==◌, Bool, true, false, IsTrue, if◌then◌else◌, None, refl, sym, ap, subst, arith}
use Rattle.std.specs.Prelude.{IfSome}
use Rattle.sync_words.specs.declared.row.Row.{Row}
use Rattle.sync_words.specs.declared.row.Row.TheVariants.{MarkInsync, LockCounter, AwaitReports, TakeDesk, Serve, LeaveInside}
use Rattle.sync_words.specs.Steps.{IsWantWithin, next_below}
use Rattle.exit_handshake.specs.Close.{ClosePosition, lacks, after_close, to_desks, to_reports, want_of, go, taken, left_of, IsCloseRow, IsClose}
use Rattle.exit_handshake.specs.Laws.{TakesMissing, AccessHas, CloseTakesMissing, CloseLeavesTo, CloseWantsWithin, CloseStaysWithin}
use Rattle.exit_handshake.proofs.NextLemmas.{next_is, row_or_is, some_left}

after_row : (p : ClosePosition) (b : Bool) → p.relaxed ≡ b → IsCloseRow p (after_close b)
after_row p true e = e
after_row p false e = e

desks_row : (p : ClosePosition) (from : ℕ) → IsCloseRow p (to_desks p from)
desks_row p from =
    row_or_is (IsCloseRow p) TakeDesk (after_close p.relaxed) (λ j. (j < p.processors) × IsTrue (lacks p j)) (next_below p.processors (lacks p) from)
    (next_is p.processors (lacks p) from) (λ j h. h) (after_row p p.relaxed refl)

reports_row : (p : ClosePosition) (left : ℕ) → IsCloseRow p (to_reports p left)
reports_row p left = by_test (left == 0) refl
  where
    by_test : (b : Bool) → (left == 0) ≡ b → IsCloseRow p (if b then to_desks p 0 else AwaitReports left)
    by_test true e = desks_row p 0
    by_test false e = some_left left e

same_row : (p : ClosePosition) (r row : Row) → IsCloseRow p row → IsCloseRow (go p r) row
same_row p r MarkInsync h = h
same_row p r row h = h

at_row : (p : ClosePosition) (r : Row) → IsClose p → IsCloseRow p r → IsClose (go p r)
at_row p r h k = record { few = h.few; own = h.own; row = same_row p r r k }

stays_at : (p : ClosePosition) (row : Row) (found : ℕ) → IsClose p → IsClose (taken row p found).after
stays_at p MarkInsync found h = at_row p LockCounter h tt
stays_at p LockCounter found h = at_row p (to_reports p (found - 1)) h (reports_row p (found - 1))
stays_at p (AwaitReports left) found h = at_row p (to_reports p (left - 1)) h (reports_row p (left - 1))
stays_at p (TakeDesk cpu) found h = at_row p (to_desks p (cpu + 1)) h (desks_row p (cpu + 1))
stays_at p row found h = h

-- a close stays within bounds
pub close_stays : CloseStaysWithin
close_stays p found h = stays_at p p.row found h

-- the same of a step that was told of an equal position
pub close_steps : (p q : ClosePosition) (found : ℕ) (r : Row) → p ≡ q → go q r ≡ (taken q.row q found).after → IsClose p → IsClose (go p r)
close_steps p q found r e d h =
    let stays : IsClose (go q r) = subst IsClose (sym d) (close_stays q found (subst IsClose e h)) in
    subst (λ (x : ClosePosition). IsClose (go x r)) (sym e) stays

within_at : (p : ClosePosition) (row : Row) → p.me < p.processors → IsCloseRow p row → IsWantWithin p.processors (want_of row p)
within_at p MarkInsync own h = (tt, omega arith)
within_at p LockCounter own h = (tt, tt)
within_at p (AwaitReports left) own h = (own, tt)
within_at p (TakeDesk cpu) own h = (h.0, (omega arith, omega arith))
within_at p row own h = tt

pub close_within : CloseWantsWithin
close_within p h = within_at p p.row h.own h.row

takes_at : (p : ClosePosition) (row : Row) → IsCloseRow p row → left_of row ≡ None → AccessHas (TakesMissing p) (want_of row p)
takes_at p MarkInsync h e = tt
takes_at p LockCounter h e = tt
takes_at p (AwaitReports left) h e = tt
takes_at p (TakeDesk cpu) h e = record { there = h.0; missing = h.1; word = refl }
takes_at p Serve h e = cc
takes_at p LeaveInside h e = cc
takes_at p row h e = absurd h

pub close_takes : CloseTakesMissing
close_takes p h e = takes_at p p.row h.row e

left_at : (p : ClosePosition) (row : Row) → IsCloseRow p row → IfSome (left_of row) (λ r. r ≡ after_close p.relaxed)
left_at p MarkInsync h = tt
left_at p LockCounter h = tt
left_at p (AwaitReports left) h = tt
left_at p (TakeDesk cpu) h = tt
left_at p Serve h = sym (ap after_close h)
left_at p LeaveInside h = sym (ap after_close h)
left_at p row h = absurd h

pub close_leaves : CloseLeavesTo
close_leaves p h = left_at p p.row h.row
