-- The report of an AP wants what is within bounds, and stays within bounds.
use Rattle.std.proofs.Common.{ℕ, ◌≡◌, ◌+◌, ◌<◌, ◌==◌, nat_lt, Bool, true, false, if◌then◌else◌, arith, refl, subst}
use Rattle.std.specs.Prelude.{IsTrue}
use Rattle.sync_words.specs.declared.access.Applied.{Applied}
use Rattle.sync_words.specs.declared.access.Applied.TheVariants.{Same, NotReady}
use Rattle.sync_words.specs.declared.access.TheConstants.{LOCKED}
use Rattle.sync_words.specs.declared.row.Row.{Row}
use Rattle.sync_words.specs.declared.row.Row.TheVariants.{AwaitInside, FindBsp, SignalBsp, AwaitInsideAgain, CountOut, SeekBsp, Report, TellReported, AwaitRelease, AwaitSessionEnd}
use Rattle.sync_words.specs.Steps.{Taken, IsWantWithin, Accepts, found_of, is_ready}
use Rattle.arrival.specs.Rounds.{is_last_look}
use Rattle.arrival.specs.Report.{ReportPosition, IsReport, IsReportRow, go, want_of, taken}
use Rattle.arrival.proofs.SearchLemmas.{more_looks}

wants_at : (row : Row) (r : ReportPosition) → IsReport r → IsWantWithin r.processors (want_of row r)
wants_at (AwaitInside looks) r within = (tt, tt)
wants_at FindBsp r within = (tt, tt)
wants_at SignalBsp r within = (within.bsp, tt)
wants_at (AwaitInsideAgain looks) r within = (tt, tt)
wants_at CountOut r within = (tt, tt)
wants_at SeekBsp r within = let few = within.few in (tt, omega arith)
wants_at Report r within = (within.one_of_them, omega arith)
wants_at TellReported r within = (within.bsp, tt)
wants_at _ r within = tt

pub wants_within : (r : ReportPosition) → IsReport r → IsWantWithin r.processors (want_of r.row r)
wants_within r within = wants_at r.row r within

-- a row's bounds are those of what the position keeps
kept : (row : Row) (r : ReportPosition) (next : Row) → IsReportRow row r → IsReportRow row (go r next)
kept (AwaitInside looks) r next at_row = at_row
kept (AwaitInsideAgain looks) r next at_row = at_row
kept _ r next at_row = tt

moved : (r : ReportPosition) (row : Row) → IsReport r → IsReportRow row r → IsReport (go r row)
moved r row within at_row =
    record {
      one_of_them = within.one_of_them;
      few = within.few;
      first = within.first;
      second = within.second;
      bsp = within.bsp;
      at_row = kept row r row at_row;
    }

-- a look of a round: it ends the round where it is the last, and else another one follows
look_stays : (found_none last : Bool) (again after : Row) (r : ReportPosition) →
    IsReport r →
    (last ≡ false → IsReportRow again r) →
    IsReportRow after r →
    IsReport (go r (if found_none then (if last then after else again) else SeekBsp))
look_stays true true again after r within first second = moved r after within second
look_stays true false again after r within first second = moved r again within (first refl)
look_stays false last again after r within first second = moved r SeekBsp within tt

lt_holds : (a b : ℕ) → nat_lt a b ≡ true → a < b
lt_holds a b is = grind arith

found_stays : (b : Bool) (r : ReportPosition) (found : ℕ) →
    nat_lt found r.processors ≡ b →
    IsReport r →
    IsReport (if b then record r { row = SignalBsp; bsp = found } else go r (AwaitInsideAgain 0))
found_stays true r found is within =
    record {
      one_of_them = within.one_of_them;
      few = within.few;
      first = within.first;
      second = within.second;
      bsp = lt_holds found r.processors is;
      at_row = tt;
    }
found_stays false r found is within = moved r (AwaitInsideAgain 0) within (omega (arith, within.second.0))

either_stays : (b : Bool) (p q : Taken ReportPosition) → IsReport p.after → IsReport q.after → IsReport ((if b then p else q).after)
either_stays true p q first second = first
either_stays false p q first second = second

sought : (b : Bool) (found n : ℕ) (answer : Applied) →
    nat_lt found n ≡ b →
    answer ≡ (if b then Same found else NotReady found) →
    IsTrue (is_ready answer) →
    found < n
sought true found n answer is meaning ready = lt_holds found n is
sought false found n answer is meaning ready = absurd (let waits : false ≡ true = subst (λ a. IsTrue (is_ready a)) meaning ready in cc)

stays_at : (row : Row) (r : ReportPosition) (answer : Applied) →
    IsReport r →
    IsReportRow row r →
    Accepts (want_of row r) answer →
    IsReport ((taken row r (found_of answer)).after)
stays_at (AwaitInside looks) r answer within at_row accepts =
    look_stays
    (found_of answer == 0)
    (is_last_look looks r.first_looks)
    (AwaitInside (looks + 1))
    FindBsp
    r
    within
    (more_looks looks r.first_looks at_row)
    tt
stays_at FindBsp r answer within at_row accepts = found_stays (nat_lt (found_of answer) r.processors) r (found_of answer) refl within
stays_at SignalBsp r answer within at_row accepts = moved r (AwaitInsideAgain 0) within (omega (arith, within.second.0))
stays_at (AwaitInsideAgain looks) r answer within at_row accepts =
    look_stays
    (found_of answer == 0)
    (is_last_look looks r.second_looks)
    (AwaitInsideAgain (looks + 1))
    CountOut
    r
    within
    (more_looks looks r.second_looks at_row)
    tt
stays_at CountOut r answer within at_row accepts =
    either_stays (found_of answer == LOCKED) _ _ (moved r SeekBsp within tt) (moved r AwaitSessionEnd within tt)
stays_at SeekBsp r answer within at_row accepts =
    record {
      one_of_them = within.one_of_them;
      few = within.few;
      first = within.first;
      second = within.second;
      bsp = sought (nat_lt (found_of answer) r.processors) (found_of answer) r.processors answer refl accepts.meaning accepts.ready;
      at_row = tt;
    }
stays_at Report r answer within at_row accepts = moved r TellReported within tt
stays_at TellReported r answer within at_row accepts = moved r AwaitRelease within tt
stays_at _ r answer within at_row accepts = absurd accepts

pub stays_within : (r : ReportPosition) (answer : Applied) →
    IsReport r →
    Accepts (want_of r.row r) answer →
    IsReport ((taken r.row r (found_of answer)).after)
stays_within r answer within accepts = stays_at r.row r answer within within.at_row accepts
