-- An entry wants what is within bounds, and stays within bounds.
use Rattle.std.proofs.Common.{ℕ, ◌==◌, ◌&&◌, Bool, true, false, if◌then◌else◌, arith}
use Rattle.sync_words.specs.declared.access.TheConstants.{LOCKED}
use Rattle.sync_words.specs.declared.row.Row.{Row}
use Rattle.sync_words.specs.declared.row.Row.TheVariants.{LookAtSource, LookAtInside, CountIn, ClaimBsp, LookAtBsp}
use Rattle.sync_words.specs.Steps.{Taken, IsWantWithin}
use Rattle.arrival.specs.Entry.{EntryPosition, IsEntry, want_of, elected, taken}

wants_at : (row : Row) (e : EntryPosition) → IsEntry e → IsWantWithin e.processors (want_of row e)
wants_at LookAtSource e within = (tt, tt)
wants_at LookAtInside e within = (tt, tt)
wants_at CountIn e within = (tt, tt)
wants_at ClaimBsp e within = let below = within.one_of_them in let few = within.few in (tt, (omega arith, omega arith))
wants_at LookAtBsp e within = (tt, tt)
wants_at _ e within = tt

pub wants_within : (e : EntryPosition) → IsEntry e → IsWantWithin e.processors (want_of e.row e)
wants_within e within = wants_at e.row e within

either_stays : (b : Bool) (p q : Taken EntryPosition) → IsEntry p.after → IsEntry q.after → IsEntry ((if b then p else q).after)
either_stays true p q first second = first
either_stays false p q first second = second

elected_stays : (b : Bool) (e : EntryPosition) → IsEntry e → IsEntry ((elected b e).after)
elected_stays true e within = record { one_of_them = within.one_of_them; few = within.few }
elected_stays false e within = record { one_of_them = within.one_of_them; few = within.few }

stays_at : (row : Row) (e : EntryPosition) (found : ℕ) → IsEntry e → IsEntry ((taken row e found).after)
stays_at LookAtSource e found within = record { one_of_them = within.one_of_them; few = within.few }
stays_at LookAtInside e found within =
    either_stays
    (e.source == 0 && found == 0)
    _
    _
    (record { one_of_them = within.one_of_them; few = within.few })
    (record { one_of_them = within.one_of_them; few = within.few })
stays_at CountIn e found within =
    either_stays
    (found == LOCKED)
    _
    _
    (record { one_of_them = within.one_of_them; few = within.few })
    (record { one_of_them = within.one_of_them; few = within.few })
stays_at ClaimBsp e found within = elected_stays (found == LOCKED) e within
stays_at LookAtBsp e found within = elected_stays (found == e.me) e within
stays_at _ e found within = within

pub stays_within : (e : EntryPosition) (found : ℕ) → IsEntry e → IsEntry ((taken e.row e found).after)
stays_within e found within = stays_at e.row e found within
