-- Each actor of a schedule is one of the platform's.
use Rattle.std.proofs.Common.{◌≡◌, ℕ, zero, suc, ◌+◌, ◌≤◌, List, [], ◌∷◌, ◌++◌, length, Option, None, Some, Result, Ok, Err, IfOk, All, Bool, true, false, nat_le, if◌then◌else◌, refl, arith}
use Rattle.std.proofs.lemmas.Bool.{leb-true}
use Rattle.std.proofs.lemmas.List.Elements.{All-nil, All-cons, All-append}
use Rattle.std.proofs.lemmas.Result.{IfOk-at_ok}
use Rattle.std.specs.List.{range_with_len}
use Rattle.schedule_file.specs.declared.error.ScheduleError.{ScheduleError}
use Rattle.schedule_file.specs.declared.error.ScheduleError.TheVariants.{Actor, TooLong}
use Rattle.schedule_file.specs.declared.item.Item.{Item}
use Rattle.schedule_file.specs.declared.item.Who.{Who}
use Rattle.schedule_file.specs.declared.item.Who.TheVariants as who
use Rattle.schedule_file.specs.Schedule.{on_ok, who_reading, repeated, form_reading, item_of, item_reading, all_actors, items_of, not_too_long, schedule_of}

-- actors up to n
abbrev pub AreKnown : ℕ → List ℕ → Type 0
AreKnown n actors = All (λ actor. actor ≤ n) actors

-- a reading that has such actors, or none
abbrev pub ReadsKnown : ℕ → Result (List ℕ) ScheduleError → Type 0
ReadsKnown n reading = IfOk reading (AreKnown n)

known_range : (n first actors : ℕ) → first + actors ≤ n + 1 → AreKnown n (range_with_len first actors)
known_range n first zero fits = All-nil (λ actor. actor ≤ n)
known_range n first (suc actors) fits = All-cons (λ actor. actor ≤ n) first (range_with_len (first + 1) actors) (omega arith) (known_range n (first + 1) actors (omega arith))

known_repeated : (n count : ℕ) (actors : List ℕ) → AreKnown n actors → AreKnown n (repeated count actors)
known_repeated n zero actors known = All-nil (λ actor. actor ≤ n)
known_repeated n (suc count) actors known = All-append (λ actor. actor ≤ n) actors (repeated count actors) known (known_repeated n count actors known)

known_one : (n at number : ℕ) (fits : Bool) → nat_le number n ≡ fits → ReadsKnown n (if fits then Ok (number ∷ []) else Err (Actor at number))
known_one n at number true is = All-cons (λ actor. actor ≤ n) number [] (leb-true number n is) (All-nil (λ actor. actor ≤ n))
known_one n at number false is = tt

known_who : (n at : ℕ) (named : Who) → ReadsKnown n (who_reading n at named)
known_who n at who.All = known_range n 0 (n + 1) (omega arith)
known_who n at (who.One number) = known_one n at number (nat_le number n) refl

known_times : (n count : ℕ) (reading : Result (List ℕ) ScheduleError) → ReadsKnown n reading → ReadsKnown n (on_ok (λ actors. Ok (repeated count actors)) reading)
known_times n count (Ok actors) known = known_repeated n count actors known
known_times n count (Err error) known = tt

known_form : (n at : ℕ) (form : Option Item) → ReadsKnown n (form_reading n at form)
known_form n at None = tt
known_form n at (Some item) = known_times n item.count (who_reading n at item.who) (known_who n at item.who)

known_item : (n at : ℕ) (word : List ℕ) → ReadsKnown n (item_reading n at word)
unfolding item_reading
known_item n at word = known_form n at (item_of word)

known_joined : (n : ℕ) (reading later : Result (List ℕ) ScheduleError) → ReadsKnown n reading → ReadsKnown n later → ReadsKnown n (on_ok (λ actors. on_ok (λ more. Ok (actors ++ more)) later) reading)
known_joined n (Ok actors) (Ok more) known others = All-append (λ actor. actor ≤ n) actors more known others
known_joined n (Ok actors) (Err error) known others = tt
known_joined n (Err error) later known others = tt

known_all : (n : ℕ) (items : List (ℕ × List ℕ)) → ReadsKnown n (all_actors n items)
known_all n [] = All-nil (λ actor. actor ≤ n)
known_all n (item ∷ items) = known_joined n (item_reading n item.0 item.1) (all_actors n items) (known_item n item.0 item.1) (known_all n items)

known_few : (n : ℕ) (actors : List ℕ) (few : Bool) → AreKnown n actors → ReadsKnown n (if few then Ok actors else Err TooLong)
known_few n actors true known = known
known_few n actors false known = tt

known_within : (n : ℕ) (reading : Result (List ℕ) ScheduleError) → ReadsKnown n reading → ReadsKnown n (on_ok not_too_long reading)
known_within n (Ok actors) known = known_few n actors (nat_le (length actors) 4194304) known
known_within n (Err error) known = tt

known_schedule : (n : ℕ) (text : List ℕ) → ReadsKnown n (schedule_of n text)
unfolding schedule_of
known_schedule n text = known_within n (all_actors n (items_of text)) (known_all n (items_of text))

-- the actors of a text are all known
pub schedule_of-known : (n : ℕ) (text actors : List ℕ) → schedule_of n text ≡ Ok actors → AreKnown n actors
schedule_of-known n text actors is = IfOk-at_ok (AreKnown n) is (known_schedule n text)
