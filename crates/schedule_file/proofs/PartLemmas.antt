-- From one part of a schedule's text to the next.
use Rattle.std.proofs.Common.{◌≡◌, ℕ, suc, ◌+◌, ◌≤◌, ◌<◌, List, [], ◌∷◌, ◌++◌, length, get_or, drop, Option, None, Some, Result, Ok, Err, Bool, true, false, cond, nat_le, if◌then◌else◌, IfSome, IfOk, IfErr, ◌⊎◌, inl, inr, refl, ap, sym, ◌∙◌, arith, subst, append_assoc, append-nil, length-append}
use Rattle.std.proofs.lemmas.Bool.{leb-true, leb-false, le-leb, lt-leb}
use Rattle.std.proofs.lemmas.List.{drop_more, at_drop_all}
use Rattle.std.proofs.lemmas.List.Splits.{length-slice_split}
use Rattle.std.specs.List.{slice_split, onto_first}
use Rattle.std.specs.Option.{option_map, ok_or}
use Rattle.schedule_file.specs.declared.error.ScheduleError.{ScheduleError}
use Rattle.schedule_file.specs.declared.error.ScheduleError.TheVariants.{TooLong, NoMemory}
use Rattle.schedule_file.specs.Schedule.{on_ok, item_reading, all_actors, not_too_long, is_blank, schedule_of}
use Rattle.schedule_file.specs.Steps.{grown, kept, part_reading, ending, items_from, schedule_after, bytes_of_parts}

settled_by : (actors more : List ℕ) (few : Bool) → nat_le (length actors) 4194304 ≡ few → not_too_long (actors ++ more) ≡ ending (if few then Some actors else None) (Ok more)
settled_by actors more true is = refl
settled_by actors more false is =
    ap (λ few. if few then Ok (actors ++ more) else Err TooLong) (lt-leb (length (actors ++ more)) 4194304 (omega (arith, leb-false (length actors) 4194304 is, length-append actors more)))

-- too many actors stay too many with more after them
settled : (actors more : List ℕ) → not_too_long (actors ++ more) ≡ ending (kept actors) (Ok more)
settled actors more = settled_by actors more (nat_le (length actors) 4194304) refl

refused_by : (actors : List ℕ) (error : ScheduleError) (few : Bool) → Err error ≡ ending (if few then Some actors else None) (Err error)
refused_by actors error true = refl
refused_by actors error false = refl

-- the actors of an item are counted now or later
ending-grown : (listed : Option (List ℕ)) (some : List ℕ) (later : Result (List ℕ) ScheduleError) → ending listed (on_ok (λ more. Ok (some ++ more)) later) ≡ ending (grown listed some) later
ending-grown None some (Ok more) = refl
ending-grown None some (Err error) = refl
ending-grown (Some actors) some (Ok more) = ap not_too_long (sym (append_assoc actors some more)) ∙ settled (actors ++ some) more
ending-grown (Some actors) some (Err error) = refused_by (actors ++ some) error (nat_le (length (actors ++ some)) 4194304)

ending-item : (reading : Result (List ℕ) ScheduleError) (listed now : Option (List ℕ)) (later : Result (List ℕ) ScheduleError) → on_ok (λ more. Ok (grown listed more)) reading ≡ Ok now →
    ending listed (on_ok (λ actors. on_ok (λ more. Ok (actors ++ more)) later) reading) ≡ ending now later
ending-item (Ok some) listed now later is = let same : grown listed some ≡ now = cc in ending-grown listed some later ∙ ap (λ l. ending l later) same
ending-item (Err error) listed now later is = cc

ending-refused : (reading : Result (List ℕ) ScheduleError) (listed : Option (List ℕ)) (error : ScheduleError) (later : Result (List ℕ) ScheduleError) → on_ok (λ more. Ok (grown listed more)) reading ≡ Err error →
    ending listed (on_ok (λ actors. on_ok (λ more. Ok (actors ++ more)) later) reading) ≡ Err error
ending-refused (Ok some) listed error later is = cc
ending-refused (Err other) None error later is = let same : other ≡ error = cc in ap Err same
ending-refused (Err other) (Some actors) error later is = let same : other ≡ error = cc in ap Err same

-- a part that was read leaves the parts after it
pub schedule_after-part : (n at : ℕ) (part : List ℕ) (parts : List (List ℕ)) (listed now : Option (List ℕ)) → part_reading n at part listed ≡ Ok now →
    schedule_after n listed at (part ∷ parts) ≡ schedule_after n now (at + length part + 1) parts
unfolding schedule_after
schedule_after-part n at [] parts listed now is = let same : listed ≡ now = cc in ap (λ l. ending l (all_actors n (items_from (at + 0 + 1) parts))) same
schedule_after-part n at (byte ∷ bytes) parts listed now is = ending-item (item_reading n at (byte ∷ bytes)) listed now (all_actors n (items_from (at + length (byte ∷ bytes) + 1) parts)) is

-- a part that is refused refuses the text
pub schedule_after-refused : (n at : ℕ) (part : List ℕ) (parts : List (List ℕ)) (listed : Option (List ℕ)) (error : ScheduleError) → part_reading n at part listed ≡ Err error →
    schedule_after n listed at (part ∷ parts) ≡ Err error
unfolding schedule_after
schedule_after-refused n at [] parts listed error is = cc
schedule_after-refused n at (byte ∷ bytes) parts listed error is = ending-refused (item_reading n at (byte ∷ bytes)) listed error (all_actors n (items_from (at + length (byte ∷ bytes) + 1) parts)) is

-- at first no actor is known
pub schedule_after-start : (n : ℕ) (text : List ℕ) → schedule_after n (Some []) 0 (slice_split is_blank text) ≡ schedule_of n text
unfolding schedule_after schedule_of
schedule_after-start n text = refl

-- the actors so far are not too many
abbrev pub AreFew : Option (List ℕ) → Type 0
AreFew listed = IfSome listed (λ actors. length actors ≤ 4194304)

few_by : (actors : List ℕ) (few : Bool) → nat_le (length actors) 4194304 ≡ few → AreFew (if few then Some actors else None)
few_by actors true is = leb-true (length actors) 4194304 is
few_by actors false is = tt

few-grown : (listed : Option (List ℕ)) (some : List ℕ) → AreFew (grown listed some)
few-grown None some = tt
few-grown (Some actors) some = few_by (actors ++ some) (nat_le (length (actors ++ some)) 4194304) refl

few-item : (reading : Result (List ℕ) ScheduleError) (listed now : Option (List ℕ)) → on_ok (λ more. Ok (grown listed more)) reading ≡ Ok now → AreFew now
few-item (Ok some) listed now is = let same : grown listed some ≡ now = cc in subst AreFew same (few-grown listed some)
few-item (Err error) listed now is = absurd (let no : ⊥ = cc in no)

-- and stay so
pub few-part : (n at : ℕ) (part : List ℕ) (listed now : Option (List ℕ)) → part_reading n at part listed ≡ Ok now → AreFew listed → AreFew now
few-part n at [] listed now is few = let same : listed ≡ now = cc in subst AreFew same few
few-part n at (byte ∷ bytes) listed now is few = few-item (item_reading n at (byte ∷ bytes)) listed now is

-- at the end the actors so far are all
pub schedule_after-all : (n at : ℕ) (actors : List ℕ) → length actors ≤ 4194304 → schedule_after n (Some actors) at [] ≡ Ok actors
unfolding schedule_after
schedule_after-all n at actors few =
    ap not_too_long (append-nil actors) ∙ ap (λ b. if b then Ok actors else Err TooLong) (le-leb (length actors) 4194304 few)

pub schedule_after-too_long : (n at : ℕ) → schedule_after n None at [] ≡ Err TooLong
unfolding schedule_after
schedule_after-too_long n at = refl

bytes-onto_first : (byte : ℕ) (parts : List (List ℕ)) → 0 < length parts → bytes_of_parts (onto_first byte parts) ≡ bytes_of_parts parts + 1
bytes-onto_first byte [] some = absurd (omega arith)
bytes-onto_first byte (part ∷ parts) some = omega arith

bytes-cond : (byte : ℕ) (parts : List (List ℕ)) (size : ℕ) (blank : Bool) → 0 < length parts → bytes_of_parts parts ≡ size + 1 → bytes_of_parts (cond blank ([] ∷ parts) (onto_first byte parts)) ≡ suc size + 1
bytes-cond byte parts size true some is = omega arith
bytes-cond byte parts size false some is = omega (arith, bytes-onto_first byte parts some)

-- the parts of a text have all its bytes, with a blank between each two
pub bytes-slice_split : (p : ℕ → Bool) (text : List ℕ) → bytes_of_parts (slice_split p text) ≡ length text + 1
bytes-slice_split p [] = refl
bytes-slice_split p (byte ∷ bytes) = bytes-cond byte (slice_split p bytes) (length bytes) (p byte) (omega (arith, length-slice_split p bytes)) (bytes-slice_split p bytes)

-- the next part stands in front of those after it
part_at : (parts : List (List ℕ)) (place : ℕ) (part : List ℕ) → (place < length parts) × (part ≡ get_or parts place part) → drop place parts ≡ part ∷ drop (place + 1) parts
part_at parts place part is = drop_more parts place part is.0 ∙ ap (λ front. front ∷ drop (place + 1) parts) (sym is.1)

-- a loop over the parts: one part more was read
pub read_part : (n at : ℕ) (text part : List ℕ) (parts : List (List ℕ)) (listed now : Option (List ℕ)) (place next : ℕ) → next ≡ place + 1 →
    (place < length parts) × (part ≡ get_or parts place part) → part_reading n at part listed ≡ Ok now → schedule_after n listed at (drop place parts) ≡ schedule_of n text →
    schedule_after n now (at + (length part + 1)) (drop next parts) ≡ schedule_of n text
read_part n at text part parts listed now place next more is reading before =
    let end : at + (length part + 1) ≡ at + length part + 1 = omega arith in
    ap (λ k. schedule_after n now (at + (length part + 1)) (drop k parts)) more ∙ ap (λ b. schedule_after n now b (drop (place + 1) parts)) end
    ∙ sym (schedule_after-part n at part (drop (place + 1) parts) listed now reading) ∙ ap (schedule_after n listed at) (sym (part_at parts place part is)) ∙ before

-- the part that comes next was refused, or memory ran out
pub refused_part : (n at : ℕ) (text part : List ℕ) (parts : List (List ℕ)) (listed : Option (List ℕ)) (error : ScheduleError) (place : ℕ) →
    (place < length parts) × (part ≡ get_or parts place part) → schedule_after n listed at (drop place parts) ≡ schedule_of n text → (error ≡ NoMemory) ⊎ (part_reading n at part listed ≡ Err error) →
    (error ≡ NoMemory) ⊎ (schedule_of n text ≡ Err error)
refused_part n at text part parts listed error place is before (inl no_memory) = inl no_memory
refused_part n at text part parts listed error place is before (inr reading) =
    inr (sym before ∙ ap (schedule_after n listed at) (part_at parts place part is) ∙ schedule_after-refused n at part (drop (place + 1) parts) listed error reading)

-- the bytes of the part that comes next, and of those after it
pub bytes_at : (parts : List (List ℕ)) (place next : ℕ) (part : List ℕ) → next ≡ place + 1 → (place < length parts) × (part ≡ get_or parts place part) →
    bytes_of_parts (drop place parts) ≡ length part + 1 + bytes_of_parts (drop next parts)
bytes_at parts place next part more is = ap bytes_of_parts (part_at parts place part is) ∙ ap (λ k. length part + 1 + bytes_of_parts (drop k parts)) (sym more)

-- no part is left
read_all : (n at : ℕ) (text : List ℕ) (parts : List (List ℕ)) (actors : List ℕ) (place : ℕ) → length parts ≤ place → AreFew (Some actors) → schedule_after n (Some actors) at (drop place parts) ≡ schedule_of n text →
    schedule_of n text ≡ Ok actors
read_all n at text parts actors place all few before = sym before ∙ at_drop_all (schedule_after n (Some actors) at) parts place all ∙ schedule_after-all n at actors few

read_too_many : (n at : ℕ) (text : List ℕ) (parts : List (List ℕ)) (place : ℕ) → length parts ≤ place → schedule_after n None at (drop place parts) ≡ schedule_of n text → schedule_of n text ≡ Err TooLong
read_too_many n at text parts place all before = sym before ∙ at_drop_all (schedule_after n None at) parts place all ∙ schedule_after-too_long n at

-- the loop over the parts has ended
pub read_to_end : (n at : ℕ) (text : List ℕ) (parts : List (List ℕ)) (listed : Option (List ℕ)) (place : ℕ) → place ≡ length parts → AreFew listed → schedule_after n listed at (drop place parts) ≡ schedule_of n text →
    schedule_of n text ≡ ok_or listed TooLong
read_to_end n at text parts (Some actors) place all few before = read_all n at text parts actors place (omega arith) few before
read_to_end n at text parts None place all few before = read_too_many n at text parts place (omega arith) before

-- what the end of the loop answers, where a value shows its actors
pub read_by : {V : Type 0} (shown : V → List ℕ) (listed : Option V) (reading : Result (List ℕ) ScheduleError) → reading ≡ ok_or (option_map shown listed) TooLong → IfOk (ok_or listed TooLong) (λ v. reading ≡ Ok (shown v))
read_by shown (Some v) reading is = is
read_by shown None reading is = tt

pub refused_by_end : {V : Type 0} (shown : V → List ℕ) (listed : Option V) (reading : Result (List ℕ) ScheduleError) → reading ≡ ok_or (option_map shown listed) TooLong →
    IfErr (ok_or listed TooLong) (λ error. (error ≡ NoMemory) ⊎ (reading ≡ Err error))
refused_by_end shown (Some v) reading is = tt
refused_by_end shown None reading is = inr is
