-- The fields of a label: names, and lists of handlers.
use Rattle.std.proofs.Common.{◌≡◌, ℕ, zero, suc, ◌^◌, ◌<◌, ◌≤◌, Bool, true, false, ◌&&◌, nat_lt, All, List, [], ◌∷◌, inl, ◌%◌, length, Option, Some, None, Result, Ok, Err, IsOk, ◌↔◌, IfSome, option_map, codes, refl, ap, sym, subst, ◌∙◌, if◌then◌else◌, arith}
use Rattle.std.specs.Int.{w128, from_be_bytes, to_be_bytes, bytes_high_first, byte_at}
use Rattle.std.specs.List.{list_all}
use Rattle.std.specs.Str.{bytes_eq}
use Rattle.std.proofs.lemmas.Bool.{and_from, and_parts, ltb-true, lt-ltb, false_from_ne_true}
use Rattle.std.proofs.lemmas.Bool.Decides.{nat_tests}
use Rattle.std.proofs.lemmas.List.Elements.{All-nil, All-cons}
use Rattle.std.proofs.lemmas.List.Folds.{list_all-append}
use Rattle.std.proofs.lemmas.Slice.Eq.{bytes_eq-Decides}
use Rattle.uuid.specs.Text.{lower, by_index, hyphen, hex_digit, nibble, digit_place, is_hyphen_place, parsed}
use Rattle.uuid.proofs.OrderLemmas.{from_be_bytes-to_be_bytes_16}
use Rattle.uuid.proofs.RoundTrips.{parses_hyphenated}
use Rattle.uuid.proofs.TextLemmas.{by_index_length, nibble_small}
use Rattle.smm_base.specs.Kinds.{after_text, after_named, guid_text, type_text}
use Rattle.smm_base.specs.Register.{register_text, register_named, registers}
use Rattle.smm_base.specs.Status.{status_text, status_named}
use Rattle.smm_base.specs.declared.kinds.After.{After}
use Rattle.smm_base.specs.declared.kinds.After.TheVariants.{Halt}
use Rattle.smm_base.specs.declared.kinds.HandlerType.{HandlerType}
use Rattle.smm_base.specs.declared.kinds.HandlerType.TheVariants.{Root, Typed}
use Rattle.smm_base.specs.declared.kinds.TheConstants.{WAYS_ON}
use Rattle.smm_base.specs.declared.registers.Register.{Register}
use Rattle.smm_base.specs.declared.registers.Register.TheVariants.{GdtBase}
use Rattle.smm_base.specs.declared.status.Status.{Status}
use Rattle.smm_base.specs.declared.status.Status.TheVariants.{Success}
use Rattle.smm_base.specs.declared.status.TheConstants.{STATUSES}
use Rattle.smm_base.proofs.Names.{found_has_name}
use Rattle.sync_words.specs.Texts.{cause_text, cause_named}
use Rattle.sync_words.specs.declared.label.StartRefusal.{StartRefusal}
use Rattle.sync_words.specs.declared.label.StartRefusal.TheVariants.{OutOfRange}
use Rattle.sync_words.specs.declared.label.TheConstants.{CAUSES}
use Rattle.trace_text.specs.Readings.{tested, spells_guid, guid_of, kind_of}
use Rattle.trace_text.specs.Spelling.{IsKind}
use Rattle.trace_text.proofs.Bytes.{is_field_byte, Within}
use Rattle.trace_text.proofs.Spells.{Spells, word_case, tested_some, tested_gives, map_some}

-- each value has its name
abbrev pub Any : {V : Type 0} → V → Type 0
Any v = Unit {0}

found_said : {V : Type 0} (name : V → List ℕ) (o : Option V) (w : List ℕ) (v : V) → IfSome o (λ x. name x ≡ w) → o ≡ Some v → Unit {0} × (w ≡ name v)
found_said name o w v has is = (tt, sym (subst (λ o. IfSome o (λ x. name x ≡ w)) is has))

status_gives : (status : Status) → status_named (status_text status) ≡ Some status
status_gives Success = refl
status_gives _ = refl

pub status_spells : Spells Any status_text status_named
status_spells = record { said = λ w v is. found_said status_text (status_named w) w v (found_has_name status_text w STATUSES) is; gives = λ v fit. status_gives v }

register_gives : (register : Register) → register_named (register_text register) ≡ Some register
register_gives GdtBase = refl
register_gives _ = refl

pub register_spells : Spells Any register_text register_named
register_spells = record { said = λ w v is. found_said register_text (register_named w) w v (found_has_name register_text w registers) is; gives = λ v fit. register_gives v }

cause_gives : (cause : StartRefusal) → cause_named (cause_text cause) ≡ Some cause
cause_gives OutOfRange = refl
cause_gives _ = refl

pub cause_spells : Spells Any cause_text cause_named
cause_spells = record { said = λ w v is. found_said cause_text (cause_named w) w v (found_has_name cause_text w CAUSES) is; gives = λ v fit. cause_gives v }

after_gives : (after : After) → after_named (after_text after) ≡ Some after
after_gives Halt = refl
after_gives _ = refl

pub after_spells : Spells Any after_text after_named
after_spells = record { said = λ w v is. found_said after_text (after_named w) w v (found_has_name after_text w WAYS_ON) is; gives = λ v fit. after_gives v }

-- the bytes of a name, and their number
status_bytes : (status : Status) → list_all is_field_byte (status_text status) ≡ true
status_bytes Success = refl
status_bytes _ = refl

status_few : (status : Status) → length (status_text status) ≤ 17
status_few Success = omega arith
status_few _ = omega arith

pub status_within : (status : Status) → Within is_field_byte 17 (status_text status)
status_within status = record { bytes = status_bytes status; few = status_few status }

register_bytes : (register : Register) → list_all is_field_byte (register_text register) ≡ true
register_bytes GdtBase = refl
register_bytes _ = refl

register_few : (register : Register) → length (register_text register) ≤ 12
register_few GdtBase = omega arith
register_few _ = omega arith

pub register_within : (register : Register) → Within is_field_byte 12 (register_text register)
register_within register = record { bytes = register_bytes register; few = register_few register }

cause_bytes : (cause : StartRefusal) → list_all is_field_byte (cause_text cause) ≡ true
cause_bytes OutOfRange = refl
cause_bytes _ = refl

cause_few : (cause : StartRefusal) → length (cause_text cause) ≤ 7
cause_few OutOfRange = omega arith
cause_few _ = omega arith

pub cause_within : (cause : StartRefusal) → Within is_field_byte 7 (cause_text cause)
cause_within cause = record { bytes = cause_bytes cause; few = cause_few cause }

after_bytes : (after : After) → list_all is_field_byte (after_text after) ≡ true
after_bytes Halt = refl
after_bytes _ = refl

after_few : (after : After) → length (after_text after) ≤ 5
after_few Halt = omega arith
after_few _ = omega arith

pub after_within : (after : After) → Within is_field_byte 5 (after_text after)
after_within after = record { bytes = after_bytes after; few = after_few after }

-- GUIDs
small_rest : (n : ℕ) → n % 256 < 256
small_rest n = omega arith

byte_small : (k n : ℕ) → byte_at k n < 256
byte_small zero n = small_rest n
byte_small (suc k) n = small_rest _

bytes_count : (k n : ℕ) → length (bytes_high_first k n) ≡ k
bytes_count zero n = refl
bytes_count (suc k) n = ap suc (bytes_count k n)

bytes_small : (k n : ℕ) → All (λ b. b < 256) (bytes_high_first k n)
bytes_small zero n = All-nil (λ b. b < 256)
bytes_small (suc k) n = All-cons (λ b. b < 256) (byte_at k n) (bytes_high_first k n) (byte_small k n) (bytes_small k n)

guid_said : (w : List ℕ) (guid : ℕ) → guid_of w ≡ Some guid → (guid < 2 ^ 128) × (w ≡ guid_text guid)
unfolding guid_of
guid_said w guid is =
    let (reads, passes) = tested_some (spells_guid w) (option_map (from_be_bytes w128) (parsed w)) guid is in
    let (small, same) = and_parts (nat_lt guid (2 ^ 128)) (bytes_eq (guid_text guid) w) passes in
    (ltb-true guid (2 ^ 128) small, sym ((bytes_eq-Decides (guid_text guid) w).0 same))

guid_gives : (guid : ℕ) → guid < 2 ^ 128 → guid_of (guid_text guid) ≡ Some guid
unfolding guid_of
guid_gives guid small =
    let bytes = to_be_bytes w128 guid in
    let reads : Some bytes ≡ parsed (guid_text guid) = parses_hyphenated lower bytes (inl refl) (bytes_count 16 guid) (bytes_small 16 guid) in
    let value : option_map (from_be_bytes w128) (parsed (guid_text guid)) ≡ Some guid = ap (option_map (from_be_bytes w128)) (sym reads) ∙ ap Some (from_be_bytes-to_be_bytes_16 guid small) in
    tested_gives (spells_guid (guid_text guid)) (option_map (from_be_bytes w128) (parsed (guid_text guid))) guid value
    (and_from (nat_lt guid (2 ^ 128)) (bytes_eq (guid_text guid) (guid_text guid)) (lt-ltb guid (2 ^ 128) small) ((bytes_eq-Decides (guid_text guid) (guid_text guid)).1 refl))

hex_is_field : (d : ℕ) → d < 16 → is_field_byte (hex_digit lower d) ≡ true
hex_is_field d small = grind (arith, nat_tests)

place_is_field : (bytes : List ℕ) (k : ℕ) (at_hyphen : Bool) → is_field_byte (if at_hyphen then hyphen else hex_digit lower (nibble bytes (digit_place k))) ≡ true
place_is_field bytes k true = refl
place_is_field bytes k false = hex_is_field (nibble bytes (digit_place k)) (nibble_small bytes (digit_place k))

by_index_all : (test : ℕ → Bool) (n : ℕ) (f : ℕ → ℕ) → ((k : ℕ) → test (f k) ≡ true) → list_all test (by_index n f) ≡ true
unfolding by_index
by_index_all test zero f all = refl
by_index_all test (suc n) f all = list_all-append test (by_index n f) (f n ∷ []) ∙ and_from (list_all test (by_index n f)) (test (f n) && true) (by_index_all test n f all) (and_from (test (f n)) true (all n) refl)

pub guid_within : (guid : ℕ) → Within is_field_byte 36 (guid_text guid)
guid_within guid = record {
  bytes = by_index_all is_field_byte 36 _ (λ k. place_is_field (to_be_bytes w128 guid) k (is_hyphen_place k));
  few = omega (arith, by_index_length 36 (λ k. if is_hyphen_place k then hyphen else hex_digit lower (nibble (to_be_bytes w128 guid) (digit_place k))));
}

-- lists of handlers
kind_said : (w : List ℕ) (kind : HandlerType) → kind_of w ≡ Some kind → IsKind kind × (w ≡ type_text kind)
kind_said w kind is =
    word_case w (codes "root") Root kind (option_map Typed (guid_of w)) (λ k. IsKind k × (w ≡ type_text k)) is (λ e. (tt, e)) (λ is.
    map_some Typed (guid_of w) kind is (λ guid reads same. subst (λ k. IsKind k × (w ≡ type_text k)) same (guid_said w guid reads)))

not_root : (guid : ℕ) → bytes_eq (guid_text guid) (codes "root") ≡ false
not_root guid = false_from_ne_true _ (λ same. absurd (omega (arith, by_index_length 36 (λ k. if is_hyphen_place k then hyphen else hex_digit lower (nibble (to_be_bytes w128 guid) (digit_place k))), ap length ((bytes_eq-Decides (guid_text guid) (codes "root")).0 same))))

kind_gives : (kind : HandlerType) → IsKind kind → kind_of (type_text kind) ≡ Some kind
kind_gives Root fit = refl
kind_gives (Typed guid) fit = ap (λ b. if b then Some Root else option_map Typed (guid_of (guid_text guid))) (not_root guid) ∙ ap (option_map Typed) (guid_gives guid fit)

pub kind_spells : Spells IsKind type_text kind_of
kind_spells = record { said = kind_said; gives = kind_gives }

pub kind_within : (kind : HandlerType) → Within is_field_byte 36 (type_text kind)
kind_within Root = record { bytes = refl; few = omega arith }
kind_within (Typed guid) = guid_within guid

-- a text that is refused is none
pub none_where_refused : {T E : Type 0} (r : Result T E) (e : E) (o : Option (List ℕ)) → r ≡ Err e → (IsOk r ↔ ((u : List ℕ) × (o ≡ Some u))) → o ≡ None
none_where_refused r e None is ok = refl
none_where_refused r e (Some u) is ok = absurd (refused r e is (ok.1 (u, refl))) where
  refused : {T E : Type 0} (r : Result T E) (e : E) → r ≡ Err e → IsOk r → ⊥
  refused (Ok x) e is ok = cc
  refused (Err f) e is ok = cc

-- what is printed again
pub spells_by : (guid : ℕ) (text : List ℕ) (same : Bool) → guid < 2 ^ 128 → same ≡ bytes_eq (guid_text guid) text → same ≡ spells_guid text guid
spells_by guid text same small is = is ∙ sym (ap (λ b. b && bytes_eq (guid_text guid) text) (lt-ltb guid (2 ^ 128) small))

-- the three ways to go on from a GUID that was parsed
pub guid_some : (text : List ℕ) (guid : ℕ) → Some guid ≡ option_map (from_be_bytes w128) (parsed text) → true ≡ spells_guid text guid → Some guid ≡ guid_of text
unfolding guid_of
guid_some text guid is passes = sym (tested_gives (spells_guid text) (option_map (from_be_bytes w128) (parsed text)) guid (sym is) (sym passes))

pub guid_other : (text : List ℕ) (guid : ℕ) → Some guid ≡ option_map (from_be_bytes w128) (parsed text) → false ≡ spells_guid text guid → None ≡ guid_of text
unfolding guid_of
guid_other text guid is fails = sym (ap (tested (spells_guid text)) (sym is) ∙ ap (λ b. if b then Some guid else None) (sym fails))

pub guid_none : (text : List ℕ) → None ≡ option_map (from_be_bytes w128) (parsed text) → None ≡ guid_of text
unfolding guid_of
guid_none text is = ap (tested (spells_guid text)) is
