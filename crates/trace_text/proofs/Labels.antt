-- Labels.
use Rattle.std.proofs.Common.{◌≡◌, ℕ, ◌^◌, ◌<◌, not, ◌&&◌, ◌==◌, nat_le, List, [], ◌∷◌, ◌++◌, Option, Some, None, option_map, codes, decimal, refl, ap, sym, subst, le-leb, leb-true, arith}
use Rattle.std.proofs.lemmas.Bool.{and_parts, and_from}
use Rattle.std.proofs.lemmas.Option.{none-some}
use Rattle.smm_base.specs.Kinds.{after_text, after_named, type_text}
use Rattle.smm_base.specs.Register.{register_text, register_named}
use Rattle.smm_base.specs.Status.{status_text, status_named}
use Rattle.smm_base.specs.declared.registers.Register.{Register as RegisterName}
use Rattle.sync_words.specs.Texts.{colon, cause_text, cause_named, label_text}
use Rattle.sync_words.specs.declared.label.Label.{Label}
use Rattle.sync_words.specs.declared.label.Label.TheVariants.{Silent, Excepted, Wave, Enter, Turn, Arrive, Late, Elect, Served, Gather, Ready, Expire, Quit, Report, Close, Begin, Manage, Deep, Call, Return, Answer, Set, Read, Write, Check, Wait, Alloc, Free, Register, Unregister, Refuse, Start, Run, Collect, Spent, Done, Release, Depart, End, Resume, Off}
use Rattle.trace_text.specs.Readings.{split_first, pair_at, small, middle, wide, kind_of, round_of, variable_of, bare_label, service_label, procedure_label, walk_label, session_label, label_by, label_of}
use Rattle.trace_text.specs.Spelling.{IsKind, IsRound, IsVariable, IsLabel}
use Rattle.trace_text.proofs.Accesses.{colon_free, meet}
use Rattle.trace_text.proofs.Bytes.{is_field_byte, is_word_byte, Within, all_weaker, decimal_within, small_within, middle_within, wide_within, spelled_within}
use Rattle.trace_text.proofs.Fields.{Any, status_spells, register_spells, cause_spells, after_spells, kind_spells, status_within, register_within, cause_within, after_within, kind_within}
use Rattle.trace_text.proofs.Numbers.{number_spells, below_spells}
use Rattle.trace_text.proofs.Spells.{Spells, word_case, fields_case, trailing, pairs, refitted, spells_tested}
use Rattle.trace_text.proofs.Splits.{Lacks, split_whole}

abbrev IsSmall : ℕ → Type 0
IsSmall n = n < 2 ^ 16

abbrev IsMiddle : ℕ → Type 0
IsMiddle n = n < 2 ^ 32

abbrev IsWide : ℕ → Type 0
IsWide n = n < 2 ^ 64

small_spells : Spells IsSmall decimal small
small_spells = below_spells (2 ^ 16) (omega arith)

pub middle_spells : Spells IsMiddle decimal middle
middle_spells = below_spells (2 ^ 32) (omega arith)

wide_spells : Spells IsWide decimal wide
wide_spells = number_spells

round_spells : Spells IsRound decimal round_of
round_spells = refitted (spells_tested (λ round. nat_le 1 round && nat_le round 2) middle_spells)
    (λ n fit. let (low, high) = and_parts (nat_le 1 n) (nat_le n 2) fit.1 in (leb-true 1 n low, leb-true n 2 high))
    (λ n is. (omega (arith, is.1), and_from (nat_le 1 n) (nat_le n 2) (le-leb 1 n is.0) (le-leb n 2 is.1)))

variable_spells : Spells IsVariable decimal variable_of
variable_spells = refitted (spells_tested (λ variable. nat_le variable 7) (below_spells (2 ^ 8) (omega arith))) (λ n fit. leb-true n 7 fit.1) (λ n is. (omega (arith, is), le-leb n 7 is))

round_within : (n : ℕ) → IsRound n → Within is_field_byte 1 (decimal n)
round_within n is = decimal_within 1 n (omega arith) (omega (arith, is.1)) (omega (arith, is.1))

variable_within : (n : ℕ) → IsVariable n → Within is_field_byte 1 (decimal n)
variable_within n is = decimal_within 1 n (omega arith) (omega (arith, is)) (omega (arith, is))

lacks_of : (k : ℕ) (w : List ℕ) → Within is_field_byte k w → Lacks colon w
lacks_of k w within = all_weaker is_field_byte (λ b. not (b == colon)) colon_free w within.bytes

lacks_small : (n : ℕ) → IsSmall n → Lacks colon (decimal n)
lacks_small n is = lacks_of 5 (decimal n) (small_within n is)

lacks_middle : (n : ℕ) → IsMiddle n → Lacks colon (decimal n)
lacks_middle n is = lacks_of 10 (decimal n) (middle_within n is)

lacks_wide : (n : ℕ) → IsWide n → Lacks colon (decimal n)
lacks_wide n is = lacks_of 20 (decimal n) (wide_within n is)

lacks_variable : (n : ℕ) → IsVariable n → Lacks colon (decimal n)
lacks_variable n is = lacks_of 1 (decimal n) (variable_within n is)

lacks_register : (register : RegisterName) → Any register → Lacks colon (register_text register)
lacks_register register is = lacks_of 12 (register_text register) (register_within register)

-- the fields of labels
u64_last : Spells IsWide (λ p. decimal p ++ []) wide
u64_last = trailing wide_spells

variable_u64_spells : Spells (λ p. IsVariable p.0 × (IsWide p.1)) (λ p. decimal p.0 ++ colon ∷ (decimal p.1 ++ [])) (pair_at colon variable_of wide)
variable_u64_spells = pairs colon lacks_variable variable_spells u64_last

status_last : Spells Any (λ p. status_text p ++ []) status_named
status_last = trailing status_spells

u64_status_spells : Spells (λ p. IsWide p.0 × (Any p.1)) (λ p. decimal p.0 ++ colon ∷ (status_text p.1 ++ [])) (pair_at colon wide status_named)
u64_status_spells = pairs colon lacks_wide wide_spells status_last

u32_u64_status_spells : Spells (λ p. IsMiddle p.0 × (IsWide p.1.0 × (Any p.1.1))) (λ p. decimal p.0 ++ colon ∷ (decimal p.1.0 ++ colon ∷ (status_text p.1.1 ++ []))) (pair_at colon middle (pair_at colon wide status_named))
u32_u64_status_spells = pairs colon lacks_middle middle_spells u64_status_spells

register_u32_u64_status_spells : Spells (λ p. Any p.0 × (IsMiddle p.1.0 × (IsWide p.1.1.0 × (Any p.1.1.1)))) (λ p. register_text p.0 ++ colon ∷ (decimal p.1.0 ++ colon ∷ (decimal p.1.1.0 ++ colon ∷ (status_text p.1.1.1 ++ [])))) (pair_at colon register_named (pair_at colon middle (pair_at colon wide status_named)))
register_u32_u64_status_spells = pairs colon lacks_register register_spells u32_u64_status_spells

u16_register_u32_u64_status_spells : Spells (λ p. IsSmall p.0 × (Any p.1.0 × (IsMiddle p.1.1.0 × (IsWide p.1.1.1.0 × (Any p.1.1.1.1))))) (λ p. decimal p.0 ++ colon ∷ (register_text p.1.0 ++ colon ∷ (decimal p.1.1.0 ++ colon ∷ (decimal p.1.1.1.0 ++ colon ∷ (status_text p.1.1.1.1 ++ []))))) (pair_at colon small (pair_at colon register_named (pair_at colon middle (pair_at colon wide status_named))))
u16_register_u32_u64_status_spells = pairs colon lacks_small small_spells register_u32_u64_status_spells

u64_u64_status_spells : Spells (λ p. IsWide p.0 × (IsWide p.1.0 × (Any p.1.1))) (λ p. decimal p.0 ++ colon ∷ (decimal p.1.0 ++ colon ∷ (status_text p.1.1 ++ []))) (pair_at colon wide (pair_at colon wide status_named))
u64_u64_status_spells = pairs colon lacks_wide wide_spells u64_status_spells

u32_status_spells : Spells (λ p. IsMiddle p.0 × (Any p.1)) (λ p. decimal p.0 ++ colon ∷ (status_text p.1 ++ [])) (pair_at colon middle status_named)
u32_status_spells = pairs colon lacks_middle middle_spells status_last

u16_u32_status_spells : Spells (λ p. IsSmall p.0 × (IsMiddle p.1.0 × (Any p.1.1))) (λ p. decimal p.0 ++ colon ∷ (decimal p.1.0 ++ colon ∷ (status_text p.1.1 ++ []))) (pair_at colon small (pair_at colon middle status_named))
u16_u32_status_spells = pairs colon lacks_small small_spells u32_status_spells

cause_last : Spells Any (λ p. cause_text p ++ []) cause_named
cause_last = trailing cause_spells

u16_cause_spells : Spells (λ p. IsSmall p.0 × (Any p.1)) (λ p. decimal p.0 ++ colon ∷ (cause_text p.1 ++ [])) (pair_at colon small cause_named)
u16_cause_spells = pairs colon lacks_small small_spells cause_last

u16_u64_spells : Spells (λ p. IsSmall p.0 × (IsWide p.1)) (λ p. decimal p.0 ++ colon ∷ (decimal p.1 ++ [])) (pair_at colon small wide)
u16_u64_spells = pairs colon lacks_small small_spells u64_last

u32_u16_u64_spells : Spells (λ p. IsMiddle p.0 × (IsSmall p.1.0 × (IsWide p.1.1))) (λ p. decimal p.0 ++ colon ∷ (decimal p.1.0 ++ colon ∷ (decimal p.1.1 ++ []))) (pair_at colon middle (pair_at colon small wide))
u32_u16_u64_spells = pairs colon lacks_middle middle_spells u16_u64_spells

u16_u32_u16_u64_spells : Spells (λ p. IsSmall p.0 × (IsMiddle p.1.0 × (IsSmall p.1.1.0 × (IsWide p.1.1.1)))) (λ p. decimal p.0 ++ colon ∷ (decimal p.1.0 ++ colon ∷ (decimal p.1.1.0 ++ colon ∷ (decimal p.1.1.1 ++ [])))) (pair_at colon small (pair_at colon middle (pair_at colon small wide)))
u16_u32_u16_u64_spells = pairs colon lacks_small small_spells u32_u16_u64_spells

u16_last : Spells IsSmall (λ p. decimal p ++ []) small
u16_last = trailing small_spells

u32_last : Spells IsMiddle (λ p. decimal p ++ []) middle
u32_last = trailing middle_spells

kind_last : Spells IsKind (λ p. type_text p ++ []) kind_of
kind_last = trailing kind_spells

u16_status_spells : Spells (λ p. IsSmall p.0 × (Any p.1)) (λ p. decimal p.0 ++ colon ∷ (status_text p.1 ++ [])) (pair_at colon small status_named)
u16_status_spells = pairs colon lacks_small small_spells status_last

round_last : Spells IsRound (λ p. decimal p ++ []) round_of
round_last = trailing round_spells

after_last : Spells Any (λ p. after_text p ++ []) after_named
after_last = trailing after_spells

-- what is read has its text
abbrev IsLabelOf : List ℕ → Label → Type 0
IsLabelOf text label = IsLabel label × (text ≡ label_text label)

bare_said : (text : List ℕ) (label : Label) → bare_label text ≡ Some label → IsLabelOf text label
bare_said text label is =
    word_case text (codes "-") Silent label _ (IsLabelOf text) is (λ e. (tt, e)) (λ is.
    word_case text (codes "enter") Enter label _ (IsLabelOf text) is (λ e. (tt, e)) (λ is.
    word_case text (codes "turn") Turn label _ (IsLabelOf text) is (λ e. (tt, e)) (λ is.
    word_case text (codes "arrive") Arrive label _ (IsLabelOf text) is (λ e. (tt, e)) (λ is.
    word_case text (codes "late") Late label _ (IsLabelOf text) is (λ e. (tt, e)) (λ is.
    word_case text (codes "elect") Elect label _ (IsLabelOf text) is (λ e. (tt, e)) (λ is.
    word_case text (codes "quit") Quit label _ (IsLabelOf text) is (λ e. (tt, e)) (λ is.
    word_case text (codes "report") Report label _ (IsLabelOf text) is (λ e. (tt, e)) (λ is.
    word_case text (codes "spent") Spent label _ (IsLabelOf text) is (λ e. (tt, e)) (λ is.
    word_case text (codes "done") Done label _ (IsLabelOf text) is (λ e. (tt, e)) (λ is.
    word_case text (codes "depart") Depart label _ (IsLabelOf text) is (λ e. (tt, e)) (λ is.
    word_case text (codes "end") End label _ (IsLabelOf text) is (λ e. (tt, e)) (λ is.
    word_case text (codes "off") Off label None (IsLabelOf text) is (λ e. (tt, e)) (λ is. absurd (none-some label is))))))))))))))

service_said : (word fields : List ℕ) (label : Label) → service_label word fields ≡ Some label → IsLabelOf (word ++ colon ∷ fields) label
service_said word fields label is =
    fields_case word (codes "set") fields (λ fields. Set fields.0 fields.1) label _ (IsLabelOf (word ++ colon ∷ fields)) variable_u64_spells is (λ v fit a b. ((fit.0, fit.1), meet a b)) (λ is.
    fields_case word (codes "read") fields (λ fields. Read fields.0 fields.1.0 fields.1.1.0 fields.1.1.1.0 fields.1.1.1.1) label _ (IsLabelOf (word ++ colon ∷ fields)) u16_register_u32_u64_status_spells is (λ v fit a b. ((fit.0, fit.1.1.0, fit.1.1.1.0), meet a b)) (λ is.
    fields_case word (codes "write") fields (λ fields. Write fields.0 fields.1.0 fields.1.1.0 fields.1.1.1.0 fields.1.1.1.1) label _ (IsLabelOf (word ++ colon ∷ fields)) u16_register_u32_u64_status_spells is (λ v fit a b. ((fit.0, fit.1.1.0, fit.1.1.1.0), meet a b)) (λ is.
    fields_case word (codes "alloc") fields (λ fields. Alloc fields.0 fields.1.0 fields.1.1) label _ (IsLabelOf (word ++ colon ∷ fields)) u64_u64_status_spells is (λ v fit a b. ((fit.0, fit.1.0), meet a b)) (λ is.
    fields_case word (codes "free") fields (λ fields. Free fields.0 fields.1) label _ (IsLabelOf (word ++ colon ∷ fields)) u64_status_spells is (λ v fit a b. (fit.0, meet a b)) (λ is.
    fields_case word (codes "register") fields (λ fields. Register fields.0 fields.1.0 fields.1.1) label _ (IsLabelOf (word ++ colon ∷ fields)) u16_u32_status_spells is (λ v fit a b. ((fit.0, fit.1.0), meet a b)) (λ is.
    fields_case word (codes "unregister") fields (λ fields. Unregister fields.0 fields.1) label None (IsLabelOf (word ++ colon ∷ fields)) u64_status_spells is (λ v fit a b. (fit.0, meet a b)) (λ is. absurd (none-some label is))))))))

procedure_said : (word fields : List ℕ) (label : Label) → procedure_label word fields ≡ Some label → IsLabelOf (word ++ colon ∷ fields) label
procedure_said word fields label is =
    fields_case word (codes "check") fields (λ fields. Check fields.0 fields.1) label _ (IsLabelOf (word ++ colon ∷ fields)) u64_status_spells is (λ v fit a b. (fit.0, meet a b)) (λ is.
    fields_case word (codes "wait") fields (λ fields. Wait fields.0 fields.1.0 fields.1.1) label _ (IsLabelOf (word ++ colon ∷ fields)) u64_u64_status_spells is (λ v fit a b. ((fit.0, fit.1.0), meet a b)) (λ is.
    fields_case word (codes "refuse") fields (λ fields. Refuse fields.0 fields.1) label _ (IsLabelOf (word ++ colon ∷ fields)) u16_cause_spells is (λ v fit a b. (fit.0, meet a b)) (λ is.
    fields_case word (codes "start") fields (λ fields. Start fields.0 fields.1.0 fields.1.1.0 fields.1.1.1) label _ (IsLabelOf (word ++ colon ∷ fields)) u16_u32_u16_u64_spells is (λ v fit a b. ((fit.0, fit.1.0, fit.1.1.0, fit.1.1.1), meet a b)) (λ is.
    fields_case word (codes "run") fields (λ fields. Run fields.0 fields.1.0 fields.1.1) label _ (IsLabelOf (word ++ colon ∷ fields)) u32_u64_status_spells is (λ v fit a b. ((fit.0, fit.1.0), meet a b)) (λ is.
    fields_case word (codes "collect") fields Collect label (service_label word fields) (IsLabelOf (word ++ colon ∷ fields)) u16_last is (λ v fit a b. (fit, meet a b)) (service_said word fields label))))))

walk_said : (word fields : List ℕ) (label : Label) → walk_label word fields ≡ Some label → IsLabelOf (word ++ colon ∷ fields) label
walk_said word fields label is =
    fields_case word (codes "begin") fields Begin label _ (IsLabelOf (word ++ colon ∷ fields)) u32_last is (λ v fit a b. (fit, meet a b)) (λ is.
    fields_case word (codes "manage") fields Manage label _ (IsLabelOf (word ++ colon ∷ fields)) kind_last is (λ v fit a b. (fit, meet a b)) (λ is.
    fields_case word (codes "deep") fields Deep label _ (IsLabelOf (word ++ colon ∷ fields)) kind_last is (λ v fit a b. (fit, meet a b)) (λ is.
    fields_case word (codes "call") fields Call label _ (IsLabelOf (word ++ colon ∷ fields)) u16_last is (λ v fit a b. (fit, meet a b)) (λ is.
    fields_case word (codes "return") fields (λ fields. Return fields.0 fields.1) label _ (IsLabelOf (word ++ colon ∷ fields)) u16_status_spells is (λ v fit a b. (fit.0, meet a b)) (λ is.
    fields_case word (codes "answer") fields Answer label (procedure_label word fields) (IsLabelOf (word ++ colon ∷ fields)) status_last is (λ v fit a b. (tt, meet a b)) (procedure_said word fields label))))))

session_said : (word fields : List ℕ) (label : Label) → session_label word fields ≡ Some label → IsLabelOf (word ++ colon ∷ fields) label
session_said word fields label is =
    fields_case word (codes "excepted") fields Excepted label _ (IsLabelOf (word ++ colon ∷ fields)) u32_last is (λ v fit a b. (fit, meet a b)) (λ is.
    fields_case word (codes "wave") fields Wave label _ (IsLabelOf (word ++ colon ∷ fields)) u32_last is (λ v fit a b. (fit, meet a b)) (λ is.
    fields_case word (codes "served") fields Served label _ (IsLabelOf (word ++ colon ∷ fields)) u32_last is (λ v fit a b. (fit, meet a b)) (λ is.
    fields_case word (codes "gather") fields Gather label _ (IsLabelOf (word ++ colon ∷ fields)) u32_last is (λ v fit a b. (fit, meet a b)) (λ is.
    fields_case word (codes "ready") fields Ready label _ (IsLabelOf (word ++ colon ∷ fields)) u32_last is (λ v fit a b. (fit, meet a b)) (λ is.
    fields_case word (codes "expire") fields Expire label _ (IsLabelOf (word ++ colon ∷ fields)) round_last is (λ v fit a b. (fit, meet a b)) (λ is.
    fields_case word (codes "close") fields Close label _ (IsLabelOf (word ++ colon ∷ fields)) u32_last is (λ v fit a b. (fit, meet a b)) (λ is.
    fields_case word (codes "release") fields Release label _ (IsLabelOf (word ++ colon ∷ fields)) u16_last is (λ v fit a b. (fit, meet a b)) (λ is.
    fields_case word (codes "resume") fields Resume label (walk_label word fields) (IsLabelOf (word ++ colon ∷ fields)) after_last is (λ v fit a b. (tt, meet a b)) (walk_said word fields label)))))))))

label_said_by : (text : List ℕ) (o : Option (List ℕ × List ℕ)) (label : Label) → split_first colon text ≡ o → label_by text o ≡ Some label → IsLabelOf text label
label_said_by text None label split is = bare_said text label is
label_said_by text (Some (word, fields)) label split is =
    subst (λ t. IsLabelOf t label) (sym (split_whole colon text word fields split)) (session_said word fields label is)

-- the text of each is read
label_gives : (label : Label) → IsLabel label → label_of (label_text label) ≡ Some label
label_gives (Set variable value) fit = ap (option_map (λ fields. Set fields.0 fields.1)) (variable_u64_spells.gives (variable, value) (fit.0, fit.1))
label_gives (Read cpu register width value status) fit = ap (option_map (λ fields. Read fields.0 fields.1.0 fields.1.1.0 fields.1.1.1.0 fields.1.1.1.1)) (u16_register_u32_u64_status_spells.gives (cpu, (register, (width, (value, status)))) (fit.0, (tt, (fit.1, (fit.2, tt)))))
label_gives (Write cpu register width value status) fit = ap (option_map (λ fields. Write fields.0 fields.1.0 fields.1.1.0 fields.1.1.1.0 fields.1.1.1.1)) (u16_register_u32_u64_status_spells.gives (cpu, (register, (width, (value, status)))) (fit.0, (tt, (fit.1, (fit.2, tt)))))
label_gives (Alloc size place status) fit = ap (option_map (λ fields. Alloc fields.0 fields.1.0 fields.1.1)) (u64_u64_status_spells.gives (size, (place, status)) (fit.0, (fit.1, tt)))
label_gives (Free place status) fit = ap (option_map (λ fields. Free fields.0 fields.1)) (u64_status_spells.gives (place, status) (fit, tt))
label_gives (Register handler serial status) fit = ap (option_map (λ fields. Register fields.0 fields.1.0 fields.1.1)) (u16_u32_status_spells.gives (handler, (serial, status)) (fit.0, (fit.1, tt)))
label_gives (Unregister handle status) fit = ap (option_map (λ fields. Unregister fields.0 fields.1)) (u64_status_spells.gives (handle, status) (fit, tt))
label_gives (Check job status) fit = ap (option_map (λ fields. Check fields.0 fields.1)) (u64_status_spells.gives (job, status) (fit, tt))
label_gives (Wait job value status) fit = ap (option_map (λ fields. Wait fields.0 fields.1.0 fields.1.1)) (u64_u64_status_spells.gives (job, (value, status)) (fit.0, (fit.1, tt)))
label_gives (Refuse cpu cause) fit = ap (option_map (λ fields. Refuse fields.0 fields.1)) (u16_cause_spells.gives (cpu, cause) (fit, tt))
label_gives (Start cpu job procedure arg) fit = ap (option_map (λ fields. Start fields.0 fields.1.0 fields.1.1.0 fields.1.1.1)) (u16_u32_u16_u64_spells.gives (cpu, (job, (procedure, arg))) (fit.0, (fit.1, (fit.2, fit.3))))
label_gives (Run job value status) fit = ap (option_map (λ fields. Run fields.0 fields.1.0 fields.1.1)) (u32_u64_status_spells.gives (job, (value, status)) (fit.0, (fit.1, tt)))
label_gives (Collect cpu) fit = ap (option_map Collect) (u16_last.gives cpu fit)
label_gives (Begin wave) fit = ap (option_map Begin) (u32_last.gives wave fit)
label_gives (Manage kind) fit = ap (option_map Manage) (kind_last.gives kind fit)
label_gives (Deep kind) fit = ap (option_map Deep) (kind_last.gives kind fit)
label_gives (Call handler) fit = ap (option_map Call) (u16_last.gives handler fit)
label_gives (Return handler status) fit = ap (option_map (λ fields. Return fields.0 fields.1)) (u16_status_spells.gives (handler, status) (fit, tt))
label_gives (Answer status) fit = ap (option_map Answer) (status_last.gives status tt)
label_gives (Excepted count) fit = ap (option_map Excepted) (u32_last.gives count fit)
label_gives (Wave wave) fit = ap (option_map Wave) (u32_last.gives wave fit)
label_gives (Served wave) fit = ap (option_map Served) (u32_last.gives wave fit)
label_gives (Gather count) fit = ap (option_map Gather) (u32_last.gives count fit)
label_gives (Ready count) fit = ap (option_map Ready) (u32_last.gives count fit)
label_gives (Expire round) fit = ap (option_map Expire) (round_last.gives round fit)
label_gives (Close count) fit = ap (option_map Close) (u32_last.gives count fit)
label_gives (Release cpu) fit = ap (option_map Release) (u16_last.gives cpu fit)
label_gives (Resume after) fit = ap (option_map Resume) (after_last.gives after tt)
label_gives _ fit = refl

pub label_spells : Spells IsLabel label_text label_of
label_spells = record { said = λ text label is. label_said_by text (split_first colon text) label refl is; gives = label_gives }

-- its bytes, and their number
pub label_within : (label : Label) → IsLabel label → Within is_word_byte 74 (label_text label)
label_within (Set variable value) fit =
    spelled_within 74 3 (codes "set") (1 ∷ 20 ∷ []) (decimal variable ∷ decimal value ∷ []) record { bytes = refl; few = omega arith } (variable_within variable fit.0, (wide_within value fit.1, tt)) (omega arith)
label_within (Read cpu register width value status) fit =
    spelled_within 74 4 (codes "read") (5 ∷ 12 ∷ 10 ∷ 20 ∷ 17 ∷ []) (decimal cpu ∷ register_text register ∷ decimal width ∷ decimal value ∷ status_text status ∷ []) record { bytes = refl; few = omega arith } (small_within cpu fit.0, (register_within register, (middle_within width fit.1, (wide_within value fit.2, (status_within status, tt))))) (omega arith)
label_within (Write cpu register width value status) fit =
    spelled_within 74 5 (codes "write") (5 ∷ 12 ∷ 10 ∷ 20 ∷ 17 ∷ []) (decimal cpu ∷ register_text register ∷ decimal width ∷ decimal value ∷ status_text status ∷ []) record { bytes = refl; few = omega arith } (small_within cpu fit.0, (register_within register, (middle_within width fit.1, (wide_within value fit.2, (status_within status, tt))))) (omega arith)
label_within (Alloc size place status) fit =
    spelled_within 74 5 (codes "alloc") (20 ∷ 20 ∷ 17 ∷ []) (decimal size ∷ decimal place ∷ status_text status ∷ []) record { bytes = refl; few = omega arith } (wide_within size fit.0, (wide_within place fit.1, (status_within status, tt))) (omega arith)
label_within (Free place status) fit =
    spelled_within 74 4 (codes "free") (20 ∷ 17 ∷ []) (decimal place ∷ status_text status ∷ []) record { bytes = refl; few = omega arith } (wide_within place fit, (status_within status, tt)) (omega arith)
label_within (Register handler serial status) fit =
    spelled_within 74 8 (codes "register") (5 ∷ 10 ∷ 17 ∷ []) (decimal handler ∷ decimal serial ∷ status_text status ∷ []) record { bytes = refl; few = omega arith } (small_within handler fit.0, (middle_within serial fit.1, (status_within status, tt))) (omega arith)
label_within (Unregister handle status) fit =
    spelled_within 74 10 (codes "unregister") (20 ∷ 17 ∷ []) (decimal handle ∷ status_text status ∷ []) record { bytes = refl; few = omega arith } (wide_within handle fit, (status_within status, tt)) (omega arith)
label_within (Check job status) fit =
    spelled_within 74 5 (codes "check") (20 ∷ 17 ∷ []) (decimal job ∷ status_text status ∷ []) record { bytes = refl; few = omega arith } (wide_within job fit, (status_within status, tt)) (omega arith)
label_within (Wait job value status) fit =
    spelled_within 74 4 (codes "wait") (20 ∷ 20 ∷ 17 ∷ []) (decimal job ∷ decimal value ∷ status_text status ∷ []) record { bytes = refl; few = omega arith } (wide_within job fit.0, (wide_within value fit.1, (status_within status, tt))) (omega arith)
label_within (Refuse cpu cause) fit =
    spelled_within 74 6 (codes "refuse") (5 ∷ 7 ∷ []) (decimal cpu ∷ cause_text cause ∷ []) record { bytes = refl; few = omega arith } (small_within cpu fit, (cause_within cause, tt)) (omega arith)
label_within (Start cpu job procedure arg) fit =
    spelled_within 74 5 (codes "start") (5 ∷ 10 ∷ 5 ∷ 20 ∷ []) (decimal cpu ∷ decimal job ∷ decimal procedure ∷ decimal arg ∷ []) record { bytes = refl; few = omega arith } (small_within cpu fit.0, (middle_within job fit.1, (small_within procedure fit.2, (wide_within arg fit.3, tt)))) (omega arith)
label_within (Run job value status) fit =
    spelled_within 74 3 (codes "run") (10 ∷ 20 ∷ 17 ∷ []) (decimal job ∷ decimal value ∷ status_text status ∷ []) record { bytes = refl; few = omega arith } (middle_within job fit.0, (wide_within value fit.1, (status_within status, tt))) (omega arith)
label_within (Collect cpu) fit =
    spelled_within 74 7 (codes "collect") (5 ∷ []) (decimal cpu ∷ []) record { bytes = refl; few = omega arith } (small_within cpu fit, tt) (omega arith)
label_within (Begin wave) fit =
    spelled_within 74 5 (codes "begin") (10 ∷ []) (decimal wave ∷ []) record { bytes = refl; few = omega arith } (middle_within wave fit, tt) (omega arith)
label_within (Manage kind) fit =
    spelled_within 74 6 (codes "manage") (36 ∷ []) (type_text kind ∷ []) record { bytes = refl; few = omega arith } (kind_within kind, tt) (omega arith)
label_within (Deep kind) fit =
    spelled_within 74 4 (codes "deep") (36 ∷ []) (type_text kind ∷ []) record { bytes = refl; few = omega arith } (kind_within kind, tt) (omega arith)
label_within (Call handler) fit =
    spelled_within 74 4 (codes "call") (5 ∷ []) (decimal handler ∷ []) record { bytes = refl; few = omega arith } (small_within handler fit, tt) (omega arith)
label_within (Return handler status) fit =
    spelled_within 74 6 (codes "return") (5 ∷ 17 ∷ []) (decimal handler ∷ status_text status ∷ []) record { bytes = refl; few = omega arith } (small_within handler fit, (status_within status, tt)) (omega arith)
label_within (Answer status) fit =
    spelled_within 74 6 (codes "answer") (17 ∷ []) (status_text status ∷ []) record { bytes = refl; few = omega arith } (status_within status, tt) (omega arith)
label_within (Excepted count) fit =
    spelled_within 74 8 (codes "excepted") (10 ∷ []) (decimal count ∷ []) record { bytes = refl; few = omega arith } (middle_within count fit, tt) (omega arith)
label_within (Wave wave) fit =
    spelled_within 74 4 (codes "wave") (10 ∷ []) (decimal wave ∷ []) record { bytes = refl; few = omega arith } (middle_within wave fit, tt) (omega arith)
label_within (Served wave) fit =
    spelled_within 74 6 (codes "served") (10 ∷ []) (decimal wave ∷ []) record { bytes = refl; few = omega arith } (middle_within wave fit, tt) (omega arith)
label_within (Gather count) fit =
    spelled_within 74 6 (codes "gather") (10 ∷ []) (decimal count ∷ []) record { bytes = refl; few = omega arith } (middle_within count fit, tt) (omega arith)
label_within (Ready count) fit =
    spelled_within 74 5 (codes "ready") (10 ∷ []) (decimal count ∷ []) record { bytes = refl; few = omega arith } (middle_within count fit, tt) (omega arith)
label_within (Expire round) fit =
    spelled_within 74 6 (codes "expire") (1 ∷ []) (decimal round ∷ []) record { bytes = refl; few = omega arith } (round_within round fit, tt) (omega arith)
label_within (Close count) fit =
    spelled_within 74 5 (codes "close") (10 ∷ []) (decimal count ∷ []) record { bytes = refl; few = omega arith } (middle_within count fit, tt) (omega arith)
label_within (Release cpu) fit =
    spelled_within 74 7 (codes "release") (5 ∷ []) (decimal cpu ∷ []) record { bytes = refl; few = omega arith } (small_within cpu fit, tt) (omega arith)
label_within (Resume after) fit =
    spelled_within 74 6 (codes "resume") (5 ∷ []) (after_text after ∷ []) record { bytes = refl; few = omega arith } (after_within after, tt) (omega arith)
label_within _ fit = record { bytes = refl; few = omega arith }
