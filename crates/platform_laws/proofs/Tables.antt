-- The tables of a platform file but for the top one.
use Rattle.std.proofs.Common.{◌≡◌, ℕ, pos, ◌+◌, ◌-◌, ◌≤◌, Bool, true, false, not, ◌&&◌, ◌==◌, nat_lt, nat_le, List, [], ◌∷◌, length, Option, Some, None, Ok, Err, refl, ap, sym, subst, ◌∙◌, codes, le-leb, lt-ltb, IsTrue, if◌then◌else◌, arith}
use Rattle.std.specs.Prelude.{MatchOption, Result}
use Rattle.std.specs.List.{list_any, list_all}
use Rattle.std.proofs.lemmas.Bool.{and_parts, and_from, leb-true, ltb-true, eqb-true, eq-eqb, false≢true}
use Rattle.std.proofs.lemmas.Bool.Decides.{nat_tests}
use Rattle.std.proofs.Math.Bool.{Bool-set}
use Rattle.toml.specs.Data.{Data, string, boolean, Members, as_bool}
use Rattle.smm_base.specs.Register.{is_register_number}
use Rattle.smm_base.specs.Kinds.{is_io_length, is_io_type}
use Rattle.smm_base.specs.Status.{status_text}
use Rattle.smm_base.specs.declared.kinds.IoCause.{IoCause}
use Rattle.smm_base.specs.declared.kinds.HandlerType.{HandlerType}
use Rattle.smm_base.specs.declared.status.Status.{Status}
use Rattle.cpu_table.specs.Ranges.{is_between, area_fits, wave_fits, is_name, is_answer, op_fits, handler_fits, procedure_fits, cause_fits, same_text, same_visit}
use Rattle.cpu_table.specs.declared.handlers.Act.{Act}
use Rattle.cpu_table.specs.declared.handlers.OpDef.{OpDef}
use Rattle.cpu_table.specs.declared.handlers.HandlerDef.{HandlerDef}
use Rattle.cpu_table.specs.declared.handlers.ProcedureDef.{ProcedureDef}
use Rattle.cpu_table.specs.declared.setup.CauseAt.{CauseAt}
use Rattle.cpu_table.specs.declared.setup.Smram.{Smram as Area}
use Rattle.cpu_table.specs.declared.waves.Arrival.{Arrival}
use Rattle.cpu_table.specs.declared.waves.Wave.{Wave}
use Rattle.platform_document.specs.declared.path.TablePlace.{TablePlace}
use Rattle.platform_document.specs.declared.path.TablePlace.TheVariants.{Smram}
use Rattle.platform_document.specs.declared.path.TablePlace.TheVariants as place
use Rattle.platform_document.specs.declared.path.Key.TheVariants as key
use Rattle.platform_document.specs.declared.path.Path.{Path}
use Rattle.platform_document.specs.declared.fault.WalkFault.TheVariants.{Range, Word, WrongType}
use Rattle.platform_document.specs.Path.{key_text}
use Rattle.platform_document.specs.Reading.{read_then, path_to, found_at, text_at, word_at, number_at, flag_of, table_of, entry_of, word_after, and_no_other}
use Rattle.platform_document.specs.Reading.{greatest}
use Rattle.platform_document.specs.Words.{arrival_of, kind_of, answer_of, start_list_of, act_of}
use Rattle.platform_file.specs.Area.{size_after, size_at, area_keys, area_in}
use Rattle.platform_file.specs.Waves.{statuses_at, walks_at, wave_keys, wave_in, wave_after}
use Rattle.platform_document.specs.CommonKeys.{register_at}
use Rattle.platform_file.specs.Operations.{operation_after}
use Rattle.platform_file.specs.Handlers.{name_unless, name_at, has_handler, has_procedure, operations_at, handler_keys, handler_in, handler_after, procedure_keys, procedure_in, procedure_after}
use Rattle.platform_file.specs.Causes.{one_of, length_at, type_at, on_true, instruction, io_keys, instruction_in, io_of, io_by, io_at, halt_by, halt_at, is_of, visit_after, visit_at, cause_keys, cause_in, cause_after}
use Rattle.platform_laws.specs.Words.{arrival_text, act_text, IsKind}
use Rattle.platform_laws.specs.Values.{SaysNumber, SaysText, IsTableOf}
use Rattle.platform_laws.specs.Says.{SaysArea, SaysWave, SaysOperation, SaysHandlerDef, SaysProcedure, SaysIo, SaysOption, SaysCause}
use Rattle.platform_laws.specs.Fits.{names_word, names_words, port_is_word, has_port}
use Rattle.platform_laws.proofs.Readings.{split, joined, same_ok, err_ok, if_ok, ok_if, some_of, boolean_is, number_said, number_read, text_said, text_read, word_value_said, word_value_read, word_said, word_read, entry_said, entry_read, table_said, table_read, others_said, others_read}
use Rattle.platform_laws.proofs.Words.{arrival_said, arrival_read, act_said, act_read, answer_said, answer_read, kind_said, kind_read, start_list_said, start_list_read}
use Rattle.platform_laws.proofs.Parts.{word_is, reg_said, reg_read, IsFound}
use Rattle.platform_laws.proofs.Operations.{OperationFits, entry_operation_said, entry_operation_read}
use Rattle.platform_laws.proofs.Growth.{each_all, each_any, each_both, list_each_said, list_each_read}

if_err : {A E : Type 0} (b : Bool) (x y : A) (e : E) → ◌≡◌ {A = Result A E} (if b then Err e else Ok x) (Ok y) → (b ≡ false) × (x ≡ y)
if_err true x y e is = err_ok e y is
if_err false x y e is = (refl, same_ok x y is)

err_if : {A E : Type 0} (b : Bool) (x : A) (e : E) → b ≡ false → ◌≡◌ {A = Result A E} (if b then Err e else Ok x) (Ok x)
err_if b x e is = ap (λ c. if c then Err e else Ok x) is

not_true : (b : Bool) → b ≡ false → not b ≡ true
not_true b is = ap not is

is_false : (b : Bool) → not b ≡ true → b ≡ false
is_false true is = absurd (false≢true is)
is_false false is = refl

-- the areas of the processors
abbrev area : ℕ → ℕ → ℕ → ℕ → Area
area base size tile code = record { base = base; size = size; tile = tile; code = code }

size_said : (base : ℕ) (t : Members) (n : ℕ) → size_at base t ≡ Ok n → SaysNumber t (codes "size") n × (1 ≤ n) × (n ≤ 8388608) × (nat_le (base + n) 4294967296 ≡ true)
size_said base t n is =
    let (size, there, rest) = split (number_at (path_to Smram key.Size) 1 8388608 t) (size_after base) n is in
    let (says, low, high) = number_said (path_to Smram key.Size) 1 8388608 t size there in
    let (ends, same) = if_ok (nat_le (base + size) 4294967296) size n (Range (path_to Smram key.Size) (pos size)) rest in
    let P : ℕ → Type 0 = λ k. SaysNumber t (codes "size") k × (1 ≤ k) × (k ≤ 8388608) × (nat_le (base + k) 4294967296 ≡ true) in
    subst P same (says, low, high, ends)

size_read : (base : ℕ) (t : Members) (n : ℕ) → SaysNumber t (codes "size") n → 1 ≤ n → n ≤ 8388608 → nat_le (base + n) 4294967296 ≡ true → size_at base t ≡ Ok n
size_read base t n says low high ends =
    joined (number_at (path_to Smram key.Size) 1 8388608 t) (size_after base) n n (number_read (path_to Smram key.Size) 1 8388608 t n says low high) (ok_if (nat_le (base + n) 4294967296) n (Range (path_to Smram key.Size) (pos n)) ends)

pub area_said : (t : Members) (a : Area) → area_in t ≡ Ok a → SaysArea t a × (area_fits a ≡ true)
area_said t a is =
    let (base, base_is, rest0) = split (number_at (path_to Smram key.Base) 0 greatest t) (λ base. read_then (size_at base t) (λ size. read_then (number_at (path_to Smram key.Tile) 0 greatest t) (λ tile. read_then (number_at (path_to Smram key.Code) 0 greatest t) (λ code. and_no_other Smram area_keys t (area base size tile code))))) a is in
    let (size, size_is, rest1) = split (size_at base t) (λ size. read_then (number_at (path_to Smram key.Tile) 0 greatest t) (λ tile. read_then (number_at (path_to Smram key.Code) 0 greatest t) (λ code. and_no_other Smram area_keys t (area base size tile code)))) a rest0 in
    let (tile, tile_is, rest2) = split (number_at (path_to Smram key.Tile) 0 greatest t) (λ tile. read_then (number_at (path_to Smram key.Code) 0 greatest t) (λ code. and_no_other Smram area_keys t (area base size tile code))) a rest1 in
    let (code, code_is, rest3) = split (number_at (path_to Smram key.Code) 0 greatest t) (λ code. and_no_other Smram area_keys t (area base size tile code)) a rest2 in
    let (base_says, base_low, base_high) = number_said (path_to Smram key.Base) 0 greatest t base base_is in
    let (size_says, size_low, size_high, ends) = size_said base t size size_is in
    let (tile_says, tile_low, tile_high) = number_said (path_to Smram key.Tile) 0 greatest t tile tile_is in
    let (code_says, code_low, code_high) = number_said (path_to Smram key.Code) 0 greatest t code code_is in
    let (same, others) = others_said Smram area_keys (codes "base" ∷ codes "size" ∷ codes "tile" ∷ codes "code" ∷ []) (λ name. refl) t (area base size tile code) a rest3 in
    let size_between : is_between 1 8388608 size ≡ true = and_from (nat_le 1 size) (nat_le size 8388608) (le-leb 1 size size_low) (le-leb size 8388608 size_high) in
    let tile_small : nat_lt tile 9223372036854775808 ≡ true = lt-ltb tile 9223372036854775808 (omega (arith, tile_high)) in
    let code_small : nat_lt code 9223372036854775808 ≡ true = lt-ltb code 9223372036854775808 (omega (arith, code_high)) in
    let fits : area_fits (area base size tile code) ≡ true =
    and_from (is_between 1 8388608 size && nat_le (base + size) 4294967296 && nat_lt tile 9223372036854775808) (nat_lt code 9223372036854775808)
    (and_from (is_between 1 8388608 size && nat_le (base + size) 4294967296) (nat_lt tile 9223372036854775808)
    (and_from (is_between 1 8388608 size) (nat_le (base + size) 4294967296) size_between ends) tile_small) code_small in
    subst (λ x. SaysArea t x × (area_fits x ≡ true)) same
    (record { base_is = base_says; size_is = size_says; tile_is = tile_says; code_is = code_says; only = others }, fits)

pub area_read : (t : Members) (a : Area) → SaysArea t a → area_fits a ≡ true → area_in t ≡ Ok a
area_read t a says fits =
    let (first, code_small) = and_parts (is_between 1 8388608 a.size && nat_le (a.base + a.size) 4294967296 && nat_lt a.tile 9223372036854775808) (nat_lt a.code 9223372036854775808) fits in
    let (second, tile_small) = and_parts (is_between 1 8388608 a.size && nat_le (a.base + a.size) 4294967296) (nat_lt a.tile 9223372036854775808) first in
    let (between, ends) = and_parts (is_between 1 8388608 a.size) (nat_le (a.base + a.size) 4294967296) second in
    let (low, high) = and_parts (nat_le 1 a.size) (nat_le a.size 8388608) between in
    let end_below = leb-true (a.base + a.size) 4294967296 ends in
    let tile_below = ltb-true a.tile 9223372036854775808 tile_small in
    let code_below = ltb-true a.code 9223372036854775808 code_small in
    let base_high : a.base ≤ greatest = omega (arith, end_below) in
    let tile_high : a.tile ≤ greatest = omega (arith, tile_below) in
    let code_high : a.code ≤ greatest = omega (arith, code_below) in
    joined (number_at (path_to Smram key.Base) 0 greatest t) (λ base. read_then (size_at base t) (λ size. read_then (number_at (path_to Smram key.Tile) 0 greatest t) (λ tile. read_then (number_at (path_to Smram key.Code) 0 greatest t) (λ code. and_no_other Smram area_keys t (area base size tile code))))) (a.base) (a) (number_read (path_to Smram key.Base) 0 greatest t a.base says.base_is (omega arith) base_high)
    (joined (size_at a.base t) (λ size. read_then (number_at (path_to Smram key.Tile) 0 greatest t) (λ tile. read_then (number_at (path_to Smram key.Code) 0 greatest t) (λ code. and_no_other Smram area_keys t (area a.base size tile code)))) (a.size) (a) (size_read a.base t a.size says.size_is (leb-true 1 a.size low) (leb-true a.size 8388608 high) ends)
    (joined (number_at (path_to Smram key.Tile) 0 greatest t) (λ tile. read_then (number_at (path_to Smram key.Code) 0 greatest t) (λ code. and_no_other Smram area_keys t (area a.base a.size tile code))) (a.tile) (a) (number_read (path_to Smram key.Tile) 0 greatest t a.tile says.tile_is (omega arith) tile_high)
    (joined (number_at (path_to Smram key.Code) 0 greatest t) (λ code. and_no_other Smram area_keys t (area a.base a.size a.tile code)) (a.code) (a) (number_read (path_to Smram key.Code) 0 greatest t a.code says.code_is (omega arith) code_high) (others_read Smram area_keys (codes "base" ∷ codes "size" ∷ codes "tile" ∷ codes "code" ∷ []) (λ name. refl) t a says.only))))

-- the waves
arrival_one : (path : Path) (done : List Arrival) (v : Data) (x : Arrival) → word_after path arrival_of done v ≡ Ok x → (v ≡ string (arrival_text x)) × Unit {0}
arrival_one path done v x is =
    let (text, same, finds) = word_value_said path arrival_of v x is in
    (same ∙ ap string (arrival_said text x finds), tt)

kind_one : (path : Path) (done : List HandlerType) (v : Data) (x : HandlerType) → word_after path kind_of done v ≡ Ok x → ((text : List ℕ) × (v ≡ string text) × IsKind text x) × Unit {0}
kind_one path done v x is =
    let (text, same, finds) = word_value_said path kind_of v x is in
    ((text, same, kind_said text x finds), tt)

arrival_back : (path : Path) (done : List Arrival) (v : Data) (x : Arrival) → v ≡ string (arrival_text x) → Unit {0} → word_after path arrival_of done v ≡ Ok x
arrival_back path done v x says fits = word_value_read path arrival_of v x (arrival_text x) says (arrival_read x)

kind_back : (path : Path) (done : List HandlerType) (v : Data) (x : HandlerType) → (text : List ℕ) × (v ≡ string text) × IsKind text x → Unit {0} → word_after path kind_of done v ≡ Ok x
kind_back path done v x (text, same, is) fits = word_value_read path kind_of v x text same (kind_read text x is)

abbrev wave : List Arrival → List HandlerType → Wave
wave status manage = record { status = status; manage = manage }

wave_said : (n : ℕ) (at : TablePlace) (t : Members) (w : Wave) → wave_in n at t ≡ Ok w → SaysWave t w × (wave_fits n w ≡ true)
wave_said n at t w is =
    let (status, status_is, rest0) = split (statuses_at n (path_to at key.Status) t) (λ status. read_then (walks_at (path_to at key.Manage) t) (λ manage. and_no_other at wave_keys t (wave status manage))) w is in
    let (manage, manage_is, rest1) = split (walks_at (path_to at key.Manage) t) (λ manage. and_no_other at wave_keys t (wave status manage)) w rest0 in
    let (status_says, status_low, status_high, status_fits) = list_each_said (path_to at key.Status) n n t (word_after (path_to at key.Status) arrival_of) (λ v x. v ≡ string (arrival_text x)) (λ d x. Unit {0}) (arrival_one (path_to at key.Status)) status status_is in
    let (manage_says, manage_low, manage_high, manage_fits) = list_each_said (path_to at key.Manage) 0 16 t (word_after (path_to at key.Manage) kind_of) (λ v x. (text : List ℕ) × (v ≡ string text) × IsKind text x) (λ d x. Unit {0}) (kind_one (path_to at key.Manage)) manage manage_is in
    let (same, others) = others_said at wave_keys (codes "status" ∷ codes "manage" ∷ []) (λ name. refl) t (wave status manage) w rest1 in
    let fits : wave_fits n (wave status manage) ≡ true = and_from (length status == n) (nat_le (length manage) 16) (eq-eqb (length status) n (omega (arith, status_low, status_high))) (le-leb (length manage) 16 manage_high) in
    subst (λ x. SaysWave t x × (wave_fits n x ≡ true)) same
    (record { status_is = status_says; manage_is = manage_says; only = others }, fits)

wave_read : (n : ℕ) (at : TablePlace) (t : Members) (w : Wave) → SaysWave t w → wave_fits n w ≡ true → wave_in n at t ≡ Ok w
wave_read n at t w says fits =
    let (for_each, few) = and_parts (length w.status == n) (nat_le (length w.manage) 16) fits in
    let count = eqb-true (length w.status) n for_each in
    let low : n ≤ length w.status = omega (arith, count) in
    let high : length w.status ≤ n = omega (arith, count) in
    joined (statuses_at n (path_to at key.Status) t) (λ status. read_then (walks_at (path_to at key.Manage) t) (λ manage. and_no_other at wave_keys t (wave status manage))) (w.status) (w) (list_each_read (path_to at key.Status) n n t (word_after (path_to at key.Status) arrival_of) (λ v x. v ≡ string (arrival_text x)) (λ d x. Unit {0}) (arrival_back (path_to at key.Status)) w.status says.status_is low high (each_any w.status []))
    (joined (walks_at (path_to at key.Manage) t) (λ manage. and_no_other at wave_keys t (wave w.status manage)) (w.manage) (w) (list_each_read (path_to at key.Manage) 0 16 t (word_after (path_to at key.Manage) kind_of) (λ v x. (text : List ℕ) × (v ≡ string text) × IsKind text x) (λ d x. Unit {0}) (kind_back (path_to at key.Manage)) w.manage says.manage_is (omega arith) (leb-true (length w.manage) 16 few) (each_any w.manage [])) (others_read at wave_keys (codes "status" ∷ codes "manage" ∷ []) (λ name. refl) t w says.only))

pub entry_wave_said : (n : ℕ) (done : List Wave) (v : Data) (w : Wave) → wave_after n done v ≡ Ok w → IsTableOf (λ t. SaysWave t w) v × (wave_fits n w ≡ true)
entry_wave_said n done v w is =
    let (t, there, rest) = split (entry_of (place.Wave (length done)) v) (wave_in n (place.Wave (length done))) w is in
    let (says, fits) = wave_said n (place.Wave (length done)) t w rest in
    ((t, entry_said (place.Wave (length done)) v t there, says), fits)

pub entry_wave_read : (n : ℕ) (done : List Wave) (v : Data) (w : Wave) → IsTableOf (λ t. SaysWave t w) v → wave_fits n w ≡ true → wave_after n done v ≡ Ok w
entry_wave_read n done v w (t, there, says) fits =
    joined (entry_of (place.Wave (length done)) v) (wave_in n (place.Wave (length done))) t w (entry_read (place.Wave (length done)) v t there) (wave_read n (place.Wave (length done)) t w says fits)

-- names
name_said : (is_taken : List ℕ → Bool) (path : Path) (t : Members) (name : List ℕ) → name_at is_taken path t ≡ Ok name → SaysText t (key_text path.key) name × (is_name name ≡ true) × (is_taken name ≡ false)
name_said is_taken path t name is =
    let (text, there, rest) = split (text_at path t) (λ x. name_unless (is_taken x) path x) name is in
    let (tests, same) = if_ok (is_name text && not (is_taken text)) text name (Word path) rest in
    let (named, fresh) = and_parts (is_name text) (not (is_taken text)) tests in
    let P : List ℕ → Type 0 = λ x. SaysText t (key_text path.key) x × (is_name x ≡ true) × (is_taken x ≡ false) in
    subst P same (text_said path t text there, named, is_false (is_taken text) fresh)

name_read : (is_taken : List ℕ → Bool) (path : Path) (t : Members) (name : List ℕ) → SaysText t (key_text path.key) name → is_name name ≡ true → is_taken name ≡ false → name_at is_taken path t ≡ Ok name
name_read is_taken path t name says named fresh =
    joined (text_at path t) (λ x. name_unless (is_taken x) path x) name name (text_read path t name says)
    (ok_if (is_name name && not (is_taken name)) name (Word path) (and_from (is_name name) (not (is_taken name)) named (not_true (is_taken name) fresh)))

-- the handlers
abbrev handler : List ℕ → Option HandlerType → Status → List OpDef → HandlerDef
handler name kind answer ops = record { name = name; kind = kind; answer = answer; ops = ops }

-- a handler fits after those before it
abbrev pub HandlerFits : ℕ → List HandlerDef → HandlerDef → Type 0
HandlerFits n done h = (handler_fits n h ≡ true) × (names_words h ≡ true) × (list_any (λ x. same_text x.name h.name) done ≡ false)

handler_said : (entries : List Data) (done : List HandlerDef) (at : ℕ) (t : Members) (h : HandlerDef) → handler_in entries done at t ≡ Ok h → SaysHandlerDef (IsFound entries) t h × HandlerFits (length entries) done h
handler_said entries done at t h is =
    let (name, name_is, rest0) = split (name_at (has_handler done) (path_to (place.Handler at) key.Name) t) (λ name. read_then (word_at (path_to (place.Handler at) key.Type) start_list_of t) (λ kind. read_then (word_at (path_to (place.Handler at) key.Answer) answer_of t) (λ answer. read_then (operations_at entries at t) (λ ops. and_no_other (place.Handler at) handler_keys t (handler name kind answer ops))))) h is in
    let (kind, kind_is, rest1) = split (word_at (path_to (place.Handler at) key.Type) start_list_of t) (λ kind. read_then (word_at (path_to (place.Handler at) key.Answer) answer_of t) (λ answer. read_then (operations_at entries at t) (λ ops. and_no_other (place.Handler at) handler_keys t (handler name kind answer ops)))) h rest0 in
    let (answer, answer_is, rest2) = split (word_at (path_to (place.Handler at) key.Answer) answer_of t) (λ answer. read_then (operations_at entries at t) (λ ops. and_no_other (place.Handler at) handler_keys t (handler name kind answer ops))) h rest1 in
    let (ops, ops_is, rest3) = split (operations_at entries at t) (λ ops. and_no_other (place.Handler at) handler_keys t (handler name kind answer ops)) h rest2 in
    let (name_says, named, fresh) = name_said (has_handler done) (path_to (place.Handler at) key.Name) t name name_is in
    let (kind_text, kind_says, kind_finds) = word_said (path_to (place.Handler at) key.Type) start_list_of t kind kind_is in
    let (answer_text, answer_says, answer_finds) = word_said (path_to (place.Handler at) key.Answer) answer_of t answer answer_is in
    let (answer_same, answers) = answer_said answer_text answer answer_finds in
    let (ops_says, ops_low, ops_high, ops_fits) = list_each_said (path_to (place.Handler at) key.Ops) 0 64 t (operation_after entries at) (λ v o. IsTableOf (λ entry. SaysOperation (IsFound entries) entry o) v) (λ d o. OperationFits (length entries) o) (entry_operation_said entries at) ops ops_is in
    let (same, others) = others_said (place.Handler at) handler_keys (codes "name" ∷ codes "type" ∷ codes "answer" ∷ codes "ops" ∷ []) (λ name. refl) t (handler name kind answer ops) h rest3 in
    let all_fit : list_all (op_fits (length entries)) ops ≡ true = each_all (λ d o. OperationFits (length entries) o) (op_fits (length entries)) (λ d o f. f.0) ops [] ops_fits in
    let all_words : list_all names_word ops ≡ true = each_all (λ d o. OperationFits (length entries) o) names_word (λ d o f. f.1) ops [] ops_fits in
    let fits : handler_fits (length entries) (handler name kind answer ops) ≡ true =
    and_from (is_name name && is_answer answer && nat_le (length ops) 64) (list_all (op_fits (length entries)) ops)
    (and_from (is_name name && is_answer answer) (nat_le (length ops) 64) (and_from (is_name name) (is_answer answer) named answers) (le-leb (length ops) 64 ops_high)) all_fit in
    subst (λ x. SaysHandlerDef (IsFound entries) t x × HandlerFits (length entries) done x) same
    (record { name_is = name_says; type_is = (kind_text, kind_says, start_list_said kind_text kind kind_finds); answer_is = answer_says ∙ ap (λ x. Some (string x)) answer_same; ops_are = ops_says; only = others }, (fits, all_words, fresh))

handler_read : (entries : List Data) (done : List HandlerDef) (at : ℕ) (t : Members) (h : HandlerDef) → SaysHandlerDef (IsFound entries) t h → HandlerFits (length entries) done h → handler_in entries done at t ≡ Ok h
handler_read entries done at t h says (fits, words, fresh) =
    let (first, all_fit) = and_parts (is_name h.name && is_answer h.answer && nat_le (length h.ops) 64) (list_all (op_fits (length entries)) h.ops) fits in
    let (second, few) = and_parts (is_name h.name && is_answer h.answer) (nat_le (length h.ops) 64) first in
    let (named, answers) = and_parts (is_name h.name) (is_answer h.answer) second in
    let (kind_text, kind_says, kind_written) = says.type_is in
    joined (name_at (has_handler done) (path_to (place.Handler at) key.Name) t) (λ name. read_then (word_at (path_to (place.Handler at) key.Type) start_list_of t) (λ kind. read_then (word_at (path_to (place.Handler at) key.Answer) answer_of t) (λ answer. read_then (operations_at entries at t) (λ ops. and_no_other (place.Handler at) handler_keys t (handler name kind answer ops))))) (h.name) (h) (name_read (has_handler done) (path_to (place.Handler at) key.Name) t h.name says.name_is named fresh)
    (joined (word_at (path_to (place.Handler at) key.Type) start_list_of t) (λ kind. read_then (word_at (path_to (place.Handler at) key.Answer) answer_of t) (λ answer. read_then (operations_at entries at t) (λ ops. and_no_other (place.Handler at) handler_keys t (handler h.name kind answer ops)))) (h.kind) (h) (word_read (path_to (place.Handler at) key.Type) start_list_of t h.kind kind_text kind_says (start_list_read kind_text h.kind kind_written))
    (joined (word_at (path_to (place.Handler at) key.Answer) answer_of t) (λ answer. read_then (operations_at entries at t) (λ ops. and_no_other (place.Handler at) handler_keys t (handler h.name h.kind answer ops))) (h.answer) (h) (word_read (path_to (place.Handler at) key.Answer) answer_of t h.answer (status_text h.answer) says.answer_is (answer_read h.answer answers))
    (joined (operations_at entries at t) (λ ops. and_no_other (place.Handler at) handler_keys t (handler h.name h.kind h.answer ops)) (h.ops) (h) (list_each_read (path_to (place.Handler at) key.Ops) 0 64 t (operation_after entries at) (λ v o. IsTableOf (λ entry. SaysOperation (IsFound entries) entry o) v) (λ d o. OperationFits (length entries) o) (entry_operation_read entries at) h.ops says.ops_are (omega arith) (leb-true (length h.ops) 64 few) (each_both (op_fits (length entries)) names_word h.ops [] all_fit words)) (others_read (place.Handler at) handler_keys (codes "name" ∷ codes "type" ∷ codes "answer" ∷ codes "ops" ∷ []) (λ name. refl) t h says.only))))

pub entry_handler_said : (entries : List Data) (done : List HandlerDef) (v : Data) (h : HandlerDef) → handler_after entries done v ≡ Ok h → IsTableOf (λ t. SaysHandlerDef (IsFound entries) t h) v × HandlerFits (length entries) done h
entry_handler_said entries done v h is =
    let (t, there, rest) = split (entry_of (place.Handler (length done)) v) (handler_in entries done (length done)) h is in
    let (says, fits) = handler_said entries done (length done) t h rest in
    ((t, entry_said (place.Handler (length done)) v t there, says), fits)

pub entry_handler_read : (entries : List Data) (done : List HandlerDef) (v : Data) (h : HandlerDef) → IsTableOf (λ t. SaysHandlerDef (IsFound entries) t h) v → HandlerFits (length entries) done h → handler_after entries done v ≡ Ok h
entry_handler_read entries done v h (t, there, says) fits =
    joined (entry_of (place.Handler (length done)) v) (handler_in entries done (length done)) t h (entry_read (place.Handler (length done)) v t there) (handler_read entries done (length done) t h says fits)

-- the procedures
abbrev procedure : List ℕ → Act → ℕ → ProcedureDef
procedure name act reg = record { name = name; act = act; reg = reg }

-- a procedure fits after those before it
abbrev pub ProcedureFits : List ProcedureDef → ProcedureDef → Type 0
ProcedureFits done p = (procedure_fits p ≡ true) × (true ≡ true) × (list_any (λ x. same_text x.name p.name) done ≡ false)

procedure_said : (done : List ProcedureDef) (at : TablePlace) (t : Members) (p : ProcedureDef) → procedure_in done at t ≡ Ok p → SaysProcedure t p × ProcedureFits done p
procedure_said done at t p is =
    let (name, name_is, rest0) = split (name_at (has_procedure done) (path_to at key.Name) t) (λ name. read_then (word_at (path_to at key.Act) act_of t) (λ act. read_then (register_at at t) (λ reg. and_no_other at procedure_keys t (procedure name act reg)))) p is in
    let (act, act_is, rest1) = split (word_at (path_to at key.Act) act_of t) (λ act. read_then (register_at at t) (λ reg. and_no_other at procedure_keys t (procedure name act reg))) p rest0 in
    let (reg, reg_is, rest2) = split (register_at at t) (λ reg. and_no_other at procedure_keys t (procedure name act reg)) p rest1 in
    let (name_says, named, fresh) = name_said (has_procedure done) (path_to at key.Name) t name name_is in
    let act_says = word_is (path_to at key.Act) act_of t act (act_text act) (λ text e. act_said text act e) act_is in
    let (reg_says, reg_there) = reg_said at t reg reg_is in
    let (same, others) = others_said at procedure_keys (codes "name" ∷ codes "act" ∷ codes "reg" ∷ []) (λ name. refl) t (procedure name act reg) p rest2 in
    subst (λ x. SaysProcedure t x × ProcedureFits done x) same
    (record { name_is = name_says; act_is = act_says; reg_is = reg_says; only = others }, (and_from (is_name name) (is_register_number reg) named reg_there, refl, fresh))

procedure_read : (done : List ProcedureDef) (at : TablePlace) (t : Members) (p : ProcedureDef) → SaysProcedure t p → ProcedureFits done p → procedure_in done at t ≡ Ok p
procedure_read done at t p says (fits, also, fresh) =
    let (named, reg_there) = and_parts (is_name p.name) (is_register_number p.reg) fits in
    joined (name_at (has_procedure done) (path_to at key.Name) t) (λ name. read_then (word_at (path_to at key.Act) act_of t) (λ act. read_then (register_at at t) (λ reg. and_no_other at procedure_keys t (procedure name act reg)))) (p.name) (p) (name_read (has_procedure done) (path_to at key.Name) t p.name says.name_is named fresh)
    (joined (word_at (path_to at key.Act) act_of t) (λ act. read_then (register_at at t) (λ reg. and_no_other at procedure_keys t (procedure p.name act reg))) (p.act) (p) (word_read (path_to at key.Act) act_of t p.act (act_text p.act) says.act_is (act_read p.act))
    (joined (register_at at t) (λ reg. and_no_other at procedure_keys t (procedure p.name p.act reg)) (p.reg) (p) (reg_read at t p.reg says.reg_is) (others_read at procedure_keys (codes "name" ∷ codes "act" ∷ codes "reg" ∷ []) (λ name. refl) t p says.only)))

pub entry_procedure_said : (done : List ProcedureDef) (v : Data) (p : ProcedureDef) → procedure_after done v ≡ Ok p → IsTableOf (λ t. SaysProcedure t p) v × ProcedureFits done p
entry_procedure_said done v p is =
    let (t, there, rest) = split (entry_of (place.Procedure (length done)) v) (procedure_in done (place.Procedure (length done))) p is in
    let (says, fits) = procedure_said done (place.Procedure (length done)) t p rest in
    ((t, entry_said (place.Procedure (length done)) v t there, says), fits)

pub entry_procedure_read : (done : List ProcedureDef) (v : Data) (p : ProcedureDef) → IsTableOf (λ t. SaysProcedure t p) v → ProcedureFits done p → procedure_after done v ≡ Ok p
entry_procedure_read done v p (t, there, says) fits =
    joined (entry_of (place.Procedure (length done)) v) (procedure_in done (place.Procedure (length done))) t p (entry_read (place.Procedure (length done)) v t there) (procedure_read done (place.Procedure (length done)) t p says fits)

-- the causes
chosen_said : (path : Path) (is_there : ℕ → Bool) (t : Members) (n : ℕ) → read_then (number_at path 0 255 t) (one_of path is_there) ≡ Ok n → SaysNumber t (key_text path.key) n × (is_there n ≡ true)
chosen_said path is_there t n is =
    let (m, there, rest) = split (number_at path 0 255 t) (one_of path is_there) n is in
    let (says, low, high) = number_said path 0 255 t m there in
    let (passes, same) = if_ok (is_there m) m n (Range path (pos m)) rest in
    let P : ℕ → Type 0 = λ k. SaysNumber t (key_text path.key) k × (is_there k ≡ true) in
    subst P same (says, passes)

chosen_read : (path : Path) (is_there : ℕ → Bool) (t : Members) (n : ℕ) → SaysNumber t (key_text path.key) n → n ≤ 255 → is_there n ≡ true → read_then (number_at path 0 255 t) (one_of path is_there) ≡ Ok n
chosen_read path is_there t n says high passes =
    joined (number_at path 0 255 t) (one_of path is_there) n n (number_read path 0 255 t n says (omega arith) high) (ok_if (is_there n) n (Range path (pos n)) passes)

-- a test that passes
passing : {A : Type 0} (b : Bool) (passes : IsTrue b) (pass : IsTrue b → Option A) → on_true b pass ≡ pass passes
passing true passes pass = ap pass (Bool-set true true refl passes)
passing false passes pass = absurd (false≢true passes)

instruction_is : (port length kind : ℕ) (length_is_valid : IsTrue (is_io_length length)) (kind_is_valid : IsTrue (is_io_type kind)) →
    instruction port length kind ≡ Some (record { port = port; length = length; kind = kind; length_is_valid = length_is_valid; kind_is_valid = kind_is_valid })
instruction_is port length kind length_is_valid kind_is_valid = passing (is_io_length length) length_is_valid _ ∙ passing (is_io_type kind) kind_is_valid _

pub length_below : (n : ℕ) → is_io_length n ≡ true → n ≤ 255
length_below n is = grind (arith, nat_tests)

pub type_below : (n : ℕ) → is_io_type n ≡ true → n ≤ 255
type_below n is = grind (arith, nat_tests)

-- an I/O instruction that a table says
abbrev SaysInstruction : Members → Option IoCause → Type 0
SaysInstruction t io = (x : IoCause) × (io ≡ Some x) × SaysIo t x × (nat_le x.port 65535 ≡ true)

instruction_said : (at : TablePlace) (t : Members) (io : Option IoCause) → instruction_in at t ≡ Ok io → SaysInstruction t io
instruction_said at t io is =
    let (port, port_is, rest0) = split (number_at (path_to at key.Port) 0 65535 t) (λ port. read_then (length_at (path_to at key.Length) t) (λ length. read_then (type_at (path_to at key.Type) t) (λ kind. and_no_other at io_keys t (instruction port length kind)))) io is in
    let (length, length_is, rest1) = split (length_at (path_to at key.Length) t) (λ length. read_then (type_at (path_to at key.Type) t) (λ kind. and_no_other at io_keys t (instruction port length kind))) io rest0 in
    let (kind, kind_is, rest2) = split (type_at (path_to at key.Type) t) (λ kind. and_no_other at io_keys t (instruction port length kind)) io rest1 in
    let (port_says, port_low, port_high) = number_said (path_to at key.Port) 0 65535 t port port_is in
    let (length_says, length_there) = chosen_said (path_to at key.Length) is_io_length t length length_is in
    let (kind_says, kind_there) = chosen_said (path_to at key.Type) is_io_type t kind kind_is in
    let (same, others) = others_said at io_keys (codes "port" ∷ codes "length" ∷ codes "type" ∷ []) (λ name. refl) t (instruction port length kind) io rest2 in (
      record { port = port; length = length; kind = kind; length_is_valid = length_there; kind_is_valid = kind_there },
      sym same ∙ instruction_is port length kind length_there kind_there,
      record { port_is = port_says; length_is = length_says; type_is = kind_says; only = others },
      le-leb port 65535 port_high,
    )

instruction_read : (at : TablePlace) (t : Members) (io : IoCause) → SaysIo t io → nat_le io.port 65535 ≡ true → instruction_in at t ≡ Ok (Some io)
instruction_read at t io says small =
    joined (number_at (path_to at key.Port) 0 65535 t) (λ port. read_then (length_at (path_to at key.Length) t) (λ length. read_then (type_at (path_to at key.Type) t) (λ kind. and_no_other at io_keys t (instruction port length kind)))) (io.port) (Some io) (number_read (path_to at key.Port) 0 65535 t io.port says.port_is (omega arith) (leb-true io.port 65535 small))
    (joined (length_at (path_to at key.Length) t) (λ length. read_then (type_at (path_to at key.Type) t) (λ kind. and_no_other at io_keys t (instruction io.port length kind))) (io.length) (Some io) (chosen_read (path_to at key.Length) is_io_length t io.length says.length_is (length_below io.length io.length_is_valid) io.length_is_valid)
    (joined (type_at (path_to at key.Type) t) (λ kind. and_no_other at io_keys t (instruction io.port io.length kind)) (io.kind) (Some io) (chosen_read (path_to at key.Type) is_io_type t io.kind says.type_is (type_below io.kind io.kind_is_valid) io.kind_is_valid) (others_read at io_keys (codes "port" ∷ codes "length" ∷ codes "type" ∷ []) (λ name. refl) t (instruction io.port io.length io.kind) says.only ∙ ap Ok (instruction_is io.port io.length io.kind io.length_is_valid io.kind_is_valid))))

io_said : (at : ℕ) (o : Option Data) (io : Option IoCause) → io_by at o ≡ Ok io → MatchOption o (io ≡ None) (SaysOption SaysIo io) × (port_is_word io ≡ true)
io_said at None io is = subst (λ x. (x ≡ None) × (port_is_word x ≡ true)) (same_ok None io is) (refl, refl)
io_said at (Some v) io is =
    let (t, there, rest) = split (table_of (path_to (place.Cause at) key.Io) v) (instruction_in (place.Io at)) io is in
    let (x, same, says, small) = instruction_said (place.Io at) t io rest in
    subst (λ y. SaysOption SaysIo y v × (port_is_word y ≡ true)) (sym same) ((t, table_said (path_to (place.Cause at) key.Io) v t there, says), small)

io_some_read : (at : ℕ) (v : Data) (io : Option IoCause) → SaysOption SaysIo io v → port_is_word io ≡ true → io_of at v ≡ Ok io
io_some_read at v None says small = absurd says
io_some_read at v (Some io) (t, there, says) small =
    joined (table_of (path_to (place.Cause at) key.Io) v) (instruction_in (place.Io at)) t (Some io) (table_read (path_to (place.Cause at) key.Io) v t there) (instruction_read (place.Io at) t io says small)

io_read : (at : ℕ) (o : Option Data) (io : Option IoCause) → MatchOption o (io ≡ None) (SaysOption SaysIo io) → port_is_word io ≡ true → io_by at o ≡ Ok io
io_read at None io says small = ap Ok (sym says)
io_read at (Some v) io says small = io_some_read at v io says small

halt_said : (at : ℕ) (o : Option Data) (halt : Bool) → halt_by at o ≡ Ok halt → MatchOption o (halt ≡ false) (λ v. v ≡ boolean halt)
halt_said at None halt is = sym (same_ok false halt is)
halt_said at (Some v) halt is = boolean_is v halt (some_of (as_bool v) (WrongType (path_to (place.Cause at) key.Halt)) halt is)

halt_read : (at : ℕ) (o : Option Data) (halt : Bool) → MatchOption o (halt ≡ false) (λ v. v ≡ boolean halt) → halt_by at o ≡ Ok halt
halt_read at None halt says = ap Ok (sym says)
halt_read at (Some v) halt says = ap (flag_of (path_to (place.Cause at) key.Halt)) says

fresh_said : (done : List CauseAt) (visits : ℕ) (path : Path) (cpu : ℕ) (t : Members) (n : ℕ) → visit_at done visits path cpu t ≡ Ok n →
    SaysNumber t (key_text path.key) n × (1 ≤ n) × (n ≤ visits) × (list_any (is_of cpu n) done ≡ false)
fresh_said done visits path cpu t n is =
    let (m, there, rest) = split (number_at path 1 visits t) (visit_after done path cpu) n is in
    let (says, low, high) = number_said path 1 visits t m there in
    let (fresh, same) = if_err (list_any (is_of cpu m) done) m n (Range path (pos m)) rest in
    let P : ℕ → Type 0 = λ k. SaysNumber t (key_text path.key) k × (1 ≤ k) × (k ≤ visits) × (list_any (is_of cpu k) done ≡ false) in
    subst P same (says, low, high, fresh)

fresh_read : (done : List CauseAt) (visits : ℕ) (path : Path) (cpu : ℕ) (t : Members) (n : ℕ) → SaysNumber t (key_text path.key) n → 1 ≤ n → n ≤ visits → list_any (is_of cpu n) done ≡ false → visit_at done visits path cpu t ≡ Ok n
fresh_read done visits path cpu t n says low high fresh =
    joined (number_at path 1 visits t) (visit_after done path cpu) n n (number_read path 1 visits t n says low high) (err_if (list_any (is_of cpu n) done) n (Range path (pos n)) fresh)

abbrev cause : ℕ → ℕ → Bool → Option IoCause → CauseAt
cause cpu visit halt io = record { cpu = cpu; visit = visit; cause = record { halt = halt; io = io } }

-- a cause fits after those before it
abbrev pub CauseFits : ℕ → ℕ → List CauseAt → CauseAt → Type 0
CauseFits n visits done c = (cause_fits n visits c ≡ true) × (has_port c ≡ true) × (list_any (λ x. same_visit x c) done ≡ false)

cause_said : (n visits : ℕ) (done : List CauseAt) (at : ℕ) (t : Members) (c : CauseAt) → 1 ≤ n → cause_in n visits done at t ≡ Ok c → SaysCause t c × CauseFits n visits done c
cause_said n visits done at t c some is =
    let (cpu, cpu_is, rest0) = split (number_at (path_to (place.Cause at) key.Cpu) 0 (n - 1) t) (λ cpu. read_then (visit_at done visits (path_to (place.Cause at) key.Visit) cpu t) (λ visit. read_then (halt_at at t) (λ halt. read_then (io_at at t) (λ io. and_no_other (place.Cause at) cause_keys t (cause cpu visit halt io))))) c is in
    let (visit, visit_is, rest1) = split (visit_at done visits (path_to (place.Cause at) key.Visit) cpu t) (λ visit. read_then (halt_at at t) (λ halt. read_then (io_at at t) (λ io. and_no_other (place.Cause at) cause_keys t (cause cpu visit halt io)))) c rest0 in
    let (halt, halt_is, rest2) = split (halt_at at t) (λ halt. read_then (io_at at t) (λ io. and_no_other (place.Cause at) cause_keys t (cause cpu visit halt io))) c rest1 in
    let (io, io_is, rest3) = split (io_at at t) (λ io. and_no_other (place.Cause at) cause_keys t (cause cpu visit halt io)) c rest2 in
    let (cpu_says, cpu_low, cpu_high) = number_said (path_to (place.Cause at) key.Cpu) 0 (n - 1) t cpu cpu_is in
    let (visit_says, visit_low, visit_high, fresh) = fresh_said done visits (path_to (place.Cause at) key.Visit) cpu t visit visit_is in
    let halt_says = halt_said at (found_at (path_to (place.Cause at) key.Halt) t) halt halt_is in
    let (io_says, io_small) = io_said at (found_at (path_to (place.Cause at) key.Io) t) io io_is in
    let (same, others) = others_said (place.Cause at) cause_keys (codes "cpu" ∷ codes "visit" ∷ codes "halt" ∷ codes "io" ∷ []) (λ name. refl) t (cause cpu visit halt io) c rest3 in
    let below : nat_lt cpu n ≡ true = lt-ltb cpu n (omega (arith, some, cpu_high)) in
    let between : is_between 1 visits visit ≡ true = and_from (nat_le 1 visit) (nat_le visit visits) (le-leb 1 visit visit_low) (le-leb visit visits visit_high) in
    subst (λ x. SaysCause t x × CauseFits n visits done x) same
    (record { cpu_is = cpu_says; visit_is = visit_says; halt_is = halt_says; io_is = io_says; only = others }, (and_from (nat_lt cpu n) (is_between 1 visits visit) below between, io_small, fresh))

cause_read : (n visits : ℕ) (done : List CauseAt) (at : ℕ) (t : Members) (c : CauseAt) → SaysCause t c → CauseFits n visits done c → cause_in n visits done at t ≡ Ok c
cause_read n visits done at t c says (fits, small, fresh) =
    let (below, between) = and_parts (nat_lt c.cpu n) (is_between 1 visits c.visit) fits in
    let (low, high) = and_parts (nat_le 1 c.visit) (nat_le c.visit visits) between in
    let cpu_below = ltb-true c.cpu n below in
    let cpu_high : c.cpu ≤ n - 1 = omega (arith, cpu_below) in
    joined (number_at (path_to (place.Cause at) key.Cpu) 0 (n - 1) t) (λ cpu. read_then (visit_at done visits (path_to (place.Cause at) key.Visit) cpu t) (λ visit. read_then (halt_at at t) (λ halt. read_then (io_at at t) (λ io. and_no_other (place.Cause at) cause_keys t (cause cpu visit halt io))))) (c.cpu) (c) (number_read (path_to (place.Cause at) key.Cpu) 0 (n - 1) t c.cpu says.cpu_is (omega arith) cpu_high)
    (joined (visit_at done visits (path_to (place.Cause at) key.Visit) c.cpu t) (λ visit. read_then (halt_at at t) (λ halt. read_then (io_at at t) (λ io. and_no_other (place.Cause at) cause_keys t (cause c.cpu visit halt io)))) (c.visit) (c) (fresh_read done visits (path_to (place.Cause at) key.Visit) c.cpu t c.visit says.visit_is (leb-true 1 c.visit low) (leb-true c.visit visits high) fresh)
    (joined (halt_at at t) (λ halt. read_then (io_at at t) (λ io. and_no_other (place.Cause at) cause_keys t (cause c.cpu c.visit halt io))) (c.cause.halt) (c) (halt_read at (found_at (path_to (place.Cause at) key.Halt) t) c.cause.halt says.halt_is)
    (joined (io_at at t) (λ io. and_no_other (place.Cause at) cause_keys t (cause c.cpu c.visit c.cause.halt io)) (c.cause.io) (c) (io_read at (found_at (path_to (place.Cause at) key.Io) t) c.cause.io says.io_is small) (others_read (place.Cause at) cause_keys (codes "cpu" ∷ codes "visit" ∷ codes "halt" ∷ codes "io" ∷ []) (λ name. refl) t c says.only))))

pub entry_cause_said : (n visits : ℕ) → 1 ≤ n → (done : List CauseAt) (v : Data) (c : CauseAt) → cause_after n visits done v ≡ Ok c → IsTableOf (λ t. SaysCause t c) v × CauseFits n visits done c
entry_cause_said n visits some done v c is =
    let (t, there, rest) = split (entry_of (place.Cause (length done)) v) (cause_in n visits done (length done)) c is in
    let (says, fits) = cause_said n visits done (length done) t c some rest in
    ((t, entry_said (place.Cause (length done)) v t there, says), fits)

pub entry_cause_read : (n visits : ℕ) (done : List CauseAt) (v : Data) (c : CauseAt) → IsTableOf (λ t. SaysCause t c) v → CauseFits n visits done c → cause_after n visits done v ≡ Ok c
entry_cause_read n visits done v c (t, there, says) fits =
    joined (entry_of (place.Cause (length done)) v) (cause_in n visits done (length done)) t c (entry_read (place.Cause (length done)) v t there) (cause_read n visits done (length done) t c says fits)
