-- The tables behind the top one, each with what may be wrong with it.
use Rattle.std.proofs.Common.{◌≡◌, ◌⊎◌, inl, inr, ℕ, ℤ, zero, suc, pos, negsuc, ◌+◌, ◌-◌, ◌<◌, ◌≤◌, Bool, true, false, not, ◌&&◌, ◌||◌, ◌==◌, nat_le, List, [], ◌∷◌, length, get_or, Option, Some, None, Ok, Err, cond, codes, refl, ap, sym, subst, ◌∙◌, le-leb, lt-ltb, IsTrue, if◌then◌else◌, arith}
use Rattle.std.specs.Prelude.{MatchOption, ok_or}
use Rattle.std.specs.List.{list_any, position_or_len}
use Rattle.std.specs.Option.{option_and_then}
use Rattle.std.proofs.lemmas.Bool.{and_parts, and_from, leb-true, eqb-true, eq-eqb, false≢true}
use Rattle.std.proofs.lemmas.Bool.Decides.{nat_tests}
use Rattle.std.proofs.lemmas.Option.{same_Some, none-some}
use Rattle.std.proofs.lemmas.List.Quantifiers.{position-Some}
use Rattle.std.proofs.lemmas.Slice.Eq.{bytes_eq-Decides}
use Rattle.toml.specs.Data.{Data, integer, string, boolean, array, table, Items, Members, get_member, as_str, as_bool, as_integer, as_array, as_table}
use Rattle.smm_base.specs.Kinds.{is_io_length, is_io_type}
use Rattle.cpu_table.specs.Ranges.{is_name, same_text}
use Rattle.cpu_table.specs.declared.handlers.HandlerDef.{HandlerDef}
use Rattle.cpu_table.specs.declared.handlers.OpDef.{OpDef}
use Rattle.cpu_table.specs.declared.handlers.ProcedureDef.{ProcedureDef}
use Rattle.cpu_table.specs.declared.setup.CauseAt.{CauseAt}
use Rattle.cpu_table.specs.declared.waves.Wave.{Wave}
use Rattle.platform_document.specs.declared.path.TablePlace.{TablePlace}
use Rattle.platform_document.specs.declared.path.TablePlace.TheVariants as place
use Rattle.platform_document.specs.declared.path.Key.TheVariants as key
use Rattle.platform_document.specs.declared.path.Path.{Path}
use Rattle.platform_document.specs.declared.fault.WalkFault.{WalkFault}
use Rattle.platform_document.specs.declared.fault.WalkFault.TheVariants.{WrongType, NoTable, Word, Range}
use Rattle.platform_document.specs.Reading.{Reading, read_then, path_to, required, greatest, optional, data_list, list_at, entries_of, number_at, number_value, number_within, word_of, word_after, text_of, table_of, entry_of, each}
use Rattle.platform_document.specs.Words.{arrival_of, kind_of, act_of}
use Rattle.platform_file.specs.Area.{size_after, size_at, area_keys, area_in, area_of, area_at}
use Rattle.platform_file.specs.Waves.{wave_keys, wave_in, wave_after, waves_at}
use Rattle.platform_file.specs.Operations.{text_is, has_name, handler_named, operation_in, operation_after}
use Rattle.platform_file.specs.Handlers.{name_unless, name_at, has_handler, has_procedure, operations_at, handler_keys, handler_in, handler_after, handlers_in, handlers_at, procedure_keys, procedure_in, procedure_after, procedures_at}
use Rattle.platform_file.specs.Causes.{one_of, io_keys, instruction_in, io_by, io_at, halt_by, halt_at, is_of, visit_after, visit_at, cause_keys, cause_in, cause_after, causes_at}
use Rattle.platform_laws.specs.Words.{arrival_text, act_text}
use Rattle.platform_laws.specs.Values.{SaysNumber, SaysText, IsTableOf}
use Rattle.platform_laws.specs.ValueFaults.{KeyFault, OptionFault, NumberFault, ChoiceFault, WordFault, FlagFault, TableFault, SomeFault, ListFault, TablesFault, IsAmong}
use Rattle.platform_laws.specs.Faults.{at_top, IsPrinted, IsSomeKind, IsNamed, IsNewName, IsFileName, SizeFault, AreaFault, SmramFault, WaveFault, WavesFault, OperationFault, NewNameFault, OperationsFault, HandlerFault, HandlersFault, ProcedureFault, ProceduresFault, IoFault, VisitFault, CauseFault, CausesFault}
use Rattle.platform_laws.proofs.Readings.{err_ok, integer_is, string_is, boolean_is, number_said}
use Rattle.platform_laws.proofs.Words.{arrival_said, arrival_read, act_said, act_read}
use Rattle.platform_laws.proofs.Tables.{entry_handler_said, entry_procedure_said, entry_cause_said, length_below, type_below}
use Rattle.platform_laws.proofs.Judging.{Judges, same_err, same_pos, neg_pos, judge_same, judge_then, judge_last, then_twice, judge_test, judge_untest, judge_kind, judge_kind_only, judge_required, judge_option, judge_number_at, judge_list, judge_list_at, Zips, zips_length, judge_each, judge_table, judge_names, number_once, text_once}
use Rattle.platform_laws.proofs.JudgedParts.{AreNames, judge_printed, judge_printed_word, judge_kind_word, judge_start, judge_answer, judge_register, judge_operation}

-- one of the values is such a one where one of those that were read of them passes
pub among_any : {A : Type 0} (Says : Data → A → Type 0) (IsSuch : Data → Type 0) (p : A → Bool) → ((v : Data) (x : A) → Says v x → IsSuch v → p x ≡ true) → (vs : List Data) (xs : List A) → Zips Says vs xs → IsAmong IsSuch vs → list_any p xs ≡ true
among_any Says IsSuch p passes [] [] zips among = absurd among
among_any Says IsSuch p passes [] (x ∷ xs) zips among = absurd zips
among_any Says IsSuch p passes (v ∷ vs) [] zips among = absurd zips
among_any Says IsSuch p passes (v ∷ vs) (x ∷ xs) zips (inl such) = ap (λ b. b || list_any p xs) (passes v x zips.0 such)
among_any Says IsSuch p passes (v ∷ vs) (x ∷ xs) zips (inr more) = any_later (p x) (list_any p xs) (among_any Says IsSuch p passes vs xs zips.1 more) where
  any_later : (a b : Bool) → b ≡ true → a || b ≡ true
  any_later true b is = refl
  any_later false b is = is

pub any_among : {A : Type 0} (Says : Data → A → Type 0) (IsSuch : Data → Type 0) (p : A → Bool) → ((v : Data) (x : A) → Says v x → p x ≡ true → IsSuch v) → (vs : List Data) (xs : List A) → Zips Says vs xs → list_any p xs ≡ true → IsAmong IsSuch vs
any_among Says IsSuch p such [] [] zips any = false≢true any
any_among Says IsSuch p such [] (x ∷ xs) zips any = absurd zips
any_among Says IsSuch p such (v ∷ vs) [] zips any = absurd zips
any_among Says IsSuch p such (v ∷ vs) (x ∷ xs) zips any = by_test (p x) refl any (any_among Says IsSuch p such vs xs zips.1) where
  by_test : (b : Bool) → p x ≡ b → b || list_any p xs ≡ true → (list_any p xs ≡ true → IsAmong IsSuch vs) → IsSuch v ⊎ IsAmong IsSuch vs
  by_test true e any later = inl (such v x zips.0 e)
  by_test false e any later = inr (later any)

-- a list of tables
pub judge_entries : {A : Type 0} (place : ℕ → TablePlace) (inner : List A → ℕ → Members → Reading A) (Says : Data → A → Type 0) (IsWrong : List Data → ℕ → Members → WalkFault → Type 0) →
    ((done : List A) (v : Data) (x : A) → read_then (entry_of (place (length done)) v) (inner done (length done)) ≡ Ok x → Says v x) →
    ((before : List Data) (done : List A) → Zips Says before done → (at : ℕ) (t : Members) → Judges (inner done at t) (IsWrong before at t)) → (vs : List Data) →
    Judges (each (λ done v. read_then (entry_of (place (length done)) v) (inner done (length done))) [] vs) (SomeFault (λ before w g. TableFault (NoTable (place (length before))) (IsWrong before (length before)) w g) [] vs)
judge_entries {A = A} place inner Says IsWrong said one vs =
    judge_each (λ done v. read_then (entry_of (place (length done)) v) (inner done (length done))) Says (λ before w g. TableFault (NoTable (place (length before))) (IsWrong before (length before)) w g) said at_place [] [] tt vs where
      at_place : (before : List Data) (done : List A) → Zips Says before done → (v : Data) →
          Judges (read_then (entry_of (place (length done)) v) (inner done (length done))) (λ g. TableFault (NoTable (place (length before))) (IsWrong before (length before)) v g)
      at_place before done zips v =
          subst (λ (k : ℕ). Judges (read_then (entry_of (place (length done)) v) (inner done (length done))) (λ g. TableFault (NoTable (place k)) (IsWrong before k) v g)) (zips_length Says before done zips)
          (judge_table (NoTable (place (length done))) v (inner done (length done)) (IsWrong before (length done)) (λ t is. one before done zips (length done) t))

past_end : (n : ℕ) → nat_le n 4294967296 ≡ false → 4294967296 < n
past_end n is = grind (arith, nat_tests)

-- the areas
judge_size : (base : ℕ) (t : Members) → SaysNumber t (codes "base") base → Judges (size_at base t) (SizeFault t)
judge_size base t base_says =
    judge_then (number_at (path_to place.Smram key.Size) 1 8388608 t) (size_after base) (KeyFault (path_to place.Smram key.Size) (NumberFault (path_to place.Smram key.Size) 1 8388608) t) _
    (judge_number_at (path_to place.Smram key.Size) 1 8388608 t) (λ size is. by_size size (number_said (path_to place.Smram key.Size) 1 8388608 t size is).0) where
      Past : WalkFault → Type 0
      Past f = (b : ℕ) × (size : ℕ) × SaysNumber t (codes "base") b × SaysNumber t (codes "size") size × (4294967296 < b + size) × (f ≡ Range (path_to place.Smram key.Size) (pos size))

      by_size : (size : ℕ) → SaysNumber t (codes "size") size → Judges (size_after base size) Past
      by_size size size_says =
          let judged = judge_test (nat_le (base + size) 4294967296) size (Range (path_to place.Smram key.Size) (pos size)) (4294967296 < base + size)
          (λ is past. let low = leb-true (base + size) 4294967296 is in omega (arith, low, past)) (λ is. past_end (base + size) is) in
          record {
            stops = λ f there. let out = judged.stops f there in (base, size, base_says, size_says, out.0, out.1);
            reads = λ x there f fault.
                let (b, s, b_says, s_says, past, told) = fault in
                let same_base = number_once t (codes "base") b base b_says base_says in
                let same_size = number_once t (codes "size") s size s_says size_says in
                judged.reads x there (Range (path_to place.Smram key.Size) (pos size)) (omega (arith, past, same_base, same_size), refl);
          }

judge_area : (t : Members) → Judges (area_in t) (AreaFault t)
judge_area t =
    judge_then _ _ _ _ (judge_number_at (path_to place.Smram key.Base) 0 greatest t) (λ base is.
    judge_then _ _ _ _ (judge_size base t (number_said (path_to place.Smram key.Base) 0 greatest t base is).0) (λ size size_is.
    judge_then _ _ _ _ (judge_number_at (path_to place.Smram key.Tile) 0 greatest t) (λ tile tile_is.
    judge_then _ _ _ _ (judge_number_at (path_to place.Smram key.Code) 0 greatest t) (λ code code_is.
    judge_names place.Smram area_keys (codes "base" ∷ codes "size" ∷ codes "tile" ∷ codes "code" ∷ []) (λ name. refl) t _))))

pub judge_smram : (t : Members) → Judges (area_at t) (SmramFault t)
judge_smram t =
    judge_option (at_top key.Smram) t (λ o. read_then (optional (table_of (at_top key.Smram)) o) area_of) (TableFault (WrongType (at_top key.Smram)) AreaFault) None refl
    (λ v there. judge_same _ (read_then (ok_or (as_table v) (WrongType (at_top key.Smram))) (λ e. area_of (Some e))) (TableFault (WrongType (at_top key.Smram)) AreaFault v)
    (then_twice (table_of (at_top key.Smram) v) (λ e. Ok (Some e)) area_of)
    (judge_table (WrongType (at_top key.Smram)) v (λ e. area_of (Some e)) AreaFault (λ e is. judge_last _ _ _ (judge_area e))))

-- the waves
judge_words : {A : Type 0} (path : Path) (first last : ℕ) (find : List ℕ → Option A) (IsWord : List ℕ → Type 0) → ((v : Data) → Judges (word_of path find v) (WordFault path IsWord v)) → (t : Members) →
    Judges (read_then (list_at path first last t) (each (word_after path find) [])) (KeyFault path (ListFault path first last (λ before v g. WordFault path IsWord v g)) t)
judge_words path first last find IsWord one t =
    judge_list_at path first last (each (word_after path find) []) (λ before v g. WordFault path IsWord v g) t
    (λ vs low high. judge_each (word_after path find) (λ v x. Unit {0}) (λ before v g. WordFault path IsWord v g) (λ done v x is. tt) (λ before done zips v. one v) [] [] tt vs)

judge_wave : (n : ℕ) (at : TablePlace) (t : Members) → Judges (wave_in n at t) (WaveFault n at t)
judge_wave n at t =
    judge_then _ _ _ _ (judge_words (path_to at key.Status) n n arrival_of (IsPrinted arrival_text) (judge_printed_word (path_to at key.Status) arrival_of arrival_text arrival_read arrival_said) t) (λ status is.
    judge_then _ _ _ _ (judge_words (path_to at key.Manage) 0 16 kind_of IsSomeKind (judge_kind_word (path_to at key.Manage)) t) (λ manage manage_is.
    judge_names at wave_keys (codes "status" ∷ codes "manage" ∷ []) (λ name. refl) t _))

pub judge_waves : (n visits : ℕ) (t : Members) → Judges (waves_at n visits t) (WavesFault n visits t)
judge_waves n visits t =
    judge_list_at (at_top key.Wave) 1 visits (each (wave_after n) []) (λ before w g. TableFault (NoTable (place.Wave (length before))) (WaveFault n (place.Wave (length before))) w g) t
    (λ vs low high. judge_entries (λ at. place.Wave at) (λ (done : List Wave) at. wave_in n (place.Wave at)) (λ v w. Unit {0}) (λ before at. WaveFault n (place.Wave at)) (λ done v w is. tt)
    (λ before done zips at e. judge_wave n (place.Wave at) e) vs)

-- names
same_named : (a b : List ℕ) (v : Data) → IsNamed a v → IsNamed b v → a ≡ b
same_named a b v (t, same, one) (u, also, other) =
    text_once t (codes "name") a b one (subst (λ w. SaysText w (codes "name") b) (same_Some u t (ap as_table (sym also ∙ same))) other)

judge_name : (taken : List ℕ → Bool) (before : List Data) → ((text : List ℕ) → IsAmong (IsNamed text) before → taken text ≡ true) → ((text : List ℕ) → taken text ≡ true → IsAmong (IsNamed text) before) →
    (at : TablePlace) (t : Members) → Judges (name_at taken (path_to at key.Name) t) (NewNameFault before at t)
judge_name taken before among any at t =
    judge_same (name_at taken (path_to at key.Name) t) (read_then (required (path_to at key.Name) t) (λ v. read_then (text_of (path_to at key.Name) v) (λ name. name_unless (taken name) (path_to at key.Name) name))) (NewNameFault before at t)
    (then_twice (required (path_to at key.Name) t) (text_of (path_to at key.Name)) (λ name. name_unless (taken name) (path_to at key.Name) name))
    (judge_required (path_to at key.Name) t (λ v. read_then (text_of (path_to at key.Name) v) (λ name. name_unless (taken name) (path_to at key.Name) name)) (WordFault (path_to at key.Name) (IsNewName before))
    (λ v. judge_kind as_str (λ s. string s) (WrongType (path_to at key.Name)) (λ s. refl) string_is v (λ name. name_unless (taken name) (path_to at key.Name) name) (λ text g. (IsNewName before text → ⊥) × (g ≡ Word (path_to at key.Name)))
    (λ text is. judge_test (is_name text && not (taken text)) text (Word (path_to at key.Name)) (IsNewName before text → ⊥)
    (λ good bad. let (named, fresh) = and_parts (is_name text) (not (taken text)) good in bad (named, λ there. false≢true (ap not (sym (among text there)) ∙ fresh)))
    (λ bad good. false≢true (sym bad ∙ and_from (is_name text) (not (taken text)) good.0 (untaken text (taken text) refl good.1)))))) where
      untaken : (text : List ℕ) (b : Bool) → taken text ≡ b → (IsAmong (IsNamed text) before → ⊥) → not b ≡ true
      untaken text true e none = absurd (none (any text e))
      untaken text false e none = refl

-- the names of the file's handlers
named_of : (name : List ℕ) (v : Data) → has_name name v ≡ true → IsNamed name v
named_of name (table t) is = (t, refl, by_member (get_member (codes "name") t) is) where
  by_text : (v : Data) (o : Option (List ℕ)) → as_str v ≡ o → text_is name o ≡ true → v ≡ string name
  by_text v None e is = absurd (false≢true is)
  by_text v (Some text) e is = string_is v text e ∙ ap string ((bytes_eq-Decides text name).0 is)

  by_member : (o : Option Data) → text_is name (option_and_then as_str o) ≡ true → o ≡ Some (string name)
  by_member None is = absurd (false≢true is)
  by_member (Some v) is = ap Some (by_text v (as_str v) refl is)
named_of name _ is = absurd (false≢true is)

has_named : (name : List ℕ) (v : Data) → IsNamed name v → has_name name v ≡ true
has_named name v (t, same, says) = ap (has_name name) same ∙ ap (λ o. text_is name (option_and_then as_str o)) says ∙ (bytes_eq-Decides name name).1 refl

got_among : (IsSuch : Data → Type 0) (vs : List Data) (at : ℕ) (d : Data) → at < length vs → IsSuch (get_or vs at d) → IsAmong IsSuch vs
got_among IsSuch [] at d within such = absurd (omega (arith, within))
got_among IsSuch (v ∷ vs) zero d within such = inl such
got_among IsSuch (v ∷ vs) (suc at) d within such = inr (got_among IsSuch vs at d (omega (arith, within)) such)

among_within : (name : List ℕ) (vs : List Data) → IsAmong (IsNamed name) vs → position_or_len (has_name name) vs < length vs
among_within name [] among = absurd among
among_within name (v ∷ vs) among = by_test (has_name name v) refl (among_within name vs) among where
  by_test : (b : Bool) → has_name name v ≡ b → (IsAmong (IsNamed name) vs → position_or_len (has_name name) vs < length vs) → IsNamed name v ⊎ IsAmong (IsNamed name) vs → cond (not b) (1 + position_or_len (has_name name) vs) 0 < length (v ∷ vs)
  by_test true e within among = omega arith
  by_test false e within (inl named) = absurd (false≢true (sym e ∙ has_named name v named))
  by_test false e within (inr more) = let later = within more in omega (arith, later)

file_names : (t : Members) (v : Data) (items : Items) → get_member (codes "handler") t ≡ Some v → v ≡ array items → AreNames (data_list items) (IsFileName t)
file_names t v items there is = record {
  none = λ text none named. not_found text none (from_file text named);
  some = λ text at found.
      let first = position-Some (has_name text) (data_list items) at (boolean true) found in
      to_file text (got_among (IsNamed text) (data_list items) at (boolean true) first.0 (named_of text (get_or (data_list items) at (boolean true)) first.1));
} where
  Names : List ℕ → Option Data → Type 0
  Names name o = MatchOption o ⊥ (λ w. (found : Items) × (w ≡ array found) × IsAmong (IsNamed name) (data_list found))

  from_file : (name : List ℕ) → IsFileName t name → IsAmong (IsNamed name) (data_list items)
  from_file name named =
      let (found, same, among) = subst (Names name) there named in
      subst (λ (xs : Items). IsAmong (IsNamed name) (data_list xs)) (same_Some found items (ap as_array (sym same ∙ is))) among

  to_file : (name : List ℕ) → IsAmong (IsNamed name) (data_list items) → IsFileName t name
  to_file name among = subst (Names name) (sym there) (items, is, among)

  not_found : (name : List ℕ) → handler_named (data_list items) name ≡ None → IsAmong (IsNamed name) (data_list items) → ⊥
  not_found name none among =
      none-some (position_or_len (has_name name) (data_list items))
      (sym none ∙ ap (λ b. cond b (Some (position_or_len (has_name name) (data_list items))) None) (lt-ltb (position_or_len (has_name name) (data_list items)) (length (data_list items)) (among_within name (data_list items) among)))

-- the handlers
judge_operations : (entries : List Data) (IsName : List ℕ → Type 0) → AreNames entries IsName → (handler : ℕ) (t : Members) → Judges (operations_at entries handler t) (OperationsFault IsName handler t)
judge_operations entries IsName names handler t =
    judge_list_at (path_to (place.Handler handler) key.Ops) 0 64 (each (operation_after entries handler) []) (λ before w g. TableFault (NoTable (place.Operation handler (length before))) (OperationFault IsName (place.Operation handler (length before))) w g) t
    (λ vs low high. judge_entries (λ at. place.Operation handler at) (λ (done : List OpDef) at. operation_in entries (place.Operation handler at)) (λ v o. Unit {0}) (λ before at. OperationFault IsName (place.Operation handler at)) (λ done v o is. tt)
    (λ before done zips at e. judge_operation entries IsName names (place.Operation handler at) e) vs)

taken_among : {A : Type 0} (name_of : A → List ℕ) (before : List Data) (done : List A) → Zips (λ v x. IsNamed (name_of x) v) before done → (text : List ℕ) → IsAmong (IsNamed text) before → list_any (λ x. same_text (name_of x) text) done ≡ true
taken_among name_of before done zips text among =
    among_any (λ v x. IsNamed (name_of x) v) (IsNamed text) (λ x. same_text (name_of x) text) (λ v x one other. (bytes_eq-Decides (name_of x) text).1 (same_named (name_of x) text v one other)) before done zips among

among_taken : {A : Type 0} (name_of : A → List ℕ) (before : List Data) (done : List A) → Zips (λ v x. IsNamed (name_of x) v) before done → (text : List ℕ) → list_any (λ x. same_text (name_of x) text) done ≡ true → IsAmong (IsNamed text) before
among_taken name_of before done zips text any =
    any_among (λ v x. IsNamed (name_of x) v) (IsNamed text) (λ x. same_text (name_of x) text) (λ v x one same. subst (λ (name : List ℕ). IsNamed name v) ((bytes_eq-Decides (name_of x) text).0 same) one) before done zips any

judge_handler : (entries : List Data) (IsName : List ℕ → Type 0) → AreNames entries IsName → (before : List Data) (done : List HandlerDef) → Zips (λ v (h : HandlerDef). IsNamed h.name v) before done →
    (at : ℕ) (t : Members) → Judges (handler_in entries done at t) (HandlerFault IsName before at t)
judge_handler entries IsName names before done zips at t =
    judge_then _ _ _ _ (judge_name (has_handler done) before (taken_among (λ (h : HandlerDef). h.name) before done zips) (among_taken (λ (h : HandlerDef). h.name) before done zips) (place.Handler at) t) (λ name is.
    judge_then _ _ _ _ (judge_start (path_to (place.Handler at) key.Type) t) (λ kind kind_is.
    judge_then _ _ _ _ (judge_answer (path_to (place.Handler at) key.Answer) t) (λ answer answer_is.
    judge_then _ _ _ _ (judge_operations entries IsName names at t) (λ ops ops_is.
    judge_names (place.Handler at) handler_keys (codes "name" ∷ codes "type" ∷ codes "answer" ∷ codes "ops" ∷ []) (λ name. refl) t _))))

handler_name : (entries : List Data) (done : List HandlerDef) (v : Data) (h : HandlerDef) → handler_after entries done v ≡ Ok h → IsNamed h.name v
handler_name entries done v h is = let (t, same, says) = (entry_handler_said entries done v h is).0 in (t, same, says.name_is)

pub judge_handlers : (t : Members) → Judges (handlers_at t) (HandlersFault t)
judge_handlers t =
    judge_option (at_top key.Handler) t (λ o. read_then (entries_of (at_top key.Handler) 64 o) handlers_in) (TablesFault (at_top key.Handler) 0 64 (λ at. place.Handler at) (HandlerFault (IsFileName t))) [] refl
    (λ v there. judge_list (at_top key.Handler) 0 64 handlers_in (λ before w g. TableFault (NoTable (place.Handler (length before))) (HandlerFault (IsFileName t) before (length before)) w g) v
    (λ items is low high. judge_entries (λ at. place.Handler at) (λ done at. handler_in (data_list items) done at) (λ v (h : HandlerDef). IsNamed h.name v) (HandlerFault (IsFileName t)) (handler_name (data_list items))
    (judge_handler (data_list items) (IsFileName t) (file_names t v items there is)) (data_list items)))

-- the procedures
judge_procedure : (before : List Data) (done : List ProcedureDef) → Zips (λ v (p : ProcedureDef). IsNamed p.name v) before done → (at : ℕ) (t : Members) → Judges (procedure_in done (place.Procedure at) t) (ProcedureFault before (place.Procedure at) t)
judge_procedure before done zips at t =
    judge_then _ _ _ _ (judge_name (has_procedure done) before (taken_among (λ (p : ProcedureDef). p.name) before done zips) (among_taken (λ (p : ProcedureDef). p.name) before done zips) (place.Procedure at) t) (λ name is.
    judge_then _ _ _ _ (judge_printed (path_to (place.Procedure at) key.Act) act_of act_text act_read act_said t) (λ act act_is.
    judge_then _ _ _ _ (judge_register (place.Procedure at) t) (λ reg reg_is.
    judge_names (place.Procedure at) procedure_keys (codes "name" ∷ codes "act" ∷ codes "reg" ∷ []) (λ name. refl) t _)))

procedure_name : (done : List ProcedureDef) (v : Data) (p : ProcedureDef) → procedure_after done v ≡ Ok p → IsNamed p.name v
procedure_name done v p is = let (t, same, says) = (entry_procedure_said done v p is).0 in (t, same, says.name_is)

pub judge_procedures : (t : Members) → Judges (procedures_at t) (ProceduresFault t)
judge_procedures t =
    judge_option (at_top key.Procedure) t (λ o. read_then (entries_of (at_top key.Procedure) 64 o) (each procedure_after [])) (TablesFault (at_top key.Procedure) 0 64 (λ at. place.Procedure at) (λ before at. ProcedureFault before (place.Procedure at))) [] refl
    (λ v there. judge_list (at_top key.Procedure) 0 64 (each procedure_after []) (λ before w g. TableFault (NoTable (place.Procedure (length before))) (ProcedureFault before (place.Procedure (length before))) w g) v
    (λ items is low high. judge_entries (λ at. place.Procedure at) (λ done at. procedure_in done (place.Procedure at)) (λ v (p : ProcedureDef). IsNamed p.name v) (λ before at. ProcedureFault before (place.Procedure at)) procedure_name judge_procedure (data_list items)))

-- the causes
judge_choice : (path : Path) (is_there : ℕ → Bool) → ((n : ℕ) → is_there n ≡ true → n ≤ 255) → (t : Members) → Judges (read_then (number_at path 0 255 t) (one_of path is_there)) (KeyFault path (ChoiceFault path is_there) t)
judge_choice path is_there below t =
    judge_same _ (read_then (required path t) (λ v. read_then (number_value path 0 255 v) (one_of path is_there))) (KeyFault path (ChoiceFault path is_there) t) (then_twice (required path t) (number_value path 0 255) (one_of path is_there))
    (judge_required path t (λ v. read_then (number_value path 0 255 v) (one_of path is_there)) (ChoiceFault path is_there)
    (λ v. judge_same _ (read_then (ok_or (as_integer v) (WrongType path)) (λ z. read_then (number_within path 0 255 z) (one_of path is_there))) (ChoiceFault path is_there v)
    (then_twice (ok_or (as_integer v) (WrongType path)) (number_within path 0 255) (one_of path is_there))
    (judge_kind as_integer (λ z. integer z) (WrongType path) (λ z. refl) integer_is v (λ z. read_then (number_within path 0 255 z) (one_of path is_there)) (λ z g. NoChoice z × (g ≡ Range path z)) (λ z is. by_number z)))) where
      NoChoice : ℤ → Type 0
      NoChoice z = (n : ℕ) → z ≡ pos n → IsTrue (is_there n) → ⊥

      by_test : (n : ℕ) (b : Bool) → (nat_le 0 n && nat_le n 255) ≡ b → Judges (read_then (if b then Ok n else Err (Range path (pos n))) (one_of path is_there)) (λ g. NoChoice (pos n) × (g ≡ Range path (pos n)))
      by_test n true e = judge_test (is_there n) n (Range path (pos n)) (NoChoice (pos n)) (λ yes none. none n refl yes) (λ no m same yes. false≢true (sym no ∙ ap is_there (same_pos n m same) ∙ yes))
      by_test n false e = record {
        stops = λ f is. (
          (λ m same yes.
              let back = same_pos n m same in
              false≢true (sym e ∙ and_from (nat_le 0 n) (nat_le n 255) (le-leb 0 n (omega arith)) (le-leb n 255 (subst (λ (k : ℕ). k ≤ 255) (sym back) (below m yes))))),
          sym (same_err (Range path (pos n)) f is),
        );
        reads = λ x is f fault. err_ok (Range path (pos n)) x is;
      }

      by_number : (z : ℤ) → Judges (read_then (number_within path 0 255 z) (one_of path is_there)) (λ g. NoChoice z × (g ≡ Range path z))
      by_number (pos n) = by_test n (nat_le 0 n && nat_le n 255) refl
      by_number (negsuc n) = record { stops = λ f is. ((λ m same yes. neg_pos n m same), sym (same_err (Range path (negsuc n)) f is)); reads = λ x is f fault. err_ok (Range path (negsuc n)) x is }

judge_io : (at : TablePlace) (t : Members) → Judges (instruction_in at t) (IoFault at t)
judge_io at t =
    judge_then _ _ _ _ (judge_number_at (path_to at key.Port) 0 65535 t) (λ port is.
    judge_then _ _ _ _ (judge_choice (path_to at key.Length) is_io_length length_below t) (λ length length_is.
    judge_then _ _ _ _ (judge_choice (path_to at key.Type) is_io_type type_below t) (λ kind kind_is.
    judge_names at io_keys (codes "port" ∷ codes "length" ∷ codes "type" ∷ []) (λ name. refl) t _)))

judge_io_at : (at : ℕ) (t : Members) → Judges (io_at at t) (λ f. OptionFault (path_to (place.Cause at) key.Io) (TableFault (WrongType (path_to (place.Cause at) key.Io)) (IoFault (place.Io at))) t f)
judge_io_at at t =
    judge_option (path_to (place.Cause at) key.Io) t (io_by at) (TableFault (WrongType (path_to (place.Cause at) key.Io)) (IoFault (place.Io at))) None refl
    (λ v there. judge_table (WrongType (path_to (place.Cause at) key.Io)) v (instruction_in (place.Io at)) (IoFault (place.Io at)) (λ e is. judge_io (place.Io at) e))

judge_halt_at : (at : ℕ) (t : Members) → Judges (halt_at at t) (λ f. OptionFault (path_to (place.Cause at) key.Halt) (FlagFault (path_to (place.Cause at) key.Halt)) t f)
judge_halt_at at t =
    judge_option (path_to (place.Cause at) key.Halt) t (halt_by at) (FlagFault (path_to (place.Cause at) key.Halt)) false refl
    (λ v there. judge_kind_only as_bool (λ b. boolean b) (WrongType (path_to (place.Cause at) key.Halt)) (λ b. refl) boolean_is v)

-- a value is a table of a cause of this visit
abbrev IsVisit : ℕ → ℕ → Data → Type 0
IsVisit cpu visit v = IsTableOf (λ e. SaysNumber e (codes "cpu") cpu × SaysNumber e (codes "visit") visit) v

abbrev SaysVisit : Data → CauseAt → Type 0
SaysVisit v c = IsVisit c.cpu c.visit v

same_visits : (a b c d : ℕ) (v : Data) → IsVisit a b v → IsVisit c d v → (a ≡ c) × (b ≡ d)
same_visits a b c d v (t, same, (one, first)) (u, also, (other, second)) =
    let e : u ≡ t = same_Some u t (ap as_table (sym also ∙ same)) in
    (number_once t (codes "cpu") a c one (subst (λ w. SaysNumber w (codes "cpu") c) e other), number_once t (codes "visit") b d first (subst (λ w. SaysNumber w (codes "visit") d) e second))

is_of_true : (cpu visit : ℕ) (x : CauseAt) → x.cpu ≡ cpu → x.visit ≡ visit → is_of cpu visit x ≡ true
is_of_true cpu visit x a b = and_from (x.cpu == cpu) (x.visit == visit) (eq-eqb x.cpu cpu a) (eq-eqb x.visit visit b)

visit_such : (cpu visit : ℕ) (v : Data) (x : CauseAt) → SaysVisit v x → is_of cpu visit x ≡ true → IsVisit cpu visit v
visit_such cpu visit v x (t, same, (one, first)) is =
    let (a, b) = and_parts (x.cpu == cpu) (x.visit == visit) is in
    (t, same, (subst (λ (k : ℕ). SaysNumber t (codes "cpu") k) (eqb-true x.cpu cpu a) one, subst (λ (k : ℕ). SaysNumber t (codes "visit") k) (eqb-true x.visit visit b) first))

judge_visit : (visits : ℕ) (before : List Data) (done : List CauseAt) → Zips SaysVisit before done → (at : ℕ) (cpu : ℕ) (t : Members) → SaysNumber t (codes "cpu") cpu →
    Judges (visit_at done visits (path_to (place.Cause at) key.Visit) cpu t) (VisitFault visits before (path_to (place.Cause at) key.Visit) t)
judge_visit visits before done zips at cpu t cpu_says =
    judge_then (number_at (path_to (place.Cause at) key.Visit) 1 visits t) (visit_after done (path_to (place.Cause at) key.Visit) cpu) (KeyFault (path_to (place.Cause at) key.Visit) (NumberFault (path_to (place.Cause at) key.Visit) 1 visits) t) Again
    (judge_number_at (path_to (place.Cause at) key.Visit) 1 visits t) (λ visit is. by_visit visit (number_said (path_to (place.Cause at) key.Visit) 1 visits t visit is).0) where
      Again : WalkFault → Type 0
      Again f = (c : ℕ) × (visit : ℕ) × SaysNumber t (codes "cpu") c × SaysNumber t (codes "visit") visit × IsAmong (IsVisit c visit) before × (f ≡ Range (path_to (place.Cause at) key.Visit) (pos visit))

      by_visit : (visit : ℕ) → SaysNumber t (codes "visit") visit → Judges (visit_after done (path_to (place.Cause at) key.Visit) cpu visit) Again
      by_visit visit visit_says =
          let judged = judge_untest (list_any (is_of cpu visit) done) visit (Range (path_to (place.Cause at) key.Visit) (pos visit)) (IsAmong (IsVisit cpu visit) before)
          (λ none among. false≢true (sym none ∙ among_any SaysVisit (IsVisit cpu visit) (is_of cpu visit)
          (λ v x one such. let (a, b) = same_visits x.cpu x.visit cpu visit v one such in is_of_true cpu visit x a b) before done zips among))
          (λ any. any_among SaysVisit (IsVisit cpu visit) (is_of cpu visit) (visit_such cpu visit) before done zips any) in
          record {
            stops = λ f there. let out = judged.stops f there in (cpu, visit, cpu_says, visit_says, out.0, out.1);
            reads = λ x there f fault.
                let (c, other, c_says, other_says, among, told) = fault in
                judged.reads x there (Range (path_to (place.Cause at) key.Visit) (pos visit)) (
                  subst (λ (k : ℕ). IsAmong (IsVisit cpu k) before) (number_once t (codes "visit") other visit other_says visit_says)
                      (subst (λ (k : ℕ). IsAmong (IsVisit k other) before) (number_once t (codes "cpu") c cpu c_says cpu_says) among),
                  refl,
                );
          }

judge_cause : (n visits : ℕ) (before : List Data) (done : List CauseAt) → Zips SaysVisit before done → (at : ℕ) (t : Members) → Judges (cause_in n visits done at t) (CauseFault n visits before at t)
judge_cause n visits before done zips at t =
    judge_then _ _ _ _ (judge_number_at (path_to (place.Cause at) key.Cpu) 0 (n - 1) t) (λ cpu is.
    judge_then _ _ _ _ (judge_visit visits before done zips at cpu t (number_said (path_to (place.Cause at) key.Cpu) 0 (n - 1) t cpu is).0) (λ visit visit_is.
    judge_then _ _ _ _ (judge_halt_at at t) (λ halt halt_is.
    judge_then _ _ _ _ (judge_io_at at t) (λ io io_is.
    judge_names (place.Cause at) cause_keys (codes "cpu" ∷ codes "visit" ∷ codes "halt" ∷ codes "io" ∷ []) (λ name. refl) t _))))

cause_visit : (n visits : ℕ) → 1 ≤ n → (done : List CauseAt) (v : Data) (c : CauseAt) → cause_after n visits done v ≡ Ok c → SaysVisit v c
cause_visit n visits some done v c is = let (t, same, says) = (entry_cause_said n visits some done v c is).0 in (t, same, (says.cpu_is, says.visit_is))

pub judge_causes : (n visits : ℕ) → 1 ≤ n → (t : Members) → Judges (causes_at n visits t) (CausesFault n visits t)
judge_causes n visits some t =
    judge_option (at_top key.Cause) t (λ o. read_then (entries_of (at_top key.Cause) 4096 o) (each (cause_after n visits) [])) (TablesFault (at_top key.Cause) 0 4096 (λ at. place.Cause at) (CauseFault n visits)) [] refl
    (λ v there. judge_list (at_top key.Cause) 0 4096 (each (cause_after n visits) []) (λ before w g. TableFault (NoTable (place.Cause (length before))) (CauseFault n visits before (length before)) w g) v
    (λ items is low high. judge_entries (λ at. place.Cause at) (λ done at. cause_in n visits done at) SaysVisit (CauseFault n visits) (cause_visit n visits some) (judge_cause n visits) (data_list items)))
