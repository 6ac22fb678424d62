-- The words of a file, and the parts that several tables have, each with what may be wrong with it.
use Rattle.std.proofs.Common.{◌≡◌, ◌⊎◌, inl, inr, ℕ, ℤ, List, ◌∷◌, Option, Some, None, Ok, Err, codes, refl, ap, sym, subst, ◌∙◌}
use Rattle.std.specs.Prelude.{ok_or}
use Rattle.std.specs.List.{list_any}
use Rattle.std.specs.Str.{bytes_eq}
use Rattle.std.proofs.lemmas.Option.{same_Some, none-some}
use Rattle.toml.specs.Data.{Data, integer, string, Members, as_integer, as_str}
use Rattle.smm_base.specs.Register.{register_text, register_named, register_number}
use Rattle.cpu_table.specs.declared.handlers.Operand.{Operand}
use Rattle.cpu_table.specs.declared.handlers.Operand.TheVariants.{Number}
use Rattle.platform_document.specs.declared.operand.Variable.{Variable}
use Rattle.platform_document.specs.declared.path.TablePlace.{TablePlace}
use Rattle.platform_document.specs.declared.path.Key.{Key}
use Rattle.platform_document.specs.declared.path.Key.TheVariants as key
use Rattle.platform_document.specs.declared.path.Path.{Path}
use Rattle.platform_document.specs.declared.fault.WalkFault.{WalkFault}
use Rattle.platform_document.specs.declared.fault.WalkFault.TheVariants.{WrongType, Word, Range}
use Rattle.platform_document.specs.declared.word.OperationWord.{OperationWord}
use Rattle.platform_document.specs.declared.word.OperationWord.TheVariants as word
use Rattle.platform_document.specs.Reading.{path_to, number_within, greatest, word_of, word_at, is_known, and_no_other}
use Rattle.platform_document.specs.Words.{answer_of, kind_of, start_list_of, variable_of, operand_of, operation_word}
use Rattle.platform_document.specs.CommonKeys.{cpu_at, register_at, width_at, into_at, kind_at}
use Rattle.platform_document.specs.Operands.{operand_by, operand_value, operand_at}
use Rattle.platform_file.specs.Operations.{handler_named, handler_at, operation_by, operation_keys, operation_as, operation_in}
use Rattle.platform_laws.specs.Words.{word_text}
use Rattle.platform_laws.specs.Says.{part_names}
use Rattle.platform_laws.specs.Values.{SaysText}
use Rattle.platform_laws.specs.ValueFaults.{KeyFault, IsOutside, WordFault, IsSomeOperand, OperandFault, NameFault}
use Rattle.platform_laws.specs.Faults.{IsPrinted, IsAnswer, IsVariable, IsSomeKind, IsSomeStart, CpuFault, RegisterFault, WidthFault, IntoFault, TypeFault, OperandKeyFault, HandlerKeyFault, PartsFault, OperationFault}
use Rattle.platform_laws.proofs.Readings.{err_ok, integer_is, string_is}
use Rattle.platform_laws.proofs.Words.{register_said, register_read, variable_said, variable_read, kind_said, kind_read, start_list_said, start_list_read, answer_said, answer_read, operation_word_said, operation_word_read}
use Rattle.platform_laws.proofs.Operands as operands
use Rattle.platform_laws.proofs.Parts.{word_is}
use Rattle.platform_laws.proofs.Judging.{Judges, same_err, ok_err, judge_then, judge_last, judge_within, judge_number_at, judge_required, judge_word, judge_word_at, judge_text_at, judge_names, text_once}

-- a word that is printed for what it stands for
pub judge_printed_word : {A : Type 0} (path : Path) (find : List ℕ → Option A) (print : A → List ℕ) → ((x : A) → find (print x) ≡ Some x) → ((text : List ℕ) (x : A) → find text ≡ Some x → text ≡ print x) →
    (v : Data) → Judges (word_of path find v) (WordFault path (IsPrinted print) v)
judge_printed_word path find print there said v =
    judge_word path find (IsPrinted print) (λ text none printed. none-some printed.0 (sym none ∙ ap find printed.1 ∙ there printed.0)) (λ text x is. (x, said text x is)) v

pub judge_printed : {A : Type 0} (path : Path) (find : List ℕ → Option A) (print : A → List ℕ) → ((x : A) → find (print x) ≡ Some x) → ((text : List ℕ) (x : A) → find text ≡ Some x → text ≡ print x) →
    (t : Members) → Judges (word_at path find t) (KeyFault path (WordFault path (IsPrinted print)) t)
judge_printed path find print there said t = judge_required path t (word_of path find) (WordFault path (IsPrinted print)) (judge_printed_word path find print there said)

pub judge_kind_word : (path : Path) (v : Data) → Judges (word_of path kind_of v) (WordFault path IsSomeKind v)
judge_kind_word path v = judge_word path kind_of IsSomeKind (λ text none some. none-some some.0 (sym none ∙ kind_read text some.0 some.1)) (λ text x is. (x, kind_said text x is)) v

pub judge_start : (path : Path) (t : Members) → Judges (word_at path start_list_of t) (KeyFault path (WordFault path IsSomeStart) t)
judge_start path t = judge_word_at path start_list_of IsSomeStart (λ text none some. none-some some.0 (sym none ∙ start_list_read text some.0 some.1)) (λ text x is. (x, start_list_said text x is)) t

pub judge_answer : (path : Path) (t : Members) → Judges (word_at path answer_of t) (KeyFault path (WordFault path IsAnswer) t)
judge_answer path t =
    judge_word_at path answer_of IsAnswer (λ text none some. none-some some.0 (sym none ∙ ap answer_of some.1 ∙ answer_read some.0 some.2))
    (λ text x is. let (same, answers) = answer_said text x is in (x, same, answers)) t

pub judge_cpu : (at : TablePlace) (t : Members) → Judges (cpu_at at t) (CpuFault at t)
judge_cpu at t = judge_number_at (path_to at key.Cpu) 0 65535 t

pub judge_width : (at : TablePlace) (t : Members) → Judges (width_at at t) (WidthFault at t)
judge_width at t = judge_number_at (path_to at key.Width) 0 24 t

pub judge_register : (at : TablePlace) (t : Members) → Judges (register_at at t) (RegisterFault at t)
judge_register at t =
    judge_last (word_at (path_to at key.Reg) register_named t) register_number (RegisterFault at t) (judge_printed (path_to at key.Reg) register_named register_text register_read register_said t)

pub judge_into : (at : TablePlace) (t : Members) → Judges (into_at at t) (IntoFault at t)
judge_into at t =
    judge_last (word_at (path_to at key.Into) variable_of t) (λ (x : Variable). x.number) (IntoFault at t)
    (judge_word_at (path_to at key.Into) variable_of IsVariable (λ text none some. none-some _ (sym none ∙ ap variable_of some.1 ∙ variable_read some.0 some.2))
    (λ text x is. let (same, small) = variable_said text x is in (x.number, same, small)) t)

pub judge_type : (at : TablePlace) (t : Members) → Judges (kind_at at t) (TypeFault at t)
judge_type at t = judge_required (path_to at key.Type) t (word_of (path_to at key.Type) kind_of) (WordFault (path_to at key.Type) IsSomeKind) (judge_kind_word (path_to at key.Type))

-- an operand
not_some : (path : Path) (v : Data) (f : WalkFault) → operand_value path v ≡ Err f → IsSomeOperand v → ⊥
not_some path v f is (o, says, fits) = err_ok f o (sym is ∙ operands.value_read path v o says fits)

operand_stops : (path : Path) (v : Data) (z : Option ℤ) (s : Option (List ℕ)) (f : WalkFault) → as_integer v ≡ z → as_str v ≡ s → (IsSomeOperand v → ⊥) → operand_by path z s ≡ Err f → OperandFault path v f
operand_stops path v (Some z) s f e g none is =
    let out = (judge_last (number_within path 0 greatest z) (λ n. Number n) (λ h. IsOutside 0 greatest z × (h ≡ Range path z)) (judge_within path 0 greatest z)).stops f is in
    inr (inl (z, integer_is v z e, none, out.1))
operand_stops path v None None f e g none is = inl ((λ z same. none-some z (sym e ∙ ap as_integer same)), (λ text same. none-some text (sym g ∙ ap as_str same)), sym (same_err (WrongType path) f is))
operand_stops path v None (Some text) f e g none is = inr (inr (text, string_is v text g, none, by_find (operand_of text) is)) where
  by_find : (o : Option Operand) → ok_or o (Word path) ≡ Err f → f ≡ Word path
  by_find None is = sym (same_err (Word path) f is)
  by_find (Some o) is = ok_err o f is

is_kind : (path : Path) (v : Data) (z : Option ℤ) (s : Option (List ℕ)) (o : Operand) → as_integer v ≡ z → as_str v ≡ s → operand_by path z s ≡ Ok o → ((n : ℤ) → v ≡ integer n → ⊥) → ((text : List ℕ) → v ≡ string text → ⊥) → ⊥
is_kind path v (Some z) s o e g is no_integer no_text = no_integer z (integer_is v z e)
is_kind path v None (Some text) o e g is no_integer no_text = no_text text (string_is v text g)
is_kind path v None None o e g is no_integer no_text = err_ok (WrongType path) o is

operand_clash : (path : Path) (v : Data) (o : Operand) (f : WalkFault) → operand_value path v ≡ Ok o → OperandFault path v f → ⊥
operand_clash path v o f is (inl (no_integer, no_text, told)) = is_kind path v (as_integer v) (as_str v) o refl refl is no_integer no_text
operand_clash path v o f is (inr (inl (z, same, none, told))) = let (says, fits) = operands.by_said path v (as_integer v) (as_str v) o refl refl is in none (o, says, fits)
operand_clash path v o f is (inr (inr (text, same, none, told))) = let (says, fits) = operands.by_said path v (as_integer v) (as_str v) o refl refl is in none (o, says, fits)

pub judge_operand : (at : TablePlace) (k : Key) (t : Members) → Judges (operand_at (path_to at k) t) (OperandKeyFault at k t)
judge_operand at k t =
    judge_required (path_to at k) t (operand_value (path_to at k)) (OperandFault (path_to at k))
    (λ v. record {
      stops = λ f is. operand_stops (path_to at k) v (as_integer v) (as_str v) f refl refl (not_some (path_to at k) v f is) is;
      reads = λ o is f fault. operand_clash (path_to at k) v o f is fault;
    })

-- names of the file, as the walk finds them
pub record AreNames (entries : List Data) (IsName : List ℕ → Type 0) : Type 0 where
  pub none : (text : List ℕ) → handler_named entries text ≡ None → IsName text → ⊥
  pub some : (text : List ℕ) (at : ℕ) → handler_named entries text ≡ Some at → IsName text

judge_handler : (entries : List Data) (IsName : List ℕ → Type 0) → AreNames entries IsName → (at : TablePlace) (t : Members) → Judges (handler_at entries at t) (HandlerKeyFault IsName at t)
judge_handler entries IsName names at t = judge_word_at (path_to at key.Handler) (handler_named entries) IsName names.none names.some t

-- the parts of an operation
judge_parts : (entries : List Data) (IsName : List ℕ → Type 0) → AreNames entries IsName → (at : TablePlace) (t : Members) (w : OperationWord) → Judges (operation_by entries at t w) (PartsFault IsName at w t)
judge_parts entries IsName names at t word.Set = judge_then _ _ _ _ (judge_into at t) (λ into is. judge_last _ _ _ (judge_operand at key.Value t))
judge_parts entries IsName names at t word.Read =
    judge_then _ _ _ _ (judge_cpu at t) (λ cpu is. judge_then _ _ _ _ (judge_register at t) (λ reg is. judge_then _ _ _ _ (judge_width at t) (λ width is. judge_last _ _ _ (judge_into at t))))
judge_parts entries IsName names at t word.Write =
    judge_then _ _ _ _ (judge_cpu at t) (λ cpu is. judge_then _ _ _ _ (judge_register at t) (λ reg is. judge_then _ _ _ _ (judge_width at t) (λ width is. judge_last _ _ _ (judge_operand at key.Value t))))
judge_parts entries IsName names at t word.Start =
    judge_then _ _ _ _ (judge_cpu at t) (λ cpu is. judge_then _ _ _ _ (judge_text_at (path_to at key.Procedure) t) (λ procedure is. judge_then _ _ _ _ (judge_operand at key.Arg t) (λ arg is. judge_last _ _ _ (judge_into at t))))
judge_parts entries IsName names at t word.Launch =
    judge_then _ _ _ _ (judge_cpu at t) (λ cpu is. judge_then _ _ _ _ (judge_text_at (path_to at key.Procedure) t) (λ procedure is. judge_then _ _ _ _ (judge_operand at key.Arg t) (λ arg is. judge_last _ _ _ (judge_into at t))))
judge_parts entries IsName names at t word.Check = judge_last _ _ _ (judge_operand at key.Token t)
judge_parts entries IsName names at t word.Wait = judge_then _ _ _ _ (judge_operand at key.Token t) (λ token is. judge_last _ _ _ (judge_into at t))
judge_parts entries IsName names at t word.Alloc = judge_then _ _ _ _ (judge_operand at key.Size t) (λ size is. judge_last _ _ _ (judge_into at t))
judge_parts entries IsName names at t word.Free = judge_last _ _ _ (judge_operand at key.Place t)
judge_parts entries IsName names at t word.Register =
    judge_then _ _ _ _ (judge_handler entries IsName names at t) (λ handler is. judge_then _ _ _ _ (judge_type at t) (λ kind is. judge_last _ _ _ (judge_into at t)))
judge_parts entries IsName names at t word.Unregister = judge_last _ _ _ (judge_operand at key.Handle t)
judge_parts entries IsName names at t word.Manage = judge_last _ _ _ (judge_type at t)

-- an operation
names_known : (w : OperationWord) (name : List ℕ) → is_known (operation_keys w) name ≡ list_any (λ known. bytes_eq known name) (codes "op" ∷ part_names w)
names_known word.Set name = refl
names_known word.Read name = refl
names_known word.Write name = refl
names_known word.Start name = refl
names_known word.Launch name = refl
names_known word.Check name = refl
names_known word.Wait name = refl
names_known word.Alloc name = refl
names_known word.Free name = refl
names_known word.Register name = refl
names_known word.Unregister name = refl
names_known word.Manage name = refl

same_word : (v w : OperationWord) → word_text v ≡ word_text w → v ≡ w
same_word v w same = same_Some v w (sym (operation_word_read v) ∙ ap operation_word same ∙ operation_word_read w)

pub judge_operation : (entries : List Data) (IsName : List ℕ → Type 0) → AreNames entries IsName → (at : TablePlace) (t : Members) → Judges (operation_in entries at t) (OperationFault IsName at t)
judge_operation entries IsName names at t =
    judge_then (word_at (path_to at key.Op) operation_word t) (operation_as entries at t) (KeyFault (path_to at key.Op) (WordFault (path_to at key.Op) (IsPrinted word_text)) t)
    (λ f. (op : OperationWord) × SaysText t (codes "op") (word_text op) × (PartsFault IsName at op t f ⊎ NameFault at (codes "op" ∷ part_names op) t f))
    (judge_printed (path_to at key.Op) operation_word word_text operation_word_read operation_word_said t) given where
      given : (w : OperationWord) → word_at (path_to at key.Op) operation_word t ≡ Ok w →
          Judges (operation_as entries at t w) (λ f. (op : OperationWord) × SaysText t (codes "op") (word_text op) × (PartsFault IsName at op t f ⊎ NameFault at (codes "op" ∷ part_names op) t f))
      given w is =
          let says = word_is (path_to at key.Op) operation_word t w (word_text w) (λ text e. operation_word_said text w e) is in
          let judged = judge_then (operation_by entries at t w) (λ x. and_no_other at (operation_keys w) t x) (PartsFault IsName at w t) (NameFault at (codes "op" ∷ part_names w) t)
          (judge_parts entries IsName names at t w) (λ x found. judge_names at (operation_keys w) (codes "op" ∷ part_names w) (names_known w) t x) in
          record {
            stops = λ f there. (w, says, judged.stops f there);
            reads = λ x there f fault.
                judged.reads x there f (subst (λ (v : OperationWord). PartsFault IsName at v t f ⊎ NameFault at (codes "op" ∷ part_names v) t f) (same_word fault.0 w (text_once t (codes "op") (word_text fault.0) (word_text w) fault.1 says)) fault.2);
          }
