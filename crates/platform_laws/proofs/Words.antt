-- A word that is read is the one that is written, and the other way round.
use Rattle.std.proofs.Common.{◌≡◌, ℕ, zero, suc, Bool, true, false, List, [], ◌∷◌, Option, Some, None, option_map, codes, cond, refl, ap, sym, subst, ◌∙◌, if◌then◌else◌, arith}
use Rattle.std.specs.Prelude.{find}
use Rattle.std.specs.Str.{bytes_eq}
use Rattle.std.specs.Int.{w128, from_be_bytes}
use Rattle.std.proofs.lemmas.Bool.{false≢true, ltb-true}
use Rattle.std.proofs.lemmas.Option.{same_Some, none-some}
use Rattle.std.proofs.lemmas.Slice.Eq.{bytes_eq-Decides}
use Rattle.uuid.specs.Text.{parsed}
use Rattle.smm_base.specs.Register.{register_text, register_number, register_named, registers, is_register_number}
use Rattle.smm_base.specs.Status.{status_text}
use Rattle.smm_base.specs.declared.kinds.MapKind.{MapKind}
use Rattle.smm_base.specs.declared.kinds.MapKind.TheVariants.{Ia32, Intel64}
use Rattle.smm_base.specs.declared.kinds.HandlerType.{HandlerType}
use Rattle.smm_base.specs.declared.kinds.HandlerType.TheVariants.{Root, Typed}
use Rattle.smm_base.specs.declared.registers.Register.{Register}
use Rattle.smm_base.specs.declared.registers.Register.TheVariants.{GdtBase}
use Rattle.smm_base.specs.declared.status.Status.{Status}
use Rattle.smm_base.specs.declared.status.Status.TheVariants.{Success, InterruptPending, SourcePending, SourceQuiesced}
use Rattle.cpu_table.specs.Ranges.{is_answer, is_variable}
use Rattle.cpu_table.specs.declared.setup.Mode.{Mode}
use Rattle.cpu_table.specs.declared.setup.Mode.TheVariants.{Traditional, Relaxed}
use Rattle.cpu_table.specs.declared.waves.Arrival.{Arrival}
use Rattle.cpu_table.specs.declared.waves.Arrival.TheVariants.{Prompt, Delayed, Blocked, Absent}
use Rattle.cpu_table.specs.declared.handlers.Act.{Act}
use Rattle.cpu_table.specs.declared.handlers.Act.TheVariants.{Get, Put}
use Rattle.platform_document.specs.declared.operand.Variable.{Variable}
use Rattle.platform_document.specs.declared.word.PolicyWord.{PolicyWord}
use Rattle.platform_document.specs.declared.word.PolicyWord.TheVariants as policy
use Rattle.platform_document.specs.declared.word.OperationWord.{OperationWord}
use Rattle.platform_document.specs.declared.word.OperationWord.TheVariants as word
use Rattle.platform_document.specs.Words.{map_of, policy_of, mode_of, arrival_of, answer_of, guid_of, kind_of, start_list_of, act_of, operation_word, variable, variable_of}
use Rattle.platform_laws.specs.Words.{map_text, mode_text, arrival_text, act_text, variable_text, word_text, IsKind, IsStartList}

-- a word that is the next one of a list, or one of the rest
pub word_case : {A : Type 0} (text w : List ℕ) (a b : A) (rest : Option A) (P : A → Type 0) → (if bytes_eq text w then Some a else rest) ≡ Some b → (text ≡ w → P a) → (rest ≡ Some b → P b) → P b
word_case {A = A} text w a b rest P is here later = by_test (bytes_eq text w) refl is where
  by_test : (t : Bool) → bytes_eq text w ≡ t → (if t then Some a else rest) ≡ Some b → P b
  by_test true e is = subst P (same_Some a b is) (here ((bytes_eq-Decides text w).0 e))
  by_test false e is = later is

-- a word that is not this one
pub unless_word : {A : Type 0} (text w : List ℕ) (a : A) (rest : Option A) (o : Option A) → (text ≡ w → ⊥) → rest ≡ o → (if bytes_eq text w then Some a else rest) ≡ o
unless_word {A = A} text w a rest o differs is = by_test (bytes_eq text w) refl where
  by_test : (t : Bool) → bytes_eq text w ≡ t → (if t then Some a else rest) ≡ o
  by_test true e = absurd (differs ((bytes_eq-Decides text w).0 e))
  by_test false e = is

pub map_said : (text : List ℕ) (k : MapKind) → map_of text ≡ Some k → text ≡ map_text k
map_said text k is =
    word_case text (codes "ia32") Ia32 k _ (λ x. text ≡ map_text x) is (λ e. e) (λ is.
    word_case text (codes "intel64") Intel64 k None (λ x. text ≡ map_text x) is (λ e. e) (λ is. absurd (none-some k is)))

pub map_read : (k : MapKind) → map_of (map_text k) ≡ Some k
map_read Ia32 = refl
map_read Intel64 = refl

abbrev pub policy_word_text : PolicyWord → List ℕ
policy_word_text policy.Elected = codes "elected"
policy_word_text policy.Fixed = codes "fixed"

pub policy_word_said : (text : List ℕ) (k : PolicyWord) → policy_of text ≡ Some k → text ≡ policy_word_text k
policy_word_said text k is =
    word_case text (codes "elected") policy.Elected k _ (λ x. text ≡ policy_word_text x) is (λ e. e) (λ is.
    word_case text (codes "fixed") policy.Fixed k None (λ x. text ≡ policy_word_text x) is (λ e. e) (λ is. absurd (none-some k is)))

pub mode_said : (text : List ℕ) (k : Mode) → mode_of text ≡ Some k → text ≡ mode_text k
mode_said text k is =
    word_case text (codes "traditional") Traditional k _ (λ x. text ≡ mode_text x) is (λ e. e) (λ is.
    word_case text (codes "relaxed") Relaxed k None (λ x. text ≡ mode_text x) is (λ e. e) (λ is. absurd (none-some k is)))

pub mode_read : (k : Mode) → mode_of (mode_text k) ≡ Some k
mode_read Traditional = refl
mode_read Relaxed = refl

pub arrival_said : (text : List ℕ) (k : Arrival) → arrival_of text ≡ Some k → text ≡ arrival_text k
arrival_said text k is =
    word_case text (codes "prompt") Prompt k _ (λ x. text ≡ arrival_text x) is (λ e. e) (λ is.
    word_case text (codes "delayed") Delayed k _ (λ x. text ≡ arrival_text x) is (λ e. e) (λ is.
    word_case text (codes "blocked") Blocked k _ (λ x. text ≡ arrival_text x) is (λ e. e) (λ is.
    word_case text (codes "absent") Absent k None (λ x. text ≡ arrival_text x) is (λ e. e) (λ is. absurd (none-some k is)))))

pub arrival_read : (k : Arrival) → arrival_of (arrival_text k) ≡ Some k
arrival_read Prompt = refl
arrival_read Delayed = refl
arrival_read Blocked = refl
arrival_read Absent = refl

pub act_said : (text : List ℕ) (k : Act) → act_of text ≡ Some k → text ≡ act_text k
act_said text k is =
    word_case text (codes "get") Get k _ (λ x. text ≡ act_text x) is (λ e. e) (λ is.
    word_case text (codes "put") Put k None (λ x. text ≡ act_text x) is (λ e. e) (λ is. absurd (none-some k is)))

pub act_read : (k : Act) → act_of (act_text k) ≡ Some k
act_read Get = refl
act_read Put = refl

pub answer_said : (text : List ℕ) (k : Status) → answer_of text ≡ Some k → (text ≡ status_text k) × (is_answer k ≡ true)
answer_said text k is =
    word_case text (codes "SUCCESS") Success k _ (λ x. (text ≡ status_text x) × (is_answer x ≡ true)) is (λ e. (e, refl)) (λ is.
    word_case text (codes "INTERRUPT_PENDING") InterruptPending k _ (λ x. (text ≡ status_text x) × (is_answer x ≡ true)) is (λ e. (e, refl)) (λ is.
    word_case text (codes "SOURCE_PENDING") SourcePending k _ (λ x. (text ≡ status_text x) × (is_answer x ≡ true)) is (λ e. (e, refl)) (λ is.
    word_case text (codes "SOURCE_QUIESCED") SourceQuiesced k None (λ x. (text ≡ status_text x) × (is_answer x ≡ true)) is (λ e. (e, refl)) (λ is. absurd (none-some k is)))))

pub answer_read : (k : Status) → is_answer k ≡ true → answer_of (status_text k) ≡ Some k
answer_read Success e = refl
answer_read InterruptPending e = refl
answer_read SourcePending e = refl
answer_read SourceQuiesced e = refl
answer_read _ e = absurd (false≢true e)

pub operation_word_said : (text : List ℕ) (k : OperationWord) → operation_word text ≡ Some k → text ≡ word_text k
operation_word_said text k is =
    word_case text (codes "set") word.Set k _ (λ x. text ≡ word_text x) is (λ e. e) (λ is.
    word_case text (codes "read") word.Read k _ (λ x. text ≡ word_text x) is (λ e. e) (λ is.
    word_case text (codes "write") word.Write k _ (λ x. text ≡ word_text x) is (λ e. e) (λ is.
    word_case text (codes "start") word.Start k _ (λ x. text ≡ word_text x) is (λ e. e) (λ is.
    word_case text (codes "launch") word.Launch k _ (λ x. text ≡ word_text x) is (λ e. e) (λ is.
    word_case text (codes "check") word.Check k _ (λ x. text ≡ word_text x) is (λ e. e) (λ is.
    word_case text (codes "wait") word.Wait k _ (λ x. text ≡ word_text x) is (λ e. e) (λ is.
    word_case text (codes "alloc") word.Alloc k _ (λ x. text ≡ word_text x) is (λ e. e) (λ is.
    word_case text (codes "free") word.Free k _ (λ x. text ≡ word_text x) is (λ e. e) (λ is.
    word_case text (codes "register") word.Register k _ (λ x. text ≡ word_text x) is (λ e. e) (λ is.
    word_case text (codes "unregister") word.Unregister k _ (λ x. text ≡ word_text x) is (λ e. e) (λ is.
    word_case text (codes "manage") word.Manage k None (λ x. text ≡ word_text x) is (λ e. e) (λ is. absurd (none-some k is)))))))))))))

pub operation_word_read : (k : OperationWord) → operation_word (word_text k) ≡ Some k
operation_word_read word.Set = refl
operation_word_read word.Read = refl
operation_word_read word.Write = refl
operation_word_read word.Start = refl
operation_word_read word.Launch = refl
operation_word_read word.Check = refl
operation_word_read word.Wait = refl
operation_word_read word.Alloc = refl
operation_word_read word.Free = refl
operation_word_read word.Register = refl
operation_word_read word.Unregister = refl
operation_word_read word.Manage = refl

-- variables
abbrev IsWritten : List ℕ → Variable → Type 0
IsWritten text x = (text ≡ variable_text x.number) × (is_variable x.number ≡ true)

pub variable_said : (text : List ℕ) (k : Variable) → variable_of text ≡ Some k → IsWritten text k
variable_said text k is =
    word_case text (codes "v0") (variable 0) k _ (IsWritten text) is (λ e. (e, refl)) (λ is.
    word_case text (codes "v1") (variable 1) k _ (IsWritten text) is (λ e. (e, refl)) (λ is.
    word_case text (codes "v2") (variable 2) k _ (IsWritten text) is (λ e. (e, refl)) (λ is.
    word_case text (codes "v3") (variable 3) k _ (IsWritten text) is (λ e. (e, refl)) (λ is.
    word_case text (codes "v4") (variable 4) k _ (IsWritten text) is (λ e. (e, refl)) (λ is.
    word_case text (codes "v5") (variable 5) k _ (IsWritten text) is (λ e. (e, refl)) (λ is.
    word_case text (codes "v6") (variable 6) k _ (IsWritten text) is (λ e. (e, refl)) (λ is.
    word_case text (codes "v7") (variable 7) k None (IsWritten text) is (λ e. (e, refl)) (λ is. absurd (none-some k is)))))))))

pub variable_read : (n : ℕ) → is_variable n ≡ true → variable_of (variable_text n) ≡ Some (variable n)
variable_read zero e = refl
variable_read (suc zero) e = refl
variable_read (suc (suc zero)) e = refl
variable_read (suc (suc (suc zero))) e = refl
variable_read (suc (suc (suc (suc zero)))) e = refl
variable_read (suc (suc (suc (suc (suc zero))))) e = refl
variable_read (suc (suc (suc (suc (suc (suc zero)))))) e = refl
variable_read (suc (suc (suc (suc (suc (suc (suc zero))))))) e = refl
variable_read (suc (suc (suc (suc (suc (suc (suc (suc n)))))))) e =
    let below = ltb-true (suc (suc (suc (suc (suc (suc (suc (suc n)))))))) 8 e in
    absurd (omega (arith, below))

-- lists of handlers
typed_of : (text : List ℕ) (o : Option (List ℕ)) (k : HandlerType) → parsed text ≡ o → option_map (λ bytes. Typed (from_be_bytes w128 bytes)) o ≡ Some k → IsKind text k
typed_of text None k e is = absurd (none-some k is)
typed_of text (Some bytes) k e is = subst (IsKind text) (same_Some (Typed (from_be_bytes w128 bytes)) k is) (bytes, e, refl)

pub kind_said : (text : List ℕ) (k : HandlerType) → kind_of text ≡ Some k → IsKind text k
kind_said text k is = word_case text (codes "root") Root k (guid_of text) (IsKind text) is (λ e. e) (λ is. typed_of text (parsed text) k refl is)

guid_is_word : (text w bytes : List ℕ) → parsed w ≡ None → parsed text ≡ Some bytes → text ≡ w → ⊥
guid_is_word text w bytes none is e = none-some bytes (sym none ∙ ap parsed (sym e) ∙ is)

pub kind_read : (text : List ℕ) (k : HandlerType) → IsKind text k → kind_of text ≡ Some k
kind_read text Root is = ap kind_of is
kind_read text (Typed guid) is =
    let (bytes, there, value) = is in
    unless_word text (codes "root") Root (guid_of text) (Some (Typed guid)) (guid_is_word text (codes "root") bytes refl there)
    (ap (option_map (λ bs. Typed (from_be_bytes w128 bs))) there ∙ ap (λ n. Some (Typed n)) (sym value))

start_of : (text : List ℕ) (o : Option HandlerType) (k : Option HandlerType) → kind_of text ≡ o → option_map Some o ≡ Some k → IsStartList text k
start_of text None k e is = absurd (none-some k is)
start_of text (Some kind) k e is = subst (IsStartList text) (same_Some (Some kind) k is) (kind_said text kind e)

pub start_list_said : (text : List ℕ) (k : Option HandlerType) → start_list_of text ≡ Some k → IsStartList text k
start_list_said text k is = word_case text (codes "none") None k (option_map Some (kind_of text)) (IsStartList text) is (λ e. e) (λ is. start_of text (kind_of text) k refl is)

kind_is_word : (text w : List ℕ) (k : HandlerType) → kind_of w ≡ None → kind_of text ≡ Some k → text ≡ w → ⊥
kind_is_word text w k none is e = none-some k (sym none ∙ ap kind_of (sym e) ∙ is)

pub start_list_read : (text : List ℕ) (k : Option HandlerType) → IsStartList text k → start_list_of text ≡ Some k
start_list_read text None is = ap start_list_of is
start_list_read text (Some kind) is =
    let there = kind_read text kind is in
    unless_word text (codes "none") None (option_map Some (kind_of text)) (Some (Some kind)) (kind_is_word text (codes "none") kind refl there) (ap (option_map Some) there)

-- registers
find_passes : {A : Type 0} (p : A → Bool) (xs : List A) (x : A) → find p xs ≡ Some x → p x ≡ true
find_passes p [] x is = absurd (none-some x is)
find_passes {A = A} p (y ∷ ys) x is = by_test (p y) refl (find_passes p ys x) is where
  by_test : (t : Bool) → p y ≡ t → (find p ys ≡ Some x → p x ≡ true) → cond t (Some y) (find p ys) ≡ Some x → p x ≡ true
  by_test true e later is = subst (λ z. p z ≡ true) (same_Some y x is) e
  by_test false e later is = later is

pub register_said : (text : List ℕ) (r : Register) → register_named text ≡ Some r → text ≡ register_text r
register_said text r is = sym ((bytes_eq-Decides (register_text r) text).0 (find_passes (λ x. bytes_eq (register_text x) text) registers r is))

pub register_read : (r : Register) → register_named (register_text r) ≡ Some r
register_read GdtBase = refl
register_read _ = refl

pub register_there : (r : Register) → is_register_number (register_number r) ≡ true
register_there GdtBase = refl
register_there _ = refl
