-- Each test of a label tells that it is this label.
use Rattle.std.proofs.Common.{◌≡◌, ℕ, List, [], ◌∷◌, Option, Some, refl, sym, ap, ◌∙◌}
use Rattle.std.specs.Prelude.{◌==◌}
use Rattle.std.specs.List.{find}
use Rattle.smm_base.specs.declared.kinds.HandlerType.{HandlerType}
use Rattle.smm_base.specs.declared.kinds.HandlerType.TheVariants.{Root, Typed}
use Rattle.smm_base.specs.declared.registers.Register.{Register}
use Rattle.smm_base.specs.declared.registers.Register.TheVariants.{GdtBase}
use Rattle.smm_base.specs.declared.status.Status.{Status}
use Rattle.smm_base.specs.declared.status.Status.TheVariants as status
use Rattle.smm_base.specs.Register.{register_number, register_numbered}
use Rattle.sync_words.specs.declared.label.Label.{Label}
use Rattle.sync_words.specs.declared.label.Label.TheVariants as say
use Rattle.handler_registry.specs.Registrations.{is_same_list}
use Rattle.serving_judge.specs.Words.{status_number, is_status, is_register, is_spent, is_begin, is_manage, is_deep, is_call, is_return, is_answer, is_collect}
use Rattle.serving_judge.proofs.Telling.{Tells, never, both, along, number_tells}

abbrev statuses : List Status
statuses =
    status.Success ∷ status.InvalidParameter ∷ status.Unsupported ∷ status.NotReady ∷ status.OutOfResources ∷ status.AccessDenied ∷ status.NotFound
    ∷ status.Timeout ∷ status.Aborted ∷ status.InterruptPending ∷ status.SourcePending ∷ status.SourceQuiesced ∷ []

abbrev status_numbered : ℕ → Option Status
status_numbered n = find (λ S. status_number S == n) statuses

by_number : (S : Status) → status_numbered (status_number S) ≡ Some S
by_number status.Success = refl
by_number _ = refl

same_status : (S T : Status) → status_number T ≡ status_number S → T ≡ S
same_status S T e =
    let f : Some T ≡ Some S = sym (by_number T) ∙ ap status_numbered e ∙ by_number S in
    cc

pub status_tells : (S T : Status) → Tells (is_status S T) (T ≡ S)
status_tells S T = along (same_status S T) (ap status_number) (number_tells (status_number T) (status_number S))

by_register : (r : Register) → register_numbered (register_number r) ≡ Some r
by_register GdtBase = refl
by_register _ = refl

same_register : (r q : Register) → register_number q ≡ register_number r → q ≡ r
same_register r q e =
    let f : Some q ≡ Some r = sym (by_register q) ∙ ap register_numbered e ∙ by_register r in
    cc

pub register_tells : (r q : Register) → Tells (is_register r q) (q ≡ r)
register_tells r q = along (same_register r q) (ap register_number) (number_tells (register_number q) (register_number r))

pub kind_tells : (a b : HandlerType) → Tells (is_same_list a b) (a ≡ b)
kind_tells Root Root = (λ e. refl, λ e. refl)
kind_tells Root (Typed b) = never (λ e. cc)
kind_tells (Typed a) Root = never (λ e. cc)
kind_tells (Typed a) (Typed b) = along (ap Typed) (λ e. cc) (number_tells a b)

pub spent_tells : (l : Label) → Tells (is_spent l) (l ≡ say.Spent)
spent_tells say.Spent = (λ e. refl, λ e. refl)
spent_tells _ = never (λ e. cc)

pub begin_tells : (w : ℕ) (l : Label) → Tells (is_begin w l) (l ≡ say.Begin w)
begin_tells w (say.Begin v) = along (ap say.Begin) (λ e. cc) (number_tells v w)
begin_tells w _ = never (λ e. cc)

pub manage_tells : (kind : HandlerType) (l : Label) → Tells (is_manage kind l) (l ≡ say.Manage kind)
manage_tells kind (say.Manage k) = along (ap say.Manage) (λ e. cc) (kind_tells k kind)
manage_tells kind _ = never (λ e. cc)

pub deep_tells : (kind : HandlerType) (l : Label) → Tells (is_deep kind l) (l ≡ say.Deep kind)
deep_tells kind (say.Deep k) = along (ap say.Deep) (λ e. cc) (kind_tells k kind)
deep_tells kind _ = never (λ e. cc)

pub call_tells : (h : ℕ) (l : Label) → Tells (is_call h l) (l ≡ say.Call h)
call_tells h (say.Call g) = along (ap say.Call) (λ e. cc) (number_tells g h)
call_tells h _ = never (λ e. cc)

pub return_tells : (h : ℕ) (S : Status) (l : Label) → Tells (is_return h S l) (l ≡ say.Return h S)
return_tells h S (say.Return g T) =
    along (λ (x : (g ≡ h) × (T ≡ S)). let p : g ≡ h = x.0 in let q : T ≡ S = x.1 in cc) (λ e. (cc, cc))
    (both (g == h) (is_status S T) (number_tells g h) (status_tells S T))
return_tells h S _ = never (λ e. cc)

pub answer_tells : (S : Status) (l : Label) → Tells (is_answer S l) (l ≡ say.Answer S)
answer_tells S (say.Answer T) = along (ap say.Answer) (λ e. cc) (status_tells S T)
answer_tells S _ = never (λ e. cc)

pub collect_tells : (c : ℕ) (l : Label) → Tells (is_collect c l) (l ≡ say.Collect c)
collect_tells c (say.Collect k) = along (ap say.Collect) (λ e. cc) (number_tells k c)
collect_tells c _ = never (λ e. cc)
