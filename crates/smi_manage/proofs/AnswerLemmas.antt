-- The answer of what a walk keeps is the answer to its statuses.
use Rattle.std.proofs.Common.{◌≡◌, Bool, true, false, ◌||◌, List, [], ◌∷◌, ◌++◌, refl, sym, ap, ◌∙◌}
use Rattle.std.specs.List.{list_any}
use Rattle.smm_base.specs.declared.kinds.HandlerType.{HandlerType}
use Rattle.smm_base.specs.declared.status.Status.{Status}
use Rattle.smi_manage.specs.declared.running.Running.{Running}
use Rattle.smi_manage.specs.Answers.{settles, last_or, answer_of, fresh, plus, run, ended_with}
use Rattle.smi_manage.specs.Walks.{Walk, answered, answer_so_far, HasAnswers}

run_last : (kind : HandlerType) (running : Running) (statuses : List Status) → (run kind running statuses).last ≡ last_or running.last statuses
run_last kind running [] = refl
run_last kind running (status ∷ rest) = run_last kind (plus kind running status) rest

or_assoc : (a b c : Bool) → ((a || b) || c) ≡ (a || (b || c))
or_assoc true b c = refl
or_assoc false b c = refl

or_false : (a : Bool) → (a || false) ≡ a
or_false true = refl
or_false false = refl

run_settled : (kind : HandlerType) (running : Running) (statuses : List Status) → (run kind running statuses).settled ≡ (running.settled || list_any (settles kind) statuses)
run_settled kind running [] = sym (or_false running.settled)
run_settled kind running (status ∷ rest) = run_settled kind (plus kind running status) rest ∙ or_assoc running.settled (settles kind status) (list_any (settles kind) rest)

run_append : (kind : HandlerType) (running : Running) (statuses : List Status) (status : Status) → run kind running (statuses ++ status ∷ []) ≡ plus kind (run kind running statuses) status
run_append kind running [] status = refl
run_append kind running (first ∷ rest) status = run_append kind (plus kind running first) rest status

pub one_more : (walk : Walk) (statuses : List Status) (status : Status) → HasAnswers walk statuses → HasAnswers (answered status walk) (statuses ++ status ∷ [])
one_more walk statuses status has = ap (λ running. plus walk.kind running status) has ∙ sym (run_append walk.kind fresh statuses status)

ended_run : (kind : HandlerType) (statuses : List Status) → ended_with kind (run kind fresh statuses) ≡ answer_of kind statuses
ended_run kind statuses = rw (run_last kind fresh statuses, run_settled kind fresh statuses) refl

pub answer : (walk : Walk) (statuses : List Status) → HasAnswers walk statuses → answer_so_far walk ≡ answer_of walk.kind statuses
answer walk statuses has = ap (ended_with walk.kind) has ∙ ended_run walk.kind statuses
