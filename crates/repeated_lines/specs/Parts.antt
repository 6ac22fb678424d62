-- The line of an event with a job in two parts: the opening, and the ending, which begins with the first number that is another one
-- with the next job.
use Rattle.std.specs.Prelude.{ℕ, ◌≡◌, List, [], ◌∷◌, ◌++◌, codes, decimal}
use Rattle.smm_base.specs.declared.status.Status.{Status}
use Rattle.smm_base.specs.Status.{status_text}
use Rattle.sync_words.specs.declared.event.Event.{Event}
use Rattle.sync_words.specs.declared.label.Label.{Label}
use Rattle.sync_words.specs.declared.label.Label.TheVariants.{Wait, Start, Run}
use Rattle.sync_words.specs.Texts.{space, colon, line_end, joined, actor_text, word_text, access_text, label_text}

-- the word of a label with a job, with the processor that a job is given to; nothing of another label
abbrev pub label_opening : Label → List ℕ
label_opening (Start cpu _ _ _) = codes "start:" ++ decimal cpu
label_opening (Run _ _ _) = codes "run"
label_opening (Wait _ _ _) = codes "wait"
label_opening _ = []

-- a number with a colon before it, and what follows
abbrev pub number_then : ℕ → List ℕ → List ℕ
number_then number rest = colon ∷ (decimal number ++ rest)

-- a job, its result and a status, to the line end
abbrev pub result_ending : ℕ → ℕ → Status → List ℕ
result_ending job value status = number_then job (number_then value (colon ∷ (status_text status ++ line_end ∷ [])))

-- a job, its procedure and its argument, to the line end
abbrev pub start_ending : ℕ → ℕ → ℕ → List ℕ
start_ending job procedure arg = number_then job (number_then procedure (number_then arg (line_end ∷ [])))

-- what follows the opening
abbrev pub ending : Label → List ℕ
ending (Start _ job procedure arg) = start_ending job procedure arg
ending (Run job value status) = result_ending job value status
ending (Wait job value status) = result_ending job value status
ending label = label_text label ++ line_end ∷ []

-- the line before that, where there are so many processors
abbrev pub opening : ℕ → Event → List ℕ
opening processors event =
    joined space (actor_text processors event.actor) (word_text event.word ∷ access_text event.access ∷ decimal event.found ∷ label_opening event.label ∷ [])

-- what the opening is made of is the same of both
pub record OpensAs (one other : Event) : Type 0 where
  pub actor : one.actor ≡ other.actor
  pub word : one.word ≡ other.word
  pub access : one.access ≡ other.access
  pub found : one.found ≡ other.found
  pub label : label_opening one.label ≡ label_opening other.label
