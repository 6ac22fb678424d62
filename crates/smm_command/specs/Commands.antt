-- The commands and the forms of their words. They are the project's own.
use Rattle.std.specs.Prelude.{ℕ, ◌==◌, Bool, ◌&&◌, not, List, [], map, length, slice_index, slice_index_or, codes, string_bytes, Option, None, Some, option_map, if◌then◌else◌}
use Rattle.std.specs.List.{list_any}
use Rattle.std.specs.Str.{bytes_eq}
use Rattle.std.specs.declared.string.String.{String}
use Rattle.smm_command.specs.declared.command.Step.{Step}
use Rattle.smm_command.specs.declared.command.Check.{Check}
use Rattle.smm_command.specs.declared.command.Command.{Command}
use Rattle.smm_command.specs.declared.command.Command.TheVariants as command
use Rattle.smm_command.specs.Recipes.{IsRecipe, recipe_of}

-- the bytes of each word
abbrev pub texts : {A : Type 0} → List (String A) → List (List ℕ)
texts words = map string_bytes words

-- the word at a place, and the empty text past the last
abbrev pub word_at : List (List ℕ) → ℕ → List ℕ
word_at words place = slice_index_or words place []

-- the first byte of a word is 2DH
abbrev pub begins_with_dash : List ℕ → Bool
begins_with_dash word = slice_index word 0 == 45

-- there are so many words, of which the first is the command's, and none begins with `-`
unfoldable pub is_form : ℕ → List ℕ → List (List ℕ) → Bool
is_form count name words = (length words == count) && bytes_eq (word_at words 0) name && not (list_any begins_with_dash words)

-- the words are `step PLATFORM IMAGES SCHEDULE AFTER`, `finish PLATFORM IMAGES SCHEDULE AFTER`,
-- `check PLATFORM IMAGES TRACE`, `make NUMBER N` or `sum NUMBER N`
abbrev pub is_step_form : List (List ℕ) → Bool
is_step_form words = is_form 5 (codes "step") words

abbrev pub is_finish_form : List (List ℕ) → Bool
is_finish_form words = is_form 5 (codes "finish") words

abbrev pub is_check_form : List (List ℕ) → Bool
is_check_form words = is_form 4 (codes "check") words

abbrev pub is_make_form : List (List ℕ) → Bool
is_make_form words = is_form 3 (codes "make") words

abbrev pub is_sum_form : List (List ℕ) → Bool
is_sum_form words = is_form 3 (codes "sum") words

-- the names in the words of a step, or of a finish
abbrev pub step_of : List (List ℕ) → Step
step_of words = record { platform = word_at words 1; images = word_at words 2; schedule = word_at words 3; after = word_at words 4 }

-- and in those of a check
abbrev pub check_of : List (List ℕ) → Check
check_of words = record { platform = word_at words 1; images = word_at words 2; trace = word_at words 3 }

-- a command on a generated platform
abbrev pub generated_form : List (List ℕ) → Option Command
generated_form words =
    if is_make_form words then option_map command.Make (recipe_of (word_at words 1) (word_at words 2))
    else if is_sum_form words then option_map command.Sum (recipe_of (word_at words 1) (word_at words 2))
    else None

-- the command of the words, and none where they are of no command's form
abbrev pub form_of : List (List ℕ) → Option Command
form_of words =
    if is_step_form words then Some (command.Step (step_of words))
    else if is_finish_form words then Some (command.Finish (step_of words))
    else if is_check_form words then Some (command.Check (check_of words))
    else generated_form words

-- what the words of a command keep of its numbers
abbrev pub IsCommand : Command → Type 0
IsCommand (command.Step names) = Unit {0}
IsCommand (command.Finish names) = Unit {0}
IsCommand (command.Check names) = Unit {0}
IsCommand (command.Make recipe) = IsRecipe recipe
IsCommand (command.Sum recipe) = IsRecipe recipe
