-- Why an input file is refused: the exit status, and the line that tells it. Both are the project's own, as the lines of the
-- other faults are.
use Rattle.std.specs.Prelude.{ℕ, List, [], ◌∷◌, ◌++◌, codes, decimal}
use Rattle.image_file.specs.Texts.{images_error_text}
use Rattle.platform_file.specs.Texts.{platform_error_text}
use Rattle.schedule_file.specs.Texts.{schedule_error_text}
use Rattle.smbase_reloc.specs.Words.{refusal_text as relocation_text}
use Rattle.trace_judge.specs.Verdicts.{trace_fault_text}
use Rattle.smm_player.specs.declared.images.ImagesFault.{ImagesFault}
use Rattle.smm_player.specs.declared.images.ImagesFault.TheVariants.{File, KindDiffers, CountDiffers, NotRelocated}
use Rattle.smm_player.specs.declared.refusal.Refusal.{Refusal}
use Rattle.smm_player.specs.declared.refusal.Refusal.TheVariants.{Read, TooLong, Platform, Images, Schedule, Trace}

-- the exit status of a refused input file
abbrev pub refusal_status : Refusal → ℕ
refusal_status (Read name) = 6
refusal_status (TooLong name limit) = 6
refusal_status (Platform error) = 2
refusal_status (Images fault) = 3
refusal_status (Schedule error) = 4
refusal_status (Trace fault) = 5

-- why the image file doesn't serve
abbrev pub images_fault_text : ImagesFault → List ℕ
images_fault_text (File error) = images_error_text error
images_fault_text KindDiffers = codes "kind-differs"
images_fault_text (CountDiffers processors count) = codes "count-differs " ++ decimal processors ++ codes " " ++ decimal count
images_fault_text (NotRelocated error) = relocation_text error

-- why an input file is refused
abbrev pub fault_text : Refusal → List ℕ
fault_text (Read name) = codes "fault read " ++ name
fault_text (TooLong name limit) = codes "fault too-long " ++ name ++ codes " " ++ decimal limit
fault_text (Platform error) = codes "fault platform " ++ platform_error_text error
fault_text (Images fault) = codes "fault images " ++ images_fault_text fault
fault_text (Schedule error) = codes "fault schedule " ++ schedule_error_text error
fault_text (Trace fault) = codes "fault trace " ++ trace_fault_text fault

-- the line that tells it, with the line end 0AH
unfoldable pub refusal_line : Refusal → List ℕ
refusal_line refusal = fault_text refusal ++ 10 ∷ []

-- the line for words that are of no command's form, and the one for want of memory
abbrev pub usage_line : List ℕ
usage_line = codes "fault usage" ++ 10 ∷ []

abbrev pub memory_line : List ℕ
memory_line = codes "fault memory" ++ 10 ∷ []
