-- Why a file is refused: the first of the checks that fails.
use Rattle.std.specs.Prelude.{ℕ, ◌+◌, ◌*◌, Bool, not, ◌||◌, ◌==◌, nat_eq, nat_lt, if◌then◌else◌, List, [], ◌∷◌, length, drop, Option, Some, None}
use Rattle.std.specs.List.{starts_with}
use Rattle.byteorder.specs.Endian.{little_number}
use Rattle.smm_base.specs.declared.kinds.MapKind.{MapKind}
use Rattle.smm_base.specs.declared.kinds.MapKind.TheVariants.{Ia32, Intel64}
use Rattle.save_state_map.specs.Fields.{image_length}
use Rattle.image_file.specs.declared.error.ImagesError.{ImagesError}
use Rattle.image_file.specs.declared.error.ImagesError.TheVariants.{Short, Magic, Version, Kind, Count, Long}
use Rattle.image_file.specs.Spelling.{magic}

-- the numbers of the header, where they stand
abbrev pub version_of : List ℕ → ℕ
version_of file = little_number 2 (drop 4 file)

abbrev pub kind_number_of : List ℕ → ℕ
kind_number_of file = little_number 2 (drop 6 file)

abbrev pub count_of : List ℕ → ℕ
count_of file = little_number 4 (drop 8 file)

-- the kind that a file with this number holds
abbrev pub kind_numbered : ℕ → MapKind
kind_numbered number = if number == 0 then Ia32 else Intel64

-- how long a file with this kind and count is
abbrev pub whole_length : MapKind → ℕ → ℕ
whole_length kind count = 12 + count * image_length kind

-- the checks of a file in their order: when each fails, and the refusal that it gives
abbrev pub checks : List ℕ → List (Bool × ImagesError)
checks file =
    (nat_lt (length file) 12, Short (length file))
    ∷ (not (starts_with nat_eq file magic), Magic)
    ∷ (not (version_of file == 1), Version (version_of file))
    ∷ (nat_lt 1 (kind_number_of file), Kind (kind_number_of file))
    ∷ (count_of file == 0 || nat_lt 64 (count_of file), Count (count_of file))
    ∷ (nat_lt (length file) (whole_length (kind_numbered (kind_number_of file)) (count_of file)), Short (length file))
    ∷ (nat_lt (whole_length (kind_numbered (kind_number_of file)) (count_of file)) (length file), Long (length file))
    ∷ []

-- the refusal of the first check that fails
abbrev pub first_failed : List (Bool × ImagesError) → Option ImagesError
first_failed [] = None
first_failed (check ∷ others) = if check.0 then Some check.1 else first_failed others

-- the refusal of a file, if it has one
abbrev pub refusal_of : List ℕ → Option ImagesError
refusal_of file = first_failed (checks file)
