-- How a refusal of bytes is printed.
use Rattle.std.specs.Prelude.{ℕ, ◌++◌, List, codes, decimal}
use Rattle.save_state_map.specs.declared.image.ImageError.{ImageError}
use Rattle.save_state_map.specs.declared.image.ImageError.TheVariants.{Length}

-- the word, and the number of bytes
abbrev pub image_error_text : ImageError → List ℕ
image_error_text (Length n) = codes "length " ++ decimal n
