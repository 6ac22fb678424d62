-- How a refused image file is told. The words are the project's own.
use Rattle.std.specs.Prelude.{ℕ, List, ◌++◌, codes, decimal}
use Rattle.image_file.specs.declared.error.ImagesError.{ImagesError}
use Rattle.image_file.specs.declared.error.ImagesError.TheVariants.{Short, Magic, Version, Kind, Count, Long, NoMemory}

-- the words of a refusal
abbrev pub images_error_text : ImagesError → List ℕ
images_error_text (Short length) = codes "short " ++ decimal length
images_error_text Magic = codes "magic"
images_error_text (Version version) = codes "version " ++ decimal version
images_error_text (Kind kind) = codes "kind " ++ decimal kind
images_error_text (Count count) = codes "count " ++ decimal count
images_error_text (Long length) = codes "long " ++ decimal length
images_error_text NoMemory = codes "no memory"
