-- The images that stand one after the other in a list of bytes.
use Rattle.std.specs.Prelude.{ℕ, zero, suc, List, [], ◌∷◌, take, drop}
use Rattle.smm_base.specs.declared.kinds.MapKind.{MapKind}
use Rattle.save_state_map.specs.Fields.{image_length}
use Rattle.save_state_map.specs.Images.{ImageContents}
use Rattle.image_file.specs.Refusals.{kind_number_of, kind_numbered, count_of}

-- as many images of one kind as are asked for, from the front
unfoldable pub images_at : MapKind → ℕ → List ℕ → List ImageContents
images_at kind zero bytes = []
images_at kind (suc n) bytes = record { kind = kind; bytes = take (image_length kind) bytes } ∷ images_at kind n (drop (image_length kind) bytes)

-- the images that a file's header tells of, from behind the header
abbrev pub images_in : List ℕ → List ImageContents
images_in file = images_at (kind_numbered (kind_number_of file)) (count_of file) (drop 12 file)
