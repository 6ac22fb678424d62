-- The file that holds images: its one spelling.
use Rattle.std.specs.Prelude.{◌≡◌, ℕ, ◌≤◌, List, ◌++◌, length, codes, All}
use Rattle.std.specs.List.{flat_map}
use Rattle.byteorder.specs.Endian.{little_bytes}
use Rattle.smm_base.specs.declared.kinds.MapKind.{MapKind}
use Rattle.smm_base.specs.declared.kinds.MapKind.TheVariants.{Ia32, Intel64}
use Rattle.save_state_map.specs.Images.{ImageContents, IsImage}

-- the first four bytes of each image file
abbrev pub magic : List ℕ
magic = codes "SMIM"

-- how a map's kind is written
abbrev pub kind_number : MapKind → ℕ
kind_number Ia32 = 0
kind_number Intel64 = 1

-- the twelve bytes before the images: magic, version 1, kind and count, each number low byte first
abbrev pub header : MapKind → ℕ → List ℕ
header kind count = magic ++ little_bytes 2 1 ++ little_bytes 2 (kind_number kind) ++ little_bytes 4 count

-- the file of these images: the header, and the images' bytes without gaps
abbrev pub spelling : MapKind → List ImageContents → List ℕ
spelling kind images = header kind (length images) ++ flat_map (λ image. image.bytes) images

-- what a file may hold: 1 to 64 images of one kind
pub record AreImages (kind : MapKind) (images : List ImageContents) : Type 0 where
  pub some : 1 ≤ length images
  pub most : length images ≤ 64
  pub same_kind : All (λ image. image.kind ≡ kind) images
  pub whole : All IsImage images

-- a file is the spelling of these images
pub record IsSpelling (file : List ℕ) (images : List ImageContents) : Type 0 where
  pub kind : MapKind
  pub images_of : AreImages kind images
  pub bytes : file ≡ spelling kind images
