-- Images one after the other.
use Rattle.std.proofs.Common.{◌≡◌, ℕ, zero, suc, ◌+◌, ◌*◌, ◌-◌, ◌<◌, ◌≤◌, List, [], ◌∷◌, ◌++◌, length, get_or, take, drop, All, refl, sym, ap, subst, ◌∙◌, append_assoc, arith}
use Rattle.std.specs.List.{flat_map, AllByRecursion}
use Rattle.std.proofs.lemmas.List.{append-nil, length-append, length-take-le, length-drop, take_at, drop_at, take-append-drop, nil_from_length, flat_map_more, take_more}
use Rattle.std.proofs.lemmas.List.Elements.{All-more}
use Rattle.std.proofs.lemmas.List.Concat.{flat_map-cons}
use Rattle.std.proofs.Math.Nat.{mul-le-mul_right}
use Rattle.smm_base.specs.declared.kinds.MapKind.{MapKind}
use Rattle.save_state_map.specs.Fields.{image_length}
use Rattle.save_state_map.specs.Images.{ImageContents, IsImage}
use Rattle.image_file.specs.Contents.{images_at}
use Rattle.image_file.proofs.Headers.{IsBytes, drop_bytes, take_bytes}

abbrev pub bytes_of : ImageContents → List ℕ
bytes_of image = image.bytes

-- an image of this kind
abbrev pub IsOf : MapKind → ImageContents → Type 0
IsOf kind image = (image.kind ≡ kind) × IsImage image

pub goes_on : (front : List ImageContents) (kind : MapKind) (count i : ℕ) (rest : List ℕ) (total : List ImageContents) → i < count → front ++ images_at kind (count - i) rest ≡ total
    → (front ++ (record { kind = kind; bytes = take (image_length kind) rest }) ∷ []) ++ images_at kind (count - (i + 1)) (drop (image_length kind) rest) ≡ total
unfolding images_at
goes_on front kind count i rest total lt so_far =
    let k : count - i ≡ suc (count - (i + 1)) = omega arith in
    let step : front ++ images_at kind (count - i) rest ≡ (front ++ (record { kind = kind; bytes = take (image_length kind) rest }) ∷ []) ++ images_at kind (count - (i + 1)) (drop (image_length kind) rest) = rw k (sym (append_assoc front ((record { kind = kind; bytes = take (image_length kind) rest }) ∷ []) (images_at kind (count - (i + 1)) (drop (image_length kind) rest)))) in
    sym step ∙ so_far

pub ends : (front : List ImageContents) (kind : MapKind) (count i : ℕ) (rest : List ℕ) (total : List ImageContents) → count ≤ i → front ++ images_at kind (count - i) rest ≡ total → front ≡ total
unfolding images_at
ends front kind count i rest total le so_far =
    let k : count - i ≡ 0 = omega arith in
    let step : front ++ images_at kind (count - i) rest ≡ front = rw k (append-nil front) in
    sym step ∙ so_far

-- what is left holds one more image
pub room : (count i size left : ℕ) → i < count → i * size + left ≡ count * size → size ≤ left
room count i size left lt e =
    let more : (i + 1) * size ≤ count * size = mul-le-mul_right size (omega arith) in
    omega (arith, more)

pub images_at-length : (kind : MapKind) (n : ℕ) (bytes : List ℕ) → length (images_at kind n bytes) ≡ n
unfolding images_at
images_at-length kind zero bytes = refl
images_at-length kind (suc n) bytes = ap suc (images_at-length kind n (drop (image_length kind) bytes))

pub images_at-of : (kind : MapKind) (n : ℕ) (bytes : List ℕ) → length bytes ≡ n * image_length kind → IsBytes bytes → AllByRecursion (IsOf kind) (images_at kind n bytes)
unfolding images_at
images_at-of kind zero bytes size h = tt
images_at-of kind (suc n) bytes size h =
    let long : image_length kind ≤ length bytes = omega arith in (
      (refl, record { size = length-take-le (image_length kind) bytes long; each = take_bytes (image_length kind) bytes long h }),
      images_at-of kind n (drop (image_length kind) bytes) (omega (arith, length-drop (image_length kind) bytes)) (drop_bytes (image_length kind) bytes h),
    )

pub images_at-bytes : (kind : MapKind) (n : ℕ) (bytes : List ℕ) → length bytes ≡ n * image_length kind → flat_map bytes_of (images_at kind n bytes) ≡ bytes
unfolding images_at
images_at-bytes kind zero bytes size = sym (nil_from_length bytes (omega arith))
images_at-bytes kind (suc n) bytes size =
    flat_map-cons bytes_of (record { kind = kind; bytes = take (image_length kind) bytes }) (images_at kind n (drop (image_length kind) bytes))
    ∙ ap (λ (x : List ℕ). take (image_length kind) bytes ++ x) (images_at-bytes kind n (drop (image_length kind) bytes) (omega (arith, length-drop (image_length kind) bytes)))
    ∙ take-append-drop (image_length kind) bytes

-- images are read again from their bytes
pub images_back : (kind : MapKind) (images : List ImageContents) → AllByRecursion (IsOf kind) images → images_at kind (length images) (flat_map bytes_of images) ≡ images
unfolding images_at
images_back kind [] all = refl
images_back kind (image ∷ images) all =
    let size : length image.bytes ≡ image_length kind = all.0.1.size ∙ ap image_length all.0.0 in
    let here : flat_map bytes_of (image ∷ images) ≡ image.bytes ++ flat_map bytes_of images = flat_map-cons bytes_of image images in
    let front : take (image_length kind) (image.bytes ++ flat_map bytes_of images) ≡ image.bytes = take_at image.bytes (flat_map bytes_of images) (image_length kind) size in
    let behind : drop (image_length kind) (image.bytes ++ flat_map bytes_of images) ≡ flat_map bytes_of images = drop_at image.bytes (flat_map bytes_of images) (image_length kind) size in
    let first : ImageContents = record { kind = kind; bytes = image.bytes } in
    let same : first ≡ image = ap (λ (k : MapKind). record { kind = k; bytes = image.bytes }) (sym all.0.0) in
    ap (images_at kind (suc (length images))) here
    ∙ ap (λ (x : List ℕ). (record { kind = kind; bytes = x }) ∷ images_at kind (length images) (drop (image_length kind) (image.bytes ++ flat_map bytes_of images))) front
    ∙ ap (λ (x : List ℕ). first ∷ images_at kind (length images) x) behind
    ∙ ap (λ (x : List ImageContents). first ∷ x) (images_back kind images all.1)
    ∙ ap (λ (x : ImageContents). x ∷ images) same

-- how long the bytes of images are
pub length-bytes : (kind : MapKind) (images : List ImageContents) → AllByRecursion (IsOf kind) images → length (flat_map bytes_of images) ≡ length images * image_length kind
length-bytes kind [] all = omega arith
length-bytes kind (image ∷ images) all =
    let size : length image.bytes ≡ image_length kind = all.0.1.size ∙ ap image_length all.0.0 in
    let rest = length-bytes kind images all.1 in
    let here : length (flat_map bytes_of (image ∷ images)) ≡ length (image.bytes ++ flat_map bytes_of images) = ap (λ (x : List ℕ). length x) (flat_map-cons bytes_of image images) in
    omega (arith, here, length-append image.bytes (flat_map bytes_of images))

-- one more image at the end of a file
pub adds_image : (front file new : List ℕ) (images : List ImageContents) (i : ℕ) (image : ImageContents) → i < length images → image ≡ get_or images i image
    → file ≡ front ++ flat_map bytes_of (take i images) → new ≡ file ++ image.bytes → new ≡ front ++ flat_map bytes_of (take (i + 1) images)
adds_image front file new images i image lt here so_far added =
    added ∙ ap (λ (x : List ℕ). x ++ image.bytes) so_far ∙ flat_map_more bytes_of front (take i images) image
    ∙ ap (λ (x : ImageContents). front ++ flat_map bytes_of (take i images ++ x ∷ [])) here
    ∙ ap (λ (x : List ImageContents). front ++ flat_map bytes_of x) (sym (take_more images i image lt))

pub all_images_more : (images : List ImageContents) (i : ℕ) (image : ImageContents) → i < length images → image ≡ get_or images i image → All IsImage (take i images) → IsImage image → All IsImage (take (i + 1) images)
all_images_more images i image lt here all one = All-more IsImage images i image lt all (subst IsImage here one)
