-- A file without refusal spells the images that are read from it, and no others.
use Rattle.std.proofs.Common.{◌≡◌, ℕ, ◌*◌, ◌≤◌, List, [], ◌∷◌, ◌++◌, length, drop, None, refl, sym, ap, ◌∙◌, arith}
use Rattle.std.specs.List.{flat_map, AllByRecursion}
use Rattle.std.proofs.lemmas.List.{length-drop}
use Rattle.std.proofs.lemmas.List.Elements.{recursion_from_All, All-from_recursion}
use Rattle.byteorder.specs.Numbers.{little_number-reads_back}
use Rattle.smm_base.specs.declared.kinds.MapKind.{MapKind}
use Rattle.smm_base.specs.declared.kinds.MapKind.TheVariants.{Ia32, Intel64}
use Rattle.save_state_map.specs.Fields.{image_length}
use Rattle.save_state_map.specs.Images.{ImageContents, IsImage}
use Rattle.image_file.specs.Spelling.{header, spelling, AreImages, IsSpelling}
use Rattle.image_file.specs.Refusals.{kind_number_of, count_of, kind_numbered, refusal_of}
use Rattle.image_file.specs.Contents.{images_at}
use Rattle.image_file.proofs.Headers.{IsBytes, Passes, passes_all, no_refusal, behind_header, drop_bytes}
use Rattle.image_file.proofs.Sequence.{bytes_of, IsOf, images_at-length, images_at-of, images_at-bytes, images_back, length-bytes}

-- the kind and the wholeness of each image
kinds_of : (kind : MapKind) (images : List ImageContents) → AllByRecursion (IsOf kind) images → AllByRecursion (λ image. image.kind ≡ kind) images
kinds_of kind [] all = tt
kinds_of kind (image ∷ images) all = (all.0.0, kinds_of kind images all.1)

wholes_of : (kind : MapKind) (images : List ImageContents) → AllByRecursion (IsOf kind) images → AllByRecursion IsImage images
wholes_of kind [] all = tt
wholes_of kind (image ∷ images) all = (all.0.1, wholes_of kind images all.1)

both_of : (kind : MapKind) (images : List ImageContents) → AllByRecursion (λ image. image.kind ≡ kind) images → AllByRecursion IsImage images → AllByRecursion (IsOf kind) images
both_of kind [] kinds wholes = tt
both_of kind (image ∷ images) kinds wholes = ((kinds.0, wholes.0), both_of kind images kinds.1 wholes.1)

all_of : (kind : MapKind) (images : List ImageContents) → AreImages kind images → AllByRecursion (IsOf kind) images
all_of kind images are =
    both_of kind images (recursion_from_All (λ image. image.kind ≡ kind) images are.same_kind) (recursion_from_All IsImage images are.whole)

-- what the header of a spelling says
kind_read : (kind : MapKind) (count : ℕ) (body : List ℕ) → kind_numbered (kind_number_of (header kind count ++ body)) ≡ kind
kind_read Ia32 count body = refl
kind_read Intel64 count body = refl

kind_number_read : (kind : MapKind) (count : ℕ) (body : List ℕ) → kind_number_of (header kind count ++ body) ≤ 1
kind_number_read Ia32 count body = omega arith
kind_number_read Intel64 count body = omega arith

count_read : (kind : MapKind) (count : ℕ) (body : List ℕ) → count ≤ 64 → count_of (header kind count ++ body) ≡ count
count_read kind count body most = little_number-reads_back 4 count body (omega arith)

-- a spelling passes each check
pub spelling_passes : (kind : MapKind) (images : List ImageContents) → AreImages kind images → Passes (spelling kind images)
spelling_passes kind images are =
    let body : List ℕ = flat_map bytes_of images in
    let k = kind_read kind (length images) body in
    let n = count_read kind (length images) body are.most in
    let size = length-bytes kind images (all_of kind images are) in
    record {
      long = omega arith;
      begins = refl;
      version = refl;
      kind = kind_number_read kind (length images) body;
      some = rw n are.some;
      most = rw n are.most;
      whole = rw (k, n) (omega (arith, size));
    }

-- a file without refusal spells the images that stand in it
pub is_spelling : (file : List ℕ) → IsBytes file → refusal_of file ≡ None → IsSpelling file (images_at (kind_numbered (kind_number_of file)) (count_of file) (drop 12 file))
is_spelling file h unrefused =
    let p = passes_all file unrefused in
    let kind : MapKind = kind_numbered (kind_number_of file) in
    let n : ℕ = count_of file in
    let size : length (drop 12 file) ≡ n * image_length kind = omega (arith, length-drop 12 file, p.whole) in
    let images : List ImageContents = images_at kind n (drop 12 file) in
    let all = images_at-of kind n (drop 12 file) size (drop_bytes 12 file h) in
    let count = images_at-length kind n (drop 12 file) in
    record {
      kind = kind;
      images_of = record {
        some = rw count p.some;
        most = rw count p.most;
        same_kind = All-from_recursion (λ image. image.kind ≡ kind) images (kinds_of kind images all);
        whole = All-from_recursion IsImage images (wholes_of kind images all);
      };
      bytes = behind_header file h p ∙ ap (λ (k : ℕ). header kind k ++ drop 12 file) (sym count) ∙ ap (λ (x : List ℕ). header kind (length images) ++ x) (sym (images_at-bytes kind n (drop 12 file) size));
    }

-- a spelling has no refusal
pub spelling_unrefused : (file : List ℕ) (images : List ImageContents) → IsSpelling file images → refusal_of file ≡ None
spelling_unrefused file images s = ap refusal_of s.bytes ∙ no_refusal (spelling s.kind images) (spelling_passes s.kind images s.images_of)

-- the images that are read from a spelling are those that it spells
pub same_images : (file : List ℕ) (images : List ImageContents) → IsSpelling file images → images_at (kind_numbered (kind_number_of file)) (count_of file) (drop 12 file) ≡ images
same_images file images s =
    let body : List ℕ = flat_map bytes_of images in
    let whole : images_at (kind_numbered (kind_number_of (header s.kind (length images) ++ body))) (count_of (header s.kind (length images) ++ body)) body ≡ images =
    rw (kind_read s.kind (length images) body, count_read s.kind (length images) body s.images_of.most) (images_back s.kind images (all_of s.kind images s.images_of)) in
    ap (λ (x : List ℕ). images_at (kind_numbered (kind_number_of x)) (count_of x) (drop 12 x)) s.bytes ∙ whole
