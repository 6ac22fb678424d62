-- The images of a file that serves a platform are all of its kind, and as many as its processors.
use Rattle.std.proofs.Common.{◌≡◌, ℕ, zero, suc, ◌==◌, Bool, true, false, not, List, [], ◌∷◌, All, length, Result, Ok, Err, IfOk, if◌then◌else◌, refl, ap, sym, subst, ◌∙◌, take, drop, arith}
use Rattle.std.proofs.lemmas.Bool.{eqb-true}
use Rattle.std.proofs.lemmas.List.Elements.{All-head, All-cons}
use Rattle.smm_base.specs.declared.kinds.MapKind.{MapKind}
use Rattle.smm_base.specs.declared.kinds.MapKind.TheVariants.{Ia32, Intel64}
use Rattle.save_state_map.specs.Fields.{image_length}
use Rattle.save_state_map.specs.Images.{ImageContents}
use Rattle.image_file.specs.Contents.{images_at, images_in}
use Rattle.image_file.specs.Refusals.{kind_number_of, kind_numbered, count_of}
use Rattle.smm_player.specs.declared.images.ImagesFault.TheVariants as fault
use Rattle.smm_player.specs.declared.refusal.Refusal.TheVariants.{Images}
use Rattle.smm_player.specs.declared.fault.Fault.{Fault}
use Rattle.cpu_table.specs.Data.{SetupData}
use Rattle.rendezvous_core.specs.Starts.{AreImagesOf}
use Rattle.smm_player.specs.Due.{Finding, kinds_agree, differs, counted, serving}

all_at : (kind : MapKind) (n : ℕ) (bytes : List ℕ) → All (λ image. image.kind ≡ kind) (images_at kind n bytes)
unfolding images_at
all_at kind zero bytes = λ k d below. absurd (omega (arith, below))
all_at kind (suc n) bytes = All-cons (λ image. image.kind ≡ kind) (record { kind = kind; bytes = take (image_length kind) bytes }) (images_at kind n (drop (image_length kind) bytes)) refl (all_at kind n (drop (image_length kind) bytes))

agree_is : (first second : MapKind) → kinds_agree first second ≡ true → first ≡ second
agree_is Ia32 Ia32 same = refl
agree_is Ia32 Intel64 same = cc
agree_is Intel64 Ia32 same = cc
agree_is Intel64 Intel64 same = refl

of_not : (b : Bool) → not b ≡ false → b ≡ true
of_not true is = cc
of_not false is = cc

-- images of one kind, of which the first is not of another kind than this
all_of_first : (one kind : MapKind) (images : List ImageContents) → All (λ image. image.kind ≡ one) images → differs kind images ≡ false → All (λ image. image.kind ≡ kind) images
all_of_first one kind [] all same = λ k d below. absurd (omega (arith, below))
all_of_first one kind (first ∷ others) all same =
    let agreed : kinds_agree first.kind kind ≡ true = of_not (kinds_agree first.kind kind) same in
    let P : MapKind → Type 0 = λ k. All (λ image. image.kind ≡ k) (first ∷ others) in
    subst P (sym (All-head (λ image. image.kind ≡ one) first others all) ∙ agree_is first.kind kind agreed) all

-- a choice that isn't the error
chosen : (b : Bool) (first : Finding (List ImageContents)) (error : Finding (List ImageContents)) (found : List ImageContents) → (error ≡ Ok found → ⊥) → (if b then first else error) ≡ Ok found → (b ≡ true) × (first ≡ Ok found)
chosen true first error found apart is = (refl, is)
chosen false first error found apart is = absurd (apart is)

chosen_not : (b : Bool) (error second : Finding (List ImageContents)) (found : List ImageContents) → (error ≡ Ok found → ⊥) → (if b then error else second) ≡ Ok found → (b ≡ false) × (second ≡ Ok found)
chosen_not true error second found apart is = absurd (apart is)
chosen_not false error second found apart is = (refl, is)

pub record Serves (map : MapKind) (processors : ℕ) (images : List ImageContents) : Type 0 where
  pub count : length images ≡ processors
  pub kind : All (λ image. image.kind ≡ map) images

ok_is : (images found : List ImageContents) → ◌≡◌ {A = Finding (List ImageContents)} (Ok images) (Ok found) → images ≡ found
ok_is images found is = cc

serves : (kind : MapKind) (processors : ℕ) (images found : List ImageContents) (one : MapKind) → All (λ image. image.kind ≡ one) images → serving kind processors images ≡ Ok found → Serves kind processors found
serves kind processors images found one all is =
    let outer = chosen_not (differs kind images) (Err (Images fault.KindDiffers)) (counted processors images) found (λ e. cc) is in
    let inner = chosen (length images == processors) (Ok images) (Err (Images (fault.CountDiffers processors (length images)))) found (λ e. cc) outer.1 in
    let same : images ≡ found = ok_is images found inner.1 in
    let P : List ImageContents → Type 0 = λ xs. Serves kind processors xs in
    subst P same (record { count = eqb-true (length images) processors inner.0; kind = all_of_first one kind images all outer.0 })

-- the images of a file that serve a platform
pub file_serves : (kind : MapKind) (processors : ℕ) (bytes : List ℕ) (found : List ImageContents) → serving kind processors (images_in bytes) ≡ Ok found → Serves kind processors found
file_serves kind processors bytes found is =
    serves kind processors (images_in bytes) found (kind_numbered (kind_number_of bytes)) (all_at (kind_numbered (kind_number_of bytes)) (count_of bytes) (drop 12 bytes)) is

-- the same of an answer
pub served_count : {V : Type 0} (view : V → List ImageContents) (kind : MapKind) (processors : ℕ) (bytes : List ℕ) (held : List ImageContents) (r : Result V Fault) → held ≡ images_in bytes → IfOk r (λ v. serving kind processors held ≡ Ok (view v)) →
    IfOk r (λ v. length (view v) ≡ processors)
served_count view kind processors bytes held (Ok v) is found = (file_serves kind processors bytes (view v) (ap (serving kind processors) (sym is) ∙ found)).count
served_count view kind processors bytes held (Err stopped) is found = tt

pub served_kind : {V : Type 0} (view : V → List ImageContents) (kind : MapKind) (processors : ℕ) (bytes : List ℕ) (held : List ImageContents) (r : Result V Fault) → held ≡ images_in bytes → IfOk r (λ v. serving kind processors held ≡ Ok (view v)) →
    IfOk r (λ v. All (λ image. image.kind ≡ kind) (view v))
served_kind view kind processors bytes held (Ok v) is found = (file_serves kind processors bytes (view v) (ap (serving kind processors) (sym is) ∙ found)).kind
served_kind view kind processors bytes held (Err stopped) is found = tt

pub images_serve : {V : Type 0} (view : V → List ImageContents) (setup : SetupData) (r : Result V Fault) → IfOk r (λ v. length (view v) ≡ setup.processors) → IfOk r (λ v. All (λ image. image.kind ≡ setup.kind) (view v)) → IfOk r (λ v. AreImagesOf setup (view v))
images_serve view setup (Ok v) count kind = record { count = count; kind = kind }
images_serve view setup (Err stopped) count kind = tt
