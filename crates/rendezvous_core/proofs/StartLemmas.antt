-- The refusal of a relocation, processor by processor, and the registers of a start.
use Rattle.std.proofs.Common.{◌≡◌, ℕ, zero, suc, ◌+◌, ◌<◌, ◌≤◌, Bool, true, false, cond, List, [], ◌∷◌, ◌++◌, Option, Some, None, length, map, drop, get_or, refl, ap, sym, subst, ◌∙◌, add-one, append_assoc}
use Rattle.std.proofs.Math.Seq.{drop-cons}
use Rattle.std.proofs.lemmas.List.{drop_all}
use Rattle.std.proofs.lemmas.List.Elements.{All-head, All-tail, All-cons, All-nil}
use Rattle.std.proofs.lemmas.Iterator.Adapters.{position_from-zero}
use Rattle.std.specs.Prelude.{All, slice_get, option_map}
use Rattle.std.specs.List.{position_from, enumerate_from}
use Rattle.save_state_map.specs.Images.{ImageContents}
use Rattle.cpu_regs.specs.Registers.{Registers, loaded}
use Rattle.cpu_table.specs.Data.{SetupData}
use Rattle.cpu_table.specs.declared.setup.Smram.{Smram}
use Rattle.smbase_reloc.specs.Areas.{smbase_of}
use Rattle.smbase_reloc.specs.Relocation.{is_fixed, refusal_of, refusal_at, relocation_refusal, with_smbase, relocated}
use Rattle.smbase_reloc.specs.declared.error.RelocError.{RelocError}
use Rattle.cpu_program.specs.Actors.{Actor, OfChipset}
use Rattle.chipset.specs.Chipsets.{first_chipset}
use Rattle.rendezvous_core.specs.Starts.{AreImagesOf, placed_in, first_registers}
use Rattle.rendezvous_core.specs.StartsInside.{refusal_one, or_else, refusal_from, AreRegistersOf}
use Rattle.rendezvous_core.specs.Worlds.{first_actor, first_actors}

get_of_drop : (all rest : List Registers) (k : ℕ) (x : Registers) → drop k all ≡ x ∷ rest → slice_get all k ≡ Some x
get_of_drop [] rest zero x h = cc
get_of_drop [] rest (suc k) x h = cc
get_of_drop (y ∷ all) rest zero x h = cc
get_of_drop (y ∷ all) rest (suc k) x h = get_of_drop all rest k x h

drop_more : (all rest : List Registers) (k : ℕ) (x : Registers) → drop k all ≡ x ∷ rest → drop (k + 1) all ≡ rest
drop_more all rest k x h = ap (λ n. drop n all) (add-one k) ∙ by_place all rest k x h
  where
    by_place : (all rest : List Registers) (k : ℕ) (x : Registers) → drop k all ≡ x ∷ rest → drop (suc k) all ≡ rest
    by_place [] rest zero x h = cc
    by_place [] rest (suc k) x h = cc
    by_place (y ∷ all) rest zero x h = cc
    by_place (y ∷ all) rest (suc k) x h = by_place all rest k x h

refusal_at_drop : (all rest : List Registers) (k : ℕ) → drop k all ≡ rest → refusal_at all (position_from is_fixed k rest) ≡ refusal_from k rest
refusal_at_drop all [] k h = refl
refusal_at_drop all (x ∷ rest) k h = by_test (is_fixed x) (get_of_drop all rest k x h) (refusal_at_drop all rest (k + 1) (drop_more all rest k x h))
  where
    by_test : (b : Bool) → slice_get all k ≡ Some x → refusal_at all (position_from is_fixed (k + 1) rest) ≡ refusal_from (k + 1) rest
        → refusal_at all (cond b (Some k) (position_from is_fixed (k + 1) rest)) ≡ or_else (cond b (Some (refusal_of k x)) None) (refusal_from (k + 1) rest)
    by_test true at more = ap (λ o. option_map (refusal_of k) o) at
    by_test false at more = more

-- the first refusal is that of the relocation
pub refusal_is : (all : List Registers) → relocation_refusal all ≡ refusal_from 0 all
refusal_is all = ap (λ o. refusal_at all o) (position_from-zero is_fixed all) ∙ refusal_at_drop all all 0 refl

-- one image more: it is refused, or the rest is
pub refusal_next : (images : List ImageContents) (i : ℕ) (d : ImageContents) → i < length images
    → refusal_from i (map loaded (drop i images)) ≡ or_else (refusal_one i (loaded (get_or images i d))) (refusal_from (i + 1) (map loaded (drop (i + 1) images)))
refusal_next images i d within =
    ap (λ ms. refusal_from i (map loaded ms)) (drop-cons images i d within ∙ ap (λ n. get_or images i d ∷ drop n images) (sym (add-one i)))

pub or_else_some : (o later : Option RelocError) (error : RelocError) → o ≡ Some error → or_else o later ≡ Some error
or_else_some o later error h = ap (λ x. or_else x later) h

pub or_else_none : (o later : Option RelocError) → o ≡ None → or_else o later ≡ later
or_else_none o later h = ap (λ x. or_else x later) h

placed_none : (k : ℕ) (images : List ImageContents) → map (λ x. placed_in None x.0 (loaded x.1)) (enumerate_from k images) ≡ map loaded images
placed_none k [] = refl
placed_none k (m ∷ images) = ap (λ rs. loaded m ∷ rs) (placed_none (k + 1) images)

placed_some : (area : Smram) (k : ℕ) (images : List ImageContents)
    → map (λ x. placed_in (Some area) x.0 (loaded x.1)) (enumerate_from k images) ≡ map (λ e. with_smbase (smbase_of area e.0) e.1) (enumerate_from k (map loaded images))
placed_some area k [] = refl
placed_some area k (m ∷ images) = ap (λ rs. with_smbase (smbase_of area k) (loaded m) ∷ rs) (placed_some area (k + 1) images)

pub placed_first : (d : SetupData) (images : List ImageContents) (rs : List Registers) → d.smram ≡ None → rs ≡ map loaded images → rs ≡ first_registers d images
placed_first d images rs none h = h ∙ sym (placed_none 0 images) ∙ sym (ap (λ o. map (λ x. placed_in o x.0 (loaded x.1)) (enumerate_from 0 images)) none)

pub relocated_first : (d : SetupData) (images : List ImageContents) (rs : List Registers) (area : Smram) → d.smram ≡ Some area → rs ≡ relocated area (map loaded images) → rs ≡ first_registers d images
relocated_first d images rs area some h = h ∙ sym (placed_some area 0 images) ∙ sym (ap (λ o. map (λ x. placed_in o x.0 (loaded x.1)) (enumerate_from 0 images)) some)

placed_kind : (o : Option Smram) (i : ℕ) (r : Registers) → (placed_in o i r).kind ≡ r.kind
placed_kind None i r = refl
placed_kind (Some area) i r = refl

placed_length : (o : Option Smram) (k : ℕ) (images : List ImageContents) → length (map (λ x. placed_in o x.0 (loaded x.1)) (enumerate_from k images)) ≡ length images
placed_length o k [] = refl
placed_length o k (m ∷ images) = ap suc (placed_length o (k + 1) images)

placed_kinds : (d : SetupData) (k : ℕ) (images : List ImageContents) → All (λ image. image.kind ≡ d.kind) images
    → All (λ one. one.kind ≡ d.kind) (map (λ x. placed_in d.smram x.0 (loaded x.1)) (enumerate_from k images))
placed_kinds d k [] h = All-nil (λ (one : Registers). one.kind ≡ d.kind)
placed_kinds d k (m ∷ images) h =
    All-cons (λ (one : Registers). one.kind ≡ d.kind) (placed_in d.smram k (loaded m)) (map (λ x. placed_in d.smram x.0 (loaded x.1)) (enumerate_from (k + 1) images))
    (placed_kind d.smram k (loaded m) ∙ All-head (λ (image : ImageContents). image.kind ≡ d.kind) m images h)
    (placed_kinds d (k + 1) images (All-tail (λ (image : ImageContents). image.kind ≡ d.kind) m images h))

-- the registers of a start are of the setup's kind, and there are as many as images
pub first_are : (d : SetupData) (images : List ImageContents) (rs : List Registers) → AreImagesOf d images → rs ≡ first_registers d images → AreRegistersOf d rs
first_are d images rs h e =
    subst (λ (xs : List Registers). AreRegistersOf d xs) (sym e)
    (record { count = placed_length d.smram 0 images ∙ h.count; kind = placed_kinds d 0 images h.kind })

next_of : {A : Type 0} (xs : List A) (i : ℕ) (d : A) → i < length xs → drop i xs ≡ get_or xs i d ∷ drop (i + 1) xs
next_of xs i d within = drop-cons xs i d within ∙ ap (λ n. get_or xs i d ∷ drop n xs) (sym (add-one i))

-- one program more of a start
pub one_program_more : (d : SetupData) (programs programs' : List Actor) (i : ℕ) (rs : List Registers) (images : List ImageContents) (r r' : Registers) (image image' : ImageContents)
    → i < length rs → i < length images → r ≡ get_or rs i r' → image ≡ get_or images i image' → programs' ≡ programs ++ first_actor d i r image ∷ []
    → programs' ++ first_actors d (i + 1) (drop (i + 1) rs) (drop (i + 1) images) ≡ programs ++ first_actors d i (drop i rs) (drop i images)
one_program_more d programs programs' i rs images r r' image image' within within' r_is image_is is =
    let left = drop (i + 1) rs in
    let left' = drop (i + 1) images in
    let rest = first_actors d (i + 1) left left' in
    let some : r ∷ left ≡ drop i rs = ap (λ x. x ∷ left) r_is ∙ sym (next_of rs i r' within) in
    let some' : image ∷ left' ≡ drop i images = ap (λ x. x ∷ left') image_is ∙ sym (next_of images i image' within') in
    ap (λ ps. ps ++ rest) is
    ∙ append_assoc programs (first_actor d i r image ∷ []) rest
    ∙ ap (λ xs. programs ++ first_actors d i xs (image ∷ left')) some
    ∙ ap (λ xs. programs ++ first_actors d i (drop i rs) xs) some'

-- and the chipset last
pub last_program : (d : SetupData) (programs programs' : List Actor) (i : ℕ) (rs : List Registers) (images : List ImageContents) → length rs ≤ i
    → programs' ≡ programs ++ OfChipset (first_chipset d) ∷ [] → programs' ≡ programs ++ first_actors d i (drop i rs) (drop i images)
last_program d programs programs' i rs images past is = is ∙ sym (ap (λ xs. programs ++ first_actors d i xs (drop i images)) (drop_all i rs past))
