-- Rounds of all actors, and what a sum replays.
use Rattle.std.proofs.Common.{◌≡◌, ◌↔◌, ℕ, zero, suc, ◌+◌, ◌<◌, ◌≤◌, Bool, true, false, List, [], ◌∷◌, ◌++◌, length, All, None, refl, ap, sym, subst, ◌∙◌, arith, append_assoc, append-nil, add-one}
use Rattle.std.specs.Prelude.{replicate, IsTrue}
use Rattle.std.specs.Bool.{OnTrue}
use Rattle.std.proofs.lemmas.Bool.{false≢true}
use Rattle.std.specs.List.{concat, range_with_len}
use Rattle.std.proofs.lemmas.List.{map-id, length-replicate}
use Rattle.std.proofs.lemmas.List.Elements.{All-nil, All-append, All-replicate}
use Rattle.std.proofs.lemmas.List.FromFn.{map-range_with_len_more}
use Rattle.smm_base.specs.declared.kinds.MapKind.TheVariants.{Intel64}
use Rattle.save_state_map.specs.declared.field.Field.TheVariants.{Revision, Smbase}
use Rattle.save_state_map.specs.Images.{ImageContents, Accepts, with_field}
use Rattle.cpu_table.specs.declared.setup.Setup.{Setup}
use Rattle.cpu_table.specs.Data.{SetupData, data_of}
use Rattle.platform_gen.specs.Plans.{generated_setup}
use Rattle.rendezvous_core.specs.Starts.{start_refusal, AreImagesOf}
use Rattle.replay_report.specs.Plan.{plan, IsPlayable}
use Rattle.replay_report.proofs.ReplayLemmas.{known_range}
use Rattle.generated_rounds.specs.Rounds.{zero_image, start_image, round_of, rounds, sum_plan}
use Rattle.smm_command.specs.declared.recipe.Recipe.{Recipe}

range-more : (place : ℕ) → range_with_len 0 (place + 1) ≡ range_with_len 0 place ++ place ∷ []
range-more place =
    sym (map-id (range_with_len 0 (place + 1))) ∙ map-range_with_len_more (λ x. x) 0 place place (omega arith)
    ∙ ap (λ actors. actors ++ place ∷ []) (map-id (range_with_len 0 place))

-- one actor more of a round
pub round_more : (before : List ℕ) (place : ℕ) → (before ++ range_with_len 0 place) ++ place ∷ [] ≡ before ++ range_with_len 0 (place + 1)
round_more before place = append_assoc before (range_with_len 0 place) (place ∷ []) ∙ ap (λ actors. before ++ actors) (sym (range-more place))

-- no round has been yet
pub rounds_none : (processors : ℕ) → rounds 0 processors ≡ []
unfolding rounds
rounds_none processors = refl

repeated_once_more : (count : ℕ) (round : List ℕ) → concat (replicate (suc count) round) ≡ concat (replicate count round) ++ round
repeated_once_more zero round = append-nil round
repeated_once_more (suc count) round = ap (λ more. round ++ more) (repeated_once_more count round) ∙ sym (append_assoc round (concat (replicate count round)) round)

-- one round more
pub rounds_more : (count processors : ℕ) → rounds count processors ++ round_of processors ≡ rounds (count + 1) processors
unfolding rounds
rounds_more count processors = sym (rw add-one (repeated_once_more count (round_of processors)))

-- each actor of a round is one of the platform's
known_repeated : (n count : ℕ) (round : List ℕ) → All (λ actor. actor ≤ n) round → All (λ actor. actor ≤ n) (concat (replicate count round))
known_repeated n zero round known = All-nil (λ actor. actor ≤ n)
known_repeated n (suc count) round known = All-append (λ actor. actor ≤ n) round (concat (replicate count round)) known (known_repeated n count round known)

known_rounds : (n count : ℕ) → All (λ actor. actor ≤ n) (rounds count n)
unfolding rounds
known_rounds n count = known_repeated n count (round_of n) (known_range n 0 (n + 1) (omega arith))

-- IMAGES

-- one image more
pub image_more : (count : ℕ) (image : ImageContents) → replicate count image ++ image ∷ [] ≡ replicate (count + 1) image
image_more count image = repeated_one count ∙ ap (λ n. replicate n image) (sym (add-one count)) where
  repeated_one : (n : ℕ) → replicate n image ++ image ∷ [] ≡ replicate (suc n) image
  repeated_one zero = refl
  repeated_one (suc n) = ap (λ images. image ∷ images) (repeated_one n)

pub zeros_long : length {A = ℕ} (replicate 1024 0) ≡ 1024
zeros_long = length-replicate {A = ℕ} 1024 0

zero_fits : Accepts zero_image Revision 196612
unfolding zero_image
zero_fits = omega arith

revised_fits : Accepts (with_field zero_image Revision 196612) Smbase 196608
unfolding zero_image
revised_fits = omega arith

is_set : (taken : Bool) {P T : Type 0} → (IsTrue taken ↔ P) → P → OnTrue taken T → T
is_set true accepted fits changed = changed
is_set false accepted fits changed = absurd (false≢true (accepted.1 fits))

-- both fields are put
pub start_is : (first_put second_put : Bool) (first second third : ImageContents) → first ≡ zero_image → (IsTrue first_put ↔ Accepts first Revision 196612) → OnTrue first_put (second ≡ with_field first Revision 196612) →
    (IsTrue second_put ↔ Accepts second Smbase 196608) → OnTrue second_put (third ≡ with_field second Smbase 196608) → third ≡ start_image
unfolding start_image
start_is first_put second_put first second third is first_accepted first_changed second_accepted second_changed =
    let P : ImageContents → Type 0 = λ m. Accepts m Revision 196612 in
    let Q : ImageContents → Type 0 = λ m. Accepts m Smbase 196608 in
    let revised : second ≡ with_field zero_image Revision 196612 = is_set first_put first_accepted (subst P (sym is) zero_fits) first_changed ∙ ap (λ m. with_field m Revision 196612) is in
    is_set second_put second_accepted (subst Q (sym revised) revised_fits) second_changed ∙ ap (λ m. with_field m Smbase 196608) revised

-- WHAT A SUM REPLAYS

pub sum_plan_is : (recipe : Recipe) (d : SetupData) (images : List ImageContents) (actors : List ℕ) → d ≡ generated_setup recipe.seed recipe.processors → images ≡ replicate recipe.processors start_image → actors ≡ rounds 2000 recipe.processors →
    plan d images actors ≡ sum_plan recipe
unfolding sum_plan
sum_plan_is recipe d images actors setup_is images_is actors_is = λ t. plan (setup_is t) (images_is t) (actors_is t)

serve : (d : SetupData) (recipe : Recipe) → d ≡ generated_setup recipe.seed recipe.processors → AreImagesOf d (replicate recipe.processors start_image)
unfolding start_image zero_image
serve d recipe is =
    let P : SetupData → Type 0 = λ d. AreImagesOf d (replicate recipe.processors start_image) in
    subst P (sym is) (record { count = length-replicate recipe.processors start_image; kind = All-replicate (λ (image : ImageContents). image.kind ≡ Intel64) recipe.processors start_image refl })

relocatable : (d : SetupData) (recipe : Recipe) (images : List ImageContents) → d ≡ generated_setup recipe.seed recipe.processors → start_refusal d images ≡ None
relocatable d recipe images is = ap (λ (d : SetupData). start_refusal d images) is

-- and it can be played
pub sum_playable : (recipe : Recipe) (setup : Setup) (images : List ImageContents) (actors : List ℕ) → data_of setup ≡ generated_setup recipe.seed recipe.processors → images ≡ replicate recipe.processors start_image → actors ≡ rounds 2000 recipe.processors →
    IsPlayable (plan (data_of setup) images actors)
sum_playable recipe setup images actors setup_is images_is actors_is =
    let processors : setup.processors ≡ recipe.processors = ap (λ (d : SetupData). d.processors) setup_is in
    let Serve : List ImageContents → Type 0 = λ images. AreImagesOf (data_of setup) images in
    let Known : List ℕ → Type 0 = λ actors. All (λ actor. actor ≤ setup.processors) actors in
    let Few : ℕ → Type 0 = λ n. All (λ actor. actor ≤ n) (rounds 2000 recipe.processors) in
    record {
      some = setup.processors_in_range.0;
      few = setup.processors_in_range.1;
      visits = setup.visits_in_range.0;
      policy = setup.policy_in_range;
      waves = setup.waves_in_range;
      handlers = setup.handlers_in_range;
      images = subst Serve (sym images_is) (serve (data_of setup) recipe setup_is);
      relocatable = relocatable (data_of setup) recipe images setup_is;
      known = subst Known (sym actors_is) (subst Few (sym processors) (known_rounds recipe.processors 2000));
    }
