-- The images after and the report of a replay.
use Rattle.std.proofs.Common.{◌≡◌, ℕ, zero, suc, ◌+◌, ◌<◌, ◌≤◌, List, [], ◌∷◌, ◌++◌, length, map, All, Option, Some, Result, Ok, Err, IfOk, refl, ap, sym, subst, ◌∙◌, arith, zero-add}
use Rattle.std.specs.Prelude.{slice_get, filter_map}
use Rattle.std.specs.List.{range_with_len, cons_option, enumerate_from}
use Rattle.std.proofs.lemmas.List.{length-map, map-append}
use Rattle.std.proofs.lemmas.List.Elements.{All-nil, All-cons}
use Rattle.std.proofs.lemmas.Option.{slice_get_within}
use Rattle.std.proofs.lemmas.List.FromFn.{length-enumerate_from, length-map-range_with_len, map-range_with_len_more}
use Rattle.save_state_map.specs.Images.{ImageContents}
use Rattle.cpu_table.specs.Data.{SetupData}
use Rattle.rendezvous_core.specs.Platforms.{HasProcessorOf, KeepsPlatform}
use Rattle.rendezvous_core.specs.Starts.{first_registers_of}
use Rattle.rendezvous_core.specs.Worlds.{World, is_complete, last_image, replay_events}
use Rattle.rendezvous_laws.proofs.Resumes.{last_resumed}
use Rattle.sync_words.specs.declared.event.Event.{Event}
use Rattle.rendezvous_machine.specs.Machines.{Machine, member, beginning}
use Rattle.rendezvous_machine.specs.Runs.{machine_after}
use Rattle.schedule_laws.proofs.Schedules.{IsReplayed}
use Rattle.schedule_laws.proofs.AllSchedules.{every, platform_of}
use Rattle.replay_report.specs.Plan.{Plan, IsPlayable}
use Rattle.replay_report.specs.Replays.{Replayed, registers_of, world_of, replayed, image_after, labels_of, report_of, AreImagesAfter, FollowsLabels}
use Rattle.replay_report.specs.Report.{report_text}

-- the report by what the replay left
pub report_is : (p : Plan) (left : Replayed) → left ≡ replayed p → report_text p.setup.processors left.events left.complete ≡ report_of p
unfolding report_of
report_is p left is = ap (λ r. report_text p.setup.processors r.events r.complete) is

pub same_left : (a b : Replayed) → a.events ≡ b.events → a.complete ≡ b.complete → a.images ≡ b.images → a ≡ b
same_left a b events complete images = λ t. record { events = events t; complete = complete t; images = images t }

-- images that are each the one of their processor

head_is : (x y : Option ImageContents) (xs ys : List (Option ImageContents)) → x ∷ xs ≡ y ∷ ys → x ≡ y
head_is x y xs ys e = cc

tail_is : (x y : Option ImageContents) (xs ys : List (Option ImageContents)) → x ∷ xs ≡ y ∷ ys → xs ≡ ys
tail_is x y xs ys e = cc

-- one processor more
pub one_more : (image_of : ℕ → Option ImageContents) (n : ℕ) (images : List ImageContents) (image : ImageContents) → map Some images ≡ map image_of (range_with_len 0 n) → image_of n ≡ Some image →
    map Some (images ++ image ∷ []) ≡ map image_of (range_with_len 0 (n + 1))
one_more image_of n images image each is =
    map-append Some images (image ∷ []) ∙ ap (λ xs. xs ++ Some image ∷ []) each ∙ ap (λ o. map image_of (range_with_len 0 n) ++ o ∷ []) (sym is)
    ∙ sym (map-range_with_len_more image_of 0 n n (zero-add n))

pub images_are : (image_of : ℕ → Option ImageContents) (places : List ℕ) (images : List ImageContents) → map Some images ≡ map image_of places → filter_map image_of places ≡ images
images_are image_of [] [] e = refl
images_are image_of [] (image ∷ images) e = absurd cc
images_are image_of (i ∷ places) [] e = absurd cc
images_are image_of (i ∷ places) (image ∷ images) e =
    let rest = images_are image_of places images (tail_is (Some image) (image_of i) (map Some images) (map image_of places) e) in
    ap (λ o. cons_option o (filter_map image_of places)) (sym (head_is (Some image) (image_of i) (map Some images) (map image_of places) e)) ∙ ap (λ xs. image ∷ xs) rest

pub image_at : (image_of : ℕ → Option ImageContents) (from n : ℕ) (images : List ImageContents) → map Some images ≡ map image_of (range_with_len from n) → (i : ℕ) → i < n → slice_get images i ≡ image_of (from + i)
image_at image_of from zero images e i below = absurd (omega (arith, below))
image_at image_of from (suc n) [] e i below = absurd cc
image_at image_of from (suc n) (image ∷ images) e zero below =
    let none : from ≡ from + zero = omega arith in
    head_is (Some image) (image_of from) (map Some images) (map image_of (range_with_len (from + 1) n)) e ∙ ap image_of none
image_at image_of from (suc n) (image ∷ images) e (suc i) below =
    let on : (from + 1) + i ≡ from + suc i = omega arith in
    image_at image_of (from + 1) n images (tail_is (Some image) (image_of from) (map Some images) (map image_of (range_with_len (from + 1) n)) e) i (omega (arith, below)) ∙ ap image_of on

-- what is left by the world that the replay came to
pub left_is : (p : Plan) (left : Replayed) (world : World) → world ≡ world_of p → left.events ≡ replay_events p.setup (registers_of p) p.images p.actors → left.complete ≡ is_complete world →
    map Some left.images ≡ map (last_image world) (range_with_len 0 p.setup.processors) → left ≡ replayed p
unfolding replayed
left_is p left world is events complete each =
    let places = range_with_len 0 p.setup.processors in
    same_left left (replayed p) events (complete ∙ ap is_complete is)
    (sym (images_are (last_image (world_of p)) places left.images (each ∙ ap (λ w. map (last_image w) places) is)))

-- and the images
pub images_after : (p : Plan) (images : List ImageContents) (world : World) → world ≡ world_of p → map Some images ≡ map (last_image world) (range_with_len 0 p.setup.processors) →
    All (λ image. image.kind ≡ p.setup.kind) images → AreImagesAfter p images
unfolding image_after
images_after p images world is each kinds =
    let n = p.setup.processors in
    let all : map Some images ≡ map (last_image (world_of p)) (range_with_len 0 n) = each ∙ ap (λ w. map (last_image w) (range_with_len 0 n)) is in
    record {
      serve = record { count = sym (length-map images Some) ∙ ap length all ∙ length-map-range_with_len (last_image (world_of p)) 0 n; kind = kinds };
      each = λ i below. image_at (last_image (world_of p)) 0 n images all i below ∙ ap (last_image (world_of p)) (zero-add i);
    }

-- the same of an answer
pub replayed_by : {E : Type 0} (p : Plan) (world : World) (events : List Event) (r : Result Replayed E) → world ≡ world_of p → events ≡ replay_events p.setup (registers_of p) p.images p.actors → IfOk r (λ left. left.events ≡ events) →
    IfOk r (λ left. left.complete ≡ is_complete world) → IfOk r (λ left. map Some left.images ≡ map (last_image world) (range_with_len 0 p.setup.processors)) → IfOk r (λ left. left ≡ replayed p)
replayed_by p world events (Ok left) is made its_events complete each = left_is p left world is (its_events ∙ made) complete each
replayed_by p world events (Err error) is made its_events complete each = tt

pub after_by : {E : Type 0} (p : Plan) (world : World) (r : Result Replayed E) → world ≡ world_of p → IfOk r (λ left. map Some left.images ≡ map (last_image world) (range_with_len 0 p.setup.processors)) →
    IfOk r (λ left. All (λ image. image.kind ≡ p.setup.kind) left.images) → IfOk r (λ left. AreImagesAfter p left.images)
after_by p world (Ok left) is each kind = images_after p left.images world is each kind
after_by p world (Err error) is each kind = tt

-- each processor of that world is one of the platform
pub keeps_platform : KeepsPlatform → (p : Plan) (world : World) → IsPlayable p → world ≡ world_of p → (i : ℕ) → i < p.setup.processors → HasProcessorOf p.setup world i
keeps_platform keeps p world playable is i below =
    let registers = registers_of p in
    let each : length registers ≡ length p.images = length-map (enumerate_from 0 p.images) _ ∙ length-enumerate_from 0 p.images in
    let P : World → Type 0 = λ w. HasProcessorOf p.setup w i in
    subst P (sym is) (keeps p.setup registers p.images p.actors i (sym each) (omega (arith, below, each, playable.images.count)))

-- each actor of a range is one of the platform's
pub known_range : (n first actors : ℕ) → first + actors ≤ n + 1 → All (λ actor. actor ≤ n) (range_with_len first actors)
known_range n first zero fits = All-nil (λ actor. actor ≤ n)
known_range n first (suc actors) fits = All-cons (λ actor. actor ≤ n) first (range_with_len (first + 1) actors) (omega (arith, fits)) (known_range n (first + 1) actors (omega (arith, fits)))

-- WHAT FOLLOWS FROM THE LABELS

-- where each place of a range has an item, none is passed over
all_there : {A : Type 0} (item_of : ℕ → Option A) (given : ℕ → A) (from n : ℕ) → ((k : ℕ) → k < n → item_of (from + k) ≡ Some (given (from + k))) → (i : ℕ) → i < n
    → slice_get (filter_map item_of (range_with_len from n)) i ≡ Some (given (from + i))
all_there item_of given from zero each i below = absurd (omega (arith, below))
all_there {A} item_of given from (suc n) each zero below =
    let none : from + 0 ≡ from = omega arith in
    let here : item_of from ≡ Some (given (from + 0)) = ap item_of (sym none) ∙ each 0 (omega arith) in
    ap (λ (o : Option A). slice_get (cons_option o (filter_map item_of (range_with_len (from + 1) n))) 0) here
all_there {A} item_of given from (suc n) each (suc i) below =
    let none : from + 0 ≡ from = omega arith in
    let here : item_of from ≡ Some (given (from + 0)) = ap item_of (sym none) ∙ each 0 (omega arith) in
    let on : (k : ℕ) → (from + 1) + k ≡ from + suc k = λ k. omega arith in
    let later : (k : ℕ) → k < n → item_of ((from + 1) + k) ≡ Some (given ((from + 1) + k)) =
    (λ k l. ap item_of (on k) ∙ each (suc k) (omega (arith, l)) ∙ ap (λ x. Some (given x)) (sym (on k))) in
    ap (λ (o : Option A). slice_get (cons_option o (filter_map item_of (range_with_len (from + 1) n))) (suc i)) here
    ∙ all_there item_of given (from + 1) n later i (omega (arith, below)) ∙ ap (λ x. Some (given x)) (on i)

-- the registers that a processor begins with are those of its image
registers_at : (d : SetupData) (from : ℕ) (images : List ImageContents) (i : ℕ) (image : ImageContents) → slice_get images i ≡ Some image
    → slice_get (map (λ (x : ℕ × ImageContents). first_registers_of d x.0 x.1) (enumerate_from from images)) i ≡ Some (first_registers_of d (from + i) image)
registers_at d from [] i image is = absurd cc
registers_at d from (x ∷ images) zero image is =
    let same : x ≡ image = cc in
    let none : from ≡ from + 0 = omega arith in
    ap (λ (y : ImageContents). Some (first_registers_of d from y)) same ∙ ap (λ (k : ℕ). Some (first_registers_of d k image)) none
registers_at d from (x ∷ images) (suc i) image is =
    let on : (from + 1) + i ≡ from + suc i = omega arith in
    registers_at d (from + 1) images i image is ∙ ap (λ (k : ℕ). Some (first_registers_of d k image)) on

law : (p : Plan) → IsPlayable p → IsReplayed p.setup (registers_of p) p.images p.actors
law p playable =
    let count : length (registers_of p) ≡ length p.images = length-map (enumerate_from 0 p.images) _ ∙ length-enumerate_from 0 p.images in
    every p.setup (registers_of p) p.images p.actors
    (platform_of p.setup playable.some playable.few playable.visits playable.policy playable.waves playable.handlers)
    (count ∙ playable.images.count) playable.images

-- the machine after the labels
abbrev machine_of : Plan → Machine
machine_of p = machine_after p.setup (beginning p.setup (registers_of p) p.images) (labels_of p)

-- the image after of each processor is the one that its labels tell
image_left : (p : Plan) → IsReplayed p.setup (registers_of p) p.images p.actors → (i : ℕ) → i < p.setup.processors → slice_get (replayed p).images i ≡ Some (member (machine_of p) i).last
unfolding replayed
image_left p ran i below =
    let zeros : (k : ℕ) → 0 + k ≡ k = λ k. omega arith in
    all_there (last_image (world_of p)) (λ k. (member (machine_of p) k).last) 0 p.setup.processors
    (λ k l. subst (λ (x : ℕ). last_image (world_of p) x ≡ Some (member (machine_of p) x).last) (sym (zeros k)) (ran.after k l)) i below
    ∙ ap (λ x. Some (member (machine_of p) x).last) (zeros i)

follows_with : (p : Plan) → IsPlayable p → IsReplayed p.setup (registers_of p) p.images p.actors → FollowsLabels p
unfolding replayed
follows_with p playable ran =
    record {
      is_run = ran.run;
      resumed = λ i image is.
          let below = slice_get_within p.images i image is in
          let count = playable.images.count in
          let zeros : 0 + i ≡ i = omega arith in
          let own = registers_at p.setup 0 p.images i image is ∙ ap (λ (k : ℕ). Some (first_registers_of p.setup k image)) zeros in
          image_left p ran i (omega (arith, below, count))
          ∙ ap Some (last_resumed p.setup (registers_of p) p.images (labels_of p) i (first_registers_of p.setup i image) image own is ran.run);
    }

pub follows_labels : (p : Plan) → IsPlayable p → FollowsLabels p
follows_labels p playable = follows_with p playable (law p playable)
