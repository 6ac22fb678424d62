-- In every run the machine's last resumed images are what the labels and the causes alone say.
use Rattle.std.proofs.Common.{ℕ, zero, suc, ◌+◌, ◌≡◌, ◌≢◌, Bool, true, false, List, [], ◌∷◌, map, Option, Some, None, if◌then◌else◌, refl, sym, ap, subst, ⊎_elim, ◌∙◌}
use Rattle.std.proofs.lemmas.Bool.{cases_eq, eq-eqb, ne_eqb}
use Rattle.std.specs.Prelude.{◌==◌, slice_get, slice_set, slice_index_or, zip, IsSomeAnd, option_map}
use Rattle.smm_base.specs.declared.status.Status.{Status}
use Rattle.save_state_map.specs.Images.{ImageContents}
use Rattle.cpu_regs.specs.Registers.{Registers, loaded}
use Rattle.cpu_regs.specs.Entering.{saved}
use Rattle.smm_base.specs.declared.kinds.After.{After}
use Rattle.cpu_table.specs.Data.{SetupData}
use Rattle.cpu_table.specs.Causes.{cause_of}
use Rattle.sync_words.specs.declared.label.Label.{Label}
use Rattle.sync_words.specs.declared.label.Label.TheVariants as say
use Rattle.handler_ops.specs.declared.desk.Job.{Job}
use Rattle.handler_ops.specs.Procedures.{job_on}
use Rattle.rendezvous_machine.specs.Machines.{Machine, Member, nobody, member, first_member, beginning}
use Rattle.rendezvous_machine.specs.Rules.{Rule}
use Rattle.rendezvous_machine.specs.Effects.{effect, enclosed, cleared, entered, resumed, answered, image_run, given}
use Rattle.rendezvous_machine.specs.Services.{written}
use Rattle.rendezvous_machine.specs.Runs.{Said, IsRun, machine_after, Resumed, own_entry, by_own, resumed_by, resumed_after, resumed_image}

-- a job that is open is the one that the labels tell of
abbrev JobFollows : Option Job → Option Job → Type 0
JobFollows None told = Unit {0}
JobFollows (Some job) told = job.done ≡ None → told ≡ Some job

-- a member is as the labels tell
abbrev Follows : Member → Resumed → Type 0
Follows y x = (y.visits ≡ x.visits) × (y.registers ≡ x.registers) × (y.image ≡ x.image) × (y.last ≡ x.last) × JobFollows y.job x.job

-- one of the members is
abbrev OneFollows : List Member → ℕ → Resumed → Type 0
OneFollows [] i x = ⊥
OneFollows (y ∷ ys) zero x = Follows y x
OneFollows (y ∷ ys) (suc i) x = OneFollows ys i x

at_place : (ys : List Member) (i : ℕ) (x : Resumed) → OneFollows ys i x → Follows (slice_index_or ys i nobody) x
at_place [] i x h = absurd h
at_place (y ∷ ys) zero x h = h
at_place (y ∷ ys) (suc i) x h = at_place ys i x h

-- a member that is set to one that follows, and all that are mapped to such
set_follows : (ys : List Member) (c i : ℕ) (y : Member) (x : Resumed) → OneFollows ys i x → (c ≡ i → Follows y x) → OneFollows (slice_set ys c y) i x
set_follows [] c i y x h k = absurd h
set_follows (z ∷ ys) zero zero y x h k = k refl
set_follows (z ∷ ys) zero (suc i) y x h k = h
set_follows (z ∷ ys) (suc c) zero y x h k = h
set_follows (z ∷ ys) (suc c) (suc i) y x h k = set_follows ys c i y x h (λ e. k (ap suc e))

set_here : (ys : List Member) (i : ℕ) (y : Member) (x z : Resumed) → OneFollows ys i x → Follows y z → OneFollows (slice_set ys i y) i z
set_here [] i y x z h k = absurd h
set_here (w ∷ ys) zero y x z h k = k
set_here (w ∷ ys) (suc i) y x z h k = set_here ys i y x z h k

map_follows : (f : Member → Member) (ys : List Member) (i : ℕ) (x : Resumed) → ((y : Member) → Follows y x → Follows (f y) x) → OneFollows ys i x → OneFollows (map f ys) i x
map_follows f [] i x k h = absurd h
map_follows f (y ∷ ys) zero x k h = k y h
map_follows f (y ∷ ys) (suc i) x k h = map_follows f ys i x k h

-- the member c changes, and what is told of i does where c is i
either_follows : (ys : List Member) (c i : ℕ) (y : Member) (x z : Resumed) → OneFollows ys i x → (c ≡ i → Follows y z)
    → OneFollows (slice_set ys c y) i (if c == i then z else x)
either_follows ys c i y x z h k =
    ⊎_elim
    (λ (e : c ≡ i).
    simp (eq-eqb c i e)
    (subst (λ (j : ℕ). OneFollows (slice_set ys j y) i z) (sym e) (set_here ys i y x z h (k e))))
    (λ (n : c ≢ i). simp (ne_eqb c i n) (set_follows ys c i y x h (λ e. absurd (n e))))
    (cases_eq c i)

-- nothing of that is told
same_either : (b : Bool) (ys : List Member) (i : ℕ) (x : Resumed) → OneFollows ys i x → OneFollows ys i (if b then x else x)
same_either true ys i x h = h
same_either false ys i x h = h

-- the member at c, where that is i
here : (ys : List Member) (c i : ℕ) (x : Resumed) → OneFollows ys i x → c ≡ i → Follows (slice_index_or ys c nobody) x
here ys c i x h e = subst (λ (j : ℕ). Follows (slice_index_or ys j nobody) x) (sym e) (at_place ys i x h)

-- a job that is run: its answer is told, and it is open no more
run_image : (d : SetupData) (o told : Option Job) (image shown : ImageContents) (j result : ℕ) (S : Status)
    → IsSomeAnd o (λ job. (job.number ≡ j) × (job.done ≡ None) × ((job_on d.procedures job image).answer ≡ (result, S))) → JobFollows o told → image ≡ shown
    → image_run d o image ≡ image_run d told shown
run_image d None told image shown j result S h k e = absurd h
run_image d (Some job) told image shown j result S h k e =
    ap (λ (m : ImageContents). image_run d (Some job) m) e ∙ ap (λ (o : Option Job). image_run d o shown) (sym (k h.1))

run_job : (o told : Option Job) (answer : ℕ × Status) → JobFollows (option_map (answered answer) o) told
run_job None told answer = tt
run_job (Some job) told answer = λ e. cc

-- a visit begins, and ends
enter_follows : (d : SetupData) (a i : ℕ) (y : Member) (x : Resumed) → a ≡ i → Follows y x → Follows (entered d a y) (own_entry d i x)
enter_follows d a i y x e k = (λ t. k.0 t + 1, k.1, λ t. saved (k.1 t) (cause_of d.causes (e t) (k.0 t + 1)) (k.2 t), k.3, k.4)

resume_follows : (d : SetupData) (i : ℕ) (how : After) (y : Member) (x : Resumed) → Follows y x → Follows (resumed y) (by_own d i (say.Resume how) x)
resume_follows d i how y x k = (k.0, λ t. loaded (k.2 t), k.2, k.2, k.4)

module _ (d : SetupData) (i : ℕ) (m : Machine) (x : Resumed) (h : OneFollows m.members i x) where
  -- the member at a place, where that is i
  at : (c : ℕ) → c ≡ i → Follows (member m c) x
  at c e = here m.members c i x h e

  -- a member whose visits, registers and images stay
  stays : (b : Bool) (c : ℕ) (y : Member) → (c ≡ i → Follows y x) → OneFollows (slice_set m.members c y) i (if b then x else x)
  stays b c y k = same_either b (slice_set m.members c y) i x (set_follows m.members c i y x h k)

  pub follows_on : (a : ℕ) (l : Label) → Rule d m a l → OneFollows (effect d m a l).members i (resumed_by d i a l x)
  follows_on a say.Enter r = either_follows m.members a i _ x (own_entry d i x) h (λ e. enter_follows d a i (member m a) x e (at a e))
  follows_on a say.Turn r = stays (a == i) a _ (at a)
  follows_on a say.Arrive r = stays (a == i) a _ (at a)
  follows_on a say.Late r = stays (a == i) a _ (at a)
  follows_on a say.Quit r = stays (a == i) a _ (at a)
  follows_on a say.Report r = stays (a == i) a _ (at a)
  follows_on a (say.Close n) r = same_either (a == i) _ i x (map_follows enclosed m.members i x (λ y k. k) h)
  follows_on a (say.Write c register width v S) r =
      either_follows m.members c i _ x (record x { image = written S register width v x.image }) h
      (λ e. let k = at c e in (k.0, k.1, ap (λ (image : ImageContents). written S register width v image) k.2, k.3, k.4))
  follows_on a (say.Start c j p arg) r =
      either_follows m.members c i _ x (record x { job = Some (given j p arg) }) h (λ e. let k = at c e in (k.0, k.1, k.2, k.3, λ t. refl))
  follows_on a (say.Run j result S) r =
      either_follows m.members a i _ x (record x { image = image_run d x.job x.image }) h
      (λ e. let k = at a e in
      (k.0, k.1, run_image d (member m a).job x.job (member m a).image x.image j result S r.1 k.4 k.2, k.3, run_job (member m a).job x.job (result, S)))
  follows_on a (say.Collect c) r = stays (a == i) c _ (λ e. let k = at c e in (k.0, k.1, k.2, k.3, tt))
  follows_on a (say.Release c) r = stays (a == i) c _ (at c)
  follows_on a say.Depart r = stays (a == i) a _ (at a)
  follows_on a say.End r = same_either (a == i) _ i x (map_follows cleared _ i x (λ y k. k) (set_follows m.members a i _ x h (at a)))
  follows_on a (say.Resume how) r =
      either_follows m.members a i _ x (by_own d i (say.Resume how) x) h (λ e. resume_follows d i how (member m a) x (at a e))
  follows_on a say.Off r = stays (a == i) a _ (at a)
  follows_on a _ r = same_either (a == i) m.members i x h

follows_after : (d : SetupData) (i : ℕ) (es : List Said) (m : Machine) (x : Resumed) → IsRun d m es → OneFollows m.members i x
    → OneFollows (machine_after d m es).members i (resumed_after d i x es)
follows_after d i [] m x r h = h
follows_after d i (e ∷ es) m x r h =
    follows_after d i es (effect d m e.0 e.1) (resumed_by d i e.0 e.1 x) r.1 (follows_on d i m x h e.0 e.1 r.0)

-- before any label
abbrev at_first : Registers → ImageContents → Resumed
at_first r image = record { visits = 0; registers = r; image = image; last = image; job = None }

first_follows : (registers : List Registers) (images : List ImageContents) (i : ℕ) (r : Registers) (image : ImageContents) → slice_get registers i ≡ Some r
    → slice_get images i ≡ Some image → OneFollows (map (λ x. first_member x.0 x.1) (zip registers images)) i (at_first r image)
first_follows [] images i r image e k = cc
first_follows (a ∷ registers) [] i r image e k = cc
first_follows (a ∷ registers) (b ∷ images) zero r image e k = let f : a ≡ r = cc in let n : b ≡ image = cc in (refl, f, n, n, tt)
first_follows (a ∷ registers) (b ∷ images) (suc i) r image e k = first_follows registers images i r image e k

pub last_resumed : (d : SetupData) (registers : List Registers) (images : List ImageContents) (es : List Said) (i : ℕ) (r : Registers) (image : ImageContents)
    → slice_get registers i ≡ Some r → slice_get images i ≡ Some image → IsRun d (beginning d registers images) es
    → (member (machine_after d (beginning d registers images) es) i).last ≡ resumed_image d i r image es
last_resumed d registers images es i r image e k run =
    (at_place (machine_after d (beginning d registers images) es).members i (resumed_after d i (at_first r image) es)
    (follows_after d i es (beginning d registers images) (at_first r image) run (first_follows registers images i r image e k))).3
