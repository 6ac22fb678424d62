-- What was given and comes back can be given again.
use Rattle.std.proofs.Common.{◌≡◌, ◌∙◌, ◌<◌, ℕ, ◌==◌, ◌&&◌, Bool, true, false, length, Option, Some, None, slice_set, inl, inr, refl, ap, subst}
use Rattle.std.proofs.lemmas.Bool.{and_from, eq-eqb, cases_lt}
use Rattle.std.proofs.lemmas.List.{get_or-set_same, get_or_past, length-set}
use Rattle.std.specs.Prelude.{slice_get, if◌then◌else◌, IfSome}
use Rattle.smm_base.specs.declared.kinds.MapKind.{MapKind}
use Rattle.smm_base.specs.declared.kinds.MapKind.TheVariants.{Ia32, Intel64}
use Rattle.cpu_table.specs.Data.{SetupData}
use Rattle.cpu_table.specs.declared.handlers.Act.{Act}
use Rattle.cpu_table.specs.declared.handlers.Act.TheVariants.{Get, Put}
use Rattle.cpu_table.specs.declared.handlers.ProcedureDef.{ProcedureDef}
use Rattle.save_state_map.specs.Images.{ImageContents}
use Rattle.sync_words.specs.declared.event.Hand.{Hand}
use Rattle.sync_words.specs.declared.event.Hand.TheVariants.{Nothing, Give, Take}
use Rattle.sync_words.specs.Steps.{hand_of}
use Rattle.handler_ops.specs.declared.desk.Desk.{Desk}
use Rattle.handler_ops.specs.declared.desk.Job.{Job}
use Rattle.handler_ops.specs.Course.{Desks, desk_of, low_bytes}
use Rattle.handler_ops.specs.Procedures.{act_on, procedure_on, job_on, desk_with}
use Rattle.handler_ops.specs.Sessions.{Session}
use Rattle.save_state_access.specs.Width.{own_width}
use Rattle.cpu_program.specs.declared.cargo.Cargo.TheVariants.{Desk as DeskCargo, Chair as ChairCargo}
use Rattle.cpu_program.specs.Actors.{Processor, Actor, OfProcessor, OfChipset, Cargo}
use Rattle.cpu_program.specs.Bounds.{IsOfKind, HasProcessors, IsProcessor, IsActor}
use Rattle.cpu_program.specs.Hands.{is_kind, run_on, job_run, is_giving_back, desk_to_give, desk_given, chair_given, thing_given, desk_left, after_giving, after_receiving}
use Rattle.cpu_program.specs.Processors.{want_in, can_run}
use Rattle.cpu_program.specs.Programs.{want_of, gift_of, gift_of_hand, given, given_by_hand, received, received_by_hand}
use Rattle.cpu_program.proofs.KindLemmas.{write_keeps}
use Rattle.cpu_program.proofs.StayLemmas.{given_stays}
use Rattle.cpu_program.proofs.WantLemmas.{giving_keeps, receiving_keeps}

-- a job is run once, and leaves the kind of the image
act_kind : (a : Act) (reg arg : ℕ) (m : ImageContents) → (act_on a reg arg m).image.kind ≡ m.kind
act_kind Get reg arg m = refl
act_kind Put reg arg m = write_keeps m true reg (low_bytes (own_width m.kind reg) arg)

procedure_kind : (o : Option ProcedureDef) (arg : ℕ) (m : ImageContents) → (procedure_on o arg m).image.kind ≡ m.kind
procedure_kind None arg m = refl
procedure_kind (Some p) arg m = act_kind p.act p.reg arg m

ran_kind : (d : SetupData) (desk : Desk) (job : Job) (b : Bool) → (if b then desk_with job (job_on d.procedures job desk.image) else desk).image.kind ≡ desk.image.kind
ran_kind d desk job true = procedure_kind (slice_get d.procedures job.procedure) job.arg desk.image
ran_kind d desk job false = refl

run_kind : (d : SetupData) (desk : Desk) (job : Option Job) → (run_on d job desk).image.kind ≡ desk.image.kind
run_kind d desk None = refl
run_kind d desk (Some job) = ran_kind d desk job (can_run d job)

give_kind : (b : Bool) (d : SetupData) (desk : Desk) → (desk_to_give b d desk).image.kind ≡ desk.image.kind
give_kind true d desk = run_kind d desk desk.job
give_kind false d desk = refl

ran_again : (d : SetupData) (desk : Desk) (job : Job) (b : Bool) → can_run d job ≡ b → desk.job ≡ Some job
    → job_run d (if b then desk_with job (job_on d.procedures job desk.image) else desk) ≡ (if b then desk_with job (job_on d.procedures job desk.image) else desk)
ran_again d desk job true e is = refl
ran_again d desk job false e is = ap (λ (o : Option Job). run_on d o desk) is ∙ rw e refl

run_by : (d : SetupData) (desk : Desk) (o : Option Job) → desk.job ≡ o → job_run d (run_on d o desk) ≡ run_on d o desk
run_by d desk None is = ap (λ (o : Option Job). run_on d o desk) is
run_by d desk (Some job) is = ran_again d desk job (can_run d job) refl is

give_again : (b : Bool) (d : SetupData) (desk : Desk) → desk_to_give b d (desk_to_give b d desk) ≡ desk_to_give b d desk
give_again true d desk = run_by d desk desk.job refl
give_again false d desk = refl

same_kind : (a b : MapKind) → a ≡ b → is_kind a b ≡ true
same_kind Ia32 Ia32 e = refl
same_kind Intel64 Intel64 e = refl
same_kind Ia32 Intel64 e = absurd cc
same_kind Intel64 Ia32 e = absurd cc

-- the chair
chair_at : (p : Processor) (k : ℕ) (s : Session) (b : Bool) → (k == p.setup.processors) ≡ true → b ≡ true
    → thing_given (if b then record p { chair = Some s } else record p { chair = None }) k ≡ Some (ChairCargo s)
chair_at p k s true e f = rw e refl
chair_at p k s false e f = absurd cc

chair_back : (p : Processor) (k : ℕ) (cargo : Cargo) (o : Option Session) → (k == p.setup.processors) ≡ true → IfSome o (HasProcessors p.setup.processors)
    → chair_given o ≡ Some cargo → thing_given (after_receiving (record p { chair = None }) k cargo) k ≡ Some cargo
chair_back p k cargo None e same is = absurd cc
chair_back p k cargo (Some s) e same is =
    let one : ChairCargo s ≡ cargo = cc in
    subst (λ (x : Cargo). thing_given (after_receiving (record p { chair = None }) k x) k ≡ Some x) one
    (chair_at p k s (k == p.setup.processors && s.setup.processors == p.setup.processors) e
    (and_from (k == p.setup.processors) (s.setup.processors == p.setup.processors) e (eq-eqb s.setup.processors p.setup.processors same)))

-- a desk
there : (held : Desks) (k : ℕ) (desk : Desk) → desk_of held k ≡ Some desk → k < length held
there held k desk is = elim (cases_lt k (length held)) [ inl less ↦ less | inr past ↦ absurd (let none = get_or_past held k None past in cc) ]

desk_at : (p : Processor) (k : ℕ) (desk : Desk) (b : Bool) → (k == p.setup.processors) ≡ false → b ≡ true → k < length p.held
    → desk_to_give (is_giving_back p.part) p.setup desk ≡ desk
    → thing_given (if b then record (desk_left p k) { held = slice_set (slice_set p.held k None) k (Some desk) } else desk_left p k) k ≡ Some (DeskCargo desk)
desk_at p k desk true e f less again =
    let at_k : desk_of (slice_set (slice_set p.held k None) k (Some desk)) k ≡ Some desk = get_or-set_same (slice_set p.held k None) k (Some desk) None (rw (length-set p.held k None) less) in
    rw (e, at_k, again) refl
desk_at p k desk false e f less again = absurd cc

desk_back : (p : Processor) (k : ℕ) (cargo : Cargo) (o : Option Desk) → (k == p.setup.processors) ≡ false → desk_of p.held k ≡ o → IfSome o (IsOfKind p.setup.kind)
    → desk_given p o ≡ Some cargo → thing_given (after_receiving (desk_left p k) k cargo) k ≡ Some cargo
desk_back p k cargo None e is kind gift = absurd cc
desk_back p k cargo (Some desk) e is kind gift =
    let given : Desk = desk_to_give (is_giving_back p.part) p.setup desk in
    let one : DeskCargo given ≡ cargo = cc in
    subst (λ (x : Cargo). thing_given (after_receiving (desk_left p k) k x) k ≡ Some x) one
    (desk_at p k given (is_kind given.image.kind p.setup.kind) e
    (same_kind given.image.kind p.setup.kind (give_kind (is_giving_back p.part) p.setup desk ∙ kind)) (there p.held k desk is)
    (give_again (is_giving_back p.part) p.setup desk))

thing_back : (p : Processor) (k : ℕ) (cargo : Cargo) (b : Bool) → (k == p.setup.processors) ≡ b → IsProcessor p
    → (if b then chair_given p.chair else desk_given p (desk_of p.held k)) ≡ Some cargo
    → thing_given (after_receiving (if b then record p { chair = None } else desk_left p k) k cargo) k ≡ Some cargo
thing_back p k cargo true e h is = chair_back p k cargo p.chair e h.kept.chair is
thing_back p k cargo false e h is = desk_back p k cargo (desk_of p.held k) e refl (h.kept.kinds k) is

back_by : (p : Processor) (cargo : Cargo) (hand : Hand) → hand_of (want_in p.part p) ≡ hand → IsProcessor p → gift_of_hand hand p ≡ Some cargo
    → gift_of (received cargo (given (OfProcessor p))) ≡ Some cargo
back_by p cargo Nothing e h is = absurd cc
back_by p cargo (Take k) e h is = absurd cc
back_by p cargo (Give k) e h is =
    let on = given_stays (OfProcessor p) h in
    let first : want_of (given (OfProcessor p)) ≡ want_of (OfProcessor p) = giving_keeps (OfProcessor p) h in
    let second : want_of (received cargo (given (OfProcessor p))) ≡ want_of (OfProcessor p) = receiving_keeps (given (OfProcessor p)) cargo on ∙ first in
    let q : Processor = given_by_hand (hand_of (want_in p.part p)) p in
    let r : Processor = received_by_hand (hand_of (want_in q.part q)) cargo q in
    let same : r ≡ after_receiving (after_giving p k) k cargo =
    ap (λ (x : Hand). received_by_hand x cargo q) (ap hand_of first ∙ e) ∙ ap (λ (x : Hand). after_receiving (given_by_hand x p) k cargo) e in
    ap (λ (x : Hand). gift_of_hand x r) (ap hand_of second ∙ e) ∙ ap (λ (x : Processor). thing_given x k) same
    ∙ thing_back p k cargo (k == p.setup.processors) refl h is

pub gifts_come_back : (a : Actor) (cargo : Cargo) → IsActor a → gift_of a ≡ Some cargo → gift_of (received cargo (given a)) ≡ Some cargo
gifts_come_back (OfProcessor p) cargo h is = back_by p cargo (hand_of (want_in p.part p)) refl h is
gifts_come_back (OfChipset c) cargo h is = absurd cc
