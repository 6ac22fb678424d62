-- What a label that is taken wants of the operation that is due, for its change to be made.
use Rattle.std.proofs.Common.{◌≡◌, ℕ, zero, suc, ◌+◌, Bool, true, false, List, Option, Some, None, Result, Ok, Err, refl, sym, ap, subst, ◌∙◌}
use Rattle.std.specs.Prelude.{◌==◌, ◌&&◌}
use Rattle.smm_base.specs.declared.registers.Register.{Register}
use Rattle.smm_base.specs.declared.status.Status.{Status}
use Rattle.smm_base.specs.declared.status.Status.TheVariants.{Success}
use Rattle.cpu_table.specs.declared.handlers.OpDef.{OpDef}
use Rattle.cpu_table.specs.declared.handlers.OpDef.TheVariants as op
use Rattle.cpu_table.specs.declared.handlers.ProcedureDef.{ProcedureDef}
use Rattle.sync_words.specs.declared.label.Label.{Label}
use Rattle.sync_words.specs.declared.label.Label.TheVariants as say
use Rattle.handler_registry.specs.Registrations.{is_full}
use Rattle.smram_pool.specs.declared.error.PoolError.{PoolError}
use Rattle.smram_pool.specs.State.{allocated, freed}
use Rattle.serving_place.specs.Serving.{Serving, seat, number, tokens_out}
use Rattle.serving_place.specs.Operations.{alloc_label, free_status}
use Rattle.serving_place.specs.Due.{Due, Nothing, Saying, Awaiting, Doing}
use Rattle.serving_place.specs.Sayings.{Fits, RegisterFits, label_in, operation_due}
use Rattle.serving_judge.specs.Words.{is_collect, is_label}
use Rattle.serving_judge.specs.Tests.{has_ended, alloc_shows, register_shows, does, takes}
use Rattle.serving_judge.specs.Dues.{HasTokenRoom, saying_of, width_due}
use Rattle.serving_judge.proofs.Telling.{both, number_tells}
use Rattle.serving_judge.proofs.Labels.{spent_tells, begin_tells, manage_tells, call_tells, return_tells, answer_tells, collect_tells}
use Rattle.serving_judge.proofs.Operating.{fits_tells, alloc_tells, register_shown, starts_tell}

-- the label fits, and is what is said
pub record IsSaid (l : Label) (o : Option OpDef) (s : Serving) : Type 0 where
  pub fits : Fits (saying_of l) o s
  pub is : label_in s.pool (saying_of l) ≡ l

-- where no operation is due
plain : (l m : Label) (s : Serving) → l ≡ m → IsSaid m None s → IsSaid l None s
plain l m s e h = subst (λ (k : Label). IsSaid k None s) (sym e) h

label_said : (m l : Label) (s : Serving) → is_label m l ≡ true → IsSaid l None s
label_said say.Spent l s e = plain l say.Spent s ((spent_tells l).0 e) (record { fits = tt; is = refl })
label_said (say.Begin w) l s e = plain l (say.Begin w) s ((begin_tells w l).0 e) (record { fits = tt; is = refl })
label_said (say.Manage kind) l s e = plain l (say.Manage kind) s ((manage_tells kind l).0 e) (record { fits = tt; is = refl })
label_said (say.Call h) l s e = plain l (say.Call h) s ((call_tells h l).0 e) (record { fits = tt; is = refl })
label_said (say.Return h S) l s e = plain l (say.Return h S) s ((return_tells h S l).0 e) (record { fits = tt; is = refl })
label_said (say.Answer S) l s e = plain l (say.Answer S) s ((answer_tells S l).0 e) (record { fits = tt; is = refl })
label_said _ l s e = absurd cc

-- a start's job is the next
start_next : (ps : List ProcedureDef) (n : ℕ) (o : OpDef) (s : Serving) (c j p a : ℕ) → does ps n o s (say.Start c j p a) ≡ true → j ≡ s.given + 1
start_next ps n (op.Start cpu name arg into) s c j p a e = ((starts_tell ps s cpu name (number s arg) c j p a).0 e).job
start_next ps n (op.Launch cpu name arg into) s c j p a e = ((starts_tell ps s cpu name (number s arg) c j p a).0 e).job
start_next ps zero (op.Manage kind) s c j p a e = absurd cc
start_next ps (suc n) (op.Manage kind) s c j p a e = absurd cc
start_next ps n _ s c j p a e = absurd cc

-- a registration has room
register_by : (b : Bool) (s : Serving) (n : ℕ) (S : Status) → register_shows b s.registrations.last n S ≡ true → RegisterFits S b
register_by true s n S e = subst (λ (T : Status). RegisterFits T true) (sym ((register_shown true s n S).0 e).1) tt
register_by false s n S e = subst (λ (T : Status). RegisterFits T false) (sym ((register_shown false s n S).0 e).1) refl

register_room : (ps : List ProcedureDef) (n : ℕ) (o : OpDef) (s : Serving) (h m : ℕ) (S : Status) → does ps n o s (say.Register h m S) ≡ true → RegisterFits S (is_full s.registrations)
register_room ps n (op.Register handler kind into) s h m S e =
    register_by (is_full s.registrations) s m S
    (((both (h == handler) (register_shows (is_full s.registrations) s.registrations.last m S) (number_tells h handler) (λ x. x, λ x. x)).0 e).1)
register_room ps zero (op.Manage kind) s h m S e = absurd cc
register_room ps (suc n) (op.Manage kind) s h m S e = absurd cc
register_room ps n _ s h m S e = absurd cc

-- the label of a request is what the pool answers
alloc_is : (r : Result ℕ PoolError) (n x : ℕ) (S : Status) → alloc_shows r x S ≡ true → alloc_label n r ≡ say.Alloc n x S
alloc_is (Ok place) n x S e = let h = (alloc_tells (Ok place) x S).0 e in let a : x ≡ place = h.0 in let b : S ≡ Success = h.1 in cc
alloc_is (Err f) n x S e = let h = (alloc_tells (Err f) x S).0 e in let a : x ≡ 0 = h.0 in cc

alloc_said : (ps : List ProcedureDef) (n : ℕ) (o : OpDef) (s : Serving) (k x : ℕ) (S : Status) → does ps n o s (say.Alloc k x S) ≡ true → IsSaid (say.Alloc k x S) (Some o) s
alloc_said ps n (op.Alloc size into) s k x S e =
    let h = (both (k == number s size) (alloc_shows (allocated (number s size) s.pool).0 x S) (number_tells k (number s size)) (λ x. x, λ x. x)).0 e in
    record { fits = tt; is = alloc_is (allocated k s.pool).0 k x S (subst (λ (v : ℕ). alloc_shows (allocated v s.pool).0 x S ≡ true) (sym h.0) h.1) }
alloc_said ps zero (op.Manage kind) s k x S e = absurd cc
alloc_said ps (suc n) (op.Manage kind) s k x S e = absurd cc
alloc_said ps n _ s k x S e = absurd cc

free_said : (ps : List ProcedureDef) (n : ℕ) (o : OpDef) (s : Serving) (k : ℕ) (S : Status) → does ps n o s (say.Free k S) ≡ true → IsSaid (say.Free k S) (Some o) s
free_said ps n (op.Free place) s k S e =
    let h = (fits_tells ps (op.Free place) s (say.Free k S)).0 e in
    let same : free_status (freed k s.pool).0 ≡ S = ap (λ (v : ℕ). free_status (freed v s.pool).0) h.0 ∙ sym h.1 in
    record { fits = tt; is = ap (say.Free k) same }
free_said ps zero (op.Manage kind) s k S e = absurd cc
free_said ps (suc n) (op.Manage kind) s k S e = absurd cc
free_said ps n _ s k S e = absurd cc

operation_said : (ps : List ProcedureDef) (n : ℕ) (o : OpDef) (s : Serving) (l : Label) → does ps n o s l ≡ true → HasTokenRoom l (Some o) (tokens_out s) → IsSaid l (Some o) s
operation_said ps n o s (say.Start c j p a) e room = record { fits = (start_next ps n o s c j p a e, room); is = refl }
operation_said ps n o s (say.Register h m S) e room = record { fits = register_room ps n o s h m S e; is = refl }
operation_said ps n o s (say.Alloc k x S) e room = alloc_said ps n o s k x S e
operation_said ps n o s (say.Free k S) e room = free_said ps n o s k S e
operation_said ps n o s _ e room = record { fits = tt; is = refl }

pub is_said : (ps : List ProcedureDef) (s : Serving) (l : Label) (d : Due) → takes ps s l d ≡ true → HasTokenRoom l (operation_due d) (tokens_out s) → IsSaid l (operation_due d) s
is_said ps s l Nothing e room = absurd cc
is_said ps s l (Saying m) e room = label_said m l s e
is_said ps s l (Awaiting c) e room =
    plain l (say.Collect c) s ((both (is_collect c l) (has_ended (seat s c)) (collect_tells c l) (λ x. x, λ x. x)).0 e).0 (record { fits = tt; is = refl })
is_said ps s l (Doing n o) e room = operation_said ps n o s l e room

-- a read that is taken has the width of the one that is due
pub read_width : (ps : List ProcedureDef) (s : Serving) (d : Due) (c w x : ℕ) (r : Register) (S : Status) → takes ps s (say.Read c r w x S) d ≡ true → width_due d ≡ Some w
read_width ps s Nothing c w x r S e = absurd cc
read_width ps s (Saying m) c w x r S e = not_label m e
  where
    not_label : (m : Label) → is_label m (say.Read c r w x S) ≡ true → width_due (Saying m) ≡ Some w
    not_label say.Spent e = absurd cc
    not_label (say.Begin v) e = absurd cc
    not_label (say.Manage kind) e = absurd cc
    not_label (say.Call h) e = absurd cc
    not_label (say.Return h T) e = absurd cc
    not_label (say.Answer T) e = absurd cc
    not_label _ e = absurd cc
read_width ps s (Awaiting k) c w x r S e = absurd cc
read_width ps s (Doing n (op.Read cpu reg width into)) c w x r S e =
    let h = (fits_tells ps (op.Read cpu reg width into) s (say.Read c r w x S)).0 e in
    let same : w ≡ width = h.2 in
    ap Some (sym same)
read_width ps s (Doing zero (op.Manage kind)) c w x r S e = absurd cc
read_width ps s (Doing (suc n) (op.Manage kind)) c w x r S e = absurd cc
read_width ps s (Doing n _) c w x r S e = absurd cc
