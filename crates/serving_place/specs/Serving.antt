-- What serving knows: the variables, what is registered, the pool, each processor's job, the tokens, the units left.
use Rattle.std.specs.Prelude.{◌≡◌, ℕ, suc, Bool, true, false, ◌&&◌, ◌==◌, not, List, [], ◌∷◌, slice_index_or, slice_set, length, ◌+◌, Option, Some, None, option_map, cond}
use Rattle.std.specs.List.{find, filter}
use Rattle.smm_base.specs.declared.status.Status.{Status}
pub use Rattle.serving_place.specs.declared.seat.Seat.{Seat}
pub use Rattle.serving_place.specs.declared.seat.Seat.TheVariants.{Free, Open, Done}
pub use Rattle.serving_place.specs.declared.token.Token.{Token}
pub use Rattle.serving_place.specs.declared.token.TokenState.{TokenState}
pub use Rattle.serving_place.specs.declared.token.TokenState.TheVariants.{NotOut, Uncollected, Collected}
use Rattle.smm_base.specs.declared.status.Status.TheVariants.{Success}
use Rattle.cpu_table.specs.declared.handlers.Operand.{Operand}
use Rattle.cpu_table.specs.declared.handlers.Operand.TheVariants.{Number, Variable}
use Rattle.handler_registry.specs.Registrations.{Registrations}
use Rattle.smram_pool.specs.State.{PoolState}

-- `given` is how many jobs were given in this session, and `left` how many units may still be begun
pub record Serving : Type 0 where
  pub variables : List ℕ
  pub registrations : Registrations
  pub pool : PoolState
  pub seats : List Seat
  pub given : ℕ
  pub tokens : List Token
  pub left : ℕ

-- the number that an operand is
abbrev pub number : Serving → Operand → ℕ
number s (Number n) = n
number s (Variable v) = slice_index_or s.variables v 0

-- a variable takes a number
abbrev pub put : ℕ → ℕ → Serving → Serving
put into x s = record s { variables = slice_set s.variables into x }

-- it does so only where the status is SUCCESS
abbrev pub put_on : Status → ℕ → ℕ → Serving → Serving
put_on Success into x s = put into x s
put_on _ into x s = s

-- the job of a processor; one that the platform hasn't has none
abbrev pub seat : Serving → ℕ → Seat
seat s c = slice_index_or s.seats c Free

abbrev pub with_seat : ℕ → Seat → Serving → Serving
with_seat c q s = record s { seats = slice_set s.seats c q }

-- a processor is given a job
abbrev pub given_to : ℕ → ℕ → Bool → Serving → Serving
given_to c j has_token s = record s { seats = slice_set s.seats c (Open j has_token); given = j }

-- a processor ran its job
abbrev pub run_at : Seat → ℕ → Status → Seat
run_at Free x S = Free
run_at (Open j has_token) x S = Done j has_token x S
run_at (Done j has_token y T) x S = Done j has_token y T

abbrev pub ran : ℕ → ℕ → Status → Serving → Serving
ran c x S s = with_seat c (run_at (seat s c) x S) s

-- the tokens with that of a job that is collected, where it has one
abbrev pub with_token : ℕ → Seat → List Token → List Token
with_token c Free ts = ts
with_token c (Open j has_token) ts = ts
with_token c (Done j false x S) ts = ts
with_token c (Done j true x S) ts = record { job = j; cpu = c; result = x; status = S } ∷ ts

-- a processor's job is collected
abbrev pub collected : ℕ → Serving → Serving
collected c s = record s { seats = slice_set s.seats c Free; tokens = with_token c (seat s c) s.tokens }

-- a variable takes the result of a job that is collected
abbrev pub put_result : Seat → ℕ → Serving → Serving
put_result Free into s = s
put_result (Open j has_token) into s = s
put_result (Done j has_token x S) into s = put_on S into x s

abbrev pub returned : ℕ → ℕ → Serving → Serving
returned c into s = put_result (seat s c) into (collected c s)

-- The job that is still to be run has this number.
abbrev pub HasOpen : Seat → ℕ → Type 0
HasOpen Free n = ⊥
HasOpen (Open j has_token) n = j ≡ n
HasOpen (Done j has_token x S) n = ⊥

abbrev pub IsFree : Seat → Type 0
IsFree Free = Unit {0}
IsFree (Open j has_token) = ⊥
IsFree (Done j has_token x S) = ⊥

-- The job was run, and is to be collected.
abbrev pub IsDone : Seat → Type 0
IsDone Free = ⊥
IsDone (Open j has_token) = ⊥
IsDone (Done j has_token x S) = Unit {0}

-- No job is still to be run.
abbrev pub HasEnded : Seat → Type 0
HasEnded Free = Unit {0}
HasEnded (Open j has_token) = ⊥
HasEnded (Done j has_token x S) = Unit {0}

-- an uncollected job with this number and a token
abbrev pub owes_token : ℕ → Seat → Bool
owes_token n Free = false
owes_token n (Open j has_token) = has_token && j == n
owes_token n (Done j has_token x S) = has_token && j == n

-- the first processor whose uncollected job is this one and has a token
abbrev pub owner : ℕ → List Seat → Option ℕ
owner n [] = None
owner n (q ∷ qs) = cond (owes_token n q) (Some 0) (option_map suc (owner n qs))

abbrev pub state_of : Option Token → Option ℕ → TokenState
state_of (Some t) who = Collected t
state_of None (Some c) = Uncollected c
state_of None None = NotOut

abbrev pub token_of : Serving → ℕ → TokenState
token_of s n = state_of (find (λ t. t.job == n) s.tokens) (owner n s.seats)

-- the token of a collected job is dropped
abbrev pub dropped : ℕ → Serving → Serving
dropped n s = record s { tokens = filter (λ t. not (t.job == n)) s.tokens }

-- The token is out, and this is its job's processor.
abbrev pub IsOutOn : TokenState → ℕ → Type 0
IsOutOn NotOut c = ⊥
IsOutOn (Uncollected who) c = who ≡ c
IsOutOn (Collected t) c = t.cpu ≡ c

-- how many tokens are out
abbrev pub has_token : Seat → Bool
has_token Free = false
has_token (Open j t) = t
has_token (Done j t x S) = t

abbrev pub tokens_out : Serving → ℕ
tokens_out s = length s.tokens + length (filter has_token s.seats)
