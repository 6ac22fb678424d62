-- The top table of a platform file, but for its lists of tables.
use Rattle.std.specs.Prelude.{ℕ, pos, ◌≡◌, ◌<◌, ◌≤◌, ◌-◌, ◌==◌, All, eqb, IsTrue, if◌then◌else◌, List, [], ◌∷◌, length, Option, Some, None, Ok, Err}
use Rattle.cpu_table.specs.Ranges.{policy_fits}
use Rattle.std.specs.List.{IsDistinct, list_any, range_with_len}
use Rattle.toml.specs.Data.{Data, Members}
use Rattle.smm_base.specs.declared.kinds.Policy.{Policy}
use Rattle.smm_base.specs.declared.kinds.Policy.TheVariants.{Elected, Fixed}
use Rattle.platform_document.specs.declared.path.TablePlace.TheVariants.{Top}
use Rattle.platform_document.specs.declared.path.Key.{Key}
use Rattle.platform_document.specs.declared.path.Key.TheVariants as key
use Rattle.platform_document.specs.declared.path.Path.{Path}
use Rattle.platform_document.specs.declared.fault.WalkFault.TheVariants.{Range}
use Rattle.platform_file.specs.declared.head.Head.{Head}
use Rattle.platform_file.specs.declared.head.Polls.{Polls}
use Rattle.platform_document.specs.declared.word.PolicyWord.{PolicyWord}
use Rattle.platform_document.specs.declared.word.PolicyWord.TheVariants as policy
use Rattle.platform_document.specs.Reading.{Reading, read_then, path_to, found_at, optional, greatest, table_of, list_of, list_at, entries_at, number_value, number_at, word_at, each, and_no_other}
use Rattle.platform_document.specs.Words.{map_of, policy_of, mode_of}

abbrev pub top : Key → Path
top key = path_to Top key

-- the boot processor of the policy `fixed`; under `elected` there is no such key
abbrev pub policy_by : ℕ → Members → PolicyWord → Reading Policy
policy_by processors table policy.Elected = Ok Elected
policy_by processors table policy.Fixed = read_then (number_at (top key.Fixed) 0 (processors - 1) table) (λ b. Ok (Fixed b))

abbrev pub policy_at : ℕ → Members → Reading Policy
policy_at processors table = read_then (word_at (top key.Policy) policy_of table) (policy_by processors table)

-- the looks of both rounds: a list of two numbers
abbrev pub polls_in : List Data → Reading Polls
polls_in [] = Err (Range (top key.Polls) (pos 0))
polls_in (first ∷ []) = Err (Range (top key.Polls) (pos 1))
polls_in (first ∷ second ∷ []) =
    read_then (number_value (top key.Polls) 1 4096 first) (λ t1. read_then (number_value (top key.Polls) 1 4096 second) (λ t2. Ok (record { t1 = t1; t2 = t2 })))
polls_in (first ∷ second ∷ third ∷ more) = Err (Range (top key.Polls) (pos (length (first ∷ second ∷ third ∷ more))))

abbrev pub polls_at : Members → Reading Polls
polls_at table = read_then (list_at (top key.Polls) 2 2 table) polls_in

-- an id that no processor before has
abbrev pub id_after : List ℕ → Data → Reading ℕ
id_after done value =
    read_then (number_value (top key.Ids) 0 greatest value) (λ id. if list_any (λ x. x == id) done then Err (Range (top key.Ids) (pos id)) else Ok id)

abbrev pub ids_of : ℕ → Data → Reading (List ℕ)
ids_of processors value = read_then (list_of (top key.Ids) processors processors value) (each id_after [])

-- an id for each processor, where the file has none the processor's number
abbrev pub ids_by : ℕ → Option Data → Reading (List ℕ)
ids_by processors None = Ok (range_with_len 0 processors)
ids_by processors (Some value) = ids_of processors value

abbrev pub ids_at : ℕ → Members → Reading (List ℕ)
ids_at processors table = ids_by processors (found_at (top key.Ids) table)

-- the table of the save-state areas, the waves, the handlers, the procedures and the causes
abbrev pub smram_at : Members → Reading (Option Members)
smram_at table = optional (table_of (top key.Smram)) (found_at (top key.Smram) table)

abbrev pub wave_entries : ℕ → Members → Reading (List Data)
wave_entries visits table = list_at (top key.Wave) 1 visits table

abbrev pub handler_entries : Members → Reading (List Data)
handler_entries table = entries_at (top key.Handler) 64 table

abbrev pub procedure_entries : Members → Reading (List Data)
procedure_entries table = entries_at (top key.Procedure) 64 table

abbrev pub cause_entries : Members → Reading (List Data)
cause_entries table = entries_at (top key.Cause) 4096 table

-- the keys that a policy has: `fixed` belongs to the policy `fixed` alone
abbrev pub keys_by : Policy → List Key
keys_by Elected = key.Version ∷ key.Processors ∷ key.Map ∷ key.Policy ∷ key.Mode ∷ key.Polls ∷ key.Visits ∷ key.Ops ∷ key.Ids ∷ key.Smram ∷ key.Wave ∷ key.Handler ∷ key.Procedure ∷ key.Cause ∷ []
keys_by (Fixed b) = key.Fixed ∷ key.Version ∷ key.Processors ∷ key.Map ∷ key.Policy ∷ key.Mode ∷ key.Polls ∷ key.Visits ∷ key.Ops ∷ key.Ids ∷ key.Smram ∷ key.Wave ∷ key.Handler ∷ key.Procedure ∷ key.Cause ∷ []

-- the lists of tables are judged by kind and length, and then the other keys of the table
abbrev pub lists_checked : Members → Head → Reading Head
lists_checked table head =
    read_then (smram_at table) (λ smram.
    read_then (wave_entries head.visits table) (λ waves.
    read_then (handler_entries table) (λ handlers.
    read_then (procedure_entries table) (λ procedures.
    read_then (cause_entries table) (λ causes. and_no_other Top (keys_by head.policy) table head)))))

-- the keys in their order, up to the lists
abbrev pub keys_read : Members → Reading Head
keys_read table =
    read_then (number_at (top key.Version) 1 1 table) (λ version.
    read_then (number_at (top key.Processors) 1 64 table) (λ processors.
    read_then (word_at (top key.Map) map_of table) (λ kind.
    read_then (policy_at processors table) (λ policy.
    read_then (word_at (top key.Mode) mode_of table) (λ mode.
    read_then (polls_at table) (λ polls.
    read_then (number_at (top key.Visits) 1 256 table) (λ visits.
    read_then (number_at (top key.Ops) 1 4096 table) (λ ops.
    read_then (ids_at processors table) (λ ids.
    Ok (record { processors = processors; kind = kind; policy = policy; mode = mode; polls = polls; visits = visits; ops = ops; ids = ids }))))))))))

-- the top table: its keys, its lists, and no other key
abbrev pub head_at : Members → Reading Head
head_at table = read_then (keys_read table) (lists_checked table)

-- each number of a top table that was read has its range
pub record HeadFits (head : Head) : Type 0 where
  pub processors : (1 ≤ head.processors) × (head.processors ≤ 64)
  pub policy : IsTrue (policy_fits head.processors head.policy)
  pub polls : (1 ≤ head.polls.t1) × (head.polls.t1 ≤ 4096) × (1 ≤ head.polls.t2) × (head.polls.t2 ≤ 4096)
  pub visits : (1 ≤ head.visits) × (head.visits ≤ 256)
  pub ops : (1 ≤ head.ops) × (head.ops ≤ 4096)
  pub ids : length head.ids ≡ head.processors
  pub distinct : IsDistinct eqb head.ids
  pub small : All (λ id. id < 9223372036854775808) head.ids
