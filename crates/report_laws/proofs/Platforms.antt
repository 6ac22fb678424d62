-- What the laws of runs ask of a platform follows from the ranges that each setup keeps, where its numbers fit their types.
use Rattle.std.proofs.Common.{◌≡◌, ℕ, zero, suc, ◌+◌, ◌<◌, ◌≤◌, ◌^◌, Bool, true, false, cond, List, [], ◌∷◌, length, Option, Some, None, refl, arith}
use Rattle.std.specs.Prelude.{◌&&◌, nat_le, slice_get}
use Rattle.std.specs.List.{list_all}
use Rattle.std.proofs.lemmas.Bool.{and_parts, leb-true}
use Rattle.smm_base.specs.declared.kinds.HandlerType.{HandlerType}
use Rattle.save_state_map.specs.Images.{ImageContents}
use Rattle.cpu_regs.specs.Registers.{Registers}
use Rattle.cpu_table.specs.Data.{data_of}
use Rattle.cpu_table.specs.Distinct.{are_distinct}
use Rattle.cpu_table.specs.Ranges.{op_fits, handler_fits, handlers_fit, procedure_fits, procedures_fit, is_name, is_answer, same_text}
use Rattle.cpu_table.specs.declared.handlers.HandlerDef.{HandlerDef}
use Rattle.cpu_table.specs.declared.handlers.OpDef.{OpDef}
use Rattle.cpu_table.specs.declared.handlers.ProcedureDef.{ProcedureDef}
use Rattle.cpu_table.specs.declared.setup.Setup.{Setup}
use Rattle.chipset.proofs.StepLemmas.{platform_of}
use Rattle.handler_registry.specs.Registrations.{Registrations, is_full, registered}
use Rattle.serving_place.specs.Beginning.{registered_if, registered_from, registrations_of}
use Rattle.serving_place.specs.Forms.{operations_in}
use Rattle.rendezvous_machine.specs.Machines.{beginning}
use Rattle.rendezvous_machine.proofs.Lists.{Standing}
use Rattle.rendezvous_machine.proofs.Once.{first_fit, first_length}
use Rattle.report_laws.specs.Widths.{NumbersFit, OperationsFit, HandlersFit}
use Rattle.report_laws.proofs.Pools.{first_fits}
use Rattle.report_laws.proofs.Servings.{EachLive, live_push, next_serial}
use Rattle.report_laws.proofs.Steps.{EachOp}
use Rattle.report_laws.proofs.Machines.{PlatformFits, Numbered, begins}

ops_fit : (n : ℕ) (ops : List OpDef) → n ≤ 64 → list_all (op_fits n) ops ≡ true → OperationsFit ops → EachOp ops
ops_fit n [] few h k = tt
ops_fit n (o ∷ ops) few h k =
    let both = and_parts (op_fits n o) (list_all (op_fits n) ops) h in
    (record { handlers = n; few = few; range = both.0; widths = k.0 }, ops_fit n ops few both.1 k.1)

handler_ops : (n : ℕ) (handlers : List HandlerDef) (h : ℕ) → n ≤ 64 → list_all (handler_fits n) handlers ≡ true → HandlersFit handlers → EachOp (operations_in (slice_get handlers h))
handler_ops n [] h few fits widths = tt
handler_ops n (x ∷ handlers) zero few fits widths =
    let one = and_parts (handler_fits n x) (list_all (handler_fits n) handlers) fits in
    let ops = and_parts (is_name x.name && is_answer x.answer && nat_le (length x.ops) 64) (list_all (op_fits n) x.ops) one.0 in
    ops_fit n x.ops few ops.1 widths.0
handler_ops n (x ∷ handlers) (suc h) few fits widths = handler_ops n handlers h few (and_parts (handler_fits n x) (list_all (handler_fits n) handlers) fits).1 widths.1

-- the lists of a platform have at most 64 entries
few_handlers : (handlers : List HandlerDef) → handlers_fit handlers ≡ true → (length handlers ≤ 64) × (list_all (handler_fits (length handlers)) handlers ≡ true)
few_handlers handlers h =
    let front = and_parts (nat_le (length handlers) 64 && list_all (handler_fits (length handlers)) handlers) (are_distinct (λ a b. same_text a.name b.name) handlers) h in
    let both = and_parts (nat_le (length handlers) 64) (list_all (handler_fits (length handlers)) handlers) front.0 in
    (leb-true (length handlers) 64 both.0, both.1)

few_procedures : (procedures : List ProcedureDef) → procedures_fit procedures ≡ true → length procedures ≤ 64
few_procedures procedures h =
    let front = and_parts (nat_le (length procedures) 64 && list_all procedure_fits procedures) (are_distinct (λ a b. same_text a.name b.name) procedures) h in
    leb-true (length procedures) 64 (and_parts (nat_le (length procedures) 64) (list_all procedure_fits procedures) front.0).0

-- what is registered before the first session
record RegistryFits (g : Registrations) : Type 0 where
  live : EachLive g.live
  last : g.last < 2 ^ 32

one_more : (b : Bool) (kind : HandlerType) (h : ℕ) (g : Registrations) → is_full g ≡ b → h < 2 ^ 16 → RegistryFits g → RegistryFits (cond b g (registered kind h g))
one_more true kind h g e few k = k
one_more false kind h g e few k =
    record { live = live_push g.live (record { serial = g.last + 1; kind = kind; handler = h }) few k.live; last = next_serial g e k.last }

one_if : (o : Option HandlerType) (h : ℕ) (g : Registrations) → h < 2 ^ 16 → RegistryFits g → RegistryFits (registered_if o h g)
one_if None h g few k = k
one_if (Some kind) h g few k = one_more (is_full g) kind h g refl few k

all_from : (h : ℕ) (handlers : List HandlerDef) (g : Registrations) → h + length handlers ≤ 64 → RegistryFits g → RegistryFits (registered_from h handlers g)
all_from h [] g few k = k
all_from h (x ∷ handlers) g few k = all_from (h + 1) handlers (registered_if x.kind h g) (omega (arith, few)) (one_if x.kind h g (omega (arith, few)) k)

registry_fits : (handlers : List HandlerDef) → length handlers ≤ 64 → RegistryFits (registrations_of handlers)
registry_fits handlers few = all_from 0 handlers _ (omega (arith, few)) (record { live = tt; last = omega arith })

pub setup_fits : (setup : Setup) → NumbersFit (data_of setup) → PlatformFits (data_of setup)
setup_fits setup numbers =
    let handlers = few_handlers setup.handlers setup.handlers_in_range in
    let ops = setup.ops_in_range.1 in
    record {
      platform = platform_of setup;
      units = omega (arith, ops);
      program =
          record {
            procedures = few_procedures setup.procedures setup.procedures_in_range;
            operations = λ h. handler_ops (length setup.handlers) setup.handlers h handlers.0 handlers.1 numbers.handlers;
          };
      kinds = numbers.waves;
    }

pub beginning_fits : (std : Standing) (setup : Setup) (numbers : NumbersFit (data_of setup)) (registers : List Registers) (images : List ImageContents) → length registers ≡ setup.processors → length images ≡ setup.processors
    → Numbered (data_of setup) (beginning (data_of setup) registers images)
beginning_fits std setup numbers registers images count many =
    let handlers = few_handlers setup.handlers setup.handlers_in_range in
    let registry = registry_fits setup.handlers handlers.0 in
    record {
      waves = omega arith;
      source = omega arith;
      excepted = omega arith;
      served = tt;
      members = first_length registers images setup.processors count many;
      jobs = first_fit (data_of setup) registers images;
      place = begins std (data_of setup) (setup_fits setup numbers) _ _ registry.live registry.last (first_fits setup.processors setup.smram setup.smram_in_range setup.smram_has_room);
    }
