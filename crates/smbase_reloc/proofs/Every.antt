-- Every processor's registers, one after the other.
use Rattle.std.proofs.Common.{◌≡◌, ℕ, zero, suc, ◌+◌, ◌<◌, ◌≤◌, List, [], ◌∷◌, length, get_or, map, Some, refl, sym, ap, ◌∙◌, arith}
use Rattle.std.specs.Prelude.{slice_get, option_map}
use Rattle.std.specs.List.{enumerate_from}
use Rattle.std.proofs.lemmas.List.{ext_get_or, length-map, get_or-map}
use Rattle.std.proofs.lemmas.List.FromFn.{length-enumerate_from, get_or-enumerate_from}
use Rattle.smm_base.specs.declared.kinds.MapKind.TheVariants.{Ia32}
use Rattle.cpu_table.specs.declared.setup.Smram.{Smram}
use Rattle.cpu_regs.specs.Registers.{Registers}
use Rattle.smbase_reloc.specs.Areas.{smbase_of}
use Rattle.smbase_reloc.specs.Relocation.{with_smbase, relocated}

abbrev replaced : Smram → ℕ × Registers → Registers
replaced area entry = with_smbase (smbase_of area entry.0) entry.1

relocated_at : (area : Smram) (all : List Registers) (i : ℕ) (d : Registers) → i < length all → get_or (relocated area all) i d ≡ with_smbase (smbase_of area i) (get_or all i d)
relocated_at area all i d within =
    get_or-map (replaced area) (enumerate_from 0 all) i (0, d) d (omega (arith, within, length-enumerate_from 0 all))
    ∙ ap (replaced area) (get_or-enumerate_from 0 all i (0, d) within)
    ∙ ap (λ (k : ℕ). with_smbase (smbase_of area k) (get_or all i d)) (omega arith)

abbrev nobody : Registers
nobody = record { kind = Ia32; numbers = [] }

-- registers that were relocated one by one
pub each_relocated : (area : Smram) (old new : List Registers) (i : ℕ) → length new ≡ length old → length old ≤ i →
    ((k : ℕ) (d : Registers) → k < i → get_or new k d ≡ with_smbase (smbase_of area k) (get_or old k d)) → new ≡ relocated area old
each_relocated area old new i size all done =
    ext_get_or nobody new (relocated area old) (size ∙ sym (length-map (enumerate_from 0 old) (replaced area) ∙ length-enumerate_from 0 old))
    (λ k lt.
    let within : k < length old = omega (arith, lt, size) in
    done k nobody (omega (arith, within, all)) ∙ sym (relocated_at area old k nobody within))

-- each gets the SMBASE of its own place
at_from : (area : Smram) (all : List Registers) (n i : ℕ) → slice_get (map (replaced area) (enumerate_from n all)) i ≡ option_map (with_smbase (smbase_of area (n + i))) (slice_get all i)
at_from area [] n i = refl
at_from area (r ∷ all) n zero = ap (λ (k : ℕ). Some (with_smbase (smbase_of area k) r)) (omega arith)
at_from area (r ∷ all) n (suc i) = at_from area all (n + 1) i ∙ ap (λ (k : ℕ). option_map (with_smbase (smbase_of area k)) (slice_get all i)) (omega arith)

pub each_at : (area : Smram) (all : List Registers) (i : ℕ) → slice_get (relocated area all) i ≡ option_map (with_smbase (smbase_of area i)) (slice_get all i)
each_at area all i = at_from area all 0 i ∙ ap (λ (k : ℕ). option_map (with_smbase (smbase_of area k)) (slice_get all i)) (omega arith)
