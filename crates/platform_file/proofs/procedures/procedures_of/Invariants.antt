use Rattle.std.proofs.Common.{◌≡◌, ◌≤◌, [], map, drop, length, IsTrue}
use Rattle.std.specs.List.{list_all}
use Rattle.toml.specs.View.{view}
use Rattle.platform_document.specs.Reading.{each}
use Rattle.cpu_table.specs.Ranges.{same_text, procedure_fits}
use Rattle.cpu_table.specs.Distinct.{are_distinct}
use Rattle.platform_file.specs.Handlers.{procedure_after}
use Rattle.platform_file.proofs.procedures.procedures_of.Given as goal

abbrev pub invariant-loop-value : goal.invariant-loop-value
invariant-loop-value l = record {
  so_far : each procedure_after l.procedures.items (map view (drop l.value-index l.values)) ≡ each procedure_after [] (map view l.values);
  count : length l.procedures.items ≡ l.value-index;
  within : l.value-index ≤ length l.values;
  fit : IsTrue (list_all procedure_fits l.procedures.items);
  distinct : IsTrue (are_distinct (λ a b. same_text a.name b.name) l.procedures.items);
}
