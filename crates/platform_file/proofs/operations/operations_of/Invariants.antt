use Rattle.std.proofs.Common.{◌≡◌, ◌≤◌, [], map, drop, length, IsTrue}
use Rattle.std.specs.List.{list_all}
use Rattle.toml.specs.View.{view}
use Rattle.platform_document.specs.Reading.{each}
use Rattle.cpu_table.specs.Ranges.{op_fits}
use Rattle.platform_file.specs.Operations.{operation_after}
use Rattle.platform_file.proofs.operations.operations_of.Given as goal

abbrev pub invariant-loop-value : goal.invariant-loop-value
invariant-loop-value l = record {
  so_far : each (operation_after (map view l.handlers) l.handler) l.operations.items (map view (drop l.value-index l.values)) ≡ each (operation_after (map view l.handlers) l.handler) [] (map view l.values);
  count : length l.operations.items ≡ l.value-index;
  within : l.value-index ≤ length l.values;
  fit : IsTrue (list_all (op_fits (length l.handlers)) l.operations.items);
}
