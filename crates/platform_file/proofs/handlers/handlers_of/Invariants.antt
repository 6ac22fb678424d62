use Rattle.std.proofs.Common.{◌≡◌, ◌≤◌, [], map, drop, length, IsTrue}
use Rattle.std.specs.List.{list_all}
use Rattle.toml.specs.View.{view}
use Rattle.platform_document.specs.Reading.{each}
use Rattle.cpu_table.specs.Ranges.{same_text, handler_fits}
use Rattle.cpu_table.specs.Distinct.{are_distinct}
use Rattle.platform_file.specs.Handlers.{handler_after}
use Rattle.platform_file.proofs.handlers.handlers_of.Given as goal

abbrev pub invariant-loop-value : goal.invariant-loop-value
invariant-loop-value l = record {
  so_far : each (handler_after (map view l.handlers)) l.defs.items (map view (drop l.value-index l.handlers)) ≡ each (handler_after (map view l.handlers)) [] (map view l.handlers);
  count : length l.defs.items ≡ l.value-index;
  within : l.value-index ≤ length l.handlers;
  fit : IsTrue (list_all (handler_fits (length l.handlers)) l.defs.items);
  distinct : IsTrue (are_distinct (λ a b. same_text a.name b.name) l.defs.items);
}
