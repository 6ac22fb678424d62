use Rattle.std.proofs.Common.{◌≡◌, ◌≤◌, [], map, drop, length, IsTrue}
use Rattle.std.specs.List.{list_all}
use Rattle.toml.specs.View.{view}
use Rattle.platform_document.specs.Reading.{each}
use Rattle.cpu_table.specs.Ranges.{same_visit, cause_fits}
use Rattle.cpu_table.specs.Distinct.{are_distinct}
use Rattle.platform_file.specs.Causes.{cause_after}
use Rattle.platform_file.proofs.causes.causes_of.Given as goal

abbrev pub invariant-loop-value : goal.invariant-loop-value
invariant-loop-value l = record {
  so_far : each (cause_after l.processors l.visits) l.causes.items (map view (drop l.value-index l.values)) ≡ each (cause_after l.processors l.visits) [] (map view l.values);
  count : length l.causes.items ≡ l.value-index;
  within : l.value-index ≤ length l.values;
  fit : IsTrue (list_all (cause_fits l.processors l.visits) l.causes.items);
  distinct : IsTrue (are_distinct same_visit l.causes.items);
}
