use Rattle.std.proofs.Common.{◌≡◌, ◌<◌, ◌≤◌, All, eqb, [], map, drop, length}
use Rattle.std.specs.List.{IsDistinct}
use Rattle.toml.specs.View.{view}
use Rattle.platform_document.specs.Reading.{each}
use Rattle.platform_file.specs.Head.{id_after}
use Rattle.platform_file.proofs.head.ids_in.Given as goal

abbrev pub invariant-loop-value : goal.invariant-loop-value
invariant-loop-value l = record {
  count : length l.ids.items ≡ l.value-index;
  within : l.value-index ≤ length l.values;
  distinct : IsDistinct eqb l.ids.items;
  small : All (λ id. id < 9223372036854775808) l.ids.items;
  so_far : each id_after l.ids.items (map view (drop l.value-index l.values)) ≡ each id_after [] (map view l.values);
}
