use Rattle.std.proofs.Common.{◌≡◌, ◌≤◌, [], map, drop, length, IsTrue}
use Rattle.std.specs.List.{list_all}
use Rattle.toml.specs.View.{view}
use Rattle.platform_document.specs.Reading.{each}
use Rattle.cpu_table.specs.Ranges.{wave_fits}
use Rattle.platform_file.specs.Waves.{wave_after}
use Rattle.platform_file.proofs.waves.waves_of.Given as goal

abbrev pub invariant-loop-value : goal.invariant-loop-value
invariant-loop-value l = record {
  so_far : each (wave_after l.processors) l.waves.items (map view (drop l.value-index l.values)) ≡ each (wave_after l.processors) [] (map view l.values);
  count : length l.waves.items ≡ l.value-index;
  within : l.value-index ≤ length l.values;
  fit : IsTrue (list_all (wave_fits l.processors) l.waves.items);
}
