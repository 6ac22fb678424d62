use Rattle.std.proofs.Common.{◌≡◌, ◌≤◌, [], map, drop, length}
use Rattle.toml.specs.View.{view}
use Rattle.platform_document.specs.Reading.{each}
use Rattle.platform_document.specs.Reading.{word_after}
use Rattle.platform_document.proofs.document.words_of.Given as goal

abbrev pub invariant-loop-value : goal.invariant-loop-value
invariant-loop-value g l = record {
  so_far : each (word_after l.path g.W.Word.meaning) l.words.items (map view (drop l.value-index l.values)) ≡ each (word_after l.path g.W.Word.meaning) [] (map view l.values);
  count : length l.words.items ≡ l.value-index;
  within : l.value-index ≤ length l.values;
}
