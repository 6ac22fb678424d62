use Rattle.std.proofs.Common.{◌∙◌, refl, sym, inr, arith}
use Rattle.std.proofs.lemmas.Result.{err_from_is_err_and}
use Rattle.toml.specs.View.{view}
use Rattle.platform_document.proofs.Chains.{each_found, each_stops, each_ends, length_more}
use Rattle.platform_document.specs.Reading.{word_after}
use Rattle.platform_document.proofs.document.words_of.Goals as goal

pub returns-in_err-word-clause-refused : goal.returns-in_err-word-clause-refused
returns-in_err-word-clause-refused g c =
    let p = err_from_is_err_and c.from_residual-in_err-word.result c.from_residual-in_err-word.ensures.1 in
    let stops = each_stops (word_after c.args.path g.W.Word.meaning) view c.loop-value.words.items c.loop-value.words.items c.args.values.now c.loop-value.value-index c.value-item.result c.in_err-word.field-0.0 _ c.loop-value-test.true c.value-item.is refl (inr (sym c.in_err-word.ensures)) c.loop-value.invariant.so_far in
    rw (p.1, p.2) stops

pub loop-value-preserved : goal.loop-value-preserved
loop-value-preserved g c =
    let next = each_found (word_after c.args.path g.W.Word.meaning) view c.loop-value.words.items c.loop-value.words.items c.in_ok-word.word c.args.values.now c.loop-value.value-index c.value-item.result c.loop-value-test.true c.value-item.is refl (sym c.in_ok-word.ensures) in
    record {
      so_far = rw c.in_ok-push.ensures.items (next ∙ c.loop-value.invariant.so_far);
      count = rw c.in_ok-push.ensures.items (length_more c.loop-value.words.items c.in_ok-word.word c.loop-value.value-index c.loop-value.invariant.count);
      within = omega (arith, c.loop-value-test.true);
    }

pub returns-clause-words : goal.returns-clause-words
returns-clause-words g c = each_ends (word_after c.args.path g.W.Word.meaning) view c.loop-value.words.items c.args.values.now c.loop-value.value-index _ (omega (arith, c.loop-value-test.false)) c.loop-value.invariant.so_far

pub returns-clause-count : goal.returns-clause-count
returns-clause-count g c = omega (arith, c.loop-value-test.false, c.loop-value.invariant.within, c.loop-value.invariant.count)
