use Rattle.std.proofs.Common.{◌∙◌, ◌++◌, ap}
use Rattle.std.specs.String.{string_bytes}
use Rattle.platform_gen.specs.Texts.{comma, write_text}
use Rattle.platform_gen.proofs.PlanLemmas.{entry_step}
use Rattle.platform_gen.proofs.text.push_writes.Goals as goal

pub loop-write-preserved : goal.loop-write-preserved
loop-write-preserved c =
    entry_step (λ write. comma ++ write_text write) c.args.writes.now c.loop-write.write-index _ (string_bytes c.args.text) (string_bytes c.loop-write.text) _ c.loop-write-test.true c.loop-write.invariant
    (c.in_ok-push_entry.ensures ∙ ap (λ entry. string_bytes c.loop-write.text ++ (comma ++ entry)) (c.as_str.ensures.value ∙ c.in_ok-entry.ensures))
