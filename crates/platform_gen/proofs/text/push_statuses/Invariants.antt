use Rattle.std.proofs.Common.{◌≡◌, ◌++◌, take}
use Rattle.std.specs.List.{flat_map}
use Rattle.std.specs.String.{string_bytes}
use Rattle.platform_gen.specs.Texts.{comma, quoted_word}
use Rattle.platform_gen.proofs.text.push_statuses.Given as goal

abbrev pub invariant-loop-status : goal.invariant-loop-status
invariant-loop-status l = string_bytes l.text ≡ string_bytes l.fn.text ++ flat_map (λ status. comma ++ quoted_word status) (take l.status-index l.statuses)
