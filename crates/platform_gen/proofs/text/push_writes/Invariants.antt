use Rattle.std.proofs.Common.{◌≡◌, ◌++◌, take}
use Rattle.std.specs.List.{flat_map}
use Rattle.std.specs.String.{string_bytes}
use Rattle.platform_gen.specs.Texts.{comma, write_text}
use Rattle.platform_gen.proofs.text.push_writes.Given as goal

abbrev pub invariant-loop-write : goal.invariant-loop-write
invariant-loop-write l = string_bytes l.text ≡ string_bytes l.fn.text ++ flat_map (λ write. comma ++ write_text write) (take l.write-index l.writes)
