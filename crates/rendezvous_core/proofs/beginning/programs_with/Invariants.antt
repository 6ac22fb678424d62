use Rattle.std.proofs.Common.{◌≡◌, ◌++◌, drop}
use Rattle.cpu_table.specs.Data.{data_of}
use Rattle.rendezvous_core.specs.Worlds.{first_actors}
use Rattle.rendezvous_core.proofs.beginning.programs_with.Given as goal

abbrev pub invariant-loop-i : goal.invariant-loop-i
invariant-loop-i l = l.programs.items ++ first_actors (data_of l.setup) l.i (drop l.i l.registers) (drop l.i l.images) ≡ first_actors (data_of l.setup) 0 l.registers l.images
