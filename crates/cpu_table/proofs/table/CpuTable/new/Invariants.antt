use Rattle.std.proofs.Common.{◌≡◌, take, eqb}
use Rattle.std.specs.List.{IsDistinct}
use Rattle.cpu_table.proofs.table.CpuTable.new.Given as goal

abbrev pub invariant-loop-id : goal.invariant-loop-id
invariant-loop-id l = record { same : l.held.items ≡ take l.id-index l.ids; distinct : IsDistinct eqb l.held.items }
