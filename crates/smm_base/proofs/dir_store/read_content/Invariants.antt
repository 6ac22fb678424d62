use Rattle.std.proofs.Common.{◌≤◌, vec_len}
use Rattle.std.specs.Io.KnownBytes.{Consumes}
use Rattle.smm_base.proofs.dir_store.read_content.Given as goal

abbrev pub invariant-loop : goal.invariant-loop
invariant-loop g l = record {
  within : vec_len l.content ≤ l.limit;
  read : Consumes (g.F.Read.remaining l.fn.file) (g.F.Read.remaining l.file) l.content.items;
}
