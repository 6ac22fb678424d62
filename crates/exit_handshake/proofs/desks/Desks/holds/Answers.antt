use Rattle.std.proofs.Common.{rules, ◌≡◌, sym, arith, nat_lt, false}
use Rattle.exit_handshake.proofs.DeskLemmas.{holds-desks_of, holds_none}
use Rattle.exit_handshake.proofs.desks.Desks.holds.Goals as goal

pub returns-then-cpu-lt64 : goal.returns-then-cpu-lt64
returns-then-cpu-lt64 c = rw (c.is_set.ensures, ← c.self.view_is) (sym (holds-desks_of c.self.inside.bits c.args.cpu (search rules)))

pub returns-else-cpu-lt64 : goal.returns-else-cpu-lt64
returns-else-cpu-lt64 c =
    let none = holds_none c.self.inside.bits c.args.cpu (search rules) in
    let past : nat_lt c.args.cpu 64 ≡ false = grind arith in
    rw (past, ← c.self.view_is) (sym none)
