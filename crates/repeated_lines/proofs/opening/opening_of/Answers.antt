use Rattle.std.proofs.Common.{◌≡◌, ◌+◌, length, rules}
use Rattle.repeated_lines.proofs.Parting.{before_ending}
use Rattle.repeated_lines.proofs.opening.opening_of.Goals as goal

pub new-requires : goal.new-requires
new-requires c =
    let sum : c.in_ok-len.len + c.args.rest ≡ length c.args.line.now = search (rules, c.in_ok-len.ensures) in
    before_ending c.args.processors c.args.event.now c.args.line.now c.in_ok-len.len c.args.rest c.requires.line c.requires.rest sum
