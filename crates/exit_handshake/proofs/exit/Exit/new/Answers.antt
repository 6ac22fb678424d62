use Rattle.sync_words.specs.declared.row.Row.TheVariants.{AwaitSessionEnd}
use Rattle.exit_handshake.specs.Exit.{exit_at}
use Rattle.exit_handshake.proofs.ExitLemmas.{exit_begins}
use Rattle.exit_handshake.proofs.exit.Exit.new.Goals as goal

pub invariant_of-exit-2 : goal.invariant_of-exit-2
invariant_of-exit-2 c =
    exit_begins (exit_at c.args.n c.args.me c.of.result c.args.elected AwaitSessionEnd) c.releases-exit-inside.result c.releases-exit-inside.ensures
    (record { few = c.requires.few; own = c.requires.own; row = tt })
