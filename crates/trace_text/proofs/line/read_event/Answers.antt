use Rattle.std.proofs.Common.{Ok, ap, sym, ◌∙◌, arith}
use Rattle.std.proofs.lemmas.Option.{none-some, same_Some}
use Rattle.trace_text.proofs.Lines.{reading_said, reading_gives}
use Rattle.trace_text.proofs.line.read_event.Goals as goal

pub returns-in-Some-clause-spelling : goal.returns-in-Some-clause-spelling
returns-in-Some-clause-spelling c = (reading_said c.args.n (omega (arith, c.ranges.n)) c.args.bytes.now c.args.at c.in-Some.read (sym c.in-Some.ensures)).spelling

pub returns-in-Some-clause-stands : goal.returns-in-Some-clause-stands
returns-in-Some-clause-stands c = (reading_said c.args.n (omega (arith, c.ranges.n)) c.args.bytes.now c.args.at c.in-Some.read (sym c.in-Some.ensures)).stands

pub returns-in-Some-clause-after : goal.returns-in-Some-clause-after
returns-in-Some-clause-after c = (reading_said c.args.n (omega (arith, c.ranges.n)) c.args.bytes.now c.args.at c.in-Some.read (sym c.in-Some.ensures)).after

pub returns-in-Some-clause-inverse : goal.returns-in-Some-clause-inverse
returns-in-Some-clause-inverse c = λ event is stands. ap Ok (same_Some _ _ (c.in-Some.ensures ∙ reading_gives c.args.n (omega (arith, c.ranges.n)) c.args.bytes.now c.args.at event is stands))

pub returns-in-None-clause-inverse : goal.returns-in-None-clause-inverse
returns-in-None-clause-inverse c = λ event is stands. absurd (none-some _ (c.in-None.ensures ∙ reading_gives c.args.n (omega (arith, c.ranges.n)) c.args.bytes.now c.args.at event is stands))

pub returns-in-None-clause-refused : goal.returns-in-None-clause-refused
returns-in-None-clause-refused c = λ event is stands. none-some _ (c.in-None.ensures ∙ reading_gives c.args.n (omega (arith, c.ranges.n)) c.args.bytes.now c.args.at event is stands)
