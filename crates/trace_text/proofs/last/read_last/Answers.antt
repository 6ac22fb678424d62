use Rattle.std.proofs.Common.{◌∙◌}
use Rattle.trace_text.proofs.LastLines.{stands_of, after_of, refused_of, reading_gives}
use Rattle.trace_text.proofs.last.read_last.Goals as goal

pub returns-clause-stands : goal.returns-clause-stands
returns-clause-stands c = stands_of c.args.bytes.now c.args.at c.read_at.result c.read_at.ensures

pub returns-clause-after : goal.returns-clause-after
returns-clause-after c = after_of c.args.bytes.now c.args.at c.read_at.result c.read_at.ensures

pub returns-clause-inverse : goal.returns-clause-inverse
returns-clause-inverse c = λ totals are stands. c.read_at.ensures ∙ reading_gives c.args.bytes.now c.args.at totals are stands

pub returns-clause-refused : goal.returns-clause-refused
returns-clause-refused c = refused_of c.args.bytes.now c.args.at c.read_at.result c.read_at.ensures
