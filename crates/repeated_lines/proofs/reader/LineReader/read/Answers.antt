use Rattle.std.proofs.Common.{◌≡◌, ◌+◌, length, Ok, ap, ◌∙◌}
use Rattle.sync_words.specs.Texts.{event_line}
use Rattle.repeated_lines.proofs.reader.LineReader.read.Goals as goal

pub returns-in-Some-clause-inverse : goal.returns-in-Some-clause-inverse
returns-in-Some-clause-inverse c = λ event is stands.
    let n = c.args.self.now in
    let read = c.in-Some.ensures in
    let same : c.in-Some.read.0 ≡ event =
    c.text_laws.ensures.places n read.few c.args.bytes.now c.args.at c.in-Some.read.0 event read.spelling is read.stands stands in
    λ t. Ok (same t, (read.after ∙ ap (λ e. c.args.at + length (event_line n e)) same) t)
