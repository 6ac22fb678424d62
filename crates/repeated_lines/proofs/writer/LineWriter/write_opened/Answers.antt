use Rattle.std.proofs.Common.{◌≡◌, ◌-◌, ◌++◌, take, drop, ap, sym, ◌∙◌, arith}
use Rattle.std.proofs.lemmas.List.{length-drop, take_all}
use Rattle.sync_words.specs.Texts.{event_line}
use Rattle.repeated_lines.specs.Parts.{ending}
use Rattle.repeated_lines.proofs.Parting.{line_parts}
use Rattle.repeated_lines.proofs.writer.LineWriter.write_opened.Goals as goal

pub returns-in_ok-extend_from_slice-in-Some-clause-gains_line :
    goal.returns-in_ok-extend_from_slice-in-Some-clause-gains_line
returns-in_ok-extend_from_slice-in-Some-clause-gains_line c =
    let n = c.args.self.now in
    let event = c.args.event.now in
    let whole : drop c.put_text-start.result c.put_text-start.new.line ≡ event_line n event =
    c.put_text-start.ensures.text ∙ ap (λ xs. c.in-Some.opening.now ++ xs) c.requires.ending
    ∙ ap (λ xs. xs ++ ending event.label) c.in-Some.ensures.opens ∙ sym (line_parts n event) in
    let start = c.put_text-start.result in
    let line = c.put_text-start.new.line in
    let rest : take (160 - start) (drop start line) ≡ drop start line =
    take_all (160 - start) (drop start line) (omega (arith, length-drop start line, c.put_text-start.array_long)) in
    c.in_ok-extend_from_slice-in-Some.ensures.items ∙ ap (λ xs. c.args.out.now.items ++ xs) (rest ∙ whole)
