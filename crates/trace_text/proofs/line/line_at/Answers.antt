use Rattle.std.proofs.Common.{◌∙◌, ap, sym, option_map}
use Rattle.trace_text.proofs.Ends.{no_line, found_line, line_inside}
use Rattle.trace_text.proofs.line.line_at.Goals as goal

pub returns-in_err-end-clause-line : goal.returns-in_err-end-clause-line
returns-in_err-end-clause-line c = ap (option_map (λ line. line.now)) c.from_residual.ensures ∙ no_line c.args.bytes.now c.args.at c.near-near.result.now c.near-near.ensures (sym c.in_err-end.ensures.end)

pub returns-clause-line : goal.returns-clause-line
returns-clause-line c = found_line c.args.bytes.now c.args.at c.near-near.result.now c.in_ok-end.end c.near-near.ensures (sym c.in_ok-end.ensures.end)

pub returns-clause-within : goal.returns-clause-within
returns-clause-within c = line_inside c.args.bytes.now c.args.at c.near-near.result.now c.in_ok-end.end c.near-near.ensures c.in_ok-end.ensures.within
