use Rattle.std.proofs.Common.{◌≡◌, ◌+◌, ◌-◌, take, drop, Some, ap, sym, ◌∙◌, arith}
use Rattle.std.proofs.lemmas.Str.{IsCharBoundary-before_ascii, IsCharBoundary-after_ascii}
use Rattle.trace_text.proofs.Splits.{place_none, place_small, place_some}
use Rattle.trace_text.proofs.split.split_at.Goals as goal

pub range-requires-clause-end_boundary : goal.range-requires-clause-end_boundary
range-requires-clause-end_boundary c =
    let (within, small) = place_small c.args.separator c.args.text.now c.in-Some.place c.requires (sym c.in-Some.ensures.place) in
    IsCharBoundary-before_ascii c.args.text.now c.in-Some.place within small

pub range_from-requires : goal.range_from-requires
range_from-requires c =
    let (within, small) = place_small c.args.separator c.args.text.now c.in-Some.place c.requires (sym c.in-Some.ensures.place) in
    λ _. IsCharBoundary-after_ascii c.args.text.now c.in-Some.place c.utf8.text within small

pub returns-in-None : goal.returns-in-None
returns-in-None c = sym (place_none c.args.separator c.args.text.now (sym c.in-None.ensures.place))

pub returns-in-Some : goal.returns-in-Some
returns-in-Some c =
    let place = c.in-Some.place in
    let text = c.args.text.now in
    let less : place - 0 ≡ place = omega arith in
    (λ t. Some (c.range.ensures.value t, c.range_from.ensures.value t)) ∙
    (ap (λ n. Some (take n text, drop (place + 1) text)) less ∙ sym (place_some c.args.separator text place (sym c.in-Some.ensures.place)))
