-- The next operation begins with a unit.
use Rattle.std.proofs.Common.{◌≡◌, ◌≢◌, ◌+◌, ◌-◌, ◌∷◌, Option, None, Some, length, take, arith}
use Rattle.std.specs.Prelude.{IfSome}
use Rattle.serving_place.specs.declared.progress.Walk.{Walk}
use Rattle.serving_place.specs.Places.{levels_left, after_doing, after_in_call}
use Rattle.serving_place.specs.Progresses.{program_in, place_in, walk_of, walks_in, call_of}
use Rattle.serving_place.specs.Sayings.{label_in, said_as}
use Rattle.serving_place.proofs.Stack.{at_left_some}
use Rattle.serving_place.proofs.progress.Progress.in_call.Goals as goal

if_some_then : {A : Type 0} (P Q : A → Type 0) (o : Option A) → IfSome o P → ((x : A) → P x → Q x) → IfSome o Q
if_some_then P Q None holds then = holds
if_some_then P Q (Some x) holds then = then x holds

pub returns-else-left-eq0-clause-place : goal.returns-else-left-eq0-clause-place
returns-else-left-eq0-clause-place c =
    let left : c.args.self.now.state.left ≢ 0 = grind arith in
    let program = program_in c.args.self.now in
    let walks = c.args.self.now.walks.items in
    if_some_then _
    (λ (w : Walk). place_in c.operate.new.self ≡ after_in_call program (place_in c.args.self.now).kinds (walks_in program (take (length walks - 1) walks)) (walk_of program w)
    c.args.called.handler (call_of program c.args.called).ops c.args.self.now.state (label_in c.args.self.now.state.pool (said_as c.args.request.now c.args.label.now)))
    _ c.go_on_to.ensures.walks
    (λ w top.
    let opened = walks_in program c.go_on_to.new.self.walks.items in
    let operated : place_in c.operate.new.self ≡ after_doing (levels_left opened) (place_in c.args.self.now).kinds opened c.in-Some.field-0.now
    (record c.args.self.now.state { left = c.args.self.now.state.left - 1 }) (label_in c.args.self.now.state.pool (said_as c.args.request.now c.args.label.now)) =
    rw (c.go_on_to.ensures.stays, c.begin_unit.ensures, ← c.in-Some.ensures.value) at c.operate.ensures.place in
    let same : opened ≡ record (walk_of program w) { called = Some (call_of program (record c.args.called { at = c.args.called.at + 1 })) } ∷ walks_in program (take (length walks - 1) walks) = top in
    rw (c.in-Some.ensures.next, at_left_some c.args.self.now.state.left _ _ left) (rw same at operated))
