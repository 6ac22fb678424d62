use Rattle.std.proofs.Common.{◌≡◌, ◌∙◌, ◌+◌, ℕ, true, List, length, length-set, sym, ap, subst}
use Rattle.std.proofs.lemmas.List.{with_items_is}
use Rattle.sync_words.specs.declared.label.Label.{Label}
use Rattle.sync_words.specs.declared.label.Label.TheVariants as say
use Rattle.rendezvous_machine.specs.Machines.{Member}
use Rattle.rendezvous_machine.specs.Effects.{resumed}
use Rattle.trace_members.specs.Members.{member_in}
use Rattle.trace_members.specs.Changes.{with_resume}
use Rattle.trace_check.specs.Kept.{judged_in}
use Rattle.trace_check.specs.Verdicts.{verdict}
use Rattle.trace_check.specs.Afterwards.{after_label}
use Rattle.trace_check.proofs.Announced.{excepts}
use Rattle.trace_check.proofs.kept.Kept.apply.Goals as goal

pub returns-in-Excepted : goal.returns-in-Excepted
returns-in-Excepted c =
    let j = judged_in c.args.self.now in
    let i = c.args.i in
    let blocked = c.in-Excepted.blocked in
    let rule = subst (λ (l : Label). verdict j i l ≡ true) c.in-Excepted.is c.requires in
    c.except.ensures
    ∙ ap (λ (n : ℕ). record j { excepted = n + 1; last_excepted = blocked }) (sym (excepts j i blocked rule))
    ∙ ap (after_label j i) (sym c.in-Excepted.is)

pub returns-in-Resume : goal.returns-in-Resume
returns-in-Resume c =
    let j = judged_in c.args.self.now in
    let i = c.args.i in
    let old = c.args.self.now.members in
    let new = c.resume.new.members in
    let is : new ≡ with_resume i old.items = c.resume.ensures ∙ ap (with_resume i) c.deref_mut-in-Resume.ensures.value in
    let as_many : length new ≡ old.len = ap length is ∙ length-set old.items i (resumed (member_in old.items i)) ∙ sym old.ok.0 in
    ap (λ (members : List Member). record j { members = members }) (with_items_is old new as_many ∙ is)
    ∙ ap (after_label j i) (sym c.in-Resume.is)
