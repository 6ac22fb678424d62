use Rattle.std.proofs.Common.{◌∙◌, ◌∷◌, [], IsTrue, List, ap, length, refl, subst, sym}
use Rattle.std.proofs.lemmas.List.FromFn.{length-range_with_len}
use Rattle.cpu_table.specs.Ranges.{causes_fit, procedures_fit}
use Rattle.cpu_table.specs.declared.handlers.ProcedureDef.{ProcedureDef}
use Rattle.cpu_table.specs.declared.setup.CauseAt.{CauseAt}
use Rattle.platform_gen.specs.Plans.{handler_of}
use Rattle.platform_gen.proofs.PlanLemmas.{few_events, handler_is_fit, waves_are_fit}
use Rattle.platform_gen.proofs.setup.setup_of.Goals as goal

pub invariant_of-result-clause-ids_for_each : goal.invariant_of-result-clause-ids_for_each
invariant_of-result-clause-ids_for_each c = ap length c.in_ok-ids.ensures.ids ∙ length-range_with_len 0 c.args.plan.processors

pub invariant_of-result-clause-waves_in_range : goal.invariant_of-result-clause-waves_in_range
invariant_of-result-clause-waves_in_range c = waves_are_fit c.in_ok-waves.waves c.args.plan.first c.args.plan.second c.args.plan.processors c.in_ok-waves.ensures c.requires.first_count c.requires.second_count

pub invariant_of-result-clause-handlers_in_range : goal.invariant_of-result-clause-handlers_in_range
invariant_of-result-clause-handlers_in_range c = handler_is_fit c.in_ok-handlers.handlers c.args.plan.writes (c.in_ok-handlers.ensures ∙ ap (λ writes. handler_of writes ∷ []) c.as_slice.ensures) c.requires.few_writes

pub invariant_of-result-clause-procedures_in_range : goal.invariant_of-result-clause-procedures_in_range
invariant_of-result-clause-procedures_in_range c = subst (λ (procedures : List ProcedureDef). IsTrue (procedures_fit procedures)) (sym (c.new-2.ensures ∙ c.new.ensures.items)) refl

pub invariant_of-result-clause-causes_in_range : goal.invariant_of-result-clause-causes_in_range
invariant_of-result-clause-causes_in_range c = subst (λ (causes : List CauseAt). IsTrue (causes_fit c.args.plan.processors 8 causes)) (sym (c.new-4.ensures ∙ c.new-3.ensures.items)) refl

pub invariant_of-result-clause-events_in_range : goal.invariant_of-result-clause-events_in_range
invariant_of-result-clause-events_in_range c = few_events c.args.plan.processors c.requires.few
