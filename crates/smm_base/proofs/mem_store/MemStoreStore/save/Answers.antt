use Rattle.std.proofs.Common.{ap, ◌∙◌, Some}
use Rattle.std.specs.Option.{option_map}
use Rattle.std.specs.BTreeMap.{get_by_text}
use Rattle.smm_base.proofs.mem_store.MemStoreStore.save.Goals as goal

-- a store that was refused memory holds what it held
pub returns-in_err-put-clause-no_memory : goal.returns-in_err-put-clause-no_memory
returns-in_err-put-clause-no_memory c = λ _.
    ap Some (c.in_err-put.ensures.refused ∙ ap (λ contents name. option_map (λ content. content.items) (get_by_text contents name)) c.next_call_fails.ensures.files_stay)
