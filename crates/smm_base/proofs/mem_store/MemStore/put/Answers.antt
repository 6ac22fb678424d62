use Rattle.std.proofs.Common.{◌≡◌, string_bytes, ap, sym, ◌∙◌}
use Rattle.std.specs.Str.{bytes_eq}
use Rattle.std.specs.Option.{option_map}
use Rattle.std.specs.BTreeMap.{get_by_text}
use Rattle.std.proofs.lemmas.Map.{update_other}
use Rattle.std.proofs.lemmas.Map.Text.{btree_map_updates_text}
use Rattle.std.proofs.lemmas.Result.{IfOk-at_ok}
use Rattle.std.proofs.lemmas.Slice.Eq.{bytes_eq-Decides}
use Rattle.std.proofs.lemmas.Bool.{false_from_ne_true}
use Rattle.smm_base.proofs.mem_store.MemStore.put.Goals as goal

-- the key has the name's bytes, so a name that differs is looked up as before
pub returns-clause-others_stay : goal.returns-clause-others_stay
returns-clause-others_stay c = λ other apart.
    let key_is_name = IfOk-at_ok (λ s. string_bytes s ≡ c.args.name.now) c.in_ok-key.was c.from_str.ensures.ok in
    let sets = btree_map_updates_text (string_bytes c.in_ok-key.key) c.args.self.now.contents c.insert.new.self _ c.in_ok-insert.ensures.updates other in
    let differs = false_from_ne_true (bytes_eq (string_bytes c.in_ok-key.key) other) (λ e. apart (sym ((bytes_eq-Decides _ _).0 e) ∙ key_is_name)) in
    ap (option_map (λ content. content.items)) (sets ∙ update_other bytes_eq (get_by_text c.args.self.now.contents) _ _ other differs)
