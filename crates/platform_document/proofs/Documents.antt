-- A document as the code holds it, and as its definitions see it.
use Rattle.std.proofs.Common.{◌≡◌, ℕ, Bool, true, false, not, cond, List, [], ◌∷◌, map, Option, Some, None, Result, Ok, Err, String, Global, Bor, string_bytes, option_map, refl, ap, sym, ◌∙◌, if◌then◌else◌}
use Rattle.std.specs.Prelude.{ok_or, IsOk, ◌↔◌}
use Rattle.std.specs.List.{find}
use Rattle.std.specs.Map.{keys_of}
use Rattle.toml.specs.Data.{Data, as_array}
use Rattle.toml.specs.View.{view, items_of, items_view, members_view}
use Rattle.toml.specs.declared.value.Value.{Value}
use Rattle.platform_document.specs.declared.path.Key.{Key}
use Rattle.platform_document.specs.declared.path.Path.{Path}
use Rattle.platform_document.specs.declared.fault.WalkFault.TheVariants.{WrongType}
use Rattle.platform_document.specs.Reading.{Reading, read_then, data_list, counted, list_of, is_known, unknown_in}

-- an array as the list of its values
data_list_of : (ds : List Data) → data_list (items_of ds) ≡ ds
data_list_of [] = refl
data_list_of (d ∷ ds) = ap (λ xs. d ∷ xs) (data_list_of ds)

pub list_from : (path : Path) (first last : ℕ) (d : Data) (vs slice : List Value) (r : Reading (List Data)) →
    Some (items_view vs) ≡ as_array d → slice ≡ vs → r ≡ counted path first last (map view slice) → r ≡ list_of path first last d
list_from path first last d vs slice r some same is =
    is ∙ ap (λ xs. counted path first last (map view xs)) same
    ∙ sym (ap (λ xs. counted path first last xs) (data_list_of (map view vs)))
    ∙ ap (λ o. read_then (ok_or (option_map data_list o) (WrongType path)) (counted path first last)) some

-- the first unknown key, as the map's keys have it
other_or : (keys : List Key) (known : Bool) (name : String Global) (more : Option (String Global)) (rest : Option (List ℕ)) → option_map string_bytes more ≡ rest →
    option_map string_bytes (cond (not known) (Some name) more) ≡ (if known then rest else Some (string_bytes name))
other_or keys true name more rest is = is
other_or keys false name more rest is = refl

pub unknown_of_keys : (keys : List Key) (es : List (String Global × Value)) →
    option_map string_bytes (find (λ name. not (is_known keys (string_bytes name))) (keys_of es)) ≡ unknown_in keys (members_view es)
unknown_of_keys keys [] = refl
unknown_of_keys keys (e ∷ es) = other_or keys (is_known keys (string_bytes e.0)) e.0 _ _ (unknown_of_keys keys es)

pub of_ref : (r : Option (Bor (String Global))) → option_map (λ name. string_bytes name.now) r ≡ option_map string_bytes (option_map (λ name. name.now) r)
of_ref None = refl
of_ref (Some x) = refl

-- a text that is refused is none
pub none_where_refused : {T E : Type 0} (r : Result T E) (e : E) (o : Option (List ℕ)) → r ≡ Err e → (IsOk r ↔ ((u : List ℕ) × (o ≡ Some u))) → o ≡ None
none_where_refused r e None is ok = refl
none_where_refused r e (Some u) is ok = absurd (refused r e is (ok.1 (u, refl))) where
  refused : {T E : Type 0} (r : Result T E) (e : E) → r ≡ Err e → IsOk r → ⊥
  refused (Ok x) e is ok = cc
  refused (Err f) e is ok = cc
