-- A name of the file stands for the place of the handler that has it.
use Rattle.std.proofs.Common.{◌≡◌, ℕ, zero, suc, ◌+◌, ◌<◌, Bool, true, false, not, ◌||◌, nat_lt, List, [], ◌∷◌, length, get_or, map, Some, None, cond, refl, ap, sym, subst, ◌∙◌, lt-ltb, arith}
use Rattle.std.specs.Prelude.{slice_get}
use Rattle.std.specs.List.{list_any, position_or_len}
use Rattle.std.specs.Option.{option_and_then}
use Rattle.std.specs.Str.{bytes_eq}
use Rattle.std.proofs.lemmas.Bool.{and_parts, false≢true}
use Rattle.std.proofs.lemmas.Option.{same_Some, none-some}
use Rattle.std.proofs.lemmas.List.Quantifiers.{position-Some}
use Rattle.std.proofs.lemmas.Slice.Eq.{bytes_eq-Decides}
use Rattle.toml.specs.Data.{Data, boolean, Items, no_items, item, Members, as_str}
use Rattle.cpu_table.specs.Distinct.{are_distinct}
use Rattle.cpu_table.specs.Ranges.{same_text}
use Rattle.cpu_table.specs.declared.handlers.HandlerDef.{HandlerDef}
use Rattle.cpu_table.specs.declared.handlers.OpDef.{OpDef}
use Rattle.cpu_table.specs.declared.handlers.OpDef.TheVariants as op
use Rattle.platform_document.specs.Reading.{data_list}
use Rattle.platform_file.specs.Operations.{text_is, has_name}
use Rattle.platform_laws.specs.Values.{EachSays, IsTableOf}
use Rattle.platform_laws.specs.Says.{SaysParts, SaysOperation, SaysHandlerDef, IsNameAt}
use Rattle.platform_laws.proofs.Lists.{each_weaker}
use Rattle.platform_laws.proofs.Parts.{IsFound}

-- entries of a list that say handlers
abbrev pub SayHandlers : (List ℕ → ℕ → Type 0) → Items → List HandlerDef → Type 0
SayHandlers IsPlaceOf items handlers = EachSays (λ v h. IsTableOf (λ t. SaysHandlerDef IsPlaceOf t h) v) items handlers

abbrev names_of : List HandlerDef → List (List ℕ)
names_of handlers = map (λ (h : HandlerDef). h.name) handlers

-- an entry has the name that it says
entry_has : (R : List ℕ → ℕ → Type 0) (v : Data) (h : HandlerDef) (name : List ℕ) → IsTableOf (λ t. SaysHandlerDef R t h) v → has_name name v ≡ bytes_eq h.name name
entry_has R v h name (t, there, says) = ap (has_name name) there ∙ ap (λ o. text_is name (option_and_then as_str o)) says.name_is

place_name : (R : List ℕ → ℕ → Type 0) (items : Items) (hs : List HandlerDef) (name : List ℕ) (at : ℕ) (d : Data) → SayHandlers R items hs → at < length (data_list items) → has_name name (get_or (data_list items) at d) ≡ true → slice_get (names_of hs) at ≡ Some name
place_name R no_items hs name at d says within has = absurd (omega (arith, within))
place_name R (item v vs) [] name at d says within has = absurd says
place_name R (item v vs) (h ∷ hs) name zero d says within has =
    ap Some ((bytes_eq-Decides h.name name).0 (sym (entry_has R v h name says.0) ∙ has))
place_name R (item v vs) (h ∷ hs) name (suc at) d says within has = place_name R vs hs name at d says.1 (omega (arith, within)) has

pub found_name : (R : List ℕ → ℕ → Type 0) (items : Items) (hs : List HandlerDef) → SayHandlers R items hs → (name : List ℕ) (at : ℕ) → IsFound (data_list items) name at → IsNameAt hs name at
found_name R items hs says name at found =
    let first = position-Some (has_name name) (data_list items) at (boolean true) found in
    place_name R items hs name at (boolean true) says first.0 first.1

or_neither : (a b : Bool) → a || b ≡ false → (a ≡ false) × (b ≡ false)
or_neither true b x = absurd (false≢true (sym x))
or_neither false b x = (refl, x)

is_false : (b : Bool) → not b ≡ true → b ≡ false
is_false true is = absurd (false≢true is)
is_false false is = refl

differs : (h : HandlerDef) (hs : List HandlerDef) (name : List ℕ) (at : ℕ) → list_any (λ x. same_text h.name x.name) hs ≡ false → slice_get (names_of hs) at ≡ Some name → bytes_eq h.name name ≡ false
differs h [] name at none there = absurd (none-some name there)
differs h (x ∷ xs) name zero none there =
    subst (λ y. bytes_eq h.name y ≡ false) (same_Some x.name name there) ((or_neither (same_text h.name x.name) (list_any (λ y. same_text h.name y.name) xs) none).0)
differs h (x ∷ xs) name (suc at) none there = differs h xs name at ((or_neither (same_text h.name x.name) (list_any (λ y. same_text h.name y.name) xs) none).1) there

abbrev same_name : HandlerDef → HandlerDef → Bool
same_name a b = same_text a.name b.name

first_at : (R : List ℕ → ℕ → Type 0) (items : Items) (hs : List HandlerDef) (name : List ℕ) (at : ℕ) → SayHandlers R items hs → are_distinct same_name hs ≡ true → slice_get (names_of hs) at ≡ Some name →
    (position_or_len (has_name name) (data_list items) ≡ at) × (at < length (data_list items))
first_at R no_items [] name at says distinct there = absurd (none-some name there)
first_at R no_items (h ∷ hs) name at says distinct there = absurd says
first_at R (item v vs) [] name at says distinct there = absurd says
first_at R (item v vs) (h ∷ hs) name zero says distinct there =
    let has = entry_has R v h name says.0 ∙ (bytes_eq-Decides h.name name).1 (same_Some h.name name there) in
    (ap (λ b. cond (not b) (1 + position_or_len (has_name name) (data_list vs)) 0) has, omega arith)
first_at R (item v vs) (h ∷ hs) name (suc at) says distinct there =
    let (alone, others) = and_parts (not (list_any (same_name h) hs)) (are_distinct same_name hs) distinct in
    let has = entry_has R v h name says.0 ∙ differs h hs name at (is_false (list_any (same_name h) hs) alone) there in
    let (place, within) = first_at R vs hs name at says.1 others there in
    let next : 1 + at ≡ suc at = omega arith in
    (ap (λ b. cond (not b) (1 + position_or_len (has_name name) (data_list vs)) 0) has ∙ (ap (λ n. 1 + n) place ∙ next), omega (arith, within))

pub name_found : (R : List ℕ → ℕ → Type 0) (items : Items) (hs : List HandlerDef) → SayHandlers R items hs → are_distinct same_name hs ≡ true → (name : List ℕ) (at : ℕ) → IsNameAt hs name at → IsFound (data_list items) name at
name_found R items hs says distinct name at there =
    let (place, within) = first_at R items hs name at says distinct there in
    ap (λ n. cond (nat_lt n (length (data_list items))) (Some n) None) place ∙ ap (λ b. cond b (Some at) None) (lt-ltb at (length (data_list items)) within)

-- a name's place may be said otherwise
parts_as : (R S : List ℕ → ℕ → Type 0) → ((name : List ℕ) (at : ℕ) → R name at → S name at) → (t : Members) (o : OpDef) → SaysParts R t o → SaysParts S t o
parts_as R S also t (op.Set into value) says = says
parts_as R S also t (op.Read cpu reg width into) says = says
parts_as R S also t (op.Write cpu reg width value) says = says
parts_as R S also t (op.Start cpu procedure arg into) says = says
parts_as R S also t (op.Launch cpu procedure arg into) says = says
parts_as R S also t (op.Check token) says = says
parts_as R S also t (op.Wait token into) says = says
parts_as R S also t (op.Alloc size into) says = says
parts_as R S also t (op.Free place) says = says
parts_as R S also t (op.Register handler kind into) says =
    let (text, written, place) = says.0 in
    ((text, written, also text handler place), says.1, says.2)
parts_as R S also t (op.Unregister handle) says = says
parts_as R S also t (op.Manage kind) says = says

operation_as : (R S : List ℕ → ℕ → Type 0) → ((name : List ℕ) (at : ℕ) → R name at → S name at) → (v : Data) (o : OpDef) → IsTableOf (λ t. SaysOperation R t o) v → IsTableOf (λ t. SaysOperation S t o) v
operation_as R S also v o (t, there, says) = (t, there, record { word = says.word; parts = parts_as R S also t o says.parts; only = says.only })

pub handler_as : (R S : List ℕ → ℕ → Type 0) → ((name : List ℕ) (at : ℕ) → R name at → S name at) → (v : Data) (h : HandlerDef) → IsTableOf (λ t. SaysHandlerDef R t h) v → IsTableOf (λ t. SaysHandlerDef S t h) v
handler_as R S also v h (t, there, says) =
    let w = says.ops_are.0 in
    let member = says.ops_are.1 in
    let (items, kind, each_says) = says.ops_are.2 in (
      t,
      there,
      record {
        name_is = says.name_is;
        type_is = says.type_is;
        answer_is = says.answer_is;
        ops_are = (w, member, (items, kind, each_weaker (λ v o. IsTableOf (λ t. SaysOperation S t o) v) (λ v o. IsTableOf (λ t. SaysOperation R t o) v) (operation_as R S also) items h.ops each_says));
        only = says.only;
      },
    )

pub handlers_as : (R S : List ℕ → ℕ → Type 0) → ((name : List ℕ) (at : ℕ) → R name at → S name at) → (items : Items) (hs : List HandlerDef) → SayHandlers R items hs → SayHandlers S items hs
handlers_as R S also items hs says = each_weaker (λ v h. IsTableOf (λ t. SaysHandlerDef S t h) v) (λ v h. IsTableOf (λ t. SaysHandlerDef R t h) v) (handler_as R S also) items hs says
