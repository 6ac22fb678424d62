-- A test of some word, by the words' bytes.
use Rattle.std.proofs.Common.{◌≡◌, Bool, ◌||◌, List, [], ◌∷◌, map, string_bytes, String, refl, ap}
use Rattle.std.specs.List.{list_any}
use Rattle.smm_command.specs.Commands.{begins_with_dash, texts}

-- some image of an element passes where some element does by its image
pub list_any-map : {X Y : Type 0} (p : Y → Bool) (f : X → Y) (xs : List X) → list_any p (map f xs) ≡ list_any (λ x. p (f x)) xs
list_any-map p f [] = refl
list_any-map p f (x ∷ xs) = ap (λ b. p (f x) || b) (list_any-map p f xs)

-- some word begins with `-`, by the words' bytes
pub list_any_texts : {A : Type 0} (words : List (String A)) → list_any begins_with_dash (texts words) ≡ list_any (λ word. begins_with_dash (string_bytes word)) words
list_any_texts words = list_any-map begins_with_dash string_bytes words
