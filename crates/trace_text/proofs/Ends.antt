-- The line that starts at a place, and its end.
use Rattle.std.proofs.Common.{◌≡◌, ℕ, suc, ◌+◌, ◌-◌, slice_range, ◌<◌, ◌≤◌, Bool, true, false, not, ◌==◌, List, [], ◌∷◌, ◌++◌, length, take, drop, Option, Some, None, inl, inr, cond, option_map, IsUtf8, IsAscii, position, refl, ap, sym, ◌∙◌, append_assoc, length-append, length-take, length-drop, take-append-drop, min, arith}
use Rattle.std.specs.List.{list_all, position_from}
use Rattle.std.proofs.lemmas.Bool.{and_parts, cases_lt}
use Rattle.std.proofs.lemmas.Bool.Decides.{nat_tests}
use Rattle.std.proofs.lemmas.Iterator.Adapters.{position_from-zero}
use Rattle.std.proofs.lemmas.List.{take-take, take_at, take_all}
use Rattle.std.proofs.lemmas.Option.{none-some, same_Some}
use Rattle.std.proofs.lemmas.Str.{IsUtf8-from_ascii}
use Rattle.std.proofs.lemmas.Str.Ascii.{IsAscii-nil, IsAscii-cons}
use Rattle.sync_words.specs.Texts.{line_end}
use Rattle.trace_text.specs.Readings.{split_first, line_at}
use Rattle.trace_text.specs.Spelling.{StandsAt}
use Rattle.trace_text.proofs.Bytes.{is_line_byte, Within, all_weaker}
use Rattle.trace_text.proofs.Spells.{map_some}
use Rattle.trace_text.proofs.Splits.{Lacks, split_on, split_whole, split_gives}

-- the bytes of a line are not its end, and ASCII
end_free : (b : ℕ) → is_line_byte b ≡ true → not (b == line_end) ≡ true
end_free b is = grind (arith, nat_tests)

ascii_byte : (b : ℕ) → is_line_byte b ≡ true → b < 128
ascii_byte b is = grind (arith, nat_tests)

ascii_from : (xs : List ℕ) → list_all is_line_byte xs ≡ true → IsAscii xs
ascii_from [] all = IsAscii-nil
ascii_from (x ∷ xs) all =
    let (here, more) = and_parts (is_line_byte x) (list_all is_line_byte xs) all in
    IsAscii-cons x xs (ascii_byte x here) (ascii_from xs more)

pub text_utf8 : (k : ℕ) (text : List ℕ) → Within is_line_byte k text → IsUtf8 text
text_utf8 k text within = IsUtf8-from_ascii text (ascii_from text within.bytes)

-- the part before a separator
abbrev front_of : Option (List ℕ × List ℕ) → Option (List ℕ)
front_of parts = option_map (λ p. p.0) parts

near : (room : ℕ) (rest text : List ℕ) → length text < room → take (length (text ++ line_end ∷ [])) rest ≡ text ++ line_end ∷ [] → Lacks line_end text → front_of (split_first line_end (take room rest)) ≡ Some text
near room rest text less stands lacks =
    let k = length (text ++ line_end ∷ []) in
    let front : take k (take room rest) ≡ text ++ line_end ∷ [] = take-take k room rest (omega (arith, less, length-append text (line_end ∷ []))) ∙ stands in
    let whole : take room rest ≡ text ++ line_end ∷ drop k (take room rest) =
    sym (take-append-drop k (take room rest)) ∙ ap (λ w. w ++ drop k (take room rest)) front ∙ append_assoc text (line_end ∷ []) (drop k (take room rest)) in
    ap (λ w. front_of (split_first line_end w)) whole ∙ ap front_of (split_gives line_end text (drop k (take room rest)) lacks)

stands_by : (room : ℕ) (rest text back : List ℕ) → take room rest ≡ text ++ line_end ∷ back → take (length (text ++ line_end ∷ [])) rest ≡ text ++ line_end ∷ []
stands_by room rest text back whole =
    let k = length (text ++ line_end ∷ []) in
    let joined : take room rest ≡ (text ++ line_end ∷ []) ++ back = whole ∙ sym (append_assoc text (line_end ∷ []) back) in
    let within : k ≤ room = omega (arith, ap length joined, length-append (text ++ line_end ∷ []) back, length-take room rest) in
    sym (take-take k room rest within) ∙ ap (take k) joined ∙ take_at (text ++ line_end ∷ []) back k refl

-- the line that is found stands there
pub line_said : (room : ℕ) (bytes : List ℕ) (at : ℕ) (text : List ℕ) → line_at room bytes at ≡ Some text → StandsAt bytes at (text ++ line_end ∷ [])
line_said room bytes at text is =
    map_some (λ parts. parts.0) (split_first line_end (take room (drop at bytes))) text is (λ parts split same.
    stands_by room (drop at bytes) text parts.1 (split_whole line_end (take room (drop at bytes)) parts.0 parts.1 split ∙ ap (λ w. w ++ line_end ∷ parts.1) same))

-- a text that stands there is found
pub text_found : (bytes : List ℕ) (at : ℕ) (text : List ℕ) → Within is_line_byte 127 text → StandsAt bytes at (text ++ line_end ∷ []) → line_at 128 bytes at ≡ Some text
text_found bytes at text within stands =
    near 128 (drop at bytes) text (omega (arith, within.few)) stands (all_weaker is_line_byte (λ b. not (b == line_end)) end_free text within.bytes)

-- the first line end of a text
some_none : {A P : Type 0} (x : A) → Some x ≡ None → P
some_none x is = absurd (none-some x (sym is))

none_step : (c x : ℕ) (xs : List ℕ) (i : ℕ) (t : Bool) → (position_from (λ byte. byte == c) (i + 1) xs ≡ None → split_first c xs ≡ None) → cond t (Some i) (position_from (λ byte. byte == c) (i + 1) xs) ≡ None →
    split_on x xs t (split_first c xs) ≡ None
none_step c x xs i true rest is = some_none i is
none_step c x xs i false rest is = ap (option_map (λ parts. (x ∷ parts.0, parts.1))) (rest is)

none_from : (c : ℕ) (xs : List ℕ) (i : ℕ) → position_from (λ byte. byte == c) i xs ≡ None → split_first c xs ≡ None
none_from c [] i is = refl
none_from c (x ∷ xs) i is = none_step c x xs i (x == c) (none_from c xs (i + 1)) is

-- the part before the first such byte has as many bytes as the place tells
record IsFront (parts : Option (List ℕ × List ℕ)) (xs : List ℕ) (i j : ℕ) : Type 0 where
  count : ℕ
  place : j ≡ i + count
  front : front_of parts ≡ Some (take count xs)

front_more : (x : ℕ) (parts : Option (List ℕ × List ℕ)) → front_of (split_on x [] false parts) ≡ option_map (λ w. x ∷ w) (front_of parts)
front_more x None = refl
front_more x (Some p) = refl

found_step : (c x : ℕ) (xs : List ℕ) (i j : ℕ) (t : Bool) → (position_from (λ byte. byte == c) (i + 1) xs ≡ Some j → IsFront (split_first c xs) xs (i + 1) j) → cond t (Some i) (position_from (λ byte. byte == c) (i + 1) xs) ≡ Some j →
    IsFront (split_on x xs t (split_first c xs)) (x ∷ xs) i j
found_step c x xs i j true rest is = record { count = 0; place = omega (arith, same_Some i j is); front = refl }
found_step c x xs i j false rest is =
    let found = rest is in
    record { count = suc found.count; place = omega (arith, found.place); front = front_more x (split_first c xs) ∙ ap (option_map (λ w. x ∷ w)) found.front }

found_from : (c : ℕ) (xs : List ℕ) (i j : ℕ) → position_from (λ byte. byte == c) i xs ≡ Some j → IsFront (split_first c xs) xs i j
found_from c [] i j is = absurd (none-some j is)
found_from c (x ∷ xs) i j is = found_step c x xs i j (x == c) (found_from c xs (i + 1) j) is

pub no_line : (bytes : List ℕ) (at : ℕ) (w : List ℕ) → w ≡ take 128 (drop at bytes) → position (λ byte. byte == line_end) w ≡ None → None ≡ line_at 128 bytes at
no_line bytes at w is none =
    let lacks : split_first line_end w ≡ None = none_from line_end w 0 (sym (position_from-zero (λ byte. byte == line_end) w) ∙ none) in
    sym (ap (λ t. front_of (split_first line_end t)) (sym is) ∙ ap front_of lacks)

pub found_line : (bytes : List ℕ) (at : ℕ) (w : List ℕ) (last : ℕ) → w ≡ take 128 (drop at bytes) → position (λ byte. byte == line_end) w ≡ Some last → Some (take last w) ≡ line_at 128 bytes at
found_line bytes at w last is found =
    let front = found_from line_end w 0 last (sym (position_from-zero (λ byte. byte == line_end) w) ∙ found) in
    let same : front.count ≡ last = omega (arith, front.place) in
    sym (ap (λ t. front_of (split_first line_end t)) (sym is) ∙ front.front ∙ ap (λ k. Some (take k w)) same)

-- a line ends within the bytes
pub line_inside : (bytes : List ℕ) (at : ℕ) (w : List ℕ) (last : ℕ) → w ≡ take 128 (drop at bytes) → last < length w → at + length (take last w) < length bytes
line_inside bytes at w last is within =
    omega (arith, within, ap length is, length-take last w, length-take 128 (drop at bytes), length-drop at bytes)

-- as many bytes as there are
pub least_is : (xs : List ℕ) (k m : ℕ) → m ≡ min (length xs) k → take m xs ≡ take k xs
least_is xs k m is = elim (cases_lt (length xs) k) [
  | inl less ↦ take_all m xs (omega (arith, is, less)) ∙ sym (take_all k xs (omega (arith, less)))
  | inr more ↦ ap (λ j. take j xs) (omega (arith, is, more))
]

-- the bytes from a place to the end
pub rest_is : (bytes : List ℕ) (at : ℕ) (w : List ℕ) → w ≡ slice_range bytes at (length bytes) → take 128 w ≡ take 128 (drop at bytes)
rest_is bytes at w is = ap (take 128) (is ∙ take_all (length bytes - at) (drop at bytes) (omega (arith, length-drop at bytes)))
