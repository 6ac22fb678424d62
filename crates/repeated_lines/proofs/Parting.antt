-- The line of an event is its opening and its ending.
use Rattle.std.proofs.Common.{◌≡◌, ◌≤◌, ◌+◌, ◌<◌, ◌^◌, ℕ, List, [], ◌∷◌, ◌++◌, length, take, refl, sym, ap, ◌∙◌, append_assoc, append-nil, arith, decimal, codes}
use Rattle.std.proofs.lemmas.List.{take_at, length-append}
use Rattle.std.proofs.lemmas.Fmt.{length-decimal-le}
use Rattle.smm_base.specs.Status.{status_text}
use Rattle.sync_words.specs.declared.event.Event.{Event}
use Rattle.sync_words.specs.declared.label.Label.{Label}
use Rattle.sync_words.specs.declared.label.Label.TheVariants.{Wait, Start, Run}
use Rattle.sync_words.specs.Texts.{space, colon, line_end, joined, actor_text, word_text, access_text, label_text, event_line}
use Rattle.repeated_lines.specs.Parts.{label_opening, ending, opening}

-- a word with three arguments, to the line end
three : (first second third rest : List ℕ) → joined colon [] (first ∷ second ∷ third ∷ []) ++ rest ≡ colon ∷ (first ++ colon ∷ (second ++ colon ∷ (third ++ rest)))
three first second third rest =
    ap (λ xs. colon ∷ xs)
    (append_assoc first (colon ∷ (second ++ colon ∷ (third ++ []))) rest
    ∙ ap (λ xs. first ++ colon ∷ xs)
    (append_assoc second (colon ∷ (third ++ [])) rest ∙ ap (λ xs. second ++ colon ∷ (xs ++ rest)) (append-nil third)))

label_parts : (label : Label) → label_text label ++ line_end ∷ [] ≡ label_opening label ++ ending label
label_parts (Start cpu job procedure arg) =
    ap (λ xs. codes "start:" ++ xs) (append_assoc (decimal cpu) (joined colon [] (decimal job ∷ decimal procedure ∷ decimal arg ∷ [])) (line_end ∷ []))
    ∙ ap (λ xs. codes "start:" ++ (decimal cpu ++ xs)) (three (decimal job) (decimal procedure) (decimal arg) (line_end ∷ []))
label_parts (Run job value status) = ap (λ xs. codes "run" ++ xs) (three (decimal job) (decimal value) (status_text status) (line_end ∷ []))
label_parts (Wait job value status) = ap (λ xs. codes "wait" ++ xs) (three (decimal job) (decimal value) (status_text status) (line_end ∷ []))
label_parts _ = refl

-- texts with spaces between, and what follows
spread : (a w c f text rest : List ℕ) → joined space a (w ∷ c ∷ f ∷ text ∷ []) ++ rest ≡ a ++ space ∷ (w ++ space ∷ (c ++ space ∷ (f ++ space ∷ (text ++ rest))))
spread a w c f text rest =
    append_assoc a (space ∷ (w ++ space ∷ (c ++ space ∷ (f ++ space ∷ (text ++ []))))) rest
    ∙ ap (λ xs. a ++ space ∷ xs)
    (append_assoc w (space ∷ (c ++ space ∷ (f ++ space ∷ (text ++ [])))) rest
    ∙ ap (λ xs. w ++ space ∷ xs)
    (append_assoc c (space ∷ (f ++ space ∷ (text ++ []))) rest
    ∙ ap (λ xs. c ++ space ∷ xs)
    (append_assoc f (space ∷ (text ++ [])) rest ∙ ap (λ xs. f ++ space ∷ (xs ++ rest)) (append-nil text))))

-- texts with spaces between, of which the last is in two parts
last_parted : (a w c f first second text rest : List ℕ) → text ++ rest ≡ first ++ second →
    joined space a (w ∷ c ∷ f ∷ text ∷ []) ++ rest ≡ joined space a (w ∷ c ∷ f ∷ first ∷ []) ++ second
last_parted a w c f first second text rest parts =
    spread a w c f text rest ∙ ap (λ xs. a ++ space ∷ (w ++ space ∷ (c ++ space ∷ (f ++ space ∷ xs)))) parts ∙ sym (spread a w c f first second)

pub line_parts : (n : ℕ) (event : Event) → event_line n event ≡ opening n event ++ ending event.label
line_parts n event =
    last_parted (actor_text n event.actor) (word_text event.word) (access_text event.access) (decimal event.found) (label_opening event.label) (ending event.label) (label_text event.label) (line_end ∷ []) (label_parts event.label)

-- a line without its ending
pub before_ending : (n : ℕ) (event : Event) (line : List ℕ) (len rest : ℕ) → line ≡ event_line n event → length (ending event.label) ≡ rest → len + rest ≡ length line → take len line ≡ opening n event
before_ending n event line len rest is ends sum =
    let parts : line ≡ opening n event ++ ending event.label = is ∙ line_parts n event in
    let both : length line ≡ length (opening n event) + length (ending event.label) = ap length parts ∙ length-append (opening n event) (ending event.label) in
    let at : length (opening n event) ≡ len = omega (arith, both, ends, sum) in
    ap (take len) parts ∙ take_at (opening n event) (ending event.label) len at

-- no number of 64 bits has more than 20 digits
pub digits_of : (n : ℕ) → n < 2 ^ 64 → length (decimal n) ≤ 20
digits_of n few = length-decimal-le 20 n (omega arith) (omega (arith, few)) few
