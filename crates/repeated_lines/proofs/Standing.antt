-- Lines that stand in bytes.
use Rattle.std.proofs.Common.{◌≡◌, ◌<◌, ◌+◌, ◌-◌, ◌^◌, ℕ, Bool, true, List, length, take, drop, Some, refl, sym, ap, subst, ◌∙◌, arith}
use Rattle.std.specs.Prelude.{slice_range}
use Rattle.std.specs.Cmp.Lexicographic.{pointwise}
use Rattle.std.specs.Bool.{Decides}
use Rattle.std.proofs.lemmas.List.{length-drop, take_all, take_at}
use Rattle.std.proofs.lemmas.Slice.Eq.{starts_is}
use Rattle.smm_base.specs.Register.{register_number, register_numbered}
use Rattle.smm_base.specs.declared.registers.Register.{Register}
use Rattle.sync_words.specs.Texts.{event_line}
use Rattle.sync_words.specs.declared.event.Event.{Event}
use Rattle.trace_text.specs.Spelling.{IsSpelling, StandsAt}
use Rattle.trace_text.proofs.Lines.{reading_gives, reading_said}
use Rattle.repeated_lines.specs.Spelled.{IsSpelled}

-- the rest of the bytes begins with the line
pub begins : {same : ℕ → ℕ → Bool} → ((a b : ℕ) → Decides (same a b) (a ≡ b)) → (bytes rest line : List ℕ) (at : ℕ) (r : Bool) →
    rest ≡ slice_range bytes at (length bytes) → r ≡ pointwise same line (take (length line) rest) → r ≡ true → StandsAt bytes at line
begins decides bytes rest line at r is tests true_now =
    let from_at : rest ≡ drop at bytes = is ∙ take_all (length bytes - at) (drop at bytes) (omega (arith, length-drop at bytes)) in
    let whole = (starts_is decides rest line r tests).0 true_now in
    ap (take (length line)) (sym from_at ∙ whole) ∙ take_at line (drop (length line) rest) (length line) refl

-- what is spelled is read from its own line, and the other way round
pub spelled_from : (n : ℕ) → n < 2 ^ 16 → (event : Event) → IsSpelling n event → IsSpelled n event
spelled_from n few event is =
    let behind : 0 + length (event_line n event) ≡ length (event_line n event) = omega arith in
    reading_gives n few (event_line n event) 0 event is (take_all (length (event_line n event)) (event_line n event) (omega arith)) ∙
    ap (λ next. Some (event, next)) behind

pub spelled_is : (n : ℕ) → n < 2 ^ 16 → (event : Event) → IsSpelled n event → IsSpelling n event
spelled_is n few event is = (reading_said n few (event_line n event) 0 (event, length (event_line n event)) is).spelling

-- the bytes between a place and the end of the line that stands there
pub text_is : (bytes text line : List ℕ) (at next : ℕ) → StandsAt bytes at line → next ≡ at + length line → text ≡ slice_range bytes at next → text ≡ line
text_is bytes text line at next stands after is =
    is ∙ (λ t. take (subst (λ m. m - at ≡ length line) (sym after) (omega arith) t) (drop at bytes)) ∙ stands

-- of a line that is kept
pub spelled_with : (n m : ℕ) (event other : Event) → n < 2 ^ 16 → (m ≡ n) × (other ≡ event) → IsSpelling n event → IsSpelled m other
spelled_with n m event other few same is = subst (λ k. IsSpelled k other) (sym same.0) (subst (IsSpelled n) (sym same.1) (spelled_from n few event is))

pub spelled_again : (n m : ℕ) (event : Event) → n < 2 ^ 16 → m ≡ n → IsSpelled m event → IsSpelling n event
spelled_again n m event few same is = spelled_is n few event (subst (λ k. IsSpelled k event) same is)

-- a register is told by its number
pub same_register : (one other : Register) → ((r : Register) → register_numbered (register_number r) ≡ Some r) → register_number one ≡ register_number other → one ≡ other
same_register one other laws same =
    let both : Some one ≡ Some other = sym (laws one) ∙ ap register_numbered same ∙ laws other in
    cc
