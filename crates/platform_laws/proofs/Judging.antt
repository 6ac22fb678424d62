-- A reading stops at these faults: each fault that it meets is one of them, and where it reads there is none.
use Rattle.std.proofs.Common.{◌≡◌, ◌⊎◌, inl, inr, ℕ, ℤ, suc, pos, negsuc, ◌≤◌, Bool, true, false, ◌&&◌, nat_le, List, [], ◌∷◌, ◌++◌, length, Option, Some, None, Ok, Err, option_map, refl, ap, sym, subst, ◌∙◌, if◌then◌else◌, le-leb}
use Rattle.std.specs.Prelude.{MatchOption, Result, ok_or}
use Rattle.std.specs.List.{list_any}
use Rattle.std.specs.Str.{bytes_eq}
use Rattle.std.proofs.lemmas.Bool.{and_parts, and_from, leb-true, false≢true}
use Rattle.std.proofs.lemmas.Option.{same_Some, none-some}
use Rattle.toml.specs.Data.{Data, integer, string, array, table, Items, Members, no_members, member, as_integer, as_str, as_array, as_table}
use Rattle.platform_document.specs.declared.path.TablePlace.{TablePlace}
use Rattle.platform_document.specs.declared.path.Key.{Key}
use Rattle.platform_document.specs.declared.path.Path.{Path}
use Rattle.platform_document.specs.declared.fault.WalkFault.{WalkFault}
use Rattle.platform_document.specs.declared.fault.WalkFault.TheVariants.{Missing, WrongType, Word, Range, Unknown}
use Rattle.platform_document.specs.Reading.{Reading, read_then, found_at, required, data_list, counted, list_of, list_at, number_within, number_value, number_at, word_of, word_at, text_of, text_at, each, is_known, unknown_in, unless_unknown, and_no_other}
use Rattle.platform_laws.specs.Values.{SaysNumber, SaysText}
use Rattle.platform_laws.specs.ValueFaults.{NoFault, KindFault, KeyFault, OptionFault, IsOutside, NumberFault, WordFault, TextFault, TableFault, SomeFault, IsNoLength, ListFault, NameFault}
use Rattle.platform_laws.specs.Faults.{Given}
use Rattle.platform_laws.proofs.Readings.{err_ok, integer_is, string_is, array_is, table_is, counted_said}

pub record Judges {A : Type 0} (r : Reading A) (Fault : WalkFault → Type 0) : Type 0 where
  pub stops : (f : WalkFault) → r ≡ Err f → Fault f
  pub reads : (x : A) → r ≡ Ok x → (f : WalkFault) → Fault f → ⊥

abbrev err_value : {A E : Type 0} → E → Result A E → E
err_value d (Ok x) = d
err_value d (Err e) = e

pub same_err : {A E : Type 0} (e f : E) → ◌≡◌ {A = Result A E} (Err e) (Err f) → e ≡ f
same_err e f is = ap (err_value e) is

pub ok_err : {A E C : Type 0} (x : A) (f : E) → ◌≡◌ {A = Result A E} (Ok x) (Err f) → C
ok_err x f is = err_ok f x (sym is)

pub neither : {P Q : Type 0} → P ⊎ Q → (P → ⊥) → (Q → ⊥) → ⊥
neither (inl p) no_p no_q = no_p p
neither (inr q) no_p no_q = no_q q

pub judge_ok : {A : Type 0} (x : A) → Judges (Ok x) (λ f. ⊥)
judge_ok x = record { stops = λ f is. ok_err x f is; reads = λ y is f no. no }

pub judge_err : {A : Type 0} (e : WalkFault) → Judges {A = A} (Err e) (λ f. f ≡ e)
judge_err e = record { stops = λ f is. sym (same_err e f is); reads = λ x is f told. err_ok e x is }

pub judge_same : {A : Type 0} (r s : Reading A) (F : WalkFault → Type 0) → r ≡ s → Judges s F → Judges r F
judge_same r s F same judged = subst (λ x. Judges x F) (sym same) judged

pub judge_as : {A : Type 0} (r : Reading A) (F G : WalkFault → Type 0) → ((f : WalkFault) → F f → G f) → ((f : WalkFault) → G f → F f) → Judges r F → Judges r G
judge_as r F G to from judged = record { stops = λ f is. to f (judged.stops f is); reads = λ x is f fault. judged.reads x is f (from f fault) }

-- one step and then another
pub judge_then : {A B : Type 0} (r : Reading A) (next : A → Reading B) (F G : WalkFault → Type 0) → Judges r F → ((a : A) → r ≡ Ok a → Judges (next a) G) → Judges (read_then r next) (λ f. F f ⊎ G f)
judge_then (Ok a) next F G first second =
    let later = second a refl in
    record { stops = λ f is. inr (later.stops f is); reads = λ x is f fault. neither fault (first.reads a refl f) (later.reads x is f) }
judge_then (Err e) next F G first second = record { stops = λ f is. inl (first.stops f (ap Err (same_err e f is))); reads = λ x is f fault. err_ok e x is }

-- a step of which only the value changes
pub judge_last : {A B : Type 0} (r : Reading A) (g : A → B) (F : WalkFault → Type 0) → Judges r F → Judges (read_then r (λ x. Ok (g x))) F
judge_last (Ok a) g F judged = record { stops = λ f is. ok_err (g a) f is; reads = λ x is f fault. judged.reads a refl f fault }
judge_last (Err e) g F judged = record { stops = λ f is. judged.stops f (ap Err (same_err e f is)); reads = λ x is f fault. err_ok e x is }

pub then_twice : {A B C : Type 0} (r : Reading A) (f : A → Reading B) (g : B → Reading C) → read_then (read_then r f) g ≡ read_then r (λ x. read_then (f x) g)
then_twice (Ok a) f g = refl
then_twice (Err e) f g = refl

-- a test
pub judge_test : {A : Type 0} (b : Bool) (x : A) (e : WalkFault) (P : Type 0) → (b ≡ true → P → ⊥) → (b ≡ false → P) → Judges (if b then Ok x else Err e) (λ f. P × (f ≡ e))
judge_test true x e P passes fails = record { stops = λ f is. ok_err x f is; reads = λ y is f fault. passes refl fault.0 }
judge_test false x e P passes fails = record { stops = λ f is. (fails refl, sym (same_err e f is)); reads = λ y is f fault. err_ok e y is }

pub judge_untest : {A : Type 0} (b : Bool) (x : A) (e : WalkFault) (P : Type 0) → (b ≡ false → P → ⊥) → (b ≡ true → P) → Judges (if b then Err e else Ok x) (λ f. P × (f ≡ e))
judge_untest false x e P passes fails = record { stops = λ f is. ok_err x f is; reads = λ y is f fault. passes refl fault.0 }
judge_untest true x e P passes fails = record { stops = λ f is. (fails refl, sym (same_err e f is)); reads = λ y is f fault. err_ok e y is }

-- a value of a kind
pub judge_kind : {A B : Type 0} (view : Data → Option A) (kind : A → Data) (other : WalkFault) → ((x : A) → view (kind x) ≡ Some x) → ((v : Data) (x : A) → view v ≡ Some x → v ≡ kind x) →
    (v : Data) (next : A → Reading B) (IsWrong : A → WalkFault → Type 0) → ((x : A) → v ≡ kind x → Judges (next x) (IsWrong x)) → Judges (read_then (ok_or (view v) other) next) (KindFault kind other IsWrong v)
judge_kind {A = A} view kind other there back v next IsWrong deeper = by_view (view v) refl where
  by_view : (o : Option A) → view v ≡ o → Judges (read_then (ok_or o other) next) (KindFault kind other IsWrong v)
  by_view None e = record {
    stops = λ f is. inl ((λ x same. none-some x (sym e ∙ ap view same ∙ there x)), sym (same_err other f is));
    reads = λ x is f fault. err_ok other x is;
  }
  by_view (Some x) e =
      let same = back v x e in
      let judged = deeper x same in
      record {
        stops = λ f is. inr (x, same, judged.stops f is);
        reads = λ y is f fault. neither fault (λ none. none.0 x same)
            (λ wrong. judged.reads y is f (subst (λ z. IsWrong z f) (same_Some wrong.0 x (sym (there wrong.0) ∙ ap view (sym wrong.1 ∙ same) ∙ there x)) wrong.2));
      }

pub judge_kind_only : {A : Type 0} (view : Data → Option A) (kind : A → Data) (other : WalkFault) → ((x : A) → view (kind x) ≡ Some x) → ((v : Data) (x : A) → view v ≡ Some x → v ≡ kind x) →
    (v : Data) → Judges (ok_or (view v) other) (KindFault kind other NoFault v)
judge_kind_only {A = A} view kind other there back v =
    judge_same (ok_or (view v) other) (read_then (ok_or (view v) other) (λ x. Ok x)) (KindFault kind other NoFault v) (same (ok_or (view v) other)) (judge_kind view kind other there back v (λ x. Ok x) NoFault (λ x is. judge_ok x)) where
      same : (r : Reading A) → r ≡ read_then r (λ x. Ok x)
      same (Ok x) = refl
      same (Err e) = refl

-- a member
pub judge_required : {A : Type 0} (path : Path) (t : Members) (next : Data → Reading A) (IsWrong : Data → WalkFault → Type 0) → ((v : Data) → Judges (next v) (IsWrong v)) → Judges (read_then (required path t) next) (KeyFault path IsWrong t)
judge_required path t next IsWrong deeper = by_found (found_at path t) where
  by_found : (o : Option Data) → Judges (read_then (ok_or o (Missing path)) next) (λ f. MatchOption o (f ≡ Missing path) (λ v. IsWrong v f))
  by_found None = judge_err (Missing path)
  by_found (Some v) = deeper v

pub judge_option : {A : Type 0} (path : Path) (t : Members) (next : Option Data → Reading A) (IsWrong : Data → WalkFault → Type 0) (x : A) → next None ≡ Ok x → ((v : Data) → found_at path t ≡ Some v → Judges (next (Some v)) (IsWrong v)) →
    Judges (next (found_at path t)) (OptionFault path IsWrong t)
judge_option path t next IsWrong x none deeper = by_found (found_at path t) refl where
  by_found : (o : Option Data) → found_at path t ≡ o → Judges (next o) (λ f. MatchOption o ⊥ (λ v. IsWrong v f))
  by_found None e = judge_same (next None) (Ok x) (λ f. ⊥) none (judge_ok x)
  by_found (Some v) e = deeper v e

-- numbers
abbrev nat_of : ℤ → ℕ
nat_of (pos n) = n
nat_of (negsuc n) = n

abbrev is_pos : ℤ → Bool
is_pos (pos n) = true
is_pos (negsuc n) = false

pub same_pos : (m n : ℕ) → pos m ≡ pos n → m ≡ n
same_pos m n is = ap nat_of is

pub neg_pos : (m n : ℕ) → negsuc m ≡ pos n → ⊥
neg_pos m n is = false≢true (ap is_pos is)

pub judge_within : (path : Path) (first last : ℕ) (z : ℤ) → Judges (number_within path first last z) (λ f. IsOutside first last z × (f ≡ Range path z))
judge_within path first last (pos n) =
    judge_test (nat_le first n && nat_le n last) n (Range path (pos n)) (IsOutside first last (pos n))
    (λ is outside. let (low, high) = and_parts (nat_le first n) (nat_le n last) is in outside n refl (leb-true first n low) (leb-true n last high))
    (λ is m same low high.
    let back = sym (same_pos n m same) in
    false≢true (sym is ∙ and_from (nat_le first n) (nat_le n last) (le-leb first n (subst (λ (k : ℕ). first ≤ k) back low)) (le-leb n last (subst (λ (k : ℕ). k ≤ last) back high))))
judge_within path first last (negsuc n) = record {
  stops = λ f is. ((λ m same low high. neg_pos n m same), sym (same_err (Range path (negsuc n)) f is));
  reads = λ x is f fault. err_ok (Range path (negsuc n)) x is;
}

pub judge_number : (path : Path) (first last : ℕ) (v : Data) → Judges (number_value path first last v) (NumberFault path first last v)
judge_number path first last v =
    judge_kind as_integer (λ z. integer z) (WrongType path) (λ z. refl) integer_is v (number_within path first last) (λ z f. IsOutside first last z × (f ≡ Range path z)) (λ z is. judge_within path first last z)

pub judge_number_at : (path : Path) (first last : ℕ) (t : Members) → Judges (number_at path first last t) (KeyFault path (NumberFault path first last) t)
judge_number_at path first last t = judge_required path t (number_value path first last) (NumberFault path first last) (judge_number path first last)

-- words and texts
pub judge_word : {A : Type 0} (path : Path) (find : List ℕ → Option A) (IsWord : List ℕ → Type 0) → ((text : List ℕ) → find text ≡ None → IsWord text → ⊥) → ((text : List ℕ) (x : A) → find text ≡ Some x → IsWord text) →
    (v : Data) → Judges (word_of path find v) (WordFault path IsWord v)
judge_word {A = A} path find IsWord none some v =
    judge_kind as_str (λ s. string s) (WrongType path) (λ s. refl) string_is v (λ text. ok_or (find text) (Word path)) (λ text f. (IsWord text → ⊥) × (f ≡ Word path)) (λ text is. by_find text (find text) refl) where
      by_find : (text : List ℕ) (o : Option A) → find text ≡ o → Judges (ok_or o (Word path)) (λ f. (IsWord text → ⊥) × (f ≡ Word path))
      by_find text None e = record { stops = λ f is. (none text e, sym (same_err (Word path) f is)); reads = λ x is f fault. err_ok (Word path) x is }
      by_find text (Some x) e = record { stops = λ f is. ok_err x f is; reads = λ y is f fault. fault.0 (some text x e) }

pub judge_word_at : {A : Type 0} (path : Path) (find : List ℕ → Option A) (IsWord : List ℕ → Type 0) → ((text : List ℕ) → find text ≡ None → IsWord text → ⊥) → ((text : List ℕ) (x : A) → find text ≡ Some x → IsWord text) →
    (t : Members) → Judges (word_at path find t) (KeyFault path (WordFault path IsWord) t)
judge_word_at path find IsWord none some t = judge_required path t (word_of path find) (WordFault path IsWord) (judge_word path find IsWord none some)

pub judge_text_at : (path : Path) (t : Members) → Judges (text_at path t) (KeyFault path (TextFault path) t)
judge_text_at path t = judge_required path t (text_of path) (TextFault path) (λ v. judge_kind_only as_str (λ s. string s) (WrongType path) (λ s. refl) string_is v)

-- lists
pub judge_counted : (path : Path) (first last : ℕ) (vs : List Data) → Judges (counted path first last vs) (λ f. IsNoLength first last (length vs) × (f ≡ Range path (pos (length vs))))
judge_counted path first last vs =
    judge_test (nat_le first (length vs) && nat_le (length vs) last) vs (Range path (pos (length vs))) (IsNoLength first last (length vs))
    (λ is none. let (low, high) = and_parts (nat_le first (length vs)) (nat_le (length vs) last) is in none (leb-true first (length vs) low) (leb-true (length vs) last high))
    (λ is low high. false≢true (sym is ∙ and_from (nat_le first (length vs)) (nat_le (length vs) last) (le-leb first (length vs) low) (le-leb (length vs) last high)))

pub judge_list : {A : Type 0} (path : Path) (first last : ℕ) (next : List Data → Reading A) (IsWrong : List Data → Data → WalkFault → Type 0) (v : Data) →
    ((items : Items) → v ≡ array items → first ≤ length (data_list items) → length (data_list items) ≤ last → Judges (next (data_list items)) (SomeFault IsWrong [] (data_list items))) →
    Judges (read_then (list_of path first last v) next) (ListFault path first last IsWrong v)
judge_list {A = A} path first last next IsWrong v deeper =
    judge_same (read_then (list_of path first last v) next) (read_then (ok_or (as_array v) (WrongType path)) (λ items. read_then (counted path first last (data_list items)) next)) (ListFault path first last IsWrong v) (same (as_array v))
    (judge_kind as_array (λ items. array items) (WrongType path) (λ items. refl) array_is v (λ items. read_then (counted path first last (data_list items)) next)
    (λ items g. (IsNoLength first last (length (data_list items)) × (g ≡ Range path (pos (length (data_list items))))) ⊎ SomeFault IsWrong [] (data_list items) g)
    (λ items is. judge_then (counted path first last (data_list items)) next (λ g. IsNoLength first last (length (data_list items)) × (g ≡ Range path (pos (length (data_list items))))) (SomeFault IsWrong [] (data_list items))
    (judge_counted path first last (data_list items)) (after items is))) where
      same : (o : Option Items) → read_then (read_then (ok_or (option_map data_list o) (WrongType path)) (counted path first last)) next ≡ read_then (ok_or o (WrongType path)) (λ items. read_then (counted path first last (data_list items)) next)
      same None = refl
      same (Some items) = refl

      after : (items : Items) → v ≡ array items → (vs : List Data) → counted path first last (data_list items) ≡ Ok vs → Judges (next vs) (SomeFault IsWrong [] (data_list items))
      after items is vs there =
          let (whole, low, high) = counted_said path first last (data_list items) vs there in
          subst (λ (ws : List Data). Judges (next ws) (SomeFault IsWrong [] (data_list items))) whole (deeper items is low high)

pub judge_list_at : {A : Type 0} (path : Path) (first last : ℕ) (next : List Data → Reading A) (IsWrong : List Data → Data → WalkFault → Type 0) (t : Members) →
    ((vs : List Data) → first ≤ length vs → length vs ≤ last → Judges (next vs) (SomeFault IsWrong [] vs)) →
    Judges (read_then (list_at path first last t) next) (KeyFault path (ListFault path first last IsWrong) t)
judge_list_at path first last next IsWrong t deeper =
    judge_same (read_then (list_at path first last t) next) (read_then (required path t) (λ v. read_then (list_of path first last v) next)) (KeyFault path (ListFault path first last IsWrong) t) (then_twice (required path t) (list_of path first last) next)
    (judge_required path t (λ v. read_then (list_of path first last v) next) (ListFault path first last IsWrong) (λ v. judge_list path first last next IsWrong v (λ items is low high. deeper (data_list items) low high)))

-- values that say what was read of them
abbrev pub Zips : {A : Type 0} → (Data → A → Type 0) → List Data → List A → Type 0
Zips Says [] [] = Unit {0}
Zips Says [] (x ∷ xs) = ⊥
Zips Says (v ∷ vs) [] = ⊥
Zips Says (v ∷ vs) (x ∷ xs) = Says v x × Zips Says vs xs

zips_more : {A : Type 0} (Says : Data → A → Type 0) (vs : List Data) (xs : List A) (v : Data) (x : A) → Zips Says vs xs → Says v x → Zips Says (vs ++ v ∷ []) (xs ++ x ∷ [])
zips_more Says [] [] v x zips says = (says, tt)
zips_more Says [] (y ∷ ys) v x zips says = absurd zips
zips_more Says (w ∷ ws) [] v x zips says = absurd zips
zips_more Says (w ∷ ws) (y ∷ ys) v x zips says = (zips.0, zips_more Says ws ys v x zips.1 says)

pub zips_length : {A : Type 0} (Says : Data → A → Type 0) (vs : List Data) (xs : List A) → Zips Says vs xs → length xs ≡ length vs
zips_length Says [] [] zips = refl
zips_length Says [] (y ∷ ys) zips = absurd zips
zips_length Says (w ∷ ws) [] zips = absurd zips
zips_length Says (w ∷ ws) (y ∷ ys) zips = ap suc (zips_length Says ws ys zips.1)

pub judge_each : {A : Type 0} (read : List A → Data → Reading A) (Says : Data → A → Type 0) (IsWrong : List Data → Data → WalkFault → Type 0) →
    ((done : List A) (v : Data) (x : A) → read done v ≡ Ok x → Says v x) →
    ((before : List Data) (done : List A) → Zips Says before done → (v : Data) → Judges (read done v) (IsWrong before v)) →
    (before : List Data) (done : List A) → Zips Says before done → (vs : List Data) → Judges (each read done vs) (SomeFault IsWrong before vs)
judge_each read Says IsWrong said one before done zips [] = judge_ok done
judge_each read Says IsWrong said one before done zips (v ∷ vs) =
    judge_then (read done v) (λ x. each read (done ++ x ∷ []) vs) (IsWrong before v) (SomeFault IsWrong (before ++ v ∷ []) vs) (one before done zips v)
    (λ x is. judge_each read Says IsWrong said one (before ++ v ∷ []) (done ++ x ∷ []) (zips_more Says before done v x zips (said done v x is)) vs)

-- tables
pub judge_table : {A : Type 0} (other : WalkFault) (v : Data) (next : Members → Reading A) (IsWrong : Members → WalkFault → Type 0) → ((t : Members) → v ≡ table t → Judges (next t) (IsWrong t)) →
    Judges (read_then (ok_or (as_table v) other) next) (TableFault other IsWrong v)
judge_table other v next IsWrong deeper = judge_kind as_table (λ t. table t) other (λ t. refl) table_is v next IsWrong deeper

-- names
pub judge_names : {A : Type 0} (place : TablePlace) (keys : List Key) (names : List (List ℕ)) → ((name : List ℕ) → is_known keys name ≡ list_any (λ known. bytes_eq known name) names) →
    (t : Members) (x : A) → Judges (and_no_other place keys t x) (NameFault place names t)
judge_names place keys names same no_members x = judge_ok x
judge_names {A = A} place keys names same (member name v more) x = by_test (is_known keys name) refl (judge_names place keys names same more x) where
  by_test : (b : Bool) → is_known keys name ≡ b → Judges (unless_unknown place x (unknown_in keys more)) (NameFault place names more) →
      Judges (unless_unknown place x (if b then unknown_in keys more else Some name)) (NameFault place names (member name v more))
  by_test true e rest = record {
    stops = λ f is. inr (rest.stops f is);
    reads = λ y is f fault. neither fault (λ other. false≢true (sym other.0 ∙ sym (same name) ∙ e)) (rest.reads y is f);
  }
  by_test false e rest = record { stops = λ f is. inl (sym (same name) ∙ e, sym (same_err (Unknown place name) f is)); reads = λ y is f fault. err_ok (Unknown place name) y is }

-- what another key bounds
abbrev pub nat_in : Data → ℕ
nat_in (integer z) = nat_of z
nat_in _ = 0

pub number_once : (t : Members) (name : List ℕ) (m n : ℕ) → SaysNumber t name m → SaysNumber t name n → m ≡ n
number_once t name m n one other = ap nat_in (same_Some (integer (pos m)) (integer (pos n)) (sym one ∙ other))

abbrev text_in : Data → List ℕ
text_in (string text) = text
text_in _ = []

pub text_once : (t : Members) (name a b : List ℕ) → SaysText t name a → SaysText t name b → a ≡ b
text_once t name a b one other = ap text_in (same_Some (string a) (string b) (sym one ∙ other))

pub judge_given : {A : Type 0} (r : Reading A) (t : Members) (name : List ℕ) (n : ℕ) (F : ℕ → Members → WalkFault → Type 0) → SaysNumber t name n → Judges r (F n t) → Judges r (Given name F t)
judge_given r t name n F says judged = record {
  stops = λ f is. (n, says, judged.stops f is);
  reads = λ x is f fault. judged.reads x is f (subst (λ k. F k t f) (number_once t name fault.0 n fault.1 says) fault.2);
}
