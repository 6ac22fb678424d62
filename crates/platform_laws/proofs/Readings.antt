-- What a reading that succeeds has read, and when it succeeds.
use Rattle.std.proofs.Common.{◌≡◌, ℕ, ℤ, pos, negsuc, ◌≤◌, Bool, true, false, ◌&&◌, nat_le, List, length, Option, Some, None, Ok, Err, option_map, refl, ap, sym, subst, ◌∙◌, if◌then◌else◌, le-leb}
use Rattle.std.specs.Prelude.{ok_or, Result}
use Rattle.std.specs.List.{list_any}
use Rattle.std.specs.Str.{bytes_eq}
use Rattle.std.proofs.lemmas.Bool.{and_parts, and_from, leb-true}
use Rattle.std.proofs.lemmas.Option.{same_Some, none-some}
use Rattle.toml.specs.Data.{Data, integer, string, boolean, array, table, Items, Members, no_members, member, get_member, as_integer, as_str, as_bool, as_array, as_table}
use Rattle.platform_document.specs.declared.path.TablePlace.{TablePlace}
use Rattle.platform_document.specs.declared.path.Key.{Key}
use Rattle.platform_document.specs.declared.path.Path.{Path}
use Rattle.platform_document.specs.declared.fault.WalkFault.TheVariants.{Missing, WrongType, NoTable, Word, Range, Unknown}
use Rattle.platform_document.specs.Path.{key_text}
use Rattle.platform_document.specs.Reading.{Reading, read_then, found_at, required, integer_of, text_of, table_of, entry_of, data_list, counted, list_of, number_within, number_value, word_of, number_at, text_at, word_at, list_at, is_known, unknown_in, unless_unknown, and_no_other}
use Rattle.platform_laws.specs.Values.{SaysNumber, SaysText, HasOnly}

abbrev ok_value : {A E : Type 0} → A → Result A E → A
ok_value d (Ok x) = x
ok_value d (Err e) = d

pub same_ok : {A E : Type 0} (x y : A) → ◌≡◌ {A = Result A E} (Ok x) (Ok y) → x ≡ y
same_ok x y e = ap (ok_value x) e

abbrev is_read : {A E : Type 0} → Result A E → Bool
is_read (Ok x) = true
is_read (Err e) = false

pub err_ok : {A E C : Type 0} (e : E) (x : A) → ◌≡◌ {A = Result A E} (Err e) (Ok x) → C
err_ok e x is = absurd (not_read (ap is_read is)) where
  not_read : false ≡ true → ⊥
  not_read f = cc

-- a chain that succeeds: its first step's value, and its second step at that value
pub split : {A B : Type 0} (r : Reading A) (next : A → Reading B) (b : B) → read_then r next ≡ Ok b → (a : A) × (r ≡ Ok a) × (next a ≡ Ok b)
split (Ok a) next b is = (a, refl, is)
split (Err f) next b is = err_ok f b is

pub joined : {A B : Type 0} (r : Reading A) (next : A → Reading B) (a : A) (b : B) → r ≡ Ok a → next a ≡ Ok b → read_then r next ≡ Ok b
joined r next a b is more = ap (λ x. read_then x next) is ∙ more

pub some_of : {A E : Type 0} (o : Option A) (e : E) (x : A) → ◌≡◌ {A = Result A E} (ok_or o e) (Ok x) → o ≡ Some x
some_of None e x is = err_ok e x is
some_of (Some y) e x is = ap Some (same_ok y x is)

pub of_some : {A E : Type 0} (o : Option A) (e : E) (x : A) → o ≡ Some x → ◌≡◌ {A = Result A E} (ok_or o e) (Ok x)
of_some o e x is = ap (λ y. ok_or y e) is

pub if_ok : {A E : Type 0} (b : Bool) (x y : A) (e : E) → ◌≡◌ {A = Result A E} (if b then Ok x else Err e) (Ok y) → (b ≡ true) × (x ≡ y)
if_ok true x y e is = (refl, same_ok x y is)
if_ok false x y e is = err_ok e y is

pub ok_if : {A E : Type 0} (b : Bool) (x : A) (e : E) → b ≡ true → ◌≡◌ {A = Result A E} (if b then Ok x else Err e) (Ok x)
ok_if b x e is = ap (λ c. if c then Ok x else Err e) is

-- values by their kind
pub integer_is : (v : Data) (z : ℤ) → as_integer v ≡ Some z → v ≡ integer z
integer_is (integer y) z e = ap integer (same_Some y z e)
integer_is _ z e = absurd (none-some z e)

pub string_is : (v : Data) (s : List ℕ) → as_str v ≡ Some s → v ≡ string s
string_is (string y) s e = ap string (same_Some y s e)
string_is _ s e = absurd (none-some s e)

pub boolean_is : (v : Data) (b : Bool) → as_bool v ≡ Some b → v ≡ boolean b
boolean_is (boolean y) b e = ap boolean (same_Some y b e)
boolean_is _ b e = absurd (none-some b e)

pub array_is : (v : Data) (items : Items) → as_array v ≡ Some items → v ≡ array items
array_is (array y) items e = ap array (same_Some y items e)
array_is _ items e = absurd (none-some items e)

pub table_is : (v : Data) (t : Members) → as_table v ≡ Some t → v ≡ table t
table_is (table y) t e = ap table (same_Some y t e)
table_is _ t e = absurd (none-some t e)

-- numbers
pub within_said : (path : Path) (first last : ℕ) (z : ℤ) (n : ℕ) → number_within path first last z ≡ Ok n → (z ≡ pos n) × (first ≤ n) × (n ≤ last)
within_said path first last (pos m) n is =
    let (tests, same) = if_ok (nat_le first m && nat_le m last) m n (Range path (pos m)) is in
    let (low, high) = and_parts (nat_le first m) (nat_le m last) tests in
    (ap pos same, subst (λ k. first ≤ k) same (leb-true first m low), subst (λ k. k ≤ last) same (leb-true m last high))
within_said path first last (negsuc m) n is = err_ok (Range path (negsuc m)) n is

pub within_read : (path : Path) (first last n : ℕ) → first ≤ n → n ≤ last → number_within path first last (pos n) ≡ Ok n
within_read path first last n low high =
    ok_if (nat_le first n && nat_le n last) n (Range path (pos n)) (and_from (nat_le first n) (nat_le n last) (le-leb first n low) (le-leb n last high))

pub value_said : (path : Path) (first last : ℕ) (v : Data) (n : ℕ) → number_value path first last v ≡ Ok n → (v ≡ integer (pos n)) × (first ≤ n) × (n ≤ last)
value_said path first last v n is =
    let (z, whole, rest) = split (integer_of path v) (number_within path first last) n is in
    let (same, low, high) = within_said path first last z n rest in
    (integer_is v z (some_of (as_integer v) (WrongType path) z whole) ∙ ap integer same, low, high)

pub value_read : (path : Path) (first last : ℕ) (v : Data) (n : ℕ) → v ≡ integer (pos n) → first ≤ n → n ≤ last → number_value path first last v ≡ Ok n
value_read path first last v n is low high = ap (λ x. number_value path first last x) is ∙ within_read path first last n low high

pub required_said : (path : Path) (t : Members) (v : Data) → required path t ≡ Ok v → get_member (key_text path.key) t ≡ Some v
required_said path t v is = some_of (found_at path t) (Missing path) v is

pub required_read : (path : Path) (t : Members) (v : Data) → get_member (key_text path.key) t ≡ Some v → required path t ≡ Ok v
required_read path t v is = of_some (found_at path t) (Missing path) v is

pub number_said : (path : Path) (first last : ℕ) (t : Members) (n : ℕ) → number_at path first last t ≡ Ok n → SaysNumber t (key_text path.key) n × (first ≤ n) × (n ≤ last)
number_said path first last t n is =
    let (v, there, rest) = split (required path t) (number_value path first last) n is in
    let (same, low, high) = value_said path first last v n rest in
    (required_said path t v there ∙ ap Some same, low, high)

pub number_read : (path : Path) (first last : ℕ) (t : Members) (n : ℕ) → SaysNumber t (key_text path.key) n → first ≤ n → n ≤ last → number_at path first last t ≡ Ok n
number_read path first last t n says low high =
    joined (required path t) (number_value path first last) (integer (pos n)) n (required_read path t (integer (pos n)) says) (value_read path first last (integer (pos n)) n refl low high)

-- texts and words
pub text_value_said : (path : Path) (v : Data) (text : List ℕ) → text_of path v ≡ Ok text → v ≡ string text
text_value_said path v text is = string_is v text (some_of (as_str v) (WrongType path) text is)

pub text_said : (path : Path) (t : Members) (text : List ℕ) → text_at path t ≡ Ok text → SaysText t (key_text path.key) text
text_said path t text is =
    let (v, there, rest) = split (required path t) (text_of path) text is in
    required_said path t v there ∙ ap Some (text_value_said path v text rest)

pub text_read : (path : Path) (t : Members) (text : List ℕ) → SaysText t (key_text path.key) text → text_at path t ≡ Ok text
text_read path t text says = joined (required path t) (text_of path) (string text) text (required_read path t (string text) says) refl

pub word_value_said : {A : Type 0} (path : Path) (find : List ℕ → Option A) (v : Data) (x : A) → word_of path find v ≡ Ok x → (text : List ℕ) × (v ≡ string text) × (find text ≡ Some x)
word_value_said path find v x is =
    let (text, there, rest) = split (text_of path v) (λ s. ok_or (find s) (Word path)) x is in
    (text, text_value_said path v text there, some_of (find text) (Word path) x rest)

pub word_value_read : {A : Type 0} (path : Path) (find : List ℕ → Option A) (v : Data) (x : A) (text : List ℕ) → v ≡ string text → find text ≡ Some x → word_of path find v ≡ Ok x
word_value_read path find v x text is finds = ap (λ y. word_of path find y) is ∙ of_some (find text) (Word path) x finds

pub word_said : {A : Type 0} (path : Path) (find : List ℕ → Option A) (t : Members) (x : A) → word_at path find t ≡ Ok x → (text : List ℕ) × SaysText t (key_text path.key) text × (find text ≡ Some x)
word_said path find t x is =
    let (v, there, rest) = split (required path t) (word_of path find) x is in
    let (text, same, finds) = word_value_said path find v x rest in
    (text, required_said path t v there ∙ ap Some same, finds)

pub word_read : {A : Type 0} (path : Path) (find : List ℕ → Option A) (t : Members) (x : A) (text : List ℕ) → SaysText t (key_text path.key) text → find text ≡ Some x → word_at path find t ≡ Ok x
word_read path find t x text says finds =
    joined (required path t) (word_of path find) (string text) x (required_read path t (string text) says) (word_value_read path find (string text) x text refl finds)

-- tables
pub entry_said : (place : TablePlace) (v : Data) (t : Members) → entry_of place v ≡ Ok t → v ≡ table t
entry_said place v t is = table_is v t (some_of (as_table v) (NoTable place) t is)

pub entry_read : (place : TablePlace) (v : Data) (t : Members) → v ≡ table t → entry_of place v ≡ Ok t
entry_read place v t is = ap (λ x. entry_of place x) is

pub table_said : (path : Path) (v : Data) (t : Members) → table_of path v ≡ Ok t → v ≡ table t
table_said path v t is = table_is v t (some_of (as_table v) (WrongType path) t is)

pub table_read : (path : Path) (v : Data) (t : Members) → v ≡ table t → table_of path v ≡ Ok t
table_read path v t is = ap (λ x. table_of path x) is

-- lists
pub counted_said : (path : Path) (first last : ℕ) (vs ws : List Data) → counted path first last vs ≡ Ok ws → (vs ≡ ws) × (first ≤ length vs) × (length vs ≤ last)
counted_said path first last vs ws is =
    let (tests, same) = if_ok (nat_le first (length vs) && nat_le (length vs) last) vs ws (Range path (pos (length vs))) is in
    let (low, high) = and_parts (nat_le first (length vs)) (nat_le (length vs) last) tests in
    (same, leb-true first (length vs) low, leb-true (length vs) last high)

pub counted_read : (path : Path) (first last : ℕ) (vs : List Data) → first ≤ length vs → length vs ≤ last → counted path first last vs ≡ Ok vs
counted_read path first last vs low high =
    ok_if (nat_le first (length vs) && nat_le (length vs) last) vs (Range path (pos (length vs)))
    (and_from (nat_le first (length vs)) (nat_le (length vs) last) (le-leb first (length vs) low) (le-leb (length vs) last high))

mapped : (o : Option Items) (vs : List Data) → option_map data_list o ≡ Some vs → (items : Items) × (o ≡ Some items) × (data_list items ≡ vs)
mapped None vs is = absurd (none-some vs is)
mapped (Some items) vs is = (items, refl, same_Some (data_list items) vs is)

pub list_value_said : (path : Path) (first last : ℕ) (v : Data) (vs : List Data) → list_of path first last v ≡ Ok vs →
    (items : Items) × (v ≡ array items) × (data_list items ≡ vs) × (first ≤ length (data_list items)) × (length (data_list items) ≤ last)
list_value_said path first last v vs is =
    let (ws, kind, rest) = split (ok_or (option_map data_list (as_array v)) (WrongType path)) (counted path first last) vs is in
    let (items, there, same) = mapped (as_array v) ws (some_of (option_map data_list (as_array v)) (WrongType path) ws kind) in
    let (whole, low, high) = counted_said path first last ws vs rest in
    (items, array_is v items there, same ∙ whole, subst (λ (xs : List Data). first ≤ length xs) (sym same) low, subst (λ (xs : List Data). length xs ≤ last) (sym same) high)

pub list_value_read : (path : Path) (first last : ℕ) (v : Data) (items : Items) → v ≡ array items → first ≤ length (data_list items) → length (data_list items) ≤ last →
    list_of path first last v ≡ Ok (data_list items)
list_value_read path first last v items is low high = ap (λ x. list_of path first last x) is ∙ counted_read path first last (data_list items) low high

pub list_said : (path : Path) (first last : ℕ) (t : Members) (vs : List Data) → list_at path first last t ≡ Ok vs →
    (v : Data) × (get_member (key_text path.key) t ≡ Some v) × (list_of path first last v ≡ Ok vs)
list_said path first last t vs is =
    let (v, there, rest) = split (required path t) (list_of path first last) vs is in
    (v, required_said path t v there, rest)

pub list_read : (path : Path) (first last : ℕ) (t : Members) (vs : List Data) (v : Data) → get_member (key_text path.key) t ≡ Some v → list_of path first last v ≡ Ok vs → list_at path first last t ≡ Ok vs
list_read path first last t vs v says is = joined (required path t) (list_of path first last) v vs (required_read path t v says) is

-- no other names
if_none : (b : Bool) (o : Option (List ℕ)) (x : List ℕ) → (if b then o else Some x) ≡ None → (b ≡ true) × (o ≡ None)
if_none true o x is = (refl, is)
if_none false o x is = absurd (none-some x (sym is))

pub only_said : (keys : List Key) (names : List (List ℕ)) → ((name : List ℕ) → is_known keys name ≡ list_any (λ known. bytes_eq known name) names) → (t : Members) → unknown_in keys t ≡ None → HasOnly names t
only_said keys names same no_members none = tt
only_said keys names same (member name v more) none =
    let (known, rest) = if_none (is_known keys name) (unknown_in keys more) name none in
    (sym (same name) ∙ known, only_said keys names same more rest)

pub only_read : (keys : List Key) (names : List (List ℕ)) → ((name : List ℕ) → is_known keys name ≡ list_any (λ known. bytes_eq known name) names) → (t : Members) → HasOnly names t → unknown_in keys t ≡ None
only_read keys names same no_members only = refl
only_read keys names same (member name v more) only =
    ap (λ b. if b then unknown_in keys more else Some name) (same name ∙ only.0) ∙ only_read keys names same more only.1

unless_said : {A : Type 0} (place : TablePlace) (x y : A) (o : Option (List ℕ)) → unless_unknown place x o ≡ Ok y → (o ≡ None) × (x ≡ y)
unless_said place x y None is = (refl, same_ok x y is)
unless_said place x y (Some name) is = err_ok (Unknown place name) y is

pub others_said : {A : Type 0} (place : TablePlace) (keys : List Key) (names : List (List ℕ)) → ((name : List ℕ) → is_known keys name ≡ list_any (λ known. bytes_eq known name) names) →
    (t : Members) (x y : A) → and_no_other place keys t x ≡ Ok y → (x ≡ y) × HasOnly names t
others_said place keys names same t x y is =
    let (none, whole) = unless_said place x y (unknown_in keys t) is in
    (whole, only_said keys names same t none)

pub others_read : {A : Type 0} (place : TablePlace) (keys : List Key) (names : List (List ℕ)) → ((name : List ℕ) → is_known keys name ≡ list_any (λ known. bytes_eq known name) names) →
    (t : Members) (x : A) → HasOnly names t → and_no_other place keys t x ≡ Ok x
others_read place keys names same t x only = ap (unless_unknown place x) (only_read keys names same t only)
