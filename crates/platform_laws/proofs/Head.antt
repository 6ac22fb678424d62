-- The keys of the top table.
use Rattle.std.proofs.Common.{◌≡◌, ℕ, zero, suc, pos, ◌+◌, ◌-◌, ◌<◌, ◌≤◌, Bool, true, false, not, ◌||◌, ◌==◌, List, [], ◌∷◌, ◌++◌, length, Option, Some, None, Ok, Err, refl, ap, sym, subst, ◌∙◌, codes, lt-ltb, if◌then◌else◌, arith}
use Rattle.std.specs.Prelude.{MatchOption, Result}
use Rattle.std.specs.List.{list_any, list_all, range_with_len}
use Rattle.std.specs.Str.{bytes_eq}
use Rattle.std.proofs.lemmas.Bool.{and_from, ltb-true, ne_eqb}
use Rattle.std.proofs.lemmas.List.FromFn.{length-range_with_len}
use Rattle.toml.specs.Data.{Data, integer, Items, no_items, item, Members}
use Rattle.smm_base.specs.declared.kinds.MapKind.{MapKind}
use Rattle.smm_base.specs.declared.kinds.Policy.{Policy}
use Rattle.smm_base.specs.declared.kinds.Policy.TheVariants.{Elected, Fixed}
use Rattle.cpu_table.specs.Distinct.{are_distinct}
use Rattle.cpu_table.specs.Ranges.{policy_fits}
use Rattle.cpu_table.specs.declared.setup.Mode.{Mode}
use Rattle.platform_document.specs.declared.path.Key.TheVariants as key
use Rattle.platform_document.specs.declared.fault.WalkFault.TheVariants.{Range}
use Rattle.platform_file.specs.declared.head.Head.{Head}
use Rattle.platform_file.specs.declared.head.Polls.{Polls}
use Rattle.platform_document.specs.declared.word.PolicyWord.{PolicyWord}
use Rattle.platform_document.specs.declared.word.PolicyWord.TheVariants as policy
use Rattle.platform_document.specs.Reading.{Reading, read_then, found_at, list_at, list_of, number_value, number_at, word_at, each, is_known, data_list}
use Rattle.platform_document.specs.Words.{map_of, policy_of, mode_of}
use Rattle.platform_document.specs.Reading.{greatest}
use Rattle.platform_file.specs.Head.{top, policy_by, policy_at, polls_in, polls_at, id_after, ids_by, ids_at, keys_by, keys_read}
use Rattle.platform_laws.specs.Words.{map_text, policy_text, mode_text}
use Rattle.platform_laws.specs.Values.{SaysNumber, SaysText, SaysList, SaysOr, IsListOf, EachSays}
use Rattle.platform_laws.specs.Says.{SaysFixed, names_by, top_names}
use Rattle.platform_laws.specs.Fits.{is_integer}
use Rattle.platform_laws.proofs.Readings.{split, joined, same_ok, err_ok, value_said, value_read, number_said, number_read, word_read, list_said, list_read, list_value_said, list_value_read}
use Rattle.platform_laws.proofs.Words.{map_said, map_read, policy_word_text, policy_word_said, mode_said, mode_read}
use Rattle.platform_laws.proofs.Parts.{word_is}
use Rattle.platform_laws.proofs.Growth as growth

if_err : {A E : Type 0} (b : Bool) (x y : A) (e : E) → ◌≡◌ {A = Result A E} (if b then Err e else Ok x) (Ok y) → (b ≡ false) × (x ≡ y)
if_err true x y e is = err_ok e y is
if_err false x y e is = (refl, same_ok x y is)

err_if : {A E : Type 0} (b : Bool) (x : A) (e : E) → b ≡ false → ◌≡◌ {A = Result A E} (if b then Err e else Ok x) (Ok x)
err_if b x e is = ap (λ c. if c then Err e else Ok x) is

-- the policy
by_said : (n : ℕ) (t : Members) (w : PolicyWord) (p : Policy) → 1 ≤ n → policy_by n t w ≡ Ok p → (policy_word_text w ≡ policy_text p) × SaysFixed t p × (policy_fits n p ≡ true)
by_said n t policy.Elected p some is = subst (λ x. (policy_word_text policy.Elected ≡ policy_text x) × SaysFixed t x × (policy_fits n x ≡ true)) (same_ok Elected p is) (refl, tt, refl)
by_said n t policy.Fixed p some is =
    let (b, there, rest) = split (number_at (top key.Fixed) 0 (n - 1) t) (λ x. Ok (Fixed x)) p is in
    let (says, low, high) = number_said (top key.Fixed) 0 (n - 1) t b there in
    subst (λ x. (policy_word_text policy.Fixed ≡ policy_text x) × SaysFixed t x × (policy_fits n x ≡ true)) (same_ok (Fixed b) p rest) (refl, says, lt-ltb b n (omega (arith, some, high)))

pub policy_said : (n : ℕ) (t : Members) (p : Policy) → 1 ≤ n → policy_at n t ≡ Ok p → SaysText t (codes "policy") (policy_text p) × SaysFixed t p × (policy_fits n p ≡ true)
policy_said n t p some is =
    let (w, there, rest) = split (word_at (top key.Policy) policy_of t) (policy_by n t) p is in
    let (written, fixed, fits) = by_said n t w p some rest in
    (word_is (top key.Policy) policy_of t w (policy_text p) (λ text e. policy_word_said text w e ∙ written) there, fixed, fits)

pub policy_read : (n : ℕ) (t : Members) (p : Policy) → SaysText t (codes "policy") (policy_text p) → SaysFixed t p → policy_fits n p ≡ true → policy_at n t ≡ Ok p
policy_read n t Elected says fixed fits =
    joined (word_at (top key.Policy) policy_of t) (policy_by n t) policy.Elected Elected (word_read (top key.Policy) policy_of t policy.Elected (codes "elected") says refl) refl
policy_read n t (Fixed b) says fixed fits =
    let below = ltb-true b n fits in
    let high : b ≤ n - 1 = omega (arith, below) in
    joined (word_at (top key.Policy) policy_of t) (policy_by n t) policy.Fixed (Fixed b) (word_read (top key.Policy) policy_of t policy.Fixed (codes "fixed") says refl)
    (joined (number_at (top key.Fixed) 0 (n - 1) t) (λ x. Ok (Fixed x)) b (Fixed b) (number_read (top key.Fixed) 0 (n - 1) t b fixed (omega arith) high) refl)

-- the looks
abbrev pub IsLooks : Data → ℕ → Type 0
IsLooks v n = v ≡ integer (pos n)

abbrev pub LooksFit : ℕ → ℕ → Type 0
LooksFit a b = (1 ≤ a) × (a ≤ 4096) × (1 ≤ b) × (b ≤ 4096)

looks_said : (items : Items) (p : Polls) → polls_in (data_list items) ≡ Ok p → EachSays IsLooks items (p.t1 ∷ p.t2 ∷ []) × LooksFit p.t1 p.t2
looks_said no_items p is = err_ok (Range (top key.Polls) (pos 0)) p is
looks_said (item a no_items) p is = err_ok (Range (top key.Polls) (pos 1)) p is
looks_said (item a (item b no_items)) p is =
    let (x, x_is, rest) = split (number_value (top key.Polls) 1 4096 a) (λ t1. read_then (number_value (top key.Polls) 1 4096 b) (λ t2. Ok (record { t1 = t1; t2 = t2 }))) p is in
    let (y, y_is, last) = split (number_value (top key.Polls) 1 4096 b) (λ t2. Ok (record { t1 = x; t2 = t2 })) p rest in
    let (a_says, a_low, a_high) = value_said (top key.Polls) 1 4096 a x x_is in
    let (b_says, b_low, b_high) = value_said (top key.Polls) 1 4096 b y y_is in
    let both : Polls = record { t1 = x; t2 = y } in
    subst (λ (q : Polls). EachSays IsLooks (item a (item b no_items)) (q.t1 ∷ q.t2 ∷ []) × LooksFit q.t1 q.t2) (same_ok both p last) ((a_says, (b_says, tt)), (a_low, a_high, b_low, b_high))
looks_said (item a (item b (item c more))) p is = err_ok (Range (top key.Polls) (pos (length (a ∷ b ∷ c ∷ data_list more)))) p is

pub polls_said : (t : Members) (p : Polls) → polls_at t ≡ Ok p → SaysList IsLooks t (codes "polls") (p.t1 ∷ p.t2 ∷ []) × LooksFit p.t1 p.t2
polls_said t p is =
    let (vs, there, rest) = split (list_at (top key.Polls) 2 2 t) polls_in p is in
    let (v, member, value) = list_said (top key.Polls) 2 2 t vs there in
    let (items, kind, same, low, high) = list_value_said (top key.Polls) 2 2 v vs value in
    let (says, fits) = looks_said items p (ap polls_in same ∙ rest) in
    ((v, member, (items, kind, says)), fits)

looks_read : (items : Items) (p : Polls) → EachSays IsLooks items (p.t1 ∷ p.t2 ∷ []) → LooksFit p.t1 p.t2 → (polls_in (data_list items) ≡ Ok p) × (length (data_list items) ≡ 2)
looks_read no_items p says fits = absurd says
looks_read (item a no_items) p says fits = absurd says.1
looks_read (item a (item b no_items)) p says (a_low, a_high, b_low, b_high) = (
  joined (number_value (top key.Polls) 1 4096 a) (λ t1. read_then (number_value (top key.Polls) 1 4096 b) (λ t2. Ok (record { t1 = t1; t2 = t2 }))) p.t1 p (value_read (top key.Polls) 1 4096 a p.t1 says.0 a_low a_high)
      (joined (number_value (top key.Polls) 1 4096 b) (λ t2. Ok (record { t1 = p.t1; t2 = t2 })) p.t2 p (value_read (top key.Polls) 1 4096 b p.t2 says.1.0 b_low b_high) refl),
  refl,
)
looks_read (item a (item b (item c more))) p says fits = absurd says.1.1

pub polls_read : (t : Members) (p : Polls) → SaysList IsLooks t (codes "polls") (p.t1 ∷ p.t2 ∷ []) → LooksFit p.t1 p.t2 → polls_at t ≡ Ok p
polls_read t p (v, member, listed) fits =
    let (items, kind, says) = listed in
    let (read, count) = looks_read items p says fits in
    let low : 2 ≤ length (data_list items) = omega (arith, count) in
    let high : length (data_list items) ≤ 2 = omega (arith, count) in
    joined (list_at (top key.Polls) 2 2 t) polls_in (data_list items) p (list_read (top key.Polls) 2 2 t (data_list items) v member (list_value_read (top key.Polls) 2 2 v items kind low high)) read

-- the ids
abbrev pub IsId : Data → ℕ → Type 0
IsId v id = v ≡ integer (pos id)

abbrev same_id : ℕ → ℕ → Bool
same_id a b = a == b

abbrev IdFits : List ℕ → ℕ → Type 0
IdFits done id = (is_integer id ≡ true) × (true ≡ true) × (list_any (λ x. x == id) done ≡ false)

abbrev pub IdsFit : ℕ → List ℕ → Type 0
IdsFit n ids = (length ids ≡ n) × (are_distinct (λ a b. a == b) ids ≡ true) × (list_all is_integer ids ≡ true)

pub id_said : (done : List ℕ) (v : Data) (id : ℕ) → id_after done v ≡ Ok id → IsId v id × IdFits done id
id_said done v id is =
    let (x, there, rest) = split (number_value (top key.Ids) 0 greatest v) (λ y. if list_any (λ z. z == y) done then Err (Range (top key.Ids) (pos y)) else Ok y) id is in
    let (says, low, high) = value_said (top key.Ids) 0 greatest v x there in
    let (fresh, same) = if_err (list_any (λ z. z == x) done) x id (Range (top key.Ids) (pos x)) rest in
    subst (λ y. IsId v y × IdFits done y) same (says, (lt-ltb x 9223372036854775808 (omega (arith, high)), refl, fresh))

id_read : (done : List ℕ) (v : Data) (id : ℕ) → IsId v id → IdFits done id → id_after done v ≡ Ok id
id_read done v id says (small, also, fresh) =
    let below = ltb-true id 9223372036854775808 small in
    joined (number_value (top key.Ids) 0 greatest v) (λ y. if list_any (λ z. z == y) done then Err (Range (top key.Ids) (pos y)) else Ok y) id id
    (value_read (top key.Ids) 0 greatest v id says (omega arith) (omega (arith, below))) (err_if (list_any (λ z. z == id) done) id (Range (top key.Ids) (pos id)) fresh)

none_below : (k a n : ℕ) → k < a → list_any (λ x. k == x) (range_with_len a n) ≡ false
none_below k a zero less = refl
none_below k a (suc n) less =
    let apart : (k == a) ≡ false = ne_eqb k a (λ same. omega (arith, less, same)) in
    ap (λ b. b || list_any (λ x. k == x) (range_with_len (a + 1) n)) apart ∙ none_below k (a + 1) n (omega (arith, less))

range_distinct : (a n : ℕ) → are_distinct (λ a b. a == b) (range_with_len a n) ≡ true
range_distinct a zero = refl
range_distinct a (suc n) =
    and_from (not (list_any (λ x. a == x) (range_with_len (a + 1) n))) (are_distinct (λ a b. a == b) (range_with_len (a + 1) n))
    (ap not (none_below a (a + 1) n (omega arith))) (range_distinct (a + 1) n)

range_small : (a n : ℕ) → a + n ≤ 9223372036854775807 → list_all is_integer (range_with_len a n) ≡ true
range_small a zero few = refl
range_small a (suc n) few =
    and_from (is_integer a) (list_all is_integer (range_with_len (a + 1) n)) (lt-ltb a 9223372036854775808 (omega (arith, few))) (range_small (a + 1) n (omega (arith, few)))

pub ids_said : (n : ℕ) (o : Option Data) (ids : List ℕ) → n ≤ 64 → ids_by n o ≡ Ok ids → MatchOption o (ids ≡ range_with_len 0 n) (IsListOf IsId ids) × IdsFit n ids
ids_said n None ids few is =
    subst (λ (xs : List ℕ). (xs ≡ range_with_len 0 n) × IdsFit n xs) (same_ok (range_with_len 0 n) ids is)
    (refl, (length-range_with_len 0 n, range_distinct 0 n, range_small 0 n (omega (arith, few))))
ids_said n (Some v) ids few is =
    let (entries, there, rest) = split (list_of (top key.Ids) n n v) (each id_after []) ids is in
    let found = growth.value_said (top key.Ids) n n v id_after IsId IdFits id_said entries ids there rest in
    let low = found.low in
    let high = found.high in
    (found.says, (omega (arith, low, high), growth.each_distinct IdFits same_id (λ d x f. f.2) ids [] refl found.fits, growth.each_all IdFits is_integer (λ d x f. f.0) ids [] found.fits))

pub ids_read : (n : ℕ) (o : Option Data) (ids : List ℕ) → MatchOption o (ids ≡ range_with_len 0 n) (IsListOf IsId ids) → IdsFit n ids → ids_by n o ≡ Ok ids
ids_read n None ids says fits = ap Ok (sym says)
ids_read n (Some v) ids says (count, distinct, small) =
    let low : n ≤ length ids = omega (arith, count) in
    let high : length ids ≤ n = omega (arith, count) in
    let (entries, there, rest) = growth.value_read (top key.Ids) n n v id_after IsId IdFits id_read ids says low high (growth.each_apart is_integer (λ x. true) same_id ids [] small (growth.all_true ids) distinct) in
    joined (list_of (top key.Ids) n n v) (each id_after []) entries ids there rest

-- what the keys before the lists say
pub record KeysSay (t : Members) (h : Head) : Type 0 where
  pub version_is : SaysNumber t (codes "version") 1
  pub processors_is : SaysNumber t (codes "processors") h.processors
  pub map_is : SaysText t (codes "map") (map_text h.kind)
  pub policy_is : SaysText t (codes "policy") (policy_text h.policy)
  pub fixed_is : SaysFixed t h.policy
  pub mode_is : SaysText t (codes "mode") (mode_text h.mode)
  pub polls_are : SaysList IsLooks t (codes "polls") (h.polls.t1 ∷ h.polls.t2 ∷ [])
  pub visits_is : SaysNumber t (codes "visits") h.visits
  pub ops_is : SaysNumber t (codes "ops") h.ops
  pub ids_are : SaysOr (h.ids ≡ range_with_len 0 h.processors) (IsListOf IsId h.ids) t (codes "ids")

pub record KeysFit (h : Head) : Type 0 where
  pub processors_fit : (1 ≤ h.processors) × (h.processors ≤ 64)
  pub policy_fit : policy_fits h.processors h.policy ≡ true
  pub polls_fit : LooksFit h.polls.t1 h.polls.t2
  pub visits_fit : (1 ≤ h.visits) × (h.visits ≤ 256)
  pub ops_fit : (1 ≤ h.ops) × (h.ops ≤ 4096)
  pub ids_fit : IdsFit h.processors h.ids

abbrev head_of : ℕ → MapKind → Policy → Mode → Polls → ℕ → ℕ → List ℕ → Head
head_of processors kind policy mode polls visits ops ids = record { processors = processors; kind = kind; policy = policy; mode = mode; polls = polls; visits = visits; ops = ops; ids = ids }

-- the rest of a proof goes on with the first step's value as a variable, so that its terms stay small
split_by : {A B C : Type 0} (r : Reading A) (next : A → Reading B) (b : B) → read_then r next ≡ Ok b → ((a : A) → r ≡ Ok a → next a ≡ Ok b → C) → C
split_by (Ok a) next b is later = later a refl is
split_by (Err f) next b is later = err_ok f b is

keys_from : (t : Members) (version : ℕ) (n : ℕ) (kind : MapKind) (chosen : Policy) (mode : Mode) (polls : Polls) (visits : ℕ) (ops : ℕ) (ids : List ℕ) →
    number_at (top key.Version) 1 1 t ≡ Ok version → number_at (top key.Processors) 1 64 t ≡ Ok n → word_at (top key.Map) map_of t ≡ Ok kind → policy_at n t ≡ Ok chosen → word_at (top key.Mode) mode_of t ≡ Ok mode → polls_at t ≡ Ok polls → number_at (top key.Visits) 1 256 t ≡ Ok visits → number_at (top key.Ops) 1 4096 t ≡ Ok ops → ids_at n t ≡ Ok ids → KeysSay t (head_of n kind chosen mode polls visits ops ids) × KeysFit (head_of n kind chosen mode polls visits ops ids)
keys_from t version n kind chosen mode polls visits ops ids version_is n_is kind_is chosen_is mode_is polls_is visits_is ops_is ids_is =
    let (version_says, version_low, version_high) = number_said (top key.Version) 1 1 t version version_is in
    let (n_says, n_low, n_high) = number_said (top key.Processors) 1 64 t n n_is in
    let map_says = word_is (top key.Map) map_of t kind (map_text kind) (λ text e. map_said text kind e) kind_is in
    let (policy_says, fixed_says, policy_there) = policy_said n t chosen n_low chosen_is in
    let mode_says = word_is (top key.Mode) mode_of t mode (mode_text mode) (λ text e. mode_said text mode e) mode_is in
    let (polls_say, polls_there) = polls_said t polls polls_is in
    let (visits_say, visits_low, visits_high) = number_said (top key.Visits) 1 256 t visits visits_is in
    let (ops_say, ops_low, ops_high) = number_said (top key.Ops) 1 4096 t ops ops_is in
    let (ids_say, ids_there) = ids_said n (found_at (top key.Ids) t) ids n_high ids_is in
    let first : version ≡ 1 = omega (arith, version_low, version_high) in (
      record {
        version_is = subst (λ k. SaysNumber t (codes "version") k) first version_says;
        processors_is = n_says;
        map_is = map_says;
        policy_is = policy_says;
        fixed_is = fixed_says;
        mode_is = mode_says;
        polls_are = polls_say;
        visits_is = visits_say;
        ops_is = ops_say;
        ids_are = ids_say;
      },
      record {
        processors_fit = (n_low, n_high);
        policy_fit = policy_there;
        polls_fit = polls_there;
        visits_fit = (visits_low, visits_high);
        ops_fit = (ops_low, ops_high);
        ids_fit = ids_there;
      },
    )

pub keys_said : (t : Members) (h : Head) → keys_read t ≡ Ok h → KeysSay t h × KeysFit h
keys_said t h is =
    split_by (number_at (top key.Version) 1 1 t) (λ version. read_then (number_at (top key.Processors) 1 64 t) (λ n. read_then (word_at (top key.Map) map_of t) (λ kind. read_then (policy_at n t) (λ chosen. read_then (word_at (top key.Mode) mode_of t) (λ mode. read_then (polls_at t) (λ polls. read_then (number_at (top key.Visits) 1 256 t) (λ visits. read_then (number_at (top key.Ops) 1 4096 t) (λ ops. read_then (ids_at n t) (λ ids. Ok (head_of n kind chosen mode polls visits ops ids)))))))))) h is (λ version version_is rest0.
    split_by (number_at (top key.Processors) 1 64 t) (λ n. read_then (word_at (top key.Map) map_of t) (λ kind. read_then (policy_at n t) (λ chosen. read_then (word_at (top key.Mode) mode_of t) (λ mode. read_then (polls_at t) (λ polls. read_then (number_at (top key.Visits) 1 256 t) (λ visits. read_then (number_at (top key.Ops) 1 4096 t) (λ ops. read_then (ids_at n t) (λ ids. Ok (head_of n kind chosen mode polls visits ops ids))))))))) h rest0 (λ n n_is rest1.
    split_by (word_at (top key.Map) map_of t) (λ kind. read_then (policy_at n t) (λ chosen. read_then (word_at (top key.Mode) mode_of t) (λ mode. read_then (polls_at t) (λ polls. read_then (number_at (top key.Visits) 1 256 t) (λ visits. read_then (number_at (top key.Ops) 1 4096 t) (λ ops. read_then (ids_at n t) (λ ids. Ok (head_of n kind chosen mode polls visits ops ids)))))))) h rest1 (λ kind kind_is rest2.
    split_by (policy_at n t) (λ chosen. read_then (word_at (top key.Mode) mode_of t) (λ mode. read_then (polls_at t) (λ polls. read_then (number_at (top key.Visits) 1 256 t) (λ visits. read_then (number_at (top key.Ops) 1 4096 t) (λ ops. read_then (ids_at n t) (λ ids. Ok (head_of n kind chosen mode polls visits ops ids))))))) h rest2 (λ chosen chosen_is rest3.
    split_by (word_at (top key.Mode) mode_of t) (λ mode. read_then (polls_at t) (λ polls. read_then (number_at (top key.Visits) 1 256 t) (λ visits. read_then (number_at (top key.Ops) 1 4096 t) (λ ops. read_then (ids_at n t) (λ ids. Ok (head_of n kind chosen mode polls visits ops ids)))))) h rest3 (λ mode mode_is rest4.
    split_by (polls_at t) (λ polls. read_then (number_at (top key.Visits) 1 256 t) (λ visits. read_then (number_at (top key.Ops) 1 4096 t) (λ ops. read_then (ids_at n t) (λ ids. Ok (head_of n kind chosen mode polls visits ops ids))))) h rest4 (λ polls polls_is rest5.
    split_by (number_at (top key.Visits) 1 256 t) (λ visits. read_then (number_at (top key.Ops) 1 4096 t) (λ ops. read_then (ids_at n t) (λ ids. Ok (head_of n kind chosen mode polls visits ops ids)))) h rest5 (λ visits visits_is rest6.
    split_by (number_at (top key.Ops) 1 4096 t) (λ ops. read_then (ids_at n t) (λ ids. Ok (head_of n kind chosen mode polls visits ops ids))) h rest6 (λ ops ops_is rest7.
    split_by (ids_at n t) (λ ids. Ok (head_of n kind chosen mode polls visits ops ids)) h rest7 (λ ids ids_is rest8.
    subst (λ x. KeysSay t x × KeysFit x) (same_ok (head_of n kind chosen mode polls visits ops ids) h rest8) (keys_from t version n kind chosen mode polls visits ops ids version_is n_is kind_is chosen_is mode_is polls_is visits_is ops_is ids_is))))))))))

pub keys_are_read : (t : Members) (h : Head) → KeysSay t h → KeysFit h → keys_read t ≡ Ok h
keys_are_read t h says fits =
    joined (number_at (top key.Version) 1 1 t) (λ version. read_then (number_at (top key.Processors) 1 64 t) (λ n. read_then (word_at (top key.Map) map_of t) (λ kind. read_then (policy_at n t) (λ chosen. read_then (word_at (top key.Mode) mode_of t) (λ mode. read_then (polls_at t) (λ polls. read_then (number_at (top key.Visits) 1 256 t) (λ visits. read_then (number_at (top key.Ops) 1 4096 t) (λ ops. read_then (ids_at n t) (λ ids. Ok (head_of n kind chosen mode polls visits ops ids)))))))))) (1) (h) (number_read (top key.Version) 1 1 t 1 says.version_is (omega arith) (omega arith))
    (joined (number_at (top key.Processors) 1 64 t) (λ n. read_then (word_at (top key.Map) map_of t) (λ kind. read_then (policy_at n t) (λ chosen. read_then (word_at (top key.Mode) mode_of t) (λ mode. read_then (polls_at t) (λ polls. read_then (number_at (top key.Visits) 1 256 t) (λ visits. read_then (number_at (top key.Ops) 1 4096 t) (λ ops. read_then (ids_at n t) (λ ids. Ok (head_of n kind chosen mode polls visits ops ids))))))))) (h.processors) (h) (number_read (top key.Processors) 1 64 t h.processors says.processors_is fits.processors_fit.0 fits.processors_fit.1)
    (joined (word_at (top key.Map) map_of t) (λ kind. read_then (policy_at h.processors t) (λ chosen. read_then (word_at (top key.Mode) mode_of t) (λ mode. read_then (polls_at t) (λ polls. read_then (number_at (top key.Visits) 1 256 t) (λ visits. read_then (number_at (top key.Ops) 1 4096 t) (λ ops. read_then (ids_at h.processors t) (λ ids. Ok (head_of h.processors kind chosen mode polls visits ops ids)))))))) (h.kind) (h) (word_read (top key.Map) map_of t h.kind (map_text h.kind) says.map_is (map_read h.kind))
    (joined (policy_at h.processors t) (λ chosen. read_then (word_at (top key.Mode) mode_of t) (λ mode. read_then (polls_at t) (λ polls. read_then (number_at (top key.Visits) 1 256 t) (λ visits. read_then (number_at (top key.Ops) 1 4096 t) (λ ops. read_then (ids_at h.processors t) (λ ids. Ok (head_of h.processors h.kind chosen mode polls visits ops ids))))))) (h.policy) (h) (policy_read h.processors t h.policy says.policy_is says.fixed_is fits.policy_fit)
    (joined (word_at (top key.Mode) mode_of t) (λ mode. read_then (polls_at t) (λ polls. read_then (number_at (top key.Visits) 1 256 t) (λ visits. read_then (number_at (top key.Ops) 1 4096 t) (λ ops. read_then (ids_at h.processors t) (λ ids. Ok (head_of h.processors h.kind h.policy mode polls visits ops ids)))))) (h.mode) (h) (word_read (top key.Mode) mode_of t h.mode (mode_text h.mode) says.mode_is (mode_read h.mode))
    (joined (polls_at t) (λ polls. read_then (number_at (top key.Visits) 1 256 t) (λ visits. read_then (number_at (top key.Ops) 1 4096 t) (λ ops. read_then (ids_at h.processors t) (λ ids. Ok (head_of h.processors h.kind h.policy h.mode polls visits ops ids))))) (h.polls) (h) (polls_read t h.polls says.polls_are fits.polls_fit)
    (joined (number_at (top key.Visits) 1 256 t) (λ visits. read_then (number_at (top key.Ops) 1 4096 t) (λ ops. read_then (ids_at h.processors t) (λ ids. Ok (head_of h.processors h.kind h.policy h.mode h.polls visits ops ids)))) (h.visits) (h) (number_read (top key.Visits) 1 256 t h.visits says.visits_is fits.visits_fit.0 fits.visits_fit.1)
    (joined (number_at (top key.Ops) 1 4096 t) (λ ops. read_then (ids_at h.processors t) (λ ids. Ok (head_of h.processors h.kind h.policy h.mode h.polls h.visits ops ids))) (h.ops) (h) (number_read (top key.Ops) 1 4096 t h.ops says.ops_is fits.ops_fit.0 fits.ops_fit.1)
    (joined (ids_at h.processors t) (λ ids. Ok (head_of h.processors h.kind h.policy h.mode h.polls h.visits h.ops ids)) (h.ids) (h) (ids_read h.processors (found_at (top key.Ids) t) h.ids says.ids_are fits.ids_fit) (refl)))))))))

-- the names of the top table
pub names_known : (p : Policy) (name : List ℕ) → is_known (keys_by p) name ≡ list_any (λ known. bytes_eq known name) (names_by p ++ top_names)
names_known Elected name = refl
names_known (Fixed b) name = refl
