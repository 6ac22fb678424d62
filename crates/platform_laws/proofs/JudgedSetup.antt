-- A whole document with what may be wrong with it.
use Rattle.std.proofs.Common.{◌≡◌, ◌⊎◌, inl, inr, ℕ, pos, ◌-◌, ◌<◌, ◌≤◌, true, false, ◌==◌, nat_le, List, [], ◌∷◌, ◌++◌, length, Option, Some, None, Ok, Err, codes, refl, ap, sym, subst, ◌∙◌, if◌then◌else◌, arith}
use Rattle.std.specs.Prelude.{MatchOption}
use Rattle.std.specs.List.{list_any, range_with_len}
use Rattle.std.proofs.lemmas.Bool.{eqb-true, eq-eqb, leb-true, false≢true}
use Rattle.std.proofs.lemmas.Bool.Decides.{nat_tests}
use Rattle.std.proofs.lemmas.Option.{same_Some, none-some}
use Rattle.toml.specs.Data.{Data, integer, array, Items, no_items, item, Members, no_members, member, get_member, as_array, as_table}
use Rattle.smm_base.specs.declared.kinds.Policy.{Policy}
use Rattle.smm_base.specs.declared.kinds.Policy.TheVariants.{Elected, Fixed}
use Rattle.cpu_table.specs.Data.{SetupData}
use Rattle.cpu_table.specs.Layout.{layout_refusal}
use Rattle.cpu_table.specs.Ranges.{events_at_most}
use Rattle.cpu_table.specs.declared.layout.LayoutError.{LayoutError}
use Rattle.cpu_table.specs.declared.setup.Smram.{Smram as Area}
use Rattle.platform_document.specs.declared.path.TablePlace.{TablePlace}
use Rattle.platform_document.specs.declared.path.TablePlace.TheVariants as place
use Rattle.platform_document.specs.declared.path.Key.TheVariants as key
use Rattle.platform_document.specs.declared.fault.WalkFault.{WalkFault}
use Rattle.platform_document.specs.declared.fault.WalkFault.TheVariants.{Range, TooLarge, Layout}
use Rattle.platform_document.specs.declared.word.PolicyWord.{PolicyWord}
use Rattle.platform_document.specs.declared.word.PolicyWord.TheVariants as policy
use Rattle.platform_document.specs.Reading.{Reading, read_then, found_at, greatest, number_value, number_at, word_at, each}
use Rattle.platform_document.specs.Words.{map_of, policy_of, mode_of}
use Rattle.platform_file.specs.declared.head.Head.{Head}
use Rattle.platform_file.specs.Head.{policy_by, policy_at, polls_in, polls_at, id_after, ids_by, ids_at, smram_at, wave_entries, handler_entries, handler_entries, procedure_entries, cause_entries, keys_by, keys_read, lists_checked, head_at}
use Rattle.platform_file.specs.Area.{area_of, unless_refused, layout_judged}
use Rattle.platform_file.specs.Waves.{wave_after, waves_at}
use Rattle.platform_file.specs.Handlers.{handlers_in, procedure_after}
use Rattle.platform_file.specs.Causes.{cause_after, causes_at}
use Rattle.platform_file.specs.Walk.{most_events, within_limit, tables_at, setup_at}
use Rattle.platform_laws.specs.Words.{map_text, policy_text, mode_text}
use Rattle.platform_laws.specs.Values.{SaysNumber, SaysText, SaysList, EachSays, HasOnly, IsTableOf}
use Rattle.platform_laws.specs.Says.{Says, SaysArea, SaysOption, names_by, top_names}
use Rattle.platform_laws.specs.Fits.{Fits}
use Rattle.platform_laws.specs.ValueFaults.{KeyFault, NumberFault, WordFault, SomeFault, ListFault, NameFault, IsAmong}
use Rattle.platform_laws.specs.Faults.{at_top, IsPrinted, GivenBoth, PolicyFault, PollsFault, IdFault, IdsFault, HeadFault, TopNameFault, WavesFault, CausesFault, EventsFault, LayoutFault, RestFault, IsFault}
use Rattle.platform_laws.proofs.Readings.{split, err_ok, number_said, value_said}
use Rattle.platform_laws.proofs.Words.{map_said, map_read, policy_word_said, mode_said, mode_read}
use Rattle.platform_laws.proofs.Parts.{word_is}
use Rattle.platform_laws.proofs.Head.{KeysSay, KeysFit, IsLooks, id_said, keys_said, names_known}
use Rattle.platform_laws.proofs.Whole.{smram_said, lists_said, setup_said, setup_is_read}
use Rattle.platform_laws.proofs.Judging.{Judges, same_err, ok_err, neither, judge_ok, judge_then, judge_last, judge_test, judge_untest, judge_option, judge_number, judge_number_at, judge_word_at, judge_list, judge_list_at, Zips, judge_each, judge_names, judge_given, nat_in, number_once, text_once}
use Rattle.platform_laws.proofs.JudgedParts.{judge_printed}
use Rattle.platform_laws.proofs.JudgedTables.{among_any, any_among, judge_smram, judge_waves, judge_handlers, judge_procedures, judge_causes}

-- the policy
policy_none : (text : List ℕ) → policy_of text ≡ None → IsPrinted policy_text text → ⊥
policy_none text none (Elected, same) = none-some policy.Elected (sym none ∙ ap policy_of same)
policy_none text none (Fixed b, same) = none-some policy.Fixed (sym none ∙ ap policy_of same)

policy_some : (text : List ℕ) (w : PolicyWord) → policy_of text ≡ Some w → IsPrinted policy_text text
policy_some text policy.Elected is = (Elected, policy_word_said text policy.Elected is)
policy_some text policy.Fixed is = (Fixed 0, policy_word_said text policy.Fixed is)

elected_fixed : codes "elected" ≡ codes "fixed" → ⊥
elected_fixed same = cc

judge_policy : (n : ℕ) (t : Members) → Judges (policy_at n t) (PolicyFault n t)
judge_policy n t =
    judge_then (word_at (at_top key.Policy) policy_of t) (policy_by n t) (KeyFault (at_top key.Policy) (WordFault (at_top key.Policy) (IsPrinted policy_text)) t) Boot
    (judge_word_at (at_top key.Policy) policy_of (IsPrinted policy_text) policy_none policy_some t) by_word where
      Boot : WalkFault → Type 0
      Boot f = SaysText t (codes "policy") (codes "fixed") × KeyFault (at_top key.Fixed) (NumberFault (at_top key.Fixed) 0 (n - 1)) t f

      by_word : (w : PolicyWord) → word_at (at_top key.Policy) policy_of t ≡ Ok w → Judges (policy_by n t w) Boot
      by_word policy.Elected is =
          let says = word_is (at_top key.Policy) policy_of t policy.Elected (codes "elected") (λ text e. policy_word_said text policy.Elected e) is in
          record { stops = λ f there. ok_err Elected f there; reads = λ x there f fault. elected_fixed (text_once t (codes "policy") (codes "elected") (codes "fixed") says fault.0) }
      by_word policy.Fixed is =
          let says = word_is (at_top key.Policy) policy_of t policy.Fixed (codes "fixed") (λ text e. policy_word_said text policy.Fixed e) is in
          let judged = judge_last (number_at (at_top key.Fixed) 0 (n - 1) t) (λ b. Fixed b) (KeyFault (at_top key.Fixed) (NumberFault (at_top key.Fixed) 0 (n - 1)) t) (judge_number_at (at_top key.Fixed) 0 (n - 1) t) in
          record { stops = λ f there. (says, judged.stops f there); reads = λ x there f fault. judged.reads x there f fault.1 }

-- the looks
abbrev IsNoLooks : List Data → Data → WalkFault → Type 0
IsNoLooks before v f = NumberFault (at_top key.Polls) 1 4096 v f

judge_looks : (vs : List Data) → 2 ≤ length vs → length vs ≤ 2 → Judges (polls_in vs) (SomeFault IsNoLooks [] vs)
judge_looks [] low high = absurd (omega (arith, low))
judge_looks (a ∷ []) low high = absurd (omega (arith, low))
judge_looks (a ∷ b ∷ []) low high = judge_then _ _ _ _ (judge_number (at_top key.Polls) 1 4096 a) (λ x is. judge_then _ _ _ _ (judge_number (at_top key.Polls) 1 4096 b) (λ y also. judge_ok _))
judge_looks (a ∷ b ∷ c ∷ more) low high = absurd (omega (arith, high))

judge_polls : (t : Members) → Judges (polls_at t) (PollsFault t)
judge_polls t = judge_list_at (at_top key.Polls) 2 2 polls_in IsNoLooks t judge_looks

-- the ids
abbrev SaysId : Data → ℕ → Type 0
SaysId v id = v ≡ integer (pos id)

same_ids : (v : Data) (a b : ℕ) → SaysId v a → SaysId v b → a ≡ b
same_ids v a b one other = ap nat_in (sym one ∙ other)

judge_id : (before : List Data) (done : List ℕ) → Zips SaysId before done → (v : Data) → Judges (id_after done v) (IdFault before v)
judge_id before done zips v =
    judge_then (number_value (at_top key.Ids) 0 greatest v) (λ id. if list_any (λ x. x == id) done then Err (Range (at_top key.Ids) (pos id)) else Ok id) (NumberFault (at_top key.Ids) 0 greatest v) Again
    (judge_number (at_top key.Ids) 0 greatest v) (λ id is. by_id id (value_said (at_top key.Ids) 0 greatest v id is).0) where
      Again : WalkFault → Type 0
      Again f = (id : ℕ) × (v ≡ integer (pos id)) × IsAmong (λ w. w ≡ integer (pos id)) before × (f ≡ Range (at_top key.Ids) (pos id))

      by_id : (id : ℕ) → SaysId v id → Judges (if list_any (λ x. x == id) done then Err (Range (at_top key.Ids) (pos id)) else Ok id) Again
      by_id id says =
          let judged = judge_untest (list_any (λ x. x == id) done) id (Range (at_top key.Ids) (pos id)) (IsAmong (λ w. w ≡ integer (pos id)) before)
          (λ none among. false≢true (sym none ∙ among_any SaysId (λ w. w ≡ integer (pos id)) (λ x. x == id) (λ w x one such. eq-eqb x id (same_ids w x id one such)) before done zips among))
          (λ any. any_among SaysId (λ w. w ≡ integer (pos id)) (λ x. x == id) (λ w x one same. one ∙ ap (λ k. integer (pos k)) (eqb-true x id same)) before done zips any) in
          record {
            stops = λ f there. let out = judged.stops f there in (id, says, out.0, out.1);
            reads = λ x there f fault.
                let (other, also, among, told) = fault in
                judged.reads x there (Range (at_top key.Ids) (pos id)) (subst (λ (k : ℕ). IsAmong (λ w. w ≡ integer (pos k)) before) (same_ids v other id also says) among, refl);
          }

judge_ids : (n : ℕ) (t : Members) → Judges (ids_at n t) (IdsFault n t)
judge_ids n t =
    judge_option (at_top key.Ids) t (ids_by n) (ListFault (at_top key.Ids) n n IdFault) (range_with_len 0 n) refl
    (λ v there. judge_list (at_top key.Ids) n n (each id_after []) IdFault v (λ items is low high. judge_each id_after SaysId IdFault (λ done w id one. (id_said done w id one).0) judge_id [] [] tt _))

-- the keys of the top table
judge_keys : (t : Members) → Judges (keys_read t) (HeadFault t)
judge_keys t =
    judge_then _ _ _ _ (judge_number_at (at_top key.Version) 1 1 t) (λ version is0.
    judge_then _ _ _ _ (judge_number_at (at_top key.Processors) 1 64 t) (λ n is1.
    let says = (number_said (at_top key.Processors) 1 64 t n is1).0 in
    judge_then _ _ _ _ (judge_printed (at_top key.Map) map_of map_text map_read map_said t) (λ kind is2.
    judge_then _ _ _ _ (judge_given (policy_at n t) t (codes "processors") n PolicyFault says (judge_policy n t)) (λ chosen is3.
    judge_then _ _ _ _ (judge_printed (at_top key.Mode) mode_of mode_text mode_read mode_said t) (λ mode is4.
    judge_then _ _ _ _ (judge_polls t) (λ polls is5.
    judge_then _ _ _ _ (judge_number_at (at_top key.Visits) 1 256 t) (λ visits is6.
    judge_then _ _ _ _ (judge_number_at (at_top key.Ops) 1 4096 t) (λ ops is7.
    judge_last _ _ _ (judge_given (ids_at n t) t (codes "processors") n IdsFault says (judge_ids n t))))))))))

-- too many events
looks_once : (items : Items) (a b c d : ℕ) → EachSays IsLooks items (a ∷ b ∷ []) → EachSays IsLooks items (c ∷ d ∷ []) → (a ≡ c) × (b ≡ d)
looks_once no_items a b c d one other = absurd one
looks_once (item x no_items) a b c d one other = absurd one.1
looks_once (item x (item y more)) a b c d one other = (same_ids x a c one.0 other.0, same_ids y b d one.1.0 other.1.0)

polls_once : (t : Members) (a b c d : ℕ) → SaysList IsLooks t (codes "polls") (a ∷ b ∷ []) → SaysList IsLooks t (codes "polls") (c ∷ d ∷ []) → (a ≡ c) × (b ≡ d)
polls_once t a b c d (v, there, (items, kind, says)) (w, also, (others, other_kind, other_says)) =
    let whole : array others ≡ array items = sym other_kind ∙ same_Some w v (sym also ∙ there) ∙ kind in
    looks_once items a b c d says (subst (λ (xs : Items). EachSays IsLooks xs (c ∷ d ∷ [])) (same_Some others items (ap as_array whole)) other_says)

same_events : (t : Members) (h : Head) (f : WalkFault) → KeysSay t h → (e : EventsFault t f) → events_at_most e.processors e.first e.second e.visits e.ops ≡ most_events h
same_events t h f keys e =
    let (one, two) = polls_once t e.first e.second h.polls.t1 h.polls.t2 e.polls_are keys.polls_are in
    ap (λ k. events_at_most k e.first e.second e.visits e.ops) (number_once t (codes "processors") e.processors h.processors e.processors_is keys.processors_is)
    ∙ ap (λ k. events_at_most h.processors k e.second e.visits e.ops) one
    ∙ ap (λ k. events_at_most h.processors h.polls.t1 k e.visits e.ops) two
    ∙ ap (λ k. events_at_most h.processors h.polls.t1 h.polls.t2 k e.ops) (number_once t (codes "visits") e.visits h.visits e.visits_is keys.visits_is)
    ∙ ap (λ k. events_at_most h.processors h.polls.t1 h.polls.t2 h.visits k) (number_once t (codes "ops") e.ops h.ops e.ops_is keys.ops_is)

above : (n : ℕ) → nat_le n 4194304 ≡ false → 4194304 < n
above n is = grind (arith, nat_tests)

not_above : (n : ℕ) → nat_le n 4194304 ≡ true → 4194304 < n → ⊥
not_above n is more = let low = leb-true n 4194304 is in omega (arith, low, more)

judge_events : (t : Members) (h : Head) → KeysSay t h → Judges (within_limit (most_events h)) (EventsFault t)
judge_events t h keys =
    let judged = judge_test (nat_le (most_events h) 4194304) tt (TooLarge (most_events h)) (4194304 < most_events h) (not_above (most_events h)) (above (most_events h)) in
    record {
      stops = λ f is. let out = judged.stops f is in record {
        processors = h.processors;
        first = h.polls.t1;
        second = h.polls.t2;
        visits = h.visits;
        ops = h.ops;
        processors_is = keys.processors_is;
        polls_are = keys.polls_are;
        visits_is = keys.visits_is;
        ops_is = keys.ops_is;
        many = out.0;
        told = out.1;
      };
      reads = λ x is f fault. judged.reads x is (TooLarge (most_events h)) (subst (λ (n : ℕ). 4194304 < n) (same_events t h f keys fault) fault.many, refl);
    }

-- no room
area_once : (t : Members) (a b : Area) → SaysArea t a → SaysArea t b → a ≡ b
area_once t a b one other =
    let base = number_once t (codes "base") a.base b.base one.base_is other.base_is in
    let size = number_once t (codes "size") a.size b.size one.size_is other.size_is in
    let tile = number_once t (codes "tile") a.tile b.tile one.tile_is other.tile_is in
    let code = number_once t (codes "code") a.code b.code one.code_is other.code_is in
    λ j. record { base = base j; size = size j; tile = tile j; code = code j }

value_once : (v : Data) (a b : Area) → IsTableOf (λ e. SaysArea e a) v → IsTableOf (λ e. SaysArea e b) v → a ≡ b
value_once v a b (t, same, one) (u, also, other) = area_once t a b one (subst (λ e. SaysArea e b) (same_Some u t (ap as_table (sym also ∙ same))) other)

abbrev SaysSmram : Option Data → Option Area → Type 0
SaysSmram o s = MatchOption o (s ≡ None) (SaysOption SaysArea s)

record IsThere (t : Members) (a : Area) : Type 0 where
  value : Data
  there : get_member (codes "smram") t ≡ Some value
  area_is : IsTableOf (λ e. SaysArea e a) value

is_there : (t : Members) (a : Area) (o : Option Data) → get_member (codes "smram") t ≡ o → SaysSmram o (Some a) → IsThere t a
is_there t a None e says = absurd (none-some a (sym says))
is_there t a (Some v) e says = record { value = v; there = e; area_is = says }

judge_layout : (t : Members) (n : ℕ) (s : Option Area) → SaysNumber t (codes "processors") n → SaysSmram (get_member (codes "smram") t) s → Judges (layout_judged n s) (LayoutFault t)
judge_layout t n None processors says = record { stops = λ f is. ok_err tt f is; reads = λ x is f fault. subst (λ o. SaysSmram o None) fault.there says }
judge_layout t n (Some a) processors says = by_refusal (layout_refusal a n) refl where
  here : IsThere t a
  here = is_there t a (get_member (codes "smram") t) refl says

  same : (f : WalkFault) (fault : LayoutFault t f) → layout_refusal fault.area fault.processors ≡ layout_refusal a n
  same f fault =
      let value = same_Some fault.value here.value (sym fault.there ∙ here.there) in
      ap (λ x. layout_refusal x fault.processors) (value_once here.value fault.area a (subst (λ v. IsTableOf (λ e. SaysArea e fault.area) v) value fault.area_is) here.area_is)
      ∙ ap (layout_refusal a) (number_once t (codes "processors") fault.processors n fault.processors_is processors)

  by_refusal : (o : Option LayoutError) → layout_refusal a n ≡ o → Judges (unless_refused o) (LayoutFault t)
  by_refusal None e = record { stops = λ f is. ok_err tt f is; reads = λ x is f fault. none-some fault.refusal (sym e ∙ sym (same f fault) ∙ fault.refused) }
  by_refusal (Some refusal) e = record {
    stops = λ f is. record {
      processors = n;
      value = here.value;
      area = a;
      refusal = refusal;
      processors_is = processors;
      there = here.there;
      area_is = here.area_is;
      refused = e;
      told = sym (same_err (Layout refusal) f is);
    };
    reads = λ x is f fault. err_ok (Layout refusal) x is;
  }

-- what two other keys bound
judge_both : {A : Type 0} (r : Reading A) (t : Members) (n visits : ℕ) (F : ℕ → ℕ → Members → WalkFault → Type 0) → SaysNumber t (codes "processors") n → SaysNumber t (codes "visits") visits → Judges r (F n visits t) →
    Judges r (GivenBoth F t)
judge_both r t n visits F n_says visits_say judged = record {
  stops = λ f is. (n, visits, n_says, visits_say, judged.stops f is);
  reads = λ x is f fault.
      let (m, seen, m_says, seen_says, wrong) = fault in
      judged.reads x is f (subst (λ k. F n k t f) (number_once t (codes "visits") seen visits seen_says visits_say) (subst (λ k. F k seen t f) (number_once t (codes "processors") m n m_says n_says) wrong));
}

-- the tables behind the top one
judge_rest : (t : Members) (h : Head) → KeysSay t h → KeysFit h → Judges (tables_at t h) (RestFault t)
judge_rest t h keys fit =
    judge_then _ _ _ _ (judge_smram t) (λ smram smram_is.
    judge_then _ _ _ _ (judge_both (waves_at h.processors h.visits t) t h.processors h.visits WavesFault keys.processors_is keys.visits_is (judge_waves h.processors h.visits t)) (λ waves waves_are.
    judge_then _ _ _ _ (judge_handlers t) (λ handlers handlers_are.
    judge_then _ _ _ _ (judge_procedures t) (λ procedures procedures_are.
    judge_then _ _ _ _ (judge_both (causes_at h.processors h.visits t) t h.processors h.visits CausesFault keys.processors_is keys.visits_is (judge_causes h.processors h.visits fit.processors_fit.0 t)) (λ causes causes_are.
    judge_last _ _ _ (judge_then _ _ _ _ (judge_events t h keys) (λ few few_is. judge_layout t h.processors smram keys.processors_is (smram_said (found_at (at_top key.Smram) t) smram smram_is).0)))))))

-- a fault of the lists of tables is one of a table
stop_then : {A B C : Type 0} (r : Reading A) (next : A → Reading B) (f : WalkFault) → read_then r next ≡ Err f → (r ≡ Err f → C) → ((a : A) → r ≡ Ok a → next a ≡ Err f → C) → C
stop_then (Ok a) next f is here later = later a refl is
stop_then (Err e) next f is here later = here (ap Err (same_err e f is))

lists_stop : (t : Members) (h : Head) (f : WalkFault) → KeysSay t h → KeysFit h → lists_checked t h ≡ Err f → TopNameFault t f ⊎ RestFault t f
lists_stop t h f keys fit is =
    stop_then (smram_at t) _ f is (λ e. inr (inl ((judge_smram t).stops f (ap (λ r. read_then r area_of) e)))) (λ smram smram_is rest0.
    stop_then (wave_entries h.visits t) _ f rest0 (λ e. inr (inr (inl ((judge_both (waves_at h.processors h.visits t) t h.processors h.visits WavesFault keys.processors_is keys.visits_is (judge_waves h.processors h.visits t)).stops f
    (ap (λ r. read_then r (each (wave_after h.processors) [])) e))))) (λ waves waves_are rest1.
    stop_then (handler_entries t) _ f rest1 (λ e. inr (inr (inr (inl ((judge_handlers t).stops f (ap (λ r. read_then r handlers_in) e)))))) (λ handlers handlers_are rest2.
    stop_then (procedure_entries t) _ f rest2 (λ e. inr (inr (inr (inr (inl ((judge_procedures t).stops f (ap (λ r. read_then r (each procedure_after [])) e))))))) (λ procedures procedures_are rest3.
    stop_then (cause_entries t) _ f rest3 (λ e. inr (inr (inr (inr (inr (inl ((judge_both (causes_at h.processors h.visits t) t h.processors h.visits CausesFault keys.processors_is keys.visits_is
    (judge_causes h.processors h.visits fit.processors_fit.0 t)).stops f (ap (λ r. read_then r (each (cause_after h.processors h.visits) [])) e)))))))) (λ causes causes_are rest4.
    inl (h.policy, keys.policy_is, (judge_names place.Top (keys_by h.policy) (names_by h.policy ++ top_names) (names_known h.policy) t h).stops f rest4))))))

-- the names of the top table
names_same : (p q : Policy) → policy_text p ≡ policy_text q → names_by p ≡ names_by q
names_same Elected Elected same = refl
names_same (Fixed a) (Fixed b) same = refl
names_same Elected (Fixed b) same = absurd (elected_fixed same)
names_same (Fixed a) Elected same = absurd (elected_fixed (sym same))

name_clash : (at : TablePlace) (names : List (List ℕ)) (t : Members) (f : WalkFault) → HasOnly names t → NameFault at names t f → ⊥
name_clash at names no_members f only fault = fault
name_clash at names (member name v more) f only fault = neither fault (λ other. false≢true (sym other.0 ∙ only.0)) (name_clash at names more f only.1)

record HeadIs (t : Members) (h : Head) : Type 0 where
  read : keys_read t ≡ Ok h
  only : HasOnly (names_by h.policy ++ top_names) t
  says : KeysSay t h
  fits : KeysFit h

head_is : (t : Members) (h : Head) → head_at t ≡ Ok h → HeadIs t h
head_is t h is =
    let (k, keys_are, lists_are) = split (keys_read t) (lists_checked t) h is in
    let (same, only) = lists_said t k h lists_are in
    let (says, fits) = keys_said t k keys_are in
    subst (HeadIs t) same (record { read = keys_are; only = only; says = says; fits = fits })

judge_setup : (t : Members) → Judges (setup_at t) (IsFault t)
judge_setup t = record {
  stops = λ f is.
      stop_then (head_at t) (tables_at t) f is
      (λ head. stop_then (keys_read t) (lists_checked t) f head (λ e. inl ((judge_keys t).stops f e)) (λ h keys lists. let (says, fits) = keys_said t h keys in inr (lists_stop t h f says fits lists)))
      (λ h head rest. let found = head_is t h head in inr (inr ((judge_rest t h found.says found.fits).stops f rest)));
  reads = λ d is f fault.
      let (h, head, rest) = split (head_at t) (tables_at t) d is in
      let found = head_is t h head in
      neither fault ((judge_keys t).reads h found.read f) (λ more. neither more
      (λ other. name_clash place.Top (names_by h.policy ++ top_names) t f found.only (subst (λ names. NameFault place.Top (names ++ top_names) t f) (names_same other.0 h.policy (text_once t (codes "policy") (policy_text other.0) (policy_text h.policy) other.1 found.says.policy_is)) other.2))
      ((judge_rest t h found.says found.fits).reads d rest f));
}

-- a fault that is answered is one of the document
pub fault_is : (t : Members) (f : WalkFault) → setup_at t ≡ Err f → IsFault t f
fault_is t f is = (judge_setup t).stops f is

-- a document with a fault says no setup that fits
pub fault_clash : (t : Members) (f : WalkFault) (d : SetupData) → IsFault t f → Says t d → Fits d → ⊥
fault_clash t f d fault says fits = (judge_setup t).reads d (setup_is_read t d says fits) f fault

-- one without a fault says one
pub faultless : (t : Members) → ((f : WalkFault) → IsFault t f → ⊥) → (d : SetupData) × Says t d × Fits d
faultless t none = by_reading (setup_at t) refl where
  by_reading : (r : Reading SetupData) → setup_at t ≡ r → (d : SetupData) × Says t d × Fits d
  by_reading (Ok d) e = let (says, fits) = setup_said t d e in (d, says, fits)
  by_reading (Err f) e = absurd (none f (fault_is t f e))
