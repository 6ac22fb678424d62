-- A whole document: what is read is what it says, and the other way round.
use Rattle.std.proofs.Common.{◌≡◌, ℕ, ◌≤◌, Bool, true, ◌&&◌, nat_le, List, [], ◌++◌, length, Option, Some, None, Ok, refl, ap, sym, subst, ◌∙◌, codes, le-leb, arith}
use Rattle.std.specs.Prelude.{MatchOption}
use Rattle.std.specs.List.{list_all}
use Rattle.std.proofs.lemmas.Bool.{and_parts, and_from, leb-true, false≢true}
use Rattle.std.proofs.lemmas.Option.{same_Some, none-some}
use Rattle.toml.specs.Data.{Data, array, Items, Members, get_member, as_array}
use Rattle.cpu_table.specs.Data.{SetupData}
use Rattle.cpu_table.specs.Distinct.{are_distinct}
use Rattle.cpu_table.specs.Layout.{layout_refusal, layout_fits, is_accepted}
use Rattle.cpu_table.specs.Ranges.{is_between, smram_fits, wave_fits, waves_fit, handler_fits, handlers_fit, procedure_fits, procedures_fit, cause_fits, causes_fit, same_text, same_visit}
use Rattle.cpu_table.specs.declared.layout.LayoutError.{LayoutError}
use Rattle.cpu_table.specs.declared.setup.Smram.{Smram as Area}
use Rattle.cpu_table.specs.declared.setup.CauseAt.{CauseAt}
use Rattle.cpu_table.specs.declared.waves.Wave.{Wave}
use Rattle.cpu_table.specs.declared.handlers.HandlerDef.{HandlerDef}
use Rattle.cpu_table.specs.declared.handlers.ProcedureDef.{ProcedureDef}
use Rattle.platform_document.specs.declared.path.TablePlace.TheVariants.{Top}
use Rattle.platform_document.specs.declared.path.Key.TheVariants as key
use Rattle.platform_document.specs.declared.path.Path.{Path}
use Rattle.platform_document.specs.declared.fault.WalkFault.TheVariants as fault
use Rattle.platform_file.specs.declared.head.Head.{Head}
use Rattle.platform_document.specs.Reading.{read_then, found_at, optional, table_of, entries_of, data_list, each, and_no_other}
use Rattle.platform_file.specs.Head.{top, smram_at, wave_entries, handler_entries, procedure_entries, cause_entries, keys_by, keys_read, lists_checked, head_at}
use Rattle.platform_file.specs.Area.{area_in, area_of, area_at, unless_refused, layout_judged}
use Rattle.platform_file.specs.Waves.{wave_after, waves_at}
use Rattle.platform_file.specs.Handlers.{handler_after, handlers_at, procedure_after, procedures_at}
use Rattle.platform_file.specs.Causes.{cause_after, causes_at}
use Rattle.platform_file.specs.Walk.{most_events, within_limit, limits_judged, tables_at, setup_at}
use Rattle.platform_laws.specs.Values.{SaysTables, IsTableOf, IsListOf, HasOnly}
use Rattle.platform_laws.specs.Says.{Says, SaysArea, SaysWave, SaysHandlerDef, SaysProcedure, SaysCause, SaysOption, IsNameAt, names_by, top_names}
use Rattle.platform_laws.specs.Fits.{Fits, names_words, has_port}
use Rattle.platform_laws.proofs.Readings.{split, joined, same_ok, err_ok, if_ok, ok_if, table_said, table_read, list_value_said, list_value_read, list_read, others_said, others_read}
use Rattle.platform_laws.proofs.Lists.{each_count}
use Rattle.platform_laws.proofs.Growth.{each_all, each_distinct, each_one, each_apart, all_true, list_each_said, value_read, entries_said, entries_read}
use Rattle.platform_laws.proofs.Parts.{IsFound}
use Rattle.platform_laws.proofs.Names.{found_name, name_found, handler_as, handlers_as}
use Rattle.platform_laws.proofs.Tables.{area_said, area_read, entry_wave_said, entry_wave_read, HandlerFits, entry_handler_said, entry_handler_read, ProcedureFits, entry_procedure_said, entry_procedure_read, CauseFits, entry_cause_said, entry_cause_read}
use Rattle.platform_laws.proofs.Head.{KeysSay, KeysFit, keys_said, keys_are_read, names_known}

-- the areas
pub smram_said : (o : Option Data) (s : Option Area) → read_then (optional (table_of (top key.Smram)) o) area_of ≡ Ok s → MatchOption o (s ≡ None) (SaysOption SaysArea s) × (smram_fits s ≡ true)
smram_said None s is = subst (λ x. (x ≡ None) × (smram_fits x ≡ true)) (same_ok None s is) (refl, refl)
smram_said (Some v) s is =
    let (o, listed, rest) = split (read_then (table_of (top key.Smram) v) (λ found. Ok (Some found))) area_of s is in
    let (t, there, same) = split (table_of (top key.Smram) v) (λ found. Ok (Some found)) o listed in
    let whole : area_of (Some t) ≡ Ok s = ap area_of (same_ok (Some t) o same) ∙ rest in
    let (a, area_is, last) = split (area_in t) (λ x. Ok (Some x)) s whole in
    let (says, fits) = area_said t a area_is in
    subst (λ x. SaysOption SaysArea x v × (smram_fits x ≡ true)) (same_ok (Some a) s last) ((t, table_said (top key.Smram) v t there, says), fits)

-- the table is there, and its area is read
record IsSmram (o : Option Data) (s : Option Area) : Type 0 where
  found : Option Members
  listed : optional (table_of (top key.Smram)) o ≡ Ok found
  read : area_of found ≡ Ok s

smram_some : (v : Data) (s : Option Area) → SaysOption SaysArea s v → smram_fits s ≡ true → IsSmram (Some v) s
smram_some v None says fits = absurd says
smram_some v (Some a) (t, there, says) fits =
    record {
      found = Some t;
      listed = joined (table_of (top key.Smram) v) (λ x. Ok (Some x)) t (Some t) (table_read (top key.Smram) v t there) refl;
      read = joined (area_in t) (λ x. Ok (Some x)) a (Some a) (area_read t a says fits) refl;
    }

smram_read : (o : Option Data) (s : Option Area) → MatchOption o (s ≡ None) (SaysOption SaysArea s) → smram_fits s ≡ true → IsSmram o s
smram_read None s says fits = record { found = None; listed = refl; read = ap Ok (sym says) }
smram_read (Some v) s says fits = smram_some v s says fits

accepted : (o : Option LayoutError) (u : Unit {0}) → unless_refused o ≡ Ok u → is_accepted o ≡ true
accepted None u is = refl
accepted (Some refusal) u is = err_ok (fault.Layout refusal) u is

accepted_read : (o : Option LayoutError) → is_accepted o ≡ true → unless_refused o ≡ Ok tt
accepted_read None is = refl
accepted_read (Some refusal) is = absurd (false≢true is)

layout_said : (n : ℕ) (s : Option Area) (u : Unit {0}) → layout_judged n s ≡ Ok u → layout_fits n s ≡ true
layout_said n None u is = refl
layout_said n (Some a) u is = accepted (layout_refusal a n) u is

layout_read : (n : ℕ) (s : Option Area) → layout_fits n s ≡ true → layout_judged n s ≡ Ok tt
layout_read n None is = refl
layout_read n (Some a) is = accepted_read (layout_refusal a n) is

limits_said : (h : Head) (s : Option Area) (u : Unit {0}) → limits_judged h s ≡ Ok u → (most_events h ≤ 4194304) × (layout_fits h.processors s ≡ true)
limits_said h s u is =
    let (one, there, rest) = split (within_limit (most_events h)) (λ x. layout_judged h.processors s) u is in
    let (few, same) = if_ok (nat_le (most_events h) 4194304) tt one (fault.TooLarge (most_events h)) there in
    (leb-true (most_events h) 4194304 few, layout_said h.processors s u rest)

limits_read : (h : Head) (s : Option Area) → most_events h ≤ 4194304 → layout_fits h.processors s ≡ true → limits_judged h s ≡ Ok tt
limits_read h s few room =
    joined (within_limit (most_events h)) (λ x. layout_judged h.processors s) tt tt (ok_if (nat_le (most_events h) 4194304) tt (fault.TooLarge (most_events h)) (le-leb (most_events h) 4194304 few)) (layout_read h.processors s room)

-- the waves
waves_said : (n visits : ℕ) (t : Members) (ws : List Wave) → waves_at n visits t ≡ Ok ws →
    ((v : Data) × (get_member (codes "wave") t ≡ Some v) × IsListOf (λ v w. IsTableOf (λ e. SaysWave e w) v) ws v) × (waves_fit n visits ws ≡ true)
waves_said n visits t ws is =
    let (says, low, high, fits) = list_each_said (top key.Wave) 1 visits t (wave_after n) (λ v w. IsTableOf (λ e. SaysWave e w) v) (λ d w. wave_fits n w ≡ true) (entry_wave_said n) ws is in (
      says,
      and_from (is_between 1 visits (length ws)) (list_all (wave_fits n) ws)
          (and_from (nat_le 1 (length ws)) (nat_le (length ws) visits) (le-leb 1 (length ws) low) (le-leb (length ws) visits high))
          (each_all (λ d w. wave_fits n w ≡ true) (wave_fits n) (λ d w f. f) ws [] fits),
    )

-- the handlers
same_items : (v : Data) (a b : Items) → v ≡ array a → v ≡ array b → a ≡ b
same_items v a b x y = same_Some a b (ap as_array (sym x ∙ y))

named_said : (o : Option Data) (entries : List Data) (hs : List HandlerDef) → entries_of (top key.Handler) 64 o ≡ Ok entries →
    MatchOption o (hs ≡ []) (IsListOf (λ v h. IsTableOf (λ e. SaysHandlerDef (IsFound entries) e h) v) hs) →
    MatchOption o (hs ≡ []) (IsListOf (λ v h. IsTableOf (λ e. SaysHandlerDef (IsNameAt hs) e h) v) hs)
named_said None entries hs listed says = says
named_said (Some v) entries hs listed (items, kind, says) =
    let (others, other_kind, same, low, high) = list_value_said (top key.Handler) 0 64 v entries listed in
    let whole : entries ≡ data_list items = sym same ∙ ap data_list (same_items v others items other_kind kind) in
    let also : (name : List ℕ) (at : ℕ) → IsFound entries name at → IsNameAt hs name at = λ name at found. found_name (IsFound entries) items hs says name at (subst (λ (es : List Data). IsFound es name at) whole found) in
    (items, kind, handlers_as (IsFound entries) (IsNameAt hs) also items hs says)

record AreNamed (entries : List Data) (hs : List HandlerDef) : Type 0 where
  found : (name : List ℕ) (at : ℕ) → IsNameAt hs name at → IsFound entries name at
  count : length entries ≡ length hs

named_read : (o : Option Data) (entries : List Data) (hs : List HandlerDef) → entries_of (top key.Handler) 64 o ≡ Ok entries →
    MatchOption o (hs ≡ []) (IsListOf (λ v h. IsTableOf (λ e. SaysHandlerDef (IsNameAt hs) e h) v) hs) → are_distinct (λ a b. same_text a.name b.name) hs ≡ true → AreNamed entries hs
named_read None entries hs listed says distinct =
    record {
      found = λ name at there. absurd (none-some name (subst (λ (xs : List HandlerDef). IsNameAt xs name at) says there));
      count = ap length (sym (same_ok [] entries listed)) ∙ sym (ap length says);
    }
named_read (Some v) entries hs listed (items, kind, says) distinct =
    let (others, other_kind, same, low, high) = list_value_said (top key.Handler) 0 64 v entries listed in
    let whole : data_list items ≡ entries = ap data_list (same_items v items others kind other_kind) ∙ same in
    record {
      found = λ name at there. subst (λ (es : List Data). IsFound es name at) whole (name_found (IsNameAt hs) items hs says distinct name at there);
      count = ap length (sym whole) ∙ each_count (λ v h. IsTableOf (λ t. SaysHandlerDef (IsNameAt hs) t h) v) items hs says;
    }

handlers_said : (t : Members) (hs : List HandlerDef) → handlers_at t ≡ Ok hs → SaysTables (SaysHandlerDef (IsNameAt hs)) t (codes "handler") hs × (handlers_fit hs ≡ true) × (list_all names_words hs ≡ true)
handlers_said t hs is =
    let a = entries_said (top key.Handler) 64 (found_at (top key.Handler) t) (λ es. handler_after es) (λ es v h. IsTableOf (λ e. SaysHandlerDef (IsFound es) e h) v) (λ es d h. HandlerFits (length es) d h) entry_handler_said hs is in
    let n = length a.entries in
    let all_fit : list_all (handler_fits n) hs ≡ true = each_all (λ d h. HandlerFits n d h) (handler_fits n) (λ d h f. f.0) hs [] a.fits in
    let words : list_all names_words hs ≡ true = each_all (λ d h. HandlerFits n d h) names_words (λ d h f. f.1) hs [] a.fits in
    let distinct : are_distinct (λ a b. same_text a.name b.name) hs ≡ true = each_distinct (λ d h. HandlerFits n d h) (λ a b. same_text a.name b.name) (λ d h f. f.2) hs [] refl a.fits in (
      named_said (found_at (top key.Handler) t) a.entries hs a.listed a.says,
      and_from (nat_le (length hs) 64 && list_all (handler_fits (length hs)) hs) (are_distinct (λ a b. same_text a.name b.name) hs)
          (and_from (nat_le (length hs) 64) (list_all (handler_fits (length hs)) hs) (le-leb (length hs) 64 a.few) (subst (λ k. list_all (handler_fits k) hs ≡ true) a.count all_fit)) distinct,
      words,
    )

handlers_read : (t : Members) (hs : List HandlerDef) → SaysTables (SaysHandlerDef (IsNameAt hs)) t (codes "handler") hs → handlers_fit hs ≡ true → list_all names_words hs ≡ true → handlers_at t ≡ Ok hs
handlers_read t hs says fits words =
    let (first, distinct) = and_parts (nat_le (length hs) 64 && list_all (handler_fits (length hs)) hs) (are_distinct (λ a b. same_text a.name b.name) hs) fits in
    let (few, all_fit) = and_parts (nat_le (length hs) 64) (list_all (handler_fits (length hs)) hs) first in
    entries_read (top key.Handler) 64 (found_at (top key.Handler) t) (λ es. handler_after es) (λ v h. IsTableOf (λ e. SaysHandlerDef (IsNameAt hs) e h) v) (λ d h. HandlerFits (length hs) d h) hs
    (λ entries listed done v h one fit.
    let named = named_read (found_at (top key.Handler) t) entries hs listed says distinct in
    entry_handler_read entries done v h (handler_as (IsNameAt hs) (IsFound entries) named.found v h one) (subst (λ k. HandlerFits k done h) (sym named.count) fit))
    says (leb-true (length hs) 64 few) (each_apart (handler_fits (length hs)) names_words (λ a b. same_text a.name b.name) hs [] all_fit words distinct)

-- the procedures
procedures_said : (t : Members) (ps : List ProcedureDef) → procedures_at t ≡ Ok ps → SaysTables SaysProcedure t (codes "procedure") ps × (procedures_fit ps ≡ true)
procedures_said t ps is =
    let a = entries_said (top key.Procedure) 64 (found_at (top key.Procedure) t) (λ es. procedure_after) (λ es v p. IsTableOf (λ e. SaysProcedure e p) v) (λ es d p. ProcedureFits d p) (λ es. entry_procedure_said) ps is in (
      a.says,
      and_from (nat_le (length ps) 64 && list_all procedure_fits ps) (are_distinct (λ a b. same_text a.name b.name) ps)
          (and_from (nat_le (length ps) 64) (list_all procedure_fits ps) (le-leb (length ps) 64 a.few) (each_all ProcedureFits procedure_fits (λ d p f. f.0) ps [] a.fits))
          (each_distinct ProcedureFits (λ a b. same_text a.name b.name) (λ d p f. f.2) ps [] refl a.fits),
    )

procedures_read : (t : Members) (ps : List ProcedureDef) → SaysTables SaysProcedure t (codes "procedure") ps → procedures_fit ps ≡ true → procedures_at t ≡ Ok ps
procedures_read t ps says fits =
    let (first, distinct) = and_parts (nat_le (length ps) 64 && list_all procedure_fits ps) (are_distinct (λ a b. same_text a.name b.name) ps) fits in
    let (few, all_fit) = and_parts (nat_le (length ps) 64) (list_all procedure_fits ps) first in
    entries_read (top key.Procedure) 64 (found_at (top key.Procedure) t) (λ es. procedure_after) (λ v p. IsTableOf (λ e. SaysProcedure e p) v) ProcedureFits ps
    (λ entries listed done v p one fit. entry_procedure_read done v p one fit)
    says (leb-true (length ps) 64 few) (each_apart procedure_fits (λ x. true) (λ a b. same_text a.name b.name) ps [] all_fit (all_true ps) distinct)

-- the causes
causes_said : (n visits : ℕ) (t : Members) (cs : List CauseAt) → 1 ≤ n → causes_at n visits t ≡ Ok cs → SaysTables SaysCause t (codes "cause") cs × (causes_fit n visits cs ≡ true) × (list_all has_port cs ≡ true)
causes_said n visits t cs some is =
    let a = entries_said (top key.Cause) 4096 (found_at (top key.Cause) t) (λ es. cause_after n visits) (λ es v c. IsTableOf (λ e. SaysCause e c) v) (λ es d c. CauseFits n visits d c) (λ es. entry_cause_said n visits some) cs is in (
      a.says,
      and_from (nat_le (length cs) 4096 && list_all (cause_fits n visits) cs) (are_distinct same_visit cs)
          (and_from (nat_le (length cs) 4096) (list_all (cause_fits n visits) cs) (le-leb (length cs) 4096 a.few) (each_all (λ d c. CauseFits n visits d c) (cause_fits n visits) (λ d c f. f.0) cs [] a.fits))
          (each_distinct (λ d c. CauseFits n visits d c) same_visit (λ d c f. f.2) cs [] refl a.fits),
      each_all (λ d c. CauseFits n visits d c) has_port (λ d c f. f.1) cs [] a.fits,
    )

causes_read : (n visits : ℕ) (t : Members) (cs : List CauseAt) → SaysTables SaysCause t (codes "cause") cs → causes_fit n visits cs ≡ true → list_all has_port cs ≡ true → causes_at n visits t ≡ Ok cs
causes_read n visits t cs says fits ports =
    let (first, distinct) = and_parts (nat_le (length cs) 4096 && list_all (cause_fits n visits) cs) (are_distinct same_visit cs) fits in
    let (few, all_fit) = and_parts (nat_le (length cs) 4096) (list_all (cause_fits n visits) cs) first in
    entries_read (top key.Cause) 4096 (found_at (top key.Cause) t) (λ es. cause_after n visits) (λ v c. IsTableOf (λ e. SaysCause e c) v) (λ d c. CauseFits n visits d c) cs
    (λ entries listed done v c one fit. entry_cause_read n visits done v c one fit)
    says (leb-true (length cs) 4096 few) (each_apart (cause_fits n visits) has_port same_visit cs [] all_fit ports distinct)

-- the top table's lists and other names
pub lists_said : (t : Members) (h k : Head) → lists_checked t h ≡ Ok k → (h ≡ k) × HasOnly (names_by h.policy ++ top_names) t
lists_said t h k is =
    let (smram, smram_is, rest0) = split (smram_at t) (λ smram. read_then (wave_entries h.visits t) (λ waves. read_then (handler_entries t) (λ handlers. read_then (procedure_entries t) (λ procedures. read_then (cause_entries t) (λ causes. and_no_other Top (keys_by h.policy) t h))))) k is in
    let (waves, waves_is, rest1) = split (wave_entries h.visits t) (λ waves. read_then (handler_entries t) (λ handlers. read_then (procedure_entries t) (λ procedures. read_then (cause_entries t) (λ causes. and_no_other Top (keys_by h.policy) t h)))) k rest0 in
    let (handlers, handlers_is, rest2) = split (handler_entries t) (λ handlers. read_then (procedure_entries t) (λ procedures. read_then (cause_entries t) (λ causes. and_no_other Top (keys_by h.policy) t h))) k rest1 in
    let (procedures, procedures_is, rest3) = split (procedure_entries t) (λ procedures. read_then (cause_entries t) (λ causes. and_no_other Top (keys_by h.policy) t h)) k rest2 in
    let (causes, causes_is, rest4) = split (cause_entries t) (λ causes. and_no_other Top (keys_by h.policy) t h) k rest3 in
    others_said Top (keys_by h.policy) (names_by h.policy ++ top_names) (names_known h.policy) t h k rest4

-- a list of tables that is said is there
is_listed : {A : Type 0} (path : Path) (last : ℕ) (o : Option Data) (SaysOne : Data → A → Type 0) (all : List A) → MatchOption o (all ≡ []) (IsListOf SaysOne all) → length all ≤ last → (entries : List Data) × (entries_of path last o ≡ Ok entries)
is_listed path last None SaysOne all says few = ([], refl)
is_listed path last (Some v) SaysOne all (items, kind, says) few =
    let count = sym (each_count SaysOne items all says) in
    (data_list items, list_value_read path 0 last v items kind (omega arith) (subst (λ (k : ℕ). k ≤ last) count few))

abbrev head_of : SetupData → Head
head_of d = record { processors = d.processors; kind = d.kind; policy = d.policy; mode = d.mode; polls = record { t1 = d.t1; t2 = d.t2 }; visits = d.visits; ops = d.ops; ids = d.ids }

abbrev setup_of : Head → Option Area → List Wave → List HandlerDef → List ProcedureDef → List CauseAt → SetupData
setup_of h smram waves handlers procedures causes = record {
  processors = h.processors;
  kind = h.kind;
  policy = h.policy;
  mode = h.mode;
  t1 = h.polls.t1;
  t2 = h.polls.t2;
  visits = h.visits;
  ops = h.ops;
  ids = h.ids;
  smram = smram;
  waves = waves;
  handlers = handlers;
  procedures = procedures;
  causes = causes;
}

tables_said : (t : Members) (h : Head) (d : SetupData) → KeysSay t h → KeysFit h → HasOnly (names_by h.policy ++ top_names) t → tables_at t h ≡ Ok d → Says t d × Fits d
tables_said t h d keys fit only is =
    let (smram, smram_is, rest0) = split (area_at t) (λ smram. read_then (waves_at h.processors h.visits t) (λ waves. read_then (handlers_at t) (λ handlers. read_then (procedures_at t) (λ procedures. read_then (causes_at h.processors h.visits t) (λ causes. read_then (limits_judged h smram) (λ judged. Ok (setup_of h smram waves handlers procedures causes))))))) d is in
    let (waves, waves_is, rest1) = split (waves_at h.processors h.visits t) (λ waves. read_then (handlers_at t) (λ handlers. read_then (procedures_at t) (λ procedures. read_then (causes_at h.processors h.visits t) (λ causes. read_then (limits_judged h smram) (λ judged. Ok (setup_of h smram waves handlers procedures causes)))))) d rest0 in
    let (handlers, handlers_is, rest2) = split (handlers_at t) (λ handlers. read_then (procedures_at t) (λ procedures. read_then (causes_at h.processors h.visits t) (λ causes. read_then (limits_judged h smram) (λ judged. Ok (setup_of h smram waves handlers procedures causes))))) d rest1 in
    let (procedures, procedures_is, rest3) = split (procedures_at t) (λ procedures. read_then (causes_at h.processors h.visits t) (λ causes. read_then (limits_judged h smram) (λ judged. Ok (setup_of h smram waves handlers procedures causes)))) d rest2 in
    let (causes, causes_is, rest4) = split (causes_at h.processors h.visits t) (λ causes. read_then (limits_judged h smram) (λ judged. Ok (setup_of h smram waves handlers procedures causes))) d rest3 in
    let (judged, judged_is, rest5) = split (limits_judged h smram) (λ judged. Ok (setup_of h smram waves handlers procedures causes)) d rest4 in
    let (smram_says, smram_there) = smram_said (found_at (top key.Smram) t) smram smram_is in
    let (waves_say, waves_there) = waves_said h.processors h.visits t waves waves_is in
    let (handlers_say, handlers_there, handlers_names) = handlers_said t handlers handlers_is in
    let (procedures_say, procedures_there) = procedures_said t procedures procedures_is in
    let (causes_say, causes_there, causes_have) = causes_said h.processors h.visits t causes fit.processors_fit.0 causes_is in
    let (few, room) = limits_said h smram judged judged_is in
    subst (λ x. Says t x × Fits x) (same_ok (setup_of h smram waves handlers procedures causes) d rest5) (
      record {
        version_is = keys.version_is;
        processors_is = keys.processors_is;
        map_is = keys.map_is;
        policy_is = keys.policy_is;
        fixed_is = keys.fixed_is;
        mode_is = keys.mode_is;
        polls_are = keys.polls_are;
        visits_is = keys.visits_is;
        ops_is = keys.ops_is;
        ids_are = keys.ids_are;
        smram_is = smram_says;
        waves_are = waves_say;
        handlers_are = handlers_say;
        procedures_are = procedures_say;
        causes_are = causes_say;
        only = only;
      },
      record {
        processors_fit = fit.processors_fit;
        policy_fit = fit.policy_fit;
        polls_fit = fit.polls_fit;
        visits_fit = fit.visits_fit;
        ops_fit = fit.ops_fit;
        ids_for_each = fit.ids_fit.0;
        ids_distinct = fit.ids_fit.1;
        ids_small = fit.ids_fit.2;
        smram_fit = smram_there;
        smram_room = room;
        waves_fits = waves_there;
        handlers_fits = handlers_there;
        handlers_words = handlers_names;
        procedures_fits = procedures_there;
        causes_fits = causes_there;
        causes_ports = causes_have;
        events_few = few;
      },
    )

pub setup_said : (t : Members) (d : SetupData) → setup_at t ≡ Ok d → Says t d × Fits d
setup_said t d is =
    let (h, head_is, rest) = split (head_at t) (tables_at t) d is in
    let (k, keys_is, lists_is) = split (keys_read t) (lists_checked t) h head_is in
    let (same, only) = lists_said t k h lists_is in
    let (keys, fit) = keys_said t k keys_is in
    let all_tables : tables_at t k ≡ Ok d = ap (tables_at t) same ∙ rest in
    tables_said t k d keys fit only all_tables

waves_read : (n visits : ℕ) (t : Members) (ws : List Wave) → (v : Data) × (get_member (codes "wave") t ≡ Some v) × IsListOf (λ v w. IsTableOf (λ e. SaysWave e w) v) ws v → waves_fit n visits ws ≡ true →
    (entries : List Data) × (wave_entries visits t ≡ Ok entries) × (each (wave_after n) [] entries ≡ Ok ws)
waves_read n visits t ws (v, member, says) fits =
    let (between, all_fit) = and_parts (is_between 1 visits (length ws)) (list_all (wave_fits n) ws) fits in
    let (low, high) = and_parts (nat_le 1 (length ws)) (nat_le (length ws) visits) between in
    let (entries, there, rest) = value_read (top key.Wave) 1 visits v (wave_after n) (λ v w. IsTableOf (λ e. SaysWave e w) v) (λ d w. wave_fits n w ≡ true) (entry_wave_read n) ws says (leb-true 1 (length ws) low) (leb-true (length ws) visits high) (each_one (wave_fits n) ws [] all_fit) in
    (entries, list_read (top key.Wave) 1 visits t entries v member there, rest)

setup_keys : (t : Members) (d : SetupData) → Says t d → Fits d → keys_read t ≡ Ok (head_of d)
setup_keys t d says fits =
    keys_are_read t (head_of d)
    (record {
      version_is = says.version_is;
      processors_is = says.processors_is;
      map_is = says.map_is;
      policy_is = says.policy_is;
      fixed_is = says.fixed_is;
      mode_is = says.mode_is;
      polls_are = says.polls_are;
      visits_is = says.visits_is;
      ops_is = says.ops_is;
      ids_are = says.ids_are;
    })
    (record {
      processors_fit = fits.processors_fit;
      policy_fit = fits.policy_fit;
      polls_fit = fits.polls_fit;
      visits_fit = fits.visits_fit;
      ops_fit = fits.ops_fit;
      ids_fit = (fits.ids_for_each, fits.ids_distinct, fits.ids_small);
    })

few_of : (a b c : Bool) → a && b && c ≡ true → a ≡ true
few_of a b c is = (and_parts a b ((and_parts (a && b) c is).0)).0

pub setup_is_read : (t : Members) (d : SetupData) → Says t d → Fits d → setup_at t ≡ Ok d
setup_is_read t d says fits =
    let h = head_of d in
    let smram = smram_read (found_at (top key.Smram) t) d.smram says.smram_is fits.smram_fit in
    let (wave_list, waves_listed, waves_are) = waves_read d.processors d.visits t d.waves says.waves_are fits.waves_fits in
    let handlers_few = leb-true (length d.handlers) 64 (few_of (nat_le (length d.handlers) 64) (list_all (handler_fits (length d.handlers)) d.handlers) (are_distinct (λ a b. same_text a.name b.name) d.handlers) fits.handlers_fits) in
    let procedures_few = leb-true (length d.procedures) 64 (few_of (nat_le (length d.procedures) 64) (list_all procedure_fits d.procedures) (are_distinct (λ a b. same_text a.name b.name) d.procedures) fits.procedures_fits) in
    let causes_few = leb-true (length d.causes) 4096 (few_of (nat_le (length d.causes) 4096) (list_all (cause_fits d.processors d.visits) d.causes) (are_distinct same_visit d.causes) fits.causes_fits) in
    let (handler_list, handlers_listed) = is_listed (top key.Handler) 64 (found_at (top key.Handler) t) (λ v h. IsTableOf (λ e. SaysHandlerDef (IsNameAt d.handlers) e h) v) d.handlers says.handlers_are handlers_few in
    let (procedure_list, procedures_listed) = is_listed (top key.Procedure) 64 (found_at (top key.Procedure) t) (λ v p. IsTableOf (λ e. SaysProcedure e p) v) d.procedures says.procedures_are procedures_few in
    let (cause_list, causes_listed) = is_listed (top key.Cause) 4096 (found_at (top key.Cause) t) (λ v c. IsTableOf (λ e. SaysCause e c) v) d.causes says.causes_are causes_few in
    let lists : lists_checked t h ≡ Ok h =
    joined (smram_at t) (λ smram_there. read_then (wave_entries h.visits t) (λ wave_there. read_then (handler_entries t) (λ handler_there. read_then (procedure_entries t) (λ procedure_there. read_then (cause_entries t) (λ cause_there. and_no_other Top (keys_by h.policy) t h))))) (smram.found) (h) (smram.listed)
    (joined (wave_entries h.visits t) (λ wave_there. read_then (handler_entries t) (λ handler_there. read_then (procedure_entries t) (λ procedure_there. read_then (cause_entries t) (λ cause_there. and_no_other Top (keys_by h.policy) t h)))) (wave_list) (h) (waves_listed)
    (joined (handler_entries t) (λ handler_there. read_then (procedure_entries t) (λ procedure_there. read_then (cause_entries t) (λ cause_there. and_no_other Top (keys_by h.policy) t h))) (handler_list) (h) (handlers_listed)
    (joined (procedure_entries t) (λ procedure_there. read_then (cause_entries t) (λ cause_there. and_no_other Top (keys_by h.policy) t h)) (procedure_list) (h) (procedures_listed)
    (joined (cause_entries t) (λ cause_there. and_no_other Top (keys_by h.policy) t h) (cause_list) (h) (causes_listed) (others_read Top (keys_by h.policy) (names_by h.policy ++ top_names) (names_known h.policy) t h says.only))))) in
    let all_tables : tables_at t h ≡ Ok d =
    joined (area_at t) (λ smram. read_then (waves_at h.processors h.visits t) (λ waves. read_then (handlers_at t) (λ handlers. read_then (procedures_at t) (λ procedures. read_then (causes_at h.processors h.visits t) (λ causes. read_then (limits_judged h smram) (λ judged. Ok (setup_of h smram waves handlers procedures causes))))))) (d.smram) (d) (joined (smram_at t) area_of smram.found d.smram smram.listed smram.read)
    (joined (waves_at h.processors h.visits t) (λ waves. read_then (handlers_at t) (λ handlers. read_then (procedures_at t) (λ procedures. read_then (causes_at h.processors h.visits t) (λ causes. read_then (limits_judged h d.smram) (λ judged. Ok (setup_of h d.smram waves handlers procedures causes)))))) (d.waves) (d) (joined (wave_entries d.visits t) (each (wave_after d.processors) []) wave_list d.waves waves_listed waves_are)
    (joined (handlers_at t) (λ handlers. read_then (procedures_at t) (λ procedures. read_then (causes_at h.processors h.visits t) (λ causes. read_then (limits_judged h d.smram) (λ judged. Ok (setup_of h d.smram d.waves handlers procedures causes))))) (d.handlers) (d) (handlers_read t d.handlers says.handlers_are fits.handlers_fits fits.handlers_words)
    (joined (procedures_at t) (λ procedures. read_then (causes_at h.processors h.visits t) (λ causes. read_then (limits_judged h d.smram) (λ judged. Ok (setup_of h d.smram d.waves d.handlers procedures causes)))) (d.procedures) (d) (procedures_read t d.procedures says.procedures_are fits.procedures_fits)
    (joined (causes_at h.processors h.visits t) (λ causes. read_then (limits_judged h d.smram) (λ judged. Ok (setup_of h d.smram d.waves d.handlers d.procedures causes))) (d.causes) (d) (causes_read d.processors d.visits t d.causes says.causes_are fits.causes_fits fits.causes_ports)
    (joined (limits_judged h d.smram) (λ judged. Ok (setup_of h d.smram d.waves d.handlers d.procedures d.causes)) (tt) (d) (limits_read h d.smram fits.events_few fits.smram_room) (refl)))))) in
    joined (head_at t) (tables_at t) h d (joined (keys_read t) (lists_checked t) h h (setup_keys t d says fits) lists) all_tables

-- a document says at most one setup that fits
pub setup_is_one : (t : Members) (d e : SetupData) → Says t d → Fits d → Says t e → Fits e → d ≡ e
setup_is_one t d e says fits says_too fits_too = same_ok d e (sym (setup_is_read t d says fits) ∙ setup_is_read t e says_too fits_too)
