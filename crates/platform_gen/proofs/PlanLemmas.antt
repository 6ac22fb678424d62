-- How a plan grows draw by draw, and that what it makes has its ranges.
use Rattle.std.proofs.Common.{◌≡◌, ℕ, suc, ◌+◌, ◌*◌, ◌<◌, ◌≤◌, IsTrue, true, List, [], ◌∷◌, ◌++◌, length, map, take, get_or, refl, ap, sym, subst, ◌∙◌, le-leb, eq-eqb, arith}
use Rattle.std.specs.List.{flat_map, list_all, range_with_len}
use Rattle.std.proofs.Math.Nat.{mul-le-mul_right, le_trans}
use Rattle.std.proofs.Math.Seq.{take-suc}
use Rattle.std.proofs.lemmas.List.{flat_map_more, length-map, map-id}
use Rattle.std.proofs.lemmas.List.FromFn.{length-map-range_with_len, map-range_with_len_more}
use Rattle.cpu_table.specs.Ranges.{events_at_most, handlers_fit, op_fits, waves_fit}
use Rattle.cpu_table.specs.declared.handlers.HandlerDef.{HandlerDef}
use Rattle.cpu_table.specs.declared.waves.Arrival.{Arrival}
use Rattle.cpu_table.specs.declared.waves.Wave.{Wave}
use Rattle.platform_gen.specs.Draws.{drawn, next_state, state_after, draw}
use Rattle.platform_gen.specs.Plans.{PlanFits, arrival_by, handler_of, op_of, plan_from, statuses_from, wave_of, writes_from, writes_of}
use Rattle.platform_gen.specs.Texts.{file_text, mode_word, statuses_text, text_of, writes_text}
use Rattle.platform_gen.specs.declared.plan.Plan.{Plan}
use Rattle.platform_gen.specs.declared.plan.RaxWrite.{RaxWrite}

from_nothing : (i : ℕ) → 0 + i ≡ i
from_nothing i = omega arith

-- one more draw
state_more : (x k : ℕ) → state_after x (k + 1) ≡ next_state (state_after x k)
state_more x k = let more : k + 1 ≡ suc k = omega arith in ap (state_after x) more

pub state_step : (x k state next : ℕ) → state ≡ state_after x k → next ≡ next_state state → next ≡ state_after x (k + 1)
state_step x k state next so_far is = is ∙ ap next_state so_far ∙ sym (state_more x k)

-- one more status
pub status_step : (x i state d : ℕ) (status : Arrival) (before after : List Arrival) → before ≡ statuses_from x i → state ≡ state_after x i → d ≡ drawn (next_state state) → status ≡ arrival_by i d → after ≡ before ++ status ∷ [] → after ≡ statuses_from x (i + 1)
status_step x i state d status before after so_far at draws told grows =
    let found : status ≡ arrival_by i (draw x i) = told ∙ ap (arrival_by i) (draws ∙ ap (λ s. drawn (next_state s)) at) in
    grows ∙ (λ t. so_far t ++ found t ∷ []) ∙ sym (map-range_with_len_more (λ cpu. arrival_by cpu (draw x cpu)) 0 i i (from_nothing i))

-- one more write
pub write_step : (x i state d : ℕ) (write : RaxWrite) (before after : List RaxWrite) → before ≡ writes_from x i → state ≡ state_after x i → d ≡ drawn (next_state state) → write ≡ record { cpu = i; value = d } → after ≡ before ++ write ∷ [] → after ≡ writes_from x (i + 1)
write_step x i state d write before after so_far at draws is grows =
    let value : d ≡ draw x i = draws ∙ ap (λ s. drawn (next_state s)) at in
    let found : write ≡ record { cpu = i; value = draw x i } = is ∙ (λ t. record { cpu = i; value = value t }) in
    grows ∙ (λ t. so_far t ++ found t ∷ []) ∙ sym (map-range_with_len_more (λ cpu. record { cpu = cpu; value = draw x cpu }) 0 i i (from_nothing i))

-- one more number
pub number_step : (i : ℕ) (before after : List ℕ) → before ≡ range_with_len 0 i → after ≡ before ++ i ∷ [] → after ≡ range_with_len 0 (i + 1)
number_step i before after so_far grows =
    grows
    ∙ ap (λ xs. xs ++ i ∷ []) (so_far ∙ sym (map-id (range_with_len 0 i)))
    ∙ sym (map-range_with_len_more (λ number. number) 0 i i (from_nothing i))
    ∙ map-id (range_with_len 0 (i + 1))

-- one more item of a list
item_more : {X : Type 0} (xs : List X) (i : ℕ) (d : X) → i < length xs → take (i + 1) xs ≡ take i xs ++ get_or xs i d ∷ []
item_more xs i d within = let more : i + 1 ≡ suc i = omega arith in ap (λ k. take k xs) more ∙ take-suc xs i d within

-- one more entry of a text
pub entry_step : {X : Type 0} (f : X → List ℕ) (xs : List X) (i : ℕ) (d : X) (start before after : List ℕ) → i < length xs → before ≡ start ++ flat_map f (take i xs) → after ≡ before ++ f (get_or xs i d) → after ≡ start ++ flat_map f (take (i + 1) xs)
entry_step f xs i d start before after within so_far grows =
    grows
    ∙ ap (λ text. text ++ f (get_or xs i d)) so_far
    ∙ flat_map_more f start (take i xs) (get_or xs i d)
    ∙ ap (λ ys. start ++ flat_map f ys) (sym (item_more xs i d within))

-- at most 64 processors are written to
few_are_written : (n : ℕ) → n ≤ 64 → writes_of n ≤ 64
few_are_written n few = grind arith

-- a plan of 1 to 64 processors has its ranges
pub plan_fits : (plan : Plan) (n x : ℕ) → 1 ≤ n → n ≤ 64 → plan ≡ plan_from n x → PlanFits plan
plan_fits plan n x some few is = subst PlanFits (sym is) (record {
  some = some;
  few = few;
  first_count = length-map-range_with_len _ 0 n;
  second_count = length-map-range_with_len _ 0 n;
  few_writes = subst (λ (k : ℕ). k ≤ 64) (sym (length-map-range_with_len _ 0 (writes_of n))) (few_are_written n few);
})

ops_fit : (writes : List RaxWrite) → list_all (op_fits 1) (map op_of writes) ≡ true
ops_fit [] = refl
ops_fit (w ∷ ws) = ops_fit ws

-- the one handler has its ranges
one_is_fit : (writes : List RaxWrite) → length writes ≤ 64 → IsTrue (handlers_fit (handler_of writes ∷ []))
one_is_fit writes few =
    let count : length (map op_of writes) ≡ length writes = length-map writes op_of in
    rw (le-leb (length (map op_of writes)) 64 (omega (arith, count, few)), ops_fit writes) refl

pub handler_is_fit : (handlers : List HandlerDef) (writes : List RaxWrite) → handlers ≡ handler_of writes ∷ [] → length writes ≤ 64 → IsTrue (handlers_fit handlers)
handler_is_fit handlers writes is few = subst (λ hs. IsTrue (handlers_fit hs)) (sym is) (one_is_fit writes few)

-- the two waves have their ranges
two_are_fit : (first second : List Arrival) (n : ℕ) → length first ≡ n → length second ≡ n → IsTrue (waves_fit n 8 (wave_of first ∷ wave_of second ∷ []))
two_are_fit first second n one two = rw (eq-eqb (length first) n one, eq-eqb (length second) n two) refl

pub waves_are_fit : (waves : List Wave) (first second : List Arrival) (n : ℕ) → waves ≡ wave_of first ∷ wave_of second ∷ [] → length first ≡ n → length second ≡ n → IsTrue (waves_fit n 8 waves)
waves_are_fit waves first second n is one two = subst (λ ws. IsTrue (waves_fit n 8 ws)) (sym is) (two_are_fit first second n one two)

-- the limits of a generated platform allow fewer events than any platform may have
pub few_events : (n : ℕ) → n ≤ 64 → events_at_most n 16 16 8 64 ≤ 4194304
few_events n few =
    let visits : 8 * (40 + 16 + 16 + 10 * n + 5 * 64) ≤ 8256 = omega (arith, few) in
    le_trans (mul-le-mul_right (n + 1) visits) (omega (arith, few))

-- a file with the texts of a plan's parts tells the plan
pub text_is : (plan : Plan) (text mode first second ops : List ℕ) → mode ≡ mode_word plan.mode → first ≡ statuses_text plan.first → second ≡ statuses_text plan.second → ops ≡ writes_text plan.writes → text ≡ file_text plan.processors mode first second ops → text ≡ text_of plan
unfolding text_of
text_is plan text mode first second ops m f s o is = is ∙ (λ t. file_text plan.processors (m t) (f t) (s t) (o t))
