-- One step more, and the end, of the replay of a schedule.
use Rattle.std.proofs.Common.{◌≡◌, ℕ, ◌+◌, ◌<◌, ◌≤◌, List, [], ◌∷◌, ◌++◌, length, drop, get_or, refl, ap, sym, ◌∙◌, arith, append_assoc, append-nil, length-append, add-one}
use Rattle.std.proofs.Math.Seq.{drop-cons}
use Rattle.std.proofs.lemmas.List.{drop_all}
use Rattle.sync_words.specs.declared.event.Event.{Event}
use Rattle.rendezvous_core.specs.Worlds.{World, step, with_event, events_from, world_after}
use Rattle.rendezvous_core.specs.declared.stepped.Stepped.{Stepped}
use Rattle.rendezvous_core.specs.declared.stepped.Stepped.TheVariants as stepped

pub with_event_append : (s : Stepped) (es : List Event) → with_event s [] ++ es ≡ with_event s es
with_event_append (stepped.Event e) es = refl
with_event_append (stepped.Waiting found) es = refl
with_event_append stepped.Off es = refl

next_actor : (xs : List ℕ) (i d : ℕ) → i < length xs → drop i xs ≡ get_or xs i d ∷ drop (i + 1) xs
next_actor xs i d within = drop-cons xs i d within ∙ ap (λ n. get_or xs i d ∷ drop n xs) (sym (add-one i))

-- one step more keeps the events of the whole schedule
pub step_events : (w w' : World) (es es' : List Event) (xs : List ℕ) (i d : ℕ) (s : Stepped) → i < length xs →
    s ≡ (step w (get_or xs i d)).0 → w' ≡ (step w (get_or xs i d)).1 → es' ≡ es ++ with_event s [] →
    es' ++ events_from w' (drop (i + 1) xs) ≡ es ++ events_from w (drop i xs)
step_events w w' es es' xs i d s within s_is w_is events_are =
    let rest = drop (i + 1) xs in
    ap (λ e. e ++ events_from w' rest) events_are
    ∙ append_assoc es (with_event s []) (events_from w' rest)
    ∙ ap (λ e. es ++ e) (with_event_append s (events_from w' rest) ∙ ap (λ x. with_event x (events_from w' rest)) s_is ∙ ap (λ x. with_event (step w (get_or xs i d)).0 (events_from x rest)) w_is)
    ∙ sym (ap (λ ys. es ++ events_from w ys) (next_actor xs i d within))

-- and so it does the world
pub step_world : (w w' : World) (xs : List ℕ) (i d : ℕ) → i < length xs → w' ≡ (step w (get_or xs i d)).1 →
    world_after w' (drop (i + 1) xs) ≡ world_after w (drop i xs)
step_world w w' xs i d within w_is = ap (λ x. world_after x (drop (i + 1) xs)) w_is ∙ sym (ap (λ ys. world_after w ys) (next_actor xs i d within))

-- an event at most comes of a step
pub step_few : (es es' : List Event) (n : ℕ) (s : Stepped) (i : ℕ) → length es ≤ n + i → es' ≡ es ++ with_event s [] → length es' ≤ n + (i + 1)
step_few es es' n (stepped.Event e) i few is = omega (arith, ap length is, length-append es (e ∷ []))
step_few es es' n (stepped.Waiting found) i few is = omega (arith, ap length is, length-append {A = Event} es [])
step_few es es' n stepped.Off i few is = omega (arith, ap length is, length-append {A = Event} es [])

-- at the end nothing is left
pub end_events : (w : World) (es all : List Event) (xs : List ℕ) (i : ℕ) → length xs ≤ i → es ++ events_from w (drop i xs) ≡ all → es ≡ all
end_events w es all xs i past is = sym (append-nil es) ∙ sym (ap (λ ys. es ++ events_from w ys) (drop_all i xs past)) ∙ is

pub end_world : (w all : World) (xs : List ℕ) (i : ℕ) → length xs ≤ i → world_after w (drop i xs) ≡ all → w ≡ all
end_world w all xs i past is = sym (ap (λ ys. world_after w ys) (drop_all i xs past)) ∙ is
