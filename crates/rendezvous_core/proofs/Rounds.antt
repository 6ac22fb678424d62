-- Rounds: while not all are off each makes an event, so that all are off after as many as there can be events.
use Rattle.std.proofs.Common.{◌≡◌, ◌<◌, ◌≤◌, ◌⊎◌, inl, inr, ℕ, zero, suc, ◌+◌, ◌-◌, Bool, true, false, List, [], ◌∷◌, ◌++◌, length, refl, ap, sym, subst, ◌∙◌, arith, length-append}
use Rattle.std.specs.Prelude.{All}
use Rattle.std.specs.List.{range_with_len}
use Rattle.std.proofs.lemmas.List.Elements.{All-append, All-cons, All-nil}
use Rattle.sync_words.specs.declared.event.Event.{Event}
use Rattle.rendezvous_core.specs.Endings.{MakesEvent, CanGoOn, IsNeverStuck}
use Rattle.rendezvous_core.specs.declared.stepped.Stepped.{Stepped}
use Rattle.rendezvous_core.specs.declared.stepped.Stepped.TheVariants as stepped
use Rattle.rendezvous_core.specs.Worlds.{World, Replay, step, with_event, events_from, world_after, is_complete, MakesNoEvent}
use Rattle.rendezvous_core.proofs.Scheduling.{events_append, world_append, step_stays, step_actors}
use Rattle.rendezvous_core.specs.Finishes.{round_of, rounds, played_on, HasRoomForAll}
use Rattle.rendezvous_core.proofs.Steps.{played_more, still_goes_on, still_has_room, replay_stays, complete_stays, room_for_event}

-- A RANGE OF ACTORS

range_next : (from k : ℕ) → range_with_len from (suc k) ≡ range_with_len from k ++ (from + k) ∷ []
range_next from zero = let e : from ≡ from + 0 = omega arith in ap (λ (x : ℕ). x ∷ []) e
range_next from (suc k) =
    let e : (from + 1) + k ≡ from + suc k = omega arith in
    ap (λ (xs : List ℕ). from ∷ xs) (range_next (from + 1) k ∙ ap (λ (x : ℕ). range_with_len (from + 1) k ++ x ∷ []) e)

pub range_more : (k : ℕ) → range_with_len 0 (k + 1) ≡ range_with_len 0 k ++ k ∷ []
range_more k =
    let up : k + 1 ≡ suc k = omega arith in
    let at : 0 + k ≡ k = omega arith in
    ap (range_with_len 0) up ∙ range_next 0 k ∙ ap (λ (x : ℕ). range_with_len 0 k ++ x ∷ []) at

range_known : (from n most : ℕ) → from + n ≤ most + 1 → All (λ (a : ℕ). a ≤ most) (range_with_len from n)
range_known from zero most h = All-nil (λ (a : ℕ). a ≤ most)
range_known from (suc n) most h = All-cons (λ (a : ℕ). a ≤ most) from (range_with_len (from + 1) n) (omega (arith, h)) (range_known (from + 1) n most (omega (arith, h)))

-- each actor of a round is a processor or the chipset
pub rounds_known : (processors count : ℕ) → All (λ (a : ℕ). a ≤ processors) (rounds processors count)
rounds_known processors zero = All-nil (λ (a : ℕ). a ≤ processors)
rounds_known processors (suc count) =
    All-append (λ (a : ℕ). a ≤ processors) (round_of processors) (rounds processors count) (range_known 0 (processors + 1) processors (omega arith)) (rounds_known processors count)

-- one actor more of a round
pub round_more : (r : Replay) (k : ℕ) → played_on (played_on r (range_with_len 0 k)) (k ∷ []) ≡ played_on r (range_with_len 0 (k + 1))
round_more r k = played_more r (range_with_len 0 k) (k ∷ []) ∙ ap (played_on r) (sym (range_more k))

some_event : (s : Stepped) (es : List Event) → MakesEvent s → 1 ≤ length (with_event s es)
some_event (stepped.Event e) es h = omega arith
some_event (stepped.Waiting found) es h = absurd h
some_event stepped.Off es h = absurd h

-- the first of a range makes an event, or changes nothing for the rest
later : (w : World) (from n j : ℕ) → MakesEvent (step w j).0 → (MakesEvent (step (step w from).1 j).0 → 1 ≤ length (events_from (step w from).1 (range_with_len (from + 1) n)))
    → 1 ≤ length (events_from w (range_with_len from (suc n)))
later w from n j h rest = by_step (step w from).0 refl
  where
    idle : MakesNoEvent (step w from).0 → 1 ≤ length (events_from (step w from).1 (range_with_len (from + 1) n))
    idle none = rest (subst (λ (v : World). MakesEvent (step v j).0) (sym (step_stays w from none)) h)

    by_step : (s : Stepped) → (step w from).0 ≡ s → 1 ≤ length (with_event s (events_from (step w from).1 (range_with_len (from + 1) n)))
    by_step (stepped.Event e) is = omega arith
    by_step (stepped.Waiting found) is = idle (subst MakesNoEvent (sym is) tt)
    by_step stepped.Off is = idle (subst MakesNoEvent (sym is) tt)

-- a range of actors, one of whom would make an event now, makes one
range_makes : (w : World) (from n k : ℕ) → k < n → MakesEvent (step w (from + k)).0 → 1 ≤ length (events_from w (range_with_len from n))
range_makes w from zero k below h = absurd (omega (arith, below))
range_makes w from (suc n) zero below h =
    let at : from + 0 ≡ from = omega arith in
    some_event (step w from).0 (events_from (step w from).1 (range_with_len (from + 1) n)) (subst (λ (x : ℕ). MakesEvent (step w x).0) at h)
range_makes w from (suc n) (suc k) below h =
    let on : from + suc k ≡ (from + 1) + k = omega arith in
    later w from n ((from + 1) + k) (subst (λ (x : ℕ). MakesEvent (step w x).0) on h) (range_makes (step w from).1 (from + 1) n k (omega (arith, below)))

-- ROUNDS

different : (b : Bool) → b ≡ true → b ≡ false → ⊥
different true h k = cc
different false h k = cc

-- where not all are off, a round makes an event
pub round_makes : (w : World) (n : ℕ) → IsNeverStuck w → length w.actors ≡ n + 1 → is_complete w ≡ false → 1 ≤ length (events_from w (round_of n))
round_makes w n goes size on = by_case (goes [])
  where
    by_case : (is_complete w ≡ true) ⊎ CanGoOn w → 1 ≤ length (events_from w (round_of n))
    by_case (inl off) = absurd (different (is_complete w) off on)
    by_case (inr more) =
        let below = more.1 in
        let at : more.0 ≡ 0 + more.0 = omega arith in
        range_makes w 0 (n + 1) more.0 (omega (arith, below, size)) (subst (λ (x : ℕ). MakesEvent (step w x).0) at more.2)

-- WHAT IS LEFT OF THE ROUNDS

-- so many rounds are left, and not fewer than there is room for events
pub record IsOnItsWay (n : ℕ) (r now : Replay) : Type 0 where
  pub left : ℕ
  pub rest : played_on now (rounds n left) ≡ played_on r (rounds n r.room)
  pub enough : r.room ≤ length now.events + left
  pub goes_on : IsNeverStuck now.world
  pub has_room : HasRoomForAll now
  pub actors : length now.world.actors ≡ n + 1
  pub processors : now.processors ≡ n
  pub room : now.room ≡ r.room

pub at_first : (n : ℕ) (r : Replay) → IsNeverStuck r.world → HasRoomForAll r → length r.world.actors ≡ n + 1 → r.processors ≡ n → IsOnItsWay n r r
at_first n r goes room actors processors = record { left = r.room; rest = refl; enough = omega arith; goes_on = goes; has_room = room; actors = actors; processors = processors; room = refl }

pub after_actors : (w : World) (schedule : List ℕ) → length (world_after w schedule).actors ≡ length w.actors
after_actors w [] = refl
after_actors w (i ∷ rest) = after_actors (step w i).1 rest ∙ step_actors w i

-- a round more, where not all are off
pub one_round : (n : ℕ) (r now next : Replay) → IsOnItsWay n r now → is_complete now.world ≡ false → next ≡ played_on now (round_of n) → IsOnItsWay n r next
one_round n r now next h on is = subst (IsOnItsWay n r) (sym is) after
  where
    some : length now.events < now.room
    some = room_for_event now h.goes_on h.has_room on

    made : length now.events + 1 ≤ length (now.events ++ events_from now.world (round_of n))
    made =
        let one = round_makes now.world n h.goes_on h.actors on in
        let sum = length-append now.events (events_from now.world (round_of n)) in
        omega (arith, one, sum)

    one_less : h.left ≡ suc (h.left - 1)
    one_less = let enough = h.enough in let room = h.room in omega (arith, some, enough, room)

    after : IsOnItsWay n r (played_on now (round_of n))
    after =
        let enough = h.enough in
        record {
          left = h.left - 1;
          rest = played_more now (round_of n) (rounds n (h.left - 1)) ∙ ap (λ (k : ℕ). played_on now (rounds n k)) (sym one_less) ∙ h.rest;
          enough = omega (arith, enough, made, one_less);
          goes_on = still_goes_on now.world (round_of n) h.goes_on;
          has_room = still_has_room now (round_of n) h.has_room;
          actors = after_actors now.world (round_of n) ∙ h.actors;
          processors = h.processors;
          room = h.room;
        }

-- such a round leaves less room
pub room_falls : (n : ℕ) (r now next : Replay) → IsOnItsWay n r now → is_complete now.world ≡ false → next ≡ played_on now (round_of n) → next.room - length next.events < now.room - length now.events
room_falls n r now next h on is =
    let one = round_makes now.world n h.goes_on h.actors on in
    let sum = length-append now.events (events_from now.world (round_of n)) in
    let events = ap (λ (x : Replay). length x.events) is in
    let room = ap (λ (x : Replay). x.room) is in
    let fits = h.has_room (round_of n) in
    omega (arith, one, sum, events, room, fits)

-- where all are off, the rounds that are left change nothing
pub at_last : (n : ℕ) (r now : Replay) → IsOnItsWay n r now → is_complete now.world ≡ true → now ≡ played_on r (rounds n r.room)
at_last n r now h off = sym (replay_stays now (rounds n h.left) off) ∙ h.rest

-- THE END OF ALL ROUNDS

no_more : (w : World) → IsNeverStuck w → ((schedule : List ℕ) → length (events_from w schedule) ≤ 0) → is_complete w ≡ true
no_more w goes few = by_case (goes [])
  where
    by_case : (is_complete w ≡ true) ⊎ CanGoOn w → is_complete w ≡ true
    by_case (inl off) = off
    by_case (inr more) =
        let one = some_event (step w more.0).0 [] more.2 in
        let none = few (more.0 ∷ []) in
        absurd (omega (arith, one, none))

-- after as many rounds as there can be events all are off
pub rounds_end : (w : World) (n most : ℕ) → IsNeverStuck w → length w.actors ≡ n + 1 → ((schedule : List ℕ) → length (events_from w schedule) ≤ most) → is_complete (world_after w (rounds n most)) ≡ true
rounds_end w n zero goes size few = no_more w goes few
rounds_end w n (suc most) goes size few =
    let next : World = world_after w (round_of n) in
    let then_next : is_complete w ≡ false → is_complete (world_after next (rounds n most)) ≡ true =
    λ on.
    let one = round_makes w n goes size on in
    rounds_end next n most (still_goes_on w (round_of n) goes) (after_actors w (round_of n) ∙ size)
    (λ schedule.
    let whole = few (round_of n ++ schedule) in
    let two = ap length (events_append w (round_of n) schedule) in
    let sum = length-append (events_from w (round_of n)) (events_from next schedule) in
    omega (arith, whole, two, sum, one)) in
    by_case (is_complete w) refl then_next
  where
    by_case : (b : Bool) → is_complete w ≡ b → (is_complete w ≡ false → is_complete (world_after (world_after w (round_of n)) (rounds n most)) ≡ true) → is_complete (world_after w (rounds n (suc most))) ≡ true
    by_case true off go = ap is_complete (complete_stays w (rounds n (suc most)) off).0 ∙ off
    by_case false on go = ap is_complete (world_append w (round_of n) (rounds n most)) ∙ go on
