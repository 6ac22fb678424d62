-- A turn whose event is kept last.
use Rattle.std.proofs.Common.{◌≡◌, ◌-◌, ℕ, List, [], ◌∷◌, ◌++◌, Some, length, set, refl, sym, ap, ◌∙◌, arith, append-nil, length-append, slice_index_or}
use Rattle.std.proofs.Math.Seq.{set-append_seam}
use Rattle.std.specs.Prelude.{slice_get}
use Rattle.sync_words.specs.declared.event.Event.{Event}
use Rattle.sync_words.specs.declared.label.Label.{Label}
use Rattle.rendezvous_core.specs.declared.stepped.Stepped.{Stepped}
use Rattle.rendezvous_core.specs.declared.stepped.Stepped.TheVariants as stepped
use Rattle.rendezvous_core.specs.declared.turned.Turned.{Turned}
use Rattle.rendezvous_core.specs.Turns.{turned_of, events_with, with_last, stepped_from}
use Rattle.rendezvous_core.specs.Worlds.{Replay, step, with_event, MakesNoEvent}
use Rattle.rendezvous_core.proofs.Scheduling.{step_stays}
use Rattle.rendezvous_core.proofs.Steps.{same_replay}

pub events_same : (s : Stepped) (es : List Event) → events_with s es ≡ es ++ with_event s []
events_same (stepped.Event e) es = refl
events_same (stepped.Waiting found) es = sym (append-nil es)
events_same stepped.Off es = sym (append-nil es)

last_or : (es : List Event) (e d : Event) → slice_index_or (es ++ e ∷ []) (length es) d ≡ e
last_or [] e d = refl
last_or (x ∷ es) e d = last_or es e d

-- the event that was kept last says another label
pub label_kept : (es items : List Event) (e d kept : Event) (n : ℕ) (l : Label) → items ≡ es ++ e ∷ [] → n ≡ length es → kept ≡ slice_index_or items n d
    → set items n (record kept { label = l }) ≡ es ++ record e { label = l } ∷ []
label_kept es items e d kept n l is last found = rw (found, is, last, last_or es e d) (set-append_seam es e [] (record e { label = l }))

last_at : (es : List Event) (e : Event) → slice_get (es ++ e ∷ []) (length es) ≡ Some e
last_at [] e = refl
last_at (x ∷ es) e = last_at es e

last_is : (es : List Event) (e : Event) → slice_get (es ++ e ∷ []) (length (es ++ e ∷ []) - 1) ≡ Some e
last_is es e =
    let place : length (es ++ e ∷ []) - 1 ≡ length es = omega (arith, length-append es (e ∷ [])) in
    ap (slice_get (es ++ e ∷ [])) place ∙ last_at es e

stepped_is : (s : Stepped) (es : List Event) → stepped_from (turned_of s) (es ++ with_event s []) ≡ s
stepped_is (stepped.Event e) es = ap with_last (last_is es e)
stepped_is (stepped.Waiting found) es = refl
stepped_is stepped.Off es = refl

pub stepped_again : (s : Stepped) (es news : List Event) (t : Turned) → t ≡ turned_of s → news ≡ es ++ with_event s [] → stepped_from t news ≡ s
stepped_again s es news t turned events = ap (λ u. stepped_from u news) turned ∙ ap (stepped_from (turned_of s)) events ∙ stepped_is s es

no_more : (s : Stepped) (es : List Event) → MakesNoEvent s → es ++ with_event s [] ≡ es
no_more (stepped.Event e) es h = absurd h
no_more (stepped.Waiting found) es h = append-nil es
no_more stepped.Off es h = append-nil es

pub stays_without : (r n : Replay) (i : ℕ) → n.processors ≡ r.processors → n.world ≡ (step r.world i).1 → n.events ≡ r.events ++ with_event (step r.world i).0 [] → n.room ≡ r.room
    → MakesNoEvent (step r.world i).0 → n ≡ r
stays_without r n i processors world events room h =
    same_replay r n processors (world ∙ step_stays r.world i h) (events ∙ no_more (step r.world i).0 r.events h) room
