-- A label that is taken is said, and the place after it keeps what a place keeps.
use Rattle.std.proofs.Common.{◌≡◌, ℕ, true, Option, Some, None}
use Rattle.smm_base.specs.declared.status.Status.{Status}
use Rattle.cpu_table.specs.declared.handlers.OpDef.{OpDef}
use Rattle.sync_words.specs.declared.label.Label.{Label}
use Rattle.sync_words.specs.declared.label.Label.TheVariants as say
use Rattle.serving_place.specs.Serving.{Serving, ran, tokens_out}
use Rattle.serving_place.specs.Forms.{Program, Own}
use Rattle.serving_place.specs.Places.{Place, next}
use Rattle.serving_place.specs.Due.{due}
use Rattle.serving_place.specs.Progresses.{Goes}
use Rattle.serving_place.specs.Sayings.{Fits, label_in, operation_due}
use Rattle.serving_place.proofs.Going.{JobDue, next_goes, ran_goes}
use Rattle.serving_judge.specs.Tests.{accepts_own}
use Rattle.serving_judge.specs.Dues.{HasTokenRoom, saying_of}
use Rattle.serving_judge.proofs.Fitting.{is_said}

pub fits_now : (program : Program) (p : Place) (l : Label) → accepts_own program p l ≡ true → HasTokenRoom l (operation_due (due program p)) (tokens_out p.state)
    → Fits (saying_of l) (operation_due (due program p)) p.state
fits_now program p l e room = (is_said program.procedures p.state l (due program p) e room).fits

pub said_now : (program : Program) (p : Place) (l : Label) → accepts_own program p l ≡ true → HasTokenRoom l (operation_due (due program p)) (tokens_out p.state)
    → label_in p.state.pool (saying_of l) ≡ l
said_now program p l e room = (is_said program.procedures p.state l (due program p) e room).is

next_job : (o : Option OpDef) (l : Label) (s : Serving) → Fits (saying_of l) o s → JobDue o l s.given
next_job None l s h = tt
next_job (Some o) (say.Start c j p a) s h = h.0
next_job (Some o) _ s h = tt

pub goes_on : (program : Program) (n : ℕ) (p : Place) (l : Label) → accepts_own program p l ≡ true → HasTokenRoom l (operation_due (due program p)) (tokens_out p.state)
    → Goes n p → Goes n (next program p (Own l))
goes_on program n p l e room g = next_goes program n p l (next_job (operation_due (due program p)) l p.state (fits_now program p l e room)) g

pub runs_on : (n : ℕ) (p : Place) (c x : ℕ) (S : Status) → Goes n p → Goes n (record p { state = ran c x S p.state })
runs_on n p c x S g = ran_goes n p c x S g
