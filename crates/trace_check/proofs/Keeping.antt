-- A label keeps a member for each processor, and the platform.
use Rattle.std.proofs.Common.{◌≡◌, ℕ, Bool, true, false, length, refl, sym, ap, ◌∙◌, length-set}
use Rattle.std.proofs.lemmas.List.{length-map}
use Rattle.sync_words.specs.declared.label.Label.{Label}
use Rattle.sync_words.specs.declared.label.Label.TheVariants as say
use Rattle.rendezvous_machine.specs.declared.phase.Phase.TheVariants.{Gone}
use Rattle.rendezvous_machine.specs.Effects.{enclosed, cleared}
use Rattle.serving_judge.specs.Judging.{Judging}
use Rattle.trace_check.specs.Judged.{Judged, setup_of}
use Rattle.trace_check.specs.Verdicts.{is_over}
use Rattle.trace_members.specs.Changes.{in_phase}
use Rattle.trace_check.specs.Afterwards.{said, ran_by, unless, after_label}

pub size_after : (j : Judged) (i : ℕ) (l : Label) → length (after_label j i l).members ≡ length j.members
size_after j i say.Enter = length-set j.members i _
size_after j i say.Turn = length-set j.members i _
size_after j i say.Arrive = length-set j.members i _
size_after j i say.Late = length-set j.members i _
size_after j i say.Quit = length-set j.members i _
size_after j i say.Report = length-set j.members i _
size_after j i (say.Close n) = length-map j.members enclosed
size_after j i (say.Write c register width x S) = length-set j.members c _
size_after j i (say.Start c n p a) = length-set j.members c _
size_after j i (say.Run n x S) = length-set j.members i _
size_after j i (say.Collect c) = length-set j.members c _
size_after j i (say.Release c) = length-set j.members c _
size_after j i say.Depart = length-set j.members i _
size_after j i say.End = length-map (in_phase i Gone j.members) cleared ∙ length-set j.members i _
size_after j i (say.Resume how) = length-set j.members i _
size_after j i say.Off = length-set j.members i _
size_after j i _ = refl

unless_setup : (b : Bool) (old new : Judging) → new.setup ≡ old.setup → (unless b old new).setup ≡ old.setup
unless_setup true old new e = refl
unless_setup false old new e = e

pub setup_after : (j : Judged) (i : ℕ) (l : Label) → setup_of (after_label j i l) ≡ setup_of j
setup_after j i (say.Run n x S) = unless_setup (is_over j) j.judging (ran_by i x S j.judging) refl
setup_after j i (say.Collect c) = unless_setup (is_over j) j.judging (said (say.Collect c) j.judging) refl
setup_after j i _ = refl

-- there is still a member for each processor
pub stays_kept : (j : Judged) (i : ℕ) (l : Label) → length j.members ≡ (setup_of j).processors → length (after_label j i l).members ≡ (setup_of (after_label j i l)).processors
stays_kept j i l e = size_after j i l ∙ e ∙ ap (λ d. d.processors) (sym (setup_after j i l))
