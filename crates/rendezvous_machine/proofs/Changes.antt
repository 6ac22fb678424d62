-- What a label makes of the session.
use Rattle.std.proofs.Common.{◌≡◌, ℕ, Bool, true, IfSome, IsSomeAnd, Option, Some, None, is_some, refl}
use Rattle.std.specs.Option.{option_map}
use Rattle.cpu_table.specs.Data.{SetupData}
use Rattle.sync_words.specs.declared.label.Label.{Label}
use Rattle.sync_words.specs.declared.label.Label.TheVariants as say
use Rattle.serving_place.specs.Forms.{Own, Ran}
use Rattle.rendezvous_machine.specs.Machines.{Machine, Session}
use Rattle.rendezvous_machine.specs.Listed.{place_of, is_over}
use Rattle.rendezvous_machine.specs.Effects.{effect, opened, serves, gathers, made_ready, has_expired, made_closed, made_begun, made_done, says, hears}

abbrev pub step_of : Bool → ℕ → Label → Session → Session
step_of over i say.Silent s = s
step_of over i (say.Excepted e) s = s
step_of over i (say.Wave w) s = s
step_of over i say.Enter s = s
step_of over i say.Turn s = s
step_of over i say.Arrive s = s
step_of over i say.Late s = s
step_of over i say.Elect s = s
step_of over i (say.Served w) s = serves w s
step_of over i (say.Gather e) s = gathers e s
step_of over i (say.Ready n) s = made_ready s
step_of over i (say.Expire k) s = has_expired k s
step_of over i say.Quit s = s
step_of over i say.Report s = s
step_of over i (say.Close n) s = made_closed s
step_of over i (say.Begin w) s = made_begun w s
step_of over i (say.Run j x S) s = hears over (Ran i j x S) s
step_of over i (say.Collect c) s = hears over (Own (say.Collect c)) s
step_of over i say.Done s = made_done s
step_of over i (say.Release c) s = s
step_of over i say.Depart s = s
step_of over i say.End s = s
step_of over i (say.Resume how) s = s
step_of over i say.Off s = s
step_of over i l s = says l s

abbrev pub session_after : Bool → ℕ → Label → Option Session → Option Session
session_after over i say.Elect o = Some (opened i)
session_after over i say.End o = None
session_after over i l o = option_map (step_of over i l) o

same : (o : Option Session) → o ≡ option_map (λ s. s) o
same None = refl
same (Some s) = refl

pub session_is : (d : SetupData) (m : Machine) (i : ℕ) (l : Label) → (effect d m i l).session ≡ session_after (is_over (place_of d m)) i l m.session
session_is d m i say.Silent = same m.session
session_is d m i (say.Excepted e) = same m.session
session_is d m i (say.Wave w) = same m.session
session_is d m i say.Enter = same m.session
session_is d m i say.Turn = same m.session
session_is d m i say.Arrive = same m.session
session_is d m i say.Late = same m.session
session_is d m i say.Quit = same m.session
session_is d m i say.Report = same m.session
session_is d m i (say.Release c) = same m.session
session_is d m i say.Depart = same m.session
session_is d m i (say.Resume how) = same m.session
session_is d m i say.Off = same m.session
session_is d m i _ = refl

-- what holds of a session, with what the rule says of it, gives what holds of it after the label
pub with_rule : (o : Option Session) (F P Q : Session → Type 0) (f : Session → Session)
    → ((s : Session) → F s → P s → Q (f s)) → IsSomeAnd o F → IfSome o P → IfSome (option_map f o) Q
with_rule None F P Q f k r h = tt
with_rule (Some s) F P Q f k r h = k s r h

pub without_rule : (o : Option Session) (P Q : Session → Type 0) (f : Session → Session)
    → ((s : Session) → P s → Q (f s)) → IfSome o P → IfSome (option_map f o) Q
without_rule None P Q f k h = tt
without_rule (Some s) P Q f k h = k s h

-- a session that is there after a label that neither elects nor ends was there before it
pub there : (o : Option Session) (f : Session → Session) → is_some o ≡ true → is_some (option_map f o) ≡ true
there None f h = h
there (Some s) f h = refl
