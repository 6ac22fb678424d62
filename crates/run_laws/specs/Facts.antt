-- What the labels of a run tell of the session that it is in: who is in the closed set, which job waits to be run, and why a start is refused.
use Rattle.std.specs.Prelude.{◌≡◌, ◌≢◌, ◌<◌, ◌≤◌, ℕ, Bool, true, false, ◌||◌, ◌&&◌, ◌==◌, List, [], ◌∷◌, ◌++◌}
use Rattle.cpu_table.specs.Data.{SetupData}
use Rattle.sync_words.specs.declared.label.Label.{Label}
use Rattle.sync_words.specs.declared.label.Label.TheVariants as say
use Rattle.sync_words.specs.declared.label.StartRefusal.{StartRefusal}
use Rattle.sync_words.specs.declared.label.StartRefusal.TheVariants.{OutOfRange, BootProcessor, UnknownProcedure, Tokens, Busy, Absent}
use Rattle.rendezvous_machine.specs.Runs.{Said}
use Rattle.rendezvous_machine.specs.Histories.{has_end, is_run, HasSaid}

-- the actor said the label, in whatever session
pub record HasEverSaid (i : ℕ) (l : Label) (es : List Said) : Type 0 where
  pub front : List Said
  pub back : List Said
  pub whole : es ≡ front ++ ((i, l) ∷ back)

abbrev pub is_quit : Label → Bool
is_quit say.Quit = true
is_quit _ = false

-- the processor gives up waiting in the list
abbrev pub has_quit : ℕ → List Said → Bool
has_quit j [] = false
has_quit j (e ∷ es) = (is_quit e.1 && e.0 == j) || has_quit j es

-- the processor runs the job with this number in the list
abbrev pub has_run : ℕ → ℕ → List Said → Bool
has_run c j [] = false
has_run c j (e ∷ es) = is_run c j e || has_run c j es

-- The processor is in the closed set of the session: it was counted in, it hadn't given up when the session was closed, and no
-- session has ended since it was counted.
pub record IsEnclosed (j : ℕ) (es : List Said) : Type 0 where
  pub front : List Said
  pub middle : List Said
  pub back : List Said
  pub closer : ℕ
  pub count : ℕ
  pub whole : es ≡ front ++ ((j, say.Arrive) ∷ (middle ++ ((closer, say.Close count) ∷ back)))
  pub stayed : has_quit j middle ≡ false
  pub same_session : has_end middle ≡ false
  pub since : has_end back ≡ false

-- The job with this number was given to the processor, since then no session has ended, and the processor hasn't run it.
pub record HasJob (c j : ℕ) (es : List Said) : Type 0 where
  pub front : List Said
  pub back : List Said
  pub giver : ℕ
  pub procedure : ℕ
  pub argument : ℕ
  pub whole : es ≡ front ++ ((giver, say.Start c j procedure argument) ∷ back)
  pub waits : has_run c j back ≡ false
  pub since : has_end back ≡ false

-- it is another processor of the platform
abbrev pub IsOther : SetupData → ℕ → ℕ → Type 0
IsOther d i c = (c < d.processors) × (c ≢ i)

-- Why this actor, which serves, doesn't give the processor a job. Of the procedure's name and of the tokens that are out the labels tell
-- only that the causes before them don't hold.
abbrev pub Explains : SetupData → List Said → ℕ → ℕ → StartRefusal → Type 0
Explains d es i c OutOfRange = d.processors ≤ c
Explains d es i c BootProcessor = c ≡ i
Explains d es i c UnknownProcedure = IsOther d i c
Explains d es i c Tokens = IsOther d i c
Explains d es i c Busy = IsOther d i c × ((j : ℕ) × HasJob c j es)
Explains d es i c Absent = IsOther d i c × (HasSaid c say.Report es → ⊥)
