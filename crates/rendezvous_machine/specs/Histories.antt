-- What was said in a run, and in which session.
use Rattle.std.specs.Prelude.{◌≡◌, ◌<◌, ◌≤◌, ℕ, ◌+◌, Bool, true, false, ◌||◌, ◌&&◌, ◌==◌, List, [], ◌∷◌, ◌++◌}
use Rattle.cpu_table.specs.Data.{SetupData}
use Rattle.sync_words.specs.declared.label.Label.{Label}
use Rattle.sync_words.specs.declared.label.Label.TheVariants as say
use Rattle.rendezvous_machine.specs.Runs.{Said}

abbrev pub is_end : Label → Bool
is_end say.End = true
is_end _ = false

-- a session ends in the list
abbrev pub has_end : List Said → Bool
has_end [] = false
has_end (e ∷ es) = is_end e.1 || has_end es

-- the labels that only a boot processor says
abbrev pub is_leading : Label → Bool
is_leading say.Silent = false
is_leading (say.Excepted e) = false
is_leading (say.Wave w) = false
is_leading say.Enter = false
is_leading say.Turn = false
is_leading say.Arrive = false
is_leading say.Late = false
is_leading say.Elect = false
is_leading say.Quit = false
is_leading say.Report = false
is_leading (say.Run j result S) = false
is_leading say.Depart = false
is_leading (say.Resume how) = false
is_leading say.Off = false
is_leading _ = true

-- the actor said the label, and since then no session has ended
pub record HasSaid (i : ℕ) (l : Label) (es : List Said) : Type 0 where
  pub front : List Said
  pub back : List Said
  pub whole : es ≡ front ++ (i, l) ∷ back
  pub since : has_end back ≡ false

-- the actor began to serve a wave, and not none
abbrev pub HasBegun : ℕ → List Said → Type 0
HasBegun i es = (w : ℕ) × (0 < w) × HasSaid i (say.Begin w) es

-- with the processors that it takes as blocked, the members that it counted are all that there are
pub record HasAll (d : SetupData) (i : ℕ) (es : List Said) : Type 0 where
  pub members : ℕ
  pub blocked : ℕ
  pub enough : d.processors ≤ members + blocked
  pub gathered : HasSaid i (say.Gather blocked) es
  pub ready : HasSaid i (say.Ready members) es

-- the processor ran the job with this number
abbrev pub runs_job : ℕ → Label → Bool
runs_job j (say.Run n result S) = n == j
runs_job j _ = false

abbrev pub is_run : ℕ → ℕ → Said → Bool
is_run c j e = runs_job j e.1 && e.0 == c
