-- When an actor may say a label.
use Rattle.std.specs.Prelude.{◌≡◌, ◌≢◌, ◌<◌, ◌≤◌, ◌⊎◌, ℕ, ◌+◌, true, false, length, Some, None, IsSome, IsSomeAnd}
use Rattle.cpu_regs.specs.Entering.{after}
use Rattle.cpu_table.specs.Data.{SetupData}
use Rattle.cpu_table.specs.declared.setup.Mode.{Mode}
use Rattle.cpu_table.specs.declared.setup.Mode.TheVariants.{Traditional, Relaxed}
use Rattle.cpu_table.specs.Waves.{blocked_in}
use Rattle.smm_base.specs.declared.status.Status.{Status}
use Rattle.sync_words.specs.declared.label.Label.{Label}
use Rattle.sync_words.specs.declared.label.Label.TheVariants as say
use Rattle.handler_ops.specs.Procedures.{job_on}
use Rattle.rendezvous_machine.specs.Platforms.{MayLead}
use Rattle.rendezvous_machine.specs.Machines.{Machine, Session, Member, Out, In, Counted, Here, Gone, member, IsPhase, count_of, AllReported, AllReleased, AllDeparted, AllCollected, IsBsp, IsLed, IsClosed, IsAtWork, HasWaited}
use Rattle.rendezvous_machine.specs.Listed.{CanSay, IsServed}
use Rattle.rendezvous_machine.specs.Services.{Reads, Writes}
use Rattle.rendezvous_machine.specs.Refusals.{refusal}

-- the chipset is the actor after the processors, and announces the next wave, if there is one
abbrev pub Announces : SetupData → Machine → ℕ → Type 0
Announces d m i = (i ≡ d.processors) × (m.waves < length d.waves)

-- the traditional mode closes the session after it has waited, the relaxed one after it has served and collected each job
abbrev pub MayClose : SetupData → Machine → Mode → Session → Type 0
MayClose d m Traditional s = HasWaited s
MayClose d m Relaxed s = IsServed d m s × AllCollected m

-- the traditional mode serves in a closed session that all members have reported to, the relaxed one in an open session
abbrev pub MayBegin : Machine → Mode → Session → Type 0
MayBegin m Traditional s = (s.is_closed ≡ true) × AllReported m s.bsp
MayBegin m Relaxed s = s.is_closed ≡ false

-- a processor's job has this number, is open, and gives this result and status on its image
abbrev pub Answers : SetupData → Member → ℕ → ℕ → Status → Type 0
Answers d x j result S =
    IsSomeAnd x.job (λ job. (job.number ≡ j) × (job.done ≡ None) × ((job_on d.procedures job x.image).answer ≡ (result, S)))

-- a processor's job is finished
abbrev pub HasFinished : Member → Type 0
HasFinished x = IsSomeAnd x.job (λ job. IsSome job.done)

-- the processors below this one have no uncollected job
abbrev pub IsLeast : Machine → ℕ → Type 0
IsLeast m c = (j : ℕ) → j < c → (member m j).job ≡ None

-- One clause for each label. All that isn't named is said while serving, and the serving list alone decides.
abbrev pub Rule : SetupData → Machine → ℕ → Label → Type 0
Rule d m i say.Silent = Unit {0}
Rule d m i (say.Excepted e) = Announces d m i × (m.excepted ≡ m.waves) × (e ≡ blocked_in d.waves (m.waves + 1))
Rule d m i (say.Wave w) = Announces d m i × (m.excepted ≡ m.waves + 1) × (w ≡ m.waves + 1)
Rule d m i say.Enter = IsPhase m i Out × ((member m i).visits < d.visits) × (0 < m.waves)
Rule d m i say.Turn = IsPhase m i In × (IsAtWork m → ⊥)
Rule d m i say.Arrive = IsPhase m i In × (IsClosed m → ⊥)
Rule d m i say.Late = IsPhase m i In × IsClosed m
Rule d m i say.Elect = IsPhase m i Counted × (m.session ≡ None) × MayLead d.policy i
Rule d m i (say.Served w) = IsBsp m i (λ s. (s.served ≡ None) × (w ≡ m.source))
Rule d m i (say.Gather e) =
    IsBsp m i (λ s. IsSome s.served × (s.gathered ≡ None) × (e ≡ m.last_excepted)) × (d.mode ≡ Traditional)
Rule d m i (say.Ready n) =
    IsBsp m i (λ s. (s.is_ready ≡ false) × (s.expired ≤ 1) × IsSomeAnd s.gathered (λ e. d.processors ≤ n + e)) × (n ≡ count_of m)
Rule d m i (say.Expire k) =
    IsBsp m i (λ s. (s.is_ready ≡ false) × (s.expired + 1 ≡ k) × (k ≤ 2) × IsSomeAnd s.gathered (λ e. count_of m + e < d.processors))
Rule d m i say.Quit = IsPhase m i Counted × (IsLed m i → ⊥) × (IsClosed m → ⊥)
Rule d m i say.Report = IsPhase m i Counted × IsSomeAnd m.session (λ s. s.bsp ≢ i)
Rule d m i (say.Close n) = IsBsp m i (λ s. (s.is_closed ≡ false) × MayClose d m d.mode s) × (n ≡ count_of m)
Rule d m i (say.Begin w) = IsBsp m i (λ s. (s.served ≡ Some w) × (s.serving ≡ None) × MayBegin m d.mode s)
Rule d m i (say.Read c register width x S) =
    IsBsp m i (CanSay d m (say.Read c register width x S)) × Reads d m i c register width x S
Rule d m i (say.Write c register width x S) =
    IsBsp m i (CanSay d m (say.Write c register width x S)) × Writes d m i c register width x S
Rule d m i (say.Refuse c cause) = IsBsp m i (CanSay d m (say.Refuse c cause)) × (refusal d m i ≡ Some cause)
Rule d m i (say.Start c j p a) =
    IsBsp m i (CanSay d m (say.Start c j p a)) × (refusal d m i ≡ None) × ((member m c).job ≡ None)
Rule d m i (say.Run j result S) = IsPhase m i Here × Answers d (member m i) j result S
Rule d m i (say.Collect c) =
    IsBsp m i (λ s. CanSay d m (say.Collect c) s ⊎ (IsServed d m s × IsLeast m c)) × HasFinished (member m c)
Rule d m i say.Done =
    IsBsp m i (λ s. (s.is_done ≡ false) × IsServed d m s × (s.is_closed ≡ true)) × AllReported m i × AllCollected m
Rule d m i (say.Release c) =
    IsBsp m i (λ s. s.is_done ≡ true) × (c ≢ i) × ((member m c).in_closed_set ≡ true) × ((member m c).is_released ≡ false)
Rule d m i say.Depart = IsPhase m i Here × IsSomeAnd m.session (λ s. AllReleased m s.bsp) × ((member m i).is_released ≡ true)
Rule d m i say.End = IsBsp m i (λ s. s.is_done ≡ true) × AllDeparted m i
Rule d m i (say.Resume how) = IsPhase m i Gone × (how ≡ after (member m i).image)
Rule d m i say.Off = IsPhase m i Out × ((m.waves ≡ length d.waves) ⊎ ((member m i).visits ≡ d.visits))
Rule d m i l = IsBsp m i (CanSay d m l)
