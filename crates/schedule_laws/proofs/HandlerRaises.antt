-- The row at which the server gives a processor its job.
use Rattle.std.proofs.Common.{ℕ, ◌+◌, ◌≡◌, ◌≤◌, arith, Option, Some, None, refl, ap, ◌∙◌}
use Rattle.cpu_table.specs.Data.{SetupData}
use Rattle.handler_ops.specs.declared.desk.Desk.{Desk}
use Rattle.handler_ops.specs.declared.desk.Job.{Job}
use Rattle.cpu_program.specs.declared.cargo.Cargo.TheVariants as cargo
use Rattle.schedule_laws.proofs.Stations.{Station, AwaitingSmi, SwitchingOff, LookingAtSource, LookingInside, CountingIn, ClaimingChair, AskingForChair, Leading, AwaitingInside, FindingBsp, SignallingBsp, AwaitingInsideAgain, CountingOut, SeekingBsp, Reporting, TellingReport, AwaitingRelease, GivingBack, TellingRelease, AwaitingDismissal, Withdrawing, TellingDismissal, AwaitingEnd, ClearingSignal, Away, here_of, out_of, job_of, low}
use Rattle.schedule_laws.proofs.Invariant.{Context, View, IsSelf, IsRunOf, desk_at}

-- one that is there and hasn't lowered its word is without its desk
pub there_out : (n : ℕ) (r : Station) → here_of r ≡ 1 → low n r ≡ 0 → (out_of r ≡ 1) × (job_of r ≡ 0)
there_out n AwaitingSmi h k = absurd (omega (arith, h))
there_out n SwitchingOff h k = absurd (omega (arith, h))
there_out n LookingAtSource h k = absurd (omega (arith, h))
there_out n LookingInside h k = absurd (omega (arith, h))
there_out n CountingIn h k = absurd (omega (arith, h))
there_out n ClaimingChair h k = absurd (omega (arith, h))
there_out n AskingForChair h k = absurd (omega (arith, h))
there_out n Leading h k = absurd (omega (arith, h))
there_out n AwaitingInside h k = absurd (omega (arith, h))
there_out n FindingBsp h k = absurd (omega (arith, h))
there_out n SignallingBsp h k = absurd (omega (arith, h))
there_out n AwaitingInsideAgain h k = absurd (omega (arith, h))
there_out n CountingOut h k = absurd (omega (arith, h))
there_out n SeekingBsp h k = absurd (omega (arith, h))
there_out n Reporting h k = absurd (omega (arith, h))
there_out n TellingReport h k = (refl, refl)
there_out n AwaitingRelease h k = (refl, refl)
there_out n GivingBack h k = absurd (omega (arith, k))
there_out n TellingRelease h k = absurd (omega (arith, k))
there_out n AwaitingDismissal h k = absurd (omega (arith, k))
there_out n Withdrawing h k = absurd (omega (arith, k))
there_out n TellingDismissal h k = absurd (omega (arith, h))
there_out n AwaitingEnd h k = absurd (omega (arith, h))
there_out n ClearingSignal h k = absurd (omega (arith, h))
there_out n Away h k = absurd (omega (arith, h))

-- a job is given
pub given_self : (d : SetupData) (waves : ℕ) (at : Option Desk) (v : View) (job : Job) → v.work ≡ 0 → v.released ≡ 0 → v.present ≡ 2 → here_of v.station ≡ 1 → out_of v.station ≡ 1
    → job_of v.station ≡ 0 → IsSelf d waves at v → IsSelf d waves None (record v { work = 1; job = Some job; on_run = Some (cargo.Desk (desk_at v.image (Some job))) })
given_self d waves at v job a b e k n q g = grind arith

pub given_run : (c c' : Context) (x r : ℕ) (v v' : View) → c'.stage ≤ 14 → r ≡ 0 → low v.departed v.station ≡ 0 → v'.work ≡ 1 → v'.departed ≡ v.departed → v'.station ≡ v.station
    → IsRunOf c x v r → IsRunOf c' x v' (r + 1)
given_run c c' x r v v' b e k w p q g =
    let same : low v'.departed v'.station ≡ low v.departed v.station = ap (λ (n : ℕ). low n v'.station) p ∙ ap (low v.departed) q in
    record {
      upto = λ _ z. absurd (z w);
      lent = λ _. omega (arith, e, k, same);
      so_far = λ z _. absurd (omega (arith, z, b));
      no_more = λ z _. absurd (omega (arith, z, b));
      late = λ z. absurd (omega (arith, z, b));
    }

-- its job is collected
pub collected_self : (d : SetupData) (waves : ℕ) (at : Option Desk) (v : View) → v.work ≡ 2 → v.present ≡ 2 → v.released ≡ 0 → IsSelf d waves at v
    → IsSelf d waves (Some (desk_at v.image None)) (record v { work = 0; job = None })
collected_self d waves at v a b e g = grind arith
