-- The answer of a need: the job that a desk brought, and what the labels of a look want.
use Rattle.std.proofs.Common.{◌≡◌, ◌∙◌, ℕ, Option, Some, None, refl}
use Rattle.cpu_table.specs.declared.handlers.OpDef.{OpDef}
use Rattle.sync_words.specs.declared.label.Label.TheVariants as say
use Rattle.handler_ops.specs.declared.desk.Desk.{Desk}
use Rattle.serving_place.specs.Serving.{Serving}
use Rattle.serving_place.specs.Forms.{Program, Own}
use Rattle.serving_place.specs.Places.{Place, next}
use Rattle.serving_place.specs.Setting.{Setting}
use Rattle.handler_ops.specs.Course.{Desks, JobDone, done_job, done_on, after_all, with_run}
use Rattle.handler_ops.specs.Told.{read_at_hand, write_at_hand}
use Rattle.handler_ops.specs.Answering.{job_on, ran_by}
use Rattle.serving_place.specs.declared.saying.Saying.TheVariants.{Known}
use Rattle.serving_place.specs.Sayings.{Fits}

pub done_is : (d : Option Desk) → done_on d ≡ done_job (job_on d)
done_is None = refl
done_is (Some desk) = refl

pub takes_is : (program : Program) (p : Place) (c : ℕ) (d : Option JobDone) → after_all program p (with_run c d) ≡ next program (ran_by c d p) (Own (say.Collect c))
takes_is program p c None = refl
takes_is program p c (Some d) = refl

pub collect_fits : (c : ℕ) (o : Option OpDef) (s : Serving) → Fits (Known (say.Collect c)) o s
collect_fits c None s = tt
collect_fits c (Some o) s = tt

pub read_fits : (t : Setting) (c reg width : ℕ) (now : Desks) (o : Option OpDef) (s : Serving) → Fits (Known (read_at_hand t c reg width now)) o s
read_fits t c reg width now None s = tt
read_fits t c reg width now (Some o) s = tt

pub write_fits : (c reg width x : ℕ) (now : Desks) (o : Option OpDef) (s : Serving) → Fits (Known (write_at_hand c reg width x now)) o s
write_fits c reg width x now None s = tt
write_fits c reg width x now (Some o) s = tt
