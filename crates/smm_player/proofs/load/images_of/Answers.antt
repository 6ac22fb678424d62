use Rattle.std.proofs.Common.{sym, subst}
use Rattle.smm_player.specs.declared.fault.Fault.{Fault}
use Rattle.smm_player.specs.Due.{images_found}
use Rattle.smm_player.specs.Loading.{StopsReading}
use Rattle.smm_player.proofs.ImageLemmas.{served_count, served_kind}
use Rattle.smm_player.proofs.LoadLemmas.{found_serving, images_stop, as_found, as_stops}
use Rattle.smm_player.proofs.load.images_of.Goals as goal

pub returns-in-Ok-clause-found : goal.returns-in-Ok-clause-found
returns-in-Ok-clause-found c =
    as_found (λ images. images.items) _ _ c.serving.result (found_serving c.args.kind c.args.processors c.args.bytes.now c.in-Ok.images.items c.in-Ok.ensures.unrefused c.in-Ok.ensures.contents) c.serving.ensures.found

pub returns-in-Ok-clause-count : goal.returns-in-Ok-clause-count
returns-in-Ok-clause-count c = served_count (λ images. images.items) c.args.kind c.args.processors c.args.bytes.now c.in-Ok.images.items c.serving.result c.in-Ok.ensures.contents c.serving.ensures.found

pub returns-in-Ok-clause-kind : goal.returns-in-Ok-clause-kind
returns-in-Ok-clause-kind c = served_kind (λ images. images.items) c.args.kind c.args.processors c.args.bytes.now c.in-Ok.images.items c.serving.result c.in-Ok.ensures.contents c.serving.ensures.found

pub returns-in-Ok-clause-cause : goal.returns-in-Ok-clause-cause
returns-in-Ok-clause-cause c =
    as_stops _ _ c.serving.result (found_serving c.args.kind c.args.processors c.args.bytes.now c.in-Ok.images.items c.in-Ok.ensures.unrefused c.in-Ok.ensures.contents) c.serving.ensures.cause

pub returns-in-Err-clause-cause : goal.returns-in-Err-clause-cause
returns-in-Err-clause-cause c =
    let P : Fault → Type 0 = StopsReading (images_found c.args.kind c.args.processors c.args.bytes.now) in
    subst P (sym c.images_fault.ensures) (images_stop c.args.kind c.args.processors c.args.bytes.now c.in-Err.error c.in-Err.ensures.refusal)
