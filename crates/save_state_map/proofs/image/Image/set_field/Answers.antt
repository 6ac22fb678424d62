use Rattle.std.proofs.Common.{rules, ◌≡◌, Some}
use Rattle.save_state_map.specs.Fields.{field_place}
use Rattle.save_state_map.proofs.Places.{accepted_at}
use Rattle.save_state_map.proofs.image.Image.set_field.Goals as goal

pub returns-clause-accepted : goal.returns-clause-accepted
returns-clause-accepted c =
    let there : Some c.in-Some.place ≡ field_place c.args.self.now.kind c.args.field = rw (← c.self.view_is) c.in-Some.ensures.table in
    (λ _. accepted_at c.args.self.now c.args.field c.args.value c.in-Some.place there (c.fits.ensures.0 (search rules)), λ _. search rules)
