use Rattle.std.proofs.Common.{◌≡◌, ◌<◌, ◌^◌, Some, ℕ, sym, subst}
use Rattle.save_state_map.specs.declared.field.Place.{Place}
use Rattle.save_state_map.specs.Fields.{field_place}
use Rattle.save_state_map.specs.Images.{with_field}
use Rattle.cpu_regs.proofs.Saving.{field_set}
use Rattle.cpu_regs.proofs.switch.put.Goals as goal

pub returns : goal.returns
returns c =
    let fits : (place : Place) → field_place c.args.image.now.kind c.args.field ≡ Some place → c.entered_number-number.result < 256 ^ place.width =
    subst (λ (n : ℕ). (place : Place) → field_place c.args.image.now.kind c.args.field ≡ Some place → n < 256 ^ place.width) (sym c.entered_number-number.ensures) c.requires.fits in
    subst (λ (n : ℕ). c.set_field-has_field.new.self ≡ with_field c.args.image.now c.args.field n) c.entered_number-number.ensures
    (field_set c.set_field-has_field.result c.args.image.now c.set_field-has_field.new.self c.args.field c.entered_number-number.result fits c.set_field-has_field.ensures.accepted c.set_field-has_field.ensures.changed c.set_field-has_field.ensures.refused)
