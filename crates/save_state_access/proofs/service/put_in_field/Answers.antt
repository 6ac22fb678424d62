use Rattle.std.proofs.Common.{◌≡◌, ◌↔◌, ◌≤◌, ℕ, List, ◌++◌, length, drop, Option, Some, sym, ap, subst, ◌∙◌, arith}
use Rattle.std.specs.Prelude.{IfSome, IsTrue}
use Rattle.std.specs.Bool.{OnTrue}
use Rattle.smm_base.specs.declared.kinds.MapKind.{MapKind}
use Rattle.byteorder.specs.Endian.{little_number}
use Rattle.save_state_map.specs.declared.field.Place.{Place}
use Rattle.save_state_map.specs.Fields.{field_place}
use Rattle.save_state_map.specs.Images.{with_field, Accepts}
use Rattle.save_state_access.proofs.LowBytes.{replaced, low_written, width_small}
use Rattle.save_state_access.proofs.service.put_in_field.Goals as goal

pub returns : goal.returns
returns c =
    let there : Some c.in-Some.place ≡ field_place c.args.image.now.kind c.args.field = c.in-Some.ensures.table ∙ ap (λ (k : MapKind). field_place k c.args.field) c.kind.ensures.kind in
    let fits : length c.args.bytes.now ≤ c.in-Some.place.width = subst (λ (o : Option Place). IfSome o (λ place. length c.args.bytes.now ≤ place.width)) (sym there) c.requires in
    let value : c.read_uint.result ≡ little_number c.in-Some.place.width (replaced c.args.bytes.now c.in-Some-field.number) = c.read_uint.ensures
    ∙ ap (λ (l : List ℕ). little_number c.in-Some.place.width (l ++ drop (length c.args.bytes.now) c.to_le_bytes-own.result)) c.copy_from_slice.ensures.after
    ∙ ap (λ (l : List ℕ). little_number c.in-Some.place.width (c.args.bytes.now ++ drop (length c.args.bytes.now) l)) c.to_le_bytes-own.ensures in
    low_written c.set_field-taken.result c.args.image.now c.set_field-taken.new.self c.args.field c.in-Some.place c.args.bytes.now c.in-Some-field.number
    c.kind.ensures.image (λ i. omega (arith, c.type_inv.bytes i)) (width_small c.in-Some.place.width c.in-Some.ensures.width) fits there c.in-Some-field.ensures
    (subst (λ (n : ℕ). IsTrue c.set_field-taken.result ↔ Accepts c.args.image.now c.args.field n) value c.set_field-taken.ensures.accepted)
    (subst (λ (n : ℕ). OnTrue c.set_field-taken.result (c.set_field-taken.new.self ≡ with_field c.args.image.now c.args.field n)) value c.set_field-taken.ensures.changed)
