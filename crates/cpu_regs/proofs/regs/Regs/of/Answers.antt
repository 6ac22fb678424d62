use Rattle.std.proofs.Common.{◌≡◌, map, refl, sym, ◌∙◌}
use Rattle.std.proofs.lemmas.List.{length-set, get_or-map}
use Rattle.save_state_map.specs.declared.field.TheConstants.{FIELDS}
use Rattle.cpu_regs.specs.Registers.{kept_number}
use Rattle.cpu_regs.proofs.Loading.{filled_more, filled, loaded_registers}
use Rattle.cpu_regs.proofs.regs.Regs.of.Goals as goal

pub loop-i-preserved : goal.loop-i-preserved
loop-i-preserved c = record {
  size = length-set c.loop-i.numbers c.loop-i.i c.kept_number_of.result ∙ c.loop-i.invariant.size;
  so_far = filled_more c.loop-i.numbers (map (kept_number c.args.image.now) FIELDS) 44 c.loop-i.i c.kept_number_of.result c.loop-i.invariant.size c.loop-i-test.true
      (c.kept_number_of.ensures ∙ sym (get_or-map (kept_number c.args.image.now) FIELDS c.loop-i.i _ 0 c.loop-i-test.true)) c.loop-i.invariant.so_far;
}

pub invariant_of-result : goal.invariant_of-result
invariant_of-result c =
    let same : c.loop-i.numbers ≡ map (kept_number c.args.image.now) FIELDS = filled c.loop-i.numbers (map (kept_number c.args.image.now) FIELDS) 44 c.loop-i.i c.loop-i.invariant.size refl c.loop-i-test.false c.loop-i.invariant.so_far in
    rw (c.kind.ensures.kind, same) (loaded_registers c.args.image.now c.kind.ensures.image)

pub returns : goal.returns
returns c =
    let same : c.loop-i.numbers ≡ map (kept_number c.args.image.now) FIELDS = filled c.loop-i.numbers (map (kept_number c.args.image.now) FIELDS) 44 c.loop-i.i c.loop-i.invariant.size refl c.loop-i-test.false c.loop-i.invariant.so_far in
    rw (c.kind.ensures.kind, same) refl
