use Rattle.generated_rounds.proofs.RoundLemmas.{start_is}
use Rattle.generated_rounds.proofs.generated.start_image.Goals as goal

pub returns : goal.returns
returns c =
    start_is c.set_field-has_revision.result c.set_field-has_smbase.result c.zero_image-image.result c.set_field-has_revision.new.self c.set_field-has_smbase.new.self c.zero_image-image.ensures
    c.set_field-has_revision.ensures.accepted c.set_field-has_revision.ensures.changed c.set_field-has_smbase.ensures.accepted c.set_field-has_smbase.ensures.changed
