use Rattle.std.proofs.Common.{refl, sym, ◌∙◌}
use Rattle.image_file.specs.Spelling.{spelling}
use Rattle.image_file.proofs.Headers.{no_refusal}
use Rattle.image_file.proofs.Files.{spelling_passes, same_images}
use Rattle.image_file.proofs.laws.file_laws.Goals as goal

pub returns-clause-written_is_accepted : goal.returns-clause-written_is_accepted
returns-clause-written_is_accepted c = λ kind images are. no_refusal (spelling kind images) (spelling_passes kind images are)

pub returns-clause-written_is_spelled : goal.returns-clause-written_is_spelled
returns-clause-written_is_spelled c = λ kind images are. record { kind = kind; images_of = are; bytes = refl }

pub returns-clause-read_back : goal.returns-clause-read_back
returns-clause-read_back c = λ kind images others are spelled.
    sym (same_images (spelling kind images) others spelled) ∙ same_images (spelling kind images) images (record { kind = kind; images_of = are; bytes = refl })

pub returns-clause-one_reading : goal.returns-clause-one_reading
returns-clause-one_reading c = λ file images others spelled other. sym (same_images file others other) ∙ same_images file images spelled
