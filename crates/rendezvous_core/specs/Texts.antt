-- How a refusal is printed.
use Rattle.std.specs.Prelude.{ℕ, List, ◌++◌, codes, decimal}
use Rattle.rendezvous_core.specs.declared.error.WorldError.{WorldError}
use Rattle.rendezvous_core.specs.declared.error.WorldError.TheVariants.{NoRelocation, NotDefault, NoMemory}

abbrev pub refusal_text : WorldError → List ℕ
refusal_text (NoRelocation i) = codes "no-relocation " ++ decimal i
refusal_text (NotDefault i) = codes "not-default " ++ decimal i
refusal_text NoMemory = codes "no memory"
