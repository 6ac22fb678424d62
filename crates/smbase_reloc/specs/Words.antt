-- How a refusal is printed.
use Rattle.std.specs.Prelude.{ℕ, List, ◌++◌, codes, decimal}
use Rattle.smbase_reloc.specs.declared.error.RelocError.{RelocError}
use Rattle.smbase_reloc.specs.declared.error.RelocError.TheVariants.{NoRelocation, NotDefault}

abbrev pub refusal_text : RelocError → List ℕ
refusal_text (NoRelocation i) = codes "no-relocation " ++ decimal i
refusal_text (NotDefault i) = codes "not-default " ++ decimal i
