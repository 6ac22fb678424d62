-- What the machine asks of a platform.
use Rattle.std.specs.Prelude.{◌≡◌, ℕ}
use Rattle.smm_base.specs.declared.kinds.Policy.{Policy}
use Rattle.smm_base.specs.declared.kinds.Policy.TheVariants.{Elected, Fixed}

-- who may become the boot processor: anyone, or the one that the platform fixes
abbrev pub MayLead : Policy → ℕ → Type 0
MayLead Elected i = Unit {0}
MayLead (Fixed bsp) i = i ≡ bsp
