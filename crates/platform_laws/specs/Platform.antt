-- The platform that a file stands for, by what it says, and what may be wrong with a file.
use Rattle.std.specs.Prelude.{◌≡◌, ◌⊎◌, ℕ, List, IsTrue, Some}
use Rattle.std.specs.Str.{is_utf8}
use Rattle.toml.specs.Data.{Members}
use Rattle.toml.specs.Parse.{parse_document}
use Rattle.cpu_table.specs.Data.{SetupData}
use Rattle.platform_document.specs.declared.fault.WalkFault.{WalkFault}
use Rattle.platform_file.specs.Walk.{error_of}
use Rattle.platform_file.specs.declared.error.PlatformError.{PlatformError}
use Rattle.platform_file.specs.declared.error.PlatformError.TheVariants.{NotToml}
use Rattle.platform_laws.specs.Says.{Says}
use Rattle.platform_laws.specs.Fits.{Fits}
use Rattle.platform_laws.specs.Faults.{IsFault}

-- the bytes are UTF-8, and a TOML document with these members
abbrev pub IsDocument : List ℕ → Members → Type 0
IsDocument bytes t = IsTrue (is_utf8 bytes) × (parse_document bytes ≡ Some t)

-- the bytes are a document that says the setup, and the setup fits
pub record StandsFor (bytes : List ℕ) (d : SetupData) : Type 0 where
  pub document : Members
  pub is_document : IsDocument bytes document
  pub says : Says document d
  pub fits : Fits d

-- the bytes are no document, or a document with which something is wrong, told as an error
abbrev pub IsWrong : List ℕ → PlatformError → Type 0
IsWrong bytes error =
    (((t : Members) → IsDocument bytes t → ⊥) × (error ≡ NotToml))
    ⊎ ((t : Members) × (fault : WalkFault) × IsDocument bytes t × IsFault t fault × (error ≡ error_of fault))
