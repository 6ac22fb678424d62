-- What an error prints: the words that a fault line tells.
use Rattle.std.specs.Prelude.{ℕ, List, ◌++◌, codes, decimal}
use Rattle.std.specs.Fmt.{signed_decimal}
use Rattle.cpu_table.specs.Texts.{layout_error_text}
use Rattle.platform_file.specs.declared.error.PlatformError.{PlatformError}
use Rattle.platform_file.specs.declared.error.PlatformError.TheVariants.{NotToml, Missing, WrongType, Word, Range, Unknown, TooLarge, Layout, NoMemory}

abbrev pub platform_error_text : PlatformError → List ℕ
platform_error_text NotToml = codes "not-toml"
platform_error_text (Missing key) = codes "missing " ++ key
platform_error_text (WrongType key) = codes "type " ++ key
platform_error_text (Word key) = codes "word " ++ key
platform_error_text (Range key number) = codes "range " ++ key ++ codes " " ++ signed_decimal number
platform_error_text (Unknown key) = codes "unknown " ++ key
platform_error_text (TooLarge events) = codes "too-large " ++ decimal events
platform_error_text (Layout error) = layout_error_text error
platform_error_text NoMemory = codes "no memory"
