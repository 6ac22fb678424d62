-- What the errors of this crate print.
use Rattle.std.specs.Prelude.{ℕ, List, ◌++◌, codes, decimal}
use Rattle.cpu_table.specs.declared.layout.LayoutError.{LayoutError}
use Rattle.cpu_table.specs.declared.layout.LayoutError.TheVariants.{BadTile, CodeTooLong, Low, PastEnd}
use Rattle.cpu_table.specs.declared.table.TableError.{TableError}
use Rattle.cpu_table.specs.declared.table.TableError.TheVariants.{TooMany, Repeated, NoMemory}

-- why there is no room for the processors' areas
abbrev pub layout_error_text : LayoutError → List ℕ
layout_error_text (BadTile tile) = codes "bad-tile " ++ decimal tile
layout_error_text (CodeTooLong code) = codes "code-too-long " ++ decimal code
layout_error_text (Low base) = codes "low " ++ decimal base
layout_error_text (PastEnd end) = codes "past-end " ++ decimal end

-- why a list of ids is no table
abbrev pub table_error_text : TableError → List ℕ
table_error_text (TooMany count) = codes "too-many " ++ decimal count
table_error_text (Repeated id) = codes "repeated " ++ decimal id
table_error_text NoMemory = codes "no memory"
