-- The waves.
use Rattle.std.specs.Prelude.{ℕ, List, [], ◌∷◌, length}
use Rattle.toml.specs.Data.{Data, Members}
use Rattle.smm_base.specs.declared.kinds.HandlerType.{HandlerType}
use Rattle.cpu_table.specs.declared.waves.Arrival.{Arrival}
use Rattle.cpu_table.specs.declared.waves.Wave.{Wave}
use Rattle.platform_document.specs.declared.path.TablePlace.{TablePlace}
use Rattle.platform_document.specs.declared.path.TablePlace.TheVariants as place
use Rattle.platform_document.specs.declared.path.Key.{Key}
use Rattle.platform_document.specs.declared.path.Key.TheVariants as key
use Rattle.platform_document.specs.declared.path.Path.{Path}
use Rattle.platform_document.specs.Reading.{Reading, read_then, path_to, entry_of, list_at, word_after, each, and_no_other}
use Rattle.platform_document.specs.Words.{arrival_of, kind_of}
use Rattle.platform_file.specs.Head.{wave_entries}

-- a word for each processor
abbrev pub statuses_at : ℕ → Path → Members → Reading (List Arrival)
statuses_at processors path table = read_then (list_at path processors processors table) (each (word_after path arrival_of) [])

-- at most 16 walks
abbrev pub walks_at : Path → Members → Reading (List HandlerType)
walks_at path table = read_then (list_at path 0 16 table) (each (word_after path kind_of) [])

abbrev pub wave_keys : List Key
wave_keys = key.Status ∷ key.Manage ∷ []

abbrev pub wave_in : ℕ → TablePlace → Members → Reading Wave
wave_in processors place table =
    read_then (statuses_at processors (path_to place key.Status) table) (λ status.
    read_then (walks_at (path_to place key.Manage) table) (λ manage.
    and_no_other place wave_keys table (record { status = status; manage = manage })))

-- the wave after the others
abbrev pub wave_after : ℕ → List Wave → Data → Reading Wave
wave_after processors done value = read_then (entry_of (place.Wave (length done)) value) (wave_in processors (place.Wave (length done)))

abbrev pub waves_at : ℕ → ℕ → Members → Reading (List Wave)
waves_at processors visits table = read_then (wave_entries visits table) (each (wave_after processors) [])
