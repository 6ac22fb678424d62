-- The keys of a platform file, and how a fault names them.
use Rattle.std.specs.Prelude.{ℕ, List, [], ◌∷◌, ◌++◌, codes, decimal}
use Rattle.platform_document.specs.declared.path.TablePlace.{TablePlace}
use Rattle.platform_document.specs.declared.path.TablePlace.TheVariants as place
use Rattle.platform_document.specs.declared.path.Path.{Path}
use Rattle.platform_document.specs.declared.path.Key.{Key}
use Rattle.platform_document.specs.declared.path.Key.TheVariants as key

-- the key as it stands in a file
abbrev pub key_text : Key → List ℕ
key_text key.Version = codes "version"
key_text key.Processors = codes "processors"
key_text key.Map = codes "map"
key_text key.Policy = codes "policy"
key_text key.Fixed = codes "fixed"
key_text key.Mode = codes "mode"
key_text key.Polls = codes "polls"
key_text key.Visits = codes "visits"
key_text key.Ops = codes "ops"
key_text key.Ids = codes "ids"
key_text key.Smram = codes "smram"
key_text key.Wave = codes "wave"
key_text key.Handler = codes "handler"
key_text key.Procedure = codes "procedure"
key_text key.Cause = codes "cause"
key_text key.Base = codes "base"
key_text key.Size = codes "size"
key_text key.Tile = codes "tile"
key_text key.Code = codes "code"
key_text key.Status = codes "status"
key_text key.Manage = codes "manage"
key_text key.Name = codes "name"
key_text key.Type = codes "type"
key_text key.Answer = codes "answer"
key_text key.Op = codes "op"
key_text key.Cpu = codes "cpu"
key_text key.Reg = codes "reg"
key_text key.Width = codes "width"
key_text key.Into = codes "into"
key_text key.Value = codes "value"
key_text key.Arg = codes "arg"
key_text key.Token = codes "token"
key_text key.Place = codes "place"
key_text key.Handle = codes "handle"
key_text key.Act = codes "act"
key_text key.Visit = codes "visit"
key_text key.Halt = codes "halt"
key_text key.Io = codes "io"
key_text key.Port = codes "port"
key_text key.Length = codes "length"

-- an entry of a list, by its place in brackets
abbrev pub entry_text : List ℕ → ℕ → List ℕ
entry_text name at = name ++ codes "[" ++ decimal at ++ codes "]"

-- a table; the top one has no name
abbrev pub place_text : TablePlace → List ℕ
place_text place.Top = []
place_text place.Smram = codes "smram"
place_text (place.Wave i) = entry_text (codes "wave") i
place_text (place.Handler i) = entry_text (codes "handler") i
place_text (place.Operation h o) = entry_text (codes "handler") h ++ entry_text (codes ".ops") o
place_text (place.Procedure i) = entry_text (codes "procedure") i
place_text (place.Cause i) = entry_text (codes "cause") i
place_text (place.Io i) = entry_text (codes "cause") i ++ codes ".io"

-- a name in a table: after the table's and a dot
abbrev pub dotted : List ℕ → List ℕ → List ℕ
dotted [] name = name
dotted (c ∷ cs) name = (c ∷ cs) ++ codes "." ++ name

abbrev pub name_under : TablePlace → List ℕ → List ℕ
name_under at name = dotted (place_text at) name

-- the path of a key in a fault
abbrev pub path_text : Path → List ℕ
path_text path = name_under path.place (key_text path.key)
