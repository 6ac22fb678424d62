-- What a value of a platform file is read as, or the fault at which reading stops.
use Rattle.std.specs.Prelude.{ℕ, ℤ, pos, negsuc, ◌≡◌, ◌⊎◌, nat_le, Bool, ◌&&◌, if◌then◌else◌, List, [], ◌∷◌, ◌++◌, length, Option, Some, None, Result, Ok, Err, ok_or}
use Rattle.std.specs.Option.{option_map}
use Rattle.std.specs.List.{list_any}
use Rattle.std.specs.Str.{bytes_eq}
use Rattle.toml.specs.Data.{Data, Items, no_items, item, Members, no_members, member, get_member, as_integer, as_str, as_bool, as_array, as_table}
use Rattle.platform_document.specs.declared.path.TablePlace.{TablePlace}
use Rattle.platform_document.specs.declared.path.Key.{Key}
use Rattle.platform_document.specs.declared.path.Path.{Path}
use Rattle.platform_document.specs.declared.fault.WalkFault.{WalkFault}
use Rattle.platform_document.specs.declared.fault.WalkFault.TheVariants.{Missing, WrongType, NoTable, Word, Range, Unknown, NoMemory}
use Rattle.platform_document.specs.Path.{key_text}

abbrev pub Reading : Type 0 → Type 0
Reading A = Result A WalkFault

-- a second step works on what the first one read
abbrev pub read_then : {A B E : Type 0} → Result A E → (A → Result B E) → Result B E
read_then (Ok found) next = next found
read_then (Err fault) next = Err fault

-- a reader stops at the fault that the reading meets, or for want of memory
abbrev pub StopsAt : {A : Type 0} → Reading A → WalkFault → Type 0
StopsAt reading fault = (fault ≡ NoMemory) ⊎ (reading ≡ Err fault)

-- a key of a table
abbrev pub path_to : TablePlace → Key → Path
path_to place key = record { place = place; key = key }

-- what a table holds at a key
abbrev pub found_at : Path → Members → Option Data
found_at path table = get_member (key_text path.key) table

-- the value of a key that must be there
abbrev pub required : Path → Members → Reading Data
required path table = ok_or (found_at path table) (Missing path)

-- a key that may be missing
abbrev pub optional : {A : Type 0} → (Data → Reading A) → Option Data → Reading (Option A)
optional read None = Ok None
optional read (Some value) = read_then (read value) (λ found. Ok (Some found))

-- a value of the kind that the key wants
abbrev pub integer_of : Path → Data → Reading ℤ
integer_of path value = ok_or (as_integer value) (WrongType path)

abbrev pub text_of : Path → Data → Reading (List ℕ)
text_of path value = ok_or (as_str value) (WrongType path)

abbrev pub flag_of : Path → Data → Reading Bool
flag_of path value = ok_or (as_bool value) (WrongType path)

abbrev pub table_of : Path → Data → Reading Members
table_of path value = ok_or (as_table value) (WrongType path)

-- an entry of a list of tables
abbrev pub entry_of : TablePlace → Data → Reading Members
entry_of place value = ok_or (as_table value) (NoTable place)

abbrev pub data_list : Items → List Data
data_list no_items = []
data_list (item value more) = value ∷ data_list more

-- a list with a length from the first to the last
abbrev pub counted : Path → ℕ → ℕ → List Data → Reading (List Data)
counted path first last values =
    if nat_le first (length values) && nat_le (length values) last then Ok values else Err (Range path (pos (length values)))

abbrev pub list_of : Path → ℕ → ℕ → Data → Reading (List Data)
list_of path first last value = read_then (ok_or (option_map data_list (as_array value)) (WrongType path)) (counted path first last)

-- a number from the first to the last
abbrev pub number_within : Path → ℕ → ℕ → ℤ → Reading ℕ
number_within path first last (pos n) = if nat_le first n && nat_le n last then Ok n else Err (Range path (pos n))
number_within path first last (negsuc n) = Err (Range path (negsuc n))

abbrev pub number_value : Path → ℕ → ℕ → Data → Reading ℕ
number_value path first last value = read_then (integer_of path value) (number_within path first last)

-- the greatest integer of a TOML file
abbrev pub greatest : ℕ
greatest = 9223372036854775807

-- a text that is one of the words
abbrev pub word_of : {A : Type 0} → Path → (List ℕ → Option A) → Data → Reading A
word_of path find value = read_then (text_of path value) (λ text. ok_or (find text) (Word path))

abbrev pub number_at : Path → ℕ → ℕ → Members → Reading ℕ
number_at path first last table = read_then (required path table) (number_value path first last)

abbrev pub text_at : Path → Members → Reading (List ℕ)
text_at path table = read_then (required path table) (text_of path)

abbrev pub word_at : {A : Type 0} → Path → (List ℕ → Option A) → Members → Reading A
word_at path find table = read_then (required path table) (word_of path find)

abbrev pub list_at : Path → ℕ → ℕ → Members → Reading (List Data)
list_at path first last table = read_then (required path table) (list_of path first last)

-- a list of tables that may be missing: no entry then
abbrev pub entries_of : Path → ℕ → Option Data → Reading (List Data)
entries_of path last None = Ok []
entries_of path last (Some value) = list_of path 0 last value

abbrev pub entries_at : Path → ℕ → Members → Reading (List Data)
entries_at path last table = entries_of path last (found_at path table)

-- the elements of a list, one after the other: each is read by those before it and its value
abbrev pub each : {A : Type 0} → (List A → Data → Reading A) → List A → List Data → Reading (List A)
each read done [] = Ok done
each read done (value ∷ more) = read_then (read done value) (λ found. each read (done ++ found ∷ []) more)

-- a word of a list of words, whatever stands before it
abbrev pub word_after : {A : Type 0} → Path → (List ℕ → Option A) → List A → Data → Reading A
word_after path find done value = word_of path find value

-- is the name one of the keys?
abbrev pub is_known : List Key → List ℕ → Bool
is_known keys name = list_any (λ key. bytes_eq (key_text key) name) keys

-- the first key that the table does not have; the members of a table stand in the byte order of their keys
abbrev pub unknown_in : List Key → Members → Option (List ℕ)
unknown_in keys no_members = None
unknown_in keys (member name value more) = if is_known keys name then unknown_in keys more else Some name

-- what was read, where the table has no other key
abbrev pub unless_unknown : {A : Type 0} → TablePlace → A → Option (List ℕ) → Reading A
unless_unknown place found None = Ok found
unless_unknown place found (Some name) = Err (Unknown place name)

abbrev pub and_no_other : {A : Type 0} → TablePlace → List Key → Members → A → Reading A
and_no_other place keys table found = unless_unknown place found (unknown_in keys table)

-- a table is refused for its unknown key, or there is no memory
abbrev pub IsOther : TablePlace → Option (List ℕ) → WalkFault → Type 0
IsOther place name fault = (fault ≡ NoMemory) ⊎ ((k : List ℕ) × (name ≡ Some k) × (fault ≡ Unknown place k))
