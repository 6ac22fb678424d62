-- When a list of ids is refused.
use Rattle.std.specs.Prelude.{◌≡◌, ℕ, ◌<◌, ◌≤◌, ◌==◌, eqb, List, length, take, IsTrue, slice_get, Some}
use Rattle.std.specs.List.{list_any, IsDistinct}
use Rattle.cpu_table.specs.declared.table.TableError.{TableError}
use Rattle.cpu_table.specs.declared.table.TableError.TheVariants.{TooMany, Repeated, NoMemory}

-- the id at this place is the first that stands before its place already
pub record IsFirstRepeated (ids : List ℕ) (id place : ℕ) : Type 0 where
  pub there : slice_get ids place ≡ Some id
  pub earlier : IsTrue (list_any (λ x. x == id) (take place ids))
  pub first : IsDistinct eqb (take place ids)

-- the list is refused for this cause
abbrev pub Refuses : List ℕ → TableError → Type 0
Refuses ids (TooMany count) = (64 < length ids) × (count ≡ length ids)
Refuses ids (Repeated id) = (length ids ≤ 64) × ((place : ℕ) × IsFirstRepeated ids id place)
Refuses ids NoMemory = length ids ≤ 64
