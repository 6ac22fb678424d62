-- A list of free blocks, as contracts see it.
use Rattle.std.specs.Prelude.{◌≡◌, ℕ, ◌+◌, ◌%◌, ◌≤◌, List, [], ◌∷◌, Option, Some, None}

-- the places of the blocks with the front first, how many there is room for, and how many bytes each has
pub record Shelf : Type 0 where
  pub places : List ℕ
  pub room : ℕ
  pub size : ℕ

-- a block begins at a multiple of 64 and ends within the reach of any pool
abbrev pub IsBlock : ℕ → ℕ → Type 0
IsBlock size place = (place % 64 ≡ 0) × (place + size ≤ 9223372036863164416)

-- each of the places is a block's
abbrev pub AreBlocks : ℕ → List ℕ → Type 0
AreBlocks size [] = Unit {0}
AreBlocks size (p ∷ ps) = IsBlock size p × AreBlocks size ps

-- the first of a list, if there is one
abbrev pub first : List ℕ → Option ℕ
first [] = None
first (p ∷ ps) = Some p

-- the list without its first
abbrev pub rest : List ℕ → List ℕ
rest [] = []
rest (p ∷ ps) = ps
