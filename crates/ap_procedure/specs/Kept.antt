-- What the tokens that are out keep between calls.
use Rattle.std.specs.Prelude.{ℕ, List}
use Rattle.slab.specs.Slab.{Slab}
use Rattle.slab_order.specs.Numbered.{IsOrderedBy}
use Rattle.ap_procedure.specs.declared.token.Token.{Token}
use Rattle.ap_procedure.specs.Given.{job_of}

-- the order has the key of each token once, by rising job number; there is room for 64
abbrev pub IsKept : Slab Token → List ℕ → ℕ → Type 0
IsKept slab order room = IsOrderedBy job_of slab order 64 room 4294967295
