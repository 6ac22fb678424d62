-- What a store holds, and what its calls do to it.
use Rattle.std.specs.Prelude.{◌≡◌, ◌≢◌, ⊤, ℕ, List, Option, None, Some, Result, Ok, Err, IsNone, IsSomeAnd}
use Rattle.smm_base.specs.declared.store.LoadError.{LoadError}
use Rattle.smm_base.specs.declared.store.LoadError.TheVariants.{Failed, Missing, TooLong, NoMemory}

-- what each name holds, and `None` at a name that isn't held
abbrev pub FileMap : Type 0
FileMap = List ℕ → Option (List ℕ)

-- no name but this one changes; and files that were told stay told, files that weren't stay untold
abbrev pub ChangesOnly : List ℕ → Option FileMap → Option FileMap → Type 0
ChangesOnly name None after = IsNone after
ChangesOnly name (Some before) after = IsSomeAnd after (λ held. (other : List ℕ) → other ≢ name → held other ≡ before other)

-- the load refuses with this error, unless it failed or found no memory
abbrev pub RefusesWith : {T : Type 0} → LoadError → Result T LoadError → Type 0
RefusesWith error (Ok content) = ⊥
RefusesWith error (Err Failed) = ⊤
RefusesWith error (Err NoMemory) = ⊤
RefusesWith error (Err Missing) = error ≡ Missing
RefusesWith error (Err TooLong) = error ≡ TooLong
