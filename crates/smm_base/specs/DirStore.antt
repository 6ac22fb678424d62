-- What the files of the working folder have met with.
use Rattle.std.specs.Prelude.{ℕ, ◌≤◌}
use Rattle.smm_base.specs.declared.dir_store.DirStore.{DirStore}

-- how many loads have failed
abbrev pub failed_loads_of : {R : Type 0} → DirStore R → ℕ
failed_loads_of store = store.load_faults

-- how many saves have failed
abbrev pub failed_saves_of : {R : Type 0} → DirStore R → ℕ
failed_saves_of store = store.save_faults

-- what one load or save makes of the counts: none falls
pub record Moves {R : Type 0} (before after : DirStore R) : Type 0 where
  pub loads : failed_loads_of before ≤ failed_loads_of after
  pub saves : failed_saves_of before ≤ failed_saves_of after
