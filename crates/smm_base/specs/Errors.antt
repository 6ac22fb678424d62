-- How the refusals of a store and of a sink are printed.
use Rattle.std.specs.Prelude.{ℕ, List, codes}
use Rattle.smm_base.specs.declared.store.LoadError.{LoadError}
use Rattle.smm_base.specs.declared.store.LoadError.TheVariants.{Failed as load_failed, Missing, TooLong, NoMemory as no_memory_of_load}
use Rattle.smm_base.specs.declared.store.SaveError.{SaveError}
use Rattle.smm_base.specs.declared.store.SaveError.TheVariants.{Failed as save_failed, NoMemory as no_memory_of_save}
use Rattle.smm_base.specs.declared.sink.WriteError.{WriteError}
use Rattle.smm_base.specs.declared.sink.WriteError.TheVariants.{Failed as write_failed, NoMemory as no_memory_of_write}

-- why a file was not loaded
abbrev pub load_error_text : LoadError → List ℕ
load_error_text load_failed = codes "failed"
load_error_text Missing = codes "missing"
load_error_text TooLong = codes "too-long"
load_error_text no_memory_of_load = codes "no memory"

-- why a file was not saved
abbrev pub save_error_text : SaveError → List ℕ
save_error_text save_failed = codes "failed"
save_error_text no_memory_of_save = codes "no memory"

-- why nothing was written
abbrev pub write_error_text : WriteError → List ℕ
write_error_text write_failed = codes "failed"
write_error_text no_memory_of_write = codes "no memory"
