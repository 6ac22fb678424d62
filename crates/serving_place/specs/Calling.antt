-- A walk whose handler is being called.
use Rattle.std.specs.Prelude.{Bool, ◌&&◌, not}
use Rattle.smi_manage.specs.Walks.{Walk, is_stopped}

-- it awaits the handler's status, and no status before that stopped it
abbrev pub is_calling : Walk → Bool
is_calling walk = walk.awaits && not (is_stopped walk)
