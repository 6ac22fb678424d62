-- What the answer of a need rests on: it was told, and the desk that it looks at is held.
use Rattle.std.proofs.Common.{◌≡◌, true, refl, subst, sym}
use Rattle.handler_ops.specs.declared.row.Row.{Row as ServerRow}
use Rattle.handler_ops.specs.declared.row.Row.TheVariants as served
use Rattle.handler_ops.specs.Course.{Desks}
use Rattle.handler_ops.specs.Sessions.{Session}
use Rattle.handler_ops.specs.Answering.{HasTold, IsAtHand, is_at_hand, told_on}

told_here : (now : Desks) (s : Session) → HasTold (told_on now s)
told_here now s = record { held = now; told = refl }

-- a session whose next need was told, with some desks held
pub told_has : (now : Desks) (s t : Session) → t ≡ told_on now s → HasTold t
told_has now s t e = subst (λ (x : Session). HasTold x) (sym e) (told_here now s)

-- the desk whose register a session looks at is held
pub row_at_hand : (row : ServerRow) (now : Desks) → is_at_hand row now ≡ true → IsAtHand row now
row_at_hand (served.Reading c reg width) now h = h
row_at_hand (served.Writing c reg width x) now h = h
row_at_hand _ now h = tt
