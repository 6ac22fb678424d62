use Rattle.std.proofs.Common.{◌≡◌, drop}
use Rattle.serving_place.specs.Beginning.{registered_from, registrations_of}
use Rattle.serving_place.proofs.beginning.registered.Given as goal

abbrev pub invariant-loop-place : goal.invariant-loop-place
invariant-loop-place l = registered_from l.place (drop l.place l.handlers) l.registry ≡ registrations_of l.handlers
