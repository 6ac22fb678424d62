-- The serving list of the session: what the boot processor may say next, when it is whole, and where serving stands after it.
use Rattle.std.specs.Prelude.{ℕ, Bool, true, false, List, [], ◌∷◌, ◌++◌, Option, Some, None, IsSomeAnd}
use Rattle.std.specs.Option.{option_map}
use Rattle.smm_base.specs.declared.kinds.HandlerType.{HandlerType}
use Rattle.cpu_table.specs.Data.{SetupData}
use Rattle.sync_words.specs.declared.label.Label.{Label}
use Rattle.serving_place.specs.Serving.{Serving}
use Rattle.serving_place.specs.Forms.{Program, Event, Own, IsWhole, IsPrefix}
use Rattle.serving_place.specs.Beginning.{program_of, walks_of, at_begin}
use Rattle.serving_place.specs.Places.{OpenWalk, Begun, Place, at_first, ended}
use Rattle.handler_ops.specs.Course.{after_all}
use Rattle.rendezvous_machine.specs.Machines.{Machine, Session}

-- serving as it begins
abbrev pub first_serving : SetupData → Machine → Serving
first_serving d m = at_begin d m.registrations m.pool

-- a property of the form, the wave and its walks, what serving begins with, and the list, once it has begun
abbrev pub OfList : SetupData → Machine → (Program → ℕ → List HandlerType → Serving → List Event → Type 0) → Session → Type 0
OfList d m P s = IsSomeAnd s.served (λ w. IsSomeAnd s.serving (λ es. P (program_of d) w (walks_of d.waves w) (first_serving d m) es))

-- the list followed by this label can be made whole
abbrev pub CanSay : SetupData → Machine → Label → Session → Type 0
CanSay d m l s = OfList d m (λ program w kinds t es. IsPrefix program w kinds t (es ++ Own l ∷ [])) s

-- the list is whole
abbrev pub IsServed : SetupData → Machine → Session → Type 0
IsServed d m s = OfList d m IsWhole s

-- the place that stands for the list: what is still to be said, and what serving knows
abbrev pub place_by : SetupData → Serving → Option ℕ → Option (List Event) → Place
place_by d begin (Some w) (Some es) = after_all (program_of d) (at_first w (walks_of d.waves w) begin) es
place_by d begin _ _ = ended begin

abbrev pub place_in : SetupData → Serving → Option Session → Place
place_in d begin None = ended begin
place_in d begin (Some s) = place_by d begin s.served s.serving

abbrev pub place_of : SetupData → Machine → Place
place_of d m = place_in d (first_serving d m) m.session

-- nothing is left to say there
abbrev pub nothing_left : List HandlerType → List OpenWalk → Option Begun → Bool
nothing_left [] [] None = true
nothing_left _ _ _ = false

abbrev pub is_over : Place → Bool
is_over p = nothing_left p.kinds p.walks p.begun

-- the list grows by an event, once it has begun; and unless it is whole
abbrev pub grown : Event → Option (List Event) → Option (List Event)
grown e serving = option_map (λ es. es ++ e ∷ []) serving

abbrev pub grown_unless : Bool → Event → Option (List Event) → Option (List Event)
grown_unless true e serving = serving
grown_unless false e serving = grown e serving
