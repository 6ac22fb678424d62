-- What a judge of serving lists stands for: the platform, the boot processor, and the place that stands for the list.
use Rattle.std.specs.Prelude.{ℕ}
use Rattle.cpu_table.specs.Data.{SetupData, data_of}
use Rattle.serving_place.specs.declared.progress.Progress.{Progress}
use Rattle.serving_place.specs.Beginning.{at_begin, program_of, walks_of, registrations_of, pool_at_first}
use Rattle.serving_place.specs.Serving.{Serving}
use Rattle.serving_place.specs.Places.{Place, at_first, ended}
use Rattle.serving_place.specs.Progresses.{place_in}
use Rattle.serving_place.specs.Setting.{Setting}

pub record Judging : Type 0 where
  pub setup : SetupData
  pub bsp : ℕ
  pub place : Place

abbrev pub judging_in : Progress → Judging
judging_in p = record { setup = data_of p.setup; bsp = p.me; place = place_in p }

abbrev pub setting_of : Judging → Setting
setting_of j = record { program = program_of j.setup; ids = j.setup.ids; processors = j.setup.processors; me = j.bsp }

-- serving as a session begins it, with the registrations and the pool that there are
abbrev pub begins_with : Judging → Serving
begins_with j = at_begin j.setup j.place.state.registrations j.place.state.pool

-- before the first session
abbrev pub first_judging : SetupData → Judging
first_judging d = record { setup = d; bsp = 0; place = ended (at_begin d (registrations_of d.handlers) (pool_at_first d)) }

-- a list begins, of a session with this boot processor and this wave
abbrev pub begun : ℕ → ℕ → Judging → Judging
begun bsp wave j = record j { bsp = bsp; place = at_first wave (walks_of j.setup.waves wave) (begins_with j) }

-- no list goes on, as before the first session
abbrev pub finished : Judging → Judging
finished j = record j { bsp = 0; place = ended (begins_with j) }
