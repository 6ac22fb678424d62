-- The machine as its checker keeps it: as the rendezvous machine, but for the serving list, in whose stead it has the place that
-- stands for it.
use Rattle.std.specs.Prelude.{ℕ, List, Option, Some, None, is_some}
use Rattle.std.specs.Option.{option_map}
use Rattle.save_state_map.specs.Images.{ImageContents}
use Rattle.cpu_regs.specs.Registers.{Registers}
use Rattle.cpu_table.specs.Data.{SetupData}
use Rattle.serving_place.specs.Forms.{Event}
use Rattle.serving_judge.specs.Judging.{Judging, first_judging}
use Rattle.rendezvous_machine.specs.Machines.{Machine, Member}
use Rattle.rendezvous_machine.specs.Machines as machine
use Rattle.rendezvous_machine.specs.Listed.{place_of}
use Rattle.trace_members.specs.Members.{member_in, firsts}
pub use Rattle.trace_check.specs.declared.session.Session.{Session}

pub record Judged : Type 0 where
  pub members : List Member
  pub waves : ℕ
  pub excepted : ℕ
  pub last_excepted : ℕ
  pub source : ℕ
  pub session : Option Session
  pub judging : Judging

abbrev pub setup_of : Judged → SetupData
setup_of j = j.judging.setup

abbrev pub member : Judged → ℕ → Member
member j i = member_in j.members i

-- WHAT IS SEEN OF A MACHINE

-- the session without its serving list
abbrev pub session_of : machine.Session → Session
session_of s =
    record {
      bsp = s.bsp;
      served = s.served;
      gathered = s.gathered;
      is_ready = s.is_ready;
      expired = s.expired;
      is_closed = s.is_closed;
      has_begun = is_some s.serving;
      is_done = s.is_done;
    }

-- whom the serving list is of, or 0 where none has begun
abbrev pub speaker_by : ℕ → Option (List Event) → ℕ
speaker_by bsp None = 0
speaker_by bsp (Some es) = bsp

abbrev pub speaker_of : Option machine.Session → ℕ
speaker_of None = 0
speaker_of (Some s) = speaker_by s.bsp s.serving

abbrev pub judging_of : SetupData → Machine → Judging
judging_of d m = record { setup = d; bsp = speaker_of m.session; place = place_of d m }

abbrev pub seen : SetupData → Machine → Judged
seen d m =
    record {
      members = m.members;
      waves = m.waves;
      excepted = m.excepted;
      last_excepted = m.last_excepted;
      source = m.source;
      session = option_map session_of m.session;
      judging = judging_of d m;
    }

-- at the start
abbrev pub first_judged : SetupData → List Registers → List ImageContents → Judged
first_judged d registers images =
    record {
      members = firsts registers images;
      waves = 0;
      excepted = 0;
      last_excepted = 0;
      source = 0;
      session = None;
      judging = first_judging d;
    }
