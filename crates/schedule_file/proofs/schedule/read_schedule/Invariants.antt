use Rattle.std.proofs.Common.{◌≡◌, ◌+◌, length, drop}
use Rattle.std.specs.List.{slice_split}
use Rattle.std.specs.Option.{option_map}
use Rattle.schedule_file.specs.Schedule.{is_blank, schedule_of}
use Rattle.schedule_file.specs.Steps.{schedule_after, bytes_of_parts}
use Rattle.schedule_file.proofs.PartLemmas.{AreFew}
use Rattle.schedule_file.proofs.schedule.read_schedule.Given as goal

abbrev pub invariant-loop-part : goal.invariant-loop-part
invariant-loop-part l = record {
  after : schedule_after l.n (option_map (λ actors. actors.items) l.listed) l.at (drop (length l.yielded) (slice_split is_blank l.bytes)) ≡ schedule_of l.n l.bytes;
  few : AreFew (option_map (λ actors. actors.items) l.listed);
  bytes : l.at + bytes_of_parts (drop (length l.yielded) (slice_split is_blank l.bytes)) ≡ length l.bytes + 1;
}
