-- The private fields of each part as its position.
use Rattle.arrival.specs.Entry.{EntryPosition}
use Rattle.arrival.specs.Gather.{GatherPosition}
use Rattle.arrival.specs.Report.{ReportPosition}
use Rattle.arrival.specs.declared.entry.Entry.TheInside.{Inside as EntryInside}
use Rattle.arrival.specs.declared.gather.Gather.TheInside.{Inside as GatherInside}
use Rattle.arrival.specs.declared.report.Report.TheInside.{Inside as ReportInside}

abbrev pub entry_view : EntryInside → EntryPosition
entry_view e = record { processors = e.processors; policy = e.policy; me = e.me; row = e.row; source = e.source; inside = e.inside }

abbrev pub gather_view : GatherInside → GatherPosition
gather_view g =
    record { processors = g.processors; first_looks = g.first_looks; second_looks = g.second_looks; me = g.me; row = g.row; blocked = g.blocked }

abbrev pub report_view : ReportInside → ReportPosition
report_view r =
    record { processors = r.processors; first_looks = r.first_looks; second_looks = r.second_looks; me = r.me; row = r.row; bsp = r.bsp }
