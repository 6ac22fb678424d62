-- What a replay keeps: the world that it came to, and the images after.
use Rattle.rendezvous_core.specs.Worlds.{is_complete}
use Rattle.replay_report.specs.declared.replay.Replay.TheInside.{Inside}
use Rattle.replay_report.specs.Replays.{Replayed}

abbrev pub replayed_in : Inside → Replayed
replayed_in r = record { events = r.world.events; complete = is_complete r.world.world; images = r.images.items }
