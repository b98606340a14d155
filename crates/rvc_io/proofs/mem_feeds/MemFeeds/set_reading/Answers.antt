use Rattle.std.proofs.Common.{Some, map}
use Rattle.std.proofs.lemmas.List.{map-set}
use Rattle.rvc_io.specs.Files.{named}
use Rattle.rvc_io.specs.MemFeeds.{left_of}
use Rattle.rvc_io.proofs.mem_feeds.MemFeeds.set_reading.Goals as goal

pub returns-clause-left : goal.returns-clause-left
returns-clause-left c =
    rw (← c.self.view_is) (map-set (left_of (map named c.self.inside.files.items)) c.self.inside.readings.items c.args.feed (Some c.args.reading))
