use Rattle.rvc_io.proofs.FeedLemmas.{none_left}
use Rattle.rvc_io.proofs.mem_feeds.MemFeeds.new.Goals as goal

pub returns-clause-none_open : goal.returns-clause-none_open
returns-clause-none_open c = none_left _ c.in_ok-readings.readings.items c.args.feeds c.in_ok-readings.ensures
