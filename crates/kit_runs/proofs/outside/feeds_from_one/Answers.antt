use Rattle.std.proofs.Common.{◌+◌}
use Rattle.kit_runs.proofs.Opened.{no_feed_open}
use Rattle.kit_runs.proofs.outside.feeds_from_one.Goals as goal

pub open_feeds-requires-clause-closed : goal.open_feeds-requires-clause-closed
open_feeds-requires-clause-closed c = no_feed_open c.in_ok-feeds.feeds (c.args.count + 1) c.in_ok-feeds.ensures.none_open
