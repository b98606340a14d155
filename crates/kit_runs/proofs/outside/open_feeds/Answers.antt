use Rattle.std.proofs.Common.{◌+◌, refl}
use Rattle.kit_runs.proofs.Opened.{open_more, still_closed}
use Rattle.kit_runs.proofs.outside.open_feeds.Goals as goal

pub open-requires : goal.open-requires
open-requires g c = still_closed c.loop-k.k (c.loop-k.k + 1) (g.F.Feeds.feeds c.loop-k.feeds).is_open c.loop-k.invariant refl

pub loop-k-preserved : goal.loop-k-preserved
loop-k-preserved g c =
    open_more c.loop-k.k (c.loop-k.k + 1) (g.F.Feeds.feeds c.loop-k.feeds).is_open (g.F.Feeds.feeds c.open.new.self).is_open c.loop-k.invariant refl
    c.in_ok-open.ensures.opened.opened c.open.ensures.elsewhere.same_open
