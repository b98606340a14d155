use Rattle.std.proofs.Common.{◌≡◌, ◌+◌, ◌-◌, true, length, if◌then◌else◌}
use Rattle.rvc_io.specs.Feeds.{PullsOnly}
use Rattle.net_model.specs.PortFile.{token_bytes}
use Rattle.port_files.specs.Coming.{coming, EndIsTrue}
use Rattle.port_files.proofs.feed.TokenFeed.gather.Given as goal

-- nothing that is to come was lost, and nothing else was changed
abbrev pub invariant-loop-self : goal.invariant-loop-self
invariant-loop-self g l =
    record {
      coming : coming l.self.pulled ((g.F.Feeds.feeds l.feeds).left l.feed) ≡ coming l.initial.self.pulled ((g.F.Feeds.feeds l.initial.feeds).left l.feed);
      at_end : l.initial.self.ended ≡ true → l.self ≡ l.initial.self;
      kind : l.self.kind ≡ l.initial.self.kind;
      still_same_feed : EndIsTrue l.self ((g.F.Feeds.feeds l.feeds).left l.feed);
      elsewhere : PullsOnly g.F.Feeds.feeds l.initial.feeds l.feeds l.feed;
    }

abbrev pub decreases-loop-self : goal.decreases-loop-self
decreases-loop-self g l = token_bytes l.self.kind - length l.self.pulled + (if l.self.ended then 0 else 1)
