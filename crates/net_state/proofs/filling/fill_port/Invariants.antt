use Rattle.std.specs.Prelude.{◌-◌, length, map, slice_get}
use Rattle.rvc_io.specs.Feeds.{PullsOnly}
use Rattle.net_model.specs.Ready.{tokens_of}
use Rattle.port_files.specs.Coming.{EndIsTrue, coming_on}
use Rattle.net_state.proofs.Feeding.{IsTaking}
use Rattle.net_state.proofs.filling.fill_port.Given as goal

abbrev pub invariant-loop-tokens : goal.invariant-loop-tokens
invariant-loop-tokens g l =
    IsTaking l.initial.tokens.kind l.tokens.kind l.inlet.kind l.inlet.inst.0 l.inlet.port l.inlet.capacity l.count
    (map g.A.Firing.cell l.initial.cells) (map g.A.Firing.cell l.cells)
    (coming_on l.initial.tokens.pulled (g.F.Feeds.feeds l.initial.feeds) l.feed) (coming_on l.tokens.pulled (g.F.Feeds.feeds l.feeds) l.feed)
    × EndIsTrue l.tokens ((g.F.Feeds.feeds l.feeds).left l.feed)
    × PullsOnly g.F.Feeds.feeds l.initial.feeds l.feeds l.feed

abbrev pub decreases-loop-tokens : goal.decreases-loop-tokens
decreases-loop-tokens g l = l.inlet.capacity - length (tokens_of (slice_get (map g.A.Firing.cell l.cells) l.inlet.inst.0) l.inlet.port)
