use Rattle.std.proofs.Common.{map}
use Rattle.net_state.specs.Held.{seen}
use Rattle.trace_replay.specs.Holding.{stacked}
use Rattle.trace_replay.proofs.Ended.{ends_no, ends_yes, untrapped_after}
use Rattle.trace_replay.proofs.Pulling.{inputs_pulled}
use Rattle.trace_replay.proofs.Stepped.{feed_named}
use Rattle.trace_replay.proofs.ending.ends_so.Goals as goal

pub end_line-end-requires-clause-untrapped : goal.end_line-end-requires-clause-untrapped
end_line-end-requires-clause-untrapped g c =
    untrapped_after (map g.A.Firing.cell c.args.state.now.cells) (map g.A.Firing.cell c.deliver_held.new.state.cells)
    c.deliver_held.ensures.same_actors c.deliver_held.ensures.same_marks c.requires.untrapped

pub end_line-end-requires-clause-rest : goal.end_line-end-requires-clause-rest
end_line-end-requires-clause-rest g c = c.in-Ok.ensures.delivers.rests

pub returns-clause-yes : goal.returns-clause-yes
returns-clause-yes g c = λ same.
    ends_yes c.args.grow c.args.line.now c.end_line-end.result (seen g.A.Firing.cell c.args.state.now) (seen g.A.Firing.cell c.deliver_held.new.state)
    (stacked c.args.taken.now) c.args.readers.now c.deliver_held.new.readers (g.F.Feeds.feeds c.args.feeds.now) (g.F.Feeds.feeds c.deliver_held.new.feeds) c.deliver_held.new.came
    c.end_line-end.ensures (c.is_line.ensures.yes same) (c.is_settled.ensures.yes c.if-not-is_settled.false) c.in-Ok.ensures.delivers

pub returns-clause-no : goal.returns-clause-no
returns-clause-no g c = λ differ.
    ends_no c.stalled_in_one_place.ensures.one_place c.stalled_in_one_place.ensures.not_quiet
    c.args.grow c.args.line.now c.end_line-end.result (seen g.A.Firing.cell c.args.state.now) (seen g.A.Firing.cell c.deliver_held.new.state)
    (stacked c.args.taken.now) c.args.readers.now c.deliver_held.new.readers (g.F.Feeds.feeds c.args.feeds.now) (g.F.Feeds.feeds c.deliver_held.new.feeds) c.deliver_held.new.came
    c.end_line-end.ensures (c.is_line.ensures.no differ) (c.is_settled.ensures.yes c.if-not-is_settled.false) c.in-Ok.ensures.delivers

pub returns-clause-elsewhere : goal.returns-clause-elsewhere
returns-clause-elsewhere g c = inputs_pulled (g.F.Feeds.feeds c.args.feeds.now) (g.F.Feeds.feeds c.deliver_held.new.feeds) c.deliver_held.ensures.same_open

pub returns-in-Err-clause-elsewhere : goal.returns-in-Err-clause-elsewhere
returns-in-Err-clause-elsewhere g c = inputs_pulled (g.F.Feeds.feeds c.args.feeds.now) (g.F.Feeds.feeds c.deliver_held.new.feeds) c.deliver_held.ensures.same_open

pub returns-in-Err-clause-feed : goal.returns-in-Err-clause-feed
returns-in-Err-clause-feed g c =
    feed_named c.args.links.now c.args.readers.now c.deliver_held.new.readers (g.F.Feeds.feeds c.deliver_held.new.feeds) c.in-Err.fault.feed c.deliver_held.ensures.still_fit c.deliver_held.ensures.still_there c.in-Err.ensures.feed
