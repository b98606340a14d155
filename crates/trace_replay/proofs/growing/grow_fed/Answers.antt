use Rattle.std.proofs.Common.{ap, length, map, sym, subst, ◌∙◌, arith}
use Rattle.net_state.specs.Held.{HoldFew, seen}
use Rattle.net_state.specs.Moving.{SameActors, SameMarks}
use Rattle.net_state.proofs.Kept.{same_then}
use Rattle.network_runner.proofs.Filling.{marks_then}
use Rattle.trace_replay.specs.Ending.{HoldEnough}
use Rattle.trace_replay.proofs.Ended.{untrapped_after}
use Rattle.trace_replay.specs.Holding.{KeepsRest, stacked}
use Rattle.trace_replay.proofs.Behind.{taken_moved, taken_widened}
use Rattle.trace_replay.proofs.Growths.{grown_grown, not_grown_untrue, unsettled_untrue}
use Rattle.trace_replay.proofs.Pulling.{inputs_pulled}
use Rattle.trace_replay.proofs.Stepped.{feed_named}
use Rattle.trace_replay.proofs.Widened.{can_grow_after}
use Rattle.trace_replay.proofs.growing.grow_fed.Goals as goal

pub returns-then-not-is_settled-clause-growth : goal.returns-then-not-is_settled-clause-growth
returns-then-not-is_settled-clause-growth g c =
    unsettled_untrue c.args.grow c.args.link c.args.capacity (seen g.A.Firing.cell c.args.state.now) (seen g.A.Firing.cell c.args.state.now) (stacked c.args.taken.now) (stacked c.args.taken.now) c.args.readers.now c.args.readers.now
    (g.F.Feeds.feeds c.args.feeds.now) (g.F.Feeds.feeds c.args.feeds.now) (c.is_settled.ensures.no c.if-not-is_settled.true)

pub grow_so-requires-clause-queues : goal.grow_so-requires-clause-queues
grow_so-requires-clause-queues g c =
    can_grow_after c.args.grow c.args.links.now (map g.A.Firing.cell c.args.state.now.cells) (map g.A.Firing.cell c.deliver_held.new.state.cells) c.deliver_held.ensures.same_actors c.requires.queues

pub grow_so-requires-clause-enough : goal.grow_so-requires-clause-enough
grow_so-requires-clause-enough g c = subst (HoldEnough c.args.links.now) (sym c.deliver_held.ensures.capacities) c.requires.enough

pub grow_so-requires-clause-few : goal.grow_so-requires-clause-few
grow_so-requires-clause-few g c = subst HoldFew (sym c.deliver_held.ensures.capacities) c.requires.few_held

pub grow_so-requires-clause-untrapped : goal.grow_so-requires-clause-untrapped
grow_so-requires-clause-untrapped g c =
    untrapped_after (map g.A.Firing.cell c.args.state.now.cells) (map g.A.Firing.cell c.deliver_held.new.state.cells) c.deliver_held.ensures.same_actors c.deliver_held.ensures.same_marks c.requires.untrapped

pub grow_so-requires-clause-rest : goal.grow_so-requires-clause-rest
grow_so-requires-clause-rest g c = c.in-Ok.ensures.delivers.rests

pub returns-in-Err-clause-feed : goal.returns-in-Err-clause-feed
returns-in-Err-clause-feed g c =
    feed_named c.args.links.now c.args.readers.now c.deliver_held.new.readers (g.F.Feeds.feeds c.deliver_held.new.feeds) c.in-Err.fault.feed
    c.deliver_held.ensures.still_fit c.deliver_held.ensures.still_there c.in-Err.ensures.feed

pub returns-in-Err-clause-elsewhere : goal.returns-in-Err-clause-elsewhere
returns-in-Err-clause-elsewhere g c = inputs_pulled (g.F.Feeds.feeds c.args.feeds.now) (g.F.Feeds.feeds c.deliver_held.new.feeds) c.deliver_held.ensures.same_open

pub returns-then-not-grow_so-clause-growth : goal.returns-then-not-grow_so-clause-growth
returns-then-not-grow_so-clause-growth g c =
    not_grown_untrue c.args.grow c.args.link c.args.capacity (seen g.A.Firing.cell c.args.state.now) (seen g.A.Firing.cell c.deliver_held.new.state) (seen g.A.Firing.cell c.grow_so.new.state)
    (stacked c.args.taken.now) (stacked c.deliver_held.new.taken) c.args.readers.now c.deliver_held.new.readers (g.F.Feeds.feeds c.args.feeds.now) (g.F.Feeds.feeds c.deliver_held.new.feeds) c.deliver_held.new.came
    (c.is_settled.ensures.yes c.if-not-is_settled.false) c.in-Ok.ensures.delivers (c.grow_so.ensures.no c.if-not-grow_so.true)

pub returns-then-not-grow_so-clause-elsewhere : goal.returns-then-not-grow_so-clause-elsewhere
returns-then-not-grow_so-clause-elsewhere g c = inputs_pulled (g.F.Feeds.feeds c.args.feeds.now) (g.F.Feeds.feeds c.deliver_held.new.feeds) c.deliver_held.ensures.same_open

pub take_back_all-requires-clause-links : goal.take_back_all-requires-clause-links
take_back_all-requires-clause-links g c = c.grow_so.ensures.links ∙ (c.deliver_held.ensures.links ∙ c.requires.links)

pub take_back_all-requires-clause-fit : goal.take_back_all-requires-clause-fit
take_back_all-requires-clause-fit g c =
    taken_widened (seen g.A.Firing.cell c.deliver_held.new.state) (seen g.A.Firing.cell c.grow_so.new.state) c.args.links.now c.deliver_held.new.taken
    (c.deliver_held.ensures.links ∙ c.requires.links) c.grow_so.ensures.links c.grow_so.ensures.inputs c.deliver_held.ensures.emptied c.deliver_held.ensures.still_taken

pub reopen-requires-clause-rest : goal.reopen-requires-clause-rest
reopen-requires-clause-rest g c = c.take_back_all.ensures.takes.rests c.grow_so.ensures.rests

pub reopen-requires-clause-as_many : goal.reopen-requires-clause-as_many
reopen-requires-clause-as_many g c =
    omega (arith, c.note_waited.auto.noted, c.requires.as_many_noted, ap (λ ls. length ls) c.take_back_all.ensures.takes.keeps.links, ap (λ ls. length ls) c.grow_so.ensures.links, ap (λ ls. length ls) c.deliver_held.ensures.links, ap (λ ls. length ls) c.requires.links)

pub returns-clause-growth : goal.returns-clause-growth
returns-clause-growth g c =
    grown_grown c.args.grow c.args.link c.args.capacity (seen g.A.Firing.cell c.args.state.now) (seen g.A.Firing.cell c.deliver_held.new.state) (seen g.A.Firing.cell c.grow_so.new.state)
    (seen g.A.Firing.cell c.take_back_all.new.state) (seen g.A.Firing.cell c.reopen.new.self) (stacked c.args.taken.now) c.take_back_all.new.taken.stacks.items
    c.args.readers.now c.deliver_held.new.readers (g.F.Feeds.feeds c.args.feeds.now) (g.F.Feeds.feeds c.deliver_held.new.feeds) c.deliver_held.new.came
    (c.is_settled.ensures.yes c.if-not-is_settled.false) c.in-Ok.ensures.delivers (c.deliver_held.ensures.still_as_many ∙ (c.requires.as_many ∙ sym (ap (λ ls. length ls) c.requires.links)))
    (c.grow_so.ensures.yes c.if-not-grow_so.false) c.take_back_all.ensures.takes
    c.note_waited.new.noted c.note_waited.ensures.fit c.note_waited.ensures.noted c.reopen.ensures.states

pub returns-clause-still_fits : goal.returns-clause-still_fits
returns-clause-still_fits g c =
    let grew = seen g.A.Firing.cell c.grow_so.new.state in
    let back = seen g.A.Firing.cell c.take_back_all.new.state in
    let keeps : KeepsRest grew back = c.take_back_all.ensures.takes.keeps in
    record {
      taken_fits = taken_moved back (seen g.A.Firing.cell c.reopen.new.self) c.take_back_all.new.taken (ap (map g.A.Firing.cell) c.reopen.ensures.cells) c.reopen.ensures.links c.reopen.ensures.capacities c.take_back_all.ensures.still_fit;
      readers = c.deliver_held.ensures.still_fit;
      enough = subst (HoldEnough c.args.links.now) (sym (c.reopen.ensures.capacities ∙ keeps.capacities)) c.grow_so.ensures.enough;
      few_held = subst HoldFew (sym (c.reopen.ensures.capacities ∙ keeps.capacities)) c.grow_so.ensures.few;
      actors = subst (λ cs. SameActors (map g.A.Firing.cell c.args.state.now.cells) (map g.A.Firing.cell cs)) (sym c.reopen.ensures.cells)
          (same_then (map g.A.Firing.cell c.args.state.now.cells) grew.cells back.cells
          (same_then (map g.A.Firing.cell c.args.state.now.cells) (map g.A.Firing.cell c.deliver_held.new.state.cells) grew.cells c.deliver_held.ensures.same_actors c.grow_so.ensures.same_actors) keeps.actors);
      marks = subst (λ cs. SameMarks (map g.A.Firing.cell c.args.state.now.cells) (map g.A.Firing.cell cs)) (sym c.reopen.ensures.cells)
          (marks_then (map g.A.Firing.cell c.args.state.now.cells) grew.cells back.cells
          (same_then (map g.A.Firing.cell c.args.state.now.cells) (map g.A.Firing.cell c.deliver_held.new.state.cells) grew.cells c.deliver_held.ensures.same_actors c.grow_so.ensures.same_actors).count
          (marks_then (map g.A.Firing.cell c.args.state.now.cells) (map g.A.Firing.cell c.deliver_held.new.state.cells) grew.cells c.deliver_held.ensures.same_actors.count c.deliver_held.ensures.same_marks c.grow_so.ensures.same_marks) keeps.marks);
      same_links = c.reopen.ensures.links ∙ (keeps.links ∙ (c.grow_so.ensures.links ∙ c.deliver_held.ensures.links));
    }

pub returns-clause-elsewhere : goal.returns-clause-elsewhere
returns-clause-elsewhere g c = inputs_pulled (g.F.Feeds.feeds c.args.feeds.now) (g.F.Feeds.feeds c.deliver_held.new.feeds) c.deliver_held.ensures.same_open
