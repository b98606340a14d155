use Rattle.std.proofs.Common.{◌<◌, length, refl, arith}
use Rattle.std.specs.Prelude.{slice_index_or}
use Rattle.rvc_base.specs.declared.scalar.Scalar.TheVariants.{Bool as Truth}
use Rattle.net_model.specs.declared.wiring.End.TheVariants.{Leaf as AtLeaf}
use Rattle.net_model.specs.declared.wiring.Link.{Link}
use Rattle.net_state.specs.Held.{seen}
use Rattle.network_runner.proofs.Filling.{at_place, feed_was, few_now, filling_all, filling_more, filling_starts, fit_after, kinds_after, there_after, marks_after, actors_after}
use Rattle.network_runner.proofs.Unread.{stops_filling}
use Rattle.network_runner.proofs.feeding.fill_all.Goals as goal

pub loop-l-init : goal.loop-l-init
loop-l-init g c = filling_starts c.args.links.now (seen g.A.Firing.cell c.args.net.now) c.args.readers.now (g.F.Feeds.feeds c.args.feeds.now) c.args.came.now c.requires.readers

pub returns-in-Err-clause-still_fit : goal.returns-in-Err-clause-still_fit
returns-in-Err-clause-still_fit g c =
    let readers = c.loop-l.readers in
    let low : c.loop-l.l < length readers = omega (arith, c.loop-l-test.true, c.loop-l.auto.readers, c.requires.readers.count) in
    let reader = slice_index_or readers c.loop-l.l c.index-readers-l.result in
    fit_after c.loop-l.l c.loop-l.feed c.args.links.now (seen g.A.Firing.cell c.args.net.now) (seen g.A.Firing.cell c.loop-l.net) (seen g.A.Firing.cell c.fill_one.new.net) c.args.readers.now readers
    (g.F.Feeds.feeds c.args.feeds.now) (g.F.Feeds.feeds c.loop-l.feeds) (g.F.Feeds.feeds c.fill_one.new.feeds) c.args.came.now c.loop-l.came
    c.loop-l.invariant c.loop-l-test.true reader (at_place readers c.loop-l.l c.index-readers-l.result reader low refl) c.fill_one.new.reader
    c.fill_one.ensures.still_there c.fill_one.ensures.still_same_feed c.fill_one.ensures.unread c.fill_one.ensures.elsewhere

pub returns-in-Err-clause-feed : goal.returns-in-Err-clause-feed
returns-in-Err-clause-feed g c =
    let readers = c.loop-l.readers in
    let low : c.loop-l.l < length readers = omega (arith, c.loop-l-test.true, c.loop-l.auto.readers, c.requires.readers.count) in
    let reader = slice_index_or readers c.loop-l.l c.index-readers-l.result in
    feed_was c.loop-l.l c.loop-l.feed c.args.links.now (seen g.A.Firing.cell c.args.net.now) (seen g.A.Firing.cell c.loop-l.net) (seen g.A.Firing.cell c.fill_one.new.net) c.args.readers.now readers
    (g.F.Feeds.feeds c.args.feeds.now) (g.F.Feeds.feeds c.loop-l.feeds) (g.F.Feeds.feeds c.fill_one.new.feeds) c.args.came.now c.loop-l.came
    c.loop-l.invariant c.loop-l-test.true reader (at_place readers c.loop-l.l c.index-readers-l.result reader low refl) c.fill_one.new.reader
    c.fill_one.ensures.still_there c.fill_one.ensures.still_same_feed c.fill_one.ensures.unread c.fill_one.ensures.elsewhere c.in-Err.ensures.read

pub returns-in-Err-clause-still_there : goal.returns-in-Err-clause-still_there
returns-in-Err-clause-still_there g c =
    let readers = c.loop-l.readers in
    let low : c.loop-l.l < length readers = omega (arith, c.loop-l-test.true, c.loop-l.auto.readers, c.requires.readers.count) in
    let reader = slice_index_or readers c.loop-l.l c.index-readers-l.result in
    there_after c.loop-l.l c.loop-l.feed c.args.links.now (seen g.A.Firing.cell c.args.net.now) (seen g.A.Firing.cell c.loop-l.net) (seen g.A.Firing.cell c.fill_one.new.net) c.args.readers.now readers
    (g.F.Feeds.feeds c.args.feeds.now) (g.F.Feeds.feeds c.loop-l.feeds) (g.F.Feeds.feeds c.fill_one.new.feeds) c.args.came.now c.loop-l.came
    c.loop-l.invariant c.loop-l-test.true reader (at_place readers c.loop-l.l c.index-readers-l.result reader low refl) c.fill_one.new.reader
    c.fill_one.ensures.still_there c.fill_one.ensures.still_same_feed c.fill_one.ensures.unread c.fill_one.ensures.elsewhere

pub returns-in-Err-clause-same_kinds : goal.returns-in-Err-clause-same_kinds
returns-in-Err-clause-same_kinds g c =
    let readers = c.loop-l.readers in
    let low : c.loop-l.l < length readers = omega (arith, c.loop-l-test.true, c.loop-l.auto.readers, c.requires.readers.count) in
    let reader = slice_index_or readers c.loop-l.l c.index-readers-l.result in
    kinds_after c.loop-l.l c.loop-l.feed c.args.links.now (seen g.A.Firing.cell c.args.net.now) (seen g.A.Firing.cell c.loop-l.net) (seen g.A.Firing.cell c.fill_one.new.net) c.args.readers.now readers
    (g.F.Feeds.feeds c.args.feeds.now) (g.F.Feeds.feeds c.loop-l.feeds) (g.F.Feeds.feeds c.fill_one.new.feeds) c.args.came.now c.loop-l.came
    c.loop-l.invariant c.loop-l-test.true reader (at_place readers c.loop-l.l c.index-readers-l.result reader low refl) c.fill_one.new.reader
    c.fill_one.ensures.still_there c.fill_one.ensures.still_same_feed c.fill_one.ensures.unread c.fill_one.ensures.elsewhere c.fill_one.ensures.same_kind

pub returns-in-Err-clause-stops : goal.returns-in-Err-clause-stops
returns-in-Err-clause-stops g c =
    let readers = c.loop-l.readers in
    let low : c.loop-l.l < length readers = omega (arith, c.loop-l-test.true, c.loop-l.auto.readers, c.requires.readers.count) in
    let reader = slice_index_or readers c.loop-l.l c.index-readers-l.result in
    stops_filling c.loop-l.l c.loop-l.feed c.args.links.now (seen g.A.Firing.cell c.args.net.now) (seen g.A.Firing.cell c.loop-l.net) c.args.readers.now readers
    (g.F.Feeds.feeds c.args.feeds.now) (g.F.Feeds.feeds c.loop-l.feeds) (g.F.Feeds.feeds c.fill_one.new.feeds) c.args.came.now c.loop-l.came
    c.loop-l.invariant c.requires.links c.loop-l-test.true reader (at_place readers c.loop-l.l c.index-readers-l.result reader low refl) c.in-Err.ensures.due

pub returns-in-Err-clause-same_actors : goal.returns-in-Err-clause-same_actors
returns-in-Err-clause-same_actors g c =
    let readers = c.loop-l.readers in
    let low : c.loop-l.l < length readers = omega (arith, c.loop-l-test.true, c.loop-l.auto.readers, c.requires.readers.count) in
    let reader = slice_index_or readers c.loop-l.l c.index-readers-l.result in
    actors_after c.loop-l.l c.loop-l.feed c.args.links.now (seen g.A.Firing.cell c.args.net.now) (seen g.A.Firing.cell c.loop-l.net) (seen g.A.Firing.cell c.fill_one.new.net) c.args.readers.now readers
    (g.F.Feeds.feeds c.args.feeds.now) (g.F.Feeds.feeds c.loop-l.feeds) (g.F.Feeds.feeds c.fill_one.new.feeds) c.args.came.now c.loop-l.came
    c.loop-l.invariant c.loop-l-test.true reader (at_place readers c.loop-l.l c.index-readers-l.result reader low refl) c.fill_one.new.reader
    c.fill_one.ensures.still_there c.fill_one.ensures.still_same_feed c.fill_one.ensures.unread c.fill_one.ensures.elsewhere c.fill_one.ensures.same_actors c.fill_one.ensures.same_marks

pub returns-in-Err-clause-same_marks : goal.returns-in-Err-clause-same_marks
returns-in-Err-clause-same_marks g c =
    let readers = c.loop-l.readers in
    let low : c.loop-l.l < length readers = omega (arith, c.loop-l-test.true, c.loop-l.auto.readers, c.requires.readers.count) in
    let reader = slice_index_or readers c.loop-l.l c.index-readers-l.result in
    marks_after c.loop-l.l c.loop-l.feed c.args.links.now (seen g.A.Firing.cell c.args.net.now) (seen g.A.Firing.cell c.loop-l.net) (seen g.A.Firing.cell c.fill_one.new.net) c.args.readers.now readers
    (g.F.Feeds.feeds c.args.feeds.now) (g.F.Feeds.feeds c.loop-l.feeds) (g.F.Feeds.feeds c.fill_one.new.feeds) c.args.came.now c.loop-l.came
    c.loop-l.invariant c.loop-l-test.true reader (at_place readers c.loop-l.l c.index-readers-l.result reader low refl) c.fill_one.new.reader
    c.fill_one.ensures.still_there c.fill_one.ensures.still_same_feed c.fill_one.ensures.unread c.fill_one.ensures.elsewhere c.fill_one.ensures.same_actors c.fill_one.ensures.same_marks

pub next_feed-feed-requires : goal.next_feed-feed-requires
next_feed-feed-requires g c =
    let readers = c.loop-l.readers in
    let low : c.loop-l.l < length readers = omega (arith, c.loop-l-test.true, c.loop-l.auto.readers, c.requires.readers.count) in
    let reader = slice_index_or readers c.loop-l.l c.index-readers-l.result in
    record {
      few = few_now c.loop-l.l c.loop-l.feed c.args.links.now (seen g.A.Firing.cell c.args.net.now) (seen g.A.Firing.cell c.loop-l.net) (seen g.A.Firing.cell c.fill_one.new.net) c.args.readers.now readers
          (g.F.Feeds.feeds c.args.feeds.now) (g.F.Feeds.feeds c.loop-l.feeds) (g.F.Feeds.feeds c.fill_one.new.feeds) c.args.came.now c.loop-l.came
          c.loop-l.invariant c.loop-l-test.true reader (at_place readers c.loop-l.l c.index-readers-l.result reader low refl) c.requires.few;
    }

pub loop-l-preserved : goal.loop-l-preserved
loop-l-preserved g c =
    let readers = c.loop-l.readers in
    let low : c.loop-l.l < length readers = omega (arith, c.loop-l-test.true, c.loop-l.auto.readers, c.requires.readers.count) in
    let reader = slice_index_or readers c.loop-l.l c.index-readers-l.result in
    let d : Link = record { from = AtLeaf (record { 0 = 0 }) 0; to = AtLeaf (record { 0 = 0 }) 0; capacity = 0; kind = Truth } in
    filling_more c.loop-l.l c.loop-l.feed c.args.links.now (seen g.A.Firing.cell c.args.net.now) (seen g.A.Firing.cell c.loop-l.net) (seen g.A.Firing.cell c.fill_one.new.net) c.args.readers.now readers
    (g.F.Feeds.feeds c.args.feeds.now) (g.F.Feeds.feeds c.loop-l.feeds) (g.F.Feeds.feeds c.fill_one.new.feeds) c.args.came.now c.loop-l.came
    c.loop-l.invariant c.loop-l-test.true reader (at_place readers c.loop-l.l c.index-readers-l.result reader low refl) c.fill_one.new.reader
    c.in-Ok.ensures.still_there c.in-Ok.ensures.still_same_feed c.in-Ok.ensures.unread c.in-Ok.ensures.elsewhere c.in-Ok.ensures.same_actors c.in-Ok.ensures.same_marks
    c.in-Ok.filled c.in-Ok.ensures.fills c.requires.links c.requires.as_many c.in-Ok.ensures.links c.in-Ok.ensures.capacities c.in-Ok.ensures.waited d c.next_feed-feed.result c.next_feed-feed.ensures c.in-Ok.ensures.same_kind

pub returns-clause-fills : goal.returns-clause-fills
returns-clause-fills g c = filling_all c.loop-l.l c.loop-l.feed c.args.links.now (seen g.A.Firing.cell c.args.net.now) (seen g.A.Firing.cell c.loop-l.net) c.args.readers.now c.loop-l.readers
    (g.F.Feeds.feeds c.args.feeds.now) (g.F.Feeds.feeds c.loop-l.feeds) c.args.came.now c.loop-l.came
    c.loop-l.invariant c.requires.links (omega (arith, c.loop-l-test.false, c.loop-l.auto.l-end))
