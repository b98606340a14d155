use Rattle.std.proofs.Common.{◌≡◌, ◌++◌, length, map, take, drop, sym, subst, ap, ◌∙◌, arith}
use Rattle.std.specs.Prelude.{is_some}
use Rattle.net_state.specs.Held.{seen}
use Rattle.trace_replay.specs.Holding.{DeliversHeld, stacked}
use Rattle.network_runner.specs.Filling.{IsFeedOf as IsFeedOfReader, ReadersFit}
use Rattle.trace_replay.specs.Between.{CanGoOn, GoesBy, between}
use Rattle.trace_replay.specs.Counting.{CatchesUp, CountsDelivery}
use Rattle.trace_text.specs.declared.line.Line.TheVariants.{Deliver}
use Rattle.trace_replay.proofs.Chained.{written_back}
use Rattle.trace_replay.proofs.Stepped.{delivered_counts, delivered_goes, delivered_ready, feed_named, fit_delivered}
use Rattle.trace_replay.proofs.between.Replay.deliver.Goals as goal

pub returns-in-Ok-clause-goes : goal.returns-in-Ok-clause-goes
returns-in-Ok-clause-goes g c =
    let self = c.args.self.now in
    let old = seen g.A.Firing.cell self.state in
    let new = seen g.A.Firing.cell c.deliver_held.new.state in
    let fo = g.F.Feeds.feeds c.args.feeds.now in
    let fn = g.F.Feeds.feeds c.deliver_held.new.feeds in
    let len : length c.deliver_held.new.readers ≡ self.readers.len = omega (arith, c.deliver_held.auto.readers, c.deref_mut.ensures.len) in
    subst (λ xs. GoesBy self.grow Deliver (between g.A.Firing.cell self.state self.taken self.readers.items self.numbers fo) (between g.A.Firing.cell c.deliver_held.new.state c.deliver_held.new.taken xs c.count_delivery.new.numbers fn))
    (sym (written_back self.readers.items c.deliver_held.new.readers self.readers.len len))
    (delivered_goes self.grow old new self.taken c.deliver_held.new.taken self.readers.items c.deliver_held.new.readers self.numbers c.count_delivery.new.numbers fo fn c.deliver_held.new.came
    (subst (λ xs. DeliversHeld old new (stacked self.taken) xs c.deliver_held.new.readers fo fn c.deliver_held.new.came) c.deref_mut.ensures.value c.in-Ok.ensures.delivers) c.deliver_held.ensures.emptied)

pub returns-in-Ok-clause-counts : goal.returns-in-Ok-clause-counts
returns-in-Ok-clause-counts g c =
    let self = c.args.self.now in
    let old = seen g.A.Firing.cell self.state in
    let new = seen g.A.Firing.cell c.deliver_held.new.state in
    let fo = g.F.Feeds.feeds c.args.feeds.now in
    let fn = g.F.Feeds.feeds c.deliver_held.new.feeds in
    let long : length c.deliver_held.new.came ≡ self.came.len = omega (arith, c.deliver_held.auto.came, c.deref_mut-2.ensures.len) in
    let came : c.deref-in-Ok.result.now ≡ c.deliver_held.new.came = c.deref-in-Ok.ensures.value ∙ written_back self.came.items c.deliver_held.new.came self.came.len long in
    delivered_counts self.grow self.links.items old new self.taken c.deliver_held.new.taken self.readers.items c.deliver_held.new.readers self.numbers c.catch_up.new.numbers c.count_delivery.new.numbers fo fn c.deliver_held.new.came
    (subst (λ xs. DeliversHeld old new (stacked self.taken) xs c.deliver_held.new.readers fo fn c.deliver_held.new.came) c.deref_mut.ensures.value c.in-Ok.ensures.delivers)
    c.requires.ready.links_are c.requires.few c.requires.ready.few_held
    (subst (λ ls. CatchesUp old.cells ls self.numbers c.catch_up.new.numbers) c.deref.ensures.value c.catch_up.ensures)
    (subst (λ fs. CountsDelivery fs c.catch_up.new.numbers c.count_delivery.new.numbers) came c.count_delivery.ensures)

pub returns-in-Ok-clause-still_ready : goal.returns-in-Ok-clause-still_ready
returns-in-Ok-clause-still_ready g c =
    let self = c.args.self.now in
    let old = seen g.A.Firing.cell self.state in
    let new = seen g.A.Firing.cell c.deliver_held.new.state in
    let fo = g.F.Feeds.feeds c.args.feeds.now in
    let fn = g.F.Feeds.feeds c.deliver_held.new.feeds in
    let len : length c.deliver_held.new.readers ≡ self.readers.len = omega (arith, c.deliver_held.auto.readers, c.deref_mut.ensures.len) in
    let long : length c.deliver_held.new.came ≡ self.came.len = omega (arith, c.deliver_held.auto.came, c.deref_mut-2.ensures.len) in
    let back : take self.came.len (c.deliver_held.new.came ++ drop (length c.deliver_held.new.came) self.came.items) ≡ c.deliver_held.new.came = written_back self.came.items c.deliver_held.new.came self.came.len long in
    let came : c.deref-in-Ok.result.now ≡ c.deliver_held.new.came = c.deref-in-Ok.ensures.value ∙ back in
    let came_long : length (take self.came.len (c.deliver_held.new.came ++ drop (length c.deliver_held.new.came) self.came.items)) ≡ length self.came.items =
    ap (λ fs. length fs) back ∙ (c.deliver_held.ensures.still_as_many ∙ ap (λ fs. length fs) c.deref_mut-2.ensures.value) in
    subst (λ xs. CanGoOn (between g.A.Firing.cell c.deliver_held.new.state c.deliver_held.new.taken xs c.count_delivery.new.numbers fn) self.links.items
    (length (take self.came.len (c.deliver_held.new.came ++ drop (length c.deliver_held.new.came) self.came.items))) self.grow)
    (sym (written_back self.readers.items c.deliver_held.new.readers self.readers.len len))
    (delivered_ready self.grow self.links.items (length self.came.items) (length (take self.came.len (c.deliver_held.new.came ++ drop (length c.deliver_held.new.came) self.came.items))) old new
    self.taken c.deliver_held.new.taken self.readers.items c.deliver_held.new.readers self.numbers c.count_delivery.new.numbers fo fn c.deliver_held.ensures.still_taken
    (subst (λ ls. ReadersFit ls c.deliver_held.new.readers fn) c.deref-2.ensures.value c.deliver_held.ensures.still_fit) came_long
    (fit_delivered old.cells self.links.items c.deliver_held.new.came self.numbers c.catch_up.new.numbers c.count_delivery.new.numbers
    (subst (λ ls. CatchesUp old.cells ls self.numbers c.catch_up.new.numbers) c.deref.ensures.value c.catch_up.ensures)
    (subst (λ fs. CountsDelivery fs c.catch_up.new.numbers c.count_delivery.new.numbers) came c.count_delivery.ensures) c.requires.ready.numbers)
    c.deliver_held.ensures.same_actors c.deliver_held.ensures.same_marks c.deliver_held.ensures.links c.deliver_held.ensures.capacities c.requires.ready)

pub returns-in-Err-clause-feed : goal.returns-in-Err-clause-feed
returns-in-Err-clause-feed g c =
    let self = c.args.self.now in
    let fn = g.F.Feeds.feeds c.deliver_held.new.feeds in
    feed_named self.links.items self.readers.items c.deliver_held.new.readers fn c.in-Err.fault.feed
    (subst (λ ls. ReadersFit ls c.deliver_held.new.readers fn) c.deref-2.ensures.value c.deliver_held.ensures.still_fit)
    (c.deliver_held.ensures.still_there ∙ ap (map is_some) c.deref_mut.ensures.value)
    (subst (λ ls. IsFeedOfReader ls c.deliver_held.new.readers c.in-Err.fault.feed) c.deref-2.ensures.value c.in-Err.ensures.feed)

pub returns-in-Ok-clause-still_read : goal.returns-in-Ok-clause-still_read
returns-in-Ok-clause-still_read g c =
    let self = c.args.self.now in
    let len : length c.deliver_held.new.readers ≡ self.readers.len = omega (arith, c.deliver_held.auto.readers, c.deref_mut.ensures.len) in
    ap (map is_some) (written_back self.readers.items c.deliver_held.new.readers self.readers.len len) ∙ (c.deliver_held.ensures.still_there ∙ ap (map is_some) c.deref_mut.ensures.value)
