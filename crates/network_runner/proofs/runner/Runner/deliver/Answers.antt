use Rattle.std.proofs.Common.{rules, ◌≡◌, ◌++◌, length, map, take, drop, sym, ap, subst, refl, ◌∙◌, arith}
use Rattle.std.specs.Prelude.{IfErr, None, is_some}
use Rattle.std.specs.Vec.{with_items}
use Rattle.net_state.specs.Held.{seen}
use Rattle.net_state.proofs.Slices.{written_back}
use Rattle.round_runner.specs.Running.{FeedsFit}
use Rattle.network_runner.specs.Asking.{IsFeed, seen_run}
use Rattle.network_runner.specs.Counting.{arrived_with, rests_with}
use Rattle.network_runner.specs.Delivering.{Delivers}
use Rattle.network_runner.specs.Filling.{IsFeedOf, ReadersFit, StopsDelivery, kind_read}
use Rattle.network_runner.specs.Keeping.{running_of}
use Rattle.network_runner.specs.Stepping.{DeliversRun, StopsRun}
use Rattle.network_runner.proofs.Fitting.{as_many_cells, delivers_run, feeds_still, its_feed, parts_kept, readers_fit}
use Rattle.network_runner.proofs.Going.{going_delivered}
use Rattle.network_runner.proofs.Numbers.{arrived_long, rests_long}
use Rattle.network_runner.proofs.Parted.{err_as}
use Rattle.network_runner.proofs.Unread.{stops_run}
use Rattle.network_runner.proofs.runner.Runner.deliver.Goals as goal

pub deliver_all-requires-clause-readers : goal.deliver_all-requires-clause-readers
deliver_all-requires-clause-readers g c =
    let view = running_of c.self.inside.net c.self.inside.ins.items c.self.inside.open_ins.items c.self.inside.outlets.items c.self.inside.readers.items (g.P.Policy.kind c.self.inside.policy) c.self.inside.plan c.self.inside.idle c.self.inside.trace c.self.inside.writers.items c.self.inside.counts c.self.inside.ended in
    let fits : FeedsFit view (g.F.Feeds.feeds c.args.feeds.now) = subst (λ r. FeedsFit r (g.F.Feeds.feeds c.args.feeds.now)) (sym c.self.view_is) c.requires.feeds in
    subst (λ rs. ReadersFit c.deref.result.now rs (g.F.Feeds.feeds c.args.feeds.now)) (sym c.deref_mut.ensures.value)
    (subst (λ ls. ReadersFit ls c.self.inside.readers.items (g.F.Feeds.feeds c.args.feeds.now)) (sym c.deref.ensures.value)
    (readers_fit view c.self.inside.links.items c.self.inside.outlets.items (length c.self.inside.came.items) (length c.self.inside.writers.items) c.self.inside.cells c.self.invariant.0 (g.F.Feeds.feeds c.args.feeds.now) fits))

pub invariant_of-self : goal.invariant_of-self
invariant_of-self g c =
    let view = running_of c.self.inside.net c.self.inside.ins.items c.self.inside.open_ins.items c.self.inside.outlets.items c.self.inside.readers.items (g.P.Policy.kind c.self.inside.policy) c.self.inside.plan c.self.inside.idle c.self.inside.trace c.self.inside.writers.items c.self.inside.counts c.self.inside.ended in
    let new = running_of c.deliver_all.new.net c.self.inside.ins.items c.self.inside.open_ins.items c.self.inside.outlets.items (take c.self.inside.readers.len (c.deliver_all.new.readers ++ drop (length c.deliver_all.new.readers) c.self.inside.readers.items)) (g.P.Policy.kind c.self.inside.policy) c.self.inside.plan c.self.inside.idle c.self.inside.trace c.self.inside.writers.items c.self.inside.counts c.self.inside.ended in
    let back : (take c.self.inside.readers.len (c.deliver_all.new.readers ++ drop (length c.deliver_all.new.readers) c.self.inside.readers.items)) ≡ c.deliver_all.new.readers = written_back c.self.inside.readers.items c.deliver_all.new.readers c.self.inside.readers.len (omega (arith, c.deliver_all.auto.readers, c.deref_mut.ensures.len)) in
    let came_back : (take c.self.inside.came.len (c.deliver_all.new.came ++ drop (length c.deliver_all.new.came) c.self.inside.came.items)) ≡ c.deliver_all.new.came = written_back c.self.inside.came.items c.deliver_all.new.came c.self.inside.came.len (omega (arith, c.deliver_all.auto.came, c.deref_mut-2.ensures.len)) in (
      parts_kept view new c.self.inside.links.items c.self.inside.outlets.items (length c.self.inside.came.items) (length (take c.self.inside.came.len (c.deliver_all.new.came ++ drop (length c.deliver_all.new.came) c.self.inside.came.items))) (length c.self.inside.writers.items) (length c.self.inside.writers.items) c.self.inside.cells
          (c.deliver_all.ensures.links ∙ c.self.invariant.0.links_are) (as_many_cells g.A.Firing.cell c.deliver_all.new.net.cells c.self.inside.net.cells c.deliver_all.ensures.same_actors.count)
          (ap (λ fs. length fs) came_back ∙ (c.deliver_all.ensures.still_as_many ∙ ap (λ fs. length fs) c.deref_mut-2.ensures.value)) refl
          (ap (map is_some) back ∙ (c.deliver_all.ensures.still_there ∙ ap (map is_some) c.deref_mut.ensures.value))
          (ap (map kind_read) back ∙ (c.deliver_all.ensures.same_kinds ∙ ap (map kind_read) c.deref_mut.ensures.value)) refl refl refl refl
          refl refl refl c.self.invariant.0,
      λ going. going_delivered (seen_run g.A.Firing.cell view) (seen_run g.A.Firing.cell new) (length c.self.inside.marks.items) (g.P.Policy.rounds c.self.inside.policy) (g.P.Policy.instances c.self.inside.policy)
          c.deliver_all.ensures.same_actors c.deliver_all.ensures.same_marks c.deliver_all.ensures.links c.deliver_all.ensures.capacities refl refl refl refl refl (c.self.invariant.1 going),
    )

pub returns-in_err-deliver_all-clause-feed : goal.returns-in_err-deliver_all-clause-feed
returns-in_err-deliver_all-clause-feed g c =
    let view = running_of c.self.inside.net c.self.inside.ins.items c.self.inside.open_ins.items c.self.inside.outlets.items c.self.inside.readers.items (g.P.Policy.kind c.self.inside.policy) c.self.inside.plan c.self.inside.idle c.self.inside.trace c.self.inside.writers.items c.self.inside.counts c.self.inside.ended in
    let new = running_of c.deliver_all.new.net c.self.inside.ins.items c.self.inside.open_ins.items c.self.inside.outlets.items (take c.self.inside.readers.len (c.deliver_all.new.readers ++ drop (length c.deliver_all.new.readers) c.self.inside.readers.items)) (g.P.Policy.kind c.self.inside.policy) c.self.inside.plan c.self.inside.idle c.self.inside.trace c.self.inside.writers.items c.self.inside.counts c.self.inside.ended in
    let back : (take c.self.inside.readers.len (c.deliver_all.new.readers ++ drop (length c.deliver_all.new.readers) c.self.inside.readers.items)) ≡ c.deliver_all.new.readers = written_back c.self.inside.readers.items c.deliver_all.new.readers c.self.inside.readers.len (omega (arith, c.deliver_all.auto.readers, c.deref_mut.ensures.len)) in
    let came_back : (take c.self.inside.came.len (c.deliver_all.new.came ++ drop (length c.deliver_all.new.came) c.self.inside.came.items)) ≡ c.deliver_all.new.came = written_back c.self.inside.came.items c.deliver_all.new.came c.self.inside.came.len (omega (arith, c.deliver_all.auto.came, c.deref_mut-2.ensures.len)) in
    let parts = parts_kept view new c.self.inside.links.items c.self.inside.outlets.items (length c.self.inside.came.items) (length (take c.self.inside.came.len (c.deliver_all.new.came ++ drop (length c.deliver_all.new.came) c.self.inside.came.items))) (length c.self.inside.writers.items) (length c.self.inside.writers.items) c.self.inside.cells
    (c.deliver_all.ensures.links ∙ c.self.invariant.0.links_are) (as_many_cells g.A.Firing.cell c.deliver_all.new.net.cells c.self.inside.net.cells c.deliver_all.ensures.same_actors.count)
    (ap (λ fs. length fs) came_back ∙ (c.deliver_all.ensures.still_as_many ∙ ap (λ fs. length fs) c.deref_mut-2.ensures.value)) refl
    (ap (map is_some) back ∙ (c.deliver_all.ensures.still_there ∙ ap (map is_some) c.deref_mut.ensures.value))
    (ap (map kind_read) back ∙ (c.deliver_all.ensures.same_kinds ∙ ap (map kind_read) c.deref_mut.ensures.value)) refl refl refl refl
    refl refl refl c.self.invariant.0 in
    let same : IfErr c.from_residual.result (λ fault. IsFeedOf c.deref.result.now c.deliver_all.new.readers fault.feed) = search rules in
    subst (λ r. IfErr c.from_residual.result (λ fault. IsFeed r fault.feed)) c.self.view_is
    (err_as c.from_residual.result (λ fault. IsFeedOf c.deref.result.now c.deliver_all.new.readers fault.feed) (λ fault. IsFeed view fault.feed)
    (λ fault is. its_feed new c.self.inside.links.items c.self.inside.outlets.items (length (take c.self.inside.came.len (c.deliver_all.new.came ++ drop (length c.deliver_all.new.came) c.self.inside.came.items))) (length c.self.inside.writers.items) c.self.inside.cells parts view fault.feed c.self.invariant.0.links_are refl
    (subst (λ rs. IsFeedOf c.self.inside.links.items rs fault.feed) (sym back) (subst (λ ls. IsFeedOf ls c.deliver_all.new.readers fault.feed) c.deref.ensures.value is))) same)

pub returns-in_err-deliver_all-clause-stops : goal.returns-in_err-deliver_all-clause-stops
returns-in_err-deliver_all-clause-stops g c =
    let view = running_of c.self.inside.net c.self.inside.ins.items c.self.inside.open_ins.items c.self.inside.outlets.items c.self.inside.readers.items (g.P.Policy.kind c.self.inside.policy) c.self.inside.plan c.self.inside.idle c.self.inside.trace c.self.inside.writers.items c.self.inside.counts c.self.inside.ended in
    let fo = g.F.Feeds.feeds c.args.feeds.now in
    let fn = g.F.Feeds.feeds c.deliver_all.new.feeds in
    let held = seen g.A.Firing.cell c.self.inside.net in
    let same : IfErr c.from_residual.result (λ fault. StopsDelivery c.deref.result.now c.deref_mut.result.now fault.feed held fo fn) = search rules in
    subst (λ r. IfErr c.from_residual.result (λ fault. StopsRun (seen_run g.A.Firing.cell r) fault.feed fo fn)) c.self.view_is
    (err_as c.from_residual.result (λ fault. StopsDelivery c.deref.result.now c.deref_mut.result.now fault.feed held fo fn) (λ fault. StopsRun (seen_run g.A.Firing.cell view) fault.feed fo fn)
    (λ fault stops. stops_run (seen_run g.A.Firing.cell view) c.self.inside.links.items fault.feed fo fn c.self.invariant.0.links_are c.self.invariant.0.kinds
    (subst (λ ls. StopsDelivery ls c.self.inside.readers.items fault.feed held fo fn) c.deref.ensures.value (subst (λ rs. StopsDelivery c.deref.result.now rs fault.feed held fo fn) c.deref_mut.ensures.value stops))) same)

pub returns-in_err-deliver_all-clause-feeds_fit : goal.returns-in_err-deliver_all-clause-feeds_fit
returns-in_err-deliver_all-clause-feeds_fit g c =
    let view = running_of c.self.inside.net c.self.inside.ins.items c.self.inside.open_ins.items c.self.inside.outlets.items c.self.inside.readers.items (g.P.Policy.kind c.self.inside.policy) c.self.inside.plan c.self.inside.idle c.self.inside.trace c.self.inside.writers.items c.self.inside.counts c.self.inside.ended in
    let new = running_of c.deliver_all.new.net c.self.inside.ins.items c.self.inside.open_ins.items c.self.inside.outlets.items (take c.self.inside.readers.len (c.deliver_all.new.readers ++ drop (length c.deliver_all.new.readers) c.self.inside.readers.items)) (g.P.Policy.kind c.self.inside.policy) c.self.inside.plan c.self.inside.idle c.self.inside.trace c.self.inside.writers.items c.self.inside.counts c.self.inside.ended in
    let back : (take c.self.inside.readers.len (c.deliver_all.new.readers ++ drop (length c.deliver_all.new.readers) c.self.inside.readers.items)) ≡ c.deliver_all.new.readers = written_back c.self.inside.readers.items c.deliver_all.new.readers c.self.inside.readers.len (omega (arith, c.deliver_all.auto.readers, c.deref_mut.ensures.len)) in
    let fits : FeedsFit view (g.F.Feeds.feeds c.args.feeds.now) = subst (λ r. FeedsFit r (g.F.Feeds.feeds c.args.feeds.now)) (sym c.self.view_is) c.requires.feeds in
    let fit : ReadersFit c.self.inside.links.items (take c.self.inside.readers.len (c.deliver_all.new.readers ++ drop (length c.deliver_all.new.readers) c.self.inside.readers.items)) (g.F.Feeds.feeds c.deliver_all.new.feeds) =
    subst (λ rs. ReadersFit c.self.inside.links.items rs (g.F.Feeds.feeds c.deliver_all.new.feeds)) (sym back)
    (subst (λ ls. ReadersFit ls c.deliver_all.new.readers (g.F.Feeds.feeds c.deliver_all.new.feeds)) c.deref.ensures.value c.deliver_all.ensures.still_fit) in
    feeds_still view new c.self.inside.links.items (g.F.Feeds.feeds c.args.feeds.now) (g.F.Feeds.feeds c.deliver_all.new.feeds) (c.deliver_all.ensures.links ∙ c.self.invariant.0.links_are) c.self.invariant.0.links_are refl fit c.deliver_all.ensures.same_open fits

pub invariant_of-self-2 : goal.invariant_of-self-2
invariant_of-self-2 g c =
    let view = running_of c.self.inside.net c.self.inside.ins.items c.self.inside.open_ins.items c.self.inside.outlets.items c.self.inside.readers.items (g.P.Policy.kind c.self.inside.policy) c.self.inside.plan c.self.inside.idle c.self.inside.trace c.self.inside.writers.items c.self.inside.counts c.self.inside.ended in
    let new = running_of c.deliver_all.new.net c.self.inside.ins.items c.self.inside.open_ins.items c.self.inside.outlets.items (take c.self.inside.readers.len (c.deliver_all.new.readers ++ drop (length c.deliver_all.new.readers) c.self.inside.readers.items)) (g.P.Policy.kind c.self.inside.policy) c.self.inside.plan c.self.inside.idle c.self.inside.trace c.self.inside.writers.items (record c.self.inside.counts { arrived = with_items c.self.inside.counts.arrived c.count_arrived.new.arrived; rests = with_items c.self.inside.counts.rests c.count_arrived.new.rests }) c.self.inside.ended in
    let back : (take c.self.inside.readers.len (c.deliver_all.new.readers ++ drop (length c.deliver_all.new.readers) c.self.inside.readers.items)) ≡ c.deliver_all.new.readers = written_back c.self.inside.readers.items c.deliver_all.new.readers c.self.inside.readers.len (omega (arith, c.deliver_all.auto.readers, c.deref_mut.ensures.len)) in
    let came_back : (take c.self.inside.came.len (c.deliver_all.new.came ++ drop (length c.deliver_all.new.came) c.self.inside.came.items)) ≡ c.deliver_all.new.came = written_back c.self.inside.came.items c.deliver_all.new.came c.self.inside.came.len (omega (arith, c.deliver_all.auto.came, c.deref_mut-2.ensures.len)) in
    let arrived_back : (take c.self.inside.counts.arrived.len (c.count_arrived.new.arrived ++ drop (length c.count_arrived.new.arrived) c.self.inside.counts.arrived.items)) ≡ c.count_arrived.new.arrived = written_back c.self.inside.counts.arrived.items c.count_arrived.new.arrived c.self.inside.counts.arrived.len (omega (arith, c.count_arrived.auto.arrived, c.deref_mut-3.ensures.len)) in
    let rests_back : (take c.self.inside.counts.rests.len (c.count_arrived.new.rests ++ drop (length c.count_arrived.new.rests) c.self.inside.counts.rests.items)) ≡ c.count_arrived.new.rests = written_back c.self.inside.counts.rests.items c.count_arrived.new.rests c.self.inside.counts.rests.len (omega (arith, c.count_arrived.auto.rests, c.deref_mut-4.ensures.len)) in
    let arrived_is : (take c.self.inside.counts.arrived.len (c.count_arrived.new.arrived ++ drop (length c.count_arrived.new.arrived) c.self.inside.counts.arrived.items)) ≡ arrived_with c.deref-2.result.now c.self.inside.counts.arrived.items = arrived_back ∙ (c.count_arrived.ensures.arrived ∙ ap (arrived_with c.deref-2.result.now) c.deref_mut-3.ensures.value) in
    let rests_is : (take c.self.inside.counts.rests.len (c.count_arrived.new.rests ++ drop (length c.count_arrived.new.rests) c.self.inside.counts.rests.items)) ≡ rests_with c.deref-2.result.now c.self.inside.counts.rests.items = rests_back ∙ (c.count_arrived.ensures.rests ∙ ap (rests_with c.deref-2.result.now) c.deref_mut-4.ensures.value) in (
      parts_kept view new c.self.inside.links.items c.self.inside.outlets.items (length c.self.inside.came.items) (length (take c.self.inside.came.len (c.deliver_all.new.came ++ drop (length c.deliver_all.new.came) c.self.inside.came.items))) (length c.self.inside.writers.items) (length c.self.inside.writers.items) c.self.inside.cells
          (c.deliver_all.ensures.links ∙ c.self.invariant.0.links_are) (as_many_cells g.A.Firing.cell c.deliver_all.new.net.cells c.self.inside.net.cells c.deliver_all.ensures.same_actors.count)
          (ap (λ fs. length fs) came_back ∙ (c.deliver_all.ensures.still_as_many ∙ ap (λ fs. length fs) c.deref_mut-2.ensures.value)) refl
          (ap (map is_some) back ∙ (c.deliver_all.ensures.still_there ∙ ap (map is_some) c.deref_mut.ensures.value))
          (ap (map kind_read) back ∙ (c.deliver_all.ensures.same_kinds ∙ ap (map kind_read) c.deref_mut.ensures.value)) refl refl refl refl
          (ap (λ ns. length ns) arrived_is ∙ arrived_long c.deref-2.result.now c.self.inside.counts.arrived.items) (ap (λ ns. length ns) rests_is ∙ rests_long c.deref-2.result.now c.self.inside.counts.rests.items) refl c.self.invariant.0,
      λ going. going_delivered (seen_run g.A.Firing.cell view) (seen_run g.A.Firing.cell new) (length c.self.inside.marks.items) (g.P.Policy.rounds c.self.inside.policy) (g.P.Policy.instances c.self.inside.policy)
          c.deliver_all.ensures.same_actors c.deliver_all.ensures.same_marks c.deliver_all.ensures.links c.deliver_all.ensures.capacities refl refl refl refl refl (c.self.invariant.1 going),
    )

pub returns-clause-delivers : goal.returns-clause-delivers
returns-clause-delivers g c =
    let view = running_of c.self.inside.net c.self.inside.ins.items c.self.inside.open_ins.items c.self.inside.outlets.items c.self.inside.readers.items (g.P.Policy.kind c.self.inside.policy) c.self.inside.plan c.self.inside.idle c.self.inside.trace c.self.inside.writers.items c.self.inside.counts c.self.inside.ended in
    let new = running_of c.deliver_all.new.net c.self.inside.ins.items c.self.inside.open_ins.items c.self.inside.outlets.items (take c.self.inside.readers.len (c.deliver_all.new.readers ++ drop (length c.deliver_all.new.readers) c.self.inside.readers.items)) (g.P.Policy.kind c.self.inside.policy) c.self.inside.plan c.self.inside.idle c.self.inside.trace c.self.inside.writers.items (record c.self.inside.counts { arrived = with_items c.self.inside.counts.arrived c.count_arrived.new.arrived; rests = with_items c.self.inside.counts.rests c.count_arrived.new.rests }) c.self.inside.ended in
    let back : (take c.self.inside.readers.len (c.deliver_all.new.readers ++ drop (length c.deliver_all.new.readers) c.self.inside.readers.items)) ≡ c.deliver_all.new.readers = written_back c.self.inside.readers.items c.deliver_all.new.readers c.self.inside.readers.len (omega (arith, c.deliver_all.auto.readers, c.deref_mut.ensures.len)) in
    let came_back : (take c.self.inside.came.len (c.deliver_all.new.came ++ drop (length c.deliver_all.new.came) c.self.inside.came.items)) ≡ c.deliver_all.new.came = written_back c.self.inside.came.items c.deliver_all.new.came c.self.inside.came.len (omega (arith, c.deliver_all.auto.came, c.deref_mut-2.ensures.len)) in
    let arrived_back : (take c.self.inside.counts.arrived.len (c.count_arrived.new.arrived ++ drop (length c.count_arrived.new.arrived) c.self.inside.counts.arrived.items)) ≡ c.count_arrived.new.arrived = written_back c.self.inside.counts.arrived.items c.count_arrived.new.arrived c.self.inside.counts.arrived.len (omega (arith, c.count_arrived.auto.arrived, c.deref_mut-3.ensures.len)) in
    let rests_back : (take c.self.inside.counts.rests.len (c.count_arrived.new.rests ++ drop (length c.count_arrived.new.rests) c.self.inside.counts.rests.items)) ≡ c.count_arrived.new.rests = written_back c.self.inside.counts.rests.items c.count_arrived.new.rests c.self.inside.counts.rests.len (omega (arith, c.count_arrived.auto.rests, c.deref_mut-4.ensures.len)) in
    let arrived_is : (take c.self.inside.counts.arrived.len (c.count_arrived.new.arrived ++ drop (length c.count_arrived.new.arrived) c.self.inside.counts.arrived.items)) ≡ arrived_with c.deref-2.result.now c.self.inside.counts.arrived.items = arrived_back ∙ (c.count_arrived.ensures.arrived ∙ ap (arrived_with c.deref-2.result.now) c.deref_mut-3.ensures.value) in
    let rests_is : (take c.self.inside.counts.rests.len (c.count_arrived.new.rests ++ drop (length c.count_arrived.new.rests) c.self.inside.counts.rests.items)) ≡ rests_with c.deref-2.result.now c.self.inside.counts.rests.items = rests_back ∙ (c.count_arrived.ensures.rests ∙ ap (rests_with c.deref-2.result.now) c.deref_mut-4.ensures.value) in
    let going : c.self.inside.ended ≡ None = ap (λ r. r.ended) c.self.view_is ∙ c.requires.going in
    let delivers : Delivers (seen g.A.Firing.cell c.self.inside.net) (seen g.A.Firing.cell c.deliver_all.new.net) c.self.inside.readers.items (take c.self.inside.readers.len (c.deliver_all.new.readers ++ drop (length c.deliver_all.new.readers) c.self.inside.readers.items)) (g.F.Feeds.feeds c.args.feeds.now) (g.F.Feeds.feeds c.deliver_all.new.feeds) c.deref-2.result.now =
    subst (λ fs. Delivers (seen g.A.Firing.cell c.self.inside.net) (seen g.A.Firing.cell c.deliver_all.new.net) c.self.inside.readers.items (take c.self.inside.readers.len (c.deliver_all.new.readers ++ drop (length c.deliver_all.new.readers) c.self.inside.readers.items)) (g.F.Feeds.feeds c.args.feeds.now) (g.F.Feeds.feeds c.deliver_all.new.feeds) fs) (sym (c.deref-2.ensures.value ∙ came_back))
    (subst (λ rs. Delivers (seen g.A.Firing.cell c.self.inside.net) (seen g.A.Firing.cell c.deliver_all.new.net) c.self.inside.readers.items rs (g.F.Feeds.feeds c.args.feeds.now) (g.F.Feeds.feeds c.deliver_all.new.feeds) c.deliver_all.new.came) (sym back)
    (subst (λ rs. Delivers (seen g.A.Firing.cell c.self.inside.net) (seen g.A.Firing.cell c.deliver_all.new.net) rs c.deliver_all.new.readers (g.F.Feeds.feeds c.args.feeds.now) (g.F.Feeds.feeds c.deliver_all.new.feeds) c.deliver_all.new.came) c.deref_mut.ensures.value
    c.in_ok-deliver_all.ensures.delivers)) in
    subst (λ r. DeliversRun (seen_run g.A.Firing.cell r) (seen_run g.A.Firing.cell new) (g.F.Feeds.feeds c.args.feeds.now) (g.F.Feeds.feeds c.deliver_all.new.feeds)) c.self.view_is
    (delivers_run (seen_run g.A.Firing.cell view) (seen_run g.A.Firing.cell new) (g.F.Feeds.feeds c.args.feeds.now) (g.F.Feeds.feeds c.deliver_all.new.feeds) c.deref-2.result.now delivers
    (c.self.invariant.1 going).few_held arrived_is rests_is refl refl refl)

pub returns-clause-feeds_fit : goal.returns-clause-feeds_fit
returns-clause-feeds_fit g c =
    let view = running_of c.self.inside.net c.self.inside.ins.items c.self.inside.open_ins.items c.self.inside.outlets.items c.self.inside.readers.items (g.P.Policy.kind c.self.inside.policy) c.self.inside.plan c.self.inside.idle c.self.inside.trace c.self.inside.writers.items c.self.inside.counts c.self.inside.ended in
    let new = running_of c.deliver_all.new.net c.self.inside.ins.items c.self.inside.open_ins.items c.self.inside.outlets.items (take c.self.inside.readers.len (c.deliver_all.new.readers ++ drop (length c.deliver_all.new.readers) c.self.inside.readers.items)) (g.P.Policy.kind c.self.inside.policy) c.self.inside.plan c.self.inside.idle c.self.inside.trace c.self.inside.writers.items (record c.self.inside.counts { arrived = with_items c.self.inside.counts.arrived c.count_arrived.new.arrived; rests = with_items c.self.inside.counts.rests c.count_arrived.new.rests }) c.self.inside.ended in
    let back : (take c.self.inside.readers.len (c.deliver_all.new.readers ++ drop (length c.deliver_all.new.readers) c.self.inside.readers.items)) ≡ c.deliver_all.new.readers = written_back c.self.inside.readers.items c.deliver_all.new.readers c.self.inside.readers.len (omega (arith, c.deliver_all.auto.readers, c.deref_mut.ensures.len)) in
    let fits : FeedsFit view (g.F.Feeds.feeds c.args.feeds.now) = subst (λ r. FeedsFit r (g.F.Feeds.feeds c.args.feeds.now)) (sym c.self.view_is) c.requires.feeds in
    let fit : ReadersFit c.self.inside.links.items (take c.self.inside.readers.len (c.deliver_all.new.readers ++ drop (length c.deliver_all.new.readers) c.self.inside.readers.items)) (g.F.Feeds.feeds c.deliver_all.new.feeds) =
    subst (λ rs. ReadersFit c.self.inside.links.items rs (g.F.Feeds.feeds c.deliver_all.new.feeds)) (sym back)
    (subst (λ ls. ReadersFit ls c.deliver_all.new.readers (g.F.Feeds.feeds c.deliver_all.new.feeds)) c.deref.ensures.value c.deliver_all.ensures.still_fit) in
    feeds_still view new c.self.inside.links.items (g.F.Feeds.feeds c.args.feeds.now) (g.F.Feeds.feeds c.deliver_all.new.feeds) (c.deliver_all.ensures.links ∙ c.self.invariant.0.links_are) c.self.invariant.0.links_are refl fit c.deliver_all.ensures.same_open fits
