use Rattle.std.proofs.Common.{rules, inl, inr, ◌≡◌, ◌++◌, length, map, take, drop, sym, ap, subst, refl, ◌∙◌, arith}
use Rattle.std.specs.Prelude.{OnErr, OnOk, IfErr}
use Rattle.net_state.proofs.Slices.{written_back}
use Rattle.network_runner.specs.Asking.{ChannelsFit, IsChannel, WritesWithin}
use Rattle.network_runner.specs.Keeping.{HasParts, running_of}
use Rattle.network_runner.specs.Sending.{IsChannelOf, OutletsFit}
use Rattle.network_runner.specs.Stepping.{PutsAll, PutsFronts}
use Rattle.network_runner.proofs.Lines.{err_so, on_err, on_ok}
use Rattle.network_runner.proofs.Parted.{all_so, err_as, fronts_so, going_still, only_within, out_channel, outlets_fit, parts_still, trace_front, within_so}
use Rattle.network_runner.proofs.runner.Runner.put_rest.Goals as goal

pub flush_all-requires-clause-open : goal.flush_all-requires-clause-open
flush_all-requires-clause-open g c =
    let view = running_of c.self.inside.net c.self.inside.ins.items c.self.inside.open_ins.items c.self.inside.outlets.items c.self.inside.readers.items (g.P.Policy.kind c.self.inside.policy) c.self.inside.plan c.self.inside.idle c.self.inside.trace c.self.inside.writers.items c.self.inside.counts c.self.inside.ended in
    let fits : ChannelsFit view (g.D.Drains.channels c.args.drains.now) = subst (λ r. ChannelsFit r (g.D.Drains.channels c.args.drains.now)) (sym c.self.view_is) c.requires.channels in
    (subst (λ os. OutletsFit c.self.inside.links.items os (g.D.Drains.channels c.args.drains.now)) (sym c.deref.ensures.value)
    (outlets_fit view c.self.inside.links.items c.self.inside.outlets.items (length c.self.inside.came.items) (length c.self.inside.writers.items) c.self.inside.cells (g.D.Drains.channels c.args.drains.now) c.self.invariant.0 refl fits)).open_channels

pub invariant_of-self : goal.invariant_of-self
invariant_of-self g c =
    let written : take c.self.inside.writers.len (c.flush_all.new.writers ++ drop (length c.flush_all.new.writers) c.self.inside.writers.items) ≡ c.flush_all.new.writers =
    written_back c.self.inside.writers.items c.flush_all.new.writers c.self.inside.writers.len (omega (arith, c.flush_all.auto.writers, c.deref_mut.ensures.len)) in
    let long : length (take c.self.inside.writers.len (c.flush_all.new.writers ++ drop (length c.flush_all.new.writers) c.self.inside.writers.items)) ≡ length c.self.inside.writers.items =
    ap (λ ws. length ws) written ∙ (c.flush_all.ensures.still_as_many ∙ ap (λ ws. length ws) c.deref_mut.ensures.value) in (
      subst (λ n. HasParts (running_of c.self.inside.net c.self.inside.ins.items c.self.inside.open_ins.items c.self.inside.outlets.items c.self.inside.readers.items (g.P.Policy.kind c.self.inside.policy) c.self.inside.plan c.self.inside.idle c.self.inside.trace (take c.self.inside.writers.len (c.flush_all.new.writers ++ drop (length c.flush_all.new.writers) c.self.inside.writers.items)) c.self.inside.counts c.self.inside.ended) c.self.inside.links.items c.self.inside.outlets.items (length c.self.inside.came.items) n c.self.inside.cells) (sym long)
          (parts_still c.self.inside.net c.self.inside.ins.items c.self.inside.open_ins.items c.self.inside.outlets.items c.self.inside.readers.items (g.P.Policy.kind c.self.inside.policy) c.self.inside.plan c.self.inside.idle c.self.inside.trace c.self.inside.trace c.self.inside.writers.items (take c.self.inside.writers.len (c.flush_all.new.writers ++ drop (length c.flush_all.new.writers) c.self.inside.writers.items)) c.self.inside.counts c.self.inside.ended c.self.inside.ended c.self.inside.links.items (length c.self.inside.came.items) (length c.self.inside.writers.items) c.self.inside.cells c.self.invariant.0),
      λ going. going_still c.self.inside.net c.self.inside.ins.items c.self.inside.open_ins.items c.self.inside.outlets.items c.self.inside.readers.items (g.P.Policy.kind c.self.inside.policy) c.self.inside.plan c.self.inside.idle c.self.inside.trace c.self.inside.trace c.self.inside.writers.items (take c.self.inside.writers.len (c.flush_all.new.writers ++ drop (length c.flush_all.new.writers) c.self.inside.writers.items)) c.self.inside.counts c.self.inside.ended c.self.inside.ended g.A.Firing.cell (length c.self.inside.marks.items) (g.P.Policy.rounds c.self.inside.policy) (g.P.Policy.instances c.self.inside.policy) (c.self.invariant.1 going),
    )

pub returns-in_err-flush_all-clause-fronts : goal.returns-in_err-flush_all-clause-fronts
returns-in_err-flush_all-clause-fronts g c =
    let view = running_of c.self.inside.net c.self.inside.ins.items c.self.inside.open_ins.items c.self.inside.outlets.items c.self.inside.readers.items (g.P.Policy.kind c.self.inside.policy) c.self.inside.plan c.self.inside.idle c.self.inside.trace c.self.inside.writers.items c.self.inside.counts c.self.inside.ended in
    subst (λ r. OnErr c.from_residual.result (PutsFronts r (g.D.Drains.channels c.args.drains.now) (g.D.Drains.channels c.flush_all.new.drains))) c.self.view_is
    (err_so c.from_residual.result _ (fronts_so view c.deref.result.now (g.D.Drains.channels c.args.drains.now) (g.D.Drains.channels c.flush_all.new.drains) c.deref_mut.result.now (ap (λ os. map (λ o. o.is_open) os) (sym c.deref.ensures.value)) (sym c.deref_mut.ensures.value) c.in_err-flush_all.ensures.only c.in_err-flush_all.ensures.fronts))

pub returns-in_err-flush_all-clause-others : goal.returns-in_err-flush_all-clause-others
returns-in_err-flush_all-clause-others g c =
    let view = running_of c.self.inside.net c.self.inside.ins.items c.self.inside.open_ins.items c.self.inside.outlets.items c.self.inside.readers.items (g.P.Policy.kind c.self.inside.policy) c.self.inside.plan c.self.inside.idle c.self.inside.trace c.self.inside.writers.items c.self.inside.counts c.self.inside.ended in
    subst (λ r. WritesWithin r (g.D.Drains.channels c.args.drains.now) (g.D.Drains.channels c.flush_all.new.drains)) c.self.view_is (only_within view c.deref.result.now (g.D.Drains.channels c.args.drains.now) (g.D.Drains.channels c.flush_all.new.drains) (ap (λ os. map (λ o. o.is_open) os) (sym c.deref.ensures.value)) c.in_err-flush_all.ensures.only)

pub invariant_of-self-2 : goal.invariant_of-self-2
invariant_of-self-2 g c =
    let written : take c.self.inside.writers.len (c.flush_all.new.writers ++ drop (length c.flush_all.new.writers) c.self.inside.writers.items) ≡ c.flush_all.new.writers =
    written_back c.self.inside.writers.items c.flush_all.new.writers c.self.inside.writers.len (omega (arith, c.flush_all.auto.writers, c.deref_mut.ensures.len)) in
    let long : length (take c.self.inside.writers.len (c.flush_all.new.writers ++ drop (length c.flush_all.new.writers) c.self.inside.writers.items)) ≡ length c.self.inside.writers.items =
    ap (λ ws. length ws) written ∙ (c.flush_all.ensures.still_as_many ∙ ap (λ ws. length ws) c.deref_mut.ensures.value) in (
      subst (λ n. HasParts (running_of c.self.inside.net c.self.inside.ins.items c.self.inside.open_ins.items c.self.inside.outlets.items c.self.inside.readers.items (g.P.Policy.kind c.self.inside.policy) c.self.inside.plan c.self.inside.idle c.put_trace.new.trace (take c.self.inside.writers.len (c.flush_all.new.writers ++ drop (length c.flush_all.new.writers) c.self.inside.writers.items)) c.self.inside.counts c.self.inside.ended) c.self.inside.links.items c.self.inside.outlets.items (length c.self.inside.came.items) n c.self.inside.cells) (sym long)
          (parts_still c.self.inside.net c.self.inside.ins.items c.self.inside.open_ins.items c.self.inside.outlets.items c.self.inside.readers.items (g.P.Policy.kind c.self.inside.policy) c.self.inside.plan c.self.inside.idle c.self.inside.trace c.put_trace.new.trace c.self.inside.writers.items (take c.self.inside.writers.len (c.flush_all.new.writers ++ drop (length c.flush_all.new.writers) c.self.inside.writers.items)) c.self.inside.counts c.self.inside.ended c.self.inside.ended c.self.inside.links.items (length c.self.inside.came.items) (length c.self.inside.writers.items) c.self.inside.cells c.self.invariant.0),
      λ going. going_still c.self.inside.net c.self.inside.ins.items c.self.inside.open_ins.items c.self.inside.outlets.items c.self.inside.readers.items (g.P.Policy.kind c.self.inside.policy) c.self.inside.plan c.self.inside.idle c.self.inside.trace c.put_trace.new.trace c.self.inside.writers.items (take c.self.inside.writers.len (c.flush_all.new.writers ++ drop (length c.flush_all.new.writers) c.self.inside.writers.items)) c.self.inside.counts c.self.inside.ended c.self.inside.ended g.A.Firing.cell (length c.self.inside.marks.items) (g.P.Policy.rounds c.self.inside.policy) (g.P.Policy.instances c.self.inside.policy) (c.self.invariant.1 going),
    )

pub returns-clause-puts : goal.returns-clause-puts
returns-clause-puts g c =
    let view = running_of c.self.inside.net c.self.inside.ins.items c.self.inside.open_ins.items c.self.inside.outlets.items c.self.inside.readers.items (g.P.Policy.kind c.self.inside.policy) c.self.inside.plan c.self.inside.idle c.self.inside.trace c.self.inside.writers.items c.self.inside.counts c.self.inside.ended in
    subst (λ r. OnOk c.put_trace.result (PutsAll r (g.D.Drains.channels c.args.drains.now) (g.D.Drains.channels c.put_trace.new.drains))) c.self.view_is
    (on_ok c.put_trace.result _ _ (λ all. all_so view c.deref.result.now (g.D.Drains.channels c.args.drains.now) (g.D.Drains.channels c.flush_all.new.drains) c.deref_mut.result.now (ap (λ os. map (λ o. o.is_open) os) (sym c.deref.ensures.value)) (sym c.deref_mut.ensures.value) c.in_ok-flush_all.ensures.only (g.D.Drains.channels c.put_trace.new.drains) c.in_ok-flush_all.ensures.puts c.put_trace.ensures.elsewhere all) c.put_trace.ensures.all)

pub returns-clause-others : goal.returns-clause-others
returns-clause-others g c =
    let view = running_of c.self.inside.net c.self.inside.ins.items c.self.inside.open_ins.items c.self.inside.outlets.items c.self.inside.readers.items (g.P.Policy.kind c.self.inside.policy) c.self.inside.plan c.self.inside.idle c.self.inside.trace c.self.inside.writers.items c.self.inside.counts c.self.inside.ended in
    subst (λ r. WritesWithin r (g.D.Drains.channels c.args.drains.now) (g.D.Drains.channels c.put_trace.new.drains)) c.self.view_is
    (within_so view c.deref.result.now (g.D.Drains.channels c.args.drains.now) (g.D.Drains.channels c.flush_all.new.drains) c.deref_mut.result.now (ap (λ os. map (λ o. o.is_open) os) (sym c.deref.ensures.value)) (sym c.deref_mut.ensures.value) c.in_ok-flush_all.ensures.only (g.D.Drains.channels c.put_trace.new.drains) c.in_ok-flush_all.ensures.puts c.put_trace.ensures.elsewhere)

pub returns-in_err-flush_all-clause-channel : goal.returns-in_err-flush_all-clause-channel
returns-in_err-flush_all-clause-channel g c =
    let view = running_of c.self.inside.net c.self.inside.ins.items c.self.inside.open_ins.items c.self.inside.outlets.items c.self.inside.readers.items (g.P.Policy.kind c.self.inside.policy) c.self.inside.plan c.self.inside.idle c.self.inside.trace c.self.inside.writers.items c.self.inside.counts c.self.inside.ended in
    let same : IfErr c.from_residual.result (λ fault. IsChannelOf c.deref.result.now fault.channel) = search rules in
    subst (λ r. IfErr c.from_residual.result (λ fault. IsChannel r fault.channel)) c.self.view_is
    (err_as c.from_residual.result (λ fault. IsChannelOf c.deref.result.now fault.channel) (λ fault. IsChannel view fault.channel)
    (λ fault is. inr (out_channel view c.deref.result.now fault.channel (ap (λ os. map (λ o. o.is_open) os) (sym c.deref.ensures.value)) is)) same)

pub returns-clause-fronts : goal.returns-clause-fronts
returns-clause-fronts g c =
    let view = running_of c.self.inside.net c.self.inside.ins.items c.self.inside.open_ins.items c.self.inside.outlets.items c.self.inside.readers.items (g.P.Policy.kind c.self.inside.policy) c.self.inside.plan c.self.inside.idle c.self.inside.trace c.self.inside.writers.items c.self.inside.counts c.self.inside.ended in
    subst (λ r. OnErr c.put_trace.result (PutsFronts r (g.D.Drains.channels c.args.drains.now) (g.D.Drains.channels c.put_trace.new.drains))) c.self.view_is
    (on_err c.put_trace.result _ _ (λ front. trace_front view c.deref.result.now (g.D.Drains.channels c.args.drains.now) (g.D.Drains.channels c.flush_all.new.drains) c.deref_mut.result.now (ap (λ os. map (λ o. o.is_open) os) (sym c.deref.ensures.value)) (sym c.deref_mut.ensures.value) c.in_ok-flush_all.ensures.only (g.D.Drains.channels c.put_trace.new.drains) c.in_ok-flush_all.ensures.puts c.put_trace.ensures.elsewhere front) c.put_trace.ensures.front)

pub returns-clause-channel : goal.returns-clause-channel
returns-clause-channel g c = err_as c.put_trace.result (λ fault. fault.channel ≡ 1) (λ fault. IsChannel c.args.self.now fault.channel) (λ fault is. inl is) c.put_trace.ensures.channel
