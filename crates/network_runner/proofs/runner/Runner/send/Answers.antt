use Rattle.std.proofs.Common.{◌≡◌, ◌++◌, length, map, take, drop, sym, ap, subst, refl, ◌∙◌, arith}
use Rattle.std.specs.Prelude.{OnErr, OnOk, IfErr}
use Rattle.net_state.proofs.Slices.{written_back}
use Rattle.network_runner.specs.Asking.{ChannelsFit, WritesWithin, seen_run}
use Rattle.network_runner.specs.Keeping.{HasParts, running_of}
use Rattle.network_runner.specs.Sending.{OutletsFit}
use Rattle.network_runner.specs.Stepping.{IsOutChannel, SendsFront, SendsOut}
use Rattle.network_runner.proofs.Lines.{on_err, on_ok}
use Rattle.network_runner.proofs.Parted.{err_as, going_still, only_within, out_channel, outlets_fit, parts_still, sends_front, sends_out}
use Rattle.network_runner.proofs.runner.Runner.send.Goals as goal

pub send_all-requires-clause-outlets : goal.send_all-requires-clause-outlets
send_all-requires-clause-outlets g c =
    let view = running_of c.self.inside.net c.self.inside.ins.items c.self.inside.open_ins.items c.self.inside.outlets.items c.self.inside.readers.items (g.P.Policy.kind c.self.inside.policy) c.self.inside.plan c.self.inside.idle c.self.inside.trace c.self.inside.writers.items c.self.inside.counts c.self.inside.ended in
    let fits : ChannelsFit view (g.D.Drains.channels c.args.drains.now) = subst (λ r. ChannelsFit r (g.D.Drains.channels c.args.drains.now)) (sym c.self.view_is) c.requires.channels in
    subst (λ ls. OutletsFit ls c.deref-2.result.now (g.D.Drains.channels c.args.drains.now)) (sym c.deref.ensures.value)
    (subst (λ os. OutletsFit c.self.inside.links.items os (g.D.Drains.channels c.args.drains.now)) (sym c.deref-2.ensures.value)
    (outlets_fit view c.self.inside.links.items c.self.inside.outlets.items (length c.self.inside.came.items) (length c.self.inside.writers.items) c.self.inside.cells (g.D.Drains.channels c.args.drains.now) c.self.invariant.0 refl fits))

pub invariant_of-self : goal.invariant_of-self
invariant_of-self g c =
    let written : take c.self.inside.writers.len (c.send_all.new.writers ++ drop (length c.send_all.new.writers) c.self.inside.writers.items) ≡ c.send_all.new.writers =
    written_back c.self.inside.writers.items c.send_all.new.writers c.self.inside.writers.len (omega (arith, c.send_all.auto.writers, c.deref_mut.ensures.len)) in
    let long : length (take c.self.inside.writers.len (c.send_all.new.writers ++ drop (length c.send_all.new.writers) c.self.inside.writers.items)) ≡ length c.self.inside.writers.items =
    ap (λ ws. length ws) written ∙ (c.send_all.ensures.still_as_many ∙ ap (λ ws. length ws) c.deref_mut.ensures.value) in (
      subst (λ n. HasParts (running_of c.self.inside.net c.self.inside.ins.items c.self.inside.open_ins.items c.self.inside.outlets.items c.self.inside.readers.items (g.P.Policy.kind c.self.inside.policy) c.self.inside.plan c.self.inside.idle c.self.inside.trace (take c.self.inside.writers.len (c.send_all.new.writers ++ drop (length c.send_all.new.writers) c.self.inside.writers.items)) c.self.inside.counts c.self.inside.ended) c.self.inside.links.items c.self.inside.outlets.items (length c.self.inside.came.items) n c.self.inside.cells) (sym long)
          (parts_still c.self.inside.net c.self.inside.ins.items c.self.inside.open_ins.items c.self.inside.outlets.items c.self.inside.readers.items (g.P.Policy.kind c.self.inside.policy) c.self.inside.plan c.self.inside.idle c.self.inside.trace c.self.inside.trace c.self.inside.writers.items (take c.self.inside.writers.len (c.send_all.new.writers ++ drop (length c.send_all.new.writers) c.self.inside.writers.items)) c.self.inside.counts c.self.inside.ended c.self.inside.ended c.self.inside.links.items (length c.self.inside.came.items) (length c.self.inside.writers.items) c.self.inside.cells c.self.invariant.0),
      λ going. going_still c.self.inside.net c.self.inside.ins.items c.self.inside.open_ins.items c.self.inside.outlets.items c.self.inside.readers.items (g.P.Policy.kind c.self.inside.policy) c.self.inside.plan c.self.inside.idle c.self.inside.trace c.self.inside.trace c.self.inside.writers.items (take c.self.inside.writers.len (c.send_all.new.writers ++ drop (length c.send_all.new.writers) c.self.inside.writers.items)) c.self.inside.counts c.self.inside.ended c.self.inside.ended g.A.Firing.cell (length c.self.inside.marks.items) (g.P.Policy.rounds c.self.inside.policy) (g.P.Policy.instances c.self.inside.policy) (c.self.invariant.1 going),
    )

pub returns-clause-sends : goal.returns-clause-sends
returns-clause-sends g c =
    let view = running_of c.self.inside.net c.self.inside.ins.items c.self.inside.open_ins.items c.self.inside.outlets.items c.self.inside.readers.items (g.P.Policy.kind c.self.inside.policy) c.self.inside.plan c.self.inside.idle c.self.inside.trace c.self.inside.writers.items c.self.inside.counts c.self.inside.ended in
    let new = running_of c.self.inside.net c.self.inside.ins.items c.self.inside.open_ins.items c.self.inside.outlets.items c.self.inside.readers.items (g.P.Policy.kind c.self.inside.policy) c.self.inside.plan c.self.inside.idle c.self.inside.trace (take c.self.inside.writers.len (c.send_all.new.writers ++ drop (length c.send_all.new.writers) c.self.inside.writers.items)) c.self.inside.counts c.self.inside.ended in
    let written : take c.self.inside.writers.len (c.send_all.new.writers ++ drop (length c.send_all.new.writers) c.self.inside.writers.items) ≡ c.send_all.new.writers =
    written_back c.self.inside.writers.items c.send_all.new.writers c.self.inside.writers.len (omega (arith, c.send_all.auto.writers, c.deref_mut.ensures.len)) in
    subst (λ r. OnOk c.send_all.result (SendsOut (seen_run g.A.Firing.cell r) (seen_run g.A.Firing.cell new) (g.D.Drains.channels c.args.drains.now) (g.D.Drains.channels c.send_all.new.drains))) c.self.view_is
    (on_ok c.send_all.result _ _ (λ texts. sends_out (seen_run g.A.Firing.cell view) c.deref-2.result.now c.deref.result.now (g.D.Drains.channels c.args.drains.now) (g.D.Drains.channels c.send_all.new.drains) c.deref_mut.result.now
    (c.self.invariant.0.links_are ∙ sym c.deref.ensures.value) (ap (λ os. map (λ o. o.kind) os) (sym c.deref-2.ensures.value)) (ap (λ os. map (λ o. o.is_open) os) (sym c.deref-2.ensures.value)) (sym c.deref_mut.ensures.value)
    (seen_run g.A.Firing.cell new) c.send_all.new.writers written texts) c.send_all.ensures.sends)

pub returns-clause-fronts : goal.returns-clause-fronts
returns-clause-fronts g c =
    let view = running_of c.self.inside.net c.self.inside.ins.items c.self.inside.open_ins.items c.self.inside.outlets.items c.self.inside.readers.items (g.P.Policy.kind c.self.inside.policy) c.self.inside.plan c.self.inside.idle c.self.inside.trace c.self.inside.writers.items c.self.inside.counts c.self.inside.ended in
    subst (λ r. OnErr c.send_all.result (SendsFront (seen_run g.A.Firing.cell r) (g.D.Drains.channels c.args.drains.now) (g.D.Drains.channels c.send_all.new.drains))) c.self.view_is
    (on_err c.send_all.result _ _ (λ fronts. sends_front (seen_run g.A.Firing.cell view) c.deref-2.result.now c.deref.result.now (g.D.Drains.channels c.args.drains.now) (g.D.Drains.channels c.send_all.new.drains) c.deref_mut.result.now
    (c.self.invariant.0.links_are ∙ sym c.deref.ensures.value) (ap (λ os. map (λ o. o.kind) os) (sym c.deref-2.ensures.value)) (ap (λ os. map (λ o. o.is_open) os) (sym c.deref-2.ensures.value)) (sym c.deref_mut.ensures.value)
    fronts) c.send_all.ensures.fronts)

pub returns-clause-channel : goal.returns-clause-channel
returns-clause-channel g c =
    let view = running_of c.self.inside.net c.self.inside.ins.items c.self.inside.open_ins.items c.self.inside.outlets.items c.self.inside.readers.items (g.P.Policy.kind c.self.inside.policy) c.self.inside.plan c.self.inside.idle c.self.inside.trace c.self.inside.writers.items c.self.inside.counts c.self.inside.ended in
    subst (λ r. IfErr c.send_all.result (λ fault. IsOutChannel r fault.channel)) c.self.view_is
    (err_as c.send_all.result _ (λ fault. IsOutChannel view fault.channel)
    (λ fault is. out_channel view c.deref-2.result.now fault.channel (ap (λ os. map (λ o. o.is_open) os) (sym c.deref-2.ensures.value)) is) c.send_all.ensures.channel)

pub returns-clause-others : goal.returns-clause-others
returns-clause-others g c =
    let view = running_of c.self.inside.net c.self.inside.ins.items c.self.inside.open_ins.items c.self.inside.outlets.items c.self.inside.readers.items (g.P.Policy.kind c.self.inside.policy) c.self.inside.plan c.self.inside.idle c.self.inside.trace c.self.inside.writers.items c.self.inside.counts c.self.inside.ended in
    subst (λ r. WritesWithin r (g.D.Drains.channels c.args.drains.now) (g.D.Drains.channels c.send_all.new.drains)) c.self.view_is
    (only_within view c.deref-2.result.now (g.D.Drains.channels c.args.drains.now) (g.D.Drains.channels c.send_all.new.drains) (ap (λ os. map (λ o. o.is_open) os) (sym c.deref-2.ensures.value)) c.send_all.ensures.only)
