use Rattle.std.proofs.Common.{◌≡◌, ◌+◌, ◌≤◌, suc, ◌++◌, length, map, take, drop, sym, ap, subst, refl, ◌∙◌, arith}
use Rattle.std.specs.Prelude.{None, IfNone, ◌==◌}
use Rattle.std.specs.Vec.{with_items}
use Rattle.std.proofs.lemmas.List.{length-map}
use Rattle.net_state.specs.Held.{seen}
use Rattle.net_state.specs.Surveyed.{AreUntrapped}
use Rattle.net_state.specs.Working.{IsAtRest}
use Rattle.net_state.proofs.Slices.{written_back}
use Rattle.network_runner.specs.Arriving.{RoundArrives, WorkersArrive, stage_of}
use Rattle.network_runner.specs.Asking.{Advances, end_of, seen_run}
use Rattle.network_runner.specs.Counting.{IsToPort, sent_with}
use Rattle.network_runner.specs.Keeping.{running_of}
use Rattle.network_runner.specs.Rounding.{MakesRound}
use Rattle.network_runner.specs.Stepping.{FiresRun}
use Rattle.network_runner.proofs.Fitting.{as_many_cells, parts_kept}
use Rattle.network_runner.proofs.Going.{advances_fired, going_fired, if_goes, to_ports}
use Rattle.network_runner.proofs.Held.{can_grow, fresh_now}
use Rattle.network_runner.proofs.Numbers.{sent_long}
use Rattle.network_runner.proofs.runner.Runner.fire.Goals as goal

pub make_firings-made-requires-clause-queues : goal.make_firings-made-requires-clause-queues
make_firings-made-requires-clause-queues g c κs within =
    let view = running_of c.self.inside.net c.self.inside.ins.items c.self.inside.open_ins.items c.self.inside.outlets.items c.self.inside.readers.items (g.P.Policy.kind c.self.inside.policy) c.self.inside.plan c.self.inside.idle c.self.inside.trace c.self.inside.writers.items c.self.inside.counts c.self.inside.ended in
    let goes = c.self.invariant.1 (ap (λ r. r.ended) c.self.view_is ∙ c.requires.going) in
    let rest : IsAtRest (seen g.A.Firing.cell c.self.inside.net) = subst (λ r. IsAtRest (seen g.A.Firing.cell r.held)) (sym c.self.view_is) c.requires.rest in
    can_grow (seen_run g.A.Firing.cell view) (length c.self.inside.marks.items) (g.P.Policy.rounds c.self.inside.policy) (g.P.Policy.instances c.self.inside.policy) goes rest

pub make_firings-made-requires-clause-fresh : goal.make_firings-made-requires-clause-fresh
make_firings-made-requires-clause-fresh g c κs within =
    let view = running_of c.self.inside.net c.self.inside.ins.items c.self.inside.open_ins.items c.self.inside.outlets.items c.self.inside.readers.items (g.P.Policy.kind c.self.inside.policy) c.self.inside.plan c.self.inside.idle c.self.inside.trace c.self.inside.writers.items c.self.inside.counts c.self.inside.ended in
    let goes = c.self.invariant.1 (ap (λ r. r.ended) c.self.view_is ∙ c.requires.going) in
    let rest : IsAtRest (seen g.A.Firing.cell c.self.inside.net) = subst (λ r. IsAtRest (seen g.A.Firing.cell r.held)) (sym c.self.view_is) c.requires.rest in
    fresh_now (seen_run g.A.Firing.cell view) (length c.self.inside.marks.items) (g.P.Policy.rounds c.self.inside.policy) (g.P.Policy.instances c.self.inside.policy) goes rest

pub count_sent-requires-clause-ports : goal.count_sent-requires-clause-ports
count_sent-requires-clause-ports g c =
    let view = running_of c.self.inside.net c.self.inside.ins.items c.self.inside.open_ins.items c.self.inside.outlets.items c.self.inside.readers.items (g.P.Policy.kind c.self.inside.policy) c.self.inside.plan c.self.inside.idle c.self.inside.trace c.self.inside.writers.items c.self.inside.counts c.self.inside.ended in
    subst (λ ls. IsToPort ls (length c.deref_mut-2.result.now)) (sym c.deref.ensures.value)
    (to_ports view c.self.inside.links.items c.self.inside.outlets.items (length c.self.inside.came.items) (length c.self.inside.writers.items) c.self.inside.cells (length c.deref_mut-2.result.now) c.self.invariant.0
    (ap (λ ns. length ns) c.deref_mut-2.ensures.value ∙ c.self.invariant.0.sent_for_each))

pub invariant_of-self : goal.invariant_of-self
invariant_of-self g c =
    let view = running_of c.self.inside.net c.self.inside.ins.items c.self.inside.open_ins.items c.self.inside.outlets.items c.self.inside.readers.items (g.P.Policy.kind c.self.inside.policy) c.self.inside.plan c.self.inside.idle c.self.inside.trace c.self.inside.writers.items c.self.inside.counts c.self.inside.ended in
    let new = running_of c.make_firings-made.new.net c.self.inside.ins.items c.self.inside.open_ins.items c.self.inside.outlets.items c.self.inside.readers.items (g.P.Policy.kind c.make_firings-made.new.policy) c.self.inside.plan (c.make_firings-made.result.fired == 0) c.self.inside.trace c.self.inside.writers.items (record c.self.inside.counts { firings = c.self.inside.counts.firings + c.make_firings-made.result.fired; rounds = c.self.inside.counts.rounds + 1; sent = with_items c.self.inside.counts.sent c.count_sent.new.sent }) c.end_of-self-inside.result in
    let goes = c.self.invariant.1 (ap (λ r. r.ended) c.self.view_is ∙ c.requires.going) in
    let sent_back : (take c.self.inside.counts.sent.len (c.count_sent.new.sent ++ drop (length c.count_sent.new.sent) c.self.inside.counts.sent.items)) ≡ c.count_sent.new.sent = written_back c.self.inside.counts.sent.items c.count_sent.new.sent c.self.inside.counts.sent.len (omega (arith, c.count_sent.auto.sent, c.deref_mut-2.ensures.len)) in
    let sent_is : (take c.self.inside.counts.sent.len (c.count_sent.new.sent ++ drop (length c.count_sent.new.sent) c.self.inside.counts.sent.items)) ≡ sent_with (map g.A.Firing.cell c.make_firings-made.new.net.cells) c.deref.result.now c.self.inside.counts.sent.items =
    sent_back ∙ (c.count_sent.ensures.sent ∙ ap (sent_with (map g.A.Firing.cell c.make_firings-made.new.net.cells) c.deref.result.now) c.deref_mut-2.ensures.value) in
    let marks_back : (take c.self.inside.marks.len (c.make_firings-made.new.marks ++ drop (length c.make_firings-made.new.marks) c.self.inside.marks.items)) ≡ c.make_firings-made.new.marks = written_back c.self.inside.marks.items c.make_firings-made.new.marks c.self.inside.marks.len (omega (arith, c.make_firings-made.auto.marks, c.deref_mut.ensures.len)) in
    let marks_are : length (take c.self.inside.marks.len (c.make_firings-made.new.marks ++ drop (length c.make_firings-made.new.marks) c.self.inside.marks.items)) ≡ length c.self.inside.marks.items = ap (λ ms. length ms) marks_back ∙ (c.make_firings-made.ensures.still_as_many ∙ ap (λ ms. length ms) c.deref_mut.ensures.value) in
    let next : c.self.inside.counts.rounds + 1 ≡ suc c.self.inside.counts.rounds = omega arith in
    let budget : c.self.inside.counts.firings + c.args.left ≤ 1000000000000 = subst (λ r. r.counts.firings + c.args.left ≤ 1000000000000) (sym c.self.view_is) c.requires.budget in (
      parts_kept view new c.self.inside.links.items c.self.inside.outlets.items (length c.self.inside.came.items) (length c.self.inside.came.items) (length c.self.inside.writers.items) (length c.self.inside.writers.items) c.self.inside.cells
          (c.make_firings-made.ensures.links ∙ c.self.invariant.0.links_are) (as_many_cells g.A.Firing.cell c.make_firings-made.new.net.cells c.self.inside.net.cells c.make_firings-made.ensures.same_actors.count)
          refl refl refl refl refl refl refl refl refl refl
          (ap (λ ns. length ns) sent_is ∙ sent_long (map g.A.Firing.cell c.make_firings-made.new.net.cells) c.deref.result.now c.self.inside.counts.sent.items) c.self.invariant.0,
      λ still.
          let on : end_of c.make_firings-made.result.answer ≡ None = sym c.end_of-self-inside.ensures ∙ still in
          going_fired (seen_run g.A.Firing.cell view) (seen_run g.A.Firing.cell new) (length c.self.inside.marks.items) (g.P.Policy.rounds c.self.inside.policy) (g.P.Policy.instances c.self.inside.policy)
          (length (take c.self.inside.marks.len (c.make_firings-made.new.marks ++ drop (length c.make_firings-made.new.marks) c.self.inside.marks.items))) (g.P.Policy.rounds c.make_firings-made.new.policy) (g.P.Policy.instances c.make_firings-made.new.policy) c.make_firings-made.result.answer c.make_firings-made.result.fired
          c.make_firings-made.ensures.same_actors (if_goes c.make_firings-made.result.answer (AreUntrapped (map g.A.Firing.cell c.make_firings-made.new.net.cells)) on c.make_firings-made.ensures.untrapped) c.make_firings-made.ensures.links c.make_firings-made.ensures.grows
          refl refl c.self.invariant.0.few_grown next refl refl (omega (arith, budget, c.make_firings-made.ensures.within)) c.make_firings-made.ensures.counted c.make_firings-made.ensures.not_idle_again on
          marks_are (if_goes c.make_firings-made.result.answer _ on c.make_firings-made.ensures.asked ∙ next) (if_goes c.make_firings-made.result.answer _ on c.make_firings-made.ensures.instances ∙ ap (λ ms. length ms) c.deref_mut.ensures.value) goes,
    )

pub returns-clause-fires : goal.returns-clause-fires
returns-clause-fires g c =
    let view = running_of c.self.inside.net c.self.inside.ins.items c.self.inside.open_ins.items c.self.inside.outlets.items c.self.inside.readers.items (g.P.Policy.kind c.self.inside.policy) c.self.inside.plan c.self.inside.idle c.self.inside.trace c.self.inside.writers.items c.self.inside.counts c.self.inside.ended in
    let new = running_of c.make_firings-made.new.net c.self.inside.ins.items c.self.inside.open_ins.items c.self.inside.outlets.items c.self.inside.readers.items (g.P.Policy.kind c.make_firings-made.new.policy) c.self.inside.plan (c.make_firings-made.result.fired == 0) c.self.inside.trace c.self.inside.writers.items (record c.self.inside.counts { firings = c.self.inside.counts.firings + c.make_firings-made.result.fired; rounds = c.self.inside.counts.rounds + 1; sent = with_items c.self.inside.counts.sent c.count_sent.new.sent }) c.end_of-self-inside.result in
    let sent_back : (take c.self.inside.counts.sent.len (c.count_sent.new.sent ++ drop (length c.count_sent.new.sent) c.self.inside.counts.sent.items)) ≡ c.count_sent.new.sent = written_back c.self.inside.counts.sent.items c.count_sent.new.sent c.self.inside.counts.sent.len (omega (arith, c.count_sent.auto.sent, c.deref_mut-2.ensures.len)) in
    let sent_is : (take c.self.inside.counts.sent.len (c.count_sent.new.sent ++ drop (length c.count_sent.new.sent) c.self.inside.counts.sent.items)) ≡ sent_with (map g.A.Firing.cell c.make_firings-made.new.net.cells) c.deref.result.now c.self.inside.counts.sent.items =
    sent_back ∙ (c.count_sent.ensures.sent ∙ ap (sent_with (map g.A.Firing.cell c.make_firings-made.new.net.cells) c.deref.result.now) c.deref_mut-2.ensures.value) in
    let next : c.self.inside.counts.rounds + 1 ≡ suc c.self.inside.counts.rounds = omega arith in
    subst (λ r. FiresRun c.args.left c.make_firings-made.result.answer (seen_run g.A.Firing.cell r) (seen_run g.A.Firing.cell new)) c.self.view_is (record {
      fired = c.make_firings-made.result.fired;
      makes = subst (λ n. MakesRound (g.P.Policy.kind c.self.inside.policy) (record { round = n; idle = c.self.inside.idle; left = c.args.left; burst = c.self.inside.plan.burst; grow = c.self.inside.plan.grow }) c.make_firings-made.result.answer c.make_firings-made.result.fired
          (seen g.A.Firing.cell c.self.inside.net) (seen g.A.Firing.cell c.make_firings-made.new.net)) next c.make_firings-made.ensures.makes;
      within = c.make_firings-made.ensures.within;
      counted = c.make_firings-made.ensures.counted;
      rounds = next;
      idle = refl;
      firings = refl;
      count = next;
      arrived = refl;
      rests = refl;
      sent = sent_is ∙ ap (λ ls. sent_with (map g.A.Firing.cell c.make_firings-made.new.net.cells) ls c.self.inside.counts.sent.items) (c.deref.ensures.value ∙ (sym c.self.invariant.0.links_are ∙ sym c.make_firings-made.ensures.links));
    })

pub returns-clause-advances : goal.returns-clause-advances
returns-clause-advances g c =
    let view = running_of c.self.inside.net c.self.inside.ins.items c.self.inside.open_ins.items c.self.inside.outlets.items c.self.inside.readers.items (g.P.Policy.kind c.self.inside.policy) c.self.inside.plan c.self.inside.idle c.self.inside.trace c.self.inside.writers.items c.self.inside.counts c.self.inside.ended in
    let new = running_of c.make_firings-made.new.net c.self.inside.ins.items c.self.inside.open_ins.items c.self.inside.outlets.items c.self.inside.readers.items (g.P.Policy.kind c.make_firings-made.new.policy) c.self.inside.plan (c.make_firings-made.result.fired == 0) c.self.inside.trace c.self.inside.writers.items (record c.self.inside.counts { firings = c.self.inside.counts.firings + c.make_firings-made.result.fired; rounds = c.self.inside.counts.rounds + 1; sent = with_items c.self.inside.counts.sent c.count_sent.new.sent }) c.end_of-self-inside.result in
    subst (λ r. IfNone (end_of c.make_firings-made.result.answer) (Advances r new)) c.self.view_is
    (advances_fired view new c.make_firings-made.result.answer c.make_firings-made.result.fired c.make_firings-made.ensures.grows refl c.make_firings-made.ensures.counted c.make_firings-made.ensures.not_idle_again refl refl)

pub returns-clause-arrive : goal.returns-clause-arrive
returns-clause-arrive g c =
    let view = running_of c.self.inside.net c.self.inside.ins.items c.self.inside.open_ins.items c.self.inside.outlets.items c.self.inside.readers.items (g.P.Policy.kind c.self.inside.policy) c.self.inside.plan c.self.inside.idle c.self.inside.trace c.self.inside.writers.items c.self.inside.counts c.self.inside.ended in
    let arrived = g.G.Gate.arrived c.args.gate.now in
    let goes = c.self.invariant.1 (ap (λ r. r.ended) c.self.view_is ∙ c.requires.going) in
    let marks : length c.deref_mut.result.now ≡ length c.self.inside.net.cells =
    ap (λ ms. length ms) c.deref_mut.ensures.value ∙ (goes.mark_for_each ∙ length-map c.self.inside.net.cells g.A.Firing.cell) in
    let next : c.self.inside.counts.rounds + 1 ≡ suc c.self.inside.counts.rounds = omega arith in
    subst (λ r. RoundArrives arrived r c.args.left) c.self.view_is
    (subst (λ n. WorkersArrive arrived view.kind view.workers n (stage_of view c.args.left)) marks
    (subst (λ n. WorkersArrive arrived view.kind view.workers (length c.deref_mut.result.now) (record { round = n; idle = view.idle; left = c.args.left })) next c.make_firings-made.ensures.arrive))
