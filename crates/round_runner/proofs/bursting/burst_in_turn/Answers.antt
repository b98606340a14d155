use Rattle.std.proofs.Common.{◌≡◌, ◌<◌, ◌+◌, ◌≤◌, true, false, ℕ, length, sym, ap, subst, ◌∙◌, arith}
use Rattle.std.specs.Prelude.{slice_get, Some}
use Rattle.std.proofs.lemmas.List.{length-map}
use Rattle.net_model.specs.Paced.{Share, count_picked, limit_of}
use Rattle.net_state.specs.Held.{seen}
use Rattle.net_state.specs.Working.{journal_of}
use Rattle.net_state.specs.Made.{first_of, lacking_by, trapped_by}
use Rattle.round_runner.proofs.UpTo.{IsBursting, IsSpent, at_mark, bursting_all, bursting_more, bursting_none, bursting_other, idle_all, may_burst, noted_few, picked_among, picked_before, spent_more, spent_none}
use Rattle.round_runner.proofs.bursting.burst_in_turn.Goals as goal
use Rattle.round_runner.proofs.bursting.burst_in_turn.Goals.{then-marks-i, else-marks-i}

pub loop-i-init : goal.loop-i-init
loop-i-init g c = (
  bursting_none (record { burst = c.args.burst; left = c.args.left; picks = count_picked c.args.marks.now }) c.args.marks.now c.args.burst (seen g.A.Firing.cell c.args.net.now) c.requires.fresh,
  spent_none c.args.burst c.args.left c.count_marks-picks.result,
)

pub limit_for-limit-requires-clause-among : goal.limit_for-limit-requires-clause-among
limit_for-limit-requires-clause-among g c =
    let among : picked_before c.args.marks.now c.loop-i.i < count_picked c.args.marks.now =
    picked_among c.args.marks.now c.loop-i.i (at_mark c.args.marks.now c.loop-i.i _ true c.loop-i-test.true c.if-marks-i.true) in
    omega (arith, among, c.loop-i.invariant.0.picks, c.count_marks-picks.ensures.count)

pub burst-end-requires : goal.burst-end-requires
burst-end-requires g c = record {
  may = may_burst (record { burst = c.args.burst; left = c.args.left; picks = count_picked c.args.marks.now }) c.args.marks.now c.args.burst c.loop-i.i c.loop-i.k c.loop-i.made.fired c.loop-i.made.trap c.loop-i.made.lacks
      (seen g.A.Firing.cell c.args.net.now) (seen g.A.Firing.cell c.loop-i.net) c.loop-i.invariant.0 c.requires.fresh
      (omega (arith, c.loop-i-test.true, c.requires.as_many, length-map c.args.net.now.cells g.A.Firing.cell)) c.limit_for-limit.result c.limit_for-limit.ensures.within;
}

pub overflow_add-k : goal.overflow_add-k
overflow_add-k g c =
    let among : picked_before c.args.marks.now c.loop-i.i < count_picked c.args.marks.now =
    picked_among c.args.marks.now c.loop-i.i (at_mark c.args.marks.now c.loop-i.i _ true c.loop-i-test.true c.if-marks-i.true) in
    omega (arith, among, c.loop-i.invariant.0.picks, c.count_marks-picks.ensures.count, c.count_marks-picks.ensures.most, c.requires.few)

pub loop-i-preserved : goal.loop-i-preserved
loop-i-preserved g c =
    let share : Share = record { burst = c.args.burst; left = c.args.left; picks = count_picked c.args.marks.now } in
    let old = seen g.A.Firing.cell c.args.net.now in
    let now = seen g.A.Firing.cell c.loop-i.net in
    let marks = c.args.marks.now in
    let picks = c.count_marks-picks.result in
    let inv = c.loop-i.invariant in
    elim c.if-marks-i.branch [
      | then-marks-i w ↦
          let here : slice_get marks c.loop-i.i ≡ Some true = at_mark marks c.loop-i.i _ true c.loop-i-test.true w.if-marks-i.true in
          let new = seen g.A.Firing.cell w.burst-end.new.self in
          let count : ℕ = length w.journal.result.now in
          let counted : count ≡ length (journal_of (slice_get new.cells c.loop-i.i)) = ap (λ js. length js) w.journal.ensures in
          let among : picked_before marks c.loop-i.i < count_picked marks = picked_among marks c.loop-i.i here in
          let limit_is : w.limit_for-limit.result ≡ limit_of c.args.burst c.args.left (count_picked marks) c.loop-i.k c.loop-i.made.fired =
          w.limit_for-limit.ensures.limit ∙ ap (λ n. limit_of c.args.burst c.args.left n c.loop-i.k c.loop-i.made.fired) c.count_marks-picks.ensures.count in
          let more = bursting_more share marks c.args.burst c.loop-i.i c.loop-i.k c.loop-i.made.fired c.loop-i.made.trap c.loop-i.made.lacks old now inv.0 w.limit_for-limit.result w.burst-end.result new c.requires.fresh here
          limit_is w.burst-end.ensures.works count counted w.burst-end.ensures.same_actors w.burst-end.ensures.links w.burst-end.ensures.capacities w.burst-end.ensures.waited w.limit_for-limit.ensures.some in
          let few : count ≤ w.limit_for-limit.result = noted_few share marks c.args.burst c.loop-i.i c.loop-i.k c.loop-i.made.fired c.loop-i.made.trap c.loop-i.made.lacks old now inv.0 w.limit_for-limit.result w.burst-end.result new
          w.burst-end.ensures.works count counted in
          let spent : IsSpent c.args.burst c.args.left picks (c.loop-i.k + 1) (c.loop-i.made.fired + count) =
          spent_more c.args.burst c.args.left picks c.loop-i.k c.loop-i.made.fired w.limit_for-limit.result count c.requires.most (omega (arith, among, inv.0.picks, c.count_marks-picks.ensures.count))
          w.limit_for-limit.ensures.together w.limit_for-limit.ensures.limit w.limit_for-limit.ensures.within few inv.1 in
          let both : IsBursting share marks c.args.burst (c.loop-i.i + 1) (c.loop-i.k + 1) w.with_burst-made.result.fired w.with_burst-made.result.trap w.with_burst-made.result.lacks old new
          × IsSpent c.args.burst c.args.left picks (c.loop-i.k + 1) w.with_burst-made.result.fired = (
            subst (λ l. IsBursting share marks c.args.burst (c.loop-i.i + 1) (c.loop-i.k + 1) w.with_burst-made.result.fired w.with_burst-made.result.trap l old new) (sym w.with_burst-made.ensures.lacks)
                (subst (λ t. IsBursting share marks c.args.burst (c.loop-i.i + 1) (c.loop-i.k + 1) w.with_burst-made.result.fired t (first_of c.loop-i.made.lacks (lacking_by (record { 0 = c.loop-i.i }) w.burst-end.result)) old new)
                (sym w.with_burst-made.ensures.trap)
                (subst (λ n. IsBursting share marks c.args.burst (c.loop-i.i + 1) (c.loop-i.k + 1) n (first_of c.loop-i.made.trap (trapped_by (record { 0 = c.loop-i.i }) w.burst-end.result))
                (first_of c.loop-i.made.lacks (lacking_by (record { 0 = c.loop-i.i }) w.burst-end.result)) old new) (sym w.with_burst-made.ensures.fired) more)),
            subst (λ n. IsSpent c.args.burst c.args.left picks (c.loop-i.k + 1) n) (sym w.with_burst-made.ensures.fired) spent,
          ) in
          subst (λ h. IsBursting share marks c.args.burst (c.loop-i.i + 1) c.if-marks-i.k c.if-marks-i.made.fired c.if-marks-i.made.trap c.if-marks-i.made.lacks old (seen g.A.Firing.cell h)
          × IsSpent c.args.burst c.args.left picks c.if-marks-i.k c.if-marks-i.made.fired) (sym w.net-is)
          (subst (λ m. IsBursting share marks c.args.burst (c.loop-i.i + 1) c.if-marks-i.k m.fired m.trap m.lacks old new × IsSpent c.args.burst c.args.left picks c.if-marks-i.k m.fired) (sym w.made-is)
          (subst (λ n. IsBursting share marks c.args.burst (c.loop-i.i + 1) n w.with_burst-made.result.fired w.with_burst-made.result.trap w.with_burst-made.result.lacks old new
          × IsSpent c.args.burst c.args.left picks n w.with_burst-made.result.fired) (sym w.k-is) both))
      | else-marks-i w ↦
          let here : slice_get marks c.loop-i.i ≡ Some false = at_mark marks c.loop-i.i _ false c.loop-i-test.true w.if-marks-i.false in
          let both : IsBursting share marks c.args.burst (c.loop-i.i + 1) c.loop-i.k c.loop-i.made.fired c.loop-i.made.trap c.loop-i.made.lacks old now × IsSpent c.args.burst c.args.left picks c.loop-i.k c.loop-i.made.fired =
          (bursting_other share marks c.args.burst c.loop-i.i c.loop-i.k c.loop-i.made.fired c.loop-i.made.trap c.loop-i.made.lacks old now inv.0 here, inv.1) in
          subst (λ h. IsBursting share marks c.args.burst (c.loop-i.i + 1) c.if-marks-i.k c.if-marks-i.made.fired c.if-marks-i.made.trap c.if-marks-i.made.lacks old (seen g.A.Firing.cell h)
          × IsSpent c.args.burst c.args.left picks c.if-marks-i.k c.if-marks-i.made.fired) (sym w.net-is)
          (subst (λ m. IsBursting share marks c.args.burst (c.loop-i.i + 1) c.if-marks-i.k m.fired m.trap m.lacks old now × IsSpent c.args.burst c.args.left picks c.if-marks-i.k m.fired) (sym w.made-is)
          (subst (λ n. IsBursting share marks c.args.burst (c.loop-i.i + 1) n c.loop-i.made.fired c.loop-i.made.trap c.loop-i.made.lacks old now
          × IsSpent c.args.burst c.args.left picks n c.loop-i.made.fired) (sym w.k-is) both))
    ]

pub returns-clause-bursted : goal.returns-clause-bursted
returns-clause-bursted g c =
    bursting_all (record { burst = c.args.burst; left = c.args.left; picks = count_picked c.args.marks.now }) c.args.marks.now c.args.burst c.loop-i.i c.loop-i.k c.loop-i.made.fired c.loop-i.made.trap c.loop-i.made.lacks
    (seen g.A.Firing.cell c.args.net.now) (seen g.A.Firing.cell c.loop-i.net) c.loop-i.invariant.0 (omega (arith, c.loop-i-test.false, c.loop-i.auto.i-end))

pub returns-clause-idle : goal.returns-clause-idle
returns-clause-idle g c =
    idle_all (record { burst = c.args.burst; left = c.args.left; picks = count_picked c.args.marks.now }) c.args.marks.now c.args.burst c.loop-i.i c.loop-i.k c.loop-i.made.fired c.loop-i.made.trap c.loop-i.made.lacks
    (seen g.A.Firing.cell c.args.net.now) (seen g.A.Firing.cell c.loop-i.net) c.loop-i.invariant.0 (omega (arith, c.loop-i-test.false, c.loop-i.auto.i-end))
