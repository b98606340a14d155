use Rattle.std.proofs.Common.{◌≡◌, length, refl, ap, ◌∙◌, arith}
use Rattle.std.proofs.lemmas.List.{with_items_is}
use Rattle.network_runner.specs.Counting.{arrived_with, rests_with}
use Rattle.network_runner.proofs.Numbers.{arrived_long, rests_long}
use Rattle.trace_replay.proofs.Limits.{max_is}
use Rattle.trace_replay.proofs.counting.count_delivery.Goals as goal

pub overflow_add-numbers : goal.overflow_add-numbers
overflow_add-numbers c = omega (arith, max_is, c.requires.few)

pub returns : goal.returns
returns c =
    let arrived : c.count_arrived.new.arrived ≡ arrived_with c.args.came.now c.args.numbers.now.arrived.items =
    c.count_arrived.ensures.arrived ∙ ap (arrived_with c.args.came.now) c.deref_mut.ensures.value in
    let rests : c.count_arrived.new.rests ≡ rests_with c.args.came.now c.args.numbers.now.rests.items =
    c.count_arrived.ensures.rests ∙ ap (rests_with c.args.came.now) c.deref_mut-2.ensures.value in
    record {
      firings = refl;
      rounds = refl;
      arrived = with_items_is c.args.numbers.now.arrived c.count_arrived.new.arrived
          (let long : length c.count_arrived.new.arrived ≡ length c.args.numbers.now.arrived.items = ap (λ xs. length xs) arrived ∙ arrived_long c.args.came.now c.args.numbers.now.arrived.items in
          omega (arith, long)) ∙ arrived;
      rests = with_items_is c.args.numbers.now.rests c.count_arrived.new.rests
          (let long : length c.count_arrived.new.rests ≡ length c.args.numbers.now.rests.items = ap (λ xs. length xs) rests ∙ rests_long c.args.came.now c.args.numbers.now.rests.items in
          omega (arith, long)) ∙ rests;
      sent = refl;
    }
