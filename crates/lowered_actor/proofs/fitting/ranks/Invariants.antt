use Rattle.std.proofs.Common.{◌≡◌, ◌<◌, ◌≤◌, All, take, true}
use Rattle.lowered_actor.proofs.fitting.ranks.Given as goal

abbrev pub invariant-loop-action : goal.invariant-loop-action
invariant-loop-action l = record {
  below : All (λ a. a < l.actions) (take l.action-index l.line);
  seen : l.last ≡ true → l.actions ≤ l.order.count;
}
