use Rattle.std.proofs.Common.{false, length, arith}
use Rattle.std.proofs.lemmas.List.FromFn.{fill_by_all}
use Rattle.rvc_base.specs.Picks.{is_picked}
use Rattle.rvc_base.specs.declared.round_kind.RoundKind.TheVariants.{Turn}
use Rattle.round_plan.proofs.turn.mark_turn.Goals as goal

pub returns : goal.returns
returns c =
    fill_by_all (is_picked Turn (length c.args.picked.now) c.args.round) c.loop-k.picked (length c.args.picked.now) false (omega arith) (λ k within. c.loop-k.invariant k (omega arith))
