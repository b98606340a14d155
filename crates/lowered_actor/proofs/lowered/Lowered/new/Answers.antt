use Rattle.std.proofs.Common.{subst}
use Rattle.std.specs.Prelude.{IsTrue}
use Rattle.rvc_base.specs.Line.{IsLine}
use Rattle.priority_order.specs.Ranking.{is_above}
use Rattle.lowered_actor.specs.Candidates.{AreRows}
use Rattle.lowered_actor.proofs.lowered.Lowered.new.Goals as goal

pub invariant_of-result : goal.invariant_of-result
invariant_of-result c = (
  record {
    admitted = c.most_operands-most.ensures.admitted;
    lined = subst (IsLine c.args.parts.order.count (λ a b. IsTrue (is_above c.args.parts.order a b))) c.line.ensures.value c.line.ensures.least;
    fits = c.requires.fits;
    right = c.requires.right;
  },
  subst (λ l. AreRows c.args.parts.fsm l c.args.parts.fsm.states c.in-Ok.candidates.items) c.line.ensures.value c.in-Ok.ensures,
)
