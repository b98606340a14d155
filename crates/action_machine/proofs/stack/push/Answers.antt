use Rattle.std.proofs.Common.{◌≡◌, ◌+◌, ◌∷◌, pos, set, sym, subst, to_z, of_z}
use Rattle.std.proofs.lemmas.Int.{to_z-of_z}
use Rattle.rvc_base.specs.Width.{num_width}
use Rattle.action_machine.specs.Stacks.{top_first}
use Rattle.action_machine.proofs.Tops.{top-push}
use Rattle.action_machine.proofs.stack.push.Goals as goal

pub returns-clause-operands : goal.returns-clause-operands
returns-clause-operands c =
    let same : to_z num_width (of_z num_width c.args.v) ≡ c.args.v = to_z-of_z num_width c.args.v c.ranges.v in
    subst (λ x. top_first (pos 0) (c.args.top.now + 1) (set c.args.stack.now c.args.top.now x) ≡ c.args.v ∷ top_first (pos 0) c.args.top.now c.args.stack.now) (sym same) (top-push (pos 0) c.args.top.now c.args.stack.now c.args.v c.requires)
