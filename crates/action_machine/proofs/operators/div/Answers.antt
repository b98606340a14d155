use Rattle.std.proofs.Common.{rules, SFits, ◌∷◌, ◌∙◌, ap}
use Rattle.rvc_base.specs.Width.{num_width}
use Rattle.rvc_base.specs.Arithmetic.{div}
use Rattle.action_machine.proofs.Arms.{two}
use Rattle.action_machine.proofs.operators.div.Goals as goal

pub returns : goal.returns
returns c = λ cells tokens.
    let fa : SFits num_width c.pop-a.result = search rules in
    let fb : SFits num_width c.pop-b.result = search rules in
    two div c.pop-a.result c.pop-b.result c.div.result c.push_result.result _ _ _ fa fb (c.pop-b.ensures.operands ∙ ap (λ s. c.pop-b.result ∷ s) c.pop-a.ensures.operands) c.div.ensures c.push_result.ensures cells
