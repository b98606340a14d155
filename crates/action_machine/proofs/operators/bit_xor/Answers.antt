use Rattle.std.proofs.Common.{rules, SFits, ◌∷◌, ◌∙◌, ap}
use Rattle.rvc_base.specs.Width.{num_width}
use Rattle.rvc_base.specs.Arithmetic.{Gives, bit_xor}
use Rattle.action_machine.proofs.Arms.{two}
use Rattle.action_machine.proofs.operators.bit_xor.Goals as goal

pub returns : goal.returns
returns c = λ cells tokens.
    let fa : SFits num_width c.pop-a.result = search rules in
    let fb : SFits num_width c.pop-b.result = search rules in
    two (λ a b. Gives (bit_xor a b)) c.pop-a.result c.pop-b.result c.bit_xor.result c.push_result.result _ _ _ fa fb (c.pop-b.ensures.operands ∙ ap (λ s. c.pop-b.result ∷ s) c.pop-a.ensures.operands) c.bit_xor.ensures c.push_result.ensures cells
