use Rattle.std.proofs.Common.{rules, ◌≡◌, ◌+◌, ◌-◌, ◌*◌, ◌∙◌, ap, ℤ, List, set, subst, SFits}
use Rattle.std.specs.Prelude.{Some, slice_get}
use Rattle.std.proofs.lemmas.Int.{to_z-of_z}
use Rattle.rvc_base.specs.Width.{num_width}
use Rattle.code_ir.specs.Effect.{taken}
use Rattle.action_machine.proofs.CellRanges.{taken-more}
use Rattle.action_machine.proofs.reads.take_tokens.Goals as goal

pub loop-i-preserved : goal.loop-i-preserved
loop-i-preserved g c =
    let xs : List ℤ = g.T.Tokens.tokens c.args.tokens.now c.args.port in
    let f : SFits num_width c.at.result = search rules in
    let at : slice_get xs (c.args.first + c.loop-i.i * c.args.step) ≡ Some c.at.result =
    subst (λ i. slice_get xs (c.args.first + i * c.args.step) ≡ Some c.at.result) c.from.ensures c.at.ensures in
    ap (λ x. taken xs (c.args.target + (c.loop-i.i + 1)) (c.args.first + (c.loop-i.i + 1) * c.args.step) c.args.step (c.args.count - (c.loop-i.i + 1)) (set c.loop-i.cells (c.args.target + c.loop-i.i) x)) (to_z-of_z num_width c.at.result f)
    ∙ (taken-more xs c.args.target c.args.first c.args.step c.loop-i.i c.args.count c.at.result c.loop-i.cells c.loop-i-test.true at ∙ c.loop-i.invariant)
