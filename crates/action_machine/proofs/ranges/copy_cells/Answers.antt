use Rattle.std.proofs.Common.{rules, ◌≡◌, ◌+◌, ◌-◌, ◌∙◌, ap, set, to_z, of_z, SFits}
use Rattle.std.proofs.lemmas.Int.{to_z-of_z}
use Rattle.rvc_base.specs.Width.{num_width}
use Rattle.code_ir.specs.Effect.{cell, copied, stored}
use Rattle.action_machine.proofs.CellRanges.{copied-more}
use Rattle.action_machine.proofs.ranges.copy_cells.Goals as goal

pub loop-k-preserved : goal.loop-k-preserved
loop-k-preserved c =
    let f : SFits num_width c.stored.result = search rules in
    let g : SFits num_width (cell c.loop-k.cells (c.args.source + c.loop-k.k)) = search rules in
    let same : to_z num_width (of_z num_width c.stored.result) ≡ stored c.args.t (cell c.loop-k.cells (c.args.source + c.loop-k.k)) =
    to_z-of_z num_width c.stored.result f ∙ (c.stored.ensures ∙ ap (stored c.args.t) (to_z-of_z num_width (cell c.loop-k.cells (c.args.source + c.loop-k.k)) g)) in
    ap (λ x. copied c.args.t (c.args.target + (c.loop-k.k + 1)) (c.args.source + (c.loop-k.k + 1)) (c.args.count - (c.loop-k.k + 1)) (set c.loop-k.cells (c.args.target + c.loop-k.k) x)) same
    ∙ (copied-more c.args.t c.args.target c.args.source c.loop-k.k c.args.count c.loop-k.cells c.loop-k-test.true ∙ c.loop-k.invariant)
