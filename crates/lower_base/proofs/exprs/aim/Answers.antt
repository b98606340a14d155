use Rattle.std.proofs.Common.{◌≡◌, ◌<◌, length, get_or, ap, set, ◌∙◌, arith}
use Rattle.std.proofs.lemmas.List.{get_or_default}
use Rattle.std.proofs.lemmas.List.Edits.{map_over_more}
use Rattle.code_ir.specs.declared.instr.Instr.{Instr}
use Rattle.code_ir.specs.declared.instr.Instr.TheVariants as op
use Rattle.lower_base.specs.Coding.{aimed}
use Rattle.lower_base.proofs.exprs.aim.Goals as goal

pub loop-instr-preserved : goal.loop-instr-preserved
loop-instr-preserved c =
    let i : Instr = get_or c.loop-instr.part c.loop-instr.instr-index op.Done in
    let within : c.loop-instr.instr-index < length c.loop-instr.part = omega arith in
    let read : c.aimed.result ≡ aimed c.args.out i = c.aimed.ensures ∙ ap (aimed c.args.out) (get_or_default c.loop-instr.part c.loop-instr.instr-index _ op.Done within) in
    ap (set c.loop-instr.part c.loop-instr.instr-index) read
    ∙ map_over_more (aimed c.args.out) c.args.part.now c.loop-instr.part c.loop-instr.instr-index i c.loop-instr-test.true c.loop-instr.invariant (get_or_default c.loop-instr.part c.loop-instr.instr-index op.Done i within)
