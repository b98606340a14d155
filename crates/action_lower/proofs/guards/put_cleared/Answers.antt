use Rattle.std.proofs.Common.{◌≡◌, ◌∷◌, ◌∙◌, [], ap, arith, length, length-append}
use Rattle.cal_ast.specs.View.{expr_tree}
use Rattle.code_ir.specs.declared.instr.Instr.TheVariants as op
use Rattle.lower_base.specs.Callees.{functions_view}
use Rattle.lower_base.specs.Names.{names_view}
use Rattle.action_lower.proofs.GuardCode.{cleared-guard}
use Rattle.action_lower.proofs.guards.put_cleared.Goals as goal

pub clear_at-requires-clause-inside : goal.clear_at-requires-clause-inside
clear_at-requires-clause-inside c =
    let first = ap length c.in_ok-put.ensures.added.is ∙ length-append c.args.draft.now.instrs.items (op.Zero 0 0 ∷ []) in
    let one = c.in_ok-put_plain.ensures.code in
    let second = ap length one.is ∙ length-append c.put.new.draft.instrs.items one.code in
    let at = c.len-place.ensures in
    omega (arith, at, first, second)

pub clear_at-requires-clause-cells : goal.clear_at-requires-clause-cells
clear_at-requires-clause-cells c =
    let le = c.in_ok-put_plain.ensures.code.has.lowered.cells in
    let same = c.in_ok-put.ensures.added.cells in
    let kept = c.requires.kept in
    omega (arith, le, same, kept)

pub returns-clause-code : goal.returns-clause-code
returns-clause-code c =
    let at : c.len-place.result ≡ length c.args.draft.now.instrs.items = let e = c.len-place.ensures in omega (arith, e) in
    cleared-guard (functions_view c.args.callees.now) (names_view c.args.names.now) (expr_tree c.args.guard.now) c.args.kept c.len-place.result c.args.draft.now c.put.new.draft c.put_plain.new.draft c.clear_at.new.draft
    c.requires.kept at c.in_ok-put.ensures.added c.in_ok-put_plain.ensures.code c.clear_at.ensures.clears c.clear_at.ensures.routines c.clear_at.ensures.cells
