use Rattle.std.proofs.Common.{◌≡◌, ◌∷◌, [], None, pos, subst, sym, rules}
use Rattle.std.specs.Prelude.{OnOk}
use Rattle.std.proofs.lemmas.Result.{on_ok_weaker}
use Rattle.cal_ast.specs.Tree as tree
use Rattle.code_ir.specs.declared.instr.Instr.TheVariants as op
use Rattle.lower_base.specs.Lowered.{IsPut}
use Rattle.lower_base.specs.Seen.{called, seen}
use Rattle.lower_base.specs.SeenWords.{AddsStart}
use Rattle.lower_base.specs.Starting.{IsStart, at_zero}
use Rattle.lower_base.proofs.Adding.{put_adds}
use Rattle.expr_lower.proofs.starts.start.Goals as goal

pub returns-in-None-clause-ok : goal.returns-in-None-clause-ok
returns-in-None-clause-ok c =
    let none : c.args.value.now ≡ None = search rules in
    subst (λ e. OnOk c.put_all.result (AddsStart c.args.scope.now c.args.kind c.args.cell e c.args.draft.now c.put_all.new.draft)) (sym none)
    (on_ok_weaker c.put_all.result
    (λ (p : IsPut (op.Const (pos 0) ∷ op.Store c.args.cell None ∷ []) c.args.draft.now c.put_all.new.draft). put_adds (IsStart (called c.args.scope.now) (seen c.args.scope.now) c.args.kind c.args.cell tree.absent) (op.Const (pos 0) ∷ op.Store c.args.cell None ∷ []) c.args.draft.now c.put_all.new.draft p
    (λ base n. at_zero base n))
    c.put_all.ensures.added)
