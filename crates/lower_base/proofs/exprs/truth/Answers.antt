use Rattle.std.proofs.Common.{◌∷◌, [], subst, sym, true, false, pos}
use Rattle.std.proofs.lemmas.Result.{on_ok_weaker}
use Rattle.cal_ast.specs.Tree as tree
use Rattle.code_ir.specs.declared.instr.Instr.TheVariants as op
use Rattle.lower_base.specs.Coding as coding
use Rattle.lower_base.specs.Coding.{IsCode}
use Rattle.lower_base.specs.Seen.{called, seen}
use Rattle.lower_base.specs.Lowered.{Adds, IsPut}
use Rattle.lower_base.proofs.Adding.{put_adds}
use Rattle.lower_base.proofs.exprs.truth.Goals as goal

pub returns-then-value-clause-ok : goal.returns-then-value-clause-ok
returns-then-value-clause-ok c = λ scope at.
    on_ok_weaker c.put_const.result
    (λ (p : IsPut (op.Const (pos 1) ∷ []) c.args.draft.now c.put_const.new.draft). subst (λ b. Adds (IsCode (called scope) (seen scope) (tree.truth b at)) c.args.draft.now c.put_const.new.draft) (sym c.if-value.true)
    (put_adds (IsCode (called scope) (seen scope) (tree.truth true at)) (op.Const (pos 1) ∷ []) c.args.draft.now c.put_const.new.draft p (λ base n. coding.truth true at base n)))
    c.put_const.ensures.added

pub returns-else-value-clause-ok : goal.returns-else-value-clause-ok
returns-else-value-clause-ok c = λ scope at.
    on_ok_weaker c.put_const-else-value.result
    (λ (p : IsPut (op.Const (pos 0) ∷ []) c.args.draft.now c.put_const-else-value.new.draft). subst (λ b. Adds (IsCode (called scope) (seen scope) (tree.truth b at)) c.args.draft.now c.put_const-else-value.new.draft) (sym c.if-value.false)
    (put_adds (IsCode (called scope) (seen scope) (tree.truth false at)) (op.Const (pos 0) ∷ []) c.args.draft.now c.put_const-else-value.new.draft p (λ base n. coding.truth false at base n)))
    c.put_const-else-value.ensures.added
