use Rattle.std.proofs.Common.{◌∷◌, [], pos}
use Rattle.std.proofs.lemmas.Result.{on_ok_weaker}
use Rattle.cal_ast.specs.Tree as tree
use Rattle.code_ir.specs.declared.instr.Instr.TheVariants as op
use Rattle.lower_base.specs.Coding.{IsOffset, whole}
use Rattle.lower_base.specs.Lowered.{IsPut}
use Rattle.lower_base.specs.Seen.{called, seen}
use Rattle.lower_base.proofs.Adding.{put_adds}
use Rattle.lower_base.proofs.exprs.whole_offset.Goals as goal

pub returns-clause-ok : goal.returns-clause-ok
returns-clause-ok c = λ scope text at.
    on_ok_weaker c.put_const.result
    (λ (p : IsPut (op.Const (pos 0) ∷ []) c.args.draft.now c.put_const.new.draft). put_adds (IsOffset (called scope) (seen scope) (tree.variable text at)) (op.Const (pos 0) ∷ []) c.args.draft.now c.put_const.new.draft p (λ base n. whole text at base n))
    c.put_const.ensures.added
