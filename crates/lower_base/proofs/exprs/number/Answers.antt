use Rattle.std.proofs.Common.{◌≡◌, ◌∷◌, [], ◌∙◌, subst, sym, pos, SFits, to_z, of_z}
use Rattle.std.proofs.lemmas.Int.{to_z-of_z}
use Rattle.std.proofs.lemmas.Result.{on_ok_weaker}
use Rattle.rvc_base.specs.Width.{greatest_num, num_width}
use Rattle.cal_ast.specs.Tree as tree
use Rattle.code_ir.specs.declared.instr.Instr.TheVariants as op
use Rattle.lower_base.specs.Coding.{IsCode, number, too_great}
use Rattle.lower_base.specs.Seen.{called, seen}
use Rattle.lower_base.specs.Lowered.{IsPut}
use Rattle.lower_base.proofs.Adding.{put_adds}
use Rattle.lower_base.proofs.Literals.{fits_num, unfit_num}
use Rattle.lower_base.proofs.exprs.number.Goals as goal

pub returns-in-Ok-clause-ok : goal.returns-in-Ok-clause-ok
returns-in-Ok-clause-ok c = λ scope at.
    let fits : SFits num_width (pos c.args.value) = c.in-Ok.ensures.0 in
    let is : c.in-Ok.value ≡ pos c.args.value = c.in-Ok.ensures.1 in
    let same : to_z num_width (of_z num_width c.in-Ok.value) ≡ pos c.args.value = to_z-of_z num_width c.in-Ok.value (subst (SFits num_width) (sym is) fits) ∙ is in
    on_ok_weaker c.put_const.result
    (λ (p : IsPut (op.Const (to_z num_width (of_z num_width c.in-Ok.value)) ∷ []) c.args.draft.now c.put_const.new.draft). put_adds (IsCode (called scope) (seen scope) (tree.number c.args.value at)) (op.Const (pos c.args.value) ∷ []) c.args.draft.now c.put_const.new.draft
    (subst (λ z. IsPut (op.Const z ∷ []) c.args.draft.now c.put_const.new.draft) same p)
    (λ base n. number c.args.value at base n (fits_num c.args.value fits)))
    c.put_const.ensures.added

pub returns-in-Err-clause-ok : goal.returns-in-Err-clause-ok
returns-in-Err-clause-ok c = λ scope at.
    on_ok_weaker c.overflow.result
    (λ (p : IsPut (op.Const greatest_num ∷ op.Const (pos 1) ∷ op.Add ∷ []) c.args.draft.now c.overflow.new.draft). put_adds (IsCode (called scope) (seen scope) (tree.number c.args.value at)) (op.Const greatest_num ∷ op.Const (pos 1) ∷ op.Add ∷ []) c.args.draft.now c.overflow.new.draft p
    (λ base n. too_great c.args.value at base n (unfit_num c.args.value c.in-Err.ensures)))
    c.overflow.ensures.added
