use Rattle.std.proofs.Common.{◌∷◌, [], subst, sym, ◌∙◌}
use Rattle.std.proofs.lemmas.Result.{on_ok_weaker}
use Rattle.cal_model.specs.View.{shape_view}
use Rattle.lower_base.specs.Lowered.{IsPut}
use Rattle.lower_base.specs.PartView.{part_view}
use Rattle.lower_base.specs.Seen.{called, seen}
use Rattle.expr_lower.proofs.Adding.{whole_adds}
use Rattle.expr_lower.proofs.lists.whole.Goals as goal

pub returns-clause-ok : goal.returns-clause-ok
returns-clause-ok c =
    on_ok_weaker c.put.result
    (λ (p : IsPut (c.take_instr.result ∷ []) c.args.draft.now c.put.new.draft).
    whole_adds (called c.args.scope.now) (seen c.args.scope.now) c.args.text.now (shape_view c.args.shape.now) c.args.at c.args.cell c.in-Some-scalars.size (part_view c.in-Some.part) c.args.draft.now c.put.new.draft
    (sym c.in-Some.ensures) (sym c.alike.ensures ∙ c.if-not-alike.false) (sym c.in-Some-scalars.ensures)
    (subst (λ i. IsPut (i ∷ []) c.args.draft.now c.put.new.draft) c.take_instr.ensures p))
    c.put.ensures.added
