use Rattle.std.proofs.Common.{◌≡◌, ◌∷◌, [], map, subst, sym, rules, SFits, to_z, of_z}
use Rattle.std.proofs.lemmas.Int.{to_z-of_z}
use Rattle.rvc_base.specs.Width.{num_width}
use Rattle.code_ir.specs.declared.instr.Instr.TheVariants as op
use Rattle.std.proofs.lemmas.Result.{on_ok_weaker}
use Rattle.cal_ast.specs.Tree.{listed}
use Rattle.cal_ast.specs.View.{gen_tree}
use Rattle.lower_base.specs.Lowered.{IsPut}
use Rattle.expr_lower.specs.CounterView.{counter_view, gens_of}
use Rattle.expr_lower.specs.Filling.{at_first}
use Rattle.expr_lower.proofs.Putting.{first_put}
use Rattle.expr_lower.proofs.counting.+put_first.Goals as goal

pub returns-clause-added : goal.returns-clause-added
returns-clause-added t c =
    let opened : map gen_tree c.args.gens.now ≡ gen_tree c.in-Some.first.now ∷ map gen_tree c.in-Some.rest.now = search rules in
    let fits : SFits num_width c.in-Some-counted_by.x.low = search rules in
    let same : to_z num_width (of_z num_width c.in-Some-counted_by.x.low) ≡ c.in-Some-counted_by.x.low = to_z-of_z num_width c.in-Some-counted_by.x.low fits in
    on_ok_weaker c.put_first.result
    (λ p. subst (λ gs. IsPut (at_first c.args.k (listed gs)) c.args.draft.now c.put_first.new.draft) (sym opened)
    (first_put c.args.k (gen_tree c.in-Some.first.now) (gens_of c.in-Some.rest.now) (counter_view c.in-Some-counted_by.x) c.args.draft.now c.put.new.draft c.put_number.new.draft c.put_first.new.draft
    (sym c.in-Some-counted_by.ensures) (subst (λ z. IsPut (op.Const z ∷ []) c.args.draft.now c.put.new.draft) same c.in_ok-put.ensures.added) c.in_ok-put_number.ensures.added p))
    c.put_first.ensures.added
