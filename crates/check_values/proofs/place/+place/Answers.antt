use Rattle.std.proofs.Common.{◌≡◌, ◌∷◌, ◌++◌, sym, ap, ◌∙◌, rules}
use Rattle.cal_ast.specs.Tree as tree
use Rattle.cal_ast.specs.View.{expr_tree, gen_tree, ident_tree, type_tree}
use Rattle.cal_ast.specs.declared.expr.Gen as gens
use Rattle.cal_ast.specs.declared.expr.Gen.{out-Gen}
use Rattle.cal_check.specs.Constants.{constants_in, last_using}
use Rattle.check_values.proofs.Last.{last_of_both}
use Rattle.check_values.proofs.place.+place.Goals as goal

pub in_gen-returns : goal.in_gen-returns
in_gen-returns t c =
    let g = out-Gen c.args.generator.now in
    let whole : gen_tree c.args.generator.now ≡ tree.gen (type_tree g.shape) (ident_tree g.name) (expr_tree g.from) (expr_tree g.to) g.at = search (rules, gens.the_lemmas) in
    let shape : c.in_type-within.result ≡ last_using c.args.p (constants_in (type_tree g.shape)) c.args.outside = search rules in
    let bounds : c.in_bounds.result ≡ last_using c.args.p ((expr_tree g.from ∷ constants_in (expr_tree g.from)) ++ (expr_tree g.to ∷ constants_in (expr_tree g.to))) c.in_type-within.result = search rules in
    bounds
    ∙ ap (λ n. last_using c.args.p ((expr_tree g.from ∷ constants_in (expr_tree g.from)) ++ (expr_tree g.to ∷ constants_in (expr_tree g.to))) n) shape
    ∙ sym (last_of_both c.args.p (constants_in (type_tree g.shape)) ((expr_tree g.from ∷ constants_in (expr_tree g.from)) ++ (expr_tree g.to ∷ constants_in (expr_tree g.to))) c.args.outside)
    ∙ ap (λ x. last_using c.args.p (constants_in x) c.args.outside) (sym whole)
