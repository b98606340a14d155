use Rattle.std.proofs.Common.{◌≡◌, false, true, map, refl, sym, ap, ◌∙◌, rules}
use Rattle.cal_ast.specs.Tree.{Tree}
use Rattle.cal_ast.specs.View.{expr_tree}
use Rattle.cal_ast.specs.declared.expr.Expr as exprs
use Rattle.cal_ast.specs.declared.expr.ExprForm as forms
use Rattle.cal_model.specs.Certified.{conjuncts}
use Rattle.cal_model.specs.View.{pattern_view}
use Rattle.determinacy_cert.specs.Deciding.{any_of, exclude, is_and}
use Rattle.determinacy_cert.proofs.Forms.{expr_and, expr_other, is_binary, one_conjunct}
use Rattle.determinacy_cert.proofs.Listed.{either_side, first_side, one_side}
use Rattle.determinacy_cert.proofs.pairing.+excludes.Goals as goal

pub returns-else-excludes : goal.returns-else-excludes
returns-else-excludes t c =
    let f = λ (d : Tree). exclude (expr_tree c.args.e.now) (map pattern_view c.args.patterns.now) d (map pattern_view c.args.others.now) in
    let none : any_of f (conjuncts (expr_tree c.deref.result.now)) ≡ false = sym c.excludes.ensures ∙ c.if-excludes.false in
    let both : is_and c.in-Binary.op ≡ true = sym c.is_and.ensures ∙ c.if-is_and.true in
    either_side f (expr_tree c.deref.result.now) (expr_tree c.deref-else-excludes.result.now) c.args.f.now.at c.excludes-else-excludes.result none c.excludes-else-excludes.ensures
    ∙ sym (ap (λ t. any_of f (conjuncts t))
    (expr_and c.args.f.now c.in-Binary.op c.in-Binary.left c.in-Binary.right c.deref.result.now c.deref-else-excludes.result.now c.in-Binary.is both c.deref.ensures c.deref-else-excludes.ensures))

pub returns-then-excludes : goal.returns-then-excludes
returns-then-excludes t c =
    let f = λ (d : Tree). exclude (expr_tree c.args.e.now) (map pattern_view c.args.patterns.now) d (map pattern_view c.args.others.now) in
    let some : any_of f (conjuncts (expr_tree c.deref.result.now)) ≡ true = sym c.excludes.ensures ∙ c.if-excludes.true in
    let both : is_and c.in-Binary.op ≡ true = sym c.is_and.ensures ∙ c.if-is_and.true in
    c.if-excludes.true ∙ first_side f (expr_tree c.deref.result.now) (expr_tree c.in-Binary.right.value) c.args.f.now.at some
    ∙ sym (ap (λ t. any_of f (conjuncts t))
    (expr_and c.args.f.now c.in-Binary.op c.in-Binary.left c.in-Binary.right c.deref.result.now c.in-Binary.right.value c.in-Binary.is both c.deref.ensures refl))

pub returns-else-is_and : goal.returns-else-is_and
returns-else-is_and t c =
    let f = λ (d : Tree). exclude (expr_tree c.args.e.now) (map pattern_view c.args.patterns.now) d (map pattern_view c.args.others.now) in
    one_side f (expr_tree c.args.f.now) c.exclude.result
    (expr_other c.args.f.now c.in-Binary.op c.in-Binary.left c.in-Binary.right c.in-Binary.is (sym c.is_and.ensures ∙ c.if-is_and.false)) c.exclude.ensures

pub returns-in_default : goal.returns-in_default
returns-in_default t c =
    let f = λ (d : Tree). exclude (expr_tree c.args.e.now) (map pattern_view c.args.patterns.now) d (map pattern_view c.args.others.now) in
    let plain : is_binary (expr_tree c.args.f.now) ≡ false = search (rules, exprs.the_lemmas, forms.the_lemmas) in
    one_side f (expr_tree c.args.f.now) c.exclude-in_default.result (one_conjunct (expr_tree c.args.f.now) plain) c.exclude-in_default.ensures
