use Rattle.std.proofs.Common.{◌≡◌, false, true, refl, sym, ap, ◌∙◌, rules}
use Rattle.cal_ast.specs.Tree.{Tree}
use Rattle.cal_ast.specs.View.{expr_tree}
use Rattle.cal_ast.specs.declared.expr.Expr as exprs
use Rattle.cal_ast.specs.declared.expr.ExprForm as forms
use Rattle.cal_model.specs.Certified.{all_conjuncts, conjuncts}
use Rattle.cal_model.specs.View.{action_view}
use Rattle.determinacy_cert.specs.Deciding.{any_of, exclude, is_and}
use Rattle.determinacy_cert.proofs.Forms.{expr_and, expr_other, is_binary, one_conjunct}
use Rattle.determinacy_cert.proofs.Listed.{either_side, first_side, one_side}
use Rattle.determinacy_cert.proofs.pairing.+excludes_any.Goals as goal

pub returns-else-excludes_any : goal.returns-else-excludes_any
returns-else-excludes_any t c =
    let f = λ (d : Tree). any_of (λ (e : Tree). exclude d (action_view c.args.one.now).patterns e (action_view c.args.two.now).patterns) (all_conjuncts (action_view c.args.two.now).guards) in
    let none : any_of f (conjuncts (expr_tree c.deref.result.now)) ≡ false = sym c.excludes_any.ensures ∙ c.if-excludes_any.false in
    let both : is_and c.in-Binary.op ≡ true = sym c.is_and.ensures ∙ c.if-is_and.true in
    either_side f (expr_tree c.deref.result.now) (expr_tree c.deref-else-excludes_any.result.now) c.args.e.now.at c.excludes_any-else-excludes_any.result none c.excludes_any-else-excludes_any.ensures
    ∙ sym (ap (λ t. any_of f (conjuncts t))
    (expr_and c.args.e.now c.in-Binary.op c.in-Binary.left c.in-Binary.right c.deref.result.now c.deref-else-excludes_any.result.now c.in-Binary.is both c.deref.ensures c.deref-else-excludes_any.ensures))

pub returns-then-excludes_any : goal.returns-then-excludes_any
returns-then-excludes_any t c =
    let f = λ (d : Tree). any_of (λ (e : Tree). exclude d (action_view c.args.one.now).patterns e (action_view c.args.two.now).patterns) (all_conjuncts (action_view c.args.two.now).guards) in
    let some : any_of f (conjuncts (expr_tree c.deref.result.now)) ≡ true = sym c.excludes_any.ensures ∙ c.if-excludes_any.true in
    let both : is_and c.in-Binary.op ≡ true = sym c.is_and.ensures ∙ c.if-is_and.true in
    c.if-excludes_any.true ∙ first_side f (expr_tree c.deref.result.now) (expr_tree c.in-Binary.right.value) c.args.e.now.at some
    ∙ sym (ap (λ t. any_of f (conjuncts t))
    (expr_and c.args.e.now c.in-Binary.op c.in-Binary.left c.in-Binary.right c.deref.result.now c.in-Binary.right.value c.in-Binary.is both c.deref.ensures refl))

pub returns-else-is_and : goal.returns-else-is_and
returns-else-is_and t c =
    let f = λ (d : Tree). any_of (λ (e : Tree). exclude d (action_view c.args.one.now).patterns e (action_view c.args.two.now).patterns) (all_conjuncts (action_view c.args.two.now).guards) in
    one_side f (expr_tree c.args.e.now) c.excludes_a_guard.result
    (expr_other c.args.e.now c.in-Binary.op c.in-Binary.left c.in-Binary.right c.in-Binary.is (sym c.is_and.ensures ∙ c.if-is_and.false)) c.excludes_a_guard.ensures

pub returns-in_default : goal.returns-in_default
returns-in_default t c =
    let f = λ (d : Tree). any_of (λ (e : Tree). exclude d (action_view c.args.one.now).patterns e (action_view c.args.two.now).patterns) (all_conjuncts (action_view c.args.two.now).guards) in
    let plain : is_binary (expr_tree c.args.e.now) ≡ false = search (rules, exprs.the_lemmas, forms.the_lemmas) in
    one_side f (expr_tree c.args.e.now) c.excludes_a_guard-in_default.result (one_conjunct (expr_tree c.args.e.now) plain) c.excludes_a_guard-in_default.ensures
