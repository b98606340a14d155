-- The trees of expressions by their forms.
use Rattle.std.proofs.Common.{◌≡◌, ℕ, map, Vec, Global, Box, List, sym, ap, ◌∙◌, rules}
use Rattle.cal_ast.specs.Tree.{listed, if_expr, comp, index, prefix, binary, gen}
use Rattle.cal_ast.specs.View.{expr_tree, form_tree, gen_tree, type_tree, ident_tree}
use Rattle.cal_ast.specs.declared.expr.Expr.{Expr}
use Rattle.cal_ast.specs.declared.expr.Expr as exprs
use Rattle.cal_ast.specs.declared.expr.Gen.{Gen}
use Rattle.cal_ast.specs.declared.expr.Gen as generators
use Rattle.cal_ast.specs.declared.expr.PrefixOp.{PrefixOp}
use Rattle.cal_ast.specs.declared.expr.BinOp.{BinOp}
use Rattle.cal_ast.specs.declared.expr.ExprForm.{If, Comp, Index, Prefix, Binary}
use Rattle.cal_ast.specs.declared.expr.ExprForm as forms

expr_is : (e : Expr) → expr_tree e ≡ form_tree e.form e.at
expr_is e = search (rules, exprs.the_lemmas)

pub gen_is : (g : Gen) → gen_tree g ≡ gen (type_tree g.shape) (ident_tree g.name) (expr_tree g.from) (expr_tree g.to) g.at
gen_is g = search (rules, generators.the_lemmas)

form_if : (test first other : Box Expr Global) (at : ℕ) → form_tree (If test first other) at ≡ if_expr (expr_tree test.value) (expr_tree first.value) (expr_tree other.value) at
form_if test first other at = search (rules, forms.the_lemmas)

form_comp : (item : Box Expr Global) (gens : Vec Gen Global) (at : ℕ) → form_tree (Comp item gens) at ≡ comp (expr_tree item.value) (listed (map gen_tree gens.items)) at
form_comp item gens at = search (rules, forms.the_lemmas)

form_index : (base place : Box Expr Global) (at : ℕ) → form_tree (Index base place) at ≡ index (expr_tree base.value) (expr_tree place.value) at
form_index base place at = search (rules, forms.the_lemmas)

form_prefix : (op : PrefixOp) (operand : Box Expr Global) (at : ℕ) → form_tree (Prefix op operand) at ≡ prefix op (expr_tree operand.value) at
form_prefix op operand at = search (rules, forms.the_lemmas)

form_binary : (op : BinOp) (left right : Box Expr Global) (at : ℕ) → form_tree (Binary op left right) at ≡ binary op (expr_tree left.value) (expr_tree right.value) at
form_binary op left right at = search (rules, forms.the_lemmas)

pub expr_if : (e : Expr) (test first other : Box Expr Global) (a b c : Expr) → e.form ≡ If test first other → a ≡ test.value → b ≡ first.value → c ≡ other.value
    → expr_tree e ≡ if_expr (expr_tree a) (expr_tree b) (expr_tree c) e.at
expr_if e test first other a b c h p q r =
    expr_is e ∙ ap (λ f. form_tree f e.at) h ∙ form_if test first other e.at
    ∙ ap (λ x. if_expr (expr_tree x) (expr_tree first.value) (expr_tree other.value) e.at) (sym p)
    ∙ ap (λ x. if_expr (expr_tree a) (expr_tree x) (expr_tree other.value) e.at) (sym q)
    ∙ ap (λ x. if_expr (expr_tree a) (expr_tree b) (expr_tree x) e.at) (sym r)

pub expr_comp : (e : Expr) (item : Box Expr Global) (gens : Vec Gen Global) (a : Expr) (gs : List Gen) → e.form ≡ Comp item gens → a ≡ item.value → gs ≡ gens.items
    → expr_tree e ≡ comp (expr_tree a) (listed (map gen_tree gs)) e.at
expr_comp e item gens a gs h p q =
    expr_is e ∙ ap (λ f. form_tree f e.at) h ∙ form_comp item gens e.at
    ∙ ap (λ x. comp (expr_tree x) (listed (map gen_tree gens.items)) e.at) (sym p)
    ∙ ap (λ xs. comp (expr_tree a) (listed (map gen_tree xs)) e.at) (sym q)

pub expr_index : (e : Expr) (base place : Box Expr Global) (a b : Expr) → e.form ≡ Index base place → a ≡ base.value → b ≡ place.value
    → expr_tree e ≡ index (expr_tree a) (expr_tree b) e.at
expr_index e base place a b h p q =
    expr_is e ∙ ap (λ f. form_tree f e.at) h ∙ form_index base place e.at
    ∙ ap (λ x. index (expr_tree x) (expr_tree place.value) e.at) (sym p)
    ∙ ap (λ x. index (expr_tree a) (expr_tree x) e.at) (sym q)

pub expr_prefix : (e : Expr) (op : PrefixOp) (operand : Box Expr Global) (a : Expr) → e.form ≡ Prefix op operand → a ≡ operand.value → expr_tree e ≡ prefix op (expr_tree a) e.at
expr_prefix e op operand a h p =
    expr_is e ∙ ap (λ f. form_tree f e.at) h ∙ form_prefix op operand e.at ∙ ap (λ x. prefix op (expr_tree x) e.at) (sym p)

pub expr_binary : (e : Expr) (op : BinOp) (left right : Box Expr Global) (a b : Expr) → e.form ≡ Binary op left right → a ≡ left.value → b ≡ right.value
    → expr_tree e ≡ binary op (expr_tree a) (expr_tree b) e.at
expr_binary e op left right a b h p q =
    expr_is e ∙ ap (λ f. form_tree f e.at) h ∙ form_binary op left right e.at
    ∙ ap (λ x. binary op (expr_tree x) (expr_tree right.value) e.at) (sym p)
    ∙ ap (λ x. binary op (expr_tree a) (expr_tree x) e.at) (sym q)
