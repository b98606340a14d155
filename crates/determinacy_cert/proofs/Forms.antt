-- The trees of expressions by their forms.
use Rattle.std.proofs.Common.{◌≡◌, ℕ, Bool, true, false, Global, Box, [], ◌∷◌, refl, sym, ap, ◌∙◌, rules}
use Rattle.cal_ast.specs.Tree as tree
use Rattle.cal_ast.specs.Tree.{Tree}
use Rattle.cal_ast.specs.View.{expr_tree, form_tree}
use Rattle.cal_ast.specs.declared.expr.Expr.{Expr}
use Rattle.cal_ast.specs.declared.expr.Expr as exprs
use Rattle.cal_ast.specs.declared.expr.BinOp.{BinOp}
use Rattle.cal_ast.specs.declared.expr.BinOp.TheVariants.{And}
use Rattle.cal_ast.specs.declared.expr.ExprForm.{Index, Binary}
use Rattle.cal_ast.specs.declared.expr.ExprForm as forms
use Rattle.cal_model.specs.Certified.{conjuncts}
use Rattle.determinacy_cert.specs.Deciding.{is_and}

expr_is : (e : Expr) → expr_tree e ≡ form_tree e.form e.at
expr_is e = search (rules, exprs.the_lemmas)

form_index : (base place : Box Expr Global) (at : ℕ) → form_tree (Index base place) at ≡ tree.index (expr_tree base.value) (expr_tree place.value) at
form_index base place at = search (rules, forms.the_lemmas)

form_binary : (op : BinOp) (left right : Box Expr Global) (at : ℕ) → form_tree (Binary op left right) at ≡ tree.binary op (expr_tree left.value) (expr_tree right.value) at
form_binary op left right at = search (rules, forms.the_lemmas)

pub expr_index : (e : Expr) (base place : Box Expr Global) (a b : Expr) → e.form ≡ Index base place → a ≡ base.value → b ≡ place.value
    → expr_tree e ≡ tree.index (expr_tree a) (expr_tree b) e.at
expr_index e base place a b h p q =
    expr_is e ∙ ap (λ f. form_tree f e.at) h ∙ form_index base place e.at
    ∙ ap (λ x. tree.index (expr_tree x) (expr_tree place.value) e.at) (sym p)
    ∙ ap (λ x. tree.index (expr_tree a) (expr_tree x) e.at) (sym q)

pub expr_binary : (e : Expr) (op : BinOp) (left right : Box Expr Global) (a b : Expr) → e.form ≡ Binary op left right → a ≡ left.value → b ≡ right.value
    → expr_tree e ≡ tree.binary op (expr_tree a) (expr_tree b) e.at
expr_binary e op left right a b h p q =
    expr_is e ∙ ap (λ f. form_tree f e.at) h ∙ form_binary op left right e.at
    ∙ ap (λ x. tree.binary op (expr_tree x) (expr_tree right.value) e.at) (sym p)
    ∙ ap (λ x. tree.binary op (expr_tree a) (expr_tree x) e.at) (sym q)

-- ---- conjunctions

is_and_op : (op : BinOp) → is_and op ≡ true → op ≡ And
is_and_op And h = refl
is_and_op other h = absurd (cc)

pub expr_and : (e : Expr) (op : BinOp) (left right : Box Expr Global) (a b : Expr) → e.form ≡ Binary op left right → is_and op ≡ true → a ≡ left.value → b ≡ right.value
    → expr_tree e ≡ tree.binary And (expr_tree a) (expr_tree b) e.at
expr_and e op left right a b h o p q = expr_binary e op left right a b h p q ∙ ap (λ k. tree.binary k (expr_tree a) (expr_tree b) e.at) (is_and_op op o)

op_conjunct : (op : BinOp) (l r : Tree) (at : ℕ) → is_and op ≡ false → conjuncts (tree.binary op l r at) ≡ tree.binary op l r at ∷ []
op_conjunct And l r at h = absurd (cc)
op_conjunct other l r at h = refl

pub expr_other : (e : Expr) (op : BinOp) (left right : Box Expr Global) → e.form ≡ Binary op left right → is_and op ≡ false → conjuncts (expr_tree e) ≡ expr_tree e ∷ []
expr_other e op left right h o =
    let is : expr_tree e ≡ tree.binary op (expr_tree left.value) (expr_tree right.value) e.at = expr_binary e op left right left.value right.value h refl refl in
    ap conjuncts is ∙ op_conjunct op (expr_tree left.value) (expr_tree right.value) e.at o ∙ ap (λ t. t ∷ []) (sym is)

abbrev pub is_binary : Tree → Bool
is_binary (tree.binary op l r at) = true
is_binary other = false

pub one_conjunct : (t : Tree) → is_binary t ≡ false → conjuncts t ≡ t ∷ []
one_conjunct (tree.binary op l r at) h = absurd (cc)
one_conjunct other h = refl
