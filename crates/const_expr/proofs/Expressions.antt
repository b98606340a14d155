-- Expressions in order, and expressions that count for themselves.
use Rattle.std.proofs.Common.{◌≡◌, ℕ, zero, suc, ◌+◌, ◌<◌, ◌≤◌, List, [], ◌∷◌, ◌++◌, map, length, drop, get_or, sym, ap, ◌∙◌, add-one, arith}
use Rattle.std.proofs.Math.Seq.{drop-cons}
use Rattle.std.proofs.lemmas.List.{drop_all, map-append}
use Rattle.std.specs.declared.result.Result.{Result}
use Rattle.std.specs.declared.result.Result.TheVariants.{Ok, Err}
use Rattle.cal_ast.specs.Tree.{listed}
use Rattle.cal_ast.specs.View.{expr_tree}
use Rattle.cal_ast.specs.declared.expr.Expr.{Expr}
use Rattle.cal_model.specs.Env.{Env}
use Rattle.cal_model.specs.Expression.{Calls, eval, eval_all}
use Rattle.cal_model.specs.Outcome.{Out, Gives, alone, and_then, turn}
use Rattle.cal_model.specs.Value.{Value, Values, Items, one, joined}
use Rattle.cal_model.specs.View.{in_order, value_view}
use Rattle.cal_model.specs.declared.value.Value.{Value as Declared}
use Rattle.const_env.specs.Outcome.{Evaluates}
use Rattle.const_env.specs.declared.stop.EvalError.{EvalError}
use Rattle.const_expr.proofs.Going.{all_more, gives_same, stops_alone}
use Rattle.const_env.proofs.Lists.{joined_nil, one_more}
use Rattle.const_expr.proofs.Weights.{size}

pub alone_evaluates : (r : Result Declared EvalError) (m : ℕ) (o : Out Value) (left : ℕ) → Evaluates value_view r m o → Evaluates value_view r left (alone o left)
alone_evaluates (Ok v) m o left h = ap (λ x. alone x left) h
alone_evaluates (Err s) m o left h = stops_alone s o left h

pub size_at : (es : List Expr) (n : ℕ) (d : Expr) → n < length es → size (expr_tree (get_or es n d)) < size (listed (map expr_tree es))
size_at [] n d h = absurd (omega arith)
size_at (e ∷ es) zero d h = omega arith
size_at (e ∷ es) (suc n) d h = let l = size_at es n d (omega arith) in omega arith

pub all_done : (es : List Expr) (n : ℕ) (calls : Calls) (env : Env) (left : ℕ) (done : Values) (whole : Out Values) → length es ≤ n
    → and_then (eval_all (listed (map expr_tree (drop n es))) calls env left) (λ us k. Gives (joined done us) k) ≡ whole → whole ≡ Gives done left
all_done es n calls env left done whole h e =
    sym e ∙ ap (λ xs. and_then (eval_all (listed (map expr_tree xs)) calls env left) (λ us k. Gives (joined done us) k)) (drop_all n es h)
    ∙ ap (λ us. Gives us left) (joined_nil done)

pub all_next : (es : List Expr) (n : ℕ) (d : Expr) (calls : Calls) (env : Env) (left m : ℕ) (items news : List Declared) (v : Declared) (whole : Out Values) → n < length es
    → eval (expr_tree (get_or es n d)) calls env left ≡ Gives (value_view v) m → news ≡ items ++ v ∷ []
    → and_then (eval_all (listed (map expr_tree (drop n es))) calls env left) (λ us k. Gives (joined (in_order (map value_view items)) us) k) ≡ whole
    → and_then (eval_all (listed (map expr_tree (drop (n + 1) es))) calls env m) (λ us k. Gives (joined (in_order (map value_view news)) us) k) ≡ whole
all_next es n d calls env left m items news v whole h e f g =
    let done : in_order (map value_view news) ≡ joined (in_order (map value_view items)) (one (value_view v)) =
    ap (λ xs. in_order (map value_view xs)) f ∙ ap in_order (map-append value_view items (v ∷ [])) ∙ one_more (map value_view items) (value_view v) in
    ap (λ xs. and_then (eval_all (listed (map expr_tree (drop xs es))) calls env m) (λ us k. Gives (joined (in_order (map value_view news)) us) k)) (add-one n)
    ∙ ap (λ ws. and_then (eval_all (listed (map expr_tree (drop (suc n) es))) calls env m) (λ us k. Gives (joined ws us) k)) done
    ∙ sym (all_more (eval (expr_tree (get_or es n d)) calls env left) (λ k. eval_all (listed (map expr_tree (drop (suc n) es))) calls env k) (in_order (map value_view items)) (value_view v) m e)
    ∙ ap (λ xs. and_then (eval_all (listed (map expr_tree xs)) calls env left) (λ us k. Gives (joined (in_order (map value_view items)) us) k)) (sym (drop-cons es n d h))
    ∙ g

-- ---- elements

pub element_goes : (left m n : ℕ) (r : ℕ → Out Value) (v : Declared) (olds news : List Declared) → left ≡ suc m → r m ≡ Gives (value_view v) n → news ≡ olds ++ v ∷ []
    → and_then (turn left (λ k. and_then (r k) (λ w h. Gives (one w) h))) (λ vs h. Gives (joined (in_order (map value_view olds)) vs) h) ≡ Gives (in_order (map value_view news)) n
element_goes left m n r v olds news e f g =
    ap (λ k. and_then (turn k (λ k. and_then (r k) (λ w h. Gives (one w) h))) (λ vs h. Gives (joined (in_order (map value_view olds)) vs) h)) e
    ∙ ap (λ o. and_then (and_then o (λ w h. Gives (one w) h)) (λ vs h. Gives (joined (in_order (map value_view olds)) vs) h)) f
    ∙ ap (λ vs. Gives vs n) (sym (ap (λ xs. in_order (map value_view xs)) g ∙ ap in_order (map-append value_view olds (v ∷ [])) ∙ one_more (map value_view olds) (value_view v)))

pub comp_goes : (o : Out Values) (start : List Declared) (found : Values) (m : ℕ) (v : Value) → start ≡ [] → and_then o (λ vs k. Gives (joined (in_order (map value_view start)) vs) k) ≡ Gives found m → v ≡ Items found
    → and_then o (λ vs k. Gives (Items vs) k) ≡ Gives v m
comp_goes o start found m v e h f =
    ap (λ x. and_then x (λ vs k. Gives (Items vs) k)) (sym (gives_same o) ∙ ap (λ xs. and_then o (λ vs k. Gives (joined (in_order (map value_view xs)) vs) k)) (sym e) ∙ h)
    ∙ ap (λ w. Gives w m) (sym f)
