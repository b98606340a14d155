-- An operation whose left side doesn't decide it goes on with the right one.
use Rattle.std.proofs.Common.{◌≡◌, ℕ, true, false, refl, ap, ◌∙◌}
use Rattle.cal_ast.specs.declared.expr.BinOp.{BinOp}
use Rattle.cal_ast.specs.declared.expr.BinOp.TheVariants.{Or, And, BitOr, BitXor, BitAnd, Eq, Ne, Lt, Le, Gt, Ge, Shl, Shr, Add, Sub, Mul, Div, Mod}
use Rattle.cal_model.specs.Value.{Value, Num, Truth, Items}
use Rattle.cal_model.specs.Outcome.{Out, Gives, and_then}
use Rattle.cal_model.specs.Expression.{applied, with_right}
use Rattle.const_env.specs.Deciding.{decides}

pub goes_right : (op : BinOp) (v : Value) (r : ℕ → Out Value) (left : ℕ) → decides op v ≡ false → with_right op v r left ≡ and_then (r left) (λ w m. applied op v w m)
goes_right And (Truth true) r left h = refl
goes_right And (Truth false) r left h = cc
goes_right And (Num z) r left h = refl
goes_right And (Items vs) r left h = refl
goes_right Or (Truth true) r left h = cc
goes_right Or (Truth false) r left h = refl
goes_right Or (Num z) r left h = refl
goes_right Or (Items vs) r left h = refl
goes_right BitOr v r left h = refl
goes_right BitXor v r left h = refl
goes_right BitAnd v r left h = refl
goes_right Eq v r left h = refl
goes_right Ne v r left h = refl
goes_right Lt v r left h = refl
goes_right Le v r left h = refl
goes_right Gt v r left h = refl
goes_right Ge v r left h = refl
goes_right Shl v r left h = refl
goes_right Shr v r left h = refl
goes_right Add v r left h = refl
goes_right Sub v r left h = refl
goes_right Mul v r left h = refl
goes_right Div v r left h = refl
goes_right Mod v r left h = refl

-- both sides give values
pub binary_goes : (op : BinOp) (o : Out Value) (r : ℕ → Out Value) (v w : Value) (m n : ℕ) → decides op v ≡ false → o ≡ Gives v m → r m ≡ Gives w n
    → and_then o (λ x k. with_right op x (λ h. r h) k) ≡ applied op v w n
binary_goes op o r v w m n h e f =
    ap (λ x. and_then x (λ y k. with_right op y (λ h. r h) k)) e ∙ goes_right op v r m h ∙ ap (λ x. and_then x (λ y k. applied op v y k)) f
