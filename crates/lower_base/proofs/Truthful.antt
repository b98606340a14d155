-- Operators that are seen to give truth values give them.
use Rattle.std.proofs.Common.{◌≡◌, ℕ, ℤ, Bool, true, false}
use Rattle.rvc_base.specs.declared.scalar.Scalar.{Scalar}
use Rattle.rvc_base.specs.declared.scalar.Scalar.TheVariants as scalar
use Rattle.cal_ast.specs.declared.expr.PrefixOp.{PrefixOp}
use Rattle.cal_ast.specs.declared.expr.PrefixOp.TheVariants as prefixes
use Rattle.cal_ast.specs.declared.expr.BinOp.{BinOp}
use Rattle.cal_ast.specs.declared.expr.BinOp.TheVariants as binaries
use Rattle.cal_model.specs.Value.{Value, Num, Truth, Items, HasKind, kind_of_scalar}
use Rattle.cal_model.specs.Outcome.{Out, Gives, Traps, Lacks, Clashes, and_then}
use Rattle.cal_model.specs.Expression.{prefixed, applied, of_numbers, of_truths, with_right}
use Rattle.lower_base.specs.declared.sorts.Sort.TheVariants as sort
use Rattle.lower_base.specs.Following.{Follows}
use Rattle.lower_base.specs.Truths.{is_of_sort, is_truth_prefix, is_truth_binary}

abbrev pub IsTruth : Value → Type 0
IsTruth (Num z) = ⊥
IsTruth (Truth b) = Unit {0}
IsTruth (Items vs) = ⊥

-- what the outcome gives, if anything, is a truth value
abbrev pub OnlyTruths : Out Value → Type 0
OnlyTruths o = Follows o (λ v m. IsTruth v) (λ c. Unit {0})

pub prefix_truth : (o : PrefixOp) (v : Value) (left : ℕ) → is_truth_prefix o ≡ true → OnlyTruths (prefixed o v left)
prefix_truth prefixes.Not (Num z) left h = tt
prefix_truth prefixes.Not (Truth b) left h = tt
prefix_truth prefixes.Not (Items vs) left h = tt
prefix_truth prefixes.Neg v left h = cc
prefix_truth prefixes.BitNot v left h = cc

numbers_truth : (o : BinOp) (a b : ℤ) (left : ℕ) → is_truth_binary o ≡ true → OnlyTruths (of_numbers o a b left)
numbers_truth binaries.Or a b left h = tt
numbers_truth binaries.And a b left h = tt
numbers_truth binaries.Eq a b left h = tt
numbers_truth binaries.Ne a b left h = tt
numbers_truth binaries.Lt a b left h = tt
numbers_truth binaries.Le a b left h = tt
numbers_truth binaries.Gt a b left h = tt
numbers_truth binaries.Ge a b left h = tt
numbers_truth o a b left h = cc

truths_truth : (o : BinOp) (a b : Bool) (left : ℕ) → OnlyTruths (of_truths o a b left)
truths_truth binaries.And a b left = tt
truths_truth binaries.Or a b left = tt
truths_truth binaries.Eq a b left = tt
truths_truth binaries.Ne a b left = tt
truths_truth o a b left = tt

applied_truth : (o : BinOp) (v w : Value) (left : ℕ) → is_truth_binary o ≡ true → OnlyTruths (applied o v w left)
applied_truth o (Num a) (Num b) left h = numbers_truth o a b left h
applied_truth o (Truth a) (Truth b) left h = truths_truth o a b left
applied_truth o (Num a) (Truth b) left h = tt
applied_truth o (Num a) (Items vs) left h = tt
applied_truth o (Truth a) (Num b) left h = tt
applied_truth o (Truth a) (Items vs) left h = tt
applied_truth o (Items vs) w left h = tt

pub after_any : (o : Out Value) (f : Value → ℕ → Out Value) → ((v : Value) (m : ℕ) → OnlyTruths (f v m)) → OnlyTruths (and_then o f)
after_any (Gives v left) f h = h v left
after_any (Traps c) f h = tt
after_any Lacks f h = tt
after_any Clashes f h = tt

right_truth : (o : BinOp) (v : Value) (right : ℕ → Out Value) (left : ℕ) → is_truth_binary o ≡ true → OnlyTruths (and_then (right left) (λ w m. applied o v w m))
right_truth o v right left h = after_any (right left) (λ w m. applied o v w m) (λ w m. applied_truth o v w m h)

pub with_right_truth : (o : BinOp) (v : Value) (right : ℕ → Out Value) (left : ℕ) → is_truth_binary o ≡ true → OnlyTruths (with_right o v right left)
with_right_truth binaries.And (Truth true) right left h = right_truth binaries.And (Truth true) right left h
with_right_truth binaries.And (Truth false) right left h = tt
with_right_truth binaries.And (Num z) right left h = right_truth binaries.And (Num z) right left h
with_right_truth binaries.And (Items vs) right left h = right_truth binaries.And (Items vs) right left h
with_right_truth binaries.Or (Truth true) right left h = tt
with_right_truth binaries.Or (Truth false) right left h = right_truth binaries.Or (Truth false) right left h
with_right_truth binaries.Or (Num z) right left h = right_truth binaries.Or (Num z) right left h
with_right_truth binaries.Or (Items vs) right left h = right_truth binaries.Or (Items vs) right left h
with_right_truth binaries.BitOr v right left h = right_truth binaries.BitOr v right left h
with_right_truth binaries.BitXor v right left h = right_truth binaries.BitXor v right left h
with_right_truth binaries.BitAnd v right left h = right_truth binaries.BitAnd v right left h
with_right_truth binaries.Eq v right left h = right_truth binaries.Eq v right left h
with_right_truth binaries.Ne v right left h = right_truth binaries.Ne v right left h
with_right_truth binaries.Lt v right left h = right_truth binaries.Lt v right left h
with_right_truth binaries.Le v right left h = right_truth binaries.Le v right left h
with_right_truth binaries.Gt v right left h = right_truth binaries.Gt v right left h
with_right_truth binaries.Ge v right left h = right_truth binaries.Ge v right left h
with_right_truth binaries.Shl v right left h = right_truth binaries.Shl v right left h
with_right_truth binaries.Shr v right left h = right_truth binaries.Shr v right left h
with_right_truth binaries.Add v right left h = right_truth binaries.Add v right left h
with_right_truth binaries.Sub v right left h = right_truth binaries.Sub v right left h
with_right_truth binaries.Mul v right left h = right_truth binaries.Mul v right left h
with_right_truth binaries.Div v right left h = right_truth binaries.Div v right left h
with_right_truth binaries.Mod v right left h = right_truth binaries.Mod v right left h

pub scalar_truth : (t : Scalar) (v : Value) → is_of_sort sort.Truths t ≡ true → HasKind (kind_of_scalar t) v → IsTruth v
scalar_truth scalar.Bool (Num z) h k = k
scalar_truth scalar.Bool (Truth b) h k = tt
scalar_truth scalar.Bool (Items vs) h k = k
scalar_truth (scalar.Int n) v h k = cc
scalar_truth (scalar.Uint n) v h k = cc
