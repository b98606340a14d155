-- Expressions that are seen to give truth values.
-- Trusted: part of what a promise means.
use Rattle.std.specs.Prelude.{ℕ, suc, ◌-◌, nat_eq, if◌then◌else◌, List, ◌∷◌, Bool, true, false, ◌&&◌, ◌||◌, Option, None, Some}
use Rattle.rvc_base.specs.declared.scalar.Scalar.{Scalar}
use Rattle.rvc_base.specs.declared.scalar.Scalar.TheVariants as scalar
use Rattle.cal_ast.specs.declared.expr.PrefixOp.{PrefixOp}
use Rattle.cal_ast.specs.declared.expr.PrefixOp.TheVariants as prefixes
use Rattle.cal_ast.specs.declared.expr.BinOp.{BinOp}
use Rattle.cal_ast.specs.declared.expr.BinOp.TheVariants as binaries
use Rattle.cal_ast.specs.Tree as tree
use Rattle.cal_ast.specs.Tree.{Tree}
use Rattle.cal_model.specs.Value.{Shape, Single, Many}
use Rattle.lower_base.specs.declared.sorts.Sort.{Sort}
use Rattle.lower_base.specs.declared.sorts.Sort.TheVariants as sort
use Rattle.lower_base.specs.Callees.{Function, function_for}
use Rattle.lower_base.specs.Generators.{counted_by, makes_none}
use Rattle.lower_base.specs.Names.{Name, local, shape_named}
use Rattle.lower_base.specs.Parted.{number_of}

abbrev pub is_truth_prefix : PrefixOp → Bool
is_truth_prefix prefixes.Not = true
is_truth_prefix o = false

abbrev pub is_truth_binary : BinOp → Bool
is_truth_binary binaries.Or = true
is_truth_binary binaries.And = true
is_truth_binary binaries.Eq = true
is_truth_binary binaries.Ne = true
is_truth_binary binaries.Lt = true
is_truth_binary binaries.Le = true
is_truth_binary binaries.Gt = true
is_truth_binary binaries.Ge = true
is_truth_binary o = false

-- any single value is meant, not a truth value alone
abbrev pub is_any : Sort → Bool
is_any sort.Any = true
is_any sort.Truths = false

abbrev pub is_of_sort : Sort → Scalar → Bool
is_of_sort sort.Any t = true
is_of_sort sort.Truths scalar.Bool = true
is_of_sort sort.Truths (scalar.Int n) = false
is_of_sort sort.Truths (scalar.Uint n) = false

-- an operator, of an operand that gives single values or doesn't
abbrev pub prefix_gives : Sort → PrefixOp → Bool → Bool
prefix_gives sort.Any o single = single
prefix_gives sort.Truths o single = is_truth_prefix o

abbrev pub binary_gives : Sort → BinOp → Bool → Bool → Bool
binary_gives sort.Any o left right = is_truth_binary o || (left && right)
binary_gives sort.Truths o left right = is_truth_binary o

-- ---- with indexes put on it

-- a single value, on which no index is put
abbrev pub with_none : ℕ → Bool → Bool
with_none d b = nat_eq d 0 && b

-- a list, of which one index chooses an item
abbrev pub with_one : ℕ → (ℕ → Bool) → Bool
with_one d item = if nat_eq d 0 then false else item (d - 1)

-- what so many indexes choose of a type is of a sort
abbrev pub shape_gives : Sort → ℕ → Shape → Bool
shape_gives s d (Single t) = with_none d (is_of_sort s t)
shape_gives s d (Many n items) = with_one d (λ k. shape_gives s k items)

-- .. of a name, if there is one
abbrev pub name_gives : Sort → ℕ → Option Shape → Bool
name_gives s d None = false
name_gives s d (Some t) = shape_gives s d t

-- a call, of arguments that give single values or don't
abbrev pub call_gives : Sort → Option Function → Bool → Bool
call_gives s None args = false
call_gives s (Some f) args = is_of_sort s f.result && args

-- what sees the variables of generators
abbrev pub under_gens : List Name → Tree → (List Name → Bool) → Bool
under_gens names (tree.cons g gens) inside = elim (counted_by g) [
  | None ↦ false
  | Some x ↦ under_gens (local x.text x.kind 0 ∷ names) gens inside
]
under_gens names other inside = inside names

-- .. if it is evaluated at all
abbrev pub under_made : List Name → Tree → (List Name → Bool) → Bool
under_made names gens inside = makes_none gens || under_gens names gens inside

-- ---- expressions

abbrev mutual
  -- what an expression gives, if anything, is of a sort once so many indexes are put on it, whatever they choose
  pub gives_at : Sort → ℕ → List Function → List Name → Tree → Bool
  gives_at s d fs names (tree.number k at) = with_none d (is_any s)
  gives_at s d fs names (tree.truth b at) = with_none d true
  gives_at s d fs names (tree.variable text at) = name_gives s d (shape_named names text)
  gives_at s d fs names (tree.paren e at) = gives_at s d fs names e
  gives_at s d fs names (tree.if_expr test first other at) =
      gives_at s d fs names first && gives_at s d fs names other
  gives_at s d fs names (tree.prefix o e at) =
      with_none d (prefix_gives s o (gives_at sort.Any 0 fs names e))
  gives_at s d fs names (tree.binary o l r at) =
      with_none d (binary_gives s o (gives_at sort.Any 0 fs names l) (gives_at sort.Any 0 fs names r))
  gives_at s d fs names (tree.call text args at) =
      with_none d (call_gives s (function_for text (number_of args) fs) (all_give sort.Any 0 fs names args))
  gives_at s d fs names (tree.list es at) = with_one d (λ k. all_give s k fs names es)
  gives_at s d fs names (tree.comp item gens at) =
      with_one d (λ k. under_made names gens (λ inner. gives_at s k fs inner item))
  gives_at s d fs names (tree.index base place at) = gives_at s (suc d) fs names base
  gives_at s d fs names other = false

  -- .. and so each of these
  pub all_give : Sort → ℕ → List Function → List Name → Tree → Bool
  all_give s d fs names (tree.cons e es) = gives_at s d fs names e && all_give s d fs names es
  all_give s d fs names other = true

-- what it gives, if anything, is a truth value
abbrev pub is_truth : List Function → List Name → Tree → Bool
is_truth fs names e = gives_at sort.Truths 0 fs names e
