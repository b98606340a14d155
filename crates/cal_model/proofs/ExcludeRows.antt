-- Worked examples of guards that exclude each other, computed by the certification rule.
use Rattle.std.proofs.Common.{◌≡◌, ◌≢◌, ℕ, refl, sym, ◌∙◌, ℤ, pos, List, [], ◌∷◌, inl, false, codes, arith, Option, None, Some}
use Rattle.cal_ast.specs.Tree as tree
use Rattle.cal_ast.specs.Tree.{Tree}
use Rattle.cal_ast.specs.declared.expr.BinOp.TheVariants.{Eq}
use Rattle.cal_model.specs.Actor.{Pattern, Action}
use Rattle.cal_model.specs.Certified.{key_in, keyed, CompareApart, GuardsExclude}
use Rattle.cal_model.proofs.Rows.{n_, two, name_}

-- the pattern In:[..] of the first port
abbrev takes_ : List (List ℕ) → Option ℕ → Pattern
takes_ names repeat = record { port = 0; names = names; repeat = repeat }

-- an action of one pattern and one guard
abbrev guarded_ : Pattern → Tree → Action
guarded_ q g = record { tag = []; patterns = q ∷ []; outputs = []; guards = g ∷ []; locals = []; body = tree.nil; initialize = false }

-- a[0] = n
abbrev first_is : ℕ → Tree
first_is n = two Eq (tree.index (name_ (codes "a")) (n_ 0) 0) (n_ n)

-- In:[a] repeat 1, and In:[a, b] repeat 1
abbrev one_list : Pattern
one_list = takes_ (codes "a" ∷ []) (Some 1)

abbrev two_lists : Pattern
two_lists = takes_ (codes "a" ∷ codes "b" ∷ []) (Some 1)

-- `a` is the list of the first token in both
same_key : key_in (codes "a") (one_list ∷ []) ≡ key_in (codes "a") (two_lists ∷ [])
same_key = refl

-- a list of one token isn't that token
list_of_one : key_in (codes "a") (takes_ (codes "a" ∷ []) None ∷ []) ≢ key_in (codes "a") (one_list ∷ [])
list_of_one h = grind arith

-- In:[a, b] repeat 2 and In:[c, b] repeat 2: `b` is the list of the second and the fourth token, whatever stands beside it
second_and_fourth : key_in (codes "b") (takes_ (codes "a" ∷ codes "b" ∷ []) (Some 2) ∷ []) ≡ Some (1 ∷ 0 ∷ 1 ∷ 3 ∷ [])
second_and_fourth = refl

-- In:[a] repeat 2 has other tokens in `a` than In:[a, b] repeat 2
other_tokens : key_in (codes "a") (takes_ (codes "a" ∷ []) (Some 2) ∷ []) ≢ key_in (codes "a") (takes_ (codes "a" ∷ codes "b" ∷ []) (Some 2) ∷ [])
other_tokens h = grind arith

one-or-two : (z : ℤ) → z ≡ pos 1 → z ≡ pos 2 → ⊥
one-or-two z h k = let e : pos 1 ≡ pos 2 = sym h ∙ k in grind arith

-- `a[0] = 1` and `a[0] = 2` exclude each other
compare_apart : CompareApart (keyed (first_is 1) (one_list ∷ [])) (keyed (first_is 2) (two_lists ∷ []))
compare_apart = record {
  left = tree.index (keyed (name_ (codes "a")) (one_list ∷ [])) (n_ 0) 0;
  other = tree.index (keyed (name_ (codes "a")) (two_lists ∷ [])) (n_ 0) 0;
  one_op = Eq;
  other_op = Eq;
  n = pos 1;
  m = pos 2;
  one = record { right = n_ 1; at = 0; is = refl; comparison = refl; number = refl };
  two = record { right = n_ 2; at = 0; is = refl; comparison = refl; number = refl };
  same = refl;
  never = one-or-two;
}

one_list_or_two : GuardsExclude (guarded_ one_list (first_is 1)) (guarded_ two_lists (first_is 2))
one_list_or_two = inl (inl (inl compare_apart))
