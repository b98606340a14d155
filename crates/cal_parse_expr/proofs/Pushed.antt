-- The height of a list that gets one part more.
use Rattle.std.proofs.Common.{◌≡◌, ℕ, List, [], ◌∷◌, ◌++◌, map, max, sym, ap, ◌∙◌, arith}
use Rattle.cal_ast.specs.Tree.{Tree, listed}
use Rattle.cal_grammar.specs.Operators.{height}

height-pushed : {A : Type 0} (f : A → Tree) (xs : List A) (x : A) → max (height (listed (map f xs))) (height (f x)) ≡ height (listed (map f (xs ++ x ∷ [])))
height-pushed f [] x = omega arith
height-pushed f (y ∷ xs) x = let e : max (height (listed (map f xs))) (height (f x)) ≡ height (listed (map f (xs ++ x ∷ []))) = height-pushed f xs x in omega arith

pub pushed_high : {A : Type 0} (f : A → Tree) (xs : List A) (x : A) (ys : List A) (h k : ℕ) → ys ≡ xs ++ x ∷ [] → h ≡ height (listed (map f xs)) → k ≡ height (f x) → max h k ≡ height (listed (map f ys))
pushed_high f xs x ys h k e a b = rw (a, b) (height-pushed f xs x ∙ ap (λ l. height (listed (map f l))) (sym e))
