-- Conjuncts of guards, one after another.
use Rattle.std.proofs.Common.{◌≡◌, ℕ, suc, ◌+◌, ◌<◌, ◌≤◌, Bool, true, false, List, [], ◌∷◌, ◌++◌, map, length, drop, get_or, refl, sym, ap, ◌∙◌, arith}
use Rattle.std.specs.Prelude.{◌||◌}
use Rattle.std.proofs.Math.Seq.{drop-cons}
use Rattle.std.proofs.lemmas.List.{drop_all}
use Rattle.cal_ast.specs.Tree as tree
use Rattle.cal_ast.specs.Tree.{Tree}
use Rattle.cal_ast.specs.declared.expr.BinOp.TheVariants.{And}
use Rattle.cal_model.specs.Certified.{conjuncts, all_conjuncts}
use Rattle.determinacy_cert.specs.Deciding.{any_of}

or_assoc : (a b c : Bool) → (a || (b || c)) ≡ (a || b || c)
or_assoc true b c = refl
or_assoc false b c = refl

pub any_both : {A : Type 0} (f : A → Bool) (xs ys : List A) → any_of f (xs ++ ys) ≡ (any_of f xs || any_of f ys)
any_both f [] ys = refl
any_both f (x ∷ xs) ys = ap (λ b. f x || b) (any_both f xs ys) ∙ or_assoc (f x) (any_of f xs) (any_of f ys)

or_no : (a : Bool) → (a || false) ≡ a
or_no true = refl
or_no false = refl

pub any_one : {A : Type 0} (f : A → Bool) (x : A) → any_of f (x ∷ []) ≡ f x
any_one f x = or_no (f x)

pub first_any : {A : Type 0} (f : A → Bool) (xs ys : List A) → any_of f xs ≡ true → any_of f (xs ++ ys) ≡ true
first_any f xs ys h = any_both f xs ys ∙ ap (λ b. b || any_of f ys) h

pub later_any : {A : Type 0} (f : A → Bool) (xs ys : List A) → any_of f xs ≡ false → any_of f (xs ++ ys) ≡ any_of f ys
later_any f xs ys h = any_both f xs ys ∙ ap (λ b. b || any_of f ys) h

-- ---- guards in a list, as a loop sees them

module _ {E : Type 0} (view : E → Tree) (f : Tree → Bool) (gs : List E) where
  abbrev pub found_from : ℕ → Bool
  found_from k = any_of f (all_conjuncts (map view (drop k gs)))

  front : (k : ℕ) (g : E) → k < length gs → g ≡ get_or gs k g → found_from k ≡ any_of f (conjuncts (view g) ++ all_conjuncts (map view (drop (k + 1) gs)))
  front k g inside is =
      let next : suc k ≡ k + 1 = omega arith in
      ap (λ xs. any_of f (all_conjuncts (map view xs))) (drop-cons gs k g inside ∙ ap (λ x. x ∷ drop (suc k) gs) (sym is) ∙ ap (λ j. g ∷ drop j gs) next)

  -- the conjuncts of this guard are passed
  pub passed : (k : ℕ) (g : E) (whole : Bool) → k < length gs → g ≡ get_or gs k g → any_of f (conjuncts (view g)) ≡ false → found_from k ≡ whole → found_from (k + 1) ≡ whole
  passed k g whole inside is n h = sym (later_any f (conjuncts (view g)) (all_conjuncts (map view (drop (k + 1) gs))) n) ∙ sym (front k g inside is) ∙ h

  pub found_at : (k : ℕ) (g : E) (whole : Bool) → k < length gs → g ≡ get_or gs k g → any_of f (conjuncts (view g)) ≡ true → found_from k ≡ whole → true ≡ whole
  found_at k g whole inside is y h = sym (first_any f (conjuncts (view g)) (all_conjuncts (map view (drop (k + 1) gs))) y) ∙ sym (front k g inside is) ∙ h

  pub none_found : (k : ℕ) (whole : Bool) → length gs ≤ k → found_from k ≡ whole → false ≡ whole
  none_found k whole past h = ap (λ xs. any_of f (all_conjuncts (map view xs))) (sym (drop_all k gs past)) ∙ h

-- ---- `or`

pub or_first : (a b c : Bool) → a ≡ true → true ≡ (a || b || c)
or_first true b c h = refl
or_first false b c h = cc

pub or_second : (a b c : Bool) → b ≡ true → true ≡ (a || b || c)
or_second true b c h = refl
or_second false true c h = refl
or_second false false c h = cc

pub or_third : (a b c r : Bool) → a ≡ false → b ≡ false → r ≡ c → r ≡ (a || b || c)
or_third false false c r p q h = h
or_third true b c r p q h = cc
or_third false true c r p q h = cc

-- the conjuncts of an `and`
pub either_side : (f : Tree → Bool) (l r : Tree) (at : ℕ) (b : Bool) → any_of f (conjuncts l) ≡ false → b ≡ any_of f (conjuncts r) → b ≡ any_of f (conjuncts (tree.binary And l r at))
either_side f l r at b n h = h ∙ sym (later_any f (conjuncts l) (conjuncts r) n)

pub first_side : (f : Tree → Bool) (l r : Tree) (at : ℕ) → any_of f (conjuncts l) ≡ true → true ≡ any_of f (conjuncts (tree.binary And l r at))
first_side f l r at y = sym (first_any f (conjuncts l) (conjuncts r) y)

-- what is one conjunct
pub one_side : (f : Tree → Bool) (t : Tree) (b : Bool) → conjuncts t ≡ t ∷ [] → b ≡ f t → b ≡ any_of f (conjuncts t)
one_side f t b e h = h ∙ sym (any_one f t) ∙ sym (ap (any_of f) e)
