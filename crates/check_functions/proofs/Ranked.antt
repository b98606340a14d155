-- How many functions stand before a number of an order.
use Rattle.std.proofs.Common.{◌≡◌, ℕ, zero, suc, ◌<◌, ◌≤◌, Bool, true, false, List, [], ◌∷◌, length, refl, sym, ap, subst, ◌∙◌, arith, Some}
use Rattle.std.specs.Prelude.{◌&&◌, nat_lt, slice_get}
use Rattle.std.proofs.lemmas.Bool.Decides.{nat_tests}
use Rattle.cal_model.specs.Actor.{Fun}
use Rattle.cal_model.specs.Tags.{number_of_name}
use Rattle.cal_check.specs.Routines.{FunDecl}
use Rattle.const_env.specs.Constants.{has_fun}
use Rattle.check_functions.specs.Left.{count_of, one_if}

-- those that pass the test
abbrev pub below : (FunDecl → Bool) → List (List ℕ) → ℕ → List FunDecl → ℕ
below t order j [] = 0
below t order j (f ∷ fs) = one_if (nat_lt (number_of_name f.name order) j && t f) (below t order j fs)

abbrev pub is_found : List Fun → FunDecl → Bool
is_found found f = has_fun f.name found

abbrev pub each : FunDecl → Bool
each f = true

-- ---- one more, if it passes

one_least : (a : Bool) (n : ℕ) → n ≤ one_if a n
one_least true n = omega arith
one_least false n = omega arith

one_most : (a : Bool) (n m : ℕ) → suc n ≤ m → one_if a n ≤ m
one_most true n m l = l
one_most false n m l = omega (arith, l)

one_more : (a b : Bool) (n m : ℕ) → (a ≡ true → b ≡ true) → n ≤ m → one_if a n ≤ one_if b m
one_more true b n m h l = let more : suc n ≤ suc m = omega (arith, l) in subst (λ c. suc n ≤ one_if c m) (sym (h refl)) more
one_more false b n m h l = let more = one_least b m in omega (arith, l, more)

one_less : (a b : Bool) (n m : ℕ) → (a ≡ true → b ≡ true) → suc n ≤ m → suc (one_if a n) ≤ one_if b m
one_less true b n m h l = let more : suc (suc n) ≤ suc m = omega (arith, l) in subst (λ c. suc (suc n) ≤ one_if c m) (sym (h refl)) more
one_less false b n m h l = let more = one_least b m in omega (arith, l, more)

pub less_so : (p j : ℕ) → nat_lt p j ≡ true → p < j
less_so p j h = grind (arith, nat_tests)

pub so_less : (p j : ℕ) → p < j → nat_lt p j ≡ true
so_less p j h = grind (arith, nat_tests)

pub not_less : (p j : ℕ) → nat_lt p j ≡ false → j ≤ p
not_less p j h = grind (arith, nat_tests)

pub so_not_less : (p j : ℕ) → j ≤ p → nat_lt p j ≡ false
so_not_less p j h = grind (arith, nat_tests)

passes_more : (p j k : ℕ) (t : Bool) → j ≤ k → (nat_lt p j && t) ≡ true → (nat_lt p k && t) ≡ true
passes_more p j k t l h = go (nat_lt p j) refl h
  where
    go : (b : Bool) → nat_lt p j ≡ b → (b && t) ≡ true → (nat_lt p k && t) ≡ true
    go true e i =
        let less = less_so p j e in
        ap (λ b. b && t) (so_less p k (omega (arith, less, l))) ∙ i
    go false e i = cc

second_of : (a t : Bool) → (a && t) ≡ true → t ≡ true
second_of true t h = h
second_of false t h = cc

-- ---- how many

pub below_more : (t : FunDecl → Bool) (order : List (List ℕ)) (j k : ℕ) (fs : List FunDecl) → j ≤ k → below t order j fs ≤ below t order k fs
below_more t order j k [] l = omega arith
below_more t order j k (f ∷ fs) l =
    one_more (nat_lt (number_of_name f.name order) j && t f) (nat_lt (number_of_name f.name order) k && t f) (below t order j fs) (below t order k fs)
    (passes_more (number_of_name f.name order) j k (t f) l) (below_more t order j k fs l)

-- a function that passes stands between
pub below_one : (t : FunDecl → Bool) (order : List (List ℕ)) (j k : ℕ) (fs : List FunDecl) (i : ℕ) (f : FunDecl) → slice_get fs i ≡ Some f
    → j ≤ number_of_name f.name order → number_of_name f.name order < k → t f ≡ true → suc (below t order j fs) ≤ below t order k fs
below_one t order j k [] i f there l m passes = cc
below_one t order j k (g ∷ fs) zero f there l m passes =
    let same : g ≡ f = cc in
    let p = number_of_name g.name order in
    let before : j ≤ p = subst (λ x. j ≤ number_of_name x.name order) (sym same) l in
    let within : p < k = subst (λ x. number_of_name x.name order < k) (sym same) m in
    let out : one_if (nat_lt p j && t g) (below t order j fs) ≡ below t order j fs = ap (λ b. one_if (b && t g) (below t order j fs)) (so_not_less p j before) in
    let one : one_if (nat_lt p k && t g) (below t order k fs) ≡ suc (below t order k fs) =
    ap (λ b. one_if (b && t g) (below t order k fs)) (so_less p k within) ∙ ap (λ x. one_if (t x) (below t order k fs)) same ∙ ap (λ b. one_if b (below t order k fs)) passes in
    let rest = below_more t order j k fs (omega (arith, before, within)) in
    omega (arith, out, one, rest)
below_one t order j k (g ∷ fs) (suc i) f there l m passes =
    one_less (nat_lt (number_of_name g.name order) j && t g) (nat_lt (number_of_name g.name order) k && t g) (below t order j fs) (below t order k fs)
    (passes_more (number_of_name g.name order) j k (t g) (omega (arith, l, m))) (below_one t order j k fs i f there l m passes)

pub below_all : (t : FunDecl → Bool) (order : List (List ℕ)) (j : ℕ) (fs : List FunDecl) → below t order j fs ≤ length fs
below_all t order j [] = omega arith
below_all t order j (f ∷ fs) =
    let l = below_all t order j fs in
    one_most (nat_lt (number_of_name f.name order) j && t f) (below t order j fs) (suc (length fs)) (omega (arith, l))

-- a function doesn't stand before it
pub below_short : (t : FunDecl → Bool) (order : List (List ℕ)) (j : ℕ) (fs : List FunDecl) (i : ℕ) (f : FunDecl) → slice_get fs i ≡ Some f → j ≤ number_of_name f.name order
    → suc (below t order j fs) ≤ length fs
below_short t order j [] i f there l = cc
below_short t order j (g ∷ fs) zero f there l =
    let same : g ≡ f = cc in
    let p = number_of_name g.name order in
    let out : one_if (nat_lt p j && t g) (below t order j fs) ≡ below t order j fs =
    ap (λ b. one_if (b && t g) (below t order j fs)) (so_not_less p j (subst (λ x. j ≤ number_of_name x.name order) (sym same) l)) in
    let rest = below_all t order j fs in
    omega (arith, out, rest)
below_short t order j (g ∷ fs) (suc i) f there l =
    let rest = below_short t order j fs i f there l in
    let most = one_most (nat_lt (number_of_name g.name order) j && t g) (below t order j fs) (length fs) rest in
    omega (arith, most)

-- those that are found before it are among all that are found
pub below_found : (order : List (List ℕ)) (j : ℕ) (fs : List FunDecl) (found : List Fun) → below (is_found found) order j fs ≤ count_of fs found
below_found order j [] found = omega arith
below_found order j (f ∷ fs) found =
    one_more (nat_lt (number_of_name f.name order) j && has_fun f.name found) (has_fun f.name found) (below (is_found found) order j fs) (count_of fs found)
    (second_of (nat_lt (number_of_name f.name order) j) (has_fun f.name found)) (below_found order j fs found)
