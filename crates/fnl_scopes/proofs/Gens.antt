-- The names of generators, and generators one after the other.
use Rattle.std.proofs.Common.{◌≡◌, ℕ, zero, suc, ◌+◌, ◌<◌, ◌≤◌, Bool, true, false, List, [], ◌∷◌, ◌++◌, length, take, drop, get_or, refl, sym, ap, subst, ◌∙◌, add-one, arith, rules}
use Rattle.std.specs.Prelude.{if◌then◌else◌}
use Rattle.std.specs.Str.{bytes_eq}
use Rattle.std.proofs.Math.Seq.{drop-cons}
use Rattle.std.proofs.lemmas.List.{append_assoc, drop_all}
use Rattle.cal_ast.specs.Tree as tree
use Rattle.cal_ast.specs.View.{expr_tree, gen_tree, ident_tree, type_tree}
use Rattle.cal_ast.specs.declared.expr.Gen.{Gen, out-Gen}
use Rattle.cal_ast.specs.declared.expr.ExprForm as forms
use Rattle.cal_check.specs.Violations.{Violation}
use Rattle.fnl_bind.specs.Library.{is_among}
use Rattle.fnl_bind.specs.Scopes.{gen_name, inside_gens, unknown_in, unknown_in_gens}
use Rattle.fnl_scopes.specs.Tested.{IsCause}
use Rattle.fnl_scopes.specs.View.{counters, gens_tree}
use Rattle.fnl_scopes.specs.declared.fault.ScopeFault.{ScopeFault}
use Rattle.fnl_scopes.proofs.Sizes.{size}
use Rattle.fnl_scopes.proofs.Steps.{in_first}

-- ---- names among others

-- a name that is among the first is among all
pub among_here : (name : List ℕ) (xs ys : List (List ℕ)) → is_among name xs ≡ true → is_among name (xs ++ ys) ≡ true
among_here name [] ys h = cc
among_here name (x ∷ xs) ys h = go (bytes_eq x name) h (among_here name xs ys)
  where
    go : (b : Bool) → (if b then true else is_among name xs) ≡ true → (is_among name xs ≡ true → is_among name (xs ++ ys) ≡ true)
        → (if b then true else is_among name (xs ++ ys)) ≡ true
    go true e more = refl
    go false e more = more e

-- one that isn't, is if it is among the others
pub among_outside : (name : List ℕ) (xs ys : List (List ℕ)) → is_among name xs ≡ false → is_among name (xs ++ ys) ≡ is_among name ys
among_outside name [] ys h = refl
among_outside name (x ∷ xs) ys h = go (bytes_eq x name) h (among_outside name xs ys)
  where
    go : (b : Bool) → (if b then true else is_among name xs) ≡ false → (is_among name xs ≡ false → is_among name (xs ++ ys) ≡ is_among name ys)
        → (if b then true else is_among name (xs ++ ys)) ≡ is_among name ys
    go true e more = cc
    go false e more = more e

-- ---- the names of generators

-- a generator, part by part
pub gen_is : (g : Gen) → gen_tree g ≡ tree.gen (type_tree (out-Gen g).shape) (ident_tree (out-Gen g).name) (expr_tree (out-Gen g).from) (expr_tree (out-Gen g).to) (out-Gen g).at
gen_is g = search (rules, forms.the_lemmas)

-- its type breaks a rule
pub broken_type : (g : Gen) (names : List (List ℕ)) (f : ScopeFault) → IsCause (unknown_in (type_tree (out-Gen g).shape) names) f → IsCause (unknown_in (gen_tree g) names) f
broken_type g names f h =
    subst (λ t. IsCause (unknown_in t names) f) (sym (gen_is g))
    (in_first f (unknown_in (type_tree (out-Gen g).shape) names) (unknown_in (expr_tree (out-Gen g).from) names ++ unknown_in (expr_tree (out-Gen g).to) names) h)

pub no_gens : (gens : List Gen) → length gens ≡ 0 → gens ≡ []
no_gens [] h = refl
no_gens (g ∷ gens) h = absurd (omega arith)

-- the last one stands inside the others
pub last_inside : (gens : List Gen) (last : Gen) (names : List (List ℕ))
    → inside_gens (gens_tree (gens ++ last ∷ [])) names ≡ gen_name (gen_tree last) ∷ inside_gens (gens_tree gens) names
last_inside [] last names = refl
last_inside (g ∷ gens) last names = last_inside gens last (gen_name (gen_tree g) ∷ names)

-- those outside come behind
pub outside_behind : (gens : List Gen) (here names : List (List ℕ))
    → inside_gens (gens_tree gens) (here ++ names) ≡ inside_gens (gens_tree gens) here ++ names
outside_behind [] here names = refl
outside_behind (g ∷ gens) here names = outside_behind gens (gen_name (gen_tree g) ∷ here) names

pub counters_then : (gens : List Gen) (names : List (List ℕ)) → counters gens ++ names ≡ inside_gens (gens_tree gens) names
counters_then gens names = sym (outside_behind gens [] names)

-- inside generators, inside names, inside what is declared
pub seen_under : (gens : List Gen) (names declared : List (List ℕ))
    → (counters gens ++ names) ++ declared ≡ inside_gens (gens_tree gens) (names ++ declared)
seen_under gens names declared = append_assoc (counters gens) names declared ∙ counters_then gens (names ++ declared)

pub last_counter : (name : List ℕ) (rest others : List Gen) (last : Gen) → rest ≡ others ++ last ∷ []
    → is_among name (counters rest) ≡ (if bytes_eq (gen_name (gen_tree last)) name then true else is_among name (counters others))
last_counter name rest others last h = ap (λ gs. is_among name (counters gs)) h ∙ ap (is_among name) (last_inside others last [])

-- ---- generators one after the other

inside_more : (gens : List Gen) (n : ℕ) (d : Gen) (names : List (List ℕ)) → n < length gens
    → inside_gens (gens_tree (take (n + 1) gens)) names ≡ gen_name (gen_tree (get_or gens n d)) ∷ inside_gens (gens_tree (take n gens)) names
inside_more gens n d names h = ap (λ m. inside_gens (gens_tree (take m gens)) names) (add-one n) ∙ go gens n names h
  where
    go : (xs : List Gen) (k : ℕ) (ns : List (List ℕ)) → k < length xs
        → inside_gens (gens_tree (take (suc k) xs)) ns ≡ gen_name (gen_tree (get_or xs k d)) ∷ inside_gens (gens_tree (take k xs)) ns
    go [] k ns l = absurd (omega arith)
    go (x ∷ xs) zero ns l = refl
    go (x ∷ xs) (suc k) ns l = go xs k (gen_name (gen_tree x) ∷ ns) (omega arith)

-- what is unknown in the generators from a place on
abbrev pub unknown_from : ℕ → List Gen → List (List ℕ) → List Violation
unknown_from n gens names = unknown_in_gens (gens_tree (drop n gens)) (inside_gens (gens_tree (take n gens)) names)

-- .. and in one behind those before it
abbrev pub unknown_at : ℕ → Gen → List Gen → List (List ℕ) → List Violation
unknown_at n g gens names = unknown_in (gen_tree g) (inside_gens (gens_tree (take n gens)) names)

opened : (gens : List Gen) (n : ℕ) (d : Gen) (names : List (List ℕ)) → n < length gens
    → unknown_from n gens names ≡ unknown_at n (get_or gens n d) gens names ++ unknown_from (n + 1) gens names
opened gens n d names h =
    ap (λ xs. unknown_in_gens (gens_tree xs) (inside_gens (gens_tree (take n gens)) names)) (drop-cons gens n d h)
    ∙ ap (λ ns. unknown_at n (get_or gens n d) gens names ++ unknown_in_gens (gens_tree (drop (suc n) gens)) ns) (sym (inside_more gens n d names h))
    ∙ ap (λ m. unknown_at n (get_or gens n d) gens names ++ unknown_in_gens (gens_tree (drop m gens)) (inside_gens (gens_tree (take (n + 1) gens)) names)) (sym (add-one n))

-- one that breaks no rule
pub one_behind : (gens : List Gen) (n : ℕ) (d : Gen) (names : List (List ℕ)) (whole : List Violation) → n < length gens
    → unknown_at n (get_or gens n d) gens names ≡ [] → unknown_from n gens names ≡ whole → unknown_from (n + 1) gens names ≡ whole
one_behind gens n d names whole h fine same =
    sym (opened gens n d names h ∙ ap (λ vs. vs ++ unknown_from (n + 1) gens names) fine) ∙ same

-- one that breaks a rule
pub broken_here : (gens : List Gen) (n : ℕ) (d : Gen) (names : List (List ℕ)) (whole : List Violation) (f : ScopeFault) → n < length gens
    → IsCause (unknown_at n (get_or gens n d) gens names) f → unknown_from n gens names ≡ whole → IsCause whole f
broken_here gens n d names whole f h broken same =
    subst (λ vs. IsCause vs f) (sym (opened gens n d names h) ∙ same) (in_first f (unknown_at n (get_or gens n d) gens names) (unknown_from (n + 1) gens names) broken)

-- none is left
pub none_left : (gens : List Gen) (n : ℕ) (names : List (List ℕ)) (whole : List Violation) → length gens ≤ n → unknown_from n gens names ≡ whole → whole ≡ []
none_left gens n names whole h same =
    sym same ∙ ap (λ xs. unknown_in_gens (gens_tree xs) (inside_gens (gens_tree (take n gens)) names)) (drop_all n gens h)

pub gen_size : (gens : List Gen) (n : ℕ) (d : Gen) → n < length gens → size (gen_tree (get_or gens n d)) < size (gens_tree gens)
gen_size [] n d h = absurd (omega arith)
gen_size (g ∷ gens) zero d h = omega arith
gen_size (g ∷ gens) (suc n) d h = let l = gen_size gens n d (omega arith) in omega arith
