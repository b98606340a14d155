-- Generators, one of which stands behind others.
use Rattle.std.proofs.Common.{◌≡◌, ℕ, zero, suc, ◌+◌, ◌<◌, ◌≤◌, List, [], ◌∷◌, ◌++◌, map, length, drop, take, get_or, refl, sym, ap, ◌∙◌, add-one, arith, rules}
use Rattle.std.proofs.Math.Seq.{drop-cons}
use Rattle.std.proofs.lemmas.List.{drop_all}
use Rattle.cal_ast.specs.Tree as tree
use Rattle.cal_ast.specs.Tree.{Tree, listed}
use Rattle.cal_ast.specs.View.{expr_tree, gen_tree, ident_tree, type_tree}
use Rattle.cal_ast.specs.declared.expr.Expr.{Expr}
use Rattle.cal_ast.specs.declared.expr.Gen.{Gen, out-Gen}
use Rattle.cal_ast.specs.declared.expr.Gen as forms
use Rattle.cal_model.specs.Kinding.{with_counters}
use Rattle.const_env.specs.Counting.{Variable, counter_variable, inner_variables, named_by, names_inside, names_view}
use Rattle.const_env.specs.Held.{Kept}
use Rattle.const_env.specs.Meant.{name_of}
use Rattle.const_env.specs.declared.names.Names.{Names as DeclaredNames}
use Rattle.cal_check.specs.Written.{gens_written, written}
use Rattle.check_fold.specs.Seeing.{seen_among}
use Rattle.check_fold.specs.Writing.{gen_written}
use Rattle.check_fold.proofs.Onto.{onto, onto_all, onto_next}

gen_is : (g : Gen) → gen_tree g ≡ tree.gen (type_tree (out-Gen g).shape) (ident_tree (out-Gen g).name) (expr_tree (out-Gen g).from) (expr_tree (out-Gen g).to) (out-Gen g).at
gen_is g = search (rules, forms.the_lemmas)

counters : (gs : List Gen) (outer : List Variable) (env : Kept) → with_counters (listed (map gen_tree gs)) (names_inside outer env) ≡ names_inside (named_by gs outer) env
counters [] outer env = refl
counters (g ∷ gs) outer env =
    ap (λ t. with_counters (tree.cons t (listed (map gen_tree gs))) (names_inside outer env)) (gen_is g)
    ∙ counters gs (counter_variable (name_of g) ∷ outer) env

counters_seen : (gs : List Gen) (names : DeclaredNames) → with_counters (listed (map gen_tree gs)) (names_view names) ≡ seen_among gs names
counters_seen gs names = counters gs (inner_variables names.inner) names.env.now

named_more : (gs : List Gen) (n : ℕ) (d : Gen) (outer : List Variable) → n < length gs → named_by (take (n + 1) gs) outer ≡ counter_variable (name_of (get_or gs n d)) ∷ named_by (take n gs) outer
named_more gs n d outer h = ap (λ m. named_by (take m gs) outer) (add-one n) ∙ go gs n outer h
  where
    go : (xs : List Gen) (k : ℕ) (names : List Variable) → k < length xs → named_by (take (suc k) xs) names ≡ counter_variable (name_of (get_or xs k d)) ∷ named_by (take k xs) names
    go [] k names l = absurd (omega arith)
    go (x ∷ xs) zero names l = refl
    go (x ∷ xs) (suc k) names l = go xs k (counter_variable (name_of x) ∷ names) (omega arith)

-- the generators from a place on
abbrev pub gens_from : ℕ → List Gen → DeclaredNames → Tree
gens_from n gs names = gens_written (listed (map gen_tree (drop n gs))) (seen_among (take n gs) names)

opened : (gs : List Gen) (n : ℕ) (d : Gen) (names : DeclaredNames) → n < length gs
    → gens_from n gs names ≡ tree.cons (gen_written (gen_tree (get_or gs n d)) (seen_among (take n gs) names)) (gens_from (n + 1) gs names)
opened gs n d names h =
    let g = get_or gs n d in
    let here = seen_among (take n gs) names in
    ap (λ xs. gens_written (listed (map gen_tree xs)) here) (drop-cons gs n d h)
    ∙ ap (λ t. gens_written (tree.cons t (listed (map gen_tree (drop (suc n) gs)))) here) (gen_is g)
    ∙ ap (λ t. tree.cons (gen_written t here) (gens_written (listed (map gen_tree (drop (suc n) gs))) (names_inside (counter_variable (name_of g) ∷ named_by (take n gs) (inner_variables names.inner)) names.env.now))) (sym (gen_is g))
    ∙ ap (λ ns. tree.cons (gen_written (gen_tree g) here) (gens_written (listed (map gen_tree (drop (suc n) gs))) (names_inside ns names.env.now))) (sym (named_more gs n d (inner_variables names.inner) h))
    ∙ ap (λ m. tree.cons (gen_written (gen_tree g) here) (gens_written (listed (map gen_tree (drop m gs))) (seen_among (take (n + 1) gs) names))) (sym (add-one n))

pub gens_next : (gs found new : List Gen) (n : ℕ) (d x : Gen) (names : DeclaredNames) (whole : Tree) → n < length gs → new ≡ found ++ x ∷ []
    → gen_tree x ≡ gen_written (gen_tree (get_or gs n d)) (seen_among (take n gs) names)
    → onto (map gen_tree found) (gens_from n gs names) ≡ whole → onto (map gen_tree new) (gens_from (n + 1) gs names) ≡ whole
gens_next gs found new n d x names whole h more same inv =
    onto_next gen_tree found new x (gens_from (n + 1) gs names) whole more
    (ap (λ t. onto (map gen_tree found) (tree.cons t (gens_from (n + 1) gs names))) same
    ∙ ap (onto (map gen_tree found)) (sym (opened gs n d names h))
    ∙ inv)

pub gens_done : (gs found : List Gen) (n : ℕ) (names : DeclaredNames) (whole : Tree) → length gs ≤ n → onto (map gen_tree found) (gens_from n gs names) ≡ whole → listed (map gen_tree found) ≡ whole
gens_done gs found n names whole h inv =
    sym (ap (λ xs. onto (map gen_tree found) (gens_written (listed (map gen_tree xs)) (seen_among (take n gs) names))) (drop_all n gs h) ∙ onto_all (map gen_tree found))
    ∙ inv

-- ---- comprehensions

pub comp_written : (e i item : Expr) (gens found : List Gen) (at : ℕ) (names : DeclaredNames)
    → expr_tree i ≡ written (expr_tree item) (seen_among gens names)
    → listed (map gen_tree found) ≡ gens_written (listed (map gen_tree gens)) (names_view names)
    → expr_tree e ≡ tree.comp (expr_tree i) (listed (map gen_tree found)) at
    → expr_tree e ≡ written (tree.comp (expr_tree item) (listed (map gen_tree gens)) at) (names_view names)
comp_written e i item gens found at names inner all is =
    is ∙ ap (λ t. tree.comp t (listed (map gen_tree found)) at) (inner ∙ ap (written (expr_tree item)) (sym (counters_seen gens names)))
    ∙ ap (λ gs. tree.comp (written (expr_tree item) (with_counters (listed (map gen_tree gens)) (names_view names))) gs at) all
