-- One generator more: how many elements generators make.
use Rattle.std.proofs.Common.{◌≡◌, ℕ, zero, suc, ◌+◌, ◌*◌, ◌<◌, ◌≤◌, ℤ, List, [], ◌∷◌, map, length, drop, take, get_or, refl, sym, ap, subst, ◌∙◌, add-one, arith}
use Rattle.std.proofs.Math.Seq.{drop-cons}
use Rattle.std.proofs.lemmas.List.{drop_all}
use Rattle.rvc_base.specs.declared.refusal.Rule.{Rule}
use Rattle.cal_ast.specs.Tree as tree
use Rattle.cal_ast.specs.Tree.{Tree, listed}
use Rattle.cal_ast.specs.Places.{begins}
use Rattle.cal_ast.specs.View.{expr_tree, gen_tree, type_tree}
use Rattle.cal_ast.specs.declared.expr.Gen.{Gen, out-Gen}
use Rattle.cal_model.specs.Value.{Kind, Shape}
use Rattle.cal_model.specs.Expression.{span}
use Rattle.cal_model.specs.Kinding.{Judged, Fine, Broken, and_so, Names, constant_number, counts, elements_in, kind, list_of_kind, type_judged, with_counters}
use Rattle.const_env.specs.Counting.{Variable, counter_variable, known_variable, named_by, numbers_judged}
use Rattle.const_env.specs.Fitting.{capped}
use Rattle.const_env.specs.Judging.{Breaks}
use Rattle.const_env.specs.Meant.{name_of}
use Rattle.const_env.specs.declared.fault.KindFault.{KindFault}
use Rattle.const_env.specs.declared.fault.KindFault.TheVariants as fault
use Rattle.const_env.proofs.Capped.{capped_list, capped_thrice}
use Rattle.const_expr.proofs.Gens.{gen_is}
use Rattle.const_expr.proofs.Judged.{breaks_on}
use Rattle.const_expr.proofs.Weights.{size}

-- names inside generators of these names
abbrev pub inside : List Variable → Names → Names
inside ns names = record names { locals = map known_variable ns }

-- ---- names

pub named_more : (gs : List Gen) (n : ℕ) (d : Gen) (outer : List Variable) → n < length gs → named_by (take (n + 1) gs) outer ≡ counter_variable (name_of (get_or gs n d)) ∷ named_by (take n gs) outer
named_more gs n d outer h = ap (λ m. named_by (take m gs) outer) (add-one n) ∙ go gs n outer h
  where
    go : (xs : List Gen) (k : ℕ) (names : List Variable) → k < length xs → named_by (take (suc k) xs) names ≡ counter_variable (name_of (get_or xs k d)) ∷ named_by (take k xs) names
    go [] k names l = absurd (omega arith)
    go (x ∷ xs) zero names l = refl
    go (x ∷ xs) (suc k) names l = go xs k (counter_variable (name_of x) ∷ names) (omega arith)

pub counters_named : (gs : List Gen) (outer : List Variable) (names : Names) → with_counters (listed (map gen_tree gs)) (inside outer names) ≡ inside (named_by gs outer) names
counters_named [] outer names = refl
counters_named (g ∷ gs) outer names =
    ap (λ t. with_counters (tree.cons t (listed (map gen_tree gs))) (inside outer names)) (gen_is g)
    ∙ counters_named gs (counter_variable (name_of g) ∷ outer) names

-- ---- one generator

module _ (rest : Judged ℕ) where
  abbrev makes : Judged Shape → (Shape → Judged Shape) → Judged ℤ → Judged ℤ → Judged ℕ
  makes t c a b = and_so t (λ s. and_so (c s) (λ k. and_so a (λ low. and_so b (λ high. and_so rest (λ n. Fine (span low high * n))))))

  abbrev numbers : Judged Shape → (Shape → Judged Shape) → Judged ℤ → Judged ℤ → Judged ℕ
  numbers t c a b = and_so t (λ s. and_so (c s) (λ k. and_so a (λ low. and_so b (λ high. Fine (capped (span low high))))))

  so-many : (o : Judged ℕ) (s c k : ℕ) → capped s ≡ c → and_so (and_so o (λ n. Fine (s * n))) (λ n. Fine (capped (k * n))) ≡ and_so o (λ n. Fine (capped (capped (k * c) * n)))
  so-many (Fine n) s c k e = ap Fine (capped_thrice k s n ∙ ap (λ m. capped (capped (k * m) * n)) e)
  so-many (Broken rule at) s c k e = refl

  pub gen-makes : (t : Judged Shape) (c : Shape → Judged Shape) (a b : Judged ℤ) (m k : ℕ) → numbers t c a b ≡ Fine m
      → and_so (makes t c a b) (λ n. Fine (capped (k * n))) ≡ and_so rest (λ n. Fine (capped (capped (k * m) * n)))
  gen-makes (Broken rule at) c a b m k e = cc
  gen-makes (Fine s) c a b m k e = go (c s) a b e
    where
      go : (o : Judged Shape) (p q : Judged ℤ) → and_so o (λ k. and_so p (λ low. and_so q (λ high. Fine (capped (span low high))))) ≡ Fine m
          → and_so (and_so o (λ k. and_so p (λ low. and_so q (λ high. and_so rest (λ n. Fine (span low high * n)))))) (λ n. Fine (capped (k * n))) ≡ and_so rest (λ n. Fine (capped (capped (k * m) * n)))
      go (Broken rule at) p q f = cc
      go (Fine u) (Broken rule at) q f = cc
      go (Fine u) (Fine low) (Broken rule at) f = cc
      go (Fine u) (Fine low) (Fine high) f = let same : capped (span low high) ≡ m = cc in so-many rest (span low high) m k same

  pub gen-breaks : (t : Judged Shape) (c : Shape → Judged Shape) (a b : Judged ℤ) (rule : Rule) (at : ℕ) → numbers t c a b ≡ Broken rule at → makes t c a b ≡ Broken rule at
  gen-breaks (Broken rule at) c a b r l e = cc
  gen-breaks (Fine s) c a b r l e = go (c s) a b e
    where
      go : (o : Judged Shape) (p q : Judged ℤ) → and_so o (λ k. and_so p (λ low. and_so q (λ high. Fine (capped (span low high))))) ≡ Broken r l
          → and_so o (λ k. and_so p (λ low. and_so q (λ high. and_so rest (λ n. Fine (span low high * n))))) ≡ Broken r l
      go (Broken rule at) p q f = cc
      go (Fine u) (Broken rule at) q f = cc
      go (Fine u) (Fine low) (Broken rule at) f = cc
      go (Fine u) (Fine low) (Fine high) f = cc

-- ---- generators from a place on

abbrev pub elements_from : ℕ → List Gen → List Variable → Names → Judged ℕ
elements_from n gs outer names = elements_in (listed (map gen_tree (drop n gs))) (inside (named_by (take n gs) outer) names)

-- the type and the ends of a generator
abbrev shape_of : Gen → Names → Judged Shape
shape_of g names = type_judged (type_tree (out-Gen g).shape) names

abbrev counts_of : Gen → Shape → Judged Shape
counts_of g t = counts t (begins (type_tree (out-Gen g).shape))

abbrev low_of : Gen → Names → Judged ℤ
low_of g names = constant_number (kind (expr_tree (out-Gen g).from) names) (expr_tree (out-Gen g).from) names

abbrev high_of : Gen → Names → Judged ℤ
high_of g names = constant_number (kind (expr_tree (out-Gen g).to) names) (expr_tree (out-Gen g).to) names

-- one generator open
abbrev opened : Gen → Judged ℕ → Names → Judged ℕ
opened g rest names = makes rest (shape_of g names) (counts_of g) (low_of g names) (high_of g names)

elements-open : (gs : List Gen) (n : ℕ) (d : Gen) (outer : List Variable) (names : Names) → n < length gs
    → elements_from n gs outer names ≡ opened (get_or gs n d) (elements_from (n + 1) gs outer names) (inside (named_by (take n gs) outer) names)
elements-open gs n d outer names h =
    ap (λ xs. elements_in (listed (map gen_tree xs)) (inside (named_by (take n gs) outer) names)) (drop-cons gs n d h)
    ∙ ap (λ t. elements_in (tree.cons t (listed (map gen_tree (drop (suc n) gs)))) (inside (named_by (take n gs) outer) names)) (gen_is (get_or gs n d))
    ∙ ap (λ ns. opened (get_or gs n d) (elements_in (listed (map gen_tree (drop (suc n) gs))) (inside ns names)) (inside (named_by (take n gs) outer) names)) (sym (named_more gs n d outer h))
    ∙ ap (λ m. opened (get_or gs n d) (elements_in (listed (map gen_tree (drop m gs))) (inside (named_by (take (n + 1) gs) outer) names)) (inside (named_by (take n gs) outer) names)) (sym (add-one n))

-- its numbers
numbers-open : (g : Gen) (rest : Judged ℕ) (names : Names) → numbers_judged (gen_tree g) names
    ≡ numbers rest (shape_of g names) (counts_of g) (low_of g names) (high_of g names)
numbers-open g rest names = ap (λ t. numbers_judged t names) (gen_is g)

pub elements_next : (gs : List Gen) (n : ℕ) (d : Gen) (outer : List Variable) (names : Names) (m k new : ℕ) (whole : Judged ℕ) → n < length gs
    → numbers_judged (gen_tree (get_or gs n d)) (inside (named_by (take n gs) outer) names) ≡ Fine m → new ≡ capped (k * m)
    → and_so (elements_from n gs outer names) (λ s. Fine (capped (k * s))) ≡ whole → and_so (elements_from (n + 1) gs outer names) (λ s. Fine (capped (new * s))) ≡ whole
elements_next gs n d outer names m k new whole h e f g =
    ap (λ j. and_so (elements_from (n + 1) gs outer names) (λ s. Fine (capped (j * s)))) f
    ∙ sym (ap (λ o. and_so o (λ s. Fine (capped (k * s)))) (elements-open gs n d outer names h)
    ∙ gen-makes (elements_from (n + 1) gs outer names) (shape_of (get_or gs n d) (inside (named_by (take n gs) outer) names)) (counts_of (get_or gs n d)) (low_of (get_or gs n d) (inside (named_by (take n gs) outer) names)) (high_of (get_or gs n d) (inside (named_by (take n gs) outer) names)) m k (sym (numbers-open (get_or gs n d) (elements_from (n + 1) gs outer names) (inside (named_by (take n gs) outer) names)) ∙ e))
    ∙ g

elements-broken : (gs : List Gen) (n : ℕ) (d : Gen) (outer : List Variable) (names : Names) (f : KindFault) → n < length gs
    → Breaks f (numbers_judged (gen_tree (get_or gs n d)) (inside (named_by (take n gs) outer) names)) → Breaks f (elements_from n gs outer names)
elements-broken gs n d outer names (fault.Broken rule at) h b =
    elements-open gs n d outer names h
    ∙ gen-breaks (elements_from (n + 1) gs outer names) (shape_of (get_or gs n d) (inside (named_by (take n gs) outer) names)) (counts_of (get_or gs n d)) (low_of (get_or gs n d) (inside (named_by (take n gs) outer) names)) (high_of (get_or gs n d) (inside (named_by (take n gs) outer) names)) rule at (sym (numbers-open (get_or gs n d) (elements_from (n + 1) gs outer names) (inside (named_by (take n gs) outer) names)) ∙ b)
elements-broken gs n d outer names fault.Memory h b = tt

pub elements_break : (gs : List Gen) (n : ℕ) (d : Gen) (outer : List Variable) (names : Names) (k : ℕ) (whole : Judged ℕ) (f : KindFault) → n < length gs
    → Breaks f (numbers_judged (gen_tree (get_or gs n d)) (inside (named_by (take n gs) outer) names))
    → and_so (elements_from n gs outer names) (λ s. Fine (capped (k * s))) ≡ whole → Breaks f whole
elements_break gs n d outer names k whole f h b g = subst (λ o. Breaks f o) g (breaks_on f (elements_from n gs outer names) _ (elements-broken gs n d outer names f h b))

one-times : (n : ℕ) → 1 * n ≡ n
one-times n = omega arith

pub elements_start : (gs : List Gen) (outer : List Variable) (names : Names) → and_so (elements_from 0 gs outer names) (λ n. Fine (capped (1 * n))) ≡ and_so (elements_in (listed (map gen_tree gs)) (inside outer names)) (λ n. Fine (capped n))
elements_start gs outer names = go (elements_in (listed (map gen_tree gs)) (inside outer names))
  where
    go : (o : Judged ℕ) → and_so o (λ n. Fine (capped (1 * n))) ≡ and_so o (λ n. Fine (capped n))
    go (Fine n) = ap (λ m. Fine (capped m)) (one-times n)
    go (Broken rule at) = refl

-- if no generator is left, and the count is no more than one more than the limit
pub elements_done : (gs : List Gen) (n : ℕ) (outer : List Variable) (names : Names) (k : ℕ) (whole : Judged ℕ) → length gs ≤ n → capped k ≡ k
    → and_so (elements_from n gs outer names) (λ s. Fine (capped (k * s))) ≡ whole → whole ≡ Fine k
elements_done gs n outer names k whole h e g =
    let once : k * 1 ≡ k = omega arith in
    sym g ∙ ap (λ xs. and_so (elements_in (listed (map gen_tree xs)) (inside (named_by (take n gs) outer) names)) (λ s. Fine (capped (k * s)))) (drop_all n gs h)
    ∙ ap (λ m. Fine (capped m)) once ∙ ap Fine e

-- ---- comprehensions

pub comp_goes : (o : Judged ℕ) (m : ℕ) (k : Kind) (at : ℕ) → and_so o (λ n. Fine (capped n)) ≡ Fine m → and_so o (λ n. list_of_kind n k at) ≡ list_of_kind m k at
comp_goes (Fine n) m k at e = let same : capped n ≡ m = cc in sym (capped_list n k at) ∙ ap (λ j. list_of_kind j k at) same
comp_goes (Broken rule place) m k at e = cc

pub comp_breaks : (o : Judged ℕ) (f : KindFault) (k : Kind) (at : ℕ) → Breaks f (and_so o (λ n. Fine (capped n))) → Breaks f (and_so o (λ n. list_of_kind n k at))
comp_breaks (Fine n) (fault.Broken rule place) k at b = cc
comp_breaks (Broken r l) (fault.Broken rule place) k at b =
    let same : r ≡ rule = cc in
    let there : l ≡ place = cc in
    ap (λ x. Broken x l) same ∙ ap (λ x. Broken rule x) there
comp_breaks o fault.Memory k at b = tt

-- ---- sizes

pub gen_size : (gs : List Gen) (n : ℕ) (d : Gen) → n < length gs → size (gen_tree (get_or gs n d)) < size (listed (map gen_tree gs))
gen_size [] n d h = absurd (omega arith)
gen_size (g ∷ gs) zero d h = omega arith
gen_size (g ∷ gs) (suc n) d h = let l = gen_size gs n d (omega arith) in omega arith
