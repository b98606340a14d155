-- Ranks of names by an order: how many of some names stand before them.
use Rattle.std.proofs.Common.{◌≡◌, ℕ, suc, ◌+◌, ◌<◌, ◌≤◌, Bool, true, false, ◌||◌, List, [], ◌∷◌, ◌++◌, length, refl, sym, ap, subst, arith}
use Rattle.std.proofs.Math.Dec.{ltb}
use Rattle.std.proofs.lemmas.Bool.{lt-ltb, le-ltb}
use Rattle.std.proofs.lemmas.Bool.Decides.{Decides-ltb}
use Rattle.std.proofs.lemmas.Slice.Eq.{bytes_eq-Decides}
use Rattle.std.specs.Prelude.{if◌then◌else◌}
use Rattle.std.specs.Str.{bytes_eq}
use Rattle.cal_scope.specs.Names.{is_among}
use Rattle.cal_imports.specs.Behind.{IsOrderBehind, LeadAmong, edges_of}
use Rattle.cal_imports.specs.Walk.{Node, node_named}
use Rattle.law_sources.proofs.Counts.{at_most_one, count, one}
use Rattle.law_sources.proofs.Walks.{leads_before}

-- ---- places in an order

-- how many stand before the first of a name
abbrev pub place : List ℕ → List (List ℕ) → ℕ
place x [] = 0
place x (y ∷ ys) = if bytes_eq x y then 0 else suc (place x ys)

-- .. and which
abbrev pub up_to : List ℕ → List (List ℕ) → List (List ℕ)
up_to x [] = []
up_to x (y ∷ ys) = if bytes_eq x y then [] else y ∷ up_to x ys

pub placed_before : (x y : List ℕ) (order : List (List ℕ)) → is_among y (up_to x order) ≡ true → place y order < place x order
placed_before x y [] h = absurd cc
placed_before x y (z ∷ order) h = go (bytes_eq x z) h (placed_before x y order)
  where
    inner : (c : Bool) → (c || is_among y (up_to x order)) ≡ true → (is_among y (up_to x order) ≡ true → place y order < place x order)
        → (if c then 0 else suc (place y order)) < suc (place x order)
    inner true i rest = omega arith
    inner false i rest = let r = rest i in omega arith

    go : (b : Bool) → is_among y (if b then [] else z ∷ up_to x order) ≡ true → (is_among y (up_to x order) ≡ true → place y order < place x order)
        → (if bytes_eq y z then 0 else suc (place y order)) < (if b then 0 else suc (place x order))
    go true i rest = absurd cc
    go false i rest = inner (bytes_eq y z) i rest

pub among_whole : (x y : List ℕ) (order : List (List ℕ)) → is_among y (up_to x order) ≡ true → is_among y order ≡ true
among_whole x y [] h = absurd cc
among_whole x y (z ∷ order) h = go (bytes_eq x z) h (among_whole x y order)
  where
    inner : (c : Bool) → (c || is_among y (up_to x order)) ≡ true → (is_among y (up_to x order) ≡ true → is_among y order ≡ true) → (c || is_among y order) ≡ true
    inner true i rest = refl
    inner false i rest = rest i

    go : (b : Bool) → is_among y (if b then [] else z ∷ up_to x order) ≡ true → (is_among y (up_to x order) ≡ true → is_among y order ≡ true)
        → (bytes_eq y z || is_among y order) ≡ true
    go true i rest = absurd cc
    go false i rest = inner (bytes_eq y z) i rest

-- a node of an order leads to those before it
leads_behind : (nodes : List Node) (before order : List (List ℕ)) (x : List ℕ) → IsOrderBehind nodes before order → is_among x order ≡ true
    → LeadAmong (edges_of (node_named x nodes)) (before ++ up_to x order)
leads_behind nodes before [] x h e = absurd cc
leads_behind nodes before (y ∷ order) x h e = go (bytes_eq x y) (bytes_eq-Decides x y).0 e (leads_behind nodes (before ++ y ∷ []) order x h.1)
  where
    moved : (xs ys : List (List ℕ)) → (xs ++ y ∷ []) ++ ys ≡ xs ++ y ∷ ys
    moved [] ys = refl
    moved (z ∷ xs) ys = ap (λ zs. z ∷ zs) (moved xs ys)

    go : (b : Bool) → (b ≡ true → x ≡ y) → (b || is_among x order) ≡ true
        → (is_among x order ≡ true → LeadAmong (edges_of (node_named x nodes)) ((before ++ y ∷ []) ++ up_to x order))
        → LeadAmong (edges_of (node_named x nodes)) (before ++ (if b then [] else y ∷ up_to x order))
    go true same i rest = leads_before (edges_of (node_named x nodes)) before [] (subst (λ z. LeadAmong (edges_of (node_named z nodes)) before) (sym (same refl)) h.0)
    go false same i rest = subst (LeadAmong (edges_of (node_named x nodes))) (moved before (up_to x order)) (rest i)

pub leads_up_to : (nodes : List Node) (order : List (List ℕ)) (x : List ℕ) → IsOrderBehind nodes [] order → is_among x order ≡ true
    → LeadAmong (edges_of (node_named x nodes)) (up_to x order)
leads_up_to nodes order x h e = leads_behind nodes [] order x h e

-- ---- ranks

-- how many of these names stand before a place
abbrev below : (names order : List (List ℕ)) → ℕ → ℕ
below [] order k = 0
below (n ∷ names) order k = one (ltb (place n order) k) + below names order k

abbrev pub rank : (names order : List (List ℕ)) → List ℕ → ℕ
rank names order x = below names order (place x order)

one_less : (n k l : ℕ) → k ≤ l → one (ltb n k) ≤ one (ltb n l)
one_less n k l h = go (ltb n k) (Decides-ltb n k).0
  where
    go : (b : Bool) → (b ≡ true → n < k) → one b ≤ one (ltb n l)
    go true is = let e : one (ltb n l) ≡ 1 = ap one (lt-ltb n l (let i = is refl in omega arith)) in omega arith
    go false is = omega arith

below_fewer : (names order : List (List ℕ)) (k l : ℕ) → k ≤ l → below names order k ≤ below names order l
below_fewer [] order k l h = omega arith
below_fewer (n ∷ names) order k l h =
    let a = one_less (place n order) k l h in
    let b = below_fewer names order k l h in
    omega arith

-- one of the names stands between
below_less : (names order : List (List ℕ)) (x : List ℕ) (l : ℕ) → 1 ≤ count x names → place x order < l → below names order (place x order) < below names order l
below_less [] order x l c h = absurd (omega arith)
below_less (n ∷ names) order x l c h = go (bytes_eq x n) (bytes_eq-Decides x n).0 c (λ d. below_less names order x l d h)
  where
    it : x ≡ n → one (ltb (place n order) (place x order)) + below names order (place x order) < one (ltb (place n order) l) + below names order l
    it same =
        let k = place x order in
        let here : place n order ≡ k = ap (λ z. place z order) (sym same) in
        let a : one (ltb (place n order) k) ≡ 0 = ap one (le-ltb (place n order) k (omega arith)) in
        let b : one (ltb (place n order) l) ≡ 1 = ap one (lt-ltb (place n order) l (omega arith)) in
        let d = below_fewer names order k l (omega arith) in
        omega arith

    go : (b : Bool) → (b ≡ true → x ≡ n) → 1 ≤ one b + count x names → (1 ≤ count x names → below names order (place x order) < below names order l)
        → one (ltb (place n order) (place x order)) + below names order (place x order) < one (ltb (place n order) l) + below names order l
    go true same d rest = it (same refl)
    go false same d rest =
        let a = rest (omega arith) in
        let b = one_less (place n order) (place x order) l (omega arith) in
        omega arith

below_all : (names order : List (List ℕ)) (k : ℕ) → below names order k ≤ length names
below_all [] order k = omega arith
below_all (n ∷ names) order k = let a = below_all names order k in let b = at_most_one (ltb (place n order) k) in omega arith

pub rank_in_range : (names order : List (List ℕ)) (x : List ℕ) → 1 ≤ count x names → rank names order x < length names
rank_in_range names order x c =
    let top = suc (place x order) in
    let a = below_less names order x top c (omega arith) in
    let b = below_all names order top in
    omega arith

pub rank_less : (names order : List (List ℕ)) (x y : List ℕ) → 1 ≤ count y names → is_among y (up_to x order) ≡ true → rank names order y < rank names order x
rank_less names order x y c h = below_less names order y (place x order) c (placed_before x y order h)
