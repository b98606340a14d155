-- Nodes by their names, and what an order says of them.
use Rattle.std.proofs.Common.{◌≡◌, ℕ, Bool, true, false, ◌||◌, List, [], ◌∷◌, ◌++◌, refl, sym, ap, subst, ◌∙◌}
use Rattle.std.proofs.lemmas.Slice.Eq.{bytes_eq-Decides}
use Rattle.std.specs.Prelude.{Option, None, Some, is_some, if◌then◌else◌}
use Rattle.std.specs.Str.{bytes_eq}
use Rattle.cal_model.specs.Sound.{Each}
use Rattle.cal_scope.specs.Names.{is_among}
use Rattle.cal_imports.specs.Behind.{IsOrderBehind, LeadAmong, edges_of}
use Rattle.cal_imports.specs.Walk.{Node, node_named, with_node}
use Rattle.law_sources.proofs.Walks.{leads_before}

-- ---- nodes that are added, unless one of their name is there

abbrev pub added : List Node → List Node → List Node
added [] ns = ns
added (n ∷ more) ns = added more (with_node n ns)

abbrev pub first : Option Node → Option Node → Option Node
first None other = other
first (Some n) other = Some n

pub find_append : (x : List ℕ) (xs ys : List Node) → node_named x (xs ++ ys) ≡ first (node_named x xs) (node_named x ys)
find_append x [] ys = refl
find_append x (n ∷ xs) ys = go (bytes_eq x n.name) (find_append x xs ys)
  where
    go : (b : Bool) → node_named x (xs ++ ys) ≡ first (node_named x xs) (node_named x ys)
        → (if b then Some n else node_named x (xs ++ ys)) ≡ first (if b then Some n else node_named x xs) (node_named x ys)
    go true rest = refl
    go false rest = rest

find_with : (x : List ℕ) (n : Node) (ns : List Node) → node_named x (with_node n ns) ≡ first (node_named x ns) (node_named x (n ∷ []))
find_with x n ns = choose (is_some (node_named n.name ns)) refl
  where
    none_more : (o : Option Node) → o ≡ first o None
    none_more None = refl
    none_more (Some m) = refl

    there : (o : Option Node) → is_some o ≡ true → o ≡ first o (Some n)
    there None e = absurd cc
    there (Some m) e = refl

    same : (b : Bool) → (b ≡ true → x ≡ n.name) → is_some (node_named n.name ns) ≡ true → node_named x ns ≡ first (node_named x ns) (if b then Some n else None)
    same true is e = there (node_named x ns) (subst (λ z. is_some (node_named z ns) ≡ true) (sym (is refl)) e)
    same false is e = none_more (node_named x ns)

    choose : (b : Bool) → is_some (node_named n.name ns) ≡ b → node_named x (if b then ns else ns ++ n ∷ []) ≡ first (node_named x ns) (node_named x (n ∷ []))
    choose true e = same (bytes_eq x n.name) (bytes_eq-Decides x n.name).0 e
    choose false e = find_append x ns (n ∷ [])

-- the first of a name is the same
pub find_added : (x : List ℕ) (more ns : List Node) → node_named x (added more ns) ≡ node_named x (ns ++ more)
find_added x [] ns = ap (node_named x) (sym (no_more ns))
  where
    no_more : (xs : List Node) → xs ++ [] ≡ xs
    no_more [] = refl
    no_more (y ∷ xs) = ap (λ ys. y ∷ ys) (no_more xs)
find_added x (n ∷ more) ns =
    find_added x more (with_node n ns) ∙ find_append x (with_node n ns) more ∙ ap (λ o. first o (node_named x more)) (find_with x n ns)
    ∙ ap (λ o. first o (node_named x more)) (sym (find_append x ns (n ∷ []))) ∙ sym (find_append x (ns ++ n ∷ []) more) ∙ ap (node_named x) (moved ns)
  where
    moved : (xs : List Node) → (xs ++ n ∷ []) ++ more ≡ xs ++ n ∷ more
    moved [] = refl
    moved (y ∷ xs) = ap (λ ys. y ∷ ys) (moved xs)

-- ---- orders

-- each of an order leads to others of it
pub order_leads : (nodes : List Node) (before order : List (List ℕ)) → IsOrderBehind nodes before order
    → Each (λ x. LeadAmong (edges_of (node_named x nodes)) (before ++ order)) order
order_leads nodes before [] h = tt
order_leads nodes before (x ∷ order) h = (
  leads_before (edges_of (node_named x nodes)) before (x ∷ order) h.0,
  subst (λ whole. Each (λ y. LeadAmong (edges_of (node_named y nodes)) whole) order) (moved before) (order_leads nodes (before ++ x ∷ []) order h.1),
)
  where
    moved : (xs : List (List ℕ)) → (xs ++ x ∷ []) ++ order ≡ xs ++ x ∷ order
    moved [] = refl
    moved (y ∷ xs) = ap (λ ys. y ∷ ys) (moved xs)

-- what holds of each of some names holds of one among them
pub each_among : (P : List ℕ → Type 0) (xs : List (List ℕ)) (x : List ℕ) → Each P xs → is_among x xs ≡ true → P x
each_among P [] x h e = absurd cc
each_among P (y ∷ xs) x h e = go (bytes_eq x y) (bytes_eq-Decides x y).0 e (each_among P xs x h.1)
  where
    go : (b : Bool) → (b ≡ true → x ≡ y) → (b || is_among x xs) ≡ true → (is_among x xs ≡ true → P x) → P x
    go true same i rest = subst P (sym (same refl)) h.0
    go false same i rest = rest i

pub each_both : {A : Type 0} (P R S : A → Type 0) (xs : List A) → ((x : A) → P x → R x → S x) → Each P xs → Each R xs → Each S xs
each_both P R S [] f h k = tt
each_both P R S (x ∷ xs) f h k = (f x h.0 k.0, each_both P R S xs f h.1 k.1)
