-- Links that chains join are one list, whatever their number.
use Rattle.std.proofs.Common.{◌≡◌, inl, inr, ℕ, zero, suc, ◌<◌, List, [], ◌∷◌, length, refl, sym, ap, ◌∙◌, subst, arith}
use Rattle.std.specs.Prelude.{Some, slice_get, slice_index_or, Contains}
use Rattle.net_model.specs.declared.wiring.End.{End}
use Rattle.net_model.specs.declared.wiring.End.TheVariants.{Leaf as AtLeaf, Net as AtNet}
use Rattle.net_model.specs.declared.wiring.Link.{Link}
use Rattle.net_model.specs.Wired.{IsBefore}
use Rattle.fnl_tree.specs.Tree.{Tree}
use Rattle.fnl_flatten.specs.Head.{Head}
use Rattle.fnl_flatten.specs.Links.{AreJoined, AreLinks}

-- ---- the order

before_itself : (e : End) → IsBefore e e → ⊥
before_itself (AtLeaf inst port) (inl less) = omega (arith, less)
before_itself (AtLeaf inst port) (inr both) = omega (arith, both.1)
before_itself (AtNet port) less = omega (arith, less)

both_before : (d e : End) → IsBefore d e → IsBefore e d → ⊥
both_before (AtLeaf inst port) (AtLeaf other next) (inl less) (inl more) = omega (arith, less, more)
both_before (AtLeaf inst port) (AtLeaf other next) (inl less) (inr more) = omega (arith, less, more.0)
both_before (AtLeaf inst port) (AtLeaf other next) (inr less) (inl more) = omega (arith, less.0, more)
both_before (AtLeaf inst port) (AtLeaf other next) (inr less) (inr more) = omega (arith, less.1, more.1)
both_before (AtLeaf inst port) (AtNet next) less more = more
both_before (AtNet port) (AtLeaf other next) less more = less
both_before (AtNet port) (AtNet next) less more = omega (arith, less, more)

-- ---- places of links

abbrev Among : List Link → Link → Type 0
Among links x = (k : ℕ) × (slice_get links k ≡ Some x)

found_at : (links : List Link) (k : ℕ) (x : Link) → k < length links → slice_index_or links k x ≡ x → slice_get links k ≡ Some x
found_at [] k x less is = absurd (omega (arith, less))
found_at (y ∷ links) zero x less is = ap (λ z. Some z) is
found_at (y ∷ links) (suc k) x less is = found_at links k x (omega (arith, less)) is

among : (links : List Link) (x : Link) → Contains links x → Among links x
among links x has = (has.0, found_at links has.0 x has.1 has.2)

-- each leads before those behind it
abbrev AreInOrder : List Link → Type 0
AreInOrder links = (l m : ℕ) (x y : Link) → l < m → slice_get links l ≡ Some x → slice_get links m ≡ Some y → IsBefore x.to y.to

abbrev AreAmong : List Link → List Link → Type 0
AreAmong links others = (x : Link) → Among links x → Among others x

behind : (x : Link) (links : List Link) → AreInOrder (x ∷ links) → AreInOrder links
behind x links ordered l m a b less at other = ordered (suc l) (suc m) a b (omega (arith, less)) at other

-- the first of one list is the first of the other
first_is : (x y : Link) (xs ys : List Link) → AreInOrder (x ∷ xs) → AreInOrder (y ∷ ys)
    → Among (y ∷ ys) x → Among (x ∷ xs) y → x ≡ y
first_is x y xs ys ordered sorted (zero, at) found = let same : y ≡ x = cc in sym same
first_is x y xs ys ordered sorted (suc k, at) (zero, here) = let same : x ≡ y = cc in same
first_is x y xs ys ordered sorted (suc k, at) (suc m, here) =
    absurd (both_before x.to y.to (ordered 0 (suc m) x y (omega arith) refl here) (sorted 0 (suc k) y x (omega arith) refl at))

rest_among : (x : Link) (xs ys : List Link) → AreInOrder (x ∷ xs) → AreAmong (x ∷ xs) (x ∷ ys) → AreAmong xs ys
rest_among x xs ys ordered all z found = go (all z (suc found.0, found.1))
  where
    go : Among (x ∷ ys) z → Among ys z
    go (suc k, at) = (k, at)
    go (zero, at) =
        let same : x ≡ z = cc in
        absurd (before_itself x.to (subst (λ y. IsBefore x.to y.to) (sym same) (ordered 0 (suc found.0) x z (omega arith) refl found.1)))

one_list : (xs ys : List Link) → AreInOrder xs → AreInOrder ys → AreAmong xs ys → AreAmong ys xs → xs ≡ ys
one_list [] [] ordered sorted there back = refl
one_list [] (y ∷ ys) ordered sorted there back = let none = back y (0, refl) in cc
one_list (x ∷ xs) [] ordered sorted there back = let none = there x (0, refl) in cc
one_list (x ∷ xs) (y ∷ ys) ordered sorted there back =
    let same : x ≡ y = first_is x y xs ys ordered sorted (there x (0, refl)) (back y (0, refl)) in
    let sorted_x : AreInOrder (x ∷ ys) = subst (λ z. AreInOrder (z ∷ ys)) (sym same) sorted in
    let there_x : AreAmong (x ∷ xs) (x ∷ ys) = subst (λ z. AreAmong (x ∷ xs) (z ∷ ys)) (sym same) there in
    let back_x : AreAmong (x ∷ ys) (x ∷ xs) = subst (λ z. AreAmong (z ∷ ys) (x ∷ xs)) (sym same) back in
    ap (λ zs. x ∷ zs) (one_list xs ys (behind x xs ordered) (behind x ys sorted_x)
    (rest_among x xs ys ordered there_x) (rest_among x ys xs sorted_x back_x))
    ∙ ap (λ z. z ∷ ys) same

-- ---- the links of a tree

pub joined_are_links : (tree : Tree) (heads : List Head) (links others : List Link) → AreJoined tree heads links → AreLinks tree heads others
    → links ≡ others
joined_are_links tree heads links others one other =
    one_list links others one.in_order other.in_order
    (λ x found. among others x (other.all x (one.each found.0 x found.1)))
    (λ x found. among links x (one.all x (other.each found.0 x found.1)))
