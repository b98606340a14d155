-- Parts that are counted once stand in one place.
use Rattle.std.proofs.Common.{◌≡◌, ℕ, zero, suc, ◌+◌, ◌<◌, ◌≤◌, Bool, true, false, List, [], ◌∷◌, length, None, Some, ◌⊎◌, inl, inr, refl, sym, ap, subst, ◌∙◌, arith}
use Rattle.std.specs.Prelude.{slice_get, ◌==◌, if◌then◌else◌}
use Rattle.std.proofs.lemmas.Bool.Decides.{Decides-eqb}
use Rattle.fnl_tree.specs.Tree.{Inner, InnerNet, InnerLeaf, Part, Net as BoundNet, Tree as BoundTree}
use Rattle.fnl_tree.specs.Sound as tree
use Rattle.fnl_tree.specs.Sound.{IsPart, StandsSomewhere}
use Rattle.fnl_bind.specs.Sound.{if_same, once_from, if_net, if_leaf, net_parts, leaf_parts, net_count, leaf_count, IsBehind, AreBehind, LeadDown, StandsOnce}

-- ---- how many parts are counted, by any count of one part

abbrev tally : (Inner → ℕ) → List Part → ℕ
tally c [] = 0
tally c (p ∷ ps) = c p.inner + tally c ps

abbrev tallies : (Inner → ℕ) → List BoundNet → ℕ
tallies c [] = 0
tallies c (n ∷ ns) = tally c n.parts + tallies c ns

net_tally : (m : ℕ) (ps : List Part) → net_parts m ps ≡ tally (if_net m) ps
net_tally m [] = refl
net_tally m (p ∷ ps) = ap (λ k. if_net m p.inner + k) (net_tally m ps)

leaf_tally : (m : ℕ) (ps : List Part) → leaf_parts m ps ≡ tally (if_leaf m) ps
leaf_tally m [] = refl
leaf_tally m (p ∷ ps) = ap (λ k. if_leaf m p.inner + k) (leaf_tally m ps)

net_tallies : (m : ℕ) (ns : List BoundNet) → net_count m ns ≡ tallies (if_net m) ns
net_tallies m [] = refl
net_tallies m (n ∷ ns) = ap (λ k. k + net_count m ns) (net_tally m n.parts) ∙ ap (λ k. tally (if_net m) n.parts + k) (net_tallies m ns)

leaf_tallies : (m : ℕ) (ns : List BoundNet) → leaf_count m ns ≡ tallies (if_leaf m) ns
leaf_tallies m [] = refl
leaf_tallies m (n ∷ ns) = ap (λ k. k + leaf_count m ns) (leaf_tally m n.parts) ∙ ap (λ k. tally (if_leaf m) n.parts + k) (leaf_tallies m ns)

-- ---- what stands at a place is counted

pub some_same : {A : Type 0} (x y : A) → Some x ≡ Some y → x ≡ y
some_same x y h = cc

pub none_here : {A B : Type 0} (x : A) → None ≡ Some x → B
none_here x h = absurd (cc)

part_counted : (c : Inner → ℕ) (ps : List Part) (j : ℕ) (p : Part) → slice_get ps j ≡ Some p → c p.inner ≤ tally c ps
part_counted c [] j p h = none_here p h
part_counted c (x ∷ ps) zero p h = let e : c x.inner ≡ c p.inner = ap (λ y. c y.inner) (some_same x p h) in omega (arith, e)
part_counted c (x ∷ ps) (suc j) p h = let l = part_counted c ps j p h in omega (arith, l)

net_counted : (c : Inner → ℕ) (ns : List BoundNet) (n : ℕ) (net : BoundNet) → slice_get ns n ≡ Some net → tally c net.parts ≤ tallies c ns
net_counted c [] n net h = none_here net h
net_counted c (x ∷ ns) zero net h = let e : tally c x.parts ≡ tally c net.parts = ap (λ y. tally c y.parts) (some_same x net h) in omega (arith, e)
net_counted c (x ∷ ns) (suc n) net h = let l = net_counted c ns n net h in omega (arith, l)

two_parts : (c : Inner → ℕ) (ps : List Part) (j k : ℕ) (p q : Part) → j < k → slice_get ps j ≡ Some p → slice_get ps k ≡ Some q → c p.inner + c q.inner ≤ tally c ps
two_parts c [] j k p q l h i = none_here p h
two_parts c (x ∷ ps) j zero p q l h i = absurd (omega (arith, l))
two_parts c (x ∷ ps) zero (suc k) p q l h i =
    let e : c x.inner ≡ c p.inner = ap (λ y. c y.inner) (some_same x p h) in
    let r = part_counted c ps k q i in
    omega (arith, e, r)
two_parts c (x ∷ ps) (suc j) (suc k) p q l h i = let r = two_parts c ps j k p q (omega (arith, l)) h i in omega (arith, r)

two_nets : (c : Inner → ℕ) (ns : List BoundNet) (n m : ℕ) (x y : BoundNet) → n < m → slice_get ns n ≡ Some x → slice_get ns m ≡ Some y → tally c x.parts + tally c y.parts ≤ tallies c ns
two_nets c [] n m x y l h i = none_here x h
two_nets c (z ∷ ns) n zero x y l h i = absurd (omega (arith, l))
two_nets c (z ∷ ns) zero (suc m) x y l h i =
    let e : tally c z.parts ≡ tally c x.parts = ap (λ v. tally c v.parts) (some_same z x h) in
    let r = net_counted c ns m y i in
    omega (arith, e, r)
two_nets c (z ∷ ns) (suc n) (suc m) x y l h i = let r = two_nets c ns n m x y (omega (arith, l)) h i in omega (arith, r)

-- ---- what is counted stands at a place

counted_part : (c : Inner → ℕ) (ps : List Part) → 0 < tally c ps → (j : ℕ) × (p : Part) × (slice_get ps j ≡ Some p) × (0 < c p.inner)
counted_part c [] h = absurd (omega (arith, h))
counted_part c (x ∷ ps) h = go (c x.inner) refl (λ l. counted_part c ps l)
  where
    go : (k : ℕ) → c x.inner ≡ k → (0 < tally c ps → (j : ℕ) × (p : Part) × (slice_get ps j ≡ Some p) × (0 < c p.inner))
        → (j : ℕ) × (p : Part) × (slice_get (x ∷ ps) j ≡ Some p) × (0 < c p.inner)
    go zero e f = let r = f (omega (arith, h, e)) in (suc r.0, r.1, r.2, r.3)
    go (suc k) e f = (0, x, refl, omega (arith, e))

counted_net : (c : Inner → ℕ) (ns : List BoundNet) → 0 < tallies c ns → (n : ℕ) × (net : BoundNet) × (slice_get ns n ≡ Some net) × (0 < tally c net.parts)
counted_net c [] h = absurd (omega (arith, h))
counted_net c (x ∷ ns) h = go (tally c x.parts) refl (λ l. counted_net c ns l)
  where
    go : (k : ℕ) → tally c x.parts ≡ k → (0 < tallies c ns → (n : ℕ) × (net : BoundNet) × (slice_get ns n ≡ Some net) × (0 < tally c net.parts))
        → (n : ℕ) × (net : BoundNet) × (slice_get (x ∷ ns) n ≡ Some net) × (0 < tally c net.parts)
    go zero e f = let r = f (omega (arith, h, e)) in (suc r.0, r.1, r.2, r.3)
    go (suc k) e f = (0, x, refl, omega (arith, e))

-- ---- numbers in a row

abbrev one_or_none : Bool → ℕ
one_or_none b = if b then 1 else 0

one_if : (b : Bool) → b ≡ true → one_or_none b ≡ 1
one_if true h = refl
one_if false h = absurd (cc)

true_if : (b : Bool) → 0 < one_or_none b → b ≡ true
true_if true h = refl
true_if false h = absurd (omega (arith, h))

few_if : (b : Bool) → one_or_none b ≤ 1
few_if true = omega arith
few_if false = omega arith

same_counts : (n : ℕ) → if_same n n ≡ 1
same_counts n = one_if (n == n) ((Decides-eqb n n).1 refl)

counts_same : (n m : ℕ) → 0 < if_same n m → n ≡ m
counts_same n m h = (Decides-eqb n m).0 (true_if (n == m) h)

few_same : (n m : ℕ) → if_same n m ≤ 1
few_same n m = few_if (n == m)

none_if : (k : ℕ) → (0 < k → ⊥) → k ≡ 0
none_if zero f = refl
none_if (suc k) f = absurd (f (omega arith))

differ : (n m : ℕ) → n < m → if_same n m ≡ 0
differ n m l = none_if (if_same n m) (λ h. let s : n ≡ m = counts_same n m h in absurd (omega (arith, l, s)))

differ_above : (n m : ℕ) → m < n → if_same n m ≡ 0
differ_above n m l = none_if (if_same n m) (λ h. let s : n ≡ m = counts_same n m h in absurd (omega (arith, l, s)))

-- m is one of n numbers from k on
before_row : (k n m : ℕ) → m < k → once_from k n m ≡ 0
before_row k zero m l = refl
before_row k (suc n) m l =
    let r = before_row (suc k) n m (omega (arith, l)) in
    let d = differ_above k m l in
    omega (arith, r, d)

order : (k m : ℕ) → k ≤ m → (k < m) ⊎ (k ≡ m)
order zero zero h = inr refl
order zero (suc m) h = inl (omega arith)
order (suc k) zero h = absurd (omega (arith, h))
order (suc k) (suc m) h = more (order k m (omega (arith, h)))
  where
    more : (k < m) ⊎ (k ≡ m) → (suc k < suc m) ⊎ (suc k ≡ suc m)
    more (inl l) = inl (omega (arith, l))
    more (inr e) = inr (ap suc e)

in_row : (k n m : ℕ) → k ≤ m → m < k + n → once_from k n m ≡ 1
in_row k zero m h l = absurd (omega (arith, h, l))
in_row k (suc n) m h l = go (order k m h) (λ b. in_row (suc k) n m b (omega (arith, l)))
  where
    go : (k < m) ⊎ (k ≡ m) → (suc k ≤ m → once_from (suc k) n m ≡ 1) → once_from k (suc n) m ≡ 1
    go (inl below) f =
        let r = f (omega (arith, below)) in
        let d = differ k m below in
        omega (arith, r, d)
    go (inr same) f =
        let r = before_row (suc k) n m (omega (arith, same)) in
        let d : if_same k m ≡ 1 = subst (λ x. if_same k x ≡ 1) same (same_counts k) in
        omega (arith, r, d)

row_in : (k n m : ℕ) → 0 < once_from k n m → m < k + n
row_in k zero m h = absurd (omega (arith, h))
row_in k (suc n) m h = go (if_same k m) refl (λ l. row_in (suc k) n m l)
  where
    go : (i : ℕ) → if_same k m ≡ i → (0 < once_from (suc k) n m → m < suc k + n) → m < k + suc n
    go zero e f = let r = f (omega (arith, h, e)) in omega (arith, r)
    go (suc i) e f = let s : k ≡ m = counts_same k m (omega (arith, e)) in omega (arith, s)

row_once : (k n m : ℕ) → once_from k n m ≤ 1
row_once k zero m = omega arith
row_once k (suc n) m = go (if_same k m) refl (row_once (suc k) n m)
  where
    go : (i : ℕ) → if_same k m ≡ i → once_from (suc k) n m ≤ 1 → once_from k (suc n) m ≤ 1
    go zero e r = omega (arith, r, e)
    go (suc i) e r =
        let s : k ≡ m = counts_same k m (omega (arith, e)) in
        let d : if_same k m ≡ 1 = subst (λ x. if_same k x ≡ 1) s (same_counts k) in
        let z = before_row (suc k) n m (omega (arith, s)) in
        omega (arith, z, d)

-- ---- what stands behind

behind_at : (k : ℕ) (ps : List Part) (j : ℕ) (p : Part) → AreBehind k ps → slice_get ps j ≡ Some p → IsBehind k p.inner
behind_at k [] j p h i = none_here p i
behind_at k (x ∷ ps) zero p h i = subst (λ y. IsBehind k y.inner) (some_same x p i) h.0
behind_at k (x ∷ ps) (suc j) p h i = behind_at k ps j p h.1 i

down_at : (k : ℕ) (ns : List BoundNet) (n : ℕ) (net : BoundNet) → LeadDown k ns → slice_get ns n ≡ Some net → AreBehind (k + n) net.parts
down_at k [] n net h i = none_here net i
down_at k (x ∷ ns) zero net h i = subst (λ j. AreBehind j net.parts) (omega arith) (subst (λ y. AreBehind k y.parts) (some_same x net i) h.0)
down_at k (x ∷ ns) (suc n) net h i = subst (λ j. AreBehind j net.parts) (omega arith) (down_at (suc k) ns n net h.1 i)

is_net : (m : ℕ) (inner : Inner) → 0 < if_net m inner → inner ≡ InnerNet m
is_net m (InnerNet n) h = ap InnerNet (counts_same n m h)
is_net m (InnerLeaf l) h = absurd (omega (arith, h))

is_leaf : (m : ℕ) (inner : Inner) → 0 < if_leaf m inner → inner ≡ InnerLeaf m
is_leaf m (InnerNet n) h = absurd (omega (arith, h))
is_leaf m (InnerLeaf l) h = ap InnerLeaf (counts_same l m h)

counts_net : (m : ℕ) (inner : Inner) → inner ≡ InnerNet m → if_net m inner ≡ 1
counts_net m inner e = ap (if_net m) e ∙ same_counts m

counts_leaf : (m : ℕ) (inner : Inner) → inner ≡ InnerLeaf m → if_leaf m inner ≡ 1
counts_leaf m inner e = ap (if_leaf m) e ∙ same_counts m

-- ---- a tree that is counted once

few_nets : (t : BoundTree) → StandsOnce t → (m : ℕ) → tallies (if_net m) t.nets ≤ 1
few_nets t h m =
    let e = h.nets m in
    let r = row_once 0 (length t.nets) m in
    let s = net_tallies m t.nets in
    omega (arith, e, r, s)

few_leaves : (t : BoundTree) → StandsOnce t → (m : ℕ) → tallies (if_leaf m) t.nets ≤ 1
few_leaves t h m =
    let e = h.leaves m in
    let r = row_once 0 (length t.leaves) m in
    let s = leaf_tallies m t.nets in
    omega (arith, e, r, s)

-- a part is counted
part_tallied : (t : BoundTree) (c : Inner → ℕ) (n j : ℕ) (p : Part) → IsPart t n j p → c p.inner ≤ tallies c t.nets
part_tallied t c n j p at =
    let one = part_counted c at.net.parts j p at.is_part in
    let all = net_counted c t.nets n at.net at.is_net in
    omega (arith, one, all)

within : (n m : ℕ) → 0 < once_from 0 n m → m < n
within n m h = let r = row_in 0 n m h in omega (arith, r)

pub behind : (t : BoundTree) → StandsOnce t → (n j : ℕ) (p : Part) → IsPart t n j p → tree.IsBehind t n p.inner
behind t h n j p at = go p.inner refl
  where
    go : (inner : Inner) → p.inner ≡ inner → tree.IsBehind t n inner
    go (InnerNet m) e =
        let count = part_tallied t (if_net m) n j p at in
        let one = counts_net m p.inner e in
        let all = h.nets m in
        let same = net_tallies m t.nets in
        let below : IsBehind n p.inner = behind_at n at.net.parts j p (subst (λ k. AreBehind k at.net.parts) (omega arith) (down_at 0 t.nets n at.net h.down at.is_net)) at.is_part in
        (subst (λ x. IsBehind n x) e below, within (length t.nets) m (omega (arith, count, one, all, same)))
    go (InnerLeaf l) e =
        let count = part_tallied t (if_leaf l) n j p at in
        let one = counts_leaf l p.inner e in
        let all = h.leaves l in
        let same = leaf_tallies l t.nets in
        within (length t.leaves) l (omega (arith, count, one, all, same))

either : (a b : ℕ) → (a < b) ⊎ ((b < a) ⊎ (a ≡ b))
either zero zero = inr (inr refl)
either zero (suc b) = inl (omega arith)
either (suc a) zero = inr (inl (omega arith))
either (suc a) (suc b) = more (either a b)
  where
    more : (a < b) ⊎ ((b < a) ⊎ (a ≡ b)) → (suc a < suc b) ⊎ ((suc b < suc a) ⊎ (suc a ≡ suc b))
    more (inl l) = inl (omega (arith, l))
    more (inr (inl l)) = inr (inl (omega (arith, l)))
    more (inr (inr e)) = inr (inr (ap suc e))

-- what is counted once stands at one place
one_place : (t : BoundTree) (c : Inner → ℕ) → tallies c t.nets ≤ 1 → (n m j k : ℕ) (p q : Part) → IsPart t n j p → IsPart t m k q
    → c p.inner ≡ 1 → c q.inner ≡ 1 → (n ≡ m) × (j ≡ k)
one_place t c few n m j k p q at there one other = nets (either n m)
  where
    nets : (n < m) ⊎ ((m < n) ⊎ (n ≡ m)) → (n ≡ m) × (j ≡ k)
    nets (inl l) =
        let two = two_nets c t.nets n m at.net there.net l at.is_net there.is_net in
        let x = part_counted c at.net.parts j p at.is_part in
        let y = part_counted c there.net.parts k q there.is_part in
        absurd (omega (arith, two, x, y, few, one, other))
    nets (inr (inl l)) =
        let two = two_nets c t.nets m n there.net at.net l there.is_net at.is_net in
        let x = part_counted c at.net.parts j p at.is_part in
        let y = part_counted c there.net.parts k q there.is_part in
        absurd (omega (arith, two, x, y, few, one, other))
    nets (inr (inr e)) = (e, places (either j k))
      where
        one_net : at.net ≡ there.net
        one_net = some_same at.net there.net (sym at.is_net ∙ ap (slice_get t.nets) e ∙ there.is_net)

        here : slice_get at.net.parts k ≡ Some q
        here = ap (λ x. slice_get x.parts k) one_net ∙ there.is_part

        places : (j < k) ⊎ ((k < j) ⊎ (j ≡ k)) → j ≡ k
        places (inl l) =
            let two = two_parts c at.net.parts j k p q l at.is_part here in
            let x = net_counted c t.nets n at.net at.is_net in
            absurd (omega (arith, two, x, few, one, other))
        places (inr (inl l)) =
            let two = two_parts c at.net.parts k j q p l here at.is_part in
            let x = net_counted c t.nets n at.net at.is_net in
            absurd (omega (arith, two, x, few, one, other))
        places (inr (inr s)) = s

pub once : (t : BoundTree) → StandsOnce t → (n m j k : ℕ) (p q : Part) → IsPart t n j p → IsPart t m k q → p.inner ≡ q.inner → (n ≡ m) × (j ≡ k)
once t h n m j k p q at there same = go p.inner refl
  where
    go : (inner : Inner) → p.inner ≡ inner → (n ≡ m) × (j ≡ k)
    go (InnerNet x) e = one_place t (if_net x) (few_nets t h x) n m j k p q at there (counts_net x p.inner e) (counts_net x q.inner (sym same ∙ e))
    go (InnerLeaf x) e = one_place t (if_leaf x) (few_leaves t h x) n m j k p q at there (counts_leaf x p.inner e) (counts_leaf x q.inner (sym same ∙ e))

-- what is counted stands somewhere
stands : (t : BoundTree) (c : Inner → ℕ) (inner : Inner) → ((x : Inner) → 0 < c x → x ≡ inner) → 0 < tallies c t.nets → StandsSomewhere t inner
stands t c inner is h =
    let net = counted_net c t.nets h in
    let part = counted_part c net.1.parts net.3 in
    record {
      number = net.0;
      place = part.0;
      part = part.1;
      is_part = record { net = net.1; is_net = net.2; is_part = part.2 };
      is_inner = is part.1.inner part.3;
    }

pub nets_stand : (t : BoundTree) → StandsOnce t → (n : ℕ) → 0 < n → n < length t.nets → StandsSomewhere t (InnerNet n)
nets_stand t h n above below =
    let e = h.nets n in
    let r = in_row 0 (length t.nets) n (omega arith) (omega (arith, below)) in
    let s = net_tallies n t.nets in
    let d = differ 0 n above in
    stands t (if_net n) (InnerNet n) (is_net n) (omega (arith, e, r, s, d))

pub leaves_stand : (t : BoundTree) → StandsOnce t → (l : ℕ) → l < length t.leaves → StandsSomewhere t (InnerLeaf l)
leaves_stand t h l below =
    let e = h.leaves l in
    let r = in_row 0 (length t.leaves) l (omega arith) (omega (arith, below)) in
    let s = leaf_tallies l t.nets in
    stands t (if_leaf l) (InnerLeaf l) (is_leaf l) (omega (arith, e, r, s))
