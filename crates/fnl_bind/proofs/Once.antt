-- In the tree that networks make each part is numbered once.
use Rattle.std.proofs.Common.{◌≡◌, ℕ, zero, suc, ◌+◌, ◌<◌, List, [], ◌∷◌, ◌++◌, length, Some, refl, sym, ap, subst, arith}
use Rattle.std.proofs.lemmas.List.{length-append}
use Rattle.fnl_read.specs.Net.{Instance}
use Rattle.fnl_tree.specs.Tree.{Inner, InnerNet, InnerLeaf, Net as BoundNet, Leaf}
use Rattle.fnl_bind.specs.Library.{Entry, instance_id}
use Rattle.fnl_bind.specs.Networks.{Place, Standing, StandsNet, StandsLeaf, StandsNot, standing}
use Rattle.fnl_bind.specs.Trees.{Grown, Filled, nothing_filled, with_part, filled_by, filled, net_before, grown_at, top_place, tree_of}
use Rattle.fnl_bind.specs.Sound.{if_same, once_from, if_net, if_leaf, net_parts, leaf_parts, net_count, leaf_count, IsBehind, AreBehind, LeadDown, StandsOnce, BoundStandOnce}

-- ---- counts add up

once_append : (k n m x : ℕ) → once_from k (n + m) x ≡ once_from k n x + once_from (k + n) m x
once_append k zero m x =
    let less : 0 + m ≡ m = omega arith in
    let there : k + 0 ≡ k = omega arith in
    let one : once_from k (0 + m) x ≡ once_from k m x = ap (λ n. once_from k n x) less in
    let other : once_from (k + 0) m x ≡ once_from k m x = ap (λ j. once_from j m x) there in
    omega (arith, one, other)
once_append k (suc n) m x =
    let more : suc n + m ≡ suc (n + m) = omega arith in
    let opened : once_from k (suc n + m) x ≡ if_same k x + once_from (suc k) (n + m) x =
    ap (λ n. once_from k n x) more in
    let rest = once_append (suc k) n m x in
    let there : suc k + n ≡ k + suc n = omega arith in
    let moved : once_from (suc k + n) m x ≡ once_from (k + suc n) m x =
    ap (λ j. once_from j m x) there in
    omega (arith, opened, rest, moved)

net_count_append : (m : ℕ) (xs ys : List BoundNet) → net_count m (xs ++ ys) ≡ net_count m xs + net_count m ys
net_count_append m [] ys = omega arith
net_count_append m (x ∷ xs) ys = let rest = net_count_append m xs ys in omega (arith, rest)

leaf_count_append : (m : ℕ) (xs ys : List BoundNet) → leaf_count m (xs ++ ys) ≡ leaf_count m xs + leaf_count m ys
leaf_count_append m [] ys = omega arith
leaf_count_append m (x ∷ xs) ys = let rest = leaf_count_append m xs ys in omega (arith, rest)

once_of_both : {A : Type 0} → (k x : ℕ) (xs ys : List A)
    → once_from k (length (xs ++ ys)) x ≡ once_from k (length xs) x + once_from (k + length xs) (length ys) x
once_of_both k x xs ys =
    let size : once_from k (length (xs ++ ys)) x ≡ once_from k (length xs + length ys) x = ap (λ n. once_from k n x) (length-append xs ys) in
    let both = once_append k (length xs) (length ys) x in
    omega (arith, size, both)

down_append : (k : ℕ) (xs ys : List BoundNet) → LeadDown k xs → LeadDown (k + length xs) ys → LeadDown k (xs ++ ys)
down_append k [] ys one other = subst (λ j. LeadDown j ys) (omega arith) other
down_append k (x ∷ xs) ys one other =
    (one.0, down_append (suc k) xs ys one.1 (subst (λ j. LeadDown j ys) (omega arith) other))

-- ---- what grows and what is filled, the next network and the next actor having these numbers

pub record Grows (net leaf : ℕ) (g : Grown) : Type 0 where
  pub nets : (m : ℕ) → if_same net m + net_count m g.nets ≡ once_from net (length g.nets) m
  pub leaves : (l : ℕ) → leaf_count l g.nets ≡ once_from leaf (length g.leaves) l
  pub down : LeadDown net g.nets

pub record Joins (net leaf : ℕ) (inner : Inner) (g : Grown) : Type 0 where
  pub nets : (m : ℕ) → if_net m inner + net_count m g.nets ≡ once_from net (length g.nets) m
  pub leaves : (l : ℕ) → if_leaf l inner + leaf_count l g.nets ≡ once_from leaf (length g.leaves) l
  pub behind : (k : ℕ) → k < net → IsBehind k inner
  pub down : LeadDown net g.nets

pub record Fills (net leaf : ℕ) (f : Filled) : Type 0 where
  pub nets : (m : ℕ) → net_parts m f.parts + net_count m f.grown.nets ≡ once_from net (length f.grown.nets) m
  pub leaves : (l : ℕ) → leaf_parts l f.parts + leaf_count l f.grown.nets ≡ once_from leaf (length f.grown.leaves) l
  pub behind : (k : ℕ) → k < net → AreBehind k f.parts
  pub down : LeadDown net f.grown.nets

pub nothing_fills : (net leaf : ℕ) → Fills net leaf nothing_filled
nothing_fills net leaf = record {
  nets = λ m. refl;
  leaves = λ l. refl;
  behind = λ k small. tt;
  down = tt;
}

pub net_joins : (net leaf : ℕ) (g : Grown) → Grows net leaf g → Joins net leaf (InnerNet net) g
net_joins net leaf g grows = record {
  nets = grows.nets;
  leaves = λ l. let same = grows.leaves l in omega (arith, same);
  behind = λ k small. small;
  down = grows.down;
}

pub leaf_joins : (net leaf : ℕ) (l : Leaf) → Joins net leaf (InnerLeaf leaf) (record { nets = []; leaves = l ∷ [] })
leaf_joins net leaf l = record {
  nets = λ m. refl;
  leaves = λ m. refl;
  behind = λ k small. tt;
  down = tt;
}

pub part_fills : (net leaf : ℕ) (id : List ℕ) (inner : Inner) (g : Grown) (f : Filled) → Joins net leaf inner g
    → Fills (net + length g.nets) (leaf + length g.leaves) f → Fills net leaf (with_part id inner g f)
part_fills net leaf id inner g f joins fills = record {
  nets = λ m.
      let one = joins.nets m in
      let rest = fills.nets m in
      let count = net_count_append m g.nets f.grown.nets in
      let both = once_of_both net m g.nets f.grown.nets in
      omega (arith, one, rest, count, both);
  leaves = λ l.
      let one = joins.leaves l in
      let rest = fills.leaves l in
      let count = leaf_count_append l g.nets f.grown.nets in
      let both = once_of_both leaf l g.leaves f.grown.leaves in
      omega (arith, one, rest, count, both);
  behind = λ k small. (joins.behind k small, fills.behind k (omega (arith, small)));
  down = down_append net g.nets f.grown.nets joins.down fills.down;
}

net_grows : (p : Place) (net leaf : ℕ) (f : Filled) → Fills (suc net) leaf f → Grows net leaf (net_before p f)
net_grows p net leaf f fills = record {
  nets = λ m. ap (λ n. if_same net m + n) (fills.nets m);
  leaves = fills.leaves;
  down = (fills.behind net (omega arith), fills.down);
}

-- ---- all of them

stands_fill : (inner : Place → ℕ → ℕ → Grown) → ((p : Place) (net leaf : ℕ) → Grows net leaf (inner p net leaf))
    → (id : List ℕ) (s : Standing) (rest : ℕ → ℕ → Filled) → ((net leaf : ℕ) → Fills net leaf (rest net leaf))
    → (net leaf : ℕ) → Fills net leaf (filled_by inner id s rest net leaf)
stands_fill inner grows id (StandsNet p) rest fill net leaf =
    let g = inner p net leaf in
    part_fills net leaf id (InnerNet net) g (rest (net + length g.nets) (leaf + length g.leaves))
    (net_joins net leaf g (grows p net leaf)) (fill (net + length g.nets) (leaf + length g.leaves))
stands_fill inner grows id (StandsLeaf l) rest fill net leaf =
    part_fills net leaf id (InnerLeaf leaf) (record { nets = []; leaves = l ∷ [] }) (rest (net + 0) (leaf + 1))
    (leaf_joins net leaf l) (fill (net + 0) (leaf + 1))
stands_fill inner grows id StandsNot rest fill net leaf = fill net leaf

fills : (inner : Place → ℕ → ℕ → Grown) → ((p : Place) (net leaf : ℕ) → Grows net leaf (inner p net leaf))
    → (library : List Entry) (p : Place) (is : List Instance) (net leaf : ℕ) → Fills net leaf (filled inner library p is net leaf)
fills inner grows library p [] net leaf = nothing_fills net leaf
fills inner grows library p (i ∷ is) net leaf =
    stands_fill inner grows (instance_id i) (standing library p i) (filled inner library p is)
    (fills inner grows library p is) net leaf

grown : (n : ℕ) (library : List Entry) (p : Place) (net leaf : ℕ) → Grows net leaf (grown_at n library p net leaf)
grown zero library p net leaf = net_grows p net leaf nothing_filled (nothing_fills (suc net) leaf)
grown (suc n) library p net leaf =
    net_grows p net leaf (filled (grown_at n library) library p p.entry.net.instances (suc net) leaf)
    (fills (grown_at n library) (grown n library) library p p.entry.net.instances (suc net) leaf)

pub top_stands_once : (library : List Entry) (top : Entry) → StandsOnce (tree_of library (Some top))
top_stands_once library top =
    let g = grown (length library) library (top_place top) 0 0 in
    record { nets = g.nets; leaves = g.leaves; down = g.down }

pub bound_stand_once : BoundStandOnce
bound_stand_once library class top held = subst (λ e. StandsOnce (tree_of library e)) (sym held) (top_stands_once library top)
