-- A tree whose parts are numbered depth first holds each network and each actor once, in order.
use Rattle.std.proofs.Common.{◌≡◌, ℕ, suc, ◌+◌, ◌-◌, List, [], ◌∷◌, ◌++◌, length, Some, refl, sym, ap, subst, ◌∙◌, arith}
use Rattle.std.specs.Prelude.{slice_get}
use Rattle.std.proofs.lemmas.List.{length-append}
use Rattle.fnl_tree.specs.Tree.{InnerNet, InnerLeaf, Part, Net, Leaf, Tree}
use Rattle.fnl_tree.specs.Sound.{LeavesOf, numbers_from}
use Rattle.fnl_bind.specs.Sound.{StandsOnce}
use Rattle.fnl_bind.specs.Trees.{Grown, Filled, with_part}
use Rattle.fnl_bind.proofs.Once as once
use Rattle.fnl_bind.proofs.InOrder as order
use Rattle.test_fnl_flatten.specs.Walks.{Walks, Goes, IsNumbered}

abbrev filled : List Part → List Net → List Leaf → Filled
filled parts ns ls = record { parts = parts; grown = record { nets = ns; leaves = ls } }

abbrev grown : List Net → List Leaf → Grown
grown ns ls = record { nets = ns; leaves = ls }

-- ---- each stands once

grows : (x : Net) (net leaf : ℕ) (ns : List Net) (ls : List Leaf) → once.Fills (suc net) leaf (filled x.parts ns ls) → once.Grows net leaf (grown (x ∷ ns) ls)
grows x net leaf ns ls fills = record {
  nets = λ m. ap (λ n. Rattle.fnl_bind.specs.Sound.if_same net m + n) (fills.nets m);
  leaves = fills.leaves;
  down = (fills.behind net (omega arith), fills.down);
}

fills : (parts : List Part) (net leaf : ℕ) (ns : List Net) (ls : List Leaf) → Walks parts net leaf ns ls → once.Fills net leaf (filled parts ns ls)
fills _ net leaf _ _ Walks.none = once.nothing_fills net leaf
fills _ net leaf _ _ (Walks.leaf {part = part} {parts = parts} {ns = ns} {l = l} {ls = ls} is w) =
    let same : net ≡ net + 0 = omega arith in
    let next : suc leaf ≡ leaf + 1 = omega arith in
    let rest : once.Fills (net + 0) (leaf + 1) (filled parts ns ls) = subst (λ n. once.Fills n (leaf + 1) (filled parts ns ls)) same (subst (λ k. once.Fills net k (filled parts ns ls)) next (fills parts net (suc leaf) ns ls w)) in
    subst (λ i. once.Fills net leaf (with_part part.id i (grown [] (l ∷ [])) (filled parts ns ls))) (sym is)
    (once.part_fills net leaf part.id (InnerLeaf leaf) (grown [] (l ∷ [])) (filled parts ns ls) (once.leaf_joins net leaf l) rest)
fills _ net leaf _ _ (Walks.net {part = part} {parts = parts} {x = x} {ns = ns} {ms = ms} {ls = ls} {ks = ks} is w v) =
    subst (λ i. once.Fills net leaf (with_part part.id i (grown (x ∷ ns) ls) (filled parts ms ks))) (sym is)
    (once.part_fills net leaf part.id (InnerNet net) (grown (x ∷ ns) ls) (filled parts ms ks)
    (once.net_joins net leaf (grown (x ∷ ns) ls) (grows x net leaf ns ls (fills x.parts (suc net) leaf ns ls w)))
    (fills parts (net + suc (length ns)) (leaf + length ls) ms ks v))

-- ---- in order

leads : (t : Tree) (x : Net) (net leaf : ℕ) (ns : List Net) (ls : List Leaf) → order.Fills t (suc net) leaf (filled x.parts ns ls) → order.Leads t net leaf (grown (x ∷ ns) ls)
leads t x net leaf ns ls fill = record {
  top = x;
  is_top = refl;
  leads = λ stand. fill (λ i y e. let j : net + suc i ≡ suc net + i = omega arith in subst (λ k. slice_get t.nets k ≡ Some y) j (stand (suc i) y e));
}

lead : (t : Tree) (parts : List Part) (net leaf : ℕ) (ns : List Net) (ls : List Leaf) → Walks parts net leaf ns ls → order.Fills t net leaf (filled parts ns ls)
lead t _ net leaf _ _ Walks.none = λ stand. LeavesOf.none
lead t _ net leaf _ _ (Walks.leaf {part = part} {parts = parts} {ns = ns} {l = l} {ls = ls} is w) =
    let same : net ≡ net + 0 = omega arith in
    let next : suc leaf ≡ leaf + 1 = omega arith in
    let rest : order.Fills t (net + 0) (leaf + 1) (filled parts ns ls) = subst (λ n. order.Fills t n (leaf + 1) (filled parts ns ls)) same (subst (λ k. order.Fills t net k (filled parts ns ls)) next (lead t parts net (suc leaf) ns ls w)) in
    subst (λ i. order.Fills t net leaf (with_part part.id i (grown [] (l ∷ [])) (filled parts ns ls))) (sym is)
    (order.leaf_leads t net leaf part.id l (filled parts ns ls) rest)
lead t _ net leaf _ _ (Walks.net {part = part} {parts = parts} {x = x} {ns = ns} {ms = ms} {ls = ls} {ks = ks} is w v) =
    subst (λ i. order.Fills t net leaf (with_part part.id i (grown (x ∷ ns) ls) (filled parts ms ks))) (sym is)
    (order.net_leads t net leaf part.id (grown (x ∷ ns) ls) (filled parts ms ks)
    (leads t x net leaf ns ls (lead t x.parts (suc net) leaf ns ls w))
    (lead t parts (net + suc (length ns)) (leaf + length ls) ms ks v))

-- ---- a tree

abbrev tree_with : Net → List Net → List Leaf → Tree
tree_with top ns ls = record { nets = top ∷ ns; leaves = ls }

stands_once : (top : Net) (ns : List Net) (ls : List Leaf) → Walks top.parts 1 0 ns ls → StandsOnce (tree_with top ns ls)
stands_once top ns ls w =
    let g = grows top 0 0 ns ls (fills top.parts 1 0 ns ls w) in
    record { nets = g.nets; leaves = g.leaves; down = g.down }

pub numbered_once : (t : Tree) → IsNumbered t → StandsOnce t
numbered_once t h =
    subst (λ ns. StandsOnce (record { nets = ns; leaves = t.leaves })) (sym h.nets_are) (stands_once h.top h.ns t.leaves h.walks)

pub numbered_order : (t : Tree) (h : IsNumbered t) → LeavesOf t h.top.parts (numbers_from 0 (length t.leaves))
numbered_order t h =
    lead t h.top.parts 1 0 h.ns t.leaves h.walks
    (λ i x e. let j : suc i ≡ 1 + i = omega arith in subst (λ k. slice_get t.nets k ≡ Some x) j (ap (λ ns. slice_get ns (suc i)) h.nets_are ∙ e))

pub numbered_top : (t : Tree) (h : IsNumbered t) → slice_get t.nets 0 ≡ Some h.top
numbered_top t h = ap (λ ns. slice_get ns 0) h.nets_are

-- ---- one step of the walk

pub goes_none : (net leaf : ℕ) (nets : List Net) (leaves : List Leaf) → Goes [] net leaf nets leaves nets leaves
goes_none net leaf nets leaves = record { ns = []; ls = []; nets_are = refl; leaves_are = refl; walks = Walks.none }

pub goes_leaf : (part : Part) (parts : List Part) (net leaf : ℕ) (nets : List Net) (l : Leaf) (leaves : List Leaf) (rest_nets : List Net) (rest_leaves : List Leaf)
    → part.inner ≡ InnerLeaf leaf → Goes parts net (suc leaf) nets leaves rest_nets rest_leaves
    → Goes (part ∷ parts) net leaf nets (l ∷ leaves) rest_nets rest_leaves
goes_leaf part parts net leaf nets l leaves rest_nets rest_leaves is g = record {
  ns = g.ns;
  ls = l ∷ g.ls;
  nets_are = g.nets_are;
  leaves_are = ap (λ ls. l ∷ ls) g.leaves_are;
  walks = Walks.leaf is g.walks;
}

joined : {A : Type 0} (xs ys zs all mid : List A) → all ≡ xs ++ mid → mid ≡ ys ++ zs → all ≡ (xs ++ ys) ++ zs
joined xs ys zs all mid h i = h ∙ ap (λ m. xs ++ m) i ∙ sym (Rattle.std.proofs.lemmas.List.append_assoc xs ys zs)

pub goes_net : (part : Part) (parts : List Part) (x : Net) (net leaf : ℕ) (nets mid_nets rest_nets : List Net) (leaves mid_leaves rest_leaves : List Leaf) (after_net after_leaf : ℕ)
    → part.inner ≡ InnerNet net → (inner : Goes x.parts (suc net) leaf nets leaves mid_nets mid_leaves)
    → after_net + length mid_nets ≡ suc net + length nets → after_leaf + length mid_leaves ≡ leaf + length leaves
    → Goes parts after_net after_leaf mid_nets mid_leaves rest_nets rest_leaves
    → Goes (part ∷ parts) net leaf (x ∷ nets) leaves rest_nets rest_leaves
goes_net part parts x net leaf nets mid_nets rest_nets leaves mid_leaves rest_leaves after_net after_leaf is inner there here outer =
    let a = ap length inner.nets_are ∙ length-append inner.ns mid_nets in
    let b = ap length inner.leaves_are ∙ length-append inner.ls mid_leaves in
    let c : after_net ≡ net + suc (length inner.ns) = omega (arith, a, there) in
    let d : after_leaf ≡ leaf + length inner.ls = omega (arith, b, here) in
    record {
      ns = x ∷ (inner.ns ++ outer.ns);
      ls = inner.ls ++ outer.ls;
      nets_are = ap (λ ns. x ∷ ns) (joined inner.ns outer.ns rest_nets nets mid_nets inner.nets_are outer.nets_are);
      leaves_are = joined inner.ls outer.ls rest_leaves leaves mid_leaves inner.leaves_are outer.leaves_are;
      walks = Walks.net is inner.walks
          (subst (λ n. Walks parts n (leaf + length inner.ls) outer.ns outer.ls) c
          (subst (λ n. Walks parts after_net n outer.ns outer.ls) d outer.walks));
    }
