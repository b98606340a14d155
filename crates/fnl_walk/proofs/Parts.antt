-- Parts of networks, as they are added one by one.
use Rattle.std.proofs.Common.{◌≡◌, ℕ, zero, suc, ◌<◌, List, [], ◌∷◌, ◌++◌, length, map, refl, sym, ap, subst, ◌∙◌, arith, append_assoc, append-nil}
use Rattle.std.specs.Prelude.{slice_index_or, slice_set}
use Rattle.fnl_tree.specs.View.{net_of}
use Rattle.fnl_tree.specs.declared.tree.Net.{Net as DeclaredNet}
use Rattle.fnl_tree.specs.Tree.{Inner, Part, Net as BoundNet}
use Rattle.fnl_bind.specs.Trees.{Grown, Filled, with_part, nothing_filled}
use Rattle.fnl_walk.specs.Walk.{with_filled, with_parts}

pub parts_length : (k : ℕ) (ps : List Part) (ns : List BoundNet) → length (with_parts k ps ns) ≡ length ns
parts_length k ps [] = refl
parts_length zero ps (n ∷ ns) = refl
parts_length (suc k) ps (n ∷ ns) = ap suc (parts_length k ps ns)

parts_left : (k : ℕ) (ps : List Part) (xs ys : List BoundNet) → k < length xs → with_parts k ps (xs ++ ys) ≡ with_parts k ps xs ++ ys
parts_left k ps [] ys h = absurd (omega (arith, h))
parts_left zero ps (x ∷ xs) ys h = refl
parts_left (suc k) ps (x ∷ xs) ys h = ap (λ ns. x ∷ ns) (parts_left k ps xs ys (omega (arith, h)))

parts_twice : (k : ℕ) (ps qs : List Part) (ns : List BoundNet) → with_parts k qs (with_parts k ps ns) ≡ with_parts k (ps ++ qs) ns
parts_twice k ps qs [] = refl
parts_twice zero ps qs (n ∷ ns) = ap (λ rs. record n { parts = rs } ∷ ns) (append_assoc n.parts ps qs)
parts_twice (suc k) ps qs (n ∷ ns) = ap (λ xs. n ∷ xs) (parts_twice k ps qs ns)

pub parts_last : (ps : List Part) (n : BoundNet) (xs : List BoundNet) → with_parts (length xs) ps (xs ++ n ∷ []) ≡ xs ++ record n { parts = n.parts ++ ps } ∷ []
parts_last ps n [] = refl
parts_last ps n (x ∷ xs) = ap (λ ns. x ∷ ns) (parts_last ps n xs)

parts_none : (k : ℕ) (ns : List BoundNet) → with_parts k [] ns ≡ ns
parts_none k [] = refl
parts_none zero (n ∷ ns) = ap (λ rs. record n { parts = rs } ∷ ns) (append-nil n.parts)
parts_none (suc k) (n ∷ ns) = ap (λ xs. n ∷ xs) (parts_none k ns)

-- ---- what an open network is filled with

-- one part more, with what stands in it
pub part_more : (number : ℕ) (id : List ℕ) (inner : Inner) (g : Grown) (rest : Filled) (all : Grown) → number < length all.nets
    → with_filled number (with_part id inner g rest) all
    ≡ with_filled number rest (record { nets = with_parts number (record { id = id; inner = inner } ∷ []) all.nets ++ g.nets; leaves = all.leaves ++ g.leaves })
part_more number id inner g rest all h =
    let one = record { id = id; inner = inner } ∷ [] in
    let parts : with_parts number (one ++ rest.parts) all.nets ≡ with_parts number rest.parts (with_parts number one all.nets) = sym (parts_twice number one rest.parts all.nets) in
    let k : number < length (with_parts number one all.nets) = subst (λ n. number < n) (sym (parts_length number one all.nets)) h in
    let nets : with_parts number (one ++ rest.parts) all.nets ++ (g.nets ++ rest.grown.nets)
    ≡ with_parts number rest.parts (with_parts number one all.nets ++ g.nets) ++ rest.grown.nets =
    ap (λ ns. ns ++ (g.nets ++ rest.grown.nets)) parts
    ∙ sym (append_assoc (with_parts number rest.parts (with_parts number one all.nets)) g.nets rest.grown.nets)
    ∙ ap (λ ns. ns ++ rest.grown.nets) (sym (parts_left number rest.parts (with_parts number one all.nets) g.nets k)) in
    ap (λ ns. record { nets = ns; leaves = all.leaves ++ (g.leaves ++ rest.grown.leaves) }) nets
    ∙ ap (λ ls. record { nets = with_parts number rest.parts (with_parts number one all.nets ++ g.nets) ++ rest.grown.nets; leaves = ls }) (sym (append_assoc all.leaves g.leaves rest.grown.leaves))

-- nothing more
pub nothing_more : (number : ℕ) (all : Grown) → with_filled number nothing_filled all ≡ all
nothing_more number all =
    ap (λ ns. record { nets = ns; leaves = all.leaves ++ [] }) (append-nil (with_parts number [] all.nets) ∙ parts_none number all.nets)
    ∙ ap (λ ls. record { nets = all.nets; leaves = ls }) (append-nil all.leaves)

-- ---- in memory

pub set_parts : (ns : List DeclaredNet) (k : ℕ) (n m : DeclaredNet) (p : Part) → k < length ns → n ≡ slice_index_or ns k n
    → net_of m ≡ record (net_of n) { parts = (net_of n).parts ++ p ∷ [] } → map net_of (slice_set ns k m) ≡ with_parts k (p ∷ []) (map net_of ns)
set_parts [] k n m p h at is = absurd (omega (arith, h))
set_parts (x ∷ xs) zero n m p h at is = ap (λ y. y ∷ map net_of xs) (is ∙ ap (λ y. record (net_of y) { parts = (net_of y).parts ++ p ∷ [] }) at)
set_parts (x ∷ xs) (suc k) n m p h at is = ap (λ ys. net_of x ∷ ys) (set_parts xs k n m p (omega (arith, h)) at is)
