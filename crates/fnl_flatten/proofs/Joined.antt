-- The links to the reading ends of a tree are its links.
use Rattle.std.proofs.Common.{◌≡◌, ◌⊎◌, inl, inr, ℕ, zero, suc, ◌+◌, ◌<◌, ◌≤◌, true, false, List, [], ◌∷◌, ◌++◌, length, refl, sym, ap, subst, ◌∙◌, arith}
use Rattle.std.proofs.lemmas.List.{append_assoc}
use Rattle.std.specs.Prelude.{Option, None, Some, slice_get}
use Rattle.net_model.specs.Wired.{IsBefore}
use Rattle.net_model.specs.declared.wiring.End.{End}
use Rattle.net_model.specs.declared.wiring.End.TheVariants.{Leaf as AtLeaf, Net as AtNet}
use Rattle.net_model.specs.declared.wiring.Link.{Link}
use Rattle.fnl_tree.specs.Sound.{IsSound}
use Rattle.fnl_tree.specs.Tree.{Net, Tree}
use Rattle.fnl_flatten.specs.Head.{Head}
use Rattle.fnl_flatten.specs.Joints.{Joint, LeafPort, OwnPort}
use Rattle.fnl_flatten.specs.Links.{AreJoined, reading_end}
use Rattle.fnl_flatten.specs.Readers.{inputs_from, outputs_from, leaf_readers, readers_of, LinksOf}
use Rattle.fnl_flatten.specs.Rules.{violations}
use Rattle.fnl_flatten.proofs.Chains.{end_there}
use Rattle.fnl_flatten.proofs.Linking.{IsIn, in_left, in_right, each_link, all_links, in_order, LeadsBefore, AreInOrder}
use Rattle.fnl_flatten.proofs.Places.{IsThere, HasLeafPort, HasOwnPort}

-- ---- reading ends stand in link order

-- at or behind input p of leaf l
abbrev IsFrom : ℕ → ℕ → Joint → Type 0
IsFrom l p (LeafPort m true q) = (l < m) ⊎ ((l ≡ m) × (p ≤ q))
IsFrom l p (LeafPort m false q) = ⊥
IsFrom l p (OwnPort n true q) = ⊥
IsFrom l p (OwnPort n false q) = Unit {0}

from_next : (l p : ℕ) (j : Joint) → IsFrom l (suc p) j → IsFrom l p j
from_next l p (LeafPort m true q) (inl less) = inl less
from_next l p (LeafPort m true q) (inr same) = inr (same.0, omega (arith, same.1))
from_next l p (LeafPort m false q) h = h
from_next l p (OwnPort n true q) h = h
from_next l p (OwnPort n false q) h = h

from_leaf : (l p : ℕ) (j : Joint) → IsFrom (suc l) 0 j → IsFrom l p j
from_leaf l p (LeafPort m true q) (inl less) = inl (omega (arith, less))
from_leaf l p (LeafPort m true q) (inr same) = inl (omega (arith, same.0))
from_leaf l p (LeafPort m false q) h = h
from_leaf l p (OwnPort n true q) h = h
from_leaf l p (OwnPort n false q) h = h

end_is : (d e : End) → Some d ≡ Some e → d ≡ e
end_is d e h = cc

input_before : (l p : ℕ) (k : Joint) → IsFrom l (suc p) k → LeadsBefore (LeafPort l true p) k
input_before l p (LeafPort m true q) from d e here there =
    subst (λ x. IsBefore x e) (end_is (AtLeaf (record { 0 = l }) p) d here)
    (subst (λ x. IsBefore (AtLeaf (record { 0 = l }) p) x) (end_is (AtLeaf (record { 0 = m }) q) e there) (less from))
  where
    less : (l < m) ⊎ ((l ≡ m) × (suc p ≤ q)) → (l < m) ⊎ ((l ≡ m) × (p < q))
    less (inl below) = inl below
    less (inr same) = inr (same.0, omega (arith, same.1))
input_before l p (LeafPort m false q) from d e here there = absurd from
input_before l p (OwnPort n true q) from d e here there = absurd from
input_before l p (OwnPort zero false q) from d e here there =
    subst (λ x. IsBefore x e) (end_is (AtLeaf (record { 0 = l }) p) d here)
    (subst (λ x. IsBefore (AtLeaf (record { 0 = l }) p) x) (end_is (AtNet q) e there) tt)
input_before l p (OwnPort (suc n) false q) from d e here there = cc

from_inputs : (l p n : ℕ) (rest : List Joint) → ((k : Joint) → IsIn rest k → IsFrom (suc l) 0 k)
    → (k : Joint) → IsIn (inputs_from l p n ++ rest) k → IsFrom l p k
from_inputs l p zero rest all k at = from_leaf l p k (all k at)
from_inputs l p (suc n) rest all k (zero, at) =
    let same : LeafPort l true p ≡ k = cc in subst (IsFrom l p) same (inr (refl, omega arith))
from_inputs l p (suc n) rest all k (suc i, at) = from_next l p k (from_inputs l (suc p) n rest all k (i, at))

sorted_inputs : (l p n : ℕ) (rest : List Joint) → ((k : Joint) → IsIn rest k → IsFrom (suc l) 0 k) → AreInOrder rest
    → AreInOrder (inputs_from l p n ++ rest)
sorted_inputs l p zero rest all sorted = sorted
sorted_inputs l p (suc n) rest all sorted =
    ((λ k at. input_before l p k (from_inputs l (suc p) n rest all k at)), sorted_inputs l (suc p) n rest all sorted)

-- at or behind output p of the top
abbrev IsOutputFrom : ℕ → Joint → Type 0
IsOutputFrom p (LeafPort m input q) = ⊥
IsOutputFrom p (OwnPort zero true q) = ⊥
IsOutputFrom p (OwnPort zero false q) = p ≤ q
IsOutputFrom p (OwnPort (suc n) input q) = ⊥

output_next : (p : ℕ) (j : Joint) → IsOutputFrom (suc p) j → IsOutputFrom p j
output_next p (LeafPort m input q) h = h
output_next p (OwnPort zero true q) h = h
output_next p (OwnPort zero false q) h = omega (arith, h)
output_next p (OwnPort (suc n) input q) h = h

from_outputs : (p n : ℕ) (k : Joint) → IsIn (outputs_from p n) k → IsOutputFrom p k
from_outputs p zero k (i, at) = cc
from_outputs p (suc n) k (zero, at) =
    let same : OwnPort 0 false p ≡ k = cc in subst (IsOutputFrom p) same (omega arith)
from_outputs p (suc n) k (suc i, at) = output_next p k (from_outputs (suc p) n k (i, at))

output_before : (p : ℕ) (k : Joint) → IsOutputFrom (suc p) k → LeadsBefore (OwnPort 0 false p) k
output_before p (LeafPort m input q) from d e here there = absurd from
output_before p (OwnPort zero true q) from d e here there = absurd from
output_before p (OwnPort zero false q) from d e here there =
    subst (λ x. IsBefore x e) (end_is (AtNet p) d here)
    (subst (λ x. IsBefore (AtNet p) x) (end_is (AtNet q) e there) (omega (arith, from)))
output_before p (OwnPort (suc n) input q) from d e here there = absurd from

sorted_outputs : (p n : ℕ) → AreInOrder (outputs_from p n)
sorted_outputs p zero = tt
sorted_outputs p (suc n) = ((λ k at. output_before p k (from_outputs (suc p) n k at)), sorted_outputs (suc p) n)

output_from : (l p : ℕ) (k : Joint) → IsOutputFrom 0 k → IsFrom l p k
output_from l p (LeafPort m input q) h = absurd h
output_from l p (OwnPort zero true q) h = absurd h
output_from l p (OwnPort zero false q) h = tt
output_from l p (OwnPort (suc n) input q) h = absurd h

leaves_from : (l : ℕ) (heads : List Head) (outs : ℕ) (k : Joint) → IsIn (leaf_readers l heads ++ outputs_from 0 outs) k → IsFrom l 0 k
leaves_from l [] outs k at = output_from l 0 k (from_outputs 0 outs k at)
leaves_from l (head ∷ heads) outs k at =
    from_inputs l 0 (length head.ins) (leaf_readers (suc l) heads ++ outputs_from 0 outs) (leaves_from (suc l) heads outs) k
    (subst (λ js. IsIn js k) (append_assoc (inputs_from l 0 (length head.ins)) (leaf_readers (suc l) heads) (outputs_from 0 outs)) at)

sorted_leaves : (l : ℕ) (heads : List Head) (outs : ℕ) → AreInOrder (leaf_readers l heads ++ outputs_from 0 outs)
sorted_leaves l [] outs = sorted_outputs 0 outs
sorted_leaves l (head ∷ heads) outs =
    subst AreInOrder (sym (append_assoc (inputs_from l 0 (length head.ins)) (leaf_readers (suc l) heads) (outputs_from 0 outs)))
    (sorted_inputs l 0 (length head.ins) (leaf_readers (suc l) heads ++ outputs_from 0 outs) (leaves_from (suc l) heads outs) (sorted_leaves (suc l) heads outs))

-- ---- all reading ends are among them

in_inputs : (l p n q : ℕ) → q < n → IsIn (inputs_from l p n) (LeafPort l true (p + q))
in_inputs l p zero q less = absurd (omega (arith, less))
in_inputs l p (suc n) zero less =
    let number : p ≡ p + 0 = omega arith in (0, ap (λ m. Some (LeafPort l true m)) number)
in_inputs l p (suc n) (suc q) less =
    let it = in_inputs l (suc p) n q (omega (arith, less)) in
    let number : suc p + q ≡ p + suc q = omega arith in
    (suc it.0, it.1 ∙ ap (λ m. Some (LeafPort l true m)) number)

in_outputs : (p n q : ℕ) → q < n → IsIn (outputs_from p n) (OwnPort 0 false (p + q))
in_outputs p zero q less = absurd (omega (arith, less))
in_outputs p (suc n) zero less =
    let number : p ≡ p + 0 = omega arith in (0, ap (λ m. Some (OwnPort 0 false m)) number)
in_outputs p (suc n) (suc q) less =
    let it = in_outputs (suc p) n q (omega (arith, less)) in
    let number : suc p + q ≡ p + suc q = omega arith in
    (suc it.0, it.1 ∙ ap (λ m. Some (OwnPort 0 false m)) number)

in_leaves : (m : ℕ) (heads : List Head) (k : ℕ) (head : Head) (p : ℕ) → slice_get heads k ≡ Some head → p < length head.ins
    → IsIn (leaf_readers m heads) (LeafPort (m + k) true p)
in_leaves m [] k head p at less = cc
in_leaves m (x ∷ heads) zero head p at less =
    let same : head ≡ x = cc in
    let number : m ≡ m + 0 = omega arith in
    let port : 0 + p ≡ p = omega arith in
    subst (λ n. IsIn (leaf_readers m (x ∷ heads)) (LeafPort n true p)) number
    (in_left (inputs_from m 0 (length x.ins)) (leaf_readers (suc m) heads) (LeafPort m true p)
    (subst (λ q. IsIn (inputs_from m 0 (length x.ins)) (LeafPort m true q)) port
    (in_inputs m 0 (length x.ins) p (subst (λ h. p < length h.ins) same less))))
in_leaves m (x ∷ heads) (suc k) head p at less =
    let number : suc m + k ≡ m + suc k = omega arith in
    subst (λ n. IsIn (leaf_readers m (x ∷ heads)) (LeafPort n true p)) number
    (in_right (inputs_from m 0 (length x.ins)) (leaf_readers (suc m) heads) (LeafPort (suc m + k) true p)
    (in_leaves (suc m) heads k head p at less))

reads : (tree : Tree) (heads : List Head) (top : Net) → slice_get tree.nets 0 ≡ Some top → (j : Joint) (e : End)
    → IsThere tree heads j → reading_end j ≡ Some e → IsIn (readers_of heads (length top.outs)) j
reads tree heads top at (LeafPort l true p) e there is = go (slice_get heads l) refl there
  where
    go : (o : Option Head) → slice_get heads l ≡ o → HasLeafPort true p o → IsIn (readers_of heads (length top.outs)) (LeafPort l true p)
    go None found has = absurd has
    go (Some head) found has =
        let number : 0 + l ≡ l = omega arith in
        in_left (leaf_readers 0 heads) (outputs_from 0 (length top.outs)) (LeafPort l true p)
        (subst (λ n. IsIn (leaf_readers 0 heads) (LeafPort n true p)) number (in_leaves 0 heads l head p found has))
reads tree heads top at (LeafPort l false p) e there is = cc
reads tree heads top at (OwnPort zero true p) e there is = cc
reads tree heads top at (OwnPort zero false p) e there is =
    let has : HasOwnPort false p (Some top) = subst (HasOwnPort false p) at there in
    let port : 0 + p ≡ p = omega arith in
    in_right (leaf_readers 0 heads) (outputs_from 0 (length top.outs)) (OwnPort 0 false p)
    (subst (λ q. IsIn (outputs_from 0 (length top.outs)) (OwnPort 0 false q)) port (in_outputs 0 (length top.outs) p has))
reads tree heads top at (OwnPort (suc n) input p) e there is = cc

pub joined : (tree : Tree) (heads : List Head) → IsSound tree → violations tree heads ≡ [] → (top : Net) → slice_get tree.nets 0 ≡ Some top
    → (links : List Link) → LinksOf tree heads (readers_of heads (length top.outs)) links → AreJoined tree heads links
joined tree heads sound fine top at links they = record {
  each = λ l link found. each_link tree heads they l link found;
  all = λ link is. all_links tree heads sound fine they link is is.reader
      (reads tree heads top at is.reader link.to (end_there tree heads is.chain) is.to) is.to;
  in_order = λ l m link other less found there. in_order tree heads they (sorted_leaves 0 heads (length top.outs)) l m link other less found there;
}
