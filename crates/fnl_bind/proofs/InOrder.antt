-- The actors of a bound tree are numbered depth first.
use Rattle.std.proofs.Common.{◌≡◌, ℕ, zero, suc, ◌+◌, List, [], ◌∷◌, ◌++◌, length, Some, refl, sym, ap, subst, ◌∙◌, arith}
use Rattle.std.specs.Prelude.{slice_get}
use Rattle.std.proofs.lemmas.List.{length-append}
use Rattle.fnl_read.specs.Net.{Instance}
use Rattle.fnl_tree.specs.Tree.{InnerNet, InnerLeaf, Net as BoundNet, Leaf, Tree as BoundTree}
use Rattle.fnl_tree.specs.Sound.{LeavesOf, numbers_from}
use Rattle.fnl_bind.specs.Library.{Entry, instance_id}
use Rattle.fnl_bind.specs.Networks.{Place, Standing, StandsNet, StandsLeaf, StandsNot, standing}
use Rattle.fnl_bind.specs.Trees.{Grown, Filled, nothing_filled, with_part, filled_by, filled, net_before, grown_at}

numbers_both : (k n m : ℕ) → numbers_from k (n + m) ≡ numbers_from k n ++ numbers_from (k + n) m
numbers_both k zero m =
    let n : 0 + m ≡ m = omega arith in
    let j : k ≡ k + 0 = omega arith in
    ap (numbers_from k) n ∙ ap (λ i. numbers_from i m) j
numbers_both k (suc n) m =
    let more : suc n + m ≡ suc (n + m) = omega arith in
    let there : suc k + n ≡ k + suc n = omega arith in
    ap (numbers_from k) more
    ∙ ap (λ ns. k ∷ ns) (numbers_both (suc k) n m ∙ ap (λ j. numbers_from (suc k) n ++ numbers_from j m) there)

-- these networks stand in the tree, the first under this number
abbrev pub StandFrom : BoundTree → ℕ → List BoundNet → Type 0
StandFrom t k ns = (i : ℕ) (x : BoundNet) → slice_get ns i ≡ Some x → slice_get t.nets (k + i) ≡ Some x

first_in : {A : Type 0} (xs ys : List A) (i : ℕ) (x : A) → slice_get xs i ≡ Some x → slice_get (xs ++ ys) i ≡ Some x
first_in [] ys i x h = absurd (cc)
first_in (z ∷ xs) ys zero x h = h
first_in (z ∷ xs) ys (suc i) x h = first_in xs ys i x h

then_in : {A : Type 0} (xs ys : List A) (i : ℕ) → slice_get (xs ++ ys) (length xs + i) ≡ slice_get ys i
then_in [] ys i = let e : 0 + i ≡ i = omega arith in ap (slice_get ys) e
then_in (z ∷ xs) ys i =
    let e : suc (length xs) + i ≡ suc (length xs + i) = omega arith in
    ap (slice_get (z ∷ (xs ++ ys))) e ∙ then_in xs ys i

first_stand : (t : BoundTree) (k : ℕ) (xs ys : List BoundNet) → StandFrom t k (xs ++ ys) → StandFrom t k xs
first_stand t k xs ys h i x e = h i x (first_in xs ys i x e)

then_stand : (t : BoundTree) (k : ℕ) (xs ys : List BoundNet) → StandFrom t k (xs ++ ys) → StandFrom t (k + length xs) ys
then_stand t k xs ys h i x e =
    subst (λ j. slice_get t.nets j ≡ Some x) (omega arith) (h (length xs + i) x (then_in xs ys i ∙ e))

-- the actors of a network, the first of which has this number
pub record Leads (t : BoundTree) (net leaf : ℕ) (g : Grown) : Type 0 where
  pub top : BoundNet
  pub is_top : slice_get g.nets 0 ≡ Some top
  pub leads : StandFrom t net g.nets → LeavesOf t top.parts (numbers_from leaf (length g.leaves))

abbrev pub Fills : BoundTree → ℕ → ℕ → Filled → Type 0
Fills t net leaf f = StandFrom t net f.grown.nets → LeavesOf t f.parts (numbers_from leaf (length f.grown.leaves))

numbers_of_both : (leaf : ℕ) (xs ys : List Leaf)
    → numbers_from leaf (length (xs ++ ys)) ≡ numbers_from leaf (length xs) ++ numbers_from (leaf + length xs) (length ys)
numbers_of_both leaf xs ys = ap (numbers_from leaf) (length-append xs ys) ∙ numbers_both leaf (length xs) (length ys)

pub net_leads : (t : BoundTree) (net leaf : ℕ) (id : List ℕ) (g : Grown) (f : Filled) → Leads t net leaf g
    → Fills t (net + length g.nets) (leaf + length g.leaves) f → Fills t net leaf (with_part id (InnerNet net) g f)
net_leads t net leaf id g f lead fill stand =
    subst (λ ls. LeavesOf t (record { id = id; inner = InnerNet net } ∷ f.parts) ls) (sym (numbers_of_both leaf g.leaves f.grown.leaves))
    (LeavesOf.net refl (subst (λ j. slice_get t.nets j ≡ Some lead.top) (omega arith) (stand 0 lead.top (first_in g.nets f.grown.nets 0 lead.top lead.is_top)))
    (lead.leads (first_stand t net g.nets f.grown.nets stand))
    (fill (then_stand t net g.nets f.grown.nets stand)))

pub leaf_leads : (t : BoundTree) (net leaf : ℕ) (id : List ℕ) (l : Leaf) (f : Filled)
    → Fills t (net + 0) (leaf + 1) f → Fills t net leaf (with_part id (InnerLeaf leaf) (record { nets = []; leaves = l ∷ [] }) f)
leaf_leads t net leaf id l f fill stand =
    subst (λ ls. LeavesOf t (record { id = id; inner = InnerLeaf leaf } ∷ f.parts) ls) (sym (numbers_of_both leaf (l ∷ []) f.grown.leaves))
    (LeavesOf.leaf refl (fill (then_stand t net [] f.grown.nets stand)))

stands_fill : (t : BoundTree) (inner : Place → ℕ → ℕ → Grown) → ((p : Place) (net leaf : ℕ) → Leads t net leaf (inner p net leaf))
    → (id : List ℕ) (s : Standing) (rest : ℕ → ℕ → Filled) → ((net leaf : ℕ) → Fills t net leaf (rest net leaf))
    → (net leaf : ℕ) → Fills t net leaf (filled_by inner id s rest net leaf)
stands_fill t inner lead id (StandsNet p) rest fill net leaf =
    let g = inner p net leaf in
    net_leads t net leaf id g (rest (net + length g.nets) (leaf + length g.leaves)) (lead p net leaf) (fill (net + length g.nets) (leaf + length g.leaves))
stands_fill t inner lead id (StandsLeaf l) rest fill net leaf =
    leaf_leads t net leaf id l (rest (net + 0) (leaf + 1)) (fill (net + 0) (leaf + 1))
stands_fill t inner lead id StandsNot rest fill net leaf = fill net leaf

all_fill : (t : BoundTree) (inner : Place → ℕ → ℕ → Grown) → ((p : Place) (net leaf : ℕ) → Leads t net leaf (inner p net leaf))
    → (library : List Entry) (p : Place) (is : List Instance) (net leaf : ℕ) → Fills t net leaf (filled inner library p is net leaf)
all_fill t inner lead library p [] net leaf = λ stand. LeavesOf.none
all_fill t inner lead library p (i ∷ is) net leaf =
    stands_fill t inner lead (instance_id i) (standing library p i) (filled inner library p is) (all_fill t inner lead library p is) net leaf

net_grows : (t : BoundTree) (p : Place) (net leaf : ℕ) (f : Filled) → Fills t (suc net) leaf f → Leads t net leaf (net_before p f)
net_grows t p net leaf f fill = record {
  top = _;
  is_top = refl;
  leads = λ stand. fill (λ i x e. subst (λ j. slice_get t.nets j ≡ Some x) (omega arith) (stand (suc i) x e));
}

leads : (t : BoundTree) (n : ℕ) (library : List Entry) (p : Place) (net leaf : ℕ) → Leads t net leaf (grown_at n library p net leaf)
leads t zero library p net leaf = net_grows t p net leaf nothing_filled (λ stand. LeavesOf.none)
leads t (suc n) library p net leaf =
    net_grows t p net leaf (filled (grown_at n library) library p p.entry.net.instances (suc net) leaf)
    (all_fill t (grown_at n library) (leads t n library) library p p.entry.net.instances (suc net) leaf)

-- the whole tree, from its top down
pub record HasOrder (t : BoundTree) : Type 0 where
  pub top : BoundNet
  pub is_top : slice_get t.nets 0 ≡ Some top
  pub in_order : LeavesOf t top.parts (numbers_from 0 (length t.leaves))

pub in_order : (n : ℕ) (library : List Entry) (p : Place) → HasOrder (record { nets = (grown_at n library p 0 0).nets; leaves = (grown_at n library p 0 0).leaves })
in_order n library p =
    let lead = leads (record { nets = (grown_at n library p 0 0).nets; leaves = (grown_at n library p 0 0).leaves }) n library p 0 0 in
    record { top = lead.top; is_top = lead.is_top; in_order = lead.leads (λ i x e. let z : i ≡ 0 + i = omega arith in subst (λ j. slice_get (grown_at n library p 0 0).nets j ≡ Some x) z e) }
