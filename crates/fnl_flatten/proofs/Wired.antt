-- A flat network is wired.
use Rattle.std.proofs.Common.{◌≡◌, ℕ, zero, suc, ◌<◌, ◌≤◌, true, false, List, [], ◌∷◌, length, map, refl, sym, ap, ◌∙◌, subst, arith}
use Rattle.std.specs.Prelude.{Option, None, Some, slice_get, max, ◌==◌, if◌then◌else◌}
use Rattle.std.proofs.Math.Nat.{le-max_left, le-max_right}
use Rattle.std.proofs.lemmas.List.{length-map}
use Rattle.rvc_base.specs.declared.scalar.Scalar.{Scalar}
use Rattle.net_model.specs.declared.wiring.End.{End}
use Rattle.net_model.specs.declared.wiring.End.TheVariants.{Leaf as AtLeaf, Net as AtNet}
use Rattle.net_model.specs.declared.wiring.Link.{Link}
use Rattle.net_model.specs.Limits.{max_rate}
use Rattle.net_model.specs.Network.{Leaf, Network, is_outside, kind_at}
use Rattle.net_model.specs.Wired.{IsWired, IsJoined, HasInput, HasOutput, ComesFromPort, LeadsToPort, HasKindOf, CoversNeeds, CoversGives, HoldsNeeds, HoldsGives}
use Rattle.fnl_tree.specs.Tree.{Own, Tree}
use Rattle.fnl_flatten.specs.Head.{Head}
use Rattle.fnl_flatten.specs.Joints.{Joint, LeafPort, OwnPort, own_kind, net_kind, kind_of, leaf_rate, rate_at}
use Rattle.fnl_flatten.specs.Links.{writing_end, reading_end, default_capacity, capacity_for, IsLink}
use Rattle.fnl_flatten.specs.Flat.{port_of, HasHead, IsFlat}
use Rattle.fnl_flatten.proofs.Places.{IsThere, HasLeafPort, HasOwnPort, IsInward}
use Rattle.fnl_flatten.proofs.Chains.{chain_inward, begin_there, end_there}

-- ---- lists side by side

beside : {A B : Type 0} (xs : List A) (ys : List B) (k : ℕ) (y : B) → length xs ≡ length ys → slice_get ys k ≡ Some y
    → (x : A) × (slice_get xs k ≡ Some x)
beside [] [] k y same at = cc
beside [] (b ∷ ys) k y same at = cc
beside (a ∷ xs) [] k y same at = cc
beside (a ∷ xs) (b ∷ ys) zero y same at = (a, refl)
beside (a ∷ xs) (b ∷ ys) (suc k) y same at = beside xs ys k y (omega (arith, same)) at

-- ---- leaves and their heads

leaf_of : {X : Type 0} (tree : Tree) (heads : List Head) (net : Network X) → IsFlat tree heads net
    → (l : ℕ) (head : Head) → slice_get heads l ≡ Some head
    → (leaf : Leaf X) × (slice_get net.leaves l ≡ Some leaf) × HasHead head leaf.behaviour
leaf_of tree heads net flat l head at =
    let found = beside net.leaves heads l head flat.count at in
    (found.0, found.1, flat.behaviours l found.0 head found.1 at)

head_of : {X : Type 0} (tree : Tree) (heads : List Head) (net : Network X) → IsFlat tree heads net
    → (l : ℕ) (leaf : Leaf X) → slice_get net.leaves l ≡ Some leaf
    → (head : Head) × (slice_get heads l ≡ Some head) × HasHead head leaf.behaviour
head_of tree heads net flat l leaf at =
    let found = beside heads net.leaves l leaf (sym flat.count) at in
    (found.0, found.1, flat.behaviours l leaf found.0 at found.1)

-- ---- the ends are ports

output_there : {X : Type 0} (tree : Tree) (heads : List Head) (net : Network X) → IsFlat tree heads net
    → (l p : ℕ) (o : Option Head) → slice_get heads l ≡ o → HasLeafPort false p o → HasOutput p (slice_get net.leaves l)
output_there tree heads net flat l p None at there = absurd there
output_there tree heads net flat l p (Some head) at there =
    let found = leaf_of tree heads net flat l head at in
    subst (λ o. HasOutput p o) (sym found.1) (subst (λ n. p < n) (sym found.2.outs) there)

input_there : {X : Type 0} (tree : Tree) (heads : List Head) (net : Network X) → IsFlat tree heads net
    → (l p : ℕ) (o : Option Head) → slice_get heads l ≡ o → HasLeafPort true p o → HasInput p (slice_get net.leaves l)
input_there tree heads net flat l p None at there = absurd there
input_there tree heads net flat l p (Some head) at there =
    let found = leaf_of tree heads net flat l head at in
    subst (λ o. HasInput p o) (sym found.1) (subst (λ n. p < n) (sym found.2.ins) there)

top_in : {X : Type 0} (tree : Tree) (heads : List Head) (net : Network X) (flat : IsFlat tree heads net)
    → (p : ℕ) → HasOwnPort true p (slice_get tree.nets 0) → p < length net.ins
top_in tree heads net flat p there =
    let below : p < length flat.top.ins = subst (λ o. HasOwnPort true p o) flat.is_top there in
    subst (λ n. p < n) (sym (ap length flat.ins ∙ length-map flat.top.ins port_of)) below

top_out : {X : Type 0} (tree : Tree) (heads : List Head) (net : Network X) (flat : IsFlat tree heads net)
    → (p : ℕ) → HasOwnPort false p (slice_get tree.nets 0) → p < length net.outs
top_out tree heads net flat p there =
    let below : p < length flat.top.outs = subst (λ o. HasOwnPort false p o) flat.is_top there in
    subst (λ n. p < n) (sym (ap length flat.outs ∙ length-map flat.top.outs port_of)) below

comes_from : {X : Type 0} (tree : Tree) (heads : List Head) (net : Network X) → IsFlat tree heads net
    → (j : Joint) (e : End) → writing_end j ≡ Some e → IsThere tree heads j → ComesFromPort net e
comes_from tree heads net flat (LeafPort l true p) e is there = cc
comes_from tree heads net flat (LeafPort l false p) e is there =
    let same : AtLeaf (record { 0 = l }) p ≡ e = cc in subst (λ e. ComesFromPort net e) same (output_there tree heads net flat l p (slice_get heads l) refl there)
comes_from tree heads net flat (OwnPort zero true p) e is there =
    let same : AtNet p ≡ e = cc in subst (λ e. ComesFromPort net e) same (top_in tree heads net flat p there)
comes_from tree heads net flat (OwnPort zero false p) e is there = cc
comes_from tree heads net flat (OwnPort (suc n) input p) e is there = cc

leads_to : {X : Type 0} (tree : Tree) (heads : List Head) (net : Network X) → IsFlat tree heads net
    → (j : Joint) (e : End) → reading_end j ≡ Some e → IsThere tree heads j → LeadsToPort net e
leads_to tree heads net flat (LeafPort l true p) e is there =
    let same : AtLeaf (record { 0 = l }) p ≡ e = cc in subst (λ e. LeadsToPort net e) same (input_there tree heads net flat l p (slice_get heads l) refl there)
leads_to tree heads net flat (LeafPort l false p) e is there = cc
leads_to tree heads net flat (OwnPort zero true p) e is there = cc
leads_to tree heads net flat (OwnPort zero false p) e is there =
    let same : AtNet p ≡ e = cc in subst (λ e. LeadsToPort net e) same (top_out tree heads net flat p there)
leads_to tree heads net flat (OwnPort (suc n) input p) e is there = cc

-- ---- the ends aren't both the network's

from_outside : (j : Joint) (e : End) → writing_end j ≡ Some e → is_outside e ≡ true → IsInward j
from_outside (LeafPort l true p) e is outside = cc
from_outside (LeafPort l false p) e is outside =
    let same : AtLeaf (record { 0 = l }) p ≡ e = cc in
    let inside : is_outside (AtLeaf (record { 0 = l }) p) ≡ true = subst (λ e. is_outside e ≡ true) (sym same) outside in cc
from_outside (OwnPort zero true p) e is outside = tt
from_outside (OwnPort zero false p) e is outside = cc
from_outside (OwnPort (suc n) input p) e is outside = cc

to_inside : (j : Joint) (e : End) → reading_end j ≡ Some e → IsInward j → is_outside e ≡ false
to_inside (LeafPort l true p) e is inward =
    let same : AtLeaf (record { 0 = l }) p ≡ e = cc in subst (λ e. is_outside e ≡ false) same (refl)
to_inside (LeafPort l false p) e is inward = cc
to_inside (OwnPort zero true p) e is inward = cc
to_inside (OwnPort zero false p) e is inward = absurd inward
to_inside (OwnPort (suc n) input p) e is inward = cc

-- ---- the type of a link to an output

kind_there : (ports : List Own) (p : ℕ) (k : Scalar) → own_kind (slice_get ports p) ≡ Some k → k ≡ kind_at (map port_of ports) p
kind_there [] p k is = cc
kind_there (x ∷ ports) zero k is = let same : x.kind ≡ k = cc in sym same
kind_there (x ∷ ports) (suc p) k is = kind_there ports p k is

output_kind : {X : Type 0} (tree : Tree) (heads : List Head) (net : Network X) → IsFlat tree heads net → (link : Link)
    → (j : Joint) (e : End) → reading_end j ≡ Some e → kind_of tree heads j ≡ Some link.kind → HasKindOf net link e
output_kind tree heads net flat link (LeafPort l true p) e is kind =
    let same : AtLeaf (record { 0 = l }) p ≡ e = cc in subst (λ e. HasKindOf net link e) same (tt)
output_kind tree heads net flat link (LeafPort l false p) e is kind = cc
output_kind tree heads net flat link (OwnPort zero true p) e is kind = cc
output_kind tree heads net flat link (OwnPort zero false p) e is kind =
    let of_top : own_kind (slice_get flat.top.outs p) ≡ Some link.kind = subst (λ o. net_kind false p o ≡ Some link.kind) flat.is_top kind in
    let there : link.kind ≡ kind_at net.outs p = subst (λ outs. link.kind ≡ kind_at outs p) (sym flat.outs) (kind_there flat.top.outs p link.kind of_top) in
    let same : AtNet p ≡ e = cc in subst (λ e. HasKindOf net link e) same there
output_kind tree heads net flat link (OwnPort (suc n) input p) e is kind = cc

-- ---- capacities

takes_fit : (size gives takes : ℕ) → takes ≤ capacity_for size gives takes
takes_fit size gives takes =
    let inner = le-max_right gives takes in
    let outer = le-max_right (if size == 0 then default_capacity else size) (max gives takes) in
    omega (arith, inner, outer)

gives_fit : (size gives takes : ℕ) → gives ≤ capacity_for size gives takes
gives_fit size gives takes =
    let inner = le-max_left gives takes in
    let outer = le-max_right (if size == 0 then default_capacity else size) (max gives takes) in
    omega (arith, inner, outer)

covers_needs : {X : Type 0} (tree : Tree) (heads : List Head) (net : Network X) → IsFlat tree heads net
    → (l p c : ℕ) → leaf_rate true p (slice_get heads l) ≤ c → (o : Option (Leaf X)) → slice_get net.leaves l ≡ o → CoversNeeds c p o
covers_needs tree heads net flat l p c fits None at = tt
covers_needs tree heads net flat l p c fits (Some leaf) at = λ a.
    let found = head_of tree heads net flat l leaf at in
    let needs = found.2.needs a p in
    let rate : leaf_rate true p (Some found.0) ≤ c = subst (λ o. leaf_rate true p o ≤ c) found.1 fits in
    omega (arith, needs, rate)

covers_gives : {X : Type 0} (tree : Tree) (heads : List Head) (net : Network X) → IsFlat tree heads net
    → (l p c : ℕ) → leaf_rate false p (slice_get heads l) ≤ c → (o : Option (Leaf X)) → slice_get net.leaves l ≡ o → CoversGives c p o
covers_gives tree heads net flat l p c fits None at = tt
covers_gives tree heads net flat l p c fits (Some leaf) at = λ a.
    let found = head_of tree heads net flat l leaf at in
    let gives = found.2.gives a p in
    let rate : leaf_rate false p (Some found.0) ≤ c = subst (λ o. leaf_rate false p o ≤ c) found.1 fits in
    omega (arith, gives, rate)

holds_needs : {X : Type 0} (tree : Tree) (heads : List Head) (net : Network X) → IsFlat tree heads net
    → (c : ℕ) (j : Joint) (e : End) → reading_end j ≡ Some e → rate_at heads j ≤ c → HoldsNeeds net c e
holds_needs tree heads net flat c (LeafPort l true p) e is fits =
    let same : AtLeaf (record { 0 = l }) p ≡ e = cc in subst (λ e. HoldsNeeds net c e) same (covers_needs tree heads net flat l p c fits (slice_get net.leaves l) refl)
holds_needs tree heads net flat c (LeafPort l false p) e is fits = cc
holds_needs tree heads net flat c (OwnPort zero true p) e is fits = cc
holds_needs tree heads net flat c (OwnPort zero false p) e is fits =
    let same : AtNet p ≡ e = cc in subst (λ e. HoldsNeeds net c e) same (tt)
holds_needs tree heads net flat c (OwnPort (suc n) input p) e is fits = cc

holds_gives : {X : Type 0} (tree : Tree) (heads : List Head) (net : Network X) → IsFlat tree heads net
    → (c : ℕ) (j : Joint) (e : End) → writing_end j ≡ Some e → rate_at heads j ≤ c → HoldsGives net c e
holds_gives tree heads net flat c (LeafPort l true p) e is fits = cc
holds_gives tree heads net flat c (LeafPort l false p) e is fits =
    let same : AtLeaf (record { 0 = l }) p ≡ e = cc in subst (λ e. HoldsGives net c e) same (covers_gives tree heads net flat l p c fits (slice_get net.leaves l) refl)
holds_gives tree heads net flat c (OwnPort zero true p) e is fits =
    let same : AtNet p ≡ e = cc in subst (λ e. HoldsGives net c e) same (tt)
holds_gives tree heads net flat c (OwnPort zero false p) e is fits = cc
holds_gives tree heads net flat c (OwnPort (suc n) input p) e is fits = cc

-- ---- each link, and all

joined : {X : Type 0} (tree : Tree) (heads : List Head) (net : Network X) → IsFlat tree heads net
    → (link : Link) → IsLink tree heads link → IsJoined net link
joined tree heads net flat link is = record {
  from_port = comes_from tree heads net flat is.writer link.from is.from (begin_there tree heads is.chain);
  to_port = leads_to tree heads net flat is.reader link.to is.to (end_there tree heads is.chain);
  inside = λ outside. to_inside is.reader link.to is.to
      (chain_inward tree heads flat.conforms is.chain (from_outside is.writer link.from is.from outside));
  output_kind = output_kind tree heads net flat link is.reader link.to is.to is.kind;
  holds_needs = holds_needs tree heads net flat link.capacity is.reader link.to is.to
      (subst (λ c. rate_at heads is.reader ≤ c) (sym is.capacity)
      (takes_fit is.size (rate_at heads is.writer) (rate_at heads is.reader)));
  holds_gives = holds_gives tree heads net flat link.capacity is.writer link.from is.from
      (subst (λ c. rate_at heads is.writer ≤ c) (sym is.capacity)
      (gives_fit is.size (rate_at heads is.writer) (rate_at heads is.reader)));
}

few_taken : {X : Type 0} (tree : Tree) (heads : List Head) (net : Network X) → IsFlat tree heads net
    → (i : ℕ) (leaf : Leaf X) → slice_get net.leaves i ≡ Some leaf → (a p : ℕ) → leaf.behaviour.need a p ≤ max_rate
few_taken tree heads net flat i leaf at a p =
    let found = head_of tree heads net flat i leaf at in
    let needs = found.2.needs a p in
    let few = found.2.few_taken p in
    omega (arith, needs, few)

few_given : {X : Type 0} (tree : Tree) (heads : List Head) (net : Network X) → IsFlat tree heads net
    → (i : ℕ) (leaf : Leaf X) → slice_get net.leaves i ≡ Some leaf → (a p : ℕ) → leaf.behaviour.give a p ≤ max_rate
few_given tree heads net flat i leaf at a p =
    let found = head_of tree heads net flat i leaf at in
    let gives = found.2.gives a p in
    let few = found.2.few_given p in
    omega (arith, gives, few)

pub flat_wired : {X : Type 0} (tree : Tree) (heads : List Head) (net : Network X) → IsFlat tree heads net → IsWired net
flat_wired tree heads net flat = record {
  joined = λ l link at. joined tree heads net flat link (flat.links.each l link at);
  in_order = flat.links.in_order;
  few_leaves = flat.few;
  few_links = flat.links.few;
  few_taken = few_taken tree heads net flat;
  few_given = few_given tree heads net flat;
}
