-- The ends of connections are ports that are there.
use Rattle.std.proofs.Common.{◌≡◌, ℕ, suc, ◌+◌, ◌<◌, Bool, true, false, List, [], ◌∷◌, length, refl, sym, subst, arith}
use Rattle.std.specs.Prelude.{Option, None, Some, option_map, slice_get, if◌then◌else◌}
use Rattle.std.specs.Str.{bytes_eq}
use Rattle.std.proofs.lemmas.List.{length-map}
use Rattle.fnl_tree.specs.Tree.{Inner, InnerNet, InnerLeaf, Own, Wire, Net, Tree}
use Rattle.fnl_flatten.specs.Head.{HeadPort, Head, head_names}
use Rattle.fnl_flatten.specs.Joints.{Joint, LeafPort, OwnPort, place_from, place_of, own_names, is_nameless, part_named, net_output, net_input, leaf_output, leaf_input, part_output, part_input, own_input, own_output, source, target}

-- ---- a place of a name is below their number

place_below : (k : ℕ) (name : List ℕ) (names : List (List ℕ)) (p : ℕ)
    → place_from k name names ≡ Some p → p < k + length names
place_below k name [] p found = cc
place_below k name (x ∷ xs) p found = go (bytes_eq x name) (place_below (suc k) name xs p) found
  where
    go : (b : Bool) → (place_from (suc k) name xs ≡ Some p → p < suc k + length xs)
        → (if b then Some k else place_from (suc k) name xs) ≡ Some p → p < k + suc (length xs)
    go true later here = let same : k ≡ p = cc in subst (λ q. q < k + suc (length xs)) same (omega arith)
    go false later there = let below = later there in omega (arith, below)

-- ---- what is there

-- the leaf or the network has this port
abbrev pub HasLeafPort : Bool → ℕ → Option Head → Type 0
HasLeafPort input p None = ⊥
HasLeafPort true p (Some head) = p < length head.ins
HasLeafPort false p (Some head) = p < length head.outs

abbrev pub HasOwnPort : Bool → ℕ → Option Net → Type 0
HasOwnPort input p None = ⊥
HasOwnPort true p (Some net) = p < length net.ins
HasOwnPort false p (Some net) = p < length net.outs

abbrev pub IsThere : Tree → List Head → Joint → Type 0
IsThere tree heads (LeafPort l input p) = HasLeafPort input p (slice_get heads l)
IsThere tree heads (OwnPort n input p) = HasOwnPort input p (slice_get tree.nets n)

-- a joint through which tokens go into networks, and one through which they come out
abbrev pub IsInward : Joint → Type 0
IsInward (LeafPort l true p) = Unit {0}
IsInward (LeafPort l false p) = ⊥
IsInward (OwnPort n true p) = Unit {0}
IsInward (OwnPort n false p) = ⊥

-- what an option of a place gives
placed : {A : Type 0} (P : A → Type 0) (f : ℕ → A) (o : Option ℕ) (j : A)
    → ((p : ℕ) → o ≡ Some p → P (f p)) → option_map f o ≡ Some j → P j
placed P f None j each found = cc
placed P f (Some p) j each found = let same : f p ≡ j = cc in subst P same (each p refl)

own_below : (name : List ℕ) (ports : List Own) (p : ℕ) → place_of name (own_names ports) ≡ Some p → p < length ports
own_below name ports p found =
    let below = place_below 0 name (own_names ports) p found in
    let same : length (own_names ports) ≡ length ports = length-map ports (λ o. o.name) in omega (arith, below, same)

head_below : (name : List ℕ) (ports : List HeadPort) (p : ℕ) → place_of name (head_names ports) ≡ Some p → p < length ports
head_below name ports p found =
    let below = place_below 0 name (head_names ports) p found in
    let same : length (head_names ports) ≡ length ports = length-map ports (λ o. o.name) in omega (arith, below, same)

-- ---- each end

net_output_there : (tree : Tree) (heads : List Head) (m : ℕ) (o : Option Net) (name : List ℕ) (j : Joint)
    → slice_get tree.nets m ≡ o → net_output m o name ≡ Some j → IsThere tree heads j
net_output_there tree heads m None name j is found = cc
net_output_there tree heads m (Some net) name j is found =
    placed (IsThere tree heads) (λ p. OwnPort m false p) (place_of name (own_names net.outs)) j
    (λ p at. subst (λ o. HasOwnPort false p o) (sym is) (own_below name net.outs p at)) found

net_input_there : (tree : Tree) (heads : List Head) (m : ℕ) (o : Option Net) (name : List ℕ) (j : Joint)
    → slice_get tree.nets m ≡ o → net_input m o name ≡ Some j → IsThere tree heads j
net_input_there tree heads m None name j is found = cc
net_input_there tree heads m (Some net) name j is found =
    placed (IsThere tree heads) (λ p. OwnPort m true p) (place_of name (own_names net.ins)) j
    (λ p at. subst (λ o. HasOwnPort true p o) (sym is) (own_below name net.ins p at)) found

leaf_output_there : (tree : Tree) (heads : List Head) (l : ℕ) (o : Option Head) (name : List ℕ) (j : Joint)
    → slice_get heads l ≡ o → leaf_output l o name ≡ Some j → IsThere tree heads j
leaf_output_there tree heads l None name j is found = cc
leaf_output_there tree heads l (Some head) name j is found =
    placed (IsThere tree heads) (λ p. LeafPort l false p) (place_of name (head_names head.outs)) j
    (λ p at. subst (λ o. HasLeafPort false p o) (sym is) (head_below name head.outs p at)) found

leaf_input_there : (tree : Tree) (heads : List Head) (l : ℕ) (o : Option Head) (name : List ℕ) (j : Joint)
    → slice_get heads l ≡ o → leaf_input l o name ≡ Some j → IsThere tree heads j
leaf_input_there tree heads l None name j is found = cc
leaf_input_there tree heads l (Some head) name j is found =
    placed (IsThere tree heads) (λ p. LeafPort l true p) (place_of name (head_names head.ins)) j
    (λ p at. subst (λ o. HasLeafPort true p o) (sym is) (head_below name head.ins p at)) found

part_output_there : (tree : Tree) (heads : List Head) (inner : Option Inner) (name : List ℕ) (j : Joint)
    → part_output tree heads inner name ≡ Some j → IsThere tree heads j
part_output_there tree heads None name j found = cc
part_output_there tree heads (Some (InnerNet m)) name j found = net_output_there tree heads m (slice_get tree.nets m) name j refl found
part_output_there tree heads (Some (InnerLeaf l)) name j found = leaf_output_there tree heads l (slice_get heads l) name j refl found

part_input_there : (tree : Tree) (heads : List Head) (inner : Option Inner) (name : List ℕ) (j : Joint)
    → part_input tree heads inner name ≡ Some j → IsThere tree heads j
part_input_there tree heads None name j found = cc
part_input_there tree heads (Some (InnerNet m)) name j found = net_input_there tree heads m (slice_get tree.nets m) name j refl found
part_input_there tree heads (Some (InnerLeaf l)) name j found = leaf_input_there tree heads l (slice_get heads l) name j refl found

either : {A : Type 0} (P : A → Type 0) (b : Bool) (x y : Option A) (j : A)
    → (x ≡ Some j → P j) → (y ≡ Some j → P j) → (if b then x else y) ≡ Some j → P j
either P true x y j first second found = first found
either P false x y j first second found = second found

pub source_there : (tree : Tree) (heads : List Head) (n : ℕ) (net : Net) (w : Wire) (j : Joint)
    → slice_get tree.nets n ≡ Some net → source tree heads n net w ≡ Some j → IsThere tree heads j
source_there tree heads n net w j is found = either (IsThere tree heads) (is_nameless w.src)
    (own_input n net w.src_port) (part_output tree heads (part_named w.src net.parts) w.src_port) j
    (net_input_there tree heads n (Some net) w.src_port j is)
    (part_output_there tree heads (part_named w.src net.parts) w.src_port j) found

pub target_there : (tree : Tree) (heads : List Head) (n : ℕ) (net : Net) (w : Wire) (j : Joint)
    → slice_get tree.nets n ≡ Some net → target tree heads n net w ≡ Some j → IsThere tree heads j
target_there tree heads n net w j is found = either (IsThere tree heads) (is_nameless w.dst)
    (own_output n net w.dst_port) (part_input tree heads (part_named w.dst net.parts) w.dst_port) j
    (net_output_there tree heads n (Some net) w.dst_port j is)
    (part_input_there tree heads (part_named w.dst net.parts) w.dst_port j) found

-- ---- inwards

part_output_outward : (tree : Tree) (heads : List Head) (inner : Option Inner) (name : List ℕ) (j : Joint)
    → part_output tree heads inner name ≡ Some j → IsInward j → ⊥
part_output_outward tree heads None name j found = cc
part_output_outward tree heads (Some (InnerNet m)) name j found = of_net (slice_get tree.nets m) found
  where
    of_net : (o : Option Net) → net_output m o name ≡ Some j → IsInward j → ⊥
    of_net None h = cc
    of_net (Some net) h = placed (λ k. IsInward k → ⊥) (λ p. OwnPort m false p) (place_of name (own_names net.outs)) j (λ p at no. no) h
part_output_outward tree heads (Some (InnerLeaf l)) name j found = of_leaf (slice_get heads l) found
  where
    of_leaf : (o : Option Head) → leaf_output l o name ≡ Some j → IsInward j → ⊥
    of_leaf None h = cc
    of_leaf (Some head) h = placed (λ k. IsInward k → ⊥) (λ p. LeafPort l false p) (place_of name (head_names head.outs)) j (λ p at no. no) h

part_input_inward : (tree : Tree) (heads : List Head) (inner : Option Inner) (name : List ℕ) (j : Joint)
    → part_input tree heads inner name ≡ Some j → IsInward j
part_input_inward tree heads None name j found = cc
part_input_inward tree heads (Some (InnerNet m)) name j found = of_net (slice_get tree.nets m) found
  where
    of_net : (o : Option Net) → net_input m o name ≡ Some j → IsInward j
    of_net None h = cc
    of_net (Some net) h = placed IsInward (λ p. OwnPort m true p) (place_of name (own_names net.ins)) j (λ p at. tt) h
part_input_inward tree heads (Some (InnerLeaf l)) name j found = of_leaf (slice_get heads l) found
  where
    of_leaf : (o : Option Head) → leaf_input l o name ≡ Some j → IsInward j
    of_leaf None h = cc
    of_leaf (Some head) h = placed IsInward (λ p. LeafPort l true p) (place_of name (head_names head.ins)) j (λ p at. tt) h

-- a connection from an inward joint begins at the network's own input
pub from_own : (tree : Tree) (heads : List Head) (n : ℕ) (net : Net) (w : Wire) (j : Joint)
    → source tree heads n net w ≡ Some j → IsInward j → is_nameless w.src ≡ true
from_own tree heads n net w j found inward = go (is_nameless w.src) found
  where
    go : (b : Bool) → (if b then own_input n net w.src_port else part_output tree heads (part_named w.src net.parts) w.src_port) ≡ Some j → b ≡ true
    go true h = refl
    go false h = absurd (part_output_outward tree heads (part_named w.src net.parts) w.src_port j h inward)

-- a connection to an instance leads inwards
pub to_part : (tree : Tree) (heads : List Head) (n : ℕ) (net : Net) (w : Wire) (j : Joint)
    → target tree heads n net w ≡ Some j → is_nameless w.dst ≡ false → IsInward j
to_part tree heads n net w j found named = go (is_nameless w.dst) named found
  where
    go : (b : Bool) → b ≡ false → (if b then own_output n net w.dst_port else part_input tree heads (part_named w.dst net.parts) w.dst_port) ≡ Some j → IsInward j
    go true named_so h = cc
    go false named_so h = part_input_inward tree heads (part_named w.dst net.parts) w.dst_port j h
