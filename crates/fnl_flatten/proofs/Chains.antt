-- Chains join ports that are there. One that leads inwards stays inside, if no connection joins a network's own ports.
use Rattle.std.proofs.Common.{◌≡◌, ℕ, zero, suc, Bool, true, false, List, [], ◌∷◌, ◌++◌, refl, subst}
use Rattle.std.specs.Prelude.{Some, slice_get, if◌then◌else◌, ◌&&◌}
use Rattle.rvc_base.specs.Rules.{no_ends}
use Rattle.fnl_tree.specs.Tree.{Wire, Net, Tree}
use Rattle.fnl_flatten.specs.Head.{Head}
use Rattle.fnl_flatten.specs.Joints.{Joint, is_nameless, source, target}
use Rattle.fnl_flatten.specs.Links.{Leads, Chain, last, more}
use Rattle.fnl_flatten.specs.Rules.{found, is_direct, ends_broken, wire_broken, wires_broken, seconds_broken, net_broken, nets_broken, violations}
use Rattle.fnl_flatten.proofs.Places.{IsThere, IsInward, source_there, target_there, from_own, to_part}

-- ---- no connection joins a network's own ports

both_empty : {A : Type 0} (xs ys : List A) → xs ++ ys ≡ [] → (xs ≡ []) × (ys ≡ [])
both_empty [] ys h = (refl, h)
both_empty (x ∷ xs) ys h = cc

wire_fine : (tree : Tree) (heads : List Head) (n : ℕ) (net : Net) (w : Wire)
    → wire_broken tree heads n net w ≡ [] → is_direct w ≡ false
wire_fine tree heads n net w h = go (is_direct w) h
  where
    go : (b : Bool) → (if b then found no_ends net w else ends_broken tree heads net w (source tree heads n net w) (target tree heads n net w)) ≡ [] → b ≡ false
    go true h = cc
    go false h = refl

wires_fine : (tree : Tree) (heads : List Head) (n : ℕ) (net : Net) (ws : List Wire) (k : ℕ) (w : Wire)
    → slice_get ws k ≡ Some w → wires_broken tree heads n net ws ≡ [] → is_direct w ≡ false
wires_fine tree heads n net [] k w at h = cc
wires_fine tree heads n net (x ∷ ws) zero w at h =
    let same : x ≡ w = cc in
    subst (λ y. is_direct y ≡ false) same
    (wire_fine tree heads n net x (both_empty (wire_broken tree heads n net x) (wires_broken tree heads n net ws) h).0)
wires_fine tree heads n net (x ∷ ws) (suc k) w at h =
    wires_fine tree heads n net ws k w at (both_empty (wire_broken tree heads n net x) (wires_broken tree heads n net ws) h).1

nets_fine : (tree : Tree) (heads : List Head) (m : ℕ) (nets : List Net) (k : ℕ) (net : Net)
    → slice_get nets k ≡ Some net → nets_broken tree heads m nets ≡ [] → (n : ℕ) × (net_broken tree heads n net ≡ [])
nets_fine tree heads m [] k net at h = cc
nets_fine tree heads m (x ∷ nets) zero net at h =
    let same : x ≡ net = cc in
    (m, subst (λ y. net_broken tree heads m y ≡ []) same (both_empty (net_broken tree heads m x) (nets_broken tree heads (suc m) nets) h).0)
nets_fine tree heads m (x ∷ nets) (suc k) net at h =
    nets_fine tree heads (suc m) nets k net at (both_empty (net_broken tree heads m x) (nets_broken tree heads (suc m) nets) h).1

-- a connection of a tree that breaks no rule names an instance
pub none_direct : (tree : Tree) (heads : List Head) → violations tree heads ≡ [] → (k : ℕ) (net : Net) (p : ℕ) (w : Wire)
    → slice_get tree.nets k ≡ Some net → slice_get net.wires p ≡ Some w → is_direct w ≡ false
none_direct tree heads h k net p w at_net at_wire =
    let found = nets_fine tree heads 0 tree.nets k net at_net h in
    wires_fine tree heads found.0 net net.wires p w at_wire
    (both_empty (wires_broken tree heads found.0 net net.wires) (seconds_broken tree heads found.0 net net.wires []) found.1).0

-- ---- inwards

second_false : (a b : Bool) → (a && b) ≡ false → a ≡ true → b ≡ false
second_false true b h is = h
second_false false b h is = cc

leads_inward : (tree : Tree) (heads : List Head) → violations tree heads ≡ [] → {j k : Joint} {size : ℕ}
    → Leads tree heads j k size → IsInward j → IsInward k
leads_inward tree heads h {j} {k} leads inward =
    to_part tree heads leads.number leads.net leads.wire k leads.ends
    (second_false (is_nameless leads.wire.src) (is_nameless leads.wire.dst)
    (none_direct tree heads h leads.number leads.net leads.place leads.wire leads.is_net leads.is_wire)
    (from_own tree heads leads.number leads.net leads.wire j leads.begins inward))

pub chain_inward : (tree : Tree) (heads : List Head) → violations tree heads ≡ [] → {j k : Joint} {size : ℕ}
    → Chain tree heads j k size → IsInward j → IsInward k
chain_inward tree heads h (last leads) inward = leads_inward tree heads h leads inward
chain_inward tree heads h (more leads chain) inward = chain_inward tree heads h chain (leads_inward tree heads h leads inward)

-- ---- the ends of a chain are there

pub begin_there : (tree : Tree) (heads : List Head) {j k : Joint} {size : ℕ} → Chain tree heads j k size → IsThere tree heads j
begin_there tree heads {j} (last leads) = source_there tree heads leads.number leads.net leads.wire j leads.is_net leads.begins
begin_there tree heads {j} (more leads chain) = source_there tree heads leads.number leads.net leads.wire j leads.is_net leads.begins

pub end_there : (tree : Tree) (heads : List Head) {j k : Joint} {size : ℕ} → Chain tree heads j k size → IsThere tree heads k
end_there tree heads {j} {k} (last leads) = target_there tree heads leads.number leads.net leads.wire k leads.is_net leads.ends
end_there tree heads (more leads chain) = end_there tree heads chain
