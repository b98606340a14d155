-- Where connections meet: the ports of actors and of networks.
-- Trusted: part of what a promise means.
use Rattle.std.specs.Prelude.{ℕ, suc, Bool, true, false, List, [], ◌∷◌, map, option_map, Option, None, Some, slice_get, if◌then◌else◌}
use Rattle.std.specs.Str.{bytes_eq}
use Rattle.rvc_base.specs.declared.scalar.Scalar.{Scalar}
pub use Rattle.fnl_flatten.specs.declared.joint.Joint.{Joint}
pub use Rattle.fnl_flatten.specs.declared.joint.Joint.TheVariants.{Leaf as LeafPort, Own as OwnPort}
use Rattle.fnl_tree.specs.Tree.{Inner, InnerNet, InnerLeaf, Part, Own, Wire, Net, Tree}
use Rattle.fnl_flatten.specs.Head.{HeadPort, Head, head_names}

-- ---- names

-- at which place a name stands, counted from k
abbrev pub place_from : ℕ → List ℕ → List (List ℕ) → Option ℕ
place_from k name [] = None
place_from k name (x ∷ xs) = if bytes_eq x name then Some k else place_from (suc k) name xs

abbrev pub place_of : List ℕ → List (List ℕ) → Option ℕ
place_of name names = place_from 0 name names

abbrev pub own_names : List Own → List (List ℕ)
own_names ports = map (λ p. p.name) ports

abbrev pub is_nameless : List ℕ → Bool
is_nameless [] = true
is_nameless (b ∷ bs) = false

abbrev pub part_named : List ℕ → List Part → Option Inner
part_named id [] = None
part_named id (p ∷ ps) = if bytes_eq p.id id then Some p.inner else part_named id ps

-- ---- the ends of a connection

abbrev pub net_output : ℕ → Option Net → List ℕ → Option Joint
net_output m None name = None
net_output m (Some net) name = option_map
    (λ p. OwnPort m false p) (place_of name (own_names net.outs))

abbrev pub net_input : ℕ → Option Net → List ℕ → Option Joint
net_input m None name = None
net_input m (Some net) name = option_map (λ p. OwnPort m true p) (place_of name (own_names net.ins))

abbrev pub leaf_output : ℕ → Option Head → List ℕ → Option Joint
leaf_output l None name = None
leaf_output l (Some head) name =
    option_map (λ p. LeafPort l false p) (place_of name (head_names head.outs))

abbrev pub leaf_input : ℕ → Option Head → List ℕ → Option Joint
leaf_input l None name = None
leaf_input l (Some head) name =
    option_map (λ p. LeafPort l true p) (place_of name (head_names head.ins))

-- the output of this name of an instance
abbrev pub part_output : Tree → List Head → Option Inner → List ℕ → Option Joint
part_output tree heads None name = None
part_output tree heads (Some (InnerNet m)) name = net_output m (slice_get tree.nets m) name
part_output tree heads (Some (InnerLeaf l)) name = leaf_output l (slice_get heads l) name

-- the input of this name of an instance
abbrev pub part_input : Tree → List Head → Option Inner → List ℕ → Option Joint
part_input tree heads None name = None
part_input tree heads (Some (InnerNet m)) name = net_input m (slice_get tree.nets m) name
part_input tree heads (Some (InnerLeaf l)) name = leaf_input l (slice_get heads l) name

-- the network's own input, or the output of an instance, of which a connection takes
abbrev pub own_input : ℕ → Net → List ℕ → Option Joint
own_input n net name = net_input n (Some net) name

abbrev pub own_output : ℕ → Net → List ℕ → Option Joint
own_output n net name = net_output n (Some net) name

-- where a connection of network n begins, and where it ends, if these ports are there
abbrev pub source : Tree → List Head → ℕ → Net → Wire → Option Joint
source tree heads n net w = if is_nameless w.src then own_input n net w.src_port
    else part_output tree heads (part_named w.src net.parts) w.src_port

abbrev pub target : Tree → List Head → ℕ → Net → Wire → Option Joint
target tree heads n net w = if is_nameless w.dst then own_output n net w.dst_port
    else part_input tree heads (part_named w.dst net.parts) w.dst_port

-- ---- types and rates

abbrev pub own_kind : Option Own → Option Scalar
own_kind None = None
own_kind (Some p) = Some p.kind

abbrev pub head_kind : Option HeadPort → Option Scalar
head_kind None = None
head_kind (Some p) = Some p.kind

abbrev pub net_kind : Bool → ℕ → Option Net → Option Scalar
net_kind input p None = None
net_kind true p (Some net) = own_kind (slice_get net.ins p)
net_kind false p (Some net) = own_kind (slice_get net.outs p)

abbrev pub leaf_kind : Bool → ℕ → Option Head → Option Scalar
leaf_kind input p None = None
leaf_kind true p (Some head) = head_kind (slice_get head.ins p)
leaf_kind false p (Some head) = head_kind (slice_get head.outs p)

-- the type of a port
abbrev pub kind_of : Tree → List Head → Joint → Option Scalar
kind_of tree heads (LeafPort l input p) = leaf_kind input p (slice_get heads l)
kind_of tree heads (OwnPort n input p) = net_kind input p (slice_get tree.nets n)

abbrev pub rate_of : Option HeadPort → ℕ
rate_of None = 0
rate_of (Some p) = p.largest

abbrev pub leaf_rate : Bool → ℕ → Option Head → ℕ
leaf_rate input p None = 0
leaf_rate true p (Some head) = rate_of (slice_get head.ins p)
leaf_rate false p (Some head) = rate_of (slice_get head.outs p)

-- the most tokens that a firing takes or gives at a port: none at a network's
abbrev pub rate_at : List Head → Joint → ℕ
rate_at heads (LeafPort l input p) = leaf_rate input p (slice_get heads l)
rate_at heads (OwnPort n input p) = 0
