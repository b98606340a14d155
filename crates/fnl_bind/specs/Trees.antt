-- The tree that networks make from their top down: the rules that they break, and the tree if they break none (ISO/IEC
-- 23001-4, FNL).
--
-- A network stands in no network of its own class, so chains of networks inside each other are at most as long as there
-- are networks.
-- Trusted: part of what a promise means.
use Rattle.std.specs.Prelude.{ℕ, zero, suc, ◌+◌, List, [], ◌∷◌, ◌++◌, length, Option, None, Some, slice_get, if◌then◌else◌}
use Rattle.rvc_base.specs.Rules.{too_many_instances}
use Rattle.net_model.specs.Limits.{max_instances}
use Rattle.cal_check.specs.Violations.{violation}
use Rattle.cal_check.specs.Variables.{Spot, Found, found_in}
use Rattle.fnl_read.specs.Net.{Instance}
use Rattle.fnl_tree.specs.Tree.{Inner, InnerNet, InnerLeaf, Part, Net as BoundNet, Leaf, Tree as BoundTree}
use Rattle.fnl_bind.specs.Library.{Entry, network_of, is_among, instance_id, instance_class, instance_at}
use Rattle.fnl_bind.specs.Networks.{Place, Standing, StandsNet, StandsLeaf, StandsNot, standing, own_found, net_with}

-- ---- the rules that are broken

abbrev pub found_standing : (Place → List Found) → Standing → List Found
found_standing inner (StandsNet p) = inner p
found_standing inner (StandsLeaf leaf) = []
found_standing inner StandsNot = []

abbrev pub found_inside : (Place → List Found) → List Entry → Place → List Instance → List Found
found_inside inner library p [] = []
found_inside inner library p (i ∷ is) =
    found_standing inner (standing library p i) ++ found_inside inner library p is

-- what a network breaks, or else what those inside it do
abbrev pub found_or_inside : List Found → (Place → List Found) → List Entry → Place → List Found
found_or_inside [] inner library p = found_inside inner library p p.entry.net.instances
found_or_inside (f ∷ fs) inner library p = f ∷ fs

-- at so many networks inside each other
abbrev pub found_at : ℕ → List Entry → Place → List Found
found_at zero library p = own_found p
found_at (suc n) library p = found_or_inside (own_found p) (found_at n library) library p

-- ---- how many instances there are

-- the places of all instances, each before those inside it
abbrev pub instances_under : (Entry → List (List ℕ) → List Spot) → Option Entry
    → List (List ℕ) → List Spot
instances_under inner None above = []
instances_under inner (Some e) above =
    if is_among e.class above then [] else inner e (e.class ∷ above)

abbrev pub instances_inside : (Entry → List (List ℕ) → List Spot) → List Entry → ℕ
    → List Instance → List (List ℕ) → List Spot
instances_inside inner library file [] above = []
instances_inside inner library file (i ∷ is) above =
    record { file = file; at = instance_at i }
    ∷ (instances_under inner (network_of (instance_class i) library) above
    ++ instances_inside inner library file is above)

abbrev pub instances_at : ℕ → List Entry → Entry → List (List ℕ) → List Spot
instances_at zero library e above = []
instances_at (suc n) library e above =
    instances_inside (instances_at n library) library e.file e.net.instances above

-- the instance that passes the limit
abbrev pub passing : Option Spot → List Found
passing None = []
passing (Some spot) = found_in spot.file (violation too_many_instances spot.at)

-- ---- the tree

-- networks and leaves, in their order
pub record Grown : Type 0 where
  pub nets : List BoundNet
  pub leaves : List Leaf

-- the same with the parts of the network in which they stand
pub record Filled : Type 0 where
  pub parts : List Part
  pub grown : Grown

abbrev pub nothing_grown : Grown
nothing_grown = record { nets = []; leaves = [] }

abbrev pub nothing_filled : Filled
nothing_filled = record { parts = []; grown = nothing_grown }

abbrev pub and_grown : Grown → Grown → Grown
and_grown g rest = record { nets = g.nets ++ rest.nets; leaves = g.leaves ++ rest.leaves }

abbrev pub with_part : List ℕ → Inner → Grown → Filled → Filled
with_part id inner g rest = record {
  parts = record { id = id; inner = inner } ∷ rest.parts;
  grown = and_grown g rest.grown;
}

-- one part more before the others, which are numbered behind it
abbrev pub part_before : List ℕ → Inner → Grown → (ℕ → ℕ → Filled) → ℕ → ℕ → Filled
part_before id inner g rest net leaf =
    with_part id inner g (rest (net + length g.nets) (leaf + length g.leaves))

abbrev pub filled_by : (Place → ℕ → ℕ → Grown) → List ℕ → Standing → (ℕ → ℕ → Filled) → ℕ → ℕ
    → Filled
filled_by inner id (StandsNet p) rest net leaf =
    part_before id (InnerNet net) (inner p net leaf) rest net leaf
filled_by inner id (StandsLeaf l) rest net leaf =
    part_before id (InnerLeaf leaf) (record { nets = []; leaves = l ∷ [] }) rest net leaf
filled_by inner id StandsNot rest net leaf = rest net leaf

-- the parts that instances make, the next network and the next leaf having these numbers
abbrev pub filled : (Place → ℕ → ℕ → Grown) → List Entry → Place → List Instance → ℕ → ℕ → Filled
filled inner library p [] net leaf = nothing_filled
filled inner library p (i ∷ is) net leaf =
    filled_by inner (instance_id i) (standing library p i) (filled inner library p is) net leaf

-- a network before those inside it
abbrev pub net_before : Place → Filled → Grown
net_before p f =
    record { nets = net_with p f.parts ∷ f.grown.nets; leaves = f.grown.leaves }

abbrev pub grown_at : ℕ → List Entry → Place → ℕ → ℕ → Grown
grown_at zero library p net leaf = net_before p nothing_filled
grown_at (suc n) library p net leaf =
    net_before p (filled (grown_at n library) library p p.entry.net.instances (suc net) leaf)

-- ---- from the top

-- the command line
abbrev pub words : Spot
words = record { file = 0; at = 0 }

abbrev pub top_place : Entry → Place
top_place e = record { entry = e; given = []; owner = words; above = e.class ∷ []; path = [] }

abbrev pub violations_of : List Entry → Option Entry → List Found
violations_of library None = []
violations_of library (Some e) =
    found_at (length library) library (top_place e)
    ++ passing (slice_get (instances_at (length library) library e (e.class ∷ [])) max_instances)

-- the rules that the networks break, from the one of a class down
abbrev pub violations : List Entry → List ℕ → List Found
violations library class = violations_of library (network_of class library)

abbrev pub tree_with : Grown → BoundTree
tree_with g = record { nets = g.nets; leaves = g.leaves }

abbrev pub tree_of : List Entry → Option Entry → BoundTree
tree_of library None = tree_with nothing_grown
tree_of library (Some e) = tree_with (grown_at (length library) library (top_place e) 0 0)

-- the tree that the networks make, if they break no rule
abbrev pub bound : List Entry → List ℕ → BoundTree
bound library class = tree_of library (network_of class library)
