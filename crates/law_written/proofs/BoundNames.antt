-- The path of each actor that networks bind is names with slashes between them, and its class names with dots between.
use Rattle.std.proofs.Common.{ℕ, zero, suc, ◌+◌, Bool, true, false, List, [], ◌∷◌, length}
use Rattle.std.specs.Prelude.{if◌then◌else◌, Option, None, Some}
use Rattle.std.specs.Str.{bytes_eq}
use Rattle.trace_text.specs.Names.{IsClass, IsName, IsPath, slash}
use Rattle.cal_model.specs.Sound.{Each}
use Rattle.cal_check.specs.Variables.{Given}
use Rattle.fnl_read.specs.Net.{Instance, an_instance}
use Rattle.fnl_tree.specs.Tree.{Leaf}
use Rattle.fnl_bind.specs.Library.{Entry, instance_class, instance_id, instance_parameters, network_of}
use Rattle.fnl_bind.specs.Networks.{Place, Standing, StandsLeaf, StandsNet, StandsNot, names_at, path_under, standing, standing_as}
use Rattle.fnl_bind.specs.Trees.{Filled, Grown, bound, filled, filled_by, grown_at, top_place, tree_of}
use Rattle.fnl_bind.specs.Values.{all_given}
use Rattle.law_written.proofs.NameBytes.{joined_more, one_joined}
use Rattle.law_written.proofs.NetworkNames.{IsNamedInstance, each_both}

-- ---- paths

-- of the instances in which an actor or a network stands: the top stands in none
abbrev IsPathOrNone : List ℕ → Type 0
IsPathOrNone [] = Unit {0}
IsPathOrNone (b ∷ path) = IsPath (b ∷ path)

path_or_none : (path : List ℕ) → IsPath path → IsPathOrNone path
path_or_none [] h = tt
path_or_none (b ∷ path) h = h

under_is_path : (path id : List ℕ) → IsPathOrNone path → IsName id → IsPath (path_under path id)
under_is_path [] id h name = one_joined slash id name
under_is_path (b ∷ path) id h name = joined_more slash (b ∷ path) id h name

-- ---- what is named

-- the path and the class of an actor
pub record IsNamedLeaf (leaf : Leaf) : Type 0 where
  pub path : IsPath leaf.path
  pub class : IsClass leaf.class

abbrev pub AreNamedLeaves : List Leaf → Type 0
AreNamedLeaves leaves = Each IsNamedLeaf leaves

-- the instances of a network that was read
abbrev pub IsNamedEntry : Entry → Type 0
IsNamedEntry entry = Each IsNamedInstance entry.net.instances

abbrev pub AreNamedEntries : List Entry → Type 0
AreNamedEntries entries = Each IsNamedEntry entries

abbrev OnEntry : Option Entry → Type 0
OnEntry None = Unit {0}
OnEntry (Some entry) = IsNamedEntry entry

-- a network where it stands
record IsNamedPlace (p : Place) : Type 0 where
  entry : IsNamedEntry p.entry
  path : IsPathOrNone p.path

abbrev IsNamedStanding : Standing → Type 0
IsNamedStanding (StandsNet p) = IsNamedPlace p
IsNamedStanding (StandsLeaf leaf) = IsNamedLeaf leaf
IsNamedStanding StandsNot = Unit {0}

-- ---- what stands in a network

first_or : (b : Bool) (entry : Entry) (other : Option Entry) → IsNamedEntry entry → OnEntry other → OnEntry (if b then Some entry else other)
first_or true entry other h k = h
first_or false entry other h k = k

entry_named : (class : List ℕ) (library : List Entry) → AreNamedEntries library → OnEntry (network_of class library)
entry_named class [] are = tt
entry_named class (e ∷ es) are = first_or (bytes_eq e.class class) e (network_of class es) are.0 (entry_named class es are.1)

-- its id and its class
id_named : (i : Instance) → IsNamedInstance i → IsName (instance_id i)
id_named (an_instance id class class_at parameters at) named = named.0

class_named : (i : Instance) → IsNamedInstance i → IsClass (instance_class i)
class_named (an_instance id class class_at parameters at) named = named.1

under_named : (p : Place) (i : Instance) → IsNamedPlace p → IsNamedInstance i → IsPath (path_under p.path (instance_id i))
under_named p i h named = under_is_path p.path (instance_id i) h.path (id_named i named)

standing_as_named : (p : Place) (i : Instance) (entry : Option Entry) (given : Option (List Given)) → IsNamedPlace p → IsNamedInstance i → OnEntry entry
    → IsNamedStanding (standing_as p i entry given)
standing_as_named p i (Some e) (Some gs) h named is = record { entry = is; path = path_or_none (path_under p.path (instance_id i)) (under_named p i h named) }
standing_as_named p i None (Some gs) h named is = record { path = under_named p i h named; class = class_named i named }
standing_as_named p i (Some e) None h named is = tt
standing_as_named p i None None h named is = tt

-- ---- the tree

-- each network that is grown at a named place has named actors
abbrev GrowsNamed : (Place → ℕ → ℕ → Grown) → Type 0
GrowsNamed inner = (p : Place) (net leaf : ℕ) → IsNamedPlace p → AreNamedLeaves (inner p net leaf).leaves

abbrev FillsNamed : (ℕ → ℕ → Filled) → Type 0
FillsNamed rest = (net leaf : ℕ) → AreNamedLeaves (rest net leaf).grown.leaves

filled_by_named : (inner : Place → ℕ → ℕ → Grown) (id : List ℕ) (s : Standing) (rest : ℕ → ℕ → Filled) → GrowsNamed inner → IsNamedStanding s → FillsNamed rest
    → FillsNamed (filled_by inner id s rest)
filled_by_named inner id (StandsNet p) rest grows h fills net leaf =
    each_both IsNamedLeaf (inner p net leaf).leaves (rest (net + length (inner p net leaf).nets) (leaf + length (inner p net leaf).leaves)).grown.leaves
    (grows p net leaf h) (fills _ _)
filled_by_named inner id (StandsLeaf l) rest grows h fills net leaf = (h, fills _ _)
filled_by_named inner id StandsNot rest grows h fills net leaf = fills net leaf

filled_named : (inner : Place → ℕ → ℕ → Grown) (library : List Entry) (p : Place) (is : List Instance) → GrowsNamed inner → AreNamedEntries library → IsNamedPlace p
    → Each IsNamedInstance is → FillsNamed (filled inner library p is)
filled_named inner library p [] grows are h named net leaf = tt
filled_named inner library p (i ∷ is) grows are h named net leaf =
    filled_by_named inner (instance_id i) (standing library p i) (filled inner library p is) grows
    (standing_as_named p i (network_of (instance_class i) library) (all_given p.entry.file (instance_parameters i) (names_at p)) h named.0
    (entry_named (instance_class i) library are))
    (filled_named inner library p is grows are h named.1) net leaf

grown_named : (n : ℕ) (library : List Entry) → AreNamedEntries library → GrowsNamed (grown_at n library)
grown_named zero library are p net leaf h = tt
grown_named (suc n) library are p net leaf h =
    filled_named (grown_at n library) library p p.entry.net.instances (grown_named n library are) are h h.entry (suc net) leaf

tree_named : (library : List Entry) (top : Option Entry) → AreNamedEntries library → OnEntry top → AreNamedLeaves (tree_of library top).leaves
tree_named library None are is = tt
tree_named library (Some e) are is = grown_named (length library) library are (top_place e) 0 0 (record { entry = is; path = tt })

pub bound_are_named : (library : List Entry) (class : List ℕ) → AreNamedEntries library → AreNamedLeaves (bound library class).leaves
bound_are_named library class are = tree_named library (network_of class library) are (entry_named class library are)
