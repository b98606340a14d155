-- Each actor stands at the end of a chain of instances.
use Rattle.std.proofs.Common.{◌≡◌, ℕ, zero, suc, ◌+◌, Bool, true, false, List, [], ◌∷◌, ◌++◌, length, refl, ap, subst, ◌∙◌, arith}
use Rattle.std.specs.Prelude.{Option, None, Some, Contains, if◌then◌else◌}
use Rattle.std.specs.Str.{bytes_eq}
use Rattle.cal_model.specs.Sound.{Each}
use Rattle.cal_check.specs.Variables.{Given}
use Rattle.cal_check.proofs.Lists.{at-head, each-append, in-none, in-rest}
use Rattle.fnl_read.specs.Net.{Instance}
use Rattle.fnl_tree.specs.Tree.{Leaf}
use Rattle.fnl_bind.specs.Library.{Entry, instance_class, instance_id, instance_parameters, network_of}
use Rattle.fnl_bind.specs.Networks.{Place, leaf_under, names_at, net_under, path_under, standing_as}
use Rattle.fnl_bind.specs.Trees.{Filled, filled, filled_by, grown_at, top_place, tree_of}
use Rattle.fnl_bind.specs.Values.{all_given}
use Rattle.law_networks.specs.Chains.{AreValuesOf, GivesValues, HaveIds, IsId, StandsAt, at_top, further, path_of}
use Rattle.law_networks.specs.Leaves.{LeavesStandInChains, StandsInChain}
use Rattle.law_networks.proofs.Paths.{Row, path_one_more}
use Rattle.law_networks.proofs.Values.{names_are, values_given}

-- a place at the end of a chain
pub record IsPlaced (library : List Entry) (top : Entry) (ids : Row) (p : Place) : Type 0 where
  pub stands : StandsAt library top ids p.entry p.given
  pub is_read : Contains library p.entry
  pub are_ids : Each IsId ids
  pub path : p.path ≡ path_of ids

some_same : {A : Type 0} (x y : A) → Some x ≡ Some y → x ≡ y
some_same x y h = cc

pub network_read : (class : List ℕ) (library : List Entry) (e : Entry) → network_of class library ≡ Some e → Contains library e
network_read class [] e h = absurd cc
network_read class (x ∷ library) e h = go (bytes_eq x.class class) h (network_read class library e)
  where
    go : (b : Bool) → (if b then Some x else network_of class library) ≡ Some e → (network_of class library ≡ Some e → Contains library e) → Contains (x ∷ library) e
    go true k rest = at-head e x library (some_same x e k)
    go false k rest = in-rest e x library (rest k)

pub top_placed : (library : List Entry) (class : List ℕ) (top : Entry) → network_of class library ≡ Some top → IsPlaced library top [] (top_place top)
top_placed library class top h = record { stands = at_top; is_read = network_read class library top h; are_ids = tt; path = refl }

each_more : (P : List ℕ → Type 0) (ids : Row) (id : List ℕ) → Each P ids → P id → Each P (ids ++ id ∷ [])
each_more P [] id h p = (p, tt)
each_more P (x ∷ ids) id h p = (h.0, each_more P ids id h.1 p)

-- what an instance gives
pub gives : (p : Place) (i : Instance) (gs : List Given) → all_given p.entry.file (instance_parameters i) (names_at p) ≡ Some gs → GivesValues p.entry p.given i gs
gives p i gs h =
    subst (λ names. AreValuesOf p.entry.file names (instance_parameters i) gs) (names_are p) (values_given p.entry.file (instance_parameters i) (names_at p) gs h)

pub inner_placed : (library : List Entry) (top : Entry) (ids : Row) (p : Place) (i : Instance) (e : Entry) (gs : List Given) → HaveIds library → IsPlaced library top ids p
    → Contains p.entry.net.instances i → network_of (instance_class i) library ≡ Some e → all_given p.entry.file (instance_parameters i) (names_at p) ≡ Some gs
    → IsPlaced library top (ids ++ instance_id i ∷ []) (net_under p i e gs)
inner_placed library top ids p i e gs have placed c is given = record {
  stands = further ids p.entry e p.given gs i placed.stands c is (gives p i gs given);
  is_read = network_read (instance_class i) library e is;
  are_ids = each_more IsId ids (instance_id i) placed.are_ids (have p.entry placed.is_read i c);
  path = ap (λ x. path_under x (instance_id i)) placed.path ∙ path_one_more ids (instance_id i) placed.are_ids;
}

leaf_stands : (library : List Entry) (top : Entry) (ids : Row) (p : Place) (i : Instance) (gs : List Given) → IsPlaced library top ids p
    → Contains p.entry.net.instances i → network_of (instance_class i) library ≡ None → all_given p.entry.file (instance_parameters i) (names_at p) ≡ Some gs
    → StandsInChain library top (leaf_under p i gs)
leaf_stands library top ids p i gs placed c is given = record {
  ids = ids;
  network = p.entry;
  given = p.given;
  stands = placed.stands;
  last = i;
  is_instance = c;
  is_actor = is;
  values = gs;
  gives = gives p i gs given;
  path = ap (λ x. path_under x (instance_id i)) placed.path ∙ path_one_more ids (instance_id i) placed.are_ids;
  bindings = refl;
  class = refl;
  class_at = refl;
  instance_at = refl;
}

abbrev AllStand : List Entry → Entry → List Leaf → Type 0
AllStand library top leaves = Each (StandsInChain library top) leaves

abbrev StandInside : ℕ → List Entry → Entry → Type 0
StandInside n library top = (p : Place) (ids : Row) (net leaf : ℕ) → IsPlaced library top ids p → AllStand library top (grown_at n library p net leaf).leaves

one_stands : (n : ℕ) (library : List Entry) (top : Entry) → HaveIds library → StandInside n library top → (p : Place) (ids : Row) (i : Instance) → IsPlaced library top ids p
    → Contains p.entry.net.instances i → (o : Option Entry) → network_of (instance_class i) library ≡ o → (given : Option (List Given))
    → all_given p.entry.file (instance_parameters i) (names_at p) ≡ given → (others : ℕ → ℕ → Filled) → ((k l : ℕ) → AllStand library top (others k l).grown.leaves) → (net leaf : ℕ)
    → AllStand library top (filled_by (grown_at n library) (instance_id i) (standing_as p i o given) others net leaf).grown.leaves
one_stands n library top have inside p ids i placed c (Some e) is (Some gs) g others rest net leaf =
    let grown = grown_at n library (net_under p i e gs) net leaf in
    each-append (StandsInChain library top) (grown_at n library (net_under p i e gs) net leaf).leaves
    (others (net + length (grown_at n library (net_under p i e gs) net leaf).nets) (leaf + length (grown_at n library (net_under p i e gs) net leaf).leaves)).grown.leaves
    (inside (net_under p i e gs) (ids ++ instance_id i ∷ []) net leaf (inner_placed library top ids p i e gs have placed c is g))
    (rest (net + length (grown_at n library (net_under p i e gs) net leaf).nets) (leaf + length (grown_at n library (net_under p i e gs) net leaf).leaves))
one_stands n library top have inside p ids i placed c None is (Some gs) g others rest net leaf = (leaf_stands library top ids p i gs placed c is g, rest (net + 0) (leaf + 1))
one_stands n library top have inside p ids i placed c (Some e) is None g others rest net leaf = rest net leaf
one_stands n library top have inside p ids i placed c None is None g others rest net leaf = rest net leaf

all_stand : (n : ℕ) (library : List Entry) (top : Entry) → HaveIds library → StandInside n library top → (p : Place) (ids : Row) (is : List Instance) → IsPlaced library top ids p
    → ((i : Instance) → Contains is i → Contains p.entry.net.instances i) → (net leaf : ℕ) → AllStand library top (filled (grown_at n library) library p is net leaf).grown.leaves
all_stand n library top have inside p ids [] placed all net leaf = tt
all_stand n library top have inside p ids (i ∷ is) placed all net leaf =
    one_stands n library top have inside p ids i placed (all i (at-head i i is refl)) (network_of (instance_class i) library) refl
    (all_given p.entry.file (instance_parameters i) (names_at p)) refl (filled (grown_at n library) library p is)
    (λ k l. all_stand n library top have inside p ids is placed (λ j d. all j (in-rest j i is d)) k l) net leaf

stand_inside : (n : ℕ) (library : List Entry) (top : Entry) → HaveIds library → StandInside n library top
stand_inside zero library top have p ids net leaf placed = tt
stand_inside (suc n) library top have p ids net leaf placed =
    all_stand n library top have (stand_inside n library top have) p ids p.entry.net.instances placed (λ i c. c) (suc net) leaf

each_contained : {A : Type 0} (P : A → Type 0) (xs : List A) (x : A) → Each P xs → Contains xs x → P x
each_contained P [] x h c = absurd (in-none x c)
each_contained P (y ∷ xs) x h (zero, k, e) = subst P e h.0
each_contained P (y ∷ xs) x h (suc n, k, e) = each_contained P xs x h.1 (n, omega arith, e)

pub leaves_stand : LeavesStandInChains
leaves_stand library class top leaf h have c =
    each_contained (StandsInChain library top) (tree_of library (Some top)).leaves leaf
    (stand_inside (length library) library top have (top_place top) [] 0 0 (top_placed library class top h))
    (subst (λ o. Contains (tree_of library o).leaves leaf) h c)
