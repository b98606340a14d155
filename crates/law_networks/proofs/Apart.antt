-- No two actors have one path.
use Rattle.std.proofs.Common.{◌≡◌, ◌≢◌, ℕ, zero, suc, ◌+◌, List, [], ◌∷◌, ◌++◌, length, map, refl, sym, ap, subst, ◌∙◌}
use Rattle.std.specs.Prelude.{Option, None, Some, Contains, slice_get}
use Rattle.std.proofs.lemmas.List.{append_assoc, map-append}
use Rattle.rvc_base.specs.Rules.{network_name_twice}
use Rattle.cal_model.specs.Sound.{Each}
use Rattle.cal_check.specs.Variables.{Found, Given}
use Rattle.cal_check.specs.Violations.{Violation}
use Rattle.cal_check.proofs.Lists.{at-head, each-append, in-rest}
use Rattle.fnl_read.specs.Net.{Instance, Net, an_instance}
use Rattle.fnl_tree.specs.Tree.{Leaf}
use Rattle.fnl_bind.specs.Library.{Entry, instance_class, instance_id, instance_parameters, network_of}
use Rattle.fnl_bind.specs.Networks.{Place, Standing, StandsLeaf, StandsNet, StandsNot, found_behind, names_at, net_under, own_found, path_under, standing, standing_as}
use Rattle.fnl_bind.specs.Scopes.{keyed_decls, keyed_instances, keyed_ports, name_broken, named_twice, scope_broken}
use Rattle.fnl_bind.specs.Trees.{Filled, filled, filled_by, found_at, found_inside, found_or_inside, found_standing, grown_at, top_place, tree_of, violations_of}
use Rattle.fnl_bind.specs.Values.{all_given}
use Rattle.fnl_bind.proofs.Told.{AreTold, IsNew, told_once}
use Rattle.law_networks.specs.Chains.{HaveIds, IsId, path_of}
use Rattle.law_networks.specs.Leaves.{PathsDiffer}
use Rattle.law_networks.proofs.Paths.{Row, one_row, path_one_more}
use Rattle.law_networks.proofs.Placed.{IsPlaced, inner_placed, network_read, top_placed}

-- ---- the rows of ids that lead to actors

abbrev rows_standing : (Place → List Row) → Standing → List Row
rows_standing inner (StandsNet p) = inner p
rows_standing inner (StandsLeaf l) = [] ∷ []
rows_standing inner StandsNot = []

abbrev under : List ℕ → List Row → List Row
under id rows = map (λ r. id ∷ r) rows

abbrev rows_inside : (Place → List Row) → List Entry → Place → List Instance → List Row
rows_inside inner library p [] = []
rows_inside inner library p (i ∷ is) = under (instance_id i) (rows_standing inner (standing library p i)) ++ rows_inside inner library p is

abbrev rows_at : ℕ → List Entry → Place → List Row
rows_at zero library p = []
rows_at (suc n) library p = rows_inside (rows_at n library) library p p.entry.net.instances

-- ---- paths are those of the rows

abbrev paths : List Leaf → List (List ℕ)
paths leaves = map (λ l. l.path) leaves

abbrev paths_behind : Row → List Row → List (List ℕ)
paths_behind ids rows = map (λ r. path_of (ids ++ r)) rows

behind_under : (ids : Row) (id : List ℕ) (rows : List Row) → paths_behind (ids ++ id ∷ []) rows ≡ paths_behind ids (under id rows)
behind_under ids id [] = refl
behind_under ids id (r ∷ rows) =
    ap (λ x. path_of x ∷ paths_behind (ids ++ id ∷ []) rows) (append_assoc ids (id ∷ []) r) ∙ ap (λ xs. path_of (ids ++ id ∷ r) ∷ xs) (behind_under ids id rows)

both_parts : (ids : Row) (xs ys : List Leaf) (rows more : List Row) → paths xs ≡ paths_behind ids rows → paths ys ≡ paths_behind ids more
    → paths (xs ++ ys) ≡ paths_behind ids (rows ++ more)
both_parts ids xs ys rows more h k =
    map-append (λ l. l.path) xs ys ∙ ap (λ ps. ps ++ paths ys) h ∙ ap (λ ps. paths_behind ids rows ++ ps) k ∙ sym (map-append (λ r. path_of (ids ++ r)) rows more)

abbrev PathsInside : ℕ → List Entry → Entry → Type 0
PathsInside n library top = (p : Place) (ids : Row) (net leaf : ℕ) → IsPlaced library top ids p → paths (grown_at n library p net leaf).leaves ≡ paths_behind ids (rows_at n library p)

one_path : (n : ℕ) (library : List Entry) (top : Entry) → HaveIds library → PathsInside n library top → (p : Place) (ids : Row) (i : Instance) → IsPlaced library top ids p
    → Contains p.entry.net.instances i → (o : Option Entry) → network_of (instance_class i) library ≡ o → (given : Option (List Given))
    → all_given p.entry.file (instance_parameters i) (names_at p) ≡ given → (others : ℕ → ℕ → Filled) → (rows : List Row)
    → ((k l : ℕ) → paths (others k l).grown.leaves ≡ paths_behind ids rows) → (net leaf : ℕ)
    → paths (filled_by (grown_at n library) (instance_id i) (standing_as p i o given) others net leaf).grown.leaves
    ≡ paths_behind ids (under (instance_id i) (rows_standing (rows_at n library) (standing_as p i o given)) ++ rows)
one_path n library top have inside p ids i placed c (Some e) is (Some gs) g others rows rest net leaf =
    both_parts ids (grown_at n library (net_under p i e gs) net leaf).leaves
    (others (net + length (grown_at n library (net_under p i e gs) net leaf).nets) (leaf + length (grown_at n library (net_under p i e gs) net leaf).leaves)).grown.leaves
    (under (instance_id i) (rows_at n library (net_under p i e gs))) rows
    (inside (net_under p i e gs) (ids ++ instance_id i ∷ []) net leaf (inner_placed library top ids p i e gs have placed c is g) ∙ behind_under ids (instance_id i) (rows_at n library (net_under p i e gs)))
    (rest (net + length (grown_at n library (net_under p i e gs) net leaf).nets) (leaf + length (grown_at n library (net_under p i e gs) net leaf).leaves))
one_path n library top have inside p ids i placed c None is (Some gs) g others rows rest net leaf =
    ap (λ x. x ∷ paths (others (net + 0) (leaf + 1)).grown.leaves) (ap (λ x. path_under x (instance_id i)) placed.path ∙ path_one_more ids (instance_id i) placed.are_ids)
    ∙ ap (λ xs. path_of (ids ++ instance_id i ∷ []) ∷ xs) (rest (net + 0) (leaf + 1))
one_path n library top have inside p ids i placed c (Some e) is None g others rows rest net leaf = rest net leaf
one_path n library top have inside p ids i placed c None is None g others rows rest net leaf = rest net leaf

all_paths : (n : ℕ) (library : List Entry) (top : Entry) → HaveIds library → PathsInside n library top → (p : Place) (ids : Row) (is : List Instance) → IsPlaced library top ids p
    → ((i : Instance) → Contains is i → Contains p.entry.net.instances i) → (net leaf : ℕ)
    → paths (filled (grown_at n library) library p is net leaf).grown.leaves ≡ paths_behind ids (rows_inside (rows_at n library) library p is)
all_paths n library top have inside p ids [] placed all net leaf = refl
all_paths n library top have inside p ids (i ∷ is) placed all net leaf =
    one_path n library top have inside p ids i placed (all i (at-head i i is refl)) (network_of (instance_class i) library) refl
    (all_given p.entry.file (instance_parameters i) (names_at p)) refl (filled (grown_at n library) library p is) (rows_inside (rows_at n library) library p is)
    (λ k l. all_paths n library top have inside p ids is placed (λ j d. all j (in-rest j i is d)) k l) net leaf

paths_are : (n : ℕ) (library : List Entry) (top : Entry) → HaveIds library → PathsInside n library top
paths_are zero library top have p ids net leaf placed = refl
paths_are (suc n) library top have p ids net leaf placed =
    all_paths n library top have (paths_are n library top have) p ids p.entry.net.instances placed (λ i c. c) (suc net) leaf

-- ---- rows of ids

each_under : (id : List ℕ) (rows : List Row) → IsId id → Each (Each IsId) rows → Each (Each IsId) (under id rows)
each_under id [] h k = tt
each_under id (r ∷ rows) h k = ((h, k.0), each_under id rows h k.1)

abbrev IdsInside : ℕ → List Entry → Type 0
IdsInside n library = (p : Place) → Contains library p.entry → Each (Each IsId) (rows_at n library p)

standing_ids : (n : ℕ) (library : List Entry) → IdsInside n library → (p : Place) (i : Instance) (o : Option Entry) → ((e : Entry) → o ≡ Some e → Contains library e)
    → (given : Option (List Given)) → Each (Each IsId) (rows_standing (rows_at n library) (standing_as p i o given))
standing_ids n library inside p i (Some e) read (Some gs) = inside (net_under p i e gs) (read e refl)
standing_ids n library inside p i None read (Some gs) = (tt, tt)
standing_ids n library inside p i (Some e) read None = tt
standing_ids n library inside p i None read None = tt

all_ids : (n : ℕ) (library : List Entry) → HaveIds library → IdsInside n library → (p : Place) (is : List Instance) → Contains library p.entry
    → ((i : Instance) → Contains is i → Contains p.entry.net.instances i) → Each (Each IsId) (rows_inside (rows_at n library) library p is)
all_ids n library have inside p [] read all = tt
all_ids n library have inside p (i ∷ is) read all =
    each-append (Each IsId) (under (instance_id i) (rows_standing (rows_at n library) (standing library p i))) (rows_inside (rows_at n library) library p is)
    (each_under (instance_id i) (rows_standing (rows_at n library) (standing library p i)) (have p.entry read i (all i (at-head i i is refl)))
    (standing_ids n library inside p i (network_of (instance_class i) library) (λ e h. network_read (instance_class i) library e h)
    (all_given p.entry.file (instance_parameters i) (names_at p))))
    (all_ids n library have inside p is read (λ j d. all j (in-rest j i is d)))

ids_inside : (n : ℕ) (library : List Entry) → HaveIds library → IdsInside n library
ids_inside zero library have p read = tt
ids_inside (suc n) library have p read = all_ids n library have (ids_inside n library have) p p.entry.net.instances read (λ i c. c)

-- ---- rows are apart

abbrev IsApart : Row → List Row → Type 0
IsApart r rows = Each (λ s. r ≢ s) rows

abbrev AreApart : List Row → Type 0
AreApart [] = Unit {0}
AreApart (r ∷ rows) = IsApart r rows × AreApart rows

-- a row that begins with another id, or is empty
abbrev BeginsOther : List ℕ → Row → Type 0
BeginsOther id [] = Unit {0}
BeginsOther id (x ∷ r) = id ≢ x

other_row : (id : List ℕ) (r s : Row) → BeginsOther id s → id ∷ r ≢ s
other_row id r [] h = λ e. absurd cc
other_row id r (x ∷ s) h = λ e. h (first e)
  where
    first : id ∷ r ≡ x ∷ s → id ≡ x
    first e = cc

each_map : {A : Type 0} (P Q : A → Type 0) (xs : List A) → ((x : A) → P x → Q x) → Each P xs → Each Q xs
each_map P Q [] f h = tt
each_map P Q (x ∷ xs) f h = (f x h.0, each_map P Q xs f h.1)

under_apart : (id : List ℕ) (r : Row) (rows : List Row) → IsApart r rows → IsApart (id ∷ r) (under id rows)
under_apart id r [] h = tt
under_apart id r (s ∷ rows) h = ((λ e. h.0 (rest e)), under_apart id r rows h.1)
  where
    rest : id ∷ r ≡ id ∷ s → r ≡ s
    rest e = cc

with_others : (id : List ℕ) (rows more : List Row) → AreApart rows → AreApart more → Each (BeginsOther id) more → AreApart (under id rows ++ more)
with_others id [] more h k others = k
with_others id (r ∷ rows) more h k others = (
  each-append (λ s. id ∷ r ≢ s) (under id rows) more (under_apart id r rows h.0) (each_map (BeginsOther id) (λ s. id ∷ r ≢ s) more (λ s b. other_row id r s b) others),
  with_others id rows more h.1 k others,
)

under_other : (id x : List ℕ) (rows : List Row) → id ≢ x → Each (BeginsOther id) (under x rows)
under_other id x [] h = tt
under_other id x (r ∷ rows) h = (h, under_other id x rows h)

others_begin : (inner : Place → List Row) (library : List Entry) (p : Place) (id : List ℕ) (is : List Instance) → IsNew id (map instance_id is)
    → Each (BeginsOther id) (rows_inside inner library p is)
others_begin inner library p id [] h = tt
others_begin inner library p id (i ∷ is) h =
    each-append (BeginsOther id) (under (instance_id i) (rows_standing inner (standing library p i))) (rows_inside inner library p is)
    (under_other id (instance_id i) (rows_standing inner (standing library p i)) h.0) (others_begin inner library p id is h.1)

-- ---- a network that breaks no rule tells its instances apart

none_first : {A : Type 0} (xs ys : List A) → xs ++ ys ≡ [] → xs ≡ []
none_first [] ys h = refl
none_first (x ∷ xs) ys h = absurd (cc)

none_then : {A : Type 0} (xs ys : List A) → xs ++ ys ≡ [] → ys ≡ []
none_then [] ys h = h
none_then (x ∷ xs) ys h = absurd (cc)

instance_keys : (is : List Instance) → map (λ x. x.key) (keyed_instances is) ≡ map instance_id is
instance_keys [] = refl
instance_keys (an_instance id class class_at parameters at ∷ is) = ap (λ ns. id ∷ ns) (instance_keys is)

told_apart : (net : Net) (class : List ℕ) (above : List (List ℕ)) → scope_broken net class above ≡ [] → AreTold (map instance_id net.instances)
told_apart net class above h =
    let named = none_then (name_broken net class) _ h in
    let a = none_then (named_twice (keyed_ports net.ports)) _ named in
    let b = none_then (named_twice (keyed_decls net.decls)) _ a in
    subst AreTold (instance_keys net.instances) (told_once network_name_twice (keyed_instances net.instances) (none_first (named_twice (keyed_instances net.instances)) _ b))

own_told : (p : Place) → own_found p ≡ [] → AreTold (map instance_id p.entry.net.instances)
own_told p h = told_apart p.entry.net p.entry.class p.above (go (scope_broken p.entry.net p.entry.class p.above) h)
  where
    go : (vs : List Violation) → found_behind vs p ≡ [] → vs ≡ []
    go [] e = refl
    go (v ∷ vs) e = absurd (cc)

abbrev ApartInside : ℕ → List Entry → Type 0
ApartInside n library = (p : Place) → found_at n library p ≡ [] → AreApart (rows_at n library p)

standing_apart : (n : ℕ) (library : List Entry) → ApartInside n library → (s : Standing) → found_standing (found_at n library) s ≡ [] → AreApart (rows_standing (rows_at n library) s)
standing_apart n library inside (StandsNet p) h = inside p h
standing_apart n library inside (StandsLeaf l) h = (tt, tt)
standing_apart n library inside StandsNot h = tt

all_apart : (n : ℕ) (library : List Entry) → ApartInside n library → (p : Place) (is : List Instance) → found_inside (found_at n library) library p is ≡ [] → AreTold (map instance_id is)
    → AreApart (rows_inside (rows_at n library) library p is)
all_apart n library inside p [] h told = tt
all_apart n library inside p (i ∷ is) h told =
    with_others (instance_id i) (rows_standing (rows_at n library) (standing library p i)) (rows_inside (rows_at n library) library p is)
    (standing_apart n library inside (standing library p i) (none_first (found_standing (found_at n library) (standing library p i)) _ h))
    (all_apart n library inside p is (none_then (found_standing (found_at n library) (standing library p i)) _ h) told.1)
    (others_begin (rows_at n library) library p (instance_id i) is told.0)

or_inside : (fs : List Found) (inner : Place → List Found) (library : List Entry) (p : Place) → found_or_inside fs inner library p ≡ []
    → (fs ≡ []) × (found_inside inner library p p.entry.net.instances ≡ [])
or_inside [] inner library p h = (refl, h)
or_inside (f ∷ fs) inner library p h = absurd (cc)

apart_inside : (n : ℕ) (library : List Entry) → ApartInside n library
apart_inside zero library p h = tt
apart_inside (suc n) library p h =
    let both = or_inside (own_found p) (found_at n library) library p h in
    all_apart n library (apart_inside n library) p p.entry.net.instances both.1 (own_told p both.0)

-- ---- places in lists

record ComesFrom {A B : Type 0} (f : A → B) (xs : List A) (k : ℕ) (y : B) : Type 0 where
  item : A
  there : slice_get xs k ≡ Some item
  is : f item ≡ y

some_same : {A : Type 0} (x y : A) → Some x ≡ Some y → x ≡ y
some_same x y h = cc

got_map : {A B : Type 0} (f : A → B) (xs : List A) (k : ℕ) (x : A) → slice_get xs k ≡ Some x → slice_get (map f xs) k ≡ Some (f x)
got_map f [] k x h = absurd cc
got_map f (y ∷ xs) zero x h = ap (λ z. Some (f z)) (some_same y x h)
got_map f (y ∷ xs) (suc k) x h = got_map f xs k x h

from_map : {A B : Type 0} (f : A → B) (xs : List A) (k : ℕ) (y : B) → slice_get (map f xs) k ≡ Some y → ComesFrom f xs k y
from_map f [] k y h = absurd cc
from_map f (x ∷ xs) zero y h = record { item = x; there = refl; is = some_same (f x) y h }
from_map f (x ∷ xs) (suc k) y h = let i = from_map f xs k y h in record { item = i.item; there = i.there; is = i.is }

each_got : {A : Type 0} (P : A → Type 0) (xs : List A) (k : ℕ) (x : A) → Each P xs → slice_get xs k ≡ Some x → P x
each_got P [] k x h e = absurd cc
each_got P (y ∷ xs) zero x h e = subst P (some_same y x e) h.0
each_got P (y ∷ xs) (suc k) x h e = each_got P xs k x h.1 e

one_place : (rows : List Row) (j k : ℕ) (r s : Row) → AreApart rows → slice_get rows j ≡ Some r → slice_get rows k ≡ Some s → r ≡ s → j ≡ k
one_place [] j k r s h e f same = absurd cc
one_place (x ∷ rows) zero zero r s h e f same = refl
one_place (x ∷ rows) zero (suc k) r s h e f same = absurd (each_got (λ t. x ≢ t) rows k s h.0 f (some_same x r e ∙ same))
one_place (x ∷ rows) (suc j) zero r s h e f same = absurd (each_got (λ t. x ≢ t) rows j r h.0 e (some_same x s f ∙ sym same))
one_place (x ∷ rows) (suc j) (suc k) r s h e f same = ap suc (one_place rows j k r s h.1 e f same)

-- ---- from the top

pub paths_differ : PathsDiffer
paths_differ library class top j k a b h have none at_j at_k same =
    let placed = top_placed library class top h in
    let are = paths_are (length library) library top have (top_place top) [] 0 0 placed in
    let ids = ids_inside (length library) library have (top_place top) placed.is_read in
    let clean = ap (violations_of library) (sym h) ∙ none in
    let apart = apart_inside (length library) library (top_place top) (none_first (found_at (length library) library (top_place top)) _ clean) in
    let r = row j a (subst (λ o. slice_get (tree_of library o).leaves j ≡ Some a) h at_j) are in
    let s = row k b (subst (λ o. slice_get (tree_of library o).leaves k ≡ Some b) h at_k) are in
    one_place (rows_at (length library) library (top_place top)) j k r.item s.item apart r.there s.there
    (one_row r.item s.item (each_got (Each IsId) (rows_at (length library) library (top_place top)) j r.item ids r.there)
    (each_got (Each IsId) (rows_at (length library) library (top_place top)) k s.item ids s.there) (r.is ∙ same ∙ sym s.is))
  where
    row : (m : ℕ) (l : Leaf) → slice_get (tree_of library (Some top)).leaves m ≡ Some l
        → paths (tree_of library (Some top)).leaves ≡ paths_behind [] (rows_at (length library) library (top_place top))
        → ComesFrom path_of (rows_at (length library) library (top_place top)) m l.path
    row m l e are =
        from_map path_of (rows_at (length library) library (top_place top)) m l.path
        (subst (λ ps. slice_get ps m ≡ Some l.path) are (got_map (λ x. x.path) (tree_of library (Some top)).leaves m l e))
