-- What a network that is opened adds to a walk.
use Rattle.std.proofs.Common.{◌≡◌, ℕ, zero, suc, ◌+◌, List, [], ◌∷◌, ◌++◌, length, refl, sym, ap, ◌∙◌, arith, append_assoc}
use Rattle.std.specs.Prelude.{Option, None, Some}
use Rattle.cal_check.specs.Variables.{Found, Given}
use Rattle.fnl_read.specs.Net.{Instance}
use Rattle.fnl_tree.specs.Tree.{InnerNet, InnerLeaf}
use Rattle.fnl_bind.specs.Library.{Entry, network_of, instance_class, instance_id, instance_parameters}
use Rattle.fnl_bind.specs.Networks.{Place, Standing, StandsNet, StandsLeaf, StandsNot, standing, standing_as, own_found, names_at, net_with}
use Rattle.fnl_bind.specs.Trees.{Grown, Filled, filled_by, filled, found_inside, found_or_inside, found_standing, found_at, grown_at, instances_at, instances_inside, net_before, with_part}
use Rattle.fnl_bind.specs.Values.{all_given}
use Rattle.fnl_values.specs.Visiting.{Visit, AreVisits}
use Rattle.fnl_walk.specs.Steps.{opened}
use Rattle.fnl_walk.specs.Walk.{Open, place_at, outside, standing_of, instances_of, found_visits, found_in_open, spots_in_open, with_filled, filled_visits, filled_open, finished}
use Rattle.fnl_walk.proofs.Parts.{parts_last}

-- the place of a network, as an open one has it
abbrev pub bare : Place → Place
bare p = place_at p.entry.file p.path p.above

-- ---- instances as they are visited

standing_bare : (p : Place) (i : Instance) (entry : Option Entry) (gs : List Given) → standing_as p i entry (Some gs) ≡ standing_as (bare p) i entry (Some gs)
standing_bare p i None gs = refl
standing_bare p i (Some e) gs = refl

pub standing_same : (library : List Entry) (p : Place) (i : Instance) (v : Visit) → v.instance ≡ i → all_given p.entry.file (instance_parameters i) (names_at p) ≡ Some v.given
    → standing library p i ≡ standing_of library (bare p) v
standing_same library p i v e f =
    ap (standing_as p i (network_of (instance_class i) library)) f
    ∙ standing_bare p i (network_of (instance_class i) library) v.given
    ∙ ap (λ j. standing_as (bare p) j (network_of (instance_class j) library) (Some v.given)) (sym e)

instances_same : (file : ℕ) (p : Place) (is : List Instance) (vs : List Visit) → AreVisits file (names_at p) is vs → is ≡ instances_of vs
instances_same file p [] [] h = refl
instances_same file p [] (v ∷ vs) h = absurd h
instances_same file p (i ∷ is) [] h = absurd h
instances_same file p (i ∷ is) (v ∷ vs) h = ap (λ j. j ∷ is) (sym h.0) ∙ ap (λ js. v.instance ∷ js) (instances_same file p is vs h.2)

found_same : (inner : Place → List Found) (library : List Entry) (p : Place) (is : List Instance) (vs : List Visit) → AreVisits p.entry.file (names_at p) is vs
    → found_inside inner library p is ≡ found_visits inner library (bare p) vs
found_same inner library p [] [] h = refl
found_same inner library p [] (v ∷ vs) h = absurd h
found_same inner library p (i ∷ is) [] h = absurd h
found_same inner library p (i ∷ is) (v ∷ vs) h =
    ap (λ s. found_standing inner s ++ found_inside inner library p is) (standing_same library p i v h.0 h.1)
    ∙ ap (λ fs. found_standing inner (standing_of library (bare p) v) ++ fs) (found_same inner library p is vs h.2)

-- the same behind an instance
filled_behind : (inner : Place → ℕ → ℕ → Grown) (id : List ℕ) (s : Standing) (f g : ℕ → ℕ → Filled) (net leaf : ℕ) → ((n l : ℕ) → f n l ≡ g n l) → filled_by inner id s f net leaf ≡ filled_by inner id s g net leaf
filled_behind inner id (StandsNet q) f g net leaf h =
    ap (with_part id (InnerNet net) (inner q net leaf)) (h (net + length (inner q net leaf).nets) (leaf + length (inner q net leaf).leaves))
filled_behind inner id (StandsLeaf l) f g net leaf h =
    ap (with_part id (InnerLeaf leaf) (record { nets = []; leaves = l ∷ [] })) (h (net + 0) (leaf + 1))
filled_behind inner id StandsNot f g net leaf h = h net leaf

filled_same : (inner : Place → ℕ → ℕ → Grown) (library : List Entry) (p : Place) (is : List Instance) (vs : List Visit) (net leaf : ℕ) → AreVisits p.entry.file (names_at p) is vs
    → filled inner library p is net leaf ≡ filled_visits inner library (bare p) vs net leaf
filled_same inner library p [] [] net leaf h = refl
filled_same inner library p [] (v ∷ vs) net leaf h = absurd h
filled_same inner library p (i ∷ is) [] net leaf h = absurd h
filled_same inner library p (i ∷ is) (v ∷ vs) net leaf h =
    ap (λ j. filled_by inner (instance_id j) (standing library p i) (filled inner library p is) net leaf) (sym h.0)
    ∙ ap (λ s. filled_by inner (instance_id v.instance) s (filled inner library p is) net leaf) (standing_same library p i v h.0 h.1)
    ∙ filled_behind inner (instance_id v.instance) (standing_of library (bare p) v) (filled inner library p is) (filled_visits inner library (bare p) vs) net leaf
    (λ n l. filled_same inner library p is vs n l h.2)

-- ---- networks as they are opened

found_or : (fs : List Found) (inner : Place → List Found) (library : List Entry) (p : Place) → fs ≡ [] → found_or_inside fs inner library p ≡ found_inside inner library p p.entry.net.instances
found_or fs inner library p h = ap (λ gs. found_or_inside gs inner library p) h

pub found_opened : (library : List Entry) (p : Place) (n number : ℕ) (vs : List Visit) → own_found p ≡ [] → AreVisits p.entry.file (names_at p) p.entry.net.instances vs
    → found_in_open library (opened p.entry.file number p.path n vs) p.above ≡ found_at n library p
found_opened library p zero number vs own h = sym own
found_opened library p (suc n) number vs own h =
    sym (found_or (own_found p) (found_at n library) library p own ∙ found_same (found_at n library) library p p.entry.net.instances vs h)

pub spots_opened : (library : List Entry) (p : Place) (n number : ℕ) (vs : List Visit) → AreVisits p.entry.file (names_at p) p.entry.net.instances vs
    → spots_in_open library (opened p.entry.file number p.path n vs) p.above ≡ instances_at n library p.entry p.above
spots_opened library p zero number vs h = refl
spots_opened library p (suc n) number vs h =
    ap (λ is. instances_inside (instances_at n library) library p.entry.file is p.above) (sym (instances_same p.entry.file p p.entry.net.instances vs h))

grown_opened : (library : List Entry) (p : Place) (n number : ℕ) (vs : List Visit) (net leaf : ℕ) → AreVisits p.entry.file (names_at p) p.entry.net.instances vs
    → grown_at n library p net leaf ≡ net_before p (filled_open library (opened p.entry.file number p.path n vs) p.above (suc net) leaf)
grown_opened library p zero number vs net leaf h = refl
grown_opened library p (suc n) number vs net leaf h =
    ap (net_before p) (filled_same (grown_at n library) library p p.entry.net.instances vs (suc net) leaf h)

-- what was found, and what a network adds
abbrev pub and_more : Grown → Grown → Grown
and_more g more = record { nets = g.nets ++ more.nets; leaves = g.leaves ++ more.leaves }

pub length_one : {A : Type 0} (xs : List A) (x : A) → length (xs ++ x ∷ []) ≡ suc (length xs)
length_one [] x = refl
length_one (y ∷ xs) x = ap suc (length_one xs x)

pub length_more : {A : Type 0} (xs : List A) (x : A) → length (xs ++ x ∷ []) ≡ length xs + 1
length_more xs x = let l = length_one xs x in omega (arith, l)

filled_last : (p : Place) (f : Filled) (g : Grown)
    → with_filled (length g.nets) f (record { nets = g.nets ++ net_with p [] ∷ []; leaves = g.leaves }) ≡ and_more g (net_before p f)
filled_last p f g =
    ap (λ ns. record { nets = ns ++ f.grown.nets; leaves = g.leaves ++ f.grown.leaves }) (parts_last f.parts (net_with p []) g.nets)
    ∙ ap (λ ns. record { nets = ns; leaves = g.leaves ++ f.grown.leaves }) (append_assoc g.nets (net_with p f.parts ∷ []) f.grown.nets)

pub tree_opened : (library : List Entry) (p : Place) (n : ℕ) (vs : List Visit) (os : List Open) (g : Grown) → AreVisits p.entry.file (names_at p) p.entry.net.instances vs
    → finished library (opened p.entry.file (length g.nets) p.path n vs ∷ os) p.above (record { nets = g.nets ++ net_with p [] ∷ []; leaves = g.leaves })
    ≡ finished library os (outside p.above) (and_more g (grown_at n library p (length g.nets) (length g.leaves)))
tree_opened library p n vs os g h =
    let o = opened p.entry.file (length g.nets) p.path n vs in
    ap (finished library os (outside p.above))
    (number n
    ∙ ap (λ k. with_filled (length g.nets) (filled_open library o p.above k (length g.leaves)) (record { nets = g.nets ++ net_with p [] ∷ []; leaves = g.leaves })) (length_one g.nets (net_with p []))
    ∙ filled_last p (filled_open library o p.above (suc (length g.nets)) (length g.leaves)) g
    ∙ ap (and_more g) (sym (grown_opened library p n (length g.nets) vs (length g.nets) (length g.leaves) h)))
  where
    -- its number, whatever its levels
    number : (m : ℕ) → with_filled (opened p.entry.file (length g.nets) p.path m vs).number
        (filled_open library (opened p.entry.file (length g.nets) p.path m vs) p.above (length (g.nets ++ net_with p [] ∷ [])) (length g.leaves)) (record { nets = g.nets ++ net_with p [] ∷ []; leaves = g.leaves })
        ≡ with_filled (length g.nets)
        (filled_open library (opened p.entry.file (length g.nets) p.path m vs) p.above (length (g.nets ++ net_with p [] ∷ [])) (length g.leaves)) (record { nets = g.nets ++ net_with p [] ∷ []; leaves = g.leaves })
    number zero = refl
    number (suc m) = refl
