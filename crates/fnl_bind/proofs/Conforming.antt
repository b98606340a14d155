-- The tree of networks that break no rule can be flattened.
use Rattle.std.proofs.Common.{◌≡◌, ℕ, zero, suc, ◌+◌, ◌≤◌, Bool, true, false, List, [], ◌∷◌, ◌++◌, length, map, Option, None, Some, refl, sym, ap, subst, ◌∙◌, arith}
use Rattle.std.specs.Prelude.{All, slice_get, nat_le, ◌&&◌, pos, negsuc, if◌then◌else◌}
use Rattle.std.specs.Str.{bytes_eq}
use Rattle.std.proofs.lemmas.Bool.{leb-true}
use Rattle.std.proofs.lemmas.List.{length-append}
use Rattle.std.proofs.lemmas.List.Elements.{All-nil, All-cons, All-append}
use Rattle.std.proofs.lemmas.Slice.Eq.{bytes_eq-Decides}
use Rattle.rvc_base.specs.declared.refusal.Rule.{Rule}
use Rattle.rvc_base.specs.Rules.{network_name_twice, too_many_ports, network_cycle, wrong_buffer_size}
use Rattle.cal_ast.specs.Tree.{Tree}
use Rattle.cal_model.specs.Sound.{max_ports}
use Rattle.cal_model.specs.Value.{Kind, NumKind, BoolKind, ListKind, Value, Num, Truth, Items}
use Rattle.cal_model.specs.Outcome.{Out, Gives, Traps, Lacks, Clashes}
use Rattle.cal_model.specs.Kinding.{Judged, Fine, Broken, and_so, Names, kind, constant}
use Rattle.net_model.specs.Limits.{max_instances}
use Rattle.cal_check.specs.Violations.{Violation, violation, unless, fine, all_fine, and_all}
use Rattle.cal_check.specs.Variables.{Spot, Found, Given}
use Rattle.cal_check.specs.Routines.{single_type}
use Rattle.fnl_read.specs.Net.{Net, Port, a_port, Instance, an_instance, Size, a_size, Connection, a_connection}
use Rattle.fnl_tree.specs.Tree.{Inner, InnerNet, InnerLeaf, Own}
use Rattle.fnl_tree.specs.Sound.{AreDistinct, IsNetSound, IsSound, max_buffer_size}
use Rattle.fnl_bind.specs.Library.{Entry, network_of, is_among, ports_of, instance_id, instance_class, instance_at}
use Rattle.fnl_bind.specs.Scopes.{name_broken, keyed_ports, keyed_instances, named_twice, keyed_decls, ports_broken, unknown_names, circles, scope_broken}
use Rattle.fnl_bind.specs.Values.{end_judged, ends_judged, ends_of, or_no, size_given, size_of_kind, size_judged, sizes_judged, largest, wire_of, wires_of, max_size_asked}
use Rattle.fnl_bind.specs.Networks.{Place, StandsNet, standing_as, standing, own_found, found_behind, net_under, leaf_under, net_with, names_at}
use Rattle.fnl_bind.specs.Values as values
use Rattle.fnl_bind.specs.Library as library
use Rattle.fnl_bind.specs.Trees.{found_standing, found_inside, found_or_inside, found_at, instances_under, instances_inside, instances_at, passing, Grown, Filled, nothing_filled, with_part, filled_by, filled, net_before, grown_at, top_place, tree_of, violations_of}
use Rattle.fnl_bind.specs.Sound.{BoundAreSound}
use Rattle.fnl_bind.proofs.Once.{top_stands_once}
use Rattle.fnl_bind.proofs.Counted as counted
use Rattle.fnl_bind.proofs.InOrder.{in_order}
use Rattle.fnl_bind.proofs.Told.{IsNew, AreTold, told_pairs, told_once, port_name, port_keys, told_of}

-- ---- nothing of both

none_first : {A : Type 0} (xs ys : List A) → xs ++ ys ≡ [] → xs ≡ []
none_first [] ys h = refl
none_first (x ∷ xs) ys h = absurd (cc)

none_then : {A : Type 0} (xs ys : List A) → xs ++ ys ≡ [] → ys ≡ []
none_then [] ys h = h
none_then (x ∷ xs) ys h = absurd (cc)

-- ---- ports

end_named : (p : Port) (names : Names) (e : Own) → fine (end_judged p names) ≡ Some e → e.name ≡ port_name p
end_named (a_port input shape name at) names e h = go (single_type shape names) h
  where
    go : (j : Judged _) → fine (and_so j (λ t. Fine (record { name = name; kind = t }))) ≡ Some e → e.name ≡ name
    go (Fine t) h = let s : record { name = name; kind = t } ≡ e = counted.some_same _ e h in sym (ap (λ x. x.name) s)
    go (Broken rule at) h = counted.none_here e h

ends_named : (ps : List Port) (names : Names) (es : List Own) → all_fine (ends_judged ps names) ≡ Some es → map (λ e. e.name) es ≡ map port_name ps
ends_named [] names es h = sym (ap (λ xs. map (λ e. e.name) xs) (counted.some_same [] es h))
ends_named (p ∷ ps) names es h = go (fine (end_judged p names)) (all_fine (ends_judged ps names)) refl (λ xs j. ends_named ps names xs j) h
  where
    go : (o : Option Own) (r : Option (List Own)) → fine (end_judged p names) ≡ o
        → ((xs : List Own) → r ≡ Some xs → map (λ e. e.name) xs ≡ map port_name ps) → and_all o r ≡ Some es
        → map (λ e. e.name) es ≡ port_name p ∷ map port_name ps
    go (Some x) (Some xs) i f h =
        let s : x ∷ xs ≡ es = counted.some_same (x ∷ xs) es h in
        sym (ap (λ zs. map (λ e. e.name) zs) s)
        ∙ ap (λ n. n ∷ map (λ e. e.name) xs) (end_named p names x i)
        ∙ ap (λ ns. port_name p ∷ ns) (f xs refl)
    go (Some x) None i f h = counted.none_here es h
    go None r i f h = counted.none_here es h

length_same : {A B : Type 0} (f : A → B) (xs : List A) → length (map f xs) ≡ length xs
length_same f [] = refl
length_same f (x ∷ xs) = ap suc (length_same f xs)

ends_told : (ps : List Port) (names : Names) → AreTold (map port_name ps) → AreDistinct (map (λ e. e.name) (ends_of ps names))
ends_told ps names h = go (all_fine (ends_judged ps names)) refl
  where
    go : (o : Option (List Own)) → all_fine (ends_judged ps names) ≡ o → AreDistinct (map (λ e. e.name) (or_no o))
    go None e = told_pairs [] tt
    go (Some es) e = subst AreDistinct (sym (ends_named ps names es e)) (told_pairs (map port_name ps) h)

ends_few : (ps : List Port) (names : Names) → length ps ≤ max_ports → length (ends_of ps names) ≤ max_ports
ends_few ps names h = go (all_fine (ends_judged ps names)) refl
  where
    go : (o : Option (List Own)) → all_fine (ends_judged ps names) ≡ o → length (or_no o) ≤ max_ports
    go None e = omega arith
    go (Some es) e =
        let a = length_same (λ x. x.name) es in
        let b = length_same port_name ps in
        let c = ap length (ends_named ps names es e) in
        omega (arith, a, b, c, h)

unless_fine : (b : Bool) (rule : Rule) (at : ℕ) → unless b rule at ≡ [] → b ≡ true
unless_fine true rule at h = refl
unless_fine false rule at h = absurd (cc)

-- ---- sizes

size_bound : (e : Tree) (at : ℕ) (o : Out Value) (n : ℕ) → size_given o e at ≡ Fine n → n ≤ max_size_asked
size_bound e at (Gives (Num (pos k)) left) n h = go (nat_le 1 k) (nat_le k max_size_asked) refl h
  where
    go : (b c : Bool) → nat_le k max_size_asked ≡ c → (if b && c then Fine k else Broken wrong_buffer_size at) ≡ Fine n → n ≤ max_size_asked
    go true true i h = let s : k ≡ n = fine_same k n h in let l = leb-true k max_size_asked i in subst (λ x. x ≤ max_size_asked) s l
      where
        fine_same : (a b : ℕ) → Fine a ≡ Fine b → a ≡ b
        fine_same a b h = cc
    go true false i h = absurd (cc)
    go false c i h = absurd (cc)
size_bound e at (Gives (Num (negsuc k)) left) n h = absurd (cc)
size_bound e at (Gives (Truth b) left) n h = zero_bound n h
  where
    zero_bound : (n : ℕ) → Fine 0 ≡ Fine n → n ≤ max_size_asked
    zero_bound n h = let s : 0 ≡ n = cc in omega (arith, s)
size_bound e at (Gives (Items vs) left) n h = zero_bound n h
  where
    zero_bound : (n : ℕ) → Fine 0 ≡ Fine n → n ≤ max_size_asked
    zero_bound n h = let s : 0 ≡ n = cc in omega (arith, s)
size_bound e at (Traps c) n h = absurd (cc)
size_bound e at Lacks n h = absurd (cc)
size_bound e at Clashes n h = zero_bound n h
  where
    zero_bound : (n : ℕ) → Fine 0 ≡ Fine n → n ≤ max_size_asked
    zero_bound n h = let s : 0 ≡ n = cc in omega (arith, s)

kind_bound : (e : Tree) (at : ℕ) (names : Names) (j : Judged Kind) (n : ℕ) → and_so j (λ k. size_of_kind k e at names) ≡ Fine n → n ≤ max_size_asked
kind_bound e at names (Fine NumKind) n h = size_bound e at (constant e names) n h
kind_bound e at names (Fine BoolKind) n h = absurd (cc)
kind_bound e at names (Fine (ListKind m k)) n h = absurd (cc)
kind_bound e at names (Broken rule place) n h = absurd (cc)

one_size : (z : Size) (names : Names) (n : ℕ) → fine (size_judged z names) ≡ Some n → n ≤ max_size_asked
one_size (a_size value at) names n h = kind_bound value at names (kind value names) n (is_fine (and_so (kind value names) (λ k. size_of_kind k value at names)) h)
  where
    is_fine : (j : Judged ℕ) → fine j ≡ Some n → j ≡ Fine n
    is_fine (Fine m) h = ap Fine (counted.some_same m n h)
    is_fine (Broken rule place) h = counted.none_here n h

all_sizes : (zs : List Size) (names : Names) (ns : List ℕ) → all_fine (sizes_judged zs names) ≡ Some ns → largest ns ≤ max_size_asked
all_sizes [] names ns h = let s : [] ≡ ns = counted.some_same [] ns h in subst (λ xs. largest xs ≤ max_size_asked) s (omega arith)
all_sizes (z ∷ zs) names ns h = go (fine (size_judged z names)) (all_fine (sizes_judged zs names)) refl (λ ms j. all_sizes zs names ms j) h
  where
    go : (o : Option ℕ) (r : Option (List ℕ)) → fine (size_judged z names) ≡ o
        → ((ms : List ℕ) → r ≡ Some ms → largest ms ≤ max_size_asked) → and_all o r ≡ Some ns → largest ns ≤ max_size_asked
    go (Some m) (Some ms) i f h =
        let a = one_size z names m i in
        let b = f ms refl in
        subst (λ xs. largest xs ≤ max_size_asked) (counted.some_same (m ∷ ms) ns h) (omega (arith, a, b))
    go (Some m) None i f h = counted.none_here ns h
    go None r i f h = counted.none_here ns h

wire_bound : (c : Connection) (names : Names) → (wire_of c names).size ≤ max_buffer_size
wire_bound (a_connection src src_port dst dst_port sizes at) names = go (all_fine (sizes_judged sizes names)) refl
  where
    go : (o : Option (List ℕ)) → all_fine (sizes_judged sizes names) ≡ o → largest (or_no o) ≤ max_buffer_size
    go None e = omega arith
    go (Some ns) e = all_sizes sizes names ns e

wires_bound : (cs : List Connection) (names : Names) → All (λ w. w.size ≤ max_buffer_size) (wires_of cs names)
wires_bound [] names = All-nil (λ w. w.size ≤ max_buffer_size)
wires_bound (c ∷ cs) names = All-cons (λ w. w.size ≤ max_buffer_size) (wire_of c names) (wires_of cs names) (wire_bound c names) (wires_bound cs names)

-- ---- one network that breaks no rule of scope

record IsScoped (net : Net) (above : List (List ℕ)) : Type 0 where
  ports : AreTold (map port_name net.ports)
  instances : AreTold (map instance_id net.instances)
  few_ins : length (ports_of true net.ports) ≤ max_ports
  few_outs : length (ports_of false net.ports) ≤ max_ports
  no_circle : circles net.instances above ≡ []

instance_keys : (is : List Instance) → map (λ x. x.key) (keyed_instances is) ≡ map instance_id is
instance_keys [] = refl
instance_keys (an_instance id class class_at parameters at ∷ is) = ap (λ ns. id ∷ ns) (instance_keys is)

few_of : (input : Bool) (net : Net) → unless (nat_le (length (ports_of input net.ports)) max_ports) too_many_ports net.at ≡ [] → length (ports_of input net.ports) ≤ max_ports
few_of input net h = leb-true (length (ports_of input net.ports)) max_ports (unless_fine (nat_le (length (ports_of input net.ports)) max_ports) too_many_ports net.at h)

scoped : (net : Net) (class : List ℕ) (above : List (List ℕ)) → scope_broken net class above ≡ [] → IsScoped net above
scoped net class above h =
    let named = none_then (name_broken net class) _ h in
    let a = none_then (named_twice (keyed_ports net.ports)) _ named in
    let b = none_then (named_twice (keyed_decls net.decls)) _ a in
    let c = none_then (named_twice (keyed_instances net.instances)) _ b in
    let d = none_first (ports_broken net) _ c in
    let e = none_then (ports_broken net) _ c in
    record {
      ports = subst AreTold (port_keys net.ports) (told_once network_name_twice (keyed_ports net.ports) (none_first (named_twice (keyed_ports net.ports)) _ named));
      instances = subst AreTold (instance_keys net.instances) (told_once network_name_twice (keyed_instances net.instances) (none_first (named_twice (keyed_instances net.instances)) _ b));
      few_ins = few_of true net (none_first (unless (nat_le (length (ports_of true net.ports)) max_ports) too_many_ports net.at) _ d);
      few_outs = few_of false net (none_then (unless (nat_le (length (ports_of true net.ports)) max_ports) too_many_ports net.at) _ d);
      no_circle = none_then (unknown_names net) (circles net.instances above) e;
    }

own_scoped : (p : Place) → own_found p ≡ [] → IsScoped p.entry.net p.above
own_scoped p h = scoped p.entry.net p.entry.class p.above (go (scope_broken p.entry.net p.entry.class p.above) h)
  where
    go : (vs : List Violation) → found_behind vs p ≡ [] → vs ≡ []
    go [] h = refl
    go (v ∷ vs) h = absurd (cc)

-- ---- what grows

record Grows (spots : List Spot) (g : Grown) : Type 0 where
  nets : All IsNetSound g.nets
  few : length g.nets + length g.leaves ≤ suc (length spots)

record Fills (ids : List (List ℕ)) (spots : List Spot) (f : Filled) : Type 0 where
  new : (n : List ℕ) → IsNew n ids → IsNew n (map (λ p. p.id) f.parts)
  told : AreTold ids → AreTold (map (λ p. p.id) f.parts)
  nets : All IsNetSound f.grown.nets
  few : length f.grown.nets + length f.grown.leaves ≤ length spots

nothing_fills : (spots : List Spot) → Fills [] spots nothing_filled
nothing_fills spots = record {
  new = λ n h. tt;
  told = λ h. tt;
  nets = All-nil IsNetSound;
  few = omega arith;
}

-- a part more
part_fills : (id : List ℕ) (ids : List (List ℕ)) (inner : Inner) (spot : Spot) (inside rest : List Spot) (g : Grown) (f : Filled) → Grows inside g
    → Fills ids rest f → Fills (id ∷ ids) (spot ∷ (inside ++ rest)) (with_part id inner g f)
part_fills id ids inner spot inside rest g f grow fill = record {
  new = λ n h. (h.0, fill.new n h.1);
  told = λ h. (fill.new id h.0, fill.told h.1);
  nets = All-append IsNetSound g.nets f.grown.nets grow.nets fill.nets;
  few =
      let a = length-append g.nets f.grown.nets in
      let b = length-append g.leaves f.grown.leaves in
      let c = length-append inside rest in
      let d = grow.few in
      let e = fill.few in
      omega (arith, a, b, c, d, e);
}

-- none more
none_fills : (id : List ℕ) (ids : List (List ℕ)) (spot : Spot) (inside rest : List Spot) (f : Filled) → Fills ids rest f
    → Fills (id ∷ ids) (spot ∷ (inside ++ rest)) f
none_fills id ids spot inside rest f fill = record {
  new = λ n h. fill.new n h.1;
  told = λ h. fill.told h.1;
  nets = fill.nets;
  few = let c = length-append inside rest in let e = fill.few in omega (arith, c, e);
}

net_grows : (p : Place) (spots : List Spot) (f : Filled) → IsScoped p.entry.net p.above → Fills (map instance_id p.entry.net.instances) spots f
    → Grows spots (net_before p f)
net_grows p spots f scope fill = record {
  nets = All-cons IsNetSound (net_with p f.parts) f.grown.nets
      (record {
        ins = ends_told (ports_of true p.entry.net.ports) (names_at p) (told_of true p.entry.net.ports scope.ports);
        outs = ends_told (ports_of false p.entry.net.ports) (names_at p) (told_of false p.entry.net.ports scope.ports);
        parts = told_pairs (map (λ x. x.id) f.parts) (fill.told scope.instances);
        few_ins = ends_few (ports_of true p.entry.net.ports) (names_at p) scope.few_ins;
        few_outs = ends_few (ports_of false p.entry.net.ports) (names_at p) scope.few_outs;
        sizes = wires_bound p.entry.net.connections (names_at p);
      })
      fill.nets;
  few = let e = fill.few in omega (arith, e);
}

-- the class of the network of a class
class_of : (class : List ℕ) (es : List Entry) (e : Entry) → network_of class es ≡ Some e → e.class ≡ class
class_of class [] e h = counted.none_here e h
class_of class (x ∷ es) e h = go (bytes_eq x.class class) refl (λ k. class_of class es e k) h
  where
    go : (b : Bool) → bytes_eq x.class class ≡ b → (network_of class es ≡ Some e → e.class ≡ class)
        → (if b then Some x else network_of class es) ≡ Some e → e.class ≡ class
    go true i f h = ap (λ y. y.class) (sym (counted.some_same x e h)) ∙ (bytes_eq-Decides x.class class).0 i
    go false i f h = f h

-- what an instance is breaks no rule, and what it breaks is found
abbrev GrowsAt : ℕ → List Entry → Type 0
GrowsAt n library = (p : Place) (net leaf : ℕ) → found_at n library p ≡ [] → Grows (instances_at n library p.entry p.above) (grown_at n library p net leaf)

not_above : (b : Bool) (class above : List (List ℕ)) (at : ℕ) (rest : List Violation) → (if b then violation network_cycle at else []) ++ rest ≡ [] → (b ≡ false) × (rest ≡ [])
not_above true class above at rest h = absurd (cc)
not_above false class above at rest h = (refl, h)

stands_fill : (n : ℕ) (library : List Entry) → GrowsAt n library → (p : Place) (i : Instance) (ids : List (List ℕ)) (rest : List Spot)
    (o : Option Entry) (gs : Option (List Given)) → network_of (instance_class i) library ≡ o
    → found_standing (found_at n library) (standing_as p i o gs) ≡ [] → is_among (instance_class i) p.above ≡ false
    → (others : ℕ → ℕ → Filled) → ((net leaf : ℕ) → Fills ids rest (others net leaf)) → (net leaf : ℕ)
    → Fills (instance_id i ∷ ids)
    (record { file = p.entry.file; at = instance_at i } ∷ (instances_under (instances_at n library) o p.above ++ rest))
    (filled_by (grown_at n library) (instance_id i) (standing_as p i o gs) others net leaf)
stands_fill n library grow p i ids rest (Some e) (Some gs) is none outside others fill net leaf =
    let g = grown_at n library (net_under p i e gs) net leaf in
    subst (λ inside. Fills (instance_id i ∷ ids) (record { file = p.entry.file; at = instance_at i } ∷ (inside ++ rest))
    (filled_by (grown_at n library) (instance_id i) (StandsNet (net_under p i e gs)) others net leaf))
    (sym (ap (λ b. if b then [] else instances_at n library e (e.class ∷ p.above))
    (ap (λ c. is_among c p.above) (class_of (instance_class i) library e is) ∙ outside)))
    (part_fills (instance_id i) ids (InnerNet net) (record { file = p.entry.file; at = instance_at i }) (instances_at n library e (e.class ∷ p.above)) rest
    g (others (net + length g.nets) (leaf + length g.leaves)) (grow (net_under p i e gs) net leaf none) (fill (net + length g.nets) (leaf + length g.leaves)))
stands_fill n library grow p i ids rest None (Some gs) is none outside others fill net leaf =
    part_fills (instance_id i) ids (InnerLeaf leaf) (record { file = p.entry.file; at = instance_at i }) [] rest
    (record { nets = []; leaves = leaf_under p i gs ∷ [] }) (others (net + 0) (leaf + 1))
    (record { nets = All-nil IsNetSound; few = omega arith }) (fill (net + 0) (leaf + 1))
stands_fill n library grow p i ids rest o None is none outside others fill net leaf =
    none_fills (instance_id i) ids (record { file = p.entry.file; at = instance_at i }) (instances_under (instances_at n library) o p.above) rest
    (others net leaf) (fill net leaf)

all_fill : (n : ℕ) (library : List Entry) → GrowsAt n library → (p : Place) (is : List Instance) (net leaf : ℕ)
    → found_inside (found_at n library) library p is ≡ [] → circles is p.above ≡ []
    → Fills (map instance_id is) (instances_inside (instances_at n library) library p.entry.file is p.above)
    (filled (grown_at n library) library p is net leaf)
all_fill n library grow p [] net leaf none apart = nothing_fills []
all_fill n library grow p (i ∷ is) net leaf none apart =
    let outside = not_above (is_among (instance_class i) p.above) p.above p.above (Rattle.fnl_bind.specs.Library.instance_class_at i) (circles is p.above) apart in
    stands_fill n library grow p i (map instance_id is) (instances_inside (instances_at n library) library p.entry.file is p.above)
    (network_of (instance_class i) library)
    (values.all_given p.entry.file (Rattle.fnl_bind.specs.Library.instance_parameters i) (names_at p)) refl
    (none_first (found_standing (found_at n library) (standing library p i)) _ none) outside.0
    (filled (grown_at n library) library p is)
    (λ k l. all_fill n library grow p is k l (none_then (found_standing (found_at n library) (standing library p i)) _ none) outside.1) net leaf

or_inside : (fs : List Found) (inner : Place → List Found) (library : List Entry) (p : Place) → found_or_inside fs inner library p ≡ []
    → (fs ≡ []) × (found_inside inner library p p.entry.net.instances ≡ [])
or_inside [] inner library p h = (refl, h)
or_inside (f ∷ fs) inner library p h = absurd (cc)

grown : (n : ℕ) (library : List Entry) → GrowsAt n library
grown zero library p net leaf none =
    net_grows p [] nothing_filled (own_scoped p none) (record {
      new = λ n h. tt;
      told = λ h. tt;
      nets = All-nil IsNetSound;
      few = omega arith;
    })
grown (suc n) library p net leaf none =
    let both = or_inside (own_found p) (found_at n library) library p none in
    let scope = own_scoped p both.0 in
    net_grows p (instances_inside (instances_at n library) library p.entry.file p.entry.net.instances p.above)
    (filled (grown_at n library) library p p.entry.net.instances (suc net) leaf) scope
    (all_fill n library (grown n library) p p.entry.net.instances (suc net) leaf both.1 scope.no_circle)

-- ---- from the top

past : {A : Type 0} (xs : List A) (n : ℕ) → slice_get xs n ≡ None → length xs ≤ n
past [] n h = omega arith
past (x ∷ xs) zero h = absurd (cc)
past (x ∷ xs) (suc n) h = let r = past xs n h in omega (arith, r)

few_spots : (spots : List Spot) → passing (slice_get spots max_instances) ≡ [] → length spots ≤ max_instances
few_spots spots h = past spots max_instances (none_passes (slice_get spots max_instances) h)
  where
    none_passes : (o : Option Spot) → passing o ≡ [] → o ≡ None
    none_passes None h = refl
    none_passes (Some y) h = absurd (cc)

top_is_sound : (library : List Entry) (top : Entry) → violations_of library (Some top) ≡ [] → IsSound (tree_of library (Some top))
top_is_sound library top h =
    let none = none_first (found_at (length library) library (top_place top)) _ h in
    let few = few_spots (instances_at (length library) library top (top.class ∷ []))
    (none_then (found_at (length library) library (top_place top)) _ h) in
    let grow = grown (length library) library (top_place top) 0 0 none in
    let once = top_stands_once library top in
    let order = in_order (length library) library (top_place top) in
    record {
      top = order.top;
      is_top = order.is_top;
      in_order = order.in_order;
      behind = counted.behind (tree_of library (Some top)) once;
      once = counted.once (tree_of library (Some top)) once;
      nets_stand = counted.nets_stand (tree_of library (Some top)) once;
      leaves_stand = counted.leaves_stand (tree_of library (Some top)) once;
      nets = grow.nets;
      few = let f = grow.few in omega (arith, f, few);
    }

pub bound_are_sound : BoundAreSound
bound_are_sound library class top held none =
    subst (λ o. IsSound (tree_of library o)) (sym held) (top_is_sound library top (ap (violations_of library) (sym held) ∙ none))
