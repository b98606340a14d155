-- The ports of the network of a class have types of tokens.
use Rattle.std.proofs.Common.{◌≡◌, ℕ, zero, suc, true, false, List, [], ◌∷◌, ◌++◌, map, length, refl, ap, subst, ◌∙◌}
use Rattle.std.specs.Prelude.{Option, None, Some, slice_get}
use Rattle.rvc_base.specs.Storing.{IsSize}
use Rattle.cal_ast.specs.Places.{begins}
use Rattle.cal_model.specs.Actor.{Actor, Port}
use Rattle.cal_model.specs.Kinding.{Broken, Fine, Judged, Names, and_so, type_judged}
use Rattle.cal_model.specs.Laws.{JudgedIsType}
use Rattle.cal_model.specs.Sound.{Each, IsSound}
use Rattle.cal_model.specs.Value.{Many, Shape, Single}
use Rattle.cal_check.specs.Routines.{single}
use Rattle.cal_check.specs.Violations.{all_fine, and_all}
use Rattle.net_state.proofs.Gaining.{some_is}
use Rattle.fnl_read.specs.Net as read
use Rattle.fnl_read.specs.Net.{a_port}
use Rattle.fnl_tree.specs.Tree.{Net, Own}
use Rattle.fnl_flatten.specs.Flat.{port_of}
use Rattle.fnl_bind.specs.Library.{Entry, network_of, ports_of}
use Rattle.fnl_bind.specs.Networks.{Place, names_at}
use Rattle.fnl_bind.specs.Trees.{bound, grown_at, top_place, tree_of}
use Rattle.fnl_bind.specs.Values.{end_judged, ends_judged, ends_of, or_no}
use Rattle.fnl_source.specs.Lone.{lone_tree, own_of}
use Rattle.net_cells.specs.Sources.{HaveTypes}

-- each of these ports has a type of tokens
abbrev pub EachTyped : List Own → Type 0
EachTyped ports = (p : ℕ) (port : Own) → slice_get ports p ≡ Some port → IsSize port.kind

pub types_of : (ports : List Own) → EachTyped ports → HaveTypes (map port_of ports)
types_of [] typed p port at = cc
types_of (own ∷ ports) typed zero port at = subst (λ x. IsSize x.kind) (some_is (port_of own) port at) (typed 0 own refl)
types_of (own ∷ ports) typed (suc p) port at = types_of ports (λ k. typed (suc k)) p port at

-- ---- ports that a network declares

end_typed : JudgedIsType → (port : read.Port) (names : Names) (end : Own) → end_judged port names ≡ Fine end → IsSize end.kind
end_typed judged (a_port input shape name at) names end is = by_judged (type_judged shape names) refl is
  where
    by_judged : (j : Judged Shape) → type_judged shape names ≡ j → and_so (single j (begins shape)) (λ t. Fine (record { name = name; kind = t })) ≡ Fine end → IsSize end.kind
    by_judged (Fine (Single t)) e same =
        let own : record { name = name; kind = t } ≡ end = cc in
        subst (λ x. IsSize x.kind) own (judged names shape (Single t) e)
    by_judged (Fine (Many n t)) e same = cc
    by_judged (Broken rule p) e same = cc

-- what is fine of each is so of all that are fine
fine_each : {A : Type 0} (P : A → Type 0) (js : List (Judged A)) → ((k : ℕ) (j : Judged A) (a : A) → slice_get js k ≡ Some j → j ≡ Fine a → P a)
    → (xs : List A) → all_fine js ≡ Some xs → (k : ℕ) (x : A) → slice_get xs k ≡ Some x → P x
fine_each P [] each [] all k x at = cc
fine_each P [] each (y ∷ ys) all k x at = cc
fine_each P (Broken rule p ∷ js) each xs all k x at = cc
fine_each {A} P (Fine a ∷ js) each xs all k x at = by_rest (fine_each P js (λ m. each (suc m))) (all_fine js) refl xs all k x at
  where
    by_rest : ((ys : List A) → all_fine js ≡ Some ys → (n : ℕ) (y : A) → slice_get ys n ≡ Some y → P y)
        → (o : Option (List A)) → all_fine js ≡ o → (ys : List A) → and_all (Some a) o ≡ Some ys → (n : ℕ) (y : A) → slice_get ys n ≡ Some y → P y
    by_rest later None e ys same n y there = cc
    by_rest later (Some rest) e [] same n y there = cc
    by_rest later (Some rest) e (z ∷ ys) same zero y there =
        let first : a ≡ z = cc in
        let is : z ≡ y = some_is z y there in
        subst P (first ∙ is) (each 0 (Fine a) a refl refl)
    by_rest later (Some rest) e (z ∷ ys) same (suc n) y there =
        let others : rest ≡ ys = cc in
        later ys (e ∙ ap (λ r. Some r) others) n y there

judged_at : (ports : List read.Port) (names : Names) (k : ℕ) (j : Judged Own) → slice_get (ends_judged ports names) k ≡ Some j → (port : read.Port) × (end_judged port names ≡ j)
judged_at [] names k j at = cc
judged_at (port ∷ ports) names zero j at = (port, some_is (end_judged port names) j at)
judged_at (port ∷ ports) names (suc k) j at = judged_at ports names k j at

pub ends_typed : JudgedIsType → (ports : List read.Port) (names : Names) → EachTyped (ends_of ports names)
ends_typed judged ports names = by_all (all_fine (ends_judged ports names)) refl
  where
    by_all : (o : Option (List Own)) → all_fine (ends_judged ports names) ≡ o → EachTyped (or_no o)
    by_all None e p port at = cc
    by_all (Some ends) e p port at =
        fine_each (λ own. IsSize own.kind) (ends_judged ports names)
        (λ k j own there is. let found = judged_at ports names k j there in end_typed judged found.0 names own (found.1 ∙ is))
        ends e p port at

-- ---- the top

-- a net has ports with types
pub record IsTyped (net : Net) : Type 0 where
  pub ins : EachTyped net.ins
  pub outs : EachTyped net.outs

grown_top : JudgedIsType → (n : ℕ) (library : List Entry) (place : Place) (top : Net) → slice_get (grown_at n library place 0 0).nets 0 ≡ Some top → IsTyped top
grown_top judged zero library place top at =
    subst IsTyped (some_is _ top at) (record { ins = ends_typed judged (ports_of true place.entry.net.ports) (names_at place); outs = ends_typed judged (ports_of false place.entry.net.ports) (names_at place) })
grown_top judged (suc n) library place top at =
    subst IsTyped (some_is _ top at) (record { ins = ends_typed judged (ports_of true place.entry.net.ports) (names_at place); outs = ends_typed judged (ports_of false place.entry.net.ports) (names_at place) })

pub bound_typed : JudgedIsType → (library : List Entry) (class : List ℕ) (entry : Entry) (top : Net) → network_of class library ≡ Some entry → slice_get (bound library class).nets 0 ≡ Some top → IsTyped top
bound_typed judged library class entry top is at =
    grown_top judged (length library) library (top_place entry) top (subst (λ o. slice_get (tree_of library o).nets 0 ≡ Some top) is at)

-- ---- an actor alone

own_typed : (ports : List Port) → Each (λ port. IsSize port.kind) ports → EachTyped (map own_of ports)
own_typed [] sizes p own at = cc
own_typed (port ∷ ports) sizes zero own at = subst (λ x. IsSize x.kind) (some_is (own_of port) own at) sizes.0
own_typed (port ∷ ports) sizes (suc p) own at = own_typed ports sizes.1 p own at

each_front : {A : Type 0} (P : A → Type 0) (xs ys : List A) → Each P (xs ++ ys) → Each P xs
each_front P [] ys all = tt
each_front P (x ∷ xs) ys all = (all.0, each_front P xs ys all.1)

each_behind : {A : Type 0} (P : A → Type 0) (xs ys : List A) → Each P (xs ++ ys) → Each P ys
each_behind P [] ys all = all
each_behind P (x ∷ xs) ys all = each_behind P xs ys all.1

pub lone_typed : (name class : List ℕ) (actor : Actor) (top : Net) → IsSound actor → slice_get (lone_tree name class actor).nets 0 ≡ Some top → IsTyped top
lone_typed name class actor top sound at =
    subst IsTyped (some_is _ top at) (record {
      ins = own_typed actor.ins (each_front (λ port. IsSize port.kind) actor.ins actor.outs sound.port_sizes);
      outs = own_typed actor.outs (each_behind (λ port. IsSize port.kind) actor.ins actor.outs sound.port_sizes);
    })
