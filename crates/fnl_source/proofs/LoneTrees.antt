-- The tree of an actor alone is sound.
use Rattle.std.proofs.Common.{◌≡◌, ℕ, zero, suc, ◌≤◌, List, [], ◌∷◌, ◌++◌, map, refl, sym, ap, subst, ◌∙◌, Some, arith}
use Rattle.std.specs.Prelude.{All, Contains, slice_get}
use Rattle.std.proofs.lemmas.List.{length-map, map-append}
use Rattle.std.proofs.lemmas.List.Elements.{All-nil, All-cons}
use Rattle.cal_model.specs.Actor.{Actor, Port}
use Rattle.cal_model.specs.Sound.{AreDistinct, IsSound, max_ports}
use Rattle.fnl_tree.specs.Sound as sound
use Rattle.fnl_tree.specs.Sound.{IsBehind, IsNetSound, IsPart, LeavesOf, StandsSomewhere, max_buffer_size}
use Rattle.fnl_tree.specs.Tree.{InnerLeaf, Net, Part, Wire}
use Rattle.fnl_source.specs.Answers.{LoneTreesAreSound}
use Rattle.fnl_source.specs.Lone.{lone_tree, own_of, wire_in, wire_out}
use Rattle.fnl_source.proofs.Heads.{names, those_behind, those_in_front, told_apart}

abbrev lone_part : List ℕ → Part
lone_part name = record { id = name; inner = InnerLeaf 0 }

abbrev lone_net : List ℕ → Actor → Net
lone_net name actor = record {
  file = 0;
  path = [];
  ins = map own_of actor.ins;
  outs = map own_of actor.outs;
  parts = lone_part name ∷ [];
  wires = map (wire_in name) actor.ins ++ map (wire_out name) actor.outs;
}

-- ---- the one part

record IsLone (name : List ℕ) (n place : ℕ) (part : Part) : Type 0 where
  net : n ≡ 0
  first : place ≡ 0
  is : part ≡ lone_part name

only : {A : Type 0} (x y : A) (k : ℕ) → slice_get (x ∷ []) k ≡ Some y → (k ≡ 0) × (y ≡ x)
only x y zero e = (refl, cc)
only x y (suc k) e = absurd cc

is_lone : (name class : List ℕ) (actor : Actor) (n place : ℕ) (part : Part) → IsPart (lone_tree name class actor) n place part
    → IsLone name n place part
is_lone name class actor n place part h =
    let net = only (lone_net name actor) h.net n h.is_net in
    let at = only (lone_part name) part place (ap (λ x. slice_get x.parts place) (sym net.1) ∙ h.is_part) in
    record { net = net.0; first = at.0; is = at.1 }

-- ---- names and sizes

own_names : (ps : List Port) → names ps ≡ map (λ p. p.name) (map own_of ps)
own_names [] = refl
own_names (p ∷ ps) = ap (λ ns. p.name ∷ ns) (own_names ps)

small_in : (name : List ℕ) (ps : List Port) (ws : List Wire) → All (λ w. w.size ≤ max_buffer_size) ws
    → All (λ w. w.size ≤ max_buffer_size) (map (wire_in name) ps ++ ws)
small_in name [] ws h = h
small_in name (p ∷ ps) ws h =
    All-cons (λ w. w.size ≤ max_buffer_size) (wire_in name p) (map (wire_in name) ps ++ ws) (omega arith) (small_in name ps ws h)

small_out : (name : List ℕ) (ps : List Port) → All (λ w. w.size ≤ max_buffer_size) (map (wire_out name) ps)
small_out name [] = All-nil (λ w. w.size ≤ max_buffer_size)
small_out name (p ∷ ps) =
    All-cons (λ w. w.size ≤ max_buffer_size) (wire_out name p) (map (wire_out name) ps) (omega arith) (small_out name ps)

net_sound : (name : List ℕ) (actor : Actor) → IsSound actor → IsNetSound (lone_net name actor)
net_sound name actor fine =
    let all : AreDistinct (names actor.ins ++ names actor.outs) = subst AreDistinct (map-append (λ p. p.name) actor.ins actor.outs) fine.ports in
    record {
      ins = subst sound.AreDistinct (own_names actor.ins) (told_apart (names actor.ins) (those_in_front (names actor.ins) (names actor.outs) all));
      outs = subst sound.AreDistinct (own_names actor.outs) (told_apart (names actor.outs) (those_behind (names actor.ins) (names actor.outs) all));
      parts = told_apart (name ∷ []) ((λ c. nothing_in c), tt);
      few_ins = subst (λ n. n ≤ max_ports) (sym (length-map actor.ins own_of)) fine.few_ins;
      few_outs = subst (λ n. n ≤ max_ports) (sym (length-map actor.outs own_of)) fine.few_outs;
      sizes = small_in name actor.ins (map (wire_out name) actor.outs) (small_out name actor.outs);
    }
  where
    nothing_in : {x : List ℕ} → Contains [] x → ⊥
    nothing_in (k, low, e) = omega (arith, low)

pub lone_trees_are_sound : LoneTreesAreSound
lone_trees_are_sound name class actor fine = record {
  top = lone_net name actor;
  is_top = refl;
  in_order = LeavesOf.leaf refl LeavesOf.none;
  behind = λ n place part h.
      let lone = is_lone name class actor n place part h in
      subst (λ p. IsBehind (lone_tree name class actor) n p.inner) (sym lone.is) (omega arith);
  once = λ n m j k part that h i same.
      let lone = is_lone name class actor n j part h in
      let other = is_lone name class actor m k that i in
      (lone.net ∙ sym other.net, lone.first ∙ sym other.first);
  nets_stand = λ n above below. absurd (omega (arith, above, below));
  leaves_stand = λ l below. stands l (omega (arith, below));
  nets = All-cons IsNetSound (lone_net name actor) [] (net_sound name actor fine) (All-nil IsNetSound);
  few = omega arith;
}
  where
    stands : (l : ℕ) → l ≡ 0 → StandsSomewhere (lone_tree name class actor) (InnerLeaf l)
    stands l e = subst (λ k. StandsSomewhere (lone_tree name class actor) (InnerLeaf k)) (sym e) (record {
      number = 0;
      place = 0;
      part = lone_part name;
      is_part = record { net = lone_net name actor; is_net = refl; is_part = refl };
      is_inner = refl;
    })
