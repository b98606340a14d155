-- Networks that differ in paths and classes alone.
use Rattle.std.proofs.Common.{◌≡◌, ℕ, zero, suc, ◌<◌, ◌≤◌, true, List, [], ◌∷◌, length, map, refl, sym, ap, subst, ◌∙◌}
use Rattle.std.specs.Prelude.{Option, None, Some, slice_get, ◌↔◌}
use Rattle.rvc_base.specs.Behaviour.{Behaviour}
use Rattle.net_model.specs.declared.wiring.End.{End}
use Rattle.net_model.specs.declared.wiring.End.TheVariants.{Leaf as AtLeaf, Net as AtNet}
use Rattle.net_model.specs.declared.wiring.Link.{Link}
use Rattle.net_model.specs.declared.wiring.Wiring.{Wiring}
use Rattle.net_model.specs.Limits.{max_instances, max_links, max_rate}
use Rattle.net_model.specs.Network.{Leaf, Network, is_leaf_port, kind_at}
use Rattle.net_model.specs.Cell.{Cell, number_on}
use Rattle.net_model.specs.Ready.{IsNetworkOf, IsReady}
use Rattle.net_model.specs.Wired.{ComesFromPort, CoversGives, CoversNeeds, HasInput, HasKindOf, HasOutput, HoldsGives, HoldsNeeds, IsJoined, IsWired, LeadsToPort}

abbrev behaviour_of : {X : Type 0} → Option (Leaf X) → Option (Behaviour X)
behaviour_of None = None
behaviour_of (Some leaf) = Some leaf.behaviour

same_at : {X : Type 0} (leaves others : List (Leaf X)) → map (λ leaf. leaf.behaviour) leaves ≡ map (λ leaf. leaf.behaviour) others → (i : ℕ)
    → behaviour_of (slice_get leaves i) ≡ behaviour_of (slice_get others i)
same_at [] [] same i = refl
same_at [] (other ∷ others) same i = cc
same_at (leaf ∷ leaves) [] same i = cc
same_at (leaf ∷ leaves) (other ∷ others) same zero = let one : leaf.behaviour ≡ other.behaviour = cc in ap Some one
same_at {X} (leaf ∷ leaves) (other ∷ others) same (suc i) =
    let rest : map {A = Leaf X} (λ leaf. leaf.behaviour) leaves ≡ map (λ leaf. leaf.behaviour) others = cc in
    same_at leaves others rest i

-- the same leaf's behaviour
record Twin {X : Type 0} (o : Option (Leaf X)) (leaf : Leaf X) : Type 0 where
  pub twin : Leaf X
  pub here : o ≡ Some twin
  pub same : twin.behaviour ≡ leaf.behaviour

twin_of : {X : Type 0} (o : Option (Leaf X)) (leaf : Leaf X) → behaviour_of o ≡ Some leaf.behaviour → Twin o leaf
twin_of None leaf same = cc
twin_of (Some twin) leaf same = let one : twin.behaviour ≡ leaf.behaviour = cc in record { twin = twin; here = refl; same = one }

input_so : {X : Type 0} (p : ℕ) (o u : Option (Leaf X)) → behaviour_of o ≡ behaviour_of u → HasInput p o → HasInput p u
input_so p None u same h = absurd h
input_so p (Some leaf) None same h = cc
input_so p (Some leaf) (Some other) same h = let one : leaf.behaviour ≡ other.behaviour = cc in subst (λ b. p < b.ins) one h

output_so : {X : Type 0} (p : ℕ) (o u : Option (Leaf X)) → behaviour_of o ≡ behaviour_of u → HasOutput p o → HasOutput p u
output_so p None u same h = absurd h
output_so p (Some leaf) None same h = cc
output_so p (Some leaf) (Some other) same h = let one : leaf.behaviour ≡ other.behaviour = cc in subst (λ b. p < b.outs) one h

needs_so : {X : Type 0} (capacity p : ℕ) (o u : Option (Leaf X)) → behaviour_of o ≡ behaviour_of u → CoversNeeds capacity p o → CoversNeeds capacity p u
needs_so capacity p o None same h = tt
needs_so capacity p None (Some other) same h = cc
needs_so capacity p (Some leaf) (Some other) same h = let one : leaf.behaviour ≡ other.behaviour = cc in λ a. subst (λ b. b.need a p ≤ capacity) one (h a)

gives_so : {X : Type 0} (capacity p : ℕ) (o u : Option (Leaf X)) → behaviour_of o ≡ behaviour_of u → CoversGives capacity p o → CoversGives capacity p u
gives_so capacity p o None same h = tt
gives_so capacity p None (Some other) same h = cc
gives_so capacity p (Some leaf) (Some other) same h = let one : leaf.behaviour ≡ other.behaviour = cc in λ a. subst (λ b. b.give a p ≤ capacity) one (h a)

pub record SameShape {X : Type 0} (net other : Network X) : Type 0 where
  pub leaves : map {A = Leaf X} (λ leaf. leaf.behaviour) net.leaves ≡ map (λ leaf. leaf.behaviour) other.leaves
  pub links : net.links ≡ other.links
  pub ins : net.ins ≡ other.ins
  pub outs : net.outs ≡ other.outs

-- two networks of the same cells and wiring
pub shapes : {X : Type 0} (net other : Network X) (cells : List (Cell X)) (wiring : Wiring) → IsNetworkOf net cells wiring → IsNetworkOf other cells wiring → SameShape net other
shapes net other cells wiring one two = record {
  leaves = one.actors ∙ sym two.actors;
  links = one.links ∙ sym two.links;
  ins = one.ins ∙ sym two.ins;
  outs = one.outs ∙ sym two.outs;
}

comes_so : {X : Type 0} (net other : Network X) → SameShape net other → (end : End) → ComesFromPort net end → ComesFromPort other end
comes_so net other same (AtLeaf inst port) h = output_so port (slice_get net.leaves inst.0) (slice_get other.leaves inst.0) (same_at net.leaves other.leaves same.leaves inst.0) h
comes_so net other same (AtNet port) h = subst (λ ins. port < length ins) same.ins h

leads_so : {X : Type 0} (net other : Network X) → SameShape net other → (end : End) → LeadsToPort net end → LeadsToPort other end
leads_so net other same (AtLeaf inst port) h = input_so port (slice_get net.leaves inst.0) (slice_get other.leaves inst.0) (same_at net.leaves other.leaves same.leaves inst.0) h
leads_so net other same (AtNet port) h = subst (λ outs. port < length outs) same.outs h

kind_so : {X : Type 0} (net other : Network X) (link : Link) → SameShape net other → (end : End) → HasKindOf net link end → HasKindOf other link end
kind_so net other link same (AtLeaf inst port) h = tt
kind_so net other link same (AtNet port) h = subst (λ outs. link.kind ≡ kind_at outs port) same.outs h

holds_needs_so : {X : Type 0} (net other : Network X) (capacity : ℕ) → SameShape net other → (end : End) → HoldsNeeds net capacity end → HoldsNeeds other capacity end
holds_needs_so net other capacity same (AtLeaf inst port) h =
    needs_so capacity port (slice_get net.leaves inst.0) (slice_get other.leaves inst.0) (same_at net.leaves other.leaves same.leaves inst.0) h
holds_needs_so net other capacity same (AtNet port) h = tt

holds_gives_so : {X : Type 0} (net other : Network X) (capacity : ℕ) → SameShape net other → (end : End) → HoldsGives net capacity end → HoldsGives other capacity end
holds_gives_so net other capacity same (AtLeaf inst port) h =
    gives_so capacity port (slice_get net.leaves inst.0) (slice_get other.leaves inst.0) (same_at net.leaves other.leaves same.leaves inst.0) h
holds_gives_so net other capacity same (AtNet port) h = tt

same_count : {A B : Type 0} (f : A → B) (xs ys : List A) → map f xs ≡ map f ys → length xs ≡ length ys
same_count f [] [] same = refl
same_count f [] (y ∷ ys) same = cc
same_count f (x ∷ xs) [] same = cc
same_count f (x ∷ xs) (y ∷ ys) same = let rest : map f xs ≡ map f ys = cc in ap suc (same_count f xs ys rest)

pub wired_so : {X : Type 0} (net other : Network X) → SameShape net other → IsWired net → IsWired other
wired_so {X} net other same wired = record {
  joined = λ l link at.
      let was : IsJoined net link = wired.joined l link (subst (λ ls. slice_get ls l ≡ Some link) (sym same.links) at) in
      record {
        from_port = comes_so net other same link.from was.from_port;
        to_port = leads_so net other same link.to was.to_port;
        inside = was.inside;
        output_kind = kind_so net other link same link.to was.output_kind;
        holds_needs = holds_needs_so net other link.capacity same link.to was.holds_needs;
        holds_gives = holds_gives_so net other link.capacity same link.from was.holds_gives;
      };
  in_order = λ l m link that low at there. wired.in_order l m link that low (subst (λ ls. slice_get ls l ≡ Some link) (sym same.links) at)
      (subst (λ ls. slice_get ls m ≡ Some that) (sym same.links) there);
  few_leaves = subst (λ n. n ≤ max_instances) (same_count {A = Leaf X} (λ leaf. leaf.behaviour) net.leaves other.leaves same.leaves) wired.few_leaves;
  few_links = subst (λ ls. length ls ≤ max_links) same.links wired.few_links;
  few_taken = λ i leaf at a p.
      let that : Twin (slice_get net.leaves i) leaf = twin_of (slice_get net.leaves i) leaf (same_at net.leaves other.leaves same.leaves i ∙ ap behaviour_of at) in
      subst (λ b. b.need a p ≤ max_rate) that.same (wired.few_taken i that.twin that.here a p);
  few_given = λ i leaf at a p.
      let that : Twin (slice_get net.leaves i) leaf = twin_of (slice_get net.leaves i) leaf (same_at net.leaves other.leaves same.leaves i ∙ ap behaviour_of at) in
      subst (λ b. b.give a p ≤ max_rate) that.same (wired.few_given i that.twin that.here a p);
}

-- .. and so is the other one ready to be run
pub ready_so : {X : Type 0} (net other : Network X) (grow burst : ℕ) (cells : List (Cell X)) → SameShape net other → IsReady net grow burst cells → IsReady other grow burst cells
ready_so net other grow burst cells same ready = record {
  wired = wired_so net other same ready.wired;
  few_grown = ready.few_grown;
  fresh = ready.fresh;
  queues = λ l link at. ready.queues l link (subst (λ ls. slice_get ls l ≡ Some link) (sym same.links) at);
  read = λ i cell at p low. subst (λ ls. (0 < number_on cell.outbox_capacities p) ↔ ((l : ℕ) × (link : Link) × (slice_get ls l ≡ Some link) × (is_leaf_port i p link.from ≡ true)))
      same.links (ready.read i cell at p low);
}
