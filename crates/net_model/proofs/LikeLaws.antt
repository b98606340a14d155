-- The laws of likeness, for any two networks that are alike.
use Rattle.std.proofs.Common.{◌≡◌, ℕ, zero, suc, List, [], ◌∷◌, ℤ, map, refl, sym, ap, ◌∙◌, subst}
use Rattle.std.specs.Prelude.{Option, None, Some, slice_get, ◌↔◌}
use Rattle.rvc_base.specs.Behaviour.{Behaviour, Effect, Fires, TrapsInGuard, TrapsInBody}
use Rattle.rvc_base.specs.Storing.{conv}
use Rattle.trace_text.specs.declared.line.Line.{Line}
use Rattle.net_model.specs.declared.wiring.End.{End}
use Rattle.net_model.specs.declared.wiring.End.TheVariants.{Leaf as AtLeaf, Net as AtNet}
use Rattle.net_model.specs.declared.wiring.Link.{Link}
use Rattle.net_model.specs.Network.{Leaf, Network, NetPort}
use Rattle.net_model.specs.State.{Flow, State, start_of, first_flow, fed_by}
use Rattle.net_model.specs.Ends.{IsQuiet, IsStalled, IsStuck, IsBetween}
use Rattle.net_model.specs.Trace.{PlaysFrom, KeepsFrom, text, bytes_out}
use Rattle.net_model.specs.Paced.{Pace, IsPaced}
use Rattle.net_model.specs.Alike.{Allowed, EachIs, EffectsAlike, BehaveAlike, LeavesAlike, StoresAllowed, AreAlike, ActorsAlike, HoldsAllowed, StatesAlike}
use Rattle.net_model.proofs.Twins.{Twins, TwinNets, twin, twin_net, each_map}
use Rattle.net_model.proofs.LikeLines.{quiet_too, quiet_back, stalled_too, stalled_back, stuck_too, stuck_back, between_too, between_back, plays_too, keeps_too, text_too}
use Rattle.net_model.proofs.LikePacing.{paced_too}

starts_related : {X Y : Type 0} (related : ℕ → X → Y → Type 0) (allowed : Allowed) (i : ℕ) (leaves : List (Leaf X)) (others : List (Leaf Y))
    → LeavesAlike related allowed i leaves others
    → ActorsAlike related i (map (λ leaf. leaf.behaviour.start) leaves) (map (λ leaf. leaf.behaviour.start) others)
starts_related related allowed i [] [] alike = tt
starts_related related allowed i (leaf ∷ leaves) (other ∷ others) alike =
    (alike.0.2.starts, starts_related related allowed (suc i) leaves others alike.1)
starts_related related allowed i [] (other ∷ others) alike = absurd alike
starts_related related allowed i (leaf ∷ leaves) [] alike = absurd alike

first_holds : (allowed : Allowed) (ports : List NetPort) (inputs : List (List ℕ)) (links : List Link)
    → ((l : ℕ) (link : Link) → slice_get links l ≡ Some link → StoresAllowed allowed link link.to)
    → (l : ℕ) (link : Link) (flow : Flow) → slice_get links l ≡ Some link → slice_get (map (first_flow ports inputs) links) l ≡ Some flow
    → HoldsAllowed allowed flow link.to
first_holds allowed ports inputs [] stores l link flow at now = cc
first_holds allowed ports inputs (head ∷ links) stores zero link flow at now =
    let same : head ≡ link = cc in
    let flow_is : first_flow ports inputs link ≡ flow = ap (first_flow ports inputs) (sym same) ∙ (let is : first_flow ports inputs head ≡ flow = cc in is) in
    subst (λ f. HoldsAllowed allowed f link.to) flow_is
    (fed_holds link link.to (subst (λ k. StoresAllowed allowed k k.to) same (stores 0 head refl)))
  where
    fed_each : (link : Link) (from : End) (inst port : ℕ) → ((v : ℤ) → allowed inst port (conv link.kind v)) → EachIs (allowed inst port) (fed_by ports inputs link from)
    fed_each link (AtLeaf leaf q) inst port stores = tt
    fed_each link (AtNet q) inst port stores = each_map (allowed inst port) (conv link.kind) _ stores

    fed_holds : (link : Link) (end : End) → StoresAllowed allowed link end → HoldsAllowed allowed (first_flow ports inputs link) end
    fed_holds link (AtLeaf inst port) stores = fed_each link link.from inst.0 port stores
    fed_holds link (AtNet port) stores = tt
first_holds allowed ports inputs (head ∷ links) stores (suc l) link flow at now =
    first_holds allowed ports inputs links (λ m. stores (suc m)) l link flow at now

module _ {X Y : Type 0} (related : ℕ → X → Y → Type 0) (allowed : Allowed) (net : Network X) (other : Network Y) (alike : AreAlike related allowed net other) where
  nets : TwinNets related allowed net other.leaves
  nets = record { leaves = alike.leaves; stores = alike.stores }

  -- the other network is the one with its leaves
  net_is : twin_net net other.leaves ≡ other
  net_is =
      ap (λ ls. record { leaves = other.leaves; links = ls; ins = net.ins; outs = net.outs }) alike.links
      ∙ (ap (λ ps. record { leaves = other.leaves; links = other.links; ins = ps; outs = net.outs }) alike.ins
      ∙ ap (λ ps. record { leaves = other.leaves; links = other.links; ins = other.ins; outs = ps }) alike.outs)

  state_is : (s : State X) (that : State Y) → StatesAlike related allowed net s that → twin s that.actors ≡ that
  state_is s that states =
      ap (λ fs. record { actors = that.actors; flows = fs; trapped = s.trapped }) states.flows
      ∙ ap (λ b. record { actors = that.actors; flows = that.flows; trapped = b }) states.trapped

  twins_of : (s : State X) (that : State Y) → StatesAlike related allowed net s that → Twins related allowed net s that.actors
  twins_of s that states = record { actors = states.actors; holds = states.holds }

  states_of : (t : State X) (those : List Y) → Twins related allowed net t those → StatesAlike related allowed net t (twin t those)
  states_of t those twins = record { actors = twins.actors; flows = refl; trapped = refl; holds = twins.holds }

  -- a fact of the twin is one of the other network and its state
  carried : (P : Network Y → State Y → Type 0) (s : State X) (that : State Y) → StatesAlike related allowed net s that
      → P (twin_net net other.leaves) (twin s that.actors) → P other that
  carried P s that states h = subst (λ n. P n that) net_is (subst (λ w. P (twin_net net other.leaves) w) (state_is s that states) h)

  brought : (P : Network Y → State Y → Type 0) (s : State X) (that : State Y) → StatesAlike related allowed net s that
      → P other that → P (twin_net net other.leaves) (twin s that.actors)
  brought P s that states h =
      subst (λ w. P (twin_net net other.leaves) w) (sym (state_is s that states)) (subst (λ n. P n that) (sym net_is) h)

  pub starts_alike : (inputs : List (List ℕ)) → StatesAlike related allowed net (start_of net inputs) (start_of other inputs)
  starts_alike inputs = subst (λ n. StatesAlike related allowed net (start_of net inputs) (start_of n inputs)) net_is (record {
    actors = starts_related related allowed 0 net.leaves other.leaves alike.leaves;
    flows = refl;
    trapped = refl;
    holds = first_holds allowed net.ins inputs net.links alike.stores;
  })

  pub lines_alike : (grow : ℕ) (s t : State X) (that : State Y) (lines : List Line) → StatesAlike related allowed net s that → PlaysFrom net grow s lines t
      → (last : State Y) × PlaysFrom other grow that lines last × StatesAlike related allowed net t last
  lines_alike grow s t that lines states plays =
      let too = plays_too related allowed net other.leaves nets grow lines s t that.actors (twins_of s that states) plays in
      (twin t too.0, carried (λ n w. PlaysFrom n grow w lines (twin t too.0)) s that states too.1, states_of t too.0 too.2)

  pub keep_alike : (s : State X) (that : State Y) (lines : List Line) → StatesAlike related allowed net s that → KeepsFrom net s lines → KeepsFrom other that lines
  keep_alike s that lines states keeps =
      carried (λ n w. KeepsFrom n w lines) s that states
      (keeps_too related allowed net other.leaves nets lines s s that.actors that.actors (twins_of s that states) keeps)

  pub texts_alike : (grow : ℕ) (lines : List Line) → text net grow lines ≡ text other grow lines
  texts_alike grow lines = text_too related allowed net other.leaves grow lines nets ∙ ap (λ n. text n grow lines) net_is

  pub bytes_alike : (s : State X) (that : State Y) (p : ℕ) → StatesAlike related allowed net s that → bytes_out net s p ≡ bytes_out other that p
  bytes_alike s that p states = carried (λ n w. bytes_out net s p ≡ bytes_out n w p) s that states refl

  pub ends_alike : (grow : ℕ) (s : State X) (that : State Y) → StatesAlike related allowed net s that
      → (IsQuiet net s ↔ IsQuiet other that) × ((i a l : ℕ) → IsStalled net s i a l ↔ IsStalled other that i a l)
      × ((i a l : ℕ) → IsStuck net grow s i a l ↔ IsStuck other grow that i a l) × (IsBetween net grow s ↔ IsBetween other grow that)
  ends_alike grow s that states =
      let twins = twins_of s that states in (
        (
          (λ h. carried IsQuiet s that states (quiet_too related allowed net other.leaves nets s that.actors twins h)),
          (λ h. quiet_back related allowed net other.leaves nets s that.actors twins (brought IsQuiet s that states h)),
        ),
        (λ i a l. (
          (λ h. carried (λ n w. IsStalled n w i a l) s that states (stalled_too related allowed net other.leaves nets s that.actors i a l twins h)),
          (λ h. stalled_back related allowed net other.leaves nets s that.actors i a l twins (brought (λ n w. IsStalled n w i a l) s that states h)),
        )),
        (λ i a l. (
          (λ h. carried (λ n w. IsStuck n grow w i a l) s that states (stuck_too related allowed net other.leaves nets grow s that.actors i a l twins h)),
          (λ h. stuck_back related allowed net other.leaves nets grow s that.actors i a l twins (brought (λ n w. IsStuck n grow w i a l) s that states h)),
        )),
        (
          (λ h. carried (λ n w. IsBetween n grow w) s that states (between_too related allowed net other.leaves nets grow s that.actors twins h)),
          (λ h. between_back related allowed net other.leaves nets grow s that.actors twins (brought (λ n w. IsBetween n grow w) s that states h)),
        ),
      )

  pub paced_alike : (pace : Pace) (s t : State X) (that : State Y) (lines : List Line) → StatesAlike related allowed net s that → IsPaced net pace s lines t
      → (last : State Y) × IsPaced other pace that lines last × StatesAlike related allowed net t last
  paced_alike pace s t that lines states paced =
      let too = paced_too related allowed net other.leaves nets pace s that.actors lines t (twins_of s that states) paced in
      (twin t too.0, carried (λ n w. IsPaced n pace w lines (twin t too.0)) s that states too.1, states_of t too.0 too.2)

-- A network is alike itself, by equal states and any tokens: so the laws speak of something.

effects_self : {X : Type 0} (e : Option (Effect X)) → EffectsAlike (λ x y. x ≡ y) e e
effects_self None = tt
effects_self (Some (Fires x sent)) = (refl, refl)
effects_self (Some (TrapsInGuard c)) = refl
effects_self (Some (TrapsInBody c)) = refl

behaves_self : {X : Type 0} (actor : Behaviour X) → BehaveAlike (λ x y. x ≡ y) (λ p v. Unit {0}) actor actor
behaves_self actor = record {
  starts = refl;
  same_ins = refl;
  same_need = λ a p. refl;
  same_give = λ a p. refl;
  same_choice = λ x y tokens same fit. ap (λ state. actor.choice state tokens) same;
  same_effect = λ x y tokens a same fit.
      subst (λ state. EffectsAlike (λ x y. x ≡ y) (actor.effect x tokens a) (actor.effect state tokens a)) same (effects_self (actor.effect x tokens a));
}

leaves_self : {X : Type 0} (i : ℕ) (leaves : List (Leaf X)) → LeavesAlike (λ i x y. x ≡ y) (λ i p v. Unit {0}) i leaves leaves
leaves_self i [] = tt
leaves_self i (leaf ∷ leaves) = ((refl, refl, behaves_self leaf.behaviour), leaves_self (suc i) leaves)

alike_self : {X : Type 0} (net : Network X) → AreAlike (λ i x y. x ≡ y) (λ i p v. Unit {0}) net net
alike_self net = record {
  leaves = leaves_self 0 net.leaves;
  links = refl;
  ins = refl;
  outs = refl;
  stores = λ l link at. stores_any link link.to;
}
  where
    stores_any : (link : Link) (end : End) → StoresAllowed (λ i p v. Unit {0}) link end
    stores_any link (AtLeaf inst port) = λ v. tt
    stores_any link (AtNet port) = tt
