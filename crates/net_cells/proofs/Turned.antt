-- Likeness the other way round.
use Rattle.std.proofs.Common.{◌≡◌, ℕ, suc, ◌<◌, List, [], ◌∷◌, ℤ, sym, subst}
use Rattle.std.specs.Prelude.{Option, None, Some, slice_get}
use Rattle.rvc_base.specs.Behaviour.{Behaviour, Effect, Fires, TrapsInGuard, TrapsInBody}
use Rattle.net_model.specs.Network.{Leaf, Network}
use Rattle.net_model.specs.State.{State}
use Rattle.net_model.specs.Alike.{Allowed, EffectsAlike, BehaveAlike, LeavesAlike, AreAlike, ActorsAlike, StatesAlike}

abbrev pub turned : {X Y : Type 0} → (ℕ → X → Y → Type 0) → ℕ → Y → X → Type 0
turned related i y x = related i x y

effects_back : {X Y : Type 0} (related : X → Y → Type 0) (e : Option (Effect X)) (f : Option (Effect Y)) → EffectsAlike related e f → EffectsAlike (λ y x. related x y) f e
effects_back related None None h = tt
effects_back related (Some (Fires x sent)) (Some (Fires y those)) h = (h.0, sym h.1)
effects_back related (Some (TrapsInGuard c)) (Some (TrapsInGuard d)) h = sym h
effects_back related (Some (TrapsInBody c)) (Some (TrapsInBody d)) h = sym h
effects_back related None (Some (Fires y those)) h = absurd h
effects_back related None (Some (TrapsInGuard d)) h = absurd h
effects_back related None (Some (TrapsInBody d)) h = absurd h
effects_back related (Some (Fires x sent)) None h = absurd h
effects_back related (Some (TrapsInGuard c)) None h = absurd h
effects_back related (Some (TrapsInBody c)) None h = absurd h
effects_back related (Some (Fires x sent)) (Some (TrapsInGuard d)) h = absurd h
effects_back related (Some (Fires x sent)) (Some (TrapsInBody d)) h = absurd h
effects_back related (Some (TrapsInGuard c)) (Some (Fires y those)) h = absurd h
effects_back related (Some (TrapsInGuard c)) (Some (TrapsInBody d)) h = absurd h
effects_back related (Some (TrapsInBody c)) (Some (Fires y those)) h = absurd h
effects_back related (Some (TrapsInBody c)) (Some (TrapsInGuard d)) h = absurd h

behave_back : {X Y : Type 0} (related : X → Y → Type 0) (allowed : ℕ → ℤ → Type 0) (one : Behaviour X) (other : Behaviour Y) → BehaveAlike related allowed one other
    → BehaveAlike (λ y x. related x y) allowed other one
behave_back related allowed one other alike = record {
  starts = alike.starts;
  same_ins = sym alike.same_ins;
  same_need = λ a p. sym (alike.same_need a p);
  same_give = λ a p. sym (alike.same_give a p);
  same_choice = λ y x tokens rel fit. sym (alike.same_choice x y tokens rel (λ p low. fit p (subst (λ n. p < n) alike.same_ins low)));
  same_effect = λ y x tokens a rel fit. effects_back related (one.effect x tokens a) (other.effect y tokens a)
      (alike.same_effect x y tokens a rel (λ p low. fit p (subst (λ n. p < n) alike.same_ins low)));
}

leaves_back : {X Y : Type 0} (related : ℕ → X → Y → Type 0) (allowed : Allowed) (i : ℕ) (leaves : List (Leaf X)) (others : List (Leaf Y)) → LeavesAlike related allowed i leaves others
    → LeavesAlike (turned related) allowed i others leaves
leaves_back related allowed i [] [] alike = tt
leaves_back related allowed i (leaf ∷ leaves) (other ∷ others) alike = (
  (sym alike.0.0, sym alike.0.1, behave_back (related i) (allowed i) leaf.behaviour other.behaviour alike.0.2),
  leaves_back related allowed (suc i) leaves others alike.1,
)
leaves_back related allowed i [] (other ∷ others) alike = absurd alike
leaves_back related allowed i (leaf ∷ leaves) [] alike = absurd alike

actors_back : {X Y : Type 0} (related : ℕ → X → Y → Type 0) (i : ℕ) (states : List X) (those : List Y) → ActorsAlike related i states those → ActorsAlike (turned related) i those states
actors_back related i [] [] alike = tt
actors_back related i (x ∷ states) (y ∷ those) alike = (alike.0, actors_back related (suc i) states those alike.1)
actors_back related i [] (y ∷ those) alike = absurd alike
actors_back related i (x ∷ states) [] alike = absurd alike

module _ {X Y : Type 0} (related : ℕ → X → Y → Type 0) (allowed : Allowed) (net : Network X) (other : Network Y) (alike : AreAlike related allowed net other) where
  pub nets_back : AreAlike (turned related) allowed other net
  nets_back = record {
    leaves = leaves_back related allowed 0 net.leaves other.leaves alike.leaves;
    links = sym alike.links;
    ins = sym alike.ins;
    outs = sym alike.outs;
    stores = λ l link at. alike.stores l link (subst (λ links. slice_get links l ≡ Some link) (sym alike.links) at);
  }

  pub states_back : (s : State X) (that : State Y) → StatesAlike related allowed net s that → StatesAlike (turned related) allowed other that s
  states_back s that states = record {
    actors = actors_back related 0 s.actors that.actors states.actors;
    flows = sym states.flows;
    trapped = sym states.trapped;
    holds = λ l link flow at now. states.holds l link flow (subst (λ links. slice_get links l ≡ Some link) (sym alike.links) at)
        (subst (λ flows. slice_get flows l ≡ Some flow) (sym states.flows) now);
  }

  -- .. and back again
  pub states_forth : (s : State X) (that : State Y) → StatesAlike (turned related) allowed other that s → StatesAlike related allowed net s that
  states_forth s that states = record {
    actors = actors_back (turned related) 0 that.actors s.actors states.actors;
    flows = sym states.flows;
    trapped = sym states.trapped;
    holds = λ l link flow at now. states.holds l link flow (subst (λ links. slice_get links l ≡ Some link) alike.links at)
        (subst (λ flows. slice_get flows l ≡ Some flow) (sym states.flows) now);
  }
