-- Likeness: networks with the same links and ports whose leaves behave alike, by a relation between their states.
-- Trusted: part of what a promise means.
use Rattle.std.specs.Prelude.{◌≡◌, ℕ, suc, ◌<◌, ◌↔◌, List, [], ◌∷◌, ℤ, slice_get, Option, None, Some}
use Rattle.rvc_base.specs.Storing.{conv}
use Rattle.rvc_base.specs.Behaviour.{Behaviour, Effect, Fires, TrapsInGuard, TrapsInBody}
use Rattle.rvc_base.specs.Lawful.{tokens_on}
use Rattle.trace_text.specs.declared.line.Line.{Line}
use Rattle.net_model.specs.declared.wiring.End.{End}
use Rattle.net_model.specs.declared.wiring.End.TheVariants.{Leaf as AtLeaf, Net as AtNet}
use Rattle.net_model.specs.declared.wiring.Link.{Link}
use Rattle.net_model.specs.Network.{Leaf, Network}
use Rattle.net_model.specs.State.{Flow, State, start_of}
use Rattle.net_model.specs.Ends.{IsQuiet, IsStalled, IsStuck, IsBetween}
use Rattle.net_model.specs.Trace.{PlaysFrom, KeepsFrom, text, bytes_out}
use Rattle.net_model.specs.Paced.{Pace, IsPaced}

-- which tokens may come before a port of a leaf
abbrev pub Allowed : Type 1
Allowed = ℕ → ℕ → ℤ → Type 0

abbrev pub EachIs : (ℤ → Type 0) → List ℤ → Type 0
EachIs P [] = Unit {0}
EachIs P (token ∷ tokens) = P token × EachIs P tokens

-- what two actions make is alike: the same is sent and the next states are related, or the same traps
abbrev pub EffectsAlike : {X Y : Type 0} → (X → Y → Type 0) → Option (Effect X) → Option (Effect Y)
    → Type 0
EffectsAlike related None None = Unit {0}
EffectsAlike related (Some (Fires next sent)) (Some (Fires other those)) = related next other
    × (sent ≡ those)
EffectsAlike related (Some (TrapsInGuard cause)) (Some (TrapsInGuard other)) = cause ≡ other
EffectsAlike related (Some (TrapsInBody cause)) (Some (TrapsInBody other)) = cause ≡ other
EffectsAlike related effect other = ⊥

-- Two actors behave alike if their rates are the same and, in related states and over tokens that may come,
-- so are their choices and what their actions make.
pub record BehaveAlike {X Y : Type 0} (related : X → Y → Type 0) (allowed : ℕ → ℤ → Type 0)
    (one : Behaviour X) (other : Behaviour Y) : Type 0 where
  pub starts : related one.start other.start
  pub same_ins : one.ins ≡ other.ins
  pub same_need : (a p : ℕ) → one.need a p ≡ other.need a p
  pub same_give : (a p : ℕ) → one.give a p ≡ other.give a p
  pub same_choice : (state : X) (that : Y) (tokens : List (List ℤ)) → related state that
      → ((p : ℕ) → p < one.ins → EachIs (allowed p) (tokens_on tokens p))
      → one.choice state tokens ≡ other.choice that tokens
  pub same_effect : (state : X) (that : Y) (tokens : List (List ℤ)) (a : ℕ) → related state that
      → ((p : ℕ) → p < one.ins → EachIs (allowed p) (tokens_on tokens p))
      → EffectsAlike related (one.effect state tokens a) (other.effect that tokens a)

-- leaves from number i on, by a relation and allowed tokens for each of them
abbrev pub LeavesAlike : {X Y : Type 0} → (ℕ → X → Y → Type 0) → Allowed → ℕ → List (Leaf X)
    → List (Leaf Y) → Type 0
LeavesAlike related allowed i [] [] = Unit {0}
LeavesAlike related allowed i (leaf ∷ leaves) (other ∷ others) =
    ((leaf.path ≡ other.path) × (leaf.class ≡ other.class)
    × BehaveAlike (related i) (allowed i) leaf.behaviour other.behaviour)
    × LeavesAlike related allowed (suc i) leaves others
LeavesAlike related allowed i leaves others = ⊥

-- what a link stores may come at its end
abbrev pub StoresAllowed : Allowed → Link → End → Type 0
StoresAllowed allowed link (AtLeaf inst port) = (v : ℤ) → allowed inst.0 port (conv link.kind v)
StoresAllowed allowed link (AtNet port) = Unit {0}

pub record AreAlike {X Y : Type 0} (related : ℕ → X → Y → Type 0) (allowed : Allowed)
    (net : Network X) (other : Network Y) : Type 0 where
  pub leaves : LeavesAlike related allowed 0 net.leaves other.leaves
  pub links : net.links ≡ other.links
  pub ins : net.ins ≡ other.ins
  pub outs : net.outs ≡ other.outs
  pub stores : (l : ℕ) (link : Link) → slice_get net.links l ≡ Some link
      → StoresAllowed allowed link link.to

-- the states of leaves from number i on are related
abbrev pub ActorsAlike : {X Y : Type 0} → (ℕ → X → Y → Type 0) → ℕ → List X → List Y → Type 0
ActorsAlike related i [] [] = Unit {0}
ActorsAlike related i (state ∷ states) (that ∷ those) = related i state that
    × ActorsAlike related (suc i) states those
ActorsAlike related i states those = ⊥

-- the tokens that were sent on a link may come at its end
abbrev pub HoldsAllowed : Allowed → Flow → End → Type 0
HoldsAllowed allowed flow (AtLeaf inst port) = EachIs (allowed inst.0 port) flow.sent
HoldsAllowed allowed flow (AtNet port) = Unit {0}

-- two network states are alike: related actors, equal flows and marks
pub record StatesAlike {X Y : Type 0} (related : ℕ → X → Y → Type 0) (allowed : Allowed)
    (net : Network X) (s : State X) (t : State Y) : Type 0 where
  pub actors : ActorsAlike related 0 s.actors t.actors
  pub flows : s.flows ≡ t.flows
  pub trapped : s.trapped ≡ t.trapped
  pub holds : (l : ℕ) (link : Link) (flow : Flow) → slice_get net.links l ≡ Some link
      → slice_get s.flows l ≡ Some flow
      → HoldsAllowed allowed flow link.to

-- The laws, over states X and Y of actors and a relation between them for each leaf.

-- the starts of runs over files are alike
abbrev pub StartsAreAlike : {X Y : Type 0} → (ℕ → X → Y → Type 0) → Allowed → Type 0
StartsAreAlike {X} {Y} related allowed =
    (net : Network X) (other : Network Y) (inputs : List (List ℕ))
    → AreAlike related allowed net other
    → StatesAlike related allowed net (start_of net inputs) (start_of other inputs)

-- lines that play from a state play from one that is alike, and lead to states that are alike
abbrev pub LinesPlayAlike : {X Y : Type 0} → (ℕ → X → Y → Type 0) → Allowed → Type 0
LinesPlayAlike {X} {Y} related allowed = (net : Network X) (other : Network Y) (grow : ℕ)
    (s t : State X) (that : State Y) (lines : List Line) → AreAlike related allowed net other
    → StatesAlike related allowed net s that
    → PlaysFrom net grow s lines t → (last : State Y) × PlaysFrom other grow that lines last
    × StatesAlike related allowed net t last

-- they keep the capacities in both
abbrev pub LinesKeepAlike : {X Y : Type 0} → (ℕ → X → Y → Type 0) → Allowed → Type 0
LinesKeepAlike {X} {Y} related allowed = (net : Network X) (other : Network Y)
    (s : State X) (that : State Y) (lines : List Line) → AreAlike related allowed net other
    → StatesAlike related allowed net s that
    → KeepsFrom net s lines → KeepsFrom other that lines

-- the texts are the same, and the bytes of each output
abbrev pub TextsAreAlike : {X Y : Type 0} → (ℕ → X → Y → Type 0) → Allowed → Type 0
TextsAreAlike {X} {Y} related allowed =
    (net : Network X) (other : Network Y) (grow : ℕ) (lines : List Line)
    → AreAlike related allowed net other → text net grow lines ≡ text other grow lines

abbrev pub BytesAreAlike : {X Y : Type 0} → (ℕ → X → Y → Type 0) → Allowed → Type 0
BytesAreAlike {X} {Y} related allowed =
    (net : Network X) (other : Network Y) (s : State X) (that : State Y) (p : ℕ)
    → AreAlike related allowed net other → StatesAlike related allowed net s that
    → bytes_out net s p ≡ bytes_out other that p

-- the ends are the same
abbrev pub EndsAreAlike : {X Y : Type 0} → (ℕ → X → Y → Type 0) → Allowed → Type 0
EndsAreAlike {X} {Y} related allowed =
    (net : Network X) (other : Network Y) (grow : ℕ) (s : State X) (that : State Y)
    → AreAlike related allowed net other → StatesAlike related allowed net s that
    → (IsQuiet net s ↔ IsQuiet other that)
    × ((i a l : ℕ) → IsStalled net s i a l ↔ IsStalled other that i a l)
    × ((i a l : ℕ) → IsStuck net grow s i a l ↔ IsStuck other grow that i a l)
    × (IsBetween net grow s ↔ IsBetween other grow that)

-- lines that are paced from a state are paced from one that is alike
abbrev pub PacedAlike : {X Y : Type 0} → (ℕ → X → Y → Type 0) → Allowed → Type 0
PacedAlike {X} {Y} related allowed = (net : Network X) (other : Network Y) (pace : Pace)
    (s t : State X) (that : State Y) (lines : List Line) → AreAlike related allowed net other
    → StatesAlike related allowed net s that
    → IsPaced net pace s lines t → (last : State Y) × IsPaced other pace that lines last
    × StatesAlike related allowed net t last
