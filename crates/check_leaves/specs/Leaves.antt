-- The actors at the leaves of a network, and why there are none.
-- Trusted: part of what a promise means.
use Rattle.std.specs.Prelude.{◌≡◌, ℕ, ◌<◌, List, [], ◌∷◌, ◌++◌, map, length, All, Contains, Option, None, Some, slice_get}
use Rattle.std.specs.declared.result.Result.{Result}
use Rattle.std.specs.declared.result.Result.TheVariants.{Err}
use Rattle.rvc_base.specs.declared.refusal.Front.{Front}
use Rattle.rvc_base.specs.declared.refusal.Front.TheVariants as front
use Rattle.rvc_base.specs.declared.refusal.Refusal.{Refusal}
use Rattle.cal_model.specs.Actor.{Actor}
use Rattle.cal_model.specs.Sound.{Each, IsSound}
use Rattle.cal_model.specs.View.{actor_of}
use Rattle.cal_imports.specs.Answer.{Gives, Refuses}
use Rattle.cal_imports.specs.Resolved.{resolved}
use Rattle.cal_imports.specs.Sources.{Source}
use Rattle.cal_imports.specs.Whole.{Scope}
use Rattle.fnl_tree.specs.Tree.{Leaf}
use Rattle.check_actor.specs.Checked as checked
use Rattle.fnl_source.specs.Actors.{IsActorOf, given_of, owner_of, source_of}
use Rattle.check_leaves.specs.Alike.{AreAlike}
use Rattle.check_leaves.specs.declared.found.LeafActors.{LeafActors}

-- ---- the actors

-- these are the actors of some leaves, one for each
abbrev pub AreActorsOf : List Source → List Leaf → List Actor → Type 0
AreActorsOf files [] [] = Unit {0}
AreActorsOf files (leaf ∷ leaves) (actor ∷ actors) =
    IsActorOf files leaf actor × AreActorsOf files leaves actors
AreActorsOf files leaves actors = ⊥

abbrev pub with_first : Option Actor → List Actor → List Actor
with_first None actors = actors
with_first (Some actor) actors = actor ∷ actors

-- those that stand at these places of a list
abbrev pub at_places : List Actor → List ℕ → List Actor
at_places actors [] = []
at_places actors (p ∷ ps) = with_first (slice_get actors p) (at_places actors ps)

-- each actor once, and the actor at each leaf
abbrev pub distinct_actors : LeafActors → List Actor
distinct_actors found = map actor_of found.actors.items

abbrev pub actors_at_leaves : LeafActors → List Actor
actors_at_leaves found = at_places (distinct_actors found) found.of_leaf.items

-- each leaf has its actor
abbrev pub IsWithin : LeafActors → Type 0
IsWithin found = All (λ p. p < length found.actors.items) found.of_leaf.items

-- an actor stands once for all leaves that are alike, and for none that isn't there
pub record StandsOnce (leaves : List Leaf) (found : LeafActors) : Type 0 where
  pub shared : (j k : ℕ) (leaf other : Leaf) → slice_get leaves j ≡ Some leaf
      → slice_get leaves k ≡ Some other → AreAlike leaf other
      → slice_get found.of_leaf.items j ≡ slice_get found.of_leaf.items k
  pub used : (p : ℕ) → p < length found.actors.items → Contains found.of_leaf.items p

-- each actor is sound, and so is the one at each leaf
pub record HasSoundActors (found : LeafActors) : Type 0 where
  pub each : Each IsSound (distinct_actors found)
  pub at_leaves : Each IsSound (actors_at_leaves found)

-- ---- what refuses a leaf

-- there is an actor at the leaf
pub record HasActor (files : List Source) (leaf : Leaf) : Type 0 where
  pub actor : Actor
  pub is : IsActorOf files leaf actor

-- a rule that is broken at a leaf: by the scope of its class, or by the actor over the values that the
-- leaf gives
pub data Breaks (files : List Source) (leaf : Leaf) (r : Refusal) : Type 0 where
  in_scope : resolved files leaf.class ≡ Refuses r.rule r.place.file r.place.offset
      → Breaks files leaf r
  in_actor : {scope : Scope} → resolved files leaf.class ≡ Gives scope
      → checked.IsRefused (front.Refused r) (source_of scope) (map given_of leaf.bindings)
      (owner_of leaf) → Breaks files leaf r

-- the first leaf at which there is no actor breaks the rule
pub record IsRefusal (files : List Source) (leaves : List Leaf) (r : Refusal) : Type 0 where
  pub before : List Leaf
  pub leaf : Leaf
  pub behind : List Leaf
  pub parts : leaves ≡ before ++ leaf ∷ behind
  pub are_actors : Each (HasActor files) before
  pub no_actor : HasActor files leaf → ⊥
  pub breaks : Breaks files leaf r

-- running out of memory says nothing
abbrev pub IsFault : List Source → List Leaf → Front → Type 0
IsFault files leaves (front.Refused r) = IsRefusal files leaves r
IsFault files leaves front.Memory = Unit {0}

-- leaves that all are actors are never refused
abbrev pub IsComplete : Result LeafActors Front → List Source → List Leaf → Type 0
IsComplete result files leaves =
    (r : Refusal) → result ≡ Err (front.Refused r) → Each (HasActor files) leaves → ⊥
