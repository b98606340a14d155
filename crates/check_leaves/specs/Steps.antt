-- What is found leaf by leaf.
-- Trusted is what `actor_at` cites: `NamesStandApart`, `IsRefusedAt` and `IsAnswered`. No promise is read with the rest.
use Rattle.std.specs.Prelude.{◌≡◌, ℕ, ◌<◌, ◌≤◌, List, [], ◌∷◌, ◌++◌, map, length, Contains, Some, slice_get}
use Rattle.std.specs.declared.result.Result.{Result}
use Rattle.std.specs.declared.result.Result.TheVariants.{Ok, Err}
use Rattle.rvc_base.specs.Rules.{import_not_found}
use Rattle.rvc_base.specs.declared.refusal.Front.{Front}
use Rattle.rvc_base.specs.declared.refusal.Front.TheVariants as front
use Rattle.cal_model.specs.Actor.{Actor}
use Rattle.cal_model.specs.View.{actor_of}
use Rattle.cal_model.specs.declared.bound.Bound.{Bound}
use Rattle.cal_model.specs.Sound.{AreDistinct}
use Rattle.cal_check.specs.Sources.{names_of_source}
use Rattle.cal_imports.specs.Answer.{Gives}
use Rattle.cal_imports.specs.Resolved.{resolved}
use Rattle.cal_imports.specs.Sources.{Source}
use Rattle.cal_imports.specs.Whole.{Scope}
use Rattle.fnl_tree.specs.Tree.{Leaf}
use Rattle.check_actor.specs.Sources.{source_of}
use Rattle.fnl_source.specs.Actors.{IsActorOf}
use Rattle.check_leaves.specs.Alike.{AreAlike}
use Rattle.check_leaves.specs.Finding.{IsIndex, all_linked, leaves_of, number_of, with_number}
use Rattle.check_leaves.specs.Leaves.{AreActorsOf, Breaks, HasActor}
use Rattle.check_leaves.specs.declared.known.Known.{Known}

-- ---- names

-- the texts that stand for variables, functions and procedures differ in each scope that these files give
abbrev pub NamesStandApart : List Source → Type 0
NamesStandApart files = (class : List ℕ) (scope : Scope) → resolved files class ≡ Gives scope
    → AreDistinct (names_of_source (source_of scope))

-- ---- one leaf

-- no file has the class that is asked for
abbrev pub unfound : Front
unfound = front.Refused (record {
  rule = import_not_found;
  place = record { file = 0; offset = 0 };
})

-- the rule that is broken at a leaf, at which there is no actor
abbrev pub IsRefusedAt : Front → List Source → Leaf → Type 0
IsRefusedAt (front.Refused r) files leaf = (HasActor files leaf → ⊥) × Breaks files leaf r
IsRefusedAt front.Memory files leaf = Unit {0}

abbrev pub IsAnswered : Result Bound Front → List Source → Leaf → Type 0
IsAnswered (Ok b) files leaf = IsActorOf files leaf (actor_of b)
IsAnswered (Err f) files leaf = IsRefusedAt f files leaf

-- ---- all leaves so far

-- the leaf is like the first one of the actor at its place
abbrev pub StandsAt : List Leaf → Leaf → ℕ → Type 0
StandsAt firsts leaf p = (first : Leaf) × (slice_get firsts p ≡ Some first) × AreAlike leaf first

abbrev pub AllStand : List Leaf → List Leaf → List ℕ → Type 0
AllStand firsts [] [] = Unit {0}
AllStand firsts (leaf ∷ leaves) (p ∷ ps) = StandsAt firsts leaf p × AllStand firsts leaves ps
AllStand firsts leaves ps = ⊥

-- no two of these are alike
abbrev pub AreApart : List Leaf → Type 0
AreApart leaves = (j k : ℕ) (leaf other : Leaf) → slice_get leaves j ≡ Some leaf
    → slice_get leaves k ≡ Some other → AreAlike leaf other → j ≡ k

-- the actors of these leaves, each with its first leaf
pub record IsSoFar (files : List Source) (done firsts : List Leaf) (actors : List Actor)
    (places : List ℕ) : Type 0 where
  pub are : AreActorsOf files firsts actors
  pub stand : AllStand firsts done places
  pub apart : AreApart firsts
  pub used : (p : ℕ) → p < length firsts → Contains places p
  pub few : length firsts ≤ length done

-- the same, of what the code holds
abbrev pub firsts_of : Known → List Leaf
firsts_of known = leaves_of (all_linked known.firsts.items)

abbrev pub IsKnown : List Source → List Leaf → Known → Type 0
IsKnown files done known =
    IsSoFar files done (firsts_of known) (map actor_of known.actors.items) known.of_leaf.items

abbrev pub IsIndexed : Known → Type 0
IsIndexed known = IsIndex known.newest (all_linked known.firsts.items)

-- one leaf more
pub record IsAdded (files : List Source) (leaf : Leaf) (old new : Known) : Type 0 where
  pub indexed : IsIndexed new
  pub known : (done : List Leaf) → IsKnown files done old → IsKnown files (done ++ leaf ∷ []) new

abbrev pub AddsLeaf : Result (Unit {0}) Front → List Source → Leaf → (old new : Known) → Type 0
AddsLeaf (Ok u) files leaf old new = IsAdded files leaf old new
AddsLeaf (Err f) files leaf old new = IsRefusedAt f files leaf

-- ---- what the code holds once it has a leaf more

-- all stays but for the place of one leaf more
pub record IsRepeated (place : ℕ) (old new : Known) : Type 0 where
  pub firsts : new.firsts.items ≡ old.firsts.items
  pub newest : new.newest ≡ old.newest
  pub actors : new.actors.items ≡ old.actors.items
  pub places : new.of_leaf.items ≡ old.of_leaf.items ++ place ∷ []

abbrev pub Repeats : Result (Unit {0}) Front → (place : ℕ) → (old new : Known) → Type 0
Repeats (Ok u) place old new = IsRepeated place old new
Repeats (Err f) place old new = f ≡ front.Memory

-- a leaf and its actor behind those that are there
pub record Keeps (leaf : Leaf) (actor : Actor) (old new : Known) : Type 0 where
  pub firsts : all_linked new.firsts.items ≡ all_linked old.firsts.items
      ++ record { leaf = leaf; earlier = number_of leaf.class old.newest } ∷ []
  pub newest : new.newest ≡ with_number leaf.class (length old.firsts.items) old.newest
  pub actors : map actor_of new.actors.items ≡ map actor_of old.actors.items ++ actor ∷ []
  pub places : new.of_leaf.items ≡ old.of_leaf.items ++ length old.firsts.items ∷ []
