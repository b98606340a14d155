-- What the code holds, one leaf more.
use Rattle.std.proofs.Common.{◌≡◌, ℕ, ◌<◌, ◌≤◌, List, [], ◌∷◌, ◌++◌, length, map, None, Some, refl, sym, ap, subst, ◌∙◌, arith, append_assoc, append-nil}
use Rattle.std.proofs.lemmas.List.{length-map}
use Rattle.std.specs.Prelude.{All, Contains, slice_get}
use Rattle.std.specs.declared.result.Result.{Result}
use Rattle.std.specs.declared.result.Result.TheVariants.{Ok, Err}
use Rattle.rvc_base.specs.declared.refusal.Front.{Front}
use Rattle.rvc_base.specs.declared.refusal.Front.TheVariants as front
use Rattle.rvc_base.specs.declared.refusal.Refusal.{Refusal}
use Rattle.cal_check.specs.Sources.{SourcesAreSound}
use Rattle.cal_model.specs.Sound.{Each, IsSound}
use Rattle.cal_imports.specs.Sources.{Source}
use Rattle.cal_model.specs.Actor.{Actor}
use Rattle.cal_model.specs.View.{actor_of}
use Rattle.fnl_tree.specs.Tree.{Leaf}
use Rattle.net_model.specs.Limits.{max_instances}
use Rattle.fnl_source.specs.Actors.{IsActorOf}
use Rattle.check_leaves.specs.Finding.{IsFound, IsIndex, Linked, all_linked, leaves_of, linked_of, number_of, with_number}
use Rattle.law_sources.specs.Names.{AreSpelled}
use Rattle.check_leaves.specs.Formed.{SpelledAreFormed}
use Rattle.check_leaves.specs.Leaves.{AreActorsOf, HasActor, HasSoundActors, IsFault, StandsOnce, at_places, distinct_actors}
use Rattle.check_leaves.specs.Steps.{AddsLeaf, IsAdded, IsIndexed, IsKnown, IsRefusedAt, IsRepeated, IsSoFar, Keeps, Repeats, firsts_of}
use Rattle.check_leaves.specs.declared.found.LeafActors.{LeafActors}
use Rattle.check_leaves.specs.declared.known.Known.{Known}
use Rattle.check_leaves.proofs.Chain.{indexed_more, indexed_none}
use Rattle.check_leaves.proofs.Growing.{again, all_are, all_sound, all_within, each_has, more, one_each, one_has, places_sound, shared, so_far_none}
use Rattle.std.proofs.lemmas.List.{map-append}

-- a leaf that is like the first one of an actor
pub repeated : (files : List Source) (leaf : Leaf) (place : ℕ) (old new : Known) → IsIndexed old → IsFound (Some place) (firsts_of old) leaf
    → IsRepeated place old new → IsAdded files leaf old new
repeated files leaf place old new indexed found is = record {
  indexed = subst (λ fs. IsIndex new.newest (all_linked fs)) (sym is.firsts)
      (subst (λ n. IsIndex n (all_linked old.firsts.items)) (sym is.newest) indexed);
  known = λ done known.
      subst (λ fs. IsSoFar files (done ++ leaf ∷ []) (leaves_of (all_linked fs)) (map actor_of new.actors.items) new.of_leaf.items) (sym is.firsts)
      (subst (λ bs. IsSoFar files (done ++ leaf ∷ []) (firsts_of old) (map actor_of bs) new.of_leaf.items) (sym is.actors)
      (subst (λ ps. IsSoFar files (done ++ leaf ∷ []) (firsts_of old) (map actor_of old.actors.items) ps) (sym is.places)
      (again files done (firsts_of old) (map actor_of old.actors.items) old.of_leaf.items leaf place known found)));
}

as_many : (links : List Linked) → length (leaves_of links) ≡ length links
as_many links = length-map links (λ f. f.leaf)

-- a leaf that is like none before it
pub kept : (files : List Source) (leaf : Leaf) (actor : Actor) (old new : Known) → IsIndexed old → IsFound None (firsts_of old) leaf
    → IsActorOf files leaf actor → Keeps leaf actor old new → IsAdded files leaf old new
kept files leaf actor old new indexed none is keeps =
    let links = all_linked old.firsts.items in
    let one : Linked = record { leaf = leaf; earlier = number_of leaf.class old.newest } in
    let many : length links ≡ length old.firsts.items = length-map old.firsts.items linked_of in
    let firsts : firsts_of new ≡ firsts_of old ++ leaf ∷ [] = ap leaves_of keeps.firsts ∙ map-append (λ f. f.leaf) links (one ∷ []) in
    let count : length (firsts_of old) ≡ length old.firsts.items = as_many links ∙ many in
    record {
      indexed = subst (λ ls. IsIndex new.newest ls) (sym keeps.firsts)
          (subst (λ n. IsIndex n (links ++ one ∷ [])) (sym (keeps.newest ∙ ap (λ n. with_number leaf.class n old.newest) (sym many)))
          (indexed_more old.newest links leaf indexed));
      known = λ done known.
          subst (λ fs. IsSoFar files (done ++ leaf ∷ []) fs (map actor_of new.actors.items) new.of_leaf.items) (sym firsts)
          (subst (λ bs. IsSoFar files (done ++ leaf ∷ []) (firsts_of old ++ leaf ∷ []) bs new.of_leaf.items) (sym keeps.actors)
          (subst (λ ps. IsSoFar files (done ++ leaf ∷ []) (firsts_of old ++ leaf ∷ []) (map actor_of old.actors.items ++ actor ∷ []) ps)
          (sym (keeps.places ∙ ap (λ n. old.of_leaf.items ++ n ∷ []) (sym count)))
          (more files done (firsts_of old) (map actor_of old.actors.items) old.of_leaf.items leaf actor known is none)));
    }

-- ---- all leaves

-- those that are done, in front of those that are left
pub record IsGoing (files : List Source) (left leaves : List Leaf) (known : Known) : Type 0 where
  pub done : List Leaf
  pub parts : leaves ≡ done ++ left
  pub indexed : IsIndexed known
  pub so_far : IsKnown files done known

pub going_none : (files : List Source) (leaves : List Leaf) (known : Known) → known.firsts.items ≡ [] → known.newest ≡ [] → known.actors.items ≡ []
    → known.of_leaf.items ≡ [] → IsGoing files leaves leaves known
going_none files leaves known fs ns bs ps = record {
  done = [];
  parts = refl;
  indexed = subst (λ xs. IsIndex known.newest (all_linked xs)) (sym fs) (subst (λ n. IsIndex n []) (sym ns) indexed_none);
  so_far = subst (λ xs. IsSoFar files [] (leaves_of (all_linked xs)) (map actor_of known.actors.items) known.of_leaf.items) (sym fs)
      (subst (λ xs. IsSoFar files [] [] (map actor_of xs) known.of_leaf.items) (sym bs)
      (subst (λ xs. IsSoFar files [] [] [] xs) (sym ps) (so_far_none files)));
}

pub going_more : (files : List Source) (leaf : Leaf) (left leaves : List Leaf) (old new : Known) → IsGoing files (leaf ∷ left) leaves old
    → IsAdded files leaf old new → IsGoing files left leaves new
going_more files leaf left leaves old new going added = record {
  done = going.done ++ leaf ∷ [];
  parts = going.parts ∙ sym (one_by_one going.done leaf left);
  indexed = added.indexed;
  so_far = added.known going.done going.so_far;
}
  where
    one_by_one : (xs : List Leaf) (x : Leaf) (ys : List Leaf) → (xs ++ x ∷ []) ++ ys ≡ xs ++ x ∷ ys
    one_by_one xs x ys = append_assoc xs (x ∷ []) ys

lengths : (xs ys : List Leaf) → length xs ≤ length (xs ++ ys)
lengths [] ys = omega arith
lengths (x ∷ xs) ys = let rest = lengths xs ys in omega (arith, rest)

longer_by : (xs : List Leaf) (y : Leaf) (ys : List Leaf) → length xs < length (xs ++ y ∷ ys)
longer_by [] y ys = omega arith
longer_by (x ∷ xs) y ys = let rest = longer_by xs y ys in omega (arith, rest)

pub few_firsts : (files : List Source) (leaf : Leaf) (left leaves : List Leaf) (known : Known) → IsGoing files (leaf ∷ left) leaves known
    → length leaves ≤ max_instances → length known.firsts.items < max_instances
few_firsts files leaf left leaves known going few =
    let some = longer_by going.done leaf left in
    let all : length leaves ≡ length (going.done ++ leaf ∷ left) = ap length going.parts in
    let firsts = going.so_far.few in
    let count : length (firsts_of known) ≡ length known.firsts.items = as_many (all_linked known.firsts.items) ∙ length-map known.firsts.items linked_of in
    omega (arith, some, all, firsts, count, few)

-- ---- what adding a leaf answers

pub adds_repeated : (r : Result (Unit {0}) Front) (files : List Source) (leaf : Leaf) (place : ℕ) (old new : Known) → IsIndexed old
    → IsFound (Some place) (firsts_of old) leaf → Repeats r place old new → AddsLeaf r files leaf old new
adds_repeated (Ok u) files leaf place old new indexed found is = repeated files leaf place old new indexed found is
adds_repeated (Err f) files leaf place old new indexed found is = subst (λ g. IsRefusedAt g files leaf) (sym is) tt

-- ---- what is answered of all leaves

pub refused : (files : List Source) (leaf : Leaf) (left leaves : List Leaf) (known : Known) (f : Front) → IsGoing files (leaf ∷ left) leaves known
    → IsRefusedAt f files leaf → IsFault files leaves f
refused files leaf left leaves known (front.Refused r) going h = record {
  before = going.done;
  leaf = leaf;
  behind = left;
  parts = going.parts;
  are_actors = each_has files (firsts_of known) (map actor_of known.actors.items) going.done known.of_leaf.items going.so_far.are going.so_far.stand;
  no_actor = h.0;
  breaks = h.1;
}
refused files leaf left leaves known front.Memory going h = tt

pub never_refused : (files : List Source) (leaf : Leaf) (left leaves : List Leaf) (known : Known) (r : Refusal) → IsGoing files (leaf ∷ left) leaves known
    → IsRefusedAt (front.Refused r) files leaf → Each (HasActor files) leaves → ⊥
never_refused files leaf left leaves known r going h all =
    h.0 (one_has files going.done leaf left (subst (Each (HasActor files)) going.parts all))

-- nothing is left
all_done : (files : List Source) (leaves : List Leaf) (known : Known) → IsGoing files [] leaves known → IsKnown files leaves known
all_done files leaves known going =
    subst (λ ls. IsKnown files ls known) (sym (going.parts ∙ append-nil going.done)) going.so_far

pub found_all : (files : List Source) (leaves : List Leaf) (known : Known) → IsGoing files [] leaves known
    → AreActorsOf files leaves (at_places (map actor_of known.actors.items) known.of_leaf.items)
found_all files leaves known going =
    let so_far = all_done files leaves known going in
    all_are files (firsts_of known) (map actor_of known.actors.items) leaves known.of_leaf.items so_far.are so_far.stand

pub found_within : (files : List Source) (leaves : List Leaf) (known : Known) → IsGoing files [] leaves known
    → All (λ p. p < length known.actors.items) known.of_leaf.items
found_within files leaves known going =
    let so_far = all_done files leaves known going in
    all_within (firsts_of known) (length known.actors.items) leaves known.of_leaf.items
    (one_each files (firsts_of known) (map actor_of known.actors.items) so_far.are ∙ length-map known.actors.items actor_of) so_far.stand

pub found_once : (files : List Source) (leaves : List Leaf) (known : Known) (found : LeafActors) → found.actors ≡ known.actors → found.of_leaf ≡ known.of_leaf
    → IsGoing files [] leaves known → StandsOnce leaves found
found_once files leaves known found actors places going =
    let so_far = all_done files leaves known going in
    let count : length (firsts_of known) ≡ length known.actors.items =
    one_each files (firsts_of known) (map actor_of known.actors.items) so_far.are ∙ length-map known.actors.items actor_of in
    record {
      shared = λ j k leaf other one two alike.
          subst (λ ps. slice_get ps.items j ≡ slice_get ps.items k) (sym places)
          (shared (firsts_of known) leaves known.of_leaf.items j k leaf other so_far.apart so_far.stand one two alike);
      used = λ p low.
          let below : p < length known.actors.items = subst (λ bs. p < length bs.items) actors low in
          subst (λ ps. Contains ps.items p) (sym places) (so_far.used p (subst (λ n. p < n) (sym count) below));
    }

pub found_sound : SourcesAreSound → SpelledAreFormed → (files : List Source) (leaves : List Leaf) (known : Known) (found : LeafActors) → found.actors ≡ known.actors
    → IsGoing files [] leaves known → AreSpelled files → HasSoundActors found
found_sound law forms files leaves known found actors going spelled =
    let sound : Each IsSound (distinct_actors found) =
    subst (λ bs. Each IsSound (map actor_of bs.items)) (sym actors)
    (all_sound law forms files (firsts_of known) (map actor_of known.actors.items) spelled going.so_far.are) in
    record { each = sound; at_leaves = places_sound (distinct_actors found) found.of_leaf.items sound }

abbrev front_or : {A : Type 0} → Front → Result A Front → Front
front_or f (Ok a) = f
front_or f (Err g) = g

pub err_one : {A : Type 0} (f g : Front) (r : Result A Front) → r ≡ Err f → r ≡ Err g → f ≡ g
err_one f g r h i = sym (ap (front_or f) h) ∙ ap (front_or f) i
