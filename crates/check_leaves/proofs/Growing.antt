-- The actors at some leaves, one leaf more.
use Rattle.std.proofs.Common.{Option, ◌≡◌, ℕ, zero, suc, ◌<◌, List, [], ◌∷◌, ◌++◌, length, map, None, Some, refl, sym, ap, subst, ◌∙◌, arith}
use Rattle.std.specs.Prelude.{All, Contains, slice_get}
use Rattle.std.proofs.lemmas.List.Elements.{All-nil, All-cons, Contains-append_left}
use Rattle.cal_imports.specs.Sources.{Source}
use Rattle.cal_model.specs.Actor.{Actor}
use Rattle.cal_model.specs.Sound.{Each, IsSound}
use Rattle.cal_check.specs.Sources.{SourcesAreSound}
use Rattle.fnl_tree.specs.Tree.{Leaf}
use Rattle.fnl_source.specs.Actors.{IsActorOf, given_of, owner_of, source_of}
use Rattle.check_leaves.specs.Alike.{AreAlike}
use Rattle.check_leaves.specs.Finding.{IsFound}
use Rattle.law_sources.specs.Names.{AreSpelled}
use Rattle.check_leaves.specs.Formed.{SpelledAreFormed}
use Rattle.check_leaves.specs.Leaves.{AreActorsOf, HasActor, at_places, with_first}
use Rattle.check_leaves.specs.Steps.{AllStand, AreApart, IsSoFar, StandsAt}
use Rattle.check_leaves.proofs.LikeLeaves.{alike_are_one, alike_back, alike_itself, alike_on}
use Rattle.check_leaves.proofs.Lists.{contains_last, each_at, earlier_or_last, get_last, longer, some_same, split, still, within}

no_item : {A : Type 0} (k : ℕ) (x : A) → slice_get [] k ≡ Some x → ⊥
no_item k x h = cc

pub so_far_none : (files : List Source) → IsSoFar files [] [] [] []
so_far_none files = record {
  are = tt;
  stand = tt;
  apart = λ j k leaf other h i alike. absurd (no_item j leaf h);
  used = λ p low. absurd (omega (arith, low));
  few = omega arith;
}

-- ---- one more

stand_more : (firsts : List Leaf) (leaf : Leaf) (p : ℕ) (done : List Leaf) (places : List ℕ) → AllStand firsts done places → StandsAt firsts leaf p
    → AllStand firsts (done ++ leaf ∷ []) (places ++ p ∷ [])
stand_more firsts leaf p [] [] h i = (i, tt)
stand_more firsts leaf p (l ∷ done) (q ∷ places) h i = (h.0, stand_more firsts leaf p done places h.1 i)
stand_more firsts leaf p [] (q ∷ places) h i = absurd h
stand_more firsts leaf p (l ∷ done) [] h i = absurd h

stand_grown : (firsts : List Leaf) (x : Leaf) (done : List Leaf) (places : List ℕ) → AllStand firsts done places → AllStand (firsts ++ x ∷ []) done places
stand_grown firsts x [] [] h = tt
stand_grown firsts x (l ∷ done) (q ∷ places) h =
    ((h.0.0, still firsts (x ∷ []) q h.0.0 h.0.1, h.0.2), stand_grown firsts x done places h.1)
stand_grown firsts x [] (q ∷ places) h = absurd h
stand_grown firsts x (l ∷ done) [] h = absurd h

pub again : (files : List Source) (done firsts : List Leaf) (actors : List Actor) (places : List ℕ) (leaf : Leaf) (p : ℕ)
    → IsSoFar files done firsts actors places → StandsAt firsts leaf p → IsSoFar files (done ++ leaf ∷ []) firsts actors (places ++ p ∷ [])
again files done firsts actors places leaf p s at = record {
  are = s.are;
  stand = stand_more firsts leaf p done places s.stand at;
  apart = s.apart;
  used = λ q low. Contains-append_left places (p ∷ []) q (s.used q low);
  few = let few = s.few in let many = longer done leaf in omega (arith, few, many);
}

are_more : (files : List Source) (firsts : List Leaf) (actors : List Actor) (leaf : Leaf) (actor : Actor) → AreActorsOf files firsts actors
    → IsActorOf files leaf actor → AreActorsOf files (firsts ++ leaf ∷ []) (actors ++ actor ∷ [])
are_more files [] [] leaf actor h i = (i, tt)
are_more files (l ∷ firsts) (a ∷ actors) leaf actor h i = (h.0, are_more files firsts actors leaf actor h.1 i)
are_more files [] (a ∷ actors) leaf actor h i = absurd h
are_more files (l ∷ firsts) [] leaf actor h i = absurd h

apart_more : (firsts : List Leaf) (x : Leaf) → AreApart firsts → IsFound None firsts x → AreApart (firsts ++ x ∷ [])
apart_more firsts x apart none j k leaf other h i alike =
    earlier_or_last firsts x leaf j h
    (λ first. earlier_or_last firsts x other k i
    (λ second. apart j k leaf other first second alike)
    (λ end is. absurd (none j leaf first (subst (λ l. AreAlike l leaf) (sym is) (alike_back leaf other alike)))))
    (λ end is. earlier_or_last firsts x other k i
    (λ second. absurd (none k other second (subst (λ l. AreAlike l other) (sym is) alike)))
    (λ last same. end ∙ sym last))

pub more : (files : List Source) (done firsts : List Leaf) (actors : List Actor) (places : List ℕ) (leaf : Leaf) (actor : Actor)
    → IsSoFar files done firsts actors places → IsActorOf files leaf actor → IsFound None firsts leaf
    → IsSoFar files (done ++ leaf ∷ []) (firsts ++ leaf ∷ []) (actors ++ actor ∷ []) (places ++ length firsts ∷ [])
more files done firsts actors places leaf actor s is none = record {
  are = are_more files firsts actors leaf actor s.are is;
  stand = stand_more (firsts ++ leaf ∷ []) leaf (length firsts) done places (stand_grown firsts leaf done places s.stand)
      (leaf, get_last firsts leaf, alike_itself leaf);
  apart = apart_more firsts leaf s.apart none;
  used = λ p low.
      let many = longer firsts leaf in
      let below : p < suc (length firsts) = subst (λ n. p < n) many low in
      split p (length firsts) below
      (λ less. Contains-append_left places (length firsts ∷ []) p (s.used p less))
      (λ same. subst (Contains (places ++ length firsts ∷ [])) (sym same) (contains_last places (length firsts)));
  few = let few = s.few in let one = longer done leaf in let other = longer firsts leaf in omega (arith, few, one, other);
}

-- ---- all

-- the actor at a place
record IsAt (files : List Source) (leaf : Leaf) (actors : List Actor) (p : ℕ) : Type 0 where
  actor : Actor
  there : slice_get actors p ≡ Some actor
  is : IsActorOf files leaf actor

actor_of_first : (files : List Source) (firsts : List Leaf) (actors : List Actor) (p : ℕ) (first : Leaf) → AreActorsOf files firsts actors
    → slice_get firsts p ≡ Some first → IsAt files first actors p
actor_of_first files [] [] p first h i = absurd (no_item p first i)
actor_of_first files (l ∷ firsts) (a ∷ actors) zero first h i =
    record { actor = a; there = refl; is = subst (λ x. IsActorOf files x a) (some_same l first i) h.0 }
actor_of_first files (l ∷ firsts) (a ∷ actors) (suc p) first h i =
    let rest = actor_of_first files firsts actors p first h.1 i in
    record { actor = rest.actor; there = rest.there; is = rest.is }
actor_of_first files [] (a ∷ actors) p first h i = absurd h
actor_of_first files (l ∷ firsts) [] p first h i = absurd h

at_leaf : (files : List Source) (firsts : List Leaf) (actors : List Actor) (leaf : Leaf) (p : ℕ) → AreActorsOf files firsts actors
    → StandsAt firsts leaf p → IsAt files leaf actors p
at_leaf files firsts actors leaf p are at =
    let found = actor_of_first files firsts actors p at.0 are at.1 in
    record {
      actor = found.actor;
      there = found.there;
      is = alike_are_one files at.0 leaf found.actor (alike_back leaf at.0 at.2) found.is;
    }

pub all_are : (files : List Source) (firsts : List Leaf) (actors : List Actor) (done : List Leaf) (places : List ℕ) → AreActorsOf files firsts actors
    → AllStand firsts done places → AreActorsOf files done (at_places actors places)
all_are files firsts actors [] [] are h = tt
all_are files firsts actors (l ∷ done) (p ∷ places) are h =
    let found = at_leaf files firsts actors l p are h.0 in
    subst (λ o. AreActorsOf files (l ∷ done) (with_first o (at_places actors places))) (sym found.there)
    (found.is, all_are files firsts actors done places are h.1)
all_are files firsts actors [] (p ∷ places) are h = absurd h
all_are files firsts actors (l ∷ done) [] are h = absurd h

pub each_has : (files : List Source) (firsts : List Leaf) (actors : List Actor) (done : List Leaf) (places : List ℕ) → AreActorsOf files firsts actors
    → AllStand firsts done places → Each (HasActor files) done
each_has files firsts actors [] [] are h = tt
each_has files firsts actors (l ∷ done) (p ∷ places) are h =
    let found = at_leaf files firsts actors l p are h.0 in
    (record { actor = found.actor; is = found.is }, each_has files firsts actors done places are h.1)
each_has files firsts actors [] (p ∷ places) are h = absurd h
each_has files firsts actors (l ∷ done) [] are h = absurd h

pub one_each : (files : List Source) (firsts : List Leaf) (actors : List Actor) → AreActorsOf files firsts actors → length firsts ≡ length actors
one_each files [] [] h = refl
one_each files (l ∷ firsts) (a ∷ actors) h = ap suc (one_each files firsts actors h.1)
one_each files [] (a ∷ actors) h = absurd h
one_each files (l ∷ firsts) [] h = absurd h

pub all_within : (firsts : List Leaf) (n : ℕ) (done : List Leaf) (places : List ℕ) → length firsts ≡ n → AllStand firsts done places → All (λ p. p < n) places
all_within firsts n [] [] e h = All-nil (λ p. p < n)
all_within firsts n (l ∷ done) (p ∷ places) e h =
    All-cons (λ q. q < n) p places (subst (λ m. p < m) e (within firsts p h.0.0 h.0.1)) (all_within firsts n done places e h.1)
all_within firsts n [] (p ∷ places) e h = absurd h
all_within firsts n (l ∷ done) [] e h = absurd h

-- where a leaf stands
record Stands (firsts : List Leaf) (leaf : Leaf) (places : List ℕ) (j : ℕ) : Type 0 where
  place : ℕ
  there : slice_get places j ≡ Some place
  at : StandsAt firsts leaf place

stands : (firsts done : List Leaf) (places : List ℕ) (j : ℕ) (leaf : Leaf) → AllStand firsts done places → slice_get done j ≡ Some leaf
    → Stands firsts leaf places j
stands firsts [] [] j leaf h i = absurd (no_item j leaf i)
stands firsts (l ∷ done) (p ∷ places) zero leaf h i =
    record { place = p; there = refl; at = subst (λ x. StandsAt firsts x p) (some_same l leaf i) h.0 }
stands firsts (l ∷ done) (p ∷ places) (suc j) leaf h i =
    let rest = stands firsts done places j leaf h.1 i in
    record { place = rest.place; there = rest.there; at = rest.at }
stands firsts [] (p ∷ places) j leaf h i = absurd h
stands firsts (l ∷ done) [] j leaf h i = absurd h

pub shared : (firsts done : List Leaf) (places : List ℕ) (j k : ℕ) (leaf other : Leaf) → AreApart firsts → AllStand firsts done places
    → slice_get done j ≡ Some leaf → slice_get done k ≡ Some other → AreAlike leaf other → slice_get places j ≡ slice_get places k
shared firsts done places j k leaf other apart h one two alike =
    let a = stands firsts done places j leaf h one in
    let b = stands firsts done places k other h two in
    let firsts_alike : AreAlike a.at.0 b.at.0 =
    alike_on a.at.0 leaf b.at.0 (alike_back leaf a.at.0 a.at.2) (alike_on leaf other b.at.0 alike b.at.2) in
    let same : a.place ≡ b.place = apart a.place b.place a.at.0 b.at.0 a.at.1 b.at.1 firsts_alike in
    a.there ∙ ap Some same ∙ sym b.there

-- actors of files that texts spell are sound
pub all_sound : SourcesAreSound → SpelledAreFormed → (files : List Source) (firsts : List Leaf) (actors : List Actor) → AreSpelled files → AreActorsOf files firsts actors → Each IsSound actors
all_sound law forms files [] [] spelled h = tt
all_sound law forms files (l ∷ firsts) (a ∷ actors) spelled h = (
  law (source_of h.0.scope) (map given_of l.bindings) (owner_of l) a (forms files l.class h.0.scope spelled h.0.is_scope) h.0.is_source,
  all_sound law forms files firsts actors spelled h.1,
)
all_sound law forms files [] (a ∷ actors) spelled h = absurd h
all_sound law forms files (l ∷ firsts) [] spelled h = absurd h

-- one of some leaves that are actors is one
pub one_has : (files : List Source) (before : List Leaf) (leaf : Leaf) (behind : List Leaf) → Each (HasActor files) (before ++ leaf ∷ behind) → HasActor files leaf
one_has files [] leaf behind h = h.0
one_has files (l ∷ before) leaf behind h = one_has files before leaf behind h.1

-- .. and so are those that stand at some places
first_sound : (o : Option Actor) (actors : List Actor) → ((a : Actor) → o ≡ Some a → IsSound a) → Each IsSound actors → Each IsSound (with_first o actors)
first_sound None actors h rest = rest
first_sound (Some a) actors h rest = (h a refl, rest)

pub places_sound : (actors : List Actor) (places : List ℕ) → Each IsSound actors → Each IsSound (at_places actors places)
places_sound actors [] h = tt
places_sound actors (p ∷ places) h =
    first_sound (slice_get actors p) (at_places actors places) (λ a e. each_at IsSound actors p a h e) (places_sound actors places h)
