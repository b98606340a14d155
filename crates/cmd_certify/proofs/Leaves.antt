-- Actors that are judged one after the other, and what is said of each leaf.
use Rattle.std.proofs.Common.{◌≡◌, ℕ, zero, suc, ◌+◌, ◌<◌, List, [], ◌∷◌, ◌++◌, length, map, Option, None, Some, refl, sym, ap, subst, ◌∙◌, arith, ◌≤◌, true, false}
use Rattle.std.specs.Prelude.{All, slice_get, slice_index_or, is_some}
use Rattle.std.proofs.lemmas.List.{append_assoc, append-nil, length-map}
use Rattle.std.proofs.lemmas.List.Elements.{All-head, All-tail}
use Rattle.cal_model.specs.Actor.{Actor}
use Rattle.cal_model.specs.Certified.{IsCertified}
use Rattle.cal_model.specs.Laws.{SoundHavePriorities}
use Rattle.cal_model.specs.Selection.{Priorities}
use Rattle.cal_model.specs.Sound.{Each, IsSound}
use Rattle.cal_model.specs.View.{actor_of}
use Rattle.cal_model.specs.declared.bound.Bound.{Bound}
use Rattle.determinacy_cert.specs.Certifying.{NoFailureWhereCertified}
use Rattle.determinacy_cert.specs.Failing.{first}
use Rattle.determinacy_cert.specs.declared.fault.CertFault.{CertFault}
use Rattle.determinacy_cert.specs.declared.fault.CertFault.TheVariants.{Uncertified, Memory}
use Rattle.check_leaves.specs.Leaves.{IsWithin, actors_at_leaves, at_places, distinct_actors, with_first}
use Rattle.check_leaves.specs.declared.found.LeafActors.{LeafActors}
use Rattle.cmd_report.specs.declared.status.Status.{Status}
use Rattle.rvc_engine.specs.Built.{AreJudged, IsJudged}
use Rattle.cmd_certify.specs.Ends.{SoManyCertified, no_actor, not_one, one_more}
use Rattle.cmd_network.specs.Commands.{count_none}
use Rattle.cmd_certify.specs.Steps.{IsVerdict, said_at, status_from}

-- ---- all of them

-- those before the rest were judged
pub record JudgedSoFar (actors rest : List Bound) (all : List (Option CertFault)) : Type 0 where
  pub done : List Bound
  pub splits : actors ≡ done ++ rest
  pub judged : AreJudged (map actor_of done) all
  pub sound : Each IsSound (map actor_of rest)

pub none_judged : (actors : List Bound) → Each IsSound (map actor_of actors) → JudgedSoFar actors actors []
none_judged actors fine = record { done = []; splits = refl; judged = tt; sound = fine }

judged_more : (actors : List Bound) (all : List (Option CertFault)) (b : Bound) (one : Option CertFault) → AreJudged (map actor_of actors) all → IsJudged (actor_of b) one
    → AreJudged (map actor_of (actors ++ b ∷ [])) (all ++ one ∷ [])
judged_more [] [] b one h is = (is, tt)
judged_more [] (x ∷ all) b one h is = absurd h
judged_more (a ∷ actors) [] b one h is = absurd h
judged_more (a ∷ actors) (x ∷ all) b one h is = (h.0, judged_more actors all b one h.1 is)

pub one_judged : (actors rest others : List Bound) (b : Bound) (old new : List (Option CertFault)) (one : Option CertFault) → JudgedSoFar actors rest old → rest ≡ b ∷ others
    → new ≡ old ++ one ∷ [] → IsJudged (actor_of b) one → JudgedSoFar actors others new
one_judged actors rest others b old new one h opened is judged = record {
  done = h.done ++ b ∷ [];
  splits = h.splits ∙ ap (λ r. h.done ++ r) opened ∙ sym (append_assoc h.done (b ∷ []) others);
  judged = subst (AreJudged (map actor_of (h.done ++ b ∷ []))) (sym is) (judged_more h.done old b one h.judged judged);
  sound = (subst (λ r. Each IsSound (map actor_of r)) opened h.sound).1;
}

pub next_sound : (actors rest others : List Bound) (b : Bound) (all : List (Option CertFault)) → JudgedSoFar actors rest all → rest ≡ b ∷ others → IsSound (actor_of b)
next_sound actors rest others b all h opened = (subst (λ r. Each IsSound (map actor_of r)) opened h.sound).0

as_many_judged : (actors : List Actor) (all : List (Option CertFault)) → AreJudged actors all → length all ≡ length actors
as_many_judged [] [] h = refl
as_many_judged [] (c ∷ all) h = absurd h
as_many_judged (a ∷ actors) [] h = absurd h
as_many_judged (a ∷ actors) (c ∷ all) h = ap suc (as_many_judged actors all h.1)

pub all_judged : (actors rest : List Bound) (all : List (Option CertFault)) → JudgedSoFar actors rest all → rest ≡ [] → AreJudged (map actor_of actors) all
all_judged actors rest all h none =
    subst (λ xs. AreJudged (map actor_of xs) all) (sym (h.splits ∙ ap (λ r. h.done ++ r) none ∙ append-nil h.done)) h.judged

no_items : {A : Type 0} (xs : List A) → length xs ≡ 0 → xs ≡ []
no_items [] h = refl
no_items (x ∷ xs) h = absurd (omega (arith, h))

pub all_many : (actors rest : List Bound) (all : List (Option CertFault)) → JudgedSoFar actors rest all → length rest ≡ 0 → length all ≡ length actors
all_many actors rest all h none = as_many_judged (map actor_of actors) all (all_judged actors rest all h (no_items rest none)) ∙ length-map actors actor_of

-- ---- at places

judged_place : (actors : List Actor) (all : List (Option CertFault)) (p : ℕ) → AreJudged actors all → p < length all
    → (a : Actor) × (slice_get actors p ≡ Some a) × IsJudged a (slice_index_or all p None)
judged_place [] [] p h low = absurd (omega (arith, low))
judged_place [] (x ∷ all) p h low = absurd h
judged_place (a ∷ actors) [] p h low = absurd h
judged_place (a ∷ actors) (x ∷ all) zero h low = (a, refl, h.0)
judged_place (a ∷ actors) (x ∷ all) (suc p) h low = judged_place actors all p h.1 (omega (arith, low))

-- what is said of the actors at places is said of them
pub judged_at : (actors : List Actor) (all : List (Option CertFault)) (places : List ℕ) → AreJudged actors all → All (λ p. p < length all) places
    → AreJudged (at_places actors places) (said_at all places)
judged_at actors all [] h low = tt
judged_at actors all (p ∷ places) h low =
    let here = judged_place actors all p h (All-head (λ q. q < length all) p places low) in
    let more = judged_at actors all places h (All-tail (λ q. q < length all) p places low) in
    subst (λ o. AreJudged (with_first o (at_places actors places)) (said_at all (p ∷ places))) (sym here.1) (here.2, more)

one_less : (x : Option CertFault) (said : List (Option CertFault)) (count total : ℕ) → is_some x ≡ false → count + count_none (x ∷ said) ≡ total
    → (count + 1) + count_none said ≡ total
one_less None said count total nothing h = omega (arith, h)
one_less (Some fault) said count total nothing h = cc

none_less : (x : Option CertFault) (said : List (Option CertFault)) (count total : ℕ) → is_some x ≡ true → count + count_none (x ∷ said) ≡ total
    → count + count_none said ≡ total
none_less None said count total something h = cc
none_less (Some fault) said count total something h = h

-- what is known while leaves are counted
abbrev pub Counted : List (Option CertFault) → List ℕ → List ℕ → ℕ → Type 0
Counted all places rest count = (count + count_none (said_at all rest) ≡ count_none (said_at all places))
    × (count + length rest ≤ length places) × All (λ p. p < length all) rest

fewer : (places rest others : List ℕ) (p count : ℕ) → rest ≡ p ∷ others → count + length rest ≤ length places → (count + 1) + length others ≤ length places
fewer places rest others p count opened few = let same : length rest ≡ suc (length others) = ap length opened in omega (arith, few, same)

rest_low : (n : ℕ) (rest others : List ℕ) (p : ℕ) → rest ≡ p ∷ others → All (λ q. q < n) rest → All (λ q. q < n) others
rest_low n rest others p opened low = All-tail (λ q. q < n) p others (subst (All (λ q. q < n)) opened low)

pub one_counted : (all : List (Option CertFault)) (places rest others : List ℕ) (p count : ℕ) → rest ≡ p ∷ others → is_some (slice_index_or all p None) ≡ false
    → Counted all places rest count → Counted all places others (count + 1)
one_counted all places rest others p count opened nothing h = (
  one_less (slice_index_or all p None) (said_at all others) count (count_none (said_at all places)) nothing
      (ap (λ ps. count + count_none (said_at all ps)) (sym opened) ∙ h.0),
  fewer places rest others p count opened h.1,
  rest_low (length all) rest others p opened h.2,
)

pub none_counted : (all : List (Option CertFault)) (places rest others : List ℕ) (p count : ℕ) → rest ≡ p ∷ others → is_some (slice_index_or all p None) ≡ true
    → Counted all places rest count → Counted all places others count
none_counted all places rest others p count opened something h =
    let few : (count + 1) + length others ≤ length places = fewer places rest others p count opened h.1 in (
      none_less (slice_index_or all p None) (said_at all others) count (count_none (said_at all places)) something
          (ap (λ ps. count + count_none (said_at all ps)) (sym opened) ∙ h.0),
      omega (arith, few),
      rest_low (length all) rest others p opened h.2,
    )

-- what is known while a leaf is sought whose actor isn't certified
abbrev pub Sought : List (Option CertFault) → List ℕ → List ℕ → ℕ → Type 0
Sought all places rest leaf = (status_from leaf (said_at all rest) ≡ status_from 0 (said_at all places))
    × (leaf + length rest ≤ length places) × All (λ p. p < length all) rest

pub next_sought : (all : List (Option CertFault)) (places rest others : List ℕ) (p leaf : ℕ) → rest ≡ p ∷ others → slice_index_or all p None ≡ None
    → Sought all places rest leaf → Sought all places others (leaf + 1)
next_sought all places rest others p leaf opened none h = (
  ap (λ x. status_from leaf (x ∷ said_at all others)) (sym none) ∙ (ap (λ ps. status_from leaf (said_at all ps)) (sym opened) ∙ h.0),
  fewer places rest others p leaf opened h.1,
  rest_low (length all) rest others p opened h.2,
)

pub verdict : (found : LeafActors) (actors : List Bound) (places : List ℕ) (all two three : List (Option CertFault)) (count : ℕ) (said : Status)
    → actors ≡ found.actors.items → places ≡ found.of_leaf.items → two ≡ all → three ≡ all → AreJudged (map actor_of actors) all → length all ≡ length actors → IsWithin found
    → count ≡ count_none (said_at two places) → said ≡ status_from 0 (said_at three places)
    → IsVerdict (actors_at_leaves found) (record { certified = count; said = said })
verdict found actors places all two three count said actors_are places_are second third judged many within counts says = record {
  all = said_at all found.of_leaf.items;
  judged = judged_at (distinct_actors found) all found.of_leaf.items (subst (λ xs. AreJudged (map actor_of xs) all) actors_are judged)
      (subst (λ n. All (λ p. p < n) found.of_leaf.items) (sym (many ∙ ap length actors_are)) within);
  certified = counts ∙ (ap (λ xs. count_none (said_at xs places)) second ∙ ap (λ ps. count_none (said_at all ps)) places_are);
  said = says ∙ (ap (λ xs. status_from 0 (said_at xs places)) third ∙ ap (λ ps. status_from 0 (said_at all ps)) places_are);
}

-- ---- what it comes to

-- an actor of which something is said isn't certified
pub not_certified : SoundHavePriorities → NoFailureWhereCertified → (actor : Actor) (fault : CertFault) → IsSound actor → IsJudged actor (Some fault) → IsCertified actor → ⊥
not_certified ordered none actor (Uncertified state a b reason) sound judged certified =
    let p : Priorities actor = ordered actor sound in
    not_both _ (sym (ap first ((none actor p).1 certified)) ∙ judged p)
  where
    not_both : {A : Type 0} (x : A) → None ≡ Some x → ⊥
    not_both x e = cc
not_certified ordered none actor Memory sound judged certified = judged

pub so_many : SoundHavePriorities → NoFailureWhereCertified → (actors : List Actor) (said : List (Option CertFault)) → Each IsSound actors → AreJudged actors said
    → SoManyCertified actors (count_none said)
so_many ordered none [] [] sound h = no_actor
so_many ordered none [] (x ∷ said) sound h = absurd h
so_many ordered none (a ∷ actors) [] sound h = absurd h
so_many ordered none (a ∷ actors) (None ∷ said) sound h = one_more a actors (count_none said) h.0 (so_many ordered none actors said sound.1 h.1)
so_many ordered none (a ∷ actors) (Some fault ∷ said) sound h =
    not_one a actors (count_none said) (not_certified ordered none a fault sound.0 h.0) (so_many ordered none actors said sound.1 h.1)
