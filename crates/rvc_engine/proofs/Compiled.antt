-- Actors that are compiled one after the other, and what is at each leaf.
use Rattle.std.proofs.Common.{◌≡◌, ℕ, zero, suc, ◌<◌, List, [], ◌∷◌, ◌++◌, length, map, Option, None, Some, refl, sym, ap, subst, ◌∙◌, arith}
use Rattle.std.specs.Prelude.{All, slice_get, slice_index_or}
use Rattle.std.proofs.lemmas.List.{append_assoc, append-nil}
use Rattle.lower_actor.specs.Leaves.{StandForActors}
use Rattle.cal_model.specs.Actor.{Actor}
use Rattle.cal_model.specs.Sound.{Each, IsSound}
use Rattle.cal_model.specs.View.{actor_of}
use Rattle.cal_model.specs.declared.bound.Bound.{Bound}
use Rattle.determinacy_cert.specs.declared.fault.CertFault.{CertFault}
use Rattle.lowered_actor.specs.Actor as coded
use Rattle.check_leaves.specs.Leaves.{at_places, with_first}
use Rattle.rvc_engine.specs.Built.{AreJudged}
use Rattle.rvc_engine.specs.Compiling.{AddsCompiled, AreCompiled, IsCompiled}
use Rattle.rvc_engine.specs.declared.compiling.Compiled.{Compiled}

-- ---- all of them

-- those before the rest were compiled
pub record CompiledSoFar (actors rest : List Bound) (all : List Compiled) : Type 0 where
  pub done : List Bound
  pub splits : actors ≡ done ++ rest
  pub compiled : AreCompiled (map actor_of done) all
  pub sound : Each IsSound (map actor_of rest)

pub none_compiled : (actors : List Bound) → Each IsSound (map actor_of actors) → CompiledSoFar actors actors []
none_compiled actors fine = record { done = []; splits = refl; compiled = tt; sound = fine }

compiled_more : (actors : List Bound) (all : List Compiled) (b : Bound) (c : Compiled) → AreCompiled (map actor_of actors) all → IsCompiled (actor_of b) c
    → AreCompiled (map actor_of (actors ++ b ∷ [])) (all ++ c ∷ [])
compiled_more [] [] b c h is = (is, tt)
compiled_more [] (x ∷ all) b c h is = absurd h
compiled_more (a ∷ actors) [] b c h is = absurd h
compiled_more (a ∷ actors) (x ∷ all) b c h is = (h.0, compiled_more actors all b c h.1 is)

pub one_compiled : (actors rest others : List Bound) (b : Bound) (old new : List Compiled) → CompiledSoFar actors rest old → rest ≡ b ∷ others
    → AddsCompiled (actor_of b) old new → CompiledSoFar actors others new
one_compiled actors rest others b old new h opened a = record {
  done = h.done ++ b ∷ [];
  splits = h.splits ∙ ap (λ r. h.done ++ r) opened ∙ sym (append_assoc h.done (b ∷ []) others);
  compiled = subst (AreCompiled (map actor_of (h.done ++ b ∷ []))) (sym a.is) (compiled_more h.done old b a.added h.compiled a.compiled);
  sound = (subst (λ r. Each IsSound (map actor_of r)) opened h.sound).1;
}

pub next_sound : (actors rest others : List Bound) (b : Bound) (all : List Compiled) → CompiledSoFar actors rest all → rest ≡ b ∷ others → IsSound (actor_of b)
next_sound actors rest others b all h opened = (subst (λ r. Each IsSound (map actor_of r)) opened h.sound).0

pub as_many_compiled : (actors : List Actor) (all : List Compiled) → AreCompiled actors all → length all ≡ length actors
as_many_compiled [] [] h = refl
as_many_compiled [] (c ∷ all) h = absurd h
as_many_compiled (a ∷ actors) [] h = absurd h
as_many_compiled (a ∷ actors) (c ∷ all) h = ap suc (as_many_compiled actors all h.1)

pub all_compiled : (actors rest : List Bound) (all : List Compiled) → CompiledSoFar actors rest all → rest ≡ [] → AreCompiled (map actor_of actors) all
all_compiled actors rest all h none =
    subst (λ xs. AreCompiled (map actor_of xs) all) (sym (h.splits ∙ ap (λ r. h.done ++ r) none ∙ append-nil h.done)) h.compiled

-- ---- what is at a place

pub compiled_at : (actors : List Actor) (all : List Compiled) (p : ℕ) (c : Compiled) → AreCompiled actors all → p < length all → c ≡ slice_index_or all p c
    → (a : Actor) × (slice_get actors p ≡ Some a) × IsCompiled a c
compiled_at [] [] p c h low is = absurd (omega (arith, low))
compiled_at [] (x ∷ all) p c h low is = absurd h
compiled_at (a ∷ actors) [] p c h low is = absurd h
compiled_at (a ∷ actors) (x ∷ all) zero c h low is = (a, refl, subst (IsCompiled a) (sym is) h.0)
compiled_at (a ∷ actors) (x ∷ all) (suc p) c h low is = compiled_at actors all p c h.1 (omega (arith, low)) is

first_more : (o : Option Actor) (more before : List Actor) (a : Actor) → more ≡ before ++ a ∷ [] → with_first o more ≡ with_first o before ++ a ∷ []
first_more None more before a h = h
first_more (Some x) more before a h = ap (λ xs. x ∷ xs) h

places_more : (actors : List Actor) (ps : List ℕ) (p : ℕ) (a : Actor) → slice_get actors p ≡ Some a
    → at_places actors (ps ++ p ∷ []) ≡ at_places actors ps ++ a ∷ []
places_more actors [] p a h = ap (λ o. with_first o []) h
places_more actors (q ∷ ps) p a h = first_more (slice_get actors q) (at_places actors (ps ++ p ∷ [])) (at_places actors ps) a (places_more actors ps p a h)

-- ---- the codes at places

pub codes_more : (actors : List Actor) (codes : List coded.Actor) (a : Actor) (code : coded.Actor) → StandForActors actors codes → StandForActors (a ∷ []) (code ∷ [])
    → StandForActors (actors ++ a ∷ []) (codes ++ code ∷ [])
codes_more [] [] a code h is = is
codes_more [] (x ∷ codes) a code h is = absurd h
codes_more (b ∷ actors) [] a code h is = absurd h
codes_more (b ∷ actors) (x ∷ codes) a code h is = (h.0, codes_more actors codes a code h.1 is)

pub judged_more : (actors : List Actor) (said : List (Option CertFault)) (a : Actor) (one : Option CertFault) → AreJudged actors said → AreJudged (a ∷ []) (one ∷ [])
    → AreJudged (actors ++ a ∷ []) (said ++ one ∷ [])
judged_more [] [] a one h is = is
judged_more [] (x ∷ said) a one h is = absurd h
judged_more (b ∷ actors) [] a one h is = absurd h
judged_more (b ∷ actors) (x ∷ said) a one h is = (h.0, judged_more actors said a one h.1 is)

-- what was found at the places before the rest, of whatever actors these are
pub record PlacesSoFar (P : List Actor → Type 0) (places rest : List ℕ) (all : List Compiled) : Type 0 where
  pub done : List ℕ
  pub splits : places ≡ done ++ rest
  pub low : All (λ p. p < length all) rest
  pub found : (actors : List Actor) → AreCompiled actors all → P (at_places actors done)

pub no_places : (P : List Actor → Type 0) (places : List ℕ) (all : List Compiled) → P [] → All (λ p. p < length all) places
    → PlacesSoFar P places places all
no_places P places all none low = record { done = []; splits = refl; low = low; found = λ actors h. none }

pub places_end : (P : List Actor → Type 0) (places rest : List ℕ) (all : List Compiled) (actors : List Actor) → PlacesSoFar P places rest all → rest ≡ []
    → AreCompiled actors all → P (at_places actors places)
places_end P places rest all actors h none is =
    subst (λ ps. P (at_places actors ps)) (sym (h.splits ∙ ap (λ r. h.done ++ r) none ∙ append-nil h.done)) (h.found actors is)

pub place_more : (P Q : List Actor → Type 0) (places rest others : List ℕ) (p : ℕ) (c : Compiled) (all : List Compiled) → PlacesSoFar P places rest all → rest ≡ p ∷ others
    → p < length all → c ≡ slice_index_or all p c → All (λ q. q < length all) others
    → ((actors : List Actor) (a : Actor) → P actors → IsCompiled a c → Q (actors ++ a ∷ [])) → PlacesSoFar Q places others all
place_more P Q places rest others p c all h opened low is lower more = record {
  done = h.done ++ p ∷ [];
  splits = h.splits ∙ ap (λ r. h.done ++ r) opened ∙ sym (append_assoc h.done (p ∷ []) others);
  low = lower;
  found = λ actors are.
      let at = compiled_at actors all p c are low is in
      subst Q (sym (places_more actors h.done p at.0 at.1)) (more (at_places actors h.done) at.0 (h.found actors are) at.2);
}
