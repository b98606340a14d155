-- The ports of the actors at the leaves that are left.
use Rattle.std.proofs.Common.{◌≡◌, ℕ, suc, ◌<◌, ◌++◌, List, [], ◌∷◌, length, map, get_or, Some, sym, ap, subst, ◌∙◌, append_assoc, arith}
use Rattle.std.specs.Prelude.{All, slice_get}
use Rattle.std.proofs.lemmas.List.{map-append}
use Rattle.cal_model.specs.Sound.{Each, IsSound}
use Rattle.cal_model.specs.View.{actor_of}
use Rattle.cal_model.specs.declared.bound.Bound.{Bound}
use Rattle.fnl_flatten.specs.Head.{Head}
use Rattle.fnl_flatten.specs.View.{heads_of, head_of as told_head}
use Rattle.fnl_flatten.specs.declared.head.Head.{Head as DeclaredHead}
use Rattle.fnl_source.specs.Actors.{head_of}
use Rattle.check_leaves.specs.Leaves.{at_places, with_first}
use Rattle.check_leaves.proofs.Lists.{each_at, item_at, mapped_at}

pub sound_at : (bs : List Bound) (p : ℕ) (b : Bound) → Each IsSound (map actor_of bs) → p < length bs → b ≡ get_or bs p b → IsSound (actor_of b)
sound_at bs p b sound low e = each_at IsSound (map actor_of bs) p (actor_of b) sound (mapped_at actor_of bs b p (item_at bs b p low e))

pub told_more : (bs : List Bound) (p : ℕ) (b : Bound) (places : List ℕ) (old new : List DeclaredHead) (head : DeclaredHead) (all : List Head)
    → p < length bs → b ≡ get_or bs p b → told_head head ≡ head_of (actor_of b) → new ≡ old ++ head ∷ []
    → heads_of old ++ map head_of (at_places (map actor_of bs) (p ∷ places)) ≡ all
    → heads_of new ++ map head_of (at_places (map actor_of bs) places) ≡ all
told_more bs p b places old new head all low e is grown h =
    let there : slice_get (map actor_of bs) p ≡ Some (actor_of b) = mapped_at actor_of bs b p (item_at bs b p low e) in
    let rest = map head_of (at_places (map actor_of bs) places) in
    ap (λ hs. heads_of hs ++ rest) grown
    ∙ ap (λ hs. hs ++ rest) (map-append told_head old (head ∷ []))
    ∙ append_assoc (heads_of old) (told_head head ∷ []) rest
    ∙ ap (λ t. heads_of old ++ t ∷ rest) is
    ∙ sym (ap (λ o. heads_of old ++ map head_of (with_first o (at_places (map actor_of bs) places))) there)
    ∙ h

pub first_within : (n p : ℕ) (xs ps : List ℕ) → xs ≡ p ∷ ps → All (λ q. q < n) xs → p < n
first_within n p xs ps e h = subst (All (λ q. q < n)) e h 0 p (omega arith)

pub rest_within : (n p : ℕ) (xs ps : List ℕ) → xs ≡ p ∷ ps → All (λ q. q < n) xs → All (λ q. q < n) ps
rest_within n p xs ps e h = λ k d low. subst (All (λ q. q < n)) e h (suc k) d (omega (arith, low))
