-- What is known of variables where bodies are judged is what the actor holds.
use Rattle.std.proofs.Common.{◌≡◌, ℕ, Bool, true, false, List, [], ◌∷◌, ◌++◌, map, refl, sym, ap, subst, ◌∙◌, Contains, Option, None, Some}
use Rattle.std.specs.Prelude.{if◌then◌else◌}
use Rattle.std.specs.Str.{bytes_eq}
use Rattle.std.proofs.lemmas.List.{append-nil}
use Rattle.cal_model.specs.Actor.{Held}
use Rattle.cal_model.specs.Value.{Value}
use Rattle.cal_model.specs.Kinding.{Known, known_as}
use Rattle.cal_model.specs.Sound.{AreDistinct, Each, known_of}
use Rattle.cal_model.proofs.KindNames.{same-text}
use Rattle.cal_check.specs.Actors.{Source, at_rest, is_kept, kept_vars, outers, used}
use Rattle.cal_check.specs.Laws.{IsKnownLike}
use Rattle.cal_check.proofs.FittingNames.{KnownsFit}
use Rattle.cal_check.proofs.FittingValues.{Fits, IfSome, of-fits}
use Rattle.cal_check.proofs.Lists.{at-head, in-rest}
use Rattle.cal_check.proofs.SoundVariables.{IsTyped, known_behind, known_held}

-- the variables as names at rest, the last ones in front
abbrev pub rest_behind : List Held → List Known → List Known
rest_behind [] known = known
rest_behind (x ∷ xs) known = rest_behind xs (known_of x ∷ known)

pub map-rest : (xs : List Held) (known : List Known) → map at_rest (known_behind xs known) ≡ rest_behind xs (map at_rest known)
map-rest [] known = refl
map-rest (x ∷ xs) known = map-rest xs (known_held x ∷ known)

if-fits : (changes : Bool) (v : Value) → Fits v → IfSome Fits (if changes then None else Some v)
if-fits true v f = tt
if-fits false v f = f

pub rest-fits : (xs : List Held) (known : List Known) → Each IsTyped xs → KnownsFit known → KnownsFit (rest_behind xs known)
rest-fits [] known t f = f
rest-fits (x ∷ xs) known t f = rest-fits xs (known_of x ∷ known) t.1 (if-fits x.changes x.value (of-fits x.shape x.value t.0.0 t.0.1), f)

-- ---- what a name means

-- one that isn't declared here is found behind
not-here : (name : List ℕ) (xs : List Held) (known : List Known) → ((Contains (map (λ x. x.name) xs) name) → ⊥) → known_as name (map known_of xs ++ known) ≡ known_as name known
not-here name [] known h = refl
not-here name (x ∷ xs) known h = go (bytes_eq x.name name) refl (not-here name xs known (λ c. h (in-rest name x.name (map (λ y. y.name) xs) c)))
  where
    go : (b : Bool) → bytes_eq x.name name ≡ b → known_as name (map known_of xs ++ known) ≡ known_as name known
        → (if b then Some (known_of x) else known_as name (map known_of xs ++ known)) ≡ known_as name known
    go true e rest = absurd (h (at-head name x.name (map (λ y. y.name) xs) (same-text x.name name e)))
    go false e rest = rest

-- .. also if one of another name stands between
between : (name : List ℕ) (xs : List Held) (x : Known) (known : List Known) → bytes_eq x.name name ≡ false → known_as name (map known_of xs ++ x ∷ known) ≡ known_as name (map known_of xs ++ known)
between name [] x known e = ap (λ b. if b then Some x else known_as name known) e
between name (y ∷ ys) x known e = ap (λ o. if bytes_eq y.name name then Some (known_of y) else o) (between name ys x known e)

pub rest-same : (name : List ℕ) (xs : List Held) (known : List Known) → AreDistinct (map (λ x. x.name) xs) → known_as name (rest_behind xs known) ≡ known_as name (map known_of xs ++ known)
rest-same name [] known d = refl
rest-same name (x ∷ xs) known d = rest-same name xs (known_of x ∷ known) d.1 ∙ go (bytes_eq x.name name) refl
  where
    go : (b : Bool) → bytes_eq x.name name ≡ b → known_as name (map known_of xs ++ known_of x ∷ known) ≡ (if b then Some (known_of x) else known_as name (map known_of xs ++ known))
    go true e =
        let same : x.name ≡ name = same-text x.name name e in
        not-here name xs (known_of x ∷ known) (λ c. d.0 (subst (λ n. Contains (map (λ y. y.name) xs) n) (sym same) c))
        ∙ ap (λ b. if b then Some (known_of x) else known_as name known) e
    go false e = between name xs (known_of x) known e

-- ---- those that are kept

pub kept-same : (name : List ℕ) (xs : List Held) (s : Source) → is_kept name (outers s) (used s) ≡ true → known_as name (map known_of (kept_vars xs s)) ≡ known_as name (map known_of xs)
kept-same name [] s k = refl
kept-same name (x ∷ xs) s k = go (is_kept x.name (outers s) (used s)) refl (bytes_eq x.name name) refl (kept-same name xs s k)
  where
    go : (kept : Bool) → is_kept x.name (outers s) (used s) ≡ kept → (b : Bool) → bytes_eq x.name name ≡ b → known_as name (map known_of (kept_vars xs s)) ≡ known_as name (map known_of xs)
        → known_as name (map known_of (if kept then x ∷ kept_vars xs s else kept_vars xs s)) ≡ (if b then Some (known_of x) else known_as name (map known_of xs))
    go true e true f rest = ap (λ b. if b then Some (known_of x) else known_as name (map known_of (kept_vars xs s))) f
    go true e false f rest = ap (λ b. if b then Some (known_of x) else known_as name (map known_of (kept_vars xs s))) f ∙ rest
    go false e true f rest =
        let no : is_kept x.name (outers s) (used s) ≡ true = subst (λ n. is_kept n (outers s) (used s) ≡ true) (sym (same-text x.name name f)) k in
        absurd (let wrong : true ≡ false = sym no ∙ e in cc)
    go false e false f rest = rest

pub like-self : (o : Option Known) → IsKnownLike o o
like-self None = tt
like-self (Some x) = (refl, refl)

pub meant-alike : (name : List ℕ) (xs : List Held) (s : Source) → AreDistinct (map (λ x. x.name) xs) → is_kept name (outers s) (used s) ≡ true
    → IsKnownLike (known_as name (rest_behind xs [])) (known_as name (map known_of (kept_vars xs s)))
meant-alike name xs s d k =
    subst (λ o. IsKnownLike o (known_as name (map known_of (kept_vars xs s))))
    (kept-same name xs s k ∙ sym (rest-same name xs [] d ∙ ap (λ ks. known_as name ks) (append-nil (map known_of xs))))
    (like-self (known_as name (map known_of (kept_vars xs s))))
