-- Names that were met, as they are kept and as they are compared.
use Rattle.std.proofs.Common.{arith, ◌≡◌, ℕ, Bool, true, false, List, [], ◌∷◌, ◌++◌, refl, sym, ap, subst, ◌∙◌}
use Rattle.std.specs.Prelude.{◌||◌, reverse, if◌then◌else◌, Contains}
use Rattle.std.specs.Str.{bytes_eq}
use Rattle.std.proofs.lemmas.List.{reverse-append}
use Rattle.std.proofs.lemmas.Slice.Eq.{bytes_eq-Decides}
use Rattle.rvc_base.specs.Rules.{network_name_twice}
use Rattle.cal_check.specs.Violations.{Keyed, is_met, twice}
use Rattle.fnl_bind.specs.Library.{is_among}
use Rattle.fnl_scopes.specs.Behind.{keyed, twice_behind}

-- texts are the same either way
pub same-text : (a b : List ℕ) → bytes_eq a b ≡ bytes_eq b a
same-text a b = go (bytes_eq a b) (bytes_eq b a) refl refl
  where
    go : (x y : Bool) → bytes_eq a b ≡ x → bytes_eq b a ≡ y → bytes_eq a b ≡ bytes_eq b a
    go true y h i = h ∙ sym ((bytes_eq-Decides b a).1 (sym ((bytes_eq-Decides a b).0 h)))
    go false true h i = (bytes_eq-Decides a b).1 (sym ((bytes_eq-Decides b a).0 i)) ∙ sym i
    go false false h i = h ∙ sym i

pub or-else : (b c : Bool) → (if b then true else c) ≡ (b || c)
or-else true c = refl
or-else false c = refl

-- names in their order, or the last first
met-both : (name : List ℕ) (xs ys : List (List ℕ)) → is_met bytes_eq name (xs ++ ys) ≡ (is_met bytes_eq name xs || is_met bytes_eq name ys)
met-both name [] ys = refl
met-both name (x ∷ xs) ys =
    or-else (bytes_eq name x) (is_met bytes_eq name (xs ++ ys))
    ∙ ap (λ b. bytes_eq name x || b) (met-both name xs ys)
    ∙ grouped (bytes_eq name x) (is_met bytes_eq name xs) (is_met bytes_eq name ys)
    ∙ ap (λ b. b || is_met bytes_eq name ys) (sym (or-else (bytes_eq name x) (is_met bytes_eq name xs)))
  where
    grouped : (a b c : Bool) → (a || (b || c)) ≡ ((a || b) || c)
    grouped true b c = refl
    grouped false b c = refl

swapped : (a b : Bool) → (a || b) ≡ (b || a)
swapped true true = refl
swapped true false = refl
swapped false true = refl
swapped false false = refl

pub met-among : (name : List ℕ) (xs : List (List ℕ)) → is_met bytes_eq name (reverse xs) ≡ is_among name xs
met-among name [] = refl
met-among name (x ∷ xs) =
    ap (is_met bytes_eq name) (reverse-append (x ∷ []) xs)
    ∙ met-both name (reverse xs) (x ∷ [])
    ∙ ap (λ b. b || is_met bytes_eq name (x ∷ [])) (met-among name xs)
    ∙ ap (λ b. is_among name xs || b) (or-else (bytes_eq name x) false ∙ swapped (bytes_eq name x) false)
    ∙ swapped (is_among name xs) (bytes_eq name x)
    ∙ ap (λ b. b || is_among name xs) (same-text name x)
    ∙ sym (or-else (bytes_eq x name) (is_among name xs))

-- a name that was met stands twice
pub is_twice : (name : List ℕ) (at : ℕ) (met : List (List ℕ)) (others : List (Keyed (List ℕ))) → is_among name met ≡ true
    → Contains (twice_behind met (keyed name at ∷ others)) (record { rule = network_name_twice; at = at })
is_twice name at met others h =
    subst (λ b. Contains (if b then (record { rule = network_name_twice; at = at } ∷ twice bytes_eq network_name_twice (reverse met) others)
    else twice bytes_eq network_name_twice (name ∷ reverse met) others) (record { rule = network_name_twice; at = at }))
    (sym (met-among name met ∙ h)) (0, omega arith, refl)

-- another is met from then on
pub is_once : (name : List ℕ) (at : ℕ) (met : List (List ℕ)) (others : List (Keyed (List ℕ))) → is_among name met ≡ false
    → twice_behind (met ++ name ∷ []) others ≡ twice_behind met (keyed name at ∷ others)
is_once name at met others h =
    ap (λ ms. twice bytes_eq network_name_twice ms others) (reverse-append met (name ∷ []))
    ∙ sym (ap (λ b. if b then (record { rule = network_name_twice; at = at } ∷ twice bytes_eq network_name_twice (reverse met) others)
    else twice bytes_eq network_name_twice (name ∷ reverse met) others) (met-among name met ∙ h))
