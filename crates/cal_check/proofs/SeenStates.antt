-- Names of states that were seen: they differ, they have numbers, and those of all transitions are among them.
use Rattle.std.proofs.Common.{◌≡◌, ℕ, suc, ◌<◌, Bool, true, false, ◌||◌, ⊎_elim, List, [], ◌∷◌, ◌++◌, length, refl, sym, ap, ◌∙◌, arith, Contains}
use Rattle.std.specs.Prelude.{if◌then◌else◌}
use Rattle.std.specs.Str.{bytes_eq}
use Rattle.cal_model.specs.Sound.{AreDistinct, Each}
use Rattle.cal_model.specs.Tags.{Transition, is_seen, number_of_name, seen_in, with_seen}
use Rattle.cal_model.proofs.KindNames.{text-same}
use Rattle.cal_check.proofs.Lists.{head-or-rest, in-none}

-- ---- names that stay seen

or-true : (b c : Bool) → c ≡ true → (b || c) ≡ true
or-true true c h = refl
or-true false c h = h

seen-front : (name : List ℕ) (xs ys : List (List ℕ)) → is_seen name xs ≡ true → is_seen name (xs ++ ys) ≡ true
seen-front name [] ys h = absurd (cc)
seen-front name (x ∷ xs) ys h = go (bytes_eq x name) h (seen-front name xs ys)
  where
    go : (b : Bool) → (b || is_seen name xs) ≡ true → (is_seen name xs ≡ true → is_seen name (xs ++ ys) ≡ true) → (b || is_seen name (xs ++ ys)) ≡ true
    go true e ih = refl
    go false e ih = ih e

seen-last : (name : List ℕ) (xs : List (List ℕ)) → is_seen name (xs ++ name ∷ []) ≡ true
seen-last name [] = ap (λ b. b || false) (text-same name)
seen-last name (x ∷ xs) = or-true (bytes_eq x name) (is_seen name (xs ++ name ∷ [])) (seen-last name xs)

stays-seen : (name other : List ℕ) (xs : List (List ℕ)) → is_seen name xs ≡ true → is_seen name (with_seen xs other) ≡ true
stays-seen name other xs h = go (is_seen other xs)
  where
    go : (b : Bool) → is_seen name (if b then xs else xs ++ other ∷ []) ≡ true
    go true = h
    go false = seen-front name xs (other ∷ []) h

now-seen : (name : List ℕ) (xs : List (List ℕ)) → is_seen name (with_seen xs name) ≡ true
now-seen name xs = go (is_seen name xs) refl
  where
    go : (b : Bool) → is_seen name xs ≡ b → is_seen name (if b then xs else xs ++ name ∷ []) ≡ true
    go true e = e
    go false e = seen-last name xs

seen-later : (name : List ℕ) (xs : List (List ℕ)) (ts : List Transition) → is_seen name xs ≡ true → is_seen name (seen_in xs ts) ≡ true
seen-later name xs [] h = h
seen-later name xs (t ∷ ts) h =
    seen-later name (with_seen (with_seen xs t.from) t.to) ts (stays-seen name t.to (with_seen xs t.from) (stays-seen name t.from xs h))

-- both states of a transition are among these
abbrev pub BothSeen : List (List ℕ) → Transition → Type 0
BothSeen states t = (is_seen t.from states ≡ true) × (is_seen t.to states ≡ true)

-- the states that transitions name are seen behind them
pub all-seen : (xs : List (List ℕ)) (ts : List Transition) → Each (BothSeen (seen_in xs ts)) ts
all-seen xs [] = tt
all-seen xs (t ∷ ts) =
    let here : List (List ℕ) = with_seen (with_seen xs t.from) t.to in (
      (seen-later t.from here ts (stays-seen t.from t.to (with_seen xs t.from) (now-seen t.from xs)), seen-later t.to here ts (now-seen t.to (with_seen xs t.from))),
      all-seen here ts,
    )

-- ---- numbers

pub number-below : (name : List ℕ) (names : List (List ℕ)) → is_seen name names ≡ true → number_of_name name names < length names
number-below name [] h = absurd (cc)
number-below name (x ∷ names) h = go (bytes_eq x name) h (number-below name names)
  where
    go : (b : Bool) → (b || is_seen name names) ≡ true → (is_seen name names ≡ true → number_of_name name names < length names)
        → (if b then 0 else suc (number_of_name name names)) < suc (length names)
    go true e ih = omega arith
    go false e ih = let below = ih e in omega arith

-- ---- names that differ

is-among : (name : List ℕ) (xs : List (List ℕ)) → Contains xs name → is_seen name xs ≡ true
is-among name [] h = absurd (in-none name h)
is-among name (x ∷ xs) h =
    ⊎_elim (λ (e : x ≡ name). ap (λ b. b || is_seen name xs) (ap (λ y. bytes_eq y name) e ∙ text-same name))
    (λ c. or-true (bytes_eq x name) (is_seen name xs) (is-among name xs c)) (head-or-rest name x xs h)

not-both : (b : Bool) → b ≡ true → b ≡ false → ⊥
not-both b h i = let e : true ≡ false = sym h ∙ i in absurd (cc)

in-last : {A : Type 0} (x y : A) (xs : List A) → Contains (xs ++ y ∷ []) x → (¬ Contains xs x) → y ≡ x
in-last x y [] h n = ⊎_elim (λ e. e) (λ c. absurd (in-none x c)) (head-or-rest x y [] h)
in-last x y (z ∷ xs) h n =
    ⊎_elim (λ e. absurd (n (0, omega arith, e))) (λ c. in-last x y xs c (λ d. n (suc d.0, omega (arith, d.1), d.2))) (head-or-rest x z (xs ++ y ∷ []) h)

-- a name that isn't there may go last
distinct-last : (name : List ℕ) (xs : List (List ℕ)) → AreDistinct xs → (¬ Contains xs name) → AreDistinct (xs ++ name ∷ [])
distinct-last name [] h n = (λ c. in-none name c, tt)
distinct-last name (x ∷ xs) h n = (
  λ c. n (0, omega arith, sym (in-last x name xs c h.0)),
  distinct-last name xs h.1 (λ d. n (suc d.0, omega (arith, d.1), d.2)),
)

distinct-with : (name : List ℕ) (xs : List (List ℕ)) → AreDistinct xs → AreDistinct (with_seen xs name)
distinct-with name xs h = go (is_seen name xs) refl
  where
    go : (b : Bool) → is_seen name xs ≡ b → AreDistinct (if b then xs else xs ++ name ∷ [])
    go true e = h
    go false e = distinct-last name xs h (λ c. not-both (is_seen name xs) (is-among name xs c) e)

pub distinct-seen : (xs : List (List ℕ)) (ts : List Transition) → AreDistinct xs → AreDistinct (seen_in xs ts)
distinct-seen xs [] h = h
distinct-seen xs (t ∷ ts) h =
    distinct-seen (with_seen (with_seen xs t.from) t.to) ts (distinct-with t.to (with_seen xs t.from) (distinct-with t.from xs h))
