-- Names of states that were seen, and their numbers.
use Rattle.std.proofs.Common.{◌≡◌, ℕ, suc, ◌+◌, Bool, true, false, ◌||◌, not, List, [], ◌∷◌, ◌++◌, map, length, refl, sym, ap, ◌∙◌, arith, Some, None, cond}
use Rattle.std.specs.Prelude.{if◌then◌else◌, String, string_bytes, nat_lt}
use Rattle.std.specs.List.{list_any, position, position_or_len}
use Rattle.std.specs.Str.{bytes_eq}
use Rattle.std.specs.declared.alloc.Global.{Global as Heap}
use Rattle.std.proofs.lemmas.List.{map-append}
use Rattle.std.proofs.lemmas.Slice.Eq.{bytes_eq-Decides}
use Rattle.cal_model.specs.Tags.{is_seen, number_of_name, with_seen}
use Rattle.cal_check.specs.Violations.{is_met}

-- ---- names side by side

pub eq-turned : (x y : List ℕ) → bytes_eq x y ≡ bytes_eq y x
eq-turned x y = go (bytes_eq x y) (bytes_eq y x) (λ h. (bytes_eq-Decides y x).1 (sym ((bytes_eq-Decides x y).0 h))) (λ h. (bytes_eq-Decides x y).1 (sym ((bytes_eq-Decides y x).0 h)))
  where
    go : (b c : Bool) → (b ≡ true → c ≡ true) → (c ≡ true → b ≡ true) → b ≡ c
    go true c f g = sym (f refl)
    go false true f g = g refl
    go false false f g = refl

pub seen-keys : (name : List ℕ) (keys : List (String Heap)) → list_any (λ k. bytes_eq name (string_bytes k)) keys ≡ is_seen name (map string_bytes keys)
seen-keys name [] = refl
seen-keys name (k ∷ keys) = ap (λ b. b || list_any (λ x. bytes_eq name (string_bytes x)) keys) (eq-turned name (string_bytes k)) ∙ ap (λ b. bytes_eq (string_bytes k) name || b) (seen-keys name keys)

branches : (b : Bool) (keys : List (String Heap)) (k : String Heap) → map string_bytes (if b then keys else keys ++ k ∷ []) ≡ (if b then map string_bytes keys else map string_bytes keys ++ string_bytes k ∷ [])
branches true keys k = refl
branches false keys k = map-append string_bytes keys (k ∷ [])

pub added-key : (keys : List (String Heap)) (k : String Heap)
    → map string_bytes (if list_any (λ x. bytes_eq (string_bytes k) (string_bytes x)) keys then keys else keys ++ k ∷ []) ≡ with_seen (map string_bytes keys) (string_bytes k)
added-key keys k =
    branches (list_any (λ x. bytes_eq (string_bytes k) (string_bytes x)) keys) keys k
    ∙ ap (λ b. if b then map string_bytes keys else map string_bytes keys ++ string_bytes k ∷ []) (seen-keys (string_bytes k) keys)

-- a name that was seen was met
pub seen-met : (name : List ℕ) (names : List (List ℕ)) → is_met bytes_eq name names ≡ is_seen name names
seen-met name [] = refl
seen-met name (x ∷ names) = go (bytes_eq name x) (bytes_eq x name) (eq-turned name x) (seen-met name names)
  where
    go : (b c : Bool) → b ≡ c → is_met bytes_eq name names ≡ is_seen name names → (if b then true else is_met bytes_eq name names) ≡ (c || is_seen name names)
    go true true e h = refl
    go true false e h = absurd (cc)
    go false true e h = absurd (cc)
    go false false e h = h

-- a name that is new goes last
pub seen-new : (name : List ℕ) (names : List (List ℕ)) → is_seen name names ≡ false → with_seen names name ≡ names ++ name ∷ []
seen-new name names h = ap (λ b. if b then names else names ++ name ∷ []) h

-- ---- numbers

pub number-of-key : (name : List ℕ) (keys : List (String Heap)) → position_or_len (λ k. bytes_eq name (string_bytes k)) keys ≡ number_of_name name (map string_bytes keys)
number-of-key name [] = refl
number-of-key name (k ∷ keys) = go (bytes_eq name (string_bytes k)) (bytes_eq (string_bytes k) name) (eq-turned name (string_bytes k)) (number-of-key name keys)
  where
    go : (b c : Bool) → b ≡ c → position_or_len (λ k. bytes_eq name (string_bytes k)) keys ≡ number_of_name name (map string_bytes keys)
        → cond (not b) (1 + position_or_len (λ k. bytes_eq name (string_bytes k)) keys) 0 ≡ (if c then 0 else suc (number_of_name name (map string_bytes keys)))
    go true true e h = refl
    go true false e h = absurd (cc)
    go false true e h = absurd (cc)
    go false false e h = omega (arith, h)

pub found-at : (p : String Heap → Bool) (keys : List (String Heap)) (i : ℕ) → position p keys ≡ Some i → position_or_len p keys ≡ i
found-at p keys i h = go (nat_lt (position_or_len p keys) (length keys)) h
  where
    go : (b : Bool) → cond b (Some (position_or_len p keys)) None ≡ Some i → position_or_len p keys ≡ i
    go true e = cc
    go false e = absurd (cc)
