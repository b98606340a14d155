-- Names among the keys of a set.
use Rattle.std.proofs.Common.{◌≡◌, ℕ, suc, ◌+◌, Bool, true, false, ◌||◌, not, List, [], ◌∷◌, ◌++◌, map, length, refl, sym, ap, ◌∙◌, arith, cond, Option, None, Some}
use Rattle.std.specs.Prelude.{if◌then◌else◌, is_some, nat_lt, String, string_bytes}
use Rattle.std.specs.List.{list_any, position, position_or_len}
use Rattle.std.specs.Str.{bytes_eq}
use Rattle.std.specs.declared.alloc.Global.{Global as Heap}
use Rattle.std.proofs.lemmas.List.{map-append}
use Rattle.std.proofs.lemmas.Slice.Eq.{bytes_eq-Decides}
use Rattle.cal_model.specs.Tags.{is_seen, number_of_name, with_seen}

pub eq_turned : (x y : List ℕ) → bytes_eq x y ≡ bytes_eq y x
eq_turned x y = go (bytes_eq x y) (bytes_eq y x) (λ h. (bytes_eq-Decides y x).1 (sym ((bytes_eq-Decides x y).0 h))) (λ h. (bytes_eq-Decides x y).1 (sym ((bytes_eq-Decides y x).0 h)))
  where
    go : (b c : Bool) → (b ≡ true → c ≡ true) → (c ≡ true → b ≡ true) → b ≡ c
    go true c f g = sym (f refl)
    go false true f g = g refl
    go false false f g = refl

pub seen_keys : (name : List ℕ) (keys : List (String Heap)) → list_any (λ k. bytes_eq name (string_bytes k)) keys ≡ is_seen name (map string_bytes keys)
seen_keys name [] = refl
seen_keys name (k ∷ keys) = ap (λ b. b || list_any (λ x. bytes_eq name (string_bytes x)) keys) (eq_turned name (string_bytes k)) ∙ ap (λ b. bytes_eq (string_bytes k) name || b) (seen_keys name keys)

branches : (b : Bool) (keys : List (String Heap)) (k : String Heap) → map string_bytes (if b then keys else keys ++ k ∷ []) ≡ (if b then map string_bytes keys else map string_bytes keys ++ string_bytes k ∷ [])
branches true keys k = refl
branches false keys k = map-append string_bytes keys (k ∷ [])

pub added_key : (keys : List (String Heap)) (k : String Heap)
    → map string_bytes (if list_any (λ x. bytes_eq (string_bytes k) (string_bytes x)) keys then keys else keys ++ k ∷ []) ≡ with_seen (map string_bytes keys) (string_bytes k)
added_key keys k =
    branches (list_any (λ x. bytes_eq (string_bytes k) (string_bytes x)) keys) keys k
    ∙ ap (λ b. if b then map string_bytes keys else map string_bytes keys ++ string_bytes k ∷ []) (seen_keys (string_bytes k) keys)

-- ---- numbers

number_or_count : (name : List ℕ) (keys : List (String Heap)) → position_or_len (λ k. bytes_eq name (string_bytes k)) keys ≡ number_of_name name (map string_bytes keys)
number_or_count name [] = refl
number_or_count name (k ∷ keys) = go (bytes_eq name (string_bytes k)) (bytes_eq (string_bytes k) name) (eq_turned name (string_bytes k)) (number_or_count name keys)
  where
    go : (b c : Bool) → b ≡ c → position_or_len (λ k. bytes_eq name (string_bytes k)) keys ≡ number_of_name name (map string_bytes keys)
        → cond (not b) (1 + position_or_len (λ k. bytes_eq name (string_bytes k)) keys) 0 ≡ (if c then 0 else suc (number_of_name name (map string_bytes keys)))
    go true true e h = refl
    go true false e h = absurd (cc)
    go false true e h = absurd (cc)
    go false false e h = omega (arith, h)

found_at : (p : String Heap → Bool) (keys : List (String Heap)) (i : ℕ) → position p keys ≡ Some i → position_or_len p keys ≡ i
found_at p keys i h = go (nat_lt (position_or_len p keys) (length keys)) h
  where
    go : (b : Bool) → cond b (Some (position_or_len p keys)) None ≡ Some i → position_or_len p keys ≡ i
    go true e = cc
    go false e = absurd (cc)

-- the number of a name that is found
pub number_of_key : (name : List ℕ) (keys : List (String Heap)) (found : Option ℕ) → found ≡ position (λ k. bytes_eq name (string_bytes k)) keys
    → is_some found ≡ list_any (λ k. bytes_eq name (string_bytes k)) keys
    → found ≡ (if is_seen name (map string_bytes keys) then Some (number_of_name name (map string_bytes keys)) else None)
number_of_key name keys (Some i) at there =
    ap Some (sym (found_at (λ k. bytes_eq name (string_bytes k)) keys i (sym at)) ∙ number_or_count name keys)
    ∙ ap (λ b. if b then Some (number_of_name name (map string_bytes keys)) else None) (there ∙ seen_keys name keys)
number_of_key name keys None at there = ap (λ b. if b then Some (number_of_name name (map string_bytes keys)) else None) (there ∙ seen_keys name keys)
