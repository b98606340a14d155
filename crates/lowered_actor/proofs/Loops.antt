-- Steps of loops.
use Rattle.std.proofs.Common.{◌≡◌, ℕ, suc, ◌+◌, ◌-◌, ◌<◌, ◌≤◌, ◌⊎◌, inl, inr, Bool, true, ◌&&◌, List, length, take, All, refl, ap, subst, ◌∙◌, arith}
use Rattle.std.specs.Prelude.{Contains, slice_get, slice_index_or, option_map, map, Some}
use Rattle.std.proofs.lemmas.Option.{slice_get-map, slice_get_read}
use Rattle.std.proofs.lemmas.Bool.{cases_lt}
use Rattle.std.specs.List.{list_all}
use Rattle.std.proofs.lemmas.List.{take_all}
use Rattle.std.proofs.lemmas.List.Elements.{All-more}
use Rattle.code_ir.specs.declared.instr.Instr.{Instr}
use Rattle.lowered_actor.specs.Straight.{stores, stores_each}

pub all-one-more : {X : Type 0} (P : X → Type 0) (xs : List X) (i : ℕ) (x : X) → i < length xs → x ≡ slice_index_or xs i x
    → All P (take i xs) → P x → All P (take (i + 1) xs)
all-one-more P xs i x low is all here = All-more P xs i x low all (subst P is here)

pub all-whole : {X : Type 0} (P : X → Type 0) (xs : List X) (i : ℕ) → length xs ≤ i → All P (take i xs) → All P xs
all-whole P xs i high all = subst (All P) (take_all i xs high) all

pub each-passes : {X : Type 0} (test : X → Bool) (xs : List X) (i : ℕ) → length xs ≤ i → list_all test (take i xs) ≡ true → list_all test xs ≡ true
each-passes test xs i high all = subst (λ l. list_all test l ≡ true) (take_all i xs high) all

stores-next : (cell n : ℕ) (line : List Instr) → stores cell line ≡ true → stores_each (cell + 1) n line ≡ true → stores_each cell (suc n) line ≡ true
stores-next cell n line here more = ap (λ b. b && stores_each (cell + 1) n line) here ∙ more

pub stores-one-more : (cell n k : ℕ) (line : List Instr) → k < n → stores (cell + k) line ≡ true
    → stores_each (cell + (k + 1)) (n - (k + 1)) line ≡ true → stores_each (cell + k) (n - k) line ≡ true
stores-one-more cell n k line low here more =
    let place : cell + (k + 1) ≡ (cell + k) + 1 = omega arith in
    let rest : suc (n - (k + 1)) ≡ n - k = omega (arith, low) in
    subst (λ m. stores_each (cell + k) m line ≡ true) rest
    (stores-next (cell + k) (n - (k + 1)) line here (subst (λ c. stores_each c (n - (k + 1)) line ≡ true) place more))

-- a line of numbers below n that has the numbers below `count`: there are no more of them than n
pub as-many : (line : List ℕ) (n count : ℕ) → All (λ a. a < n) line → ((a : ℕ) → a < count → Contains line a) → n ≤ count → count ≡ n
as-many line n count below each enough = by (cases_lt n count)
  where
    by : (n < count) ⊎ (count ≤ n) → count ≡ n
    by (inl more) =
        let found = each n more in
        absurd (let low : n < n = subst (λ a. a < n) found.2 (below found.0 n found.1) in omega (arith, low))
    by (inr few) = omega (arith, few, enough)

pub mapped-at : {X Y : Type 0} (f : X → Y) (xs : List X) (i : ℕ) (x : X) → i < length xs → x ≡ slice_index_or xs i x → slice_get (map f xs) i ≡ Some (f x)
mapped-at f xs i x low is = slice_get-map f xs i ∙ ap (option_map f) (slice_get_read xs (length xs) i x refl low is)
