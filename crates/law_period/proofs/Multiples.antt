-- Each vector that balances links is a multiple of the least one on each part that they connect.
use Rattle.std.proofs.Common.{◌≡◌, ℕ, zero, suc, ◌+◌, ◌-◌, ◌*◌, ◌/◌, ◌%◌, ◌<◌, ◌≤◌, List, refl, sym, ap, ◌∙◌, ⊎_elim, arith, mul_comm}
use Rattle.std.specs.Prelude.{All}
use Rattle.std.proofs.Math.Nat.{div-add-mod, mod-lt}
use Rattle.std.proofs.lemmas.Nat.{mul-le}
use Rattle.std.proofs.lemmas.Bool.{cases_lt}
use Rattle.std.proofs.lemmas.List.Elements.{All-contains}
use Rattle.balanced_rates.specs.declared.link.RatedLink.{RatedLink}
use Rattle.balanced_rates.specs.Balance.{IsAmong, IsBalanced, Balances, IsLeast, Joined, IsMultipleFrom}
use Rattle.balanced_rates.specs.Balance.Joined.{here, along, back}
use Rattle.balanced_rates.specs.Fraction.{IsLowest}
use Rattle.balanced_rates.proofs.Fractions.{cancels, product_is_some, factor_is_some, lowest_of_whole, lowest_of_rest}

-- ---- the greatest factor that two numbers share

-- two numbers by their lowest terms and the factor that takes these to them
record Shared (x y : ℕ) : Type 0 where
  over : ℕ
  under : ℕ
  factor : ℕ
  lowest : IsLowest x y over under
  first : x ≡ factor * over
  second : y ≡ factor * under

shared_by : (x y over under : ℕ) → IsLowest x y over under → Shared x y
shared_by x y over under lowest =
    let found : (factor : ℕ) × (y ≡ factor * under) × (x ≡ factor * over) = lowest.multiples y x (mul_comm x y) in
    record { over = over; under = under; factor = found.0; lowest = lowest; first = found.2; second = found.1 }

-- Euclid's algorithm
shared_within : (bound x y : ℕ) → 0 < x → 0 < y → y ≤ bound → Shared x y
shared_within zero x y some others within = absurd (omega (arith, others, within))
shared_within (suc bound) x y some others within =
    let whole = x / y in
    let rest = x % y in
    let parts : y * whole + rest ≡ x = div-add-mod x y in
    let less : rest < y = mod-lt x others in
    ⊎_elim
    (λ (left : 0 < rest).
    let inner = shared_within bound y rest others left (omega (arith, less, within)) in
    shared_by x y (whole * inner.over + inner.under) inner.over (lowest_of_rest x y whole rest inner.over inner.under others (sym parts) inner.lowest))
    (λ (none : rest ≤ 0). shared_by x y whole 1 (lowest_of_whole x y whole some others (omega (arith, none, parts))))
    (cases_lt 0 rest)

-- of any two numbers, each by the one before it
shared : (x y : ℕ) → Shared (suc x) (suc y)
shared x y = shared_within (suc y) (suc x) (suc y) (omega arith) (omega arith) (omega arith)

-- the lowest terms of fractions that are the same are the same
over_within : (x y z w p q r s : ℕ) → 0 < y → IsLowest x y p q → IsLowest z w r s → x * w ≡ z * y → r ≤ p
over_within x y z w p q r s some one other same =
    let times : x * w * q ≡ z * y * q = ap (λ k. k * q) same in
    let equal : w * (x * q) ≡ w * (y * p) = ap (λ k. w * k) one.same in
    let found = other.multiples q p (cancels y (z * q) (w * p) some (omega arith)) in
    let is : p ≡ found.0 * r = found.2 in
    let p_some = one.over in
    let factor : 1 ≤ found.0 = factor_is_some found.0 r (omega arith) in
    let least : 1 * r ≤ found.0 * r = mul-le 1 r found.0 r factor (omega arith) in
    omega arith

same_over : (x y z w p q r s : ℕ) → 0 < y → 0 < w → IsLowest x y p q → IsLowest z w r s → x * w ≡ z * y → p ≡ r
same_over x y z w p q r s some others one other same =
    let low : r ≤ p = over_within x y z w p q r s some one other same in
    let high : p ≤ r = over_within z w x y r s p q others other one (sym same) in
    omega arith

module _ (n : ℕ) (links : List RatedLink) (firings others : ℕ → ℕ) (among : All (IsAmong n) links) (least : IsLeast n links firings) (h : Balances n links others) where
  abbrev parts_at : (k : ℕ) → Shared (suc (others k - 1)) (suc (firings k - 1))
  parts_at k = shared (others k - 1) (firings k - 1)

  -- the greatest number that divides both at a leaf, and what it takes to the other vector
  abbrev common : ℕ → ℕ
  common k = (parts_at k).factor

  abbrev ratio : ℕ → ℕ
  ratio k = (parts_at k).over

  firings_some : (k : ℕ) → k < n → suc (firings k - 1) ≡ firings k
  firings_some k inside = let some : 1 ≤ firings k = least.balances.positive k inside in omega arith

  others_some : (k : ℕ) → k < n → suc (others k - 1) ≡ others k
  others_some k inside = let some : 1 ≤ others k = h.positive k inside in omega arith

  -- two leaves on a link that gives tokens fire in the same ratio in both vectors
  proportional : (link : RatedLink) → IsAmong n link → 0 < link.give → IsBalanced firings link → IsBalanced others link → others link.writer * firings link.reader ≡ others link.reader * firings link.writer
  proportional link ends gives balanced balanced' =
      let writes : 1 ≤ firings link.writer = least.balances.positive link.writer ends.0 in
      let given : 1 ≤ link.give * firings link.writer = product_is_some link.give (firings link.writer) gives writes in
      let needs : 1 ≤ link.need = factor_is_some link.need (firings link.reader) (omega (arith, balanced)) in
      let one : link.give * others link.writer * (link.need * firings link.reader) ≡ link.need * others link.reader * (link.need * firings link.reader) = ap (λ z. z * (link.need * firings link.reader)) balanced' in
      let two : link.need * others link.reader * (link.give * firings link.writer) ≡ link.need * others link.reader * (link.need * firings link.reader) = ap (λ z. link.need * others link.reader * z) balanced in
      cancels (link.give * link.need) (others link.writer * firings link.reader) (others link.reader * firings link.writer) (product_is_some link.give link.need gives needs) (omega arith)

  same_ratio : (link : RatedLink) → IsAmong n link → 0 < link.give → IsBalanced firings link → IsBalanced others link → ratio link.writer ≡ ratio link.reader
  same_ratio link ends gives balanced balanced' =
      let one = parts_at link.writer in
      let two = parts_at link.reader in
      same_over (suc (others link.writer - 1)) (suc (firings link.writer - 1)) (suc (others link.reader - 1)) (suc (firings link.reader - 1))
      one.over one.under two.over two.under (omega arith) (omega arith) one.lowest two.lowest
      (rw (others_some link.writer ends.0, others_some link.reader ends.1, firings_some link.writer ends.0, firings_some link.reader ends.1)
      (proportional link ends gives balanced balanced'))

  -- the common divisors balance each link
  common_balanced : (link : RatedLink) → IsAmong n link → IsBalanced firings link → IsBalanced others link → IsBalanced common link
  common_balanced link ends balanced balanced' =
      ⊎_elim
      (λ (gives : 0 < link.give).
      let ratio_is : ratio link.writer ≡ ratio link.reader = same_ratio link ends gives balanced balanced' in
      let some : 1 ≤ ratio link.writer = (parts_at link.writer).lowest.over in
      let writes : others link.writer ≡ common link.writer * ratio link.writer = sym (others_some link.writer ends.0) ∙ (parts_at link.writer).first in
      let reads : others link.reader ≡ common link.reader * ratio link.writer = (sym (others_some link.reader ends.1) ∙ (parts_at link.reader).first) ∙ ap (λ z. common link.reader * z) (sym ratio_is) in
      let one : link.give * others link.writer ≡ link.give * (common link.writer * ratio link.writer) = ap (λ z. link.give * z) writes in
      let two : link.need * others link.reader ≡ link.need * (common link.reader * ratio link.writer) = ap (λ z. link.need * z) reads in
      cancels (ratio link.writer) (link.give * common link.writer) (link.need * common link.reader) some (omega (arith, balanced')))
      (λ (none : link.give ≤ 0).
      let no_give : link.give ≡ 0 = omega arith in
      let nothing : link.give * firings link.writer ≡ 0 * firings link.writer = ap (λ z. z * firings link.writer) no_give in
      let no_need : link.need ≡ 0 =
      ⊎_elim (λ (needs : 0 < link.need). let some : 1 ≤ link.need * firings link.reader = product_is_some link.need (firings link.reader) needs (least.balances.positive link.reader ends.1) in absurd (omega (arith, balanced)))
      (λ (none' : link.need ≤ 0). omega arith) (cases_lt 0 link.need) in
      rw (no_give, no_need) (omega arith))
      (cases_lt 0 link.give)

  common_balances : Balances n links common
  common_balances = record {
    positive = λ k inside.
        let parts = parts_at k in
        let is : suc (others k - 1) ≡ parts.factor * parts.over = parts.first in
        factor_is_some parts.factor parts.over (omega arith);
    balanced = λ l d inside. common_balanced _ (among l d inside) (least.balances.balanced l d inside) (h.balanced l d inside);
  }

  -- so they are the least vector, and the other is a multiple of it in each leaf ..
  multiple_at : (k : ℕ) → k < n → others k ≡ ratio k * firings k
  multiple_at k inside =
      let parts = parts_at k in
      let within : firings k ≤ common k = least.least common common_balances k inside in
      let is : firings k ≡ common k * parts.under = sym (firings_some k inside) ∙ parts.second in
      let under : 1 ≤ parts.under = parts.lowest.under in
      let no_less : common k * 1 ≤ common k * parts.under = mul-le (common k) 1 (common k) parts.under (omega arith) under in
      let whole : common k ≡ firings k = omega arith in
      let times : others k ≡ common k * ratio k = sym (others_some k inside) ∙ parts.first in
      let same : common k * ratio k ≡ firings k * ratio k = ap (λ z. z * ratio k) whole in
      omega arith

  -- .. by one factor along each way
  ratio_of_way : (leaf k : ℕ) → leaf < n → Joined links leaf k → ratio leaf ≡ ratio k
  ratio_of_way leaf k inside (here leaf') = refl
  ratio_of_way leaf k inside (along link leaf' found gives way) =
      ratio_of_way leaf link.writer inside way
      ∙ same_ratio link (All-contains (IsAmong n) links link among found) gives (All-contains (IsBalanced firings) links link least.balances.balanced found) (All-contains (IsBalanced others) links link h.balanced found)
  ratio_of_way leaf k inside (back link leaf' found gives way) =
      ratio_of_way leaf link.reader inside way
      ∙ sym (same_ratio link (All-contains (IsAmong n) links link among found) gives (All-contains (IsBalanced firings) links link least.balances.balanced found) (All-contains (IsBalanced others) links link h.balanced found))

  inside_of_way : (leaf k : ℕ) → leaf < n → Joined links leaf k → k < n
  inside_of_way leaf k inside (here leaf') = inside
  inside_of_way leaf k inside (along link leaf' found gives way) = (All-contains (IsAmong n) links link among found).1
  inside_of_way leaf k inside (back link leaf' found gives way) = (All-contains (IsAmong n) links link among found).0

  pub vector_is_multiple : (leaf : ℕ) → leaf < n → IsMultipleFrom links firings others leaf
  vector_is_multiple leaf inside =
      (ratio leaf, λ k way. multiple_at k (inside_of_way leaf k inside way) ∙ ap (λ z. z * firings k) (sym (ratio_of_way leaf k inside way)))
