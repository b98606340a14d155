-- Chains of pairs, joined and split, and chains that pass only numbers below a bound.
use Rattle.std.proofs.Common.{◌≡◌, ℕ, ◌+◌, ◌<◌, List, [], ◌∷◌, ◌++◌, ◌⊎◌, ⊎_elim, inl, inr, subst, arith, Contains}
use Rattle.std.specs.Prelude.{◌↔◌}
use Rattle.std.proofs.lemmas.Bool.{cases_lt}
use Rattle.std.proofs.lemmas.List.Elements.{All-contains}
use Rattle.rvc_base.specs.Chain.{ChainLeads, IsAbove}
use Rattle.priority_order.specs.Closed.{IsInRange}

pub leads_join : (pairs : List (ℕ × ℕ)) (a c b : ℕ) (xs ys : List ℕ) → ChainLeads pairs a xs c → ChainLeads pairs c ys b → ChainLeads pairs a (xs ++ c ∷ ys) b
leads_join pairs a c b [] ys h k = (h, k)
leads_join pairs a c b (x ∷ xs) ys h k = (h.0, leads_join pairs x c b xs ys h.1 k)

pub leads_split : (pairs : List (ℕ × ℕ)) (a c b : ℕ) (xs ys : List ℕ) → ChainLeads pairs a (xs ++ c ∷ ys) b → ChainLeads pairs a xs c × ChainLeads pairs c ys b
leads_split pairs a c b [] ys h = (h.0, h.1)
leads_split pairs a c b (x ∷ xs) ys h =
    let rest = leads_split pairs x c b xs ys h.1 in
    ((h.0, rest.0), rest.1)

pub above_joins : (pairs : List (ℕ × ℕ)) (a c b : ℕ) → IsAbove pairs a c → IsAbove pairs c b → IsAbove pairs a b
above_joins pairs a c b h k = (h.0 ++ c ∷ k.0, leads_join pairs a c b h.0 k.0 h.1 k.1)

-- the numbers between are below a bound
abbrev pub LeadsBelow : List (ℕ × ℕ) → ℕ → ℕ → List ℕ → ℕ → Type 0
LeadsBelow pairs bound a [] b = Contains pairs (a, b)
LeadsBelow pairs bound a (x ∷ xs) b = Contains pairs (a, x) × (x < bound) × LeadsBelow pairs bound x xs b

-- some chain passes only numbers below a bound
abbrev pub IsAboveBy : List (ℕ × ℕ) → ℕ → ℕ → ℕ → Type 0
IsAboveBy pairs bound a b = (through : List ℕ) × LeadsBelow pairs bound a through b

below_join : (pairs : List (ℕ × ℕ)) (bound a c b : ℕ) (xs ys : List ℕ) → LeadsBelow pairs bound a xs c → c < bound → LeadsBelow pairs bound c ys b → LeadsBelow pairs bound a (xs ++ c ∷ ys) b
below_join pairs bound a c b [] ys h less k = (h, less, k)
below_join pairs bound a c b (x ∷ xs) ys h less k = (h.0, h.1, below_join pairs bound x c b xs ys h.2 less k)

below_weaker : (pairs : List (ℕ × ℕ)) (bound a b : ℕ) (xs : List ℕ) → LeadsBelow pairs bound a xs b → LeadsBelow pairs (bound + 1) a xs b
below_weaker pairs bound a b [] h = h
below_weaker pairs bound a b (x ∷ xs) h = (h.0, omega (arith, h.1), below_weaker pairs bound x b xs h.2)

-- a chain that may pass one number more passes it, or doesn't
below_split : (pairs : List (ℕ × ℕ)) (bound a b : ℕ) (xs : List ℕ) → LeadsBelow pairs (bound + 1) a xs b → IsAboveBy pairs bound a b ⊎ (IsAboveBy pairs bound a bound × IsAboveBy pairs bound bound b)
below_split pairs bound a b [] h = inl ([], h)
below_split pairs bound a b (x ∷ xs) h =
    let rest = below_split pairs bound x b xs h.2 in
    let passes : x < bound → IsAboveBy pairs bound a b ⊎ (IsAboveBy pairs bound a bound × IsAboveBy pairs bound bound b) =
    λ less. ⊎_elim (λ by. inl (x ∷ by.0, (h.0, less, by.1))) (λ both. inr ((x ∷ both.0.0, (h.0, less, both.0.1)), both.1)) rest in
    let reaches : x ≡ bound → IsAboveBy pairs bound a b ⊎ (IsAboveBy pairs bound a bound × IsAboveBy pairs bound bound b) =
    λ same. let front : IsAboveBy pairs bound a bound = ([], subst (λ k. Contains pairs (a, k)) same h.0) in
    ⊎_elim (λ by. inr (front, subst (λ k. IsAboveBy pairs bound k b) same by)) (λ both. inr (front, both.1)) rest in
    ⊎_elim passes (λ above. reaches (omega (arith, above, h.1))) (cases_lt x bound)

pub above_by_more : (pairs : List (ℕ × ℕ)) (bound a b : ℕ) → IsAboveBy pairs (bound + 1) a b ↔ (IsAboveBy pairs bound a b ⊎ (IsAboveBy pairs bound a bound × IsAboveBy pairs bound bound b))
above_by_more pairs bound a b = (
  λ h. below_split pairs bound a b h.0 h.1,
  λ h. ⊎_elim (λ by. (by.0, below_weaker pairs bound a b by.0 by.1))
      (λ both. (both.0.0 ++ bound ∷ both.1.0, below_join pairs (bound + 1) a bound b both.0.0 both.1.0 (below_weaker pairs bound a bound both.0.0 both.0.1) (omega arith) (below_weaker pairs bound bound b both.1.0 both.1.1))) h,
)

pub above_by_none : (pairs : List (ℕ × ℕ)) (a b : ℕ) → IsAboveBy pairs 0 a b ↔ Contains pairs (a, b)
above_by_none pairs a b = (λ h. direct h.0 h.1, λ h. ([], h)) where
  direct : (xs : List ℕ) → LeadsBelow pairs 0 a xs b → Contains pairs (a, b)
  direct [] h = h
  direct (x ∷ xs) h = absurd (omega (arith, h.1))

leads_from_below : (pairs : List (ℕ × ℕ)) (bound a b : ℕ) (xs : List ℕ) → LeadsBelow pairs bound a xs b → ChainLeads pairs a xs b
leads_from_below pairs bound a b [] h = h
leads_from_below pairs bound a b (x ∷ xs) h = (h.0, leads_from_below pairs bound x b xs h.2)

below_from_leads : (pairs : List (ℕ × ℕ)) (n a b : ℕ) (xs : List ℕ) → IsInRange pairs n → ChainLeads pairs a xs b → LeadsBelow pairs n a xs b
below_from_leads pairs n a b [] in_range h = h
below_from_leads pairs n a b (x ∷ xs) in_range h =
    (h.0, (All-contains (λ pair. (pair.0 < n) × (pair.1 < n)) pairs (a, x) in_range h.0).1, below_from_leads pairs n x b xs in_range h.1)

-- if all pairs are of numbers below n, each chain passes only such numbers
pub above_by_all : (pairs : List (ℕ × ℕ)) (n a b : ℕ) → IsInRange pairs n → IsAboveBy pairs n a b ↔ IsAbove pairs a b
above_by_all pairs n a b in_range =
    (λ h. (h.0, leads_from_below pairs n a b h.0 h.1), λ h. (h.0, below_from_leads pairs n a b h.0 in_range h.1))
