-- Cycles of declared pairs.
-- Trusted: part of what a promise means.
use Rattle.std.specs.Prelude.{◌≢◌, ℕ, ◌≤◌, List, [], ◌∷◌, slice_index, All, AllPairs}
use Rattle.rvc_base.specs.Chain.{ChainLeads}
use Rattle.priority_order.specs.declared.closing.OrderFault.{OrderFault}
use Rattle.priority_order.specs.declared.closing.OrderFault.TheVariants.{Cycle, Memory}

-- each is paired with the next, and the last with the first
abbrev pub IsRing : List (ℕ × ℕ) → List ℕ → Type 0
IsRing pairs [] = ⊥
IsRing pairs (first ∷ others) = ChainLeads pairs first others first

-- a ring of distinct numbers, the least first
pub record IsCycle (pairs : List (ℕ × ℕ)) (actions : List ℕ) : Type 0 where
  pub ring : IsRing pairs actions
  pub distinct : AllPairs (λ a b. a ≢ b) actions
  pub least_first : All (λ a. slice_index actions 0 ≤ a) actions

-- the fault names a cycle; running out of memory has no cause
abbrev pub IsCause : List (ℕ × ℕ) → OrderFault → Type 0
IsCause pairs (Cycle actions) = IsCycle pairs actions.items
IsCause pairs Memory = Unit {0}
