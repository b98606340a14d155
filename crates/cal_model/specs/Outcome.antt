-- What evaluation and execution come to.
-- Trusted: part of what a promise means.
use Rattle.std.specs.Prelude.{ℕ, zero, suc, Option, None, Some}
use Rattle.rvc_base.specs.declared.trap.Trap.{Trap}
use Rattle.rvc_base.specs.declared.trap.Trap.TheVariants.{TurnLimit}

pub data Out (A : Type 0) : Type 0 where
  -- this, with so many turns left
  Gives : A → (left : ℕ) → Out A
  Traps : Trap → Out A
  -- a name is reached that means nothing
  Lacks : Out A
  -- a part is of another kind than its form asks; never if the whole has a kind
  Clashes : Out A

abbrev pub and_then : {A B : Type 0} → Out A → (A → ℕ → Out B) → Out B
and_then (Gives a left) f = f a left
and_then (Traps c) f = Traps c
and_then Lacks f = Lacks
and_then Clashes f = Clashes

-- one turn, and then f. If no turn is left, that is one turn too many.
abbrev pub turn : {A : Type 0} → ℕ → (ℕ → Out A) → Out A
turn zero f = Traps TurnLimit
turn (suc left) f = f left

-- what counts its turns for itself, if so many are left outside
abbrev pub alone : {A : Type 0} → Out A → ℕ → Out A
alone (Gives a used) left = Gives a left
alone (Traps c) left = Traps c
alone Lacks left = Lacks
alone Clashes left = Clashes

-- what is asked for, or else a clash
abbrev pub needed : {A : Type 0} → Option A → ℕ → Out A
needed None left = Clashes
needed (Some a) left = Gives a left

-- what a name means, if it means anything
abbrev pub known : {A : Type 0} → Option A → ℕ → Out A
known None left = Lacks
known (Some a) left = Gives a left
