-- The state of an actor at work as numbers, and how it is set by them.
-- Trusted: part of what a promise means.
use Rattle.std.specs.Prelude.{◌≡◌, ℕ, ◌<◌, Bool, true, false, List, ℤ, length, slice_get, slice_set, Some}
use Rattle.rvc_base.specs.declared.scalar.Scalar.{Scalar}
use Rattle.rvc_base.specs.Storing.{InRange}
use Rattle.net_model.specs.Cell.{Cell, IsSame, IsSameActor, SameInboxes, SameOutboxes}

-- what is shown of the state of an actor at work, which is a C
pub record Shown (C : Type 0) : Type 0 where
  -- the state of the schedule, as a number below that of its states
  pub number : ℕ
  pub states : ℕ
  -- the scalars of the state variables that change, in the order of the source, and their types
  pub scalars : List ℤ
  pub kinds : List Scalar
  -- the same actor at work in the state that such a number and such scalars make
  pub made : ℕ → List ℤ → C

-- there is such a state of the schedule, there is a scalar for each type, and the state is the one that they make
pub record IsShown {C X : Type 0} (cell : C → Cell X) (at_work : C) (shown : Shown C) : Type 0 where
  pub among : shown.number < shown.states
  pub count : length shown.scalars ≡ length shown.kinds
  pub made : (cell at_work).state ≡ (cell (shown.made shown.number shown.scalars)).state

-- a number is in the type of scalar k
abbrev pub IsInKind : List Scalar → ℕ → ℤ → Type 0
IsInKind kinds k v = (kind : Scalar) × (slice_get kinds k ≡ Some kind) × InRange kind v

-- nothing that is seen changes but the state
pub record IsSameButState {X : Type 0} (old new : Cell X) : Type 0 where
  pub actor : IsSameActor old new
  pub inboxes : SameInboxes old new
  pub outboxes : SameOutboxes old new
  pub journal : new.journal ≡ old.journal
  pub trapped : new.trapped ≡ old.trapped

-- scalar k is set to v exactly if v is in its type: the other scalars and the state of the schedule stay
abbrev pub SetsScalar : {C : Type 0} → ℕ → ℤ → Shown C → Bool → Shown C → Type 0
SetsScalar k v old true new = IsInKind old.kinds k v
    × (new ≡ record old { scalars = slice_set old.scalars k v })
SetsScalar k v old false new = ¬ IsInKind old.kinds k v × (new ≡ old)

-- the state of the schedule is set to s exactly if there is such a state: the scalars stay
abbrev pub SetsNumber : {C : Type 0} → ℕ → Shown C → Bool → Shown C → Type 0
SetsNumber s old true new = (s < old.states) × (new ≡ record old { number = s })
SetsNumber s old false new = ¬ (s < old.states) × (new ≡ old)

-- if a number isn't set nothing that is seen changes, and else nothing but the state
abbrev pub StaysBut : {X : Type 0} → Cell X → Bool → Cell X → Type 0
StaysBut old true new = IsSameButState old new
StaysBut old false new = IsSame old new
