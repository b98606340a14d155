-- A small actor for tests: a table of actions between one input port and one output port.
-- Not trusted: no promise is read with it.
use Rattle.std.specs.Prelude.{◌≡◌, ℕ, zero, suc, ◌<◌, ◌≤◌, Bool, true, false, List, [], ◌∷◌, ℤ, pos, length, map, nat_le, if◌then◌else◌, Option, None, Some, slice_get}
use Rattle.rvc_base.specs.declared.trap.Trap.{Trap}
use Rattle.rvc_base.specs.Behaviour.{Behaviour, Effect, Choice, Fires, TrapsInGuard, TrapsInBody, Waits, Picks, Faults}
use Rattle.rvc_base.specs.Lawful.{tokens_on}
use Rattle.net_model.specs.Cell.{Cell}

-- what an action does: it sends the token 1, or its guards or its body trap
pub data Deed : Type 0 where
  Sends : Deed
  GuardTraps : Trap → Deed
  BodyTraps : Trap → Deed

abbrev pub deed_of : Bool → Option Trap → Deed
deed_of in_guard None = Sends
deed_of true (Some cause) = GuardTraps cause
deed_of false (Some cause) = BodyTraps cause

-- an action: how many tokens it takes, and what it does; it is above all that stand behind it
pub record Row : Type 0 where
  pub takes : ℕ
  pub does : Deed

abbrev pub takes_of : Option Row → ℕ
takes_of None = 0
takes_of (Some row) = row.takes

-- each action gives one token
abbrev pub gives_of : Option Row → ℕ
gives_of None = 0
gives_of (Some row) = 1

-- on the one port of each direction
abbrev pub on_first : ℕ → ℕ → ℕ
on_first zero n = n
on_first (suc p) n = 0

abbrev pub effect_of : Deed → Effect (Unit {0})
effect_of Sends = Fires tt ((pos 1 ∷ []) ∷ [])
effect_of (GuardTraps cause) = TrapsInGuard cause
effect_of (BodyTraps cause) = TrapsInBody cause

-- if so many tokens wait, the first action that has its tokens is the one that does something
abbrev pub effect_in : List Row → ℕ → ℕ → Option (Effect (Unit {0}))
effect_in [] waiting a = None
effect_in (row ∷ rows) waiting zero = if nat_le row.takes waiting then Some (effect_of row.does)
    else None
effect_in (row ∷ rows) waiting (suc a) = if nat_le row.takes waiting then None
    else effect_in rows waiting a

abbrev pub choice_of : ℕ → Deed → Choice
choice_of a Sends = Picks a
choice_of a (GuardTraps cause) = Faults a cause
choice_of a (BodyTraps cause) = Picks a

-- the same, for the rows from number a on
abbrev pub choice_in : ℕ → List Row → ℕ → Choice
choice_in a [] waiting = Waits
choice_in a (row ∷ rows) waiting = if nat_le row.takes waiting then choice_of a row.does
    else choice_in (suc a) rows waiting

abbrev pub table_actor : List Row → Behaviour (Unit {0})
table_actor rows = record {
  start = tt;
  ins = 1;
  outs = 1;
  actions = length rows;
  need = λ a p. on_first p (takes_of (slice_get rows a));
  give = λ a p. on_first p (gives_of (slice_get rows a));
  effect = λ state tokens a. effect_in rows (length (tokens_on tokens 0)) a;
  choice = λ state tokens. choice_in 0 rows (length (tokens_on tokens 0));
}

-- row a is the first that has its tokens
pub record IsFirst (rows : List Row) (waiting a : ℕ) (row : Row) : Type 0 where
  pub there : slice_get rows a ≡ Some row
  pub has : row.takes ≤ waiting
  pub earlier : (b : ℕ) → b < a → waiting < takes_of (slice_get rows b)

-- no row has its tokens
abbrev pub NoneHas : List Row → ℕ → Type 0
NoneHas rows waiting = (b : ℕ) → b < length rows → waiting < takes_of (slice_get rows b)

-- a row of code: how many tokens it takes, whether its guards trap, and by what it traps if it does
abbrev pub row_of : ℕ × Bool × Option Trap → Row
row_of row = record { takes = row.0; does = deed_of row.1 row.2 }

abbrev pub table_capacity : ℕ
table_capacity = 4

-- the actor at work, with queues for four tokens and a journal for four firings
abbrev pub table_cell : List (ℕ × Bool × Option Trap) → List ℤ → List ℤ → List ℕ → Bool
    → Cell (Unit {0})
table_cell rows inbox outbox journal trapped = record {
  actor = table_actor (map row_of rows);
  state = tt;
  inboxes = inbox ∷ [];
  outboxes = outbox ∷ [];
  inbox_capacities = table_capacity ∷ [];
  outbox_capacities = table_capacity ∷ [];
  journal = journal;
  journal_room = table_capacity;
  trapped = trapped;
}

-- the same of the row at a place
pub record HasFirst (rows : List Row) (waiting a : ℕ) : Type 0 where
  pub low : a < length rows
  pub has : takes_of (slice_get rows a) ≤ waiting
  pub earlier : (b : ℕ) → b < a → waiting < takes_of (slice_get rows b)
