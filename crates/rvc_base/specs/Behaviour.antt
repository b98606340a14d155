-- What an actor does, without its source: rates, effects and the choice of the action to fire.
-- Trusted: part of what a promise means.
use Rattle.std.specs.Prelude.{ℕ, ℤ, List, Option}
use Rattle.rvc_base.specs.declared.trap.Trap.{Trap}

-- what an action makes of a state and the tokens before it: a new state and the tokens sent on each
-- output port, a trap of its guards, or a trap of its locals, body or outputs
pub data Effect (X : Type 0) : Type 0 where
  Fires : X → List (List ℤ) → Effect X
  TrapsInGuard : Trap → Effect X
  TrapsInBody : Trap → Effect X

-- which action is to fire: none, one, or none since the guards of one trap
pub data Choice : Type 0 where
  Waits : Choice
  Picks : ℕ → Choice
  Faults : ℕ → Trap → Choice

-- An actor over states X. Tokens stand as a list for each input port, those before it in order.
-- `effect` is none if the action isn't exposed or its guards are false.
pub record Behaviour (X : Type 0) : Type 0 where
  -- the state of a fresh instance
  pub start : X
  -- how many input and output ports it has
  pub ins : ℕ
  pub outs : ℕ
  -- how many actions it has; beyond them nothing is needed, given or done
  pub actions : ℕ
  -- how many tokens an action takes from an input port, and gives on an output port
  pub need : ℕ → ℕ → ℕ
  pub give : ℕ → ℕ → ℕ
  pub effect : X → List (List ℤ) → ℕ → Option (Effect X)
  pub choice : X → List (List ℤ) → Choice
