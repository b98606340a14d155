-- The tables of an actor: what a lowered actor has beside its code.
-- Trusted: part of what a promise means.
use Rattle.std.specs.Prelude.{◌≡◌, ◌↔◌, ℕ, ◌+◌, ◌<◌, IsTrue, List, [], ◌∷◌, ◌++◌, map, length, if◌then◌else◌, Some, slice_get}
use Rattle.std.specs.List.{range_with_len}
use Rattle.rvc_base.specs.declared.scalar.Scalar.{Scalar}
use Rattle.rvc_base.specs.Line.{IsLine}
use Rattle.schedule_fsm.specs.Automaton.{Automaton, target}
use Rattle.priority_order.specs.Ranking.{Ranking, is_above}
use Rattle.cal_model.specs.Value.{Shape, Single, Many, scalars_of_type}
use Rattle.cal_model.specs.Actor.{Held, Actor}
use Rattle.cal_model.specs.Eligible.{IsStateOf, next}
use Rattle.cal_model.specs.Rates.{need, give}
use Rattle.cal_model.specs.Selection.{Above}
use Rattle.lowered_actor.specs.declared.parts.StateCell.{StateCell}
use Rattle.lower_tables.specs.declared.rates.Rates.{Rates}

-- ---- the schedule

-- The automaton has exactly the states of the actor, the fresh one included, and its actions. From each state each
-- action leads where the actor's schedule says, and nowhere if it isn't eligible there.
pub record IsSchedule (actor : Actor) (fsm : Automaton) : Type 0 where
  pub states : (s : ℕ) → (s < fsm.states) ↔ IsStateOf actor s
  pub actions : fsm.actions ≡ length actor.actions
  pub leads : (s a : ℕ) → IsStateOf actor s → a < length actor.actions
      → target fsm s a ≡ next actor s a

-- ---- the priorities

-- the order puts one action above another exactly if the actor does, and its line is that of the actor's actions
pub record IsPriority (actor : Actor) (order : Ranking) : Type 0 where
  pub count : order.count ≡ length actor.actions
  pub above : (a b : ℕ) → a < length actor.actions → b < length actor.actions
      → IsTrue (is_above order a b) ↔ Above actor a b
  pub line : IsLine (length actor.actions) (Above actor) order.line

-- ---- the rates

-- how many tokens an action takes, input port by input port
abbrev pub needs_of : Actor → ℕ → List ℕ
needs_of actor a = map (need actor a) (range_with_len 0 (length actor.ins))

-- how many it sends, output port by output port
abbrev pub gives_of : Actor → ℕ → List ℕ
gives_of actor a = map (give actor a) (range_with_len 0 (length actor.outs))

-- these are the rates of an action
pub record AreRatesOf (actor : Actor) (a : ℕ) (needs gives : List ℕ) : Type 0 where
  pub needs_are : needs ≡ needs_of actor a
  pub gives_are : gives ≡ gives_of actor a

-- the rates of the first n actions, in their order
pub record AreRates (actor : Actor) (n : ℕ) (rates : List Rates) : Type 0 where
  pub count : length rates ≡ n
  pub each : (a : ℕ) (r : Rates) → slice_get rates a ≡ Some r
      → AreRatesOf actor a r.needs.items r.gives.items

-- ---- the cells of the state

-- the type of the scalars of a type
abbrev pub scalar_of : Shape → Scalar
scalar_of (Single t) = t
scalar_of (Many n items) = scalar_of items

-- a cell that holds a scalar of this type
abbrev pub typed_cell : Scalar → ℕ → StateCell
typed_cell t c = record { cell = c; kind = t }

-- the cells from c on that hold a variable, scalar by scalar
abbrev pub cells_of_var : ℕ → Held → List StateCell
cells_of_var c x = map (typed_cell (scalar_of x.shape)) (range_with_len c (scalars_of_type x.shape))

-- the cells of the variables that change, if variables stand in the cells from c on, one after the other
abbrev pub saved_from : ℕ → List Held → List StateCell
saved_from c [] = []
saved_from c (x ∷ xs) = (if x.changes then cells_of_var c x else [])
    ++ saved_from (c + scalars_of_type x.shape) xs
