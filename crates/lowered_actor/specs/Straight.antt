-- Straight lines of code: bodies without jumps, loops and calls. Whether such a body keeps the facts of guards and
-- firings can be seen from its instructions.
-- Trusted: part of what a promise means.
use Rattle.std.specs.Prelude.{ℕ, zero, suc, ◌+◌, ◌==◌, Bool, true, false, ◌&&◌, ◌||◌, List, [], ◌∷◌, drop, nat_le, if◌then◌else◌}
use Rattle.std.specs.List.{list_all}
use Rattle.code_ir.specs.declared.instr.Instr.{Instr}
use Rattle.code_ir.specs.declared.instr.Instr.TheVariants as op
use Rattle.lowered_actor.specs.declared.parts.StateCell.{StateCell}
use Rattle.lowered_actor.specs.Actor.{Action, Actor, number_on}

abbrev pub is_saved : List StateCell → ℕ → Bool
is_saved [] cell = false
is_saved (saved ∷ others) cell = (saved.cell == cell) || is_saved others cell

-- what is written to: a cell behind the state cells, or by a firing one that is saved
abbrev pub may_store : Actor → Bool → ℕ → Bool
may_store actor firing cell = nat_le actor.kept cell || (firing && is_saved actor.saved cell)

-- it ends a body
abbrev pub is_end : Instr → Bool
is_end op.Answer = true
is_end op.Done = true
is_end instr = false

-- it ends a firing, or a guard
abbrev pub ends_line : Bool → Instr → Bool
ends_line firing op.Answer = if firing then false else true
ends_line firing op.Done = firing
ends_line firing instr = false

-- It may stand in a straight line: it reads no cell but state cells, writes only if that is allowed, and reads
-- no token behind those that the action takes.
abbrev pub may_stand : Actor → Action → Bool → Instr → Bool
may_stand actor action firing (op.Const v) = true
may_stand actor action firing (op.Load cell) = nat_le (suc cell) actor.kept
may_stand actor action firing (op.Store cell kind) = may_store actor firing cell
may_stand actor action firing (op.Token port k) = nat_le (suc k) (number_on action.needs port)
may_stand actor action firing op.Not = true
may_stand actor action firing op.Add = true
may_stand actor action firing op.Sub = true
may_stand actor action firing op.Mul = true
may_stand actor action firing op.Div = true
may_stand actor action firing op.Mod = true
may_stand actor action firing op.Eq = true
may_stand actor action firing op.Lt = true
may_stand actor action firing instr = false

-- instructions that may stand there, up to one that ends the body
abbrev pub is_line : Actor → Action → Bool → List Instr → Bool
is_line actor action firing [] = false
is_line actor action firing (instr ∷ instrs) =
    ends_line firing instr || (may_stand actor action firing instr && is_line actor action firing
    instrs)

abbrev pub is_store : ℕ → Instr → Bool
is_store cell (op.Store c kind) = c == cell
is_store cell instr = false

-- the line stores in this cell
abbrev pub stores : ℕ → List Instr → Bool
stores cell [] = false
stores cell (instr ∷ instrs) = if is_end instr then false
    else (is_store cell instr || stores cell instrs)

-- it stores in each of the n cells from this one on
abbrev pub stores_each : ℕ → ℕ → List Instr → Bool
stores_each cell zero instrs = true
stores_each cell (suc n) instrs = stores cell instrs && stores_each (cell + 1) n instrs

-- the body that begins at a place
abbrev pub body_at : Actor → ℕ → List Instr
body_at actor entry = drop entry actor.code.instrs

abbrev pub is_straight_guard : Actor → Action → ℕ → Bool
is_straight_guard actor action entry = is_line actor action false (body_at actor entry)

-- it stores in each cell of the tokens to send on the first n ports
abbrev pub stores_sent : Action → ℕ → List Instr → Bool
stores_sent action zero instrs = true
stores_sent action (suc p) instrs =
    stores_sent action p instrs && stores_each (number_on action.sends p)
    (number_on action.gives p) instrs

abbrev pub is_straight_firing : Actor → Action → Bool
is_straight_firing actor action =
    is_line actor action true (body_at actor action.fire) && stores_sent action actor.outs
    (body_at actor action.fire)

abbrev pub are_straight_guards : Actor → Action → Bool
are_straight_guards actor action = list_all (is_straight_guard actor action) action.guards

-- each guard of the action, and its firing
abbrev pub is_straight : Actor → Action → Bool
is_straight actor action = are_straight_guards actor action && is_straight_firing actor action

abbrev pub are_straight : Actor → Bool
are_straight actor = list_all (is_straight actor) actor.actions
