-- The state of the machine, and what its instructions need of it.
-- Not trusted: no promise is read with it.
use Rattle.std.specs.Prelude.{◌≢◌, ℕ, ◌+◌, ◌*◌, ◌≤◌, ℤ, pos, List, length, Option, None, Some}
use Rattle.code_ir.specs.declared.instr.Instr.{Instr}
use Rattle.code_ir.specs.declared.instr.Instr.TheVariants as op
use Rattle.code_ir.specs.declared.outcome.Outcome.{Outcome}
use Rattle.code_ir.specs.Code.{Code}
use Rattle.code_ir.specs.Running.{State, Next, Goes, Over, Lacks, step}
use Rattle.code_ir.specs.Typing.{AllSized, IsAdmitted, Way}
use Rattle.code_ir.specs.Standing.{IsFine, Stands}
use Rattle.action_machine.specs.declared.registers.Registers.{Registers}
use Rattle.action_machine.specs.Stacks.{top_first}

-- the state that the registers, the slices of operands and of open calls, and the cells are
abbrev pub state_of : Registers → List ℤ → List ℕ → List ℤ → State
state_of at stack frames cells =
    record {
      place = at.place;
      stack = top_first (pos 0) at.top stack;
      frames = top_first 0 at.depth frames;
      cells = cells;
      left = at.left;
    }

-- what a step comes to: no outcome if the run goes on
abbrev pub next_of : Option Outcome → State → Next
next_of None s = Goes s
next_of (Some o) s = Over o s.cells

-- there is room for the operands and the open calls of each run of the code
pub record HasRoom (code : Code) (operands calls : ℕ) : Type 0 where
  pub each_way : (p h : ℕ) → Way code p h → h * (length code.routines + 1) ≤ operands
  pub each_call : length code.routines ≤ calls

-- by how many operands an instruction that goes to the next place raises the stack
abbrev pub rises : Instr → ℕ
rises (op.Const v) = 1
rises (op.Load c) = 1
rises (op.Token p k) = 1
rises instr = 0

-- a state of a run that has its tokens, with the room for it
pub record IsReady (code : Code) (tokens : ℕ → List ℤ) (s : State) (operands calls : ℕ) :
    Type 0 where
  pub admitted : IsAdmitted code
  pub sized : AllSized code.instrs
  pub room : HasRoom code operands calls
  pub stands : Stands code s
  pub fine : IsFine code s (step code tokens s)
  pub token : step code tokens s ≢ Lacks
  pub few : length s.cells ≤ 4294967295

-- it goes to the next place, or traps
abbrev pub IsPlain : Instr → Type 0
IsPlain (op.Jump t) = ⊥
IsPlain (op.JumpIfNot t) = ⊥
IsPlain op.Turn = ⊥
IsPlain (op.Call r) = ⊥
IsPlain op.Return = ⊥
IsPlain op.Answer = ⊥
IsPlain op.Done = ⊥
IsPlain instr = Unit {0}
