-- Code of firings that fits where it stands, and bodies that make code which is admitted.
-- Trusted: part of what a promise means.
use Rattle.std.specs.Prelude.{◌≡◌, ℕ, ◌+◌, ◌<◌, ◌≤◌, List, [], ◌∷◌, ◌++◌, length, Some, slice_get}
use Rattle.rvc_base.specs.Storing.{IsSize}
use Rattle.cal_model.specs.Actor.{Action, Port}
use Rattle.cal_model.specs.Selection.{kind_of_port}
use Rattle.code_ir.specs.declared.instr.Instr.{Instr}
use Rattle.code_ir.specs.declared.instr.Instr.TheVariants as op
use Rattle.code_ir.specs.Code.{Code, begins, results_of}
use Rattle.code_ir.specs.Typing.{AllSized, IsAdmitted}
use Rattle.lower_base.specs.Fitting.{Fits}
use Rattle.lower_base.specs.Held.{AreBelow}
use Rattle.lower_base.specs.Names.{Name}
use Rattle.lower_base.specs.Placed.{StandsAt}
use Rattle.lower_base.specs.Routining.{LocalsSized}
use Rattle.lower_stmt.specs.Calls.{HasRunRoutines}
use Rattle.lower_stmt.specs.Procedures.{Routines}
use Rattle.action_lower.specs.FiringCode.{IsFiringCode}

-- instructions that fit as those of a firing, which leaves no operand: these, and then the end
pub record FitsAsFiring (whole : Code) (callable limit base : ℕ) (code : List Instr) : Type 0 where
  pub body : List Instr
  pub is : code ≡ body ++ op.Done ∷ []
  pub fits : Fits whole callable limit base 0 body 0 (base + length body) 0

-- The code of a firing fits where it stands in code that has the routines which it calls, with their cells before its
-- own.
abbrev pub FiringsFit : Type 0
FiringsFit = (whole : Code) (callable limit : ℕ) (rs : Routines) (names : List Name)
    (ports : List Port) (act : Action) (firsts : List ℕ) (base n m : ℕ) (code : List Instr)
    → HasRunRoutines whole callable n rs → AreBelow n names → LocalsSized act.locals
    → ((port : ℕ) → IsSize (kind_of_port ports port)) → m ≤ limit → StandsAt whole.instrs base code
    → IsFiringCode rs names ports act firsts base n code m
    → FitsAsFiring whole callable limit base code

-- ---- whole code

-- An instruction ends the body of this number with so many operands: a routine with those that it leaves, a guard with
-- the one that it answers, a firing with none. The bodies of routines come first.
abbrev pub EndsBody : Code → ℕ → ℕ → Instr → Type 0
EndsBody whole number left op.Return = (number < length whole.routines)
    × (left ≡ results_of whole number)
EndsBody whole number left op.Answer = (length whole.routines ≤ number) × (left ≡ 1)
EndsBody whole number left op.Done = (length whole.routines ≤ number) × (left ≡ 0)
EndsBody whole number left instr = ⊥

-- From a place to another one stand instructions that fit, and an instruction that ends them. They call only routines
-- whose bodies stand before this one.
pub record IsBody (whole : Code) (number begin end : ℕ) : Type 0 where
  pub callable : ℕ
  pub before : callable ≤ number
  pub routines : callable ≤ length whole.routines
  pub instrs : List Instr
  pub left : ℕ
  pub last : Instr
  pub at_end : end ≡ begin + length instrs
  pub stands : StandsAt whole.instrs begin instrs
  pub fits : Fits whole callable whole.cells begin 0 instrs left (begin + length instrs) left
  pub ends : slice_get whole.instrs end ≡ Some last
  pub is_end : EndsBody whole number left last

-- bodies one after the other, from this number on and up to the end of the code, and the places where they begin
pub data AreBodies (whole : Code) : ℕ → ℕ → List ℕ → Type 0 where
  no_body : (n number : ℕ) → n ≡ length whole.instrs → AreBodies whole n number []
  body_more : (begin end number : ℕ) (places : List ℕ) → IsBody whole number begin end
      → AreBodies whole (end + 1) (number + 1) places
      → AreBodies whole begin number (begin ∷ places)

-- Code whose bodies fit, those of its routines and then those of its entries, is admitted.
abbrev pub BodiesAreAdmitted : Type 0
BodiesAreAdmitted = (whole : Code) → AreBodies whole 0 0 (begins whole)
    → IsAdmitted whole × AllSized whole.instrs
