-- Worked rows, computed by the definition of running code.
use Rattle.std.proofs.Common.{ℕ, zero, suc, ◌+◌, refl, ℤ, pos, negsuc, List, [], ◌∷◌}
use Rattle.std.specs.Prelude.{Some, None}
use Rattle.rvc_base.specs.declared.scalar.Scalar.TheVariants.{Uint}
use Rattle.rvc_base.specs.declared.trap.Trap.TheVariants.{DivideByZero, Overflow, IndexRange, ShiftRange, TurnLimit}
use Rattle.rvc_base.specs.Turns.{max_turns}
use Rattle.rvc_base.specs.Width.{least_num, greatest_num, max_shift}
use Rattle.code_ir.specs.declared.instr.Instr.{Instr}
use Rattle.code_ir.specs.declared.instr.Instr.TheVariants as op
use Rattle.code_ir.specs.declared.outcome.Outcome.TheVariants.{True, False, Trap, Done}
use Rattle.code_ir.specs.Code.{Code}
use Rattle.code_ir.specs.Running.{runs, Ends, stop, go}

abbrev no_tokens : ℕ → List ℤ
no_tokens p = []

-- code of one entry, without routines
abbrev one_body : List Instr → ℕ → Code
one_body instrs cells = record { instrs = instrs; routines = []; entries = 0 ∷ []; cells = cells }

divided_by_zero : runs (one_body (op.Const (pos 7) ∷ op.Const (pos 0) ∷ op.Div ∷ op.Answer ∷ []) 0) 0 [] no_tokens (Trap DivideByZero) []
divided_by_zero = go refl (go refl (stop refl))

too_great : runs (one_body (op.Const greatest_num ∷ op.Const (pos 1) ∷ op.Add ∷ op.Answer ∷ []) 0) 0 [] no_tokens (Trap Overflow) []
too_great = go refl (go refl (stop refl))

-- however many turns are left
turns_end : (left : ℕ) → Ends (one_body (op.Turn ∷ op.Jump 0 ∷ []) 0) no_tokens (record { place = 0; stack = []; frames = []; cells = []; left = left }) (Trap TurnLimit) []
turns_end zero = stop refl
turns_end (suc left) = go refl (go refl (turns_end left))

too_many_turns : runs (one_body (op.Turn ∷ op.Jump 0 ∷ []) 0) 0 [] no_tokens (Trap TurnLimit) []
too_many_turns = turns_end max_turns

-- stored in its type: 255 + 1 is 0 in a `uint(size=8)`
stores_wrapped : runs (one_body (op.Const (pos 255) ∷ op.Const (pos 1) ∷ op.Add ∷ op.Store 0 (Some (Uint 8)) ∷ op.Load 0 ∷ op.Answer ∷ []) 1) 0 (pos 9 ∷ []) no_tokens False (pos 0 ∷ [])
stores_wrapped = go refl (go refl (go refl (go refl (go refl (stop refl)))))

-- -7 / 2 is -3, -7 mod 2 is -1, -7 >> 1 is -4
rounds_towards_zero : runs (one_body (op.Const (negsuc 6) ∷ op.Const (pos 2) ∷ op.Div ∷ op.Store 0 None ∷ op.Const (negsuc 6) ∷ op.Const (pos 2) ∷ op.Mod ∷ op.Store 1 None ∷ op.Const (negsuc 6) ∷ op.Const (pos 1) ∷ op.Shr ∷ op.Store 2 None ∷ op.Done ∷ []) 3) 0 (pos 0 ∷ pos 0 ∷ pos 0 ∷ []) no_tokens Done (negsuc 2 ∷ negsuc 0 ∷ negsuc 3 ∷ [])
rounds_towards_zero = go refl (go refl (go refl (go refl (go refl (go refl (go refl (go refl (go refl (go refl (go refl (go refl (stop refl))))))))))))

-- the count of a shift is one too many
shifts_too_far : runs (one_body (op.Const (pos 1) ∷ op.Const (pos (max_shift + 1)) ∷ op.Shl ∷ op.Answer ∷ []) 0) 0 [] no_tokens (Trap ShiftRange) []
shifts_too_far = go refl (go refl (stop refl))

-- by the greatest count 1 gets too great, and -1 gets the least number
shifts_too_great : runs (one_body (op.Const (pos 1) ∷ op.Const (pos max_shift) ∷ op.Shl ∷ op.Answer ∷ []) 0) 0 [] no_tokens (Trap Overflow) []
shifts_too_great = go refl (go refl (stop refl))

shifts_to_the_least : runs (one_body (op.Const (negsuc 0) ∷ op.Const (pos max_shift) ∷ op.Shl ∷ op.Store 0 None ∷ op.Done ∷ []) 1) 0 (pos 0 ∷ []) no_tokens Done (least_num ∷ [])
shifts_to_the_least = go refl (go refl (go refl (go refl (stop refl))))

-- the index is one too many
index_too_great : runs (one_body (op.Const (pos 2) ∷ op.LoadAt 0 2 ∷ op.Answer ∷ []) 2) 0 (pos 5 ∷ pos 6 ∷ []) no_tokens (Trap IndexRange) (pos 5 ∷ pos 6 ∷ [])
index_too_great = go refl (stop refl)

-- if the ranges overlap, a cell that was written is read as written
copies_from_the_first : runs (one_body (op.Copy 1 0 2 None ∷ op.Done ∷ []) 3) 0 (pos 1 ∷ pos 2 ∷ pos 3 ∷ []) no_tokens Done (pos 1 ∷ pos 1 ∷ pos 1 ∷ [])
copies_from_the_first = go refl (stop refl)

-- a routine leaves its result on the stack
calls_and_returns : runs (record { instrs = op.Const (pos 3) ∷ op.Return ∷ op.Call 0 ∷ op.Answer ∷ []; routines = record { start = 0; results = 1 } ∷ []; entries = 2 ∷ []; cells = 0 }) 2 [] no_tokens True []
calls_and_returns = go refl (go refl (go refl (stop refl)))
