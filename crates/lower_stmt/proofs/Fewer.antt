-- A run never has more turns left than before.
use Rattle.std.proofs.Common.{◌≡◌, ℕ, zero, suc, ◌+◌, ◌≤◌, ℤ, List, [], ◌∷◌, subst, Option, None, Some, arith}
use Rattle.std.specs.Prelude.{slice_get, if◌then◌else◌}
use Rattle.rvc_base.specs.Arithmetic.{is_true}
use Rattle.code_ir.specs.declared.instr.Instr.{Instr}
use Rattle.code_ir.specs.declared.instr.Routine.{Routine}
use Rattle.code_ir.specs.declared.instr.Instr.TheVariants as op
use Rattle.code_ir.specs.Code.{Code}
use Rattle.code_ir.specs.Effect.{Effect, Leaves, Fails, LacksToken, Breaks, effect}
use Rattle.code_ir.specs.Running.{State, Goes, Stuck, go_on, jump_if_not, turn, return, answer, obey, Reaches, here, after}

goes_to : (s t : State) → Goes s ≡ Goes t → s ≡ t
goes_to s t e = cc

same_left : (s t : State) (left : ℕ) → s.left ≤ left → Goes s ≡ Goes t → t.left ≤ left
same_left s t left le e = subst (λ (x : State). x.left ≤ left) (goes_to s t e) le

module _ (s t : State) where
  go_on_left : (e : Effect) → go_on s e ≡ Goes t → t.left ≤ s.left
  go_on_left (Leaves stack cells) h = same_left (record s { place = s.place + 1; stack = stack; cells = cells }) t s.left (omega arith) h
  go_on_left (Fails trap) h = cc
  go_on_left LacksToken h = cc
  go_on_left Breaks h = cc

  jump_left : (target : ℕ) (stack : List ℤ) → jump_if_not target s stack ≡ Goes t → t.left ≤ s.left
  jump_left target [] h = cc
  jump_left target (a ∷ stack) h = same_left (record s { place = if is_true a then s.place + 1 else target; stack = stack }) t s.left (omega arith) h

  turn_left : (left : ℕ) → left ≤ s.left → turn s left ≡ Goes t → t.left ≤ s.left
  turn_left zero le h = cc
  turn_left (suc left) le h = same_left (record s { place = s.place + 1; left = left }) t s.left (omega (arith, le)) h

  call_left : (o : Option Routine) → elim o [ None ↦ Stuck | Some routine ↦ Goes (record s { place = routine.start; frames = (s.place + 1) ∷ s.frames }) ] ≡ Goes t → t.left ≤ s.left
  call_left None h = cc
  call_left (Some r) h = same_left (record s { place = r.start; frames = (s.place + 1) ∷ s.frames }) t s.left (omega arith) h

  return_left : (frames : List ℕ) → return s frames ≡ Goes t → t.left ≤ s.left
  return_left [] h = cc
  return_left (place ∷ frames) h = same_left (record s { place = place; frames = frames }) t s.left (omega arith) h

  answer_left : (stack : List ℤ) → answer s stack ≡ Goes t → t.left ≤ s.left
  answer_left [] h = cc
  answer_left (a ∷ stack) h = cc

  module _ (code : Code) (tokens : ℕ → List ℤ) where
    obey_left : (i : Instr) → obey code tokens s i ≡ Goes t → t.left ≤ s.left
    obey_left (op.Jump p) h = same_left (record s { place = p }) t s.left (omega arith) h
    obey_left (op.JumpIfNot p) h = jump_left p s.stack h
    obey_left op.Turn h = turn_left s.left (omega arith) h
    obey_left (op.Call r) h = call_left (slice_get code.routines r) h
    obey_left op.Return h = return_left s.frames h
    obey_left op.Answer h = answer_left s.stack h
    obey_left op.Done h = cc
    obey_left i h = go_on_left (effect tokens i s.stack s.cells) h

    step_left : (o : Option Instr) → elim o [ None ↦ Stuck | Some instr ↦ obey code tokens s instr ] ≡ Goes t → t.left ≤ s.left
    step_left None h = cc
    step_left (Some i) h = obey_left i h

pub reaches_fewer : {code : Code} {tokens : ℕ → List ℤ} {s t : State} → Reaches code tokens s t → t.left ≤ s.left
reaches_fewer here = omega arith
reaches_fewer {code = code} {tokens = tokens} {s = s} (after {t = m} e r) =
    let first : m.left ≤ s.left = step_left s m code tokens (slice_get code.instrs s.place) e in
    let later = reaches_fewer r in
    omega (arith, first, later)
