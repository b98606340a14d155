-- What a state of a run that stands has for its next instruction, and where the step leads.
use Rattle.std.proofs.Common.{◌≡◌, ◌≢◌, ℕ, ◌+◌, ◌<◌, ◌≤◌, refl, sym, ap, ◌∙◌, subst, ℤ, pos, List, [], ◌∷◌, length, arith}
use Rattle.std.specs.Prelude.{Option, None, Some, slice_get, slice_index_or}
use Rattle.std.proofs.lemmas.Option.{slice_get_within, slice_get-get_or}
use Rattle.code_ir.specs.declared.instr.Instr.{Instr}
use Rattle.code_ir.specs.declared.instr.Instr.TheVariants as op
use Rattle.code_ir.specs.declared.outcome.Outcome.{Outcome}
use Rattle.code_ir.specs.Code.{Code}
use Rattle.code_ir.specs.Effect.{LacksToken, effect}
use Rattle.code_ir.specs.declared.instr.Routine.{Routine}
use Rattle.code_ir.specs.Running.{State, Next, Goes, Over, Lacks, Stuck, step, obey, go_on, call, return, Ends, stop, go, Reaches, here, after}
use Rattle.code_ir.specs.Standing.{IsFine, Stands, most_steps}
use Rattle.code_ir.specs.Typing.{NamesCells, pops}
use Rattle.action_machine.specs.declared.registers.Registers.{Registers}
use Rattle.action_machine.specs.Stacks.{top_first}
use Rattle.action_machine.specs.Machine.{IsPlain, IsReady, rises, state_of}
use Rattle.action_machine.proofs.Tops.{top-length}
use Rattle.action_machine.proofs.Room.{operands-enough, operands-fit, depth-fits, room-for, calls-room}

not-stuck : (code : Code) (s : State) (n : Next) → IsFine code s n → n ≢ Stuck
not-stuck code s (Goes t) f e = cc
not-stuck code s (Over o cells) f e = cc
not-stuck code s Lacks f e = cc
not-stuck code s Stuck f e = f

there : (code : Code) (tokens : ℕ → List ℤ) (s : State) (o : Option Instr) → slice_get code.instrs s.place ≡ o → step code tokens s ≢ Stuck → s.place < length code.instrs
there code tokens s None e not = absurd (not (rw (e, step) refl))
there code tokens s (Some i) e not = slice_get_within code.instrs s.place i e

pub place-inside : (code : Code) (tokens : ℕ → List ℤ) (s : State) (operands calls : ℕ) → IsReady code tokens s operands calls → s.place < length code.instrs
place-inside code tokens s operands calls ready =
    there code tokens s (slice_get code.instrs s.place) refl (not-stuck code s (step code tokens s) ready.fine)

pub step-is : (code : Code) (tokens : ℕ → List ℤ) (s : State) (i : Instr) → slice_get code.instrs s.place ≡ Some i → step code tokens s ≡ obey code tokens s i
step-is code tokens s i at = rw (at, step) refl

pub plain-of : (i : Instr) → ((t : ℕ) → i ≢ op.Jump t) → ((t : ℕ) → i ≢ op.JumpIfNot t) → i ≢ op.Turn → ((r : ℕ) → i ≢ op.Call r) → i ≢ op.Return → i ≢ op.Answer → i ≢ op.Done → IsPlain i
plain-of (op.Jump t) jump jump_if_not turn call return answer done = jump t refl
plain-of (op.JumpIfNot t) jump jump_if_not turn call return answer done = jump_if_not t refl
plain-of op.Turn jump jump_if_not turn call return answer done = turn refl
plain-of (op.Call r) jump jump_if_not turn call return answer done = call r refl
plain-of op.Return jump jump_if_not turn call return answer done = return refl
plain-of op.Answer jump jump_if_not turn call return answer done = answer refl
plain-of op.Done jump jump_if_not turn call return answer done = done refl
plain-of i jump jump_if_not turn call return answer done = tt

pub plain-is : (code : Code) (tokens : ℕ → List ℤ) (s : State) (i : Instr) → IsPlain i → obey code tokens s i ≡ go_on s (effect tokens i s.stack s.cells)
plain-is code tokens s (op.Jump t) p = absurd p
plain-is code tokens s (op.JumpIfNot t) p = absurd p
plain-is code tokens s op.Turn p = absurd p
plain-is code tokens s (op.Call r) p = absurd p
plain-is code tokens s op.Return p = absurd p
plain-is code tokens s op.Answer p = absurd p
plain-is code tokens s op.Done p = absurd p
plain-is code tokens s i p = refl

pub token-there : (code : Code) (tokens : ℕ → List ℤ) (s : State) (i : Instr) → slice_get code.instrs s.place ≡ Some i → IsPlain i → step code tokens s ≢ Lacks → effect tokens i s.stack s.cells ≢ LacksToken
token-there code tokens s i at plain not e =
    not (step-is code tokens s i at ∙ plain-is code tokens s i plain ∙ ap (go_on s) e)

-- ---- where a step leads

pub stands-next : (code : Code) (s t : State) (n : Next) → IsFine code s n → n ≡ Goes t → Stands code t
stands-next code s t (Goes u) f e = let same : u ≡ t = cc in subst (Stands code) same f.0
stands-next code s t (Over o cells) f e = cc
stands-next code s t Lacks f e = cc
stands-next code s t Stuck f e = cc

pub nearer-next : (code : Code) (s t : State) (n : Next) → IsFine code s n → n ≡ Goes t → most_steps code t < most_steps code s
nearer-next code s t (Goes u) f e = let same : u ≡ t = cc in subst (λ v. most_steps code v < most_steps code s) same f.1
nearer-next code s t (Over o cells) f e = cc
nearer-next code s t Lacks f e = cc
nearer-next code s t Stuck f e = cc

pub reaches-next : (code : Code) (tokens : ℕ → List ℤ) {s t : State} (u : State) → Reaches code tokens s t → step code tokens t ≡ Goes u → Reaches code tokens s u
reaches-next code tokens u here e = after e here
reaches-next code tokens u (after f r) e = after f (reaches-next code tokens u r e)

pub ends-there : (code : Code) (tokens : ℕ → List ℤ) {s t : State} (o : Outcome) (cells : List ℤ) → Reaches code tokens s t → step code tokens t ≡ Over o cells → Ends code tokens s o cells
ends-there code tokens o cells here e = stop e
ends-there code tokens o cells (after f r) e = go f (ends-there code tokens o cells r e)

-- ---- the instruction at the place

pub instr-is : {code : Code} {tokens : ℕ → List ℤ} {s : State} {operands calls : ℕ} (xs : List Instr) (d i : Instr) → IsReady code tokens s operands calls → xs ≡ code.instrs → slice_index_or xs s.place d ≡ i → slice_get code.instrs s.place ≡ Some i
instr-is {code = code} {tokens = tokens} {s = s} {operands = operands} {calls = calls} xs d i ready same is =
    let h : s.place < length code.instrs = place-inside code tokens s operands calls ready in
    slice_get-get_or code.instrs s.place d h ∙ ap Some (subst (λ ys. slice_index_or ys s.place d ≡ i) same is)

pub place-in-list : {code : Code} {tokens : ℕ → List ℤ} {s : State} {operands calls : ℕ} (xs : List Instr) → IsReady code tokens s operands calls → xs ≡ code.instrs → s.place < length xs
place-in-list {code = code} {tokens = tokens} {s = s} {operands = operands} {calls = calls} xs ready same =
    subst (λ ys. s.place < length ys) (sym same) (place-inside code tokens s operands calls ready)

pub call-is : (code : Code) (r : ℕ) (s : State) (x : Routine) → slice_get code.routines r ≡ Some x → call code r s ≡ Goes (record s { place = x.start; frames = (s.place + 1) ∷ s.frames })
call-is code r s x e = rw (e, call) refl

return-some : (s : State) (frames : List ℕ) → return s frames ≢ Stuck → 0 < length frames
return-some s [] not = absurd (not refl)
return-some s (f ∷ frames) not = omega arith

module _ (code : Code) (tokens : ℕ → List ℤ) (at : Registers) (stack : List ℤ) (frames : List ℕ) (cells : List ℤ) (i : Instr) (ready : IsReady code tokens (state_of at stack frames cells) (length stack) (length frames)) (here_is : slice_get code.instrs at.place ≡ Some i) where
  pub top-fits : at.top ≤ length stack
  top-fits =
      let h : length (top_first (pos 0) at.top stack) ≤ length stack = operands-fit code (state_of at stack frames cells) i (length stack) (length frames) ready.admitted ready.stands ready.room here_is in
      let n : length (top_first (pos 0) at.top stack) ≡ at.top = top-length (pos 0) at.top stack in
      omega (arith, h, n)

  pub top-enough : pops i ≤ at.top
  top-enough =
      let h : pops i ≤ length (top_first (pos 0) at.top stack) = operands-enough code (state_of at stack frames cells) i (length stack) (length frames) ready.admitted ready.stands ready.room here_is in
      let n : length (top_first (pos 0) at.top stack) ≡ at.top = top-length (pos 0) at.top stack in
      omega (arith, h, n)

  pub top-room : rises i + at.top ≤ length stack
  top-room =
      let h : rises i + length (top_first (pos 0) at.top stack) ≤ length stack = room-for code (state_of at stack frames cells) i (length stack) (length frames) ready.admitted ready.stands ready.room here_is in
      let n : length (top_first (pos 0) at.top stack) ≡ at.top = top-length (pos 0) at.top stack in
      omega (arith, h, n)

  pub frames-fit : at.depth ≤ length frames
  frames-fit =
      let h : length (top_first 0 at.depth frames) ≤ length frames = depth-fits code (state_of at stack frames cells) (length stack) (length frames) ready.stands ready.room in
      let n : length (top_first 0 at.depth frames) ≡ at.depth = top-length 0 at.depth frames in
      omega (arith, h, n)

  pub cells-named : NamesCells (length cells) i
  cells-named = subst (λ n. NamesCells n i) (sym ready.stands.cells) (ready.admitted.typed at.place i here_is).alone.cells

pub frames-some : (code : Code) (tokens : ℕ → List ℤ) (at : Registers) (stack : List ℤ) (frames : List ℕ) (cells : List ℤ) → IsReady code tokens (state_of at stack frames cells) (length stack) (length frames) → slice_get code.instrs at.place ≡ Some op.Return → 0 < at.depth
frames-some code tokens at stack frames cells ready here_is =
    let s : State = state_of at stack frames cells in
    let some : 0 < length (top_first 0 at.depth frames) = return-some s (top_first 0 at.depth frames) (λ e. not-stuck code s (step code tokens s) ready.fine (step-is code tokens s op.Return here_is ∙ e)) in
    let n : length (top_first 0 at.depth frames) ≡ at.depth = top-length 0 at.depth frames in
    omega (arith, some, n)

pub call-fits : (code : Code) (tokens : ℕ → List ℤ) (at : Registers) (stack : List ℤ) (frames : List ℕ) (cells : List ℤ) (r : ℕ) → IsReady code tokens (state_of at stack frames cells) (length stack) (length frames) → slice_get code.instrs at.place ≡ Some (op.Call r) → (at.depth < length frames) × (r < length code.routines)
call-fits code tokens at stack frames cells r ready here_is =
    let both : (length (top_first 0 at.depth frames) < length frames) × (r < length code.routines) = calls-room code (state_of at stack frames cells) r (length stack) (length frames) ready.admitted ready.stands ready.room here_is in
    let n : length (top_first 0 at.depth frames) ≡ at.depth = top-length 0 at.depth frames in
    (subst (λ k. k < length frames) n both.0, both.1)
