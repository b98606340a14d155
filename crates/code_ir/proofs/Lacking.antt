-- A step of code whose tokens are there lacks none.
use Rattle.std.proofs.Common.{◌≡◌, ◌≢◌, ℕ, zero, suc, ◌+◌, ◌*◌, ◌<◌, ◌≤◌, refl, sym, subst, ℤ, pos, negsuc, not, leb, List, [], ◌∷◌, length, set, arith}
use Rattle.std.specs.Prelude.{Option, None, Some, slice_get}
use Rattle.rvc_base.specs.declared.trap.Trap.TheVariants.{IndexRange}
use Rattle.rvc_base.specs.Arithmetic.{Computed, Gives, Traps, add, sub, mul, neg, div, rem, shl, shr, bit_and, bit_or, bit_xor, bit_not, truth, is_equal, is_below, is_true}
use Rattle.code_ir.specs.declared.instr.Instr.{Instr}
use Rattle.code_ir.specs.declared.instr.Instr.TheVariants as op
use Rattle.code_ir.specs.declared.instr.Routine.{Routine}
use Rattle.code_ir.specs.Code.{Code}
use Rattle.code_ir.specs.Effect.{Effect, Leaves, Fails, LacksToken, Breaks, effect, pop, pop_two, with_cells, with_offset, push_computed, push_token, on_top, on_two, leave_taken, taken}
use Rattle.code_ir.specs.Reading.{AllNameTokens, AreBelow, NamesTokens}
use Rattle.code_ir.specs.Running.{State, Goes, Lacks, Stuck, step, obey, go_on, jump_if_not, turn, call, return, answer, HasItsTokens}
use Rattle.code_ir.proofs.Bodies.{found}
use Rattle.code_ir.proofs.Effects.{chosen, test-le}

-- the effect lacks no token
abbrev pub IsThere : Effect → Type 0
IsThere (Leaves stack cells) = Unit {0}
IsThere (Fails trap) = Unit {0}
IsThere LacksToken = ⊥
IsThere Breaks = Unit {0}

pop-there : (stack : List ℤ) (next : ℤ → List ℤ → Effect) → ((a : ℤ) (s : List ℤ) → IsThere (next a s)) → IsThere (pop stack next)
pop-there [] next there = tt
pop-there (a ∷ s) next there = there a s

pop_two-there : (stack : List ℤ) (next : ℤ → ℤ → List ℤ → Effect) → ((a b : ℤ) (s : List ℤ) → IsThere (next a b s)) → IsThere (pop_two stack next)
pop_two-there [] next there = tt
pop_two-there (b ∷ []) next there = tt
pop_two-there (b ∷ a ∷ s) next there = there a b s

with_cells-there : (cells : List ℤ) (c m : ℕ) (e : Effect) → IsThere e → IsThere (with_cells cells c m e)
with_cells-there cells c m e there = chosen IsThere (leb (c + m) (length cells)) e Breaks (λ _. there) (λ _. tt)

with_offset-there : (o : ℤ) (m n : ℕ) (next : ℕ → Effect) → ((j : ℕ) → j + m ≤ n → IsThere (next j)) → IsThere (with_offset o m n next)
with_offset-there (pos o) m n next there =
    chosen IsThere (leb (o + m) n) (next o) (Fails IndexRange) (λ e. there o (test-le (o + m) n e)) (λ _. tt)
with_offset-there (negsuc o) m n next there = tt

push_computed-there : (v : Computed) (stack cells : List ℤ) → IsThere (push_computed v stack cells)
push_computed-there (Gives v) stack cells = tt
push_computed-there (Traps trap) stack cells = tt

on_top-there : (f : ℤ → Computed) (stack cells : List ℤ) → IsThere (on_top f stack cells)
on_top-there f stack cells = pop-there stack _ (λ a s. push_computed-there (f a) s cells)

on_two-there : (f : ℤ → ℤ → Computed) (stack cells : List ℤ) → IsThere (on_two f stack cells)
on_two-there f stack cells = pop_two-there stack _ (λ a b s. push_computed-there (f a b) s cells)

push_token-there : (tokens : List ℤ) (k : ℕ) (stack cells : List ℤ) → k < length tokens → IsThere (push_token (slice_get tokens k) stack cells)
push_token-there tokens k stack cells inside =
    let there : (v : ℤ) × (slice_get tokens k ≡ Some v) = found tokens k inside in
    subst (λ o. IsThere (push_token o stack cells)) (sym there.1) tt

taken-there : (stack : List ℤ) (tokens : List ℤ) (d k m n : ℕ) (cells : List ℤ) → AreBelow (length tokens) k m n → IsThere (leave_taken stack (taken tokens d k m n cells))
taken-there stack tokens d k m zero cells below = tt
taken-there stack tokens d k m (suc n) cells below =
    let first : k + 0 * m < length tokens = below 0 (omega arith) in
    let there : (v : ℤ) × (slice_get tokens k ≡ Some v) = found tokens k (omega (arith, first)) in
    subst (λ o. IsThere (leave_taken stack (elim o [ None ↦ None | Some v ↦ taken tokens (d + 1) (k + m) m n (set cells d v) ]))) (sym there.1)
    (taken-there stack tokens (d + 1) (k + m) m n (set cells d there.0) (λ i less. let e : k + suc i * m < length tokens = below (suc i) (omega arith) in omega (arith, e)))

effect-there : (tokens : ℕ → List ℤ) (i : Instr) (stack cells : List ℤ) → NamesTokens tokens i → IsThere (effect tokens i stack cells)
effect-there tokens (op.Const v) stack cells n = tt
effect-there tokens (op.Load c) stack cells n = with_cells-there cells c 1 _ tt
effect-there tokens (op.Store c t) stack cells n = pop-there stack _ (λ v s. with_cells-there cells c 1 _ tt)
effect-there tokens (op.Index k m) stack cells n =
    pop_two-there stack _ (λ o i s. with_offset-there i 1 k _ (λ j _. push_computed-there _ s cells))
effect-there tokens (op.LoadAt c k) stack cells n =
    pop-there stack _ (λ o s. with_offset-there o 1 k _ (λ j _. with_cells-there cells (c + j) 1 _ tt))
effect-there tokens (op.StoreAt c k t) stack cells n =
    pop_two-there stack _ (λ o v s. with_offset-there o 1 k _ (λ j _. with_cells-there cells (c + j) 1 _ tt))
effect-there tokens (op.Copy d s k t) stack cells n = with_cells-there cells d k _ (with_cells-there cells s k _ tt)
effect-there tokens (op.CopyTo d k s m t) stack cells n =
    pop-there stack _ (λ o st. with_offset-there o m k _ (λ j _. with_cells-there cells (d + j) m _ (with_cells-there cells s m _ tt)))
effect-there tokens (op.CopyFrom d s k m) stack cells n =
    pop-there stack _ (λ o st. with_offset-there o m k _ (λ j _. with_cells-there cells d m _ (with_cells-there cells (s + j) m _ tt)))
effect-there tokens (op.Token p k) stack cells n = push_token-there (tokens p) k stack cells n
effect-there tokens (op.TokenAt p k m c) stack cells n =
    pop-there stack _ (λ i s. with_offset-there i 1 c _ (λ j below. push_token-there (tokens p) (k + j * m) s cells (n j (omega (arith, below)))))
effect-there tokens (op.TokenList d p k m c) stack cells n =
    with_cells-there cells d c _ (taken-there stack (tokens p) d k m c cells n)
effect-there tokens (op.Zero c k) stack cells n = with_cells-there cells c k _ tt
effect-there tokens op.Neg stack cells n = on_top-there neg stack cells
effect-there tokens op.BitNot stack cells n = on_top-there (λ a. Gives (bit_not a)) stack cells
effect-there tokens op.Not stack cells n = on_top-there (λ a. Gives (truth (not (is_true a)))) stack cells
effect-there tokens op.Add stack cells n = on_two-there add stack cells
effect-there tokens op.Sub stack cells n = on_two-there sub stack cells
effect-there tokens op.Mul stack cells n = on_two-there mul stack cells
effect-there tokens op.Div stack cells n = on_two-there div stack cells
effect-there tokens op.Mod stack cells n = on_two-there rem stack cells
effect-there tokens op.Shl stack cells n = on_two-there shl stack cells
effect-there tokens op.Shr stack cells n = on_two-there shr stack cells
effect-there tokens op.And stack cells n = on_two-there (λ a b. Gives (bit_and a b)) stack cells
effect-there tokens op.Or stack cells n = on_two-there (λ a b. Gives (bit_or a b)) stack cells
effect-there tokens op.Xor stack cells n = on_two-there (λ a b. Gives (bit_xor a b)) stack cells
effect-there tokens op.Eq stack cells n = on_two-there (λ a b. Gives (truth (is_equal a b))) stack cells
effect-there tokens op.Ne stack cells n = on_two-there (λ a b. Gives (truth (not (is_equal a b)))) stack cells
effect-there tokens op.Lt stack cells n = on_two-there (λ a b. Gives (truth (is_below a b))) stack cells
effect-there tokens op.Le stack cells n = on_two-there (λ a b. Gives (truth (not (is_below b a)))) stack cells
effect-there tokens op.Gt stack cells n = on_two-there (λ a b. Gives (truth (is_below b a))) stack cells
effect-there tokens op.Ge stack cells n = on_two-there (λ a b. Gives (truth (not (is_below a b)))) stack cells
effect-there tokens op.Drop stack cells n = pop-there stack _ (λ a s. tt)
effect-there tokens (op.Jump t) stack cells n = tt
effect-there tokens (op.JumpIfNot t) stack cells n = tt
effect-there tokens op.Turn stack cells n = tt
effect-there tokens (op.Call r) stack cells n = tt
effect-there tokens op.Return stack cells n = tt
effect-there tokens op.Answer stack cells n = tt
effect-there tokens op.Done stack cells n = tt

go_on-there : (s : State) (e : Effect) → IsThere e → go_on s e ≢ Lacks
go_on-there s (Leaves stack cells) there = λ e. cc
go_on-there s (Fails trap) there = λ e. cc
go_on-there s LacksToken there = λ e. there
go_on-there s Breaks there = λ e. cc

jump_if_not-there : (t : ℕ) (s : State) (stack : List ℤ) → jump_if_not t s stack ≢ Lacks
jump_if_not-there t s [] = λ e. cc
jump_if_not-there t s (a ∷ stack) = λ e. cc

turn-there : (s : State) (left : ℕ) → turn s left ≢ Lacks
turn-there s zero = λ e. cc
turn-there s (suc left) = λ e. cc

return-there : (s : State) (frames : List ℕ) → return s frames ≢ Lacks
return-there s [] = λ e. cc
return-there s (p ∷ frames) = λ e. cc

answer-there : (s : State) (stack : List ℤ) → answer s stack ≢ Lacks
answer-there s [] = λ e. cc
answer-there s (a ∷ stack) = λ e. cc

call-there : (code : Code) (r : ℕ) (s : State) → call code r s ≢ Lacks
call-there code r s e = by-routine (slice_get code.routines r) e
  where
    by-routine : (o : Option Routine) → elim o [ None ↦ Stuck | Some routine ↦ Goes (record s { place = routine.start; frames = (s.place + 1) ∷ s.frames }) ] ≢ Lacks
    by-routine None = λ e. cc
    by-routine (Some routine) = λ e. cc

obey-there : (code : Code) (tokens : ℕ → List ℤ) (s : State) (i : Instr) → NamesTokens tokens i → obey code tokens s i ≢ Lacks
obey-there code tokens s (op.Jump t) n = λ e. cc
obey-there code tokens s (op.JumpIfNot t) n = jump_if_not-there t s s.stack
obey-there code tokens s op.Turn n = turn-there s s.left
obey-there code tokens s (op.Call r) n = call-there code r s
obey-there code tokens s op.Return n = return-there s s.frames
obey-there code tokens s op.Answer n = answer-there s s.stack
obey-there code tokens s op.Done n = λ e. cc
obey-there code tokens s i n = go_on-there s (effect tokens i s.stack s.cells) (effect-there tokens i s.stack s.cells n)

step-there : (code : Code) (tokens : ℕ → List ℤ) (s : State) → AllNameTokens tokens code.instrs → step code tokens s ≢ Lacks
step-there code tokens s all = at-instr (slice_get code.instrs s.place) refl
  where
    at-instr : (o : Option Instr) → slice_get code.instrs s.place ≡ o → elim o [ None ↦ Stuck | Some instr ↦ obey code tokens s instr ] ≢ Lacks
    at-instr None at = λ e. cc
    at-instr (Some i) at = obey-there code tokens s i (all s.place i at)

pub all-read : (code : Code) (tokens : ℕ → List ℤ) → AllNameTokens tokens code.instrs → (entry : ℕ) (cells : List ℤ) → HasItsTokens code entry cells tokens
all-read code tokens all entry cells = λ s reached. step-there code tokens s all
