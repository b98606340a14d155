-- What one instruction makes of the stack and the cells.
-- Trusted: part of what a promise means.
use Rattle.std.specs.Prelude.{ℕ, zero, suc, ◌+◌, ◌*◌, nat_le, ℤ, pos, negsuc, ◌+ℤ◌, not, if◌then◌else◌, List, [], ◌∷◌, length, Option, None, Some, slice_get, slice_set, slice_index_or}
use Rattle.rvc_base.specs.declared.scalar.Scalar.{Scalar}
use Rattle.rvc_base.specs.declared.trap.Trap.{Trap}
use Rattle.rvc_base.specs.declared.trap.Trap.TheVariants.{IndexRange}
use Rattle.rvc_base.specs.Storing.{conv}
use Rattle.rvc_base.specs.Arithmetic.{Computed, Gives, Traps, whole, add, sub, mul, neg, div, rem, shl, shr, bit_and, bit_or, bit_xor, bit_not, truth, is_equal, is_below, is_true}
use Rattle.code_ir.specs.declared.instr.Instr.{Instr}
use Rattle.code_ir.specs.declared.instr.Instr.TheVariants as op

pub data Effect : Type 0 where
  -- the stack, with its top first, and the cells
  Leaves : List ℤ → List ℤ → Effect
  Fails : Trap → Effect
  -- a token is read that isn't there
  LacksToken : Effect
  -- an operand is missing, or a cell outside is named
  Breaks : Effect

-- a number in the type in which it is stored
abbrev pub stored : Option Scalar → ℤ → ℤ
stored None v = v
stored (Some t) v = conv t v

-- ---- operands and cells

abbrev pub pop : List ℤ → (ℤ → List ℤ → Effect) → Effect
pop [] next = Breaks
pop (a ∷ stack) next = next a stack

-- the left operand, and the right one above it
abbrev pub pop_two : List ℤ → (ℤ → ℤ → List ℤ → Effect) → Effect
pop_two [] next = Breaks
pop_two (b ∷ []) next = Breaks
pop_two (b ∷ a ∷ stack) next = next a b stack

-- n cells from c on are there
abbrev pub with_cells : List ℤ → ℕ → ℕ → Effect → Effect
with_cells cells c n effect = if nat_le (c + n) (length cells) then effect else Breaks

abbrev pub cell : List ℤ → ℕ → ℤ
cell cells c = slice_index_or cells c (pos 0)

-- an offset at which m of n elements stand
abbrev pub with_offset : ℤ → ℕ → ℕ → (ℕ → Effect) → Effect
with_offset (pos o) m n next = if nat_le (o + m) n then next o else Fails IndexRange
with_offset (negsuc o) m n next = Fails IndexRange

abbrev pub push_computed : Computed → List ℤ → List ℤ → Effect
push_computed (Gives v) stack cells = Leaves (v ∷ stack) cells
push_computed (Traps trap) stack cells = Fails trap

-- ---- ranges of cells

-- n cells from s on go to those from d on, in order from the first: if the ranges overlap, a cell that was
-- written is read as written
abbrev pub copied : Option Scalar → ℕ → ℕ → ℕ → List ℤ → List ℤ
copied t d s zero cells = cells
copied t d s (suc n) cells =
    copied t (d + 1) (s + 1) n (slice_set cells d (stored t (cell cells s)))

abbrev pub zeroed : ℕ → ℕ → List ℤ → List ℤ
zeroed c zero cells = cells
zeroed c (suc n) cells = zeroed (c + 1) n (slice_set cells c (pos 0))

abbrev pub push_token : Option ℤ → List ℤ → List ℤ → Effect
push_token None stack cells = LacksToken
push_token (Some v) stack cells = Leaves (v ∷ stack) cells

-- the tokens k, k + m and so on, n of them, go to the cells from d on; none if one isn't there
abbrev pub taken : List ℤ → ℕ → ℕ → ℕ → ℕ → List ℤ → Option (List ℤ)
taken tokens d k m zero cells = Some cells
taken tokens d k m (suc n) cells = elim (slice_get tokens k)
    [ None ↦ None | Some v ↦ taken tokens (d + 1) (k + m) m n (slice_set cells d v) ]

abbrev pub leave_taken : List ℤ → Option (List ℤ) → Effect
leave_taken stack None = LacksToken
leave_taken stack (Some cells) = Leaves stack cells

-- ---- operations

abbrev pub on_top : (ℤ → Computed) → List ℤ → List ℤ → Effect
on_top f stack cells = pop stack (λ a s. push_computed (f a) s cells)

abbrev pub on_two : (ℤ → ℤ → Computed) → List ℤ → List ℤ → Effect
on_two f stack cells = pop_two stack (λ a b s. push_computed (f a b) s cells)

-- What an instruction makes of the stack and the cells, given the tokens of each port. Instructions that go
-- elsewhere than to the next place aren't among them.
abbrev pub effect : (ℕ → List ℤ) → Instr → List ℤ → List ℤ → Effect
effect tokens (op.Const v) stack cells = Leaves (v ∷ stack) cells
effect tokens (op.Load c) stack cells = with_cells cells c 1 (Leaves (cell cells c ∷ stack) cells)
effect tokens (op.Store c t) stack cells = pop stack
    (λ v s. with_cells cells c 1 (Leaves s (slice_set cells c (stored t v))))
effect tokens (op.Index n m) stack cells = pop_two stack
    (λ o i s. with_offset i 1 n (λ k. push_computed (whole (o +ℤ pos (k * m))) s cells))
effect tokens (op.LoadAt c n) stack cells = pop stack
    (λ o s. with_offset o 1 n (λ k. with_cells cells (c + k) 1
    (Leaves (cell cells (c + k) ∷ s) cells)))
effect tokens (op.StoreAt c n t) stack cells = pop_two stack
    (λ o v s. with_offset o 1 n (λ k. with_cells cells (c + k) 1
    (Leaves s (slice_set cells (c + k) (stored t v)))))
effect tokens (op.Copy d s n t) stack cells =
    with_cells cells d n (with_cells cells s n (Leaves stack (copied t d s n cells)))
effect tokens (op.CopyTo d n s m t) stack cells = pop stack
    (λ o st. with_offset o m n (λ k. with_cells cells (d + k) m
    (with_cells cells s m (Leaves st (copied t (d + k) s m cells)))))
effect tokens (op.CopyFrom d s n m) stack cells = pop stack
    (λ o st. with_offset o m n (λ k. with_cells cells d m
    (with_cells cells (s + k) m (Leaves st (copied None d (s + k) m cells)))))
effect tokens (op.Token p k) stack cells = push_token (slice_get (tokens p) k) stack cells
effect tokens (op.TokenAt p k m n) stack cells = pop stack
    (λ i s. with_offset i 1 n (λ j. push_token (slice_get (tokens p) (k + j * m)) s cells))
effect tokens (op.TokenList d p k m n) stack cells =
    with_cells cells d n (leave_taken stack (taken (tokens p) d k m n cells))
effect tokens (op.Zero c n) stack cells = with_cells cells c n (Leaves stack (zeroed c n cells))
effect tokens op.Neg stack cells = on_top neg stack cells
effect tokens op.BitNot stack cells = on_top (λ a. Gives (bit_not a)) stack cells
effect tokens op.Not stack cells = on_top (λ a. Gives (truth (not (is_true a)))) stack cells
effect tokens op.Add stack cells = on_two add stack cells
effect tokens op.Sub stack cells = on_two sub stack cells
effect tokens op.Mul stack cells = on_two mul stack cells
effect tokens op.Div stack cells = on_two div stack cells
effect tokens op.Mod stack cells = on_two rem stack cells
effect tokens op.Shl stack cells = on_two shl stack cells
effect tokens op.Shr stack cells = on_two shr stack cells
effect tokens op.And stack cells = on_two (λ a b. Gives (bit_and a b)) stack cells
effect tokens op.Or stack cells = on_two (λ a b. Gives (bit_or a b)) stack cells
effect tokens op.Xor stack cells = on_two (λ a b. Gives (bit_xor a b)) stack cells
effect tokens op.Eq stack cells = on_two (λ a b. Gives (truth (is_equal a b))) stack cells
effect tokens op.Ne stack cells = on_two (λ a b. Gives (truth (not (is_equal a b)))) stack cells
effect tokens op.Lt stack cells = on_two (λ a b. Gives (truth (is_below a b))) stack cells
effect tokens op.Le stack cells = on_two (λ a b. Gives (truth (not (is_below b a)))) stack cells
effect tokens op.Gt stack cells = on_two (λ a b. Gives (truth (is_below b a))) stack cells
effect tokens op.Ge stack cells = on_two (λ a b. Gives (truth (not (is_below a b)))) stack cells
effect tokens op.Drop stack cells = pop stack (λ a s. Leaves s cells)
effect tokens (op.Jump t) stack cells = Breaks
effect tokens (op.JumpIfNot t) stack cells = Breaks
effect tokens op.Turn stack cells = Breaks
effect tokens (op.Call r) stack cells = Breaks
effect tokens op.Return stack cells = Breaks
effect tokens op.Answer stack cells = Breaks
effect tokens op.Done stack cells = Breaks
