-- An instruction that has its operands and whose cells are there breaks nothing, and leaves the height that
-- the typing lines count.
use Rattle.std.proofs.Common.{◌≡◌, ℕ, zero, suc, ◌+◌, ◌-◌, ◌*◌, ◌<◌, ◌≤◌, refl, ◌∙◌, ℤ, pos, negsuc, Bool, true, false, not, leb, List, [], ◌∷◌, length, set, arith}
use Rattle.std.specs.Prelude.{Option, None, Some, slice_get, if◌then◌else◌}
use Rattle.std.proofs.lemmas.List.{length-set}
use Rattle.std.proofs.lemmas.Bool.Decides.{nat_tests}
use Rattle.rvc_base.specs.declared.scalar.Scalar.{Scalar}
use Rattle.rvc_base.specs.declared.trap.Trap.TheVariants.{IndexRange}
use Rattle.rvc_base.specs.Arithmetic.{Computed, Gives, Traps, add, sub, mul, neg, div, rem, shl, shr, bit_and, bit_or, bit_xor, bit_not, truth, is_equal, is_below, is_true}
use Rattle.code_ir.specs.declared.instr.Instr.{Instr}
use Rattle.code_ir.specs.declared.instr.Instr.TheVariants as op
use Rattle.code_ir.specs.Code.{Code}
use Rattle.code_ir.specs.Effect.{Effect, Leaves, Fails, LacksToken, Breaks, effect, stored, cell, pop, pop_two, with_cells, with_offset, push_computed, push_token, on_top, on_two, leave_taken, copied, zeroed, taken}
use Rattle.code_ir.specs.Typing.{pops, pushes, NamesCells}

-- the effect leaves h operands and n cells, or fails as a run may
abbrev pub IsGood : ℕ → ℕ → Effect → Type 0
IsGood h n (Leaves stack cells) = (length stack ≡ h) × (length cells ≡ n)
IsGood h n (Fails trap) = Unit {0}
IsGood h n LacksToken = Unit {0}
IsGood h n Breaks = ⊥

pop-good : (h n : ℕ) (stack : List ℤ) (next : ℤ → List ℤ → Effect) → 1 ≤ length stack → ((a : ℤ) (s : List ℤ) → length stack ≡ suc (length s) → IsGood h n (next a s)) → IsGood h n (pop stack next)
pop-good h n [] next some good = absurd (omega (arith, some))
pop-good h n (a ∷ s) next some good = good a s refl

pop_two-good : (h n : ℕ) (stack : List ℤ) (next : ℤ → ℤ → List ℤ → Effect) → 2 ≤ length stack → ((a b : ℤ) (s : List ℤ) → length stack ≡ suc (suc (length s)) → IsGood h n (next a b s)) → IsGood h n (pop_two stack next)
pop_two-good h n [] next some good = absurd (omega (arith, some))
pop_two-good h n (b ∷ []) next some good = absurd (omega (arith, some))
pop_two-good h n (b ∷ a ∷ s) next some good = good a b s refl

pub le-test : (a b : ℕ) → a ≤ b → leb a b ≡ true
le-test a b h = grind (arith, nat_tests)

with_cells-good : (h n : ℕ) (cells : List ℤ) (c m : ℕ) (e : Effect) → c + m ≤ length cells → IsGood h n e → IsGood h n (with_cells cells c m e)
with_cells-good h n cells c m e inside good = rw (le-test (c + m) (length cells) inside) good

pub chosen : {X : Type 0} (P : X → Type 0) (b : Bool) (x y : X) → (b ≡ true → P x) → (b ≡ false → P y) → P (if b then x else y)
chosen P true x y p q = p refl
chosen P false x y p q = q refl

pub test-le : (a b : ℕ) → leb a b ≡ true → a ≤ b
test-le a b h = grind (arith, nat_tests)

pub test-lt : (a b : ℕ) → leb a b ≡ false → b < a
test-lt a b h = grind (arith, nat_tests)

by-test : {P : Type 0} (a b : ℕ) (t : Bool) → leb a b ≡ t → (a ≤ b → P) → (b < a → P) → P
by-test a b true e p q = p (test-le a b e)
by-test a b false e p q = q (test-lt a b e)

-- of two numbers either is the lesser
pub by-le : {P : Type 0} (a b : ℕ) → (a ≤ b → P) → (b < a → P) → P
by-le a b p q = by-test a b (leb a b) refl p q

with_offset-good : (h n : ℕ) (o : ℤ) (m k : ℕ) (next : ℕ → Effect) → ((j : ℕ) → j + m ≤ k → IsGood h n (next j)) → IsGood h n (with_offset o m k next)
with_offset-good h n (pos o) m k next good =
    chosen (IsGood h n) (leb (o + m) k) (next o) (Fails IndexRange) (λ e. good o (test-le (o + m) k e)) (λ _. tt)
with_offset-good h n (negsuc o) m k next good = tt

push_computed-good : (h n : ℕ) (v : Computed) (stack cells : List ℤ) → suc (length stack) ≡ h → length cells ≡ n → IsGood h n (push_computed v stack cells)
push_computed-good h n (Gives v) stack cells e f = (e, f)
push_computed-good h n (Traps trap) stack cells e f = tt

push_token-good : (h n : ℕ) (v : Option ℤ) (stack cells : List ℤ) → suc (length stack) ≡ h → length cells ≡ n → IsGood h n (push_token v stack cells)
push_token-good h n None stack cells e f = tt
push_token-good h n (Some v) stack cells e f = (e, f)

copied-length : (t : Option Scalar) (d s n : ℕ) (cells : List ℤ) → length (copied t d s n cells) ≡ length cells
copied-length t d s zero cells = refl
copied-length t d s (suc n) cells = copied-length t (d + 1) (s + 1) n (set cells d (stored t (cell cells s))) ∙ length-set cells d (stored t (cell cells s))

zeroed-length : (c n : ℕ) (cells : List ℤ) → length (zeroed c n cells) ≡ length cells
zeroed-length c zero cells = refl
zeroed-length c (suc n) cells = zeroed-length (c + 1) n (set cells c (pos 0)) ∙ length-set cells c (pos 0)

taken-one : (h m : ℕ) (stack : List ℤ) (o : Option ℤ) (more : ℤ → Option (List ℤ)) → ((v : ℤ) → IsGood h m (leave_taken stack (more v))) → IsGood h m (leave_taken stack (elim o [ None ↦ None | Some v ↦ more v ]))
taken-one h m stack None more good = tt
taken-one h m stack (Some v) more good = good v

taken-good : (h m : ℕ) (stack : List ℤ) (tokens : List ℤ) (d k step n : ℕ) (cells : List ℤ) → length stack ≡ h → length cells ≡ m → IsGood h m (leave_taken stack (taken tokens d k step n cells))
taken-good h m stack tokens d k step zero cells e f = (e, f)
taken-good h m stack tokens d k step (suc n) cells e f =
    taken-one h m stack (slice_get tokens k) (λ v. taken tokens (d + 1) (k + step) step n (set cells d v)) (λ v. taken-good h m stack tokens (d + 1) (k + step) step n (set cells d v) e (length-set cells d v ∙ f))

on_top-good : (f : ℤ → Computed) (stack cells : List ℤ) → 1 ≤ length stack → IsGood (length stack - 1 + 1) (length cells) (on_top f stack cells)
on_top-good f stack cells some =
    pop-good (length stack - 1 + 1) (length cells) stack _ some (λ a s e. push_computed-good _ _ (f a) s cells (omega (arith, e)) refl)

on_two-good : (f : ℤ → ℤ → Computed) (stack cells : List ℤ) → 2 ≤ length stack → IsGood (length stack - 2 + 1) (length cells) (on_two f stack cells)
on_two-good f stack cells some =
    pop_two-good (length stack - 2 + 1) (length cells) stack _ some (λ a b s e. push_computed-good _ _ (f a b) s cells (omega (arith, e)) refl)

-- the instructions that go to the next place
abbrev pub is_straight : Instr → Bool
is_straight (op.Jump t) = false
is_straight (op.JumpIfNot t) = false
is_straight op.Turn = false
is_straight (op.Call r) = false
is_straight op.Return = false
is_straight op.Answer = false
is_straight op.Done = false
is_straight instr = true

pub effect-good : (code : Code) (tokens : ℕ → List ℤ) (i : Instr) (stack cells : List ℤ) → is_straight i ≡ true → pops i ≤ length stack → NamesCells (length cells) i → IsGood (length stack - pops i + pushes code i) (length cells) (effect tokens i stack cells)
effect-good code tokens (op.Const v) stack cells s p c = (omega arith, refl)
effect-good code tokens (op.Load c) stack cells s p inside =
    with_cells-good _ _ cells c 1 _ inside (omega arith, refl)
effect-good code tokens (op.Store c t) stack cells s p inside =
    pop-good _ _ stack _ p (λ v s e. with_cells-good _ _ cells c 1 _ inside (omega (arith, e), length-set cells c (stored t v)))
effect-good code tokens (op.Index n m) stack cells s p inside =
    pop_two-good _ _ stack _ p (λ o i s e. with_offset-good _ _ i 1 n _ (λ k below. push_computed-good _ _ _ s cells (omega (arith, e)) refl))
effect-good code tokens (op.LoadAt c n) stack cells s p inside =
    pop-good _ _ stack _ p (λ o s e. with_offset-good _ _ o 1 n _ (λ k below. with_cells-good _ _ cells (c + k) 1 _ (omega (arith, inside, below)) (omega (arith, e), refl)))
effect-good code tokens (op.StoreAt c n t) stack cells s p inside =
    pop_two-good _ _ stack _ p (λ o v s e. with_offset-good _ _ o 1 n _ (λ k below. with_cells-good _ _ cells (c + k) 1 _ (omega (arith, inside, below)) (omega (arith, e), length-set cells (c + k) (stored t v))))
effect-good code tokens (op.Copy d s n t) stack cells q p inside =
    with_cells-good _ _ cells d n _ inside.0 (with_cells-good _ _ cells s n _ inside.1 (omega arith, copied-length t d s n cells))
effect-good code tokens (op.CopyTo d n s m t) stack cells q p inside =
    pop-good _ _ stack _ p (λ o st e. with_offset-good _ _ o m n _ (λ k below. with_cells-good _ _ cells (d + k) m _ (omega (arith, inside.0, below)) (with_cells-good _ _ cells s m _ inside.1 (omega (arith, e), copied-length t (d + k) s m cells))))
effect-good code tokens (op.CopyFrom d s n m) stack cells q p inside =
    pop-good _ _ stack _ p (λ o st e. with_offset-good _ _ o m n _ (λ k below. with_cells-good _ _ cells d m _ inside.0 (with_cells-good _ _ cells (s + k) m _ (omega (arith, inside.1, below)) (omega (arith, e), copied-length None d (s + k) m cells))))
effect-good code tokens (op.Token p k) stack cells s q c = push_token-good _ _ (slice_get (tokens p) k) stack cells (omega arith) refl
effect-good code tokens (op.TokenAt p k m n) stack cells s q c =
    pop-good _ _ stack _ q (λ i s e. with_offset-good _ _ i 1 n _ (λ j below. push_token-good _ _ (slice_get (tokens p) (k + j * m)) s cells (omega (arith, e)) refl))
effect-good code tokens (op.TokenList d p k m n) stack cells s q inside =
    with_cells-good _ _ cells d n _ inside (taken-good _ _ stack (tokens p) d k m n cells (omega arith) refl)
effect-good code tokens (op.Zero c n) stack cells s q inside = with_cells-good _ _ cells c n _ inside (omega arith, zeroed-length c n cells)
effect-good code tokens op.Neg stack cells s p c = on_top-good neg stack cells p
effect-good code tokens op.BitNot stack cells s p c = on_top-good (λ a. Gives (bit_not a)) stack cells p
effect-good code tokens op.Not stack cells s p c = on_top-good (λ a. Gives (truth (not (is_true a)))) stack cells p
effect-good code tokens op.Add stack cells s p c = on_two-good add stack cells p
effect-good code tokens op.Sub stack cells s p c = on_two-good sub stack cells p
effect-good code tokens op.Mul stack cells s p c = on_two-good mul stack cells p
effect-good code tokens op.Div stack cells s p c = on_two-good div stack cells p
effect-good code tokens op.Mod stack cells s p c = on_two-good rem stack cells p
effect-good code tokens op.Shl stack cells s p c = on_two-good shl stack cells p
effect-good code tokens op.Shr stack cells s p c = on_two-good shr stack cells p
effect-good code tokens op.And stack cells s p c = on_two-good (λ a b. Gives (bit_and a b)) stack cells p
effect-good code tokens op.Or stack cells s p c = on_two-good (λ a b. Gives (bit_or a b)) stack cells p
effect-good code tokens op.Xor stack cells s p c = on_two-good (λ a b. Gives (bit_xor a b)) stack cells p
effect-good code tokens op.Eq stack cells s p c = on_two-good (λ a b. Gives (truth (is_equal a b))) stack cells p
effect-good code tokens op.Ne stack cells s p c = on_two-good (λ a b. Gives (truth (not (is_equal a b)))) stack cells p
effect-good code tokens op.Lt stack cells s p c = on_two-good (λ a b. Gives (truth (is_below a b))) stack cells p
effect-good code tokens op.Le stack cells s p c = on_two-good (λ a b. Gives (truth (not (is_below b a)))) stack cells p
effect-good code tokens op.Gt stack cells s p c = on_two-good (λ a b. Gives (truth (is_below b a))) stack cells p
effect-good code tokens op.Ge stack cells s p c = on_two-good (λ a b. Gives (truth (not (is_below a b)))) stack cells p
effect-good code tokens op.Drop stack cells s p c = pop-good _ _ stack _ p (λ a s e. (omega (arith, e), refl))
effect-good code tokens i stack cells s p c = cc
