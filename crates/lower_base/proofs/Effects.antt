-- Instructions of operators do to the numbers of values what the operators do to the values.
use Rattle.std.proofs.Common.{◌≡◌, ℕ, ℤ, List, [], ◌∷◌, Bool, true, false, refl, sym, ap, ◌∙◌, subst, Some}
use Rattle.std.specs.Prelude.{not}
use Rattle.rvc_base.specs.Arithmetic as arithmetic
use Rattle.rvc_base.specs.Arithmetic.{Computed, is_true, truth, is_equal}
use Rattle.cal_ast.specs.declared.expr.PrefixOp.{PrefixOp}
use Rattle.cal_ast.specs.declared.expr.PrefixOp.TheVariants as prefixes
use Rattle.cal_ast.specs.declared.expr.BinOp.{BinOp}
use Rattle.cal_ast.specs.declared.expr.BinOp.TheVariants as binaries
use Rattle.cal_model.specs.Value.{Value, Num, Truth, Items}
use Rattle.cal_model.specs.Outcome.{Out, Gives, and_then}
use Rattle.cal_model.specs.Expression.{computed, prefixed, applied, of_numbers, of_truths, is_same, with_right}
use Rattle.code_ir.specs.declared.instr.Instr.{Instr}
use Rattle.code_ir.specs.declared.instr.Instr.TheVariants as op
use Rattle.code_ir.specs.Effect.{Effect, Leaves, Fails, effect, push_computed}
use Rattle.lower_base.specs.Flat.{flat}
use Rattle.lower_base.specs.Coding.{prefix_instr, binary_instr}
use Rattle.lower_base.specs.Following.{Follows}

-- the effect leaves the number of the value above the rest of the stack
pub record Left (e : Effect) (stack cells : List ℤ) (left : ℕ) (v : Value) (k : ℕ) : Type 0 where
  pub same : k ≡ left
  pub number : ℤ
  pub is : flat v ≡ number ∷ []
  pub leaves : e ≡ Leaves (number ∷ stack) cells

-- an effect is that of an outcome, if so many turns are left
abbrev pub Acts : Effect → List ℤ → List ℤ → ℕ → Out Value → Type 0
Acts e stack cells left o = Follows o (Left e stack cells left) (λ c. e ≡ Fails c)

pub true_again : (b : Bool) → is_true (truth b) ≡ b
true_again true = refl
true_again false = refl

pub same_number : (a b : ℤ) → (a ∷ []) ≡ (b ∷ []) → a ≡ b
same_number a b e = cc

computed_acts : (c : Computed) (stack cells : List ℤ) (left : ℕ) → Acts (push_computed c stack cells) stack cells left (computed c left)
computed_acts (arithmetic.Gives z) stack cells left = record { same = refl; number = z; is = refl; leaves = refl }
computed_acts (arithmetic.Traps c) stack cells left = refl

truth_acts : (b : Bool) (z : ℤ) (stack cells : List ℤ) (left : ℕ) → z ≡ truth b → Acts (Leaves (z ∷ stack) cells) stack cells left (Gives (Truth b) left)
truth_acts b z stack cells left e = record { same = refl; number = z; is = ap (λ x. x ∷ []) (sym e); leaves = refl }

number_acts : (z : ℤ) (stack cells : List ℤ) (left : ℕ) → Acts (Leaves (z ∷ stack) cells) stack cells left (Gives (Num z) left)
number_acts z stack cells left = record { same = refl; number = z; is = refl; leaves = refl }

-- ---- one operand

pub prefix_acts : (o : PrefixOp) (v : Value) (a : ℤ) (tokens : ℕ → List ℤ) (stack cells : List ℤ) (left : ℕ) → flat v ≡ a ∷ [] → Acts (effect tokens (prefix_instr o) (a ∷ stack) cells) stack cells left (prefixed o v left)
prefix_acts prefixes.Not (Num z) a tokens stack cells left e = tt
prefix_acts prefixes.Not (Truth b) a tokens stack cells left e =
    let same : truth b ≡ a = same_number (truth b) a e in
    truth_acts (not b) (truth (not (is_true a))) stack cells left (ap (λ x. truth (not (is_true x))) (sym same) ∙ ap (λ x. truth (not x)) (true_again b))
prefix_acts prefixes.Not (Items vs) a tokens stack cells left e = tt
prefix_acts prefixes.Neg (Num z) a tokens stack cells left e =
    let same : z ≡ a = same_number z a e in
    subst (λ x. Acts (effect tokens op.Neg (x ∷ stack) cells) stack cells left (prefixed prefixes.Neg (Num z) left)) same (computed_acts (arithmetic.neg z) stack cells left)
prefix_acts prefixes.Neg (Truth b) a tokens stack cells left e = tt
prefix_acts prefixes.Neg (Items vs) a tokens stack cells left e = tt
prefix_acts prefixes.BitNot (Num z) a tokens stack cells left e =
    let same : z ≡ a = same_number z a e in
    subst (λ x. Acts (effect tokens op.BitNot (x ∷ stack) cells) stack cells left (prefixed prefixes.BitNot (Num z) left)) same (number_acts (arithmetic.bit_not z) stack cells left)
prefix_acts prefixes.BitNot (Truth b) a tokens stack cells left e = tt
prefix_acts prefixes.BitNot (Items vs) a tokens stack cells left e = tt

-- ---- two operands

same_truths : (a b : Bool) → is_equal (truth a) (truth b) ≡ is_same a b
same_truths true true = refl
same_truths true false = refl
same_truths false true = refl
same_truths false false = refl

instr_at : (out : Out Value) (i j : Instr) (a b : ℤ) (tokens : ℕ → List ℤ) (stack cells : List ℤ) (left : ℕ) → Some j ≡ Some i → Acts (effect tokens j (b ∷ a ∷ stack) cells) stack cells left out → Acts (effect tokens i (b ∷ a ∷ stack) cells) stack cells left out
instr_at out i j a b tokens stack cells left e h = let same : j ≡ i = cc in subst (λ x. Acts (effect tokens x (b ∷ a ∷ stack) cells) stack cells left out) same h

numbers_at : (o : BinOp) (i : Instr) (a b : ℤ) (tokens : ℕ → List ℤ) (stack cells : List ℤ) (left : ℕ) → binary_instr o ≡ Some i → Acts (effect tokens i (b ∷ a ∷ stack) cells) stack cells left (of_numbers o a b left)
numbers_at binaries.Or i a b tokens stack cells left e = cc
numbers_at binaries.And i a b tokens stack cells left e = cc
numbers_at binaries.BitOr i a b tokens stack cells left e = instr_at (of_numbers binaries.BitOr a b left) i op.Or a b tokens stack cells left e (number_acts (arithmetic.bit_or a b) stack cells left)
numbers_at binaries.BitXor i a b tokens stack cells left e = instr_at (of_numbers binaries.BitXor a b left) i op.Xor a b tokens stack cells left e (number_acts (arithmetic.bit_xor a b) stack cells left)
numbers_at binaries.BitAnd i a b tokens stack cells left e = instr_at (of_numbers binaries.BitAnd a b left) i op.And a b tokens stack cells left e (number_acts (arithmetic.bit_and a b) stack cells left)
numbers_at binaries.Eq i a b tokens stack cells left e = instr_at (of_numbers binaries.Eq a b left) i op.Eq a b tokens stack cells left e (truth_acts (is_equal a b) (truth (is_equal a b)) stack cells left refl)
numbers_at binaries.Ne i a b tokens stack cells left e = instr_at (of_numbers binaries.Ne a b left) i op.Ne a b tokens stack cells left e (truth_acts (not (is_equal a b)) (truth (not (is_equal a b))) stack cells left refl)
numbers_at binaries.Lt i a b tokens stack cells left e = instr_at (of_numbers binaries.Lt a b left) i op.Lt a b tokens stack cells left e (truth_acts (arithmetic.is_below a b) (truth (arithmetic.is_below a b)) stack cells left refl)
numbers_at binaries.Le i a b tokens stack cells left e = instr_at (of_numbers binaries.Le a b left) i op.Le a b tokens stack cells left e (truth_acts (not (arithmetic.is_below b a)) (truth (not (arithmetic.is_below b a))) stack cells left refl)
numbers_at binaries.Gt i a b tokens stack cells left e = instr_at (of_numbers binaries.Gt a b left) i op.Gt a b tokens stack cells left e (truth_acts (arithmetic.is_below b a) (truth (arithmetic.is_below b a)) stack cells left refl)
numbers_at binaries.Ge i a b tokens stack cells left e = instr_at (of_numbers binaries.Ge a b left) i op.Ge a b tokens stack cells left e (truth_acts (not (arithmetic.is_below a b)) (truth (not (arithmetic.is_below a b))) stack cells left refl)
numbers_at binaries.Shl i a b tokens stack cells left e = instr_at (of_numbers binaries.Shl a b left) i op.Shl a b tokens stack cells left e (computed_acts (arithmetic.shl a b) stack cells left)
numbers_at binaries.Shr i a b tokens stack cells left e = instr_at (of_numbers binaries.Shr a b left) i op.Shr a b tokens stack cells left e (computed_acts (arithmetic.shr a b) stack cells left)
numbers_at binaries.Add i a b tokens stack cells left e = instr_at (of_numbers binaries.Add a b left) i op.Add a b tokens stack cells left e (computed_acts (arithmetic.add a b) stack cells left)
numbers_at binaries.Sub i a b tokens stack cells left e = instr_at (of_numbers binaries.Sub a b left) i op.Sub a b tokens stack cells left e (computed_acts (arithmetic.sub a b) stack cells left)
numbers_at binaries.Mul i a b tokens stack cells left e = instr_at (of_numbers binaries.Mul a b left) i op.Mul a b tokens stack cells left e (computed_acts (arithmetic.mul a b) stack cells left)
numbers_at binaries.Div i a b tokens stack cells left e = instr_at (of_numbers binaries.Div a b left) i op.Div a b tokens stack cells left e (computed_acts (arithmetic.div a b) stack cells left)
numbers_at binaries.Mod i a b tokens stack cells left e = instr_at (of_numbers binaries.Mod a b left) i op.Mod a b tokens stack cells left e (computed_acts (arithmetic.rem a b) stack cells left)

truths_at : (o : BinOp) (i : Instr) (a b : Bool) (tokens : ℕ → List ℤ) (stack cells : List ℤ) (left : ℕ) → binary_instr o ≡ Some i → Acts (effect tokens i (truth b ∷ truth a ∷ stack) cells) stack cells left (of_truths o a b left)
truths_at binaries.And i a b tokens stack cells left e = cc
truths_at binaries.Or i a b tokens stack cells left e = cc
truths_at binaries.Eq i a b tokens stack cells left e =
    let same : op.Eq ≡ i = cc in
    subst (λ x. Acts (effect tokens x (truth b ∷ truth a ∷ stack) cells) stack cells left (of_truths binaries.Eq a b left)) same
    (truth_acts (is_same a b) (truth (is_equal (truth a) (truth b))) stack cells left (ap truth (same_truths a b)))
truths_at binaries.Ne i a b tokens stack cells left e =
    let same : op.Ne ≡ i = cc in
    subst (λ x. Acts (effect tokens x (truth b ∷ truth a ∷ stack) cells) stack cells left (of_truths binaries.Ne a b left)) same
    (truth_acts (not (is_same a b)) (truth (not (is_equal (truth a) (truth b)))) stack cells left (ap (λ x. truth (not x)) (same_truths a b)))
truths_at o i a b tokens stack cells left e = tt

pub binary_acts : (o : BinOp) (i : Instr) (v w : Value) (a b : ℤ) (tokens : ℕ → List ℤ) (stack cells : List ℤ) (left : ℕ) → binary_instr o ≡ Some i → flat v ≡ a ∷ [] → flat w ≡ b ∷ [] → Acts (effect tokens i (b ∷ a ∷ stack) cells) stack cells left (applied o v w left)
binary_acts o i (Num x) (Num y) a b tokens stack cells left at e f =
    let p : x ≡ a = same_number x a e in
    let q : y ≡ b = same_number y b f in
    subst (λ z. Acts (effect tokens i (z ∷ a ∷ stack) cells) stack cells left (of_numbers o x y left)) q
    (subst (λ z. Acts (effect tokens i (y ∷ z ∷ stack) cells) stack cells left (of_numbers o x y left)) p (numbers_at o i x y tokens stack cells left at))
binary_acts o i (Truth x) (Truth y) a b tokens stack cells left at e f =
    let p : truth x ≡ a = same_number (truth x) a e in
    let q : truth y ≡ b = same_number (truth y) b f in
    subst (λ z. Acts (effect tokens i (z ∷ a ∷ stack) cells) stack cells left (of_truths o x y left)) q
    (subst (λ z. Acts (effect tokens i (truth y ∷ z ∷ stack) cells) stack cells left (of_truths o x y left)) p (truths_at o i x y tokens stack cells left at))
binary_acts o i (Num x) (Truth y) a b tokens stack cells left at e f = tt
binary_acts o i (Num x) (Items ws) a b tokens stack cells left at e f = tt
binary_acts o i (Truth x) (Num y) a b tokens stack cells left at e f = tt
binary_acts o i (Truth x) (Items ws) a b tokens stack cells left at e f = tt
binary_acts o i (Items vs) w a b tokens stack cells left at e f = tt

-- an operation whose right side is always evaluated
pub goes_right : (o : BinOp) (i : Instr) (v : Value) (right : ℕ → Out Value) (left : ℕ) → binary_instr o ≡ Some i → with_right o v right left ≡ and_then (right left) (λ w m. applied o v w m)
goes_right binaries.Or i v right left e = cc
goes_right binaries.And i v right left e = cc
goes_right binaries.BitOr i v right left e = refl
goes_right binaries.BitXor i v right left e = refl
goes_right binaries.BitAnd i v right left e = refl
goes_right binaries.Eq i v right left e = refl
goes_right binaries.Ne i v right left e = refl
goes_right binaries.Lt i v right left e = refl
goes_right binaries.Le i v right left e = refl
goes_right binaries.Gt i v right left e = refl
goes_right binaries.Ge i v right left e = refl
goes_right binaries.Shl i v right left e = refl
goes_right binaries.Shr i v right left e = refl
goes_right binaries.Add i v right left e = refl
goes_right binaries.Sub i v right left e = refl
goes_right binaries.Mul i v right left e = refl
goes_right binaries.Div i v right left e = refl
goes_right binaries.Mod i v right left e = refl
