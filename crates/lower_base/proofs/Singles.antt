-- Lowered expressions give single values.
use Rattle.std.proofs.Common.{◌≡◌, ℕ, ◌+◌, ◌≤◌, ◌∷◌, ◌++◌, arith, ℤ, pos, negsuc, List, Bool, true, false, refl, sym, subst, Option, None, Some, zero, suc, [], length, ap, ◌∙◌}
use Rattle.std.specs.Prelude.{if◌then◌else◌, nat_le, ◌==◌, unsigned_abs, ◌+ℤ◌, ◌-ℤ◌, ◌*ℤ◌, neg_ℤ, int_div, int_rem, ◌^◌}
use Rattle.std.specs.Int.{int_shr}
use Rattle.rvc_base.specs.declared.scalar.Scalar.{Scalar}
use Rattle.rvc_base.specs.declared.scalar.Scalar.TheVariants as scalar
use Rattle.rvc_base.specs.declared.trap.Trap.TheVariants.{Overflow, ShiftRange, DivideByZero, IndexRange}
use Rattle.rvc_base.specs.Arithmetic as arithmetic
use Rattle.rvc_base.specs.Width.{is_num, IsNum, max_shift}
use Rattle.cal_ast.specs.declared.expr.PrefixOp.{PrefixOp}
use Rattle.cal_ast.specs.declared.expr.PrefixOp.TheVariants as prefixes
use Rattle.cal_ast.specs.declared.expr.BinOp.{BinOp}
use Rattle.cal_ast.specs.declared.expr.BinOp.TheVariants as binaries
use Rattle.cal_ast.specs.Tree.{Tree}
use Rattle.cal_model.specs.Value.{Shape, Single, Many, Value, Num, Truth, Items, Values, value_at, HasKind, HaveKind, kind_of_type, kind_of_scalar, Nil, Cons, count}
use Rattle.cal_model.specs.Outcome.{Out, Gives, Traps, and_then, known, turn}
use Rattle.cal_model.specs.Env.{Var, Env}
use Rattle.cal_model.specs.Expression.{Calls, eval, eval_all, computed, prefixed, applied, of_numbers, of_truths, with_right, chosen, indexed}
use Rattle.cal_model.proofs.Numbers.{is-num, rest-is-num, shifted-is-num, and-is-num, or-is-num, xor-is-num, not-is-num}
use Rattle.code_ir.specs.declared.instr.Instr.{Instr}
use Rattle.lower_base.specs.Names.{Name, IsSingle}
use Rattle.lower_base.specs.Held.{HoldsName}
use Rattle.lower_base.specs.Following.{Follows}
use Rattle.lower_base.specs.declared.names.ItemList.{ItemList}
use Rattle.lower_base.specs.Callees.{Function, function_named}
use Rattle.lower_base.specs.Coding.{AreArgs, IsCode, IsTest, call_code, item_instr, prefix_instr, in_another_way, arg_more, call, no_arg, number, too_great, negative, truth, variable, paren, prefix, binary, both, either, if_code, tested, both_tested, item, deep_item}
use Rattle.lower_base.proofs.Effects.{goes_right}
use Rattle.cal_ast.specs.Tree as tree
use Rattle.lower_base.proofs.Listing.{IsList, named_list, item_kind}
use Rattle.lower_base.proofs.PartValues.{deep_only}
use Rattle.lower_base.specs.Parted.{number_of}
use Rattle.lower_base.proofs.Finding.{is_found}
use Rattle.lower_base.proofs.Doing.{Apart, Below, Held, below_on, may_use, prepared}
use Rattle.lower_base.proofs.Grown.{grows, grows_args, grows_test}
use Rattle.lower_base.proofs.Runs.{follows_more, follows_then, stands_left, stands_right}
use Rattle.lower_base.specs.Calling.{Serves}
use Rattle.lower_base.specs.Placed.{StandsAt, World}
use Rattle.code_ir.specs.declared.instr.Instr.TheVariants as op
pub use Rattle.lower_base.specs.Single.{IsSingleValue, OnlySingles}

pub single_then : (o : Out Value) (f : Value → ℕ → Out Value) → OnlySingles o → ((v : Value) (m : ℕ) → IsSingleValue v → OnlySingles (f v m)) → OnlySingles (and_then o f)
single_then o f h g = follows_then o f (λ v m. IsSingleValue v) (λ c. Unit {0}) (λ v m. IsSingleValue v) (λ c. Unit {0}) h g (λ c t. tt)

-- ---- operators

pub whole_single : (z : ℤ) (left : ℕ) → OnlySingles (computed (arithmetic.whole z) left)
whole_single z left = go (is_num z) refl
  where
    go : (b : Bool) → is_num z ≡ b → OnlySingles (computed (if b then arithmetic.Gives z else arithmetic.Traps Overflow) left)
    go true e = is-num z e
    go false e = tt

div_single : (a b : ℤ) (left : ℕ) → OnlySingles (computed (arithmetic.div a b) left)
div_single a b left = go (unsigned_abs b == 0)
  where
    go : (c : Bool) → OnlySingles (computed (if c then arithmetic.Traps DivideByZero else arithmetic.whole (int_div a b)) left)
    go true = tt
    go false = whole_single (int_div a b) left

rem_single : (a b : ℤ) (left : ℕ) → IsNum a → IsNum b → OnlySingles (computed (arithmetic.rem a b) left)
rem_single a b left x y = go (unsigned_abs b == 0)
  where
    go : (c : Bool) → OnlySingles (computed (if c then arithmetic.Traps DivideByZero else arithmetic.Gives (int_rem a b)) left)
    go true = tt
    go false = rest-is-num a b x

shl_single : (a b : ℤ) (left : ℕ) → OnlySingles (computed (arithmetic.shl a b) left)
shl_single a (pos n) left = go (nat_le n max_shift)
  where
    go : (c : Bool) → OnlySingles (computed (if c then arithmetic.whole (a *ℤ pos (2 ^ n)) else arithmetic.Traps ShiftRange) left)
    go true = whole_single (a *ℤ pos (2 ^ n)) left
    go false = tt
shl_single a (negsuc n) left = tt

shr_single : (a b : ℤ) (left : ℕ) → IsNum a → OnlySingles (computed (arithmetic.shr a b) left)
shr_single a (pos n) left h = go (nat_le n max_shift)
  where
    go : (c : Bool) → OnlySingles (computed (if c then arithmetic.Gives (int_shr a n) else arithmetic.Traps ShiftRange) left)
    go true = shifted-is-num a n h
    go false = tt
shr_single a (negsuc n) left h = tt

pub prefix_single : (o : PrefixOp) (v : Value) (left : ℕ) → IsSingleValue v → OnlySingles (prefixed o v left)
prefix_single prefixes.Not (Num z) left h = tt
prefix_single prefixes.Not (Truth b) left h = tt
prefix_single prefixes.Not (Items vs) left h = tt
prefix_single prefixes.Neg (Num z) left h = whole_single (neg_ℤ z) left
prefix_single prefixes.Neg (Truth b) left h = tt
prefix_single prefixes.Neg (Items vs) left h = tt
prefix_single prefixes.BitNot (Num z) left h = not-is-num z h
prefix_single prefixes.BitNot (Truth b) left h = tt
prefix_single prefixes.BitNot (Items vs) left h = tt

numbers_single : (o : BinOp) (a b : ℤ) (left : ℕ) → IsNum a → IsNum b → OnlySingles (of_numbers o a b left)
numbers_single binaries.Or a b left x y = tt
numbers_single binaries.And a b left x y = tt
numbers_single binaries.BitOr a b left x y = or-is-num a b x y
numbers_single binaries.BitXor a b left x y = xor-is-num a b x y
numbers_single binaries.BitAnd a b left x y = and-is-num a b x
numbers_single binaries.Eq a b left x y = tt
numbers_single binaries.Ne a b left x y = tt
numbers_single binaries.Lt a b left x y = tt
numbers_single binaries.Le a b left x y = tt
numbers_single binaries.Gt a b left x y = tt
numbers_single binaries.Ge a b left x y = tt
numbers_single binaries.Shl a b left x y = shl_single a b left
numbers_single binaries.Shr a b left x y = shr_single a b left x
numbers_single binaries.Add a b left x y = whole_single (a +ℤ b) left
numbers_single binaries.Sub a b left x y = whole_single (a -ℤ b) left
numbers_single binaries.Mul a b left x y = whole_single (a *ℤ b) left
numbers_single binaries.Div a b left x y = div_single a b left
numbers_single binaries.Mod a b left x y = rem_single a b left x y

truths_single : (o : BinOp) (a b : Bool) (left : ℕ) → OnlySingles (of_truths o a b left)
truths_single binaries.And a b left = tt
truths_single binaries.Or a b left = tt
truths_single binaries.Eq a b left = tt
truths_single binaries.Ne a b left = tt
truths_single o a b left = tt

applied_single : (o : BinOp) (v w : Value) (left : ℕ) → IsSingleValue v → IsSingleValue w → OnlySingles (applied o v w left)
applied_single o (Num a) (Num b) left x y = numbers_single o a b left x y
applied_single o (Truth a) (Truth b) left x y = truths_single o a b left
applied_single o (Num a) (Truth b) left x y = tt
applied_single o (Num a) (Items ws) left x y = tt
applied_single o (Truth a) (Num b) left x y = tt
applied_single o (Truth a) (Items ws) left x y = tt
applied_single o (Items vs) w left x y = tt

pub right_single : (o : BinOp) (v : Value) (right : ℕ → Out Value) (left : ℕ) → IsSingleValue v → ((m : ℕ) → OnlySingles (right m)) → OnlySingles (and_then (right left) (λ w m. applied o v w m))
right_single o v right left h g = single_then (right left) (λ w m. applied o v w m) (g left) (λ w m i. applied_single o v w m h i)

pub and_single : (v : Value) (right : ℕ → Out Value) (left : ℕ) → IsSingleValue v → ((m : ℕ) → OnlySingles (right m)) → OnlySingles (with_right binaries.And v right left)
and_single (Truth false) right left h g = tt
and_single (Truth true) right left h g = right_single binaries.And (Truth true) right left h g
and_single (Num z) right left h g = right_single binaries.And (Num z) right left h g
and_single (Items vs) right left h g = right_single binaries.And (Items vs) right left h g

pub or_single : (v : Value) (right : ℕ → Out Value) (left : ℕ) → IsSingleValue v → ((m : ℕ) → OnlySingles (right m)) → OnlySingles (with_right binaries.Or v right left)
or_single (Truth true) right left h g = tt
or_single (Truth false) right left h g = right_single binaries.Or (Truth false) right left h g
or_single (Num z) right left h g = right_single binaries.Or (Num z) right left h g
or_single (Items vs) right left h g = right_single binaries.Or (Items vs) right left h g

chosen_single : (v : Value) (f g : ℕ → Out Value) (left : ℕ) → ((m : ℕ) → OnlySingles (f m)) → ((m : ℕ) → OnlySingles (g m)) → OnlySingles (chosen v f g left)
chosen_single (Truth true) f g left a b = a left
chosen_single (Truth false) f g left a b = b left
chosen_single (Num z) f g left a b = tt
chosen_single (Items vs) f g left a b = tt

-- ---- variables and items

pub kind_single : (t : Scalar) (v : Value) → HasKind (kind_of_scalar t) v → IsSingleValue v
kind_single scalar.Bool (Num z) h = absurd h
kind_single scalar.Bool (Truth b) h = tt
kind_single scalar.Bool (Items vs) h = absurd h
kind_single (scalar.Int n) (Num z) h = h
kind_single (scalar.Int n) (Truth b) h = tt
kind_single (scalar.Int n) (Items vs) h = absurd h
kind_single (scalar.Uint n) (Num z) h = h
kind_single (scalar.Uint n) (Truth b) h = tt
kind_single (scalar.Uint n) (Items vs) h = absurd h

shape_single : (t : Shape) (v : Value) → IsSingle t → HasKind (kind_of_type t) v → IsSingleValue v
shape_single (Single t) v s h = kind_single t v h
shape_single (Many n items) v s h = absurd s

item_single : (l : ItemList) (vs : Values) (i : Value) (left : ℕ) → HaveKind (kind_of_scalar l.kind) vs → OnlySingles (indexed (Items vs) i left)
item_single l vs (Truth b) left h = tt
item_single l vs (Items us) left h = tt
item_single l vs (Num (negsuc k)) left h = tt
item_single l vs (Num (pos k)) left h = go (value_at vs k) refl
  where
    go : (o : Option Value) → value_at vs k ≡ o → OnlySingles (elim o [ None ↦ Traps IndexRange | Some v ↦ Gives v left ])
    go None e = tt
    go (Some v) e = kind_single l.kind v (item_kind (kind_of_scalar l.kind) vs k v h e)

-- ---- all forms

-- each of the values is single
abbrev pub AreSingles : Values → Type 0
AreSingles Nil = Unit {0}
AreSingles (Cons v vs) = IsSingleValue v × AreSingles vs

-- over these globals, and for single values, the functions give values of their types' kinds
abbrev pub KindsIn : Calls → List Var → List Function → Type 0
KindsIn calls vars fs = (text : List ℕ) (f : Function) → function_named text fs ≡ Some f → (vs : Values) (left : ℕ) → AreSingles vs → count vs ≡ length f.formals
    → Follows (calls vars text vs left) (λ v k. HasKind (kind_of_scalar f.result) v) (λ c. Unit {0})

module _ (fs : List Function) (globals names : List Name) (w : World) (serves : Serves w globals fs) (env : Env) (floor ceiling : ℕ) (cells : List ℤ) (gives : KindsIn w.calls env.globals fs)
    (apart : Apart fs globals names w env [] floor ceiling) (held : Held fs globals names w env [] floor ceiling cells) where
  abbrev Under : ℕ → Type 0
  Under n = Below fs globals names w env [] floor ceiling n

  further : (n m : ℕ) → n ≤ m → Under n → Under m
  further n m le below = below_on fs globals names w env [] floor ceiling n m le below

  abbrev There : ℕ → List Instr → Type 0
  There base code = StandsAt w.code.instrs base code

  mutual
    pub singles_in : {e : Tree} {base n m : ℕ} {code : List Instr} → IsCode fs names e base n code m → m ≤ ceiling → (left : ℕ) → There base code → Under n → OnlySingles (eval e w.calls env left)
    singles_in (in_another_way e base n m code h) up left at below =
        h.singles below.0 w globals env cells left at serves (prepared fs globals names w env [] floor ceiling n cells below apart held) (may_use fs globals names w env [] floor ceiling n m cells up below apart held)
    singles_in (number k base_at base n h) up left at below = whole_single (pos k) left
    singles_in (too_great k base_at base n h) up left at below = whole_single (pos k) left
    singles_in (negative k base_at base n place h) up left at below = single_then (computed (arithmetic.whole (pos k)) left) (λ v m. prefixed prefixes.Neg v m) (whole_single (pos k) left) (λ v m i. prefix_single prefixes.Neg v m i)
    singles_in (truth b base_at base n) up left at below = tt
    singles_in (variable text base_at base n x e s) up left at below =
        let h : HoldsName w.tokens cells env text x = held.0 text x e in
        subst (λ (o : Option Value). OnlySingles (known o left)) (sym h.meant) (shape_single x.shape h.value s h.of_type)
    singles_in (paren e base_at base n m code h) up left at below = singles_in h up left at below
    singles_in (prefix o e base_at base n m code h) up left at below =
        single_then (eval e w.calls env left) (λ v m. prefixed o v m) (singles_in h up left (stands_left w.code.instrs base code (prefix_instr o ∷ []) at) below) (λ v m i. prefix_single o v m i)
    singles_in (binary o i l r base_at base n k m a b e h g) up left at below =
        let x = grows h in let y = grows g in
        let rest = stands_right w.code.instrs base a (b ++ i ∷ []) at in
        single_then (eval l w.calls env left) (λ v m. with_right o v (λ k. eval r w.calls env k) m) (singles_in h (omega (arith, y, up)) left (stands_left w.code.instrs base a (b ++ i ∷ []) at) below) (λ v j s.
        subst OnlySingles (sym (goes_right o i v (λ k. eval r w.calls env k) j e)) (right_single o v (λ k. eval r w.calls env k) j s (λ j. singles_in g up j (stands_left w.code.instrs (base + length a) b (i ∷ []) rest) (further n k x below))))
    singles_in (call text args base_at base n m code f e h) up left at below =
        follows_then (eval_all args w.calls env left) (λ vs k. turn k (λ j. w.calls env.globals text vs j)) (λ vs k. AreSingles vs × (count vs ≡ number_of args)) (λ c. Unit {0}) (λ v m. IsSingleValue v) (λ c. Unit {0})
        (singles_args h up left (stands_left w.code.instrs base code (call_code f) at) below) (λ vs k p. turned vs k p) (λ c t. tt)
      where
        turned : (vs : Values) (k : ℕ) → AreSingles vs × (count vs ≡ number_of args) → OnlySingles (turn k (λ j. w.calls env.globals text vs j))
        turned vs zero p = tt
        turned vs (suc j) p =
            let there = is_found text (number_of args) fs f e in
            follows_more (w.calls env.globals text vs j) (λ v m. HasKind (kind_of_scalar f.result) v) (λ c. Unit {0}) (λ v m. IsSingleValue v) (λ c. Unit {0})
            (gives text f there.0 vs j p.0 (p.1 ∙ sym there.1)) (λ v m k. kind_single f.result v k) (λ c t. tt)
    singles_in (item e place base_at base n m code l g h) up left at below =
        let list : IsList w.tokens cells (eval e w.calls env left) left l = named_list names w.tokens cells env e l w.calls left g held.0 in
        subst (λ (o : Out Value). OnlySingles (and_then o (λ v h. and_then (eval place w.calls env h) (λ x k. indexed v x k)))) (sym list.gives)
        (single_then (eval place w.calls env left) (λ x k. indexed (Items list.values) x k) (singles_in h up left (stands_left w.code.instrs base code (item_instr l ∷ []) at) below) (λ x k s. item_single l list.values x k list.kinds))
    singles_in (deep_item e place base_at base n m code l g h) up left at below =
        follows_more (eval (tree.index e place base_at) w.calls env left) (λ v m. HasKind (kind_of_scalar l.kind) v) (λ c. Unit {0}) (λ v m. IsSingleValue v) (λ c. Unit {0})
        (deep_only names w.tokens cells env w.calls held.0 (tree.index e place base_at) l left g) (λ v m k. kind_single l.kind v k) (λ c t. tt)
    singles_in (both l r base_at base n k m far end a b t h g e f) up left at below =
        let x = grows_test h in let y = grows g in
        let tail : List Instr = op.Jump end ∷ op.Const (pos 0) ∷ [] in
        let rest = stands_right w.code.instrs base a (b ++ tail) at in
        single_then (eval l w.calls env left) (λ v m. with_right binaries.And v (λ k. eval r w.calls env k) m) (singles_test h (omega (arith, y, up)) left (stands_left w.code.instrs base a (b ++ tail) at) below)
        (λ v j s. and_single v (λ k. eval r w.calls env k) j s (λ j. singles_in g up j (stands_left w.code.instrs (base + length a) b tail rest) (further n k x below)))
    singles_in (either l r base_at base n k m right end a b t h g e f) up left at below =
        let x = grows_test h in let y = grows g in
        let tail : List Instr = op.Const (pos 1) ∷ op.Jump end ∷ b in
        let there : base + length a + 1 + 1 ≡ right = omega (arith, e) in
        let last : There right b = subst (λ p. There p b) there (stands_right w.code.instrs base a tail at).1.1 in
        single_then (eval l w.calls env left) (λ v m. with_right binaries.Or v (λ k. eval r w.calls env k) m) (singles_test h (omega (arith, y, up)) left (stands_left w.code.instrs base a tail at) below)
        (λ v j s. or_single v (λ k. eval r w.calls env k) j s (λ j. singles_in g up j last (further n k x below)))
    singles_in (if_code test first other base_at base n k j m else_at end a b c h g d e f) up left at below =
        let x = grows_test h in let y = grows g in let z = grows d in
        let tail : List Instr = op.Jump end ∷ c in
        let rest = stands_right w.code.instrs base a (b ++ tail) at in
        let there : There else_at c = subst (λ p. There p c) (sym e) (stands_right w.code.instrs (base + length a) b tail rest).1 in
        single_then (eval test w.calls env left) (λ v m. chosen v (λ k. eval first w.calls env k) (λ k. eval other w.calls env k) m) (singles_test h (omega (arith, y, z, up)) left (stands_left w.code.instrs base a (b ++ tail) at) below)
        (λ v i s. chosen_single v (λ k. eval first w.calls env k) (λ k. eval other w.calls env k) i (λ i. singles_in g (omega (arith, z, up)) i (stands_left w.code.instrs (base + length a) b tail rest) (further n k x below)) (λ i. singles_in d up i there (further n j (omega (arith, x, y)) below)))

    singles_args : {es : Tree} {base n m : ℕ} {code : List Instr} → AreArgs fs names es base n code m → m ≤ ceiling → (left : ℕ) → There base code → Under n → Follows (eval_all es w.calls env left) (λ vs k. AreSingles vs × (count vs ≡ number_of es)) (λ c. Unit {0})
    singles_args (no_arg base n) up left at below = (tt, refl)
    singles_args (arg_more e es base n k m a b h g) up left at below =
        let x = grows h in let y = grows_args g in
        follows_then (eval e w.calls env left) (λ v j. and_then (eval_all es w.calls env j) (λ vs i. Gives (Cons v vs) i)) (λ v j. IsSingleValue v) (λ c. Unit {0}) (λ vs i. AreSingles vs × (count vs ≡ suc (number_of es))) (λ c. Unit {0})
        (singles_in h (omega (arith, y, up)) left (stands_left w.code.instrs base a b at) below)
        (λ v j s. follows_then (eval_all es w.calls env j) (λ vs i. Gives (Cons v vs) i) (λ vs i. AreSingles vs × (count vs ≡ number_of es)) (λ c. Unit {0}) (λ vs i. AreSingles vs × (count vs ≡ suc (number_of es))) (λ c. Unit {0})
        (singles_args g up j (stands_right w.code.instrs base a b at) (further n k x below)) (λ vs i p. ((s, p.0), ap suc p.1)) (λ c t. tt))
        (λ c t. tt)

    singles_test : {e : Tree} {base n far m : ℕ} {code : List Instr} → IsTest fs names e base n far code m → m ≤ ceiling → (left : ℕ) → There base code → Under n → OnlySingles (eval e w.calls env left)
    singles_test (tested e base n m far code h) up left at below = singles_in h up left (stands_left w.code.instrs base code (op.JumpIfNot far ∷ []) at) below
    singles_test (both_tested l r base_at base n k m far a b t h g) up left at below =
        let x = grows_test h in let y = grows_test g in
        single_then (eval l w.calls env left) (λ v m. with_right binaries.And v (λ k. eval r w.calls env k) m) (singles_test h (omega (arith, y, up)) left (stands_left w.code.instrs base a b at) below)
        (λ v j s. and_single v (λ k. eval r w.calls env k) j s (λ j. singles_test g up j (stands_right w.code.instrs base a b at) (further n k x below)))
