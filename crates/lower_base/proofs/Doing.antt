-- The code of each form does what evaluating the form does.
use Rattle.std.proofs.Common.{◌≡◌, ℕ, ◌+◌, ◌≤◌, ◌<◌, ℤ, List, [], ◌∷◌, ◌++◌, length, Bool, true, false, refl, sym, ap, ◌∙◌, subst, Some, arith, length-append}
use Rattle.std.specs.Prelude.{if◌then◌else◌, slice_get, pos}
use Rattle.rvc_base.specs.declared.trap.Trap.{Trap}
use Rattle.rvc_base.specs.Arithmetic.{is_true, truth}
use Rattle.cal_ast.specs.declared.expr.PrefixOp.{PrefixOp}
use Rattle.cal_ast.specs.declared.expr.PrefixOp.TheVariants as prefixes
use Rattle.cal_ast.specs.declared.expr.BinOp.{BinOp}
use Rattle.cal_ast.specs.declared.expr.BinOp.TheVariants as binaries
use Rattle.cal_ast.specs.Tree as tree
use Rattle.cal_ast.specs.Tree.{Tree}
use Rattle.cal_model.specs.Value.{Value, Num, Truth, Items}
use Rattle.cal_model.specs.Outcome.{Out}
use Rattle.cal_model.specs.Env.{Env}
use Rattle.cal_model.specs.Expression.{eval, prefixed, applied, with_right, chosen}
use Rattle.code_ir.specs.declared.instr.Instr.{Instr}
use Rattle.code_ir.specs.declared.instr.Instr.TheVariants as op
use Rattle.code_ir.specs.Effect.{Fails, effect}
use Rattle.code_ir.specs.Running.{State, step, obey, go_on, stop, Reaches, here, after}
use Rattle.lower_base.specs.Flat.{flat}
use Rattle.lower_base.specs.Names.{Name}
use Rattle.lower_base.specs.Held.{Holds, AreApart, AreBelow, AllApart, Keeps}
use Rattle.lower_base.specs.Placed.{StandsAt, World, state}
use Rattle.lower_base.specs.Following.{Follows, MayUse, Pushes, Chooses, CutsOff}
use Rattle.lower_base.specs.Coding.{prefix_instr, binary_instr}
use Rattle.lower_base.specs.Callees.{Function}
use Rattle.lower_base.specs.Calling.{HasRoom, Prepared, outside}
use Rattle.lower_base.proofs.Runs.{reaches_join, ends_join, obeys, follows_then, follows_more, follows_both, stands_left, stands_right}
use Rattle.lower_base.proofs.Keeping.{keeps_all, keeps_wider, keeps_join, holds_still, below_more, apart_first, apart_last}
use Rattle.lower_base.proofs.Truthful.{IsTruth, OnlyTruths}
use Rattle.lower_base.proofs.Effects.{Left, Acts, same_number, true_again, prefix_acts, binary_acts, goes_right}

-- an instruction that goes on to the next place
abbrev pub IsStraight : Instr → Type 0
IsStraight i = (code : _) (tokens : ℕ → List ℤ) (s : State) → obey code tokens s i ≡ go_on s (effect tokens i s.stack s.cells)

pub prefix_straight : (o : PrefixOp) → IsStraight (prefix_instr o)
prefix_straight prefixes.Not code tokens s = refl
prefix_straight prefixes.Neg code tokens s = refl
prefix_straight prefixes.BitNot code tokens s = refl

pub binary_straight : (o : BinOp) (i : Instr) → binary_instr o ≡ Some i → IsStraight i
binary_straight binaries.Or i e = cc
binary_straight binaries.And i e = cc
binary_straight binaries.BitOr i e = let same : op.Or ≡ i = cc in subst IsStraight same (λ code tokens s. refl)
binary_straight binaries.BitXor i e = let same : op.Xor ≡ i = cc in subst IsStraight same (λ code tokens s. refl)
binary_straight binaries.BitAnd i e = let same : op.And ≡ i = cc in subst IsStraight same (λ code tokens s. refl)
binary_straight binaries.Eq i e = let same : op.Eq ≡ i = cc in subst IsStraight same (λ code tokens s. refl)
binary_straight binaries.Ne i e = let same : op.Ne ≡ i = cc in subst IsStraight same (λ code tokens s. refl)
binary_straight binaries.Lt i e = let same : op.Lt ≡ i = cc in subst IsStraight same (λ code tokens s. refl)
binary_straight binaries.Le i e = let same : op.Le ≡ i = cc in subst IsStraight same (λ code tokens s. refl)
binary_straight binaries.Gt i e = let same : op.Gt ≡ i = cc in subst IsStraight same (λ code tokens s. refl)
binary_straight binaries.Ge i e = let same : op.Ge ≡ i = cc in subst IsStraight same (λ code tokens s. refl)
binary_straight binaries.Shl i e = let same : op.Shl ≡ i = cc in subst IsStraight same (λ code tokens s. refl)
binary_straight binaries.Shr i e = let same : op.Shr ≡ i = cc in subst IsStraight same (λ code tokens s. refl)
binary_straight binaries.Add i e = let same : op.Add ≡ i = cc in subst IsStraight same (λ code tokens s. refl)
binary_straight binaries.Sub i e = let same : op.Sub ≡ i = cc in subst IsStraight same (λ code tokens s. refl)
binary_straight binaries.Mul i e = let same : op.Mul ≡ i = cc in subst IsStraight same (λ code tokens s. refl)
binary_straight binaries.Div i e = let same : op.Div ≡ i = cc in subst IsStraight same (λ code tokens s. refl)
binary_straight binaries.Mod i e = let same : op.Mod ≡ i = cc in subst IsStraight same (λ code tokens s. refl)

-- ---- what runs do, put together

pub cut_wider : (w : World) (n k m : ℕ) (s : State) (c : Trap) → k ≤ m → CutsOff w n k s c → CutsOff w n m s c
cut_wider w n k m s c le cut = record { cells = cut.cells; ends = cut.ends; keeps = keeps_wider n m (omega arith) le cut.keeps }

pub cut_after : (w : World) (n k m : ℕ) (s t : State) (c : Trap) → n ≤ k → k ≤ m → Reaches w.code w.tokens s t → Keeps n k w.low w.high s.cells t.cells → CutsOff w k m t c → CutsOff w n m s c
cut_after w n k m s t c le ge r keeps cut = record {
  cells = cut.cells;
  ends = ends_join r cut.ends;
  keeps = keeps_join (keeps_wider n m (omega arith) ge keeps) (keeps_wider n m le (omega arith) cut.keeps);
}

-- what follows from a state on the way follows from the start
pub push_after : (w : World) (n k m base place end : ℕ) (stack : List ℤ) (frames : List ℕ) (before cells : List ℤ) (left now : ℕ) (o : Out Value) → n ≤ k → k ≤ m
    → Reaches w.code w.tokens (state base stack frames before left) (state place stack frames cells now) → Keeps n k w.low w.high before cells
    → Follows o (Pushes w k m (state place stack frames cells now) end) (CutsOff w k m (state place stack frames cells now))
    → Follows o (Pushes w n m (state base stack frames before left) end) (CutsOff w n m (state base stack frames before left))
push_after w n k m base place end stack frames before cells left now o le ge r keeps follows =
    follows_more o (Pushes w k m (state place stack frames cells now) end) (CutsOff w k m (state place stack frames cells now)) (Pushes w n m (state base stack frames before left) end) (CutsOff w n m (state base stack frames before left)) follows
    (λ v j p. record {
      number = p.number;
      is = p.is;
      cells = p.cells;
      reaches = reaches_join r p.reaches;
      keeps = keeps_join (keeps_wider n m (omega arith) ge keeps) (keeps_wider n m le (omega arith) p.keeps);
    })
    (λ c t. cut_after w n k m (state base stack frames before left) (state place stack frames cells now) c le ge r keeps t)

-- one instruction more, which works on the operands
pub acts_after : (w : World) (n m base place : ℕ) (top stack : List ℤ) (frames : List ℕ) (before cells : List ℤ) (left now : ℕ) (i : Instr) (o : Out Value) → IsStraight i → slice_get w.code.instrs place ≡ Some i
    → Reaches w.code w.tokens (state base stack frames before left) (state place top frames cells now) → Keeps n m w.low w.high before cells
    → Acts (effect w.tokens i top cells) stack cells now o
    → Follows o (Pushes w n m (state base stack frames before left) (place + 1)) (CutsOff w n m (state base stack frames before left))
acts_after w n m base place top stack frames before cells left now i o straight at r keeps acts =
    let s : State = state place top frames cells now in
    let steps : step w.code w.tokens s ≡ go_on s (effect w.tokens i top cells) = obeys w.code w.tokens s i at ∙ straight w.code w.tokens s in
    follows_more o (Left (effect w.tokens i top cells) stack cells now) (λ c. effect w.tokens i top cells ≡ Fails c) (Pushes w n m (state base stack frames before left) (place + 1)) (CutsOff w n m (state base stack frames before left)) acts
    (λ v k a. record {
      number = a.number;
      is = a.is;
      cells = cells;
      reaches = subst (λ x. Reaches w.code w.tokens (state base stack frames before left) (state (place + 1) (a.number ∷ stack) frames cells x)) (sym a.same)
          (reaches_join r (after (steps ∙ ap (go_on s) a.leaves) here));
      keeps = keeps;
    })
    (λ c e. record { cells = cells; ends = ends_join r (stop (steps ∙ ap (go_on s) e)); keeps = keeps })

-- one jump more
pub jump_after : (w : World) (n m base place end : ℕ) (stack : List ℤ) (frames : List ℕ) (before : List ℤ) (left : ℕ) (v : Value) (k : ℕ) → slice_get w.code.instrs place ≡ Some (op.Jump end)
    → Pushes w n m (state base stack frames before left) place v k → Pushes w n m (state base stack frames before left) end v k
jump_after w n m base place end stack frames before left v k at p = record {
  number = p.number;
  is = p.is;
  cells = p.cells;
  reaches = reaches_join p.reaches (after (obeys w.code w.tokens (state place (p.number ∷ stack) frames p.cells k) (op.Jump end) at) here);
  keeps = p.keeps;
}

-- what is pushed is the number of another value with the same numbers
pub push_same : (w : World) (n m : ℕ) (s : State) (end : ℕ) (v u : Value) (left : ℕ) → flat v ≡ flat u → Pushes w n m s end v left → Pushes w n m s end u left
push_same w n m s end v u left e p = record { number = p.number; is = sym e ∙ p.is; cells = p.cells; reaches = p.reaches; keeps = p.keeps }

-- a constant
pub const_pushes : (w : World) (n m base place : ℕ) (stack : List ℤ) (frames : List ℕ) (before cells : List ℤ) (left now : ℕ) (z : ℤ) (v : Value) → flat v ≡ z ∷ [] → slice_get w.code.instrs place ≡ Some (op.Const z)
    → Reaches w.code w.tokens (state base stack frames before left) (state place stack frames cells now) → Keeps n m w.low w.high before cells
    → Pushes w n m (state base stack frames before left) (place + 1) v now
const_pushes w n m base place stack frames before cells left now z v e at r keeps = record {
  number = z;
  is = e;
  cells = cells;
  reaches = reaches_join r (after (obeys w.code w.tokens (state place stack frames cells now) (op.Const z) at) here);
  keeps = keeps;
}

-- ---- what is chosen

-- the place that a choice goes on to when the value is known
chosen_place : (a : Bool) (number : ℤ) (near there : ℕ) → truth a ∷ [] ≡ number ∷ [] → (if is_true number then near else there) ≡ (if a then near else there)
chosen_place a number near there e =
    let same : truth a ≡ number = same_number (truth a) number e in
    ap (λ b. if b then near else there) (ap is_true (sym same) ∙ true_again a)

pub choice_reaches : (w : World) (n m base near there : ℕ) (stack : List ℤ) (frames : List ℕ) (before : List ℤ) (left : ℕ) (a : Bool) (k : ℕ) → (c : Chooses w n m (state base stack frames before left) near there (Truth a) k)
    → Reaches w.code w.tokens (state base stack frames before left) (state (if a then near else there) stack frames c.cells k)
choice_reaches w n m base near there stack frames before left a k c =
    subst (λ p. Reaches w.code w.tokens (state base stack frames before left) (state p stack frames c.cells k)) (chosen_place a c.number near there c.is) c.reaches

-- ---- forms

-- The cells from `floor` to `ceiling` may be used, if there are any.
module _ (fs : List Function) (globals names : List Name) (w : World) (env : Env) (frames : List ℕ) (floor ceiling : ℕ) where
  -- the cells of the names and of the globals lie below n, and outside those of routines
  abbrev pub Below : ℕ → Type 0
  Below n = AreBelow n names × AreBelow n globals × (floor ≤ n)

  abbrev pub Apart : Type 0
  Apart = AllApart w.low w.high names × AllApart w.low w.high globals × (floor < ceiling → AreApart floor ceiling w.low w.high)

  -- the cells hold what the names mean and what the globals do, and the cells of routines and those that may be used are
  -- there
  abbrev pub Held : List ℤ → Type 0
  Held cells = Holds names w.tokens cells env × Holds globals w.tokens cells (outside env.globals) × HasRoom fs w.high cells × (floor < ceiling → ceiling ≤ length cells)

  pub below_on : (n m : ℕ) → n ≤ m → Below n → Below m
  below_on n m le below = (below_more n m names le below.0, below_more n m globals le below.1, omega (arith, below.2, le))

  -- what code of an expression may use lies among these cells
  pub may_use : (n m : ℕ) (cells : List ℤ) → m ≤ ceiling → Below n → Apart → Held cells → MayUse w n m cells
  may_use n m cells le below apart holds less =
      let from = below.2 in
      let some : floor < ceiling = omega (arith, from, le, less) in
      let room = holds.3 some in
      (apart_last floor n m w.low w.high from (apart_first floor m ceiling w.low w.high le (apart.2 some)), omega (arith, room, le))

  pub prepared : (n : ℕ) (cells : List ℤ) → Below n → Apart → Held cells → Prepared w globals names fs n cells env
  prepared n cells below apart holds = record {
    apart = apart.0;
    globals_apart = apart.1;
    globals_below = below.1;
    holds = holds.0;
    holds_globals = holds.1;
    room = holds.2;
  }

  pub still : {n m : ℕ} {before after : List ℤ} → Keeps n m w.low w.high before after → Below n → Apart → Held before → Held after
  still keeps below apart holds = (
    holds_still names w.tokens env keeps below.0 apart.0 holds.0,
    holds_still globals w.tokens (outside env.globals) keeps below.1 apart.1 holds.1,
    λ some. let h = holds.2 some in let size = keeps.size in omega (arith, h, size),
    λ less. let h = holds.3 less in let size = keeps.size in omega (arith, h, size),
  )

  -- evaluating and the code come to the same from any operands, cells and turns
  abbrev pub Does : Tree → ℕ → ℕ → List Instr → ℕ → Type 0
  Does e base n code m = (stack cells : List ℤ) (left : ℕ) → StandsAt w.code.instrs base code → Below n → Apart → Held cells
      → Follows (eval e w.calls env left) (Pushes w n m (state base stack frames cells left) (base + length code)) (CutsOff w n m (state base stack frames cells left))

  abbrev pub Tests : Tree → ℕ → ℕ → ℕ → List Instr → ℕ → Type 0
  Tests e base n out code m = (stack cells : List ℤ) (left : ℕ) → StandsAt w.code.instrs base code → Below n → Apart → Held cells
      → Follows (eval e w.calls env left) (Chooses w n m (state base stack frames cells left) (base + length code) out) (CutsOff w n m (state base stack frames cells left))

  -- what evaluating gives, if anything, is a truth value
  abbrev pub Truthy : Tree → ℕ → Type 0
  Truthy e n = (cells : List ℤ) (left : ℕ) → Below n → Apart → Held cells → OnlyTruths (eval e w.calls env left)

  pub at_end : (o : Out Value) (n m p q : ℕ) (s : State) → p ≡ q → Follows o (Pushes w n m s p) (CutsOff w n m s) → Follows o (Pushes w n m s q) (CutsOff w n m s)
  at_end o n m p q s e h = subst (λ x. Follows o (Pushes w n m s x) (CutsOff w n m s)) e h

  -- ---- literals

  pub does_const : (z : ℤ) (v : Value) (base n : ℕ) (stack cells : List ℤ) (left : ℕ) → flat v ≡ z ∷ [] → StandsAt w.code.instrs base (op.Const z ∷ []) → Pushes w n n (state base stack frames cells left) (base + 1) v left
  does_const z v base n stack cells left e stands =
      const_pushes w n n base base stack frames cells cells left left z v e stands.0 here (keeps_all n n w.low w.high cells)

  -- ---- operators

  pub does_prefix : (o : PrefixOp) (e : Tree) (at base n m : ℕ) (code : List Instr) → Does e base n code m → Does (tree.prefix o e at) base n (code ++ prefix_instr o ∷ []) m
  does_prefix o e at base n m code does stack cells left stands below apart holds =
      let i : Instr = prefix_instr o in
      let place : slice_get w.code.instrs (base + length code) ≡ Some i = (stands_right w.code.instrs base code (i ∷ []) stands).0 in
      let end : base + length code + 1 ≡ base + length (code ++ i ∷ []) = omega (arith, length-append code (i ∷ [])) in
      let s : State = state base stack frames cells left in
      follows_then (eval e w.calls env left) (λ v k. prefixed o v k) (Pushes w n m s (base + length code)) (CutsOff w n m s) (Pushes w n m s (base + length (code ++ i ∷ []))) (CutsOff w n m s) (does stack cells left (stands_left w.code.instrs base code (i ∷ []) stands) below apart holds)
      (λ v k p. at_end (prefixed o v k) n m _ _ (state base stack frames cells left) end
      (acts_after w n m base (base + length code) (p.number ∷ stack) stack frames cells p.cells left k i (prefixed o v k) (prefix_straight o) place p.reaches p.keeps
      (prefix_acts o v p.number w.tokens stack p.cells k p.is)))
      (λ c t. t)

  pub does_binary : (o : BinOp) (i : Instr) (l r : Tree) (at base n k m : ℕ) (a b : List Instr) → binary_instr o ≡ Some i → n ≤ k → k ≤ m
      → Does l base n a k → Does r (base + length a) k b m → Does (tree.binary o l r at) base n (a ++ (b ++ i ∷ [])) m
  does_binary o i l r at base n k m a b e le ge first second stack cells left stands below apart holds =
      let rest = stands_right w.code.instrs base a (b ++ i ∷ []) stands in
      let place : slice_get w.code.instrs (base + length a + length b) ≡ Some i = (stands_right w.code.instrs (base + length a) b (i ∷ []) rest).0 in
      let end : base + length a + length b + 1 ≡ base + length (a ++ (b ++ i ∷ [])) = omega (arith, length-append a (b ++ i ∷ []), length-append b (i ∷ [])) in
      let s : State = state base stack frames cells left in
      let right : ℕ → Out Value = λ j. eval r w.calls env j in
      follows_then (eval l w.calls env left) (λ v j. with_right o v right j) (Pushes w n k s (base + length a)) (CutsOff w n k s) (Pushes w n m s (base + length (a ++ (b ++ i ∷ [])))) (CutsOff w n m s) (first stack cells left (stands_left w.code.instrs base a (b ++ i ∷ []) stands) below apart holds)
      (λ v j p. subst (λ (x : Out Value). Follows x (Pushes w n m s (base + length (a ++ (b ++ i ∷ [])))) (CutsOff w n m s)) (sym (goes_right o i v right j e))
      (follows_then (right j) (λ u h. applied o v u h) (Pushes w k m (state (base + length a) (p.number ∷ stack) frames p.cells j) (base + length a + length b)) (CutsOff w k m (state (base + length a) (p.number ∷ stack) frames p.cells j)) (Pushes w n m s (base + length (a ++ (b ++ i ∷ [])))) (CutsOff w n m s)
      (second (p.number ∷ stack) p.cells j (stands_left w.code.instrs (base + length a) b (i ∷ []) rest) (below_on n k le below) apart (still p.keeps below apart holds))
      (λ u h q. at_end (applied o v u h) n m _ _ s end
      (acts_after w n m base (base + length a + length b) (q.number ∷ p.number ∷ stack) stack frames cells q.cells left h i (applied o v u h) (binary_straight o i e) place
      (reaches_join p.reaches q.reaches) (keeps_join (keeps_wider n m (omega arith) ge p.keeps) (keeps_wider n m le (omega arith) q.keeps))
      (binary_acts o i v u p.number q.number w.tokens stack q.cells h e p.is q.is)))
      (λ c t. cut_after w n k m s (state (base + length a) (p.number ∷ stack) frames p.cells j) c le ge p.reaches p.keeps t)))
      (λ c t. cut_wider w n k m s c ge t)

  -- ---- conditions

  pub tests_value : (e : Tree) (base n m out : ℕ) (code : List Instr) → Does e base n code m → Tests e base n out (code ++ op.JumpIfNot out ∷ []) m
  tests_value e base n m out code does stack cells left stands below apart holds =
      let place : slice_get w.code.instrs (base + length code) ≡ Some (op.JumpIfNot out) = (stands_right w.code.instrs base code (op.JumpIfNot out ∷ []) stands).0 in
      let end : base + length code + 1 ≡ base + length (code ++ op.JumpIfNot out ∷ []) = omega (arith, length-append code (op.JumpIfNot out ∷ [])) in
      let s : State = state base stack frames cells left in
      follows_more (eval e w.calls env left) (Pushes w n m s (base + length code)) (CutsOff w n m s) (Chooses w n m s (base + length (code ++ op.JumpIfNot out ∷ [])) out) (CutsOff w n m s) (does stack cells left (stands_left w.code.instrs base code (op.JumpIfNot out ∷ []) stands) below apart holds)
      (λ v k p. record {
        number = p.number;
        is = p.is;
        cells = p.cells;
        reaches = subst (λ x. Reaches w.code w.tokens (state base stack frames cells left) (state (if is_true p.number then x else out) stack frames p.cells k)) end
            (reaches_join p.reaches (after (obeys w.code w.tokens (state (base + length code) (p.number ∷ stack) frames p.cells k) (op.JumpIfNot out) place) here));
        keeps = p.keeps;
      })
      (λ c t. t)

  -- what a choice does that comes after another part
  choice_after : (n k m base place near there : ℕ) (stack before cells : List ℤ) (left now : ℕ) (v u : Value) (j : ℕ) → n ≤ k → k ≤ m → flat v ≡ flat u
      → Reaches w.code w.tokens (state base stack frames before left) (state place stack frames cells now) → Keeps n k w.low w.high before cells
      → Chooses w k m (state place stack frames cells now) near there v j → Chooses w n m (state base stack frames before left) near there u j
  choice_after n k m base place near there stack before cells left now v u j le ge e r keeps c = record {
    number = c.number;
    is = sym e ∙ c.is;
    cells = c.cells;
    reaches = reaches_join r c.reaches;
    keeps = keeps_join (keeps_wider n m (omega arith) ge keeps) (keeps_wider n m le (omega arith) c.keeps);
  }

  both_choose : (n k m base place near there : ℕ) (stack before cells : List ℤ) (left now : ℕ) (u : Value) (j : ℕ) → n ≤ k → k ≤ m
      → Reaches w.code w.tokens (state base stack frames before left) (state place stack frames cells now) → Keeps n k w.low w.high before cells
      → Chooses w k m (state place stack frames cells now) near there u j
      → Follows (applied binaries.And (Truth true) u j) (Chooses w n m (state base stack frames before left) near there) (CutsOff w n m (state base stack frames before left))
  both_choose n k m base place near there stack before cells left now (Num z) j le ge r keeps c = tt
  both_choose n k m base place near there stack before cells left now (Truth b) j le ge r keeps c =
      choice_after n k m base place near there stack before cells left now (Truth b) (Truth b) j le ge refl r keeps c
  both_choose n k m base place near there stack before cells left now (Items vs) j le ge r keeps c = tt

  both_tests : (l r : Tree) (base n k m out : ℕ) (a b : List Instr) (stack cells : List ℤ) (left : ℕ) (v : Value) (j : ℕ) → n ≤ k → k ≤ m
      → Tests r (base + length a) k out b m → StandsAt w.code.instrs (base + length a) b → Below n → Apart → Held cells
      → IsTruth v → Chooses w n k (state base stack frames cells left) (base + length a) out v j
      → Follows (with_right binaries.And v (λ i. eval r w.calls env i) j) (Chooses w n m (state base stack frames cells left) (base + length (a ++ b)) out) (CutsOff w n m (state base stack frames cells left))
  both_tests l r base n k m out a b stack cells left (Num z) j le ge second stands below apart holds t c = absurd t
  both_tests l r base n k m out a b stack cells left (Items vs) j le ge second stands below apart holds t c = absurd t
  both_tests l r base n k m out a b stack cells left (Truth false) j le ge second stands below apart holds t c =
      record {
        number = truth false;
        is = refl;
        cells = c.cells;
        reaches = choice_reaches w n k base (base + length a) out stack frames cells left false j c;
        keeps = keeps_wider n m (omega arith) ge c.keeps;
      }
  both_tests l r base n k m out a b stack cells left (Truth true) j le ge second stands below apart holds t c =
      let s : State = state base stack frames cells left in
      let reached = choice_reaches w n k base (base + length a) out stack frames cells left true j c in
      let end : base + length a + length b ≡ base + length (a ++ b) = omega (arith, length-append a b) in
      let t2 : State = state (base + length a) stack frames c.cells j in
      follows_then (eval r w.calls env j) (λ u h. applied binaries.And (Truth true) u h) (Chooses w k m t2 (base + length a + length b) out) (CutsOff w k m t2) (Chooses w n m s (base + length (a ++ b)) out) (CutsOff w n m s)
      (second stack c.cells j stands (below_on n k le below) apart (still c.keeps below apart holds))
      (λ u h q. subst (λ x. Follows (applied binaries.And (Truth true) u h) (Chooses w n m s x out) (CutsOff w n m s)) end
      (both_choose n k m base (base + length a) (base + length a + length b) out stack cells c.cells left j u h le ge reached c.keeps q))
      (λ d q. cut_after w n k m s (state (base + length a) stack frames c.cells j) d le ge reached c.keeps q)

  pub tests_both : (l r : Tree) (at base n k m out : ℕ) (a b : List Instr) → Truthy l n → n ≤ k → k ≤ m
      → Tests l base n out a k → Tests r (base + length a) k out b m → Tests (tree.binary binaries.And l r at) base n out (a ++ b) m
  tests_both l r at base n k m out a b e le ge first second stack cells left stands below apart holds =
      let s : State = state base stack frames cells left in
      follows_then (eval l w.calls env left) (λ v j. with_right binaries.And v (λ i. eval r w.calls env i) j) (λ v j. Chooses w n k s (base + length a) out v j × IsTruth v) (λ c. CutsOff w n k s c × Unit {0}) (Chooses w n m s (base + length (a ++ b)) out) (CutsOff w n m s)
      (follows_both (eval l w.calls env left) (Chooses w n k s (base + length a) out) (CutsOff w n k s) (λ v j. IsTruth v) (λ c. Unit {0}) (first stack cells left (stands_left w.code.instrs base a b stands) below apart holds) (e cells left below apart holds))
      (λ v j p. both_tests l r base n k m out a b stack cells left v j le ge second (stands_right w.code.instrs base a b stands) below apart holds p.1 p.0)
      (λ c t. cut_wider w n k m s c ge t.0)

  -- ---- operators whose right side may not be evaluated

  -- the right side of `and`, with a jump after it
  right_of_both : (n m base place end : ℕ) (stack before : List ℤ) (left : ℕ) (u : Value) (j : ℕ) → slice_get w.code.instrs place ≡ Some (op.Jump end)
      → Pushes w n m (state base stack frames before left) place u j
      → Follows (applied binaries.And (Truth true) u j) (Pushes w n m (state base stack frames before left) end) (CutsOff w n m (state base stack frames before left))
  right_of_both n m base place end stack before left (Num z) j at p = tt
  right_of_both n m base place end stack before left (Truth b) j at p = jump_after w n m base place end stack frames before left (Truth b) j at p
  right_of_both n m base place end stack before left (Items vs) j at p = tt

  both_goes : (r : Tree) (base n k m out end : ℕ) (a b : List Instr) (stack cells : List ℤ) (left : ℕ) (v : Value) (j : ℕ) → n ≤ k → k ≤ m → end ≡ out + 1
      → Does r (base + length a) k b m → StandsAt w.code.instrs (base + length a) b → slice_get w.code.instrs (base + length a + length b) ≡ Some (op.Jump end) → slice_get w.code.instrs out ≡ Some (op.Const (pos 0))
      → Below n → Apart → Held cells
      → IsTruth v → Chooses w n k (state base stack frames cells left) (base + length a) out v j
      → Follows (with_right binaries.And v (λ i. eval r w.calls env i) j) (Pushes w n m (state base stack frames cells left) end) (CutsOff w n m (state base stack frames cells left))
  both_goes r base n k m out end a b stack cells left (Num z) j le ge e second stands jump const below apart holds t c = absurd t
  both_goes r base n k m out end a b stack cells left (Items vs) j le ge e second stands jump const below apart holds t c = absurd t
  both_goes r base n k m out end a b stack cells left (Truth false) j le ge e second stands jump const below apart holds t c =
      subst (λ x. Pushes w n m (state base stack frames cells left) x (Truth false) j) (sym e)
      (const_pushes w n m base out stack frames cells c.cells left j (pos 0) (Truth false) refl const (choice_reaches w n k base (base + length a) out stack frames cells left false j c) (keeps_wider n m (omega arith) ge c.keeps))
  both_goes r base n k m out end a b stack cells left (Truth true) j le ge e second stands jump const below apart holds t c =
      let reached = choice_reaches w n k base (base + length a) out stack frames cells left true j c in
      let s : State = state base stack frames cells left in
      follows_then (eval r w.calls env j) (λ u h. applied binaries.And (Truth true) u h) (Pushes w n m s (base + length a + length b)) (CutsOff w n m s) (Pushes w n m s end) (CutsOff w n m s)
      (push_after w n k m base (base + length a) (base + length a + length b) stack frames cells c.cells left j (eval r w.calls env j) le ge reached c.keeps
      (second stack c.cells j stands (below_on n k le below) apart (still c.keeps below apart holds)))
      (λ u h p. right_of_both n m base (base + length a + length b) end stack cells left u h jump p)
      (λ d q. q)

  pub does_both : (l r : Tree) (at base n k m out end : ℕ) (a b : List Instr) → Truthy l n → n ≤ k → k ≤ m
      → out ≡ base + length a + length b + 1 → end ≡ out + 1
      → Tests l base n out a k → Does r (base + length a) k b m → Does (tree.binary binaries.And l r at) base n (a ++ (b ++ op.Jump end ∷ op.Const (pos 0) ∷ [])) m
  does_both l r at base n k m out end a b e le ge out_is end_is first second stack cells left stands below apart holds =
      let tail : List Instr = op.Jump end ∷ op.Const (pos 0) ∷ [] in
      let s : State = state base stack frames cells left in
      let rest = stands_right w.code.instrs base a (b ++ tail) stands in
      let last = stands_right w.code.instrs (base + length a) b tail rest in
      let const : slice_get w.code.instrs out ≡ Some (op.Const (pos 0)) = subst (λ p. slice_get w.code.instrs p ≡ Some (op.Const (pos 0))) (sym out_is) last.1.0 in
      let finish : end ≡ base + length (a ++ (b ++ tail)) = omega (arith, length-append a (b ++ tail), length-append b tail) in
      at_end (eval (tree.binary binaries.And l r at) w.calls env left) n m end (base + length (a ++ (b ++ tail))) s finish
      (follows_then (eval l w.calls env left) (λ v j. with_right binaries.And v (λ i. eval r w.calls env i) j) (λ v j. Chooses w n k s (base + length a) out v j × IsTruth v) (λ c. CutsOff w n k s c × Unit {0}) (Pushes w n m s end) (CutsOff w n m s)
      (follows_both (eval l w.calls env left) (Chooses w n k s (base + length a) out) (CutsOff w n k s) (λ v j. IsTruth v) (λ c. Unit {0}) (first stack cells left (stands_left w.code.instrs base a (b ++ tail) stands) below apart holds) (e cells left below apart holds))
      (λ v j p. both_goes r base n k m out end a b stack cells left v j le ge end_is second (stands_left w.code.instrs (base + length a) b tail rest) last.0 const below apart holds p.1 p.0)
      (λ c t. cut_wider w n k m s c ge t.0))

  right_of_either : (n m base end : ℕ) (stack before : List ℤ) (left : ℕ) (u : Value) (j : ℕ)
      → Pushes w n m (state base stack frames before left) end u j
      → Follows (applied binaries.Or (Truth false) u j) (Pushes w n m (state base stack frames before left) end) (CutsOff w n m (state base stack frames before left))
  right_of_either n m base end stack before left (Num z) j p = tt
  right_of_either n m base end stack before left (Truth b) j p = p
  right_of_either n m base end stack before left (Items vs) j p = tt

  either_goes : (r : Tree) (base n k m right end : ℕ) (a b : List Instr) (stack cells : List ℤ) (left : ℕ) (v : Value) (j : ℕ) → n ≤ k → k ≤ m → end ≡ right + length b
      → Does r right k b m → StandsAt w.code.instrs right b → slice_get w.code.instrs (base + length a) ≡ Some (op.Const (pos 1)) → slice_get w.code.instrs (base + length a + 1) ≡ Some (op.Jump end)
      → Below n → Apart → Held cells
      → IsTruth v → Chooses w n k (state base stack frames cells left) (base + length a) right v j
      → Follows (with_right binaries.Or v (λ i. eval r w.calls env i) j) (Pushes w n m (state base stack frames cells left) end) (CutsOff w n m (state base stack frames cells left))
  either_goes r base n k m right end a b stack cells left (Num z) j le ge e second stands const jump below apart holds t c = absurd t
  either_goes r base n k m right end a b stack cells left (Items vs) j le ge e second stands const jump below apart holds t c = absurd t
  either_goes r base n k m right end a b stack cells left (Truth true) j le ge e second stands const jump below apart holds t c =
      jump_after w n m base (base + length a + 1) end stack frames cells left (Truth true) j jump
      (const_pushes w n m base (base + length a) stack frames cells c.cells left j (pos 1) (Truth true) refl const (choice_reaches w n k base (base + length a) right stack frames cells left true j c) (keeps_wider n m (omega arith) ge c.keeps))
  either_goes r base n k m right end a b stack cells left (Truth false) j le ge e second stands const jump below apart holds t c =
      let reached = choice_reaches w n k base (base + length a) right stack frames cells left false j c in
      let s : State = state base stack frames cells left in
      follows_then (eval r w.calls env j) (λ u h. applied binaries.Or (Truth false) u h) (Pushes w n m s end) (CutsOff w n m s) (Pushes w n m s end) (CutsOff w n m s)
      (push_after w n k m base right end stack frames cells c.cells left j (eval r w.calls env j) le ge reached c.keeps
      (at_end (eval r w.calls env j) k m (right + length b) end (state right stack frames c.cells j) (sym e)
      (second stack c.cells j stands (below_on n k le below) apart (still c.keeps below apart holds))))
      (λ u h p. right_of_either n m base end stack cells left u h p)
      (λ d q. q)

  pub does_either : (l r : Tree) (at base n k m right end : ℕ) (a b : List Instr) → Truthy l n → n ≤ k → k ≤ m
      → right ≡ base + length a + 2 → end ≡ right + length b
      → Tests l base n right a k → Does r right k b m → Does (tree.binary binaries.Or l r at) base n (a ++ (op.Const (pos 1) ∷ op.Jump end ∷ b)) m
  does_either l r at base n k m right end a b e le ge right_is end_is first second stack cells left stands below apart holds =
      let tail : List Instr = op.Const (pos 1) ∷ op.Jump end ∷ b in
      let s : State = state base stack frames cells left in
      let rest = stands_right w.code.instrs base a tail stands in
      let there : base + length a + 1 + 1 ≡ right = omega arith in
      let last : StandsAt w.code.instrs right b = subst (λ p. StandsAt w.code.instrs p b) there rest.1.1 in
      let finish : end ≡ base + length (a ++ tail) = omega (arith, length-append a tail) in
      at_end (eval (tree.binary binaries.Or l r at) w.calls env left) n m end (base + length (a ++ tail)) s finish
      (follows_then (eval l w.calls env left) (λ v j. with_right binaries.Or v (λ i. eval r w.calls env i) j) (λ v j. Chooses w n k s (base + length a) right v j × IsTruth v) (λ c. CutsOff w n k s c × Unit {0}) (Pushes w n m s end) (CutsOff w n m s)
      (follows_both (eval l w.calls env left) (Chooses w n k s (base + length a) right) (CutsOff w n k s) (λ v j. IsTruth v) (λ c. Unit {0}) (first stack cells left (stands_left w.code.instrs base a tail stands) below apart holds) (e cells left below apart holds))
      (λ v j p. either_goes r base n k m right end a b stack cells left v j le ge end_is second last rest.0 rest.1.0 below apart holds p.1 p.0)
      (λ c t. cut_wider w n k m s c ge t.0))

  -- ---- branches

  branch_goes : (first other : Tree) (base n k h m else_at end : ℕ) (a b c : List Instr) (stack cells : List ℤ) (left : ℕ) (v : Value) (j : ℕ) → n ≤ k → k ≤ h → h ≤ m → end ≡ else_at + length c
      → Does first (base + length a) k b h → Does other else_at h c m → StandsAt w.code.instrs (base + length a) b → slice_get w.code.instrs (base + length a + length b) ≡ Some (op.Jump end) → StandsAt w.code.instrs else_at c
      → Below n → Apart → Held cells
      → Chooses w n k (state base stack frames cells left) (base + length a) else_at v j
      → Follows (chosen v (λ i. eval first w.calls env i) (λ i. eval other w.calls env i) j) (Pushes w n m (state base stack frames cells left) end) (CutsOff w n m (state base stack frames cells left))
  branch_goes first other base n k h m else_at end a b c stack cells left (Num z) j le ge more e one two stands jump last below apart holds p = tt
  branch_goes first other base n k h m else_at end a b c stack cells left (Items vs) j le ge more e one two stands jump last below apart holds p = tt
  branch_goes first other base n k h m else_at end a b c stack cells left (Truth true) j le ge more e one two stands jump last below apart holds p =
      let reached = choice_reaches w n k base (base + length a) else_at stack frames cells left true j p in
      let s : State = state base stack frames cells left in
      follows_more (eval first w.calls env j) (Pushes w n h s (base + length a + length b)) (CutsOff w n h s) (Pushes w n m s end) (CutsOff w n m s)
      (push_after w n k h base (base + length a) (base + length a + length b) stack frames cells p.cells left j (eval first w.calls env j) le ge reached p.keeps
      (one stack p.cells j stands (below_on n k le below) apart (still p.keeps below apart holds)))
      (λ u i q. let wide : Pushes w n m s (base + length a + length b) u i = record { number = q.number; is = q.is; cells = q.cells; reaches = q.reaches; keeps = keeps_wider n m (omega arith) more q.keeps } in
      jump_after w n m base (base + length a + length b) end stack frames cells left u i jump wide)
      (λ d q. cut_wider w n h m s d more q)
  branch_goes first other base n k h m else_at end a b c stack cells left (Truth false) j le ge more e one two stands jump last below apart holds p =
      let reached = choice_reaches w n k base (base + length a) else_at stack frames cells left false j p in
      let wide : Keeps n h w.low w.high cells p.cells = keeps_wider n h (omega arith) ge p.keeps in
      let far : n ≤ h = omega arith in
      push_after w n h m base else_at end stack frames cells p.cells left j (eval other w.calls env j) far more reached wide
      (at_end (eval other w.calls env j) h m (else_at + length c) end (state else_at stack frames p.cells j) (sym e)
      (two stack p.cells j last (below_on n h far below) apart (still p.keeps below apart holds)))

  pub does_if : (test first other : Tree) (at base n k h m else_at end : ℕ) (a b c : List Instr) → n ≤ k → k ≤ h → h ≤ m
      → else_at ≡ base + length a + length b + 1 → end ≡ else_at + length c
      → Tests test base n else_at a k → Does first (base + length a) k b h → Does other else_at h c m → Does (tree.if_expr test first other at) base n (a ++ (b ++ op.Jump end ∷ c)) m
  does_if test first other at base n k h m else_at end a b c le ge more else_is end_is tests one two stack cells left stands below apart holds =
      let tail : List Instr = op.Jump end ∷ c in
      let s : State = state base stack frames cells left in
      let rest = stands_right w.code.instrs base a (b ++ tail) stands in
      let last = stands_right w.code.instrs (base + length a) b tail rest in
      let there : StandsAt w.code.instrs else_at c = subst (λ p. StandsAt w.code.instrs p c) (sym else_is) last.1 in
      let finish : end ≡ base + length (a ++ (b ++ tail)) = omega (arith, length-append a (b ++ tail), length-append b tail) in
      let wide : k ≤ m = omega arith in
      at_end (eval (tree.if_expr test first other at) w.calls env left) n m end (base + length (a ++ (b ++ tail))) s finish
      (follows_then (eval test w.calls env left) (λ v j. chosen v (λ i. eval first w.calls env i) (λ i. eval other w.calls env i) j) (Chooses w n k s (base + length a) else_at) (CutsOff w n k s) (Pushes w n m s end) (CutsOff w n m s)
      (tests stack cells left (stands_left w.code.instrs base a (b ++ tail) stands) below apart holds)
      (λ v j p. branch_goes first other base n k h m else_at end a b c stack cells left v j le ge more end_is one two (stands_left w.code.instrs (base + length a) b tail rest) last.0 there below apart holds p)
      (λ d t. cut_wider w n k m s d wide t))
