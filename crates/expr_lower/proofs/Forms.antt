-- The code of each form of a list but a comprehension fills cells with what evaluating it gives.
use Rattle.std.proofs.Common.{◌≡◌, ℕ, suc, ◌+◌, ◌<◌, ◌≤◌, ℤ, List, [], ◌∷◌, ◌++◌, length, true, false, refl, sym, ap, subst, Option, None, Some, arith, length-append}
use Rattle.std.specs.Prelude.{slice_get, slice_set}
use Rattle.rvc_base.specs.declared.scalar.Scalar.{Scalar}
use Rattle.cal_ast.specs.Tree as tree
use Rattle.cal_ast.specs.Tree.{Tree}
use Rattle.cal_model.specs.Value.{Shape, Single, Many, Value, Num, Truth, Items, Values, Nil, Cons, count, scalars_of_type}
use Rattle.cal_model.specs.Outcome.{Out, Gives, and_then, known}
use Rattle.cal_model.specs.Env.{Env}
use Rattle.cal_model.specs.Expression.{eval, eval_all, chosen}
use Rattle.code_ir.specs.declared.instr.Instr.{Instr}
use Rattle.code_ir.specs.declared.instr.Instr.TheVariants as op
use Rattle.code_ir.specs.Running.{State, Reaches, here, after}
use Rattle.code_ir.proofs.Marks.{get-set}
use Rattle.lower_base.specs.declared.names.Seat.TheVariants.{Cell}
use Rattle.lower_base.specs.Callees.{Function}
use Rattle.lower_base.specs.Calling.{HasRoom, Serves, outside}
use Rattle.lower_base.specs.Coding.{IsCode, IsTest}
use Rattle.lower_base.specs.Flat.{flat, flat_all}
use Rattle.lower_base.specs.Following.{Chooses, CutsOff, Follows, Pushes}
use Rattle.lower_base.specs.Generators.{makes_none}
use Rattle.lower_base.specs.Held.{AllApart, AreApart, AreBelow, Holds, HoldsName, Keeps, SeatIsBelow, StandAt}
use Rattle.lower_base.specs.Names.{Name, named}
use Rattle.lower_base.specs.Parted.{number_of}
use Rattle.lower_base.specs.Placed.{StandsAt, World, state}
use Rattle.lower_base.proofs.Coded.{does_in, tests_in}
use Rattle.lower_base.proofs.Doing.{Apart, Below, Held, choice_reaches, still}
use Rattle.lower_base.proofs.Generated.{none_made}
use Rattle.lower_base.proofs.GivenKinds.{kinds_in}
use Rattle.lower_base.proofs.Keeping.{apart_first, apart_last, below_more, keeps_join, keeps_wider}
use Rattle.lower_base.proofs.Runs.{follows_both, follows_more, follows_then, obeys, reaches_join, stands_left, stands_right}
use Rattle.lower_base.proofs.Singles.{IsSingleValue, singles_in}
use Rattle.lower_base.proofs.Written.{stand_one, written_keeps}
use Rattle.expr_lower.specs.Filled.{Fills}
use Rattle.expr_lower.specs.Filling.{alike, take_instr}
use Rattle.expr_lower.specs.Shaped.{AreShaped, IsShaped}
use Rattle.expr_lower.proofs.Shapes.{alike_sizes, flat_shaped, kind_shaped, single_shaped, stand_two}
use Rattle.expr_lower.proofs.Steps.{Takes, cut_later, cut_on, set_keeps, stands_still, store_reaches, straight_reaches, take_straight, takes}

-- the run goes on to a place with the numbers of values in the cells from c on
pub record FillsAll (w : World) (n m c : ℕ) (t : Shape) (many : ℕ) (s : State) (end : ℕ) (vs : Values) (left : ℕ) : Type 0 where
  pub cells : List ℤ
  pub reaches : Reaches w.code w.tokens s (state end s.stack s.frames cells left)
  pub keeps : Keeps n m w.low w.high s.cells cells
  pub shaped : AreShaped t vs
  pub as_many : count vs ≡ many
  pub stands : StandAt (Cell c) w.tokens cells (flat_all vs)

module _ (fs : List Function) (globals : List Name) (w : World) (serves : Serves w globals fs) (frames : List ℕ) where
  -- the cells hold what the names mean, and those from c to m may be used
  pub record Ready (names : List Name) (env : Env) (c m : ℕ) (cells : List ℤ) : Type 0 where
    pub below : AreBelow c names × AreBelow c globals
    pub apart : AllApart w.low w.high names × AllApart w.low w.high globals
    pub free : AreApart c m w.low w.high
    pub room : m ≤ length cells
    pub held : Holds names w.tokens cells env × Holds globals w.tokens cells (outside env.globals) × HasRoom fs w.high cells

  -- what code of an expression of a single value asks for, whose cells lie from n on
  pub under : (names : List Name) (env : Env) (c m n : ℕ) (cells : List ℤ) → c ≤ n → Ready names env c m cells → Below fs globals names w env frames c m n
  under names env c m n cells le r = (below_more c n names le r.below.0, below_more c n globals le r.below.1, le)

  pub away : (names : List Name) (env : Env) (c m : ℕ) (cells : List ℤ) → Ready names env c m cells → Apart fs globals names w env frames c m
  away names env c m cells r = (r.apart.0, r.apart.1, λ less. r.free)

  pub holding : (names : List Name) (env : Env) (c m : ℕ) (cells : List ℤ) → Ready names env c m cells → Held fs globals names w env frames c m cells
  holding names env c m cells r = (r.held.0, r.held.1, r.held.2, λ less. r.room)

  -- of these cells some may be used
  pub ready_in : (names : List Name) (env : Env) (c m d k : ℕ) (cells : List ℤ) → c ≤ d → k ≤ m → Ready names env c m cells → Ready names env d k cells
  ready_in names env c m d k cells le ge r = record {
    below = (below_more c d names le r.below.0, below_more c d globals le r.below.1);
    apart = r.apart;
    free = apart_last c d k w.low w.high le (apart_first c k m w.low w.high ge r.free);
    room = let room = r.room in omega (arith, room, ge);
    held = r.held;
  }

  -- .. and when some were used
  pub ready_still : (names : List Name) (env : Env) (c m : ℕ) (before now : List ℤ) → Keeps c m w.low w.high before now → Ready names env c m before → Ready names env c m now
  ready_still names env c m before now keeps r = record {
    below = r.below;
    apart = r.apart;
    free = r.free;
    room = let room = r.room in let size = keeps.size in omega (arith, room, size);
    held =
        let h = still fs globals names w env frames c m keeps (under names env c m c before (omega arith) r) (away names env c m before r) (holding names env c m before r) in
        (h.0, h.1, h.2);
  }

  -- evaluating and the code come to the same from any operands, cells and turns
  abbrev pub FillsAt : List Name → Tree → Shape → ℕ → ℕ → List Instr → ℕ → Type 0
  FillsAt names e t c base code m = (env : Env) (stack cells : List ℤ) (left : ℕ) → StandsAt w.code.instrs base code → Ready names env c m cells
      → Follows (eval e w.calls env left) (Fills w c m c t (state base stack frames cells left) (base + length code)) (CutsOff w c m (state base stack frames cells left))

  abbrev pub FillsEach : List Name → Tree → Shape → ℕ → ℕ → List Instr → ℕ → Type 0
  FillsEach names es t c base code m = (env : Env) (stack cells : List ℤ) (left : ℕ) → StandsAt w.code.instrs base code → Ready names env c m cells
      → Follows (eval_all es w.calls env left) (FillsAll w c m c t (number_of es) (state base stack frames cells left) (base + length code)) (CutsOff w c m (state base stack frames cells left))

  -- what follows from a state on the way follows from the start
  pub fill_later : (n m d k c : ℕ) (t : Shape) (s u : State) (end : ℕ) (o : Out Value) → u.stack ≡ s.stack → u.frames ≡ s.frames → n ≤ d → k ≤ m → Reaches w.code w.tokens s u → Keeps n m w.low w.high s.cells u.cells
      → Follows o (Fills w d k c t u end) (CutsOff w d k u) → Follows o (Fills w n m c t s end) (CutsOff w n m s)
  fill_later n m d k c t s u end o stack frames le ge r keeps follows =
      follows_more o (Fills w d k c t u end) (CutsOff w d k u) (Fills w n m c t s end) (CutsOff w n m s) follows
      (λ v j p. record {
        cells = p.cells;
        reaches = subst (λ x. Reaches w.code w.tokens s (state end x s.frames p.cells j)) stack (subst (λ x. Reaches w.code w.tokens s (state end u.stack x p.cells j)) frames (reaches_join r p.reaches));
        keeps = keeps_join keeps (keeps_wider n m le ge p.keeps);
        shaped = p.shaped;
        stands = p.stands;
      })
      (λ e q. cut_later w n m s u e r keeps (cut_on w d k n m u e le ge q))

  pub fill_end : (n m c : ℕ) (t : Shape) (s : State) (end last : ℕ) (o : Out Value) → end ≡ last → Follows o (Fills w n m c t s end) (CutsOff w n m s) → Follows o (Fills w n m c t s last) (CutsOff w n m s)
  fill_end n m c t s end last o e h = subst (λ p. Follows o (Fills w n m c t s p) (CutsOff w n m s)) e h

  -- ---- single values

  -- a single value is pushed
  pub evaluated : (names : List Name) (env : Env) {e : Tree} {base n m : ℕ} {code : List Instr} (c : ℕ) → IsCode fs names e base n code m → c ≤ n → (stack cells : List ℤ) (left : ℕ) → StandsAt w.code.instrs base code → Ready names env c m cells
      → Follows (eval e w.calls env left) (λ v j. Pushes w n m (state base stack frames cells left) (base + length code) v j × IsSingleValue v) (λ d. CutsOff w n m (state base stack frames cells left) d × Unit {0})
  evaluated names env {e = e} {base = base} {n = n} {m = m} {code = code} c coded le stack cells left stands r =
      let below : Below fs globals names w env frames c m n = under names env c m n cells le r in
      follows_both (eval e w.calls env left) (Pushes w n m (state base stack frames cells left) (base + length code)) (CutsOff w n m (state base stack frames cells left)) (λ v j. IsSingleValue v) (λ d. Unit {0})
      (does_in fs globals names w serves env frames c m coded (omega arith) stack cells left stands below (away names env c m cells r) (holding names env c m cells r))
      (singles_in fs globals names w serves env c m cells (kinds_in fs globals w serves env.globals n cells below.1 r.apart.1 r.held.1 r.held.2) (away names env c m cells r) (holding names env c m cells r) coded (omega arith) left stands below)

  pub fills_one : (names : List Name) (e : Tree) (t : Scalar) (c base n m : ℕ) (code : List Instr) → IsCode fs names e base n code m → c + 1 ≤ n → n ≤ m → FillsAt names e (Single t) c base (code ++ op.Store c None ∷ []) m
  fills_one names e t c base n m code coded le ge env stack cells left stands r =
      let s : State = state base stack frames cells left in
      let i : Instr = op.Store c None in
      let end : base + length code + 1 ≡ base + length (code ++ i ∷ []) = omega (arith, length-append code (i ∷ [])) in
      let up : c ≤ n = omega (arith, le) in
      let room = r.room in
      follows_more (eval e w.calls env left) (λ v j. Pushes w n m s (base + length code) v j × IsSingleValue v) (λ d. CutsOff w n m s d × Unit {0}) (Fills w c m c (Single t) s (base + length (code ++ i ∷ []))) (CutsOff w c m s)
      (evaluated names env c coded up stack cells left (stands_left w.code.instrs base code (i ∷ []) stands) r)
      (λ v j q.
      let p : Pushes w n m s (base + length code) v j = q.0 in
      let size = p.keeps.size in
      let there : c < length p.cells = omega (arith, size, room, le, ge) in
      record {
        cells = slice_set p.cells c p.number;
        reaches = subst (λ x. Reaches w.code w.tokens s (state x stack frames (slice_set p.cells c p.number) j)) end
            (reaches_join p.reaches (store_reaches w (base + length code) c None stack frames p.cells j p.number there (stands_right w.code.instrs base code (i ∷ []) stands).0));
        keeps = keeps_join (keeps_wider c m up (omega arith) p.keeps) (set_keeps c m c w.low w.high p.cells p.number (omega arith) (omega (arith, le, ge)));
        shaped = single_shaped t v q.1;
        stands = stand_one c w.tokens (slice_set p.cells c p.number) (flat v) p.number p.is (get-set p.cells c p.number there);
      })
      (λ d q. cut_on w n m c m s d up (omega arith) q.0)

  -- ---- names

  pub fills_name : (names : List Name) (text : List ℕ) (t : Shape) (at c base n : ℕ) (x : Name) → named text names ≡ Some x → alike t x.shape ≡ true → c + scalars_of_type t ≤ n
      → FillsAt names (tree.variable text at) t c base (take_instr c (scalars_of_type t) x.seat ∷ []) n
  fills_name names text t at c base n x is same le env stack cells left stands r =
      let s : State = state base stack frames cells left in
      let h : HoldsName w.tokens cells env text x = r.held.0 text x is in
      let size : ℕ = scalars_of_type t in
      let shaped : IsShaped t h.value = kind_shaped t x.shape h.value same h.of_type in
      let below : SeatIsBelow c size x.seat = subst (λ k. SeatIsBelow c k x.seat) (sym (alike_sizes t x.shape same)) (r.below.0 text x is) in
      let room = r.room in
      let k : Takes c size x.seat w.tokens stack cells (flat h.value) = takes c size x.seat w.tokens stack cells (flat h.value) (flat_shaped t h.value shaped) h.stands below (omega (arith, room, le)) in
      let done : Fills w c n c t s (base + 1) h.value left = record {
        cells = k.now;
        reaches = straight_reaches w base (take_instr c size x.seat) stack stack frames cells k.now left (take_straight c size x.seat) stands.0 k.leaves;
        keeps = written_keeps c size c n w.low w.high cells k.now (omega arith) le (record { length_same = k.same_size; cell = k.others });
        shaped = shaped;
        stands = k.stands;
      } in
      subst (λ (o : Option Value). Follows (known o left) (Fills w c n c t s (base + 1)) (CutsOff w c n s)) (sym h.meant) done

  -- ---- items

  pub fills_none : (names : List Name) (t : Shape) (c base n : ℕ) → FillsEach names tree.nil t c base [] n
  fills_none names t c base n env stack cells left stands r =
      let s : State = state base stack frames cells left in
      let end : base ≡ base + 0 = omega arith in
      record {
        cells = cells;
        reaches = subst (λ p. Reaches w.code w.tokens s (state p stack frames cells left)) end here;
        keeps = record { size = refl; cell = λ d free apart. refl };
        shaped = tt;
        as_many = refl;
        stands = λ j z e. cc;
      }

  -- a comprehension that makes no element
  pub fills_nothing : (names : List Name) (item gens : Tree) (t : Shape) (at c base n : ℕ) → makes_none gens ≡ true → FillsAt names (tree.comp item gens at) (Many 0 t) c base [] n
  fills_nothing names item gens t at c base n none env stack cells left stands r =
      let s : State = state base stack frames cells left in
      let end : base ≡ base + 0 = omega arith in
      let given : eval (tree.comp item gens at) w.calls env left ≡ Gives (Items Nil) left = ap (λ (o : Out Values). and_then o (λ vs m. Gives (Items vs) m)) (none_made gens (λ inner k. eval item w.calls inner k) w.calls env left none) in
      subst (λ (o : Out Value). Follows o (Fills w c n c (Many 0 t) s (base + 0)) (CutsOff w c n s)) (sym given)
      (record {
        cells = cells;
        reaches = subst (λ p. Reaches w.code w.tokens s (state p stack frames cells left)) end here;
        keeps = record { size = refl; cell = λ d free apart. refl };
        shaped = (refl, tt);
        stands = λ j z e. cc;
      })

  pub fills_more : (names : List Name) (e es : Tree) (t : Shape) (c base n k m : ℕ) (a b : List Instr) → c + scalars_of_type t ≤ n → n ≤ k → k ≤ m
      → FillsAt names e t c base a k → FillsEach names es t (c + scalars_of_type t) (base + length a) b m → FillsEach names (tree.cons e es) t c base (a ++ b) m
  fills_more names e es t c base n k m a b le ge more first second env stack cells left stands r =
      let s : State = state base stack frames cells left in
      let d : ℕ = c + scalars_of_type t in
      let end : base + length a + length b ≡ base + length (a ++ b) = omega (arith, length-append a b) in
      let room = r.room in
      follows_then (eval e w.calls env left) (λ v j. and_then (eval_all es w.calls env j) (λ vs h. Gives (Cons v vs) h)) (Fills w c k c t s (base + length a)) (CutsOff w c k s)
      (FillsAll w c m c t (suc (number_of es)) s (base + length (a ++ b))) (CutsOff w c m s)
      (first env stack cells left (stands_left w.code.instrs base a b stands) (ready_in names env c m c k cells (omega arith) more r))
      (λ v j p.
      let u : State = state (base + length a) stack frames p.cells j in
      let keeps : Keeps c m w.low w.high cells p.cells = keeps_wider c m (omega arith) more p.keeps in
      let wide : length (flat v) ≡ scalars_of_type t = flat_shaped t v p.shaped in
      follows_then (eval_all es w.calls env j) (λ vs h. Gives (Cons v vs) h) (FillsAll w d m d t (number_of es) u (base + length a + length b)) (CutsOff w d m u)
      (FillsAll w c m c t (suc (number_of es)) s (base + length (a ++ b))) (CutsOff w c m s)
      (second env stack p.cells j (stands_right w.code.instrs base a b stands) (ready_in names env c m d m p.cells (omega arith) (omega arith) (ready_still names env c m cells p.cells keeps r)))
      (λ vs h q. record {
        cells = q.cells;
        reaches = subst (λ x. Reaches w.code w.tokens s (state x stack frames q.cells h)) end (reaches_join p.reaches q.reaches);
        keeps = keeps_join keeps (keeps_wider c m (omega arith) (omega arith) q.keeps);
        shaped = (p.shaped, q.shaped);
        as_many = ap suc q.as_many;
        stands = stand_two c w.tokens q.cells (flat v) (flat_all vs)
            (stands_still w c m p.cells q.cells (flat v) q.keeps (omega (arith, wide)) (omega (arith, wide, le, ge, more)) r.free p.stands)
            (subst (λ x. StandAt (Cell (c + x)) w.tokens q.cells (flat_all vs)) (sym wide) q.stands);
      })
      (λ f q. cut_later w c m s u f p.reaches keeps (cut_on w d m c m u f (omega arith) (omega arith) q)))
      (λ f q. cut_on w c k c m s f (omega arith) more q)

  pub fills_items : (names : List Name) (es : Tree) (t : Shape) (at c base m : ℕ) (code : List Instr) → FillsEach names es t c base code m → FillsAt names (tree.list es at) (Many (number_of es) t) c base code m
  fills_items names es t at c base m code all env stack cells left stands r =
      let s : State = state base stack frames cells left in
      follows_then (eval_all es w.calls env left) (λ vs j. Gives (Items vs) j) (FillsAll w c m c t (number_of es) s (base + length code)) (CutsOff w c m s) (Fills w c m c (Many (number_of es) t) s (base + length code)) (CutsOff w c m s)
      (all env stack cells left stands r)
      (λ vs j p. record { cells = p.cells; reaches = p.reaches; keeps = p.keeps; shaped = (p.as_many, p.shaped); stands = p.stands })
      (λ d q. q)

  -- ---- branches

  pub jump_fills : (n m c base place end : ℕ) (t : Shape) (stack before : List ℤ) (left : ℕ) (v : Value) (j : ℕ) → slice_get w.code.instrs place ≡ Some (op.Jump end)
      → Fills w n m c t (state base stack frames before left) place v j → Fills w n m c t (state base stack frames before left) end v j
  jump_fills n m c base place end t stack before left v j at p = record {
    cells = p.cells;
    reaches = reaches_join p.reaches (after (obeys w.code w.tokens (state place stack frames p.cells j) (op.Jump end) at) here);
    keeps = p.keeps;
    shaped = p.shaped;
    stands = p.stands;
  }

  branch_fills : (names : List Name) (first other : Tree) (t : Shape) (c base n k h m else_at end : ℕ) (a b d : List Instr) (env : Env) (stack cells : List ℤ) (left : ℕ) (v : Value) (j : ℕ) → c ≤ n → n ≤ k → k ≤ h → h ≤ m → end ≡ else_at + length d
      → FillsAt names first t c (base + length a) b h → FillsAt names other t c else_at d m → StandsAt w.code.instrs (base + length a) b → slice_get w.code.instrs (base + length a + length b) ≡ Some (op.Jump end) → StandsAt w.code.instrs else_at d
      → Ready names env c m cells
      → Chooses w n k (state base stack frames cells left) (base + length a) else_at v j
      → Follows (chosen v (λ i. eval first w.calls env i) (λ i. eval other w.calls env i) j) (Fills w c m c t (state base stack frames cells left) end) (CutsOff w c m (state base stack frames cells left))
  branch_fills names first other t c base n k h m else_at end a b d env stack cells left (Num z) j up le ge more e one two stands jump last r p = tt
  branch_fills names first other t c base n k h m else_at end a b d env stack cells left (Items vs) j up le ge more e one two stands jump last r p = tt
  branch_fills names first other t c base n k h m else_at end a b d env stack cells left (Truth true) j up le ge more e one two stands jump last r p =
      let s : State = state base stack frames cells left in
      let u : State = state (base + length a) stack frames p.cells j in
      let reached : Reaches w.code w.tokens s u = choice_reaches w n k base (base + length a) else_at stack frames cells left true j p in
      let keeps : Keeps c m w.low w.high cells p.cells = keeps_wider c m up (omega (arith, ge, more)) p.keeps in
      follows_more (eval first w.calls env j) (Fills w c m c t s (base + length a + length b)) (CutsOff w c m s) (Fills w c m c t s end) (CutsOff w c m s)
      (fill_later c m c h c t s u (base + length a + length b) (eval first w.calls env j) refl refl (omega arith) more reached keeps
      (one env stack p.cells j stands (ready_in names env c m c h p.cells (omega arith) more (ready_still names env c m cells p.cells keeps r))))
      (λ x i q. jump_fills c m c base (base + length a + length b) end t stack cells left x i jump q)
      (λ f q. q)
  branch_fills names first other t c base n k h m else_at end a b d env stack cells left (Truth false) j up le ge more e one two stands jump last r p =
      let s : State = state base stack frames cells left in
      let u : State = state else_at stack frames p.cells j in
      let reached : Reaches w.code w.tokens s u = choice_reaches w n k base (base + length a) else_at stack frames cells left false j p in
      let keeps : Keeps c m w.low w.high cells p.cells = keeps_wider c m up (omega (arith, ge, more)) p.keeps in
      fill_later c m c m c t s u end (eval other w.calls env j) refl refl (omega arith) (omega arith) reached keeps
      (fill_end c m c t u (else_at + length d) end (eval other w.calls env j) (sym e)
      (two env stack p.cells j last (ready_still names env c m cells p.cells keeps r)))

  pub fills_either : (names : List Name) (test first other : Tree) (t : Shape) (at c base n k h m else_at end : ℕ) (a b d : List Instr) → c ≤ n → n ≤ k → k ≤ h → h ≤ m
      → else_at ≡ base + length a + length b + 1 → end ≡ else_at + length d
      → IsTest fs names test base n else_at a k → FillsAt names first t c (base + length a) b h → FillsAt names other t c else_at d m → FillsAt names (tree.if_expr test first other at) t c base (a ++ (b ++ op.Jump end ∷ d)) m
  fills_either names test first other t at c base n k h m else_at end a b d up le ge more else_is end_is test_is one two env stack cells left stands r =
      let tail : List Instr = op.Jump end ∷ d in
      let s : State = state base stack frames cells left in
      let rest = stands_right w.code.instrs base a (b ++ tail) stands in
      let last = stands_right w.code.instrs (base + length a) b tail rest in
      let there : StandsAt w.code.instrs else_at d = subst (λ p. StandsAt w.code.instrs p d) (sym else_is) last.1 in
      let finish : end ≡ base + length (a ++ (b ++ tail)) = omega (arith, length-append a (b ++ tail), length-append b tail, else_is, end_is) in
      fill_end c m c t s end (base + length (a ++ (b ++ tail))) (eval (tree.if_expr test first other at) w.calls env left) finish
      (follows_then (eval test w.calls env left) (λ v j. chosen v (λ i. eval first w.calls env i) (λ i. eval other w.calls env i) j) (Chooses w n k s (base + length a) else_at) (CutsOff w n k s) (Fills w c m c t s end) (CutsOff w c m s)
      (tests_in fs globals names w serves env frames c m test_is (omega (arith, ge, more)) stack cells left (stands_left w.code.instrs base a (b ++ tail) stands) (under names env c m n cells up r) (away names env c m cells r) (holding names env c m cells r))
      (λ v j p. branch_fills names first other t c base n k h m else_at end a b d env stack cells left v j up le ge more end_is one two (stands_left w.code.instrs (base + length a) b tail rest) last.0 there r p)
      (λ f q. cut_on w n k c m s f up (omega (arith, ge, more)) q))
