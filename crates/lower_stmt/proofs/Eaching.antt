-- The code of a `foreach` does what executing it does.
use Rattle.std.proofs.Common.{◌≡◌, ℕ, suc, ◌+◌, ◌≤◌, ℤ, pos, ◌+ℤ◌, ◌-ℤ◌, List, [], ◌∷◌, ◌++◌, length, Bool, true, false, refl, sym, ◌∙◌, subst, None, Some, arith, length-append}
use Rattle.std.specs.Prelude.{slice_get, slice_set, if◌then◌else◌, int_lt, not, unsigned_abs}
use Rattle.std.proofs.lemmas.Int.{ints}
use Rattle.rvc_base.specs.declared.scalar.Scalar.{Scalar}
use Rattle.rvc_base.specs.Arithmetic.{truth}
use Rattle.rvc_base.specs.Storing.{IsSize}
use Rattle.rvc_base.specs.Width.{IsNum}
use Rattle.cal_ast.specs.Tree.{Tree}
use Rattle.cal_model.specs.Value.{Shape, Single, Value, Num, Truth, Items, stored}
use Rattle.cal_model.specs.Outcome.{Out, and_then}
use Rattle.cal_model.specs.Env.{Env, variable, with_local}
use Rattle.cal_model.specs.Expression.{eval, range_of, span, type_meant}
use Rattle.cal_model.specs.Statement.{Runs, for_loop, inside}
use Rattle.code_ir.specs.declared.instr.Instr.{Instr}
use Rattle.code_ir.specs.declared.instr.Instr.TheVariants as op
use Rattle.code_ir.specs.Running.{State, Reaches, here, after}
use Rattle.code_ir.proofs.Marks.{get-other}
use Rattle.lower_base.specs.Flat.{flat}
use Rattle.lower_base.specs.Names.{Name, local}
use Rattle.lower_base.specs.Meant.{single_meant}
use Rattle.lower_base.specs.Held.{AreApart, Keeps}
use Rattle.lower_base.specs.Coding.{IsCode}
use Rattle.lower_base.specs.Placed.{StandsAt, World, state}
use Rattle.lower_stmt.specs.Stating.{each_head, each_tail}
use Rattle.lower_base.specs.Following.{Follows, Pushes, CutsOff}
use Rattle.lower_base.proofs.Coded.{grows}
use Rattle.lower_stmt.proofs.Counting.{each_turns, load_on, store_on, test_on, there}
use Rattle.lower_base.proofs.Effects.{same_number}
use Rattle.lower_base.proofs.Keeping.{keeps_join, keeps_wider}
use Rattle.expr_lower.proofs.MeantIs.{meant_is, meant_sized}
use Rattle.lower_base.proofs.Runs.{reaches_join, obeys, follows_both, follows_then, stands_left, stands_right}
use Rattle.lower_base.proofs.Singles.{IsSingleValue}
use Rattle.lower_base.proofs.Storing.{set_there, set_written}
use Rattle.lower_stmt.proofs.Scoping.{AreLaid, HoldsInside, inside_still, laid_more}
use Rattle.lower_base.proofs.Written.{Written, written_keeps}
use Rattle.lower_stmt.proofs.Performing.{Moves, Performs, breaks_after, but_all, but_wider, cut_breaks, keeps_but, move_after, moves_at}
use Rattle.lower_stmt.specs.Procedures.{Routines}
use Rattle.lower_base.specs.Calling.{Serves}
use Rattle.lower_stmt.proofs.Evaluating.{does_there, may, singles_there}
use Rattle.lower_stmt.specs.Bodies.{CutShort}

-- the numbers of a range behind the first
range_count : (low high : ℤ) → int_lt high low ≡ false → high ≡ low +ℤ pos (unsigned_abs (high -ℤ low))
range_count low high e = grind (arith, ints, e)

module _ (rs : Routines) (outer : List Name) (w : World) (serves : Serves w outer rs.functions) (frames : List ℕ) (runs : Runs) where
  abbrev Inside : List Name → List ℤ → Env → Type 0
  Inside inner cells env = HoldsInside rs outer w.tokens w.low w.high inner cells env

  abbrev Laid : ℕ → List Name → Type 0
  Laid n inner = AreLaid rs outer w.tokens w.low w.high n inner

  module _ (inner : List Name) (text : List ℕ) (t : Scalar) (sized : IsSize t) (M : Env → ℕ → Out Env) (n h m place turn_at start out : ℕ) (c : List Instr) (le : n + 3 ≤ h) (ge : h ≤ m)
      (body : Performs rs outer w serves frames (local text t (n + 2) ∷ inner) M start h c m)
      (turn_is : turn_at ≡ place + 6) (start_is : start ≡ turn_at + 3)
      (head : StandsAt w.code.instrs place (each_head n t out)) (at_body : StandsAt w.code.instrs start c) (tail : StandsAt w.code.instrs (start + length c) (each_tail n turn_at out))
      (laid : Laid n inner) (apart : AreApart n m w.low w.high) where
    abbrev at_number : ℤ → Env → ℕ → Out Env
    at_number i now k = inside now (with_local (variable text (Single t) false (stored (Single t) (Num i))) now) M k

    -- from the comparison of the bounds on
    from_stored : (low high : ℤ) (stack cells : List ℤ) (env : Env) (left : ℕ) → IsNum low → IsNum high → m ≤ length cells → Inside inner cells env → slice_get cells n ≡ Some low → slice_get cells (n + 1) ≡ Some high
        → Follows (for_loop (span low high) low at_number env left) (Moves rs outer w serves frames inner n m (state (place + 1 + 1) stack frames cells left) out (length env.locals)) (CutShort w (inner ++ outer) outer n m (state (place + 1 + 1) stack frames cells left))
    from_stored low high stack cells env left x y room holds low_is high_is = go (int_lt high low) refl
      where
        p : ℕ
        p = place + 1 + 1

        compared : (b : Bool) → int_lt high low ≡ b → Reaches w.code w.tokens (state (place + 1 + 1) stack frames cells left) (state (if not b then place + 1 + 1 + 1 + 1 + 1 + 1 else out) stack frames cells left)
        compared b e =
            let q : ℕ = place + 1 + 1 in
            let lt : State = state (q + 1 + 1) (high ∷ low ∷ stack) frames cells left in
            let less : Reaches w.code w.tokens lt (state (q + 1 + 1 + 1) (truth (not b) ∷ stack) frames cells left) =
            subst (λ a. Reaches w.code w.tokens lt (state (q + 1 + 1 + 1) (truth (not a) ∷ stack) frames cells left)) e (after (obeys w.code w.tokens lt op.Le head.1.1.1.1.0) here) in
            reaches_join (load_on rs outer w serves frames q n stack cells left low head.1.1.0 low_is) (reaches_join (load_on rs outer w serves frames (q + 1) (n + 1) (low ∷ stack) cells left high head.1.1.1.0 high_is)
            (reaches_join less (test_on rs outer w serves frames (q + 1 + 1 + 1) out (not b) stack cells left head.1.1.1.1.1.0)))

        go : (b : Bool) → int_lt high low ≡ b → Follows (for_loop (if b then 0 else suc (unsigned_abs (high -ℤ low))) low at_number env left) (Moves rs outer w serves frames inner n m (state (place + 1 + 1) stack frames cells left) out (length env.locals)) (CutShort w (inner ++ outer) outer n m (state (place + 1 + 1) stack frames cells left))
        go true e = record { cells = cells; reaches = compared true e; keeps = but_all (inner ++ outer) n m w.low w.high cells; holds = holds; as_many = refl }
        go false e =
            let at : place + 1 + 1 + 1 + 1 + 1 + 1 ≡ turn_at = omega (arith, turn_is) in
            let start_at : start ≡ turn_at + 1 + 1 + 1 = omega (arith, start_is) in
            let rest = head.1.1.1.1.1.1 in
            let i_turn : slice_get w.code.instrs turn_at ≡ Some op.Turn = subst (λ q. slice_get w.code.instrs q ≡ Some op.Turn) at rest.0 in
            let i_load : slice_get w.code.instrs (turn_at + 1) ≡ Some (op.Load n) = subst (λ q. slice_get w.code.instrs (q + 1) ≡ Some (op.Load n)) at rest.1.0 in
            let i_store : slice_get w.code.instrs (turn_at + 1 + 1) ≡ Some (op.Store (n + 2) (Some t)) = subst (λ q. slice_get w.code.instrs (q + 1 + 1) ≡ Some (op.Store (n + 2) (Some t))) at rest.1.1.0 in
            move_after rs outer w serves frames inner n n m m (place + 1 + 1) turn_at out (length env.locals) stack cells cells left left (for_loop (suc (unsigned_abs (high -ℤ low))) low at_number env left) (omega arith) (omega arith)
            (subst (λ q. Reaches w.code w.tokens (state (place + 1 + 1) stack frames cells left) (state q stack frames cells left)) at (compared false e)) (but_all (inner ++ outer) n m w.low w.high cells)
            (each_turns rs outer w serves frames inner text t sized M n h m turn_at start out c le ge body i_turn i_load i_store start_at at_body tail laid apart (unsigned_abs (high -ℤ low)) low high stack cells env left (range_count low high e) x y room holds low_is high_is)

    -- from the two bounds on the stack on
    ranged : (a b : Value) (y z : ℤ) (base : ℕ) (stack before cells : List ℤ) (env : Env) (left k : ℕ) → flat a ≡ y ∷ [] → flat b ≡ z ∷ [] → IsSingleValue a → IsSingleValue b
        → Reaches w.code w.tokens (state base stack frames before left) (state place (z ∷ y ∷ stack) frames cells k) → Keeps n m w.low w.high before cells → m ≤ length before → Inside inner before env
        → Follows (range_of a b (λ low high. for_loop (span low high) low at_number env k)) (Moves rs outer w serves frames inner n m (state base stack frames before left) out (length env.locals)) (CutShort w (inner ++ outer) outer n m (state base stack frames before left))
    ranged (Truth a) b y z base stack before cells env left k e f x1 x2 r keeps room holds = tt
    ranged (Items a) b y z base stack before cells env left k e f x1 x2 r keeps room holds = tt
    ranged (Num a) (Truth b) y z base stack before cells env left k e f x1 x2 r keeps room holds = tt
    ranged (Num a) (Items b) y z base stack before cells env left k e f x1 x2 r keeps room holds = tt
    ranged (Num a) (Num b) y z base stack before cells env left k e f x1 x2 r keeps room holds =
        let low_same : y ≡ a = sym (same_number a y e) in
        let high_same : z ≡ b = sym (same_number b z f) in
        let size = keeps.size in
        let old_high = there cells (n + 1) (omega (arith, size, room, le, ge)) in
        let first_cells : List ℤ = slice_set cells (n + 1) b in
        let wrote : Written (n + 1) 1 cells first_cells = let g : n + 1 + 0 ≡ n + 1 = omega arith in subst (λ d. Written (n + 1) 1 cells (slice_set cells d b)) g (set_written cells (n + 1) 1 0 b (omega arith)) in
        let old_low = there first_cells n (let more = wrote.length_same in omega (arith, size, more, room, le, ge)) in
        let second_cells : List ℤ = slice_set first_cells n a in
        let wrote_low : Written n 1 first_cells second_cells = let g : n + 0 ≡ n = omega arith in subst (λ d. Written n 1 first_cells (slice_set first_cells d a)) g (set_written first_cells n 1 0 a (omega arith)) in
        let all : Keeps n m w.low w.high before second_cells = keeps_join keeps (keeps_join (written_keeps (n + 1) 1 n m w.low w.high cells first_cells (omega arith) (omega (arith, le, ge)) wrote) (written_keeps n 1 n m w.low w.high first_cells second_cells (omega arith) (omega (arith, le, ge)) wrote_low)) in
        let s : State = state base stack frames before left in
        let on : Reaches w.code w.tokens s (state (place + 1 + 1) stack frames second_cells k) =
        reaches_join (subst (λ v. Reaches w.code w.tokens s (state place (v ∷ a ∷ stack) frames cells k)) high_same (subst (λ v. Reaches w.code w.tokens s (state place (z ∷ v ∷ stack) frames cells k)) low_same r))
        (reaches_join (store_on rs outer w serves frames place (n + 1) None (a ∷ stack) cells k b old_high.0 head.0 old_high.1) (store_on rs outer w serves frames (place + 1) n None stack first_cells k a old_low.0 head.1.0 old_low.1)) in
        move_after rs outer w serves frames inner n n m m base (place + 1 + 1) out (length env.locals) stack before second_cells left k (for_loop (span a b) a at_number env k) (omega arith) (omega arith) on (keeps_but (inner ++ outer) all)
        (from_stored a b stack second_cells env k x1 x2 (let more = all.size in omega (arith, more, room)) (inside_still rs outer w.tokens w.low w.high n m inner before second_cells env laid all holds)
        (set_there first_cells n old_low.0 a old_low.1) (get-other first_cells n (n + 1) a (λ g. absurd (omega (arith, g))) ∙ set_there cells (n + 1) old_high.0 b old_high.1))

  -- the whole
  pub each_performs : (inner : List Name) (shape from to : Tree) (text : List ℕ) (M : Env → ℕ → Out Env) (base n k j h m turn_at start out : ℕ) (a b c : List Instr) (t : Scalar) → single_meant shape ≡ Some t
      → IsCode rs.functions (inner ++ outer) from base (n + 3) a k → IsCode rs.functions (inner ++ outer) to (base + length a) k b j
      → turn_at ≡ base + length a + length b + 6 → start ≡ turn_at + 3 → out ≡ start + length c + 9 → j ≤ h → h ≤ m
      → Performs rs outer w serves frames (local text t (n + 2) ∷ inner) M start h c m
      → Performs rs outer w serves frames inner (λ env left. and_then (type_meant shape w.calls env left) (λ s i. and_then (eval from w.calls env i) (λ x o. and_then (eval to w.calls env o) (λ y q. range_of x y (λ low high.
      for_loop (span low high) low (λ z now r. inside now (with_local (variable text s false (stored s (Num z))) now) M r) env q)))))
      base n (a ++ (b ++ (each_head n t out ++ (c ++ each_tail n turn_at out)))) m
  each_performs inner shape from to text M base n k j h m turn_at start out a b c t meant first second turn_is start_is out_is le ge body stack cells env left stands laid apart room holds =
      let names : List Name = inner ++ outer in
      let more : n + 3 ≤ k = grows first in
      let further : k ≤ j = grows second in
      let wide : n ≤ k = omega (arith, more) in
      let tail_code : List Instr = c ++ each_tail n turn_at out in
      let s : State = state base stack frames cells left in
      let place : ℕ = base + length a + length b in
      let rest = stands_right w.code.instrs base a (b ++ (each_head n t out ++ tail_code)) stands in
      let last = stands_right w.code.instrs (base + length a) b (each_head n t out ++ tail_code) rest in
      let head = stands_left w.code.instrs place (each_head n t out) tail_code last in
      let at_start : place + length (each_head n t out) ≡ start = omega (arith, turn_is, start_is) in
      let behind : StandsAt w.code.instrs start tail_code = subst (λ p. StandsAt w.code.instrs p tail_code) at_start (stands_right w.code.instrs place (each_head n t out) tail_code last) in
      let finish : out ≡ base + length (a ++ (b ++ (each_head n t out ++ tail_code))) = omega (arith, length-append a (b ++ (each_head n t out ++ tail_code)), length-append b (each_head n t out ++ tail_code), length-append c (each_tail n turn_at out), at_start, out_is) in
      let few : n ≤ n + 3 = omega arith in
      let low_laid : Laid (n + 3) inner = laid_more rs outer w.tokens w.low w.high n (n + 3) inner few laid in
      subst (λ (o : Out Shape). Follows (and_then o (λ s i. and_then (eval from w.calls env i) (λ x o. and_then (eval to w.calls env o) (λ y q. range_of x y (λ low high.
      for_loop (span low high) low (λ z now r. inside now (with_local (variable text s false (stored s (Num z))) now) M r) env q)))))
      (Moves rs outer w serves frames inner n m s (base + length (a ++ (b ++ (each_head n t out ++ tail_code)))) (length env.locals)) (CutShort w names outer n m s)) (sym (meant_is shape t w.calls env left meant))
      (follows_then (eval from w.calls env left) (λ x o. and_then (eval to w.calls env o) (λ y q. range_of x y (λ low high. for_loop (span low high) low (λ z now r. inside now (with_local (variable text (Single t) false (stored (Single t) (Num z))) now) M r) env q))) (λ x o. Pushes w (n + 3) k s (base + length a) x o × IsSingleValue x) (λ d. CutsOff w (n + 3) k s d × Unit {0}) (Moves rs outer w serves frames inner n m s (base + length (a ++ (b ++ (each_head n t out ++ tail_code)))) (length env.locals)) (CutShort w names outer n m s)
      (follows_both (eval from w.calls env left) (Pushes w (n + 3) k s (base + length a)) (CutsOff w (n + 3) k s) (λ x o. IsSingleValue x) (λ d. Unit {0})
      (does_there rs outer w serves frames inner first stack cells env left (stands_left w.code.instrs base a (b ++ (each_head n t out ++ tail_code)) stands) low_laid holds (may w n m (n + 3) k cells cells few (omega (arith, further, le, ge)) apart room refl))
      (singles_there rs outer w serves frames inner first cells env left (stands_left w.code.instrs base a (b ++ (each_head n t out ++ tail_code)) stands) low_laid holds (may w n m (n + 3) k cells cells few (omega (arith, further, le, ge)) apart room refl)))
      (λ x o pair.
      let p : Pushes w (n + 3) k s (base + length a) x o = pair.0 in
      let r : State = state (base + length a) (p.number ∷ stack) frames p.cells o in
      let still : Inside inner p.cells env = inside_still rs outer w.tokens w.low w.high (n + 3) k inner cells p.cells env low_laid p.keeps holds in
      let wider : Laid k inner = laid_more rs outer w.tokens w.low w.high n k inner wide laid in
      follows_then (eval to w.calls env o) (λ y q. range_of x y (λ low high. for_loop (span low high) low (λ z now r. inside now (with_local (variable text (Single t) false (stored (Single t) (Num z))) now) M r) env q))
      (λ y q. Pushes w k j r (base + length a + length b) y q × IsSingleValue y) (λ d. CutsOff w k j r d × Unit {0}) (Moves rs outer w serves frames inner n m s (base + length (a ++ (b ++ (each_head n t out ++ tail_code)))) (length env.locals)) (CutShort w names outer n m s)
      (follows_both (eval to w.calls env o) (Pushes w k j r (base + length a + length b)) (CutsOff w k j r) (λ y q. IsSingleValue y) (λ d. Unit {0})
      (does_there rs outer w serves frames inner second (p.number ∷ stack) p.cells env o (stands_left w.code.instrs (base + length a) b (each_head n t out ++ tail_code) rest) wider still (may w n m k j cells p.cells wide (omega (arith, le, ge)) apart room p.keeps.size))
      (singles_there rs outer w serves frames inner second p.cells env o (stands_left w.code.instrs (base + length a) b (each_head n t out ++ tail_code) rest) wider still (may w n m k j cells p.cells wide (omega (arith, le, ge)) apart room p.keeps.size)))
      (λ y q both.
      let v : Pushes w k j r (base + length a + length b) y q = both.0 in
      moves_at rs outer w serves frames (range_of x y (λ low high. for_loop (span low high) low (λ z now r. inside now (with_local (variable text (Single t) false (stored (Single t) (Num z))) now) M r) env q)) inner n m out (base + length (a ++ (b ++ (each_head n t out ++ tail_code)))) (length env.locals) s finish
      (ranged inner text t (meant_sized shape t meant) M n h m place turn_at start out c (omega (arith, more, further, le)) ge body turn_is start_is head (stands_left w.code.instrs start c (each_tail n turn_at out) behind) (stands_right w.code.instrs start c (each_tail n turn_at out) behind) laid apart
      x y p.number v.number base stack cells v.cells env left q p.is v.is pair.1 both.1 (reaches_join p.reaches v.reaches)
      (keeps_join (keeps_wider n m few (omega (arith, further, le, ge)) p.keeps) (keeps_wider n m wide (omega (arith, le, ge)) v.keeps)) room holds))
      (λ d q. breaks_after rs outer w serves frames names n m s r d p.reaches (but_wider n m few (omega (arith, further, le, ge)) (keeps_but names p.keeps)) (cut_breaks rs outer w serves frames names n k j m r d wide (omega (arith, le, ge)) q.0)))
      (λ d q. cut_breaks rs outer w serves frames names n (n + 3) k m s d few (omega (arith, further, le, ge)) q.0))
