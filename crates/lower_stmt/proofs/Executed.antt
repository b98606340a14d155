-- Code of statements executes them.
use Rattle.std.proofs.Common.{◌≡◌, ℕ, zero, suc, ◌+◌, ◌<◌, ◌≤◌, ℤ, List, [], ◌∷◌, ◌++◌, length, refl, sym, subst, Some, arith, length-append, ap}
use Rattle.std.specs.Prelude.{slice_get}
use Rattle.rvc_base.specs.declared.scalar.Scalar.{Scalar}
use Rattle.cal_ast.specs.Tree.{Tree}
use Rattle.cal_model.specs.Value.{scalars_of_type}
use Rattle.cal_model.specs.Outcome.{Out, Gives, Traps, Lacks, Clashes, and_then, turn}
use Rattle.cal_model.specs.Env.{Env}
use Rattle.cal_model.specs.Expression.{eval, chosen}
use Rattle.cal_model.specs.Statement.{Runs, while_loop, exec, exec_all}
use Rattle.code_ir.specs.declared.instr.Instr.{Instr}
use Rattle.code_ir.specs.declared.instr.Instr.TheVariants as op
use Rattle.code_ir.specs.declared.outcome.Outcome.{Outcome}
use Rattle.code_ir.specs.Running.{State, Reaches, here, after, stop, go, Ends}
use Rattle.code_ir.proofs.Ends.{one-end}
use Rattle.lower_base.specs.Names.{Name, named, local}
use Rattle.lower_base.specs.Held.{AreBelow, AllApart, AreApart}
use Rattle.lower_stmt.specs.Changing.{AreTyped, HoldsVars, KeepsBut, NamesApart}
use Rattle.lower_base.specs.Coding.{AreArgs, IsCode, IsTest}
use Rattle.lower_stmt.specs.Stating.{IsStmt, AreStmts, IsKept, call, set, set_filled, set_item, set_items, set_list, set_part, set_part_list, set_whole, if_alone, if_else, while_code, each_code, each_counted, block_code, none, one_more, IsBlock, list_more, no_more, variable_more}
use Rattle.lower_base.specs.Starting.{IsStart, at_zero, at_value}
use Rattle.lower_base.specs.Placed.{StandsAt, World, state}
use Rattle.lower_base.specs.Following.{Follows}
use Rattle.lower_stmt.specs.Executing.{Arrives, BreaksOff, EndsLike, Executes}
use Rattle.lower_stmt.proofs.Fewer.{reaches_fewer}
use Rattle.lower_base.proofs.Runs.{ends_back, obeys, follows_then, follows_more, stands_left, stands_right}
use Rattle.lower_stmt.proofs.Scoping.{AreLaid, HoldsInside, laid_more}
use Rattle.lower_base.proofs.Coded.{grows, grows_args, grows_test}
use Rattle.lower_stmt.proofs.Evaluating.{may}
use Rattle.lower_stmt.proofs.Performing.{Moves, Performs, but_all, but_wider, moves_at, breaks_wider, move_after, jump_moves, stays, perform_none, perform_then, test_moves}
use Rattle.lower_base.proofs.Keeping.{apart_first, apart_last}
use Rattle.lower_base.specs.Listed.{list_named}
use Rattle.lower_base.specs.Parted.{number_of}
use Rattle.lower_stmt.proofs.Copying.{set_list_performs}
use Rattle.lower_stmt.proofs.DeepItems.{grows_kept, set_part_performs}
use Rattle.lower_stmt.proofs.NamedParts.{set_part_list_performs, set_whole_performs}
use Rattle.expr_lower.specs.Filling.{IsFill}
use Rattle.expr_lower.proofs.Filled.{grows_fill}
use Rattle.lower_stmt.proofs.FillingRuns.{set_filled_performs}
use Rattle.lower_stmt.proofs.ItemsKept.{set_items_performs}
use Rattle.lower_stmt.proofs.Setting.{set_performs, set_item_performs}
use Rattle.lower_stmt.specs.ListStarting.{IsListStart, local_of}
use Rattle.lower_stmt.proofs.Blocking.{block_more, block_none, blocked}
use Rattle.lower_stmt.proofs.ListBlocks.{block_list}
use Rattle.lower_stmt.proofs.ListStarting.{grows_list_start}
use Rattle.lower_stmt.proofs.Constants.{all_constant}
use Rattle.lower_stmt.proofs.CountedTurns.{counted_performs}
use Rattle.lower_stmt.proofs.Eaching.{each_performs}
use Rattle.lower_stmt.specs.Procedures.{Routines, no_routines}
use Rattle.lower_base.specs.Calling.{Serves}
use Rattle.lower_stmt.specs.Acting.{ServesRuns}
use Rattle.lower_stmt.proofs.ProcCalls.{run_performs}
use Rattle.lower_base.specs.Callees.{Function}
use Rattle.lower_stmt.specs.Bodies.{CutShort, KeepsOver}

module _ (rs : Routines) (outer : List Name) (w : World) (serves : Serves w outer rs.functions) (frames : List ℕ) where
  abbrev Inside : List Name → List ℤ → Env → Type 0
  Inside inner cells env = HoldsInside rs outer w.tokens w.low w.high inner cells env

  abbrev Laid : ℕ → List Name → Type 0
  Laid n inner = AreLaid rs outer w.tokens w.low w.high n inner

  -- ---- branches

  pub alone_performs : (inner : List Name) (M : Env → ℕ → Out Env) (test : Tree) (base n k m end : ℕ) (a b : List Instr) → n ≤ k → k ≤ m → IsTest rs.functions (inner ++ outer) test base n end a k → end ≡ base + length a + length b
      → Performs rs outer w serves frames inner M (base + length a) k b m
      → Performs rs outer w serves frames inner (λ env left. and_then (eval test w.calls env left) (λ v j. chosen v (λ i. M env i) (λ i. Gives env i) j)) base n (a ++ b) m
  alone_performs inner M test base n k m end a b le ge coded end_is first stack cells env left stands laid apart room holds =
      let s : State = state base stack frames cells left in
      let finish : end ≡ base + length (a ++ b) = omega (arith, length-append a b) in
      moves_at rs outer w serves frames (and_then (eval test w.calls env left) (λ v j. chosen v (λ i. M env i) (λ i. Gives env i) j)) inner n m end (base + length (a ++ b)) (length env.locals) s finish
      (test_moves rs outer w serves frames inner M (λ now i. Gives now i) test base n n k m end end a stack cells env left (omega arith) ge coded (stands_left w.code.instrs base a b stands) laid holds (may w n m n k cells cells (omega arith) ge apart room refl)
      (λ now j size few h. moves_at rs outer w serves frames (M env j) inner n m (base + length a + length b) end (length env.locals) (state (base + length a) stack frames now j) (sym end_is)
      (move_after rs outer w serves frames inner n k m m (base + length a) (base + length a) (base + length a + length b) (length env.locals) stack now now j j (M env j) le (omega arith) here (but_all (inner ++ outer) n m w.low w.high now)
      (first stack now env j (stands_right w.code.instrs base a b stands) (laid_more rs outer w.tokens w.low w.high n k inner le laid) (apart_last n k m w.low w.high le apart) (omega (arith, size, room)) h)))
      (λ now j size few h. stays rs outer w serves frames inner n m end stack now j env h))

  pub else_performs : (inner : List Name) (M N : Env → ℕ → Out Env) (test : Tree) (base n k h m else_at end : ℕ) (a b c : List Instr) → n ≤ k → k ≤ h → h ≤ m → IsTest rs.functions (inner ++ outer) test base n else_at a k
      → else_at ≡ base + length a + length b + 1 → end ≡ else_at + length c
      → Performs rs outer w serves frames inner M (base + length a) k b h → Performs rs outer w serves frames inner N else_at h c m
      → Performs rs outer w serves frames inner (λ env left. and_then (eval test w.calls env left) (λ v j. chosen v (λ i. M env i) (λ i. N env i) j)) base n (a ++ (b ++ op.Jump end ∷ c)) m
  else_performs inner M N test base n k h m else_at end a b c le ge more coded else_is end_is first other stack cells env left stands laid apart room holds =
      let tail : List Instr = op.Jump end ∷ c in
      let s : State = state base stack frames cells left in
      let rest = stands_right w.code.instrs base a (b ++ tail) stands in
      let last = stands_right w.code.instrs (base + length a) b tail rest in
      let there : StandsAt w.code.instrs else_at c = subst (λ p. StandsAt w.code.instrs p c) (sym else_is) last.1 in
      let finish : end ≡ base + length (a ++ (b ++ tail)) = omega (arith, length-append a (b ++ tail), length-append b tail) in
      let wide : k ≤ m = omega arith in
      let far : n ≤ h = omega arith in
      moves_at rs outer w serves frames (and_then (eval test w.calls env left) (λ v j. chosen v (λ i. M env i) (λ i. N env i) j)) inner n m end (base + length (a ++ (b ++ tail))) (length env.locals) s finish
      (test_moves rs outer w serves frames inner M N test base n n k m else_at end a stack cells env left (omega arith) wide coded (stands_left w.code.instrs base a (b ++ tail) stands) laid holds (may w n m n k cells cells (omega arith) wide apart room refl)
      (λ now j size few held.
      let t : State = state (base + length a) stack frames now j in
      follows_more (M env j) (Moves rs outer w serves frames inner n m t (base + length a + length b) (length env.locals)) (CutShort w (inner ++ outer) outer n m t) (Moves rs outer w serves frames inner n m t end (length env.locals)) (CutShort w (inner ++ outer) outer n m t)
      (move_after rs outer w serves frames inner n k h m (base + length a) (base + length a) (base + length a + length b) (length env.locals) stack now now j j (M env j) le more here (but_all (inner ++ outer) n m w.low w.high now)
      (first stack now env j (stands_left w.code.instrs (base + length a) b tail rest) (laid_more rs outer w.tokens w.low w.high n k inner le laid) (apart_first k h m w.low w.high more (apart_last n k m w.low w.high le apart)) (omega (arith, size, room, more)) held))
      (λ next i p. jump_moves rs outer w serves frames inner n m (base + length a) (base + length a + length b) end (length env.locals) stack now j next i last.0 p)
      (λ d q. q))
      (λ now j size few held.
      let t : State = state else_at stack frames now j in
      moves_at rs outer w serves frames (N env j) inner n m (else_at + length c) end (length env.locals) t (sym end_is)
      (move_after rs outer w serves frames inner n h m m else_at else_at (else_at + length c) (length env.locals) stack now now j j (N env j) far (omega arith) here (but_all (inner ++ outer) n m w.low w.high now)
      (other stack now env j there (laid_more rs outer w.tokens w.low w.high n h inner far laid) (apart_last n h m w.low w.high far apart) (omega (arith, size, room)) held))))

  -- ---- loops

  module _ (inner : List Name) (M : Env → ℕ → Out Env) (test : Tree) (base n k m head out : ℕ) (a b : List Instr) (le : n ≤ k) (ge : k ≤ m)
      (coded : IsTest rs.functions (inner ++ outer) test head k out a m) (head_is : head ≡ base + 2 + length b) (out_is : out ≡ head + length a + 1)
      (body : Performs rs outer w serves frames inner M (base + 2) n b k)
      (at_turn : slice_get w.code.instrs (base + 1) ≡ Some op.Turn) (at_body : StandsAt w.code.instrs (base + 2) b) (at_test : StandsAt w.code.instrs head a)
      (at_back : slice_get w.code.instrs (head + length a) ≡ Some (op.Jump (base + 1)))
      (laid : Laid n inner) (apart : AreApart n m w.low w.high) where
    -- from the condition on, if the loop goes on as this does
    from_test : (rest : Env → ℕ → Out Env) (stack cells : List ℤ) (env : Env) (left : ℕ) → m ≤ length cells → Inside inner cells env
        → ((now : List ℤ) (next : Env) (i : ℕ) → m ≤ length now → i < left → Inside inner now next → Follows (rest next i) (Moves rs outer w serves frames inner n m (state head stack frames now i) out (length next.locals)) (CutShort w (inner ++ outer) outer n m (state head stack frames now i)))
        → Follows (and_then (eval test w.calls env left) (λ v j. chosen v (λ i. turn i (λ h. and_then (M env h) rest)) (λ i. Gives env i) j)) (Moves rs outer w serves frames inner n m (state head stack frames cells left) out (length env.locals)) (CutShort w (inner ++ outer) outer n m (state head stack frames cells left))
    from_test rest stack cells env left room holds again =
        test_moves rs outer w serves frames inner (λ now i. turn i (λ h. and_then (M now h) rest)) (λ now i. Gives now i) test head n k m m out out a stack cells env left le (omega arith) coded at_test (laid_more rs outer w.tokens w.low w.high n k inner le laid) holds (may w n m k m cells cells le (omega arith) apart room refl)
        (λ now j size few held. one_turn j few now (omega (arith, size, room)) held)
        (λ now j size few held. stays rs outer w serves frames inner n m out stack now j env held)
      where
        -- a jump back to the turn, the turn, the body, and the loop again
        one_turn : (j : ℕ) → j ≤ left → (now : List ℤ) → m ≤ length now → Inside inner now env
            → Follows (turn j (λ h. and_then (M env h) rest)) (Moves rs outer w serves frames inner n m (state (head + length a) stack frames now j) out (length env.locals)) (CutShort w (inner ++ outer) outer n m (state (head + length a) stack frames now j))
        one_turn zero few now there held =
            let s : State = state (head + length a) stack frames now 0 in
            let t : State = state (base + 1) stack frames now 0 in
            record {
              cells = now;
              ends = go (obeys w.code w.tokens s (op.Jump (base + 1)) at_back) (stop (obeys w.code w.tokens t op.Turn at_turn));
              keeps = but_all (inner ++ outer) n m w.low w.high now;
            }
        one_turn (suc h) few now wide held =
            let s : State = state (head + length a) stack frames now (suc h) in
            let t : State = state (base + 1) stack frames now (suc h) in
            let place : base + 1 + 1 ≡ base + 2 = omega arith in
            let reached : Reaches w.code w.tokens s (state (base + 2) stack frames now h) = subst (λ p. Reaches w.code w.tokens s (state p stack frames now h)) place (after (obeys w.code w.tokens s (op.Jump (base + 1)) at_back) (after (obeys w.code w.tokens t op.Turn at_turn) here)) in
            let done : base + 2 + length b ≡ head = sym head_is in
            move_after rs outer w serves frames inner n n m m (head + length a) (base + 2) out (length env.locals) stack now now (suc h) h (and_then (M env h) rest) (omega arith) (omega arith) reached (but_all (inner ++ outer) n m w.low w.high now)
            (follows_then (M env h) rest (Moves rs outer w serves frames inner n k (state (base + 2) stack frames now h) (base + 2 + length b) (length env.locals)) (CutShort w (inner ++ outer) outer n k (state (base + 2) stack frames now h))
            (Moves rs outer w serves frames inner n m (state (base + 2) stack frames now h) out (length env.locals)) (CutShort w (inner ++ outer) outer n m (state (base + 2) stack frames now h))
            (body stack now env h at_body laid (apart_first n k m w.low w.high ge apart) (omega (arith, ge, wide)) held)
            (λ next i p.
            let fewer : i ≤ h = reaches_fewer p.reaches in
            let there : Reaches w.code w.tokens (state (base + 2) stack frames now h) (state head stack frames p.cells i) = subst (λ q. Reaches w.code w.tokens (state (base + 2) stack frames now h) (state q stack frames p.cells i)) done p.reaches in
            subst (λ z. Follows (rest next i) (Moves rs outer w serves frames inner n m (state (base + 2) stack frames now h) out z) (CutShort w (inner ++ outer) outer n m (state (base + 2) stack frames now h))) p.as_many
            (move_after rs outer w serves frames inner n n m m (base + 2) head out (length next.locals) stack now p.cells h i (rest next i) (omega arith) (omega arith) there (but_wider n m (omega arith) ge p.keeps)
            (again p.cells next i (let size = p.keeps.size in omega (arith, size, wide)) (omega (arith, fewer, few)) p.holds)))
            (λ c q. breaks_wider rs outer w serves frames (inner ++ outer) n n k m (state (base + 2) stack frames now h) c (omega arith) ge q))

    loop_moves : (most : ℕ) (stack cells : List ℤ) (env : Env) (left : ℕ) → left < most → m ≤ length cells → Inside inner cells env
        → Follows (while_loop most (λ now i. eval test w.calls now i) M env left) (Moves rs outer w serves frames inner n m (state head stack frames cells left) out (length env.locals)) (CutShort w (inner ++ outer) outer n m (state head stack frames cells left))
    loop_moves zero stack cells env left less room holds = absurd (omega arith)
    loop_moves (suc most) stack cells env left less room holds =
        from_test (λ next i. while_loop most (λ now i. eval test w.calls now i) M next i) stack cells env left room holds
        (λ now next i wide few held. loop_moves most stack now next i (omega (arith, few, less)) wide held)

  pub while_performs : (inner : List Name) (M : Env → ℕ → Out Env) (test : Tree) (base n k m head out : ℕ) (a b : List Instr) → n ≤ k → k ≤ m → IsTest rs.functions (inner ++ outer) test head k out a m
      → head ≡ base + 2 + length b → out ≡ head + length a + 1 → Performs rs outer w serves frames inner M (base + 2) n b k
      → Performs rs outer w serves frames inner (λ env left. while_loop (suc left) (λ now i. eval test w.calls now i) M env left) base n (op.Jump head ∷ op.Turn ∷ (b ++ (a ++ op.Jump (base + 1) ∷ []))) m
  while_performs inner M test base n k m head out a b le ge coded head_is out_is body stack cells env left stands laid apart room holds =
      let back : List Instr = op.Jump (base + 1) ∷ [] in
      let s : State = state base stack frames cells left in
      let place : base + 1 + 1 ≡ base + 2 = omega arith in
      let rest : StandsAt w.code.instrs (base + 2) (b ++ (a ++ back)) = subst (λ p. StandsAt w.code.instrs p (b ++ (a ++ back))) place stands.1.1 in
      let tail : StandsAt w.code.instrs head (a ++ back) = subst (λ p. StandsAt w.code.instrs p (a ++ back)) (sym head_is) (stands_right w.code.instrs (base + 2) b (a ++ back) rest) in
      let jump : slice_get w.code.instrs (head + length a) ≡ Some (op.Jump (base + 1)) = (stands_right w.code.instrs head a back tail).0 in
      let finish : out ≡ base + length (op.Jump head ∷ op.Turn ∷ (b ++ (a ++ back))) = omega (arith, length-append b (a ++ back), length-append a back) in
      moves_at rs outer w serves frames (while_loop (suc left) (λ now i. eval test w.calls now i) M env left) inner n m out (base + length (op.Jump head ∷ op.Turn ∷ (b ++ (a ++ back)))) (length env.locals) s finish
      (move_after rs outer w serves frames inner n n m m base head out (length env.locals) stack cells cells left left (while_loop (suc left) (λ now i. eval test w.calls now i) M env left) (omega arith) (omega arith)
      (after (obeys w.code w.tokens s (op.Jump head) stands.0) here) (but_all (inner ++ outer) n m w.low w.high cells)
      (loop_moves inner M test base n k m head out a b le ge coded head_is out_is body stands.1.0 (stands_left w.code.instrs (base + 2) b (a ++ back) rest) (stands_left w.code.instrs head a back tail) jump laid apart
      (suc left) stack cells env left (omega arith) room holds))

-- ---- cells

pub grows_start : {fs : List Function} {names : List Name} {t : Scalar} {c : ℕ} {start : Tree} {base n m : ℕ} {code : List Instr} → IsStart fs names t c start base n code m → n ≤ m
grows_start (at_zero base n) = omega arith
grows_start (at_value e base n m code g) = grows g

mutual
  pub grows_stmt : {rs : Routines} {names : List Name} {s : Tree} {base n m : ℕ} {code : List Instr} → IsStmt rs names s base n code m → n ≤ m
  grows_stmt (set names text value place at base n m c code x t e seat shape g) = grows g
  grows_stmt (set_list names text value place at base n c size x t l e seat shape g many) = omega arith
  grows_stmt (set_items names text items list place at base n m c size a x t e seat shape number g) = let x = grows_kept g in omega (arith, x)
  grows_stmt (set_whole names text from place from_at at base n c d x y e seat f there same) = omega arith
  grows_stmt (set_filled names text value place at base n m c a x e seat g) = let y = grows_fill g in omega (arith, y)
  grows_stmt (set_item names text spot value place at base n k m c size a b x t e seat shape g d) = let x = grows g in let y = grows d in omega (arith, x, y)
  grows_stmt (set_part names text places value place at base n k m c size a b x t e seat shape part g d) = let x = grows_kept g in let y = grows_fill d in omega (arith, x, y)
  grows_stmt (set_part_list names text from places place from_at at base n m c size d a x y t e seat shape part f there same g) = let x = grows_kept g in omega (arith, x)
  grows_stmt (call names text args place at base n m code p e g) = grows_args g
  grows_stmt (if_alone names test first at base n k m end a b g d e) = let x = grows_test g in let y = grows_all d in omega (arith, x, y)
  grows_stmt (if_else names test first other at base n k h m else_at end a b c g d q e f) = let x = grows_test g in let y = grows_all d in let z = grows_all q in omega (arith, x, y, z)
  grows_stmt (while_code names test body at base n k m head out a b d g e f) = let x = grows_all d in let y = grows_test g in omega (arith, x, y)
  grows_stmt (each_code names shape from to body text place at base n k j m turn_at start out a b c t e g d q f1 f2 f3) = let x = grows g in let y = grows d in let z = grows_all q in omega (arith, x, y, z)
  grows_stmt (each_counted names shape from to body text place at base n m low high c t e f g held q) = let x = grows_all q in omega (arith, x)
  grows_stmt (block_code names vars body at base n m code g) = grows_block g

  pub grows_block : {rs : Routines} {names : List Name} {vars body : Tree} {base n m : ℕ} {code : List Instr} → IsBlock rs names vars body base n code m → n ≤ m
  grows_block (no_more names body base n m code g) = grows_all g
  grows_block (variable_more names shape start vars body text place at base n k m a b t changes e g d) = let x = grows_start g in let y = grows_block d in omega (arith, x, y)
  grows_block (list_more names shape start vars body text place at base n k m a b t changes e g d) = let x = grows_list_start g in let y = grows_block d in omega (arith, x, y)

  pub grows_all : {rs : Routines} {names : List Name} {ss : Tree} {base n m : ℕ} {code : List Instr} → AreStmts rs names ss base n code m → n ≤ m
  grows_all (none names base n) = omega arith
  grows_all (one_more names s rest base n k m a b g d) = let x = grows_stmt g in let y = grows_all d in omega (arith, x, y)

-- ---- all forms

module _ (rs : Routines) (outer : List Name) (w : World) (serves : Serves w outer rs.functions) (frames : List ℕ) (runs : Runs) (acts : ServesRuns w runs outer rs.procedures) where
  mutual
    pub performs : {names : List Name} {s : Tree} {base n m : ℕ} {code : List Instr} (inner : List Name) → names ≡ inner ++ outer → IsStmt rs names s base n code m
        → Performs rs outer w serves frames inner (λ env left. exec s w.calls runs env left) base n code m
    performs inner is (set names text value place at base n m c code x t e seat shape g) =
        set_performs rs outer w serves frames runs inner text value place at base n m c code x t (subst (λ ns. named text ns ≡ Some x) is e) seat shape (subst (λ ns. IsCode rs.functions ns value base n code m) is g)
    performs inner is (set_list names text value place at base n c size x t l e seat shape g many) =
        set_list_performs rs outer w serves frames runs inner text value place at base n c size x t l (subst (λ ns. named text ns ≡ Some x) is e) seat shape (subst (λ ns. list_named ns value ≡ Some l) is g) many
    performs inner is (set_items names text items list place at base n m c size a x t e seat shape number g) =
        set_items_performs rs outer w serves frames runs inner text items list place at base n m c size a x t (subst (λ ns. named text ns ≡ Some x) is e) seat shape number (subst (λ ns. IsKept rs.functions ns n items base (n + size) a m) is g)
    performs inner is (set_whole names text from place from_at at base n c d x y e seat f there same) =
        set_whole_performs rs outer w serves frames runs inner text from place from_at at base n c d x y (subst (λ ns. named text ns ≡ Some x) is e) seat (subst (λ ns. named from ns ≡ Some y) is f) there same
    performs inner is (set_filled names text value place at base n m c a x e seat g) =
        set_filled_performs rs outer w serves frames runs inner text value place at base n m c a x (subst (λ ns. named text ns ≡ Some x) is e) seat (subst (λ ns. IsFill rs.functions ns value x.shape n base (n + scalars_of_type x.shape) a m) is g)
    performs inner is (set_item names text spot value place at base n k m c size a b x t e seat shape g d) =
        set_item_performs rs outer w serves frames runs inner text spot value place at base n k m c size a b x t (subst (λ ns. named text ns ≡ Some x) is e) seat shape (subst (λ ns. IsCode rs.functions ns spot base n a k) is g) (subst (λ ns. IsCode rs.functions ns value (base + length a) k b m) is d)
    performs inner is (set_part names text places value place at base n k m c size a b x t e seat shape part g d) =
        set_part_performs rs outer w serves frames runs inner text places value place at base n k m c size a b x t (subst (λ ns. named text ns ≡ Some x) is e) seat shape part
        (subst (λ ns. IsKept rs.functions ns n places base (n + number_of places + scalars_of_type t) a k) is g) (subst (λ ns. IsFill rs.functions ns value t (n + number_of places) (base + length a) k b m) is d)
    performs inner is (set_part_list names text from places place from_at at base n m c size d a x y t e seat shape part f there same g) =
        set_part_list_performs rs outer w serves frames runs inner text from places place from_at at base n m c size d a x y t (subst (λ ns. named text ns ≡ Some x) is e) seat shape part
        (subst (λ ns. named from ns ≡ Some y) is f) there same (subst (λ ns. IsKept rs.functions ns n places base (n + number_of places) a m) is g)
    performs inner is (call names text args place at base n m code p e g) =
        run_performs rs outer w serves frames runs acts inner text args place at base n m code p e (subst (λ ns. AreArgs rs.functions ns args base n code m) is g)
    performs inner is (if_alone names test first at base n k m end a b g d e) =
        alone_performs rs outer w serves frames inner (λ env left. exec_all first w.calls runs env left) test base n k m end a b (grows_test g) (grows_all d) (subst (λ ns. IsTest rs.functions ns test base n end a k) is g) e (performs_all inner is d)
    performs inner is (if_else names test first other at base n k h m else_at end a b c g d q e f) =
        else_performs rs outer w serves frames inner (λ env left. exec_all first w.calls runs env left) (λ env left. exec_all other w.calls runs env left) test base n k h m else_at end a b c (grows_test g) (grows_all d) (grows_all q) (subst (λ ns. IsTest rs.functions ns test base n else_at a k) is g) e f (performs_all inner is d) (performs_all inner is q)
    performs inner is (while_code names test body at base n k m head out a b d g e f) =
        while_performs rs outer w serves frames inner (λ env left. exec_all body w.calls runs env left) test base n k m head out a b (grows_all d) (grows_test g) (subst (λ ns. IsTest rs.functions ns test head k out a m) is g) e f (performs_all inner is d)
    performs inner is (each_code names shape from to body text place at base n k j m turn_at start out a b c t e g d q f1 f2 f3) =
        each_performs rs outer w serves frames runs inner shape from to text (λ env left. exec_all body w.calls runs env left) base n k j j m turn_at start out a b c t e
        (subst (λ ns. IsCode rs.functions ns from base (n + 3) a k) is g) (subst (λ ns. IsCode rs.functions ns to (base + length a) k b j) is d) f1 f2 f3 (omega arith) (grows_all q)
        (performs_all (local text t (n + 2) ∷ inner) (ap (λ ns. local text t (n + 2) ∷ ns) is) q)
    performs inner is (each_counted names shape from to body text place at base n m low high c t e f g held q) =
        counted_performs rs outer w serves frames runs inner shape from to text (λ env left. exec_all body w.calls runs env left) base n (n + 1) m low high c t e f g held (omega arith) (grows_all q)
        (λ env left. all_constant w.calls runs q env left) (performs_all (local text t n ∷ inner) (ap (λ ns. local text t n ∷ ns) is) q)
    performs inner is (block_code names vars body at base n m code g) = performs_block inner is g

    pub performs_block : {names : List Name} {vars body : Tree} {base n m : ℕ} {code : List Instr} (inner : List Name) → names ≡ inner ++ outer → IsBlock rs names vars body base n code m
        → Performs rs outer w serves frames inner (blocked rs outer w serves frames runs vars (λ env left. exec_all body w.calls runs env left)) base n code m
    performs_block inner is (no_more names body base n m code g) = block_none rs outer w serves frames runs inner (λ env left. exec_all body w.calls runs env left) base n m code (performs_all inner is g)
    performs_block inner is (variable_more names shape start vars body text place at base n k m a b t changes e g d) =
        let x = grows_start g in
        block_more rs outer w serves frames runs inner (λ env left. exec_all body w.calls runs env left) shape start vars text place at base n k m a b t changes e x (grows_block d)
        (subst (λ ns. IsStart rs.functions ns t n start base (n + 1) a k) is g) (performs_block (local text t n ∷ inner) (ap (λ ns. local text t n ∷ ns) is) d)
    performs_block inner is (list_more names shape start vars body text place at base n k m a b t changes e g d) =
        block_list rs outer w serves frames runs inner (λ env left. exec_all body w.calls runs env left) shape start vars text place at base n k m a b t changes e (grows_block d)
        (subst (λ ns. IsListStart rs.functions ns t n start base (n + scalars_of_type t) a k) is g) (performs_block (local_of text t n ∷ inner) (ap (λ ns. local_of text t n ∷ ns) is) d)

    pub performs_all : {names : List Name} {ss : Tree} {base n m : ℕ} {code : List Instr} (inner : List Name) → names ≡ inner ++ outer → AreStmts rs names ss base n code m
        → Performs rs outer w serves frames inner (λ env left. exec_all ss w.calls runs env left) base n code m
    performs_all inner is (none names base n) = perform_none rs outer w serves frames inner base n
    performs_all inner is (one_more names s rest base n k m a b g d) =
        perform_then rs outer w serves frames inner (λ env left. exec s w.calls runs env left) (λ env left. exec_all rest w.calls runs env left) base n k m a b (grows_stmt g) (grows_all d) (performs inner is g) (performs_all inner is d)

-- ---- and no other end

ends_like : (w : World) (names : List Name) (n m : ℕ) (s : State) (end : ℕ) (out : Out Env) (o : Outcome) (last : List ℤ) → Follows out (Arrives w names n m s end) (BreaksOff w names n m s) → Ends w.code w.tokens s o last → EndsLike w names n m s end out o last
ends_like w names n m s end (Gives env left) o last p r = (p.cells, p.keeps, p.holds, ends_back o last p.reaches r)
ends_like w names n m s end (Traps c) o last b r =
    let one = one-end w.code w.tokens _ b.cells r b.ends in
    (one.0, subst (λ cells. KeepsBut names n m w.low w.high s.cells cells) (sym one.1) b.keeps)
ends_like w names n m s end Lacks o last t r = tt
ends_like w names n m s end Clashes o last t r = tt

-- if nothing may be called
none_served : (w : World) (names : List Name) → Serves w names []
none_served w names text f e = cc

none_acts : (w : World) (runs : Runs) (names : List Name) → ServesRuns w runs names []
none_acts w runs names text p e = cc

all_kept : {names : List Name} {n m low high : ℕ} {before now : List ℤ} → KeepsOver names names n m low high before now → KeepsBut names n m low high before now
all_kept keeps = record { size = keeps.size; cell = λ c free apart none. keeps.cell c free apart none none }

pub executes : (names : List Name) (body : Tree) (base n m : ℕ) (code : List Instr) → AreBelow n names → NamesApart names → AreTyped names → AreStmts no_routines names body base n code m → Executes names body base n m code
executes names body base n m code below distinct typed coded = record {
  goes = λ w runs env stack frames cells left stands apart free room holds. arrives w runs env stack frames cells left stands apart free room holds;
  only = λ w runs env stack frames cells left stands apart free room holds o last r.
      ends_like w names n m (state base stack frames cells left) (base + length code) (exec_all body w.calls runs env left) o last (arrives w runs env stack frames cells left stands apart free room holds) r;
}
  where
    arrives : (w : World) (runs : Runs) (env : Env) (stack : List ℤ) (frames : List ℕ) (cells : List ℤ) (left : ℕ) → StandsAt w.code.instrs base code → AllApart w.low w.high names → AreApart n m w.low w.high → m ≤ length cells → HoldsVars names w.tokens cells env
        → Follows (exec_all body w.calls runs env left) (Arrives w names n m (state base stack frames cells left) (base + length code)) (BreaksOff w names n m (state base stack frames cells left))
    arrives w runs env stack frames cells left stands apart free room holds =
        let s : State = state base stack frames cells left in
        let serves : Serves w names [] = none_served w names in
        follows_more (exec_all body w.calls runs env left) (Moves no_routines names w serves frames [] n m s (base + length code) (length env.locals)) (CutShort w names names n m s) (Arrives w names n m s (base + length code)) (BreaksOff w names n m s)
        (performs_all no_routines names w serves frames runs (none_acts w runs names) [] refl coded stack cells env left stands (below, distinct, typed, apart) free room (holds, λ some. absurd (omega (arith, some))))
        (λ next j p. record { cells = p.cells; reaches = p.reaches; keeps = all_kept p.keeps; holds = p.holds.0 })
        (λ c q. record { cells = q.cells; ends = q.ends; keeps = all_kept q.keeps })
