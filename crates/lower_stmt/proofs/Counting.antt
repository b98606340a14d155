-- The turns of a `foreach`.
use Rattle.std.proofs.Common.{◌≡◌, ℕ, zero, suc, ◌+◌, ◌<◌, ◌≤◌, inl, inr, ⊎_elim, ℤ, pos, ◌+ℤ◌, List, ◌∷◌, ◌++◌, length, get_or, Bool, true, false, refl, sym, ap, ◌∙◌, subst, Option, None, Some, arith}
use Rattle.std.specs.Prelude.{slice_get, slice_set, if◌then◌else◌, int_lt}
use Rattle.std.specs.Str.{bytes_eq}
use Rattle.std.proofs.lemmas.Int.{ints}
use Rattle.std.proofs.lemmas.Option.{slice_get-get_or}
use Rattle.rvc_base.specs.declared.scalar.Scalar.{Scalar}
use Rattle.rvc_base.specs.declared.trap.Trap.TheVariants.{Overflow}
use Rattle.rvc_base.specs.Arithmetic as arithmetic
use Rattle.rvc_base.specs.Arithmetic.{truth}
use Rattle.rvc_base.specs.Storing.{conv, IsSize}
use Rattle.rvc_base.specs.Width.{IsNum}
use Rattle.cal_model.specs.Value.{Single, Num, stored, scalars_of_type}
use Rattle.cal_model.specs.Outcome.{Out, Gives, and_then}
use Rattle.cal_model.specs.Env.{Var, Env, variable, with_local, back_to}
use Rattle.cal_model.specs.Statement.{for_loop, inside}
use Rattle.cal_model.proofs.Numbers.{num-is}
use Rattle.code_ir.specs.declared.instr.Instr.{Instr}
use Rattle.code_ir.specs.declared.instr.Instr.TheVariants as op
use Rattle.code_ir.specs.Effect.{push_computed, stored as in_cell}
use Rattle.code_ir.specs.Running.{State, step, go_on, Reaches, here, after, stop}
use Rattle.code_ir.proofs.Marks.{get-other}
use Rattle.lower_base.specs.declared.names.Seat.{Seat}
use Rattle.lower_base.specs.declared.names.Seat.TheVariants.{Cell, Tokens}
use Rattle.lower_base.specs.Names.{Name, named, local}
use Rattle.lower_base.specs.Held.{AreApart, Keeps, SeatIsApart, SeatIsBelow}
use Rattle.lower_base.specs.Placed.{StandsAt, World, state}
use Rattle.lower_stmt.specs.Stating.{each_tail}
use Rattle.lower_base.specs.Following.{Follows}
use Rattle.lower_base.proofs.Coded.{load_leaves}
use Rattle.lower_base.proofs.Runs.{reaches_join, obeys, follows_then}
use Rattle.lower_base.proofs.Storing.{set_written, set_there, single_stored, store_leaves}
use Rattle.lower_stmt.proofs.Scoping.{AreLaid, HoldsInside, choose_name, inside_still, laid_below, laid_more, outer_below}
use Rattle.lower_base.proofs.Written.{Written, written_keeps}
use Rattle.lower_stmt.proofs.Performing.{Moves, Performs, but_all, but_join, keeps_but, breaks_after, move_after}
use Rattle.lower_base.proofs.Keeping.{apart_last}
use Rattle.lower_stmt.proofs.Locals.{but_local, local_held, popped}
use Rattle.lower_stmt.specs.Procedures.{Routines}
use Rattle.lower_base.specs.Calling.{Serves}
use Rattle.lower_stmt.specs.Bodies.{CutShort, KeepsOver}

-- a cell that is there holds a number
pub there : (cells : List ℤ) (c : ℕ) → c < length cells → (y : ℤ) × (slice_get cells c ≡ Some y)
there cells c less = (get_or cells c (pos 0), slice_get-get_or cells c (pos 0) less)

-- ---- numbers

at_last : (i high : ℤ) → high ≡ i +ℤ pos 0 → int_lt i high ≡ false
at_last i high e = grind (arith, ints, e)

not_last : (i high : ℤ) (q : ℕ) → high ≡ i +ℤ pos (suc q) → int_lt i high ≡ true
not_last i high q e = grind (arith, ints, e)

pub next_high : (i high : ℤ) (q : ℕ) → high ≡ i +ℤ pos (suc q) → high ≡ (i +ℤ pos 1) +ℤ pos q
next_high i high q e = e ∙ omega (arith, ints)

next_num : (i high : ℤ) (q : ℕ) → high ≡ i +ℤ pos (suc q) → IsNum i → IsNum high → IsNum (i +ℤ pos 1)
next_num i high q e x y = omega (arith, ints, e, x, y)

module _ (rs : Routines) (outer : List Name) (w : World) (serves : Serves w outer rs.functions) (frames : List ℕ) where
  abbrev Inside : List Name → List ℤ → Env → Type 0
  Inside inner cells env = HoldsInside rs outer w.tokens w.low w.high inner cells env

  abbrev Laid : ℕ → List Name → Type 0
  Laid n inner = AreLaid rs outer w.tokens w.low w.high n inner

  -- ---- steps

  abbrev On : State → State → Type 0
  On s t = Reaches w.code w.tokens s t

  pub load_on : (p c : ℕ) (stack cells : List ℤ) (left : ℕ) (z : ℤ) → slice_get w.code.instrs p ≡ Some (op.Load c) → slice_get cells c ≡ Some z → On (state p stack frames cells left) (state (p + 1) (z ∷ stack) frames cells left)
  load_on p c stack cells left z at e =
      let s : State = state p stack frames cells left in
      after (obeys w.code w.tokens s (op.Load c) at ∙ ap (go_on s) (load_leaves c w.tokens stack cells z e)) here

  pub store_on : (p c : ℕ) (t : Option Scalar) (stack cells : List ℤ) (left : ℕ) (z y : ℤ) → slice_get w.code.instrs p ≡ Some (op.Store c t) → slice_get cells c ≡ Some y
      → On (state p (z ∷ stack) frames cells left) (state (p + 1) stack frames (slice_set cells c (in_cell t z)) left)
  store_on p c t stack cells left z y at e =
      let s : State = state p (z ∷ stack) frames cells left in
      after (obeys w.code w.tokens s (op.Store c t) at ∙ ap (go_on s) (store_leaves c t w.tokens stack cells z y e)) here

  pub test_on : (p out : ℕ) (b : Bool) (stack cells : List ℤ) (left : ℕ) → slice_get w.code.instrs p ≡ Some (op.JumpIfNot out) → On (state p (truth b ∷ stack) frames cells left) (state (if b then p + 1 else out) stack frames cells left)
  test_on p out true stack cells left at = after (obeys w.code w.tokens (state p (truth true ∷ stack) frames cells left) (op.JumpIfNot out) at) here
  test_on p out false stack cells left at = after (obeys w.code w.tokens (state p (truth false ∷ stack) frames cells left) (op.JumpIfNot out) at) here

  -- ---- turns

  module _ (inner : List Name) (text : List ℕ) (t : Scalar) (sized : IsSize t) (M : Env → ℕ → Out Env) (n h m turn_at start out : ℕ) (c : List Instr) (le : n + 3 ≤ h) (ge : h ≤ m)
      (body : Performs rs outer w serves frames (local text t (n + 2) ∷ inner) M start h c m)
      (i_turn : slice_get w.code.instrs turn_at ≡ Some op.Turn) (i_load : slice_get w.code.instrs (turn_at + 1) ≡ Some (op.Load n)) (i_store : slice_get w.code.instrs (turn_at + 1 + 1) ≡ Some (op.Store (n + 2) (Some t)))
      (start_is : start ≡ turn_at + 1 + 1 + 1) (at_body : StandsAt w.code.instrs start c) (tail : StandsAt w.code.instrs (start + length c) (each_tail n turn_at out))
      (laid : Laid n inner) (apart : AreApart n m w.low w.high) where
    -- the variable at a number
    abbrev counted : ℤ → Var
    counted i = variable text (Single t) false (stored (Single t) (Num i))

    abbrev at_number : ℤ → Env → ℕ → Out Env
    at_number i now k = inside now (with_local (counted i) now) M k

    -- a cell below those of the body stays
    kept_below : (d : ℕ) (before now : List ℤ) → n ≤ d → d < n + 2 → KeepsOver (local text t (n + 2) ∷ (inner ++ outer)) outer h m w.low w.high before now → slice_get now d ≡ slice_get before d
    kept_below d before now from to keeps =
        keeps.cell d (inl (omega (arith, to, le))) (⊎_elim (λ (a : m ≤ w.low). inl (omega (arith, a, to, le, ge))) (λ (a : w.high ≤ n). inr (omega (arith, a, from))) apart) (λ other y e.
        ⊎_elim (λ (f : (bytes_eq text other ≡ true) × (local text t (n + 2) ≡ y)). subst (λ (z : Name). SeatIsApart d (d + 1) (scalars_of_type z.shape) z.seat) f.1 (inr (omega (arith, to))))
        (λ (f : (bytes_eq text other ≡ false) × (named other (inner ++ outer) ≡ Some y)). seat_away y.seat (scalars_of_type y.shape) (laid_below rs outer w.tokens w.low w.high n inner laid other y f.1))
        (choose_name (bytes_eq text other) (local text t (n + 2)) (named other (inner ++ outer)) y e)) (λ other y e. seat_away y.seat (scalars_of_type y.shape) (outer_below rs outer w.tokens w.low w.high n inner laid other y e))
      where
        seat_away : (seat : Seat) (size : ℕ) → SeatIsBelow n size seat → SeatIsApart d (d + 1) size seat
        seat_away (Cell e) size below = inl (omega (arith, below, from))
        seat_away (Tokens port first step) size below = tt

    -- the body was executed at a number, and the two bounds stand where they stood
    abbrev IsDone : State → ℕ → ℕ → ℤ → ℤ → Env → ℕ → Type 0
    IsDone s end size i high next k = (p : Moves rs outer w serves frames inner n m s end size next k) × (slice_get p.cells n ≡ Some i) × (slice_get p.cells (n + 1) ≡ Some high)

    one_number : (i high : ℤ) (stack cells : List ℤ) (env : Env) (left : ℕ) → IsNum i → m ≤ length cells → Inside inner cells env → slice_get cells n ≡ Some i → slice_get cells (n + 1) ≡ Some high
        → Follows (at_number i env left) (IsDone (state (turn_at + 1) stack frames cells left) (start + length c) (length env.locals) i high) (CutShort w (inner ++ outer) outer n m (state (turn_at + 1) stack frames cells left))
    one_number i high stack cells env left num room holds low_is high_is =
        let old = there cells (n + 2) (omega (arith, room, le, ge)) in
        let now : List ℤ = slice_set cells (n + 2) (conv t i) in
        let made = single_stored t (Num i) i sized num refl in
        let wrote : Written (n + 2) 1 cells now = let e : n + 2 + 0 ≡ n + 2 = omega arith in subst (λ d. Written (n + 2) 1 cells (slice_set cells d (conv t i))) e (set_written cells (n + 2) 1 0 (conv t i) (omega arith)) in
        let keeps : Keeps n m w.low w.high cells now = written_keeps (n + 2) 1 n m w.low w.high cells now (omega arith) (omega (arith, le, ge)) wrote in
        let s : State = state (turn_at + 1) stack frames cells left in
        let r : State = state start stack frames now left in
        let on : On s r = subst (λ p. On s (state p stack frames now left)) (sym start_is) (reaches_join (load_on (turn_at + 1) n stack cells left i i_load low_is) (store_on (turn_at + 1 + 1) (n + 2) (Some t) stack cells left i old.0 i_store old.1)) in
        let held : Inside (local text t (n + 2) ∷ inner) now (with_local (counted i) env) =
        local_held rs outer w serves frames inner text t (n + 2) now env false (stored (Single t) (Num i)) (conv t i) made.0 made.1 (set_there cells (n + 2) old.0 (conv t i) old.1) (inside_still rs outer w.tokens w.low w.high n m inner cells now env laid keeps holds) in
        let away : AreApart (n + 2) (n + 2 + 1) w.low w.high = ⊎_elim (λ (a : m ≤ w.low). inl (omega (arith, a, le, ge))) (λ (a : w.high ≤ n). inr (omega (arith, a))) apart in
        let deeper : Laid h (local text t (n + 2) ∷ inner) = (n + 2, (omega arith, omega (arith, le)), omega (arith, le), sized, away, laid_more rs outer w.tokens w.low w.high n (n + 2) inner (omega arith) laid) in
        let wider : n ≤ h = omega (arith, le) in
        follows_then (M (with_local (counted i) env) left) (λ next k. Gives (back_to env next) k)
        (Moves rs outer w serves frames (local text t (n + 2) ∷ inner) h m r (start + length c) (suc (length env.locals))) (CutShort w (local text t (n + 2) ∷ (inner ++ outer)) outer h m r)
        (IsDone s (start + length c) (length env.locals) i high) (CutShort w (inner ++ outer) outer n m s)
        (body stack now (with_local (counted i) env) left at_body deeper (apart_last n h m w.low w.high wider apart) (let size = wrote.length_same in omega (arith, size, room)) held)
        (λ next k p.
        let back = popped rs outer w serves frames inner text t (n + 2) p.cells next env p.holds p.as_many in (
          record {
            cells = p.cells;
            reaches = reaches_join on p.reaches;
            keeps = but_join (keeps_but (inner ++ outer) keeps) (but_local (inner ++ outer) text t (n + 2) n h m w.low w.high now p.cells (omega arith) (omega (arith, le, ge)) wider p.keeps);
            holds = back.0;
            as_many = back.1;
          },
          kept_below n now p.cells (omega arith) (omega arith) p.keeps ∙ get-other cells (n + 2) n (conv t i) (λ e. absurd (omega (arith, e))) ∙ low_is,
          kept_below (n + 1) now p.cells (omega arith) (omega arith) p.keeps ∙ get-other cells (n + 2) (n + 1) (conv t i) (λ e. absurd (omega (arith, e))) ∙ high_is,
        ))
        (λ d b. breaks_after rs outer w serves frames (inner ++ outer) n m s r d on (keeps_but (inner ++ outer) keeps)
        (record { cells = b.cells; ends = b.ends; keeps = but_local (inner ++ outer) text t (n + 2) n h m w.low w.high now b.cells (omega arith) (omega (arith, le, ge)) wider b.keeps }))

    -- one turn, and what follows the number
    turns_with : (count : ℕ) (i high : ℤ) (stack cells : List ℤ) (env : Env) (left : ℕ) → IsNum i → m ≤ length cells → Inside inner cells env → slice_get cells n ≡ Some i → slice_get cells (n + 1) ≡ Some high
        → ((now : List ℤ) (next : Env) (j : ℕ) → m ≤ length now → Inside inner now next → slice_get now n ≡ Some i → slice_get now (n + 1) ≡ Some high
        → Follows (for_loop count (i +ℤ pos 1) at_number next j) (Moves rs outer w serves frames inner n m (state (start + length c) stack frames now j) out (length next.locals)) (CutShort w (inner ++ outer) outer n m (state (start + length c) stack frames now j)))
        → Follows (for_loop (suc count) i at_number env left) (Moves rs outer w serves frames inner n m (state turn_at stack frames cells left) out (length env.locals)) (CutShort w (inner ++ outer) outer n m (state turn_at stack frames cells left))
    turns_with count i high stack cells env zero num room holds low_is high_is again = record {
      cells = cells;
      ends = stop (obeys w.code w.tokens (state turn_at stack frames cells 0) op.Turn i_turn);
      keeps = but_all (inner ++ outer) n m w.low w.high cells;
    }
    turns_with count i high stack cells env (suc k) num room holds low_is high_is again =
        let s : State = state turn_at stack frames cells (suc k) in
        let r : State = state (turn_at + 1) stack frames cells k in
        move_after rs outer w serves frames inner n n m m turn_at (turn_at + 1) out (length env.locals) stack cells cells (suc k) k (and_then (at_number i env k) (λ next j. for_loop count (i +ℤ pos 1) at_number next j)) (omega arith) (omega arith)
        (after (obeys w.code w.tokens s op.Turn i_turn) here) (but_all (inner ++ outer) n m w.low w.high cells)
        (follows_then (at_number i env k) (λ next j. for_loop count (i +ℤ pos 1) at_number next j) (IsDone r (start + length c) (length env.locals) i high) (CutShort w (inner ++ outer) outer n m r)
        (Moves rs outer w serves frames inner n m r out (length env.locals)) (CutShort w (inner ++ outer) outer n m r)
        (one_number i high stack cells env k num room holds low_is high_is)
        (λ next j d.
        let p = d.0 in
        subst (λ z. Follows (for_loop count (i +ℤ pos 1) at_number next j) (Moves rs outer w serves frames inner n m r out z) (CutShort w (inner ++ outer) outer n m r)) p.as_many
        (move_after rs outer w serves frames inner n n m m (turn_at + 1) (start + length c) out (length next.locals) stack cells p.cells k j (for_loop count (i +ℤ pos 1) at_number next j) (omega arith) (omega arith) p.reaches p.keeps
        (again p.cells next j (let size = p.keeps.size in omega (arith, size, room)) p.holds d.1 d.2)))
        (λ f b. b))

    -- the comparison behind the body
    compared : (i high : ℤ) (b : Bool) (stack now : List ℤ) (j : ℕ) → int_lt i high ≡ b → slice_get now n ≡ Some i → slice_get now (n + 1) ≡ Some high
        → On (state (start + length c) stack frames now j) (state (if b then start + length c + 1 + 1 + 1 + 1 else out) stack frames now j)
    compared i high b stack now j e low_is high_is =
        let p : ℕ = start + length c in
        let lt : State = state (p + 1 + 1) (high ∷ i ∷ stack) frames now j in
        let less : On lt (state (p + 1 + 1 + 1) (truth b ∷ stack) frames now j) = subst (λ a. On lt (state (p + 1 + 1 + 1) (truth a ∷ stack) frames now j)) e (after (obeys w.code w.tokens lt op.Lt tail.1.1.0) here) in
        reaches_join (load_on p n stack now j i tail.0 low_is) (reaches_join (load_on (p + 1) (n + 1) (i ∷ stack) now j high tail.1.0 high_is) (reaches_join less (test_on (p + 1 + 1 + 1) out b stack now j tail.1.1.1.0)))

    -- the next number
    counts_on : (i : ℤ) (stack now : List ℤ) (j : ℕ) → IsNum (i +ℤ pos 1) → slice_get now n ≡ Some i
        → On (state (start + length c + 1 + 1 + 1 + 1) stack frames now j) (state turn_at stack frames (slice_set now n (i +ℤ pos 1)) j)
    counts_on i stack now j num low_is =
        let p : ℕ = start + length c + 1 + 1 + 1 + 1 in
        let rest = tail.1.1.1.1 in
        let one : State = state (p + 1) (i ∷ stack) frames now j in
        let add : State = state (p + 1 + 1) (pos 1 ∷ i ∷ stack) frames now j in
        let back : State = state (p + 1 + 1 + 1 + 1) stack frames (slice_set now n (i +ℤ pos 1)) j in
        let added : On add (state (p + 1 + 1 + 1) ((i +ℤ pos 1) ∷ stack) frames now j) =
        after (obeys w.code w.tokens add op.Add rest.1.1.0 ∙ ap (λ b. go_on add (push_computed (if b then arithmetic.Gives (i +ℤ pos 1) else arithmetic.Traps Overflow) stack now)) (num-is (i +ℤ pos 1) num)) here in
        reaches_join (load_on p n stack now j i rest.0 low_is)
        (reaches_join (after (obeys w.code w.tokens one (op.Const (pos 1)) rest.1.0) here)
        (reaches_join added
        (reaches_join (store_on (p + 1 + 1 + 1) n None stack now j (i +ℤ pos 1) i rest.1.1.1.0 low_is)
        (after (obeys w.code w.tokens back (op.Jump turn_at) rest.1.1.1.1.0) here))))

    pub each_turns : (count : ℕ) (i high : ℤ) (stack cells : List ℤ) (env : Env) (left : ℕ) → high ≡ i +ℤ pos count → IsNum i → IsNum high → m ≤ length cells → Inside inner cells env → slice_get cells n ≡ Some i → slice_get cells (n + 1) ≡ Some high
        → Follows (for_loop (suc count) i at_number env left) (Moves rs outer w serves frames inner n m (state turn_at stack frames cells left) out (length env.locals)) (CutShort w (inner ++ outer) outer n m (state turn_at stack frames cells left))
    each_turns zero i high stack cells env left is num high_num room holds low_is high_is =
        turns_with zero i high stack cells env left num room holds low_is high_is (λ now next j wide held low now_high.
        record {
          cells = now;
          reaches = compared i high false stack now j (at_last i high is) low now_high;
          keeps = but_all (inner ++ outer) n m w.low w.high now;
          holds = held;
          as_many = refl;
        })
    each_turns (suc q) i high stack cells env left is num high_num room holds low_is high_is =
        turns_with (suc q) i high stack cells env left num room holds low_is high_is (λ now next j wide held low now_high.
        let more : IsNum (i +ℤ pos 1) = next_num i high q is num high_num in
        let later : List ℤ = slice_set now n (i +ℤ pos 1) in
        let wrote : Written n 1 now later = let e : n + 0 ≡ n = omega arith in subst (λ d. Written n 1 now (slice_set now d (i +ℤ pos 1))) e (set_written now n 1 0 (i +ℤ pos 1) (omega arith)) in
        let keeps : Keeps n m w.low w.high now later = written_keeps n 1 n m w.low w.high now later (omega arith) (omega (arith, le, ge)) wrote in
        move_after rs outer w serves frames inner n n m m (start + length c) turn_at out (length next.locals) stack now later j j (for_loop (suc q) (i +ℤ pos 1) at_number next j) (omega arith) (omega arith)
        (reaches_join (compared i high true stack now j (not_last i high q is) low now_high) (counts_on i stack now j more low)) (keeps_but (inner ++ outer) keeps)
        (each_turns q (i +ℤ pos 1) high stack later next j (next_high i high q is) more high_num (let size = wrote.length_same in omega (arith, size, wide))
        (inside_still rs outer w.tokens w.low w.high n m inner now later next laid keeps held) (set_there now n i (i +ℤ pos 1) low) (get-other now n (n + 1) (i +ℤ pos 1) (λ e. absurd (omega (arith, e))) ∙ now_high)))
