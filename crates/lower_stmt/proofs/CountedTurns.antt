-- A `foreach` that counts in the cell of its variable does what executing it does.
use Rattle.std.proofs.Common.{◌≡◌, ℕ, zero, suc, ◌+◌, ◌≤◌, ◌^◌, ◌-◌, inl, inr, ⊎_elim, ℤ, pos, ◌+ℤ◌, List, [], ◌∷◌, ◌++◌, length, Bool, true, false, refl, sym, ap, ◌∙◌, subst, None, Some, arith, length-append, pow_mono}
use Rattle.std.specs.Prelude.{slice_get, slice_set, if◌then◌else◌, int_lt, not, ◌&&◌}
use Rattle.std.proofs.lemmas.Int.{ints}
use Rattle.std.proofs.lemmas.Bool.Decides.{Decides-int_eq}
use Rattle.rvc_base.specs.declared.scalar.Scalar.{Scalar}
use Rattle.rvc_base.specs.declared.scalar.Scalar.TheVariants as scalar
use Rattle.rvc_base.specs.declared.trap.Trap.TheVariants.{Overflow}
use Rattle.rvc_base.specs.Arithmetic as arithmetic
use Rattle.rvc_base.specs.Arithmetic.{truth}
use Rattle.rvc_base.specs.Storing.{conv, InRange, IsSize}
use Rattle.rvc_base.specs.Width.{IsNum, max_size}
use Rattle.cal_ast.specs.Tree.{Tree}
use Rattle.cal_model.specs.Value.{Shape, Single, Value, Num, stored}
use Rattle.cal_model.specs.Outcome.{Out, Gives, and_then}
use Rattle.cal_model.specs.Env.{Var, Env, variable, with_local, back_to}
use Rattle.cal_model.specs.Expression.{eval, range_of, span, type_meant}
use Rattle.cal_model.specs.Statement.{Runs, for_loop, inside}
use Rattle.cal_model.proofs.Numbers.{num-is}
use Rattle.cal_model.proofs.Stored.{conv-in-range, conv-stays}
use Rattle.code_ir.specs.declared.instr.Instr.{Instr}
use Rattle.code_ir.specs.declared.instr.Instr.TheVariants as op
use Rattle.code_ir.specs.Effect.{push_computed}
use Rattle.code_ir.specs.Running.{State, go_on, Reaches, here, after, stop}
use Rattle.lower_base.specs.declared.names.Seat.TheVariants.{Cell}
use Rattle.lower_base.specs.Bounds.{bound_of}
use Rattle.lower_base.specs.Calling.{Serves}
use Rattle.lower_base.specs.Flat.{flat}
use Rattle.lower_base.specs.Following.{Follows}
use Rattle.lower_base.specs.Held.{AreApart, Keeps, StandAt}
use Rattle.lower_base.specs.Meant.{single_meant}
use Rattle.lower_base.specs.Names.{Name, local}
use Rattle.lower_base.specs.Placed.{StandsAt, World, state}
use Rattle.lower_base.proofs.Bounded.{bound_gives, bound_num}
use Rattle.lower_base.proofs.Generated.{IsRange, range}
use Rattle.lower_base.proofs.Keeping.{apart_last}
use Rattle.lower_base.proofs.Runs.{follows_both, follows_then, obeys, reaches_join, stands_left, stands_right}
use Rattle.lower_base.proofs.Storing.{set_there, set_written, single_stored}
use Rattle.lower_base.proofs.Written.{Written, written_keeps}
use Rattle.expr_lower.proofs.MeantIs.{meant_is, meant_sized}
use Rattle.lower_stmt.specs.Bodies.{CutShort}
use Rattle.lower_stmt.specs.Procedures.{Routines}
use Rattle.lower_stmt.specs.Stating.{count_first, count_next, counts_in_place, holds_number}
use Rattle.lower_stmt.proofs.Constants.{Constant, KeepConstants}
use Rattle.lower_stmt.proofs.Counting.{load_on, next_high, store_on, test_on, there}
use Rattle.lower_stmt.proofs.Locals.{but_local, local_held, popped}
use Rattle.lower_stmt.proofs.Performing.{Moves, Performs, but_all, keeps_but, move_after, moves_at}
use Rattle.lower_stmt.proofs.Scoping.{AreLaid, HoldsInside, inside_still}

-- ---- numbers of a type

-- a number that a type holds as it is is one of its range
held_in_range : (t : Scalar) (z : ℤ) → IsSize t → holds_number t z ≡ true → InRange t z
held_in_range t z sized e = let same : conv t z ≡ z = (Decides-int_eq (conv t z) z).0 e in subst (InRange t) same (conv-in-range t z sized)

-- what lies between two numbers of a range is in it
in_between : (t : Scalar) (low i high : ℤ) → InRange t low → InRange t high → int_lt i low ≡ false → int_lt high i ≡ false → InRange t i
in_between scalar.Bool low i high x y e f = grind (arith, ints, x, y, e, f)
in_between (scalar.Int n) low i high x y e f = grind (arith, ints, x, y, e, f)
in_between (scalar.Uint n) low i high x y e f = grind (arith, ints, x, y, e, f)

-- the number behind one of a type's range is a number
next_is_num : (t : Scalar) (z : ℤ) → IsSize t → InRange t z → IsNum (z +ℤ pos 1)
next_is_num scalar.Bool z s h = grind (arith, ints, h)
next_is_num (scalar.Int n) z s h = let small : n - 1 ≤ max_size = omega arith in let e : 2 ^ (n - 1) ≤ 2 ^ max_size = pow_mono small in omega (arith, ints)
next_is_num (scalar.Uint n) z s h = let small : n ≤ max_size = omega arith in let e : 2 ^ n ≤ 2 ^ max_size = pow_mono small in omega (arith, ints)

-- both bounds are of the type, and there is a number
pub record IsHeld (t : Scalar) (low high : ℤ) : Type 0 where
  pub some : int_lt high low ≡ false
  pub low_in : InRange t low
  pub high_in : InRange t high

pub held : (t : Scalar) (low high : ℤ) → IsSize t → counts_in_place t low high ≡ true → IsHeld t low high
held t low high sized e = go (int_lt high low) (holds_number t low) (holds_number t high) refl refl refl e
  where
    go : (a b c : Bool) → int_lt high low ≡ a → holds_number t low ≡ b → holds_number t high ≡ c → not a && (b && c) ≡ true → IsHeld t low high
    go true b c p q r h = cc
    go false false c p q r h = cc
    go false true false p q r h = cc
    go false true true p q r h = record { some = p; low_in = held_in_range t low sized q; high_in = held_in_range t high sized r }

past_last : (i high : ℤ) → high ≡ i +ℤ pos 0 → int_lt high (i +ℤ pos 1) ≡ true
past_last i high e = grind (arith, ints, e)

not_past : (i high : ℤ) (q : ℕ) → high ≡ i +ℤ pos (suc q) → int_lt high (i +ℤ pos 1) ≡ false
not_past i high q e = grind (arith, ints, e)

up_to : (i high : ℤ) (q : ℕ) → high ≡ i +ℤ pos q → int_lt high i ≡ false
up_to i high q e = grind (arith, ints, e)

from_next : (low i : ℤ) → int_lt i low ≡ false → int_lt (i +ℤ pos 1) low ≡ false
from_next low i e = grind (arith, ints, e)

from_self : (low : ℤ) → int_lt low low ≡ false
from_self low = grind (arith, ints)

module _ (rs : Routines) (outer : List Name) (w : World) (serves : Serves w outer rs.functions) (frames : List ℕ) where
  abbrev Inside : List Name → List ℤ → Env → Type 0
  Inside inner cells env = HoldsInside rs outer w.tokens w.low w.high inner cells env

  abbrev Laid : ℕ → List Name → Type 0
  Laid n inner = AreLaid rs outer w.tokens w.low w.high n inner

  abbrev On : State → State → Type 0
  On s t = Reaches w.code w.tokens s t

  module _ (inner : List Name) (text : List ℕ) (t : Scalar) (sized : IsSize t) (M : Env → ℕ → Out Env) (n h m turn_at : ℕ) (low high : ℤ) (c : List Instr) (le : n + 1 ≤ h) (ge : h ≤ m)
      (bounds : IsHeld t low high) (high_num : IsNum high)
      (body : Performs rs outer w serves frames (local text t n ∷ inner) M (turn_at + 1) h c m) (fixed : (env : Env) (left : ℕ) → Constant env (M env left))
      (i_turn : slice_get w.code.instrs turn_at ≡ Some op.Turn) (at_body : StandsAt w.code.instrs (turn_at + 1) c) (tail : StandsAt w.code.instrs (turn_at + 1 + length c) (count_next n high turn_at))
      (laid : Laid n inner) (apart : AreApart n m w.low w.high) where
    -- the variable at a number
    abbrev counted : ℤ → Var
    counted i = variable text (Single t) false (stored (Single t) (Num i))

    abbrev at_number : ℤ → Env → ℕ → Out Env
    at_number i now k = inside now (with_local (counted i) now) M k

    abbrev behind : ℕ
    behind = turn_at + 1 + length c

    abbrev out : ℕ
    out = behind + 1 + 1 + 1 + 1 + 1 + 1 + 1 + 1

    -- the body was executed at a number, which stands where it stood
    abbrev IsDone : State → ℕ → ℤ → Env → ℕ → Type 0
    IsDone s size i next k = (p : Moves rs outer w serves frames inner n m s behind size next k) × (slice_get p.cells n ≡ Some i)

    -- the variable is a constant of the body
    still_there : (i : ℤ) (env next : Env) (cells : List ℤ) → Inside (local text t n ∷ inner) cells next → KeepConstants (with_local (counted i) env).locals next.locals → flat (stored (Single t) (Num i)) ≡ i ∷ [] → slice_get cells n ≡ Some i
    still_there i env next cells (v, rest, is, var, below) same number =
        let kept : KeepConstants (counted i ∷ env.locals) (v ∷ rest.locals) = subst (λ (x : Env). KeepConstants (counted i ∷ env.locals) x.locals) is same in
        let v_is : v ≡ counted i = kept.0 refl in
        let stands : StandAt (Cell n) w.tokens cells (flat (stored (Single t) (Num i))) = subst (λ (x : Var). StandAt (Cell n) w.tokens cells (flat x.value)) v_is var.stands in
        let place : n + 0 ≡ n = omega arith in
        subst (λ d. slice_get cells d ≡ Some i) place (stands 0 i (ap (λ zs. slice_get zs 0) number))

    one_number : (i : ℤ) (stack cells : List ℤ) (env : Env) (left : ℕ) → IsNum i → InRange t i → m ≤ length cells → Inside inner cells env → slice_get cells n ≡ Some i
        → Follows (at_number i env left) (IsDone (state (turn_at + 1) stack frames cells left) (length env.locals) i) (CutShort w (inner ++ outer) outer n m (state (turn_at + 1) stack frames cells left))
    one_number i stack cells env left num in_range room holds is =
        let made = single_stored t (Num i) i sized num refl in
        let number : flat (stored (Single t) (Num i)) ≡ i ∷ [] = made.1 ∙ ap (λ z. z ∷ []) (conv-stays t i sized in_range) in
        let s : State = state (turn_at + 1) stack frames cells left in
        let now : Env = with_local (counted i) env in
        let held_now : Inside (local text t n ∷ inner) cells now = local_held rs outer w serves frames inner text t n cells env false (stored (Single t) (Num i)) i made.0 number is holds in
        let away : AreApart n (n + 1) w.low w.high = ⊎_elim (λ (a : m ≤ w.low). inl (omega (arith, a, le, ge))) (λ (a : w.high ≤ n). inr a) apart in
        let deeper : Laid h (local text t n ∷ inner) = (n, (omega arith, omega (arith, le)), omega (arith, le), sized, away, laid) in
        let wider : n ≤ h = omega (arith, le) in
        follows_then (M now left) (λ next k. Gives (back_to env next) k)
        (λ next k. Moves rs outer w serves frames (local text t n ∷ inner) h m s behind (suc (length env.locals)) next k × KeepConstants now.locals next.locals) (λ d. CutShort w (local text t n ∷ (inner ++ outer)) outer h m s d × Unit {0})
        (IsDone s (length env.locals) i) (CutShort w (inner ++ outer) outer n m s)
        (follows_both (M now left) (Moves rs outer w serves frames (local text t n ∷ inner) h m s behind (suc (length env.locals))) (CutShort w (local text t n ∷ (inner ++ outer)) outer h m s) (λ next k. KeepConstants now.locals next.locals) (λ d. Unit {0})
        (body stack cells now left at_body deeper (apart_last n h m w.low w.high wider apart) room held_now) (fixed now left))
        (λ next k pair.
        let p : Moves rs outer w serves frames (local text t n ∷ inner) h m s behind (suc (length env.locals)) next k = pair.0 in
        let back = popped rs outer w serves frames inner text t n p.cells next env p.holds p.as_many in (
          record {
            cells = p.cells;
            reaches = p.reaches;
            keeps = but_local (inner ++ outer) text t n n h m w.low w.high cells p.cells (omega arith) (omega (arith, le, ge)) wider p.keeps;
            holds = back.0;
            as_many = back.1;
          },
          still_there i env next p.cells p.holds pair.1 number,
        ))
        (λ d pair.
        let b : CutShort w (local text t n ∷ (inner ++ outer)) outer h m s d = pair.0 in
        record { cells = b.cells; ends = b.ends; keeps = but_local (inner ++ outer) text t n n h m w.low w.high cells b.cells (omega arith) (omega (arith, le, ge)) wider b.keeps })

    -- one turn, and what follows the number
    turns_with : (count : ℕ) (i : ℤ) (stack cells : List ℤ) (env : Env) (left : ℕ) → IsNum i → InRange t i → m ≤ length cells → Inside inner cells env → slice_get cells n ≡ Some i
        → ((now : List ℤ) (next : Env) (j : ℕ) → m ≤ length now → Inside inner now next → slice_get now n ≡ Some i
        → Follows (for_loop count (i +ℤ pos 1) at_number next j) (Moves rs outer w serves frames inner n m (state behind stack frames now j) out (length next.locals)) (CutShort w (inner ++ outer) outer n m (state behind stack frames now j)))
        → Follows (for_loop (suc count) i at_number env left) (Moves rs outer w serves frames inner n m (state turn_at stack frames cells left) out (length env.locals)) (CutShort w (inner ++ outer) outer n m (state turn_at stack frames cells left))
    turns_with count i stack cells env zero num in_range room holds is again = record {
      cells = cells;
      ends = stop (obeys w.code w.tokens (state turn_at stack frames cells 0) op.Turn i_turn);
      keeps = but_all (inner ++ outer) n m w.low w.high cells;
    }
    turns_with count i stack cells env (suc k) num in_range room holds is again =
        let s : State = state turn_at stack frames cells (suc k) in
        let r : State = state (turn_at + 1) stack frames cells k in
        move_after rs outer w serves frames inner n n m m turn_at (turn_at + 1) out (length env.locals) stack cells cells (suc k) k (and_then (at_number i env k) (λ next j. for_loop count (i +ℤ pos 1) at_number next j)) (omega arith) (omega arith)
        (after (obeys w.code w.tokens s op.Turn i_turn) here) (but_all (inner ++ outer) n m w.low w.high cells)
        (follows_then (at_number i env k) (λ next j. for_loop count (i +ℤ pos 1) at_number next j) (IsDone r (length env.locals) i) (CutShort w (inner ++ outer) outer n m r)
        (Moves rs outer w serves frames inner n m r out (length env.locals)) (CutShort w (inner ++ outer) outer n m r)
        (one_number i stack cells env k num in_range room holds is)
        (λ next j d.
        let p = d.0 in
        subst (λ z. Follows (for_loop count (i +ℤ pos 1) at_number next j) (Moves rs outer w serves frames inner n m r out z) (CutShort w (inner ++ outer) outer n m r)) p.as_many
        (move_after rs outer w serves frames inner n n m m (turn_at + 1) behind out (length next.locals) stack cells p.cells k j (for_loop count (i +ℤ pos 1) at_number next j) (omega arith) (omega arith) p.reaches p.keeps
        (again p.cells next j (let size = p.keeps.size in omega (arith, size, room)) p.holds d.1)))
        (λ f b. b))

    -- the next number, and whether it is past the last one
    counts_on : (i : ℤ) (b : Bool) (stack now : List ℤ) (j : ℕ) → int_lt high (i +ℤ pos 1) ≡ b → IsNum (i +ℤ pos 1) → slice_get now n ≡ Some i
        → On (state behind stack frames now j) (state (if b then out else turn_at) stack frames (slice_set now n (i +ℤ pos 1)) j)
    counts_on i b stack now j past num is =
        let p : ℕ = behind in
        let later : List ℤ = slice_set now n (i +ℤ pos 1) in
        let q : ℕ = p + 1 + 1 + 1 + 1 in
        let rest = tail.1.1.1.1 in
        let one : State = state (p + 1) (i ∷ stack) frames now j in
        let add : State = state (p + 1 + 1) (pos 1 ∷ i ∷ stack) frames now j in
        let last : State = state (q + 1) ((i +ℤ pos 1) ∷ stack) frames later j in
        let gt : State = state (q + 1 + 1) (high ∷ (i +ℤ pos 1) ∷ stack) frames later j in
        let added : On add (state (p + 1 + 1 + 1) ((i +ℤ pos 1) ∷ stack) frames now j) =
        after (obeys w.code w.tokens add op.Add tail.1.1.0 ∙ ap (λ a. go_on add (push_computed (if a then arithmetic.Gives (i +ℤ pos 1) else arithmetic.Traps Overflow) stack now)) (num-is (i +ℤ pos 1) num)) here in
        let greater : On gt (state (q + 1 + 1 + 1) (truth b ∷ stack) frames later j) = subst (λ a. On gt (state (q + 1 + 1 + 1) (truth a ∷ stack) frames later j)) past (after (obeys w.code w.tokens gt op.Gt rest.1.1.0) here) in
        reaches_join (load_on rs outer w serves frames p n stack now j i tail.0 is)
        (reaches_join (after (obeys w.code w.tokens one (op.Const (pos 1)) tail.1.0) here)
        (reaches_join added
        (reaches_join (store_on rs outer w serves frames (p + 1 + 1 + 1) n None stack now j (i +ℤ pos 1) i tail.1.1.1.0 is)
        (reaches_join (load_on rs outer w serves frames q n stack later j (i +ℤ pos 1) rest.0 (set_there now n i (i +ℤ pos 1) is))
        (reaches_join (after (obeys w.code w.tokens last (op.Const high) rest.1.0) here)
        (reaches_join greater (test_on rs outer w serves frames (q + 1 + 1 + 1) turn_at b stack later j rest.1.1.1.0)))))))

    -- the cells once it counts on
    kept_on : (i : ℤ) (now : List ℤ) → Keeps n m w.low w.high now (slice_set now n (i +ℤ pos 1))
    kept_on i now =
        let later : List ℤ = slice_set now n (i +ℤ pos 1) in
        let wrote : Written n 1 now later = let e : n + 0 ≡ n = omega arith in subst (λ d. Written n 1 now (slice_set now d (i +ℤ pos 1))) e (set_written now n 1 0 (i +ℤ pos 1) (omega arith)) in
        written_keeps n 1 n m w.low w.high now later (omega arith) (omega (arith, le, ge)) wrote

    pub counted_turns : (count : ℕ) (i : ℤ) (stack cells : List ℤ) (env : Env) (left : ℕ) → high ≡ i +ℤ pos count → int_lt i low ≡ false → IsNum i → m ≤ length cells → Inside inner cells env → slice_get cells n ≡ Some i
        → Follows (for_loop (suc count) i at_number env left) (Moves rs outer w serves frames inner n m (state turn_at stack frames cells left) out (length env.locals)) (CutShort w (inner ++ outer) outer n m (state turn_at stack frames cells left))
    counted_turns zero i stack cells env left is from num room holds at_i =
        let in_range : InRange t i = in_between t low i high bounds.low_in bounds.high_in from (up_to i high 0 is) in
        turns_with zero i stack cells env left num in_range room holds at_i (λ now next j wide held_now now_i.
        record {
          cells = slice_set now n (i +ℤ pos 1);
          reaches = counts_on i true stack now j (past_last i high is) (next_is_num t i sized in_range) now_i;
          keeps = keeps_but (inner ++ outer) (kept_on i now);
          holds = inside_still rs outer w.tokens w.low w.high n m inner now (slice_set now n (i +ℤ pos 1)) next laid (kept_on i now) held_now;
          as_many = refl;
        })
    counted_turns (suc q) i stack cells env left is from num room holds at_i =
        let in_range : InRange t i = in_between t low i high bounds.low_in bounds.high_in from (up_to i high (suc q) is) in
        turns_with (suc q) i stack cells env left num in_range room holds at_i (λ now next j wide held_now now_i.
        let more : IsNum (i +ℤ pos 1) = next_is_num t i sized in_range in
        let later : List ℤ = slice_set now n (i +ℤ pos 1) in
        let keeps : Keeps n m w.low w.high now later = kept_on i now in
        move_after rs outer w serves frames inner n n m m behind turn_at out (length next.locals) stack now later j j (for_loop (suc q) (i +ℤ pos 1) at_number next j) (omega arith) (omega arith)
        (counts_on i false stack now j (not_past i high q is) more now_i) (keeps_but (inner ++ outer) keeps)
        (counted_turns q (i +ℤ pos 1) stack later next j (next_high i high q is) (from_next low i from) more (let size = keeps.size in omega (arith, size, wide))
        (inside_still rs outer w.tokens w.low w.high n m inner now later next laid keeps held_now) (set_there now n i (i +ℤ pos 1) now_i)))

  module _ (runs : Runs) where
    -- the loop that is executed, between bounds
    abbrev loop_between : Tree → Tree → (Env → ℕ → Out Env) → List ℕ → Env → Shape → ℕ → Out Env
    loop_between from to M text env s i =
        and_then (eval from w.calls env i) (λ x o. and_then (eval to w.calls env o) (λ y q. range_of x y (λ low high.
        for_loop (span low high) low (λ z now r. inside now (with_local (variable text s false (stored s (Num z))) now) M r) env q)))

    pub counted_performs : (inner : List Name) (shape from to : Tree) (text : List ℕ) (M : Env → ℕ → Out Env) (base n h m : ℕ) (low high : ℤ) (c : List Instr) (t : Scalar) → single_meant shape ≡ Some t
        → bound_of from ≡ Some low → bound_of to ≡ Some high → counts_in_place t low high ≡ true → n + 1 ≤ h → h ≤ m → ((env : Env) (left : ℕ) → Constant env (M env left))
        → Performs rs outer w serves frames (local text t n ∷ inner) M (base + 3) h c m
        → Performs rs outer w serves frames inner (λ env left. and_then (type_meant shape w.calls env left) (λ s i. loop_between from to M text env s i)) base n (count_first n low ++ op.Turn ∷ (c ++ count_next n high (base + 2))) m
    counted_performs inner shape from to text M base n h m low high c t meant low_is high_is counts le ge fixed body stack cells env left stands laid apart room holds =
        let sized : IsSize t = meant_sized shape t meant in
        let bounds : IsHeld t low high = held t low high sized counts in
        let s : State = state base stack frames cells left in
        let turn_at : ℕ = base + 1 + 1 in
        let two : turn_at ≡ base + 2 = omega arith in
        let three : base + 3 ≡ turn_at + 1 = omega arith in
        let low_num : IsNum low = bound_num from low low_is in
        let high_num : IsNum high = bound_num to high high_is in
        let r : IsRange low high = range low high bounds.some in
        let old = there cells n (omega (arith, le, ge, room)) in
        let now : List ℤ = slice_set cells n low in
        let wrote : Written n 1 cells now = let e : n + 0 ≡ n = omega arith in subst (λ d. Written n 1 cells (slice_set cells d low)) e (set_written cells n 1 0 low (omega arith)) in
        let keeps : Keeps n m w.low w.high cells now = written_keeps n 1 n m w.low w.high cells now (omega arith) (omega (arith, le, ge)) wrote in
        let on : On s (state turn_at stack frames now left) =
        reaches_join (after (obeys w.code w.tokens s (op.Const low) stands.0) here) (store_on rs outer w serves frames (base + 1) n None stack cells left low old.0 stands.1.0 old.1) in
        let rest : StandsAt w.code.instrs (turn_at + 1) (c ++ count_next n high (base + 2)) = stands.1.1.1 in
        let at_body : StandsAt w.code.instrs (turn_at + 1) c = stands_left w.code.instrs (turn_at + 1) c (count_next n high (base + 2)) rest in
        let tail : StandsAt w.code.instrs (turn_at + 1 + length c) (count_next n high turn_at) = subst (λ p. StandsAt w.code.instrs (turn_at + 1 + length c) (count_next n high p)) (sym two) (stands_right w.code.instrs (turn_at + 1) c (count_next n high (base + 2)) rest) in
        let done : ℕ = turn_at + 1 + length c + 1 + 1 + 1 + 1 + 1 + 1 + 1 + 1 in
        let finish : done ≡ base + length (count_first n low ++ op.Turn ∷ (c ++ count_next n high (base + 2))) = omega (arith, length-append c (count_next n high (base + 2))) in
        let at : ℤ → Env → ℕ → Out Env = λ z e k. inside e (with_local (variable text (Single t) false (stored (Single t) (Num z))) e) M k in
        let looped : and_then (type_meant shape w.calls env left) (λ s i. loop_between from to M text env s i) ≡ for_loop (suc r.behind) low at env left =
        ap (λ (o : Out Shape). and_then o (λ s i. loop_between from to M text env s i)) (meant_is shape t w.calls env left meant)
        ∙ ap (λ (o : Out Value). and_then o (λ x o. and_then (eval to w.calls env o) (λ y q. range_of x y (λ low high. for_loop (span low high) low at env q)))) (bound_gives from low w.calls env left low_is)
        ∙ ap (λ (o : Out Value). and_then o (λ y q. range_of (Num low) y (λ low high. for_loop (span low high) low at env q))) (bound_gives to high w.calls env left high_is)
        ∙ ap (λ k. for_loop k low at env left) r.is in
        subst (λ (o : Out Env). Follows o (Moves rs outer w serves frames inner n m s (base + length (count_first n low ++ op.Turn ∷ (c ++ count_next n high (base + 2)))) (length env.locals)) (CutShort w (inner ++ outer) outer n m s)) (sym looped)
        (moves_at rs outer w serves frames (for_loop (suc r.behind) low at env left) inner n m done (base + length (count_first n low ++ op.Turn ∷ (c ++ count_next n high (base + 2)))) (length env.locals) s finish
        (move_after rs outer w serves frames inner n n m m base turn_at done (length env.locals) stack cells now left left (for_loop (suc r.behind) low at env left) (omega arith) (omega arith) on (keeps_but (inner ++ outer) keeps)
        (counted_turns inner text t sized M n h m turn_at low high c le ge bounds high_num (subst (λ p. Performs rs outer w serves frames (local text t n ∷ inner) M p h c m) three body) fixed stands.1.1.0 at_body tail laid apart
        r.behind low stack now env left r.last (from_self low) low_num (let size = keeps.size in omega (arith, size, room))
        (inside_still rs outer w.tokens w.low w.high n m inner cells now env laid keeps holds) (set_there cells n old.0 low old.1))))
