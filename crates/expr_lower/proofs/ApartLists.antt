-- Items, which are lists, of lists that are filled apart: their code fills cells with them.
use Rattle.std.proofs.Common.{◌≡◌, ℕ, zero, suc, ◌+◌, ◌*◌, ◌<◌, ◌≤◌, inr, ℤ, pos, negsuc, List, [], ◌∷◌, ◌++◌, length, true, false, refl, sym, ap, ◌∙◌, subst, Option, None, Some, arith, length-append}
use Rattle.std.specs.Prelude.{◌^◌, if◌then◌else◌, nat_le, nat_lt, slice_get}
use Rattle.std.proofs.lemmas.Bool.Decides.{nat_tests}
use Rattle.std.proofs.lemmas.Nat.{mul-le}
use Rattle.std.proofs.lemmas.Option.{slice_get_within}
use Rattle.rvc_base.specs.declared.trap.Trap.TheVariants.{IndexRange}
use Rattle.rvc_base.specs.declared.trap.Trap.TheVariants as trap
use Rattle.rvc_base.specs.Arithmetic as arithmetic
use Rattle.rvc_base.specs.Width.{is_num}
use Rattle.cal_ast.specs.Tree as tree
use Rattle.cal_ast.specs.Tree.{Tree}
use Rattle.cal_model.specs.Value.{Shape, Many, Value, Num, Truth, Items, Values, Nil, Cons, scalars_of_type, value_at}
use Rattle.cal_model.specs.Outcome.{Out, Gives, Traps, and_then}
use Rattle.cal_model.specs.Expression.{eval, indexed}
use Rattle.code_ir.specs.declared.instr.Instr.{Instr}
use Rattle.code_ir.specs.declared.instr.Instr.TheVariants as op
use Rattle.code_ir.specs.Effect.{Leaves, Fails, copied, effect, push_computed, stored as in_cell}
use Rattle.code_ir.specs.Running.{State, Reaches, go_on, stop}
use Rattle.lower_base.specs.declared.names.Seat.TheVariants.{Cell}
use Rattle.lower_base.specs.Callees.{Function}
use Rattle.lower_base.specs.Calling.{Serves}
use Rattle.lower_base.specs.Coding.{IsCode}
use Rattle.lower_base.specs.Flat.{flat, flat_all}
use Rattle.lower_base.specs.Following.{CutsOff, Follows, Pushes}
use Rattle.lower_base.specs.Held.{Keeps, StandAt}
use Rattle.lower_base.specs.Names.{Name}
use Rattle.lower_base.specs.Placed.{StandsAt, World, state}
use Rattle.lower_base.proofs.Effects.{same_number}
use Rattle.lower_base.proofs.Keeping.{keeps_join, keeps_wider}
use Rattle.lower_base.proofs.Listing.{item_past, item_within}
use Rattle.lower_base.proofs.PartValues.{behind_get, front_get}
use Rattle.lower_base.proofs.Rowed.{small_num}
use Rattle.lower_base.proofs.Runs.{ends_join, follows_then, obeys, reaches_join, stands_left, stands_right}
use Rattle.lower_base.proofs.Singles.{IsSingleValue}
use Rattle.lower_base.proofs.Written.{Written, written_keeps}
use Rattle.expr_lower.specs.Filled.{Fills}
use Rattle.expr_lower.specs.Filling.{apart_tail}
use Rattle.expr_lower.specs.Shaped.{AreShaped, IsShaped}
use Rattle.expr_lower.proofs.Forms.{FillsAt, Ready, evaluated, ready_in, ready_still}
use Rattle.expr_lower.proofs.Moving.{AreMoved, copied_are}
use Rattle.expr_lower.proofs.PartForms.{copy_from_leaves}
use Rattle.expr_lower.proofs.Shapes.{flat_shaped}
use Rattle.expr_lower.proofs.Steps.{cut_later, cut_on, stands_still, straight_reaches}

-- ---- items of a list

shaped_at : (t : Shape) (vs : Values) (i : ℕ) (u : Value) → AreShaped t vs → value_at vs i ≡ Some u → IsShaped t u
shaped_at t Nil i u h e = cc
shaped_at t (Cons v vs) zero u h e = let same : v ≡ u = cc in subst (IsShaped t) same h.0
shaped_at t (Cons v vs) (suc i) u h e = shaped_at t vs i u h.1 e

-- the numbers of an item are at its place among those of the list
numbers_at : (t : Shape) (vs : Values) (i : ℕ) (u : Value) (j : ℕ) (z : ℤ) → AreShaped t vs → value_at vs i ≡ Some u → slice_get (flat u) j ≡ Some z → slice_get (flat_all vs) (i * scalars_of_type t + j) ≡ Some z
numbers_at t Nil i u j z h e g = cc
numbers_at t (Cons v vs) zero u j z h e g =
    let same : v ≡ u = cc in
    let at : 0 * scalars_of_type t + j ≡ j = omega arith in
    ap (λ i. slice_get (flat v ++ flat_all vs) i) at ∙ front_get (flat v) (flat_all vs) j z (subst (λ w. slice_get (flat w) j ≡ Some z) (sym same) g)
numbers_at t (Cons v vs) (suc i) u j z h e g =
    let size : length (flat v) ≡ scalars_of_type t = flat_shaped t v h.0 in
    let m : ℕ = scalars_of_type t in
    let more : suc i * m ≡ m + i * m = omega arith in
    let at : suc i * m + j ≡ length (flat v) + (i * m + j) = omega (arith, size, more) in
    ap (λ k. slice_get (flat v ++ flat_all vs) k) at ∙ behind_get (flat v) (flat_all vs) (i * m + j) ∙ numbers_at t vs i u j z h.1 e g

-- ---- what the last instructions do

module _ (fs : List Function) (globals : List Name) (w : World) (serves : Serves w globals fs) (frames : List ℕ) where
  module _ (t : Shape) (vs : Values) (many c n m base place : ℕ) (stack before cells : List ℤ) (left now : ℕ) (shaped : IsShaped (Many many t) (Items vs)) (stands : StandAt (Cell n) w.tokens cells (flat_all vs))
      (at : StandsAt w.code.instrs place (apart_tail c n many (scalars_of_type t))) (below : c + scalars_of_type t ≤ n) (wide : c + scalars_of_type t ≤ m) (there : n + many * scalars_of_type t ≤ length cells)
      (small : many * scalars_of_type t < 2 ^ 32) (keeps : Keeps c m w.low w.high before cells) where
    abbrev each : ℕ
    each = scalars_of_type t

    abbrev s : State
    s = state base stack frames before left

    abbrev on_index : ℤ → State
    on_index z = state place (z ∷ pos 0 ∷ stack) frames cells now

    abbrev Copies : Out Value → Type 0
    Copies o = Follows o (Fills w c m c t s (place + 1 + 1)) (CutsOff w c m s)

    copied_at : (i : ℕ) (o : Option Value) → value_at vs i ≡ o → Reaches w.code w.tokens s (on_index (pos i)) → Copies (elim o [ None ↦ Traps IndexRange | Some v ↦ Gives v now ])
    copied_at i None e reach =
        let past = item_past vs i e in
        let size = shaped.0 in
        let outside : nat_le (i + 1) many ≡ false = grind (arith, nat_tests, size, past) in
        let fails : effect w.tokens (op.Index many each) (pos i ∷ pos 0 ∷ stack) cells ≡ Fails IndexRange =
        ap (λ b. if b then push_computed (arithmetic.whole (pos (0 + i * each))) stack cells else Fails IndexRange) outside in
        record { cells = cells; ends = ends_join reach (stop (obeys w.code w.tokens (on_index (pos i)) (op.Index many each) at.0 ∙ ap (go_on (on_index (pos i))) fails)); keeps = keeps }
    copied_at i (Some u) e reach =
        let inside = item_within vs i u e in
        let size = shaped.0 in
        let within : nat_le (i + 1) many ≡ true = grind (arith, nat_tests, size, inside) in
        let upto : (i + 1) * each ≤ many * each = mul-le (i + 1) each many each (omega (arith, inside, size)) (omega arith) in
        let more : (i + 1) * each ≡ i * each + each = omega arith in
        let k : ℕ = 0 + i * each in
        let fit : k + each ≤ many * each = omega (arith, upto, more) in
        let num : is_num (pos k) ≡ true = small_num k (omega (arith, fit, small)) in
        let leaves : effect w.tokens (op.Index many each) (pos i ∷ pos 0 ∷ stack) cells ≡ Leaves (pos k ∷ stack) cells =
        ap (λ b. if b then push_computed (arithmetic.whole (pos k)) stack cells else Fails IndexRange) within
        ∙ ap (λ b. push_computed (if b then arithmetic.Gives (pos k) else arithmetic.Traps trap.Overflow) stack cells) num in
        let new : List ℤ = copied None c (n + k) each cells in
        let to : c + each ≤ length cells = omega (arith, below, there) in
        let moved : AreMoved (in_cell None) (λ q. slice_get cells (n + k + q)) c each cells new = copied_are None c (n + k) each cells (inr (omega (arith, below))) to in
        let now_shaped : IsShaped t u = shaped_at t vs i u shaped.1 e in
        let count : length (flat u) ≡ each = flat_shaped t u now_shaped in
        let written : Written c each cells new = record { length_same = moved.same_size; cell = moved.others } in
        record {
          cells = new;
          reaches = reaches_join reach (reaches_join (straight_reaches w place (op.Index many each) (pos i ∷ pos 0 ∷ stack) (pos k ∷ stack) frames cells cells now (λ code tokens y. refl) at.0 leaves)
              (straight_reaches w (place + 1) (op.CopyFrom c n (many * each) each) (pos k ∷ stack) stack frames cells new now (λ code tokens y. refl) at.1.0
              (copy_from_leaves c n (many * each) each k w.tokens stack cells fit to (omega (arith, fit, there)))));
          keeps = keeps_join keeps (written_keeps c each c m w.low w.high cells new (omega arith) wide written);
          shaped = now_shaped;
          stands = λ q z g.
              let small_q = slice_get_within (flat u) q z g in
              let same : n + (i * each + q) ≡ n + k + q = omega arith in
              moved.there q z (omega (arith, small_q, count)) (subst (λ d. slice_get cells d ≡ Some z) same (stands (i * each + q) z (numbers_at t vs i u q z shaped.1 e g)));
        }

    copied_number : (z : ℤ) → Reaches w.code w.tokens s (on_index z) → Copies (indexed (Items vs) (Num z) now)
    copied_number (pos i) reach = copied_at i (value_at vs i) refl reach
    copied_number (negsuc i) reach =
        record { cells = cells; ends = ends_join reach (stop (obeys w.code w.tokens (on_index (negsuc i)) (op.Index many each) at.0)); keeps = keeps }

    copied_value : (x : Value) (z : ℤ) → flat x ≡ z ∷ [] → Reaches w.code w.tokens s (on_index z) → Copies (indexed (Items vs) x now)
    copied_value (Num y) z is reach =
        let same : z ≡ y = sym (same_number y z is) in
        copied_number y (subst (λ q. Reaches w.code w.tokens s (on_index q)) same reach)
    copied_value (Truth b) z is reach = tt
    copied_value (Items us) z is reach = tt

  copies : (t : Shape) (v x : Value) (z : ℤ) (many c n m base place : ℕ) (stack before cells : List ℤ) (left now : ℕ) → IsShaped (Many many t) v → StandAt (Cell n) w.tokens cells (flat v) → StandsAt w.code.instrs place (apart_tail c n many (scalars_of_type t))
      → c + scalars_of_type t ≤ n → c + scalars_of_type t ≤ m → n + many * scalars_of_type t ≤ length cells → many * scalars_of_type t < 2 ^ 32 → Keeps c m w.low w.high before cells → flat x ≡ z ∷ []
      → Reaches w.code w.tokens (state base stack frames before left) (state place (z ∷ pos 0 ∷ stack) frames cells now)
      → Follows (indexed v x now) (Fills w c m c t (state base stack frames before left) (place + 1 + 1)) (CutsOff w c m (state base stack frames before left))
  copies t (Num y) x z many c n m base place stack before cells left now shaped stands at below wide there small keeps is reach = absurd shaped
  copies t (Truth b) x z many c n m base place stack before cells left now shaped stands at below wide there small keeps is reach = absurd shaped
  copies t (Items vs) x z many c n m base place stack before cells left now shaped stands at below wide there small keeps is reach =
      copied_value t vs many c n m base place stack before cells left now shaped stands at below wide there small keeps x z is reach

  -- ---- the whole

  pub fills_apart : (names : List Name) (e place : Tree) (t : Shape) (many at c base n k m : ℕ) (a b : List Instr) → nat_lt (many * scalars_of_type t) (2 ^ 32) ≡ true → c + scalars_of_type t ≤ n → n + many * scalars_of_type t ≤ k → k ≤ m
      → FillsAt fs globals w serves frames names e (Many many t) n base a k → IsCode fs names place (base + length a + 1) k b m
      → FillsAt fs globals w serves frames names (tree.index e place at) t c base (a ++ op.Const (pos 0) ∷ (b ++ apart_tail c n many (scalars_of_type t))) m
  fills_apart names e place t many at c base n k m a b small le wide ge fills coded env stack cells left stands r =
      let each : ℕ = scalars_of_type t in
      let tail : List Instr = apart_tail c n many each in
      let code : List Instr = a ++ op.Const (pos 0) ∷ (b ++ tail) in
      let s : State = state base stack frames cells left in
      let rest = stands_right w.code.instrs base a (op.Const (pos 0) ∷ (b ++ tail)) stands in
      let last : StandsAt w.code.instrs (base + length a + 1 + length b) tail = stands_right w.code.instrs (base + length a + 1) b tail rest.1 in
      let end : base + length a + 1 + length b + 1 + 1 ≡ base + length code = omega (arith, length-append a (op.Const (pos 0) ∷ (b ++ tail)), length-append b tail) in
      let up : c ≤ n = omega (arith, le) in
      let less : many * each < 2 ^ 32 = grind (arith, nat_tests, small) in
      let room = r.room in
      follows_then (eval e w.calls env left) (λ v j. and_then (eval place w.calls env j) (λ x h. indexed v x h)) (Fills w n k n (Many many t) s (base + length a)) (CutsOff w n k s) (Fills w c m c t s (base + length code)) (CutsOff w c m s)
      (fills env stack cells left (stands_left w.code.instrs base a (op.Const (pos 0) ∷ (b ++ tail)) stands) (ready_in fs globals w serves frames names env c m n k cells up ge r))
      (λ v j p.
      let u : State = state (base + length a + 1) (pos 0 ∷ stack) frames p.cells j in
      let on : Reaches w.code w.tokens s u = reaches_join p.reaches (straight_reaches w (base + length a) (op.Const (pos 0)) stack (pos 0 ∷ stack) frames p.cells p.cells j (λ code tokens y. refl) rest.0 refl) in
      let keeps : Keeps c m w.low w.high cells p.cells = keeps_wider c m up ge p.keeps in
      let now : Ready fs globals w serves frames names env c m p.cells = ready_still fs globals w serves frames names env c m cells p.cells keeps r in
      let count : length (flat v) ≡ many * each = flat_shaped (Many many t) v p.shaped in
      follows_then (eval place w.calls env j) (λ x h. indexed v x h) (λ x h. Pushes w k m u (base + length a + 1 + length b) x h × IsSingleValue x) (λ d. CutsOff w k m u d × Unit {0})
      (Fills w c m c t s (base + length code)) (CutsOff w c m s)
      (evaluated fs globals w serves frames names env k coded (omega arith) (pos 0 ∷ stack) p.cells j (stands_left w.code.instrs (base + length a + 1) b tail rest.1) (ready_in fs globals w serves frames names env c m k m p.cells (omega (arith, up, wide)) (omega arith) now))
      (λ x h both.
      let q : Pushes w k m u (base + length a + 1 + length b) x h = both.0 in
      let first = p.keeps.size in
      let second = q.keeps.size in
      subst (λ z. Follows (indexed v x h) (Fills w c m c t s z) (CutsOff w c m s)) end
      (copies t v x q.number many c n m base (base + length a + 1 + length b) stack cells q.cells left h p.shaped
      (stands_still w n k p.cells q.cells (flat v) q.keeps (omega (arith, count, wide)) (omega (arith, count, wide)) (ready_in fs globals w serves frames names env c m n k p.cells up ge now).free p.stands)
      last le (omega (arith, le, wide, ge)) (omega (arith, wide, ge, room, first, second)) less (keeps_join keeps (keeps_wider c m (omega (arith, up, wide)) (omega arith) q.keeps)) q.is (reaches_join on q.reaches)))
      (λ d both. cut_later w c m s u d on keeps (cut_on w k m c m u d (omega (arith, up, wide)) (omega arith) both.0)))
      (λ d q. cut_on w n k c m s d up ge q)
