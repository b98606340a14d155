-- The code of a part of a list fills cells with what evaluating a chain of indexes gives.
use Rattle.std.proofs.Common.{◌≡◌, ℕ, ◌+◌, ◌≤◌, inl, ℤ, pos, List, [], ◌∷◌, ◌++◌, length, true, refl, sym, ap, ◌∙◌, subst, Option, None, Some, arith, length-append}
use Rattle.std.specs.Prelude.{if◌then◌else◌, nat_le, slice_get}
use Rattle.std.proofs.lemmas.Bool.Decides.{nat_tests}
use Rattle.std.proofs.lemmas.Option.{slice_get_within}
use Rattle.rvc_base.specs.declared.trap.Trap.TheVariants.{IndexRange}
use Rattle.cal_ast.specs.Tree.{Tree}
use Rattle.cal_model.specs.Value.{Shape, Value, scalars_of_type}
use Rattle.cal_model.specs.Expression.{eval}
use Rattle.code_ir.specs.declared.instr.Instr.{Instr}
use Rattle.code_ir.specs.declared.instr.Instr.TheVariants as op
use Rattle.code_ir.specs.Effect.{Leaves, Breaks, Fails, copied, effect, stored as in_cell}
use Rattle.code_ir.specs.Running.{State, Reaches}
use Rattle.lower_base.specs.declared.names.Seat.TheVariants.{Cell}
use Rattle.lower_base.specs.Callees.{Function}
use Rattle.lower_base.specs.Calling.{Serves}
use Rattle.lower_base.specs.Coding.{IsOffset}
use Rattle.lower_base.specs.Flat.{flat}
use Rattle.lower_base.specs.Following.{CutsOff}
use Rattle.lower_base.specs.Held.{HoldsName, Keeps, SeatIsBelow, StandAt}
use Rattle.lower_base.specs.Names.{Name}
use Rattle.lower_base.specs.Parted.{Part, part_named}
use Rattle.lower_base.specs.Placed.{World, state}
use Rattle.lower_base.proofs.Coded.{offsets}
use Rattle.lower_base.proofs.Keeping.{keeps_join, keeps_wider}
use Rattle.lower_base.proofs.PartValues.{IsPartOf, part_found, sized_is}
use Rattle.lower_base.proofs.Rowed.{AtOffset}
use Rattle.lower_base.proofs.Runs.{follows_more, reaches_join, stands_left, stands_right}
use Rattle.lower_base.proofs.Written.{Written, written_keeps}
use Rattle.expr_lower.specs.Filled.{Fills}
use Rattle.expr_lower.specs.Filling.{alike}
use Rattle.expr_lower.specs.Shaped.{IsShaped}
use Rattle.expr_lower.proofs.Forms.{FillsAt, Ready, away, holding, ready_still, under}
use Rattle.expr_lower.proofs.Moving.{AreMoved, copied_are}
use Rattle.expr_lower.proofs.Shapes.{alike_sizes, flat_shaped, kind_shaped}
use Rattle.expr_lower.proofs.Steps.{cut_on, straight_reaches}

pub copy_from_leaves : (d s n m i : ℕ) (tokens : ℕ → List ℤ) (stack cells : List ℤ) → i + m ≤ n → d + m ≤ length cells → s + i + m ≤ length cells
    → effect tokens (op.CopyFrom d s n m) (pos i ∷ stack) cells ≡ Leaves stack (copied None d (s + i) m cells)
copy_from_leaves d s n m i tokens stack cells fit to from =
    let near : nat_le (i + m) n ≡ true = grind (arith, nat_tests, fit) in
    let inside : nat_le (d + m) (length cells) ≡ true = grind (arith, nat_tests, to) in
    let there : nat_le (s + i + m) (length cells) ≡ true = grind (arith, nat_tests, from) in
    ap (λ b. if b then (if nat_le (d + m) (length cells) then (if nat_le (s + i + m) (length cells) then Leaves stack (copied None d (s + i) m cells) else Breaks) else Breaks) else Fails IndexRange) near
    ∙ ap (λ b. if b then (if nat_le (s + i + m) (length cells) then Leaves stack (copied None d (s + i) m cells) else Breaks) else Breaks) inside
    ∙ ap (λ b. if b then Leaves stack (copied None d (s + i) m cells) else Breaks) there

module _ (fs : List Function) (globals : List Name) (w : World) (serves : Serves w globals fs) (frames : List ℕ) where
  pub fills_part : (names : List Name) (e : Tree) (t : Shape) (c base n m from : ℕ) (code : List Instr) (p : Part) → part_named names e ≡ Some p → p.seat ≡ Cell from → alike t p.shape ≡ true → IsOffset fs names e base n code m → c + scalars_of_type t ≤ n → n ≤ m
      → FillsAt fs globals w serves frames names e t c base (code ++ op.CopyFrom c from p.size (scalars_of_type t) ∷ []) m
  fills_part names e t c base n m from code p is seat same coded le ge env stack cells left stands r =
      let s : State = state base stack frames cells left in
      let size : ℕ = scalars_of_type t in
      let i : Instr = op.CopyFrom c from p.size size in
      let end : base + length code + 1 ≡ base + length (code ++ i ∷ []) = omega (arith, length-append code (i ∷ [])) in
      let up : c ≤ n = omega (arith, le) in
      let room = r.room in
      let f : IsPartOf names p = part_found names e p is in
      let many : scalars_of_type f.x.shape ≡ p.size = sized_is f.x.shape p.size f.size in
      let low : from + p.size ≤ c = subst (λ k. from + k ≤ c) many (subst (λ z. SeatIsBelow c (scalars_of_type f.x.shape) z) (f.seat ∙ seat) (r.below.0 f.text f.x f.is)) in
      let wide : size ≡ scalars_of_type p.shape = alike_sizes t p.shape same in
      follows_more (eval e w.calls env left) (AtOffset names w env p n m s (base + length code)) (CutsOff w n m s) (Fills w c m c t s (base + length (code ++ i ∷ []))) (CutsOff w c m s)
      (offsets fs globals names w serves env frames c m coded (omega arith) p is stack cells left (stands_left w.code.instrs base code (i ∷ []) stands) (under fs globals w serves frames names env c m n cells up r) (away fs globals w serves frames names env c m cells r) (holding fs globals w serves frames names env c m cells r))
      (λ v j x.
      let k : ℕ = x.offset in
      let length_same = x.keeps.size in
      let within = x.inside.within in
      let to : c + size ≤ length x.cells = omega (arith, le, ge, room, length_same) in
      let fits : k + size ≤ p.size = omega (arith, within, wide) in
      let now : List ℤ = copied None c (from + k) size x.cells in
      let moved : AreMoved (in_cell None) (λ q. slice_get x.cells (from + k + q)) c size x.cells now = copied_are None c (from + k) size x.cells (inl (omega (arith, fits, low))) to in
      let keeps : Keeps c m w.low w.high cells x.cells = keeps_wider c m up (omega arith) x.keeps in
      let now_ready : Ready fs globals w serves frames names env c m x.cells = ready_still fs globals w serves frames names env c m cells x.cells keeps r in
      let h : HoldsName w.tokens x.cells env x.inside.text x.inside.x = now_ready.held.0 x.inside.text x.inside.x x.inside.is in
      let one : h.value ≡ x.inside.whole = same_value h.value x.inside.whole (sym h.meant ∙ x.inside.meant) in
      let all : StandAt (Cell from) w.tokens x.cells (flat x.inside.whole) = subst (λ z. StandAt z w.tokens x.cells (flat x.inside.whole)) (x.inside.seat ∙ seat) (subst (λ u. StandAt x.inside.x.seat w.tokens x.cells (flat u)) one h.stands) in
      let shaped : IsShaped t v = kind_shaped t p.shape v same x.inside.of_type in
      let count : length (flat v) ≡ size = flat_shaped t v shaped in
      let written : Written c size x.cells now = record { length_same = moved.same_size; cell = moved.others } in
      record {
        cells = now;
        reaches = subst (λ q. Reaches w.code w.tokens s (state q stack frames now j)) end
            (reaches_join x.reaches (straight_reaches w (base + length code) i (pos k ∷ stack) stack frames x.cells now j (λ code tokens y. refl) (stands_right w.code.instrs base code (i ∷ []) stands).0
            (copy_from_leaves c from p.size size k w.tokens stack x.cells fits to (omega (arith, low, fits, le, ge, room, length_same)))));
        keeps = keeps_join keeps (written_keeps c size c m w.low w.high x.cells now (omega arith) (omega (arith, le, ge)) written);
        shaped = shaped;
        stands = λ q z g.
            let there : from + (k + q) ≡ from + k + q = omega arith in
            let small = slice_get_within (flat v) q z g in
            moved.there q z (omega (arith, small, count)) (subst (λ d. slice_get x.cells d ≡ Some z) there (all (k + q) z (x.inside.at q z g)));
      })
      (λ d q. cut_on w n m c m s d up (omega arith) q)
    where
      same_value : (v u : Value) → ◌≡◌ {A = Option Value} (Some v) (Some u) → v ≡ u
      same_value v u e = cc
