-- The code of the start of a local that is a list does what starting it does.
use Rattle.std.proofs.Common.{◌≡◌, ℕ, ◌+◌, ◌≤◌, inr, ℤ, pos, List, [], ◌∷◌, ◌++◌, length, refl, sym, ap, ◌∙◌, subst, Some, arith, length-append}
use Rattle.std.specs.Prelude.{slice_get}
use Rattle.std.proofs.lemmas.Option.{slice_get_within}
use Rattle.rvc_base.specs.declared.scalar.Scalar.{Scalar}
use Rattle.cal_ast.specs.Tree.{Tree}
use Rattle.cal_model.specs.Value.{Shape, Value, HasKind, IsType, kind_of_type, scalars_of_type, stored, zero_of}
use Rattle.cal_model.specs.Outcome.{Gives}
use Rattle.cal_model.specs.Env.{Env}
use Rattle.cal_model.specs.Expression.{eval}
use Rattle.cal_model.specs.Statement.{Runs, first_of}
use Rattle.cal_model.proofs.KindValues.{zero-has-kind}
use Rattle.code_ir.specs.declared.instr.Instr.{Instr}
use Rattle.code_ir.specs.declared.instr.Instr.TheVariants as op
use Rattle.code_ir.specs.Effect.{copied, zeroed, stored as in_cell}
use Rattle.code_ir.specs.Running.{State, Reaches}
use Rattle.lower_base.specs.declared.names.Seat.TheVariants.{Cell}
use Rattle.lower_base.specs.Calling.{Serves}
use Rattle.lower_base.specs.Flat.{flat}
use Rattle.lower_base.specs.Following.{CutsOff, Follows}
use Rattle.lower_base.specs.Held.{AreApart, Keeps, StandAt}
use Rattle.lower_base.specs.Names.{Name}
use Rattle.lower_base.specs.Placed.{StandsAt, World, state}
use Rattle.lower_base.proofs.Keeping.{flat_length, keeps_join, scalars_same}
use Rattle.lower_base.proofs.Runs.{follows_then, reaches_join, stands_left, stands_right}
use Rattle.lower_base.proofs.Written.{Written, written_keeps}
use Rattle.expr_lower.specs.Filled.{Fills}
use Rattle.expr_lower.proofs.Filled.{grows_fill}
use Rattle.expr_lower.proofs.Leaves.{stored_leaf}
pub use Rattle.expr_lower.proofs.ListStarts.{grows_list_start}
use Rattle.expr_lower.proofs.ListStarts.{zero_leaves, zeroed_are, zeros}
use Rattle.expr_lower.proofs.Moving.{AreMoved, copied_are, copy_leaves}
use Rattle.expr_lower.proofs.Shapes.{flat_shaped}
use Rattle.expr_lower.proofs.Steps.{straight_reaches}
use Rattle.lower_stmt.specs.Bodies.{CutShort}
use Rattle.lower_stmt.specs.ListStarting.{IsListStart, all_filled, all_zero}
use Rattle.lower_stmt.specs.Procedures.{Routines}
use Rattle.lower_stmt.specs.Targets.{leaf_of}
use Rattle.lower_stmt.proofs.FillingRuns.{fills_there}
use Rattle.lower_stmt.proofs.Performing.{cut_breaks}
use Rattle.lower_stmt.proofs.Scoping.{AreLaid, HoldsInside}

-- ---- starts

module _ (rs : Routines) (outer : List Name) (w : World) (serves : Serves w outer rs.functions) (frames : List ℕ) (runs : Runs) where
  -- the start stands in the cells
  pub record StartedList (t : Shape) (n m : ℕ) (s : State) (end : ℕ) (v : Value) (left : ℕ) : Type 0 where
    pub cells : List ℤ
    pub reaches : Reaches w.code w.tokens s (state end s.stack s.frames cells left)
    pub keeps : Keeps n m w.low w.high s.cells cells
    pub kind : HasKind (kind_of_type t) v
    pub stands : StandAt (Cell n) w.tokens cells (flat v)

  pub list_start_moves : (inner : List Name) (t : Shape) (n : ℕ) {base m : ℕ} {start : Tree} {a : List Instr} → IsType t → IsListStart rs.functions (inner ++ outer) t n start base (n + scalars_of_type t) a m
      → (stack cells : List ℤ) (env : Env) (left : ℕ) → StandsAt w.code.instrs base a → AreLaid rs outer w.tokens w.low w.high n inner → AreApart n m w.low w.high → m ≤ length cells → HoldsInside rs outer w.tokens w.low w.high inner cells env
      → Follows (first_of t start w.calls env left) (StartedList t n m (state base stack frames cells left) (base + length a)) (CutShort w (inner ++ outer) outer n m (state base stack frames cells left))
  list_start_moves inner t n typed (all_zero base h) stack cells env left stands laid apart room holds =
      let size : ℕ = scalars_of_type t in
      let now : List ℤ = zeroed n size cells in
      let moved : AreMoved (λ z. z) (λ j. Some (pos 0)) n size cells now = zeroed_are n size cells room in
      let kind : HasKind (kind_of_type t) (zero_of t) = zero-has-kind t typed in
      let many : length (flat (zero_of t)) ≡ size = flat_length (kind_of_type t) (zero_of t) kind ∙ scalars_same t in
      let wrote : Written n size cells now = record { length_same = moved.same_size; cell = moved.others } in
      record {
        cells = now;
        reaches = straight_reaches w base (op.Zero n size) stack stack frames cells now left (λ code tokens y. refl) stands.0 (zero_leaves n size w.tokens stack cells room);
        keeps = written_keeps n size n (n + size) w.low w.high cells now (omega arith) (omega arith) wrote;
        kind = kind;
        stands = λ j z e.
            let within = slice_get_within (flat (zero_of t)) j z e in
            moved.there j (pos 0) (omega (arith, within, many)) refl ∙ ap Some (sym (zeros t j z e));
      }
  list_start_moves inner t n typed (all_filled e base h m code coded) stack cells env left stands laid apart room holds =
      let names : List Name = inner ++ outer in
      let size : ℕ = scalars_of_type t in
      let leaf : Scalar = leaf_of t in
      let i : Instr = op.Copy n n size (Some leaf) in
      let s : State = state base stack frames cells left in
      let wide : n + size ≤ m = grows_fill coded in
      let end : base + length code + 1 ≡ base + length (code ++ i ∷ []) = omega (arith, length-append code (i ∷ [])) in
      follows_then (eval e w.calls env left) (λ v j. Gives (stored t v) j) (Fills w n m n t s (base + length code)) (CutsOff w n m s) (StartedList t n m s (base + length (code ++ i ∷ []))) (CutShort w names outer n m s)
      (fills_there rs outer w serves frames inner coded (omega arith) stack cells env left (stands_left w.code.instrs base code (i ∷ []) stands) laid apart room holds)
      (λ v j p.
      let same = p.keeps.size in
      let there : n + size ≤ length p.cells = omega (arith, wide, room, same) in
      let now : List ℤ = copied (Some leaf) n n size p.cells in
      let moved : AreMoved (in_cell (Some leaf)) (λ q. slice_get p.cells (n + q)) n size p.cells now = copied_are (Some leaf) n n size p.cells (inr (omega arith)) there in
      let wrote : Written n size p.cells now = record { length_same = moved.same_size; cell = moved.others } in
      let made = stored_leaf t v p.shaped typed in
      let all : length (flat v) ≡ size = flat_shaped t v p.shaped in
      record {
        cells = now;
        reaches = subst (λ q. Reaches w.code w.tokens s (state q stack frames now j)) end
            (reaches_join p.reaches (straight_reaches w (base + length code) i stack stack frames p.cells now j (λ code tokens y. refl) (stands_right w.code.instrs base code (i ∷ []) stands).0
            (copy_leaves (Some leaf) n n size w.tokens stack p.cells there there)));
        keeps = keeps_join p.keeps (written_keeps n size n m w.low w.high p.cells now (omega arith) wide wrote);
        kind = made.0;
        stands = λ q z g.
            let old = made.1 q z g in
            let within = slice_get_within (flat v) q old.0 old.1 in
            moved.there q old.0 (omega (arith, within, all)) (p.stands q old.0 old.1) ∙ ap Some (sym old.2);
      })
      (λ d q. cut_breaks rs outer w serves frames names n n m m s d (omega arith) (omega arith) q)
