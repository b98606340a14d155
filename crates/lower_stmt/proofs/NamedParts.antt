-- The code that stores the list of a name, in a part of a list or in a whole one, does what executing the assignment does.
use Rattle.std.proofs.Common.{◌≡◌, ℕ, ◌+◌, ◌≤◌, ◌⊎◌, inl, inr, ⊎_elim, ℤ, List, [], ◌∷◌, ◌++◌, length, Bool, true, false, refl, sym, ap, ◌∙◌, subst, Option, Some, arith, length-append}
use Rattle.std.specs.Prelude.{slice_get}
use Rattle.std.specs.Str.{bytes_eq}
use Rattle.std.proofs.lemmas.Option.{slice_get_within}
use Rattle.rvc_base.specs.declared.scalar.Scalar.{Scalar}
use Rattle.std.proofs.lemmas.Slice.Eq.{bytes_eq-Decides}
use Rattle.cal_ast.specs.Tree as tree
use Rattle.cal_ast.specs.Tree.{Tree}
use Rattle.cal_model.specs.Value.{Shape, Value, Nil, IsType, scalars_of_type, stored}
use Rattle.cal_model.specs.Outcome.{Out, Gives, and_then, known}
use Rattle.cal_model.specs.Env.{assign}
use Rattle.cal_model.specs.Expression.{eval, eval_all}
use Rattle.cal_model.specs.Statement.{Runs, exec}
use Rattle.code_ir.specs.declared.instr.Instr.{Instr}
use Rattle.code_ir.specs.declared.instr.Instr.TheVariants as op
use Rattle.code_ir.specs.Effect.{copied, stored as in_cell}
use Rattle.code_ir.specs.Running.{State, Reaches}
use Rattle.lower_base.specs.declared.names.Seat.TheVariants.{Cell}
use Rattle.lower_base.specs.Calling.{Serves}
use Rattle.lower_base.specs.Flat.{flat}
use Rattle.lower_base.specs.Following.{CutsOff, Follows}
use Rattle.lower_base.specs.Held.{HoldsName, SeatIsBelow, StandAt}
use Rattle.lower_base.specs.Names.{Name, named}
use Rattle.lower_base.specs.Parted.{alike, number_of, sized}
use Rattle.lower_base.specs.Placed.{World, state}
use Rattle.lower_base.proofs.PartValues.{sized_is}
use Rattle.lower_base.proofs.Runs.{follows_then, stands_left, stands_right}
use Rattle.lower_base.proofs.Written.{Written}
use Rattle.expr_lower.specs.Shaped.{IsShaped}
use Rattle.expr_lower.proofs.Moving.{AreMoved, copied_are, copy_leaves}
use Rattle.expr_lower.proofs.Shapes.{alike_sizes, flat_shaped, kind_shaped}
use Rattle.expr_lower.proofs.Steps.{straight_reaches}
use Rattle.lower_stmt.specs.Bodies.{CutShort}
use Rattle.lower_stmt.specs.Changing.{SeatsApart}
use Rattle.lower_stmt.specs.Procedures.{Routines}
use Rattle.lower_stmt.specs.Stating.{IsKept, part_tail, step_code}
use Rattle.lower_stmt.specs.Targets.{leaf_of, part_in}
use Rattle.lower_stmt.proofs.Copying.{laid_distinct, stores_run}
use Rattle.lower_stmt.proofs.DeepItems.{AtKept, grows_kept, keep, tail_moves}
use Rattle.lower_stmt.proofs.Leaves.{stored_leaf}
use Rattle.lower_stmt.proofs.Performing.{Moves, Performs, cut_breaks, moves_at}
use Rattle.lower_stmt.proofs.Scoping.{AreLaid, HoldsInside, PutsAt, inside_still, laid_below, laid_typed, names_held}

module _ (rs : Routines) (outer : List Name) (w : World) (serves : Serves w outer rs.functions) (frames : List ℕ) (runs : Runs) where
  -- the two lists share no cell, or they are one
  away : (inner : List Name) (n c d size : ℕ) (text from : List ℕ) (x y : Name) (t : Shape) → AreLaid rs outer w.tokens w.low w.high n inner → named text (inner ++ outer) ≡ Some x → x.seat ≡ Cell c → scalars_of_type x.shape ≡ size
      → named from (inner ++ outer) ≡ Some y → y.seat ≡ Cell d → alike t y.shape ≡ true → (d + scalars_of_type t ≤ c) ⊎ (c + size ≤ d + scalars_of_type t)
  away inner n c d size text from x y t laid e seat many f place same = go (bytes_eq text from) refl
    where
      wide : scalars_of_type t ≡ scalars_of_type y.shape
      wide = alike_sizes t y.shape same

      same_name : (a b : Name) → ◌≡◌ {A = Option Name} (Some a) (Some b) → a ≡ b
      same_name a b h = cc

      same_cell : (a b : ℕ) → Cell a ≡ Cell b → a ≡ b
      same_cell a b h = cc

      go : (b : Bool) → bytes_eq text from ≡ b → (d + scalars_of_type t ≤ c) ⊎ (c + size ≤ d + scalars_of_type t)
      go true h =
          let texts : text ≡ from = (bytes_eq-Decides text from).0 h in
          let one : x ≡ y = same_name x y (sym e ∙ ap (λ u. named u (inner ++ outer)) texts ∙ f) in
          let cells : c ≡ d = same_cell c d (sym seat ∙ ap (λ (z : Name). z.seat) one ∙ place) in
          let sizes : scalars_of_type x.shape ≡ scalars_of_type y.shape = ap (λ (z : Name). scalars_of_type z.shape) one in
          let w1 = wide in
          inr (omega (arith, cells, sizes, w1, many))
      go false h =
          let apart : SeatsApart (Cell c) (scalars_of_type x.shape) (Cell d) (scalars_of_type y.shape) =
          subst (λ z. SeatsApart (Cell c) (scalars_of_type x.shape) z (scalars_of_type y.shape)) place
          (subst (λ z. SeatsApart z (scalars_of_type x.shape) y.seat (scalars_of_type y.shape)) seat (laid_distinct rs outer w.tokens w.low w.high n inner laid text from x y e f h))
          in
          let w1 = wide in
          ⊎_elim (λ (a : d + scalars_of_type y.shape ≤ c). inl (omega (arith, a, w1))) (λ (a : c + scalars_of_type x.shape ≤ d). inr (omega (arith, a, many))) apart

  pub set_part_list_performs : (inner : List Name) (text from : List ℕ) (places : Tree) (place from_at at base n m c size d : ℕ) (a : List Instr) (x y : Name) (t : Shape)
      → named text (inner ++ outer) ≡ Some x → x.seat ≡ Cell c → sized x.shape ≡ Some size → part_in x.shape places ≡ Some t
      → named from (inner ++ outer) ≡ Some y → y.seat ≡ Cell d → alike t y.shape ≡ true → IsKept rs.functions (inner ++ outer) n places base (n + number_of places) a m
      → Performs rs outer w serves frames inner (λ env left. exec (tree.assign (tree.ident text place) places (tree.variable from from_at) at) w.calls runs env left) base n (a ++ part_tail c size d t (step_code n x.shape places)) m
  set_part_list_performs inner text from places place from_at at base n m c size d a x y t e seat shape part f there same first stack cells env left stands laid apart room holds =
      let names : List Name = inner ++ outer in
      let tail : List Instr = part_tail c size d t (step_code n x.shape places) in
      let s : State = state base stack frames cells left in
      let grown : n + number_of places ≤ m = grows_kept first in
      let end : base + length a + length tail ≡ base + length (a ++ tail) = omega (arith, length-append a tail) in
      let many : scalars_of_type x.shape ≡ size = sized_is x.shape size shape in
      let wide : scalars_of_type t ≡ scalars_of_type y.shape = alike_sizes t y.shape same in
      let under : d + scalars_of_type y.shape ≤ n = subst (λ z. SeatIsBelow n (scalars_of_type y.shape) z) there (laid_below rs outer w.tokens w.low w.high n inner laid from y f) in
      follows_then (eval_all places w.calls env left) (λ us h. and_then (eval (tree.variable from from_at) w.calls env h) (λ v j. assign env text us v j)) (AtKept w n m (number_of places) s (base + length a)) (CutsOff w n m s) (Moves rs outer w serves frames inner n m s (base + length (a ++ tail)) (length env.locals)) (CutShort w names outer n m s)
      (keep rs outer w serves frames inner env (omega arith) first stack cells left (stands_left w.code.instrs base a tail stands) laid apart room holds)
      (λ us h q.
      let one = q.keeps.size in
      let still : HoldsInside rs outer w.tokens w.low w.high inner q.cells env = inside_still rs outer w.tokens w.low w.high n m inner cells q.cells env laid q.keeps holds in
      let v : HoldsName w.tokens q.cells env from y = names_held rs outer w.tokens w.low w.high inner q.cells env still from y f in
      let gives : eval (tree.variable from from_at) w.calls env h ≡ Gives v.value h = ap (λ (o : Option Value). known o h) v.meant in
      subst (λ (o : Out Value). Follows (and_then o (λ v j. assign env text us v j)) (Moves rs outer w serves frames inner n m s (base + length (a ++ tail)) (length env.locals)) (CutShort w names outer n m s)) (sym gives)
      (moves_at rs outer w serves frames (assign env text us v.value h) inner n m (base + length a + length tail) (base + length (a ++ tail)) (length env.locals) s end
      (tail_moves rs outer w serves frames runs inner places n m base (base + length a) c d size text x t stack cells q.cells us v.value env left h e seat shape part (stands_right w.code.instrs base a tail stands) (omega (arith, grown)) (omega (arith, one, room)) laid
      (away inner n c d size text from x y t laid e seat many f there same) (omega (arith, under, wide, grown, one, room)) (subst (λ z. StandAt z w.tokens q.cells (flat v.value)) there v.stands) (kind_shaped t y.shape v.value same v.of_type)
      q.kept q.as_many q.reaches q.keeps holds)))
      (λ b q. cut_breaks rs outer w serves frames names n n m m s b (omega arith) (omega arith) q)

  -- .. or in the whole variable
  pub set_whole_performs : (inner : List Name) (text from : List ℕ) (place from_at at base n c d : ℕ) (x y : Name) → named text (inner ++ outer) ≡ Some x → x.seat ≡ Cell c → named from (inner ++ outer) ≡ Some y → y.seat ≡ Cell d → alike x.shape y.shape ≡ true
      → Performs rs outer w serves frames inner (λ env left. exec (tree.assign (tree.ident text place) tree.nil (tree.variable from from_at) at) w.calls runs env left) base n (op.Copy c d (scalars_of_type x.shape) (Some (leaf_of x.shape)) ∷ []) n
  set_whole_performs inner text from place from_at at base n c d x y e seat f there same stack cells env left stands laid apart room holds =
      let names : List Name = inner ++ outer in
      let size : ℕ = scalars_of_type x.shape in
      let leaf : Scalar = leaf_of x.shape in
      let i : Instr = op.Copy c d size (Some leaf) in
      let s : State = state base stack frames cells left in
      let v : HoldsName w.tokens cells env from y = names_held rs outer w.tokens w.low w.high inner cells env holds from y f in
      let gives : eval (tree.variable from from_at) w.calls env left ≡ Gives v.value left = ap (λ (o : Option Value). known o left) v.meant in
      let wide : size ≡ scalars_of_type y.shape = alike_sizes x.shape y.shape same in
      let under : c + size ≤ n = subst (λ z. SeatIsBelow n size z) seat (laid_below rs outer w.tokens w.low w.high n inner laid text x e) in
      let below : d + scalars_of_type y.shape ≤ n = subst (λ z. SeatIsBelow n (scalars_of_type y.shape) z) there (laid_below rs outer w.tokens w.low w.high n inner laid from y f) in
      let typed : IsType x.shape = laid_typed rs outer w.tokens w.low w.high n inner laid text x e in
      let to : c + size ≤ length cells = omega (arith, under, room) in
      let source : d + size ≤ length cells = omega (arith, below, wide, room) in
      let far : (d + size ≤ c) ⊎ (c ≤ d) = ⊎_elim (λ (a : d + size ≤ c). inl a) (λ (a : c + size ≤ d + size). inr (omega (arith, a))) (away inner n c d size text from x y x.shape laid e seat refl f there same) in
      let written : List ℤ = copied (Some leaf) c d size cells in
      let moved : AreMoved (in_cell (Some leaf)) (λ j. slice_get cells (d + j)) c size cells written = copied_are (Some leaf) c d size cells far to in
      let on : Reaches w.code w.tokens s (state (base + 1) stack frames written left) =
      straight_reaches w base i stack stack frames cells written left (λ code tokens q. refl) stands.0 (copy_leaves (Some leaf) c d size w.tokens stack cells to source) in
      let wrote : Written c size cells written = record { length_same = moved.same_size; cell = moved.others } in
      let shaped : IsShaped x.shape v.value = kind_shaped x.shape y.shape v.value same v.of_type in
      let made = stored_leaf x.shape v.value shaped typed in
      let all : length (flat v.value) ≡ size = flat_shaped x.shape v.value shaped in
      let stands_there : StandAt (Cell d) w.tokens cells (flat v.value) = subst (λ z. StandAt z w.tokens cells (flat v.value)) there v.stands in
      let now : StandAt (Cell c) w.tokens written (flat (stored x.shape v.value)) = λ j z g.
      let old = made.1 j z g in
      let within = slice_get_within (flat v.value) j old.0 old.1 in
      moved.there j old.0 (omega (arith, within, all)) (stands_there j old.0 old.1) ∙ ap Some (sym old.2)
      in
      let puts : PutsAt rs outer w.tokens w.low w.high (Unit {0}) x cells written Nil v.value left (λ b. ⊥) =
      λ u kind stand. (refl, ((made.0, subst (λ z. StandAt z w.tokens written (flat (stored x.shape v.value))) (sym seat) now), tt)) in
      subst (λ (o : Out Value). Follows (and_then o (λ v j. assign env text Nil v j)) (Moves rs outer w serves frames inner n n s (base + 1) (length env.locals)) (CutShort w names outer n n s)) (sym gives)
      (stores_run rs outer w serves frames runs inner n base (base + 1) c text x stack cells written v.value env left on laid e seat wrote puts holds)
