-- The code that stores a list which was filled apart does what executing the assignment does.
use Rattle.std.proofs.Common.{◌≡◌, ℕ, ◌+◌, ◌*◌, ◌<◌, ◌≤◌, inr, ℤ, List, [], ◌∷◌, ◌++◌, length, refl, sym, ap, ◌∙◌, subst, Some, arith, length-append}
use Rattle.std.specs.Prelude.{slice_get}
use Rattle.std.proofs.lemmas.Option.{slice_get_within}
use Rattle.rvc_base.specs.declared.scalar.Scalar.{Scalar}
use Rattle.cal_ast.specs.Tree as tree
use Rattle.cal_ast.specs.Tree.{Tree}
use Rattle.cal_model.specs.Value.{Shape, Nil, IsType, scalars_of_type, stored}
use Rattle.cal_model.specs.Env.{Env, assign}
use Rattle.cal_model.specs.Expression.{eval, eval_all}
use Rattle.cal_model.specs.Statement.{Runs, exec}
use Rattle.code_ir.specs.declared.instr.Instr.{Instr}
use Rattle.code_ir.specs.declared.instr.Instr.TheVariants as op
use Rattle.code_ir.specs.Effect.{copied, stored as in_cell}
use Rattle.code_ir.specs.Running.{State, Reaches}
use Rattle.lower_base.specs.declared.names.Seat.TheVariants.{Cell}
use Rattle.lower_base.specs.Callees.{Function}
use Rattle.lower_base.specs.Calling.{HasRoom, Serves, outside}
use Rattle.lower_base.specs.Flat.{flat}
use Rattle.lower_base.specs.Following.{CutsOff, Follows}
use Rattle.lower_base.specs.Held.{AllApart, AreApart, AreBelow, Holds, SeatIsBelow, StandAt}
use Rattle.lower_base.specs.Names.{Name, named}
use Rattle.lower_base.specs.Placed.{StandsAt, World, state}
use Rattle.lower_base.proofs.Coded.{no_serves}
use Rattle.lower_base.proofs.Runs.{follows_then, stands_left, stands_right}
use Rattle.lower_base.proofs.Written.{Written}
use Rattle.expr_lower.specs.Filled.{Fills}
use Rattle.lower_base.specs.Parted.{number_of}
use Rattle.expr_lower.specs.Filling.{AreFills, IsFill}
use Rattle.expr_lower.proofs.Filled.{fills_each, fills_in, grows_fill}
use Rattle.expr_lower.proofs.Forms.{FillsAll}
use Rattle.expr_lower.proofs.Moving.{AreMoved, copied_are, copy_leaves}
use Rattle.expr_lower.proofs.Shapes.{flat_shaped}
use Rattle.expr_lower.proofs.Steps.{straight_reaches}
use Rattle.lower_stmt.specs.Bodies.{CutShort}
use Rattle.lower_stmt.specs.Procedures.{Routines}
use Rattle.lower_stmt.specs.Targets.{leaf_of}
use Rattle.lower_stmt.proofs.Copying.{stores_run}
use Rattle.lower_stmt.proofs.Evaluating.{GlobalsHeld, globals_held}
use Rattle.lower_stmt.proofs.Leaves.{stored_leaf}
use Rattle.lower_stmt.proofs.Performing.{Moves, Performs, cut_breaks, keeps_but, move_after, moves_at}
use Rattle.lower_stmt.proofs.Scoping.{AreLaid, HoldsInside, PutsAt, inside_still, laid_apart, laid_below, laid_typed, names_held, outer_apart, outer_below}

-- what there is to say of globals and routines, if nothing may be called
no_below : (n : ℕ) → AreBelow n []
no_below n text x e = cc

no_apart : (low high : ℕ) → AllApart low high []
no_apart low high text x e = cc

no_held : (tokens : ℕ → List ℤ) (cells : List ℤ) (env : Env) → Holds [] tokens cells env
no_held tokens cells env text x e = cc

no_room : (high : ℕ) (cells : List ℤ) → HasRoom [] high cells
no_room high cells some = absurd (omega (arith, some))

module _ (rs : Routines) (outer : List Name) (w : World) (serves : Serves w outer rs.functions) (frames : List ℕ) where
  -- code of a list fills cells with it, whatever it calls
  pub fills_there : (inner : List Name) {e : Tree} {t : Shape} {base n k m : ℕ} {code : List Instr} → IsFill rs.functions (inner ++ outer) e t n base k code m → n + scalars_of_type t ≤ k → (stack cells : List ℤ) (env : Env) (left : ℕ) → StandsAt w.code.instrs base code
      → AreLaid rs outer w.tokens w.low w.high n inner → AreApart n m w.low w.high → m ≤ length cells → HoldsInside rs outer w.tokens w.low w.high inner cells env
      → Follows (eval e w.calls env left) (Fills w n m n t (state base stack frames cells left) (base + length code)) (CutsOff w n m (state base stack frames cells left))
  fills_there inner {e = e} {t = t} {base = base} {n = n} {k = k} {m = m} {code = code} coded wide stack cells env left stands laid apart room holds =
      by rs.functions serves coded (λ some. globals_held rs outer w.tokens w.low w.high inner cells env holds (omega (arith, some)))
    where
      by : (fs : List Function) → Serves w outer fs → IsFill fs (inner ++ outer) e t n base k code m → (0 < length fs → GlobalsHeld outer w.tokens w.high cells env)
          → Follows (eval e w.calls env left) (Fills w n m n t (state base stack frames cells left) (base + length code)) (CutsOff w n m (state base stack frames cells left))
      by [] serve coded can =
          fills_in [] [] w (no_serves w) frames coded wide env stack cells left stands (record {
            below = (laid_below rs outer w.tokens w.low w.high n inner laid, no_below n);
            apart = (laid_apart rs outer w.tokens w.low w.high n inner laid, no_apart w.low w.high);
            free = apart;
            room = room;
            held = (names_held rs outer w.tokens w.low w.high inner cells env holds, no_held w.tokens cells (outside env.globals), no_room w.high cells);
          })
      by (f ∷ fs) serve coded can =
          let g = can (omega arith) in
          fills_in (f ∷ fs) outer w serve frames coded wide env stack cells left stands (record {
            below = (laid_below rs outer w.tokens w.low w.high n inner laid, outer_below rs outer w.tokens w.low w.high n inner laid);
            apart = (laid_apart rs outer w.tokens w.low w.high n inner laid, outer_apart rs outer w.tokens w.low w.high n inner laid);
            free = apart;
            room = room;
            held = (names_held rs outer w.tokens w.low w.high inner cells env holds, g.vars.0, λ some. g.room);
          })

  -- .. and so does code of items, one after the other
  pub all_there : (inner : List Name) {es : Tree} {t : Shape} {base n k m : ℕ} {code : List Instr} → AreFills rs.functions (inner ++ outer) es t n base k code m → n + number_of es * scalars_of_type t ≤ k → (stack cells : List ℤ) (env : Env) (left : ℕ) → StandsAt w.code.instrs base code
      → AreLaid rs outer w.tokens w.low w.high n inner → AreApart n m w.low w.high → m ≤ length cells → HoldsInside rs outer w.tokens w.low w.high inner cells env
      → Follows (eval_all es w.calls env left) (FillsAll w n m n t (number_of es) (state base stack frames cells left) (base + length code)) (CutsOff w n m (state base stack frames cells left))
  all_there inner {es = es} {t = t} {base = base} {n = n} {k = k} {m = m} {code = code} coded wide stack cells env left stands laid apart room holds =
      by rs.functions serves coded (λ some. globals_held rs outer w.tokens w.low w.high inner cells env holds (omega (arith, some)))
    where
      by : (fs : List Function) → Serves w outer fs → AreFills fs (inner ++ outer) es t n base k code m → (0 < length fs → GlobalsHeld outer w.tokens w.high cells env)
          → Follows (eval_all es w.calls env left) (FillsAll w n m n t (number_of es) (state base stack frames cells left) (base + length code)) (CutsOff w n m (state base stack frames cells left))
      by [] serve coded can =
          fills_each [] [] w (no_serves w) frames coded wide env stack cells left stands (record {
            below = (laid_below rs outer w.tokens w.low w.high n inner laid, no_below n);
            apart = (laid_apart rs outer w.tokens w.low w.high n inner laid, no_apart w.low w.high);
            free = apart;
            room = room;
            held = (names_held rs outer w.tokens w.low w.high inner cells env holds, no_held w.tokens cells (outside env.globals), no_room w.high cells);
          })
      by (f ∷ fs) serve coded can =
          let g = can (omega arith) in
          fills_each (f ∷ fs) outer w serve frames coded wide env stack cells left stands (record {
            below = (laid_below rs outer w.tokens w.low w.high n inner laid, outer_below rs outer w.tokens w.low w.high n inner laid);
            apart = (laid_apart rs outer w.tokens w.low w.high n inner laid, outer_apart rs outer w.tokens w.low w.high n inner laid);
            free = apart;
            room = room;
            held = (names_held rs outer w.tokens w.low w.high inner cells env holds, g.vars.0, λ some. g.room);
          })

module _ (rs : Routines) (outer : List Name) (w : World) (serves : Serves w outer rs.functions) (frames : List ℕ) (runs : Runs) where
  pub set_filled_performs : (inner : List Name) (text : List ℕ) (value : Tree) (place at base n m c : ℕ) (a : List Instr) (x : Name)
      → named text (inner ++ outer) ≡ Some x → x.seat ≡ Cell c → IsFill rs.functions (inner ++ outer) value x.shape n base (n + scalars_of_type x.shape) a m
      → Performs rs outer w serves frames inner (λ env left. exec (tree.assign (tree.ident text place) tree.nil value at) w.calls runs env left) base n (a ++ op.Copy c n (scalars_of_type x.shape) (Some (leaf_of x.shape)) ∷ []) m
  set_filled_performs inner text value place at base n m c a x e seat coded stack cells env left stands laid apart room holds =
      let names : List Name = inner ++ outer in
      let size : ℕ = scalars_of_type x.shape in
      let leaf : Scalar = leaf_of x.shape in
      let i : Instr = op.Copy c n size (Some leaf) in
      let s : State = state base stack frames cells left in
      let end : base + length a + 1 ≡ base + length (a ++ i ∷ []) = omega (arith, length-append a (i ∷ [])) in
      let wide : n + size ≤ m = grows_fill coded in
      let typed : IsType x.shape = laid_typed rs outer w.tokens w.low w.high n inner laid text x e in
      let under : c + size ≤ n = subst (λ z. SeatIsBelow n size z) seat (laid_below rs outer w.tokens w.low w.high n inner laid text x e) in
      follows_then (eval value w.calls env left) (λ v k. assign env text Nil v k) (Fills w n m n x.shape s (base + length a)) (CutsOff w n m s)
      (Moves rs outer w serves frames inner n m s (base + length (a ++ i ∷ [])) (length env.locals)) (CutShort w names outer n m s)
      (fills_there rs outer w serves frames inner coded (omega arith) stack cells env left (stands_left w.code.instrs base a (i ∷ []) stands) laid apart room holds)
      (λ v h p.
      let same = p.keeps.size in
      let to : c + size ≤ length p.cells = omega (arith, under, wide, room, same) in
      let from : n + size ≤ length p.cells = omega (arith, wide, room, same) in
      let written : List ℤ = copied (Some leaf) c n size p.cells in
      let moved : AreMoved (in_cell (Some leaf)) (λ j. slice_get p.cells (n + j)) c size p.cells written = copied_are (Some leaf) c n size p.cells (inr (omega (arith, under))) to in
      let on : Reaches w.code w.tokens (state (base + length a) stack frames p.cells h) (state (base + length a + 1) stack frames written h) =
      straight_reaches w (base + length a) i stack stack frames p.cells written h (λ code tokens y. refl) (stands_right w.code.instrs base a (i ∷ []) stands).0 (copy_leaves (Some leaf) c n size w.tokens stack p.cells to from) in
      let wrote : Written c size p.cells written = record { length_same = moved.same_size; cell = moved.others } in
      let made = stored_leaf x.shape v p.shaped typed in
      let all : length (flat v) ≡ size = flat_shaped x.shape v p.shaped in
      let there : StandAt (Cell c) w.tokens written (flat (stored x.shape v)) = λ j z g.
      let old = made.1 j z g in
      let within = slice_get_within (flat v) j old.0 old.1 in
      moved.there j old.0 (omega (arith, within, all)) (p.stands j old.0 old.1) ∙ ap Some (sym old.2)
      in
      let puts : PutsAt rs outer w.tokens w.low w.high (Unit {0}) x p.cells written Nil v h (λ d. ⊥) =
      λ u kind stand. (refl, ((made.0, subst (λ z. StandAt z w.tokens written (flat (stored x.shape v))) (sym seat) there), tt)) in
      moves_at rs outer w serves frames (assign env text Nil v h) inner n m (base + length a + 1) (base + length (a ++ i ∷ [])) (length env.locals) s end
      (move_after rs outer w serves frames inner n n n m base (base + length a) (base + length a + 1) (length env.locals) stack cells p.cells left h (assign env text Nil v h) (omega arith) (omega (arith, wide)) p.reaches (keeps_but names p.keeps)
      (stores_run rs outer w serves frames runs inner n (base + length a) (base + length a + 1) c text x stack p.cells written v env h on laid e seat wrote puts
      (inside_still rs outer w.tokens w.low w.high n m inner cells p.cells env laid p.keeps holds))))
      (λ d q. cut_breaks rs outer w serves frames names n n m m s d (omega arith) (omega arith) q)
