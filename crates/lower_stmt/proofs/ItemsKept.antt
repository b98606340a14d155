-- The code that stores a list of items that are written out does what executing the assignment does.
use Rattle.std.proofs.Common.{◌≡◌, ℕ, zero, suc, ◌+◌, ◌*◌, ◌≤◌, inr, ℤ, List, ◌∷◌, ◌++◌, length, refl, sym, ap, ◌∙◌, subst, None, Some, arith, length-append}
use Rattle.std.specs.Prelude.{slice_get}
use Rattle.rvc_base.specs.declared.scalar.Scalar.{Scalar}
use Rattle.cal_ast.specs.Tree as tree
use Rattle.cal_ast.specs.Tree.{Tree}
use Rattle.cal_model.specs.Value.{Single, Many, Items, Values, Nil, Cons, count, IsType, scalars_of_type}
use Rattle.cal_model.specs.Outcome.{Gives, and_then}
use Rattle.cal_model.specs.Env.{Env, assign}
use Rattle.cal_model.specs.Expression.{eval, eval_all}
use Rattle.cal_model.specs.Statement.{Runs, exec}
use Rattle.code_ir.specs.declared.instr.Instr.{Instr}
use Rattle.code_ir.specs.declared.instr.Instr.TheVariants as op
use Rattle.code_ir.specs.Running.{State}
use Rattle.lower_base.specs.declared.names.Seat.TheVariants.{Cell}
use Rattle.lower_base.specs.Flat.{flat, flat_all}
use Rattle.lower_base.specs.Following.{Follows, CutsOff}
use Rattle.lower_base.specs.Held.{AreApart, SeatIsBelow, StandAt}
use Rattle.lower_base.specs.Names.{Name, named}
use Rattle.lower_base.specs.Parted.{number_of}
use Rattle.lower_base.specs.Placed.{StandsAt, World, state}
use Rattle.lower_stmt.specs.Stating.{IsKept, copy_code, no_place, place_more}
use Rattle.lower_stmt.proofs.Copying.{AllSingle, Stores, copies, puts_list, stores_run}
use Rattle.lower_stmt.proofs.DeepItems.{AreKept, AtKept, grows_kept, keep}
use Rattle.lower_base.proofs.Coded.{grows}
use Rattle.lower_base.proofs.Listing.{first_of_two}
use Rattle.lower_stmt.proofs.Performing.{Moves, Performs, cut_breaks, keeps_but, move_after, moves_at}
use Rattle.lower_base.proofs.Runs.{follows_both, follows_then, stands_left, stands_right}
use Rattle.lower_base.proofs.Written.{Written}
use Rattle.lower_stmt.proofs.Scoping.{inside_still, laid_below, laid_more, laid_typed, AreLaid, HoldsInside}
use Rattle.lower_base.proofs.Singles.{IsSingleValue}
use Rattle.lower_stmt.specs.Procedures.{Routines}
use Rattle.lower_base.specs.Calling.{Serves}
use Rattle.lower_stmt.proofs.Evaluating.{may, singles_there}
use Rattle.lower_stmt.specs.Bodies.{CutShort}

-- what is kept stands in the cells
kept_stands : (c : ℕ) (us : Values) (tokens : ℕ → List ℤ) (cells : List ℤ) → AreKept c us cells → StandAt (Cell c) tokens cells (flat_all us)
kept_stands c Nil tokens cells h j z e = cc
kept_stands c (Cons u us) tokens cells h zero z e =
    let first : slice_get (flat u ++ flat_all us) 0 ≡ Some h.0 = (first_of_two (flat u) (flat_all us) h.0 0 h.1).0 in
    let same : c ≡ c + 0 = omega arith in
    subst (λ d. slice_get cells d ≡ Some z) same (h.2 ∙ sym first ∙ e)
kept_stands c (Cons u us) tokens cells h (suc j) z e =
    let later : slice_get (flat u ++ flat_all us) (suc j) ≡ slice_get (flat_all us) j = (first_of_two (flat u) (flat_all us) h.0 j h.1).1 in
    let same : c + 1 + j ≡ c + suc j = omega arith in
    subst (λ d. slice_get cells d ≡ Some z) same (kept_stands (c + 1) us tokens cells h.3 j z (sym later ∙ e))

-- each item gives a single value
kept_singles : (rs : Routines) (outer : List Name) (w : World) (serves : Serves w outer rs.functions) (frames : List ℕ) (inner : List Name) (cells : List ℤ) (env : Env) (f h : ℕ) → AreLaid rs outer w.tokens w.low w.high f inner → HoldsInside rs outer w.tokens w.low w.high inner cells env
    → AreApart f h w.low w.high → h ≤ length cells
    → {c : ℕ} {items : Tree} {base n m : ℕ} {code : List Instr} → IsKept rs.functions (inner ++ outer) c items base n code m → f ≤ n → m ≤ h → StandsAt w.code.instrs base code → (left : ℕ) → Follows (eval_all items w.calls env left) (λ us h. AllSingle us) (λ d. Unit {0})
kept_singles rs outer w serves frames inner cells env f h laid holds apart room (no_place c base n) up to stands left = tt
kept_singles rs outer w serves frames inner cells env f h laid holds apart room (place_more place places c base n k m a b g d) up to stands left =
    let x = grows g in let y = grows_kept d in
    let i : Instr = op.Store c None in
    let rest = stands_right w.code.instrs base a (i ∷ b) stands in
    follows_then (eval place w.calls env left) (λ v j. and_then (eval_all places w.calls env j) (λ vs h. Gives (Cons v vs) h)) (λ v j. IsSingleValue v) (λ c. Unit {0}) (λ us h. AllSingle us) (λ c. Unit {0})
    (singles_there rs outer w serves frames inner g cells env left (stands_left w.code.instrs base a (i ∷ b) stands) (laid_more rs outer w.tokens w.low w.high f n inner up laid) holds (may w f h n k cells cells up (omega (arith, y, to)) apart room refl))
    (λ v j one. follows_then (eval_all places w.calls env j) (λ vs h. Gives (Cons v vs) h) (λ vs h. AllSingle vs) (λ e. Unit {0}) (λ us h. AllSingle us) (λ e. Unit {0})
    (kept_singles rs outer w serves frames inner cells env f h laid holds apart room d (omega (arith, up, x)) to rest.1 j) (λ vs h rest. (one, rest)) (λ c t. tt))
    (λ e t. tt)

module _ (rs : Routines) (outer : List Name) (w : World) (serves : Serves w outer rs.functions) (frames : List ℕ) (runs : Runs) where
  pub set_items_performs : (inner : List Name) (text : List ℕ) (items : Tree) (list place at base n m c size : ℕ) (a : List Instr) (x : Name) (t : Scalar)
      → named text (inner ++ outer) ≡ Some x → x.seat ≡ Cell c → x.shape ≡ Many size (Single t) → number_of items ≡ size → IsKept rs.functions (inner ++ outer) n items base (n + size) a m
      → Performs rs outer w serves frames inner (λ env left. exec (tree.assign (tree.ident text place) tree.nil (tree.list items list) at) w.calls runs env left) base n (a ++ copy_code c size t (Cell n)) m
  set_items_performs inner text items list place at base n m c size a x t e seat shape number coded stack cells env left stands laid apart room holds =
      let names : List Name = inner ++ outer in
      let last : List Instr = copy_code c size t (Cell n) in
      let s : State = state base stack frames cells left in
      let end : base + length a + length last ≡ base + length (a ++ last) = omega (arith, length-append a last) in
      let below = laid_below rs outer w.tokens w.low w.high n inner laid in
      let wide : n + size ≤ m = grows_kept coded in
      let typed : IsType (Many size (Single t)) = subst IsType shape (laid_typed rs outer w.tokens w.low w.high n inner laid text x e) in
      let all : scalars_of_type x.shape ≡ size * 1 = ap scalars_of_type shape in
      let under : c + scalars_of_type x.shape ≤ n = subst (λ z. SeatIsBelow n (scalars_of_type x.shape) z) seat (below text x e) in
      follows_then (eval (tree.list items list) w.calls env left) (λ v k. assign env text Nil v k)
      (λ v h. (us : Values) × (v ≡ Items us) × AtKept w n m (number_of items) s (base + length a) us h × AllSingle us) (CutsOff w n m s) (Moves rs outer w serves frames inner n m s (base + length (a ++ last)) (length env.locals)) (CutShort w names outer n m s)
      (follows_then (eval_all items w.calls env left) (λ us h. Gives (Items us) h) (λ us h. AtKept w n m (number_of items) s (base + length a) us h × AllSingle us) (λ d. CutsOff w n m s d × Unit {0})
      (λ v h. (us : Values) × (v ≡ Items us) × AtKept w n m (number_of items) s (base + length a) us h × AllSingle us) (CutsOff w n m s)
      (follows_both (eval_all items w.calls env left) (AtKept w n m (number_of items) s (base + length a)) (CutsOff w n m s) (λ us h. AllSingle us) (λ d. Unit {0})
      (keep rs outer w serves frames inner env (omega (arith, number)) coded stack cells left (stands_left w.code.instrs base a last stands) laid apart room holds)
      (kept_singles rs outer w serves frames inner cells env n m laid holds apart room coded (omega arith) (omega arith) (stands_left w.code.instrs base a last stands) left))
      (λ us h q. (us, refl, q.0, q.1)) (λ d q. q.0))
      (λ v h q.
      let us : Values = q.0 in
      let k : AtKept w n m (number_of items) s (base + length a) us h = q.2 in
      let size_same = k.keeps.size in
      let many : count us ≡ size = k.as_many ∙ number in
      let done : Stores rs outer w serves frames runs (base + length a) c size t (Cell n) us stack k.cells h =
      copies rs outer w serves frames runs (base + length a) c size n t us stack k.cells h typed.0 (inr (inr (omega (arith, under, all)))) (omega (arith, under, all, wide, room, size_same)) many q.3 (kept_stands n us w.tokens k.cells k.kept)
      (stands_right w.code.instrs base a last stands) in
      let exact : scalars_of_type x.shape ≡ size = omega (arith, all) in
      let wrote : Written c (scalars_of_type x.shape) k.cells done.written = subst (λ z. Written c z k.cells done.written) (sym exact) (record { length_same = done.same_size; cell = done.others }) in
      subst (λ u. Follows (assign env text Nil u h) (Moves rs outer w serves frames inner n m s (base + length (a ++ last)) (length env.locals)) (CutShort w names outer n m s)) (sym q.1)
      (moves_at rs outer w serves frames (assign env text Nil (Items us) h) inner n m (base + length a + length last) (base + length (a ++ last)) (length env.locals) s end
      (move_after rs outer w serves frames inner n n n m base (base + length a) (base + length a + length last) (length env.locals) stack cells k.cells left h (assign env text Nil (Items us) h) (omega arith) (omega (arith, wide)) k.reaches (keeps_but names k.keeps)
      (stores_run rs outer w serves frames runs inner n (base + length a) (base + length a + length last) c text x stack k.cells done.written (Items us) env h done.reaches laid e seat wrote
      (puts_list rs outer w serves frames runs x t c size h k.cells done.written us shape seat typed.2 many q.3 done.laid)
      (inside_still rs outer w.tokens w.low w.high n m inner cells k.cells env laid k.keeps holds)))))
      (λ d q. cut_breaks rs outer w serves frames names n n m m s d (omega arith) (omega arith) q)
