-- Items of lists that are filled apart: their code does what evaluating them does.
use Rattle.std.proofs.Common.{◌≡◌, ℕ, zero, suc, ◌+◌, ◌*◌, ◌≤◌, ℤ, pos, negsuc, List, [], ◌∷◌, ◌++◌, length, refl, sym, ap, ◌∙◌, subst, Option, None, Some, arith, length-append}
use Rattle.std.specs.Prelude.{slice_get}
use Rattle.rvc_base.specs.declared.scalar.Scalar.{Scalar}
use Rattle.rvc_base.specs.declared.trap.Trap.TheVariants.{IndexRange}
use Rattle.rvc_base.specs.Arithmetic.{truth}
use Rattle.cal_ast.specs.Tree as tree
use Rattle.cal_ast.specs.Tree.{Tree}
use Rattle.cal_model.specs.Value.{Single, Many, Value, Num, Truth, Items, Values, Nil, Cons, value_at}
use Rattle.cal_model.specs.Outcome.{Gives, Traps, and_then}
use Rattle.cal_model.specs.Env.{Env}
use Rattle.cal_model.specs.Expression.{eval, indexed}
use Rattle.code_ir.specs.declared.instr.Instr.{Instr}
use Rattle.code_ir.specs.declared.instr.Instr.TheVariants as op
use Rattle.code_ir.specs.Running.{State, Reaches}
use Rattle.lower_base.specs.declared.names.ItemList.{ItemList}
use Rattle.lower_base.specs.declared.names.Seat.TheVariants.{Cell}
use Rattle.lower_base.specs.Callees.{Function}
use Rattle.lower_base.specs.Calling.{Serves}
use Rattle.lower_base.specs.Coding.{IsCode}
use Rattle.lower_base.specs.Flat.{flat, flat_all}
use Rattle.lower_base.specs.Following.{CutsOff, Follows, Pushes}
use Rattle.lower_base.specs.Held.{Keeps, StandAt}
use Rattle.lower_base.specs.Names.{Name}
use Rattle.lower_base.specs.Placed.{StandsAt, World, state}
use Rattle.lower_base.proofs.Doing.{acts_after}
use Rattle.lower_base.proofs.Items.{AreNumbers, item_acts, reads_straight}
use Rattle.lower_base.proofs.Keeping.{keeps_join, keeps_wider}
use Rattle.lower_base.proofs.Listing.{first_of_two}
use Rattle.lower_base.proofs.Runs.{follows_both, follows_then, reaches_join, stands_left, stands_right}
use Rattle.lower_base.proofs.Singles.{IsSingleValue, OnlySingles}
use Rattle.expr_lower.specs.Filled.{Fills}
use Rattle.expr_lower.specs.Shaped.{AreShaped, IsShaped}
use Rattle.expr_lower.proofs.Forms.{FillsAt, Ready, evaluated, ready_in, ready_still}
use Rattle.expr_lower.proofs.Shapes.{flat_shaped, shaped_single}
use Rattle.expr_lower.proofs.Steps.{cut_later, cut_on, stands_still}

-- ---- single values in a list

-- the number of a single value
one_flat : (v : Value) → IsSingleValue v → (z : ℤ) × (flat v ≡ z ∷ [])
one_flat (Num z) h = (z, refl)
one_flat (Truth b) h = (truth b, refl)
one_flat (Items vs) h = absurd h

-- a value of a list of single ones
one_at : (t : Scalar) (vs : Values) (k : ℕ) (u : Value) → AreShaped (Single t) vs → value_at vs k ≡ Some u → IsSingleValue u
one_at t Nil k u h e = cc
one_at t (Cons v vs) zero u h e = let same : v ≡ u = cc in subst IsSingleValue same (shaped_single t v h.0)
one_at t (Cons v vs) (suc k) u h e = one_at t vs k u h.1 e

pub ones_are : (t : Scalar) (vs : Values) → AreShaped (Single t) vs → AreNumbers vs
ones_are t Nil h k u e = cc
ones_are t (Cons v vs) h zero u e =
    let same : v ≡ u = cc in
    let one = one_flat v (shaped_single t v h.0) in
    (one.0, ap flat (sym same) ∙ one.1, (first_of_two (flat v) (flat_all vs) one.0 0 one.1).0)
ones_are t (Cons v vs) h (suc k) u e =
    let one = one_flat v (shaped_single t v h.0) in
    let rest = ones_are t vs h.1 k u e in
    (rest.0, rest.1, (first_of_two (flat v) (flat_all vs) one.0 k one.1).1 ∙ rest.2)

-- an item of them is a single value
one_indexed : (t : Scalar) (v i : Value) (many left : ℕ) → IsShaped (Many many (Single t)) v → OnlySingles (indexed v i left)
one_indexed t (Num z) i many left h = absurd h
one_indexed t (Truth b) i many left h = absurd h
one_indexed t (Items vs) (Truth b) many left h = tt
one_indexed t (Items vs) (Items us) many left h = tt
one_indexed t (Items vs) (Num (negsuc k)) many left h = tt
one_indexed t (Items vs) (Num (pos k)) many left h = go (value_at vs k) refl
  where
    go : (o : Option Value) → value_at vs k ≡ o → OnlySingles (elim o [ None ↦ Traps IndexRange | Some v ↦ Gives v left ])
    go None e = tt
    go (Some u) e = one_at t vs k u h.1 e

-- ---- an item of them

module _ (fs : List Function) (globals : List Name) (w : World) (serves : Serves w globals fs) (frames : List ℕ) where
  -- the item that is read from the cells of the list
  reads : (t : Scalar) (v i : Value) (z : ℤ) (many n m base place : ℕ) (stack before cells : List ℤ) (left now : ℕ) → IsShaped (Many many (Single t)) v → StandAt (Cell n) w.tokens cells (flat v) → flat i ≡ z ∷ []
      → slice_get w.code.instrs place ≡ Some (op.LoadAt n many)
      → Reaches w.code w.tokens (state base stack frames before left) (state place (z ∷ stack) frames cells now) → Keeps n m w.low w.high before cells
      → Follows (indexed v i now) (λ x j. Pushes w n m (state base stack frames before left) (place + 1) x j × IsSingleValue x) (λ d. CutsOff w n m (state base stack frames before left) d × Unit {0})
  reads t (Num x) i z many n m base place stack before cells left now shaped stands is at reach keeps = absurd shaped
  reads t (Truth b) i z many n m base place stack before cells left now shaped stands is at reach keeps = absurd shaped
  reads t (Items vs) i z many n m base place stack before cells left now shaped stands is at reach keeps =
      let l : ItemList = record { seat = Cell n; size = many; kind = t } in
      let s : State = state base stack frames before left in
      follows_both (indexed (Items vs) i now) (Pushes w n m s (place + 1)) (CutsOff w n m s) (λ x j. IsSingleValue x) (λ d. Unit {0})
      (acts_after w n m base place (z ∷ stack) stack frames before cells left now (op.LoadAt n many) (indexed (Items vs) i now) (reads_straight (Cell n) many) at reach keeps
      (item_acts l vs w.tokens stack cells now shaped.0 (ones_are t vs shaped.1) stands i z is))
      (one_indexed t (Items vs) i many now shaped)

  -- evaluating an item of a list that is filled apart and its code come to the same
  pub does_apart : (names : List Name) (e place : Tree) (t : Scalar) (many at base n k m : ℕ) (a b : List Instr) → n + many ≤ k → k ≤ m → FillsAt fs globals w serves frames names e (Many many (Single t)) n base a k → IsCode fs names place (base + length a) k b m
      → (env : Env) (stack cells : List ℤ) (left : ℕ) → StandsAt w.code.instrs base (a ++ (b ++ op.LoadAt n many ∷ [])) → Ready fs globals w serves frames names env n m cells
      → Follows (eval (tree.index e place at) w.calls env left) (λ v j. Pushes w n m (state base stack frames cells left) (base + length (a ++ (b ++ op.LoadAt n many ∷ []))) v j × IsSingleValue v) (λ d. CutsOff w n m (state base stack frames cells left) d × Unit {0})
  does_apart names e place t many at base n k m a b wide ge fills coded env stack cells left stands r =
      let i : Instr = op.LoadAt n many in
      let s : State = state base stack frames cells left in
      let rest = stands_right w.code.instrs base a (b ++ i ∷ []) stands in
      let there : slice_get w.code.instrs (base + length a + length b) ≡ Some i = (stands_right w.code.instrs (base + length a) b (i ∷ []) rest).0 in
      let end : base + length a + length b + 1 ≡ base + length (a ++ (b ++ i ∷ [])) = omega (arith, length-append a (b ++ i ∷ []), length-append b (i ∷ [])) in
      follows_then (eval e w.calls env left) (λ v j. and_then (eval place w.calls env j) (λ x h. indexed v x h)) (Fills w n k n (Many many (Single t)) s (base + length a)) (CutsOff w n k s)
      (λ v j. Pushes w n m s (base + length (a ++ (b ++ i ∷ []))) v j × IsSingleValue v) (λ d. CutsOff w n m s d × Unit {0})
      (fills env stack cells left (stands_left w.code.instrs base a (b ++ i ∷ []) stands) (ready_in fs globals w serves frames names env n m n k cells (omega arith) ge r))
      (λ v j p.
      let u : State = state (base + length a) stack frames p.cells j in
      let keeps : Keeps n m w.low w.high cells p.cells = keeps_wider n m (omega arith) ge p.keeps in
      let now : Ready fs globals w serves frames names env n m p.cells = ready_still fs globals w serves frames names env n m cells p.cells keeps r in
      let count : length (flat v) ≡ many * 1 = flat_shaped (Many many (Single t)) v p.shaped in
      follows_then (eval place w.calls env j) (λ x h. indexed v x h) (λ x h. Pushes w k m u (base + length a + length b) x h × IsSingleValue x) (λ d. CutsOff w k m u d × Unit {0})
      (λ x h. Pushes w n m s (base + length (a ++ (b ++ i ∷ []))) x h × IsSingleValue x) (λ d. CutsOff w n m s d × Unit {0})
      (evaluated fs globals w serves frames names env k coded (omega arith) stack p.cells j (stands_left w.code.instrs (base + length a) b (i ∷ []) rest) (ready_in fs globals w serves frames names env n m k m p.cells (omega (arith, wide)) (omega arith) now))
      (λ x h both.
      let q : Pushes w k m u (base + length a + length b) x h = both.0 in
      subst (λ z. Follows (indexed v x h) (λ y g. Pushes w n m s z y g × IsSingleValue y) (λ d. CutsOff w n m s d × Unit {0})) end
      (reads t v x q.number many n m base (base + length a + length b) stack cells q.cells left h p.shaped
      (stands_still w n k p.cells q.cells (flat v) q.keeps (omega (arith, count, wide)) (omega (arith, count, wide)) (ready_in fs globals w serves frames names env n m n k p.cells (omega arith) ge now).free p.stands)
      q.is there (reaches_join p.reaches q.reaches) (keeps_join keeps (keeps_wider n m (omega (arith, wide)) (omega arith) q.keeps))))
      (λ d both. (cut_later w n m s u d p.reaches keeps (cut_on w k m n m u d (omega (arith, wide)) (omega arith) both.0), tt)))
      (λ d q. (cut_on w n k n m s d (omega arith) ge q, tt))
