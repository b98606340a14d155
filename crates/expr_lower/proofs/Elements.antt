-- The code of elements fills cells with them.
use Rattle.std.proofs.Common.{◌≡◌, ℕ, zero, suc, ◌+◌, ◌*◌, ◌<◌, ◌≤◌, ◌⊎◌, inl, inr, ⊎_elim, ℤ, pos, List, [], ◌∷◌, ◌++◌, length, true, refl, sym, ap, ◌∙◌, subst, None, Some, arith, length-append}
use Rattle.std.specs.Prelude.{if◌then◌else◌, get_or, nat_le, slice_get, slice_set}
use Rattle.std.proofs.lemmas.Bool.Decides.{nat_tests}
use Rattle.std.proofs.lemmas.List.{length-set}
use Rattle.std.proofs.lemmas.Option.{slice_get-get_or, slice_get_within}
use Rattle.rvc_base.specs.declared.scalar.Scalar.{Scalar}
use Rattle.rvc_base.specs.declared.trap.Trap.TheVariants.{IndexRange}
use Rattle.rvc_base.specs.Width.{is_num}
use Rattle.cal_ast.specs.Tree as tree
use Rattle.cal_ast.specs.Tree.{Tree}
use Rattle.cal_model.specs.Value.{Shape, Single, Value, Values, count, one, scalars_of_type}
use Rattle.cal_model.specs.Outcome.{Gives}
use Rattle.cal_model.specs.Env.{Env}
use Rattle.cal_model.specs.Expression.{elements, eval}
use Rattle.code_ir.specs.declared.instr.Instr.{Instr}
use Rattle.code_ir.specs.declared.instr.Instr.TheVariants as op
use Rattle.code_ir.specs.Effect.{Leaves, Fails, Breaks, copied, effect, stored as in_cell}
use Rattle.code_ir.specs.Running.{State, Reaches, here, after, stop}
use Rattle.code_ir.proofs.Marks.{get-set, get-other}
use Rattle.lower_base.specs.declared.names.Seat.TheVariants.{Cell}
use Rattle.lower_base.specs.Callees.{Function}
use Rattle.lower_base.specs.Calling.{Serves}
use Rattle.lower_base.specs.Coding.{IsCode}
use Rattle.lower_base.specs.Flat.{flat, flat_all}
use Rattle.lower_base.specs.Following.{CutsOff, Follows, Pushes}
use Rattle.lower_base.specs.Held.{StandAt}
use Rattle.lower_base.specs.Names.{Name}
use Rattle.lower_base.specs.Placed.{StandsAt, World, state}
use Rattle.lower_base.proofs.Keeping.{keeps_all}
use Rattle.lower_base.proofs.Runs.{follows_then, obeys, reaches_join, stands_left, stands_right}
use Rattle.lower_base.proofs.Singles.{IsSingleValue}
use Rattle.lower_base.proofs.Storing.{store_item_leaves}
use Rattle.lower_base.proofs.Written.{stand_one}
use Rattle.expr_lower.specs.Filled.{Fills}
use Rattle.expr_lower.specs.Filling.{filled_more}
use Rattle.expr_lower.specs.Shaped.{AreShaped, IsShaped}
use Rattle.expr_lower.proofs.Counters.{AtFirst, load_on, more_on}
use Rattle.expr_lower.proofs.Forms.{FillsAt, evaluated}
use Rattle.expr_lower.proofs.Going.{IsSet, Went, cell_apart, num_below, set_ready}
use Rattle.expr_lower.proofs.Moving.{AreMoved, copied_are}
use Rattle.expr_lower.proofs.Shapes.{flat_shaped, single_shaped, stand_two}
use Rattle.expr_lower.proofs.Steps.{cut_later, cut_on, straight_reaches}

copy_to_leaves : (d n s m i : ℕ) (tokens : ℕ → List ℤ) (stack cells : List ℤ) → i + m ≤ n → d + i + m ≤ length cells → s + m ≤ length cells
    → effect tokens (op.CopyTo d n s m None) (pos i ∷ stack) cells ≡ Leaves stack (copied None (d + i) s m cells)
copy_to_leaves d n s m i tokens stack cells fit to from =
    let near : nat_le (i + m) n ≡ true = grind (arith, nat_tests, fit) in
    let inside : nat_le (d + i + m) (length cells) ≡ true = grind (arith, nat_tests, to) in
    let there : nat_le (s + m) (length cells) ≡ true = grind (arith, nat_tests, from) in
    ap (λ b. if b then (if nat_le (d + i + m) (length cells) then (if nat_le (s + m) (length cells) then Leaves stack (copied None (d + i) s m cells) else Breaks) else Breaks) else Fails IndexRange) near
    ∙ ap (λ b. if b then (if nat_le (s + m) (length cells) then Leaves stack (copied None (d + i) s m cells) else Breaks) else Breaks) inside
    ∙ ap (λ b. if b then Leaves stack (copied None (d + i) s m cells) else Breaks) there

module _ (fs : List Function) (globals : List Name) (w : World) (serves : Serves w globals fs) (frames : List ℕ) (c all filled : ℕ) (fits : c + all ≤ filled) (small : is_num (pos all) ≡ true) where
  -- the run goes on to a place with the numbers of many elements in the cells from c + i on, and has counted them
  pub record AtElements (k m i many : ℕ) (t : Shape) (s : State) (end : ℕ) (vs : Values) (left : ℕ) : Type 0 where
    pub cells : List ℤ
    pub reaches : Reaches w.code w.tokens s (state end s.stack s.frames cells left)
    pub went : Went fs globals w serves frames c filled k m i s.cells cells
    pub counted : slice_get cells filled ≡ Some (pos (i + many * scalars_of_type t))
    pub shaped : AreShaped t vs
    pub as_many : count vs ≡ many
    pub stands : StandAt (Cell (c + i)) w.tokens cells (flat_all vs)

  abbrev pub DoesElements : Tree → Tree → Shape → ℕ → List Name → ℕ → List Instr → ℕ → ℕ → Type 0
  DoesElements gens item t turn_at names k code m many = (env : Env) (stack cells : List ℤ) (left i : ℕ) → StandsAt w.code.instrs turn_at code → IsSet fs globals w serves frames c filled names env k m cells
      → slice_get cells filled ≡ Some (pos i) → i + many * scalars_of_type t ≤ all → AtFirst k gens cells
      → Follows (elements gens (λ inner j. eval item w.calls inner j) w.calls env left) (AtElements k m i many t (state turn_at stack frames cells left) (turn_at + length code)) (CutsOff w c m (state turn_at stack frames cells left))

  -- ---- one element

  -- an element that was made stands where it belongs, and is counted
  counted_on : (k m i each p end : ℕ) (t : Shape) (s : State) (v : Value) (cells : List ℤ) (left : ℕ) → each ≡ scalars_of_type t → filled < k → k ≤ m → m ≤ length s.cells → i + each ≤ all → end ≡ p + 4 → StandsAt w.code.instrs p (filled_more filled each)
      → Reaches w.code w.tokens s (state p s.stack frames cells left) → s.frames ≡ frames → Went fs globals w serves frames c filled k m i s.cells cells → slice_get cells filled ≡ Some (pos i)
      → IsShaped t v → StandAt (Cell (c + i)) w.tokens cells (flat v)
      → AtElements k m i 1 t s end (one v) left
  counted_on k m i each p end t s v cells left is le ge room fit end_is at r same went counts shaped stands =
      let size = went.size in
      let more : List ℤ = slice_set cells filled (pos (i + each)) in
      let on : Reaches w.code w.tokens (state p s.stack frames cells left) (state (p + 1 + 1 + 1 + 1) s.stack frames more left) =
      more_on w frames p filled i each s.stack cells left counts (omega (arith, size, room, le, ge)) (num_below (i + each) all fit small) at in
      let place : p + 1 + 1 + 1 + 1 ≡ end = omega (arith, end_is) in
      let wide : length (flat v) ≡ scalars_of_type t = flat_shaped t v shaped in
      let first : StandAt (Cell (c + i)) w.tokens more (flat v) = λ j z e.
      let within = slice_get_within (flat v) j z e in
      get-other cells filled (c + i + j) (pos (i + each)) (λ g. absurd (omega (arith, g, within, wide, fit, fits, is))) ∙ stands j z e
      in
      record {
        cells = more;
        reaches = subst (λ q. Reaches w.code w.tokens s (state q s.stack s.frames more left)) place (subst (λ f. Reaches w.code w.tokens s (state (p + 1 + 1 + 1 + 1) s.stack f more left)) (sym same) (reaches_join r on));
        went = record {
          size = length-set cells filled (pos (i + each)) ∙ size;
          cell = λ d free apart. get-other cells filled d (pos (i + each)) (λ e.
              ⊎_elim (λ (a : d < c + i). absurd (omega (arith, a, e, fit, fits))) (λ (a : (filled < d) × ((d < k) ⊎ (m ≤ d))). let b = a.0 in absurd (omega (arith, b, e))) free) ∙ went.cell d free apart;
        };
        counted = get-set cells filled (pos (i + each)) (omega (arith, size, room, le, ge)) ∙ ap (λ x. Some (pos x)) (let e : i + each ≡ i + 1 * scalars_of_type t = omega (arith, is) in e);
        shaped = (shaped, tt);
        as_many = refl;
        stands = stand_two (c + i) w.tokens more (flat v) [] first (λ j z e. cc);
      }

  pub does_one : (item : Tree) (t : Scalar) (turn_at : ℕ) (names : List Name) (k m : ℕ) (code : List Instr) → IsCode fs names item (turn_at + 2) k code m → filled < k → k ≤ m
      → DoesElements tree.nil item (Single t) turn_at names k (op.Turn ∷ op.Load filled ∷ (code ++ op.StoreAt c all None ∷ filled_more filled 1)) m 1
  does_one item t turn_at names k m code coded le ge env stack cells zero i stands set counts fit first =
      record { cells = cells; ends = stop (obeys w.code w.tokens (state turn_at stack frames cells 0) op.Turn stands.0); keeps = keeps_all c m w.low w.high cells }
  does_one item t turn_at names k m code coded le ge env stack cells (suc j) i stands set counts fit first =
      let last : List Instr = op.StoreAt c all None ∷ filled_more filled 1 in
      let s : State = state turn_at stack frames cells (suc j) in
      let place : turn_at + 1 + 1 ≡ turn_at + 2 = omega arith in
      let u : State = state (turn_at + 2) (pos i ∷ stack) frames cells j in
      let on : Reaches w.code w.tokens s u = subst (λ p. Reaches w.code w.tokens s (state p (pos i ∷ stack) frames cells j)) place
      (after (obeys w.code w.tokens s op.Turn stands.0) (load_on w frames (turn_at + 1) filled stack cells j (pos i) stands.1.0 counts)) in
      let rest : StandsAt w.code.instrs (turn_at + 2) (code ++ last) = subst (λ p. StandsAt w.code.instrs p (code ++ last)) place stands.1.1 in
      let store = stands_right w.code.instrs (turn_at + 2) code last rest in
      let q : ℕ = turn_at + 2 + length code in
      let end : turn_at + length (op.Turn ∷ op.Load filled ∷ (code ++ last)) ≡ q + 1 + 4 = omega (arith, length-append code last) in
      let room = set.room in
      let up : c ≤ k = omega (arith, le, fits) in
      follows_then (eval item w.calls env j) (λ v h. Gives (one v) h) (λ v h. Pushes w k m u q v h × IsSingleValue v) (λ d. CutsOff w k m u d × Unit {0})
      (AtElements k m i 1 (Single t) s (turn_at + length (op.Turn ∷ op.Load filled ∷ (code ++ last)))) (CutsOff w c m s)
      (evaluated fs globals w serves frames names env k coded (omega arith) (pos i ∷ stack) cells j (stands_left w.code.instrs (turn_at + 2) code last rest) (set_ready fs globals w serves frames c filled names env k m cells up set))
      (λ v h both.
      let p : Pushes w k m u q v h = both.0 in
      let size = p.keeps.size in
      let there : c + i < length p.cells = omega (arith, size, room, fit, fits, le, ge) in
      let now : List ℤ = slice_set p.cells (c + i) p.number in
      let r : State = state (q + 1) stack frames now h in
      let stored : Reaches w.code w.tokens s r =
      reaches_join on (reaches_join p.reaches (straight_reaches w q (op.StoreAt c all None) (p.number ∷ pos i ∷ stack) stack frames p.cells now h (λ code tokens x. refl) store.0
      (store_item_leaves c all i None w.tokens stack p.cells p.number (get_or p.cells (c + i) (pos 0)) (omega (arith, fit)) (slice_get-get_or p.cells (c + i) (pos 0) there)))) in
      let counts_now : slice_get p.cells filled ≡ Some (pos i) = p.keeps.cell filled (inl le) (cell_apart c m filled w.low w.high set.free (omega (arith, fits)) (omega (arith, le, ge))) ∙ counts in
      counted_on k m i 1 (q + 1) (turn_at + length (op.Turn ∷ op.Load filled ∷ (code ++ last))) (Single t) s v now h refl le ge room (omega (arith, fit)) end store.1 stored refl
      (record {
        size = length-set p.cells (c + i) p.number ∙ size;
        cell = λ d free apart. get-other p.cells (c + i) d p.number (λ e.
            ⊎_elim (λ (a : d < c + i). absurd (omega (arith, a, e))) (λ (a : (filled < d) × ((d < k) ⊎ (m ≤ d))). let b = a.0 in absurd (omega (arith, b, e, fit, fits))) free)
            ∙ p.keeps.cell d (⊎_elim (λ (a : d < c + i). inl (omega (arith, a, fit, fits, le))) (λ (a : (filled < d) × ((d < k) ⊎ (m ≤ d))). a.1) free) apart;
      })
      (get-other p.cells (c + i) filled p.number (λ e. absurd (omega (arith, e, fit, fits))) ∙ counts_now)
      (single_shaped t v both.1)
      (stand_one (c + i) w.tokens now (flat v) p.number p.is (get-set p.cells (c + i) p.number there)))
      (λ d both. cut_later w c m s u d on (keeps_all c m w.low w.high cells) (cut_on w k m c m u d up (omega arith) both.0))

  pub does_list : (item : Tree) (t : Shape) (turn_at : ℕ) (names : List Name) (k m : ℕ) (code : List Instr) → filled < k → k + scalars_of_type t ≤ m → FillsAt fs globals w serves frames names item t k (turn_at + 1) code m
      → DoesElements tree.nil item t turn_at names k (op.Turn ∷ (code ++ op.Load filled ∷ op.CopyTo c all k (scalars_of_type t) None ∷ filled_more filled (scalars_of_type t))) m 1
  does_list item t turn_at names k m code le ge fills env stack cells zero i stands set counts fit first =
      record { cells = cells; ends = stop (obeys w.code w.tokens (state turn_at stack frames cells 0) op.Turn stands.0); keeps = keeps_all c m w.low w.high cells }
  does_list item t turn_at names k m code le ge fills env stack cells (suc j) i stands set counts fit first =
      let each : ℕ = scalars_of_type t in
      let last : List Instr = op.Load filled ∷ op.CopyTo c all k each None ∷ filled_more filled each in
      let s : State = state turn_at stack frames cells (suc j) in
      let u : State = state (turn_at + 1) stack frames cells j in
      let on : Reaches w.code w.tokens s u = after (obeys w.code w.tokens s op.Turn stands.0) here in
      let copy = stands_right w.code.instrs (turn_at + 1) code last stands.1 in
      let q : ℕ = turn_at + 1 + length code in
      let end : turn_at + length (op.Turn ∷ (code ++ last)) ≡ q + 1 + 1 + 4 = omega (arith, length-append code last) in
      let room = set.room in
      let up : c ≤ k = omega (arith, le, fits) in
      follows_then (eval item w.calls env j) (λ v h. Gives (one v) h) (Fills w k m k t u q) (CutsOff w k m u)
      (AtElements k m i 1 t s (turn_at + length (op.Turn ∷ (code ++ last)))) (CutsOff w c m s)
      (fills env stack cells j (stands_left w.code.instrs (turn_at + 1) code last stands.1) (set_ready fs globals w serves frames c filled names env k m cells up set))
      (λ v h p.
      let size = p.keeps.size in
      let now : List ℤ = copied None (c + i) k each p.cells in
      let moved : AreMoved (in_cell None) (λ x. slice_get p.cells (k + x)) (c + i) each p.cells now = copied_are None (c + i) k each p.cells (inr (omega (arith, fit, fits, le))) (omega (arith, size, room, fit, fits, le, ge)) in
      let counts_now : slice_get p.cells filled ≡ Some (pos i) = p.keeps.cell filled (inl le) (cell_apart c m filled w.low w.high set.free (omega (arith, fits)) (omega (arith, le, ge))) ∙ counts in
      let r : State = state (q + 1 + 1) stack frames now h in
      let stored : Reaches w.code w.tokens s r =
      reaches_join on (reaches_join p.reaches (reaches_join (load_on w frames q filled stack p.cells h (pos i) copy.0 counts_now)
      (straight_reaches w (q + 1) (op.CopyTo c all k each None) (pos i ∷ stack) stack frames p.cells now h (λ code tokens x. refl) copy.1.0
      (copy_to_leaves c all k each i w.tokens stack p.cells (omega (arith, fit)) (omega (arith, size, room, fit, fits, le, ge)) (omega (arith, size, room, ge)))))) in
      let wide : length (flat v) ≡ each = flat_shaped t v p.shaped in
      counted_on k m i each (q + 1 + 1) (turn_at + length (op.Turn ∷ (code ++ last))) t s v now h refl le (omega (arith, ge)) room (omega (arith, fit)) end copy.1.1 stored refl
      (record {
        size = moved.same_size ∙ size;
        cell = λ d free apart. moved.others d (⊎_elim (λ (a : d < c + i). inl a) (λ (a : (filled < d) × ((d < k) ⊎ (m ≤ d))). let b = a.0 in inr (omega (arith, b, fit, fits))) free)
            ∙ p.keeps.cell d (⊎_elim (λ (a : d < c + i). inl (omega (arith, a, fit, fits, le))) (λ (a : (filled < d) × ((d < k) ⊎ (m ≤ d))). a.1) free) apart;
      })
      (moved.others filled (inr (omega (arith, fit, fits))) ∙ counts_now)
      p.shaped
      (λ x z e. moved.there x z (let within = slice_get_within (flat v) x z e in omega (arith, within, wide)) (p.stands x z e)))
      (λ d p. cut_later w c m s u d on (keeps_all c m w.low w.high cells) (cut_on w k m c m u d up (omega arith) p))
