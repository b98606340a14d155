-- The code of an assignment to a part of a list does what executing it does.
use Rattle.std.proofs.Common.{◌≡◌, ℕ, suc, ◌+◌, ◌*◌, ◌<◌, ◌≤◌, ◌⊎◌, inl, inr, ⊎_elim, ℤ, pos, negsuc, List, [], ◌∷◌, ◌++◌, length, true, false, refl, sym, ap, ◌∙◌, subst, Option, None, Some, arith, length-append}
use Rattle.std.specs.Prelude.{◌^◌, if◌then◌else◌, get_or, nat_le, slice_get, slice_set}
use Rattle.std.proofs.lemmas.Bool.Decides.{nat_tests}
use Rattle.std.proofs.lemmas.List.{length-set}
use Rattle.std.proofs.lemmas.Nat.{mul-le}
use Rattle.std.proofs.lemmas.Option.{slice_get-get_or, slice_get_within}
use Rattle.rvc_base.specs.declared.scalar.Scalar.{Scalar}
use Rattle.rvc_base.specs.declared.trap.Trap.{Trap}
use Rattle.rvc_base.specs.declared.trap.Trap.TheVariants.{IndexRange, Overflow}
use Rattle.rvc_base.specs.Arithmetic as arithmetic
use Rattle.cal_ast.specs.Tree as tree
use Rattle.cal_ast.specs.Tree.{Tree}
use Rattle.cal_model.specs.Value.{Shape, Single, Many, Value, Num, Truth, Items, Values, Nil, Cons, count, stored, value_at, with_value, HasKind, HaveKind, IsType, kind_of_type, scalars_of_kind, scalars_of_type}
use Rattle.cal_model.specs.Outcome.{Out, Gives, Traps, Lacks, Clashes, and_then}
use Rattle.cal_model.specs.Env.{Env, assign, put, with_item}
use Rattle.cal_model.specs.Expression.{eval, eval_all}
use Rattle.cal_model.specs.Statement.{Runs, exec}
use Rattle.code_ir.specs.declared.instr.Instr.{Instr}
use Rattle.code_ir.specs.declared.instr.Instr.TheVariants as op
use Rattle.code_ir.specs.declared.outcome.Outcome.TheVariants as outcome
use Rattle.code_ir.specs.Effect.{Leaves, Fails, Breaks, copied, effect, push_computed, stored as in_cell}
use Rattle.code_ir.specs.Running.{State, Ends, Reaches, go, go_on, here, after, stop}
use Rattle.code_ir.proofs.Marks.{get-set, get-other}
use Rattle.lower_base.specs.declared.names.Seat.TheVariants.{Cell}
use Rattle.lower_base.specs.Coding.{IsCode}
use Rattle.lower_base.specs.Flat.{flat, flat_all}
use Rattle.lower_base.specs.Following.{Follows, Pushes, CutsOff}
use Rattle.lower_base.specs.Held.{AreApart, HoldsName, Keeps, SeatIsBelow, StandAt}
use Rattle.lower_base.specs.Names.{Name, named}
use Rattle.lower_stmt.specs.Targets.{leaf_of, part_in}
use Rattle.lower_base.specs.Parted.{number_of, sized}
use Rattle.lower_base.specs.Placed.{StandsAt, World, state}
use Rattle.lower_stmt.specs.Stating.{IsKept, no_place, place_more, part_tail, step_code, step_in}
use Rattle.lower_stmt.proofs.Changed.{IsChanged, kinds_with, list_changed, same_standing}
use Rattle.lower_base.proofs.Coded.{grows, load_leaves}
use Rattle.lower_base.proofs.Effects.{same_number}
use Rattle.lower_base.proofs.Keeping.{flat_length, keeps_all, keeps_join, keeps_wider, scalars_same, apart_first, apart_last}
use Rattle.lower_base.proofs.Listing.{item_kind, item_past, item_within}
use Rattle.lower_base.proofs.PartValues.{IsSized, sized_is, sized_list}
use Rattle.lower_stmt.proofs.Performing.{Moves, Performs, but_wider, breaks_after, cut_breaks, keeps_but, moves_at}
use Rattle.lower_base.proofs.Rowed.{small_num}
use Rattle.lower_base.proofs.Runs.{ends_join, follows_then, obeys, reaches_join, stands_left, stands_right}
use Rattle.lower_stmt.proofs.Scoping.{AreLaid, HoldsInside, NewAt, PutsAt, inside_still, laid_below, laid_typed, names_held, laid_more}
use Rattle.lower_base.proofs.Written.{Written}
use Rattle.lower_stmt.proofs.FillingRuns.{fills_there}
use Rattle.lower_stmt.proofs.Leaves.{stored_leaf}
use Rattle.lower_stmt.proofs.Setting.{never, stores}
use Rattle.expr_lower.specs.Filled.{Fills}
use Rattle.expr_lower.specs.Filling.{IsFill}
use Rattle.expr_lower.specs.Shaped.{IsShaped}
use Rattle.expr_lower.proofs.Filled.{grows_fill}
use Rattle.expr_lower.proofs.Moving.{AreMoved, copied_are}
use Rattle.expr_lower.proofs.Shapes.{flat_shaped}
use Rattle.lower_base.proofs.Storing.{item_count, store_leaves}
use Rattle.lower_stmt.specs.Procedures.{Routines}
use Rattle.lower_base.specs.Calling.{Serves}
use Rattle.lower_stmt.proofs.Evaluating.{does_there, may}
use Rattle.lower_base.specs.Callees.{Function}
use Rattle.lower_stmt.specs.Bodies.{CutShort}

-- ---- cells that keep values

-- the numbers of values stand in the cells from c on
abbrev pub AreKept : ℕ → Values → List ℤ → Type 0
AreKept c Nil cells = Unit {0}
AreKept c (Cons u us) cells = (z : ℤ) × (flat u ≡ z ∷ []) × (slice_get cells c ≡ Some z) × AreKept (c + 1) us cells

kept_still : (c : ℕ) (us : Values) (before now : List ℤ) → ((d : ℕ) → c ≤ d → d < c + count us → slice_get now d ≡ slice_get before d) → AreKept c us before → AreKept c us now
kept_still c Nil before now same h = tt
kept_still c (Cons u us) before now same h =
    (h.0, h.1, same c (omega arith) (omega arith) ∙ h.2, kept_still (c + 1) us before now (λ d le less. same d (omega (arith, le)) (omega (arith, less))) h.3)

set_keeps : (n m c low high : ℕ) (cells : List ℤ) (z : ℤ) → n ≤ c → c < m → Keeps n m low high cells (slice_set cells c z)
set_keeps n m c low high cells z le less = record {
  size = length-set cells c z;
  cell = λ d free apart. get-other cells c d z (λ e. ⊎_elim (λ (a : d < n). absurd (omega (arith, a, e, le))) (λ (a : m ≤ d). absurd (omega (arith, a, e, less))) free);
}

-- a cell that is there is written
write_cell : (c : ℕ) (tokens : ℕ → List ℤ) (stack cells : List ℤ) (z : ℤ) → c < length cells → effect tokens (op.Store c None) (z ∷ stack) cells ≡ Leaves stack (slice_set cells c z)
write_cell c tokens stack cells z less = store_leaves c None tokens stack cells z (get_or cells c (pos 0)) (slice_get-get_or cells c (pos 0) less)

-- a cell below m and not below n is none of a routine
own_cell : (n m low high c : ℕ) → AreApart n m low high → n ≤ c → c < m → AreApart c (c + 1) low high
own_cell n m low high c apart le less = ⊎_elim (λ (a : m ≤ low). inl (omega (arith, a, less))) (λ (a : high ≤ n). inr (omega (arith, a, le))) apart

pub grows_kept : {fs : List Function} {names : List Name} {c : ℕ} {places : Tree} {base n m : ℕ} {code : List Instr} → IsKept fs names c places base n code m → n ≤ m
grows_kept (no_place c base n) = omega arith
grows_kept (place_more place places c base n k m a b g d) = let x = grows g in let y = grows_kept d in omega (arith, x, y)

-- ---- the places are evaluated

-- the run goes on to a place with values in the cells from c on
pub record AtKept (w : World) (c m many : ℕ) (s : State) (end : ℕ) (us : Values) (left : ℕ) : Type 0 where
  pub cells : List ℤ
  pub reaches : Reaches w.code w.tokens s (state end s.stack s.frames cells left)
  pub keeps : Keeps c m w.low w.high s.cells cells
  pub kept : AreKept c us cells
  pub as_many : count us ≡ many

module _ (rs : Routines) (outer : List Name) (w : World) (serves : Serves w outer rs.functions) (frames : List ℕ) (inner : List Name) (env : Env) where
  abbrev pub Keep : ℕ → Tree → ℕ → List Instr → ℕ → Type 0
  Keep c places base code m = (stack cells : List ℤ) (left : ℕ) → StandsAt w.code.instrs base code → AreLaid rs outer w.tokens w.low w.high c inner → AreApart c m w.low w.high → m ≤ length cells → HoldsInside rs outer w.tokens w.low w.high inner cells env
      → Follows (eval_all places w.calls env left) (AtKept w c m (number_of places) (state base stack frames cells left) (base + length code)) (CutsOff w c m (state base stack frames cells left))

  keep_none : (c base m : ℕ) → Keep c tree.nil base [] m
  keep_none c base m stack cells left stands laid free room holds =
      let s : State = state base stack frames cells left in
      let e : base ≡ base + 0 = omega arith in
      record { cells = cells; reaches = subst (λ p. Reaches w.code w.tokens s (state p stack frames cells left)) e here; keeps = keeps_all c m w.low w.high cells; kept = tt; as_many = refl }

  keep_more : (place places : Tree) (c base n k m : ℕ) (a b : List Instr) → c + 1 ≤ n → n ≤ k → k ≤ m → IsCode rs.functions (inner ++ outer) place base n a k → Keep (c + 1) places (base + length a + 1) b m
      → Keep c (tree.cons place places) base (a ++ op.Store c None ∷ b) m
  keep_more place places c base n k m a b room_c le ge first second stack cells left stands laid free room holds =
      let i : Instr = op.Store c None in
      let s : State = state base stack frames cells left in
      let rest = stands_right w.code.instrs base a (i ∷ b) stands in
      let end : base + length a + 1 + length b ≡ base + length (a ++ i ∷ b) = omega (arith, length-append a (i ∷ b)) in
      let up : c ≤ n = omega (arith, room_c) in
      follows_then (eval place w.calls env left) (λ v j. and_then (eval_all places w.calls env j) (λ vs h. Gives (Cons v vs) h)) (Pushes w n k s (base + length a)) (CutsOff w n k s) (AtKept w c m (suc (number_of places)) s (base + length (a ++ i ∷ b))) (CutsOff w c m s)
      (does_there rs outer w serves frames inner first stack cells env left (stands_left w.code.instrs base a (i ∷ b) stands) (laid_more rs outer w.tokens w.low w.high c n inner up laid) holds (may w c m n k cells cells up ge free room refl))
      (λ v j p.
      let wide = p.keeps.size in
      let t : State = state (base + length a) (p.number ∷ stack) frames p.cells j in
      let now : List ℤ = slice_set p.cells c p.number in
      let r : State = state (base + length a + 1) stack frames now j in
      let there : c < length p.cells = omega (arith, wide, room, room_c, le, ge) in
      let reached : Reaches w.code w.tokens s r = reaches_join p.reaches (after (obeys w.code w.tokens t i rest.0 ∙ ap (go_on t) (write_cell c w.tokens stack p.cells p.number there)) here) in
      let kept : Keeps c m w.low w.high cells now = keeps_join (keeps_wider c m up ge p.keeps) (set_keeps c m c w.low w.high p.cells p.number (omega arith) (omega (arith, room_c, le, ge))) in
      let long : length now ≡ length p.cells = length-set p.cells c p.number in
      follows_then (eval_all places w.calls env j) (λ vs h. Gives (Cons v vs) h) (AtKept w (c + 1) m (number_of places) r (base + length a + 1 + length b)) (CutsOff w (c + 1) m r) (AtKept w c m (suc (number_of places)) s (base + length (a ++ i ∷ b))) (CutsOff w c m s)
      (second stack now j rest.1 (laid_more rs outer w.tokens w.low w.high c (c + 1) inner (omega arith) laid) (apart_last c (c + 1) m w.low w.high (omega arith) free) (omega (arith, long, wide, room)) (inside_still rs outer w.tokens w.low w.high c m inner cells now env laid kept holds))
      (λ vs h q. record {
        cells = q.cells;
        reaches = subst (λ e. Reaches w.code w.tokens s (state e stack frames q.cells h)) end (reaches_join reached q.reaches);
        keeps = keeps_join kept (keeps_wider c m (omega arith) (omega arith) q.keeps);
        kept = (
          p.number,
          p.is,
          q.keeps.cell c (inl (omega arith)) (own_cell c m w.low w.high c free (omega arith) (omega (arith, room_c, le, ge))) ∙ get-set p.cells c p.number there,
          q.kept,
        );
        as_many = ap suc q.as_many;
      })
      (λ d q. record { cells = q.cells; ends = ends_join reached q.ends; keeps = keeps_join kept (keeps_wider c m (omega arith) (omega arith) q.keeps) }))
      (λ d q. record { cells = q.cells; ends = q.ends; keeps = keeps_wider c m up ge q.keeps })

  pub keep : {c : ℕ} {places : Tree} {base n m : ℕ} {code : List Instr} → c + number_of places ≤ n → IsKept rs.functions (inner ++ outer) c places base n code m → Keep c places base code m
  keep room (no_place c base n) = keep_none c base n
  keep room (place_more place places c base n k m a b g d) =
      let x = grows g in keep_more place places c base n k m a b (omega (arith, room)) x (grows_kept d) g (keep (omega (arith, room, x)) d)

-- ---- the places are tested

index_leaves : (n m k j : ℕ) (tokens : ℕ → List ℤ) (stack cells : List ℤ) → j < n → k + j * m < 2 ^ 32 → effect tokens (op.Index n m) (pos j ∷ pos k ∷ stack) cells ≡ Leaves (pos (k + j * m) ∷ stack) cells
index_leaves n m k j tokens stack cells less small =
    let within : nat_le (j + 1) n ≡ true = grind (arith, nat_tests, less) in
    ap (λ b. if b then push_computed (arithmetic.whole (pos (k + j * m))) stack cells else Fails IndexRange) within
    ∙ ap (λ b. push_computed (if b then arithmetic.Gives (pos (k + j * m)) else arithmetic.Traps Overflow) stack cells) (small_num (k + j * m) small)

index_past : (n m k j : ℕ) (tokens : ℕ → List ℤ) (stack cells : List ℤ) → n ≤ j → effect tokens (op.Index n m) (pos j ∷ pos k ∷ stack) cells ≡ Fails IndexRange
index_past n m k j tokens stack cells le =
    let outside : nat_le (j + 1) n ≡ false = grind (arith, nat_tests, le) in
    ap (λ b. if b then push_computed (arithmetic.whole (pos (k + j * m))) stack cells else Fails IndexRange) outside

-- a value that is stored in a type has as many numbers as the type
pub stored_length : (t : Shape) (v : Value) → IsShaped t v → IsType t → length (flat (stored t v)) ≡ scalars_of_type t
stored_length t v shaped typed = flat_length (kind_of_type t) (stored t v) (stored_leaf t v shaped typed).0 ∙ scalars_same t

module _ (w : World) (frames : List ℕ) (stack cells : List ℤ) (left : ℕ) (t : Shape) (v : Value) (size : ℕ) (typed : IsType t) (shaped : IsShaped t v) (small : size < 2 ^ 32) where
  -- a list with v, stored in its type, at the part that the places choose, whose offset is on the stack
  record Found (s : Shape) (u : Value) (k end : ℕ) (from : State) (new : Value) (h : ℕ) : Type 0 where
    same : h ≡ left
    offset : ℕ
    within : offset + scalars_of_type t ≤ scalars_of_type s
    reaches : Reaches w.code w.tokens from (state end (pos (k + offset) ∷ stack) frames cells left)
    kind : HasKind (kind_of_type s) new
    changed : IsChanged (flat u) (flat new) offset (flat (stored t v))

  abbrev Choose : Shape → Value → Values → ℕ → ℕ → List Instr → Type 0
  Choose s u us k place code = Follows (put s u us v left) (Found s u k (place + length code) (state place (pos k ∷ stack) frames cells left)) (λ d. Ends w.code w.tokens (state place (pos k ∷ stack) frames cells left) (outcome.Trap d) cells)

  choose_none : (u : Value) (k place : ℕ) → Choose t u Nil k place []
  choose_none u k place =
      let s : State = state place (pos k ∷ stack) frames cells left in
      let at : k ≡ k + 0 = omega arith in
      let end : place ≡ place + 0 = omega arith in
      record {
        same = refl;
        offset = 0;
        within = omega arith;
        reaches = subst (λ x. Reaches w.code w.tokens s (state x (pos (k + 0) ∷ stack) frames cells left)) end (subst (λ x. Reaches w.code w.tokens s (state place (pos x ∷ stack) frames cells left)) at here);
        kind = (stored_leaf t v shaped typed).0;
        changed = λ j z e. inl (j, omega arith, e);
      }

  -- one place that is in the list
  choose_in : (n each : ℕ) (items : Shape) (vs us : Values) (old : Value) (c k place j : ℕ) (rest : List Instr)
      → sized items ≡ Some each → k + n * each ≤ size → HaveKind (kind_of_type items) vs → count vs ≡ n → value_at vs j ≡ Some old → slice_get cells c ≡ Some (pos j)
      → StandsAt w.code.instrs place (op.Load c ∷ op.Index n each ∷ rest)
      → Choose items old us (k + j * each) (place + 1 + 1) rest
      → Follows (and_then (put items old us v left) (λ a b. Gives (Items (with_item vs (pos j) a)) b)) (Found (Many n items) (Items vs) k (place + length (op.Load c ∷ op.Index n each ∷ rest)) (state place (pos k ∷ stack) frames cells left)) (λ d. Ends w.code w.tokens (state place (pos k ∷ stack) frames cells left) (outcome.Trap d) cells)
  choose_in n each items vs us old c k place j rest is room kinds many e kept stands inner =
      let s : State = state place (pos k ∷ stack) frames cells left in
      let s1 : State = state (place + 1) (pos j ∷ pos k ∷ stack) frames cells left in
      let s2 : State = state (place + 1 + 1) (pos (k + j * each) ∷ stack) frames cells left in
      let inside = item_within vs j old e in
      let upto : (j + 1) * each ≤ n * each = mul-le (j + 1) each n each (omega (arith, inside, many)) (omega arith) in
      let more : (j + 1) * each ≡ j * each + each = omega arith in
      let all : scalars_of_type items ≡ each = sized_is items each is in
      let kind_all : scalars_of_kind (kind_of_type items) ≡ each = scalars_same items ∙ all in
      let reached : Reaches w.code w.tokens s s2 = after (obeys w.code w.tokens s (op.Load c) stands.0 ∙ ap (go_on s) (load_leaves c w.tokens (pos k ∷ stack) cells (pos j) kept))
      (after (obeys w.code w.tokens s1 (op.Index n each) stands.1.0 ∙ ap (go_on s1) (index_leaves n each k j w.tokens stack cells (omega (arith, inside, many)) (if_less (k + j * each) (omega (arith, upto, more, room, small))))) here) in
      let end : place + 1 + 1 + length rest ≡ place + length (op.Load c ∷ op.Index n each ∷ rest) = omega arith in
      follows_then (put items old us v left) (λ a b. Gives (Items (with_item vs (pos j) a)) b) (Found items old (k + j * each) (place + 1 + 1 + length rest) s2) (λ d. Ends w.code w.tokens s2 (outcome.Trap d) cells)
      (Found (Many n items) (Items vs) k (place + length (op.Load c ∷ op.Index n each ∷ rest)) s) (λ d. Ends w.code w.tokens s (outcome.Trap d) cells)
      inner
      (λ a b f.
      let within = f.within in
      let wide = stored_length t v shaped typed in
      let at : k + j * each + f.offset ≡ k + (j * each + f.offset) = omega arith in
      record {
        same = f.same;
        offset = j * each + f.offset;
        within = subst (λ x. j * each + f.offset + scalars_of_type t ≤ n * x) (sym all) (omega (arith, within, all, upto, more));
        reaches = subst (λ x. Reaches w.code w.tokens s (state (place + length (op.Load c ∷ op.Index n each ∷ rest)) (pos x ∷ stack) frames cells left)) at
            (subst (λ x. Reaches w.code w.tokens s (state x (pos (k + j * each + f.offset) ∷ stack) frames cells left)) end (reaches_join reached f.reaches));
        kind = (item_count vs j a ∙ many, kinds_with (kind_of_type items) vs j a kinds f.kind);
        changed = subst (λ x. IsChanged (flat_all vs) (flat_all (with_value vs j a)) (j * x + f.offset) (flat (stored t v))) kind_all
            (list_changed (kind_of_type items) vs j old a f.offset (flat (stored t v)) kinds e f.kind (omega (arith, within, wide, all, kind_all)) f.changed);
      })
      (λ d q. ends_join reached q)
    where
      if_less : (i : ℕ) → i < 2 ^ 32 → i < 2 ^ 32
      if_less i less = less

  -- one that isn't
  choose_out : (n each c k place : ℕ) (i : ℤ) (rest : List Instr) → slice_get cells c ≡ Some i → StandsAt w.code.instrs place (op.Load c ∷ op.Index n each ∷ rest) → effect w.tokens (op.Index n each) (i ∷ pos k ∷ stack) cells ≡ Fails IndexRange
      → Ends w.code w.tokens (state place (pos k ∷ stack) frames cells left) (outcome.Trap IndexRange) cells
  choose_out n each c k place i rest kept stands fails =
      let s : State = state place (pos k ∷ stack) frames cells left in
      let s1 : State = state (place + 1) (i ∷ pos k ∷ stack) frames cells left in
      go (obeys w.code w.tokens s (op.Load c) stands.0 ∙ ap (go_on s) (load_leaves c w.tokens (pos k ∷ stack) cells i kept)) (stop (obeys w.code w.tokens s1 (op.Index n each) stands.1.0 ∙ ap (go_on s1) fails))

  choose_more : (n each : ℕ) (items : Shape) (u i : Value) (us : Values) (c k place : ℕ) (rest : List Instr) (y : ℤ)
      → sized items ≡ Some each → k + n * each ≤ size → HasKind (kind_of_type (Many n items)) u → flat i ≡ y ∷ [] → slice_get cells c ≡ Some y
      → StandsAt w.code.instrs place (op.Load c ∷ op.Index n each ∷ rest)
      → ((old : Value) (j : ℕ) → k + j * each + each ≤ size → HasKind (kind_of_type items) old → Choose items old us (k + j * each) (place + 1 + 1) rest)
      → Choose (Many n items) u (Cons i us) k place (op.Load c ∷ op.Index n each ∷ rest)
  choose_more n each items (Num x) i us c k place rest y is room h number_is kept stands later = absurd h
  choose_more n each items (Truth b) i us c k place rest y is room h number_is kept stands later = absurd h
  choose_more n each items (Items vs) (Truth b) us c k place rest y is room h number_is kept stands later = tt
  choose_more n each items (Items vs) (Items ws) us c k place rest y is room h number_is kept stands later = tt
  choose_more n each items (Items vs) (Num (negsuc j)) us c k place rest y is room h number_is kept stands later =
      let same : negsuc j ≡ y = same_number (negsuc j) y number_is in
      choose_out n each c k place (negsuc j) rest (subst (λ x. slice_get cells c ≡ Some x) (sym same) kept) stands refl
  choose_more n each items (Items vs) (Num (pos j)) us c k place rest y is room h number_is kept stands later = at_item (value_at vs j) refl
    where
      there : slice_get cells c ≡ Some (pos j)
      there = let same : pos j ≡ y = same_number (pos j) y number_is in subst (λ x. slice_get cells c ≡ Some x) (sym same) kept

      at_item : (o : Option Value) → value_at vs j ≡ o
          → Follows (and_then (elim o [ None ↦ Traps IndexRange | Some old ↦ Gives old left ]) (λ old m. and_then (put items old us v m) (λ a b. Gives (Items (with_item vs (pos j) a)) b)))
          (Found (Many n items) (Items vs) k (place + length (op.Load c ∷ op.Index n each ∷ rest)) (state place (pos k ∷ stack) frames cells left)) (λ d. Ends w.code w.tokens (state place (pos k ∷ stack) frames cells left) (outcome.Trap d) cells)
      at_item None e =
          let past = item_past vs j e in
          let many = h.0 in
          choose_out n each c k place (pos j) rest there stands (index_past n each k j w.tokens stack cells (omega (arith, past, many)))
      at_item (Some old) e =
          let inside = item_within vs j old e in
          let many = h.0 in
          let upto : (j + 1) * each ≤ n * each = mul-le (j + 1) each n each (omega (arith, inside, many)) (omega arith) in
          let more : (j + 1) * each ≡ j * each + each = omega arith in
          choose_in n each items vs us old c k place j rest is room h.1 h.0 e there stands
          (later old j (omega (arith, upto, more, room)) (item_kind (kind_of_type items) vs j old h.1 e))

  choose : (places : Tree) (s : Shape) (u : Value) (us : Values) (c k each place : ℕ) → part_in s places ≡ Some t → sized s ≡ Some each → k + each ≤ size → HasKind (kind_of_type s) u → AreKept c us cells → count us ≡ number_of places
      → StandsAt w.code.instrs place (step_code c s places) → Choose s u us k place (step_code c s places)
  choose tree.nil (Single r) u Nil c k each place part is room h kept many stands =
      let same : Single r ≡ t = cc in subst (λ x. Choose x u Nil k place []) (sym same) (choose_none u k place)
  choose tree.nil (Many n items) u Nil c k each place part is room h kept many stands =
      let same : Many n items ≡ t = cc in subst (λ x. Choose x u Nil k place []) (sym same) (choose_none u k place)
  choose tree.nil s u (Cons i us) c k each place part is room h kept many stands = absurd (omega (arith, many))
  choose (tree.cons spot places) (Single r) u us c k each place part is room h kept many stands = cc
  choose (tree.cons spot places) (Many n items) u Nil c k each place part is room h kept many stands = absurd (omega (arith, many))
  choose (tree.cons spot places) (Many n items) u (Cons i us) c k each place part is room h kept many stands =
      let list : IsSized n items each = sized_list n items each is in
      let code : step_code c (Many n items) (tree.cons spot places) ≡ op.Load c ∷ op.Index n list.each ∷ step_code (c + 1) items places = ap (λ o. step_in c n o (step_code (c + 1) items places)) list.items_are in
      let all = list.is in
      let there : StandsAt w.code.instrs place (op.Load c ∷ op.Index n list.each ∷ step_code (c + 1) items places) = subst (λ x. StandsAt w.code.instrs place x) code stands in
      subst (λ x. Choose (Many n items) u (Cons i us) k place x) (sym code)
      (choose_more n list.each items u i us c k place (step_code (c + 1) items places) kept.0 list.items_are (omega (arith, all, room)) h kept.1 kept.2 there
      (λ old j less kind. choose places items old us (c + 1) (k + j * list.each) list.each (place + 1 + 1) part list.items_are less kind kept.3 (omega (arith, many)) there.1.1))
  choose other s u us c k each place part is room h kept many stands = cc

-- ---- types

-- the type of what is chosen is one
pub part_typed : (s : Shape) (places : Tree) {t : Shape} → IsType s → part_in s places ≡ Some t → IsType t
part_typed s tree.nil {t = t} h e = let same : s ≡ t = cc in subst IsType same h
part_typed (Many n items) (tree.cons place places) h e = part_typed items places h.2 e
part_typed s other h e = cc

-- .. and is one of as many single values of the same type
pub part_leaf : (s : Shape) (places : Tree) {t : Shape} → part_in s places ≡ Some t → leaf_of s ≡ leaf_of t
part_leaf s tree.nil {t = t} e = let same : s ≡ t = cc in ap leaf_of same
part_leaf (Many n items) (tree.cons place places) e = part_leaf items places e
part_leaf s other e = cc

-- 32 bits hold how many numbers it has
pub part_sized : (s : Shape) (places : Tree) (k : ℕ) {t : Shape} → sized s ≡ Some k → part_in s places ≡ Some t → (each : ℕ) × (sized t ≡ Some each)
part_sized s tree.nil k {t = t} h e = let same : s ≡ t = cc in (k, subst (λ r. sized r ≡ Some k) same h)
part_sized (Many n items) (tree.cons place places) k h e =
    let list : IsSized n items k = sized_list n items k h in
    part_sized items places list.each list.items_are e
part_sized s other k h e = cc

size_small : (s : Shape) (k : ℕ) → sized s ≡ Some k → k < 2 ^ 32
size_small (Single t) k e = let same : 1 ≡ k = cc in omega (arith, same)
size_small (Many n items) k e = (sized_list n items k e).less

-- ---- the assignment

module _ (rs : Routines) (outer : List Name) (w : World) (serves : Serves w outer rs.functions) (frames : List ℕ) (runs : Runs) where
  abbrev Inside : List Name → List ℤ → Env → Type 0
  Inside inner cells env = HoldsInside rs outer w.tokens w.low w.high inner cells env

  -- the numbers from an offset on are stored
  changed_stands : (c o s : ℕ) (t : Shape) (v : Value) (cells now : List ℤ) (old new : Value) → AreMoved (in_cell (Some (leaf_of t))) (λ j. slice_get cells (s + j)) (c + o) (scalars_of_type t) cells now → IsType t → IsShaped t v
      → StandAt (Cell s) w.tokens cells (flat v) → StandAt (Cell c) w.tokens cells (flat old) → IsChanged (flat old) (flat new) o (flat (stored t v)) → StandAt (Cell c) w.tokens now (flat new)
  changed_stands c o s t v cells now old new moved typed shaped from stands changed j z e =
      let wide = stored_length t v shaped typed in
      ⊎_elim (λ (p : (i : ℕ) × (j ≡ o + i) × (slice_get (flat (stored t v)) i ≡ Some z)).
      let at = p.1 in
      let place : c + o + p.0 ≡ c + j = omega (arith, at) in
      let old_one = (stored_leaf t v shaped typed).1 p.0 z p.2 in
      let within = slice_get_within (flat v) p.0 old_one.0 old_one.1 in
      let all = flat_shaped t v shaped in
      subst (λ d. slice_get now d ≡ Some z) place (moved.there p.0 old_one.0 (omega (arith, within, all)) (from p.0 old_one.0 old_one.1) ∙ ap Some (sym old_one.2)))
      (λ (p : ((j < o) ⊎ (o + length (flat (stored t v)) ≤ j)) × (slice_get (flat old) j ≡ Some z)).
      moved.others (c + j) (⊎_elim (λ (a : j < o). inl (omega (arith, a))) (λ (a : o + length (flat (stored t v)) ≤ j). inr (omega (arith, a, wide))) p.0) ∙ stands j z p.1)
      (changed j z e)

  -- the instruction that stores cells from an offset on
  copy_to_leaves : (t : Option Scalar) (d n s m o : ℕ) (stack cells : List ℤ) → o + m ≤ n → d + o + m ≤ length cells → s + m ≤ length cells
      → effect w.tokens (op.CopyTo d n s m t) (pos o ∷ stack) cells ≡ Leaves stack (copied t (d + o) s m cells)
  copy_to_leaves t d n s m o stack cells fit to from =
      let near : nat_le (o + m) n ≡ true = grind (arith, nat_tests, fit) in
      let inside : nat_le (d + o + m) (length cells) ≡ true = grind (arith, nat_tests, to) in
      let there : nat_le (s + m) (length cells) ≡ true = grind (arith, nat_tests, from) in
      ap (λ b. if b then (if nat_le (d + o + m) (length cells) then (if nat_le (s + m) (length cells) then Leaves stack (copied t (d + o) s m cells) else Breaks) else Breaks) else Fails IndexRange) near
      ∙ ap (λ b. if b then (if nat_le (s + m) (length cells) then Leaves stack (copied t (d + o) s m cells) else Breaks) else Breaks) inside
      ∙ ap (λ b. if b then Leaves stack (copied t (d + o) s m cells) else Breaks) there

  -- what is put comes to the same whatever value stands in the cells
  as_put : (x : Name) (c : ℕ) (us : Values) (v : Value) (k : ℕ) (o : Out Value) (cells : List ℤ) (T : Trap → Type 0) → x.seat ≡ Cell c → (u : Value) → HasKind (kind_of_type x.shape) u → StandAt (Cell c) w.tokens cells (flat u) → put x.shape u us v k ≡ o
      → Follows o (λ a b. (b ≡ k) × NewAt rs outer w.tokens w.low w.high ⊥ x cells a) T → PutsAt rs outer w.tokens w.low w.high ⊥ x cells cells us v k T
  as_put x c us v k o cells T seat u kind stand is h u2 kind2 stand2 =
      let one : u ≡ u2 = same_standing (kind_of_type x.shape) u u2 c w.tokens cells kind kind2 stand (subst (λ q. StandAt q w.tokens cells (flat u2)) seat stand2) in
      subst (λ q. Follows (put x.shape q us v k) (λ a b. (b ≡ k) × NewAt rs outer w.tokens w.low w.high ⊥ x cells a) T) one
      (subst (λ (q : Out Value). Follows q (λ a b. (b ≡ k) × NewAt rs outer w.tokens w.low w.high ⊥ x cells a) T) (sym is) h)

  -- what the last instruction does, when the places are tested
  part_ends : (inner : List Name) (n m base place end c s size : ℕ) (text : List ℕ) (x : Name) (t : Shape) (stack before cells : List ℤ) (us : Values) (v : Value) (env : Env) (left k from : ℕ)
      → slice_get w.code.instrs place ≡ Some (op.CopyTo c size s (scalars_of_type t) (Some (leaf_of t))) → end ≡ place + 1 → n ≤ m
      → AreLaid rs outer w.tokens w.low w.high n inner → named text (inner ++ outer) ≡ Some x → x.seat ≡ Cell c → scalars_of_type x.shape ≡ size
      → (s + scalars_of_type t ≤ c) ⊎ (c + size ≤ s + scalars_of_type t) → c + size ≤ length cells → s + scalars_of_type t ≤ length cells → StandAt (Cell s) w.tokens cells (flat v)
      → (u : Value) → HasKind (kind_of_type x.shape) u → StandAt (Cell c) w.tokens cells (flat u)
      → (o : Out Value) → put x.shape u us v k ≡ o
      → (typed : IsType t) (shaped : IsShaped t v) (small : size < 2 ^ 32)
      → Follows o (Found w frames stack cells k t v size typed shaped small x.shape u 0 place (state from (pos 0 ∷ stack) frames cells k)) (λ d. Ends w.code w.tokens (state from (pos 0 ∷ stack) frames cells k) (outcome.Trap d) cells)
      → Reaches w.code w.tokens (state base stack frames before left) (state from (pos 0 ∷ stack) frames cells k) → Keeps n m w.low w.high before cells → Inside inner before env → Inside inner cells env
      → Follows (assign env text us v k) (Moves rs outer w serves frames inner n m (state base stack frames before left) end (length env.locals)) (CutShort w (inner ++ outer) outer n m (state base stack frames before left))
  part_ends inner n m base place end c s size text x t stack before cells us v env left k from last end_is le laid e seat many away to source stands u kind stand (Gives new h) is typed shaped small f r keeps holds now =
      let o : ℕ = f.offset in
      let within = f.within in
      let wide : ℕ = scalars_of_type t in
      let leaf : Scalar = leaf_of t in
      let i : Instr = op.CopyTo c size s wide (Some leaf) in
      let written : List ℤ = copied (Some leaf) (c + o) s wide cells in
      let far : (s + wide ≤ c + o) ⊎ (c + o ≤ s) = ⊎_elim (λ (a : s + wide ≤ c). inl (omega (arith, a))) (λ (a : c + size ≤ s + wide). inr (omega (arith, a, within, many))) away in
      let inside : c + o + wide ≤ length cells = omega (arith, within, many, to) in
      let moved : AreMoved (in_cell (Some leaf)) (λ j. slice_get cells (s + j)) (c + o) wide cells written = copied_are (Some leaf) (c + o) s wide cells far inside in
      let a : State = state place (pos o ∷ stack) frames cells k in
      let plain : 0 + o ≡ o = omega arith in
      let reached : Reaches w.code w.tokens (state base stack frames before left) a =
      reaches_join r (subst (λ q. Reaches w.code w.tokens (state from (pos 0 ∷ stack) frames cells k) (state place (pos q ∷ stack) frames cells k)) plain f.reaches) in
      let wrote : Written c (scalars_of_type x.shape) cells written = record {
        length_same = moved.same_size;
        cell = λ d free. moved.others d (⊎_elim (λ (b : d < c). inl (omega (arith, b))) (λ (b : c + scalars_of_type x.shape ≤ d). inr (omega (arith, b, within))) free);
      } in
      stores rs outer w serves frames runs inner n m base place end c text x (pos o ∷ stack) stack before cells written us v env left k i
      (λ q. obeys w.code w.tokens a i last ∙ ap (go_on a) (copy_to_leaves (Some leaf) c size s wide o stack cells (omega (arith, within, many)) inside source))
      end_is le laid e seat wrote
      (λ u2 kind2 stand2.
      let one : u ≡ u2 = same_standing (kind_of_type x.shape) u u2 c w.tokens cells kind kind2 stand (subst (λ q. StandAt q w.tokens cells (flat u2)) seat stand2) in
      subst (λ q. Follows (put x.shape q us v k) (λ a b. (b ≡ k) × NewAt rs outer w.tokens w.low w.high (Unit {0}) x written a) (λ d. ⊥)) one
      (subst (λ (q : Out Value). Follows q (λ a b. (b ≡ k) × NewAt rs outer w.tokens w.low w.high (Unit {0}) x written a) (λ d. ⊥)) (sym is)
      (f.same, ((f.kind, subst (λ q. StandAt q w.tokens written (flat new)) (sym seat) (changed_stands c o s t v cells written u new moved typed shaped stands stand f.changed)), tt))))
      reached keeps holds
  part_ends inner n m base place end c s size text x t stack before cells us v env left k from last end_is le laid e seat many away to source stands u kind stand (Traps d) is typed shaped small f r keeps holds now =
      never rs outer w serves frames runs inner n m base from end c text x (pos 0 ∷ stack) stack before cells us v env left k (λ b. b ≡ d)
      (λ b same. subst (λ q. CutShort w (inner ++ outer) outer n m (state base stack frames before left) q) (sym same) (record { cells = cells; ends = ends_join r f; keeps = keeps_but (inner ++ outer) keeps }))
      laid e seat (as_put x c us v k (Traps d) cells (λ b. b ≡ d) seat u kind stand is refl) now
  part_ends inner n m base place end c s size text x t stack before cells us v env left k from last end_is le laid e seat many away to source stands u kind stand Lacks is typed shaped small f r keeps holds now =
      never rs outer w serves frames runs inner n m base from end c text x (pos 0 ∷ stack) stack before cells us v env left k (λ b. ⊥) (λ b q. absurd q) laid e seat (as_put x c us v k Lacks cells (λ b. ⊥) seat u kind stand is tt) now
  part_ends inner n m base place end c s size text x t stack before cells us v env left k from last end_is le laid e seat many away to source stands u kind stand Clashes is typed shaped small f r keeps holds now =
      never rs outer w serves frames runs inner n m base from end c text x (pos 0 ∷ stack) stack before cells us v env left k (λ b. ⊥) (λ b q. absurd q) laid e seat (as_put x c us v k Clashes cells (λ b. ⊥) seat u kind stand is tt) now

  -- the tests of the places and the last instruction, where the places are kept and the value stands in cells
  pub tail_moves : (inner : List Name) (places : Tree) (n m base p c s size : ℕ) (text : List ℕ) (x : Name) (t : Shape) (stack before cells : List ℤ) (us : Values) (v : Value) (env : Env) (left k : ℕ)
      → named text (inner ++ outer) ≡ Some x → x.seat ≡ Cell c → sized x.shape ≡ Some size → part_in x.shape places ≡ Some t
      → StandsAt w.code.instrs p (part_tail c size s t (step_code n x.shape places)) → n ≤ m → m ≤ length cells → AreLaid rs outer w.tokens w.low w.high n inner
      → (s + scalars_of_type t ≤ c) ⊎ (c + size ≤ s + scalars_of_type t) → s + scalars_of_type t ≤ length cells → StandAt (Cell s) w.tokens cells (flat v) → IsShaped t v
      → AreKept n us cells → count us ≡ number_of places
      → Reaches w.code w.tokens (state base stack frames before left) (state p stack frames cells k) → Keeps n m w.low w.high before cells → Inside inner before env
      → Follows (assign env text us v k) (Moves rs outer w serves frames inner n m (state base stack frames before left) (p + length (part_tail c size s t (step_code n x.shape places))) (length env.locals)) (CutShort w (inner ++ outer) outer n m (state base stack frames before left))
  tail_moves inner places n m base p c s size text x t stack before cells us v env left k e seat shape part tail le room laid away source stands shaped kept as_many r keeps holds =
      let steps : List Instr = step_code n x.shape places in
      let last : List Instr = op.CopyTo c size s (scalars_of_type t) (Some (leaf_of t)) ∷ [] in
      let from : ℕ = p + 1 in
      let at_start : State = state p stack frames cells k in
      let tests = stands_left w.code.instrs from steps last tail.1 in
      let final = stands_right w.code.instrs from steps last tail.1 in
      let end : p + length (part_tail c size s t steps) ≡ from + length steps + 1 = omega (arith, length-append steps last) in
      let whole_typed : IsType x.shape = laid_typed rs outer w.tokens w.low w.high n inner laid text x e in
      let typed : IsType t = part_typed x.shape places whole_typed part in
      let small : size < 2 ^ 32 = size_small x.shape size shape in
      let many : scalars_of_type x.shape ≡ size = sized_is x.shape size shape in
      let under : c + scalars_of_type x.shape ≤ n = subst (λ z. SeatIsBelow n (scalars_of_type x.shape) z) seat (laid_below rs outer w.tokens w.low w.high n inner laid text x e) in
      let reached : Reaches w.code w.tokens (state base stack frames before left) (state from (pos 0 ∷ stack) frames cells k) = reaches_join r (after (obeys w.code w.tokens at_start (op.Const (pos 0)) tail.0) here) in
      let inside : Inside inner cells env = inside_still rs outer w.tokens w.low w.high n m inner before cells env laid keeps holds in
      let mine : HoldsName w.tokens cells env text x = names_held rs outer w.tokens w.low w.high inner cells env inside text x e in
      part_ends inner n m base (from + length steps) (p + length (part_tail c size s t steps)) c s size text x t stack before cells us v env left k from final.0 end le laid e seat many away (omega (arith, under, many, le, room)) source stands
      mine.value mine.of_type (subst (λ z. StandAt z w.tokens cells (flat mine.value)) seat mine.stands)
      (put x.shape mine.value us v k) refl typed shaped small
      (choose w frames stack cells k t v size typed shaped small places x.shape mine.value us n 0 size from part shape (omega arith) mine.of_type kept as_many tests)
      reached keeps holds inside

  pub set_part_performs : (inner : List Name) (text : List ℕ) (places value : Tree) (place at base n k m c size : ℕ) (a b : List Instr) (x : Name) (t : Shape)
      → named text (inner ++ outer) ≡ Some x → x.seat ≡ Cell c → sized x.shape ≡ Some size → part_in x.shape places ≡ Some t
      → IsKept rs.functions (inner ++ outer) n places base (n + number_of places + scalars_of_type t) a k → IsFill rs.functions (inner ++ outer) value t (n + number_of places) (base + length a) k b m
      → Performs rs outer w serves frames inner (λ env left. exec (tree.assign (tree.ident text place) places value at) w.calls runs env left) base n (a ++ (b ++ part_tail c size (n + number_of places) t (step_code n x.shape places))) m
  set_part_performs inner text places value place at base n k m c size a b x t e seat shape part first second stack cells env left stands laid apart room holds =
      let names : List Name = inner ++ outer in
      let f : ℕ = n + number_of places in
      let tail : List Instr = part_tail c size f t (step_code n x.shape places) in
      let s : State = state base stack frames cells left in
      let wide : f + scalars_of_type t ≤ k = grows_kept first in
      let ge : k ≤ m = grows_fill second in
      let le : n ≤ k = omega (arith, wide) in
      let rest = stands_right w.code.instrs base a (b ++ tail) stands in
      let p : ℕ = base + length a + length b in
      let end : p + length tail ≡ base + length (a ++ (b ++ tail)) = omega (arith, length-append a (b ++ tail), length-append b tail) in
      let free : AreApart n k w.low w.high = apart_first n k m w.low w.high ge apart in
      let many : scalars_of_type x.shape ≡ size = sized_is x.shape size shape in
      let under : c + scalars_of_type x.shape ≤ n = subst (λ z. SeatIsBelow n (scalars_of_type x.shape) z) seat (laid_below rs outer w.tokens w.low w.high n inner laid text x e) in
      follows_then (eval_all places w.calls env left) (λ us h. and_then (eval value w.calls env h) (λ v j. assign env text us v j)) (AtKept w n k (number_of places) s (base + length a)) (CutsOff w n k s) (Moves rs outer w serves frames inner n m s (base + length (a ++ (b ++ tail))) (length env.locals)) (CutShort w names outer n m s)
      (keep rs outer w serves frames inner env (omega arith) first stack cells left (stands_left w.code.instrs base a (b ++ tail) stands) laid free (omega (arith, ge, room)) holds)
      (λ us h q.
      let r : State = state (base + length a) stack frames q.cells h in
      let one = q.keeps.size in
      let still : Inside inner q.cells env = inside_still rs outer w.tokens w.low w.high n k inner cells q.cells env laid q.keeps holds in
      let wider : AreLaid rs outer w.tokens w.low w.high f inner = laid_more rs outer w.tokens w.low w.high n f inner (omega arith) laid in
      follows_then (eval value w.calls env h) (λ v j. assign env text us v j) (Fills w f m f t r p) (CutsOff w f m r) (Moves rs outer w serves frames inner n m s (base + length (a ++ (b ++ tail))) (length env.locals)) (CutShort w names outer n m s)
      (fills_there rs outer w serves frames inner second wide stack q.cells env h (stands_left w.code.instrs (base + length a) b tail rest) wider (apart_last n f m w.low w.high (omega arith) apart) (omega (arith, one, room)) still)
      (λ v j o.
      let two = o.keeps.size in
      let as_many = q.as_many in
      let kept : AreKept n us o.cells = kept_still n us q.cells o.cells
      (λ d low less. o.keeps.cell d (inl (omega (arith, less, as_many))) (own_cell n m w.low w.high d apart low (omega (arith, less, as_many, wide, ge))))
      q.kept in
      moves_at rs outer w serves frames (assign env text us v j) inner n m (p + length tail) (base + length (a ++ (b ++ tail))) (length env.locals) s end
      (tail_moves inner places n m base p c f size text x t stack cells o.cells us v env left j e seat shape part (stands_right w.code.instrs (base + length a) b tail rest) (omega (arith, le, ge)) (omega (arith, one, two, room)) laid
      (inr (omega (arith, under, many))) (omega (arith, wide, ge, one, two, room)) o.stands o.shaped kept as_many (reaches_join q.reaches o.reaches)
      (keeps_join (keeps_wider n m (omega arith) ge q.keeps) (keeps_wider n m (omega arith) (omega arith) o.keeps)) holds))
      (λ d y. breaks_after rs outer w serves frames names n m s r d q.reaches (but_wider n m (omega arith) ge (keeps_but names q.keeps)) (cut_breaks rs outer w serves frames names n f m m r d (omega arith) (omega arith) y)))
      (λ d q. cut_breaks rs outer w serves frames names n n k m s d (omega arith) ge q)
