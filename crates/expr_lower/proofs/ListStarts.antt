-- The code of the start of a list does what starting it does, and fits.
use Rattle.std.proofs.Common.{◌≡◌, ℕ, zero, suc, ◌+◌, ◌≤◌, inr, ℤ, pos, List, [], ◌∷◌, ◌++◌, length, true, refl, sym, ap, ◌∙◌, subst, Option, None, Some, arith, length-append}
use Rattle.std.specs.Prelude.{if◌then◌else◌, nat_le, slice_get, slice_set}
use Rattle.std.proofs.lemmas.Bool.Decides.{nat_tests}
use Rattle.std.proofs.lemmas.List.{length-set}
use Rattle.std.proofs.lemmas.Option.{slice_get_within}
use Rattle.rvc_base.specs.declared.scalar.Scalar.{Scalar}
use Rattle.cal_ast.specs.Tree.{Tree}
use Rattle.cal_ast.specs.View.{optional}
use Rattle.cal_model.specs.Actor.{Local}
use Rattle.cal_model.specs.Call.{first_value}
use Rattle.cal_model.specs.Value.{Shape, Single, Many, Value, HasKind, IsType, kind_of_type, repeated, scalars_of_type, stored, zero_of}
use Rattle.cal_model.specs.Outcome.{Gives}
use Rattle.cal_model.specs.Env.{Env}
use Rattle.cal_model.specs.Expression.{eval}
use Rattle.cal_model.proofs.KindValues.{zero-has-kind}
use Rattle.code_ir.specs.declared.instr.Instr.{Instr}
use Rattle.code_ir.specs.declared.instr.Instr.TheVariants as op
use Rattle.code_ir.specs.Code.{Code}
use Rattle.code_ir.specs.Effect.{Breaks, Leaves, copied, effect, zeroed, stored as in_cell}
use Rattle.code_ir.specs.Running.{State, Reaches}
use Rattle.lower_base.specs.Callees.{Function}
use Rattle.lower_base.specs.Calling.{HasRoutines, Serves}
use Rattle.lower_base.specs.Flat.{flat, flat_all}
use Rattle.lower_base.specs.Following.{CutsOff, Follows}
use Rattle.lower_base.specs.Held.{AreBelow}
use Rattle.lower_base.specs.ListStarts.{Starts, StartsList}
use Rattle.lower_base.specs.Names.{Name}
use Rattle.lower_base.specs.Placed.{StandsAt, World, state}
use Rattle.lower_base.proofs.AllowedCode.{allows_more, own_all}
use Rattle.lower_base.proofs.Fitted.{Plain, fits_one, plain_then}
use Rattle.lower_base.proofs.Keeping.{flat_length, keeps_join, scalars_same}
use Rattle.lower_base.proofs.Routined.{zero_kind}
use Rattle.lower_base.proofs.Runs.{follows_then, reaches_join, stands_left, stands_right}
use Rattle.lower_base.proofs.Written.{Written, written_keeps}
use Rattle.expr_lower.specs.Filled.{Fills}
use Rattle.expr_lower.specs.ListStarting.{IsListStart, all_filled, all_zero, leaf_of}
use Rattle.expr_lower.proofs.AllowedFills.{list_start_allowed}
use Rattle.expr_lower.proofs.Filled.{fills_in, grows_fill}
use Rattle.expr_lower.proofs.Fitted.{fits_fill}
use Rattle.expr_lower.proofs.Forms.{Ready}
use Rattle.expr_lower.proofs.Leaves.{leaf_size, stored_leaf}
use Rattle.expr_lower.proofs.Moving.{AreMoved, copied_are, copy_leaves, moved_more, moved_none}
use Rattle.expr_lower.proofs.Shapes.{flat_shaped}
use Rattle.expr_lower.proofs.Steps.{straight_reaches}

pub grows_list_start : {fs : List Function} {names : List Name} {t : Shape} {c : ℕ} {start : Tree} {base n m : ℕ} {code : List Instr} → IsListStart fs names t c start base n code m → n ≤ m
grows_list_start (all_zero base n) = omega arith
grows_list_start (all_filled e base n m code g) = grows_fill g

-- ---- zeros

abbrev pub AreZero : List ℤ → Type 0
AreZero zs = (j : ℕ) (z : ℤ) → slice_get zs j ≡ Some z → z ≡ pos 0

both_zero : (xs ys : List ℤ) → AreZero xs → AreZero ys → AreZero (xs ++ ys)
both_zero [] ys first second j z e = second j z e
both_zero (x ∷ xs) ys first second zero z e = first zero z e
both_zero (x ∷ xs) ys first second (suc j) z e = both_zero xs ys (λ i y g. first (suc i) y g) second j z e

all_zeros : (n : ℕ) (v : Value) → AreZero (flat v) → AreZero (flat_all (repeated n v))
all_zeros zero v h j z e = cc
all_zeros (suc n) v h j z e = both_zero (flat v) (flat_all (repeated n v)) h (all_zeros n v h) j z e

one_zero : (zs : List ℤ) → zs ≡ pos 0 ∷ [] → AreZero zs
one_zero zs is j z e = only j (subst (λ xs. slice_get xs j ≡ Some z) is e)
  where
    only : (j : ℕ) → slice_get (pos 0 ∷ []) j ≡ Some z → z ≡ pos 0
    only zero g = cc
    only (suc j) g = cc

pub zeros : (t : Shape) → AreZero (flat (zero_of t))
zeros (Single t) = one_zero (flat (zero_of (Single t))) (zero_kind t).1
zeros (Many n items) = all_zeros n (zero_of items) (zeros items)

pub zeroed_are : (c n : ℕ) (cells : List ℤ) → c + n ≤ length cells → AreMoved (λ z. z) (λ j. Some (pos 0)) c n cells (zeroed c n cells)
zeroed_are c zero cells room = moved_none (λ z. z) (λ j. Some (pos 0)) c cells
zeroed_are c (suc n) cells room =
    let next : List ℤ = slice_set cells c (pos 0) in
    let size : length next ≡ length cells = length-set cells c (pos 0) in
    moved_more (λ z. z) (λ j. Some (pos 0)) (λ j. Some (pos 0)) c n (pos 0) cells (zeroed (c + 1) n next) (omega (arith, room)) (λ z e. cc) (λ j z small e. e)
    (zeroed_are (c + 1) n next (omega (arith, room, size)))

pub zero_leaves : (c n : ℕ) (tokens : ℕ → List ℤ) (stack cells : List ℤ) → c + n ≤ length cells → effect tokens (op.Zero c n) stack cells ≡ Leaves stack (zeroed c n cells)
zero_leaves c n tokens stack cells room =
    let near : nat_le (c + n) (length cells) ≡ true = grind (arith, nat_tests, room) in
    ap (λ b. if b then Leaves stack (zeroed c n cells) else Breaks) near

-- ---- starts

module _ (fs : List Function) (globals : List Name) (w : World) (serves : Serves w globals fs) (frames : List ℕ) (names : List Name) (env : Env) (t : Shape) (c : ℕ) where
  pub list_starts : {base m : ℕ} (start : Option Tree) {a : List Instr} → IsType t → IsListStart fs names t c (optional start) base (c + scalars_of_type t) a m
      → (stack cells : List ℤ) (left : ℕ) → StandsAt w.code.instrs base a → Ready fs globals w serves frames names env c m cells
      → Follows (first_value t start w.calls env left) (Starts w t c m (state base stack frames cells left) (base + length a)) (CutsOff w c m (state base stack frames cells left))
  list_starts None typed (all_zero base h) stack cells left stands ready =
      let size : ℕ = scalars_of_type t in
      let now : List ℤ = zeroed c size cells in
      let room = ready.room in
      let moved : AreMoved (λ z. z) (λ j. Some (pos 0)) c size cells now = zeroed_are c size cells room in
      let kind : HasKind (kind_of_type t) (zero_of t) = zero-has-kind t typed in
      let many : length (flat (zero_of t)) ≡ size = flat_length (kind_of_type t) (zero_of t) kind ∙ scalars_same t in
      let wrote : Written c size cells now = record { length_same = moved.same_size; cell = moved.others } in
      record {
        cells = now;
        reaches = straight_reaches w base (op.Zero c size) stack stack frames cells now left (λ code tokens y. refl) stands.0 (zero_leaves c size w.tokens stack cells room);
        keeps = written_keeps c size c (c + size) w.low w.high cells now (omega arith) (omega arith) wrote;
        kind = kind;
        stands = λ j z e.
            let within = slice_get_within (flat (zero_of t)) j z e in
            moved.there j (pos 0) (omega (arith, within, many)) refl ∙ ap Some (sym (zeros t j z e));
      }
  list_starts (Some _) typed (all_filled e base h m code coded) stack cells left stands ready =
      let size : ℕ = scalars_of_type t in
      let leaf : Scalar = leaf_of t in
      let i : Instr = op.Copy c c size (Some leaf) in
      let s : State = state base stack frames cells left in
      let wide : c + size ≤ m = grows_fill coded in
      let end : base + length code + 1 ≡ base + length (code ++ i ∷ []) = omega (arith, length-append code (i ∷ [])) in
      let room = ready.room in
      follows_then (eval e w.calls env left) (λ v j. Gives (stored t v) j) (Fills w c m c t s (base + length code)) (CutsOff w c m s) (Starts w t c m s (base + length (code ++ i ∷ []))) (CutsOff w c m s)
      (fills_in fs globals w serves frames coded (omega arith) env stack cells left (stands_left w.code.instrs base code (i ∷ []) stands) ready)
      (λ v j p.
      let same = p.keeps.size in
      let there : c + size ≤ length p.cells = omega (arith, wide, room, same) in
      let now : List ℤ = copied (Some leaf) c c size p.cells in
      let moved : AreMoved (in_cell (Some leaf)) (λ q. slice_get p.cells (c + q)) c size p.cells now = copied_are (Some leaf) c c size p.cells (inr (omega arith)) there in
      let wrote : Written c size p.cells now = record { length_same = moved.same_size; cell = moved.others } in
      let made = stored_leaf t v p.shaped typed in
      let all : length (flat v) ≡ size = flat_shaped t v p.shaped in
      record {
        cells = now;
        reaches = subst (λ q. Reaches w.code w.tokens s (state q stack frames now j)) end
            (reaches_join p.reaches (straight_reaches w (base + length code) i stack stack frames p.cells now j (λ code tokens y. refl) (stands_right w.code.instrs base code (i ∷ []) stands).0
            (copy_leaves (Some leaf) c c size w.tokens stack p.cells there there)));
        keeps = keeps_join p.keeps (written_keeps c size c m w.low w.high p.cells now (omega arith) wide wrote);
        kind = made.0;
        stands = λ q z g.
            let old = made.1 q z g in
            let within = slice_get_within (flat v) q old.0 old.1 in
            moved.there q old.0 (omega (arith, within, all)) (p.stands q old.0 old.1) ∙ ap Some (sym old.2);
      })
      (λ d q. q)

-- ---- and they fit

module _ (code : Code) (callable limit : ℕ) (fs : List Function) (has : HasRoutines code callable limit fs) where
  pub fits_list_start : (names : List Name) (t : Shape) (c : ℕ) {start : Tree} {base n m : ℕ} {a : List Instr} (h : ℕ) → IsType t → c + scalars_of_type t ≤ n → AreBelow c names → m ≤ limit → StandsAt code.instrs base a → IsListStart fs names t c start base n a m → Plain code callable limit base h a h
  fits_list_start names t c h typed room below le stands (all_zero base n) =
      fits_one code callable limit base h h (op.Zero c (scalars_of_type t)) (omega arith) (omega arith) refl (omega (arith, room, le)) tt tt tt
  fits_list_start names t c h typed room below le stands (all_filled e base n m instrs g) =
      let wide = grows_fill g in
      let i : Instr = op.Copy c c (scalars_of_type t) (Some (leaf_of t)) in
      let there : c + scalars_of_type t ≤ limit = omega (arith, room, wide, le) in
      plain_then code callable limit base h h h instrs (i ∷ []) (fits_fill code callable limit fs has h below room le (stands_left code.instrs base instrs (i ∷ []) stands) g)
      (fits_one code callable limit (base + length instrs) h h i (omega arith) (omega arith) refl (there, there) tt tt (leaf_size t typed))

-- ---- as routines have it

pub start_code : {fs : List Function} {names : List Name} {c base m : ℕ} {code : List Instr} (x : Local) → IsType x.shape → IsListStart fs names x.shape c (optional x.start) base (c + scalars_of_type x.shape) code m → StartsList fs names x c base code m
start_code {fs = fs} {names = names} {c = c} x typed coded = record {
  cells = grows_list_start coded;
  starts = λ below w globals env stack frames cells left stands serves p free room.
      list_starts fs globals w serves frames names env x.shape c x.start typed coded stack cells left stands
      (record { below = (below, p.globals_below); apart = (p.apart, p.globals_apart); free = free; room = room; held = (p.holds, p.holds_globals, p.room) });
  fits = λ whole callable limit has below le stands. fits_list_start whole callable limit fs has names x.shape c 0 typed (omega arith) below le stands coded;
  allowed = λ bounds r. list_start_allowed bounds fs (allows_more (c + scalars_of_type x.shape) (omega arith) r) (own_all c (scalars_of_type x.shape) (omega arith) r) coded;
}
