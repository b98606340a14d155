-- The code of a function does what calling it does.
use Rattle.std.proofs.Common.{◌≡◌, ℕ, ◌+◌, ◌<◌, ◌≤◌, inl, inr, ⊎_elim, Bool, true, false, ℤ, pos, List, [], ◌∷◌, ◌++◌, length, refl, sym, ap, ◌∙◌, subst, Option, None, Some, arith, length-append}
use Rattle.std.specs.Prelude.{if◌then◌else◌, slice_get, slice_index_or, slice_set}
use Rattle.std.specs.Str.{bytes_eq}
use Rattle.std.proofs.lemmas.Option.{slice_get-get_or}
use Rattle.rvc_base.specs.declared.scalar.Scalar.{Scalar}
use Rattle.rvc_base.specs.declared.scalar.Scalar.TheVariants as scalar
use Rattle.rvc_base.specs.Storing.{conv, IsSize}
use Rattle.cal_ast.specs.Tree.{Tree}
use Rattle.cal_ast.specs.View.{optional}
use Rattle.cal_model.proofs.Numbers.{is-num}
use Rattle.cal_model.specs.Value.{Shape, Single, Value, HasKind, kind_of_scalar, kind_of_type, of_number, scalars_of_type, stored}
use Rattle.cal_model.specs.Outcome.{Out, Gives, Traps, Lacks, Clashes, and_then}
use Rattle.cal_model.specs.Env.{Env, find, variable, with_local}
use Rattle.cal_model.specs.Expression.{eval}
use Rattle.cal_model.specs.Actor.{Local}
use Rattle.cal_model.specs.Call.{declared, first_value}
use Rattle.code_ir.specs.declared.instr.Instr.{Instr}
use Rattle.code_ir.specs.declared.instr.Instr.TheVariants as op
use Rattle.code_ir.specs.Effect.{stored as in_type}
use Rattle.code_ir.specs.Running.{State, go_on, Reaches, here, after}
use Rattle.lower_base.specs.declared.names.Seat.TheVariants.{Cell}
use Rattle.lower_base.specs.Callees.{Function}
use Rattle.lower_base.specs.Calling.{Serves}
use Rattle.lower_base.specs.Coding.{IsCode}
use Rattle.lower_base.specs.Flat.{flat}
use Rattle.lower_base.specs.Following.{CutsOff, Follows, Pushes}
use Rattle.lower_base.specs.Held.{AllApart, AreApart, AreBelow, Holds, HoldsName, Keeps, SeatIsApart, SeatIsBelow, StandAt}
use Rattle.lower_base.specs.ListStarts.{Starts}
use Rattle.lower_base.specs.Names.{local, local_of, Name, named}
use Rattle.lower_base.specs.Placed.{StandsAt, World, state}
use Rattle.lower_base.specs.Routining.{IsBody, LocalsSized, no_more_locals, one_more_list, one_more_local, return_code}
use Rattle.lower_base.specs.Starting.{IsStart, at_zero, at_value}
use Rattle.lower_base.proofs.Coded.{does_in, grows, load_leaves}
use Rattle.lower_base.proofs.Doing.{Apart, Below, Held, below_on, cut_after, cut_wider, prepared, still}
use Rattle.lower_base.proofs.GivenKinds.{kinds_in}
use Rattle.lower_base.proofs.Keeping.{keeps_join, keeps_wider}
use Rattle.lower_base.proofs.Runs.{follows_both, follows_more, follows_then, obeys, reaches_join, stands_left, stands_right}
use Rattle.lower_base.proofs.Written.{Written, written_keeps, stand_one}
use Rattle.lower_base.proofs.Singles.{IsSingleValue, singles_in}
use Rattle.lower_base.proofs.Storing.{set_there, set_written, single_stored, store_leaves}

pub zero_kind : (t : Scalar) → HasKind (kind_of_scalar t) (of_number t (pos 0)) × (flat (of_number t (pos 0)) ≡ pos 0 ∷ [])
zero_kind scalar.Bool = (tt, refl)
zero_kind (scalar.Int n) = (is-num (pos 0) refl, refl)
zero_kind (scalar.Uint n) = (is-num (pos 0) refl, refl)

-- ---- names in front of others

-- cells before m, that none of routines are among, are apart from those
part_apart : (c size m low high : ℕ) → c + size ≤ m → AreApart c m low high → AreApart c (c + size) low high
part_apart c size m low high le far = ⊎_elim (λ (h : m ≤ low). inl (omega (arith, h, le))) (λ (h : high ≤ c). inr h) far

pub any_apart : (low high : ℕ) (names : List Name) (text : List ℕ) (t : Shape) (c : ℕ) → AreApart c (c + scalars_of_type t) low high → AllApart low high names → AllApart low high (local_of text t c ∷ names)
any_apart low high names text t c far apart other y e = by (bytes_eq text other) e (apart other y)
  where
    by : (b : Bool) → (if b then Some (local_of text t c) else named other names) ≡ Some y → (named other names ≡ Some y → SeatIsApart low high (scalars_of_type y.shape) y.seat) → SeatIsApart low high (scalars_of_type y.shape) y.seat
    by true f more = let same : local_of text t c ≡ y = cc in subst (λ (z : Name). SeatIsApart low high (scalars_of_type z.shape) z.seat) same far
    by false f more = more f

pub front_apart : (low high : ℕ) (names : List Name) (text : List ℕ) (t : Scalar) (c : ℕ) → AreApart c (c + 1) low high → AllApart low high names → AllApart low high (local text t c ∷ names)
front_apart low high names text t c far apart = any_apart low high names text (Single t) c far apart

pub any_below : (names : List Name) (text : List ℕ) (t : Shape) (c n : ℕ) → c + scalars_of_type t ≤ n → AreBelow n names → AreBelow n (local_of text t c ∷ names)
any_below names text t c n le below other y e = by (bytes_eq text other) e (below other y)
  where
    by : (b : Bool) → (if b then Some (local_of text t c) else named other names) ≡ Some y → (named other names ≡ Some y → SeatIsBelow n (scalars_of_type y.shape) y.seat) → SeatIsBelow n (scalars_of_type y.shape) y.seat
    by true f more = let same : local_of text t c ≡ y = cc in subst (λ (z : Name). SeatIsBelow n (scalars_of_type z.shape) z.seat) same le
    by false f more = more f

pub front_below : (names : List Name) (text : List ℕ) (t : Scalar) (c n : ℕ) → c + 1 ≤ n → AreBelow n names → AreBelow n (local text t c ∷ names)
front_below names text t c n le below = any_below names text (Single t) c n le below

pub any_holds : (tokens : ℕ → List ℤ) (names : List Name) (text : List ℕ) (t shape : Shape) (changes : Bool) (c : ℕ) (cells : List ℤ) (env : Env) (v : Value) → HasKind (kind_of_type t) v → StandAt (Cell c) tokens cells (flat v)
    → Holds names tokens cells env → Holds (local_of text t c ∷ names) tokens cells (with_local (variable text shape changes v) env)
any_holds tokens names text t shape changes c cells env v kind stands holds other y e = by (bytes_eq text other) refl e (holds other y)
  where
    now : Env
    now = with_local (variable text shape changes v) env

    meant : (b : Bool) → bytes_eq text other ≡ b → find other (now.locals ++ now.globals) ≡ (if b then Some v else find other (env.locals ++ env.globals))
    meant b f = ap (λ d. if d then Some v else find other (env.locals ++ env.globals)) f

    by : (b : Bool) → bytes_eq text other ≡ b → (if b then Some (local_of text t c) else named other names) ≡ Some y → (named other names ≡ Some y → HoldsName tokens cells env other y) → HoldsName tokens cells now other y
    by true f g more =
        let same : local_of text t c ≡ y = cc in
        subst (HoldsName tokens cells now other) same (record { value = v; meant = meant true f; of_type = kind; stands = stands })
    by false f g more = let h = more g in record { value = h.value; meant = meant false f ∙ h.meant; of_type = h.of_type; stands = h.stands }

pub front_holds : (tokens : ℕ → List ℤ) (names : List Name) (text : List ℕ) (t : Scalar) (shape : Shape) (changes : Bool) (c : ℕ) (cells : List ℤ) (env : Env) (v : Value) (number : ℤ) → HasKind (kind_of_scalar t) v → flat v ≡ number ∷ [] → slice_get cells c ≡ Some number
    → Holds names tokens cells env → Holds (local text t c ∷ names) tokens cells (with_local (variable text shape changes v) env)
front_holds tokens names text t shape changes c cells env v number kind is there holds = any_holds tokens names text (Single t) shape changes c cells env v kind (stand_one c tokens cells (flat v) number is there) holds

then_then : {A B C : Type 0} (o : Out A) (f : A → ℕ → Out B) (g : B → ℕ → Out C) → and_then (and_then o f) g ≡ and_then o (λ x k. and_then (f x k) g)
then_then (Gives x k) f g = refl
then_then (Traps c) f g = refl
then_then Lacks f g = refl
then_then Clashes f g = refl

-- ---- the body

pub start_grows : {fs : List Function} {names : List Name} {t : Scalar} {c : ℕ} {start : Tree} {base n m : ℕ} {code : List Instr} → IsStart fs names t c start base n code m → n ≤ m
start_grows (at_zero base n) = omega arith
start_grows (at_value e base n m code h) = grows h

pub body_grows : {fs : List Function} {t : Scalar} {e : Tree} {names : List Name} {xs : List Local} {base n m : ℕ} {code : List Instr} → IsBody fs t e names xs base n code m → n + 1 ≤ m
body_grows (no_more_locals names base n m code h) = grows h
body_grows (one_more_local names x xs kind base n k m a b shape first rest) = let g = start_grows first in let h = body_grows rest in omega (arith, g, h)
body_grows (one_more_list names x xs base n k m a b typed first rest) = let g = first.cells in let h = body_grows rest in omega (arith, g, h)

-- the run returns with the number of a value, and has used the cells from n to m
pub record Gets (w : World) (t : Scalar) (n m : ℕ) (s : State) (back : ℕ) (frames : List ℕ) (v : Value) (left : ℕ) : Type 0 where
  pub kind : HasKind (kind_of_scalar t) v
  pub number : ℤ
  pub is : flat v ≡ number ∷ []
  pub cells : List ℤ
  pub reaches : Reaches w.code w.tokens s (state back (number ∷ s.stack) frames cells left)
  pub keeps : Keeps n m w.low w.high s.cells cells

module _ (fs : List Function) (globals : List Name) (w : World) (serves : Serves w globals fs) (back : ℕ) (frames : List ℕ) (floor ceiling : ℕ) where
  abbrev open_frames : List ℕ
  open_frames = back ∷ frames

  -- the number of a value of the type stands in cell c
  record StartsOne (t : Scalar) (c m : ℕ) (s : State) (end : ℕ) (v : Value) (left : ℕ) : Type 0 where
    cells : List ℤ
    reaches : Reaches w.code w.tokens s (state end s.stack s.frames cells left)
    keeps : Keeps c m w.low w.high s.cells cells
    kind : HasKind (kind_of_scalar t) v
    number : ℤ
    is : flat v ≡ number ∷ []
    there : slice_get cells c ≡ Some number

  old_at : (cells : List ℤ) (c : ℕ) → c < length cells → slice_get cells c ≡ Some (slice_index_or cells c (pos 0))
  old_at cells c less = slice_get-get_or cells c (pos 0) less

  one_written : (cells : List ℤ) (c m : ℕ) (z : ℤ) → c + 1 ≤ m → Keeps c m w.low w.high cells (slice_set cells c z)
  one_written cells c m z le =
      let e : c + 0 ≡ c = omega arith in
      let wrote : Written c 1 cells (slice_set cells c z) = subst (λ d. Written c 1 cells (slice_set cells d z)) e (set_written cells c 1 0 z (omega arith)) in
      written_keeps c 1 c m w.low w.high cells (slice_set cells c z) (omega arith) le wrote

  -- a number goes from the stack to a cell
  stores_one : (t : Option Scalar) (c place : ℕ) (stack cells : List ℤ) (left : ℕ) (z : ℤ) → c < length cells → slice_get w.code.instrs place ≡ Some (op.Store c t)
      → Reaches w.code w.tokens (state place (z ∷ stack) open_frames cells left) (state (place + 1) stack open_frames (slice_set cells c (in_type t z)) left)
  stores_one t c place stack cells left z less at =
      let s : State = state place (z ∷ stack) open_frames cells left in
      after {t = state (place + 1) stack open_frames (slice_set cells c (in_type t z)) left} (obeys w.code w.tokens s (op.Store c t) at ∙ ap (go_on s) (store_leaves c t w.tokens stack cells z (slice_index_or cells c (pos 0)) (old_at cells c less))) here

  starts : (names : List Name) (env : Env) (t : Scalar) (c base m : ℕ) (start : Option Tree) (a : List Instr) (stack cells : List ℤ) (left : ℕ) → IsSize t
      → IsStart fs names t c (optional start) base (c + 1) a m → StandsAt w.code.instrs base a
      → Below fs globals names w env open_frames floor ceiling c → Apart fs globals names w env open_frames floor ceiling → Held fs globals names w env open_frames floor ceiling cells → m ≤ length cells → m ≤ ceiling
      → Follows (first_value (Single t) start w.calls env left) (StartsOne t c m (state base stack open_frames cells left) (base + length a)) (CutsOff w c m (state base stack open_frames cells left))
  starts names env t c base m None _ stack cells left size (at_zero _ _) stands below apart holds room top =
      let s : State = state base stack open_frames cells left in
      let u : State = state (base + 1) (pos 0 ∷ stack) open_frames cells left in
      let made = zero_kind t in
      let end : base + 1 + 1 ≡ base + 2 = omega arith in
      record {
        cells = slice_set cells c (pos 0);
        reaches = subst (λ p. Reaches w.code w.tokens s (state p stack open_frames (slice_set cells c (pos 0)) left)) end
            (after (obeys w.code w.tokens s (op.Const (pos 0)) stands.0) (stores_one None c (base + 1) stack cells left (pos 0) (omega (arith, room)) stands.1.0));
        keeps = one_written cells c (c + 1) (pos 0) (omega arith);
        kind = made.0;
        number = pos 0;
        is = made.1;
        there = set_there cells c (slice_index_or cells c (pos 0)) (pos 0) (old_at cells c (omega (arith, room)));
      }
  starts names env t c base m (Some e) _ stack cells left size (at_value _ _ _ _ code coded) stands below apart holds room top =
      let s : State = state base stack open_frames cells left in
      let i : List Instr = op.Store c (Some t) ∷ [] in
      let up : c + 1 ≤ m = grows coded in
      let long : length (code ++ i) ≡ length code + 1 = length-append code i in
      follows_then (eval e w.calls env left) (λ v j. Gives (stored (Single t) v) j)
      (λ v j. Pushes w (c + 1) m s (base + length code) v j × IsSingleValue v) (λ d. CutsOff w (c + 1) m s d × Unit {0})
      (StartsOne t c m s (base + length (code ++ i))) (CutsOff w c m s)
      (follows_both (eval e w.calls env left) (Pushes w (c + 1) m s (base + length code)) (CutsOff w (c + 1) m s) (λ v j. IsSingleValue v) (λ d. Unit {0})
      (does_in fs globals names w serves env open_frames floor ceiling coded top stack cells left (stands_left w.code.instrs base code i stands) (below_on fs globals names w env open_frames floor ceiling c (c + 1) (omega arith) below) apart holds)
      (singles_in fs globals names w serves env floor ceiling cells (kinds_in fs globals w serves env.globals c cells below.1 apart.1 holds.1 holds.2) apart holds coded top left (stands_left w.code.instrs base code i stands) (below_on fs globals names w env open_frames floor ceiling c (c + 1) (omega arith) below)))
      (λ v j both.
      let p : Pushes w (c + 1) m s (base + length code) v j = both.0 in
      let made = single_stored t v p.number size both.1 p.is in
      let same = p.keeps.size in
      let end : base + length code + 1 ≡ base + length (code ++ i) = omega (arith, long) in
      record {
        cells = slice_set p.cells c (conv t p.number);
        reaches = subst (λ q. Reaches w.code w.tokens s (state q stack open_frames (slice_set p.cells c (conv t p.number)) j)) end
            (reaches_join p.reaches (stores_one (Some t) c (base + length code) stack p.cells j p.number (omega (arith, up, room, same)) (stands_right w.code.instrs base code i stands).0));
        keeps = keeps_join (keeps_wider c m (omega arith) (omega arith) p.keeps) (one_written p.cells c m (conv t p.number) up);
        kind = made.0;
        number = conv t p.number;
        is = made.1;
        there = set_there p.cells c (slice_index_or p.cells c (pos 0)) (conv t p.number) (old_at p.cells c (omega (arith, up, room, same)));
      })
      (λ d q. record { cells = q.0.cells; ends = q.0.ends; keeps = keeps_wider c m (omega arith) (omega arith) q.0.keeps })

  -- the value of the body, stored in the type of the result
  abbrev pub ends_body : Tree → Scalar → List Local → Env → ℕ → Out Value
  ends_body e t xs env left = and_then (declared xs w.calls env left) (λ now m. and_then (eval e w.calls now m) (λ v k. Gives (stored (Single t) v) k))

  returns_value : (names : List Name) (env : Env) (t : Scalar) (e : Tree) (base n m : ℕ) (code : List Instr) (stack cells : List ℤ) (left : ℕ) → IsSize t
      → IsCode fs names e base (n + 1) code m → StandsAt w.code.instrs base (code ++ return_code n t)
      → Below fs globals names w env open_frames floor ceiling n → Apart fs globals names w env open_frames floor ceiling → Held fs globals names w env open_frames floor ceiling cells → m ≤ length cells → m ≤ ceiling
      → Follows (and_then (eval e w.calls env left) (λ v k. Gives (stored (Single t) v) k)) (Gets w t n m (state base stack open_frames cells left) back frames) (CutsOff w n m (state base stack open_frames cells left))
  returns_value names env t e base n m code stack cells left size coded stands below apart holds room top =
      let s : State = state base stack open_frames cells left in
      let up : n + 1 ≤ m = grows coded in
      let tail = stands_right w.code.instrs base code (return_code n t) stands in
      follows_then (eval e w.calls env left) (λ v j. Gives (stored (Single t) v) j)
      (λ v j. Pushes w (n + 1) m s (base + length code) v j × IsSingleValue v) (λ d. CutsOff w (n + 1) m s d × Unit {0})
      (Gets w t n m s back frames) (CutsOff w n m s)
      (follows_both (eval e w.calls env left) (Pushes w (n + 1) m s (base + length code)) (CutsOff w (n + 1) m s) (λ v j. IsSingleValue v) (λ d. Unit {0})
      (does_in fs globals names w serves env open_frames floor ceiling coded top stack cells left (stands_left w.code.instrs base code (return_code n t) stands) (below_on fs globals names w env open_frames floor ceiling n (n + 1) (omega arith) below) apart holds)
      (singles_in fs globals names w serves env floor ceiling cells (kinds_in fs globals w serves env.globals n cells below.1 apart.1 holds.1 holds.2) apart holds coded top left (stands_left w.code.instrs base code (return_code n t) stands) (below_on fs globals names w env open_frames floor ceiling n (n + 1) (omega arith) below)))
      (λ v j both.
      let p : Pushes w (n + 1) m s (base + length code) v j = both.0 in
      let z : ℤ = conv t p.number in
      let made = single_stored t v p.number size both.1 p.is in
      let same = p.keeps.size in
      let less : n < length p.cells = omega (arith, up, room, same) in
      let new : List ℤ = slice_set p.cells n z in
      let place : ℕ = base + length code in
      let there : slice_get new n ≡ Some z = set_there p.cells n (slice_index_or p.cells n (pos 0)) z (old_at p.cells n less) in
      let u : State = state (place + 1) stack open_frames new j in
      let r : State = state (place + 1 + 1) (z ∷ stack) open_frames new j in
      record {
        kind = made.0;
        number = z;
        is = made.1;
        cells = new;
        reaches = reaches_join p.reaches (reaches_join (stores_one (Some t) n place stack p.cells j p.number less tail.0)
            (after {t = r} (obeys w.code w.tokens u (op.Load n) tail.1.0 ∙ ap (go_on u) (load_leaves n w.tokens stack new z there))
            (after {t = state back (z ∷ stack) frames new j} (obeys w.code w.tokens r op.Return tail.1.1.0) here)));
        keeps = keeps_join (keeps_wider n m (omega arith) (omega arith) p.keeps) (one_written p.cells n m z up);
      })
      (λ d q. record { cells = q.0.cells; ends = q.0.ends; keeps = keeps_wider n m (omega arith) (omega arith) q.0.keeps })

  -- what comes behind a start that was run
  behind : (t : Scalar) (e : Tree) (xs : List Local) (now : Env) (n k m base place : ℕ) (stack cells later : List ℤ) (left j : ℕ) → n ≤ k → k ≤ m
      → Reaches w.code w.tokens (state base stack open_frames cells left) (state place stack open_frames later j) → Keeps n k w.low w.high cells later
      → Follows (ends_body e t xs now j) (Gets w t k m (state place stack open_frames later j) back frames) (CutsOff w k m (state place stack open_frames later j))
      → Follows (ends_body e t xs now j) (Gets w t n m (state base stack open_frames cells left) back frames) (CutsOff w n m (state base stack open_frames cells left))
  behind t e xs now n k m base place stack cells later left j le ge reaches keeps done =
      let s : State = state base stack open_frames cells left in
      let u : State = state place stack open_frames later j in
      follows_more (ends_body e t xs now j) (Gets w t k m u back frames) (CutsOff w k m u) (Gets w t n m s back frames) (CutsOff w n m s) done
      (λ r i q. record {
        kind = q.kind;
        number = q.number;
        is = q.is;
        cells = q.cells;
        reaches = reaches_join reaches q.reaches;
        keeps = keeps_join (keeps_wider n m (omega arith) ge keeps) (keeps_wider n m le (omega arith) q.keeps);
      })
      (λ d q. cut_after w n k m s u d le ge reaches keeps q)

  pub body_returns : (t : Scalar) (e : Tree) {names : List Name} {xs : List Local} {base n m : ℕ} {code : List Instr} (env : Env) (stack cells : List ℤ) (left : ℕ) → IsSize t → LocalsSized xs
      → IsBody fs t e names xs base n code m → StandsAt w.code.instrs base code → AreApart n m w.low w.high
      → Below fs globals names w env open_frames floor ceiling n → Apart fs globals names w env open_frames floor ceiling → Held fs globals names w env open_frames floor ceiling cells → m ≤ length cells → m ≤ ceiling
      → Follows (ends_body e t xs env left) (Gets w t n m (state base stack open_frames cells left) back frames) (CutsOff w n m (state base stack open_frames cells left))
  body_returns t e env stack cells left size sizes (no_more_locals names base n m code coded) stands far below apart holds room top =
      returns_value names env t e base n m code stack cells left size coded stands below apart holds room top
  body_returns t e env stack cells left size sizes (one_more_local names x xs kind base n k m a b shape first rest) stands far below apart holds room top =
      subst (λ (h : Shape). Follows (and_then (and_then (first_value h x.start w.calls env left) (λ v j. declared xs w.calls (with_local (variable x.name h x.changes v) env) j)) (λ now i. and_then (eval e w.calls now i) (λ v q. Gives (stored (Single t) v) q))) (Gets w t n m s back frames) (CutsOff w n m s)) (sym shape)
      (subst (λ (o : Out Value). Follows o (Gets w t n m s back frames) (CutsOff w n m s)) (sym (then_then (first_value (Single kind) x.start w.calls env left) (λ v j. declared xs w.calls (with_local (variable x.name (Single kind) x.changes v) env) j) (λ now i. and_then (eval e w.calls now i) (λ v q. Gives (stored (Single t) v) q))))
      (follows_then (first_value (Single kind) x.start w.calls env left) (λ v j. ends_body e t xs (with_local (variable x.name (Single kind) x.changes v) env) j) (StartsOne kind n k s (base + length a)) (CutsOff w n k s) (Gets w t n m s back frames) (CutsOff w n m s)
      (starts names env kind n base k x.start a stack cells left (sizes.0 kind shape) first (stands_left w.code.instrs base a b stands) below apart holds (omega (arith, room, more)) (omega (arith, top, more)))
      (λ v j p.
      let held = still fs globals names w env open_frames floor ceiling p.keeps below apart holds in
      let wide = below_on fs globals names w env open_frames floor ceiling n k (omega (arith, up)) below in
      let size_same = p.keeps.size in
      behind t e xs (with_local (variable x.name (Single kind) x.changes v) env) n k m base (base + length a) stack cells p.cells left j (omega (arith, up)) (omega (arith, more)) p.reaches p.keeps
      (body_returns t e (with_local (variable x.name (Single kind) x.changes v) env) stack p.cells j size sizes.1 rest (stands_right w.code.instrs base a b stands)
      (⊎_elim (λ (g : m ≤ w.low). inl g) (λ (g : w.high ≤ n). inr (omega (arith, g, up))) far)
      (front_below names x.name kind n k up wide.0, wide.1, wide.2)
      (front_apart w.low w.high names x.name kind n (part_apart n 1 m w.low w.high (omega (arith, up, more)) far) apart.0, apart.1, apart.2)
      (front_holds w.tokens names x.name kind (Single kind) x.changes n p.cells env v p.number p.kind p.is p.there held.0, held.1, held.2, held.3)
      (omega (arith, room, size_same)) top))
      (λ d q. cut_wider w n k m s d (omega (arith, more)) q)))
    where
      s : State
      s = state base stack open_frames cells left

      up : n + 1 ≤ k
      up = start_grows first

      more : k + 1 ≤ m
      more = body_grows rest
  body_returns t e env stack cells left size sizes (one_more_list names x xs base n k m a b typed first rest) stands far below apart holds room top =
      subst (λ (o : Out Value). Follows o (Gets w t n m s back frames) (CutsOff w n m s)) (sym (then_then (first_value x.shape x.start w.calls env left) (λ v j. declared xs w.calls (with_local (variable x.name x.shape x.changes v) env) j) (λ now i. and_then (eval e w.calls now i) (λ v q. Gives (stored (Single t) v) q))))
      (follows_then (first_value x.shape x.start w.calls env left) (λ v j. ends_body e t xs (with_local (variable x.name x.shape x.changes v) env) j) (Starts w x.shape n k s (base + length a)) (CutsOff w n k s) (Gets w t n m s back frames) (CutsOff w n m s)
      (first.starts below.0 w globals env stack open_frames cells left (stands_left w.code.instrs base a b stands) serves (prepared fs globals names w env open_frames floor ceiling n cells below apart holds)
      (⊎_elim (λ (g : m ≤ w.low). inl (omega (arith, g, more))) (λ (g : w.high ≤ n). inr g) far) (omega (arith, room, more)))
      (λ v j p.
      let held = still fs globals names w env open_frames floor ceiling p.keeps below apart holds in
      let wide = below_on fs globals names w env open_frames floor ceiling n k (omega (arith, up)) below in
      let size_same = p.keeps.size in
      behind t e xs (with_local (variable x.name x.shape x.changes v) env) n k m base (base + length a) stack cells p.cells left j (omega (arith, up)) (omega (arith, more)) p.reaches p.keeps
      (body_returns t e (with_local (variable x.name x.shape x.changes v) env) stack p.cells j size sizes.1 rest (stands_right w.code.instrs base a b stands)
      (⊎_elim (λ (g : m ≤ w.low). inl g) (λ (g : w.high ≤ n). inr (omega (arith, g, up))) far)
      (any_below names x.name x.shape n k up wide.0, wide.1, wide.2)
      (any_apart w.low w.high names x.name x.shape n (part_apart n (scalars_of_type x.shape) m w.low w.high (omega (arith, up, more)) far) apart.0, apart.1, apart.2)
      (any_holds w.tokens names x.name x.shape x.shape x.changes n p.cells env v p.kind p.stands held.0, held.1, held.2, held.3)
      (omega (arith, room, size_same)) top))
      (λ d q. cut_wider w n k m s d (omega (arith, more)) q))
    where
      s : State
      s = state base stack open_frames cells left

      up : n + scalars_of_type x.shape ≤ k
      up = first.cells

      more : k + 1 ≤ m
      more = body_grows rest
