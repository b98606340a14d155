-- Statements inside which there is a local more.
use Rattle.std.proofs.Common.{◌≡◌, ℕ, suc, ◌+◌, ◌-◌, ◌<◌, ◌≤◌, inl, inr, ⊎_elim, ℤ, List, [], ◌∷◌, ◌++◌, length, drop, Bool, true, false, refl, sym, ap, ◌∙◌, subst, None, Some, arith}
use Rattle.std.specs.Prelude.{slice_get, if◌then◌else◌}
use Rattle.std.specs.Str.{bytes_eq}
use Rattle.rvc_base.specs.declared.scalar.Scalar.{Scalar}
use Rattle.cal_model.specs.Value.{Shape, Single, Value, HasKind, kind_of_scalar, kind_of_type, scalars_of_type}
use Rattle.cal_model.specs.Outcome.{Out, Gives}
use Rattle.cal_model.specs.Env.{Var, Env, variable, with_local, back_to}
use Rattle.cal_model.specs.Statement.{inside}
use Rattle.code_ir.specs.Running.{State}
use Rattle.lower_base.specs.Flat.{flat}
use Rattle.lower_base.specs.Names.{Name, named, local}
use Rattle.lower_base.specs.declared.names.Seat.TheVariants.{Cell}
use Rattle.lower_base.specs.Held.{SeatIsApart, StandAt}
use Rattle.lower_base.specs.Placed.{World}
use Rattle.lower_base.specs.Following.{Follows}
use Rattle.lower_base.proofs.Runs.{follows_then}
use Rattle.lower_stmt.proofs.Scoping.{AreLaid, HoldsInside, choose_name}
use Rattle.lower_base.proofs.Written.{stand_one}
use Rattle.lower_stmt.proofs.Performing.{Moves}
use Rattle.lower_stmt.specs.Procedures.{Routines}
use Rattle.lower_base.specs.Calling.{Serves}
use Rattle.lower_stmt.specs.Bodies.{CutShort, KeepsOver}
use Rattle.lower_stmt.specs.ListStarting.{local_of}

-- of the cells of a local, and of what is outside it
pub but_any : {outer : List Name} (names : List Name) (text : List ℕ) (t : Shape) (c n h m low high : ℕ) (before now : List ℤ) → n ≤ c → c + scalars_of_type t ≤ m → n ≤ h → KeepsOver (local_of text t c ∷ names) outer h m low high before now → KeepsOver names outer n m low high before now
but_any names text t c n h m low high before now le ge wide keeps = record {
  size = keeps.size;
  cell = λ d free apart none far.
      keeps.cell d (⊎_elim (λ (a : d < n). inl (omega (arith, a, wide))) (λ (a : m ≤ d). inr a) free) apart (λ other y e.
      ⊎_elim (λ (f : (bytes_eq text other ≡ true) × (local_of text t c ≡ y)). subst (λ (z : Name). SeatIsApart d (d + 1) (scalars_of_type z.shape) z.seat) f.1
      (⊎_elim (λ (a : d < n). inr (omega (arith, a, le))) (λ (a : m ≤ d). inl (omega (arith, a, ge))) free))
      (λ (f : (bytes_eq text other ≡ false) × (named other names ≡ Some y)). none other y f.1)
      (choose_name (bytes_eq text other) (local_of text t c) (named other names) y e)) far;
}

-- .. of a single value
pub but_local : {outer : List Name} (names : List Name) (text : List ℕ) (t : Scalar) (c n h m low high : ℕ) (before now : List ℤ) → n ≤ c → c + 1 ≤ m → n ≤ h → KeepsOver (local text t c ∷ names) outer h m low high before now → KeepsOver names outer n m low high before now
but_local names text t c n h m low high before now le ge wide keeps = but_any names text (Single t) c n h m low high before now le ge wide keeps

-- the locals of an environment without the innermost
drop_one : (v : Var) (rest now : Env) → length (with_local v rest).locals ≡ suc (length now.locals) → back_to now (with_local v rest) ≡ rest
drop_one v rest now e =
    let count : suc (length rest.locals) - length now.locals ≡ 1 = omega (arith, e) in
    ap (λ k. record (with_local v rest) { locals = drop k (v ∷ rest.locals) }) count

module _ (rs : Routines) (outer : List Name) (w : World) (serves : Serves w outer rs.functions) (frames : List ℕ) where
  abbrev Inside : List Name → List ℤ → Env → Type 0
  Inside inner cells env = HoldsInside rs outer w.tokens w.low w.high inner cells env

  abbrev Laid : ℕ → List Name → Type 0
  Laid n inner = AreLaid rs outer w.tokens w.low w.high n inner

  -- a local in its cells
  pub any_held : (inner : List Name) (text : List ℕ) (t : Shape) (c : ℕ) (cells : List ℤ) (env : Env) (changes : Bool) (v : Value) → HasKind (kind_of_type t) v → StandAt (Cell c) w.tokens cells (flat v) → Inside inner cells env
      → Inside (local_of text t c ∷ inner) cells (with_local (variable text t changes v) env)
  any_held inner text t c cells env changes v kind stands holds =
      (variable text t changes v, env, refl, record { called = refl; stored = λ s e. kept_type changes s e; of_type = kind; stands = stands }, holds)
    where
      kept_type : (b : Bool) (s : Shape) → (if b then Some t else None) ≡ Some s → s ≡ t
      kept_type true s e = cc
      kept_type false s e = cc

  -- a local in its cell
  pub local_held : (inner : List Name) (text : List ℕ) (t : Scalar) (c : ℕ) (cells : List ℤ) (env : Env) (changes : Bool) (v : Value) (z : ℤ) → HasKind (kind_of_scalar t) v → flat v ≡ z ∷ [] → slice_get cells c ≡ Some z → Inside inner cells env
      → Inside (local text t c ∷ inner) cells (with_local (variable text (Single t) changes v) env)
  local_held inner text t c cells env changes v z kind is there holds = (
    variable text (Single t) changes v,
    env,
    refl,
    record {
      called = refl;
      stored = λ s e. kept_type changes s e;
      of_type = kind;
      stands = stand_one c w.tokens cells (flat v) z is there;
    },
    holds,
  )
    where
      kept_type : (b : Bool) (s : Shape) → (if b then Some (Single t) else None) ≡ Some s → s ≡ Single t
      kept_type true s e = cc
      kept_type false s e = cc

  -- back outside
  pub any_popped : (inner : List Name) (text : List ℕ) (t : Shape) (c : ℕ) (cells : List ℤ) (next now : Env) → Inside (local_of text t c ∷ inner) cells next → length next.locals ≡ suc (length now.locals)
      → Inside inner cells (back_to now next) × (length (back_to now next).locals ≡ length now.locals)
  any_popped inner text t c cells next now (v, rest, is, var, below) e =
      let count : length (with_local v rest).locals ≡ suc (length now.locals) = ap (λ (x : Env). length x.locals) (sym is) ∙ e in
      let back : back_to now next ≡ rest = ap (λ x. back_to now x) is ∙ drop_one v rest now count in
      (subst (λ x. Inside inner cells x) (sym back) below, ap (λ (x : Env). length x.locals) back ∙ omega (arith, count))

  pub popped : (inner : List Name) (text : List ℕ) (t : Scalar) (c : ℕ) (cells : List ℤ) (next now : Env) → Inside (local text t c ∷ inner) cells next → length next.locals ≡ suc (length now.locals)
      → Inside inner cells (back_to now next) × (length (back_to now next).locals ≡ length now.locals)
  popped inner text t c cells next now h e = any_popped inner text (Single t) c cells next now h e

  -- a part inside a local, and back
  pub inside_any : (inner : List Name) (text : List ℕ) (t : Shape) (M : Env → ℕ → Out Env) (now : Env) (v : Var) (c n h m end : ℕ) (s : State) (left : ℕ) → n ≤ c → c + scalars_of_type t ≤ m → n ≤ h
      → Follows (M (with_local v now) left) (Moves rs outer w serves frames (local_of text t c ∷ inner) h m s end (suc (length now.locals))) (CutShort w (local_of text t c ∷ (inner ++ outer)) outer h m s)
      → Follows (inside now (with_local v now) M left) (Moves rs outer w serves frames inner n m s end (length now.locals)) (CutShort w (inner ++ outer) outer n m s)
  inside_any inner text t M now v c n h m end s left le ge wide follows =
      follows_then (M (with_local v now) left) (λ next k. Gives (back_to now next) k)
      (Moves rs outer w serves frames (local_of text t c ∷ inner) h m s end (suc (length now.locals))) (CutShort w (local_of text t c ∷ (inner ++ outer)) outer h m s) (Moves rs outer w serves frames inner n m s end (length now.locals)) (CutShort w (inner ++ outer) outer n m s) follows
      (λ next k p.
      let back = any_popped inner text t c p.cells next now p.holds p.as_many in
      record {
        cells = p.cells;
        reaches = p.reaches;
        keeps = but_any (inner ++ outer) text t c n h m w.low w.high s.cells p.cells le ge wide p.keeps;
        holds = back.0;
        as_many = back.1;
      })
      (λ d b. record { cells = b.cells; ends = b.ends; keeps = but_any (inner ++ outer) text t c n h m w.low w.high s.cells b.cells le ge wide b.keeps })

  pub inside_moves : (inner : List Name) (text : List ℕ) (t : Scalar) (M : Env → ℕ → Out Env) (now : Env) (v : Var) (c n h m end : ℕ) (s : State) (left : ℕ) → n ≤ c → c + 1 ≤ m → n ≤ h
      → Follows (M (with_local v now) left) (Moves rs outer w serves frames (local text t c ∷ inner) h m s end (suc (length now.locals))) (CutShort w (local text t c ∷ (inner ++ outer)) outer h m s)
      → Follows (inside now (with_local v now) M left) (Moves rs outer w serves frames inner n m s end (length now.locals)) (CutShort w (inner ++ outer) outer n m s)
  inside_moves inner text t M now v c n h m end s left le ge wide follows = inside_any inner text (Single t) M now v c n h m end s left le ge wide follows
