-- What the guards, the firings and the routines of an actor may write and read.
use Rattle.std.proofs.Common.{◌≡◌, ℕ, zero, suc, ◌+◌, ◌*◌, ◌<◌, ◌≤◌, ◌⊎◌, inl, inr, Bool, true, false, List, [], ◌∷◌, ◌++◌, length, map, refl, sym, ap, subst, ◌∙◌, Option, None, Some, arith, append-nil}
use Rattle.std.specs.Prelude.{◌==◌, ◌&&◌, ◌||◌, if◌then◌else◌, nat_le, nat_lt, slice_get}
use Rattle.std.specs.List.{range_with_len}
use Rattle.std.specs.Str.{bytes_eq}
use Rattle.std.proofs.lemmas.Bool.{cases_lt}
use Rattle.std.proofs.lemmas.Bool.Decides.{nat_tests}
use Rattle.std.proofs.lemmas.List.FromFn.{get_or-map-range_with_len}
use Rattle.std.proofs.lemmas.Option.{slice_get_within}
use Rattle.rvc_base.specs.declared.scalar.Scalar.{Scalar}
use Rattle.cal_model.specs.Actor.{Action, Actor, Held, Pattern}
use Rattle.cal_model.specs.Rates.{need, taken_on}
use Rattle.cal_model.specs.Sound.{Each, IsAction, IsPattern, IsSound, names_of, with_patterns}
use Rattle.cal_model.specs.Value.{scalars_of_type}
use Rattle.cal_model.proofs.KeptByFirings.{action-at}
use Rattle.code_ir.specs.declared.instr.Instr.{Instr}
use Rattle.code_ir.specs.declared.instr.Instr.TheVariants as op
use Rattle.code_ir.specs.Code.{Code}
use Rattle.lower_base.specs.declared.draft.Draft.{Draft}
use Rattle.lower_base.specs.Allowing.{Allowed, Allows, AreRead, IsAllowed}
use Rattle.lower_base.specs.Callees.{Function, function_named}
use Rattle.lower_base.specs.Calling.{HasRoutines}
use Rattle.lower_base.specs.Fitting.{IsInner}
use Rattle.lower_stmt.specs.AllowingRuns.{AllowsRuns, ChangesAreWritten}
use Rattle.lower_stmt.specs.Proceeding.{AreProcRoutines}
use Rattle.lower_stmt.specs.Procedures.{Routines}
use Rattle.lowered_actor.specs.declared.parts.StateCell.{StateCell}
use Rattle.lowered_actor.specs.Actor as coded
use Rattle.lowered_actor.specs.Straight.{is_saved}
use Rattle.lower_scratch.specs.declared.body.Last.{Last}
use Rattle.lower_scratch.specs.Fitting.{MayStand}
use Rattle.action_lower.specs.FiringCode.{globals_of}
use Rattle.action_lower.specs.Seats.{seen_seats, state_cells}
use Rattle.action_lower.proofs.AllowedNames.{PortIsRead, VarsAreWritten, globals-change, seen-change, seen-read, vars-read}
use Rattle.lower_tables.specs.Tables.{cells_of_var, needs_of, saved_from, scalar_of, typed_cell}
use Rattle.lower_actor.specs.ClearedBodies.{IsAllowedAt, bounds_at, bounds_of, callable_in}
use Rattle.lower_actor.specs.Coded.{IsCodeOf, IsMore}
use Rattle.lower_actor.specs.Drafted.{AreFirst, AreNext, GoesOn, IsServed}
use Rattle.lower_actor.proofs.AllowedRoutines.{FunctionsAllowed, ProceduresAllowed, only-functions, procedures-allowed}
use Rattle.lower_actor.proofs.Extending.{goes-more}
use Rattle.lower_actor.proofs.Placed.{there}

-- ---- one instruction

below-token : (k n : ℕ) → nat_lt k n ≡ true → k < n
below-token k n e = grind (arith, nat_tests, e)

-- what is allowed may stand in a body
pub may-stand : (l : coded.Actor) (firing : Bool) (needs : List ℕ) (ends : Last) (i : Instr) → IsInner i → IsAllowed (bounds_at l.kept l.saved needs firing) i → MayStand l firing needs ends i
may-stand l firing needs ends (op.Const v) inner h = tt
may-stand l firing needs ends (op.Load c) inner h = tt
may-stand l firing needs ends (op.Store c t) inner h = h
may-stand l firing needs ends (op.Index n m) inner h = tt
may-stand l firing needs ends (op.LoadAt c n) inner h = tt
may-stand l firing needs ends (op.StoreAt c n t) inner h = h
may-stand l firing needs ends (op.Copy to from n t) inner h = h
may-stand l firing needs ends (op.CopyTo to n from m t) inner h = h
may-stand l firing needs ends (op.CopyFrom to from n m) inner h = h
may-stand l firing needs ends (op.Token p k) inner h = below-token k (coded.number_on needs p) h
may-stand l firing needs ends (op.TokenAt p k m n) inner h = λ j less. below-token (k + j * m) (coded.number_on needs p) (h j less)
may-stand l firing needs ends (op.TokenList to p k m n) inner h = (h.0, λ j less. below-token (k + j * m) (coded.number_on needs p) (h.1 j less))
may-stand l firing needs ends (op.Zero c n) inner h = h
may-stand l firing needs ends op.Neg inner h = tt
may-stand l firing needs ends op.BitNot inner h = tt
may-stand l firing needs ends op.Not inner h = tt
may-stand l firing needs ends op.Add inner h = tt
may-stand l firing needs ends op.Sub inner h = tt
may-stand l firing needs ends op.Mul inner h = tt
may-stand l firing needs ends op.Div inner h = tt
may-stand l firing needs ends op.Mod inner h = tt
may-stand l firing needs ends op.Shl inner h = tt
may-stand l firing needs ends op.Shr inner h = tt
may-stand l firing needs ends op.And inner h = tt
may-stand l firing needs ends op.Or inner h = tt
may-stand l firing needs ends op.Xor inner h = tt
may-stand l firing needs ends op.Eq inner h = tt
may-stand l firing needs ends op.Ne inner h = tt
may-stand l firing needs ends op.Lt inner h = tt
may-stand l firing needs ends op.Le inner h = tt
may-stand l firing needs ends op.Gt inner h = tt
may-stand l firing needs ends op.Ge inner h = tt
may-stand l firing needs ends (op.Jump t) inner h = tt
may-stand l firing needs ends (op.JumpIfNot t) inner h = tt
may-stand l firing needs ends op.Turn inner h = tt
may-stand l firing needs ends (op.Call r) inner h = tt
may-stand l firing needs ends op.Drop inner h = tt
may-stand l firing needs ends op.Return inner h = absurd inner
may-stand l firing needs ends op.Answer inner h = absurd inner
may-stand l firing needs ends op.Done inner h = absurd inner

-- ---- cells

-- cells behind the state cells may be written
pub own-cells : (kept : ℕ) (saved : List StateCell) (needs : List ℕ) (firing : Bool) (c : ℕ) → kept ≤ c → (bounds_at kept saved needs firing).cells c ≡ true
own-cells kept saved needs firing c le = let e : nat_le kept c ≡ true = grind (arith, nat_tests, le) in ap (λ b. b || (firing && is_saved saved c)) e

or-true : (b : Bool) → (b || true) ≡ true
or-true true = refl
or-true false = refl

saved-left : (xs ys : List StateCell) (d : ℕ) → is_saved xs d ≡ true → is_saved (xs ++ ys) d ≡ true
saved-left [] ys d e = cc
saved-left (x ∷ xs) ys d e = by (x.cell == d) e (saved-left xs ys d)
  where
    by : (b : Bool) → (b || is_saved xs d) ≡ true → (is_saved xs d ≡ true → is_saved (xs ++ ys) d ≡ true) → (b || is_saved (xs ++ ys) d) ≡ true
    by true f more = refl
    by false f more = more f

saved-right : (xs ys : List StateCell) (d : ℕ) → is_saved ys d ≡ true → is_saved (xs ++ ys) d ≡ true
saved-right [] ys d e = e
saved-right (x ∷ xs) ys d e = ap (λ b. (x.cell == d) || b) (saved-right xs ys d e) ∙ or-true (x.cell == d)

saved-range : (t : Scalar) (c n d : ℕ) → c ≤ d → d < c + n → is_saved (map (typed_cell t) (range_with_len c n)) d ≡ true
saved-range t c zero d from to = absurd (omega (arith, from, to))
saved-range t c (suc n) d from to = by (λ less. saved-range t (c + 1) n d (omega (arith, less)) (omega (arith, to))) (cases_lt c d)
  where
    by : (c < d → is_saved (map (typed_cell t) (range_with_len (c + 1) n)) d ≡ true) → (c < d) ⊎ (d ≤ c) → ((c == d) || is_saved (map (typed_cell t) (range_with_len (c + 1) n)) d) ≡ true
    by more (inl less) = ap (λ b. (c == d) || b) (more less) ∙ or-true (c == d)
    by more (inr le) = let same : c ≡ d = omega (arith, from, le) in let e : (c == d) ≡ true = grind (arith, nat_tests, same) in ap (λ b. b || is_saved (map (typed_cell t) (range_with_len (c + 1) n)) d) e

-- the cells of variables that change are saved
vars-written : (a : Allowed) (c : ℕ) (hs : List Held) → ((d : ℕ) → is_saved (saved_from c hs) d ≡ true → a.cells d ≡ true) → VarsAreWritten a c hs
vars-written a c [] saved = tt
vars-written a c (x ∷ xs) saved = (
  λ changes d from to.
      let first : is_saved (if x.changes then cells_of_var c x else []) d ≡ true =
      ap (λ b. is_saved (if b then cells_of_var c x else []) d) changes ∙ saved-range (scalar_of x.shape) c (scalars_of_type x.shape) d from to in
      saved d (saved-left (if x.changes then cells_of_var c x else []) (saved_from (c + scalars_of_type x.shape) xs) d first),
  vars-written a (c + scalars_of_type x.shape) xs (λ d e. saved d (saved-right (if x.changes then cells_of_var c x else []) (saved_from (c + scalars_of_type x.shape) xs) d e)),
)

-- ---- routines

named-at : (text : List ℕ) (fs : List Function) (f : Function) → function_named text fs ≡ Some f → (k : ℕ) × (slice_get fs k ≡ Some f)
named-at text [] f e = cc
named-at text (g ∷ fs) f e = by (bytes_eq g.text text) e (named-at text fs f)
  where
    by : (b : Bool) → (if b then Some g else function_named text fs) ≡ Some f → (function_named text fs ≡ Some f → (k : ℕ) × (slice_get fs k ≡ Some f)) → (k : ℕ) × (slice_get (g ∷ fs) k ≡ Some f)
    by true h more = (0, h)
    by false h more = let one = more h in (suc one.0, one.1)

-- the routines of functions are the first ones
pub first-ones : (whole : Code) (callable n : ℕ) (fs : List Function) → AreFirst fs → HasRoutines whole callable n fs → HasRoutines whole (length fs) n fs
first-ones whole callable n fs first has text f e =
    let at = named-at text fs f e in
    let is = first at.0 f at.1 in
    let within = slice_get_within fs at.0 f at.1 in
    let one = has text f e in
    (omega (arith, is, within), one.1, one.2)

pub functions-wider : (whole : Code) (callable n m : ℕ) (fs : List Function) → n ≤ m → HasRoutines whole callable n fs → HasRoutines whole callable m fs
functions-wider whole callable n m fs le has text f e =
    let one = has text f e in
    (one.0, one.1, record { first = one.2.first; row = one.2.row; low_end = one.2.low_end; high_end = (let h = one.2.high_end in omega (arith, h, le)); sizes = one.2.sizes })

-- what is between two numbers
gap : (a b : ℕ) → a ≤ b → (k : ℕ) × (a + k ≡ b)
gap zero b h = (b, omega arith)
gap (suc a) zero h = absurd (omega (arith, h))
gap (suc a) (suc b) h = let g = gap a b (omega (arith, h)) in (g.0, let e = g.1 in omega (arith, e))

module _ (actor : Actor) (sound : IsSound actor) where
  abbrev low : ℕ
  low = state_cells actor

  -- a firing may write what changes
  written : (needs : List ℕ) → VarsAreWritten (bounds_at low (saved_from 0 actor.vars) needs true) 0 actor.vars
  written needs = vars-written (bounds_at low (saved_from 0 actor.vars) needs true) 0 actor.vars (λ d e. ap (λ b. nat_le low d || b) e ∙ or-true (nat_le low d))

  -- what is known of all routines of code
  module _ (rs : Routines) (whole : Code) (high : ℕ) (are : AreProcRoutines (globals_of actor) whole actor.funs actor.procs low rs.functions rs.procedures high) where
    functions-of : (needs : List ℕ) (firing : Bool) → (m : ℕ) × FunctionsAllowed (bounds_at low (saved_from 0 actor.vars) needs firing) whole low rs.functions m
    functions-of needs firing =
        let a : Allowed = bounds_at low (saved_from 0 actor.vars) needs firing in
        only-functions a whole (globals_of actor) (vars-read a 0 actor.vars) low (own-cells low (saved_from 0 actor.vars) needs firing) are

    procedures-of : (needs : List ℕ) → ProceduresAllowed (bounds_at low (saved_from 0 actor.vars) needs true) whole low rs.functions rs.procedures high
    procedures-of needs =
        let a : Allowed = bounds_at low (saved_from 0 actor.vars) needs true in
        procedures-allowed a whole (globals_of actor) (vars-read a 0 actor.vars) low (own-cells low (saved_from 0 actor.vars) needs true) actor.procs (names_of actor)
        (globals-change a actor (written needs)) sound.procs are

    -- each routine that a guard, or a firing, may call
    pub made : length whole.routines ≡ length rs.functions + length rs.procedures → AreFirst rs.functions → AreNext (length rs.functions) rs.procedures
        → (firing : Bool) (r : ℕ) → r < callable_in whole rs.functions firing → IsAllowedAt (bounds_at low (saved_from 0 actor.vars) [] firing) whole r
    made count first next false r less =
        let g = there rs.functions r less in
        subst (IsAllowedAt (bounds_at low (saved_from 0 actor.vars) [] false) whole) (first r g.0 g.1) ((functions-of [] false).1.each r g.0 g.1)
    made count first next true r less = by (cases_lt r (length rs.functions))
      where
        all : ProceduresAllowed (bounds_at low (saved_from 0 actor.vars) [] true) whole low rs.functions rs.procedures high
        all = procedures-of []

        behind : (k : ℕ) → length rs.functions + k ≡ r → IsAllowedAt (bounds_at low (saved_from 0 actor.vars) [] true) whole r
        behind k is =
            let g = there rs.procedures k (omega (arith, is, less, count)) in
            subst (IsAllowedAt (bounds_at low (saved_from 0 actor.vars) [] true) whole) (next k g.0 g.1 ∙ is) (all.each k g.0 g.1)

        by : (r < length rs.functions) ⊎ (length rs.functions ≤ r) → IsAllowedAt (bounds_at low (saved_from 0 actor.vars) [] true) whole r
        by (inl low-one) =
            let g = there rs.functions r low-one in
            subst (IsAllowedAt (bounds_at low (saved_from 0 actor.vars) [] true) whole) (first r g.0 g.1) (all.functions.each r g.0 g.1)
        by (inr up) = let g = gap (length rs.functions) r up in behind g.0 g.1

    -- ---- actions

    module _ (a : ℕ) (act : Action) (is : slice_get actor.actions a ≡ Some act) where
      sound-action : IsAction actor act
      sound-action = action-at actor actor.actions a act sound.actions is

      -- the tokens that the action takes may be read
      port-read : (firing : Bool) (q : Pattern) → IsPattern actor q → PortIsRead (bounds_of actor a firing) q.port (taken_on q.port act.patterns)
      port-read firing q pattern k less =
          let number : coded.number_on (needs_of actor a) q.port ≡ need actor a q.port = get_or-map-range_with_len (need actor a) 0 (length actor.ins) q.port q.port 0 pattern.port (omega arith) in
          let takes : need actor a q.port ≡ taken_on q.port act.patterns = ap (λ (o : Option Action). elim o [ None ↦ 0 | Some x ↦ taken_on q.port x.patterns ]) is in
          let low-one : k < coded.number_on (needs_of actor a) q.port = omega (arith, number, takes, less) in
          let e : nat_lt k (coded.number_on (needs_of actor a) q.port) ≡ true = grind (arith, nat_tests, low-one) in
          e

      ports-read : (firing : Bool) (qs : List Pattern) → Each (IsPattern actor) qs → Each (λ q. PortIsRead (bounds_of actor a firing) q.port (taken_on q.port act.patterns)) qs
      ports-read firing [] h = tt
      ports-read firing (q ∷ qs) h = (port-read firing q h.0, ports-read firing qs h.1)

      seen : (firing : Bool) → AreRead (bounds_of actor a firing) (seen_seats actor act)
      seen firing = seen-read (bounds_of actor a firing) actor act sound-action.ports_in (ports-read firing act.patterns sound-action.patterns)

      pub guards-allow : (n : ℕ) → low ≤ n → Allows (bounds_of actor a false) rs.functions (seen_seats actor act) n
      guards-allow n le = record {
        own = λ c up. own-cells low (saved_from 0 actor.vars) (needs_of actor a) false c (omega (arith, le, up));
        formals = (functions-of (needs_of actor a) false).1.formals;
        read = seen false;
      }

      pub firing-allows : (n : ℕ) → low ≤ n → AllowsRuns (bounds_of actor a true) rs (seen_seats actor act) n
      firing-allows n le = record {
        inside = record {
          own = λ c up. own-cells low (saved_from 0 actor.vars) (needs_of actor a) true c (omega (arith, le, up));
          formals = (procedures-of (needs_of actor a)).functions.formals;
          read = seen true;
        };
        procedures = (procedures-of (needs_of actor a)).formals;
      }

      pub firing-changes : ChangesAreWritten (bounds_of actor a true) (seen_seats actor act) (with_patterns actor act.patterns (names_of actor))
      firing-changes = seen-change (bounds_of actor a true) actor act (written (needs_of actor a))

  -- ---- whole code

  -- the routines of a draft, in code that has more behind them
  pub made-all : (rs : Routines) (old new : Draft) (whole : Code) → IsServed actor rs old → IsMore old new → IsCodeOf new whole
      → (length rs.functions ≤ length whole.routines) × ((firing : Bool) (r : ℕ) → r < callable_in whole rs.functions firing → IsAllowedAt (bounds_at low (saved_from 0 actor.vars) [] firing) whole r)
  made-all rs old new whole served grown code =
      let goes : GoesOn old whole (grown.code ++ []) = goes-more old new whole [] grown (code.instrs ∙ sym (append-nil new.instrs.items), code.routines) in
      let count : length whole.routines ≡ length rs.functions + length rs.procedures = ap length goes.1 ∙ served.count in
      (omega (arith, count), made rs whole served.high (served.stand whole (grown.code ++ []) goes) count served.first served.next)
