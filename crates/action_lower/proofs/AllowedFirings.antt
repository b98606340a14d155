-- Code of locals, of outputs and of firings writes only cells that may be written, and reads only tokens that may be read.
use Rattle.std.proofs.Common.{◌≡◌, ℕ, zero, suc, ◌+◌, ◌*◌, ◌≤◌, List, [], ◌∷◌, ◌++◌, length, true, sym, subst, Some, arith}
use Rattle.rvc_base.specs.declared.scalar.Scalar.{Scalar}
use Rattle.cal_ast.specs.Tree.{Tree, listed}
use Rattle.cal_model.specs.Actor.{Action, Local, Output, Port, Proc}
use Rattle.cal_model.specs.Kinding.{Names, with_known}
use Rattle.cal_model.specs.Sound.{AreStatements, known_local, with_locals}
use Rattle.cal_model.specs.Value.{Shape, Single, scalars_of_type}
use Rattle.code_ir.specs.declared.instr.Instr.{Instr}
use Rattle.code_ir.specs.declared.instr.Instr.TheVariants as op
use Rattle.lower_base.specs.Allowing.{Allowed, Allows, AreAllowed, MayWrite}
use Rattle.lower_base.specs.Names.{Name}
use Rattle.lower_base.specs.Parted.{number_of}
use Rattle.lower_base.proofs.AllowedCode.{allowed_then, allows_local, allows_more, code_allowed, own_all, own_one, start_allowed}
use Rattle.lower_base.proofs.Coded.{grows}
use Rattle.expr_lower.proofs.AllowedFills.{fill_allowed, fills_allowed, list_start_allowed}
use Rattle.lower_stmt.specs.AllowingRuns.{AllowsRuns, ChangesAreWritten}
use Rattle.lower_stmt.specs.Procedures.{Routines}
use Rattle.lower_stmt.proofs.AllowedStmts.{changes_more, runs_local, runs_more}
use Rattle.lower_stmt.proofs.Executed.{grows_start}
use Rattle.lower_stmt.proofs.ListStarting.{grows_list_start}
use Rattle.action_lower.specs.FiringCode.{IsFiringCode}
use Rattle.action_lower.specs.LocalCode.{AreStarted, list_more, none_started, start_more}
use Rattle.action_lower.specs.Sending.{AreOutputs, AreStored, IsRepeated, IsSentList, in_turns, item_stores, items_of_any, list_output_more, no_output, no_value, one_list, output_more, turn_stores, value_more}
use Rattle.action_lower.proofs.Storing.{stored-grows}
use Rattle.action_lower.proofs.TurnSending.{repeated-grows}

module _ (a : Allowed) (rs : Routines) where
  -- ---- locals

  pub started_allowed : {names behind : List Name} {xs : List Local} {base n m : ℕ} {code : List Instr} → Allows a rs.functions names n → AreStarted rs.functions names xs behind base n code m → AreAllowed a code
  started_allowed h (none_started names base n) = tt
  started_allowed h (start_more names behind x others t base n k m u v shape first rest) =
      let up = grows_start first in
      allowed_then a u v (start_allowed a rs.functions names (own_one n (omega arith) h) (allows_more (n + 1) (omega arith) h) first)
      (started_allowed (allows_local x.name (Single t) n (allows_more k (omega (arith, up)) h)) rest)
  started_allowed h (list_more names behind x others base n k m u v typed first rest) =
      let up = grows_list_start first in
      let size : ℕ = scalars_of_type x.shape in
      allowed_then a u v (list_start_allowed a rs.functions (allows_more (n + size) (omega arith) h) (own_all n size (omega arith) h) first)
      (started_allowed (allows_local x.name x.shape n (allows_more k (omega (arith, up)) h)) rest)

  -- .. and what is behind them sees them
  pub started_behind : {names behind : List Name} {xs : List Local} {base n m : ℕ} {code : List Instr} (known : Names) → AllowsRuns a rs names n → ChangesAreWritten a names known → AreStarted rs.functions names xs behind base n code m
      → AllowsRuns a rs behind m × ChangesAreWritten a behind (with_locals xs known)
  started_behind known h ch (none_started names base n) = (h, ch)
  started_behind known h ch (start_more names behind x others t base n k m u v shape first rest) =
      let up = grows_start first in
      started_behind (with_known (known_local x) known) (runs_local x.name (Single t) n (runs_more k (omega (arith, up)) h)) (changes_more a names known (known_local x) (Single t) n (own_all n 1 (omega arith) h.inside) ch) rest
  started_behind known h ch (list_more names behind x others base n k m u v typed first rest) =
      let up = grows_list_start first in
      let size : ℕ = scalars_of_type x.shape in
      started_behind (with_known (known_local x) known) (runs_local x.name x.shape n (runs_more k (omega (arith, up)) h)) (changes_more a names known (known_local x) x.shape n (own_all n size (omega arith) h.inside) ch) rest

  -- ---- outputs

  values_allowed : {names : List Name} {t : Scalar} {es : List Tree} {c base n m : ℕ} {code : List Instr} → Allows a rs.functions names n → ((d : ℕ) → c ≤ d → a.cells d ≡ true) → AreStored rs.functions names t es c base n code m → AreAllowed a code
  values_allowed h own (no_value c base n) = tt
  values_allowed {names = names} {t = t} h own (value_more e es c base n k m u v first rest) =
      let one : AreAllowed a u = subst (AreAllowed a) (sym first.is) (allowed_then a first.body (op.Store c (Some t) ∷ []) (code_allowed a rs.functions names h first.coded) (own c (omega arith), tt)) in
      allowed_then a u v one (values_allowed (allows_more k (grows first.coded) h) (λ d up. own d (omega (arith, up))) rest)

  list_allowed : {names : List Name} {e : Tree} {t : Shape} {kind : Scalar} {base n m : ℕ} {code : List Instr} → Allows a rs.functions names n → IsSentList rs.functions names e t kind base n code m → AreAllowed a code
  list_allowed {t = t} {kind = kind} {n = n} h sent =
      let size : ℕ = scalars_of_type t in
      let write : MayWrite a n size = own_all n size (omega arith) h in
      subst (AreAllowed a) (sym sent.is) (allowed_then a sent.body (op.Copy n n size (Some kind) ∷ []) (fill_allowed a rs.functions (allows_more (n + size) (omega arith) h) write sent.filled) (write, tt))

  items_allowed : (t : Scalar) (times lists to from n : ℕ) → n ≤ to → ((d : ℕ) → n ≤ d → a.cells d ≡ true) → AreAllowed a (item_stores t times lists to from)
  items_allowed t times zero to from n le own = tt
  items_allowed t times (suc lists) to from n le own = ((λ d low up. own d (omega (arith, le, low))), items_allowed t times lists (to + 1) (from + times) n (omega (arith, le)) own)

  turns_allowed : (t : Scalar) (times lists c to from n : ℕ) → n ≤ to → ((d : ℕ) → n ≤ d → a.cells d ≡ true) → AreAllowed a (turn_stores t times lists c to from)
  turns_allowed t times lists zero to from n le own = tt
  turns_allowed t times lists (suc c) to from n le own =
      allowed_then a (item_stores t times lists to from) (turn_stores t times lists c (to + lists) (from + 1)) (items_allowed t times lists to from n le own)
      (turns_allowed t times lists c (to + lists) (from + 1) n (omega (arith, le)) own)

  repeated_allowed : {names : List Name} {kind : Scalar} {times : ℕ} {es : List Tree} {base n m : ℕ} {code : List Instr} → Allows a rs.functions names n → IsRepeated rs.functions names kind times es base n code m → AreAllowed a code
  repeated_allowed h (one_list e base n m code sent) = list_allowed h sent
  repeated_allowed {kind = kind} {times = times} h (in_turns es base n m rows body is filled) =
      let lists : ℕ = length es in
      let all : ℕ = number_of (listed es) * scalars_of_type (items_of_any times) in
      allowed_then a body (turn_stores kind times lists times n rows)
      (fills_allowed a rs.functions (allows_more (rows + lists * times) (omega (arith, is)) h) (own_all rows all (omega (arith, is)) h) filled)
      (turns_allowed kind times lists times n rows n (omega arith) h.own)

  pub outputs_allowed : {names : List Name} {ports : List Port} {os : List Output} {firsts : List ℕ} {base n m : ℕ} {code : List Instr} → Allows a rs.functions names n → AreOutputs rs.functions names ports os firsts base n code m → AreAllowed a code
  outputs_allowed h (no_output base n) = tt
  outputs_allowed h (output_more o others firsts base n k m u v first rest) =
      let up = stored-grows first.stored in
      allowed_then a u v (values_allowed (allows_more (n + length first.parts) (omega arith) h) h.own first.stored) (outputs_allowed (allows_more k (omega (arith, up)) h) rest)
  outputs_allowed h (list_output_more o others firsts base n k m u v first rest) =
      allowed_then a u v (repeated_allowed h first.stored) (outputs_allowed (allows_more k (repeated-grows first.stored) h) rest)

  -- ---- firings

  pub firing_allowed : (names : List Name) (ports : List Port) (act : Action) (firsts : List ℕ) (base n m : ℕ) (code : List Instr) (procs : List Proc) (known : Names) → AllowsRuns a rs names n → ChangesAreWritten a names known
      → AreStatements act.body procs (with_locals act.locals known) → IsFiringCode rs names ports act firsts base n code m → AreAllowed a code
  firing_allowed names ports act firsts base n m code procs known h ch ok is =
      let behind = started_behind known h ch is.locals in
      let tail = is.c ++ op.Done ∷ [] in
      subst (AreAllowed a) (sym is.is)
      (allowed_then a is.a (is.b ++ tail) (started_allowed h.inside is.locals)
      (allowed_then a is.b tail (is.body.allowed a procs (with_locals act.locals known) behind.0 behind.1 ok)
      (allowed_then a is.c (op.Done ∷ []) (outputs_allowed (allows_more is.j is.body.cells behind.0.inside) is.outputs) (tt, tt))))
