-- The code of locals and of outputs fits where it stands.
use Rattle.std.proofs.Common.{◌≡◌, ℕ, zero, suc, ◌+◌, ◌*◌, ◌≤◌, List, [], ◌∷◌, ◌++◌, length, refl, sym, subst, Some, arith}
use Rattle.rvc_base.specs.Storing.{IsSize}
use Rattle.rvc_base.specs.declared.scalar.Scalar.{Scalar}
use Rattle.cal_ast.specs.Tree.{Tree, listed}
use Rattle.cal_model.specs.Actor.{Local, Output, Port}
use Rattle.cal_model.specs.Selection.{kind_of_port}
use Rattle.cal_model.specs.Value.{Shape, scalars_of_type}
use Rattle.code_ir.specs.declared.instr.Instr.{Instr}
use Rattle.code_ir.specs.declared.instr.Instr.TheVariants as op
use Rattle.code_ir.specs.Code.{Code}
use Rattle.lower_base.specs.Held.{AreBelow}
use Rattle.lower_base.specs.Names.{Name}
use Rattle.lower_base.specs.Parted.{number_of}
use Rattle.lower_base.specs.Placed.{StandsAt}
use Rattle.lower_base.specs.Routining.{LocalsSized}
use Rattle.lower_base.proofs.Coded.{grows}
use Rattle.lower_base.proofs.Fitted.{Plain, fits_in, fits_one, plain_then}
use Rattle.lower_base.proofs.Keeping.{below_more}
use Rattle.lower_base.proofs.Runs.{stands_left, stands_right}
use Rattle.expr_lower.proofs.Filled.{grows_fill, grows_fills}
use Rattle.expr_lower.proofs.Fitted.{fits_fill, fits_fills}
use Rattle.expr_lower.proofs.FittedJumps.{fits_none}
use Rattle.lower_stmt.specs.Calls.{HasRunRoutines}
use Rattle.lower_stmt.specs.Procedures.{Routines}
use Rattle.lower_stmt.proofs.Executed.{grows_start}
use Rattle.lower_stmt.proofs.FittedStmts.{cell_below, cells_below, fits_list_start, fits_start}
use Rattle.lower_stmt.proofs.ListStarting.{grows_list_start}
use Rattle.action_lower.specs.Laws.{LocalsFit, OutputsFit}
use Rattle.action_lower.specs.LocalCode.{AreStarted, list_more, none_started, start_more}
use Rattle.action_lower.specs.Sending.{AreOutputs, AreStored, IsRepeated, IsSentList, in_turns, item_stores, items_of_any, list_output_more, no_output, no_value, one_list, output_more, turn_stores, value_more}
use Rattle.action_lower.proofs.TurnSending.{listed_number, repeated-grows}
use Rattle.action_lower.proofs.LocalRuns.{started_grows}
use Rattle.action_lower.proofs.Storing.{outputs-grow, stored-grows}

module _ (whole : Code) (callable limit : ℕ) (rs : Routines) (has : HasRunRoutines whole callable limit rs) where
  pub locals-fit : {names behind : List Name} {xs : List Local} {base n m : ℕ} {code : List Instr} → LocalsSized xs → AreBelow n names → m ≤ limit → StandsAt whole.instrs base code → AreStarted rs.functions names xs behind base n code m
      → Plain whole callable limit base 0 code 0 × AreBelow m behind
  locals-fit sized below le stands (none_started names base n) = (fits_none whole callable limit base 0, below)
  locals-fit sized below le stands (start_more names behind x others t base n k m a b shape first rest) =
      let up = grows_start first in
      let more = started_grows rs rest in
      let one : Plain whole callable limit base 0 a 0 =
      fits_start whole callable limit rs has names t n 0 (sized.0 t shape) (omega (arith, up, more, le)) (below_more n (n + 1) names (omega arith) below) (omega (arith, more, le)) (stands_left whole.instrs base a b stands) first in
      let later = locals-fit sized.1 (cell_below whole callable limit n k names x.name t up below) le (stands_right whole.instrs base a b stands) rest in
      (plain_then whole callable limit base 0 0 0 a b one later.0, later.1)
  locals-fit sized below le stands (list_more names behind x others base n k m a b typed first rest) =
      let up = grows_list_start first in
      let more = started_grows rs rest in
      let one : Plain whole callable limit base 0 a 0 =
      fits_list_start whole callable limit rs has names x.shape n 0 typed (omega arith) below (omega (arith, more, le)) (stands_left whole.instrs base a b stands) first in
      let later = locals-fit sized.1 (cells_below whole callable limit n k names x.name x.shape up below) le (stands_right whole.instrs base a b stands) rest in
      (plain_then whole callable limit base 0 0 0 a b one later.0, later.1)

  values-fit : {names : List Name} {t : Scalar} {es : List Tree} {c base n m : ℕ} {code : List Instr} → IsSize t → AreBelow n names → c + length es ≤ n → m ≤ limit → StandsAt whole.instrs base code → AreStored rs.functions names t es c base n code m
      → Plain whole callable limit base 0 code 0
  values-fit sized below room le stands (no_value c base n) = fits_none whole callable limit base 0
  values-fit {names = names} {t = t} sized below room le stands (value_more e es c base n k m a b first rest) =
      let there : StandsAt whole.instrs base (first.body ++ op.Store c (Some t) ∷ []) = subst (StandsAt whole.instrs base) first.is (stands_left whole.instrs base a b stands) in
      let up = grows first.coded in
      let more = stored-grows rest in
      let value : Plain whole callable limit base 0 first.body 1 = fits_in whole callable limit rs.functions has.functions names 0 below (omega (arith, more, le)) (stands_left whole.instrs base first.body (op.Store c (Some t) ∷ []) there) first.coded in
      let store : Plain whole callable limit (base + length first.body) 1 (op.Store c (Some t) ∷ []) 0 =
      fits_one whole callable limit (base + length first.body) 1 0 (op.Store c (Some t)) (omega arith) (omega arith) refl (omega (arith, room, up, more, le)) tt tt sized in
      let one : Plain whole callable limit base 0 a 0 = subst (λ is. Plain whole callable limit base 0 is 0) (sym first.is) (plain_then whole callable limit base 0 1 0 first.body (op.Store c (Some t) ∷ []) value store) in
      plain_then whole callable limit base 0 0 0 a b one (values-fit sized (below_more n k names up below) (omega (arith, room, up)) le (stands_right whole.instrs base a b stands) rest)

  list-fits : {names : List Name} {e : Tree} {t : Shape} {kind : Scalar} {base n m : ℕ} {code : List Instr} → IsSize kind → AreBelow n names → m ≤ limit → StandsAt whole.instrs base code → IsSentList rs.functions names e t kind base n code m
      → Plain whole callable limit base 0 code 0
  list-fits {t = t} {kind = kind} {base = base} {n = n} sized below le stands sent =
      let i : Instr = op.Copy n n (scalars_of_type t) (Some kind) in
      let wide = grows_fill sent.filled in
      let all : StandsAt whole.instrs base (sent.body ++ i ∷ []) = subst (StandsAt whole.instrs base) sent.is stands in
      let there : n + scalars_of_type t ≤ limit = omega (arith, wide, le) in
      subst (λ is. Plain whole callable limit base 0 is 0) (sym sent.is)
      (plain_then whole callable limit base 0 0 0 sent.body (i ∷ []) (fits_fill whole callable limit rs.functions has.functions 0 below (omega arith) le (stands_left whole.instrs base sent.body (i ∷ []) all) sent.filled)
      (fits_one whole callable limit (base + length sent.body) 0 0 i (omega arith) (omega arith) refl (there, there) tt tt sized))

  items-fit : (t : Scalar) (times lists base to from : ℕ) → IsSize t → to + lists ≤ limit → from + lists * times + 1 ≤ limit + times → Plain whole callable limit base 0 (item_stores t times lists to from) 0
  items-fit t times zero base to from sized le fit = fits_none whole callable limit base 0
  items-fit t times (suc lists) base to from sized le fit =
      let sum : suc lists * times ≡ times + lists * times = omega arith in
      let i : Instr = op.Copy to from 1 (Some t) in
      plain_then whole callable limit base 0 0 0 (i ∷ []) (item_stores t times lists (to + 1) (from + times))
      (fits_one whole callable limit base 0 0 i (omega arith) (omega arith) refl (omega (arith, le), omega (arith, fit, sum)) tt tt sized)
      (items-fit t times lists (base + 1) (to + 1) (from + times) sized (omega (arith, le)) (omega (arith, fit, sum)))

  turns-fit : (t : Scalar) (times lists c base to from : ℕ) → IsSize t → to + c * lists ≤ limit → from + lists * times + c ≤ limit + times → Plain whole callable limit base 0 (turn_stores t times lists c to from) 0
  turns-fit t times lists zero base to from sized le fit = fits_none whole callable limit base 0
  turns-fit t times lists (suc c) base to from sized le fit =
      let sum : suc c * lists ≡ lists + c * lists = omega arith in
      let a : List Instr = item_stores t times lists to from in
      plain_then whole callable limit base 0 0 0 a (turn_stores t times lists c (to + lists) (from + 1))
      (items-fit t times lists base to from sized (omega (arith, le, sum)) (omega (arith, fit)))
      (turns-fit t times lists c (base + length a) (to + lists) (from + 1) sized (omega (arith, le, sum)) (omega (arith, fit)))

  repeated-fits : {names : List Name} {kind : Scalar} {times : ℕ} {es : List Tree} {base n m : ℕ} {code : List Instr} → IsSize kind → AreBelow n names → m ≤ limit → StandsAt whole.instrs base code → IsRepeated rs.functions names kind times es base n code m
      → Plain whole callable limit base 0 code 0
  repeated-fits sized below le stands (one_list e base n m code sent) = list-fits sized below le stands sent
  repeated-fits {names = names} {kind = kind} {times = times} sized below le stands (in_turns es base n m rows body is filled) =
      let lists : ℕ = length es in
      let turns : List Instr = turn_stores kind times lists times n rows in
      let wide : rows + lists * times ≤ m = grows_fills filled in
      let up : n ≤ rows = omega (arith, is) in
      let number : number_of (listed es) ≡ lists = listed_number es in
      let one : scalars_of_type (items_of_any times) ≡ times = omega arith in
      let fit : rows + number_of (listed es) * scalars_of_type (items_of_any times) ≤ rows + lists * times =
      subst (λ q. rows + number_of (listed es) * q ≤ rows + lists * times) (sym one) (subst (λ q. rows + q * times ≤ rows + lists * times) (sym number) (omega arith)) in
      let swap : times * lists ≡ lists * times = omega arith in
      plain_then whole callable limit base 0 0 0 body turns
      (fits_fills whole callable limit rs.functions has.functions 0 (below_more n rows names up below) fit le (stands_left whole.instrs base body turns stands) filled)
      (turns-fit kind times lists times (base + length body) n rows sized (omega (arith, swap, is, wide, le)) (omega (arith, wide, le)))

  pub outputs-fit : {names : List Name} {ports : List Port} {os : List Output} {firsts : List ℕ} {base n m : ℕ} {code : List Instr} → ((port : ℕ) → IsSize (kind_of_port ports port)) → AreBelow n names → m ≤ limit → StandsAt whole.instrs base code
      → AreOutputs rs.functions names ports os firsts base n code m → Plain whole callable limit base 0 code 0
  outputs-fit sized below le stands (no_output base n) = fits_none whole callable limit base 0
  outputs-fit {names = names} sized below le stands (output_more o others firsts base n k m a b first rest) =
      let up = stored-grows first.stored in
      let more = outputs-grow rest in
      let one : Plain whole callable limit base 0 a 0 = values-fit (sized o.port) (below_more n (n + length first.parts) names (omega arith) below) (omega arith) (omega (arith, more, le)) (stands_left whole.instrs base a b stands) first.stored in
      plain_then whole callable limit base 0 0 0 a b one (outputs-fit sized (below_more n k names (omega (arith, up)) below) le (stands_right whole.instrs base a b stands) rest)
  outputs-fit {names = names} sized below le stands (list_output_more o others firsts base n k m a b first rest) =
      let up = repeated-grows first.stored in
      let more = outputs-grow rest in
      let one : Plain whole callable limit base 0 a 0 = repeated-fits (sized o.port) below (omega (arith, more, le)) (stands_left whole.instrs base a b stands) first.stored in
      plain_then whole callable limit base 0 0 0 a b one (outputs-fit sized (below_more n k names up below) le (stands_right whole.instrs base a b stands) rest)

-- ---- as laws

pub all-locals-fit : LocalsFit
all-locals-fit whole callable limit rs names xs behind base n m code has sized below le stands started = (locals-fit whole callable limit rs has sized below le stands started).0

pub all-outputs-fit : OutputsFit
all-outputs-fit whole callable limit rs names ports outs firsts base n m code has sized below le stands are = outputs-fit whole callable limit rs has sized below le stands are
