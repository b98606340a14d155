-- The code of a procedure fits where it stands.
use Rattle.std.proofs.Common.{ℕ, ◌+◌, ◌≤◌, List, [], ◌∷◌, ◌++◌, length, refl, sym, ap, ◌∙◌, arith, append_assoc}
use Rattle.cal_ast.specs.Tree.{Tree}
use Rattle.cal_model.specs.Actor.{Local, Proc}
use Rattle.cal_model.specs.Value.{scalars_of_type}
use Rattle.code_ir.specs.declared.instr.Instr.{Instr}
use Rattle.code_ir.specs.declared.instr.Instr.TheVariants as op
use Rattle.code_ir.specs.Code.{Code}
use Rattle.lower_base.specs.declared.callees.Formal.{Formal}
use Rattle.lower_base.specs.Calling.{AreOfSizes}
use Rattle.lower_base.specs.Held.{AreBelow}
use Rattle.lower_base.specs.Names.{Name, local}
use Rattle.lower_base.specs.Placed.{StandsAt}
use Rattle.lower_base.specs.Routining.{LocalsSized, behind_formals}
use Rattle.lower_base.proofs.Fitted.{plain_then}
use Rattle.lower_base.proofs.Keeping.{below_more}
use Rattle.lower_base.proofs.Runs.{stands_left, stands_right}
use Rattle.lower_base.proofs.Served.{formals_below, sizes_of}
use Rattle.lower_stmt.specs.Calls.{HasRunRoutines}
use Rattle.lower_stmt.specs.Changing.{AreTyped}
use Rattle.lower_stmt.specs.Proceeding.{FitsAsProc, IsProcBody, IsProcRoutine, ProcSized, local_list, local_more, no_local}
use Rattle.lower_stmt.specs.Procedures.{Procedure, Routines}
use Rattle.lower_stmt.proofs.Executed.{grows_start}
use Rattle.lower_stmt.proofs.FittedStmts.{any_typed, cell_below, cells_below, fits_all, fits_list_start, fits_start, local_typed}
use Rattle.lower_stmt.proofs.ListStarting.{grows_list_start}
use Rattle.lower_stmt.proofs.ProcServed.{proc_grows}

module _ (whole : Code) (callable limit : ℕ) where
  formals_typed : (xs : List Local) (ys : List Formal) (names : List Name) → AreOfSizes ys → AreTyped names → AreTyped (behind_formals xs ys names)
  formals_typed [] ys names sizes typed = typed
  formals_typed (x ∷ xs) [] names sizes typed = typed
  formals_typed (x ∷ xs) (y ∷ ys) names (size, sizes) typed =
      formals_typed xs ys (local x.name y.kind y.cell ∷ names) sizes (local_typed whole callable limit y.cell names x.name y.kind size typed)

  module _ (rs : Routines) (has : HasRunRoutines whole callable limit rs) where
    body_fits : {body : Tree} {names : List Name} {xs : List Local} {base n m : ℕ} {code : List Instr} → AreBelow n names → AreTyped names → LocalsSized xs → m ≤ limit → StandsAt whole.instrs base code → IsProcBody rs body names xs base n code m
        → FitsAsProc whole callable limit base code
    body_fits below typed sizes le stands (no_local names base n m code coded) =
        record { body = code; is = refl; fits = fits_all whole callable limit rs has 0 below typed le (stands_left whole.instrs base code (op.Return ∷ []) stands) coded }
    body_fits below typed sizes le stands (local_more names x xs kind base n k m a b shape first rest) =
        let up : n + 1 ≤ k = grows_start first in
        let more : k ≤ m = proc_grows rest in
        let r : FitsAsProc whole callable limit (base + length a) b =
        body_fits (cell_below whole callable limit n k names x.name kind up below) (local_typed whole callable limit n names x.name kind (sizes.0 kind shape) typed) sizes.1 le (stands_right whole.instrs base a b stands) rest in
        record {
          body = a ++ r.body;
          is = ap (λ is. a ++ is) r.is ∙ sym (append_assoc a r.body (op.Return ∷ []));
          fits = plain_then whole callable limit base 0 0 0 a r.body
              (fits_start whole callable limit rs has names kind n 0 (sizes.0 kind shape) (omega (arith, up, more, le)) (below_more n (n + 1) names (omega arith) below) (omega (arith, more, le)) (stands_left whole.instrs base a b stands) first) r.fits;
        }
    body_fits below typed sizes le stands (local_list names x xs base n k m a b one first rest) =
        let up : n + scalars_of_type x.shape ≤ k = grows_list_start first in
        let more : k ≤ m = proc_grows rest in
        let r : FitsAsProc whole callable limit (base + length a) b =
        body_fits (cells_below whole callable limit n k names x.name x.shape up below) (any_typed whole callable limit n names x.name x.shape one typed) sizes.1 le (stands_right whole.instrs base a b stands) rest in
        record {
          body = a ++ r.body;
          is = ap (λ is. a ++ is) r.is ∙ sym (append_assoc a r.body (op.Return ∷ []));
          fits = plain_then whole callable limit base 0 0 0 a r.body
              (fits_list_start whole callable limit rs has names x.shape n 0 one (omega arith) below (omega (arith, more, le)) (stands_left whole.instrs base a b stands) first) r.fits;
        }

    pub proc_fits : (globals : List Name) (p : Proc) (g : Procedure) (base n m : ℕ) (code : List Instr) → AreBelow n globals → AreTyped globals → ProcSized p → m ≤ limit → StandsAt whole.instrs base code → IsProcRoutine globals rs p g base n code m
        → FitsAsProc whole callable limit base code
    proc_fits globals p g base n m code below typed sized le stands is =
        body_fits (formals_below p.formals g.formals n (n + length g.formals) globals is.row (omega arith) (below_more n (n + length g.formals) globals (omega arith) below))
        (formals_typed p.formals g.formals globals (sizes_of p.formals g.formals is.formals sized.formals) typed) sized.locals le stands is.body
