-- Nothing is left out of locals, functions and procedures.
use Rattle.std.proofs.Common.{◌≡◌, ℕ, List, [], ◌∷◌, map, refl, ap, ◌∙◌, Option, None, Some}
use Rattle.rvc_base.specs.declared.scalar.Scalar.{Scalar}
use Rattle.cal_ast.specs.Tree.{Tree}
use Rattle.cal_ast.specs.View.{optional}
use Rattle.cal_model.specs.Value.{Kind, Shape, Single, Many, IsType, kind_of_scalar, kind_of_type}
use Rattle.cal_model.specs.Actor.{Fun, Local, Proc}
use Rattle.cal_model.specs.Kinding.{Fine, Names, kind, with_known}
use Rattle.cal_model.specs.Sound.{AreLocals, AreStatements, IsFun, IsPlain, IsProc, IsVarStart, StartHasKind, known_local, with_locals}
use Rattle.lower_base.specs.Callees.{Function}
use Rattle.lower_base.specs.Listed.{single_of}
use Rattle.lower_base.specs.Names.{Name, local_of}
use Rattle.lower_base.specs.Routining.{behind_formals, left_out_body, left_out_formals, left_out_fun, some_formal}
use Rattle.lower_base.specs.Starting.{left_out_list_start, left_out_local, left_out_start}
use Rattle.lower_base.specs.Types.{type_size}
use Rattle.lower_stmt.specs.Proceeding.{left_out_proc, left_out_proc_body}
use Rattle.lower_stmt.specs.Procedures.{Routines}
use Rattle.action_lower.specs.LocalCode.{left_out_locals}
use Rattle.law_bodies.specs.Standing.{AreReady, CallsAll, StartsCallAll}
use Rattle.law_forms.specs.Lowerable.{CallsRoutines, HasRoutine}
use Rattle.law_bodies.proofs.Calls.{StartIs}
use Rattle.law_bodies.proofs.Values.{none_of_one}
use Rattle.law_bodies.proofs.Names.{formals_none, ready_formals, ready_local}
use Rattle.law_bodies.proofs.Statements.{all_none, list_start, one_start}
use Rattle.law_bodies.proofs.Types.{none_both, type_size_of}

-- the start of a local, as that of a variable of a block
start_of : (k : Kind) (start : Option Tree) (known : Names) → StartHasKind k start known → IsVarStart k (optional start) known × IsPlain (optional start)
start_of k None known h = (tt, tt)
start_of k (Some e) known h = (h.0, h.1)

module _ (funs : List Fun) (fs : List Function) where
  calls_of_start : (start : Option Tree) → StartIs (HasRoutine funs fs) (λ name. Unit {0}) start → CallsRoutines funs fs (optional start)
  calls_of_start None h = tt
  calls_of_start (Some e) h = h

  -- ---- locals

  shape_none : (t : Shape) (start : Tree) (known : Names) (names : List Name) → AreReady funs known names → IsType t → CallsRoutines funs fs start → IsPlain start → IsVarStart (kind_of_type t) start known
      → ◌≡◌ {A = Option ℕ} (elim (single_of t) [
        | None ↦ elim (type_size t) [ None ↦ Some 0 | Some size ↦ left_out_list_start fs names t start ]
        | Some s ↦ left_out_start fs names start
      ]) None
  shape_none (Single s) start known names r typed calls plain is = one_start funs fs known names s start r calls plain is
  shape_none (Many n items) start known names r typed calls plain is =
      ap (λ (o : Option ℕ). elim o [ None ↦ Some 0 | Some size ↦ left_out_list_start fs names (Many n items) start ]) (type_size_of (Many n items) typed)
      ∙ list_start funs fs known names (Many n items) start r calls plain is

  local_none : (x : Local) (known : Names) (names : List Name) → AreReady funs known names → IsType x.shape → StartHasKind (kind_of_type x.shape) x.start known → StartIs (HasRoutine funs fs) (λ name. Unit {0}) x.start → left_out_local fs names x ≡ None
  local_none x known names r typed start calls =
      let s = start_of (kind_of_type x.shape) x.start known start in
      shape_none x.shape (optional x.start) known names r typed (calls_of_start x.start calls) s.1 s.0

  pub locals_none : (xs : List Local) (known : Names) (names : List Name) → AreReady funs known names → AreLocals xs known → StartsCallAll funs fs xs → left_out_locals fs names xs ≡ None
  locals_none [] known names r are calls = refl
  locals_none (x ∷ xs) known names r are calls =
      none_both (left_out_local fs names x) (left_out_locals fs (local_of x.name x.shape 0 ∷ names) xs) (local_none x known names r are.0 are.1 calls.0)
      (locals_none xs (with_known (known_local x) known) (local_of x.name x.shape 0 ∷ names) (ready_local funs known names (known_local x) x.shape 0 are.0 refl r) are.2 calls.1)

  -- ---- functions

  body_none : (xs : List Local) (e : Tree) (t : Scalar) (known : Names) (names : List Name) → AreReady funs known names → AreLocals xs known → StartsCallAll funs fs xs → CallsRoutines funs fs e → IsPlain e → kind e (with_locals xs known) ≡ Fine (kind_of_scalar t)
      → left_out_body fs names xs e ≡ None
  body_none [] e t known names r are calls called plain is = none_of_one funs fs known names e t r called plain is
  body_none (x ∷ xs) e t known names r are calls called plain is =
      none_both (left_out_local fs names x) (left_out_body fs (local_of x.name x.shape 0 ∷ names) xs e) (local_none x known names r are.0 are.1 calls.0)
      (body_none xs e t (with_known (known_local x) known) (local_of x.name x.shape 0 ∷ names) (ready_local funs known names (known_local x) x.shape 0 are.0 refl r) are.2 calls.1 called plain is)

  pub fun_none : (f : Fun) (known : Names) (names : List Name) → AreReady funs known names → StartsCallAll funs fs f.locals → CallsRoutines funs fs f.body → IsFun known f → left_out_fun fs names f ≡ None
  fun_none f known names r starts calls is =
      none_both (left_out_formals f.formals) (left_out_body fs (behind_formals f.formals (map some_formal f.formals) names) f.locals f.body) (formals_none f.formals is.formals)
      (body_none f.locals f.body f.result (with_locals f.formals known) (behind_formals f.formals (map some_formal f.formals) names) (ready_formals funs f.formals known names is.formals r) is.locals starts calls is.plain is.body)

-- ---- procedures

module _ (funs : List Fun) (procs : List Proc) (rs : Routines) where
  proc_body_none : (xs : List Local) (body : Tree) (known : Names) (names : List Name) → AreReady funs known names → AreLocals xs known → StartsCallAll funs rs.functions xs → CallsAll funs procs rs body → IsPlain body → AreStatements body procs (with_locals xs known)
      → left_out_proc_body rs names xs body ≡ None
  proc_body_none [] body known names r are calls called plain is = all_none funs procs rs body known names r called plain is
  proc_body_none (x ∷ xs) body known names r are calls called plain is =
      none_both (left_out_local rs.functions names x) (left_out_proc_body rs (local_of x.name x.shape 0 ∷ names) xs body) (local_none funs rs.functions x known names r are.0 are.1 calls.0)
      (proc_body_none xs body (with_known (known_local x) known) (local_of x.name x.shape 0 ∷ names) (ready_local funs known names (known_local x) x.shape 0 are.0 refl r) are.2 calls.1 called plain is)

  pub proc_none : (p : Proc) (known : Names) (names : List Name) → AreReady funs known names → StartsCallAll funs rs.functions p.locals → CallsAll funs procs rs p.body → IsProc procs known p → left_out_proc rs names p ≡ None
  proc_none p known names r starts calls is =
      none_both (left_out_formals p.formals) (left_out_proc_body rs (behind_formals p.formals (map some_formal p.formals) names) p.locals p.body) (formals_none p.formals is.formals)
      (proc_body_none p.locals p.body (with_locals p.formals known) (behind_formals p.formals (map some_formal p.formals) names) (ready_formals funs p.formals known names is.formals r) is.locals starts calls is.plain is.body)
