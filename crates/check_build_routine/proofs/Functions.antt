-- Functions and procedures by their heads and what stands inside them.
use Rattle.std.proofs.Common.{◌≡◌, ℕ, List, map, refl, sym, ap, subst, string_bytes, ◌∙◌}
use Rattle.rvc_base.specs.declared.scalar.Scalar.{Scalar}
use Rattle.cal_ast.specs.Tree.{Tree, listed}
use Rattle.cal_ast.specs.View.{expr_tree, function_tree, port_tree, procedure_tree, stmt_tree, type_tree, var_tree}
use Rattle.cal_ast.specs.declared.member.Function.{Function}
use Rattle.cal_ast.specs.declared.member.Procedure.{Procedure}
use Rattle.cal_model.specs.Actor.{Local, Proc}
use Rattle.cal_model.specs.Kinding.{Judged, Fine, Broken, Names, and_so}
use Rattle.cal_model.specs.Sound.{with_locals}
use Rattle.const_env.specs.Judging.{Breaks}
use Rattle.const_env.specs.declared.fault.KindFault.{KindFault}
use Rattle.cal_check.specs.Routines.{Head, formals_judged, fun_if, fun_judged, locals_of, proc_judged, result_judged, single_type}
use Rattle.cal_check.specs.Statements.{names_behind}
use Rattle.cal_check.specs.Written.{behind_vars, statement_written}
use Rattle.check_build_routine.specs.Declaring.{fun_behind, inside_body, inside_locals, proc_behind}
use Rattle.check_build_routine.proofs.Judged.{breaks_on, so_fine, so_so}

-- ---- functions

abbrev pub fun_vars : Function → Tree
fun_vars f = listed (map var_tree f.vars.items)

fun_is : (j : Judged Names) (full : List ℕ) (head : Head) (vars body : Tree) (names : Names)
    → fun_if j full head vars body names ≡ record {
      name = full;
      formals = head.formals;
      locals = inside_locals j vars (with_locals head.formals names);
      result = head.result;
      body = inside_body j vars body (with_locals head.formals names);
    }
fun_is (Fine inner) full head vars body names = refl
fun_is (Broken rule at) full head vars body names = refl

pub fun_done : (full name : List ℕ) (f : Function) (fs locals : List Local) (t : Scalar) (body : Tree) (names here : Names) → name ≡ full → here ≡ with_locals fs names
    → single_type (type_tree f.result) here ≡ Fine t → locals ≡ inside_locals (names_behind (fun_vars f) here) (fun_vars f) here
    → body ≡ inside_body (names_behind (fun_vars f) here) (fun_vars f) (expr_tree f.body) here
    → fun_behind full (function_tree f) fs names ≡ Fine (record { name = name; formals = fs; locals = locals; result = t; body = body })
fun_done full name f fs locals t body names here same seen single l b =
    let inner = with_locals fs names in
    let head : Head = record { formals = fs; result = t } in
    let judged : result_judged (type_tree f.result) fs names ≡ Fine head = ap (λ o. and_so o (λ s. Fine (record { formals = fs; result = s }))) (ap (single_type (type_tree f.result)) (sym seen) ∙ single) in
    so_fine (result_judged (type_tree f.result) fs names) head (λ h. Fine (fun_if (names_behind (fun_vars f) (with_locals h.formals names)) full h (fun_vars f) (expr_tree f.body) names)) judged
    ∙ ap Fine (fun_is (names_behind (fun_vars f) inner) full head (fun_vars f) (expr_tree f.body) names
    ∙ ap (λ x. record { name = full; formals = fs; locals = x; result = t; body = inside_body (names_behind (fun_vars f) inner) (fun_vars f) (expr_tree f.body) inner })
    (sym (l ∙ ap (λ ns. inside_locals (names_behind (fun_vars f) ns) (fun_vars f) ns) seen))
    ∙ ap (λ x. record { name = full; formals = fs; locals = locals; result = t; body = x })
    (sym (b ∙ ap (λ ns. inside_body (names_behind (fun_vars f) ns) (fun_vars f) (expr_tree f.body) ns) seen))
    ∙ ap (λ x. record { name = x; formals = fs; locals = locals; result = t; body = body }) (sym same))

pub fun_breaks : (fault : KindFault) (full : List ℕ) (f : Function) (fs : List Local) (names here : Names) → here ≡ with_locals fs names
    → Breaks fault (single_type (type_tree f.result) here) → Breaks fault (fun_behind full (function_tree f) fs names)
fun_breaks fault full f fs names here seen b =
    breaks_on fault (result_judged (type_tree f.result) fs names) (λ h. Fine (fun_if (names_behind (fun_vars f) (with_locals h.formals names)) full h (fun_vars f) (expr_tree f.body) names))
    (breaks_on fault (single_type (type_tree f.result) (with_locals fs names)) (λ s. Fine (record { formals = fs; result = s }))
    (subst (λ ns. Breaks fault (single_type (type_tree f.result) ns)) seen b))

pub fun_opens : (full : List ℕ) (f : Function) (names : Names)
    → fun_judged full (function_tree f) names ≡ and_so (formals_judged (listed (map port_tree f.formals.items)) names) (λ fs. fun_behind full (function_tree f) fs names)
fun_opens full f names =
    so_so (formals_judged (listed (map port_tree f.formals.items)) names) (λ fs. result_judged (type_tree f.result) fs names)
    (λ h. Fine (fun_if (names_behind (fun_vars f) (with_locals h.formals names)) full h (fun_vars f) (expr_tree f.body) names))

pub fun_with : (full : List ℕ) (f : Function) (fs : List Local) (names : Names) → formals_judged (listed (map port_tree f.formals.items)) names ≡ Fine fs
    → fun_judged full (function_tree f) names ≡ fun_behind full (function_tree f) fs names
fun_with full f fs names e =
    fun_opens full f names ∙ so_fine (formals_judged (listed (map port_tree f.formals.items)) names) fs (λ xs. fun_behind full (function_tree f) xs names) e

pub head_breaks : (fault : KindFault) (full : List ℕ) (f : Function) (names : Names) → Breaks fault (formals_judged (listed (map port_tree f.formals.items)) names)
    → Breaks fault (fun_judged full (function_tree f) names)
head_breaks fault full f names b =
    subst (Breaks fault) (sym (fun_opens full f names))
    (breaks_on fault (formals_judged (listed (map port_tree f.formals.items)) names) (λ fs. fun_behind full (function_tree f) fs names) b)

-- ---- procedures

abbrev pub proc_vars : Procedure → Tree
proc_vars p = listed (map var_tree p.vars.items)

pub proc_done : (p : Procedure) (fs locals : List Local) (body : Tree) (names here behind : Names) → here ≡ with_locals fs names → locals ≡ locals_of (proc_vars p) here
    → behind ≡ behind_vars (proc_vars p) here → body ≡ statement_written (listed (map stmt_tree p.body.items)) behind
    → record { name = string_bytes p.name.text; formals = fs; locals = locals; body = body } ≡ proc_behind (procedure_tree p) fs names
proc_done p fs locals body names here behind seen l k b =
    ap (λ x. record { name = string_bytes p.name.text; formals = fs; locals = x; body = body }) (l ∙ ap (locals_of (proc_vars p)) seen)
    ∙ ap (λ x. record { name = string_bytes p.name.text; formals = fs; locals = locals_of (proc_vars p) (with_locals fs names); body = x })
    (b ∙ ap (statement_written (listed (map stmt_tree p.body.items))) (k ∙ ap (behind_vars (proc_vars p)) seen))

pub proc_with : (p : Procedure) (fs : List Local) (found : Proc) (names : Names) → formals_judged (listed (map port_tree p.formals.items)) names ≡ Fine fs
    → found ≡ proc_behind (procedure_tree p) fs names → proc_judged (procedure_tree p) names ≡ Fine found
proc_with p fs found names e is =
    so_fine (formals_judged (listed (map port_tree p.formals.items)) names) fs (λ xs. Fine (proc_behind (procedure_tree p) xs names)) e ∙ ap Fine (sym is)
