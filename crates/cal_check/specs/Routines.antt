-- Functions and procedures: what they are, and the rules that they break (ISO/IEC 23001-4, RVC-CAL: functions and
-- procedures).
--
-- Their heads are judged before anything that calls them: what a head breaks, and else what is inside.
-- Trusted: part of what a promise means.
use Rattle.std.specs.Prelude.{ℕ, zero, suc, Bool, true, false, ◌||◌, ◌==◌, List, [], ◌∷◌, ◌++◌, length, Option, None, Some}
use Rattle.rvc_base.specs.declared.scalar.Scalar.{Scalar}
use Rattle.rvc_base.specs.declared.scalar.Scalar.TheVariants as scalar
use Rattle.rvc_base.specs.Rules.{unknown_name, list_not_allowed, not_constant}
use Rattle.cal_ast.specs.declared.expr.PrefixOp.TheVariants.{Not}
use Rattle.cal_ast.specs.Places.{begins}
use Rattle.cal_ast.specs.Tree as tree
use Rattle.cal_ast.specs.Tree.{Tree}
use Rattle.cal_model.specs.Value.{Shape, Single, Many, kind_of_scalar}
use Rattle.cal_model.specs.Actor.{Local, Fun, Proc}
use Rattle.cal_model.specs.Kinding.{Judged, Fine, Broken, and_so, Names, with_known, type_judged}
use Rattle.cal_model.specs.Sound.{known_local, with_locals}
use Rattle.cal_check.specs.Violations.{Violation, broken, if_fine, while_fine}
use Rattle.cal_check.specs.Constants.{stored_kind}
use Rattle.cal_check.specs.Written.{with_inner, written, statement_written, behind_vars}
use Rattle.cal_check.specs.Statements.{names_behind, type_of_var, starts_broken, statement_broken}

-- ---- single values

-- the type of a single value: of a port, a formal or a result
abbrev pub single : Judged Shape → ℕ → Judged Scalar
single (Fine (Single t)) at = Fine t
single (Fine (Many n t)) at = Broken list_not_allowed at
single (Broken rule p) at = Broken rule p

abbrev pub single_type : Tree → Names → Judged Scalar
single_type shape names = single (type_judged shape names) (begins shape)

-- ---- formals

abbrev pub formal_of : List ℕ → Scalar → Local
formal_of name t = record { name = name; shape = Single t; start = None; changes = true }

abbrev pub formal_judged : Tree → Names → Judged Local
formal_judged (tree.port shape (tree.ident name place) at) names =
    and_so (single_type shape names) (λ t. Fine (formal_of name t))
formal_judged other names = Broken unknown_name 0

-- each formal's type sees the formals before it
abbrev pub formals_judged : Tree → Names → Judged (List Local)
formals_judged tree.nil names = Fine []
formals_judged (tree.cons f fs) names =
    and_so (formal_judged f names) (λ x.
    and_so (formals_judged fs (with_known (known_local x) names)) (λ xs. Fine (x ∷ xs)))
formals_judged other names = Broken unknown_name 0

-- ---- locals

abbrev pub shape_of : Judged Shape → Shape
shape_of (Fine t) = t
shape_of (Broken rule at) = Single scalar.Bool

abbrev pub start_of : Tree → Names → Option Tree
start_of (tree.present e) names = Some (written e names)
start_of other names = None

abbrev pub local_of : Tree → Names → Local
local_of (tree.var shape (tree.ident name place) start changes at) names =
    record {
      name = name;
      shape = shape_of (type_judged shape names);
      start = start_of start names;
      changes = changes;
    }
local_of other names = formal_of [] scalar.Bool

-- each local sees those before it
abbrev pub locals_of : Tree → Names → List Local
locals_of (tree.cons v vs) names = local_of v names ∷ locals_of vs (with_inner v names)
locals_of other names = []

-- ---- functions

-- the head of a function
pub record Head : Type 0 where
  pub formals : List Local
  pub result : Scalar

abbrev pub result_judged : Tree → List Local → Names → Judged Head
result_judged result formals names =
    and_so (single_type result (with_locals formals names))
    (λ t. Fine (record { formals = formals; result = t }))

abbrev pub head_judged : Tree → Names → Judged Head
head_judged (tree.function name formals result vars body at) names =
    and_so (formals_judged formals names) (λ fs. result_judged result fs names)
head_judged other names = Broken unknown_name 0

-- a function whose locals have types
abbrev pub fun_of : List ℕ → Head → Tree → Tree → Names → Fun
fun_of name head vars body names = record {
  name = name;
  formals = head.formals;
  locals = locals_of vars (with_locals head.formals names);
  result = head.result;
  body = written body (behind_vars vars (with_locals head.formals names));
}

-- ---- functions with a local whose type breaks a rule

-- a type that says what isn't known yet, or what isn't constant
abbrev pub is_awaited : Judged Shape → Bool
is_awaited (Fine t) = false
is_awaited (Broken rule at) = (rule.0 == unknown_name.0) || (rule.0 == not_constant.0)

-- A list of no elements over a type, so that evaluation meets the type: whatever it needs of it is met. A type that
-- breaks another rule isn't met.
abbrev pub type_met : Bool → Tree → Tree
type_met true shape = tree.cons (tree.comp (tree.number 0 0)
    (tree.cons (tree.gen shape (tree.ident [] 0) (tree.number 1 0) (tree.number 0 0) 0) tree.nil)
    0) tree.nil
type_met false shape = tree.nil

abbrev pub type_in : Tree → Tree
type_in (tree.var shape name start changes at) = shape
type_in other = tree.nil

abbrev pub met_if : Judged Shape → Tree → Tree → Tree
met_if (Fine t) v others = others
met_if (Broken rule at) v others = type_met (is_awaited (Broken rule at)) (type_in v)

-- the first type of these that breaks a rule
abbrev pub first_met : Tree → Names → Tree
first_met (tree.cons v vs) names =
    met_if (type_of_var v names) v (first_met vs (with_inner v names))
first_met other names = tree.nil

abbrev pub local_if : Judged Shape → Local → List Local → List Local
local_if (Fine t) x xs = x ∷ xs
local_if (Broken rule at) x xs = []

-- the locals before it
abbrev pub locals_before : Tree → Names → List Local
locals_before (tree.cons v vs) names =
    local_if (type_of_var v names) (local_of v names) (locals_before vs (with_inner v names))
locals_before other names = []

-- What a function with such a local is where it is called: evaluation goes through the locals before it, meets its type,
-- and comes no further. It lacks a name that has no value yet, or else it clashes, so it never gives a value.
abbrev pub useless_fun : List ℕ → Head → Tree → Names → Fun
useless_fun name head vars names = record {
  name = name;
  formals = head.formals;
  locals = locals_before vars (with_locals head.formals names);
  result = head.result;
  body = tree.prefix Not (tree.list (first_met vars (with_locals head.formals names)) 0) 0;
}

abbrev pub fun_if : Judged Names → List ℕ → Head → Tree → Tree → Names → Fun
fun_if (Fine inner) name head vars body names = fun_of name head vars body names
fun_if (Broken rule at) name head vars body names = useless_fun name head vars names

abbrev pub fun_judged : List ℕ → Tree → Names → Judged Fun
fun_judged full (tree.function name formals result vars body at) names =
    and_so (head_judged (tree.function name formals result vars body at) names) (λ head.
    Fine (fun_if (names_behind vars (with_locals head.formals names)) full head vars body names))
fun_judged full other names = Broken unknown_name 0

-- what is inside a function breaks, whose head breaks nothing
abbrev pub fun_inside : Tree → Names → Head → List Violation
fun_inside (tree.function name formals result vars body at) names head =
    starts_broken vars (with_locals head.formals names)
    ++ if_fine (names_behind vars (with_locals head.formals names))
    (λ inner. broken (stored_kind (kind_of_scalar head.result) body inner))
fun_inside other names head = []

abbrev pub fun_broken : Tree → Names → List Violation
fun_broken f names = while_fine (head_judged f names) (λ head. fun_inside f names head)

-- ---- functions that are seen

-- a function of a file, by the text that stands for it where it is used
pub record FunDecl : Type 0 where
  pub name : List ℕ
  -- the number of its file
  pub file : ℕ
  pub decl : Tree

abbrev pub with_fun : Judged Fun → List Fun → List Fun
with_fun (Fine f) fs = f ∷ fs
with_fun (Broken rule at) fs = fs

-- those whose heads break nothing over these names
abbrev pub funs_over : List FunDecl → Names → List Fun
funs_over [] names = []
funs_over (f ∷ fs) names = with_fun (fun_judged f.name f.decl names) (funs_over fs names)

-- A head may call functions in its sizes. None calls itself, directly or indirectly, so as many rounds as there are
-- functions find all heads.
abbrev pub funs_after : ℕ → List FunDecl → Names → List Fun
funs_after zero fs names = []
funs_after (suc n) fs names = funs_over fs (record names { funs = funs_after n fs names })

-- the names with all functions that are seen over them
abbrev pub with_funs : List FunDecl → Names → Names
with_funs fs names = record names { funs = funs_after (length fs) fs names }

-- ---- procedures

abbrev pub proc_of : List ℕ → List Local → Tree → Tree → Names → Proc
proc_of name formals vars body names = record {
  name = name;
  formals = formals;
  locals = locals_of vars (with_locals formals names);
  body = statement_written body (behind_vars vars (with_locals formals names));
}

abbrev pub proc_judged : Tree → Names → Judged Proc
proc_judged (tree.procedure (tree.ident name place) formals vars body at) names =
    and_so (formals_judged formals names) (λ fs. Fine (proc_of name fs vars body names))
proc_judged other names = Broken unknown_name 0

abbrev pub proc_inside : Tree → List Proc → Names → List Local → List Violation
proc_inside (tree.procedure name formals vars body at) procs names fs =
    starts_broken vars (with_locals fs names)
    ++ if_fine (names_behind vars (with_locals fs names))
    (λ inner. statement_broken body procs inner)
proc_inside other procs names fs = []

abbrev pub proc_broken : Tree → List Proc → Names → List Violation
proc_broken (tree.procedure name formals vars body at) procs names =
    while_fine (formals_judged formals names)
    (λ fs. proc_inside (tree.procedure name formals vars body at) procs names fs)
proc_broken other procs names = []
