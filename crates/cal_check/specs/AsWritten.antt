-- Functions, procedures and actions as they stand in the source: sizes and bounds in expressions aren't written out.
-- Trusted: part of what a promise means.
use Rattle.std.specs.Prelude.{◌≡◌, ℕ, ℤ, List, [], ◌∷◌, Contains, Option, None, Some}
use Rattle.rvc_base.specs.declared.scalar.Scalar.TheVariants as scalar
use Rattle.rvc_base.specs.Rules.{unknown_name}
use Rattle.cal_ast.specs.Tree as tree
use Rattle.cal_ast.specs.Tree.{Tree}
use Rattle.cal_model.specs.Value.{Values}
use Rattle.cal_model.specs.Outcome.{Out, Gives, and_then}
use Rattle.cal_model.specs.Env.{Env, Var}
use Rattle.cal_model.specs.Expression.{Calls}
use Rattle.cal_model.specs.Actor.{Action, Fun, Local, Output, Port, Proc}
use Rattle.cal_model.specs.Call.{calls_of, declared}
use Rattle.cal_model.specs.Statement.{Runs, exec_all, runs_of}
use Rattle.cal_model.specs.Selection.{guards_say}
use Rattle.cal_model.specs.Firing.{outputs}
use Rattle.cal_model.specs.Kinding.{Judged, Fine, Broken, and_so, Names, type_judged}
use Rattle.cal_model.specs.Sound.{with_locals}
use Rattle.cal_check.specs.Actions.{Around, action_of, body_of, with_all_patterns}
use Rattle.cal_check.specs.Actors.{Conforms, Source, all_funs, around_of}
use Rattle.cal_check.specs.Meaning.{HasConstants, HoldsConstants}
use Rattle.cal_check.specs.Routines.{FunDecl, Head, formal_of, formals_judged, head_judged, shape_of, with_fun}
use Rattle.cal_check.specs.Sources.{IsSourceFormed, actions_of_source, procs_of_source}
use Rattle.cal_check.specs.Variables.{Given, Spot}
use Rattle.cal_check.specs.Written.{with_inner}

abbrev pub start_as_is : Tree → Option Tree
start_as_is (tree.present e) = Some e
start_as_is other = None

abbrev pub local_as_is : Tree → Names → Local
local_as_is (tree.var shape (tree.ident name place) start changes at) names =
    record {
      name = name;
      shape = shape_of (type_judged shape names);
      start = start_as_is start;
      changes = changes;
    }
local_as_is other names = formal_of [] scalar.Bool

-- each local sees those before it
abbrev pub locals_as_are : Tree → Names → List Local
locals_as_are (tree.cons v vs) names =
    local_as_is v names ∷ locals_as_are vs (with_inner v names)
locals_as_are other names = []

abbrev pub fun_as_is : List ℕ → Head → Tree → Tree → Names → Fun
fun_as_is name head vars body names = record {
  name = name;
  formals = head.formals;
  locals = locals_as_are vars (with_locals head.formals names);
  result = head.result;
  body = body;
}

abbrev pub fun_judged_as_is : List ℕ → Tree → Names → Judged Fun
fun_judged_as_is full (tree.function name formals result vars body at) names =
    and_so (head_judged (tree.function name formals result vars body at) names) (λ head.
    Fine (fun_as_is full head vars body names))
fun_judged_as_is full other names = Broken unknown_name 0

-- those whose heads break nothing over these names
abbrev pub funs_as_are : List FunDecl → Names → List Fun
funs_as_are [] names = []
funs_as_are (f ∷ fs) names = with_fun (fun_judged_as_is f.name f.decl names) (funs_as_are fs names)

abbrev pub proc_as_is : List ℕ → List Local → Tree → Tree → Names → Proc
proc_as_is name formals vars body names = record {
  name = name;
  formals = formals;
  locals = locals_as_are vars (with_locals formals names);
  body = body;
}

abbrev pub proc_judged_as_is : Tree → Names → Judged Proc
proc_judged_as_is (tree.procedure (tree.ident name place) formals vars body at) names =
    and_so (formals_judged formals names) (λ fs. Fine (proc_as_is name fs vars body names))
proc_judged_as_is other names = Broken unknown_name 0

abbrev pub with_proc : Judged Proc → List Proc → List Proc
with_proc (Fine p) ps = p ∷ ps
with_proc (Broken rule at) ps = ps

abbrev pub procs_as_are : List Tree → Names → List Proc
procs_as_are [] names = []
procs_as_are (p ∷ ps) names = with_proc (proc_judged_as_is p names) (procs_as_are ps names)

abbrev pub guards_as_are : Tree → List Tree
guards_as_are (tree.cons e es) = e ∷ guards_as_are es
guards_as_are other = []

abbrev pub output_as_is : Tree → Output → Output
output_as_is (tree.output asked values repeat at) o = record o { values = values }
output_as_is other o = o

abbrev pub outputs_as_are : Tree → List Output → List Output
outputs_as_are (tree.cons o os) (x ∷ xs) = output_as_is o x ∷ outputs_as_are os xs
outputs_as_are os xs = []

-- an action, with its expressions and statements as they stand
abbrev pub action_as_is : Tree → Around → Action → Action
action_as_is (tree.action tagged initialize patterns outputs guards vars body at) around act =
    record act {
      outputs = outputs_as_are outputs act.outputs;
      guards = guards_as_are guards;
      locals = locals_as_are vars (with_all_patterns around.ins act.patterns around.names);
      body = body_of body;
    }
action_as_is other around act = act

-- what an action does: its locals in order, its body, and then its outputs, with one count of turns
abbrev pub done_by :
    List Port → Action → Calls → Runs → Env → ℕ → Out (List Var × List (ℕ × List ℤ))
done_by ports act calls runs env left =
    and_then (declared act.locals calls env left) (λ inner m.
    and_then (exec_all act.body calls runs inner m) (λ last k.
    and_then (outputs ports act.outputs calls last k) (λ sent j. Gives (last.globals, sent) j)))

-- ---- what a source calls and runs

-- its functions as they are written out, and as they stand
abbrev pub calls_written : Source → List Given → Spot → Calls
calls_written s gs owner = calls_of (around_of s gs owner).names.funs

abbrev pub calls_as_are : Source → List Given → Spot → Calls
calls_as_are s gs owner = calls_of (funs_as_are (all_funs s) (around_of s gs owner).names)

-- its procedures, over its functions
abbrev pub runs_written : Source → List Given → Spot → Runs
runs_written s gs owner = runs_of (around_of s gs owner).procs (calls_written s gs owner)

abbrev pub runs_as_are : Source → List Given → Spot → Runs
runs_as_are s gs owner =
    runs_of (procs_as_are (procs_of_source s) (around_of s gs owner).names)
    (calls_as_are s gs owner)

-- an action as it is written out, and as it stands
abbrev pub act_written : Source → List Given → Spot → Tree → Action
act_written s gs owner a = action_of a (around_of s gs owner)

abbrev pub act_as_is : Source → List Given → Spot → Tree → Action
act_as_is s gs owner a = action_as_is a (around_of s gs owner) (act_written s gs owner a)

-- what an action sees: its pattern variables inside the names of the actor
abbrev pub seen_in_action : Source → List Given → Spot → Tree → Names
seen_in_action s gs owner a =
    with_all_patterns (around_of s gs owner).ins (act_written s gs owner a).patterns
    (around_of s gs owner).names

-- ---- the laws, of a source that breaks no rule

-- functions give what they give as they stand, over all globals that have the constants, ..
abbrev pub FunctionsGiveTheSame : Type 0
FunctionsGiveTheSame =
    (s : Source) (gs : List Given) (owner : Spot) (vars : List Var) (name : List ℕ) (args : Values)
    (left : ℕ)
    → IsSourceFormed s → Conforms s gs owner
    → HasConstants (around_of s gs owner).names.globals vars
    → calls_written s gs owner vars name args left ≡ calls_as_are s gs owner vars name args left

-- .. procedures do what they do as they stand, ..
abbrev pub ProceduresDoTheSame : Type 0
ProceduresDoTheSame =
    (s : Source) (gs : List Given) (owner : Spot) (vars : List Var) (name : List ℕ) (args : Values)
    (left : ℕ)
    → IsSourceFormed s → Conforms s gs owner
    → HasConstants (around_of s gs owner).names.globals vars
    → runs_written s gs owner vars name args left ≡ runs_as_are s gs owner vars name args left

-- .. and guards say, and locals, bodies and outputs of actions do, what they do as they stand
abbrev pub ActionsDoTheSame : Type 0
ActionsDoTheSame =
    (s : Source) (gs : List Given) (owner : Spot) (a : Tree) (env : Env) (left : ℕ)
    → IsSourceFormed s → Conforms s gs owner → Contains (actions_of_source s) a
    → HoldsConstants (seen_in_action s gs owner a) env
    → (guards_say (act_written s gs owner a).guards (calls_written s gs owner) env
    ≡ guards_say (act_as_is s gs owner a).guards (calls_as_are s gs owner) env)
    × (done_by (around_of s gs owner).outs (act_written s gs owner a) (calls_written s gs owner)
    (runs_written s gs owner) env left
    ≡ done_by (around_of s gs owner).outs (act_as_is s gs owner a) (calls_as_are s gs owner)
    (runs_as_are s gs owner) env left)
