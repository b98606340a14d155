-- Parts of a network as they lie in memory, and what calls that evaluate them answer.
-- Not trusted: no promise is read with it.
use Rattle.std.specs.Prelude.{Bool, List, [], ◌∷◌, ◌++◌, ℕ, map, Option, None, Some, Vec, if◌then◌else◌}
use Rattle.std.specs.declared.alloc.Global.{Global}
use Rattle.std.specs.declared.result.Result.{Result}
use Rattle.rvc_base.specs.declared.refusal.Front.{Front}
use Rattle.rvc_base.specs.declared.refusal.Place.{Place}
use Rattle.cal_ast.specs.Places.{begins}
use Rattle.cal_ast.specs.View.{expr_tree}
use Rattle.cal_ast.specs.declared.expr.Expr.{Expr}
use Rattle.cal_check.specs.Variables.{VarDecl, given_broken, given_value, param_broken, value_of}
use Rattle.cal_check.specs.Violations.{Violation, all_broken, all_fine}
use Rattle.cal_model.specs.Kinding.{Judged, constant}
use Rattle.cal_model.specs.Value.{Value}
use Rattle.cal_model.specs.View.{shape_view, value_view}
use Rattle.cal_model.specs.declared.kind.Shape.{Shape}
use Rattle.cal_model.specs.declared.value.Value.{Value as DeclaredValue}
use Rattle.const_env.specs.Held.{Kept, globals_of, names_in}
use Rattle.fnl_bind.specs.Library.{params_of, ports_of, var_decl, var_decls}
use Rattle.fnl_bind.specs.Values.{ends_judged, instances_broken, values_broken}
use Rattle.fnl_frames.specs.Views.{decl_of, instance_of, net_of, port_of}
use Rattle.fnl_frames.specs.declared.net.NetDecl.{NetDecl}
use Rattle.fnl_frames.specs.declared.net.NetFile.{NetFile}
use Rattle.fnl_frames.specs.declared.net.NetInstance.{NetInstance}
use Rattle.fnl_frames.specs.declared.net.NetPort.{NetPort}
use Rattle.fnl_tree.specs.Tree.{Own}
use Rattle.fnl_tree.specs.View.{own_of}
use Rattle.fnl_tree.specs.declared.tree.LeafValue.{LeafValue}
use Rattle.fnl_tree.specs.declared.tree.NetEnd.{NetEnd}
use Rattle.check_given.specs.Given.{all_given, given_of, spot_of}
use Rattle.fnl_values.specs.Judging.{Comes, Declares, DeclaresAll, Settles, outcome_judged}
use Rattle.fnl_values.specs.Visiting.{AreVisits, visit_of}
use Rattle.fnl_values.specs.declared.declared.Told.{Told}
use Rattle.fnl_values.specs.declared.visits.Visit.{Visit as DeclaredVisit}

-- ---- expressions

abbrev pub outcome_in : Kept → Expr → Judged Value
outcome_in env e = outcome_judged (constant (expr_tree e) (names_in env)) (begins (expr_tree e))

abbrev pub value_given : LeafValue → Option Value
value_given g = Some (value_view g.value)

-- ---- declarations, where a network is told what it is given

abbrev pub IsValued : Result DeclaredValue Front → Told → NetDecl → Shape → Kept → Type 0
IsValued result told decl t env =
    Comes result (var_decl told.file (decl_of decl)) (all_given told.given.now)
    (spot_of told.owner) (shape_view t) (names_in env)

abbrev pub IsDeclared : Result (Unit {0}) Front → Told → NetDecl → Kept → Kept → Type 0
IsDeclared result told decl old new =
    Declares result (var_decl told.file (decl_of decl)) (all_given told.given.now)
    (spot_of told.owner) (globals_of old) (globals_of new)

abbrev pub AreDeclared : Result Kept Front → Told → List NetDecl → Type 0
AreDeclared result told decls =
    DeclaresAll result (var_decls told.file (map decl_of decls)) (all_given told.given.now)
    (spot_of told.owner)

-- ---- parameters

-- those that are declared in a file
abbrev pub params_in : ℕ → List NetDecl → List VarDecl
params_in file decls = params_of (var_decls file (map decl_of decls))

-- a parameter of a type has what it is given
abbrev pub SettlesGiven : Result DeclaredValue Front → Shape → LeafValue → Type 0
SettlesGiven result t given =
    Settles result (given_value (Some (given_of given)) (shape_view t) None)
    (given_broken (Some (given_of given)) (shape_view t))

-- a declaration of a file has what it is given, or else what it starts with
abbrev pub SettlesDecl : Result DeclaredValue Front → VarDecl → List LeafValue → Place → Shape
    → DeclaredValue → Type 0
SettlesDecl result x given owner t start =
    Settles result (value_of x (all_given given) (shape_view t) (Some (value_view start)))
    (param_broken x (all_given given) (spot_of owner) (shape_view t))

-- ---- ports

abbrev pub owns : Vec NetEnd Global → List Own
owns ends = map own_of ends.items

-- with one more at the end, or as they are
abbrev pub with_end_if : Bool → NetEnd → List Own → List Own
with_end_if more end ends = if more then ends ++ own_of end ∷ [] else ends

abbrev pub with_end_unless : Bool → NetEnd → List Own → List Own
with_end_unless less end ends = if less then ends else ends ++ own_of end ∷ []

abbrev pub ports_broken : Kept → List NetPort → List Violation
ports_broken env ports = all_broken (ends_judged (map port_of ports) (names_in env))

-- those of one direction with their types
abbrev pub typed_ends : Bool → Kept → List NetPort → Option (List Own)
typed_ends input env ports =
    all_fine (ends_judged (ports_of input (map port_of ports)) (names_in env))

-- ---- instances and networks

abbrev pub visits_broken : Kept → List NetInstance → List Violation
visits_broken env instances = instances_broken (map instance_of instances) (names_in env)

abbrev pub GivesTo : ℕ → Kept → List NetInstance → List DeclaredVisit → Type 0
GivesTo file env instances visits =
    AreVisits file (names_in env) (map instance_of instances) (map visit_of visits)

abbrev pub parts_broken : Kept → NetFile → List Violation
parts_broken env net =
    values_broken (net_of net).ports (net_of net).instances (net_of net).connections (names_in env)
