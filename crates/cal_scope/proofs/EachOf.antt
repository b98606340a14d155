-- Lists of variables, formals, statements, patterns, outputs and members as parts in order.
use Rattle.std.proofs.Common.{◌≡◌, ℕ, false, List, [], ◌∷◌, map, refl, ap}
use Rattle.std.specs.Prelude.{string_bytes, if◌then◌else◌}
use Rattle.rvc_base.specs.Rules.{declared_twice}
use Rattle.cal_ast.specs.Tree as tree
use Rattle.cal_ast.specs.Tree.{Tree, listed}
use Rattle.cal_ast.specs.View.{ident_tree, member_tree, optional_expr, output_tree, pattern_tree, port_tree, stmt_tree, type_tree, var_tree}
use Rattle.cal_ast.specs.declared.action.Output.{Output}
use Rattle.cal_ast.specs.declared.action.Pattern.{Pattern}
use Rattle.cal_ast.specs.declared.member.Member.{Member}
use Rattle.cal_ast.specs.declared.member.PortDecl.{PortDecl}
use Rattle.cal_ast.specs.declared.member.VarDecl.{VarDecl}
use Rattle.cal_ast.specs.declared.stmt.Stmt.{Stmt}
use Rattle.cal_model.specs.Kinding.{Judged, Fine, Broken, and_so}
use Rattle.cal_scope.specs.Names.{Names, is_among, with_name, within}
use Rattle.cal_scope.specs.Expressions.{declared_name, optional_resolved, type_resolved}
use Rattle.cal_scope.specs.Statements.{stmt_resolved, stmts_resolved, var_resolved, vars_resolved}
use Rattle.cal_scope.specs.Members.{Ports, formal_resolved, formals_resolved, member_resolved, members_resolved, output_resolved, outputs_resolved, pattern_names, pattern_resolved, patterns_resolved, declared_by_patterns}
use Rattle.cal_scope.proofs.Judged.{so_ext}
use Rattle.cal_scope.proofs.Loops.{after, each_in}
use Rattle.cal_scope.proofs.Each.{stay}

abbrev pub var_part : Names → VarDecl → List (List ℕ) → Judged Tree
var_part names v here = var_resolved (var_tree v) here (within here names)

abbrev pub var_next : VarDecl → List (List ℕ) → List (List ℕ)
var_next v here = with_name (declared_name (var_tree v)) here

pub vars_each : (vs : List VarDecl) (here : List (List ℕ)) (names : Names) → vars_resolved (listed (map var_tree vs)) here names ≡ each_in (var_part names) var_next vs here
vars_each [] here names = refl
vars_each (v ∷ vs) here names = so_ext (var_part names v here) _ _ (λ r. ap (λ o. and_so o (λ rs. Fine (r ∷ rs))) (vars_each vs (var_next v here) names))

-- a name that its scope hasn't declared yet
pub new_var : (v : VarDecl) (here : List (List ℕ)) (names : Names) → is_among (string_bytes v.name.text) here ≡ false → var_resolved (var_tree v) here names ≡ var_resolved (var_tree v) [] names
new_var v here names h =
    ap (λ b. if b then Broken declared_twice v.at else and_so (type_resolved (type_tree v.shape) names) (λ t. and_so (optional_resolved (optional_expr v.start) names) (λ e. Fine (tree.var t (ident_tree v.name) e v.changes v.at)))) h

pub new_formal : (f : PortDecl) (here : List (List ℕ)) (names : Names) → is_among (string_bytes f.name.text) here ≡ false → formal_resolved (port_tree f) here names ≡ formal_resolved (port_tree f) [] names
new_formal f here names h = ap (λ b. if b then Broken declared_twice f.at else and_so (type_resolved (type_tree f.shape) names) (λ t. Fine (tree.port t (ident_tree f.name) f.at))) h

abbrev pub formal_part : Names → PortDecl → List (List ℕ) → Judged Tree
formal_part names f here = formal_resolved (port_tree f) here (within here names)

abbrev pub formal_next : PortDecl → List (List ℕ) → List (List ℕ)
formal_next f here = with_name (declared_name (port_tree f)) here

pub formals_each : (fs : List PortDecl) (here : List (List ℕ)) (names : Names) → formals_resolved (listed (map port_tree fs)) here names ≡ each_in (formal_part names) formal_next fs here
formals_each [] here names = refl
formals_each (f ∷ fs) here names = so_ext (formal_part names f here) _ _ (λ r. ap (λ o. and_so o (λ rs. Fine (r ∷ rs))) (formals_each fs (formal_next f here) names))

abbrev pub stmt_part : Stmt → Names → Judged Tree
stmt_part s names = stmt_resolved (stmt_tree s) names

pub stmts_each : (ss : List Stmt) (names : Names) → stmts_resolved (listed (map stmt_tree ss)) names ≡ each_in stmt_part stay ss names
stmts_each [] names = refl
stmts_each (s ∷ ss) names = so_ext (stmt_part s names) _ _ (λ r. ap (λ o. and_so o (λ rs. Fine (r ∷ rs))) (stmts_each ss names))

abbrev pub pattern_part : Ports → Names → Pattern → List (List ℕ) → Judged Tree
pattern_part ports names p here = pattern_resolved (pattern_tree p) ports here names

abbrev pub pattern_next : Pattern → List (List ℕ) → List (List ℕ)
pattern_next p here = pattern_names (pattern_tree p) here

pub patterns_each : (ps : List Pattern) (ports : Ports) (here : List (List ℕ)) (names : Names) → patterns_resolved (listed (map pattern_tree ps)) ports here names ≡ each_in (pattern_part ports names) pattern_next ps here
patterns_each [] ports here names = refl
patterns_each (p ∷ ps) ports here names = so_ext (pattern_part ports names p here) _ _ (λ r. ap (λ o. and_so o (λ rs. Fine (r ∷ rs))) (patterns_each ps ports (pattern_next p here) names))

pub patterns_after : (ps : List Pattern) (here : List (List ℕ)) → declared_by_patterns (listed (map pattern_tree ps)) here ≡ after pattern_next ps here
patterns_after [] here = refl
patterns_after (p ∷ ps) here = patterns_after ps (pattern_next p here)

abbrev pub output_part : Ports → Output → Names → Judged Tree
output_part ports o names = output_resolved (output_tree o) ports names

pub outputs_each : (os : List Output) (ports : Ports) (names : Names) → outputs_resolved (listed (map output_tree os)) ports names ≡ each_in (output_part ports) stay os names
outputs_each [] ports names = refl
outputs_each (o ∷ os) ports names = so_ext (output_part ports o names) _ _ (λ r. ap (λ p. and_so p (λ rs. Fine (r ∷ rs))) (outputs_each os ports names))

abbrev pub member_part : Ports → Member → Names → Judged Tree
member_part ports m names = member_resolved (member_tree m) ports names

pub members_each : (ms : List Member) (ports : Ports) (names : Names) → members_resolved (listed (map member_tree ms)) ports names ≡ each_in (member_part ports) stay ms names
members_each [] ports names = refl
members_each (m ∷ ms) ports names = so_ext (member_part ports m names) _ _ (λ r. ap (λ o. and_so o (λ rs. Fine (r ∷ rs))) (members_each ms ports names))
