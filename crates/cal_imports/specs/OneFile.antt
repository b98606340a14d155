-- A file with each name written out in full, or the first rule of scope that it breaks.
-- Trusted: part of what a promise means.
use Rattle.std.specs.Prelude.{List, [], ◌∷◌}
use Rattle.rvc_base.specs.Rules.{unknown_name}
use Rattle.cal_ast.specs.Tree as tree
use Rattle.cal_ast.specs.Tree.{Tree, listed}
use Rattle.cal_model.specs.Kinding.{Judged, Fine, Broken, and_so}
use Rattle.cal_scope.specs.Asked.{outermost}
use Rattle.cal_scope.specs.Expressions.{optional_resolved, type_resolved}
use Rattle.cal_scope.specs.Members.{members_resolved, ports_of}
use Rattle.cal_scope.specs.Names.{Global, Names}
use Rattle.cal_imports.specs.Brought.{names_seen}
use Rattle.cal_imports.specs.Answer.{Answer, and_then, in_file}
use Rattle.cal_imports.specs.Sources.{Source, body_of}

-- ---- headers

-- a parameter, whose type and default see the names of the file
abbrev pub param_resolved : Tree → Names → Judged Tree
param_resolved (tree.param shape name start at) names =
    and_so (type_resolved shape names)
    (λ t. and_so (optional_resolved start names) (λ e. Fine (tree.param t name e at)))
param_resolved other names = Broken unknown_name 0

abbrev pub params_resolved : Tree → Names → Judged (List Tree)
params_resolved tree.nil names = Fine []
params_resolved (tree.cons p ps) names = and_so (param_resolved p names)
    (λ r. and_so (params_resolved ps names) (λ rs. Fine (r ∷ rs)))
params_resolved other names = Broken unknown_name 0

-- a port of a header, whose type sees them too
abbrev pub port_resolved : Tree → Names → Judged Tree
port_resolved (tree.port shape name at) names =
    and_so (type_resolved shape names) (λ t. Fine (tree.port t name at))
port_resolved other names = Broken unknown_name 0

abbrev pub header_resolved : Tree → Names → Judged (List Tree)
header_resolved tree.nil names = Fine []
header_resolved (tree.cons p ps) names = and_so (port_resolved p names)
    (λ r. and_so (header_resolved ps names) (λ rs. Fine (r ∷ rs)))
header_resolved other names = Broken unknown_name 0

-- ---- bodies

-- an actor's parts in the order of its text
abbrev pub body_resolved : Tree → List Global → Judged Tree
body_resolved (tree.actor name params ins outs members at) seen =
    and_so (params_resolved params (outermost seen)) (λ ps.
    and_so (header_resolved ins (outermost seen)) (λ is.
    and_so (header_resolved outs (outermost seen)) (λ os.
    and_so (members_resolved members (ports_of ins outs) (outermost seen)) (λ ms.
    Fine (tree.actor name (listed ps) (listed is) (listed os) (listed ms) at)))))
body_resolved (tree.unit name members at) seen =
    and_so (members_resolved members (ports_of tree.nil tree.nil) (outermost seen))
    (λ ms. Fine (tree.unit name (listed ms) at))
body_resolved other seen = Broken unknown_name 0

-- a file among others
abbrev pub source_resolved : List Source → Source → Answer Tree
source_resolved files s =
    and_then (names_seen files s) (λ seen. in_file s.file (body_resolved (body_of s.tree) seen))
