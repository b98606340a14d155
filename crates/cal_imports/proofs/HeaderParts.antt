-- Lists of parameters and ports as parts in order.
use Rattle.std.proofs.Common.{◌≡◌, List, [], ◌∷◌, refl, ap}
use Rattle.cal_ast.specs.Tree.{Tree}
use Rattle.cal_ast.specs.View.{param_tree, port_tree}
use Rattle.cal_ast.specs.declared.member.Param.{Param}
use Rattle.cal_ast.specs.declared.member.PortDecl.{PortDecl}
use Rattle.cal_model.specs.Kinding.{Judged, Fine, and_so}
use Rattle.cal_scope.specs.Asked.{params_tree, ports_tree}
use Rattle.cal_scope.specs.Names.{Names}
use Rattle.cal_scope.proofs.Judged.{so_ext}
use Rattle.cal_scope.proofs.Loops.{each_in}
use Rattle.cal_imports.specs.OneFile.{header_resolved, param_resolved, params_resolved, port_resolved}

-- what is seen stays the same
abbrev pub stay : {A : Type 0} → A → Names → Names
stay x names = names

abbrev pub param_part : Param → Names → Judged Tree
param_part p names = param_resolved (param_tree p) names

abbrev pub port_part : PortDecl → Names → Judged Tree
port_part p names = port_resolved (port_tree p) names

pub params_each : (ps : List Param) (names : Names) → params_resolved (params_tree ps) names ≡ each_in param_part stay ps names
params_each [] names = refl
params_each (p ∷ ps) names = so_ext (param_part p names) _ _ (λ r. ap (λ o. and_so o (λ rs. Fine (r ∷ rs))) (params_each ps names))

pub ports_each : (ps : List PortDecl) (names : Names) → header_resolved (ports_tree ps) names ≡ each_in port_part stay ps names
ports_each [] names = refl
ports_each (p ∷ ps) names = so_ext (port_part p names) _ _ (λ r. ap (λ o. and_so o (λ rs. Fine (r ∷ rs))) (ports_each ps names))
