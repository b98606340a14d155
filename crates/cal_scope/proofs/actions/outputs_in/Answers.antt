use Rattle.std.proofs.Common.{◌≡◌, map, subst, rules}
use Rattle.cal_ast.specs.Tree.{listed}
use Rattle.cal_ast.specs.View.{output_tree}
use Rattle.cal_scope.specs.Judging.{Judges}
use Rattle.cal_scope.specs.Members.{outputs_resolved}
use Rattle.cal_scope.specs.Names.{within}
use Rattle.cal_scope.specs.PortView.{ports_view}
use Rattle.cal_scope.specs.View.{names_view}
use Rattle.cal_scope.specs.declared.frames.Frame as chain
use Rattle.cal_scope.proofs.actions.outputs_in.Goals as goal

pub returns : goal.returns
returns c =
    let names : names_view c.under.result ≡ within c.args.here.now (names_view c.args.names.now) = search (rules, chain.the_lemmas) in
    subst (λ ns. Judges (λ found. map output_tree found.items) c.outputs.result (outputs_resolved (listed (map output_tree c.args.list.now)) (ports_view c.args.ports.now) ns)) names c.outputs.ensures
