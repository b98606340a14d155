use Rattle.std.proofs.Common.{◌≡◌, false, [], sym, subst, rules}
use Rattle.std.specs.Prelude.{string_bytes}
use Rattle.cal_ast.specs.View.{port_tree}
use Rattle.cal_scope.specs.Judging.{Judges}
use Rattle.cal_scope.specs.Members.{formal_resolved}
use Rattle.cal_scope.specs.Names.{is_among, within}
use Rattle.cal_scope.specs.View.{names_view}
use Rattle.cal_scope.specs.declared.frames.Frame as chain
use Rattle.cal_scope.proofs.EachOf.{new_formal}
use Rattle.cal_scope.proofs.vars.formal.Goals as goal

pub returns : goal.returns
returns c =
    let names : names_view c.under.result ≡ within c.args.here.now (names_view c.args.names.now) = search (rules, chain.the_lemmas) in
    let away : is_among (string_bytes c.args.f.now.name.text) c.args.here.now ≡ false = search rules in
    subst (λ o. Judges port_tree c.first_formal.result o) (sym (new_formal c.args.f.now c.args.here.now (within c.args.here.now (names_view c.args.names.now)) away))
    (subst (λ ns. Judges port_tree c.first_formal.result (formal_resolved (port_tree c.args.f.now) [] ns)) names c.first_formal.ensures)
