use Rattle.std.specs.Prelude.{◌∷◌, []}
use Rattle.cal_ast.specs.View.{procedure_tree}
use Rattle.cal_check.specs.Actors.{formals_broken}
use Rattle.const_env.specs.Counting.{names_view}
use Rattle.check_actor.proofs.Sifted.{formals_few, lacks_none}
use Rattle.check_actor.proofs.sifting.sift_formals.Goals as goal

pub returns-in-Ok : goal.returns-in-Ok
returns-in-Ok c = lacks_none c.args.file (formals_broken (procedure_tree c.args.p.now ∷ []) (names_view c.args.names.now)) c.in-Ok.ensures

pub returns-in-Err : goal.returns-in-Err
returns-in-Err c =
    let names = names_view c.args.names.now in
    c.passed.ensures (formals_broken (procedure_tree c.args.p.now ∷ []) names) (formals_few c.args.p.now names) c.in-Err.ensures
