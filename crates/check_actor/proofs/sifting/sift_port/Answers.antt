use Rattle.std.proofs.Common.{Ok}
use Rattle.cal_ast.specs.View.{port_tree}
use Rattle.cal_check.specs.Ports.{port_judged}
use Rattle.cal_check.specs.Violations.{broken}
use Rattle.const_env.specs.Counting.{names_view}
use Rattle.check_actor.proofs.Sifted.{few_broken, lacks_none, port_sifted}
use Rattle.check_actor.proofs.sifting.sift_port.Goals as goal

pub returns-in-Ok : goal.returns-in-Ok
returns-in-Ok c = λ more.
    let names = names_view c.args.names.now in
    port_sifted (Ok tt) c.args.file (port_tree c.args.p.now) more names (lacks_none c.args.file (broken (port_judged (port_tree c.args.p.now) names)) c.in-Ok.ensures)

pub returns-in-Err : goal.returns-in-Err
returns-in-Err c = λ more.
    let names = names_view c.args.names.now in
    let j = port_judged (port_tree c.args.p.now) names in
    port_sifted c.passed.result c.args.file (port_tree c.args.p.now) more names (c.passed.ensures (broken j) (few_broken j) c.in-Err.ensures)
