use Rattle.std.proofs.lemmas.Result.{on_ok_weaker}
use Rattle.check_variable.proofs.Alone.{last_kept}
use Rattle.check_variable.proofs.variables.add_last.Goals as goal

pub returns : goal.returns
returns c =
    on_ok_weaker c.add.result
    (λ adds fs before x parts kept.
    last_kept c.args.names.now c.add.new.self fs c.args.known.now c.in-Some.field-0-1.now before c.in-Some.last.now x c.in-Some.ensures.cases.0 adds parts kept)
    c.add.ensures
