use Rattle.std.proofs.Common.{sym, subst}
use Rattle.const_env.specs.Counting.{names_view}
use Rattle.check_actor.specs.Parts.{BreaksParts}
use Rattle.check_actor.proofs.Putting.{parts_break}
use Rattle.check_actor.proofs.inside.built.Goals as goal

pub returns-in-Ok : goal.returns-in-Ok
returns-in-Ok c = record {
  is = λ gs owner parts. c.in-Ok.ensures.is _ gs owner parts;
  fine = c.in-Ok.ensures.fine;
  ordered = c.in-Ok.ensures.ordered;
}

pub returns-in-Err : goal.returns-in-Err
returns-in-Err c =
    let names = names_view c.args.names.now in
    subst (λ f. BreaksParts f c.args.bare c.args.scope.now names) (sym c.placed.ensures)
    (parts_break c.in-Err.fault c.args.bare c.args.scope.now names c.in-Err.ensures.broken)
