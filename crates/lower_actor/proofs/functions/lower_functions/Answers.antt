use Rattle.std.proofs.Common.{ap, arith}
use Rattle.std.proofs.lemmas.List.{length-map}
use Rattle.cal_model.specs.View.{actor_of, fun_view}
use Rattle.lower_base.specs.Callees.{functions_view}
use Rattle.lower_actor.proofs.Chosen.{functions-at-first}
use Rattle.lower_actor.proofs.Ready.{all-functions, have-routines}
use Rattle.lower_actor.proofs.functions.lower_functions.Goals as goal

pub lower_these-requires-clause-so_far : goal.lower_these-requires-clause-so_far
lower_these-requires-clause-so_far c =
    functions-at-first (actor_of c.args.b.now) (functions_view c.new-callees.result.items) c.in_ok-made.made.items c.len.result c.args.draft.now c.requires.none (ap functions_view c.new-callees.ensures.items) c.in_ok-made.ensures
    (let e = length-map c.args.b.now.funs.items fun_view in let f = c.len.ensures in omega (arith, e, f))

pub returns-clause-all : goal.returns-clause-all
returns-clause-all c = all-functions c.args.b.now c.requires.sound (functions_view c.lower_left.new.callees.items) c.lower_left.new.made.items c.in_ok-lower_left.ensures.so_far.known c.in_ok-lower_left.ensures.none

pub returns-clause-have : goal.returns-clause-have
returns-clause-have c = have-routines c.args.b.now c.requires.sound (functions_view c.lower_left.new.callees.items) c.lower_left.new.made.items c.in_ok-lower_left.ensures.so_far.known c.in_ok-lower_left.ensures.none
