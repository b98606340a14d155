use Rattle.std.proofs.Common.{ap, arith}
use Rattle.std.proofs.lemmas.List.{length-map}
use Rattle.cal_model.specs.View.{actor_of, proc_view}
use Rattle.lower_base.specs.Callees.{functions_view}
use Rattle.lower_stmt.specs.Procedures.{procedures_view}
use Rattle.lower_actor.proofs.Chosen.{procedures-at-first}
use Rattle.lower_actor.proofs.Ready.{all-procedures}
use Rattle.lower_actor.proofs.procedures.lower_procedures.Goals as goal

pub lower_these-requires-clause-so_far : goal.lower_these-requires-clause-so_far
lower_these-requires-clause-so_far c =
    procedures-at-first (actor_of c.args.b.now) (functions_view c.args.callees.now) (procedures_view c.new-procedures.result.items) c.in_ok-made.made.items c.len.result c.args.draft.now c.requires.none (ap procedures_view c.new-procedures.ensures.items)
    c.in_ok-made.ensures (let e = length-map c.args.b.now.procs.items proc_view in let f = c.len.ensures in omega (arith, e, f))

pub returns-clause-all : goal.returns-clause-all
returns-clause-all c = all-procedures c.args.b.now c.requires.sound (functions_view c.args.callees.now) (procedures_view c.lower_left.new.procedures.items) c.lower_left.new.made.items c.in_ok-lower_left.ensures.so_far.known c.in_ok-lower_left.ensures.none
