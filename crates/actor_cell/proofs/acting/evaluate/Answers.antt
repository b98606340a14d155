use Rattle.std.proofs.Common.{subst}
use Rattle.code_ir.specs.Code.{Code}
use Rattle.action_machine.specs.Kept.{IsMadeFor}
use Rattle.lowered_actor.specs.Actor.{action_of}
use Rattle.actor_cell.proofs.Bodies.{run-tokens, run-cut-off, run-done}
use Rattle.actor_cell.proofs.acting.evaluate.Goals as goal

pub run-requires-clause-tokens : goal.run-requires-clause-tokens
run-requires-clause-tokens g c =
    run-tokens c.args.actor.now c.code-code.ensures.facts c.args.state c.requires.state (g.T.Tokens.tokens c.args.tokens.now) c.args.a (action_of c.action-action.result.now)
    (record { there = c.action-action.ensures; has = c.requires.able.has }) c.runs_are_the_meaning.ensures.asked c.runs_are_the_meaning.ensures.firings
    c.args.cells.now.numbers c.requires.made.size c.code-code.result.now c.code-code.ensures.code c.deref.result.now c.deref.ensures.value

pub returns-in-Trap-clause-cut_off : goal.returns-in-Trap-clause-cut_off
returns-in-Trap-clause-cut_off g c =
    run-cut-off c.args.actor.now c.code-code.ensures.facts c.args.state c.requires.state (g.T.Tokens.tokens c.args.tokens.now) c.args.a (action_of c.action-action.result.now)
    (record { there = c.action-action.ensures; has = c.requires.able.has }) c.runs_are_the_meaning.ensures.asked c.runs_are_the_meaning.ensures.firings
    c.args.cells.now.numbers c.requires.made.size c.code-code.result.now c.code-code.ensures.code c.deref.result.now c.deref.ensures.value
    c.in-Trap.trap c.run.new.cells.numbers c.in-Trap.ensures.runs

pub returns-in_default : goal.returns-in_default
returns-in_default g c = record {
  done =
      run-done c.args.actor.now c.code-code.ensures.facts c.args.state c.requires.state (g.T.Tokens.tokens c.args.tokens.now) c.args.a (action_of c.action-action.result.now)
      (record { there = c.action-action.ensures; has = c.requires.able.has }) c.runs_are_the_meaning.ensures.asked c.runs_are_the_meaning.ensures.firings
      c.args.cells.now.numbers c.requires.made.size c.code-code.result.now c.code-code.ensures.code c.deref.result.now c.deref.ensures.value
      c.run.result c.run.new.cells.numbers c.run.ensures.runs c.in_default.not-Trap;
  cut_off = tt;
  made = subst (λ (d : Code). IsMadeFor d c.run.new.cells) c.code-code.ensures.code c.run.ensures.made;
}
