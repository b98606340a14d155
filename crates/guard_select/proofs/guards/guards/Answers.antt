use Rattle.std.proofs.Common.{subst, sym}
use Rattle.code_ir.specs.Code.{Code}
use Rattle.action_machine.specs.Kept.{IsMadeFor}
use Rattle.lowered_actor.specs.Actor.{action_of}
use Rattle.guard_select.specs.Selecting.{state_of}
use Rattle.guard_select.proofs.Says.{turn-entry, turn-tokens, turn-keeps, turn-true, turn-trap, turn-false, all-true}
use Rattle.guard_select.proofs.guards.guards.Goals as goal

pub run-requires-clause-entry : goal.run-requires-clause-entry
run-requires-clause-entry g c =
    turn-entry c.args.actor.now c.code-code.ensures.facts c.args.state c.requires.state (g.T.Tokens.tokens c.args.tokens.now) c.args.a (action_of c.action-action.result.now)
    (record { there = c.action-action.ensures; has = c.requires.has }) c.requires.eligible c.runs_are_the_meaning.ensures.asked c.runs_are_the_meaning.ensures.guards
    c.args.cells.now.numbers c.requires.made.size c.loop-entry.cells.numbers c.loop-entry.invariant.made.size c.loop-entry.invariant.state
    c.deref-entry-items.result.now c.deref-entry-items.ensures.value c.loop-entry.entry-index c.loop-entry-test.true
    c.code-code.result.now c.code-code.ensures.code c.deref.result.now c.deref.ensures.value

pub run-requires-clause-made : goal.run-requires-clause-made
run-requires-clause-made g c = subst (λ (d : Code). IsMadeFor d c.loop-entry.cells) (sym c.code-code.ensures.code) c.loop-entry.invariant.made

pub run-requires-clause-tokens : goal.run-requires-clause-tokens
run-requires-clause-tokens g c =
    turn-tokens c.args.actor.now c.code-code.ensures.facts c.args.state c.requires.state (g.T.Tokens.tokens c.args.tokens.now) c.args.a (action_of c.action-action.result.now)
    (record { there = c.action-action.ensures; has = c.requires.has }) c.requires.eligible c.runs_are_the_meaning.ensures.asked c.runs_are_the_meaning.ensures.guards
    c.args.cells.now.numbers c.requires.made.size c.loop-entry.cells.numbers c.loop-entry.invariant.made.size c.loop-entry.invariant.state
    c.deref-entry-items.result.now c.deref-entry-items.ensures.value c.loop-entry.entry-index c.loop-entry-test.true
    c.code-code.result.now c.code-code.ensures.code c.deref.result.now c.deref.ensures.value

pub returns-in-Trap-clause-says : goal.returns-in-Trap-clause-says
returns-in-Trap-clause-says g c =
    turn-trap c.args.actor.now c.code-code.ensures.facts c.args.state c.requires.state (g.T.Tokens.tokens c.args.tokens.now) c.args.a (action_of c.action-action.result.now)
    (record { there = c.action-action.ensures; has = c.requires.has }) c.requires.eligible c.runs_are_the_meaning.ensures.asked c.runs_are_the_meaning.ensures.guards
    c.args.cells.now.numbers c.requires.made.size c.loop-entry.cells.numbers c.loop-entry.invariant.made.size c.loop-entry.invariant.state
    c.deref-entry-items.result.now c.deref-entry-items.ensures.value c.loop-entry.entry-index c.loop-entry-test.true
    c.code-code.result.now c.code-code.ensures.code c.deref.result.now c.deref.ensures.value
    c.in-Trap.trap c.run.new.cells.numbers c.in-Trap.ensures.runs c.loop-entry.invariant.says

pub returns-in-Trap-clause-keeps : goal.returns-in-Trap-clause-keeps
returns-in-Trap-clause-keeps g c = record {
  made = subst (λ (d : Code). IsMadeFor d c.run.new.cells) c.code-code.ensures.code c.run.ensures.made;
  state = turn-keeps c.args.actor.now c.code-code.ensures.facts c.args.state c.requires.state (g.T.Tokens.tokens c.args.tokens.now) c.args.a (action_of c.action-action.result.now)
      (record { there = c.action-action.ensures; has = c.requires.has }) c.requires.eligible c.runs_are_the_meaning.ensures.asked c.runs_are_the_meaning.ensures.guards
      c.args.cells.now.numbers c.requires.made.size c.loop-entry.cells.numbers c.loop-entry.invariant.made.size c.loop-entry.invariant.state
      c.deref-entry-items.result.now c.deref-entry-items.ensures.value c.loop-entry.entry-index c.loop-entry-test.true
      c.code-code.result.now c.code-code.ensures.code c.deref.result.now c.deref.ensures.value
      c.run.result c.run.new.cells.numbers c.run.ensures.runs;
}

pub returns-in_default-clause-says : goal.returns-in_default-clause-says
returns-in_default-clause-says g c =
    turn-false c.args.actor.now c.code-code.ensures.facts c.args.state c.requires.state (g.T.Tokens.tokens c.args.tokens.now) c.args.a (action_of c.action-action.result.now)
    (record { there = c.action-action.ensures; has = c.requires.has }) c.requires.eligible c.runs_are_the_meaning.ensures.asked c.runs_are_the_meaning.ensures.guards
    c.args.cells.now.numbers c.requires.made.size c.loop-entry.cells.numbers c.loop-entry.invariant.made.size c.loop-entry.invariant.state
    c.deref-entry-items.result.now c.deref-entry-items.ensures.value c.loop-entry.entry-index c.loop-entry-test.true
    c.code-code.result.now c.code-code.ensures.code c.deref.result.now c.deref.ensures.value
    c.run.result c.run.new.cells.numbers c.run.ensures.runs c.in_default.not-True c.in_default.not-Trap c.loop-entry.invariant.says

pub returns-in_default-clause-keeps : goal.returns-in_default-clause-keeps
returns-in_default-clause-keeps g c = record {
  made = subst (λ (d : Code). IsMadeFor d c.run.new.cells) c.code-code.ensures.code c.run.ensures.made;
  state = turn-keeps c.args.actor.now c.code-code.ensures.facts c.args.state c.requires.state (g.T.Tokens.tokens c.args.tokens.now) c.args.a (action_of c.action-action.result.now)
      (record { there = c.action-action.ensures; has = c.requires.has }) c.requires.eligible c.runs_are_the_meaning.ensures.asked c.runs_are_the_meaning.ensures.guards
      c.args.cells.now.numbers c.requires.made.size c.loop-entry.cells.numbers c.loop-entry.invariant.made.size c.loop-entry.invariant.state
      c.deref-entry-items.result.now c.deref-entry-items.ensures.value c.loop-entry.entry-index c.loop-entry-test.true
      c.code-code.result.now c.code-code.ensures.code c.deref.result.now c.deref.ensures.value
      c.run.result c.run.new.cells.numbers c.run.ensures.runs;
}

pub loop-entry-preserved : goal.loop-entry-preserved
loop-entry-preserved g c = record {
  made = subst (λ (d : Code). IsMadeFor d c.run.new.cells) c.code-code.ensures.code c.run.ensures.made;
  state = turn-keeps c.args.actor.now c.code-code.ensures.facts c.args.state c.requires.state (g.T.Tokens.tokens c.args.tokens.now) c.args.a (action_of c.action-action.result.now)
      (record { there = c.action-action.ensures; has = c.requires.has }) c.requires.eligible c.runs_are_the_meaning.ensures.asked c.runs_are_the_meaning.ensures.guards
      c.args.cells.now.numbers c.requires.made.size c.loop-entry.cells.numbers c.loop-entry.invariant.made.size c.loop-entry.invariant.state
      c.deref-entry-items.result.now c.deref-entry-items.ensures.value c.loop-entry.entry-index c.loop-entry-test.true
      c.code-code.result.now c.code-code.ensures.code c.deref.result.now c.deref.ensures.value
      c.run.result c.run.new.cells.numbers c.run.ensures.runs;
  says = turn-true c.args.actor.now c.code-code.ensures.facts c.args.state c.requires.state (g.T.Tokens.tokens c.args.tokens.now) c.args.a (action_of c.action-action.result.now)
      (record { there = c.action-action.ensures; has = c.requires.has }) c.requires.eligible c.runs_are_the_meaning.ensures.asked c.runs_are_the_meaning.ensures.guards
      c.args.cells.now.numbers c.requires.made.size c.loop-entry.cells.numbers c.loop-entry.invariant.made.size c.loop-entry.invariant.state
      c.deref-entry-items.result.now c.deref-entry-items.ensures.value c.loop-entry.entry-index c.loop-entry-test.true
      c.code-code.result.now c.code-code.ensures.code c.deref.result.now c.deref.ensures.value
      c.run.new.cells.numbers c.in-True.ensures.runs c.loop-entry.invariant.says;
}

pub returns-clause-says : goal.returns-clause-says
returns-clause-says g c =
    all-true c.args.actor.now (state_of c.args.actor.now c.args.state c.args.cells.now.numbers) (g.T.Tokens.tokens c.args.tokens.now) c.args.a (action_of c.action-action.result.now)
    c.deref-entry-items.result.now c.loop-entry.entry-index c.deref-entry-items.ensures.value (record { there = c.action-action.ensures; has = c.requires.has })
    c.requires.eligible c.loop-entry-test.false c.loop-entry.invariant.says

pub returns-clause-keeps : goal.returns-clause-keeps
returns-clause-keeps g c = record { made = c.loop-entry.invariant.made; state = c.loop-entry.invariant.state }
