use Rattle.std.proofs.Common.{◌≡◌, true, arith}
use Rattle.lowered_actor.specs.Meaning.{AreTrue, AreTrapping, is_state}
use Rattle.guard_select.specs.Selecting.{state_of}
use Rattle.guard_select.proofs.Says.{is-state}
use Rattle.guard_select.proofs.Lines.{eligible-at, choice-at, choice-none}
use Rattle.guard_select.proofs.choosing.select.Goals as goal

pub readiness-requires-clause-eligible : goal.readiness-requires-clause-eligible
readiness-requires-clause-eligible g c =
    eligible-at c.args.actor.now c.args.state c.args.cells.now.numbers (g.T.Tokens.tokens c.args.tokens.now) c.candidates-a-items.result.now c.candidates-a-items.ensures.eligible c.loop-a.a-index c.loop-a-test.true

pub returns-in-True-clause-choice : goal.returns-in-True-clause-choice
returns-in-True-clause-choice g c =
    let state : is_state c.args.actor.now (state_of c.args.actor.now c.args.state c.args.cells.now.numbers) ≡ true =
    is-state c.args.actor.now c.args.state c.args.cells.now.numbers c.requires.state (let k = c.code-code.ensures.facts.fits.kept in let n = c.requires.made.size in omega (arith, k, n)) in
    choice-at c.args.actor.now c.args.state c.args.cells.now.numbers (g.T.Tokens.tokens c.args.tokens.now) c.candidates-a-items.result.now c.candidates-a-items.ensures.eligible
    c.loop-a.cells.numbers c.loop-a.a-index AreTrue state c.loop-a.invariant.keeps.state c.loop-a-test.true c.in-True.ensures.says c.loop-a.invariant.chosen

pub returns-in-Trap-clause-choice : goal.returns-in-Trap-clause-choice
returns-in-Trap-clause-choice g c =
    let state : is_state c.args.actor.now (state_of c.args.actor.now c.args.state c.args.cells.now.numbers) ≡ true =
    is-state c.args.actor.now c.args.state c.args.cells.now.numbers c.requires.state (let k = c.code-code.ensures.facts.fits.kept in let n = c.requires.made.size in omega (arith, k, n)) in
    choice-at c.args.actor.now c.args.state c.args.cells.now.numbers (g.T.Tokens.tokens c.args.tokens.now) c.candidates-a-items.result.now c.candidates-a-items.ensures.eligible
    c.loop-a.cells.numbers c.loop-a.a-index (AreTrapping c.in-Trap.trap) state c.loop-a.invariant.keeps.state c.loop-a-test.true c.in-Trap.ensures.says c.loop-a.invariant.chosen

pub returns-clause-choice : goal.returns-clause-choice
returns-clause-choice g c =
    let state : is_state c.args.actor.now (state_of c.args.actor.now c.args.state c.args.cells.now.numbers) ≡ true =
    is-state c.args.actor.now c.args.state c.args.cells.now.numbers c.requires.state (let k = c.code-code.ensures.facts.fits.kept in let n = c.requires.made.size in omega (arith, k, n)) in
    choice-none c.args.actor.now c.args.state c.args.cells.now.numbers (g.T.Tokens.tokens c.args.tokens.now) c.candidates-a-items.result.now c.candidates-a-items.ensures.eligible
    c.loop-a.a-index state c.loop-a-test.false c.loop-a.invariant.chosen
