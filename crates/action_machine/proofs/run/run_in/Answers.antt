use Rattle.std.proofs.Common.{◌≡◌, ℕ, [], sym, subst, arith, length}
use Rattle.rvc_base.specs.Turns.{max_turns_is}
use Rattle.code_ir.specs.Running.{State, Reaches, here, start, step}
use Rattle.code_ir.specs.Standing.{Stands}
use Rattle.action_machine.specs.Machine.{HasRoom, state_of}
use Rattle.action_machine.proofs.Ready.{stands-next, nearer-next, reaches-next, ends-there}
use Rattle.action_machine.proofs.run.run_in.Goals as goal

pub steps-init : goal.steps-init
steps-init g c =
    let first : Stands c.args.code.now (start c.args.entry c.args.cells.now) =
    c.stands.ensures.first c.args.code.now c.args.entry c.args.cells.now c.most_operands-most.ensures.admitted c.requires.entry c.requires.size in
    record {
      stands = subst (λ (n : ℕ). Stands c.args.code.now (record { place = c.args.entry; stack = []; frames = []; cells = c.args.cells.now; left = n })) (sym max_turns_is) first;
      reaches = subst (λ (n : ℕ). Reaches c.args.code.now (g.T.Tokens.tokens c.args.tokens.now) (start c.args.entry c.args.cells.now) (record { place = c.args.entry; stack = []; frames = []; cells = c.args.cells.now; left = n })) (sym max_turns_is) here;
    }

pub step-requires : goal.step-requires
step-requires g c =
    let s : State = (state_of c.steps.at c.steps.stack c.steps.frames c.steps.cells) in
    let stands : Stands c.args.code.now s = c.steps.invariant.stands in
    let size : length c.steps.cells ≡ c.args.code.now.cells = stands.cells in
    record {
      admitted = c.most_operands-most.ensures.admitted;
      sized = c.most_operands-most.ensures.sized;
      room = subst (λ n. HasRoom c.args.code.now (length c.steps.stack) n) (sym c.steps.auto.frames) (subst (λ n. HasRoom c.args.code.now n (length c.args.frames.now)) (sym c.steps.auto.stack) c.requires.room);
      stands = stands;
      fine = c.stands.ensures.next c.args.code.now (g.T.Tokens.tokens c.args.tokens.now) s c.most_operands-most.ensures.admitted stands;
      token = c.requires.tokens s c.steps.invariant.reaches;
      few = omega (arith, size, c.cells-count.ensures, c.cells-count.type_inv);
    }

pub returns-in-Some : goal.returns-in-Some
returns-in-Some g c = ends-there c.args.code.now (g.T.Tokens.tokens c.args.tokens.now) c.in-Some.outcome c.step.new.cells c.steps.invariant.reaches c.in-Some.ensures

pub steps-smaller : goal.steps-smaller
steps-smaller g c =
    let s : State = (state_of c.steps.at c.steps.stack c.steps.frames c.steps.cells) in
    nearer-next c.args.code.now s (state_of c.step.new.at c.step.new.stack c.step.new.frames c.step.new.cells) (step c.args.code.now (g.T.Tokens.tokens c.args.tokens.now) s) (c.stands.ensures.next c.args.code.now (g.T.Tokens.tokens c.args.tokens.now) s c.most_operands-most.ensures.admitted c.steps.invariant.stands) c.in-None.ensures

pub steps-preserved : goal.steps-preserved
steps-preserved g c =
    let s : State = (state_of c.steps.at c.steps.stack c.steps.frames c.steps.cells) in
    record {
      stands = stands-next c.args.code.now s (state_of c.step.new.at c.step.new.stack c.step.new.frames c.step.new.cells) (step c.args.code.now (g.T.Tokens.tokens c.args.tokens.now) s) (c.stands.ensures.next c.args.code.now (g.T.Tokens.tokens c.args.tokens.now) s c.most_operands-most.ensures.admitted c.steps.invariant.stands) c.in-None.ensures;
      reaches = reaches-next c.args.code.now (g.T.Tokens.tokens c.args.tokens.now) (state_of c.step.new.at c.step.new.stack c.step.new.frames c.step.new.cells) c.steps.invariant.reaches c.in-None.ensures;
    }
