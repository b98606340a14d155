use Rattle.std.proofs.Common.{◌≡◌, ◌<◌, ◌∙◌, pos, refl, sym, ap, subst, arith, length}
use Rattle.std.specs.Prelude.{Some, slice_get, slice_index_or}
use Rattle.code_ir.specs.declared.instr.Instr.{Instr}
use Rattle.code_ir.specs.declared.instr.Instr.TheVariants as op
use Rattle.code_ir.specs.Running.{State, go_on}
use Rattle.action_machine.specs.Machine.{IsPlain, state_of}
use Rattle.action_machine.proofs.Ready.{instr-is, place-in-list, step-is, plain-of, plain-is, token-there, top-fits, top-enough, top-room, frames-fit, frames-some, cells-named, call-fits}
use Rattle.action_machine.proofs.step.step.Goals as goal

pub jump_if_not-requires-clause-below : goal.jump_if_not-requires-clause-below
jump_if_not-requires-clause-below g c = top-fits c.args.code.now (g.T.Tokens.tokens c.args.tokens.now) c.args.at.now c.args.stack.now c.args.frames.now c.args.cells.now (op.JumpIfNot c.in-JumpIfNot.t) c.requires (instr-is c.instrs.result.now (op.Const (pos 0)) (op.JumpIfNot c.in-JumpIfNot.t) c.requires c.instrs.ensures c.in-JumpIfNot.is)

pub call-requires-clause-there : goal.call-requires-clause-there
call-requires-clause-there g c =
    subst (λ rs. c.in-Call.r < length rs) (sym c.routines.ensures) (call-fits c.args.code.now (g.T.Tokens.tokens c.args.tokens.now) c.args.at.now c.args.stack.now c.args.frames.now c.args.cells.now c.in-Call.r c.requires (instr-is c.instrs.result.now (op.Const (pos 0)) (op.Call c.in-Call.r) c.requires c.instrs.ensures c.in-Call.is)).1

pub call-requires-clause-room : goal.call-requires-clause-room
call-requires-clause-room g c = (call-fits c.args.code.now (g.T.Tokens.tokens c.args.tokens.now) c.args.at.now c.args.stack.now c.args.frames.now c.args.cells.now c.in-Call.r c.requires (instr-is c.instrs.result.now (op.Const (pos 0)) (op.Call c.in-Call.r) c.requires c.instrs.ensures c.in-Call.is)).0

pub come_back-requires-clause-some : goal.come_back-requires-clause-some
come_back-requires-clause-some g c = frames-some c.args.code.now (g.T.Tokens.tokens c.args.tokens.now) c.args.at.now c.args.stack.now c.args.frames.now c.args.cells.now c.requires (instr-is c.instrs.result.now (op.Const (pos 0)) (op.Return) c.requires c.instrs.ensures c.in-Return.is)

pub come_back-requires-clause-below : goal.come_back-requires-clause-below
come_back-requires-clause-below g c = frames-fit c.args.code.now (g.T.Tokens.tokens c.args.tokens.now) c.args.at.now c.args.stack.now c.args.frames.now c.args.cells.now op.Return c.requires (instr-is c.instrs.result.now (op.Const (pos 0)) (op.Return) c.requires c.instrs.ensures c.in-Return.is)

pub answer-requires-clause-some : goal.answer-requires-clause-some
answer-requires-clause-some g c = top-enough c.args.code.now (g.T.Tokens.tokens c.args.tokens.now) c.args.at.now c.args.stack.now c.args.frames.now c.args.cells.now op.Answer c.requires (instr-is c.instrs.result.now (op.Const (pos 0)) (op.Answer) c.requires c.instrs.ensures c.in-Answer.is)

pub answer-requires-clause-below : goal.answer-requires-clause-below
answer-requires-clause-below g c = top-fits c.args.code.now (g.T.Tokens.tokens c.args.tokens.now) c.args.at.now c.args.stack.now c.args.frames.now c.args.cells.now op.Answer c.requires (instr-is c.instrs.result.now (op.Const (pos 0)) (op.Answer) c.requires c.instrs.ensures c.in-Answer.is)

pub carry_out-acted-requires : goal.carry_out-acted-requires
carry_out-acted-requires g c =
    let i : Instr = slice_index_or c.instrs.result.now c.args.at.now.place (op.Const (pos 0)) in
    let here : slice_get c.args.code.now.instrs c.args.at.now.place ≡ Some i = instr-is c.instrs.result.now (op.Const (pos 0)) i c.requires c.instrs.ensures refl in
    let plain : IsPlain i = plain-of i c.in_default.not-Jump c.in_default.not-JumpIfNot c.in_default.not-Turn c.in_default.not-Call c.in_default.not-Return c.in_default.not-Answer c.in_default.not-Done in
    record {
      plain = plain;
      enough = top-enough c.args.code.now (g.T.Tokens.tokens c.args.tokens.now) c.args.at.now c.args.stack.now c.args.frames.now c.args.cells.now i c.requires here;
      room = top-room c.args.code.now (g.T.Tokens.tokens c.args.tokens.now) c.args.at.now c.args.stack.now c.args.frames.now c.args.cells.now i c.requires here;
      cells = cells-named c.args.code.now (g.T.Tokens.tokens c.args.tokens.now) c.args.at.now c.args.stack.now c.args.frames.now c.args.cells.now i c.requires here;
      small = c.requires.few;
      sized = c.requires.sized c.args.at.now.place i here;
      tokens = token-there c.args.code.now (g.T.Tokens.tokens c.args.tokens.now) (state_of c.args.at.now c.args.stack.now c.args.frames.now c.args.cells.now) i here plain c.requires.token;
    }

pub go_on-requires : goal.go_on-requires
go_on-requires g c =
    let h : c.args.at.now.place < length c.instrs.result.now = place-in-list c.instrs.result.now c.requires c.instrs.ensures in
    record { small = omega (arith, h, c.instrs.type_inv) }

pub returns-in-Jump : goal.returns-in-Jump
returns-in-Jump g c = step-is c.args.code.now (g.T.Tokens.tokens c.args.tokens.now) (state_of c.args.at.now c.args.stack.now c.args.frames.now c.args.cells.now) (op.Jump c.in-Jump.t) (instr-is c.instrs.result.now (op.Const (pos 0)) (op.Jump c.in-Jump.t) c.requires c.instrs.ensures c.in-Jump.is)

pub returns-in-JumpIfNot : goal.returns-in-JumpIfNot
returns-in-JumpIfNot g c = step-is c.args.code.now (g.T.Tokens.tokens c.args.tokens.now) (state_of c.args.at.now c.args.stack.now c.args.frames.now c.args.cells.now) (op.JumpIfNot c.in-JumpIfNot.t) (instr-is c.instrs.result.now (op.Const (pos 0)) (op.JumpIfNot c.in-JumpIfNot.t) c.requires c.instrs.ensures c.in-JumpIfNot.is) ∙ c.jump_if_not.ensures c.args.frames.now c.args.cells.now

pub returns-in-Turn : goal.returns-in-Turn
returns-in-Turn g c = step-is c.args.code.now (g.T.Tokens.tokens c.args.tokens.now) (state_of c.args.at.now c.args.stack.now c.args.frames.now c.args.cells.now) (op.Turn) (instr-is c.instrs.result.now (op.Const (pos 0)) (op.Turn) c.requires c.instrs.ensures c.in-Turn.is) ∙ c.turn.ensures c.args.stack.now c.args.cells.now c.args.frames.now

pub returns-in-Call : goal.returns-in-Call
returns-in-Call g c = step-is c.args.code.now (g.T.Tokens.tokens c.args.tokens.now) (state_of c.args.at.now c.args.stack.now c.args.frames.now c.args.cells.now) (op.Call c.in-Call.r) (instr-is c.instrs.result.now (op.Const (pos 0)) (op.Call c.in-Call.r) c.requires c.instrs.ensures c.in-Call.is) ∙ c.call.ensures c.args.code.now c.args.stack.now c.args.cells.now (sym c.routines.ensures)

pub returns-in-Return : goal.returns-in-Return
returns-in-Return g c = step-is c.args.code.now (g.T.Tokens.tokens c.args.tokens.now) (state_of c.args.at.now c.args.stack.now c.args.frames.now c.args.cells.now) (op.Return) (instr-is c.instrs.result.now (op.Const (pos 0)) (op.Return) c.requires c.instrs.ensures c.in-Return.is) ∙ c.come_back.ensures c.args.stack.now c.args.cells.now

pub returns-in-Answer : goal.returns-in-Answer
returns-in-Answer g c = step-is c.args.code.now (g.T.Tokens.tokens c.args.tokens.now) (state_of c.args.at.now c.args.stack.now c.args.frames.now c.args.cells.now) (op.Answer) (instr-is c.instrs.result.now (op.Const (pos 0)) (op.Answer) c.requires c.instrs.ensures c.in-Answer.is) ∙ c.answer.ensures c.args.frames.now c.args.cells.now

pub returns-in-Done : goal.returns-in-Done
returns-in-Done g c = step-is c.args.code.now (g.T.Tokens.tokens c.args.tokens.now) (state_of c.args.at.now c.args.stack.now c.args.frames.now c.args.cells.now) (op.Done) (instr-is c.instrs.result.now (op.Const (pos 0)) (op.Done) c.requires c.instrs.ensures c.in-Done.is)

pub returns-in_default : goal.returns-in_default
returns-in_default g c =
    let i : Instr = slice_index_or c.instrs.result.now c.args.at.now.place (op.Const (pos 0)) in
    let s : State = state_of c.args.at.now c.args.stack.now c.args.frames.now c.args.cells.now in
    let here : slice_get c.args.code.now.instrs c.args.at.now.place ≡ Some i = instr-is c.instrs.result.now (op.Const (pos 0)) i c.requires c.instrs.ensures refl in
    let plain : IsPlain i = plain-of i c.in_default.not-Jump c.in_default.not-JumpIfNot c.in_default.not-Turn c.in_default.not-Call c.in_default.not-Return c.in_default.not-Answer c.in_default.not-Done in
    step-is c.args.code.now (g.T.Tokens.tokens c.args.tokens.now) s i here
    ∙ (plain-is c.args.code.now (g.T.Tokens.tokens c.args.tokens.now) s i plain
    ∙ (ap (go_on s) c.carry_out-acted.ensures.effect
    ∙ c.go_on.ensures s c.carry_out-acted.new.stack c.carry_out-acted.new.cells c.args.frames.now refl refl refl c.carry_out-acted.ensures.kept))
