use Rattle.std.proofs.Common.{rules, ◌≡◌, ◌+◌, ◌*◌, ◌<◌, ℕ, ℤ, List, pos, [], length, arith, ◌∙◌, SFits}
use Rattle.std.specs.Prelude.{slice_get}
use Rattle.rvc_base.specs.Width.{num_width}
use Rattle.code_ir.specs.Effect.{Effect, pop, push_token, with_offset}
use Rattle.action_machine.specs.Stacks.{top_first}
use Rattle.action_machine.proofs.Arms.{popped, offset-some}
use Rattle.action_machine.proofs.CellRanges.{token-inside}
use Rattle.action_machine.proofs.reads.token_at.Goals as goal

pub at-requires : goal.at-requires
at-requires g c =
    let xs : List ℤ = g.T.Tokens.tokens c.args.tokens.now c.args.port in
    let rest : List ℤ = top_first (pos 0) c.pop-i.new.top c.args.stack.now in
    let f : SFits num_width c.pop-i.result = search rules in
    let next : ℕ → Effect = λ j. push_token (slice_get xs (c.args.first + j * c.args.step)) rest [] in
    let same : pop (top_first (pos 0) c.args.top.now c.args.stack.now) (λ i s. with_offset i 1 c.args.len (λ j. push_token (slice_get xs (c.args.first + j * c.args.step)) s [])) ≡ next c.in-Some.j =
    popped _ _ c.pop-i.result _ _ c.pop-i.ensures.operands (offset-some c.pop-i.result 1 c.args.len c.in-Some.j next f c.in-Some.ensures.effect) in
    let inside : c.args.first + c.in-Some.j * c.args.step < length xs = token-inside xs (c.args.first + c.in-Some.j * c.args.step) rest [] (λ e. c.requires.there [] (same ∙ e)) in
    rw (c.from.ensures, c.from-in-Some.ensures, c.from-in-Some-2.ensures) inside

pub overflow_cast-place : goal.overflow_cast-place
overflow_cast-place g c =
    let below : c.from.result + c.from-in-Some.result * c.from-in-Some-2.result < length (g.T.Tokens.tokens c.args.tokens.now c.args.port) = at-requires g c in
    omega (arith, below, c.count-count.ensures)
