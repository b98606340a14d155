use Rattle.std.proofs.Common.{◌≡◌, ◌++◌, ◌-◌, length, map, take, drop, set, ap, ◌∙◌, arith}
use Rattle.code_ir.specs.declared.instr.Instr.TheVariants as op
use Rattle.lower_base.specs.Coding.{aimed}
use Rattle.lower_base.proofs.Linked.{mapped_set}
use Rattle.lower_base.proofs.exprs.link.Goals as goal

pub returns-clause-linked : goal.returns-clause-linked
returns-clause-linked c = λ before test first other i is start_is exits_is jump_is.
    let all = c.args.draft.now.instrs.items in
    let same : c.deref_mut.result.now ≡ all = c.deref_mut.ensures.value in
    let len_is : c.args.draft.now.instrs.len ≡ length all = omega (arith, c.deref_mut.ensures.len, ap length same) in
    let made = mapped_set (aimed c.args.out) before test first other all c.aim.new.part i (op.Jump c.args.end) c.args.draft.now.instrs.len c.args.start c.args.exits c.args.jump is len_is start_is exits_is jump_is
    (c.aim.ensures ∙ ap (λ x. map (aimed c.args.out) (take (c.args.exits - c.args.start) (drop c.args.start x))) same) in
    ap (λ x. set (take c.args.draft.now.instrs.len ((take c.args.start x ++ (c.aim.new.part ++ drop (c.args.exits - c.args.start) (drop c.args.start x))) ++ drop (length (take c.args.start x ++ (c.aim.new.part ++ drop (c.args.exits - c.args.start) (drop c.args.start x)))) all)) c.args.jump (op.Jump c.args.end)) same
    ∙ made
