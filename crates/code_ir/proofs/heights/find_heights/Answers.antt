use Rattle.std.proofs.Common.{rules, ◌≡◌, ◌≤◌, ℕ, length, arith, subst, true, []}
use Rattle.code_ir.specs.Code.{code_of, begins, is_among}
use Rattle.code_ir.specs.Heights.{Grows, IsMarked}
use Rattle.code_ir.proofs.Bodies.{among-inside}
use Rattle.code_ir.proofs.Marks.{marking-first, one-height, marked-most}
use Rattle.code_ir.proofs.heights.find_heights.Goals as goal

pub mark_begins-requires-clause-inside : goal.mark_begins-requires-clause-inside
mark_begins-requires-clause-inside c = λ q e.
    let e' : is_among q (begins (code_of c.args.code.now)) ≡ true = subst (λ xs. is_among q xs ≡ true) c.requires.places e in
    let below = among-inside (length c.args.code.now.instrs.items) q (begins (code_of c.args.code.now)) c.requires.stand.distinct e' in
    let size : length c.in-Ok.heights.items ≡ length c.args.code.now.instrs.items = search rules in
    omega (arith, below, size)

pub pass_all-requires-clause-marking : goal.pass_all-requires-clause-marking
pass_all-requires-clause-marking c =
    let code = code_of c.args.code.now in
    let size : length c.in-Ok.heights.items ≡ length c.args.code.now.instrs.items = search rules in
    marking-first code c.in-Ok.heights.items c.mark_begins.new.heights.items c.mark_begins.new.work.items size c.in-Ok.ensures.none
    (subst (λ xs. Grows (λ q k. (k ≡ 0) × (is_among q xs ≡ true)) c.in-Ok.heights.items c.mark_begins.new.heights.items [] c.mark_begins.new.work.items) c.requires.places c.in-Ok-mark_begins.ensures.grows)
    (subst (λ xs. (q : ℕ) → is_among q xs ≡ true → IsMarked c.mark_begins.new.heights.items q 0) c.requires.places c.in-Ok-mark_begins.ensures.begun)

pub returns-in-Done-clause-ok : goal.returns-in-Done-clause-ok
returns-in-Done-clause-ok c =
    let code = code_of c.args.code.now in
    let same = c.deref.ensures.value in (
      one-height code c.pass_all.new.heights.items c.in-Done.ensures,
      marked-most code c.pass_all.new.heights.items c.greatest.result c.in-Done.ensures (subst (λ xs. (p h : ℕ) → IsMarked xs p h → h ≤ c.greatest.result) same c.greatest.ensures),
    )
