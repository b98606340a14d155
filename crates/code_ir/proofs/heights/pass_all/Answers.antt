use Rattle.std.proofs.Common.{◌≡◌, ◌++◌, ◌∷◌, [], subst}
use Rattle.code_ir.specs.Code.{code_of}
use Rattle.code_ir.specs.Heights.{Marking}
use Rattle.code_ir.proofs.Marks.{among-last, marking-next}
use Rattle.code_ir.proofs.heights.pass_all.Goals as goal

pub pass_on-requires-clause-marked : goal.pass_on-requires-clause-marked
pass_on-requires-clause-marked c =
    let e : c.loop-place.work.items ≡ c.pop.new.self.items ++ c.in-Some.place ∷ [] = c.in-Some.ensures.items in
    c.loop-place.invariant.pending c.in-Some.place (rw e (among-last c.in-Some.place c.pop.new.self.items))

pub loop-place-preserved : goal.loop-place-preserved
loop-place-preserved c =
    let e : c.loop-place.work.items ≡ c.pop.new.self.items ++ c.in-Some.place ∷ [] = c.in-Some.ensures.items in
    marking-next (code_of c.args.code.now) c.loop-place.heights.items c.pass_on.new.heights.items c.pop.new.self.items c.pass_on.new.work.items c.in-Some.place
    (subst (Marking (code_of c.args.code.now) c.loop-place.heights.items) e c.loop-place.invariant) c.in-Done.ensures.grows c.in-Done.ensures.passed
