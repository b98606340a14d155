use Rattle.std.proofs.Common.{◌≡◌, ◌∷◌, [], subst, sym, ap, ◌∙◌, None, Some, rules}
use Rattle.std.proofs.lemmas.Result.{on_ok_weaker}
use Rattle.cal_ast.specs.Tree as tree
use Rattle.lower_base.specs.Coding as coding
use Rattle.lower_base.specs.Coding.{IsCode, seat_instr}
use Rattle.lower_base.specs.Names.{IsSingle}
use Rattle.lower_base.specs.Lowered.{IsPut}
use Rattle.lower_base.specs.Seen.{called, one_named, seen}
use Rattle.lower_base.proofs.Adding.{put_adds}
use Rattle.lower_base.proofs.Seeing.{IsOneOf, one_found, one_missing, one_there}
use Rattle.lower_base.proofs.exprs.variable.Goals as goal

pub returns-clause-ok : goal.returns-clause-ok
returns-clause-ok c =
    let found : one_named (seen c.args.scope.now) c.args.text.now ≡ Some c.in-Some.one = sym c.in-Some.ensures in
    let f : IsOneOf (seen c.args.scope.now) c.args.text.now c.in-Some.one = one_found (seen c.args.scope.now) c.args.text.now c.in-Some.one found in
    on_ok_weaker c.put.result
    (λ (p : IsPut (c.seat_instr.result ∷ []) c.args.draft.now c.put.new.draft). put_adds (IsCode (called c.args.scope.now) (seen c.args.scope.now) (tree.variable c.args.text.now c.args.at)) (seat_instr f.x.seat ∷ []) c.args.draft.now c.put.new.draft
    (subst (λ i. IsPut (i ∷ []) c.args.draft.now c.put.new.draft) (c.seat_instr.ensures ∙ ap seat_instr (sym f.seat)) p)
    (λ base n. coding.variable c.args.text.now c.args.at base n f.x f.is (subst IsSingle (sym f.shape) tt)))
    c.put.ensures.added

pub returns-clause-whole : goal.returns-clause-whole
returns-clause-whole c =
    on_ok_weaker c.put.result (λ p. one_there (seen c.args.scope.now) c.args.text.now c.args.at c.in-Some.one (sym c.in-Some.ensures)) c.put.ensures.added

pub returns-in_default-clause-fault : goal.returns-in_default-clause-fault
returns-in_default-clause-fault c =
    let none : one_named (seen c.args.scope.now) c.args.text.now ≡ None = search rules in
    one_missing (seen c.args.scope.now) c.args.text.now c.args.at none
