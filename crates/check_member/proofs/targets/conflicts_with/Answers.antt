use Rattle.std.proofs.Common.{◌≡◌, ◌+◌, ◌*◌, ◌++◌, Some, None, get_or, set, take, sym, ap, subst, ◌∙◌}
use Rattle.cal_model.specs.Tags.{moves_by}
use Rattle.check_member.specs.Targets.{Tells}
use Rattle.check_member.proofs.Departing.{IsOne, all-conflicts_with, all-told, conflicts_with-elsewhere, conflicts_with-nowhere, move_by, place_of, told-further}
use Rattle.check_member.proofs.targets.conflicts_with.Goals as goal

pub returns-then-enter-clause-elsewhere : goal.returns-then-enter-clause-elsewhere
returns-then-enter-clause-elsewhere c = λ _ states before f a t.
    let acts = c.args.actions.now in
    let k = c.loop-action.action-index in
    let at : c.from.result * c.args.columns + c.from-in-loop-action.result ≡ place_of c.args.columns (move_by c.args.from (get_or acts k 0) c.args.to) =
    ap (λ s. s * c.args.columns + c.from-in-loop-action.result) c.from.ensures ∙ ap (λ x. c.args.from * c.args.columns + x) c.from-in-loop-action.ensures in
    let o = c.enter.ensures.another c.if-enter.true in
    conflicts_with-elsewhere states c.args.columns c.args.from c.args.to before acts k c.loop-action.targets c.loop-action-test.true f a (c.loop-action.invariant.entered states before f a t)
    o.0 (ap (λ p. get_or c.loop-action.targets p None) (sym at) ∙ o.1) o.2

pub loop-action-preserved : goal.loop-action-preserved
loop-action-preserved c =
    let acts = c.args.actions.now in
    let k = c.loop-action.action-index in
    let at : c.from.result * c.args.columns + c.from-in-loop-action.result ≡ place_of c.args.columns (move_by c.args.from (get_or acts k 0) c.args.to) =
    ap (λ s. s * c.args.columns + c.from-in-loop-action.result) c.from.ensures ∙ ap (λ x. c.args.from * c.args.columns + x) c.from-in-loop-action.ensures in
    let one : IsOne c.args.columns c.loop-action.targets (move_by c.args.from (get_or acts k 0) c.args.to) =
    λ other e. c.enter.ensures.the_same c.if-enter.false other (ap (λ p. get_or c.loop-action.targets p None) at ∙ e) in
    let grown : c.enter.new.targets ≡ set c.loop-action.targets (place_of c.args.columns (move_by c.args.from (get_or acts k 0) c.args.to)) (Some c.args.to) =
    c.enter.ensures.entered c.if-enter.false ∙ ap (λ p. set c.loop-action.targets p (Some c.args.to)) at in
    record {
      size = c.enter.ensures.size ∙ c.loop-action.invariant.size;
      nowhere = λ states before f a t.
          conflicts_with-nowhere states c.args.columns c.args.from c.args.to before acts k c.loop-action.targets c.loop-action-test.true f a (c.loop-action.invariant.entered states before f a t)
          (c.loop-action.invariant.nowhere states before f a t) one;
      entered = λ states before f a t.
          subst (λ ts. Tells states c.args.columns ts (before ++ moves_by c.args.from (take (k + 1) acts) c.args.to)) (sym grown)
          (told-further states c.args.columns c.args.from c.args.to before acts k c.loop-action.targets c.loop-action-test.true f a (c.loop-action.invariant.entered states before f a t) one);
    }

pub returns : goal.returns
returns c =
    let acts = c.args.actions.now in
    let k = c.loop-action.action-index in
    record {
      elsewhere = λ e. absurd (cc);
      nowhere = λ _ states before f a t. all-conflicts_with c.args.from c.args.to before acts k c.loop-action-test.false (c.loop-action.invariant.nowhere states before f a t);
      entered = λ _ states before f a t.
          all-told states c.args.columns c.args.from c.args.to before acts k c.loop-action.targets c.loop-action-test.false (c.loop-action.invariant.entered states before f a t);
      size = c.loop-action.invariant.size;
    }
