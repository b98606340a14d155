use Rattle.std.proofs.Common.{◌≤◌, ◌+◌, ℕ, false, List, length, subst, sym, take, All}
use Rattle.std.proofs.lemmas.List.Elements.{All-more}
use Rattle.std.proofs.lemmas.Result.{IfOk-weaker}
use Rattle.lowered_actor.specs.Actor.{action_of, actor_of}
use Rattle.lowered_actor.proofs.Loops.{all-whole}
use Rattle.lower_scratch.specs.Fitting.{HasBody}
use Rattle.lower_scratch.proofs.keeping.keeps_action.Goals as goal

pub loop-entry-preserved : goal.loop-entry-preserved
loop-entry-preserved c =
    let P = HasBody (actor_of c.args.parts.now) (action_of c.args.action.now) false in
    subst (λ (l : List ℕ). All P (take (c.loop-entry.entry-index + 1) l)) c.deref-entry-items.ensures.value
    (All-more P c.deref-entry-items.result.now c.loop-entry.entry-index 0 c.loop-entry-test.true
    (subst (λ (l : List ℕ). All P (take c.loop-entry.entry-index l)) (sym c.deref-entry-items.ensures.value) c.loop-entry.invariant)
    (c.in_ok-keeps.ensures c.if-not-keeps.false))

pub returns : goal.returns
returns c =
    IfOk-weaker c.keeps_firing.result _ _ (λ keeps h done. record {
      guards = all-whole (HasBody (actor_of c.args.parts.now) (action_of c.args.action.now) false) c.args.action.now.guards.items c.loop-entry.entry-index
          (subst (λ (l : List ℕ). length l ≤ c.loop-entry.entry-index) c.deref-entry-items.ensures.value c.loop-entry-test.false) c.loop-entry.invariant;
      firing = h done;
    }) c.keeps_firing.ensures
