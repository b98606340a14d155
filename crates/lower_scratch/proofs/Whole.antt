-- Actions whose bodies fit keep the facts.
use Rattle.std.proofs.Common.{false, true, All}
use Rattle.lowered_actor.specs.Actor.{Actor}
use Rattle.lowered_actor.specs.Facts.{RunRight}
use Rattle.lowered_actor.proofs.Running.{all-among, all-at}
use Rattle.lower_scratch.specs.Fitting.{HasBodies}
use Rattle.lower_scratch.proofs.Spans.{HasSpan, HasSpans, has-spans}
use Rattle.lower_scratch.proofs.Facts.{OneEnd, firing-keeps, guard-keeps}

-- bodies with rows are such bodies
pub all-spans : (actor : Actor) → All (HasBodies actor) actor.actions → All (HasSpans actor) actor.actions
all-spans actor all = λ k x low. has-spans actor _ (all k x low)

pub run-right : (actor : Actor) → OneEnd → All (HasSpans actor) actor.actions → RunRight actor
run-right actor once all = record {
  guards = λ a action entry there among.
      let one : HasSpan actor action false entry = all-among (HasSpan actor action false) action.guards entry (all-at (HasSpans actor) actor.actions a action all there).guards among in
      guard-keeps actor once action entry one;
  firings = λ a action there.
      let one : HasSpan actor action true action.fire = (all-at (HasSpans actor) actor.actions a action all there).firing in
      firing-keeps actor once action action.fire one;
}
