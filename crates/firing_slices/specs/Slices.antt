-- What an actor at work is once several tokens came in before a port.
-- Trusted: part of what a promise means.
use Rattle.std.specs.Prelude.{◌≡◌, ◌≢◌, ℕ, ◌<◌, List, ◌++◌, ℤ}
use Rattle.rvc_base.specs.Lawful.{tokens_on}
use Rattle.net_model.specs.Cell.{Cell, IsSameActor, SameOutboxes}

-- tokens come in behind those before port p, in their order
pub record AcceptsAll {X : Type 0} (old : Cell X) (p : ℕ) (tokens : List ℤ) (new : Cell X) :
    Type 0 where
  pub actor : IsSameActor old new
  pub state : new.state ≡ old.state
  pub there : tokens_on new.inboxes p ≡ tokens_on old.inboxes p ++ tokens
  pub elsewhere : (q : ℕ) → q < old.actor.ins → q ≢ p
      → tokens_on new.inboxes q ≡ tokens_on old.inboxes q
  pub outboxes : SameOutboxes old new
  pub journal : new.journal ≡ old.journal
  pub trapped : new.trapped ≡ old.trapped
