-- The feeds of input links: what is to come on a link, and what is pulled for it.
-- Trusted but for `IsFeedRead`: part of what a promise means.
use Rattle.std.specs.Prelude.{◌≡◌, ◌≤◌, ℕ, Bool, true, List, slice_get, Some}
use Rattle.rvc_io.specs.Feeds.{Inputs}
use Rattle.net_model.specs.declared.wiring.End.{End}
use Rattle.net_model.specs.declared.wiring.Link.{Link}
use Rattle.round_runner.specs.Running.{count_inputs as inputs_among, feed_of as feed_of_link, has_feed as is_fed_end}
use Rattle.trace_replay.specs.declared.bytes.TheConstants.{TRACE_FEED}

-- how many of these links begin at an input of the network
abbrev pub count_inputs : List Link → ℕ
count_inputs links = inputs_among links

-- The feed of an input link: those of input links are numbered from 1, in link order.
abbrev pub feed_of : List Link → ℕ → ℕ
feed_of links l = feed_of_link links l

-- a writing end at an input of the network that has a feed
abbrev pub has_feed : List Bool → End → Bool
has_feed opened end = is_fed_end opened end

-- the feed of one of these links, which begins at an input of the network that has one
abbrev pub IsFeedOf : List Link → List Bool → ℕ → Type 0
IsFeedOf links opened feed = (l : ℕ) × (link : Link) × (slice_get links l ≡ Some link)
    × (has_feed opened link.from ≡ true) × (feed ≡ feed_of links l)

-- the same by which of the links a feed is read for
abbrev pub IsFeedRead : List Link → List Bool → ℕ → Type 0
IsFeedRead links read feed = (l : ℕ) × (link : Link) × (slice_get links l ≡ Some link)
    × (slice_get read l ≡ Some true) × (feed ≡ feed_of links l)

-- feeds were pulled, and none was opened or closed
pub record OnlyPulls (old new : Inputs) : Type 0 where
  pub same_names : (name : List ℕ) → new.under name ≡ old.under name
  pub same_open : (feed : ℕ) → new.is_open feed ≡ old.is_open feed
  pub faults_stay : old.faults ≤ new.faults

-- .. and none but those of input links
pub record PullsInputs (old new : Inputs) : Type 0 where
  pub same_trace : new.left TRACE_FEED ≡ old.left TRACE_FEED
  pub pulls : OnlyPulls old new
