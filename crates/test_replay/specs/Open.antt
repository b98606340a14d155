-- What a network asks of its feeds before a trace is replayed.
-- Not trusted: no promise is read with it.
use Rattle.std.specs.Prelude.{◌≡◌, ℕ, true, slice_get, Some}
use Rattle.rvc_io.specs.Feeds.{Inputs}
use Rattle.net_model.specs.declared.wiring.Link.{Link}
use Rattle.net_model.specs.declared.wiring.Wiring.{Wiring}
use Rattle.trace_replay.specs.Feeding.{feed_of, has_feed}

-- the trace's feed is open, and that of each input link that has one
pub record AreOpenFor (wiring : Wiring) (feeds : Inputs) : Type 0 where
  pub trace : feeds.is_open 0 ≡ true
  pub inputs : (l : ℕ) (link : Link) → slice_get wiring.links.items l ≡ Some link
      → has_feed wiring.open_ins.items link.from ≡ true
      → feeds.is_open (feed_of wiring.links.items l) ≡ true

-- feeds 0, 1 and 2 are open
abbrev pub AreFirstOpen : Inputs → Type 0
AreFirstOpen feeds = (feeds.is_open 0 ≡ true) × (feeds.is_open 1 ≡ true) × (feeds.is_open 2 ≡ true)
