-- What a network asks of its feeds and channels before its run.
-- Not trusted: no promise is read with it.
use Rattle.std.specs.Prelude.{◌≡◌, ℕ, suc, ◌+◌, ◌<◌, ◌≤◌, Bool, true, false, slice_get, slice_index_or, Some}
use Rattle.rvc_io.specs.Channels.{Channels}
use Rattle.rvc_io.specs.Feeds.{Inputs}
use Rattle.net_model.specs.declared.wiring.Link.{Link}
use Rattle.net_model.specs.declared.wiring.Wiring.{Wiring}
use Rattle.round_runner.specs.Running.{feed_of, has_feed}

-- the feed of each input link that has one is open
abbrev pub AreFeedsOpen : Wiring → Inputs → Type 0
AreFeedsOpen wiring feeds = (l : ℕ) (link : Link) → slice_get wiring.links.items l ≡ Some link
    → has_feed wiring.open_ins.items link.from ≡ true
    → feeds.is_open (feed_of wiring.links.items l) ≡ true

-- the trace's channel is open, and that of each output that has one
abbrev pub AreChannelsOpen : Wiring → Channels → Type 0
AreChannelsOpen wiring channels = (channels.is_open 1 ≡ true)
    × ((p : ℕ) → slice_index_or wiring.open_outs.items p false ≡ true
    → channels.is_open (2 + p) ≡ true)

-- of the feeds or channels from 1 on so many are open, and the others aren't
pub record AreOpenTo (count : ℕ) (is_open : ℕ → Bool) : Type 0 where
  pub opened : (k : ℕ) → k < count → is_open (suc k) ≡ true
  pub closed : (k : ℕ) → count ≤ k → is_open (suc k) ≡ false
