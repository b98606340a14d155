-- Why a run stops if a feed can't be read: the delivery that comes next has to pull from it.
-- Trusted: part of what a promise means.
use Rattle.std.specs.Prelude.{◌≡◌, ℕ, ◌+◌, ◌*◌, ◌<◌, ◌≤◌, true, List, length, slice_get, Some}
use Rattle.rvc_io.specs.Feeds.{Inputs}
use Rattle.net_model.specs.declared.wiring.End.{End}
use Rattle.net_model.specs.declared.wiring.End.TheVariants.{Leaf as AtLeaf, Net as AtNet}
use Rattle.net_model.specs.declared.wiring.Link.{Link}
use Rattle.net_model.specs.Counted.{rest_at}
use Rattle.net_model.specs.Network.{NetPort, Network, is_input, kind_at}
use Rattle.net_model.specs.PortFile.{token_bytes}
use Rattle.net_model.specs.State.{Flow, State}
use Rattle.round_runner.specs.Running.{feed_of}

-- A pull is due from a link's feed, on which so many bytes are left: those of the tokens that arrived were pulled, and with
-- all that was pulled the link isn't full. A token has `size` bytes, and `rest` bytes at the end of the file are no token.
pub record PullIsDue (size rest : ℕ) (flow : Flow) (left : ℕ) : Type 0 where
  pub pulled : size * flow.arrived + left ≤ size * length flow.sent + rest
  pub unfilled : size * length flow.sent + rest < size * (flow.taken + flow.capacity) + left

-- how many bytes the tokens of an input have
abbrev pub token_size : List NetPort → End → ℕ
token_size ports (AtLeaf inst port) = 0
token_size ports (AtNet port) = token_bytes (kind_at ports port)

-- A delivery from this state has to pull from this feed, which is that of an input link. So it is the next one: each
-- delivery that was made filled the link, or read its feed to the end.
pub record NeedsPull {X : Type 0} (net : Network X) (inputs : List (List ℕ)) (s : State X)
    (feed : ℕ) (feeds : Inputs) : Type 0 where
  pub l : ℕ
  pub link : Link
  pub flow : Flow
  pub left : List ℕ
  pub link_at : slice_get net.links l ≡ Some link
  pub flow_at : slice_get s.flows l ≡ Some flow
  pub from_outside : is_input link ≡ true
  pub feed_is : feed ≡ feed_of net.links l
  pub left_is : feeds.left feed ≡ Some left
  pub due : PullIsDue (token_size net.ins link.from) (rest_at net.ins inputs link.from) flow
      (length left)
