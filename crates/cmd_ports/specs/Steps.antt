-- Openings up to one of them.
-- Not trusted: no promise is read with it.
use Rattle.std.specs.Prelude.{◌≡◌, ◌<◌, ℕ, List, [], ◌∷◌, ◌++◌, Contains, Option, None, Some}
use Rattle.rvc_io.specs.Count.{HasRisen}
use Rattle.rvc_io.specs.Channels.{Channels}
use Rattle.rvc_io.specs.Feeds.{Inputs}
use Rattle.rvc_io.specs.Past.{Done, Opened}
use Rattle.cmd_ports.specs.Opening.{AreNoted, ChannelsAreOpened, FeedsAreOpened, Opening}

-- Of all openings these remain, and those before them were made; their numbers are below this one.
pub record FeedsSoFar (all rest : List Opening) (number : ℕ) (old now : Inputs) : Type 0 where
  pub made : List Opening
  pub in_order : all ≡ made ++ rest
  pub below : (o : Opening) → Contains made o → o.number < number
  pub are_opened : FeedsAreOpened made old now

pub record ChannelsSoFar (all rest : List Opening) (number : ℕ) (old now : Channels) : Type 0 where
  pub made : List Opening
  pub in_order : all ≡ made ++ rest
  pub below : (o : Opening) → Contains made o → o.number < number
  pub are_opened : ChannelsAreOpened made old now

-- there is a file, and it couldn't be opened: that was counted, and nothing else changed
pub record IsUnopenedFeed (number : ℕ) (file : Option (List ℕ)) (old new : Inputs) : Type 0 where
  pub name : List ℕ
  pub has_file : file ≡ Some name
  pub unchanged : FeedsAreOpened [] old new
  pub counted : HasRisen old.faults new.faults

pub record IsUnopenedChannel (number : ℕ) (file : Option (List ℕ)) (old new : Channels) : Type 0 where
  pub name : List ℕ
  pub has_file : file ≡ Some name
  pub unchanged : ChannelsAreOpened [] old new
  pub counted : HasRisen old.faults new.faults

-- Of all openings these remain, and those before them were noted.
pub record NotedSoFar (all rest : List Opening) (past past_now : List Done) : Type 0 where
  pub made : List Opening
  pub in_order : all ≡ made ++ rest
  pub are_noted : AreNoted made past past_now

-- the opening was noted, if there is a file
abbrev pub IsNoted : (number : ℕ) → (file : Option (List ℕ)) → (past past_new : List Done) → Type 0
IsNoted number None past past_new = past_new ≡ past
IsNoted number (Some name) past past_new = past_new ≡ Opened number name ∷ past
