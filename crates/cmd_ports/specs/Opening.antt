-- Which feeds and channels are opened for a network, in which order, and what an opening changes.
-- Trusted: part of what a promise means.
use Rattle.std.specs.Prelude.{◌≡◌, ◌≤◌, ◌+◌, ℕ, Bool, true, List, [], ◌∷◌, ◌++◌, Contains, map, slice_get, Option, None, Some, is_some, if◌then◌else◌}
use Rattle.rvc_io.specs.Channels.{Channels}
use Rattle.rvc_io.specs.Count.{HasRisen}
use Rattle.rvc_io.specs.Feeds.{Inputs}
use Rattle.rvc_io.specs.Past.{Done, Naming, opened}
use Rattle.rvc_words.specs.Words.{PortText}
use Rattle.net_model.specs.Network.{is_input}
use Rattle.net_model.specs.declared.wiring.End.{End}
use Rattle.net_model.specs.declared.wiring.End.TheVariants.{Leaf as AtLeaf, Net as AtNet}
use Rattle.net_model.specs.declared.wiring.Link.{Link}
use Rattle.cmd_ports.specs.Matching.{file_of}

-- a feed or a channel that is opened, and the name of its file
abbrev pub Opening : Type 0
Opening = Naming

abbrev pub opening_if : ℕ → Option (List ℕ) → List Opening
opening_if number None = []
opening_if number (Some file) = record { number = number; name = file } ∷ []

-- ---- which

-- the file of one of these ports, if a word names it
abbrev pub file_at : Option (List ℕ) → List PortText → Option (List ℕ)
file_at None words = None
file_at (Some name) words = file_of name words

-- the file of the port at which a link begins, if it is one of the network
abbrev pub file_from : End → (ins : List (List ℕ)) → List PortText → Option (List ℕ)
file_from (AtLeaf inst port) ins words = None
file_from (AtNet port) ins words = file_at (slice_get ins port) words

-- The feeds of these links, the first input link of which has this number: those of inputs that have a file. An input
-- from which two links lead has a feed for each.
abbrev pub feeds_from : (number : ℕ) → List Link → (ins : List (List ℕ)) → List PortText → List Opening
feeds_from number [] ins words = []
feeds_from number (link ∷ links) ins words =
    if is_input link
    then opening_if number (file_from link.from ins words) ++ feeds_from (number + 1) links ins words
    else feeds_from number links ins words

-- feeds of input links are numbered from 1
abbrev pub feeds_of : List Link → (ins : List (List ℕ)) → List PortText → List Opening
feeds_of links ins words = feeds_from 1 links ins words

-- .. and feed 0 is that of a trace that is to be replayed
abbrev pub replay_feeds : (trace : List ℕ) → List Link → (ins : List (List ℕ)) → List PortText
    → List Opening
replay_feeds trace links ins words =
    record { number = 0; name = trace } ∷ feeds_of links ins words

-- the channels of outputs, the first of which has this number: those that have a file
abbrev pub outputs_from : (number : ℕ) → (outs : List (List ℕ)) → List PortText → List Opening
outputs_from number [] words = []
outputs_from number (name ∷ outs) words =
    opening_if number (file_of name words) ++ outputs_from (number + 1) outs words

-- channel 1 is the trace's, and those of outputs are numbered from 2
abbrev pub channels_of : (trace : List ℕ) → (outs : List (List ℕ)) → List PortText → List Opening
channels_of trace outs words = record { number = 1; name = trace } ∷ outputs_from 2 outs words

-- which ports have a file
abbrev pub has_files : (names : List (List ℕ)) → List PortText → List Bool
has_files names words = map (λ name. is_some (file_of name words)) names

-- ---- what is opened

-- a number is none of these
abbrev pub IsApart : ℕ → List Opening → Type 0
IsApart number openings = (o : Opening) → Contains openings o → number ≡ o.number → ⊥

-- these feeds were opened, each with all the bytes of its file, and no other was opened or pulled
pub record FeedsAreOpened (openings : List Opening) (old new : Inputs) : Type 0 where
  pub opened : (o : Opening) → Contains openings o → new.is_open o.number ≡ true
  pub whole : (o : Opening) → Contains openings o → new.left o.number ≡ old.under o.name
  pub same_open : (n : ℕ) → IsApart n openings → new.is_open n ≡ old.is_open n
  pub same_left : (n : ℕ) → IsApart n openings → new.left n ≡ old.left n
  pub same_names : (name : List ℕ) → new.under name ≡ old.under name
  pub faults_stay : old.faults ≤ new.faults

-- these channels were opened and hold nothing, and no other was opened or written
pub record ChannelsAreOpened (openings : List Opening) (old new : Channels) : Type 0 where
  pub opened : (o : Opening) → Contains openings o → new.is_open o.number ≡ true
  pub empty : old.tells ≡ true → (o : Opening) → Contains openings o → new.held o.number ≡ []
  pub same_open : (n : ℕ) → IsApart n openings → new.is_open n ≡ old.is_open n
  pub same_held : old.tells ≡ true → (n : ℕ) → IsApart n openings → new.held n ≡ old.held n
  pub same_telling : new.tells ≡ old.tells
  pub faults_stay : old.faults ≤ new.faults

-- The one of this number couldn't be opened, which was counted: those before it were opened, and no other.
pub record FeedFails (openings : List Opening) (number : ℕ) (old new : Inputs) : Type 0 where
  pub before : List Opening
  pub failed : Opening
  pub after : List Opening
  pub in_order : openings ≡ before ++ failed ∷ after
  pub number_is : failed.number ≡ number
  pub are_opened : FeedsAreOpened before old new
  pub counted : HasRisen old.faults new.faults

pub record ChannelFails (openings : List Opening) (number : ℕ) (old new : Channels) : Type 0 where
  pub before : List Opening
  pub failed : Opening
  pub after : List Opening
  pub in_order : openings ≡ before ++ failed ∷ after
  pub number_is : failed.number ≡ number
  pub are_opened : ChannelsAreOpened before old new
  pub counted : HasRisen old.faults new.faults

-- ---- under which names

-- these were opened behind those that had been, the first of them first, each under the name of its file, and no other
abbrev pub AreNoted : List Opening → (past past_new : List Done) → Type 0
AreNoted openings past past_new = opened past_new ≡ opened past ++ openings

-- this holds of those that come before the one of this number
pub record HoldsBefore (openings : List Opening) (number : ℕ) (P : List Opening → Type 0) : Type 0 where
  pub before : List Opening
  pub failed : Opening
  pub after : List Opening
  pub in_order : openings ≡ before ++ failed ∷ after
  pub number_is : failed.number ≡ number
  pub holds : P before
