-- What is known of channels, and what a call changes of them.
-- Trusted: part of what a promise means.
use Rattle.std.specs.Prelude.{◌≡◌, ◌≤◌, ℕ, Bool, true, List, [], ◌++◌}
use Rattle.rvc_io.specs.Count.{HasRisen}
use Rattle.rvc_io.specs.Elsewhere.{SameElsewhere}

-- whether what the channels hold is told; the bytes that an open channel holds, if they are told;
-- whether a channel is open; and how many calls failed so far
pub record Channels : Type 0 where
  pub tells : Bool
  pub held : ℕ → List ℕ
  pub is_open : ℕ → Bool
  pub faults : ℕ

-- no channel but this one was written, and none was opened
pub record WritesOnlyAt (channel : ℕ) (old new : Channels) : Type 0 where
  pub same_telling : new.tells ≡ old.tells
  pub same_held : old.tells ≡ true → SameElsewhere old.held new.held channel
  pub same_open : (other : ℕ) → new.is_open other ≡ old.is_open other
  pub faults_stay : old.faults ≤ new.faults

-- no channel but this one was written or opened
pub record ChangesOnlyAt (channel : ℕ) (old new : Channels) : Type 0 where
  pub same_telling : new.tells ≡ old.tells
  pub same_held : old.tells ≡ true → SameElsewhere old.held new.held channel
  pub same_open : SameElsewhere old.is_open new.is_open channel
  pub faults_stay : old.faults ≤ new.faults

-- the same of an object, by what is known of its channels
abbrev pub WritesOnly : {S : Type 0} → (S → Channels) → S → S → ℕ → Type 0
WritesOnly channels old new channel = WritesOnlyAt channel (channels old) (channels new)

abbrev pub ChangesOnly : {S : Type 0} → (S → Channels) → S → S → ℕ → Type 0
ChangesOnly channels old new channel = ChangesOnlyAt channel (channels old) (channels new)

-- the channel was opened, and holds nothing
pub record OpensAt (channel : ℕ) (old new : Channels) : Type 0 where
  pub opened : new.is_open channel ≡ true
  pub empty : old.tells ≡ true → new.held channel ≡ []

-- the channel got this text behind what it held
abbrev pub Appends : ℕ → Channels → Channels → List ℕ → Type 0
Appends channel old new text = old.tells ≡ true → new.held channel ≡ old.held channel ++ text

-- the failure was counted, and the channel is as it was
pub record FailsAt (channel : ℕ) (old new : Channels) : Type 0 where
  pub counted : HasRisen old.faults new.faults
  pub still_open : new.is_open channel ≡ old.is_open channel
  pub still_held : old.tells ≡ true → new.held channel ≡ old.held channel

-- a call failed on the way
abbrev pub WriteFails : {S : Type 0} → (S → Channels) → S → S → Type 0
WriteFails channels old new = HasRisen (channels old).faults (channels new).faults
