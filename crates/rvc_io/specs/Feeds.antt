-- What is known of feeds, and what a call changes of them.
-- Trusted: part of what a promise means.
use Rattle.std.specs.Prelude.{◌≡◌, ◌≤◌, ℕ, Bool, true, List, [], ◌++◌, Option, None, Some, length, take, drop}
use Rattle.rvc_io.specs.Count.{HasRisen}
use Rattle.rvc_io.specs.Elsewhere.{SameElsewhere}

-- the bytes under a name, if they are told; the bytes left on an open feed, if they are told;
-- whether a feed is open; and how many calls failed so far
pub record Inputs : Type 0 where
  pub under : List ℕ → Option (List ℕ)
  pub left : ℕ → Option (List ℕ)
  pub is_open : ℕ → Bool
  pub faults : ℕ

-- no feed but this one was pulled, and none was opened
pub record PullsOnlyAt (feed : ℕ) (old new : Inputs) : Type 0 where
  pub same_names : (other : List ℕ) → new.under other ≡ old.under other
  pub same_left : SameElsewhere old.left new.left feed
  pub same_open : (other : ℕ) → new.is_open other ≡ old.is_open other
  pub faults_stay : old.faults ≤ new.faults

-- no feed but this one was opened, and none was pulled
pub record OpensOnlyAt (feed : ℕ) (old new : Inputs) : Type 0 where
  pub same_names : (other : List ℕ) → new.under other ≡ old.under other
  pub same_left : SameElsewhere old.left new.left feed
  pub same_open : SameElsewhere old.is_open new.is_open feed
  pub faults_stay : old.faults ≤ new.faults

-- the same of an object, by what is known of its feeds
abbrev pub PullsOnly : {S : Type 0} → (S → Inputs) → S → S → ℕ → Type 0
PullsOnly feeds old new feed = PullsOnlyAt feed (feeds old) (feeds new)

abbrev pub OpensOnly : {S : Type 0} → (S → Inputs) → S → S → ℕ → Type 0
OpensOnly feeds old new feed = OpensOnlyAt feed (feeds old) (feeds new)

-- the feed was opened, and all bytes under the name are left on it
pub record OpensOn (feed : ℕ) (name : List ℕ) (old new : Inputs) : Type 0 where
  pub opened : new.is_open feed ≡ true
  pub whole : new.left feed ≡ old.under name

-- the failure was counted, and the feed is as it was
pub record FailsOn (feed : ℕ) (old new : Inputs) : Type 0 where
  pub counted : HasRisen old.faults new.faults
  pub still_open : new.is_open feed ≡ old.is_open feed
  pub still_left : new.left feed ≡ old.left feed

-- a call failed on the way
abbrev pub ReadFails : {S : Type 0} → (S → Inputs) → S → S → Type 0
ReadFails feeds old new = HasRisen (feeds old).faults (feeds new).faults

-- n bytes go from the front of what was left, if that is told, to the front of the buffer; none is
-- moved only at the end
pub record MovesTold (n : ℕ) (before : List ℕ) (buffer filled after : List ℕ) : Type 0 where
  pub there : n ≤ length before
  pub filled_is : filled ≡ take n before ++ drop n buffer
  pub after_is : after ≡ drop n before
  pub at_end : n ≡ 0 → before ≡ []

abbrev pub Moves : ℕ → Option (List ℕ) → List ℕ → List ℕ → Option (List ℕ) → Type 0
Moves n None buffer filled after = after ≡ None
Moves n (Some before) buffer filled None = ⊥
Moves n (Some before) buffer filled (Some after) = MovesTold n before buffer filled after
