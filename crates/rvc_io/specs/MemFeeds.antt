-- Feeds in memory.
-- Trusted: part of what a promise means.
use Rattle.std.specs.Prelude.{ℕ, ◌<◌, ◌≤◌, Bool, ◌||◌, List, [], Option, None, Some, All, map, length, drop, min, nat_le, is_some, is_none, unwrap_or, slice_index_or}
use Rattle.rvc_io.specs.Calls.{CallCount, is_listed}
use Rattle.rvc_io.specs.Files.{File, under, bytes_at}
use Rattle.rvc_io.specs.Feeds.{Inputs}
use Rattle.rvc_io.specs.Past.{Done}
use Rattle.rvc_io.specs.declared.mem_feeds.Reading.{Reading}

-- the files, the most bytes that a call moves, for each feed the bytes that are left if it is
-- open, the calls, and what was done
pub record FeedsState : Type 0 where
  pub files : List File
  pub step : ℕ
  pub left : List (Option (List ℕ))
  pub calls : CallCount
  pub past : List Done

-- what is left where a reading of a file has come
abbrev pub left_of : List File → Option Reading → Option (List ℕ)
left_of files None = None
left_of files (Some r) = Some (drop r.at (bytes_at files r.place))

-- what is left on each feed
abbrev pub left_of_each : List File → List (Option Reading) → List (Option (List ℕ))
left_of_each files readings = map (left_of files) readings

-- a reading is of a file that is there, and hasn't passed its end
abbrev pub IsWithin : List File → Option Reading → Type 0
IsWithin files None = Unit {0}
IsWithin files (Some r) = (r.place < length files) × (r.at ≤ length (bytes_at files r.place))

abbrev pub AreWithin : List File → List (Option Reading) → Type 0
AreWithin files readings = All (IsWithin files) readings

-- what is left on a feed, if it is open
abbrev pub left_on : FeedsState → ℕ → Option (List ℕ)
left_on f feed = slice_index_or f.left feed None

-- a feed is open
abbrev pub feed_is_open : FeedsState → ℕ → Bool
feed_is_open f feed = is_some (left_on f feed)

-- the bytes left on an open feed
abbrev pub bytes_left : FeedsState → ℕ → List ℕ
bytes_left f feed = unwrap_or (left_on f feed) []

-- how many these are
abbrev pub count_left : FeedsState → ℕ → ℕ
count_left f feed = length (bytes_left f feed)

-- what is known of the feeds, which is all
abbrev pub inputs_of : FeedsState → Inputs
inputs_of f =
    record {
      under = under f.files;
      left = left_on f;
      is_open = feed_is_open f;
      faults = f.calls.faults;
    }

-- an opening of the feed on this name fails: it is listed, there is no such feed, or no such file
abbrev pub opening_fails : FeedsState → ℕ → List ℕ → Bool
opening_fails f feed name =
    is_listed f.calls || nat_le (length f.left) feed || is_none (under f.files name)

-- how many bytes a call moves from these, into a buffer of this length
abbrev pub moved : ℕ → ℕ → ℕ → ℕ
moved step room left = min (min left room) step
