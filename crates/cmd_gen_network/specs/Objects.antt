-- The library and the feeds of the generator's network. No call to them fails.
-- Trusted: part of what a promise means.
use Rattle.std.specs.Prelude.{ℕ, ◌≤◌, Bool, List, Option, None, Some, is_some, length, drop, option_map, slice_index_or}
use Rattle.rvc_io.specs.Feeds.{Inputs}
use Rattle.rvc_io.specs.Files.{under}
use Rattle.rvc_io.specs.MemLibrary.{LibraryState, told}
use Rattle.rvc_io.specs.Past.{Done}
use Rattle.rvc_io.specs.Told.{Told}
use Rattle.cmd_gen_network.specs.Texts.{files_of}

-- ---- the library

-- what is told of a file: all
abbrev pub file_told : LibraryState → List ℕ → Told
file_told library name = told (under library.files name)

-- .. of the files of a network of so many instances
abbrev pub library_of : (instances : ℕ) → List ℕ → Told
library_of instances name = told (under (files_of instances) name)

-- ---- the feeds

-- the bytes that each feed has, whatever name it is opened by; for each feed how many of them were pulled, if it is open; and
-- what was done
pub record FeedsState : Type 0 where
  pub bytes : List ℕ
  pub pulled : List (Option ℕ)
  pub past : List Done

-- how many bytes of a feed were pulled, if it is open; those behind the last count as pulled to their end
abbrev pub pulled_on : FeedsState → ℕ → Option ℕ
pulled_on feeds feed = slice_index_or feeds.pulled feed (Some (length feeds.bytes))

abbrev pub left_on : FeedsState → ℕ → Option (List ℕ)
left_on feeds feed = option_map (λ count. drop count feeds.bytes) (pulled_on feeds feed)

abbrev pub feed_is_open : FeedsState → ℕ → Bool
feed_is_open feeds feed = is_some (pulled_on feeds feed)

-- what is known of them, which is all
abbrev pub inputs_of : FeedsState → Inputs
inputs_of feeds = record {
  under = λ name. Some feeds.bytes;
  left = left_on feeds;
  is_open = feed_is_open feeds;
  faults = 0;
}

-- no more was pulled of a feed than it has
abbrev pub IsWithin : (bytes : List ℕ) → Option ℕ → Type 0
IsWithin bytes None = Unit {0}
IsWithin bytes (Some count) = count ≤ length bytes
