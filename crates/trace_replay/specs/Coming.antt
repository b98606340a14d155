-- The bytes of a trace that are still to come, and what a call takes of them.
-- Not trusted: no promise is read with it.
use Rattle.std.specs.Prelude.{◌≡◌, ℕ, List, [], ◌∷◌, ◌++◌, Option, None, Some}
use Rattle.rvc_io.specs.Feeds.{Inputs}
use Rattle.port_files.specs.Coming.{NothingLeft, coming_on}
use Rattle.trace_replay.specs.declared.bytes.TheConstants.{TRACE_FEED}

-- these bytes begin with this one, and then the others follow
abbrev pub StartsWith : ℕ → List ℕ → List ℕ → Type 0
StartsWith byte bytes others = bytes ≡ byte ∷ others

-- this text went from the front of what was to come, if that is told
abbrev pub Passes : List ℕ → Option (List ℕ) → Option (List ℕ) → Type 0
Passes text None after = after ≡ None
Passes text (Some before) None = ⊥
Passes text (Some before) (Some after) = before ≡ text ++ after

-- the first byte was given, or none is to come
abbrev pub GivesByte : Option ℕ → Option (List ℕ) → Option (List ℕ) → Type 0
GivesByte None before after = NothingLeft before × (after ≡ before)
GivesByte (Some byte) before after = Passes (byte ∷ []) before after

-- the same of the trace's feed, of which so many bytes were pulled
module _ {S : Type 0} (feeds : S → Inputs) where
  abbrev pub GivesNext : Option ℕ → List ℕ → S → List ℕ → S → Type 0
  GivesNext next pulled before pulled_new after =
      GivesByte next (coming_on pulled (feeds before) TRACE_FEED)
      (coming_on pulled_new (feeds after) TRACE_FEED)
