-- What holds of files that are read, and the grammar.
-- Trusted: part of what a promise means.
use Rattle.std.specs.Prelude.{◌≡◌, ◌+◌, ℕ, List, take}
use Rattle.rvc_base.specs.Rules.{spells_no_network}
use Rattle.fnl_markup.specs.Tags.{Tag}
use Rattle.fnl_markup.specs.Markup.{IsMarkup}
use Rattle.fnl_frames.specs.Net.{Net}
use Rattle.fnl_read.specs.Network.{Broke, Network, network}
use Rattle.fnl_grammar.specs.Productions.{Spells}
use Rattle.fnl_grammar.specs.Markup.{IsDocument}

-- a text is one element with some tags, which spell a network
pub record SpellsNetwork (text : List ℕ) (net : Net) : Type 0 where
  pub tags : List Tag
  pub markup : IsMarkup text tags
  pub spelled : Spells tags net

-- a network that is read is spelled by the text
abbrev pub ReadIsSpelled : Type 0
ReadIsSpelled = (text : List ℕ) (net : Net) → network text ≡ Network net → SpellsNetwork text net

-- a network that is spelled by a text is read
abbrev pub SpelledIsRead : Type 0
SpelledIsRead = (text : List ℕ) (net : Net) → SpellsNetwork text net → network text ≡ Network net

-- a text spells at most one network
abbrev pub SpellsOne : Type 0
SpellsOne = (text : List ℕ) (one other : Net) → SpellsNetwork text one → SpellsNetwork text other → one ≡ other

-- where no text of a network goes on, no text that goes on the same way spells one
abbrev pub NoneGoesOn : Type 0
NoneGoesOn =
    (text other : List ℕ) (at : ℕ) (net : Net) → network text ≡ Broke spells_no_network at
    → take (at + 1) other ≡ take (at + 1) text → SpellsNetwork other net → ⊥

-- the bytes of a text spell tags, which spell a network, both by productions alone
pub record IsNetworkFile (text : List ℕ) (net : Net) : Type 0 where
  pub tags : List Tag
  pub document : IsDocument text tags
  pub spelled : Spells tags net

-- a network that is read is spelled by the bytes
abbrev pub ReadIsNetworkFile : Type 0
ReadIsNetworkFile =
    (text : List ℕ) (net : Net) → network text ≡ Network net → IsNetworkFile text net

-- a network that is spelled by the bytes is read
abbrev pub NetworkFileIsRead : Type 0
NetworkFileIsRead =
    (text : List ℕ) (net : Net) → IsNetworkFile text net → network text ≡ Network net

-- bytes spell at most one network
abbrev pub IsOneNetworkFile : Type 0
IsOneNetworkFile = (text : List ℕ) (one other : Net)
    → IsNetworkFile text one → IsNetworkFile text other → one ≡ other

-- where no text of a network goes on, the bytes of no text that goes on the same way spell one
abbrev pub NoNetworkFileGoesOn : Type 0
NoNetworkFileGoesOn =
    (text other : List ℕ) (at : ℕ) (net : Net) → network text ≡ Broke spells_no_network at
    → take (at + 1) other ≡ take (at + 1) text → IsNetworkFile other net → ⊥
