-- What holds of markup that is read, and its grammar.
-- Trusted: part of what a promise means.
use Rattle.std.specs.Prelude.{◌≡◌, ◌+◌, ℕ, List, take, Some}
use Rattle.rvc_base.specs.Rules.{spells_no_network}
use Rattle.fnl_markup.specs.Tags.{Tag}
use Rattle.fnl_markup.specs.Markup.{IsMarkup, broken_of, fault}
use Rattle.fnl_grammar.specs.Markup.{IsDocument}

-- tags that are read are spelled by the text
abbrev pub TagsAreSpelled : Type 0
TagsAreSpelled = (text : List ℕ) (tags : List Tag) → IsMarkup text tags → IsDocument text tags

-- tags that are spelled by a text are read
abbrev pub TagsAreRead : Type 0
TagsAreRead = (text : List ℕ) (tags : List Tag) → IsDocument text tags → IsMarkup text tags

-- a text spells at most one list of tags
abbrev pub SpellsOneMarkup : Type 0
SpellsOneMarkup = (text : List ℕ) (one other : List Tag)
    → IsDocument text one → IsDocument text other → one ≡ other

-- where no markup goes on, no text that goes on the same way spells tags
abbrev pub NoDocumentGoesOn : Type 0
NoDocumentGoesOn =
    (text other : List ℕ) (at : ℕ) (tags : List Tag)
    → broken_of text ≡ Some (fault spells_no_network at)
    → take (at + 1) other ≡ take (at + 1) text → IsDocument other tags → ⊥
