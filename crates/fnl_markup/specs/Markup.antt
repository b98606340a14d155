-- The tags of a text, and the rule that it breaks first.
-- Trusted: part of what a promise means.
use Rattle.std.specs.Prelude.{◌≡◌, ℕ, ◌+◌, List, [], ◌∷◌, length, Bool, true, false, ◌&&◌, if◌then◌else◌, nat_lt, nat_le, Option, None, Some}
use Rattle.std.specs.Str.Lossy.{utf8_valid_len}
use Rattle.rvc_base.specs.declared.refusal.Rule.{Rule}
use Rattle.rvc_base.specs.Rules.{spells_no_network, wrong_encoding}
use Rattle.fnl_markup.specs.Tags.{Tag}
use Rattle.fnl_markup.specs.State.{State, fresh, Going, Fault}
use Rattle.fnl_markup.specs.Step.{step, is_nil}
use Rattle.fnl_markup.specs.declared.place.Place.{Place}
use Rattle.fnl_markup.specs.declared.place.Place.TheVariants.{Content}

-- a rule that is broken, and the offset at which it is
pub data Broken : Type 0 where
  fault : (rule : Rule) (at : ℕ) → Broken

-- where reading ends: what is at hand there, and the rule that was found broken
pub data Ended : Type 0 where
  ended : State → Option Broken → Ended

-- where the reading of bytes ends, which stand from an offset on
abbrev pub run : ℕ → State → List ℕ → Ended
run at s [] = ended s None
run at s (b ∷ bytes) =
    elim (step at s b) [
      | Going next ↦ run (at + 1) next bytes
      | Fault rule place ↦ ended s
          (Some (fault rule place))
    ]

abbrev pub is_content : Place → Bool
is_content Content = true
is_content _ = false

-- the text may end here, behind its one element, blanks and comments
abbrev pub is_whole : State → Bool
is_whole s = is_content s.place && (s.begun && is_nil s.opened)

-- The rule that is broken in so many bytes, of which so many are UTF-8: the earlier place comes first.

abbrev pub at_end : ℕ → ℕ → State → Option Broken
at_end size valid s =
    if nat_lt valid size then Some (fault wrong_encoding valid)
    else (if is_whole s then None else Some (fault spells_no_network size))

abbrev pub first_broken : ℕ → ℕ → State → Option Broken → Option Broken
first_broken size valid s (Some (fault rule at)) =
    Some (if nat_le at valid then fault rule at else fault wrong_encoding valid)
first_broken size valid s None = at_end size valid s

abbrev pub tags_read : Ended → List Tag
tags_read (ended s broken) = s.tags

abbrev pub broken_in : ℕ → ℕ → Ended → Option Broken
broken_in size valid (ended s broken) = first_broken size valid s broken

abbrev pub reading : List ℕ → Ended
reading text = run 0 fresh text

-- the tags that a text begins with
abbrev pub tags_of : List ℕ → List Tag
tags_of text = tags_read (reading text)

-- the rule that a text breaks first
abbrev pub broken_of : List ℕ → Option Broken
broken_of text = broken_in (length text) (utf8_valid_len text) (reading text)

-- a text is one element with these tags
pub record IsMarkup (text : List ℕ) (tags : List Tag) : Type 0 where
  pub whole : broken_of text ≡ None
  pub spelled : tags_of text ≡ tags
