-- The network that a text spells, or the rule that it breaks first.
-- Trusted: part of what a promise means.
use Rattle.std.specs.Prelude.{◌≡◌, ℕ, List, length, if◌then◌else◌, nat_le, Option, None, Some}
use Rattle.rvc_base.specs.declared.refusal.Rule.{Rule}
use Rattle.rvc_base.specs.declared.refusal.Front.{Front as Refusing}
use Rattle.rvc_base.specs.declared.refusal.Front.TheVariants.{Refused, Memory}
use Rattle.rvc_base.specs.Rules.{spells_no_network}
use Rattle.fnl_markup.specs.Markup.{Broken, fault, tags_of, broken_of}
use Rattle.fnl_frames.specs.Net.{Net}
use Rattle.fnl_read.specs.States.{fresh, Next, Going, Fault}
use Rattle.fnl_read.specs.Elements.{run, net_in}

pub data Answer : Type 0 where
  Network : Net → Answer
  Broke : (rule : Rule) (at : ℕ) → Answer

abbrev pub found_in : Option Net → ℕ → Answer
found_in (Some net) size = Network net
found_in None size = Broke spells_no_network size

-- of a rule that the elements break, and one that the markup breaks, the one at the earlier place
abbrev pub first_of : Next → Option Broken → ℕ → Answer
first_of (Going s) None size = found_in (net_in s.top) size
first_of (Going s) (Some (fault rule at)) size = Broke rule at
first_of (Fault rule at) None size = Broke rule at
first_of (Fault rule at) (Some (fault other place)) size =
    if nat_le at place then Broke rule at else Broke other place

-- what a text spells
abbrev pub network : List ℕ → Answer
network text = first_of (run (Going fresh) (tags_of text)) (broken_of text) (length text)

-- a refusal names the rule that the text breaks first; out of memory says nothing of it
abbrev pub IsRightly : ℕ → Answer → Refusing → Type 0
IsRightly file answer (Refused refusal) =
    (refusal.place.file ≡ file) × (answer ≡ Broke refusal.rule refusal.place.offset)
IsRightly file answer Memory = Unit {0}
