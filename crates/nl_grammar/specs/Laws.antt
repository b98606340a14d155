-- The text of a network, and what is promised of a text that is refused.
-- Trusted: part of what a promise means.
use Rattle.std.specs.Prelude.{◌≡◌, ◌≤◌, ℕ, List, ◌∷◌, length}
use Rattle.rvc_base.specs.Rules.{spells_no_file, too_high}
use Rattle.rvc_base.specs.declared.refusal.Rule.{Rule}
use Rattle.rvc_base.specs.declared.refusal.Front.{Front as Answer}
use Rattle.rvc_base.specs.declared.refusal.Front.TheVariants.{Refused, Memory}
use Rattle.cal_lexer.specs.Lexeme.{Placed}
use Rattle.cal_lexer.specs.NetLexes.{lexes_net, faults_net}
use Rattle.cal_grammar.specs.Operators.{max_height}
use Rattle.cal_grammar.specs.Reading.{IsRefused, IsTooHigh}
use Rattle.cal_grammar.specs.Refusals.{place_in}
use Rattle.cal_grammar.specs.Token.{offset}
use Rattle.fnl_frames.specs.Net.{Net}
use Rattle.nl_grammar.specs.Spells.{spells_nl}

-- a network, and how high its text is
pub record Spelled : Type 0 where
  pub net : Net
  pub high : ℕ

abbrev pub spells : List Placed → Spelled → Type 0
spells ts x = spells_nl ts x.net x.high

abbrev pub high_of : Spelled → ℕ
high_of x = x.high

-- a text whose tokens spell the network, and isn't too high
pub record IsTextNetwork (text : List ℕ) (net : Net) : Type 0 where
  pub tokens : List Placed
  pub high : ℕ
  pub lexed : lexes_net text tokens
  pub spelled : spells_nl tokens net high
  pub low : high ≤ max_height

-- which rule of the grammar the tokens of a text of this length break, and where: no text of a network goes on so, or
-- none that isn't too high
pub data Breaks (end : ℕ) (ts : List Placed) : Rule → ℕ → Type 0 where
  breaks_off : (left : List Placed) → IsRefused spells ts left
      → Breaks end ts spells_no_file (place_in end left)
  grows_high : (t : Placed) (left : List Placed)
      → IsTooHigh spells high_of max_height ts (t ∷ left) → Breaks end ts too_high (offset t)

-- which rule a text breaks, and where
pub data BreaksText (text : List ℕ) : Rule → ℕ → Type 0 where
  in_a_token : {rule : Rule} {at : ℕ} → faults_net text rule at → BreaksText text rule at
  in_the_grammar : {ts : List Placed} {rule : Rule} {at : ℕ} → lexes_net text ts
      → Breaks (length text) ts rule at → BreaksText text rule at

-- a refusal names this file, and what its text breaks; out of memory says nothing of it
abbrev pub IsRightly : ℕ → List ℕ → Answer → Type 0
IsRightly number text (Refused refusal) = (refusal.place.file ≡ number)
    × BreaksText text refusal.rule refusal.place.offset
IsRightly number text Memory = Unit {0}
