-- Which tokens a text has, and which fault it has first.
-- Trusted: part of what a promise means.
use Rattle.std.specs.Prelude.{◌≡◌, ℕ, ◌+◌, List, [], ◌∷◌, take, drop, Some, None}
use Rattle.rvc_base.specs.declared.refusal.Rule.{Rule}
use Rattle.rvc_base.specs.declared.refusal.Front.{Front as Answer}
use Rattle.rvc_base.specs.declared.refusal.Front.TheVariants.{Refused, Memory}
use Rattle.cal_lexer.specs.Lexeme.{Lexeme, Placed, placed}
use Rattle.cal_lexer.specs.Lexis.{front, Gap, Fault, IsNext, flaw}

-- These bytes, which stand from an offset on, have these tokens and no fault.
pub data LexesFrom : List ℕ → ℕ → List Placed → Type 0 where
  ends : {at : ℕ} → LexesFrom [] at []
  after_gap : {bytes : List ℕ} {at size : ℕ} {tokens : List Placed} → front bytes ≡ Gap size
      → LexesFrom (drop size bytes) (at + size) tokens → LexesFrom bytes at tokens
  after_token : {bytes : List ℕ} {at size : ℕ} {kind : Lexeme} {tokens : List Placed}
      → IsNext bytes size kind → flaw kind (take size bytes) (drop size bytes) ≡ None
      → LexesFrom (drop size bytes) (at + size) tokens
      → LexesFrom bytes at (placed kind at ∷ tokens)

-- The first fault of these bytes, which stand from an offset on, is that they break this rule at this place.
pub data FaultsFrom : List ℕ → ℕ → Rule → ℕ → Type 0 where
  no_token : {bytes : List ℕ} {at : ℕ} {rule : Rule} → front bytes ≡ Fault rule
      → FaultsFrom bytes at rule at
  flawed : {bytes : List ℕ} {at size : ℕ} {kind : Lexeme} {rule : Rule} → IsNext bytes size kind
      → flaw kind (take size bytes) (drop size bytes) ≡ Some rule → FaultsFrom bytes at rule at
  behind_gap : {bytes : List ℕ} {at size place : ℕ} {rule : Rule} → front bytes ≡ Gap size
      → FaultsFrom (drop size bytes) (at + size) rule place → FaultsFrom bytes at rule place
  behind_token : {bytes : List ℕ} {at size place : ℕ} {kind : Lexeme} {rule : Rule}
      → IsNext bytes size kind → flaw kind (take size bytes) (drop size bytes) ≡ None
      → FaultsFrom (drop size bytes) (at + size) rule place → FaultsFrom bytes at rule place

-- the tokens of a text
abbrev pub lexes : List ℕ → List Placed → Type 0
lexes text tokens = LexesFrom text 0 tokens

-- the fault that a text has first
abbrev pub faults : List ℕ → Rule → ℕ → Type 0
faults text rule place = FaultsFrom text 0 rule place

-- a refusal names the fault that the text has first; running out of memory says nothing of it
abbrev pub IsRightly : ℕ → List ℕ → Answer → Type 0
IsRightly number text (Refused refusal) = (refusal.place.file ≡ number)
    × faults text refusal.rule refusal.place.offset
IsRightly number text Memory = Unit {0}

-- out of memory, or a refusal that names this rule and this place
abbrev pub IsMemoryOr : ℕ → Rule → ℕ → Answer → Type 0
IsMemoryOr number rule at (Refused refusal) = (refusal.rule ≡ rule) × (refusal.place.file ≡ number)
    × (refusal.place.offset ≡ at)
IsMemoryOr number rule at Memory = Unit {0}
