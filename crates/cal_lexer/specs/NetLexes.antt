-- The tokens and the faults of a text of a network: those of the language, and braces besides.
-- Trusted: part of what a promise means.
use Rattle.std.specs.Prelude.{◌≡◌, ℕ, ◌+◌, List, [], ◌∷◌, take, drop, slice_index, Bool, true, false, Option, Some, None}
use Rattle.rvc_base.specs.declared.refusal.Rule.{Rule}
use Rattle.rvc_base.specs.declared.refusal.Front.{Front as Answer}
use Rattle.rvc_base.specs.declared.refusal.Front.TheVariants.{Refused, Memory}
use Rattle.cal_lexer.specs.Lexeme.{Lexeme, Placed, placed}
use Rattle.cal_lexer.specs.Lexis.{front, find, Gap, Fault, IsNext, flaw}
use Rattle.cal_lexer.specs.Words.{spelled}

abbrev pub is_brace : Lexeme → Bool
is_brace Lexeme.LeftBrace = true
is_brace Lexeme.RightBrace = true
is_brace _ = false

abbrev pub braces : List (List ℕ × Lexeme)
braces = spelled (Lexeme.LeftBrace ∷ Lexeme.RightBrace ∷ [])

-- the token of a byte that is a brace
abbrev pub brace_of : ℕ → Option Lexeme
brace_of b = find (b ∷ []) braces

-- These bytes, which stand from an offset on, have these tokens and no fault.
pub data NetLexesFrom : List ℕ → ℕ → List Placed → Type 0 where
  ends : {at : ℕ} → NetLexesFrom [] at []
  after_gap : {bytes : List ℕ} {at size : ℕ} {tokens : List Placed} → front bytes ≡ Gap size
      → NetLexesFrom (drop size bytes) (at + size) tokens → NetLexesFrom bytes at tokens
  after_token : {bytes : List ℕ} {at size : ℕ} {kind : Lexeme} {tokens : List Placed}
      → IsNext bytes size kind → flaw kind (take size bytes) (drop size bytes) ≡ None
      → NetLexesFrom (drop size bytes) (at + size) tokens
      → NetLexesFrom bytes at (placed kind at ∷ tokens)
  after_brace : {b at : ℕ} {bytes : List ℕ} {kind : Lexeme} {tokens : List Placed}
      → brace_of b ≡ Some kind → NetLexesFrom bytes (at + 1) tokens
      → NetLexesFrom (b ∷ bytes) at (placed kind at ∷ tokens)

-- The first fault of these bytes, which stand from an offset on, is that they break this rule at this place.
pub data NetFaultsFrom : List ℕ → ℕ → Rule → ℕ → Type 0 where
  no_token : {bytes : List ℕ} {at : ℕ} {rule : Rule} → brace_of (slice_index bytes 0) ≡ None
      → front bytes ≡ Fault rule → NetFaultsFrom bytes at rule at
  flawed : {bytes : List ℕ} {at size : ℕ} {kind : Lexeme} {rule : Rule} → IsNext bytes size kind
      → flaw kind (take size bytes) (drop size bytes) ≡ Some rule → NetFaultsFrom bytes at rule at
  behind_gap : {bytes : List ℕ} {at size place : ℕ} {rule : Rule} → front bytes ≡ Gap size
      → NetFaultsFrom (drop size bytes) (at + size) rule place → NetFaultsFrom bytes at rule place
  behind_token : {bytes : List ℕ} {at size place : ℕ} {kind : Lexeme} {rule : Rule}
      → IsNext bytes size kind → flaw kind (take size bytes) (drop size bytes) ≡ None
      → NetFaultsFrom (drop size bytes) (at + size) rule place → NetFaultsFrom bytes at rule place
  behind_brace : {b at place : ℕ} {bytes : List ℕ} {kind : Lexeme} {rule : Rule}
      → brace_of b ≡ Some kind → NetFaultsFrom bytes (at + 1) rule place
      → NetFaultsFrom (b ∷ bytes) at rule place

-- the tokens of a text of a network
abbrev pub lexes_net : List ℕ → List Placed → Type 0
lexes_net text tokens = NetLexesFrom text 0 tokens

-- the fault that a text of a network has first
abbrev pub faults_net : List ℕ → Rule → ℕ → Type 0
faults_net text rule place = NetFaultsFrom text 0 rule place

-- a refusal names the fault that the text has first; running out of memory says nothing of it
abbrev pub IsRightlyNet : ℕ → List ℕ → Answer → Type 0
IsRightlyNet number text (Refused refusal) = (refusal.place.file ≡ number)
    × faults_net text refusal.rule refusal.place.offset
IsRightlyNet number text Memory = Unit {0}

-- no token among these is a brace
abbrev pub HasNoBrace : List Placed → Type 0
HasNoBrace [] = Unit {0}
HasNoBrace (placed kind at ∷ tokens) = (is_brace kind ≡ false) × HasNoBrace tokens
