-- Which ports the port words name (this profile): each names one of the ports that the command opens, and no two name
-- one.
-- Trusted: part of what a promise means.
use Rattle.std.specs.Prelude.{◌≡◌, ◌<◌, ◌⊎◌, ℕ, Bool, true, false, List, [], ◌∷◌, length, map, take, slice_get, Option, None, Some, if◌then◌else◌, string_bytes}
use Rattle.std.specs.List.{list_any}
use Rattle.std.specs.Str.{bytes_eq}
use Rattle.rvc_base.specs.declared.refusal.Refusal.{Refusal}
use Rattle.rvc_base.specs.declared.refusal.Rule.{Rule}
use Rattle.rvc_base.specs.Rules.{port_twice, unknown_port}
use Rattle.rvc_words.specs.Words.{PortText}
use Rattle.net_model.specs.declared.wiring.Port.{Port}

-- the names of ports
abbrev pub names_of : List Port → List (List ℕ)
names_of ports = map (λ p. string_bytes p.name) ports

abbrev pub is_port : List ℕ → List (List ℕ) → Bool
is_port name ports = list_any (λ port. bytes_eq port name) ports

-- whether one of the words names a port of this name
abbrev pub is_named : List ℕ → List PortText → Bool
is_named name words = list_any (λ w. bytes_eq w.name name) words

-- the word at this place names a port, and none before it names the same one
pub record Fits (ports : List (List ℕ)) (words : List PortText) (k : ℕ) : Type 0 where
  pub word : PortText
  pub is_there : slice_get words k ≡ Some word
  pub known : is_port word.name ports ≡ true
  pub first : is_named word.name (take k words) ≡ false

-- each word names a port of its own
abbrev pub AreMatched : List (List ℕ) → List PortText → Type 0
AreMatched ports words = (k : ℕ) → k < length words → Fits ports words k

-- the rules of port words: one names no port that the command opens; one names a port that an earlier one names
abbrev pub BreaksRule : List (List ℕ) → List PortText → PortText → Rule → Type 0
BreaksRule ports earlier word rule =
    ((rule ≡ unknown_port) × (is_port word.name ports ≡ false))
    ⊎ ((rule ≡ port_twice) × (is_port word.name ports ≡ true) × (is_named word.name earlier ≡ true))

-- the first word that doesn't fit breaks this rule
pub record IsWrong (ports : List (List ℕ)) (words : List PortText) (rule : Rule) (k : ℕ) :
    Type 0 where
  pub before : (j : ℕ) → j < k → Fits ports words j
  pub word : PortText
  pub is_there : slice_get words k ≡ Some word
  pub breaks : BreaksRule ports (take k words) word rule

-- the refusal names the first word that doesn't fit, by its number among the port words, at the command line
abbrev pub IsWrongWord : List (List ℕ) → List PortText → Refusal → Type 0
IsWrongWord ports words refusal = (refusal.place.file ≡ 0)
    × IsWrong ports words refusal.rule refusal.place.offset

-- the file of the word that names a port; none if no word names it
abbrev pub file_of : List ℕ → List PortText → Option (List ℕ)
file_of name [] = None
file_of name (w ∷ rest) = if bytes_eq w.name name then Some w.file else file_of name rest
