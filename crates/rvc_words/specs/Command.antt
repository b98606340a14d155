-- The command that the words are matched by, and what stands at its places.
-- Trusted: part of what a promise means.
use Rattle.std.specs.Prelude.{Bool, true, false, List, [], ◌∷◌, Option, Some, codes, unwrap_or}
use Rattle.clap.specs.Lexer.{usize_max}
use Rattle.clap.specs.Walk.{Row, Rule, Text, all_of, first_of}
use Rattle.clap.specs.Simple.{App, matches_of, new_app, new_rule, on_top, with_rule}
use Rattle.clap.specs.Faults.{fault_of}
use Rattle.clap.specs.Kinds.{Kinds}

-- a place that one word has to take
abbrev pub place : Text → Rule
place id = record (new_rule id) { required = true }

-- a last place that any number of words take
abbrev pub last_place : Text → Rule
last_place id = record (new_rule id)
    { range = Some (record { start_inclusive = 0; end_inclusive = usize_max }) }

-- an option with a value, which may be given once
abbrev pub option : Text → Rule
option name = record (new_rule name) { long = Some name }

-- no flag for help or for a version
abbrev pub without_flags : App → App
without_flags =
    on_top (λ shape. record shape { disable_help_flag = true; disable_version_flag = true })

-- the places `VERB`, `TOP` and `PORTS`, and six options, in any order
unfoldable pub rvc : App
rvc =
    let places =
    with_rule (with_rule (with_rule (without_flags (new_app (codes "rvc")))
    (place (codes "VERB"))) (place (codes "TOP"))) (last_place (codes "PORTS")) in
    with_rule (with_rule (with_rule (with_rule (with_rule (with_rule places
    (option (codes "trace"))) (option (codes "workers"))) (option (codes "round")))
    (option (codes "burst"))) (option (codes "budget"))) (option (codes "grow"))

abbrev pub is_some_fault : Kinds → Bool
is_some_fault [] = false
is_some_fault (kind ∷ more) = true

-- The command finds fault with the words: a place is lacking, an option isn't known, has no value or is given
-- twice, or an option's value begins with `-` and isn't joined to it by `=`.
unfoldable pub refuses : List Text → Bool
refuses words = is_some_fault (fault_of rvc words)

-- what the command makes of the words
unfoldable pub matches : List Text → List Row
matches words = matches_of rvc words

-- what stands at the places and behind the options
pub record Parts : Type 0 where
  pub verb : Text
  pub top : Text
  pub ports : List Text
  pub trace : Text
  pub workers : Option Text
  pub round : Option Text
  pub burst : Option Text
  pub budget : Option Text
  pub grow : Option Text

-- the word at a place or behind an option, or nothing
abbrev pub text_at : Text → List Row → Text
text_at id rows = unwrap_or (first_of id rows) []

abbrev pub texts_at : Text → List Row → List Text
texts_at id rows = unwrap_or (all_of id rows) []

unfoldable pub parts_of : List Row → Parts
parts_of rows = record {
  verb = text_at (codes "VERB") rows;
  top = text_at (codes "TOP") rows;
  ports = texts_at (codes "PORTS") rows;
  trace = text_at (codes "trace") rows;
  workers = first_of (codes "workers") rows;
  round = first_of (codes "round") rows;
  burst = first_of (codes "burst") rows;
  budget = first_of (codes "budget") rows;
  grow = first_of (codes "grow") rows;
}
