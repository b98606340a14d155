-- The forms of the words.
-- Trusted: part of what a promise means.
use Rattle.std.specs.Prelude.{ℕ, Bool, true, false, ◌||◌, ◌&&◌, not, nat_le, ◌==◌, if◌then◌else◌, List, length, codes, Option, None, Some, is_some, option_map}
use Rattle.std.specs.List.{before_first, after_first, list_all, slice_split}
use Rattle.std.specs.Str.{bytes_eq}
use Rattle.std.specs.Str.Parse.{digits_value}
use Rattle.cal_lexer.specs.Lexis.{is_name}
use Rattle.rvc_base.specs.declared.round_kind.RoundKind.{RoundKind}
use Rattle.rvc_base.specs.declared.round_kind.RoundKind.TheVariants.{All, Turn, Seed}
use Rattle.rvc_words.specs.declared.job.Verb.{Verb}
use Rattle.rvc_words.specs.declared.job.Verb.TheVariants.{Run, Check, Certify, Replay, Fmt, Gen}
use Rattle.rvc_words.specs.Limits.{max_digits, max_seed, max_generated}

abbrev pub is_empty : {A : Type 0} → List A → Bool
is_empty items = length items == 0

-- what stands before the first of a mark, or all, and what stands behind it, or nothing
abbrev pub front_of : ℕ → List ℕ → List ℕ
front_of mark text = before_first (λ b. b == mark) text

abbrev pub rest_of : ℕ → List ℕ → List ℕ
rest_of mark text = after_first (λ b. b == mark) text

-- Numbers.

abbrev pub is_digit : ℕ → Bool
is_digit b = nat_le 48 b && nat_le b 57

-- 1 to 20 decimal digits, and a number within bounds
unfoldable pub number : (least most : ℕ) → List ℕ → Option ℕ
number least most word =
    let value = digits_value 10 word in
    if not (is_empty word) && nat_le
    (length word) max_digits && list_all is_digit word && nat_le least value && nat_le value
    most
    then Some value else None

-- an option's value, read by its form, or the default if the option isn't given
abbrev pub given_or : {A : Type 0} → A → (List ℕ → Option A) → Option (List ℕ) → Option A
given_or default read None = Some default
given_or default read (Some word) = read word

-- Names and files.

-- names joined by `/`
unfoldable pub is_path : List ℕ → Bool
is_path text = list_all is_name (slice_split (λ b. b == 47) text)

-- names joined by `/`, a dot, and the ending of a kind of file
unfoldable pub is_file : (ending text : List ℕ) → Bool
is_file ending text = is_path (front_of 46 text) && bytes_eq (rest_of 46 text) ending

-- The forms.

unfoldable pub verb_of : List ℕ → Option Verb
verb_of text =
    if bytes_eq text (codes "run") then Some Run
    else (if bytes_eq text (codes "check") then Some Check
    else (if bytes_eq text (codes "certify") then Some Certify
    else (if bytes_eq text (codes "replay") then Some Replay
    else (if bytes_eq text (codes "fmt") then Some Fmt
    else (if bytes_eq text (codes "gen") then Some Gen
    else None)))))

abbrev pub is_source : List ℕ → Bool
is_source text = is_file (codes "cal") text

-- an actor or a network
abbrev pub is_actor_or_network : List ℕ → Bool
is_actor_or_network text = is_source text || is_file (codes "xdf") text

-- the top of a verb: a file, or the number of a generated network
abbrev pub is_top : Verb → List ℕ → Bool
is_top Fmt text = is_source text
is_top Gen text = is_some (number 1 max_generated text)
is_top _ text = is_actor_or_network text

-- `all`, `turn`, or `seed:` and a number
unfoldable pub round_of : List ℕ → Option RoundKind
round_of text =
    if bytes_eq text (codes "all") then Some All
    else (if bytes_eq text (codes "turn") then Some Turn
    else (if bytes_eq (front_of 58 text) (codes "seed") then option_map Seed (number 0 max_seed (rest_of 58 text))
    else None))

-- `NAME=FILE`, cut at its first `=`, neither side empty
unfoldable pub is_port : List ℕ → Bool
is_port word = not (is_empty (front_of 61 word)) && not (is_empty (rest_of 61 word))

-- the verbs that write or read a trace
abbrev pub needs_trace : Verb → Bool
needs_trace Run = true
needs_trace Replay = true
needs_trace Gen = true
needs_trace _ = false

-- the verb needs a trace, and none is named
abbrev pub lacks_trace : Verb → List ℕ → Bool
lacks_trace verb trace = needs_trace verb && is_empty trace
