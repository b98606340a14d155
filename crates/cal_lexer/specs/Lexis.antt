-- The lexis: blanks, comments, names, reserved words, numbers and symbols.
-- Trusted: part of what a promise means.
use Rattle.std.specs.Prelude.{◌≡◌, ℕ, ◌+◌, ◌-◌, ◌*◌, ◌^◌, ◌<◌, ◌≤◌, List, [], ◌∷◌, length, take, drop, Bool, ◌&&◌, ◌||◌, not, if◌then◌else◌, ◌==◌, nat_lt, nat_le, Option, Some, None, is_some, slice_index, fold}
use Rattle.std.specs.List.{list_all}
use Rattle.std.specs.Str.{bytes_eq}
use Rattle.std.specs.Char.{is_ascii_alphabetic, is_ascii_digit, is_ascii_hexdigit}
use Rattle.rvc_base.specs.declared.refusal.Rule.{Rule}
use Rattle.rvc_base.specs.Rules.{foreign_byte, open_comment, number_too_big, number_runs_on, string_literal, leading_zero, name_too_long}
use Rattle.cal_lexer.specs.Words.{spelled}
use Rattle.cal_lexer.specs.Lexeme.{Lexeme, Name, Number, Actor, Unit, Package, Import, Action, Initialize, Function, Procedure, Guard, Var, Do, Begin, End, If, Then, Elsif, Else, While, Foreach, For, In, Repeat, Schedule, Fsm, Priority, True, False, Not, And, Or, Div, Mod, EndActor, EndUnit, EndAction, EndInitialize, EndFunction, EndProcedure, EndIf, EndWhile, EndForeach, EndBegin, EndSchedule, EndPriority, LongDoubleArrow, LongArrow, Assign, DotDot, LessEqual, GreaterEqual, NotEqual, ShiftLeft, ShiftRight, AndAnd, OrOr, LeftParen, RightParen, LeftBracket, RightBracket, Comma, Semicolon, Colon, Dot, Plus, Minus, Star, Slash, Equal, Less, Greater, Ampersand, Bar, Caret, Tilde}

-- Bytes. The byte at a place past the end is 0, which nothing of the lexis has.

-- space, tab, CR, LF and form feed
abbrev pub is_blank : ℕ → Bool
is_blank b = (b == 32) || ((b == 9) || ((b == 13) || ((b == 10) || (b == 12))))

-- a letter or `_`
abbrev pub begins_name : ℕ → Bool
begins_name b = is_ascii_alphabetic b || (b == 95)

-- a letter, `_` or a digit
abbrev pub goes_on_name : ℕ → Bool
goes_on_name b = begins_name b || is_ascii_digit b

-- Tokens by their text.

-- what stands beside a text in a table
abbrev pub find : List ℕ → List (List ℕ × Lexeme) → Option Lexeme
find text [] = None
find text (e ∷ table) = if bytes_eq text e.0 then Some e.1 else find text table

abbrev pub first_of_both : Option Lexeme → Option Lexeme → Option Lexeme
first_of_both None other = other
first_of_both (Some kind) other = Some kind

abbrev pub words : List (List ℕ × Lexeme)
words =
    spelled (Actor ∷ Unit ∷ Package ∷ Import ∷ Action ∷ Initialize ∷ Function ∷ Procedure ∷ Guard ∷
    Var ∷ Do ∷ Begin ∷ End ∷ If ∷ Then ∷ Elsif ∷ Else ∷ While ∷ Foreach ∷ For ∷ In ∷ Repeat ∷
    Schedule ∷ Fsm ∷ Priority ∷ True ∷ False ∷ Not ∷ And ∷ Or ∷ Div ∷ Mod ∷ [])

abbrev pub long_ends : List (List ℕ × Lexeme)
long_ends =
    spelled (EndActor ∷ EndUnit ∷ EndAction ∷ EndInitialize ∷ EndFunction ∷ EndProcedure ∷ EndIf ∷
    EndWhile ∷ EndForeach ∷ EndBegin ∷ EndSchedule ∷ EndPriority ∷ [])

-- the reserved words
abbrev pub reserved : List ℕ → Option Lexeme
reserved text = first_of_both (find text words) (find text long_ends)

-- the most bytes that a name may have
abbrev pub max_name : ℕ
max_name = 255

-- a letter or `_` followed by letters, digits and `_`, and no reserved word
unfoldable pub is_name : List ℕ → Bool
is_name text =
    begins_name (slice_index text 0) && list_all goes_on_name text && not (is_some (reserved text))

abbrev pub symbols_of_three : List (List ℕ × Lexeme)
symbols_of_three =
    spelled (LongDoubleArrow ∷ LongArrow ∷ [])

abbrev pub symbols_of_two : List (List ℕ × Lexeme)
symbols_of_two =
    spelled (Assign ∷ DotDot ∷ LessEqual ∷ GreaterEqual ∷ NotEqual ∷ ShiftLeft ∷ ShiftRight ∷
    AndAnd ∷ OrOr ∷ [])

abbrev pub symbols_of_one : List (List ℕ × Lexeme)
symbols_of_one =
    spelled (LeftParen ∷ RightParen ∷ LeftBracket ∷ RightBracket ∷ Comma ∷ Semicolon ∷ Colon ∷ Dot ∷
    Plus ∷ Minus ∷ Star ∷ Slash ∷ Equal ∷ Less ∷ Greater ∷ Ampersand ∷ Bar ∷ Caret ∷ Tilde ∷ [])

abbrev pub symbol : List ℕ → Option Lexeme
symbol text = first_of_both (find text symbols_of_three)
    (first_of_both (find text symbols_of_two) (find text symbols_of_one))

-- the value of a digit in a base up to 16, in either case
abbrev pub digit_value : ℕ → ℕ
digit_value b = if is_ascii_digit b then b - 48 else (if nat_le 97 b then b - 87 else b - 55)

-- the number that digits stand for in a base
abbrev pub value_of : ℕ → List ℕ → ℕ
value_of base digits = fold (λ value b. value * base + digit_value b) 0 digits

-- a word is a name unless it is reserved
abbrev pub word : List ℕ → Option Lexeme
word text = if list_all goes_on_name text then first_of_both (reserved text) (Some (Name text))
    else None

-- `0x` and hexadecimal digits
abbrev pub hexadecimal : List ℕ → Option Lexeme
hexadecimal text =
    if (slice_index text 0 == 48) &&
    (nat_lt 2 (length text) && list_all is_ascii_hexdigit (drop 2 text))
    then Some (Number (value_of 16 (drop 2 text))) else None

-- digits
abbrev pub decimal_number : List ℕ → Option Lexeme
decimal_number text = if list_all is_ascii_digit text then Some (Number (value_of 10 text))
    else None

abbrev pub number : List ℕ → Option Lexeme
number text = if slice_index text 1 == 120 then hexadecimal text else decimal_number text

-- the token that a text is, if it is one
abbrev pub token_of : List ℕ → Option Lexeme
token_of text =
    if begins_name (slice_index text 0) then word text
    else (if is_ascii_digit (slice_index text 0) then number text
    else symbol text)

-- What stands at the front of a text.

-- the number of bytes before the first place where a test of what stands from there on holds, or of all bytes
abbrev pub before : (List ℕ → Bool) → List ℕ → ℕ
before stops [] = 0
before stops (b ∷ rest) = if stops (b ∷ rest) then 0 else before stops rest + 1

abbrev pub at_line_end : List ℕ → Bool
at_line_end bytes = slice_index bytes 0 == 10

abbrev pub at_close : List ℕ → Bool
at_close bytes = (slice_index bytes 0 == 42) && (slice_index bytes 1 == 47)

-- the bytes that the lexis has outside comments
abbrev pub in_alphabet : ℕ → Bool
in_alphabet b =
    is_blank b || (goes_on_name b ||
    ((b == 34) || ((b == 33) || is_some (find (b ∷ []) symbols_of_one))))

-- nothing of the lexis begins so: the first byte is outside the alphabet, or a `!` without `=` at once after it
abbrev pub is_foreign : ℕ → ℕ → Bool
is_foreign first second = not (in_alphabet first) || ((first == 33) && not (second == 61))

-- nothing, a blank or a comment of so many bytes, a fault that no token has, or a token
pub data Front : Type 0 where
  Nothing : Front
  Gap : (size : ℕ) → Front
  Fault : (rule : Rule) → Front
  Token : Front

-- what a comment is that begins with `/*`, by the bytes behind these two
abbrev pub comment : List ℕ → Front
comment inside =
    if nat_lt (before at_close inside) (length inside) then Gap (before at_close inside + 4)
    else Fault open_comment

abbrev pub some_front : List ℕ → Front
some_front bytes =
    if is_blank (slice_index bytes 0) then Gap 1
    else (if (slice_index bytes 0 == 47) && (slice_index bytes 1 == 47)
    then Gap (before at_line_end bytes)
    else (if (slice_index bytes 0 == 47) && (slice_index bytes 1 == 42) then comment (drop 2 bytes)
    else (if slice_index bytes 0 == 34 then Fault string_literal
    else (if is_foreign (slice_index bytes 0) (slice_index bytes 1) then Fault foreign_byte
    else Token))))

abbrev pub front : List ℕ → Front
front [] = Nothing
front (b ∷ rest) = some_front (b ∷ rest)

-- the longest token that the bytes begin with
pub record IsNext (bytes : List ℕ) (size : ℕ) (kind : Lexeme) : Type 0 where
  pub begins : front bytes ≡ Token
  pub within : size ≤ length bytes
  pub is : token_of (take size bytes) ≡ Some kind
  pub longest : (more : ℕ) → size < more → more ≤ length bytes → token_of (take more bytes) ≡ None

-- a number that is followed at once by these bytes runs on
abbrev pub runs_on : List ℕ → Bool
runs_on rest = begins_name (slice_index rest 0) ||
    ((slice_index rest 0 == 46) && is_ascii_digit (slice_index rest 1))

-- several decimal digits of which the first is 0
abbrev pub has_leading_zero : List ℕ → Bool
has_leading_zero text =
    (slice_index text 0 == 48) && (nat_lt 1 (length text) && list_all is_ascii_digit text)

-- the first rule that a token breaks, by its text and the bytes behind it
abbrev pub flaw : Lexeme → List ℕ → List ℕ → Option Rule
flaw (Number value) text rest =
    if nat_le (2 ^ 128) value then Some number_too_big
    else (if runs_on rest then Some number_runs_on
    else (if has_leading_zero text then Some leading_zero
    else None))
flaw (Name name) text rest = if nat_lt max_name (length name) then Some name_too_long else None
flaw _ text rest = None
