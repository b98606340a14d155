-- What braces are to the lexis: nothing of the language begins with one, and no token of it is one.
use Rattle.std.proofs.Common.{◌≡◌, ℕ, ◌<◌, ◌≤◌, length, Bool, true, false, List, [], ◌∷◌, take, drop, Option, Some, None, refl, sym, arith, eqb-true}
use Rattle.std.specs.Prelude.{◌==◌, not, slice_index, if◌then◌else◌}
use Rattle.std.specs.List.{list_all}
use Rattle.std.specs.Str.{bytes_eq}
use Rattle.std.specs.Char.{is_ascii_digit}
use Rattle.rvc_base.specs.Rules.{foreign_byte}
use Rattle.rvc_base.specs.declared.refusal.Rule.{Rule}
use Rattle.cal_lexer.specs.Lexeme.{Lexeme, Number, Name, Placed}
use Rattle.cal_lexer.specs.Lexis.{front, Fault, find, first_of_both, words, long_ends, reserved, symbols_of_one, symbols_of_two, symbols_of_three, symbol, word, number, hexadecimal, decimal_number, token_of, begins_name, goes_on_name, value_of}
use Rattle.cal_lexer.specs.Lexes.{LexesFrom, ends, after_gap, after_token, FaultsFrom, no_token, flawed, behind_gap, behind_token}
use Rattle.cal_lexer.specs.NetLexes.{is_brace, brace_of, HasNoBrace, NetLexesFrom, NetFaultsFrom}
use Rattle.cal_lexer.specs.NetLexes as net
use Rattle.cal_lexer.specs.NetPieces.{IsNetToken, plain_token, a_brace, IsNetPiece}
use Rattle.cal_lexer.specs.Pieces.{IsPiece}
use Rattle.cal_lexer.specs.declared.piece.Piece.{Piece}
use Rattle.cal_lexer.specs.declared.piece.Piece.TheVariants as pieces

-- the byte of a brace
brace_byte : (b : ℕ) (kind : Lexeme) (left right : Bool) → (b == 123) ≡ left → (b == 125) ≡ right → brace_of b ≡ Some kind → (bytes : List ℕ) → front (b ∷ bytes) ≡ Fault foreign_byte
brace_byte b kind true right e f is bytes = rw (eqb-true b 123 e) refl
brace_byte b kind false true e f is bytes = rw (eqb-true b 125 f) refl
brace_byte b kind false false e f is bytes = let none : brace_of b ≡ None = rw (e, f) refl in cc

-- where a brace stands the language has nothing
pub brace_is_foreign : (b : ℕ) (kind : Lexeme) (bytes : List ℕ) → brace_of b ≡ Some kind → front (b ∷ bytes) ≡ Fault foreign_byte
brace_is_foreign b kind bytes is = brace_byte b kind (b == 123) (b == 125) refl refl is bytes

-- a table without braces
abbrev none_is_brace : List (List ℕ × Lexeme) → Bool
none_is_brace table = list_all (λ e. not (is_brace e.1)) table

found_at : (e : List ℕ × Lexeme) (table : List (List ℕ × Lexeme)) (text : List ℕ) (kind : Lexeme) (same brace : Bool) → bytes_eq text e.0 ≡ same → is_brace e.1 ≡ brace → none_is_brace (e ∷ table) ≡ true → (none_is_brace table ≡ true → find text table ≡ Some kind → is_brace kind ≡ false) → find text (e ∷ table) ≡ Some kind → is_brace kind ≡ false
found_at e table text kind same true is brace all later found = let no_brace = rw brace at all in absurd cc
found_at e table text kind true false is brace all later found = let here : e.1 ≡ kind = (let g = rw is at found in cc) in rw (← here) brace
found_at e table text kind false false is brace all later found = later (rw brace at all) (rw is at found)

found : (table : List (List ℕ × Lexeme)) (text : List ℕ) (kind : Lexeme) → none_is_brace table ≡ true → find text table ≡ Some kind → is_brace kind ≡ false
found [] text kind all is = absurd cc
found (e ∷ table) text kind all is = found_at e table text kind (bytes_eq text e.0) (is_brace e.1) refl refl all (found table text kind) is

either : (o other : Option Lexeme) (kind : Lexeme) → (o ≡ Some kind → is_brace kind ≡ false) → (other ≡ Some kind → is_brace kind ≡ false) → first_of_both o other ≡ Some kind → is_brace kind ≡ false
either None other kind a b e = b e
either (Some k) other kind a b e = a e

no_name_is_brace : (text : List ℕ) (kind : Lexeme) → Some (Name text) ≡ Some kind → is_brace kind ≡ false
no_name_is_brace text kind e = let same : Name text ≡ kind = cc in rw (← same) refl

reserved_braceless : (text : List ℕ) (kind : Lexeme) → reserved text ≡ Some kind → is_brace kind ≡ false
reserved_braceless text kind e = either (find text words) (find text long_ends) kind (found words text kind refl) (found long_ends text kind refl) e

chosen : (b : Bool) (o : Option Lexeme) (kind : Lexeme) → (o ≡ Some kind → is_brace kind ≡ false) → (if b then o else None) ≡ Some kind → is_brace kind ≡ false
chosen true o kind h e = h e
chosen false o kind h e = absurd cc

one_of : (b : Bool) (o other : Option Lexeme) (kind : Lexeme) → (o ≡ Some kind → is_brace kind ≡ false) → (other ≡ Some kind → is_brace kind ≡ false) → (if b then o else other) ≡ Some kind → is_brace kind ≡ false
one_of true o other kind g h e = g e
one_of false o other kind g h e = h e

no_number_is_brace : (value : ℕ) (kind : Lexeme) → Some (Number value) ≡ Some kind → is_brace kind ≡ false
no_number_is_brace value kind e = let same : Number value ≡ kind = cc in rw (← same) refl

word_braceless : (text : List ℕ) (kind : Lexeme) → word text ≡ Some kind → is_brace kind ≡ false
word_braceless text kind e = chosen (list_all goes_on_name text) (first_of_both (reserved text) (Some (Name text))) kind (either (reserved text) (Some (Name text)) kind (reserved_braceless text kind) (no_name_is_brace text kind)) e

number_braceless : (text : List ℕ) (kind : Lexeme) → number text ≡ Some kind → is_brace kind ≡ false
number_braceless text kind e = one_of (slice_index text 1 == 120) (hexadecimal text) (decimal_number text) kind (λ h. chosen _ (Some (Number (value_of 16 (drop 2 text)))) kind (no_number_is_brace (value_of 16 (drop 2 text)) kind) h) (λ h. chosen _ (Some (Number (value_of 10 text))) kind (no_number_is_brace (value_of 10 text) kind) h) e

symbol_braceless : (text : List ℕ) (kind : Lexeme) → symbol text ≡ Some kind → is_brace kind ≡ false
symbol_braceless text kind e = either (find text symbols_of_three) (first_of_both (find text symbols_of_two) (find text symbols_of_one)) kind (found symbols_of_three text kind refl) (either (find text symbols_of_two) (find text symbols_of_one) kind (found symbols_of_two text kind refl) (found symbols_of_one text kind refl)) e

-- no token of the language is a brace
pub token_braceless : (text : List ℕ) (kind : Lexeme) → token_of text ≡ Some kind → is_brace kind ≡ false
token_braceless text kind e =
    one_of (begins_name (slice_index text 0)) (word text) (if is_ascii_digit (slice_index text 0) then number text else symbol text) kind (word_braceless text kind)
    (one_of (is_ascii_digit (slice_index text 0)) (number text) (symbol text) kind (number_braceless text kind) (symbol_braceless text kind)) e

pub list_braceless : {bytes : List ℕ} {at : ℕ} {tokens : List Placed} → LexesFrom bytes at tokens → HasNoBrace tokens
list_braceless ends = tt
list_braceless (after_gap g r) = list_braceless r
list_braceless {bytes} (after_token {size = n} {kind = k} next f r) = (token_braceless (take n bytes) k next.is, list_braceless r)

-- what is a list of tokens in the language is one in networks
pub same_list : {bytes : List ℕ} {at : ℕ} {tokens : List Placed} → LexesFrom bytes at tokens → NetLexesFrom bytes at tokens
same_list ends = net.ends
same_list (after_gap g r) = net.after_gap g (same_list r)
same_list (after_token next f r) = net.after_token next f (same_list r)

-- a fault stands where it is looked for, or behind
not_before : {bytes : List ℕ} {at place : ℕ} {rule : Rule} → FaultsFrom bytes at rule place → at ≤ place
not_before (no_token e) = omega arith
not_before (flawed n f) = omega arith
not_before (behind_gap e r) = let later = not_before r in omega arith
not_before (behind_token n f r) = let later = not_before r in omega arith

-- a fault at the front of a text that begins with no brace is one in networks
pub same_fault : {bytes : List ℕ} {at place : ℕ} {rule : Rule} → FaultsFrom bytes at rule place → place ≡ at → brace_of (slice_index bytes 0) ≡ None → NetFaultsFrom bytes at rule place
same_fault (no_token e) here none = net.no_token none e
same_fault (flawed n f) here none = net.flawed n f
same_fault {bytes} {at} (behind_gap {size = n} e r) here none =
    let later = not_before r in
    let nothing : n ≡ 0 = omega arith in
    net.behind_gap e (same_fault r (omega arith) (rw nothing none))
same_fault {bytes} {at} (behind_token {size = n} next f r) here none =
    let later = not_before r in
    let nothing : n ≡ 0 = omega arith in
    net.behind_token next f (same_fault r (omega arith) (rw nothing none))

pub brace_token : (text : List ℕ) (b : ℕ) (kind : Lexeme) → 0 < length text → b ≡ slice_index text 0 → Some kind ≡ brace_of b → IsNetToken text 1 kind
brace_token [] b kind some same is = absurd (omega arith)
brace_token (first ∷ text) b kind some same is = a_brace (rw (← same) (sym is))

pub net_piece : (text : List ℕ) (b : ℕ) (piece : Piece) → b ≡ slice_index text 0 → None ≡ brace_of b → IsPiece text piece → IsNetPiece text piece
net_piece text b (pieces.Gap size) same none h = h
net_piece text b (pieces.Token kind size) same none h = plain_token h
net_piece text b (pieces.Fault rule) same none h = λ at. same_fault (h at) refl (rw (← same) (sym none))
