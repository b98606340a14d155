-- What was read so far of the text of a network, and what is left.
use Rattle.std.proofs.Common.{◌≡◌, ℕ, ◌+◌, ◌<◌, ◌≤◌, List, [], ◌∷◌, ◌++◌, length, drop, sym, subst, append_assoc, append-nil, arith}
use Rattle.std.proofs.lemmas.List.{drop-drop, length-drop, drop_all}
use Rattle.rvc_base.specs.declared.refusal.Rule.{Rule}
use Rattle.cal_lexer.specs.Lexeme.{Lexeme, Placed, placed}
use Rattle.cal_lexer.specs.NetLexes.{NetLexesFrom, ends, after_gap, after_token, after_brace, NetFaultsFrom, behind_gap, behind_token, behind_brace}
use Rattle.cal_lexer.specs.Pieces.{IsGap}
use Rattle.cal_lexer.specs.NetPieces.{IsNetToken, plain_token, a_brace}

pub record NetSoFar (text : List ℕ) (done : List Placed) (at : ℕ) : Type 0 where
  pub within : at ≤ length text
  pub lists : (tokens : List Placed) → NetLexesFrom (drop at text) at tokens → NetLexesFrom text 0 (done ++ tokens)
  pub faulty : (rule : Rule) (place : ℕ) → NetFaultsFrom (drop at text) at rule place → NetFaultsFrom text 0 rule place

pub start : (text : List ℕ) → NetSoFar text [] 0
start text = record { within = omega arith; lists = λ tokens l. l; faulty = λ rule place f. f }

pub past_gap : (text : List ℕ) (done : List Placed) (at size : ℕ) → NetSoFar text done at → IsGap (drop at text) size → NetSoFar text done (at + size)
past_gap text done at size so gap =
    let small = gap.within in
    let near = so.within in
    record {
      within = omega (arith, length-drop at text);
      lists = λ tokens l. so.lists tokens (after_gap gap.is (subst (λ bytes. NetLexesFrom bytes (at + size) tokens) (sym (drop-drop size at text)) l));
      faulty = λ rule place f. so.faulty rule place (behind_gap gap.is (subst (λ bytes. NetFaultsFrom bytes (at + size) rule place) (sym (drop-drop size at text)) f));
    }

-- what a token at the front adds
record Adds (bytes : List ℕ) (size : ℕ) (kind : Lexeme) : Type 0 where
  within : size ≤ length bytes
  lists : (at : ℕ) (tokens : List Placed) → NetLexesFrom (drop size bytes) (at + size) tokens → NetLexesFrom bytes at (placed kind at ∷ tokens)
  faulty : (at : ℕ) (rule : Rule) (place : ℕ) → NetFaultsFrom (drop size bytes) (at + size) rule place → NetFaultsFrom bytes at rule place

adds : {bytes : List ℕ} {size : ℕ} {kind : Lexeme} → IsNetToken bytes size kind → Adds bytes size kind
adds (plain_token token) = record {
  within = token.next.within;
  lists = λ at tokens l. after_token token.next token.flawless l;
  faulty = λ at rule place f. behind_token token.next token.flawless f;
}
adds (a_brace e) = record { within = omega arith; lists = λ at tokens l. after_brace e l; faulty = λ at rule place f. behind_brace e f }

-- a token isn't empty
pub some_bytes : {bytes : List ℕ} {size : ℕ} {kind : Lexeme} → IsNetToken bytes size kind → 0 < size
some_bytes (plain_token token) = token.positive
some_bytes (a_brace e) = omega arith

pub past_token : (text : List ℕ) (done : List Placed) (at size : ℕ) (kind : Lexeme) → NetSoFar text done at → IsNetToken (drop at text) size kind → NetSoFar text (done ++ placed kind at ∷ []) (at + size)
past_token text done at size kind so token =
    let more = adds token in
    let small = more.within in
    let near = so.within in
    record {
      within = omega (arith, length-drop at text);
      lists = λ tokens l.
          subst (NetLexesFrom text 0) (sym (append_assoc done (placed kind at ∷ []) tokens))
          (so.lists (placed kind at ∷ tokens) (more.lists at tokens (subst (λ bytes. NetLexesFrom bytes (at + size) tokens) (sym (drop-drop size at text)) l)));
      faulty = λ rule place f. so.faulty rule place (more.faulty at rule place (subst (λ bytes. NetFaultsFrom bytes (at + size) rule place) (sym (drop-drop size at text)) f));
    }

pub finish : (text : List ℕ) (done : List Placed) (at : ℕ) → NetSoFar text done at → length text ≤ at → NetLexesFrom text 0 done
finish text done at so most =
    let none : drop at text ≡ [] = drop_all at text most in
    subst (NetLexesFrom text 0) (append-nil done) (so.lists [] (subst (λ bytes. NetLexesFrom bytes at []) (sym none) ends))
