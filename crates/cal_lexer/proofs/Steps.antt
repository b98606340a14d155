-- What was read so far, and what is left.
use Rattle.std.proofs.Common.{◌≡◌, ℕ, ◌+◌, ◌≤◌, List, [], ◌∷◌, ◌++◌, length, drop, sym, subst, append_assoc, append-nil, arith}
use Rattle.std.proofs.lemmas.List.{drop-drop, length-drop, drop_all}
use Rattle.rvc_base.specs.declared.refusal.Rule.{Rule}
use Rattle.cal_lexer.specs.Lexeme.{Lexeme, Placed, placed}
use Rattle.cal_lexer.specs.Lexes.{LexesFrom, ends, after_gap, after_token, FaultsFrom, behind_gap, behind_token}
use Rattle.cal_lexer.specs.Pieces.{IsGap, IsToken}

pub record SoFar (text : List ℕ) (done : List Placed) (at : ℕ) : Type 0 where
  pub within : at ≤ length text
  pub lists : (tokens : List Placed) → LexesFrom (drop at text) at tokens → LexesFrom text 0 (done ++ tokens)
  pub faulty : (rule : Rule) (place : ℕ) → FaultsFrom (drop at text) at rule place → FaultsFrom text 0 rule place

pub start : (text : List ℕ) → SoFar text [] 0
start text = record { within = omega arith; lists = λ tokens l. l; faulty = λ rule place f. f }

pub past_gap : (text : List ℕ) (done : List Placed) (at size : ℕ) → SoFar text done at → IsGap (drop at text) size → SoFar text done (at + size)
past_gap text done at size so gap =
    let small = gap.within in
    let near = so.within in
    record {
      within = omega (arith, length-drop at text);
      lists = λ tokens l. so.lists tokens (after_gap gap.is (subst (λ bytes. LexesFrom bytes (at + size) tokens) (sym (drop-drop size at text)) l));
      faulty = λ rule place f. so.faulty rule place (behind_gap gap.is (subst (λ bytes. FaultsFrom bytes (at + size) rule place) (sym (drop-drop size at text)) f));
    }

pub past_token : (text : List ℕ) (done : List Placed) (at size : ℕ) (kind : Lexeme) → SoFar text done at → IsToken (drop at text) size kind → SoFar text (done ++ placed kind at ∷ []) (at + size)
past_token text done at size kind so token =
    let small = token.next.within in
    let near = so.within in
    record {
      within = omega (arith, length-drop at text);
      lists = λ tokens l.
          subst (LexesFrom text 0) (sym (append_assoc done (placed kind at ∷ []) tokens))
          (so.lists (placed kind at ∷ tokens) (after_token token.next token.flawless (subst (λ bytes. LexesFrom bytes (at + size) tokens) (sym (drop-drop size at text)) l)));
      faulty = λ rule place f. so.faulty rule place (behind_token token.next token.flawless (subst (λ bytes. FaultsFrom bytes (at + size) rule place) (sym (drop-drop size at text)) f));
    }

pub finish : (text : List ℕ) (done : List Placed) (at : ℕ) → SoFar text done at → length text ≤ at → LexesFrom text 0 done
finish text done at so most =
    let none : drop at text ≡ [] = drop_all at text most in
    subst (LexesFrom text 0) (append-nil done) (so.lists [] (subst (λ bytes. LexesFrom bytes at []) (sym none) ends))
