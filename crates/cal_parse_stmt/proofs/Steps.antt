-- What the code does at one step of a program, and how the program goes on.
use Rattle.std.proofs.Common.{◌≡◌, ℕ, ◌-◌, ◌≤◌, true, false, List, ◌∷◌, nat_le, string_bytes, Err, refl, sym, ap, ◌∙◌, arith}
use Rattle.std.proofs.lemmas.Bool.{le-leb}
use Rattle.cal_grammar.specs.Program.{Outcome, Gave, Refused, ask, take, invoke, enter, exec, after}
use Rattle.cal_ast.specs.Tree.{Tree}
use Rattle.cal_ast.specs.declared.ident.Ident.{Ident}
use Rattle.cal_lexer.specs.Lexeme.{Lexeme, Placed, placed, plain_tokens}
use Rattle.cal_lexer.specs.declared.token.Token.{Token}
use Rattle.cal_parse_base.specs.Cursor.{Took, TookName, TookWord, TookEnd, Stays, stands}
use Rattle.cal_grammar.specs.Operators.{ends}
use Rattle.cal_grammar.specs.Token.{here, names, same_word}
use Rattle.cal_grammar.specs.Rules.{Rule, Step, read, on, expect, named, finish, first}
use Rattle.cal_parse_base.specs.Tells.{TellsFault}
use Rattle.cal_parse_base.specs.declared.fault.Fault.{Fault}
use Rattle.cal_parse_base.specs.declared.fault.Fault.TheVariants as faults

-- an outcome is another's
pub fault_on : (fault : Fault) (new : List Token) (o n : Outcome Placed Tree) → o ≡ n → TellsFault fault new n → TellsFault fault new o
fault_on faults.Refused new o n e h = e ∙ h
fault_on faults.TooHigh new o n e h = e ∙ h
fault_on faults.Memory new o n e h = tt

module _ (m : ℕ) where
  -- a word that may come
  pub on_yes : (w : Lexeme) (p other : Step) (old new : List Token) (q : ℕ) → stands (same_word w) old ≡ true → Took w q old new → exec read m (on w p other) (plain_tokens old) ≡ exec read m p (plain_tokens new)
  on_yes w p other old new q s e =
      let goes : exec read m (on w p other) (plain_tokens old) ≡ exec read m (take (λ t. p)) (plain_tokens old) = rw (s, exec) refl in
      goes ∙ ap (λ l. exec read m (take (λ t. p)) l) e

  pub on_no : (w : Lexeme) (p other : Step) (old : List Token) → stands (same_word w) old ≡ false → exec read m (on w p other) (plain_tokens old) ≡ exec read m other (plain_tokens old)
  on_no w p other old s = rw (s, exec) refl

  -- a word that must come
  pub expect_yes : (w : Lexeme) (p : Step) (old new : List Token) (q : ℕ) → same_word w w ≡ true → Took w q old new → exec read m (expect w p) (plain_tokens old) ≡ exec read m p (plain_tokens new)
  expect_yes w p old new q same e =
      let taken : exec read m (expect w p) (placed w q ∷ plain_tokens new) ≡ exec read m p (plain_tokens new) = rw (same, exec) refl in
      ap (λ l. exec read m (expect w p) l) e ∙ taken

  pub expect_no : (w : Lexeme) (p : Step) (old : List Token) → stands (same_word w) old ≡ false → exec read m (expect w p) (plain_tokens old) ≡ Refused (plain_tokens old)
  expect_no w p old s = rw (s, exec) refl

  pub expect_fails : (w : Lexeme) (p : Step) (old new : List Token) (fault : Fault) → TookWord w (Err fault) old new → TellsFault fault new (exec read m (expect w p) (plain_tokens old))
  expect_fails w p old new faults.Refused h = expect_no w p old h.0 ∙ ap (λ l. Refused (plain_tokens l)) (sym h.1)
  expect_fails w p old new faults.TooHigh h = absurd h
  expect_fails w p old new faults.Memory h = tt

  -- a name that must come
  pub named_yes : (next : Placed → Step) (i : Ident) (old new : List Token) → Took (Lexeme.Name (string_bytes i.text)) i.at old new → exec read m (named next) (plain_tokens old) ≡ exec read m (next (placed (Lexeme.Name (string_bytes i.text)) i.at)) (plain_tokens new)
  named_yes next i old new e = ap (λ l. exec read m (named next) l) e

  pub named_fails : (next : Placed → Step) (old new : List Token) (fault : Fault) → TookName (Err fault) old new → TellsFault fault new (exec read m (named next) (plain_tokens old))
  named_fails next old new faults.Refused h =
      let none : stands names old ≡ false = h.0 in
      let stops : exec read m (named next) (plain_tokens old) ≡ Refused (plain_tokens old) = rw (none, exec) refl in
      stops ∙ ap (λ l. Refused (plain_tokens l)) (sym h.1)
  named_fails next old new faults.TooHigh h = absurd h
  named_fails next old new faults.Memory h = tt

  -- an end that must come
  end_taken : (v k : Lexeme) (q : ℕ) (p : Step) (l : List Placed) → ends v k ≡ true → exec read m (finish v p) (placed k q ∷ l) ≡ exec read m p l
  end_taken v k q p l is = rw (is, exec) refl

  pub finish_yes : (v : Lexeme) (p : Step) (old new : List Token) → TookEnd v old new → exec read m (finish v p) (plain_tokens old) ≡ exec read m p (plain_tokens new)
  finish_yes v p old new h = ap (λ l. exec read m (finish v p) l) h.took ∙ end_taken v h.kind h.at p (plain_tokens new) h.is_end

  pub finish_no : (v : Lexeme) (p : Step) (old new : List Token) → Stays (ends v) old new → exec read m (finish v p) (plain_tokens old) ≡ Refused (plain_tokens new)
  finish_no v p old new h =
      let none : stands (ends v) old ≡ false = h.0 in
      let stops : exec read m (finish v p) (plain_tokens old) ≡ Refused (plain_tokens old) = rw (none, exec) refl in
      stops ∙ ap (λ l. Refused (plain_tokens l)) (sym h.1)

  -- a part
  pub invoke_yes : (r : Rule) (next : Tree → Step) (x : Tree) (old new : List Token) → read m r (plain_tokens old) ≡ Gave x (plain_tokens new) → exec read m (invoke r next) (plain_tokens old) ≡ exec read m (next x) (plain_tokens new)
  invoke_yes r next x old new e = ap (λ o. after o (λ y left. exec read m (next y) left)) e

  pub invoke_fails : (r : Rule) (next : Tree → Step) (old new : List Token) (fault : Fault) → TellsFault fault new (read m r (plain_tokens old)) → TellsFault fault new (exec read m (invoke r next) (plain_tokens old))
  invoke_fails r next old new faults.Refused e = ap (λ o. after o (λ y left. exec read m (next y) left)) e
  invoke_fails r next old new faults.TooHigh e = ap (λ o. after o (λ y left. exec read m (next y) left)) e
  invoke_fails r next old new faults.Memory e = tt

  -- a part inside
  pub enter_yes : (r : Rule) (next : Tree → Step) (x : Tree) (old new : List Token) → read (m - 1) r (plain_tokens old) ≡ Gave x (plain_tokens new) → exec read m (enter r next) (plain_tokens old) ≡ exec read m (next x) (plain_tokens new)
  enter_yes r next x old new e = ap (λ o. after o (λ y left. exec read m (next y) left)) e

  pub enter_fails : (r : Rule) (next : Tree → Step) (old new : List Token) (fault : Fault) → TellsFault fault new (read (m - 1) r (plain_tokens old)) → TellsFault fault new (exec read m (enter r next) (plain_tokens old))
  enter_fails r next old new faults.Refused e = ap (λ o. after o (λ y left. exec read m (next y) left)) e
  enter_fails r next old new faults.TooHigh e = ap (λ o. after o (λ y left. exec read m (next y) left)) e
  enter_fails r next old new faults.Memory e = tt

  -- another part if none of this end comes
  pub end_yes : (v : Lexeme) (p other : Step) (old new : List Token) → TookEnd v old new → exec read m (ask (here (ends v)) (take (λ t. p)) other) (plain_tokens old) ≡ exec read m p (plain_tokens new)
  end_yes v p other old new h =
      let is : ends v h.kind ≡ true = h.is_end in
      let taken : exec read m (ask (here (ends v)) (take (λ t. p)) other) (placed h.kind h.at ∷ plain_tokens new) ≡ exec read m p (plain_tokens new) = rw (is, exec) refl in
      ap (λ l. exec read m (ask (here (ends v)) (take (λ t. p)) other) l) h.took ∙ taken

  pub end_no : (v : Lexeme) (p other : Step) (old new : List Token) → Stays (ends v) old new → exec read m (ask (here (ends v)) p other) (plain_tokens old) ≡ exec read m other (plain_tokens new)
  end_no v p other old new h =
      let none : stands (ends v) old ≡ false = h.0 in
      let goes : exec read m (ask (here (ends v)) p other) (plain_tokens old) ≡ exec read m other (plain_tokens old) = rw (none, exec) refl in
      goes ∙ ap (λ l. exec read m other (plain_tokens l)) (sym h.1)

  -- a part of a height of at least 1
  pub first_no : (w : Lexeme) (next : Placed → Step) (other : Step) (old : List Token) → stands (same_word w) old ≡ false → exec read m (first w next other) (plain_tokens old) ≡ exec read m other (plain_tokens old)
  first_no w next other old none = rw (none, exec) refl

  pub first_yes : (w : Lexeme) (next : Placed → Step) (other : Step) (old new : List Token) (q : ℕ) → 1 ≤ m → stands (same_word w) old ≡ true → Took w q old new → exec read m (first w next other) (plain_tokens old) ≡ exec read m (next (placed w q)) (plain_tokens new)
  first_yes w next other old new q low some e =
      let fits : nat_le 1 m ≡ true = le-leb 1 m (omega arith) in
      let goes : exec read m (first w next other) (plain_tokens old) ≡ exec read m (take next) (plain_tokens old) = rw (some, fits, exec) refl in
      goes ∙ ap (λ l. exec read m (take next) l) e
