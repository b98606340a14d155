-- Whatever is spelled is read: the claims.
use Rattle.std.proofs.Common.{◌≡◌, ℕ, suc, true, false, List, refl, ◌∙◌, arith}
use Rattle.cal_grammar.specs.Program.{Gave, ahead}
use Rattle.cal_ast.specs.Tree.{Tree}
use Rattle.cal_lexer.specs.Lexeme.{Lexeme, Placed}
use Rattle.cal_grammar.specs.Token.{here, same_word}
use Rattle.cal_grammar.specs.Spells.{Part, level, a_postfix, a_primary, a_labelled, a_member}
use Rattle.cal_grammar.specs.Rules
use Rattle.cal_grammar.specs.Rules.{Rule, part, chain, places, type_tail, var_tail, whole, Step, size, rule_rank, rank, starts, on, expect, named, finish, ident_of, part_body, body}
use Rattle.cal_grammar.specs.Program.{exec}
use Rattle.cal_grammar.specs.Rules.{read}
use Rattle.cal_grammar.proofs.Reading.{read_is}
use Rattle.cal_grammar.proofs.Follow
use Rattle.cal_grammar.proofs.Follow.{seen, may_follow, unseen, no_operator, lower_follows, no_bracket}

-- What is claimed of the reading of a part. A left side is claimed before the operators or indices that may come.
abbrev pub Reads : Part → ℕ → List Placed → List Placed → Tree → Type 0
Reads (level (suc n)) m a b x = may_follow (level n) (seen (ahead b)) ≡ true → read m (part (level (suc n))) a ≡ read m (chain n x) b
Reads a_postfix m a b x = may_follow a_primary (seen (ahead b)) ≡ true → read m (part a_postfix) a ≡ read m (places x) b
Reads a_labelled m a b x = read m (part a_member) a ≡ Gave x b
Reads p m a b x = may_follow p (seen (ahead b)) ≡ true → read m (part p) a ≡ Gave x b

pub record Claim (p : Part) (m : ℕ) (a b : List Placed) (x : Tree) : Type 0 where
  pub it : Reads p m a b x

chain_stops : (m n : ℕ) (x : Tree) (b : List Placed) → may_follow (level (suc n)) (seen (ahead b)) ≡ true → read m (chain n x) b ≡ Gave x b
chain_stops m n x b f =
    let none : here (Rules.at_level n) (ahead b) ≡ false = unseen (Rules.at_level n) (ahead b) (no_operator (seen (ahead b)) n f) in
    rw (read_is m (chain n x) b, none, exec) refl

places_stop : (m : ℕ) (x : Tree) (b : List Placed) → may_follow a_postfix (seen (ahead b)) ≡ true → read m (places x) b ≡ Gave x b
places_stop m x b f =
    let none : here (same_word Lexeme.LeftBracket) (ahead b) ≡ false = unseen (same_word Lexeme.LeftBracket) (ahead b) (no_bracket (seen (ahead b)) f) in
    rw (read_is m (places x) b, none, exec) refl

-- if nothing that belongs to it comes, the part is read
pub closes : {p : Part} {m : ℕ} {a b : List Placed} {x : Tree} → Claim p m a b x → may_follow p (seen (ahead b)) ≡ true → read m (part p) a ≡ Gave x b
closes {p = level (suc n)} {m = m} {a = a} {b = b} {x = x} c f = c.it (lower_follows (seen (ahead b)) n f) ∙ chain_stops m n x b f
closes {p = a_postfix} {m = m} {a = a} {b = b} {x = x} c f = c.it (Follow.looser_follows 0 1 (seen (ahead b)) (omega arith) f) ∙ places_stop m x b f
closes {p = a_labelled} {m = m} {a = a} {b = b} {x = x} c f = absurd cc
closes {p = _} {m = m} {a = a} {b = b} {x = x} c f = c.it f
