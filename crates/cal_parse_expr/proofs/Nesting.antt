-- Pairs of parentheses round an operand: what stands inside is read first, and each pair is closed behind it.
use Rattle.std.proofs.Common.{◌≡◌, ℕ, List, [], ◌∷◌, ◌++◌, refl, ap, ◌∙◌}
use Rattle.cal_grammar.specs.Program.{Outcome, after}
use Rattle.cal_ast.specs.Tree.{Tree}
use Rattle.cal_lexer.specs.Lexeme.{Lexeme, Placed, placed}
use Rattle.cal_lexer.specs.declared.token.Token.{Token}
use Rattle.cal_grammar.specs.Spells.{a_postfix, a_primary, an_expr, level}
use Rattle.cal_grammar.specs.Rules.{part, places, read}
use Rattle.cal_parse_base.specs.Leading.{opened}
use Rattle.cal_parse_expr.specs.Steps.{climbs, closing_step, does}
use Rattle.cal_parse_base.specs.Tells.{TellsFault}
use Rattle.cal_parse_base.specs.declared.fault.Fault.{Fault}
use Rattle.cal_grammar.proofs.Reading.{read_is}
use Rattle.cal_parse_expr.proofs.Climbing.{Next, after_after, fault_after, level_climbs}

-- the end of a pair, behind the expression inside
abbrev pub closes : ℕ → ℕ → Next
closes m q y ts = after (does m (closing_step q y) ts) (λ z left. read m (places z) left)

-- what stands behind the operand inside a pair, up to the indexes behind the pair
abbrev pub leaves : ℕ → ℕ → Next
leaves m q x ts = after (climbs m 0 10 x ts) (closes m q)

-- pairs that begin here round what is read, the first one outside
abbrev pub nests : ℕ → List ℕ → Outcome Placed Tree → Outcome Placed Tree
nests m [] o = o
nests m (q ∷ qs) o = after (nests m qs o) (leaves m q)

primary_is : (m q : ℕ) (ts : List Placed) → read m (part a_primary) (placed Lexeme.LeftParen q ∷ ts) ≡ after (read m (part an_expr) ts) (λ y left. does m (closing_step q y) left)
primary_is m q ts = read_is m (part a_primary) (placed Lexeme.LeftParen q ∷ ts)

operand_is : (m q : ℕ) (ts : List Placed) → read m (part (level 0)) (placed Lexeme.LeftParen q ∷ ts) ≡ read m (part a_postfix) (placed Lexeme.LeftParen q ∷ ts)
operand_is m q ts = read_is m (part (level 0)) (placed Lexeme.LeftParen q ∷ ts)

pub postfix_is : (m : ℕ) (ts : List Placed) → read m (part a_postfix) ts ≡ after (read m (part a_primary) ts) (λ z left. read m (places z) left)
postfix_is m ts = read_is m (part a_postfix) ts

pair_is : (m q : ℕ) (ts : List Placed) → read m (part (level 0)) (placed Lexeme.LeftParen q ∷ ts) ≡ after (read m (part (level 0)) ts) (leaves m q)
pair_is m q ts =
    let o : Outcome Placed Tree = read m (part (level 0)) ts in
    let f : Next = λ x left. climbs m 0 10 x left in
    let g : Next = λ y left. does m (closing_step q y) left in
    let h : Next = λ z left. read m (places z) left in
    operand_is m q ts
    ∙ postfix_is m (placed Lexeme.LeftParen q ∷ ts)
    ∙ ap (λ v. after v h) (primary_is m q ts)
    ∙ after_after (read m (part an_expr) ts) g h
    ∙ ap (λ v. after v (closes m q)) (level_climbs m 10 ts)
    ∙ after_after o f (closes m q)

pub opened_is : (m : ℕ) (qs : List ℕ) (ts : List Placed) → read m (part (level 0)) (opened qs ts) ≡ nests m qs (read m (part (level 0)) ts)
opened_is m [] ts = refl
opened_is m (q ∷ qs) ts = pair_is m q (opened qs ts) ∙ ap (λ o. after o (leaves m q)) (opened_is m qs ts)

pub nests_last : (m : ℕ) (qs : List ℕ) (q : ℕ) (o : Outcome Placed Tree) → nests m (qs ++ q ∷ []) o ≡ nests m qs (after o (leaves m q))
nests_last m [] q o = refl
nests_last m (p ∷ qs) q o = ap (λ v. after v (leaves m p)) (nests_last m qs q o)

pub fault_nests : (m : ℕ) (qs : List ℕ) (fault : Fault) (new : List Token) (o : Outcome Placed Tree) → TellsFault fault new o → TellsFault fault new (nests m qs o)
fault_nests m [] fault new o h = h
fault_nests m (q ∷ qs) fault new o h = fault_after fault new (nests m qs o) (leaves m q) (fault_nests m qs fault new o h)
