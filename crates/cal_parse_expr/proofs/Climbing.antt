-- The levels above an operand: each level's operations stand behind those of the tighter ones.
use Rattle.std.proofs.Common.{◌≡◌, ℕ, zero, suc, ◌+◌, List, refl, sym, ap, ◌∙◌, arith}
use Rattle.cal_grammar.specs.Program.{Outcome, Gave, Refused, TooHigh, Spent, after}
use Rattle.cal_ast.specs.Tree.{Tree}
use Rattle.cal_lexer.specs.Lexeme.{Placed}
use Rattle.cal_lexer.specs.declared.token.Token.{Token}
use Rattle.cal_grammar.specs.Spells.{level}
use Rattle.cal_grammar.specs.Rules.{part, chain, read}
use Rattle.cal_parse_expr.specs.Steps.{climbs}
use Rattle.cal_parse_base.specs.Tells.{TellsFault}
use Rattle.cal_parse_base.specs.declared.fault.Fault.{Fault}
use Rattle.cal_parse_base.specs.declared.fault.Fault.TheVariants as faults
use Rattle.cal_grammar.proofs.Reading.{read_is}

abbrev pub Next : Type 0
Next = Tree → List Placed → Outcome Placed Tree

pub after_same : (o : Outcome Placed Tree) (f g : Next) → ((x : Tree) (l : List Placed) → f x l ≡ g x l) → after o f ≡ after o g
after_same (Gave x l) f g e = e x l
after_same (Refused l) f g e = refl
after_same (TooHigh l) f g e = refl
after_same Spent f g e = refl

pub after_after : (o : Outcome Placed Tree) (f g : Next) → after (after o f) g ≡ after o (λ x l. after (f x l) g)
after_after (Gave x l) f g = refl
after_after (Refused l) f g = refl
after_after (TooHigh l) f g = refl
after_after Spent f g = refl

pub after_gave : (o : Outcome Placed Tree) → after o (λ x l. Gave x l) ≡ o
after_gave (Gave x l) = refl
after_gave (Refused l) = refl
after_gave (TooHigh l) = refl
after_gave Spent = refl

-- why a part isn't read is why what goes on behind it isn't read
pub fault_after : (fault : Fault) (new : List Token) (o : Outcome Placed Tree) (f : Next) → TellsFault fault new o → TellsFault fault new (after o f)
fault_after faults.Refused new o f e = ap (λ v. after v f) e
fault_after faults.TooHigh new o f e = ap (λ v. after v f) e
fault_after faults.Memory new o f e = tt

pub fault_same : (fault : Fault) (new : List Token) (o o' : Outcome Placed Tree) → o ≡ o' → TellsFault fault new o' → TellsFault fault new o
fault_same faults.Refused new o o' e h = e ∙ h
fault_same faults.TooHigh new o o' e h = e ∙ h
fault_same faults.Memory new o o' e h = tt

pub climbs_none : (m n : ℕ) (x : Tree) (ts : List Placed) → climbs m n 0 x ts ≡ Gave x ts
unfolding climbs
climbs_none m n x ts = refl

pub climbs_more : (m n k : ℕ) (x : Tree) (ts : List Placed) → climbs m n (suc k) x ts ≡ after (read m (chain n x) ts) (λ y left. climbs m (suc n) k y left)
unfolding climbs
climbs_more m n k x ts = refl

climbs_last : (m n k j : ℕ) (x : Tree) (ts : List Placed) → j ≡ n + k → climbs m n (suc k) x ts ≡ after (climbs m n k x ts) (λ y left. read m (chain j y) left)
climbs_last m n zero j x ts e =
    let same : j ≡ n = omega arith in
    climbs_more m n 0 x ts
    ∙ after_same (read m (chain n x) ts) (λ y left. climbs m (suc n) 0 y left) (λ y left. Gave y left) (λ y left. climbs_none m (suc n) y left)
    ∙ after_gave (read m (chain n x) ts)
    ∙ ap (λ i. read m (chain i x) ts) (sym same)
    ∙ ap (λ o. after o (λ y left. read m (chain j y) left)) (sym (climbs_none m n x ts))
climbs_last m n (suc k) j x ts e =
    let f : Next = λ y left. climbs m (suc n) k y left in
    let g : Next = λ y left. read m (chain j y) left in
    climbs_more m n (suc k) x ts
    ∙ after_same (read m (chain n x) ts) (λ y left. climbs m (suc n) (suc k) y left) (λ y left. after (f y left) g) (λ y left. climbs_last m (suc n) k j y left (omega arith))
    ∙ sym (after_after (read m (chain n x) ts) f g)
    ∙ ap (λ o. after o g) (sym (climbs_more m n k x ts))

-- a level is an operand and what stands behind it
pub level_climbs : (m k : ℕ) (ts : List Placed) → read m (part (level k)) ts ≡ after (read m (part (level 0)) ts) (λ x left. climbs m 0 k x left)
level_climbs m zero ts =
    sym (after_gave (read m (part (level 0)) ts)) ∙ after_same (read m (part (level 0)) ts) (λ x left. Gave x left) (λ x left. climbs m 0 0 x left) (λ x left. sym (climbs_none m 0 x left))
level_climbs m (suc k) ts =
    let o : Outcome Placed Tree = read m (part (level 0)) ts in
    let f : Next = λ x left. climbs m 0 k x left in
    let g : Next = λ y left. read m (chain k y) left in
    let opens : read m (part (level (suc k))) ts ≡ after (read m (part (level k)) ts) g = read_is m (part (level (suc k))) ts in
    opens
    ∙ ap (λ v. after v g) (level_climbs m k ts)
    ∙ after_after o f g
    ∙ after_same o (λ x left. after (f x left) g) (λ x left. climbs m 0 (suc k) x left) (λ x left. sym (climbs_last m 0 k k x left (omega arith)))
