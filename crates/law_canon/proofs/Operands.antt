-- Expressions: if their words spell them, they do as operands too, in a pair of parentheses if one is wanted.
use Rattle.std.proofs.Common.{◌≡◌, ℕ, zero, suc, ◌+◌, ◌-◌, ◌≤◌, Bool, true, false, List, [], ◌∷◌, ◌++◌, if◌then◌else◌, nat_eq, refl, sym, ap, ◌∙◌, subst, arith}
use Rattle.std.proofs.lemmas.Bool.{eqb-true}
use Rattle.cal_ast.specs.Tree.{Tree, absent, paren, if_expr, index, prefix, binary}
use Rattle.cal_ast.specs.Apart.{unplaced}
use Rattle.cal_ast.specs.declared.expr.PrefixOp.{PrefixOp}
use Rattle.cal_ast.specs.declared.expr.PrefixOp.TheVariants as prefixes
use Rattle.cal_ast.specs.declared.expr.BinOp.{BinOp}
use Rattle.cal_ast.specs.declared.expr.BinOp.TheVariants as binaries
use Rattle.cal_lexer.specs.Lexeme.{Lexeme, Placed}
use Rattle.cal_grammar.specs.Operators.{group, level_of, loosest, binary_of, is_prefix, prefix_of}
use Rattle.cal_grammar.specs.Spells.{Part, Spells, level, a_postfix, a_primary, an_expr, the_tighter, the_postfix, the_primary, the_pair}
use Rattle.law_canon.specs.Printable.{IsPrintable}
use Rattle.cal_print.specs.Tokens.{words, is_loose, paired, word_of_prefix, word_of_binary}
use Rattle.law_canon.proofs.Phrases.{Respells, IsBack, back, done, word, part, Reads, at_end, a_word, a_part, respells}
use Rattle.law_canon.proofs.RespelledExpressions.{back_prefix, back_binary, back_if, back_index}
use Rattle.law_canon.proofs.Said.{said}

-- one part for another, and the same words written otherwise

pub passes : {p r : Part} {ws : List Lexeme} {y : Tree} → ((a b : List Placed) (x : Tree) → Spells p a b x → Spells r a b x) → Respells p ws y → Respells r ws y
passes go h = record { gives = λ a b t. let s = h.gives a b t in back (go a b s.tree s.spelled) s.same; printable = h.printable }

pub as_said : {p : Part} {ws vs : List Lexeme} {y : Tree} → ws ≡ vs → Respells p ws y → Respells p vs y
as_said {p = p} {y = y} e h = subst (λ us. Respells p us y) e h

-- levels

raise : (k n m : ℕ) {a b : List Placed} {x : Tree} → n + k ≡ m → Spells (level n) a b x → Spells (level m) a b x
raise zero n m {a = a} {b = b} {x = x} e h = let same : n ≡ m = omega (arith, e) in subst (λ i. Spells (level i) a b x) same h
raise (suc k) n m e h = raise k (suc n) m (omega (arith, e)) (the_tighter h)

postfix_at : (m : ℕ) {a b : List Placed} {x : Tree} → Spells a_postfix a b x → Spells (level m) a b x
postfix_at m h = raise m 0 m (omega arith) (the_postfix h)

-- the words spell an expression, and an operand once it is put in parentheses if it is an operation or an `if`
pub record IsOperand (x : Tree) : Type 0 where
  pub whole : Respells an_expr (words x) (unplaced x)
  pub operand : Respells a_postfix (paired (is_loose x) (words x)) (unplaced x)

-- what `unplaced` and `group` do to looseness

loose-unplaced : (x : Tree) → is_loose (unplaced x) ≡ is_loose x
loose-unplaced absent = refl
loose-unplaced _ = refl

unplaced-group : (q : ℕ) (x : Tree) → is_loose x ≡ true → unplaced (group q x) ≡ unplaced x
unplaced-group q (if_expr test first other at) e = refl
unplaced-group q (prefix op operand at) e = refl
unplaced-group q (binary op left right at) e = refl
unplaced-group q _ e = absurd cc

unplaced-paren : (q : ℕ) (x : Tree) → is_loose x ≡ false → unplaced (group q x) ≡ paren (unplaced x) 0
unplaced-paren q (if_expr test first other at) e = absurd cc
unplaced-paren q (prefix op operand at) e = absurd cc
unplaced-paren q (binary op left right at) e = absurd cc
unplaced-paren q _ e = refl

-- a tree that is another one, ignoring offsets, is as loose
as_loose : (x y : Tree) → unplaced x ≡ unplaced y → is_loose x ≡ is_loose y
as_loose x y e = sym (loose-unplaced x) ∙ ap is_loose e ∙ loose-unplaced y

-- a pair of parentheses that is dropped, and one that stays

loose_pair : (y : Tree) (ws : List Lexeme) → is_loose y ≡ true → Respells an_expr ws (unplaced y) → Respells a_primary (Lexeme.LeftParen ∷ ws ++ (Lexeme.RightParen ∷ [])) (unplaced y)
loose_pair y ws loose h = respells (tt, (h, (tt, tt))) go
  where
    go : (a b : List Placed) → Reads (word Lexeme.LeftParen (part an_expr ws (unplaced y) (word Lexeme.RightParen done))) a b → IsBack a_primary a b (unplaced y)
    go _ _ (a_word {q = q} (a_part {x = x} s e (a_word at_end))) = back (the_pair s) (unplaced-group q x (as_loose x y e ∙ loose) ∙ e)

tight_pair : (y : Tree) (ws : List Lexeme) → is_loose y ≡ false → Respells an_expr ws (unplaced y) → Respells a_primary (Lexeme.LeftParen ∷ ws ++ (Lexeme.RightParen ∷ [])) (paren (unplaced y) 0)
tight_pair y ws tight h = respells (tt, (h, (tt, tt))) go
  where
    go : (a b : List Placed) → Reads (word Lexeme.LeftParen (part an_expr ws (unplaced y) (word Lexeme.RightParen done))) a b → IsBack a_primary a b (paren (unplaced y) 0)
    go _ _ (a_word {q = q} (a_part {x = x} s e (a_word at_end))) = back (the_pair s) (unplaced-paren q x (as_loose x y e ∙ tight) ∙ ap (λ z. paren z 0) e)

as_postfix : {ws : List Lexeme} {y : Tree} → Respells a_primary ws y → Respells a_postfix ws y
as_postfix h = passes (λ a b x s. the_primary s) h

as_expr : {ws : List Lexeme} {y : Tree} → Respells a_postfix ws y → Respells an_expr ws y
as_expr h = passes (λ a b x s. postfix_at loosest s) h

at_level : (m : ℕ) {ws : List Lexeme} {y : Tree} → Respells a_postfix ws y → Respells (level m) ws y
at_level m h = passes (λ a b x s. postfix_at m s) h

-- an operand from its words alone

loose_operand : (x : Tree) → is_loose x ≡ true → Respells an_expr (words x) (unplaced x) → IsOperand x
loose_operand x loose h = record {
  whole = h;
  operand = as_said (ap (λ c. paired c (words x)) (sym loose)) (as_postfix (loose_pair x (words x) loose h));
}

pub tight_operand : (x : Tree) → is_loose x ≡ false → Respells a_postfix (words x) (unplaced x) → IsOperand x
tight_operand x tight h = record {
  whole = as_expr h;
  operand = as_said (ap (λ c. paired c (words x)) (sym tight)) h;
}

pub primary_operand : (x : Tree) → is_loose x ≡ false → Respells a_primary (words x) (unplaced x) → IsOperand x
primary_operand x tight h = tight_operand x tight (as_postfix h)

-- operators are read back from their first spelling

binary_again : (op : BinOp) → binary_of (word_of_binary op) ≡ op
binary_again binaries.Or = refl
binary_again _ = refl

level_again : (w : Lexeme) (n : ℕ) → level_of w ≡ suc n → level_of (word_of_binary (binary_of w)) ≡ suc n
level_again Lexeme.Or n e = e
level_again Lexeme.OrOr n e = e
level_again Lexeme.And n e = e
level_again Lexeme.AndAnd n e = e
level_again Lexeme.Bar n e = e
level_again Lexeme.Caret n e = e
level_again Lexeme.Ampersand n e = e
level_again Lexeme.Equal n e = e
level_again Lexeme.NotEqual n e = e
level_again Lexeme.Less n e = e
level_again Lexeme.LessEqual n e = e
level_again Lexeme.Greater n e = e
level_again Lexeme.GreaterEqual n e = e
level_again Lexeme.ShiftLeft n e = e
level_again Lexeme.ShiftRight n e = e
level_again Lexeme.Plus n e = e
level_again Lexeme.Minus n e = e
level_again Lexeme.Star n e = e
level_again Lexeme.Slash n e = e
level_again Lexeme.Div n e = e
level_again Lexeme.Mod n e = e
level_again _ n e = absurd (omega (arith, e))

low_level : (w : Lexeme) (n : ℕ) → level_of w ≡ suc n → suc n ≤ 10
low_level Lexeme.Or n e = omega (arith, e)
low_level Lexeme.OrOr n e = omega (arith, e)
low_level Lexeme.And n e = omega (arith, e)
low_level Lexeme.AndAnd n e = omega (arith, e)
low_level Lexeme.Bar n e = omega (arith, e)
low_level Lexeme.Caret n e = omega (arith, e)
low_level Lexeme.Ampersand n e = omega (arith, e)
low_level _ n e = omega (arith, e)

prefix_again : (op : PrefixOp) → prefix_of (word_of_prefix op) ≡ op
prefix_again prefixes.Not = refl
prefix_again _ = refl

is_prefix_again : (op : PrefixOp) → is_prefix (word_of_prefix op) ≡ true
is_prefix_again prefixes.Not = refl
is_prefix_again _ = refl

binary_printable : (op : BinOp) → IsPrintable (word_of_binary op)
binary_printable binaries.Or = tt
binary_printable _ = tt

prefix_printable : (op : PrefixOp) → IsPrintable (word_of_prefix op)
prefix_printable prefixes.Not = tt
prefix_printable _ = tt

-- each expression as an operand

pub binary_operand : (n q : ℕ) (w : Lexeme) (x y : Tree) → level_of w ≡ suc n → IsOperand x → IsOperand y → IsOperand (binary (binary_of w) x y q)
binary_operand n q w x y e h i =
    let op : BinOp = binary_of w in
    let there : Respells (level (suc n)) (words (binary op x y q)) (binary (binary_of (word_of_binary op)) (unplaced x) (unplaced y) 0) = back_binary n (word_of_binary op) (level_again w n e) (binary_printable op) (at_level (suc n) h.operand) (at_level n i.operand) in
    let same : Respells (level (suc n)) (words (binary op x y q)) (unplaced (binary op x y q)) = subst (λ o. Respells (level (suc n)) (words (binary op x y q)) (binary o (unplaced x) (unplaced y) 0)) (binary_again op) there in
    let low : suc n ≤ 10 = low_level w n e in
    loose_operand (binary op x y q) refl (passes (λ a b z s. raise (10 - suc n) (suc n) loosest (omega (arith, low)) s) same)

pub prefix_operand : (q : ℕ) (w : Lexeme) (x : Tree) → IsOperand x → IsOperand (prefix (prefix_of w) x q)
prefix_operand q w x h =
    let op : PrefixOp = prefix_of w in
    let there : Respells (level 0) (words (prefix op x q)) (prefix (prefix_of (word_of_prefix op)) (unplaced x) 0) = back_prefix (word_of_prefix op) (is_prefix_again op) (prefix_printable op) (at_level 0 h.operand) in
    let same : Respells (level 0) (words (prefix op x q)) (unplaced (prefix op x q)) = subst (λ o. Respells (level 0) (words (prefix op x q)) (prefix o (unplaced x) 0)) (prefix_again op) there in
    loose_operand (prefix op x q) refl (passes (λ a b z s. raise 10 0 loosest (omega arith) s) same)

pub if_operand : (q : ℕ) (x y z : Tree) → IsOperand x → IsOperand y → IsOperand z → IsOperand (if_expr x y z q)
if_operand q x y z h i j = loose_operand (if_expr x y z q) refl (as_expr (as_postfix (back_if h.whole i.whole j.whole)))

pub index_operand : (q : ℕ) (x i : Tree) → IsOperand x → IsOperand i → IsOperand (index x i q)
index_operand q x i h j = tight_operand (index x i q) refl (back_index h.operand j.whole)

paren_operand : (q : ℕ) (x : Tree) → is_loose x ≡ false → IsOperand x → IsOperand (paren x q)
paren_operand q x tight h = primary_operand (paren x q) refl (tight_pair x (words x) tight h.whole)

pub group_operand : (q : ℕ) (x : Tree) → IsOperand x → IsOperand (group q x)
group_operand q (if_expr test first other at) h = record { whole = h.whole; operand = h.operand }
group_operand q (prefix op operand at) h = record { whole = h.whole; operand = h.operand }
group_operand q (binary op left right at) h = record { whole = h.whole; operand = h.operand }
group_operand q x h = paren_operand q x refl h

-- an operand at a level
pub level_said : (n : ℕ) (x : Tree) → IsOperand x → Respells (level n) (said (level n) x) (unplaced x)
level_said n x h = go (nat_eq n loosest) refl
  where
    go : (c : Bool) → nat_eq n loosest ≡ c → Respells (level n) (if c then words x else paired (is_loose x) (words x)) (unplaced x)
    go true e = subst (λ m. Respells (level m) (words x) (unplaced x)) (sym (eqb-true n loosest e)) h.whole
    go false e = at_level n h.operand
