-- Statements: what their rules keep to.
use Rattle.std.proofs.Common.{◌≡◌, ℕ, suc, ◌≤◌, List, ◌∷◌, length, arith}
use Rattle.cal_lexer.specs.Lexeme.{Lexeme, Placed, placed}
use Rattle.cal_grammar.specs.Token.{names}
use Rattle.cal_grammar.specs.Operators.{ends}
use Rattle.cal_grammar.specs.Spells.{comma, Spells, separated, any, repeated, a_type, a_var, a_place, a_stmt, otherwise, an_expr, the_place, the_assign, the_call_stmt, the_if_stmt, the_while, the_foreach, the_block, the_block_with, the_if_end, the_else, the_elsif}
use Rattle.cal_grammar.specs.Rules.{part, size}
use Rattle.cal_grammar.proofs.Meets.{Meets, Shows, gives, fails, asks, checks, word_or, first_or, takes_kind, takes_name, invokes, enters, expects, names_next, finishes, some_left}
use Rattle.cal_grammar.specs.Rules.{named_stmt_body, if_stmt_body, while_body, foreach_body, block_body}
use Rattle.cal_grammar.proofs.Sound.{Kept}

pub place_kept : (m : ℕ) (a : List Placed) → Kept a_place m a
place_kept m a =
    word_or _ _ Lexeme.LeftBracket (λ l. Unit {0}) (λ l. Meets a_place m l) _ _ a tt
    (λ q b n f. invokes _ _ an_expr a_place (placed Lexeme.LeftBracket q ∷ b) b _ (omega arith) (omega arith) λ x c hx lx cx tx.
    expects _ _ Lexeme.RightBracket an_expr a_place b x _ c _ hx λ q2 c2 n2 hx2.
    gives _ _ _ _ _ (record { spelled = the_place hx2; low = lx }))
    (λ e. fails _ _ _ _ tt)

stmt_if_kept : (m : ℕ) (a : List Placed) → 1 ≤ m → (q : ℕ) (b : List Placed) → length a ≡ suc (length b) → Shows (size (part a_stmt) a) m (if_stmt_body (λ x. x) (placed Lexeme.If q)) b (Meets a_stmt m (placed Lexeme.If q ∷ b))
stmt_if_kept m a low q b n =
    enters _ _ an_expr a_stmt (placed Lexeme.If q ∷ b) b _ (omega arith) (omega arith) λ x c hx lx cx tx.
    expects _ _ Lexeme.Then an_expr a_stmt b x _ c _ hx λ q2 c2 n2 hx2.
    enters _ _ (repeated a_stmt) a_stmt _ c2 _ (omega arith) (omega arith) λ ys d hy ly cy ty.
    enters _ _ otherwise a_stmt _ d _ (omega arith) (omega arith) λ z f hz lz cz tz.
    gives _ _ _ _ _ (record { spelled = the_if_stmt hx2 hy hz; low = omega arith })

stmt_while_kept : (m : ℕ) (a : List Placed) → 1 ≤ m → (q : ℕ) (b : List Placed) → length a ≡ suc (length b) → Shows (size (part a_stmt) a) m (while_body (placed Lexeme.While q)) b (Meets a_stmt m (placed Lexeme.While q ∷ b))
stmt_while_kept m a low q b n =
    enters _ _ an_expr a_stmt (placed Lexeme.While q ∷ b) b _ (omega arith) (omega arith) λ x c hx lx cx tx.
    expects _ _ Lexeme.Do an_expr a_stmt b x _ c _ hx λ q2 c2 n2 hx2.
    enters _ _ (repeated a_stmt) a_stmt _ c2 _ (omega arith) (omega arith) λ ys d hy ly cy ty.
    finishes _ _ Lexeme.While (repeated a_stmt) a_stmt c2 ys _ d _ hy λ k q3 d2 is n3 hy2.
    gives _ _ _ _ _ (record { spelled = the_while hx2 hy2 is; low = omega arith })

stmt_foreach_kept : (m : ℕ) (a : List Placed) → 1 ≤ m → (q : ℕ) (b : List Placed) → length a ≡ suc (length b) → Shows (size (part a_stmt) a) m (foreach_body (placed Lexeme.Foreach q)) b (Meets a_stmt m (placed Lexeme.Foreach q ∷ b))
stmt_foreach_kept m a low q b n =
    enters _ _ a_type a_stmt (placed Lexeme.Foreach q ∷ b) b _ (omega arith) (omega arith) λ shape c hs ls cs ts.
    names_next _ _ a_type a_stmt b shape _ c _ hs λ s q2 c2 n2 hs2.
    word_or _ _ Lexeme.In (λ l. Spells a_type b (placed (Lexeme.Name s) q2 ∷ l) shape) (λ l. Meets a_stmt m (placed Lexeme.Foreach q ∷ b)) _ _ c2 hs2
    (λ q3 c3 n3 hs3. enters _ _ an_expr a_stmt _ c3 _ (omega arith) (omega arith) λ x d hx lx cx tx.
    expects _ _ Lexeme.DotDot an_expr a_stmt c3 x _ d _ hx λ q4 d2 n4 hx2.
    enters _ _ an_expr a_stmt _ d2 _ (omega arith) (omega arith) λ y f hy ly cy ty.
    expects _ _ Lexeme.Do an_expr a_stmt d2 y _ f _ hy λ q5 f2 n5 hy2.
    enters _ _ (repeated a_stmt) a_stmt _ f2 _ (omega arith) (omega arith) λ zs g hz lz cz tz.
    finishes _ _ Lexeme.Foreach (repeated a_stmt) a_stmt f2 zs _ g _ hz λ k q6 g2 is n6 hz2.
    gives _ _ _ _ _ (record { spelled = the_foreach hs3 hx2 hy2 hz2 is; low = omega arith }))
    (λ e. fails _ _ _ _ tt)

stmt_block_kept : (m : ℕ) (a : List Placed) → 1 ≤ m → (q : ℕ) (b : List Placed) → length a ≡ suc (length b) → Shows (size (part a_stmt) a) m (block_body (placed Lexeme.Begin q)) b (Meets a_stmt m (placed Lexeme.Begin q ∷ b))
stmt_block_kept m a low q b n =
    word_or _ _ Lexeme.Var (λ l. Unit {0}) (λ l. Meets a_stmt m (placed Lexeme.Begin q ∷ l)) _ _ b tt
    (λ r c n2 f. enters _ _ (separated comma a_var) a_stmt _ c _ (omega arith) (omega arith) λ xs d hs ls cs ts.
    expects _ _ Lexeme.Do (separated comma a_var) a_stmt c xs _ d _ hs λ q2 d2 n3 hs2.
    enters _ _ (repeated a_stmt) a_stmt _ d2 _ (omega arith) (omega arith) λ ys g hy ly cy ty.
    finishes _ _ Lexeme.Begin (repeated a_stmt) a_stmt d2 ys _ g _ hy λ k q3 g2 is n4 hy2.
    gives _ _ _ _ _ (record { spelled = the_block_with hs2 hy2 is; low = omega arith }))
    (λ e. enters _ _ (repeated a_stmt) a_stmt _ b _ (omega arith) (omega arith) λ ys g hy ly cy ty.
    finishes _ _ Lexeme.Begin (repeated a_stmt) a_stmt b ys _ g _ hy λ k q3 g2 is n4 hy2.
    gives _ _ _ _ _ (record { spelled = the_block hy2 is; low = omega arith }))

stmt_named_kept : (m : ℕ) (a : List Placed) → 1 ≤ m → (s : List ℕ) (q : ℕ) (b : List Placed) → length a ≡ suc (length b) → Shows (size (part a_stmt) a) m (named_stmt_body (placed (Lexeme.Name s) q)) b (Meets a_stmt m (placed (Lexeme.Name s) q ∷ b))
stmt_named_kept m a low s q b n =
    word_or _ _ Lexeme.LeftParen (λ l. Unit {0}) (λ l. Meets a_stmt m (placed (Lexeme.Name s) q ∷ l)) _ _ b tt
    (λ r c n2 f. enters _ _ (any comma an_expr) a_stmt _ c _ (omega arith) (omega arith) λ xs d hs ls cs ts.
    expects _ _ Lexeme.RightParen (any comma an_expr) a_stmt c xs _ d _ hs λ q2 d2 n3 hs2.
    word_or _ _ Lexeme.Semicolon (λ l. Spells (any comma an_expr) c (placed Lexeme.RightParen q2 ∷ l) xs) (λ l. Meets a_stmt m (placed (Lexeme.Name s) q ∷ placed Lexeme.LeftParen r ∷ c)) _ _ d2 hs2
    (λ q3 d3 n4 hs3. gives _ _ _ _ _ (record { spelled = the_call_stmt hs3; low = omega arith }))
    (λ e. fails _ _ _ _ tt))
    (λ e. enters _ _ (repeated a_place) a_stmt _ b _ (omega arith) (omega arith) λ xs c hs ls cs ts.
    expects _ _ Lexeme.Assign (repeated a_place) a_stmt b xs _ c _ hs λ q2 c2 n2 hs2.
    enters _ _ an_expr a_stmt _ c2 _ (omega arith) (omega arith) λ x d hx lx cx tx.
    expects _ _ Lexeme.Semicolon an_expr a_stmt c2 x _ d _ hx λ q3 d2 n3 hx2.
    gives _ _ _ _ _ (record { spelled = the_assign hs2 hx2; low = omega arith }))

pub stmt_kept : (m : ℕ) (a : List Placed) → Kept a_stmt m a
stmt_kept m a =
    asks _ _ _ _ _ _ _
    (λ e. checks _ _ _ _ _ _ (λ high. record { far = omega arith; at_token = some_left names a e }) λ low.
    takes_name _ _ (λ l. Unit {0}) (λ l. Meets a_stmt m l) _ a e tt λ s q b n f. stmt_named_kept m a low s q b n) λ e1.
    first_or _ _ Lexeme.If a_stmt _ _ a (λ low q b n. stmt_if_kept m a low q b n) λ e2.
    first_or _ _ Lexeme.While a_stmt _ _ a (λ low q b n. stmt_while_kept m a low q b n) λ e3.
    first_or _ _ Lexeme.Foreach a_stmt _ _ a (λ low q b n. stmt_foreach_kept m a low q b n) λ e4.
    first_or _ _ Lexeme.Begin a_stmt _ _ a (λ low q b n. stmt_block_kept m a low q b n) λ e5.
    fails _ _ _ _ tt

pub otherwise_kept : (m : ℕ) (a : List Placed) → Kept otherwise m a
otherwise_kept m a =
    asks _ _ _ _ _ _ _
    (λ e. takes_kind _ _ (ends Lexeme.If) (λ l. Unit {0}) (λ l. Meets otherwise m l) _ a e tt λ k q b is n f.
    gives _ _ _ _ _ (record { spelled = the_if_end is; low = omega arith })) λ e1.
    word_or _ _ Lexeme.Else (λ l. Unit {0}) (λ l. Meets otherwise m l) _ _ a tt
    (λ q b n f. invokes _ _ (repeated a_stmt) otherwise (placed Lexeme.Else q ∷ b) b _ (omega arith) (omega arith) λ ys d hy ly cy ty.
    finishes _ _ Lexeme.If (repeated a_stmt) otherwise b ys _ d _ hy λ k q3 d2 is n3 hy2.
    gives _ _ _ _ _ (record { spelled = the_else hy2 is; low = omega arith })) λ e2.
    first_or _ _ Lexeme.Elsif otherwise _ _ a
    (λ low q b n. enters _ _ an_expr otherwise (placed Lexeme.Elsif q ∷ b) b _ (omega arith) (omega arith) λ x c hx lx cx tx.
    expects _ _ Lexeme.Then an_expr otherwise b x _ c _ hx λ q2 c2 n2 hx2.
    enters _ _ (repeated a_stmt) otherwise _ c2 _ (omega arith) (omega arith) λ ys d hy ly cy ty.
    enters _ _ otherwise otherwise _ d _ (omega arith) (omega arith) λ z f hz lz cz tz.
    gives _ _ _ _ _ (record { spelled = the_elsif hx2 hy hz; low = omega arith })) λ e3.
    fails _ _ _ _ tt
