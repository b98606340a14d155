-- Lists, expressions and types: what their rules keep to.
use Rattle.std.proofs.Common.{◌≡◌, ℕ, zero, suc, ◌<◌, ◌≤◌, true, List, ◌∷◌, length, Option, None, Some, refl, arith}
use Rattle.std.proofs.lemmas.Bool.{eqb-true}
use Rattle.cal_grammar.specs.Program.{ahead}
use Rattle.cal_ast.specs.Tree.{Tree}
use Rattle.cal_lexer.specs.Lexeme.{Lexeme, Placed, placed}
use Rattle.cal_grammar.specs.Token.{here, names, counts, same_word}
use Rattle.cal_grammar.specs.Operators.{level_of, is_prefix, height}
use Rattle.cal_grammar.specs.Spells.{Mark, comma, dot, mark, Part, Spells, separated, rest, any, repeated, level, a_postfix, a_primary, a_gen, a_type, a_type_arg, a_var, some_vars, a_param, a_port, a_name, a_tag, a_place, a_stmt, an_in, an_out, a_move, a_chain, a_member, a_unit_member, an_import, an_expr, the_separated, the_last, the_more, the_none, the_some, the_end, the_again, the_binary, the_tighter, the_prefix, the_postfix, the_index, the_primary, the_number, the_true, the_false, the_variable, the_call, the_pair, the_if, the_list, the_comp, the_gen, the_type, the_type_with, the_shape_arg, the_value_arg, the_var, the_var_changing, the_var_constant, the_no_vars, the_vars, the_param, the_param_default, the_port, the_name, the_tag}
use Rattle.cal_grammar.specs.Rules.{part, chain, places, type_tail, var_tail, size, starts, part_body}
use Rattle.cal_grammar.proofs.Meets.{Meets, Keeps, Shows, gives, fails, asks, checks, jumps, word_or, name_or, first_or, takes_kind, takes_word, takes_name, takes_number, invoked, entered, invokes, enters, expects, names_next, finishes, some_left, turns}
use Rattle.cal_grammar.proofs.Costs.{costs, takes, height-group, height-group_any}
use Rattle.cal_grammar.specs.Rules.{at_level, chain_body, places_body, type_tail_body, var_tail_body}

abbrev pub Kept : Part → ℕ → List Placed → Type 0
Kept p m a = Shows (size (part p) a) m (part_body p) a (Meets p m a)

-- lists

pub separated_kept : (m : ℕ) (v : Mark) (p : Part) (a : List Placed) → Kept (separated v p) m a
separated_kept m v p a =
    invokes _ _ p (separated v p) a a _ (omega arith) (omega arith) λ x b hx lx cx tx.
    invokes _ _ (rest v p) (separated v p) a b _ (omega arith) (omega arith) λ xs c hs ls cs ts.
    gives _ _ _ _ _ (record { spelled = the_separated hx hs; low = omega arith })

pub rest_kept : (m : ℕ) (v : Mark) (p : Part) (a : List Placed) → Kept (rest v p) m a
rest_kept m v p a =
    asks _ _ _ _ _ _ _
    (λ e. takes_word _ _ (mark v) (λ l. length l ≡ length a) (λ l. Meets (rest v p) m l) _ a e refl λ q b n f.
    jumps _ _ _ _ _ (omega arith) (turns (separated v p) (rest v p) m (placed (mark v) q ∷ b) b (omega arith) (λ x left h. the_more h)))
    (λ e. gives _ _ _ _ _ (record { spelled = the_last; low = omega arith }))

pub any_kept : (m : ℕ) (v : Mark) (p : Part) (a : List Placed) → Kept (any v p) m a
any_kept m v p a =
    asks _ _ _ _ _ _ _
    (λ e. jumps _ _ _ _ _ (omega arith) (turns (separated v p) (any v p) m a a (omega arith) (λ x left h. the_some h)))
    (λ e. gives _ _ _ _ _ (record { spelled = the_none; low = omega arith }))

-- what may be repeated isn't empty
pub never_empty : (p : Part) (h : Option Placed) → here (starts p) h ≡ true → takes p ≡ 1
never_empty p None e = absurd cc
never_empty (separated v p) (Some t) e = never_empty p (Some t) e
never_empty (level n) (Some t) e = refl
never_empty a_postfix (Some t) e = refl
never_empty a_primary (Some t) e = refl
never_empty a_type (Some t) e = refl
never_empty a_type_arg (Some t) e = refl
never_empty a_var (Some t) e = refl
never_empty a_param (Some t) e = refl
never_empty a_port (Some t) e = refl
never_empty a_name (Some t) e = refl
never_empty a_tag (Some t) e = refl
never_empty a_move (Some t) e = refl
never_empty a_chain (Some t) e = refl
never_empty a_place (Some t) e = refl
never_empty a_stmt (Some t) e = refl
never_empty an_in (Some t) e = refl
never_empty an_out (Some t) e = refl
never_empty a_member (Some t) e = refl
never_empty a_unit_member (Some t) e = refl
never_empty an_import (Some t) e = refl
never_empty _ (Some t) e = absurd cc

pub repeated_kept : (m : ℕ) (p : Part) (a : List Placed) → Kept (repeated p) m a
repeated_kept m p a =
    asks _ _ _ _ _ _ _
    (λ e. let one : takes p ≡ 1 = never_empty p (ahead a) e in
    invokes _ _ p (repeated p) a a _ (omega arith) (omega arith) λ x b hx lx cx tx.
    invokes _ _ (repeated p) (repeated p) a b _ (omega arith) (omega arith) λ xs c hs ls cs ts.
    gives _ _ _ _ _ (record { spelled = the_again hx hs; low = omega arith }))
    (λ e. gives _ _ _ _ _ (record { spelled = the_end; low = omega arith }))

-- expressions

pub level_kept : (m n : ℕ) (a : List Placed) → Kept (level n) m a
level_kept m zero a =
    asks _ _ _ _ _ _ _
    (λ e. checks _ _ _ _ _ _ (λ high. record { far = omega arith; at_token = some_left is_prefix a e }) λ low.
    takes_kind _ _ is_prefix (λ l. length l ≡ length a) (λ l. Meets (level 0) m l) _ a e refl λ k q b same n f.
    enters _ _ (level 0) (level 0) (placed k q ∷ b) b _ (omega arith) (omega arith) λ x c hx lx cx tx.
    gives _ _ _ _ _ (record { spelled = the_prefix same hx; low = omega arith }))
    (λ e. jumps _ _ _ _ _ (omega arith) (turns a_postfix (level 0) m a a (omega arith) (λ x left h. the_postfix h)))
level_kept m (suc n) a =
    invokes _ _ (level n) (level (suc n)) a a _ (omega arith) (omega arith) λ x b hx lx cx tx.
    jumps _ _ _ _ _ (omega arith) (λ o h. h a (the_tighter hx) lx)

pub chain_kept : (m n : ℕ) (x : Tree) (c : List Placed) → Shows (size (chain n x) c) m (chain_body n x) c (Keeps m (chain n x) c)
chain_kept m n x c =
    asks _ _ _ _ _ _ _
    (λ e. let at : 0 < length c = some_left (at_level n) c e in
    checks _ _ _ _ _ _ (λ high a h l. let cost = costs h in record { far = omega arith; at_token = at }) λ low.
    takes_kind _ _ (at_level n) (λ r. length r ≡ length c) (λ r o. (a : List Placed) → Spells (level (suc n)) a r x → height x ≤ m → Meets (level (suc n)) m a o) _ c e refl λ k q b same len f.
    entered _ _ (level n) b _ _ (omega arith) (λ left a h l. tt) (λ left far there a h l. let cost = costs h in record { far = omega arith; at_token = there }) λ y d hy ly cy ty.
    jumps _ _ _ _ _ (omega arith) (λ o keeps a h l. keeps a (the_binary h (eqb-true (level_of k) (suc n) same) hy) (omega arith)))
    (λ e. gives _ _ _ _ _ (λ a h l. record { spelled = h; low = l }))

pub postfix_kept : (m : ℕ) (a : List Placed) → Kept a_postfix m a
postfix_kept m a =
    invokes _ _ a_primary a_postfix a a _ (omega arith) (omega arith) λ x b hx lx cx tx.
    jumps _ _ _ _ _ (omega arith) (λ o h. h a (the_primary hx) lx)

pub places_kept : (m : ℕ) (x : Tree) (c : List Placed) → Shows (size (places x) c) m (places_body x) c (Keeps m (places x) c)
places_kept m x c =
    asks _ _ _ _ _ _ _
    (λ e. let at : 0 < length c = some_left (same_word Lexeme.LeftBracket) c e in
    checks _ _ _ _ _ _ (λ high a h l. let cost = costs h in record { far = omega arith; at_token = at }) λ low.
    takes_word _ _ Lexeme.LeftBracket (λ r. length r ≡ length c) (λ r o. (a : List Placed) → Spells a_postfix a r x → height x ≤ m → Meets a_postfix m a o) _ c e refl λ q b n f.
    entered _ _ an_expr b _ _ (omega arith) (λ left a h l. tt) (λ left far there a h l. let cost = costs h in record { far = omega arith; at_token = there }) λ i d hi li ci ti.
    asks _ _ _ _ _ _ _
    (λ e2. takes_word _ _ Lexeme.RightBracket (λ r. Spells an_expr b r i) (λ r o. (a : List Placed) → Spells a_postfix a (placed Lexeme.LeftBracket q ∷ b) x → height x ≤ m → Meets a_postfix m a o) _ d e2 hi λ q2 d2 n2 f2.
    jumps _ _ _ _ _ (omega arith) (λ o keeps a h l. keeps a (the_index h f2) (omega arith)))
    (λ e2. fails _ _ _ _ (λ a h l. tt)))
    (λ e. gives _ _ _ _ _ (λ a h l. record { spelled = h; low = l }))

pub primary_kept : (m : ℕ) (a : List Placed) → Kept a_primary m a
primary_kept m a =
    asks _ _ _ _ _ _ _
    (λ e. checks _ _ _ _ _ _ (λ high. record { far = omega arith; at_token = some_left counts a e }) λ low.
    takes_number _ _ (λ l. Unit {0}) (λ l. Meets a_primary m l) _ a e tt λ v q b n f.
    gives _ _ _ _ _ (record { spelled = the_number; low = low })) λ e1.
    asks _ _ _ _ _ _ _
    (λ e. checks _ _ _ _ _ _ (λ high. record { far = omega arith; at_token = some_left names a e }) λ low.
    takes_name _ _ (λ l. Unit {0}) (λ l. Meets a_primary m l) _ a e tt λ s q b n f.
    word_or _ _ Lexeme.LeftParen (λ l. Unit {0}) (λ l. Meets a_primary m (placed (Lexeme.Name s) q ∷ l)) _ _ b tt
    (λ r c n2 f2. enters _ _ (any comma an_expr) a_primary _ c _ (omega arith) (omega arith) λ xs d hs ls cs ts.
    expects _ _ Lexeme.RightParen (any comma an_expr) a_primary c xs _ d _ hs λ t d2 n3 h2.
    gives _ _ _ _ _ (record { spelled = the_call h2; low = omega arith }))
    (λ no_paren. gives _ _ _ _ _ (record { spelled = the_variable; low = low }))) λ e2.
    first_or _ _ Lexeme.True a_primary _ _ a (λ low q b n. gives _ _ _ _ _ (record { spelled = the_true; low = low })) λ e3.
    first_or _ _ Lexeme.False a_primary _ _ a (λ low q b n. gives _ _ _ _ _ (record { spelled = the_false; low = low })) λ e4.
    word_or _ _ Lexeme.LeftParen (λ l. Unit {0}) (λ l. Meets a_primary m l) _ _ a tt
    (λ q b n f. invokes _ _ an_expr a_primary (placed Lexeme.LeftParen q ∷ b) b _ (omega arith) (omega arith) λ x c hx lx cx tx.
    asks _ _ _ _ _ _ _
    (λ e. checks _ _ _ _ _ _ (λ high. let pair = height-group 0 x in record { far = omega arith; at_token = some_left (same_word Lexeme.RightParen) c e }) λ low.
    takes_word _ _ Lexeme.RightParen (λ l. Spells an_expr b l x) (λ l. Meets a_primary m (placed Lexeme.LeftParen q ∷ b)) _ c e hx λ r d n2 h2.
    gives _ _ _ _ _ (record { spelled = the_pair h2; low = omega (arith, height-group_any q 0 x) }))
    (λ e. fails _ _ _ _ tt)) λ e5.
    first_or _ _ Lexeme.If a_primary _ _ a
    (λ low q b n. enters _ _ an_expr a_primary (placed Lexeme.If q ∷ b) b _ (omega arith) (omega arith) λ x c hx lx cx tx.
    expects _ _ Lexeme.Then an_expr a_primary b x _ c _ hx λ q2 c2 n2 hx2.
    enters _ _ an_expr a_primary _ c2 _ (omega arith) (omega arith) λ y d hy ly cy ty.
    expects _ _ Lexeme.Else an_expr a_primary c2 y _ d _ hy λ q3 d2 n3 hy2.
    enters _ _ an_expr a_primary _ d2 _ (omega arith) (omega arith) λ z f hz lz cz tz.
    finishes _ _ Lexeme.If an_expr a_primary d2 z _ f _ hz λ k q4 f2 is n4 hz2.
    gives _ _ _ _ _ (record { spelled = the_if hx2 hy2 hz2 is; low = omega arith })) λ e6.
    first_or _ _ Lexeme.LeftBracket a_primary _ _ a
    (λ low q b n. enters _ _ an_expr a_primary (placed Lexeme.LeftBracket q ∷ b) b _ (omega arith) (omega arith) λ x c hx lx cx tx.
    word_or _ _ Lexeme.Colon (λ l. Spells an_expr b l x) (λ l. Meets a_primary m (placed Lexeme.LeftBracket q ∷ b)) _ _ c hx
    (λ r d n2 hx2. enters _ _ (separated comma a_gen) a_primary _ d _ (omega arith) (omega arith) λ gs f hs ls cs ts.
    expects _ _ Lexeme.RightBracket (separated comma a_gen) a_primary d gs _ f _ hs λ q2 f2 n3 hs2.
    gives _ _ _ _ _ (record { spelled = the_comp hx2 hs2; low = omega arith }))
    (λ no_colon. enters _ _ (rest comma an_expr) a_primary _ c _ (omega arith) (omega arith) λ xs d hs ls cs ts.
    expects _ _ Lexeme.RightBracket (rest comma an_expr) a_primary c xs _ d _ hs λ q2 d2 n2 hs2.
    gives _ _ _ _ _ (record { spelled = the_list (the_separated hx hs2); low = omega arith }))) λ e7.
    fails _ _ _ _ tt

pub gen_kept : (m : ℕ) (a : List Placed) → Kept a_gen m a
gen_kept m a =
    word_or _ _ Lexeme.For (λ l. Unit {0}) (λ l. Meets a_gen m l) _ _ a tt
    (λ q b n f. invokes _ _ a_type a_gen (placed Lexeme.For q ∷ b) b _ (omega arith) (omega arith) λ shape c hs ls cs ts.
    names_next _ _ a_type a_gen b shape _ c _ hs λ s q2 c2 n2 hs2.
    word_or _ _ Lexeme.In (λ l. Spells a_type b (placed (Lexeme.Name s) q2 ∷ l) shape) (λ l. Meets a_gen m (placed Lexeme.For q ∷ b)) _ _ c2 hs2
    (λ q3 c3 n3 hs3. invokes _ _ an_expr a_gen _ c3 _ (omega arith) (omega arith) λ x d hx lx cx tx.
    expects _ _ Lexeme.DotDot an_expr a_gen c3 x _ d _ hx λ q4 d2 n4 hx2.
    invokes _ _ an_expr a_gen _ d2 _ (omega arith) (omega arith) λ y g hy ly cy ty.
    gives _ _ _ _ _ (record { spelled = the_gen hs3 hx2 hy; low = omega arith }))
    (λ e. fails _ _ _ _ tt))
    (λ e. fails _ _ _ _ tt)

-- types and declarations

pub type_kept : (m : ℕ) (a : List Placed) → Kept a_type m a
type_kept m a =
    asks _ _ _ _ _ _ _
    (λ e. checks _ _ _ _ _ _ (λ high. record { far = omega arith; at_token = some_left names a e }) λ low.
    takes_name _ _ (λ l. Unit {0}) (λ l. Meets a_type m l) _ a e tt λ s q b n f.
    jumps _ _ _ _ _ (omega arith) (λ o h. h low))
    (λ e. fails _ _ _ _ tt)

pub type_tail_kept : (m : ℕ) (s : List ℕ) (q : ℕ) (c : List Placed) → Shows (size (type_tail s q) c) m (type_tail_body s q) c (Keeps m (type_tail s q) c)
type_tail_kept m s q c =
    word_or _ _ Lexeme.LeftParen (λ l. Unit {0}) (λ l o. 1 ≤ m → Meets a_type m (placed (Lexeme.Name s) q ∷ l) o) _ _ c tt
    (λ r d n f. entered _ _ (separated comma a_type_arg) d _ _ (omega arith) (λ left low. tt) (λ left far there low. record { far = omega arith; at_token = there }) λ xs g hs ls cs ts.
    asks _ _ _ _ _ _ _
    (λ e. takes_word _ _ Lexeme.RightParen (λ l. Spells (separated comma a_type_arg) d l xs) (λ l o. 1 ≤ m → Meets a_type m (placed (Lexeme.Name s) q ∷ placed Lexeme.LeftParen r ∷ d) o) _ g e hs λ t g2 n2 h2.
    gives _ _ _ _ _ (λ low. record { spelled = the_type_with h2; low = omega arith }))
    (λ e. fails _ _ _ _ (λ low. tt)))
    (λ e. gives _ _ _ _ _ (λ low. record { spelled = the_type; low = omega arith }))

pub type_arg_kept : (m : ℕ) (a : List Placed) → Kept a_type_arg m a
type_arg_kept m a =
    name_or _ _ (λ l. Unit {0}) (λ l. Meets a_type_arg m l) _ _ a tt
    (λ s q b n f. word_or _ _ Lexeme.Colon (λ l. Unit {0}) (λ l. Meets a_type_arg m (placed (Lexeme.Name s) q ∷ l)) _ _ b tt
    (λ r c n2 f2. invokes _ _ a_type a_type_arg _ c _ (omega arith) (omega arith) λ x d hx lx cx tx.
    gives _ _ _ _ _ (record { spelled = the_shape_arg hx; low = lx }))
    (λ no_colon. word_or _ _ Lexeme.Equal (λ l. Unit {0}) (λ l. Meets a_type_arg m (placed (Lexeme.Name s) q ∷ l)) _ _ b tt
    (λ r c n2 f2. invokes _ _ an_expr a_type_arg _ c _ (omega arith) (omega arith) λ x d hx lx cx tx.
    gives _ _ _ _ _ (record { spelled = the_value_arg hx; low = lx }))
    (λ e. fails _ _ _ _ tt)))
    (λ e. fails _ _ _ _ tt)

pub var_kept : (m : ℕ) (a : List Placed) → Kept a_var m a
var_kept m a =
    invokes _ _ a_type a_var a a _ (omega arith) (omega arith) λ x b hx lx cx tx.
    jumps _ _ _ _ _ (omega arith) (λ o h. h a hx lx)

pub var_tail_kept : (m : ℕ) (x : Tree) (c : List Placed) → Shows (size (var_tail x) c) m (var_tail_body x) c (Keeps m (var_tail x) c)
var_tail_kept m x c =
    name_or _ _ (λ l. length l ≡ length c) (λ l o. (a : List Placed) → Spells a_type a l x → height x ≤ m → Meets a_var m a o) _ _ c refl
    (λ s q b n f. word_or _ _ Lexeme.Assign (λ l. length l ≡ length b) (λ l o. (a : List Placed) → Spells a_type a (placed (Lexeme.Name s) q ∷ l) x → height x ≤ m → Meets a_var m a o) _ _ b refl
    (λ r d n2 f2. invoked _ _ an_expr d _ _ (omega arith) (λ left a h l. tt) (λ left far there a h l. let cost = costs h in record { far = omega arith; at_token = there }) λ y g hy ly cy ty.
    gives _ _ _ _ _ (λ a h l. record { spelled = the_var_changing h hy; low = omega arith }))
    (λ no_assign. word_or _ _ Lexeme.Equal (λ l. length l ≡ length b) (λ l o. (a : List Placed) → Spells a_type a (placed (Lexeme.Name s) q ∷ l) x → height x ≤ m → Meets a_var m a o) _ _ b refl
    (λ r d n2 f2. invoked _ _ an_expr d _ _ (omega arith) (λ left a h l. tt) (λ left far there a h l. let cost = costs h in record { far = omega arith; at_token = there }) λ y g hy ly cy ty.
    gives _ _ _ _ _ (λ a h l. record { spelled = the_var_constant h hy; low = omega arith }))
    (λ no_equal. gives _ _ _ _ _ (λ a h l. record { spelled = the_var h; low = omega arith }))))
    (λ e. fails _ _ _ _ (λ a h l. tt))

pub some_vars_kept : (m : ℕ) (a : List Placed) → Kept some_vars m a
some_vars_kept m a =
    word_or _ _ Lexeme.Var (λ l. length l ≡ length a) (λ l. Meets some_vars m l) _ _ a refl
    (λ q b n f. jumps _ _ _ _ _ (omega arith) (turns (separated comma a_var) some_vars m (placed Lexeme.Var q ∷ b) b (omega arith) (λ x left h. the_vars h)))
    (λ e. gives _ _ _ _ _ (record { spelled = the_no_vars; low = omega arith }))

pub param_kept : (m : ℕ) (a : List Placed) → Kept a_param m a
param_kept m a =
    invokes _ _ a_type a_param a a _ (omega arith) (omega arith) λ x b hx lx cx tx.
    names_next _ _ a_type a_param a x _ b _ hx λ s q c n hx2.
    word_or _ _ Lexeme.Equal (λ l. Spells a_type a (placed (Lexeme.Name s) q ∷ l) x) (λ l. Meets a_param m a) _ _ c hx2
    (λ r d n2 hx3. invokes _ _ an_expr a_param a d _ (omega arith) (omega arith) λ y g hy ly cy ty.
    gives _ _ _ _ _ (record { spelled = the_param_default hx3 hy; low = omega arith }))
    (λ e. gives _ _ _ _ _ (record { spelled = the_param hx2; low = omega arith }))

pub port_kept : (m : ℕ) (a : List Placed) → Kept a_port m a
port_kept m a =
    invokes _ _ a_type a_port a a _ (omega arith) (omega arith) λ x b hx lx cx tx.
    names_next _ _ a_type a_port a x _ b _ hx λ s q c n hx2.
    gives _ _ _ _ _ (record { spelled = the_port hx2; low = lx })

pub name_kept : (m : ℕ) (a : List Placed) → Kept a_name m a
name_kept m a =
    name_or _ _ (λ l. Unit {0}) (λ l. Meets a_name m l) _ _ a tt
    (λ s q b n f. gives _ _ _ _ _ (record { spelled = the_name; low = omega arith }))
    (λ e. fails _ _ _ _ tt)

pub tag_kept : (m : ℕ) (a : List Placed) → Kept a_tag m a
tag_kept m a =
    invokes _ _ (separated dot a_name) a_tag a a _ (omega arith) (omega arith) λ xs b hs ls cs ts.
    gives _ _ _ _ _ (record { spelled = the_tag hs; low = omega arith })
