-- What may follow a part, and with what a part begins.
use Rattle.std.proofs.Common.{◌≡◌, ℕ, zero, suc, ◌≤◌, Bool, true, false, List, Option, None, Some, not, ◌&&◌, ◌||◌, nat_lt, refl, ap, ◌∙◌, arith}
use Rattle.std.proofs.lemmas.Bool.{eqb-true}
use Rattle.cal_grammar.specs.Program.{ahead}
use Rattle.cal_ast.specs.Tree.{Tree}
use Rattle.cal_lexer.specs.Lexeme.{Lexeme, Placed, placed}
use Rattle.cal_grammar.specs.Token.{here, names, same_word, kind_of}
use Rattle.cal_grammar.specs.Operators.{level_of, is_prefix, long_end, ends}
use Rattle.cal_grammar.specs.Spells.{Mark, comma, dot, greater, mark, Part, Spells, separated, rest, any, repeated, level, a_postfix, a_primary, a_gen, a_type, a_type_arg, a_var, some_vars, a_param, a_port, a_name, a_tag, a_place, a_stmt, otherwise, some_guards, some_repeat, a_body, an_in, an_out, a_labelled, a_move, a_chain, members, a_unit_member, a_path, an_import, the_separated, the_last, the_more, the_binary, the_tighter, the_prefix, the_postfix, the_index, the_primary, the_number, the_true, the_false, the_variable, the_call, the_pair, the_if, the_list, the_comp, the_type, the_type_with, the_shape_arg, the_value_arg, the_var, the_var_changing, the_var_constant, the_no_vars, the_vars, the_param, the_param_default, the_port, the_name, the_tag, the_place, the_assign, the_call_stmt, the_if_stmt, the_while, the_foreach, the_block, the_block_with, the_if_end, the_else, the_elsif, the_function, the_no_guards, the_guards, the_no_repeat, the_repeat, the_no_body, the_body, the_in, the_in_at, the_out, the_out_at, the_move, the_chain, the_unit_var, the_unit_function, the_path_name, the_path_all, the_path_on, the_import}
use Rattle.cal_grammar.specs.Rules.{starts}
use Rattle.std.proofs.lemmas.Bool.{leb-true, le-leb}
use Rattle.cal_grammar.specs.Rules.{starts_expr, starts_stmt, starts_member, at_level}
use Rattle.cal_grammar.proofs.Words.{same_is}

-- the kind of what stands at the front; the end of the text counts as the end of an actor
abbrev pub seen : Option Placed → Lexeme
seen None = Lexeme.EndActor
seen (Some t) = kind_of t

abbrev pub tight_level : ℕ → ℕ
tight_level zero = 12
tight_level (suc n) = suc (suc n)

-- how tightly a token binds to an expression before it
abbrev pub tight : Lexeme → ℕ
tight Lexeme.LeftParen = 0
tight Lexeme.LeftBracket = 1
tight k = tight_level (level_of k)

abbrev pub follows_expr : Lexeme → Bool
follows_expr k = nat_lt 11 (tight k)

-- which parts may stand in a list without a separator
abbrev pub closed : Part → Bool
closed a_place = true
closed a_stmt = true
closed a_move = true
closed a_chain = true
closed an_import = true
closed a_unit_member = true
closed _ = false

abbrev pub startable : Part → Bool
startable (separated v p) = startable p
startable (level n) = true
startable a_postfix = true
startable a_primary = true
startable a_type = true
startable a_type_arg = true
startable a_var = true
startable a_param = true
startable a_port = true
startable a_name = true
startable a_tag = true
startable a_move = true
startable a_chain = true
startable a_place = true
startable a_stmt = true
startable an_in = true
startable an_out = true
startable a_unit_member = true
startable an_import = true
startable _ = false

abbrev pub may_follow : Part → Lexeme → Bool
may_follow (separated v p) k = may_follow p (mark v) && (not (same_word (mark v) k) && may_follow p k)
may_follow (rest v p) k = may_follow p (mark v) && (not (same_word (mark v) k) && may_follow p k)
may_follow (any v p) k = startable p && (not (starts p k) && (may_follow p (mark v) && (not (same_word (mark v) k) && may_follow p k)))
may_follow (repeated p) k = startable p && (not (starts p k) && closed p)
may_follow (level n) k = nat_lt (suc n) (tight k)
may_follow a_postfix k = nat_lt 1 (tight k)
may_follow a_primary k = nat_lt 0 (tight k)
may_follow a_gen k = follows_expr k
may_follow a_type k = nat_lt 0 (tight k)
may_follow a_type_arg k = follows_expr k
may_follow a_var k = not (same_word Lexeme.Assign k) && follows_expr k
may_follow some_vars k = not (same_word Lexeme.Var k) && (not (same_word Lexeme.Comma k) && (not (same_word Lexeme.Assign k) && follows_expr k))
may_follow a_param k = follows_expr k
may_follow a_tag k = not (same_word Lexeme.Dot k) && true
may_follow some_guards k = not (same_word Lexeme.Guard k) && (not (same_word Lexeme.Comma k) && follows_expr k)
may_follow some_repeat k = not (same_word Lexeme.Repeat k) && follows_expr k
may_follow a_body k = not (same_word Lexeme.Do k) && not (starts_stmt k)
may_follow an_in k = not (same_word Lexeme.Repeat k) && follows_expr k
may_follow an_out k = not (same_word Lexeme.Repeat k) && follows_expr k
may_follow (members k) w = not (starts_member w) && not (same_word Lexeme.Schedule w)
may_follow a_path k = not (same_word Lexeme.Dot k)
may_follow a_labelled k = false
may_follow _ k = true

-- tests

pub left : (a b : Bool) → (a && b) ≡ true → a ≡ true
left true b e = refl
left false b e = e

pub right : (a b : Bool) → (a && b) ≡ true → b ≡ true
right true b e = e
right false b e = absurd cc

pub untrue : (a : Bool) → not a ≡ true → a ≡ false
untrue true e = absurd cc
untrue false e = refl

-- what isn't seen isn't here
pub unseen : (f : Lexeme → Bool) (h : Option Placed) → f (seen h) ≡ false → here f h ≡ false
unseen f None e = refl
unseen f (Some t) e = e

pub seen_here : (f : Lexeme → Bool) (h : Option Placed) → here f h ≡ true → f (seen h) ≡ true
seen_here f None e = absurd cc
seen_here f (Some t) e = e

pub closed_follows : (p : Part) (k : Lexeme) → closed p ≡ true → may_follow p k ≡ true
closed_follows a_place k e = refl
closed_follows a_stmt k e = refl
closed_follows a_move k e = refl
closed_follows a_chain k e = refl
closed_follows an_import k e = refl
closed_follows a_unit_member k e = refl
closed_follows _ k e = absurd cc

-- what ends a construct is `end` or its long end
pub end_has : (g : Lexeme → Bool) (r : Bool) (v w : Lexeme) → ends v w ≡ true → g Lexeme.End ≡ r → g (long_end v) ≡ r → g w ≡ r
end_has g r v w e short long = go (same_word Lexeme.End w) refl (same_word (long_end v) w) refl e
  where
    go : (a : Bool) → same_word Lexeme.End w ≡ a → (b : Bool) → same_word (long_end v) w ≡ b → (a || b) ≡ true → g w ≡ r
    go true p b q h = ap g (same_is Lexeme.End w p) ∙ short
    go false p true q h = ap g (same_is (long_end v) w q) ∙ long
    go false p false q h = absurd cc

-- operators

pub tight-level : (k : Lexeme) (n : ℕ) → level_of k ≡ suc n → tight k ≡ suc (suc n)
tight-level Lexeme.LeftParen n e = absurd (omega arith)
tight-level Lexeme.LeftBracket n e = absurd (omega arith)
tight-level k n e = ap tight_level e

-- an operator of a level may follow what is tighter
pub operator_follows : (k : Lexeme) (n : ℕ) → level_of k ≡ suc n → may_follow (level n) k ≡ true
operator_follows k n e = rw (tight-level k n e) (le-leb (suc (suc n)) (suc (suc n)) (omega arith))

-- what may follow a level is none of its operators
pub no_operator : (k : Lexeme) (n : ℕ) → may_follow (level (suc n)) k ≡ true → at_level n k ≡ false
no_operator k n e = go (at_level n k) refl
  where
    go : (b : Bool) → at_level n k ≡ b → b ≡ false
    go true h =
        let is : tight k ≡ suc (suc n) = tight-level k n (eqb-true (level_of k) (suc n) h) in
        let above : suc (suc (suc n)) ≤ tight k = leb-true (suc (suc (suc n))) (tight k) e in
        absurd (omega arith)
    go false h = refl

pub lower_follows : (k : Lexeme) (n : ℕ) → may_follow (level (suc n)) k ≡ true → may_follow (level n) k ≡ true
lower_follows k n e =
    let above : suc (suc (suc n)) ≤ tight k = leb-true (suc (suc (suc n))) (tight k) e in
    le-leb (suc (suc n)) (tight k) (omega arith)

pub no_bracket : (k : Lexeme) → nat_lt 1 (tight k) ≡ true → same_word Lexeme.LeftBracket k ≡ false
no_bracket k e = go (same_word Lexeme.LeftBracket k) refl
  where
    go : (b : Bool) → same_word Lexeme.LeftBracket k ≡ b → b ≡ false
    go true h = let is : k ≡ Lexeme.LeftBracket = same_is Lexeme.LeftBracket k h in let off : nat_lt 1 1 ≡ true = rw is at e in absurd cc
    go false h = refl

pub no_paren : (k : Lexeme) → nat_lt 0 (tight k) ≡ true → same_word Lexeme.LeftParen k ≡ false
no_paren k e = go (same_word Lexeme.LeftParen k) refl
  where
    go : (b : Bool) → same_word Lexeme.LeftParen k ≡ b → b ≡ false
    go true h = let is : k ≡ Lexeme.LeftParen = same_is Lexeme.LeftParen k h in let off : nat_lt 0 0 ≡ true = rw is at e in absurd cc
    go false h = refl

pub no_equal : (k : Lexeme) → follows_expr k ≡ true → same_word Lexeme.Equal k ≡ false
no_equal k e = go (same_word Lexeme.Equal k) refl
  where
    go : (b : Bool) → same_word Lexeme.Equal k ≡ b → b ≡ false
    go true h = let is : k ≡ Lexeme.Equal = same_is Lexeme.Equal k h in let off : nat_lt 11 6 ≡ true = rw is at e in absurd cc
    go false h = refl

pub looser_follows : (low high : ℕ) (k : Lexeme) → low ≤ high → nat_lt high (tight k) ≡ true → nat_lt low (tight k) ≡ true
looser_follows low high k less e =
    let above : suc high ≤ tight k = leb-true (suc high) (tight k) e in
    le-leb (suc low) (tight k) (omega arith)

-- with what a part begins

pub primary_begins : (f : Lexeme → Bool) {a b : List Placed} {x : Tree} → Spells a_primary a b x → ((k : Lexeme) → starts_expr k ≡ true → is_prefix k ≡ false → f k ≡ true) → f (seen (ahead a)) ≡ true
primary_begins f the_number g = g _ refl refl
primary_begins f the_true g = g _ refl refl
primary_begins f the_false g = g _ refl refl
primary_begins f the_variable g = g _ refl refl
primary_begins f (the_call h) g = g _ refl refl
primary_begins f (the_pair h) g = g _ refl refl
primary_begins f (the_if h i j e) g = g _ refl refl
primary_begins f (the_list h) g = g _ refl refl
primary_begins f (the_comp h i) g = g _ refl refl

pub prefix_starts : (w : Lexeme) → is_prefix w ≡ true → starts_expr w ≡ true
prefix_starts Lexeme.Not e = refl
prefix_starts Lexeme.Minus e = refl
prefix_starts Lexeme.Tilde e = refl
prefix_starts _ e = absurd cc

name_member : (h : Option Placed) → here names h ≡ true → here (starts a_unit_member) h ≡ true
name_member None e = absurd cc
name_member (Some (placed (Lexeme.Name s) q)) e = refl
name_member (Some (placed _ q)) e = absurd cc

pub begins_with : {p : Part} {a b : List Placed} {x : Tree} → Spells p a b x → startable p ≡ true → here (starts p) (ahead a) ≡ true
begins_with (the_separated h t) s = begins_with h s
begins_with (the_binary h e i) s = begins_with h s
begins_with (the_tighter h) s = begins_with h refl
begins_with (the_prefix e h) s = prefix_starts _ e
begins_with (the_postfix h) s = begins_with h refl
begins_with (the_index h i) s = begins_with h refl
begins_with (the_primary h) s = begins_with h refl
begins_with the_number s = refl
begins_with the_true s = refl
begins_with the_false s = refl
begins_with the_variable s = refl
begins_with (the_call h) s = refl
begins_with (the_pair h) s = refl
begins_with (the_if h i j e) s = refl
begins_with (the_list h) s = refl
begins_with (the_comp h i) s = refl
begins_with the_type s = refl
begins_with (the_type_with h) s = refl
begins_with (the_shape_arg h) s = refl
begins_with (the_value_arg h) s = refl
begins_with (the_var h) s = begins_with h refl
begins_with (the_var_changing h i) s = begins_with h refl
begins_with (the_var_constant h i) s = begins_with h refl
begins_with (the_param h) s = begins_with h refl
begins_with (the_param_default h i) s = begins_with h refl
begins_with (the_port h) s = begins_with h refl
begins_with the_name s = refl
begins_with (the_tag h) s = begins_with h refl
begins_with (the_place h) s = refl
begins_with (the_assign h i) s = refl
begins_with (the_call_stmt h) s = refl
begins_with (the_if_stmt h i j) s = refl
begins_with (the_while h i e) s = refl
begins_with (the_foreach h i j k e) s = refl
begins_with (the_block h e) s = refl
begins_with (the_block_with h i e) s = refl
begins_with (the_in h i) s = refl
begins_with (the_in_at h i) s = refl
begins_with (the_out h i) s = refl
begins_with (the_out_at h i) s = refl
begins_with (the_move h) s = refl
begins_with (the_chain h i) s = begins_with h refl
begins_with (the_unit_var h) s = name_member _ (begins_with h refl)
begins_with (the_unit_function (the_function h i j k e)) s = refl
begins_with (the_import h) s = refl
begins_with _ s = absurd cc

-- a postfix begins with no prefix
pub postfix_begins : {a b : List Placed} {x : Tree} → Spells a_postfix a b x → here is_prefix (ahead a) ≡ false
postfix_begins (the_index h i) = postfix_begins h
postfix_begins (the_primary the_number) = refl
postfix_begins (the_primary the_true) = refl
postfix_begins (the_primary the_false) = refl
postfix_begins (the_primary the_variable) = refl
postfix_begins (the_primary (the_call h)) = refl
postfix_begins (the_primary (the_pair h)) = refl
postfix_begins (the_primary (the_if h i j e)) = refl
postfix_begins (the_primary (the_list h)) = refl
postfix_begins (the_primary (the_comp h i)) = refl

-- what stands behind a part that may be empty, or behind its front

pub rest_has : (g : Lexeme → Bool) (r : Bool) {v : Mark} {p : Part} {a b : List Placed} {x : Tree} → Spells (rest v p) a b x → g (mark v) ≡ r → g (seen (ahead b)) ≡ r → g (seen (ahead a)) ≡ r
rest_has g r the_last e f = f
rest_has g r (the_more h) e f = e

pub vars_has : (g : Lexeme → Bool) (r : Bool) {a b : List Placed} {x : Tree} → Spells some_vars a b x → g Lexeme.Var ≡ r → g (seen (ahead b)) ≡ r → g (seen (ahead a)) ≡ r
vars_has g r the_no_vars e f = f
vars_has g r (the_vars h) e f = e

pub guards_has : (g : Lexeme → Bool) (r : Bool) {a b : List Placed} {x : Tree} → Spells some_guards a b x → g Lexeme.Guard ≡ r → g (seen (ahead b)) ≡ r → g (seen (ahead a)) ≡ r
guards_has g r the_no_guards e f = f
guards_has g r (the_guards h) e f = e

pub repeat_has : (g : Lexeme → Bool) (r : Bool) {a b : List Placed} {x : Tree} → Spells some_repeat a b x → g Lexeme.Repeat ≡ r → g (seen (ahead b)) ≡ r → g (seen (ahead a)) ≡ r
repeat_has g r the_no_repeat e f = f
repeat_has g r (the_repeat h) e f = e

pub body_has : (g : Lexeme → Bool) (r : Bool) {a b : List Placed} {x : Tree} → Spells a_body a b x → g Lexeme.Do ≡ r → g (seen (ahead b)) ≡ r → g (seen (ahead a)) ≡ r
body_has g r the_no_body e f = f
body_has g r (the_body h) e f = e

pub otherwise_has : (g : Lexeme → Bool) (r : Bool) {a b : List Placed} {x : Tree} → Spells otherwise a b x → g Lexeme.End ≡ r → g Lexeme.EndIf ≡ r → g Lexeme.Else ≡ r → g Lexeme.Elsif ≡ r → g (seen (ahead a)) ≡ r
otherwise_has g r (the_if_end e) a b c d = end_has g r Lexeme.If _ e a b
otherwise_has g r (the_else h e) a b c d = c
otherwise_has g r (the_elsif h i j) a b c d = d

pub same_mark : (v : Mark) → same_word (mark v) (mark v) ≡ true
same_mark comma = refl
same_mark dot = refl
same_mark greater = refl

pub path_begins : {a b : List Placed} {x : Tree} → Spells a_path a b x → here (same_word Lexeme.Dot) (ahead a) ≡ true
path_begins the_path_name = refl
path_begins the_path_all = refl
path_begins (the_path_on h) = refl

-- a name is none of the words
named_is : (h : Option Placed) (f : Lexeme → Bool) → ((s : List ℕ) → f (Lexeme.Name s) ≡ false) → here names h ≡ true → here f h ≡ false
named_is None f g e = refl
named_is (Some (placed (Lexeme.Name s) q)) f g e = g s
named_is (Some (placed _ q)) f g e = absurd cc

pub var_begins : {a b : List Placed} {x : Tree} → Spells a_var a b x → (f : Lexeme → Bool) → ((s : List ℕ) → f (Lexeme.Name s) ≡ false) → here f (ahead a) ≡ false
var_begins h f g = named_is _ f g (begins_with h refl)

pub name_is_member : (h : Option Placed) → here names h ≡ true → here starts_member h ≡ true
name_is_member None e = absurd cc
name_is_member (Some (placed (Lexeme.Name s) q)) e = refl
name_is_member (Some (placed _ q)) e = absurd cc
