-- Whatever is spelled is read.
use Rattle.std.proofs.Common.{◌≡◌, ℕ, suc, ◌-◌, ◌≤◌, Bool, true, false, List, ◌∷◌, not, refl, sym, ap, ◌∙◌, arith}
use Rattle.cal_grammar.specs.Program.{Outcome, give, fail, ask, take, check, invoke, enter, Gave, Refused, TooHigh, Spent, ahead}
use Rattle.cal_ast.specs.Tree.{Tree, absent, present, nil, cons, ident, actor, unit, param, function, procedure, action, schedule, priority, while_stmt, foreach_stmt, block, if_expr, list, comp, index, binary}
use Rattle.cal_lexer.specs.Lexeme.{Lexeme, Placed, placed}
use Rattle.cal_grammar.specs.Token.{here, same_word}
use Rattle.cal_ast.specs.Places.{begins}
use Rattle.cal_grammar.specs.Operators.{level_of, binary_of, is_prefix, ends, group, onto, height}
use Rattle.cal_grammar.specs.Spells.{Mark, comma, dot, mark, Part, Spells, separated, rest, any, repeated, level, a_postfix, a_primary, a_gen, a_type, a_type_arg, a_var, some_vars, a_param, a_port, a_name, a_tag, a_place, a_stmt, otherwise, a_function, a_procedure, some_guards, some_repeat, a_body, an_in, an_out, an_action, a_move, a_schedule, a_chain, a_priority, a_member, members, a_unit_member, a_path, an_import, an_actor, a_unit, some_imports, a_file, an_expr, the_separated, the_last, the_more, the_none, the_some, the_end, the_again, the_binary, the_tighter, the_prefix, the_postfix, the_index, the_primary, the_number, the_true, the_false, the_variable, the_call, the_pair, the_if, the_list, the_comp, the_gen, the_type, the_type_with, the_shape_arg, the_value_arg, the_var, the_var_changing, the_var_constant, the_no_vars, the_vars, the_param, the_param_default, the_port, the_name, the_tag, the_place, the_assign, the_call_stmt, the_if_stmt, the_while, the_foreach, the_block, the_block_with, the_if_end, the_else, the_elsif, the_function, the_procedure, the_no_guards, the_guards, the_no_repeat, the_repeat, the_no_body, the_body, the_in, the_in_at, the_out, the_out_at, the_action, the_initialize, the_unlabelled, the_labelled, the_move, the_schedule, the_chain, the_priority, the_var_member, the_function_member, the_procedure_member, the_action_member, the_priority_member, the_no_members, the_member, the_schedule_member, the_unit_var, the_unit_function, the_path_name, the_path_all, the_path_on, the_import, the_actor, the_unit, the_actor_file, the_unit_file, the_file, the_package_file}
use Rattle.cal_grammar.specs.Rules.{part, chain, places, type_tail, var_tail, starts, on, expect, finish}
use Rattle.cal_grammar.proofs.Costs.{height-group_any, height-inside, height-with_tag, height-onto, height-import_at, height-with_package}
use Rattle.std.proofs.Common.{nat_le}
use Rattle.std.proofs.lemmas.Bool.{le-leb, eq-eqb}
use Rattle.cal_grammar.specs.Program.{exec, after}
use Rattle.cal_grammar.specs.Rules.{read, at_level, goes_on_tag, goes_on_type, starts_member, starts_stmt}
use Rattle.cal_grammar.proofs.Follow
use Rattle.cal_grammar.proofs.Reading.{read_is}
use Rattle.cal_grammar.proofs.Follow.{seen, may_follow, left, right, untrue, unseen, closed_follows, end_has, operator_follows, no_paren, no_equal, begins_with, postfix_begins, rest_has, vars_has, guards_has, repeat_has, body_has, otherwise_has, same_mark, path_begins, var_begins, name_is_member}
use Rattle.cal_grammar.proofs.Claims.{Claim, closes}

-- a height of at least 1 fits
fits : (h m : ℕ) → h ≤ m → nat_le h m ≡ true
fits h m less = le-leb h m less

-- lists

separated_claim : (m : ℕ) (v : Mark) (p : Part) (a b c : List Placed) (x xs : Tree) → Claim p m a b x → Spells (rest v p) b c xs → Claim (rest v p) m b c xs → Claim (separated v p) m a c (cons x xs)
separated_claim m v p a b c x xs hx spelled hs = record {
  it = λ f.
      let s1 : read m (part p) a ≡ Gave x b = closes hx (rest_has (may_follow p) true spelled (left _ _ f) (right _ _ (right _ _ f))) in
      let s2 : read m (part (rest v p)) b ≡ Gave xs c = closes hs f in
      rw (read_is m (part (separated v p)) a, s1, s2, exec) refl;
}

last_claim : (m : ℕ) (v : Mark) (p : Part) (a : List Placed) → Claim (rest v p) m a a nil
last_claim m v p a = record {
  it = λ f.
      let none : here (same_word (mark v)) (ahead a) ≡ false = unseen (same_word (mark v)) (ahead a) (untrue _ (left _ _ (right _ _ f))) in
      rw (read_is m (part (rest v p)) a, none, exec) refl;
}

more_claim : (m : ℕ) (v : Mark) (p : Part) (q : ℕ) (a b : List Placed) (xs : Tree) → Claim (separated v p) m a b xs → Claim (rest v p) m (placed (mark v) q ∷ a) b xs
more_claim m v p q a b xs hs = record {
  it = λ f.
      let s1 : read m (part (separated v p)) a ≡ Gave xs b = closes hs f in
      rw (read_is m (part (rest v p)) (placed (mark v) q ∷ a), same_mark v, s1, exec) refl;
}

none_claim : (m : ℕ) (v : Mark) (p : Part) (a : List Placed) → Claim (any v p) m a a nil
none_claim m v p a = record {
  it = λ f.
      let none : here (starts p) (ahead a) ≡ false = unseen (starts p) (ahead a) (untrue _ (left _ _ (right _ _ f))) in
      rw (read_is m (part (any v p)) a, none, exec) refl;
}

some_claim : (m : ℕ) (v : Mark) (p : Part) (a b : List Placed) (xs : Tree) → Spells (separated v p) a b xs → Claim (separated v p) m a b xs → Claim (any v p) m a b xs
some_claim m v p a b xs spelled hs = record {
  it = λ f.
      let one : here (starts p) (ahead a) ≡ true = begins_with spelled (left _ _ f) in
      let s1 : read m (part (separated v p)) a ≡ Gave xs b = closes hs (right _ _ (right _ _ f)) in
      rw (read_is m (part (any v p)) a, one, s1, exec) refl;
}

end_claim : (m : ℕ) (p : Part) (a : List Placed) → Claim (repeated p) m a a nil
end_claim m p a = record {
  it = λ f.
      let none : here (starts p) (ahead a) ≡ false = unseen (starts p) (ahead a) (untrue _ (left _ _ (right _ _ f))) in
      rw (read_is m (part (repeated p)) a, none, exec) refl;
}

again_claim : (m : ℕ) (p : Part) (a b c : List Placed) (x xs : Tree) → Spells p a b x → Claim p m a b x → Claim (repeated p) m b c xs → Claim (repeated p) m a c (cons x xs)
again_claim m p a b c x xs spelled hx hs = record {
  it = λ f.
      let one : here (starts p) (ahead a) ≡ true = begins_with spelled (left _ _ f) in
      let s1 : read m (part p) a ≡ Gave x b = closes hx (closed_follows p (seen (ahead b)) (right _ _ (right _ _ f))) in
      let s2 : read m (part (repeated p)) b ≡ Gave xs c = closes hs f in
      rw (read_is m (part (repeated p)) a, one, s1, s2, exec) refl;
}

-- expressions

binary_claim : (m n q : ℕ) (w : Lexeme) (a b c : List Placed) (x y : Tree) → suc (height x) ≤ m → Claim (level (suc n)) m a (placed w q ∷ b) x → level_of w ≡ suc n → Claim (level n) (m - 1) b c y → Claim (level (suc n)) m a c (binary (binary_of w) x y (begins x))
binary_claim m n q w a b c x y low hx e hy = record {
  it = λ f.
      let start : read m (part (level (suc n))) a ≡ read m (chain n x) (placed w q ∷ b) = hx.it (operator_follows w n e) in
      let here_is : at_level n w ≡ true = eq-eqb (level_of w) (suc n) e in
      let low_is : nat_le (suc (height x)) m ≡ true = fits (suc (height x)) m low in
      let s1 : read (m - 1) (part (level n)) b ≡ Gave y c = closes hy f in
      start ∙ rw (read_is m (chain n x) (placed w q ∷ b), here_is, low_is, s1, exec) refl;
}

index_claim : (m q r : ℕ) (a b c : List Placed) (x i : Tree) → suc (height x) ≤ m → Claim a_postfix m a (placed Lexeme.LeftBracket q ∷ b) x → Claim an_expr (m - 1) b (placed Lexeme.RightBracket r ∷ c) i → Claim a_postfix m a c (index x i (begins x))
index_claim m q r a b c x i low hx hi = record {
  it = λ f.
      let start : read m (part a_postfix) a ≡ read m (places x) (placed Lexeme.LeftBracket q ∷ b) = hx.it refl in
      let low_is : nat_le (suc (height x)) m ≡ true = fits (suc (height x)) m low in
      let s1 : read (m - 1) (part an_expr) b ≡ Gave i (placed Lexeme.RightBracket r ∷ c) = closes hi refl in
      start ∙ rw (read_is m (places x) (placed Lexeme.LeftBracket q ∷ b), low_is, s1, exec) refl;
}

-- members and statements: helpers

places_has : (g : Lexeme → Bool) (r : Bool) {a b : List Placed} {x : Tree} → Spells (repeated a_place) a b x → g Lexeme.LeftBracket ≡ r → g (seen (ahead b)) ≡ r → g (seen (ahead a)) ≡ r
places_has g r the_end e f = f
places_has g r (the_again (the_place h) i) e f = e

stmts_has : (g : Lexeme → Bool) (r : Bool) {a b : List Placed} {x : Tree} → Spells (repeated a_stmt) a b x → g (seen (ahead b)) ≡ r → g Lexeme.If ≡ r → g Lexeme.While ≡ r → g Lexeme.Foreach ≡ r → g Lexeme.Begin ≡ r → ((s : List ℕ) → g (Lexeme.Name s) ≡ r) → g (seen (ahead a)) ≡ r
stmts_has g r the_end f i w e b n = f
stmts_has g r (the_again (the_assign h j) t) f i w e b n = n _
stmts_has g r (the_again (the_call_stmt h) t) f i w e b n = n _
stmts_has g r (the_again (the_if_stmt h j k) t) f i w e b n = i
stmts_has g r (the_again (the_while h j k) t) f i w e b n = w
stmts_has g r (the_again (the_foreach h j k l o) t) f i w e b n = e
stmts_has g r (the_again (the_block h j) t) f i w e b n = b
stmts_has g r (the_again (the_block_with h j k) t) f i w e b n = b

body_follow : (k : Lexeme) → not (starts_stmt k) ≡ true → may_follow (repeated a_stmt) k ≡ true
body_follow k e = let none : starts_stmt k ≡ false = untrue _ e in rw none refl

member_begins : {a b : List Placed} {x : Tree} → Spells a_member a b x → here starts_member (ahead a) ≡ true
member_begins (the_var_member h) = name_is_member _ (begins_with h refl)
member_begins (the_function_member (the_function h i j k e)) = refl
member_begins (the_procedure_member (the_procedure h i j e)) = refl
member_begins (the_action_member (the_unlabelled (the_action h i j k l e))) = refl
member_begins (the_action_member (the_unlabelled (the_initialize i j k l e))) = refl
member_begins (the_action_member (the_labelled h i)) = name_is_member _ (begins_with h refl)
member_begins (the_priority_member (the_priority h e)) = refl

no_members_claim : (m : ℕ) (k : Bool) (a : List Placed) → Claim (members k) m a a nil
no_members_claim m true a = record {
  it = λ f.
      let none : here starts_member (ahead a) ≡ false = unseen starts_member (ahead a) (untrue _ (left _ _ f)) in
      let no_schedule : here (same_word Lexeme.Schedule) (ahead a) ≡ false = unseen (same_word Lexeme.Schedule) (ahead a) (untrue _ (right _ _ f)) in
      rw (read_is m (part (members true)) a, none, no_schedule, exec) refl;
}
no_members_claim m false a = record {
  it = λ f.
      let none : here starts_member (ahead a) ≡ false = unseen starts_member (ahead a) (untrue _ (left _ _ f)) in
      rw (read_is m (part (members false)) a, none, exec) refl;
}

after_after : (o : Outcome Placed Tree) (f g : Tree → List Placed → Outcome Placed Tree) → after o (λ x l. after (f x l) g) ≡ after (after o f) g
after_after (Gave x l) f g = refl
after_after (Refused l) f g = refl
after_after (TooHigh l) f g = refl
after_after Spent f g = refl

-- a variable among members, whose first name is taken before it is known what it begins
var_member_claim : (m : ℕ) (s : List ℕ) (q t : ℕ) (c b : List Placed) (x : Tree) → 1 ≤ m → here goes_on_tag (ahead c) ≡ false → here goes_on_type (ahead c) ≡ true → read m (part a_var) (placed (Lexeme.Name s) q ∷ c) ≡ Gave x (placed Lexeme.Semicolon t ∷ b) → Claim a_member m (placed (Lexeme.Name s) q ∷ c) b x
var_member_claim m s q t c b x low no_tag a_type_goes e = record {
  it = λ f.
      let one : nat_le 1 m ≡ true = fits 1 m low in
      let next : Tree → List Placed → Outcome Placed Tree = λ y l. exec read m (expect Lexeme.Semicolon (give y)) l in
      let tails : Tree → List Placed → Outcome Placed Tree = λ y l. read m (var_tail y) l in
      let opened : read m (part a_var) (placed (Lexeme.Name s) q ∷ c) ≡ after (read m (type_tail s q) c) tails = rw (read_is m (part a_var) (placed (Lexeme.Name s) q ∷ c), read_is m (part a_type) (placed (Lexeme.Name s) q ∷ c), one, exec) refl in
      let whole_is : read m (part a_member) (placed (Lexeme.Name s) q ∷ c) ≡ after (read m (type_tail s q) c) (λ y l. after (tails y l) next) = rw (read_is m (part a_member) (placed (Lexeme.Name s) q ∷ c), no_tag, a_type_goes, one, exec) refl in
      whole_is ∙ after_after (read m (type_tail s q) c) tails next ∙ ap (λ o. after o next) (sym opened ∙ e);
}

var_member_at : {a b : List Placed} {x : Tree} {t : ℕ} → Spells a_var a (placed Lexeme.Semicolon t ∷ b) x → (m : ℕ) → height x ≤ m → read m (part a_var) a ≡ Gave x (placed Lexeme.Semicolon t ∷ b) → Claim a_member m a b x
var_member_at {b = b} {x = x} {t = t} (the_var (the_type {s = s} {q = q} {a = c})) m low e = var_member_claim m s q t c b x (omega arith) refl refl e
var_member_at {b = b} {x = x} {t = t} (the_var (the_type_with {s = s} {q = q} {r = r} {a = c} h)) m low e = var_member_claim m s q t (placed Lexeme.LeftParen r ∷ c) b x (omega arith) refl refl e
var_member_at {b = b} {x = x} {t = t} (the_var_changing (the_type {s = s} {q = q} {a = c}) i) m low e = var_member_claim m s q t c b x (omega arith) refl refl e
var_member_at {b = b} {x = x} {t = t} (the_var_changing (the_type_with {s = s} {q = q} {r = r} {a = c} h) i) m low e = var_member_claim m s q t (placed Lexeme.LeftParen r ∷ c) b x (omega arith) refl refl e
var_member_at {b = b} {x = x} {t = t} (the_var_constant (the_type {s = s} {q = q} {a = c}) i) m low e = var_member_claim m s q t c b x (omega arith) refl refl e
var_member_at {b = b} {x = x} {t = t} (the_var_constant (the_type_with {s = s} {q = q} {r = r} {a = c} h) i) m low e = var_member_claim m s q t (placed Lexeme.LeftParen r ∷ c) b x (omega arith) refl refl e

imports_begin : {a b : List Placed} {x : Tree} → Spells some_imports a b x → here (same_word Lexeme.Package) (ahead a) ≡ false
imports_begin (the_actor_file the_end (the_actor i j k l e)) = refl
imports_begin (the_actor_file (the_again (the_import h) t) i) = refl
imports_begin (the_unit_file the_end (the_unit i e)) = refl
imports_begin (the_unit_file (the_again (the_import h) t) i) = refl

-- which parts have no height
abbrev flat_part : Part → Bool
flat_part (separated v p) = flat_part p
flat_part (rest v p) = flat_part p
flat_part (any v p) = flat_part p
flat_part (repeated p) = flat_part p
flat_part a_name = true
flat_part a_tag = true
flat_part a_move = true
flat_part a_chain = true
flat_part a_path = true
flat_part an_import = true
flat_part _ = false

flat : {p : Part} {a b : List Placed} {x : Tree} → Spells p a b x → flat_part p ≡ true → height x ≡ 0
flat (the_separated h t) f = omega (arith, flat h f, flat t f)
flat the_last f = refl
flat (the_more h) f = flat h f
flat the_none f = refl
flat (the_some h) f = flat h f
flat the_end f = refl
flat (the_again h t) f = omega (arith, flat h f, flat t f)
flat the_name f = refl
flat (the_tag h) f = refl
flat (the_move h) f = refl
flat (the_chain h t) f = omega (arith, flat h refl, flat t refl)
flat the_path_name f = refl
flat the_path_all f = refl
flat (the_path_on {s = s} {r = r} {x = x} h) f = height-onto (ident s r) x ∙ flat h refl
flat (the_import {s = s} {q = q} {r = r} {x = x} h) f = height-import_at q (onto (ident s r) x) ∙ height-onto (ident s r) x ∙ flat h refl
flat _ f = absurd cc

-- the end of a construct
finished : (m : ℕ) (v w : Lexeme) (q : ℕ) (b : List Placed) (x : Tree) → ends v w ≡ true → exec read m (finish v (give x)) (placed w q ∷ b) ≡ Gave x b
finished m v w q b x e = rw (e, exec) refl

-- whatever is spelled is read

pub complete : {p : Part} {a b : List Placed} {x : Tree} → Spells p a b x → (m : ℕ) → height x ≤ m → Claim p m a b x
complete (the_separated {v = v} {p = p} {a = a} {b = b} {c = c} {x = x} {xs = xs} h1 h2) m low = separated_claim m v p a b c x xs (complete h1 m (omega arith)) h2 (complete h2 m (omega arith))
complete (the_last {v = v} {p = p} {a = a}) m low = last_claim m v p a
complete (the_more {v = v} {p = p} {q = q} {a = a} {b = b} {xs = xs} h1) m low = more_claim m v p q a b xs (complete h1 m low)
complete (the_none {v = v} {p = p} {a = a}) m low = none_claim m v p a
complete (the_some {v = v} {p = p} {a = a} {b = b} {xs = xs} h1) m low = some_claim m v p a b xs h1 (complete h1 m low)
complete (the_end {p = p} {a = a}) m low = end_claim m p a
complete (the_again {p = p} {a = a} {b = b} {c = c} {x = x} {xs = xs} h1 h2) m low = again_claim m p a b c x xs h1 (complete h1 m (omega arith)) (complete h2 m (omega arith))
complete (the_binary {n = n} {q = q} {w = w} {a = a} {b = b} {c = c} {x = x} {y = y} h1 e2 h3) m low = binary_claim m n q w a b c x y (omega arith) (complete h1 m (omega arith)) e2 (complete h3 (m - 1) (omega arith))
complete (the_tighter {n = n} {a = a} {b = b} {x = x} h1) m low = record {
  it = λ f.
      let s1 = closes (complete h1 m (omega arith)) f in
      rw (read_is m (part (level (suc n))) a, s1, exec) refl;
}
complete (the_prefix {q = q} {w = w} {a = a} {b = b} {x = x} e1 h2) m low = record {
  it = λ f.
      let one : nat_le 1 m ≡ true = fits 1 m (omega arith) in
      let s2 = closes (complete h2 (m - 1) (omega arith)) f in
      rw (read_is m (part (level 0)) (placed w q ∷ a), e1, one, s2, exec) refl;
}
complete (the_postfix {a = a} {b = b} {x = x} h1) m low = record {
  it = λ f.
      let s1 = closes (complete h1 m (omega arith)) f in
      let none : here is_prefix (ahead a) ≡ false = postfix_begins h1 in
      rw (read_is m (part (level 0)) a, none, s1, exec) refl;
}
complete (the_index {q = q} {r = r} {a = a} {b = b} {c = c} {x = x} {i = i} h1 h2) m low = index_claim m q r a b c x i (omega arith) (complete h1 m (omega arith)) (complete h2 (m - 1) (omega arith))
complete (the_primary {a = a} {b = b} {x = x} h1) m low = record {
  it = λ f.
      let s1 = closes (complete h1 m (omega arith)) f in
      rw (read_is m (part a_postfix) a, s1, exec) refl;
}
complete (the_number {v = v} {q = q} {a = a}) m low = record {
  it = λ f.
      let one : nat_le 1 m ≡ true = fits 1 m (omega arith) in
      rw (read_is m (part a_primary) (placed (Lexeme.Number v) q ∷ a), one, exec) refl;
}
complete (the_true {q = q} {a = a}) m low = record {
  it = λ f.
      let one : nat_le 1 m ≡ true = fits 1 m (omega arith) in
      rw (read_is m (part a_primary) (placed Lexeme.True q ∷ a), one, exec) refl;
}
complete (the_false {q = q} {a = a}) m low = record {
  it = λ f.
      let one : nat_le 1 m ≡ true = fits 1 m (omega arith) in
      rw (read_is m (part a_primary) (placed Lexeme.False q ∷ a), one, exec) refl;
}
complete (the_variable {s = s} {q = q} {a = a}) m low = record {
  it = λ f.
      let one : nat_le 1 m ≡ true = fits 1 m (omega arith) in
      let none : here (same_word Lexeme.LeftParen) (ahead a) ≡ false = unseen (same_word Lexeme.LeftParen) (ahead a) (no_paren (seen (ahead a)) f) in
      rw (read_is m (part a_primary) (placed (Lexeme.Name s) q ∷ a), one, none, exec) refl;
}
complete (the_call {s = s} {q = q} {r = r} {t = t} {a = a} {b = b} {xs = xs} h1) m low = record {
  it = λ f.
      let one : nat_le 1 m ≡ true = fits 1 m (omega arith) in
      let s1 = closes (complete h1 (m - 1) (omega arith)) refl in
      rw (read_is m (part a_primary) (placed (Lexeme.Name s) q ∷ placed Lexeme.LeftParen r ∷ a), one, s1, exec) refl;
}
complete (the_pair {q = q} {r = r} {a = a} {b = b} {x = x} h1) m low = record {
  it = λ f.
      let s1 = closes (complete h1 m (omega (arith, height-inside q x))) refl in
      let fit : nat_le (height (group 0 x)) m ≡ true = fits (height (group 0 x)) m (omega (arith, height-group_any 0 q x)) in
      rw (read_is m (part a_primary) (placed Lexeme.LeftParen q ∷ a), s1, exec) (let last : exec read m (ask (here (same_word Lexeme.RightParen)) (check (height (group 0 x)) (take (λ u. give (group q x)))) fail) (placed Lexeme.RightParen r ∷ b) ≡ Gave (group q x) b = rw (fit, exec) refl in last);
}
complete (the_if {w = w} {q = q} {r = r} {s = s} {t = t} {a = a} {b = b} {c = c} {d = d} {x = x} {y = y} {z = z} h1 h2 h3 e4) m low = record {
  it = λ f.
      let one : nat_le 1 m ≡ true = fits 1 m (omega arith) in
      let s1 = closes (complete h1 (m - 1) (omega arith)) refl in
      let s2 = closes (complete h2 (m - 1) (omega arith)) refl in
      let s3 = closes (complete h3 (m - 1) (omega arith)) (end_has (may_follow an_expr) true Lexeme.If w e4 refl refl) in
      rw (read_is m (part a_primary) (placed Lexeme.If q ∷ a), one, s1, s2, s3, exec) (finished m Lexeme.If w t d (if_expr x y z q) e4);
}
complete (the_comp {q = q} {r = r} {s = s} {a = a} {b = b} {c = c} {x = x} {gs = gs} h1 h2) m low = record {
  it = λ f.
      let one : nat_le 1 m ≡ true = fits 1 m (omega arith) in
      let s1 = closes (complete h1 (m - 1) (omega arith)) refl in
      let s2 = closes (complete h2 (m - 1) (omega arith)) refl in
      rw (read_is m (part a_primary) (placed Lexeme.LeftBracket q ∷ a), one, s1, s2, exec) refl;
}
complete (the_gen {s = s} {q = q} {r = r} {t = t} {u = u} {a = a} {b = b} {c = c} {d = d} {shape = shape} {x = x} {y = y} h1 h2 h3) m low = record {
  it = λ f.
      let s1 = closes (complete h1 m (omega arith)) refl in
      let s2 = closes (complete h2 m (omega arith)) refl in
      let s3 = closes (complete h3 m (omega arith)) f in
      rw (read_is m (part a_gen) (placed Lexeme.For q ∷ a), s1, s2, s3, exec) refl;
}
complete (the_type {s = s} {q = q} {a = a}) m low = record {
  it = λ f.
      let one : nat_le 1 m ≡ true = fits 1 m (omega arith) in
      let none : here (same_word Lexeme.LeftParen) (ahead a) ≡ false = unseen (same_word Lexeme.LeftParen) (ahead a) (no_paren (seen (ahead a)) f) in
      rw (read_is m (part a_type) (placed (Lexeme.Name s) q ∷ a), one, read_is m (type_tail s q) a, none, exec) refl;
}
complete (the_type_with {s = s} {q = q} {r = r} {t = t} {a = a} {b = b} {xs = xs} h1) m low = record {
  it = λ f.
      let one : nat_le 1 m ≡ true = fits 1 m (omega arith) in
      let s1 = closes (complete h1 (m - 1) (omega arith)) refl in
      rw (read_is m (part a_type) (placed (Lexeme.Name s) q ∷ placed Lexeme.LeftParen r ∷ a), one, read_is m (type_tail s q) (placed Lexeme.LeftParen r ∷ a), s1, exec) refl;
}
complete (the_shape_arg {s = s} {q = q} {r = r} {a = a} {b = b} {x = x} h1) m low = record {
  it = λ f.
      let s1 = closes (complete h1 m (omega arith)) (Follow.looser_follows 0 11 (seen (ahead b)) (omega arith) f) in
      rw (read_is m (part a_type_arg) (placed (Lexeme.Name s) q ∷ placed Lexeme.Colon r ∷ a), s1, exec) refl;
}
complete (the_value_arg {s = s} {q = q} {r = r} {a = a} {b = b} {x = x} h1) m low = record {
  it = λ f.
      let s1 = closes (complete h1 m (omega arith)) f in
      rw (read_is m (part a_type_arg) (placed (Lexeme.Name s) q ∷ placed Lexeme.Equal r ∷ a), s1, exec) refl;
}
complete (the_var {s = s} {q = q} {a = a} {b = b} {shape = shape} h1) m low = record {
  it = λ f.
      let s1 = closes (complete h1 m (omega arith)) refl in
      let no_assign : here (same_word Lexeme.Assign) (ahead b) ≡ false = unseen (same_word Lexeme.Assign) (ahead b) (untrue _ (left _ _ f)) in
      let no_equals : here (same_word Lexeme.Equal) (ahead b) ≡ false = unseen (same_word Lexeme.Equal) (ahead b) (no_equal (seen (ahead b)) (right _ _ f)) in
      rw (read_is m (part a_var) a, s1, read_is m (var_tail shape) (placed (Lexeme.Name s) q ∷ b), no_assign, no_equals, exec) refl;
}
complete (the_var_changing {s = s} {q = q} {r = r} {a = a} {b = b} {c = c} {shape = shape} {x = x} h1 h2) m low = record {
  it = λ f.
      let s1 = closes (complete h1 m (omega arith)) refl in
      let s2 = closes (complete h2 m (omega arith)) (right _ _ f) in
      rw (read_is m (part a_var) a, s1, read_is m (var_tail shape) (placed (Lexeme.Name s) q ∷ placed Lexeme.Assign r ∷ b), s2, exec) refl;
}
complete (the_var_constant {s = s} {q = q} {r = r} {a = a} {b = b} {c = c} {shape = shape} {x = x} h1 h2) m low = record {
  it = λ f.
      let s1 = closes (complete h1 m (omega arith)) refl in
      let s2 = closes (complete h2 m (omega arith)) (right _ _ f) in
      rw (read_is m (part a_var) a, s1, read_is m (var_tail shape) (placed (Lexeme.Name s) q ∷ placed Lexeme.Equal r ∷ b), s2, exec) refl;
}
complete (the_no_vars {a = a}) m low = record {
  it = λ f.
      let none : here (same_word Lexeme.Var) (ahead a) ≡ false = unseen (same_word Lexeme.Var) (ahead a) (untrue _ (left _ _ f)) in
      rw (read_is m (part some_vars) a, none, exec) refl;
}
complete (the_vars {q = q} {a = a} {b = b} {xs = xs} h1) m low = record {
  it = λ f.
      let s1 = closes (complete h1 m (omega arith)) (right _ _ f) in
      rw (read_is m (part some_vars) (placed Lexeme.Var q ∷ a), s1, exec) refl;
}
complete (the_param {s = s} {q = q} {a = a} {b = b} {shape = shape} h1) m low = record {
  it = λ f.
      let s1 = closes (complete h1 m (omega arith)) refl in
      let no_equals : here (same_word Lexeme.Equal) (ahead b) ≡ false = unseen (same_word Lexeme.Equal) (ahead b) (no_equal (seen (ahead b)) f) in
      rw (read_is m (part a_param) a, s1, exec) (let last : exec read m (on Lexeme.Equal (invoke (part an_expr) (λ y. give (param shape (ident s q) (present y) (begins shape)))) (give (param shape (ident s q) absent (begins shape)))) b ≡ Gave (param shape (ident s q) absent (begins shape)) b = rw (no_equals, exec) refl in last);
}
complete (the_param_default {s = s} {q = q} {r = r} {a = a} {b = b} {c = c} {shape = shape} {x = x} h1 h2) m low = record {
  it = λ f.
      let s1 = closes (complete h1 m (omega arith)) refl in
      let s2 = closes (complete h2 m (omega arith)) f in
      rw (read_is m (part a_param) a, s1, s2, exec) refl;
}
complete (the_port {s = s} {q = q} {a = a} {b = b} {shape = shape} h1) m low = record {
  it = λ f.
      let s1 = closes (complete h1 m (omega arith)) refl in
      rw (read_is m (part a_port) a, s1, exec) refl;
}
complete (the_name {s = s} {q = q} {a = a}) m low = record {
  it = λ f.
      rw (read_is m (part a_name) (placed (Lexeme.Name s) q ∷ a), exec) refl;
}
complete (the_tag {a = a} {b = b} {xs = xs} h1) m low = record {
  it = λ f.
      let s1 = closes (complete h1 m (omega (arith, flat h1 refl))) f in
      rw (read_is m (part a_tag) a, s1, exec) refl;
}
complete (the_place {q = q} {r = r} {a = a} {b = b} {x = x} h1) m low = record {
  it = λ f.
      let s1 = closes (complete h1 m (omega arith)) refl in
      rw (read_is m (part a_place) (placed Lexeme.LeftBracket q ∷ a), s1, exec) refl;
}
complete (the_assign {s = s} {q = q} {r = r} {t = t} {a = a} {b = b} {c = c} {xs = xs} {x = x} h1 h2) m low = record {
  it = λ f.
      let one : nat_le 1 m ≡ true = fits 1 m (omega arith) in
      let s1 = closes (complete h1 (m - 1) (omega arith)) refl in
      let s2 = closes (complete h2 (m - 1) (omega arith)) refl in
      let none : here (same_word Lexeme.LeftParen) (ahead a) ≡ false = unseen (same_word Lexeme.LeftParen) (ahead a) (places_has (same_word Lexeme.LeftParen) false h1 refl refl) in
      rw (read_is m (part a_stmt) (placed (Lexeme.Name s) q ∷ a), one, none, s1, s2, exec) refl;
}
complete (the_call_stmt {s = s} {q = q} {r = r} {t = t} {u = u} {a = a} {b = b} {xs = xs} h1) m low = record {
  it = λ f.
      let one : nat_le 1 m ≡ true = fits 1 m (omega arith) in
      let s1 = closes (complete h1 (m - 1) (omega arith)) refl in
      rw (read_is m (part a_stmt) (placed (Lexeme.Name s) q ∷ placed Lexeme.LeftParen r ∷ a), one, s1, exec) refl;
}
complete (the_if_stmt {q = q} {r = r} {a = a} {b = b} {c = c} {d = d} {x = x} {ys = ys} {z = z} h1 h2 h3) m low = record {
  it = λ f.
      let one : nat_le 1 m ≡ true = fits 1 m (omega arith) in
      let s1 = closes (complete h1 (m - 1) (omega arith)) refl in
      let s2 = closes (complete h2 (m - 1) (omega arith)) (otherwise_has (may_follow (repeated a_stmt)) true h3 refl refl refl refl) in
      let s3 = closes (complete h3 (m - 1) (omega arith)) refl in
      rw (read_is m (part a_stmt) (placed Lexeme.If q ∷ a), one, s1, s2, s3, exec) refl;
}
complete (the_while {w = w} {q = q} {r = r} {t = t} {a = a} {b = b} {c = c} {x = x} {ys = ys} h1 h2 e3) m low = record {
  it = λ f.
      let one : nat_le 1 m ≡ true = fits 1 m (omega arith) in
      let s1 = closes (complete h1 (m - 1) (omega arith)) refl in
      let s2 = closes (complete h2 (m - 1) (omega arith)) (end_has (may_follow (repeated a_stmt)) true Lexeme.While w e3 refl refl) in
      rw (read_is m (part a_stmt) (placed Lexeme.While q ∷ a), one, s1, s2, exec) (finished m Lexeme.While w t c (while_stmt x ys q) e3);
}
complete (the_foreach {w = w} {s = s} {q = q} {r = r} {t = t} {u = u} {v = v} {o = o} {a = a} {b = b} {c = c} {d = d} {e = e} {shape = shape} {x = x} {y = y} {zs = zs} h1 h2 h3 h4 e5) m low = record {
  it = λ f.
      let one : nat_le 1 m ≡ true = fits 1 m (omega arith) in
      let s1 = closes (complete h1 (m - 1) (omega arith)) refl in
      let s2 = closes (complete h2 (m - 1) (omega arith)) refl in
      let s3 = closes (complete h3 (m - 1) (omega arith)) refl in
      let s4 = closes (complete h4 (m - 1) (omega arith)) (end_has (may_follow (repeated a_stmt)) true Lexeme.Foreach w e5 refl refl) in
      rw (read_is m (part a_stmt) (placed Lexeme.Foreach q ∷ a), one, s1, s2, s3, s4, exec) (finished m Lexeme.Foreach w o e (foreach_stmt shape (ident s r) x y zs q) e5);
}
complete (the_block {w = w} {q = q} {r = r} {a = a} {b = b} {ys = ys} h1 e2) m low = record {
  it = λ f.
      let one : nat_le 1 m ≡ true = fits 1 m (omega arith) in
      let s1 = closes (complete h1 (m - 1) (omega arith)) (end_has (may_follow (repeated a_stmt)) true Lexeme.Begin w e2 refl refl) in
      let none : here (same_word Lexeme.Var) (ahead a) ≡ false = unseen (same_word Lexeme.Var) (ahead a) (stmts_has (same_word Lexeme.Var) false h1 (end_has (same_word Lexeme.Var) false Lexeme.Begin w e2 refl refl) refl refl refl refl (λ s. refl)) in
      rw (read_is m (part a_stmt) (placed Lexeme.Begin q ∷ a), one, none, s1, exec) (finished m Lexeme.Begin w r b (block nil ys q) e2);
}
complete (the_block_with {w = w} {q = q} {r = r} {t = t} {u = u} {a = a} {b = b} {c = c} {xs = xs} {ys = ys} h1 h2 e3) m low = record {
  it = λ f.
      let one : nat_le 1 m ≡ true = fits 1 m (omega arith) in
      let s1 = closes (complete h1 (m - 1) (omega arith)) refl in
      let s2 = closes (complete h2 (m - 1) (omega arith)) (end_has (may_follow (repeated a_stmt)) true Lexeme.Begin w e3 refl refl) in
      rw (read_is m (part a_stmt) (placed Lexeme.Begin q ∷ placed Lexeme.Var r ∷ a), one, s1, s2, exec) (finished m Lexeme.Begin w u c (block xs ys q) e3);
}
complete (the_if_end {w = w} {q = q} {a = a} e1) m low = record {
  it = λ f.
      rw (read_is m (part otherwise) (placed w q ∷ a), e1, exec) refl;
}
complete (the_else {w = w} {q = q} {r = r} {a = a} {b = b} {ys = ys} h1 e2) m low = record {
  it = λ f.
      let s1 = closes (complete h1 m (omega arith)) (end_has (may_follow (repeated a_stmt)) true Lexeme.If w e2 refl refl) in
      rw (read_is m (part otherwise) (placed Lexeme.Else q ∷ a), s1, exec) (finished m Lexeme.If w r b (present ys) e2);
}
complete (the_elsif {q = q} {r = r} {a = a} {b = b} {c = c} {d = d} {x = x} {ys = ys} {z = z} h1 h2 h3) m low = record {
  it = λ f.
      let one : nat_le 1 m ≡ true = fits 1 m (omega arith) in
      let s1 = closes (complete h1 (m - 1) (omega arith)) refl in
      let s2 = closes (complete h2 (m - 1) (omega arith)) (otherwise_has (may_follow (repeated a_stmt)) true h3 refl refl refl refl) in
      let s3 = closes (complete h3 (m - 1) (omega arith)) refl in
      rw (read_is m (part otherwise) (placed Lexeme.Elsif q ∷ a), one, s1, s2, s3, exec) refl;
}
complete (the_function {w = w} {s = s} {q = q} {r = r} {t = t} {u = u} {v = v} {o = o} {i = i} {a = a} {b = b} {c = c} {d = d} {e = e} {xs = xs} {shape = shape} {vs = vs} {x = x} h1 h2 h3 h4 e5) m low = record {
  it = λ f.
      let s1 = closes (complete h1 m (omega arith)) refl in
      let s2 = closes (complete h2 m (omega arith)) (vars_has (may_follow a_type) true h3 refl refl) in
      let s3 = closes (complete h3 m (omega arith)) refl in
      let s4 = closes (complete h4 m (omega arith)) (end_has (may_follow an_expr) true Lexeme.Function w e5 refl refl) in
      rw (read_is m (part a_function) (placed Lexeme.Function q ∷ placed (Lexeme.Name s) r ∷ placed Lexeme.LeftParen t ∷ a), s1, s2, s3, s4, exec) (finished m Lexeme.Function w i e (function (ident s r) xs shape vs x q) e5);
}
complete (the_procedure {w = w} {s = s} {q = q} {r = r} {t = t} {u = u} {v = v} {o = o} {a = a} {b = b} {c = c} {d = d} {xs = xs} {vs = vs} {ys = ys} h1 h2 h3 e4) m low = record {
  it = λ f.
      let s1 = closes (complete h1 m (omega arith)) refl in
      let s2 = closes (complete h2 m (omega arith)) refl in
      let s3 = closes (complete h3 m (omega arith)) (end_has (may_follow (repeated a_stmt)) true Lexeme.Procedure w e4 refl refl) in
      rw (read_is m (part a_procedure) (placed Lexeme.Procedure q ∷ placed (Lexeme.Name s) r ∷ placed Lexeme.LeftParen t ∷ a), s1, s2, s3, exec) (finished m Lexeme.Procedure w o d (procedure (ident s r) xs vs ys q) e4);
}
complete (the_no_guards {a = a}) m low = record {
  it = λ f.
      let none : here (same_word Lexeme.Guard) (ahead a) ≡ false = unseen (same_word Lexeme.Guard) (ahead a) (untrue _ (left _ _ f)) in
      rw (read_is m (part some_guards) a, none, exec) refl;
}
complete (the_guards {q = q} {a = a} {b = b} {xs = xs} h1) m low = record {
  it = λ f.
      let s1 = closes (complete h1 m (omega arith)) (right _ _ f) in
      rw (read_is m (part some_guards) (placed Lexeme.Guard q ∷ a), s1, exec) refl;
}
complete (the_no_repeat {a = a}) m low = record {
  it = λ f.
      let none : here (same_word Lexeme.Repeat) (ahead a) ≡ false = unseen (same_word Lexeme.Repeat) (ahead a) (untrue _ (left _ _ f)) in
      rw (read_is m (part some_repeat) a, none, exec) refl;
}
complete (the_repeat {q = q} {a = a} {b = b} {x = x} h1) m low = record {
  it = λ f.
      let s1 = closes (complete h1 m (omega arith)) (right _ _ f) in
      rw (read_is m (part some_repeat) (placed Lexeme.Repeat q ∷ a), s1, exec) refl;
}
complete (the_no_body {a = a}) m low = record {
  it = λ f.
      let none : here (same_word Lexeme.Do) (ahead a) ≡ false = unseen (same_word Lexeme.Do) (ahead a) (untrue _ (left _ _ f)) in
      rw (read_is m (part a_body) a, none, exec) refl;
}
complete (the_body {q = q} {a = a} {b = b} {ys = ys} h1) m low = record {
  it = λ f.
      let s1 = closes (complete h1 m (omega arith)) (body_follow (seen (ahead b)) (right _ _ f)) in
      rw (read_is m (part a_body) (placed Lexeme.Do q ∷ a), s1, exec) refl;
}
complete (the_in {q = q} {r = r} {a = a} {b = b} {c = c} {xs = xs} {x = x} h1 h2) m low = record {
  it = λ f.
      let s1 = closes (complete h1 m (omega (arith, flat h1 refl))) refl in
      let s2 = closes (complete h2 m (omega arith)) f in
      rw (read_is m (part an_in) (placed Lexeme.LeftBracket q ∷ a), s1, s2, exec) refl;
}
complete (the_in_at {s = s} {q = q} {r = r} {t = t} {u = u} {a = a} {b = b} {c = c} {xs = xs} {x = x} h1 h2) m low = record {
  it = λ f.
      let s1 = closes (complete h1 m (omega (arith, flat h1 refl))) refl in
      let s2 = closes (complete h2 m (omega arith)) f in
      rw (read_is m (part an_in) (placed (Lexeme.Name s) q ∷ placed Lexeme.Colon r ∷ placed Lexeme.LeftBracket t ∷ a), s1, s2, exec) refl;
}
complete (the_out {q = q} {r = r} {a = a} {b = b} {c = c} {xs = xs} {x = x} h1 h2) m low = record {
  it = λ f.
      let s1 = closes (complete h1 m (omega arith)) refl in
      let s2 = closes (complete h2 m (omega arith)) f in
      rw (read_is m (part an_out) (placed Lexeme.LeftBracket q ∷ a), s1, s2, exec) refl;
}
complete (the_out_at {s = s} {q = q} {r = r} {t = t} {u = u} {a = a} {b = b} {c = c} {xs = xs} {x = x} h1 h2) m low = record {
  it = λ f.
      let s1 = closes (complete h1 m (omega arith)) refl in
      let s2 = closes (complete h2 m (omega arith)) f in
      rw (read_is m (part an_out) (placed (Lexeme.Name s) q ∷ placed Lexeme.Colon r ∷ placed Lexeme.LeftBracket t ∷ a), s1, s2, exec) refl;
}
complete (the_action {w = w} {q = q} {r = r} {t = t} {a = a} {b = b} {c = c} {d = d} {e = e} {g = g} {ins = ins} {outs = outs} {gs = gs} {vs = vs} {x = x} h1 h2 h3 h4 h5 e6) m low = record {
  it = λ f.
      let s1 = closes (complete h1 m (omega arith)) refl in
      let s2 = closes (complete h2 m (omega arith)) (guards_has (may_follow (any comma an_out)) true h3 refl (vars_has (may_follow (any comma an_out)) true h4 refl (body_has (may_follow (any comma an_out)) true h5 refl (end_has (may_follow (any comma an_out)) true Lexeme.Action w e6 refl refl)))) in
      let s3 = closes (complete h3 m (omega arith)) (vars_has (may_follow some_guards) true h4 refl (body_has (may_follow some_guards) true h5 refl (end_has (may_follow some_guards) true Lexeme.Action w e6 refl refl))) in
      let s4 = closes (complete h4 m (omega arith)) (body_has (may_follow some_vars) true h5 refl (end_has (may_follow some_vars) true Lexeme.Action w e6 refl refl)) in
      let s5 = closes (complete h5 m (omega arith)) (end_has (may_follow a_body) true Lexeme.Action w e6 refl refl) in
      rw (read_is m (part an_action) (placed Lexeme.Action q ∷ a), s1, s2, s3, s4, s5, exec) (finished m Lexeme.Action w t g (action absent false ins outs gs vs x q) e6);
}
complete (the_initialize {w = w} {q = q} {r = r} {t = t} {b = b} {c = c} {d = d} {e = e} {g = g} {outs = outs} {gs = gs} {vs = vs} {x = x} h1 h2 h3 h4 e5) m low = record {
  it = λ f.
      let s1 = closes (complete h1 m (omega arith)) (guards_has (may_follow (any comma an_out)) true h2 refl (vars_has (may_follow (any comma an_out)) true h3 refl (body_has (may_follow (any comma an_out)) true h4 refl (end_has (may_follow (any comma an_out)) true Lexeme.Initialize w e5 refl refl)))) in
      let s2 = closes (complete h2 m (omega arith)) (vars_has (may_follow some_guards) true h3 refl (body_has (may_follow some_guards) true h4 refl (end_has (may_follow some_guards) true Lexeme.Initialize w e5 refl refl))) in
      let s3 = closes (complete h3 m (omega arith)) (body_has (may_follow some_vars) true h4 refl (end_has (may_follow some_vars) true Lexeme.Initialize w e5 refl refl)) in
      let s4 = closes (complete h4 m (omega arith)) (end_has (may_follow a_body) true Lexeme.Initialize w e5 refl refl) in
      rw (read_is m (part an_action) (placed Lexeme.Initialize q ∷ placed Lexeme.LongDoubleArrow r ∷ b), s1, s2, s3, s4, exec) (finished m Lexeme.Initialize w t g (action absent true nil outs gs vs x q) e5);
}
complete (the_move {s = s} {i = i} {q = q} {r = r} {t = t} {u = u} {v = v} {o = o} {a = a} {b = b} {xs = xs} h1) m low = record {
  it = λ f.
      let s1 = closes (complete h1 m (omega (arith, flat h1 refl))) refl in
      rw (read_is m (part a_move) (placed (Lexeme.Name s) q ∷ placed Lexeme.LeftParen r ∷ a), s1, exec) refl;
}
complete (the_schedule {w = w} {s = s} {q = q} {r = r} {t = t} {u = u} {v = v} {a = a} {b = b} {xs = xs} h1 e2) m low = record {
  it = λ f.
      let s1 = closes (complete h1 m (omega (arith, flat h1 refl))) (end_has (may_follow (repeated a_move)) true Lexeme.Schedule w e2 refl refl) in
      rw (read_is m (part a_schedule) (placed Lexeme.Schedule q ∷ placed Lexeme.Fsm r ∷ placed (Lexeme.Name s) t ∷ placed Lexeme.Colon u ∷ a), s1, exec) (finished m Lexeme.Schedule w v b (schedule (ident s t) xs q) e2);
}
complete (the_chain {q = q} {r = r} {a = a} {b = b} {c = c} {x = x} {xs = xs} h1 h2) m low = record {
  it = λ f.
      let s1 = closes (complete h1 m (omega arith)) refl in
      let s2 = closes (complete h2 m (omega arith)) refl in
      rw (read_is m (part a_chain) a, s1, s2, exec) refl;
}
complete (the_priority {w = w} {q = q} {r = r} {a = a} {b = b} {xs = xs} h1 e2) m low = record {
  it = λ f.
      let s1 = closes (complete h1 m (omega (arith, flat h1 refl))) (end_has (may_follow (repeated a_chain)) true Lexeme.Priority w e2 refl refl) in
      rw (read_is m (part a_priority) (placed Lexeme.Priority q ∷ a), s1, exec) (finished m Lexeme.Priority w r b (priority xs q) e2);
}
complete (the_no_members {k = k} {a = a}) m low = no_members_claim m k a
complete (the_member {k = k} {a = a} {b = b} {c = c} {x = x} {xs = xs} h1 h2) m low = record {
  it = λ f.
      let s1 = closes (complete h1 m (omega arith)) refl in
      let s2 = closes (complete h2 m (omega arith)) f in
      let one_here : here starts_member (ahead a) ≡ true = member_begins h1 in
      rw (read_is m (part (members k)) a, one_here, s1, s2, exec) refl;
}
complete (the_unit_var {q = q} {a = a} {b = b} {x = x} h1) m low = record {
  it = λ f.
      let s1 = closes (complete h1 m (omega arith)) refl in
      let none : here (same_word Lexeme.Function) (ahead a) ≡ false = var_begins h1 (same_word Lexeme.Function) (λ s. refl) in
      rw (read_is m (part a_unit_member) a, none, s1, exec) refl;
}
complete (the_path_name {s = s} {q = q} {r = r} {a = a}) m low = record {
  it = λ f.
      let none : here (same_word Lexeme.Dot) (ahead a) ≡ false = unseen (same_word Lexeme.Dot) (ahead a) (untrue _ f) in
      rw (read_is m (part a_path) (placed Lexeme.Dot q ∷ placed (Lexeme.Name s) r ∷ a), none, exec) refl;
}
complete (the_path_all {q = q} {r = r} {a = a}) m low = record {
  it = λ f.
      rw (read_is m (part a_path) (placed Lexeme.Dot q ∷ placed Lexeme.Star r ∷ a), exec) refl;
}
complete (the_path_on {s = s} {q = q} {r = r} {a = a} {b = b} {x = x} h1) m low = record {
  it = λ f.
      let s1 = closes (complete h1 m (omega (arith, height-onto (ident s r) x))) f in
      let some_dot : here (same_word Lexeme.Dot) (ahead a) ≡ true = path_begins h1 in
      rw (read_is m (part a_path) (placed Lexeme.Dot q ∷ placed (Lexeme.Name s) r ∷ a), some_dot, s1, exec) refl;
}
complete (the_import {s = s} {q = q} {r = r} {t = t} {a = a} {b = b} {x = x} h1) m low = record {
  it = λ f.
      let s1 = closes (complete h1 m (omega (arith, height-onto (ident s r) x, height-import_at q (onto (ident s r) x)))) refl in
      rw (read_is m (part an_import) (placed Lexeme.Import q ∷ placed (Lexeme.Name s) r ∷ a), s1, exec) refl;
}
complete (the_actor {w = w} {s = s} {q = q} {r = r} {t = t} {u = u} {v = v} {o = o} {i = i} {a = a} {b = b} {c = c} {d = d} {e = e} {ps = ps} {ins = ins} {outs = outs} {ms = ms} h1 h2 h3 h4 e5) m low = record {
  it = λ f.
      let s1 = closes (complete h1 m (omega arith)) refl in
      let s2 = closes (complete h2 m (omega arith)) refl in
      let s3 = closes (complete h3 m (omega arith)) refl in
      let s4 = closes (complete h4 m (omega arith)) (end_has (may_follow (members true)) true Lexeme.Actor w e5 refl refl) in
      rw (read_is m (part an_actor) (placed Lexeme.Actor q ∷ placed (Lexeme.Name s) r ∷ placed Lexeme.LeftParen t ∷ a), s1, s2, s3, s4, exec) (finished m Lexeme.Actor w i e (actor (ident s r) ps ins outs ms q) e5);
}
complete (the_unit {w = w} {s = s} {q = q} {r = r} {t = t} {u = u} {a = a} {b = b} {ms = ms} h1 e2) m low = record {
  it = λ f.
      let s1 = closes (complete h1 m (omega arith)) (end_has (may_follow (repeated a_unit_member)) true Lexeme.Unit w e2 refl refl) in
      rw (read_is m (part a_unit) (placed Lexeme.Unit q ∷ placed (Lexeme.Name s) r ∷ placed Lexeme.Colon t ∷ a), s1, exec) (finished m Lexeme.Unit w u b (unit (ident s r) ms q) e2);
}
complete (the_package_file {q = q} {r = r} {a = a} {b = b} {c = c} {t = t} {x = x} h1 h2) m low = record {
  it = λ f.
      let s1 = closes (complete h1 m (omega (arith, flat h1 refl))) refl in
      let s2 = closes (complete h2 m (omega (arith, height-with_package q t x))) refl in
      rw (read_is m (part a_file) (placed Lexeme.Package q ∷ a), s1, s2, exec) refl;
}
complete (the_list {q = q} {r = r} {a = a} {b = b} (the_separated {b = c} {x = x} {xs = xs} h1 h2)) m low = record {
  it = λ f.
      let one : nat_le 1 m ≡ true = fits 1 m (omega arith) in
      let s1 = closes (complete h1 (m - 1) (omega arith)) (rest_has (may_follow an_expr) true h2 refl refl) in
      let none : here (same_word Lexeme.Colon) (ahead c) ≡ false = unseen (same_word Lexeme.Colon) (ahead c) (rest_has (same_word Lexeme.Colon) false h2 refl refl) in
      let s2 = closes (complete h2 (m - 1) (omega arith)) refl in
      let last : exec read m (on Lexeme.Colon (enter (part (separated comma a_gen)) (λ gs. expect Lexeme.RightBracket (give (comp x gs q)))) (enter (part (rest comma an_expr)) (λ ys. expect Lexeme.RightBracket (give (list (cons x ys) q))))) c ≡ Gave (list (cons x xs) q) b = rw (none, s2, exec) refl in
      rw (read_is m (part a_primary) (placed Lexeme.LeftBracket q ∷ a), one, s1, exec) last;
}
complete (the_unlabelled (the_action {q = q} {a = a} h1 h2 h3 h4 h5 e)) m low = record {
  it =
      let s = (complete (the_action {q = q} h1 h2 h3 h4 h5 e) m low).it refl in
      rw (read_is m (part a_member) (placed Lexeme.Action q ∷ a), s, exec) refl;
}
complete (the_unlabelled (the_initialize {q = q} {r = r} {b = a} h2 h3 h4 h5 e)) m low = record {
  it =
      let s = (complete (the_initialize {q = q} {r = r} h2 h3 h4 h5 e) m low).it refl in
      rw (read_is m (part a_member) (placed Lexeme.Initialize q ∷ placed Lexeme.LongDoubleArrow r ∷ a), s, exec) refl;
}
complete (the_labelled {r = r} {b = b} {t = t} {x = x} (the_tag (the_separated (the_name {s = s} {q = q}) the_last)) h2) m low = record {
  it =
      let s1 = closes (last_claim m dot a_name (placed Lexeme.Colon r ∷ b)) refl in
      let s2 = closes (complete h2 m (omega (arith, height-with_tag t x))) refl in
      rw (read_is m (part a_member) (placed (Lexeme.Name s) q ∷ placed Lexeme.Colon r ∷ b), s1, s2, exec) refl;
}
complete (the_labelled {r = r} {b = b} {t = t} {x = x} (the_tag (the_separated (the_name {s = s} {q = q}) (the_more {q = q2} {a = a2} {xs = xs} h3))) h2) m low = record {
  it =
      let s1 = closes (more_claim m dot a_name q2 a2 (placed Lexeme.Colon r ∷ b) xs (complete h3 m (omega (arith, flat h3 refl)))) refl in
      let s2 = closes (complete h2 m (omega (arith, height-with_tag t x))) refl in
      rw (read_is m (part a_member) (placed (Lexeme.Name s) q ∷ placed Lexeme.Dot q2 ∷ a2), s1, s2, exec) refl;
}
complete (the_var_member {q = t} {b = b} {x = x} h) m low = var_member_at h m low (closes (complete h m low) refl)
complete (the_function_member (the_function {s = s} {q = q} {r = r} {t = t} {a = a} h i j k e)) m low = record {
  it = λ f.
      let s1 = closes (complete (the_function {s = s} {q = q} {r = r} {t = t} h i j k e) m low) refl in
      rw (read_is m (part a_member) (placed Lexeme.Function q ∷ placed (Lexeme.Name s) r ∷ placed Lexeme.LeftParen t ∷ a), s1, exec) refl;
}
complete (the_procedure_member (the_procedure {s = s} {q = q} {r = r} {t = t} {a = a} h i j e)) m low = record {
  it = λ f.
      let s1 = closes (complete (the_procedure {s = s} {q = q} {r = r} {t = t} h i j e) m low) refl in
      rw (read_is m (part a_member) (placed Lexeme.Procedure q ∷ placed (Lexeme.Name s) r ∷ placed Lexeme.LeftParen t ∷ a), s1, exec) refl;
}
complete (the_action_member h) m low = record { it = λ f. (complete h m low).it }
complete (the_priority_member (the_priority {q = q} {a = a} h e)) m low = record {
  it = λ f.
      let s1 = closes (complete (the_priority {q = q} h e) m low) refl in
      rw (read_is m (part a_member) (placed Lexeme.Priority q ∷ a), s1, exec) refl;
}
complete (the_schedule_member {b = b} (the_schedule {s = s} {q = q} {r = r} {t = t} {u = u} {a = a} h e) h2) m low = record {
  it = λ f.
      let s1 = closes (complete (the_schedule {s = s} {q = q} {r = r} {t = t} {u = u} h e) m (omega arith)) refl in
      let s2 = closes (complete h2 m (omega arith)) f in
      rw (read_is m (part (members true)) (placed Lexeme.Schedule q ∷ placed Lexeme.Fsm r ∷ placed (Lexeme.Name s) t ∷ placed Lexeme.Colon u ∷ a), s1, s2, exec) refl;
}
complete (the_unit_function (the_function {s = s} {q = q} {r = r} {t = t} {a = a} h i j k e)) m low = record {
  it = λ f.
      let s1 = closes (complete (the_function {s = s} {q = q} {r = r} {t = t} h i j k e) m low) refl in
      rw (read_is m (part a_unit_member) (placed Lexeme.Function q ∷ placed (Lexeme.Name s) r ∷ placed Lexeme.LeftParen t ∷ a), s1, exec) refl;
}
complete (the_actor_file {a = a} {xs = xs} h1 (the_actor {s = s} {q = q} {r = r} {t = t} {a = b} i j k l e)) m low = record {
  it = λ f.
      let s1 = closes (complete h1 m (omega (arith, flat h1 refl))) refl in
      let s2 = closes (complete (the_actor {s = s} {q = q} {r = r} {t = t} i j k l e) m low) refl in
      rw (read_is m (part some_imports) a, s1, s2, exec) refl;
}
complete (the_unit_file {a = a} {xs = xs} h1 (the_unit {s = s} {q = q} {r = r} {t = t} {a = b} i e)) m low = record {
  it = λ f.
      let s1 = closes (complete h1 m (omega (arith, flat h1 refl))) refl in
      let s2 = closes (complete (the_unit {s = s} {q = q} {r = r} {t = t} i e) m low) refl in
      rw (read_is m (part some_imports) a, s1, s2, exec) refl;
}
complete (the_file {a = a} h) m low = record {
  it = λ f.
      let none : here (same_word Lexeme.Package) (ahead a) ≡ false = imports_begin h in
      let s1 = closes (complete h m low) refl in
      rw (read_is m (part a_file) a, none, s1, exec) refl;
}
