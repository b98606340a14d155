-- The words of a tree as a part of the grammar.
use Rattle.std.proofs.Common.{◌≡◌, Bool, true, false, List, [], ◌∷◌, ◌++◌, if◌then◌else◌, nat_eq, refl, sym, ap, ◌∙◌}
use Rattle.std.proofs.lemmas.List.{append_assoc}
use Rattle.cal_ast.specs.Tree.{Tree, absent, cons, ident, import_part, file, var, action}
use Rattle.cal_lexer.specs.Lexeme.{Lexeme, Placed}
use Rattle.cal_grammar.specs.Operators.{loosest, with_tag, onto}
use Rattle.cal_grammar.specs.Spells.{Mark, mark, Part, Spells, separated, rest, any, repeated, level, a_postfix, a_primary, a_var, some_vars, a_place, otherwise, a_function, a_procedure, some_guards, some_repeat, a_body, an_action, a_labelled, a_schedule, a_chain, a_priority, a_member, members, a_unit_member, a_path, the_separated, the_end, the_again, the_var, the_var_changing, the_var_constant, the_function, the_procedure, the_action, the_initialize, the_unlabelled, the_labelled, the_schedule, the_priority, some_imports, the_path_name, the_path_all, the_path_on, the_actor_file, the_unit_file}
use Rattle.cal_print.specs.Tokens.{words, is_loose, paired, where_any, joined, following, each_place, each_chain, each_member, dotted, last_name, under}

-- the parts of a list, with a mark between them, before each, or none
abbrev mutual
  pub joined_by : (Tree → List Lexeme) → Lexeme → Tree → List Lexeme
  joined_by f m (cons x xs) = f x ++ following_by f m xs
  joined_by f m _ = []

  pub following_by : (Tree → List Lexeme) → Lexeme → Tree → List Lexeme
  following_by f m (cons x xs) = m ∷ f x ++ following_by f m xs
  following_by f m _ = []

abbrev pub each_by : (Tree → List Lexeme) → Tree → List Lexeme
each_by f (cons x xs) = f x ++ each_by f xs
each_by f _ = []

-- a member, a variable with a `;` behind it
abbrev pub member_words : Tree → List Lexeme
member_words (var shape name start changes at) = words (var shape name start changes at) ++ (Lexeme.Semicolon ∷ [])
member_words x = words x

-- what follows the first name of an import, up to the `;`
abbrev pub path_words : Tree → List Lexeme
path_words (import_part path end at) = Lexeme.Dot ∷ dotted path ++ last_name end
path_words _ = []

-- the words of a tree as this part
abbrev pub said : Part → Tree → List Lexeme
said (separated v p) x = joined_by (said p) (mark v) x
said (rest v p) x = following_by (said p) (mark v) x
said (any v p) x = joined_by (said p) (mark v) x
said (repeated p) x = each_by (said p) x
said (level n) x = if nat_eq n loosest then words x else paired (is_loose x) (words x)
said a_postfix x = paired (is_loose x) (words x)
said a_primary x = paired (is_loose x) (words x)
said some_vars x = where_any x (Lexeme.Var ∷ joined Lexeme.Comma x)
said a_place x = Lexeme.LeftBracket ∷ words x ++ (Lexeme.RightBracket ∷ [])
said otherwise x = under Lexeme.Else x ++ (Lexeme.End ∷ [])
said some_guards x = where_any x (Lexeme.Guard ∷ joined Lexeme.Comma x)
said some_repeat x = under Lexeme.Repeat x
said a_body x = under Lexeme.Do x
said a_chain x = joined Lexeme.Greater x ++ (Lexeme.Semicolon ∷ [])
said a_member x = member_words x
said (members k) x = each_member x
said a_unit_member x = member_words x
said a_path x = path_words x
said _ x = words x

-- lists of parts that are said by their words

mutual
  joined-by : (m : Lexeme) (f : Tree → List Lexeme) → ((x : Tree) → f x ≡ words x) → (xs : Tree) → joined_by f m xs ≡ joined m xs
  joined-by m f e (cons x xs) = rw (e x, following-by m f e xs) refl
  joined-by m f e _ = refl

  following-by : (m : Lexeme) (f : Tree → List Lexeme) → ((x : Tree) → f x ≡ words x) → (xs : Tree) → following_by f m xs ≡ following m xs
  following-by m f e (cons x xs) = rw (e x, following-by m f e xs) refl
  following-by m f e _ = refl

pub said_joined : (v : Mark) (p : Part) → ((x : Tree) → said p x ≡ words x) → (xs : Tree) → joined_by (said p) (mark v) xs ≡ joined (mark v) xs
said_joined v p e xs = joined-by (mark v) (said p) e xs

pub said_each : {p : Part} {a b : List Placed} {xs : Tree} → Spells (repeated p) a b xs → ((x : Tree) → said p x ≡ words x) → each_by (said p) xs ≡ words xs
said_each the_end e = refl
said_each {p = p} (the_again {x = x} {xs = xs} h t) e = rw (e x, said_each {p = p} t e) refl

pub said_places : (xs : Tree) → each_by (said a_place) xs ≡ each_place xs
said_places (cons x xs) = rw (append_assoc (words x) (Lexeme.RightBracket ∷ []) (each_by (said a_place) xs), said_places xs) refl
said_places _ = refl

pub said_chains : (xs : Tree) → each_by (said a_chain) xs ≡ each_chain xs
said_chains (cons x xs) = rw (append_assoc (joined Lexeme.Greater x) (Lexeme.Semicolon ∷ []) (each_by (said a_chain) xs), said_chains xs) refl
said_chains _ = refl

-- a list that has parts

pub some_of : {v : Mark} {p : Part} {a b : List Placed} {xs : Tree} (ws : List Lexeme) → Spells (separated v p) a b xs → where_any xs ws ≡ ws
some_of ws (the_separated h t) = refl

pub following_of : {v : Mark} {p : Part} {a b : List Placed} {xs : Tree} (m : Lexeme) → Spells (separated v p) a b xs → following m xs ≡ m ∷ joined m xs
following_of m (the_separated h t) = refl

-- members

abbrev pub is_var : Tree → Bool
is_var (var shape name start changes at) = true
is_var _ = false

member-step : (x xs : Tree) → each_member (cons x xs) ≡ member_words x ++ each_member xs
member-step (var shape name start changes at) xs = sym (append_assoc (words (var shape name start changes at)) (Lexeme.Semicolon ∷ []) (each_member xs))
member-step _ xs = refl

pub said_member : (x xs : Tree) → member_words x ++ each_member xs ≡ each_member (cons x xs)
said_member x xs = sym (member-step x xs)

pub said_units : (xs : Tree) → each_by (said a_unit_member) xs ≡ each_member xs
said_units (cons x xs) = ap (λ ws. member_words x ++ ws) (said_units xs) ∙ said_member x xs
said_units absent = refl
said_units _ = refl

var-words : (x : Tree) → is_var x ≡ true → words x ++ (Lexeme.Semicolon ∷ []) ≡ member_words x
var-words (var shape name start changes at) e = refl
var-words _ e = absurd cc

other-words : (x : Tree) → is_var x ≡ false → words x ≡ member_words x
other-words (var shape name start changes at) e = absurd cc
other-words _ e = refl

-- a variable as a member

a_var_is : {a b : List Placed} {x : Tree} → Spells a_var a b x → is_var x ≡ true
a_var_is (the_var h) = refl
a_var_is (the_var_changing h i) = refl
a_var_is (the_var_constant h i) = refl

pub said_var : {a b : List Placed} {x : Tree} → Spells a_var a b x → words x ++ (Lexeme.Semicolon ∷ []) ≡ member_words x
said_var {x = x} h = var-words x (a_var_is h)

pub said_function : {a b : List Placed} {x : Tree} → Spells a_function a b x → words x ≡ member_words x
said_function (the_function h i j k e) = refl

pub said_procedure : {a b : List Placed} {x : Tree} → Spells a_procedure a b x → words x ≡ member_words x
said_procedure (the_procedure h i j e) = refl

pub said_priority : {a b : List Placed} {x : Tree} → Spells a_priority a b x → words x ≡ member_words x
said_priority (the_priority h e) = refl

pub said_schedule : {a b : List Placed} {x : Tree} → Spells a_schedule a b x → words x ≡ member_words x
said_schedule (the_schedule h e) = refl

tagged-var : (t x : Tree) → is_var x ≡ false → is_var (with_tag t x) ≡ false
tagged-var t (action none initialize patterns outputs guards vars body at) e = refl
tagged-var t _ e = e

an_action_is : {a b : List Placed} {x : Tree} → Spells an_action a b x → is_var x ≡ false
an_action_is (the_action h i j k l e) = refl
an_action_is (the_initialize h i j k e) = refl

labelled_is : {a b : List Placed} {x : Tree} → Spells a_labelled a b x → is_var x ≡ false
labelled_is (the_unlabelled h) = an_action_is h
labelled_is (the_labelled {t = t} {x = x} h i) = tagged-var t x (an_action_is i)

pub said_labelled : {a b : List Placed} {x : Tree} → Spells a_labelled a b x → words x ≡ member_words x
said_labelled {x = x} h = other-words x (labelled_is h)

-- shapes

abbrev pub is_untagged : Tree → Bool
is_untagged (action absent initialize patterns outputs guards vars body at) = true
is_untagged _ = false

pub untagged : {a b : List Placed} {x : Tree} → Spells an_action a b x → is_untagged x ≡ true
untagged (the_action h i j k l e) = refl
untagged (the_initialize h i j k e) = refl

abbrev pub is_import : Tree → Bool
is_import (import_part path end at) = true
is_import _ = false

onto-import : (first x : Tree) → is_import x ≡ true → is_import (onto first x) ≡ true
onto-import first (import_part path end at) e = refl
onto-import first _ e = absurd cc

pub path_is : {a b : List Placed} {x : Tree} → Spells a_path a b x → is_import x ≡ true
path_is the_path_name = refl
path_is the_path_all = refl
path_is (the_path_on {s = s} {r = r} {x = x} h) = onto-import (ident s r) x (path_is h)

abbrev pub is_unpackaged : Tree → Bool
is_unpackaged (file absent imports body at) = true
is_unpackaged _ = false

pub unpackaged : {a b : List Placed} {x : Tree} → Spells some_imports a b x → is_unpackaged x ≡ true
unpackaged (the_actor_file h i) = refl
unpackaged (the_unit_file h i) = refl
