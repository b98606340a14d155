-- Files: if the words of their parts spell them, theirs do.
use Rattle.std.proofs.Common.{◌≡◌, ℕ, true, List, [], ◌∷◌, ◌++◌, refl}
use Rattle.cal_ast.specs.Tree.{Tree, absent, present, nil, cons, ident, import_part, file, actor, unit}
use Rattle.cal_ast.specs.Apart.{unplaced}
use Rattle.cal_lexer.specs.Lexeme.{Lexeme, Placed}
use Rattle.cal_grammar.specs.Operators.{onto, import_at, with_package}
use Rattle.cal_grammar.specs.Spells.{any, repeated, a_param, a_port, a_tag, members, a_unit_member, a_path, an_import, an_actor, a_unit, some_imports, a_file, comma, the_path_name, the_path_all, the_path_on, the_import, the_actor, the_unit, the_actor_file, the_unit_file, the_package_file}
use Rattle.law_canon.specs.Printable.{IsPrintable}
use Rattle.law_canon.proofs.Phrases.{Respells, IsBack, back, done, word, part, last, Reads, at_end, a_word, a_part, at_last, respells}

-- paths with one name more
same_onto : (first x : Tree) {z1 z2 : Tree} → unplaced x ≡ import_part z1 z2 0 → unplaced (onto first x) ≡ import_part (cons (unplaced first) z1) z2 0
same_onto first (import_part path end at) e = cc
same_onto first _ e = absurd cc

same_import : (q : ℕ) (first x : Tree) {z1 z2 : Tree} → unplaced x ≡ import_part z1 z2 0 → unplaced (import_at q (onto first x)) ≡ import_part (cons (unplaced first) z1) z2 0
same_import q first (import_part path end at) e = cc
same_import q first _ e = absurd cc

-- a file in a package
same_with_package : (q : ℕ) (t x : Tree) {y z1 z2 : Tree} → unplaced t ≡ y → unplaced x ≡ file absent z1 z2 0 → unplaced (with_package q t x) ≡ file (present y) z1 z2 0
same_with_package q t (file none imports body at) e f = cc
same_with_package q t _ e f = absurd cc

pub back_path_name : (s : List ℕ) (n1 : IsPrintable (Lexeme.Name s)) → Respells a_path (Lexeme.Dot ∷ Lexeme.Name s ∷ []) (import_part nil (present (ident s 0)) 0)
back_path_name s n1 = respells (tt, (n1, tt)) go
  where
    go : (a b : List Placed) → Reads (word Lexeme.Dot (word (Lexeme.Name s) done)) a b → IsBack a_path a b (import_part nil (present (ident s 0)) 0)
    go _ _ (a_word (a_word at_end)) = back the_path_name refl

pub back_path_all : Respells a_path (Lexeme.Dot ∷ Lexeme.Star ∷ []) (import_part nil absent 0)
back_path_all = respells (tt, (tt, tt)) go
  where
    go : (a b : List Placed) → Reads (word Lexeme.Dot (word Lexeme.Star done)) a b → IsBack a_path a b (import_part nil absent 0)
    go _ _ (a_word (a_word at_end)) = back the_path_all refl

pub back_path_on : (s : List ℕ) (n1 : IsPrintable (Lexeme.Name s)) {v1 : List Lexeme} {z1 z2 : Tree} → Respells a_path v1 (import_part z1 z2 0) → Respells a_path (Lexeme.Dot ∷ Lexeme.Name s ∷ v1) (import_part (cons (ident s 0) z1) z2 0)
back_path_on s n1 {v1 = v1} {z1 = z1} {z2 = z2} r1 = respells (tt, (n1, r1)) go
  where
    go : (a b : List Placed) → Reads (word Lexeme.Dot (word (Lexeme.Name s) (last a_path v1 (import_part z1 z2 0)))) a b → IsBack a_path a b (import_part (cons (ident s 0) z1) z2 0)
    go _ _ (a_word (a_word (at_last h1 e1))) = back (the_path_on h1) (same_onto _ _ e1)

pub back_import : (s : List ℕ) (n1 : IsPrintable (Lexeme.Name s)) {v1 : List Lexeme} {z1 z2 : Tree} → Respells a_path v1 (import_part z1 z2 0) → Respells an_import (Lexeme.Import ∷ Lexeme.Name s ∷ v1 ++ (Lexeme.Semicolon ∷ [])) (import_part (cons (ident s 0) z1) z2 0)
back_import s n1 {v1 = v1} {z1 = z1} {z2 = z2} r1 = respells (tt, (n1, (r1, (tt, tt)))) go
  where
    go : (a b : List Placed) → Reads (word Lexeme.Import (word (Lexeme.Name s) (part a_path v1 (import_part z1 z2 0) (word Lexeme.Semicolon done)))) a b → IsBack an_import a b (import_part (cons (ident s 0) z1) z2 0)
    go _ _ (a_word (a_word (a_part h1 e1 (a_word at_end)))) = back (the_import h1) (same_import _ _ _ e1)

pub back_actor : (s : List ℕ) (n1 : IsPrintable (Lexeme.Name s)) {v1 v2 v3 v4 : List Lexeme} {y1 y2 y3 y4 : Tree} → Respells (any comma a_param) v1 y1 → Respells (any comma a_port) v2 y2 → Respells (any comma a_port) v3 y3 → Respells (members true) v4 y4 → Respells an_actor (Lexeme.Actor ∷ Lexeme.Name s ∷ Lexeme.LeftParen ∷ v1 ++ (Lexeme.RightParen ∷ v2 ++ (Lexeme.LongDoubleArrow ∷ v3 ++ (Lexeme.Colon ∷ v4 ++ (Lexeme.End ∷ []))))) (actor (ident s 0) y1 y2 y3 y4 0)
back_actor s n1 {v1 = v1} {v2 = v2} {v3 = v3} {v4 = v4} {y1 = y1} {y2 = y2} {y3 = y3} {y4 = y4} r1 r2 r3 r4 = respells (tt, (n1, (tt, (r1, (tt, (r2, (tt, (r3, (tt, (r4, (tt, tt))))))))))) go
  where
    go : (a b : List Placed) → Reads (word Lexeme.Actor (word (Lexeme.Name s) (word Lexeme.LeftParen (part (any comma a_param) v1 y1 (word Lexeme.RightParen (part (any comma a_port) v2 y2 (word Lexeme.LongDoubleArrow (part (any comma a_port) v3 y3 (word Lexeme.Colon (part (members true) v4 y4 (word Lexeme.End done))))))))))) a b → IsBack an_actor a b (actor (ident s 0) y1 y2 y3 y4 0)
    go _ _ (a_word (a_word (a_word (a_part h1 e1 (a_word (a_part h2 e2 (a_word (a_part h3 e3 (a_word (a_part h4 e4 (a_word at_end))))))))))) = back (the_actor h1 h2 h3 h4 refl) (rw (e1, e2, e3, e4) refl)

pub back_unit : (s : List ℕ) (n1 : IsPrintable (Lexeme.Name s)) {v1 : List Lexeme} {y1 : Tree} → Respells (repeated a_unit_member) v1 y1 → Respells a_unit (Lexeme.Unit ∷ Lexeme.Name s ∷ Lexeme.Colon ∷ v1 ++ (Lexeme.End ∷ [])) (unit (ident s 0) y1 0)
back_unit s n1 {v1 = v1} {y1 = y1} r1 = respells (tt, (n1, (tt, (r1, (tt, tt))))) go
  where
    go : (a b : List Placed) → Reads (word Lexeme.Unit (word (Lexeme.Name s) (word Lexeme.Colon (part (repeated a_unit_member) v1 y1 (word Lexeme.End done))))) a b → IsBack a_unit a b (unit (ident s 0) y1 0)
    go _ _ (a_word (a_word (a_word (a_part h1 e1 (a_word at_end))))) = back (the_unit h1 refl) (rw e1 refl)

pub back_actor_file : {v1 v2 : List Lexeme} {y1 y2 : Tree} → Respells (repeated an_import) v1 y1 → Respells an_actor v2 y2 → Respells some_imports (v1 ++ v2) (file absent y1 y2 0)
back_actor_file {v1 = v1} {v2 = v2} {y1 = y1} {y2 = y2} r1 r2 = respells (r1, r2) go
  where
    go : (a b : List Placed) → Reads (part (repeated an_import) v1 y1 (last an_actor v2 y2)) a b → IsBack some_imports a b (file absent y1 y2 0)
    go _ _ (a_part h1 e1 (at_last h2 e2)) = back (the_actor_file h1 h2) (rw (e1, e2) refl)

pub back_unit_file : {v1 v2 : List Lexeme} {y1 y2 : Tree} → Respells (repeated an_import) v1 y1 → Respells a_unit v2 y2 → Respells some_imports (v1 ++ v2) (file absent y1 y2 0)
back_unit_file {v1 = v1} {v2 = v2} {y1 = y1} {y2 = y2} r1 r2 = respells (r1, r2) go
  where
    go : (a b : List Placed) → Reads (part (repeated an_import) v1 y1 (last a_unit v2 y2)) a b → IsBack some_imports a b (file absent y1 y2 0)
    go _ _ (a_part h1 e1 (at_last h2 e2)) = back (the_unit_file h1 h2) (rw (e1, e2) refl)

pub back_package_file : {v1 v2 : List Lexeme} {y1 : Tree} {z1 z2 : Tree} → Respells a_tag v1 y1 → Respells some_imports v2 (file absent z1 z2 0) → Respells a_file (Lexeme.Package ∷ v1 ++ (Lexeme.Semicolon ∷ v2)) (file (present y1) z1 z2 0)
back_package_file {v1 = v1} {v2 = v2} {y1 = y1} {z1 = z1} {z2 = z2} r1 r2 = respells (tt, (r1, (tt, r2))) go
  where
    go : (a b : List Placed) → Reads (word Lexeme.Package (part a_tag v1 y1 (word Lexeme.Semicolon (last some_imports v2 (file absent z1 z2 0))))) a b → IsBack a_file a b (file (present y1) z1 z2 0)
    go _ _ (a_word (a_part h1 e1 (a_word (at_last h2 e2)))) = back (the_package_file h1 h2) (same_with_package _ _ _ e1 e2)
