-- The class of a file that a text spells is names with dots between them, and its actor or unit has a name.
use Rattle.std.proofs.Common.{ℕ, List, ◌∷◌, ◌++◌, sym, subst, append-nil, append_assoc}
use Rattle.trace_text.specs.Names.{IsClass, IsName}
use Rattle.cal_ast.specs.Tree as tree
use Rattle.cal_ast.specs.Tree.{Tree}
use Rattle.cal_lexer.specs.Lexeme.{Placed}
use Rattle.cal_grammar.specs.Operators.{with_package}
use Rattle.cal_grammar.specs.Spells.{Spells, a_file, a_name, a_path, a_unit, an_actor, an_import, dot as dots, repeated, rest, separated, some_imports, the_actor, the_actor_file, the_again, the_end, the_file, the_import, the_last, the_more, the_name, the_package_file, the_path_all, the_path_name, the_path_on, the_separated, the_tag, the_unit, the_unit_file}
use Rattle.cal_imports.specs.Sources.{behind_dots, body_of, class_of, dot, dotted, name_of}
use Rattle.cal_files.specs.FileText.{IsFile}
use Rattle.law_canon.specs.Printable.{ArePrintable, kinds}
use Rattle.law_canon.proofs.Lexed.{lexed_is_printable}
use Rattle.law_written.proofs.NameBytes.{joined_more, name_is_name, one_joined}

-- the tokens of a text: each name among them is one
abbrev AreFine : List Placed → Type 0
AreFine tokens = ArePrintable (kinds tokens)

-- ---- the path of a package

-- names
abbrev AreParts : Tree → Type 0
AreParts tree.nil = Unit {0}
AreParts (tree.cons (tree.ident name at) parts) = IsName name × AreParts parts
AreParts other = ⊥

-- .. of which there is one
abbrev AreSomeParts : Tree → Type 0
AreSomeParts (tree.cons part parts) = AreParts (tree.cons part parts)
AreSomeParts other = ⊥

-- what is spelled, and the tokens behind it
record Leaves (P : Type 0) (tokens : List Placed) : Type 0 where
  is : P
  left : AreFine tokens

name_left : {a b : List Placed} {x : Tree} → Spells a_name a b x → AreFine a → AreFine b
name_left the_name w = w.1

name_named : {a b : List Placed} {x : Tree} (xs : Tree) → Spells a_name a b x → AreFine a → AreParts xs → AreSomeParts (tree.cons x xs)
name_named xs (the_name {s = s}) w others = (name_is_name s w.0.0, others)

some_are : (xs : Tree) → AreSomeParts xs → AreParts xs
some_are (tree.cons part parts) h = h
some_are _ h = absurd h

mutual
  parts_behind : {a b : List Placed} {xs : Tree} → Spells (rest dots a_name) a b xs → AreFine a → Leaves (AreParts xs) b
  parts_behind the_last w = record { is = tt; left = w }
  parts_behind (the_more {xs = xs} h) w = let some = some_parts h w.1 in record { is = some_are xs some.is; left = some.left }

  some_parts : {a b : List Placed} {xs : Tree} → Spells (separated dots a_name) a b xs → AreFine a → Leaves (AreSomeParts xs) b
  some_parts (the_separated {xs = xs} h i) w =
      let others = parts_behind i (name_left h w) in
      record { is = name_named xs h w others.is; left = others.left }

-- ---- classes

dots_joined : (text : List ℕ) (parts : Tree) → IsClass text → AreParts parts → IsClass (text ++ behind_dots parts)
dots_joined text tree.nil is are = subst IsClass (sym (append-nil text)) is
dots_joined text (tree.cons (tree.ident name at) parts) is are =
    subst IsClass (append_assoc text (dot ∷ name) (behind_dots parts))
    (dots_joined (text ++ dot ∷ name) parts (joined_more dot text name is are.0) are.1)
dots_joined text _ is are = absurd are

parts_joined : (parts : Tree) → AreSomeParts parts → IsClass (dotted parts)
parts_joined (tree.cons (tree.ident name at) parts) are = dots_joined name parts (one_joined dot name are.0) are.1
parts_joined _ are = absurd are

-- ---- files

-- the class of a file and the name of its actor or unit
pub record IsNamedFile (whole : Tree) : Type 0 where
  pub class : IsClass (class_of whole)
  pub name : IsName (name_of (body_of whole))

path_left : {a b : List Placed} {x : Tree} → Spells a_path a b x → AreFine a → AreFine b
path_left the_path_name w = w.1.1
path_left the_path_all w = w.1.1
path_left (the_path_on h) w = path_left h w.1.1

imports_left : {a b : List Placed} {xs : Tree} → Spells (repeated an_import) a b xs → AreFine a → AreFine b
imports_left the_end w = w
imports_left (the_again (the_import h) i) w = imports_left i (path_left h w.1.1).1

actor_name : {a b : List Placed} {x : Tree} → Spells an_actor a b x → AreFine a → IsName (name_of x)
actor_name (the_actor {s = s} h i j k e) w = name_is_name s w.1.0.0

unit_name : {a b : List Placed} {x : Tree} → Spells a_unit a b x → AreFine a → IsName (name_of x)
unit_name (the_unit {s = s} h e) w = name_is_name s w.1.0.0

imports_name : {a b : List Placed} {x : Tree} → Spells some_imports a b x → AreFine a → IsNamedFile x
imports_name (the_actor_file {x = x} h i) w = let name = actor_name i (imports_left h w) in record { class = one_joined dot (name_of x) name; name = name }
imports_name (the_unit_file {x = x} h i) w = let name = unit_name i (imports_left h w) in record { class = one_joined dot (name_of x) name; name = name }

packaged_name : {a b : List Placed} {x : Tree} (q : ℕ) (parts : Tree) (at : ℕ) → AreSomeParts parts → Spells some_imports a b x → AreFine a
    → IsNamedFile (with_package q (tree.tag parts at) x)
packaged_name q parts at are (the_actor_file {x = x} h i) w =
    let name = actor_name i (imports_left h w) in
    record { class = joined_more dot (dotted parts) (name_of x) (parts_joined parts are) name; name = name }
packaged_name q parts at are (the_unit_file {x = x} h i) w =
    let name = unit_name i (imports_left h w) in
    record { class = joined_more dot (dotted parts) (name_of x) (parts_joined parts are) name; name = name }

file_name : {a b : List Placed} {x : Tree} → Spells a_file a b x → AreFine a → IsNamedFile x
file_name (the_file h) w = imports_name h w
file_name (the_package_file {q = q} (the_tag {xs = parts} g) h) w =
    let path = some_parts g w.1 in
    packaged_name q parts _ path.is h path.left.1

pub file_is_named : (text : List ℕ) (whole : Tree) → IsFile text whole → IsNamedFile whole
file_is_named text whole file = file_name file.spelled (lexed_is_printable file.lexed)
