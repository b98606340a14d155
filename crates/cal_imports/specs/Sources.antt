-- Files by their classes (ISO/IEC 23001-4, RVC-CAL: units and imports).
--
-- The class of an actor or a unit is the path of its package and its name, with dots between: `p.q.A`. An import names
-- the class of a unit, and then one of its names or `*`.
-- Trusted: part of what a promise means.
use Rattle.std.specs.Prelude.{ℕ, Bool, true, false, ◌&&◌, List, [], ◌∷◌, ◌++◌, Option, None, Some, if◌then◌else◌}
use Rattle.std.specs.Str.{bytes_eq}
use Rattle.rvc_base.specs.Rules.{not_as_asked}
use Rattle.cal_ast.specs.Tree as tree
use Rattle.cal_ast.specs.Tree.{Tree}
use Rattle.cal_imports.specs.Answer.{Answer, Gives, Refuses}

-- a file, the class that is asked for by which it stands in a set, and its number
pub record Source : Type 0 where
  pub name : List ℕ
  pub file : ℕ
  pub tree : Tree

abbrev pub source_named : List ℕ → List Source → Option Source
source_named name [] = None
source_named name (s ∷ ss) = if bytes_eq name s.name then Some s else source_named name ss

-- ---- classes

abbrev pub dot : ℕ
dot = 46

-- names, with a dot before each
abbrev pub behind_dots : Tree → List ℕ
behind_dots (tree.cons (tree.ident name at) rest) = dot ∷ (name ++ behind_dots rest)
behind_dots other = []

-- names, with dots between
abbrev pub dotted : Tree → List ℕ
dotted (tree.cons (tree.ident name at) rest) = name ++ behind_dots rest
dotted other = []

abbrev pub class_in : (in_package : Tree) → (name : List ℕ) → List ℕ
class_in (tree.present (tree.tag parts at)) name = dotted parts ++ dot ∷ name
class_in other name = name

-- the parts of a file
abbrev pub package_of : Tree → Tree
package_of (tree.file in_package imports body at) = in_package
package_of other = tree.absent

abbrev pub imports_of : Tree → Tree
imports_of (tree.file in_package imports body at) = imports
imports_of other = tree.nil

abbrev pub body_of : Tree → Tree
body_of (tree.file in_package imports body at) = body
body_of other = tree.absent

abbrev pub name_of : Tree → List ℕ
name_of (tree.actor (tree.ident name place) params ins outs members at) = name
name_of (tree.unit (tree.ident name place) members at) = name
name_of other = []

abbrev pub is_unit : Tree → Bool
is_unit (tree.unit name members at) = true
is_unit other = false

-- the class that a file declares
abbrev pub class_of : Tree → List ℕ
class_of whole = class_in (package_of whole) (name_of (body_of whole))

-- ---- what is asked for

-- at the top an actor is asked for, by an import a unit
abbrev pub same_truth : Bool → Bool → Bool
same_truth true b = b
same_truth false true = false
same_truth false false = true

abbrev pub is_as_asked : (unit : Bool) → Source → Bool
is_as_asked unit s = same_truth unit (is_unit (body_of s.tree))
    && bytes_eq s.name (class_of s.tree)

-- a file's package, name and kind are those that are asked for; if not, its start is named
abbrev pub as_asked : (unit : Bool) → Source → Answer (Unit {0})
as_asked unit s = if is_as_asked unit s then Gives tt else Refuses not_as_asked s.file 0
