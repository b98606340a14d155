-- Worked rows: actors with what their imports lead to, and the rules that others break.
use Rattle.std.proofs.Common.{◌≡◌, ℕ, ◌+◌, List, [], ◌∷◌, false, refl}
use Rattle.std.specs.Prelude.{codes}
use Rattle.rvc_base.specs.Rules.{declared_twice, import_cycle, import_not_found, not_as_asked, recursion, unknown_name}
use Rattle.cal_ast.specs.Tree as tree
use Rattle.cal_ast.specs.Tree.{Tree, listed}
use Rattle.cal_imports.specs.Answer.{Gives, Refuses}
use Rattle.cal_imports.specs.Resolved.{resolved}
use Rattle.cal_imports.specs.Sources.{Source, class_of}
use Rattle.cal_imports.specs.Whole.{Outer, Scope}

abbrev int_at : ℕ → Tree
int_at at = tree.type_of (tree.ident (codes "int") at) tree.nil at

-- `int NAME = START`
abbrev constant_at : (name : List ℕ) (start : Tree) (at : ℕ) → Tree
constant_at name start at = tree.var (int_at at) (tree.ident name (at + 4)) (tree.present start) false at

-- `import U.NAME;` and `import U.*;`
abbrev one : (unit name : List ℕ) (at : ℕ) → Tree
one unit name at = tree.import_part (listed (tree.ident unit (at + 7) ∷ [])) (tree.present (tree.ident name (at + 9))) at

abbrev all : (unit : List ℕ) (at : ℕ) → Tree
all unit at = tree.import_part (listed (tree.ident unit (at + 7) ∷ [])) tree.absent at

abbrev actor_of : (imports members : List Tree) → Tree
actor_of imports members = tree.file tree.absent (listed imports) (tree.actor (tree.ident (codes "A") 20) tree.nil tree.nil tree.nil (listed members) 14) 0

abbrev unit_of : (name : List ℕ) (imports members : List Tree) → Tree
unit_of name imports members = tree.file tree.absent (listed imports) (tree.unit (tree.ident name 20) (listed members) 14) 0

abbrev source : (name : List ℕ) (file : ℕ) → Tree → Source
source name file t = record { name = name; file = file; tree = t }

-- the class of an actor in a package
in_package : class_of (tree.file (tree.present (tree.tag (listed (tree.ident (codes "p") 8 ∷ tree.ident (codes "q") 10 ∷ [])) 8)) tree.nil (tree.actor (tree.ident (codes "A") 20) tree.nil tree.nil tree.nil tree.nil 14) 0) ≡ codes "p.q.A"
in_package = refl

-- the unit `U` with `int k = 1`
abbrev unit : Source
unit = source (codes "U") 2 (unit_of (codes "U") [] (constant_at (codes "k") (tree.number 1 40) 30 ∷ []))

abbrev k_of_unit : Outer
k_of_unit = record { name = codes "U.k"; file = 2; decl = constant_at (codes "k") (tree.number 1 40) 30 }

abbrev importing : (imports members : List Tree) → List Source
importing imports members = source (codes "A") 1 (actor_of imports members) ∷ unit ∷ []

abbrev scope : (members : List Tree) (vars : List Outer) → Scope
scope members vars = record {
  class = codes "A";
  file = 1;
  actor = tree.actor (tree.ident (codes "A") 20) tree.nil tree.nil tree.nil (listed members) 14;
  vars = vars;
  funs = [];
}

-- `int x = k`: an import brings `k`, and the actor's own `k` hides it
brought : resolved (importing (one (codes "U") (codes "k") 0 ∷ []) (constant_at (codes "x") (tree.variable (codes "k") 40) 30 ∷ [])) (codes "A")
    ≡ Gives (scope (constant_at (codes "x") (tree.variable (codes "U.k") 40) 30 ∷ []) (k_of_unit ∷ []))
brought = refl

hidden : resolved (importing (all (codes "U") 0 ∷ []) (constant_at (codes "k") (tree.number 2 40) 30 ∷ constant_at (codes "x") (tree.variable (codes "k") 60) 50 ∷ [])) (codes "A")
    ≡ Gives (scope (constant_at (codes "k") (tree.number 2 40) 30 ∷ constant_at (codes "x") (tree.variable (codes "k") 60) 50 ∷ []) (k_of_unit ∷ []))
hidden = refl

-- a name that the unit doesn't declare, a unit that isn't there, a class that the file isn't of, and a unit at the top
no_such_name : resolved (importing (one (codes "U") (codes "m") 0 ∷ []) []) (codes "A") ≡ Refuses unknown_name 1 9
no_such_name = refl

no_such_unit : resolved (importing (all (codes "V") 3 ∷ []) []) (codes "A") ≡ Refuses import_not_found 1 3
no_such_unit = refl

other_class : resolved (source (codes "p.A") 1 (actor_of [] []) ∷ []) (codes "p.A") ≡ Refuses not_as_asked 1 0
other_class = refl

unit_at_the_top : resolved (unit ∷ []) (codes "U") ≡ Refuses not_as_asked 2 0
unit_at_the_top = refl

-- two imports of different things, which the actor's own `k` hides
twice : resolved (source (codes "A") 1 (actor_of (all (codes "U") 0 ∷ all (codes "V") 12 ∷ []) (constant_at (codes "k") (tree.number 3 40) 30 ∷ []))
    ∷ unit ∷ source (codes "V") 3 (unit_of (codes "V") [] (constant_at (codes "k") (tree.number 2 40) 30 ∷ [])) ∷ []) (codes "A")
    ≡ Refuses declared_twice 1 12
twice = refl

-- units that import each other
circle : resolved (source (codes "A") 1 (actor_of (all (codes "U") 0 ∷ []) []) ∷ source (codes "U") 2 (unit_of (codes "U") (all (codes "V") 5 ∷ []) [])
    ∷ source (codes "V") 3 (unit_of (codes "V") (all (codes "U") 6 ∷ []) []) ∷ []) (codes "A")
    ≡ Refuses import_cycle 3 6
circle = refl

-- `function f ( ) --> int : f ( )`
calls_itself : resolved (source (codes "A") 1 (actor_of [] (tree.function (tree.ident (codes "f") 30) tree.nil (int_at 40) tree.nil (tree.call (codes "f") tree.nil 44) 25 ∷ [])) ∷ []) (codes "A")
    ≡ Refuses recursion 1 44
calls_itself = refl
