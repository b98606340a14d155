-- Worked rows: the texts of an actor that imports two units, and why files are asked to be spelled.
use Rattle.std.proofs.Common.{◌≡◌, ℕ, zero, List, [], ◌∷◌, map, false, refl, arith}
use Rattle.std.specs.Prelude.{codes}
use Rattle.cal_ast.specs.Tree as tree
use Rattle.cal_ast.specs.Tree.{Tree, listed}
use Rattle.cal_check.specs.Sources.{names_of_source}
use Rattle.cal_imports.specs.Answer.{Gives}
use Rattle.cal_imports.specs.Resolved.{resolved}
use Rattle.cal_imports.specs.Sources.{Source}
use Rattle.cal_imports.specs.Whole.{Outer, Scope}
use Rattle.check_actor.specs.Sources.{source_of}
use Rattle.law_sources.specs.Names.{NamesDifferIn}

-- `int NAME = 1`
abbrev constant : (name : List ℕ) → Tree
constant name = tree.var (tree.type_of (tree.ident (codes "int") 30) tree.nil 30) (tree.ident name 34) (tree.present (tree.number 1 40)) false 30

abbrev idents : List (List ℕ) → List Tree
idents names = map (λ name. tree.ident name 7) names

-- `import PATH.*;`
abbrev import_all : (path : List (List ℕ)) → Tree
import_all path = tree.import_part (listed (idents path)) tree.absent 0

abbrev body : Tree
body = tree.actor (tree.ident (codes "A") 20) tree.nil tree.nil tree.nil (listed (constant (codes "k") ∷ [])) 14

-- the actor `A` with `int k = 1` and these imports
abbrev actor : (imports : List Tree) → Source
actor imports = record { name = codes "A"; file = 1; tree = tree.file tree.absent (listed imports) body 0 }

-- the units `U` and `U.V` with constants of these names
abbrev unit : (name : List ℕ) → Source
unit name = record {
  name = codes "U";
  file = 2;
  tree = tree.file tree.absent tree.nil (tree.unit (tree.ident (codes "U") 20) (listed (constant name ∷ [])) 14) 0;
}

abbrev inner_unit : (name : List ℕ) → Source
inner_unit name = record {
  name = codes "U.V";
  file = 3;
  tree = tree.file (tree.present (tree.tag (listed (idents (codes "U" ∷ []))) 8)) tree.nil (tree.unit (tree.ident (codes "V") 20) (listed (constant name ∷ [])) 14) 0;
}

abbrev sources : (imports : List Tree) → (name : List ℕ) → List Source
sources imports name = actor imports ∷ unit name ∷ inner_unit (codes "k") ∷ []

abbrev gathered : (name full : List ℕ) → (file : ℕ) → Outer
gathered name full file = record { name = full; file = file; decl = constant name }

abbrev scope : (name full : List ℕ) → Scope
scope name full = record {
  class = codes "A";
  file = 1;
  actor = body;
  vars = gathered name full 2 ∷ gathered (codes "k") (codes "U.V.k") 3 ∷ [];
  funs = [];
}

abbrev imports : List Tree
imports = import_all (codes "U" ∷ []) ∷ import_all (codes "U" ∷ codes "V" ∷ []) ∷ []

-- `j` of the unit `U`, `k` of the unit `U.V`, and the actor's own `k`
told_apart : resolved (sources imports (codes "j")) (codes "A") ≡ Gives (scope (codes "j") (codes "U.j"))
told_apart = refl

its_texts : names_of_source (source_of (scope (codes "j") (codes "U.j"))) ≡ codes "U.j" ∷ codes "U.V.k" ∷ codes "k" ∷ []
its_texts = refl

-- If a name could have a dot, `V.k` of the unit `U` and `k` of the unit `U.V` would have one text.
is_given : resolved (sources imports (codes "V.k")) (codes "A") ≡ Gives (scope (codes "V.k") (codes "U.V.k"))
is_given = refl

has_one_text : NamesDifferIn (scope (codes "V.k") (codes "U.V.k")) → ⊥
has_one_text h = h.0 (zero, omega arith, refl)
