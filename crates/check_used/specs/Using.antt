-- Declarations of other files, and which of them an actor uses, as calls are asked about them.
-- Trusted but for the rounds: part of what a promise means.
use Rattle.std.specs.Prelude.{◌≡◌, ◌⊎◌, ℕ, Bool, true, false, ◌||◌, List, [], ◌∷◌, ◌++◌, Contains, not, if◌then◌else◌}
use Rattle.std.specs.Str.{bytes_eq}
use Rattle.cal_ast.specs.Tree as tree
use Rattle.cal_ast.specs.Tree.{Tree}
use Rattle.cal_ast.specs.View.{function_tree, optional_expr, type_tree}
use Rattle.cal_model.specs.Tags.{is_seen, with_seen}
use Rattle.cal_check.specs.Actors.{Outer, Source, is_kept, outers, used, used_by, uses}
use Rattle.check_used.specs.Naming.{with_names}
use Rattle.check_used.specs.declared.outer.OuterDecl.{OuterDecl}
use Rattle.check_used.specs.declared.outer.OuterForm.{OuterForm}
use Rattle.check_used.specs.declared.outer.OuterForm.TheVariants as form

-- of a variable its type and its start may use others
abbrev pub form_tree : OuterForm → Tree
form_tree (form.Var v) =
    tree.cons (type_tree v.now.shape) (tree.cons (optional_expr v.now.start) tree.nil)
form_tree (form.Function f) = function_tree f.now

abbrev pub outer_view : OuterDecl → Outer
outer_view d = record { name = d.name.now; decl = form_tree d.form }

-- a source of this actor with these declarations of other files
pub record IsSourceOf (s : Source) (decl : Tree) (decls : List Outer) : Type 0 where
  pub actor : s.actor ≡ decl
  pub outers : outers s ≡ decls

-- the names that other files declare, and names that are used
pub record KeptNames : Type 0 where
  pub others : List (List ℕ)
  pub used : List (List ℕ)

-- a name that isn't one of others, or is used
abbrev pub keeps : List ℕ → KeptNames → Bool
keeps name kept = not (is_seen name kept.others) || is_seen name kept.used

-- the names that are kept are those that the actor of a source keeps
abbrev pub Keeps : KeptNames → Source → Type 0
Keeps kept s = (name : List ℕ) → keeps name kept ≡ is_kept name (outers s) (used s)

-- ---- rounds

-- a declaration whose name was found adds the names that it uses, and another one is left
abbrev pub visited_names : Outer → List (List ℕ) → List (List ℕ)
visited_names d names = if is_seen d.name names then with_names d.decl names else names

abbrev pub visited_left : Outer → List (List ℕ) → List Outer
visited_left d names = if is_seen d.name names then [] else d ∷ []

abbrev pub round_names : List Outer → List (List ℕ) → List (List ℕ)
round_names [] names = names
round_names (d ∷ ds) names = round_names ds (visited_names d names)

abbrev pub round_left : List Outer → List (List ℕ) → List Outer
round_left [] names = []
round_left (d ∷ ds) names = visited_left d names ++ round_left ds (visited_names d names)

-- a name of another file
abbrev pub is_outer : List ℕ → List Outer → Bool
is_outer name [] = false
is_outer name (d ∷ ds) = bytes_eq d.name name || is_outer name ds

-- names with those of declarations
abbrev pub with_outers : List Outer → List (List ℕ) → List (List ℕ)
with_outers [] names = names
with_outers (d ∷ ds) names = with_outers ds (with_seen names d.name)

-- what is found behind rounds: all that the actor uses, and of other files nothing else
pub record IsFound (s : Source) (names : List (List ℕ)) (left : List Outer) : Type 0 where
  -- what the actor uses
  pub actor : (name : List ℕ) → uses name s.actor ≡ true → is_seen name names ≡ true
  -- the actor uses it, or something that is used
  pub wanted : (name : List ℕ) → is_seen name names ≡ true
      → (uses name s.actor || used_by name (outers s) (used s)) ≡ true
  pub inside : (d : Outer) → Contains left d → Contains (outers s) d
  -- what is not left has its names there
  pub visited : (d : Outer) → Contains (outers s) d
      → Contains left d ⊎ ((name : List ℕ) → uses name d.decl ≡ true → is_seen name names ≡ true)

-- no name of what is left was found
abbrev pub IsSettled : List (List ℕ) → List Outer → Type 0
IsSettled names left = (d : Outer) → Contains left d → is_seen d.name names ≡ false
