-- How many items lists are seen to have.
-- Trusted: part of what a promise means.
use Rattle.std.specs.Prelude.{ℕ, suc, ◌-◌, ◌^◌, nat_eq, nat_lt, if◌then◌else◌, List, Option, None, Some}
use Rattle.cal_ast.specs.Tree as tree
use Rattle.cal_ast.specs.Tree.{Tree}
use Rattle.cal_model.specs.Value.{Shape, Single, Many}
use Rattle.lower_base.specs.Generators.{made_by}
use Rattle.lower_base.specs.Names.{Name}
use Rattle.lower_base.specs.Parted.{number_of, part_named}

-- a number that 32 bits hold
abbrev pub few : ℕ → Option ℕ
few n = if nat_lt n (2 ^ 32) then Some n else None

-- how many items a type has, once so many indexes are put on it
abbrev pub items_at : ℕ → Shape → Option ℕ
items_at d (Single t) = None
items_at d (Many n items) = if nat_eq d 0 then Some n else items_at (d - 1) items

-- of a list that is written out: as many as are written, or as its first item has
abbrev pub items_listed : ℕ → ℕ → (ℕ → Option ℕ) → Option ℕ
items_listed d n first = if nat_eq d 0 then few n else first (d - 1)

-- of a list that generators make
abbrev pub items_made : ℕ → Option ℕ → (ℕ → Option ℕ) → Option ℕ
items_made d many item = if nat_eq d 0 then many else item (d - 1)

abbrev mutual
  -- How many items the list has that an expression gives, once so many indexes are put on it, if that is seen. Whether
  -- it has them is another matter: it is seen once it is filled.
  pub items_seen : List Name → Tree → ℕ → Option ℕ
  items_seen names (tree.variable text at) d =
      elim (part_named names (tree.variable text at)) [ None ↦ None | Some p ↦ items_at d p.shape ]
  items_seen names (tree.paren e at) d = items_seen names e d
  items_seen names (tree.if_expr test first other at) d = items_seen names first d
  items_seen names (tree.list es at) d =
      items_listed d (number_of es) (λ k. first_seen names es k)
  items_seen names (tree.comp item gens at) d =
      items_made d (made_by gens) (λ k. items_seen names item k)
  items_seen names (tree.index base place at) d = items_seen names base (suc d)
  items_seen names other d = None

  -- .. that the first of expressions gives
  pub first_seen : List Name → Tree → ℕ → Option ℕ
  first_seen names (tree.cons e es) d = items_seen names e d
  first_seen names other d = None
