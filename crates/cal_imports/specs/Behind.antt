-- An order in which each node stands behind those to which it leads.
-- Trusted: part of what a promise means.
use Rattle.std.specs.Prelude.{◌≡◌, ℕ, true, List, [], ◌∷◌, ◌++◌, Option, None, Some}
use Rattle.cal_scope.specs.Names.{is_among}
use Rattle.cal_imports.specs.Walk.{Edge, Node, node_named}

-- each of these edges leads to one of these names
abbrev pub LeadAmong : List Edge → List (List ℕ) → Type 0
LeadAmong [] names = Unit {0}
LeadAmong (e ∷ es) names = (is_among e.to names ≡ true) × LeadAmong es names

abbrev pub edges_of : Option Node → List Edge
edges_of None = []
edges_of (Some n) = n.edges

-- behind the names `before`
abbrev pub IsOrderBehind : List Node → (before order : List (List ℕ)) → Type 0
IsOrderBehind nodes before [] = Unit {0}
IsOrderBehind nodes before (x ∷ xs) = LeadAmong (edges_of (node_named x nodes)) before
    × IsOrderBehind nodes (before ++ x ∷ []) xs

-- each edge of each of these nodes leads to a name before it, so none leads to itself, directly or indirectly
abbrev pub IsOrder : List Node → List (List ℕ) → Type 0
IsOrder nodes order = IsOrderBehind nodes [] order
