-- A walk along edges, depth first: in which order nodes stand behind those that they lead to, or an edge that leads back.
--
-- The nodes are files and the edges imports, or the nodes are functions and procedures and the edges calls.
-- Trusted: part of what a promise means.
use Rattle.std.specs.Prelude.{ℕ, zero, suc, ◌+◌, List, [], ◌∷◌, ◌++◌, length, Option, None, Some, is_some, if◌then◌else◌}
use Rattle.std.specs.Str.{bytes_eq}
use Rattle.rvc_base.specs.declared.refusal.Rule.{Rule}
use Rattle.cal_scope.specs.Names.{is_among, with_name}
use Rattle.cal_imports.specs.Answer.{Answer, Gives, Refuses}

-- an edge to the node of a name, and the place at which it stands in the node's file
pub record Edge : Type 0 where
  pub to : List ℕ
  pub at : ℕ

pub record Node : Type 0 where
  pub name : List ℕ
  pub file : ℕ
  pub edges : List Edge

-- nodes, and the rules that are broken by an edge to no node, and by one that leads back
pub record Graph : Type 0 where
  pub nodes : List Node
  pub missing : Rule
  pub circle : Rule

abbrev pub node_named : List ℕ → List Node → Option Node
node_named name [] = None
node_named name (n ∷ ns) = if bytes_eq name n.name then Some n else node_named name ns

-- the nodes with one more, unless one of its name is there
abbrev pub with_node : Node → List Node → List Node
with_node n ns = if is_some (node_named n.name ns) then ns else ns ++ n ∷ []

-- ---- steps

-- a node that was entered and not left, and its edges that weren't followed yet
pub record Open : Type 0 where
  pub name : List ℕ
  pub file : ℕ
  pub rest : List Edge

-- How a walk stands: the nodes that are open, the innermost first; all that were entered; and those that were left, in
-- this order.
pub record Walk : Type 0 where
  pub open_nodes : List Open
  pub entered : List (List ℕ)
  pub left : List (List ℕ)

pub data Step : Type 0 where
  Goes : Walk → Step
  Ends : List (List ℕ) → Step
  Stops : (rule : Rule) (file at : ℕ) → Step

-- a node that is open, with the edges behind its first
abbrev pub past : Open → List Edge → Open
past o es = record { name = o.name; file = o.file; rest = es }

abbrev pub entering : Node → Open
entering n = record { name = n.name; file = n.file; rest = n.edges }

-- the same walk with these nodes open
abbrev pub with_open : List Open → Walk → Walk
with_open os w = record { open_nodes = os; entered = w.entered; left = w.left }

-- the same walk with one node more, inside those that are open
abbrev pub with_inner : Open → Walk → Walk
with_inner o w = with_open (o ∷ w.open_nodes) w

-- a node is entered under its name, inside an open one
abbrev pub with_entered : (name : List ℕ) → (target outside : Open) → Walk → Walk
with_entered name target outside w = record {
  open_nodes = target ∷ outside ∷ w.open_nodes;
  entered = with_name name w.entered;
  left = w.left;
}

-- The node of a name is entered, from an edge of an open node inside those that are open.
abbrev pub entered_from : Option Node → Graph → Open → Edge → List Edge → Walk → Step
entered_from None g o e es w = Stops g.missing o.file e.at
entered_from (Some n) g o e es w = Goes (with_entered e.to (entering n) (past o es) w)

-- An edge of an open node is followed: a node that was left is passed over, one that was entered and not left is open,
-- so the edge leads back, and any other is entered.
abbrev pub followed : Graph → Open → Edge → List Edge → Walk → Step
followed g o e es w =
    if is_among e.to w.left then Goes (with_inner (past o es) w)
    else if is_among e.to w.entered then Stops g.circle o.file e.at
    else entered_from (node_named e.to g.nodes) g o e es w

-- The innermost open node is left if no edge of it remains; the walk ends with the one from which it began.
abbrev pub leaving : List ℕ → Walk → Walk
leaving name w = record {
  open_nodes = w.open_nodes;
  entered = w.entered;
  left = with_name name w.left;
}

abbrev pub left_inside : List Open → List ℕ → Walk → Step
left_inside [] name w = Ends w.left
left_inside (o ∷ os) name w = Goes (leaving name w)

abbrev pub step_at : Graph → Open → List Edge → Walk → Step
step_at g o [] w = left_inside w.open_nodes o.name w
step_at g o (e ∷ es) w = followed g o e es w

abbrev pub step_in : List Open → Graph → Walk → Step
step_in [] g w = Ends w.left
step_in (o ∷ os) g w = step_at g o o.rest (with_open os w)

abbrev pub step : Graph → Walk → Step
step g w = step_in w.open_nodes g w

-- ---- walks

-- what a step comes to, and the rest of the walk
abbrev pub walk_on : (Walk → Answer (List (List ℕ))) → Step → Answer (List (List ℕ))
walk_on go (Goes next) = go next
walk_on go (Ends left) = Gives left
walk_on go (Stops rule file at) = Refuses rule file at

-- so many steps; no walk has more than `steps_left` says
abbrev pub walk : ℕ → Graph → Walk → Answer (List (List ℕ))
walk zero g w = Refuses g.circle 0 0
walk (suc n) g w = walk_on (walk n g) (step g w)

-- the steps that open nodes take: one for each edge, and one to leave the node
abbrev pub steps_of_open : List Open → ℕ
steps_of_open [] = 0
steps_of_open (o ∷ os) = (1 + length o.rest) + steps_of_open os

-- the steps that the nodes take which weren't entered
abbrev pub steps_of_nodes : List Node → (entered : List (List ℕ)) → ℕ
steps_of_nodes [] entered = 0
steps_of_nodes (n ∷ ns) entered =
    (if is_among n.name entered then 0 else 1 + length n.edges) + steps_of_nodes ns entered

abbrev pub steps_left : Graph → Walk → ℕ
steps_left g w = steps_of_open w.open_nodes + steps_of_nodes g.nodes w.entered

-- a walk to its end
abbrev pub walked : Graph → Walk → Answer (List (List ℕ))
walked g w = walk (suc (steps_left g w)) g w

-- a walk that begins with one open node
abbrev pub begun : Open → Walk
begun o = record { open_nodes = o ∷ []; entered = o.name ∷ []; left = [] }

-- The nodes to which these edges lead, each behind those to which it leads. The edges stand in a node of this name.
abbrev pub order_from : Graph → Open → Answer (List (List ℕ))
order_from g o = walked g (begun o)
