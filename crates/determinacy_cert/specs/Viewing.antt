-- What the certifier's own types stand for.
-- Trusted: part of what a promise means.
use Rattle.std.specs.Prelude.{ℕ, Bool, [], List, length, map, ℤ, pos, ◌+ℤ◌, ◌-ℤ◌, ◌*ℤ◌, neg_ℤ, Option, option_map, if◌then◌else◌}
use Rattle.std.specs.Borrow.{Bor}
use Rattle.determinacy_cert.specs.declared.interval.Interval.{Interval as DeclaredInterval}
use Rattle.determinacy_cert.specs.declared.interval.Linear.{Linear}
use Rattle.determinacy_cert.specs.declared.interval.Linear.TheVariants.{Sum, Difference, Product}
use Rattle.determinacy_cert.specs.declared.found.Found.{Found}
use Rattle.determinacy_cert.specs.declared.found.Typed.{Typed}
use Rattle.determinacy_cert.specs.declared.found.Named.{Named as DeclaredNamed}
use Rattle.determinacy_cert.specs.declared.found.Names.{Names}
use Rattle.determinacy_cert.specs.declared.comparison.Literal.{Literal}
use Rattle.determinacy_cert.specs.declared.comparison.Comparison.{Comparison as DeclaredComparison}
use Rattle.determinacy_cert.specs.Deciding.{Named, Comparison, corners_range, same, same_names}
use Rattle.cal_ast.specs.Tree as tree
use Rattle.cal_ast.specs.Tree.{Tree}
use Rattle.cal_ast.specs.declared.expr.BinOp.{BinOp}
use Rattle.cal_ast.specs.declared.expr.Expr.{Expr}
use Rattle.cal_model.specs.declared.bound.BoundPattern.{BoundPattern}
use Rattle.cal_model.specs.declared.bound.Port.{Port}
use Rattle.cal_model.specs.declared.value.Value.{Value as DeclaredValue}
use Rattle.cal_ast.specs.View.{expr_tree}
use Rattle.determinacy_cert.specs.declared.found.Typed.TheVariants.{Tokens, Declared}
use Rattle.cal_model.specs.Value.{Shape, Many, Value}
use Rattle.cal_model.specs.Actor.{Pattern}
use Rattle.cal_model.specs.Selection.{kind_of_port}
use Rattle.cal_model.specs.View.{action_view, actor_of, pattern_view, port_view, shape_view, value_view}
use Rattle.cal_model.specs.Certified.{Interval, Ranged, guard_names, key_in, places_from, shape_of_tokens, token_key}

abbrev pub interval_view : DeclaredInterval → Interval
interval_view i = record { low = i.low; high = i.high }

abbrev pub computed : Linear → ℤ → ℤ → ℤ
computed Sum a b = a +ℤ b
computed Difference a b = a -ℤ b
computed Product a b = a *ℤ b

-- the hull of what an operation gives at the ends
abbrev pub range_of_corners : Linear → Interval → Interval → Option Interval
range_of_corners op i j =
    corners_range (computed op i.low j.low) (computed op i.low j.high)
    (computed op i.high j.low) (computed op i.high j.high)

-- the type of a name, or of what stands in it
abbrev pub typed_view : Typed → Shape
typed_view (Tokens t repeat) = shape_of_tokens t repeat
typed_view (Declared shape) = shape_view shape.now

-- a type and perhaps a constant's value, without a name
abbrev pub ranged_as : Shape → Option Value → Ranged
ranged_as shape value = record { name = []; shape = shape; value = value }

-- the value of a constant, if there is one
abbrev pub value_if : Option (Bor DeclaredValue) → Option Value
value_if value = option_map (λ v. value_view v.now) value

-- .. of a list of so many items
abbrev pub listed_as : ℕ → Typed → Option (Bor DeclaredValue) → Ranged
listed_as size items value = ranged_as (Many size (typed_view items)) (value_if value)

-- what is known of a name, without the name
abbrev pub found_view : Found → Ranged
found_view x = ranged_as (typed_view x.of) (value_if x.value)

abbrev pub unnamed : Ranged → Ranged
unnamed x = record x { name = [] }

abbrev pub named_view : DeclaredNamed → Named
named_view x = record { pattern = pattern_view x.pattern.now; place = x.place }

-- the names that the guards of an action see
abbrev pub names_view : Names → List Ranged
names_view names = guard_names (actor_of names.actor.now) (action_view names.action.now)

-- the text for the tokens that a name of a pattern stands for
abbrev pub key_of : DeclaredNamed → List ℕ
key_of x =
    token_key x.pattern.now.port x.pattern.now.repeat (length x.pattern.now.names.items) x.place

abbrev pub literal_view : Literal → ℤ
literal_view x = if x.is_negated then neg_ℤ (pos x.size) else pos x.size

abbrev pub comparison_view : DeclaredComparison → Comparison
comparison_view x =
    record { left = expr_tree x.left.now; op = x.op; number = literal_view x.number }

-- ---- if there is one

abbrev pub interval_if : Option DeclaredInterval → Option Interval
interval_if i = option_map interval_view i

abbrev pub found_if : Option Found → Option Ranged
found_if x = option_map found_view x

abbrev pub compared_if : Option DeclaredComparison → Option Comparison
compared_if x = option_map comparison_view x

-- ---- names in patterns

-- patterns as the definitions see them
abbrev pub seen : List BoundPattern → List Pattern
seen qs = map pattern_view qs

-- the type of the tokens that a name of a pattern stands for
abbrev pub token_shape : List Port → DeclaredNamed → Shape
token_shape ins x = shape_of_tokens (kind_of_port (map port_view ins) x.pattern.now.port)
    x.pattern.now.repeat

-- the first places, as many as are asked for, of those at which the tokens of a name stand
abbrev pub first_places : ℕ → DeclaredNamed → List ℕ
first_places count x = places_from count x.place (length x.pattern.now.names.items)

-- both names stand for the same
abbrev pub are_same_names : List ℕ → List BoundPattern → List ℕ → List BoundPattern → Bool
are_same_names name qs other rs =
    same_names name (key_in name (seen qs)) other (key_in other (seen rs))

-- ---- trees of parts

abbrev pub if_tree : Expr → Expr → Expr → Tree
if_tree test first other = tree.if_expr (expr_tree test) (expr_tree first) (expr_tree other) 0

abbrev pub index_tree : Expr → Expr → Tree
index_tree base place = tree.index (expr_tree base) (expr_tree place) 0

abbrev pub binary_tree : BinOp → Expr → Expr → Tree
binary_tree op l r = tree.binary op (expr_tree l) (expr_tree r) 0

-- the expression is equal to this tree, each with its patterns
abbrev pub is_same : Tree → List BoundPattern → Expr → List BoundPattern → Bool
is_same t qs f rs = same t (seen qs) (expr_tree f) (seen rs)
