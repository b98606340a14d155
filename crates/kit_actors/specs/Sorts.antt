-- What an expression is in a guard of an example.
-- Not trusted: no promise is read with it.
use Rattle.std.specs.Prelude.{ℕ, Bool, true, false, ◌||◌, ◌&&◌, List, codes, if◌then◌else◌}
use Rattle.std.specs.Str.{bytes_eq}
use Rattle.cal_ast.specs.declared.expr.PrefixOp.{PrefixOp}
use Rattle.cal_ast.specs.declared.expr.PrefixOp.TheVariants.{Not, Neg, BitNot}
use Rattle.cal_ast.specs.declared.expr.BinOp.{BinOp}
use Rattle.cal_ast.specs.declared.expr.BinOp.TheVariants.{Or, And, Eq, Ne, Lt, Le, Gt, Ge}
use Rattle.cal_ast.specs.Tree as tree
use Rattle.cal_ast.specs.Tree.{Tree}
use Rattle.kit_actors.specs.declared.guarded.Takes.{Takes}
use Rattle.kit_actors.specs.declared.guarded.Takes.TheVariants.{One, Two, Other, Four}
use Rattle.kit_actors.specs.declared.sorting.Sort.{Sort}
use Rattle.kit_actors.specs.declared.sorting.Sort.TheVariants.{Number, Truth, Unfit}

abbrev pub token : Bool → Sort
token true = Number
token false = Unfit

-- a token of what the action takes
abbrev pub is_token : List ℕ → Takes → Bool
is_token name One = bytes_eq name (codes "v")
is_token name Two = bytes_eq name (codes "v") || bytes_eq name (codes "d")
is_token name Other = bytes_eq name (codes "v")
is_token name Four = false

abbrev pub named : List ℕ → Takes → Sort
named name takes = if bytes_eq name (codes "s") then Number else token (is_token name takes)

-- the list of four tokens
abbrev pub is_named_list : List ℕ → Takes → Bool
is_named_list name One = false
is_named_list name Two = false
is_named_list name Other = false
is_named_list name Four = bytes_eq name (codes "t")

abbrev pub is_list : Tree → Takes → Bool
is_list (tree.variable name at) takes = is_named_list name takes
is_list other takes = false

abbrev pub item : Bool → Sort → Sort
item list Number = token list
item list Truth = Unfit
item list Unfit = Unfit

abbrev pub is_nil : Tree → Bool
is_nil tree.nil = true
is_nil other = false

-- f() is a truth value
abbrev pub called : List ℕ → Bool → Sort
called name bare = if bytes_eq name (codes "f") && bare then Truth else Unfit

abbrev pub alike : Sort → Sort → Sort
alike Number Number = Number
alike Truth Truth = Truth
alike Number Truth = Unfit
alike Number Unfit = Unfit
alike Truth Number = Unfit
alike Truth Unfit = Unfit
alike Unfit other = Unfit

abbrev pub branches : Sort → Sort → Sort → Sort
branches Truth one two = alike one two
branches Number one two = Unfit
branches Unfit one two = Unfit

abbrev pub prefixed : PrefixOp → Sort → Sort
prefixed Not of = alike Truth of
prefixed Neg of = alike Number of
prefixed BitNot of = alike Number of

abbrev pub of_numbers : BinOp → Sort
of_numbers And = Unfit
of_numbers Or = Unfit
of_numbers Eq = Truth
of_numbers Ne = Truth
of_numbers Lt = Truth
of_numbers Le = Truth
of_numbers Gt = Truth
of_numbers Ge = Truth
of_numbers op = Number

abbrev pub of_truths : BinOp → Sort
of_truths And = Truth
of_truths Or = Truth
of_truths Eq = Truth
of_truths Ne = Truth
of_truths op = Unfit

abbrev pub operated : BinOp → Sort → Sort
operated op Number = of_numbers op
operated op Truth = of_truths op
operated op Unfit = Unfit

abbrev pub both : BinOp → Sort → Sort → Sort
both op one two = operated op (alike one two)

abbrev pub sort : Tree → Takes → Sort
sort (tree.number n at) takes = Number
sort (tree.truth b at) takes = Truth
sort (tree.variable name at) takes = named name takes
sort (tree.paren e at) takes = sort e takes
sort (tree.if_expr test first other at) takes =
    branches (sort test takes) (sort first takes) (sort other takes)
sort (tree.index base place at) takes = item (is_list base takes) (sort place takes)
sort (tree.prefix op e at) takes = prefixed op (sort e takes)
sort (tree.binary op l r at) takes = both op (sort l takes) (sort r takes)
sort (tree.call name args at) takes = called name (is_nil args)
sort other takes = Unfit
