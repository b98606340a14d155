-- What a literal of the code stands for.
-- Not trusted: no promise is read with it.
use Rattle.fnl_expr.specs.Given.{Literal, a_number, a_truth}
use Rattle.fnl_expr.specs.declared.literal.Literal.{Literal as TheLiteral}
use Rattle.fnl_expr.specs.declared.literal.Literal.TheVariants as literals

abbrev pub literal_of : TheLiteral → Literal
literal_of (literals.Number negative value) = a_number negative value
literal_of (literals.Truth value) = a_truth value
