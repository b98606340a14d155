-- What is seen behind variables, and among generators.
-- Trusted: part of what a promise means.
use Rattle.std.specs.Prelude.{List}
use Rattle.cal_ast.specs.declared.expr.Gen.{Gen}
use Rattle.cal_model.specs.Kinding.{Names}
use Rattle.const_env.specs.Counting.{declared_by, inner_variables, named_by, names_inside}
use Rattle.const_env.specs.declared.inside.Variable.{Variable}
use Rattle.const_env.specs.declared.names.Names.{Names as DeclaredNames}

-- what is seen behind variables, of which a later one stands inside
abbrev pub seen_behind : List Variable → DeclaredNames → Names
seen_behind xs names = names_inside (declared_by xs (inner_variables names.inner)) names.env.now

-- what is seen inside generators
abbrev pub seen_among : List Gen → DeclaredNames → Names
seen_among gens names = names_inside (named_by gens (inner_variables names.inner)) names.env.now
