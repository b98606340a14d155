-- Worked examples of expressions, computed by the definition of evaluation.
use Rattle.std.proofs.Common.{◌≡◌, ℕ, refl, pos, negsuc, List, [], ◌∷◌, true, false, codes}
use Rattle.rvc_base.specs.declared.scalar.Scalar.TheVariants as scalar
use Rattle.rvc_base.specs.declared.trap.Trap.TheVariants.{DivideByZero, Overflow, ShiftRange, TurnLimit}
use Rattle.cal_ast.specs.Tree as tree
use Rattle.cal_ast.specs.Tree.{Tree, listed}
use Rattle.cal_ast.specs.declared.expr.PrefixOp.TheVariants.{Neg}
use Rattle.cal_ast.specs.declared.expr.BinOp.{BinOp}
use Rattle.cal_ast.specs.declared.expr.BinOp.TheVariants.{Or, And, Eq, Shl, Shr, Add, Mul, Div, Mod}
use Rattle.cal_model.specs.Value.{Single, Value, Num, Truth, Items, Nil, Cons, stored}
use Rattle.cal_model.specs.Outcome.{Out, Gives, Traps, Lacks}
use Rattle.cal_model.specs.Env.{Env}
use Rattle.cal_model.specs.Expression.{Calls, eval}

abbrev pub no_calls : Calls
no_calls globals name args left = Lacks

abbrev pub nothing : Env
nothing = record { globals = []; locals = [] }

-- what an expression without names gives, if so many turns are left
abbrev pub plain : Tree → ℕ → Out Value
plain e left = eval e no_calls nothing left

abbrev pub n_ : ℕ → Tree
n_ n = tree.number n 0

abbrev pub t_ : Tree
t_ = tree.truth true 0

abbrev pub f_ : Tree
f_ = tree.truth false 0

abbrev pub two : BinOp → Tree → Tree → Tree
two op a b = tree.binary op a b 0

abbrev pub minus : Tree → Tree
minus e = tree.prefix Neg e 0

rounds_towards_zero : plain (two Div (minus (n_ 7)) (n_ 2)) 9 ≡ Gives (Num (negsuc 2)) 9
rounds_towards_zero = refl

rest_of_minus_seven : plain (two Mod (minus (n_ 7)) (n_ 2)) 9 ≡ Gives (Num (negsuc 0)) 9
rest_of_minus_seven = refl

shifts_down : plain (two Shr (minus (n_ 7)) (n_ 1)) 9 ≡ Gives (Num (negsuc 3)) 9
shifts_down = refl

stores_wrapped : stored (Single (scalar.Int 8)) (Num (pos 200)) ≡ Num (negsuc 55)
stores_wrapped = refl

-- what fits 64 bits, and what fits a number of the language
power_of_62 : plain (two Shl (n_ 1) (n_ 62)) 9 ≡ Gives (Num (pos 4611686018427387904)) 9
power_of_62 = refl

power_of_63 : plain (two Shl (n_ 1) (n_ 63)) 9 ≡ Gives (Num (pos 9223372036854775808)) 9
power_of_63 = refl

power_of_64 : plain (two Shl (n_ 1) (n_ 64)) 9 ≡ Gives (Num (pos 18446744073709551616)) 9
power_of_64 = refl

greatest_power : plain (two Shl (n_ 1) (n_ 126)) 9 ≡ Gives (Num (pos 85070591730234615865843651857942052864)) 9
greatest_power = refl

too_great_a_power : plain (two Shl (n_ 1) (n_ 127)) 9 ≡ Traps Overflow
too_great_a_power = refl

too_far : plain (two Shl (n_ 1) (n_ 128)) 9 ≡ Traps ShiftRange
too_far = refl

-- 2 ^ 63 * 2 ^ 63 and 2 ^ 63 * 2 ^ 64, with either sign
great_product : plain (two Mul (n_ 9223372036854775808) (n_ 9223372036854775808)) 9 ≡ Gives (Num (pos 85070591730234615865843651857942052864)) 9
great_product = refl

too_great_a_product : plain (two Mul (n_ 9223372036854775808) (n_ 18446744073709551616)) 9 ≡ Traps Overflow
too_great_a_product = refl

least_product : plain (two Mul (minus (n_ 9223372036854775808)) (n_ 18446744073709551616)) 9 ≡ Gives (Num (negsuc 170141183460469231731687303715884105727)) 9
least_product = refl

-- the right side would trap
and_ends_early : plain (two And f_ (two Eq (two Div (n_ 1) (n_ 0)) (n_ 1))) 9 ≡ Gives (Truth false) 9
and_ends_early = refl

or_ends_early : plain (two Or t_ (two Eq (two Div (n_ 1) (n_ 0)) (n_ 1))) 9 ≡ Gives (Truth true) 9
or_ends_early = refl

and_goes_on : plain (two And t_ (two Eq (two Div (n_ 1) (n_ 0)) (n_ 1))) 9 ≡ Traps DivideByZero
and_goes_on = refl

abbrev pub int_type : Tree
int_type = tree.type_of (tree.ident (codes "int") 0) tree.nil 0

abbrev pub name_ : List ℕ → Tree
name_ text = tree.variable text 0

abbrev pub gen_ : List ℕ → ℕ → ℕ → Tree
gen_ name a b = tree.gen int_type (tree.ident name 0) (n_ a) (n_ b) 0

-- [ i * 10 + j : for int i in 1 .. 2, for int j in 3 .. 4 ] takes four turns
first_generator_is_outermost : plain (tree.comp (two Add (two Mul (name_ (codes "i")) (n_ 10)) (name_ (codes "j"))) (listed (gen_ (codes "i") 1 2 ∷ gen_ (codes "j") 3 4 ∷ [])) 0) 9
    ≡ Gives (Items (Cons (Num (pos 13)) (Cons (Num (pos 14)) (Cons (Num (pos 23)) (Cons (Num (pos 24)) Nil))))) 5
first_generator_is_outermost = refl

one_turn_too_many : plain (tree.comp (n_ 5) (listed (gen_ (codes "i") 1 4 ∷ [])) 0) 3 ≡ Traps TurnLimit
one_turn_too_many = refl
