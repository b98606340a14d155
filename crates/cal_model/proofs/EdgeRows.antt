-- Worked examples of evaluation and execution at their edges: numbers at both ends, the place of a turn, names that
-- hide one another, and constants.
use Rattle.std.proofs.Common.{◌≡◌, ℕ, refl, ℤ, pos, negsuc, List, [], ◌∷◌, true, false, codes}
use Rattle.std.specs.Prelude.{Some, None}
use Rattle.rvc_base.specs.declared.scalar.Scalar.TheVariants as scalar
use Rattle.rvc_base.specs.declared.trap.Trap.TheVariants.{DivideByZero, Overflow, ShiftRange, IndexRange, TurnLimit}
use Rattle.cal_ast.specs.Tree as tree
use Rattle.cal_ast.specs.Tree.{Tree, listed}
use Rattle.cal_ast.specs.declared.expr.BinOp.TheVariants.{Lt, Shl, Shr, Add, Sub, Div, Mod}
use Rattle.cal_model.specs.Value.{Shape, Single, Many, Value, Num, Items, Nil, Cons}
use Rattle.cal_model.specs.Outcome.{Out, Gives, Traps, Clashes}
use Rattle.cal_model.specs.Env.{Var, Env, variable}
use Rattle.cal_model.specs.Expression.{Calls, eval}
use Rattle.cal_model.specs.Actor.{Local, Fun, Proc}
use Rattle.cal_model.specs.Call.{calls_of}
use Rattle.cal_model.specs.Statement.{exec, runs_of}
use Rattle.cal_model.proofs.Rows.{n_, two, minus, name_, gen_, plain, nothing}
use Rattle.cal_model.proofs.StatementRows.{int_, both, zeros, at_, does, set_x, each_}

-- ---- numbers at both ends

abbrev greatest : Tree
greatest = n_ 170141183460469231731687303715884105727

abbrev least : Tree
least = two Sub (minus greatest) (n_ 1)

least_is : plain least 9 ≡ Gives (Num (negsuc 170141183460469231731687303715884105727)) 9
least_is = refl

no_such_literal : plain (n_ 170141183460469231731687303715884105728) 9 ≡ Traps Overflow
no_such_literal = refl

-- the literal is evaluated before the sign
nor_below_0 : plain (minus (n_ 170141183460469231731687303715884105728)) 9 ≡ Traps Overflow
nor_below_0 = refl

below_the_least : plain (two Sub least (n_ 1)) 9 ≡ Traps Overflow
below_the_least = refl

above_the_greatest : plain (two Add greatest (n_ 1)) 9 ≡ Traps Overflow
above_the_greatest = refl

neg_of_the_least : plain (minus least) 9 ≡ Traps Overflow
neg_of_the_least = refl

least_by_minus_1 : plain (two Div least (minus (n_ 1))) 9 ≡ Traps Overflow
least_by_minus_1 = refl

-- .. and yet nothing is left over
least_mod_minus_1 : plain (two Mod least (minus (n_ 1))) 9 ≡ Gives (Num (pos 0)) 9
least_mod_minus_1 = refl

least_by_1 : plain (two Div least (n_ 1)) 9 ≡ Gives (Num (negsuc 170141183460469231731687303715884105727)) 9
least_by_1 = refl

seven_mod_0 : plain (two Mod (n_ 7) (n_ 0)) 9 ≡ Traps DivideByZero
seven_mod_0 = refl

minus_7_mod_minus_2 : plain (two Mod (minus (n_ 7)) (minus (n_ 2))) 9 ≡ Gives (Num (negsuc 0)) 9
minus_7_mod_minus_2 = refl

seven_mod_minus_2 : plain (two Mod (n_ 7) (minus (n_ 2))) 9 ≡ Gives (Num (pos 1)) 9
seven_mod_minus_2 = refl

minus_7_by_minus_2 : plain (two Div (minus (n_ 7)) (minus (n_ 2))) 9 ≡ Gives (Num (pos 3)) 9
minus_7_by_minus_2 = refl

-- ---- shifts

up_by_minus_1 : plain (two Shl (n_ 1) (minus (n_ 1))) 9 ≡ Traps ShiftRange
up_by_minus_1 = refl

down_by_minus_1 : plain (two Shr (n_ 1) (minus (n_ 1))) 9 ≡ Traps ShiftRange
down_by_minus_1 = refl

-- even if the result would be 0 whatever the count
none_up_by_128 : plain (two Shl (n_ 0) (n_ 128)) 9 ≡ Traps ShiftRange
none_up_by_128 = refl

down_by_128 : plain (two Shr (n_ 1) (n_ 128)) 9 ≡ Traps ShiftRange
down_by_128 = refl

minus_1_up_by_127 : plain (two Shl (minus (n_ 1)) (n_ 127)) 9 ≡ Gives (Num (negsuc 170141183460469231731687303715884105727)) 9
minus_1_up_by_127 = refl

one_down_by_127 : plain (two Shr (n_ 1) (n_ 127)) 9 ≡ Gives (Num (pos 0)) 9
one_down_by_127 = refl

minus_1_down_by_127 : plain (two Shr (minus (n_ 1)) (n_ 127)) 9 ≡ Gives (Num (negsuc 0)) 9
minus_1_down_by_127 = refl

-- ---- lists and places in them

abbrev pair_ : Tree → Tree → Tree
pair_ a b = tree.list (listed (a ∷ b ∷ [])) 0

abbrev at_place : Tree → Tree → Tree
at_place base place = tree.index base place 0

abbrev by_0 : Tree
by_0 = two Div (n_ 1) (n_ 0)

abbrev two_lists : Tree
two_lists = pair_ (pair_ (n_ 1) (n_ 2)) (pair_ (n_ 3) (n_ 4))

second_list_first_item : plain (at_place (at_place two_lists (n_ 1)) (n_ 0)) 9 ≡ Gives (Num (pos 3)) 9
second_list_first_item = refl

a_whole_list : plain (at_place two_lists (n_ 1)) 9 ≡ Gives (both (Num (pos 3)) (Num (pos 4))) 9
a_whole_list = refl

-- the first place is tested before the second one is evaluated
outside_before_the_next_place : plain (at_place (at_place two_lists (n_ 2)) by_0) 9 ≡ Traps IndexRange
outside_before_the_next_place = refl

place_before_the_next_one : plain (at_place (at_place two_lists by_0) (n_ 2)) 9 ≡ Traps DivideByZero
place_before_the_next_one = refl

list_before_the_place : plain (at_place (pair_ (n_ 1) (two Shl (n_ 1) (n_ 128))) by_0) 9 ≡ Traps ShiftRange
list_before_the_place = refl

item_below_0 : plain (at_place (at_place two_lists (n_ 0)) (minus (n_ 1))) 9 ≡ Traps IndexRange
item_below_0 = refl

-- ---- comprehensions

-- [ i : for int i in 1 .. 2, for int i in 3 .. 4 ]: the inner one hides the outer one
later_generator_hides : plain (tree.comp (name_ (codes "i")) (listed (gen_ (codes "i") 1 2 ∷ gen_ (codes "i") 3 4 ∷ [])) 0) 9
    ≡ Gives (Items (Cons (Num (pos 3)) (Cons (Num (pos 4)) (Cons (Num (pos 3)) (Cons (Num (pos 4)) Nil))))) 5
later_generator_hides = refl

-- no element, and no turn
no_element : plain (tree.comp by_0 (listed (gen_ (codes "i") 2 1 ∷ [])) 0) 0 ≡ Gives (Items Nil) 0
no_element = refl

no_inner_element : plain (tree.comp by_0 (listed (gen_ (codes "i") 1 2 ∷ gen_ (codes "j") 3 2 ∷ [])) 0) 0 ≡ Gives (Items Nil) 0
no_inner_element = refl

no_outer_element : plain (tree.comp by_0 (listed (gen_ (codes "i") 2 1 ∷ gen_ (codes "j") 2 3 ∷ [])) 0) 0 ≡ Gives (Items Nil) 0
no_outer_element = refl

-- the turn comes before the element
turn_before_the_element : plain (tree.comp by_0 (listed (gen_ (codes "i") 1 1 ∷ [])) 0) 0 ≡ Traps TurnLimit
turn_before_the_element = refl

element_after_its_turn : plain (tree.comp by_0 (listed (gen_ (codes "i") 1 1 ∷ [])) 0) 1 ≡ Traps DivideByZero
element_after_its_turn = refl

-- ---- calls

abbrev formal_ : List ℕ → Shape → Local
formal_ name t = record { name = name; shape = t; start = None; changes = true }

abbrev sevens : Fun
sevens = record { name = codes "seven"; formals = []; locals = []; result = scalar.Int 32; body = n_ 7 }

abbrev starts : Fun
starts = record {
  name = codes "starts";
  formals = formal_ (codes "x") int_ ∷ [];
  locals = record { name = codes "y"; shape = int_; start = Some (two Div (name_ (codes "x")) (n_ 0)); changes = true } ∷ [];
  result = scalar.Int 32;
  body = n_ 7;
}

abbrev traps : Fun
traps = record { name = codes "traps"; formals = formal_ (codes "x") int_ ∷ []; locals = []; result = scalar.Int 32; body = two Div (name_ (codes "x")) (n_ 0) }

-- its locals and its result are stored in their types
abbrev narrow : Fun
narrow = record {
  name = codes "narrow";
  formals = formal_ (codes "x") (Single (scalar.Int 8)) ∷ [];
  locals = record { name = codes "y"; shape = Single (scalar.Int 8); start = Some (two Add (name_ (codes "x")) (n_ 184)); changes = true }
      ∷ record { name = codes "z"; shape = Single (scalar.Int 8); start = None; changes = true } ∷ [];
  result = scalar.Uint 4;
  body = two Add (name_ (codes "y")) (name_ (codes "z"));
}

abbrev functions : Calls
functions = calls_of (sevens ∷ starts ∷ traps ∷ narrow ∷ [])

abbrev call_ : List ℕ → List Tree → ℕ → Out Value
call_ name args left = eval (tree.call name (listed args) 0) functions nothing left

without_arguments : call_ (codes "seven") [] 9 ≡ Gives (Num (pos 7)) 8
without_arguments = refl

one_turn_is_enough : call_ (codes "seven") [] 1 ≡ Gives (Num (pos 7)) 0
one_turn_is_enough = refl

no_turn_is_not : call_ (codes "seven") [] 0 ≡ Traps TurnLimit
no_turn_is_not = refl

-- arguments come before the turn ..
arguments_before_the_turn : call_ (codes "traps") (by_0 ∷ []) 0 ≡ Traps DivideByZero
arguments_before_the_turn = refl

-- .. and locals and the body after it
start_after_the_turn : call_ (codes "starts") (n_ 1 ∷ []) 0 ≡ Traps TurnLimit
start_after_the_turn = refl

start_traps : call_ (codes "starts") (n_ 1 ∷ []) 1 ≡ Traps DivideByZero
start_traps = refl

body_after_the_turn : call_ (codes "traps") (n_ 1 ∷ []) 0 ≡ Traps TurnLimit
body_after_the_turn = refl

body_traps : call_ (codes "traps") (n_ 1 ∷ []) 1 ≡ Traps DivideByZero
body_traps = refl

-- 200 is -56, -56 + 184 is 128, which is -128, and that modulo 16 is 0
each_is_stored : call_ (codes "narrow") (n_ 200 ∷ []) 9 ≡ Gives (Num (pos 0)) 8
each_is_stored = refl

-- 12 + 184 is 196, which is -60, and that modulo 16 is 4
each_is_stored_too : call_ (codes "narrow") (n_ 12 ∷ []) 9 ≡ Gives (Num (pos 4)) 8
each_is_stored_too = refl

-- ---- loops

-- no turn is made, and none is needed
end_below_start : does (each_ (n_ 5) (n_ 4) (set_x (n_ 1))) (at_ (pos 0) zeros) 0 ≡ Gives (at_ (pos 0) zeros) 0
end_below_start = refl

end_far_below_start : does (each_ (n_ 5) (minus (n_ 5)) (set_x (n_ 1))) (at_ (pos 0) zeros) 0 ≡ Gives (at_ (pos 0) zeros) 0
end_far_below_start = refl

end_is_start : does (each_ (minus (n_ 5)) (minus (n_ 5)) (set_x (n_ 1))) (at_ (pos 0) zeros) 1 ≡ Gives (at_ (pos 1) zeros) 0
end_is_start = refl

bounds_before_the_turn : does (each_ (n_ 1) by_0 (set_x (n_ 1))) (at_ (pos 0) zeros) 0 ≡ Traps DivideByZero
bounds_before_the_turn = refl

foreach_turn_before_the_body : does (each_ (n_ 1) (n_ 1) (set_x by_0)) (at_ (pos 0) zeros) 0 ≡ Traps TurnLimit
foreach_turn_before_the_body = refl

abbrev while_below : Tree → Tree → Tree
while_below a body = tree.while_stmt (two Lt a (n_ 3)) (listed (body ∷ [])) 0

-- a condition that is false needs no turn
while_never : does (while_below (n_ 3) (set_x by_0)) (at_ (pos 0) zeros) 0 ≡ Gives (at_ (pos 0) zeros) 0
while_never = refl

condition_before_the_turn : does (while_below by_0 (set_x (n_ 1))) (at_ (pos 0) zeros) 0 ≡ Traps DivideByZero
condition_before_the_turn = refl

while_turn_before_the_body : does (while_below (n_ 1) (set_x by_0)) (at_ (pos 0) zeros) 0 ≡ Traps TurnLimit
while_turn_before_the_body = refl

-- ---- procedures

-- q ( x ) assigns its formal, which hides the variable; r ( ) calls p ( 3 ) twice
abbrev hides_x : Proc
hides_x = record { name = codes "q"; formals = formal_ (codes "x") int_ ∷ []; locals = []; body = listed (set_x (n_ 99) ∷ []) }

abbrev adds_to_x : Proc
adds_to_x = record { name = codes "p"; formals = formal_ (codes "n") int_ ∷ []; locals = []; body = listed (set_x (two Add (name_ (codes "x")) (name_ (codes "n"))) ∷ []) }

abbrev run_ : List ℕ → List Tree → Tree
run_ name args = tree.call_stmt (tree.ident name 0) (listed args) 0

abbrev adds_twice : Proc
adds_twice = record { name = codes "r"; formals = []; locals = []; body = listed (run_ (codes "p") (n_ 3 ∷ []) ∷ run_ (codes "p") (n_ 3 ∷ []) ∷ []) }

abbrev runs : Tree → Env → ℕ → Out Env
runs s env left = exec s functions (runs_of (hides_x ∷ adds_to_x ∷ adds_twice ∷ []) functions) env left

changes_the_state : runs (run_ (codes "p") (n_ 4 ∷ [])) (at_ (pos 1) zeros) 9 ≡ Gives (at_ (pos 5) zeros) 8
changes_the_state = refl

-- stored in the variable's type
wraps_the_state : runs (run_ (codes "p") (n_ 4 ∷ [])) (at_ (pos 254) zeros) 9 ≡ Gives (at_ (pos 2) zeros) 8
wraps_the_state = refl

through_another : runs (run_ (codes "r") []) (at_ (pos 1) zeros) 3 ≡ Gives (at_ (pos 7) zeros) 0
through_another = refl

a_turn_each : runs (run_ (codes "r") []) (at_ (pos 1) zeros) 2 ≡ Traps TurnLimit
a_turn_each = refl

changes_its_own : runs (run_ (codes "q") (n_ 4 ∷ [])) (at_ (pos 1) zeros) 9 ≡ Gives (at_ (pos 1) zeros) 8
changes_its_own = refl

arguments_before_the_turn_too : runs (run_ (codes "p") (by_0 ∷ [])) (at_ (pos 1) zeros) 0 ≡ Traps DivideByZero
arguments_before_the_turn_too = refl

-- ---- whole lists

abbrev bytes_ : Shape
bytes_ = Many 2 (Single (scalar.Uint 8))

-- z is a list of two bytes, and w a list of two of these
abbrev lists_ : Value → Value → Env
lists_ z w = record { globals = variable (codes "z") bytes_ true z ∷ variable (codes "w") (Many 2 bytes_) true w ∷ []; locals = [] }

abbrev numbers_ : ℤ → ℤ → Value
numbers_ a b = both (Num a) (Num b)

abbrev put_ : List ℕ → List Tree → Tree → Tree
put_ name places e = tree.assign (tree.ident name 0) (listed places) e 0

-- each item is stored in its type
a_list_is_assigned : does (put_ (codes "z") [] (pair_ (minus (n_ 1)) (n_ 300))) (lists_ (numbers_ (pos 1) (pos 2)) (both (numbers_ (pos 3) (pos 4)) (numbers_ (pos 5) (pos 6)))) 9
    ≡ Gives (lists_ (numbers_ (pos 255) (pos 44)) (both (numbers_ (pos 3) (pos 4)) (numbers_ (pos 5) (pos 6)))) 9
a_list_is_assigned = refl

an_inner_list_is_assigned : does (put_ (codes "w") (n_ 1 ∷ []) (pair_ (minus (n_ 1)) (n_ 300))) (lists_ (numbers_ (pos 1) (pos 2)) (both (numbers_ (pos 3) (pos 4)) (numbers_ (pos 5) (pos 6)))) 9
    ≡ Gives (lists_ (numbers_ (pos 1) (pos 2)) (both (numbers_ (pos 3) (pos 4)) (numbers_ (pos 255) (pos 44)))) 9
an_inner_list_is_assigned = refl

lists_of_lists_are_assigned : does (put_ (codes "w") [] (pair_ (name_ (codes "z")) (pair_ (n_ 256) (n_ 257)))) (lists_ (numbers_ (pos 1) (pos 2)) (both (numbers_ (pos 3) (pos 4)) (numbers_ (pos 5) (pos 6)))) 9
    ≡ Gives (lists_ (numbers_ (pos 1) (pos 2)) (both (numbers_ (pos 1) (pos 2)) (numbers_ (pos 0) (pos 1)))) 9
lists_of_lists_are_assigned = refl

-- ---- names declared with `=`

abbrev constant_c : Var
constant_c = variable (codes "c") int_ false (Num (pos 5))

abbrev set_c : Tree
set_c = put_ (codes "c") [] (n_ 1)

-- they are never assigned: there is no environment after it
constant_is_not_assigned : does set_c (record { globals = constant_c ∷ []; locals = [] }) 9 ≡ Clashes
constant_is_not_assigned = refl

-- nor if a constant hides a variable of the name
constant_hides_a_variable : does set_c (record { globals = variable (codes "c") int_ true (Num (pos 5)) ∷ []; locals = constant_c ∷ [] }) 9 ≡ Clashes
constant_hides_a_variable = refl

variable_hides_a_constant : does set_c (record { globals = constant_c ∷ []; locals = variable (codes "c") int_ true (Num (pos 6)) ∷ [] }) 9
    ≡ Gives (record { globals = constant_c ∷ []; locals = variable (codes "c") int_ true (Num (pos 1)) ∷ [] }) 9
variable_hides_a_constant = refl

-- the number of a `foreach` is a constant
counter_is_not_assigned : does (each_ (n_ 1) (n_ 2) (put_ (codes "i") [] (n_ 7))) (at_ (pos 0) zeros) 9 ≡ Clashes
counter_is_not_assigned = refl
