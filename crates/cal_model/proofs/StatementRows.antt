-- Worked examples of statements, computed by the definition of execution.
use Rattle.std.proofs.Common.{◌≡◌, ℕ, refl, ℤ, pos, negsuc, List, [], ◌∷◌, true, codes}
use Rattle.std.specs.Prelude.{Some, None}
use Rattle.rvc_base.specs.declared.scalar.Scalar.TheVariants as scalar
use Rattle.rvc_base.specs.declared.trap.Trap.TheVariants.{DivideByZero, Overflow, IndexRange, TurnLimit}
use Rattle.cal_ast.specs.Tree as tree
use Rattle.cal_ast.specs.Tree.{Tree, listed}
use Rattle.cal_ast.specs.declared.expr.BinOp.TheVariants.{Lt, Add, Mul, Div}
use Rattle.cal_model.specs.Value.{Shape, Single, Many, Value, Num, Items, Values, Nil, Cons}
use Rattle.cal_model.specs.Outcome.{Out, Gives, Traps}
use Rattle.cal_model.specs.Env.{Var, Env, variable}
use Rattle.cal_model.specs.Expression.{Calls, eval}
use Rattle.cal_model.specs.Actor.{Fun, Proc}
use Rattle.cal_model.specs.Call.{calls_of}
use Rattle.cal_model.specs.Statement.{exec, runs_of}
use Rattle.cal_model.proofs.Rows.{n_, two, minus, name_, int_type, nothing}

abbrev pub int_ : Shape
int_ = Single (scalar.Int 32)

-- x is a variable of type uint(size=8), y a list of two lists of two numbers
abbrev pub globals_ : ℤ → Values → List Var
globals_ x y = variable (codes "x") (Single (scalar.Uint 8)) true (Num x)
    ∷ variable (codes "y") (Many 2 (Many 2 int_)) true (Items y) ∷ []

abbrev pub both : Value → Value → Value
both v w = Items (Cons v (Cons w Nil))

abbrev pair_of : ℤ → ℤ → Value
pair_of a b = both (Num (pos 0)) (Num (pos 0))

abbrev pub table : ℤ → ℤ → ℤ → ℤ → Values
table a b c d = Cons (both (Num a) (Num b)) (Cons (both (Num c) (Num d)) Nil)

abbrev pub zeros : Values
zeros = table (pos 0) (pos 0) (pos 0) (pos 0)

abbrev pub at_ : ℤ → Values → Env
at_ x y = record { globals = globals_ x y; locals = [] }

-- x := x + 1 twice over: p ( n ) adds n to x
abbrev pub add_ : Proc
add_ = record {
  name = codes "p";
  formals = record { name = codes "n"; shape = int_; start = None; changes = true } ∷ [];
  locals = record { name = codes "m"; shape = int_; start = Some (two Mul (name_ (codes "n")) (n_ 2)); changes = true } ∷ [];
  body = listed (tree.assign (tree.ident (codes "x") 0) tree.nil (two Add (name_ (codes "x")) (name_ (codes "m"))) 0 ∷ []);
}

-- function f ( int x ) --> int : x + 1 end
abbrev pub f_ : Fun
f_ = record {
  name = codes "f";
  formals = record { name = codes "x"; shape = int_; start = None; changes = true } ∷ [];
  locals = [];
  result = scalar.Int 32;
  body = two Add (name_ (codes "x")) (n_ 1);
}

abbrev pub calls_ : Calls
calls_ = calls_of (f_ ∷ [])

abbrev pub does : Tree → Env → ℕ → Out Env
does s env left = exec s calls_ (runs_of (add_ ∷ []) calls_) env left

abbrev pub set_x : Tree → Tree
set_x e = tree.assign (tree.ident (codes "x") 0) tree.nil e 0

abbrev pub set_y : Tree → Tree → Tree → Tree
set_y i j e = tree.assign (tree.ident (codes "y") 0) (listed (i ∷ j ∷ [])) e 0

wraps : does (set_x (two Add (name_ (codes "x")) (n_ 1))) (at_ (pos 255) zeros) 9 ≡ Gives (at_ (pos 0) zeros) 9
wraps = refl

sets_an_item : does (set_y (n_ 1) (n_ 0) (n_ 7)) (at_ (pos 0) zeros) 9 ≡ Gives (at_ (pos 0) (table (pos 0) (pos 0) (pos 7) (pos 0))) 9
sets_an_item = refl

-- the value is evaluated before the indices are tested
value_before_the_test : does (set_y (n_ 5) (n_ 0) (two Div (n_ 1) (n_ 0))) (at_ (pos 0) zeros) 9 ≡ Traps DivideByZero
value_before_the_test = refl

-- .. and after they are evaluated
indices_before_the_value : does (set_y (n_ 5) (two Add (n_ 170141183460469231731687303715884105727) (n_ 1)) (two Div (n_ 1) (n_ 0))) (at_ (pos 0) zeros) 9 ≡ Traps Overflow
indices_before_the_value = refl

outside : does (set_y (n_ 1) (n_ 2) (n_ 7)) (at_ (pos 0) zeros) 9 ≡ Traps IndexRange
outside = refl

below_0 : does (set_y (minus (n_ 1)) (n_ 0) (n_ 7)) (at_ (pos 0) zeros) 9 ≡ Traps IndexRange
below_0 = refl

abbrev pub each_ : Tree → Tree → Tree → Tree
each_ a b body = tree.foreach_stmt int_type (tree.ident (codes "i") 0) a b (listed (body ∷ [])) 0

-- foreach int i in 3 .. 5 do x := x * 10 + i end
goes_through_both_bounds : does (each_ (n_ 3) (n_ 5) (set_x (two Add (two Mul (name_ (codes "x")) (n_ 4)) (name_ (codes "i"))))) (at_ (pos 0) zeros) 9
    ≡ Gives (at_ (pos 69) zeros) 6
goes_through_both_bounds = refl

-- none if the second is lower
goes_nowhere : does (each_ (n_ 5) (n_ 4) (set_x (n_ 1))) (at_ (pos 0) zeros) 9 ≡ Gives (at_ (pos 0) zeros) 9
goes_nowhere = refl

bounds_once : does (each_ (n_ 1) (name_ (codes "x")) (set_x (n_ 9))) (at_ (pos 2) zeros) 9 ≡ Gives (at_ (pos 9) zeros) 7
bounds_once = refl

abbrev pub while_ : Tree
while_ = tree.while_stmt (two Lt (name_ (codes "x")) (n_ 3)) (listed (set_x (two Add (name_ (codes "x")) (n_ 1)) ∷ [])) 0

three_turns : does while_ (at_ (pos 0) zeros) 3 ≡ Gives (at_ (pos 3) zeros) 0
three_turns = refl

two_turns_are_too_few : does while_ (at_ (pos 0) zeros) 2 ≡ Traps TurnLimit
two_turns_are_too_few = refl

-- a procedure: its locals see its formals, and it changes the globals
adds_twice : does (tree.call_stmt (tree.ident (codes "p") 0) (listed (n_ 4 ∷ [])) 0) (at_ (pos 1) zeros) 9 ≡ Gives (at_ (pos 9) zeros) 8
adds_twice = refl

-- an inner name hides an outer one, and is gone after its block
hides : does (tree.block (listed (tree.var int_type (tree.ident (codes "x") 0) (tree.present (n_ 300)) true 0 ∷ [])) (listed (set_y (n_ 0) (n_ 0) (name_ (codes "x")) ∷ set_x (n_ 5) ∷ [])) 0) (at_ (pos 1) zeros) 9
    ≡ Gives (at_ (pos 1) (table (pos 300) (pos 0) (pos 0) (pos 0))) 9
hides = refl

-- f ( 2 ) is 3, and a call is a turn
calls_f : eval (tree.call (codes "f") (listed (n_ 2 ∷ [])) 0) calls_ nothing 9 ≡ Gives (Num (pos 3)) 8
calls_f = refl

-- the argument and the result are stored in their types
stores_its_result : eval (tree.call (codes "f") (listed (n_ 2147483647 ∷ [])) 0) calls_ nothing 9 ≡ Gives (Num (negsuc 2147483647)) 8
stores_its_result = refl
