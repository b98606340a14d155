-- Worked examples of what the certification rule refuses, computed by its definition.
use Rattle.std.proofs.Common.{◌≡◌, ℕ, refl, pos, List, [], ◌∷◌, Bool, true, false, codes}
use Rattle.std.specs.Prelude.{Some, None, ◌==◌, ◌&&◌}
use Rattle.rvc_base.specs.declared.scalar.Scalar.{Scalar}
use Rattle.rvc_base.specs.declared.scalar.Scalar.TheVariants as scalar
use Rattle.cal_ast.specs.Tree as tree
use Rattle.cal_ast.specs.Tree.{Tree}
use Rattle.cal_ast.specs.declared.expr.PrefixOp.TheVariants.{Not}
use Rattle.cal_ast.specs.declared.expr.BinOp.{BinOp}
use Rattle.cal_ast.specs.declared.expr.BinOp.TheVariants.{Eq, Ne, Lt, Le, Gt, Ge, Mul, Div}
use Rattle.cal_model.specs.Value.{Single, Num}
use Rattle.cal_model.specs.Actor.{Port, Held, Pattern, Action, Actor, Move}
use Rattle.cal_model.specs.Certified.{between, guard_names, range}
use Rattle.determinacy_cert.specs.declared.fault.Reason.{Reason}
use Rattle.determinacy_cert.specs.declared.fault.Reason.TheVariants.{C1, C2, C3, C4}
use Rattle.determinacy_cert.specs.Deciding.{never_both, same, exclude}
use Rattle.determinacy_cert.specs.Failing.{Failure, failures, first}

abbrev port_ : List ℕ → Scalar → Port
port_ name kind = record { name = name; kind = kind }

abbrev takes_ : ℕ → List (List ℕ) → Pattern
takes_ port names = record { port = port; names = names; repeat = None }

abbrev act_ : List (List ℕ) → List Pattern → List Tree → Action
act_ tag patterns guards = record { tag = tag; patterns = patterns; outputs = []; guards = guards; locals = []; body = tree.nil; initialize = false }

abbrev actor_ : List Port → List Held → List Action → List (List ℕ) → List Move → Actor
actor_ ins vars actions states moves =
    record { class = codes "Example"; ins = ins; outs = []; vars = vars; funs = []; procs = []; actions = actions; states = states; moves = moves; pairs = [] }

abbrev n_ : ℕ → Tree
n_ n = tree.number n 0

abbrev two : BinOp → Tree → Tree → Tree
two op l r = tree.binary op l r 0

abbrev name_ : List ℕ → Tree
name_ name = tree.variable name 0

-- none is above another
abbrev unranked : ℕ → ℕ → Bool
unranked a b = false

-- action 0 is above action 1
abbrev first_above : ℕ → ℕ → Bool
first_above a b = (a == 0) && (b == 1)

abbrev fails_at : ℕ → ℕ → ℕ → Reason → Failure
fails_at s a b reason = record { state = s; a = a; b = b; reason = reason }

-- ---- guards by themselves

-- In:[v, d] with the guard v / d = 1: d may be 0
abbrev divides : Actor
divides = actor_ (port_ (codes "In") (scalar.Uint 8) ∷ []) [] (act_ [] (takes_ 0 (codes "v" ∷ codes "d" ∷ []) ∷ []) (two Eq (two Div (name_ (codes "v")) (name_ (codes "d"))) (n_ 1) ∷ []) ∷ []) [] []

divides_fails : failures divides unranked ≡ fails_at 0 0 0 C4 ∷ []
divides_fails = refl

-- a * a > 0 of a number of 64 bits
abbrev squares : Scalar → Actor
squares t = actor_ (port_ (codes "In") t ∷ []) [] (act_ [] (takes_ 0 (codes "a" ∷ []) ∷ []) (two Gt (two Mul (name_ (codes "a")) (name_ (codes "a"))) (n_ 0) ∷ []) ∷ []) [] []

squares_fail : failures (squares (scalar.Uint 64)) unranked ≡ fails_at 0 0 0 C4 ∷ []
squares_fail = refl

squares_fit : failures (squares (scalar.Int 64)) unranked ≡ []
squares_fit = refl

-- a comparison is 0 or 1, whatever it compares
compares_to_a_truth : range (two Lt (name_ (codes "a")) (n_ 7)) (guard_names (squares (scalar.Uint 64)) (act_ [] (takes_ 0 (codes "a" ∷ []) ∷ []) [])) ≡ Some (between (pos 0) (pos 1))
compares_to_a_truth = refl

-- a call is refused first, whatever else the guards do
abbrev calls : Actor
calls = actor_ [] [] (act_ [] [] (two Eq (two Div (n_ 1) (n_ 0)) (n_ 1) ∷ tree.call (codes "f") tree.nil 0 ∷ []) ∷ []) [] []

calls_fail : failures calls unranked ≡ fails_at 0 0 0 C3 ∷ []
calls_fail = refl

-- ---- pairs

-- In:[x, y] above In:[x]: the higher one waits for more
abbrev hungry : Actor
hungry = actor_ (port_ (codes "In") (scalar.Uint 8) ∷ []) [] (act_ (codes "hi" ∷ []) (takes_ 0 (codes "x" ∷ codes "y" ∷ []) ∷ []) [] ∷ act_ (codes "lo" ∷ []) (takes_ 0 (codes "x" ∷ []) ∷ []) [] ∷ []) [] []

hungry_fails : first (failures hungry first_above) ≡ Some (fails_at 0 0 1 C1)
hungry_fails = refl

-- without a priority
unranked_fails : first (failures hungry unranked) ≡ Some (fails_at 0 0 1 C2)
unranked_fails = refl

-- In:[x] above In:[x, y]
abbrev modest : Actor
modest = actor_ (port_ (codes "In") (scalar.Uint 8) ∷ []) [] (act_ (codes "hi" ∷ []) (takes_ 0 (codes "x" ∷ []) ∷ []) [] ∷ act_ (codes "lo" ∷ []) (takes_ 0 (codes "x" ∷ codes "y" ∷ []) ∷ []) [] ∷ []) [] []

modest_is_fine : failures modest first_above ≡ []
modest_is_fine = refl

-- it takes turns by s, which is 0 or 1
abbrev alternates : ℕ → ℕ → Actor
alternates n m = actor_ (port_ (codes "A") (scalar.Uint 8) ∷ port_ (codes "B") (scalar.Uint 8) ∷ [])
    (record { name = codes "s"; shape = Single (scalar.Uint 1); value = Num (pos 0); changes = true } ∷ [])
    (act_ [] (takes_ 0 (codes "v" ∷ []) ∷ []) (two Eq (name_ (codes "s")) (n_ n) ∷ []) ∷ act_ [] (takes_ 1 (codes "v" ∷ []) ∷ []) (two Eq (name_ (codes "s")) (n_ m) ∷ []) ∷ []) [] []

takes_turns : failures (alternates 0 1) unranked ≡ []
takes_turns = refl

takes_no_turns : first (failures (alternates 0 0) unranked) ≡ Some (fails_at 0 0 1 C2)
takes_no_turns = refl

-- ---- states

-- In state 0 only action 0 is eligible, in state 1 both are.
abbrev staged : List Tree → Actor
staged guards = actor_ (port_ (codes "In") (scalar.Uint 8) ∷ []) []
    (act_ (codes "a" ∷ []) (takes_ 0 (codes "v" ∷ []) ∷ []) [] ∷ act_ (codes "b" ∷ []) (takes_ 0 (codes "v" ∷ []) ∷ []) guards ∷ [])
    (codes "one" ∷ codes "two" ∷ [])
    (record { from = 0; action = 0; to = 1 } ∷ record { from = 1; action = 0; to = 0 } ∷ record { from = 1; action = 1; to = 1 } ∷ [])

second_state_fails : first (failures (staged []) unranked) ≡ Some (fails_at 1 0 1 C2)
second_state_fails = refl

-- guards go before pairs
guards_go_first : first (failures (staged (two Eq (two Div (n_ 1) (n_ 0)) (n_ 1) ∷ [])) unranked) ≡ Some (fails_at 1 1 1 C4)
guards_go_first = refl

-- ---- comparisons

below_and_above : never_both Lt (pos 3) Gt (pos 2) ≡ true
below_and_above = refl

one_between : never_both Lt (pos 4) Gt (pos 2) ≡ false
one_between = refl

up_to_and_from : never_both Le (pos 3) Ge (pos 3) ≡ false
up_to_and_from = refl

equal_and_not : never_both Eq (pos 3) Ne (pos 3) ≡ true
equal_and_not = refl

both_below : never_both Lt (pos 3) Le (pos 2) ≡ false
both_below = refl

-- `v` is another token on another port
other_tokens : same (name_ (codes "v")) (takes_ 0 (codes "v" ∷ []) ∷ []) (name_ (codes "v")) (takes_ 1 (codes "v" ∷ []) ∷ []) ≡ false
other_tokens = refl

-- `v` and `w` are one token, the first of one port
one_token : same (name_ (codes "v")) (takes_ 0 (codes "v" ∷ []) ∷ []) (name_ (codes "w")) (takes_ 0 (codes "w" ∷ codes "v" ∷ []) ∷ []) ≡ true
one_token = refl

not_itself : exclude (tree.prefix Not (name_ (codes "b")) 3) [] (name_ (codes "b")) [] ≡ true
not_itself = refl

not_another : exclude (tree.prefix Not (name_ (codes "b")) 3) [] (name_ (codes "c")) [] ≡ false
not_another = refl
