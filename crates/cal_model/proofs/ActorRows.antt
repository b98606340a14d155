-- Worked examples of actors: their choices and firings, computed by the definitions.
use Rattle.std.proofs.Common.{◌≡◌, ℕ, refl, ℤ, pos, List, [], ◌∷◌, true, false, codes}
use Rattle.std.specs.Prelude.{Some, None}
use Rattle.rvc_base.specs.declared.scalar.Scalar.{Scalar}
use Rattle.rvc_base.specs.declared.scalar.Scalar.TheVariants as scalar
use Rattle.rvc_base.specs.declared.trap.Trap.TheVariants.{DivideByZero}
use Rattle.rvc_base.specs.Behaviour.{Choice, Waits, Picks, Faults}
use Rattle.rvc_base.specs.Turns.{max_turns}
use Rattle.cal_ast.specs.Tree as tree
use Rattle.cal_ast.specs.Tree.{Tree, listed}
use Rattle.cal_ast.specs.declared.expr.BinOp.TheVariants.{Eq, Ne, Lt, Ge, Gt, Add, Div}
use Rattle.cal_model.specs.Value.{BoolKind, Single, Num}
use Rattle.cal_model.specs.Outcome.{Out, Gives, Traps}
use Rattle.cal_model.specs.Env.{Var, variable}
use Rattle.cal_model.specs.Actor.{Port, Held, Pattern, Output, Action, Move, Actor}
use Rattle.cal_model.specs.Selection.{start_of, choice_among}
use Rattle.cal_model.specs.Firing.{Fired, body}
use Rattle.cal_model.specs.Rates.{need, give}
use Rattle.cal_model.specs.Kinding.{Fine, kind}
use Rattle.cal_model.specs.Sound.{names_of, with_patterns}
use Rattle.cal_model.proofs.Rows.{n_, two, name_}

abbrev pub byte : Scalar
byte = scalar.Uint 8

abbrev pub port_ : List ℕ → Port
port_ name = record { name = name; kind = byte }

abbrev pub takes_ : ℕ → List (List ℕ) → Pattern
takes_ port names = record { port = port; names = names; repeat = None }

abbrev pub sends_ : Tree → Output
sends_ e = record { port = 0; values = listed (e ∷ []); repeat = None }

-- an action with these patterns, guards and statements, which sends one value
abbrev pub acts_ : List (List ℕ) → List Pattern → List Tree → List Tree → Tree → Action
acts_ tag patterns guards statements e = record {
  tag = tag;
  patterns = patterns;
  outputs = sends_ e ∷ [];
  guards = guards;
  locals = [];
  body = listed statements;
  initialize = false;
}

abbrev pub actor_ : List Port → List Held → List Action → List (List ℕ) → List Move → List (ℕ × ℕ) → Actor
actor_ ins vars actions states moves pairs = record {
  class = codes "Example";
  ins = ins;
  outs = port_ (codes "Out") ∷ [];
  vars = vars;
  funs = [];
  procs = [];
  actions = actions;
  states = states;
  moves = moves;
  pairs = pairs;
}

-- what it chooses at first of these tokens, if its actions stand in this line
abbrev chooses : Actor → List ℕ → List (List ℤ) → Choice
chooses actor line u = choice_among actor (start_of actor) u line

abbrev after : Actor → List (List ℤ) → ℕ → Out Fired
after actor u a = body actor (start_of actor) u a

abbrev sent_in : ℕ → List Var → ℤ → Out Fired
sent_in at vars z = Gives (record { state = record { at = at; vars = vars }; sent = (z ∷ []) ∷ [] }) max_turns

-- ---- Peek: a guard looks at the second token

abbrev pub peek : Actor
peek = actor_ (port_ (codes "In") ∷ []) []
    (acts_ [] (takes_ 0 (codes "a" ∷ codes "b" ∷ []) ∷ []) (two Gt (name_ (codes "b")) (n_ 100) ∷ []) [] (name_ (codes "a")) ∷ []) [] [] []

peek_waits_for_two : chooses peek (0 ∷ []) ((pos 1 ∷ []) ∷ []) ≡ Waits
peek_waits_for_two = refl

peek_waits_for_more_than_100 : chooses peek (0 ∷ []) ((pos 1 ∷ pos 100 ∷ []) ∷ []) ≡ Waits
peek_waits_for_more_than_100 = refl

peek_fires : chooses peek (0 ∷ []) ((pos 1 ∷ pos 101 ∷ []) ∷ []) ≡ Picks 0
peek_fires = refl

peek_sends_the_first : after peek ((pos 1 ∷ pos 101 ∷ []) ∷ []) 0 ≡ sent_in 0 [] (pos 1)
peek_sends_the_first = refl

peek_takes_two : need peek 0 0 ≡ 2
peek_takes_two = refl

-- ---- Two: the higher action needs more tokens

abbrev pub hi : Action
hi = acts_ (codes "hi" ∷ []) (takes_ 0 (codes "a" ∷ codes "b" ∷ []) ∷ []) [] [] (two Add (name_ (codes "a")) (name_ (codes "b")))

abbrev pub lo : Action
lo = acts_ (codes "lo" ∷ []) (takes_ 0 (codes "a" ∷ []) ∷ []) [] [] (name_ (codes "a"))

abbrev pub hi_lo : Actor
hi_lo = actor_ (port_ (codes "In") ∷ []) [] (hi ∷ lo ∷ []) [] [] ((0, 1) ∷ [])

high_where_there_are_two : chooses hi_lo (0 ∷ 1 ∷ []) ((pos 1 ∷ pos 2 ∷ pos 3 ∷ []) ∷ []) ≡ Picks 0
high_where_there_are_two = refl

high_sends_the_sum : after hi_lo ((pos 1 ∷ pos 2 ∷ pos 3 ∷ []) ∷ []) 0 ≡ sent_in 0 [] (pos 3)
high_sends_the_sum = refl

low_where_there_is_one : chooses hi_lo (0 ∷ 1 ∷ []) ((pos 3 ∷ []) ∷ []) ≡ Picks 1
low_where_there_is_one = refl

-- ---- Alt: its state says which port comes next

abbrev pub s_ : ℤ → Var
s_ z = variable (codes "s") (Single (scalar.Uint 1)) true (Num z)

abbrev pub set_s : Tree → Tree
set_s e = tree.assign (tree.ident (codes "s") 0) tree.nil e 0

abbrev pub ta : Action
ta = acts_ (codes "ta" ∷ []) (takes_ 0 (codes "x" ∷ []) ∷ []) (two Eq (name_ (codes "s")) (n_ 0) ∷ []) (set_s (n_ 1) ∷ []) (name_ (codes "x"))

abbrev pub tb : Action
tb = acts_ (codes "tb" ∷ []) (takes_ 1 (codes "x" ∷ []) ∷ []) (two Ne (name_ (codes "s")) (n_ 0) ∷ []) (set_s (n_ 0) ∷ []) (name_ (codes "x"))

abbrev pub alt : Actor
alt = actor_ (port_ (codes "A") ∷ port_ (codes "B") ∷ []) (record { name = codes "s"; shape = Single (scalar.Uint 1); value = Num (pos 0); changes = true } ∷ [])
    (ta ∷ tb ∷ []) [] [] []

abbrev pub alt_tokens : List (List ℤ)
alt_tokens = (pos 1 ∷ pos 2 ∷ []) ∷ (pos 10 ∷ []) ∷ []

alt_begins_with_A : chooses alt (0 ∷ 1 ∷ []) alt_tokens ≡ Picks 0
alt_begins_with_A = refl

alt_sends_from_A : after alt alt_tokens 0 ≡ sent_in 0 (s_ (pos 1) ∷ []) (pos 1)
alt_sends_from_A = refl

alt_goes_on_with_B : choice_among alt (record { at = 0; vars = s_ (pos 1) ∷ [] }) ((pos 2 ∷ []) ∷ (pos 10 ∷ []) ∷ []) (0 ∷ 1 ∷ []) ≡ Picks 1
alt_goes_on_with_B = refl

alt_sends_from_B : body alt (record { at = 0; vars = s_ (pos 1) ∷ [] }) ((pos 2 ∷ []) ∷ (pos 10 ∷ []) ∷ []) 1 ≡ sent_in 0 (s_ (pos 0) ∷ []) (pos 10)
alt_sends_from_B = refl

-- ---- Fsm: a schedule, of which one action stands in no transition

abbrev pub fsm : Actor
fsm = actor_ (port_ (codes "In") ∷ []) []
    (acts_ (codes "a" ∷ codes "x" ∷ []) (takes_ 0 (codes "v" ∷ []) ∷ []) (two Lt (name_ (codes "v")) (n_ 10) ∷ []) [] (n_ 1)
    ∷ acts_ (codes "a" ∷ codes "y" ∷ []) (takes_ 0 (codes "v" ∷ []) ∷ []) (two Ge (name_ (codes "v")) (n_ 10) ∷ two Lt (name_ (codes "v")) (n_ 20) ∷ []) [] (n_ 2)
    ∷ acts_ (codes "b" ∷ []) (takes_ 0 (codes "v" ∷ []) ∷ []) (two Lt (name_ (codes "v")) (n_ 20) ∷ []) [] (n_ 3)
    ∷ acts_ [] (takes_ 0 (codes "v" ∷ []) ∷ []) (two Ge (name_ (codes "v")) (n_ 20) ∷ []) [] (name_ (codes "v")) ∷ [])
    (codes "s0" ∷ codes "s1" ∷ [])
    (record { from = 0; action = 0; to = 1 } ∷ record { from = 0; action = 1; to = 1 } ∷ record { from = 1; action = 2; to = 0 } ∷ []) []

abbrev fsm_at : ℕ → ℤ → Choice
fsm_at s v = choice_among fsm (record { at = s; vars = [] }) ((v ∷ []) ∷ []) (0 ∷ 1 ∷ 2 ∷ 3 ∷ [])

abbrev fsm_after : ℕ → ℤ → ℕ → Out Fired
fsm_after s v a = body fsm (record { at = s; vars = [] }) ((v ∷ []) ∷ []) a

fsm_5 : fsm_at 0 (pos 5) ≡ Picks 0
fsm_5 = refl

fsm_5_sends_1 : fsm_after 0 (pos 5) 0 ≡ sent_in 1 [] (pos 1)
fsm_5_sends_1 = refl

fsm_15 : fsm_at 1 (pos 15) ≡ Picks 2
fsm_15 = refl

fsm_15_sends_3 : fsm_after 1 (pos 15) 2 ≡ sent_in 0 [] (pos 3)
fsm_15_sends_3 = refl

fsm_30 : fsm_at 0 (pos 30) ≡ Picks 3
fsm_30 = refl

-- an untagged action doesn't change the state
fsm_30_sends_30 : fsm_after 0 (pos 30) 3 ≡ sent_in 0 [] (pos 30)
fsm_30_sends_30 = refl

fsm_12 : fsm_at 0 (pos 12) ≡ Picks 1
fsm_12 = refl

fsm_12_sends_2 : fsm_after 0 (pos 12) 1 ≡ sent_in 1 [] (pos 2)
fsm_12_sends_2 = refl

-- ---- Div: the body traps, and not the guards

abbrev pub divides : Actor
divides = actor_ (port_ (codes "In") ∷ []) []
    (acts_ [] (takes_ 0 (codes "a" ∷ codes "b" ∷ []) ∷ []) [] [] (two Div (name_ (codes "a")) (name_ (codes "b"))) ∷ []) [] [] []

ten_by_two : after divides ((pos 10 ∷ pos 2 ∷ []) ∷ []) 0 ≡ sent_in 0 [] (pos 5)
ten_by_two = refl

seven_by_none_is_chosen : chooses divides (0 ∷ []) ((pos 7 ∷ pos 0 ∷ []) ∷ []) ≡ Picks 0
seven_by_none_is_chosen = refl

seven_by_none_traps : after divides ((pos 7 ∷ pos 0 ∷ []) ∷ []) 0 ≡ Traps DivideByZero
seven_by_none_traps = refl

-- ---- repeated patterns and outputs: `In:[a, b] repeat 2 ==> Out:[b, a] repeat 2` swaps neighbours

abbrev pub swaps : Actor
swaps = actor_ (port_ (codes "In") ∷ []) [] (record {
  tag = [];
  patterns = record { port = 0; names = codes "a" ∷ codes "b" ∷ []; repeat = Some 2 } ∷ [];
  outputs = record { port = 0; values = listed (name_ (codes "b") ∷ name_ (codes "a") ∷ []); repeat = Some 2 } ∷ [];
  guards = [];
  locals = [];
  body = tree.nil;
  initialize = false;
} ∷ []) [] [] []

takes_four : need swaps 0 0 ≡ 4
takes_four = refl

gives_four : give swaps 0 0 ≡ 4
gives_four = refl

swaps_neighbours : after swaps ((pos 1 ∷ pos 2 ∷ pos 3 ∷ pos 4 ∷ []) ∷ []) 0
    ≡ Gives (record { state = record { at = 0; vars = [] }; sent = (pos 2 ∷ pos 1 ∷ pos 4 ∷ pos 3 ∷ []) ∷ [] }) max_turns
swaps_neighbours = refl

three_are_too_few : chooses swaps (0 ∷ []) ((pos 1 ∷ pos 2 ∷ pos 3 ∷ []) ∷ []) ≡ Waits
three_are_too_few = refl

-- ---- an `initialize` action fires first, and alone; then a guard traps

abbrev pub divides_6 : Action
divides_6 = acts_ [] (takes_ 0 (codes "a" ∷ []) ∷ []) (two Eq (two Div (n_ 6) (name_ (codes "a"))) (n_ 3) ∷ []) [] (n_ 1)

abbrev pub begins : Actor
begins = actor_ (port_ (codes "In") ∷ []) [] (record {
  tag = [];
  patterns = [];
  outputs = sends_ (n_ 300) ∷ [];
  guards = [];
  locals = [];
  body = tree.nil;
  initialize = true;
} ∷ divides_6 ∷ []) [] [] []

begins_fresh : chooses begins (0 ∷ 1 ∷ []) ((pos 2 ∷ []) ∷ []) ≡ Picks 0
begins_fresh = refl

-- what is sent is stored in the type of the port
begins_with_44 : after begins ((pos 2 ∷ []) ∷ []) 0 ≡ sent_in 0 [] (pos 44)
begins_with_44 = refl

never_again : choice_among begins (record { at = 0; vars = [] }) ((pos 2 ∷ []) ∷ []) (0 ∷ 1 ∷ []) ≡ Picks 1
never_again = refl

guard_is_false : choice_among begins (record { at = 0; vars = [] }) ((pos 3 ∷ []) ∷ []) (0 ∷ 1 ∷ []) ≡ Waits
guard_is_false = refl

guard_traps : choice_among begins (record { at = 0; vars = [] }) ((pos 0 ∷ []) ∷ []) (0 ∷ 1 ∷ []) ≡ Faults 1 DivideByZero
guard_traps = refl

-- ---- Twice: two pattern variables of one name, of which the later one is meant

-- In:[a], Flag:[a] ==> Out:[if a then 1 else 0 end]
abbrev twice_a : List Pattern
twice_a = takes_ 0 (codes "a" ∷ []) ∷ takes_ 1 (codes "a" ∷ []) ∷ []

abbrev twice : Actor
twice =
    actor_ (port_ (codes "In") ∷ record { name = codes "Flag"; kind = scalar.Bool } ∷ []) [] (acts_ [] twice_a [] [] (tree.if_expr (name_ (codes "a")) (n_ 1) (n_ 0) 0) ∷ []) [] [] []

twice_is_of_the_flag : kind (name_ (codes "a")) (with_patterns twice twice_a (names_of twice)) ≡ Fine BoolKind
twice_is_of_the_flag = refl

twice_sends_by_the_flag : after twice ((pos 0 ∷ []) ∷ (pos 1 ∷ []) ∷ []) 0 ≡ sent_in 0 [] (pos 1)
twice_sends_by_the_flag = refl

-- In:[a, a] ==> Out:[a]
twice_in_a_pattern : after (actor_ (port_ (codes "In") ∷ []) [] (acts_ [] (takes_ 0 (codes "a" ∷ codes "a" ∷ []) ∷ []) [] [] (name_ (codes "a")) ∷ []) [] [] []) ((pos 5 ∷ pos 6 ∷ []) ∷ []) 0 ≡ sent_in 0 [] (pos 6)
twice_in_a_pattern = refl
