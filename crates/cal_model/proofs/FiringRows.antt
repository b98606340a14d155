-- Worked examples of firings: each step of small actors by the rules of selection and of firing, with their
-- priorities.
use Rattle.std.proofs.Common.{◌≡◌, ℕ, refl, ℤ, pos, List, [], ◌∷◌, true, false, codes, arith}
use Rattle.std.specs.Prelude.{Option, Some, None}
use Rattle.rvc_base.specs.declared.scalar.Scalar.TheVariants as scalar
use Rattle.rvc_base.specs.declared.trap.Trap.TheVariants.{DivideByZero}
use Rattle.rvc_base.specs.Behaviour.{Waits, Picks, Faults, Effect, Fires, TrapsInGuard, TrapsInBody}
use Rattle.rvc_base.specs.Turns as turns
use Rattle.cal_ast.specs.Tree as tree
use Rattle.cal_ast.specs.Tree.{listed}
use Rattle.cal_ast.specs.declared.expr.BinOp.TheVariants.{Eq, Lt, Add}
use Rattle.cal_model.specs.Value.{Single, Num}
use Rattle.cal_model.specs.Env.{Var, variable}
use Rattle.cal_model.specs.Actor.{Proc, Actor}
use Rattle.cal_model.specs.Eligible.{eligible, next}
use Rattle.cal_model.specs.Selection.{State, start_of, Priorities, is_exposed, choice}
use Rattle.cal_model.specs.Firing.{effect}
use Rattle.cal_model.specs.Rates.{need}
use Rattle.cal_model.proofs.Rows.{n_, two, name_}
use Rattle.cal_model.proofs.ActorRows.{byte, port_, takes_, sends_, acts_, actor_, peek, hi_lo, s_, alt, fsm, divides, begins}
use Rattle.cal_model.proofs.PriorityRows.{unranked, ranked}

abbrev in_state : ℕ → List Var → State
in_state at vars = record { at = at; vars = vars }

-- the action fires: it leaves this state, and sends one token to the one port
abbrev fires_ : ℕ → List Var → ℤ → Option (Effect State)
fires_ at vars z = Some (Fires (in_state at vars) ((z ∷ []) ∷ []))

-- tokens on one port
abbrev on_in : List ℤ → List (List ℤ)
on_in us = us ∷ []

-- ---- Peek: a guard looks at the second token

abbrev peek_order : Priorities peek
peek_order = unranked peek refl

abbrev peek_start : State
peek_start = in_state 0 []

peek_starts : start_of peek ≡ peek_start
peek_starts = refl

peek_waits_at_one : choice peek peek_order peek_start (on_in (pos 1 ∷ [])) ≡ Waits
peek_waits_at_one = refl

peek_does_nothing_at_one : effect peek peek_order peek_start (on_in (pos 1 ∷ [])) 0 ≡ None
peek_does_nothing_at_one = refl

peek_waits_at_100 : choice peek peek_order peek_start (on_in (pos 1 ∷ pos 100 ∷ [])) ≡ Waits
peek_waits_at_100 = refl

-- its guard is false, so it does nothing though it is exposed
peek_does_nothing_at_100 : effect peek peek_order peek_start (on_in (pos 1 ∷ pos 100 ∷ [])) 0 ≡ None
peek_does_nothing_at_100 = refl

peek_is_exposed_at_100 : is_exposed peek peek_order peek_start (on_in (pos 1 ∷ pos 100 ∷ [])) 0 ≡ true
peek_is_exposed_at_100 = refl

peek_picks_at_101 : choice peek peek_order peek_start (on_in (pos 1 ∷ pos 101 ∷ [])) ≡ Picks 0
peek_picks_at_101 = refl

peek_fires_at_101 : effect peek peek_order peek_start (on_in (pos 1 ∷ pos 101 ∷ [])) 0 ≡ fires_ 0 [] (pos 1)
peek_fires_at_101 = refl

peek_waits_after : choice peek peek_order peek_start (on_in []) ≡ Waits
peek_waits_after = refl

-- ---- Two: the higher action needs more tokens

abbrev two_order : Priorities hi_lo
two_order = ranked hi_lo 0 1 refl (omega arith)

abbrev two_start : State
two_start = in_state 0 []

two_starts : start_of hi_lo ≡ two_start
two_starts = refl

hi_is_picked : choice hi_lo two_order two_start (on_in (pos 1 ∷ pos 2 ∷ pos 3 ∷ [])) ≡ Picks 0
hi_is_picked = refl

hi_fires : effect hi_lo two_order two_start (on_in (pos 1 ∷ pos 2 ∷ pos 3 ∷ [])) 0 ≡ fires_ 0 [] (pos 3)
hi_fires = refl

hi_takes_two : need hi_lo 0 0 ≡ 2
hi_takes_two = refl

-- the lower one has its tokens, and isn't exposed: the higher one is enabled
lo_is_eligible : eligible hi_lo 0 1 ≡ true
lo_is_eligible = refl

lo_is_not_exposed : is_exposed hi_lo two_order two_start (on_in (pos 1 ∷ pos 2 ∷ [])) 1 ≡ false
lo_is_not_exposed = refl

lo_does_nothing : effect hi_lo two_order two_start (on_in (pos 1 ∷ pos 2 ∷ [])) 1 ≡ None
lo_does_nothing = refl

lo_does_nothing_at_three : effect hi_lo two_order two_start (on_in (pos 1 ∷ pos 2 ∷ pos 3 ∷ [])) 1 ≡ None
lo_does_nothing_at_three = refl

-- one token is left
lo_is_picked : choice hi_lo two_order two_start (on_in (pos 3 ∷ [])) ≡ Picks 1
lo_is_picked = refl

hi_lacks_a_token : effect hi_lo two_order two_start (on_in (pos 3 ∷ [])) 0 ≡ None
hi_lacks_a_token = refl

lo_fires : effect hi_lo two_order two_start (on_in (pos 3 ∷ [])) 1 ≡ fires_ 0 [] (pos 3)
lo_fires = refl

lo_takes_one : need hi_lo 1 0 ≡ 1
lo_takes_one = refl

two_waits_after : choice hi_lo two_order two_start (on_in []) ≡ Waits
two_waits_after = refl

-- ---- Alt: its state says which port comes next

abbrev alt_order : Priorities alt
alt_order = unranked alt refl

-- tokens on A and on B
abbrev on_a_and_b : List ℤ → List ℤ → List (List ℤ)
on_a_and_b us vs = us ∷ vs ∷ []

alt_starts : start_of alt ≡ in_state 0 (s_ (pos 0) ∷ [])
alt_starts = refl

a_is_first : choice alt alt_order (in_state 0 (s_ (pos 0) ∷ [])) (on_a_and_b (pos 1 ∷ pos 2 ∷ []) (pos 10 ∷ [])) ≡ Picks 0
a_is_first = refl

a_sends_1 : effect alt alt_order (in_state 0 (s_ (pos 0) ∷ [])) (on_a_and_b (pos 1 ∷ pos 2 ∷ []) (pos 10 ∷ [])) 0 ≡ fires_ 0 (s_ (pos 1) ∷ []) (pos 1)
a_sends_1 = refl

b_is_not_first : effect alt alt_order (in_state 0 (s_ (pos 0) ∷ [])) (on_a_and_b (pos 1 ∷ pos 2 ∷ []) (pos 10 ∷ [])) 1 ≡ None
b_is_not_first = refl

b_is_second : choice alt alt_order (in_state 0 (s_ (pos 1) ∷ [])) (on_a_and_b (pos 2 ∷ []) (pos 10 ∷ [])) ≡ Picks 1
b_is_second = refl

b_sends_10 : effect alt alt_order (in_state 0 (s_ (pos 1) ∷ [])) (on_a_and_b (pos 2 ∷ []) (pos 10 ∷ [])) 1 ≡ fires_ 0 (s_ (pos 0) ∷ []) (pos 10)
b_sends_10 = refl

a_is_third : choice alt alt_order (in_state 0 (s_ (pos 0) ∷ [])) (on_a_and_b (pos 2 ∷ []) []) ≡ Picks 0
a_is_third = refl

a_sends_2 : effect alt alt_order (in_state 0 (s_ (pos 0) ∷ [])) (on_a_and_b (pos 2 ∷ []) []) 0 ≡ fires_ 0 (s_ (pos 1) ∷ []) (pos 2)
a_sends_2 = refl

alt_waits_after : choice alt alt_order (in_state 0 (s_ (pos 1) ∷ [])) (on_a_and_b [] []) ≡ Waits
alt_waits_after = refl

-- it waits for B, whatever stands on A
alt_waits_for_b : choice alt alt_order (in_state 0 (s_ (pos 1) ∷ [])) (on_a_and_b (pos 2 ∷ pos 3 ∷ []) []) ≡ Waits
alt_waits_for_b = refl

-- each takes one token of its own port, and none of the other
a_takes_of_A : (need alt 0 0 ≡ 1) × (need alt 0 1 ≡ 0)
a_takes_of_A = (refl, refl)

b_takes_of_B : (need alt 1 0 ≡ 0) × (need alt 1 1 ≡ 1)
b_takes_of_B = (refl, refl)

-- ---- Fsm: a schedule, of which one action stands in no transition

abbrev fsm_order : Priorities fsm
fsm_order = unranked fsm refl

fsm_starts : start_of fsm ≡ in_state 0 []
fsm_starts = refl

first_token : choice fsm fsm_order (in_state 0 []) (on_in (pos 5 ∷ pos 15 ∷ pos 30 ∷ pos 12 ∷ pos 3 ∷ [])) ≡ Picks 0
first_token = refl

first_firing : effect fsm fsm_order (in_state 0 []) (on_in (pos 5 ∷ pos 15 ∷ pos 30 ∷ pos 12 ∷ pos 3 ∷ [])) 0 ≡ fires_ 1 [] (pos 1)
first_firing = refl

second_token : choice fsm fsm_order (in_state 1 []) (on_in (pos 15 ∷ pos 30 ∷ pos 12 ∷ pos 3 ∷ [])) ≡ Picks 2
second_token = refl

second_firing : effect fsm fsm_order (in_state 1 []) (on_in (pos 15 ∷ pos 30 ∷ pos 12 ∷ pos 3 ∷ [])) 2 ≡ fires_ 0 [] (pos 3)
second_firing = refl

third_token : choice fsm fsm_order (in_state 0 []) (on_in (pos 30 ∷ pos 12 ∷ pos 3 ∷ [])) ≡ Picks 3
third_token = refl

-- an untagged action doesn't change the state
third_firing : effect fsm fsm_order (in_state 0 []) (on_in (pos 30 ∷ pos 12 ∷ pos 3 ∷ [])) 3 ≡ fires_ 0 [] (pos 30)
third_firing = refl

fourth_token : choice fsm fsm_order (in_state 0 []) (on_in (pos 12 ∷ pos 3 ∷ [])) ≡ Picks 1
fourth_token = refl

fourth_firing : effect fsm fsm_order (in_state 0 []) (on_in (pos 12 ∷ pos 3 ∷ [])) 1 ≡ fires_ 1 [] (pos 2)
fourth_firing = refl

-- 3 is below 10, and in the second state the action for that isn't eligible
fifth_token : choice fsm fsm_order (in_state 1 []) (on_in (pos 3 ∷ [])) ≡ Picks 2
fifth_token = refl

fifth_is_not_for_the_first : (eligible fsm 1 0 ≡ false) × (effect fsm fsm_order (in_state 1 []) (on_in (pos 3 ∷ [])) 0 ≡ None)
fifth_is_not_for_the_first = (refl, refl)

fifth_firing : effect fsm fsm_order (in_state 1 []) (on_in (pos 3 ∷ [])) 2 ≡ fires_ 0 [] (pos 3)
fifth_firing = refl

fsm_waits_after : choice fsm fsm_order (in_state 0 []) (on_in []) ≡ Waits
fsm_waits_after = refl

-- ---- Div: the outputs trap, and not the guards

abbrev divides_order : Priorities divides
divides_order = unranked divides refl

divides_starts : start_of divides ≡ in_state 0 []
divides_starts = refl

abbrev six_tokens : List (List ℤ)
six_tokens = on_in (pos 10 ∷ pos 2 ∷ pos 7 ∷ pos 0 ∷ pos 9 ∷ pos 3 ∷ [])

abbrev four_tokens : List (List ℤ)
four_tokens = on_in (pos 7 ∷ pos 0 ∷ pos 9 ∷ pos 3 ∷ [])

ten_by_two_is_picked : choice divides divides_order (in_state 0 []) six_tokens ≡ Picks 0
ten_by_two_is_picked = refl

ten_by_two_is_5 : effect divides divides_order (in_state 0 []) six_tokens 0 ≡ fires_ 0 [] (pos 5)
ten_by_two_is_5 = refl

seven_by_none_is_picked : choice divides divides_order (in_state 0 []) four_tokens ≡ Picks 0
seven_by_none_is_picked = refl

seven_by_none_traps : effect divides divides_order (in_state 0 []) four_tokens 0 ≡ Some (TrapsInBody DivideByZero)
seven_by_none_traps = refl

-- ---- Race: two guards and a priority

abbrev counter : ℤ → Var
counter z = variable (codes "n") (Single (scalar.Uint 2)) true (Num z)

abbrev set_n : ℕ → tree.Tree
set_n k = tree.assign (tree.ident (codes "n") 0) tree.nil (n_ k) 0

abbrev n_is_0 : tree.Tree
n_is_0 = two Eq (name_ (codes "n")) (n_ 0)

abbrev race : Actor
race = actor_ (port_ (codes "In") ∷ []) (record { name = codes "n"; shape = Single (scalar.Uint 2); value = Num (pos 0); changes = true } ∷ [])
    (record { tag = codes "hi" ∷ []; patterns = takes_ 0 (codes "x" ∷ []) ∷ []; outputs = []; guards = n_is_0 ∷ []; locals = []; body = listed (set_n 2 ∷ []); initialize = false }
    ∷ acts_ (codes "lo" ∷ []) [] (n_is_0 ∷ []) (set_n 1 ∷ []) (n_ 1) ∷ []) [] [] ((0, 1) ∷ [])

abbrev race_order : Priorities race
race_order = ranked race 0 1 refl (omega arith)

race_starts : start_of race ≡ in_state 0 (counter (pos 0) ∷ [])
race_starts = refl

lo_races : choice race race_order (in_state 0 (counter (pos 0) ∷ [])) (on_in []) ≡ Picks 1
lo_races = refl

lo_sends_1 : effect race race_order (in_state 0 (counter (pos 0) ∷ [])) (on_in []) 1 ≡ fires_ 0 (counter (pos 1) ∷ []) (pos 1)
lo_sends_1 = refl

-- a token that arrives before it decides otherwise
hi_races : choice race race_order (in_state 0 (counter (pos 0) ∷ [])) (on_in (pos 1 ∷ [])) ≡ Picks 0
hi_races = refl

hi_sends_nothing : effect race race_order (in_state 0 (counter (pos 0) ∷ [])) (on_in (pos 1 ∷ [])) 0 ≡ Some (Fires (in_state 0 (counter (pos 2) ∷ [])) ([] ∷ []))
hi_sends_nothing = refl

lo_lost : effect race race_order (in_state 0 (counter (pos 0) ∷ [])) (on_in (pos 1 ∷ [])) 1 ≡ None
lo_lost = refl

race_is_over : choice race race_order (in_state 0 (counter (pos 1) ∷ [])) (on_in (pos 1 ∷ [])) ≡ Waits
race_is_over = refl

-- ---- a guard over repeated patterns: a and b are lists of every second token

abbrev weaves : Actor
weaves = actor_ (port_ (codes "In") ∷ []) [] (record {
  tag = [];
  patterns = record { port = 0; names = codes "a" ∷ codes "b" ∷ []; repeat = Some 2 } ∷ [];
  outputs = sends_ (tree.index (name_ (codes "a")) (n_ 1) 0) ∷ [];
  guards = two Lt (tree.index (name_ (codes "a")) (n_ 0) 0) (tree.index (name_ (codes "b")) (n_ 1) 0) ∷ [];
  locals = [];
  body = tree.nil;
  initialize = false;
} ∷ []) [] [] []

abbrev weaves_order : Priorities weaves
weaves_order = unranked weaves refl

weaves_takes_four : need weaves 0 0 ≡ 4
weaves_takes_four = refl

-- 1 is below 4
weaves_is_picked : choice weaves weaves_order (in_state 0 []) (on_in (pos 1 ∷ pos 2 ∷ pos 3 ∷ pos 4 ∷ [])) ≡ Picks 0
weaves_is_picked = refl

weaves_sends_the_third : effect weaves weaves_order (in_state 0 []) (on_in (pos 1 ∷ pos 2 ∷ pos 3 ∷ pos 4 ∷ [])) 0 ≡ fires_ 0 [] (pos 3)
weaves_sends_the_third = refl

-- 5 isn't
weaves_waits : choice weaves weaves_order (in_state 0 []) (on_in (pos 5 ∷ pos 6 ∷ pos 7 ∷ pos 4 ∷ [])) ≡ Waits
weaves_waits = refl

weaves_does_nothing : effect weaves weaves_order (in_state 0 []) (on_in (pos 5 ∷ pos 6 ∷ pos 7 ∷ pos 4 ∷ [])) 0 ≡ None
weaves_does_nothing = refl

weaves_lacks_a_token : choice weaves weaves_order (in_state 0 []) (on_in (pos 1 ∷ pos 2 ∷ pos 3 ∷ [])) ≡ Waits
weaves_lacks_a_token = refl

-- ---- a tagged `initialize` action under a schedule: it alone fires at first, and never again

abbrev opens : Actor
opens = actor_ (port_ (codes "In") ∷ []) []
    (record { tag = codes "i" ∷ []; patterns = []; outputs = sends_ (n_ 7) ∷ []; guards = []; locals = []; body = tree.nil; initialize = true }
    ∷ acts_ (codes "a" ∷ []) (takes_ 0 (codes "x" ∷ []) ∷ []) [] [] (name_ (codes "x"))
    ∷ acts_ [] (takes_ 0 (codes "x" ∷ codes "y" ∷ []) ∷ []) [] [] (name_ (codes "y")) ∷ [])
    (codes "s0" ∷ codes "s1" ∷ [])
    (record { from = 0; action = 1; to = 1 } ∷ record { from = 1; action = 0; to = 0 } ∷ []) []

abbrev opens_order : Priorities opens
opens_order = unranked opens refl

-- the state of a fresh instance comes after the two of the schedule
opens_starts : start_of opens ≡ in_state 2 []
opens_starts = refl

i_leads_to_the_first_state : next opens 2 0 ≡ Some 0
i_leads_to_the_first_state = refl

i_is_alone : (eligible opens 2 0 ≡ true) × (eligible opens 2 1 ≡ false) × (eligible opens 2 2 ≡ false)
i_is_alone = (refl, refl, refl)

i_is_picked : choice opens opens_order (in_state 2 []) (on_in (pos 8 ∷ pos 9 ∷ [])) ≡ Picks 0
i_is_picked = refl

i_sends_7 : effect opens opens_order (in_state 2 []) (on_in (pos 8 ∷ pos 9 ∷ [])) 0 ≡ fires_ 0 [] (pos 7)
i_sends_7 = refl

others_are_not_yet : (effect opens opens_order (in_state 2 []) (on_in (pos 8 ∷ pos 9 ∷ [])) 1 ≡ None) × (effect opens opens_order (in_state 2 []) (on_in (pos 8 ∷ pos 9 ∷ [])) 2 ≡ None)
others_are_not_yet = (refl, refl)

-- in no other state, though a transition names it
i_is_never_again : (eligible opens 0 0 ≡ false) × (eligible opens 1 0 ≡ false)
i_is_never_again = (refl, refl)

then_by_the_schedule : effect opens opens_order (in_state 0 []) (on_in (pos 8 ∷ pos 9 ∷ [])) 1 ≡ fires_ 1 [] (pos 8)
then_by_the_schedule = refl

untagged_in_the_second_state : (choice opens opens_order (in_state 1 []) (on_in (pos 8 ∷ pos 9 ∷ [])) ≡ Picks 2) × (effect opens opens_order (in_state 1 []) (on_in (pos 8 ∷ pos 9 ∷ [])) 2 ≡ fires_ 1 [] (pos 9))
untagged_in_the_second_state = (refl, refl)

-- ---- an `initialize` action without a schedule; then a guard that traps

abbrev begins_order : Priorities begins
begins_order = unranked begins refl

begins_starts : start_of begins ≡ in_state 1 []
begins_starts = refl

begins_sends_44 : effect begins begins_order (in_state 1 []) (on_in (pos 2 ∷ [])) 0 ≡ fires_ 0 [] (pos 44)
begins_sends_44 = refl

begins_goes_on : effect begins begins_order (in_state 0 []) (on_in (pos 2 ∷ [])) 1 ≡ fires_ 0 [] (pos 1)
begins_goes_on = refl

begins_has_a_guard : effect begins begins_order (in_state 0 []) (on_in (pos 3 ∷ [])) 1 ≡ None
begins_has_a_guard = refl

begins_faults : choice begins begins_order (in_state 0 []) (on_in (pos 0 ∷ [])) ≡ Faults 1 DivideByZero
begins_faults = refl

begins_traps_in_its_guard : effect begins begins_order (in_state 0 []) (on_in (pos 0 ∷ [])) 1 ≡ Some (TrapsInGuard DivideByZero)
begins_traps_in_its_guard = refl

-- ---- a schedule without transitions: a tagged action is never eligible, an untagged one always

abbrev stays : Actor
stays = actor_ (port_ (codes "In") ∷ []) []
    (acts_ (codes "a" ∷ []) (takes_ 0 (codes "x" ∷ []) ∷ []) [] [] (n_ 1)
    ∷ acts_ [] (takes_ 0 (codes "x" ∷ []) ∷ []) [] [] (n_ 2) ∷ [])
    (codes "s0" ∷ []) [] []

abbrev stays_order : Priorities stays
stays_order = unranked stays refl

stays_starts : start_of stays ≡ in_state 0 []
stays_starts = refl

tagged_is_not_eligible : (next stays 0 0 ≡ None) × (eligible stays 0 0 ≡ false)
tagged_is_not_eligible = (refl, refl)

untagged_is_eligible : (next stays 0 1 ≡ Some 0) × (eligible stays 0 1 ≡ true)
untagged_is_eligible = (refl, refl)

untagged_is_picked : choice stays stays_order (in_state 0 []) (on_in (pos 5 ∷ [])) ≡ Picks 1
untagged_is_picked = refl

tagged_does_nothing : effect stays stays_order (in_state 0 []) (on_in (pos 5 ∷ [])) 0 ≡ None
tagged_does_nothing = refl

untagged_fires : effect stays stays_order (in_state 0 []) (on_in (pos 5 ∷ [])) 1 ≡ fires_ 0 [] (pos 2)
untagged_fires = refl

-- ---- a procedure that changes the state: action In:[x] ==> Out:[total] do add ( x ) ; add ( x ) ; end

abbrev total : ℤ → Var
total z = variable (codes "total") (Single byte) true (Num z)

abbrev adds : Proc
adds = record {
  name = codes "add";
  formals = record { name = codes "k"; shape = Single byte; start = None; changes = true } ∷ [];
  locals = [];
  body = listed (tree.assign (tree.ident (codes "total") 0) tree.nil (two Add (name_ (codes "total")) (name_ (codes "k"))) 0 ∷ []);
}

abbrev add_x : tree.Tree
add_x = tree.call_stmt (tree.ident (codes "add") 0) (listed (name_ (codes "x") ∷ [])) 0

abbrev sums : Actor
sums = record {
  class = codes "Example";
  ins = port_ (codes "In") ∷ [];
  outs = port_ (codes "Out") ∷ [];
  vars = record { name = codes "total"; shape = Single byte; value = Num (pos 0); changes = true } ∷ [];
  funs = [];
  procs = adds ∷ [];
  actions = acts_ [] (takes_ 0 (codes "x" ∷ []) ∷ []) [] (add_x ∷ add_x ∷ []) (name_ (codes "total")) ∷ [];
  states = [];
  moves = [];
  pairs = [];
}

abbrev sums_order : Priorities sums
sums_order = unranked sums refl

-- the outputs are evaluated in the state that the body left, and the sum is stored in the variable's type
sums_twice : effect sums sums_order (in_state 0 (total (pos 0) ∷ [])) (on_in (pos 100 ∷ [])) 0 ≡ fires_ 0 (total (pos 200) ∷ []) (pos 200)
unfolding turns.max_turns
sums_twice = refl

sums_wrapped : effect sums sums_order (in_state 0 (total (pos 200) ∷ [])) (on_in (pos 100 ∷ [])) 0 ≡ fires_ 0 (total (pos 144) ∷ []) (pos 144)
unfolding turns.max_turns
sums_wrapped = refl
