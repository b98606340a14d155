-- Worked actors: the rules that they break, and what they are.
use Rattle.std.proofs.Common.{◌≡◌, ◌+◌, ℕ, true, false, List, [], ◌∷◌, pos, refl, arith}
use Rattle.std.specs.Prelude.{None, codes}
use Rattle.rvc_base.specs.declared.scalar.Scalar.TheVariants as scalar
use Rattle.rvc_base.specs.Chain.{ChainLeads}
use Rattle.rvc_base.specs.Rules as rules
use Rattle.rvc_base.specs.Turns as turns
use Rattle.cal_ast.specs.declared.expr.BinOp.TheVariants as op
use Rattle.cal_ast.specs.Tree as tree
use Rattle.cal_ast.specs.Tree.{Tree, listed}
use Rattle.cal_model.specs.Value.{Single, Num}
use Rattle.cal_model.specs.Actor.{Actor}
use Rattle.cal_model.specs.Sound.{IsSound}
use Rattle.cal_check.specs.Variables.{Spot, Found, Given, VarDecl}
use Rattle.cal_check.specs.Actors.{IsAboveItself, Source, violations, actor_given}
use Rattle.cal_check.specs.Sources.{IsSourceFormed}
use Rattle.cal_check.proofs.Distinct.{distinct-texts}
use Rattle.cal_check.proofs.Lists.{in-none}
use Rattle.cal_check.proofs.SoundSource.{source-sound}

-- ---- parts of actors

abbrev name : List ℕ → ℕ → Tree
name text at = tree.ident text at

-- a number type of so many bits, which begins at an offset
abbrev bits : List ℕ → ℕ → ℕ → Tree
bits word n at = tree.type_of (name word at)
    (listed (tree.value_arg (name (codes "size") at) (tree.number n (at + 10)) ∷ [])) at

abbrev byte : ℕ → Tree
byte at = bits (codes "uint") 8 at

abbrev number : ℕ → Tree
number at = tree.type_of (name (codes "int") at) tree.nil at

abbrev port : List ℕ → ℕ → Tree
port text at = tree.port (byte at) (name text at) at

abbrev takes : List Tree → Tree → ℕ → Tree
takes names repeat at = tree.pattern tree.absent (listed names) repeat at

abbrev sends : List Tree → ℕ → Tree
sends values at = tree.output tree.absent (listed values) tree.absent at

abbrev action : List Tree → List Tree → List Tree → List Tree → ℕ → Tree
action ins outs guards body at = tree.action tree.absent false (listed ins) (listed outs)
    (listed guards) tree.nil (tree.present (listed body)) at

-- an actor with a port In and a port Out
abbrev with_ports : List Tree → List Tree → Tree
with_ports params members = tree.actor (name (codes "X") 6) (listed params)
    (listed (port (codes "In") 20 ∷ [])) (listed (port (codes "Out") 40 ∷ [])) (listed members) 0

abbrev source : Tree → Source
source t = record { class = codes "X"; file = 1; actor = t; vars = []; funs = [] }

abbrev words : Spot
words = record { file = 0; at = 0 }

abbrev breaks : Tree → List Found
breaks t = violations (source t) [] words

abbrev found : ℕ → ℕ → Found
found rule at = record { violation = record { rule = record { 0 = rule }; at = at }; file = 1 }

abbrev x_in : Tree
x_in = takes (name (codes "x") 110 ∷ []) tree.absent 105

abbrev variable : ℕ → Tree
variable at = tree.variable (codes "x") at

-- ---- one more than each byte

abbrev inc : Tree
inc = with_ports [] (action (x_in ∷ []) (sends (tree.binary op.Add (variable 130) (tree.number 1 134) 130 ∷ []) 125 ∷ []) [] [] 100 ∷ [])

inc_conforms : breaks inc ≡ []
inc_conforms = refl

abbrev inc_actor : Actor
inc_actor = record {
  class = codes "X";
  ins = record { name = codes "In"; kind = scalar.Uint 8 } ∷ [];
  outs = record { name = codes "Out"; kind = scalar.Uint 8 } ∷ [];
  vars = [];
  funs = [];
  procs = [];
  actions = record {
    tag = [];
    patterns = record { port = 0; names = codes "x" ∷ []; repeat = None } ∷ [];
    outputs = record {
      port = 0;
      values = listed (tree.binary op.Add (variable 130) (tree.number 1 134) 130 ∷ []);
      repeat = None;
    } ∷ [];
    guards = [];
    locals = [];
    body = tree.nil;
    initialize = false;
  } ∷ [];
  states = [];
  moves = [];
  pairs = [];
}

inc_is : actor_given (source inc) [] words ≡ inc_actor
inc_is = refl

-- ---- statements and expressions

-- a pattern variable is a constant
assigned : breaks (with_ports [] (action (x_in ∷ []) [] [] (tree.assign (name (codes "x") 150) tree.nil (tree.number 1 155) 150 ∷ []) 100 ∷ []))
    ≡ found 404 150 ∷ []
assigned = refl

-- a guard that is a number
number_guard : breaks (with_ports [] (action (x_in ∷ []) [] (variable 140 ∷ []) [] 100 ∷ []))
    ≡ found 401 140 ∷ []
number_guard = refl

-- both a constant that is assigned and a value of another kind
twice_broken : breaks (with_ports [] (action (x_in ∷ []) [] [] (tree.assign (name (codes "x") 150) tree.nil (tree.truth true 155) 150 ∷ []) 100 ∷ []))
    ≡ found 401 155 ∷ found 404 150 ∷ []
twice_broken = refl

-- ---- patterns and outputs

-- a repeat of 0
no_repeat : breaks (with_ports [] (action (takes (name (codes "x") 110 ∷ []) (tree.present (tree.number 0 120)) 105 ∷ []) [] [] [] 100 ∷ []))
    ≡ found 605 105 ∷ []
no_repeat = refl

-- more patterns than ports
second_pattern : breaks (with_ports [] (action (x_in ∷ takes (name (codes "y") 118 ∷ []) tree.absent 115 ∷ []) [] [] [] 100 ∷ []))
    ≡ found 502 115 ∷ []
second_pattern = refl

-- ---- variables

abbrev var : List ℕ → Tree → ℕ → Tree
var text start at = tree.var (number at) (name text (at + 4)) (tree.present start) true at

-- a variable that is declared later
later : breaks (with_ports [] (var (codes "a") (tree.variable (codes "b") 90) 80 ∷ var (codes "b") (tree.number 1 100) 95 ∷ []))
    ≡ found 409 90 ∷ []
later = refl

-- a start that traps, and nothing of what needs its value
trapping : breaks (with_ports [] (var (codes "n") (tree.binary op.Div (tree.number 1 90) (tree.number 0 94) 90) 80
    ∷ var (codes "m") (tree.variable (codes "n") 105) 98
    ∷ []))
    ≡ found 407 90 ∷ []
trapping = refl

-- a truth value in a variable of numbers
of_another_kind : breaks (with_ports [] (var (codes "a") (tree.truth true 90) 80 ∷ []))
    ≡ found 401 90 ∷ []
of_another_kind = refl

-- ---- parameters

abbrev param : Tree
param = tree.param (number 8) (name (codes "n") 12) tree.absent 8

abbrev given : Given
given = record { name = codes "n"; value = Num (pos 5); place = record { file = 2; at = 33 } }

-- neither value nor default
bare_parameter : violations (source (with_ports (param ∷ []) [])) [] words
    ≡ record { violation = record { rule = rules.wrong_parameter; at = 0 }; file = 0 } ∷ []
bare_parameter = refl

with_value : violations (source (with_ports (param ∷ []) [])) (given ∷ []) words ≡ []
with_value = refl

-- the value is given twice
given_twice : violations (source (with_ports (param ∷ []) [])) (given ∷ given ∷ []) words
    ≡ record { violation = record { rule = rules.wrong_parameter; at = 33 }; file = 2 } ∷ []
given_twice = refl

-- ---- what other files declare

abbrev outer : List ℕ → ℕ → VarDecl
outer text n = record {
  name = text;
  file = 3;
  shape = number 10;
  start = tree.present (tree.number n 20);
  changes = false;
  is_param = false;
}

abbrev with_outers : Tree → Source
with_outers t = record {
  class = codes "X";
  file = 1;
  actor = t;
  vars = outer (codes "p.U.a") 1 ∷ outer (codes "p.U.b") 2 ∷ [];
  funs = [];
}

-- only what is used stands in the actor
used_alone : (actor_given (with_outers (with_ports [] (var (codes "c") (tree.variable (codes "p.U.b") 90) 80 ∷ []))) [] words).vars
    ≡ record { name = codes "p.U.b"; shape = Single (scalar.Int 32); value = Num (pos 2); changes = false }
    ∷ record { name = codes "c"; shape = Single (scalar.Int 32); value = Num (pos 2); changes = true } ∷ []
used_alone = refl

-- ---- headers and ports

-- a name over both directions
port_twice : violations (source (tree.actor (name (codes "X") 6) tree.nil (listed (port (codes "P") 20 ∷ [])) (listed (port (codes "P") 40 ∷ [])) tree.nil 0)) [] words
    ≡ found 501 40 ∷ []
port_twice = refl

-- a port of lists
list_port : violations (source (tree.actor (name (codes "X") 6) tree.nil
    (listed (tree.port (tree.type_of (name (codes "List") 20) (listed (tree.shape_arg (name (codes "type") 25) (byte 30) ∷ tree.value_arg (name (codes "size") 45) (tree.number 2 50) ∷ [])) 20) (name (codes "P") 55) 20 ∷ []))
    tree.nil tree.nil 0)) [] words
    ≡ found 408 20 ∷ []
list_port = refl

-- a pattern with a port's name, and one without
mixed : breaks (with_ports [] (action (tree.pattern (tree.present (name (codes "In") 102)) (listed (name (codes "x") 107 ∷ [])) tree.absent 102
    ∷ takes (name (codes "y") 118 ∷ []) tree.absent 115 ∷ []) [] [] [] 100 ∷ []))
    ≡ found 502 115 ∷ []
mixed = refl

-- ---- what isn't named

-- a constant whose start traps: nothing is said of the repeat that needs it
unsaid : breaks (with_ports [] (tree.var (number 80) (name (codes "n") 84) (tree.present (tree.binary op.Div (tree.number 1 90) (tree.number 0 94) 90)) false 80
    ∷ action (takes (name (codes "x") 110 ∷ []) (tree.present (tree.variable (codes "n") 120)) 105 ∷ []) [] [] [] 100 ∷ []))
    ≡ found 407 90 ∷ []
unsaid = refl

-- a variable that changes isn't constant
changing : breaks (with_ports [] (var (codes "n") (tree.number 2 90) 80
    ∷ action (takes (name (codes "x") 110 ∷ []) (tree.present (tree.variable (codes "n") 120)) 105 ∷ []) [] [] [] 100 ∷ []))
    ≡ found 409 120 ∷ []
changing = refl

-- ---- functions and procedures

abbrev formal : Tree → ℕ → Tree
formal shape at = tree.port shape (name (codes "v") (at + 5)) at

-- one more than v
abbrev more : Tree
more = tree.function (name (codes "more") 60) (listed (formal (number 65) 65 ∷ [])) (number 75) tree.nil
    (tree.binary op.Add (tree.variable (codes "v") 85) (tree.number 1 89) 85) 50

-- a start may call a function that is declared behind it
called : (actor_given (source (with_ports [] (var (codes "a") (tree.call (codes "more") (listed (tree.number 6 35 ∷ [])) 30) 20 ∷ more ∷ []))) [] words).vars
    ≡ record { name = codes "a"; shape = Single (scalar.Int 32); value = Num (pos 7); changes = true } ∷ []
unfolding turns.max_turns
called = refl

called_rightly : breaks (with_ports [] (var (codes "a") (tree.call (codes "more") (listed (tree.number 6 35 ∷ [])) 30) 20 ∷ more ∷ [])) ≡ []
unfolding turns.max_turns
called_rightly = refl

-- without argument
too_few : breaks (with_ports [] (more ∷ action [] [] (tree.binary op.Lt (tree.call (codes "more") tree.nil 140) (tree.number 1 150) 140 ∷ []) [] 100 ∷ []))
    ≡ found 406 140 ∷ []
too_few = refl

-- a list as a formal
list_formal : breaks (with_ports [] (tree.function (name (codes "f") 60)
    (listed (formal (tree.type_of (name (codes "List") 62) (listed (tree.shape_arg (name (codes "type") 67) (byte 72) ∷ tree.value_arg (name (codes "size") 85) (tree.number 2 90) ∷ [])) 62) 62 ∷ []))
    (number 75) tree.nil (tree.number 1 95) 50 ∷ []))
    ≡ found 408 62 ∷ []
list_formal = refl

-- a size of a formal that isn't constant: it is said, though nothing else breaks a rule
sized_by_a_variable : breaks (with_ports [] (var (codes "a") (tree.number 3 30) 20 ∷ tree.function (name (codes "f") 60)
    (listed (formal (tree.type_of (name (codes "uint") 62) (listed (tree.value_arg (name (codes "size") 67) (tree.variable (codes "a") 72) ∷ [])) 62) 62 ∷ []))
    (number 75) tree.nil (tree.number 1 95) 50 ∷ []))
    ≡ found 409 72 ∷ []
sized_by_a_variable = refl

-- ---- actions, schedules and priorities

abbrev tag_at : List ℕ → ℕ → Tree
tag_at text at = tree.tag (listed (name text at ∷ [])) at

abbrev tagged : List ℕ → ℕ → Tree
tagged text at = tree.action (tree.present (tag_at text at)) false tree.nil tree.nil tree.nil tree.nil tree.absent at

abbrev initialize : Tree → ℕ → Tree
initialize guards at = tree.action tree.absent true tree.nil tree.nil guards tree.nil tree.absent at

second_initialize : breaks (with_ports [] (initialize tree.nil 100 ∷ initialize tree.nil 120 ∷ [])) ≡ found 506 120 ∷ []
second_initialize = refl

guarded_initialize : breaks (with_ports [] (initialize (listed (tree.truth true 110 ∷ [])) 100 ∷ [])) ≡ found 506 100 ∷ []
guarded_initialize = refl

abbrev move : List ℕ → List ℕ → List ℕ → ℕ → Tree
move from t to at = tree.move (name from at) (listed (tag_at t (at + 2) ∷ [])) (name to (at + 6)) at

-- two states for one action
ambiguous : breaks (with_ports [] (tagged (codes "a") 100 ∷ tree.schedule (name (codes "s") 130) (listed (move (codes "s") (codes "a") (codes "s") 140 ∷ move (codes "s") (codes "a") (codes "t") 150 ∷ [])) 120 ∷ []))
    ≡ found 504 150 ∷ []
ambiguous = refl

-- a tag that stands for no action
unknown_tag : breaks (with_ports [] (tagged (codes "a") 100 ∷ tree.priority (listed (listed (tag_at (codes "a") 130 ∷ tag_at (codes "b") 134 ∷ []) ∷ [])) 120 ∷ []))
    ≡ found 503 134 ∷ []
unknown_tag = refl

-- the states in order of first appearance, and where the schedule leads
scheduled : (actor_given (source (with_ports [] (tagged (codes "a") 100 ∷ tree.schedule (name (codes "s") 130) (listed (move (codes "s") (codes "a") (codes "t") 140 ∷ [])) 120 ∷ []))) [] words).moves
    ≡ record { from = 0; action = 0; to = 1 } ∷ []
scheduled = refl

-- ---- sizes that are written out

-- a variable of a block whose size is a sum
written_out : (actor_given (source (with_ports [] (action [] [] [] (tree.block (listed (tree.var (tree.type_of (name (codes "int") 120)
    (listed (tree.value_arg (name (codes "size") 124) (tree.binary op.Add (tree.number 4 129) (tree.number 3 133) 129) ∷ [])) 120)
    (name (codes "k") 136) tree.absent true 120 ∷ [])) tree.nil 110 ∷ []) 100 ∷ []))) [] words).actions
    ≡ record {
      tag = [];
      patterns = [];
      outputs = [];
      guards = [];
      locals = [];
      body = listed (tree.block (listed (tree.var (tree.type_of (name (codes "int") 120)
          (listed (tree.value_arg (name (codes "size") 124) (tree.number 7 129) ∷ [])) 120) (name (codes "k") 136) tree.absent true 120 ∷ [])) tree.nil 110 ∷ []);
      initialize = false;
    } ∷ []
written_out = refl

-- ---- what isn't named behind a variable without a value of use

-- a sum of a truth value
abbrev of_truth : Tree
of_truth = tree.function (name (codes "f") 60) tree.nil (number 65) tree.nil (tree.binary op.Add (tree.truth true 75) (tree.number 1 82) 75) 50

abbrev needs_it : List Tree
needs_it = var (codes "a") (tree.call (codes "f") tree.nil 30) 20 ∷ var (codes "b") (tree.variable (codes "c") 45) 40 ∷ var (codes "c") (tree.number 1 58) 52 ∷ of_truth ∷ []

-- the body is named, and not the later variable that b uses
behind_a_body : breaks (with_ports [] needs_it) ≡ found 401 75 ∷ []
unfolding turns.max_turns
behind_a_body = refl

-- if the header breaks a rule no body is judged, and then the header is named
behind_a_header : breaks (tree.actor (name (codes "X") 6) tree.nil
    (listed (tree.port (tree.type_of (name (codes "uint") 10) (listed (tree.value_arg (name (codes "size") 11) (tree.variable (codes "b") 15) ∷ [])) 10) (name (codes "In") 18) 10 ∷ []))
    tree.nil (listed needs_it) 0)
    ≡ found 409 15 ∷ []
unfolding turns.max_turns
behind_a_header = refl

-- without the function that breaks a rule, the later variable is named
not_behind_it : breaks (with_ports [] (var (codes "a") (tree.number 1 30) 20 ∷ var (codes "b") (tree.variable (codes "c") 45) 40 ∷ var (codes "c") (tree.number 1 58) 52 ∷ []))
    ≡ found 409 45 ∷ []
not_behind_it = refl

-- ---- a start that runs a body whose types aren't known yet

-- a function whose local has the size k
abbrev sized_later : Tree
sized_later = tree.function (name (codes "f") 60) tree.nil (number 65)
    (listed (tree.var (tree.type_of (name (codes "int") 70) (listed (tree.value_arg (name (codes "size") 74) (tree.variable (codes "k") 79) ∷ [])) 70)
    (name (codes "x") 82) (tree.present (tree.number 1 86)) true 70 ∷ []))
    (tree.variable (codes "x") 90) 50

abbrev constant : ℕ → Tree
constant at = tree.var (number at) (name (codes "k") (at + 4)) (tree.present (tree.number 8 (at + 8))) false at

-- the size is declared behind the start: the start isn't constant
sized_too_late : breaks (with_ports [] (var (codes "a") (tree.call (codes "f") tree.nil 30) 20 ∷ constant 40 ∷ sized_later ∷ [])) ≡ found 409 30 ∷ []
unfolding turns.max_turns
sized_too_late = refl

-- .. and before it
sized_in_time : (actor_given (source (with_ports [] (constant 10 ∷ var (codes "a") (tree.call (codes "f") tree.nil 30) 20 ∷ sized_later ∷ []))) [] words).vars
    ≡ record { name = codes "k"; shape = Single (scalar.Int 32); value = Num (pos 8); changes = false }
    ∷ record { name = codes "a"; shape = Single (scalar.Int 32); value = Num (pos 1); changes = true } ∷ []
unfolding turns.max_turns
sized_in_time = refl

conforms_in_time : breaks (with_ports [] (constant 10 ∷ var (codes "a") (tree.call (codes "f") tree.nil 30) 20 ∷ sized_later ∷ [])) ≡ []
unfolding turns.max_turns
conforms_in_time = refl

-- whatever becomes of what the function gives: an item that isn't chosen
abbrev passes_over : List ℕ → List Tree → Tree
passes_over f args = tree.index (tree.list (listed (tree.call f (listed args) 30 ∷ tree.number 8 34 ∷ [])) 30) (tree.number 1 36) 30

passed_over : breaks (with_ports [] (var (codes "a") (passes_over (codes "f") []) 20 ∷ constant 40 ∷ sized_later ∷ [])) ≡ found 409 30 ∷ []
unfolding turns.max_turns
passed_over = refl

-- .. an argument that isn't used
abbrev eight : Tree
eight = tree.function (name (codes "g") 160) (listed (formal (number 165) 165 ∷ [])) (number 175) tree.nil (tree.number 8 185) 150

unused : breaks (with_ports [] (var (codes "a") (tree.call (codes "g") (listed (tree.call (codes "f") tree.nil 32 ∷ [])) 30) 20 ∷ constant 40 ∷ sized_later ∷ eight ∷ []))
    ≡ found 409 30 ∷ []
unfolding turns.max_turns
unused = refl

-- .. and if the size is what is declared there
sized_by_itself : breaks (with_ports [] (tree.var (number 20) (name (codes "k") 24) (tree.present (passes_over (codes "f") [])) false 20 ∷ sized_later ∷ [])) ≡ found 409 30 ∷ []
unfolding turns.max_turns
sized_by_itself = refl

-- what the type of the local breaks is named instead: that there are too many bits, that the size is a formal, or that
-- a function in it adds a truth value
abbrev sized : Tree → List Tree → Tree
sized size formals = tree.function (name (codes "f") 60) (listed formals) (number 65)
    (listed (tree.var (tree.type_of (name (codes "int") 70) (listed (tree.value_arg (name (codes "size") 74) size ∷ [])) 70)
    (name (codes "x") 82) (tree.present (tree.number 1 86)) true 70 ∷ []))
    (tree.number 1 90) 50

sized_wrongly : breaks (with_ports [] (var (codes "a") (passes_over (codes "f") []) 20 ∷ sized (tree.number 65 79) [] ∷ [])) ≡ found 402 70 ∷ []
unfolding turns.max_turns
sized_wrongly = refl

sized_by_a_formal : breaks (with_ports [] (var (codes "a") (passes_over (codes "f") (tree.number 8 31 ∷ [])) 20 ∷ sized (tree.variable (codes "v") 79) (formal (number 62) 62 ∷ []) ∷ []))
    ≡ found 409 79 ∷ []
unfolding turns.max_turns
sized_by_a_formal = refl

abbrev adds_truth : Tree
adds_truth = tree.function (name (codes "h") 160) tree.nil (number 165) tree.nil (tree.binary op.Add (tree.truth true 175) (tree.number 1 182) 175) 150

sized_by_a_body : breaks (with_ports [] (var (codes "a") (passes_over (codes "f") []) 20 ∷ sized (tree.call (codes "h") tree.nil 79) [] ∷ adds_truth ∷ [])) ≡ found 401 175 ∷ []
unfolding turns.max_turns
sized_by_a_body = refl

-- ---- a whole source

-- a state variable, a function, a procedure that calls it and assigns the variable, and an action that calls the
-- procedure; of two constants of another file one is used
abbrev members : List Tree
members =
    var (codes "s") (tree.number 1 28) 20
    ∷ more
    ∷ tree.procedure (name (codes "p") 100) tree.nil tree.nil
    (listed (tree.assign (name (codes "s") 110) tree.nil (tree.call (codes "more") (listed (tree.variable (codes "p.U.b") 120 ∷ [])) 115) 110 ∷ [])) 95
    ∷ action (x_in ∷ []) (sends (variable 150 ∷ []) 148 ∷ []) [] (tree.call_stmt (name (codes "p") 160) tree.nil 160 ∷ []) 130
    ∷ []

abbrev worked : Source
worked = with_outers (with_ports [] members)

worked_breaks_nothing : violations worked [] words ≡ []
worked_breaks_nothing = refl

worked_is_formed : IsSourceFormed worked
worked_is_formed = record {
  funs = (tt, tt);
  procs = ((tt, (tt, tt)), tt);
  actions = ((tt, (tt, tt), λ e. absurd (cc)), tt);
  schedule = tt;
  distinct = distinct-texts (record { 0 = 0 })
      (record { key = codes "p.U.a"; at = 0 } ∷ record { key = codes "p.U.b"; at = 0 } ∷ record { key = codes "s"; at = 0 } ∷ record { key = codes "more"; at = 0 } ∷ record { key = codes "p"; at = 0 } ∷ []) refl;
  fun_scopes = (((λ c. in-none (codes "v") c, tt), tt, (tt, tt)), tt);
  proc_scopes = ((tt, tt, ((tt, (refl, (tt, tt))), tt)), tt);
  action_scopes = (((λ c. in-none (codes "x") c, tt), tt, tt, ((refl, tt), tt), ((tt, tt), tt)), tt);
  funs_end = record { rank = λ text. 0; in_range = (omega arith, tt); calls = (((tt, tt), tt, tt, (tt, tt)), tt) };
  procs_end = record { rank = λ text. 0; in_range = (omega arith, tt); calls = (((tt, (tt, (tt, tt))), tt), tt) };
}

-- no pair, so no action is above itself
worked_is_ordered : IsAboveItself (actor_given worked [] words) → ⊥
worked_is_ordered h = go h.above.0 h.above.1
  where
    go : (through : List ℕ) → ChainLeads [] h.action through h.action → ⊥
    go [] c = in-none (h.action, h.action) c
    go (x ∷ xs) c = in-none (h.action, x) c.0

worked_is_sound : IsSound (actor_given worked [] words)
worked_is_sound = source-sound worked [] words (actor_given worked [] words) worked_is_formed
    (record { conforms = record { nothing = worked_breaks_nothing; ordered = worked_is_ordered }; is = refl })
