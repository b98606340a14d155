-- Parts of an actor as the calls are asked about them: lists of parts as trees, and what of them needs no expression.
-- Trusted: part of what a promise means.
use Rattle.std.specs.Prelude.{ℕ, List, [], ◌++◌, length, map, nat_le, Option, Vec, option_map}
use Rattle.std.specs.declared.alloc.Global.{Global}
use Rattle.std.specs.Borrow.{Bor}
use Rattle.std.specs.Str.{bytes_eq}
use Rattle.rvc_base.specs.Rules.{port_named_twice, too_many_actions, too_many_ports}
use Rattle.cal_ast.specs.Tree.{Tree, listed}
use Rattle.cal_ast.specs.View.{chain_tree, expr_tree, ident_tree, member_tree, move_tree, port_tree, schedule_tree, tag_tree}
use Rattle.cal_ast.specs.declared.action.Move.{Move as DeclaredMove}
use Rattle.cal_ast.specs.declared.action.Schedule.{Schedule}
use Rattle.cal_ast.specs.declared.expr.Expr.{Expr}
use Rattle.cal_ast.specs.declared.ident.Ident.{Ident}
use Rattle.cal_ast.specs.declared.ident.Tag.{Tag}
use Rattle.cal_ast.specs.declared.member.Member.{Member}
use Rattle.cal_ast.specs.declared.member.PortDecl.{PortDecl}
use Rattle.cal_model.specs.Actor.{Action, Actor, Move}
use Rattle.cal_model.specs.Rates.{parts}
use Rattle.cal_model.specs.Sound.{max_ports, max_states}
use Rattle.cal_model.specs.View.{action_view}
use Rattle.cal_model.specs.declared.bound.BoundAction.{BoundAction}
use Rattle.schedule_fsm.specs.declared.fsm.Step.{Step}
use Rattle.cal_check.specs.Violations.{Violation, twice, unless}
use Rattle.cal_check.specs.Ports.{keyed_ports}
use Rattle.cal_check.specs.Schedules.{schedule_broken, states_of}

-- ---- lists of parts

abbrev pub members_tree : List Member → Tree
members_tree members = listed (map member_tree members)

abbrev pub ports_tree : List PortDecl → Tree
ports_tree ports = listed (map port_tree ports)

abbrev pub exprs_tree : List Expr → Tree
exprs_tree exprs = listed (map expr_tree exprs)

abbrev pub idents_tree : List Ident → Tree
idents_tree names = listed (map ident_tree names)

abbrev pub tags_tree : List Tag → Tree
tags_tree tags = listed (map tag_tree tags)

abbrev pub chains_tree : List (Vec Tag Global) → Tree
chains_tree chains = listed (map chain_tree chains)

abbrev pub transitions_tree : List DeclaredMove → Tree
transitions_tree moves = listed (map move_tree moves)

abbrev pub action_views : List BoundAction → List Action
action_views actions = map action_view actions

-- ---- headers

-- what a header breaks but for the types of its ports: names that stand twice, and too many ports
abbrev pub bare_header_broken : Tree → Tree → ℕ → List Violation
bare_header_broken ins outs at =
    twice bytes_eq port_named_twice [] (keyed_ports ins ++ keyed_ports outs)
    ++ (unless (nat_le (parts ins) max_ports) too_many_ports at
    ++ unless (nat_le (parts outs) max_ports) too_many_ports at)

-- ---- schedules

-- what schedules and priorities ask of an actor: its actions and the names of its states
abbrev pub actor_with : List Action → List (List ℕ) → Actor
actor_with actions states = record {
  class = [];
  ins = [];
  outs = [];
  vars = [];
  funs = [];
  procs = [];
  actions = actions;
  states = states;
  moves = [];
  pairs = [];
}

-- a schedule, if there is one
abbrev pub schedule_view : Option (Bor Schedule) → Option Tree
schedule_view schedule = option_map (λ s. schedule_tree s.now) schedule

-- what a schedule breaks, and too many states
abbrev pub schedule_and_states_broken : Option Tree → Actor → ℕ → List Violation
schedule_and_states_broken schedule actor at = schedule_broken schedule actor
    ++ unless (nat_le (length (states_of schedule)) max_states) too_many_actions at

abbrev pub move_of_step : Step → Move
move_of_step s = record { from = s.from; action = s.action; to = s.to }
