-- What calls that build actions and their parts answer.
-- Trusted but for `vars_tree`, `vars_broken`, `action_over`, `BuildsInside` and `BuildsBehind`: part of what a promise
-- means.
use Rattle.std.specs.Prelude.{◌≡◌, List, [], ◌++◌, map, option_map, Some, Vec}
use Rattle.std.specs.declared.alloc.Global.{Global}
use Rattle.std.specs.declared.result.Result.{Result}
use Rattle.std.specs.declared.result.Result.TheVariants.{Ok, Err}
use Rattle.cal_ast.specs.Tree.{Tree, listed}
use Rattle.cal_ast.specs.View.{body_tree, optional, stmt_tree, tag_tree, var_tree}
use Rattle.cal_ast.specs.declared.action.Action.{Action as DeclaredAction}
use Rattle.cal_ast.specs.declared.member.VarDecl.{VarDecl}
use Rattle.cal_model.specs.Actor.{Action, Pattern, Port}
use Rattle.cal_model.specs.Kinding.{Names}
use Rattle.cal_model.specs.View.{action_view, output_view}
use Rattle.cal_model.specs.declared.bound.BoundAction.{BoundAction}
use Rattle.cal_model.specs.declared.bound.BoundOutput.{BoundOutput}
use Rattle.const_env.specs.declared.fault.KindFault.{KindFault}
use Rattle.cal_check.specs.Violations.{Violation, broken}
use Rattle.cal_check.specs.Written.{statement_written}
use Rattle.cal_check.specs.Statements.{names_behind, starts_broken}
use Rattle.cal_check.specs.Actions.{Around, action_broken, action_of, action_with, body_of, or_none, outputs_broken, outputs_fine}
use Rattle.cal_check.specs.Actors.{actions_broken, actions_of}
use Rattle.check_member.specs.Asking.{outputs_tree}
use Rattle.check_member.specs.Parts.{action_views, exprs_tree}
use Rattle.check_stmt.specs.Judging.{Refuses}
use Rattle.check_action.specs.Parts.{inside_of, rest_of}
use Rattle.check_build_action.specs.declared.inside.BehindLocals.{BehindLocals}

-- outputs that break no rule, or a rule that they break
abbrev pub FindsOutputs : Result (Vec BoundOutput Global) KindFault → Tree → List Port → Names
    → Type 0
FindsOutputs (Ok found) os ports names =
    (outputs_broken os ports names ≡ [])
    × (outputs_fine os ports names ≡ Some (map output_view found.items))
FindsOutputs (Err f) os ports names = Refuses f (outputs_broken os ports names)

-- ---- actions

-- what an action is, or a rule that it breaks
abbrev pub BuildsAction : Result BoundAction KindFault → Tree → Around → Type 0
BuildsAction (Ok found) a around = action_view found ≡ action_of a around
BuildsAction (Err f) a around = Refuses f (action_broken a around)

-- what actions are, or a rule that one of them breaks
abbrev pub BuildsActions : Result (Vec BoundAction Global) KindFault → List Tree → Around → Type 0
BuildsActions (Ok found) acts around = action_views found.items ≡ actions_of acts around
BuildsActions (Err f) acts around = Refuses f (actions_broken acts around)

-- ---- what stands behind the patterns

abbrev pub vars_tree : List VarDecl → Tree
vars_tree vars = listed (map var_tree vars)

-- what the starts and the types of locals break
abbrev pub vars_broken : Tree → Names → List Violation
vars_broken vars names = starts_broken vars names ++ broken (names_behind vars names)

-- the action with these patterns, over the names with their variables
abbrev pub action_over : DeclaredAction → List Pattern → Around → Names → Action
action_over a qs around inner =
    action_with (optional (option_map tag_tree a.tag)) a.initialize qs
    (outputs_tree a.outputs.items) (exprs_tree a.guards.items) (vars_tree a.vars.items)
    (body_tree a.body) around inner

abbrev pub BuildsInside : Result BoundAction KindFault → DeclaredAction → List Pattern → Around
    → Names → Type 0
BuildsInside (Ok found) a qs around inner = action_view found ≡ action_over a qs around inner
BuildsInside (Err f) a qs around inner = Refuses f (inside_of a around inner)

-- its outputs and its statements, over the names with its locals
abbrev pub BuildsBehind : Result BehindLocals KindFault → DeclaredAction → Around → Names → Type 0
BuildsBehind (Ok found) a around behind =
    (map output_view found.outputs.items
    ≡ or_none (outputs_fine (outputs_tree a.outputs.items) around.outs behind))
    × (listed (map stmt_tree found.body.items)
    ≡ statement_written (body_of (body_tree a.body)) behind)
BuildsBehind (Err f) a around behind = Refuses f (rest_of a around behind)
