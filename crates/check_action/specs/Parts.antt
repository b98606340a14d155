-- Actions and their parts, as calls are asked about them.
-- Trusted but for `JudgesAll`, `JudgesAllSaid`, `behind_guards` and `rest_of`: part of what a promise means.
use Rattle.std.specs.Prelude.{◌≡◌, ◌≤◌, ℕ, Bool, true, List, [], ◌++◌, length, map, Option, Some, None, Vec}
use Rattle.std.specs.declared.alloc.Global.{Global}
use Rattle.std.specs.declared.result.Result.{Result}
use Rattle.std.specs.declared.result.Result.TheVariants.{Ok, Err}
use Rattle.cal_ast.specs.Tree.{Tree, listed}
use Rattle.cal_ast.specs.View.{body_tree, var_tree}
use Rattle.cal_ast.specs.declared.action.Action.{Action}
use Rattle.cal_ast.specs.declared.action.Output.{Output}
use Rattle.cal_model.specs.Actor.{Output as GivenOutput, Port}
use Rattle.cal_model.specs.Kinding.{Judged, Fine, Names}
use Rattle.cal_model.specs.Sound.{max_ports}
use Rattle.cal_model.specs.View.{pattern_view, proc_view}
use Rattle.cal_model.specs.declared.bound.BoundPattern.{BoundPattern}
use Rattle.const_env.specs.Counting.{names_view}
use Rattle.const_env.specs.declared.fault.KindFault.{KindFault}
use Rattle.const_env.specs.declared.names.Names.{Names as DeclaredNames}
use Rattle.cal_check.specs.Violations.{Violation, all_broken, all_fine, if_fine, said}
use Rattle.cal_check.specs.Written.{written}
use Rattle.cal_check.specs.Statements.{names_behind, starts_broken, statement_broken}
use Rattle.cal_check.specs.Actions.{Around, inside_broken, outputs_broken, patterns_broken, patterns_fine}
use Rattle.check_member.specs.Asking.{outputs_tree, port_views}
use Rattle.check_member.specs.Parts.{exprs_tree}
use Rattle.check_stmt.specs.Judging.{Refuses}
use Rattle.check_action.specs.declared.action.ActorParts.{ActorParts}

-- ---- what is found of a list of parts

-- each part is judged so, or one is broken
abbrev pub JudgesAll : {A B : Type 0} → (A → B) → Result (Vec A Global) KindFault
    → List (Judged B) → Type 0
JudgesAll view (Ok found) js = js ≡ map Fine (map view found.items)
JudgesAll view (Err f) js = Refuses f (all_broken js)

-- ---- patterns

-- patterns that break no rule, or a rule that they break
abbrev pub FindsPatterns : Result (Vec BoundPattern Global) KindFault → Tree → List Port → Names
    → Type 0
FindsPatterns (Ok qs) ps ports names =
    (patterns_broken ps ports names ≡ [])
    × (patterns_fine ps ports names ≡ Some (map pattern_view qs.items))
FindsPatterns (Err f) ps ports names = Refuses f (patterns_broken ps ports names)

-- the same, if what isn't constant may be passed over
abbrev pub JudgesAllSaid : {A B : Type 0} → Bool → (A → B) → Result (Option (Vec A Global)) KindFault
    → List (Judged B) → Type 0
JudgesAllSaid passes view (Ok (Some found)) js = js ≡ map Fine (map view found.items)
JudgesAllSaid passes view (Ok None) js =
    (passes ≡ true) × (said passes (all_broken js) ≡ []) × (all_fine js ≡ None)
JudgesAllSaid passes view (Err f) js = Refuses f (said passes (all_broken js))

-- Patterns that break no rule, or a rule that they break. If what isn't constant is passed over, there are none where a
-- repeat isn't.
abbrev pub FindsPatternsSaid : Bool → Result (Option (Vec BoundPattern Global)) KindFault → Tree
    → List Port → Names → Type 0
FindsPatternsSaid passes (Ok (Some qs)) ps ports names =
    (patterns_broken ps ports names ≡ [])
    × (patterns_fine ps ports names ≡ Some (map pattern_view qs.items))
FindsPatternsSaid passes (Ok None) ps ports names =
    (passes ≡ true) × (said passes (patterns_broken ps ports names) ≡ [])
    × (patterns_fine ps ports names ≡ None)
FindsPatternsSaid passes (Err f) ps ports names =
    Refuses f (said passes (patterns_broken ps ports names))

-- ---- outputs

-- an output on a port, with its values written out, by how often it is repeated
abbrev pub output_on : ℕ → Output → DeclaredNames → Option ℕ → GivenOutput
output_on port o names repeat = record {
  port = port;
  values = written (exprs_tree o.values.items) (names_view names);
  repeat = repeat;
}

-- ---- actions

-- what actions see of an actor, over these names
abbrev pub around_view : ActorParts → DeclaredNames → Around
around_view parts names = record {
  ins = port_views parts.ins.now;
  outs = port_views parts.outs.now;
  procs = map proc_view parts.procs.now;
  names = names_view names;
}

-- neither direction has too many ports
pub record HasFewPorts (parts : ActorParts) : Type 0 where
  pub ins : length parts.ins.now ≤ max_ports
  pub outs : length parts.outs.now ≤ max_ports

-- what stands behind the patterns of an action
abbrev pub inside_of : Action → Around → Names → List Violation
inside_of a around inner =
    inside_broken (exprs_tree a.guards.items) (listed (map var_tree a.vars.items))
    (body_tree a.body) (outputs_tree a.outputs.items) around inner

-- what stands behind the guards of an action
abbrev pub behind_guards : Action → Around → Names → List Violation
behind_guards a around inner =
    starts_broken (listed (map var_tree a.vars.items)) inner
    ++ if_fine (names_behind (listed (map var_tree a.vars.items)) inner) (λ behind.
    statement_broken (body_tree a.body) around.procs behind
    ++ outputs_broken (outputs_tree a.outputs.items) around.outs behind)

-- what stands behind the locals of an action
abbrev pub rest_of : Action → Around → Names → List Violation
rest_of a around inner =
    statement_broken (body_tree a.body) around.procs inner
    ++ outputs_broken (outputs_tree a.outputs.items) around.outs inner
