-- The names of an actor's ports, without where they lie in memory, and the parts that may name a port.
-- Trusted: part of what a promise means.
use Rattle.std.specs.Prelude.{ℕ, List}
use Rattle.cal_ast.specs.Tree.{Tree}
use Rattle.cal_ast.specs.View.{action_tree, member_tree, output_tree, pattern_tree}
use Rattle.cal_ast.specs.declared.action.Action.{Action}
use Rattle.cal_ast.specs.declared.action.Output.{Output}
use Rattle.cal_ast.specs.declared.action.Pattern.{Pattern}
use Rattle.cal_ast.specs.declared.member.Member.{Member}
use Rattle.cal_model.specs.Kinding.{Judged}
use Rattle.cal_scope.specs.Asked.{members_tree, outputs_tree, patterns_tree}
use Rattle.cal_scope.specs.Members.{Ports, action_resolved, member_resolved, members_resolved, output_resolved, outputs_resolved, pattern_resolved, patterns_resolved}
use Rattle.cal_scope.specs.Names.{Names}
use Rattle.cal_scope.specs.declared.ports.PortNames.{PortNames}

abbrev pub ports_view : PortNames → Ports
ports_view p = record { ins = p.ins; outs = p.outs }

-- the judgement of such a part, over the ports

abbrev pub pattern_among : PortNames → Pattern → List (List ℕ) → Names → Judged Tree
pattern_among ports p here names = pattern_resolved (pattern_tree p) (ports_view ports) here names

abbrev pub patterns_among : PortNames → List Pattern → List (List ℕ) → Names → Judged (List Tree)
patterns_among ports ps here names = patterns_resolved (patterns_tree ps) (ports_view ports) here
    names

abbrev pub output_among : PortNames → Output → Names → Judged Tree
output_among ports o names = output_resolved (output_tree o) (ports_view ports) names

abbrev pub outputs_among : PortNames → List Output → Names → Judged (List Tree)
outputs_among ports os names = outputs_resolved (outputs_tree os) (ports_view ports) names

abbrev pub action_among : PortNames → Action → Names → Judged Tree
action_among ports a names = action_resolved (action_tree a) (ports_view ports) names

abbrev pub member_among : PortNames → Member → Names → Judged Tree
member_among ports m names = member_resolved (member_tree m) (ports_view ports) names

abbrev pub members_among : PortNames → List Member → Names → Judged (List Tree)
members_among ports ms names = members_resolved (members_tree ms) (ports_view ports) names
