-- Actions by their parts, and actions among members.
use Rattle.std.proofs.Common.{◌≡◌, List, [], ◌++◌, Some, Ok, Err, Result, sym, ap, subst, ◌∙◌}
use Rattle.std.proofs.lemmas.List.{append-nil}
use Rattle.cal_ast.specs.Tree as tree
use Rattle.cal_ast.specs.Tree.{Tree}
use Rattle.cal_ast.specs.View.{action_tree, member_tree}
use Rattle.cal_ast.specs.declared.action.Action.{Action as DeclaredAction}
use Rattle.cal_ast.specs.declared.member.Member.{Member}
use Rattle.cal_ast.specs.declared.member.Member.TheVariants as members
use Rattle.cal_model.specs.Actor.{Action, Pattern}
use Rattle.cal_model.specs.Kinding.{Names}
use Rattle.cal_model.specs.View.{action_view}
use Rattle.cal_model.specs.declared.bound.BoundAction.{BoundAction}
use Rattle.const_env.specs.declared.fault.KindFault.{KindFault}
use Rattle.cal_check.specs.Violations.{Violation}
use Rattle.cal_check.specs.Actions.{Around, action_broken, action_if, action_of, behind_patterns, guard_allowed, or_none, patterns_broken, patterns_fine, with_all_patterns}
use Rattle.cal_check.specs.Actors.{actions_broken, actions_in, actions_of}
use Rattle.check_member.specs.Asking.{patterns_tree}
use Rattle.check_member.specs.Parts.{exprs_tree}
use Rattle.check_stmt.specs.Judging.{Refuses}
use Rattle.check_stmt.proofs.Checked.{refuses_later, refuses_on}
use Rattle.check_action.specs.Parts.{inside_of}
use Rattle.check_build_action.specs.Building.{BuildsAction, BuildsInside, action_over}

-- ---- behind its patterns

pub action_done : (a : DeclaredAction) (qs : List Pattern) (found : Action) (around : Around) (inner : Names) → patterns_fine (patterns_tree a.patterns.items) around.ins around.names ≡ Some qs
    → inner ≡ with_all_patterns around.ins qs around.names → found ≡ action_over a qs around inner → found ≡ action_of (action_tree a) around
action_done a qs found around inner fine seen is =
    is ∙ ap (action_over a qs around) seen ∙ ap (λ ps. action_if ps (action_tree a) around) (sym (ap or_none fine))

-- what is broken behind the patterns
abbrev behind : DeclaredAction → Around → List Pattern → List Violation
behind a around qs = inside_of a around (with_all_patterns around.ins qs around.names)

pub patterns_break : (f : KindFault) (a : DeclaredAction) (around : Around) → Refuses f (patterns_broken (patterns_tree a.patterns.items) around.ins around.names)
    → Refuses f (action_broken (action_tree a) around)
patterns_break f a around h =
    let ps = patterns_tree a.patterns.items in
    let rest = behind_patterns (patterns_fine ps around.ins around.names) (behind a around) in
    refuses_later f (guard_allowed a.initialize (exprs_tree a.guards.items) a.at) (patterns_broken ps around.ins around.names ++ rest)
    (refuses_on f (patterns_broken ps around.ins around.names) rest h)

pub inside_breaks : (f : KindFault) (a : DeclaredAction) (qs : List Pattern) (around : Around) (inner : Names) → patterns_fine (patterns_tree a.patterns.items) around.ins around.names ≡ Some qs
    → inner ≡ with_all_patterns around.ins qs around.names → Refuses f (inside_of a around inner) → Refuses f (action_broken (action_tree a) around)
inside_breaks f a qs around inner fine seen h =
    let ps = patterns_tree a.patterns.items in
    let rest = behind_patterns (patterns_fine ps around.ins around.names) (behind a around) in
    refuses_later f (guard_allowed a.initialize (exprs_tree a.guards.items) a.at) (patterns_broken ps around.ins around.names ++ rest)
    (refuses_later f (patterns_broken ps around.ins around.names) rest
    (subst (Refuses f) (ap (inside_of a around) seen ∙ sym (ap (λ o. behind_patterns o (behind a around)) fine)) h))

pub built_of : (r : Result BoundAction KindFault) (a : DeclaredAction) (qs : List Pattern) (around : Around) (inner : Names) → patterns_fine (patterns_tree a.patterns.items) around.ins around.names ≡ Some qs
    → inner ≡ with_all_patterns around.ins qs around.names → BuildsInside r a qs around inner → BuildsAction r (action_tree a) around
built_of (Ok found) a qs around inner fine seen is = action_done a qs (action_view found) around inner fine seen is
built_of (Err f) a qs around inner fine seen h = inside_breaks f a qs around inner fine seen h

-- ---- actions among members

-- what was found and the rest are all, and what the rest breaks all break
abbrev pub AreBuiltUpTo : List Action → List Tree → List Tree → Around → Type 0
AreBuiltUpTo found rest all around =
    (found ++ actions_of rest around ≡ actions_of all around)
    × ((f : KindFault) → Refuses f (actions_broken rest around) → Refuses f (actions_broken all around))

pub built_start : (found : List Action) (all : List Tree) (around : Around) → found ≡ [] → AreBuiltUpTo found all all around
built_start found all around e = (ap (λ xs. xs ++ actions_of all around) e, λ f h. h)

pub built_done : (found : List Action) (rest all : List Tree) (around : Around) → rest ≡ [] → AreBuiltUpTo found rest all around → found ≡ actions_of all around
built_done found rest all around e inv = sym (append-nil found) ∙ sym (ap (λ ts. found ++ actions_of ts around) e) ∙ inv.0

-- what is broken behind a member is broken behind it too
pub member_breaks : (f : KindFault) (m : Member) (more : Tree) (around : Around) → Refuses f (actions_broken (actions_in more) around)
    → Refuses f (actions_broken (actions_in (tree.cons (member_tree m) more)) around)
member_breaks f (members.Var v) more around h = h
member_breaks f (members.Function x) more around h = h
member_breaks f (members.Procedure p) more around h = h
member_breaks f (members.Action a) more around h = refuses_later f (action_broken (action_tree a) around) (actions_broken (actions_in more) around) h
member_breaks f (members.Schedule s) more around h = h
member_breaks f (members.Priority p) more around h = h
