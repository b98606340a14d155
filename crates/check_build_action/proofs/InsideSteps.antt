-- What stands behind the patterns of an action.
use Rattle.std.proofs.Common.{◌≡◌, ℕ, true, List, [], ◌∷◌, ◌++◌, refl, sym, ap, subst, ◌∙◌}
use Rattle.std.specs.Prelude.{option_map}
use Rattle.cal_ast.specs.Tree as tree
use Rattle.cal_ast.specs.Tree.{Tree, listed}
use Rattle.cal_ast.specs.View.{body_tree, optional, tag_tree}
use Rattle.cal_ast.specs.declared.action.Action.{Action as DeclaredAction}
use Rattle.cal_model.specs.Actor.{Local, Output, Pattern}
use Rattle.cal_model.specs.Kinding.{Judged, Fine, Broken, Names, and_so}
use Rattle.cal_model.specs.Value.{Shape}
use Rattle.const_env.specs.declared.fault.KindFault.{KindFault}
use Rattle.cal_check.specs.Violations.{all_broken, if_fine}
use Rattle.cal_check.specs.Actions.{Around, body_of, each_guard, guards_written, or_none, outputs_fine, tag_parts}
use Rattle.cal_check.specs.Routines.{locals_of}
use Rattle.cal_check.specs.Statements.{behind, names_behind, starts_broken, type_of_var}
use Rattle.cal_check.specs.Written.{behind_vars, statement_written, with_inner, written}
use Rattle.check_member.specs.Asking.{outputs_tree}
use Rattle.check_member.specs.Parts.{exprs_tree}
use Rattle.check_stmt.specs.Judging.{Refuses}
use Rattle.check_stmt.proofs.Checked.{refuses_if_fine, refuses_later}
use Rattle.check_build_routine.specs.Declaring.{is_fine}
use Rattle.check_action.specs.Parts.{inside_of, rest_of}
use Rattle.check_build_action.specs.Building.{action_over, vars_broken, vars_tree}

-- ---- locals

-- if the types of locals break no rule, what is seen behind them is what is seen behind them in any case
pub typed_behind : (vars : Tree) (names : Names) → is_fine (names_behind vars names) ≡ true → names_behind vars names ≡ Fine (behind_vars vars names)
typed_behind tree.nil names h = refl
typed_behind (tree.cons v vs) names h = go (type_of_var v names) h (λ ns t. typed_behind vs ns t)
  where
    go : (j : Judged Shape) → is_fine (and_so (behind j v names) (λ inner. names_behind vs inner)) ≡ true
        → ((ns : Names) → is_fine (names_behind vs ns) ≡ true → names_behind vs ns ≡ Fine (behind_vars vs ns))
        → and_so (behind j v names) (λ inner. names_behind vs inner) ≡ Fine (behind_vars vs (with_inner v names))
    go (Fine t) e next = next (with_inner v names) e
    go (Broken rule at) e next = cc
typed_behind other names h = cc

pub refuses_vars : (f : KindFault) (a : DeclaredAction) (around : Around) (inner : Names) → Refuses f (vars_broken (vars_tree a.vars.items) inner) → Refuses f (inside_of a around inner)
refuses_vars f a around inner h =
    refuses_later f (all_broken (each_guard (exprs_tree a.guards.items) inner)) (starts_broken (vars_tree a.vars.items) inner ++ if_fine (names_behind (vars_tree a.vars.items) inner) (rest_of a around))
    (refuses_if_fine f (starts_broken (vars_tree a.vars.items) inner) (names_behind (vars_tree a.vars.items) inner) (rest_of a around) h)

pub refuses_rest : (f : KindFault) (a : DeclaredAction) (around : Around) (inner here : Names) → names_behind (vars_tree a.vars.items) inner ≡ Fine here
    → Refuses f (rest_of a around here) → Refuses f (inside_of a around inner)
refuses_rest f a around inner here e h =
    refuses_later f (all_broken (each_guard (exprs_tree a.guards.items) inner)) (starts_broken (vars_tree a.vars.items) inner ++ if_fine (names_behind (vars_tree a.vars.items) inner) (rest_of a around))
    (refuses_later f (starts_broken (vars_tree a.vars.items) inner) (if_fine (names_behind (vars_tree a.vars.items) inner) (rest_of a around))
    (subst (Refuses f) (sym (ap (λ j. if_fine j (rest_of a around)) e)) h))

-- ---- the parts of an action

same_fine : (here there : Names) → Fine here ≡ Fine there → here ≡ there
same_fine here there e = cc

pub action_made : (a : DeclaredAction) (tag : List (List ℕ)) (qs : List Pattern) (os : List Output) (guards : List Tree) (locals : List Local) (body : Tree) (around : Around) (inner here : Names)
    → names_behind (vars_tree a.vars.items) inner ≡ Fine here
    → tag ≡ tag_parts (optional (option_map tag_tree a.tag)) → os ≡ or_none (outputs_fine (outputs_tree a.outputs.items) around.outs here)
    → guards ≡ guards_written (exprs_tree a.guards.items) inner → locals ≡ locals_of (vars_tree a.vars.items) inner → body ≡ statement_written (body_of (body_tree a.body)) here
    → record { tag = tag; patterns = qs; outputs = os; guards = guards; locals = locals; body = body; initialize = a.initialize } ≡ action_over a qs around inner
action_made a tag qs os guards locals body around inner here found t o g l b =
    let typed : names_behind (vars_tree a.vars.items) inner ≡ Fine (behind_vars (vars_tree a.vars.items) inner) = typed_behind (vars_tree a.vars.items) inner (ap is_fine found) in
    let same : here ≡ behind_vars (vars_tree a.vars.items) inner = same_fine here (behind_vars (vars_tree a.vars.items) inner) (sym found ∙ typed) in
    ap (λ x. record { tag = x; patterns = qs; outputs = os; guards = guards; locals = locals; body = body; initialize = a.initialize }) t
    ∙ ap (λ x. record { tag = tag_parts (optional (option_map tag_tree a.tag)); patterns = qs; outputs = x; guards = guards; locals = locals; body = body; initialize = a.initialize })
    (o ∙ ap (λ ns. or_none (outputs_fine (outputs_tree a.outputs.items) around.outs ns)) same)
    ∙ ap (λ x. record { tag = tag_parts (optional (option_map tag_tree a.tag)); patterns = qs; outputs = or_none (outputs_fine (outputs_tree a.outputs.items) around.outs (behind_vars (vars_tree a.vars.items) inner)); guards = x; locals = locals; body = body; initialize = a.initialize }) g
    ∙ ap (λ x. record { tag = tag_parts (optional (option_map tag_tree a.tag)); patterns = qs; outputs = or_none (outputs_fine (outputs_tree a.outputs.items) around.outs (behind_vars (vars_tree a.vars.items) inner)); guards = guards_written (exprs_tree a.guards.items) inner; locals = x; body = body; initialize = a.initialize }) l
    ∙ ap (λ x. record { tag = tag_parts (optional (option_map tag_tree a.tag)); patterns = qs; outputs = or_none (outputs_fine (outputs_tree a.outputs.items) around.outs (behind_vars (vars_tree a.vars.items) inner)); guards = guards_written (exprs_tree a.guards.items) inner; locals = locals_of (vars_tree a.vars.items) inner; body = x; initialize = a.initialize })
    (b ∙ ap (statement_written (body_of (body_tree a.body))) same)

-- ---- guards

listed_same : (ts us : List Tree) → listed ts ≡ listed us → ts ≡ us
listed_same [] [] e = refl
listed_same [] (u ∷ us) e = cc
listed_same (t ∷ ts) [] e = cc
listed_same (t ∷ ts) (u ∷ us) e =
    let first : t ≡ u = cc in
    let others : listed ts ≡ listed us = cc in
    ap (λ x. x ∷ ts) first ∙ ap (λ xs. u ∷ xs) (listed_same ts us others)

guards_listed : (ts : List Tree) (names : Names) → listed (guards_written (listed ts) names) ≡ written (listed ts) names
guards_listed [] names = refl
guards_listed (t ∷ ts) names = ap (tree.cons (written t names)) (guards_listed ts names)

pub guards_same : (found ts : List Tree) (names : Names) → listed found ≡ written (listed ts) names → found ≡ guards_written (listed ts) names
guards_same found ts names e = listed_same found (guards_written (listed ts) names) (e ∙ sym (guards_listed ts names))
