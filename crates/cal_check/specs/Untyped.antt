-- What holds of functions with a local whose type breaks a rule, as a statement.
-- Trusted: part of what a promise means.
use Rattle.std.specs.Prelude.{◌≡◌, ℕ, List}
use Rattle.rvc_base.specs.declared.refusal.Rule.{Rule}
use Rattle.cal_ast.specs.Tree as tree
use Rattle.cal_ast.specs.Tree.{Tree}
use Rattle.cal_model.specs.Value.{Value, Values}
use Rattle.cal_model.specs.Outcome.{Gives}
use Rattle.cal_model.specs.Env.{Var}
use Rattle.cal_model.specs.Expression.{Calls}
use Rattle.cal_model.specs.Actor.{Fun}
use Rattle.cal_model.specs.Call.{answered}
use Rattle.cal_model.specs.Kinding.{Fine, Broken, Names}
use Rattle.cal_model.specs.Sound.{with_locals}
use Rattle.cal_check.specs.Routines.{Head, fun_judged, head_judged}
use Rattle.cal_check.specs.Statements.{names_behind}

-- Such a function never gives a value, whatever it is called with: so nothing that is evaluated passes over it.
abbrev pub UntypedGiveNothing : Type 0
UntypedGiveNothing =
    (full : List ℕ) (name formals result vars body : Tree) (at : ℕ) (names : Names) (head : Head)
    (rule : Rule) (p : ℕ) (f : Fun) (calls : Calls) (globals : List Var) (args : Values)
    (left rest : ℕ) (v : Value)
    → head_judged (tree.function name formals result vars body at) names ≡ Fine head
    → names_behind vars (with_locals head.formals names) ≡ Broken rule p
    → fun_judged full (tree.function name formals result vars body at) names ≡ Fine f
    → answered f calls globals args left ≡ Gives v rest → ⊥
