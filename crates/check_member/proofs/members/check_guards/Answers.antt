use Rattle.std.proofs.Common.{◌≡◌, ◌≢◌, ℕ, Bool, true, false, List, [], ◌∷◌, length, refl, sym, subst, arith}
use Rattle.rvc_base.specs.Rules.{wrong_initialize}
use Rattle.cal_ast.specs.declared.expr.Expr.{Expr}
use Rattle.cal_check.specs.Actions.{guard_allowed}
use Rattle.check_member.specs.Judging.{Refuses}
use Rattle.check_member.specs.Parts.{exprs_tree}
use Rattle.check_member.specs.declared.fault.MemberFault.TheVariants as fault
use Rattle.check_member.proofs.Broken.{refuses-unless}
use Rattle.check_member.proofs.members.check_guards.Goals as goal

some : (guards : List Expr) (b : Bool) (at : ℕ) → b ≡ true → length guards ≢ 0 → Refuses (fault.Broken wrong_initialize at) (guard_allowed b (exprs_tree guards) at)
some [] b at e h = absurd (h refl)
some (g ∷ gs) true at e h = refuses-unless false wrong_initialize at refl
some (g ∷ gs) false at e h = absurd (cc)

pub returns-then-not-is_empty : goal.returns-then-not-is_empty
returns-then-not-is_empty c =
    subst (λ f. Refuses f (guard_allowed c.args.action.now.initialize (exprs_tree c.args.action.now.guards.items) c.args.action.now.at)) (sym c.broken.ensures)
    (some c.args.action.now.guards.items c.args.action.now.initialize c.args.action.now.at c.if-action.true (grind (arith, c.if-not-is_empty.ensures, c.args.action.now.guards.ok)))
