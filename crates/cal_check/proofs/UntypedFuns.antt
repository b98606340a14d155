-- Functions with a local whose type breaks a rule give nothing.
use Rattle.std.proofs.Common.{◌≡◌, ℕ, List, refl, sym, ap, subst, ◌∙◌}
use Rattle.rvc_base.specs.declared.refusal.Rule.{Rule}
use Rattle.cal_ast.specs.declared.expr.PrefixOp.TheVariants.{Not}
use Rattle.cal_ast.specs.Tree as tree
use Rattle.cal_ast.specs.Tree.{Tree}
use Rattle.cal_model.specs.Value.{Items, Single, Value, Values, stored}
use Rattle.cal_model.specs.Outcome.{Out, Gives, Traps, Lacks, Clashes, and_then}
use Rattle.cal_model.specs.Env.{Env, Var}
use Rattle.cal_model.specs.Expression.{Calls, eval, eval_all, prefixed}
use Rattle.cal_model.specs.Actor.{Fun}
use Rattle.cal_model.specs.Call.{answered, declared, on_call}
use Rattle.cal_model.specs.Kinding.{Judged, Fine, Broken, Names, and_so}
use Rattle.cal_model.specs.Sound.{with_locals}
use Rattle.cal_model.proofs.KindValues.{fine-is}
use Rattle.cal_check.specs.Routines.{Head, first_met, fun_if, fun_judged, head_judged, locals_before, useless_fun}
use Rattle.cal_check.specs.Statements.{names_behind}
use Rattle.cal_check.specs.Untyped.{UntypedGiveNothing}

-- what is done behind something that gives nothing, and what gives nothing behind something

never-first : {A B : Type 0} (o : Out A) (f : A → ℕ → Out B) → ((a : A) (m : ℕ) → o ≡ Gives a m → ⊥) → (b : B) (r : ℕ) → and_then o f ≡ Gives b r → ⊥
never-first (Gives a m) f g b r h = g a m refl
never-first (Traps c) f g b r h = absurd (cc)
never-first Lacks f g b r h = absurd (cc)
never-first Clashes f g b r h = absurd (cc)

never-then : {A B : Type 0} (o : Out A) (f : A → ℕ → Out B) → ((a : A) (m : ℕ) (b : B) (r : ℕ) → f a m ≡ Gives b r → ⊥) → (b : B) (r : ℕ) → and_then o f ≡ Gives b r → ⊥
never-then (Gives a m) f g b r h = g a m b r h
never-then (Traps c) f g b r h = absurd (cc)
never-then Lacks f g b r h = absurd (cc)
never-then Clashes f g b r h = absurd (cc)

-- a list is no truth value
never-negated : (o : Out Values) (v : Value) (r : ℕ) → and_then (and_then o (λ vs m. Gives (Items vs) m)) (λ w m. prefixed Not w m) ≡ Gives v r → ⊥
never-negated (Gives vs m) v r h = absurd (cc)
never-negated (Traps c) v r h = absurd (cc)
never-negated Lacks v r h = absurd (cc)
never-negated Clashes v r h = absurd (cc)

useless-gives-nothing : (full : List ℕ) (head : Head) (vars : Tree) (names : Names) (calls : Calls) (globals : List Var) (args : Values) (left rest : ℕ) (v : Value)
    → answered (useless_fun full head vars names) calls globals args left ≡ Gives v rest → ⊥
useless-gives-nothing full head vars names calls globals args left rest v h =
    never-then (on_call globals head.formals args left) _
    (λ entry k b r e. never-then (declared (locals_before vars (with_locals head.formals names)) calls entry k) _
    (λ env m c s i. never-first (eval (tree.prefix Not (tree.list (first_met vars (with_locals head.formals names)) 0) 0) calls env m) (λ w j. Gives (stored (Single head.result) w) j)
    (λ a l g. never-negated (eval_all (first_met vars (with_locals head.formals names)) calls env m) a l g) c s i) b r e) v rest h

broken-is : (j : Judged Names) (rule : Rule) (p : ℕ) (full : List ℕ) (head : Head) (vars body : Tree) (names : Names) → j ≡ Broken rule p
    → fun_if j full head vars body names ≡ useless_fun full head vars names
broken-is (Fine inner) rule p full head vars body names e = absurd (cc)
broken-is (Broken other q) rule p full head vars body names e = refl

abbrev made_by : List ℕ → Tree → Tree → Names → Judged Head → Judged Fun
made_by full vars body names j = and_so j (λ head. Fine (fun_if (names_behind vars (with_locals head.formals names)) full head vars body names))

pub untyped-give-nothing : UntypedGiveNothing
untyped-give-nothing full name formals result vars body at names head rule p f calls globals args left rest v judged broken is gives =
    let made : fun_if (names_behind vars (with_locals head.formals names)) full head vars body names ≡ f =
    fine-is _ f (sym (ap (λ j. made_by full vars body names j) judged) ∙ is) in
    useless-gives-nothing full head vars names calls globals args left rest v
    (subst (λ g. answered g calls globals args left ≡ Gives v rest) (sym made ∙ broken-is (names_behind vars (with_locals head.formals names)) rule p full head vars body names broken) gives)
