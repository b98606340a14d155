-- What the schedule and the priorities of an actor break, of what each of them breaks.
use Rattle.std.proofs.Common.{◌≡◌, ℕ, ◌⊎◌, inl, inr, ⊎_elim, List, [], ◌∷◌, ◌++◌, length, sym, ap, subst, ◌∙◌, Contains}
use Rattle.std.specs.Prelude.{Option, nat_le}
use Rattle.rvc_base.specs.Rules.{too_many_actions}
use Rattle.cal_ast.specs.Tree.{Tree}
use Rattle.cal_model.specs.Actor.{Actor}
use Rattle.cal_model.specs.Sound.{max_states}
use Rattle.cal_check.proofs.Lists.{at-head, head-or-rest, in-rest}
use Rattle.cal_check.specs.Violations.{Violation, unless}
use Rattle.cal_check.specs.Schedules.{first_priority, pairs_in, priorities_broken, schedule_broken, schedule_in, states_of}
use Rattle.check_member.proofs.Broken.{refuses-left, refuses-right}
use Rattle.check_member.specs.Judging.{BreaksPriorities, Refuses}
use Rattle.check_member.specs.Parts.{schedule_and_states_broken}
use Rattle.check_member.specs.declared.fault.MemberFault.{MemberFault}
use Rattle.check_member.specs.declared.fault.MemberFault.TheVariants as fault
use Rattle.check_build_actor.specs.Building.{order_broken}

in_either : {A : Type 0} (xs ys : List A) (x : A) → Contains (xs ++ ys) x → Contains xs x ⊎ Contains ys x
in_either [] ys x h = inr h
in_either (y ∷ xs) ys x h =
    ⊎_elim (λ e. inl (at-head x y xs e)) (λ r. ⊎_elim (λ l. inl (in-rest x y xs l)) (λ k. inr k) (in_either xs ys x r)) (head-or-rest x y (xs ++ ys) h)

refuses_either : (f : MemberFault) (vs ws : List Violation) → Refuses f (vs ++ ws) → Refuses f vs ⊎ Refuses f ws
refuses_either (fault.Broken rule at) vs ws h = in_either vs ws (record { rule = rule; at = at }) h
refuses_either fault.Memory vs ws h = inl tt

-- more between two lists
refuses_between : (f : MemberFault) (vs us ws : List Violation) → Refuses f (vs ++ ws) → Refuses f (vs ++ (us ++ ws))
refuses_between f vs us ws h =
    ⊎_elim (λ l. refuses-left f vs (us ++ ws) l) (λ r. refuses-right f vs (us ++ ws) (refuses-right f us ws r)) (refuses_either f vs ws h)

-- ---- the schedule

states_same : (schedule : Option Tree) (members : Tree) (actor : Actor) (at : ℕ) → schedule ≡ schedule_in members → actor.states ≡ states_of (schedule_in members)
    → schedule_and_states_broken schedule actor at ≡ schedule_broken (schedule_in members) actor ++ unless (nat_le (length actor.states) max_states) too_many_actions at
states_same schedule members actor at e s =
    ap (λ o. schedule_and_states_broken o actor at) e
    ∙ ap (λ ns. schedule_broken (schedule_in members) actor ++ unless (nat_le (length ns) max_states) too_many_actions at) (sym s)

pub schedule_breaks : (f : MemberFault) (schedule : Option Tree) (members : Tree) (actor : Actor) (at : ℕ) → schedule ≡ schedule_in members → actor.states ≡ states_of (schedule_in members)
    → Refuses f (schedule_and_states_broken schedule actor at) → BreaksPriorities (order_broken members actor at) (pairs_in members actor) (first_priority members) f
schedule_breaks f schedule members actor at e s h =
    inl (refuses_between f (schedule_broken (schedule_in members) actor) (priorities_broken members actor.actions) (unless (nat_le (length actor.states) max_states) too_many_actions at)
    (subst (Refuses f) (states_same schedule members actor at e s) h))

-- ---- priorities

pub priorities_break : (f : MemberFault) (members : Tree) (actor : Actor) (at : ℕ)
    → BreaksPriorities (priorities_broken members actor.actions) (pairs_in members actor) (first_priority members) f
    → BreaksPriorities (order_broken members actor at) (pairs_in members actor) (first_priority members) f
priorities_break f members actor at h =
    ⊎_elim (λ l. inl (refuses-right f (schedule_broken (schedule_in members) actor) (priorities_broken members actor.actions ++ unless (nat_le (length actor.states) max_states) too_many_actions at)
    (refuses-left f (priorities_broken members actor.actions) (unless (nat_le (length actor.states) max_states) too_many_actions at) l)))
    (λ r. inr r) h

-- ---- both

none_of_three : (vs us ws : List Violation) → vs ++ ws ≡ [] → us ≡ [] → vs ++ (us ++ ws) ≡ []
none_of_three vs us ws h e = ap (λ xs. vs ++ (xs ++ ws)) e ∙ h

pub order_fine : (schedule : Option Tree) (members : Tree) (actor : Actor) (at : ℕ) → schedule ≡ schedule_in members → actor.states ≡ states_of (schedule_in members)
    → schedule_and_states_broken schedule actor at ≡ [] → priorities_broken members actor.actions ≡ [] → order_broken members actor at ≡ []
order_fine schedule members actor at e s h p =
    none_of_three (schedule_broken (schedule_in members) actor) (priorities_broken members actor.actions) (unless (nat_le (length actor.states) max_states) too_many_actions at)
    (sym (states_same schedule members actor at e s) ∙ h) p
