-- The whole actor of its parts.
use Rattle.std.proofs.Common.{◌≡◌, ◌≤◌, ℕ, false, ◌⊎◌, inl, inr, ⊎_elim, List, [], ◌∷◌, ◌++◌, length, map, refl, sym, ap, subst, string_bytes, ◌∙◌, Ok, Err, Result}
use Rattle.std.proofs.lemmas.List.{length-map}
use Rattle.std.specs.Prelude.{Vec, nat_le}
use Rattle.std.specs.declared.alloc.Global.{Global}
use Rattle.rvc_base.specs.Rules.{too_many_actions}
use Rattle.rvc_base.specs.Chain.{IsAbove}
use Rattle.cal_ast.specs.Tree.{Tree}
use Rattle.cal_ast.specs.View.{actor_tree}
use Rattle.cal_ast.specs.declared.file.Actor.{Actor as DeclaredActor}
use Rattle.cal_model.specs.Actor.{Action, Actor, Fun, Held, Move, Port, Proc}
use Rattle.cal_model.specs.Kinding.{Names}
use Rattle.cal_model.specs.Sound.{max_actions}
use Rattle.cal_model.specs.View.{action_view, fun_view, move_view, proc_view, var_view}
use Rattle.cal_model.specs.declared.bound.BoundAction.{BoundAction}
use Rattle.const_env.specs.declared.fault.KindFault.{KindFault}
use Rattle.cal_check.specs.Violations.{all_fine, unless}
use Rattle.cal_check.specs.Variables.{Given, Spot}
use Rattle.cal_check.specs.Actions.{Around, or_none}
use Rattle.cal_check.specs.Schedules.{moves_in, pairs_in, schedule_in, states_of}
use Rattle.cal_check.specs.Actors.{IsAboveItself, Source, actions_broken, actions_in, actions_of, actor_given, all_funs, around_of, bare_actor, funs_of, initialized_twice, kept_funs, members_of}
use Rattle.check_member.specs.Asking.{port_views}
use Rattle.check_member.specs.Parts.{action_views, members_tree}
use Rattle.check_stmt.specs.Judging.{Refuses}
use Rattle.check_stmt.proofs.Checked.{refuses_later, refuses_on}
use Rattle.check_build_action.specs.Building.{BuildsActions}
use Rattle.check_build_actor.specs.Building.{AreFine, ArePartsOf, BreaksMembers, FindsActions, HasActions, IsCycle, IsFineOrder, IsMembersFault, acts_broken, around_bare, members_broken, order_broken, whole_view}
use Rattle.check_build_actor.specs.declared.ordering.ActorOrder.{ActorOrder}
use Rattle.check_build_actor.specs.declared.whole.BareActor.{BareActor}
use Rattle.check_build_actor.proofs.PastLacks.{as_many, few_counted, order_fault}

map_pairs : (xs : List (ℕ × ℕ)) → map (λ p. (p.0, p.1)) xs ≡ xs
map_pairs [] = refl
map_pairs (x ∷ xs) = ap (λ ys. x ∷ ys) (map_pairs xs)

-- ---- actions

-- actions that are built, none of which breaks a rule
pub finds_actions : (r : Result (Vec BoundAction Global) KindFault) (members : Tree) (around : Around) (at : ℕ)
    → initialized_twice false (actions_in members) ++ unless (nat_le (length (actions_in members)) max_actions) too_many_actions at ≡ []
    → actions_broken (actions_in members) around ≡ [] → BuildsActions r (actions_in members) around → FindsActions r members around at
finds_actions (Ok found) members around at counted fine h =
    let acts = actions_in members in
    let few = few_counted members at counted in
    let same : length found.items ≡ length acts =
    sym (length-map found.items action_view) ∙ ap (λ xs. length xs) h ∙ as_many acts around in
    record {
      is = h;
      few = subst (λ n. n ≤ max_actions) (sym same) few;
      fine = ap (λ vs. vs ++ (initialized_twice false acts ++ unless (nat_le (length acts) max_actions) too_many_actions at)) fine ∙ counted;
    }
finds_actions (Err f) members around at counted fine h =
    refuses_on f (actions_broken (actions_in members) around)
    (initialized_twice false (actions_in members) ++ unless (nat_le (length (actions_in members)) max_actions) too_many_actions at) h

-- ---- an actor of its actions and what orders these

-- what is asked of the actor that was put together
pub has_actions : (found : Actor) (bare : BareActor) (acts : List BoundAction) (order : ActorOrder) (members : Tree) (at : ℕ) → found ≡ whole_view bare acts order
    → IsFineOrder order (action_views acts) members at → HasActions found (action_views acts) members
has_actions found bare acts order members at is fine =
    let bare_one : Actor = record (whole_view bare acts order) { states = states_of (schedule_in members) } in
    let own = fine.is bare_one (record { actions = refl; states = refl }) in
    record { actions = ap (λ x. x.actions) is; states = ap (λ x. x.states) is ∙ own.states }

pub whole_fine : (found : Actor) (bare : BareActor) (acts : List BoundAction) (order : ActorOrder) (members : Tree) (around : Around) (at : ℕ) → found ≡ whole_view bare acts order
    → AreFine acts members around at → IsFineOrder order (action_views acts) members at → members_broken members around found at ≡ []
whole_fine found bare acts order members around at is actions fine =
    ap (λ vs. vs ++ order_broken members found at) actions.fine ∙ fine.fine found (has_actions found bare acts order members at is fine)

pub whole_ordered : (found : Actor) (bare : BareActor) (acts : List BoundAction) (order : ActorOrder) (members : Tree) (at : ℕ) → found ≡ whole_view bare acts order
    → IsFineOrder order (action_views acts) members at → ¬ IsAboveItself found
whole_ordered found bare acts order members at is fine h =
    fine.without_cycle h.action
    (subst (λ ps. IsAbove ps h.action h.action) (ap (λ x. x.pairs) is ∙ map_pairs order.pairs.items) h.above)

-- ---- what is broken

pub actions_break : (f : KindFault) (members : Tree) (around : Around) (actor : Actor) (at : ℕ) → Refuses f (acts_broken members around at) → BreaksMembers f members around actor at
actions_break f members around actor at h = inl (refuses_on f (acts_broken members around at) (order_broken members actor at) h)

pub order_breaks : (f : KindFault) (acts : List BoundAction) (members : Tree) (around : Around) (actor : Actor) (at : ℕ) → AreFine acts members around at
    → ((x : Actor) → HasActions x (action_views acts) members → Refuses f (order_broken members x at) ⊎ IsCycle f members x)
    → HasActions actor (actions_of (actions_in members) around) members → IsMembersFault f members around actor at
order_breaks f acts members around actor at actions h has =
    let found = h actor (record { actions = has.actions ∙ sym actions.is; states = has.states }) in
    order_fault f members around actor at
    (⊎_elim (λ l. inl (refuses_later f (acts_broken members around at) (order_broken members actor at) l)) (λ r. inr r) found) found

-- ---- the actor that a source is

made : List ℕ → List Port → List Port → List Held → List Fun → List Proc → List Action → List (List ℕ) → List Move → List (ℕ × ℕ) → Actor
made class ins outs vars funs procs acts states moves pairs =
    record { class = class; ins = ins; outs = outs; vars = vars; funs = funs; procs = procs; actions = acts; states = states; moves = moves; pairs = pairs }

actor_same : (c d : List ℕ) (i j o p : List Port) (v w : List Held) (f g : List Fun) (q r : List Proc) (a b : List Action) (s t : List (List ℕ)) (m n : List Move) (x y : List (ℕ × ℕ))
    → c ≡ d → i ≡ j → o ≡ p → v ≡ w → f ≡ g → q ≡ r → a ≡ b → s ≡ t → m ≡ n → x ≡ y
    → made c i o v f q a s m x ≡ made d j p w g r b t n y
actor_same c d i j o p v w f g q r a b s t m n x y e1 e2 e3 e4 e5 e6 e7 e8 e9 e10 = cc

pub whole_is : (found : Actor) (bare : BareActor) (acts : List BoundAction) (order : ActorOrder) (decl : DeclaredActor) (names : Names) (at : ℕ) (s : Source) (gs : List Given) (owner : Spot)
    → found ≡ whole_view bare acts order → AreFine acts (members_tree decl.members.items) (around_bare bare names) at
    → IsFineOrder order (action_views acts) (members_tree decl.members.items) at → ArePartsOf bare (actor_tree decl) names s gs owner
    → found ≡ actor_given s gs owner
unfolding made
whole_is found bare acts order decl names at s gs owner is actions fine parts =
    let members = members_tree decl.members.items in
    let bare_one = bare_actor s gs owner (around_of s gs owner) in
    let same : members_of s.actor ≡ members = ap members_of parts.actor in
    let acted : bare_one.actions ≡ action_views acts =
    ap (λ t. actions_of (actions_in t) (around_of s gs owner)) same ∙ ap (actions_of (actions_in members)) parts.around ∙ sym actions.is in
    let stated : bare_one.states ≡ states_of (schedule_in members) = ap (λ t. states_of (schedule_in t)) same in
    let own = fine.is bare_one (record { actions = acted; states = stated }) in
    is ∙ actor_same (string_bytes bare.class) s.class (port_views bare.ins.items) bare_one.ins (port_views bare.outs.items) bare_one.outs (map var_view bare.vars.items) bare_one.vars
    (map fun_view bare.funs.items) bare_one.funs (map proc_view bare.procs) bare_one.procs (action_views acts) bare_one.actions
    (map string_bytes order.states.items) bare_one.states (map move_view order.moves.items) (moves_in (schedule_in (members_of s.actor)) bare_one)
    (map (λ p. (p.0, p.1)) order.pairs.items) (pairs_in (members_of s.actor) bare_one)
    (sym parts.class) (sym (ap (λ x. x.ins) parts.around)) (sym (ap (λ x. x.outs) parts.around)) (sym parts.vars)
    (sym (ap (λ x. kept_funs (or_none (all_fine (funs_of (all_funs s) x.names))) s) parts.around ∙ parts.funs))
    (sym (ap (λ x. x.procs) parts.around)) (sym acted) (own.states ∙ sym stated)
    (own.moves ∙ sym (ap (λ t. moves_in (schedule_in t) bare_one) same))
    (map_pairs order.pairs.items ∙ own.pairs ∙ sym (ap (λ t. pairs_in t bare_one) same))
