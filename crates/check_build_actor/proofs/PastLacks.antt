-- Rules that members break besides that something isn't constant.
use Rattle.std.proofs.Common.{◌≡◌, ◌≤◌, ◌⊎◌, inl, inr, ⊎_elim, ℕ, suc, Bool, true, false, Ok, Err, Result, List, [], ◌∷◌, ◌++◌, length, refl, sym, ap, subst, ◌∙◌, arith}
use Rattle.std.specs.Prelude.{Contains, Option, Some, if◌then◌else◌, not, nat_le, ◌==◌}
use Rattle.std.proofs.lemmas.Bool.Decides.{nat_tests}
use Rattle.std.proofs.lemmas.List.{append_assoc, length-map, map-append}
use Rattle.rvc_base.specs.declared.refusal.Rule.{Rule}
use Rattle.rvc_base.specs.Rules.{ambiguous_transition, not_constant, too_many_actions, unknown_tag, wrong_initialize}
use Rattle.cal_ast.specs.Tree as tree
use Rattle.cal_ast.specs.Tree.{Tree}
use Rattle.rvc_base.specs.Chain.{IsAbove}
use Rattle.cal_check.proofs.Lists.{at-head, each-append, head-or-rest, in-none, in-rest}
use Rattle.cal_model.specs.Actor.{Action, Actor, Move}
use Rattle.cal_model.specs.Sound.{Each, max_actions, max_states}
use Rattle.cal_model.specs.Tags.{moves_of}
use Rattle.cal_model.specs.View.{action_view}
use Rattle.cal_model.specs.declared.bound.BoundAction.{BoundAction}
use Rattle.check_member.specs.Parts.{action_views}
use Rattle.const_env.specs.declared.fault.KindFault.{KindFault}
use Rattle.const_env.specs.declared.fault.KindFault.TheVariants as fault
use Rattle.cal_check.specs.Actions.{Around, action_of, tag_parts}
use Rattle.cal_check.specs.Actors.{actions_broken, actions_in, actions_of, initialized_twice, is_initialize, place_of_action}
use Rattle.cal_check.specs.Schedules.{chains_broken, moves_broken, pairs_in, priorities_broken, schedule_broken, schedule_in, some_conflict, stands_somewhere, tags_broken, transition_of}
use Rattle.cal_check.specs.Violations.{Violation, said, unless, violation, without_constants}
use Rattle.check_stmt.specs.Judging.{Refuses, is_passed}
use Rattle.check_stmt.proofs.Said.{said_append, said_next, said_on}
use Rattle.check_stmt.proofs.Checked.{refuses_later}
use Rattle.check_action.proofs.Said.{others_said}
use Rattle.check_build_actor.specs.Building.{BreaksMembers, FindsOrderOf, FindsOthers, HasActions, IsCycle, IsMembersFault, acts_broken, heads_of, members_broken, order_broken}
use Rattle.check_build_actor.proofs.SameHeads.{order_same, pairs_same}

-- ---- rules that are said in any case

abbrev IsOther : Violation → Type 0
IsOther v = (v.rule.0 == not_constant.0) ≡ false

counts_other : (acts : List Tree) (b : Bool) → Each IsOther (initialized_twice b acts)
counts_other [] true = tt
counts_other [] false = tt
counts_other (a ∷ acts) true = each-append IsOther (if is_initialize a then violation wrong_initialize (place_of_action a) else []) _ (go (is_initialize a)) (counts_other acts true)
  where
    go : (b : Bool) → Each IsOther (if b then violation wrong_initialize (place_of_action a) else [])
    go true = (refl, tt)
    go false = tt
counts_other (a ∷ acts) false = counts_other acts (is_initialize a)

many_other : (b : Bool) (at : ℕ) → Each IsOther (unless b too_many_actions at)
many_other true at = tt
many_other false at = (refl, tt)

abbrev pub counts : Tree → ℕ → List Violation
counts members at = initialized_twice false (actions_in members) ++ unless (nat_le (length (actions_in members)) max_actions) too_many_actions at

counts_said : (members : Tree) (at : ℕ) → said true (counts members at) ≡ counts members at
counts_said members at =
    others_said true (counts members at)
    (each-append IsOther (initialized_twice false (actions_in members)) _ (counts_other (actions_in members) false) (many_other (nat_le (length (actions_in members)) max_actions) at))

tag_other : (b : Bool) (at : ℕ) → Each IsOther (unless b unknown_tag at)
tag_other true at = tt
tag_other false at = (refl, tt)

tags_other : (tags : Tree) (acts : List Action) → Each IsOther (tags_broken tags acts)
tags_other (tree.cons (tree.tag parts at) tags) acts =
    each-append IsOther (unless (stands_somewhere (tag_parts (tree.tag parts at)) acts) unknown_tag at) _ (tag_other (stands_somewhere (tag_parts (tree.tag parts at)) acts) at) (tags_other tags acts)
tags_other other acts = tt

ambiguous_other : (b : Bool) (at : ℕ) → Each IsOther (unless b ambiguous_transition at)
ambiguous_other true at = tt
ambiguous_other false at = (refl, tt)

moves_other : (ms : Tree) (before : List Move) (actor : Actor) → Each IsOther (moves_broken ms before actor)
moves_other (tree.cons (tree.move from tags to at) ms) before actor =
    let moves = moves_of actor (transition_of (tree.move from tags to at)) in go moves (moves_other ms (before ++ moves) actor)
  where
    go : (moves : List Move) → Each IsOther (moves_broken ms (before ++ moves) actor)
        → Each IsOther (tags_broken tags actor.actions ++ (unless (not (some_conflict moves before)) ambiguous_transition at ++ moves_broken ms (before ++ moves) actor))
    go moves later =
        each-append IsOther (tags_broken tags actor.actions) _ (tags_other tags actor.actions)
        (each-append IsOther (unless (not (some_conflict moves before)) ambiguous_transition at) _ (ambiguous_other (not (some_conflict moves before)) at) later)
moves_other other before actor = tt

schedule_other : (o : Option Tree) (actor : Actor) → Each IsOther (schedule_broken o actor)
schedule_other (Some (tree.schedule start moves at)) actor = moves_other moves [] actor
schedule_other other actor = tt

chains_other : (chains : Tree) (acts : List Action) → Each IsOther (chains_broken chains acts)
chains_other (tree.cons chain chains) acts = each-append IsOther (tags_broken chain acts) _ (tags_other chain acts) (chains_other chains acts)
chains_other other acts = tt

priorities_other : (members : Tree) (acts : List Action) → Each IsOther (priorities_broken members acts)
priorities_other (tree.cons (tree.priority chains at) ms) acts = each-append IsOther (chains_broken chains acts) _ (chains_other chains acts) (priorities_other ms acts)
priorities_other (tree.cons m ms) acts = priorities_other ms acts
priorities_other other acts = tt

order_other : (members : Tree) (actor : Actor) (at : ℕ) → Each IsOther (order_broken members actor at)
order_other members actor at =
    each-append IsOther (schedule_broken (schedule_in members) actor) _ (schedule_other (schedule_in members) actor)
    (each-append IsOther (priorities_broken members actor.actions) _ (priorities_other members actor.actions) (many_other (nat_le (length actor.states) max_states) at))

pub order_said : (members : Tree) (actor : Actor) (at : ℕ) → said true (order_broken members actor at) ≡ order_broken members actor at
order_said members actor at = others_said true (order_broken members actor at) (order_other members actor at)

-- a rule of such a list isn't passed over
each_there : (vs : List Violation) (v : Violation) → Each IsOther vs → Contains vs v → IsOther v
each_there [] v h c = absurd (in-none v c)
each_there (x ∷ vs) v h c = go (head-or-rest v x vs c) (λ i. each_there vs v h.1 i)
  where
    go : (x ≡ v) ⊎ Contains vs v → (Contains vs v → IsOther v) → IsOther v
    go (inl e) k = subst IsOther e h.0
    go (inr i) k = k i

stay_other : (vs : List Violation) → Each IsOther (without_constants vs)
stay_other [] = tt
stay_other (v ∷ vs) = go (v.rule.0 == not_constant.0) refl (stay_other vs)
  where
    go : (b : Bool) → (v.rule.0 == not_constant.0) ≡ b → Each IsOther (without_constants vs) → Each IsOther (if b then without_constants vs else v ∷ without_constants vs)
    go true e h = h
    go false e h = (e, h)

pub said_is_other : (f : KindFault) (vs : List Violation) → Refuses f (said true vs) → is_passed true f ≡ false
said_is_other (fault.Broken rule at) vs h = each_there (without_constants vs) (record { rule = rule; at = at }) (stay_other vs) h
said_is_other fault.Memory vs h = refl

cycle_is_other : (f : KindFault) (members : Tree) (actor : Actor) → IsCycle f members actor → is_passed true f ≡ false
cycle_is_other (fault.Broken rule at) members actor h = ap (λ r. r.0 == not_constant.0) h.0
cycle_is_other fault.Memory members actor h = refl

-- what is said is broken
from_said : (vs : List Violation) (v : Violation) → Contains (without_constants vs) v → Contains vs v
from_said [] v h = h
from_said (x ∷ vs) v h = go (x.rule.0 == not_constant.0) h (λ i. from_said vs v i)
  where
    go : (b : Bool) → Contains (if b then without_constants vs else x ∷ without_constants vs) v → (Contains (without_constants vs) v → Contains vs v) → Contains (x ∷ vs) v
    go true c k = in-rest v x vs (k c)
    go false c k = ⊎_elim (λ e. at-head v x vs e) (λ i. in-rest v x vs (k i)) (head-or-rest v x (without_constants vs) c)

pub refuses_from_said : (f : KindFault) (vs : List Violation) → Refuses f (said true vs) → Refuses f vs
refuses_from_said (fault.Broken rule at) vs h = from_said vs (record { rule = rule; at = at }) h
refuses_from_said fault.Memory vs h = tt

-- ---- how many actions there are

behind_none : (vs ws : List Violation) → vs ++ ws ≡ [] → ws ≡ []
behind_none [] ws h = h
behind_none (v ∷ vs) ws h = absurd (cc)

unless_none : (b : Bool) (rule : Rule) (at : ℕ) → unless b rule at ≡ [] → b ≡ true
unless_none true rule at h = refl
unless_none false rule at h = absurd (cc)

not_more : (a b : ℕ) → nat_le a b ≡ true → a ≤ b
not_more a b h = grind (arith, nat_tests)

pub few_counted : (members : Tree) (at : ℕ) → counts members at ≡ [] → length (actions_in members) ≤ max_actions
few_counted members at h =
    not_more (length (actions_in members)) max_actions (unless_none (nat_le (length (actions_in members)) max_actions) too_many_actions at
    (behind_none (initialized_twice false (actions_in members)) (unless (nat_le (length (actions_in members)) max_actions) too_many_actions at) h))

-- ---- members

-- counts break a rule
pub counts_refused : (f : KindFault) (members : Tree) (around : Around) (actor : Actor) (at : ℕ) → Refuses f (counts members at) → FindsOthers (Err f) members around actor at
counts_refused f members around actor at h =
    inl (said_on f true (acts_broken members around at) (order_broken members actor at)
    (subst (Refuses f) (sym (said_append true (actions_broken (actions_in members) around) (counts members at)))
    (refuses_later f (said true (actions_broken (actions_in members) around)) (said true (counts members at)) (subst (Refuses f) (sym (counts_said members at)) h))))

-- an action breaks one
pub actions_refused : (f : KindFault) (members : Tree) (around : Around) (actor : Actor) (at : ℕ) → Refuses f (said true (actions_broken (actions_in members) around)) → FindsOthers (Err f) members around actor at
actions_refused f members around actor at h =
    inl (said_on f true (acts_broken members around at) (order_broken members actor at) (said_on f true (actions_broken (actions_in members) around) (counts members at) h))

acts_none : (members : Tree) (around : Around) (at : ℕ) → counts members at ≡ [] → said true (actions_broken (actions_in members) around) ≡ [] → said true (acts_broken members around at) ≡ []
acts_none members around at e h = said_next true (actions_broken (actions_in members) around) (counts members at) h ∙ ap (said true) e

-- what orders them
pub order_found : (r : Result (Unit {0}) KindFault) (members : Tree) (around : Around) (actor : Actor) (at : ℕ) → counts members at ≡ [] → said true (actions_broken (actions_in members) around) ≡ []
    → FindsOrderOf r members actor at → FindsOthers r members around actor at
order_found (Ok u) members around actor at e h o =
    said_next true (acts_broken members around at) (order_broken members actor at) (acts_none members around at e h) ∙ ap (said true) o
order_found (Err f) members around actor at e h (inl o) =
    inl (subst (Refuses f) (sym (said_next true (acts_broken members around at) (order_broken members actor at) (acts_none members around at e h)))
    (subst (Refuses f) (sym (order_said members actor at)) o))
order_found (Err f) members around actor at e h (inr o) = inr o

-- ---- heads of actions

pub as_many : (acts : List Tree) (around : Around) → length (actions_of acts around) ≡ length acts
as_many [] around = refl
as_many (a ∷ acts) around = ap suc (as_many acts around)

pub heads_few : (found : List Action) (acts : List Tree) (around : Around) → heads_of found ≡ heads_of (actions_of acts around) → length found ≡ length acts
heads_few found acts around h =
    sym (length-map found (λ a. (a.tag, a.initialize))) ∙ ap (λ xs. length xs) h ∙ length-map (actions_of acts around) (λ a. (a.tag, a.initialize)) ∙ as_many acts around

-- the same actor with other actions that have the same heads
abbrev pub with_heads : Actor → List Action → Actor
with_heads actor acts = record actor { actions = acts }

pub heads_fine : (found : List Action) (members : Tree) (around : Around) (actor : Actor) (at : ℕ) → heads_of found ≡ heads_of (actions_of (actions_in members) around)
    → HasActions actor (actions_of (actions_in members) around) members → order_broken members (with_heads actor found) at ≡ [] → order_broken members actor at ≡ []
heads_fine found members around actor at h has e = sym (order_same (with_heads actor found) actor (h ∙ ap heads_of (sym has.actions)) refl members at) ∙ e

pub heads_break : (f : KindFault) (found : List Action) (members : Tree) (around : Around) (actor : Actor) (at : ℕ) → heads_of found ≡ heads_of (actions_of (actions_in members) around)
    → HasActions actor (actions_of (actions_in members) around) members → Refuses f (order_broken members (with_heads actor found) at) ⊎ IsCycle f members (with_heads actor found)
    → Refuses f (order_broken members actor at) ⊎ IsCycle f members actor
heads_break f found members around actor at h has (inl r) =
    inl (subst (Refuses f) (order_same (with_heads actor found) actor (h ∙ ap heads_of (sym has.actions)) refl members at) r)
heads_break f found members around actor at h has (inr c) = inr (cycle_same f c)
  where
    same : pairs_in members (with_heads actor found) ≡ pairs_in members actor
    same = pairs_same (with_heads actor found) actor (h ∙ ap heads_of (sym has.actions)) refl members

    cycle_same : (f : KindFault) → IsCycle f members (with_heads actor found) → IsCycle f members actor
    cycle_same (fault.Broken rule at) c = (c.0, c.1, (c.2.0, subst (λ ps. IsAbove ps c.2.0 c.2.0) same c.2.1))
    cycle_same fault.Memory c = tt

-- heads of one action more
pub head_added : (found : List BoundAction) (head : BoundAction) (a : Tree) (acts : List Tree) (around : Around)
    → heads_of (action_views (head ∷ [])) ≡ heads_of (action_of a around ∷ [])
    → heads_of (action_views (found ++ (head ∷ []))) ++ heads_of (actions_of acts around) ≡ heads_of (action_views found) ++ heads_of (actions_of (a ∷ acts) around)
head_added found head a acts around h =
    ap (λ xs. heads_of xs ++ heads_of (actions_of acts around)) (map-append action_view found (head ∷ []))
    ∙ ap (λ ys. ys ++ heads_of (actions_of acts around)) (map-append (λ x. (x.tag, x.initialize)) (action_views found) (action_views (head ∷ [])))
    ∙ append_assoc (heads_of (action_views found)) (heads_of (action_views (head ∷ []))) (heads_of (actions_of acts around))
    ∙ ap (λ ys. heads_of (action_views found) ++ (ys ++ heads_of (actions_of acts around))) h

-- heads of actions are as many as these
some_around : Around
some_around = record { ins = []; outs = []; procs = []; names = record { globals = []; locals = []; funs = [] } }

pub few_heads : (found : List BoundAction) (acts : List Tree) → ((around : Around) → heads_of (action_views found) ≡ heads_of (actions_of acts around)) → length acts ≤ max_actions
    → length found ≤ max_actions
few_heads found acts h few =
    subst (λ n. n ≤ max_actions) (sym (sym (length-map found action_view) ∙ heads_few (action_views found) acts some_around (h some_around))) few

-- what is found of actions with these heads
pub found_by_heads : (r : Result (Unit {0}) KindFault) (found : List Action) (members : Tree) (around : Around) (actor : Actor) (at : ℕ)
    → heads_of found ≡ heads_of (actions_of (actions_in members) around) → HasActions actor (actions_of (actions_in members) around) members
    → ((x : Actor) → HasActions x found members → FindsOrderOf r members x at) → FindsOrderOf r members actor at
found_by_heads (Ok u) found members around actor at h has k =
    heads_fine found members around actor at h has (k (with_heads actor found) (record { actions = refl; states = has.states }))
found_by_heads (Err f) found members around actor at h has k =
    heads_break f found members around actor at h has (k (with_heads actor found) (record { actions = refl; states = has.states }))

-- ---- what is said of a fault

pub fault_stays : (f : KindFault) (members : Tree) (around : Around) (actor : Actor) (at : ℕ) → is_passed true f ≡ false → BreaksMembers f members around actor at
    → IsMembersFault f members around actor at
fault_stays f members around actor at e h = (h, inl e)

pub fault_alone : (f : KindFault) (members : Tree) (around : Around) (actor : Actor) (at : ℕ) → said true (members_broken members around actor at) ≡ [] → BreaksMembers f members around actor at
    → IsMembersFault f members around actor at
fault_alone f members around actor at e h = (h, inr e)

pub other_said : (f : KindFault) (members : Tree) (around : Around) (actor : Actor) (at : ℕ) → FindsOthers (Err f) members around actor at → IsMembersFault f members around actor at
other_said f members around actor at (inl h) = (inl (refuses_from_said f (members_broken members around actor at) h), inl (said_is_other f (members_broken members around actor at) h))
other_said f members around actor at (inr h) = (inr h, inl (cycle_is_other f members actor h))

-- a fault of what orders actions is said in any case
pub order_fault : (f : KindFault) (members : Tree) (around : Around) (actor : Actor) (at : ℕ) → BreaksMembers f members around actor at
    → Refuses f (order_broken members actor at) ⊎ IsCycle f members actor → IsMembersFault f members around actor at
order_fault f members around actor at h (inl r) = (h, inl (said_is_other f (order_broken members actor at) (subst (Refuses f) (sym (order_said members actor at)) r)))
order_fault f members around actor at h (inr c) = (h, inl (cycle_is_other f members actor c))
