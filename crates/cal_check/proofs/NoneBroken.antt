-- An actor that breaks no rule: each of its parts breaks none, and each variable has a value.
use Rattle.std.proofs.Common.{◌≡◌, ℕ, ◌≤◌, Bool, true, false, ◌||◌, not, List, [], ◌∷◌, ◌++◌, length, refl, ap}
use Rattle.std.specs.Prelude.{if◌then◌else◌, nat_le}
use Rattle.std.proofs.lemmas.Bool.{leb-true}
use Rattle.rvc_base.specs.Rules.{not_constant, too_many_actions, too_many_variables}
use Rattle.rvc_base.specs.declared.refusal.Rule.{Rule}
use Rattle.cal_ast.specs.Places.{begins}
use Rattle.cal_model.specs.Actor.{Actor, Held}
use Rattle.cal_model.specs.Sound.{max_actions, max_states, max_variable_scalars}
use Rattle.cal_check.specs.Actions.{Around}
use Rattle.cal_check.specs.Actors.{Source, actions_broken, actions_in, actor_given, all_found, all_funs, all_said, all_valued, around_of, before_members, behind_variables, declared_vars, first_valueless, formals_broken, funs_broken, given_wrongly, has_heads, header_found, heads_broken, heads_found, initialized_twice, ins_of, inside_found, is_empty, is_held, members_found, members_of, outs_of, params_in, params_of, place_of, procs_broken, procs_in, said_or_all, scalars_of, valueless_found, violations}
use Rattle.cal_check.specs.Ports.{header_broken}
use Rattle.cal_check.specs.Schedules.{priorities_broken, schedule_broken, schedule_in}
use Rattle.cal_check.specs.Variables.{Found, Given, Spot, Valued, VarDecl, found_in, seen}
use Rattle.cal_check.specs.Violations.{Violation, unless, violation}
use Rattle.cal_check.proofs.Fine.{none-of, unless-true}

not-none : {A : Type 0} (x : A) (xs : List A) → x ∷ xs ≡ [] → ⊥
not-none x xs h = cc

-- nothing is said, and there is nothing else
both-none : (said all : List Found) → said_or_all said all ≡ [] → (said ≡ []) × (all ≡ [])
both-none [] all h = (refl, h)
both-none (f ∷ fs) all h = absurd (not-none f fs h)

pub found-none : (file : ℕ) (vs : List Violation) → found_in file vs ≡ [] → vs ≡ []
found-none file [] h = refl
found-none file (v ∷ vs) h = absurd (cc)

empty-is : {A : Type 0} (xs : List A) → xs ≡ [] → is_empty xs ≡ true
empty-is xs h = ap is_empty h

-- ---- variables

never-none : (xs : List VarDecl) (held : List Held) (owner : Spot) → first_valueless xs held owner ≡ [] → ⊥
never-none [] held owner h = cc
never-none (x ∷ xs) held owner h = go (is_held x.name held) h (never-none xs held owner)
  where
    go : (b : Bool) → (if b then first_valueless xs held owner else found_in x.file (violation not_constant (begins x.start))) ≡ [] → (first_valueless xs held owner ≡ [] → ⊥) → ⊥
    go true e rest = rest e
    go false e rest = cc

all-have : (s : Source) (owner : Spot) (vs : Valued) → valueless_found s owner vs ≡ [] → (vs.useless ≡ false) × (vs.whole ≡ true)
all-have s owner vs h = go vs.useless vs.whole h
  where
    go : (a b : Bool) → (if a || not b then first_valueless (declared_vars s) vs.held owner else []) ≡ [] → (a ≡ false) × (b ≡ true)
    go true b e = absurd (never-none (declared_vars s) vs.held owner e)
    go false false e = absurd (never-none (declared_vars s) vs.held owner e)
    go false true e = (refl, refl)

-- ---- members

-- what is inside is judged, since all heads are fine
inside-none : (s : Source) (around : Around) (actor : Actor) (whole : Bool) → whole ≡ true → members_found s around actor whole ≡ []
    → (heads_found s around.names ≡ []) × (inside_found s around actor ≡ [])
inside-none s around actor false w h = absurd (let e : false ≡ true = w in cc)
inside-none s around actor true w h = go (heads_found s around.names) refl h
  where
    go : (hs : List Found) → heads_found s around.names ≡ hs → (if is_empty hs then inside_found s around actor else hs) ≡ [] → (heads_found s around.names ≡ []) × (inside_found s around actor ≡ [])
    go [] e i = (e, i)
    go (f ∷ fs) e i = absurd (not-none f fs i)

members-none : (hs : List Found) (ms : List Found) → hs ≡ [] → (if is_empty hs then ms else []) ≡ [] → ms ≡ []
members-none [] ms e h = h
members-none (f ∷ fs) ms e h = absurd (not-none f fs e)

-- what is counted is within its limit
few : (n limit : ℕ) (rule : Rule) (at : ℕ) → unless (nat_le n limit) rule at ≡ [] → n ≤ limit
few n limit rule at h = leb-true n limit (unless-true (nat_le n limit) rule at h)

-- ---- the whole

-- what breaks no rule, over what an actor's members see
pub record BreaksNothing (s : Source) (around : Around) (actor : Actor) : Type 0 where
  pub heads : heads_broken (all_funs s) around.names ≡ []
  pub formals : formals_broken (procs_in (members_of s.actor)) around.names ≡ []
  pub funs : funs_broken (all_funs s) around.names ≡ []
  pub procs : procs_broken (procs_in (members_of s.actor)) around.procs around.names ≡ []
  pub actions : actions_broken (actions_in (members_of s.actor)) around ≡ []
  pub initialize : initialized_twice false (actions_in (members_of s.actor)) ≡ []
  pub schedule : schedule_broken (schedule_in (members_of s.actor)) actor ≡ []
  pub few_actions : length (actions_in (members_of s.actor)) ≤ max_actions
  pub few_states : length actor.states ≤ max_states
  pub few_scalars : scalars_of actor.vars ≤ max_variable_scalars

pub members-fine : (s : Source) (around : Around) (actor : Actor) → heads_found s around.names ≡ [] → inside_found s around actor ≡ [] → BreaksNothing s around actor
members-fine s around actor h i =
    let heads = none-of (heads_broken (all_funs s) around.names) (found_in s.file (formals_broken (procs_in (members_of s.actor)) around.names)) h in
    let a = none-of (funs_broken (all_funs s) around.names) _ i in
    let rest = found-none s.file _ a.1 in
    let b = none-of (procs_broken (procs_in (members_of s.actor)) around.procs around.names) _ rest in
    let c = none-of (actions_broken (actions_in (members_of s.actor)) around) _ b.1 in
    let d = none-of (initialized_twice false (actions_in (members_of s.actor))) _ c.1 in
    let e = none-of (schedule_broken (schedule_in (members_of s.actor)) actor) _ d.1 in
    let f = none-of (priorities_broken (members_of s.actor) actor.actions) _ e.1 in
    let g = none-of (unless (nat_le (length (actions_in (members_of s.actor))) max_actions) too_many_actions (place_of s.actor)) _ f.1 in
    let k = none-of (unless (nat_le (length actor.states) max_states) too_many_actions (place_of s.actor)) _ g.1 in
    record {
      heads = heads.0;
      formals = found-none s.file (formals_broken (procs_in (members_of s.actor)) around.names) heads.1;
      funs = a.0;
      procs = b.0;
      actions = c.0;
      initialize = d.0;
      schedule = e.0;
      few_actions = few (length (actions_in (members_of s.actor))) max_actions too_many_actions (place_of s.actor) g.0;
      few_states = few (length actor.states) max_states too_many_actions (place_of s.actor) k.0;
      few_scalars = few (scalars_of actor.vars) max_variable_scalars too_many_variables (place_of s.actor) k.1;
    }

pub record NothingBroken (s : Source) (gs : List Given) (owner : Spot) : Type 0 where
  pub useful : (all_valued s gs owner).useless ≡ false
  pub whole : (all_valued s gs owner).whole ≡ true
  pub header : header_broken (ins_of s.actor) (outs_of s.actor) (place_of s.actor) (seen (all_funs s) (before_members s gs owner).known) ≡ []
  pub members : BreaksNothing s (around_of s gs owner) (actor_given s gs owner)

pub nothing-broken : (s : Source) (gs : List Given) (owner : Spot) → violations s gs owner ≡ [] → NothingBroken s gs owner
nothing-broken s gs owner h =
    let around : Around = around_of s gs owner in
    let one = both-none (all_said (not (has_heads s around)) ((all_valued s gs owner).breaks ++ all_said (all_valued s gs owner).useless (behind_variables s gs owner around)))
    (said_or_all (all_found s gs owner around) (valueless_found s owner (all_valued s gs owner))) h in
    let two = both-none (all_found s gs owner around) (valueless_found s owner (all_valued s gs owner)) one.1 in
    let have = all-have s owner (all_valued s gs owner) two.1 in
    let behind = none-of (all_valued s gs owner).breaks (behind_variables s gs owner around) two.0 in
    let given = none-of (given_wrongly gs [] (params_in s.file (params_of s.actor))) _ behind.1 in
    let header = none-of (header_found s gs owner) _ given.1 in
    let members = members-none (header_found s gs owner) (members_found s around (actor_given s gs owner) (all_valued s gs owner).whole) header.0 header.1 in
    let inside = inside-none s around (actor_given s gs owner) (all_valued s gs owner).whole have.1 members in
    record {
      useful = have.0;
      whole = have.1;
      header = found-none s.file _ header.0;
      members = members-fine s around (actor_given s gs owner) inside.0 inside.1;
    }
