-- What is inside an actor, where what isn't constant is passed over.
use Rattle.std.proofs.Common.{◌≡◌, ◌⊎◌, inl, inr, ⊎_elim, Bool, true, false, ℕ, List, [], ◌∷◌, map, sym, ap, subst, ◌∙◌, Ok, Err, Result}
use Rattle.std.specs.Prelude.{Contains, Vec, nat_le, ◌==◌}
use Rattle.std.specs.declared.alloc.Global.{Global}
use Rattle.rvc_base.specs.Rules.{not_constant, too_many_variables}
use Rattle.rvc_base.specs.declared.refusal.Front.{Front}
use Rattle.rvc_base.specs.declared.refusal.Front.TheVariants as front
use Rattle.cal_ast.specs.View.{actor_tree}
use Rattle.cal_imports.specs.declared.scope.Scope.{Scope as Resolved}
use Rattle.cal_model.specs.Actor.{Actor, Held}
use Rattle.cal_model.specs.Kinding.{Names}
use Rattle.cal_model.specs.Sound.{Each, max_variable_scalars}
use Rattle.cal_model.specs.View.{proc_view, var_view}
use Rattle.cal_model.specs.declared.bound.Bound.{Bound}
use Rattle.cal_model.specs.declared.bound.BoundVar.{BoundVar}
use Rattle.const_env.specs.declared.fault.KindFault.{KindFault}
use Rattle.const_env.specs.declared.fault.KindFault.TheVariants as fault
use Rattle.cal_check.proofs.Lists.{each-of, head-or-rest, in-none}
use Rattle.cal_check.specs.Actions.{Around}
use Rattle.cal_check.specs.Actors.{Source, actions_in, actions_of, actor_given, all_valued, around_of, bare_actor, inside_found, kept_vars, members_of, place_of, scalars_of}
use Rattle.cal_check.specs.Schedules.{moves_in, pairs_in, schedule_in}
use Rattle.cal_check.specs.Variables.{Found, Given, Spot, found_in}
use Rattle.cal_check.specs.Violations.{Violation, said, unless}
use Rattle.check_member.specs.Parts.{members_tree}
use Rattle.check_stmt.specs.Judging.{Refuses}
use Rattle.check_build_actor.proofs.PastLacks.{refuses_from_said, said_is_other}
use Rattle.check_build_actor.specs.Building.{ArePartsOf, FindsOthers, HasActions, IsCycle, around_bare, members_broken}
use Rattle.check_build_actor.specs.declared.whole.BareActor.{BareActor}
use Rattle.check_given.specs.Causes.{IsCause, SaysRule}
use Rattle.check_variable.specs.declared.header.Header.{Header}
use Rattle.check_actor.specs.Parts.{AreBareParts, BreaksParts, BuildsActor, FindsInside, IsCycleOf, SiftsAll, SiftsMembers, placed}
use Rattle.check_actor.specs.Phases.{routines_found, scalars_found}
use Rattle.check_actor.specs.Sifting.{IsInsideFault, IsLack, Sifts, lacks}
use Rattle.check_actor.specs.Sources.{source_in}
use Rattle.check_actor.specs.declared.routines.Routines.{Routines}
use Rattle.check_actor.proofs.InsideParts.{in_inside, members_cause, routines_cause, scalars_cause}
use Rattle.check_actor.proofs.Putting.{around_is, kept_inside, own_has, parts_are, placed_cause, placed_cycle}
use Rattle.check_actor.proofs.SamePairs.{pairs_same}
use Rattle.check_actor.proofs.Sifted.{lacks_found}

-- ---- calls that pass over what isn't constant

says : (file : ℕ) (f : KindFault) (vs : List Violation) → Refuses f (said true vs) → SaysRule (placed file f)
says file (fault.Broken rule at) vs h = said_is_other (fault.Broken rule at) vs h
says file fault.Memory vs h = tt

pub said_found : (file : ℕ) (f : KindFault) (vs : List Violation) → Refuses f (said true vs) → IsCause (placed file f) (found_in file vs) × SaysRule (placed file f)
said_found file f vs h = (placed_cause file f vs (refuses_from_said f vs h), says file f vs h)

-- ---- members

pub members_lack : (bare : BareActor) (scope : Resolved) (names : Names)
    → ((actor : Actor) → HasActions actor (actions_of (actions_in (members_tree scope.actor.members.items)) (around_bare bare names)) (members_tree scope.actor.members.items)
    → FindsOthers (Ok tt) (members_tree scope.actor.members.items) (around_bare bare names) actor scope.actor.at)
    → SiftsMembers (Ok tt) bare scope names
members_lack bare scope names found gs owner parts =
    let s = source_in scope in
    let actor = actor_given s gs owner in
    lacks_found scope.file (members_broken (members_of s.actor) (around_of s gs owner) actor scope.actor.at)
    (subst (λ a. said true (members_broken (members_of s.actor) a actor scope.actor.at) ≡ []) (sym parts.around)
    (found actor (own_has bare scope names gs owner parts)))

pub members_say : (f : KindFault) (bare : BareActor) (scope : Resolved) (names : Names)
    → ((actor : Actor) → HasActions actor (actions_of (actions_in (members_tree scope.actor.members.items)) (around_bare bare names)) (members_tree scope.actor.members.items)
    → FindsOthers (Err f) (members_tree scope.actor.members.items) (around_bare bare names) actor scope.actor.at)
    → SiftsMembers (Err (placed scope.file f)) bare scope names
members_say f bare scope names found gs owner parts =
    let s = source_in scope in
    let members = members_of s.actor in
    let actor = actor_given s gs owner in
    let plain = bare_actor s gs owner (around_of s gs owner) in
    let pairs : actor.pairs ≡ pairs_in members actor =
    sym (pairs_same plain (moves_in (schedule_in members) plain) (pairs_in members plain) members) in
    let breaks : Refuses f (said true (members_broken members (around_of s gs owner) actor scope.actor.at)) ⊎ IsCycle f members actor =
    subst (λ a. Refuses f (said true (members_broken members a actor scope.actor.at)) ⊎ IsCycle f members actor) (sym parts.around)
    (found actor (own_has bare scope names gs owner parts)) in
    ⊎_elim (λ l. inl (said_found scope.file f (members_broken members (around_of s gs owner) actor scope.actor.at) l))
    (λ r. inr (placed_cycle scope.file f members actor pairs r)) breaks

-- ---- the parts of what is inside

each_there : (fs : List Found) (f : Found) → Each IsLack fs → Contains fs f → IsLack f
each_there [] f h c = absurd (in-none f c)
each_there (x ∷ fs) f h c = go (head-or-rest f x fs c) (λ i. each_there fs f h.1 i)
  where
    go : (x ≡ f) ⊎ Contains fs f → (Contains fs f → IsLack f) → IsLack f
    go (inl e) k = subst IsLack e h.0
    go (inr i) k = k i

-- all that is broken inside is in one of these lists
pub all_lack : (s : Source) (around : Around) (actor : Actor) → Each IsLack (routines_found s around.procs around.names)
    → Each IsLack (found_in s.file (members_broken (members_of s.actor) around actor (place_of s.actor))) → scalars_found s actor.vars ≡ []
    → Each IsLack (inside_found s around actor)
all_lack s around actor r m x = each-of IsLack (inside_found s around actor) (λ f h. go f (in_inside s around actor f h))
  where
    routines : List Found
    routines = routines_found s around.procs around.names

    members : List Found
    members = found_in s.file (members_broken (members_of s.actor) around actor (place_of s.actor))

    go : (f : Found) → Contains routines f ⊎ (Contains members f ⊎ Contains (scalars_found s actor.vars) f) → IsLack f
    go f (inl i) = each_there routines f r i
    go f (inr (inl i)) = each_there members f m i
    go f (inr (inr i)) = absurd (in-none f (subst (λ fs. Contains fs f) x i))

scalars_say : (f : Front) (s : Source) (vars : List Held) → IsCause f (scalars_found s vars) → SaysRule f
scalars_say (front.Refused r) s vars h = go (nat_le (scalars_of vars) max_variable_scalars) h
  where
    refused : Found
    refused = record { violation = record { rule = r.rule; at = r.place.offset }; file = r.place.file }

    many : Found
    many = record { violation = record { rule = too_many_variables; at = place_of s.actor }; file = s.file }

    go : (b : Bool) → Contains (found_in s.file (unless b too_many_variables (place_of s.actor))) refused → (r.rule.0 == not_constant.0) ≡ false
    go true c = absurd (in-none refused c)
    go false c =
        ⊎_elim (λ e. ap (λ f. f.violation.rule.0 == not_constant.0) (sym e)) (λ i. absurd (in-none refused i)) (head-or-rest refused many [] c)
scalars_say front.Memory s vars h = tt

-- ---- all parts

module _ (bare : BareActor) (held : Vec BoundVar Global) (header : Header) (routines : Routines) (scope : Resolved) (names : Names) (gs : List Given) (owner : Spot)
    (parts : AreBareParts bare held header routines scope names gs owner) where
  abbrev s : Source
  s = source_in scope

  abbrev around : Around
  around = around_of s gs owner

  abbrev actor : Actor
  actor = actor_given s gs owner

  procs : around.procs ≡ map proc_view bare.procs
  procs = ap (λ a. a.procs) (around_is header routines names s gs owner parts.parts) ∙ ap (map proc_view) (sym parts.kept.procs)

  vars : map var_view bare.vars.items ≡ kept_vars (all_valued s gs owner).held s
  vars = parts.kept.vars ∙ sym (ap (λ xs. kept_vars xs s) parts.values)

  own : ArePartsOf bare (actor_tree scope.actor) names s gs owner
  own = parts_are bare held header routines scope names gs owner parts.kept parts.parts parts.values

  routines_same : routines_found s (map proc_view bare.procs) names ≡ routines_found s around.procs around.names
  routines_same = ap (λ ps. routines_found s ps names) (sym procs) ∙ ap (λ n. routines_found s around.procs n) (sym parts.parts.inside)

  pub routines_said : (f : Front) → Sifts (Err f) (routines_found s (map proc_view bare.procs) names) → SiftsAll (Err f) s gs owner
  routines_said f h = inl (routines_cause f s around actor (subst (IsCause f) routines_same h.0), h.1)

  pub scalars_said : (f : Front) → IsCause f (scalars_found s (map var_view bare.vars.items)) → SiftsAll (Err f) s gs owner
  scalars_said f h = inl (scalars_cause f s around actor (subst (λ xs. IsCause f (scalars_found s xs)) vars h), scalars_say f s (map var_view bare.vars.items) h)

  pub own_said : (r : Result (Unit {0}) Front) → Sifts (Ok tt) (routines_found s (map proc_view bare.procs) names) → scalars_found s (map var_view bare.vars.items) ≡ []
      → SiftsMembers r bare scope names → SiftsAll r s gs owner
  own_said (Ok u) h x m =
      all_lack s around actor (subst (Each IsLack) routines_same h) (m gs owner own) (subst (λ xs. scalars_found s xs ≡ []) vars x)
  own_said (Err f) h x m = ⊎_elim (λ l. inl (members_cause f s around actor l.0, l.1)) (λ r. inr r) (m gs owner own)

-- ---- what is said of a fault

pub fault_kept : (f : Front) (fs : List Found) (above : Front → Type 0) → lacks f ≡ false → IsCause f fs → IsInsideFault f fs above
fault_kept (front.Refused r) fs above e h = (inl h, inl e)
fault_kept front.Memory fs above e h = (inl h, inl tt)

pub fault_only : (f : Front) (fs : List Found) (above : Front → Type 0) → Each IsLack fs → IsCause f fs → IsInsideFault f fs above
fault_only f fs above e h = (inl h, inr e)

cycle_says : (f : Front) (s : Source) (gs : List Given) (owner : Spot) → IsCycleOf f s gs owner → SaysRule f
cycle_says (front.Refused r) s gs owner h = ap (λ x. x.0 == not_constant.0) h.2
cycle_says front.Memory s gs owner h = tt

pub other_told : (f : Front) (s : Source) (gs : List Given) (owner : Spot) → SiftsAll (Err f) s gs owner
    → IsInsideFault f (inside_found s (around_of s gs owner) (actor_given s gs owner)) (λ g. IsCycleOf g s gs owner)
other_told f s gs owner (inl h) = (inl h.0, inl h.1)
other_told f s gs owner (inr h) = (inr h, inl (cycle_says f s gs owner h))

-- ---- the actor of its parts, or why there is none

kept_breaks : (f : Front) (bare : BareActor) (held : Vec BoundVar Global) (header : Header) (routines : Routines) (scope : Resolved) (names : Names) (gs : List Given) (owner : Spot)
    → AreBareParts bare held header routines scope names gs owner → routines_found (source_in scope) (map proc_view routines.procs) names ≡ []
    → scalars_found (source_in scope) (map var_view bare.vars.items) ≡ []
    → BreaksParts f bare scope names → FindsInside (Err f) (source_in scope) gs owner
kept_breaks f bare held header routines scope names gs owner parts routines_fine scalars_fine breaks =
    let s = source_in scope in
    let around = around_of s gs owner in
    let actor = actor_given s gs owner in
    let found = breaks gs owner (parts_are bare held header routines scope names gs owner parts.kept parts.parts parts.values) in
    let procs : around.procs ≡ map proc_view routines.procs = ap (λ a. a.procs) (around_is header routines names s gs owner parts.parts) in
    let none : routines_found s around.procs around.names ≡ [] =
    ap (λ ps. routines_found s ps around.names) procs ∙ ap (λ n. routines_found s (map proc_view routines.procs) n) parts.parts.inside ∙ routines_fine in
    let vars : map var_view bare.vars.items ≡ kept_vars (all_valued s gs owner).held s = parts.kept.vars ∙ sym (ap (λ xs. kept_vars xs s) parts.values) in
    let scalars : scalars_found s actor.vars ≡ [] = subst (λ xs. scalars_found s xs ≡ []) vars scalars_fine in (
      ⊎_elim (λ l. inl (members_cause f s around actor l)) (λ r. inr r) found.0,
      ⊎_elim (λ says. inl says) (λ m. inr (all_lack s around actor (subst (Each IsLack) (sym none) tt) m scalars)) found.1,
    )

pub kept_finds : (r : Result Bound Front) (bare : BareActor) (held : Vec BoundVar Global) (header : Header) (routines : Routines) (scope : Resolved) (names : Names) (gs : List Given) (owner : Spot)
    → AreBareParts bare held header routines scope names gs owner → routines_found (source_in scope) (map proc_view routines.procs) names ≡ []
    → scalars_found (source_in scope) (map var_view bare.vars.items) ≡ []
    → BuildsActor r bare scope names → FindsInside r (source_in scope) gs owner
kept_finds (Ok found) bare held header routines scope names gs owner parts r s b =
    kept_inside found bare held header routines scope names gs owner parts.kept parts.parts parts.values r s b
kept_finds (Err f) bare held header routines scope names gs owner parts r s b = kept_breaks f bare held header routines scope names gs owner parts r s b

-- scalars are too many
pub scalars_refused : (f : Front) (bare : BareActor) (held : Vec BoundVar Global) (header : Header) (routines : Routines) (scope : Resolved) (names : Names) (gs : List Given) (owner : Spot)
    → AreBareParts bare held header routines scope names gs owner → IsCause f (scalars_found (source_in scope) (map var_view bare.vars.items))
    → FindsInside (Err f) (source_in scope) gs owner
scalars_refused f bare held header routines scope names gs owner parts h =
    other_told f (source_in scope) gs owner (scalars_said bare held header routines scope names gs owner parts f h)

-- what functions and procedures break is broken inside
pub routines_inside : (f : Front) (bare : BareActor) (held : Vec BoundVar Global) (header : Header) (routines : Routines) (scope : Resolved) (names : Names) (gs : List Given) (owner : Spot)
    → AreBareParts bare held header routines scope names gs owner → IsCause f (routines_found (source_in scope) (map proc_view bare.procs) names)
    → IsCause f (inside_found (source_in scope) (around_of (source_in scope) gs owner) (actor_given (source_in scope) gs owner))
routines_inside f bare held header routines scope names gs owner parts h =
    routines_cause f (source_in scope) (around_of (source_in scope) gs owner) (actor_given (source_in scope) gs owner)
    (subst (IsCause f) (routines_same bare held header routines scope names gs owner parts) h)
