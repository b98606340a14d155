-- An actor that is put together of its parts.
use Rattle.std.proofs.Common.{◌≡◌, ◌⊎◌, inl, inr, ⊎_elim, ℕ, true, false, List, [], map, refl, sym, ap, subst, ◌∙◌}
use Rattle.std.specs.Prelude.{Vec}
use Rattle.std.specs.declared.alloc.Global.{Global}
use Rattle.rvc_base.specs.Chain.{IsAbove}
use Rattle.cal_ast.specs.Tree.{Tree}
use Rattle.cal_ast.specs.View.{actor_tree}
use Rattle.cal_imports.specs.declared.scope.Scope.{Scope as Resolved}
use Rattle.cal_model.specs.Actor.{Actor, Port, Proc}
use Rattle.cal_model.specs.Kinding.{Names}
use Rattle.cal_model.specs.View.{actor_of, port_view, proc_view, var_view}
use Rattle.cal_model.specs.declared.bound.Bound.{Bound}
use Rattle.cal_model.specs.declared.bound.BoundVar.{BoundVar}
use Rattle.const_env.specs.declared.fault.KindFault.{KindFault}
use Rattle.const_env.specs.declared.fault.KindFault.TheVariants as fault
use Rattle.cal_check.specs.Actions.{Around, or_none}
use Rattle.cal_check.specs.Actors.{IsAboveItself, Source, actions_in, actions_of, actor_given, all_valued, around_of, bare_actor, kept_funs, kept_vars, members_of, place_of, procs_in, procs_of}
use Rattle.cal_check.specs.Schedules.{moves_in, pairs_in, schedule_in}
use Rattle.cal_check.specs.Variables.{Given, Spot, found_in}
use Rattle.cal_check.specs.Violations.{Violation, all_fine, said}
use Rattle.check_member.specs.Parts.{members_tree}
use Rattle.check_stmt.specs.Judging.{Refuses, is_passed}
use Rattle.check_build_actor.specs.Building.{ArePartsOf, HasActions, IsCycle, IsMembersFault, around_bare, members_broken}
use Rattle.check_build_actor.specs.declared.whole.BareActor.{BareActor}
use Rattle.cal_model.specs.Sound.{Each}
use Rattle.check_given.specs.Causes.{IsCause, SaysRule}
use Rattle.check_variable.specs.declared.header.Header.{Header}
use Rattle.check_actor.specs.Parts.{AreKept, ArePartsIn, BreaksParts, IsBuilt, IsCycleIn, IsInside, placed}
use Rattle.check_actor.specs.Phases.{routines_found, scalars_found}
use Rattle.check_actor.specs.Sources.{source_in}
use Rattle.check_actor.specs.declared.routines.Routines.{Routines}
use Rattle.check_actor.proofs.Causes.{found_of}
use Rattle.check_actor.specs.Sifting.{IsLack}
use Rattle.check_actor.proofs.InsideParts.{inside_fine}
use Rattle.check_actor.proofs.Sifted.{lacks_found}
use Rattle.check_actor.proofs.SamePairs.{pairs_same}

-- ---- what is around

around_with : List Port → List Port → List Proc → Names → Around
around_with ins outs procs names = record { ins = ins; outs = outs; procs = procs; names = names }

around_same : (i j o p : List Port) (q r : List Proc) (n m : Names) → i ≡ j → o ≡ p → q ≡ r → n ≡ m → around_with i o q n ≡ around_with j p r m
around_same i j o p q r n m e1 e2 e3 e4 = cc

pub around_is : (header : Header) (routines : Routines) (names : Names) (s : Source) (gs : List Given) (owner : Spot)
    → ArePartsIn header routines names s gs owner
    → around_of s gs owner ≡ record { ins = map port_view header.ins.items; outs = map port_view header.outs.items; procs = map proc_view routines.procs; names = names }
unfolding around_with
around_is header routines names s gs owner p =
    let procs : (around_of s gs owner).procs ≡ map proc_view routines.procs =
    ap (λ n. or_none (all_fine (procs_of (procs_in (members_of s.actor)) n))) p.inside ∙ ap or_none p.heads.procs in
    around_same (around_of s gs owner).ins (map port_view header.ins.items) (around_of s gs owner).outs (map port_view header.outs.items)
    (around_of s gs owner).procs (map proc_view routines.procs) (around_of s gs owner).names names
    (ap or_none p.ports.ins) (ap or_none p.ports.outs) procs p.inside

around_kept : (bare : BareActor) (header : Header) (routines : Routines) (names : Names) → bare.ins.items ≡ header.ins.items → bare.outs.items ≡ header.outs.items
    → bare.procs ≡ routines.procs
    → around_with (map port_view header.ins.items) (map port_view header.outs.items) (map proc_view routines.procs) names
    ≡ around_with (map port_view bare.ins.items) (map port_view bare.outs.items) (map proc_view bare.procs) names
around_kept bare header routines names i o p =
    around_same _ _ _ _ _ _ names names (ap (map port_view) (sym i)) (ap (map port_view) (sym o)) (ap (map proc_view) (sym p)) refl

pub parts_are : (bare : BareActor) (held : Vec BoundVar Global) (header : Header) (routines : Routines) (scope : Resolved) (names : Names) (gs : List Given) (owner : Spot)
    → AreKept bare held header routines (source_in scope) → ArePartsIn header routines names (source_in scope) gs owner
    → (all_valued (source_in scope) gs owner).held ≡ map var_view held.items
    → ArePartsOf bare (actor_tree scope.actor) names (source_in scope) gs owner
unfolding around_with
parts_are bare held header routines scope names gs owner k p h = record {
  actor = refl;
  class = sym k.class;
  around = around_is header routines names (source_in scope) gs owner p ∙ around_kept bare header routines names k.ins k.outs k.procs;
  vars = ap (λ xs. kept_vars xs (source_in scope)) h ∙ sym k.vars;
  funs = ap (λ fs. kept_funs (or_none fs) (source_in scope)) p.heads.funs ∙ sym k.funs;
}

-- ---- what actions and their order break

pub placed_cause : (file : ℕ) (f : KindFault) (vs : List Violation) → Refuses f vs → IsCause (placed file f) (found_in file vs)
placed_cause file (fault.Broken rule at) vs h = found_of file vs (record { rule = rule; at = at }) h
placed_cause file fault.Memory vs h = tt

pub placed_cycle : (file : ℕ) (f : KindFault) (members : Tree) (actor : Actor) → actor.pairs ≡ pairs_in members actor → IsCycle f members actor
    → IsCycleIn (placed file f) file members actor
placed_cycle file (fault.Broken rule at) members actor pairs (is, first, (a, above)) =
    (record { action = a; above = subst (λ ps. IsAbove ps a a) (sym pairs) above }, first, is, refl)
placed_cycle file fault.Memory members actor pairs h = tt

pub own_has : (bare : BareActor) (scope : Resolved) (names : Names) (gs : List Given) (owner : Spot) → ArePartsOf bare (actor_tree scope.actor) names (source_in scope) gs owner
    → HasActions (actor_given (source_in scope) gs owner) (actions_of (actions_in (members_tree scope.actor.members.items)) (around_bare bare names)) (members_tree scope.actor.members.items)
own_has bare scope names gs owner parts =
    record { actions = ap (actions_of (actions_in (members_tree scope.actor.members.items))) parts.around; states = refl }

-- nothing but what isn't constant, or a rule that is said in any case
placed_only : (file : ℕ) (f : KindFault) (vs : List Violation) → (is_passed true f ≡ false) ⊎ (said true vs ≡ []) → SaysRule (placed file f) ⊎ Each IsLack (found_in file vs)
placed_only file (fault.Broken rule at) vs (inl h) = inl h
placed_only file fault.Memory vs (inl h) = inl tt
placed_only file f vs (inr h) = inr (lacks_found file vs h)

pub parts_break : (f : KindFault) (bare : BareActor) (scope : Resolved) (names : Names)
    → ((actor : Actor) → HasActions actor (actions_of (actions_in (members_tree scope.actor.members.items)) (around_bare bare names)) (members_tree scope.actor.members.items)
    → IsMembersFault f (members_tree scope.actor.members.items) (around_bare bare names) actor scope.actor.at)
    → BreaksParts (placed scope.file f) bare scope names
parts_break f bare scope names broken gs owner parts =
    let s = source_in scope in
    let members = members_tree scope.actor.members.items in
    let around = around_of s gs owner in
    let plain = bare_actor s gs owner around in
    let actor = actor_given s gs owner in
    let pairs : actor.pairs ≡ pairs_in members actor =
    sym (pairs_same plain (moves_in (schedule_in members) plain) (pairs_in members plain) members) in
    let breaks : IsMembersFault f members around actor scope.actor.at =
    subst (λ a. IsMembersFault f members a actor scope.actor.at) (sym parts.around) (broken actor (own_has bare scope names gs owner parts)) in (
      ⊎_elim (λ l. inl (placed_cause scope.file f (members_broken members around actor scope.actor.at) l))
          (λ r. inr (placed_cycle scope.file f members actor pairs r)) breaks.0,
      placed_only scope.file f (members_broken members around actor scope.actor.at) breaks.1,
    )

-- ---- the actor, if nothing else is broken

pub kept_inside : (found : Bound) (bare : BareActor) (held : Vec BoundVar Global) (header : Header) (routines : Routines) (scope : Resolved) (names : Names) (gs : List Given) (owner : Spot)
    → AreKept bare held header routines (source_in scope) → ArePartsIn header routines names (source_in scope) gs owner
    → (all_valued (source_in scope) gs owner).held ≡ map var_view held.items
    → routines_found (source_in scope) (map proc_view routines.procs) names ≡ []
    → scalars_found (source_in scope) (map var_view bare.vars.items) ≡ []
    → IsBuilt found bare scope names → IsInside found (source_in scope) gs owner
kept_inside found bare held header routines scope names gs owner k p h routines_fine scalars_fine b =
    let s = source_in scope in
    let around = around_of s gs owner in
    let actor = actor_given s gs owner in
    let parts = parts_are bare held header routines scope names gs owner k p h in
    let is : actor_of found ≡ actor = b.is gs owner parts in
    let same : map var_view bare.vars.items ≡ kept_vars (all_valued s gs owner).held s = k.vars ∙ sym (ap (λ xs. kept_vars xs s) h) in
    let shape = around_is header routines names s gs owner p in
    let procs : around.procs ≡ map proc_view routines.procs = ap (λ a. a.procs) shape in
    let members : members_broken (members_of s.actor) around actor (place_of s.actor) ≡ [] =
    subst (λ a. members_broken (members_of s.actor) around a (place_of s.actor) ≡ []) is
    (subst (λ a. members_broken (members_of s.actor) a (actor_of found) (place_of s.actor) ≡ []) (sym parts.around) b.fine) in
    let scalars : scalars_found s actor.vars ≡ [] = subst (λ xs. scalars_found s xs ≡ []) same scalars_fine in
    record {
      is = is;
      fine = inside_fine s around actor
          (subst (λ ps. routines_found s ps around.names ≡ []) (sym procs) (subst (λ n. routines_found s (map proc_view routines.procs) n ≡ []) (sym p.inside) routines_fine))
          members scalars;
      ordered = λ above. b.ordered (subst IsAboveItself (sym is) above);
    }
