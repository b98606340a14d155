-- Lines of a run that may come: a firing, a trap and a delivery, from what is known of cells.
use Rattle.std.proofs.Common.{◌≡◌, ℕ, ◌+◌, ◌≤◌, Bool, true, false, [], ◌++◌, length, refl, sym, ap, subst, ◌∙◌, ⊎_elim, arith, append-nil}
use Rattle.std.specs.Prelude.{Option, None, Some, slice_get, if◌then◌else◌, ◌==◌, replicate, pos}
use Rattle.std.proofs.lemmas.Bool.{cases_lt, eqb-true}
use Rattle.std.proofs.lemmas.List.{length-append, length-replicate}
use Rattle.rvc_base.specs.declared.trap.Trap.{Trap as TrapName}
use Rattle.rvc_base.specs.declared.trap.Trap.TheVariants.{Overflow, DivideByZero, IndexRange, ShiftRange, TurnLimit}
use Rattle.rvc_base.specs.Behaviour.{Effect, Fires, TrapsInGuard, TrapsInBody}
use Rattle.trace_text.specs.declared.line.Line.TheVariants.{Fire as FireLine, Deliver as DeliverLine, Trap as TrapLine}
use Rattle.net_model.specs.declared.wiring.End.{End}
use Rattle.net_model.specs.declared.wiring.End.TheVariants.{Leaf as AtLeaf, Net as AtNet}
use Rattle.net_model.specs.declared.wiring.Link.{Link}
use Rattle.net_model.specs.Network.{Network}
use Rattle.net_model.specs.State.{Flow, State, effect_at, give_of}
use Rattle.net_model.specs.Event.{Fire, each_flow, happens, number_of_trap, trap}
use Rattle.net_model.specs.Trace.{FitFlows, after_delivery, counted_flows, held_since, with_given}
use Rattle.net_model.specs.Wired.{IsWired}
use Rattle.net_model.specs.Laws.{AreLawful, HasFlows}
use Rattle.net_model.specs.Paced.{HasRoomIn, PassesLink, PassesRoom}
use Rattle.net_model.proofs.Keeping.{Since, SinceOpened, changed, deliver_since, fire_since, fit_each, fits_now}
use Rattle.trace_replay.specs.Judging.{MayCome, Trial, TrapComes}

-- a firing that has room
pub fire_comes : {X : Type 0} (t : Trial X) (opened s next : State X) (i a : ℕ) → IsWired t.net → AreLawful t.net → Since t.net opened s → HasRoomIn t.net opened s i a
    → happens t.net s (Fire i a) ≡ Some next → MayCome t opened s (FireLine i a) next
fire_comes t opened s next i a wired lawful since room h = record {
  true_there = tt;
  goes_so = h;
  trap_fits = tt;
  fits = fits_now t.net opened next (fire_since t.net opened s next i a wired lawful since room h);
}

-- a delivery of an untrapped state
pub untrapped_goes : {X : Type 0} (net : Network X) (s : State X) (trapped : Bool) → trapped ≡ false → (if trapped then None else Some (after_delivery net s)) ≡ Some (after_delivery net s)
untrapped_goes net s true e = cc
untrapped_goes net s false e = refl

pub deliver_comes : {X : Type 0} (t : Trial X) (opened s : State X) → s.trapped ≡ false → HasFlows t.net s → HasFlows t.net opened → Since t.net opened s
    → MayCome t opened s DeliverLine (after_delivery t.net s)
deliver_comes t opened s untrapped has had since = record {
  true_there = tt;
  goes_so = untrapped_goes t.net s s.trapped untrapped;
  trap_fits = tt;
  fits = fits_now t.net (after_delivery t.net s) (after_delivery t.net s) (deliver_since t.net opened s has had since);
}

-- a flow with what the action would have sent
given_fits : (gives : ℕ → ℕ) (i : ℕ) (link : Link) (before flow : Flow) (end : End) → held_since before flow ≤ flow.capacity
    → (PassesRoom gives i before flow end → ⊥)
    → held_since before (with_given i gives link end flow) ≤ flow.capacity
given_fits gives i link before flow (AtNet port) fits room = fits
given_fits gives i link before flow (AtLeaf inst port) fits room = of_test (i == inst.0) refl
  where
    of_test : (b : Bool) → (i == inst.0) ≡ b → held_since before (with_given i gives link (AtLeaf inst port) flow) ≤ flow.capacity
    of_test true e =
        let sent : length (flow.sent ++ (if i == inst.0 then replicate (gives port) (pos 0) else [])) ≡ length flow.sent + gives port =
        ap (λ b. length (flow.sent ++ (if b then replicate (gives port) (pos 0) else []))) e
        ∙ (length-append flow.sent (replicate (gives port) (pos 0)) ∙ ap (λ n. length flow.sent + n) (length-replicate (gives port) (pos 0))) in
        ⊎_elim (λ over. absurd (room (eqb-true i inst.0 e, over))) (λ within. omega (arith, sent, within))
        (cases_lt flow.capacity (held_since before flow + gives port))
    of_test false e =
        let sent : length (flow.sent ++ (if i == inst.0 then replicate (gives port) (pos 0) else [])) ≡ length flow.sent =
        ap (λ b. length (flow.sent ++ (if b then replicate (gives port) (pos 0) else []))) e ∙ ap length (append-nil flow.sent) in
        omega (arith, sent, fits)

capacity_given : (i : ℕ) (gives : ℕ → ℕ) (link : Link) (end : End) (flow : Flow) → (with_given i gives link end flow).capacity ≡ flow.capacity
capacity_given i gives link (AtLeaf inst port) flow = refl
capacity_given i gives link (AtNet port) flow = refl

passes_at : {X : Type 0} (net : Network X) (opened s : State X) (i a l : ℕ) (link : Link) (before flow : Flow) → slice_get net.links l ≡ Some link → slice_get opened.flows l ≡ Some before
    → slice_get s.flows l ≡ Some flow → PassesRoom (give_of (slice_get net.leaves i) a) i before flow link.from → PassesLink net opened s i a l
passes_at net opened s i a l link before flow at then_ now passes = rw (at, then_, now) passes

given_all : {X : Type 0} (net : Network X) (opened s : State X) (i a : ℕ) → Since net opened s → HasRoomIn net opened s i a
    → FitFlows net.links opened.flows (each_flow (λ link flow. with_given i (give_of (slice_get net.leaves i) a) link link.from flow) net.links s.flows)
given_all net opened s i a since room =
    fit_each net.links opened.flows _ (λ l link before flow at then_ now inner.
    let gives : ℕ → ℕ = give_of (slice_get net.leaves i) a in
    let was = changed (λ link flow. with_given i gives link link.from flow) net.links s.flows l link flow at now in
    let old : SinceOpened link before was.old = since l link before was.old at then_ was.there in
    let same_capacity : flow.capacity ≡ was.old.capacity = ap (λ f. f.capacity) (sym was.is) ∙ capacity_given i gives link link.from was.old in
    let fits : held_since before (with_given i gives link link.from was.old) ≤ was.old.capacity =
    given_fits gives i link before was.old link.from (old.fits inner) (λ passes. room l (passes_at net opened s i a l link before was.old at then_ was.there passes)) in
    let held : held_since before flow ≡ held_since before (with_given i gives link link.from was.old) = ap (held_since before) (sym was.is) in
    omega (arith, same_capacity, fits, held))

-- a trap that comes
alike : (c : TrapName) → (number_of_trap c == number_of_trap c) ≡ true
alike Overflow = refl
alike DivideByZero = refl
alike IndexRange = refl
alike ShiftRange = refl
alike TurnLimit = refl

marks : {X : Type 0} (s : State X) (c d : TrapName) → d ≡ c → (if number_of_trap c == number_of_trap d then Some (record s { trapped = true }) else None) ≡ Some (record s { trapped = true })
marks s c d same = subst (λ e. (if number_of_trap c == number_of_trap e then Some (record s { trapped = true }) else None) ≡ Some (record s { trapped = true })) (sym same)
    (ap (λ b. if b then Some (record s { trapped = true }) else None) (alike c))

pub trap_goes : {X : Type 0} (net : Network X) (opened s : State X) (i a : ℕ) (e : Option (Effect X)) (c : TrapName) → TrapComes net opened s i a e c → trap s c e ≡ Some (record s { trapped = true })
trap_goes net opened s i a None c comes = absurd comes
trap_goes net opened s i a (Some (Fires next sent)) c comes = absurd comes
trap_goes net opened s i a (Some (TrapsInGuard d)) c comes = marks s c d comes
trap_goes net opened s i a (Some (TrapsInBody d)) c comes = marks s c d comes.0

trap_counts : {X : Type 0} (net : Network X) (opened s : State X) (i a : ℕ) (e : Option (Effect X)) (c : TrapName) → Since net opened s → TrapComes net opened s i a e c
    → FitFlows net.links opened.flows (counted_flows net s i a e)
trap_counts net opened s i a None c since comes = absurd comes
trap_counts net opened s i a (Some (Fires next sent)) c since comes = absurd comes
trap_counts net opened s i a (Some (TrapsInGuard d)) c since comes = fits_now net opened s since
trap_counts net opened s i a (Some (TrapsInBody d)) c since comes = given_all net opened s i a since comes.1

pub unless_trapped : {X : Type 0} (trapped : Bool) (o p : Option (State X)) → trapped ≡ false → o ≡ p → (if trapped then None else o) ≡ p
unless_trapped true o p e same = cc
unless_trapped false o p e same = same

pub trap_comes : {X : Type 0} (t : Trial X) (opened s : State X) (i a : ℕ) (c : TrapName) → s.trapped ≡ false → Since t.net opened s
    → TrapComes t.net opened s i a (effect_at t.net s i a) c → MayCome t opened s (TrapLine i a c) (record s { trapped = true })
trap_comes t opened s i a c untrapped since comes = record {
  true_there = refl;
  goes_so = unless_trapped s.trapped (trap s c (effect_at t.net s i a)) (Some (record s { trapped = true })) untrapped
      (trap_goes t.net opened s i a (effect_at t.net s i a) c comes);
  trap_fits = trap_counts t.net opened s i a (effect_at t.net s i a) c since comes;
  fits = fits_now t.net opened s since;
}
