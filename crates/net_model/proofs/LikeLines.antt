-- Networks that are alike play the same lines, with the same ends.
use Rattle.std.proofs.Common.{◌≡◌, ℕ, suc, ◌+◌, ◌<◌, Bool, true, false, List, [], ◌∷◌, ◌++◌, ℤ, length, refl, sym, ap, ◌∙◌, subst, inl, inr, ⊎_elim, arith}
use Rattle.std.specs.Prelude.{Option, None, Some, slice_get, slice_set, if◌then◌else◌, ◌==◌, replicate, pos, flat_map}
use Rattle.rvc_base.specs.declared.trap.Trap.{Trap as TrapName}
use Rattle.rvc_base.specs.Behaviour.{Effect, Choice, Fires, TrapsInGuard, TrapsInBody, Waits, Picks, Faults}
use Rattle.trace_text.specs.declared.line.Line.{Line}
use Rattle.trace_text.specs.declared.line.Line.TheVariants.{Header, Inst, Fire as FireLine, Deliver as DeliverLine, Grow as GrowLine, Quiet, Trap as TrapLine, Stall, Budget}
use Rattle.trace_text.specs.Text.{line_text}
use Rattle.net_model.specs.declared.wiring.End.{End}
use Rattle.net_model.specs.declared.wiring.End.TheVariants.{Leaf as AtLeaf, Net as AtNet}
use Rattle.net_model.specs.declared.wiring.Link.{Link}
use Rattle.net_model.specs.Network.{Leaf, Network}
use Rattle.net_model.specs.State.{Flow, State, effect_at, choice_at, need_of}
use Rattle.net_model.specs.Event.{Fire, Trap, each_flow, after_firing, trap, happens}
use Rattle.net_model.specs.Ends.{IsSettled, with_rest, all_fed, IsQuiet, HasLessRoom, LacksOn, LacksRoom, IsStalled, IsStuck, Grows, IsBetween}
use Rattle.net_model.specs.Trace.{delivered, after_delivery, grown, goes, LineIsTrue, OnNext, PlaysFrom, FitFlows, with_given, counted_flows, TrapFits, opened_by, KeepsSince, instance_lines, text}
use Rattle.net_model.specs.Alike.{Allowed, EachIs, EffectsAlike, BehaveAlike, LeavesAlike, ActorsAlike, HoldsAllowed}
use Rattle.net_model.proofs.Commuting.{Fired, fired_unless, fires_so}
use Rattle.net_model.proofs.Twins.{Twins, TwinNets, twin, twin_net, twin_choice, twin_effect, twin_need, twin_give, StepToo, FiresToo, fires_too, trap_too, holds_kept, holds_fired, set_alike, each_same, taken_same}

some_is : {A : Type 0} (x y : A) → Some x ≡ Some y → x ≡ y
some_is x y h = cc

unless_true : {A : Type 0} (trapped : Bool) (o : Option A) (t : A) → (if trapped then None else o) ≡ Some t → (trapped ≡ false) × (o ≡ Some t)
unless_true true o t h = cc
unless_true false o t h = (refl, h)

module _ {X Y : Type 0} (related : ℕ → X → Y → Type 0) (allowed : Allowed) (net : Network X) (others : List (Leaf Y))
    (nets : TwinNets related allowed net others) where
  -- Steps.

  pub fire_too : (s t : State X) (those : List Y) (i a : ℕ) → Twins related allowed net s those → happens net s (Fire i a) ≡ Some t
      → StepToo related allowed net (happens (twin_net net others) (twin s those) (Fire i a)) t
  fire_too s t those i a twins h =
      let one : Fired net s t i a = fired_unless net s t i a s.trapped refl h in
      let both = subst (λ e. EffectsAlike (related i) e (effect_at (twin_net net others) (twin s those) i a)) one.effect
      (twin_effect related allowed net others nets s those twins i a) in
      let other : FiresToo (effect_at (twin_net net others) (twin s those) i a) one.sent (related i one.to) =
      fires_too (related i) one.to one.sent (effect_at (twin_net net others) (twin s those) i a) both in
      let actors : ActorsAlike related 0 (slice_set s.actors i one.to) (slice_set those i other.next) =
      set_alike related 0 s.actors those twins.actors i i one.to other.next (omega arith) other.goes_with in
      let flows : each_flow (after_firing i (need_of (slice_get others i) a) one.sent) net.links s.flows
      ≡ each_flow (after_firing i (need_of (slice_get net.leaves i) a) one.sent) net.links s.flows =
      each_same _ _ (λ link flow. ap (λ n. record {
        sent = flow.sent ++ Rattle.net_model.specs.Event.sent_on i one.sent link link.from;
        arrived = flow.arrived;
        taken = flow.taken + n;
        capacity = flow.capacity;
      }) (taken_same i (need_of (slice_get others i) a) (need_of (slice_get net.leaves i) a) (λ p. sym (twin_need related allowed net others nets i a p)) link.to)) net.links s.flows in
      subst (λ w. StepToo related allowed net (happens (twin_net net others) (twin s those) (Fire i a)) w) one.is (record {
        those = slice_set those i other.next;
        is = fires_so (twin_net net others) (twin s those) i a other.next one.sent (effect_at (twin_net net others) (twin s those) i a) one.untrapped other.is
            ∙ ap (λ fs. Some (record { actors = slice_set those i other.next; flows = fs; trapped = s.trapped })) flows;
        twins = record {
          actors = actors;
          holds = holds_fired allowed i (need_of (slice_get net.leaves i) a) one.sent net.links s.flows nets.stores twins.holds;
        };
      })

  trap_event_too : (s t : State X) (those : List Y) (i a : ℕ) (c : TrapName) → Twins related allowed net s those → happens net s (Trap i a c) ≡ Some t
      → StepToo related allowed net (happens (twin_net net others) (twin s those) (Trap i a c)) t
  trap_event_too s t those i a c twins h =
      let past = unless_true s.trapped (trap s c (effect_at net s i a)) t h in
      let both = trap_too (related i) s t those c (effect_at net s i a) (effect_at (twin_net net others) (twin s those) i a)
      (twin_effect related allowed net others nets s those twins i a) past.1 in
      record {
        those = those;
        is = ap (λ b. if b then None else trap (twin s those) c (effect_at (twin_net net others) (twin s those) i a)) past.0 ∙ both.0;
        twins = record {
          actors = subst (λ states. ActorsAlike related 0 states those) (sym both.1) twins.actors;
          holds = λ l link flow at now. twins.holds l link flow at (ap (λ fs. slice_get fs l) (sym both.2) ∙ now);
        };
      }

  pub deliver_too : (s : State X) (those : List Y) → Twins related allowed net s those → Twins related allowed net (after_delivery net s) those
  deliver_too s those twins = record {
    actors = twins.actors;
    holds = holds_kept allowed delivered (λ link flow. refl) net.links s.flows twins.holds;
  }

  set_holds : (flows : List Flow) (l capacity : ℕ) (flow : Flow) → slice_get flows l ≡ Some flow
      → ((m : ℕ) (link : Link) (f : Flow) → slice_get net.links m ≡ Some link → slice_get flows m ≡ Some f → HoldsAllowed allowed f link.to)
      → (m : ℕ) (link : Link) (f : Flow) → slice_get net.links m ≡ Some link
      → slice_get (slice_set flows l (record flow { capacity = capacity })) m ≡ Some f → HoldsAllowed allowed f link.to
  set_holds flows l capacity flow here holds m link f at now = ⊎_elim
      (λ other. holds m link f at other)
      (λ there. same_holds link.to flow f (ap (λ g. g.sent) there.1) (holds m link flow at (ap (slice_get flows) there.0 ∙ here)))
      (Rattle.net_model.proofs.KeepingRuns.set_is flows l (record flow { capacity = capacity }) m f now)
    where
      same_holds : (end : End) (old new : Flow) → old.sent ≡ new.sent → HoldsAllowed allowed old end → HoldsAllowed allowed new end
      same_holds (AtLeaf inst port) old new same h = subst (EachIs (allowed inst.0 port)) same h
      same_holds (AtNet port) old new same h = tt

  grown_too : (s t : State X) (those : List Y) (l capacity : ℕ) (flow : Option Flow) → slice_get s.flows l ≡ flow → Twins related allowed net s those
      → grown s l capacity flow ≡ Some t → StepToo related allowed net (grown (twin s those) l capacity flow) t
  grown_too s t those l capacity None here twins h = cc
  grown_too s t those l capacity (Some flow) here twins h =
      let is : record s { flows = slice_set s.flows l (record flow { capacity = capacity }) } ≡ t =
      some_is (record s { flows = slice_set s.flows l (record flow { capacity = capacity }) }) t h in
      subst (λ w. StepToo related allowed net (grown (twin s those) l capacity (Some flow)) w) is (record {
        those = those;
        is = refl;
        twins = record { actors = twins.actors; holds = set_holds s.flows l capacity flow here twins.holds };
      })

  same_too : (s t : State X) (those : List Y) → Twins related allowed net s those → Some s ≡ Some t → StepToo related allowed net (Some (twin s those)) t
  same_too s t those twins h =
      let is : s ≡ t = some_is s t h in
      subst (λ w. StepToo related allowed net (Some (twin s those)) w) is (record { those = those; is = refl; twins = twins })

  pub goes_too : (s t : State X) (those : List Y) (line : Line) → Twins related allowed net s those → goes net s line ≡ Some t
      → StepToo related allowed net (goes (twin_net net others) (twin s those) line) t
  goes_too s t those (FireLine i a) twins h = fire_too s t those i a twins h
  goes_too s t those DeliverLine twins h =
      let past = unless_true s.trapped (Some (after_delivery net s)) t h in
      let is : after_delivery net s ≡ t = some_is (after_delivery net s) t past.1 in
      subst (λ w. StepToo related allowed net (goes (twin_net net others) (twin s those) DeliverLine) w) is (record {
        those = those;
        is = ap (λ b. if b then None else Some (twin (after_delivery net s) those)) past.0;
        twins = deliver_too s those twins;
      })
  goes_too s t those (TrapLine i a c) twins h = trap_event_too s t those i a c twins h
  goes_too s t those (GrowLine l capacity) twins h = grown_too s t those l capacity (slice_get s.flows l) refl twins h
  goes_too s t those Quiet twins h = same_too s t those twins h
  goes_too s t those (Stall i a l) twins h = same_too s t those twins h
  goes_too s t those Budget twins h = same_too s t those twins h
  goes_too s t those (Header n l g) twins h = cc
  goes_too s t those (Inst k) twins h = cc

  -- Ends.

  fed_too : (s : State X) (those : List Y) → Twins related allowed net s those → Twins related allowed net (all_fed net s) those
  fed_too s those twins = record {
    actors = twins.actors;
    holds = holds_kept allowed with_rest (λ link flow. refl) net.links s.flows twins.holds;
  }

  settled_too : (s : State X) (those : List Y) → IsSettled net s → IsSettled (twin_net net others) (twin s those)
  settled_too s those settled = record { untrapped = settled.untrapped; arrived = settled.arrived }

  none_too : (relation : X → Y → Type 0) (e : Option (Effect X)) (f : Option (Effect Y)) → EffectsAlike relation e f → e ≡ None → f ≡ None
  none_too relation None None alike h = refl
  none_too relation None (Some (Fires y sent)) alike h = absurd alike
  none_too relation None (Some (TrapsInGuard c)) alike h = absurd alike
  none_too relation None (Some (TrapsInBody c)) alike h = absurd alike
  none_too relation (Some e) f alike h = cc

  pub quiet_too : (s : State X) (those : List Y) → Twins related allowed net s those → IsQuiet net s → IsQuiet (twin_net net others) (twin s those)
  quiet_too s those twins quiet = record {
    settled = settled_too s those quiet.settled;
    nothing = λ i a. none_too (related i) (effect_at net (all_fed net s) i a) _
        (twin_effect related allowed net others nets (all_fed net s) those (fed_too s those twins) i a) (quiet.nothing i a);
  }

  lacks_on : (gives those : ℕ → ℕ) → ((p : ℕ) → gives p ≡ those p) → (i : ℕ) (link : Option Link) (flow : Option Flow)
      → LacksOn gives i link flow → LacksOn those i link flow
  lacks_on gives those same i (Some link) (Some flow) lacks = at_end link.from lacks
    where
      at_end : (end : End) → HasLessRoom gives i flow end → HasLessRoom those i flow end
      at_end (AtLeaf inst port) h = (h.0, omega (arith, h.1, same port))
      at_end (AtNet port) h = h
  lacks_on gives those same i (Some link) None lacks = lacks
  lacks_on gives those same i None flow lacks = lacks

  lacks_too : (s : State X) (those : List Y) (i a l : ℕ) → LacksRoom net s i a l → LacksRoom (twin_net net others) (twin s those) i a l
  lacks_too s those i a l lacks =
      lacks_on _ _ (twin_give related allowed net others nets i a) i (slice_get net.links l) (slice_get s.flows l) lacks

  lacks_back : (s : State X) (those : List Y) (i a l : ℕ) → LacksRoom (twin_net net others) (twin s those) i a l → LacksRoom net s i a l
  lacks_back s those i a l lacks =
      lacks_on _ _ (λ p. sym (twin_give related allowed net others nets i a p)) i (slice_get net.links l) (slice_get s.flows l) lacks

  pub stalled_too : (s : State X) (those : List Y) (i a l : ℕ) → Twins related allowed net s those → IsStalled net s i a l
      → IsStalled (twin_net net others) (twin s those) i a l
  stalled_too s those i a l twins stalled =
      let same : (j : ℕ) → choice_at net (all_fed net s) j ≡ choice_at (twin_net net others) (twin (all_fed net s) those) j =
      twin_choice related allowed net others nets (all_fed net s) those (fed_too s those twins) in
      record {
        settled = settled_too s those stalled.settled;
        each = λ j. ⊎_elim (λ waits. inl (sym (same j) ∙ waits))
            (λ lacks. inr (lacks.0, lacks.1, sym (same j) ∙ lacks.2, lacks_too (all_fed net s) those j lacks.0 lacks.1 lacks.3)) (stalled.each j);
        chosen = sym (same i) ∙ stalled.chosen;
        lowest_leaf = λ j low. sym (same j) ∙ stalled.lowest_leaf j low;
        lacks = lacks_too (all_fed net s) those i a l stalled.lacks;
        lowest_link = λ m low lacks. stalled.lowest_link m low (lacks_back (all_fed net s) those i a m lacks);
      }

  pub stuck_too : (grow : ℕ) (s : State X) (those : List Y) (i a l : ℕ) → Twins related allowed net s those → IsStuck net grow s i a l
      → IsStuck (twin_net net others) grow (twin s those) i a l
  stuck_too grow s those i a l twins stuck = record { stalled = stalled_too s those i a l twins stuck.stalled; grown = stuck.grown }

  pub grows_too : (grow : ℕ) (s : State X) (those : List Y) (l capacity : ℕ) → Twins related allowed net s those → Grows net grow s l capacity
      → Grows (twin_net net others) grow (twin s those) l capacity
  grows_too grow s those l capacity twins grows = record {
    leaf = grows.leaf;
    action = grows.action;
    stalled = stalled_too s those grows.leaf grows.action l twins grows.stalled;
    below = grows.below;
    doubled = grows.doubled;
  }

-- The other way round.

abbrev pub flip : {X Y : Type 0} → (ℕ → X → Y → Type 0) → ℕ → Y → X → Type 0
flip related i y x = related i x y

flip_effects : {X Y : Type 0} (relation : X → Y → Type 0) (e : Option (Effect X)) (f : Option (Effect Y)) → EffectsAlike relation e f
    → EffectsAlike (λ y x. relation x y) f e
flip_effects relation None None alike = tt
flip_effects relation (Some (Fires x sent)) (Some (Fires y those)) alike = (alike.0, sym alike.1)
flip_effects relation (Some (TrapsInGuard c)) (Some (TrapsInGuard d)) alike = sym alike
flip_effects relation (Some (TrapsInBody c)) (Some (TrapsInBody d)) alike = sym alike
flip_effects relation None (Some (Fires y sent)) alike = absurd alike
flip_effects relation None (Some (TrapsInGuard c)) alike = absurd alike
flip_effects relation None (Some (TrapsInBody c)) alike = absurd alike
flip_effects relation (Some (Fires x sent)) None alike = absurd alike
flip_effects relation (Some (Fires x sent)) (Some (TrapsInGuard c)) alike = absurd alike
flip_effects relation (Some (Fires x sent)) (Some (TrapsInBody c)) alike = absurd alike
flip_effects relation (Some (TrapsInGuard c)) None alike = absurd alike
flip_effects relation (Some (TrapsInGuard c)) (Some (Fires y sent)) alike = absurd alike
flip_effects relation (Some (TrapsInGuard c)) (Some (TrapsInBody d)) alike = absurd alike
flip_effects relation (Some (TrapsInBody c)) None alike = absurd alike
flip_effects relation (Some (TrapsInBody c)) (Some (Fires y sent)) alike = absurd alike
flip_effects relation (Some (TrapsInBody c)) (Some (TrapsInGuard d)) alike = absurd alike

flip_behaviours : {X Y : Type 0} (relation : X → Y → Type 0) (allowed : ℕ → ℤ → Type 0) (one : Rattle.rvc_base.specs.Behaviour.Behaviour X)
    (other : Rattle.rvc_base.specs.Behaviour.Behaviour Y) → BehaveAlike relation allowed one other → BehaveAlike (λ y x. relation x y) allowed other one
flip_behaviours relation allowed one other alike = record {
  starts = alike.starts;
  same_ins = sym alike.same_ins;
  same_need = λ a p. sym (alike.same_need a p);
  same_give = λ a p. sym (alike.same_give a p);
  same_choice = λ that state tokens rel fit.
      sym (alike.same_choice state that tokens rel (λ p low. fit p (subst (λ n. p < n) alike.same_ins low)));
  same_effect = λ that state tokens a rel fit.
      flip_effects relation (one.effect state tokens a) (other.effect that tokens a)
      (alike.same_effect state that tokens a rel (λ p low. fit p (subst (λ n. p < n) alike.same_ins low)));
}

flip_leaves : {X Y : Type 0} (related : ℕ → X → Y → Type 0) (allowed : Allowed) (i : ℕ) (leaves : List (Leaf X)) (others : List (Leaf Y))
    → LeavesAlike related allowed i leaves others → LeavesAlike (flip related) allowed i others leaves
flip_leaves related allowed i [] [] alike = tt
flip_leaves related allowed i (leaf ∷ leaves) (other ∷ others) alike = (
  (sym alike.0.0, sym alike.0.1, flip_behaviours (related i) (allowed i) leaf.behaviour other.behaviour alike.0.2),
  flip_leaves related allowed (suc i) leaves others alike.1,
)
flip_leaves related allowed i [] (other ∷ others) alike = absurd alike
flip_leaves related allowed i (leaf ∷ leaves) [] alike = absurd alike

flip_actors : {X Y : Type 0} (related : ℕ → X → Y → Type 0) (i : ℕ) (states : List X) (those : List Y) → ActorsAlike related i states those
    → ActorsAlike (flip related) i those states
flip_actors related i [] [] alike = tt
flip_actors related i (state ∷ states) (that ∷ those) alike = (alike.0, flip_actors related (suc i) states those alike.1)
flip_actors related i [] (that ∷ those) alike = absurd alike
flip_actors related i (state ∷ states) [] alike = absurd alike

module _ {X Y : Type 0} (related : ℕ → X → Y → Type 0) (allowed : Allowed) (net : Network X) (others : List (Leaf Y))
    (nets : TwinNets related allowed net others) where
  flip_nets : TwinNets (flip related) allowed (twin_net net others) net.leaves
  flip_nets = record { leaves = flip_leaves related allowed 0 net.leaves others nets.leaves; stores = nets.stores }

  flip_twins : (s : State X) (those : List Y) → Twins related allowed net s those → Twins (flip related) allowed (twin_net net others) (twin s those) s.actors
  flip_twins s those twins = record { actors = flip_actors related 0 s.actors those twins.actors; holds = twins.holds }

  pub quiet_back : (s : State X) (those : List Y) → Twins related allowed net s those → IsQuiet (twin_net net others) (twin s those) → IsQuiet net s
  quiet_back s those twins quiet =
      quiet_too (flip related) allowed (twin_net net others) net.leaves flip_nets (twin s those) s.actors (flip_twins s those twins) quiet

  pub stalled_back : (s : State X) (those : List Y) (i a l : ℕ) → Twins related allowed net s those → IsStalled (twin_net net others) (twin s those) i a l
      → IsStalled net s i a l
  stalled_back s those i a l twins stalled =
      stalled_too (flip related) allowed (twin_net net others) net.leaves flip_nets (twin s those) s.actors i a l (flip_twins s those twins) stalled

  pub stuck_back : (grow : ℕ) (s : State X) (those : List Y) (i a l : ℕ) → Twins related allowed net s those → IsStuck (twin_net net others) grow (twin s those) i a l
      → IsStuck net grow s i a l
  stuck_back grow s those i a l twins stuck = record { stalled = stalled_back s those i a l twins stuck.stalled; grown = stuck.grown }

  pub between_too : (grow : ℕ) (s : State X) (those : List Y) → Twins related allowed net s those → IsBetween net grow s
      → IsBetween (twin_net net others) grow (twin s those)
  between_too grow s those twins between = record {
    settled = settled_too related allowed net others nets s those between.settled;
    not_quiet = λ quiet. between.not_quiet (quiet_back s those twins quiet);
    not_stuck = λ i a l stuck. between.not_stuck i a l (stuck_back grow s those i a l twins stuck);
  }

  pub between_back : (grow : ℕ) (s : State X) (those : List Y) → Twins related allowed net s those → IsBetween (twin_net net others) grow (twin s those)
      → IsBetween net grow s
  between_back grow s those twins between = record {
    settled = record { untrapped = between.settled.untrapped; arrived = between.settled.arrived };
    not_quiet = λ quiet. between.not_quiet (quiet_too related allowed net others nets s those twins quiet);
    not_stuck = λ i a l stuck. between.not_stuck i a l (stuck_too related allowed net others nets grow s those i a l twins stuck);
  }

  pub line_too : (grow : ℕ) (s : State X) (those : List Y) (line : Line) (after : List Line) → Twins related allowed net s those
      → LineIsTrue net grow s line after → LineIsTrue (twin_net net others) grow (twin s those) line after
  line_too grow s those (GrowLine l capacity) after twins h = grows_too related allowed net others nets grow s those l capacity twins h
  line_too grow s those Quiet after twins h = (quiet_too related allowed net others nets s those twins h.0, h.1)
  line_too grow s those (Stall i a l) after twins h = (stuck_too related allowed net others nets grow s those i a l twins h.0, h.1)
  line_too grow s those Budget after twins h = (between_too grow s those twins h.0, h.1)
  line_too grow s those (TrapLine i a c) after twins h = h
  line_too grow s those (FireLine i a) after twins h = h
  line_too grow s those DeliverLine after twins h = h
  line_too grow s those (Header n l g) after twins h = h
  line_too grow s those (Inst k) after twins h = h

  next_too : (grow : ℕ) (line : Line) (lines : List Line) (s t : State X) (those : List Y) → Twins related allowed net s those
      → LineIsTrue net grow s line lines
      → ((next : State X) (that : List Y) → Twins related allowed net next that → PlaysFrom net grow next lines t
      → (last : List Y) × PlaysFrom (twin_net net others) grow (twin next that) lines (twin t last) × Twins related allowed net t last)
      → (o : Option (State X)) → goes net s line ≡ o → OnNext o (λ next. PlaysFrom net grow next lines t)
      → (last : List Y) × PlaysFrom (twin_net net others) grow (twin s those) (line ∷ lines) (twin t last) × Twins related allowed net t last
  next_too grow line lines s t those twins true_ more None is rest = absurd rest
  next_too grow line lines s t those twins true_ more (Some next) is rest =
      let step = goes_too related allowed net others nets s next those line twins is in
      let all = more next step.those step.twins rest in (
        all.0,
        (
          line_too grow s those line lines twins true_,
          subst (λ w. OnNext w (λ u. PlaysFrom (twin_net net others) grow u lines (twin t all.0))) (sym step.is) all.1,
        ),
        all.2,
      )

  pub plays_too : (grow : ℕ) (lines : List Line) (s t : State X) (those : List Y) → Twins related allowed net s those → PlaysFrom net grow s lines t
      → (last : List Y) × PlaysFrom (twin_net net others) grow (twin s those) lines (twin t last) × Twins related allowed net t last
  plays_too grow [] s t those twins h =
      (those, ap (λ w. twin w those) h, subst (λ w. Twins related allowed net w those) h twins)
  plays_too grow (line ∷ lines) s t those twins h =
      next_too grow line lines s t those twins h.0 (λ next that twins' rest. plays_too grow lines next t that twins' rest)
      (goes net s line) refl h.1

  -- Kept capacities.

  given_too : (i : ℕ) (gives those : ℕ → ℕ) → ((p : ℕ) → gives p ≡ those p) → (link : Link) (end : End) (flow : Flow)
      → with_given i gives link end flow ≡ with_given i those link end flow
  given_too i gives those same link (AtLeaf inst port) flow =
      ap (λ n. record {
        sent = flow.sent ++ (if i == inst.0 then replicate n (pos 0) else []);
        arrived = flow.arrived;
        taken = flow.taken;
        capacity = flow.capacity;
      }) (same port)
  given_too i gives those same link (AtNet port) flow = refl

  counted_too : (s : State X) (those : List Y) (i a : ℕ) (e : Option (Effect X)) (f : Option (Effect Y)) → EffectsAlike (related i) e f
      → counted_flows net s i a e ≡ counted_flows (twin_net net others) (twin s those) i a f
  counted_too s those i a None None alike = refl
  counted_too s those i a (Some (Fires x sent)) (Some (Fires y sent')) alike = refl
  counted_too s those i a (Some (TrapsInGuard c)) (Some (TrapsInGuard d)) alike = refl
  counted_too s those i a (Some (TrapsInBody c)) (Some (TrapsInBody d)) alike =
      each_same _ _ (λ link flow. given_too i _ _ (twin_give related allowed net others nets i a) link link.from flow) net.links s.flows
  counted_too s those i a None (Some f) alike = refl_of f alike
    where
      refl_of : (f : Effect Y) → EffectsAlike (related i) None (Some f) → s.flows ≡ counted_flows (twin_net net others) (twin s those) i a (Some f)
      refl_of (Fires y sent) h = absurd h
      refl_of (TrapsInGuard c) h = absurd h
      refl_of (TrapsInBody c) h = absurd h
  counted_too s those i a (Some (Fires x sent)) None alike = absurd alike
  counted_too s those i a (Some (Fires x sent)) (Some (TrapsInGuard d)) alike = absurd alike
  counted_too s those i a (Some (Fires x sent)) (Some (TrapsInBody d)) alike = absurd alike
  counted_too s those i a (Some (TrapsInGuard c)) None alike = absurd alike
  counted_too s those i a (Some (TrapsInGuard c)) (Some (Fires y sent)) alike = absurd alike
  counted_too s those i a (Some (TrapsInGuard c)) (Some (TrapsInBody d)) alike = absurd alike
  counted_too s those i a (Some (TrapsInBody c)) None alike = absurd alike
  counted_too s those i a (Some (TrapsInBody c)) (Some (Fires y sent)) alike = absurd alike
  counted_too s those i a (Some (TrapsInBody c)) (Some (TrapsInGuard d)) alike = absurd alike

  trap_fits_too : (opened s : State X) (first those : List Y) (line : Line) → Twins related allowed net s those → TrapFits net opened s line
      → TrapFits (twin_net net others) (twin opened first) (twin s those) line
  trap_fits_too opened s first those (TrapLine i a c) twins h =
      subst (λ fs. FitFlows net.links opened.flows fs)
      (counted_too s those i a (effect_at net s i a) _ (twin_effect related allowed net others nets s those twins i a)) h
  trap_fits_too opened s first those (FireLine i a) twins h = h
  trap_fits_too opened s first those DeliverLine twins h = h
  trap_fits_too opened s first those (GrowLine l capacity) twins h = h
  trap_fits_too opened s first those Quiet twins h = h
  trap_fits_too opened s first those (Stall i a l) twins h = h
  trap_fits_too opened s first those Budget twins h = h
  trap_fits_too opened s first those (Header n l g) twins h = h
  trap_fits_too opened s first those (Inst k) twins h = h

  -- which actors' states belong to the last delivery
  opened_too : (line : Line) (opened next : State X) (first that : List Y)
      → (those : List Y) × (opened_by line (twin opened first) (twin next that) ≡ twin (opened_by line opened next) those)
  opened_too DeliverLine opened next first that = (that, refl)
  opened_too (FireLine i a) opened next first that = (first, refl)
  opened_too (TrapLine i a c) opened next first that = (first, refl)
  opened_too (GrowLine l capacity) opened next first that = (first, refl)
  opened_too Quiet opened next first that = (first, refl)
  opened_too (Stall i a l) opened next first that = (first, refl)
  opened_too Budget opened next first that = (first, refl)
  opened_too (Header n l g) opened next first that = (first, refl)
  opened_too (Inst k) opened next first that = (first, refl)

  keeps_next : (line : Line) (lines : List Line) (opened s : State X) (first those : List Y) → Twins related allowed net s those
      → ((opened next : State X) (first that : List Y) → Twins related allowed net next that → KeepsSince net opened next lines
      → KeepsSince (twin_net net others) (twin opened first) (twin next that) lines)
      → (o : Option (State X)) → goes net s line ≡ o → OnNext o (λ next. KeepsSince net (opened_by line opened next) next lines)
      → OnNext (goes (twin_net net others) (twin s those) line)
      (λ next. KeepsSince (twin_net net others) (opened_by line (twin opened first) next) next lines)
  keeps_next line lines opened s first those twins more None is rest = absurd rest
  keeps_next line lines opened s first those twins more (Some next) is rest =
      let step = goes_too related allowed net others nets s next those line twins is in
      let began = opened_too line opened next first step.those in
      subst (λ w. OnNext w (λ u. KeepsSince (twin_net net others) (opened_by line (twin opened first) u) u lines)) (sym step.is)
      (subst (λ o. KeepsSince (twin_net net others) o (twin next step.those) lines) (sym began.1)
      (more (opened_by line opened next) next began.0 step.those step.twins rest))

  pub keeps_too : (lines : List Line) (opened s : State X) (first those : List Y) → Twins related allowed net s those → KeepsSince net opened s lines
      → KeepsSince (twin_net net others) (twin opened first) (twin s those) lines
  keeps_too [] opened s first those twins h = h
  keeps_too (line ∷ lines) opened s first those twins h = (
    h.0,
    trap_fits_too opened s first those line twins h.1,
    keeps_next line lines opened s first those twins
        (λ opened' next first' that twins' rest. keeps_too lines opened' next first' that twins' rest) (goes net s line) refl h.2,
  )

-- Texts.

lines_same : {X Y : Type 0} (related : ℕ → X → Y → Type 0) (allowed : Allowed) (i k : ℕ) (leaves : List (Leaf X)) (others : List (Leaf Y))
    → LeavesAlike related allowed i leaves others → instance_lines k leaves ≡ instance_lines k others
lines_same related allowed i k [] [] alike = refl
lines_same related allowed i k (leaf ∷ leaves) (other ∷ others) alike =
    rw (alike.0.0, alike.0.1, lines_same related allowed (suc i) (k + 1) leaves others alike.1)
lines_same related allowed i k [] (other ∷ others) alike = absurd alike
lines_same related allowed i k (leaf ∷ leaves) [] alike = absurd alike

count_same : {X Y : Type 0} (related : ℕ → X → Y → Type 0) (allowed : Allowed) (i : ℕ) (leaves : List (Leaf X)) (others : List (Leaf Y))
    → LeavesAlike related allowed i leaves others → length leaves ≡ length others
count_same related allowed i [] [] alike = refl
count_same related allowed i (leaf ∷ leaves) (other ∷ others) alike = ap suc (count_same related allowed (suc i) leaves others alike.1)
count_same related allowed i [] (other ∷ others) alike = absurd alike
count_same related allowed i (leaf ∷ leaves) [] alike = absurd alike

pub text_too : {X Y : Type 0} (related : ℕ → X → Y → Type 0) (allowed : Allowed) (net : Network X) (others : List (Leaf Y)) (grow : ℕ) (lines : List Line)
    → TwinNets related allowed net others → text net grow lines ≡ text (twin_net net others) grow lines
text_too related allowed net others grow lines nets =
    ap (λ n. (line_text (Header n (length net.links) grow) ++ instance_lines 0 net.leaves) ++ flat_map line_text lines)
    (count_same related allowed 0 net.leaves others nets.leaves)
    ∙ ap (λ ls. (line_text (Header (length others) (length net.links) grow) ++ ls) ++ flat_map line_text lines)
    (lines_same related allowed 0 0 net.leaves others nets.leaves)
