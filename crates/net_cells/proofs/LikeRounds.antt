-- Networks that are alike make the same rounds, also of a run that hasn't come to its end.
use Rattle.std.proofs.Common.{◌≡◌, ℕ, suc, ◌+◌, ◌-◌, Bool, true, false, List, [], ◌∷◌, length, map, refl, sym, ap, ◌∙◌, subst, inl, inr, ⊎_elim, arith}
use Rattle.std.specs.Prelude.{Option, None, Some, slice_get, if◌then◌else◌, MatchBool, ◌==◌, ◌&&◌, ◌||◌}
use Rattle.rvc_base.specs.declared.trap.Trap.{Trap as TrapName}
use Rattle.rvc_base.specs.Picks.{picks}
use Rattle.rvc_base.specs.Behaviour.{Effect, Fires, TrapsInGuard, TrapsInBody}
use Rattle.trace_text.specs.declared.line.Line.{Line}
use Rattle.trace_text.specs.declared.line.Line.TheVariants.{Grow as GrowLine, Quiet, Stall, Budget}
use Rattle.net_model.specs.declared.wiring.End.{End}
use Rattle.net_model.specs.declared.wiring.End.TheVariants.{Leaf as AtLeaf, Net as AtNet}
use Rattle.net_model.specs.declared.wiring.Link.{Link}
use Rattle.net_model.specs.Network.{Leaf, Network}
use Rattle.net_model.specs.State.{Flow, State, effect_at}
use Rattle.net_model.specs.Event.{Fire, happens, and_then}
use Rattle.net_model.specs.Trace.{goes, played, after_delivery, OnNext}
use Rattle.net_model.specs.Paced.{Pace, Moment, Close, GoesOn, Widens, Ends, Block, close_lines, count_of, none_of, picked, count_picked, PassesRoom, PassesOn, PassesLink, HasRoomIn, Halt, Unpicked, Spent, Waiting, NoRoom, Trapping, TrapsIn, HaltsAt, IsBurst, Share, share_of, AreBursts, first_trap, ClosesSpent, ClosesIdle, ClosesBy, IsRound, next_moment, AreRounds}
use Rattle.net_model.specs.Alike.{Allowed, EffectsAlike, LeavesAlike}
use Rattle.net_model.proofs.Twins.{Twins, TwinNets, twin, twin_net, twin_choice, twin_effect, twin_give}
use Rattle.net_model.proofs.LikeLines.{goes_too, fire_too, deliver_too, quiet_too, stuck_too, grows_too, between_too}

abbrev pub twin_moment : {X Y : Type 0} → Moment X → List Y → Moment Y
twin_moment at those = record { state = twin at.state those; round = at.round; idle = at.idle; left = at.left }

passes_on : (gives those : ℕ → ℕ) → ((p : ℕ) → gives p ≡ those p) → (i : ℕ) (link : Option Link) (opened flow : Option Flow)
    → PassesOn gives i link opened flow → PassesOn those i link opened flow
passes_on gives those same i (Some link) (Some opened) (Some flow) passes = at_end link.from passes
  where
    at_end : (end : End) → PassesRoom gives i opened flow end → PassesRoom those i opened flow end
    at_end (AtLeaf inst port) h = (h.0, omega (arith, h.1, same port))
    at_end (AtNet port) h = h
passes_on gives those same i (Some link) (Some opened) None passes = passes
passes_on gives those same i (Some link) None flow passes = passes
passes_on gives those same i None opened flow passes = passes

body_too : {X Y : Type 0} (relation : X → Y → Type 0) (e : Option (Effect X)) (f : Option (Effect Y)) (cause : TrapName) → EffectsAlike relation e f
    → e ≡ Some (TrapsInBody cause) → f ≡ Some (TrapsInBody cause)
body_too relation None f cause alike h = cc
body_too relation (Some (Fires x sent)) f cause alike h = cc
body_too relation (Some (TrapsInGuard c)) f cause alike h = cc
body_too relation (Some (TrapsInBody c)) None cause alike h = absurd alike
body_too relation (Some (TrapsInBody c)) (Some (Fires y sent)) cause alike h = absurd alike
body_too relation (Some (TrapsInBody c)) (Some (TrapsInGuard d)) cause alike h = absurd alike
body_too relation (Some (TrapsInBody c)) (Some (TrapsInBody d)) cause alike h =
    let same : c ≡ cause = cc in ap (λ n. Some (TrapsInBody n)) (sym alike ∙ same)

next_step : {X : Type 0} {R : Type 0} (o : Option (State X)) (P : State X → Type 0) → ((u : State X) → o ≡ Some u → P u → R) → OnNext o P → R
next_step None P f h = absurd h
next_step (Some u) P f h = f u refl h

marks_same : {X Y : Type 0} (related : ℕ → X → Y → Type 0) (allowed : Allowed) (i : ℕ) (leaves : List (Leaf X)) (others : List (Leaf Y))
    → LeavesAlike related allowed i leaves others
    → (map (λ leaf. true) leaves ≡ map (λ leaf. true) others) × (length leaves ≡ length others)
marks_same related allowed i [] [] alike = (refl, refl)
marks_same related allowed i (leaf ∷ leaves) (other ∷ others) alike =
    let rest = marks_same related allowed (suc i) leaves others alike.1 in (ap (λ ms. true ∷ ms) rest.0, ap suc rest.1)
marks_same related allowed i [] (other ∷ others) alike = absurd alike
marks_same related allowed i (leaf ∷ leaves) [] alike = absurd alike

either_too : (b : Bool) (P Q P' Q' : Type 0) → (P → P') → (Q → Q') → MatchBool b P Q → MatchBool b P' Q'
either_too true P Q P' Q' f g h = f h
either_too false P Q P' Q' f g h = g h

module _ {X Y : Type 0} (related : ℕ → X → Y → Type 0) (allowed : Allowed) (net : Network X) (others : List (Leaf Y))
    (nets : TwinNets related allowed net others) where
  passes_too : (opened s : State X) (first those : List Y) (i a l : ℕ) → PassesLink net opened s i a l
      → PassesLink (twin_net net others) (twin opened first) (twin s those) i a l
  passes_too opened s first those i a l passes =
      passes_on _ _ (twin_give related allowed net others nets i a) i (slice_get net.links l) (slice_get opened.flows l) (slice_get s.flows l) passes

  room_too : (opened s : State X) (first those : List Y) (i a : ℕ) → HasRoomIn net opened s i a
      → HasRoomIn (twin_net net others) (twin opened first) (twin s those) i a
  room_too opened s first those i a room l passes =
      room l (passes_on _ _ (λ p. sym (twin_give related allowed net others nets i a p)) i (slice_get net.links l) (slice_get opened.flows l) (slice_get s.flows l) passes)

  traps_too : (opened s : State X) (first those : List Y) (i a : ℕ) (cause : TrapName) → Twins related allowed net s those → TrapsIn net opened s i a cause
      → TrapsIn (twin_net net others) (twin opened first) (twin s those) i a cause
  traps_too opened s first those i a cause twins traps =
      let same = twin_choice related allowed net others nets s those twins i in
      ⊎_elim (λ faults. inl (sym same ∙ faults))
      (λ body. inr (
        sym same ∙ body.0,
        room_too opened s first those i a body.1,
        body_too (related i) (effect_at net s i a) _ cause (twin_effect related allowed net others nets s those twins i a) body.2,
      )) traps

  halts_too : (opened s : State X) (first those : List Y) (i limit : ℕ) (halt : Halt) → Twins related allowed net s those → HaltsAt net opened i limit s halt
      → HaltsAt (twin_net net others) (twin opened first) i limit (twin s those) halt
  halts_too opened s first those i limit Unpicked twins h = h
  halts_too opened s first those i limit Spent twins h = h
  halts_too opened s first those i limit Waiting twins h = (h.0, sym (twin_choice related allowed net others nets s those twins i) ∙ h.1)
  halts_too opened s first those i limit NoRoom twins h =
      (h.0, (h.1.0, h.1.1, sym (twin_choice related allowed net others nets s those twins i) ∙ h.1.2, passes_too opened s first those i h.1.0 h.1.1 h.1.3))
  halts_too opened s first those i limit (Trapping a cause) twins h = (h.0, traps_too opened s first those i a cause twins h.1)

  burst_too : (opened : State X) (first : List Y) (i limit : ℕ) (s : State X) (those : List Y) (actions : List ℕ) (halt : Halt) (last : State X)
      → Twins related allowed net s those → IsBurst net opened i limit s actions halt last
      → (that : List Y) × IsBurst (twin_net net others) (twin opened first) i limit (twin s those) actions halt (twin last that) × Twins related allowed net last that
  burst_too opened first i limit s those [] halt last twins burst = (
    those,
    (halts_too opened s first those i limit halt twins burst.0, ap (λ w. twin w those) burst.1),
    subst (λ w. Twins related allowed net w those) burst.1 twins,
  )
  burst_too opened first i limit s those (a ∷ actions) halt last twins burst =
      next_step (happens net s (Fire i a)) _ (λ u is rest.
      let step = fire_too related allowed net others nets s u those i a twins is in
      let more = burst_too opened first i (limit - 1) u step.those actions halt last step.twins rest in (
        more.0,
        (
          burst.0,
          sym (twin_choice related allowed net others nets s those twins i) ∙ burst.1,
          room_too opened s first those i a burst.2,
          subst (λ w. OnNext w (λ v. IsBurst (twin_net net others) (twin opened first) i (limit - 1) v actions halt (twin last more.0))) (sym step.is) more.1,
        ),
        more.2,
      )) burst.3

  bursts_too : (opened : State X) (first : List Y) (share : Share) (marks : List Bool) (i k fired : ℕ) (s : State X) (those : List Y)
      (bursts : List (List ℕ)) (halts : List Halt) (last : State X) → Twins related allowed net s those
      → AreBursts net opened share marks i k fired s bursts halts last
      → (that : List Y) × AreBursts (twin_net net others) (twin opened first) share marks i k fired (twin s those) bursts halts (twin last that)
      × Twins related allowed net last that
  bursts_too opened first share [] i k fired s those [] [] last twins are =
      (those, ap (λ w. twin w those) are, subst (λ w. Twins related allowed net w those) are twins)
  bursts_too opened first share (true ∷ marks) i k fired s those (actions ∷ bursts) (halt ∷ halts) last twins are =
      let one = burst_too opened first i _ s those actions halt are.0 twins are.1 in
      let rest = bursts_too opened first share marks (suc i) (suc k) (fired + length actions) are.0 one.0 bursts halts last one.2 are.2 in
      (rest.0, (twin are.0 one.0, one.1, rest.1), rest.2)
  bursts_too opened first share (false ∷ marks) i k fired s those (actions ∷ bursts) (halt ∷ halts) last twins are =
      let rest = bursts_too opened first share marks (suc i) k fired s those bursts halts last twins are.2 in
      (rest.0, (are.0, are.1, rest.1), rest.2)
  bursts_too opened first share [] i k fired s those [] (halt ∷ halts) last twins are = absurd are
  bursts_too opened first share [] i k fired s those (actions ∷ bursts) halts last twins are = absurd are
  bursts_too opened first share (true ∷ marks) i k fired s those [] halts last twins are = absurd are
  bursts_too opened first share (true ∷ marks) i k fired s those (actions ∷ bursts) [] last twins are = absurd are
  bursts_too opened first share (false ∷ marks) i k fired s those [] halts last twins are = absurd are
  bursts_too opened first share (false ∷ marks) i k fired s those (actions ∷ bursts) [] last twins are = absurd are

  spent_too : (grow : ℕ) (s : State X) (those : List Y) (close : Close) → Twins related allowed net s those → ClosesSpent net grow s close
      → ClosesSpent (twin_net net others) grow (twin s those) close
  spent_too grow s those (Ends Quiet) twins h = quiet_too related allowed net others nets s those twins h
  spent_too grow s those (Ends (Stall i a l)) twins h = stuck_too related allowed net others nets grow s those i a l twins h
  spent_too grow s those (Ends Budget) twins h = between_too related allowed net others nets grow s those twins h
  spent_too grow s those close twins h = absurd h

  idle_too : (grow : ℕ) (s : State X) (those : List Y) (close : Close) → Twins related allowed net s those → ClosesIdle net grow s close
      → ClosesIdle (twin_net net others) grow (twin s those) close
  idle_too grow s those (Ends Quiet) twins h = quiet_too related allowed net others nets s those twins h
  idle_too grow s those (Ends (Stall i a l)) twins h = stuck_too related allowed net others nets grow s those i a l twins h
  idle_too grow s those (Widens l capacity) twins h = grows_too related allowed net others nets grow s those l capacity twins h
  idle_too grow s those close twins h = absurd h

  by_too : (grow : ℕ) (marks : List Bool) (bursts : List (List ℕ)) (trap : Option Line) (s : State X) (those : List Y) (close : Close)
      → Twins related allowed net s those → ClosesBy net grow marks bursts trap s close
      → ClosesBy (twin_net net others) grow marks bursts trap (twin s those) close
  by_too grow marks bursts (Some line) s those close twins h = h
  by_too grow marks bursts None s those close twins h =
      either_too ((count_picked marks == length marks) && (count_of bursts == 0)) _ _ _ _ (idle_too grow s those close twins) (λ on. on) h

  -- the same leaves are picked
  picked_too : (pace : Pace) (at : Moment X) (those : List Y) → picked net pace at ≡ picked (twin_net net others) pace (twin_moment at those)
  picked_too pace at those =
      let same = marks_same related allowed 0 net.leaves others nets.leaves in
      ap (λ n. if at.idle || none_of (picks pace.kind n at.round) then map (λ leaf. true) net.leaves else picks pace.kind n at.round) same.1
      ∙ ap (λ ms. if at.idle || none_of (picks pace.kind (length others) at.round) then ms else picks pace.kind (length others) at.round) same.0

  close_too : (s t : State X) (those : List Y) (close : Close) → Twins related allowed net s those → played net s (close_lines close) ≡ Some t
      → (that : List Y) × (played (twin_net net others) (twin s those) (close_lines close) ≡ Some (twin t that)) × Twins related allowed net t that
  close_too s t those GoesOn twins h =
      let is : s ≡ t = cc in (those, ap (λ w. Some (twin w those)) is, subst (λ w. Twins related allowed net w those) is twins)
  close_too s t those (Widens l capacity) twins h = one_too (GrowLine l capacity) (goes net s (GrowLine l capacity)) refl h
    where
      one_too : (line : Line) (o : Option (State X)) → goes net s line ≡ o → and_then o (λ u. Some u) ≡ Some t
          → (that : List Y) × (and_then (goes (twin_net net others) (twin s those) line) (λ u. Some u) ≡ Some (twin t that)) × Twins related allowed net t that
      one_too line None is h = cc
      one_too line (Some u) is h =
          let same : u ≡ t = cc in
          let step = goes_too related allowed net others nets s t those line twins (is ∙ ap (λ w. Some w) same) in
          (step.those, ap (λ o. and_then o (λ w. Some w)) step.is, step.twins)
  close_too s t those (Ends line) twins h = one_too line (goes net s line) refl h
    where
      one_too : (line : Line) (o : Option (State X)) → goes net s line ≡ o → and_then o (λ u. Some u) ≡ Some t
          → (that : List Y) × (and_then (goes (twin_net net others) (twin s those) line) (λ u. Some u) ≡ Some (twin t that)) × Twins related allowed net t that
      one_too line None is h = cc
      one_too line (Some u) is h =
          let same : u ≡ t = cc in
          let step = goes_too related allowed net others nets s t those line twins (is ∙ ap (λ w. Some w) same) in
          (step.those, ap (λ o. and_then o (λ w. Some w)) step.is, step.twins)

  round_too : (pace : Pace) (at : Moment X) (those : List Y) (block : Block) (last : State X) → Twins related allowed net at.state those → IsRound net pace at block last
      → (that : List Y) × IsRound (twin_net net others) pace (twin_moment at those) block (twin last that) × Twins related allowed net last that
  round_too pace at those block last twins round =
      let opened = deliver_too related allowed net others nets at.state those twins in
      let same = picked_too pace at those in
      let fired = bursts_too (after_delivery net at.state) those (share_of net pace at) (picked net pace at) 0 0 0 (after_delivery net at.state) those
      block.bursts round.halts round.fired opened round.bursts in
      let close = close_too round.fired last fired.0 block.close fired.2 round.leads in (
        close.0,
        record {
          untrapped = round.untrapped;
          halts = round.halts;
          fired = twin round.fired fired.0;
          bursts = subst (λ ms. AreBursts (twin_net net others) (twin (after_delivery net at.state) those)
              (record { burst = pace.burst; left = at.left; picks = count_picked ms }) ms 0 0 0 (twin (after_delivery net at.state) those)
              block.bursts round.halts (twin round.fired fired.0)) same fired.1;
          closes = either_too (at.left == 0) _ _ _ _ (spent_too pace.grow round.fired fired.0 block.close fired.2)
              (λ h. subst (λ ms. ClosesBy (twin_net net others) pace.grow ms block.bursts (first_trap 0 round.halts) (twin round.fired fired.0) block.close) same
              (by_too pace.grow (picked net pace at) block.bursts (first_trap 0 round.halts) round.fired fired.0 block.close fired.2 h)) round.closes;
          leads = close.1;
        },
        close.2,
      )

  pub rounds_too : (pace : Pace) (at : Moment X) (those : List Y) (blocks : List Block) (reached : Moment X) → Twins related allowed net at.state those
      → AreRounds net pace at blocks reached
      → (that : List Y) × AreRounds (twin_net net others) pace (twin_moment at those) blocks (twin_moment reached that) × Twins related allowed net reached.state that
  rounds_too pace at those [] reached twins same =
      (those, ap (λ m. twin_moment m those) same, subst (λ m. Twins related allowed net m.state those) same twins)
  rounds_too pace at those (block ∷ blocks) reached twins are =
      let one = round_too pace at those block are.0 twins are.1 in
      let rest = rounds_too pace (next_moment at block are.0) one.0 blocks reached one.2 are.3 in
      (rest.0, (twin are.0 one.0, one.1, are.2, rest.1), rest.2)
