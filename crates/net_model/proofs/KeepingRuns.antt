-- Begun and paced lines keep the capacities of links.
use Rattle.std.proofs.Common.{◌≡◌, ℕ, zero, suc, ◌≤◌, ◌⊎◌, Bool, true, false, List, [], ◌∷◌, ◌++◌, length, map, refl, sym, ap, ◌∙◌, subst, inl, inr, ⊎_elim, arith, append_assoc, append-nil}
use Rattle.std.specs.Prelude.{Option, None, Some, slice_get, slice_set, if◌then◌else◌, ◌==◌, ◌&&◌, flat_map}
use Rattle.rvc_base.specs.declared.trap.Trap.{Trap as TrapName}
use Rattle.rvc_base.specs.Behaviour.{Effect, Fires, TrapsInGuard, TrapsInBody}
use Rattle.trace_text.specs.declared.line.Line.{Line}
use Rattle.trace_text.specs.declared.line.Line.TheVariants.{Deliver as DeliverLine, Grow as GrowLine, Quiet, Trap as TrapLine, Stall, Budget}
use Rattle.net_model.specs.declared.wiring.End.{End}
use Rattle.net_model.specs.declared.wiring.End.TheVariants.{Leaf as AtLeaf, Net as AtNet}
use Rattle.net_model.specs.declared.wiring.Link.{Link}
use Rattle.net_model.specs.Network.{Network, NetPort, is_input}
use Rattle.net_model.specs.State.{Flow, State, start_of, first_flow, fed_by, effect_at, capacity_of}
use Rattle.net_model.specs.Event.{Trap, trap, happens, and_then}
use Rattle.net_model.specs.Ends.{AllArrived, Grows}
use Rattle.net_model.specs.Trace.{goes, grown, played, after_delivery, OnNext, PlaysFrom, FitFlows, TrapFits, opened_by, KeepsSince, KeepsFrom}
use Rattle.net_model.specs.Wired.{IsWired}
use Rattle.net_model.specs.Laws.{AreLawful, AreOrdered, HasFlows}
use Rattle.net_model.specs.Paced.{Pace, Moment, first_moment, Close, GoesOn, Widens, Ends, Block, fire_lines, close_lines, lines_of, count_of, count_picked, picked, share_of, Halt, first_trap, ClosesSpent, ClosesIdle, ClosesBy, Closes, IsRound, next_moment, AreRounds, IsBegun, IsPaced}
use Rattle.net_model.specs.PacingLaws.{CanBegin}
use Rattle.net_model.proofs.Lines.{lines_ordered, starts_in_order}
use Rattle.net_model.proofs.Rounds.{either, trap_first, delivers, round_plays}
use Rattle.net_model.proofs.Keeping.{some_is, SinceOpened, Since, fits_now, deliver_since}
use Rattle.net_model.proofs.KeepingRounds.{Stands, bursts_stand, bursts_keep, TrapStands, trap_found, trap_fits}

-- What closes a round.

pub data ClosesAs {X : Type 0} (net : Network X) (grow : ℕ) (halts : List Halt) (s : State X) (close : Close) : Type 0 where
  On : close ≡ GoesOn → ClosesAs net grow halts s close
  Grown : (l capacity : ℕ) → close ≡ Widens l capacity → Grows net grow s l capacity → ClosesAs net grow halts s close
  Ended : (line : Line) → close ≡ Ends line → goes net s line ≡ Some s → ((opened : State X) → TrapFits net opened s line)
      → ((opened next : State X) → opened_by line opened next ≡ opened) → ClosesAs net grow halts s close
  Trapped : (i a : ℕ) (cause : TrapName) → close ≡ Ends (TrapLine i a cause) → first_trap 0 halts ≡ Some (TrapLine i a cause)
      → ClosesAs net grow halts s close

spent_as : {X : Type 0} (net : Network X) (grow : ℕ) (halts : List Halt) (s : State X) (close : Close) → ClosesSpent net grow s close → ClosesAs net grow halts s close
spent_as net grow halts s (Ends Quiet) h = Ended Quiet refl refl (λ opened. tt) (λ opened next. refl)
spent_as net grow halts s (Ends (Stall i a l)) h = Ended (Stall i a l) refl refl (λ opened. tt) (λ opened next. refl)
spent_as net grow halts s (Ends Budget) h = Ended Budget refl refl (λ opened. tt) (λ opened next. refl)
spent_as net grow halts s close h = absurd h

idle_as : {X : Type 0} (net : Network X) (grow : ℕ) (halts : List Halt) (s : State X) (close : Close) → ClosesIdle net grow s close → ClosesAs net grow halts s close
idle_as net grow halts s (Ends Quiet) h = Ended Quiet refl refl (λ opened. tt) (λ opened next. refl)
idle_as net grow halts s (Ends (Stall i a l)) h = Ended (Stall i a l) refl refl (λ opened. tt) (λ opened next. refl)
idle_as net grow halts s (Widens l capacity) h = Grown l capacity refl h
idle_as net grow halts s close h = absurd h

by_as : {X : Type 0} (net : Network X) (grow : ℕ) (marks : List Bool) (bursts : List (List ℕ)) (halts : List Halt) (trap : Option Line) (s : State X) (close : Close)
    → first_trap 0 halts ≡ trap → ClosesBy net grow marks bursts trap s close → ClosesAs net grow halts s close
by_as net grow marks bursts halts (Some line) s close is h =
    let trap = trap_first 0 halts line is in
    Trapped trap.i trap.a trap.cause (h ∙ ap Ends trap.is) (is ∙ ap (λ w. Some w) trap.is)
by_as net grow marks bursts halts None s close is h =
    either ((count_picked marks == length marks) && (count_of bursts == 0)) (ClosesIdle net grow s close) (close ≡ GoesOn) _
    (idle_as net grow halts s close) (λ on. On on) h

closes_as : {X : Type 0} (net : Network X) (pace : Pace) (at : Moment X) (block : Block) (halts : List Halt) (s : State X)
    → Closes net pace at block halts s → ClosesAs net pace.grow halts s block.close
closes_as net pace at block halts s h =
    either (at.left == 0) _ _ _ (spent_as net pace.grow halts s block.close)
    (by_as net pace.grow (picked net pace at) block.bursts halts (first_trap 0 halts) s block.close refl) h

-- a trap leaves the flows
marked_flows : {X : Type 0} (s t : State X) (test : Bool) → (if test then Some (record s { trapped = true }) else None) ≡ Some t → t.flows ≡ s.flows
marked_flows s t true h = let is : record s { trapped = true } ≡ t = cc in ap (λ w. w.flows) (sym is)
marked_flows s t false h = cc

trap_flows : {X : Type 0} (s t : State X) (cause : TrapName) (e : Option (Effect X)) → trap s cause e ≡ Some t → t.flows ≡ s.flows
trap_flows s t cause (Some (Fires next sent)) h = cc
trap_flows s t cause (Some (TrapsInGuard other)) h = marked_flows s t _ h
trap_flows s t cause (Some (TrapsInBody other)) h = marked_flows s t _ h
trap_flows s t cause None h = cc

unless_flows : {X : Type 0} (s t : State X) (trapped : Bool) (o : Option (State X)) → (o ≡ Some t → t.flows ≡ s.flows)
    → (if trapped then None else o) ≡ Some t → t.flows ≡ s.flows
unless_flows s t true o p h = cc
unless_flows s t false o p h = p h

since_flows : {X : Type 0} (net : Network X) (opened s t : State X) → t.flows ≡ s.flows → Since net opened s → Since net opened t
since_flows net opened s t same since l link before flow at then_ now =
    since l link before flow at then_ (ap (λ fs. slice_get fs l) (sym same) ∙ now)

-- a link that grows holds no more
pub set_is : (flows : List Flow) (l : ℕ) (new : Flow) (m : ℕ) (flow : Flow) → slice_get (slice_set flows l new) m ≡ Some flow
    → (slice_get flows m ≡ Some flow) ⊎ ((m ≡ l) × (new ≡ flow))
set_is [] l new m flow h = cc
set_is (first ∷ flows) zero new zero flow h = inr (refl, some_is new flow h)
set_is (first ∷ flows) zero new (suc m) flow h = inl h
set_is (first ∷ flows) (suc l) new zero flow h = inl h
set_is (first ∷ flows) (suc l) new (suc m) flow h =
    ⊎_elim (λ other. inl other) (λ here. inr (ap suc here.0, here.1)) (set_is flows l new m flow h)

grown_since : {X : Type 0} (net : Network X) (opened s t : State X) (l capacity : ℕ) (flow : Option Flow) → slice_get s.flows l ≡ flow
    → capacity_of flow ≤ capacity → grown s l capacity flow ≡ Some t → Since net opened s → Since net opened t
grown_since net opened s t l capacity None here more h since m link before new at then_ now = cc
grown_since net opened s t l capacity (Some flow) here more h since m link before new at then_ now =
    let is : record s { flows = slice_set s.flows l (record flow { capacity = capacity }) } ≡ t = cc in
    ⊎_elim
    (λ other. since m link before new at then_ other)
    (λ there.
    let old : SinceOpened link before flow = since m link before flow at then_ (ap (slice_get s.flows) there.0 ∙ here) in
    subst (λ f. SinceOpened link before f) there.1 (record {
      arrived_then = old.arrived_then;
      sent = old.sent;
      arrived = old.arrived;
      taken = old.taken;
      out = old.out;
      fits = λ e. omega (arith, old.fits e);
    }))
    (set_is s.flows l (record flow { capacity = capacity }) m new (ap (λ w. slice_get w.flows m) is ∙ now))

-- what the closing line leaves, and that it keeps the capacities
pub record Closed {X : Type 0} (net : Network X) (opened s : State X) (close : Close) (last : State X) : Type 0 where
  pub since : Since net opened last
  pub keeps : (after : List Line) → KeepsSince net opened last after → KeepsSince net opened s (close_lines close ++ after)

next_is : {X : Type 0} (o : Option (State X)) (last : State X) (P : State X → Type 0) → o ≡ Some last → P last → OnNext o P
next_is o last P e p = subst (λ w. OnNext w P) (sym e) p

from_and : {X : Type 0} (o : Option (State X)) (last : State X) → and_then o (λ u. Some u) ≡ Some last → o ≡ Some last
from_and None last h = cc
from_and (Some u) last h = h

closed : {X : Type 0} (net : Network X) (grow : ℕ) (opened s : State X) (halts : List Halt) (close : Close) (last : State X) → Stands net opened s
    → ((n a : ℕ) (cause : TrapName) → first_trap 0 halts ≡ Some (TrapLine n a cause) → TrapStands net opened s n a cause)
    → ClosesAs net grow halts s close → played net s (close_lines close) ≡ Some last → Closed net opened s close last
closed net grow opened s halts close last stands traps (On is) leads =
    let same : s ≡ last = some_is s last (subst (λ c. played net s (close_lines c) ≡ Some last) is leads) in
    subst (λ c. Closed net opened s c last) (sym is) (subst (λ w. Closed net opened s GoesOn w) same (record {
      since = stands.since;
      keeps = λ after h. h;
    }))
closed net grow opened s halts close last stands traps (Grown l capacity is grows) leads =
    let goes_so : grown s l capacity (slice_get s.flows l) ≡ Some last =
    from_and (goes net s (GrowLine l capacity)) last (subst (λ c. played net s (close_lines c) ≡ Some last) is leads) in
    let more : capacity_of (slice_get s.flows l) ≤ capacity = omega (arith, grows.below, grows.doubled) in
    subst (λ c. Closed net opened s c last) (sym is) (record {
      since = grown_since net opened s last l capacity (slice_get s.flows l) refl more goes_so stands.since;
      keeps = λ after h. (fits_now net opened s stands.since, tt, next_is (goes net s (GrowLine l capacity)) last _ goes_so h);
    })
closed net grow opened s halts close last stands traps (Ended line is stays fits keeps_opened) leads =
    let goes_so : goes net s line ≡ Some last = from_and (goes net s line) last (subst (λ c. played net s (close_lines c) ≡ Some last) is leads) in
    let same : s ≡ last = some_is s last (sym stays ∙ goes_so) in
    subst (λ c. Closed net opened s c last) (sym is) (record {
      since = subst (λ w. Since net opened w) same stands.since;
      keeps = λ after h. (fits_now net opened s stands.since, fits opened, next_is (goes net s line) last _ goes_so (subst (λ o. KeepsSince net o last after) (sym (keeps_opened opened last)) h));
    })
closed net grow opened s halts close last stands traps (Trapped n a cause is first) leads =
    let goes_so : happens net s (Trap n a cause) ≡ Some last =
    from_and (goes net s (TrapLine n a cause)) last (subst (λ c. played net s (close_lines c) ≡ Some last) is leads) in
    let flows : last.flows ≡ s.flows = unless_flows s last s.trapped _ (trap_flows s last cause (effect_at net s n a)) goes_so in
    subst (λ c. Closed net opened s c last) (sym is) (record {
      since = since_flows net opened s last flows stands.since;
      keeps = λ after h. (
        fits_now net opened s stands.since,
        trap_fits net opened s n a cause stands.since (traps n a cause first),
        next_is (goes net s (TrapLine n a cause)) last _ goes_so h,
      );
    })

-- Rounds.

-- where a run stands between two rounds
record Between {X : Type 0} (net : Network X) (opened s : State X) : Type 0 where
  since : Since net opened s
  had : HasFlows net opened
  has : HasFlows net s
  ordered : AreOrdered s

module _ {X : Type 0} (net : Network X) (pace : Pace) (wired : IsWired net) (lawful : AreLawful net) where
  -- a delivery opens a round
  opens : (opened s : State X) → s.trapped ≡ false → Between net opened s → Between net (after_delivery net s) (after_delivery net s)
  opens opened s untrapped between =
      let plays : PlaysFrom net pace.grow s (DeliverLine ∷ []) (after_delivery net s) =
      (tt, delivers net s (λ w. w ≡ after_delivery net s) untrapped refl) in
      let after = lines_ordered net pace.grow (DeliverLine ∷ []) s (after_delivery net s) wired lawful between.has between.ordered plays in
      record {
        since = deliver_since net opened s between.has between.had between.since;
        had = after.0;
        has = after.0;
        ordered = after.1;
      }

  -- what a round leaves, and that it keeps the capacities
  round_between : (opened : State X) (at : Moment X) (block : Block) (last : State X) → IsRound net pace at block last → Between net opened at.state
      → Between net (after_delivery net at.state) last
  round_between opened at block last round between =
      let start = opens opened at.state round.untrapped between in
      let stands : Stands net (after_delivery net at.state) (after_delivery net at.state) = record { since = start.since; ordered = start.ordered } in
      let fired = bursts_stand net (after_delivery net at.state) wired lawful (share_of net pace at) (picked net pace at) 0 0 0 (after_delivery net at.state)
      block.bursts round.halts round.fired round.bursts stands in
      let close = closed net pace.grow (after_delivery net at.state) round.fired round.halts block.close last fired
      (trap_found net (after_delivery net at.state) wired lawful (share_of net pace at) (picked net pace at) 0 0 0 (after_delivery net at.state)
      block.bursts round.halts round.fired round.bursts stands)
      (closes_as net pace at block round.halts round.fired round.closes) round.leads in
      let plays = round_plays net pace at block last round [] last (λ ends. refl) refl in
      let after = lines_ordered net pace.grow (lines_of block ++ []) at.state last wired lawful between.has between.ordered plays in
      record { since = close.since; had = start.has; has = after.0; ordered = after.1 }

  round_keeps : (opened : State X) (at : Moment X) (block : Block) (last : State X) → IsRound net pace at block last → Between net opened at.state
      → (after : List Line) → KeepsSince net (after_delivery net at.state) last after → KeepsSince net opened at.state (lines_of block ++ after)
  round_keeps opened at block last round between after h =
      let start = opens opened at.state round.untrapped between in
      let stands : Stands net (after_delivery net at.state) (after_delivery net at.state) = record { since = start.since; ordered = start.ordered } in
      let fired = bursts_stand net (after_delivery net at.state) wired lawful (share_of net pace at) (picked net pace at) 0 0 0 (after_delivery net at.state)
      block.bursts round.halts round.fired round.bursts stands in
      let close = closed net pace.grow (after_delivery net at.state) round.fired round.halts block.close last fired
      (trap_found net (after_delivery net at.state) wired lawful (share_of net pace at) (picked net pace at) 0 0 0 (after_delivery net at.state)
      block.bursts round.halts round.fired round.bursts stands)
      (closes_as net pace at block round.halts round.fired round.closes) round.leads in (
        fits_now net opened at.state between.since,
        tt,
        delivers net at.state (λ next. KeepsSince net next next ((fire_lines 0 block.bursts ++ close_lines block.close) ++ after)) round.untrapped
            (subst (λ ls. KeepsSince net (after_delivery net at.state) (after_delivery net at.state) ls)
            (sym (append_assoc (fire_lines 0 block.bursts) (close_lines block.close) after))
            (bursts_keep net (after_delivery net at.state) wired lawful (share_of net pace at) (picked net pace at) 0 0 0 (after_delivery net at.state)
            block.bursts round.halts round.fired round.bursts stands (close_lines block.close ++ after) (close.keeps after h))),
      )

  rounds_keep : (opened : State X) (at : Moment X) (blocks : List Block) (reached : Moment X) → AreRounds net pace at blocks reached → Between net opened at.state
      → (after : List Line) → ((last_opened : State X) → Between net last_opened reached.state → KeepsSince net last_opened reached.state after)
      → KeepsSince net opened at.state (flat_map lines_of blocks ++ after)
  rounds_keep opened at [] reached same between after h =
      subst (λ m. KeepsSince net opened m.state after) (sym same) (h opened (subst (λ m. Between net opened m.state) same between))
  rounds_keep opened at (block ∷ blocks) reached are between after h =
      subst (λ ls. KeepsSince net opened at.state ls) (sym (append_assoc (lines_of block) (flat_map lines_of blocks) after))
      (round_keeps opened at block are.0 are.1 between (flat_map lines_of blocks ++ after)
      (rounds_keep (after_delivery net at.state) (next_moment at block are.0) blocks reached are.3
      (round_between opened at block are.0 are.1 between) after h))

-- Where a run may begin.

begin_flows : (links : List Link) (flows : List Flow) → AllArrived links flows → FitFlows links flows flows
    → (l : ℕ) (link : Link) (before flow : Flow) → slice_get links l ≡ Some link → slice_get flows l ≡ Some before → slice_get flows l ≡ Some flow
    → SinceOpened link before flow
begin_flows [] flows arrived fits l link before flow at then_ now = cc
begin_flows (head ∷ links) [] arrived fits l link before flow at then_ now = cc
begin_flows (head ∷ links) (first ∷ flows) arrived fits zero link before flow at then_ now =
    let link_is : head ≡ link = some_is head link at in
    let before_is : first ≡ before = some_is first before then_ in
    let flow_is : first ≡ flow = some_is first flow now in
    subst (λ k. SinceOpened k before flow) link_is
    (subst (λ b. SinceOpened head b flow) before_is (subst (λ f. SinceOpened head first f) flow_is (record {
      arrived_then = arrived.0;
      sent = omega arith;
      arrived = refl;
      taken = omega arith;
      out = λ e. refl;
      fits = fits.0;
    })))
begin_flows (head ∷ links) (first ∷ flows) arrived fits (suc l) link before flow at then_ now =
    begin_flows links flows arrived.1 fits.1 l link before flow at then_ now

begins : {X : Type 0} (net : Network X) (s : State X) → CanBegin net s → Between net s s
begins net s can = record {
  since = begin_flows net.links s.flows can.arrived can.fits;
  had = can.has_flows;
  has = can.has_flows;
  ordered = can.ordered;
}

pub begun_keep : {X : Type 0} (net : Network X) (pace : Pace) (s : State X) (lines : List Line) (reached : Moment X)
    → IsWired net → AreLawful net → CanBegin net s → IsBegun net pace s lines reached → KeepsFrom net s lines
begun_keep net pace s lines reached wired lawful can begun =
    subst (λ ls. KeepsFrom net s ls) (append-nil (flat_map lines_of begun.blocks) ∙ sym begun.lines_are)
    (rounds_keep net pace wired lawful s (first_moment pace s) begun.blocks reached begun.rounds (begins net s can) []
    (λ opened between. fits_now net opened reached.state between.since))

pub paced_keep : {X : Type 0} (net : Network X) (pace : Pace) (s : State X) (lines : List Line) (last : State X)
    → IsWired net → AreLawful net → CanBegin net s → IsPaced net pace s lines last → KeepsFrom net s lines
paced_keep net pace s lines last wired lawful can paced =
    subst (λ ls. KeepsFrom net s ls) (sym paced.lines_are)
    (rounds_keep net pace wired lawful s (first_moment pace s) paced.blocks paced.reached paced.rounds (begins net s can) (lines_of paced.final)
    (λ opened between. subst (λ ls. KeepsSince net opened paced.reached.state ls) (append-nil (lines_of paced.final))
    (round_keeps net pace wired lawful opened paced.reached paced.final last paced.ending between []
    (fits_now net (after_delivery net paced.reached.state) last
    (round_between net pace wired lawful opened paced.reached paced.final last paced.ending between).since))))

-- the start of a run over files
arrived_first : (ports : List NetPort) (inputs : List (List ℕ)) (links : List Link) → AllArrived links (map (first_flow ports inputs) links)
arrived_first ports inputs [] = tt
arrived_first ports inputs (link ∷ links) = (nothing_sent link.from, arrived_first ports inputs links)
  where
    nothing_sent : (end : End) → Rattle.net_model.specs.Network.is_outside end ≡ false → 0 ≡ length (fed_by ports inputs link end)
    nothing_sent (AtLeaf inst port) e = refl
    nothing_sent (AtNet port) e = cc

fits_first : (ports : List NetPort) (inputs : List (List ℕ)) (links : List Link)
    → FitFlows links (map (first_flow ports inputs) links) (map (first_flow ports inputs) links)
fits_first ports inputs [] = tt
fits_first ports inputs (link ∷ links) = ((λ e. omega arith), fits_first ports inputs links)

pub starts_can_begin : {X : Type 0} (net : Network X) (inputs : List (List ℕ)) → CanBegin net (start_of net inputs)
starts_can_begin net inputs = record {
  has_flows = (starts_in_order net inputs).0;
  ordered = (starts_in_order net inputs).1;
  arrived = arrived_first net.ins inputs net.links;
  fits = fits_first net.ins inputs net.links;
}
