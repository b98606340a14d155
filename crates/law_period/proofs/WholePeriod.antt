-- The turns of a period one after another, from a state between periods to the next, or up to a trap.
use Rattle.std.proofs.Common.{◌≡◌, ◌⊎◌, ℕ, zero, suc, ◌+◌, ◌*◌, ◌<◌, true, false, List, [], ◌∷◌, ◌++◌, length, map, take, refl, sym, ap, ◌∙◌, subst, inl, inr, ⊎_elim, arith, append-nil, append_assoc}
use Rattle.std.specs.Prelude.{Option, None, Some, slice_get}
use Rattle.std.proofs.lemmas.List.{length-map}
use Rattle.std.proofs.lemmas.List.Elements.{All-contains}
use Rattle.std.proofs.lemmas.Option.{slice_get_within}
use Rattle.rvc_base.specs.declared.trap.Trap.{Trap as TrapName}
use Rattle.rvc_base.specs.Behaviour.{Picks}
use Rattle.balanced_rates.specs.declared.link.RatedLink.{RatedLink}
use Rattle.balanced_rates.specs.Balance.{IsBalanced}
use Rattle.net_model.specs.declared.wiring.End.{End}
use Rattle.net_model.specs.declared.wiring.End.TheVariants.{Leaf as AtLeaf, Net as AtNet}
use Rattle.net_model.specs.declared.wiring.Link.{Link}
use Rattle.net_model.specs.Network.{NetPort, Leaf, Network, is_outside}
use Rattle.net_model.specs.State.{Flow, State, fed_by, first_flow, start_of, choice_at}
use Rattle.net_model.specs.Event.{Event, Trap, run}
use Rattle.net_model.specs.Wired.{IsWired, HasInput, HasOutput, ComesFromPort, LeadsToPort}
use Rattle.net_model.specs.Laws.{AreOrdered, AreLawful}
use Rattle.net_model.proofs.Bounds.{run_ordered}
use Rattle.net_model.proofs.Lines.{run_then, starts_in_order}
use Rattle.law_period.specs.Static.{NetRates, AreStatic, rated_between, inner_links, IsPeriodOf}
use Rattle.law_period.specs.Runs.{IsEmpty, IsAtRest, given_at, taken_at, HasEnoughInput, all_arrive, AreTurns, PlaysOrder, IsWithinPeaks, Throughout, IsMoved, Completes, TrapsOnTheWay}
use Rattle.law_period.proofs.Deliveries.{same_get, throughout_then, at_once, arrivals_within, settled, MayArrive, arrivals_lead}
use Rattle.law_period.proofs.Progress.{counts, IsBehind, AllHere, inner_there, behind_none, behind_settled, all_here, within_behind}
use Rattle.law_period.proofs.OneTurn.{Turned, Trapped, turn_or_trap, within_at}

-- a leaf that an end is at is one of the network's
writer_in : {X : Type 0} (leaves : List (Leaf X)) (i port : ℕ) (o : Option (Leaf X)) → slice_get leaves i ≡ o → HasOutput port o → i < length leaves
writer_in leaves i port None e h = absurd h
writer_in leaves i port (Some leaf) e h = slice_get_within leaves i leaf e

reader_in : {X : Type 0} (leaves : List (Leaf X)) (i port : ℕ) (o : Option (Leaf X)) → slice_get leaves i ≡ o → HasInput port o → i < length leaves
reader_in leaves i port None e h = absurd h
reader_in leaves i port (Some leaf) e h = slice_get_within leaves i leaf e

-- an inner link is rated, by what is given and taken at its ends
record IsRated (rates : NetRates) (firings : ℕ → ℕ) (from to : End) : Type 0 where
  inner : RatedLink
  is : rated_between rates from to ≡ Some inner
  given : inner.give * firings inner.writer ≡ given_at rates firings from
  taken : inner.need * firings inner.reader ≡ taken_at rates firings to

inner_rated : (rates : NetRates) (firings : ℕ → ℕ) (from to : End) → is_outside from ≡ false → is_outside to ≡ false → IsRated rates firings from to
inner_rated rates firings (AtLeaf inst port) (AtLeaf other next) in' out = record {
  inner = record { writer = inst.0; reader = other.0; give = rates.give inst.0 port; need = rates.need other.0 next };
  is = refl;
  given = refl;
  taken = refl;
}
inner_rated rates firings (AtLeaf inst port) (AtNet next) in' out = cc
inner_rated rates firings (AtNet port) to in' out = cc

module _ {X : Type 0} (net : Network X) (kept : ℕ → X → Type 0) (rates : NetRates) (firings : ℕ → ℕ) (order : List ℕ) (start : State X) (wired : IsWired net) (lawful : AreLawful net) (static : AreStatic net kept rates) (period : IsPeriodOf net rates firings order) (rest : IsAtRest net kept start) (enough : HasEnoughInput net rates firings start) where
  -- the rest of the order is played ..
  record PlayedOut (left : List ℕ) (s : State X) : Type 0 where
    events : List Event
    last : State X
    turns_are : AreTurns net s left events last
    leads : run net s events ≡ Some last
    within : Throughout net (IsWithinPeaks net rates order) s events
    behind : IsBehind net kept rates start.flows order last
    here : AllHere last.flows

  -- .. or some of it, and the next leaf traps
  record Stopped (left : List ℕ) (s : State X) : Type 0 where
    before : List ℕ
    leaf : ℕ
    after : List ℕ
    left_is : left ≡ before ++ leaf ∷ after
    events : List Event
    reached : State X
    turns_are : AreTurns net s before events reached
    action : ℕ
    cause : TrapName
    chosen : choice_at net reached leaf ≡ Picks action
    last : State X
    leads : run net s (events ++ Trap leaf action cause ∷ []) ≡ Some last
    within : Throughout net (IsWithinPeaks net rates order) s (events ++ Trap leaf action cause ∷ [])

  -- a run in three parts, of which the last two were joined
  run_joined : (s t u : State X) (one two three : List Event) → run net s one ≡ Some t → run net t (two ++ three) ≡ Some u → run net s ((one ++ two) ++ three) ≡ Some u
  run_joined s t u one two three first rest =
      subst (λ es. run net s es ≡ Some u) (sym (append_assoc one two three)) (run_then net s t u one (two ++ three) first rest)

  throughout_joined : (s t : State X) (one two three : List Event) → run net s one ≡ Some t → Throughout net (IsWithinPeaks net rates order) s one → Throughout net (IsWithinPeaks net rates order) t (two ++ three) → Throughout net (IsWithinPeaks net rates order) s ((one ++ two) ++ three)
  throughout_joined s t one two three leads first rest =
      subst (λ es. Throughout net (IsWithinPeaks net rates order) s es) (sym (append_assoc one two three)) (throughout_then net (IsWithinPeaks net rates order) one (two ++ three) s t leads first rest)

  traps_here : (leaf : ℕ) (after : List ℕ) (s : State X) → IsWithinPeaks net rates order s → Trapped net leaf s → Stopped (leaf ∷ after) s
  traps_here leaf after s within trapped = record {
    before = [];
    leaf = leaf;
    after = after;
    left_is = refl;
    events = [];
    reached = s;
    turns_are = (refl, refl);
    action = trapped.action;
    cause = trapped.cause;
    chosen = trapped.chosen_is;
    last = record s { trapped = true };
    leads = rw trapped.traps refl;
    within = at_once net (IsWithinPeaks net rates order) s (record s { trapped = true }) (Trap leaf trapped.action trapped.cause) trapped.traps within within;
  }

  plays_on : (front : List ℕ) (leaf : ℕ) (left : List ℕ) (s : State X) (turn : Turned net kept rates order start.flows front leaf s) → PlayedOut left turn.next → PlayedOut (leaf ∷ left) s
  plays_on front leaf left s turn more = record {
    events = turn.events ++ more.events;
    last = more.last;
    turns_are = (turn.events, more.events, turn.next, turn.turn, more.turns_are, refl);
    leads = run_then net s turn.next more.last turn.events more.events turn.leads more.leads;
    within = throughout_then net (IsWithinPeaks net rates order) turn.events more.events s turn.next turn.leads turn.within more.within;
    behind = more.behind;
    here = more.here;
  }

  stops_on : (front : List ℕ) (leaf : ℕ) (left : List ℕ) (s : State X) (turn : Turned net kept rates order start.flows front leaf s) → Stopped left turn.next → Stopped (leaf ∷ left) s
  stops_on front leaf left s turn more =
      let trap : List Event = Trap more.leaf more.action more.cause ∷ [] in
      record {
        before = leaf ∷ more.before;
        leaf = more.leaf;
        after = more.after;
        left_is = ap (λ ls. leaf ∷ ls) more.left_is;
        events = turn.events ++ more.events;
        reached = more.reached;
        turns_are = (turn.events, more.events, turn.next, turn.turn, more.turns_are, refl);
        action = more.action;
        cause = more.cause;
        chosen = more.chosen;
        last = more.last;
        leads = run_joined s turn.next more.last turn.events more.events trap turn.leads more.leads;
        within = throughout_joined s turn.next turn.events more.events trap turn.leads turn.within more.within;
      }

  played_from : (left front : List ℕ) (s : State X) → order ≡ front ++ left → IsBehind net kept rates start.flows front s → AllHere s.flows → PlayedOut left s ⊎ Stopped left s
  played_from [] front s split behind here =
      let whole : front ≡ order = sym (split ∙ append-nil front) in
      let now : IsBehind net kept rates start.flows order s = subst (λ ls. IsBehind net kept rates start.flows ls s) whole behind in
      inl (record {
        events = [];
        last = s;
        turns_are = (refl, refl);
        leads = refl;
        within = within_behind net kept rates order start s (length order) rest (omega arith)
            (subst (λ ls. IsBehind net kept rates start.flows ls s) (sym (take_whole order)) now);
        behind = now;
        here = here;
      })
    where
      take_whole : (ls : List ℕ) → take (length ls) ls ≡ ls
      take_whole [] = refl
      take_whole (l ∷ ls) = ap (λ ks. l ∷ ks) (take_whole ls)
  played_from (leaf ∷ left) front s split behind here =
      ⊎_elim
      (λ turn. ⊎_elim
      (λ more. inl (plays_on front leaf left s turn more))
      (λ more. inr (stops_on front leaf left s turn more))
      (played_from left (front ++ leaf ∷ []) turn.next (split ∙ sym (append_assoc front (leaf ∷ []) left)) turn.behind turn.here))
      (λ trapped. inr (traps_here leaf left s (within_behind_front split) trapped))
      (turn_or_trap net kept rates firings order start wired lawful static period rest enough front leaf left split s behind here)
    where
      within_behind_front : order ≡ front ++ leaf ∷ left → IsWithinPeaks net rates order s
      within_behind_front split' = within_at net kept rates firings order start wired lawful static period rest enough front leaf left split' s behind here

  -- ---- behind the whole order
  counts_in : (leaf : ℕ) → leaf < length net.leaves → counts order leaf ≡ firings leaf
  counts_in leaf inside = period.period.counts leaf inside

  given_all : (end : End) → ComesFromPort net end → given_at rates (counts order) end ≡ given_at rates firings end
  given_all (AtLeaf inst port) there = ap (λ z. rates.give inst.0 port * z) (counts_in inst.0 (writer_in net.leaves inst.0 port (slice_get net.leaves inst.0) refl there))
  given_all (AtNet port) there = refl

  taken_all : (end : End) → LeadsToPort net end → taken_at rates (counts order) end ≡ taken_at rates firings end
  taken_all (AtLeaf inst port) there = ap (λ z. rates.need inst.0 port * z) (counts_in inst.0 (reader_in net.leaves inst.0 port (slice_get net.leaves inst.0) refl there))
  taken_all (AtNet port) there = refl

  moved_whole : (last : State X) → IsBehind net kept rates start.flows order last → IsMoved net rates firings start last
  moved_whole last behind = record {
    given = λ l link before after at_link at_before at_after.
        let was = behind.on_link l link after at_link at_after in
        let same : was.before ≡ before = same_get (slice_get start.flows l) was.before before was.there at_before in
        let all = given_all link.from (wired.joined l link at_link).from_port in
        let moved = was.moved.given in
        subst (λ flow. length after.sent ≡ length flow.sent + given_at rates firings link.from) same (omega (arith, all, moved));
    taken = λ l link before after at_link at_before at_after inner.
        let was = behind.on_link l link after at_link at_after in
        let same : was.before ≡ before = same_get (slice_get start.flows l) was.before before was.there at_before in
        let all = taken_all link.to (wired.joined l link at_link).to_port in
        let moved = was.moved.taken inner in
        subst (λ flow. after.taken ≡ flow.taken + taken_at rates firings link.to) same (omega (arith, all, moved));
  }

  rests_again : (last : State X) → AreOrdered last → IsBehind net kept rates start.flows order last → AllHere last.flows → IsAtRest net kept last
  rests_again last ordered behind here = record {
    untrapped = behind.untrapped;
    actors = behind.actors;
    kept_states = behind.kept_states;
    flows = behind.flows;
    ordered = ordered;
    empty = λ link flow on in' out.
        let was = behind.on_link on.0 link flow on.1 on.2 in
        let empty : IsEmpty was.before = rest.empty link was.before (on.0, on.1, was.there) in' out in
        let inner = inner_rated rates firings link.from link.to in' out in
        let balanced : IsBalanced firings inner.inner = All-contains (IsBalanced firings) (inner_links rates net.links) inner.inner period.balanced (inner_there rates net.links on.0 link inner.inner on.1 inner.is) in
        let gives = inner.given in
        let takes = inner.taken in
        let joined = wired.joined on.0 link on.1 in
        let all = given_all link.from joined.from_port in
        let all' = taken_all link.to joined.to_port in
        let sent = was.moved.given in
        let gone = was.moved.taken out in
        let nothing : was.before.taken ≡ length was.before.sent = empty.taken in
        record { arrived = here on.0 flow on.2; taken = omega (arith, balanced, gives, takes, all, all', sent, gone, nothing) };
  }

  may_arrive : MayArrive start.flows
  may_arrive l flow at = (rest.ordered l flow at).1

  plays_all : (ready last : State X) (turns_left : List ℕ) (turn_events : List Event) → run net start (all_arrive start) ≡ Some ready → AreTurns net ready turns_left turn_events last → PlaysOrder net start turns_left (all_arrive start ++ turn_events) last
  plays_all ready last turns_left turn_events arrives taken = record { ready = ready; turns = turn_events; arrives = arrives; taken = taken; events_are = refl }

  pub period_runs : Completes net kept rates firings order start ⊎ TrapsOnTheWay net rates order start
  period_runs =
      let ready : State X = settled net start in
      let arrives : run net start (all_arrive start) ≡ Some ready = arrivals_lead net start rest.untrapped rest.flows may_arrive in
      let behind_start = behind_none net kept rates start rest in
      let within_start : IsWithinPeaks net rates order start = within_behind net kept rates order start start 0 rest (omega arith) behind_start in
      let within_arrivals = arrivals_within net rates order start.flows 0 start ready arrives within_start in
      ⊎_elim
      (λ played.
      let leads : run net start (all_arrive start ++ played.events) ≡ Some played.last = run_then net start ready played.last (all_arrive start) played.events arrives played.leads in
      inl (record {
        events = all_arrive start ++ played.events;
        last = played.last;
        plays = plays_all ready played.last order played.events arrives played.turns_are;
        leads = leads;
        within = throughout_then net (IsWithinPeaks net rates order) (all_arrive start) played.events start ready arrives within_arrivals played.within;
        at_rest = rests_again played.last (run_ordered net (all_arrive start ++ played.events) start played.last wired lawful rest.ordered leads) played.behind played.here;
        moved = moved_whole played.last played.behind;
      }))
      (λ stopped.
      let trap : List Event = Trap stopped.leaf stopped.action stopped.cause ∷ [] in
      inr (record {
        before = stopped.before;
        leaf = stopped.leaf;
        after = stopped.after;
        order_is = stopped.left_is;
        events = all_arrive start ++ stopped.events;
        reached = stopped.reached;
        plays = plays_all ready stopped.reached stopped.before stopped.events arrives stopped.turns_are;
        action = stopped.action;
        cause = stopped.cause;
        chosen = stopped.chosen;
        last = stopped.last;
        leads = run_joined start ready stopped.last (all_arrive start) stopped.events trap arrives stopped.leads;
        within = throughout_joined start ready (all_arrive start) stopped.events trap arrives within_arrivals stopped.within;
      }))
      (played_from order [] ready refl (behind_settled net kept rates start.flows [] start behind_start) (all_here net start may_arrive))

-- ---- the start of a run over files
start_kept : {X : Type 0} (leaves : List (Leaf X)) (i : ℕ) (x : X) → slice_get (map (λ leaf. leaf.behaviour.start) leaves) i ≡ Some x → (leaf : Leaf X) × (slice_get leaves i ≡ Some leaf) × (leaf.behaviour.start ≡ x)
start_kept [] i x h = cc
start_kept (leaf ∷ leaves) zero x h = (leaf, refl, cc)
start_kept (leaf ∷ leaves) (suc i) x h = start_kept leaves i x h

first_is : (ports : List NetPort) (inputs : List (List ℕ)) (links : List Link) (l : ℕ) (link : Link) (flow : Flow) → slice_get links l ≡ Some link → slice_get (map (first_flow ports inputs) links) l ≡ Some flow → first_flow ports inputs link ≡ flow
first_is ports inputs [] l link flow at_link at_flow = cc
first_is ports inputs (head ∷ links) zero link flow at_link at_flow = let same : head ≡ link = cc in ap (first_flow ports inputs) (sym same) ∙ cc
first_is ports inputs (head ∷ links) (suc l) link flow at_link at_flow = first_is ports inputs links l link flow at_link at_flow

nothing_fed : (ports : List NetPort) (inputs : List (List ℕ)) (link : Link) (from : End) → is_outside from ≡ false → fed_by ports inputs link from ≡ []
nothing_fed ports inputs link (AtLeaf inst port) h = refl
nothing_fed ports inputs link (AtNet port) h = cc

pub starts_at_rest : {X : Type 0} (net : Network X) (kept : ℕ → X → Type 0) (rates : NetRates) (inputs : List (List ℕ)) → AreStatic net kept rates → IsAtRest net kept (start_of net inputs)
starts_at_rest net kept rates inputs static = record {
  untrapped = refl;
  actors = length-map net.leaves (λ leaf. leaf.behaviour.start);
  kept_states = λ i x at.
      let found = start_kept net.leaves i x at in
      subst (λ z. kept i z) found.2 (static i found.0 found.1).start;
  flows = (starts_in_order net inputs).0;
  ordered = (starts_in_order net inputs).1;
  empty = λ link flow on in' out.
      let is = first_is net.ins inputs net.links on.0 link flow on.1 on.2 in
      let none : length (fed_by net.ins inputs link link.from) ≡ 0 = ap (λ ts. length ts) (nothing_fed net.ins inputs link link.from in') in
      subst (λ that. IsEmpty that) is (record { arrived = sym none; taken = sym none });
}
