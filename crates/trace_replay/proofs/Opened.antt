-- A network at the start of its trace: it stands where the run begins, and its readers read its feeds.
use Rattle.std.proofs.Common.{◌≡◌, ℕ, ◌<◌, ◌≤◌, Bool, true, false, List, [], length, map, refl, sym, ap, subst, ◌∙◌, ⊎_elim, inl, inr, arith}
use Rattle.std.proofs.lemmas.List.{length-map, length-replicate}
use Rattle.std.specs.Prelude.{Option, None, Some, is_some, slice_get, slice_index_or}
use Rattle.std.specs.Option.{option_map}
use Rattle.std.proofs.lemmas.Option.{slice_get-map}
use Rattle.rvc_io.specs.Feeds.{Inputs}
use Rattle.port_files.specs.Coming.{Reading, coming, coming_on}
use Rattle.trace_text.specs.declared.line.Line.{Line}
use Rattle.trace_text.specs.declared.line.Line.TheVariants.{Header}
use Rattle.net_model.specs.declared.wiring.End.{End}
use Rattle.net_model.specs.declared.wiring.End.TheVariants.{Leaf as AtLeaf, Net as AtNet}
use Rattle.net_model.specs.declared.wiring.Link.{Link}
use Rattle.net_model.specs.declared.wiring.Port.{Port}
use Rattle.net_model.specs.declared.wiring.Wiring.{Wiring}
use Rattle.net_model.specs.Counted.{rest_at}
use Rattle.net_model.specs.Limits.{max_instances, max_links}
use Rattle.net_model.specs.Network.{Leaf, Network, is_input, is_outside, is_output}
use Rattle.net_model.specs.Cell.{Cell}
use Rattle.net_model.specs.State.{State, fed_by, untaken}
use Rattle.net_model.specs.Ready.{HasQueues, IsNetworkOf, IsReady, given_flow, given_state, port_of, waiting_at}
use Rattle.net_model.specs.Wired.{IsJoined, IsWired, LeadsToPort}
use Rattle.net_state.specs.Beginning.{HaveSizes, NoneUnlinked, ReadyCanWork}
use Rattle.net_state.specs.Held.{AreCounted, CanWork, IsJoinedTo, capacity_of, seen}
use Rattle.net_state.specs.Standing.{IsNetOf, StandsIn, unarrived}
use Rattle.round_runner.specs.Running.{AreFedBy, ComesBy, ComesNow, feed_of, has_feed}
use Rattle.network_runner.specs.Asking.{HasInput, HasInputOn}
use Rattle.network_runner.specs.Counting.{EndsAt, IsToPort}
use Rattle.network_runner.specs.Filling.{ReadersFit}
use Rattle.network_runner.specs.Making.{AreReadersOf}
use Rattle.network_runner.proofs.Begun.{comes_at, counts_none, map_at, map_index, reader_at, start_unarrived}
use Rattle.network_runner.proofs.Leaving.{from_inside}
use Rattle.trace_replay.specs.Holding.{stacked}
use Rattle.trace_replay.proofs.Behind.{behind_none, fresh_fit}
use Rattle.trace_replay.specs.Between.{CanGoOn, IsAt}
use Rattle.trace_replay.specs.Counting.{FitLinks, IsCountedTo}
use Rattle.trace_replay.specs.Ending.{CanGrow, HoldEnough}
use Rattle.trace_replay.specs.Events.{BeginsFirst}
use Rattle.trace_replay.specs.Feeding.{IsFeedOf, IsFeedRead}
use Rattle.trace_replay.specs.Judging.{AtFirst, Trial}
use Rattle.trace_replay.specs.Opening.{IsOpenedOn}
use Rattle.trace_replay.specs.Reading.{NamesFeed, NamesRead}
use Rattle.trace_replay.specs.Replaying.{CanReplay, HaveInputPorts, IsEndTold, IsInputTold, IsReadyAs, IsReplayOf}
use Rattle.trace_replay.specs.declared.between.Replay.{Replay}
use Rattle.trace_replay.specs.declared.bytes.TheConstants.{TRACE_FEED}
use Rattle.trace_replay.specs.declared.reading.Trace.{Trace}
use Rattle.trace_replay.specs.declared.why.ReplayFault.{ReplayFault}
use Rattle.trace_replay.specs.declared.why.ReplayFault.TheVariants.{NotRun, ReadFault, Memory}
use Rattle.trace_replay.proofs.Chained.{There, there}
use Rattle.trace_replay.proofs.Counted.{none_counted}
use Rattle.trace_replay.proofs.Reached.{reached_start}
use Rattle.trace_replay.proofs.Shaped.{ready_so, shapes}
use Rattle.trace_replay.proofs.Starting.{start_fits, start_opened}

some_is : {A : Type 0} (x y : A) → Some x ≡ Some y → x ≡ y
some_is x y e = cc

-- Readers.

not_both : (b : Bool) → b ≡ false → b ≡ true → ⊥
not_both b e f = cc

reads_outside : (opens : List Bool) (end : End) → has_feed opens end ≡ true → is_outside end ≡ true
reads_outside opens (AtLeaf inst port) h = cc
reads_outside opens (AtNet port) h = refl

readers_fit : (wiring : Wiring) (readings : List (Option Reading)) (feeds : Inputs) → AreReadersOf wiring.ins.items wiring.open_ins.items wiring.links.items readings
    → ((l : ℕ) (link : Link) → slice_get wiring.links.items l ≡ Some link → has_feed wiring.open_ins.items link.from ≡ true → feeds.is_open (feed_of wiring.links.items l) ≡ true)
    → ReadersFit wiring.links.items readings feeds
readers_fit wiring readings feeds are are_open = record {
  count = are.count;
  inputs = λ l link reading at here. reads_outside wiring.open_ins.items link.from (are.each l link (Some reading) at here).0;
  open_feeds = λ l reading here.
      let on : There wiring.links.items l = there readings wiring.links.items l (Some reading) (sym are.count) here in
      are_open l on.item on.at (are.each l on.item (Some reading) on.at here).0;
  same_feeds = λ l reading here ended.
      let on : There wiring.links.items l = there readings wiring.links.items l (Some reading) (sym are.count) here in
      absurd (not_both reading.ended (are.each l on.item (Some reading) on.at here).3 ended);
}

-- the feed of a link that has a reader is that of an input that has one
pub fault_named : (ports : List Port) (opened : List Bool) (links : List Link) (readings : List (Option Reading)) (fault : ReplayFault) → AreReadersOf ports opened links readings
    → NamesRead links (map is_some readings) fault → NamesFeed links opened fault
fault_named ports opened links readings (NotRun line why) are named = tt
fault_named ports opened links readings (ReadFault feed) are named = ⊎_elim (λ trace. inl trace) (λ read. inr (fed read)) named
  where
    of_reader : (o : Option (Option Reading)) → option_map is_some o ≡ Some true → (reading : Reading) × (o ≡ Some (Some reading))
    of_reader None e = cc
    of_reader (Some None) e = cc
    of_reader (Some (Some reading)) e = (reading, refl)

    fed : IsFeedRead links (map is_some readings) feed → IsFeedOf links opened feed
    fed (l, link, at, some, is) =
        let reader = of_reader (slice_get readings l) (sym (slice_get-map is_some readings l) ∙ some) in
        (l, link, at, (are.each l link (Some reader.0) at reader.1).0, is)
fault_named ports opened links readings Memory are named = tt

-- What is to come.

told_on : (opened : List Bool) (inputs : List (List ℕ)) (feed : ℕ) (feeds : Inputs) (end : End) → IsEndTold opened inputs feed feeds end → HasInputOn inputs opened end (feeds.left feed)
told_on opened inputs feed feeds (AtLeaf inst port) told = tt
told_on opened inputs feed feeds (AtNet port) told = by_feed (slice_index_or opened port false) told
  where
    by_feed : (b : Bool) → IsInputTold b feed (slice_index_or inputs port []) feeds → HasInput inputs b port (feeds.left feed)
    by_feed true told = told
    by_feed false told = told

are_fed : {X : Type 0} (net : Network X) (cells : List (Cell X)) (wiring : Wiring) (inputs : List (List ℕ)) (readings : List (Option Reading)) (feeds : Inputs) → IsNetworkOf net cells wiring
    → AreReadersOf wiring.ins.items wiring.open_ins.items wiring.links.items readings
    → ((l : ℕ) (link : Link) → slice_get wiring.links.items l ≡ Some link → IsEndTold wiring.open_ins.items inputs (feed_of wiring.links.items l) feeds link.from)
    → AreFedBy net inputs (given_state net cells inputs) readings feeds
are_fed {X} net cells wiring inputs readings feeds is_of are told l link at input =
    let start : State X = given_state net cells inputs in
    let here : slice_get wiring.links.items l ≡ Some link = subst (λ ls. slice_get ls l ≡ Some link) is_of.links at in
    let reader : There readings l = there wiring.links.items readings l link are.count here in
    subst (λ o. ComesBy start l link (feed_of net.links l) (rest_at net.ins inputs link.from) o feeds) (sym reader.at)
    (subst (λ ports. ComesNow start l link (feed_of net.links l) (rest_at ports inputs link.from) reader.item feeds) (sym is_of.ins)
    (comes_at start l link wiring.ins.items wiring.open_ins.items inputs (feed_of net.links l) feeds reader.item link.from input
    (reader_at wiring.ins.items wiring.open_ins.items link reader.item (are.each l link reader.item here reader.at))
    (told_on wiring.open_ins.items inputs (feed_of net.links l) feeds link.from
    (subst (λ ls. IsEndTold wiring.open_ins.items inputs (feed_of ls l) feeds link.from) (sym is_of.links) (told l link here)))
    (subst (λ ports. unarrived (slice_get start.flows l) ≡ fed_by ports inputs link link.from) is_of.ins (start_unarrived net cells inputs l link at))))

-- What is asked of the wiring.

pub have_ports : {X : Type 0} (cells : List (Cell X)) (wiring : Wiring) (grow : ℕ) (names : List (List ℕ)) (feeds : Inputs) → CanReplay cells wiring grow names feeds → HaveInputPorts wiring
have_ports cells wiring grow names feeds can = record { told = can.ready.1.is_of.ins_told; sizes = can.input_sizes }

-- each link to an output of the network ends at one that is there, and begins at a cell
to_ports : {X : Type 0} (net : Network X) (cells : List (Cell X)) (wiring : Wiring) → IsNetworkOf net cells wiring → IsWired net → IsToPort wiring.links.items (length wiring.outs.items)
to_ports net cells wiring is_of wired l link at =
    let joined : IsJoined net link = wired.joined l link (subst (λ ls. slice_get ls l ≡ Some link) (sym is_of.links) at) in
    by_end link.to refl joined.to_port joined.inside
  where
    outs : length net.outs ≡ length wiring.outs.items
    outs = ap length is_of.outs ∙ length-map wiring.outs.items port_of

    begins_inside : (b : Bool) → is_input link ≡ b → is_output link ≡ true → (is_input link ≡ true → is_output link ≡ false) → is_input link ≡ false
    begins_inside true is out inside = absurd (not_both (is_output link) (inside is) out)
    begins_inside false is out inside = is

    by_end : (end : End) → link.to ≡ end → LeadsToPort net end → (is_input link ≡ true → is_output link ≡ false) → EndsAt link (length wiring.outs.items) end
    by_end (AtLeaf inst port) to leads inside = tt
    by_end (AtNet port) to leads inside = ((let low : port < length net.outs = leads in omega (arith, low, outs)), begins_inside (is_input link) refl (ap is_outside to) inside)

net_of : {X : Type 0} (net : Network X) (cells : List (Cell X)) (wiring : Wiring) → IsNetworkOf net cells wiring → IsNetOf net cells net.links
net_of net cells wiring is_of = record { actors = is_of.actors; links_are = refl }

pub can_work : {X : Type 0} (cells : List (Cell X)) (wiring : Wiring) (grow : ℕ) (names : List (List ℕ)) (feeds : Inputs) → ReadyCanWork X → CanReplay cells wiring grow names feeds
    → CanWork cells wiring.links.items
can_work cells wiring grow names feeds law can =
    let net = can.ready.0 in
    let as_it : IsReadyAs can.ready.0 cells wiring grow = can.ready.1 in
    subst (CanWork cells) as_it.is_of.links
    (law can.ready.0 grow 0 cells (net_of can.ready.0 cells wiring as_it.is_of) as_it.ready
    (subst HaveSizes (sym as_it.is_of.links) can.sizes) (subst (NoneUnlinked cells) (sym as_it.is_of.links) can.unlinked))

pub few_names : {A X : Type 0} (f : A → List ℕ) (names : List A) (cells : List (Cell X)) (links : List Link) → length (map f names) ≡ length cells → CanWork cells links → length names ≤ max_instances
few_names f names cells links count can = omega (arith, count, length-map names f, can.few_cells)

-- Where the run begins.

holds_first : (links : List Link) (l : ℕ) (link : Link) → slice_get links l ≡ Some link → link.capacity ≤ slice_index_or (map capacity_of links) l 0
holds_first links l link at = let is : slice_index_or (map capacity_of links) l 0 ≡ link.capacity = map_index capacity_of links l link 0 at in omega (arith, is)

module _ {C X : Type 0} (cell : C → Cell X) (cells : List C) (wiring : Wiring) (grow : ℕ) (names : List (List ℕ)) (feeds : Inputs) (replay : Replay C)
    (can : CanReplay (map cell cells) wiring grow names feeds) (work : CanWork (map cell cells) wiring.links.items) (opened : IsOpenedOn cell cells wiring grow replay) where
  all_work : Rattle.trace_replay.specs.Trying.AllWork (map cell replay.state.cells)
  all_work i one at = (can.ready.1.ready.fresh i one (subst (λ cs. slice_get (map cell cs) i ≡ Some one) opened.cells_are at)).untrapped

  queues : CanGrow grow (map cell cells) wiring.links.items
  queues l link at inner_from inner_to =
      let joined : IsJoinedTo (map cell cells) link = work.joined l link at in
      let has : HasQueues (map cell cells) grow link = can.ready.1.ready.queues l link (subst (λ ls. slice_get ls l ≡ Some link) (sym can.ready.1.is_of.links) at) in
      record {
        writer = joined.writer;
        reader = joined.reader;
        holds = (has.grown_outbox inner_from inner_to, has.grown_inbox inner_from inner_to);
      }

  enough : HoldEnough wiring.links.items replay.state.capacities
  enough l link at = subst (λ cs. link.capacity ≤ slice_index_or cs l 0) (sym opened.capacities) (holds_first wiring.links.items l link at)

  pub ready_to_go : CanGoOn (record { held = seen cell replay.state; taken = replay.taken; readings = replay.readers.items; numbers = replay.numbers; feeds = feeds }) replay.links.items (length replay.came.items) replay.grow
  ready_to_go = record {
    links_are = opened.links_held ∙ sym opened.links_are;
    few = subst (λ ls. length ls ≤ max_links) (sym opened.links_are) work.few_links;
    work = all_work;
    few_held = opened.few;
    taken_fits = fresh_fit (seen cell replay.state) wiring.links.items replay.taken opened.links_held
        (λ l link at. ap (λ cs. slice_index_or cs l 0) opened.capacities ∙ map_index capacity_of wiring.links.items l link 0 at) opened.taken;
    readers = subst (λ ls. ReadersFit ls replay.readers.items feeds) (sym opened.links_are) (readers_fit wiring replay.readers.items feeds opened.readers can.inputs_open);
    came_for_each = opened.came ∙ ap length (sym opened.links_are);
    numbers = subst (λ ls. FitLinks ls replay.numbers) (sym opened.links_are) (record {
      arrived = ap length opened.numbers.arrived ∙ length-replicate (length wiring.links.items) 0;
      rests = ap length opened.numbers.rests ∙ length-replicate (length wiring.links.items) 0;
      ports = subst (IsToPort wiring.links.items) (sym (ap length opened.numbers.sent ∙ length-replicate (length wiring.outs.items) 0))
          (to_ports can.ready.0 (map cell cells) wiring can.ready.1.is_of can.ready.1.ready.wired);
    });
    queues = subst (λ ls. CanGrow replay.grow (map cell replay.state.cells) ls) (sym opened.links_are)
        (subst (λ cs. CanGrow replay.grow (map cell cs) wiring.links.items) (sym opened.cells_are)
        (subst (λ g. CanGrow g (map cell cells) wiring.links.items) (sym opened.grow_is) queues));
    enough = subst (λ ls. HoldEnough ls replay.state.capacities) (sym opened.links_are) enough;
  }

  module _ (t : Trial X) (text : List ℕ) (inputs : List (List ℕ)) (is : IsReplayOf t text inputs (map cell cells) wiring grow names feeds) where
    wired_ready : IsReady t.net grow 0 (map cell cells)
    wired_ready = ready_so can.ready.0 t.net grow 0 (map cell cells) (shapes can.ready.0 t.net (map cell cells) wiring can.ready.1.is_of is.is_of) can.ready.1.ready

    is_net : IsNetOf t.net (map cell replay.state.cells) replay.state.links
    is_net = record {
      actors = subst (λ cs. map (λ leaf. leaf.behaviour) t.net.leaves ≡ map (λ one. one.actor) (map cell cs)) (sym opened.cells_are) is.is_of.actors;
      links_are = is.is_of.links ∙ sym opened.links_held;
    }

    stands : StandsIn t.net (seen cell replay.state) t.start
    stands = subst (StandsIn t.net (seen cell replay.state))
        (ap (λ cs. given_state t.net (map cell cs) inputs) opened.cells_are ∙ sym is.start)
        (opened.states t.net inputs is_net)

    fits : Rattle.trace_replay.specs.Ending.FitInputs t.net t.start
    fits l link flow at here input =
        let same : given_flow t.net (map cell cells) inputs link ≡ flow =
        some_is (given_flow t.net (map cell cells) inputs link) flow
        (sym (map_at (given_flow t.net (map cell cells) inputs) t.net.links l link at) ∙ subst (λ s. slice_get s.flows l ≡ Some flow) is.start here) in
        let low : length (waiting_at (map cell cells) link.to) ≤ link.capacity = (wired_ready.queues l link at).waiting in
        subst (λ f. untaken f ≤ f.capacity) same (omega (arith, low))

    is_at : IsAt t.net inputs (record { held = seen cell replay.state; taken = replay.taken; readings = replay.readers.items; numbers = replay.numbers; feeds = feeds }) t.start t.start
    is_at = record {
      stands = record {
        stands = record {
          now = stands;
          since = subst (λ s. Rattle.net_state.specs.Standing.IsOpened t.net.links replay.state.waited s.flows s.flows) (sym is.start)
              (start_opened t.net (map cell cells) inputs replay.state.waited
              (subst (λ ls. AreCounted (map cell cells) ls replay.state.waited) (opened.links_held ∙ sym is.is_of.links)
              (subst (λ cs. AreCounted (map cell cs) replay.state.links replay.state.waited) opened.cells_are opened.waited)));
        };
        fed = behind_none t.net inputs t.start (stacked replay.taken) replay.readers.items feeds opened.taken.empty
            (subst (λ s. AreFedBy t.net inputs s replay.readers.items feeds) (sym is.start)
            (are_fed t.net (map cell cells) wiring inputs replay.readers.items feeds is.is_of opened.readers is.told));
      };
      fits = fits;
    }

    counted : IsCountedTo t.net inputs t.start [] t.start replay.numbers
    counted = none_counted t.net inputs t.start replay.numbers
        (counts_none t.net inputs t.start (length wiring.links.items) (length wiring.outs.items) replay.numbers opened.numbers (ap length (sym is.is_of.links))
        (sym (ap length is.is_of.outs ∙ length-map wiring.outs.items port_of)))
        (λ p l link flow at here leads_to. (is_at.stands.stands.since.each l link flow flow at (from_inside t.net p l link wired_ready.wired at leads_to) here here).all_arrived)
        is_at.stands.stands.now.stands.flows.count

    leaves_are : length t.net.leaves ≡ length cells
    leaves_are =
        let one : length (map {A = Leaf X} (λ leaf. leaf.behaviour) t.net.leaves) ≡ length (map (λ one. one.actor) (map cell cells)) = ap length is.is_of.actors in
        sym (length-map {A = Leaf X} t.net.leaves (λ leaf. leaf.behaviour)) ∙ one ∙ length-map (map cell cells) (λ one. one.actor) ∙ length-map cells cell

    pub begins : (trace : Trace) (first : Line) → trace.lines.bytes ≡ [] → trace.lines.passed ≡ 0 → trace.count ≡ 0 → trace.grow ≡ grow
        → first ≡ Header replay.count (length replay.links.items) replay.grow
        → BeginsFirst t text inputs trace (record { held = seen cell replay.state; taken = replay.taken; readings = replay.readers.items; numbers = replay.numbers; feeds = feeds }) replay.grow first names
    begins trace first no_bytes none_passed none_read grow_is first_is = record {
      head = record {
        grow_is = is.grow_is ∙ sym grow_is;
        first_is = first_is ∙ ap (λ n. Header n (length replay.links.items) replay.grow) (opened.count ∙ sym leaves_are)
            ∙ ap (λ ls. Header (length t.net.leaves) (length ls) replay.grow) (opened.links_are ∙ sym is.is_of.links)
            ∙ ap (λ g. Header (length t.net.leaves) (length t.net.links) g) (opened.grow_is ∙ sym is.grow_is);
        names_are = is.names_are;
      };
      grow_is = is.grow_is ∙ sym opened.grow_is;
      wired = wired_ready.wired;
      lawful = opened.lawful t.net is_net;
      fits = subst (λ s. Rattle.net_model.specs.Trace.FitFlows t.net.links s.flows s.flows) (sym is.start) (start_fits t.net (map cell cells) inputs grow 0 wired_ready);
      at = is_at;
      counted = counted;
      number = none_read;
      reached = subst (λ bytes. Rattle.trace_replay.specs.Reading.HasReached t text trace.count trace.lines.passed AtFirst (coming_on bytes feeds TRACE_FEED)) (sym no_bytes)
          (subst (λ left. Rattle.trace_replay.specs.Reading.HasReached t text trace.count trace.lines.passed AtFirst (coming [] left)) (sym is.trace)
          (subst (λ n. Rattle.trace_replay.specs.Reading.HasReached t text n trace.lines.passed AtFirst (Some text)) (sym none_read)
          (subst (λ n. Rattle.trace_replay.specs.Reading.HasReached t text 0 n AtFirst (Some text)) (sym none_passed) (reached_start t text))));
    }
