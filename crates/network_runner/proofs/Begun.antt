-- A runner that was just made: its parts fit each other, and it stands where a run begins.
use Rattle.std.proofs.Common.{◌≡◌, ℕ, zero, suc, ◌+◌, ◌-◌, ◌*◌, ◌<◌, ◌≤◌, Bool, true, false, List, [], ◌∷◌, ◌++◌, length, map, replicate, refl, sym, ap, subst, ◌∙◌, arith, append-nil}
use Rattle.std.specs.Prelude.{Option, None, Some, slice_get, slice_index_or, if◌then◌else◌}
use Rattle.std.proofs.Math.Nat.{zero-div, zero-mod}
use Rattle.std.proofs.Math.Seq.{drop-append_seam}
use Rattle.std.proofs.lemmas.List.{length-append, length-map, length-replicate}
use Rattle.rvc_base.specs.declared.round_kind.RoundKind.{RoundKind}
use Rattle.rvc_base.specs.declared.scalar.Scalar.{Scalar}
use Rattle.rvc_base.specs.Storing.{IsSize, conv}
use Rattle.rvc_io.specs.Feeds.{Inputs}
use Rattle.port_files.specs.Coming.{Reading, coming, coming_on}
use Rattle.net_model.specs.declared.wiring.Counts.{Counts}
use Rattle.net_model.specs.declared.wiring.End.{End}
use Rattle.net_model.specs.declared.wiring.End.TheVariants.{Leaf as AtLeaf, Net as AtNet}
use Rattle.net_model.specs.declared.wiring.Link.{Link}
use Rattle.net_model.specs.declared.wiring.Port.{Port}
use Rattle.net_model.specs.declared.wiring.Wiring.{Wiring}
use Rattle.net_model.specs.Cell.{Cell}
use Rattle.net_model.specs.Counted.{IsCounted, arrived_at, rest_at}
use Rattle.net_model.specs.Ends.{AllArrived}
use Rattle.net_model.specs.Limits.{max_grow, max_instances, max_links}
use Rattle.net_model.specs.Network.{Leaf, NetPort, Network, is_input, is_output, is_outside, kind_at}
use Rattle.net_model.specs.PacingLaws.{CanBegin}
use Rattle.net_model.specs.PortFile.{pieces, rest_of, token_bytes, token_of, tokens}
use Rattle.net_model.specs.Ready.{HasQueues, IsNetworkOf, IsReady, given_flow, given_state, port_of, waiting_at}
use Rattle.net_model.specs.State.{Flow, State, fed_by}
use Rattle.net_model.specs.Trace.{FitFlows}
use Rattle.net_model.specs.Laws.{IsOrdered}
use Rattle.net_model.specs.Wired.{CoversGives, HoldsGives, IsJoined, LeadsToPort}
use Rattle.net_state.specs.Beginning.{AreLawfulIn, HaveSizes, NoneUnlinked}
use Rattle.net_state.specs.Filling.{AreToCome}
use Rattle.net_state.specs.Held.{CanWork, Held, IsJoinedTo, capacity_of, seen}
use Rattle.net_state.specs.Standing.{IsNetOf, StandAtStart, StandsIn, unarrived}
use Rattle.net_state.specs.Surveyed.{AreUntrapped}
use Rattle.net_state.specs.Working.{gives_of}
use Rattle.net_state.proofs.Firings.{leaf_of}
use Rattle.net_state.proofs.Gaining.{some_is, there_too}
use Rattle.net_state.proofs.Readied.{ready_can_work}
use Rattle.round_runner.specs.declared.outcome.Plan.{Plan}
use Rattle.round_runner.specs.Running.{AreFedBy, ComesBy, ComesNow, HasRest, Running, StandsWith, feed_of, has_feed}
use Rattle.network_runner.specs.declared.sending.Outlet.{Outlet}
use Rattle.network_runner.specs.Asking.{Begins, CanRun, HasInput, HasInputOn, IsAtStart, growth_left, kinds_of, seen_run}
use Rattle.network_runner.specs.Keeping.{GivesWithin, GoesOn, HasParts, HaveJournals, IsOpenLink, ReaderFits, ReadsKind, running_of}
use Rattle.network_runner.specs.Making.{AreOutletsOf, AreReadersOf, CountNothing, HasKind, IsReaderOf, ReadsAt}
use Rattle.network_runner.specs.Sending.{HasOutlet}
use Rattle.network_runner.proofs.Held.{growth_most}

-- Lists.

pub map_at : {A B : Type 0} (f : A → B) (xs : List A) (k : ℕ) (x : A) → slice_get xs k ≡ Some x → slice_get (map f xs) k ≡ Some (f x)
map_at f [] k x at = cc
map_at f (y ∷ xs) zero x at = ap Some (ap f (some_is y x at))
map_at f (y ∷ xs) (suc k) x at = map_at f xs k x at

pub map_index : {A B : Type 0} (f : A → B) (xs : List A) (k : ℕ) (x : A) (other : B) → slice_get xs k ≡ Some x → slice_index_or (map f xs) k other ≡ f x
map_index f [] k x other at = cc
map_index f (y ∷ xs) zero x other at = ap f (some_is y x at)
map_index f (y ∷ xs) (suc k) x other at = map_index f xs k x other at

abbrev none_of : ℕ → List ℕ
none_of n = replicate n 0

none_counted : (n k : ℕ) → slice_index_or (none_of n) k 0 ≡ 0
none_counted zero k = refl
none_counted (suc n) zero = refl
none_counted (suc n) (suc k) = none_counted n k

-- the types of ports are those of the network's
kinds_too : (ports : List Port) → map (λ (port : NetPort). port.kind) (map port_of ports) ≡ kinds_of ports
kinds_too [] = refl
kinds_too (port ∷ ports) = ap (λ kinds. port.kind ∷ kinds) (kinds_too ports)

port_there : (outlets : List Outlet) (ports : List Port) (p : ℕ) (outlet : Outlet) → map (λ o. o.kind) outlets ≡ kinds_of ports → slice_get outlets p ≡ Some outlet
    → (port : Port) × (slice_get ports p ≡ Some port) × (port.kind ≡ outlet.kind)
port_there [] ports p outlet same at = cc
port_there (first ∷ outlets) [] p outlet same at = cc
port_there (first ∷ outlets) (port ∷ ports) zero outlet same at = (port, refl, sym (head_is first.kind port.kind (map (λ o. o.kind) outlets) (kinds_of ports) same) ∙ ap (λ o. o.kind) (some_is first outlet at))
  where
    head_is : (a b : Scalar) (ones others : List Scalar) → a ∷ ones ≡ b ∷ others → a ≡ b
    head_is a b ones others e = cc
port_there (first ∷ outlets) (port ∷ ports) (suc p) outlet same at = port_there outlets ports p outlet (tail_is first.kind port.kind (map (λ o. o.kind) outlets) (kinds_of ports) same) at
  where
    tail_is : (a b : Scalar) (ones others : List Scalar) → a ∷ ones ≡ b ∷ others → ones ≡ others
    tail_is a b ones others e = cc

-- What is to come.

no_tokens : (kind : Scalar) → tokens kind [] ≡ []
no_tokens kind = ap (λ k. map (token_of kind) (pieces k (token_bytes kind) [])) (zero-div (token_bytes kind))

no_rest : (kind : Scalar) → rest_of kind [] ≡ 0
no_rest kind = zero-mod (token_bytes kind)

not_both : (b : Bool) → b ≡ false → b ≡ true → ⊥
not_both b e f = cc

-- the reader of a link with this writing end
abbrev ReaderAt : List Port → List Bool → End → Option Reading → Type 0
ReaderAt ports opens end None = has_feed opens end ≡ false
ReaderAt ports opens end (Some reading) = (has_feed opens end ≡ true) × ReadsAt ports end reading × (reading.pulled ≡ []) × (reading.ended ≡ false)

pub reader_at : (ports : List Port) (opens : List Bool) (link : Link) (reader : Option Reading) → IsReaderOf ports opens link reader → ReaderAt ports opens link.from reader
reader_at ports opens link None is = is
reader_at ports opens link (Some reading) is = is

kind_found : (ports : List Port) (p : ℕ) (port : Port) → slice_get ports p ≡ Some port → kind_at (map port_of ports) p ≡ port.kind
kind_found [] p port at = cc
kind_found (first ∷ ports) zero port at = ap (λ (o : Port). o.kind) (some_is first port at)
kind_found (first ∷ ports) (suc p) port at = kind_found ports p port at

reads_port : (ports : List Port) (p : ℕ) (reading : Reading) → ReadsAt ports (AtNet p) reading → kind_at (map port_of ports) p ≡ reading.kind
reads_port ports p reading is = by_port (slice_get ports p) refl is
  where
    by_port : (o : Option Port) → slice_get ports p ≡ o → HasKind o reading → kind_at (map port_of ports) p ≡ reading.kind
    by_port None at has = absurd has
    by_port (Some port) at has = kind_found ports p port at ∙ sym has

fed_so : {X : Type 0} (s : State X) (l : ℕ) (link : Link) (reading : Reading) (kind : Scalar) (bytes : List ℕ) (feed : ℕ) (feeds : Inputs) → kind ≡ reading.kind → coming_on reading.pulled feeds feed ≡ Some bytes
    → unarrived (slice_get s.flows l) ≡ map (conv link.kind) (tokens kind bytes) → ComesNow s l link feed (rest_of kind bytes) (Some reading) feeds
fed_so s l link reading kind bytes feed feeds kind_is coming_is is = (
  (
    tokens kind bytes,
    subst (λ o. AreToCome reading.kind o (tokens kind bytes)) (sym coming_is) (ap (λ k. tokens k bytes) (sym kind_is)),
    is,
  ),
  subst (λ o. HasRest reading.kind (rest_of kind bytes) o) (sym coming_is) (ap (λ k. rest_of k bytes) (sym kind_is)),
)

pub comes_at : {X : Type 0} (s : State X) (l : ℕ) (link : Link) (ports : List Port) (opens : List Bool) (inputs : List (List ℕ)) (feed : ℕ) (feeds : Inputs) (reader : Option Reading) (end : End)
    → is_outside end ≡ true → ReaderAt ports opens end reader → HasInputOn inputs opens end (feeds.left feed) → unarrived (slice_get s.flows l) ≡ fed_by (map port_of ports) inputs link end
    → ComesNow s l link feed (rest_at (map port_of ports) inputs end) reader feeds
comes_at s l link ports opens inputs feed feeds reader (AtLeaf inst port) outside is told comes = cc
comes_at s l link ports opens inputs feed feeds None (AtNet port) outside is told comes =
    let kind = kind_at (map port_of ports) port in
    let none : slice_index_or inputs port [] ≡ [] = subst (λ b. HasInput inputs b port (feeds.left feed)) is told in (
      comes ∙ (ap (λ bytes. map (conv link.kind) (tokens kind bytes)) none ∙ ap (map (conv link.kind)) (no_tokens kind)),
      ap (rest_of kind) none ∙ no_rest kind,
    )
comes_at s l link ports opens inputs feed feeds (Some reading) (AtNet port) outside is told comes =
    let left : feeds.left feed ≡ Some (slice_index_or inputs port []) = subst (λ b. HasInput inputs b port (feeds.left feed)) is.0 told in
    fed_so s l link reading (kind_at (map port_of ports) port) (slice_index_or inputs port []) feed feeds (reads_port ports port reading is.1)
    (ap (λ pulled. coming pulled (feeds.left feed)) is.2 ∙ ap (coming []) left) comes

pub start_unarrived : {X : Type 0} (net : Network X) (cells : List (Cell X)) (inputs : List (List ℕ)) (l : ℕ) (link : Link) → slice_get net.links l ≡ Some link
    → unarrived (slice_get (given_state net cells inputs).flows l) ≡ fed_by net.ins inputs link link.from
start_unarrived net cells inputs l link at =
    ap unarrived (map_at (given_flow net cells inputs) net.links l link at)
    ∙ drop-append_seam (waiting_at cells link.to) (fed_by net.ins inputs link link.from)

fits_reader : (b : Bool) (ports : List Port) (opens : List Bool) (link : Link) (reader : Option Reading) → has_feed opens link.from ≡ b → IsReaderOf ports opens link reader → ReaderFits b reader
fits_reader true ports opens link None has is = absurd (not_both (has_feed opens link.from) is has)
fits_reader true ports opens link (Some reading) has is = tt
fits_reader false ports opens link None has is = tt
fits_reader false ports opens link (Some reading) has is = absurd (not_both (has_feed opens link.from) has is.0)

is_reader : (ports : List Port) (opens : List Bool) (link : Link) (reading : Reading) → IsReaderOf ports opens link (Some reading) → ReadsAt ports link.from reading
is_reader ports opens link reading is = is.1

reads_kind : (ports : List Port) (end : End) (reading : Reading) → ReadsAt ports end reading → ReadsKind (kinds_of ports) end reading.kind
reads_kind ports (AtLeaf inst port) reading reads = reads
reads_kind ports (AtNet port) reading reads = by_port (slice_get ports port) refl reads
  where
    by_port : (o : Option Port) → slice_get ports port ≡ o → HasKind o reading → slice_get (kinds_of ports) port ≡ Some reading.kind
    by_port None at has = absurd has
    by_port (Some found) at has = map_at (λ (p : Port). p.kind) ports port found at ∙ ap Some (sym has)

-- A run may begin from cells as they are given.

none_fed : (ports : List NetPort) (inputs : List (List ℕ)) (link : Link) (end : End) → is_outside end ≡ false → fed_by ports inputs link end ≡ []
none_fed ports inputs link (AtLeaf inst port) inner = refl
none_fed ports inputs link (AtNet port) inner = cc

module _ {X : Type 0} (net : Network X) (cells : List (Cell X)) (inputs : List (List ℕ)) where
  given_at : (l : ℕ) (link : Link) (flow : Flow) → slice_get net.links l ≡ Some link → slice_get (map (given_flow net cells inputs) net.links) l ≡ Some flow → given_flow net cells inputs link ≡ flow
  given_at l link flow at here = some_is (given_flow net cells inputs link) flow (sym (map_at (given_flow net cells inputs) net.links l link at) ∙ here)

  all_arrived : (links : List Link) → AllArrived links (map (given_flow net cells inputs) links)
  all_arrived [] = tt
  all_arrived (link ∷ links) = (
    λ inner. ap length (sym (ap (λ ts. waiting_at cells link.to ++ ts) (none_fed net.ins inputs link link.from inner) ∙ append-nil (waiting_at cells link.to))),
    all_arrived links,
  )

  all_fit : (links : List Link) → ((l : ℕ) (link : Link) → slice_get links l ≡ Some link → length (waiting_at cells link.to) ≤ link.capacity)
      → FitFlows links (map (given_flow net cells inputs) links) (map (given_flow net cells inputs) links)
  all_fit [] each = tt
  all_fit (link ∷ links) each = (
    λ inner. (let low : length (waiting_at cells link.to) ≤ link.capacity = each 0 link refl in omega (arith, low)),
    all_fit links (λ l other at. each (suc l) other at),
  )

  pub can_begin : (grow burst : ℕ) → IsReady net grow burst cells → CanBegin net (given_state net cells inputs)
  can_begin grow burst ready = record {
    has_flows = length-map net.links (given_flow net cells inputs);
    ordered = λ l flow here.
        let on = there_too (map (given_flow net cells inputs) net.links) net.links l flow (length-map net.links (given_flow net cells inputs)) here in
        subst (λ f. IsOrdered f) (given_at l on.0 flow on.1 here) (
          omega arith,
          (let long : length (waiting_at cells on.0.to ++ fed_by net.ins inputs on.0 on.0.from) ≡ length (waiting_at cells on.0.to) + length (fed_by net.ins inputs on.0 on.0.from) =
              length-append (waiting_at cells on.0.to) (fed_by net.ins inputs on.0 on.0.from) in omega (arith, long)),
        );
    arrived = all_arrived net.links;
    fits = all_fit net.links (λ l link at. (ready.queues l link at).waiting);
  }

-- nothing was counted yet
pub counts_none : {X : Type 0} (net : Network X) (inputs : List (List ℕ)) (s : State X) (links outs : ℕ) (counts : Counts) → CountNothing links outs counts → links ≡ length net.links → outs ≡ length net.outs
    → IsCounted net inputs s [] s counts
counts_none net inputs s links outs counts none links_are outs_are = record {
  firings = none.firings;
  rounds = none.rounds;
  links = ap length none.arrived ∙ (length-replicate links 0 ∙ links_are);
  arrived = λ l link at. ap (λ ns. slice_index_or ns l 0) none.arrived ∙ (none_counted links l ∙ sym (no_more (is_input link) (arrived_at s l)));
  ends = ap length none.rests ∙ (length-replicate links 0 ∙ links_are);
  rests = λ l link at. ap (λ ns. slice_index_or ns l 0) none.rests ∙ none_counted links l;
  outs = ap length none.sent ∙ (length-replicate outs 0 ∙ outs_are);
  sent = λ p low. ap (λ ns. slice_index_or ns p 0) none.sent ∙ (none_counted outs p ∙ omega arith);
}
  where
    no_more : (b : Bool) (n : ℕ) → (if b then n - n else 0) ≡ 0
    no_more true n = omega arith
    no_more false n = refl

-- What is asked of the cells.

module _ {X : Type 0} (net : Network X) (cells : List (Cell X)) (wiring : Wiring) (is_of : IsNetworkOf net cells wiring) where
  is_net : IsNetOf net cells wiring.links.items
  is_net = record { actors = is_of.actors; links_are = is_of.links }

  leaves_are : length net.leaves ≡ length cells
  leaves_are = sym (length-map net.leaves (λ (leaf : Leaf X). leaf.behaviour)) ∙ (ap (λ bs. length bs) is_of.actors ∙ length-map cells (λ (cell : Cell X). cell.actor))

  outs_are : length net.outs ≡ length wiring.outs.items
  outs_are = ap length is_of.outs ∙ length-map wiring.outs.items port_of

  there : (l : ℕ) (link : Link) → slice_get wiring.links.items l ≡ Some link → slice_get net.links l ≡ Some link
  there l link at = ap (λ ls. slice_get ls l) is_of.links ∙ at

  gives_covered : (capacity : ℕ) (end : End) → HoldsGives net capacity end → GivesWithin cells capacity end
  gives_covered capacity (AtNet port) holds = tt
  gives_covered capacity (AtLeaf inst port) holds = λ a. by_cell a (slice_get cells inst.0) refl
    where
      by_cell : (a : ℕ) (o : Option (Cell X)) → slice_get cells inst.0 ≡ o → gives_of o a port ≤ capacity
      by_cell a None at = omega arith
      by_cell a (Some cell) at =
          let leaf = leaf_of net cells wiring.links.items is_net inst.0 cell at in
          let covers : CoversGives capacity port (Some leaf.leaf) = subst (λ o. CoversGives capacity port o) leaf.at holds in
          subst (λ b. b.give a port ≤ capacity) leaf.is (covers a)

  outlet_there : (n : ℕ) (link : Link) (end : End) → link.to ≡ end → n ≡ length net.outs → LeadsToPort net end → (is_input link ≡ true → is_output link ≡ false) → (outlets : List Outlet) → length outlets ≡ n → HasOutlet outlets link end
  outlet_there n link (AtLeaf inst port) to count leads inside outlets long = tt
  outlet_there n link (AtNet port) to count leads inside outlets long = ((let low : port < length net.outs = leads in omega (arith, low, count, long)), by_bool (is_input link) refl)
    where
      by_bool : (b : Bool) → is_input link ≡ b → is_input link ≡ false
      by_bool true is = absurd (not_both (is_output link) (inside is) (ap is_outside to))
      by_bool false is = is

module _ {C X : Type 0} (cell : C → Cell X) (cells : List C) (wiring : Wiring) (plan : Plan) (can : CanRun (map cell cells) wiring plan) where
  wired_link : (l : ℕ) (link : Link) → slice_get wiring.links.items l ≡ Some link → IsJoined can.net link
  wired_link l link at = can.ready.wired.joined l link (there can.net (map cell cells) wiring can.is_of l link at)

  has_queues : (l : ℕ) (link : Link) → slice_get wiring.links.items l ≡ Some link → HasQueues (map cell cells) plan.grow link
  has_queues l link at = can.ready.queues l link (there can.net (map cell cells) wiring can.is_of l link at)

  pub few_cells : length cells ≤ max_instances
  few_cells =
      let seen_all : length (map cell cells) ≡ length cells = length-map cells cell in
      let leaves : length can.net.leaves ≡ length (map cell cells) = leaves_are can.net (map cell cells) wiring can.is_of in
      let few : length can.net.leaves ≤ max_instances = can.ready.wired.few_leaves in
      omega (arith, seen_all, leaves, few)

  pub few_links : length wiring.links.items ≤ max_links
  few_links = subst (λ ls. length ls ≤ max_links) can.is_of.links can.ready.wired.few_links

  pub can_work : CanWork (map cell cells) wiring.links.items
  can_work = subst (CanWork (map cell cells)) can.is_of.links
      (ready_can_work can.net (map cell cells) (record { actors = can.is_of.actors; links_are = refl }) plan.grow plan.burst can.ready
      (subst HaveSizes (sym can.is_of.links) can.sizes) (subst (NoneUnlinked (map cell cells)) (sym can.is_of.links) can.unlinked))

  open_link : (l : ℕ) (link : Link) → slice_get wiring.links.items l ≡ Some link → IsOpenLink (map cell cells) plan.grow link.capacity link
  open_link l link at =
      let joined : IsJoinedTo (map cell cells) link = can_work.joined l link at in
      record {
        writer = joined.writer;
        reader = joined.reader;
        gives = gives_covered can.net (map cell cells) wiring can.is_of link.capacity link.from (wired_link l link at).holds_gives;
        queues = λ inner inside. ((has_queues l link at).grown_outbox inner inside, (has_queues l link at).grown_inbox inner inside);
      }

  -- The parts that were made.
  module _ (held : Held C) (outlets : List Outlet) (readings : List (Option Reading)) (kind : RoundKind) (trace : List ℕ) (writers : List (List ℕ)) (counts : Counts)
      (cells_are : held.cells ≡ cells) (links_are : held.links ≡ wiring.links.items) (capacities_are : held.capacities ≡ map capacity_of wiring.links.items)
      (outlets_are : AreOutletsOf wiring.outs.items wiring.open_outs.items outlets) (readers_are : AreReadersOf wiring.ins.items wiring.open_ins.items wiring.links.items readings)
      (counts_are : CountNothing (length wiring.links.items) (length wiring.outs.items) counts) where
    abbrev run : Running C
    run = running_of held wiring.ins.items wiring.open_ins.items outlets readings kind plan false trace writers counts None

    as_many_outlets : length outlets ≡ length wiring.outs.items
    as_many_outlets = sym (length-map outlets (λ (o : Outlet). o.kind)) ∙ (ap length outlets_are.kinds ∙ length-map wiring.outs.items (λ (port : Port). port.kind))

    fit : (came n count : ℕ) → came ≡ length wiring.links.items → n ≡ length wiring.outs.items → count ≡ length cells → HasParts run wiring.links.items outlets came n count
    fit came n count came_is n_is count_is = record {
      links_are = links_are;
      few_links = few_links;
      cells_are = count_is ∙ ap length (sym cells_are);
      few_cells = (let few : length cells ≤ max_instances = few_cells in omega (arith, count_is, few));
      came_for_each = came_is;
      writer_for_each = n_is ∙ sym as_many_outlets;
      few_outlets = (let few = can.few_outs in let same = as_many_outlets in omega (arith, few, same));
      sizes = λ p outlet at.
          let port = port_there outlets wiring.outs.items p outlet outlets_are.kinds at in
          subst IsSize port.2 (can.out_sizes p port.0 port.1);
      led_to = λ l link at.
          outlet_there can.net (map cell cells) wiring can.is_of (length outlets) link link.to refl
          (as_many_outlets ∙ sym (outs_are can.net (map cell cells) wiring can.is_of)) (wired_link l link at).to_port (wired_link l link at).inside outlets refl;
      reader_for_each = readers_are.count;
      readers = λ l link reader at here. fits_reader (has_feed wiring.open_ins.items link.from) wiring.ins.items wiring.open_ins.items link reader refl (readers_are.each l link reader at here);
      kinds = λ l link reading at here. reads_kind wiring.ins.items link.from reading (is_reader wiring.ins.items wiring.open_ins.items link reading (readers_are.each l link (Some reading) at here));
      bursts = can.bursts;
      arrived_for_each = ap length counts_are.arrived ∙ length-replicate (length wiring.links.items) 0;
      rest_for_each = ap length counts_are.rests ∙ length-replicate (length wiring.links.items) 0;
      sent_for_each = ap length counts_are.sent ∙ (length-replicate (length wiring.outs.items) 0 ∙ sym as_many_outlets);
      few_grown = can.ready.few_grown;
    }

    pub parts_fit : (came n count : ℕ) → came ≡ length wiring.links.items → n ≡ length wiring.outs.items → count ≡ length cells → (copy : List Link) → copy ≡ wiring.links.items → HasParts run copy outlets came n count
    parts_fit came n count came_is n_is count_is copy copied = subst (λ ls. HasParts run ls outlets came n count) (sym copied) (fit came n count came_is n_is count_is)

    pub goes : (marks asked instances : ℕ) → marks ≡ length cells → asked ≡ 0 → ((l : ℕ) → slice_index_or held.capacities l 0 ≤ 4294967295) → GoesOn (seen_run cell run) marks asked instances
    goes marks asked instances marks_are not_asked few = record {
      untrapped = subst (λ cs. AreUntrapped (map cell cs)) (sym cells_are) (λ i one at. (can.ready.fresh i one at).untrapped);
      journals = subst (λ cs. HaveJournals plan.burst (map cell cs)) (sym cells_are) (λ i one at. (can.ready.fresh i one at).journal);
      few_held = few;
      holds_each = ap length capacities_are ∙ (length-map wiring.links.items capacity_of ∙ ap length (sym links_are));
      joined = λ l link at.
          let here : slice_get wiring.links.items l ≡ Some link = ap (λ ls. slice_get ls l) (sym links_are) ∙ at in
          subst (λ cs. IsOpenLink (map cell cs) plan.grow (slice_index_or held.capacities l 0) link) (sym cells_are)
          (subst (λ n. IsOpenLink (map cell cells) plan.grow n link) (sym (ap (λ cs. slice_index_or cs l 0) capacities_are ∙ map_index capacity_of wiring.links.items l link 0 here)) (open_link l link here));
      mark_for_each = marks_are ∙ (ap length (sym cells_are) ∙ sym (length-map held.cells cell));
      asked_each_round = λ some. not_asked ∙ sym counts_are.rounds;
      same_instances = λ some. absurd (omega (arith, some, not_asked));
      few_rounds =
          let none : counts.rounds ≡ 0 = counts_are.rounds in
          let most : growth_left plan.grow held.capacities ≤ max_grow * length held.capacities = growth_most plan.grow held.capacities can.ready.few_grown in
          let long : length held.capacities ≡ length wiring.links.items = ap length capacities_are ∙ length-map wiring.links.items capacity_of in
          let links : length wiring.links.items ≤ max_links = few_links in
          omega (arith, none, most, long, links);
      few_firings = (let none : counts.firings ≡ 0 = counts_are.firings in omega (arith, none));
    }

    module _ (starts : StandAtStart (seen cell held)) (lawful : AreLawfulIn (seen cell held)) (net : Network X) (inputs : List (List ℕ)) (feeds : Inputs) (is_of : IsNetworkOf net (map cell cells) wiring)
        (ready : IsReady net plan.grow plan.burst (map cell cells)) (told : (l : ℕ) (link : Link) → slice_get held.links l ≡ Some link → HasInputOn inputs wiring.open_ins.items link.from (feeds.left (feed_of held.links l))) where
      abbrev start : State X
      start = given_state net (map cell cells) inputs

      net_held : IsNetOf net (map cell held.cells) held.links
      net_held = record {
        actors = subst (λ cs. map (λ leaf. leaf.behaviour) net.leaves ≡ map (λ one. one.actor) (map cell cs)) (sym cells_are) is_of.actors;
        links_are = is_of.links ∙ sym links_are;
      }

      stands : StandsIn net (seen cell held) start
      stands = subst (λ cs. StandsIn net (seen cell held) (given_state net (map cell cs) inputs)) cells_are (starts net inputs net_held)

      fed : AreFedBy net inputs start readings feeds
      fed l link at input =
          let here : slice_get wiring.links.items l ≡ Some link = ap (λ ls. slice_get ls l) (sym is_of.links) ∙ at in
          let reader = there_too wiring.links.items readings l link (sym readers_are.count) here in
          let same : held.links ≡ net.links = links_are ∙ sym is_of.links in
          subst (λ o. ComesBy start l link (feed_of net.links l) (rest_at net.ins inputs link.from) o feeds) (sym reader.1)
          (subst (λ ports. ComesNow start l link (feed_of net.links l) (rest_at ports inputs link.from) reader.0 feeds) (sym is_of.ins)
          (comes_at start l link wiring.ins.items wiring.open_ins.items inputs (feed_of net.links l) feeds reader.0 link.from input
          (reader_at wiring.ins.items wiring.open_ins.items link reader.0 (readers_are.each l link reader.0 here reader.1))
          (subst (λ ls. HasInputOn inputs wiring.open_ins.items link.from (feeds.left (feed_of ls l))) same (told l link (ap (λ ls. slice_get ls l) links_are ∙ here)))
          (subst (λ ports. unarrived (slice_get start.flows l) ≡ fed_by ports inputs link link.from) is_of.ins (start_unarrived net (map cell cells) inputs l link at))))

      stands_with : StandsWith net inputs (seen_run cell run) feeds start
      stands_with = record {
        is_run_of = record {
          is_of = net_held;
          ins = ap (map (λ (port : NetPort). port.kind)) is_of.ins ∙ kinds_too wiring.ins.items;
          outs = ap (map (λ (port : NetPort). port.kind)) is_of.outs ∙ (kinds_too wiring.outs.items ∙ sym outlets_are.kinds);
          wired = ready.wired;
          lawful = lawful net net_held;
        };
        stands = stands;
        fed = fed;
      }

      pub at_start : IsAtStart net inputs (seen_run cell run) feeds start
      at_start = record {
        stands = stands_with;
        may_begin = can_begin net (map cell cells) inputs plan.grow plan.burst ready;
        counted = counts_none net inputs start (length wiring.links.items) (length wiring.outs.items) counts counts_are (ap length (sym is_of.links)) (sym (outs_are net (map cell cells) wiring is_of));
      }

    unread : (l : ℕ) (reading : Reading) → slice_get readings l ≡ Some (Some reading) → (reading.pulled ≡ []) × (reading.ended ≡ false)
    unread l reading here =
        let on = there_too readings wiring.links.items l (Some reading) readers_are.count here in
        let is : IsReaderOf wiring.ins.items wiring.open_ins.items on.0 (Some reading) = readers_are.each l on.0 (Some reading) on.1 here in
        (is.2, is.3)

    pub begins : StandAtStart (seen cell held) → AreLawfulIn (seen cell held) → trace ≡ [] → ((p : ℕ) → slice_index_or writers p [] ≡ []) → Begins (map cell cells) wiring plan kind (seen_run cell run)
    begins starts lawful no_trace no_output = record {
      cells_are = ap (map cell) cells_are;
      links_are = links_are;
      ins = refl;
      outs = outlets_are.kinds;
      reads = refl;
      writes = outlets_are.opens_are;
      kind_is = refl;
      burst = refl;
      grow = refl;
      workers = refl;
      rounds = counts_are.rounds;
      idle = refl;
      unread = unread;
      no_lines = no_trace;
      no_output = no_output;
      no_firings = counts_are.firings;
      no_rounds = counts_are.rounds;
      going = refl;
      states = at_start starts lawful;
    }
