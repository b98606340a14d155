-- A feed that couldn't be read: a pull was due from it.
use Rattle.std.proofs.Common.{◌≡◌, ℕ, zero, suc, ◌+◌, ◌-◌, ◌*◌, ◌/◌, ◌%◌, ◌<◌, ◌≤◌, Bool, true, false, List, [], ◌∷◌, ◌++◌, ℤ, length, map, drop, refl, sym, ap, subst, ◌∙◌, arith, length-append, length-drop}
use Rattle.std.specs.Prelude.{Option, None, Some, Result, Ok, Err, OnErr, IfErr, not, ◌&&◌, slice_get, slice_index_or, nat_lt}
use Rattle.std.proofs.Math.Nat.{div-add-mod, mul-add}
use Rattle.std.proofs.lemmas.Bool.{ltb-true}
use Rattle.std.proofs.lemmas.List.{length-map}
use Rattle.rvc_base.specs.declared.scalar.Scalar.{Scalar}
use Rattle.rvc_base.specs.Storing.{conv}
use Rattle.rvc_io.specs.Feeds.{Inputs}
use Rattle.port_files.specs.Coming.{Reading, coming, coming_on, is_short}
use Rattle.net_model.specs.declared.wiring.End.{End}
use Rattle.net_model.specs.declared.wiring.End.TheVariants.{Leaf as AtLeaf, Net as AtNet}
use Rattle.net_model.specs.declared.wiring.Link.{Link}
use Rattle.net_model.specs.Network.{NetPort, Network, is_input, is_output, is_outside, kind_at}
use Rattle.net_model.specs.State.{Flow, State, untaken}
use Rattle.net_model.specs.Event.{after_arrival}
use Rattle.net_model.specs.Counted.{rest_at}
use Rattle.net_model.specs.PortFile.{pieces, rest_of, token_bytes, token_of, tokens}
use Rattle.net_model.specs.Cell.{Cell}
use Rattle.net_model.specs.Ready.{tokens_of}
use Rattle.net_model.specs.Wired.{IsWired}
use Rattle.net_model.proofs.Arriving.{Arrived, arrived_unless}
use Rattle.net_state.specs.declared.filling.Filled.{Filled}
use Rattle.net_state.specs.Filling.{AreToCome, Arrives, AtPort, AtReader, Fills, IsDue, IsDueFor, IsFed, SameRest, inflow}
use Rattle.net_state.specs.Held.{Held}
use Rattle.net_state.specs.Standing.{LeadInside, StandsIn, StandsSince, after_inside, unarrived}
use Rattle.net_state.proofs.Coming.{if_false}
use Rattle.net_state.proofs.Gaining.{get_set_same, some_is}
use Rattle.round_runner.specs.Pulling.{PullIsDue, token_size}
use Rattle.round_runner.specs.Running.{AreFedBy, ComesBy, ComesNow, HasRest, Running, feed_of}
use Rattle.network_runner.specs.Filling.{FailsFor, IsDueFrom, IsDueOn, StopsDelivery, StopsOpened, kind_read, with_flow}
use Rattle.network_runner.specs.Keeping.{ReadsKind}
use Rattle.network_runner.specs.Stepping.{StopsRun}
use Rattle.network_runner.proofs.Delivered.{comes_as, inside_same}
use Rattle.network_runner.proofs.Filling.{IsFilling, IsFillingOf, ahead_filled, filled_to, some_at}
use Rattle.network_runner.proofs.One.{fed_at, is_fed_at, is_held, rest_after, unarrived_at, waits_at}

-- Numbers.

-- The link holds less than its capacity with all tokens that came, and what was pulled and not given is no whole token.
due_numbers : (size sent arrived count taken capacity pulled left rest more : ℕ) → sent ≡ arrived + count + more → pulled + left ≡ size * more + rest → pulled < size
    → arrived + count < taken + capacity
    → (size * arrived + left ≤ size * sent + rest) × (size * sent + rest < size * (taken + capacity) + left)
due_numbers size sent arrived count taken capacity pulled left rest more sent_is coming_is short unfilled =
    let spare : ℕ = taken + capacity - (arrived + count + 1) in
    let holds : taken + capacity ≡ arrived + count + (1 + spare) = omega (arith, unfilled) in
    let sent_bytes : size * sent ≡ size * arrived + size * count + size * more =
    ap (λ n. size * n) sent_is ∙ (mul-add size (arrived + count) more ∙ ap (λ n. n + size * more) (mul-add size arrived count)) in
    let held_bytes : size * (taken + capacity) ≡ size * arrived + size * count + size * (1 + spare) =
    ap (λ n. size * n) holds ∙ (mul-add size (arrived + count) (1 + spare) ∙ ap (λ n. n + size * (1 + spare)) (mul-add size arrived count)) in
    let one_more : size * (1 + spare) ≡ size * 1 + size * spare = mul-add size 1 spare in
    let one : size * 1 ≡ size = omega arith in
    (omega (arith, sent_bytes, coming_is), omega (arith, sent_bytes, held_bytes, one_more, one, coming_is, short))

count_pieces : (count size : ℕ) (bytes : List ℕ) → length (pieces count size bytes) ≡ count
count_pieces zero size bytes = refl
count_pieces (suc count) size bytes = ap suc (count_pieces count size (drop size bytes))

-- bytes are those of tokens, and a remainder
pub bytes_of_tokens : (kind : Scalar) (bytes : List ℕ) → length bytes ≡ token_bytes kind * length (tokens kind bytes) + rest_of kind bytes
bytes_of_tokens kind bytes =
    let size = token_bytes kind in
    let many : length (tokens kind bytes) ≡ length bytes / size = length-map (pieces (length bytes / size) size bytes) (token_of kind) ∙ count_pieces (length bytes / size) size bytes in
    sym (ap (λ n. size * n + length bytes % size) many ∙ div-add-mod (length bytes) size)

both_true : (a b : Bool) → (not a && b) ≡ true → b ≡ true
both_true true b is = cc
both_true false b is = is

-- fewer bytes were pulled than a token has
pulled_short : (reading : Reading) → is_short reading ≡ true → length reading.pulled < token_bytes reading.kind
pulled_short reading is = ltb-true (length reading.pulled) (token_bytes reading.kind) (both_true reading.ended (nat_lt (length reading.pulled) (token_bytes reading.kind)) is)

-- One link.

-- what is told of the bytes that are left
due_from : (kind : Scalar) (pulled : List ℕ) (left : Option (List ℕ)) (rest count : ℕ) (flow : Flow) (ts : List ℤ) → AreToCome kind (coming pulled left) ts → HasRest kind rest (coming pulled left)
    → length flow.sent ≡ flow.arrived + count + length ts → length pulled < token_bytes kind → flow.arrived + count < flow.taken + flow.capacity → IsDueFrom kind rest flow left
due_from kind pulled None rest count flow ts come has sent short unfilled = absurd come
due_from kind pulled (Some left) rest count flow ts come has sent short unfilled =
    let all : length pulled + length left ≡ token_bytes kind * length ts + rest =
    sym (length-append pulled left) ∙ (bytes_of_tokens kind (pulled ++ left) ∙ (ap (λ us. token_bytes kind * length us + rest_of kind (pulled ++ left)) come ∙ ap (λ n. token_bytes kind * length ts + n) has)) in
    let due = due_numbers (token_bytes kind) (length flow.sent) flow.arrived count flow.taken flow.capacity (length pulled) (length left) rest (length ts) sent all short unfilled in
    (left, refl, record { pulled = due.0; unfilled = due.1 })

-- the port at which a link ends is one of a cell
due_at : {X : Type 0} (net : Network X) (held : Held (Cell X)) (s : State X) (stands : StandsIn net held s) (wired : IsWired net) (l : ℕ) (link : Link) (flow : Flow)
    (at : slice_get net.links l ≡ Some link) (there : slice_get s.flows l ≡ Some flow) (reading : Reading) (to : End) → link.to ≡ to
    → AtPort link (λ that j q. IsDue j q (slice_index_or held.capacities l 0) held.cells reading) to
    → (is_output link ≡ false) × (untaken flow < flow.capacity) × (length reading.pulled < token_bytes reading.kind)
due_at net held s stands wired l link flow at there reading (AtNet port) to due = absurd due
due_at net held s stands wired l link flow at there reading (AtLeaf inst port) to due =
    let waits : length (tokens_of (slice_get held.cells inst.0) port) ≡ untaken flow = waits_at net held s stands wired l link flow at there inst.0 port to in
    let holds : flow.capacity ≡ slice_index_or held.capacities l 0 = (is_held net held s stands wired l link flow at there).capacity_is in
    let few : length (tokens_of (slice_get held.cells inst.0) port) < slice_index_or held.capacities l 0 = due.unfilled in
    (ap is_outside to, omega (arith, waits, holds, few), pulled_short reading due.short)

due_at_reader : {X : Type 0} (net : Network X) (held : Held (Cell X)) (s : State X) (stands : StandsIn net held s) (wired : IsWired net) (l : ℕ) (link : Link) (flow : Flow)
    (at : slice_get net.links l ≡ Some link) (there : slice_get s.flows l ≡ Some flow) (reading : Reading) (o : Option Link) → o ≡ Some link
    → AtReader o (λ that j q. IsDue j q (slice_index_or held.capacities l 0) held.cells reading)
    → (is_output link ≡ false) × (untaken flow < flow.capacity) × (length reading.pulled < token_bytes reading.kind)
due_at_reader net held s stands wired l link flow at there reading None o_is due = absurd due
due_at_reader net held s stands wired l link flow at there reading (Some other) o_is due =
    let same : other ≡ link = some_is other link o_is in
    due_at net held s stands wired l link flow at there reading other.to (ap (λ k. k.to) (sym same))
    (subst (λ k. AtPort k (λ that j q. IsDue j q (slice_index_or held.capacities l 0) held.cells reading) other.to) same due)

pub fails_for : {X : Type 0} (l feed : ℕ) (old new : Held (Cell X)) (before after : Reading) (fo fn : Inputs) (Told : ℕ → Type 0)
    → Fills l (inflow before fo feed) (inflow after fn feed) Told old new → IsDueFor l new after → new.links ≡ old.links
    → after.kind ≡ before.kind → SameRest before.kind (coming_on before.pulled fo feed) (coming_on after.pulled fn feed)
    → FailsFor l feed old (Some before) fo fn
fails_for {X} l feed old new before after fo fn Told fills due links kind_is same_rest = λ net s rest link flow stands wired at there input comes.
    let at_old : slice_get old.links l ≡ Some link = ap (λ ls. slice_get ls l) (sym stands.now.is_of.links_are) ∙ at in
    let at_new : slice_get new.links l ≡ Some link = ap (λ ls. slice_get ls l) links ∙ at_old in
    let fed : IsFed s l (slice_get old.links l) (inflow before fo feed) = fed_at s l (slice_get old.links l) link (inflow before fo feed) at_old comes.0 in
    let goes : Arrives net s l fills.count (inflow after fn feed) new = fills.states net s stands.now fed in
    let came : Arrived net s goes.next l fills.count = arrived_unless net s goes.next l fills.count s.trapped refl goes.happens_so in
    let link_is : came.link ≡ link = some_is came.link link (sym came.at_link ∙ at) in
    let flow_is : came.flow ≡ flow = some_is came.flow flow (sym came.at_flow ∙ there) in
    let now : Flow = after_arrival fills.count link flow in
    let now_is : after_arrival fills.count came.link came.flow ≡ now = ap (λ k. after_arrival fills.count k came.flow) link_is ∙ ap (after_arrival fills.count link) flow_is in
    let next_is : goes.next ≡ with_flow s l now = sym came.is ∙ ap (with_flow s l) now_is in
    let there_now : slice_get goes.next.flows l ≡ Some now = ap (λ t. slice_get t.flows l) next_is ∙ get_set_same s.flows l flow now there in
    let fed_now : IsFed goes.next l (Some link) (inflow after fn feed) = is_fed_at goes.next l (slice_get new.links l) link (inflow after fn feed) at_new goes.fed in
    let short = due_at_reader net new goes.next goes.stands wired l link now at there_now after (slice_get new.links l) at_new due in
    let taken_is : now.taken ≡ flow.taken = if_false (is_output link) (flow.taken + fills.count) flow.taken short.0 in
    let fits : flow.arrived + fills.count ≤ length flow.sent = subst (λ f. f.arrived + fills.count ≤ length f.sent) flow_is came.fits in
    let taken_within : flow.taken ≤ flow.arrived = (is_held net old s stands.now wired l link flow at there).taken in
    let left : length flow.sent - (flow.arrived + fills.count) ≡ length fed_now.0 =
    sym (length-drop (flow.arrived + fills.count) flow.sent) ∙ (ap length (sym (unarrived_at now there_now) ∙ fed_now.2) ∙ length-map fed_now.0 (conv link.kind)) in
    let unfilled : now.arrived - now.taken < flow.capacity = short.1 in
    let due_so : IsDueFrom after.kind rest flow (fn.left feed) =
    due_from after.kind after.pulled (fn.left feed) rest fills.count flow fed_now.0 fed_now.1
    (subst (λ k. HasRest k rest (coming_on after.pulled fn feed)) (sym kind_is) (rest_after before.kind rest (coming_on before.pulled fo feed) (coming_on after.pulled fn feed) comes.1 same_rest))
    (omega (arith, left, fits)) short.2 (omega (arith, unfilled, taken_is, taken_within)) in
    subst (λ k. IsDueFrom k rest flow (fn.left feed)) kind_is due_so

-- by the answer
pub fails_so : {X E : Type 0} (l feed : ℕ) (old new : Held (Cell X)) (before after : Reading) (fo fn : Inputs) (result : Result Filled E) (Told : ℕ → Type 0)
    → Fills l (inflow before fo feed) (inflow after fn feed) Told old new → OnErr result (IsDueFor l new after) → new.links ≡ old.links
    → after.kind ≡ before.kind → SameRest before.kind (coming_on before.pulled fo feed) (coming_on after.pulled fn feed)
    → OnErr result (FailsFor l feed old (Some before) fo fn)
fails_so l feed old new before after fo fn (Ok filled) Told fills due links kind_is same_rest = tt
fails_so l feed old new before after fo fn (Err e) Told fills due links kind_is same_rest = fails_for l feed old new before after fo fn Told fills due links kind_is same_rest

-- All links.

pub get_map : {A B : Type 0} (f : A → B) (xs : List A) (k : ℕ) (x : A) → slice_get xs k ≡ Some x → slice_get (map f xs) k ≡ Some (f x)
get_map f [] k x at = cc
get_map f (y ∷ xs) zero x at = ap Some (ap f (some_is y x at))
get_map f (y ∷ xs) (suc k) x at = get_map f xs k x at

get_mapped : {A B : Type 0} (f : A → B) (xs : List A) (k : ℕ) (y : B) → slice_get (map f xs) k ≡ Some y → (x : A) × (slice_get xs k ≡ Some x) × (f x ≡ y)
get_mapped f [] k y at = cc
get_mapped f (x ∷ xs) zero y at = (x, refl, some_is (f x) y at)
get_mapped f (x ∷ xs) (suc k) y at = get_mapped f xs k y at

pub stops_filling : {X : Type 0} (l feed : ℕ) (links : List Link) (old now : Held (Cell X)) (before readings : List (Option Reading)) (fo feeds fn : Inputs) (came_old came : List Filled)
    → IsFilling l feed links old now before readings fo feeds came_old came → links ≡ old.links → l < length links
    → (reader : Option Reading) → slice_get readings l ≡ Some reader → FailsFor l feed now reader feeds fn → StopsOpened links before feed old fo fn
stops_filling l feed links old now before readings fo feeds fn came_old came so_far links_is low None there fails = absurd fails
stops_filling {X} l feed links old now before readings fo feeds fn came_old came so_far links_is low (Some reading) there fails =
    let on = some_at links l low in
    record {
      l = l;
      link = on.0;
      kind = reading.kind;
      link_at = on.1;
      read_at = ap (λ ks. slice_get ks l) (sym so_far.kinds) ∙ get_map kind_read readings l (Some reading) there;
      from_outside = so_far.fit.inputs l on.0 reading on.1 there;
      feed_is = so_far.feed_is;
      states = λ net inputs s stands wired fed.
          let here : IsFillingOf net inputs s l now readings feeds came = so_far.states net inputs s stands wired fed in
          let links_of_net : net.links ≡ links = stands.now.is_of.links_are ∙ sym links_is in
          let whole : length s.flows ≡ length net.links = stands.now.stands.flows.count in
          let flow = some_at s.flows l (subst (λ n. l < n) (sym (whole ∙ ap (λ ls. length ls) links_of_net)) low) in
          let at_net : slice_get net.links l ≡ Some on.0 = ap (λ ls. slice_get ls l) links_of_net ∙ on.1 in
          let flow_there : slice_get (filled_to l net s).flows l ≡ Some flow.0 = ahead_filled l l net.links s.flows (omega arith) ∙ flow.1 in
          let input : is_input on.0 ≡ true = so_far.fit.inputs l on.0 reading on.1 there in
          let comes : ComesNow (filled_to l net s) l on.0 feed (rest_at net.ins inputs on.0.from) (Some reading) feeds =
          subst (λ f. ComesNow (filled_to l net s) l on.0 f (rest_at net.ins inputs on.0.from) (Some reading) feeds) (ap (λ ls. feed_of ls l) links_of_net ∙ sym so_far.feed_is)
          (subst (λ o. ComesBy (filled_to l net s) l on.0 (feed_of net.links l) (rest_at net.ins inputs on.0.from) o feeds) there (here.fed l on.0 at_net input)) in
          record {
            flow = flow.0;
            there = flow.1;
            due = fails net (filled_to l net s) (rest_at net.ins inputs on.0.from) on.0 flow.0 here.stands wired at_net flow_there input comes;
          };
    }

-- A delivery.

pub stops_delivery : {X : Type 0} (links : List Link) (before : List (Option Reading)) (feed : ℕ) (old mid : Held (Cell X)) (fo fn : Inputs) → mid.links ≡ links
    → LeadInside old mid → StopsOpened links before feed mid fo fn → StopsDelivery links before feed old fo fn
stops_delivery {X} links before feed old mid fo fn links_are inside stops = record {
  l = stops.l;
  link = stops.link;
  kind = stops.kind;
  link_at = stops.link_at;
  read_at = stops.read_at;
  from_outside = stops.from_outside;
  feed_is = stops.feed_is;
  states = λ net inputs s stands wired fed.
      let opened : StandsSince net mid (after_inside net s) (after_inside net s) = inside net s stands in
      let fed_mid : AreFedBy net inputs (after_inside net s) before fo = λ l link at input.
      comes_as s (after_inside net s) l (feed_of net.links l) (rest_at net.ins inputs link.from) link (slice_get before l) fo (ap unarrived (inside_same net s l link at input)) (fed l link at input) in
      let on : IsDueOn net inputs (after_inside net s) stops.l stops.link stops.kind (fn.left feed) = stops.states net inputs (after_inside net s) opened wired fed_mid in
      let at_net : slice_get net.links stops.l ≡ Some stops.link = ap (λ ls. slice_get ls stops.l) (opened.now.is_of.links_are ∙ links_are) ∙ stops.link_at in
      record {
        flow = on.flow;
        there = sym (inside_same net s stops.l stops.link at_net stops.from_outside) ∙ on.there;
        due = on.due;
      };
}

pub stops_delivery_so : {X E : Type 0} (result : Result Unit E) (feed_in : E → ℕ) (links : List Link) (before : List (Option Reading)) (old mid : Held (Cell X)) (fo fn : Inputs) → mid.links ≡ links
    → LeadInside old mid → IfErr result (λ e. StopsOpened links before (feed_in e) mid fo fn) → IfErr result (λ e. StopsDelivery links before (feed_in e) old fo fn)
stops_delivery_so (Ok v) feed_in links before old mid fo fn links_are inside stops = tt
stops_delivery_so (Err e) feed_in links before old mid fo fn links_are inside stops = stops_delivery links before (feed_in e) old mid fo fn links_are inside stops

-- A runner.

kind_there : (ports : List NetPort) (p : ℕ) (kind : Scalar) → slice_get (map (λ port. port.kind) ports) p ≡ Some kind → kind_at ports p ≡ kind
kind_there [] p kind at = cc
kind_there (port ∷ ports) zero kind at = some_is port.kind kind at
kind_there (port ∷ ports) (suc p) kind at = kind_there ports p kind at

size_is : (ports : List NetPort) (ins : List Scalar) (end : End) (kind : Scalar) → map (λ port. port.kind) ports ≡ ins → ReadsKind ins end kind → token_bytes kind ≡ token_size ports end
size_is ports ins (AtLeaf inst port) kind same reads = absurd reads
size_is ports ins (AtNet port) kind same reads = ap token_bytes (sym (kind_there ports port kind (ap (λ ks. slice_get ks port) same ∙ reads)))

pub reading_there : (readings : List (Option Reading)) (l : ℕ) (kind : Scalar) → slice_get (map kind_read readings) l ≡ Some (Some kind) → (reading : Reading) × (slice_get readings l ≡ Some (Some reading)) × (reading.kind ≡ kind)
reading_there readings l kind at =
    let on = get_mapped kind_read readings l (Some kind) at in
    by_reader on.0 on.1 on.2
  where
    some_kind : (a b : Scalar) → Some a ≡ Some b → a ≡ b
    some_kind a b e = cc

    by_reader : (reader : Option Reading) → slice_get readings l ≡ Some reader → kind_read reader ≡ Some kind → (reading : Reading) × (slice_get readings l ≡ Some (Some reading)) × (reading.kind ≡ kind)
    by_reader None there is = cc
    by_reader (Some reading) there is = (reading, there, some_kind reading.kind kind is)

pub stops_run : {X : Type 0} (run : Running (Cell X)) (links : List Link) (feed : ℕ) (fo fn : Inputs) → run.held.links ≡ links
    → ((l : ℕ) (link : Link) (reading : Reading) → slice_get links l ≡ Some link → slice_get run.readings l ≡ Some (Some reading) → ReadsKind run.ins link.from reading.kind)
    → StopsDelivery links run.readings feed run.held fo fn → StopsRun run feed fo fn
stops_run run links feed fo fn links_are kinds stops = λ net inputs s stands.
    let on : IsDueOn net inputs s stops.l stops.link stops.kind (fn.left feed) = stops.states net inputs s stands.stands stands.is_run_of.wired stands.fed in
    let links_of_net : net.links ≡ links = stands.is_run_of.is_of.links_are ∙ links_are in
    let read = reading_there run.readings stops.l stops.kind stops.read_at in
    let reads : ReadsKind run.ins stops.link.from stops.kind = subst (ReadsKind run.ins stops.link.from) read.2 (kinds stops.l stops.link read.0 stops.link_at read.1) in
    let size : token_bytes stops.kind ≡ token_size net.ins stops.link.from = size_is net.ins run.ins stops.link.from stops.kind stands.is_run_of.ins reads in
    record {
      l = stops.l;
      link = stops.link;
      flow = on.flow;
      left = on.due.0;
      link_at = ap (λ ls. slice_get ls stops.l) links_of_net ∙ stops.link_at;
      flow_at = on.there;
      from_outside = stops.from_outside;
      feed_is = stops.feed_is ∙ ap (λ ls. feed_of ls stops.l) (sym links_of_net);
      left_is = on.due.1;
      due = subst (λ n. PullIsDue n (rest_at net.ins inputs stops.link.from) on.flow (length on.due.0)) size on.due.2;
    }
