-- The parts of a runner, as what is buffered changes, and what it sends out.
use Rattle.std.proofs.Common.{◌≡◌, ℕ, zero, suc, ◌+◌, Bool, true, false, List, [], ◌∷◌, ◌++◌, inl, inr, map, refl, sym, ap, subst, ◌∙◌, arith}
use Rattle.std.specs.Prelude.{Option, Some, Result, Ok, Err, IfErr, slice_get, slice_index_or}
use Rattle.rvc_base.specs.declared.round_kind.RoundKind.{RoundKind}
use Rattle.rvc_base.specs.declared.scalar.Scalar.{Scalar}
use Rattle.rvc_io.specs.Channels.{Appends, Channels, WritesOnlyAt}
use Rattle.channel_writer.specs.Held.{AppendsFront, HoldsFront, WritesOn}
use Rattle.port_files.specs.Coming.{Reading}
use Rattle.net_model.specs.declared.wiring.Counts.{Counts}
use Rattle.net_model.specs.declared.wiring.Link.{Link}
use Rattle.net_model.specs.declared.wiring.Port.{Port}
use Rattle.net_model.specs.Network.{NetPort, Network, kind_at}
use Rattle.net_model.specs.State.{State}
use Rattle.net_model.specs.Cell.{Cell}
use Rattle.net_state.specs.Held.{Held}
use Rattle.net_state.specs.Standing.{StandsIn}
use Rattle.round_runner.specs.declared.outcome.Plan.{Plan}
use Rattle.round_runner.specs.declared.outcome.RunEnd.{RunEnd}
use Rattle.round_runner.specs.Running.{IsRunOf, Running, buffer}
use Rattle.round_runner.specs.Sending.{stored_bytes}
use Rattle.network_runner.specs.declared.sending.Outlet.{Outlet}
use Rattle.network_runner.specs.Asking.{ChannelsFit, WritesWithin, seen_run}
use Rattle.network_runner.specs.Keeping.{GoesOn, HasParts, running_of}
use Rattle.network_runner.specs.Sending.{IsChannelOf, OutletsFit, SendsFronts, SendsOnly, SendsTexts, buffered, outgoing_to}
use Rattle.network_runner.specs.Stepping.{IsOutChannel, PutsAll, PutsFronts, SendsFront, SendsOut, left_bytes}
use Rattle.network_runner.specs.Putting.{PutsOutletFronts, PutsOutlets}
use Rattle.network_runner.proofs.Loops.{after_it, none_front, whole_front}
use Rattle.network_runner.proofs.Leaving.{left_stored, outgoing_is}

module _ {C : Type 0} (held : Held C) (ins : List Port) (reads : List Bool) (outlets : List Outlet) (readings : List (Option Reading)) (kind : RoundKind) (plan : Plan) (idle : Bool)
    (trace trace_new : List ℕ) (writers writers_new : List (List ℕ)) (counts : Counts) (ended ended_new : Option RunEnd) where
  abbrev before : Running C
  before = running_of held ins reads outlets readings kind plan idle trace writers counts ended

  abbrev after : Running C
  after = running_of held ins reads outlets readings kind plan idle trace_new writers_new counts ended_new

  pub parts_still : (links : List Link) (came n cells : ℕ) → HasParts before links outlets came n cells → HasParts after links outlets came n cells
  parts_still links came n cells parts = record {
    links_are = parts.links_are;
    few_links = parts.few_links;
    cells_are = parts.cells_are;
    few_cells = parts.few_cells;
    came_for_each = parts.came_for_each;
    writer_for_each = parts.writer_for_each;
    few_outlets = parts.few_outlets;
    sizes = parts.sizes;
    led_to = parts.led_to;
    reader_for_each = parts.reader_for_each;
    readers = parts.readers;
    kinds = parts.kinds;
    bursts = parts.bursts;
    arrived_for_each = parts.arrived_for_each;
    rest_for_each = parts.rest_for_each;
    sent_for_each = parts.sent_for_each;
    few_grown = parts.few_grown;
  }

  pub going_still : {X : Type 0} (cell : C → Cell X) (marks asked instances : ℕ) → GoesOn (seen_run cell before) marks asked instances → GoesOn (seen_run cell after) marks asked instances
  going_still cell marks asked instances goes = record {
    untrapped = goes.untrapped;
    journals = goes.journals;
    few_held = goes.few_held;
    holds_each = goes.holds_each;
    joined = goes.joined;
    mark_for_each = goes.mark_for_each;
    asked_each_round = goes.asked_each_round;
    same_instances = goes.same_instances;
    few_rounds = goes.few_rounds;
    few_firings = goes.few_firings;
  }

-- Outputs that are written.

opens_at : (outlets : List Outlet) (p : ℕ) (outlet : Outlet) → slice_get outlets p ≡ Some outlet → slice_index_or (map (λ o. o.is_open) outlets) p false ≡ outlet.is_open
opens_at [] p outlet at = cc
opens_at (first ∷ outlets) zero outlet at = ap (λ o. o.is_open) (some_outlet first outlet at)
  where
    some_outlet : (a b : Outlet) → Some a ≡ Some b → a ≡ b
    some_outlet a b e = cc
opens_at (first ∷ outlets) (suc p) outlet at = opens_at outlets p outlet at

pub open_at : (outlets : List Outlet) (p : ℕ) → slice_index_or (map (λ o. o.is_open) outlets) p false ≡ true → (outlet : Outlet) × (slice_get outlets p ≡ Some outlet) × (outlet.is_open ≡ true)
open_at [] p is = cc
open_at (first ∷ outlets) zero is = (first, refl, is)
open_at (first ∷ outlets) (suc p) is = open_at outlets p is

kind_is : (ports : List NetPort) (outlets : List Outlet) (p : ℕ) (outlet : Outlet) → map (λ port. port.kind) ports ≡ map (λ o. o.kind) outlets → slice_get outlets p ≡ Some outlet → kind_at ports p ≡ outlet.kind
kind_is [] [] p outlet same at = cc
kind_is [] (first ∷ outlets) p outlet same at = cc
kind_is (port ∷ ports) [] p outlet same at = cc
kind_is (port ∷ ports) (first ∷ outlets) zero outlet same at = heads port.kind first.kind (map (λ q. q.kind) ports) (map (λ o. o.kind) outlets) same ∙ ap (λ o. o.kind) (some_outlet first outlet at)
  where
    heads : (a b : Scalar) (xs ys : List Scalar) → a ∷ xs ≡ b ∷ ys → a ≡ b
    heads a b xs ys e = cc

    some_outlet : (a b : Outlet) → Some a ≡ Some b → a ≡ b
    some_outlet a b e = cc
kind_is (port ∷ ports) (first ∷ outlets) (suc p) outlet same at = kind_is ports outlets p outlet (tails port.kind first.kind (map (λ q. q.kind) ports) (map (λ o. o.kind) outlets) same) at
  where
    tails : (a b : Scalar) (xs ys : List Scalar) → a ∷ xs ≡ b ∷ ys → xs ≡ ys
    tails a b xs ys e = cc

pub outlets_fit : {C : Type 0} (run : Running C) (links : List Link) (outlets : List Outlet) (came n cells : ℕ) (channels : Channels) → HasParts run links outlets came n cells → run.writes ≡ map (λ o. o.is_open) outlets
    → ChannelsFit run channels → OutletsFit links outlets channels
outlets_fit run links outlets came n cells channels parts writes fits = record {
  few = parts.few_outlets;
  sizes = parts.sizes;
  led_to = parts.led_to;
  open_channels = λ p outlet at is_open. fits.outputs p (ap (λ ws. slice_index_or ws p false) writes ∙ (opens_at outlets p outlet at ∙ is_open));
}

pub out_channel : {C : Type 0} (run : Running C) (outlets : List Outlet) (channel : ℕ) → run.writes ≡ map (λ o. o.is_open) outlets → IsChannelOf outlets channel → IsOutChannel run channel
out_channel run outlets channel writes is = (is.0, ap (λ ws. slice_index_or ws is.0 false) writes ∙ (opens_at outlets is.0 is.1 is.2 ∙ is.3), is.4)

pub only_within : {C : Type 0} (run : Running C) (outlets : List Outlet) (old new : Channels) → run.writes ≡ map (λ o. o.is_open) outlets → SendsOnly outlets old new → WritesWithin run old new
only_within run outlets old new writes only = record {
  same_telling = only.same_telling;
  same_open = only.same_open;
  same_others = λ told channel other. only.same_others told channel (λ is. other (inr (out_channel run outlets channel writes is)));
  faults_stay = only.faults_stay;
}

-- What is sent out.

module _ {X : Type 0} (run : Running (Cell X)) (outlets : List Outlet) (links : List Link) (old now : Channels) (before : List (List ℕ)) (links_are : run.held.links ≡ links) (outs : run.outs ≡ map (λ o. o.kind) outlets)
    (writes : run.writes ≡ map (λ o. o.is_open) outlets) (buffers : run.buffers ≡ before) where
  text_is : (net : Network X) (s : State X) → IsRunOf net run → StandsIn net run.held s → (p : ℕ) (outlet : Outlet) → slice_get outlets p ≡ Some outlet
      → stored_bytes outlet.kind (outgoing_to p run.held.cells links) ≡ left_bytes net s p
  text_is net s is_run stands p outlet at =
      let kind : kind_at net.outs p ≡ outlet.kind = kind_is net.outs outlets p outlet (is_run.outs ∙ outs) at in
      let same : links ≡ net.links = sym links_are ∙ sym is_run.is_of.links_are in
      ap (λ k. stored_bytes k (outgoing_to p run.held.cells links)) (sym kind)
      ∙ (ap (λ ls. stored_bytes (kind_at net.outs p) (outgoing_to p run.held.cells ls)) same
      ∙ (ap (stored_bytes (kind_at net.outs p)) (outgoing_is net run.held s stands is_run.wired p) ∙ left_stored net run.held s stands is_run.wired p))

  pub sends_out : (new : Running (Cell X)) (after : List (List ℕ)) → new.buffers ≡ after → SendsTexts outlets (λ p. outgoing_to p run.held.cells links) old now before after → SendsOut run new old now
  sends_out new after buffers_new sends net s is_run stands p is =
      let on = open_at outlets p (ap (λ ws. slice_index_or ws p false) (sym writes) ∙ is) in
      subst (WritesOn (2 + p) old now (buffer run p) (buffer new p)) (text_is net s is_run stands p on.0 on.1)
      (subst (λ bs. WritesOn (2 + p) old now (slice_index_or bs p []) (buffer new p) (stored_bytes on.0.kind (outgoing_to p run.held.cells links))) (sym buffers)
      (subst (λ bs. WritesOn (2 + p) old now (buffered before p) (slice_index_or bs p []) (stored_bytes on.0.kind (outgoing_to p run.held.cells links))) (sym buffers_new) (sends p on.0 on.1 on.2)))

  pub sends_front : SendsFronts outlets (λ p. outgoing_to p run.held.cells links) old now before → SendsFront run old now
  sends_front fronts net s is_run stands p is =
      let on = open_at outlets p (ap (λ ws. slice_index_or ws p false) (sym writes) ∙ is) in
      subst (λ text. AppendsFront (2 + p) old now (buffer run p ++ text)) (text_is net s is_run stands p on.0 on.1)
      (subst (λ bs. AppendsFront (2 + p) old now (slice_index_or bs p [] ++ stored_bytes on.0.kind (outgoing_to p run.held.cells links))) (sym buffers) (fronts p on.0 on.1 on.2))

-- What is put.

pub err_as : {T E : Type 0} (r : Result T E) (P Q : E → Type 0) → ((e : E) → P e → Q e) → IfErr r P → IfErr r Q
err_as (Ok v) P Q f p = tt
err_as (Err e) P Q f p = f e p

trace_else : (outlets : List Outlet) → IsChannelOf outlets 1 → ⊥
trace_else outlets is = (let e : 1 ≡ 2 + is.0 = is.4 in omega (arith, e))

module _ {C : Type 0} (run : Running C) (outlets : List Outlet) (old mid : Channels) (before : List (List ℕ)) (writes : run.writes ≡ map (λ o. o.is_open) outlets) (buffers : run.buffers ≡ before) (only : SendsOnly outlets old mid) where
  written_at : (p : ℕ) → slice_index_or run.writes p false ≡ true → (outlet : Outlet) × (slice_get outlets p ≡ Some outlet) × (outlet.is_open ≡ true)
  written_at p is = open_at outlets p (ap (λ ws. slice_index_or ws p false) (sym writes) ∙ is)

  pub fronts_so : PutsOutletFronts outlets old mid before → PutsFronts run old mid
  fronts_so fronts = record {
    trace = none_front 1 old mid run.trace (λ told. only.same_others told 1 (trace_else outlets));
    outputs = λ p is. (let on = written_at p is in subst (λ bs. AppendsFront (2 + p) old mid (slice_index_or bs p [])) (sym buffers) (fronts p on.0 on.1 on.2));
  }

  module _ (new : Channels) (puts : PutsOutlets outlets old mid before) (then_only : WritesOnlyAt 1 mid new) where
    outputs_put : (p : ℕ) → slice_index_or run.writes p false ≡ true → Appends (2 + p) old new (buffer run p)
    outputs_put p is =
        let on = written_at p is in
        let put : Appends (2 + p) old mid (buffer run p) = subst (λ bs. Appends (2 + p) old mid (slice_index_or bs p [])) (sym buffers) (puts p on.0 on.1 on.2) in
        after_it (2 + p) 1 old mid new (buffer run p) only.same_telling then_only (λ e. absurd (omega (arith, e))) put

    pub all_so : Appends 1 mid new run.trace → PutsAll run old new
    all_so trace = record {
      trace = λ told. trace (only.same_telling ∙ told) ∙ ap (λ h. h ++ run.trace) (only.same_others told 1 (trace_else outlets));
      outputs = outputs_put;
    }

    pub trace_front : AppendsFront 1 mid new run.trace → PutsFronts run old new
    trace_front front = record {
      trace = λ told. subst (λ h. HoldsFront h (new.held 1) run.trace) (only.same_others told 1 (trace_else outlets)) (front (only.same_telling ∙ told));
      outputs = λ p is. whole_front (2 + p) old new (buffer run p) (outputs_put p is);
    }

    pub within_so : WritesWithin run old new
    within_so = record {
      same_telling = then_only.same_telling ∙ only.same_telling;
      same_open = λ channel. then_only.same_open channel ∙ only.same_open channel;
      same_others = λ told channel other.
          then_only.same_held (only.same_telling ∙ told) channel (λ e. other (inl e))
          ∙ only.same_others told channel (λ is. other (inr (out_channel run outlets channel writes is)));
      faults_stay = (let one = only.faults_stay in let two = then_only.faults_stay in omega (arith, one, two));
    }
