-- Networks that differ in the names of their leaves alone are ready to be run alike.
use Rattle.std.proofs.Common.{◌≡◌, ℕ, ◌<◌, ◌≤◌, List, map, length, refl, sym, ap, subst, ◌∙◌}
use Rattle.std.specs.Prelude.{Option, None, Some, slice_get, option_map}
use Rattle.std.proofs.lemmas.List.{length-map}
use Rattle.std.proofs.lemmas.Option.{slice_get-map}
use Rattle.rvc_base.specs.Behaviour.{Behaviour}
use Rattle.net_model.specs.declared.wiring.End.{End}
use Rattle.net_model.specs.declared.wiring.End.TheVariants.{Leaf as AtLeaf, Net as AtNet}
use Rattle.net_model.specs.declared.wiring.Link.{Link}
use Rattle.net_model.specs.declared.wiring.Wiring.{Wiring}
use Rattle.net_model.specs.Cell.{Cell}
use Rattle.net_model.specs.Limits.{max_instances, max_rate}
use Rattle.net_model.specs.Network.{Leaf, NetPort, Network}
use Rattle.net_model.specs.Ready.{IsReady, port_of}
use Rattle.net_model.specs.Ready as ready
use Rattle.net_model.specs.Wired.{ComesFromPort, CoversGives, CoversNeeds, HasInput, HasKindOf, HasOutput, HoldsGives, HoldsNeeds, IsJoined, IsWired, LeadsToPort}
use Rattle.fnl_flatten.specs.declared.flat.Flat.{Flat}
use Rattle.rvc_base.specs.Storing.{IsSize}
use Rattle.net_model.specs.declared.wiring.Port.{Port}
use Rattle.net_state.specs.Beginning.{HaveSizes, NoneUnlinked}
use Rattle.network_runner.specs.Asking.{HavePortSizes}
use Rattle.network_runner.specs.Sending.{max_outlets}
use Rattle.cmd_run_network.specs.Network.{AnyMayBeOpen, IsNetworkOf, IsWiringOf}
use Rattle.cmd_run_network.proofs.Numbered.{some_is}

abbrev behaves : {X : Type 0} → Leaf X → Behaviour X
behaves leaf = leaf.behaviour

module _ {X : Type 0} where
  -- what is said of a leaf's behaviour
  abbrev Alike : Option (Leaf X) → Option (Leaf X) → Type 0
  Alike one other = option_map behaves one ≡ option_map behaves other

  has_input : (p : ℕ) (one other : Option (Leaf X)) → Alike one other → HasInput p one → HasInput p other
  has_input p None other same h = absurd h
  has_input p (Some one) None same h = cc
  has_input p (Some one) (Some other) same h = subst (λ (b : Behaviour X). p < b.ins) (some_is one.behaviour other.behaviour same) h

  has_output : (p : ℕ) (one other : Option (Leaf X)) → Alike one other → HasOutput p one → HasOutput p other
  has_output p None other same h = absurd h
  has_output p (Some one) None same h = cc
  has_output p (Some one) (Some other) same h = subst (λ (b : Behaviour X). p < b.outs) (some_is one.behaviour other.behaviour same) h

  covers_needs : (capacity p : ℕ) (one other : Option (Leaf X)) → Alike one other → CoversNeeds capacity p one → CoversNeeds capacity p other
  covers_needs capacity p one None same h = tt
  covers_needs capacity p None (Some other) same h = cc
  covers_needs capacity p (Some one) (Some other) same h = subst (λ (b : Behaviour X). (a : ℕ) → b.need a p ≤ capacity) (some_is one.behaviour other.behaviour same) h

  covers_gives : (capacity p : ℕ) (one other : Option (Leaf X)) → Alike one other → CoversGives capacity p one → CoversGives capacity p other
  covers_gives capacity p one None same h = tt
  covers_gives capacity p None (Some other) same h = cc
  covers_gives capacity p (Some one) (Some other) same h = subst (λ (b : Behaviour X). (a : ℕ) → b.give a p ≤ capacity) (some_is one.behaviour other.behaviour same) h

  -- a leaf has a counterpart
  counterpart : (one : Option (Leaf X)) (other : Leaf X) → Alike one (Some other) → (leaf : Leaf X) × (one ≡ Some leaf) × (leaf.behaviour ≡ other.behaviour)
  counterpart None other same = cc
  counterpart (Some leaf) other same = (leaf, refl, some_is leaf.behaviour other.behaviour same)

  abbrev with_leaves : List Link → List NetPort → List NetPort → List (Leaf X) → Network X
  with_leaves links ins outs leaves = record { leaves = leaves; links = links; ins = ins; outs = outs }

  module _ (links : List Link) (ins outs : List NetPort) (leaves others : List (Leaf X)) (alike : map behaves leaves ≡ map behaves others) where
    alike_at : (i : ℕ) → Alike (slice_get leaves i) (slice_get others i)
    alike_at i = sym (slice_get-map behaves leaves i) ∙ ap (λ bs. slice_get bs i) alike ∙ slice_get-map behaves others i

    abbrev one : Network X
    one = with_leaves links ins outs leaves

    abbrev other : Network X
    other = with_leaves links ins outs others

    comes_from : (end : End) → ComesFromPort one end → ComesFromPort other end
    comes_from (AtLeaf inst port) h = has_output port (slice_get leaves inst.0) (slice_get others inst.0) (alike_at inst.0) h
    comes_from (AtNet port) h = h

    leads_to : (end : End) → LeadsToPort one end → LeadsToPort other end
    leads_to (AtLeaf inst port) h = has_input port (slice_get leaves inst.0) (slice_get others inst.0) (alike_at inst.0) h
    leads_to (AtNet port) h = h

    holds_needs : (capacity : ℕ) (end : End) → HoldsNeeds one capacity end → HoldsNeeds other capacity end
    holds_needs capacity (AtLeaf inst port) h = covers_needs capacity port (slice_get leaves inst.0) (slice_get others inst.0) (alike_at inst.0) h
    holds_needs capacity (AtNet port) h = tt

    holds_gives : (capacity : ℕ) (end : End) → HoldsGives one capacity end → HoldsGives other capacity end
    holds_gives capacity (AtLeaf inst port) h = covers_gives capacity port (slice_get leaves inst.0) (slice_get others inst.0) (alike_at inst.0) h
    holds_gives capacity (AtNet port) h = tt

    output_kind : (link : Link) (end : End) → HasKindOf one link end → HasKindOf other link end
    output_kind link (AtLeaf inst port) h = tt
    output_kind link (AtNet port) h = h

    is_joined : (link : Link) → IsJoined one link → IsJoined other link
    is_joined link joined = record {
      from_port = comes_from link.from joined.from_port;
      to_port = leads_to link.to joined.to_port;
      inside = joined.inside;
      output_kind = output_kind link link.to joined.output_kind;
      holds_needs = holds_needs link.capacity link.to joined.holds_needs;
      holds_gives = holds_gives link.capacity link.from joined.holds_gives;
    }

    is_wired : IsWired one → IsWired other
    is_wired wired = record {
      joined = λ l link at. is_joined link (wired.joined l link at);
      in_order = wired.in_order;
      few_leaves = subst (λ n. n ≤ max_instances) (sym (length-map leaves behaves) ∙ ap length alike ∙ length-map others behaves) wired.few_leaves;
      few_links = wired.few_links;
      few_taken = λ i leaf at a p. (let found = counterpart (slice_get leaves i) leaf (alike_at i ∙ ap (option_map behaves) at) in
          subst (λ (b : Behaviour X). b.need a p ≤ max_rate) found.2 (wired.few_taken i found.0 found.1 a p));
      few_given = λ i leaf at a p. (let found = counterpart (slice_get leaves i) leaf (alike_at i ∙ ap (option_map behaves) at) in
          subst (λ (b : Behaviour X). b.give a p ≤ max_rate) found.2 (wired.few_given i found.0 found.1 a p));
    }

    is_ready : (grow burst : ℕ) (cells : List (Cell X)) → IsReady one grow burst cells → IsReady other grow burst cells
    is_ready grow burst cells one_ready = record {
      wired = is_wired one_ready.wired;
      few_grown = one_ready.few_grown;
      fresh = one_ready.fresh;
      queues = one_ready.queues;
      read = one_ready.read;
    }

  pub ready_too : (net other : Network X) (grow burst : ℕ) (cells : List (Cell X)) → map behaves net.leaves ≡ map behaves other.leaves → net.links ≡ other.links → net.ins ≡ other.ins → net.outs ≡ other.outs
      → IsReady net grow burst cells → IsReady other grow burst cells
  ready_too net other grow burst cells alike links ins outs net_ready =
      is_ready other.links other.ins other.outs net.leaves other.leaves alike grow burst cells
      (subst (λ ls. IsReady (with_leaves ls other.ins other.outs net.leaves) grow burst cells) links
      (subst (λ ps. IsReady (with_leaves net.links ps other.outs net.leaves) grow burst cells) ins
      (subst (λ ps. IsReady (with_leaves net.links net.ins ps net.leaves) grow burst cells) outs net_ready)))

  -- the network of a flat network is that of its wiring
  pub is_wirings : (net : Network X) (cells : List (Cell X)) (flat : Flat) (wiring : Wiring) → IsNetworkOf net cells flat → IsWiringOf flat wiring → ready.IsNetworkOf net cells wiring
  is_wirings net cells flat wiring is_of is_wiring = record {
    actors = is_of.actors;
    links = is_of.links ∙ sym is_wiring.links;
    ins = is_of.ins ∙ sym is_wiring.ins;
    outs = is_of.outs ∙ sym is_wiring.outs;
    ins_told = is_wiring.ins_told ∙ sym (length-map flat.ins.items port_of) ∙ ap length (sym is_wiring.ins) ∙ length-map wiring.ins.items port_of;
    outs_told = is_wiring.outs_told ∙ sym (length-map flat.outs.items port_of) ∙ ap length (sym is_wiring.outs) ∙ length-map wiring.outs.items port_of;
  }

  -- two networks of the same cells and wiring
  pub ready_alike : (net other : Network X) (cells : List (Cell X)) (wiring : Wiring) (grow burst : ℕ) → ready.IsNetworkOf net cells wiring → ready.IsNetworkOf other cells wiring
      → IsReady net grow burst cells → IsReady other grow burst cells
  ready_alike net other cells wiring grow burst is_of other_of net_ready =
      ready_too net other grow burst cells (is_of.actors ∙ sym other_of.actors) (is_of.links ∙ sym other_of.links) (is_of.ins ∙ sym other_of.ins) (is_of.outs ∙ sym other_of.outs) net_ready

-- ---- which ports are open

same_kind : (one : Option Port) (other : Port) → option_map port_of one ≡ Some (port_of other) → (port : Port) × (one ≡ Some port) × (port.kind ≡ other.kind)
same_kind None other same = cc
same_kind (Some port) other same = (port, refl, ap (λ (p : NetPort). p.kind) (some_is (port_of port) (port_of other) same))

sizes_too : (ports others : List Port) → map port_of ports ≡ map port_of others → HavePortSizes ports → HavePortSizes others
sizes_too ports others same sizes p port at =
    let alike : option_map port_of (slice_get ports p) ≡ Some (port_of port) =
    sym (slice_get-map port_of ports p) ∙ ap (λ ps. slice_get ps p) same ∙ slice_get-map port_of others p ∙ ap (option_map port_of) at in
    let found = same_kind (slice_get ports p) port alike in
    subst IsSize found.2 (sizes p found.0 found.1)

pub any_may_be_open : (X : Type 0) → AnyMayBeOpen X
any_may_be_open X cells flat wiring other plan is_wiring is_other can =
    let links : wiring.links.items ≡ other.links.items = is_wiring.links ∙ sym is_other.links in
    let ins : map port_of wiring.ins.items ≡ map port_of other.ins.items = is_wiring.ins ∙ sym is_other.ins in
    let outs : map port_of wiring.outs.items ≡ map port_of other.outs.items = is_wiring.outs ∙ sym is_other.outs in
    record {
      net = can.net;
      is_of = record {
        actors = can.is_of.actors;
        links = can.is_of.links ∙ links;
        ins = can.is_of.ins ∙ ins;
        outs = can.is_of.outs ∙ outs;
        ins_told = is_other.ins_told ∙ sym (length-map flat.ins.items port_of) ∙ ap length (sym is_other.ins) ∙ length-map other.ins.items port_of;
        outs_told = is_other.outs_told ∙ sym (length-map flat.outs.items port_of) ∙ ap length (sym is_other.outs) ∙ length-map other.outs.items port_of;
      };
      ready = can.ready;
      sizes = subst HaveSizes links can.sizes;
      in_sizes = sizes_too wiring.ins.items other.ins.items ins can.in_sizes;
      out_sizes = sizes_too wiring.outs.items other.outs.items outs can.out_sizes;
      unlinked = subst (NoneUnlinked cells) links can.unlinked;
      few_outs = subst (λ n. n ≤ max_outlets) (sym (length-map wiring.outs.items port_of) ∙ ap length outs ∙ length-map other.outs.items port_of) can.few_outs;
      workers = can.workers;
      bursts = can.bursts;
    }
