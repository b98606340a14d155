-- Actors, wiring and a plan that were tested, and cells that were made for them, can be run.
use Rattle.std.proofs.Common.{◌≡◌, ℕ, suc, ◌<◌, ◌≤◌, true, false, List, [], ◌∷◌, length, map, refl, sym, ap, subst, ◌∙◌, arith}
use Rattle.std.specs.Prelude.{◌↔◌, ◌==◌, ◌&&◌, Option, None, Some, option_map, slice_get}
use Rattle.std.specs.Arc.{arc_value}
use Rattle.std.specs.declared.sync.Arc.{Arc}
use Rattle.std.proofs.lemmas.Bool.{and_from, eq-eqb}
use Rattle.std.proofs.lemmas.List.{length-map}
use Rattle.std.proofs.lemmas.Option.{get_or_from_slice_get, slice_get-map, slice_get_within}
use Rattle.rvc_base.specs.declared.scalar.Scalar.TheVariants.{Bool as Truth}
use Rattle.lowered_actor.specs.Actor.{Actor}
use Rattle.lowered_actor.specs.Meaning.{ActorState, behaviour}
use Rattle.net_model.specs.declared.wiring.End.{End}
use Rattle.net_model.specs.declared.wiring.End.TheVariants.{Leaf as AtLeaf, Net as AtNet}
use Rattle.net_model.specs.declared.wiring.Link.{Link}
use Rattle.net_model.specs.declared.wiring.Port.{Port}
use Rattle.net_model.specs.declared.wiring.Wiring.{Wiring}
use Rattle.net_model.specs.Network.{Leaf, Network, is_leaf_port}
use Rattle.net_model.specs.Cell.{Cell, number_on}
use Rattle.net_model.specs.Limits.{max_instances}
use Rattle.net_model.specs.Wired.{ComesFromPort, CoversGives, CoversNeeds, HasInput, HasKindOf, HasOutput, HoldsGives, HoldsNeeds, IsJoined, IsWired, LeadsToPort}
use Rattle.net_model.specs.Ready.{HasQueues, InboxHolds, IsFreshCell, IsLeft, IsNetworkOf, IsReady, OnCell, OutboxHolds, port_of, tokens_of, waiting_at}
use Rattle.net_state.proofs.Gaining.{some_is}
use Rattle.round_runner.specs.declared.outcome.Plan.{Plan}
use Rattle.actor_cell.specs.Core.{Core, seen}
use Rattle.network_runner.specs.Asking.{CanRun}
use Rattle.kit_runs.specs.Links.{HasOutKind, OnPort}
use Rattle.kit_runs.specs.Rooms.{room_at, wanted}
use Rattle.kit_runs.specs.Fits.{HasPort, IsEnd, IsFine, IsLinkFine}
use Rattle.kit_runs.specs.Cells.{AreCellsOf, IsCellOf}
use Rattle.kit_runs.proofs.Ordered.{ordered, size_is, sizes_are}
use Rattle.kit_runs.proofs.Picked.{few_given, few_needed, give_within, need_within, of_actor, there_is}
use Rattle.kit_runs.proofs.Roomy.{by_link, capacity_wanted, for_link, grow_wanted, one_wanted}

abbrev leaf_of : Actor → Leaf ActorState
leaf_of actor = record { path = []; class = []; behaviour = behaviour actor }

same_port : (i p : ℕ) → ((i == i) && (p == p)) ≡ true
same_port i p = and_from (i == i) (p == p) (eq-eqb i i refl) (eq-eqb p p refl)

on_cell : (o : Option (Cell ActorState)) (P : Cell ActorState → Type 0) (cell : Cell ActorState) → o ≡ Some cell → P cell → OnCell o P
on_cell o P cell at is = subst (λ x. OnCell x P) (sym at) is

of_port : (o : Option Port) (P : Port → Type 0) → OnPort o P → (port : Port) × (o ≡ Some port) × P port
of_port None P h = absurd h
of_port (Some port) P h = (port, refl, h)

-- a place in a list of what was made of another list
of_map : {A B : Type 0} (f : A → B) (xs : List A) (k : ℕ) (y : B) → slice_get (map f xs) k ≡ Some y → (x : A) × (slice_get xs k ≡ Some x) × (f x ≡ y)
of_map {A} {B} f xs k y at = by_place (slice_get xs k) refl
  where
    by_place : (o : Option A) → slice_get xs k ≡ o → (x : A) × (slice_get xs k ≡ Some x) × (f x ≡ y)
    by_place None is = let none : None ≡ Some y = ap (option_map f) (sym is) ∙ (sym (slice_get-map f xs k) ∙ at) in absurd (cc)
    by_place (Some x) is = (x, is, some_is (f x) y (ap (option_map f) (sym is) ∙ (sym (slice_get-map f xs k) ∙ at)))

at_map : {A B : Type 0} (f : A → B) (xs : List A) (k : ℕ) (x : A) → slice_get xs k ≡ Some x → slice_get (map f xs) k ≡ Some (f x)
at_map f xs k x at = slice_get-map f xs k ∙ ap (option_map f) at

same_actors : (actors : List Actor) (cells : List (Cell ActorState)) → length cells ≡ length actors
    → ((i : ℕ) (actor : Actor) (cell : Cell ActorState) → slice_get actors i ≡ Some actor → slice_get cells i ≡ Some cell → cell.actor ≡ behaviour actor)
    → map (λ leaf. leaf.behaviour) (map leaf_of actors) ≡ map (λ cell. cell.actor) cells
same_actors [] [] long each = refl
same_actors [] (cell ∷ cells) long each = absurd (omega (arith, long))
same_actors (actor ∷ actors) [] long each = absurd (omega (arith, long))
same_actors (actor ∷ actors) (cell ∷ cells) long each =
    ap (λ b. b ∷ map (λ leaf. leaf.behaviour) (map leaf_of actors)) (sym (each 0 actor cell refl refl))
    ∙ ap (λ bs. cell.actor ∷ bs) (same_actors actors cells (omega (arith, long)) (λ i. each (suc i)))

module _ (actors : List Actor) (wiring : Wiring) (plan : Plan) (cores : List Core) (fine : IsFine actors wiring plan) (made : AreCellsOf (length actors) actors wiring.links.items plan cores) where
  abbrev links : List Link
  links = wiring.links.items

  abbrev cells : List (Cell ActorState)
  cells = map seen cores

  abbrev net : Network ActorState
  net = record { leaves = map leaf_of actors; links = wiring.links.items; ins = map port_of wiring.ins.items; outs = map port_of wiring.outs.items }

  many : length cells ≡ length actors
  many = length-map cores seen ∙ made.count

  cell_for : (i : ℕ) (actor : Actor) → slice_get actors i ≡ Some actor → (cell : Cell ActorState) × (slice_get cells i ≡ Some cell) × IsCellOf actor links plan i cell
  cell_for i actor at =
      let low : i < length actors = slice_get_within actors i actor at in
      let found = there_is cores i (subst (λ n. i < n) (sym made.count) low) in
      (seen found.0, at_map seen cores i found.0 found.1, made.each i actor found.0 at found.1)

  actor_for : (i : ℕ) (cell : Cell ActorState) → slice_get cells i ≡ Some cell → (actor : Actor) × (slice_get actors i ≡ Some actor) × IsCellOf actor links plan i cell
  actor_for i cell at =
      let core = of_map seen cores i cell at in
      let low : i < length cores = slice_get_within cores i core.0 core.1 in
      let found = there_is actors i (subst (λ n. i < n) made.count low) in
      (found.0, found.1, subst (IsCellOf found.0 links plan i) core.2 (made.each i found.0 core.0 found.1 core.1))

  out_room : (i : ℕ) (actor : Actor) (cell : Cell ActorState) → IsCellOf actor links plan i cell → (p : ℕ) → p < actor.outs → number_on cell.outbox_capacities p ≡ room_at false plan.grow i p 0 links
  out_room i actor cell is p low = is.start.outbox_capacities p low ∙ is.out_rooms.each p low

  in_room : (i : ℕ) (actor : Actor) (cell : Cell ActorState) → IsCellOf actor links plan i cell → (p : ℕ) → p < actor.ins → number_on cell.inbox_capacities p ≡ room_at true plan.grow i p 1 links
  in_room i actor cell is p low = is.start.inbox_capacities p low ∙ is.in_rooms.each p low

  module _ (l : ℕ) (link : Link) (here : slice_get wiring.links.items l ≡ Some link) where
    is_fine : IsLinkFine actors wiring link
    is_fine = fine.links l link here

    outbox : (n : ℕ) → n ≤ wanted plan.grow link → (end : End) → link.from ≡ end → IsEnd true actors (length wiring.ins.items) link.capacity end → OutboxHolds cells n end
    outbox n few (AtNet port) from h = tt
    outbox n few (AtLeaf inst port) from h =
        let found = of_actor (slice_get actors inst.0) (HasPort true port link.capacity) h in
        let cell = cell_for inst.0 found.0 found.1 in
        let same : is_leaf_port inst.0 port link.from ≡ true = subst (λ e. is_leaf_port inst.0 port e ≡ true) (sym from) (same_port inst.0 port) in
        let room : wanted plan.grow link ≤ room_at false plan.grow inst.0 port 0 links = for_link false plan.grow inst.0 port 0 links l link here same in
        let capacity : number_on cell.0.outbox_capacities port ≡ room_at false plan.grow inst.0 port 0 links = out_room inst.0 found.0 cell.0 cell.2 port found.2.there in
        on_cell (slice_get cells inst.0) (λ c. n ≤ number_on c.outbox_capacities port) cell.0 cell.1 (omega (arith, few, room, capacity))

    inbox : (n : ℕ) → n ≤ wanted plan.grow link → (end : End) → link.to ≡ end → IsEnd false actors (length wiring.outs.items) link.capacity end → InboxHolds cells n end
    inbox n few (AtNet port) to h = tt
    inbox n few (AtLeaf inst port) to h =
        let found = of_actor (slice_get actors inst.0) (HasPort false port link.capacity) h in
        let cell = cell_for inst.0 found.0 found.1 in
        let same : is_leaf_port inst.0 port link.to ≡ true = subst (λ e. is_leaf_port inst.0 port e ≡ true) (sym to) (same_port inst.0 port) in
        let room : wanted plan.grow link ≤ room_at true plan.grow inst.0 port 1 links = for_link true plan.grow inst.0 port 1 links l link here same in
        let capacity : number_on cell.0.inbox_capacities port ≡ room_at true plan.grow inst.0 port 1 links = in_room inst.0 found.0 cell.0 cell.2 port found.2.there in
        on_cell (slice_get cells inst.0) (λ c. n ≤ number_on c.inbox_capacities port) cell.0 cell.1 (omega (arith, few, room, capacity))

    none_waits : (end : End) → IsEnd false actors (length wiring.outs.items) link.capacity end → waiting_at cells end ≡ []
    none_waits (AtNet port) h = refl
    none_waits (AtLeaf inst port) h =
        let found = of_actor (slice_get actors inst.0) (HasPort false port link.capacity) h in
        let cell = cell_for inst.0 found.0 found.1 in
        ap (λ o. tokens_of o port) cell.1 ∙ cell.2.start.nothing_in port found.2.there

    has_queues : HasQueues cells plan.grow link
    has_queues = record {
      outbox = outbox link.capacity (capacity_wanted plan.grow link) link.from refl is_fine.source;
      inbox = inbox link.capacity (capacity_wanted plan.grow link) link.to refl is_fine.target;
      grown_outbox = λ not_in not_out. outbox plan.grow (grow_wanted plan.grow link) link.from refl is_fine.source;
      grown_inbox = λ not_in not_out. inbox plan.grow (grow_wanted plan.grow link) link.to refl is_fine.target;
      waiting = subst (λ ts. length ts ≤ link.capacity) (sym (none_waits link.to is_fine.target)) (omega arith);
    }

    from_port : (end : End) → IsEnd true actors (length wiring.ins.items) link.capacity end → ComesFromPort net end
    from_port (AtNet port) h = subst (λ n. port < n) (sym (length-map wiring.ins.items port_of)) h
    from_port (AtLeaf inst port) h =
        let found = of_actor (slice_get actors inst.0) (HasPort true port link.capacity) h in
        subst (HasOutput port) (sym (at_map leaf_of actors inst.0 found.0 found.1)) found.2.there

    to_port : (end : End) → IsEnd false actors (length wiring.outs.items) link.capacity end → LeadsToPort net end
    to_port (AtNet port) h = subst (λ n. port < n) (sym (length-map wiring.outs.items port_of)) h
    to_port (AtLeaf inst port) h =
        let found = of_actor (slice_get actors inst.0) (HasPort false port link.capacity) h in
        subst (HasInput port) (sym (at_map leaf_of actors inst.0 found.0 found.1)) found.2.there

    output_kind : (end : End) → HasOutKind wiring.outs.items link.kind end → HasKindOf net link end
    output_kind (AtLeaf inst port) h = tt
    output_kind (AtNet port) h =
        let found = of_port (slice_get wiring.outs.items port) (λ out. link.kind ≡ out.kind) h in
        found.2 ∙ sym (ap (λ p. p.kind) (get_or_from_slice_get (map port_of wiring.outs.items) port (port_of found.0) (record { name = []; kind = Truth }) (at_map port_of wiring.outs.items port found.0 found.1)))

    holds_needs : (end : End) → IsEnd false actors (length wiring.outs.items) link.capacity end → HoldsNeeds net link.capacity end
    holds_needs (AtNet port) h = tt
    holds_needs (AtLeaf inst port) h =
        let found = of_actor (slice_get actors inst.0) (HasPort false port link.capacity) h in
        subst (CoversNeeds link.capacity port) (sym (at_map leaf_of actors inst.0 found.0 found.1)) (need_within found.0 port link.capacity found.2.rates)

    holds_gives : (end : End) → IsEnd true actors (length wiring.ins.items) link.capacity end → HoldsGives net link.capacity end
    holds_gives (AtNet port) h = tt
    holds_gives (AtLeaf inst port) h =
        let found = of_actor (slice_get actors inst.0) (HasPort true port link.capacity) h in
        subst (CoversGives link.capacity port) (sym (at_map leaf_of actors inst.0 found.0 found.1)) (give_within found.0 port link.capacity found.2.rates)

    is_joined : IsJoined net link
    is_joined = record {
      from_port = from_port link.from is_fine.source;
      to_port = to_port link.to is_fine.target;
      inside = is_fine.inside;
      output_kind = output_kind link.to is_fine.out_kind;
      holds_needs = holds_needs link.to is_fine.target;
      holds_gives = holds_gives link.from is_fine.source;
    }

  is_wired : IsWired net
  is_wired = record {
    joined = is_joined;
    in_order = ordered links fine.wiring_is.in_order;
    few_leaves = subst (λ n. n ≤ max_instances) (sym (length-map actors leaf_of)) fine.few_actors;
    few_links = fine.wiring_is.few_links;
    few_taken = λ i leaf at a p.
        let found = of_map leaf_of actors i leaf at in
        subst (λ x. x.behaviour.need a p ≤ 4096) found.2 (few_needed found.0 (fine.rates i found.0 found.1) a p);
    few_given = λ i leaf at a p.
        let found = of_map leaf_of actors i leaf at in
        subst (λ x. x.behaviour.give a p ≤ 4096) found.2 (few_given found.0 (fine.rates i found.0 found.1) a p);
  }

  fresh : (i : ℕ) (cell : Cell ActorState) → slice_get cells i ≡ Some cell → IsFreshCell plan.burst cell
  fresh i cell at =
      let found = actor_for i cell at in
      let start = found.2.start in
      record {
        untrapped = start.untrapped;
        nothing_out = ((λ p low. start.nothing_out p (subst (λ b. p < b.outs) start.is_of low)), start.journal);
        journal = subst (λ n. plan.burst ≤ n) (sym start.journal_room) (omega arith);
      }

  read : (i : ℕ) (cell : Cell ActorState) → slice_get cells i ≡ Some cell → (p : ℕ) → p < cell.actor.outs → (0 < number_on cell.outbox_capacities p) ↔ IsLeft net i p
  read i cell at p low =
      let found = actor_for i cell at in
      let capacity : number_on cell.outbox_capacities p ≡ room_at false plan.grow i p 0 links = out_room i found.0 cell found.2 p (subst (λ b. p < b.outs) found.2.start.is_of low) in (
        (λ some. by_link false plan.grow i p 0 links (subst (λ n. 0 < n) capacity some)),
        (λ left.
            let room : wanted plan.grow left.1 ≤ room_at false plan.grow i p 0 links = for_link false plan.grow i p 0 links left.0 left.1 left.2 left.3 in
            let one : 1 ≤ wanted plan.grow left.1 = one_wanted plan.grow left.1 in
            omega (arith, capacity, room, one)),
      )

  is_ready : IsReady net plan.grow plan.burst cells
  is_ready = record {
    wired = is_wired;
    few_grown = fine.plan_is.grow;
    fresh = fresh;
    queues = has_queues;
    read = read;
  }

  is_of : IsNetworkOf net cells wiring
  is_of = record {
    actors = same_actors actors cells many (λ i actor cell here there.
        let core = of_map seen cores i cell there in
        (subst (IsCellOf actor links plan i) core.2 (made.each i actor core.0 here core.1)).start.is_of);
    links = refl;
    ins = refl;
    outs = refl;
    ins_told = fine.wiring_is.ins_told;
    outs_told = fine.wiring_is.outs_told;
  }

  runs : CanRun cells wiring plan
  runs = record {
    net = net;
    is_of = is_of;
    ready = is_ready;
    sizes = λ l link at. size_is link.kind (fine.links l link at).size;
    in_sizes = sizes_are wiring.ins.items fine.wiring_is.in_sizes;
    out_sizes = sizes_are wiring.outs.items fine.wiring_is.out_sizes;
    unlinked = λ i cell at p low none.
        let found = actor_for i cell at in
        found.2.start.nothing_in p (subst (λ b. p < b.ins) found.2.start.is_of low);
    few_outs = fine.wiring_is.few_outs;
    workers = fine.plan_is.workers;
    bursts = fine.plan_is.bursts;
  }

pub can_run : {Z : Type 0} (arcs : List (Arc Actor Z)) (wiring : Wiring) (plan : Plan) (cores : List Core) → IsFine (map arc_value arcs) wiring plan
    → AreCellsOf (length arcs) (map arc_value arcs) wiring.links.items plan cores → CanRun (map seen cores) wiring plan
can_run arcs wiring plan cores fine made =
    runs (map arc_value arcs) wiring plan cores fine (subst (λ n. AreCellsOf n (map arc_value arcs) wiring.links.items plan cores) (sym (length-map arcs arc_value)) made)
