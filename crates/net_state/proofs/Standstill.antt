-- A network at rest, with the rest of its feeds counted as arrived.
use Rattle.std.proofs.Common.{◌≡◌, ℕ, zero, suc, ◌+◌, ◌-◌, ◌<◌, ◌≤◌, Bool, true, false, List, [], ◌∷◌, ◌++◌, length, map, take, drop, refl, sym, ap, subst, ◌∙◌, ⊎_elim, arith, append-nil, length-drop}
use Rattle.std.specs.Prelude.{Option, None, Some, slice_get, slice_index_or, if◌then◌else◌, nat_le}
use Rattle.std.proofs.lemmas.Bool.{cases_eq, cases_lt, leb-true, le-leb}
use Rattle.std.proofs.lemmas.List.{length-map, take-append-le, drop_all}
use Rattle.std.proofs.lemmas.List.FromFn.{get_or-map-range_with_len}
use Rattle.rvc_base.specs.Storing.{conv}
use Rattle.rvc_base.specs.Behaviour.{Behaviour}
use Rattle.rvc_base.specs.Lawful.{AgreeOn, IsLawful, tokens_on}
use Rattle.net_model.specs.declared.wiring.End.{End}
use Rattle.net_model.specs.declared.wiring.End.TheVariants.{Leaf as AtLeaf, Net as AtNet}
use Rattle.net_model.specs.declared.wiring.Link.{Link}
use Rattle.net_model.specs.Network.{Network, is_input, is_outside, is_leaf_port}
use Rattle.net_model.specs.State.{Flow, State, untaken, waiting, inbox, inboxes, effect_of, effect_at, choice_of, choice_at, give_of}
use Rattle.net_model.specs.Ends.{AllArrived, HasLessRoom, IsSettled, LacksOn, LacksRoom, all_fed, with_rest}
use Rattle.net_model.specs.Wired.{CoversNeeds, HoldsNeeds, IsWired}
use Rattle.net_model.specs.Limits.{max_rate}
use Rattle.net_model.specs.Cell.{Cell, HasRoom, LacksRoomOn, held_after, number_on, unread_room}
use Rattle.net_model.specs.Cell.{effect_of as cell_effect, choice_of as cell_choice}
use Rattle.net_state.specs.Moving.{AreApart, IsWriter, sent_of}
use Rattle.net_state.specs.Held.{IsWorking, held_of}
use Rattle.net_state.specs.Standing.{IsNetOf, LiesIn, Stands}
use Rattle.net_state.specs.Working.{AreFed, IsAtRest, LacksFrom}
use Rattle.net_state.proofs.Gaining.{some_is, there_too}
use Rattle.net_state.proofs.Coming.{by_bool, if_true, if_false, is_own_port, is_that_port, on_cell}
use Rattle.net_state.proofs.Flows.{changed_at, changed_count, changed_so, inbox_alike, length_waiting}
use Rattle.net_state.proofs.Moved.{waiting_all}
use Rattle.net_state.proofs.Untaken.{untaken_waits}
use Rattle.net_state.proofs.Firings.{LeafOf, leaf_of, give_is}
use Rattle.net_state.proofs.Roomy.{IsRow, none_room, room_least, room_reached}

-- the greatest of the first n numbers
abbrev greatest : ℕ → (ℕ → ℕ) → ℕ
greatest zero needs = 0
greatest (suc n) needs = if nat_le (needs n) (greatest n needs) then greatest n needs else needs n

either_way : (b : Bool) (x y : ℕ) (P : ℕ → Type 0) → (b ≡ true → P x) → (b ≡ false → P y) → P (if b then x else y)
either_way true x y P p q = p refl
either_way false x y P p q = q refl

greatest_enough : (n a : ℕ) (needs : ℕ → ℕ) → a < n → needs a ≤ greatest n needs
greatest_enough zero a needs low = absurd (omega (arith, low))
greatest_enough (suc n) a needs low = ⊎_elim
    (λ same. let is : needs a ≡ needs n = ap needs same in
    either_way (nat_le (needs n) (greatest n needs)) (greatest n needs) (needs n) (λ m. needs a ≤ m)
    (λ yes. let below : needs n ≤ greatest n needs = leb-true (needs n) (greatest n needs) yes in omega (arith, is, below))
    (λ not_so. omega (arith, is)))
    (λ differ. let below : needs a ≤ greatest n needs = greatest_enough n a needs (omega (arith, low, differ)) in
    either_way (nat_le (needs n) (greatest n needs)) (greatest n needs) (needs n) (λ m. needs a ≤ m)
    (λ yes. below)
    (λ not_so. ⊎_elim (λ less. let no : true ≡ false = sym (le-leb (needs n) (greatest n needs) (omega (arith, less))) ∙ not_so in cc)
    (λ high. omega (arith, below, high)) (cases_lt (needs n) (greatest n needs))))
    (cases_eq a n)

greatest_within : (n : ℕ) (needs : ℕ → ℕ) (most : ℕ) → ((a : ℕ) → needs a ≤ most) → greatest n needs ≤ most
greatest_within zero needs most few = omega arith
greatest_within (suc n) needs most few =
    either_way (nat_le (needs n) (greatest n needs)) (greatest n needs) (needs n) (λ m. m ≤ most) (λ yes. greatest_within n needs most few) (λ not_so. few n)

abbrev need_most : {X : Type 0} → Behaviour X → ℕ → ℕ
need_most actor p = greatest actor.actions (λ a. actor.need a p)

need_enough : {X : Type 0} (actor : Behaviour X) → IsLawful actor → (a p : ℕ) → actor.need a p ≤ need_most actor p
need_enough actor lawful a p = ⊎_elim
    (λ low. greatest_enough actor.actions a (λ b. actor.need b p) low)
    (λ high. let none : actor.need a p ≡ 0 = lawful.no_need_beyond a p (omega (arith, high)) in omega (arith, none))
    (cases_lt a actor.actions)

all_arrived_of : (links : List Link) (flows : List Flow)
    → ((l : ℕ) (link : Link) (flow : Flow) → slice_get links l ≡ Some link → slice_get flows l ≡ Some flow → is_input link ≡ false → flow.arrived ≡ length flow.sent)
    → AllArrived links flows
all_arrived_of [] flows each = tt
all_arrived_of (link ∷ links) [] each = tt
all_arrived_of (link ∷ links) (flow ∷ flows) each = (each zero link flow refl refl, all_arrived_of links flows (λ l. each (suc l)))

module _ {X : Type 0} (net : Network X) (cells : List (Cell X)) (links : List Link) (capacities waited : List ℕ) (s : State X) (is : IsNetOf net cells links)
    (stands : Stands net cells capacities s) (working : IsWorking cells links capacities waited) (rest : IsAtRest (held_of cells links capacities waited)) where
  at_links : (l : ℕ) (link : Link) → slice_get net.links l ≡ Some link → slice_get links l ≡ Some link
  at_links = Rattle.net_state.proofs.Untaken.at_links net cells links capacities waited s is stands working

  apart_net : AreApart net.links
  apart_net = Rattle.net_state.proofs.Untaken.apart_net net cells links capacities waited s is stands working

  arrived_here : (l : ℕ) (link : Link) (flow : Flow) → slice_get net.links l ≡ Some link → slice_get s.flows l ≡ Some flow → is_input link ≡ false → flow.arrived ≡ length flow.sent
  arrived_here l link flow here there inner = by_end link.from refl
    where
      by_end : (end : End) → link.from ≡ end → flow.arrived ≡ length flow.sent
      by_end (AtNet port) from = absurd (let no : true ≡ false = sym (ap is_outside from) ∙ inner in let none : ⊥ = cc in none)
      by_end (AtLeaf inst port) from =
          let held = stands.flows.each l link flow here there in
          let writer : IsWriter cells (AtLeaf inst port) = subst (IsWriter cells) from (working.fits l link (at_links l link here)).writer in
          let on = on_cell (slice_get cells inst.0) (λ c. port < c.actor.outs) writer in
          let lies : drop flow.arrived flow.sent ≡ map (conv link.kind) (sent_of (slice_get cells inst.0) port) =
          (let l : LiesIn cells link (drop flow.arrived flow.sent) (AtLeaf inst port) = subst (LiesIn cells link (drop flow.arrived flow.sent)) from held.lies in l) in
          let none : length (sent_of (slice_get cells inst.0) port) ≡ 0 =
          ap (λ o. length (sent_of o port)) on.1 ∙ ap (λ ts. length ts) ((rest.all_out inst.0 on.0 on.1).0 port on.2) in
          let left : length flow.sent - flow.arrived ≡ 0 =
          sym (length-drop flow.arrived flow.sent) ∙ (ap (λ ts. length ts) lies ∙ (length-map (sent_of (slice_get cells inst.0) port) (conv link.kind) ∙ none)) in
          omega (arith, left, held.arrived)

  pub settled : IsSettled net s
  settled = record { untrapped = stands.untrapped; arrived = all_arrived_of net.links s.flows arrived_here }

  -- on inner and output links as many are untaken as were counted
  untaken_is : (l : ℕ) (link : Link) (flow : Flow) → slice_get net.links l ≡ Some link → slice_get s.flows l ≡ Some flow → is_input link ≡ false
      → untaken flow ≡ slice_index_or waited l 0
  untaken_is l link flow here there inner =
      untaken_waits net cells links capacities waited s is stands working l link flow here there
      ∙ sym (rest.counted l link (at_links l link here) inner)

  -- What lacks room in the state that ends judge.

  pub to_lacks : (i a l : ℕ) (cell : Cell X) (link : Link) → slice_get cells i ≡ Some cell → slice_get links l ≡ Some link
      → LacksFrom (cell.actor.give a) i (slice_index_or capacities l 0 - slice_index_or waited l 0) link.from → LacksRoom net (all_fed net s) i a l
  to_lacks i a l cell link at here lacks =
      let at_net : slice_get net.links l ≡ Some link = ap (λ ls. slice_get ls l) is.links_are ∙ here in
      let flow = there_too net.links s.flows l link (sym stands.flows.count) at_net in
      subst (λ o. LacksOn (give_of (slice_get net.leaves i) a) i o (slice_get (all_fed net s).flows l)) (sym at_net)
      (subst (LacksOn (give_of (slice_get net.leaves i) a) i (Some link)) (sym (changed_so with_rest net.links s.flows l link flow.0 at_net flow.1))
      (by_end link.from refl flow.0 at_net flow.1 lacks))
    where
      by_end : (end : End) → link.from ≡ end → (flow : Flow) → slice_get net.links l ≡ Some link → slice_get s.flows l ≡ Some flow
          → LacksFrom (cell.actor.give a) i (slice_index_or capacities l 0 - slice_index_or waited l 0) end
          → HasLessRoom (give_of (slice_get net.leaves i) a) i (with_rest link flow) end
      by_end (AtNet port) from flow at_net there lacks = absurd lacks
      by_end (AtLeaf inst port) from flow at_net there lacks =
          let inner : is_input link ≡ false = ap is_outside from in
          let arrived : (if is_input link then length flow.sent else flow.arrived) ≡ flow.arrived = if_false (is_input link) (length flow.sent) flow.arrived inner in
          let waits : untaken flow ≡ slice_index_or waited l 0 = untaken_is l link flow at_net there inner in
          let gives : give_of (slice_get net.leaves i) a port ≡ cell.actor.give a port = give_is net i a port cell.actor (leaf_of net cells links is i cell at) in
          let holds : flow.capacity ≡ slice_index_or capacities l 0 = (stands.flows.each l link flow at_net there).capacity_is in
          (lacks.0, (let less : flow.capacity < untaken (with_rest link flow) + give_of (slice_get net.leaves i) a port = omega (arith, arrived, waits, gives, holds, lacks.1) in less))

  pub record LacksThere (i a l : ℕ) (cell : Cell X) : Type 0 where
    pub link : Link
    pub here : slice_get links l ≡ Some link
    pub lacks : LacksFrom (cell.actor.give a) i (slice_index_or capacities l 0 - slice_index_or waited l 0) link.from

  pub from_lacks : (i a l : ℕ) (cell : Cell X) → slice_get cells i ≡ Some cell → LacksRoom net (all_fed net s) i a l → LacksThere i a l cell
  from_lacks i a l cell at lacks = by_link (slice_get net.links l) refl (slice_get (all_fed net s).flows l) refl lacks
    where
      by_end : (link : Link) (flow : Flow) → slice_get net.links l ≡ Some link → slice_get s.flows l ≡ Some flow → (end : End) → link.from ≡ end
          → HasLessRoom (give_of (slice_get net.leaves i) a) i (with_rest link flow) end
          → LacksFrom (cell.actor.give a) i (slice_index_or capacities l 0 - slice_index_or waited l 0) end
      by_end link flow at_net there (AtNet port) from less = absurd less
      by_end link flow at_net there (AtLeaf inst port) from less =
          let inner : is_input link ≡ false = ap is_outside from in
          let arrived : (if is_input link then length flow.sent else flow.arrived) ≡ flow.arrived = if_false (is_input link) (length flow.sent) flow.arrived inner in
          let waits : untaken flow ≡ slice_index_or waited l 0 = untaken_is l link flow at_net there inner in
          let gives : give_of (slice_get net.leaves i) a port ≡ cell.actor.give a port = give_is net i a port cell.actor (leaf_of net cells links is i cell at) in
          let holds : flow.capacity ≡ slice_index_or capacities l 0 = (stands.flows.each l link flow at_net there).capacity_is in
          let fits = (working.fits l link (at_links l link at_net)).counted in
          let passes : flow.capacity < untaken (with_rest link flow) + give_of (slice_get net.leaves i) a port = less.1 in
          (less.0, omega (arith, arrived, waits, gives, holds, fits, passes))

      by_flow : (link : Link) → slice_get net.links l ≡ Some link → (f : Option Flow) → slice_get (all_fed net s).flows l ≡ f
          → LacksOn (give_of (slice_get net.leaves i) a) i (Some link) f → LacksThere i a l cell
      by_flow link at_net None is_f less = absurd less
      by_flow link at_net (Some that) is_f less =
          let was = changed_at with_rest net.links s.flows l that is_f in
          let link_is : was.link ≡ link = some_is was.link link (sym was.at_link ∙ at_net) in
          record {
            link = link;
            here = at_links l link at_net;
            lacks = by_end link was.flow at_net was.at_flow link.from refl
                (subst (λ f. HasLessRoom (give_of (slice_get net.leaves i) a) i f link.from) (was.is ∙ ap (λ k. with_rest k was.flow) link_is) less);
          }

      by_link : (o : Option Link) → slice_get net.links l ≡ o → (f : Option Flow) → slice_get (all_fed net s).flows l ≡ f
          → LacksOn (give_of (slice_get net.leaves i) a) i o f → LacksThere i a l cell
      by_link None is_o f is_f less = absurd less
      by_link (Some link) is_o f is_f less = by_flow link is_o f is_f less

  -- rooms, where nothing waits to leave
  module _ (i : ℕ) (cell : Cell X) (at : slice_get cells i ≡ Some cell) (row : List ℕ) (is_row : IsRow links capacities waited i cell.actor.outs row) where
    pub lacks_link : (a p : ℕ) → LacksRoomOn cell row a p → (l : ℕ) × LacksRoom net (all_fed net s) i a l
    lacks_link a p lacks =
        let empty : length (tokens_on cell.outboxes p) ≡ 0 = ap (λ ts. length ts) ((rest.all_out i cell at).0 p lacks.there) in
        ⊎_elim
        (λ none.
        let room_is : number_on row p ≡ unread_room = is_row p lacks.there ∙ none_room i p links capacities waited none in
        let few : cell.actor.give a p ≤ max_rate = working.few_given i cell at a p in
        absurd (omega (arith, room_is, empty, few, lacks.lacks)))
        (λ some.
        let from : some.link.from ≡ AtLeaf (record { 0 = i }) p = is_that_port i p some.link.from some.leaves in (
          some.l,
          to_lacks i a some.l cell some.link at some.at
              (subst (LacksFrom (cell.actor.give a) i (slice_index_or capacities some.l 0 - slice_index_or waited some.l 0)) (sym from)
              (refl, omega (arith, empty, some.least, is_row p lacks.there, lacks.lacks))),
        ))
        (room_reached i p links capacities waited working.each_holds working.each_waited working.few_held)

    pub none_lacks : (a : ℕ) → HasRoom cell row a → (l : ℕ) → LacksRoom net (all_fed net s) i a l → ⊥
    none_lacks a room l less =
        let that = from_lacks i a l cell at less in
        by_end that.link that.here that.link.from refl that.lacks
      where
        by_end : (link : Link) → slice_get links l ≡ Some link → (end : End) → link.from ≡ end
            → LacksFrom (cell.actor.give a) i (slice_index_or capacities l 0 - slice_index_or waited l 0) end → ⊥
        by_end link here (AtNet port) from lacks = lacks
        by_end link here (AtLeaf inst port) from lacks =
            let from_here : link.from ≡ AtLeaf (record { 0 = i }) port = from ∙ ap (λ k. AtLeaf (record { 0 = k }) port) (sym lacks.0) in
            let on = on_cell (slice_get cells i) (λ c. port < c.actor.outs) (subst (IsWriter cells) from_here (working.fits l link here).writer) in
            let low : port < cell.actor.outs = subst (λ c. port < c.actor.outs) (some_is on.0 cell (sym on.1 ∙ at)) on.2 in
            let least = room_least i port links capacities waited l link working.each_holds working.each_waited here (ap (is_leaf_port i port) from_here ∙ is_own_port i port) in
            let enough : held_after cell a port ≤ number_on row port = room port low in
            omega (arith, enough, is_row port low, least, lacks.1)

  -- What selection sees there.

  module _ (wired : IsWired net) (fed : AreFed net s) (j : ℕ) (cell : Cell X) (at : slice_get cells j ≡ Some cell) (free : cell.trapped ≡ false) (lawful : IsLawful cell.actor) where
    leaf_here : LeafOf net j cell.actor
    leaf_here = leaf_of net cells links is j cell at

    few_needed : (p l : ℕ) (link : Link) → slice_get net.links l ≡ Some link → is_leaf_port j p link.to ≡ true → need_most cell.actor p ≤ link.capacity
    few_needed p l link here leads =
        let holds : CoversNeeds link.capacity p (slice_get net.leaves j) =
        subst (HoldsNeeds net link.capacity) (is_that_port j p link.to leads) (wired.joined l link here).holds_needs in
        let covers : (a : ℕ) → leaf_here.leaf.behaviour.need a p ≤ link.capacity = subst (CoversNeeds link.capacity p) leaf_here.at holds in
        greatest_within cell.actor.actions (λ a. cell.actor.need a p) link.capacity (λ a. subst (λ b. b.need a p ≤ link.capacity) leaf_here.is (covers a))

    alike : (p l : ℕ) (link : Link) (flow other : Flow) → slice_get net.links l ≡ Some link → slice_get s.flows l ≡ Some flow → slice_get (all_fed net s).flows l ≡ Some other
        → is_leaf_port j p link.to ≡ true → take (need_most cell.actor p) (waiting other) ≡ take (need_most cell.actor p) (waiting flow)
    alike p l link flow other here there that leads =
        let was = changed_at with_rest net.links s.flows l other that in
        let link_is : was.link ≡ link = some_is was.link link (sym was.at_link ∙ here) in
        let flow_is : was.flow ≡ flow = some_is was.flow flow (sym was.at_flow ∙ there) in
        let other_is : other ≡ with_rest link flow = was.is ∙ (ap (λ k. with_rest k was.flow) link_is ∙ ap (with_rest link) flow_is) in
        ap (λ f. take (need_most cell.actor p) (waiting f)) other_is
        ∙ by_bool (is_input link)
        (λ input.
        let held = stands.flows.each l link flow here there in
        let more : waiting (with_rest link flow) ≡ waiting flow ++ drop flow.arrived flow.sent =
        ap (λ n. drop flow.taken (take n flow.sent)) (if_true (is_input link) (length flow.sent) flow.arrived input)
        ∙ waiting_all flow.sent flow.arrived flow.taken held.taken held.arrived in
        ap (take (need_most cell.actor p)) more
        ∙ ⊎_elim
        (λ full.
        let many : length (waiting flow) ≡ flow.arrived - flow.taken = length_waiting flow held.arrived in
        let enough : need_most cell.actor p ≤ length (waiting flow) =
        omega (arith, many, full, held.capacity_is, (working.fits l link (at_links l link here)).grown, few_needed p l link here leads) in
        take-append-le (need_most cell.actor p) (waiting flow) (drop flow.arrived flow.sent) enough)
        (λ ended. ap (take (need_most cell.actor p)) (ap (λ ts. waiting flow ++ ts) (drop_all flow.arrived flow.sent (omega (arith, ended))) ∙ append-nil (waiting flow)))
        (fed l link flow here there input))
        (λ inner. ap (λ n. take (need_most cell.actor p) (drop flow.taken (take n flow.sent))) (if_false (is_input link) (length flow.sent) flow.arrived inner))

    agree_fed : AgreeOn cell.actor (need_most cell.actor) (inboxes j cell.actor.ins net.links (all_fed net s).flows) cell.inboxes
    agree_fed p low =
        ap (take (need_most cell.actor p)) (get_or-map-range_with_len (λ q. inbox j q net.links (all_fed net s).flows) 0 cell.actor.ins p p [] low (omega arith))
        ∙ (inbox_alike (take (need_most cell.actor p)) j p net.links s.flows (all_fed net s).flows
        (changed_count with_rest net.links s.flows stands.flows.count ∙ sym stands.flows.count) (alike p)
        ∙ ap (take (need_most cell.actor p)) (sym (stands.inboxes j cell at p low)))

    pub effect_fed : (a : ℕ) → effect_at net (all_fed net s) j a ≡ cell_effect cell a
    effect_fed a =
        ap (λ o. effect_of net.links (all_fed net s).flows j a o (slice_get s.actors j)) leaf_here.at
        ∙ (ap (effect_of net.links (all_fed net s).flows j a (Some leaf_here.leaf)) (stands.actors.each j cell at free)
        ∙ (ap (λ b. b.effect cell.state (inboxes j b.ins net.links (all_fed net s).flows) a) leaf_here.is
        ∙ (lawful.front (need_most cell.actor) (need_enough cell.actor lawful) cell.state (inboxes j cell.actor.ins net.links (all_fed net s).flows) cell.inboxes agree_fed).0 a))

    pub choice_fed : choice_at net (all_fed net s) j ≡ cell_choice cell
    choice_fed =
        ap (λ o. choice_of net.links (all_fed net s).flows j o (slice_get s.actors j)) leaf_here.at
        ∙ (ap (choice_of net.links (all_fed net s).flows j (Some leaf_here.leaf)) (stands.actors.each j cell at free)
        ∙ (ap (λ b. b.choice cell.state (inboxes j b.ins net.links (all_fed net s).flows)) leaf_here.is
        ∙ (lawful.front (need_most cell.actor) (need_enough cell.actor lawful) cell.state (inboxes j cell.actor.ins net.links (all_fed net s).flows) cell.inboxes agree_fed).1))
