-- Rooms of ports, and what they say of links.
use Rattle.std.proofs.Common.{◌≡◌, ℕ, zero, suc, ◌+◌, ◌-◌, ◌<◌, ◌≤◌, min, true, false, List, [], ◌∷◌, length, map, drop, refl, sym, ap, subst, ◌∙◌, ⊎_elim, inl, inr, arith, length-drop}
use Rattle.std.specs.Prelude.{Option, None, Some, slice_get, slice_index_or, ◌⊎◌}
use Rattle.std.proofs.lemmas.Bool.{cases_lt}
use Rattle.std.proofs.lemmas.List.{length-map}
use Rattle.rvc_base.specs.Storing.{conv}
use Rattle.rvc_base.specs.Lawful.{tokens_on}
use Rattle.net_model.specs.declared.wiring.End.{End}
use Rattle.net_model.specs.declared.wiring.End.TheVariants.{Leaf as AtLeaf, Net as AtNet}
use Rattle.net_model.specs.declared.wiring.Link.{Link}
use Rattle.net_model.specs.Network.{Network, is_outside, is_leaf_port}
use Rattle.net_model.specs.State.{Flow, State, give_of}
use Rattle.net_model.specs.Cell.{AreRooms, Cell, HasRoom, LacksRoomOn, held_after, number_on, unread_room}
use Rattle.net_model.specs.Limits.{max_rate}
use Rattle.net_model.specs.Ready.{OnCell, OutboxHolds}
use Rattle.net_model.specs.Trace.{held_since}
use Rattle.net_model.specs.Paced.{HasRoomIn, PassesLink, PassesOn, PassesRoom}
use Rattle.net_state.specs.Moving.{IsWriter, sent_of}
use Rattle.net_state.specs.Held.{HoldFew, IsWorking, room_of}
use Rattle.net_state.specs.Standing.{IsNetOf, IsOpened, LiesIn, Stands}
use Rattle.net_state.proofs.Gaining.{some_is, there_too}
use Rattle.net_state.proofs.Coming.{by_bool, if_true, if_false, is_own_port, is_that_port, on_cell}
use Rattle.net_state.proofs.Firings.{leaf_of, give_is}

-- no link leaves port p of cell i
abbrev pub NoneLeaves : List Link → ℕ → ℕ → Type 0
NoneLeaves links i p = (l : ℕ) (link : Link) → slice_get links l ≡ Some link → is_leaf_port i p link.from ≡ false

-- one number for each output port of cell i
abbrev pub IsRow : List Link → List ℕ → List ℕ → ℕ → ℕ → List ℕ → Type 0
IsRow links capacities waited i outs row = (p : ℕ) → p < outs → number_on row p ≡ room_of i p links capacities waited

-- the room is at most that of each link
pub room_least : (i p : ℕ) (links : List Link) (capacities waited : List ℕ) (l : ℕ) (link : Link) → length capacities ≡ length links → length waited ≡ length links
    → slice_get links l ≡ Some link → is_leaf_port i p link.from ≡ true → room_of i p links capacities waited ≤ slice_index_or capacities l 0 - slice_index_or waited l 0
room_least i p [] capacities waited l link many counts at leaves = cc
room_least i p (head ∷ links) [] waited l link many counts at leaves = absurd (omega (arith, many))
room_least i p (head ∷ links) (c ∷ capacities) [] l link many counts at leaves = absurd (omega (arith, counts))
room_least i p (head ∷ links) (c ∷ capacities) (w ∷ waited) zero link many counts at leaves =
    let is : room_of i p (head ∷ links) (c ∷ capacities) (w ∷ waited) ≡ min (c - w) (room_of i p links capacities waited) =
    if_true (is_leaf_port i p head.from) (min (c - w) (room_of i p links capacities waited)) (room_of i p links capacities waited)
    (ap (λ k. is_leaf_port i p k.from) (some_is head link at) ∙ leaves) in
    omega (arith, is)
room_least i p (head ∷ links) (c ∷ capacities) (w ∷ waited) (suc l) link many counts at leaves =
    let rest : room_of i p links capacities waited ≤ slice_index_or capacities l 0 - slice_index_or waited l 0 =
    room_least i p links capacities waited l link (omega (arith, many)) (omega (arith, counts)) at leaves in
    by_bool (is_leaf_port i p head.from)
    (λ here.
    let is : room_of i p (head ∷ links) (c ∷ capacities) (w ∷ waited) ≡ min (c - w) (room_of i p links capacities waited) =
    if_true (is_leaf_port i p head.from) (min (c - w) (room_of i p links capacities waited)) (room_of i p links capacities waited) here in
    omega (arith, is, rest))
    (λ not_here.
    let is : room_of i p (head ∷ links) (c ∷ capacities) (w ∷ waited) ≡ room_of i p links capacities waited =
    if_false (is_leaf_port i p head.from) (min (c - w) (room_of i p links capacities waited)) (room_of i p links capacities waited) not_here in
    omega (arith, is, rest))

pub none_room : (i p : ℕ) (links : List Link) (capacities waited : List ℕ) → NoneLeaves links i p → room_of i p links capacities waited ≡ unread_room
none_room i p [] capacities waited none = refl
none_room i p (head ∷ links) [] waited none = refl
none_room i p (head ∷ links) (c ∷ capacities) [] none = refl
none_room i p (head ∷ links) (c ∷ capacities) (w ∷ waited) none =
    if_false (is_leaf_port i p head.from) (min (c - w) (room_of i p links capacities waited)) (room_of i p links capacities waited) (none zero head refl)
    ∙ none_room i p links capacities waited (λ l. none (suc l))

-- the room is that of one of the links
pub record LeastLink (i p : ℕ) (links : List Link) (capacities waited : List ℕ) : Type 0 where
  pub l : ℕ
  pub link : Link
  pub at : slice_get links l ≡ Some link
  pub leaves : is_leaf_port i p link.from ≡ true
  pub least : slice_index_or capacities l 0 - slice_index_or waited l 0 ≤ room_of i p links capacities waited

pub room_reached : (i p : ℕ) (links : List Link) (capacities waited : List ℕ) → length capacities ≡ length links → length waited ≡ length links → HoldFew capacities
    → (NoneLeaves links i p) ⊎ (LeastLink i p links capacities waited)
room_reached i p [] capacities waited many counts few = inl (λ l link at. cc)
room_reached i p (head ∷ links) [] waited many counts few = absurd (omega (arith, many))
room_reached i p (head ∷ links) (c ∷ capacities) [] many counts few = absurd (omega (arith, counts))
room_reached i p (head ∷ links) (c ∷ capacities) (w ∷ waited) many counts few =
    let rest : (NoneLeaves links i p) ⊎ (LeastLink i p links capacities waited) =
    room_reached i p links capacities waited (omega (arith, many)) (omega (arith, counts)) (λ l. few (suc l)) in
    by_bool (is_leaf_port i p head.from)
    (λ here.
    let is : room_of i p (head ∷ links) (c ∷ capacities) (w ∷ waited) ≡ min (c - w) (room_of i p links capacities waited) =
    if_true (is_leaf_port i p head.from) (min (c - w) (room_of i p links capacities waited)) (room_of i p links capacities waited) here in
    ⊎_elim
    (λ none.
    let rest_is : room_of i p links capacities waited ≡ unread_room = none_room i p links capacities waited none in
    let most : c ≤ unread_room = few zero in
    inr (record { l = zero; link = head; at = refl; leaves = here; least = omega (arith, is, rest_is, most) }))
    (λ some. ⊎_elim
    (λ low. inr (record { l = suc some.l; link = some.link; at = some.at; leaves = some.leaves; least = omega (arith, is, some.least, low) }))
    (λ high. inr (record { l = zero; link = head; at = refl; leaves = here; least = omega (arith, is, high) }))
    (cases_lt (room_of i p links capacities waited) (c - w)))
    rest)
    (λ not_here.
    let is : room_of i p (head ∷ links) (c ∷ capacities) (w ∷ waited) ≡ room_of i p links capacities waited =
    if_false (is_leaf_port i p head.from) (min (c - w) (room_of i p links capacities waited)) (room_of i p links capacities waited) not_here in
    ⊎_elim
    (λ none. inl (none_more none not_here))
    (λ some. inr (record { l = suc some.l; link = some.link; at = some.at; leaves = some.leaves; least = omega (arith, is, some.least) }))
    rest)
  where
    none_more : NoneLeaves links i p → is_leaf_port i p head.from ≡ false → NoneLeaves (head ∷ links) i p
    none_more none not_here zero link at = ap (λ k. is_leaf_port i p k.from) (sym (some_is head link at)) ∙ not_here
    none_more none not_here (suc l) link at = none l link at

-- The rooms of a cell.

module _ {X : Type 0} (cells : List (Cell X)) (links : List Link) (capacities waited : List ℕ) (working : IsWorking cells links capacities waited)
    (i : ℕ) (cell : Cell X) (at : slice_get cells i ≡ Some cell) (row : List ℕ) (is_row : IsRow links capacities waited i cell.actor.outs row) where
  -- a port that nobody reads
  pub none_leaves : (p : ℕ) → p < cell.actor.outs → number_on cell.outbox_capacities p ≡ 0 → NoneLeaves links i p
  none_leaves p low unread l link there = by_bool (is_leaf_port i p link.from)
      (λ leaves. let some : 0 < number_on cell.outbox_capacities p = (working.read i cell at p low).1 (l, link, there, leaves) in absurd (omega (arith, some, unread)))
      (λ none. none)

  pub holds_out : (l p : ℕ) (link : Link) → slice_get links l ≡ Some link → is_leaf_port i p link.from ≡ true
      → slice_index_or capacities l 0 ≤ number_on cell.outbox_capacities p
  holds_out l p link there leaves =
      let holds : OnCell (slice_get cells i) (λ c. slice_index_or capacities l 0 ≤ number_on c.outbox_capacities p) =
      subst (OutboxHolds cells (slice_index_or capacities l 0)) (is_that_port i p link.from leaves) (working.fits l link there).outbox in
      subst (λ o. OnCell o (λ c. slice_index_or capacities l 0 ≤ number_on c.outbox_capacities p)) at holds

  pub are_rooms : length row ≡ cell.actor.outs → AreRooms cell row
  are_rooms count = record {
    count = count;
    read = λ p low some.
        let left = (working.read i cell at p low).0 some in
        omega (arith, is_row p low, room_least i p links capacities waited left.0 left.1 working.each_holds working.each_waited left.2 left.3, holds_out left.0 p left.1 left.2 left.3);
    unread = λ p low none. is_row p low ∙ none_room i p links capacities waited (none_leaves p low none);
  }

  module _ (net : Network X) (s : State X) (opened : State X) (is : IsNetOf net cells links) (stands : Stands net cells capacities s)
      (since : IsOpened net.links waited opened.flows s.flows) where
    -- what a link holds since the last delivery
    held_now : (l p : ℕ) (link : Link) (before flow : Flow) → slice_get net.links l ≡ Some link → slice_get opened.flows l ≡ Some before
        → slice_get s.flows l ≡ Some flow → is_leaf_port i p link.from ≡ true
        → (held_since before flow ≡ slice_index_or waited l 0 + length (tokens_on cell.outboxes p)) × (flow.capacity ≡ slice_index_or capacities l 0)
    held_now l p link before flow here there that leaves =
        let from : link.from ≡ AtLeaf (record { 0 = i }) p = is_that_port i p link.from leaves in
        let so = since.each l link before flow here (ap is_outside from) there that in
        let held = stands.flows.each l link flow here that in
        let lies : drop flow.arrived flow.sent ≡ map (conv link.kind) (sent_of (slice_get cells i) p) =
        (let l : LiesIn cells link (drop flow.arrived flow.sent) (AtLeaf (record { 0 = i }) p) = subst (LiesIn cells link (drop flow.arrived flow.sent)) from held.lies in l) in
        let many : length flow.sent - flow.arrived ≡ length (tokens_on cell.outboxes p) =
        sym (length-drop flow.arrived flow.sent)
        ∙ (ap (λ ts. length ts) lies ∙ (length-map (sent_of (slice_get cells i) p) (conv link.kind) ∙ ap (λ o. length (sent_of o p)) at)) in
        (omega (arith, many, so.all_arrived, so.none_since, so.waited_is, held.arrived), held.capacity_is)

    record Parts (gives : ℕ → ℕ) (o : Option Link) (b f : Option Flow) : Type 0 where
      link : Link
      before : Flow
      flow : Flow
      at_link : o ≡ Some link
      at_before : b ≡ Some before
      at_flow : f ≡ Some flow
      port : ℕ
      leaves : is_leaf_port i port link.from ≡ true
      passes : flow.capacity < held_since before flow + gives port

    parts : (gives : ℕ → ℕ) (o : Option Link) (b f : Option Flow) → PassesOn gives i o b f → Parts gives o b f
    parts gives None b f h = absurd h
    parts gives (Some link) None f h = absurd h
    parts gives (Some link) (Some before) None h = absurd h
    parts gives (Some link) (Some before) (Some flow) h = by_end link.from refl h
      where
        by_end : (end : End) → link.from ≡ end → PassesRoom gives i before flow end → Parts gives (Some link) (Some before) (Some flow)
        by_end (AtNet port) from passes = absurd passes
        by_end (AtLeaf inst port) from passes = record {
          link = link;
          before = before;
          flow = flow;
          at_link = refl;
          at_before = refl;
          at_flow = refl;
          port = port;
          leaves = ap (is_leaf_port i port) (from ∙ ap (λ k. AtLeaf (record { 0 = k }) port) (sym passes.0)) ∙ is_own_port i port;
          passes = passes.1;
        }

    out_port : (l p : ℕ) (link : Link) → slice_get net.links l ≡ Some link → is_leaf_port i p link.from ≡ true → p < cell.actor.outs
    out_port l p link here leaves =
        let writer : IsWriter cells (AtLeaf (record { 0 = i }) p) =
        subst (IsWriter cells) (is_that_port i p link.from leaves) (working.fits l link (sym (ap (λ ls. slice_get ls l) is.links_are) ∙ here)).writer in
        let on = on_cell (slice_get cells i) (λ c. p < c.actor.outs) writer in
        subst (λ c. p < c.actor.outs) (some_is on.0 cell (sym on.1 ∙ at)) on.2

    -- an action with room passes no link's ..
    pub has_room_in : (a : ℕ) → HasRoom cell row a → HasRoomIn net opened s i a
    has_room_in a room l passes =
        let gives = give_of (slice_get net.leaves i) a in
        let that = parts gives (slice_get net.links l) (slice_get opened.flows l) (slice_get s.flows l) passes in
        let low = out_port l that.port that.link that.at_link that.leaves in
        let enough : held_after cell a that.port ≤ number_on row that.port = room that.port low in
        let at_here : slice_get links l ≡ Some that.link = sym (ap (λ ls. slice_get ls l) is.links_are) ∙ that.at_link in
        let least = room_least i that.port links capacities waited l that.link working.each_holds working.each_waited at_here that.leaves in
        let held = held_now l that.port that.link that.before that.flow that.at_link that.at_before that.at_flow that.leaves in
        let gives_is : gives that.port ≡ cell.actor.give a that.port = give_is net i a that.port cell.actor (leaf_of net cells links is i cell at) in
        let from : that.link.from ≡ AtLeaf (record { 0 = i }) that.port = is_that_port i that.port that.link.from that.leaves in
        let fits = (working.fits l that.link at_here).since (ap is_outside from) in
        omega (arith, enough, is_row that.port low, least, held.0, held.1, gives_is, fits, that.passes)

    -- .. and one that lacks room passes that of a link
    pub passes_room : (a p : ℕ) → ((q : ℕ) → q < cell.actor.outs → number_on cell.outbox_capacities q ≡ 0 → tokens_on cell.outboxes q ≡ [])
        → LacksRoomOn cell row a p → (l : ℕ) × PassesLink net opened s i a l
    passes_room a p unread lacks = ⊎_elim
        (λ none.
        let room_is : number_on row p ≡ unread_room = is_row p lacks.there ∙ none_room i p links capacities waited none in
        let nobody : number_on cell.outbox_capacities p ≡ 0 = ⊎_elim
        (λ some. let left = (working.read i cell at p lacks.there).0 some in
        let no : true ≡ false = sym left.3 ∙ none left.0 left.1 left.2 in cc)
        (λ zero_. omega (arith, zero_))
        (cases_lt 0 (number_on cell.outbox_capacities p)) in
        let empty : length (tokens_on cell.outboxes p) ≡ 0 = ap (λ ts. length ts) (unread p lacks.there nobody) in
        let most : cell.actor.give a p ≤ max_rate = working.few_given i cell at a p in
        absurd (omega (arith, room_is, empty, most, lacks.lacks)))
        (λ some.
        let at_net : slice_get net.links some.l ≡ Some some.link = ap (λ ls. slice_get ls some.l) is.links_are ∙ some.at in
        let before = there_too net.links opened.flows some.l some.link (sym since.whole) at_net in
        let flow = there_too net.links s.flows some.l some.link (sym stands.flows.count) at_net in
        let held = held_now some.l p some.link before.0 flow.0 at_net before.1 flow.1 some.leaves in
        let gives_is : give_of (slice_get net.leaves i) a p ≡ cell.actor.give a p = give_is net i a p cell.actor (leaf_of net cells links is i cell at) in
        let passes : PassesRoom (give_of (slice_get net.leaves i) a) i before.0 flow.0 (AtLeaf (record { 0 = i }) p) = (
          refl,
          (let more : flow.0.capacity < held_since before.0 flow.0 + give_of (slice_get net.leaves i) a p =
              omega (arith, held.0, held.1, gives_is, some.least, is_row p lacks.there, lacks.lacks) in more),
        ) in (
          some.l,
          subst (λ o. PassesOn (give_of (slice_get net.leaves i) a) i o (slice_get opened.flows some.l) (slice_get s.flows some.l)) (sym at_net)
              (subst (λ o. PassesOn (give_of (slice_get net.leaves i) a) i (Some some.link) o (slice_get s.flows some.l)) (sym before.1)
              (subst (λ o. PassesOn (give_of (slice_get net.leaves i) a) i (Some some.link) (Some before.0) o) (sym flow.1)
              (subst (PassesRoom (give_of (slice_get net.leaves i) a) i before.0 flow.0) (sym (is_that_port i p some.link.from some.leaves)) passes))),
        ))
        (room_reached i p links capacities waited working.each_holds working.each_waited working.few_held)
