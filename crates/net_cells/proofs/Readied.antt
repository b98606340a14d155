-- Cells that were made for the links of a network of lowered actors are ready to be run in it.
use Rattle.std.proofs.Common.{◌≡◌, ℕ, zero, suc, ◌<◌, ◌≤◌, true, false, List, [], ◌∷◌, ◌++◌, length, map, max, refl, sym, ap, subst, ◌∙◌, arith}
use Rattle.std.specs.Prelude.{◌↔◌, ◌==◌, ◌&&◌, Option, None, Some, option_map, slice_get}
use Rattle.std.proofs.lemmas.Bool.{and_from, eq-eqb}
use Rattle.std.proofs.lemmas.List.FromFn.{get_or-map-range_with_len}
use Rattle.std.proofs.lemmas.Option.{slice_get-map, slice_get_within}
use Rattle.std.proofs.lemmas.Simd.{map-map}
use Rattle.std.specs.List.{range_with_len}
use Rattle.lowered_actor.specs.Actor.{Actor}
use Rattle.lowered_actor.specs.Meaning.{ActorState, behaviour}
use Rattle.net_model.specs.declared.wiring.End.{End}
use Rattle.net_model.specs.declared.wiring.End.TheVariants.{Leaf as AtLeaf, Net as AtNet}
use Rattle.net_model.specs.declared.wiring.Link.{Link}
use Rattle.net_model.specs.declared.wiring.Wiring.{Wiring}
use Rattle.net_model.specs.Network.{Leaf, Network, is_leaf_port}
use Rattle.net_model.specs.State.{fed_by, first_flow, start_of}
use Rattle.net_model.specs.Cell.{Cell, number_on}
use Rattle.net_model.specs.Limits.{max_grow}
use Rattle.net_model.specs.Wired.{ComesFromPort, HasInput, HasOutput, LeadsToPort}
use Rattle.net_model.specs.Ready.{HasQueues, InboxHolds, IsFreshCell, IsLeft, IsNetworkOf, IsReady, OnCell, OutboxHolds, given_flow, given_state, tokens_of, waiting_at}
use Rattle.net_state.specs.Beginning.{NoneUnlinked}
use Rattle.net_state.proofs.Gaining.{some_is}
use Rattle.actor_cell.specs.Core.{IsAtStart}
use Rattle.net_cells.specs.Cells.{AreCellsOf}
use Rattle.net_cells.specs.Rooms.{asked_at, in_rooms, out_rooms, queue_of}
use Rattle.net_cells.specs.Runnable.{IsCodedNetwork, IsWiringOf}
use Rattle.net_cells.proofs.Asked.{by_link, capacity_asked, for_link, grow_asked, one_asked}

pub there_is : {A : Type 0} (xs : List A) (k : ℕ) → k < length xs → (x : A) × (slice_get xs k ≡ Some x)
there_is [] k low = absurd (omega (arith, low))
there_is (x ∷ xs) zero low = (x, refl)
there_is (x ∷ xs) (suc k) low = there_is xs k (omega (arith, low))

-- a place in a list of what was made of another list
pub of_map : {A B : Type 0} (f : A → B) (xs : List A) (k : ℕ) (y : B) → slice_get (map f xs) k ≡ Some y → (x : A) × (slice_get xs k ≡ Some x) × (f x ≡ y)
of_map f [] k y at = cc
of_map f (x ∷ xs) zero y at = (x, refl, some_is (f x) y at)
of_map f (x ∷ xs) (suc k) y at = of_map f xs k y at

pub at_map : {A B : Type 0} (f : A → B) (xs : List A) (k : ℕ) (x : A) → slice_get xs k ≡ Some x → slice_get (map f xs) k ≡ Some (f x)
at_map f xs k x at = slice_get-map f xs k ∙ ap (option_map f) at

-- two functions that give the same at each place
pub same_map : {A B : Type 0} (f g : A → B) (xs : List A) → ((k : ℕ) (x : A) → slice_get xs k ≡ Some x → f x ≡ g x) → map f xs ≡ map g xs
same_map f g [] same = refl
same_map f g (x ∷ xs) same = ap (λ y. y ∷ map f xs) (same 0 x refl) ∙ ap (λ ys. g x ∷ ys) (same_map f g xs (λ k. same (suc k)))

-- .. over two lists
pub both_maps : {A B C : Type 0} (f : A → C) (g : B → C) (xs : List A) (ys : List B) → length xs ≡ length ys
    → ((k : ℕ) (x : A) (y : B) → slice_get xs k ≡ Some x → slice_get ys k ≡ Some y → f x ≡ g y) → map f xs ≡ map g ys
both_maps f g [] [] long same = refl
both_maps f g [] (y ∷ ys) long same = absurd (omega (arith, long))
both_maps f g (x ∷ xs) [] long same = absurd (omega (arith, long))
both_maps f g (x ∷ xs) (y ∷ ys) long same =
    ap (λ z. z ∷ map f xs) (same 0 x y refl refl) ∙ ap (λ zs. g y ∷ zs) (both_maps f g xs ys (omega (arith, long)) (λ k. same (suc k)))

same_port : (i p : ℕ) → ((i == i) && (p == p)) ≡ true
same_port i p = and_from (i == i) (p == p) (eq-eqb i i refl) (eq-eqb p p refl)

on_cell : (o : Option (Cell ActorState)) (P : Cell ActorState → Type 0) (cell : Cell ActorState) → o ≡ Some cell → P cell → OnCell o P
on_cell o P cell at is = subst (λ x. OnCell x P) (sym at) is

at_port : (f : ℕ → ℕ) (n p : ℕ) → p < n → number_on (map f (range_with_len 0 n)) p ≡ f p
at_port f n p low = get_or-map-range_with_len f 0 n p p 0 low (omega arith)

module _ (codes : List Actor) (net : Network ActorState) (burst grow : ℕ) (cells : List (Cell ActorState)) (coded : IsCodedNetwork codes net) (made : AreCellsOf codes net.links burst grow cells) where
  abbrev IsCellAt : ℕ → Actor → Cell ActorState → Type 0
  IsCellAt i code cell = IsAtStart code (in_rooms code net.links grow i) (out_rooms code net.links grow i) burst cell

  cell_for : (i : ℕ) (code : Actor) → slice_get codes i ≡ Some code → (cell : Cell ActorState) × (slice_get cells i ≡ Some cell) × IsCellAt i code cell
  cell_for i code at =
      let low : i < length codes = slice_get_within codes i code at in
      let found = there_is cells i (subst (λ n. i < n) (sym made.one_each) low) in
      (found.0, found.1, made.starts i code found.0 at found.1)

  code_for : (i : ℕ) (cell : Cell ActorState) → slice_get cells i ≡ Some cell → (code : Actor) × (slice_get codes i ≡ Some code) × IsCellAt i code cell
  code_for i cell at =
      let low : i < length cells = slice_get_within cells i cell at in
      let found = there_is codes i (subst (λ n. i < n) made.one_each low) in
      (found.0, found.1, made.starts i found.0 cell found.1 at)

  -- a leaf is a lowered actor
  code_of : (i : ℕ) (leaf : Leaf ActorState) → slice_get net.leaves i ≡ Some leaf → (code : Actor) × (slice_get codes i ≡ Some code) × (behaviour code ≡ leaf.behaviour)
  code_of i leaf at =
      of_map behaviour codes i leaf.behaviour
      (subst (λ bs. slice_get bs i ≡ Some leaf.behaviour) coded.behaviours (at_map (λ x. x.behaviour) net.leaves i leaf at))

  out_room : (i : ℕ) (code : Actor) (cell : Cell ActorState) → IsCellAt i code cell → (p : ℕ) → p < code.outs → number_on cell.outbox_capacities p ≡ asked_at false grow i p net.links
  out_room i code cell is p low = is.outbox_capacities p low ∙ at_port (λ q. asked_at false grow i q net.links) code.outs p low

  in_room : (i : ℕ) (code : Actor) (cell : Cell ActorState) → IsCellAt i code cell → (p : ℕ) → p < code.ins → number_on cell.inbox_capacities p ≡ max 1 (asked_at true grow i p net.links)
  in_room i code cell is p low = is.inbox_capacities p low ∙ at_port (λ q. max 1 (asked_at true grow i q net.links)) code.ins p low

  -- an output of a leaf is one of its lowered actor, and so is an input
  output_of : (o : Option (Leaf ActorState)) (i p : ℕ) → slice_get net.leaves i ≡ o → HasOutput p o → (code : Actor) × (slice_get codes i ≡ Some code) × (p < code.outs)
  output_of None i p at h = absurd h
  output_of (Some leaf) i p at h =
      let code = code_of i leaf at in (code.0, code.1, subst (λ b. p < b.outs) (sym code.2) h)

  input_of : (o : Option (Leaf ActorState)) (i p : ℕ) → slice_get net.leaves i ≡ o → HasInput p o → (code : Actor) × (slice_get codes i ≡ Some code) × (p < code.ins)
  input_of None i p at h = absurd h
  input_of (Some leaf) i p at h =
      let code = code_of i leaf at in (code.0, code.1, subst (λ b. p < b.ins) (sym code.2) h)

  module _ (l : ℕ) (link : Link) (here : slice_get net.links l ≡ Some link) where
    outbox : (n : ℕ) → n ≤ queue_of grow link → (end : End) → link.from ≡ end → ComesFromPort net end → OutboxHolds cells n end
    outbox n few (AtNet port) from h = tt
    outbox n few (AtLeaf inst port) from h =
        let code = output_of (slice_get net.leaves inst.0) inst.0 port refl h in
        let cell = cell_for inst.0 code.0 code.1 in
        let same : is_leaf_port inst.0 port link.from ≡ true = subst (λ e. is_leaf_port inst.0 port e ≡ true) (sym from) (same_port inst.0 port) in
        let room : queue_of grow link ≤ asked_at false grow inst.0 port net.links = for_link false grow inst.0 port net.links l link here same in
        let capacity : number_on cell.0.outbox_capacities port ≡ asked_at false grow inst.0 port net.links = out_room inst.0 code.0 cell.0 cell.2 port code.2 in
        on_cell (slice_get cells inst.0) (λ c. n ≤ number_on c.outbox_capacities port) cell.0 cell.1 (omega (arith, few, room, capacity))

    inbox : (n : ℕ) → n ≤ queue_of grow link → (end : End) → link.to ≡ end → LeadsToPort net end → InboxHolds cells n end
    inbox n few (AtNet port) to h = tt
    inbox n few (AtLeaf inst port) to h =
        let code = input_of (slice_get net.leaves inst.0) inst.0 port refl h in
        let cell = cell_for inst.0 code.0 code.1 in
        let same : is_leaf_port inst.0 port link.to ≡ true = subst (λ e. is_leaf_port inst.0 port e ≡ true) (sym to) (same_port inst.0 port) in
        let room : queue_of grow link ≤ asked_at true grow inst.0 port net.links = for_link true grow inst.0 port net.links l link here same in
        let capacity : number_on cell.0.inbox_capacities port ≡ max 1 (asked_at true grow inst.0 port net.links) = in_room inst.0 code.0 cell.0 cell.2 port code.2 in
        on_cell (slice_get cells inst.0) (λ c. n ≤ number_on c.inbox_capacities port) cell.0 cell.1 (omega (arith, few, room, capacity))

    waits_at : (end : End) → LeadsToPort net end → waiting_at cells end ≡ []
    waits_at (AtNet port) h = refl
    waits_at (AtLeaf inst port) h =
        let code = input_of (slice_get net.leaves inst.0) inst.0 port refl h in
        let cell = cell_for inst.0 code.0 code.1 in
        ap (λ o. tokens_of o port) cell.1 ∙ cell.2.nothing_in port code.2

    none_waits : waiting_at cells link.to ≡ []
    none_waits = waits_at link.to (coded.wired.joined l link here).to_port

    has_queues : HasQueues cells grow link
    has_queues =
        let joined = coded.wired.joined l link here in
        record {
          outbox = outbox link.capacity (capacity_asked grow link) link.from refl joined.from_port;
          inbox = inbox link.capacity (capacity_asked grow link) link.to refl joined.to_port;
          grown_outbox = λ not_in not_out. outbox grow (grow_asked grow link not_in not_out) link.from refl joined.from_port;
          grown_inbox = λ not_in not_out. inbox grow (grow_asked grow link not_in not_out) link.to refl joined.to_port;
          waiting = subst (λ ts. length ts ≤ link.capacity) (sym none_waits) (omega arith);
        }

    -- what waits and what comes from a file, at first
    same_flow : (inputs : List (List ℕ)) → given_flow net cells inputs link ≡ first_flow net.ins inputs link
    same_flow inputs = ap (λ tokens. record {
      sent = tokens ++ fed_by net.ins inputs link link.from;
      arrived = length tokens;
      taken = 0;
      capacity = link.capacity;
    }) none_waits

  fresh : (i : ℕ) (cell : Cell ActorState) → slice_get cells i ≡ Some cell → IsFreshCell burst cell
  fresh i cell at =
      let start = (code_for i cell at).2 in
      record {
        untrapped = start.untrapped;
        nothing_out = ((λ p low. start.nothing_out p (subst (λ b. p < b.outs) start.is_of low)), start.journal);
        journal = subst (λ n. burst ≤ n) (sym start.journal_room) (omega arith);
      }

  read : (i : ℕ) (cell : Cell ActorState) → slice_get cells i ≡ Some cell → (p : ℕ) → p < cell.actor.outs → (0 < number_on cell.outbox_capacities p) ↔ IsLeft net i p
  read i cell at p low =
      let found = code_for i cell at in
      let capacity : number_on cell.outbox_capacities p ≡ asked_at false grow i p net.links = out_room i found.0 cell found.2 p (subst (λ b. p < b.outs) found.2.is_of low) in (
        (λ some. by_link false grow i p net.links (subst (λ n. 0 < n) capacity some)),
        (λ left.
            let room : queue_of grow left.1 ≤ asked_at false grow i p net.links = for_link false grow i p net.links left.0 left.1 left.2 left.3 in
            let one : 1 ≤ queue_of grow left.1 = one_asked grow left.1 in
            omega (arith, capacity, room, one)),
      )

  pub is_ready : grow ≤ max_grow → IsReady net grow burst cells
  is_ready few = record {
    wired = coded.wired;
    few_grown = few;
    fresh = fresh;
    queues = has_queues;
    read = read;
  }

  pub is_of : (wiring : Wiring) → IsWiringOf net wiring → IsNetworkOf net cells wiring
  is_of wiring wired = record {
    actors = coded.behaviours ∙ sym (both_maps (λ cell. cell.actor) behaviour cells codes made.one_each (λ k cell code at there. (made.starts k code cell there at).is_of));
    links = wired.links;
    ins = wired.ins;
    outs = wired.outs;
    ins_told = wired.ins_told;
    outs_told = wired.outs_told;
  }

  pub unlinked : NoneUnlinked cells net.links
  unlinked i cell at p low none =
      let found = code_for i cell at in
      found.2.nothing_in p (subst (λ b. p < b.ins) found.2.is_of low)

  same_states : map (λ cell. cell.state) cells ≡ map (λ leaf. leaf.behaviour.start) net.leaves
  same_states =
      both_maps (λ cell. cell.state) (λ code. (behaviour code).start) cells codes made.one_each (λ k cell code at there. (made.starts k code cell there at).state)
      ∙ (sym (map-map (λ b. b.start) behaviour codes)
      ∙ (ap (map (λ b. b.start)) (sym coded.behaviours)
      ∙ map-map (λ b. b.start) (λ leaf. leaf.behaviour) net.leaves))

  -- a run from the cells begins at the start over files
  pub at_start : (inputs : List (List ℕ)) → given_state net cells inputs ≡ start_of net inputs
  at_start inputs =
      ap (λ states. record { actors = states; flows = map (given_flow net cells inputs) net.links; trapped = false }) same_states
      ∙ ap (λ flows. record { actors = map (λ leaf. leaf.behaviour.start) net.leaves; flows = flows; trapped = false })
      (same_map (given_flow net cells inputs) (first_flow net.ins inputs) net.links (λ l link at. same_flow l link at inputs))
