-- A burst of one cell: the state that it leads to, and what stays true of what is held.
use Rattle.std.proofs.Common.{◌≡◌, ◌≢◌, ℕ, zero, suc, ◌+◌, ◌-◌, ◌<◌, ◌≤◌, true, false, List, [], ◌∷◌, ◌++◌, ℤ, length, map, drop, refl, sym, ap, subst, ◌∙◌, ⊎_elim, inl, inr, arith, length-append, length-drop, append-nil, append_assoc}
use Rattle.std.specs.Prelude.{Option, None, Some, slice_get, slice_set, slice_index_or}
use Rattle.std.proofs.lemmas.Bool.{cases_eq, cases_lt}
use Rattle.std.proofs.lemmas.List.{length-set}
use Rattle.rvc_base.specs.Storing.{conv}
use Rattle.rvc_base.specs.Behaviour.{Picks}
use Rattle.rvc_base.specs.Lawful.{IsLawful, tokens_on}
use Rattle.net_model.specs.declared.firing.BurstEnd.{BurstEnd}
use Rattle.net_model.specs.declared.firing.BurstEnd.TheVariants as burst
use Rattle.net_model.specs.declared.firing.Look.{Look}
use Rattle.net_model.specs.declared.firing.Look.TheVariants as look
use Rattle.net_model.specs.declared.firing.Tried.{Tried}
use Rattle.net_model.specs.declared.firing.Tried.TheVariants as tried
use Rattle.net_model.specs.declared.wiring.End.{End}
use Rattle.net_model.specs.declared.wiring.End.TheVariants.{Leaf as AtLeaf, Net as AtNet}
use Rattle.net_model.specs.declared.wiring.Link.{Link}
use Rattle.net_model.specs.Network.{Network, is_outside, is_leaf_port}
use Rattle.net_model.specs.State.{State, choice_at, effect_at}
use Rattle.net_model.specs.Cell.{AreRooms, Cell, EndsBurst, FireInTurn, FiresTo, FitsQueues, HasNothingOut, HasRoom, IsEnabled, IsLeftByTrap, IsSame, IsSameActor, Looks, Tries, SameInboxes, SameOutboxes, held_after, number_on}
use Rattle.net_model.specs.Cell.{choice_of as cell_choice, effect_of as cell_effect}
use Rattle.net_model.specs.Ready.{OnCell, tokens_of, waiting_at}
use Rattle.net_model.specs.Ends.{all_fed}
use Rattle.net_model.specs.Wired.{IsWired}
use Rattle.net_model.specs.Trace.{OnNext}
use Rattle.net_model.specs.Paced.{Halt, HaltsAt, HasRoomIn, IsBurst}
use Rattle.net_model.proofs.Arriving.{set_twice}
use Rattle.net_state.specs.Moving.{IsWriter, SameActors, SameMarks, sent_from, sent_of}
use Rattle.net_state.specs.Held.{HasRooms, IsLeft, IsReader, IsWorking, held_of}
use Rattle.net_state.specs.TakingBack.{NoMoreWait, waits_at}
use Rattle.net_state.specs.Standing.{IsNetOf, IsOpened, LiesIn, Stands, StandsIn, StandsSince}
use Rattle.net_state.specs.Working.{AreFed, BurstsAt, DoesSome, EndsSeeHalt, GoesOn, HasAction, IsAtRest, LookedAt, LooksAt, LooksFed, LooksIn, NamesAction, NamesLacking, TriedAt, TriesAt, TriesIn, WorksAt, halt_of, journal_of, traps, tried_traps}
use Rattle.net_state.proofs.Gaining.{actor_then, some_is, there_too, get_set_same, get_set_other, same_actor}
use Rattle.net_state.proofs.Coming.{is_own_port, is_that_port, on_cell, on_some}
use Rattle.net_state.proofs.Kept.{moved_rooms, same_few, same_inbox, same_outbox, same_read, same_reader, same_writer}
use Rattle.net_state.proofs.Narrowing.{same_shape}
use Rattle.net_state.proofs.Firings.{actors_set, choice_is, effect_is, fired_net, fired_opened, fired_stands, fires_here, later}
use Rattle.net_state.proofs.Standstill.{choice_fed, effect_fed, lacks_link, none_lacks, settled}
use Rattle.net_state.proofs.Roomy.{IsRow, are_rooms, has_room_in, passes_room, room_least}

some_none : {A : Type 0} {x : A} → Some x ≡ None → ⊥
some_none h = cc

same_length : {A : Type 0} {xs ys : List A} → xs ≡ ys → length xs ≤ length ys
same_length {A} {xs} {ys} same = let is : length xs ≡ length ys = ap (λ ts. length ts) same in omega (arith, is)

-- One cell is set.

pub set_same : {A : Type 0} (xs : List A) (i : ℕ) (x : A) → slice_get xs i ≡ Some x → slice_set xs i x ≡ xs
set_same [] i x at = cc
set_same (y ∷ xs) zero x at = ap (λ z. z ∷ xs) (sym (some_is y x at))
set_same (y ∷ xs) (suc i) x at = ap (λ zs. y ∷ zs) (set_same xs i x at)

module _ {X : Type 0} (cells : List (Cell X)) (i : ℕ) (cell new : Cell X) (at : slice_get cells i ≡ Some cell) where
  pub at_set : slice_get (slice_set cells i new) i ≡ Some new
  at_set = get_set_same cells i cell new at

  -- each cell was there before: the same, or the one that was set
  pub set_cases : {P : Type 0} (k : ℕ) (before after : Cell X) → slice_get cells k ≡ Some before → slice_get (slice_set cells i new) k ≡ Some after
      → (k ≡ i → before ≡ cell → after ≡ new → P) → (k ≢ i → after ≡ before → P) → P
  set_cases k before after was is here there = ⊎_elim
      (λ same. here same (some_is before cell (sym was ∙ (ap (slice_get cells) same ∙ at))) (some_is after new (sym is ∙ (ap (slice_get (slice_set cells i new)) same ∙ at_set))))
      (λ differ. there differ (some_is after before (sym is ∙ (get_set_other cells k i new differ ∙ was))))
      (cases_eq k i)

  pub same_set : IsSameActor cell new → SameActors cells (slice_set cells i new)
  same_set same = record {
    count = length-set cells i new;
    each = λ k before after was is. set_cases k before after was is
        (λ here before_is after_is. subst (λ c. IsSameActor c after) (sym before_is) (subst (λ c. IsSameActor cell c) (sym after_is) same))
        (λ differ after_is. subst (λ c. IsSameActor before c) (sym after_is) (same_actor before));
  }

  -- what waits at a reading end, and what was sent at a writing end
  pub waits_set : (P : ℕ → ℕ → Type 0) → ((p : ℕ) → p < cell.actor.ins → P (length (tokens_on new.inboxes p)) (length (tokens_on cell.inboxes p))) → ((n : ℕ) → P n n)
      → (end : End) → IsReader cells end → P (length (waiting_at (slice_set cells i new) end)) (length (waiting_at cells end))
  waits_set P here same (AtNet port) reader = same 0
  waits_set P here same (AtLeaf inst port) reader = ⊎_elim
      (λ is.
      let on = on_cell (slice_get cells inst.0) (λ c. port < c.actor.ins) reader in
      let on_is : on.0 ≡ cell = some_is on.0 cell (sym on.1 ∙ (ap (slice_get cells) is ∙ at)) in
      subst (λ o. P (length (tokens_of o port)) (length (tokens_of (slice_get cells inst.0) port))) (sym (ap (slice_get (slice_set cells i new)) is ∙ at_set))
      (subst (λ o. P (length (tokens_on new.inboxes port)) (length (tokens_of o port))) (sym (ap (slice_get cells) is ∙ at))
      (here port (subst (λ c. port < c.actor.ins) on_is on.2))))
      (λ differ.
      subst (λ o. P (length (tokens_of o port)) (length (tokens_of (slice_get cells inst.0) port))) (sym (get_set_other cells inst.0 i new differ)) (same (length (tokens_of (slice_get cells inst.0) port))))
      (cases_eq inst.0 i)

  -- a link and its queues stay fit
  module _ (links : List Link) (capacities waited : List ℕ) (working : IsWorking cells links capacities waited) (same : IsSameActor cell new)
      (fewer_wait : (p : ℕ) → p < cell.actor.ins → length (tokens_on new.inboxes p) ≤ length (tokens_on cell.inboxes p))
      (sends : (l p : ℕ) (link : Link) → slice_get links l ≡ Some link → is_leaf_port i p link.from ≡ true → p < cell.actor.outs
      → slice_index_or waited l 0 + length (tokens_on new.outboxes p) ≤ slice_index_or capacities l 0) where
    sends_still : (l : ℕ) (link : Link) → slice_get links l ≡ Some link → is_outside link.from ≡ false → (end : End) → link.from ≡ end
        → slice_index_or waited l 0 + length (sent_from (slice_set cells i new) end) ≤ slice_index_or capacities l 0
    sends_still l link there inner (AtNet port) from = absurd (let no : true ≡ false = sym (ap is_outside from) ∙ inner in let none : ⊥ = cc in none)
    sends_still l link there inner (AtLeaf inst port) from = ⊎_elim
        (λ is.
        let from_here : link.from ≡ AtLeaf (record { 0 = i }) port = from ∙ ap (λ k. AtLeaf (record { 0 = k }) port) is in
        let on = on_cell (slice_get cells i) (λ c. port < c.actor.outs) (subst (IsWriter cells) from_here (working.fits l link there).writer) in
        let low : port < cell.actor.outs = subst (λ c. port < c.actor.outs) (some_is on.0 cell (sym on.1 ∙ at)) on.2 in
        subst (λ o. slice_index_or waited l 0 + length (sent_of o port) ≤ slice_index_or capacities l 0) (sym (ap (slice_get (slice_set cells i new)) is ∙ at_set))
        (sends l port link there (ap (is_leaf_port i port) from_here ∙ is_own_port i port) low))
        (λ differ.
        subst (λ o. slice_index_or waited l 0 + length (sent_of o port) ≤ slice_index_or capacities l 0) (sym (get_set_other cells inst.0 i new differ))
        (subst (λ e. slice_index_or waited l 0 + length (sent_from cells e) ≤ slice_index_or capacities l 0) from ((working.fits l link there).since inner)))
        (cases_eq inst.0 i)

    pub set_working : IsWorking (slice_set cells i new) links capacities waited
    set_working = record {
      each_holds = working.each_holds;
      each_waited = working.each_waited;
      apart = working.apart;
      fits = λ l link there.
          let fits = working.fits l link there in
          let fewer : length (waiting_at (slice_set cells i new) link.to) ≤ length (waiting_at cells link.to) =
          waits_set (λ m n. m ≤ n) fewer_wait (λ n. omega arith) link.to fits.reader in
          record {
            size = fits.size;
            writer = same_writer cells (slice_set cells i new) (same_set same) link.from fits.writer;
            reader = same_reader cells (slice_set cells i new) (same_set same) link.to fits.reader;
            inside = fits.inside;
            outbox = same_outbox cells (slice_set cells i new) (same_set same) link.from (slice_index_or capacities l 0) fits.writer fits.outbox;
            inbox = same_inbox cells (slice_set cells i new) (same_set same) link.to (slice_index_or capacities l 0) fits.reader fits.inbox;
            waiting = omega (arith, fewer, fits.waiting);
            counted = fits.counted;
            grown = fits.grown;
            fewer = λ inner. omega (arith, fewer, fits.fewer inner);
            since = λ inner. sends_still l link there inner link.from refl;
          };
      read = same_read cells (slice_set cells i new) (same_set same) links working.read;
      few_given = same_few cells (slice_set cells i new) (same_set same) working.few_given;
      few_held = working.few_held;
      few_cells = omega (arith, (same_set same).count, working.few_cells);
      few_links = working.few_links;
    }

  -- if its tokens are the same, all that is held stays so
  pub calm_working : (links : List Link) (capacities waited : List ℕ) → IsWorking cells links capacities waited → IsSameActor cell new → SameInboxes cell new → SameOutboxes cell new
      → IsWorking (slice_set cells i new) links capacities waited
  calm_working links capacities waited working same inboxes outboxes =
      set_working links capacities waited working same
      (λ p low. let as_many : length (tokens_on new.inboxes p) ≡ length (tokens_on cell.inboxes p) = ap (λ ts. length ts) (inboxes p low) in omega (arith, as_many))
      (λ l p link there leaves low.
      let as_many : length (tokens_on new.outboxes p) ≡ length (tokens_on cell.outboxes p) = ap (λ ts. length ts) (outboxes p low) in
      let from : link.from ≡ AtLeaf (record { 0 = i }) p = is_that_port i p link.from leaves in
      let before : slice_index_or waited l 0 + length (sent_of (slice_get cells i) p) ≤ slice_index_or capacities l 0 =
      subst (λ e. slice_index_or waited l 0 + length (sent_from cells e) ≤ slice_index_or capacities l 0) from ((working.fits l link there).since (ap is_outside from)) in
      let sent : length (sent_of (slice_get cells i) p) ≡ length (tokens_on cell.outboxes p) = ap (λ o. length (sent_of o p)) at in
      omega (arith, as_many, before, sent))

  -- and the same states stand
  pub calm_stands : (net : Network X) (links : List Link) (capacities : List ℕ) (s : State X) → IsSameActor cell new → SameInboxes cell new → SameOutboxes cell new
      → (new.trapped ≡ false → (cell.trapped ≡ false) × (new.state ≡ cell.state)) → ((l : ℕ) (link : Link) → slice_get net.links l ≡ Some link → IsWriter cells link.from)
      → Stands net cells capacities s → Stands net (slice_set cells i new) capacities s
  calm_stands net links capacities s same inboxes outboxes states writers stands = record {
    actors = record {
      count = stands.actors.count ∙ sym (length-set cells i new);
      each = λ k after there free.
          let before = there_too (slice_set cells i new) cells k after (length-set cells i new) there in
          set_cases k before.0 after before.1 there
          (λ here before_is after_is.
          let kept = states (sym (ap (λ c. c.trapped) after_is) ∙ free) in
          stands.actors.each k before.0 before.1 (ap (λ c. c.trapped) before_is ∙ kept.0)
          ∙ ap Some (ap (λ c. c.state) before_is ∙ (sym kept.1 ∙ sym (ap (λ c. c.state) after_is))))
          (λ differ after_is. stands.actors.each k before.0 before.1 (sym (ap (λ c. c.trapped) after_is) ∙ free) ∙ ap Some (sym (ap (λ c. c.state) after_is)));
    };
    inboxes = λ k after there p low.
        let before = there_too (slice_set cells i new) cells k after (length-set cells i new) there in
        set_cases k before.0 after before.1 there
        (λ here before_is after_is.
        let low_before : p < before.0.actor.ins = subst (λ actor. p < actor.ins) (ap (λ c. c.actor) after_is ∙ (same.same_actor ∙ sym (ap (λ c. c.actor) before_is))) low in
        let low_here : p < cell.actor.ins = subst (λ c. p < c.actor.ins) before_is low_before in
        ap (λ c. tokens_on c.inboxes p) after_is ∙ (inboxes p low_here ∙ (sym (ap (λ c. tokens_on c.inboxes p) before_is) ∙ stands.inboxes k before.0 before.1 p low_before)))
        (λ differ after_is.
        ap (λ c. tokens_on c.inboxes p) after_is ∙ stands.inboxes k before.0 before.1 p (subst (λ c. p < c.actor.ins) after_is low));
    flows = record {
      count = stands.flows.count;
      each = λ l link flow here there.
          let held = stands.flows.each l link flow here there in
          record {
            lies = lies_still link (drop flow.arrived flow.sent) link.from (writers l link here) held.lies;
            capacity_is = held.capacity_is;
            arrived = held.arrived;
            taken = held.taken;
            gone = held.gone;
          };
    };
    untrapped = stands.untrapped;
  }
    where
      lies_still : (link : Link) (ts : List ℤ) (end : End) → IsWriter cells end → LiesIn cells link ts end → LiesIn (slice_set cells i new) link ts end
      lies_still link ts (AtNet port) writer lies = tt
      lies_still link ts (AtLeaf inst port) writer lies = ⊎_elim
          (λ is.
          let on = on_cell (slice_get cells inst.0) (λ c. port < c.actor.outs) writer in
          let low : port < cell.actor.outs = subst (λ c. port < c.actor.outs) (some_is on.0 cell (sym on.1 ∙ (ap (slice_get cells) is ∙ at))) on.2 in
          lies ∙ ap (map (conv link.kind))
          (ap (λ o. sent_of o port) (ap (slice_get cells) is ∙ at)
          ∙ (sym (outboxes port low) ∙ sym (ap (λ o. sent_of o port) (ap (slice_get (slice_set cells i new)) is ∙ at_set)))))
          (λ differ. lies ∙ ap (λ o. map (conv link.kind) (sent_of o port)) (sym (get_set_other cells inst.0 i new differ)))
          (cases_eq inst.0 i)

-- One firing.

module _ {X : Type 0} (cells : List (Cell X)) (links : List Link) (capacities waited : List ℕ) (working : IsWorking cells links capacities waited) (i a : ℕ)
    (cell new : Cell X) (at : slice_get cells i ≡ Some cell) (lawful : IsLawful cell.actor) (row : List ℕ) (is_row : IsRow links capacities waited i cell.actor.outs row)
    (fired : FiresTo cell a new) (has_room : HasRoom cell row a) where
  -- all that is held stays so
  pub fired_working : IsWorking (slice_set cells i new) links capacities waited
  fired_working =
      set_working cells i cell new at links capacities waited working fired.actor
      (λ p low.
      let few : length (tokens_on new.inboxes p) ≡ length (tokens_on cell.inboxes p) - cell.actor.need a p =
      ap (λ ts. length ts) (fired.taken p low) ∙ length-drop (cell.actor.need a p) (tokens_on cell.inboxes p) in
      omega (arith, few))
      (λ l p link there leaves low.
      let left : IsLeft links i p = (l, link, there, leaves) in
      let sent : length (tokens_on new.outboxes p) ≡ length (tokens_on cell.outboxes p) + length (tokens_on fired.sent p) =
      ap (λ ts. length ts) (fired.read p low ((working.read i cell at p low).1 left)) ∙ length-append (tokens_on cell.outboxes p) (tokens_on fired.sent p) in
      let gives : length (tokens_on fired.sent p) ≡ cell.actor.give a p = lawful.gives cell.state fired.next cell.inboxes fired.sent a fired.effect p low in
      let room : held_after cell a p ≤ number_on row p = has_room p low in
      let least = room_least i p links capacities waited l link working.each_holds working.each_waited there leaves in
      let from : link.from ≡ AtLeaf (record { 0 = i }) p = is_that_port i p link.from leaves in
      let before = (working.fits l link there).since (ap is_outside from) in
      omega (arith, sent, gives, room, is_row p low, least, before))

-- Several firings.

-- an outbox that nobody reads is empty
abbrev pub UnreadEmpty : {X : Type 0} → Cell X → Type 0
UnreadEmpty cell = (p : ℕ) → p < cell.actor.outs → number_on cell.outbox_capacities p ≡ 0 → tokens_on cell.outboxes p ≡ []

pub unread_of : {X : Type 0} (cell : Cell X) → FitsQueues cell → UnreadEmpty cell
unread_of cell fits p low none =
    let few : length (tokens_on cell.outboxes p) ≤ number_on cell.outbox_capacities p = fits.outboxes p low in
    length_none (tokens_on cell.outboxes p) (omega (arith, few, none))
  where
    length_none : (ts : List ℤ) → length ts ≡ 0 → ts ≡ []
    length_none [] h = refl
    length_none (t ∷ ts) h = absurd (omega (arith, h))

unread_fired : {X : Type 0} (cell new : Cell X) (a : ℕ) → FiresTo cell a new → UnreadEmpty cell → UnreadEmpty new
unread_fired cell new a fires unread p low none =
    let low_before : p < cell.actor.outs = subst (λ actor. p < actor.outs) fires.actor.same_actor low in
    let none_before : number_on cell.outbox_capacities p ≡ 0 = sym (fires.actor.same_outbox_capacities p low_before) ∙ none in
    fires.unread p low_before none_before ∙ unread p low_before none_before

row_stays : (links : List Link) (capacities waited : List ℕ) (i outs now : ℕ) (row : List ℕ) → now ≡ outs → IsRow links capacities waited i outs row
    → IsRow links capacities waited i now row
row_stays links capacities waited i outs now row same is_row = subst (λ n. IsRow links capacities waited i n row) (sym same) is_row

-- what stays of a cell through its firings
pub record Ran {X : Type 0} (cells : List (Cell X)) (links : List Link) (capacities waited : List ℕ) (i : ℕ) (old last : Cell X) (actions : List ℕ) : Type 0 where
  pub working : IsWorking (slice_set cells i last) links capacities waited
  pub actor : IsSameActor old last
  pub trapped : last.trapped ≡ old.trapped
  pub noted : last.journal ≡ old.journal ++ actions
  pub unread : UnreadEmpty last

pub ran : {X : Type 0} (cells : List (Cell X)) (links : List Link) (capacities waited : List ℕ) → IsWorking cells links capacities waited → (i : ℕ) (old last : Cell X) (actions row : List ℕ)
    → slice_get cells i ≡ Some old → IsLawful old.actor → UnreadEmpty old → IsRow links capacities waited i old.actor.outs row → FireInTurn row old actions last
    → Ran cells links capacities waited i old last actions
ran cells links capacities waited working i old last [] row at lawful unread is_row same = record {
  working = subst (λ cs. IsWorking cs links capacities waited) (sym (ap (slice_set cells i) (sym same) ∙ set_same cells i old at)) working;
  actor = subst (IsSameActor old) same (same_actor old);
  trapped = ap (λ c. c.trapped) (sym same);
  noted = ap (λ c. c.journal) (sym same) ∙ sym (append-nil old.journal);
  unread = subst UnreadEmpty same unread;
}
ran cells links capacities waited working i old last (a ∷ actions) row at lawful unread is_row fired =
    let next = fired.0 in
    let actor = fired.1.fired.actor in
    let rest = ran (slice_set cells i next) links capacities waited (fired_working cells links capacities waited working i a old next at lawful row is_row fired.1.fired fired.1.room) i next last actions row
    (get_set_same cells i old next at) (subst IsLawful (sym actor.same_actor) lawful) (unread_fired old next a fired.1.fired unread)
    (row_stays links capacities waited i old.actor.outs next.actor.outs row (ap (λ b. b.outs) actor.same_actor) is_row) fired.2 in
    record {
      working = subst (λ cs. IsWorking cs links capacities waited) (set_twice cells i next last) rest.working;
      actor = actor_then old next last actor rest.actor;
      trapped = rest.trapped ∙ fired.1.fired.trapped;
      noted = rest.noted ∙ (ap (λ js. js ++ actions) fired.1.noted ∙ append_assoc old.journal (a ∷ []) actions);
      unread = rest.unread;
    }

-- and the state that they lead to
pub record Reached {X : Type 0} (net : Network X) (cells : List (Cell X)) (links : List Link) (capacities waited : List ℕ) (opened : State X) (i limit : ℕ) (s : State X) (actions : List ℕ) (last : Cell X) : Type 0 where
  pub state : State X
  pub is_of : IsNetOf net (slice_set cells i last) links
  pub stands : Stands net (slice_set cells i last) capacities state
  pub since : IsOpened net.links waited opened.flows state.flows
  pub plays : (halt : Halt) → HaltsAt net opened i (limit - length actions) state halt → IsBurst net opened i limit s actions halt state

pub reached : {X : Type 0} (net : Network X) (cells : List (Cell X)) (links : List Link) (capacities waited : List ℕ) (opened s : State X) → IsNetOf net cells links → Stands net cells capacities s
    → IsOpened net.links waited opened.flows s.flows → IsWorking cells links capacities waited → (i limit : ℕ) (old last : Cell X) (actions row : List ℕ) → slice_get cells i ≡ Some old
    → old.trapped ≡ false → IsLawful old.actor → IsRow links capacities waited i old.actor.outs row → FireInTurn row old actions last → length actions ≤ limit
    → Reached net cells links capacities waited opened i limit s actions last
reached net cells links capacities waited opened s is stands since working i limit old last [] row at free lawful is_row same few =
    let cells_are : slice_set cells i last ≡ cells = ap (slice_set cells i) (sym same) ∙ set_same cells i old at in
    record {
      state = s;
      is_of = subst (λ cs. IsNetOf net cs links) (sym cells_are) is;
      stands = subst (λ cs. Stands net cs capacities s) (sym cells_are) stands;
      since = since;
      plays = λ halt halts. (let left : limit - 0 ≡ limit = omega arith in subst (λ n. HaltsAt net opened i n s halt) left halts, refl);
    }
reached net cells links capacities waited opened s is stands since working i limit old last (a ∷ actions) row at free lawful is_row fired few =
    let next = fired.0 in
    let one = fired.1 in
    let actor = one.fired.actor in
    let rest = reached net (slice_set cells i next) links capacities waited opened (later net cells links capacities waited s is stands working i a old next at free lawful one.fired)
    (fired_net net cells links capacities waited s is stands working i a old next at free lawful one.fired)
    (fired_stands net cells links capacities waited s is stands working i a old next at free lawful one.fired)
    (fired_opened net cells links capacities waited s is stands working i a old next at free lawful one.fired opened.flows since)
    (fired_working cells links capacities waited working i a old next at lawful row is_row one.fired one.room) i (limit - 1) next last actions row
    (get_set_same cells i old next at) (one.fired.trapped ∙ free) (subst IsLawful (sym actor.same_actor) lawful)
    (row_stays links capacities waited i old.actor.outs next.actor.outs row (ap (λ b. b.outs) actor.same_actor) is_row) fired.2 (omega (arith, few)) in
    record {
      state = rest.state;
      is_of = subst (λ cs. IsNetOf net cs links) (set_twice cells i next last) rest.is_of;
      stands = subst (λ cs. Stands net cs capacities rest.state) (set_twice cells i next last) rest.stands;
      since = rest.since;
      plays = λ halt halts. (
        omega (arith, few),
        choice_is net cells links capacities s is stands i old at free lawful ∙ one.chosen,
        has_room_in cells links capacities waited working i old at row is_row net s opened is stands since a one.room,
        subst (λ o. OnNext o (λ u. IsBurst net opened i (limit - 1) u actions halt rest.state))
            (sym (fires_here net cells links capacities waited s is stands working i a old next at free lawful one.fired))
            (rest.plays halt (let left : limit - suc (length actions) ≡ limit - 1 - length actions = omega arith in subst (λ n. HaltsAt net opened i n rest.state halt) left halts)),
      );
    }

-- The whole of a burst.

-- the tokens and the journal stay when a burst ends, also by a trap
pub record Calm {X : Type 0} (last new : Cell X) : Type 0 where
  pub actor : IsSameActor last new
  pub inboxes : SameInboxes last new
  pub outboxes : SameOutboxes last new
  pub journal : new.journal ≡ last.journal
  pub states : new.trapped ≡ false → (last.trapped ≡ false) × (new.state ≡ last.state)

pub calm_same : {X : Type 0} (last new : Cell X) → IsSame last new → Calm last new
calm_same last new same = record {
  actor = same.actor;
  inboxes = same.inboxes;
  outboxes = same.outboxes;
  journal = same.journal;
  states = λ free. (sym same.trapped ∙ free, same.state);
}

pub calm_trap : {X : Type 0} (last new : Cell X) → IsLeftByTrap last new → Calm last new
calm_trap last new left = record {
  actor = left.actor;
  inboxes = left.inboxes;
  outboxes = left.outboxes;
  journal = left.journal;
  states = λ free. let no : true ≡ false = sym left.trapped ∙ free in cc;
}

pub calm_end : {X : Type 0} (rooms : List ℕ) (limit fired : ℕ) (last : Cell X) (end : BurstEnd) (new : Cell X) → EndsBurst rooms limit fired last end new → Calm last new
calm_end rooms limit fired last burst.Spent new ends = calm_same last new ends.1
calm_end rooms limit fired last burst.Waits new ends = calm_same last new ends.2
calm_end rooms limit fired last (burst.NoRoom action port) new ends = calm_same last new ends.3
calm_end rooms limit fired last (burst.Trap action cause) new ends = calm_trap last new ends.2

pub marked_end : {X : Type 0} (rooms : List ℕ) (limit fired : ℕ) (last : Cell X) (end : BurstEnd) (new : Cell X) → EndsBurst rooms limit fired last end new → last.trapped ≡ false
    → new.trapped ≡ traps end
marked_end rooms limit fired last burst.Spent new ends free = ends.1.trapped ∙ free
marked_end rooms limit fired last burst.Waits new ends free = ends.2.trapped ∙ free
marked_end rooms limit fired last (burst.NoRoom action port) new ends free = ends.3.trapped ∙ free
marked_end rooms limit fired last (burst.Trap action cause) new ends free = ends.2.trapped

-- a cell whose tokens and journal stay leaves the network at rest
pub calm_rests : {X : Type 0} (cells : List (Cell X)) (links : List Link) (capacities waited : List ℕ) → IsWorking cells links capacities waited → (i : ℕ) (cell new : Cell X)
    → slice_get cells i ≡ Some cell → Calm cell new → IsAtRest (held_of cells links capacities waited) → IsAtRest (held_of (slice_set cells i new) links capacities waited)
calm_rests cells links capacities waited working i cell new at calm rest = record {
  all_out = λ k after there.
      let before = there_too (slice_set cells i new) cells k after (length-set cells i new) there in
      let out = rest.all_out k before.0 before.1 in
      set_cases cells i cell new at k before.0 after before.1 there
      (λ here before_is after_is.
      let out_here = subst HasNothingOut before_is out in
      subst HasNothingOut (sym after_is) (
        (λ p low. let low_before : p < cell.actor.outs = subst (λ actor. p < actor.outs) calm.actor.same_actor low in calm.outboxes p low_before ∙ out_here.0 p low_before),
        calm.journal ∙ out_here.1,
      ))
      (λ differ after_is. subst HasNothingOut (sym after_is) out);
  counted = λ l link there inner.
      rest.counted l link there inner
      ∙ sym (waits_set cells i cell new at (λ m n. m ≡ n) (λ p low. ap (λ ts. length ts) (calm.inboxes p low)) (λ n. refl) link.to (working.fits l link there).reader);
}

-- an action that selection gives is one of the actor's
picked_low : {X : Type 0} (cell : Cell X) → IsLawful cell.actor → (a : ℕ) → cell_choice cell ≡ Picks a → a < cell.actor.actions
picked_low cell lawful a picks = ⊎_elim (λ low. low)
    (λ high.
    let none : cell_effect cell a ≡ None = lawful.no_effect_beyond cell.state cell.inboxes a (omega (arith, high)) in
    absurd (⊎_elim (λ fires. some_none (sym fires.2 ∙ none)) (λ body. some_none (sym body.1 ∙ none)) (lawful.picks cell.state cell.inboxes a picks)))
    (cases_lt a cell.actor.actions)

module _ {X : Type 0} (cells : List (Cell X)) (links : List Link) (capacities waited : List ℕ) (working : IsWorking cells links capacities waited) (table : List (List ℕ))
    (rooms : HasRooms cells links capacities waited table) (i : ℕ) (row : List ℕ) (row_at : slice_get table i ≡ Some row) where
  pub row_is : (cell : Cell X) → slice_get cells i ≡ Some cell → IsRow links capacities waited i cell.actor.outs row
  row_is cell at p low = rooms.rooms i p row row_at (let width : length row ≡ cell.actor.outs = rooms.widths i cell row at row_at in omega (arith, low, width))

  pub rooms_of_cell : (cell : Cell X) → slice_get cells i ≡ Some cell → AreRooms cell row
  rooms_of_cell cell at = are_rooms cells links capacities waited working i cell at row (row_is cell at) (rooms.widths i cell row at row_at)

  module _ (limit : ℕ) (end : BurstEnd) (new : List (Cell X)) (b : BurstsAt i limit row cells end new) (free : b.before.trapped ≡ false) where
    ran_here : Ran cells links capacities waited i b.before b.bursts.last b.bursts.actions
    ran_here = ran cells links capacities waited working i b.before b.bursts.last b.bursts.actions row b.at b.lawful (unread_of b.before b.fits) (row_is b.before b.at) b.bursts.fired

    calm_here : Calm b.bursts.last b.after
    calm_here = calm_end row limit (length b.bursts.actions) b.bursts.last end b.after b.bursts.ends

    new_is : new ≡ slice_set (slice_set cells i b.bursts.last) i b.after
    new_is = b.is ∙ sym (set_twice cells i b.bursts.last b.after)

    at_last : slice_get (slice_set cells i b.bursts.last) i ≡ Some b.bursts.last
    at_last = get_set_same cells i b.before b.bursts.last b.at

    at_new : slice_get new i ≡ Some b.after
    at_new = ap (λ cs. slice_get cs i) b.is ∙ get_set_same cells i b.before b.after b.at

    free_last : b.bursts.last.trapped ≡ false
    free_last = ran_here.trapped ∙ free

    lawful_last : IsLawful b.bursts.last.actor
    lawful_last = subst IsLawful (sym ran_here.actor.same_actor) b.lawful

    row_last : IsRow links capacities waited i b.bursts.last.actor.outs row
    row_last = row_stays links capacities waited i b.before.actor.outs b.bursts.last.actor.outs row (ap (λ actor. actor.outs) ran_here.actor.same_actor) (row_is b.before b.at)

    pub burst_same : SameActors cells new
    burst_same = subst (SameActors cells) (sym b.is) (same_set cells i b.before b.after b.at (actor_then b.before b.bursts.last b.after ran_here.actor calm_here.actor))

    pub burst_working : IsWorking new links capacities waited
    burst_working = subst (λ cs. IsWorking cs links capacities waited) (sym new_is)
        (calm_working (slice_set cells i b.bursts.last) i b.bursts.last b.after at_last links capacities waited ran_here.working calm_here.actor calm_here.inboxes calm_here.outboxes)

    pub burst_rooms : HasRooms new links capacities waited table
    burst_rooms = moved_rooms cells new links capacities waited waited table table burst_same rooms (same_shape table) rooms.rooms

    module _ (net : Network X) (opened s : State X) (that : StandsSince net (held_of cells links capacities waited) opened s) where
      reached_here : Reached net cells links capacities waited opened i limit s b.bursts.actions b.bursts.last
      reached_here = reached net cells links capacities waited opened s that.now.is_of that.now.stands that.since working i limit b.before b.bursts.last b.bursts.actions row b.at free b.lawful
          (row_is b.before b.at) b.bursts.fired b.bursts.few

      chosen_last : choice_at net reached_here.state i ≡ cell_choice b.bursts.last
      chosen_last = choice_is net (slice_set cells i b.bursts.last) links capacities reached_here.state reached_here.is_of reached_here.stands i b.bursts.last at_last free_last lawful_last

      halts_here : (e : BurstEnd) → EndsBurst row limit (length b.bursts.actions) b.bursts.last e b.after
          → HaltsAt net opened i (limit - length b.bursts.actions) reached_here.state (halt_of e)
      halts_here burst.Spent ends = omega (arith, ends.0)
      halts_here burst.Waits ends = (omega (arith, ends.0), chosen_last ∙ ends.1)
      halts_here (burst.NoRoom action port) ends =
          let passes = passes_room (slice_set cells i b.bursts.last) links capacities waited ran_here.working i b.bursts.last at_last row row_last net reached_here.state opened
          reached_here.is_of reached_here.stands reached_here.since action.0 port ran_here.unread ends.2 in
          (omega (arith, ends.0), (action.0, passes.0, chosen_last ∙ ends.1, passes.1))
      halts_here (burst.Trap action cause) ends = (
        omega (arith, ends.0),
        ⊎_elim
            (λ faults. inl (chosen_last ∙ faults))
            (λ body. inr (
              chosen_last ∙ body.0,
              has_room_in (slice_set cells i b.bursts.last) links capacities waited ran_here.working i b.bursts.last at_last row row_last net reached_here.state opened
                  reached_here.is_of reached_here.stands reached_here.since action.0 body.1,
              effect_is net (slice_set cells i b.bursts.last) links capacities reached_here.state reached_here.is_of reached_here.stands i b.bursts.last at_last free_last lawful_last action.0 ∙ body.2,
            ))
            ends.1,
      )

      pub burst_goes : GoesOn net opened i limit s b.bursts.actions (halt_of end) (held_of new links capacities waited)
      burst_goes = record {
        last = reached_here.state;
        bursts = reached_here.plays (halt_of end) (halts_here end b.bursts.ends);
        stands = record {
          now = record {
            is_of = subst (λ cs. IsNetOf net cs links) (sym new_is)
                (record {
                  actors = reached_here.is_of.actors ∙ sym (actors_set (slice_set cells i b.bursts.last) i b.bursts.last b.after at_last calm_here.actor.same_actor);
                  links_are = reached_here.is_of.links_are;
                });
            stands = subst (λ cs. Stands net cs capacities reached_here.state) (sym new_is)
                (calm_stands (slice_set cells i b.bursts.last) i b.bursts.last b.after at_last net links capacities reached_here.state calm_here.actor calm_here.inboxes calm_here.outboxes
                calm_here.states (λ l link there. (ran_here.working.fits l link (sym (ap (λ ls. slice_get ls l) reached_here.is_of.links_are) ∙ there)).writer) reached_here.stands);
          };
          since = reached_here.since;
        };
      }

  -- One look, and one action that is tried.

  -- a cell whose tokens stay, among the others
  module _ (cell new : Cell X) (at : slice_get cells i ≡ Some cell) (calm : Calm cell new) where
    pub calm_now : (net : Network X) (s : State X) → StandsIn net (held_of cells links capacities waited) s
        → StandsIn net (held_of (slice_set cells i new) links capacities waited) s
    calm_now net s that = record {
      is_of = record { actors = that.is_of.actors ∙ sym (actors_set cells i cell new at calm.actor.same_actor); links_are = that.is_of.links_are };
      stands = calm_stands cells i cell new at net links capacities s calm.actor calm.inboxes calm.outboxes calm.states
          (λ l link there. (working.fits l link (sym (ap (λ ls. slice_get ls l) that.is_of.links_are) ∙ there)).writer) that.stands;
    }

    pub calm_since : (net : Network X) (opened s : State X) → StandsSince net (held_of cells links capacities waited) opened s
        → StandsSince net (held_of (slice_set cells i new) links capacities waited) opened s
    calm_since net opened s that = record { now = calm_now net s that.now; since = that.since }

  module _ (result : Look) (new : List (Cell X)) (b : LookedAt i row cells result new) (free : b.before.trapped ≡ false) where
    look_calm : Calm b.before b.after
    look_calm = calm_same b.before b.after b.same

    pub look_same : SameActors cells new
    look_same = subst (SameActors cells) (sym b.is) (same_set cells i b.before b.after b.at b.same.actor)

    pub look_working : IsWorking new links capacities waited
    look_working = subst (λ cs. IsWorking cs links capacities waited) (sym b.is)
        (calm_working cells i b.before b.after b.at links capacities waited working b.same.actor b.same.inboxes b.same.outboxes)

    pub look_rooms : HasRooms new links capacities waited table
    look_rooms = moved_rooms cells new links capacities waited waited table table look_same rooms (same_shape table) rooms.rooms

    pub look_marks : SameMarks cells new
    look_marks = subst (SameMarks cells) (sym b.is)
        (λ k before after was is. set_cases cells i b.before b.after b.at k before after was is
        (λ here before_is after_is. ap (λ c. c.trapped) after_is ∙ (b.same.trapped ∙ sym (ap (λ c. c.trapped) before_is)))
        (λ differ after_is. ap (λ c. c.trapped) after_is))

    module _ (net : Network X) (opened s : State X) (that : StandsSince net (held_of cells links capacities waited) opened s) where
      chosen_now : choice_at net s i ≡ cell_choice b.before
      chosen_now = choice_is net cells links capacities s that.now.is_of that.now.stands i b.before b.at free b.lawful

      looks_by : (o : Look) → Looks row b.before o → LooksIn net opened s i o
      looks_by look.Waits looks = chosen_now ∙ looks
      looks_by (look.Ready action) looks =
          (chosen_now ∙ looks.0, has_room_in cells links capacities waited working i b.before b.at row (row_is b.before b.at) net s opened that.now.is_of that.now.stands that.since action.0 looks.1)
      looks_by (look.NoRoom action port) looks = (
        chosen_now ∙ looks.0,
        passes_room cells links capacities waited working i b.before b.at row (row_is b.before b.at) net s opened that.now.is_of that.now.stands that.since action.0 port
            (unread_of b.before b.fits) looks.1,
      )
      looks_by (look.GuardTrap action cause) looks = chosen_now ∙ looks

    module _ (rest : IsAtRest (held_of cells links capacities waited)) (net : Network X) (s : State X) (that : StandsIn net (held_of cells links capacities waited) s)
        (wired : IsWired net) (fed : AreFed net s) where
      fed_now : choice_at net (all_fed net s) i ≡ cell_choice b.before
      fed_now = choice_fed net cells links capacities waited s that.is_of that.stands working rest wired fed i b.before b.at free b.lawful

      does_some : (a : ℕ) → (cell_effect b.before a ≡ None → ⊥) → DoesSome net (all_fed net s) i a
      does_some a some none = some (sym (effect_fed net cells links capacities waited s that.is_of that.stands working rest wired fed i b.before b.at free b.lawful a) ∙ none)

      fed_by : (o : Look) → Looks row b.before o → LooksFed net s i o
      fed_by look.Waits looks = (
        fed_now ∙ looks,
        λ a. effect_fed net cells links capacities waited s that.is_of that.stands working rest wired fed i b.before b.at free b.lawful a ∙ b.lawful.waits b.before.state b.before.inboxes looks a,
      )
      fed_by (look.Ready action) looks = (
        fed_now ∙ looks.0,
        none_lacks net cells links capacities waited s that.is_of that.stands working rest i b.before b.at row (row_is b.before b.at) action.0 looks.1,
        does_some action.0 (λ none. ⊎_elim (λ fires. some_none (sym fires.2 ∙ none)) (λ body. some_none (sym body.1 ∙ none))
            (b.lawful.picks b.before.state b.before.inboxes action.0 looks.0)),
      )
      fed_by (look.NoRoom action port) looks =
          (fed_now ∙ looks.0, lacks_link net cells links capacities waited s that.is_of that.stands working rest i b.before b.at row (row_is b.before b.at) action.0 port looks.1)
      fed_by (look.GuardTrap action cause) looks = (
        fed_now ∙ looks,
        does_some action.0 (λ none. some_none (sym (b.lawful.faults b.before.state b.before.inboxes action.0 cause looks) ∙ none)),
      )

    action_there : (a : ℕ) → (cell_effect b.before a ≡ None → ⊥) → HasAction cells i a
    action_there a some = on_some (slice_get cells i) (λ cell. a < cell.actor.actions) b.before b.at
        (⊎_elim (λ low. low) (λ high. absurd (some (b.lawful.no_effect_beyond b.before.state b.before.inboxes a (omega (arith, high))))) (cases_lt a b.before.actor.actions))

    picked_there : (a : ℕ) → cell_choice b.before ≡ Picks a → HasAction cells i a
    picked_there a picks = action_there a (λ none. ⊎_elim (λ fires. some_none (sym fires.2 ∙ none)) (λ body. some_none (sym body.1 ∙ none))
        (b.lawful.picks b.before.state b.before.inboxes a picks))

    named_by : (o : Look) → Looks row b.before o → NamesAction cells i o
    named_by look.Waits looks = tt
    named_by (look.Ready action) looks = picked_there action.0 looks.0
    named_by (look.NoRoom action port) looks = picked_there action.0 looks.0
    named_by (look.GuardTrap action cause) looks =
        action_there action.0 (λ none. some_none (sym (b.lawful.faults b.before.state b.before.inboxes action.0 cause looks) ∙ none))

    pub looks_at : LooksAt i result (held_of cells links capacities waited) (held_of new links capacities waited)
    looks_at = record {
      states = λ net opened s that. (
        looks_by net opened s that result b.looks,
        subst (λ cs. StandsSince net (held_of cs links capacities waited) opened s) (sym b.is) (calm_since b.before b.after b.at look_calm net opened s that),
      );
      stays = λ net s that. subst (λ cs. StandsIn net (held_of cs links capacities waited) s) (sym b.is) (calm_now b.before b.after b.at look_calm net s that);
      ends = λ rest net s that wired fed. (settled net cells links capacities waited s that.is_of that.stands working rest, fed_by rest net s that wired fed result b.looks);
      named = named_by result b.looks;
      journal = ap (λ cs. journal_of (slice_get cs i)) b.is ∙ (ap (λ o. journal_of o) (get_set_same cells i b.before b.after b.at) ∙ (b.same.journal ∙ sym (ap (λ o. journal_of o) b.at)));
      elsewhere = λ k differ. ap (λ cs. slice_get cs k) b.is ∙ get_set_other cells k i b.after differ;
      rests = λ rest. subst (λ cs. IsAtRest (held_of cs links capacities waited)) (sym b.is) (calm_rests cells links capacities waited working i b.before b.after b.at look_calm rest);
    }

  -- How a burst ended, as a look at the cell.
  module _ (limit : ℕ) (end : BurstEnd) (new : List (Cell X)) (b : BurstsAt i limit row cells end new) (free : b.before.trapped ≡ false) where
    abbrev as_look : b.before ≡ b.bursts.last → (o : Look) → Looks row b.bursts.last o → IsSame b.bursts.last b.after → LookedAt i row cells o new
    as_look still o looks same = record {
      before = b.before;
      after = b.after;
      at = b.at;
      is = b.is;
      lawful = b.lawful;
      fits = b.fits;
      looks = subst (λ c. Looks row c o) (sym still) looks;
      same = subst (λ c. IsSame c b.after) (sym still) same;
    }

    burst_ends : b.before ≡ b.bursts.last → (e : BurstEnd) → EndsBurst row limit (length b.bursts.actions) b.bursts.last e b.after
        → IsAtRest (held_of cells links capacities waited) → EndsSeeHalt i e (held_of cells links capacities waited)
    burst_ends still burst.Spent ends rest = tt
    burst_ends still burst.Waits ends rest = (looks_at look.Waits new (as_look still look.Waits ends.1 ends.2) free).ends rest
    burst_ends still (burst.NoRoom action port) ends rest =
        (looks_at (look.NoRoom action port) new (as_look still (look.NoRoom action port) (ends.1, ends.2) ends.3) free).ends rest
    burst_ends still (burst.Trap action cause) ends rest = tt

    burst_named : (e : BurstEnd) → EndsBurst row limit (length b.bursts.actions) b.bursts.last e b.after → NamesLacking cells i e
    burst_named burst.Spent ends = tt
    burst_named burst.Waits ends = tt
    burst_named (burst.NoRoom action port) ends =
        on_some (slice_get cells i) (λ cell. action.0 < cell.actor.actions) b.before b.at
        (subst (λ actor. action.0 < actor.actions) (ran_here limit end new b free).actor.same_actor
        (picked_low b.bursts.last (lawful_last limit end new b free) action.0 ends.1))
    burst_named (burst.Trap action cause) ends = tt

    pub burst_works : WorksAt i limit end (held_of cells links capacities waited) (held_of new links capacities waited)
    burst_works = record {
      actions = b.bursts.actions;
      few = b.bursts.few;
      noted = ap (λ o. journal_of o) (at_new limit end new b free) ∙ ((calm_here limit end new b free).journal ∙ ((ran_here limit end new b free).noted ∙ ap (λ js. js ++ b.bursts.actions) (sym (ap (λ o. journal_of o) b.at))));
      states = (burst_goes limit end new b free);
      elsewhere = λ k differ. ap (λ cs. slice_get cs k) b.is ∙ get_set_other cells k i b.after differ;
      marked = on_some (slice_get new i) (λ cell. cell.trapped ≡ traps end) b.after (at_new limit end new b free) (marked_end row limit (length b.bursts.actions) b.bursts.last end b.after b.bursts.ends (free_last limit end new b free));
      rests = λ none rest.
          let still : b.before ≡ b.bursts.last = subst (λ names. FireInTurn row b.before names b.bursts.last) none b.bursts.fired in
          subst (λ cs. IsAtRest (held_of cs links capacities waited)) (sym b.is)
          (calm_rests cells links capacities waited working i b.before b.after b.at (subst (λ c. Calm c b.after) (sym still) (calm_here limit end new b free)) rest);
      ends = λ none rest. burst_ends (subst (λ names. FireInTurn row b.before names b.bursts.last) none b.bursts.fired) end b.bursts.ends rest;
      named = burst_named end b.bursts.ends;
    }

  module _ (a : ℕ) (result : Tried) (new : List (Cell X)) (b : TriedAt i row a cells result new) (free : b.before.trapped ≡ false) where
    tried_actor : (t : Tried) → Tries row a b.before t b.after → IsSameActor b.before b.after
    tried_actor tried.Fired tries = tries.1.actor
    tried_actor (tried.Trap cause) tries = tries.1.actor
    tried_actor tried.NotExposed tries = tries.1.actor
    tried_actor (tried.NoRoom port) tries = tries.2.actor

    tried_working_by : (t : Tried) → Tries row a b.before t b.after → IsWorking (slice_set cells i b.after) links capacities waited
    tried_working_by tried.Fired tries =
        fired_working cells links capacities waited working i a b.before b.after b.at b.lawful row (row_is b.before b.at) tries.1 tries.0
    tried_working_by (tried.Trap cause) tries =
        calm_working cells i b.before b.after b.at links capacities waited working tries.1.actor tries.1.inboxes tries.1.outboxes
    tried_working_by tried.NotExposed tries =
        calm_working cells i b.before b.after b.at links capacities waited working tries.1.actor tries.1.inboxes tries.1.outboxes
    tried_working_by (tried.NoRoom port) tries =
        calm_working cells i b.before b.after b.at links capacities waited working tries.2.actor tries.2.inboxes tries.2.outboxes

    tried_journal : (t : Tried) → Tries row a b.before t b.after → b.after.journal ≡ b.before.journal
    tried_journal tried.Fired tries = tries.2
    tried_journal (tried.Trap cause) tries = tries.1.journal
    tried_journal tried.NotExposed tries = tries.1.journal
    tried_journal (tried.NoRoom port) tries = tries.2.journal

    tried_marked : (t : Tried) → Tries row a b.before t b.after → b.after.trapped ≡ tried_traps t
    tried_marked tried.Fired tries = tries.1.trapped ∙ free
    tried_marked (tried.Trap cause) tries = tries.1.trapped
    tried_marked tried.NotExposed tries = tries.1.trapped ∙ free
    tried_marked (tried.NoRoom port) tries = tries.2.trapped ∙ free

    pub tried_same : SameActors cells new
    tried_same = subst (SameActors cells) (sym b.is) (same_set cells i b.before b.after b.at (tried_actor result b.tries))

    pub tried_working : IsWorking new links capacities waited
    tried_working = subst (λ cs. IsWorking cs links capacities waited) (sym b.is) (tried_working_by result b.tries)

    -- before no port more wait than before
    fewer_by : (t : Tried) → Tries row a b.before t b.after → (p : ℕ) → p < b.before.actor.ins → length (tokens_on b.after.inboxes p) ≤ length (tokens_on b.before.inboxes p)
    fewer_by tried.Fired tries p low =
        let is : length (tokens_on b.after.inboxes p) ≡ length (tokens_on b.before.inboxes p) - b.before.actor.need a p =
        ap (λ ts. length ts) (tries.1.taken p low) ∙ length-drop (b.before.actor.need a p) (tokens_on b.before.inboxes p) in
        omega (arith, is)
    fewer_by (tried.Trap cause) tries p low = same_length (tries.1.inboxes p low)
    fewer_by tried.NotExposed tries p low = same_length (tries.1.inboxes p low)
    fewer_by (tried.NoRoom port) tries p low = same_length (tries.2.inboxes p low)

    pub tried_fewer : NoMoreWait (held_of cells links capacities waited) (held_of new links capacities waited)
    tried_fewer l = of_link (slice_get links l) refl
      where
        of_link : (o : Option Link) → slice_get links l ≡ o → waits_at new o ≤ waits_at cells o
        of_link None at = omega arith
        of_link (Some link) at = subst (λ cs. length (waiting_at cs link.to) ≤ length (waiting_at cells link.to)) (sym b.is)
            (waits_set cells i b.before b.after b.at (λ m n. m ≤ n) (fewer_by result b.tries) (λ n. omega arith) link.to (working.fits l link at).reader)

    pub tried_rooms : HasRooms new links capacities waited table
    tried_rooms = moved_rooms cells new links capacities waited waited table table tried_same rooms (same_shape table) rooms.rooms

    module _ (net : Network X) (opened s : State X) (that : StandsSince net (held_of cells links capacities waited) opened s) where
      effect_now : effect_at net s i a ≡ cell_effect b.before a
      effect_now = effect_is net cells links capacities s that.now.is_of that.now.stands i b.before b.at free b.lawful a

      room_now : HasRoom b.before row a → HasRoomIn net opened s i a
      room_now room = has_room_in cells links capacities waited working i b.before b.at row (row_is b.before b.at) net s opened that.now.is_of that.now.stands that.since a room

      stays_by : Calm b.before b.after → StandsSince net (held_of (slice_set cells i b.after) links capacities waited) opened s
      stays_by calm = calm_since b.before b.after b.at calm net opened s that

      tries_by : (t : Tried) → Tries row a b.before t b.after → TriesIn net opened s i a t (held_of (slice_set cells i b.after) links capacities waited)
      tries_by tried.Fired tries = (
        room_now tries.0,
        subst (λ o. OnNext o (λ next. StandsSince net (held_of (slice_set cells i b.after) links capacities waited) opened next))
            (sym (fires_here net cells links capacities waited s that.now.is_of that.now.stands working i a b.before b.after b.at free b.lawful tries.1))
            (record {
              now = record {
                is_of = fired_net net cells links capacities waited s that.now.is_of that.now.stands working i a b.before b.after b.at free b.lawful tries.1;
                stands = fired_stands net cells links capacities waited s that.now.is_of that.now.stands working i a b.before b.after b.at free b.lawful tries.1;
              };
              since = fired_opened net cells links capacities waited s that.now.is_of that.now.stands working i a b.before b.after b.at free b.lawful tries.1 opened.flows that.since;
            }),
      )
      tries_by (tried.Trap cause) tries = (
        ⊎_elim
            (λ guard. inl (effect_now ∙ guard))
            (λ body. inr (room_now body.0, effect_now ∙ body.1))
            tries.0,
        stays_by (calm_trap b.before b.after tries.1),
      )
      tries_by tried.NotExposed tries = (effect_now ∙ tries.0, stays_by (calm_same b.before b.after tries.1))
      tries_by (tried.NoRoom port) tries = (
        subst IsEnabled (sym effect_now) tries.0,
        passes_room cells links capacities waited working i b.before b.at row (row_is b.before b.at) net s opened that.now.is_of that.now.stands that.since a port
            (unread_of b.before b.fits) tries.1,
        stays_by (calm_same b.before b.after tries.2),
      )

    pub tries_at : TriesAt i a result (held_of cells links capacities waited) (held_of new links capacities waited)
    tries_at = record {
      states = λ net opened s that. subst (λ cs. TriesIn net opened s i a result (held_of cs links capacities waited)) (sym b.is) (tries_by net opened s that result b.tries);
      journal = ap (λ cs. journal_of (slice_get cs i)) b.is
          ∙ (ap (λ o. journal_of o) (get_set_same cells i b.before b.after b.at) ∙ (tried_journal result b.tries ∙ sym (ap (λ o. journal_of o) b.at)));
      elsewhere = λ k differ. ap (λ cs. slice_get cs k) b.is ∙ get_set_other cells k i b.after differ;
      marked = subst (λ cs. OnCell (slice_get cs i) (λ cell. cell.trapped ≡ tried_traps result)) (sym b.is)
          (on_some (slice_get (slice_set cells i b.after) i) (λ cell. cell.trapped ≡ tried_traps result) b.after (get_set_same cells i b.before b.after b.at) (tried_marked result b.tries));
    }
