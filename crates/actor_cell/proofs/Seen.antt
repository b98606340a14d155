-- What networks see of a firing.
use Rattle.std.proofs.Common.{◌≡◌, ℕ, zero, suc, ◌+◌, ◌<◌, ◌≤◌, ◌⊎◌, inl, inr, ℤ, Bool, true, false, List, [], ◌++◌, length, drop, refl, sym, ap, subst, ◌∙◌, arith, None, Some, length-drop}
use Rattle.std.specs.Prelude.{◌==◌, slice_get, slice_index_or, if◌then◌else◌}
use Rattle.std.proofs.lemmas.Bool.{cases_lt, eq-eqb}
use Rattle.std.proofs.lemmas.List.{length-append}
use Rattle.rvc_base.specs.Lawful.{tokens_on}
use Rattle.token_ring.specs.Queue.{Queue}
use Rattle.lowered_actor.specs.Actor.{Action, Actor, number_on}
use Rattle.lowered_actor.specs.Facts.{cells_from}
use Rattle.lowered_actor.specs.Meaning.{behaviour, need, give, next, sent_from}
use Rattle.guard_select.specs.Selecting.{state_of}
use Rattle.guard_select.proofs.Takes.{need-is}
use Rattle.net_model.specs.Cell.{AreRooms, FiresTo, HasRoom, IsLeftByTrap, IsSame, IsSameActor, number_on as number_for}
use Rattle.actor_cell.specs.Queues.{queue_on, tokens_of, capacities_of, sent_to, AreWithin, AreTaken, AreSent, HasRoomFor, HaveRoomFor, tokens_before}
use Rattle.actor_cell.specs.Core.{Core, seen, state_in, IsUntouched}
use Rattle.actor_cell.specs.Acting.{HasRoomToSend, IsDone, IsToFire, sent_of}
use Rattle.actor_cell.proofs.Ports.{tokens-at, capacity-at}
use Rattle.actor_cell.proofs.Bodies.{sent-of-is}

pub give-is : (actor : Actor) (a p : ℕ) (action : Action) → slice_get actor.actions a ≡ Some action → give actor a p ≡ number_on action.gives p
give-is actor a p action there = ap (λ o. elim o [ None ↦ 0 | Some act ↦ number_on act.gives p ]) there

-- ---- queues after a firing

pub so-many : (cells : List ℤ) (c n : ℕ) → length (cells_from cells c n) ≡ n
so-many cells c zero = refl
so-many cells c (suc n) = ap suc (so-many cells (c + 1) n)

sent-at : (action : Action) (cells : List ℤ) (p n q : ℕ) → q < n
    → slice_index_or (sent_from action cells p n) q [] ≡ cells_from cells (number_on action.sends (p + q)) (number_on action.gives (p + q))
sent-at action cells p zero q low = absurd (omega (arith, low))
sent-at action cells p (suc n) zero low =
    let same : p ≡ p + 0 = omega arith in ap (λ k. cells_from cells (number_on action.sends k) (number_on action.gives k)) same
sent-at action cells p (suc n) (suc q) low =
    let same : suc p + q ≡ p + suc q = omega arith in
    sent-at action cells (suc p) n q (omega (arith, low)) ∙ ap (λ k. cells_from cells (number_on action.sends k) (number_on action.gives k)) same

pub sent-on : (actor : Actor) (a : ℕ) (action : Action) (cells : List ℤ) → slice_get actor.actions a ≡ Some action → (p : ℕ) → p < actor.outs
    → tokens_on (sent_of actor a cells) p ≡ cells_from cells (number_on action.sends p) (number_on action.gives p)
sent-on actor a action cells there p low =
    ap (λ sent. tokens_on sent p) (sent-of-is actor a action cells there)
    ∙ (sent-at action cells 0 actor.outs p low
    ∙ (let same : 0 + p ≡ p = omega arith in ap (λ k. cells_from cells (number_on action.sends k) (number_on action.gives k)) same))

pub sent-read : (queue : Queue) (tokens : List ℤ) → 0 < queue.capacity → sent_to queue tokens ≡ record { tokens = queue.tokens ++ tokens; capacity = queue.capacity }
sent-read queue tokens read = by (queue.capacity == 0) refl
  where
    by : (b : Bool) → (queue.capacity == 0) ≡ b
        → (if b then queue else record { tokens = queue.tokens ++ tokens; capacity = queue.capacity }) ≡ record { tokens = queue.tokens ++ tokens; capacity = queue.capacity }
    by true e = absurd (let none : queue.capacity ≡ 0 = grind arith in omega (arith, read, none))
    by false e = refl

pub sent-unread : (queue : Queue) (tokens : List ℤ) → queue.capacity ≡ 0 → sent_to queue tokens ≡ queue
sent-unread queue tokens unread =
    ap (λ b. if b then queue else record { tokens = queue.tokens ++ tokens; capacity = queue.capacity }) (eq-eqb queue.capacity 0 unread)

pub sent-capacity : (queue : Queue) (tokens : List ℤ) → (sent_to queue tokens).capacity ≡ queue.capacity
sent-capacity queue tokens = by (queue.capacity == 0)
  where
    by : (b : Bool) → (if b then queue else record { tokens = queue.tokens ++ tokens; capacity = queue.capacity }).capacity ≡ queue.capacity
    by true = refl
    by false = refl

sent-within : (queue : Queue) (tokens : List ℤ) → length queue.tokens ≤ queue.capacity → HasRoomFor queue (length tokens)
    → length (sent_to queue tokens).tokens ≤ (sent_to queue tokens).capacity
sent-within queue tokens within room = by (cases_lt 0 queue.capacity)
  where
    by : (0 < queue.capacity) ⊎ (queue.capacity ≤ 0) → length (sent_to queue tokens).tokens ≤ (sent_to queue tokens).capacity
    by (inl read) = subst (λ q. length q.tokens ≤ q.capacity) (sym (sent-read queue tokens read))
        (let fits = room read in omega (arith, fits, length-append queue.tokens tokens))
    by (inr none) = subst (λ q. length q.tokens ≤ q.capacity) (sym (sent-unread queue tokens (omega (arith, none)))) within

pub taken-within : (needs : List ℕ) (old new : List Queue) → AreTaken needs old new → AreWithin old → AreWithin new
taken-within needs old new taken within p low =
    let size = taken.size in
    let there : p < length old = omega (arith, size, low) in
    let before = within p there in
    subst (λ q. length q.tokens ≤ q.capacity) (sym (taken.each p there))
    (omega (arith, before, length-drop (number_on needs p) (queue_on old p).tokens))

pub sent-all-within : (action : Action) (cells : List ℤ) (old new : List Queue) → AreSent action cells old new → AreWithin old → HaveRoomFor action.gives old
    → AreWithin new
sent-all-within action cells old new sent within room p low =
    let size = sent.size in
    let there : p < length old = omega (arith, size, low) in
    let count = so-many cells (number_on action.sends p) (number_on action.gives p) in
    subst (λ q. length q.tokens ≤ q.capacity) (sym (sent.each p there))
    (sent-within (queue_on old p) (cells_from cells (number_on action.sends p) (number_on action.gives p)) (within p there)
    (subst (HasRoomFor (queue_on old p)) (sym count) (room p there)))

-- ---- the firing

pub record HasActed (old : Core) (a : ℕ) (action : Action) (new : Core) : Type 0 where
  pub there : slice_get old.actor.actions a ≡ Some action
  pub is_of : new.actor ≡ old.actor
  pub done : IsDone old.actor old.at a (tokens_before old.inboxes) old.cells.numbers new.cells.numbers
  pub at : new.at ≡ next old.actor old.at a
  pub taken : AreTaken action.needs old.inboxes new.inboxes
  pub sent : AreSent action new.cells.numbers old.outboxes new.outboxes
  pub journal_room : new.journal_room ≡ old.journal_room
  pub trapped : new.trapped ≡ old.trapped

module _ (old new : Core) (a : ℕ) (action : Action) (ins : length old.inboxes ≡ old.actor.ins) (outs : length old.outboxes ≡ old.actor.outs) (acted : HasActed old a action new) where
  in-low : (p : ℕ) → p < old.actor.ins → p < length old.inboxes
  in-low p low = omega (arith, low, ins)

  out-low : (p : ℕ) → p < old.actor.outs → p < length old.outboxes
  out-low p low = omega (arith, low, outs)

  same-actor : IsSameActor (seen old) (seen new)
  same-actor = record {
    same_actor = ap behaviour acted.is_of;
    same_inbox_capacities = λ p low.
        capacity-at new.inboxes p ∙ (ap (λ q. q.capacity) (acted.taken.each p (in-low p low)) ∙ sym (capacity-at old.inboxes p));
    same_outbox_capacities = λ p low.
        capacity-at new.outboxes p ∙ (ap (λ q. q.capacity) (acted.sent.each p (out-low p low))
        ∙ (sent-capacity (queue_on old.outboxes p) (cells_from new.cells.numbers (number_on action.sends p) (number_on action.gives p)) ∙ sym (capacity-at old.outboxes p)));
    same_journal_room = acted.journal_room;
  }

  taken-so : (p : ℕ) → p < old.actor.ins → tokens_on (tokens_of new.inboxes) p ≡ drop (need old.actor a p) (tokens_on (tokens_of old.inboxes) p)
  taken-so p low =
      tokens-at new.inboxes p ∙ (ap (λ q. q.tokens) (acted.taken.each p (in-low p low))
      ∙ (ap (λ n. drop n (queue_on old.inboxes p).tokens) (sym (need-is old.actor a p action acted.there))
      ∙ ap (drop (need old.actor a p)) (sym (tokens-at old.inboxes p))))

  abbrev sent-so : List ℤ → ℕ → List ℤ
  sent-so cells p = cells_from cells (number_on action.sends p) (number_on action.gives p)

  read-so : (p : ℕ) → p < old.actor.outs → 0 < number_for (capacities_of old.outboxes) p
      → tokens_on (tokens_of new.outboxes) p ≡ tokens_on (tokens_of old.outboxes) p ++ tokens_on (sent_of old.actor a new.cells.numbers) p
  read-so p low read =
      let capacity = capacity-at old.outboxes p in
      let read : 0 < (queue_on old.outboxes p).capacity = subst (λ c. 0 < c) capacity read in
      tokens-at new.outboxes p ∙ (ap (λ q. q.tokens) (acted.sent.each p (out-low p low) ∙ sent-read (queue_on old.outboxes p) (sent-so new.cells.numbers p) read)
      ∙ (ap (λ ts. ts ++ sent-so new.cells.numbers p) (sym (tokens-at old.outboxes p))
      ∙ ap (λ ts. tokens_on (tokens_of old.outboxes) p ++ ts) (sym (sent-on old.actor a action new.cells.numbers acted.there p low))))

  unread-so : (p : ℕ) → p < old.actor.outs → number_for (capacities_of old.outboxes) p ≡ 0
      → tokens_on (tokens_of new.outboxes) p ≡ tokens_on (tokens_of old.outboxes) p
  unread-so p low unread =
      tokens-at new.outboxes p ∙ (ap (λ q. q.tokens) (acted.sent.each p (out-low p low)
      ∙ sent-unread (queue_on old.outboxes p) (sent-so new.cells.numbers p) (sym (capacity-at old.outboxes p) ∙ unread)) ∙ sym (tokens-at old.outboxes p))

  pub fires-to : IsToFire old a → FiresTo (seen old) a (seen new)
  fires-to to_fire = record {
    next = state_of old.actor (next old.actor old.at a) new.cells.numbers;
    sent = sent_of old.actor a new.cells.numbers;
    effect = to_fire.effect ∙ acted.done;
    actor = same-actor;
    state = ap (λ one. state_of one new.at new.cells.numbers) acted.is_of ∙ ap (λ s. state_of old.actor s new.cells.numbers) acted.at;
    taken = taken-so;
    read = read-so;
    unread = unread-so;
    trapped = acted.trapped;
  }

-- ---- nothing seen changes

pub same-actor-of : (core : Core) → IsSameActor (seen core) (seen core)
same-actor-of core = record {
  same_actor = refl;
  same_inbox_capacities = λ p low. refl;
  same_outbox_capacities = λ p low. refl;
  same_journal_room = refl;
}

is-same-of : (core : Core) → IsSame (seen core) (seen core)
is-same-of core = record {
  actor = same-actor-of core;
  state = refl;
  inboxes = λ p low. refl;
  outboxes = λ p low. refl;
  journal = refl;
  trapped = refl;
}

-- cells behind the state cells aren't seen
pub seen-same : (old new : Core) → IsUntouched old new → seen new ≡ seen old
seen-same old new untouched =
    by new untouched.parts untouched.state
  where
    by : (now : Core) → now ≡ record old { cells = new.cells } → state_in now ≡ state_in old → seen now ≡ seen old
    by now parts state =
        ap (λ (core : Core). record (seen core) { state = state_in now }) parts ∙ ap (λ x. record (seen old) { state = x }) state

pub is-same : (old new : Core) → IsUntouched old new → IsSame (seen old) (seen new)
is-same old new untouched = subst (λ c. IsSame (seen old) c) (sym (seen-same old new untouched)) (is-same-of old)

-- an action trapped
pub left-by-trap : (old : Core) → IsLeftByTrap (seen old) (record (seen old) { trapped = true })
left-by-trap old = record {
  actor = record { same_actor = refl; same_inbox_capacities = λ p low. refl; same_outbox_capacities = λ p low. refl; same_journal_room = refl };
  inboxes = λ p low. refl;
  outboxes = λ p low. refl;
  journal = refl;
  trapped = refl;
}

-- ---- room

-- an action that has room at its ports has room in its queues
pub room-to-send : (core : Core) (rooms : List ℕ) (a : ℕ) → AreRooms (seen core) rooms → HasRoom (seen core) rooms a → HasRoomToSend core a
room-to-send core rooms a are room p low read =
    let capacity : number_for (capacities_of core.outboxes) p ≡ (queue_on core.outboxes p).capacity = capacity-at core.outboxes p in
    let tokens : length (tokens_on (tokens_of core.outboxes) p) ≡ length (queue_on core.outboxes p).tokens = ap length (tokens-at core.outboxes p) in
    let most = are.read p low (subst (λ c. 0 < c) (sym capacity) read) in
    let held = room p low in
    omega (arith, capacity, tokens, most, held)

pub have-room : (core : Core) (a : ℕ) (action : Action) → slice_get core.actor.actions a ≡ Some action → length core.outboxes ≡ core.actor.outs → HasRoomToSend core a
    → HaveRoomFor action.gives core.outboxes
have-room core a action there outs room p low =
    subst (HasRoomFor (queue_on core.outboxes p)) (give-is core.actor a p action there) (room p (omega (arith, low, outs)))
