-- What comes into a cell and what leaves it, as networks see it.
use Rattle.std.proofs.Common.{◌≡◌, ◌≢◌, ℕ, ◌<◌, ◌≤◌, ◌⊎◌, inl, inr, ℤ, false, List, [], ◌∷◌, ◌++◌, length, refl, sym, ap, subst, ◌∙◌, arith, Some}
use Rattle.std.specs.Prelude.{slice_get, slice_index_or, slice_set}
use Rattle.std.proofs.lemmas.List.{get_or-set_same, get_or-set_other, get_or_default}
use Rattle.std.proofs.lemmas.Bool.{cases_lt}
use Rattle.token_ring.specs.Queue.{Queue}
use Rattle.lowered_actor.specs.Actor.{Action, Actor}
use Rattle.lowered_actor.specs.Facts.{IsLowered}
use Rattle.lowered_actor.specs.Meaning.{give, start_of}
use Rattle.net_model.specs.Cell.{Accepts, Clears, FitsQueues}
use Rattle.firing_slices.specs.Slices.{AcceptsAll}
use Rattle.actor_cell.specs.Queues.{no_queue, queue_on, AreEmptied, AreFresh}
use Rattle.actor_cell.specs.Core.{Core, seen, state_in, IsAtStart, IsSound}
use Rattle.actor_cell.proofs.Bodies.{fits-of}
use Rattle.actor_cell.proofs.Ports.{tokens-at, capacity-at}
use Rattle.actor_cell.proofs.Seen.{give-is}

pub fits-queues : (core : Core) → IsSound core → FitsQueues (seen core)
fits-queues core sound = record {
  inboxes = λ p low.
      let ins = sound.ins in
      let within = sound.waiting p (omega (arith, low, ins)) in
      let tokens = ap length (tokens-at core.inboxes p) in
      let capacity = capacity-at core.inboxes p in
      omega (arith, within, tokens, capacity);
  outboxes = λ p low.
      let outs = sound.outs in
      let within = sound.sent p (omega (arith, low, outs)) in
      let tokens = ap length (tokens-at core.outboxes p) in
      let capacity = capacity-at core.outboxes p in
      omega (arith, within, tokens, capacity);
}

-- a cell with fresh queues in its first state
pub at-start : (core : Core) (ins outs : List ℕ) (burst : ℕ) → state_in core ≡ start_of core.actor → AreFresh ins core.inboxes → AreFresh outs core.outboxes
    → length ins ≡ core.actor.ins → length outs ≡ core.actor.outs → core.journal ≡ [] → core.journal_room ≡ burst → core.trapped ≡ false
    → IsAtStart core.actor ins outs burst (seen core)
at-start core ins outs burst state fresh_in fresh_out so_many_in so_many_out journal room untrapped = record {
  is_of = refl;
  state = state;
  nothing_in = λ p low. tokens-at core.inboxes p ∙ ap (λ q. q.tokens) (fresh_in.each p (omega (arith, low, so_many_in)));
  nothing_out = λ p low. tokens-at core.outboxes p ∙ ap (λ q. q.tokens) (fresh_out.each p (omega (arith, low, so_many_out)));
  inbox_capacities = λ p low. capacity-at core.inboxes p ∙ ap (λ q. q.capacity) (fresh_in.each p (omega (arith, low, so_many_in)));
  outbox_capacities = λ p low. capacity-at core.outboxes p ∙ ap (λ q. q.capacity) (fresh_out.each p (omega (arith, low, so_many_out)));
  journal = journal;
  journal_room = room;
  untrapped = untrapped;
}

same-number : (q p : ℕ) → (q ≡ p) ⊎ (q ≢ p)
same-number q p = by (cases_lt q p) (cases_lt p q)
  where
    by : (q < p) ⊎ (p ≤ q) → (p < q) ⊎ (q ≤ p) → (q ≡ p) ⊎ (q ≢ p)
    by (inl low) other = inr (λ e. omega (arith, low, e))
    by (inr high) (inl low) = inr (λ e. omega (arith, low, e))
    by (inr high) (inr low) = inl (omega (arith, high, low))

-- tokens came in
module _ (core : Core) (p : ℕ) (tokens : List ℤ) (queue : Queue) (low : p < length core.inboxes)
    (is : queue ≡ record { tokens = (queue_on core.inboxes p).tokens ++ tokens; capacity = (queue_on core.inboxes p).capacity }) where
  abbrev inboxes : List Queue
  inboxes = slice_set core.inboxes p queue

  here : queue_on inboxes p ≡ queue
  here = get_or-set_same core.inboxes p queue no_queue low

  there : (q : ℕ) → q ≢ p → queue_on inboxes q ≡ queue_on core.inboxes q
  there q other = get_or-set_other core.inboxes p q queue no_queue other

  same-capacity : (q : ℕ) → (queue_on inboxes q).capacity ≡ (queue_on core.inboxes q).capacity
  same-capacity q = by (same-number q p)
    where
      by : (q ≡ p) ⊎ (q ≢ p) → (queue_on inboxes q).capacity ≡ (queue_on core.inboxes q).capacity
      by (inl same) = subst (λ k. (queue_on inboxes k).capacity ≡ (queue_on core.inboxes k).capacity) (sym same)
          (ap (λ one. one.capacity) (here ∙ is))
      by (inr other) = ap (λ one. one.capacity) (there q other)

  pub accepts-all-of : AcceptsAll (seen core) p tokens (seen (record core { inboxes = inboxes }))
  accepts-all-of = record {
    actor = record {
      same_actor = refl;
      same_inbox_capacities = λ q less. capacity-at inboxes q ∙ (same-capacity q ∙ sym (capacity-at core.inboxes q));
      same_outbox_capacities = λ q less. refl;
      same_journal_room = refl;
    };
    state = refl;
    there = tokens-at inboxes p ∙ (ap (λ one. one.tokens) (here ∙ is) ∙ ap (λ ts. ts ++ tokens) (sym (tokens-at core.inboxes p)));
    elsewhere = λ q less other. tokens-at inboxes q ∙ (ap (λ one. one.tokens) (there q other) ∙ sym (tokens-at core.inboxes q));
    outboxes = λ q less. refl;
    journal = refl;
    trapped = refl;
  }

-- one token came in
pub accepts-of : (core : Core) (p : ℕ) (token : ℤ) (queue : Queue) (low : p < length core.inboxes)
    → queue ≡ record { tokens = (queue_on core.inboxes p).tokens ++ token ∷ []; capacity = (queue_on core.inboxes p).capacity }
    → Accepts (seen core) p token (seen (record core { inboxes = slice_set core.inboxes p queue }))
accepts-of core p token queue low is =
    let all = accepts-all-of core p (token ∷ []) queue low is in
    record {
      actor = all.actor;
      state = all.state;
      there = all.there;
      elsewhere = all.elsewhere;
      outboxes = all.outboxes;
      journal = all.journal;
      trapped = all.trapped;
    }

-- the token that came last was taken back
module _ (core : Core) (p : ℕ) (token : ℤ) (queue : Queue) (low : p < length core.inboxes)
    (is : queue_on core.inboxes p ≡ record { tokens = queue.tokens ++ token ∷ []; capacity = queue.capacity }) where
  abbrev before : List Queue
  before = slice_set core.inboxes p queue

  here-before : queue_on before p ≡ queue
  here-before = get_or-set_same core.inboxes p queue no_queue low

  there-before : (q : ℕ) → q ≢ p → queue_on before q ≡ queue_on core.inboxes q
  there-before q other = get_or-set_other core.inboxes p q queue no_queue other

  capacity-before : (q : ℕ) → (queue_on core.inboxes q).capacity ≡ (queue_on before q).capacity
  capacity-before q = by (same-number q p)
    where
      by : (q ≡ p) ⊎ (q ≢ p) → (queue_on core.inboxes q).capacity ≡ (queue_on before q).capacity
      by (inl same) = subst (λ k. (queue_on core.inboxes k).capacity ≡ (queue_on before k).capacity) (sym same)
          (ap (λ one. one.capacity) is ∙ sym (ap (λ one. one.capacity) here-before))
      by (inr other) = sym (ap (λ one. one.capacity) (there-before q other))

  pub taken-back-of : Accepts (seen (record core { inboxes = before })) p token (seen core)
  taken-back-of = record {
    actor = record {
      same_actor = refl;
      same_inbox_capacities = λ q less. capacity-at core.inboxes q ∙ (capacity-before q ∙ sym (capacity-at before q));
      same_outbox_capacities = λ q less. refl;
      same_journal_room = refl;
    };
    state = refl;
    there = tokens-at core.inboxes p ∙ (ap (λ one. one.tokens) is ∙ ap (λ ts. ts ++ token ∷ []) (sym (tokens-at before p ∙ ap (λ one. one.tokens) here-before)));
    elsewhere = λ q less other. tokens-at core.inboxes q ∙ (sym (ap (λ one. one.tokens) (there-before q other)) ∙ sym (tokens-at before q));
    outboxes = λ q less. refl;
    journal = refl;
    trapped = refl;
  }

-- the outboxes and the journal were emptied
pub clears-of : (core : Core) (outboxes : List Queue) (journal : List ℕ) (room : ℕ) → AreEmptied core.outboxes outboxes → length core.outboxes ≡ core.actor.outs
    → journal ≡ [] → room ≡ core.journal_room
    → Clears (seen core) (seen (record core { outboxes = outboxes; journal = journal; journal_room = room }))
clears-of core outboxes journal room emptied outs none same = record {
  actor = record {
    same_actor = refl;
    same_inbox_capacities = λ p low. refl;
    same_outbox_capacities = λ p low.
        capacity-at outboxes p ∙ (ap (λ one. one.capacity) (emptied.each p (omega (arith, low, outs))) ∙ sym (capacity-at core.outboxes p));
    same_journal_room = same;
  };
  state = refl;
  inboxes = λ p low. refl;
  empty = (λ p low. tokens-at outboxes p ∙ ap (λ one. one.tokens) (emptied.each p (omega (arith, low, outs))), none);
  trapped = refl;
}

-- the number that is read for a port is what the action gives there
pub gives-so : (actor : Actor) (a p n : ℕ) (action : Action) → IsLowered actor → slice_get actor.actions a ≡ Some action → p < actor.outs
    → n ≡ slice_index_or action.gives p n → n ≡ give actor a p
gives-so actor a p n action lowered there low is =
    let size = (fits-of actor a action lowered there).gives in
    is ∙ (get_or_default action.gives p n 0 (omega (arith, low, size)) ∙ sym (give-is actor a p action there))
