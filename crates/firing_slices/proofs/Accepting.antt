-- Tokens that come in one after the other.
use Rattle.std.proofs.Common.{◌≡◌, ℕ, ◌+◌, ◌<◌, ◌≤◌, List, [], ◌∷◌, ◌++◌, ℤ, length, min, take, refl, sym, ap, subst, ◌∙◌, arith}
use Rattle.std.specs.Prelude.{slice_index_or}
use Rattle.std.proofs.lemmas.List.{append_assoc, append-nil, length-append, length-take, take_more, take_all}
use Rattle.rvc_base.specs.Lawful.{tokens_on}
use Rattle.net_model.specs.Cell.{Accepts, Cell, number_on}
use Rattle.firing_slices.specs.Slices.{AcceptsAll}

pub accepts-none : {X : Type 0} (cell : Cell X) (p : ℕ) → AcceptsAll cell p [] cell
accepts-none cell p = record {
  actor = record {
    same_actor = refl;
    same_inbox_capacities = λ q low. refl;
    same_outbox_capacities = λ q low. refl;
    same_journal_room = refl;
  };
  state = refl;
  there = sym (append-nil (tokens_on cell.inboxes p));
  elsewhere = λ q low other. refl;
  outboxes = λ q low. refl;
  journal = refl;
  trapped = refl;
}

-- there is room for the next token if there is room for all
pub has-room : {X : Type 0} (old now : Cell X) (p : ℕ) (tokens : List ℤ) (i : ℕ) → AcceptsAll old p (take i tokens) now → p < old.actor.ins
    → length (tokens_on old.inboxes p) + length tokens ≤ number_on old.inbox_capacities p → i < length tokens
    → length (tokens_on now.inboxes p) < number_on now.inbox_capacities p
has-room old now p tokens i so_far low room more =
    let held = ap length so_far.there ∙ length-append (tokens_on old.inboxes p) (take i tokens) in
    let taken = length-take i tokens in
    let same = so_far.actor.same_inbox_capacities p low in
    omega (arith, held, taken, same, room, more)

pub accepts-all : {X : Type 0} (old now : Cell X) (p : ℕ) (tokens : List ℤ) (i : ℕ) → length tokens ≤ i → AcceptsAll old p (take i tokens) now → AcceptsAll old p tokens now
accepts-all old now p tokens i high so_far = subst (λ ts. AcceptsAll old p ts now) (take_all i tokens high) so_far

-- one more token comes in
accepts-more : {X : Type 0} (old now next : Cell X) (p : ℕ) (tokens : List ℤ) (token : ℤ) → AcceptsAll old p tokens now → Accepts now p token next
    → AcceptsAll old p (tokens ++ token ∷ []) next
accepts-more old now next p tokens token before one =
    let ins : now.actor.ins ≡ old.actor.ins = ap (λ a. a.ins) before.actor.same_actor in
    let outs : now.actor.outs ≡ old.actor.outs = ap (λ a. a.outs) before.actor.same_actor in
    record {
      actor = record {
        same_actor = one.actor.same_actor ∙ before.actor.same_actor;
        same_inbox_capacities = λ q low. one.actor.same_inbox_capacities q (omega (arith, low, ins)) ∙ before.actor.same_inbox_capacities q low;
        same_outbox_capacities = λ q low. one.actor.same_outbox_capacities q (omega (arith, low, outs)) ∙ before.actor.same_outbox_capacities q low;
        same_journal_room = one.actor.same_journal_room ∙ before.actor.same_journal_room;
      };
      state = one.state ∙ before.state;
      there = one.there ∙ (ap (λ ts. ts ++ token ∷ []) before.there ∙ append_assoc (tokens_on old.inboxes p) tokens (token ∷ []));
      elsewhere = λ q low other. one.elsewhere q (omega (arith, low, ins)) other ∙ before.elsewhere q low other;
      outboxes = λ q low. one.outboxes q (omega (arith, low, outs)) ∙ before.outboxes q low;
      journal = one.journal ∙ before.journal;
      trapped = one.trapped ∙ before.trapped;
    }

-- .. the next one
pub accepts-next : {X : Type 0} (old now next : Cell X) (p : ℕ) (tokens : List ℤ) (i : ℕ) (d token : ℤ) → i < length tokens → token ≡ slice_index_or tokens i d
    → AcceptsAll old p (take i tokens) now → Accepts now p token next → AcceptsAll old p (take (i + 1) tokens) next
accepts-next old now next p tokens i d token low is before one =
    let more : take i tokens ++ token ∷ [] ≡ take (i + 1) tokens = ap (λ t. take i tokens ++ t ∷ []) is ∙ sym (take_more tokens i d low) in
    subst (λ ts. AcceptsAll old p ts next) more (accepts-more old now next p (take i tokens) token before one)
