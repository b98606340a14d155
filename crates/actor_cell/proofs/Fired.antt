-- A firing from its parts: what was evaluated, sent and taken.
use Rattle.std.proofs.Common.{◌≡◌, ℕ, ◌<◌, ◌≤◌, List, ◌++◌, length, take, drop, refl, sym, ap, ◌∙◌, arith, None, Some}
use Rattle.std.specs.Prelude.{slice_get}
use Rattle.std.proofs.lemmas.List.{take_at}
use Rattle.std.proofs.lemmas.Option.{slice_get_within}
use Rattle.action_machine.specs.Kept.{Kept, IsMadeFor}
use Rattle.schedule_fsm.specs.Automaton.{target}
use Rattle.token_ring.specs.Queue.{Queue}
use Rattle.lowered_actor.specs.Actor.{Action}
use Rattle.lowered_actor.specs.Meaning.{need}
use Rattle.lowered_actor.proofs.Running.{has-on}
use Rattle.guard_select.proofs.Takes.{need-is}
use Rattle.net_model.specs.Cell.{FiresTo}
use Rattle.actor_cell.specs.Queues.{tokens_before, AreThere, AreTaken, AreSent}
use Rattle.actor_cell.specs.Core.{Core, seen, IsSound}
use Rattle.actor_cell.specs.Acting.{HasRoomToSend, IsAble, IsDone, IsToFire}
use Rattle.actor_cell.proofs.Ports.{tokens-at}
use Rattle.actor_cell.proofs.Seen.{fires-to, have-room, sent-all-within, taken-within}

-- what was written to the whole of a vector is the whole of it
pub written-back : {A : Type 0} (items new : List A) (n : ℕ) → length new ≡ n → take n (new ++ drop (length new) items) ≡ new
written-back items new n len = take_at new (drop (length new) items) n len

-- an action that is to fire has its tokens in the queues
pub there-of : (core : Core) (a : ℕ) (action : Action) → IsAble core.actor core.at (tokens_before core.inboxes) a
    → slice_get core.actor.actions a ≡ Some action → length core.inboxes ≡ core.actor.ins → AreThere action.needs core.inboxes
there-of core a action able there ins p low =
    let enough : need core.actor a p ≤ length (tokens_before core.inboxes p) =
    has-on (need core.actor a) (tokens_before core.inboxes) core.actor.ins p able.has (omega (arith, low, ins)) in
    let needed = need-is core.actor a p action there in
    let tokens = ap length (tokens-at core.inboxes p) in
    omega (arith, enough, needed, tokens)

pub a-low : (core : Core) (a : ℕ) → IsAble core.actor core.at (tokens_before core.inboxes) a → a < length core.actor.actions
a-low core a able = slice_get_within core.actor.actions a able.action able.there

module _ (old : Core) (sound : IsSound old) (a : ℕ) (to_fire : IsToFire old a) (room : HasRoomToSend old a)
    (action : Action) (there : slice_get old.actor.actions a ≡ Some action)
    (cells : Kept) (done : IsDone old.actor old.at a (tokens_before old.inboxes) old.cells.numbers cells.numbers) (made : IsMadeFor old.actor.code cells)
    (outboxes : List Queue) (sent : AreSent action cells.numbers old.outboxes outboxes)
    (inboxes : List Queue) (taken : AreTaken action.needs old.inboxes inboxes)
    (to : ℕ) (leads : target old.actor.fsm old.at a ≡ Some to) (low : to < old.actor.fsm.states) where
  abbrev pub fired : Core
  fired = record old { at = to; cells = cells; inboxes = inboxes; outboxes = outboxes }

  pub fired-sound : IsSound fired
  fired-sound = record {
    made = made;
    state = low;
    ins = taken.size ∙ sound.ins;
    outs = sent.size ∙ sound.outs;
    waiting = taken-within action.needs old.inboxes inboxes taken sound.waiting;
    sent = sent-all-within action cells.numbers old.outboxes outboxes sent sound.sent (have-room old a action there sound.outs room);
  }

  pub fired-to : FiresTo (seen old) a (seen fired)
  fired-to = fires-to old fired a action sound.ins sound.outs (record {
    there = there;
    is_of = refl;
    done = done;
    at = sym (ap (λ o. elim o [ None ↦ old.at | Some one ↦ one ]) leads);
    taken = taken;
    sent = sent;
    journal_room = refl;
    trapped = refl;
  }) to_fire
