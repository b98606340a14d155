-- A burst on its way, for any implementation of it.
use Rattle.std.proofs.Common.{◌≡◌, ℕ, ◌+◌, ◌≤◌, ◌<◌, List, [], ◌∷◌, ◌++◌, length, refl, sym, ap, ◌∙◌, subst, inr, ⊎_elim, arith}
use Rattle.std.proofs.lemmas.List.{length-append}
use Rattle.std.specs.Prelude.{None, Some}
use Rattle.rvc_base.specs.declared.ids.ActId.{ActId}
use Rattle.rvc_base.specs.declared.trap.Trap.{Trap}
use Rattle.rvc_base.specs.Behaviour.{TrapsInGuard, Picks}
use Rattle.rvc_base.specs.Lawful.{IsLawful}
use Rattle.net_model.specs.declared.firing.BurstEnd.{BurstEnd}
use Rattle.net_model.specs.declared.firing.BurstEnd.TheVariants as burst
use Rattle.net_model.specs.declared.firing.Tried.{Tried}
use Rattle.net_model.specs.declared.firing.Tried.TheVariants as tried
use Rattle.net_model.specs.Cell.{Cell, number_on, held_after, HasRoom, AreRooms, IsSameActor, IsSame, FiresTo, FiresChoice, FireInTurn, EndsBurst, Bursts, Tries}
use Rattle.net_model.specs.Cell.{effect_of as cell_effect, choice_of as cell_choice}

-- so many selected firings were made
pub record BurstSoFar {X : Type 0} (rooms : List ℕ) (old : Cell X) (count : ℕ) (now : Cell X) : Type 0 where
  pub actions : List ℕ
  pub fired : FireInTurn rooms old actions now
  pub counted : length actions ≡ count
  pub noted : length now.journal ≡ length old.journal + count
  pub actor : IsSameActor old now
  pub trapped : now.trapped ≡ old.trapped

pub same_actor : {X : Type 0} (cell : Cell X) → IsSameActor cell cell
same_actor cell = record {
  same_actor = refl;
  same_inbox_capacities = λ p low. refl;
  same_outbox_capacities = λ p low. refl;
  same_journal_room = refl;
}

pub same_cell : {X : Type 0} (cell : Cell X) → IsSame cell cell
same_cell cell = record {
  actor = same_actor cell;
  state = refl;
  inboxes = λ p low. refl;
  outboxes = λ p low. refl;
  journal = refl;
  trapped = refl;
}

pub actor_then : {X : Type 0} (a b c : Cell X) → IsSameActor a b → IsSameActor b c → IsSameActor a c
actor_then a b c one two = record {
  same_actor = two.same_actor ∙ one.same_actor;
  same_inbox_capacities = λ p low. two.same_inbox_capacities p (subst (λ actor. p < actor.ins) (sym one.same_actor) low) ∙ one.same_inbox_capacities p low;
  same_outbox_capacities = λ p low. two.same_outbox_capacities p (subst (λ actor. p < actor.outs) (sym one.same_actor) low) ∙ one.same_outbox_capacities p low;
  same_journal_room = two.same_journal_room ∙ one.same_journal_room;
}

-- rooms stay rooms
pub rooms_stay : {X : Type 0} (rooms : List ℕ) (old new : Cell X) → IsSameActor old new → AreRooms old rooms → AreRooms new rooms
rooms_stay rooms old new same are = record {
  count = are.count ∙ sym (ap (λ actor. actor.outs) same.same_actor);
  read = λ p low some.
      let within : p < old.actor.outs = subst (λ actor. p < actor.outs) same.same_actor low in
      let is : number_on new.outbox_capacities p ≡ number_on old.outbox_capacities p = same.same_outbox_capacities p within in
      let most : number_on rooms p ≤ number_on old.outbox_capacities p = are.read p within (omega arith) in
      omega arith;
  unread = λ p low none.
      let within : p < old.actor.outs = subst (λ actor. p < actor.outs) same.same_actor low in
      are.unread p within (sym (same.same_outbox_capacities p within) ∙ none);
}

pub burst_starts : {X : Type 0} (rooms : List ℕ) (cell : Cell X) → BurstSoFar rooms cell 0 cell
burst_starts rooms cell = record {
  actions = [];
  fired = refl;
  counted = refl;
  noted = omega arith;
  actor = same_actor cell;
  trapped = refl;
}

fire_then : {X : Type 0} (rooms : List ℕ) (old mid new : Cell X) (actions : List ℕ) (a : ℕ) → FireInTurn rooms old actions mid
    → FiresChoice rooms mid a new → FireInTurn rooms old (actions ++ a ∷ []) new
fire_then rooms old mid new [] a same fires = (new, subst (λ cell. FiresChoice rooms cell a new) (sym same) fires, refl)
fire_then rooms old mid new (b ∷ actions) a fired fires = (fired.0, fired.1, fire_then rooms fired.0 mid new actions a fired.2 fires)

pub burst_more : {X : Type 0} (rooms : List ℕ) (old mid new : Cell X) (count a : ℕ) → BurstSoFar rooms old count mid
    → FiresChoice rooms mid a new → BurstSoFar rooms old (count + 1) new
burst_more rooms old mid new count a so_far fires =
    let longer : length new.journal ≡ length mid.journal + 1 = ap length fires.noted ∙ length-append mid.journal (a ∷ []) in
    let more : length (so_far.actions ++ a ∷ []) ≡ length so_far.actions + 1 = length-append so_far.actions (a ∷ []) in
    record {
      actions = so_far.actions ++ a ∷ [];
      fired = fire_then rooms old mid new so_far.actions a so_far.fired fires;
      counted = omega (arith, so_far.counted, more);
      noted = omega (arith, so_far.noted, longer);
      actor = actor_then old mid new so_far.actor fires.fired.actor;
      trapped = fires.fired.trapped ∙ so_far.trapped;
    }

pub burst_ends : {X : Type 0} (rooms : List ℕ) (limit count : ℕ) (old last new : Cell X) (end : BurstEnd) → BurstSoFar rooms old count last
    → count ≤ limit → EndsBurst rooms limit count last end new → Bursts rooms limit old end new
burst_ends rooms limit count old last new end so_far few ends = record {
  actions = so_far.actions;
  last = last;
  few = omega (arith, so_far.counted);
  fired = so_far.fired;
  ends = subst (λ n. EndsBurst rooms limit n last end new) (sym so_far.counted) ends;
}

-- a chosen action has an effect, and its guards don't trap
no_guard_trap : {X : Type 0} (cell : Cell X) (a : ℕ) (cause : Trap) → IsLawful cell.actor → cell_choice cell ≡ Picks a
    → cell_effect cell a ≡ Some (TrapsInGuard cause) → ⊥
no_guard_trap cell a cause lawful chosen traps = ⊎_elim
    (λ fires. let is = fires.2 in cc) (λ body. let is = body.1 in cc) (lawful.picks cell.state cell.inboxes a chosen)

has_effect : {X : Type 0} (cell : Cell X) (a : ℕ) → IsLawful cell.actor → cell_choice cell ≡ Picks a → cell_effect cell a ≡ None → ⊥
has_effect cell a lawful chosen none = ⊎_elim
    (λ fires. let is = fires.2 in cc) (λ body. let is = body.1 in cc) (lawful.picks cell.state cell.inboxes a chosen)

-- what a chosen action with room can't answer
pub tried_done : {X : Type 0} (rooms : List ℕ) (old new : Cell X) (a : ℕ) (result : Tried) → IsLawful old.actor
    → cell_choice old ≡ Picks a → HasRoom old rooms a → Tries rooms a old result new
    → (result ≡ tried.Fired → ⊥) → ((cause : Trap) → result ≡ tried.Trap cause → ⊥) → ⊥
tried_done rooms old new a tried.Fired lawful chosen room tries fired trapped = fired refl
tried_done rooms old new a (tried.Trap cause) lawful chosen room tries fired trapped = trapped cause refl
tried_done rooms old new a tried.NotExposed lawful chosen room tries fired trapped = has_effect old a lawful chosen tries.0
tried_done rooms old new a (tried.NoRoom port) lawful chosen room tries fired trapped =
    let enough : held_after old a port ≤ number_on rooms port = room port tries.1.there in
    omega (arith, tries.1.lacks)

-- a chosen action with room that traps ends a burst
pub ends_by_trap : {X : Type 0} (rooms : List ℕ) (limit fired : ℕ) (last new : Cell X) (action : ActId) (cause : Trap) → IsLawful last.actor
    → fired < limit → cell_choice last ≡ Picks action.0 → HasRoom last rooms action.0
    → Tries rooms action.0 last (tried.Trap cause) new → EndsBurst rooms limit fired last (burst.Trap action cause) new
ends_by_trap rooms limit fired last new action cause lawful few chosen room tries = ⊎_elim
    (λ guard. absurd (no_guard_trap last action.0 cause lawful chosen guard))
    (λ body. (few, inr (chosen, body.0, body.1), tries.1)) tries.0

-- a chosen action with room that fires, and is noted then
pub fires_choice : {X : Type 0} (rooms : List ℕ) (old mid new : Cell X) (a : ℕ) → cell_choice old ≡ Picks a → HasRoom old rooms a
    → Tries rooms a old tried.Fired mid → new ≡ record mid { journal = mid.journal ++ a ∷ [] } → FiresChoice rooms old a new
fires_choice rooms old mid new a chosen room tries is =
    let fired : FiresTo old a mid = tries.1 in
    subst (λ cell. FiresChoice rooms old a cell) (sym is) (record {
      chosen = chosen;
      room = room;
      fired = record {
        next = fired.next;
        sent = fired.sent;
        effect = fired.effect;
        actor = record {
          same_actor = fired.actor.same_actor;
          same_inbox_capacities = fired.actor.same_inbox_capacities;
          same_outbox_capacities = fired.actor.same_outbox_capacities;
          same_journal_room = fired.actor.same_journal_room;
        };
        state = fired.state;
        taken = fired.taken;
        read = fired.read;
        unread = fired.unread;
        trapped = fired.trapped;
      };
      noted = ap (λ js. js ++ a ∷ []) tries.2;
    })
