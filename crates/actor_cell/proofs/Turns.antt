-- Selected firings one after another.
use Rattle.std.proofs.Common.{◌≡◌, ℕ, ◌+◌, ◌<◌, ◌≤◌, List, [], ◌∷◌, ◌++◌, length, refl, sym, ap, subst, ◌∙◌, arith, append_assoc, append-nil}
use Rattle.std.proofs.lemmas.List.{length-append}
use Rattle.net_model.specs.Cell.{Cell, AreRooms, Bursts, EndsBurst, FireInTurn, FiresChoice, IsSame, IsSameActor, number_on}
use Rattle.net_model.specs.declared.firing.BurstEnd.{BurstEnd}
use Rattle.net_model.specs.declared.firing.BurstEnd.TheVariants as burst

module _ {X : Type 0} where
  pub same-then : (old mid new : Cell X) → IsSameActor old mid → IsSameActor mid new → IsSameActor old new
  same-then old mid new first second = record {
    same_actor = second.same_actor ∙ first.same_actor;
    same_inbox_capacities = λ p low.
        second.same_inbox_capacities p (subst (λ actor. p < actor.ins) (sym first.same_actor) low) ∙ first.same_inbox_capacities p low;
    same_outbox_capacities = λ p low.
        second.same_outbox_capacities p (subst (λ actor. p < actor.outs) (sym first.same_actor) low) ∙ first.same_outbox_capacities p low;
    same_journal_room = second.same_journal_room ∙ first.same_journal_room;
  }

  pub same-rooms : (old new : Cell X) (rooms : List ℕ) → IsSameActor old new → AreRooms old rooms → AreRooms new rooms
  same-rooms old new rooms same are = record {
    count = are.count ∙ ap (λ actor. actor.outs) (sym same.same_actor);
    read = λ p low read.
        let there : p < old.actor.outs = subst (λ actor. p < actor.outs) same.same_actor low in
        let capacity = same.same_outbox_capacities p there in
        subst (λ c. number_on rooms p ≤ c) (sym capacity) (are.read p there (subst (λ c. 0 < c) capacity read));
    unread = λ p low unread.
        let there : p < old.actor.outs = subst (λ actor. p < actor.outs) same.same_actor low in
        are.unread p there (sym (same.same_outbox_capacities p there) ∙ unread);
  }

  pub fire-one-more : (rooms : List ℕ) (old mid new : Cell X) (actions : List ℕ) (a : ℕ) → FireInTurn rooms old actions mid → FiresChoice rooms mid a new
      → FireInTurn rooms old (actions ++ a ∷ []) new
  fire-one-more rooms old mid new [] a so_far more = (new, subst (λ c. FiresChoice rooms c a new) (sym so_far) more, refl)
  fire-one-more rooms old mid new (b ∷ bs) a so_far more = (so_far.0, so_far.1, fire-one-more rooms so_far.0 mid new bs a so_far.2 more)

  -- so many turns of a burst were made
  pub record HasFired (rooms : List ℕ) (turns : ℕ) (old now : Cell X) : Type 0 where
    pub actions : List ℕ
    pub count : length actions ≡ turns
    pub fired : FireInTurn rooms old actions now
    pub actor : IsSameActor old now
    pub noted : now.journal ≡ old.journal ++ actions
    pub trapped : now.trapped ≡ old.trapped

  pub fired-none : (rooms : List ℕ) (old : Cell X) → HasFired rooms 0 old old
  fired-none rooms old = record {
    actions = [];
    count = refl;
    fired = refl;
    actor = record { same_actor = refl; same_inbox_capacities = λ p low. refl; same_outbox_capacities = λ p low. refl; same_journal_room = refl };
    noted = sym (append-nil old.journal);
    trapped = refl;
  }

  pub fired-more : (rooms : List ℕ) (turns : ℕ) (old now new : Cell X) → HasFired rooms turns old now → (a : ℕ) → FiresChoice rooms now a new
      → HasFired rooms (turns + 1) old new
  fired-more rooms turns old now new so_far a more = record {
    actions = so_far.actions ++ a ∷ [];
    count = length-append so_far.actions (a ∷ []) ∙ ap (λ n. n + 1) so_far.count;
    fired = fire-one-more rooms old now new so_far.actions a so_far.fired more;
    actor = same-then old now new so_far.actor more.fired.actor;
    noted = more.noted ∙ (ap (λ js. js ++ a ∷ []) so_far.noted ∙ append_assoc old.journal so_far.actions (a ∷ []));
    trapped = more.fired.trapped ∙ so_far.trapped;
  }

  -- the burst is over: its number is spent, or no action fires any more
  pub spent : (rooms : List ℕ) (turns limit : ℕ) (old now : Cell X) → HasFired rooms turns old now → turns ≡ limit → IsSame now now
      → Bursts rooms limit old burst.Spent now
  spent rooms turns limit old now so_far all same = record {
    actions = so_far.actions;
    last = now;
    few = let count = so_far.count in omega (arith, count, all);
    fired = so_far.fired;
    ends = (so_far.count ∙ all, same);
  }

  ends-later : (rooms : List ℕ) (limit fired : ℕ) (now new : Cell X) (end : BurstEnd) → fired < limit → EndsBurst rooms 1 0 now end new
      → EndsBurst rooms limit fired now end new
  ends-later rooms limit fired now new burst.Spent low ends = absurd (let none = ends.0 in omega (arith, none))
  ends-later rooms limit fired now new burst.Waits low ends = (low, ends.1, ends.2)
  ends-later rooms limit fired now new (burst.NoRoom action port) low ends = (low, ends.1, ends.2, ends.3)
  ends-later rooms limit fired now new (burst.Trap action cause) low ends = (low, ends.1, ends.2)

  pub ended : (rooms : List ℕ) (turns limit : ℕ) (old now new : Cell X) (end : BurstEnd) → HasFired rooms turns old now → turns < limit
      → EndsBurst rooms 1 0 now end new → Bursts rooms limit old end new
  ended rooms turns limit old now new end so_far low ends = record {
    actions = so_far.actions;
    last = now;
    few = let count = so_far.count in omega (arith, count, low);
    fired = so_far.fired;
    ends = ends-later rooms limit (length so_far.actions) now new end (let count = so_far.count in omega (arith, count, low)) ends;
  }
