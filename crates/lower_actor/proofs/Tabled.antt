-- Parts with the tables of an actor and the code of its actions.
use Rattle.std.proofs.Common.{◌≡◌, length, take, refl, sym, subst, ◌∙◌}
use Rattle.std.proofs.lemmas.List.{length-map}
use Rattle.cal_model.specs.declared.bound.Bound.{Bound}
use Rattle.cal_model.specs.Actor.{Actor}
use Rattle.cal_model.specs.Eligible.{start_state}
use Rattle.cal_model.specs.Selection.{start_of}
use Rattle.cal_model.specs.Sound.{IsSound, scalars_of_vars}
use Rattle.cal_model.specs.View.{action_view, actor_of, port_view}
use Rattle.lower_base.specs.declared.draft.Draft.{Draft}
use Rattle.lowered_actor.specs.declared.parts.Parts.{Parts}
use Rattle.lowered_actor.specs.Actor as coded
use Rattle.lowered_actor.specs.Facts.{IsLowered}
use Rattle.action_lower.specs.Seats.{numbers_of_vars, state_cells}
use Rattle.lower_tables.specs.Carrying.{HasTables}
use Rattle.lower_tables.specs.Laws.{BehavesAsMeant, FiringRunsSuffice, GuardRunsSuffice, RatesAreMeant}
use Rattle.lower_tables.specs.Tables.{AreRatesOf, IsPriority, IsSchedule, saved_from}
use Rattle.lower_actor.specs.Coded.{AreCodedActions, IsCodeOf, IsMadeOf}
use Rattle.lower_actor.specs.Standing.{StandsForActor}
use Rattle.lower_actor.proofs.Likeness.{mapped, stands-for}

module _ (b : Bound) (parts : Parts) (draft : Draft) (schedule : IsSchedule (actor_of b) parts.fsm) (start : parts.start ≡ start_state (actor_of b)) (priority : IsPriority (actor_of b) parts.order)
    (are : AreCodedActions (actor_of b) (length b.actions.items) parts.actions.items draft) (kept : parts.kept ≡ scalars_of_vars (actor_of b).vars) (saved : parts.saved.items ≡ saved_from 0 (actor_of b).vars)
    (ins : parts.ins ≡ length b.ins.items) (outs : parts.outs ≡ length b.outs.items) where
  abbrev actor : Actor
  actor = actor_of b

  all : AreCodedActions actor (length actor.actions) parts.actions.items draft
  all = subst (λ n. AreCodedActions actor n parts.actions.items draft) (sym (length-map b.actions.items action_view)) are

  has-tables : HasTables actor (coded.actor_of parts)
  has-tables = record {
    schedule = schedule;
    start = start;
    priority = priority;
    actions = length-map parts.actions.items coded.action_of ∙ all.count;
    rates = λ a action e.
        let k = mapped coded.action_of parts.actions.items a action e in
        subst (λ c. AreRatesOf actor a c.needs c.gives) k.2 (all.each a k.0 k.1).rates;
    kept = kept;
    saved = saved;
    ins = ins ∙ sym (length-map b.ins.items port_view);
    outs = outs ∙ sym (length-map b.outs.items port_view);
  }

  pub parts-stand : (l : coded.Actor) → IsMadeOf parts l → IsSound actor → IsCodeOf draft (coded.actor_of parts).code
      → take (state_cells actor) parts.first.items ≡ numbers_of_vars (start_of actor).vars
      → RatesAreMeant → GuardRunsSuffice → FiringRunsSuffice → BehavesAsMeant → StandsForActor actor l
  parts-stand l made sound code first rates guards firings law =
      let one = stands-for actor sound (coded.actor_of parts) (subst IsLowered made.same made.facts) has-tables draft code parts.actions.items all refl first rates guards firings law in
      subst (StandsForActor actor) (sym made.same) one
