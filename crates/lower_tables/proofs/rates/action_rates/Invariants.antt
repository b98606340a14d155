use Rattle.cal_model.specs.View.{actor_of}
use Rattle.lower_tables.specs.Tables.{AreRates}
use Rattle.lower_tables.proofs.rates.action_rates.Given as goal

abbrev pub invariant-loop-action : goal.invariant-loop-action
invariant-loop-action l = AreRates (actor_of l.b) l.action l.rates.items
