use Rattle.lower_tables.proofs.RunAlike.{firings_suffice, guards_suffice}
use Rattle.lower_tables.proofs.laws.runs_suffice.Goals as goal

pub returns : goal.returns
returns c = record {
  guards = guards_suffice c.runs_are_the_meaning.ensures.guards;
  firings = firings_suffice c.runs_are_the_meaning.ensures.firings;
}
