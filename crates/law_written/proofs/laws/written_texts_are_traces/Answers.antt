use Rattle.law_written.proofs.Whole.{written_are_not_refused, written_are_traces}
use Rattle.law_written.proofs.laws.written_texts_are_traces.Goals as goal

pub returns-clause-traces : goal.returns-clause-traces
returns-clause-traces c = written_are_traces (record {
  spelled = c.network_files_are_spelled.ensures.spelled;
  formed = c.spelled_actors_are_formed.ensures;
  sound = c.sources_without_violations_are_sound.ensures;
  lawful = c.sound_actors_are_lawful.ensures;
})

pub returns-clause-not_refused : goal.returns-clause-not_refused
returns-clause-not_refused c = written_are_not_refused (record {
  spelled = c.network_files_are_spelled.ensures.spelled;
  formed = c.spelled_actors_are_formed.ensures;
  sound = c.sources_without_violations_are_sound.ensures;
  lawful = c.sound_actors_are_lawful.ensures;
}) c.flat_networks_are_wired.ensures c.no_trace_is_told_to_be_none.ensures
