use Rattle.fnl_source.proofs.Answered.{actors_make_whole, answers_are_source, bound_are_trees}
use Rattle.fnl_source.proofs.Heads.{actors_have_heads}
use Rattle.fnl_source.proofs.LoneTrees.{lone_trees_are_sound}
use Rattle.fnl_source.proofs.laws.answers_are_the_source_network.Goals as goal

pub returns-clause-heads : goal.returns-clause-heads
returns-clause-heads c = actors_have_heads

pub returns-clause-lone : goal.returns-clause-lone
returns-clause-lone c = lone_trees_are_sound

pub returns-clause-whole : goal.returns-clause-whole
returns-clause-whole c = actors_make_whole

pub returns-clause-bound : goal.returns-clause-bound
returns-clause-bound c = bound_are_trees

pub returns-clause-network : goal.returns-clause-network
returns-clause-network c = answers_are_source
