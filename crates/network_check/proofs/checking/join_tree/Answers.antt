use Rattle.std.proofs.lemmas.Result.{IfErr-weaker, IfOk-weaker}
use Rattle.fnl_tree.specs.View.{tree_of}
use Rattle.fnl_files.specs.Views.{files_in}
use Rattle.network_check.specs.Checked.{HasSource}
use Rattle.network_check.specs.Steps.{IsJoined, IsNotJoined, IsWhy}
use Rattle.network_check.proofs.Causes.{why_links}
use Rattle.network_check.proofs.Sourced.{joined_source, peopled_whole}
use Rattle.network_check.proofs.checking.join_tree.Goals as goal

pub join-requires-clause-whole : goal.join-requires-clause-whole
join-requires-clause-whole c =
    peopled_whole (files_in c.args.files.now) c.args.class.now (tree_of c.args.tree.now) c.args.found c.actors_are_leaves_of_a_network.ensures c.answers_are_the_source_network.ensures.whole c.requires

pub returns-clause-checked : goal.returns-clause-checked
returns-clause-checked c =
    IfOk-weaker c.join.result (IsJoined (tree_of c.args.tree.now) c.args.found) (HasSource (files_in c.args.files.now) c.args.class.now)
    (λ x j. joined_source (files_in c.args.files.now) c.args.class.now (tree_of c.args.tree.now) c.args.found x
    c.one_network.ensures.actor c.actors_are_leaves_of_a_network.ensures c.answers_are_the_source_network.ensures.network c.requires j)
    c.join.ensures.joined

pub returns-clause-refused : goal.returns-clause-refused
returns-clause-refused c =
    IfErr-weaker c.join.result (IsNotJoined (tree_of c.args.tree.now) c.args.found) (IsWhy (files_in c.args.files.now) c.args.class.now)
    (λ f h. why_links (files_in c.args.files.now) c.args.class.now (tree_of c.args.tree.now) c.args.found f c.requires h)
    c.join.ensures.refused

pub join-requires-clause-within : goal.join-requires-clause-within
join-requires-clause-within c = c.requires.stand.within

pub join-requires-clause-sound : goal.join-requires-clause-sound
join-requires-clause-sound c = c.requires.stand.sound.each
