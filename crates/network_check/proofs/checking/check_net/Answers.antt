use Rattle.fnl_files.specs.Views.{files_in}
use Rattle.network_check.proofs.Causes.{bare_net, why_networks}
use Rattle.network_check.proofs.checking.check_net.Goals as goal

pub check_tree-requires : goal.check_tree-requires
check_tree-requires c =
    bare_net (files_in c.args.files.now) c.args.class.now c.in-Ok.tree c.answers_are_the_source_network.ensures.bound c.requires.ready c.requires.net
    c.in-Ok.ensures.bound c.in-Ok.ensures.sound

pub returns-in-Err-clause-refused : goal.returns-in-Err-clause-refused
returns-in-Err-clause-refused c =
    why_networks (files_in c.args.files.now) c.args.class.now c.in-Err.front c.requires.net c.in-Err.ensures.refused
