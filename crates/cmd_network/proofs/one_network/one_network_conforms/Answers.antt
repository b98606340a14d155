use Rattle.cmd_network.proofs.one_network.one_network_conforms.Goals as goal

pub returns : goal.returns
returns c opened library top words net other tells one two =
    c.one_library_network.ensures.network library top net other tells one.means two.means
