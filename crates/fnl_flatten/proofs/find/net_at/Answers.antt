use Rattle.std.proofs.Common.{map, slice_get, ap, ◌∙◌}
use Rattle.fnl_tree.specs.View.{net_of}
use Rattle.fnl_flatten.proofs.Lookups.{few_ports}
use Rattle.fnl_flatten.proofs.find.net_at.Goals as goal

pub returns-clause-few : goal.returns-clause-few
returns-clause-few c =
    few_ports c.args.tree.now.nets.items c.args.net c.nth_net.result
    (c.nth_net.ensures ∙ ap (λ nets. slice_get (map net_of nets) c.args.net) c.deref.ensures.value) c.requires.nets
