use Rattle.std.proofs.Common.{map, ap, ◌∙◌}
use Rattle.std.specs.Prelude.{option_map}
use Rattle.fnl_bind.specs.Library.{network_of}
use Rattle.fnl_bind.specs.View.{entry_of, entry_under}
use Rattle.fnl_bind.proofs.Found.{found_borrowed, found_entry}
use Rattle.fnl_bind.proofs.set.NetSet.get.Goals as goal

pub returns : goal.returns
returns c =
    found_borrowed c.args.class.now c.get.result
    ∙ ap (option_map (entry_under c.args.class.now)) c.get.ensures.value
    ∙ found_entry c.args.class.now c.self.inside.nets.entries
    ∙ ap (λ es. network_of c.args.class.now (map entry_of es)) c.self.view_is
