use Rattle.std.proofs.Common.{◌≡◌, ◌∷◌, [], ◌++◌, map, ap, ◌∙◌, rules}
use Rattle.std.specs.Prelude.{string_bytes}
use Rattle.fnl_frames.specs.Views.{net_of}
use Rattle.fnl_bind.specs.Library.{network_of}
use Rattle.fnl_bind.specs.View.{entry_of}
use Rattle.fnl_bind.proofs.Found.{added_entry}
use Rattle.fnl_bind.proofs.set.NetSet.add.Goals as goal

pub returns-clause-added : goal.returns-clause-added
returns-clause-added c =
    let same : string_bytes c.in_ok-class.class ≡ c.args.class.now = search rules in
    ap (map entry_of) c.in_ok-insert.ensures.entries
    ∙ added_entry c.self.inside.nets c.in_ok-class.class (record { file = c.args.file; net = c.args.net }) c.args.class.now same (ap (λ es. network_of c.args.class.now (map entry_of es)) c.self.view_is ∙ c.requires)
    ∙ ap (λ es. map entry_of es ++ record { class = c.args.class.now; file = c.args.file; net = net_of c.args.net } ∷ []) c.self.view_is
