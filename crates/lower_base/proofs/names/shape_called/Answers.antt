use Rattle.std.proofs.Common.{sym}
use Rattle.lower_base.specs.Names.{names_view}
use Rattle.lower_base.specs.Seen.{local_name, locals_of}
use Rattle.lower_base.proofs.Seeing.{hidden_shape}
use Rattle.lower_base.proofs.names.shape_called.Goals as goal

pub returns-in-Some : goal.returns-in-Some
returns-in-Some c =
    sym (hidden_shape c.args.text.now (locals_of c.args.scope.now.frame) (names_view c.args.scope.now.names.now) (local_name c.args.text.now c.in-Some.local) c.in-Some.ensures.hidden)
