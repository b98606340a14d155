use Rattle.std.proofs.Common.{Some, is_some}
use Rattle.std.proofs.lemmas.List.{map-set}
use Rattle.rvc_real.proofs.open_files.OpenFiles.keep.Goals as goal

pub returns : goal.returns
returns g c = rw (← c.self.view_is) (map-set is_some c.self.inside.files.items c.args.number (Some c.args.file))
