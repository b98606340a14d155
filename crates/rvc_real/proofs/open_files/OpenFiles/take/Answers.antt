use Rattle.std.proofs.Common.{is_some, None}
use Rattle.std.proofs.lemmas.List.{map-set}
use Rattle.rvc_real.proofs.open_files.OpenFiles.take.Goals as goal

pub returns-clause-open : goal.returns-clause-open
returns-clause-open g c = rw (c.take.ensures.after, ← c.self.view_is) (map-set is_some c.self.inside.files.items c.args.number None)
