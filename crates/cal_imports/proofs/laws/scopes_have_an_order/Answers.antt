use Rattle.cal_imports.specs.Sources.{source_named}
use Rattle.cal_imports.proofs.Ordered.{found_order}
use Rattle.cal_imports.proofs.laws.scopes_have_an_order.Goals as goal

pub returns : goal.returns
returns c = λ scope it. found_order it.0 (source_named it.1 it.0) scope it.2
