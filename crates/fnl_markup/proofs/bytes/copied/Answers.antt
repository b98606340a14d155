use Rattle.std.specs.List.{each_same}
use Rattle.fnl_markup.proofs.bytes.copied.Goals as goal

pub returns : goal.returns
returns c = each_same _ _ c.in_ok-copied.ensures.cases.0
