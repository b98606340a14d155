use Rattle.cal_check.proofs.KeptKinds.{kept, type-kept}
use Rattle.cal_check.proofs.PlainTrees.{plain}
use Rattle.cal_check.proofs.laws.written_keeps_kinds.Goals as goal

pub returns : goal.returns
returns c = record { of_expressions = kept; of_types = type-kept; is_plain = plain }
