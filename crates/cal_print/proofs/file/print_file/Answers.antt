use Rattle.std.proofs.lemmas.Result.{IfOk-weaker}
use Rattle.cal_print.proofs.Texts.{whole}
use Rattle.cal_print.proofs.file.print_file.Goals as goal

pub returns : goal.returns
returns c = IfOk-weaker c.into_bytes.result _ _ (λ text. whole text.items c.new-out.ensures c.print_whole.ensures) c.into_bytes.ensures
