use Rattle.std.proofs.Common.{◌≡◌, ap, ◌∙◌, rules}
use Rattle.std.specs.Prelude.{string_bytes}
use Rattle.cal_files.specs.FileNames.{class_of, file_of}
use Rattle.cal_files.proofs.Cuts.{same_file}
use Rattle.cal_files.proofs.file_names.class_of.Goals as goal

pub returns-clause-same : goal.returns-clause-same
returns-clause-same c = λ is.
    let class : string_bytes c.push_replaced.new.text ≡ class_of c.args.file.now = search rules in
    ap file_of class ∙ same_file c.args.file.now is
