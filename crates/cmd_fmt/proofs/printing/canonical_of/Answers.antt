use Rattle.std.proofs.Common.{◌≡◌, map, subst, rules}
use Rattle.rvc_base.specs.declared.refusal.Front.TheVariants as front
use Rattle.cal_ast.specs.View.{file_tree}
use Rattle.rvc_words.specs.Words.{port_text}
use Rattle.cmd_fmt.specs.Formatting.{IsUnprinted, names_port}
use Rattle.cal_files.specs.FileText.{IsRightly}
use Rattle.cmd_fmt.proofs.Printed.{never-refused, rule-refusal}
use Rattle.cmd_fmt.proofs.printing.canonical_of.Goals as goal

pub returns-in-Ok-clause-refused : goal.returns-in-Ok-clause-refused
returns-in-Ok-clause-refused c = λ source misses_old misses_new refusal is_text answered.
    names_port c.args.text.now (file_tree c.in-Ok.file) refusal is_text c.in-Ok.ensures.spelled (c.print_alone.ensures.refused refusal answered)

pub returns-in-Err-Refused-clause-refused : goal.returns-in-Err-Refused-clause-refused
returns-in-Err-Refused-clause-refused c = λ source misses_old misses_new refusal is_text answered.
    let same : c.in-Err-Refused.refusal ≡ refusal = cc in
    let rightly : IsRightly 1 c.args.text.now (front.Refused c.in-Err-Refused.refusal) = search rules in
    subst (λ r. IsUnprinted (map port_text c.args.ports.now) source misses_old misses_new r) same (rule-refusal (map port_text c.args.ports.now) source misses_old misses_new c.args.text.now c.in-Err-Refused.refusal is_text rightly)

pub returns-in-Err-Refused-clause-complete : goal.returns-in-Err-Refused-clause-complete
returns-in-Err-Refused-clause-complete c = λ tree is none. never-refused c.file_of.result c.in-Err-Refused.field-0 c.in-Err-Refused.refusal c.in-Err-Refused.is c.in-Err-Refused.field-0-is (c.file_of.ensures.read tree is)
