use Rattle.std.proofs.Common.{◌≡◌, [], IfErr, map, subst}
use Rattle.cal_ast.specs.Tree.{Tree}
use Rattle.cal_files.specs.FileText.{IsFile}
use Rattle.cmd_report.specs.declared.status.Status.TheVariants.{OutOfMemory}
use Rattle.rvc_words.specs.Words.{port_text}
use Rattle.cmd_fmt.specs.Formatting.{unread}
use Rattle.cmd_fmt.proofs.Printed.{printed-if, read-or-memory}
use Rattle.cmd_fmt.proofs.printing.canonical_text.Goals as goal

pub returns-in-Err-clause-refused : goal.returns-in-Err-clause-refused
returns-in-Err-clause-refused g c = λ refusal answered. unread refusal (c.in-Err.ensures.refused refusal answered)

pub returns-in-Err-clause-complete : goal.returns-in-Err-clause-complete
returns-in-Err-clause-complete g c = λ tree has quiet.
    read-or-memory (g.L.Library.file c.args.library.now c.args.top.now) (map port_text c.args.ports.now) tree (g.L.Library.misses c.args.library.now) (g.L.Library.misses c.read_top.new.library) (g.L.Library.faults c.args.library.now) (g.L.Library.faults c.read_top.new.library) c.in-Err.status has quiet c.in-Err.ensures.only c.in-Err.ensures.refused c.in-Err.ensures.fault

pub returns-in-Ok-clause-complete : goal.returns-in-Ok-clause-complete
returns-in-Ok-clause-complete g c = λ tree has quiet.
    printed-if (g.L.Library.file c.args.library.now c.args.top.now) c.in-Ok.text.items (map port_text c.args.ports.now) tree c.canonical_of.result has c.in-Ok.ensures.found
    (subst (λ t. (other : Tree) → IsFile t other → map port_text c.args.ports.now ≡ [] → IfErr c.canonical_of.result (λ s. s ≡ OutOfMemory)) c.as_slice.ensures.value c.canonical_of.ensures.complete)
