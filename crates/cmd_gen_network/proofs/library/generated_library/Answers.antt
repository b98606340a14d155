use Rattle.std.proofs.Common.{sym, subst}
use Rattle.std.specs.Prelude.{IsTrue}
use Rattle.rvc_io.specs.Files.{are_distinct}
use Rattle.cmd_gen_network.proofs.Distinct.{distinct}
use Rattle.cmd_gen_network.proofs.library.generated_library.Goals as goal

pub new-requires-2 : goal.new-requires-2
new-requires-2 c = subst (λ files. IsTrue (are_distinct files)) (sym c.in_ok-files.ensures) (distinct c.args.instances)
