use Rattle.std.proofs.Common.{ap, ◌∙◌}
use Rattle.std.specs.Prelude.{codes}
use Rattle.std.proofs.lemmas.Result.{IfOk-weaker}
use Rattle.cmd_gen_network.specs.Texts.{top_file}
use Rattle.cmd_gen_network.proofs.files.top_file.Goals as goal

pub returns : goal.returns
unfolding top_file
returns c = IfOk-weaker c.named.result _ _ (λ file is. is ∙ ap (λ b. record { name = codes "gen/Top.xdf"; bytes = b }) c.in_ok-text.ensures) c.named.ensures
