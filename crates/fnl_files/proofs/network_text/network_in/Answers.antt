use Rattle.std.proofs.lemmas.Result.{IfOk-weaker}
use Rattle.fnl_frames.specs.Views.{net_of}
use Rattle.fnl_files.proofs.network_text.network_in.Goals as goal

pub returns-clause-spelled : goal.returns-clause-spelled
returns-clause-spelled c =
    IfOk-weaker c.read_network.result _ _ (λ net h. c.files_are_read_as_they_are_spelled.ensures.spelled c.args.text.now (net_of net) h) c.read_network.ensures.read
