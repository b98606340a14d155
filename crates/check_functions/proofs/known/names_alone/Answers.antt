use Rattle.std.proofs.Common.{[], ◌∙◌}
use Rattle.check_functions.specs.Known.{all_known}
use Rattle.check_functions.proofs.Rounds.{known_first, names_so}
use Rattle.check_functions.proofs.known.names_alone.Goals as goal

pub returns : goal.returns
returns c =
    names_so (all_known c.args.known.now) [] c.in_ok-env.env (c.in_ok-env.ensures.names ∙ known_first c.args.known.now []) c.in_ok-env.ensures.no_funs
