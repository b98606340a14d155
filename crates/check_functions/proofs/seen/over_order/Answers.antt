use Rattle.std.proofs.Common.{[]}
use Rattle.const_env.specs.Held.{last_first}
use Rattle.check_functions.specs.Known.{fun_decls, known_at}
use Rattle.check_functions.proofs.Laid.{laid_ok}
use Rattle.check_functions.proofs.seen.over_order.Goals as goal

pub returns : goal.returns
returns c =
    laid_ok c.args.order.now (fun_decls c.args.funs.now) c.requires.ordered c.requires.differ (last_first (known_at c.args.at_rest) c.args.known.now []) c.args.env.now c.lay_all.new.env
    c.requires.names c.requires.no_funs c.in_ok-lay_all.ensures c.round.result c.round.ensures.names c.round.ensures.funs
