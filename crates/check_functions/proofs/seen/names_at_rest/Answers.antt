use Rattle.std.proofs.Common.{◌≡◌, [], map, true}
use Rattle.std.proofs.lemmas.Result.{IfOk-weaker}
use Rattle.cal_check.specs.Actors.{at_rest}
use Rattle.cal_check.specs.Variables.{seen}
use Rattle.const_env.specs.Held.{last_first, names_in}
use Rattle.check_functions.specs.Known.{all_known, fun_decls, known_at}
use Rattle.check_functions.proofs.Rounds.{rest_seen}
use Rattle.check_functions.proofs.seen.names_at_rest.Goals as goal

pub returns : goal.returns
returns c =
    IfOk-weaker c.with_funs.result (λ env. names_in env ≡ seen (fun_decls c.args.funs.now) (last_first (known_at true) c.args.known.now []))
    (λ env. names_in env ≡ seen (fun_decls c.args.funs.now) (map at_rest (all_known c.args.known.now)))
    (λ env h. rest_seen (fun_decls c.args.funs.now) c.args.known.now (names_in env) h) c.with_funs.ensures
