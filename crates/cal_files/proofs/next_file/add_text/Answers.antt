use Rattle.std.proofs.Common.{◌+◌, ◌<◌, length, sym, subst, rules}
use Rattle.std.specs.Prelude.{◌⊎◌}
use Rattle.cal_ast.specs.View.{file_tree}
use Rattle.cal_files.specs.Loading.{max_bytes, max_files}
use Rattle.cal_files.specs.SoFar.{IsBroken, request_of}
use Rattle.cal_files.proofs.Stops.{broken_limit, broken_text}
use Rattle.cal_files.proofs.next_file.add_text.Goals as goal

pub returns-in-Err-clause-broken : goal.returns-in-Err-clause-broken
returns-in-Err-clause-broken c =
    subst (λ f. IsBroken c.args.text.now (request_of c.args.request.now) c.args.number c.args.loading.now.bytes f) (sym c.of_front.ensures)
    (broken_text c.args.text.now (request_of c.args.request.now) c.args.number c.args.loading.now.bytes c.in-Err.front c.in-Err.ensures.refused)

pub returns-in-Err-check_limits-clause-broken : goal.returns-in-Err-check_limits-clause-broken
returns-in-Err-check_limits-clause-broken c =
    let passes : (max_files < c.args.number) ⊎ (max_bytes < c.args.loading.now.bytes + length c.args.text.now) = search rules in
    broken_limit c.args.text.now (file_tree c.in-Ok.tree) (request_of c.args.request.now) c.args.number c.args.loading.now.bytes c.in-Err-check_limits.fault
    c.in-Ok.ensures.spelled c.in-Err-check_limits.ensures.refused passes
