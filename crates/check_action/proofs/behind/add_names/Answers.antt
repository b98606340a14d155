use Rattle.std.proofs.Common.{ap, map, string_bytes}
use Rattle.cal_model.specs.Sound.{kind_of_tokens, with_pattern}
use Rattle.check_stmt.specs.Declaring.{seen_behind}
use Rattle.check_action.proofs.Walks.{names_next}
use Rattle.check_action.proofs.behind.add_names.Goals as goal

pub names-preserved : goal.names-preserved
names-preserved c =
    let k = kind_of_tokens c.args.t c.args.repeat in
    names_next (map string_bytes c.names.rest.now) (map string_bytes c.in-Some.others.now) (string_bytes c.in-Some.first.now) k c.names.seen c.add.new.self c.in_ok-next.next
    (λ n. with_pattern k (map string_bytes c.args.names.now) (seen_behind c.args.seen.now n))
    (ap (map string_bytes) c.in-Some.ensures.cases.0) c.in_ok-add.ensures.added c.in_ok-next.ensures c.names.invariant
