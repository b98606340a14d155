use Rattle.std.proofs.Common.{◌≡◌, true, subst, rules}
use Rattle.check_functions.specs.Known.{fun_decls}
use Rattle.check_functions.specs.Needs.{needs_of}
use Rattle.check_functions.specs.Order.{Extends, all_seen}
use Rattle.check_functions.proofs.Visiting.{ordered}
use Rattle.check_functions.proofs.order.order_of.Goals as goal

pub returns-then-branch : goal.returns-then-branch
returns-then-branch c =
    let fs = fun_decls c.args.funs.now in
    let new = c.visit_all.new.order in
    let all : all_seen (needs_of fs).calls new.names ≡ true = search rules in
    ordered fs new (subst (λ o. Extends fs o new) c.in_ok-order.ensures c.in_ok-visit_all.ensures.extends) all
