use Rattle.std.proofs.Common.{◌≡◌, ◌≢◌, length, rules, sym}
use Rattle.cal_ast.specs.View.{expr_tree}
use Rattle.lower_base.specs.Callees.{function_view, functions_view}
use Rattle.lower_base.specs.Parted.{number_of}
use Rattle.lower_base.specs.PartView.{places_of}
use Rattle.lower_base.proofs.Adding.{places_number}
use Rattle.lower_base.proofs.Finding.{found_for, found_other}
use Rattle.lower_base.proofs.callees.function_for.Goals as goal

pub returns-then-len-args : goal.returns-then-len-args
returns-then-len-args c =
    let size : length c.in_ok-callee.callee.now.formals.items ≡ length c.args.args.now = search rules in
    sym (found_for c.args.text.now (functions_view c.args.callees.now) (number_of (places_of c.args.args.now)) (length c.args.args.now) (function_view c.in_ok-callee.callee.now) (sym c.in_ok-callee.ensures) size (places_number expr_tree c.args.args.now))

pub returns-else-len-args : goal.returns-else-len-args
returns-else-len-args c =
    let size : length c.in_ok-callee.callee.now.formals.items ≢ length c.args.args.now = search rules in
    sym (found_other c.args.text.now (functions_view c.args.callees.now) (number_of (places_of c.args.args.now)) (length c.args.args.now) (function_view c.in_ok-callee.callee.now) (sym c.in_ok-callee.ensures) size (places_number expr_tree c.args.args.now))
