use Rattle.std.proofs.Common.{◌≡◌, ◌+◌, ◌++◌, [], ◌∷◌, drop, subst}
use Rattle.cal_ast.specs.View.{function_tree}
use Rattle.cal_check.specs.Routines.{fun_judged, with_fun}
use Rattle.const_env.specs.Held.{held, last_first, names_in}
use Rattle.check_functions.specs.Known.{fun_decl, fun_decls, known_at}
use Rattle.check_functions.proofs.Rounds.{IsRound, opened, round_more, round_none}
use Rattle.check_functions.proofs.Sized.{fun_named_so}
use Rattle.check_functions.proofs.seen.round.Goals as goal

pub loop-f-init : goal.loop-f-init
loop-f-init c =
    round_none (fun_decls c.args.funs.now) (last_first (known_at c.args.at_rest) c.args.known.now []) (names_in c.args.before.now) c.in_ok-next.next c.in_ok-next.ensures.names c.in_ok-next.ensures.no_funs c.requires

pub loop-f-preserved : goal.loop-f-preserved
loop-f-preserved c =
    let f = c.f-item.result in
    let known = last_first (known_at c.args.at_rest) c.args.known.now [] in
    let names = names_in c.args.before.now in
    let parts : drop c.loop-f.f-index c.args.funs.now ≡ f ∷ drop (c.loop-f.f-index + 1) c.args.funs.now = opened c.args.funs.now f c.loop-f.f-index c.loop-f-test.true c.f-item.is in
    let before : IsRound (fun_decl f ∷ fun_decls (drop (c.loop-f.f-index + 1) c.args.funs.now)) (fun_decls c.args.funs.now) known names c.loop-f.next =
    subst (λ fs. IsRound (fun_decls fs) (fun_decls c.args.funs.now) known names c.loop-f.next) parts c.loop-f.invariant in
    let added : (held c.add_over.new.next).funs ≡ (held c.loop-f.next).funs ++ with_fun (fun_judged f.name.now (function_tree f.decl.now) names) [] =
    subst (λ n. (held c.add_over.new.next).funs ≡ (held c.loop-f.next).funs ++ with_fun (fun_judged f.name.now (function_tree f.decl.now) n) []) c.outermost-names.ensures c.in_ok-add_over.ensures.added in
    round_more (λ g full decl ns. fun_named_so full decl ns g) (fun_decl f) (fun_decls (drop (c.loop-f.f-index + 1) c.args.funs.now)) (fun_decls c.args.funs.now) known names c.loop-f.next c.add_over.new.next
    before added c.in_ok-add_over.ensures.same_names
