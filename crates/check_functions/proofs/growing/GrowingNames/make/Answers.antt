use Rattle.std.proofs.Common.{sym, subst}
use Rattle.cal_check.specs.Variables.{seen}
use Rattle.const_env.specs.Held.{names_in}
use Rattle.check_functions.specs.Growing.{Growing, IsMade, kept_in}
use Rattle.check_functions.specs.Known.{all_known, fun_decls}
use Rattle.check_functions.proofs.Making.{cleared, is_made, kept_made, kept_renewed, made_cleared, renewed_some}
use Rattle.check_functions.proofs.growing.GrowingNames.make.Goals as goal

pub returns-then-branch-clause-kept : goal.returns-then-branch-clause-kept
returns-then-branch-clause-kept c =
    let fs = fun_decls c.args.funs.now in
    let known = all_known c.args.known.now in
    let now : Growing = record { alone = c.self.inside.alone; order = c.self.inside.order; said = c.self.inside.said; seen = c.self.inside.seen; left = c.self.inside.left.keys } in
    cleared now c.renew.new.self c.clear.new.self.keys fs known c.self.view_is c.clear.ensures.empty
    (kept_renewed (kept_in c.args.self.now) (kept_in c.renew.new.self) fs known c.in_ok-renew.ensures.same (c.in_ok-renew.ensures.renewed c.if-branch.true) c.requires.kept)

pub returns-then-branch-clause-alike : goal.returns-then-branch-clause-alike
returns-then-branch-clause-alike c =
    let fs = fun_decls c.args.funs.now in
    let known = all_known c.args.known.now in
    let old = kept_in c.args.self.now in
    let fits = c.in_ok-renew.ensures.renewed c.if-branch.true in
    let kept = kept_renewed old (kept_in c.renew.new.self) fs known c.in_ok-renew.ensures.same fits c.requires.kept in
    subst (λ names. IsMade names.seen (seen fs known)) (sym c.self.view_is)
    (is_made (c.renew.new.self).order fs known c.renew.new.self.seen c.requires.differ (renewed_some old.left fs old.seen c.renew.new.self.seen fits) (kept.seen c.requires.differ))

pub returns-clause-kept : goal.returns-clause-kept
returns-clause-kept c =
    let fs = fun_decls c.args.funs.now in
    let known = all_known c.args.known.now in
    let old = kept_in c.args.self.now in
    let now : Growing = record { alone = c.self.inside.alone; order = c.self.inside.order; said = c.self.inside.said; seen = c.self.inside.seen; left = c.self.inside.left.keys } in
    made_cleared now c.renew.new.self old c.in_ok-env.env c.clear-2.new.self.keys fs known c.self.view_is c.in_ok-renew.ensures.same c.clear-2.ensures.empty
    (kept_made old fs known (names_in c.in_ok-env.env) c.in_ok-env.ensures c.requires.kept)
