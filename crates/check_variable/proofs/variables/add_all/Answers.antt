use Rattle.std.proofs.Common.{◌≡◌, ◌+◌, [], ◌∷◌, ◌++◌, Err, drop, sym, subst, arith, rules}
use Rattle.std.proofs.Math.ListN.{drop_of_length-le}
use Rattle.check_functions.specs.Known.{fun_decls}
use Rattle.cal_check.specs.Variables.{valued}
use Rattle.check_variable.specs.Valuing.{Values}
use Rattle.check_variable.specs.Views.{var_decl, var_decls}
use Rattle.check_given.specs.Given.{all_given, spot_of}
use Rattle.check_variable.proofs.Adding.{AreAdded, added_all, added_more, added_refused, opened}
use Rattle.check_variable.proofs.variables.add_all.Goals as goal

pub loop-x-preserved : goal.loop-x-preserved
loop-x-preserved c =
    let gs = all_given c.args.told.given.now in
    let owner = spot_of c.args.told.owner in
    let fs = fun_decls c.args.told.funs.now in
    let left = drop (c.loop-x.x-index + 1) c.args.vars.now in
    let parts : drop c.loop-x.x-index c.args.vars.now ≡ c.x-item.result ∷ left = opened c.args.vars.now c.x-item.result c.loop-x.x-index c.loop-x-test.true c.x-item.is in
    record {
      added = λ xs vs h.
          added_more (var_decl c.x-item.result) (var_decls left) (var_decls c.args.vars.now) gs owner fs c.loop-x.so_far c.add_variable.new.so_far xs vs
          (subst (λ ys. AreAdded (var_decls ys) (var_decls c.args.vars.now) gs owner fs c.loop-x.so_far xs vs) parts (c.loop-x.invariant.added xs vs h)) c.in_ok-add_variable.ensures.declares;
      names = c.in_ok-add_variable.ensures.names;
    }

pub returns-in_err-add_variable : goal.returns-in_err-add_variable
returns-in_err-add_variable c = λ xs vs h.
    let gs = all_given c.args.told.given.now in
    let owner = spot_of c.args.told.owner in
    let fs = fun_decls c.args.told.funs.now in
    let left = drop (c.loop-x.x-index + 1) c.args.vars.now in
    let parts : drop c.loop-x.x-index c.args.vars.now ≡ c.x-item.result ∷ left = opened c.args.vars.now c.x-item.result c.loop-x.x-index c.loop-x-test.true c.x-item.is in
    let same : c.from_residual.result ≡ Err c.in_err-add_variable.field-0.0 = search rules in
    subst (λ r. Values r (xs ++ var_decls c.args.vars.now) c.add_variable.new.so_far (valued (var_decls c.args.vars.now) gs owner fs vs)) (sym same)
    (added_refused c.in_err-add_variable.field-0.0 (var_decl c.x-item.result) (var_decls left) (var_decls c.args.vars.now) gs owner fs c.loop-x.so_far c.add_variable.new.so_far xs vs
    (subst (λ ys. AreAdded (var_decls ys) (var_decls c.args.vars.now) gs owner fs c.loop-x.so_far xs vs) parts (c.loop-x.invariant.added xs vs h)) c.in_err-add_variable.ensures.declares)

pub returns : goal.returns
returns c = λ xs vs h.
    let gs = all_given c.args.told.given.now in
    let owner = spot_of c.args.told.owner in
    let fs = fun_decls c.args.told.funs.now in
    let none : drop c.loop-x.x-index c.args.vars.now ≡ [] = drop_of_length-le c.args.vars.now (omega (arith, c.loop-x-test.false)) in
    added_all (var_decls c.args.vars.now) gs owner fs c.loop-x.so_far xs vs
    (subst (λ ys. AreAdded (var_decls ys) (var_decls c.args.vars.now) gs owner fs c.loop-x.so_far xs vs) none (c.loop-x.invariant.added xs vs h))
