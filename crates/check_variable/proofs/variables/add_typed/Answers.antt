use Rattle.std.proofs.Common.{◌≡◌, [], ◌∷◌, ◌++◌, Err, sym, subst, rules}
use Rattle.std.specs.Prelude.{option_map}
use Rattle.cal_ast.specs.View.{optional_expr}
use Rattle.cal_check.specs.Variables.{come, with_come}
use Rattle.cal_model.specs.View.{shape_view, value_view}
use Rattle.const_env.specs.Held.{names_in}
use Rattle.check_variable.specs.Valuing.{Values}
use Rattle.check_variable.specs.Views.{var_decl}
use Rattle.check_given.specs.Given.{all_given, spot_of}
use Rattle.check_variable.proofs.Adding.{come_added, come_refused}
use Rattle.check_variable.proofs.variables.add_typed.Goals as goal

pub returns-in_err-settled-clause-declares : goal.returns-in_err-settled-clause-declares
returns-in_err-settled-clause-declares c = λ xs vs h.
    let x = var_decl c.args.x in
    let start = come (shape_view c.args.t) (optional_expr c.args.x.start.now) (names_in c.args.env.now) in
    let same : c.from_residual.result ≡ Err c.in_err-settled.field-0.0 = search rules in
    subst (λ r. Values r (xs ++ x ∷ []) c.args.so_far.now (with_come x (all_given c.args.told.given.now) (spot_of c.args.told.owner) (shape_view c.args.t) start vs)) (sym same) (
      come_refused c.in_err-settled.field-0.0 x (all_given c.args.told.given.now) (spot_of c.args.told.owner) (shape_view c.args.t) start vs c.args.so_far.now.useless h.useless c.in_err-settled.ensures.0,
      c.in_err-settled.ensures.1,
    )

pub returns-in-Ok-add-clause-declares : goal.returns-in-Ok-add-clause-declares
returns-in-Ok-add-clause-declares c = λ xs vs h.
    let start = come (shape_view c.args.t) (optional_expr c.args.x.start.now) (names_in c.args.env.now) in
    let s = c.in_ok-settled.settled in
    come_added c.add.new.self xs (var_decl c.args.x) (all_given c.args.told.given.now) (spot_of c.args.told.owner) (shape_view c.args.t) start vs c.args.so_far.now.useless
    (option_map value_view s.value) s.constancy h.useless c.in_ok-settled.ensures.0 c.in_ok-settled.ensures.1 c.in_ok-settled.ensures.2
    (λ breaks n. c.in-Ok-add.ensures.valued xs vs breaks h n)
