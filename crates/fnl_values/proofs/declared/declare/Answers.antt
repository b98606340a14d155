use Rattle.std.proofs.Common.{◌≡◌, [], ◌∷◌, sym, ap, subst, ◌∙◌, rules}
use Rattle.std.specs.Prelude.{Some}
use Rattle.cal_ast.specs.View.{optional_expr, type_tree}
use Rattle.cal_check.specs.Constants.{early_type}
use Rattle.cal_check.specs.Variables.{come, held_if, value_of}
use Rattle.cal_model.specs.Kinding.{Fine}
use Rattle.cal_model.specs.View.{shape_view, value_view}
use Rattle.const_env.specs.Held.{globals_of}
use Rattle.const_env.specs.Judging.{Breaks}
use Rattle.fnl_bind.specs.Library.{var_decl}
use Rattle.fnl_frames.specs.Views.{decl_of}
use Rattle.fnl_values.proofs.Known.{declares, known_of, names_are, type_fault}
use Rattle.check_given.specs.Given.{all_given, spot_of}
use Rattle.fnl_values.specs.Judging.{fine_so_far, value_breaks}
use Rattle.fnl_values.proofs.declared.declare.Goals as goal

pub returns-in-Err-clause-declares : goal.returns-in-Err-clause-declares
returns-in-Err-clause-declares c = λ held.
    type_fault (var_decl c.args.told.file (decl_of c.args.decl.now)) (all_given c.args.told.given.now) (spot_of c.args.told.owner) (globals_of c.args.env.now) held c.in-Err.fault c.in_file.result
    (subst (λ n. Breaks c.in-Err.fault (early_type (type_tree c.args.decl.now.shape) n)) (names_are c.args.env.now c.requires) c.in-Err.ensures.judged)
    c.in_file.ensures

pub returns-in-Ok-add-clause-declares : goal.returns-in-Ok-add-clause-declares
returns-in-Ok-add-clause-declares c = λ held.
    let x = var_decl c.args.told.file (decl_of c.args.decl.now) in
    let gs = all_given c.args.told.given.now in
    let owner = spot_of c.args.told.owner in
    let t = shape_view c.in-Ok.t in
    let v = value_view c.in_ok-value.value in
    let names = names_are c.args.env.now c.requires in
    let fine = subst (λ n. early_type (type_tree c.args.decl.now.shape) n ≡ Fine t) names c.in-Ok.ensures.judged in
    let comes = subst (λ n. (value_of x gs t (come t (optional_expr c.args.decl.now.value) n).value ≡ Some v) × (value_breaks x gs owner t n ≡ [])) names c.in_ok-value.ensures.comes in
    let added : globals_of c.add.new.self ≡ known_of x t v ∷ globals_of c.args.env.now = search rules in
    (held_if (Some v) x t held, declares x gs owner (globals_of c.args.env.now) held t v fine comes.0 comes.1 ∙ ap (λ ks. fine_so_far ks (held_if (Some v) x t held)) (sym added))
