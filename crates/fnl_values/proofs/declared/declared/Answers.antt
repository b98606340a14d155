use Rattle.std.proofs.Common.{◌≡◌, [], ◌∷◌, Err, map, sym, ap, subst, ◌∙◌, rules}
use Rattle.cal_check.specs.Variables.{valued, with_var}
use Rattle.const_env.specs.Held.{globals_of}
use Rattle.fnl_bind.specs.Library.{var_decl, var_decls}
use Rattle.fnl_frames.specs.Views.{decl_of}
use Rattle.fnl_values.proofs.Known.{stays_broken}
use Rattle.check_given.specs.Causes.{IsCause}
use Rattle.check_given.specs.Given.{all_given, spot_of}
use Rattle.fnl_values.specs.Judging.{DeclaresAll, fine_so_far}
use Rattle.fnl_values.proofs.declared.declared.Goals as goal

pub returns-in_err-declare-clause-declares : goal.returns-in_err-declare-clause-declares
returns-in_err-declare-clause-declares c =
    let gs = all_given c.args.told.given.now in
    let owner = spot_of c.args.told.owner in
    let known = globals_of c.decls.env in
    let before = c.decls.invariant.same in
    let same : c.from_residual.result ≡ Err c.in_err-declare.field-0.0 = search rules in
    let parts : c.decls.rest.now ≡ c.in-Some.first.now ∷ c.in-Some.others.now = search rules in
    let cause = stays_broken (var_decls c.args.told.file (map decl_of c.in-Some.others.now)) gs owner
    (with_var (var_decl c.args.told.file (decl_of c.in-Some.first.now)) gs owner [] (fine_so_far known before.0)) c.in_err-declare.field-0.0 (c.in_err-declare.ensures.declares before.0) in
    subst (λ r. DeclaresAll r (var_decls c.args.told.file (map decl_of c.args.decls.now)) gs owner) (sym same)
    (subst (λ vs. IsCause c.in_err-declare.field-0.0 vs.breaks)
    (ap (λ ds. valued (var_decls c.args.told.file (map decl_of ds)) gs owner [] (fine_so_far known before.0)) (sym parts) ∙ before.1) cause)

pub decls-preserved : goal.decls-preserved
decls-preserved c =
    let gs = all_given c.args.told.given.now in
    let owner = spot_of c.args.told.owner in
    let known = globals_of c.decls.env in
    let before = c.decls.invariant.same in
    let parts : c.decls.rest.now ≡ c.in-Some.first.now ∷ c.in-Some.others.now = search rules in
    let step = c.in_ok-declare.ensures.declares before.0 in
    record {
      steady = c.in_ok-declare.ensures.steady;
      same = (
        step.0,
        ap (valued (var_decls c.args.told.file (map decl_of c.in-Some.others.now)) gs owner []) (sym step.1)
            ∙ ap (λ ds. valued (var_decls c.args.told.file (map decl_of ds)) gs owner [] (fine_so_far known before.0)) (sym parts) ∙ before.1,
      );
    }
