use Rattle.std.proofs.Common.{◌≡◌, ◌++◌, true, false, sym, ap, ◌∙◌, rules}
use Rattle.cal_scope.specs.declared.frames.Frame as chain
use Rattle.cal_scope.specs.declared.frames.Frame.{out-Frame}
use Rattle.cal_scope.specs.Names.{is_among}
use Rattle.cal_scope.specs.View.{local_names}
use Rattle.cal_scope.proofs.Found.{among_here, among_outside}
use Rattle.cal_scope.proofs.frames.is_local.Goals as goal

pub returns-then-has : goal.returns-then-has
returns-then-has c =
    let these : local_names c.outwards.at ≡ (out-Frame c.in-Some.here.now).names.now ++ local_names (out-Frame c.in-Some.here.now).outer = search (rules, chain.the_lemmas) in
    let found : is_among c.args.name.now ((out-Frame c.in-Some.here.now).names.now) ≡ true = search rules in
    sym (ap (is_among c.args.name.now) these ∙ among_here c.args.name.now ((out-Frame c.in-Some.here.now).names.now) (local_names (out-Frame c.in-Some.here.now).outer) found) ∙ c.outwards.invariant

pub outwards-preserved : goal.outwards-preserved
outwards-preserved c =
    let these : local_names c.outwards.at ≡ (out-Frame c.in-Some.here.now).names.now ++ local_names (out-Frame c.in-Some.here.now).outer = search (rules, chain.the_lemmas) in
    let missing : is_among c.args.name.now ((out-Frame c.in-Some.here.now).names.now) ≡ false = search rules in
    sym (among_outside c.args.name.now ((out-Frame c.in-Some.here.now).names.now) (local_names (out-Frame c.in-Some.here.now).outer) missing) ∙ sym (ap (is_among c.args.name.now) these) ∙ c.outwards.invariant
