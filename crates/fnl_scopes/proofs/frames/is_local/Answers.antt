use Rattle.std.proofs.Common.{◌≡◌, ◌++◌, true, false, sym, ap, ◌∙◌, rules}
use Rattle.fnl_bind.specs.Library.{is_among}
use Rattle.fnl_scopes.specs.View.{counters, local_names}
use Rattle.fnl_scopes.specs.declared.frames.Frame as chain
use Rattle.fnl_scopes.specs.declared.frames.Frame.{out-Frame}
use Rattle.fnl_scopes.proofs.Gens.{among_here, among_outside}
use Rattle.fnl_scopes.proofs.frames.is_local.Goals as goal

pub returns-then-is_counter : goal.returns-then-is_counter
returns-then-is_counter c =
    let these : local_names c.outwards.at ≡ counters (out-Frame c.in-Some.here.now).gens.now ++ local_names (out-Frame c.in-Some.here.now).outer = search (rules, chain.the_lemmas) in
    let found : is_among c.args.name.now (counters (out-Frame c.in-Some.here.now).gens.now) ≡ true = search rules in
    sym (ap (is_among c.args.name.now) these ∙ among_here c.args.name.now (counters (out-Frame c.in-Some.here.now).gens.now) (local_names (out-Frame c.in-Some.here.now).outer) found) ∙ c.outwards.invariant

pub outwards-preserved : goal.outwards-preserved
outwards-preserved c =
    let these : local_names c.outwards.at ≡ counters (out-Frame c.in-Some.here.now).gens.now ++ local_names (out-Frame c.in-Some.here.now).outer = search (rules, chain.the_lemmas) in
    let missing : is_among c.args.name.now (counters (out-Frame c.in-Some.here.now).gens.now) ≡ false = search rules in
    sym (among_outside c.args.name.now (counters (out-Frame c.in-Some.here.now).gens.now) (local_names (out-Frame c.in-Some.here.now).outer) missing) ∙ sym (ap (is_among c.args.name.now) these) ∙ c.outwards.invariant
