use Rattle.std.proofs.Common.{◌≡◌, [], map, ap, sym, ◌∙◌, rules}
use Rattle.std.specs.Prelude.{option_map}
use Rattle.cal_model.specs.Kinding.{known_as}
use Rattle.const_env.specs.declared.inside.Inside as chain
use Rattle.const_env.specs.declared.inside.Inside.{out-Inside}
use Rattle.const_env.specs.Counting.{counter_variable, declared_by, inner_variables, known_variable, meant_view, named_by, own_variables, use_of, variable_view}
use Rattle.const_env.specs.Meant.{name_of}
use Rattle.const_env.proofs.Backwards.{known_inside}
use Rattle.const_env.proofs.Named.{use_first, use_second}
use Rattle.const_env.proofs.inside.meant_inside.Goals as goal

pub returns-in-Some-meant_by : goal.returns-in-Some-meant_by
returns-in-Some-meant_by c =
    let these : inner_variables c.outwards.at ≡ named_by (out-Inside c.in-Some.these.now).gens.now (declared_by (own_variables (out-Inside c.in-Some.these.now).variables) (inner_variables (out-Inside c.in-Some.these.now).outer)) = search (rules, chain.the_lemmas) in
    use_first (known_as c.args.name.now (map known_variable (named_by (out-Inside c.in-Some.these.now).gens.now (declared_by (own_variables (out-Inside c.in-Some.these.now).variables) [])))) (known_as c.args.name.now (map known_variable (inner_variables (out-Inside c.in-Some.these.now).outer))) (meant_view c.in-Some-meant_by.meant) c.in-Some-meant_by.ensures
    ∙ ap (option_map use_of) (sym (known_inside (λ g. counter_variable (name_of g)) variable_view known_variable c.args.name.now (out-Inside c.in-Some.these.now).gens.now (own_variables (out-Inside c.in-Some.these.now).variables) (inner_variables (out-Inside c.in-Some.these.now).outer))
    ∙ sym (ap (λ vs. known_as c.args.name.now (map known_variable vs)) these) ∙ c.outwards.invariant)

pub outwards-preserved : goal.outwards-preserved
outwards-preserved c =
    let these : inner_variables c.outwards.at ≡ named_by (out-Inside c.in-Some.these.now).gens.now (declared_by (own_variables (out-Inside c.in-Some.these.now).variables) (inner_variables (out-Inside c.in-Some.these.now).outer)) = search (rules, chain.the_lemmas) in
    use_second (known_as c.args.name.now (map known_variable (named_by (out-Inside c.in-Some.these.now).gens.now (declared_by (own_variables (out-Inside c.in-Some.these.now).variables) [])))) (known_as c.args.name.now (map known_variable (inner_variables (out-Inside c.in-Some.these.now).outer))) c.in_default-meant_by.ensures
    ∙ sym (known_inside (λ g. counter_variable (name_of g)) variable_view known_variable c.args.name.now (out-Inside c.in-Some.these.now).gens.now (own_variables (out-Inside c.in-Some.these.now).variables) (inner_variables (out-Inside c.in-Some.these.now).outer))
    ∙ sym (ap (λ vs. known_as c.args.name.now (map known_variable vs)) these) ∙ c.outwards.invariant
