use Rattle.std.proofs.Common.{[], map, ap, sym, ◌∙◌}
use Rattle.std.specs.Prelude.{option_map}
use Rattle.cal_model.specs.Kinding.{known_as}
use Rattle.const_env.specs.Counting.{counter_variable, declared_by, known_variable, meant_view, named_by, own_variables, use_of}
use Rattle.const_env.specs.Meant.{name_of}
use Rattle.const_env.proofs.Backwards.{known_round}
use Rattle.const_env.proofs.Named.{use_first, use_second}
use Rattle.const_env.proofs.inside.meant_by.Goals as goal

pub returns-in-Some : goal.returns-in-Some
returns-in-Some c =
    use_first (known_as c.args.name.now (map known_variable (named_by c.args.gens.now []))) (known_as c.args.name.now (map known_variable (declared_by (own_variables c.args.variables) []))) (meant_view c.in-Some.meant) c.in-Some.ensures
    ∙ ap (option_map use_of) (sym (known_round (λ g. counter_variable (name_of g)) known_variable c.args.name.now c.args.gens.now (declared_by (own_variables c.args.variables) [])))

pub returns : goal.returns
returns c =
    c.variable_in.ensures
    ∙ ap (option_map use_of) (use_second (known_as c.args.name.now (map known_variable (named_by c.args.gens.now []))) (known_as c.args.name.now (map known_variable (declared_by (own_variables c.args.variables) []))) c.in_default.ensures
    ∙ sym (known_round (λ g. counter_variable (name_of g)) known_variable c.args.name.now c.args.gens.now (declared_by (own_variables c.args.variables) [])))
