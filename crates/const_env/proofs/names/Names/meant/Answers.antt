use Rattle.std.proofs.Common.{map, ap, sym, ◌∙◌}
use Rattle.std.specs.Prelude.{option_map}
use Rattle.cal_model.specs.Kinding.{known_as}
use Rattle.const_env.specs.Counting.{inner_variables, known_variable, meant_view, use_of}
use Rattle.const_env.specs.Held.{globals_of}
use Rattle.const_env.proofs.Named.{known_either, use_first, use_second}
use Rattle.const_env.proofs.names.Names.meant.Goals as goal

pub returns-in-Some : goal.returns-in-Some
returns-in-Some c =
    use_first (known_as c.args.name.now (map known_variable (inner_variables c.args.self.now.inner))) (known_as c.args.name.now (globals_of c.args.self.now.env.now)) (meant_view c.in-Some.meant) c.in-Some.ensures
    ∙ ap (option_map use_of) (sym (known_either c.args.name.now (map known_variable (inner_variables c.args.self.now.inner)) (globals_of c.args.self.now.env.now)))

pub returns : goal.returns
returns c =
    c.meant.ensures
    ∙ ap (option_map use_of) (use_second (known_as c.args.name.now (map known_variable (inner_variables c.args.self.now.inner))) (known_as c.args.name.now (globals_of c.args.self.now.env.now)) c.in_default.ensures
    ∙ sym (known_either c.args.name.now (map known_variable (inner_variables c.args.self.now.inner)) (globals_of c.args.self.now.env.now)))
