use Rattle.std.proofs.Common.{◌≡◌, None, Some, sym, ap, ◌∙◌, rules}
use Rattle.std.specs.Prelude.{option_map}
use Rattle.cal_model.specs.Kinding.{known_as}
use Rattle.cal_model.specs.View.{value_view}
use Rattle.const_env.specs.Held.{entry_view, globals_of}
use Rattle.const_env.proofs.Found.{constant_known, value_found, value_known}
use Rattle.const_env.proofs.env.Env.value.Goals as goal

pub returns-in-Some : goal.returns-in-Some
returns-in-Some c =
    let known : Some (entry_view c.in-Some.entry.now) ≡ known_as c.args.name.now (globals_of c.args.self.now) = search rules in
    value_found c.args.name.now (globals_of c.args.self.now) (entry_view c.in-Some.entry.now) (option_map (λ v. value_view v.now) c.value.result) known c.value.ensures

pub returns-in-None : goal.returns-in-None
returns-in-None c =
    let known : None ≡ known_as c.args.name.now (globals_of c.args.self.now) = search rules in
    ap value_known known ∙ sym (constant_known c.args.name.now (globals_of c.args.self.now))
