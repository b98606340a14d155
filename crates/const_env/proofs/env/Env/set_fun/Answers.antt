use Rattle.std.proofs.Common.{◌≡◌, map, None, ◌∙◌, rules}
use Rattle.std.specs.Prelude.{string_bytes}
use Rattle.std.proofs.lemmas.Result.{on_ok_weaker}
use Rattle.cal_model.specs.View.{fun_view}
use Rattle.const_env.specs.Standing.{fun_place}
use Rattle.const_env.proofs.FunPlaces.{none_there, set_new}
use Rattle.const_env.proofs.env.Env.set_fun.Goals as goal

pub add_fun-requires-clause-new : goal.add_fun-requires-clause-new
add_fun-requires-clause-new c =
    let none : fun_place (string_bytes c.args.fun.name) (map fun_view c.args.self.now.funs) ≡ None = search rules in
    none_there (string_bytes c.args.fun.name) (map fun_view c.args.self.now.funs) none

pub returns-in-None-clause-set : goal.returns-in-None-clause-set
returns-in-None-clause-set c =
    let none : fun_place (string_bytes c.args.fun.name) (map fun_view c.args.self.now.funs) ≡ None = search rules in
    on_ok_weaker c.add_fun.result (λ is. is ∙ set_new (fun_view c.args.fun) (map fun_view c.args.self.now.funs) none) c.add_fun.ensures.added
