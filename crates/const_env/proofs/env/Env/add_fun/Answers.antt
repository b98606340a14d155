use Rattle.std.proofs.Common.{◌≡◌, [], ◌∷◌, ◌++◌, map, false, true, ap, ◌∙◌, rules}
use Rattle.std.specs.Prelude.{length, string_bytes}
use Rattle.cal_model.specs.View.{fun_view}
use Rattle.const_env.specs.Constants.{has_fun}
use Rattle.const_env.specs.Held.{held}
use Rattle.const_env.specs.Sizes.{are_sized_funs}
use Rattle.const_env.specs.Standing.{with_place}
use Rattle.const_env.proofs.FunPlaces.{fun_pushed}
use Rattle.const_env.proofs.Tested.{pushed_sized}
use Rattle.const_env.proofs.env.Env.add_fun.Goals as goal

pub invariant_of-self-2 : goal.invariant_of-self-2
invariant_of-self-2 c =
    let items : c.push.new.self.items ≡ c.self.inside.funs.items ++ c.args.fun ∷ [] = search rules in
    let name : string_bytes c.args.fun.name ≡ c.as_str.result.now = search rules in
    let places : c.put_next.new.self ≡ with_place c.as_str.result.now (length c.self.inside.funs.items) c.self.inside.fun_places = search rules in
    let new : has_fun (string_bytes c.args.fun.name) (map fun_view c.self.inside.funs.items) ≡ false =
    ap (λ env. has_fun (string_bytes c.args.fun.name) (held env).funs) c.self.view_is ∙ c.requires.new in
    let sized : are_sized_funs (map fun_view c.push.new.self.items) ≡ true =
    ap (λ fs. are_sized_funs (map fun_view fs)) items ∙ pushed_sized c.self.inside.funs.items c.args.fun c.self.invariant.0 c.requires.sized in
    let leads = fun_pushed fun_view c.self.inside.funs.items c.push.new.self.items c.args.fun c.as_str.result.now c.self.inside.fun_places c.put_next.new.self c.self.invariant.2 new items name places in
    (sized, c.self.invariant.1, leads)
