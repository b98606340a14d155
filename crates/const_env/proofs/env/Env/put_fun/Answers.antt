use Rattle.std.proofs.Common.{◌≡◌, map, ap, ◌∙◌, sym, arith}
use Rattle.std.specs.Prelude.{Some, slice_set, string_bytes}
use Rattle.cal_model.specs.View.{fun_view}
use Rattle.const_env.specs.Constants.{with_set}
use Rattle.const_env.specs.Held.{held}
use Rattle.const_env.specs.Sizes.{are_sized_funs}
use Rattle.const_env.specs.Standing.{fun_place}
use Rattle.const_env.proofs.FunPlaces.{place_within, set_sized, set_stays, set_there}
use Rattle.const_env.proofs.env.Env.put_fun.Goals as goal

pub index_mut-requires : goal.index_mut-requires
index_mut-requires c =
    let there : fun_place (string_bytes c.args.fun.name) (map fun_view c.self.inside.funs.items) ≡ Some c.args.place =
    ap (λ env. fun_place (string_bytes c.args.fun.name) (held env).funs) c.self.view_is ∙ c.requires.there in
    let within = place_within fun_view (string_bytes c.args.fun.name) c.self.inside.funs.items c.args.place there in
    omega (arith, within)

pub invariant_of-self : goal.invariant_of-self
invariant_of-self c =
    let items = c.self.inside.funs.items in
    let there : fun_place (string_bytes c.args.fun.name) (map fun_view items) ≡ Some c.args.place =
    ap (λ env. fun_place (string_bytes c.args.fun.name) (held env).funs) c.self.view_is ∙ c.requires.there in
    let set : map fun_view (slice_set items c.args.place c.args.fun) ≡ with_set (fun_view c.args.fun) (map fun_view items) =
    set_there fun_view c.args.fun items c.args.place there in (
      ap are_sized_funs set ∙ set_sized (fun_view c.args.fun) (map fun_view items) c.requires.sized c.self.invariant.0,
      c.self.invariant.1,
      λ name.
          c.self.invariant.2 name ∙ sym (set_stays name (fun_view c.args.fun) (map fun_view items) c.args.place there) ∙ ap (fun_place name) (sym set),
    )

pub returns-clause-set : goal.returns-clause-set
returns-clause-set c =
    let items = c.self.inside.funs.items in
    let there : fun_place (string_bytes c.args.fun.name) (map fun_view items) ≡ Some c.args.place =
    ap (λ env. fun_place (string_bytes c.args.fun.name) (held env).funs) c.self.view_is ∙ c.requires.there in
    set_there fun_view c.args.fun items c.args.place there ∙ ap (λ env. with_set (fun_view c.args.fun) (held env).funs) c.self.view_is
