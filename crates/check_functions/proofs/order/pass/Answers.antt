use Rattle.std.proofs.Common.{◌≡◌, sym, ap, ◌∙◌, Some}
use Rattle.std.specs.Prelude.{option_map, slice_get}
use Rattle.std.proofs.lemmas.Option.{slice_get-map, slice_get-get_or}
use Rattle.check_functions.specs.Known.{fun_decl, fun_decls}
use Rattle.check_functions.proofs.Visiting.{closed_extends}
use Rattle.check_functions.proofs.order.pass.Goals as goal

pub returns : goal.returns
returns c =
    let f = c.in-Some.f.now in
    let lookup = c.in-Some.ensures.lookup in
    let found : slice_get c.args.funs.now c.args.place ≡ Some f = slice_get-get_or c.args.funs.now c.args.place f lookup.3.0 ∙ ap Some (sym lookup.1) in
    let there : slice_get (fun_decls c.args.funs.now) c.args.place ≡ Some (fun_decl f) =
    slice_get-map fun_decl c.args.funs.now c.args.place ∙ ap (option_map fun_decl) found in
    closed_extends (fun_decls c.args.funs.now) c.args.place (fun_decl f) there c.close.result c.args.order.now c.close.new.order c.close.ensures
