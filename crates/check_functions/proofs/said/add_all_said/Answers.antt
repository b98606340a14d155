use Rattle.std.proofs.Common.{◌≡◌, ◌+◌, [], ◌∷◌, length, refl, ap, subst, ◌∙◌, arith, Some}
use Rattle.std.specs.Prelude.{option_map, slice_get}
use Rattle.std.proofs.lemmas.List.{length-map}
use Rattle.std.proofs.lemmas.Option.{slice_get-map, slice_get_read}
use Rattle.check_functions.specs.Known.{fun_decl, fun_decls}
use Rattle.check_functions.specs.Needs.{needs_of}
use Rattle.check_functions.specs.Said.{Says}
use Rattle.check_functions.proofs.Telling.{all_before, none_before, one_before}
use Rattle.check_functions.proofs.said.add_all_said.Goals as goal

pub loop-f-init : goal.loop-f-init
loop-f-init c = record { place = refl; said = none_before (fun_decls c.args.funs.now) c.args.said.now }

pub loop-f-preserved : goal.loop-f-preserved
loop-f-preserved c =
    let f = c.f-item.result in
    let at = c.loop-f.f-index in
    let fs = fun_decls c.args.funs.now in
    let there : slice_get fs at ≡ Some (fun_decl f) =
    slice_get-map fun_decl c.args.funs.now at
    ∙ ap (option_map fun_decl) (slice_get_read c.args.funs.now (length c.args.funs.now) at f refl c.loop-f-test.true c.f-item.is) in
    let says : Says (needs_of (fun_decl f ∷ [])).names at c.loop-f.said c.add_said.new.said =
    subst (λ p. Says (needs_of (fun_decl f ∷ [])).names p c.loop-f.said c.add_said.new.said) c.loop-f.invariant.place c.in_ok-add_said.ensures in
    record {
      place = ap (λ n. n + 1) c.loop-f.invariant.place;
      said = one_before at fs (fun_decl f) c.loop-f.said c.add_said.new.said there says c.loop-f.invariant.said;
    }

pub returns : goal.returns
returns c =
    let count : length (fun_decls c.args.funs.now) ≡ length c.args.funs.now = length-map c.args.funs.now fun_decl in
    let last = c.loop-f-test.false in
    all_before c.loop-f.f-index (fun_decls c.args.funs.now) c.loop-f.said (omega (arith, count, last)) c.loop-f.invariant.said
