use Rattle.std.proofs.Common.{◌≡◌, ◌∙◌, Some, ap, sym}
use Rattle.std.specs.Prelude.{slice_get}
use Rattle.std.proofs.lemmas.Option.{slice_get-get_or}
use Rattle.lower_scratch.proofs.Looping.{saved-at}
use Rattle.lower_scratch.proofs.stores.is_saved_at.Goals as goal

pub returns-in-Some : goal.returns-in-Some
returns-in-Some c = λ same.
    let found = c.in-Some.ensures.lookup in
    let there : slice_get c.args.saved.now c.args.place ≡ Some c.in-Some.one.now =
    slice_get-get_or c.args.saved.now c.args.place c.in-Some.one.now found.3.0 ∙ ap Some (sym found.1) in
    saved-at c.args.saved.now c.args.place c.args.cell c.in-Some.one.now there same
