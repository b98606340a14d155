use Rattle.std.proofs.Common.{rules, ◌≡◌, refl}
use Rattle.std.specs.Prelude.{slice_get, Some, None}
use Rattle.std.proofs.lemmas.Option.{slice_get_read}
use Rattle.code_ir.proofs.Marks.{mark-new}
use Rattle.code_ir.proofs.heights.mark.Goals as goal

pub returns-in-Ok-clause-grows : goal.returns-in-Ok-clause-grows
returns-in-Ok-clause-grows c =
    let none : slice_get c.args.heights.now.items c.args.place ≡ Some None = slice_get_read c.args.heights.now.items _ c.args.place None refl c.requires (search rules) in
    rw c.in-Ok.ensures.items (mark-new c.args.heights.now.items c.args.work.now.items c.args.place c.args.height none c.requires)
