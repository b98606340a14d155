use Rattle.std.proofs.Common.{◌≡◌, [], ◌∷◌, ◌++◌, map, rules}
use Rattle.std.specs.Prelude.{length, string_bytes}
use Rattle.cal_model.specs.View.{proc_view}
use Rattle.const_env.specs.Standing.{placed_of}
use Rattle.check_stmt.specs.Firsts.{with_first}
use Rattle.check_stmt.proofs.FirstPlaces.{proc_pushed}
use Rattle.check_stmt.proofs.procs.Procs.add.Goals as goal

pub invariant_of-self-2 : goal.invariant_of-self-2
invariant_of-self-2 c =
    let items : c.push.new.self.items ≡ c.self.inside.procs.items ++ c.args.proc ∷ [] = search rules in
    let name : string_bytes c.args.proc.name ≡ c.as_str.result.now = search rules in
    let places : map placed_of c.place_first.new.places.entries ≡ with_first c.as_str.result.now (length c.self.inside.procs.items) (map placed_of c.self.inside.places.entries) = search rules in
    proc_pushed proc_view c.self.inside.procs.items c.push.new.self.items c.args.proc c.as_str.result.now (map placed_of c.self.inside.places.entries) (map placed_of c.place_first.new.places.entries) c.self.invariant items name places
