use Rattle.std.proofs.Common.{◌≡◌, rules}
use Rattle.std.specs.Prelude.{string_bytes}
use Rattle.check_given.proofs.Places.{put_place}
use Rattle.check_given.proofs.values.put_place.Goals as goal

pub returns : goal.returns
returns c =
    let name : string_bytes c.in_ok-name.name ≡ c.args.name.now = search rules in
    put_place c.in_ok-name.name c.args.place c.args.name.now c.args.places.now.entries c.insert.new.self.entries name c.in_ok-insert.ensures.entries
