use Rattle.std.proofs.Common.{◌≡◌, map, ap, ◌∙◌, rules}
use Rattle.std.specs.Prelude.{string_bytes}
use Rattle.check_leaves.specs.Finding.{numbered_of, with_number}
use Rattle.check_leaves.proofs.Numbers.{put_number}
use Rattle.check_leaves.proofs.newest.Newest.put.Goals as goal

pub returns : goal.returns
returns c =
    let same : string_bytes c.in_ok-class.class ≡ c.args.class.now = search rules in
    ap (map numbered_of) c.in_ok-insert.ensures.entries
    ∙ put_number c.in_ok-class.class c.args.number c.args.class.now c.self.inside.numbers.entries same
    ∙ ap (with_number c.args.class.now c.args.number) c.self.view_is
