use Rattle.std.proofs.Common.{◌≡◌, ◌∙◌, rules}
use Rattle.std.specs.Prelude.{None, Some}
use Rattle.check_given.specs.Placing.{first_place}
use Rattle.check_given.proofs.Places.{found_at, found_none}
use Rattle.check_given.proofs.values.GivenValues.get.Goals as goal

pub returns-in_err-place : goal.returns-in_err-place
returns-in_err-place c =
    let lacks : None ≡ first_place 0 c.args.name.now c.args.self.now None = search rules in
    found_none c.args.name.now c.args.self.now c.from_residual.result lacks c.from_residual.ensures

pub returns : goal.returns
returns c =
    let there : Some c.in_ok-place.place ≡ first_place 0 c.args.name.now c.args.self.now None = search rules in
    c.at.ensures ∙ found_at c.args.name.now c.args.self.now c.in_ok-place.place there
