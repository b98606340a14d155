use Rattle.std.proofs.Common.{◌≡◌, sym, subst, rules}
use Rattle.check_variable.specs.Valuing.{AreAt, first_in, first_of, left_over}
use Rattle.check_variable.proofs.Firsts.{none_constant}
use Rattle.check_variable.proofs.valued.Valued.not_constant.Goals as goal

pub returns : goal.returns
returns c = λ xs owner vs h d.
    let is : c.first_of.result ≡ first_of (first_in c.args.self.now.broken.items) c.args.self.now.lacking = search rules in
    subst (λ o. AreAt o (left_over xs owner vs)) (sym is)
    (none_constant c.args.self.now.broken.items c.args.self.now.lacking xs owner vs h.breaks d h.lacks)
