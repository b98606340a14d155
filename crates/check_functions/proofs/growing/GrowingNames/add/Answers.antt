use Rattle.std.proofs.Common.{subst}
use Rattle.std.proofs.lemmas.Result.{on_ok_weaker}
use Rattle.check_functions.specs.Growing.{Grows, kept_in}
use Rattle.check_functions.specs.Known.{known_view}
use Rattle.check_functions.proofs.OneMore.{kept_more}
use Rattle.check_functions.proofs.growing.GrowingNames.add.Goals as goal

pub returns : goal.returns
returns c =
    let x = known_view c.args.x.now in
    on_ok_weaker c.add_seen.result
    (λ grows fs known h.
    kept_more x (kept_in c.args.self.now) (kept_in c.add_seen.new.self) fs known h
    (subst (λ old. Grows x old (kept_in c.add_seen.new.self)) c.in_ok-add_alone.ensures grows))
    c.add_seen.ensures
