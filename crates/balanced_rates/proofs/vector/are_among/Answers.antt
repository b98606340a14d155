use Rattle.std.proofs.Common.{◌<◌, get_or, take, refl, subst, arith}
use Rattle.std.specs.Prelude.{All}
use Rattle.std.proofs.lemmas.List.{take_more, take_all}
use Rattle.std.proofs.lemmas.List.Elements.{All-push}
use Rattle.balanced_rates.specs.declared.link.RatedLink.{RatedLink}
use Rattle.balanced_rates.specs.Balance.{IsAmong}
use Rattle.balanced_rates.proofs.vector.are_among.Goals as goal

-- what stands behind the end of a list
abbrev beyond : RatedLink
beyond = record { writer = 0; reader = 0; give = 0; need = 0 }

pub loop-link-preserved : goal.loop-link-preserved
loop-link-preserved c =
    let leaves = c.args.leaves in
    let links = c.args.links.now in
    let at = c.loop-link.link-index in
    let writes : (get_or links at beyond).writer < leaves = omega arith in
    let reads : (get_or links at beyond).reader < leaves = omega arith in
    rw (take_more links at beyond c.loop-link-test.true)
    (All-push (IsAmong leaves) (take at links) (get_or links at beyond) c.loop-link.invariant (writes, reads))

pub returns : goal.returns
returns c =
    let links = c.args.links.now in (
      λ e. subst (λ ls. All (IsAmong c.args.leaves) ls) (take_all c.loop-link.link-index links (omega arith)) c.loop-link.invariant,
      λ all. refl,
    )
