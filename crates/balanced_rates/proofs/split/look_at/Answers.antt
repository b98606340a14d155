use Rattle.std.proofs.Common.{◌≡◌, ◌*◌, length, sym, ◌∙◌, subst₂, arith}
use Rattle.std.proofs.lemmas.Bool.{false≢true}
use Rattle.balanced_rates.specs.Balance.{total}
use Rattle.balanced_rates.specs.Split.{at, MatchOutcome}
use Rattle.balanced_rates.proofs.Outcomes.{settled}
use Rattle.balanced_rates.proofs.split.look_at.Goals as goal

pub returns : goal.returns
returns c links split =
    let firings = c.args.firings.now in
    let link = c.args.link.now in
    let given : c.tokens-given.result ≡ link.give * at firings link.writer = c.tokens-given.ensures in
    let needed : c.tokens-needed.result ≡ link.need * at firings link.reader = c.tokens-needed.ensures in
    let outcome : MatchOutcome c.compare.result (link.give * at firings link.writer) (link.need * at firings link.reader) (total (at firings) (length firings)) c.args.longest =
    subst₂ (λ x y. MatchOutcome c.compare.result x y (total (at firings) (length firings)) c.args.longest) given needed c.compare.ensures in
    settled (length firings) c.args.longest links link (at c.args.parts.now) (at firings) c.compare.result c.requires.among
    (λ h. false≢true (sym c.if-joins.false ∙ c.joins.ensures.1 (omega (arith, h.0), omega (arith, h.1), h.2))) outcome split
