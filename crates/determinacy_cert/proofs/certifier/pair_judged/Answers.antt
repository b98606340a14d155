use Rattle.std.proofs.Common.{◌≡◌, ℕ, ◌+◌, ◌*◌, ◌<◌, true, None, length, set, get_or, length-set, sym, ap, subst, ◌∙◌}
use Rattle.std.specs.Prelude.{false}
use Rattle.std.proofs.lemmas.List.{length-map}
use Rattle.priority_order.specs.Ranking.{is_above}
use Rattle.cal_model.specs.Actor.{Actor}
use Rattle.cal_model.specs.View.{action_view, actor_of}
use Rattle.determinacy_cert.specs.Failing.{pair_judged}
use Rattle.determinacy_cert.proofs.Memo.{set_in_rows}
use Rattle.determinacy_cert.proofs.Pairs.{none_then}
use Rattle.determinacy_cert.proofs.certifier.pair_judged.Goals as goal

pub returns-clause-known : goal.returns-clause-known
returns-clause-known c =
    let actor : Actor = actor_of c.args.t.now.actor.now in
    let n : ℕ = length actor.actions in
    let size : c.args.t.now.actions ≡ n = c.requires.table.actions ∙ sym (length-map c.args.t.now.actor.now.actions.items action_view) in
    let row : c.from.result ≡ c.args.a = c.from.ensures in
    let columns : c.from-2.result ≡ n = c.from-2.ensures ∙ size in
    let column : c.from-3.result ≡ c.args.b = c.from-3.ensures in
    let place : c.from.result * c.from-2.result + c.from-3.result ≡ c.args.a * n + c.args.b =
    ap (λ x. x * c.from-2.result + c.from-3.result) row ∙ ap (λ x. c.args.a * x + c.from-3.result) columns ∙ ap (λ x. c.args.a * n + x) column in
    record {
      tame_count = c.requires.known.tame_count;
      fine_count = length-set c.args.known.now.fine.items (c.from.result * c.from-2.result + c.from-3.result) c.is_none.result ∙ c.requires.known.fine_count;
      tame = c.requires.known.tame;
      fine = λ x y in_x in_y h.
          set_in_rows c.args.known.now.fine.items n c.args.a c.args.b c.is_none.result (λ p q. pair_judged actor (is_above c.args.t.now.order) p q ≡ None)
          c.requires.known.fine_count (subst (λ m. c.args.a < m) size c.requires.one) (subst (λ m. c.args.b < m) size c.requires.two)
          (λ e. sym c.two_judged-judged.ensures ∙ none_then c.two_judged-judged.result c.is_none.result c.is_none.ensures e)
          c.requires.known.fine x y in_x in_y
          (subst (λ k. get_or (set c.args.known.now.fine.items k c.is_none.result) (x * n + y) false ≡ true) place h);
    }
