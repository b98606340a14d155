use Rattle.std.proofs.Common.{◌≡◌, ℕ, ◌<◌, [], length, map, drop, refl, sym, ap, ◌∙◌, subst, arith}
use Rattle.std.specs.Prelude.{slice_index_or, vec_items}
use Rattle.std.proofs.lemmas.List.{take_at, get_or-replicate}
use Rattle.balanced_rates.specs.Split.{at}
use Rattle.period_order.specs.Board.{link_at, lacks, IsTouching, IsPlayed}
use Rattle.period_order.specs.Turns.{MayFire, IsPeak}
use Rattle.period_order.proofs.Sums.{sum_same}
use Rattle.period_order.proofs.Taking.{played_none, period_of_played, blocked_of_played}
use Rattle.period_order.proofs.order.find_period.Goals as goal

pub play-requires-clause-rows : goal.play-requires-clause-rows
play-requires-clause-rows c leaf inside =
    let left : c.deref_mut.result.now ≡ c.args.firings.now = c.deref_mut.ensures.value ∙ c.in_ok-left.ensures in
    subst (λ rows. IsTouching c.args.links.now leaf (slice_index_or (map vec_items rows) leaf [])) (sym c.deref.ensures.value) (c.in_ok-rows.ensures.each leaf (omega (arith, inside, ap length left)))

pub play-requires-clause-played : goal.play-requires-clause-played
play-requires-clause-played c =
    let links = c.args.links.now in
    let left = c.deref_mut.result.now in
    let unmet = c.deref_mut-2.result.now in
    let tokens = c.deref_mut-3.result.now in
    let peaks = c.deref_mut-4.result.now in
    let left_is : left ≡ c.args.firings.now = c.deref_mut.ensures.value ∙ c.in_ok-left.ensures in
    let no_tokens : (l : ℕ) → l < length links → at tokens l ≡ 0 =
    λ l inside. ap (λ ls. at ls l) (c.deref_mut-3.ensures.value ∙ c.in_ok-tokens.ensures.items_if_clones_equal (λ y e. e)) ∙ get_or-replicate (length links) l 0 0 inside in
    let no_peaks : (l : ℕ) → l < length links → at peaks l ≡ 0 =
    λ l inside. ap (λ ls. at ls l) (c.deref_mut-4.ensures.value ∙ c.in_ok-peaks.ensures.items_if_clones_equal (λ y e. e)) ∙ get_or-replicate (length links) l 0 0 inside in
    played_none (length left) links (at left) (at left) (at unmet) (at tokens) (at peaks) (λ k inside. refl)
    (λ k inside. ap (λ ls. at ls k) c.deref_mut-2.ensures.value
    ∙ (c.in_ok-unmet.ensures.each k (omega (arith, inside, ap length left_is))
    ∙ sum_same (λ l. lacks (link_at links l) 0 k) (λ l. lacks (link_at links l) (at tokens l) k) (length links) (λ l l_in. ap (λ t. lacks (link_at links l) t k) (sym (no_tokens l l_in)))))
    no_tokens no_peaks

pub returns-in-None-clause-period : goal.returns-in-None-clause-period
returns-in-None-clause-period c =
    let links = c.args.links.now in
    let firings = c.args.firings.now in
    let order = c.in_ok-order.order.items in
    let new = c.play.new.left in
    let left : c.deref_mut.result.now ≡ firings = c.deref_mut.ensures.value ∙ c.in_ok-left.ensures in
    let played : IsPlayed (length firings) links (at firings) order (at new) (at c.play.new.unmet) (at c.play.new.tokens) (at c.play.new.peaks) =
    subst (λ ls. IsPlayed (length ls) links (at ls) order (at new) (at c.play.new.unmet) (at c.play.new.tokens) (at c.play.new.peaks)) left c.in_ok-order.ensures.played in
    let width : length new ≡ c.in_ok-left.left.len = omega (arith, c.play.auto.left, c.deref_mut.ensures.len) in
    let now : c.deref-2.result.now ≡ new = c.deref-2.ensures.value ∙ take_at new (drop (length new) c.in_ok-left.left.items) c.in_ok-left.left.len width in
    period_of_played (length firings) links (at firings) order (at new) (at c.play.new.unmet) (at c.play.new.tokens) (at c.play.new.peaks) played
    (λ leaf inside. ap (λ ls. at ls leaf) (sym now) ∙ c.in-None.ensures leaf (omega (arith, inside, ap length now, ap length left, c.play.auto.left)))

pub returns-in-None-clause-peaks : goal.returns-in-None-clause-peaks
returns-in-None-clause-peaks c l inside =
    let links = c.args.links.now in
    let order = c.in_ok-order.order.items in
    let new = c.play.new.peaks in
    let width : length new ≡ c.in_ok-peaks.peaks.len = omega (arith, c.play.auto.peaks, c.deref_mut-4.ensures.len) in
    subst (λ ls. IsPeak (link_at links l) order (at ls l)) (sym (take_at new (drop (length new) c.in_ok-peaks.peaks.items) c.in_ok-peaks.peaks.len width)) (c.in_ok-order.ensures.played.peaks_are l inside)

pub returns-clause-cause : goal.returns-clause-cause
returns-clause-cause c =
    let links = c.args.links.now in
    let firings = c.args.firings.now in
    let order = c.in_ok-order.order.items in
    let new = c.play.new.left in
    let leaf = c.in-Some.leaf in
    let left : c.deref_mut.result.now ≡ firings = c.deref_mut.ensures.value ∙ c.in_ok-left.ensures in
    let played : IsPlayed (length firings) links (at firings) order (at new) (at c.play.new.unmet) (at c.play.new.tokens) (at c.play.new.peaks) =
    subst (λ ls. IsPlayed (length ls) links (at ls) order (at new) (at c.play.new.unmet) (at c.play.new.tokens) (at c.play.new.peaks)) left c.in_ok-order.ensures.played in
    let ended : (other : ℕ) → ¬ MayFire (length firings) links (at firings) order other =
    subst (λ ls. (other : ℕ) → ¬ MayFire (length ls) links (at ls) order other) left c.in_ok-order.ensures.ended in
    let width : length new ≡ c.in_ok-left.left.len = omega (arith, c.play.auto.left, c.deref_mut.ensures.len) in
    let now : c.deref-2.result.now ≡ new = c.deref-2.ensures.value ∙ take_at new (drop (length new) c.in_ok-left.left.items) c.in_ok-left.left.len width in
    blocked_of_played (length firings) links (at firings) order (at new) (at c.play.new.unmet) (at c.play.new.tokens) (at c.play.new.peaks) c.requires.among played ended leaf (omega (arith, c.in-Some.ensures.0, ap length now, ap length left, c.play.auto.left))
    (subst (λ ls. 0 < at ls leaf) now c.in-Some.ensures.1) (λ other less. ap (λ ls. at ls other) (sym now) ∙ c.in-Some.ensures.2 other less)
