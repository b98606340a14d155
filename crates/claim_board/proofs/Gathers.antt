-- One seat comes to know what several passes knew.
use Rattle.std.proofs.Common.{◌≡◌, ◌≢◌, ℕ, ◌+◌, ◌<◌, ◌≤◌, List, [], ◌∷◌, ◌++◌, length, None, Bool, true, false, true≢false, sym, refl, ap, ◌∙◌, subst, arith}
use mathlib.Core.Logic.{dite}
use native.Mathlib.Decide.{ℕ_discrete}
use Rattle.atomic_table.specs.Seated.{TableId}
use Rattle.claim_board.specs.declared.view.View.{View}
use Rattle.claim_board.specs.Counts.{times}
use Rattle.claim_board.specs.Steps.{Seated, joined, newcomer, first_view}
use Rattle.claim_board.specs.Seen.{PassSeen, new_pass, board_at, times_drawn, pass_seen, Drew, IsSeatOf, Gathered}
use Rattle.claim_board.proofs.Sums.{times-append, times-same, times-other}
use Rattle.claim_board.proofs.Passes.{no-hand, home-all}
use Rattle.claim_board.proofs.Lists.{any-cases, any-none}

module _ {P : Type 0} (put : List P) where
  -- the numbers that a pass drew are its places, but for one that is no place
  drew-place : (me : Seated P) (ended : Bool) → Drew me.0.drawn me.0.put me.0.home me.1 ended → me.0.put ≡ put → me.1 ≡ [] → (place : ℕ) → place < length put → times place me.0.drawn ≡ times place me.0.home
  drew-place me false drew starts none place lt = ap (times place) (drew ∙ home-all me none)
  drew-place me true drew starts none place lt =
      let other : drew.1.0 ≢ place = λ e. absurd (omega (arith, e, drew.1.1, ap (λ (l : List P). length l) starts)) in
      omega (arith, ap (times place) drew.1.2, times-append place me.0.home (drew.1.0 ∷ []), times-other place drew.1.0 other)

  drew-past : (me : Seated P) (ended : Bool) → Drew me.0.drawn me.0.put me.0.home me.1 ended → me.0.put ≡ put → ended ≡ true → (n : ℕ) × (length put ≤ n) × (0 < times n me.0.drawn)
  drew-past me false drew starts is = absurd (true≢false (sym is))
  drew-past me true drew starts is =
      let n : ℕ = drew.1.0 in
      (n, omega (arith, drew.1.1, ap (λ (l : List P). length l) starts), omega (arith, ap (times n) drew.1.2, times-append n me.0.home (n ∷ []), times-same n n refl))

  pub gathered-one : (id : TableId) (me : Seated P) (pass : PassSeen P) → IsSeatOf id me pass → pass.put ≡ put → pass.held ≡ None → Gathered put (pass ∷ []) me
  gathered-one id me pass seat same free =
      let ended : Bool = seat.0 in let is = seat.1 in let known = seat.2 in
      let none = no-hand me.1 (ap (λ (q : PassSeen P). q.held) is ∙ free) in
      let starts : me.0.put ≡ put = ap (λ (q : PassSeen P). q.put) is ∙ same in
      let places : me.0.home ≡ pass.drawn = sym (home-all me none) ∙ ap (λ (q : PassSeen P). q.drawn) is in
      let counts : (place : ℕ) → times place me.0.home ≡ times_drawn place (pass ∷ []) = λ place. omega (arith, ap (times place) places) in
      record {
        hand = none;
        count = known.one;
        starts = starts;
        home = counts;
        places = λ place some-home. omega (arith, known.places place (omega (arith, some-home, ap (times place) (home-all me none))), ap (λ (l : List P). length l) starts);
        drawn = λ place lt. drew-place me ended known.drew starts none place lt ∙ counts place;
        ended = λ any. any-cases (λ (q : PassSeen P). q.ended ≡ true) pass [] any (λ yes. drew-past me ended known.drew starts (ap (λ (q : PassSeen P). q.ended) is ∙ yes)) (λ no. any-none (λ (q : PassSeen P). q.ended ≡ true) no);
      }

  pub gathered-more : (pass : PassSeen P) (passes : List (PassSeen P)) (me other now : Seated P) → Gathered put (pass ∷ []) other → Gathered put passes me → now ≡ (joined me.0 other.0, me.1) → Gathered put (pass ∷ passes) now
  gathered-more pass passes me other now one all is =
      let home : (place : ℕ) → times place (me.0.home ++ other.0.home) ≡ times place me.0.home + times place other.0.home = λ place. times-append place me.0.home other.0.home in
      let drawn : (place : ℕ) → times place (me.0.drawn ++ other.0.drawn) ≡ times place me.0.drawn + times place other.0.drawn = λ place. times-append place me.0.drawn other.0.drawn in
      let both : Gathered put (pass ∷ passes) (joined me.0 other.0, me.1) = record {
        hand = all.hand;
        count = omega (arith, all.count, one.count);
        starts = all.starts;
        home = λ place. omega (arith, home place, all.home place, one.home place);
        places = λ place some-home. dite (ℕ_discrete (times place me.0.home) 0)
            (λ none. one.places place (omega (arith, some-home, home place)))
            (λ more. all.places place (omega (arith, more)));
        drawn = λ place lt. omega (arith, drawn place, all.drawn place lt, one.drawn place lt);
        ended = λ any. any-cases (λ (q : PassSeen P). q.ended ≡ true) pass passes any
            (λ yes. let h = one.ended (0, pass, omega arith, refl, yes) in (h.0, h.1, omega (arith, drawn h.0, h.2)))
            (λ later. let h = all.ended later in (h.0, h.1, omega (arith, drawn h.0, h.2)));
      } in
      subst (λ (m : Seated P). Gathered put (pass ∷ passes) m) (sym is) both

  -- a pass that was just cut off
  pub fresh-seen : (id at : TableId) (me : Seated P) (v : View P) (n passes : ℕ) → id ≡ at → me ≡ (newcomer v, []) → v ≡ first_view put n → pass_seen id me false ≡ new_pass (board_at at put passes)
  fresh-seen id at me v n passes same is view = (λ i. pass_seen (same i) (is i) false) ∙ ap (λ (u : View P). pass_seen at (newcomer u, []) false) view
