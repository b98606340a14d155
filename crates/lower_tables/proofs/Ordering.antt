-- The order of an actor's priorities.
use Rattle.std.proofs.Common.{◌≡◌, ℕ, zero, suc, ◌<◌, List, [], ◌∷◌, map, length, All, refl, ap, subst, ◌∙◌, arith}
use Rattle.std.specs.Prelude.{◌↔◌, IsTrue, slice_get}
use Rattle.std.proofs.lemmas.Option.{slice_get_within}
use Rattle.rvc_base.specs.Chain.{IsAbove}
use Rattle.rvc_base.specs.Line.{IsLine}
use Rattle.priority_order.specs.Ranking.{Ranking, is_above}
use Rattle.priority_order.specs.Closed.{IsInRange}
use Rattle.priority_order.specs.Cycle.{IsRing}
use Rattle.cal_model.specs.Actor.{Actor}
use Rattle.cal_model.specs.Selection.{Above}
use Rattle.cal_model.specs.Sound.{Each, AreTagged, IsTagged}
use Rattle.lower_tables.specs.Tables.{IsPriority}
use Rattle.lower_tables.proofs.Stepping.{tagged_at}

pub same_pairs : (ps : List (ℕ × ℕ)) → map (λ p. (p.0, p.1)) ps ≡ ps
same_pairs [] = refl
same_pairs (p ∷ ps) = ap (λ xs. p ∷ xs) (same_pairs ps)

all_none : {A : Type 0} (P : A → Type 0) → All P []
all_none P k d h = absurd (omega arith)

all_more : {A : Type 0} (P : A → Type 0) (x : A) (xs : List A) → P x → All P xs → All P (x ∷ xs)
all_more P x xs p h zero d i = p
all_more P x xs p h (suc k) d i = h k d (omega arith)

inside : (actor : Actor) (a n : ℕ) → n ≡ length actor.actions → IsTagged (slice_get actor.actions a) → a < n
inside actor a n e h = let t = tagged_at actor a h in let p = slice_get_within actor.actions a t.act t.there in omega arith

pub pairs_in_range : (actor : Actor) (ps : List (ℕ × ℕ)) (n : ℕ) → n ≡ length actor.actions → Each (AreTagged actor) ps → IsInRange ps n
pairs_in_range actor [] n e h = all_none (λ p. (p.0 < n) × (p.1 < n))
pairs_in_range actor (p ∷ ps) n e h =
    all_more (λ q. (q.0 < n) × (q.1 < n)) p ps (inside actor p.0 n e h.0.0, inside actor p.1 n e h.0.1) (pairs_in_range actor ps n e h.1)

pub no_ring : (pairs : List (ℕ × ℕ)) (actions : List ℕ) → ((a : ℕ) → ¬ IsAbove pairs a a) → IsRing pairs actions → ⊥
no_ring pairs [] h r = r
no_ring pairs (a ∷ others) h r = h a (others, r)

pub priority_is : (actor : Actor) (pairs : List (ℕ × ℕ)) (n : ℕ) (order : Ranking) → pairs ≡ actor.pairs → n ≡ length actor.actions → order.count ≡ n
    → ((a b : ℕ) → a < n → b < n → IsTrue (is_above order a b) ↔ IsAbove pairs a b) → IsLine n (IsAbove pairs) order.line → IsPriority actor order
priority_is actor pairs n order p e c above line = record {
  count = c ∙ e;
  above = λ a b in_a in_b. subst (λ ps. IsTrue (is_above order a b) ↔ IsAbove ps a b) p (above a b (omega arith) (omega arith));
  line = subst (λ m. IsLine m (Above actor) order.line) e (subst (λ ps. IsLine n (IsAbove ps) order.line) p line);
}
