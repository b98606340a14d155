-- The closed table in which no number is above itself.
use Rattle.std.proofs.Common.{ℕ, ◌<◌, List, [], ◌∷◌, Bool}
use Rattle.std.specs.Prelude.{IsTrue}
use Rattle.std.proofs.lemmas.List.Elements.{All-contains}
use Rattle.rvc_base.specs.Chain.{ChainLeads, IsAbove}
use Rattle.priority_order.specs.Ranking.{cell, IsStrict}
use Rattle.priority_order.specs.Closed.{IsInRange, IsClosed}
use Rattle.priority_order.proofs.Chains.{above_joins}

pub strict_from_closed : (pairs : List (ℕ × ℕ)) (n : ℕ) (cells : List Bool) → IsClosed pairs n cells → ((a : ℕ) → a < n → ¬ IsTrue (cell n cells a a)) → IsStrict n cells
strict_from_closed pairs n cells closed none = record {
  size = closed.size;
  not_itself = none;
  carries = λ a b c a_in b_in c_in over further.
      (closed.chains a c a_in c_in).1 (above_joins pairs a b c ((closed.chains a b a_in b_in).0 over) ((closed.chains b c b_in c_in).0 further));
}

-- a number from which a chain leads is below n
above_in_range : (pairs : List (ℕ × ℕ)) (n a b : ℕ) (through : List ℕ) → IsInRange pairs n → ChainLeads pairs a through b → a < n
above_in_range pairs n a b [] in_range h = (All-contains (λ pair. (pair.0 < n) × (pair.1 < n)) pairs (a, b) in_range h).0
above_in_range pairs n a b (x ∷ xs) in_range h = (All-contains (λ pair. (pair.0 < n) × (pair.1 < n)) pairs (a, x) in_range h.0).0

pub none_above_itself : (pairs : List (ℕ × ℕ)) (n : ℕ) (cells : List Bool) → IsInRange pairs n → IsClosed pairs n cells → ((a : ℕ) → a < n → ¬ IsTrue (cell n cells a a)) → (a : ℕ) → ¬ IsAbove pairs a a
none_above_itself pairs n cells in_range closed none a above =
    let a_in = above_in_range pairs n a a above.0 in_range above.1 in
    none a a_in ((closed.chains a a a_in a_in).1 above)
