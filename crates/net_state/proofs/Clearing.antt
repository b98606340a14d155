-- Cells that are cleared one after another.
use Rattle.std.proofs.Common.{◌≡◌, ℕ, ◌+◌, ◌<◌, ◌≤◌, List, length, refl, sym, ap, ◌∙◌, ⊎_elim, arith}
use Rattle.std.specs.Prelude.{Some, slice_get}
use Rattle.std.proofs.lemmas.Bool.{cases_eq}
use Rattle.std.proofs.lemmas.Option.{slice_get_within}
use Rattle.net_model.specs.Cell.{Cell, Clears}
use Rattle.net_state.specs.Moving.{ClearsAt, EachClears}

-- the first k cells are cleared
pub record IsClearing {X : Type 0} (k : ℕ) (old now : List (Cell X)) : Type 0 where
  pub count : length now ≡ length old
  pub cleared : (i : ℕ) (before after : Cell X) → i < k → slice_get old i ≡ Some before → slice_get now i ≡ Some after → Clears before after
  pub others : (i : ℕ) → k ≤ i → slice_get now i ≡ slice_get old i

pub clearing_starts : {X : Type 0} (cells : List (Cell X)) → IsClearing 0 cells cells
clearing_starts cells = record {
  count = refl;
  cleared = λ i before after low. absurd (omega (arith, low));
  others = λ i high. refl;
}

pub clearing_more : {X : Type 0} (k : ℕ) (old now new : List (Cell X)) → IsClearing k old now → ClearsAt k now new → IsClearing (k + 1) old new
clearing_more k old now new so_far clears = record {
  count = clears.count ∙ so_far.count;
  cleared = λ i before after low was is. ⊎_elim
      (λ same. clears.here before after (ap (slice_get now) (sym same) ∙ (so_far.others i (omega (arith, same)) ∙ was)) (ap (slice_get new) (sym same) ∙ is))
      (λ differ. so_far.cleared i before after (omega (arith, low, differ)) was (sym (clears.elsewhere i differ) ∙ is))
      (cases_eq i k);
  others = λ i high. clears.elsewhere i (omega (arith, high)) ∙ so_far.others i (omega (arith, high));
}

pub all_cleared : {X : Type 0} (k : ℕ) (old now : List (Cell X)) → IsClearing k old now → length old ≤ k → EachClears old now
all_cleared k old now so_far all = record {
  count = so_far.count;
  each = λ i before after was is. so_far.cleared i before after (omega (arith, all, slice_get_within old i before was)) was is;
}
