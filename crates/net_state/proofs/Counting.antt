-- Tokens that wait, counted link by link.
use Rattle.std.proofs.Common.{◌≡◌, ℕ, ◌+◌, ◌<◌, ◌≤◌, List, length, sym, ap, ◌∙◌, ⊎_elim, arith}
use Rattle.std.specs.Prelude.{Some, slice_get, slice_set, slice_index_or}
use Rattle.std.proofs.lemmas.Bool.{cases_eq}
use Rattle.std.proofs.lemmas.List.{length-set, get_or-set_same, get_or-set_other}
use Rattle.std.proofs.lemmas.Option.{slice_get_within}
use Rattle.net_model.specs.declared.wiring.Link.{Link}
use Rattle.net_model.specs.Cell.{Cell}
use Rattle.net_model.specs.Ready.{waiting_at}
use Rattle.net_state.specs.Held.{AreCounted}
use Rattle.net_state.proofs.Gaining.{some_is}

-- the first n links are counted
pub record IsCounting {X : Type 0} (n : ℕ) (cells : List (Cell X)) (links : List Link) (waited : List ℕ) : Type 0 where
  pub as_many : length waited ≡ length links
  pub each : (l : ℕ) (link : Link) → l < n → slice_get links l ≡ Some link → slice_index_or waited l 0 ≡ length (waiting_at cells link.to)

pub counting_more : {X : Type 0} (n count : ℕ) (cells : List (Cell X)) (links : List Link) (waited : List ℕ) (link : Link)
    → IsCounting n cells links waited → slice_get links n ≡ Some link → count ≡ length (waiting_at cells link.to)
    → IsCounting (n + 1) cells links (slice_set waited n count)
counting_more n count cells links waited link so_far at is = record {
  as_many = length-set waited n count ∙ so_far.as_many;
  each = λ l other low there. ⊎_elim
      (λ same.
      let other_is : other ≡ link = some_is other link (sym there ∙ (ap (slice_get links) same ∙ at)) in
      ap (λ k. slice_index_or (slice_set waited n count) k 0) same
      ∙ (get_or-set_same waited n count 0 (omega (arith, so_far.as_many, slice_get_within links n link at))
      ∙ (is ∙ ap (λ k. length (waiting_at cells k.to)) (sym other_is))))
      (λ differ. get_or-set_other waited n l count 0 differ ∙ so_far.each l other (omega (arith, low, differ)) there)
      (cases_eq l n);
}

pub counted_all : {X : Type 0} (n : ℕ) (cells : List (Cell X)) (links : List Link) (waited : List ℕ) → IsCounting n cells links waited → length links ≤ n
    → AreCounted cells links waited
counted_all n cells links waited so_far all = record {
  as_many = so_far.as_many;
  each = λ l link at. so_far.each l link (omega (arith, all, slice_get_within links l link at)) at;
}
