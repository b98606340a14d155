-- Cells as contracts see them, at their places.
use Rattle.std.proofs.Common.{◌≡◌, ℕ, ◌<◌, List, [], ◌∷◌, ℤ, length, map, sym, ap, subst, ◌∙◌}
use Rattle.std.specs.Prelude.{Some, slice_get, slice_set, slice_index_or}
use Rattle.std.proofs.lemmas.List.{map-set, length-set}
use Rattle.std.proofs.lemmas.Option.{slice_get-get_or, slice_get-map}
use Rattle.std.specs.Option.{option_map}
use Rattle.net_model.specs.Cell.{Accepts, Bursts, Cell, Clears, FitsQueues, IsSame, Looks, Tries}
use Rattle.net_model.specs.declared.firing.Look.{Look}
use Rattle.net_model.specs.declared.firing.Tried.{Tried}
use Rattle.net_model.specs.declared.firing.BurstEnd.{BurstEnd}
use Rattle.rvc_base.specs.Lawful.{IsLawful}
use Rattle.net_state.specs.Working.{BurstsAt, LookedAt, TriedAt}
use Rattle.net_state.specs.Moving.{EachGains, ClearsAt, only_to}
use Rattle.net_state.proofs.Gaining.{some_is, get_set_same, get_set_other, each_gains_at, each_gains_before, gains_token}

module _ {C X : Type 0} (view : C → Cell X) where
  -- the cell at a place
  pub viewed : (cells : List C) (i : ℕ) (d : C) → i < length cells → slice_get (map view cells) i ≡ Some (view (slice_index_or cells i d))
  viewed cells i d low = slice_get-map view cells i ∙ ap (option_map view) (slice_get-get_or cells i d low)

  pub accepted : (cells : List C) (i p : ℕ) (token kept : ℤ) (d new : C) → i < length cells → kept ≡ token
      → Accepts (view (slice_index_or cells i d)) p kept (view new)
      → EachGains (only_to i p (token ∷ [])) (map view cells) (map view (slice_set cells i new))
  accepted cells i p token kept d new low same takes =
      let accepts : Accepts (view (slice_index_or cells i d)) p token (view new) = subst (λ t. Accepts (view (slice_index_or cells i d)) p t (view new)) same takes in
      subst (EachGains (only_to i p (token ∷ [])) (map view cells)) (sym (map-set view cells i new))
      (each_gains_at i p (token ∷ []) (map view cells) (view (slice_index_or cells i d)) (view new) (viewed cells i d low)
      (gains_token i p token (view (slice_index_or cells i d)) (view new) accepts))

  -- the token that came last was taken back
  pub taken_back : (cells : List C) (i p : ℕ) (token : ℤ) (d new : C) → i < length cells → Accepts (view new) p token (view (slice_index_or cells i d))
      → EachGains (only_to i p (token ∷ [])) (map view (slice_set cells i new)) (map view cells)
  taken_back cells i p token d new low accepts =
      subst (λ cs. EachGains (only_to i p (token ∷ [])) cs (map view cells)) (sym (map-set view cells i new))
      (each_gains_before i p (token ∷ []) (map view cells) (view new) (view (slice_index_or cells i d)) (viewed cells i d low)
      (gains_token i p token (view new) (view (slice_index_or cells i d)) accepts))

  pub cleared_at : (cells : List C) (i : ℕ) (d new : C) → i < length cells → Clears (view (slice_index_or cells i d)) (view new)
      → ClearsAt i (map view cells) (map view (slice_set cells i new))
  cleared_at cells i d new low clears =
      subst (ClearsAt i (map view cells)) (sym (map-set view cells i new)) (record {
        count = length-set (map view cells) i (view new);
        here = λ before after was is.
            let old_is : view (slice_index_or cells i d) ≡ before = some_is _ before (sym (viewed cells i d low) ∙ was) in
            let new_is : view new ≡ after = some_is (view new) after (sym (get_set_same (map view cells) i before (view new) was) ∙ is) in
            subst (λ c. Clears c after) old_is (subst (Clears (view (slice_index_or cells i d))) new_is clears);
        elsewhere = λ k differ. get_set_other (map view cells) k i (view new) differ;
      })

  -- a burst of the cell at a place; what is known of it was told by two readings
  pub bursts_at : (cells : List C) (i limit : ℕ) (rooms : List ℕ) (d e new : C) (end : BurstEnd) → i < length cells → IsLawful (view (slice_index_or cells i d)).actor
      → FitsQueues (view (slice_index_or cells i d)) → Bursts rooms limit (view (slice_index_or cells i e)) end (view new)
      → BurstsAt i limit rooms (map view cells) end (map view (slice_set cells i new))
  bursts_at cells i limit rooms d e new end low lawful fits bursts =
      let same : view (slice_index_or cells i d) ≡ view (slice_index_or cells i e) = some_is _ _ (sym (viewed cells i d low) ∙ viewed cells i e low) in
      record {
        before = view (slice_index_or cells i d);
        after = view new;
        at = viewed cells i d low;
        is = map-set view cells i new;
        lawful = lawful;
        fits = fits;
        bursts = subst (λ cell. Bursts rooms limit cell end (view new)) (sym same) bursts;
      }

  pub looked_at : (cells : List C) (i : ℕ) (rooms : List ℕ) (d e new : C) (look : Look) → i < length cells → IsLawful (view (slice_index_or cells i d)).actor
      → FitsQueues (view (slice_index_or cells i d)) → Looks rooms (view (slice_index_or cells i e)) look → IsSame (view (slice_index_or cells i e)) (view new)
      → LookedAt i rooms (map view cells) look (map view (slice_set cells i new))
  looked_at cells i rooms d e new look low lawful fits looks still =
      let same : view (slice_index_or cells i d) ≡ view (slice_index_or cells i e) = some_is _ _ (sym (viewed cells i d low) ∙ viewed cells i e low) in
      record {
        before = view (slice_index_or cells i d);
        after = view new;
        at = viewed cells i d low;
        is = map-set view cells i new;
        lawful = lawful;
        fits = fits;
        looks = subst (λ cell. Looks rooms cell look) (sym same) looks;
        same = subst (λ cell. IsSame cell (view new)) (sym same) still;
      }

  pub tried_at : (cells : List C) (i : ℕ) (rooms : List ℕ) (a : ℕ) (d e new : C) (tried : Tried) → i < length cells → IsLawful (view (slice_index_or cells i d)).actor
      → FitsQueues (view (slice_index_or cells i d)) → Tries rooms a (view (slice_index_or cells i e)) tried (view new)
      → TriedAt i rooms a (map view cells) tried (map view (slice_set cells i new))
  tried_at cells i rooms a d e new tried low lawful fits tries =
      let same : view (slice_index_or cells i d) ≡ view (slice_index_or cells i e) = some_is _ _ (sym (viewed cells i d low) ∙ viewed cells i e low) in
      record {
        before = view (slice_index_or cells i d);
        after = view new;
        at = viewed cells i d low;
        is = map-set view cells i new;
        lawful = lawful;
        fits = fits;
        tries = subst (λ cell. Tries rooms a cell tried (view new)) (sym same) tries;
      }
