-- Tasks that were all worked.
use Rattle.std.proofs.Common.{◌≡◌, ℕ, zero, suc, List, [], ◌∷◌, map}
use Rattle.std.specs.Prelude.{Some, is_some, slice_get}
use Rattle.net_model.specs.Cell.{Cell}
use Rattle.claimed_bursts.specs.Crews.{AreAllWorked}
use Rattle.claimed_bursts.specs.Tasks.{EachMakesBurst, MakesBurst, Task}

same_start : {A : Type 0} (xs : List A) (k : ℕ) (x : A) → slice_get (map (λ (a : A). a) xs) k ≡ Some x → slice_get xs k ≡ Some x
same_start [] k x at = at
same_start (y ∷ xs) zero x at = at
same_start (y ∷ xs) (suc k) x at = same_start xs k x at

pub each_made : {C X : Type 0} (cell : C → Cell X) (put done : List (Task C)) → AreAllWorked (λ (t : Task C). t) (λ (t : Task C). is_some t.end) (MakesBurst cell) put done
    → EachMakesBurst cell put done
each_made cell put done worked = record {
  places = worked.places;
  each = λ place after at. let made = (worked.each place after at).1 in (made.0, same_start put place made.0 made.1, made.2);
}
