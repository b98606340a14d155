-- Bursts that several workers share are the bursts of a round.
use Rattle.std.proofs.Common.{◌≡◌, ℕ, zero, suc, ◌+◌, ◌-◌, ◌<◌, ◌≤◌, Bool, true, false, List, [], ◌∷◌, length, drop, min, refl, sym, ap, subst, ◌∙◌, arith}
use Rattle.std.specs.Prelude.{Option, None, Some, nat_le, slice_get, if◌then◌else◌}
use Rattle.std.proofs.lemmas.Bool.{le-leb}
use Rattle.rvc_base.specs.Shares.{allowed}
use Rattle.round_plan.proofs.Together.{together}
use Rattle.net_model.specs.Cell.{Cell}
use Rattle.net_model.specs.Paced.{Share, count_picked, limit_of}
use Rattle.net_state.specs.declared.made.Bursts.{Bursts as Made}
use Rattle.net_state.specs.declared.made.Lacking.{Lacking}
use Rattle.net_state.specs.declared.made.Trapped.{Trapped}
use Rattle.net_state.specs.declared.sharing.Shares.{Shares}
use Rattle.net_state.specs.Held.{Held}
use Rattle.net_state.specs.Made.{first_of, lacking_by, trapped_by}
use Rattle.net_state.specs.Sharing.{AreFresh, AreShares, WorkEach, share_of}
use Rattle.round_runner.proofs.UpTo.{IsBursting, IsSpent, bursting_more, bursting_other, noted_few, picked_among, picked_before, spent_more}

first_then : {A : Type 0} (a b c : Option A) → first_of (first_of a b) c ≡ first_of a (first_of b c)
first_then None b c = refl
first_then (Some x) b c = refl

first_alone : {A : Type 0} (a : Option A) → first_of a None ≡ a
first_alone None = refl
first_alone (Some x) = refl

-- what stands behind the first i items
here_in : {A : Type 0} (xs ys : List A) (i : ℕ) (x : A) → drop i xs ≡ x ∷ ys → slice_get xs i ≡ Some x
here_in [] ys zero x is = cc
here_in [] ys (suc i) x is = cc
here_in (z ∷ xs) ys zero x is = cc
here_in (z ∷ xs) ys (suc i) x is = here_in xs ys i x is

rest_in : {A : Type 0} (xs ys : List A) (i : ℕ) (x : A) → drop i xs ≡ x ∷ ys → drop (suc i) xs ≡ ys
rest_in [] ys zero x is = cc
rest_in [] ys (suc i) x is = cc
rest_in (z ∷ xs) ys zero x is = drop_none xs ∙ (let e : xs ≡ ys = cc in e)
  where
    drop_none : {A : Type 0} (xs : List A) → drop 0 xs ≡ xs
    drop_none [] = refl
    drop_none (x ∷ xs) = refl
rest_in (z ∷ xs) ys (suc i) x is = rest_in xs ys i x is

module _ {X : Type 0} (shares : Shares) (are : AreShares shares) (marks : List Bool) (picked : shares.picks ≡ count_picked marks) (old : Held (Cell X)) (fresh : AreFresh shares.burst old.cells) where
  abbrev pub share : Share
  share = record { burst = shares.burst; left = shares.left; picks = count_picked marks }

  -- so far, by how many were picked
  pub record SoFar (i k fired : ℕ) (trap : Option Trapped) (lacks : Option Lacking) (now : Held (Cell X)) : Type 0 where
    pub bursting : IsBursting share marks shares.burst i k fired trap lacks old now
    pub spent : IsSpent shares.burst shares.left shares.picks k fired

  -- all bursts were made, of which these are the last
  pub record AllMade (fired : ℕ) (trap : Option Trapped) (lacks : Option Lacking) (made : Made) (new : Held (Cell X)) : Type 0 where
    pub k : ℕ
    pub so_far : SoFar (length marks) k (fired + made.fired) (first_of trap made.trap) (first_of lacks made.lacks) new

  limit_is : (k fired : ℕ) → share_of shares k ≡ limit_of shares.burst shares.left (count_picked marks) k fired
  limit_is k fired =
      ap (λ n. allowed shares.left n shares.burst k) picked
      ∙ sym (if_yes (nat_le (count_picked marks) shares.left) (allowed shares.left (count_picked marks) shares.burst k) (min shares.burst (shares.left - fired))
      (le-leb (count_picked marks) shares.left (omega (arith, are.enough, picked))))
    where
      if_yes : {A : Type 0} (b : Bool) (x y : A) → b ≡ true → (if b then x else y) ≡ x
      if_yes true x y h = refl
      if_yes false x y h = cc

  pub all_made : (left : List Bool) (i k fired : ℕ) (trap : Option Trapped) (lacks : Option Lacking) (now new : Held (Cell X)) (made : Made) → drop i marks ≡ left → i + length left ≡ length marks
      → SoFar i k fired trap lacks now → WorkEach (share_of shares) i k left now made new → AllMade fired trap lacks made new
  all_made [] i k fired trap lacks now new made ahead all so_far work = record {
    k = k;
    so_far = subst (λ h. SoFar (length marks) k (fired + made.fired) (first_of trap made.trap) (first_of lacks made.lacks) h) (sym work.0)
        (subst (λ m. SoFar (length marks) k (fired + m.fired) (first_of trap m.trap) (first_of lacks m.lacks) now) (sym work.1)
        (subst (λ l. SoFar (length marks) k (fired + 0) (first_of trap None) l now) (sym (first_alone lacks))
        (subst (λ t. SoFar (length marks) k (fired + 0) t lacks now) (sym (first_alone trap))
        (subst (λ n. SoFar (length marks) k n trap lacks now) (let e : fired ≡ fired + 0 = omega arith in e)
        (subst (λ n. SoFar n k fired trap lacks now) (let e : i ≡ length marks = omega (arith, all) in e) so_far)))));
  }
  all_made (false ∷ left) i k fired trap lacks now new made ahead all so_far work =
      let next : SoFar (i + 1) k fired trap lacks now = record {
        bursting = bursting_other share marks shares.burst i k fired trap lacks old now so_far.bursting (here_in marks left i false ahead);
        spent = so_far.spent;
      } in
      all_made left (suc i) k fired trap lacks now new made (rest_in marks left i false ahead) (omega (arith, all))
      (subst (λ n. SoFar n k fired trap lacks now) (let e : i + 1 ≡ suc i = omega arith in e) next) work
  all_made (true ∷ left) i k fired trap lacks now new made ahead all so_far work =
      let mid = work.0 in
      let count = work.1 in
      let end = work.2 in
      let others = work.3 in
      let works = work.4 in
      let here : slice_get marks i ≡ Some true = here_in marks left i true ahead in
      let among : picked_before marks i < count_picked marks = picked_among marks i here in
      let few : count ≤ share_of shares k = noted_few share marks shares.burst i k fired trap lacks old now so_far.bursting (share_of shares k) end mid works.works count works.counted in
      let within : share_of shares k ≤ shares.burst = omega arith in
      let next : SoFar (i + 1) (k + 1) (fired + count) (first_of trap (trapped_by (record { 0 = i }) end)) (first_of lacks (lacking_by (record { 0 = i }) end)) mid = record {
        bursting = bursting_more share marks shares.burst i k fired trap lacks old now so_far.bursting (share_of shares k) end mid fresh here (limit_is k fired) works.works count works.counted
            works.same_actors works.links works.capacities works.waited (λ some. works.some);
        spent = spent_more shares.burst shares.left shares.picks k fired (share_of shares k) count are.most (omega (arith, among, so_far.bursting.picks, picked))
            (λ enough. together shares.left shares.picks shares.burst (omega (arith, among, picked)))
            (limit_is k fired ∙ ap (λ n. limit_of shares.burst shares.left n k fired) (sym picked)) within few so_far.spent;
      } in
      let rest : AllMade (fired + count) (first_of trap (trapped_by (record { 0 = i }) end)) (first_of lacks (lacking_by (record { 0 = i }) end)) others new =
      all_made left (suc i) (suc k) (fired + count) (first_of trap (trapped_by (record { 0 = i }) end)) (first_of lacks (lacking_by (record { 0 = i }) end)) mid new others (rest_in marks left i true ahead) (omega (arith, all))
      (subst (λ n. SoFar n (suc k) (fired + count) (first_of trap (trapped_by (record { 0 = i }) end)) (first_of lacks (lacking_by (record { 0 = i }) end)) mid) (let e : i + 1 ≡ suc i = omega arith in e)
      (subst (λ n. SoFar (i + 1) n (fired + count) (first_of trap (trapped_by (record { 0 = i }) end)) (first_of lacks (lacking_by (record { 0 = i }) end)) mid) (let e : k + 1 ≡ suc k = omega arith in e) next)) work.6 in
      record {
        k = rest.k;
        so_far = subst (λ m. SoFar (length marks) rest.k (fired + m.fired) (first_of trap m.trap) (first_of lacks m.lacks) new) (sym work.5)
            (subst (λ l. SoFar (length marks) rest.k (fired + (count + others.fired)) (first_of trap (first_of (trapped_by (record { 0 = i }) end) others.trap)) l new) (first_then lacks (lacking_by (record { 0 = i }) end) others.lacks)
            (subst (λ t. SoFar (length marks) rest.k (fired + (count + others.fired)) t (first_of (first_of lacks (lacking_by (record { 0 = i }) end)) others.lacks) new) (first_then trap (trapped_by (record { 0 = i }) end) others.trap)
            (subst (λ n. SoFar (length marks) rest.k n (first_of (first_of trap (trapped_by (record { 0 = i }) end)) others.trap) (first_of (first_of lacks (lacking_by (record { 0 = i }) end)) others.lacks) new)
            (let e : (fired + count) + others.fired ≡ fired + (count + others.fired) = omega arith in e) rest.so_far)));
      }
