-- Stability (Kahn 1974, for each firing): what an actor does isn't undone by tokens that come later.
-- Trusted: part of what a promise means.
use Rattle.std.specs.Prelude.{◌≡◌, ◌≢◌, ℕ, ◌<◌, List, [], ◌++◌, ℤ, slice_get, slice_index_or, None, Some}
use Rattle.rvc_base.specs.Behaviour.{Behaviour, Effect}
use Rattle.net_model.specs.Network.{Leaf, Network}

-- ys begins with xs
abbrev pub IsPrefix : {A : Type 0} → List A → List A → Type 0
IsPrefix {A} xs ys = (rest : List A) × (ys ≡ xs ++ rest)

-- on each of so many ports the tokens begin with these
abbrev pub BeginWith : ℕ → List (List ℤ) → List (List ℤ) → Type 0
BeginWith ins u v = (p : ℕ) → p < ins → IsPrefix (slice_index_or u p []) (slice_index_or v p [])

-- what an action does it does with more tokens too, with the same effect, and no other action does anything
pub record IsStable {X : Type 0} (b : Behaviour X) : Type 0 where
  pub same : (x : X) (u v : List (List ℤ)) (a : ℕ) (e : Effect X) → BeginWith b.ins u v
      → b.effect x u a ≡ Some e → b.effect x v a ≡ Some e
  pub alone : (x : X) (u v : List (List ℤ)) (a : ℕ) (e : Effect X) → BeginWith b.ins u v
      → b.effect x u a ≡ Some e → (c : ℕ) → c ≢ a → b.effect x v c ≡ None

-- the behaviour of each leaf is stable
abbrev pub AreStable : {X : Type 0} → Network X → Type 0
AreStable {X} net = (i : ℕ) (leaf : Leaf X) → slice_get net.leaves i ≡ Some leaf
    → IsStable leaf.behaviour
