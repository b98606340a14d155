-- The lowest link on which an action lacks room.
use Rattle.std.proofs.Common.{◌≡◌, ℕ, ◌+◌, ◌-◌, ◌<◌, ◌≤◌, List, length, refl, sym, subst, ⊎_elim, arith}
use Rattle.std.specs.Prelude.{Option, None, Some, slice_get, slice_index_or}
use Rattle.std.proofs.lemmas.Bool.{cases_eq}
use Rattle.std.proofs.lemmas.Option.{slice_get_within}
use Rattle.net_model.specs.declared.wiring.Link.{Link}
use Rattle.net_model.specs.Cell.{Cell}
use Rattle.net_state.specs.Held.{IsWorking, held_of}
use Rattle.net_state.specs.Working.{HasAction, IsAtRest, IsLowestLacking, LacksAsEnds, LacksAt, LacksFrom, LacksOnLink, gives_of}
use Rattle.net_state.proofs.Coming.{on_cell}
use Rattle.net_state.proofs.Standstill.{from_lacks, to_lacks}

lacks_link_of : {X : Type 0} (cells : List (Cell X)) (i a room : ℕ) (o : Option Link) → LacksOnLink cells i a room o
    → (link : Link) × (o ≡ Some link) × LacksFrom (gives_of (slice_get cells i) a) i room link.from
lacks_link_of cells i a room None h = absurd h
lacks_link_of cells i a room (Some link) h = (link, refl, h)

-- no link below the n-th lacks
abbrev pub NoneBelow : {X : Type 0} → ℕ → List (Cell X) → List Link → List ℕ → List ℕ → ℕ → ℕ → Type 0
NoneBelow n cells links capacities waited i a = (m : ℕ) → m < n → LacksAt (held_of cells links capacities waited) i a m → ⊥

module _ {X : Type 0} (cells : List (Cell X)) (links : List Link) (capacities waited : List ℕ) (i a : ℕ) where
  pub below_more : (n : ℕ) (link : Link) → NoneBelow n cells links capacities waited i a → slice_get links n ≡ Some link
      → (LacksFrom (gives_of (slice_get cells i) a) i (slice_index_or capacities n 0 - slice_index_or waited n 0) link.from → ⊥)
      → NoneBelow (n + 1) cells links capacities waited i a
  below_more n link below at none m low lacks = ⊎_elim
      (λ same. none (subst (LacksOnLink cells i a (slice_index_or capacities n 0 - slice_index_or waited n 0)) at
      (subst (λ k. LacksAt (held_of cells links capacities waited) i a k) same lacks)))
      (λ differ. below m (omega (arith, low, differ)) lacks)
      (cases_eq m n)

  pub below_all : (n : ℕ) → NoneBelow n cells links capacities waited i a → length links ≤ n → (l : ℕ) → LacksAt (held_of cells links capacities waited) i a l → ⊥
  below_all n below all l lacks =
      let on = lacks_link_of cells i a (slice_index_or capacities l 0 - slice_index_or waited l 0) (slice_get links l) lacks in
      below l (omega (arith, all, slice_get_within links l on.0 on.1)) lacks

  pub lowest_at : (n : ℕ) (link : Link) → NoneBelow n cells links capacities waited i a → slice_get links n ≡ Some link
      → LacksFrom (gives_of (slice_get cells i) a) i (slice_index_or capacities n 0 - slice_index_or waited n 0) link.from
      → IsLowestLacking (held_of cells links capacities waited) i a n
  lowest_at n link below at lacks = record {
    lacks = subst (LacksOnLink cells i a (slice_index_or capacities n 0 - slice_index_or waited n 0)) (sym at) lacks;
    first = below;
  }

  pub lacks_as_ends : IsWorking cells links capacities waited → IsAtRest (held_of cells links capacities waited) → HasAction cells i a
      → LacksAsEnds (held_of cells links capacities waited) i a
  lacks_as_ends working rest has net s l that =
      let on = on_cell (slice_get cells i) (λ cell. a < cell.actor.actions) has in (
        λ less.
            let there = from_lacks net cells links capacities waited s that.is_of that.stands working rest i a l on.0 on.1 less in
            subst (LacksOnLink cells i a (slice_index_or capacities l 0 - slice_index_or waited l 0)) (sym there.here)
            (subst (λ o. LacksFrom (gives_of o a) i (slice_index_or capacities l 0 - slice_index_or waited l 0) there.link.from) (sym on.1) there.lacks),
        λ lacks.
            let here = lacks_link_of cells i a (slice_index_or capacities l 0 - slice_index_or waited l 0) (slice_get links l) lacks in
            to_lacks net cells links capacities waited s that.is_of that.stands working rest i a l on.0 here.0 on.1 here.1
            (subst (λ o. LacksFrom (gives_of o a) i (slice_index_or capacities l 0 - slice_index_or waited l 0) here.0.from) on.1 here.2),
      )
