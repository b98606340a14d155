-- What links may grow to stays, as cells fire.
use Rattle.std.proofs.Common.{◌≡◌, ℕ, ◌-◌, ◌<◌, List, refl, sym, ap, subst, ◌∙◌}
use Rattle.std.specs.Prelude.{Option, None, Some, slice_get, slice_index_or}
use Rattle.net_model.specs.declared.wiring.End.{End}
use Rattle.net_model.specs.declared.wiring.End.TheVariants.{Leaf as AtLeaf, Net as AtNet}
use Rattle.net_model.specs.declared.wiring.Link.{Link}
use Rattle.net_model.specs.Cell.{Cell}
use Rattle.net_state.specs.Held.{Held}
use Rattle.net_state.specs.Moving.{SameActors}
use Rattle.net_state.specs.Working.{CanHold, LacksFrom, LacksOnLink, gives_of}
use Rattle.net_state.proofs.Gaining.{there_too}
use Rattle.net_state.proofs.Kept.{same_inbox, same_outbox}
use Rattle.network_runner.specs.Closing.{MayGrow}
use Rattle.network_runner.specs.Rounding.{CanGrow, HasEnds}

module _ {X : Type 0} (old new : List (Cell X)) (same : SameActors old new) where
  pub gives_same : (i a p : ℕ) → gives_of (slice_get new i) a p ≡ gives_of (slice_get old i) a p
  gives_same i a p = by_option (slice_get new i) refl
    where
      some_none : {A : Type 0} {x : A} → Some x ≡ None → ⊥
      some_none h = cc

      old_none : (o : Option (Cell X)) → slice_get old i ≡ o → slice_get new i ≡ None → gives_of {X = X} None a p ≡ gives_of {X = X} o a p
      old_none None is none = refl
      old_none (Some before) is none = (let after = there_too old new i before (sym same.count) is in absurd (some_none (sym after.1 ∙ none)))

      by_option : (o : Option (Cell X)) → slice_get new i ≡ o → gives_of {X = X} o a p ≡ gives_of (slice_get old i) a p
      by_option None is = old_none (slice_get old i) refl is
      by_option (Some after) is =
          let before = there_too new old i after same.count is in
          ap (λ actor. actor.give a p) (same.each i before.0 after before.1 is).same_actor ∙ sym (ap (λ o. gives_of o a p) before.1)

  lacks_end : (i a room : ℕ) (end : End) → LacksFrom (gives_of (slice_get new i) a) i room end → LacksFrom (gives_of (slice_get old i) a) i room end
  lacks_end i a room (AtLeaf inst port) lacks = (lacks.0, subst (λ n. room < n) (gives_same i a port) lacks.1)
  lacks_end i a room (AtNet port) lacks = absurd lacks

  lacks_link : (i a room : ℕ) (o : Option Link) → LacksOnLink new i a room o → LacksOnLink old i a room o
  lacks_link i a room None lacks = absurd lacks
  lacks_link i a room (Some link) lacks = lacks_end i a room link.from lacks

  hold_same : (grow : ℕ) (o : Option Link) → HasEnds old o → CanHold old grow o → CanHold new grow o
  hold_same grow None ends holds = absurd ends
  hold_same grow (Some link) ends holds = (same_outbox old new same link.from grow ends.0 holds.0, same_inbox old new same link.to grow ends.1 holds.1)

pub may_grow : {X : Type 0} (grow : ℕ) (old new : Held (Cell X)) → SameActors old.cells new.cells → new.links ≡ old.links → new.capacities ≡ old.capacities → new.waited ≡ old.waited
    → CanGrow grow old → MayGrow grow new
may_grow {X} grow old new same links capacities waited can = λ i a l lacks.
    let here : LacksOnLink new.cells i a (slice_index_or old.capacities l 0 - slice_index_or old.waited l 0) (slice_get old.links l) =
    subst (λ ls. LacksOnLink new.cells i a (slice_index_or old.capacities l 0 - slice_index_or old.waited l 0) (slice_get ls l)) links
    (subst (λ ws. LacksOnLink new.cells i a (slice_index_or old.capacities l 0 - slice_index_or ws l 0) (slice_get new.links l)) waited
    (subst (λ cs. LacksOnLink new.cells i a (slice_index_or cs l 0 - slice_index_or new.waited l 0) (slice_get new.links l)) capacities lacks)) in
    let both = can i a l (lacks_link old.cells new.cells same i a (slice_index_or old.capacities l 0 - slice_index_or old.waited l 0) (slice_get old.links l) here) in
    let some : 0 < slice_index_or new.capacities l 0 = subst (λ cs. 0 < slice_index_or cs l 0) (sym capacities) both.2 in
    (subst (λ ls. CanHold new.cells grow (slice_get ls l)) (sym links) (hold_same old.cells new.cells same grow (slice_get old.links l) both.0 both.1), some)
