-- The ends of runs: quiet is that each leaf waits, and a stall has one place.
use Rattle.std.proofs.Common.{◌≡◌, ℕ, ◌<◌, List, ℤ, refl, sym, ◌∙◌, subst, ⊎_elim, arith}
use Rattle.std.specs.Prelude.{Option, None, Some, slice_get, ◌↔◌}
use Rattle.std.proofs.lemmas.Bool.{cases_lt}
use Rattle.rvc_base.specs.Behaviour.{Behaviour, Choice, Waits, Picks, Faults}
use Rattle.net_model.specs.declared.wiring.Link.{Link}
use Rattle.net_model.specs.Network.{Leaf, Network}
use Rattle.net_model.specs.State.{Flow, State, inboxes, effect_of, choice_of, choice_at}
use Rattle.net_model.specs.Ends.{IsQuiet, IsSettled, IsStalled, LacksRoom, all_fed}
use Rattle.rvc_base.specs.Lawful.{IsLawful}
use Rattle.net_model.specs.Laws.{AreLawful, AllWait}

-- an actor that has no effect waits
waits_where_none : {X : Type 0} (b : Behaviour X) → IsLawful b → (x : X) (u : List (List ℤ)) (made : Choice) → b.choice x u ≡ made
    → ((a : ℕ) → b.effect x u a ≡ None) → b.choice x u ≡ Waits
waits_where_none b lawful x u Waits is none = is
waits_where_none b lawful x u (Picks a) is none =
    let no : b.effect x u a ≡ None = none a in
    absurd (⊎_elim (λ fires. let some = fires.2 in cc) (λ traps. let some = traps.1 in cc) (lawful.picks x u a is))
waits_where_none b lawful x u (Faults a c) is none =
    let no : b.effect x u a ≡ None = none a in
    let some = lawful.faults x u a c is in
    absurd (cc)

-- and one that waits has none
choice_where_none : {X : Type 0} (links : List Link) (flows : List Flow) (i : ℕ) (leaf : Option (Leaf X)) (x : Option X)
    → ((that : Leaf X) → leaf ≡ Some that → IsLawful that.behaviour)
    → ((a : ℕ) → effect_of links flows i a leaf x ≡ None) → choice_of links flows i leaf x ≡ Waits
choice_where_none links flows i None x lawful none = refl
choice_where_none links flows i (Some leaf) None lawful none = refl
choice_where_none links flows i (Some leaf) (Some x) lawful none =
    waits_where_none leaf.behaviour (lawful leaf refl) x (inboxes i leaf.behaviour.ins links flows) _ refl none

none_where_waits : {X : Type 0} (links : List Link) (flows : List Flow) (i : ℕ) (leaf : Option (Leaf X)) (x : Option X)
    → ((that : Leaf X) → leaf ≡ Some that → IsLawful that.behaviour)
    → choice_of links flows i leaf x ≡ Waits → (a : ℕ) → effect_of links flows i a leaf x ≡ None
none_where_waits links flows i None x lawful waits a = refl
none_where_waits links flows i (Some leaf) None lawful waits a = refl
none_where_waits links flows i (Some leaf) (Some x) lawful waits a =
    (lawful leaf refl).waits x (inboxes i leaf.behaviour.ins links flows) waits a

waits_of_quiet : {X : Type 0} (net : Network X) (s : State X) → AreLawful net → IsQuiet net s → AllWait net s
waits_of_quiet net s lawful quiet i =
    choice_where_none net.links (all_fed net s).flows i (slice_get net.leaves i) (slice_get s.actors i) (lawful i)
    (λ a. quiet.nothing i a)

pub quiet_is_waiting : {X : Type 0} (net : Network X) (s : State X) → AreLawful net
    → IsQuiet net s ↔ (IsSettled net s × AllWait net s)
quiet_is_waiting net s lawful = (
  (λ quiet. (quiet.settled, waits_of_quiet net s lawful quiet)),
  (λ both. record {
    settled = both.0;
    nothing = λ i a. none_where_waits net.links (all_fed net s).flows i (slice_get net.leaves i) (slice_get s.actors i) (lawful i) (both.1 i) a;
  }),
)

waits_or_picks : {X : Type 0} (net : Network X) (s : State X) (i a : ℕ) → choice_at net s i ≡ Waits → choice_at net s i ≡ Picks a → ⊥
waits_or_picks net s i a waits picks = let apart : Waits ≡ Picks a = sym waits ∙ picks in cc

picks_one : (c : Choice) (a b : ℕ) → c ≡ Picks a → c ≡ Picks b → a ≡ b
picks_one c a b one other = cc

-- of two numbers that are each the lowest, neither is below
neither_below : (i j : ℕ) → (i < j → ⊥) → (j < i → ⊥) → i ≡ j
neither_below i j p q = ⊎_elim (λ low. absurd (p low)) (λ up. ⊎_elim (λ low. absurd (q low)) (λ down. omega arith) (cases_lt j i)) (cases_lt i j)

same_links : {X : Type 0} (net : Network X) (s : State X) (i a l j b m : ℕ) → i ≡ j → a ≡ b
    → IsStalled net s i a l → IsStalled net s j b m → l ≡ m
same_links net s i a l j b m same_leaf same_action p q =
    neither_below l m
    (λ low. q.lowest_link l low
    (subst (λ k. LacksRoom net (all_fed net s) k b l) same_leaf (subst (λ k. LacksRoom net (all_fed net s) i k l) same_action p.lacks)))
    (λ low. p.lowest_link m low
    (subst (λ k. LacksRoom net (all_fed net s) k a m) (sym same_leaf) (subst (λ k. LacksRoom net (all_fed net s) j k m) (sym same_action) q.lacks)))

pub stalls_in_one_place : {X : Type 0} (net : Network X) (s : State X) (i a l j b m : ℕ)
    → IsStalled net s i a l → IsStalled net s j b m → (i ≡ j) × (a ≡ b) × (l ≡ m)
stalls_in_one_place net s i a l j b m p q =
    let same_leaf : i ≡ j =
    neither_below i j
    (λ low. waits_or_picks net (all_fed net s) i a (q.lowest_leaf i low) p.chosen)
    (λ low. waits_or_picks net (all_fed net s) j b (p.lowest_leaf j low) q.chosen) in
    let same_action : a ≡ b =
    picks_one (choice_at net (all_fed net s) j) a b
    (subst (λ k. choice_at net (all_fed net s) k ≡ Picks a) same_leaf p.chosen) q.chosen in
    (same_leaf, same_action, same_links net s i a l j b m same_leaf same_action p q)

pub stalled_is_not_quiet : {X : Type 0} (net : Network X) (s : State X) (i a l : ℕ) → AreLawful net
    → IsStalled net s i a l → IsQuiet net s → ⊥
stalled_is_not_quiet net s i a l lawful stalled quiet =
    waits_or_picks net (all_fed net s) i a (waits_of_quiet net s lawful quiet i) stalled.chosen
