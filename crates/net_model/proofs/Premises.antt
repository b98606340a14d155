-- A network that meets what the laws ask: its links lead to ports, and its actors are lawful.
use Rattle.std.proofs.Common.{◌≡◌, ◌≢◌, ℕ, zero, suc, ◌<◌, ◌≤◌, ◌⊎◌, List, [], ◌∷◌, ℤ, pos, length, take, refl, subst, inl, arith}
use Rattle.std.specs.Prelude.{None, Some, slice_get, slice_index_or}
use Rattle.rvc_base.specs.declared.trap.Trap.{Trap}
use Rattle.rvc_base.specs.Behaviour.{Fires, TrapsInGuard, TrapsInBody, Waits, Picks, Faults}
use Rattle.net_model.specs.declared.wiring.Link.{Link}
use Rattle.net_model.specs.Network.{Leaf}
use Rattle.rvc_base.specs.Lawful.{IsLawful, AgreeOn}
use Rattle.net_model.specs.Wired.{IsWired, IsJoined, IsBefore}
use Rattle.net_model.specs.Laws.{AreLawful}
use Rattle.net_model.proofs.Rows.{race, race_effect, race_choice, race_needs, race_gives, ring_net}

has_token : (n : ℕ) (vs : List ℤ) (a : ℕ) → race_effect n vs a ≢ None → race_needs a 0 ≤ length vs
has_token n (v ∷ vs) zero some = omega arith
has_token zero [] zero some = absurd (some refl)
has_token (suc n) [] zero some = absurd (some refl)
has_token n vs (suc a) some = omega arith

has_tokens : (n : ℕ) (u : List (List ℤ)) (a : ℕ) → race.effect n u a ≢ None
    → (p : ℕ) → p < 1 → race_needs a p ≤ length (slice_index_or u p [])
has_tokens n u a some zero low = has_token n (slice_index_or u 0 []) a some
has_tokens n u a some (suc p) low = absurd (omega arith)

sends : (n y : ℕ) (vs : List ℤ) (sent : List (List ℤ)) (a : ℕ) → race_effect n vs a ≡ Some (Fires y sent)
    → length (slice_index_or sent 0 []) ≡ race_gives a 0
sends zero y (v ∷ vs) sent zero h = let was : ([] ∷ []) ≡ sent = cc in subst (λ w. length (slice_index_or w 0 []) ≡ 0) was refl
sends zero y [] sent zero h = cc
sends (suc n) y vs sent zero h = cc
sends zero y (v ∷ vs) sent (suc zero) h = cc
sends zero y [] sent (suc zero) h =
    let was : ((pos 1 ∷ []) ∷ []) ≡ sent = cc in subst (λ w. length (slice_index_or w 0 []) ≡ 1) was refl
sends (suc n) y vs sent (suc zero) h = cc
sends n y vs sent (suc (suc a)) h = cc

gives : (n y : ℕ) (u sent : List (List ℤ)) (a : ℕ) → race.effect n u a ≡ Some (Fires y sent)
    → (p : ℕ) → p < 1 → length (slice_index_or sent p []) ≡ race_gives a p
gives n y u sent a h zero low = sends n y (slice_index_or u 0 []) sent a h
gives n y u sent a h (suc p) low = absurd (omega arith)

-- lists with the same front are empty together
same_effect : (k n : ℕ) (us vs : List ℤ) → take (suc k) us ≡ take (suc k) vs → (a : ℕ) → race_effect n us a ≡ race_effect n vs a
same_effect k n [] [] h a = refl
same_effect k n [] (v ∷ vs) h a = cc
same_effect k n (u ∷ us) [] h a = cc
same_effect k zero (u ∷ us) (v ∷ vs) h zero = refl
same_effect k zero (u ∷ us) (v ∷ vs) h (suc zero) = refl
same_effect k zero (u ∷ us) (v ∷ vs) h (suc (suc a)) = refl
same_effect k (suc n) (u ∷ us) (v ∷ vs) h zero = refl
same_effect k (suc n) (u ∷ us) (v ∷ vs) h (suc zero) = refl
same_effect k (suc n) (u ∷ us) (v ∷ vs) h (suc (suc a)) = refl

same_choice : (k n : ℕ) (us vs : List ℤ) → take (suc k) us ≡ take (suc k) vs → race_choice n us ≡ race_choice n vs
same_choice k n [] [] h = refl
same_choice k n [] (v ∷ vs) h = cc
same_choice k n (u ∷ us) [] h = cc
same_choice k zero (u ∷ us) (v ∷ vs) h = refl
same_choice k (suc n) (u ∷ us) (v ∷ vs) h = refl

front : (seen : ℕ → ℕ) → ((a p : ℕ) → race_needs a p ≤ seen p) → (n : ℕ) (u v : List (List ℤ)) → AgreeOn race seen u v
    → ((a : ℕ) → race.effect n u a ≡ race.effect n v a) × (race.choice n u ≡ race.choice n v)
front seen enough n u v same = front_of (seen 0) refl
  where
    front_of : (k : ℕ) → seen 0 ≡ k → ((a : ℕ) → race.effect n u a ≡ race.effect n v a) × (race.choice n u ≡ race.choice n v)
    front_of zero is = absurd (let one : 1 ≤ seen 0 = enough 0 0 in omega arith)
    front_of (suc k) is =
        let agree : take (suc k) (slice_index_or u 0 []) ≡ take (suc k) (slice_index_or v 0 []) =
        subst (λ m. take m (slice_index_or u 0 []) ≡ take m (slice_index_or v 0 [])) is (same 0 (omega arith)) in (
          same_effect k n (slice_index_or u 0 []) (slice_index_or v 0 []) agree,
          same_choice k n (slice_index_or u 0 []) (slice_index_or v 0 []) agree,
        )

picks : (n : ℕ) (vs : List ℤ) (a : ℕ) → race_choice n vs ≡ Picks a
    → ((y : ℕ) × (sent : List (List ℤ)) × (race_effect n vs a ≡ Some (Fires y sent)))
    ⊎ ((c : Trap) × (race_effect n vs a ≡ Some (TrapsInBody c)))
picks zero (v ∷ vs) zero h = inl (2, ([] ∷ []), refl)
picks zero (v ∷ vs) (suc a) h = cc
picks zero [] zero h = cc
picks zero [] (suc zero) h = inl (1, ((pos 1 ∷ []) ∷ []), refl)
picks zero [] (suc (suc a)) h = cc
picks (suc n) vs a h = cc

faults : (n : ℕ) (vs : List ℤ) (a : ℕ) (c : Trap) → race_choice n vs ≡ Faults a c → race_effect n vs a ≡ Some (TrapsInGuard c)
faults zero (v ∷ vs) a c h = cc
faults zero [] a c h = cc
faults (suc n) vs a c h = cc

waits : (n : ℕ) (vs : List ℤ) → race_choice n vs ≡ Waits → (a : ℕ) → race_effect n vs a ≡ None
waits zero (v ∷ vs) h a = cc
waits zero [] h a = cc
waits (suc n) vs h zero = refl
waits (suc n) vs h (suc zero) = refl
waits (suc n) vs h (suc (suc a)) = refl

none_beyond : (n : ℕ) (vs : List ℤ) (a : ℕ) → 2 ≤ a → race_effect n vs a ≡ None
none_beyond n vs zero high = absurd (omega arith)
none_beyond n vs (suc zero) high = absurd (omega arith)
none_beyond n vs (suc (suc a)) high = refl

no_need_beyond : (a p : ℕ) → 2 ≤ a → race_needs a p ≡ 0
no_need_beyond zero p high = absurd (omega arith)
no_need_beyond (suc a) p high = refl

no_give_beyond : (a p : ℕ) → 2 ≤ a → race_gives a p ≡ 0
no_give_beyond zero p high = absurd (omega arith)
no_give_beyond (suc zero) p high = absurd (omega arith)
no_give_beyond (suc (suc a)) p high = refl

race_is_lawful : IsLawful race
race_is_lawful = record {
  has_tokens = has_tokens;
  gives = gives;
  front = front;
  picks = λ n u a. picks n (slice_index_or u 0 []) a;
  faults = λ n u a c. faults n (slice_index_or u 0 []) a c;
  waits = λ n u. waits n (slice_index_or u 0 []);
  no_effect_beyond = λ n u. none_beyond n (slice_index_or u 0 []);
  no_need_beyond = no_need_beyond;
  no_give_beyond = no_give_beyond;
}

of_leaf : (that leaf : Leaf ℕ) → Some that ≡ Some leaf → IsLawful that.behaviour → IsLawful leaf.behaviour
of_leaf that leaf h lawful = let same : that ≡ leaf = cc in subst (λ k. IsLawful k.behaviour) same lawful

ring_is_lawful : AreLawful ring_net
ring_is_lawful zero leaf at = of_leaf _ leaf at race_is_lawful
ring_is_lawful (suc zero) leaf at = of_leaf _ leaf at race_is_lawful
ring_is_lawful (suc (suc i)) leaf at = cc

-- what any action of the race needs or gives is at most 1
few_needs : (a p : ℕ) → race_needs a p ≤ 1
few_needs zero zero = omega arith
few_needs zero (suc p) = omega arith
few_needs (suc a) p = omega arith

few_gives : (a p : ℕ) → race_gives a p ≤ 1
few_gives zero p = omega arith
few_gives (suc zero) zero = omega arith
few_gives (suc zero) (suc p) = omega arith
few_gives (suc (suc a)) p = omega arith

of_link : (that link : Link) → Some that ≡ Some link → IsJoined ring_net that → IsJoined ring_net link
of_link that link h joined = let same : that ≡ link = cc in subst (λ k. IsJoined ring_net k) same joined

joined : (l : ℕ) (link : Link) → slice_get ring_net.links l ≡ Some link → IsJoined ring_net link
joined zero link at = of_link _ link at (record {
  from_port = omega arith;
  to_port = omega arith;
  inside = λ e. cc;
  output_kind = tt;
  holds_needs = λ a. omega (arith, few_needs a 0);
  holds_gives = λ a. omega (arith, few_gives a 0);
})
joined (suc zero) link at = of_link _ link at (record {
  from_port = omega arith;
  to_port = omega arith;
  inside = λ e. cc;
  output_kind = tt;
  holds_needs = λ a. omega (arith, few_needs a 0);
  holds_gives = λ a. omega (arith, few_gives a 0);
})
joined (suc (suc l)) link at = cc

of_links : (this that link other : Link) → Some this ≡ Some link → Some that ≡ Some other → IsBefore this.to that.to
    → IsBefore link.to other.to
of_links this that link other at there before =
    let one : this ≡ link = cc in
    let two : that ≡ other = cc in
    subst (λ k. IsBefore link.to k.to) two (subst (λ k. IsBefore k.to that.to) one before)

in_order : (l m : ℕ) (link other : Link) → l < m → slice_get ring_net.links l ≡ Some link
    → slice_get ring_net.links m ≡ Some other → IsBefore link.to other.to
in_order zero (suc zero) link other low at there = of_links _ _ link other at there (inl (omega arith))
in_order zero zero link other low at there = absurd (omega arith)
in_order zero (suc (suc m)) link other low at there = cc
in_order (suc zero) zero link other low at there = absurd (omega arith)
in_order (suc zero) (suc zero) link other low at there = absurd (omega arith)
in_order (suc zero) (suc (suc m)) link other low at there = cc
in_order (suc (suc l)) m link other low at there = cc

of_rates : (that leaf : Leaf ℕ) (rate : Leaf ℕ → ℕ → ℕ → ℕ) → Some that ≡ Some leaf → ((a p : ℕ) → rate that a p ≤ 1)
    → (a p : ℕ) → rate leaf a p ≤ 4096
of_rates that leaf rate h few a p =
    let same : that ≡ leaf = cc in
    let low : rate leaf a p ≤ 1 = subst (λ k. rate k a p ≤ 1) same (few a p) in
    omega arith

few_taken : (i : ℕ) (leaf : Leaf ℕ) → slice_get ring_net.leaves i ≡ Some leaf → (a p : ℕ) → leaf.behaviour.need a p ≤ 4096
few_taken zero leaf at = of_rates _ leaf (λ k. k.behaviour.need) at few_needs
few_taken (suc zero) leaf at = of_rates _ leaf (λ k. k.behaviour.need) at few_needs
few_taken (suc (suc i)) leaf at = cc

few_given : (i : ℕ) (leaf : Leaf ℕ) → slice_get ring_net.leaves i ≡ Some leaf → (a p : ℕ) → leaf.behaviour.give a p ≤ 4096
few_given zero leaf at = of_rates _ leaf (λ k. k.behaviour.give) at few_gives
few_given (suc zero) leaf at = of_rates _ leaf (λ k. k.behaviour.give) at few_gives
few_given (suc (suc i)) leaf at = cc

ring_is_wired : IsWired ring_net
ring_is_wired = record {
  joined = joined;
  in_order = in_order;
  few_leaves = omega arith;
  few_links = omega arith;
  few_taken = few_taken;
  few_given = few_given;
}
