-- Whether all that was sent inside has arrived.
use Rattle.std.proofs.Common.{◌≡◌, ◌≢◌, ℕ, zero, suc, ◌+◌, ◌-◌, ◌<◌, ◌≤◌, false, List, [], ◌∷◌, length, refl, sym, ap, subst, ◌∙◌, ⊎_elim, arith}
use Rattle.std.specs.Prelude.{Option, None, Some, slice_get, ◌==◌}
use Rattle.std.proofs.lemmas.Bool.{cases_eq, cases_lt}
use Rattle.std.proofs.lemmas.List.{length-drop}
use Rattle.net_model.specs.declared.wiring.Link.{Link}
use Rattle.net_model.specs.Network.{Network, is_input}
use Rattle.net_model.specs.State.{Flow, State}
use Rattle.net_model.specs.Ends.{AllArrived}
use Rattle.net_model.specs.Cell.{Cell}
use Rattle.net_state.specs.Held.{Held}
use Rattle.net_state.specs.Standing.{IsTrueOfUnarrived, StandsIn, unarrived}
use Rattle.net_state.specs.Surveyed.{AreSettled}
use Rattle.trace_replay.specs.Ending.{AreUnsettled}
use Rattle.trace_replay.proofs.Chained.{There, there}

-- on the first n links all that was sent inside has arrived
abbrev pub AreOutTo : {X : Type 0} → ℕ → Held (Cell X) → Type 0
AreOutTo {X} n held = (net : Network X) (s : State X) → StandsIn net held s → (l : ℕ) (link : Link) (flow : Flow) → l < n
    → slice_get net.links l ≡ Some link → slice_get s.flows l ≡ Some flow → is_input link ≡ false → flow.arrived ≡ length flow.sent

pub out_none : {X : Type 0} (held : Held (Cell X)) → AreOutTo 0 held
out_none held net s stands l link flow low at here inner = absurd (omega (arith, low))

of_flow : (o : Option Flow) (flow : Flow) (n : ℕ) → o ≡ Some flow → n ≡ length (unarrived o) → n ≡ length flow.sent - flow.arrived
of_flow None flow n here count = cc
of_flow (Some is) flow n here count =
    let same : is ≡ flow = cc in
    subst (λ f. n ≡ length f.sent - f.arrived) same (count ∙ length-drop is.arrived is.sent)

pub out_more : {X : Type 0} (n : ℕ) (links : List Link) (held : Held (Cell X)) (link : Link) → held.links ≡ links → slice_get links n ≡ Some link → AreOutTo n held
    → (is_input link ≡ false → IsTrueOfUnarrived held n (λ tokens. 0 ≡ length tokens)) → AreOutTo (n + 1) held
out_more n links held link links_are at so none net s stands l other flow low at_other here inner = ⊎_elim
    (λ same.
    let at_n : slice_get net.links n ≡ Some link = ap (λ ls. slice_get ls n) (stands.is_of.links_are ∙ links_are) ∙ at in
    let is : link ≡ other = some_is link other (sym at_n ∙ ap (slice_get net.links) (sym same) ∙ at_other) in
    let here_n : slice_get s.flows n ≡ Some flow = ap (slice_get s.flows) (sym same) ∙ here in
    let count : 0 ≡ length flow.sent - flow.arrived = of_flow (slice_get s.flows n) flow 0 here_n (none (ap is_input is ∙ inner) net s stands) in
    let within : flow.arrived ≤ length flow.sent = (stands.stands.flows.each l other flow at_other here).arrived in
    omega (arith, count, within))
    (λ differ. so net s stands l other flow (strict l n low differ) at_other here inner)
    (cases_eq l n)
  where
    some_is : {A : Type 0} (x y : A) → Some x ≡ Some y → x ≡ y
    some_is x y e = cc

    strict : (a b : ℕ) → a < b + 1 → a ≢ b → a < b
    strict a b low other = ⊎_elim (λ less. less) (λ high. absurd (other (omega (arith, low, high)))) (cases_lt a b)

all_so : (links : List Link) (flows : List Flow)
    → ((l : ℕ) (link : Link) (flow : Flow) → slice_get links l ≡ Some link → slice_get flows l ≡ Some flow → is_input link ≡ false → flow.arrived ≡ length flow.sent)
    → AllArrived links flows
all_so [] flows each = tt
all_so (link ∷ links) [] each = tt
all_so (link ∷ links) (flow ∷ flows) each = (each 0 link flow refl refl, all_so links flows (λ l. each (suc l)))

pub one_of : (links : List Link) (flows : List Flow) (l : ℕ) (link : Link) (flow : Flow) → AllArrived links flows → slice_get links l ≡ Some link → slice_get flows l ≡ Some flow → is_input link ≡ false
    → flow.arrived ≡ length flow.sent
one_of [] flows l link flow all at here inner = cc
one_of (first ∷ links) [] l link flow all at here inner = cc
one_of (first ∷ links) (is ∷ flows) zero link flow all at here inner =
    let same : first ≡ link = cc in
    let same_flow : is ≡ flow = cc in
    subst (λ f. f.arrived ≡ length f.sent) same_flow (all.0 (ap is_input same ∙ inner))
one_of (first ∷ links) (is ∷ flows) (suc l) link flow all at here inner = one_of links flows l link flow all.1 at here inner

pub out_all : {X : Type 0} (n : ℕ) (links : List Link) (held : Held (Cell X)) → held.links ≡ links → length links ≤ n → AreOutTo n held → AreSettled held
out_all n links held links_are high so net s stands = record {
  untrapped = stands.stands.untrapped;
  arrived = all_so net.links s.flows (λ l link flow at here inner. so net s stands l link flow (low l link at) at here inner);
}
  where
    low : (l : ℕ) (link : Link) → slice_get net.links l ≡ Some link → l < n
    low l link at =
        let less : l < length net.links = Rattle.trace_replay.proofs.Chained.is_low net.links l link at in
        let count : length net.links ≡ length links = ap (λ ls. length ls) (stands.is_of.links_are ∙ links_are) in
        omega (arith, less, count, high)

-- something was sent on a link and hasn't arrived
pub out_not : {X : Type 0} (n count : ℕ) (links : List Link) (held : Held (Cell X)) (link : Link) → held.links ≡ links → slice_get links n ≡ Some link → is_input link ≡ false
    → IsTrueOfUnarrived held n (λ tokens. count ≡ length tokens) → 0 < count → AreUnsettled held
out_not n count links held link links_are at inner sent some net s stands settled =
    let at_n : slice_get net.links n ≡ Some link = ap (λ ls. slice_get ls n) (stands.is_of.links_are ∙ links_are) ∙ at in
    let flow : There s.flows n = there net.links s.flows n link stands.stands.flows.count at_n in
    let all : flow.item.arrived ≡ length flow.item.sent = one_of net.links s.flows n link flow.item settled.arrived at_n flow.at inner in
    let is : count ≡ length flow.item.sent - flow.item.arrived = of_flow (slice_get s.flows n) flow.item count flow.at (sent net s stands) in
    omega (arith, all, is, some)

pub positive : (n : ℕ) → (n == 0) ≡ false → 0 < n
positive zero test = cc
positive (suc n) test = omega arith

pub out_next : {X : Type 0} (n : ℕ) (links : List Link) (held : Held (Cell X)) (other : Link) → held.links ≡ links → n < length links → AreOutTo n held
    → Rattle.trace_replay.specs.Ending.IsOut n (Rattle.std.specs.Prelude.slice_index_or links n other) held → AreOutTo (n + 1) held
out_next n links held other links_are low so out =
    out_more n links held (Rattle.std.specs.Prelude.slice_index_or links n other) links_are (Rattle.trace_replay.proofs.Chained.at_or links n other low) so out
