-- States that differ in capacities alone: the same was sent, the same is settled, and the same is quiet.
use Rattle.std.proofs.Common.{◌≡◌, ℕ, zero, suc, ◌+◌, ◌<◌, Bool, true, false, List, [], ◌∷◌, ◌++◌, length, map, refl, sym, ap, ◌∙◌, subst, append-nil, arith}
use Rattle.std.proofs.lemmas.List.{length-append}
use Rattle.std.proofs.lemmas.Grind.{flat_map-append}
use Rattle.std.specs.Prelude.{Option, None, Some, ℤ, slice_get, if◌then◌else◌}
use Rattle.std.specs.List.{flat_map, range_with_len}
use Rattle.net_model.specs.declared.wiring.Link.{Link}
use Rattle.net_model.specs.Network.{Leaf, Network, is_leaf_port, is_net_port, kind_at}
use Rattle.net_model.specs.State.{Flow, State, effect_at, effect_of, inbox, sent_to, waiting}
use Rattle.net_model.specs.Ends.{AllArrived, IsQuiet, IsSettled, all_fed, with_rest}
use Rattle.net_model.specs.Event.{each_flow}
use Rattle.net_model.specs.Laws.{SentGrows, sent_of, sent_on_link, without_capacities, without_capacity}
use Rattle.net_model.specs.PortFile.{encoded}
use Rattle.net_model.specs.Stable.{IsPrefix}
use Rattle.net_model.specs.Trace.{bytes_out}
use Rattle.net_model.proofs.Commuting.{map_same}

-- ---- what was sent

sent_bare : (flows : List Flow) (l : ℕ) → sent_of (slice_get (map without_capacity flows) l) ≡ sent_of (slice_get flows l)
sent_bare [] l = refl
sent_bare (flow ∷ flows) zero = refl
sent_bare (flow ∷ flows) (suc l) = sent_bare flows l

pub sent_alike : {X : Type 0} (s t : State X) → without_capacities s ≡ without_capacities t → (l : ℕ) → sent_on_link s l ≡ sent_on_link t l
sent_alike s t same l =
    sym (sent_bare s.flows l) ∙ (ap (λ u. sent_of (slice_get u.flows l)) same ∙ sent_bare t.flows l)

-- ---- what has arrived

arrived_bare : (links : List Link) (flows : List Flow) → AllArrived links flows → AllArrived links (map without_capacity flows)
arrived_bare [] flows all = tt
arrived_bare (link ∷ links) [] all = tt
arrived_bare (link ∷ links) (flow ∷ flows) all = (all.0, arrived_bare links flows all.1)

arrived_back : (links : List Link) (flows : List Flow) → AllArrived links (map without_capacity flows) → AllArrived links flows
arrived_back [] flows all = tt
arrived_back (link ∷ links) [] all = tt
arrived_back (link ∷ links) (flow ∷ flows) all = (all.0, arrived_back links flows all.1)

pub settled_alike : {X : Type 0} (net : Network X) (s t : State X) → without_capacities s ≡ without_capacities t → IsSettled net s → IsSettled net t
settled_alike net s t same settled = record {
  untrapped = sym (ap (λ u. u.trapped) same) ∙ settled.untrapped;
  arrived = arrived_back net.links t.flows
      (subst (λ u. AllArrived net.links u.flows) same (arrived_bare net.links s.flows settled.arrived));
}

-- ---- what may happen

inbox_bare : (i p : ℕ) (links : List Link) (flows : List Flow) → inbox i p links (map without_capacity flows) ≡ inbox i p links flows
inbox_bare i p [] flows = refl
inbox_bare i p (link ∷ links) [] = refl
inbox_bare i p (link ∷ links) (flow ∷ flows) =
    ap (λ w. if is_leaf_port i p link.to then waiting flow else w) (inbox_bare i p links flows)

effect_bare : {X : Type 0} (links : List Link) (flows : List Flow) (i a : ℕ) (leaf : Option (Leaf X)) (state : Option X)
    → effect_of links (map without_capacity flows) i a leaf state ≡ effect_of links flows i a leaf state
effect_bare links flows i a None state = refl
effect_bare links flows i a (Some leaf) None = refl
effect_bare links flows i a (Some leaf) (Some state) =
    ap (λ tokens. leaf.behaviour.effect state tokens a)
    (map_same _ _ (λ p. inbox_bare i p links flows) (range_with_len 0 leaf.behaviour.ins))

fed_bare : (links : List Link) (flows : List Flow)
    → each_flow with_rest links (map without_capacity flows) ≡ map without_capacity (each_flow with_rest links flows)
fed_bare [] flows = refl
fed_bare (link ∷ links) [] = refl
fed_bare (link ∷ links) (flow ∷ flows) = ap (λ w. without_capacity (with_rest link flow) ∷ w) (fed_bare links flows)

-- what may happen once the feeds have arrived
fed_effect : {X : Type 0} (net : Network X) (s : State X) (i a : ℕ) → effect_at net (all_fed net (without_capacities s)) i a ≡ effect_at net (all_fed net s) i a
fed_effect net s i a =
    ap (λ flows. effect_of net.links flows i a (slice_get net.leaves i) (slice_get s.actors i)) (fed_bare net.links s.flows)
    ∙ effect_bare net.links (each_flow with_rest net.links s.flows) i a (slice_get net.leaves i) (slice_get s.actors i)

pub quiet_alike : {X : Type 0} (net : Network X) (s t : State X) → without_capacities s ≡ without_capacities t → IsQuiet net s → IsQuiet net t
quiet_alike net s t same quiet = record {
  settled = settled_alike net s t same quiet.settled;
  nothing = λ i a. sym (fed_effect net t i a)
      ∙ (ap (λ u. effect_at net (all_fed net u) i a) (sym same) ∙ (fed_effect net s i a ∙ quiet.nothing i a));
}

-- ---- outputs

no_more : {A : Type 0} (xs more : List A) → length xs ≡ length (xs ++ more) → more ≡ []
no_more xs [] same = refl
no_more xs (y ∷ more) same =
    let longer : length (xs ++ (y ∷ more)) ≡ length xs + suc (length more) = length-append xs (y ∷ more) in absurd (omega arith)

-- lists that begin with each other are equal
pub each_other : {A : Type 0} (xs ys : List A) → IsPrefix xs ys → IsPrefix ys xs → ys ≡ xs
each_other xs ys p q =
    let first : length ys ≡ length xs + length p.0 = ap length p.1 ∙ length-append xs p.0 in
    let second : length xs ≡ length ys + length q.0 = ap length q.1 ∙ length-append ys q.0 in
    let none : p.0 ≡ [] = no_more xs p.0 ((let e : length xs ≡ length ys = omega arith in e) ∙ ap length p.1) in
    p.1 ∙ ap (λ w. xs ++ w) none ∙ append-nil xs

sent_nowhere : (p : ℕ) (links : List Link) → sent_to p links [] ≡ []
sent_nowhere p [] = refl
sent_nowhere p (link ∷ links) = refl

-- the lists of each link
abbrev Grow : List Link → List Flow → List Flow → Type 0
Grow links flows more = (l : ℕ) → l < length links → IsPrefix (sent_of (slice_get flows l)) (sent_of (slice_get more l))

pick : (b : Bool) (xs ys xs' ys' : List ℤ) → IsPrefix xs xs' → IsPrefix ys ys' → IsPrefix (if b then xs else ys) (if b then xs' else ys')
pick true xs ys xs' ys' p q = p
pick false xs ys xs' ys' p q = q

chosen : (b : Bool) (xs : List ℤ) → (if b then xs else xs) ≡ xs
chosen true xs = refl
chosen false xs = refl

sent_grows : (p : ℕ) (links : List Link) (flows more : List Flow) → Grow links flows more → IsPrefix (sent_to p links flows) (sent_to p links more)
sent_grows p [] flows more grow = ([], refl)
sent_grows p (link ∷ links) [] more grow = (sent_to p (link ∷ links) more, refl)
sent_grows p (link ∷ links) (flow ∷ flows) [] grow =
    subst (λ w. IsPrefix (if is_net_port p link.to then flow.sent else sent_to p links flows) w) (chosen (is_net_port p link.to) [])
    (pick (is_net_port p link.to) flow.sent (sent_to p links flows) [] [] (grow 0 (omega arith))
    (subst (λ w. IsPrefix (sent_to p links flows) w) (sent_nowhere p links) (sent_grows p links flows [] (λ l low. grow (suc l) (omega arith)))))
sent_grows p (link ∷ links) (flow ∷ flows) (other ∷ more) grow =
    pick (is_net_port p link.to) flow.sent (sent_to p links flows) other.sent (sent_to p links more) (grow 0 (omega arith))
    (sent_grows p links flows more (λ l low. grow (suc l) (omega arith)))

pub bytes_grow : {X : Type 0} (net : Network X) (s t : State X) → SentGrows net s t → (p : ℕ) → IsPrefix (bytes_out net s p) (bytes_out net t p)
bytes_grow net s t grows p =
    let sent : IsPrefix (sent_to p net.links s.flows) (sent_to p net.links t.flows) = sent_grows p net.links s.flows t.flows grows in
    let f : ℤ → List ℕ = encoded (kind_at net.outs p) in
    (flat_map f sent.0, ap (flat_map f) sent.1 ∙ flat_map-append f (sent_to p net.links s.flows) sent.0)
