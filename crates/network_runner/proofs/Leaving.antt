-- What a round leaves of what is to come, and what it sends out.
use Rattle.std.proofs.Common.{◌≡◌, ℕ, suc, ◌-◌, ◌≤◌, true, false, List, [], ◌∷◌, ◌++◌, ℤ, length, map, drop, refl, sym, ap, subst, ◌∙◌, arith, append-nil}
use Rattle.std.specs.Prelude.{Option, Some, slice_get}
use Rattle.std.proofs.lemmas.Bool.{eqb-true}
use Rattle.rvc_base.specs.Storing.{conv}
use Rattle.rvc_io.specs.Feeds.{Inputs}
use Rattle.port_files.specs.Coming.{Reading}
use Rattle.net_model.specs.declared.wiring.End.{End}
use Rattle.net_model.specs.declared.wiring.End.TheVariants.{Leaf as AtLeaf, Net as AtNet}
use Rattle.net_model.specs.declared.wiring.Link.{Link}
use Rattle.net_model.specs.Network.{Network, is_input, is_net_port, is_outside, is_output, kind_at}
use Rattle.net_model.specs.State.{Flow, State, sent_to}
use Rattle.net_model.specs.Cell.{Cell}
use Rattle.net_model.specs.Counted.{rest_at}
use Rattle.net_model.specs.PortFile.{all_encoded}
use Rattle.net_model.specs.Trace.{after_delivery, arrivals, delivered}
use Rattle.net_model.specs.Wired.{HasKindOf, IsWired}
use Rattle.net_state.specs.Held.{Held}
use Rattle.net_state.specs.Moving.{AreApart, carried, sent_from}
use Rattle.net_state.specs.Standing.{LiesIn, StandsIn, unarrived}
use Rattle.net_state.proofs.Coming.{by_bool, if_true, if_false}
use Rattle.net_state.proofs.Flows.{changed_count, changed_so}
use Rattle.net_state.proofs.Gaining.{there_too}
use Rattle.round_runner.specs.Rounds.{out_bytes}
use Rattle.round_runner.specs.Running.{AreFedBy, feed_of}
use Rattle.round_runner.specs.Sending.{stored_bytes}
use Rattle.network_runner.specs.Sending.{outgoing_on, outgoing_to}
use Rattle.network_runner.specs.Stepping.{left_bytes, left_to}
use Rattle.network_runner.proofs.Delivered.{comes_as}
use Rattle.network_runner.proofs.Flowing.{AllGoneOn, GoneOn}
use Rattle.network_runner.proofs.One.{wired_apart}
use Rattle.network_runner.proofs.Stored.{stored_is}

-- What is to come.

unarrived_at : {o : Option Flow} (flow : Flow) → o ≡ Some flow → unarrived o ≡ drop flow.arrived flow.sent
unarrived_at flow there = ap unarrived there

-- over an input link the same is to come as before the firings
still_to_come : {X : Type 0} (net : Network X) (s t : State X) (n l : ℕ) (link : Link) → length s.flows ≡ length net.links → length t.flows ≡ length net.links → AllGoneOn n net s t
    → slice_get net.links l ≡ Some link → is_input link ≡ true → unarrived (slice_get t.flows l) ≡ unarrived (slice_get s.flows l)
still_to_come net s t n l link whole whole_now gone at input =
    let before = there_too net.links s.flows l link (sym whole) at in
    let now = there_too net.links t.flows l link (sym whole_now) at in
    let on : GoneOn n link before.0 now.0 = gone l link before.0 now.0 at before.1 now.1 in
    let same : now.0.sent ≡ before.0.sent = on.sent ∙ (ap (λ ts. before.0.sent ++ ts) (on.from_outside input) ∙ append-nil before.0.sent) in
    unarrived_at now.0 now.1 ∙ (ap (λ a. drop a now.0.sent) on.arrived ∙ (ap (drop before.0.arrived) same ∙ sym (unarrived_at before.0 before.1)))

pub fed_still : {X : Type 0} (net : Network X) (inputs : List (List ℕ)) (s t : State X) (n : ℕ) (readings : List (Option Reading)) (feeds : Inputs)
    → length s.flows ≡ length net.links → length t.flows ≡ length net.links → AllGoneOn n net s t → AreFedBy net inputs s readings feeds → AreFedBy net inputs t readings feeds
fed_still net inputs s t n readings feeds whole whole_now gone fed = λ l link at input.
    comes_as s t l (feed_of net.links l) (rest_at net.ins inputs link.from) link (slice_get readings l) feeds (still_to_come net s t n l link whole whole_now gone at input) (fed l link at input)

-- What is left to go out.

is_net : (p : ℕ) (end : End) → is_net_port p end ≡ true → end ≡ AtNet p
is_net p (AtLeaf inst port) h = cc
is_net p (AtNet port) h = ap AtNet (sym (eqb-true p port h))

-- a link to an output begins inside
pub from_inside : {X : Type 0} (net : Network X) (p l : ℕ) (link : Link) → IsWired net → slice_get net.links l ≡ Some link → is_net_port p link.to ≡ true → is_input link ≡ false
from_inside net p l link wired at leads = by_bool (is_input link)
    (λ input.
    let inner : is_output link ≡ false = (wired.joined l link at).inside input in
    let out : is_output link ≡ true = ap is_outside (is_net p link.to leads) in
    let no : true ≡ false = sym out ∙ inner in cc)
    (λ other. other)

-- where all that was sent at first has arrived, what is left is what was sent since
pub left_since : (p : ℕ) (links : List Link) (flows lasts : List Flow) → length flows ≡ length links → length lasts ≡ length links
    → ((l : ℕ) (link : Link) (before flow : Flow) → slice_get links l ≡ Some link → slice_get flows l ≡ Some before → slice_get lasts l ≡ Some flow → is_net_port p link.to ≡ true
    → flow.arrived ≡ length before.sent)
    → drop (length (sent_to p links flows)) (sent_to p links lasts) ≡ left_to p links lasts
left_since p [] flows lasts whole also each = refl
left_since p (link ∷ links) [] lasts whole also each = absurd (omega (arith, whole))
left_since p (link ∷ links) (before ∷ flows) [] whole also each = absurd (omega (arith, also))
left_since p (link ∷ links) (before ∷ flows) (flow ∷ lasts) whole also each = by_bool (is_net_port p link.to)
    (λ here.
    let first : sent_to p (link ∷ links) (before ∷ flows) ≡ before.sent = if_true (is_net_port p link.to) _ _ here in
    let last : sent_to p (link ∷ links) (flow ∷ lasts) ≡ flow.sent = if_true (is_net_port p link.to) _ _ here in
    let left : left_to p (link ∷ links) (flow ∷ lasts) ≡ drop flow.arrived flow.sent = if_true (is_net_port p link.to) _ _ here in
    ap (λ ts. drop (length ts) (sent_to p (link ∷ links) (flow ∷ lasts))) first
    ∙ (ap (drop (length before.sent)) last ∙ (ap (λ a. drop a flow.sent) (sym (each 0 link before flow refl refl refl here)) ∙ sym left)))
    (λ other.
    let first : sent_to p (link ∷ links) (before ∷ flows) ≡ sent_to p links flows = if_false (is_net_port p link.to) _ _ other in
    let last : sent_to p (link ∷ links) (flow ∷ lasts) ≡ sent_to p links lasts = if_false (is_net_port p link.to) _ _ other in
    let left : left_to p (link ∷ links) (flow ∷ lasts) ≡ left_to p links lasts = if_false (is_net_port p link.to) _ _ other in
    ap (λ ts. drop (length ts) (sent_to p (link ∷ links) (flow ∷ lasts))) first
    ∙ (ap (drop (length (sent_to p links flows))) last
    ∙ (left_since p links flows lasts (omega (arith, whole)) (omega (arith, also)) (λ l. each (suc l)) ∙ sym left)))

-- A delivery lets all that was sent inside arrive.
pub delivered_inside : (link : Link) (flow : Flow) → is_input link ≡ false → flow.arrived ≤ length flow.sent → (delivered link flow).arrived ≡ length flow.sent
delivered_inside link flow inner within =
    let is : arrivals link flow ≡ length flow.sent - flow.arrived = if_false (is_input link) _ _ inner in
    omega (arith, is, within)

module _ {X : Type 0} (net : Network X) (held : Held (Cell X)) (s : State X) (stands : StandsIn net held s) (wired : IsWired net) where
  whole : length s.flows ≡ length net.links
  whole = stands.stands.flows.count

  pub out_left : (t : State X) (n : ℕ) → length t.flows ≡ length net.links → AllGoneOn n net (after_delivery net s) t → (p : ℕ) → out_bytes net p s (sent_to p net.links t.flows) ≡ left_bytes net t p
  out_left t n whole_now gone p = ap (all_encoded (kind_at net.outs p)) (left_since p net.links s.flows t.flows whole whole_now (λ l link before flow at there now leads.
      let inner : is_input link ≡ false = from_inside net p l link wired at leads in
      let opened : slice_get (after_delivery net s).flows l ≡ Some (delivered link before) = changed_so delivered net.links s.flows l link before at there in
      let on : GoneOn n link (delivered link before) flow = gone l link (delivered link before) flow at opened now in
      let within : before.arrived ≤ length before.sent = (stands.stands.flows.each l link before at there).arrived in
      on.arrived ∙ delivered_inside link before inner within))

  pub whole_after : length (after_delivery net s).flows ≡ length net.links
  whole_after = changed_count delivered net.links s.flows whole

  -- What lies in the outboxes is what is left.

  lies_as : (link : Link) (tokens : List ℤ) (end : End) → is_outside end ≡ false → LiesIn held.cells link tokens end → tokens ≡ map (conv link.kind) (sent_from held.cells end)
  lies_as link tokens (AtLeaf inst port) inner lies = lies
  lies_as link tokens (AtNet port) inner lies = cc

  carried_is : (p l : ℕ) (link : Link) (flow : Flow) → slice_get net.links l ≡ Some link → slice_get s.flows l ≡ Some flow → is_net_port p link.to ≡ true
      → carried held.cells link ≡ drop flow.arrived flow.sent
  carried_is p l link flow at there leads =
      sym (lies_as link (drop flow.arrived flow.sent) link.from (from_inside net p l link wired at leads) (stands.stands.flows.each l link flow at there).lies)

  pub outgoing_is : (p : ℕ) → outgoing_to p held.cells net.links ≡ left_to p net.links s.flows
  outgoing_is p = by_links net.links s.flows whole (wired_apart net wired) (λ l link flow at there leads. carried_is p l link flow at there leads)
    where
      none_else : (links : List Link) → ((l : ℕ) (link : Link) → slice_get links l ≡ Some link → is_net_port p link.to ≡ false) → outgoing_to p held.cells links ≡ []
      none_else [] none = refl
      none_else (link ∷ links) none =
          ap (λ ts. ts ++ outgoing_to p held.cells links) (if_false (is_net_port p link.to) (carried held.cells link) [] (none 0 link refl)) ∙ none_else links (λ l. none (suc l))

      by_links : (links : List Link) (flows : List Flow) → length flows ≡ length links → AreApart links
          → ((l : ℕ) (link : Link) (flow : Flow) → slice_get links l ≡ Some link → slice_get flows l ≡ Some flow → is_net_port p link.to ≡ true → carried held.cells link ≡ drop flow.arrived flow.sent)
          → outgoing_to p held.cells links ≡ left_to p links flows
      by_links [] flows same apart each = refl
      by_links (link ∷ links) [] same apart each = absurd (omega (arith, same))
      by_links (link ∷ links) (flow ∷ flows) same apart each = by_bool (is_net_port p link.to)
          (λ here.
          let first : outgoing_on p held.cells link ≡ drop flow.arrived flow.sent = if_true (is_net_port p link.to) _ _ here ∙ each 0 link flow refl refl here in
          let others : outgoing_to p held.cells links ≡ [] = none_else links (λ l other at. by_bool (is_net_port p other.to)
          (λ too. absurd (apart 0 (suc l) link other (omega arith) refl at (is_net p link.to here ∙ sym (is_net p other.to too))))
          (λ no. no)) in
          ap (λ ts. ts ++ outgoing_to p held.cells links) first
          ∙ (ap (λ ts. drop flow.arrived flow.sent ++ ts) others ∙ (append-nil (drop flow.arrived flow.sent) ∙ sym (if_true (is_net_port p link.to) (drop flow.arrived flow.sent) (left_to p links flows) here))))
          (λ other.
          ap (λ ts. ts ++ outgoing_to p held.cells links) (if_false (is_net_port p link.to) (carried held.cells link) [] other)
          ∙ (by_links links flows (omega (arith, same)) (λ l m a b low. apart (suc l) (suc m) a b (omega (arith, low))) (λ l. each (suc l))
          ∙ sym (if_false (is_net_port p link.to) (drop flow.arrived flow.sent) (left_to p links flows) other)))

  -- tokens that are left are stored in the output's type
  pub left_stored : (p : ℕ) → stored_bytes (kind_at net.outs p) (left_to p net.links s.flows) ≡ left_bytes net s p
  left_stored p = by_links net.links s.flows (λ l link flow at there leads.
      let kind : link.kind ≡ kind_at net.outs p = subst (HasKindOf net link) (is_net p link.to leads) (wired.joined l link at).output_kind in
      sym (carried_is p l link flow at there leads) ∙ ap (λ k. map (conv k) (sent_from held.cells link.from)) kind)
    where
      by_links : (links : List Link) (flows : List Flow)
          → ((l : ℕ) (link : Link) (flow : Flow) → slice_get links l ≡ Some link → slice_get flows l ≡ Some flow → is_net_port p link.to ≡ true
          → drop flow.arrived flow.sent ≡ map (conv (kind_at net.outs p)) (sent_from held.cells link.from))
          → stored_bytes (kind_at net.outs p) (left_to p links flows) ≡ all_encoded (kind_at net.outs p) (left_to p links flows)
      by_links [] flows each = refl
      by_links (link ∷ links) [] each = refl
      by_links (link ∷ links) (flow ∷ flows) each = by_bool (is_net_port p link.to)
          (λ here.
          let is : left_to p (link ∷ links) (flow ∷ flows) ≡ map (conv (kind_at net.outs p)) (sent_from held.cells link.from) =
          if_true (is_net_port p link.to) _ _ here ∙ each 0 link flow refl refl here in
          subst (λ ts. stored_bytes (kind_at net.outs p) ts ≡ all_encoded (kind_at net.outs p) ts) (sym is) (stored_is (kind_at net.outs p) (sent_from held.cells link.from)))
          (λ other.
          let is : left_to p (link ∷ links) (flow ∷ flows) ≡ left_to p links flows = if_false (is_net_port p link.to) _ _ other in
          subst (λ ts. stored_bytes (kind_at net.outs p) ts ≡ all_encoded (kind_at net.outs p) ts) (sym is) (by_links links flows (λ l. each (suc l))))
