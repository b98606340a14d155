-- A delivery of links inside and of input links is a delivery.
use Rattle.std.proofs.Common.{◌≡◌, ℕ, zero, suc, true, List, [], ◌∷◌, refl, ap, subst, ◌∙◌}
use Rattle.std.specs.Prelude.{Option, None, Some, Result, Ok, Err, OnOk, slice_get}
use Rattle.rvc_io.specs.Feeds.{Inputs}
use Rattle.port_files.specs.Coming.{Reading}
use Rattle.net_model.specs.declared.wiring.Link.{Link}
use Rattle.net_model.specs.Network.{NetPort, Network, is_input}
use Rattle.net_model.specs.Counted.{rest_at}
use Rattle.net_model.specs.State.{Flow, State}
use Rattle.net_model.specs.Event.{each_flow}
use Rattle.net_model.specs.Trace.{after_delivery, delivered}
use Rattle.net_model.specs.Cell.{Cell}
use Rattle.net_state.specs.declared.filling.Filled.{Filled}
use Rattle.net_state.specs.Held.{Held}
use Rattle.net_state.specs.Standing.{LeadInside, StandsSince, after_inside, inside_delivered, unarrived}
use Rattle.net_state.specs.Working.{AreFed, IsAtRest}
use Rattle.net_state.proofs.Coming.{by_bool, if_true, if_false}
use Rattle.round_runner.specs.Running.{AreFedBy, ComesBy, feed_of}
use Rattle.network_runner.specs.Delivering.{Delivers}
use Rattle.network_runner.specs.Filling.{CameOn, CameOverOn, Fills, IsFilled, after_inputs, input_delivered}

both_ways : (link : Link) (flow : Flow) → input_delivered link (inside_delivered link flow) ≡ delivered link flow
both_ways link flow = by_bool (is_input link)
    (λ input. if_true (is_input link) _ _ input ∙ ap (delivered link) (if_true (is_input link) _ _ input))
    (λ other. if_false (is_input link) _ _ other ∙ if_false (is_input link) _ _ other)

both : (links : List Link) (flows : List Flow) → each_flow input_delivered links (each_flow inside_delivered links flows) ≡ each_flow delivered links flows
both [] flows = refl
both (link ∷ links) [] = refl
both (link ∷ links) (flow ∷ flows) = ap (λ f. f ∷ each_flow input_delivered links (each_flow inside_delivered links flows)) (both_ways link flow) ∙ ap (λ fs. delivered link flow ∷ fs) (both links flows)

pub delivery_is : {X : Type 0} (net : Network X) (s : State X) → after_inputs net (after_inside net s) ≡ after_delivery net s
delivery_is net s = ap (λ flows. record s { flows = flows }) (both net.links s.flows)

-- an input link isn't changed inside
pub inside_same : {X : Type 0} (net : Network X) (s : State X) (l : ℕ) (link : Link) → slice_get net.links l ≡ Some link → is_input link ≡ true
    → slice_get (after_inside net s).flows l ≡ slice_get s.flows l
inside_same net s l link at input = by_place l net.links s.flows at
  where
    by_place : (k : ℕ) (links : List Link) (flows : List Flow) → slice_get links k ≡ Some link → slice_get (each_flow inside_delivered links flows) k ≡ slice_get flows k
    by_place k [] flows h = cc
    by_place k (head ∷ links) [] h = refl
    by_place zero (head ∷ links) (flow ∷ flows) h =
        ap Some (if_true (is_input head) flow (delivered head flow) (ap is_input (some_same head link h) ∙ input))
      where
        some_same : (a b : Link) → Some a ≡ Some b → a ≡ b
        some_same a b e = cc
    by_place (suc k) (head ∷ links) (flow ∷ flows) h = by_place k links flows h

-- what is to come stays where what was sent and hasn't arrived stays
pub comes_as : {X : Type 0} (s t : State X) (l f rest : ℕ) (link : Link) (o : Option (Option Reading)) (feeds : Inputs) → unarrived (slice_get t.flows l) ≡ unarrived (slice_get s.flows l)
    → ComesBy s l link f rest o feeds → ComesBy t l link f rest o feeds
comes_as s t l f rest link None feeds same comes = absurd comes
comes_as s t l f rest link (Some None) feeds same comes = (same ∙ comes.0, comes.1)
comes_as s t l f rest link (Some (Some reading)) feeds same comes = ((comes.0.0, comes.0.1, same ∙ comes.0.2), comes.1)

told_as : (ports : List NetPort) (inputs : List (List ℕ)) (o : Option Link) (p q : Option Flow) (came : Option Filled) → ((link : Link) → o ≡ Some link → is_input link ≡ true → p ≡ q)
    → CameOn ports inputs o p came → CameOn ports inputs o q came
told_as ports inputs None p q came same told = tt
told_as ports inputs (Some link) p q None same told = told
told_as ports inputs (Some link) p q (Some filled) same told =
    (λ input. subst (λ r. CameOverOn (rest_at ports inputs link.from) link r filled) (same link refl input) (told.0 input), told.1)

pub delivers : {X : Type 0} (old mid new : Held (Cell X)) (before after : List (Option Reading)) (fo fn : Inputs) (came : List Filled)
    → LeadInside old mid → IsAtRest mid → Fills mid new before after fo fn came → Delivers old new before after fo fn came
delivers {X} old mid new before after fo fn came inside rest fills = record {
  states = λ net inputs s stands wired fed.
      let opened : StandsSince net mid (after_inside net s) (after_inside net s) = inside net s stands in
      let fed_mid : AreFedBy net inputs (after_inside net s) before fo = λ l link at input.
      comes_as s (after_inside net s) l (feed_of net.links l) (rest_at net.ins inputs link.from) link (slice_get before l) fo (ap unarrived (inside_same net s l link at input)) (fed l link at input) in
      let filled : IsFilled net inputs (after_inside net s) new after fn came = fills.states net inputs (after_inside net s) opened wired fed_mid in
      let is : after_inputs net (after_inside net s) ≡ after_delivery net s = delivery_is net s in
      record {
        stands = subst (λ t. StandsSince net new t t) is filled.stands;
        fed = subst (λ t. AreFedBy net inputs t after fn) is filled.fed;
        all = subst (λ t. AreFed net t) is filled.all;
        told = λ l. told_as net.ins inputs (slice_get net.links l) (slice_get (after_inside net s).flows l) (slice_get s.flows l) (slice_get came l)
            (λ link at input. inside_same net s l link at input) (filled.told l);
      };
  rests = fills.rests rest;
}

-- the same by the answer
pub delivers_so : {X E : Type 0} (result : Result Unit E) (old mid new : Held (Cell X)) (before after : List (Option Reading)) (fo fn : Inputs) (came : List Filled)
    → LeadInside old mid → IsAtRest mid → OnOk result (Fills mid new before after fo fn came) → OnOk result (Delivers old new before after fo fn came)
delivers_so (Ok v) old mid new before after fo fn came inside rest fills = delivers old mid new before after fo fn came inside rest fills
delivers_so (Err e) old mid new before after fo fn came inside rest fills = tt
