-- The numbers in lines that play are within the bounds of the trace language.
use Rattle.std.proofs.Common.{◌≡◌, ◌≢◌, ℕ, ◌<◌, ◌≤◌, min, Bool, true, false, List, [], ◌∷◌, length, refl, ⊎_elim, arith}
use Rattle.std.specs.Prelude.{if◌then◌else◌, Option, None, Some, slice_get, ℤ}
use Rattle.std.proofs.lemmas.Bool.{cases_lt}
use Rattle.std.proofs.lemmas.Option.{slice_get_within}
use Rattle.rvc_base.specs.declared.trap.Trap.{Trap as TrapName}
use Rattle.rvc_base.specs.Behaviour.{Behaviour, Picks, Effect, Fires, TrapsInBody}
use Rattle.rvc_base.specs.Lawful.{IsLawful}
use Rattle.trace_text.specs.declared.line.Line.{Line}
use Rattle.trace_text.specs.declared.line.Line.TheVariants.{Header, Inst, Fire as FireLine, Deliver as DeliverLine, Grow as GrowLine, Quiet, Trap as TrapLine, Stall, Budget}
use Rattle.trace_text.specs.Table.{number_bound, action_bound, IsWritten, AreWritten}
use Rattle.net_model.specs.declared.wiring.Link.{Link}
use Rattle.net_model.specs.Network.{Leaf, Network}
use Rattle.net_model.specs.State.{Flow, State, effect_at, effect_of, choice_at, choice_of, give_of}
use Rattle.net_model.specs.Event.{fire, trap}
use Rattle.net_model.specs.Ends.{Grows, IsStalled, LacksOn, LacksRoom, all_fed}
use Rattle.net_model.specs.Laws.{AreLawful}
use Rattle.net_model.specs.Limits.{max_grow, max_instances, max_links}
use Rattle.net_model.specs.Trace.{goes, LineIsTrue, OnNext, PlaysFrom}

-- A network with few leaves and links, whose actors are lawful and have few actions.
pub record IsSmall {X : Type 0} (net : Network X) : Type 0 where
  pub few_leaves : length net.leaves ≤ max_instances
  pub few_links : length net.links ≤ max_links
  pub few_actions : (i : ℕ) (leaf : Leaf X) → slice_get net.leaves i ≡ Some leaf → leaf.behaviour.actions ≤ action_bound
  pub lawful : AreLawful net

-- the number of a leaf and that of an action are within their bounds
abbrev AreSmall : ℕ → ℕ → Type 0
AreSmall i a = (i < number_bound) × (a < action_bound)

-- ---- an action that does something

no_effect : {X : Type 0} (o : Option (Effect X)) (e : Effect X) → o ≡ Some e → o ≡ None → ⊥
no_effect o e some none = cc

-- beyond its actions an actor does nothing ..
acts_within : {X : Type 0} (b : Behaviour X) → IsLawful b → (x : X) (tokens : List (List ℤ)) (a : ℕ) → b.effect x tokens a ≢ None → a < b.actions
acts_within b lawful x tokens a acts = ⊎_elim (λ low. low) (λ high. absurd (acts (lawful.no_effect_beyond x tokens a high))) (cases_lt a b.actions)

-- .. and picks none
picks_within : {X : Type 0} (b : Behaviour X) → IsLawful b → (x : X) (tokens : List (List ℤ)) (a : ℕ) → b.choice x tokens ≡ Picks a → a < b.actions
picks_within b lawful x tokens a picks =
    acts_within b lawful x tokens a (λ none. ⊎_elim
    (λ fires. no_effect (b.effect x tokens a) (Fires fires.0 fires.1) fires.2 none)
    (λ traps. no_effect (b.effect x tokens a) (TrapsInBody traps.0) traps.1 none)
    (lawful.picks x tokens a picks))

effect_small : {X : Type 0} (net : Network X) → IsSmall net → (flows : List Flow) (i a : ℕ) (leaf : Option (Leaf X)) (x : Option X)
    → slice_get net.leaves i ≡ leaf → effect_of net.links flows i a leaf x ≢ None → AreSmall i a
effect_small net small flows i a None x is acts = absurd (acts refl)
effect_small net small flows i a (Some leaf) None is acts = absurd (acts refl)
effect_small net small flows i a (Some leaf) (Some x) is acts =
    let here : i < length net.leaves = slice_get_within net.leaves i leaf is in
    let few : length net.leaves ≤ max_instances = small.few_leaves in
    let below : a < leaf.behaviour.actions = acts_within leaf.behaviour (small.lawful i leaf is) x _ a acts in
    let actions : leaf.behaviour.actions ≤ action_bound = small.few_actions i leaf is in
    (omega arith, omega arith)

acts_small : {X : Type 0} (net : Network X) → IsSmall net → (s : State X) (i a : ℕ) → effect_at net s i a ≢ None → AreSmall i a
acts_small net small s i a acts = effect_small net small s.flows i a (slice_get net.leaves i) (slice_get s.actors i) refl acts

fire_acts : {X : Type 0} (net : Network X) (s t : State X) (i a : ℕ) (e : Option (Effect X)) → fire net s i a e ≡ Some t → e ≢ None
fire_acts net s t i a (Some e) h is = cc
fire_acts net s t i a None h is = cc

trap_acts : {X : Type 0} (s t : State X) (c : TrapName) (e : Option (Effect X)) → trap s c e ≡ Some t → e ≢ None
trap_acts s t c (Some e) h is = cc
trap_acts s t c None h is = cc

unless_trapped : {X : Type 0} (P : Type 0) (trapped : Bool) (o : Option (State X)) (t : State X) → (o ≡ Some t → P) → (if trapped then None else o) ≡ Some t → P
unless_trapped P true o t f h = cc
unless_trapped P false o t f h = f h

-- ---- an action that is picked, and lacks room on a link

choice_small : {X : Type 0} (net : Network X) → IsSmall net → (flows : List Flow) (i a : ℕ) (leaf : Option (Leaf X)) (x : Option X)
    → slice_get net.leaves i ≡ leaf → choice_of net.links flows i leaf x ≡ Picks a → AreSmall i a
choice_small net small flows i a None x is picks = cc
choice_small net small flows i a (Some leaf) None is picks = cc
choice_small net small flows i a (Some leaf) (Some x) is picks =
    let here : i < length net.leaves = slice_get_within net.leaves i leaf is in
    let few : length net.leaves ≤ max_instances = small.few_leaves in
    let below : a < leaf.behaviour.actions = picks_within leaf.behaviour (small.lawful i leaf is) x _ a picks in
    let actions : leaf.behaviour.actions ≤ action_bound = small.few_actions i leaf is in
    (omega arith, omega arith)

picks_small : {X : Type 0} (net : Network X) → IsSmall net → (s : State X) (i a : ℕ) → choice_at net s i ≡ Picks a → AreSmall i a
picks_small net small s i a picks = choice_small net small s.flows i a (slice_get net.leaves i) (slice_get s.actors i) refl picks

link_small : {X : Type 0} (net : Network X) → IsSmall net → (gives : ℕ → ℕ) (i l : ℕ) (link : Option Link) (flow : Option Flow)
    → slice_get net.links l ≡ link → LacksOn gives i link flow → l < number_bound
link_small net small gives i l None flow is lacks = absurd lacks
link_small net small gives i l (Some link) flow is lacks =
    let here : l < length net.links = slice_get_within net.links l link is in
    let few : length net.links ≤ max_links = small.few_links in
    omega arith

lacks_small : {X : Type 0} (net : Network X) → IsSmall net → (s : State X) (i a l : ℕ) → LacksRoom net s i a l → l < number_bound
lacks_small net small s i a l lacks =
    link_small net small (give_of (slice_get net.leaves i) a) i l (slice_get net.links l) (slice_get s.flows l) refl lacks

-- where a network is stalled
record IsPlaceSmall (i a l : ℕ) : Type 0 where
  leaf : AreSmall i a
  link : l < number_bound

stalled_small : {X : Type 0} (net : Network X) → IsSmall net → (s : State X) (i a l : ℕ) → IsStalled net s i a l → IsPlaceSmall i a l
stalled_small net small s i a l stalled = record {
  leaf = picks_small net small (all_fed net s) i a stalled.chosen;
  link = lacks_small net small (all_fed net s) i a l stalled.lacks;
}

-- ---- lines

grown_small : {X : Type 0} (net : Network X) → IsSmall net → (grow : ℕ) → grow ≤ max_grow → (s : State X) (l capacity : ℕ) → Grows net grow s l capacity
    → (l < number_bound) × (capacity < number_bound)
grown_small net small grow within s l capacity grows =
    let place = stalled_small net small s grows.leaf grows.action l grows.stalled in
    let is : capacity ≡ min _ grow = grows.doubled in
    (place.link, omega arith)

line_written : {X : Type 0} (net : Network X) → IsSmall net → (grow : ℕ) → grow ≤ max_grow → (s t : State X) (line : Line) (after : List Line)
    → LineIsTrue net grow s line after → goes net s line ≡ Some t → IsWritten line
line_written net small grow within s t (FireLine i a) after true_there h =
    unless_trapped (AreSmall i a) s.trapped _ t (λ is. acts_small net small s i a (fire_acts net s t i a (effect_at net s i a) is)) h
line_written net small grow within s t DeliverLine after true_there h = tt
line_written net small grow within s t (GrowLine l capacity) after true_there h = grown_small net small grow within s l capacity true_there
line_written net small grow within s t Quiet after true_there h = tt
line_written net small grow within s t (TrapLine i a c) after true_there h =
    unless_trapped (AreSmall i a) s.trapped _ t (λ is. acts_small net small s i a (trap_acts s t c (effect_at net s i a) is)) h
line_written net small grow within s t (Stall i a l) after true_there h =
    let place = stalled_small net small s i a l true_there.0.stalled in
    (place.leaf.0, place.leaf.1, place.link)
line_written net small grow within s t Budget after true_there h = tt
line_written net small grow within s t (Header n m g) after true_there h = absurd true_there
line_written net small grow within s t (Inst k) after true_there h = absurd true_there

-- the next state of a line that plays
next_of : {X : Type 0} (o : Option (State X)) (P : State X → Type 0) → OnNext o P → (t : State X) × (o ≡ Some t) × P t
next_of None P h = absurd h
next_of (Some t) P h = (t, refl, h)

pub events_are_written : {X : Type 0} (net : Network X) (grow : ℕ) (s : State X) (lines : List Line) (last : State X)
    → IsSmall net → grow ≤ max_grow → PlaysFrom net grow s lines last → AreWritten lines
events_are_written net grow s [] last small within plays = tt
events_are_written net grow s (line ∷ lines) last small within plays =
    let (t, is, rest) = next_of (goes net s line) (λ next. PlaysFrom net grow next lines last) plays.1 in
    (line_written net small grow within s t line lines plays.0 is, events_are_written net grow t lines last small within rest)
