-- Networks that are alike have the same runs.
use Rattle.std.proofs.Common.{◌≡◌, ℕ, zero, suc, ◌+◌, ◌<◌, Bool, true, false, List, [], ◌∷◌, ◌++◌, ℤ, map, take, drop, refl, sym, ap, ◌∙◌, subst, arith}
use Rattle.std.specs.Prelude.{Option, None, Some, slice_get, slice_set, slice_index_or, if◌then◌else◌, ◌==◌, ◌&&◌}
use Rattle.std.proofs.lemmas.List.FromFn.{get_or-map-range_with_len}
use Rattle.std.proofs.lemmas.Bool.{eqb-true}
use Rattle.rvc_base.specs.declared.trap.Trap.{Trap as TrapName}
use Rattle.rvc_base.specs.Storing.{conv}
use Rattle.rvc_base.specs.Behaviour.{Effect, Fires, TrapsInGuard, TrapsInBody}
use Rattle.rvc_base.specs.Lawful.{tokens_on}
use Rattle.net_model.specs.declared.wiring.End.{End}
use Rattle.net_model.specs.declared.wiring.End.TheVariants.{Leaf as AtLeaf, Net as AtNet}
use Rattle.net_model.specs.declared.wiring.Link.{Link}
use Rattle.net_model.specs.Network.{Leaf, Network, is_leaf_port}
use Rattle.net_model.specs.State.{Flow, State, waiting, inbox, inboxes, effect_of, effect_at, choice_of, choice_at, need_of, give_of}
use Rattle.net_model.specs.Event.{each_flow, sent_on, taken_from, after_firing, trap, number_of_trap}
use Rattle.net_model.proofs.Keeping.{changed}
use Rattle.net_model.specs.Alike.{Allowed, EachIs, EffectsAlike, BehaveAlike, LeavesAlike, StoresAllowed, ActorsAlike, HoldsAllowed}

-- Allowed tokens.

each_take : (P : ℤ → Type 0) (n : ℕ) (tokens : List ℤ) → EachIs P tokens → EachIs P (take n tokens)
each_take P zero tokens all = tt
each_take P (suc n) [] all = tt
each_take P (suc n) (token ∷ tokens) all = (all.0, each_take P n tokens all.1)

each_drop : (P : ℤ → Type 0) (n : ℕ) (tokens : List ℤ) → EachIs P tokens → EachIs P (drop n tokens)
each_drop P zero tokens all = all
each_drop P (suc n) [] all = tt
each_drop P (suc n) (token ∷ tokens) all = each_drop P n tokens all.1

pub each_append : (P : ℤ → Type 0) (tokens more : List ℤ) → EachIs P tokens → EachIs P more → EachIs P (tokens ++ more)
each_append P [] more all those = those
each_append P (token ∷ tokens) more all those = (all.0, each_append P tokens more all.1 those)

pub each_map : (P : ℤ → Type 0) (f : ℤ → ℤ) (tokens : List ℤ) → ((v : ℤ) → P (f v)) → EachIs P (map f tokens)
each_map P f [] all = tt
each_map P f (token ∷ tokens) all = (all token, each_map P f tokens all)

both_true : (a b : Bool) → (a && b) ≡ true → (a ≡ true) × (b ≡ true)
both_true true b h = (refl, h)
both_true false b h = cc

waiting_allowed : (allowed : Allowed) (i p : ℕ) (flow : Flow) (end : End) → is_leaf_port i p end ≡ true → HoldsAllowed allowed flow end
    → EachIs (allowed i p) (waiting flow)
waiting_allowed allowed i p flow (AtNet port) here holds = cc
waiting_allowed allowed i p flow (AtLeaf inst port) here holds =
    let both = both_true (i == inst.0) (p == port) here in
    let leaf : inst.0 ≡ i = sym (eqb-true i inst.0 both.0) in
    let same : port ≡ p = sym (eqb-true p port both.1) in
    each_drop (allowed i p) flow.taken (take flow.arrived flow.sent)
    (each_take (allowed i p) flow.arrived flow.sent
    (subst (λ n. EachIs (allowed i n) flow.sent) same (subst (λ n. EachIs (allowed n port) flow.sent) leaf holds)))

branch : (P : ℤ → Type 0) (b : Bool) (x y : List ℤ) → (b ≡ true → EachIs P x) → EachIs P y → EachIs P (if b then x else y)
branch P true x y p q = p refl
branch P false x y p q = q

inbox_allowed : (allowed : Allowed) (i p : ℕ) (links : List Link) (flows : List Flow)
    → ((l : ℕ) (link : Link) (flow : Flow) → slice_get links l ≡ Some link → slice_get flows l ≡ Some flow → HoldsAllowed allowed flow link.to)
    → EachIs (allowed i p) (inbox i p links flows)
inbox_allowed allowed i p [] flows holds = tt
inbox_allowed allowed i p (link ∷ links) [] holds = tt
inbox_allowed allowed i p (link ∷ links) (flow ∷ flows) holds =
    branch (allowed i p) (is_leaf_port i p link.to) (waiting flow) (inbox i p links flows)
    (λ here. waiting_allowed allowed i p flow link.to here (holds 0 link flow refl refl))
    (inbox_allowed allowed i p links flows (λ l. holds (suc l)))

pub inboxes_allowed : (allowed : Allowed) (i ins : ℕ) (links : List Link) (flows : List Flow)
    → ((l : ℕ) (link : Link) (flow : Flow) → slice_get links l ≡ Some link → slice_get flows l ≡ Some flow → HoldsAllowed allowed flow link.to)
    → (p : ℕ) → p < ins → EachIs (allowed i p) (tokens_on (inboxes i ins links flows) p)
inboxes_allowed allowed i ins links flows holds p low =
    let at : slice_index_or (inboxes i ins links flows) p [] ≡ inbox i p links flows =
    get_or-map-range_with_len (λ q. inbox i q links flows) 0 ins p p [] low (omega arith) in
    subst (EachIs (allowed i p)) (sym at) (inbox_allowed allowed i p links flows holds)

-- A leaf and its fellow.

pub data Pair {X Y : Type 0} (related : X → Y → Type 0) (allowed : ℕ → ℤ → Type 0) (leaf : Option (Leaf X)) (other : Option (Leaf Y)) : Type 0 where
  Both : (this : Leaf X) (that : Leaf Y) → leaf ≡ Some this → other ≡ Some that → BehaveAlike related allowed this.behaviour that.behaviour
      → Pair related allowed leaf other
  Neither : leaf ≡ None → other ≡ None → Pair related allowed leaf other

pair_at : {X Y : Type 0} (related : ℕ → X → Y → Type 0) (allowed : Allowed) (from : ℕ) (leaves : List (Leaf X)) (others : List (Leaf Y))
    → LeavesAlike related allowed from leaves others → (k i : ℕ) → i ≡ from + k → Pair (related i) (allowed i) (slice_get leaves k) (slice_get others k)
pair_at related allowed from [] [] alike k i is = Neither refl refl
pair_at related allowed from (leaf ∷ leaves) (other ∷ others) alike zero i is =
    let same : from ≡ i = omega (arith, is) in
    Both leaf other refl refl
    (subst (λ n. BehaveAlike (related n) (allowed n) leaf.behaviour other.behaviour) same alike.0.2)
pair_at related allowed from (leaf ∷ leaves) (other ∷ others) alike (suc k) i is =
    pair_at related allowed (suc from) leaves others alike.1 k i (omega (arith, is))
pair_at related allowed from [] (other ∷ others) alike k i is = absurd alike
pair_at related allowed from (leaf ∷ leaves) [] alike k i is = absurd alike

pub data States {X Y : Type 0} (related : X → Y → Type 0) (state : Option X) (other : Option Y) : Type 0 where
  Two : (this : X) (that : Y) → state ≡ Some this → other ≡ Some that → related this that → States related state other
  None_there : state ≡ None → other ≡ None → States related state other

states_at : {X Y : Type 0} (related : ℕ → X → Y → Type 0) (from : ℕ) (states : List X) (others : List Y)
    → ActorsAlike related from states others → (k i : ℕ) → i ≡ from + k → States (related i) (slice_get states k) (slice_get others k)
states_at related from [] [] alike k i is = None_there refl refl
states_at related from (state ∷ states) (other ∷ others) alike zero i is =
    let same : from ≡ i = omega (arith, is) in
    Two state other refl refl (subst (λ n. related n state other) same alike.0)
states_at related from (state ∷ states) (other ∷ others) alike (suc k) i is =
    states_at related (suc from) states others alike.1 k i (omega (arith, is))
states_at related from [] (other ∷ others) alike k i is = absurd alike
states_at related from (state ∷ states) [] alike k i is = absurd alike

-- What each would do.

choice_same : {X Y : Type 0} (related : X → Y → Type 0) (allowed : Allowed) (links : List Link) (flows : List Flow) (i : ℕ)
    (leaf : Option (Leaf X)) (other : Option (Leaf Y)) (state : Option X) (that : Option Y)
    → ((l : ℕ) (link : Link) (flow : Flow) → slice_get links l ≡ Some link → slice_get flows l ≡ Some flow → HoldsAllowed allowed flow link.to)
    → Pair related (allowed i) leaf other → States related state that
    → choice_of links flows i leaf state ≡ choice_of links flows i other that
choice_same related allowed links flows i leaf other state that holds (Neither none none') states = rw (none, none')
choice_same related allowed links flows i leaf other state that holds (Both one two at at' alike) (None_there none none') = rw (at, at', none, none')
choice_same related allowed links flows i leaf other state that holds (Both one two at at' alike) (Two x y is is' rel) =
    let same : inboxes i one.behaviour.ins links flows ≡ inboxes i two.behaviour.ins links flows = ap (λ n. inboxes i n links flows) alike.same_ins in
    rw (at, at', is, is')
    (alike.same_choice x y (inboxes i one.behaviour.ins links flows) rel (inboxes_allowed allowed i one.behaviour.ins links flows holds)
    ∙ ap (λ tokens. two.behaviour.choice y tokens) same)

effect_same : {X Y : Type 0} (related : X → Y → Type 0) (allowed : Allowed) (links : List Link) (flows : List Flow) (i a : ℕ)
    (leaf : Option (Leaf X)) (other : Option (Leaf Y)) (state : Option X) (that : Option Y)
    → ((l : ℕ) (link : Link) (flow : Flow) → slice_get links l ≡ Some link → slice_get flows l ≡ Some flow → HoldsAllowed allowed flow link.to)
    → Pair related (allowed i) leaf other → States related state that
    → EffectsAlike related (effect_of links flows i a leaf state) (effect_of links flows i a other that)
effect_same related allowed links flows i a leaf other state that holds (Neither none none') states =
    subst (λ o. EffectsAlike related (effect_of links flows i a o state) (effect_of links flows i a other that)) (sym none)
    (subst (λ o. EffectsAlike related None (effect_of links flows i a o that)) (sym none') tt)
effect_same related allowed links flows i a leaf other state that holds (Both one two at at' alike) (None_there none none') =
    subst (λ o. EffectsAlike related (effect_of links flows i a o state) (effect_of links flows i a other that)) (sym at)
    (subst (λ o. EffectsAlike related (effect_of links flows i a (Some one) state) (effect_of links flows i a o that)) (sym at')
    (subst (λ o. EffectsAlike related (effect_of links flows i a (Some one) o) (effect_of links flows i a (Some two) that)) (sym none)
    (subst (λ o. EffectsAlike related None (effect_of links flows i a (Some two) o)) (sym none') tt)))
effect_same related allowed links flows i a leaf other state that holds (Both one two at at' alike) (Two x y is is' rel) =
    let same : inboxes i one.behaviour.ins links flows ≡ inboxes i two.behaviour.ins links flows = ap (λ n. inboxes i n links flows) alike.same_ins in
    subst (λ o. EffectsAlike related (effect_of links flows i a o state) (effect_of links flows i a other that)) (sym at)
    (subst (λ o. EffectsAlike related (effect_of links flows i a (Some one) state) (effect_of links flows i a o that)) (sym at')
    (subst (λ o. EffectsAlike related (effect_of links flows i a (Some one) o) (effect_of links flows i a (Some two) that)) (sym is)
    (subst (λ o. EffectsAlike related (effect_of links flows i a (Some one) (Some x)) (effect_of links flows i a (Some two) o)) (sym is')
    (subst (λ tokens. EffectsAlike related (one.behaviour.effect x (inboxes i one.behaviour.ins links flows) a) (two.behaviour.effect y tokens a)) same
    (alike.same_effect x y (inboxes i one.behaviour.ins links flows) a rel (inboxes_allowed allowed i one.behaviour.ins links flows holds))))))

need_same : {X Y : Type 0} (related : X → Y → Type 0) (allowed : ℕ → ℤ → Type 0) (leaf : Option (Leaf X)) (other : Option (Leaf Y))
    → Pair related allowed leaf other → (a p : ℕ) → need_of leaf a p ≡ need_of other a p
need_same related allowed leaf other (Neither none none') a p = rw (none, none')
need_same related allowed leaf other (Both one two at at' alike) a p = rw (at, at') (alike.same_need a p)

give_same : {X Y : Type 0} (related : X → Y → Type 0) (allowed : ℕ → ℤ → Type 0) (leaf : Option (Leaf X)) (other : Option (Leaf Y))
    → Pair related allowed leaf other → (a p : ℕ) → give_of leaf a p ≡ give_of other a p
give_same related allowed leaf other (Neither none none') a p = rw (none, none')
give_same related allowed leaf other (Both one two at at' alike) a p = rw (at, at') (alike.same_give a p)

-- The other network over the same links and ports, and the other state over the same flows.

abbrev pub twin_net : {X Y : Type 0} → Network X → List (Leaf Y) → Network Y
twin_net net others = record { leaves = others; links = net.links; ins = net.ins; outs = net.outs }

abbrev pub twin : {X Y : Type 0} → State X → List Y → State Y
twin s those = record { actors = those; flows = s.flows; trapped = s.trapped }

-- a state of the one network, and the states of the other one's actors
pub record Twins {X Y : Type 0} (related : ℕ → X → Y → Type 0) (allowed : Allowed) (net : Network X) (s : State X) (those : List Y) : Type 0 where
  pub actors : ActorsAlike related 0 s.actors those
  pub holds : (l : ℕ) (link : Link) (flow : Flow) → slice_get net.links l ≡ Some link → slice_get s.flows l ≡ Some flow
      → HoldsAllowed allowed flow link.to

-- a network and the leaves of the other one
pub record TwinNets {X Y : Type 0} (related : ℕ → X → Y → Type 0) (allowed : Allowed) (net : Network X) (others : List (Leaf Y)) : Type 0 where
  pub leaves : LeavesAlike related allowed 0 net.leaves others
  pub stores : (l : ℕ) (link : Link) → slice_get net.links l ≡ Some link → StoresAllowed allowed link link.to

module _ {X Y : Type 0} (related : ℕ → X → Y → Type 0) (allowed : Allowed) (net : Network X) (others : List (Leaf Y))
    (nets : TwinNets related allowed net others) where
  pub pair_of : (i : ℕ) → Pair (related i) (allowed i) (slice_get net.leaves i) (slice_get others i)
  pair_of i = pair_at related allowed 0 net.leaves others nets.leaves i i (omega arith)

  pub twin_choice : (s : State X) (those : List Y) → Twins related allowed net s those → (i : ℕ)
      → choice_at net s i ≡ choice_at (twin_net net others) (twin s those) i
  twin_choice s those twins i =
      choice_same (related i) allowed net.links s.flows i (slice_get net.leaves i) (slice_get others i) (slice_get s.actors i) (slice_get those i)
      twins.holds (pair_of i) (states_at related 0 s.actors those twins.actors i i (omega arith))

  pub twin_effect : (s : State X) (those : List Y) → Twins related allowed net s those → (i a : ℕ)
      → EffectsAlike (related i) (effect_at net s i a) (effect_at (twin_net net others) (twin s those) i a)
  twin_effect s those twins i a =
      effect_same (related i) allowed net.links s.flows i a (slice_get net.leaves i) (slice_get others i) (slice_get s.actors i) (slice_get those i)
      twins.holds (pair_of i) (states_at related 0 s.actors those twins.actors i i (omega arith))

  pub twin_need : (i a p : ℕ) → need_of (slice_get net.leaves i) a p ≡ need_of (slice_get others i) a p
  twin_need i a p = need_same (related i) (allowed i) (slice_get net.leaves i) (slice_get others i) (pair_of i) a p

  pub twin_give : (i a p : ℕ) → give_of (slice_get net.leaves i) a p ≡ give_of (slice_get others i) a p
  twin_give i a p = give_same (related i) (allowed i) (slice_get net.leaves i) (slice_get others i) (pair_of i) a p

-- flows that change and keep what was sent
pub holds_kept : (allowed : Allowed) (change : Link → Flow → Flow) → ((link : Link) (flow : Flow) → (change link flow).sent ≡ flow.sent)
    → (links : List Link) (flows : List Flow)
    → ((l : ℕ) (link : Link) (flow : Flow) → slice_get links l ≡ Some link → slice_get flows l ≡ Some flow → HoldsAllowed allowed flow link.to)
    → (l : ℕ) (link : Link) (flow : Flow) → slice_get links l ≡ Some link → slice_get (each_flow change links flows) l ≡ Some flow
    → HoldsAllowed allowed flow link.to
holds_kept allowed change keeps links flows holds l link flow at now =
    let was = changed change links flows l link flow at now in
    same_holds link.to was.old flow (sym (keeps link was.old) ∙ ap (λ f. f.sent) was.is) (holds l link was.old at was.there)
  where
    same_holds : (end : End) (old new : Flow) → old.sent ≡ new.sent → HoldsAllowed allowed old end → HoldsAllowed allowed new end
    same_holds (AtLeaf inst port) old new same h = subst (EachIs (allowed inst.0 port)) same h
    same_holds (AtNet port) old new same h = tt

-- flows after a firing
sent_allowed : (allowed : Allowed) (i : ℕ) (sent : List (List ℤ)) (link : Link) (from : End) (inst port : ℕ)
    → ((v : ℤ) → allowed inst port (conv link.kind v)) → EachIs (allowed inst port) (sent_on i sent link from)
sent_allowed allowed i sent link (AtNet q) inst port stores = tt
sent_allowed allowed i sent link (AtLeaf leaf q) inst port stores =
    branch (allowed inst port) (i == leaf.0) (map (conv link.kind) (slice_index_or sent q [])) []
    (λ here. each_map (allowed inst port) (conv link.kind) (slice_index_or sent q []) stores) tt

pub holds_fired : (allowed : Allowed) (i : ℕ) (needs : ℕ → ℕ) (sent : List (List ℤ)) (links : List Link) (flows : List Flow)
    → ((l : ℕ) (link : Link) → slice_get links l ≡ Some link → StoresAllowed allowed link link.to)
    → ((l : ℕ) (link : Link) (flow : Flow) → slice_get links l ≡ Some link → slice_get flows l ≡ Some flow → HoldsAllowed allowed flow link.to)
    → (l : ℕ) (link : Link) (flow : Flow) → slice_get links l ≡ Some link → slice_get (each_flow (after_firing i needs sent) links flows) l ≡ Some flow
    → HoldsAllowed allowed flow link.to
holds_fired allowed i needs sent links flows stores holds l link flow at now =
    let was = changed (after_firing i needs sent) links flows l link flow at now in
    of_end link.to was.old flow (ap (λ f. f.sent) was.is) (stores l link at) (holds l link was.old at was.there)
  where
    of_end : (end : End) (old new : Flow) → old.sent ++ sent_on i sent link link.from ≡ new.sent → StoresAllowed allowed link end
        → HoldsAllowed allowed old end → HoldsAllowed allowed new end
    of_end (AtLeaf inst port) old new is stores h =
        subst (EachIs (allowed inst.0 port)) is
        (each_append (allowed inst.0 port) old.sent (sent_on i sent link link.from) h (sent_allowed allowed i sent link link.from inst.0 port stores))
    of_end (AtNet port) old new is stores h = tt

pub set_alike : {X Y : Type 0} (related : ℕ → X → Y → Type 0) (from : ℕ) (states : List X) (others : List Y) → ActorsAlike related from states others
    → (k i : ℕ) (x : X) (y : Y) → i ≡ from + k → related i x y → ActorsAlike related from (slice_set states k x) (slice_set others k y)
set_alike related from [] [] alike k i x y is rel = tt
set_alike related from (state ∷ states) (other ∷ others) alike zero i x y is rel =
    let same : i ≡ from = omega (arith, is) in (subst (λ n. related n x y) same rel, alike.1)
set_alike related from (state ∷ states) (other ∷ others) alike (suc k) i x y is rel =
    (alike.0, set_alike related (suc from) states others alike.1 k i x y (omega (arith, is)) rel)
set_alike related from [] (other ∷ others) alike k i x y is rel = absurd alike
set_alike related from (state ∷ states) [] alike k i x y is rel = absurd alike

pub each_same : (f g : Link → Flow → Flow) → ((link : Link) (flow : Flow) → f link flow ≡ g link flow) → (links : List Link) (flows : List Flow)
    → each_flow f links flows ≡ each_flow g links flows
each_same f g same [] flows = refl
each_same f g same (link ∷ links) [] = refl
each_same f g same (link ∷ links) (flow ∷ flows) = rw (same link flow, each_same f g same links flows)

pub taken_same : (i : ℕ) (needs others : ℕ → ℕ) → ((p : ℕ) → needs p ≡ others p) → (end : End) → taken_from i needs end ≡ taken_from i others end
taken_same i needs others same (AtLeaf inst port) = ap (λ n. if i == inst.0 then n else 0) (same port)
taken_same i needs others same (AtNet port) = refl

-- what fires in the one fires in the other
pub record FiresToo {Y : Type 0} (e : Option (Effect Y)) (sent : List (List ℤ)) (rel : Y → Type 0) : Type 0 where
  pub next : Y
  pub is : e ≡ Some (Fires next sent)
  pub goes_with : rel next

pub fires_too : {X Y : Type 0} (related : X → Y → Type 0) (x : X) (sent : List (List ℤ)) (e : Option (Effect Y))
    → EffectsAlike related (Some (Fires x sent)) e → FiresToo e sent (related x)
fires_too related x sent None alike = absurd alike
fires_too related x sent (Some (Fires y those)) alike =
    record { next = y; is = ap (λ w. Some (Fires y w)) (sym alike.1); goes_with = alike.0 }
fires_too related x sent (Some (TrapsInGuard c)) alike = absurd alike
fires_too related x sent (Some (TrapsInBody c)) alike = absurd alike

-- a step of the one, and the same step of the other
pub record StepToo {X Y : Type 0} (related : ℕ → X → Y → Type 0) (allowed : Allowed) (net : Network X) (o : Option (State Y)) (t : State X) : Type 0 where
  pub those : List Y
  pub is : o ≡ Some (twin t those)
  pub twins : Twins related allowed net t those

marks_too : {X Y : Type 0} (s t : State X) (those : List Y) (test : Bool) → (if test then Some (record s { trapped = true }) else None) ≡ Some t
    → ((if test then Some (record (twin s those) { trapped = true }) else None) ≡ Some (twin t those)) × (t.actors ≡ s.actors) × (t.flows ≡ s.flows)
marks_too s t those true h =
    let is : record s { trapped = true } ≡ t = cc in
    (ap (λ w. Some (twin w those)) is, ap (λ w. w.actors) (sym is), ap (λ w. w.flows) (sym is))
marks_too s t those false h = cc

pub trap_too : {X Y : Type 0} (related : X → Y → Type 0) (s t : State X) (those : List Y) (c : TrapName) (e : Option (Effect X)) (f : Option (Effect Y))
    → EffectsAlike related e f → trap s c e ≡ Some t
    → (trap (twin s those) c f ≡ Some (twin t those)) × (t.actors ≡ s.actors) × (t.flows ≡ s.flows)
trap_too related s t those c None f alike h = cc
trap_too related s t those c (Some (Fires x sent)) f alike h = cc
trap_too related s t those c (Some (TrapsInGuard d)) None alike h = absurd alike
trap_too related s t those c (Some (TrapsInGuard d)) (Some (Fires y sent)) alike h = absurd alike
trap_too related s t those c (Some (TrapsInGuard d)) (Some (TrapsInBody d')) alike h = absurd alike
trap_too related s t those c (Some (TrapsInGuard d)) (Some (TrapsInGuard d')) alike h =
    subst (λ n. (trap (twin s those) c (Some (TrapsInGuard n)) ≡ Some (twin t those)) × (t.actors ≡ s.actors) × (t.flows ≡ s.flows)) alike
    (marks_too s t those (number_of_trap c == number_of_trap d) h)
trap_too related s t those c (Some (TrapsInBody d)) None alike h = absurd alike
trap_too related s t those c (Some (TrapsInBody d)) (Some (Fires y sent)) alike h = absurd alike
trap_too related s t those c (Some (TrapsInBody d)) (Some (TrapsInGuard d')) alike h = absurd alike
trap_too related s t those c (Some (TrapsInBody d)) (Some (TrapsInBody d')) alike h =
    subst (λ n. (trap (twin s those) c (Some (TrapsInBody n)) ≡ Some (twin t those)) × (t.actors ≡ s.actors) × (t.flows ≡ s.flows)) alike
    (marks_too s t those (number_of_trap c == number_of_trap d) h)
