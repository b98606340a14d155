-- What networks that are alike have in common: begun and paced lines, and the numbers that count them.
use Rattle.std.proofs.Common.{◌≡◌, ℕ, zero, suc, ◌-◌, ◌<◌, List, [], ◌∷◌, ℤ, length, map, refl, sym, ap, ◌∙◌, subst}
use Rattle.rvc_base.specs.Storing.{conv}
use Rattle.net_model.specs.declared.wiring.End.{End}
use Rattle.net_model.specs.declared.wiring.End.TheVariants.{Leaf as AtLeaf, Net as AtNet}
use Rattle.std.specs.Prelude.{Option, None, Some, slice_get, ◌||◌, ◌&&◌, if◌then◌else◌}
use Rattle.trace_text.specs.declared.line.Line.{Line}
use Rattle.net_model.specs.declared.wiring.Counts.{Counts}
use Rattle.net_model.specs.declared.wiring.Link.{Link}
use Rattle.net_model.specs.Network.{Leaf, NetPort, Network, is_input}
use Rattle.net_model.specs.State.{Flow, State, fed_by, first_flow, sent_to, start_of}
use Rattle.net_model.specs.Counted.{IsCounted, arrived_of, is_delivery, is_short, on_next, rest_at, was_short}
use Rattle.net_model.specs.Paced.{AreRounds, IsBegun, IsPaced, Moment, Pace, first_moment}
use Rattle.net_model.specs.Trace.{KeepsFrom, OnNext, PlaysFrom, bytes_out, goes, text}
use Rattle.net_model.specs.Alike.{ActorsAlike, Allowed, AreAlike, EachIs, HoldsAllowed, LeavesAlike, StatesAlike, StoresAllowed}
use Rattle.net_model.proofs.Twins.{Twins, TwinNets, each_map, twin, twin_net}
use Rattle.net_model.proofs.LikeLines.{goes_too, keeps_too, text_too}
use Rattle.net_model.proofs.LikePacing.{paced_too}
use Rattle.net_cells.proofs.LikeRounds.{rounds_too, twin_moment}
use Rattle.net_cells.proofs.Turned.{nets_back, states_back, states_forth, turned}

-- ---- starts

starts_related : {X Y : Type 0} (related : ℕ → X → Y → Type 0) (allowed : Allowed) (i : ℕ) (leaves : List (Leaf X)) (others : List (Leaf Y))
    → LeavesAlike related allowed i leaves others
    → ActorsAlike related i (map (λ leaf. leaf.behaviour.start) leaves) (map (λ leaf. leaf.behaviour.start) others)
starts_related related allowed i [] [] alike = tt
starts_related related allowed i (leaf ∷ leaves) (other ∷ others) alike =
    (alike.0.2.starts, starts_related related allowed (suc i) leaves others alike.1)
starts_related related allowed i [] (other ∷ others) alike = absurd alike
starts_related related allowed i (leaf ∷ leaves) [] alike = absurd alike

fed_each : (allowed : Allowed) (ports : List NetPort) (inputs : List (List ℕ)) (link : Link) (from : End) (inst port : ℕ) → ((v : ℤ) → allowed inst port (conv link.kind v))
    → EachIs (allowed inst port) (fed_by ports inputs link from)
fed_each allowed ports inputs link (AtLeaf leaf q) inst port stores = tt
fed_each allowed ports inputs link (AtNet q) inst port stores = each_map (allowed inst port) (conv link.kind) _ stores

fed_holds : (allowed : Allowed) (ports : List NetPort) (inputs : List (List ℕ)) (link : Link) (end : End) → StoresAllowed allowed link end → HoldsAllowed allowed (first_flow ports inputs link) end
fed_holds allowed ports inputs link (AtLeaf inst port) stores = fed_each allowed ports inputs link link.from inst.0 port stores
fed_holds allowed ports inputs link (AtNet port) stores = tt

first_holds : (allowed : Allowed) (ports : List NetPort) (inputs : List (List ℕ)) (links : List Link)
    → ((l : ℕ) (link : Link) → slice_get links l ≡ Some link → StoresAllowed allowed link link.to)
    → (l : ℕ) (link : Link) (flow : Flow) → slice_get links l ≡ Some link → slice_get (map (first_flow ports inputs) links) l ≡ Some flow
    → HoldsAllowed allowed flow link.to
first_holds allowed ports inputs [] stores l link flow at now = cc
first_holds allowed ports inputs (head ∷ links) stores zero link flow at now =
    let same : head ≡ link = cc in
    let flow_is : first_flow ports inputs link ≡ flow = ap (first_flow ports inputs) (sym same) ∙ (let is : first_flow ports inputs head ≡ flow = cc in is) in
    subst (λ f. HoldsAllowed allowed f link.to) flow_is
    (fed_holds allowed ports inputs link link.to (subst (λ k. StoresAllowed allowed k k.to) same (stores 0 head refl)))
first_holds allowed ports inputs (head ∷ links) stores (suc l) link flow at now =
    first_holds allowed ports inputs links (λ m. stores (suc m)) l link flow at now

-- ---- steps

next_step : {X : Type 0} {R : Type 0} (o : Option (State X)) (P : State X → Type 0) → ((u : State X) → o ≡ Some u → P u → R) → OnNext o P → R
next_step None P f h = absurd h
next_step (Some u) P f h = f u refl h

module _ {X Y : Type 0} (related : ℕ → X → Y → Type 0) (allowed : Allowed) (net : Network X) (others : List (Leaf Y))
    (nets : TwinNets related allowed net others) where
  -- lines that play find the same links short
  short_too : (grow : ℕ) (lines : List Line) (s last : State X) (those : List Y) (l : ℕ) → Twins related allowed net s those → PlaysFrom net grow s lines last
      → was_short net s lines l ≡ was_short (twin_net net others) (twin s those) lines l
  short_too grow [] s last those l twins plays = refl
  short_too grow (line ∷ lines) s last those l twins plays =
      next_step (goes net s line) (λ next. PlaysFrom net grow next lines last) (λ next is rest.
      let step = goes_too related allowed net others nets s next those line twins is in
      let more = short_too grow lines next last step.those l step.twins rest in
      ap (λ o. on_next o (λ u. (is_delivery line && is_short (slice_get u.flows l)) || was_short net u lines l)) is
      ∙ (ap (λ b. (is_delivery line && is_short (slice_get next.flows l)) || b) more
      ∙ sym (ap (λ o. on_next o (λ u. (is_delivery line && is_short (slice_get u.flows l)) || was_short (twin_net net others) u lines l)) step.is))) plays.1

module _ {X Y : Type 0} (related : ℕ → X → Y → Type 0) (allowed : Allowed) (net : Network X) (other : Network Y) (alike : AreAlike related allowed net other) where
  pub nets : TwinNets related allowed net other.leaves
  nets = record { leaves = alike.leaves; stores = alike.stores }

  -- the other network is the one with its leaves
  net_is : twin_net net other.leaves ≡ other
  net_is =
      ap (λ ls. record { leaves = other.leaves; links = ls; ins = net.ins; outs = net.outs }) alike.links
      ∙ (ap (λ ps. record { leaves = other.leaves; links = other.links; ins = ps; outs = net.outs }) alike.ins
      ∙ ap (λ ps. record { leaves = other.leaves; links = other.links; ins = other.ins; outs = ps }) alike.outs)

  state_is : (s : State X) (that : State Y) → StatesAlike related allowed net s that → twin s that.actors ≡ that
  state_is s that states =
      ap (λ fs. record { actors = that.actors; flows = fs; trapped = s.trapped }) states.flows
      ∙ ap (λ b. record { actors = that.actors; flows = that.flows; trapped = b }) states.trapped

  pub twins_of : (s : State X) (that : State Y) → StatesAlike related allowed net s that → Twins related allowed net s that.actors
  twins_of s that states = record { actors = states.actors; holds = states.holds }

  states_of : (t : State X) (those : List Y) → Twins related allowed net t those → StatesAlike related allowed net t (twin t those)
  states_of t those twins = record { actors = twins.actors; flows = refl; trapped = refl; holds = twins.holds }

  -- a fact of the twin is one of the other network and its state
  pub carried : (P : Network Y → State Y → Type 0) (s : State X) (that : State Y) → StatesAlike related allowed net s that
      → P (twin_net net other.leaves) (twin s that.actors) → P other that
  carried P s that states h = subst (λ n. P n that) net_is (subst (λ w. P (twin_net net other.leaves) w) (state_is s that states) h)

  pub starts_alike : (inputs : List (List ℕ)) → StatesAlike related allowed net (start_of net inputs) (start_of other inputs)
  starts_alike inputs = subst (λ n. StatesAlike related allowed net (start_of net inputs) (start_of n inputs)) net_is (record {
    actors = starts_related related allowed 0 net.leaves other.leaves alike.leaves;
    flows = refl;
    trapped = refl;
    holds = first_holds allowed net.ins inputs net.links alike.stores;
  })

  pub begun_alike : (pace : Pace) (s : State X) (that : State Y) (lines : List Line) (reached : Moment X) → StatesAlike related allowed net s that → IsBegun net pace s lines reached
      → (last : State Y) × IsBegun other pace that lines (record { state = last; round = reached.round; idle = reached.idle; left = reached.left })
      × StatesAlike related allowed net reached.state last
  begun_alike pace s that lines reached states begun =
      let too = rounds_too related allowed net other.leaves nets pace (first_moment pace s) that.actors begun.blocks reached (twins_of s that states) begun.rounds in (
        twin reached.state too.0,
        record {
          blocks = begun.blocks;
          rounds = carried (λ n w. AreRounds n pace (first_moment pace w) begun.blocks (twin_moment reached too.0)) s that states too.1;
          lines_are = begun.lines_are;
        },
        states_of reached.state too.0 too.2,
      )

  pub paced_alike : (pace : Pace) (s t : State X) (that : State Y) (lines : List Line) → StatesAlike related allowed net s that → IsPaced net pace s lines t
      → (last : State Y) × IsPaced other pace that lines last × StatesAlike related allowed net t last
  paced_alike pace s t that lines states paced =
      let too = paced_too related allowed net other.leaves nets pace s that.actors lines t (twins_of s that states) paced in
      (twin t too.0, carried (λ n w. IsPaced n pace w lines (twin t too.0)) s that states too.1, states_of t too.0 too.2)

  pub keep_alike : (s : State X) (that : State Y) (lines : List Line) → StatesAlike related allowed net s that → KeepsFrom net s lines → KeepsFrom other that lines
  keep_alike s that lines states keeps =
      carried (λ n w. KeepsFrom n w lines) s that states
      (keeps_too related allowed net other.leaves nets lines s s that.actors that.actors (twins_of s that states) keeps)

  -- they find the same links short
  short_alike : (grow : ℕ) (lines : List Line) (s last : State X) (that : State Y) (l : ℕ) → StatesAlike related allowed net s that → PlaysFrom net grow s lines last
      → was_short net s lines l ≡ was_short other that lines l
  short_alike grow lines s last that l states plays =
      carried (λ n w. was_short net s lines l ≡ was_short n w lines l) s that states
      (short_too related allowed net other.leaves nets grow lines s last that.actors l (twins_of s that states) plays)

  -- numbers that count lines count them in the other too
  pub counted_alike : (inputs : List (List ℕ)) (grow : ℕ) (s last : State X) (that there : State Y) (lines : List Line) (counts : Counts)
      → StatesAlike related allowed net s that → StatesAlike related allowed net last there → PlaysFrom net grow s lines last
      → IsCounted net inputs s lines last counts → IsCounted other inputs that lines there counts
  counted_alike inputs grow s last that there lines counts states ends plays counted = record {
    firings = counted.firings;
    rounds = counted.rounds;
    links = counted.links ∙ ap length alike.links;
    arrived = λ l link at.
        counted.arrived l link (subst (λ links. slice_get links l ≡ Some link) (sym alike.links) at)
        ∙ (ap (λ fs. if is_input link then arrived_of (slice_get fs l) - arrived_of (slice_get s.flows l) else 0) ends.flows
        ∙ ap (λ fs. if is_input link then arrived_of (slice_get there.flows l) - arrived_of (slice_get fs l) else 0) states.flows);
    ends = counted.ends ∙ ap length alike.links;
    rests = λ l link at.
        counted.rests l link (subst (λ links. slice_get links l ≡ Some link) (sym alike.links) at)
        ∙ (ap (λ b. if b then rest_at net.ins inputs link.from else 0) (short_alike grow lines s last that l states plays)
        ∙ ap (λ ps. if was_short other that lines l then rest_at ps inputs link.from else 0) alike.ins);
    outs = counted.outs ∙ ap length alike.outs;
    sent = λ p low.
        counted.sent p (subst (λ ps. p < length ps) (sym alike.outs) low)
        ∙ (ap (λ fs. length (sent_to p net.links fs) - length (sent_to p net.links s.flows)) ends.flows
        ∙ (ap (λ fs. length (sent_to p net.links there.flows) - length (sent_to p net.links fs)) states.flows
        ∙ ap (λ ls. length (sent_to p ls there.flows) - length (sent_to p ls that.flows)) alike.links));
  }

  pub texts_alike : (grow : ℕ) (lines : List Line) → text net grow lines ≡ text other grow lines
  texts_alike grow lines = text_too related allowed net other.leaves grow lines nets ∙ ap (λ n. text n grow lines) net_is

  pub bytes_alike : (s : State X) (that : State Y) (p : ℕ) → StatesAlike related allowed net s that → bytes_out net s p ≡ bytes_out other that p
  bytes_alike s that p states = carried (λ n w. bytes_out net s p ≡ bytes_out n w p) s that states refl

module _ {X Y : Type 0} (related : ℕ → X → Y → Type 0) (allowed : Allowed) (net : Network X) (other : Network Y) (alike : AreAlike related allowed net other) where
  pub paced_back : (pace : Pace) (s : State X) (that last : State Y) (lines : List Line) → StatesAlike related allowed net s that → IsPaced other pace that lines last
      → (t : State X) × IsPaced net pace s lines t × StatesAlike related allowed net t last
  paced_back pace s that last lines states paced =
      let back = paced_alike (turned related) allowed other net (nets_back related allowed net other alike) pace that last s lines
      (states_back related allowed net other alike s that states) paced in
      (back.0, back.1, states_forth related allowed net other alike back.0 last back.2)
