-- Rounds keep the capacities of links, with the trap that ends a run.
use Rattle.std.proofs.Common.{◌≡◌, ◌≢◌, ℕ, zero, suc, ◌+◌, ◌-◌, ◌<◌, ◌≤◌, ◌⊎◌, Bool, true, false, List, [], ◌∷◌, ◌++◌, ℤ, length, map, refl, sym, ap, ◌∙◌, subst, inl, inr, ⊎_elim, arith, append_assoc, append-nil}
use Rattle.std.specs.Prelude.{Option, None, Some, slice_get, if◌then◌else◌, ◌==◌, replicate, pos}
use Rattle.std.proofs.lemmas.Bool.{eqb-true, cases_lt}
use Rattle.std.proofs.lemmas.List.{length-append, length-replicate}
use Rattle.rvc_base.specs.declared.trap.Trap.{Trap as TrapName}
use Rattle.rvc_base.specs.Behaviour.{TrapsInGuard, TrapsInBody, Faults}
use Rattle.rvc_base.specs.Lawful.{IsLawful}
use Rattle.trace_text.specs.declared.line.Line.{Line}
use Rattle.trace_text.specs.declared.line.Line.TheVariants.{Fire as FireLine, Trap as TrapLine}
use Rattle.net_model.specs.declared.wiring.End.{End}
use Rattle.net_model.specs.declared.wiring.End.TheVariants.{Leaf as AtLeaf, Net as AtNet}
use Rattle.net_model.specs.declared.wiring.Link.{Link}
use Rattle.net_model.specs.Network.{Leaf, Network}
use Rattle.net_model.specs.State.{Flow, State, inboxes, effect_of, effect_at, choice_of, need_of, give_of}
use Rattle.net_model.specs.Event.{Fire, each_flow, sent_on, after_firing, happens}
use Rattle.net_model.specs.Trace.{OnNext, held_since, FitFlows, with_given, counted_flows, KeepsSince}
use Rattle.net_model.specs.Wired.{IsWired}
use Rattle.net_model.specs.Laws.{AreLawful, AreOrdered}
use Rattle.net_model.specs.Paced.{PassesRoom, PassesOn, PassesLink, HasRoomIn, Halt, Unpicked, Spent, Waiting, NoRoom, Trapping, TrapsIn, HaltsAt, IsBurst, Share, AreBursts, fire_lines, first_trap}
use Rattle.net_model.proofs.Commuting.{Fired, fired_unless, get_other, effect_stays}
use Rattle.net_model.proofs.Bounds.{happens_ordered}
use Rattle.net_model.proofs.Keeping.{SinceOpened, Since, fits_now, fire_since, fit_each, changed}

next_with : {X : Type 0} (o : Option (State X)) (P Q : State X → Type 0) → ((u : State X) → o ≡ Some u → P u → Q u) → OnNext o P → OnNext o Q
next_with None P Q f h = h
next_with (Some u) P Q f h = f u refl h

next_in : {X : Type 0} {R : Type 0} (o : Option (State X)) (P : State X → Type 0) → ((u : State X) → o ≡ Some u → P u → R) → OnNext o P → R
next_in None P f h = absurd h
next_in (Some u) P f h = f u refl h

-- a state in which a round stands
pub record Stands {X : Type 0} (net : Network X) (opened s : State X) : Type 0 where
  pub since : Since net opened s
  pub ordered : AreOrdered s

-- What the firings of other leaves leave of a leaf.

pub record Untouched {X : Type 0} (net : Network X) (opened : State X) (i : ℕ) (s t : State X) : Type 0 where
  pub effects : (a : ℕ) → effect_at net t i a ≡ effect_at net s i a
  pub rooms : (a l : ℕ) → PassesLink net opened t i a l → PassesLink net opened s i a l

untouched_same : {X : Type 0} (net : Network X) (opened : State X) (i : ℕ) (s : State X) → Untouched net opened i s s
untouched_same net opened i s = record { effects = λ a. refl; rooms = λ a l passes. passes }

untouched_then : {X : Type 0} (net : Network X) (opened : State X) (i : ℕ) (s t u : State X) → Untouched net opened i s t → Untouched net opened i t u
    → Untouched net opened i s u
untouched_then net opened i s t u p q =
    record { effects = λ a. q.effects a ∙ p.effects a; rooms = λ a l passes. p.rooms a l (q.rooms a l passes) }

if_other : {A : Type 0} (i j : ℕ) (x y : A) → i ≢ j → (if i == j then x else y) ≡ y
if_other i j x y differ = of_test (i == j) refl
  where
    of_test : (b : Bool) → (i == j) ≡ b → (if b then x else y) ≡ y
    of_test true e = absurd (differ (eqb-true i j e))
    of_test false e = refl

passes_before : (gives : ℕ → ℕ) (i j : ℕ) (needs : ℕ → ℕ) (sent : List (List ℤ)) (link : Link) (before flow : Flow) (end : End) → link.from ≡ end → i ≢ j
    → PassesRoom gives i before (after_firing j needs sent link flow) end → PassesRoom gives i before flow end
passes_before gives i j needs sent link before flow (AtNet port) from differ passes = passes
passes_before gives i j needs sent link before flow (AtLeaf inst port) from differ passes =
    let none : sent_on j sent link link.from ≡ [] =
    ap (sent_on j sent link) from
    ∙ if_other j inst.0 _ [] (λ same. differ (passes.0 ∙ sym same)) in
    let same : length (flow.sent ++ sent_on j sent link link.from) ≡ length flow.sent =
    ap (λ more. length (flow.sent ++ more)) none ∙ ap length (append-nil flow.sent) in
    (passes.0, omega (arith, passes.1, same))

passes_each : (gives : ℕ → ℕ) (i j : ℕ) (needs : ℕ → ℕ) (sent : List (List ℤ)) (links : List Link) (flows : List Flow) (before : Option Flow) (l : ℕ) → i ≢ j
    → PassesOn gives i (slice_get links l) before (slice_get (each_flow (after_firing j needs sent) links flows) l)
    → PassesOn gives i (slice_get links l) before (slice_get flows l)
passes_each gives i j needs sent [] flows before l differ passes = passes
passes_each gives i j needs sent (link ∷ links) [] before l differ passes = passes
passes_each gives i j needs sent (link ∷ links) (flow ∷ flows) None zero differ passes = passes
passes_each gives i j needs sent (link ∷ links) (flow ∷ flows) (Some before) zero differ passes =
    passes_before gives i j needs sent link before flow link.from refl differ passes
passes_each gives i j needs sent (link ∷ links) (flow ∷ flows) before (suc l) differ passes =
    passes_each gives i j needs sent links flows before l differ passes

fire_untouched : {X : Type 0} (net : Network X) (opened s t : State X) (i j b : ℕ) → i ≢ j → AreOrdered s → happens net s (Fire j b) ≡ Some t
    → Untouched net opened i s t
fire_untouched net opened s t i j b differ ordered h =
    let one : Fired net s t j b = fired_unless net s t j b s.trapped refl h in
    subst (λ w. Untouched net opened i s w) one.is (record {
      effects = λ a.
          ap (effect_of net.links (each_flow (after_firing j (need_of (slice_get net.leaves j) b) one.sent) net.links s.flows) i a (slice_get net.leaves i))
          (get_other s.actors i j one.to differ)
          ∙ effect_stays i j a (need_of (slice_get net.leaves j) b) one.sent differ net.links s.flows (λ l flow at. (ordered l flow at).1)
          (slice_get net.leaves i) (slice_get s.actors i);
      rooms = λ a l passes. passes_each (give_of (slice_get net.leaves i) a) i j (need_of (slice_get net.leaves j) b) one.sent net.links s.flows
          (slice_get opened.flows l) l differ passes;
    })

module _ {X : Type 0} (net : Network X) (opened : State X) (wired : IsWired net) (lawful : AreLawful net) where
  fire_stands : (s t : State X) (i a : ℕ) → Stands net opened s → HasRoomIn net opened s i a → happens net s (Fire i a) ≡ Some t → Stands net opened t
  fire_stands s t i a stands room h = record {
    since = fire_since net opened s t i a wired lawful stands.since room h;
    ordered = happens_ordered net s t (Fire i a) wired lawful stands.ordered h;
  }

  pub burst_stands : (i limit : ℕ) (s : State X) (actions : List ℕ) (halt : Halt) (last : State X) → IsBurst net opened i limit s actions halt last
      → Stands net opened s → Stands net opened last
  burst_stands i limit s [] halt last burst stands = subst (λ w. Stands net opened w) burst.1 stands
  burst_stands i limit s (a ∷ actions) halt last burst stands =
      next_in (happens net s (Fire i a)) _
      (λ u is rest. burst_stands i (limit - 1) u actions halt last rest (fire_stands s u i a stands burst.2 is)) burst.3

  pub burst_keeps : (i limit : ℕ) (s : State X) (actions : List ℕ) (halt : Halt) (last : State X) → IsBurst net opened i limit s actions halt last
      → Stands net opened s → (after : List Line) → KeepsSince net opened last after
      → KeepsSince net opened s (map (FireLine i) actions ++ after)
  burst_keeps i limit s [] halt last burst stands after h = subst (λ w. KeepsSince net opened w after) (sym burst.1) h
  burst_keeps i limit s (a ∷ actions) halt last burst stands after h = (
    fits_now net opened s stands.since,
    tt,
    next_with (happens net s (Fire i a)) _ _
        (λ u is rest. burst_keeps i (limit - 1) u actions halt last rest (fire_stands s u i a stands burst.2 is) after h) burst.3,
  )

  pub burst_untouched : (i j limit : ℕ) (s : State X) (actions : List ℕ) (halt : Halt) (last : State X) → i ≢ j → IsBurst net opened j limit s actions halt last
      → Stands net opened s → Untouched net opened i s last
  burst_untouched i j limit s [] halt last differ burst stands = subst (λ w. Untouched net opened i s w) burst.1 (untouched_same net opened i s)
  burst_untouched i j limit s (a ∷ actions) halt last differ burst stands =
      next_in (happens net s (Fire j a)) _
      (λ u is rest. untouched_then net opened i s u last
      (fire_untouched net opened s u i j a differ stands.ordered is)
      (burst_untouched i j (limit - 1) u actions halt last differ rest (fire_stands s u j a stands burst.2 is))) burst.3

  -- where a burst halts
  pub burst_halts : (i limit : ℕ) (s : State X) (actions : List ℕ) (halt : Halt) (last : State X) → IsBurst net opened i limit s actions halt last
      → (rest : ℕ) × HaltsAt net opened i rest last halt
  burst_halts i limit s [] halt last burst = (limit, subst (λ w. HaltsAt net opened i limit w halt) burst.1 burst.0)
  burst_halts i limit s (a ∷ actions) halt last burst =
      next_in (happens net s (Fire i a)) _ (λ u is rest. burst_halts i (limit - 1) u actions halt last rest) burst.3

  pub bursts_stand : (share : Share) (marks : List Bool) (i k fired : ℕ) (s : State X) (bursts : List (List ℕ)) (halts : List Halt) (last : State X)
      → AreBursts net opened share marks i k fired s bursts halts last → Stands net opened s → Stands net opened last
  bursts_stand share [] i k fired s [] [] last are stands = subst (λ w. Stands net opened w) are stands
  bursts_stand share (true ∷ marks) i k fired s (actions ∷ bursts) (halt ∷ halts) last are stands =
      bursts_stand share marks (suc i) (suc k) (fired + length actions) are.0 bursts halts last are.2
      (burst_stands i _ s actions halt are.0 are.1 stands)
  bursts_stand share (false ∷ marks) i k fired s (actions ∷ bursts) (halt ∷ halts) last are stands =
      bursts_stand share marks (suc i) k fired s bursts halts last are.2 stands
  bursts_stand share marks i k fired s bursts halts last are stands = absurd are

  pub bursts_keep : (share : Share) (marks : List Bool) (i k fired : ℕ) (s : State X) (bursts : List (List ℕ)) (halts : List Halt) (last : State X)
      → AreBursts net opened share marks i k fired s bursts halts last → Stands net opened s → (after : List Line)
      → KeepsSince net opened last after → KeepsSince net opened s (fire_lines i bursts ++ after)
  bursts_keep share [] i k fired s [] [] last are stands after h = subst (λ w. KeepsSince net opened w after) (sym are) h
  bursts_keep share (true ∷ marks) i k fired s (actions ∷ bursts) (halt ∷ halts) last are stands after h =
      subst (λ ls. KeepsSince net opened s ls) (sym (append_assoc (map (FireLine i) actions) (fire_lines (suc i) bursts) after))
      (burst_keeps i _ s actions halt are.0 are.1 stands (fire_lines (suc i) bursts ++ after)
      (bursts_keep share marks (suc i) (suc k) (fired + length actions) are.0 bursts halts last are.2
      (burst_stands i _ s actions halt are.0 are.1 stands) after h))
  bursts_keep share (false ∷ marks) i k fired s (actions ∷ bursts) (halt ∷ halts) last are stands after h =
      subst (λ ns. KeepsSince net opened s ((map (FireLine i) ns ++ fire_lines (suc i) bursts) ++ after)) (sym are.0)
      (bursts_keep share marks (suc i) k fired s bursts halts last are.2 stands after h)
  bursts_keep share marks i k fired s bursts halts last are stands after h = absurd are

  pub bursts_untouched : (n : ℕ) (share : Share) (marks : List Bool) (i k fired : ℕ) (s : State X) (bursts : List (List ℕ)) (halts : List Halt) (last : State X)
      → n < i → AreBursts net opened share marks i k fired s bursts halts last → Stands net opened s → Untouched net opened n s last
  bursts_untouched n share [] i k fired s [] [] last low are stands = subst (λ w. Untouched net opened n s w) are (untouched_same net opened n s)
  bursts_untouched n share (true ∷ marks) i k fired s (actions ∷ bursts) (halt ∷ halts) last low are stands =
      untouched_then net opened n s are.0 last
      (burst_untouched n i _ s actions halt are.0 (λ same. omega arith) are.1 stands)
      (bursts_untouched n share marks (suc i) (suc k) (fired + length actions) are.0 bursts halts last (omega arith) are.2
      (burst_stands i _ s actions halt are.0 are.1 stands))
  bursts_untouched n share (false ∷ marks) i k fired s (actions ∷ bursts) (halt ∷ halts) last low are stands =
      bursts_untouched n share marks (suc i) k fired s bursts halts last (omega arith) are.2 stands
  bursts_untouched n share marks i k fired s bursts halts last low are stands = absurd are

-- Traps.

-- the guards of an action trap, or it has room and then traps
abbrev pub TrapStands : {X : Type 0} → Network X → State X → State X → ℕ → ℕ → TrapName → Type 0
TrapStands net opened s i a cause = (effect_at net s i a ≡ Some (TrapsInGuard cause))
    ⊎ ((effect_at net s i a ≡ Some (TrapsInBody cause)) × HasRoomIn net opened s i a)

faults_effect : {X : Type 0} (links : List Link) (flows : List Flow) (i a : ℕ) (cause : TrapName) (leaf : Option (Leaf X)) (state : Option X)
    → ((that : Leaf X) → leaf ≡ Some that → IsLawful that.behaviour) → choice_of links flows i leaf state ≡ Faults a cause
    → effect_of links flows i a leaf state ≡ Some (TrapsInGuard cause)
faults_effect links flows i a cause None state lawful h = cc
faults_effect links flows i a cause (Some leaf) None lawful h = cc
faults_effect links flows i a cause (Some leaf) (Some state) lawful h =
    (lawful leaf refl).faults state (inboxes i leaf.behaviour.ins links flows) a cause h

trap_here : {X : Type 0} (net : Network X) (opened s : State X) (i a : ℕ) (cause : TrapName) → AreLawful net → TrapsIn net opened s i a cause
    → TrapStands net opened s i a cause
trap_here net opened s i a cause lawful traps = ⊎_elim
    (λ faults. inl (faults_effect net.links s.flows i a cause (slice_get net.leaves i) (slice_get s.actors i) (λ that at. lawful i that at) faults))
    (λ body. inr (body.2, body.1)) traps

trap_later : {X : Type 0} (net : Network X) (opened s t : State X) (i a : ℕ) (cause : TrapName) → Untouched net opened i s t
    → TrapStands net opened s i a cause → TrapStands net opened t i a cause
trap_later net opened s t i a cause same stands = ⊎_elim
    (λ guard. inl (same.effects a ∙ guard))
    (λ body. inr (same.effects a ∙ body.0, λ l passes. body.1 l (same.rooms a l passes))) stands

trap_is : (i b n a : ℕ) (d c : TrapName) → Some (TrapLine i b d) ≡ Some (TrapLine n a c) → (i ≡ n) × (b ≡ a) × (d ≡ c)
trap_is i b n a d c h = let same : TrapLine i b d ≡ TrapLine n a c = cc in (cc, cc, cc)

pub trap_found : {X : Type 0} (net : Network X) (opened : State X) (wired : IsWired net) (lawful : AreLawful net)
    (share : Share) (marks : List Bool) (i k fired : ℕ) (s : State X) (bursts : List (List ℕ)) (halts : List Halt) (last : State X)
    → AreBursts net opened share marks i k fired s bursts halts last → Stands net opened s → (n a : ℕ) (cause : TrapName)
    → first_trap i halts ≡ Some (TrapLine n a cause) → TrapStands net opened last n a cause
trap_found net opened wired lawful share [] i k fired s [] [] last are stands n a cause h = cc
trap_found net opened wired lawful share (false ∷ marks) i k fired s (actions ∷ bursts) (halt ∷ halts) last are stands n a cause h =
    trap_found net opened wired lawful share marks (suc i) k fired s bursts halts last are.2 stands n a cause
    (subst (λ w. first_trap i (w ∷ halts) ≡ Some (TrapLine n a cause)) are.1 h)
trap_found net opened wired lawful share (true ∷ marks) i k fired s (actions ∷ bursts) (Trapping b d ∷ halts) last are stands n a cause h =
    let same = trap_is i b n a d cause h in
    let at = burst_halts net opened wired lawful i _ s actions (Trapping b d) are.0 are.1 in
    let here : TrapStands net opened are.0 i b d = trap_here net opened are.0 i b d lawful at.1.1 in
    let after : Untouched net opened i are.0 last =
    bursts_untouched net opened wired lawful i share marks (suc i) (suc k) (fired + length actions) are.0 bursts halts last (omega arith) are.2
    (burst_stands net opened wired lawful i _ s actions (Trapping b d) are.0 are.1 stands) in
    let there : TrapStands net opened last i b d = trap_later net opened are.0 last i b d after here in
    subst (λ m. TrapStands net opened last m a cause) same.0
    (subst (λ m. TrapStands net opened last i m cause) same.1 (subst (λ m. TrapStands net opened last i b m) same.2 there))
trap_found net opened wired lawful share (true ∷ marks) i k fired s (actions ∷ bursts) (Unpicked ∷ halts) last are stands n a cause h =
    trap_found net opened wired lawful share marks (suc i) (suc k) (fired + length actions) are.0 bursts halts last are.2
    (burst_stands net opened wired lawful i _ s actions Unpicked are.0 are.1 stands) n a cause h
trap_found net opened wired lawful share (true ∷ marks) i k fired s (actions ∷ bursts) (Spent ∷ halts) last are stands n a cause h =
    trap_found net opened wired lawful share marks (suc i) (suc k) (fired + length actions) are.0 bursts halts last are.2
    (burst_stands net opened wired lawful i _ s actions Spent are.0 are.1 stands) n a cause h
trap_found net opened wired lawful share (true ∷ marks) i k fired s (actions ∷ bursts) (Waiting ∷ halts) last are stands n a cause h =
    trap_found net opened wired lawful share marks (suc i) (suc k) (fired + length actions) are.0 bursts halts last are.2
    (burst_stands net opened wired lawful i _ s actions Waiting are.0 are.1 stands) n a cause h
trap_found net opened wired lawful share (true ∷ marks) i k fired s (actions ∷ bursts) (NoRoom ∷ halts) last are stands n a cause h =
    trap_found net opened wired lawful share marks (suc i) (suc k) (fired + length actions) are.0 bursts halts last are.2
    (burst_stands net opened wired lawful i _ s actions NoRoom are.0 are.1 stands) n a cause h
trap_found net opened wired lawful share [] i k fired s [] (halt ∷ halts) last are stands n a cause h = absurd are
trap_found net opened wired lawful share [] i k fired s (actions ∷ bursts) halts last are stands n a cause h = absurd are
trap_found net opened wired lawful share (true ∷ marks) i k fired s [] halts last are stands n a cause h = absurd are
trap_found net opened wired lawful share (true ∷ marks) i k fired s (actions ∷ bursts) [] last are stands n a cause h = absurd are
trap_found net opened wired lawful share (false ∷ marks) i k fired s [] halts last are stands n a cause h = absurd are
trap_found net opened wired lawful share (false ∷ marks) i k fired s (actions ∷ bursts) [] last are stands n a cause h = absurd are

-- a flow with what the action would have sent
given_fits : (gives : ℕ → ℕ) (i : ℕ) (link : Link) (before flow : Flow) (end : End) → held_since before flow ≤ flow.capacity
    → length before.sent ≤ length flow.sent → (PassesRoom gives i before flow end → ⊥)
    → held_since before (with_given i gives link end flow) ≤ flow.capacity
given_fits gives i link before flow (AtNet port) fits grows room = fits
given_fits gives i link before flow (AtLeaf inst port) fits grows room = of_test (i == inst.0) refl
  where
    of_test : (b : Bool) → (i == inst.0) ≡ b → held_since before (with_given i gives link (AtLeaf inst port) flow) ≤ flow.capacity
    of_test true e =
        let sent : length (flow.sent ++ (if i == inst.0 then replicate (gives port) (pos 0) else [])) ≡ length flow.sent + gives port =
        ap (λ b. length (flow.sent ++ (if b then replicate (gives port) (pos 0) else []))) e
        ∙ (length-append flow.sent (replicate (gives port) (pos 0)) ∙ ap (λ n. length flow.sent + n) (length-replicate (gives port) (pos 0))) in
        ⊎_elim (λ over. absurd (room (eqb-true i inst.0 e, over))) (λ within. omega arith)
        (cases_lt flow.capacity (held_since before flow + gives port))
    of_test false e =
        let sent : length (flow.sent ++ (if i == inst.0 then replicate (gives port) (pos 0) else [])) ≡ length flow.sent =
        ap (λ b. length (flow.sent ++ (if b then replicate (gives port) (pos 0) else []))) e ∙ ap length (append-nil flow.sent) in
        omega arith

given_all : {X : Type 0} (net : Network X) (opened s : State X) (i a : ℕ) → Since net opened s → HasRoomIn net opened s i a
    → FitFlows net.links opened.flows (each_flow (λ link flow. with_given i (give_of (slice_get net.leaves i) a) link link.from flow) net.links s.flows)
given_all net opened s i a since room =
    fit_each net.links opened.flows _ (λ l link before flow at then_ now inner.
    let gives : ℕ → ℕ = give_of (slice_get net.leaves i) a in
    let was = changed (λ link flow. with_given i gives link link.from flow) net.links s.flows l link flow at now in
    let old : SinceOpened link before was.old = since l link before was.old at then_ was.there in
    let same_capacity : flow.capacity ≡ was.old.capacity = ap (λ f. f.capacity) (sym was.is) ∙ capacity_given i gives link link.from was.old in
    let fits : held_since before (with_given i gives link link.from was.old) ≤ was.old.capacity =
    given_fits gives i link before was.old link.from (old.fits inner) old.sent
    (λ passes. room l (passes_at l link before was.old at then_ was.there passes)) in
    let held : held_since before flow ≡ held_since before (with_given i gives link link.from was.old) = ap (held_since before) (sym was.is) in
    omega arith)
  where
    capacity_given : (i : ℕ) (gives : ℕ → ℕ) (link : Link) (end : End) (flow : Flow) → (with_given i gives link end flow).capacity ≡ flow.capacity
    capacity_given i gives link (AtLeaf inst port) flow = refl
    capacity_given i gives link (AtNet port) flow = refl

    passes_at : (l : ℕ) (link : Link) (before flow : Flow) → slice_get net.links l ≡ Some link → slice_get opened.flows l ≡ Some before
        → slice_get s.flows l ≡ Some flow → PassesRoom (give_of (slice_get net.leaves i) a) i before flow link.from → PassesLink net opened s i a l
    passes_at l link before flow at then_ now passes = rw (at, then_, now) passes

pub trap_fits : {X : Type 0} (net : Network X) (opened s : State X) (i a : ℕ) (cause : TrapName) → Since net opened s
    → TrapStands net opened s i a cause → FitFlows net.links opened.flows (counted_flows net s i a (effect_at net s i a))
trap_fits net opened s i a cause since stands = ⊎_elim
    (λ guard. subst (λ e. FitFlows net.links opened.flows (counted_flows net s i a e)) (sym guard) (fits_now net opened s since))
    (λ body. subst (λ e. FitFlows net.links opened.flows (counted_flows net s i a e)) (sym body.0) (given_all net opened s i a since body.1)) stands
