-- The growth of a link at a stall.
use Rattle.std.proofs.Common.{◌≡◌, ◌≢◌, ℕ, zero, suc, ◌*◌, ◌<◌, ◌≤◌, min, Bool, true, false, List, [], ◌∷◌, length, refl, sym, ap, subst, ◌∙◌, ⊎_elim, arith}
use Rattle.std.specs.Prelude.{Option, None, Some, slice_get, slice_set, slice_index_or, if◌then◌else◌}
use Rattle.std.proofs.Math.Nat.{le-min, min-le_right}
use Rattle.std.proofs.lemmas.Bool.{cases_eq}
use Rattle.net_model.specs.declared.wiring.End.{End}
use Rattle.net_model.specs.declared.wiring.End.TheVariants.{Leaf as AtLeaf, Net as AtNet}
use Rattle.net_model.specs.declared.wiring.Link.{Link}
use Rattle.net_model.specs.Network.{Leaf, Network, is_input, is_output, is_outside}
use Rattle.net_model.specs.State.{Flow, State, capacity_at, give_of}
use Rattle.net_model.specs.Ends.{HasLessRoom, IsQuiet, IsStalled, LacksOn, all_fed, with_rest}
use Rattle.net_model.specs.Laws.{StalledIsNotQuiet, StallsInOnePlace}
use Rattle.net_model.specs.Trace.{OnNext, grown}
use Rattle.net_model.specs.Wired.{CoversGives, HoldsGives, IsWired}
use Rattle.net_model.specs.Cell.{Cell, number_on}
use Rattle.net_model.specs.Ready.{InboxHolds, OnCell, OutboxHolds}
use Rattle.net_model.proofs.Keeping.{Changed, changed}
use Rattle.net_state.specs.Held.{Held, HoldFew, IsReader}
use Rattle.net_state.specs.Moving.{IsWriter, SameActors}
use Rattle.net_state.specs.Standing.{StandsIn, StandsSince}
use Rattle.net_state.specs.Working.{AreFed, CanHold}
use Rattle.trace_replay.specs.Ending.{CanGrow, HasQueuesFor, GrewAt, GrewNotAt, GrowsNotSo, GrowsSo, HoldEnough, IsInner, SameOnInputs}
use Rattle.trace_replay.proofs.Chained.{There, there}
use Rattle.trace_replay.proofs.Ended.{capacity_is, stall_link}

-- what a link can hold doesn't fall
set_at : (xs : List ℕ) (l : ℕ) (x y : ℕ) → y ≤ slice_index_or xs l 0 → slice_index_or xs l 0 ≤ x → y ≤ slice_index_or (slice_set xs l x) l 0
set_at [] l x y low high = low
set_at (z ∷ xs) zero x y low high = omega (arith, low, high)
set_at (z ∷ xs) (suc l) x y low high = set_at xs l x y low high

set_other : (xs : List ℕ) (l k x : ℕ) → k ≢ l → slice_index_or (slice_set xs l x) k 0 ≡ slice_index_or xs k 0
set_other [] l k x differ = refl
set_other (z ∷ xs) zero zero x differ = absurd (differ refl)
set_other (z ∷ xs) zero (suc k) x differ = refl
set_other (z ∷ xs) (suc l) zero x differ = refl
set_other (z ∷ xs) (suc l) (suc k) x differ = set_other xs l k x (λ e. differ (ap suc e))

pub doubled_more : (n limit : ℕ) → n < limit → n ≤ min (2 * n) limit
doubled_more n limit below = le-min (omega arith) (omega (arith, below))

pub enough_after : (links : List Link) (capacities : List ℕ) (l limit capacity : ℕ) → slice_index_or capacities l 0 < limit → capacity ≡ min (2 * slice_index_or capacities l 0) limit
    → HoldEnough links capacities → HoldEnough links (slice_set capacities l capacity)
enough_after links capacities l limit capacity below doubled enough k link at =
    let more : slice_index_or capacities l 0 ≤ capacity = subst (λ n. slice_index_or capacities l 0 ≤ n) (sym doubled) (doubled_more (slice_index_or capacities l 0) limit below) in
    ⊎_elim
    (λ same. subst (λ j. link.capacity ≤ slice_index_or (slice_set capacities l capacity) j 0) (sym same)
    (set_at capacities l capacity link.capacity (subst (λ j. link.capacity ≤ slice_index_or capacities j 0) same (enough k link at)) more))
    (λ differ. subst (λ n. link.capacity ≤ n) (sym (set_other capacities l k capacity differ)) (enough k link at))
    (cases_eq k l)

-- a link grows at most as far as 32 bits reach
pub few_after : (capacities : List ℕ) (l limit capacity : ℕ) → capacity ≡ min (2 * slice_index_or capacities l 0) limit → limit ≤ 4294967295 → HoldFew capacities → HoldFew (slice_set capacities l capacity)
few_after capacities l limit capacity doubled low few k = ⊎_elim
    (λ same. subst (λ j. slice_index_or (slice_set capacities l capacity) j 0 ≤ 4294967295) (sym same)
    (set_few capacities l capacity (let most : capacity ≤ limit = subst (λ n. n ≤ limit) (sym doubled) (min-le_right (2 * slice_index_or capacities l 0) limit) in omega (arith, most, low))))
    (λ differ. subst (λ n. n ≤ 4294967295) (sym (set_other capacities l k capacity differ)) (few k))
    (cases_eq k l)
  where
    set_few : (xs : List ℕ) (m x : ℕ) → x ≤ 4294967295 → slice_index_or (slice_set xs m x) m 0 ≤ 4294967295
    set_few [] m x high = omega arith
    set_few (z ∷ xs) zero x high = high
    set_few (z ∷ xs) (suc m) x high = set_few xs m x high

-- A stall names an inner link.

covered : {X : Type 0} (capacity p a : ℕ) (o : Option (Leaf X)) → CoversGives capacity p o → give_of o a p ≤ capacity
covered capacity p a None covers = omega arith
covered capacity p a (Some leaf) covers = covers a

not_output : (b : Bool) → (b ≡ true → ⊥) → b ≡ false
not_output true none = absurd (none refl)
not_output false none = refl

inner_of : {X : Type 0} (net : Network X) (i a : ℕ) (link : Link) (flow : Flow) (end : End) → link.from ≡ end
    → HasLessRoom (give_of (slice_get net.leaves i) a) i (with_rest link flow) end → HoldsGives net link.capacity end
    → link.capacity ≤ flow.capacity → (is_output link ≡ true → flow.taken ≡ flow.arrived) → IsInner (Some link)
inner_of net i a link flow (AtNet port) from less gives enough gone = absurd less
inner_of net i a link flow (AtLeaf inst port) from less gives enough gone =
    let inner : is_input link ≡ false = ap is_outside from in
    let arrived : (with_rest link flow).arrived ≡ flow.arrived = ap (λ b. if b then length flow.sent else flow.arrived) inner in
    let few : give_of (slice_get net.leaves i) a port ≤ link.capacity =
    subst (λ k. give_of (slice_get net.leaves k) a port ≤ link.capacity) (sym less.0) (covered link.capacity port a (slice_get net.leaves inst.0) gives) in
    (inner, not_output (is_output link) (λ out. let all : flow.taken ≡ flow.arrived = gone out in omega (arith, arrived, few, enough, all, less.1)))

pub stall_inner : {X : Type 0} (net : Network X) (held : Held (Cell X)) (s : State X) (i a l : ℕ) → IsWired net → StandsIn net held s → HoldEnough held.links held.capacities → IsStalled net s i a l
    → IsInner (slice_get held.links l)
stall_inner {X} net held s i a l wired stands enough stalled =
    subst (λ ls. IsInner (slice_get ls l)) stands.is_of.links_are (of_both (slice_get net.links l) (slice_get (all_fed net s).flows l) refl refl stalled.lacks)
  where
    of_both : (o : Option Link) (p : Option Flow) → slice_get net.links l ≡ o → slice_get (all_fed net s).flows l ≡ p → LacksOn (give_of (slice_get net.leaves i) a) i o p → IsInner o
    of_both None p at here lacks = absurd lacks
    of_both (Some link) None at here lacks = absurd lacks
    of_both (Some link) (Some flow) at here lacks =
        let was : Changed with_rest s.flows l link flow = changed with_rest net.links s.flows l link flow at here in
        let is_held = stands.stands.flows.each l link was.old at was.there in
        let at_held : slice_get held.links l ≡ Some link = ap (λ ls. slice_get ls l) (sym stands.is_of.links_are) ∙ at in
        let capacity : link.capacity ≤ was.old.capacity = subst (λ n. link.capacity ≤ n) (sym is_held.capacity_is) (enough l link at_held) in
        inner_of net i a link was.old link.from refl (subst (λ f. HasLessRoom (give_of (slice_get net.leaves i) a) i f link.from) (sym was.is) lacks)
        (wired.joined l link at).holds_gives capacity is_held.gone

-- What came of a line that says that a link grows.

pub grows_yes : {X : Type 0} (grow i a l at capacity : ℕ) (held now new : Held (Cell X)) → at ≡ l
    → ((net : Network X) (s : State X) → StandsIn net held s → IsWired net → AreFed net s → IsStalled net s i a at)
    → ((net : Network X) (opened s : State X) → StandsSince net held opened s → StandsSince net now opened s) → now.capacities ≡ held.capacities
    → GrewAt grow at capacity now new → GrowsSo grow l capacity held new
grows_yes grow i a l at capacity held now new same stalls still capacities grew net opened s stands wired fed =
    let stalled : IsStalled net s i a l = subst (IsStalled net s i a) same (stalls net s stands.now wired fed) in
    let link : There net.links l = stall_link net s i a l stalled in
    let is : capacity_at s l ≡ slice_index_or held.capacities l 0 = capacity_is net held s l link.item stands.now link.at in
    let is_now : slice_index_or now.capacities at 0 ≡ capacity_at s l = ap (λ cs. slice_index_or cs at 0) capacities ∙ ap (λ k. slice_index_or held.capacities k 0) same ∙ sym is in (
      record {
        leaf = i;
        action = a;
        stalled = stalled;
        below = subst (λ n. n < grow) is_now grew.below;
        doubled = grew.doubled ∙ ap (λ n. min (2 * n) grow) is_now;
      },
      subst (λ k. OnNext (grown s k capacity (slice_get s.flows k)) (λ next. StandsSince net new opened next)) same (grew.grew net opened s (still net opened s stands)),
    )

pub grows_no : {X : Type 0} → StallsInOnePlace X → (grow i a l at capacity : ℕ) (held now : Held (Cell X))
    → ((net : Network X) (s : State X) → StandsIn net held s → IsWired net → AreFed net s → IsStalled net s i a at)
    → now.links ≡ held.links → now.capacities ≡ held.capacities → HoldEnough held.links held.capacities
    → (at ≡ l → GrewNotAt grow at capacity now) → GrowsNotSo grow l capacity held
grows_no one_place grow i a l at capacity held now stalls links capacities enough not_at net opened s stands wired lawful fed grows =
    let stalled : IsStalled net s i a at = stalls net s stands.now wired fed in
    let one = one_place net s i a at grows.leaf grows.action l stalled grows.stalled in
    let same : at ≡ l = one.2 in
    let stalled_l : IsStalled net s i a l = subst (IsStalled net s i a) same stalled in
    let link : There net.links l = stall_link net s i a l stalled_l in
    let is : capacity_at s l ≡ slice_index_or held.capacities l 0 = capacity_is net held s l link.item stands.now link.at in
    let is_now : slice_index_or now.capacities at 0 ≡ capacity_at s l = ap (λ cs. slice_index_or cs at 0) capacities ∙ ap (λ k. slice_index_or held.capacities k 0) same ∙ sym is in
    let inner : IsInner (slice_get now.links at) = subst (λ ls. IsInner (slice_get ls at)) (sym links)
    (stall_inner net held s i a at wired stands.now enough stalled) in
    not_at same inner (subst (λ n. n < grow) (sym is_now) grows.below) (grows.doubled ∙ ap (λ n. min (2 * n) grow) (sym is_now))

pub quiet_no : {X : Type 0} → StalledIsNotQuiet X → (grow l capacity : ℕ) (held : Held (Cell X))
    → ((net : Network X) (s : State X) → StandsIn net held s → IsWired net → AreFed net s → IsQuiet net s) → GrowsNotSo grow l capacity held
quiet_no not_quiet grow l capacity held quiet net opened s stands wired lawful fed grows =
    not_quiet net s grows.leaf grows.action l lawful grows.stalled (quiet net s stands.now wired fed)

pub going_no : {X : Type 0} (grow l capacity : ℕ) (held : Held (Cell X))
    → ((net : Network X) (s : State X) → StandsIn net held s → IsWired net → AreFed net s → (IsQuiet net s → ⊥) × ((i a m : ℕ) → IsStalled net s i a m → ⊥)) → GrowsNotSo grow l capacity held
going_no grow l capacity held going net opened s stands wired lawful fed grows =
    (going net s stands.now wired fed).1 grows.leaf grows.action l grows.stalled

-- Queues stay.

on_then : {X : Type 0} (o p : Option (Cell X)) (P Q : Cell X → Type 0) → ((before : Cell X) → o ≡ Some before → P before → (after : Cell X) × (p ≡ Some after) × Q after) → OnCell o P → OnCell p Q
on_then None p P Q f on = absurd on
on_then (Some before) p P Q f on = let is = f before refl on in subst (λ q. OnCell q Q) (sym is.1) is.2

writer_after : {X : Type 0} (old new : List (Cell X)) (end : End) → SameActors old new → IsWriter old end → IsWriter new end
writer_after old new (AtNet port) same writer = tt
writer_after old new (AtLeaf inst port) same writer =
    on_then (slice_get old inst.0) (slice_get new inst.0) (λ cell. port < cell.actor.outs) (λ cell. port < cell.actor.outs)
    (λ before at low. let now : There new inst.0 = there old new inst.0 before same.count at in
    (now.item, now.at, subst (λ actor. port < actor.outs) (sym (same.each inst.0 before now.item at now.at).same_actor) low)) writer

reader_after : {X : Type 0} (old new : List (Cell X)) (end : End) → SameActors old new → IsReader old end → IsReader new end
reader_after old new (AtNet port) same reader = tt
reader_after old new (AtLeaf inst port) same reader =
    on_then (slice_get old inst.0) (slice_get new inst.0) (λ cell. port < cell.actor.ins) (λ cell. port < cell.actor.ins)
    (λ before at low. let now : There new inst.0 = there old new inst.0 before same.count at in
    (now.item, now.at, subst (λ actor. port < actor.ins) (sym (same.each inst.0 before now.item at now.at).same_actor) low)) reader

both_on : {X : Type 0} (o : Option (Cell X)) (P Q : Cell X → Type 0) → OnCell o P → OnCell o Q → OnCell o (λ cell. P cell × Q cell)
both_on None P Q p q = p
both_on (Some cell) P Q p q = (p, q)

outbox_after : {X : Type 0} (old new : List (Cell X)) (n : ℕ) (end : End) → SameActors old new → IsWriter old end → OutboxHolds old n end → OutboxHolds new n end
outbox_after old new n (AtNet port) same writer holds = tt
outbox_after old new n (AtLeaf inst port) same writer holds =
    on_then (slice_get old inst.0) (slice_get new inst.0) (λ cell. (port < cell.actor.outs) × (n ≤ number_on cell.outbox_capacities port)) (λ cell. n ≤ number_on cell.outbox_capacities port)
    (λ before at so. let now : There new inst.0 = there old new inst.0 before same.count at in
    (now.item, now.at, subst (λ k. n ≤ k) (sym ((same.each inst.0 before now.item at now.at).same_outbox_capacities port so.0)) so.1))
    (both_on (slice_get old inst.0) (λ cell. port < cell.actor.outs) (λ cell. n ≤ number_on cell.outbox_capacities port) writer holds)

inbox_after : {X : Type 0} (old new : List (Cell X)) (n : ℕ) (end : End) → SameActors old new → IsReader old end → InboxHolds old n end → InboxHolds new n end
inbox_after old new n (AtNet port) same reader holds = tt
inbox_after old new n (AtLeaf inst port) same reader holds =
    on_then (slice_get old inst.0) (slice_get new inst.0) (λ cell. (port < cell.actor.ins) × (n ≤ number_on cell.inbox_capacities port)) (λ cell. n ≤ number_on cell.inbox_capacities port)
    (λ before at so. let now : There new inst.0 = there old new inst.0 before same.count at in
    (now.item, now.at, subst (λ k. n ≤ k) (sym ((same.each inst.0 before now.item at now.at).same_inbox_capacities port so.0)) so.1))
    (both_on (slice_get old inst.0) (λ cell. port < cell.actor.ins) (λ cell. n ≤ number_on cell.inbox_capacities port) reader holds)

pub can_grow_after : {X : Type 0} (grow : ℕ) (links : List Link) (old new : List (Cell X)) → SameActors old new → CanGrow grow old links → CanGrow grow new links
can_grow_after grow links old new same can l link at inner inside =
    let was : HasQueuesFor old grow link = can l link at inner inside in
    record {
      writer = writer_after old new link.from same was.writer;
      reader = reader_after old new link.to same was.reader;
      holds = (outbox_after old new grow link.from same was.writer was.holds.0, inbox_after old new grow link.to same was.reader was.holds.1);
    }

pub can_hold : {X : Type 0} (grow : ℕ) (links held_links : List Link) (cells : List (Cell X)) (l : ℕ) → held_links ≡ links → CanGrow grow cells links → IsInner (slice_get links l) → CanHold cells grow (slice_get held_links l)
can_hold grow links held_links cells l same can inner =
    subst (λ ls. CanHold cells grow (slice_get ls l)) (sym same) (of_link (slice_get links l) refl inner)
  where
    of_link : (o : Option Link) → slice_get links l ≡ o → IsInner o → CanHold cells grow o
    of_link None at inner_o = absurd inner_o
    of_link (Some link) at inner_o = (can l link at inner_o.0 inner_o.1).holds

-- where an inner link can hold more, input links can hold what they could
pub same_on_inputs : (links : List Link) (capacities : List ℕ) (l capacity : ℕ) → IsInner (slice_get links l) → SameOnInputs links capacities (slice_set capacities l capacity)
same_on_inputs links capacities l capacity inner m link at input =
    set_other capacities l m capacity (λ same. not_inner (slice_get links l) inner (ap (slice_get links) (sym same) ∙ at))
  where
    not_inner : (o : Option Link) → IsInner o → o ≡ Some link → ⊥
    not_inner None inside is = inside
    not_inner (Some other) inside is =
        let same : other ≡ link = cc in
        let no : true ≡ false = sym input ∙ (ap is_input (sym same) ∙ inside.0) in
        cc
