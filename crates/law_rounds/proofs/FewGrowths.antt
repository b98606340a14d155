-- A link grows few times: each growth doubles its capacity, or brings it to the limit.
use Rattle.std.proofs.Common.{◌≡◌, ◌≢◌, ℕ, zero, suc, ◌*◌, ◌<◌, ◌≤◌, min, Bool, true, false, List, [], ◌∷◌, length, refl, sym, ap, ◌∙◌, subst, ⊎_elim, arith}
use Rattle.std.specs.Prelude.{◌==◌, if◌then◌else◌, Option, None, Some, slice_get, slice_set}
use Rattle.std.proofs.lemmas.Bool.{cases_lt}
use Rattle.std.proofs.lemmas.Bool.Decides.{eqb_tells}
use Rattle.rvc_base.specs.declared.trap.Trap.{Trap as TrapName}
use Rattle.rvc_base.specs.Behaviour.{Effect, Fires, TrapsInGuard, TrapsInBody}
use Rattle.trace_text.specs.declared.line.Line.{Line}
use Rattle.trace_text.specs.declared.line.Line.TheVariants.{Header, Inst, Fire as FireLine, Deliver as DeliverLine, Grow as GrowLine, Quiet, Trap as TrapLine, Stall, Budget}
use Rattle.net_model.specs.declared.wiring.Link.{Link}
use Rattle.net_model.specs.Network.{Network}
use Rattle.net_model.specs.State.{Flow, State, capacity_of, capacity_at}
use Rattle.net_model.specs.Event.{each_flow, fire, trap}
use Rattle.net_model.specs.Ends.{Grows, LacksOn}
use Rattle.net_model.specs.Limits.{max_grow}
use Rattle.net_model.specs.Trace.{delivered, goes, grown, OnNext, PlaysFrom}
use Rattle.net_model.proofs.Arriving.{get_same}
use Rattle.net_model.proofs.Commuting.{get_other}
use Rattle.law_rounds.specs.Bounds.{growths_of}

-- A line that isn't a growth of a link keeps the link's capacity.

-- the capacity that link l has in s it has in t, if it is there
abbrev SameCapacity : {X : Type 0} → Network X → ℕ → State X → State X → Type 0
SameCapacity net l s t = l < length net.links → capacity_at t l ≡ capacity_at s l

each_keeps : (change : Link → Flow → Flow) → ((link : Link) (flow : Flow) → (change link flow).capacity ≡ flow.capacity)
    → (links : List Link) (flows : List Flow) (l : ℕ) → l < length links
    → capacity_of (slice_get (each_flow change links flows) l) ≡ capacity_of (slice_get flows l)
each_keeps change keeps [] flows l low = absurd (omega arith)
each_keeps change keeps (link ∷ links) [] l low = refl
each_keeps change keeps (link ∷ links) (flow ∷ flows) zero low = keeps link flow
each_keeps change keeps (link ∷ links) (flow ∷ flows) (suc l) low = each_keeps change keeps links flows l (omega arith)

-- the state in a Some, by an equation
from_some : {X : Type 0} (net : Network X) (l : ℕ) (s t u : State X) → Some u ≡ Some t → SameCapacity net l s u → SameCapacity net l s t
from_some net l s t u is same = let one : u ≡ t = cc in subst (SameCapacity net l s) one same

fire_keeps : {X : Type 0} (net : Network X) (l : ℕ) (s t : State X) (i a : ℕ) (e : Option (Effect X)) → fire net s i a e ≡ Some t → SameCapacity net l s t
fire_keeps net l s t i a (Some (Fires x sent)) h = from_some net l s t _ h (each_keeps _ (λ link flow. refl) net.links s.flows l)
fire_keeps net l s t i a (Some (TrapsInGuard c)) h = cc
fire_keeps net l s t i a (Some (TrapsInBody c)) h = cc
fire_keeps net l s t i a None h = cc

mark_keeps : {X : Type 0} (net : Network X) (l : ℕ) (s t : State X) (is : Bool) → (if is then Some (record s { trapped = true }) else None) ≡ Some t
    → SameCapacity net l s t
mark_keeps net l s t true h = from_some net l s t _ h (λ low. refl)
mark_keeps net l s t false h = cc

trap_keeps : {X : Type 0} (net : Network X) (l : ℕ) (s t : State X) (c : TrapName) (e : Option (Effect X)) → trap s c e ≡ Some t → SameCapacity net l s t
trap_keeps net l s t c (Some (Fires x sent)) h = cc
trap_keeps net l s t c (Some (TrapsInGuard d)) h = mark_keeps net l s t _ h
trap_keeps net l s t c (Some (TrapsInBody d)) h = mark_keeps net l s t _ h
trap_keeps net l s t c None h = cc

unless_keeps : {X : Type 0} (net : Network X) (l : ℕ) (s t : State X) (trapped : Bool) (o : Option (State X)) → (o ≡ Some t → SameCapacity net l s t)
    → (if trapped then None else o) ≡ Some t → SameCapacity net l s t
unless_keeps net l s t true o p h = cc
unless_keeps net l s t false o p h = p h

fire_line_keeps : {X : Type 0} (net : Network X) (l : ℕ) (s t : State X) (i a : ℕ) → goes net s (FireLine i a) ≡ Some t → SameCapacity net l s t
fire_line_keeps net l s t i a h = unless_keeps net l s t s.trapped _ (fire_keeps net l s t i a _) h

trap_line_keeps : {X : Type 0} (net : Network X) (l : ℕ) (s t : State X) (i a : ℕ) (c : TrapName) → goes net s (TrapLine i a c) ≡ Some t → SameCapacity net l s t
trap_line_keeps net l s t i a c h = unless_keeps net l s t s.trapped _ (trap_keeps net l s t c _) h

delivery_keeps : {X : Type 0} (net : Network X) (l : ℕ) (s t : State X) → goes net s DeliverLine ≡ Some t → SameCapacity net l s t
delivery_keeps net l s t h =
    unless_keeps net l s t s.trapped _ (λ is. from_some net l s t _ is (each_keeps delivered (λ link flow. refl) net.links s.flows l)) h

end_keeps : {X : Type 0} (net : Network X) (l : ℕ) (s t : State X) → Some s ≡ Some t → SameCapacity net l s t
end_keeps net l s t h = from_some net l s t s h (λ low. refl)

-- A growth sets the capacity of its link, and keeps that of another.

grown_keeps : {X : Type 0} (net : Network X) (l m capacity : ℕ) (s t : State X) (flow : Option Flow) → l ≢ m → grown s m capacity flow ≡ Some t
    → SameCapacity net l s t
grown_keeps net l m capacity s t (Some flow) differ h =
    from_some net l s t _ h (λ low. ap capacity_of (get_other s.flows l m (record flow { capacity = capacity }) differ))
grown_keeps net l m capacity s t None differ h = cc

grown_sets : {X : Type 0} (m capacity : ℕ) (s t : State X) (flow : Option Flow) → slice_get s.flows m ≡ flow → grown s m capacity flow ≡ Some t
    → capacity_at t m ≡ capacity
grown_sets {X} m capacity s t (Some flow) there h =
    let is : capacity_at t m ≡ capacity_of (slice_get (slice_set s.flows m (record flow { capacity = capacity })) m) = state_is t h in
    is ∙ ap capacity_of (get_same s.flows m flow (record flow { capacity = capacity }) there)
  where
    state_is : (u : State X) → grown s m capacity (Some flow) ≡ Some u
        → capacity_at u m ≡ capacity_of (slice_get (slice_set s.flows m (record flow { capacity = capacity })) m)
    state_is u e = cc
grown_sets m capacity s t None there h = cc

-- a link that grows is there
pub low_on : (gives : ℕ → ℕ) (i : ℕ) (links : List Link) (l : ℕ) (flow : Option Flow) → LacksOn gives i (slice_get links l) flow → l < length links
low_on gives i [] l flow lacks = absurd lacks
low_on gives i (link ∷ links) zero flow lacks = omega arith
low_on gives i (link ∷ links) (suc l) flow lacks = let low : l < length links = low_on gives i links l flow lacks in omega (arith, low)

-- Doubling.

abbrev doubled : ℕ → ℕ → ℕ
doubled zero n = n
doubled (suc k) n = doubled k (2 * n)

doubled_most : (k n : ℕ) → n ≤ doubled k n
doubled_most zero n = omega arith
doubled_most (suc k) n = let more : 2 * n ≤ doubled k (2 * n) = doubled_most k (2 * n) in omega (arith, more)

-- what reaches the limit reaches it too if it is cut there first
reaches_cut : (k n grow : ℕ) → grow ≤ doubled k n → grow ≤ doubled k (min n grow)
reaches_cut k n grow reaches =
    ⊎_elim
    (λ less. let cut : min n grow ≡ n = omega (arith, less) in subst (λ m. grow ≤ doubled k m) (sym cut) reaches)
    (λ more. let cut : min n grow ≡ grow = omega (arith, more) in subst (λ m. grow ≤ doubled k m) (sym cut) (doubled_most k grow))
    (cases_lt n grow)

-- one more growth of link l, or as many
pub grows_here : (l m capacity : ℕ) (lines : List Line) → (l == m) ≡ true → growths_of l (GrowLine m capacity ∷ lines) ≡ suc (growths_of l lines)
grows_here l m capacity lines is = subst (λ b. (if b then suc (growths_of l lines) else growths_of l lines) ≡ suc (growths_of l lines)) (sym is) refl

pub grows_apart : (l m capacity : ℕ) (lines : List Line) → (l == m) ≡ false → growths_of l (GrowLine m capacity ∷ lines) ≡ growths_of l lines
grows_apart l m capacity lines is = subst (λ b. (if b then suc (growths_of l lines) else growths_of l lines) ≡ growths_of l lines) (sym is) refl

pub on_next : {X R : Type 0} (o : Option (State X)) (P : State X → Type 0) → OnNext o P → ((u : State X) → o ≡ Some u → P u → R) → R
on_next None P h f = absurd h
on_next (Some u) P h f = f u refl h

module _ {X : Type 0} (net : Network X) (grow l : ℕ) where
  -- the limit is reached by doubling the capacity of link l k times
  abbrev Reaches : ℕ → State X → Type 0
  Reaches k s = l < length net.links → grow ≤ doubled k (capacity_at s l)

  reaches_then : (k : ℕ) (s t : State X) → SameCapacity net l s t → Reaches k s → Reaches k t
  reaches_then k s t same reaches low = subst (λ n. grow ≤ doubled k n) (sym (same low)) (reaches low)

  abbrev Few : ℕ → List Line → Type 0
  Few k lines = growths_of l lines ≤ k

  -- a line that keeps the capacity of link l, and what comes behind it
  keeps_few : (k : ℕ) (lines : List Line) (s last : State X) (o : Option (State X)) → ((t : State X) → o ≡ Some t → SameCapacity net l s t)
      → OnNext o (λ next. PlaysFrom net grow next lines last) → Reaches k s
      → ((t : State X) → PlaysFrom net grow t lines last → Reaches k t → Few k lines) → Few k lines
  keeps_few k lines s last o keeps plays reaches rest =
      on_next o _ plays (λ t is more. rest t more (reaches_then k s t (keeps t is) reaches))

  -- a growth of link l, and what comes behind it
  grows_few : (k : ℕ) (lines : List Line) (s last : State X) (capacity : ℕ) → Grows net grow s l capacity
      → OnNext (goes net s (GrowLine l capacity)) (λ next. PlaysFrom net grow next lines last) → Reaches k s
      → ((j : ℕ) (t : State X) → PlaysFrom net grow t lines last → Reaches j t → Few j lines) → suc (growths_of l lines) ≤ k
  grows_few zero lines s last capacity grows plays reaches rest =
      let low : l < length net.links = low_on _ grows.leaf net.links l _ grows.stalled.lacks in
      let all : grow ≤ capacity_at s l = reaches low in
      absurd (omega (arith, all, grows.below))
  grows_few (suc j) lines s last capacity grows plays reaches rest =
      on_next (goes net s (GrowLine l capacity)) _ plays (λ t is more.
      let low : l < length net.links = low_on _ grows.leaf net.links l _ grows.stalled.lacks in
      let now : capacity_at t l ≡ min (2 * capacity_at s l) grow = grown_sets l capacity s t (slice_get s.flows l) refl is ∙ grows.doubled in
      let few : growths_of l lines ≤ j = rest j t more (λ there. subst (λ n. grow ≤ doubled j n) (sym now) (reaches_cut j (2 * capacity_at s l) grow (reaches low))) in
      omega (arith, few))

  few : (lines : List Line) (k : ℕ) (s last : State X) → PlaysFrom net grow s lines last → Reaches k s → growths_of l lines ≤ k
  few [] k s last plays reaches = omega arith
  few (FireLine i a ∷ lines) k s last plays reaches =
      keeps_few k lines s last (goes net s (FireLine i a)) (λ t. fire_line_keeps net l s t i a) plays.1 reaches (λ t. few lines k t last)
  few (DeliverLine ∷ lines) k s last plays reaches =
      keeps_few k lines s last (goes net s DeliverLine) (λ t. delivery_keeps net l s t) plays.1 reaches (λ t. few lines k t last)
  few (TrapLine i a c ∷ lines) k s last plays reaches =
      keeps_few k lines s last (goes net s (TrapLine i a c)) (λ t. trap_line_keeps net l s t i a c) plays.1 reaches (λ t. few lines k t last)
  few (GrowLine m capacity ∷ lines) k s last plays reaches =
      ⊎_elim
      (λ here.
      let same : m ≡ l = sym here.1 in
      let more : suc (growths_of l lines) ≤ k = grows_few k lines s last capacity
      (subst (λ n. Grows net grow s n capacity) same plays.0)
      (subst (λ n. OnNext (goes net s (GrowLine n capacity)) (λ next. PlaysFrom net grow next lines last)) same plays.1)
      reaches (λ j t. few lines j t last) in
      let one : growths_of l (GrowLine m capacity ∷ lines) ≡ suc (growths_of l lines) = grows_here l m capacity lines here.0 in
      omega (arith, one, more))
      (λ apart.
      let as_many : growths_of l (GrowLine m capacity ∷ lines) ≡ growths_of l lines = grows_apart l m capacity lines apart.0 in
      let rest : growths_of l lines ≤ k =
      keeps_few k lines s last (goes net s (GrowLine m capacity)) (λ t. grown_keeps net l m capacity s t (slice_get s.flows m) apart.1) plays.1 reaches
      (λ t. few lines k t last) in
      omega (arith, as_many, rest))
      (eqb_tells l m)
  few (Quiet ∷ lines) k s last plays reaches =
      keeps_few k lines s last (Some s) (λ t. end_keeps net l s t) plays.1 reaches (λ t. few lines k t last)
  few (Stall i a m ∷ lines) k s last plays reaches =
      keeps_few k lines s last (Some s) (λ t. end_keeps net l s t) plays.1 reaches (λ t. few lines k t last)
  few (Budget ∷ lines) k s last plays reaches =
      keeps_few k lines s last (Some s) (λ t. end_keeps net l s t) plays.1 reaches (λ t. few lines k t last)
  few (Header n m g ∷ lines) k s last plays reaches = absurd plays.0
  few (Inst n ∷ lines) k s last plays reaches = absurd plays.0

-- from 1 on, 20 doublings come to the greatest limit
twenty : (grow n : ℕ) → grow ≤ max_grow → 1 ≤ n → grow ≤ doubled 20 n
twenty grow n within some = omega (arith, within, some)

pub growths_few : {X : Type 0} (net : Network X) (grow : ℕ) (s : State X) (lines : List Line) (last : State X) (l : ℕ)
    → PlaysFrom net grow s lines last → grow ≤ max_grow → 1 ≤ capacity_at s l → growths_of l lines ≤ 20
growths_few net grow s lines last l plays within some = few net grow l lines 20 s last plays (λ low. twenty grow (capacity_at s l) within some)
