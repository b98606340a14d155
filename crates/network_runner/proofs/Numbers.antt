-- The numbers of a run go on with the lines of a round.
use Rattle.std.proofs.Common.{◌≡◌, ◌≢◌, ⊎_elim, ℕ, zero, suc, ◌+◌, ◌-◌, ◌*◌, ◌^◌, ◌<◌, ◌≤◌, min, Bool, true, false, List, [], ◌∷◌, ◌++◌, length, refl, sym, ap, subst, ◌∙◌, arith, length-append}
use Rattle.std.specs.Prelude.{Option, None, Some, slice_get, slice_set, slice_index_or, ◌==◌, ◌&&◌, ◌||◌, if◌then◌else◌}
use Rattle.std.proofs.lemmas.Bool.{cases_eq, eq-eqb, eqb-true}
use Rattle.trace_text.specs.declared.line.Line.{Line}
use Rattle.trace_text.specs.declared.line.Line.TheVariants.{Fire as FireLine, Deliver as DeliverLine, Grow as GrowLine, Trap as TrapLine, Quiet, Stall, Budget, Header, Inst}
use Rattle.net_model.specs.declared.wiring.End.{End}
use Rattle.net_model.specs.declared.wiring.End.TheVariants.{Leaf as AtLeaf, Net as AtNet}
use Rattle.net_model.specs.declared.wiring.Link.{Link}
use Rattle.net_model.specs.Counted.{deliveries_in, is_delivery, is_short, on_next, was_short}
use Rattle.net_model.specs.Cell.{Cell}
use Rattle.net_model.specs.Limits.{max_rate}
use Rattle.net_model.specs.Network.{Network, is_net_port, is_output}
use Rattle.net_model.specs.State.{Flow, State}
use Rattle.net_model.specs.Event.{and_then}
use Rattle.net_model.specs.Laws.{AreLawful, firings_shown}
use Rattle.net_model.specs.Trace.{after_delivery, delivered, goes, played}
use Rattle.net_model.specs.Wired.{IsWired}
use Rattle.net_state.proofs.Coming.{by_bool, if_true, if_false}
use Rattle.net_state.proofs.Flows.{changed_count, changed_so}
use Rattle.net_state.proofs.Gaining.{not_eq, some_is, there_too}
use Rattle.net_state.specs.declared.filling.Filled.{Filled}
use Rattle.net_state.specs.Moving.{carried}
use Rattle.network_runner.specs.Counting.{arrived_with, capped_sum, rests_with, sent_at, sent_with, told_or}
use Rattle.network_runner.specs.Sending.{outgoing_on, outgoing_to}
use Rattle.network_runner.proofs.Flowing.{GoneOn, SameTokens, fire_count, fire_gone, grown_tokens, same_tokens, some_state, trap_goes}

-- What lines make of the flows.

-- so many firings later: what was sent and has arrived grew, and what was sent and taken by no more than actions give
-- and take
pub record Later (n : ℕ) (link : Link) (before flow : Flow) : Type 0 where
  pub sent_grows : length before.sent ≤ length flow.sent
  pub few_sent : length flow.sent ≤ length before.sent + max_rate * n
  pub arrived_grows : before.arrived ≤ flow.arrived
  pub few_taken : is_output link ≡ false → flow.taken ≤ before.taken + max_rate * n

abbrev pub AllLater : {X : Type 0} → ℕ → Network X → State X → State X → Type 0
AllLater n net s t = (l : ℕ) (link : Link) (before flow : Flow) → slice_get net.links l ≡ Some link
    → slice_get s.flows l ≡ Some before → slice_get t.flows l ≡ Some flow → Later n link before flow

later_same : (link : Link) (before flow : Flow) → flow.sent ≡ before.sent → flow.arrived ≡ before.arrived → flow.taken ≡ before.taken → Later 0 link before flow
later_same link before flow sent arrived taken =
    let len : length flow.sent ≡ length before.sent = ap (λ ts. length ts) sent in
    record {
      sent_grows = omega (arith, len);
      few_sent = omega (arith, len);
      arrived_grows = omega (arith, arrived);
      few_taken = λ inner. omega (arith, taken);
    }

later_gone : (n : ℕ) (link : Link) (before flow : Flow) → GoneOn n link before flow → Later n link before flow
later_gone n link before flow on =
    let len : length flow.sent ≡ length before.sent + length on.more = ap (λ ts. length ts) on.sent ∙ length-append before.sent on.more in
    let few = on.few_more in
    let is = on.arrived in
    record {
      sent_grows = omega (arith, len);
      few_sent = omega (arith, len, few);
      arrived_grows = omega (arith, is);
      few_taken = λ inner. on.few_taken;
    }

later_delivered : (link : Link) (flow : Flow) → Later 0 link flow (delivered link flow)
later_delivered link flow = record {
  sent_grows = omega arith;
  few_sent = omega arith;
  arrived_grows = omega arith;
  few_taken = λ inner.
      let is : (delivered link flow).taken ≡ flow.taken = if_false (is_output link) _ _ inner in
      omega (arith, is);
}

later_then : (n m : ℕ) (link : Link) (a b c : Flow) → Later n link a b → Later m link b c → Later (n + m) link a c
later_then n m link a b c first second =
    let one = first.sent_grows in
    let two = second.sent_grows in
    let three = first.few_sent in
    let four = second.few_sent in
    let five = first.arrived_grows in
    let six = second.arrived_grows in
    record {
      sent_grows = omega (arith, one, two);
      few_sent = omega (arith, three, four);
      arrived_grows = omega (arith, five, six);
      few_taken = λ inner. (let seven = first.few_taken inner in let eight = second.few_taken inner in omega (arith, seven, eight));
    }

abbrev pub Whole : {X : Type 0} → Network X → State X → Type 0
Whole net s = length s.flows ≡ length net.links

-- as many firings as a line shows
abbrev shown_in : Line → ℕ
shown_in line = length (firings_shown (line ∷ []))

all_same : {X : Type 0} (net : Network X) (s t : State X) → Whole net s → SameTokens net s t → Whole net t × AllLater 0 net s t
all_same net s t whole same = (
  same.count ∙ whole,
  λ l link before flow at there now.
      let is = same.each l before flow there now in
      later_same link before flow is.0 is.1 is.2,
)

all_delivered : {X : Type 0} (net : Network X) (s : State X) → Whole net s → Whole net (after_delivery net s) × AllLater 0 net s (after_delivery net s)
all_delivered net s whole = (
  changed_count delivered net.links s.flows whole,
  λ l link before flow at there now.
      let is : delivered link before ≡ flow = some_is (delivered link before) flow (sym (changed_so delivered net.links s.flows l link before at there) ∙ now) in
      subst (Later 0 link before) is (later_delivered link before),
)

module _ {X : Type 0} (net : Network X) (wired : IsWired net) (lawful : AreLawful net) where
  line_later : (line : Line) (s t : State X) → Whole net s → goes net s line ≡ Some t → Whole net t × AllLater (shown_in line) net s t
  line_later (FireLine i a) s t whole h = (fire_count net wired lawful s t i a h whole, λ l link before flow at there now. later_gone 1 link before flow (fire_gone net wired lawful s t i a h l link before flow at there now))
  line_later DeliverLine s t whole h = by_mark s.trapped h
    where
      by_mark : (b : Bool) → (if b then None else Some (after_delivery net s)) ≡ Some t → Whole net t × AllLater 0 net s t
      by_mark true e = cc
      by_mark false e = subst (λ w. Whole net w × AllLater 0 net s w) (some_state (after_delivery net s) t e) (all_delivered net s whole)
  line_later (GrowLine l capacity) s t whole h = all_same net s t whole (grown_tokens net s t l capacity (slice_get s.flows l) refl h)
  line_later (TrapLine i a cause) s t whole h = all_same net s t whole (trap_goes net s t i a cause h)
  line_later Quiet s t whole h = all_same net s t whole (same_tokens net s t (ap (λ w. w.flows) (sym (some_state s t h))))
  line_later (Stall i a l) s t whole h = all_same net s t whole (same_tokens net s t (ap (λ w. w.flows) (sym (some_state s t h))))
  line_later Budget s t whole h = all_same net s t whole (same_tokens net s t (ap (λ w. w.flows) (sym (some_state s t h))))
  line_later (Header n l g) s t whole h = cc
  line_later (Inst k) s t whole h = cc

  flow_there : (s : State X) (l : ℕ) (link : Link) → Whole net s → slice_get net.links l ≡ Some link → (flow : Flow) × (slice_get s.flows l ≡ Some flow)
  flow_there s l link whole at = there_too net.links s.flows l link (sym whole) at

  all_then : (n m : ℕ) (s t u : State X) → Whole net t → AllLater n net s t → AllLater m net t u → AllLater (n + m) net s u
  all_then n m s t u whole first second l link before flow at there now =
      let mid = flow_there t l link whole at in
      later_then n m link before mid.0 flow (first l link before mid.0 at there mid.1) (second l link mid.0 flow at mid.1 now)

  shown_first : (line : Line) (lines : List Line) → shown_in line + length (firings_shown lines) ≡ length (firings_shown (line ∷ lines))
  shown_first (FireLine i a) lines = omega arith
  shown_first DeliverLine lines = omega arith
  shown_first (GrowLine l capacity) lines = omega arith
  shown_first (TrapLine i a cause) lines = omega arith
  shown_first Quiet lines = omega arith
  shown_first (Stall i a l) lines = omega arith
  shown_first Budget lines = omega arith
  shown_first (Header n l g) lines = omega arith
  shown_first (Inst k) lines = omega arith

  next_from : (o : Option (State X)) (f : State X → Option (State X)) (t : State X) → and_then o f ≡ Some t → (next : State X) × (o ≡ Some next) × (f next ≡ Some t)
  next_from None f t h = cc
  next_from (Some next) f t h = (next, refl, h)

  pub lines_later : (lines : List Line) (s t : State X) → Whole net s → played net s lines ≡ Some t → Whole net t × AllLater (length (firings_shown lines)) net s t
  lines_later [] s t whole h = subst (λ w. Whole net w × AllLater 0 net s w) (some_state s t h) (
    whole,
    λ l link before flow at there now.
        subst (Later 0 link before) (some_is before flow (sym there ∙ now)) (later_same link before before refl refl refl),
  )
  lines_later (line ∷ lines) s t whole h =
      let next = next_from (goes net s line) (λ w. played net w lines) t h in
      let first = line_later line s next.0 whole next.1 in
      let rest = lines_later lines next.0 t first.0 next.2 in
      (rest.0, subst (λ n. AllLater n net s t) (shown_first line lines) (all_then (shown_in line) (length (firings_shown lines)) s next.0 t first.0 first.1 rest.1))

-- Whether a link was short.

-- lines without a delivery show nothing of it
never_short : {X : Type 0} (o : Option (State X)) (test : State X → Bool) → ((next : State X) → test next ≡ false) → on_next o test ≡ false
never_short None test never = refl
never_short (Some next) test never = never next

pub no_delivery : {X : Type 0} (net : Network X) (l : ℕ) (lines : List Line) (s : State X) → deliveries_in lines ≡ 0 → was_short net s lines l ≡ false
no_delivery net l [] s none = refl
no_delivery net l (DeliverLine ∷ lines) s none = absurd (omega (arith, none))
no_delivery net l (FireLine i a ∷ lines) s none = never_short (goes net s (FireLine i a)) (λ next. was_short net next lines l) (λ next. no_delivery net l lines next none)
no_delivery net l (GrowLine m c ∷ lines) s none = never_short (goes net s (GrowLine m c)) (λ next. was_short net next lines l) (λ next. no_delivery net l lines next none)
no_delivery net l (TrapLine i a c ∷ lines) s none = never_short (goes net s (TrapLine i a c)) (λ next. was_short net next lines l) (λ next. no_delivery net l lines next none)
no_delivery net l (Quiet ∷ lines) s none = no_delivery net l lines s none
no_delivery net l (Stall i a m ∷ lines) s none = no_delivery net l lines s none
no_delivery net l (Budget ∷ lines) s none = no_delivery net l lines s none
no_delivery net l (Header n m g ∷ lines) s none = refl
no_delivery net l (Inst k ∷ lines) s none = refl

or_assoc : (a b c : Bool) → (a || (b || c)) ≡ ((a || b) || c)
or_assoc true b c = refl
or_assoc false b c = refl

-- a line before others
short_next : {X : Type 0} (o : Option (State X)) (line : Line) (l : ℕ) (all some : State X → Bool) (rest : Bool) (f : State X → Option (State X)) (t : State X) → and_then o f ≡ Some t
    → ((next : State X) → f next ≡ Some t → all next ≡ (some next || rest))
    → on_next o (λ next. (is_delivery line && is_short (slice_get next.flows l)) || all next) ≡ (on_next o (λ next. (is_delivery line && is_short (slice_get next.flows l)) || some next) || rest)
short_next None line l all some rest f t h each = cc
short_next (Some next) line l all some rest f t h each =
    ap (λ b. (is_delivery line && is_short (slice_get next.flows l)) || b) (each next h) ∙ or_assoc (is_delivery line && is_short (slice_get next.flows l)) (some next) rest

-- .. over lines one after another
pub short_then : {X : Type 0} (net : Network X) (l : ℕ) (before after : List Line) (s t : State X) → played net s before ≡ Some t
    → was_short net s (before ++ after) l ≡ (was_short net s before l || was_short net t after l)
short_then net l [] after s t h = ap (λ w. was_short net w after l) (some_state s t h)
short_then net l (line ∷ before) after s t h = short_next (goes net s line) line l (λ next. was_short net next (before ++ after) l) (λ next. was_short net next before l) (was_short net t after l)
    (λ next. played net next before) t h (λ next e. short_then net l before after next t e)

pub or_false : (b : Bool) → (b || false) ≡ b
or_false true = refl
or_false false = refl

-- over a delivery and what follows in its round
pub short_round : {X : Type 0} (net : Network X) (l : ℕ) (lines : List Line) (s : State X) → s.trapped ≡ false → deliveries_in lines ≡ 0
    → was_short net s (DeliverLine ∷ lines) l ≡ is_short (slice_get (after_delivery net s).flows l)
short_round {X} net l lines s untrapped none =
    subst (λ b. on_next (if b then None else Some (after_delivery net s)) (λ next. is_short (slice_get next.flows l) || was_short net next lines l) ≡ is_short (slice_get (after_delivery net s).flows l))
    (sym untrapped)
    (ap (λ b. is_short (slice_get (after_delivery net s).flows l) || b) (no_delivery net l lines (after_delivery net s) none) ∙ or_false (is_short (slice_get (after_delivery net s).flows l)))

-- Sums.

pub deliveries_then : (before after : List Line) → deliveries_in (before ++ after) ≡ deliveries_in before + deliveries_in after
deliveries_then [] after = omega arith
deliveries_then (DeliverLine ∷ before) after = ap suc (deliveries_then before after) ∙ (let e : suc (deliveries_in before + deliveries_in after) ≡ suc (deliveries_in before) + deliveries_in after = omega arith in e)
deliveries_then (FireLine i a ∷ before) after = deliveries_then before after
deliveries_then (GrowLine l c ∷ before) after = deliveries_then before after
deliveries_then (Quiet ∷ before) after = deliveries_then before after
deliveries_then (TrapLine i a c ∷ before) after = deliveries_then before after
deliveries_then (Stall i a l ∷ before) after = deliveries_then before after
deliveries_then (Budget ∷ before) after = deliveries_then before after
deliveries_then (Header n l g ∷ before) after = deliveries_then before after
deliveries_then (Inst k ∷ before) after = deliveries_then before after

pub shown_then : (before after : List Line) → length (firings_shown (before ++ after)) ≡ length (firings_shown before) + length (firings_shown after)
shown_then [] after = omega arith
shown_then (FireLine i a ∷ before) after = ap suc (shown_then before after) ∙ (let e : suc (length (firings_shown before) + length (firings_shown after)) ≡ suc (length (firings_shown before)) + length (firings_shown after) = omega arith in e)
shown_then (DeliverLine ∷ before) after = shown_then before after
shown_then (GrowLine l c ∷ before) after = shown_then before after
shown_then (Quiet ∷ before) after = shown_then before after
shown_then (TrapLine i a c ∷ before) after = shown_then before after
shown_then (Stall i a l ∷ before) after = shown_then before after
shown_then (Budget ∷ before) after = shown_then before after
shown_then (Header n l g ∷ before) after = shown_then before after
shown_then (Inst k ∷ before) after = shown_then before after

-- Numbers by their places.

pub capped_few : (a b : ℕ) → a + b ≤ 2 ^ 64 - 1 → capped_sum a b ≡ a + b
capped_few a b few = by_bool (b == 0)
    (λ yes. let none : b ≡ 0 = eqb-true b 0 yes in if_true (b == 0) _ _ yes ∙ (let e : a ≡ a + b = omega (arith, none) in e))
    (λ no. if_false (b == 0) _ _ no ∙ (let e : min (a + b) (2 ^ 64 - 1) ≡ a + b = omega (arith, few) in e))

pub arrived_here : (came : List Filled) (counts : List ℕ) (l : ℕ) (filled : Filled) → slice_get came l ≡ Some filled → l < length counts
    → slice_index_or (arrived_with came counts) l 0 ≡ capped_sum (slice_index_or counts l 0) filled.tokens
arrived_here [] counts l filled at low = cc
arrived_here (first ∷ came) [] l filled at low = absurd (omega (arith, low))
arrived_here (first ∷ came) (count ∷ counts) zero filled at low = ap (λ f. capped_sum count f.tokens) (some_is first filled at)
arrived_here (first ∷ came) (count ∷ counts) (suc l) filled at low = arrived_here came counts l filled at (omega (arith, low))

pub rest_here : (came : List Filled) (counts : List ℕ) (l : ℕ) (filled : Filled) → slice_get came l ≡ Some filled → l < length counts
    → slice_index_or (rests_with came counts) l 0 ≡ told_or filled.rest (slice_index_or counts l 0)
rest_here [] counts l filled at low = cc
rest_here (first ∷ came) [] l filled at low = absurd (omega (arith, low))
rest_here (first ∷ came) (count ∷ counts) zero filled at low = ap (λ f. told_or f.rest count) (some_is first filled at)
rest_here (first ∷ came) (count ∷ counts) (suc l) filled at low = rest_here came counts l filled at (omega (arith, low))

pub arrived_long : (came : List Filled) (counts : List ℕ) → length (arrived_with came counts) ≡ length counts
arrived_long [] counts = refl
arrived_long (filled ∷ came) [] = refl
arrived_long (filled ∷ came) (count ∷ counts) = ap suc (arrived_long came counts)

pub rests_long : (came : List Filled) (counts : List ℕ) → length (rests_with came counts) ≡ length counts
rests_long [] counts = refl
rests_long (filled ∷ came) [] = refl
rests_long (filled ∷ came) (count ∷ counts) = ap suc (rests_long came counts)

set_long : (xs : List ℕ) (k x : ℕ) → length (slice_set xs k x) ≡ length xs
set_long [] k x = refl
set_long (y ∷ xs) zero x = refl
set_long (y ∷ xs) (suc k) x = ap suc (set_long xs k x)

sent_at_long : (counts : List ℕ) (n : ℕ) (end : End) → length (sent_at counts n end) ≡ length counts
sent_at_long counts n (AtLeaf inst port) = refl
sent_at_long counts n (AtNet port) = set_long counts port (capped_sum (slice_index_or counts port 0) n)

pub sent_long : {X : Type 0} (cells : List (Cell X)) (links : List Link) (counts : List ℕ) → length (sent_with cells links counts) ≡ length counts
sent_long cells [] counts = refl
sent_long cells (link ∷ links) counts = sent_long cells links (sent_at counts (length (carried cells link)) link.to) ∙ sent_at_long counts (length (carried cells link)) link.to

index_set : (xs : List ℕ) (k x : ℕ) → k < length xs → slice_index_or (slice_set xs k x) k 0 ≡ x
index_set [] k x low = absurd (omega (arith, low))
index_set (y ∷ xs) zero x low = refl
index_set (y ∷ xs) (suc k) x low = index_set xs k x (omega (arith, low))

index_else : (xs : List ℕ) (k m x : ℕ) → m ≢ k → slice_index_or (slice_set xs k x) m 0 ≡ slice_index_or xs m 0
index_else [] k m x differ = refl
index_else (y ∷ xs) zero zero x differ = absurd (differ refl)
index_else (y ∷ xs) zero (suc m) x differ = refl
index_else (y ∷ xs) (suc k) zero x differ = refl
index_else (y ∷ xs) (suc k) (suc m) x differ = index_else xs k m x (λ same. differ (ap suc same))

-- what one link adds to the number of output p
sent_at_place : {X : Type 0} (cells : List (Cell X)) (p : ℕ) (counts : List ℕ) (link : Link) (end : End) → link.to ≡ end → p < length counts
    → slice_index_or counts p 0 + length (outgoing_on p cells link) ≤ 2 ^ 64 - 1
    → slice_index_or (sent_at counts (length (carried cells link)) end) p 0 ≡ slice_index_or counts p 0 + length (outgoing_on p cells link)
sent_at_place cells p counts link (AtLeaf inst port) to low few =
    let none : outgoing_on p cells link ≡ [] = ap (λ e. if is_net_port p e then carried cells link else []) to in
    let len : length (outgoing_on p cells link) ≡ 0 = ap (λ ts. length ts) none in
    omega (arith, len)
sent_at_place cells p counts link (AtNet port) to low few = ⊎_elim
    (λ same.
    let here : is_net_port p link.to ≡ true = ap (is_net_port p) to ∙ eq-eqb p port same in
    let is : outgoing_on p cells link ≡ carried cells link = if_true (is_net_port p link.to) _ _ here in
    let len : length (outgoing_on p cells link) ≡ length (carried cells link) = ap (λ ts. length ts) is in
    subst (λ q. slice_index_or (slice_set counts q (capped_sum (slice_index_or counts q 0) (length (carried cells link)))) p 0 ≡ slice_index_or counts p 0 + length (outgoing_on p cells link)) same
    (index_set counts p (capped_sum (slice_index_or counts p 0) (length (carried cells link))) low
    ∙ (capped_few (slice_index_or counts p 0) (length (carried cells link)) (omega (arith, few, len)) ∙ (let e : slice_index_or counts p 0 + length (carried cells link) ≡ slice_index_or counts p 0 + length (outgoing_on p cells link) = omega (arith, len) in e))))
    (λ differ.
    let other : is_net_port p link.to ≡ false = ap (is_net_port p) to ∙ not_eq p port differ in
    let none : outgoing_on p cells link ≡ [] = if_false (is_net_port p link.to) _ _ other in
    let len : length (outgoing_on p cells link) ≡ 0 = ap (λ ts. length ts) none in
    index_else counts port p (capped_sum (slice_index_or counts port 0) (length (carried cells link))) differ ∙ (let e : slice_index_or counts p 0 ≡ slice_index_or counts p 0 + length (outgoing_on p cells link) = omega (arith, len) in e))
    (cases_eq p port)

pub sent_place : {X : Type 0} (cells : List (Cell X)) (p : ℕ) (links : List Link) (counts : List ℕ) → p < length counts
    → slice_index_or counts p 0 + length (outgoing_to p cells links) ≤ 2 ^ 64 - 1
    → slice_index_or (sent_with cells links counts) p 0 ≡ slice_index_or counts p 0 + length (outgoing_to p cells links)
sent_place cells p [] counts low few = omega arith
sent_place cells p (link ∷ links) counts low few =
    let len : length (outgoing_to p cells (link ∷ links)) ≡ length (outgoing_on p cells link) + length (outgoing_to p cells links) = length-append (outgoing_on p cells link) (outgoing_to p cells links) in
    let first : slice_index_or (sent_at counts (length (carried cells link)) link.to) p 0 ≡ slice_index_or counts p 0 + length (outgoing_on p cells link) =
    sent_at_place cells p counts link link.to refl low (omega (arith, few, len)) in
    let next = sent_at counts (length (carried cells link)) link.to in
    let long : length next ≡ length counts = sent_at_long counts (length (carried cells link)) link.to in
    let rest : slice_index_or (sent_with cells links next) p 0 ≡ slice_index_or next p 0 + length (outgoing_to p cells links) =
    sent_place cells p links next (omega (arith, low, long)) (omega (arith, first, few, len)) in
    rest ∙ (let e : slice_index_or next p 0 + length (outgoing_to p cells links) ≡ slice_index_or counts p 0 + length (outgoing_to p cells (link ∷ links)) = omega (arith, first, len) in e)
