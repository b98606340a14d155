-- What fails may not come.
use Rattle.std.proofs.Common.{◌≡◌, ℕ, zero, suc, ◌+◌, ◌<◌, ◌≤◌, Bool, true, false, List, [], ◌∷◌, ◌++◌, ℤ, length, map, refl, sym, ap, subst, ◌∙◌, arith}
use Rattle.std.specs.Prelude.{Option, None, Some, slice_get, slice_index_or, if◌then◌else◌, ◌==◌, replicate, pos}
use Rattle.std.proofs.lemmas.Bool.{eq-eqb, eqb-true}
use Rattle.std.proofs.lemmas.List.{length-append, length-map, length-replicate}
use Rattle.rvc_base.specs.declared.ids.InstId.{InstId}
use Rattle.rvc_base.specs.declared.trap.Trap.{Trap as TrapName}
use Rattle.rvc_base.specs.declared.trap.Trap.TheVariants.{Overflow, DivideByZero, IndexRange, ShiftRange, TurnLimit}
use Rattle.rvc_base.specs.Storing.{conv}
use Rattle.rvc_base.specs.Behaviour.{Effect, Fires, TrapsInGuard, TrapsInBody}
use Rattle.rvc_base.specs.Lawful.{IsLawful, tokens_on}
use Rattle.trace_text.specs.declared.line.Line.TheVariants.{Header as FirstLine, Inst, Fire as FireLine, Deliver, Grow, Quiet, Trap as TrapLine, Stall, Budget}
use Rattle.net_model.specs.declared.wiring.End.{End}
use Rattle.net_model.specs.declared.wiring.End.TheVariants.{Leaf as AtLeaf, Net as AtNet}
use Rattle.net_model.specs.declared.wiring.Link.{Link}
use Rattle.net_model.specs.Network.{Leaf, Network, is_input, is_outside}
use Rattle.net_model.specs.State.{Flow, State, effect_of, effect_at, give_of, need_of, inboxes}
use Rattle.net_model.specs.Event.{Fire, each_flow, after_firing, sent_on, happens, trap, number_of_trap}
use Rattle.net_model.specs.Trace.{FitFlows, held_since, with_given, counted_flows}
use Rattle.net_model.specs.Wired.{ComesFromPort, HasOutput, IsWired}
use Rattle.net_model.specs.Laws.{AreLawful, sent_of, sent_on_link}
use Rattle.net_model.specs.Paced.{PassesRoom, PassesOn, PassesLink}
use Rattle.net_model.proofs.Commuting.{Fired, fired_unless}
use Rattle.trace_replay.specs.Judging.{FiringFails, LacksRoomIn, TrapComes}
use Rattle.trace_replay.specs.Laws.{NoneIsLost, WhatFailsMayNotCome}
use Rattle.trace_replay.specs.declared.why.Why.{Why}

-- Flows by their places.

fit_at : (links : List Link) (opened flows : List Flow) (l : ℕ) (link : Link) (before flow : Flow) → FitFlows links opened flows → slice_get links l ≡ Some link
    → slice_get opened l ≡ Some before → slice_get flows l ≡ Some flow → is_input link ≡ false → held_since before flow ≤ flow.capacity
fit_at [] opened flows l link before flow fits at then_ now inner = cc
fit_at (first ∷ links) [] flows l link before flow fits at then_ now inner = cc
fit_at (first ∷ links) (was ∷ opened) [] l link before flow fits at then_ now inner = cc
fit_at (first ∷ links) (was ∷ opened) (is ∷ flows) zero link before flow fits at then_ now inner =
    let one : first ≡ link = cc in
    let two : was ≡ before = cc in
    let three : is ≡ flow = cc in
    subst (λ f. held_since before f ≤ f.capacity) three (subst (λ b. held_since b is ≤ is.capacity) two (fits.0 (ap is_input one ∙ inner)))
fit_at (first ∷ links) (was ∷ opened) (is ∷ flows) (suc l) link before flow fits at then_ now inner = fit_at links opened flows l link before flow fits.1 at then_ now inner

each_at : (change : Link → Flow → Flow) (links : List Link) (flows : List Flow) (l : ℕ) (link : Link) (flow : Flow) → slice_get links l ≡ Some link → slice_get flows l ≡ Some flow
    → slice_get (each_flow change links flows) l ≡ Some (change link flow)
each_at change [] flows l link flow at now = cc
each_at change (first ∷ links) [] l link flow at now = cc
each_at change (first ∷ links) (is ∷ flows) zero link flow at now =
    let one : first ≡ link = cc in
    let two : is ≡ flow = cc in
    ap (λ a. Some (change a is)) one ∙ ap (λ f. Some (change link f)) two
each_at change (first ∷ links) (is ∷ flows) (suc l) link flow at now = each_at change links flows l link flow at now

get_low : {A : Type 0} (xs : List A) (l : ℕ) (x : A) → slice_get xs l ≡ Some x → l < length xs
get_low [] l x at = cc
get_low (y ∷ xs) zero x at = omega arith
get_low (y ∷ xs) (suc l) x at = let less : l < length xs = get_low xs l x at in omega (arith, less)

sent_kept : {X : Type 0} (net : Network X) (opened s : State X) (l : ℕ) (link : Link) (before flow : Flow) → NoneIsLost net opened s → slice_get net.links l ≡ Some link
    → slice_get opened.flows l ≡ Some before → slice_get s.flows l ≡ Some flow → length before.sent ≤ length flow.sent
sent_kept net opened s l link before flow kept at then_ now =
    let less : length (sent_on_link opened l) ≤ length (sent_on_link s l) = kept l (get_low net.links l link at) in
    let one : length (sent_on_link opened l) ≡ length before.sent = ap (λ o. length (sent_of o)) then_ in
    let two : length (sent_on_link s l) ≡ length flow.sent = ap (λ o. length (sent_of o)) now in
    omega (arith, less, one, two)

-- a link whose room is passed
record Passing {X : Type 0} (net : Network X) (opened s : State X) (i a l : ℕ) : Type 0 where
  link : Link
  before : Flow
  flow : Flow
  at : slice_get net.links l ≡ Some link
  then_ : slice_get opened.flows l ≡ Some before
  now : slice_get s.flows l ≡ Some flow
  inst : InstId
  port : ℕ
  from : link.from ≡ AtLeaf inst port
  own : i ≡ inst.0
  passes : flow.capacity < held_since before flow + give_of (slice_get net.leaves i) a port

passing : {X : Type 0} (net : Network X) (opened s : State X) (i a l : ℕ) → PassesLink net opened s i a l → Passing net opened s i a l
passing {X} net opened s i a l passes = of_options (slice_get net.links l) (slice_get opened.flows l) (slice_get s.flows l) refl refl refl passes
  where
    of_end : (link : Link) (before flow : Flow) (end : End) → slice_get net.links l ≡ Some link → slice_get opened.flows l ≡ Some before → slice_get s.flows l ≡ Some flow
        → link.from ≡ end → PassesRoom (give_of (slice_get net.leaves i) a) i before flow end → Passing net opened s i a l
    of_end link before flow (AtNet port) at then_ now from h = absurd h
    of_end link before flow (AtLeaf inst port) at then_ now from h = record {
      link = link;
      before = before;
      flow = flow;
      at = at;
      then_ = then_;
      now = now;
      inst = inst;
      port = port;
      from = from;
      own = h.0;
      passes = h.1;
    }

    of_options : (o : Option Link) (p q : Option Flow) → slice_get net.links l ≡ o → slice_get opened.flows l ≡ p → slice_get s.flows l ≡ q
        → PassesOn (give_of (slice_get net.leaves i) a) i o p q → Passing net opened s i a l
    of_options None p q at then_ now h = absurd h
    of_options (Some link) None q at then_ now h = absurd h
    of_options (Some link) (Some before) None at then_ now h = absurd h
    of_options (Some link) (Some before) (Some flow) at then_ now h = of_end link before flow link.from at then_ now refl h

-- What is sent.

output_of : {X : Type 0} (port : ℕ) (o : Option (Leaf X)) (leaf : Leaf X) → o ≡ Some leaf → HasOutput port o → port < leaf.behaviour.outs
output_of port None leaf is has = cc
output_of port (Some other) leaf is has = let same : other ≡ leaf = cc in subst (λ f. port < f.behaviour.outs) same has

-- a firing sends on each output port what its action gives
sends : {X : Type 0} (links : List Link) (flows : List Flow) (i a port : ℕ) (o : Option (Leaf X)) (x : Option X) (next : X) (sent : List (List ℤ))
    → ((leaf : Leaf X) → o ≡ Some leaf → IsLawful leaf.behaviour) → HasOutput port o
    → effect_of links flows i a o x ≡ Some (Fires next sent) → length (tokens_on sent port) ≡ give_of o a port
sends links flows i a port None x next sent lawful has is = cc
sends links flows i a port (Some leaf) None next sent lawful has is = cc
sends links flows i a port (Some leaf) (Some state) next sent lawful has is =
    (lawful leaf refl).gives state next (inboxes i leaf.behaviour.ins links flows) sent a is port has

own_sent : (i port : ℕ) (sent : List (List ℤ)) (link : Link) (inst : InstId) (end : End) → end ≡ AtLeaf inst port → i ≡ inst.0
    → length (sent_on i sent link end) ≡ length (tokens_on sent port)
own_sent i port sent link inst end from own =
    ap (λ e. length (sent_on i sent link e)) from
    ∙ ap (λ b. length (if b then map (conv link.kind) (slice_index_or sent port []) else [])) (eq-eqb i inst.0 own)
    ∙ length-map (slice_index_or sent port []) (conv link.kind)

inner_from : (link : Link) (end : End) (inst : InstId) (port : ℕ) → link.from ≡ AtLeaf inst port → is_input link ≡ false
inner_from link end inst port from = ap is_outside from

-- a firing that passes a room passes the capacity then
fire_excluded : {X : Type 0} (net : Network X) (opened s next : State X) (i a l : ℕ) → IsWired net → AreLawful net → NoneIsLost net opened s
    → happens net s (Fire i a) ≡ Some next → FitFlows net.links opened.flows next.flows → PassesLink net opened s i a l → ⊥
fire_excluded net opened s next i a l wired lawful kept h fits passes =
    let one : Fired net s next i a = fired_unless net s next i a s.trapped refl h in
    let p : Passing net opened s i a l = passing net opened s i a l passes in
    let change : Link → Flow → Flow = after_firing i (need_of (slice_get net.leaves i) a) one.sent in
    let now : slice_get next.flows l ≡ Some (after_firing i (need_of (slice_get net.leaves i) a) one.sent p.link p.flow) =
    ap (λ w. slice_get w.flows l) (sym one.is) ∙ each_at (after_firing i (need_of (slice_get net.leaves i) a) one.sent) net.links s.flows l p.link p.flow p.at p.now in
    let within : held_since p.before (after_firing i (need_of (slice_get net.leaves i) a) one.sent p.link p.flow) ≤ p.flow.capacity =
    fit_at net.links opened.flows next.flows l p.link p.before (after_firing i (need_of (slice_get net.leaves i) a) one.sent p.link p.flow) fits p.at p.then_ now
    (inner_from p.link p.link.from p.inst p.port p.from) in
    let there : ComesFromPort net (AtLeaf p.inst p.port) = subst (ComesFromPort net) p.from (wired.joined l p.link p.at).from_port in
    let has : HasOutput p.port (slice_get net.leaves i) = subst (λ n. HasOutput p.port (slice_get net.leaves n)) (sym p.own) there in
    let count : length (tokens_on one.sent p.port) ≡ give_of (slice_get net.leaves i) a p.port =
    sends net.links s.flows i a p.port (slice_get net.leaves i) (slice_get s.actors i) one.to one.sent (λ leaf at. lawful i leaf at) has one.effect in
    let sent : length (sent_on i one.sent p.link p.link.from) ≡ length (tokens_on one.sent p.port) = own_sent i p.port one.sent p.link p.inst p.link.from p.from p.own in
    let more : length (p.flow.sent ++ sent_on i one.sent p.link p.link.from) ≡ length p.flow.sent + length (sent_on i one.sent p.link p.link.from) =
    length-append p.flow.sent (sent_on i one.sent p.link p.link.from) in
    omega (arith, within, count, sent, more, p.passes, sent_kept net opened s l p.link p.before p.flow kept p.at p.then_ p.now)

-- a trap that counts as sending passes it too
given_count : (i port : ℕ) (gives : ℕ → ℕ) (link : Link) (flow : Flow) (inst : InstId) (end : End) → end ≡ AtLeaf inst port → i ≡ inst.0
    → (length (with_given i gives link end flow).sent ≡ length flow.sent + gives port) × ((with_given i gives link end flow).capacity ≡ flow.capacity)
given_count i port gives link flow inst end from own = (
  ap (λ e. length (with_given i gives link e flow).sent) from
      ∙ ap (λ b. length (flow.sent ++ (if b then replicate (gives port) (pos 0) else []))) (eq-eqb i inst.0 own)
      ∙ length-append flow.sent (replicate (gives port) (pos 0)) ∙ ap (λ n. length flow.sent + n) (length-replicate (gives port) (pos 0)),
  ap (λ e. (with_given i gives link e flow).capacity) from,
)

given_since : (i port : ℕ) (gives : ℕ → ℕ) (link : Link) (before flow : Flow) (inst : InstId) (end : End) → end ≡ AtLeaf inst port → i ≡ inst.0
    → length before.sent ≤ length flow.sent → held_since before (with_given i gives link end flow) ≤ (with_given i gives link end flow).capacity
    → held_since before flow + gives port ≤ flow.capacity
given_since i port gives link before flow inst end from own kept within =
    let count = given_count i port gives link flow inst end from own in
    omega (arith, within, count.0, count.1, kept)

trap_excluded : {X : Type 0} (net : Network X) (opened s : State X) (i a l : ℕ) → NoneIsLost net opened s
    → FitFlows net.links opened.flows (each_flow (λ link flow. with_given i (give_of (slice_get net.leaves i) a) link link.from flow) net.links s.flows)
    → PassesLink net opened s i a l → ⊥
trap_excluded net opened s i a l kept fits passes =
    let p : Passing net opened s i a l = passing net opened s i a l passes in
    let gives : ℕ → ℕ = give_of (slice_get net.leaves i) a in
    let now = each_at (λ link flow. with_given i (give_of (slice_get net.leaves i) a) link link.from flow) net.links s.flows l p.link p.flow p.at p.now in
    let within = fit_at net.links opened.flows (each_flow (λ link flow. with_given i (give_of (slice_get net.leaves i) a) link link.from flow) net.links s.flows) l p.link p.before
    (with_given i (give_of (slice_get net.leaves i) a) p.link p.link.from p.flow) fits p.at p.then_ now (inner_from p.link p.link.from p.inst p.port p.from) in
    let most : held_since p.before p.flow + give_of (slice_get net.leaves i) a p.port ≤ p.flow.capacity =
    given_since i p.port (give_of (slice_get net.leaves i) a) p.link p.before p.flow p.inst p.link.from p.from p.own (sent_kept net opened s l p.link p.before p.flow kept p.at p.then_ p.now) within in
    omega (arith, most, p.passes)

-- The cases.

firing_fails : {X : Type 0} (net : Network X) (opened s next : State X) (i a : ℕ) (e : Option (Effect X)) (to : X) (sent : List (List ℤ)) (why : Why)
    → e ≡ Some (Fires to sent) → FiringFails net opened s i a e why → LacksRoomIn net opened s i a
firing_fails net opened s next i a e to sent why is fails =
    let of_fires : FiringFails net opened s i a (Some (Fires to sent)) why = subst (λ o. FiringFails net opened s i a o why) is fails in
    of_fires.1

same_trap : (c d : TrapName) → number_of_trap c ≡ number_of_trap d → d ≡ c
same_trap Overflow Overflow e = refl
same_trap Overflow DivideByZero e = cc
same_trap Overflow IndexRange e = cc
same_trap Overflow ShiftRange e = cc
same_trap Overflow TurnLimit e = cc
same_trap DivideByZero Overflow e = cc
same_trap DivideByZero DivideByZero e = refl
same_trap DivideByZero IndexRange e = cc
same_trap DivideByZero ShiftRange e = cc
same_trap DivideByZero TurnLimit e = cc
same_trap IndexRange Overflow e = cc
same_trap IndexRange DivideByZero e = cc
same_trap IndexRange IndexRange e = refl
same_trap IndexRange ShiftRange e = cc
same_trap IndexRange TurnLimit e = cc
same_trap ShiftRange Overflow e = cc
same_trap ShiftRange DivideByZero e = cc
same_trap ShiftRange IndexRange e = cc
same_trap ShiftRange ShiftRange e = refl
same_trap ShiftRange TurnLimit e = cc
same_trap TurnLimit Overflow e = cc
same_trap TurnLimit DivideByZero e = cc
same_trap TurnLimit IndexRange e = cc
same_trap TurnLimit ShiftRange e = cc
same_trap TurnLimit TurnLimit e = refl

trap_named : {X : Type 0} (c d : TrapName) (mark next : State X) (b : Bool) → (number_of_trap c == number_of_trap d) ≡ b → (if b then Some mark else None) ≡ Some next → d ≡ c
trap_named c d mark next true is h = same_trap c d (eqb-true (number_of_trap c) (number_of_trap d) is)
trap_named c d mark next false is h = cc

-- if a trap happens and fits, it comes
trap_comes_of : {X : Type 0} (net : Network X) (opened s next : State X) (i a : ℕ) (e : Option (Effect X)) (c : TrapName) → NoneIsLost net opened s
    → trap s c e ≡ Some next → FitFlows net.links opened.flows (counted_flows net s i a e) → TrapComes net opened s i a e c
trap_comes_of net opened s next i a None c kept h fits = cc
trap_comes_of net opened s next i a (Some (Fires to sent)) c kept h fits = cc
trap_comes_of net opened s next i a (Some (TrapsInGuard d)) c kept h fits = trap_named c d (record s { trapped = true }) next (number_of_trap c == number_of_trap d) refl h
trap_comes_of net opened s next i a (Some (TrapsInBody d)) c kept h fits =
    (trap_named c d (record s { trapped = true }) next (number_of_trap c == number_of_trap d) refl h, λ l passes. trap_excluded net opened s i a l kept fits passes)

trap_unless : {X : Type 0} (net : Network X) (s next : State X) (i a : ℕ) (c : TrapName) (trapped : Bool) → (if trapped then None else trap s c (effect_at net s i a)) ≡ Some next
    → trap s c (effect_at net s i a) ≡ Some next
trap_unless net s next i a c true h = cc
trap_unless net s next i a c false h = h

pub what_fails_may_not_come : {X : Type 0} → WhatFailsMayNotCome X
what_fails_may_not_come t opened s next (FireLine i a) why wired lawful kept fails may =
    let one : Fired t.net s next i a = fired_unless t.net s next i a s.trapped refl may.goes_so in
    let lacks : LacksRoomIn t.net opened s i a = firing_fails t.net opened s next i a (effect_at t.net s i a) one.to one.sent why one.effect fails in
    fire_excluded t.net opened s next i a lacks.0 wired lawful kept may.goes_so may.fits lacks.1
what_fails_may_not_come t opened s next (TrapLine i a c) why wired lawful kept fails may =
    fails.1 (trap_comes_of t.net opened s next i a (effect_at t.net s i a) c kept (trap_unless t.net s next i a c s.trapped may.goes_so) may.trap_fits)
what_fails_may_not_come t opened s next (Grow l capacity) why wired lawful kept fails may = fails.1 may.true_there
what_fails_may_not_come t opened s next Quiet why wired lawful kept fails may = fails.1 may.true_there.0
what_fails_may_not_come t opened s next (Stall i a l) why wired lawful kept fails may = fails.1 may.true_there.0
what_fails_may_not_come t opened s next Budget why wired lawful kept fails may = fails.1 may.true_there.0
what_fails_may_not_come t opened s next Deliver why wired lawful kept fails may = fails
what_fails_may_not_come t opened s next (FirstLine n l g) why wired lawful kept fails may = may.true_there
what_fails_may_not_come t opened s next (Inst k) why wired lawful kept fails may = may.true_there
