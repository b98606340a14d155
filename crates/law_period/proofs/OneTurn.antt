-- One turn of a leaf: it has its tokens, so it fires or traps, and what it gives arrives.
use Rattle.std.proofs.Common.{◌≡◌, ◌≢◌, ◌⊎◌, ℕ, zero, suc, ◌+◌, ◌*◌, ◌<◌, ◌≤◌, Bool, true, false, List, [], ◌∷◌, ◌++◌, ℤ, length, map, get_or, take, cond, refl, sym, ap, ◌∙◌, subst, inl, inr, ⊎_elim, arith, eq-eqb, length-append, append_assoc}
use Rattle.std.specs.Prelude.{Option, None, Some, slice_get, slice_index_or, if◌then◌else◌, ◌==◌, ◌&&◌, nat_eq}
use Rattle.std.proofs.Math.Nat.{mul-le-mul_left}
use Rattle.std.proofs.lemmas.Bool.{cases_eq, cases_lt, eqb-true}
use Rattle.std.proofs.lemmas.List.{take_at, length-take, length-drop, length-map}
use Rattle.std.proofs.lemmas.List.Elements.{All-contains}
use Rattle.std.proofs.lemmas.List.FromFn.{get_or-map-range_with_len}
use Rattle.std.proofs.lemmas.List.Sums.{sum_by-append}
use Rattle.std.proofs.lemmas.Option.{slice_get_within}
use Rattle.rvc_base.specs.declared.trap.Trap.{Trap as TrapName}
use Rattle.rvc_base.specs.Behaviour.{Behaviour, Effect, Fires, TrapsInBody, Picks}
use Rattle.rvc_base.specs.Lawful.{tokens_on, IsLawful}
use Rattle.period_order.specs.Turns.{turns, given, taken, Finds}
use Rattle.period_order.proofs.Taking.{turns_of_it, turns_of_other}
use Rattle.net_model.specs.declared.wiring.End.{End}
use Rattle.net_model.specs.declared.wiring.End.TheVariants.{Leaf as AtLeaf, Net as AtNet}
use Rattle.net_model.specs.declared.wiring.Link.{Link}
use Rattle.net_model.specs.Network.{Leaf, Network, is_leaf_port, is_input, is_output}
use Rattle.net_model.specs.State.{Flow, State, waiting, inbox, inboxes, effect_of, effect_at, choice_of, choice_at, need_of}
use Rattle.net_model.specs.Event.{Event, Fire, Trap, sent_on, taken_from, after_firing, number_of_trap, trap, happens, run}
use Rattle.net_model.specs.Trace.{OnNext}
use Rattle.net_model.specs.Wired.{IsWired, IsBefore, HasInput, HasOutput, ComesFromPort, LeadsToPort}
use Rattle.net_model.specs.Laws.{AreLawful}
use Rattle.net_model.proofs.Commuting.{chosen_else, fired, fires_so}
use Rattle.law_period.specs.Static.{NetRates, HasNeeds, AreStatic, rated, inner_links, IsPeriodOf}
use Rattle.law_period.specs.Runs.{IsEmpty, IsAtRest, given_at, taken_at, held, HasEnoughInput, all_arrive, IsTurn, IsWithinPeaks, Throughout}
use Rattle.law_period.proofs.Deliveries.{same_get, set_cases, length_set, length_each, changed_from, arrivals_within, settled, MayArrive, arrivals_lead}
use Rattle.law_period.proofs.Progress.{counts, WasMoved, IsBehind, AllHere, inner_there, behind_settled, all_here, within_behind}

-- ---- lists
pub get_there : {A : Type 0} (xs : List A) (i : ℕ) → i < length xs → (x : A) × (slice_get xs i ≡ Some x)
get_there [] i inside = absurd (omega (arith, inside))
get_there (x ∷ xs) zero inside = (x, refl)
get_there (x ∷ xs) (suc i) inside = get_there xs i (omega (arith, inside))

place_of : (front : List ℕ) (x : ℕ) (rest : List ℕ) → get_or (front ++ x ∷ rest) (length front) 0 ≡ x
place_of [] x rest = refl
place_of (y ∷ front) x rest = place_of front x rest

-- ---- the port of a link
both_true : (a b : Bool) → (a && b) ≡ true → (a ≡ true) × (b ≡ true)
both_true true b h = (refl, h)
both_true false b h = cc

is_that_port : (i p : ℕ) (end : End) → is_leaf_port i p end ≡ true → end ≡ AtLeaf (record { 0 = i }) p
is_that_port i p (AtLeaf inst port) h =
    let both = both_true (i == inst.0) (p == port) h in
    let same_inst : i ≡ inst.0 = eqb-true i inst.0 both.0 in
    let same_port : p ≡ port = eqb-true p port both.1 in
    rw (same_inst, same_port) refl
is_that_port i p (AtNet port) h = cc

is_own_port : (i p : ℕ) → is_leaf_port i p (AtLeaf (record { 0 = i }) p) ≡ true
is_own_port i p = rw (eq-eqb i i refl, eq-eqb p p refl) refl

before_none : (end : End) → IsBefore end end → ⊥
before_none (AtLeaf inst port) before = ⊎_elim (λ low. omega (arith, low)) (λ same. omega (arith, same.1)) before
before_none (AtNet port) before = omega (arith, before)

chosen : {A : Type 0} (b : Bool) (x y : A) → b ≡ true → (if b then x else y) ≡ x
chosen true x y h = refl
chosen false x y h = cc

abbrev IsOnly : List Link → ℕ → Link → Type 0
IsOnly links l link = (m : ℕ) (that : Link) → slice_get links m ≡ Some that → that.to ≡ link.to → m ≡ l

-- the tokens before a port are those that wait on the one link that leads there
inbox_of_link : (i p : ℕ) (links : List Link) (flows : List Flow) (l : ℕ) (link : Link) (flow : Flow)
    → slice_get links l ≡ Some link → slice_get flows l ≡ Some flow → link.to ≡ AtLeaf (record { 0 = i }) p
    → IsOnly links l link → inbox i p links flows ≡ waiting flow
inbox_of_link i p [] flows l link flow at_link at_flow leads only = cc
inbox_of_link i p (head ∷ links) [] l link flow at_link at_flow leads only = cc
inbox_of_link i p (head ∷ links) (first ∷ flows) zero link flow at_link at_flow leads only =
    let same : head ≡ link = cc in
    let same_flow : first ≡ flow = cc in
    let leads_here : head.to ≡ AtLeaf (record { 0 = i }) p = ap (λ k. k.to) same ∙ leads in
    let test : is_leaf_port i p head.to ≡ true = ap (is_leaf_port i p) leads_here ∙ is_own_port i p in
    chosen _ (waiting first) (inbox i p links flows) test ∙ ap waiting same_flow
inbox_of_link i p (head ∷ links) (first ∷ flows) (suc l) link flow at_link at_flow leads only =
    chosen_else _ (waiting first) (inbox i p links flows)
    (λ here. absurd (let none : 0 ≡ suc l = only 0 head refl (is_that_port i p head.to here ∙ sym leads) in omega (arith, none)))
    ∙ inbox_of_link i p links flows l link flow at_link at_flow leads
    (λ m that at same. let next : suc m ≡ suc l = only (suc m) that at same in omega (arith, next))

waiting_all : (flow : Flow) → flow.arrived ≡ length flow.sent → length (waiting flow) ≡ held flow
waiting_all flow here = length-drop flow.taken (take flow.arrived flow.sent) ∙ (rw (length-take flow.arrived flow.sent) (omega (arith, here)))

-- ---- leaves that are there
output_there : {X : Type 0} (p : ℕ) (o : Option (Leaf X)) (leaf : Leaf X) → o ≡ Some leaf → HasOutput p o → p < leaf.behaviour.outs
output_there p None leaf e h = cc
output_there p (Some that) leaf e h = let same : that ≡ leaf = cc in subst (λ k. p < k.behaviour.outs) same h

input_there : {X : Type 0} (p : ℕ) (o : Option (Leaf X)) (leaf : Leaf X) → o ≡ Some leaf → HasInput p o → p < leaf.behaviour.ins
input_there p None leaf e h = cc
input_there p (Some that) leaf e h = let same : that ≡ leaf = cc in subst (λ k. p < k.behaviour.ins) same h

need_there : {X : Type 0} (o : Option (Leaf X)) (leaf : Leaf X) (a p : ℕ) → o ≡ Some leaf → need_of o a p ≡ leaf.behaviour.need a p
need_there None leaf a p e = cc
need_there (Some that) leaf a p e = let same : that ≡ leaf = cc in ap (λ k. k.behaviour.need a p) same

choice_there : {X : Type 0} (links : List Link) (flows : List Flow) (i : ℕ) (o : Option (Leaf X)) (p : Option X) (leaf : Leaf X) (x : X) → o ≡ Some leaf → p ≡ Some x
    → choice_of links flows i o p ≡ leaf.behaviour.choice x (inboxes i leaf.behaviour.ins links flows)
choice_there links flows i o p leaf x at_leaf at_state = rw (at_leaf, at_state) refl

effect_there : {X : Type 0} (links : List Link) (flows : List Flow) (i a : ℕ) (o : Option (Leaf X)) (p : Option X) (leaf : Leaf X) (x : X) → o ≡ Some leaf → p ≡ Some x
    → effect_of links flows i a o p ≡ leaf.behaviour.effect x (inboxes i leaf.behaviour.ins links flows) a
effect_there links flows i a o p leaf x at_leaf at_state = rw (at_leaf, at_state) refl

action_there : {X : Type 0} (actor : Behaviour X) (x : X) (tokens : List (List ℤ)) (a : ℕ) (e : Effect X) → IsLawful actor → actor.effect x tokens a ≡ Some e → a < actor.actions
action_there actor x tokens a e lawful has =
    ⊎_elim (λ (inside : a < actor.actions). inside)
    (λ (beyond : actor.actions ≤ a). let none : actor.effect x tokens a ≡ None = lawful.no_effect_beyond x tokens a beyond in cc)
    (cases_lt a actor.actions)

-- ---- a trap
trap_so : {X : Type 0} (s : State X) (cause : TrapName) (e : Option (Effect X)) → s.trapped ≡ false → e ≡ Some (TrapsInBody cause)
    → (if s.trapped then None else trap s cause e) ≡ Some (record s { trapped = true })
trap_so s cause e untrapped is =
    rw (untrapped, is, eq-eqb (number_of_trap cause) (number_of_trap cause) refl) refl

-- ---- turns of a prefix
pub counts_within : (leaf : ℕ) (front rest : List ℕ) → turns leaf front + 1 ≤ turns leaf ((front ++ leaf ∷ []) ++ rest)
counts_within leaf front rest =
    let parts : turns leaf ((front ++ leaf ∷ []) ++ rest) ≡ turns leaf (front ++ leaf ∷ []) + turns leaf rest = sum_by-append (λ x. cond (nat_eq leaf x) 1 0) (front ++ leaf ∷ []) rest in
    let one : turns leaf (front ++ leaf ∷ []) ≡ turns leaf front + 1 = turns_of_it leaf front in
    omega (arith, parts, one)

-- what a turn is, with all that holds behind it
pub record Turned {X : Type 0} (net : Network X) (kept : ℕ → X → Type 0) (rates : NetRates) (order : List ℕ) (first : List Flow) (front : List ℕ) (leaf : ℕ) (s : State X) : Type 0 where
  pub events : List Event
  pub next : State X
  pub turn : IsTurn net s leaf events next
  pub leads : run net s events ≡ Some next
  pub within : Throughout net (IsWithinPeaks net rates order) s events
  pub behind : IsBehind net kept rates first (front ++ leaf ∷ []) next
  pub here : AllHere next.flows

pub record Trapped {X : Type 0} (net : Network X) (leaf : ℕ) (s : State X) : Type 0 where
  pub action : ℕ
  pub cause : TrapName
  pub chosen_is : choice_at net s leaf ≡ Picks action
  pub traps : happens net s (Trap leaf action cause) ≡ Some (record s { trapped = true })

module _ {X : Type 0} (net : Network X) (kept : ℕ → X → Type 0) (rates : NetRates) (firings : ℕ → ℕ) (order : List ℕ) (start : State X) (wired : IsWired net) (lawful : AreLawful net) (static : AreStatic net kept rates) (period : IsPeriodOf net rates firings order) (rest : IsAtRest net kept start) (enough : HasEnoughInput net rates firings start) where
  one_reader : (l : ℕ) (link : Link) → slice_get net.links l ≡ Some link → IsOnly net.links l link
  one_reader l link at_link m that at same =
      ⊎_elim
      (λ (low : m < l). absurd (before_none link.to (subst (λ e. IsBefore e link.to) same (wired.in_order m l that link low at at_link))))
      (λ (up : l ≤ m). ⊎_elim
      (λ (low : l < m). absurd (before_none link.to (subst (λ e. IsBefore link.to e) same (wired.in_order l m link that low at_link at))))
      (λ (down : m ≤ l). omega (arith, up, down)) (cases_lt l m))
      (cases_lt m l)

  -- a leaf whose turn it is behind `front`
  module _ (front : List ℕ) (leaf : ℕ) (after : List ℕ) (split : order ≡ front ++ leaf ∷ after) (s : State X) (behind : IsBehind net kept rates start.flows front s) (here : AllHere s.flows) where
    inside : length front < length order
    inside = let size : length order ≡ length (front ++ leaf ∷ after) = ap (λ ls. length ls) split in omega (arith, size, length-append front (leaf ∷ after))

    front_is : take (length front) order ≡ front
    front_is = ap (λ ls. take (length front) ls) split ∙ take_at front (leaf ∷ after) (length front) refl

    leaf_is : get_or order (length front) 0 ≡ leaf
    leaf_is = ap (λ ls. get_or ls (length front) 0) split ∙ place_of front leaf after

    leaf_in : leaf < length net.leaves
    leaf_in = subst (λ k. k < length net.leaves) leaf_is (period.period.among (length front) 0 inside)

    finds : Finds (inner_links rates net.links) front leaf
    finds = subst (λ ls. Finds (inner_links rates net.links) ls leaf) front_is
        (subst (λ k. Finds (inner_links rates net.links) (take (length front) order) k) leaf_is (period.period.finds (length front) inside))

    turns_left : turns leaf front + 1 ≤ firings leaf
    turns_left =
        let whole : turns leaf order ≡ turns leaf ((front ++ leaf ∷ []) ++ after) = ap (λ ls. turns leaf ls) (split ∙ sym (append_assoc front (leaf ∷ []) after)) in
        let wanted : turns leaf order ≡ firings leaf = period.period.counts leaf leaf_in in
        omega (arith, whole, wanted, counts_within leaf front after)

    -- there are as many tokens on a link to it as it needs there
    enough_from : (l : ℕ) (link : Link) (now : Flow) (p : ℕ) (from : End) → slice_get net.links l ≡ Some link → slice_get s.flows l ≡ Some now
        → link.to ≡ AtLeaf (record { 0 = leaf }) p → link.from ≡ from → rates.need leaf p ≤ held now
    enough_from l link now p (AtLeaf inst port) at_link at_flow to from =
        let was = behind.on_link l link now at_link at_flow in
        let is_inner : rated rates link ≡ Some (record { writer = inst.0; reader = leaf; give = rates.give inst.0 port; need = rates.need leaf p }) = rw (from, to) refl in
        let link_in : is_input link ≡ false = rw from refl in
        let link_out : is_output link ≡ false = rw to refl in
        let empty : IsEmpty was.before = rest.empty link was.before (l, at_link, was.there) link_in link_out in
        let found : rates.need leaf p * turns leaf front + rates.need leaf p ≤ rates.give inst.0 port * turns inst.0 front =
        All-contains (λ that. that.reader ≡ leaf → taken that front + that.need ≤ given that front) (inner_links rates net.links) _ finds (inner_there rates net.links l link _ at_link is_inner) refl in
        let sent : length now.sent ≡ length was.before.sent + given_at rates (counts front) (AtLeaf inst port) = subst (λ e. length now.sent ≡ length was.before.sent + given_at rates (counts front) e) from was.moved.given in
        let gone : now.taken ≡ was.before.taken + taken_at rates (counts front) (AtLeaf (record { 0 = leaf }) p) = subst (λ e. now.taken ≡ was.before.taken + taken_at rates (counts front) e) to (was.moved.taken link_out) in
        let nothing : was.before.taken ≡ length was.before.sent = empty.taken in
        omega (arith, found, sent, gone, nothing)
    enough_from l link now p (AtNet port) at_link at_flow to from =
        let was = behind.on_link l link now at_link at_flow in
        let link_in : is_input link ≡ true = rw from refl in
        let link_out : is_output link ≡ false = rw to refl in
        let all : taken_at rates firings (AtLeaf (record { 0 = leaf }) p) ≤ held was.before = subst (λ e. taken_at rates firings e ≤ held was.before) to (enough link was.before (l, at_link, was.there) link_in) in
        let more : rates.need leaf p * (turns leaf front + 1) ≤ rates.need leaf p * firings leaf = mul-le-mul_left (rates.need leaf p) turns_left in
        let sent : length now.sent ≡ length was.before.sent + given_at rates (counts front) (AtNet port) = subst (λ e. length now.sent ≡ length was.before.sent + given_at rates (counts front) e) from was.moved.given in
        let gone : now.taken ≡ was.before.taken + taken_at rates (counts front) (AtLeaf (record { 0 = leaf }) p) = subst (λ e. now.taken ≡ was.before.taken + taken_at rates (counts front) e) to (was.moved.taken link_out) in
        omega (arith, all, more, sent, gone)

    pub within_at : IsWithinPeaks net rates order s
    within_at =
        let low = inside in
        within_behind net kept rates order start s (length front) rest (omega (arith, low))
        (subst (λ ls. IsBehind net kept rates start.flows ls s) (sym front_is) behind)

    module _ (that : Leaf X) (at_leaf : slice_get net.leaves leaf ≡ Some that) (x : X) (at_state : slice_get s.actors leaf ≡ Some x) where
      abbrev before_ports : List (List ℤ)
      before_ports = inboxes leaf that.behaviour.ins net.links s.flows

      has_needs : HasNeeds that.behaviour (rates.need leaf) before_ports
      has_needs p low =
          let there : tokens_on before_ports p ≡ inbox leaf p net.links s.flows = get_or-map-range_with_len (λ q. inbox leaf q net.links s.flows) 0 that.behaviour.ins p p [] low (omega arith) in
          ⊎_elim
          (λ (some : 0 < rates.need leaf p).
          let fires : 0 < firings leaf = (let left = turns_left in omega (arith, left)) in
          let reached = period.reached leaf p that at_leaf fires low some in
          let l = reached.0 in
          let link = reached.1 in
          let at_link : slice_get net.links l ≡ Some link = reached.2 in
          let to : link.to ≡ AtLeaf (record { 0 = leaf }) p = is_that_port leaf p link.to reached.3 in
          let l_in : l < length s.flows = (let low' : l < length net.links = slice_get_within net.links l link at_link in let same : length s.flows ≡ length net.links = behind.flows in omega (arith, low', same)) in
          let flow = get_there s.flows l l_in in
          let tokens : inbox leaf p net.links s.flows ≡ waiting flow.0 = inbox_of_link leaf p net.links s.flows l link flow.0 at_link flow.1 to (one_reader l link at_link) in
          let many : length (tokens_on before_ports p) ≡ held flow.0 = ap (λ ts. length ts) (there ∙ tokens) ∙ waiting_all flow.0 (here l flow.0 flow.1) in
          let low'' : rates.need leaf p ≤ held flow.0 = enough_from l link flow.0 p link.from at_link flow.1 to refl in
          subst (λ z. rates.need leaf p ≤ z) (sym many) low'')
          (λ (none : rates.need leaf p ≤ 0). omega (arith, none))
          (cases_lt 0 (rates.need leaf p))

      abbrev picked : (a : ℕ) × (that.behaviour.choice x before_ports ≡ Picks a)
      picked = (static leaf that at_leaf).fires x before_ports (behind.kept_states leaf x at_state) has_needs

      chosen_at : choice_at net s leaf ≡ Picks picked.0
      chosen_at = choice_there net.links s.flows leaf (slice_get net.leaves leaf) (slice_get s.actors leaf) that x at_leaf at_state ∙ picked.1

      effect_is : (e : Effect X) → that.behaviour.effect x before_ports picked.0 ≡ Some e → effect_at net s leaf picked.0 ≡ Some e
      effect_is e has = effect_there net.links s.flows leaf picked.0 (slice_get net.leaves leaf) (slice_get s.actors leaf) that x at_leaf at_state ∙ has

      trapped : (cause : TrapName) → that.behaviour.effect x before_ports picked.0 ≡ Some (TrapsInBody cause) → Trapped net leaf s
      trapped cause has = record {
        action = picked.0;
        cause = cause;
        chosen_is = chosen_at;
        traps = trap_so s cause (effect_at net s leaf picked.0) behind.untrapped (effect_is (TrapsInBody cause) has);
      }

      module _ (to : X) (sent : List (List ℤ)) (has : that.behaviour.effect x before_ports picked.0 ≡ Some (Fires to sent)) where
        low_action : picked.0 < that.behaviour.actions
        low_action = action_there that.behaviour x before_ports picked.0 (Fires to sent) (lawful leaf that at_leaf) has

        -- what it sends on a link is what a turn more gives
        sent_more : (link : Link) (end : End) → ComesFromPort net end → length (sent_on leaf sent link end) + given_at rates (counts front) end ≡ given_at rates (counts (front ++ leaf ∷ [])) end
        sent_more link (AtNet port) there = refl
        sent_more link (AtLeaf inst port) there =
            ⊎_elim
            (λ (it : leaf ≡ inst.0).
            let on : sent_on leaf sent link (AtLeaf inst port) ≡ map _ (slice_index_or sent port []) = chosen (leaf == inst.0) _ [] (eq-eqb leaf inst.0 it) in
            let many : length (sent_on leaf sent link (AtLeaf inst port)) ≡ length (tokens_on sent port) = ap (λ ts. length ts) on ∙ length-map (slice_index_or sent port []) _ in
            let at_inst : slice_get net.leaves inst.0 ≡ Some that = subst (λ k. slice_get net.leaves k ≡ Some that) it at_leaf in
            let low : port < that.behaviour.outs = output_there port (slice_get net.leaves inst.0) that at_inst there in
            let gives : length (tokens_on sent port) ≡ that.behaviour.give picked.0 port = (lawful leaf that at_leaf).gives x to before_ports sent picked.0 has port low in
            let same : that.behaviour.give picked.0 port ≡ rates.give leaf port = (static leaf that at_leaf).gives picked.0 port low_action low in
            let same' : rates.give leaf port ≡ rates.give inst.0 port = ap (λ k. rates.give k port) it in
            let one : turns inst.0 (front ++ leaf ∷ []) ≡ turns inst.0 front + 1 = subst (λ k. turns k (front ++ leaf ∷ []) ≡ turns k front + 1) it (turns_of_it leaf front) in
            let times : rates.give inst.0 port * turns inst.0 (front ++ leaf ∷ []) ≡ rates.give inst.0 port * (turns inst.0 front + 1) = ap (λ z. rates.give inst.0 port * z) one in
            omega (arith, many, gives, same, same', times))
            (λ (apart : leaf ≢ inst.0).
            let on : sent_on leaf sent link (AtLeaf inst port) ≡ [] = chosen_else (leaf == inst.0) _ [] (λ same. apart (eqb-true leaf inst.0 same)) in
            let none : length (sent_on leaf sent link (AtLeaf inst port)) ≡ 0 = ap (λ ts. length ts) on in
            let same : rates.give inst.0 port * turns inst.0 (front ++ leaf ∷ []) ≡ rates.give inst.0 port * turns inst.0 front = ap (λ z. rates.give inst.0 port * z) (turns_of_other inst.0 leaf front (λ e. apart (sym e))) in
            omega (arith, none, same))
            (cases_eq leaf inst.0)

        taken_more : (end : End) → LeadsToPort net end → taken_from leaf (need_of (slice_get net.leaves leaf) picked.0) end + taken_at rates (counts front) end ≡ taken_at rates (counts (front ++ leaf ∷ [])) end
        taken_more (AtNet port) there = refl
        taken_more (AtLeaf inst port) there =
            ⊎_elim
            (λ (it : leaf ≡ inst.0).
            let on : taken_from leaf (need_of (slice_get net.leaves leaf) picked.0) (AtLeaf inst port) ≡ need_of (slice_get net.leaves leaf) picked.0 port = chosen (leaf == inst.0) _ 0 (eq-eqb leaf inst.0 it) in
            let at_inst : slice_get net.leaves inst.0 ≡ Some that = subst (λ k. slice_get net.leaves k ≡ Some that) it at_leaf in
            let low : port < that.behaviour.ins = input_there port (slice_get net.leaves inst.0) that at_inst there in
            let needs : need_of (slice_get net.leaves leaf) picked.0 port ≡ that.behaviour.need picked.0 port = need_there (slice_get net.leaves leaf) that picked.0 port at_leaf in
            let same : that.behaviour.need picked.0 port ≡ rates.need leaf port = (static leaf that at_leaf).needs picked.0 port low_action low in
            let same' : rates.need leaf port ≡ rates.need inst.0 port = ap (λ k. rates.need k port) it in
            let one : turns inst.0 (front ++ leaf ∷ []) ≡ turns inst.0 front + 1 = subst (λ k. turns k (front ++ leaf ∷ []) ≡ turns k front + 1) it (turns_of_it leaf front) in
            let times : rates.need inst.0 port * turns inst.0 (front ++ leaf ∷ []) ≡ rates.need inst.0 port * (turns inst.0 front + 1) = ap (λ z. rates.need inst.0 port * z) one in
            omega (arith, on, needs, same, same', times))
            (λ (apart : leaf ≢ inst.0).
            let on : taken_from leaf (need_of (slice_get net.leaves leaf) picked.0) (AtLeaf inst port) ≡ 0 = chosen_else (leaf == inst.0) _ 0 (λ same. apart (eqb-true leaf inst.0 same)) in
            let same : rates.need inst.0 port * turns inst.0 (front ++ leaf ∷ []) ≡ rates.need inst.0 port * turns inst.0 front = ap (λ z. rates.need inst.0 port * z) (turns_of_other inst.0 leaf front (λ e. apart (sym e))) in
            omega (arith, on, same))
            (cases_eq leaf inst.0)

        abbrev fired_state : State X
        fired_state = fired net s leaf picked.0 to sent

        abbrev change : Link → Flow → Flow
        change = after_firing leaf (need_of (slice_get net.leaves leaf) picked.0) sent

        happened : happens net s (Fire leaf picked.0) ≡ Some fired_state
        happened = fires_so net s leaf picked.0 to sent (effect_at net s leaf picked.0) behind.untrapped (effect_is (Fires to sent) has)

        moved_on : (l : ℕ) (link : Link) (old now : Flow) → slice_get net.links l ≡ Some link → change link old ≡ now → WasMoved rates front start.flows l link old → WasMoved rates (front ++ leaf ∷ []) start.flows l link now
        moved_on l link old now at_link is was =
            let joined = wired.joined l link at_link in
            record {
              before = was.before;
              there = was.there;
              moved = record {
                given = subst (λ flow. length flow.sent ≡ length was.before.sent + given_at rates (counts (front ++ leaf ∷ [])) link.from) is
                    (let more = sent_more link link.from joined.from_port in let so_far = was.moved.given in
                    let all : length (old.sent ++ sent_on leaf sent link link.from) ≡ length old.sent + length (sent_on leaf sent link link.from) = length-append old.sent (sent_on leaf sent link link.from) in
                    omega (arith, more, so_far, all));
                taken = λ inner. subst (λ flow. flow.taken ≡ was.before.taken + taken_at rates (counts (front ++ leaf ∷ [])) link.to) is
                    (let more = taken_more link.to joined.to_port in let so_far = was.moved.taken inner in omega (arith, more, so_far));
              };
            }

        behind_fired : IsBehind net kept rates start.flows (front ++ leaf ∷ []) fired_state
        behind_fired = record {
          untrapped = behind.untrapped;
          actors = length_set s.actors leaf to ∙ behind.actors;
          kept_states = λ i y at.
              ⊎_elim
              (λ same. subst (λ k. kept k y) same.0 (subst (λ z. kept leaf z) same.1 ((static leaf that at_leaf).keeps x to before_ports sent picked.0 (behind.kept_states leaf x at_state) has)))
              (λ other. behind.kept_states i y other)
              (set_cases s.actors leaf to i y at);
          flows = length_each change net.links s.flows behind.flows;
          on_link = λ l link now at_link at_flow.
              let changed = changed_from change net.links s.flows l now at_flow in
              let same : changed.link ≡ link = same_get (slice_get net.links l) changed.link link changed.at_link at_link in
              moved_on l link changed.old now at_link (ap (λ k. change k changed.old) (sym same) ∙ changed.is) (behind.on_link l link changed.old at_link changed.at_flow);
        }

        may_arrive : MayArrive fired_state.flows
        may_arrive l flow at =
            let changed = changed_from change net.links s.flows l flow at in
            let all : changed.old.arrived ≡ length changed.old.sent = here l changed.old changed.at_flow in
            subst (λ k. k.arrived ≤ length k.sent) changed.is
            (let size : length (changed.old.sent ++ sent_on leaf sent changed.link changed.link.from) ≡ length changed.old.sent + length (sent_on leaf sent changed.link changed.link.from) = length-append changed.old.sent (sent_on leaf sent changed.link changed.link.from) in
            omega (arith, all, size))

        within_fired : IsWithinPeaks net rates order fired_state
        within_fired =
            let next_is : take (length front + 1) order ≡ front ++ leaf ∷ [] =
            ap (λ ls. take (length front + 1) ls) (split ∙ sym (append_assoc front (leaf ∷ []) after)) ∙ take_at (front ++ leaf ∷ []) after (length front + 1) (length-append front (leaf ∷ [])) in
            let low = inside in
            within_behind net kept rates order start fired_state (length front + 1) rest (omega (arith, low))
            (subst (λ ls. IsBehind net kept rates start.flows ls fired_state) (sym next_is) behind_fired)

        turned : Turned net kept rates order start.flows front leaf s
        turned =
            let arrives = arrivals_lead net fired_state behind.untrapped behind_fired.flows may_arrive in
            record {
              events = Fire leaf picked.0 ∷ all_arrive fired_state;
              next = settled net fired_state;
              turn = record {
                action = picked.0;
                fired = fired_state;
                chosen = chosen_at;
                fires = happened;
                arrives = arrives;
                events_are = refl;
              };
              leads = rw happened arrives;
              within = (within_at, subst (λ o. OnNext o (λ next. Throughout net (IsWithinPeaks net rates order) next (all_arrive fired_state))) (sym happened) (arrivals_within net rates order fired_state.flows 0 fired_state (settled net fired_state) arrives within_fired));
              behind = behind_settled net kept rates start.flows (front ++ leaf ∷ []) fired_state behind_fired;
              here = all_here net fired_state may_arrive;
            }

      turned_or_trapped : Turned net kept rates order start.flows front leaf s ⊎ Trapped net leaf s
      turned_or_trapped =
          ⊎_elim
          (λ fires. inl (turned fires.0 fires.1 fires.2))
          (λ traps. inr (trapped traps.0 traps.1))
          ((lawful leaf that at_leaf).picks x before_ports picked.0 picked.1)

    pub turn_or_trap : Turned net kept rates order start.flows front leaf s ⊎ Trapped net leaf s
    turn_or_trap =
        let that = get_there net.leaves leaf leaf_in in
        let same : length s.actors ≡ length net.leaves = behind.actors in
        let low = leaf_in in
        let x = get_there s.actors leaf (omega (arith, low, same)) in
        turned_or_trapped that.0 that.1 x.0 x.1
