-- A delivery, where some of what arrives at it has arrived before; and arrivals over several links.
use Rattle.std.proofs.Common.{◌≡◌, ℕ, zero, suc, ◌+◌, ◌-◌, ◌≤◌, min, Bool, true, false, List, [], ◌∷◌, ℤ, length, take, drop, refl, sym, ap, ◌∙◌, ⊎_elim, arith, length-drop}
use Rattle.std.specs.Prelude.{Some, slice_get, slice_set, slice_index_or, if◌then◌else◌}
use Rattle.std.proofs.lemmas.Bool.{cases_lt}
use Rattle.std.proofs.lemmas.List.{drop-drop}
use Rattle.net_model.specs.declared.wiring.Link.{Link}
use Rattle.net_model.specs.Network.{Network, is_input, is_output}
use Rattle.net_model.specs.State.{Flow, State, untaken}
use Rattle.net_model.specs.Event.{after_arrival, each_flow}
use Rattle.net_model.specs.Trace.{after_delivery, arrivals, delivered}
use Rattle.net_state.specs.TakingBack.{down}
use Rattle.trace_replay.specs.Holding.{ahead, ahead_by, ahead_on, each_ahead}

abbrev flow_with : List ℤ → ℕ → ℕ → ℕ → Flow
flow_with sent arrived taken capacity = record { sent = sent; arrived = arrived; taken = taken; capacity = capacity }

taken_both : (out : Bool) (taken m n k : ℕ) → m + n ≡ k → (if out then (if out then taken + m else taken) + n else (if out then taken + m else taken)) ≡ (if out then taken + k else taken)
taken_both true taken m n k sum = omega (arith, sum)
taken_both false taken m n k sum = refl

-- arrivals add up
pub arrived_both : (m n k : ℕ) (link : Link) (flow : Flow) → m + n ≡ k → after_arrival n link (after_arrival m link flow) ≡ after_arrival k link flow
arrived_both m n k link flow sum =
    let all : flow.arrived + m + n ≡ flow.arrived + k = omega (arith, sum) in
    ap (λ a. flow_with flow.sent a (if is_output link then (if is_output link then flow.taken + m else flow.taken) + n else (if is_output link then flow.taken + m else flow.taken)) flow.capacity) all
    ∙ ap (λ t. flow_with flow.sent (flow.arrived + k) t flow.capacity) (taken_both (is_output link) flow.taken m n k sum)

arrivals_of : (link : Link) (flow : Flow) → is_input link ≡ true → arrivals link flow ≡ min (flow.capacity - untaken flow) (length flow.sent - flow.arrived)
arrivals_of link flow input = ap (λ b. if b then min (flow.capacity - untaken flow) (length flow.sent - flow.arrived) else length flow.sent - flow.arrived) input

least_less : (a b n : ℕ) → min (a - n) (b - n) ≡ min a b - n
least_less a b n = ⊎_elim (λ less. omega (arith, less)) (λ more. omega (arith, more)) (cases_lt a b)

module _ (link : Link) (flow : Flow) (n : ℕ) (input : is_input link ≡ true) (inside : is_output link ≡ false) (ordered : flow.taken ≤ flow.arrived)
    (room : untaken flow + n ≤ flow.capacity) (sent : flow.arrived + n ≤ length flow.sent) where
  abbrev later : Flow
  later = after_arrival n link flow

  taken_is : later.taken ≡ flow.taken
  taken_is = ap (λ b. if b then flow.taken + n else flow.taken) inside

  left_is : min (later.capacity - untaken later) (length later.sent - later.arrived) ≡ min (flow.capacity - untaken flow - n) (length flow.sent - flow.arrived - n)
  left_is =
      let waits : flow.arrived + n - later.taken ≡ flow.arrived - flow.taken + n = omega (arith, taken_is, ordered) in
      let first : flow.capacity - (flow.arrived + n - later.taken) ≡ flow.capacity - (flow.arrived - flow.taken) - n = omega (arith, waits) in
      let second : length flow.sent - (flow.arrived + n) ≡ length flow.sent - flow.arrived - n = omega arith in
      ap (λ a. min a (length flow.sent - (flow.arrived + n))) first ∙ ap (min (flow.capacity - (flow.arrived - flow.taken) - n)) second

  most : n ≤ min (flow.capacity - untaken flow) (length flow.sent - flow.arrived)
  most = omega (arith, room, sent)

  -- what arrives at a delivery is what had arrived ahead of it, and the rest
  pub arrivals_ahead : n + arrivals link later ≡ arrivals link flow
  arrivals_ahead =
      let rest : arrivals link later ≡ min (flow.capacity - untaken flow) (length flow.sent - flow.arrived) - n =
      arrivals_of link later input ∙ (left_is ∙ least_less (flow.capacity - untaken flow) (length flow.sent - flow.arrived) n) in
      let all : arrivals link flow ≡ min (flow.capacity - untaken flow) (length flow.sent - flow.arrived) = arrivals_of link flow input in
      omega (arith, rest, all, most)

  pub delivered_ahead : delivered link later ≡ delivered link flow
  delivered_ahead = arrived_both n (arrivals link later) (arrivals link flow) link flow arrivals_ahead

-- the same of all links
each_same : (links : List Link) (flows nexts : List Flow) → length flows ≡ length links → length nexts ≡ length flows
    → ((l : ℕ) (link : Link) (flow next : Flow) → slice_get links l ≡ Some link → slice_get flows l ≡ Some flow → slice_get nexts l ≡ Some next → delivered link next ≡ delivered link flow)
    → each_flow delivered links nexts ≡ each_flow delivered links flows
each_same [] flows nexts whole many same = refl
each_same (link ∷ links) [] nexts whole many same = absurd (omega (arith, whole))
each_same (link ∷ links) (flow ∷ flows) [] whole many same = absurd (omega (arith, many))
each_same (link ∷ links) (flow ∷ flows) (next ∷ nexts) whole many same =
    ap (λ f. f ∷ each_flow delivered links nexts) (same 0 link flow next refl refl refl)
    ∙ ap (λ fs. delivered link flow ∷ fs) (each_same links flows nexts (omega (arith, whole)) (omega (arith, many)) (λ l. same (suc l)))

-- Arrivals over several links.

some_is : {A : Type 0} (x y : A) → Some x ≡ Some y → x ≡ y
some_is x y e = cc

arrived_none : (link : Link) (flow : Flow) → after_arrival 0 link flow ≡ flow
arrived_none link flow =
    let sum : flow.arrived + 0 ≡ flow.arrived = omega arith in
    ap (λ a. flow_with flow.sent a (if is_output link then flow.taken + 0 else flow.taken) flow.capacity) sum
    ∙ ap (λ t. flow_with flow.sent flow.arrived t flow.capacity) (taken_none (is_output link) flow.taken)
  where
    taken_none : (out : Bool) (taken : ℕ) → (if out then taken + 0 else taken) ≡ taken
    taken_none true taken = omega arith
    taken_none false taken = refl

pub ahead_in : (link : Link) (n : ℕ) (flow : Flow) → is_input link ≡ true → ahead_by link n flow ≡ after_arrival n link flow
ahead_in link n flow input = ap (λ b. if b then after_arrival n link flow else flow) input

pub ahead_out : (link : Link) (n : ℕ) (flow : Flow) → is_input link ≡ false → ahead_by link n flow ≡ flow
ahead_out link n flow inner = ap (λ b. if b then after_arrival n link flow else flow) inner

pub ahead_none : (link : Link) (flow : Flow) → ahead_by link 0 flow ≡ flow
ahead_none link flow = of_input (is_input link)
  where
    of_input : (b : Bool) → (if b then after_arrival 0 link flow else flow) ≡ flow
    of_input true = arrived_none link flow
    of_input false = refl

pub set_self : {A : Type 0} (xs : List A) (l : ℕ) (x : A) → slice_get xs l ≡ Some x → slice_set xs l x ≡ xs
set_self [] l x at = refl
set_self (y ∷ xs) zero x at = ap (λ z. z ∷ xs) (some_is x y (sym at))
set_self (y ∷ xs) (suc l) x at = ap (λ ys. y ∷ ys) (set_self xs l x at)

take_no : {A : Type 0} (xs : List A) → take 0 xs ≡ []
take_no [] = refl
take_no (x ∷ xs) = refl

pub take_whole : {A : Type 0} (xs : List A) → take (length xs) xs ≡ xs
take_whole [] = refl
take_whole (x ∷ xs) = ap (λ ys. x ∷ ys) (take_whole xs)

pub ahead_long : (counts : List ℕ) (links : List Link) (flows : List Flow) → length (each_ahead counts links flows) ≡ length flows
ahead_long [] links flows = refl
ahead_long (n ∷ counts) [] flows = refl
ahead_long (n ∷ counts) (link ∷ links) [] = refl
ahead_long (n ∷ counts) (link ∷ links) (flow ∷ flows) = ap suc (ahead_long counts links flows)

-- the flow of a link behind those that were changed is as before
pub prefix_same : (l : ℕ) (counts : List ℕ) (links : List Link) (flows : List Flow) → slice_get (each_ahead (take l counts) links flows) l ≡ slice_get flows l
prefix_same zero [] links flows = refl
prefix_same zero (n ∷ counts) links flows = refl
prefix_same (suc l) [] links flows = refl
prefix_same (suc l) (n ∷ counts) [] flows = refl
prefix_same (suc l) (n ∷ counts) (link ∷ links) [] = refl
prefix_same (suc l) (n ∷ counts) (link ∷ links) (flow ∷ flows) = prefix_same l counts links flows

-- one link more
pub prefix_more : (l : ℕ) (counts : List ℕ) (links : List Link) (flows : List Flow) (n : ℕ) (link : Link) (flow : Flow) → slice_get counts l ≡ Some n → slice_get links l ≡ Some link → slice_get flows l ≡ Some flow
    → each_ahead (take (suc l) counts) links flows ≡ slice_set (each_ahead (take l counts) links flows) l (ahead_by link n flow)
prefix_more zero [] links flows n link flow count at there = cc
prefix_more zero (m ∷ counts) [] flows n link flow count at there = cc
prefix_more zero (m ∷ counts) (k ∷ links) [] n link flow count at there = cc
prefix_more zero (m ∷ counts) (k ∷ links) (f ∷ flows) n link flow count at there =
    let m_is : m ≡ n = some_is m n count in
    let k_is : k ≡ link = some_is k link at in
    let f_is : f ≡ flow = some_is f flow there in
    ap (λ cs. ahead_by k m f ∷ each_ahead cs links flows) (take_no counts)
    ∙ ap (λ g. g ∷ flows) (ap (λ o. ahead_by o m f) k_is ∙ (ap (λ o. ahead_by link o f) m_is ∙ ap (ahead_by link n) f_is))
prefix_more (suc l) [] links flows n link flow count at there = cc
prefix_more (suc l) (m ∷ counts) [] flows n link flow count at there = cc
prefix_more (suc l) (m ∷ counts) (k ∷ links) [] n link flow count at there = cc
prefix_more (suc l) (m ∷ counts) (k ∷ links) (f ∷ flows) n link flow count at there =
    ap (λ fs. ahead_by k m f ∷ fs) (prefix_more l counts links flows n link flow count at there)

pub ahead_more : {X : Type 0} (net : Network X) (counts : List ℕ) (s : State X) (l n : ℕ) (link : Link) (flow : Flow) → slice_get counts l ≡ Some n → slice_get net.links l ≡ Some link → slice_get s.flows l ≡ Some flow
    → ahead net (take (suc l) counts) s ≡ ahead_on l n link flow (ahead net (take l counts) s)
ahead_more net counts s l n link flow count at there = ap (λ fs. record s { flows = fs }) (prefix_more l counts net.links s.flows n link flow count at there)

-- the flow of a link
pub ahead_at : (l : ℕ) (counts : List ℕ) (links : List Link) (flows : List Flow) (link : Link) (flow : Flow) → length counts ≡ length links → slice_get links l ≡ Some link → slice_get flows l ≡ Some flow
    → slice_get (each_ahead counts links flows) l ≡ Some (ahead_by link (slice_index_or counts l 0) flow)
ahead_at l [] [] flows link flow many at there = cc
ahead_at l [] (k ∷ links) flows link flow many at there = absurd (omega (arith, many))
ahead_at l (n ∷ counts) [] flows link flow many at there = cc
ahead_at l (n ∷ counts) (k ∷ links) [] link flow many at there = cc
ahead_at zero (n ∷ counts) (k ∷ links) (f ∷ flows) link flow many at there =
    ap Some (ap (λ o. ahead_by o n f) (some_is k link at) ∙ ap (ahead_by link n) (some_is f flow there))
ahead_at (suc l) (n ∷ counts) (k ∷ links) (f ∷ flows) link flow many at there = ahead_at l counts links flows link flow (omega (arith, many)) at there

-- a link that begins inside stays
pub ahead_beside : (l : ℕ) (counts : List ℕ) (links : List Link) (flows : List Flow) (link : Link) → slice_get links l ≡ Some link → is_input link ≡ false
    → slice_get (each_ahead counts links flows) l ≡ slice_get flows l
ahead_beside l [] links flows link at inner = refl
ahead_beside l (n ∷ counts) [] flows link at inner = refl
ahead_beside l (n ∷ counts) (k ∷ links) [] link at inner = refl
ahead_beside zero (n ∷ counts) (k ∷ links) (f ∷ flows) link at inner = ap Some (ahead_out k n f (ap is_input (some_is k link at) ∙ inner))
ahead_beside (suc l) (n ∷ counts) (k ∷ links) (f ∷ flows) link at inner = ahead_beside l counts links flows link at inner

pub ahead_set : (l : ℕ) (counts : List ℕ) (links : List Link) (flows : List Flow) (link : Link) (new : Flow) → slice_get links l ≡ Some link → is_input link ≡ false
    → each_ahead counts links (slice_set flows l new) ≡ slice_set (each_ahead counts links flows) l new
ahead_set l [] links flows link new at inner = refl
ahead_set l (n ∷ counts) [] flows link new at inner = refl
ahead_set l (n ∷ counts) (k ∷ links) [] link new at inner = refl
ahead_set zero (n ∷ counts) (k ∷ links) (f ∷ flows) link new at inner =
    ap (λ g. g ∷ each_ahead counts links flows) (ahead_out k n new (ap is_input (some_is k link at) ∙ inner))
ahead_set (suc l) (n ∷ counts) (k ∷ links) (f ∷ flows) link new at inner = ap (λ fs. ahead_by k n f ∷ fs) (ahead_set l counts links flows link new at inner)

-- a delivery over which so many tokens come, and nothing inside
pub delivered_all : (counts : List ℕ) (links : List Link) (flows : List Flow) → length counts ≡ length links → length flows ≡ length links
    → ((l : ℕ) (link : Link) (flow : Flow) → slice_get links l ≡ Some link → slice_get flows l ≡ Some flow → delivered link flow ≡ ahead_by link (slice_index_or counts l 0) flow)
    → each_flow delivered links flows ≡ each_ahead counts links flows
delivered_all [] [] [] many whole each = refl
delivered_all [] [] (flow ∷ flows) many whole each = absurd (omega (arith, whole))
delivered_all [] (link ∷ links) flows many whole each = absurd (omega (arith, many))
delivered_all (n ∷ counts) [] flows many whole each = absurd (omega (arith, many))
delivered_all (n ∷ counts) (link ∷ links) [] many whole each = absurd (omega (arith, whole))
delivered_all (n ∷ counts) (link ∷ links) (flow ∷ flows) many whole each =
    ap (λ f. f ∷ each_flow delivered links flows) (each 0 link flow refl refl)
    ∙ ap (λ fs. ahead_by link n flow ∷ fs) (delivered_all counts links flows (omega (arith, many)) (omega (arith, whole)) (λ l. each (suc l)))

-- a delivery behind what has arrived ahead of it is a delivery
pub after_ahead : {X : Type 0} (net : Network X) (counts : List ℕ) (s : State X) → length counts ≡ length net.links → length s.flows ≡ length net.links
    → ((l : ℕ) (link : Link) (flow : Flow) → slice_get net.links l ≡ Some link → slice_get s.flows l ≡ Some flow → delivered link (ahead_by link (slice_index_or counts l 0) flow) ≡ delivered link flow)
    → after_delivery net (ahead net counts s) ≡ after_delivery net s
after_ahead net counts s many whole same = ap (λ fs. record s { flows = fs })
    (each_same net.links s.flows (each_ahead counts net.links s.flows) whole (ahead_long counts net.links s.flows)
    (λ l link flow next at there here.
    let is : ahead_by link (slice_index_or counts l 0) flow ≡ next = some_is (ahead_by link (slice_index_or counts l 0) flow) next (sym (ahead_at l counts net.links s.flows link flow many at there) ∙ here) in
    ap (delivered link) (sym is) ∙ same l link flow at there))

-- The tokens of a stack.

down_length : (stack others : List ℤ) → length (down stack others) ≡ length stack + length others
down_length [] others = omega arith
down_length (token ∷ stack) others =
    let rest : length (down stack (token ∷ others)) ≡ length stack + length (token ∷ others) = down_length stack (token ∷ others) in
    omega (arith, rest)

down_drop : (stack others : List ℤ) → drop (length stack) (down stack others) ≡ others
down_drop [] others = refl
down_drop (token ∷ stack) others =
    let sum : length stack + 1 ≡ suc (length stack) = omega arith in
    ap (λ n. drop n (down stack (token ∷ others))) (sym sum) ∙ (sym (drop-drop 1 (length stack) (down stack (token ∷ others))) ∙ ap (drop 1) (down_drop stack (token ∷ others)))

-- once the tokens of a stack have arrived that are the next ones, the others are left; and they were sent
pub left_ahead : (flow : Flow) (stack others : List ℤ) → drop flow.arrived flow.sent ≡ down stack others → drop (flow.arrived + length stack) flow.sent ≡ others
left_ahead flow stack others next =
    sym (drop-drop (length stack) flow.arrived flow.sent) ∙ (ap (drop (length stack)) next ∙ down_drop stack others)

pub sent_ahead : (flow : Flow) (stack others : List ℤ) → flow.arrived ≤ length flow.sent → drop flow.arrived flow.sent ≡ down stack others → flow.arrived + length stack ≤ length flow.sent
sent_ahead flow stack others within next =
    let left : length flow.sent - flow.arrived ≡ length stack + length others = sym (length-drop flow.arrived flow.sent) ∙ (ap (λ us. length us) next ∙ down_length stack others) in
    omega (arith, left, within)
