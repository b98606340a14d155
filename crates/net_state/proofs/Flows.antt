-- Flows of links at their places.
use Rattle.std.proofs.Common.{◌≡◌, ℕ, zero, suc, ◌≤◌, true, false, List, [], ◌∷◌, ℤ, length, take, refl, sym, ap, ◌-◌, ◌∙◌, arith, length-drop}
use Rattle.std.specs.Prelude.{Some, slice_get, slice_set, if◌then◌else◌}
use Rattle.std.proofs.lemmas.List.{length-take-le}
use Rattle.net_model.specs.declared.wiring.Link.{Link}
use Rattle.net_model.specs.Network.{is_leaf_port}
use Rattle.net_model.specs.State.{Flow, waiting, inbox}
use Rattle.net_model.specs.Event.{each_flow}
use Rattle.net_state.specs.Moving.{AreApart}
use Rattle.net_state.proofs.Gaining.{some_is}
use Rattle.net_state.proofs.Coming.{by_bool, if_true, if_false, is_that_port}

-- the flow at a place was changed from the one that was there
pub record WasChanged (change : Link → Flow → Flow) (links : List Link) (flows : List Flow) (l : ℕ) (new : Flow) : Type 0 where
  pub link : Link
  pub flow : Flow
  pub at_link : slice_get links l ≡ Some link
  pub at_flow : slice_get flows l ≡ Some flow
  pub is : new ≡ change link flow

pub changed_at : (change : Link → Flow → Flow) (links : List Link) (flows : List Flow) (l : ℕ) (new : Flow)
    → slice_get (each_flow change links flows) l ≡ Some new → WasChanged change links flows l new
changed_at change [] flows l new h = cc
changed_at change (link ∷ links) [] l new h = cc
changed_at change (link ∷ links) (flow ∷ flows) zero new h =
    record { link = link; flow = flow; at_link = refl; at_flow = refl; is = sym (some_is (change link flow) new h) }
changed_at change (link ∷ links) (flow ∷ flows) (suc l) new h =
    let was = changed_at change links flows l new h in
    record { link = was.link; flow = was.flow; at_link = was.at_link; at_flow = was.at_flow; is = was.is }

pub changed_so : (change : Link → Flow → Flow) (links : List Link) (flows : List Flow) (l : ℕ) (link : Link) (flow : Flow)
    → slice_get links l ≡ Some link → slice_get flows l ≡ Some flow → slice_get (each_flow change links flows) l ≡ Some (change link flow)
changed_so change [] flows l link flow at there = cc
changed_so change (head ∷ links) [] l link flow at there = cc
changed_so change (head ∷ links) (first ∷ flows) zero link flow at there = ap (λ k. Some (change k first)) (some_is head link at) ∙ ap (λ f. Some (change link f)) (some_is first flow there)
changed_so change (head ∷ links) (first ∷ flows) (suc l) link flow at there = changed_so change links flows l link flow at there

pub changed_count : (change : Link → Flow → Flow) (links : List Link) (flows : List Flow) → length flows ≡ length links
    → length (each_flow change links flows) ≡ length links
changed_count change [] flows h = refl
changed_count change (link ∷ links) [] h = absurd (omega (arith, h))
changed_count change (link ∷ links) (flow ∷ flows) h = ap suc (changed_count change links flows (omega (arith, h)))

-- how many tokens wait
pub length_waiting : (flow : Flow) → flow.arrived ≤ length flow.sent → length (waiting flow) ≡ flow.arrived - flow.taken
length_waiting flow within =
    let len : length (take flow.arrived flow.sent) ≡ flow.arrived = length-take-le flow.arrived flow.sent within in
    length-drop flow.taken (take flow.arrived flow.sent) ∙ ap (λ n. n - flow.taken) len

-- The tokens before a port.

-- those that wait on the link that leads there
pub inbox_at : (i p : ℕ) (links : List Link) (flows : List Flow) (l : ℕ) (link : Link) (flow : Flow) → AreApart links
    → slice_get links l ≡ Some link → slice_get flows l ≡ Some flow → is_leaf_port i p link.to ≡ true → inbox i p links flows ≡ waiting flow
inbox_at i p [] flows l link flow apart at there leads = cc
inbox_at i p (head ∷ links) [] l link flow apart at there leads = cc
inbox_at i p (head ∷ links) (first ∷ flows) zero link flow apart at there leads =
    if_true (is_leaf_port i p head.to) (waiting first) (inbox i p links flows) (ap (λ k. is_leaf_port i p k.to) (some_is head link at) ∙ leads)
    ∙ ap waiting (some_is first flow there)
inbox_at i p (head ∷ links) (first ∷ flows) (suc l) link flow apart at there leads =
    if_false (is_leaf_port i p head.to) (waiting first) (inbox i p links flows)
    (by_bool (is_leaf_port i p head.to)
    (λ too. absurd (apart zero (suc l) head link (omega arith) refl at (is_that_port i p head.to too ∙ sym (is_that_port i p link.to leads))))
    (λ none. none))
    ∙ inbox_at i p links flows l link flow (λ m n that other low. apart (suc m) (suc n) that other (omega (arith, low))) at there leads

-- a change of one flow isn't seen before another port
pub inbox_beside : (i p : ℕ) (links : List Link) (flows : List Flow) (l : ℕ) (link : Link) (new : Flow)
    → slice_get links l ≡ Some link → is_leaf_port i p link.to ≡ false → inbox i p links (slice_set flows l new) ≡ inbox i p links flows
inbox_beside i p [] flows l link new at leads = cc
inbox_beside i p (head ∷ links) [] l link new at leads = refl
inbox_beside i p (head ∷ links) (first ∷ flows) zero link new at leads =
    let not_here : is_leaf_port i p head.to ≡ false = ap (λ k. is_leaf_port i p k.to) (some_is head link at) ∙ leads in
    if_false (is_leaf_port i p head.to) (waiting new) (inbox i p links flows) not_here
    ∙ sym (if_false (is_leaf_port i p head.to) (waiting first) (inbox i p links flows) not_here)
inbox_beside i p (head ∷ links) (first ∷ flows) (suc l) link new at leads =
    ap (λ ts. if is_leaf_port i p head.to then waiting first else ts) (inbox_beside i p links flows l link new at leads)

-- a change of all flows that does the same to what waits on the links that lead to a port
pub inbox_changed : (f : List ℤ → List ℤ) (i p : ℕ) (change : Link → Flow → Flow) (links : List Link) (flows : List Flow) → f [] ≡ []
    → ((l : ℕ) (link : Link) (flow : Flow) → slice_get links l ≡ Some link → slice_get flows l ≡ Some flow → is_leaf_port i p link.to ≡ true
    → waiting (change link flow) ≡ f (waiting flow))
    → inbox i p links (each_flow change links flows) ≡ f (inbox i p links flows)
inbox_changed f i p change [] flows none same = sym none
inbox_changed f i p change (link ∷ links) [] none same = sym none
inbox_changed f i p change (link ∷ links) (flow ∷ flows) none same =
    by_bool (is_leaf_port i p link.to)
    (λ leads.
    if_true (is_leaf_port i p link.to) (waiting (change link flow)) (inbox i p links (each_flow change links flows)) leads
    ∙ (same zero link flow refl refl leads
    ∙ ap f (sym (if_true (is_leaf_port i p link.to) (waiting flow) (inbox i p links flows) leads))))
    (λ leads.
    if_false (is_leaf_port i p link.to) (waiting (change link flow)) (inbox i p links (each_flow change links flows)) leads
    ∙ (inbox_changed f i p change links flows none (λ l. same (suc l))
    ∙ ap f (sym (if_false (is_leaf_port i p link.to) (waiting flow) (inbox i p links flows) leads))))

-- what is the same of what waits on the links that lead to a port is the same of what is before it
pub inbox_alike : {A : Type 0} (g : List ℤ → A) (i p : ℕ) (links : List Link) (flows others : List Flow) → length others ≡ length flows
    → ((l : ℕ) (link : Link) (flow other : Flow) → slice_get links l ≡ Some link → slice_get flows l ≡ Some flow → slice_get others l ≡ Some other
    → is_leaf_port i p link.to ≡ true → g (waiting other) ≡ g (waiting flow))
    → g (inbox i p links others) ≡ g (inbox i p links flows)
inbox_alike g i p [] flows others count same = refl
inbox_alike g i p (link ∷ links) [] [] count same = refl
inbox_alike g i p (link ∷ links) [] (other ∷ others) count same = absurd (omega (arith, count))
inbox_alike g i p (link ∷ links) (flow ∷ flows) [] count same = absurd (omega (arith, count))
inbox_alike g i p (link ∷ links) (flow ∷ flows) (other ∷ others) count same =
    by_bool (is_leaf_port i p link.to)
    (λ leads.
    ap g (if_true (is_leaf_port i p link.to) (waiting other) (inbox i p links others) leads)
    ∙ (same zero link flow other refl refl refl leads
    ∙ ap g (sym (if_true (is_leaf_port i p link.to) (waiting flow) (inbox i p links flows) leads))))
    (λ leads.
    ap g (if_false (is_leaf_port i p link.to) (waiting other) (inbox i p links others) leads)
    ∙ (inbox_alike g i p links flows others (omega (arith, count)) (λ l. same (suc l))
    ∙ ap g (sym (if_false (is_leaf_port i p link.to) (waiting flow) (inbox i p links flows) leads))))
