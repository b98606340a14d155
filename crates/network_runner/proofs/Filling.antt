-- How far the input links were filled.
use Rattle.std.proofs.Common.{◌≡◌, ◌≢◌, ℕ, zero, suc, ◌+◌, ◌-◌, ◌<◌, ◌≤◌, true, List, [], ◌∷◌, length, map, take, refl, sym, ap, subst, ◌∙◌, ⊎_elim, arith}
use Rattle.std.specs.Prelude.{Option, None, Some, IfNone, IfSome, is_some, slice_get, slice_index_or, slice_set, if◌then◌else◌}
use Rattle.std.proofs.lemmas.Bool.{cases_eq, cases_lt}
use Rattle.std.proofs.lemmas.List.{length-set}
use Rattle.std.proofs.lemmas.Option.{slice_get-get_or, slice_get_within}
use Rattle.rvc_io.specs.Feeds.{Inputs, PullsOnlyAt}
use Rattle.port_files.specs.Coming.{EndIsTrue, Reading, coming}
use Rattle.net_model.specs.declared.wiring.Link.{Link}
use Rattle.net_model.specs.Network.{Network, is_input}
use Rattle.net_model.specs.State.{Flow, State}
use Rattle.net_model.specs.Event.{each_flow}
use Rattle.net_model.specs.Counted.{rest_at}
use Rattle.net_model.specs.Cell.{Cell, IsSameActor}
use Rattle.net_model.specs.Wired.{IsWired}
use Rattle.net_state.specs.declared.filling.Filled.{Filled}
use Rattle.net_state.specs.Filling.{AreToCome, IsInputLink}
use Rattle.net_state.specs.Held.{Held}
use Rattle.net_state.specs.Moving.{SameActors, SameMarks}
use Rattle.net_state.specs.Standing.{StandsSince, unarrived}
use Rattle.net_state.specs.Working.{AreFed, IsAtRest}
use Rattle.net_state.proofs.Gaining.{get_set_other, get_set_same, same_actor, some_is, there_too}
use Rattle.net_state.proofs.Coming.{by_bool, if_true, if_false}
use Rattle.net_state.proofs.Kept.{same_then}
use Rattle.round_runner.specs.Running.{AreFedBy, ComesBy, ComesNow, HasRest, count_inputs, feed_of}
use Rattle.network_runner.specs.Filling.{CameOn, Fills, FillsOne, IsFeedOf, IsFilledOn, IsFullOrAll, ReadersFit, SameOpen, after_inputs, input_delivered, kind_read, next_feed, with_flow}

-- Feeds are numbered upward.

count_more : (links : List Link) (l : ℕ) (link : Link) → slice_get links l ≡ Some link
    → count_inputs (take (suc l) links) ≡ (if is_input link then suc (count_inputs (take l links)) else count_inputs (take l links))
count_more [] l link at = cc
count_more (head ∷ links) zero link at = ap (λ k. if is_input k then suc 0 else 0) (some_is head link at)
count_more (head ∷ links) (suc l) link at = by_bool (is_input head)
    (λ yes.
    let here : count_inputs (take (suc (suc l)) (head ∷ links)) ≡ suc (count_inputs (take (suc l) links)) = if_true (is_input head) _ _ yes in
    let there : count_inputs (take (suc l) (head ∷ links)) ≡ suc (count_inputs (take l links)) = if_true (is_input head) _ _ yes in
    here ∙ (ap suc (count_more links l link at) ∙ (by_bool (is_input link)
    (λ in_. ap suc (if_true (is_input link) _ _ in_) ∙ (sym (if_true (is_input link) _ _ in_) ∙ ap (λ n. if is_input link then suc n else n) (sym there)))
    (λ out. ap suc (if_false (is_input link) _ _ out) ∙ (sym (if_false (is_input link) _ _ out) ∙ ap (λ n. if is_input link then suc n else n) (sym there))))))
    (λ no.
    let here : count_inputs (take (suc (suc l)) (head ∷ links)) ≡ count_inputs (take (suc l) links) = if_false (is_input head) _ _ no in
    let there : count_inputs (take (suc l) (head ∷ links)) ≡ count_inputs (take l links) = if_false (is_input head) _ _ no in
    here ∙ (count_more links l link at ∙ ap (λ n. if is_input link then suc n else n) (sym there)))

pub feed_next : (links : List Link) (l : ℕ) (link : Link) → slice_get links l ≡ Some link → feed_of links (suc l) ≡ next_feed (feed_of links l) link
feed_next links l link at = ap suc (count_more links l link at) ∙ by_bool (is_input link)
    (λ yes. ap suc (if_true (is_input link) _ _ yes) ∙ sym (if_true (is_input link) _ _ yes))
    (λ no. ap suc (if_false (is_input link) _ _ no) ∙ sym (if_false (is_input link) _ _ no))

beyond : {A : Type 0} (xs : List A) (l : ℕ) → length xs ≤ l → take (suc l) xs ≡ take l xs
beyond [] zero few = refl
beyond [] (suc l) few = refl
beyond (x ∷ xs) zero few = absurd (omega (arith, few))
beyond (x ∷ xs) (suc l) few = ap (λ ys. x ∷ ys) (beyond xs l (omega (arith, few)))

pub some_at : {A : Type 0} (xs : List A) (k : ℕ) → k < length xs → (x : A) × (slice_get xs k ≡ Some x)
some_at [] k low = absurd (omega (arith, low))
some_at (x ∷ xs) zero low = (x, refl)
some_at (x ∷ xs) (suc k) low = some_at xs k (omega (arith, low))

feed_grows : (links : List Link) (l : ℕ) → feed_of links l ≤ feed_of links (suc l)
feed_grows links l = ⊎_elim
    (λ low.
    let on = some_at links l low in
    let next : feed_of links (suc l) ≡ next_feed (feed_of links l) on.0 = feed_next links l on.0 on.1 in
    by_bool (is_input on.0)
    (λ yes. let is : next_feed (feed_of links l) on.0 ≡ suc (feed_of links l) = if_true (is_input on.0) _ _ yes in omega (arith, next, is))
    (λ no. let is : next_feed (feed_of links l) on.0 ≡ feed_of links l = if_false (is_input on.0) _ _ no in omega (arith, next, is)))
    (λ high. let same : feed_of links (suc l) ≡ feed_of links l = ap (λ ls. suc (count_inputs ls)) (beyond links l (omega (arith, high))) in omega (arith, same))
    (cases_lt l (length links))

feed_not_less : (links : List Link) (l more : ℕ) → feed_of links l ≤ feed_of links (l + more)
feed_not_less links l zero = subst (λ n. feed_of links l ≤ feed_of links n) (let e : l ≡ l + 0 = omega arith in e) (omega arith)
feed_not_less links l (suc more) =
    let before : feed_of links l ≤ feed_of links (l + more) = feed_not_less links l more in
    let step : feed_of links (l + more) ≤ feed_of links (suc (l + more)) = feed_grows links (l + more) in
    subst (λ n. feed_of links l ≤ feed_of links n) (let e : suc (l + more) ≡ l + suc more = omega arith in e) (omega (arith, before, step))

-- the feed of an input link is below those of the links behind it
pub feed_below : (links : List Link) (l m : ℕ) (link : Link) → l < m → slice_get links l ≡ Some link → is_input link ≡ true → feed_of links l < feed_of links m
feed_below links l m link low at input =
    let next : feed_of links (suc l) ≡ suc (feed_of links l) = feed_next links l link at ∙ if_true (is_input link) _ _ input in
    let rest : feed_of links (suc l) ≤ feed_of links (suc l + (m - suc l)) = feed_not_less links (suc l) (m - suc l) in
    let is : suc l + (m - suc l) ≡ m = omega (arith, low) in
    let there : feed_of links (suc l) ≤ feed_of links m = subst (λ n. feed_of links (suc l) ≤ feed_of links n) is rest in
    omega (arith, next, there)

pub feeds_differ : (links : List Link) (l m : ℕ) (link other : Link) → l ≢ m → slice_get links l ≡ Some link → slice_get links m ≡ Some other
    → is_input link ≡ true → is_input other ≡ true → feed_of links m ≢ feed_of links l
feeds_differ links l m link other differ at there input too = λ same. ⊎_elim
    (λ low. let less : feed_of links l < feed_of links m = feed_below links l m link low at input in omega (arith, less, same))
    (λ high. let less : feed_of links m < feed_of links l = feed_below links m l other (omega (arith, high, differ)) there too in omega (arith, less, same))
    (cases_lt l m)

-- Flows of which the first were filled.

abbrev pub fill_flows : ℕ → List Link → List Flow → List Flow
fill_flows n [] flows = flows
fill_flows n (link ∷ links) [] = []
fill_flows zero (link ∷ links) (flow ∷ flows) = flow ∷ flows
fill_flows (suc n) (link ∷ links) (flow ∷ flows) = input_delivered link flow ∷ fill_flows n links flows

none_filled : (links : List Link) (flows : List Flow) → fill_flows 0 links flows ≡ flows
none_filled [] flows = refl
none_filled (link ∷ links) [] = refl
none_filled (link ∷ links) (flow ∷ flows) = refl

all_filled : (n : ℕ) (links : List Link) (flows : List Flow) → length links ≤ n → length flows ≡ length links → fill_flows n links flows ≡ each_flow input_delivered links flows
all_filled n [] [] few same = refl
all_filled n [] (flow ∷ flows) few same = absurd (omega (arith, same))
all_filled n (link ∷ links) [] few same = refl
all_filled zero (link ∷ links) (flow ∷ flows) few same = absurd (omega (arith, few))
all_filled (suc n) (link ∷ links) (flow ∷ flows) few same =
    ap (λ fs. input_delivered link flow ∷ fs) (all_filled n links flows (omega (arith, few)) (omega (arith, same)))

-- the flow of a link that wasn't filled yet
pub ahead_filled : (n k : ℕ) (links : List Link) (flows : List Flow) → n ≤ k → slice_get (fill_flows n links flows) k ≡ slice_get flows k
ahead_filled n k [] flows high = refl
ahead_filled n k (link ∷ links) [] high = refl
ahead_filled zero k (link ∷ links) (flow ∷ flows) high = refl
ahead_filled (suc n) zero (link ∷ links) (flow ∷ flows) high = absurd (omega (arith, high))
ahead_filled (suc n) (suc k) (link ∷ links) (flow ∷ flows) high = ahead_filled n k links flows (omega (arith, high))

one_filled : (l : ℕ) (links : List Link) (flows : List Flow) (link : Link) (flow : Flow) → slice_get links l ≡ Some link → slice_get flows l ≡ Some flow
    → fill_flows (suc l) links flows ≡ slice_set (fill_flows l links flows) l (input_delivered link flow)
one_filled l [] flows link flow at there = cc
one_filled l (head ∷ links) [] link flow at there = cc
one_filled zero (head ∷ links) (first ∷ flows) link flow at there =
    ap (λ fs. input_delivered head first ∷ fs) (none_filled links flows)
    ∙ (ap (λ k. input_delivered k first ∷ flows) (some_is head link at) ∙ ap (λ f. input_delivered link f ∷ flows) (some_is first flow there))
one_filled (suc l) (head ∷ links) (first ∷ flows) link flow at there =
    ap (λ fs. input_delivered head first ∷ fs) (one_filled l links flows link flow at there)

abbrev pub filled_to : {X : Type 0} → ℕ → Network X → State X → State X
filled_to n net s = record s { flows = fill_flows n net.links s.flows }

pub record IsFillingOf {X : Type 0} (net : Network X) (inputs : List (List ℕ)) (s : State X) (l : ℕ) (held : Held (Cell X)) (readings : List (Option Reading)) (feeds : Inputs) (came : List Filled) : Type 0 where
  pub stands : StandsSince net held (filled_to l net s) (filled_to l net s)
  pub fed : AreFedBy net inputs (filled_to l net s) readings feeds
  pub all : (k : ℕ) (link : Link) (flow : Flow) → k < l → slice_get net.links k ≡ Some link
      → slice_get (filled_to l net s).flows k ≡ Some flow → is_input link ≡ true → IsFullOrAll flow
  pub told : (k : ℕ) → k < l → CameOn net.ins inputs (slice_get net.links k) (slice_get s.flows k) (slice_get came k)

pub record IsFilling {X : Type 0} (l feed : ℕ) (links : List Link) (old now : Held (Cell X)) (before readings : List (Option Reading)) (fo feeds : Inputs) (came_old came : List Filled) : Type 0 where
  pub feed_is : feed ≡ feed_of links l
  pub states : (net : Network X) (inputs : List (List ℕ)) (s : State X) → StandsSince net old s s → IsWired net → AreFedBy net inputs s before fo
      → IsFillingOf net inputs s l now readings feeds came
  pub rests : IsAtRest old → IsAtRest now
  pub fit : ReadersFit links readings feeds
  pub same_open : SameOpen fo feeds
  pub as_there : map is_some readings ≡ map is_some before
  pub kinds : map kind_read readings ≡ map kind_read before
  pub as_many : length came ≡ length came_old
  pub actors : SameActors old.cells now.cells
  pub marks : SameMarks old.cells now.cells
  pub links_are : now.links ≡ old.links
  pub capacities : now.capacities ≡ old.capacities
  pub waited : now.waited ≡ old.waited

-- Readers.

pub at_place : {A : Type 0} (xs : List A) (k : ℕ) (d x : A) → k < length xs → x ≡ slice_index_or xs k d → slice_get xs k ≡ Some x
at_place xs k d x low is = slice_get-get_or xs k d low ∙ ap Some (sym is)

pub for_reader : (P : Reading → Type 0) (o : Option Reading) (readings : List (Option Reading)) (l : ℕ) → slice_get readings l ≡ Some o
    → ((reading : Reading) → slice_get readings l ≡ Some (Some reading) → P reading) → IfSome o P
for_reader P None readings l at all = tt
for_reader P (Some reading) readings l at all = all reading at

is_input_link : (o : Option Link) (link : Link) → o ≡ Some link → is_input link ≡ true → IsInputLink o
is_input_link o link at input = subst IsInputLink (sym at) input

few_feeds : (links : List Link) (l : ℕ) → count_inputs (take l links) ≤ l
few_feeds [] zero = omega arith
few_feeds [] (suc l) = omega arith
few_feeds (link ∷ links) zero = omega arith
few_feeds (link ∷ links) (suc l) =
    let rest : count_inputs (take l links) ≤ l = few_feeds links l in
    by_bool (is_input link)
    (λ yes. let is : count_inputs (take (suc l) (link ∷ links)) ≡ suc (count_inputs (take l links)) = if_true (is_input link) _ _ yes in omega (arith, rest, is))
    (λ no. let is : count_inputs (take (suc l) (link ∷ links)) ≡ count_inputs (take l links) = if_false (is_input link) _ _ no in omega (arith, rest, is))

no_feeds : (links : List Link) → feed_of links 0 ≡ 1
no_feeds [] = refl
no_feeds (link ∷ links) = refl

some_again : {A : Type 0} (o p : Option A) (x : A) → is_some o ≡ is_some p → o ≡ Some x → (y : A) × (p ≡ Some y)
some_again (Some z) (Some y) x same is = (y, refl)
some_again (Some z) None x same is = cc
some_again None p x same is = cc

none_again : {A : Type 0} (o p : Option A) → is_some o ≡ is_some p → p ≡ None → o ≡ None
none_again None p same is = refl
none_again (Some z) None same is = cc
none_again (Some z) (Some y) same is = cc

from_some : {A : Type 0} (P : A → Type 0) (o : Option A) (x : A) → o ≡ Some x → IfSome o P → P x
from_some P (Some y) x is all = subst P (some_is y x is) all
from_some P None x is all = cc

from_none : {A : Type 0} (P : Type 0) (o : Option A) → o ≡ None → IfNone o P → P
from_none P None is all = all
from_none P (Some x) is all = cc

-- One link was filled: its reader and its feed may have changed.
module _ (links : List Link) (readings : List (Option Reading)) (fo fn : Inputs) (fit : ReadersFit links readings fo) (l feed : ℕ) (link : Link) (before after : Option Reading)
    (at : slice_get links l ≡ Some link) (there : slice_get readings l ≡ Some before) (feed_is : feed ≡ feed_of links l)
    (still : is_some after ≡ is_some before) (ends : IfSome after (λ reading. EndIsTrue reading (fn.left feed))) (unread : IfNone before (fn ≡ fo))
    (pulls : PullsOnlyAt feed fo fn) where
  abbrev now_readings : List (Option Reading)
  now_readings = slice_set readings l after

  now_here : slice_get now_readings l ≡ Some after
  now_here = get_set_same readings l before after there

  -- the feed of another input link is as it was
  left_stays : (k : ℕ) (other : Link) → k ≢ l → slice_get links k ≡ Some other → is_input other ≡ true → fn.left (feed_of links k) ≡ fo.left (feed_of links k)
  left_stays k other differ that input = by_option before refl
    where
      by_option : (o : Option Reading) → before ≡ o → fn.left (feed_of links k) ≡ fo.left (feed_of links k)
      by_option None is = ap (λ f. f.left (feed_of links k)) (from_none (fn ≡ fo) before is unread)
      by_option (Some reading) is =
          let here : is_input link ≡ true = fit.inputs l link reading at (there ∙ ap Some is) in
          pulls.same_left (feed_of links k) (λ same. feeds_differ links l k link other (λ e. differ (sym e)) at that here input (same ∙ feed_is))

  pub fit_now : ReadersFit links now_readings fn
  fit_now = record {
    count = length-set readings l after ∙ fit.count;
    inputs = λ k other reading that is. ⊎_elim
        (λ same.
        let here : after ≡ Some reading = some_is after (Some reading) (sym now_here ∙ (ap (slice_get now_readings) (sym same) ∙ is)) in
        let was = some_again after before reading still here in
        let link_is : link ≡ other = some_is link other (sym at ∙ (ap (slice_get links) (sym same) ∙ that)) in
        ap is_input (sym link_is) ∙ fit.inputs l link was.0 at (there ∙ ap Some was.1))
        (λ differ. fit.inputs k other reading that (sym (get_set_other readings k l after differ) ∙ is))
        (cases_eq k l);
    open_feeds = λ k reading is. ⊎_elim
        (λ same.
        let here : after ≡ Some reading = some_is after (Some reading) (sym now_here ∙ (ap (slice_get now_readings) (sym same) ∙ is)) in
        let was = some_again after before reading still here in
        subst (λ m. fn.is_open (feed_of links m) ≡ true) (sym same)
        (pulls.same_open (feed_of links l) ∙ fit.open_feeds l was.0 (there ∙ ap Some was.1)))
        (λ differ. pulls.same_open (feed_of links k) ∙ fit.open_feeds k reading (sym (get_set_other readings k l after differ) ∙ is))
        (cases_eq k l);
    same_feeds = λ k reading is. ⊎_elim
        (λ same.
        let here : after ≡ Some reading = some_is after (Some reading) (sym now_here ∙ (ap (slice_get now_readings) (sym same) ∙ is)) in
        subst (λ m. EndIsTrue reading (fn.left (feed_of links m))) (sym same)
        (subst (λ f. EndIsTrue reading (fn.left f)) feed_is (from_some (λ r. EndIsTrue r (fn.left feed)) after reading here ends)))
        (λ differ.
        let was : slice_get readings k ≡ Some (Some reading) = sym (get_set_other readings k l after differ) ∙ is in
        let low : k < length links = subst (λ n. k < n) fit.count (slice_get_within readings k (Some reading) was) in
        let on = some_at links k low in
        subst (EndIsTrue reading) (sym (left_stays k on.0 differ on.1 (fit.inputs k on.0 reading on.1 was))) (fit.same_feeds k reading was))
        (cases_eq k l);
  }

  -- what is to come on another link stays
  comes_same : {X : Type 0} (s t : State X) (k f rest : ℕ) (other : Link) (o : Option (Option Reading)) → slice_get t.flows k ≡ slice_get s.flows k → fn.left f ≡ fo.left f
      → ComesBy s k other f rest o fo → ComesBy t k other f rest o fn
  comes_same s t k f rest other None same left comes = absurd comes
  comes_same s t k f rest other (Some None) same left comes = (ap unarrived same ∙ comes.0, comes.1)
  comes_same s t k f rest other (Some (Some reading)) same left comes = (
    (comes.0.0, subst (λ bytes. AreToCome reading.kind (coming reading.pulled bytes) comes.0.0) (sym left) comes.0.1, ap unarrived same ∙ comes.0.2),
    subst (λ bytes. HasRest reading.kind rest (coming reading.pulled bytes)) (sym left) comes.1,
  )

  module _ {X : Type 0} (old new : Held (Cell X)) (filled : Filled) (fills : FillsOne l feed old new before after fo fn filled) (came : List Filled) (low_came : l < length came)
      (net : Network X) (inputs : List (List ℕ)) (s : State X) (links_are : net.links ≡ links) (flow : Flow) (flow_at : slice_get s.flows l ≡ Some flow) (wired : IsWired net)
      (so_far : IsFillingOf net inputs s l old readings fo came) where
    at_net : slice_get net.links l ≡ Some link
    at_net = ap (λ ls. slice_get ls l) links_are ∙ at

    abbrev t : State X
    t = filled_to l net s

    flow_there : slice_get t.flows l ≡ Some flow
    flow_there = ahead_filled l l net.links s.flows (omega arith) ∙ flow_at

    abbrev rest_of_link : Link → ℕ
    rest_of_link that = rest_at net.ins inputs that.from

    comes_here : is_input link ≡ true → ComesNow t l link feed (rest_of_link link) before fo
    comes_here input =
        subst (λ f. ComesNow t l link f (rest_of_link link) before fo) (ap (λ ls. feed_of ls l) links_are ∙ sym feed_is)
        (subst (λ o. ComesBy t l link (feed_of net.links l) (rest_of_link link) o fo) there (so_far.fed l link at_net input))

    one : IsFilledOn net t l feed (rest_of_link link) link flow new after fn filled
    one = fills.states net t (rest_of_link link) link flow so_far.stands wired at_net flow_there comes_here

    abbrev next : State X
    next = with_flow t l (input_delivered link flow)

    next_is : next ≡ filled_to (suc l) net s
    next_is = ap (λ flows. record s { flows = flows }) (sym (one_filled l net.links s.flows link flow at_net flow_at))

    next_here : slice_get next.flows l ≡ Some (input_delivered link flow)
    next_here = get_set_same t.flows l flow (input_delivered link flow) flow_there

    next_other : (k : ℕ) → k ≢ l → slice_get next.flows k ≡ slice_get t.flows k
    next_other k differ = get_set_other t.flows k l (input_delivered link flow) differ

    link_same : (k : ℕ) (other : Link) → k ≡ l → slice_get net.links k ≡ Some other → link ≡ other
    link_same k other same that = some_is link other (sym at_net ∙ (ap (slice_get net.links) (sym same) ∙ that))

    fed_next : AreFedBy net inputs next now_readings fn
    fed_next = λ k other that input. ⊎_elim
        (λ same.
        let link_is = link_same k other same that in
        let here : ComesNow next l link feed (rest_of_link link) after fn = one.fed (ap is_input link_is ∙ input) in
        subst (λ m. ComesBy next m other (feed_of net.links m) (rest_of_link other) (slice_get now_readings m) fn) (sym same)
        (subst (λ o. ComesBy next l other (feed_of net.links l) (rest_of_link other) o fn) (sym now_here)
        (subst (λ f. ComesNow next l other f (rest_of_link other) after fn) (feed_is ∙ ap (λ ls. feed_of ls l) (sym links_are))
        (subst (λ k2. ComesNow next l k2 feed (rest_of_link k2) after fn) link_is here))))
        (λ differ.
        subst (λ o. ComesBy next k other (feed_of net.links k) (rest_of_link other) o fn) (sym (get_set_other readings k l after differ))
        (comes_same t next k (feed_of net.links k) (rest_of_link other) other (slice_get readings k) (next_other k differ)
        (subst (λ ls. fn.left (feed_of ls k) ≡ fo.left (feed_of ls k)) (sym links_are) (left_stays k other differ (ap (λ ls. slice_get ls k) (sym links_are) ∙ that) input))
        (so_far.fed k other that input)))
        (cases_eq k l)

    all_next : (k : ℕ) (other : Link) (there_now : Flow) → k < suc l → slice_get net.links k ≡ Some other → slice_get next.flows k ≡ Some there_now
        → is_input other ≡ true → IsFullOrAll there_now
    all_next k other there_now low that is input = ⊎_elim
        (λ same.
        let link_is = link_same k other same that in
        let flow_is : input_delivered link flow ≡ there_now = some_is _ there_now (sym next_here ∙ (ap (slice_get next.flows) (sym same) ∙ is)) in
        subst IsFullOrAll flow_is (one.all (ap is_input link_is ∙ input)))
        (λ differ. so_far.all k other there_now (omega (arith, low, differ)) that (sym (next_other k differ) ∙ is) input)
        (cases_eq k l)

    told_next : (k : ℕ) → k < suc l → CameOn net.ins inputs (slice_get net.links k) (slice_get s.flows k) (slice_get (slice_set came l filled) k)
    told_next k low = ⊎_elim
        (λ same.
        let came_here : slice_get (slice_set came l filled) l ≡ Some filled = get_set_same came l (some_at came l low_came).0 filled (some_at came l low_came).1 in
        subst (λ m. CameOn net.ins inputs (slice_get net.links m) (slice_get s.flows m) (slice_get (slice_set came l filled) m)) (sym same)
        (subst (λ o. CameOn net.ins inputs o (slice_get s.flows l) (slice_get (slice_set came l filled) l)) (sym at_net)
        (subst (λ o. CameOn net.ins inputs (Some link) (slice_get s.flows l) o) (sym came_here)
        (subst (λ o. CameOn net.ins inputs (Some link) o (Some filled)) (sym flow_at) (one.told, one.none_told)))))
        (λ differ. subst (CameOn net.ins inputs (slice_get net.links k) (slice_get s.flows k)) (sym (get_set_other came k l filled differ)) (so_far.told k (omega (arith, low, differ))))
        (cases_eq k l)

    pub filling_next : IsFillingOf net inputs s (suc l) new now_readings fn (slice_set came l filled)
    filling_next = record {
      stands = subst (λ u. StandsSince net new u u) next_is one.stands;
      fed = subst (λ u. AreFedBy net inputs u now_readings fn) next_is fed_next;
      all = subst (λ u. (k : ℕ) (other : Link) (there_now : Flow) → k < suc l → slice_get net.links k ≡ Some other → slice_get u.flows k ≡ Some there_now
          → is_input other ≡ true → IsFullOrAll there_now) next_is all_next;
      told = told_next;
    }

-- All links.

pub marks_then : {X : Type 0} (a b c : List (Cell X)) → length b ≡ length a → SameMarks a b → SameMarks b c → SameMarks a c
marks_then a b c count first second = λ i before after was is.
    let mid = there_too a b i before (sym count) was in
    second i mid.0 after mid.1 is ∙ first i before mid.0 was mid.1

pub filling_starts : {X : Type 0} (links : List Link) (held : Held (Cell X)) (readings : List (Option Reading)) (feeds : Inputs) (came : List Filled)
    → ReadersFit links readings feeds → IsFilling 0 1 links held held readings readings feeds feeds came came
filling_starts links held readings feeds came fit = record {
  feed_is = sym (no_feeds links);
  states = λ net inputs s stands wired fed.
      let same : s ≡ filled_to 0 net s = ap (λ flows. record s { flows = flows }) (sym (none_filled net.links s.flows)) in
      record {
        stands = subst (λ t. StandsSince net held t t) same stands;
        fed = subst (λ t. AreFedBy net inputs t readings feeds) same fed;
        all = λ k link flow low at there input. absurd (omega (arith, low));
        told = λ k low. absurd (omega (arith, low));
      };
  rests = λ rest. rest;
  fit = fit;
  same_open = record { same_names = λ name. refl; same_first = refl; same_open = λ feed. refl; faults_stay = omega arith };
  as_there = refl;
  kinds = refl;
  as_many = refl;
  actors = record { count = refl; each = λ i before after was is. subst (IsSameActor before) (some_is before after (sym was ∙ is)) (same_actor before) };
  marks = λ i before after was is. ap (λ cell. cell.trapped) (some_is after before (sym is ∙ was));
  links_are = refl;
  capacities = refl;
  waited = refl;
}

-- there is a reader where there was one
still_there : (readings : List (Option Reading)) (l : ℕ) (reader after : Option Reading) → slice_get readings l ≡ Some reader → is_some after ≡ is_some reader
    → map is_some (slice_set readings l after) ≡ map is_some readings
still_there [] l reader after at same = refl
still_there (first ∷ readings) zero reader after at same = ap (λ b. b ∷ map is_some readings) (same ∙ ap is_some (sym (some_is first reader at)))
still_there (first ∷ readings) (suc l) reader after at same = ap (λ bs. is_some first ∷ bs) (still_there readings l reader after at same)

-- and it reads tokens of the same type
still_kinds : (readings : List (Option Reading)) (l : ℕ) (reader after : Option Reading) → slice_get readings l ≡ Some reader → kind_read after ≡ kind_read reader
    → map kind_read (slice_set readings l after) ≡ map kind_read readings
still_kinds [] l reader after at same = refl
still_kinds (first ∷ readings) zero reader after at same = ap (λ k. k ∷ map kind_read readings) (same ∙ ap kind_read (sym (some_is first reader at)))
still_kinds (first ∷ readings) (suc l) reader after at same = ap (λ ks. kind_read first ∷ ks) (still_kinds readings l reader after at same)

opens_then : (feed : ℕ) (a b c : Inputs) → 0 ≢ feed → SameOpen a b → PullsOnlyAt feed b c → SameOpen a c
opens_then feed a b c other so_far pulls = record {
  same_names = λ name. pulls.same_names name ∙ so_far.same_names name;
  same_first = pulls.same_left 0 other ∙ so_far.same_first;
  same_open = λ other. pulls.same_open other ∙ so_far.same_open other;
  faults_stay = (let first = so_far.faults_stay in let second = pulls.faults_stay in omega (arith, first, second));
}

module _ {X : Type 0} (l feed : ℕ) (links : List Link) (old now new : Held (Cell X)) (before readings : List (Option Reading)) (fo feeds fn : Inputs) (came_old came : List Filled)
    (so_far : IsFilling l feed links old now before readings fo feeds came_old came) (low : l < length links) (reader : Option Reading) (there : slice_get readings l ≡ Some reader) where
  pub may_input : links ≡ old.links → IfSome reader (λ reading. IsInputLink (slice_get now.links l))
  may_input links_is = for_reader (λ reading. IsInputLink (slice_get now.links l)) reader readings l there (λ reading is.
      let on = some_at links l low in
      is_input_link (slice_get now.links l) on.0 (ap (λ ls. slice_get ls l) (so_far.links_are ∙ sym links_is) ∙ on.1) (so_far.fit.inputs l on.0 reading on.1 is))

  pub may_open : IfSome reader (λ reading. feeds.is_open feed ≡ true)
  may_open = for_reader (λ reading. feeds.is_open feed ≡ true) reader readings l there (λ reading is.
      subst (λ f. feeds.is_open f ≡ true) (sym so_far.feed_is) (so_far.fit.open_feeds l reading is))

  pub may_read : IfSome reader (λ reading. EndIsTrue reading (feeds.left feed))
  may_read = for_reader (λ reading. EndIsTrue reading (feeds.left feed)) reader readings l there (λ reading is.
      subst (λ f. EndIsTrue reading (feeds.left f)) (sym so_far.feed_is) (so_far.fit.same_feeds l reading is))

  pub few_now : length links ≤ 4096 → feed ≤ 4096
  few_now few = (let most : count_inputs (take l links) ≤ l = few_feeds links l in let is : feed ≡ suc (count_inputs (take l links)) = so_far.feed_is in omega (arith, most, is, few, low))

  module _ (after : Option Reading) (still : is_some after ≡ is_some reader) (ends : IfSome after (λ reading. EndIsTrue reading (fn.left feed))) (unread : IfNone reader (fn ≡ feeds))
      (pulls : PullsOnlyAt feed feeds fn) where
    -- the feed of a link that has a reader
    pub feed_was : is_some reader ≡ true → IsFeedOf links (slice_set readings l after) feed
    feed_was some = by_option after refl (still ∙ some)
      where
        by_option : (o : Option Reading) → after ≡ o → is_some o ≡ true → IsFeedOf links (slice_set readings l after) feed
        by_option None is said = cc
        by_option (Some reading) is said = (l, reading, get_set_same readings l reader after there ∙ ap Some is, so_far.feed_is)

    pub fit_after : ReadersFit links (slice_set readings l after) fn
    fit_after =
        let on = some_at links l low in
        fit_now links readings feeds fn so_far.fit l feed on.0 reader after on.1 there so_far.feed_is still ends unread pulls

    pub there_after : map is_some (slice_set readings l after) ≡ map is_some before
    there_after = still_there readings l reader after there still ∙ so_far.as_there

    pub kinds_after : kind_read after ≡ kind_read reader → map kind_read (slice_set readings l after) ≡ map kind_read before
    kinds_after same = still_kinds readings l reader after there same ∙ so_far.kinds

    pub open_after : SameOpen fo fn
    open_after = opens_then feed fo feeds fn (λ first. (let is : feed ≡ suc (count_inputs (take l links)) = so_far.feed_is in omega (arith, first, is))) so_far.same_open pulls

    module _ (same : SameActors now.cells new.cells) (marks : SameMarks now.cells new.cells) where
      pub actors_after : SameActors old.cells new.cells
      actors_after = same_then old.cells now.cells new.cells so_far.actors same

      pub marks_after : SameMarks old.cells new.cells
      marks_after = marks_then old.cells now.cells new.cells so_far.actors.count so_far.marks marks

      pub filling_more : (filled : Filled) → FillsOne l feed now new reader after feeds fn filled → links ≡ old.links → length came_old ≡ length links
          → new.links ≡ now.links → new.capacities ≡ now.capacities → new.waited ≡ now.waited
          → (d : Link) (next : ℕ) → next ≡ next_feed feed (slice_index_or links l d) → kind_read after ≡ kind_read reader
          → IsFilling (l + 1) next links old new before (slice_set readings l after) fo fn came_old (slice_set came l filled)
      filling_more filled fills links_is as_many same_links same_capacities same_waited d next next_is same_kind =
          let link = slice_index_or links l d in
          let at : slice_get links l ≡ Some link = at_place links l d link low refl in
          record {
            feed_is = next_is ∙ (ap (λ f. next_feed f link) so_far.feed_is ∙ (sym (feed_next links l link at) ∙ ap (feed_of links) (let e : suc l ≡ l + 1 = omega arith in e)));
            states = λ net inputs s stands wired fed.
                let links_of_net : net.links ≡ links = stands.now.is_of.links_are ∙ sym links_is in
                let whole : length s.flows ≡ length net.links = stands.now.stands.flows.count in
                let flow = some_at s.flows l (subst (λ n. l < n) (sym (whole ∙ ap (λ ls. length ls) links_of_net)) low) in
                let low_came : l < length came = subst (λ n. l < n) (sym (so_far.as_many ∙ as_many)) low in
                subst (λ n. IsFillingOf net inputs s n new (slice_set readings l after) fn (slice_set came l filled)) (let e : suc l ≡ l + 1 = omega arith in e)
                (filling_next links readings feeds fn so_far.fit l feed link reader after at there so_far.feed_is still ends unread pulls now new filled fills came low_came
                net inputs s links_of_net flow.0 flow.1 wired (so_far.states net inputs s stands wired fed));
            rests = λ rest. fills.rests (so_far.rests rest);
            fit = fit_after;
            same_open = open_after;
            as_there = there_after;
            kinds = kinds_after same_kind;
            as_many = length-set came l filled ∙ so_far.as_many;
            actors = actors_after;
            marks = marks_after;
            links_are = same_links ∙ so_far.links_are;
            capacities = same_capacities ∙ so_far.capacities;
            waited = same_waited ∙ so_far.waited;
          }

none_beyond : {A : Type 0} (xs : List A) (k : ℕ) → length xs ≤ k → slice_get xs k ≡ None
none_beyond [] k few = refl
none_beyond (x ∷ xs) zero few = absurd (omega (arith, few))
none_beyond (x ∷ xs) (suc k) few = none_beyond xs k (omega (arith, few))

pub filling_all : {X : Type 0} (l feed : ℕ) (links : List Link) (old now : Held (Cell X)) (before readings : List (Option Reading)) (fo feeds : Inputs) (came_old came : List Filled)
    → IsFilling l feed links old now before readings fo feeds came_old came → links ≡ old.links → length links ≤ l → Fills old now before readings fo feeds came
filling_all {X} l feed links old now before readings fo feeds came_old came so_far links_is all = record {
  states = λ net inputs s stands wired fed.
      let here : IsFillingOf net inputs s l now readings feeds came = so_far.states net inputs s stands wired fed in
      let few : length net.links ≤ l = subst (λ ls. length ls ≤ l) (sym (stands.now.is_of.links_are ∙ sym links_is)) all in
      let same : filled_to l net s ≡ after_inputs net s = ap (λ flows. record s { flows = flows }) (all_filled l net.links s.flows few stands.now.stands.flows.count) in
      record {
        stands = subst (λ t. StandsSince net now t t) same here.stands;
        fed = subst (λ t. AreFedBy net inputs t readings feeds) same here.fed;
        all = subst (λ t. AreFed net t) same
            (λ k link flow at there input. here.all k link flow (below net.links k link at few) at there input);
        told = λ k. ⊎_elim
            (λ low. here.told k low)
            (λ high. subst (λ o. CameOn net.ins inputs o (slice_get s.flows k) (slice_get came k)) (sym (none_beyond net.links k (omega (arith, high, few)))) tt)
            (cases_lt k l);
      };
  rests = so_far.rests;
}
  where
    below : (xs : List Link) (k : ℕ) (x : Link) → slice_get xs k ≡ Some x → length xs ≤ l → k < l
    below xs k x at few = (let low : k < length xs = slice_get_within xs k x at in omega (arith, low, few))
