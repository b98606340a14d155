-- What lies on stacks is put back, and taken back, link by link.
use Rattle.std.proofs.Common.{◌≡◌, ◌≢◌, ℕ, zero, suc, ◌+◌, ◌<◌, ◌≤◌, true, false, List, [], ◌∷◌, ℤ, length, take, drop, min, refl, sym, ap, subst, ◌∙◌, ⊎_elim, arith}
use Rattle.std.specs.Prelude.{Some, slice_get, slice_set, slice_index_or, if◌then◌else◌}
use Rattle.std.proofs.lemmas.Bool.{cases_eq}
use Rattle.std.proofs.lemmas.List.{length-map, length-set}
use Rattle.token_ring.specs.Queue.{Queue}
use Rattle.net_model.specs.declared.wiring.Link.{Link}
use Rattle.net_model.specs.Network.{Network, is_input}
use Rattle.net_model.specs.State.{Flow, State, untaken}
use Rattle.net_model.specs.Event.{after_arrival}
use Rattle.net_model.specs.Cell.{Cell}
use Rattle.net_model.specs.Wired.{IsWired}
use Rattle.net_state.specs.Filling.{IsInputLink}
use Rattle.net_state.specs.Held.{Held}
use Rattle.net_state.specs.Standing.{StandsIn, unarrived}
use Rattle.net_state.specs.TakingBack.{PutsAll, TakesAll, WaitElsewhere, down, waits_on, with_arrivals}
use Rattle.net_state.specs.Working.{IsAtRest}
use Rattle.net_state.proofs.Gaining.{get_set_other, get_set_same, some_is, there_too}
use Rattle.net_state.proofs.Kept.{same_then}
use Rattle.net_state.proofs.Surveying.{same_all}
use Rattle.network_runner.proofs.Begun.{map_at, map_index}
use Rattle.net_state.specs.declared.filling.Filled.{Filled}
use Rattle.trace_replay.specs.Holding.{AreEmpty, ComeNext, CountsOnePut, CountsPut, FitStacks, FitsStack, IsBehind, KeepsRest, MayBeAhead, PutsEach, PutsOne, TakesEach, TakesOne, ahead, ahead_on, counts_of, rooms_of, tokens_of_stacks}
use Rattle.trace_replay.proofs.Ahead.{ahead_in, ahead_more, ahead_none, ahead_out, prefix_same, set_self, take_whole}
use Rattle.trace_replay.proofs.Chained.{There, is_low, low_there, there}
use Rattle.trace_replay.proofs.Waits.{inside_input, waits_untaken}

-- What stays.

pub keeps_none : {X : Type 0} (held : Held (Cell X)) → KeepsRest held held
keeps_none held = record {
  actors = same_all held.cells;
  marks = λ i before after was is. ap (λ cell. cell.trapped) (some_is after before (sym is ∙ was));
  links = refl;
  capacities = refl;
  waited = refl;
}

pub keeps_then : {X : Type 0} (a b c : Held (Cell X)) → KeepsRest a b → KeepsRest b c → KeepsRest a c
keeps_then a b c one two = record {
  actors = same_then a.cells b.cells c.cells one.actors two.actors;
  marks = λ i before after was is.
      let mid = there_too a.cells b.cells i before (sym one.actors.count) was in
      two.marks i mid.0 after mid.1 is ∙ one.marks i before mid.0 was mid.1;
  links = two.links ∙ one.links;
  capacities = two.capacities ∙ one.capacities;
  waited = two.waited ∙ one.waited;
}

-- Places of stacks.

tokens_at : (stacks : List Queue) (l : ℕ) (stack : Queue) → slice_get stacks l ≡ Some stack → slice_index_or (tokens_of_stacks stacks) l [] ≡ stack.tokens
tokens_at stacks l stack at = map_index (λ (q : Queue). q.tokens) stacks l stack [] at

tokens_beside : (stacks : List Queue) (l m : ℕ) (new : Queue) → m ≢ l → slice_index_or (tokens_of_stacks (slice_set stacks l new)) m [] ≡ slice_index_or (tokens_of_stacks stacks) m []
tokens_beside [] l m new differ = refl
tokens_beside (q ∷ stacks) zero zero new differ = absurd (differ refl)
tokens_beside (q ∷ stacks) zero (suc m) new differ = refl
tokens_beside (q ∷ stacks) (suc l) zero new differ = refl
tokens_beside (q ∷ stacks) (suc l) (suc m) new differ = tokens_beside stacks l m new (λ same. differ (ap suc same))

rooms_set : (stacks : List Queue) (l : ℕ) (stack new : Queue) → slice_get stacks l ≡ Some stack → new.capacity ≡ stack.capacity → rooms_of (slice_set stacks l new) ≡ rooms_of stacks
rooms_set [] l stack new at same = refl
rooms_set (q ∷ stacks) zero stack new at same = ap (λ n. n ∷ rooms_of stacks) (same ∙ ap (λ (k : Queue). k.capacity) (sym (some_is q stack at)))
rooms_set (q ∷ stacks) (suc l) stack new at same = ap (λ ns. q.capacity ∷ ns) (rooms_set stacks l stack new at same)

pub all_empty : (stacks : List Queue) → ((l : ℕ) (stack : Queue) → slice_get stacks l ≡ Some stack → stack.tokens ≡ []) → AreEmpty (tokens_of_stacks stacks)
all_empty [] none l = refl
all_empty (q ∷ stacks) none zero = none 0 q refl
all_empty (q ∷ stacks) none (suc l) = all_empty stacks (λ m. none (suc m)) l

pub empty_at : (stacks : List Queue) (l : ℕ) (stack : Queue) → AreEmpty (tokens_of_stacks stacks) → slice_get stacks l ≡ Some stack → stack.tokens ≡ []
empty_at stacks l stack none at = sym (tokens_at stacks l stack at) ∙ none l

take_no : {A : Type 0} (xs : List A) → take 0 xs ≡ []
take_no [] = refl
take_no (x ∷ xs) = refl

prefix_set : (l : ℕ) (xs ys : List ℕ) (n : ℕ) → take l xs ≡ take l ys → l < length xs → slice_get ys l ≡ Some n → take (suc l) (slice_set xs l n) ≡ take (suc l) ys
prefix_set l [] ys n same low at = absurd (omega (arith, low))
prefix_set zero (x ∷ xs) [] n same low at = cc
prefix_set zero (x ∷ xs) (y ∷ ys) n same low at = ap (λ ns. n ∷ ns) (take_no xs ∙ sym (take_no ys)) ∙ ap (λ k. k ∷ take 0 ys) (some_is n y (sym at))
prefix_set (suc l) (x ∷ xs) [] n same low at = cc
prefix_set (suc l) (x ∷ xs) (y ∷ ys) n same low at =
    let head : x ≡ y = cc in
    let tail : take l xs ≡ take l ys = cc in
    ap (λ ns. x ∷ ns) (prefix_set l xs ys n tail (omega (arith, low)) at) ∙ ap (λ k. k ∷ take (suc l) ys) head

-- A stack is put back.

no_state_change : {X : Type 0} (s : State X) (l : ℕ) (link : Link) (flow : Flow) → slice_get s.flows l ≡ Some flow → ahead_on l 0 link flow s ≡ s
no_state_change s l link flow there = ap (λ fs. record s { flows = fs }) (ap (slice_set s.flows l) (ahead_none link flow) ∙ set_self s.flows l flow there)

pub puts_nothing : {X : Type 0} (l : ℕ) (stack : List ℤ) (held : Held (Cell X)) → length stack ≡ 0 → PutsOne l stack held held
puts_nothing l stack held none = record {
  states = λ net s link flow others at there next stood.
      subst (λ n. StandsIn net held (ahead_on l n link flow s)) (sym none) (subst (StandsIn net held) (sym (no_state_change s l link flow there)) stood);
  elsewhere = λ m differ. refl;
  keeps = keeps_none held;
}

pub puts_stack : {X : Type 0} (l : ℕ) (stack : List ℤ) (old new : Held (Cell X)) → IsInputLink (slice_get old.links l) → PutsAll l stack old new → WaitElsewhere l old new → KeepsRest old new → PutsOne l stack old new
puts_stack l stack old new from puts elsewhere keeps = record {
  states = λ net s link flow others at there next stood.
      let here : slice_get old.links l ≡ Some link = ap (λ ls. slice_get ls l) (sym stood.is_of.links_are) ∙ at in
      let input : is_input link ≡ true = subst IsInputLink here from in
      subst (λ f. StandsIn net new (record s { flows = slice_set s.flows l f })) (sym (ahead_in link (length stack) flow input)) (puts net s link flow others at there (next input) stood);
  elsewhere = elsewhere;
  keeps = keeps;
}

-- The stacks of the first links were put back.
pub record IsPuttingEach {X : Type 0} (l : ℕ) (old now : Held (Cell X)) (first left : List Queue) (put : List ℕ) : Type 0 where
  pub keeps : KeepsRest old now
  pub states : (net : Network X) (s later : State X) → StandsIn net old s → IsBehind net (tokens_of_stacks first) s later → StandsIn net now (ahead net (take l (counts_of first)) s)
  pub waits : (m : ℕ) → l ≤ m → waits_on now m ≡ waits_on old m
  pub done : (m : ℕ) (stack : Queue) → m < l → slice_get left m ≡ Some stack → stack.tokens ≡ []
  pub same : (m : ℕ) → l ≤ m → slice_get left m ≡ slice_get first m
  pub rooms : rooms_of left ≡ rooms_of first
  pub put_is : take l put ≡ take l (counts_of first)

pub putting_starts : {X : Type 0} (held : Held (Cell X)) (stacks : List Queue) (put : List ℕ) → IsPuttingEach 0 held held stacks stacks put
putting_starts held stacks put = record {
  keeps = keeps_none held;
  states = λ net s later stood behind. subst (λ cs. StandsIn net held (ahead net cs s)) (sym (take_no (counts_of stacks))) stood;
  waits = λ m high. refl;
  done = λ m stack low at. absurd (omega (arith, low));
  same = λ m high. refl;
  rooms = refl;
  put_is = take_no put ∙ sym (take_no (counts_of stacks));
}

module _ {X : Type 0} (l : ℕ) (old now : Held (Cell X)) (first left : List Queue) (put : List ℕ) (stack : Queue) (so_far : IsPuttingEach l old now first left put) (fit : FitStacks old first)
    (at_stack : slice_get left l ≡ Some stack) where
  at_first : slice_get first l ≡ Some stack
  at_first = sym (so_far.same l (omega arith)) ∙ at_stack

  link_here : There old.links l
  link_here = there first old.links l stack (sym fit.count) at_first

  fits_now : FitsStack old l link_here.item stack
  fits_now = fit.each l link_here.item stack link_here.at at_first

  pub putting_room : 1 ≤ length stack.tokens → waits_on now l + length stack.tokens ≤ slice_index_or now.capacities l 0
  putting_room some =
      let room = fits_now.room some in
      let same : waits_on now l ≡ waits_on old l = so_far.waits l (omega arith) in
      subst (λ cs. waits_on now l + length stack.tokens ≤ slice_index_or cs l 0) (sym so_far.keeps.capacities) (omega (arith, room, same))

  pub putting_input : 1 ≤ length stack.tokens → IsInputLink (slice_get now.links l)
  putting_input some =
      subst IsInputLink (sym (ap (λ ls. slice_get ls l) so_far.keeps.links ∙ link_here.at))
      (Rattle.net_state.proofs.Coming.by_bool (is_input link_here.item) (λ input. input)
      (λ inner. let none : length stack.tokens ≡ 0 = ap (λ ts. length ts) (fits_now.outside inner) in absurd (omega (arith, some, none))))

  pub putting_more : (new : Held (Cell X)) (emptied : Queue) (n : ℕ) → l < length put → PutsOne l stack.tokens now new → n ≡ length stack.tokens → emptied.tokens ≡ [] → emptied.capacity ≡ stack.capacity
      → IsPuttingEach (suc l) old new first (slice_set left l emptied) (slice_set put l n)
  putting_more new emptied n low puts count empty as_much = record {
    keeps = keeps_then old now new so_far.keeps puts.keeps;
    states = λ net s later stood behind.
        let link : There net.links l = low_there net.links l (subst (λ ls. l < length ls) (sym stood.is_of.links_are) (is_low old.links l link_here.item link_here.at)) in
        let flow : There s.flows l = there net.links s.flows l link.item stood.stands.flows.count link.at in
        let mid = so_far.states net s later stood behind in
        let here : slice_get (ahead net (take l (counts_of first)) s).flows l ≡ Some flow.item = prefix_same l (counts_of first) net.links s.flows ∙ flow.at in
        let next : is_input link.item ≡ true → drop flow.item.arrived flow.item.sent ≡ down stack.tokens (unarrived (slice_get later.flows l)) = λ input.
        sym (ap unarrived flow.at) ∙ (behind.each l link.item link.at input ∙ ap (λ ts. down ts (unarrived (slice_get later.flows l))) (tokens_at first l stack at_first)) in
        subst (StandsIn net new) (sym (ahead_more net (counts_of first) s l (length stack.tokens) link.item flow.item (map_at (λ (q : Queue). length q.tokens) first l stack at_first) link.at flow.at))
        (puts.states net (ahead net (take l (counts_of first)) s) link.item flow.item (unarrived (slice_get later.flows l)) link.at here next mid);
    waits = λ m high. puts.elsewhere m (λ same. omega (arith, high, same)) ∙ so_far.waits m (omega (arith, high));
    done = λ m other below at. ⊎_elim
        (λ (same : m ≡ l).
        let is : other ≡ emptied = some_is other emptied (sym at ∙ (ap (slice_get (slice_set left l emptied)) same ∙ get_set_same left l stack emptied at_stack)) in
        ap (λ (q : Queue). q.tokens) is ∙ empty)
        (λ (differ : m ≢ l). so_far.done m other (omega (arith, below, differ)) (sym (get_set_other left m l emptied differ) ∙ at))
        (cases_eq m l);
    same = λ m high. get_set_other left m l emptied (λ same. omega (arith, high, same)) ∙ so_far.same m (omega (arith, high));
    rooms = rooms_set left l stack emptied at_stack as_much ∙ so_far.rooms;
    put_is = prefix_set l put (counts_of first) n so_far.put_is low (map_at (λ (q : Queue). length q.tokens) first l stack at_first ∙ ap Some (sym count));
  }

module _ {X : Type 0} (l : ℕ) (old now : Held (Cell X)) (first left : List Queue) (put : List ℕ) (so_far : IsPuttingEach l old now first left put) (all : l ≡ length first) (long : length left ≡ length first) (put_long : length put ≡ length first) where
  counts_long : length (counts_of first) ≡ length first
  counts_long = length-map first (λ (q : Queue). length q.tokens)

  all_counts : take l (counts_of first) ≡ counts_of first
  all_counts = ap (λ n. take n (counts_of first)) (all ∙ sym counts_long) ∙ take_whole (counts_of first)

  pub puts_each : PutsEach first old now
  puts_each = record {
    states = λ net s later stood behind. subst (λ cs. StandsIn net now (ahead net cs s)) all_counts (so_far.states net s later stood behind);
    keeps = so_far.keeps;
  }

  pub put_empty : AreEmpty (tokens_of_stacks left)
  put_empty = all_empty left (λ m stack at. so_far.done m stack (let low : m < length left = is_low left m stack at in omega (arith, low, long, all)) at)

  pub put_counts : put ≡ counts_of first
  put_counts = sym (ap (λ n. take n put) (all ∙ sym put_long) ∙ take_whole put) ∙ (so_far.put_is ∙ all_counts)

-- A stack is taken.

pub takes_nothing : {X : Type 0} (l n : ℕ) (link : Link) (stack : List ℤ) (held : Held (Cell X)) → is_input link ≡ false → TakesOne l n link held held stack
takes_nothing l n link stack held inner = record {
  states = λ net s flow wired at there ordered sent stood. (
    subst (StandsIn net held) (ap (λ fs. record s { flows = fs }) (ap (slice_set s.flows l) (ahead_out link n flow inner) ∙ set_self s.flows l flow there)) stood,
    λ input. (let clash : true ≡ false = sym input ∙ inner in cc),
  );
  rests = λ rest. rest;
  elsewhere = λ m differ. refl;
  keeps = keeps_none held;
}

pub takes_stack : {X : Type 0} (l n count : ℕ) (link : Link) (before after : List ℤ) (old new : Held (Cell X)) → before ≡ [] → is_input link ≡ true → count ≡ min n (waits_on old l) → TakesAll l count before after old new
    → (IsAtRest old → IsAtRest new) → WaitElsewhere l old new → KeepsRest old new → TakesOne l n link old new after
takes_stack {X} l n count link before after old new empty input least takes rests elsewhere keeps = record {
  states = λ net s flow wired at there ordered sent stood.
      let later : Flow = after_arrival n link flow in
      let stood_later : StandsIn net old (with_arrivals n s l link flow) = subst (λ f. StandsIn net old (record s { flows = slice_set s.flows l f })) (ahead_in link n flow input) stood in
      let waits : waits_on old l ≡ untaken later =
      waits_untaken net old (with_arrivals n s l link flow) wired stood_later l link later at (get_set_same s.flows l flow later there) input in
      let taken : later.taken ≡ flow.taken = ap (λ b. if b then flow.taken + n else flow.taken) (inside_input net old (with_arrivals n s l link flow) wired stood_later l link later at (get_set_same s.flows l flow later there) input) in
      let all : count ≡ n = omega (arith, least, waits, taken, ordered) in
      let so : TakesAll l n before after old new = subst (λ k. TakesAll l k before after old new) all takes in
      let both = so net s link flow at there ordered (sent input) stood_later in (
        both.0,
        λ _. both.1 (drop (flow.arrived + n) flow.sent) (ap (λ ts. down ts (drop (flow.arrived + n) flow.sent)) (sym empty)),
      );
  rests = rests;
  elsewhere = elsewhere;
  keeps = keeps;
}

-- The stacks of the links from link l on were taken.
pub record IsTakingEach {X : Type 0} (l : ℕ) (counts : List ℕ) (old now : Held (Cell X)) (first left : List Queue) : Type 0 where
  pub keeps : KeepsRest old now
  pub rests : IsAtRest old → IsAtRest now
  pub states : (net : Network X) (s : State X) → IsWired net → MayBeAhead net counts s → StandsIn net old (ahead net counts s)
      → StandsIn net now (ahead net (take l counts) s) × ComeNext l net counts s (tokens_of_stacks left)
  pub fit : (m : ℕ) (link : Link) (stack : Queue) → l ≤ m → slice_get now.links m ≡ Some link → slice_get left m ≡ Some stack → FitsStack now m link stack
  pub same : (m : ℕ) → m < l → slice_get left m ≡ slice_get first m
  pub long : length left ≡ length first

pub taking_starts : {X : Type 0} (l : ℕ) (counts : List ℕ) (held : Held (Cell X)) (stacks : List Queue) → l ≡ length held.links → length counts ≡ l → IsTakingEach l counts held held stacks stacks
taking_starts l counts held stacks all many = record {
  keeps = keeps_none held;
  rests = λ rest. rest;
  states = λ net s wired may stood. (
    subst (λ cs. StandsIn net held (ahead net cs s)) (sym (ap (λ n. take n counts) (sym many) ∙ take_whole counts)) stood,
    λ m link flow high at there input.
        let low : m < length net.links = is_low net.links m link at in
        let links : length net.links ≡ length held.links = ap (λ ls. length ls) stood.is_of.links_are in
        absurd (omega (arith, high, low, links, all)),
  );
  fit = λ m link stack high at at_stack. let low : m < length held.links = is_low held.links m link at in absurd (omega (arith, high, low, all));
  same = λ m low. refl;
  long = refl;
}

module _ {X : Type 0} (l : ℕ) (counts : List ℕ) (old now new : Held (Cell X)) (first left : List Queue) (link : Link) (n : ℕ) (stack taken : Queue) (so_far : IsTakingEach (suc l) counts old now first left)
    (at_link : slice_get now.links l ≡ Some link) (at_count : slice_get counts l ≡ Some n) (at_stack : slice_get left l ≡ Some stack) (takes : TakesOne l n link now new taken.tokens)
    (holds : is_input link ≡ true → slice_index_or now.capacities l 0 ≤ taken.capacity)
    (room : 1 ≤ length taken.tokens → waits_on new l + length taken.tokens ≤ slice_index_or new.capacities l 0) (outside : is_input link ≡ false → taken.tokens ≡ []) where
  taken_at : slice_get (slice_set left l taken) l ≡ Some taken
  taken_at = get_set_same left l stack taken at_stack

  new_link : (m : ℕ) (other : Link) → slice_get new.links m ≡ Some other → slice_get now.links m ≡ Some other
  new_link m other at = sym (ap (λ ls. slice_get ls m) takes.keeps.links) ∙ at

  fits_beside : (m : ℕ) (other : Link) (q : Queue) → m ≢ l → FitsStack now m other q → FitsStack new m other q
  fits_beside m other q differ fits = record {
    holds = λ input. subst (λ cs. slice_index_or cs m 0 ≤ q.capacity) (sym takes.keeps.capacities) (fits.holds input);
    room = λ some.
        let was = fits.room some in
        let same : waits_on new m ≡ waits_on now m = takes.elsewhere m differ in
        subst (λ cs. waits_on new m + length q.tokens ≤ slice_index_or cs m 0) (sym takes.keeps.capacities) (omega (arith, was, same));
    outside = fits.outside;
  }

  fits_this : (other : Link) (q : Queue) → other ≡ link → q ≡ taken → FitsStack new l other q
  fits_this other q link_is q_is = subst (λ k. FitsStack new l k q) (sym link_is) (subst (λ k. FitsStack new l link k) (sym q_is) (record {
    holds = λ input. subst (λ cs. slice_index_or cs l 0 ≤ taken.capacity) (sym takes.keeps.capacities) (holds input);
    room = room;
    outside = outside;
  }))

  pub taking_more : IsTakingEach l counts old new first (slice_set left l taken)
  taking_more = record {
    keeps = keeps_then old now new so_far.keeps takes.keeps;
    rests = λ rest. takes.rests (so_far.rests rest);
    states = λ net s wired may stood.
        let was = so_far.states net s wired may stood in
        let at : slice_get net.links l ≡ Some link = ap (λ ls. slice_get ls l) was.0.is_of.links_are ∙ at_link in
        let count : length s.flows ≡ length net.links = sym (Rattle.trace_replay.proofs.Ahead.ahead_long counts net.links s.flows) ∙ stood.stands.flows.count in
        let flow : There s.flows l = there net.links s.flows l link count at in
        let here : slice_get (ahead net (take l counts) s).flows l ≡ Some flow.item = prefix_same l counts net.links s.flows ∙ flow.at in
        let n_is : slice_index_or counts l 0 ≡ n = Rattle.std.proofs.lemmas.Option.get_or_from_slice_get counts l n 0 at_count in
        let one = takes.states net (ahead net (take l counts) s) flow.item wired at here (may.ordered l link flow.item at flow.at)
        (λ input. subst (λ k. flow.item.arrived + k ≤ length flow.item.sent) n_is (may.sent l link flow.item at flow.at input))
        (subst (StandsIn net now) (ahead_more net counts s l n link flow.item at_count at flow.at) was.0) in (
          one.0,
          λ m other that high at_m there_m input. ⊎_elim
              (λ (same : m ≡ l).
              let link_is : other ≡ link = some_is other link (sym at_m ∙ (ap (slice_get net.links) same ∙ at)) in
              let flow_is : that ≡ flow.item = some_is that flow.item (sym there_m ∙ (ap (slice_get s.flows) same ∙ flow.at)) in
              let so : drop flow.item.arrived flow.item.sent ≡ down taken.tokens (drop (flow.item.arrived + n) flow.item.sent) = one.1 (sym (ap is_input link_is) ∙ input) in
              subst (λ k. drop that.arrived that.sent ≡ down (slice_index_or (tokens_of_stacks (slice_set left l taken)) k []) (drop (that.arrived + slice_index_or counts k 0) that.sent)) (sym same)
              (subst (λ (f : Flow). drop f.arrived f.sent ≡ down (slice_index_or (tokens_of_stacks (slice_set left l taken)) l []) (drop (f.arrived + slice_index_or counts l 0) f.sent)) (sym flow_is)
              (so ∙ (ap (λ ts. down ts (drop (flow.item.arrived + n) flow.item.sent)) (sym (tokens_at (slice_set left l taken) l taken taken_at))
              ∙ ap (λ k. down (slice_index_or (tokens_of_stacks (slice_set left l taken)) l []) (drop (flow.item.arrived + k) flow.item.sent)) (sym n_is)))))
              (λ (differ : m ≢ l).
              was.1 m other that (omega (arith, high, differ)) at_m there_m input
              ∙ ap (λ ts. down ts (drop (that.arrived + slice_index_or counts m 0) that.sent)) (sym (tokens_beside left l m taken differ)))
              (cases_eq m l),
        );
    fit = λ m other q high at_m at_q. ⊎_elim
        (λ (same : m ≡ l).
        subst (λ k. FitsStack new k other q) (sym same)
        (fits_this other q (some_is other link (sym (new_link m other at_m) ∙ (ap (slice_get now.links) same ∙ at_link))) (some_is q taken (sym at_q ∙ (ap (slice_get (slice_set left l taken)) same ∙ taken_at)))))
        (λ (differ : m ≢ l).
        fits_beside m other q differ (so_far.fit m other q (omega (arith, high, differ)) (new_link m other at_m) (sym (get_set_other left m l taken differ) ∙ at_q)))
        (cases_eq m l);
    same = λ m low. get_set_other left m l taken (λ same. omega (arith, low, same)) ∙ so_far.same m (omega (arith, low));
    long = length-set left l taken ∙ so_far.long;
  }

module _ {X : Type 0} (counts : List ℕ) (old now : Held (Cell X)) (first left : List Queue) (so_far : IsTakingEach 0 counts old now first left) (count : length first ≡ length old.links) where
  pub takes_each : TakesEach counts old now left
  takes_each = record {
    states = λ net s wired may stood.
        let was = so_far.states net s wired may stood in
        (subst (λ cs. StandsIn net now (ahead net cs s)) (take_no counts) was.0, was.1);
    rests = so_far.rests;
    keeps = so_far.keeps;
  }

  pub taken_fit : FitStacks now left
  taken_fit = record {
    count = so_far.long ∙ (count ∙ sym (ap (λ ls. length ls) so_far.keeps.links));
    each = λ l link stack at at_stack. so_far.fit l link stack (omega arith) at at_stack;
  }

-- What was put back is counted link by link.
pub record IsCountingPut (l : ℕ) (put : List ℕ) (first now : List Filled) : Type 0 where
  pub done : (m : ℕ) (before after : Filled) → m < l → slice_get first m ≡ Some before → slice_get now m ≡ Some after → CountsOnePut (slice_index_or put m 0) before after
  pub left : (m : ℕ) → l ≤ m → slice_get now m ≡ slice_get first m

pub counting_starts : (put : List ℕ) (came : List Filled) → IsCountingPut 0 put came came
counting_starts put came = record { done = λ m before after low was is. absurd (omega (arith, low)); left = λ m high. refl }

pub counting_more : (l : ℕ) (put : List ℕ) (first now : List Filled) (old new : Filled) → IsCountingPut l put first now → slice_get now l ≡ Some old → CountsOnePut (slice_index_or put l 0) old new
    → IsCountingPut (suc l) put first (slice_set now l new)
counting_more l put first now old new so_far at counts = record {
  done = λ m before after low was is. ⊎_elim
      (λ (same : m ≡ l).
      let before_is : before ≡ old = some_is before old (sym was ∙ (ap (slice_get first) same ∙ (sym (so_far.left l (omega arith)) ∙ at))) in
      let after_is : after ≡ new = some_is after new (sym is ∙ (ap (slice_get (slice_set now l new)) same ∙ get_set_same now l old new at)) in
      subst (λ k. CountsOnePut (slice_index_or put k 0) before after) (sym same)
      (subst (λ x. CountsOnePut (slice_index_or put l 0) x after) (sym before_is) (subst (λ y. CountsOnePut (slice_index_or put l 0) old y) (sym after_is) counts)))
      (λ (differ : m ≢ l). so_far.done m before after (omega (arith, low, differ)) was (sym (get_set_other now m l new differ) ∙ is))
      (cases_eq m l);
  left = λ m high. get_set_other now m l new (λ same. omega (arith, high, same)) ∙ so_far.left m (omega (arith, high));
}

pub counting_all : (l : ℕ) (put : List ℕ) (first now : List Filled) → IsCountingPut l put first now → length now ≡ length first → length first ≤ l → CountsPut put first now
counting_all l put first now so_far long all = record {
  as_many = long;
  each = λ m before after was is. so_far.done m before after (let low : m < length first = is_low first m before was in omega (arith, low, all)) was is;
}
