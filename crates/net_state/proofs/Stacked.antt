-- Tokens of an input link that are taken back to a stack, and put back from it.
use Rattle.std.proofs.Common.{◌≡◌, ℕ, zero, suc, ◌+◌, ◌≤◌, Bool, true, false, List, [], ◌∷◌, ◌++◌, ℤ, length, drop, refl, sym, ap, subst, ◌∙◌, arith, length-append}
use Rattle.std.specs.Prelude.{Some, slice_get, slice_set, if◌then◌else◌}
use Rattle.net_model.specs.declared.wiring.Link.{Link}
use Rattle.net_model.specs.Network.{Network, is_output}
use Rattle.net_model.specs.State.{Flow, State}
use Rattle.net_model.specs.Event.{after_arrival}
use Rattle.net_model.specs.Cell.{Cell}
use Rattle.net_model.proofs.Arriving.{get_same, set_twice}
use Rattle.net_state.specs.Held.{Held}
use Rattle.net_state.specs.Moving.{SameActors, SameMarks}
use Rattle.net_state.specs.Standing.{StandsIn}
use Rattle.net_state.specs.Working.{IsAtRest}
use Rattle.net_state.specs.TakingBack.{PutsAll, PutsBack, TakesAll, TakesBack, WaitElsewhere, down, waits_on, with_arrival, with_arrivals}
use Rattle.net_state.proofs.Gaining.{some_is, there_too}
use Rattle.net_state.proofs.Kept.{same_then}
use Rattle.net_state.proofs.Surveying.{same_all}

-- the one that was put on a stack last comes first
down-more : (tokens : List ℤ) (token : ℤ) (others : List ℤ) → down (tokens ++ token ∷ []) others ≡ token ∷ down tokens others
down-more [] token others = refl
down-more (first ∷ tokens) token others = down-more tokens token (first ∷ others)

first_at : (n : ℕ) (xs ys : List ℤ) (x : ℤ) → drop n xs ≡ x ∷ ys → slice_get xs n ≡ Some x
first_at zero [] ys x left = cc
first_at (suc n) [] ys x left = cc
first_at zero (z ∷ xs) ys x left = cc
first_at (suc n) (z ∷ xs) ys x left = first_at n xs ys x left

left_from : (n : ℕ) (xs : List ℤ) (x : ℤ) → slice_get xs n ≡ Some x → drop n xs ≡ x ∷ drop (n + 1) xs
left_from zero [] x at = cc
left_from (suc n) [] x at = cc
left_from zero (z ∷ xs) x at = let same : z ≡ x = cc in ap (λ y. y ∷ xs) same
left_from (suc n) (z ∷ xs) x at = let sum : suc (n + 1) ≡ suc n + 1 = omega arith in left_from n xs x at ∙ ap (λ k. x ∷ drop k (z ∷ xs)) sum

-- Arrivals one by one.

abbrev flow_with : List ℤ → ℕ → ℕ → ℕ → Flow
flow_with sent arrived taken capacity = record { sent = sent; arrived = arrived; taken = taken; capacity = capacity }

taken_more : (out : Bool) (taken n : ℕ) → (if out then (if out then taken + n else taken) + 1 else (if out then taken + n else taken)) ≡ (if out then taken + (n + 1) else taken)
taken_more true taken n = omega arith
taken_more false taken n = refl

taken_first : (out : Bool) (taken n : ℕ) → (if out then (if out then taken + 1 else taken) + n else (if out then taken + 1 else taken)) ≡ (if out then taken + (n + 1) else taken)
taken_first true taken n = omega arith
taken_first false taken n = refl

taken_none : (out : Bool) (taken : ℕ) → (if out then taken + 0 else taken) ≡ taken
taken_none true taken = omega arith
taken_none false taken = refl

taken_within : (out : Bool) (taken arrived : ℕ) → taken ≤ arrived → (if out then taken + 1 else taken) ≤ arrived + 1
taken_within true taken arrived few = omega (arith, few)
taken_within false taken arrived few = omega (arith, few)

arrived_more : (n : ℕ) (link : Link) (flow : Flow) → after_arrival 1 link (after_arrival n link flow) ≡ after_arrival (n + 1) link flow
arrived_more n link flow =
    let sum : flow.arrived + n + 1 ≡ flow.arrived + (n + 1) = omega arith in
    ap (λ k. flow_with flow.sent k (if is_output link then (if is_output link then flow.taken + n else flow.taken) + 1 else (if is_output link then flow.taken + n else flow.taken)) flow.capacity) sum
    ∙ ap (λ k. flow_with flow.sent (flow.arrived + (n + 1)) k flow.capacity) (taken_more (is_output link) flow.taken n)

arrived_first : (n : ℕ) (link : Link) (flow : Flow) → after_arrival n link (after_arrival 1 link flow) ≡ after_arrival (n + 1) link flow
arrived_first n link flow =
    let sum : flow.arrived + 1 + n ≡ flow.arrived + (n + 1) = omega arith in
    ap (λ k. flow_with flow.sent k (if is_output link then (if is_output link then flow.taken + 1 else flow.taken) + n else (if is_output link then flow.taken + 1 else flow.taken)) flow.capacity) sum
    ∙ ap (λ k. flow_with flow.sent (flow.arrived + (n + 1)) k flow.capacity) (taken_first (is_output link) flow.taken n)

arrived_none : (link : Link) (flow : Flow) → after_arrival 0 link flow ≡ flow
arrived_none link flow =
    let sum : flow.arrived + 0 ≡ flow.arrived = omega arith in
    ap (λ k. flow_with flow.sent k (if is_output link then flow.taken + 0 else flow.taken) flow.capacity) sum
    ∙ ap (λ k. flow_with flow.sent flow.arrived k flow.capacity) (taken_none (is_output link) flow.taken)

set_self : {A : Type 0} (xs : List A) (l : ℕ) (x : A) → slice_get xs l ≡ Some x → slice_set xs l x ≡ xs
set_self [] l x at = refl
set_self (y ∷ xs) zero x at = let same : y ≡ x = cc in ap (λ z. z ∷ xs) (sym same)
set_self (y ∷ xs) (suc l) x at = ap (λ ys. y ∷ ys) (set_self xs l x at)

module _ {X : Type 0} (s : State X) (l : ℕ) (link : Link) (flow : Flow) where
  state_more : (n : ℕ) → with_arrival (with_arrivals n s l link flow) l link (after_arrival n link flow) ≡ with_arrivals (n + 1) s l link flow
  state_more n = ap (λ fs. record s { flows = fs })
      (set_twice s.flows l (after_arrival n link flow) (after_arrival 1 link (after_arrival n link flow)) ∙ ap (λ f. slice_set s.flows l f) (arrived_more n link flow))

  state_first : (n : ℕ) → with_arrivals n (with_arrival s l link flow) l link (after_arrival 1 link flow) ≡ with_arrivals (n + 1) s l link flow
  state_first n = ap (λ fs. record s { flows = fs })
      (set_twice s.flows l (after_arrival 1 link flow) (after_arrival n link (after_arrival 1 link flow)) ∙ ap (λ f. slice_set s.flows l f) (arrived_first n link flow))

  state_none : slice_get s.flows l ≡ Some flow → with_arrivals 0 s l link flow ≡ s
  state_none there = ap (λ fs. record s { flows = fs }) (ap (λ f. slice_set s.flows l f) (arrived_none link flow) ∙ set_self s.flows l flow there)

-- What stays.

pub record Stays {X : Type 0} (old new : Held (Cell X)) : Type 0 where
  pub actors : SameActors old.cells new.cells
  pub marks : SameMarks old.cells new.cells
  pub links : new.links ≡ old.links
  pub capacities : new.capacities ≡ old.capacities
  pub waited : new.waited ≡ old.waited

pub stays_none : {X : Type 0} (held : Held (Cell X)) → Stays held held
stays_none held = record {
  actors = same_all held.cells;
  marks = λ i before after was is. ap (λ cell. cell.trapped) (some_is after before (sym is ∙ was));
  links = refl;
  capacities = refl;
  waited = refl;
}

pub stays_then : {X : Type 0} (a b c : Held (Cell X)) → Stays a b → Stays b c → Stays a c
stays_then a b c one two = record {
  actors = same_then a.cells b.cells c.cells one.actors two.actors;
  marks = λ i before after was is.
      let mid = there_too a.cells b.cells i before (sym one.actors.count) was in
      two.marks i mid.0 after mid.1 is ∙ one.marks i before mid.0 was mid.1;
  links = two.links ∙ one.links;
  capacities = two.capacities ∙ one.capacities;
  waited = two.waited ∙ one.waited;
}

-- Tokens are taken back.

pub takes_none : {X : Type 0} (l : ℕ) (stack : List ℤ) (held : Held (Cell X)) → TakesAll l 0 stack stack held held
takes_none l stack held net s link flow at there before within stood = (
  subst (StandsIn net held) (state_none s l link flow there) stood,
  λ others left. let same : flow.arrived + 0 ≡ flow.arrived = omega arith in subst (λ n. drop n flow.sent ≡ down stack others) same left,
)

pub takes_more : {X : Type 0} (l n : ℕ) (before after : List ℤ) (token : ℤ) (start now new : Held (Cell X)) → TakesAll l n before after start now → TakesBack l token now new
    → TakesAll l (n + 1) before (after ++ token ∷ []) start new
takes_more {X} l n before after token start now new so_far takes net s link flow at there few within stood =
    let later : State X = with_arrival s l link flow in
    let flow_later : Flow = after_arrival 1 link flow in
    let there_later : slice_get later.flows l ≡ Some flow_later = get_same s.flows l flow flow_later there in
    let was = so_far net later link flow_later at there_later (taken_within (is_output link) flow.taken flow.arrived few) (omega (arith, within))
    (subst (StandsIn net start) (sym (state_first s l link flow n)) stood) in
    let last = takes net s link flow at there few (omega (arith, within)) was.0 in (
      last.0,
      λ others left.
          let sum : flow.arrived + (n + 1) ≡ flow.arrived + 1 + n = omega arith in
          left_from flow.arrived flow.sent token last.1
          ∙ (ap (λ ts. token ∷ ts) (was.1 others (subst (λ k. drop k flow.sent ≡ down before others) sum left)) ∙ sym (down-more after token others)),
    )

-- Tokens are put back.

-- so many of the tokens of a stack were put back, and these are left
abbrev pub Putting : {X : Type 0} → ℕ → ℕ → List ℤ → List ℤ → Held (Cell X) → Held (Cell X) → Type 0
Putting {X} l n first left start now = (net : Network X) (s : State X) (link : Link) (flow : Flow) (others : List ℤ)
    → slice_get net.links l ≡ Some link → slice_get s.flows l ≡ Some flow → drop flow.arrived flow.sent ≡ down first others → StandsIn net start s
    → StandsIn net now (with_arrivals n s l link flow) × (drop (flow.arrived + n) flow.sent ≡ down left others)

pub puts_none : {X : Type 0} (l : ℕ) (stack : List ℤ) (held : Held (Cell X)) → Putting l 0 stack stack held held
puts_none l stack held net s link flow others at there next stood = (
  subst (StandsIn net held) (sym (state_none s l link flow there)) stood,
  let same : flow.arrived ≡ flow.arrived + 0 = omega arith in subst (λ n. drop n flow.sent ≡ down stack others) same next,
)

pub puts_more : {X : Type 0} (l n : ℕ) (first left rest : List ℤ) (token : ℤ) (start now new : Held (Cell X)) → Putting l n first left start now → left ≡ rest ++ token ∷ []
    → PutsBack l token now new → Putting l (n + 1) first rest start new
puts_more {X} l n first left rest token start now new so_far is puts net s link flow others at there next stood =
    let was = so_far net s link flow others at there next stood in
    let flow_now : Flow = after_arrival n link flow in
    let there_now : slice_get (with_arrivals n s l link flow).flows l ≡ Some flow_now = get_same s.flows l flow flow_now there in
    let top : drop (flow.arrived + n) flow.sent ≡ token ∷ down rest others = was.1 ∙ (ap (λ ts. down ts others) is ∙ down-more rest token others) in
    let token_next : slice_get flow.sent (flow.arrived + n) ≡ Some token = first_at (flow.arrived + n) flow.sent (down rest others) token top in
    let sum : flow.arrived + n + 1 ≡ flow.arrived + (n + 1) = omega arith in (
      subst (StandsIn net new) (state_more s l link flow n) (puts net (with_arrivals n s l link flow) link flow_now at there_now token_next was.0),
      subst (λ k. drop k flow.sent ≡ down rest others) sum (ap (drop 1) (sym (left_from (flow.arrived + n) flow.sent token token_next) ∙ top)),
    )

pub puts_all : {X : Type 0} (l n : ℕ) (first left : List ℤ) (start now : Held (Cell X)) → Putting l n first left start now → n ≡ length first → PutsAll l first start now
puts_all l n first left start now so_far all net s link flow others at there next stood =
    subst (λ k. StandsIn net now (with_arrivals k s l link flow)) all (so_far net s link flow others at there next stood).0

-- What the loops keep.

pub record IsTakingBack {X : Type 0} (l n : ℕ) (before after : List ℤ) (start now : Held (Cell X)) : Type 0 where
  pub takes : TakesAll l n before after start now
  pub longer : length after ≡ length before + n
  pub less : waits_on now l + n ≡ waits_on start l
  pub elsewhere : WaitElsewhere l start now
  pub rests : IsAtRest start → IsAtRest now
  pub stays : Stays start now

pub taking_back_starts : {X : Type 0} (l : ℕ) (stack : List ℤ) (held : Held (Cell X)) → IsTakingBack l 0 stack stack held held
taking_back_starts l stack held = record {
  takes = takes_none l stack held;
  longer = omega arith;
  less = omega arith;
  elsewhere = λ m differ. refl;
  rests = λ rest. rest;
  stays = stays_none held;
}

pub taking_back_more : {X : Type 0} (l n : ℕ) (before after : List ℤ) (token : ℤ) (start now new : Held (Cell X)) → IsTakingBack l n before after start now
    → TakesBack l token now new → waits_on new l + 1 ≡ waits_on now l → WaitElsewhere l now new → (IsAtRest now → IsAtRest new) → Stays now new → IsTakingBack l (n + 1) before (after ++ token ∷ []) start new
taking_back_more l n before after token start now new so_far takes less elsewhere rests stays = record {
  takes = takes_more l n before after token start now new so_far.takes takes;
  longer =
      let more : length (after ++ token ∷ []) ≡ length after + 1 = length-append after (token ∷ []) in
      let was = so_far.longer in
      omega (arith, more, was);
  less = (let was = so_far.less in omega (arith, was, less));
  elsewhere = λ m differ. elsewhere m differ ∙ so_far.elsewhere m differ;
  rests = λ rest. rests (so_far.rests rest);
  stays = stays_then start now new so_far.stays stays;
}

pub record IsPuttingBack {X : Type 0} (l n : ℕ) (first left : List ℤ) (start now : Held (Cell X)) : Type 0 where
  pub puts : Putting l n first left start now
  pub shorter : length left + n ≡ length first
  pub more : waits_on now l ≡ waits_on start l + n
  pub elsewhere : WaitElsewhere l start now
  pub stays : Stays start now

pub putting_back_starts : {X : Type 0} (l : ℕ) (stack : List ℤ) (held : Held (Cell X)) → IsPuttingBack l 0 stack stack held held
putting_back_starts l stack held = record {
  puts = puts_none l stack held;
  shorter = omega arith;
  more = omega arith;
  elsewhere = λ m differ. refl;
  stays = stays_none held;
}

pub putting_back_more : {X : Type 0} (l n : ℕ) (first left rest : List ℤ) (token : ℤ) (start now new : Held (Cell X)) → IsPuttingBack l n first left start now → left ≡ rest ++ token ∷ []
    → PutsBack l token now new → waits_on new l ≡ waits_on now l + 1 → WaitElsewhere l now new → Stays now new → IsPuttingBack l (n + 1) first rest start new
putting_back_more l n first left rest token start now new so_far is puts more elsewhere stays = record {
  puts = puts_more l n first left rest token start now new so_far.puts is puts;
  shorter =
      let one : length left ≡ length rest + 1 = ap (λ ts. length ts) is ∙ length-append rest (token ∷ []) in
      let was = so_far.shorter in
      omega (arith, one, was);
  more = (let was = so_far.more in omega (arith, was, more));
  elsewhere = λ m differ. elsewhere m differ ∙ so_far.elsewhere m differ;
  stays = stays_then start now new so_far.stays stays;
}

pub none_of : (xs : List ℤ) → length xs ≡ 0 → xs ≡ []
none_of [] none = refl
none_of (x ∷ xs) none = absurd (omega (arith, none))
