-- How far the bursts of a round were made.
use Rattle.std.proofs.Common.{◌≡◌, ℕ, zero, suc, ◌+◌, ◌-◌, ◌*◌, ◌<◌, ◌≤◌, Bool, true, false, List, [], ◌∷◌, ◌++◌, length, map, take, drop, min, sum, refl, sym, ap, subst, ◌∙◌, ◌⊎◌, ⊎_elim, inl, inr, arith, append_assoc, append-nil, length-append}
use Rattle.std.specs.Prelude.{Option, None, Some, nat_le, slice_get, slice_index_or, if◌then◌else◌}
use Rattle.std.specs.List.{range_with_len}
use Rattle.std.proofs.lemmas.Bool.{cases_eq, cases_lt, leb-true, le-leb}
use Rattle.std.proofs.lemmas.Option.{slice_get-get_or}
use Rattle.std.proofs.lemmas.List.FromFn.{map-range_with_len_more}
use Rattle.std.proofs.lemmas.Grind.{fold-append}
use Rattle.rvc_base.specs.declared.ids.InstId.{InstId}
use Rattle.rvc_base.specs.Shares.{allowed, allowed_together}
use Rattle.trace_text.specs.declared.line.Line.{Line}
use Rattle.net_model.specs.declared.firing.BurstEnd.{BurstEnd}
use Rattle.net_model.specs.declared.firing.BurstEnd.TheVariants as burst
use Rattle.net_model.specs.Network.{Network}
use Rattle.net_model.specs.State.{State}
use Rattle.net_model.specs.Cell.{Cell, IsSameActor}
use Rattle.net_model.specs.Ready.{OnCell}
use Rattle.net_model.specs.Paced.{AreBursts, HaltsAt, Halt, IsBurst, Share, Spent, Waiting, NoRoom, Trapping, Unpicked, count_of, count_picked, first_trap, limit_of}
use Rattle.net_state.specs.Held.{Held}
use Rattle.net_state.specs.Moving.{SameActors}
use Rattle.net_state.specs.Standing.{StandsSince}
use Rattle.net_model.specs.declared.firing.Look.TheVariants as look
use Rattle.rvc_base.specs.declared.ids.ActId.{ActId}
use Rattle.net_state.specs.Surveyed.{AreUntrapped, LacksNow}
use Rattle.net_state.specs.Working.{EndsSeeHalt, GoesOn, HasAction, IsAtRest, LooksFed, MayBurst, NamesLacking, WorksAt, halt_of, journal_of, traps}
use Rattle.net_state.proofs.Coming.{on_cell, on_some}
use Rattle.net_state.proofs.Gaining.{same_actor, some_is, there_too}
use Rattle.net_state.proofs.Kept.{same_then}
use Rattle.net_state.specs.declared.made.Lacking.{Lacking}
use Rattle.net_state.specs.declared.made.Trapped.{Trapped}
use Rattle.net_state.specs.Made.{first_of, lacking_by, trapped_by}
use Rattle.net_state.specs.Sharing.{AreFresh}
use Rattle.round_runner.specs.Bursting.{Bursted, Idle, NamesIts, Sees, trap_line}

-- Lists by place.

pub at_mark : (marks : List Bool) (k : ℕ) (d b : Bool) → k < length marks → slice_index_or marks k d ≡ b → slice_get marks k ≡ Some b
at_mark marks k d b low is = slice_get-get_or marks k d low ∙ ap Some is

some_at : {A : Type 0} (xs : List A) (k : ℕ) → k < length xs → (x : A) × (slice_get xs k ≡ Some x)
some_at [] k low = absurd (omega (arith, low))
some_at (x ∷ xs) zero low = (x, refl)
some_at (x ∷ xs) (suc k) low = some_at xs k (omega (arith, low))

pub drop_at : {A : Type 0} (xs : List A) (k : ℕ) (x : A) → slice_get xs k ≡ Some x → drop k xs ≡ x ∷ drop (suc k) xs
drop_at [] k x h = cc
drop_at (y ∷ xs) zero x h = ap (λ z. z ∷ xs) (some_is y x h)
drop_at (y ∷ xs) (suc k) x h = drop_at xs k x h

drop_all : {A : Type 0} (xs : List A) (k : ℕ) → length xs ≤ k → drop k xs ≡ []
drop_all [] zero few = refl
drop_all [] (suc k) few = refl
drop_all (x ∷ xs) zero few = absurd (omega (arith, few))
drop_all (x ∷ xs) (suc k) few = drop_all xs k (omega (arith, few))

-- an item behind others
index_last : {A : Type 0} (xs : List A) (x d : A) → slice_index_or (xs ++ x ∷ []) (length xs) d ≡ x
index_last [] x d = refl
index_last (y ∷ xs) x d = index_last xs x d

index_before : {A : Type 0} (xs : List A) (x d : A) (k : ℕ) → k < length xs → slice_index_or (xs ++ x ∷ []) k d ≡ slice_index_or xs k d
index_before [] x d k low = absurd (omega (arith, low))
index_before (y ∷ xs) x d zero low = refl
index_before (y ∷ xs) x d (suc k) low = index_before xs x d k (omega (arith, low))

index_beyond : {A : Type 0} (xs : List A) (d : A) (k : ℕ) → length xs ≤ k → slice_index_or xs k d ≡ d
index_beyond [] d k high = refl
index_beyond (y ∷ xs) d zero high = absurd (omega (arith, high))
index_beyond (y ∷ xs) d (suc k) high = index_beyond xs d k (omega (arith, high))

get_beyond : {A : Type 0} (xs : List A) (k : ℕ) → length xs ≤ k → slice_get xs k ≡ None
get_beyond [] k few = refl
get_beyond (x ∷ xs) zero few = absurd (omega (arith, few))
get_beyond (x ∷ xs) (suc k) few = get_beyond xs k (omega (arith, few))

-- Counts.

count_more : (bursts : List (List ℕ)) (actions : List ℕ) → count_of (bursts ++ actions ∷ []) ≡ count_of bursts + length actions
count_more [] actions = omega arith
count_more (first ∷ bursts) actions = let rest : count_of (bursts ++ actions ∷ []) ≡ count_of bursts + length actions = count_more bursts actions in omega (arith, rest)

-- how many of the first i are picked
abbrev pub picked_before : List Bool → ℕ → ℕ
picked_before marks i = count_picked (take i marks)

count_append : (marks more : List Bool) → count_picked (marks ++ more) ≡ count_picked marks + count_picked more
count_append [] more = omega arith
count_append (true ∷ marks) more = let rest : count_picked (marks ++ more) ≡ count_picked marks + count_picked more = count_append marks more in omega (arith, rest)
count_append (false ∷ marks) more = count_append marks more

take_at : {A : Type 0} (xs : List A) (k : ℕ) (x : A) → slice_get xs k ≡ Some x → take (suc k) xs ≡ take k xs ++ x ∷ []
take_at [] k x h = cc
take_at (y ∷ xs) zero x h = ap (λ z. z ∷ []) (some_is y x h)
take_at (y ∷ xs) (suc k) x h = ap (λ zs. y ∷ zs) (take_at xs k x h)

take_drop : {A : Type 0} (xs : List A) (k : ℕ) → take k xs ++ drop k xs ≡ xs
take_drop [] zero = refl
take_drop [] (suc k) = refl
take_drop (x ∷ xs) zero = refl
take_drop (x ∷ xs) (suc k) = ap (λ zs. x ∷ zs) (take_drop xs k)

pub picked_more : (marks : List Bool) (i : ℕ) → slice_get marks i ≡ Some true → picked_before marks (suc i) ≡ picked_before marks i + 1
picked_more marks i here = ap count_picked (take_at marks i true here) ∙ count_append (take i marks) (true ∷ [])

pub picked_same : (marks : List Bool) (i : ℕ) → slice_get marks i ≡ Some false → picked_before marks (suc i) ≡ picked_before marks i
picked_same marks i here = ap count_picked (take_at marks i false here) ∙ (count_append (take i marks) (false ∷ []) ∙ (let e : picked_before marks i + 0 ≡ picked_before marks i = omega arith in e))

-- one that is picked is among them
pub picked_among : (marks : List Bool) (i : ℕ) → slice_get marks i ≡ Some true → picked_before marks i < count_picked marks
picked_among marks i here =
    let all : count_picked (take i marks) + count_picked (drop i marks) ≡ count_picked marks = sym (count_append (take i marks) (drop i marks)) ∙ ap count_picked (take_drop marks i) in
    let one : count_picked (drop i marks) ≡ suc (count_picked (drop (suc i) marks)) = ap count_picked (drop_at marks i true here) in
    omega (arith, all, one)

-- What is spent.

-- how many firings the first k picked may make together
abbrev pub given : ℕ → ℕ → ℕ → ℕ → ℕ
given left picks burst k = sum (map (allowed left picks burst) (range_with_len 0 k))

given_more : (left picks burst k : ℕ) → given left picks burst (suc k) ≡ given left picks burst k + allowed left picks burst k
given_more left picks burst k =
    ap (λ n. given left picks burst n) (let e : suc k ≡ k + 1 = omega arith in e)
    ∙ ap sum (map-range_with_len_more (allowed left picks burst) 0 k k (omega arith))
    ∙ fold-append ◌+◌ 0 (map (allowed left picks burst) (range_with_len 0 k)) (allowed left picks burst k ∷ [])

given_within : (left picks burst k : ℕ) (more : ℕ) → given left picks burst k ≤ given left picks burst (k + more)
given_within left picks burst k zero = (let e : k + 0 ≡ k = omega arith in subst (λ n. given left picks burst k ≤ given left picks burst n) (sym e) (omega arith))
given_within left picks burst k (suc more) =
    let e : k + suc more ≡ suc (k + more) = omega arith in
    let before : given left picks burst k ≤ given left picks burst (k + more) = given_within left picks burst k more in
    let here : given left picks burst (suc (k + more)) ≡ given left picks burst (k + more) + allowed left picks burst (k + more) = given_more left picks burst (k + more) in
    subst (λ n. given left picks burst k ≤ given left picks burst n) (sym e) (omega (arith, before, here))

-- what was spent of the firings that are left: each picked instance has its share, or they are given out in turn
pub record IsSpent (burst left picks k fired : ℕ) : Type 0 where
  pub few : fired ≤ 65536 * k
  pub within : fired ≤ left
  pub shared : picks ≤ left → fired ≤ given left picks burst k

pub spent_none : (burst left picks : ℕ) → IsSpent burst left picks 0 0
spent_none burst left picks = record { few = omega arith; within = omega arith; shared = λ enough. omega arith }

pub spent_more : (burst left picks k fired limit count : ℕ) → burst ≤ 65536 → k < picks → (picks ≤ left → allowed_together left picks burst ≤ left)
    → limit ≡ limit_of burst left picks k fired → limit ≤ burst → count ≤ limit → IsSpent burst left picks k fired → IsSpent burst left picks (k + 1) (fired + count)
spent_more burst left picks k fired limit count most low together limit_is within_burst few so_far = ⊎_elim
    (λ short.
    let no : nat_le picks left ≡ false = not_le picks left short in
    let is : limit ≡ min burst (left - fired) = limit_is ∙ if_no (nat_le picks left) (allowed left picks burst k) (min burst (left - fired)) no in
    record {
      few = omega (arith, so_far.few, few, within_burst, most);
      within = omega (arith, so_far.within, few, is);
      shared = λ enough. absurd (omega (arith, enough, short));
    })
    (λ enough.
    let yes : nat_le picks left ≡ true = le-leb picks left (omega (arith, enough)) in
    let is : limit ≡ allowed left picks burst k = limit_is ∙ if_yes (nat_le picks left) (allowed left picks burst k) (min burst (left - fired)) yes in
    let before : fired ≤ given left picks burst k = so_far.shared (omega (arith, enough)) in
    let next : given left picks burst (suc k) ≡ given left picks burst k + allowed left picks burst k = given_more left picks burst k in
    let rest : given left picks burst (suc k) ≤ given left picks burst (suc k + (picks - suc k)) = given_within left picks burst (suc k) (picks - suc k) in
    let all : given left picks burst (suc k + (picks - suc k)) ≤ left =
    subst (λ n. given left picks burst n ≤ left) (let e : picks ≡ suc k + (picks - suc k) = omega (arith, low) in e) (together (omega (arith, enough))) in
    record {
      few = omega (arith, so_far.few, few, within_burst, most);
      within = omega (arith, before, next, rest, all, few, is);
      shared = λ _. subst (λ n. fired + count ≤ given left picks burst n) (let e : suc k ≡ k + 1 = omega arith in e) (omega (arith, before, next, few, is));
    })
    (cases_lt left picks)
  where
    if_yes : {A : Type 0} (b : Bool) (x y : A) → b ≡ true → (if b then x else y) ≡ x
    if_yes true x y h = refl
    if_yes false x y h = cc

    if_no : {A : Type 0} (b : Bool) (x y : A) → b ≡ false → (if b then x else y) ≡ y
    if_no true x y h = cc
    if_no false x y h = refl

    not_le : (m n : ℕ) → n < m → nat_le m n ≡ false
    not_le m n less = by_bool (nat_le m n) refl
      where
        by_bool : (b : Bool) → nat_le m n ≡ b → nat_le m n ≡ false
        by_bool true is = (let low : m ≤ n = leb-true m n is in absurd (omega (arith, low, less)))
        by_bool false is = is

-- Traps.

abbrev pub or_line : Option Line → Option Line → Option Line
or_line None second = second
or_line (Some line) second = Some line

-- the lowest trap, among the halts of the first leaves and of those that follow
trap_after : (i : ℕ) (halts rest : List Halt) → first_trap i (halts ++ rest) ≡ or_line (first_trap i halts) (first_trap (i + length halts) rest)
trap_after i [] rest = ap (λ n. first_trap n rest) (let e : i ≡ i + 0 = omega arith in e)
trap_after i (Trapping a cause ∷ halts) rest = refl
trap_after i (Unpicked ∷ halts) rest = trap_after (suc i) halts rest ∙ ap (λ n. or_line (first_trap (suc i) halts) (first_trap n rest)) (let e : suc i + length halts ≡ i + suc (length halts) = omega arith in e)
trap_after i (Spent ∷ halts) rest = trap_after (suc i) halts rest ∙ ap (λ n. or_line (first_trap (suc i) halts) (first_trap n rest)) (let e : suc i + length halts ≡ i + suc (length halts) = omega arith in e)
trap_after i (Waiting ∷ halts) rest = trap_after (suc i) halts rest ∙ ap (λ n. or_line (first_trap (suc i) halts) (first_trap n rest)) (let e : suc i + length halts ≡ i + suc (length halts) = omega arith in e)
trap_after i (NoRoom ∷ halts) rest = trap_after (suc i) halts rest ∙ ap (λ n. or_line (first_trap (suc i) halts) (first_trap n rest)) (let e : suc i + length halts ≡ i + suc (length halts) = omega arith in e)

trap_of_end : (inst : InstId) (end : BurstEnd) → first_trap inst.0 (halt_of end ∷ []) ≡ trap_line (trapped_by inst end)
trap_of_end inst burst.Spent = refl
trap_of_end inst burst.Waits = refl
trap_of_end inst (burst.NoRoom action port) = refl
trap_of_end inst (burst.Trap action cause) = refl

line_of_first : (first second : Option Trapped) → trap_line (first_of first second) ≡ or_line (trap_line first) (trap_line second)
line_of_first None second = refl
line_of_first (Some trapped) second = refl

or_none : (line : Option Line) → or_line line None ≡ line
or_none None = refl
or_none (Some line) = refl

-- If nothing fired.

empty_of : {A : Type 0} (xs : List A) → length xs ≡ 0 → xs ≡ []
empty_of [] none = refl
empty_of (x ∷ xs) none = absurd (omega (arith, none))

first_none : {A : Type 0} (first second : Option A) → first_of first second ≡ None → first ≡ None
first_none None second none = refl
first_none (Some x) second none = cc

second_none : {A : Type 0} (first second : Option A) → first_of first second ≡ None → second ≡ None
second_none None second none = none
second_none (Some x) second none = cc

few_before : (marks : List Bool) (i : ℕ) → picked_before marks i ≤ i
few_before [] zero = omega arith
few_before [] (suc i) = omega arith
few_before (mark ∷ marks) zero = omega arith
few_before (true ∷ marks) (suc i) = let rest : picked_before marks i ≤ i = few_before marks i in omega (arith, rest)
few_before (false ∷ marks) (suc i) = let rest : picked_before marks i ≤ i = few_before marks i in omega (arith, rest)

take_whole : {A : Type 0} (xs : List A) (k : ℕ) → length xs ≤ k → take k xs ≡ xs
take_whole [] zero few = refl
take_whole [] (suc k) few = refl
take_whole (x ∷ xs) zero few = absurd (omega (arith, few))
take_whole (x ∷ xs) (suc k) few = ap (λ ys. x ∷ ys) (take_whole xs k (omega (arith, few)))

-- what is found once one leaf more waits or lacks room
waits_or_lacks : {X : Type 0} (net : Network X) (s : State X) (n : ℕ) → ((k : ℕ) → k < n → LooksFed net s k look.Waits ⊎ ((b : ℕ) × LacksNow net s k b))
    → LooksFed net s n look.Waits ⊎ ((b : ℕ) × LacksNow net s n b) → (k : ℕ) → k < n + 1 → LooksFed net s k look.Waits ⊎ ((b : ℕ) × LacksNow net s k b)
waits_or_lacks net s n all here k low = ⊎_elim
    (λ same. subst (λ j. LooksFed net s j look.Waits ⊎ ((b : ℕ) × LacksNow net s j b)) (sym same) here)
    (λ differ. all k (omega (arith, low, differ)))
    (cases_eq k n)

sees_waits : {X : Type 0} (net : Network X) (s : State X) (n : ℕ) (lacks : Option Lacking) → LooksFed net s n look.Waits → Sees n net s lacks → Sees (n + 1) net s (first_of lacks None)
sees_waits net s n None here sees = λ k low. ⊎_elim
    (λ same. subst (λ j. LooksFed net s j look.Waits) (sym same) here)
    (λ differ. sees k (omega (arith, low, differ)))
    (cases_eq k n)
sees_waits net s n (Some lacking) here sees = record {
  low = omega (arith, sees.low);
  lacks = sees.lacks;
  below = sees.below;
  each = waits_or_lacks net s n sees.each (inl here);
}

sees_lacks : {X : Type 0} (net : Network X) (s : State X) (n : ℕ) (lacks : Option Lacking) (action : ActId) (port : ℕ) → LooksFed net s n (look.NoRoom action port) → Sees n net s lacks
    → Sees (n + 1) net s (first_of lacks (Some (record { inst = record { 0 = n }; action = action })))
sees_lacks net s n None action port here sees = record {
  low = omega arith;
  lacks = (port, here);
  below = sees;
  each = waits_or_lacks net s n (λ k low. inl (sees k low)) (inr (action.0, (port, here)));
}
sees_lacks net s n (Some lacking) action port here sees = record {
  low = omega (arith, sees.low);
  lacks = sees.lacks;
  below = sees.below;
  each = waits_or_lacks net s n sees.each (inr (action.0, (port, here)));
}

action_stays : {X : Type 0} (old new : List (Cell X)) → SameActors old new → (i a : ℕ) → HasAction old i a → HasAction new i a
action_stays old new same i a has =
    let on = on_cell (slice_get old i) (λ cell. a < cell.actor.actions) has in
    let after = there_too old new i on.0 (sym same.count) on.1 in
    on_some (slice_get new i) (λ cell. a < cell.actor.actions) after.0 after.1
    (subst (λ actor. a < actor.actions) (sym (same.each i on.0 after.0 on.1 after.1).same_actor) on.2)

named_stays : {X : Type 0} (old new : List (Cell X)) → SameActors old new → (lacks : Option Lacking) → NamesIts old lacks → NamesIts new lacks
named_stays old new same None named = tt
named_stays old new same (Some lacking) named = action_stays old new same lacking.inst.0 lacking.action.0 named

named_then : {X : Type 0} (old new : List (Cell X)) → SameActors old new → (i : ℕ) (lacks more : Option Lacking) → NamesIts old lacks → NamesIts old more
    → NamesIts new (first_of lacks more)
named_then old new same i None more named next = named_stays old new same more next
named_then old new same i (Some lacking) more named next = named_stays old new same (Some lacking) named

idle_more : {X : Type 0} (i : ℕ) (lacks : Option Lacking) (old now new : Held (Cell X)) (end : BurstEnd) → Idle i lacks old now → trapped_by (record { 0 = i }) end ≡ None
    → IsAtRest new → EndsSeeHalt i end now → NamesLacking now.cells i end → SameActors now.cells new.cells → (limit : ℕ) → 1 ≤ limit
    → ((net : Network X) (opened : State X) → StandsSince net old opened opened → HaltsAt net opened i limit opened (halt_of end) × StandsSince net new opened opened)
    → Idle (i + 1) (first_of lacks (lacking_by (record { 0 = i }) end)) old new
idle_more i lacks old now new burst.Spent before untrapped rest ends named same limit enough goes = record {
  rests = rest;
  named = named_then now.cells new.cells same i lacks None before.named tt;
  still = λ net opened that. (goes net opened that).1;
  tells = λ net opened that wired fed. let none : limit ≡ 0 = (goes net opened that).0 in absurd (omega (arith, none, enough));
}
idle_more i lacks old now new burst.Waits before untrapped rest ends named same limit enough goes = record {
  rests = rest;
  named = named_then now.cells new.cells same i lacks None before.named tt;
  still = λ net opened that. (goes net opened that).1;
  tells = λ net opened that wired fed. sees_waits net opened i lacks (ends net opened (before.still net opened that).now wired fed).1 (before.tells net opened that wired fed);
}
idle_more i lacks old now new (burst.NoRoom action port) before untrapped rest ends named same limit enough goes = record {
  rests = rest;
  named = named_then now.cells new.cells same i lacks (Some (record { inst = record { 0 = i }; action = action })) before.named named;
  still = λ net opened that. (goes net opened that).1;
  tells = λ net opened that wired fed. sees_lacks net opened i lacks action port (ends net opened (before.still net opened that).now wired fed).1 (before.tells net opened that wired fed);
}
idle_more i lacks old now new (burst.Trap action cause) before untrapped rest ends named same limit enough goes = cc

-- The bursts so far.

-- the state goes on by the bursts so far; whatever bursts follow from there follow from the start
pub record FiresUpTo {X : Type 0} (net : Network X) (share : Share) (marks : List Bool) (i k fired : ℕ) (opened : State X) (bursts : List (List ℕ)) (halts : List Halt) (now : Held (Cell X)) : Type 0 where
  pub s : State X
  pub stands : StandsSince net now opened s
  pub goes : (more : List (List ℕ)) (after : List Halt) (last : State X) → AreBursts net opened share (drop i marks) i k fired s more after last
      → AreBursts net opened share marks 0 0 0 opened (bursts ++ more) (halts ++ after) last

-- a burst that didn't end by a trap leaves no mark
not_trapped : (inst : InstId) (end : BurstEnd) → trapped_by inst end ≡ None → traps end ≡ false
not_trapped inst burst.Spent none = refl
not_trapped inst burst.Waits none = refl
not_trapped inst (burst.NoRoom action port) none = refl
not_trapped inst (burst.Trap action cause) none = cc

pub record IsBursting {X : Type 0} (share : Share) (marks : List Bool) (burst i k fired : ℕ) (trap : Option Trapped) (lacks : Option Lacking) (old now : Held (Cell X)) : Type 0 where
  pub bursts : List (List ℕ)
  pub halts : List Halt
  pub count : length bursts ≡ i
  pub halted : length halts ≡ i
  pub picks : k ≡ picked_before marks i
  pub fired_is : fired ≡ count_of bursts
  pub trap_is : trap_line trap ≡ first_trap 0 halts
  pub untrapped : trap ≡ None → AreUntrapped now.cells
  pub noted : (j : ℕ) → journal_of (slice_get now.cells j) ≡ slice_index_or bursts j []
  pub ahead : (j : ℕ) → i ≤ j → slice_get now.cells j ≡ slice_get old.cells j
  pub same_actors : SameActors old.cells now.cells
  pub links : now.links ≡ old.links
  pub capacities : now.capacities ≡ old.capacities
  pub waited : now.waited ≡ old.waited
  pub states : (net : Network X) (opened : State X) → StandsSince net old opened opened → FiresUpTo net share marks i k fired opened bursts halts now
  pub idle : 0 < share.left → fired ≡ 0 → trap ≡ None → k ≡ i → IsAtRest old → Idle i lacks old now

same_all : {X : Type 0} (cells : List (Cell X)) → SameActors cells cells
same_all cells = record {
  count = refl;
  each = λ i before after was is. subst (IsSameActor before) (some_is before after (sym was ∙ is)) (same_actor before);
}

-- fresh cells have empty journals
journal_none : {X : Type 0} (burst : ℕ) (cells : List (Cell X)) → AreFresh burst cells → (j : ℕ) → journal_of (slice_get cells j) ≡ []
journal_none burst cells fresh j = ⊎_elim
    (λ low. let here = some_at cells j low in ap (λ o. journal_of o) here.1 ∙ (fresh j here.0 here.1).empty)
    (λ high. ap (λ o. journal_of o) (get_beyond cells j (omega (arith, high))))
    (cases_lt j (length cells))

pub bursting_none : {X : Type 0} (share : Share) (marks : List Bool) (burst : ℕ) (held : Held (Cell X)) → AreFresh burst held.cells → IsBursting share marks burst 0 0 0 None None held held
bursting_none share marks burst held fresh = record {
  bursts = [];
  halts = [];
  count = refl;
  halted = refl;
  picks = ap count_picked (sym (take_none marks));
  fired_is = refl;
  trap_is = refl;
  untrapped = λ none j cell at. (fresh j cell at).untrapped;
  noted = journal_none burst held.cells fresh;
  ahead = λ j low. refl;
  same_actors = same_all held.cells;
  links = refl;
  capacities = refl;
  waited = refl;
  states = λ net opened that. record { s = opened; stands = that; goes = λ more after last goes. subst (λ ms. AreBursts net opened share ms 0 0 0 opened more after last) (drop_none marks) goes };
  idle = λ some none untrapped all rest. record {
    rests = rest;
    named = tt;
    still = λ net opened that. that;
    tells = λ net opened that wired fed j low. absurd (omega (arith, low));
  };
}
  where
    take_none : {A : Type 0} (xs : List A) → take 0 xs ≡ []
    take_none [] = refl
    take_none (x ∷ xs) = refl

    drop_none : {A : Type 0} (xs : List A) → drop 0 xs ≡ xs
    drop_none [] = refl
    drop_none (x ∷ xs) = refl

module _ {X : Type 0} (share : Share) (marks : List Bool) (burst i k fired : ℕ) (trap : Option Trapped) (lacks : Option Lacking) (old now : Held (Cell X)) (so_far : IsBursting share marks burst i k fired trap lacks old now) where
  -- the next cell may make its burst
  pub may_burst : AreFresh burst old.cells → i < length old.cells → (limit : ℕ) → limit ≤ burst → MayBurst now.cells i limit
  may_burst fresh low limit few =
      let here = some_at old.cells i low in
      let at : slice_get now.cells i ≡ Some here.0 = so_far.ahead i (omega arith) ∙ here.1 in
      let cell = fresh i here.0 here.1 in
      let none : length here.0.journal ≡ 0 = ap (λ js. length js) cell.empty in
      on_some (slice_get now.cells i) (λ c. (c.trapped ≡ false) × (length c.journal + limit ≤ c.journal_room)) here.0 at (cell.untrapped, omega (arith, none, few, cell.room))

  -- the next cell's journal names what it fired
  noted_next : (limit : ℕ) (end : BurstEnd) (new : Held (Cell X)) (works : WorksAt i limit end now new) → journal_of (slice_get new.cells i) ≡ works.actions
  noted_next limit end new works = works.noted ∙ ap (λ js. js ++ works.actions) (so_far.noted i ∙ index_beyond so_far.bursts [] i (omega (arith, so_far.count)))

  pub noted_few : (limit : ℕ) (end : BurstEnd) (new : Held (Cell X)) → WorksAt i limit end now new → (count : ℕ) → count ≡ length (journal_of (slice_get new.cells i)) → count ≤ limit
  noted_few limit end new works count counted = omega (arith, counted, ap (λ js. length js) (noted_next limit end new works), works.few)

  -- the burst of one that is picked
  pub bursting_more : (limit : ℕ) (end : BurstEnd) (new : Held (Cell X)) (fresh : AreFresh burst old.cells) → slice_get marks i ≡ Some true
      → limit ≡ limit_of share.burst share.left share.picks k fired → (works : WorksAt i limit end now new) → (count : ℕ) → count ≡ length (journal_of (slice_get new.cells i))
      → SameActors now.cells new.cells → new.links ≡ now.links → new.capacities ≡ now.capacities → new.waited ≡ now.waited → (fired < share.left → 1 ≤ limit)
      → IsBursting share marks burst (i + 1) (k + 1) (fired + count) (first_of trap (trapped_by (record { 0 = i }) end)) (first_of lacks (lacking_by (record { 0 = i }) end)) old new
  bursting_more limit end new fresh here limit_is works count counted same links capacities waited enough = record {
    bursts = so_far.bursts ++ works.actions ∷ [];
    halts = so_far.halts ++ halt_of end ∷ [];
    count = length-append so_far.bursts (works.actions ∷ []) ∙ ap (λ n. n + 1) so_far.count;
    halted = length-append so_far.halts (halt_of end ∷ []) ∙ ap (λ n. n + 1) so_far.halted;
    picks = (let more : picked_before marks (suc i) ≡ picked_before marks i + 1 = picked_more marks i here in ap (λ n. n + 1) so_far.picks ∙ (sym more ∙ ap (λ n. picked_before marks n) (let e : suc i ≡ i + 1 = omega arith in e)));
    fired_is = (let all : count_of (so_far.bursts ++ works.actions ∷ []) ≡ count_of so_far.bursts + length works.actions = count_more so_far.bursts works.actions in
        omega (arith, so_far.fired_is, counted, ap (λ js. length js) noted_here, all));
    trap_is =
        line_of_first trap (trapped_by (record { 0 = i }) end)
        ∙ (ap (λ line. or_line line (trap_line (trapped_by (record { 0 = i }) end))) so_far.trap_is
        ∙ (ap (λ line. or_line (first_trap 0 so_far.halts) line) (sym (trap_of_end (record { 0 = i }) end))
        ∙ (ap (λ n. or_line (first_trap 0 so_far.halts) (first_trap n (halt_of end ∷ []))) (let e : i ≡ 0 + length so_far.halts = omega (arith, so_far.halted) in e)
        ∙ sym (trap_after 0 so_far.halts (halt_of end ∷ [])))));
    untrapped = λ none j cell at. ⊎_elim
        (λ is.
        let here : slice_get new.cells i ≡ Some cell = ap (slice_get new.cells) (sym is) ∙ at in
        let mark : cell.trapped ≡ traps end = subst (λ o. OnCell o (λ c. c.trapped ≡ traps end)) here works.marked in
        mark ∙ not_trapped (record { 0 = i }) end (second_none trap (trapped_by (record { 0 = i }) end) none))
        (λ differ. so_far.untrapped (first_none trap (trapped_by (record { 0 = i }) end) none) j cell (sym (works.elsewhere j differ) ∙ at))
        (cases_eq j i);
    noted = λ j. ⊎_elim
        (λ is.
        subst (λ n. journal_of (slice_get new.cells n) ≡ slice_index_or (so_far.bursts ++ works.actions ∷ []) n []) (sym is)
        (noted_here ∙ (sym (index_last so_far.bursts works.actions []) ∙ ap (λ n. slice_index_or (so_far.bursts ++ works.actions ∷ []) n []) so_far.count)))
        (λ differ. ap (λ o. journal_of o) (works.elsewhere j differ) ∙ (so_far.noted j ∙ elsewhere_noted j differ))
        (cases_eq j i);
    ahead = λ j low. works.elsewhere j (λ is. absurd (omega (arith, is, low))) ∙ so_far.ahead j (omega (arith, low));
    same_actors = same_then old.cells now.cells new.cells so_far.same_actors same;
    links = links ∙ so_far.links;
    capacities = capacities ∙ so_far.capacities;
    waited = waited ∙ so_far.waited;
    states = λ net opened that.
        let before = so_far.states net opened that in
        let next : GoesOn net opened i limit before.s works.actions (halt_of end) new = works.states net opened before.s before.stands in
        record {
          s = next.last;
          stands = next.stands;
          goes = λ more after last goes.
              subst (λ bs. AreBursts net opened share marks 0 0 0 opened bs ((so_far.halts ++ halt_of end ∷ []) ++ after) last) (sym (append_assoc so_far.bursts (works.actions ∷ []) more))
              (subst (λ hs. AreBursts net opened share marks 0 0 0 opened (so_far.bursts ++ works.actions ∷ more) hs last) (sym (append_assoc so_far.halts (halt_of end ∷ []) after))
              (before.goes (works.actions ∷ more) (halt_of end ∷ after) last
              (subst (λ ms. AreBursts net opened share ms i k fired before.s (works.actions ∷ more) (halt_of end ∷ after) last) (sym (drop_at marks i true here)) (
                next.last,
                subst (λ n. IsBurst net opened i n before.s works.actions (halt_of end) next.last) limit_is next.bursts,
                subst (λ n. AreBursts net opened share (drop n marks) n (suc k) (fired + length works.actions) next.last more after last) (let e : i + 1 ≡ suc i = omega arith in e)
                    (subst (λ n. AreBursts net opened share (drop (i + 1) marks) (i + 1) n (fired + length works.actions) next.last more after last) (let e : k + 1 ≡ suc k = omega arith in e)
                    (subst (λ n. AreBursts net opened share (drop (i + 1) marks) (i + 1) (k + 1) n next.last more after last)
                    (let e : fired + count ≡ fired + length works.actions = omega (arith, counted, ap (λ js. length js) noted_here) in e) goes)),
              ))));
        };
    idle = λ some none untrapped all rest.
        let before : Idle i lacks old now = so_far.idle some (omega (arith, none)) (first_none trap (trapped_by (record { 0 = i }) end) untrapped) (omega (arith, all)) rest in
        let nothing : works.actions ≡ [] = empty_of works.actions (omega (arith, none, counted, ap (λ js. length js) noted_here)) in
        let goes : (net : Network X) (opened : State X) (that : StandsSince net old opened opened) → HaltsAt net opened i limit opened (halt_of end) × StandsSince net new opened opened =
        (λ net opened that.
        let next : GoesOn net opened i limit opened works.actions (halt_of end) new = works.states net opened opened (before.still net opened that) in
        let halts : HaltsAt net opened i limit opened (halt_of end) × (opened ≡ next.last) = subst (λ acts. IsBurst net opened i limit opened acts (halt_of end) next.last) nothing next.bursts in
        (halts.0, subst (λ s. StandsSince net new opened s) (sym halts.1) next.stands)) in
        idle_more i lacks old now new end before (second_none trap (trapped_by (record { 0 = i }) end) untrapped) (works.rests nothing before.rests) (works.ends nothing before.rests) works.named same
        limit (enough (omega (arith, some, none))) goes;
  }
    where
      noted_here : journal_of (slice_get new.cells i) ≡ works.actions
      noted_here = noted_next limit end new works

      elsewhere_noted : (j : ℕ) → (j ≡ i → ⊥) → slice_index_or so_far.bursts j [] ≡ slice_index_or (so_far.bursts ++ works.actions ∷ []) j []
      elsewhere_noted j differ = ⊎_elim
          (λ low. sym (index_before so_far.bursts works.actions [] j (omega (arith, low, so_far.count))))
          (λ high.
          index_beyond so_far.bursts [] j (omega (arith, high, so_far.count))
          ∙ sym (index_beyond (so_far.bursts ++ works.actions ∷ []) [] j
          (let n : length (so_far.bursts ++ works.actions ∷ []) ≡ length so_far.bursts + 1 = length-append so_far.bursts (works.actions ∷ []) in omega (arith, n, high, differ, so_far.count))))
          (cases_lt j i)

  -- one that isn't picked fires nothing
  pub bursting_other : slice_get marks i ≡ Some false → IsBursting share marks burst (i + 1) k fired trap lacks old now
  bursting_other here = record {
    bursts = so_far.bursts ++ [] ∷ [];
    halts = so_far.halts ++ Unpicked ∷ [];
    count = length-append so_far.bursts ([] ∷ []) ∙ ap (λ n. n + 1) so_far.count;
    halted = length-append so_far.halts (Unpicked ∷ []) ∙ ap (λ n. n + 1) so_far.halted;
    picks = so_far.picks ∙ (sym (picked_same marks i here) ∙ ap (λ n. picked_before marks n) (let e : suc i ≡ i + 1 = omega arith in e));
    fired_is = (let all : count_of (so_far.bursts ++ [] ∷ []) ≡ count_of so_far.bursts + 0 = count_more so_far.bursts [] in omega (arith, so_far.fired_is, all));
    trap_is = so_far.trap_is ∙ (sym (or_none (first_trap 0 so_far.halts)) ∙ sym (trap_after 0 so_far.halts (Unpicked ∷ [])));
    untrapped = so_far.untrapped;
    noted = λ j. so_far.noted j ∙ ⊎_elim
        (λ low. sym (index_before so_far.bursts [] [] j low))
        (λ high. index_beyond so_far.bursts [] j (omega (arith, high)) ∙ sym (none_more so_far.bursts j (omega (arith, high))))
        (cases_lt j (length so_far.bursts));
    ahead = λ j low. so_far.ahead j (omega (arith, low));
    same_actors = so_far.same_actors;
    links = so_far.links;
    capacities = so_far.capacities;
    waited = so_far.waited;
    states = λ net opened that.
        let before = so_far.states net opened that in
        record {
          s = before.s;
          stands = before.stands;
          goes = λ more after last goes.
              subst (λ bs. AreBursts net opened share marks 0 0 0 opened bs ((so_far.halts ++ Unpicked ∷ []) ++ after) last) (sym (append_assoc so_far.bursts ([] ∷ []) more))
              (subst (λ hs. AreBursts net opened share marks 0 0 0 opened (so_far.bursts ++ [] ∷ more) hs last) (sym (append_assoc so_far.halts (Unpicked ∷ []) after))
              (before.goes ([] ∷ more) (Unpicked ∷ after) last
              (subst (λ ms. AreBursts net opened share ms i k fired before.s ([] ∷ more) (Unpicked ∷ after) last) (sym (drop_at marks i false here))
              (refl, refl, subst (λ n. AreBursts net opened share (drop n marks) n k fired before.s more after last) (let e : i + 1 ≡ suc i = omega arith in e) goes))));
        };
    idle = λ some none untrapped all rest. absurd (omega (arith, all, so_far.picks, few_before marks i));
  }
    where
      none_more : (xs : List (List ℕ)) (j : ℕ) → length xs ≤ j → slice_index_or (xs ++ [] ∷ []) j [] ≡ []
      none_more [] zero high = refl
      none_more [] (suc j) high = refl
      none_more (x ∷ xs) zero high = absurd (omega (arith, high))
      none_more (x ∷ xs) (suc j) high = none_more xs j (omega (arith, high))

  -- .. and so all are idle
  pub idle_all : i ≡ length marks → 0 < share.left → fired ≡ 0 → trap ≡ None → count_picked marks ≡ length marks → IsAtRest old → Idle (length marks) lacks old now
  idle_all all some none untrapped every rest =
      let whole : take i marks ≡ marks = take_whole marks i (omega (arith, all)) in
      let picks : k ≡ i = so_far.picks ∙ (ap count_picked whole ∙ (every ∙ sym all)) in
      subst (λ n. Idle n lacks old now) all (so_far.idle some none untrapped picks rest)

  -- all bursts are made
  pub bursting_all : i ≡ length marks → Bursted share marks fired trap old now
  bursting_all all = record {
    bursts = so_far.bursts;
    halts = so_far.halts;
    count = so_far.count ∙ all;
    noted = so_far.noted;
    fired_is = so_far.fired_is;
    trap_is = so_far.trap_is;
    untrapped = so_far.untrapped;
    states = λ net opened that.
        let before = so_far.states net opened that in
        record {
          last = before.s;
          goes = subst (λ bs. AreBursts net opened share marks 0 0 0 opened bs so_far.halts before.s) (append-nil so_far.bursts)
              (subst (λ hs. AreBursts net opened share marks 0 0 0 opened (so_far.bursts ++ []) hs before.s) (append-nil so_far.halts)
              (before.goes [] [] before.s
              (subst (λ ms. AreBursts net opened share ms i k fired before.s [] [] before.s) (sym (drop_all marks i (omega (arith, all)))) refl)));
          stands = before.stands;
        };
    same_actors = so_far.same_actors;
  }
