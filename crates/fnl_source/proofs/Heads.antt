-- The ports of sound actors are told apart and few, and no action takes or gives more there than is told.
use Rattle.std.proofs.Common.{◌≡◌, ◌≢◌, ℕ, zero, suc, ◌+◌, ◌<◌, ◌≤◌, Bool, true, false, List, [], ◌∷◌, ◌++◌, map, length, refl, sym, ap, subst, ◌∙◌, Option, None, Some, arith}
use Rattle.std.specs.Prelude.{◌==◌, nat_lt, All, AllPairs, Contains, max, slice_get, if◌then◌else◌}
use Rattle.std.proofs.lemmas.Bool.Decides.{nat_tests}
use Rattle.std.proofs.lemmas.List.{map-append}
use Rattle.std.proofs.lemmas.List.Elements.{All-nil, All-cons, Contains-append_left}
use Rattle.std.proofs.lemmas.Option.{slice_get_past}
use Rattle.std.proofs.lemmas.List.Kept.{AllPairs-cons}
use Rattle.cal_model.specs.Actor.{Action, Actor, Output, Pattern, Port}
use Rattle.cal_model.specs.Kinding.{Names}
use Rattle.cal_model.specs.Rates.{give, given_on, need, parts, parts_times, taken_on}
use Rattle.cal_model.specs.Sound.{AreDistinct, Each, IsAction, IsOutput, IsPattern, IsSound, max_ports, max_rate}
use Rattle.fnl_flatten.specs.Head.{IsHeadSound, head_names}
use Rattle.fnl_flatten.specs.Joints.{rate_of}
use Rattle.fnl_source.specs.Actors.{head_of, most, ports_from}
use Rattle.fnl_source.specs.Answers.{ActorsHaveHeads}

-- ---- the greatest of the rates of some actions

below_or_last : (a n : ℕ) (b : Bool) → (a == n) ≡ b → a < suc n → (rate : ℕ → ℕ) (most : ℕ) → (a < n → rate a ≤ most) → rate a ≤ max (rate n) most
below_or_last a n true e low rate m h =
    let same : a ≡ n = grind (arith, nat_tests) in
    subst (λ k. rate a ≤ max (rate k) m) same (omega arith)
below_or_last a n false e low rate m h =
    let other : a < n = grind (arith, nat_tests) in
    let less = h other in omega (arith, less)

below_most : (rate : ℕ → ℕ) (n a : ℕ) → a < n → rate a ≤ most rate n
below_most rate zero a low = absurd (omega (arith, low))
below_most rate (suc n) a low = below_or_last a n (a == n) refl low rate (most rate n) (λ less. below_most rate n a less)

most_within : (rate : ℕ → ℕ) (n m : ℕ) → ((a : ℕ) → rate a ≤ m) → most rate n ≤ m
most_within rate zero m h = omega arith
most_within rate (suc n) m h =
    let first = h n in
    let rest = most_within rate n m h in
    omega (arith, first, rest)

-- ---- the rate that is told of a port

ports_many : (k : ℕ) (rate : ℕ → ℕ → ℕ) (n : ℕ) (ps : List Port) → length ps ≡ length (ports_from k rate n ps)
ports_many k rate n [] = refl
ports_many k rate n (p ∷ ps) = ap suc (ports_many (suc k) rate n ps)

told_within : (k : ℕ) (rate : ℕ → ℕ → ℕ) (n m : ℕ) (ps : List Port) (p : ℕ) → ((a q : ℕ) → rate a q ≤ m) → rate_of (slice_get (ports_from k rate n ps) p) ≤ m
told_within k rate n m [] p h = omega arith
told_within k rate n m (x ∷ ps) zero h = most_within (λ a. rate a k) n m (λ a. h a k)
told_within k rate n m (x ∷ ps) (suc p) h = told_within (suc k) rate n m ps p h

-- an action that takes or gives something at a port is there, and so is the port
told_of : (k : ℕ) (rate : ℕ → ℕ → ℕ) (n : ℕ) (ps : List Port) (a p : ℕ) → a < n → p < length ps → rate a (p + k) ≤ rate_of (slice_get (ports_from k rate n ps) p)
told_of k rate n [] a p low inside = absurd (omega (arith, inside))
told_of k rate n (x ∷ ps) a zero low inside =
    let e : k ≡ 0 + k = omega arith in
    subst (λ q. rate a q ≤ most (λ b. rate b k) n) e (below_most (λ b. rate b k) n a low)
told_of k rate n (x ∷ ps) a (suc p) low inside =
    let less : p < length ps = omega (arith, inside) in
    let e : p + suc k ≡ suc p + k = omega arith in
    subst (λ q. rate a q ≤ rate_of (slice_get (ports_from (suc k) rate n ps) p)) e (told_of (suc k) rate n ps a p low less)

-- ---- nothing is taken or given where there is no port

beyond : (q p n : ℕ) (b : Bool) → (q == p) ≡ b → q < n → n ≤ p → b ≡ false
beyond q p n true e low high = let same : q ≡ p = grind (arith, nat_tests) in absurd (omega (arith, same, low, high))
beyond q p n false e low high = refl

untaken : (actor : Actor) (p : ℕ) (qs : List Pattern) → length actor.ins ≤ p → Each (IsPattern actor) qs → taken_on p qs ≡ 0
untaken actor p [] high is = refl
untaken actor p (q ∷ qs) high is =
    ap (λ b. if b then parts_times (length q.names) q.repeat else taken_on p qs) (beyond q.port p (length actor.ins) (q.port == p) refl is.0.port high)
    ∙ untaken actor p qs high is.1

ungiven : (actor : Actor) (names : Names) (p : ℕ) (os : List Output) → length actor.outs ≤ p → Each (IsOutput actor names) os → given_on p os ≡ 0
ungiven actor names p [] high is = refl
ungiven actor names p (o ∷ os) high is =
    ap (λ b. if b then parts_times (parts o.values) o.repeat else given_on p os) (beyond o.port p (length actor.outs) (o.port == p) refl is.0.port high)
    ∙ ungiven actor names p os high is.1

each_at : {A : Type 0} (P : A → Type 0) (xs : List A) (k : ℕ) (x : A) → Each P xs → slice_get xs k ≡ Some x → P x
each_at P [] k x h e = absurd cc
each_at P (y ∷ ys) zero x h e = let same : y ≡ x = cc in subst P same h.0
each_at P (y ∷ ys) (suc k) x h e = each_at P ys k x h.1 e

abbrev taken_by : ℕ → Option Action → ℕ
taken_by p act = elim act [ None ↦ 0 | Some a ↦ taken_on p a.patterns ]

abbrev given_by : ℕ → Option Action → ℕ
given_by p act = elim act [ None ↦ 0 | Some a ↦ given_on p a.outputs ]

none_taken : (actor : Actor) (p : ℕ) (act : Option Action) → length actor.ins ≤ p → ((a : Action) → act ≡ Some a → IsAction actor a) → taken_by p act ≡ 0
none_taken actor p None high is = refl
none_taken actor p (Some a) high is = untaken actor p a.patterns high (is a refl).patterns

none_given : (actor : Actor) (p : ℕ) (act : Option Action) → length actor.outs ≤ p → ((a : Action) → act ≡ Some a → IsAction actor a) → given_by p act ≡ 0
none_given actor p None high is = refl
none_given actor p (Some a) high is = ungiven actor _ p a.outputs high (is a refl).outputs

-- ---- a rate is at most what is told

by_tests : (r told a n p m : ℕ) (b c : Bool) → nat_lt a n ≡ b → nat_lt p m ≡ c → (a < n → p < m → r ≤ told) → (n ≤ a → r ≡ 0) → (m ≤ p → r ≡ 0) → r ≤ told
by_tests r told a n p m true true e f h no_action no_port = h (grind (arith, nat_tests)) (grind (arith, nat_tests))
by_tests r told a n p m false c e f h no_action no_port = let none = no_action (grind (arith, nat_tests)) in omega (arith, none)
by_tests r told a n p m true false e f h no_action no_port = let none = no_port (grind (arith, nat_tests)) in omega (arith, none)

at_most_told : (rate : ℕ → ℕ → ℕ) (n : ℕ) (ps : List Port) (a p : ℕ) → (n ≤ a → rate a p ≡ 0) → (length ps ≤ p → rate a p ≡ 0)
    → rate a p ≤ rate_of (slice_get (ports_from 0 rate n ps) p)
at_most_told rate n ps a p no_action no_port =
    by_tests (rate a p) (rate_of (slice_get (ports_from 0 rate n ps) p)) a n p (length ps) (nat_lt a n) (nat_lt p (length ps)) refl refl
    (λ low inside. let e : p + 0 ≡ p = omega arith in subst (λ q. rate a q ≤ rate_of (slice_get (ports_from 0 rate n ps) p)) e (told_of 0 rate n ps a p low inside))
    no_action no_port

pub actors_have_heads : ActorsHaveHeads
actors_have_heads actor priorities sound = record {
  ins = ports_many 0 (need actor) (length actor.actions) actor.ins;
  outs = ports_many 0 (give actor) (length actor.actions) actor.outs;
  needs = λ a p. at_most_told (need actor) (length actor.actions) actor.ins a p
      (λ high. ap (taken_by p) (slice_get_past actor.actions a high))
      (λ high. none_taken actor p (slice_get actor.actions a) high (λ act e. each_at (IsAction actor) actor.actions a act sound.actions e));
  gives = λ a p. at_most_told (give actor) (length actor.actions) actor.outs a p
      (λ high. ap (given_by p) (slice_get_past actor.actions a high))
      (λ high. none_given actor p (slice_get actor.actions a) high (λ act e. each_at (IsAction actor) actor.actions a act sound.actions e));
  few_taken = λ p. told_within 0 (need actor) (length actor.actions) max_rate actor.ins p sound.takes;
  few_given = λ p. told_within 0 (give actor) (length actor.actions) max_rate actor.outs p sound.gives;
}

-- ---- names are told apart

later : {A : Type 0} (x y : A) (ys : List A) → Contains ys x → Contains (y ∷ ys) x
later x y ys (k, low, e) = (suc k, omega arith, e)

others : (x : List ℕ) (ys : List (List ℕ)) → ¬ Contains ys x → All (λ y. x ≢ y) ys
others x [] h = All-nil (λ y. x ≢ y)
others x (y ∷ ys) h = All-cons (λ z. x ≢ z) y ys (λ e. h (0, omega arith, sym e)) (others x ys (λ c. h (later x y ys c)))

pub told_apart : (xs : List (List ℕ)) → AreDistinct xs → AllPairs (λ a b. a ≢ b) xs
told_apart [] h = λ i j d less below. absurd (omega (arith, below))
told_apart (x ∷ xs) h = AllPairs-cons (λ a b. a ≢ b) x xs (others x xs h.0) (told_apart xs h.1)

pub those_in_front : (xs ys : List (List ℕ)) → AreDistinct (xs ++ ys) → AreDistinct xs
those_in_front [] ys h = tt
those_in_front (x ∷ xs) ys h = ((λ c. h.0 (Contains-append_left xs ys x c)), those_in_front xs ys h.1)

pub those_behind : (xs ys : List (List ℕ)) → AreDistinct (xs ++ ys) → AreDistinct ys
those_behind [] ys h = h
those_behind (x ∷ xs) ys h = those_behind xs ys h.1

abbrev pub names : List Port → List (List ℕ)
names ports = map (λ p. p.name) ports

same_names : (k : ℕ) (rate : ℕ → ℕ → ℕ) (n : ℕ) (ps : List Port) → names ps ≡ head_names (ports_from k rate n ps)
same_names k rate n [] = refl
same_names k rate n (p ∷ ps) = ap (λ ns. p.name ∷ ns) (same_names (suc k) rate n ps)

pub heads_are_sound : (actor : Actor) → IsSound actor → IsHeadSound (head_of actor)
heads_are_sound actor sound =
    let all : AreDistinct (names actor.ins ++ names actor.outs) = subst AreDistinct (map-append (λ p. p.name) actor.ins actor.outs) sound.ports in
    let few_ins = sound.few_ins in
    let few_outs = sound.few_outs in
    let ins_many = ports_many 0 (need actor) (length actor.actions) actor.ins in
    let outs_many = ports_many 0 (give actor) (length actor.actions) actor.outs in
    record {
      ins = subst (AllPairs (λ a b. a ≢ b)) (same_names 0 (need actor) (length actor.actions) actor.ins)
          (told_apart (names actor.ins) (those_in_front (names actor.ins) (names actor.outs) all));
      outs = subst (AllPairs (λ a b. a ≢ b)) (same_names 0 (give actor) (length actor.actions) actor.outs)
          (told_apart (names actor.outs) (those_behind (names actor.ins) (names actor.outs) all));
      few_ins = subst (λ n. n ≤ max_ports) ins_many few_ins;
      few_outs = subst (λ n. n ≤ max_ports) outs_many few_outs;
    }
