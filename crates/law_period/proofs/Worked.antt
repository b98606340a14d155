-- A worked case, computed by the definitions: it meets each premise of the law of periods. A leaf takes one token and
-- gives one, and the next takes two and gives one, so they fire twice and once.
use Rattle.std.proofs.Common.{◌≡◌, ◌⊎◌, ℕ, zero, suc, ◌+◌, ◌<◌, ◌≤◌, true, false, List, [], ◌∷◌, ◌++◌, ℤ, pos, inl, refl, sym, subst, arith}
use Rattle.std.proofs.lemmas.Bool.{le-leb}
use Rattle.std.specs.Prelude.{All, Some, slice_get, slice_index, take, codes}
use Rattle.rvc_base.specs.Lawful.{IsLawful}
use Rattle.balanced_rates.specs.declared.link.RatedLink.{RatedLink}
use Rattle.balanced_rates.specs.Balance.{IsBalanced}
use Rattle.period_order.specs.Turns.{IsPeak, Finds, turns, given, taken, waiting}
use Rattle.net_model.specs.declared.wiring.End.TheVariants.{Net as AtNet}
use Rattle.net_model.specs.declared.wiring.Link.{Link}
use Rattle.net_model.specs.Network.{Leaf, Network, is_input}
use Rattle.net_model.specs.State.{Flow, State, start_of}
use Rattle.net_model.specs.Event.{Event, Fire, Deliver, run}
use Rattle.net_model.specs.Wired.{IsWired, IsJoined, IsBefore}
use Rattle.net_model.specs.Laws.{AreLawful}
use Rattle.net_model.specs.TableActor.{Row, Sends, table_actor, takes_of, gives_of, on_first}
use Rattle.net_model.proofs.Rows.{link, byte_port, leaf_port}
use Rattle.net_model.proofs.TableActor.{table_is_lawful}
use Rattle.law_period.specs.Static.{NetRates, IsStatic, AreStatic, inner_links, IsReached, IsPeriodOf}
use Rattle.law_period.specs.Runs.{HasEnoughInput, taken_at, held, PlaysOrder, Completes, TrapsOnTheWay}
use Rattle.law_period.proofs.WholePeriod.{period_runs, starts_at_rest}

abbrev taking : ℕ → List Row
taking n = record { takes = n; does = Sends } ∷ []

abbrev leaf_of : ℕ → Leaf (Unit {0})
leaf_of n = record { path = codes "a"; class = codes "A"; behaviour = table_actor (taking n) }

abbrev net : Network (Unit {0})
net = record {
  leaves = leaf_of 1 ∷ leaf_of 2 ∷ [];
  links = link (AtNet 0) (leaf_port 0 0) 512 ∷ link (leaf_port 0 0) (leaf_port 1 0) 512 ∷ link (leaf_port 1 0) (AtNet 0) 512 ∷ [];
  ins = byte_port (codes "In") ∷ [];
  outs = byte_port (codes "Out") ∷ [];
}

abbrev needs : ℕ → ℕ → ℕ
needs zero p = on_first p 1
needs (suc zero) p = on_first p 2
needs (suc (suc i)) p = 0

abbrev rates : NetRates
rates = record { need = needs; give = λ i p. on_first p 1 }

abbrev firings : ℕ → ℕ
firings zero = 2
firings (suc zero) = 1
firings (suc (suc i)) = 0

abbrev order : List ℕ
order = 0 ∷ 0 ∷ 1 ∷ []

abbrev inner : RatedLink
inner = record { writer = 0; reader = 1; give = 1; need = 2 }

one_inner_link : inner_links rates net.links ≡ inner ∷ []
one_inner_link = refl

-- ---- the order is a period, with the peak 2
on_inner : (P : RatedLink → Type 0) → P inner → All P (inner ∷ [])
on_inner P here zero d inside = here
on_inner P here (suc k) d inside = absurd (omega (arith, inside))

abbrev FindsOn : List ℕ → ℕ → RatedLink → Type 0
FindsOn turned leaf that = that.reader ≡ leaf → taken that turned + that.need ≤ given that turned

finds_at : (p : ℕ) → p < 3 → Finds (inner ∷ []) (take p order) (slice_index order p)
finds_at zero inside = on_inner (FindsOn [] 0) (λ e. absurd (omega (arith, e)))
finds_at (suc zero) inside = on_inner (FindsOn (0 ∷ []) 0) (λ e. absurd (omega (arith, e)))
finds_at (suc (suc zero)) inside = on_inner (FindsOn (0 ∷ 0 ∷ []) 1) (λ e. omega arith)
finds_at (suc (suc (suc p))) inside = absurd (omega (arith, inside))

among : All (λ leaf. leaf < 2) order
among zero d inside = omega arith
among (suc zero) d inside = omega arith
among (suc (suc zero)) d inside = omega arith
among (suc (suc (suc k))) d inside = absurd (omega (arith, inside))

counted : (leaf : ℕ) → leaf < 2 → turns leaf order ≡ firings leaf
counted zero inside = refl
counted (suc zero) inside = refl
counted (suc (suc leaf)) inside = absurd (omega (arith, inside))

reached : (i p : ℕ) (leaf : Leaf (Unit {0})) → slice_get net.leaves i ≡ Some leaf → 0 < firings i → p < leaf.behaviour.ins → 0 < needs i p → IsReached net i p
reached zero zero leaf at fires low some = (0, link (AtNet 0) (leaf_port 0 0) 512, refl, refl)
reached zero (suc p) leaf at fires low some = absurd (omega (arith, some))
reached (suc zero) zero leaf at fires low some = (1, link (leaf_port 0 0) (leaf_port 1 0) 512, refl, refl)
reached (suc zero) (suc p) leaf at fires low some = absurd (omega (arith, some))
reached (suc (suc i)) p leaf at fires low some = absurd (omega (arith, fires))

is_period : IsPeriodOf net rates firings order
is_period = record {
  balanced = on_inner (IsBalanced firings) refl;
  period = record { among = among; finds = finds_at; counts = counted };
  reached = reached;
}

peak_at : (p : ℕ) → p ≤ 3 → waiting inner (take p order) ≤ 2
peak_at zero within = omega arith
peak_at (suc zero) within = omega arith
peak_at (suc (suc zero)) within = omega arith
peak_at (suc (suc (suc zero))) within = omega arith
peak_at (suc (suc (suc (suc p)))) within = absurd (omega (arith, within))

is_peak : IsPeak inner order 2
is_peak = record { most = peak_at; reached = (2, omega arith, refl) }

-- ---- the network is wired, and its leaves are lawful and static
few_needs : (n a p : ℕ) → (table_actor (taking n)).need a p ≤ n
few_needs n zero zero = omega arith
few_needs n zero (suc p) = omega arith
few_needs n (suc a) zero = omega arith
few_needs n (suc a) (suc p) = omega arith

few_gives : (n a p : ℕ) → (table_actor (taking n)).give a p ≤ 1
few_gives n zero zero = omega arith
few_gives n zero (suc p) = omega arith
few_gives n (suc a) zero = omega arith
few_gives n (suc a) (suc p) = omega arith

joined : (l : ℕ) (that : Link) → slice_get net.links l ≡ Some that → IsJoined net that
joined zero that at =
    let is : link (AtNet 0) (leaf_port 0 0) 512 ≡ that = cc in
    subst (λ k. IsJoined net k) is (record {
      from_port = omega arith;
      to_port = omega arith;
      inside = λ e. refl;
      output_kind = tt;
      holds_needs = λ a. (let few = few_needs 1 a 0 in omega (arith, few));
      holds_gives = tt;
    })
joined (suc zero) that at =
    let is : link (leaf_port 0 0) (leaf_port 1 0) 512 ≡ that = cc in
    subst (λ k. IsJoined net k) is (record {
      from_port = omega arith;
      to_port = omega arith;
      inside = λ e. cc;
      output_kind = tt;
      holds_needs = λ a. (let few = few_needs 2 a 0 in omega (arith, few));
      holds_gives = λ a. (let few = few_gives 1 a 0 in omega (arith, few));
    })
joined (suc (suc zero)) that at =
    let is : link (leaf_port 1 0) (AtNet 0) 512 ≡ that = cc in
    subst (λ k. IsJoined net k) is (record {
      from_port = omega arith;
      to_port = omega arith;
      inside = λ e. cc;
      output_kind = refl;
      holds_needs = tt;
      holds_gives = λ a. (let few = few_gives 2 a 0 in omega (arith, few));
    })
joined (suc (suc (suc l))) that at = cc

both_are : (a b that other : Link) → Some a ≡ Some that → Some b ≡ Some other → IsBefore a.to b.to → IsBefore that.to other.to
both_are a b that other p q before =
    let one : a ≡ that = cc in
    let two : b ≡ other = cc in
    subst (λ k. IsBefore k.to other.to) one (subst (λ k. IsBefore a.to k.to) two before)

in_order : (l m : ℕ) (that other : Link) → l < m → slice_get net.links l ≡ Some that → slice_get net.links m ≡ Some other → IsBefore that.to other.to
in_order zero zero that other less p q = absurd (omega (arith, less))
in_order zero (suc zero) that other less p q = both_are _ _ that other p q (inl (omega arith))
in_order zero (suc (suc zero)) that other less p q = both_are _ _ that other p q tt
in_order (suc zero) zero that other less p q = absurd (omega (arith, less))
in_order (suc zero) (suc zero) that other less p q = absurd (omega (arith, less))
in_order (suc zero) (suc (suc zero)) that other less p q = both_are _ _ that other p q tt
in_order (suc (suc zero)) zero that other less p q = absurd (omega (arith, less))
in_order (suc (suc zero)) (suc zero) that other less p q = absurd (omega (arith, less))
in_order (suc (suc zero)) (suc (suc zero)) that other less p q = absurd (omega (arith, less))
in_order (suc (suc (suc l))) m that other less p q = cc
in_order l (suc (suc (suc m))) that other less p q = cc

-- a leaf is one of both
data IsOne (leaf : Leaf (Unit {0})) : ℕ → Type 0 where
  is_first : leaf_of 1 ≡ leaf → IsOne leaf 0
  is_second : leaf_of 2 ≡ leaf → IsOne leaf 1

one_of : (i : ℕ) (leaf : Leaf (Unit {0})) → slice_get net.leaves i ≡ Some leaf → IsOne leaf i
one_of zero leaf at = is_first cc
one_of (suc zero) leaf at = is_second cc
one_of (suc (suc i)) leaf at = cc

by_leaf : (P : ℕ → Leaf (Unit {0}) → Type 0) → P 0 (leaf_of 1) → P 1 (leaf_of 2) → (i : ℕ) (leaf : Leaf (Unit {0})) → slice_get net.leaves i ≡ Some leaf → P i leaf
by_leaf P first second i leaf at = go i (one_of i leaf at)
  where
    go : (j : ℕ) → IsOne leaf j → P j leaf
    go j (is_first e) = subst (λ k. P 0 k) e first
    go j (is_second e) = subst (λ k. P 1 k) e second

wired : IsWired net
wired = record {
  joined = joined;
  in_order = in_order;
  few_leaves = omega arith;
  few_links = omega arith;
  few_taken = by_leaf (λ i leaf. (a p : ℕ) → leaf.behaviour.need a p ≤ 4096) (λ a p. (let few = few_needs 1 a p in omega (arith, few))) (λ a p. (let few = few_needs 2 a p in omega (arith, few)));
  few_given = by_leaf (λ i leaf. (a p : ℕ) → leaf.behaviour.give a p ≤ 4096) (λ a p. (let few = few_gives 1 a p in omega (arith, few))) (λ a p. (let few = few_gives 2 a p in omega (arith, few)));
}

lawful : AreLawful net
lawful = by_leaf (λ i leaf. IsLawful leaf.behaviour) (table_is_lawful (taking 1)) (table_is_lawful (taking 2))

abbrev kept : ℕ → Unit {0} → Type 0
kept i state = Unit {0}

static_taking : (n : ℕ) → IsStatic (table_actor (taking n)) (λ state. Unit {0}) (λ p. on_first p n) (λ p. on_first p 1)
static_taking n = record {
  start = tt;
  fires = λ state tokens kept' enough. (0, rw (le-leb n _ (enough 0 (omega arith))) refl);
  needs = λ a p low low'. same_need p a low;
  gives = λ a p low low'. same_give p a low;
  keeps = λ state next tokens sent a kept' has. tt;
} where
  same_need : (p a : ℕ) → a < 1 → on_first p (takes_of (slice_get (taking n) a)) ≡ on_first p n
  same_need p zero low = refl
  same_need p (suc a) low = absurd (omega (arith, low))

  same_give : (p a : ℕ) → a < 1 → on_first p (gives_of (slice_get (taking n) a)) ≡ on_first p 1
  same_give p zero low = refl
  same_give p (suc a) low = absurd (omega (arith, low))

static : AreStatic net kept rates
static = by_leaf (λ i leaf. IsStatic leaf.behaviour (kept i) (rates.need i) (rates.give i)) (static_taking 1) (static_taking 2)

-- ---- with two bytes a period can be run
abbrev start : State (Unit {0})
start = start_of net ((7 ∷ 8 ∷ []) ∷ [])

no_input : (a b : Link) → a ≡ b → is_input a ≡ false → is_input b ≡ true → ⊥
no_input a b e p q = let both : is_input a ≡ true = subst (λ k. is_input k ≡ true) (sym e) q in cc

has_input : HasEnoughInput net rates firings start
has_input that flow on = input_at on.0 on.1 on.2
  where
    input_at : (l : ℕ) → slice_get net.links l ≡ Some that → slice_get start.flows l ≡ Some flow → is_input that ≡ true → taken_at rates firings that.to ≤ held flow
    input_at zero p q is =
        let one : link (AtNet 0) (leaf_port 0 0) 512 ≡ that = cc in
        let two : record { sent = pos 7 ∷ pos 8 ∷ []; arrived = 0; taken = 0; capacity = 512 } ≡ flow = cc in
        subst (λ k. taken_at rates firings k.to ≤ held flow) one (subst (λ k. taken_at rates firings (leaf_port 0 0) ≤ held k) two (omega arith))
    input_at (suc zero) p q is = let one : link (leaf_port 0 0) (leaf_port 1 0) 512 ≡ that = cc in absurd (no_input _ that one refl is)
    input_at (suc (suc zero)) p q is = let one : link (leaf_port 1 0) (AtNet 0) 512 ≡ that = cc in absurd (no_input _ that one refl is)
    input_at (suc (suc (suc l))) p q is = cc

worked : Completes net kept rates firings order start ⊎ TrapsOnTheWay net rates order start
worked = period_runs net kept rates firings order start wired lawful static is_period (starts_at_rest net kept rates ((7 ∷ 8 ∷ []) ∷ []) static) has_input

-- ---- the run, event by event
abbrev flow_of : List ℤ → ℕ → ℕ → Flow
flow_of sent arrived taken = record { sent = sent; arrived = arrived; taken = taken; capacity = 512 }

abbrev state_of : Flow → Flow → Flow → State (Unit {0})
state_of one two three = record { actors = tt ∷ tt ∷ []; flows = one ∷ two ∷ three ∷ []; trapped = false }

abbrev turn_of : ℕ → ℕ → ℕ → List Event
turn_of leaf inside outside = Fire leaf 0 ∷ Deliver 0 0 ∷ Deliver 1 inside ∷ Deliver 2 outside ∷ []

abbrev events : List Event
events = (Deliver 0 2 ∷ Deliver 1 0 ∷ Deliver 2 0 ∷ []) ++ (turn_of 0 1 0 ++ (turn_of 0 1 0 ++ (turn_of 1 0 1 ++ [])))

abbrev bytes : List ℤ
bytes = pos 7 ∷ pos 8 ∷ []

abbrev last : State (Unit {0})
last = state_of (flow_of bytes 2 2) (flow_of (pos 1 ∷ pos 1 ∷ []) 2 2) (flow_of (pos 1 ∷ []) 1 1)

leads : run net start events ≡ Some last
leads = refl

plays : PlaysOrder net start order events last
plays = record {
  ready = state_of (flow_of bytes 2 0) (flow_of [] 0 0) (flow_of [] 0 0);
  turns = turn_of 0 1 0 ++ (turn_of 0 1 0 ++ (turn_of 1 0 1 ++ []));
  arrives = refl;
  taken = (
    turn_of 0 1 0,
    turn_of 0 1 0 ++ (turn_of 1 0 1 ++ []),
    state_of (flow_of bytes 2 1) (flow_of (pos 1 ∷ []) 1 0) (flow_of [] 0 0),
    record {
      action = 0;
      fired = state_of (flow_of bytes 2 1) (flow_of (pos 1 ∷ []) 0 0) (flow_of [] 0 0);
      chosen = refl;
      fires = refl;
      arrives = refl;
      events_are = refl;
    },
    (
      turn_of 0 1 0,
      turn_of 1 0 1 ++ [],
      state_of (flow_of bytes 2 2) (flow_of (pos 1 ∷ pos 1 ∷ []) 2 0) (flow_of [] 0 0),
      record {
        action = 0;
        fired = state_of (flow_of bytes 2 2) (flow_of (pos 1 ∷ pos 1 ∷ []) 1 0) (flow_of [] 0 0);
        chosen = refl;
        fires = refl;
        arrives = refl;
        events_are = refl;
      },
      (
        turn_of 1 0 1,
        [],
        last,
        record {
          action = 0;
          fired = state_of (flow_of bytes 2 2) (flow_of (pos 1 ∷ pos 1 ∷ []) 2 2) (flow_of (pos 1 ∷ []) 0 0);
          chosen = refl;
          fires = refl;
          arrives = refl;
          events_are = refl;
        },
        (refl, refl),
        refl,
      ),
      refl,
    ),
    refl,
  );
  events_are = refl;
}
