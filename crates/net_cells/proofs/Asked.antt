-- What links ask for at a port.
use Rattle.std.proofs.Common.{◌≡◌, ℕ, zero, suc, ◌≤◌, ◌<◌, Bool, true, false, List, [], ◌∷◌, max, refl, sym, subst, arith}
use Rattle.std.specs.Prelude.{Some, slice_get, if◌then◌else◌, not, ◌&&◌}
use Rattle.net_model.specs.declared.wiring.Link.{Link}
use Rattle.net_model.specs.Network.{is_input, is_leaf_port, is_output}
use Rattle.net_state.proofs.Gaining.{some_is}
use Rattle.net_cells.specs.Rooms.{asked_at, end_at, is_inner, queue_of}

-- a link's queues hold one token at least, and what the link can hold
pub one_asked : (grow : ℕ) (link : Link) → 1 ≤ queue_of grow link
one_asked grow link = omega arith

by_kind : (inner : Bool) (capacity grow : ℕ) → capacity ≤ max (if inner then max capacity grow else capacity) 1
by_kind true capacity grow = omega arith
by_kind false capacity grow = omega arith

pub capacity_asked : (grow : ℕ) (link : Link) → link.capacity ≤ queue_of grow link
capacity_asked grow link = by_kind (is_inner link) link.capacity grow

grown : (inner : Bool) (capacity grow : ℕ) → inner ≡ true → grow ≤ max (if inner then max capacity grow else capacity) 1
grown true capacity grow h = omega arith
grown false capacity grow h = absurd (cc)

neither : (a b : Bool) → a ≡ false → b ≡ false → (not a && not b) ≡ true
neither false false h i = refl
neither true b h i = absurd (cc)
neither false true h i = absurd (cc)

-- .. and what an inner link may grow to
pub grow_asked : (grow : ℕ) (link : Link) → is_input link ≡ false → is_output link ≡ false → grow ≤ queue_of grow link
grow_asked grow link not_in not_out = grown (is_inner link) link.capacity grow (neither (is_input link) (is_output link) not_in not_out)

-- ---- all links

more : (b : Bool) (q asked : ℕ) → asked ≤ (if b then max q asked else asked)
more true q asked = omega arith
more false q asked = omega arith

enough : (b : Bool) (q asked : ℕ) → b ≡ true → q ≤ (if b then max q asked else asked)
enough true q asked h = omega arith
enough false q asked h = absurd (cc)

-- what is asked for at a port is at least what each link asks for that ends there
pub for_link : (inward : Bool) (grow i p : ℕ) (links : List Link) (l : ℕ) (link : Link) → slice_get links l ≡ Some link → is_leaf_port i p (end_at inward link) ≡ true
    → queue_of grow link ≤ asked_at inward grow i p links
for_link inward grow i p [] l link at here = cc
for_link inward grow i p (first ∷ links) zero link at here =
    subst (λ x. queue_of grow x ≤ asked_at inward grow i p (first ∷ links)) (some_is first link at)
    (enough (is_leaf_port i p (end_at inward first)) (queue_of grow first) (asked_at inward grow i p links)
    (subst (λ x. is_leaf_port i p (end_at inward x) ≡ true) (sym (some_is first link at)) here))
for_link inward grow i p (first ∷ links) (suc l) link at here =
    let rest : queue_of grow link ≤ asked_at inward grow i p links = for_link inward grow i p links l link at here in
    let grows : asked_at inward grow i p links ≤ asked_at inward grow i p (first ∷ links) =
    more (is_leaf_port i p (end_at inward first)) (queue_of grow first) (asked_at inward grow i p links) in
    omega (arith, rest, grows)

abbrev pub IsLinked : Bool → ℕ → ℕ → List Link → Type 0
IsLinked inward i p links = (l : ℕ) × (link : Link) × (slice_get links l ≡ Some link) × (is_leaf_port i p (end_at inward link) ≡ true)

-- where something is asked for a link ends
pub by_link : (inward : Bool) (grow i p : ℕ) (links : List Link) → 0 < asked_at inward grow i p links → IsLinked inward i p links
by_link inward grow i p [] some = absurd (omega (arith, some))
by_link inward grow i p (first ∷ links) some = by_test (λ rest. by_link inward grow i p links rest) (is_leaf_port i p (end_at inward first)) refl
  where
    by_test : (0 < asked_at inward grow i p links → IsLinked inward i p links) → (b : Bool) → is_leaf_port i p (end_at inward first) ≡ b → IsLinked inward i p (first ∷ links)
    by_test others true is = (0, first, refl, is)
    by_test others false is =
        let rest = others (subst (λ b. 0 < (if b then max (queue_of grow first) (asked_at inward grow i p links) else asked_at inward grow i p links)) is some) in
        (suc rest.0, rest.1, rest.2, rest.3)
