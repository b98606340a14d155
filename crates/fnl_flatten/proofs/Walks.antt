-- A joint has one chain from a writing end.
use Rattle.std.proofs.Common.{◌≡◌, ℕ, zero, suc, ◌+◌, ◌≤◌, true, false, List, [], ◌∷◌, ◌++◌, refl, sym, ap, ◌∙◌, subst, arith}
use Rattle.std.specs.Prelude.{Option, Some, slice_get, max}
use Rattle.std.proofs.Math.Nat.{le-max_left, le-max_right, max-le}
use Rattle.net_model.specs.declared.wiring.End.{End}
use Rattle.net_model.specs.declared.wiring.End.TheVariants.{Leaf as AtLeaf, Net as AtNet}
use Rattle.net_model.specs.declared.wiring.Link.{Link}
use Rattle.fnl_tree.specs.Tree.{Net, Tree}
use Rattle.fnl_flatten.specs.Head.{Head}
use Rattle.fnl_flatten.specs.Joints.{Joint, LeafPort, OwnPort, source, target, kind_of, rate_at}
use Rattle.fnl_flatten.specs.Links.{Leads, Chain, last, more, writing_end, reading_end, capacity_for, IsLink}
use Rattle.fnl_flatten.specs.Rules.{wires_broken, seconds_broken, net_broken, nets_broken, violations}
use Rattle.fnl_tree.specs.Sound.{IsSound}
use Rattle.fnl_flatten.proofs.OneWriter.{leading, one_network, no_writer, one_wire}

-- ---- one connection leads to a joint

both_empty : {A : Type 0} (xs ys : List A) → xs ++ ys ≡ [] → (xs ≡ []) × (ys ≡ [])
both_empty [] ys h = (refl, h)
both_empty (x ∷ xs) ys h = cc

-- the rules of the network of a number
net_fine : (tree : Tree) (heads : List Head) (m : ℕ) (nets : List Net) (k : ℕ) (net : Net)
    → slice_get nets k ≡ Some net → nets_broken tree heads m nets ≡ [] → net_broken tree heads (m + k) net ≡ []
net_fine tree heads m [] k net at h = cc
net_fine tree heads m (x ∷ nets) zero net at h =
    let same : x ≡ net = cc in
    let here : net_broken tree heads m x ≡ [] = (both_empty (net_broken tree heads m x) (nets_broken tree heads (suc m) nets) h).0 in
    let number : m ≡ m + 0 = omega arith in
    subst (λ n. net_broken tree heads n net ≡ []) number (subst (λ y. net_broken tree heads m y ≡ []) same here)
net_fine tree heads m (x ∷ nets) (suc k) net at h =
    let later = net_fine tree heads (suc m) nets k net at (both_empty (net_broken tree heads m x) (nets_broken tree heads (suc m) nets) h).1 in
    let number : suc m + k ≡ m + suc k = omega arith in
    subst (λ n. net_broken tree heads n net ≡ []) number later

none_second : (tree : Tree) (heads : List Head) → violations tree heads ≡ [] → (n : ℕ) (net : Net)
    → slice_get tree.nets n ≡ Some net → seconds_broken tree heads n net net.wires [] ≡ []
none_second tree heads h n net at =
    let number : 0 + n ≡ n = omega arith in
    let fine : net_broken tree heads n net ≡ [] = subst (λ k. net_broken tree heads k net ≡ []) number (net_fine tree heads 0 tree.nets n net at h) in
    (both_empty (wires_broken tree heads n net net.wires) (seconds_broken tree heads n net net.wires []) fine).1

some_same : {A : Type 0} (a b : A) (o : Option A) → o ≡ Some a → o ≡ Some b → a ≡ b
some_same a b o one other = let both : Some a ≡ Some b = sym one ∙ other in cc

pub one_before : (tree : Tree) (heads : List Head) → IsSound tree → violations tree heads ≡ [] → (i j k : Joint) (r s : ℕ)
    → Leads tree heads i k r → Leads tree heads j k s → (i ≡ j) × (r ≡ s)
one_before tree heads sound h i j k r s one other =
    let number : one.number ≡ other.number = one_network tree sound one.number other.number k
    (leading tree heads one.number one.net one.wire k one.is_net one.ends)
    (leading tree heads other.number other.net other.wire k other.is_net other.ends) in
    let at : slice_get tree.nets one.number ≡ Some other.net = subst (λ n. slice_get tree.nets n ≡ Some other.net) (sym number) other.is_net in
    let net : one.net ≡ other.net = some_same one.net other.net (slice_get tree.nets one.number) one.is_net at in
    let wire_at : slice_get one.net.wires other.place ≡ Some other.wire = subst (λ n. slice_get n.wires other.place ≡ Some other.wire) (sym net) other.is_wire in
    let ends : target tree heads one.number one.net other.wire ≡ Some k =
    subst (λ n. target tree heads one.number n other.wire ≡ Some k) (sym net)
    (subst (λ n. target tree heads n other.net other.wire ≡ Some k) (sym number) other.ends) in
    let place : one.place ≡ other.place = one_wire tree heads one.number one.net one.place other.place one.wire other.wire k
    (none_second tree heads h one.number one.net one.is_net) one.is_wire one.ends wire_at ends in
    let here : slice_get one.net.wires one.place ≡ Some other.wire = subst (λ p. slice_get one.net.wires p ≡ Some other.wire) (sym place) wire_at in
    let wire : one.wire ≡ other.wire = some_same one.wire other.wire (slice_get one.net.wires one.place) one.is_wire here in
    let begins : source tree heads one.number one.net one.wire ≡ Some j =
    subst (λ w. source tree heads one.number one.net w ≡ Some j) (sym wire)
    (subst (λ n. source tree heads one.number n other.wire ≡ Some j) (sym net)
    (subst (λ n. source tree heads n other.net other.wire ≡ Some j) (sym number) other.begins)) in (
      some_same i j (source tree heads one.number one.net one.wire) one.begins begins,
      sym one.asks ∙ (ap (λ w. w.size) wire ∙ other.asks),
    )

-- ---- chains by their last connection

pub data Walk (tree : Tree) (heads : List Head) (j : Joint) : Joint → ℕ → Type 0 where
  step : {k : Joint} {size : ℕ} → Leads tree heads j k size → Walk tree heads j k size
  then_on : {k l : Joint} {size rest : ℕ} → Walk tree heads j k size → Leads tree heads k l rest → Walk tree heads j l (max size rest)

grouped : (a b c : ℕ) → max (max a b) c ≡ max a (max b c)
grouped a b c =
    let a_ab = le-max_left a b in
    let b_ab = le-max_right a b in
    let ab_all = le-max_left (max a b) c in
    let c_all = le-max_right (max a b) c in
    let b_bc = le-max_left b c in
    let c_bc = le-max_right b c in
    let a_every = le-max_left a (max b c) in
    let bc_every = le-max_right a (max b c) in
    let ab_low : max a b ≤ max a (max b c) = max-le a_every (omega (arith, b_bc, bc_every)) in
    let left : max (max a b) c ≤ max a (max b c) = max-le ab_low (omega (arith, c_bc, bc_every)) in
    let bc_low : max b c ≤ max (max a b) c = max-le (omega (arith, b_ab, ab_all)) c_all in
    let right : max a (max b c) ≤ max (max a b) c = max-le (omega (arith, a_ab, ab_all)) bc_low in
    omega (arith, left, right)

begun_by : {tree : Tree} {heads : List Head} {i j k : Joint} {s r : ℕ} → Leads tree heads i j s → Walk tree heads j k r
    → Walk tree heads i k (max s r)
begun_by leads (step next) = then_on (step leads) next
begun_by {tree} {heads} {i} {j} {k} {s} leads (then_on {size} {rest} walk next) =
    subst (λ n. Walk tree heads i k n) (grouped s size rest) (then_on (begun_by leads walk) next)

pub walk_of : {tree : Tree} {heads : List Head} {j k : Joint} {s : ℕ} → Chain tree heads j k s → Walk tree heads j k s
walk_of (last leads) = step leads
walk_of (more leads chain) = begun_by leads (walk_of chain)

no_walk : (tree : Tree) (heads : List Head) → IsSound tree → {j k : Joint} {s : ℕ} (e : End) → writing_end k ≡ Some e
    → Walk tree heads j k s → ⊥
no_walk tree heads sound {j} {k} {s} e is (step leads) = no_writer tree heads sound j k s e is leads
no_walk tree heads sound {j} {k} {s} e is (then_on {k = n} {rest = b} w leads) = no_writer tree heads sound n k b e is leads

-- walks from writing ends to one joint are one
one_walk : (tree : Tree) (heads : List Head) → IsSound tree → violations tree heads ≡ []
    → {i j k l : Joint} {r s : ℕ} (d e : End) → writing_end i ≡ Some d → writing_end j ≡ Some e → k ≡ l
    → Walk tree heads i k r → Walk tree heads j l s → (i ≡ j) × (r ≡ s)
one_walk tree heads sound h {i} {j} {k} {l} {r} {s} d e from at same (step one) (step other) =
    one_before tree heads sound h i j k r s one (subst (λ x. Leads tree heads j x s) (sym same) other)
one_walk tree heads sound h {i} {j} {k} {l} d e from at same (step {size = r0} one) (then_on {k = m} {size = s0} {rest = t} walk other) =
    let before = one_before tree heads sound h i m k r0 t one (subst (λ x. Leads tree heads m x t) (sym same) other) in
    absurd (no_walk tree heads sound d (subst (λ x. writing_end x ≡ Some d) before.0 from) walk)
one_walk tree heads sound h {i} {j} {k} {l} d e from at same (then_on {k = m} {size = r0} {rest = t} walk one) (step {size = s0} other) =
    let before = one_before tree heads sound h m j k t s0 one (subst (λ x. Leads tree heads j x s0) (sym same) other) in
    absurd (no_walk tree heads sound e (subst (λ x. writing_end x ≡ Some e) (sym before.0) at) walk)
one_walk tree heads sound h {i} {j} {k} {l} d e from at same (then_on {k = m} {size = r0} {rest = t} walk one) (then_on {k = n} {size = s0} {rest = u} trail other) =
    let before = one_before tree heads sound h m n k t u one (subst (λ x. Leads tree heads n x u) (sym same) other) in
    let rest = one_walk tree heads sound h d e from at before.0 walk trail in
    (rest.0, ap (λ a. max a t) rest.1 ∙ ap (λ b. max s0 b) before.1)

-- ---- one link leads to a place

abbrev leaf_in : End → ℕ
leaf_in (AtLeaf inst port) = inst.0
leaf_in (AtNet port) = 0

abbrev port_in : End → ℕ
port_in (AtLeaf inst port) = port
port_in (AtNet port) = port

pub reads_one : (j k : Joint) (e : End) → reading_end j ≡ Some e → reading_end k ≡ Some e → j ≡ k
reads_one (LeafPort l true p) (LeafPort m true q) e one other =
    let same : AtLeaf (record { 0 = l }) p ≡ AtLeaf (record { 0 = m }) q = some_same (AtLeaf (record { 0 = l }) p) (AtLeaf (record { 0 = m }) q) (Some e) (sym one) (sym other) in
    ap (λ n. LeafPort n true p) (ap leaf_in same) ∙ ap (λ n. LeafPort m true n) (ap port_in same)
reads_one (LeafPort l true p) (LeafPort m false q) e one other = cc
reads_one (LeafPort l true p) (OwnPort zero false q) e one other =
    let same : AtLeaf (record { 0 = l }) p ≡ AtNet q = some_same (AtLeaf (record { 0 = l }) p) (AtNet q) (Some e) (sym one) (sym other) in cc
reads_one (LeafPort l true p) (OwnPort zero true q) e one other = cc
reads_one (LeafPort l true p) (OwnPort (suc n) input q) e one other = cc
reads_one (LeafPort l false p) k e one other = cc
reads_one (OwnPort zero false p) (LeafPort m true q) e one other =
    let same : AtNet p ≡ AtLeaf (record { 0 = m }) q = some_same (AtNet p) (AtLeaf (record { 0 = m }) q) (Some e) (sym one) (sym other) in cc
reads_one (OwnPort zero false p) (LeafPort m false q) e one other = cc
reads_one (OwnPort zero false p) (OwnPort zero false q) e one other =
    let same : AtNet p ≡ AtNet q = some_same (AtNet p) (AtNet q) (Some e) (sym one) (sym other) in
    ap (λ n. OwnPort 0 false n) (ap port_in same)
reads_one (OwnPort zero false p) (OwnPort zero true q) e one other = cc
reads_one (OwnPort zero false p) (OwnPort (suc n) input q) e one other = cc
reads_one (OwnPort zero true p) k e one other = cc
reads_one (OwnPort (suc n) input p) k e one other = cc

same_link : (a b : Link) → a.from ≡ b.from → a.to ≡ b.to → a.capacity ≡ b.capacity → a.kind ≡ b.kind → a ≡ b
same_link a b from to capacity kind =
    ap (λ x. record { from = x; to = a.to; capacity = a.capacity; kind = a.kind }) from
    ∙ (ap (λ x. record { from = b.from; to = x; capacity = a.capacity; kind = a.kind }) to
    ∙ (ap (λ x. record { from = b.from; to = b.to; capacity = x; kind = a.kind }) capacity
    ∙ ap (λ x. record { from = b.from; to = b.to; capacity = b.capacity; kind = x }) kind))

pub one_link : (tree : Tree) (heads : List Head) → IsSound tree → violations tree heads ≡ []
    → (a b : Link) → IsLink tree heads a → IsLink tree heads b → a.to ≡ b.to → a ≡ b
one_link tree heads sound h a b one other to =
    let reader : one.reader ≡ other.reader = reads_one one.reader other.reader a.to one.to (other.to ∙ ap (λ e. Some e) (sym to)) in
    let walk = one_walk tree heads sound h a.from b.from one.from other.from reader (walk_of one.chain) (walk_of other.chain) in
    let writer : one.writer ≡ other.writer = walk.0 in
    let size : one.size ≡ other.size = walk.1 in
    let from : a.from ≡ b.from = some_same a.from b.from (writing_end one.writer) one.from (ap writing_end writer ∙ other.from) in
    let capacity : a.capacity ≡ b.capacity = one.capacity
    ∙ (ap (λ n. capacity_for n (rate_at heads one.writer) (rate_at heads one.reader)) size
    ∙ (ap (λ j. capacity_for other.size (rate_at heads j) (rate_at heads one.reader)) writer
    ∙ (ap (λ j. capacity_for other.size (rate_at heads other.writer) (rate_at heads j)) reader ∙ sym other.capacity))) in
    let kind : a.kind ≡ b.kind = some_same a.kind b.kind (kind_of tree heads one.reader) one.kind (ap (kind_of tree heads) reader ∙ other.kind) in
    same_link a b from to capacity kind
