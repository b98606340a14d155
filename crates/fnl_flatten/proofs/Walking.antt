-- A walk against the direction of connections, from a joint to the writing end whose tokens come there.
use Rattle.std.proofs.Common.{◌≡◌, ◌⊎◌, inl, inr, ℕ, zero, suc, ◌+◌, ◌-◌, ◌<◌, ◌≤◌, Bool, true, false, ◌&&◌, List, [], ◌∷◌, ◌++◌, length, refl, sym, ap, subst, ◌∙◌, arith}
use Rattle.std.proofs.lemmas.Option.{slice_get_within}
use Rattle.std.proofs.Math.Nat.{le-max_left, max-le}
use Rattle.std.specs.Prelude.{Option, None, Some, if◌then◌else◌, is_some, slice_get, max}
use Rattle.net_model.specs.declared.wiring.End.{End}
use Rattle.fnl_tree.specs.Sound.{IsBehind, IsSound}
use Rattle.fnl_tree.specs.Tree.{Inner, InnerNet, InnerLeaf, Wire, Net, Tree}
use Rattle.fnl_flatten.specs.declared.writers.Writer.{Writer}
use Rattle.fnl_flatten.specs.Arrows.{Entry, entry_of, wire_entry, wires_entries, nets_entries, entries_of, writer_of}
use Rattle.fnl_flatten.specs.Head.{Head, head_names}
use Rattle.fnl_flatten.specs.Joints.{Joint, LeafPort, OwnPort, place_of, own_names, is_nameless, part_named, net_output, leaf_output, part_output, part_input, own_input, own_output, source, target}
use Rattle.fnl_flatten.specs.Links.{Leads, Chain, last, more, writing_end}
use Rattle.fnl_flatten.specs.Origins.{IsOrigin, HasNoOrigin, rank}
use Rattle.fnl_flatten.specs.Rules.{is_same, violations}
use Rattle.fnl_flatten.proofs.Chains.{none_direct}
use Rattle.fnl_flatten.proofs.EnteredUpTo.{joint_is}
use Rattle.fnl_flatten.proofs.OneWriter.{inner_of, is_same_itself, mapped, named_part, IsOwnOutput, own_output_is, IsInputOf, input_is}
use Rattle.fnl_flatten.proofs.Walks.{one_before, Walk, step, then_on, walk_of}

-- ---- what writes to a joint leads to it

-- an entry is among these
abbrev Among : List Entry → Joint → Writer → Type 0
Among entries j w = (k : ℕ) × (slice_get entries k ≡ Some (j, w))

among_left : (xs ys : List Entry) (j : Joint) (w : Writer) → Among xs j w → Among (xs ++ ys) j w
among_left [] ys j w (k, at) = cc
among_left (x ∷ xs) ys j w (zero, at) = (0, at)
among_left (x ∷ xs) ys j w (suc k, at) = let later = among_left xs ys j w (k, at) in (suc later.0, later.1)

among_right : (xs ys : List Entry) (j : Joint) (w : Writer) → Among ys j w → Among (xs ++ ys) j w
among_right [] ys j w at = at
among_right (x ∷ xs) ys j w at = let later = among_right xs ys j w at in (suc later.0, later.1)

among_cases : (xs ys : List Entry) (j : Joint) (w : Writer) → Among (xs ++ ys) j w → Among xs j w ⊎ Among ys j w
among_cases [] ys j w at = inr at
among_cases (x ∷ xs) ys j w (zero, at) = inl (0, at)
among_cases (x ∷ xs) ys j w (suc k, at) = go (among_cases xs ys j w (k, at))
  where
    go : Among xs j w ⊎ Among ys j w → Among (x ∷ xs) j w ⊎ Among ys j w
    go (inl here) = inl (suc here.0, here.1)
    go (inr there) = inr there

-- what a look-up finds is among them, and what is among them is found, or another at the same joint
found_among : (j : Joint) (entries : List Entry) (w : Writer) → writer_of j entries ≡ Some w → Among entries j w
found_among j [] w h = cc
found_among j (e ∷ es) w h = go (is_same j e.0) refl (found_among j es w) h
  where
    go : (b : Bool) → is_same j e.0 ≡ b → (writer_of j es ≡ Some w → Among es j w)
        → (if b then Some e.1 else writer_of j es) ≡ Some w → Among (e ∷ es) j w
    go true is later h =
        let one : e.1 ≡ w = cc in
        (0, ap (λ i. Some (i, e.1)) (sym (joint_is j e.0 is)) ∙ ap (λ v. Some (j, v)) one)
    go false is later h = let there = later h in (suc there.0, there.1)

among_found : (j : Joint) (entries : List Entry) (w : Writer) → is_same j j ≡ true → Among entries j w → (v : Writer) × (writer_of j entries ≡ Some v)
among_found j [] w same at = cc
among_found j (e ∷ es) w same (zero, at) =
    let here : e ≡ (j, w) = cc in
    let is : is_same j e.0 ≡ true = ap (λ d. is_same j d.0) here ∙ same in
    (e.1, ap (λ b. if b then Some e.1 else writer_of j es) is)
among_found j (e ∷ es) w same (suc k, at) = go (is_same j e.0) (among_found j es w same (k, at))
  where
    go : (b : Bool) → (v : Writer) × (writer_of j es ≡ Some v) → (v : Writer) × ((if b then Some e.1 else writer_of j es) ≡ Some v)
    go true later = (e.1, refl)
    go false later = later

-- ---- entries are connections

-- an entry of the connections of network n
abbrev LeadsIn : Tree → List Head → ℕ → Net → List Wire → Joint → Writer → Type 0
LeadsIn tree heads n net ws j w = (k : ℕ) × (v : Wire) × (slice_get ws k ≡ Some v) × (source tree heads n net v ≡ Some w.joint)
    × (target tree heads n net v ≡ Some j) × (v.size ≡ w.size)

one_entry : (x y : Entry) → Some x ≡ Some y → x ≡ y
one_entry x y h = cc

entry_is : (from to : Option Joint) (size : ℕ) (j : Joint) (w : Writer) → Among (entry_of from to size) j w
    → (from ≡ Some w.joint) × (to ≡ Some j) × (size ≡ w.size)
entry_is (Some i) (Some k) size j w (zero, at) =
    let same : (k, record { joint = i; size = size }) ≡ (j, w) = one_entry (k, record { joint = i; size = size }) (j, w) at in
    (ap (λ e. Some (e.1).joint) same, ap (λ e. Some e.0) same, ap (λ e. (e.1).size) same)
entry_is (Some i) (Some k) size j w (suc m, at) = cc
entry_is (Some i) None size j w (m, at) = cc
entry_is None to size j w (m, at) = cc

wires_lead : (tree : Tree) (heads : List Head) (n : ℕ) (net : Net) (ws : List Wire) (j : Joint) (w : Writer)
    → Among (wires_entries tree heads n net ws) j w → LeadsIn tree heads n net ws j w
wires_lead tree heads n net [] j w (k, at) = cc
wires_lead tree heads n net (v ∷ ws) j w at =
    go (among_cases (wire_entry tree heads n net v) (wires_entries tree heads n net ws) j w at) (wires_lead tree heads n net ws j w)
  where
    go : Among (wire_entry tree heads n net v) j w ⊎ Among (wires_entries tree heads n net ws) j w
        → (Among (wires_entries tree heads n net ws) j w → LeadsIn tree heads n net ws j w) → LeadsIn tree heads n net (v ∷ ws) j w
    go (inl here) later =
        let is = entry_is (source tree heads n net v) (target tree heads n net v) v.size j w here in
        (0, v, refl, is.0, is.1, is.2)
    go (inr there) later = let it = later there in (suc it.0, it.1, it.2, it.3, it.4, it.5)

lead_wires : (tree : Tree) (heads : List Head) (n : ℕ) (net : Net) (ws : List Wire) (j : Joint) (w : Writer) (k : ℕ) (v : Wire)
    → slice_get ws k ≡ Some v → source tree heads n net v ≡ Some w.joint → target tree heads n net v ≡ Some j → v.size ≡ w.size
    → Among (wires_entries tree heads n net ws) j w
lead_wires tree heads n net [] j w k v at begins ends asks = cc
lead_wires tree heads n net (x ∷ ws) j w zero v at begins ends asks =
    let same : x ≡ v = cc in
    let from : source tree heads n net x ≡ Some w.joint = ap (source tree heads n net) same ∙ begins in
    let to : target tree heads n net x ≡ Some j = ap (target tree heads n net) same ∙ ends in
    let size : x.size ≡ w.size = ap (λ y. y.size) same ∙ asks in
    let entry : wire_entry tree heads n net x ≡ (j, w) ∷ [] =
    ap (λ o. entry_of o (target tree heads n net x) x.size) from
    ∙ ap (λ o. entry_of (Some w.joint) o x.size) to
    ∙ ap (λ s. (j, record { joint = w.joint; size = s }) ∷ []) size in
    among_left (wire_entry tree heads n net x) (wires_entries tree heads n net ws) j w
    (0, ap (λ es. slice_get es 0) entry)
lead_wires tree heads n net (x ∷ ws) j w (suc k) v at begins ends asks =
    among_right (wire_entry tree heads n net x) (wires_entries tree heads n net ws) j w
    (lead_wires tree heads n net ws j w k v at begins ends asks)

-- an entry of the connections of the networks from m on
abbrev LeadsFrom : Tree → List Head → ℕ → List Net → Joint → Writer → Type 0
LeadsFrom tree heads m nets j w = (k : ℕ) × (net : Net) × (slice_get nets k ≡ Some net) × LeadsIn tree heads (m + k) net net.wires j w

nets_lead : (tree : Tree) (heads : List Head) (m : ℕ) (nets : List Net) (j : Joint) (w : Writer)
    → Among (nets_entries tree heads m nets) j w → LeadsFrom tree heads m nets j w
nets_lead tree heads m [] j w (k, at) = cc
nets_lead tree heads m (net ∷ nets) j w at =
    go (among_cases (wires_entries tree heads m net net.wires) (nets_entries tree heads (suc m) nets) j w at) (nets_lead tree heads (suc m) nets j w)
  where
    go : Among (wires_entries tree heads m net net.wires) j w ⊎ Among (nets_entries tree heads (suc m) nets) j w
        → (Among (nets_entries tree heads (suc m) nets) j w → LeadsFrom tree heads (suc m) nets j w) → LeadsFrom tree heads m (net ∷ nets) j w
    go (inl here) later =
        let number : m ≡ m + 0 = omega arith in
        (0, net, refl, subst (λ n. LeadsIn tree heads n net net.wires j w) number (wires_lead tree heads m net net.wires j w here))
    go (inr there) later =
        let it = later there in
        let number : suc m + it.0 ≡ m + suc it.0 = omega arith in
        (suc it.0, it.1, it.2, subst (λ n. LeadsIn tree heads n it.1 (it.1).wires j w) number it.3)

lead_nets : (tree : Tree) (heads : List Head) (m : ℕ) (nets : List Net) (j : Joint) (w : Writer) (k : ℕ) (net : Net)
    → slice_get nets k ≡ Some net → Among (wires_entries tree heads (m + k) net net.wires) j w
    → Among (nets_entries tree heads m nets) j w
lead_nets tree heads m [] j w k net at here = cc
lead_nets tree heads m (x ∷ nets) j w zero net at here =
    let same : x ≡ net = cc in
    let number : m + 0 ≡ m = omega arith in
    among_left (wires_entries tree heads m x x.wires) (nets_entries tree heads (suc m) nets) j w
    (subst (λ y. Among (wires_entries tree heads m y y.wires) j w) (sym same)
    (subst (λ n. Among (wires_entries tree heads n net net.wires) j w) number here))
lead_nets tree heads m (x ∷ nets) j w (suc k) net at here =
    let number : m + suc k ≡ suc m + k = omega arith in
    among_right (wires_entries tree heads m x x.wires) (nets_entries tree heads (suc m) nets) j w
    (lead_nets tree heads (suc m) nets j w k net at (subst (λ n. Among (wires_entries tree heads n net net.wires) j w) number here))

pub writer_leads : (tree : Tree) (heads : List Head) (j : Joint) (w : Writer) → writer_of j (entries_of tree heads) ≡ Some w
    → Leads tree heads w.joint j w.size
writer_leads tree heads j w found =
    let it = nets_lead tree heads 0 tree.nets j w (found_among j (entries_of tree heads) w found) in
    let number : 0 + it.0 ≡ it.0 = omega arith in
    let inside : LeadsIn tree heads it.0 it.1 (it.1).wires j w = subst (λ n. LeadsIn tree heads n it.1 (it.1).wires j w) number it.3 in
    record {
      number = it.0;
      net = it.1;
      place = inside.0;
      wire = inside.1;
      is_net = it.2;
      is_wire = inside.2;
      begins = inside.3;
      ends = inside.4;
      asks = inside.5;
    }

pub leads_writer : (tree : Tree) (heads : List Head) → IsSound tree → violations tree heads ≡ [] → (i j : Joint) (size : ℕ)
    → Leads tree heads i j size → (w : Writer) × (writer_of j (entries_of tree heads) ≡ Some w) × (w.joint ≡ i) × (w.size ≡ size)
leads_writer tree heads sound fine i j size leads =
    let number : leads.number ≡ 0 + leads.number = omega arith in
    let among : Among (entries_of tree heads) j (record { joint = i; size = size }) =
    lead_nets tree heads 0 tree.nets j (record { joint = i; size = size }) leads.number leads.net leads.is_net
    (subst (λ n. Among (wires_entries tree heads n leads.net (leads.net).wires) j (record { joint = i; size = size })) number
    (lead_wires tree heads leads.number leads.net (leads.net).wires j (record { joint = i; size = size }) leads.place leads.wire leads.is_wire leads.begins leads.ends leads.asks)) in
    let found = among_found j (entries_of tree heads) (record { joint = i; size = size }) (is_same_itself j) among in
    let one = one_before tree heads sound fine (found.0).joint i j (found.0).size size (writer_leads tree heads j found.0 found.1) leads in
    (found.0, found.1, one.0, one.1)

-- ---- the walk

-- from a joint on to the one at which the walk began
pub data Onward (tree : Tree) (heads : List Head) (joint : Joint) : Joint → ℕ → Type 0 where
  here : Onward tree heads joint joint 0
  on : {current : Joint} {size : ℕ} → Chain tree heads current joint size → Onward tree heads joint current size

-- how the walk stands: it came here, and each chain from a writing end passes here
pub record Walked (tree : Tree) (heads : List Head) (joint current : Joint) (size : ℕ) : Type 0 where
  pub onward : Onward tree heads joint current size
  pub through : (j : Joint) (e : End) (s : ℕ) → writing_end j ≡ Some e → Chain tree heads j joint s
      → (t : ℕ) × Walk tree heads j current t

pub walked_none : (tree : Tree) (heads : List Head) (joint : Joint) → Walked tree heads joint joint 0
walked_none tree heads joint = record { onward = here; through = λ j e s writes chain. (s, walk_of chain) }

max_none : (n : ℕ) → n ≡ max n 0
max_none n = let low = le-max_left n 0 in let high : max n 0 ≤ n = max-le (omega arith) (omega arith) in omega (arith, low, high)

-- one connection more
pub onward_chain : (tree : Tree) (heads : List Head) (joint current : Joint) (size : ℕ) (w : Writer)
    → Leads tree heads w.joint current w.size → Onward tree heads joint current size
    → Chain tree heads w.joint joint (max w.size size)
onward_chain tree heads joint current size w leads (on chain) = more leads chain
onward_chain tree heads joint current size w leads here = subst (λ n. Chain tree heads w.joint joint n) (max_none w.size) (last leads)

some_writer : (v w : Writer) (o : Option Writer) → o ≡ Some v → o ≡ Some w → v ≡ w
some_writer v w o one other = let both : Some v ≡ Some w = sym one ∙ other in cc

pub walked_more : (tree : Tree) (heads : List Head) → IsSound tree → violations tree heads ≡ []
    → (joint current : Joint) (size : ℕ) (w : Writer) → writer_of current (entries_of tree heads) ≡ Some w
    → is_some (writing_end w.joint) ≡ false → Walked tree heads joint current size
    → Walked tree heads joint w.joint (max w.size size)
walked_more tree heads sound fine joint current size w found inner so_far = record {
  onward = on (onward_chain tree heads joint current size w (writer_leads tree heads current w found) so_far.onward);
  through = λ j e s writes chain. let reach = so_far.through j e s writes chain in back j e reach.0 writes reach.1;
}
  where
    back : (j : Joint) (e : End) (t : ℕ) → writing_end j ≡ Some e → Walk tree heads j current t → (r : ℕ) × Walk tree heads j w.joint r
    back j e t writes (step leads) =
        let it = leads_writer tree heads sound fine j current t leads in
        let one : it.0 ≡ w = some_writer it.0 w (writer_of current (entries_of tree heads)) it.1 found in
        let ends : writing_end w.joint ≡ Some e = ap (λ v. writing_end v.joint) (sym one) ∙ ap writing_end it.2 ∙ writes in
        let never : is_some (writing_end w.joint) ≡ true = ap is_some ends in cc
    back j e t writes (then_on {k = k} {size = r} {rest = q} walk leads) =
        let it = leads_writer tree heads sound fine k current q leads in
        let one : it.0 ≡ w = some_writer it.0 w (writer_of current (entries_of tree heads)) it.1 found in
        let at : k ≡ w.joint = sym it.2 ∙ ap (λ v. v.joint) one in
        (r, subst (λ i. Walk tree heads j i r) at walk)

pub walked_out : (tree : Tree) (heads : List Head) → IsSound tree → violations tree heads ≡ []
    → (joint current : Joint) (size : ℕ) → writer_of current (entries_of tree heads) ≡ None
    → Walked tree heads joint current size → HasNoOrigin tree heads joint
walked_out tree heads sound fine joint current size lacks so_far j e s writes chain =
    let reach = so_far.through j e s writes chain in out reach.0 reach.1
  where
    out : (t : ℕ) → Walk tree heads j current t → ⊥
    out t (step leads) =
        let it = leads_writer tree heads sound fine j current t leads in
        let both : Some it.0 ≡ None = sym it.1 ∙ lacks in cc
    out t (then_on {k = k} {rest = q} walk leads) =
        let it = leads_writer tree heads sound fine k current q leads in
        let both : Some it.0 ≡ None = sym it.1 ∙ lacks in cc

pub walked_origin : (tree : Tree) (heads : List Head) (joint current : Joint) (size : ℕ) (w v : Writer)
    → writer_of current (entries_of tree heads) ≡ Some w
    → is_some (writing_end w.joint) ≡ true → v.joint ≡ w.joint → v.size ≡ max w.size size
    → Walked tree heads joint current size → IsOrigin tree heads joint v
walked_origin tree heads joint current size w v found outer same_joint same_size so_far = record {
  chain = subst (λ s. Chain tree heads v.joint joint s) (sym same_size)
      (subst (λ i. Chain tree heads i joint (max w.size size)) (sym same_joint)
      (onward_chain tree heads joint current size w (writer_leads tree heads current w found) so_far.onward));
  writes = ap (λ i. is_some (writing_end i)) same_joint ∙ outer;
}

-- ---- the walk ends

-- a network's own input
abbrev IsOwnInput : ℕ → Joint → Type 0
IsOwnInput n (LeafPort l input p) = ⊥
IsOwnInput n (OwnPort m true p) = n ≡ m
IsOwnInput n (OwnPort m false p) = ⊥

own_input_is : (n : ℕ) (net : Net) (name : List ℕ) (j : Joint) → own_input n net name ≡ Some j → IsOwnInput n j
own_input_is n net name j found = mapped (IsOwnInput n) (λ p. OwnPort n true p) (place_of name (own_names net.ins)) j (λ p. refl) found

abbrev IsOutward : Joint → Type 0
IsOutward (LeafPort l true p) = ⊥
IsOutward (LeafPort l false p) = Unit {0}
IsOutward (OwnPort n true p) = ⊥
IsOutward (OwnPort n false p) = Unit {0}

-- an instance's output tells which instance it is
record IsOutputOf (inner : Inner) (j : Joint) : Type 0 where
  same : inner ≡ inner_of j
  outward : IsOutward j

output_is : (tree : Tree) (heads : List Head) (inner : Inner) (name : List ℕ) (j : Joint)
    → part_output tree heads (Some inner) name ≡ Some j → IsOutputOf inner j
output_is tree heads (InnerNet m) name j found = go (slice_get tree.nets m) found
  where
    go : (o : Option Net) → net_output m o name ≡ Some j → IsOutputOf (InnerNet m) j
    go None h = cc
    go (Some net) h = mapped (IsOutputOf (InnerNet m)) (λ p. OwnPort m false p) (place_of name (own_names net.outs)) j (λ p. record { same = refl; outward = tt }) h
output_is tree heads (InnerLeaf l) name j found = go (slice_get heads l) found
  where
    go : (o : Option Head) → leaf_output l o name ≡ Some j → IsOutputOf (InnerLeaf l) j
    go None h = cc
    go (Some head) h = mapped (IsOutputOf (InnerLeaf l)) (λ p. LeafPort l false p) (place_of name (head_names head.outs)) j (λ p. record { same = refl; outward = tt }) h

-- an output or an input of a part
record OfPart (tree : Tree) (n : ℕ) (Is : Inner → Joint → Type 0) (j : Joint) : Type 0 where
  inner : Inner
  behind : IsBehind tree n inner
  is : Is inner j

named_behind : (tree : Tree) → IsSound tree → (n : ℕ) (net : Net) (name : List ℕ) (inner : Inner)
    → slice_get tree.nets n ≡ Some net → part_named name net.parts ≡ Some inner → IsBehind tree n inner
named_behind tree sound n net name inner at named =
    let part = named_part name net.parts inner named in
    subst (IsBehind tree n) part.3 (sound.behind n part.0 part.1 (record { net = net; is_net = at; is_part = part.2 }))

output_of : (tree : Tree) (heads : List Head) → IsSound tree → (n : ℕ) (net : Net) (name port : List ℕ) (j : Joint) (inner : Option Inner)
    → slice_get tree.nets n ≡ Some net → part_named name net.parts ≡ inner → part_output tree heads inner port ≡ Some j
    → OfPart tree n IsOutputOf j
output_of tree heads sound n net name port j None at named found = cc
output_of tree heads sound n net name port j (Some inner) at named found =
    record { inner = inner; behind = named_behind tree sound n net name inner at named; is = output_is tree heads inner port j found }

input_of : (tree : Tree) (heads : List Head) → IsSound tree → (n : ℕ) (net : Net) (name port : List ℕ) (j : Joint) (inner : Option Inner)
    → slice_get tree.nets n ≡ Some net → part_named name net.parts ≡ inner → part_input tree heads inner port ≡ Some j
    → OfPart tree n IsInputOf j
input_of tree heads sound n net name port j None at named found = cc
input_of tree heads sound n net name port j (Some inner) at named found =
    record { inner = inner; behind = named_behind tree sound n net name inner at named; is = input_is tree heads inner port j found }

own_input_rank : (nets n : ℕ) (j : Joint) → IsOwnInput n j → rank nets j ≡ suc (nets + n)
own_input_rank nets n (LeafPort l input p) is = absurd is
own_input_rank nets n (OwnPort m true p) is = ap (λ k. suc (nets + k)) (sym is)
own_input_rank nets n (OwnPort m false p) is = absurd is

own_output_rank : (nets n : ℕ) (j : Joint) → IsOwnOutput n j → rank nets j ≡ nets - n
own_output_rank nets n (LeafPort l input p) is = absurd is
own_output_rank nets n (OwnPort m true p) is = absurd is
own_output_rank nets n (OwnPort m false p) is = ap (λ k. nets - k) (sym is)

output_below : (tree : Tree) (n : ℕ) (j : Joint) → n < length tree.nets → OfPart tree n IsOutputOf j
    → rank (length tree.nets) j < length tree.nets - n
output_below tree n (LeafPort l true p) within of = absurd (of.is).outward
output_below tree n (LeafPort l false p) within of = omega (arith, within)
output_below tree n (OwnPort m true p) within of = absurd (of.is).outward
output_below tree n (OwnPort m false p) within of =
    let behind : IsBehind tree n (InnerNet m) = subst (IsBehind tree n) (of.is).same of.behind in
    omega (arith, within, behind.0, behind.1)

input_above : (tree : Tree) (n : ℕ) (j : Joint) → n < length tree.nets → OfPart tree n IsInputOf j
    → suc (length tree.nets + n) < rank (length tree.nets) j
input_above tree n (LeafPort l true p) within of = omega (arith, within)
input_above tree n (LeafPort l false p) within of = absurd (of.is).inward
input_above tree n (OwnPort m true p) within of =
    let behind : IsBehind tree n (InnerNet m) = subst (IsBehind tree n) (of.is).same of.behind in
    omega (arith, behind.0)
input_above tree n (OwnPort m false p) within of = absurd (of.is).inward

pub falls : (tree : Tree) (heads : List Head) → IsSound tree → violations tree heads ≡ [] → (i j : Joint) (size : ℕ)
    → Leads tree heads i j size → rank (length tree.nets) i < rank (length tree.nets) j
falls tree heads sound fine i j size leads =
    go (is_nameless (leads.wire).src) (is_nameless (leads.wire).dst)
    (none_direct tree heads fine leads.number leads.net leads.place leads.wire leads.is_net leads.is_wire) leads.begins leads.ends
  where
    within : leads.number < length tree.nets
    within = slice_get_within tree.nets leads.number leads.net leads.is_net

    from : part_output tree heads (part_named (leads.wire).src (leads.net).parts) (leads.wire).src_port ≡ Some i
        → rank (length tree.nets) i < length tree.nets - leads.number
    from begins = output_below tree leads.number i within
        (output_of tree heads sound leads.number leads.net (leads.wire).src (leads.wire).src_port i (part_named (leads.wire).src (leads.net).parts) leads.is_net refl begins)

    into : part_input tree heads (part_named (leads.wire).dst (leads.net).parts) (leads.wire).dst_port ≡ Some j
        → suc (length tree.nets + leads.number) < rank (length tree.nets) j
    into ends = input_above tree leads.number j within
        (input_of tree heads sound leads.number leads.net (leads.wire).dst (leads.wire).dst_port j (part_named (leads.wire).dst (leads.net).parts) leads.is_net refl ends)

    go : (a b : Bool) → (a && b) ≡ false
        → (if a then own_input leads.number leads.net (leads.wire).src_port else part_output tree heads (part_named (leads.wire).src (leads.net).parts) (leads.wire).src_port) ≡ Some i
        → (if b then own_output leads.number leads.net (leads.wire).dst_port else part_input tree heads (part_named (leads.wire).dst (leads.net).parts) (leads.wire).dst_port) ≡ Some j
        → rank (length tree.nets) i < rank (length tree.nets) j
    go true true direct begins ends = cc
    go true false direct begins ends =
        let low : rank (length tree.nets) i ≡ suc (length tree.nets + leads.number) = own_input_rank (length tree.nets) leads.number i (own_input_is leads.number leads.net (leads.wire).src_port i begins) in
        let high = into ends in omega (arith, low, high)
    go false true direct begins ends =
        let high : rank (length tree.nets) j ≡ length tree.nets - leads.number = own_output_rank (length tree.nets) leads.number j (own_output_is leads.number leads.net (leads.wire).dst_port j ends) in
        let low = from begins in omega (arith, low, high)
    go false false direct begins ends =
        let low = from begins in
        let high = into ends in omega (arith, low, high)
