-- At most one connection leads to a joint, and none to a writing end.
use Rattle.std.proofs.Common.{◌≡◌, ◌⊎◌, inl, inr, ℕ, zero, suc, ◌<◌, ◌≤◌, Bool, true, false, List, [], ◌∷◌, ◌++◌, refl, sym, ◌∙◌, subst, arith}
use Rattle.std.specs.Prelude.{Option, None, Some, option_map, slice_get, if◌then◌else◌}
use Rattle.std.specs.Str.{bytes_eq}
use Rattle.std.proofs.lemmas.Bool.{eq-eqb, cases_lt}
use Rattle.net_model.specs.declared.wiring.End.{End}
use Rattle.fnl_tree.specs.Tree.{Inner, InnerNet, InnerLeaf, Part, Wire, Net, Tree}
use Rattle.fnl_flatten.specs.Head.{Head, head_names}
use Rattle.fnl_flatten.specs.Joints.{Joint, LeafPort, OwnPort, place_of, own_names, is_nameless, part_named, net_input, leaf_input, part_input, own_output, target}
use Rattle.fnl_flatten.specs.Links.{Leads, writing_end}
use Rattle.fnl_flatten.specs.Rules.{found, is_same, same_side, is_written, second_broken, with_target, seconds_broken}
use Rattle.fnl_tree.specs.Sound.{IsPart, IsBehind, IsSound}
use Rattle.fnl_flatten.proofs.Places.{IsInward}

-- ---- what a joint tells of its owner

abbrev pub inner_of : Joint → Inner
inner_of (LeafPort l input p) = InnerLeaf l
inner_of (OwnPort n input p) = InnerNet n

-- a network's own output
abbrev pub IsOwnOutput : ℕ → Joint → Type 0
IsOwnOutput n (LeafPort l input p) = ⊥
IsOwnOutput n (OwnPort m true p) = ⊥
IsOwnOutput n (OwnPort m false p) = n ≡ m

pub mapped : {A : Type 0} (P : A → Type 0) (f : ℕ → A) (o : Option ℕ) (j : A) → ((p : ℕ) → P (f p)) → option_map f o ≡ Some j → P j
mapped P f None j each found = cc
mapped P f (Some p) j each found = let same : f p ≡ j = cc in subst P same (each p)

pub own_output_is : (n : ℕ) (net : Net) (name : List ℕ) (j : Joint) → own_output n net name ≡ Some j → IsOwnOutput n j
own_output_is n net name j found = mapped (IsOwnOutput n) (λ p. OwnPort n false p) (place_of name (own_names net.outs)) j (λ p. refl) found

-- an instance's input tells which instance it is, and leads inwards
pub record IsInputOf (inner : Inner) (j : Joint) : Type 0 where
  pub same : inner ≡ inner_of j
  pub inward : IsInward j

pub input_is : (tree : Tree) (heads : List Head) (inner : Inner) (name : List ℕ) (j : Joint)
    → part_input tree heads (Some inner) name ≡ Some j → IsInputOf inner j
input_is tree heads (InnerNet m) name j found = go (slice_get tree.nets m) found
  where
    go : (o : Option Net) → net_input m o name ≡ Some j → IsInputOf (InnerNet m) j
    go None h = cc
    go (Some net) h = mapped (IsInputOf (InnerNet m)) (λ p. OwnPort m true p) (place_of name (own_names net.ins)) j (λ p. record { same = refl; inward = tt }) h
input_is tree heads (InnerLeaf l) name j found = go (slice_get heads l) found
  where
    go : (o : Option Head) → leaf_input l o name ≡ Some j → IsInputOf (InnerLeaf l) j
    go None h = cc
    go (Some head) h = mapped (IsInputOf (InnerLeaf l)) (λ p. LeafPort l true p) (place_of name (head_names head.ins)) j (λ p. record { same = refl; inward = tt }) h

-- a name means a part
pub named_part : (id : List ℕ) (parts : List Part) (inner : Inner) → part_named id parts ≡ Some inner
    → (k : ℕ) × (part : Part) × (slice_get parts k ≡ Some part) × (part.inner ≡ inner)
named_part id [] inner found = cc
named_part id (p ∷ parts) inner found = go (bytes_eq p.id id) (named_part id parts inner) found
  where
    go : (b : Bool) → (part_named id parts ≡ Some inner → (k : ℕ) × (part : Part) × (slice_get parts k ≡ Some part) × (part.inner ≡ inner))
        → (if b then Some p.inner else part_named id parts) ≡ Some inner
        → (k : ℕ) × (part : Part) × (slice_get (p ∷ parts) k ≡ Some part) × (part.inner ≡ inner)
    go true later h = (0, p, refl, cc)
    go false later h = let it = later h in (suc it.0, it.1, it.2, it.3)

-- where a connection leads: to its network's own output, or to an input of a part of it
pub data Leading (tree : Tree) (n : ℕ) (j : Joint) : Type 0 where
  out : IsOwnOutput n j → Leading tree n j
  into : (place : ℕ) (part : Part) → IsPart tree n place part → IsInputOf part.inner j → Leading tree n j

into_part : (tree : Tree) (heads : List Head) (n : ℕ) (net : Net) (w : Wire) (j : Joint) (inner : Option Inner)
    → slice_get tree.nets n ≡ Some net → part_named w.dst net.parts ≡ inner
    → part_input tree heads inner w.dst_port ≡ Some j → Leading tree n j
into_part tree heads n net w j None at named found = cc
into_part tree heads n net w j (Some inner) at named found =
    let part = named_part w.dst net.parts inner named in
    let is = input_is tree heads inner w.dst_port j found in
    into part.0 part.1 (record { net = net; is_net = at; is_part = part.2 })
    (record { same = part.3 ∙ is.same; inward = is.inward })

pub leading : (tree : Tree) (heads : List Head) (n : ℕ) (net : Net) (w : Wire) (j : Joint)
    → slice_get tree.nets n ≡ Some net → target tree heads n net w ≡ Some j → Leading tree n j
leading tree heads n net w j at found = go (is_nameless w.dst) found
  where
    go : (b : Bool) → (if b then own_output n net w.dst_port else part_input tree heads (part_named w.dst net.parts) w.dst_port) ≡ Some j → Leading tree n j
    go true h = out (own_output_is n net w.dst_port j h)
    go false h = into_part tree heads n net w j (part_named w.dst net.parts) at refl h

never_both : (n : ℕ) (j : Joint) → IsOwnOutput n j → IsInward j → ⊥
never_both n (LeafPort l input p) own inward = own
never_both n (OwnPort m true p) own inward = own
never_both n (OwnPort m false p) own inward = inward

own_once : (n m : ℕ) (j : Joint) → IsOwnOutput n j → IsOwnOutput m j → n ≡ m
own_once n m (LeafPort l input p) one other = absurd one
own_once n m (OwnPort k true p) one other = absurd one
own_once n m (OwnPort k false p) one other = one ∙ sym other

-- two connections to one joint stand in one network
pub one_network : (tree : Tree) → IsSound tree → (n m : ℕ) (j : Joint) → Leading tree n j → Leading tree m j → n ≡ m
one_network tree sound n m j (out own) (out other) = own_once n m j own other
one_network tree sound n m j (out own) (into place part is input) = absurd (never_both n j own input.inward)
one_network tree sound n m j (into place part is input) (out own) = absurd (never_both m j own input.inward)
one_network tree sound n m j (into place part is input) (into other_place that it other) =
    (sound.once n m place other_place part that is it (input.same ∙ sym other.same)).0

-- ---- writing ends

-- the top stands in no network
never_top : (tree : Tree) → IsSound tree → (n place : ℕ) (part : Part) → IsPart tree n place part → part.inner ≡ InnerNet 0 → ⊥
never_top tree sound n place part it is =
    let behind : IsBehind tree n (InnerNet 0) = subst (IsBehind tree n) is (sound.behind n place part it) in
    absurd (omega (arith, behind.0))

not_written : (tree : Tree) → IsSound tree → (n : ℕ) (j : Joint) (e : End) → writing_end j ≡ Some e → Leading tree n j → ⊥
not_written tree sound n (LeafPort l true p) e is leads = cc
not_written tree sound n (LeafPort l false p) e is (out own) = own
not_written tree sound n (LeafPort l false p) e is (into place part it input) = input.inward
not_written tree sound n (OwnPort zero true p) e is (out own) = own
not_written tree sound n (OwnPort zero true p) e is (into place part it input) = never_top tree sound n place part it input.same
not_written tree sound n (OwnPort zero false p) e is leads = cc
not_written tree sound n (OwnPort (suc m) input p) e is leads = cc

pub no_writer : (tree : Tree) (heads : List Head) → IsSound tree → (j k : Joint) (size : ℕ) (e : End)
    → writing_end k ≡ Some e → Leads tree heads j k size → ⊥
no_writer tree heads sound j k size e is leads =
    not_written tree sound leads.number k e is (leading tree heads leads.number leads.net leads.wire k leads.is_net leads.ends)

-- ---- one connection

both_empty : {A : Type 0} (xs ys : List A) → xs ++ ys ≡ [] → (xs ≡ []) × (ys ≡ [])
both_empty [] ys h = (refl, h)
both_empty (x ∷ xs) ys h = cc

side_same : (b : Bool) → same_side b b ≡ true
side_same true = refl
side_same false = refl

pub is_same_itself : (j : Joint) → is_same j j ≡ true
is_same_itself (LeafPort l input p) = rw (eq-eqb l l refl, side_same input, eq-eqb p p refl)
is_same_itself (OwnPort l input p) = rw (eq-eqb l l refl, side_same input, eq-eqb p p refl)

written_first : (j : Joint) (before : List Joint) → is_written j (j ∷ before) ≡ true
written_first j before = rw (is_same_itself j)

written_later : (j : Joint) (o : Option Joint) (before : List Joint) → is_written j before ≡ true → is_written j (with_target o before) ≡ true
written_later j None before h = h
written_later j (Some k) before h = go (is_same j k)
  where
    go : (b : Bool) → (if b then true else is_written j before) ≡ true
    go true = refl
    go false = h

-- what is written already isn't written again
none_again : (tree : Tree) (heads : List Head) (n : ℕ) (net : Net) (ws : List Wire) (before : List Joint) (k : ℕ) (w : Wire) (j : Joint)
    → seconds_broken tree heads n net ws before ≡ [] → is_written j before ≡ true
    → slice_get ws k ≡ Some w → target tree heads n net w ≡ Some j → ⊥
none_again tree heads n net [] before k w j fine written at leads = cc
none_again tree heads n net (x ∷ ws) before zero w j fine written at leads =
    let same : x ≡ w = cc in
    let here : target tree heads n net x ≡ Some j = subst (λ y. target tree heads n net y ≡ Some j) (sym same) leads in
    let first : second_broken net x (target tree heads n net x) before ≡ [] =
    (both_empty (second_broken net x (target tree heads n net x) before) (seconds_broken tree heads n net ws (with_target (target tree heads n net x) before)) fine).0 in
    let of_j : second_broken net x (Some j) before ≡ [] = subst (λ o. second_broken net x o before ≡ []) here first in
    refused (is_written j before) written of_j
  where
    refused : (b : Bool) → b ≡ true → (if b then found Rattle.rvc_base.specs.Rules.second_writer net x else []) ≡ [] → ⊥
    refused true is h = cc
    refused false is h = cc
none_again tree heads n net (x ∷ ws) before (suc k) w j fine written at leads =
    none_again tree heads n net ws (with_target (target tree heads n net x) before) k w j
    (both_empty (second_broken net x (target tree heads n net x) before) (seconds_broken tree heads n net ws (with_target (target tree heads n net x) before)) fine).1
    (written_later j (target tree heads n net x) before written) at leads

never_twice : (tree : Tree) (heads : List Head) (n : ℕ) (net : Net) (ws : List Wire) (before : List Joint) (a b : ℕ) (w v : Wire) (j : Joint)
    → seconds_broken tree heads n net ws before ≡ [] → a < b
    → slice_get ws a ≡ Some w → target tree heads n net w ≡ Some j
    → slice_get ws b ≡ Some v → target tree heads n net v ≡ Some j → ⊥
never_twice tree heads n net [] before a b w v j fine less at leads other also = cc
never_twice tree heads n net (x ∷ ws) before a zero w v j fine less at leads other also = absurd (omega (arith, less))
never_twice tree heads n net (x ∷ ws) before zero (suc b) w v j fine less at leads other also =
    let same : x ≡ w = cc in
    let here : target tree heads n net x ≡ Some j = subst (λ y. target tree heads n net y ≡ Some j) (sym same) leads in
    let rest = (both_empty (second_broken net x (target tree heads n net x) before) (seconds_broken tree heads n net ws (with_target (target tree heads n net x) before)) fine).1 in
    let of_j : seconds_broken tree heads n net ws (j ∷ before) ≡ [] = subst (λ o. seconds_broken tree heads n net ws (with_target o before) ≡ []) here rest in
    none_again tree heads n net ws (j ∷ before) b v j of_j (written_first j before) other also
never_twice tree heads n net (x ∷ ws) before (suc a) (suc b) w v j fine less at leads other also =
    never_twice tree heads n net ws (with_target (target tree heads n net x) before) a b w v j
    (both_empty (second_broken net x (target tree heads n net x) before) (seconds_broken tree heads n net ws (with_target (target tree heads n net x) before)) fine).1
    (omega (arith, less)) at leads other also

pub one_wire : (tree : Tree) (heads : List Head) (n : ℕ) (net : Net) (a b : ℕ) (w v : Wire) (j : Joint)
    → seconds_broken tree heads n net net.wires [] ≡ []
    → slice_get net.wires a ≡ Some w → target tree heads n net w ≡ Some j
    → slice_get net.wires b ≡ Some v → target tree heads n net v ≡ Some j → a ≡ b
one_wire tree heads n net a b w v j fine at leads other also = by_order (cases_lt a b) (cases_lt b a)
  where
    by_order : (a < b) ⊎ (b ≤ a) → (b < a) ⊎ (a ≤ b) → a ≡ b
    by_order (inl less) h = absurd (never_twice tree heads n net net.wires [] a b w v j fine less at leads other also)
    by_order (inr at_most) (inl less) = absurd (never_twice tree heads n net net.wires [] b a v w j fine less other also at leads)
    by_order (inr at_most) (inr at_least) = omega (arith, at_most, at_least)
