-- Connections entered one after the other.
use Rattle.std.proofs.Common.{◌≡◌, ◌⊎◌, inl, inr, ℕ, zero, suc, ◌+◌, ◌<◌, ◌≤◌, Bool, true, false, ◌||◌, List, [], ◌∷◌, ◌++◌, length, refl, sym, ap, subst, ◌∙◌, drop, add-one, arith}
use Rattle.std.proofs.Math.Seq.{drop-cons}
use Rattle.std.proofs.lemmas.Option.{slice_get_within, get_or_from_slice_get}
use Rattle.std.proofs.lemmas.Bool.Decides.{Decides-eqb}
use Rattle.std.proofs.lemmas.List.{map-append, append_assoc, append-nil}
use Rattle.std.proofs.lemmas.List.Elements.{Contains-append_left, Contains-append_right, Contains-append_cases}
use Rattle.std.specs.Prelude.{Option, None, Some, ◌==◌, ◌&&◌, if◌then◌else◌, is_some, slice_get, Contains}
use Rattle.rvc_base.specs.Rules.{no_ends, second_writer}
use Rattle.net_model.specs.Limits.{max_instances}
use Rattle.fnl_tree.specs.Sound.{IsSound}
use Rattle.fnl_tree.specs.Tree.{Wire, Net, Tree}
use Rattle.fnl_flatten.specs.declared.fault.Fault.{Fault}
use Rattle.fnl_flatten.specs.declared.fault.Fault.TheVariants.{Broken, Memory}
use Rattle.fnl_flatten.specs.Arrows.{Entry, entry_of, wire_entry, wires_entries, nets_entries, entries_of, writer_of, written, with_next, again_broken}
use Rattle.fnl_flatten.specs.Head.{Head}
use Rattle.fnl_flatten.specs.Joints.{Joint, LeafPort, OwnPort, source, target}
use Rattle.fnl_flatten.specs.Named.{IsCause}
use Rattle.fnl_flatten.specs.Rules.{Found, is_same, is_written, is_direct, ends_broken, wire_broken, wires_broken, second_broken, with_target, seconds_broken, net_broken, nets_broken, violations}
use Rattle.fnl_flatten.proofs.Lookups.{written_is}
use Rattle.fnl_flatten.proofs.OneWriter.{Leading, leading, one_network}

-- ---- causes

pub cause_left : (xs ys : List Found) (f : Fault) → IsCause xs f → IsCause (xs ++ ys) f
cause_left xs ys (Broken rule file at) h = Contains-append_left xs ys (record { rule = rule; file = file; at = at }) h
cause_left xs ys Memory h = tt

pub cause_right : (xs ys : List Found) (f : Fault) → IsCause ys f → IsCause (xs ++ ys) f
cause_right xs ys (Broken rule file at) h = Contains-append_right xs ys (record { rule = rule; file = file; at = at }) h
cause_right xs ys Memory h = tt

cause_cases : (xs ys : List Found) (f : Fault) → IsCause (xs ++ ys) f → IsCause xs f ⊎ IsCause ys f
cause_cases xs ys (Broken rule file at) h = Contains-append_cases xs ys (record { rule = rule; file = file; at = at }) h
cause_cases xs ys Memory h = inl tt

-- ---- the connections of a network

-- what was entered so far, and what is left
pub record WiresUpTo (tree : Tree) (heads : List Head) (n : ℕ) (net : Net) (rest ws : List Wire) (entries first : List Entry) : Type 0 where
  pub entered : entries ++ wires_entries tree heads n net rest ≡ first ++ wires_entries tree heads n net ws
  pub fine : wires_broken tree heads n net ws ≡ wires_broken tree heads n net rest
  pub once : again_broken tree heads n net ws (written first) ≡ again_broken tree heads n net rest (written entries)

pub wires_none : (tree : Tree) (heads : List Head) (n : ℕ) (net : Net) (ws : List Wire) (first : List Entry)
    → WiresUpTo tree heads n net ws ws first first
wires_none tree heads n net ws first = record { entered = refl; fine = refl; once = refl }

-- a connection that breaks no rule has both ends
entry_written : (from to : Option Joint) (size : ℕ) (entries : List Entry) → ((to ≡ None) ⊎ ((j : Joint) × (from ≡ Some j)))
    → written (entries ++ entry_of from to size) ≡ with_next to (written entries)
entry_written (Some j) (Some k) size entries h = map-append (λ e. e.0) entries ((k, record { joint = j; size = size }) ∷ [])
entry_written (Some j) None size entries h = ap written (append-nil entries)
entry_written None (Some k) size entries (inl lacks) = cc
entry_written None (Some k) size entries (inr found) = let never_so = found.1 in cc
entry_written None None size entries h = ap written (append-nil entries)

ends_there : (tree : Tree) (heads : List Head) (n : ℕ) (net : Net) (w : Wire) → wire_broken tree heads n net w ≡ []
    → (target tree heads n net w ≡ None) ⊎ ((j : Joint) × (source tree heads n net w ≡ Some j))
ends_there tree heads n net w h = go (is_direct w) (source tree heads n net w) (target tree heads n net w) h
  where
    go : (b : Bool) (from to : Option Joint) → (if b then Rattle.fnl_flatten.specs.Rules.found no_ends net w else ends_broken tree heads net w from to) ≡ []
        → (to ≡ None) ⊎ ((j : Joint) × (from ≡ Some j))
    go true from to h = cc
    go false (Some j) to h = inr (j, refl)
    go false None to h = cc

pub wires_more : (tree : Tree) (heads : List Head) (n : ℕ) (net : Net) (w : Wire) (rest ws : List Wire) (entries more first : List Entry)
    → more ≡ entries ++ wire_entry tree heads n net w
    → wire_broken tree heads n net w ≡ []
    → second_broken net w (target tree heads n net w) (written entries) ≡ []
    → WiresUpTo tree heads n net (w ∷ rest) ws entries first
    → WiresUpTo tree heads n net rest ws more first
wires_more tree heads n net w rest ws entries more first is fine once so_far = record {
  entered = ap (λ es. es ++ wires_entries tree heads n net rest) is
      ∙ append_assoc entries (wire_entry tree heads n net w) (wires_entries tree heads n net rest)
      ∙ so_far.entered;
  fine = so_far.fine ∙ ap (λ fs. fs ++ wires_broken tree heads n net rest) fine;
  once = so_far.once
      ∙ ap (λ fs. fs ++ again_broken tree heads n net rest (with_next (target tree heads n net w) (written entries))) once
      ∙ ap (again_broken tree heads n net rest)
      (sym (ap written is ∙ entry_written (source tree heads n net w) (target tree heads n net w) w.size entries (ends_there tree heads n net w fine)));
}

pub wires_broken_here : (tree : Tree) (heads : List Head) (n : ℕ) (net : Net) (w : Wire) (rest ws : List Wire) (entries first : List Entry) (f : Fault)
    → WiresUpTo tree heads n net (w ∷ rest) ws entries first
    → IsCause (wire_broken tree heads n net w ++ second_broken net w (target tree heads n net w) (written entries)) f
    → IsCause (wires_broken tree heads n net ws ++ again_broken tree heads n net ws (written first)) f
wires_broken_here tree heads n net w rest ws entries first f so_far h =
    subst (λ fs. IsCause (fs ++ again_broken tree heads n net ws (written first)) f) (sym so_far.fine)
    (subst (λ fs. IsCause (wires_broken tree heads n net (w ∷ rest) ++ fs) f) (sym so_far.once)
    (go (cause_cases (wire_broken tree heads n net w) (second_broken net w (target tree heads n net w) (written entries)) f h)))
  where
    go : IsCause (wire_broken tree heads n net w) f ⊎ IsCause (second_broken net w (target tree heads n net w) (written entries)) f
        → IsCause (wires_broken tree heads n net (w ∷ rest) ++ again_broken tree heads n net (w ∷ rest) (written entries)) f
    go (inl first_one) = cause_left (wires_broken tree heads n net (w ∷ rest)) (again_broken tree heads n net (w ∷ rest) (written entries)) f
        (cause_left (wire_broken tree heads n net w) (wires_broken tree heads n net rest) f first_one)
    go (inr second) = cause_right (wires_broken tree heads n net (w ∷ rest)) (again_broken tree heads n net (w ∷ rest) (written entries)) f
        (cause_left (second_broken net w (target tree heads n net w) (written entries))
        (again_broken tree heads n net rest (with_next (target tree heads n net w) (written entries))) f second)

-- ---- a second writer

here : (f : Found) → Contains (f ∷ []) f
here f = (0, omega arith, refl)

pub second_cause : (net : Net) (w : Wire) (o : Option Joint) (j : Joint) (entries : List Entry) (f : Fault) (firsts : List Found)
    → o ≡ Some j → is_some (writer_of j entries) ≡ true → f ≡ Broken second_writer net.file w.at
    → IsCause (firsts ++ second_broken net w o (written entries)) f
second_cause net w o j entries f firsts is has same =
    subst (λ g. IsCause (firsts ++ second_broken net w o (written entries)) g) (sym same)
    (subst (λ p. IsCause (firsts ++ second_broken net w p (written entries)) (Broken second_writer net.file w.at)) (sym is)
    (subst (λ b. IsCause (firsts ++ (if b then Rattle.fnl_flatten.specs.Rules.found second_writer net w else [])) (Broken second_writer net.file w.at)) (sym (written_is j entries ∙ has))
    (cause_right firsts (Rattle.fnl_flatten.specs.Rules.found second_writer net w) (Broken second_writer net.file w.at)
    (here (record { rule = second_writer; file = net.file; at = w.at })))))

pub second_none : (net : Net) (w : Wire) (o : Option Joint) (j : Joint) (entries : List Entry)
    → o ≡ Some j → is_some (writer_of j entries) ≡ false → second_broken net w o (written entries) ≡ []
second_none net w o j entries is lacks =
    ap (λ p. second_broken net w p (written entries)) is
    ∙ ap (λ b. if b then Rattle.fnl_flatten.specs.Rules.found second_writer net w else []) (written_is j entries ∙ lacks)

-- ---- a joint is told from another

never : (a b : Bool) → (a && (false && b)) ≡ true → ⊥
never true b h = cc
never false b h = cc

first_is : (l m : ℕ) (b : Bool) → ((l == m) && (true && b)) ≡ true → l ≡ m
first_is l m b h = (Decides-eqb l m).0 (go (l == m) h)
  where
    go : (a : Bool) → (a && (true && b)) ≡ true → a ≡ true
    go true h = refl
    go false h = cc

second_is : (l m p q : ℕ) → ((l == m) && (true && (p == q))) ≡ true → p ≡ q
second_is l m p q h = (Decides-eqb p q).0 (go (l == m) h)
  where
    go : (a : Bool) → (a && (true && (p == q))) ≡ true → (p == q) ≡ true
    go true h = h
    go false h = cc

-- joints that are the same are one
pub joint_is : (j k : Joint) → is_same j k ≡ true → j ≡ k
joint_is (LeafPort l true p) (LeafPort m true q) h = ap (λ n. LeafPort n true p) (first_is l m (p == q) h) ∙ ap (λ n. LeafPort m true n) (second_is l m p q h)
joint_is (LeafPort l true p) (LeafPort m false q) h = absurd (never (l == m) (p == q) h)
joint_is (LeafPort l false p) (LeafPort m true q) h = absurd (never (l == m) (p == q) h)
joint_is (LeafPort l false p) (LeafPort m false q) h = ap (λ n. LeafPort n false p) (first_is l m (p == q) h) ∙ ap (λ n. LeafPort m false n) (second_is l m p q h)
joint_is (OwnPort l true p) (OwnPort m true q) h = ap (λ n. OwnPort n true p) (first_is l m (p == q) h) ∙ ap (λ n. OwnPort m true n) (second_is l m p q h)
joint_is (OwnPort l true p) (OwnPort m false q) h = absurd (never (l == m) (p == q) h)
joint_is (OwnPort l false p) (OwnPort m true q) h = absurd (never (l == m) (p == q) h)
joint_is (OwnPort l false p) (OwnPort m false q) h = ap (λ n. OwnPort n false p) (first_is l m (p == q) h) ∙ ap (λ n. OwnPort m false n) (second_is l m p q h)
joint_is (LeafPort l input p) (OwnPort m other q) h = cc
joint_is (OwnPort l input p) (LeafPort m other q) h = cc

-- ---- second writers, whichever stand before in whichever order

-- the joints to which connections of these lead
abbrev LeadTo : Tree → List Head → ℕ → Net → List Wire → Joint → Type 0
LeadTo tree heads n net ws j = (k : ℕ) × (w : Wire) × (slice_get ws k ≡ Some w) × (target tree heads n net w ≡ Some j)

lead_more : (tree : Tree) (heads : List Head) (n : ℕ) (net : Net) (w : Wire) (ws : List Wire) (j : Joint)
    → LeadTo tree heads n net ws j → LeadTo tree heads n net (w ∷ ws) j
lead_more tree heads n net w ws j to = (suc to.0, to.1, to.2, to.3)

written_both : (j : Joint) (xs : List Joint) (k : Joint) → is_written j (xs ++ k ∷ []) ≡ (if is_same j k then true else is_written j xs)
written_both j [] k = refl
written_both j (x ∷ xs) k =
    ap (λ b. if is_same j x then true else b) (written_both j xs k)
    ∙ swapped (is_same j x) (is_same j k) (is_written j xs)
  where
    swapped : (a b c : Bool) → (if a then true else (if b then true else c)) ≡ (if b then true else (if a then true else c))
    swapped true true c = refl
    swapped true false c = refl
    swapped false true c = refl
    swapped false false c = refl

-- the same is written, as far as these connections lead
abbrev WriteAlike : Tree → List Head → ℕ → Net → List Wire → List Joint → List Joint → Type 0
WriteAlike tree heads n net ws xs ys = (j : Joint) → LeadTo tree heads n net ws j → is_written j xs ≡ is_written j ys

next_alike : (j : Joint) (o : Option Joint) (xs ys : List Joint) → is_written j xs ≡ is_written j ys
    → is_written j (with_next o xs) ≡ is_written j (with_target o ys)
next_alike j None xs ys h = h
next_alike j (Some k) xs ys h = written_both j xs k ∙ ap (λ b. if is_same j k then true else b) h

second_alike : (tree : Tree) (heads : List Head) (n : ℕ) (net : Net) (w : Wire) (o : Option Joint) (xs ys : List Joint)
    → ((j : Joint) → o ≡ Some j → is_written j xs ≡ is_written j ys)
    → second_broken net w o xs ≡ second_broken net w o ys
second_alike tree heads n net w None xs ys h = refl
second_alike tree heads n net w (Some j) xs ys h =
    ap (λ b. if b then Rattle.fnl_flatten.specs.Rules.found second_writer net w else []) (h j refl)

pub again_seconds : (tree : Tree) (heads : List Head) (n : ℕ) (net : Net) (ws : List Wire) (xs ys : List Joint)
    → WriteAlike tree heads n net ws xs ys
    → again_broken tree heads n net ws xs ≡ seconds_broken tree heads n net ws ys
again_seconds tree heads n net [] xs ys alike = refl
again_seconds tree heads n net (w ∷ ws) xs ys alike =
    ap (λ fs. fs ++ again_broken tree heads n net ws (with_next (target tree heads n net w) xs))
    (second_alike tree heads n net w (target tree heads n net w) xs ys (λ j is. alike j (0, w, refl, is)))
    ∙ ap (λ fs. second_broken net w (target tree heads n net w) ys ++ fs)
    (again_seconds tree heads n net ws (with_next (target tree heads n net w) xs) (with_target (target tree heads n net w) ys)
    (λ j to. next_alike j (target tree heads n net w) xs ys (alike j (lead_more tree heads n net w ws j to))))

-- ---- all networks

opened : (nets : List Net) (n : ℕ) (net : Net) → slice_get nets n ≡ Some net → drop n nets ≡ net ∷ drop (suc n) nets
opened nets n net at =
    let within : n < length nets = slice_get_within nets n net at in
    drop-cons nets n net within ∙ ap (λ x. x ∷ drop (suc n) nets) (get_or_from_slice_get nets n net net at)

gone : (nets : List Net) (n : ℕ) → slice_get nets n ≡ None → drop n nets ≡ []
gone [] zero at = refl
gone [] (suc n) at = refl
gone (net ∷ nets) zero at = cc
gone (net ∷ nets) (suc n) at = gone nets n at

-- what is written in networks before n
abbrev pub FromBefore : Tree → ℕ → List Entry → Type 0
FromBefore tree n entries = (j : Joint) → is_written j (written entries) ≡ true → (m : ℕ) × (m < n) × Leading tree m j

pub record NetsUpTo (tree : Tree) (heads : List Head) (n : ℕ) (entries : List Entry) : Type 0 where
  pub entered : entries ++ nets_entries tree heads n (drop n tree.nets) ≡ entries_of tree heads
  pub fine : violations tree heads ≡ nets_broken tree heads n (drop n tree.nets)
  pub before : FromBefore tree n entries

pub nets_none : (tree : Tree) (heads : List Head) → NetsUpTo tree heads 0 []
nets_none tree heads = record { entered = refl; fine = refl; before = λ j is. cc }

-- nothing that a network writes is written before it
fresh : (tree : Tree) (heads : List Head) → IsSound tree → (n : ℕ) (net : Net) (entries : List Entry) → slice_get tree.nets n ≡ Some net
    → FromBefore tree n entries → WriteAlike tree heads n net net.wires (written entries) []
fresh tree heads sound n net entries at before j to = go (is_written j (written entries)) (before j)
  where
    go : (b : Bool) → (b ≡ true → (m : ℕ) × (m < n) × Leading tree m j) → b ≡ false
    go false found = refl
    go true found =
        let there = found refl in
        let same : n ≡ there.0 = one_network tree sound n there.0 j (leading tree heads n net to.1 j at to.3) there.2 in
        absurd (omega (arith, same, there.1))

written_along : (j : Joint) (xs ys : List Entry) → is_written j (written (xs ++ ys)) ≡ (is_written j (written xs) || is_written j (written ys))
written_along j [] ys = refl
written_along j (x ∷ xs) ys = go (is_same j x.0) (written_along j xs ys)
  where
    go : (b : Bool) → is_written j (written (xs ++ ys)) ≡ (is_written j (written xs) || is_written j (written ys))
        → (if b then true else is_written j (written (xs ++ ys))) ≡ ((if b then true else is_written j (written xs)) || is_written j (written ys))
    go true later = refl
    go false later = later

-- what a connection's network writes leads from it
leads_here : (tree : Tree) (heads : List Head) (n : ℕ) (net : Net) (ws : List Wire) → slice_get tree.nets n ≡ Some net
    → (j : Joint) → is_written j (written (wires_entries tree heads n net ws)) ≡ true → Leading tree n j
leads_here tree heads n net [] at j h = cc
leads_here tree heads n net (w ∷ ws) at j h =
    go (source tree heads n net w) (target tree heads n net w) refl
    (leads_here tree heads n net ws at j)
    (sym (written_along j (wire_entry tree heads n net w) (wires_entries tree heads n net ws)) ∙ h)
  where
    go : (from to : Option Joint) → target tree heads n net w ≡ to
        → (is_written j (written (wires_entries tree heads n net ws)) ≡ true → Leading tree n j)
        → (is_written j (written (entry_of from to w.size)) || is_written j (written (wires_entries tree heads n net ws))) ≡ true
        → Leading tree n j
    go (Some i) (Some k) ends later h = here (is_same j k) refl h
      where
        here : (b : Bool) → is_same j k ≡ b
            → ((if b then true else false) || is_written j (written (wires_entries tree heads n net ws))) ≡ true → Leading tree n j
        here true is h = leading tree heads n net w j at (ends ∙ ap (λ x. Some x) (sym (joint_is j k is)))
        here false is h = later h
    go (Some i) None ends later h = later h
    go None to ends later h = later h

pub nets_more : (tree : Tree) (heads : List Head) → IsSound tree → (n : ℕ) (net : Net) (entries more : List Entry)
    → slice_get tree.nets n ≡ Some net
    → more ≡ entries ++ wires_entries tree heads n net net.wires
    → wires_broken tree heads n net net.wires ≡ []
    → again_broken tree heads n net net.wires (written entries) ≡ []
    → NetsUpTo tree heads n entries
    → NetsUpTo tree heads (n + 1) more
nets_more tree heads sound n net entries more at is fine once so_far = subst (λ m. NetsUpTo tree heads m more) (sym (add-one n)) (record {
  entered = ap (λ es. es ++ nets_entries tree heads (suc n) (drop (suc n) tree.nets)) is
      ∙ append_assoc entries (wires_entries tree heads n net net.wires) (nets_entries tree heads (suc n) (drop (suc n) tree.nets))
      ∙ sym (ap (λ nets. entries ++ nets_entries tree heads n nets) (opened tree.nets n net at))
      ∙ so_far.entered;
  fine = so_far.fine ∙ ap (nets_broken tree heads n) (opened tree.nets n net at)
      ∙ ap (λ fs. fs ++ nets_broken tree heads (suc n) (drop (suc n) tree.nets))
      (ap (λ fs. fs ++ seconds_broken tree heads n net net.wires []) fine
      ∙ sym (again_seconds tree heads n net net.wires (written entries) [] (fresh tree heads sound n net entries at so_far.before))
      ∙ once);
  before = λ j h. either (is_written j (written entries)) (so_far.before j) (leads_here tree heads n net net.wires at j)
      (sym (ap (λ es. is_written j (written es)) is ∙ written_along j entries (wires_entries tree heads n net net.wires)) ∙ h);
})
  where
    either : {j : Joint} (b : Bool) → (b ≡ true → (m : ℕ) × (m < n) × Leading tree m j)
        → (is_written j (written (wires_entries tree heads n net net.wires)) ≡ true → Leading tree n j)
        → (b || is_written j (written (wires_entries tree heads n net net.wires))) ≡ true
        → (m : ℕ) × (m < suc n) × Leading tree m j
    either true old new h = let there = old refl in (there.0, omega (arith, there.1), there.2)
    either false old new h = (n, omega arith, new h)

pub nets_broken_here : (tree : Tree) (heads : List Head) → IsSound tree → (n : ℕ) (net : Net) (entries : List Entry) (f : Fault)
    → slice_get tree.nets n ≡ Some net
    → NetsUpTo tree heads n entries
    → IsCause (wires_broken tree heads n net net.wires ++ again_broken tree heads n net net.wires (written entries)) f
    → IsCause (violations tree heads) f
nets_broken_here tree heads sound n net entries f at so_far h =
    subst (λ fs. IsCause fs f) (sym (so_far.fine ∙ ap (nets_broken tree heads n) (opened tree.nets n net at)))
    (cause_left (net_broken tree heads n net) (nets_broken tree heads (suc n) (drop (suc n) tree.nets)) f
    (subst (λ fs. IsCause (wires_broken tree heads n net net.wires ++ fs) f)
    (again_seconds tree heads n net net.wires (written entries) [] (fresh tree heads sound n net entries at so_far.before)) h))

pub nets_entered : (tree : Tree) (heads : List Head) (n : ℕ) (entries : List Entry) → slice_get tree.nets n ≡ None
    → NetsUpTo tree heads n entries → entries ≡ entries_of tree heads
nets_entered tree heads n entries at so_far =
    sym (append-nil entries) ∙ sym (ap (λ nets. entries ++ nets_entries tree heads n nets) (gone tree.nets n at)) ∙ so_far.entered

pub nets_fine : (tree : Tree) (heads : List Head) (n : ℕ) (entries : List Entry) → slice_get tree.nets n ≡ None
    → NetsUpTo tree heads n entries → violations tree heads ≡ []
nets_fine tree heads n entries at so_far = so_far.fine ∙ ap (nets_broken tree heads n) (gone tree.nets n at)

pub number_below : (tree : Tree) → IsSound tree → (n : ℕ) (net : Net) → slice_get tree.nets n ≡ Some net → n ≤ max_instances
number_below tree sound n net at =
    let within : n < length tree.nets = slice_get_within tree.nets n net at in omega (arith, sound.few, within)

pub number_within : (tree : Tree) (n : ℕ) (net : Net) → slice_get tree.nets n ≡ Some net → n < length tree.nets
number_within tree n net at = slice_get_within tree.nets n net at
