-- Look-ups of networks, actors, parts and joints.
use Rattle.std.proofs.Common.{◌≡◌, ℕ, Bool, true, false, cond, List, [], ◌∷◌, ◌++◌, map, length, refl, sym, ap, subst, ◌∙◌, arith}
use Rattle.std.proofs.lemmas.List.{map-append, length-map}
use Rattle.std.proofs.lemmas.List.Elements.{All-get_or}
use Rattle.std.proofs.lemmas.Bool.Decides.{same_from_decides}
use Rattle.std.proofs.lemmas.Option.{slice_get_within, get_or_from_slice_get}
use Rattle.std.proofs.lemmas.Slice.Eq.{bytes_eq-Decides}
use Rattle.std.specs.Prelude.{Option, None, Some, String, if◌then◌else◌, option_map, is_some, IfSome, All, slice_get, string_bytes}
use Rattle.std.specs.Borrow.{Bor}
use Rattle.std.specs.Map.{lookup}
use Rattle.std.specs.Str.{bytes_eq}
use Rattle.std.specs.declared.alloc.Global.{Global as Heap}
use Rattle.indexmap.specs.IndexMap.{IndexMap, insert_entry}
use Rattle.indexmap.proofs.CallerLemmas.{insert_entry-new}
use Rattle.fnl_tree.specs.declared.tree.Inner.{Inner as DeclaredInner}
use Rattle.fnl_tree.specs.declared.tree.Net.{Net as DeclaredNet}
use Rattle.fnl_tree.specs.Sound.{IsNetSound}
use Rattle.fnl_tree.specs.Tree.{Part}
use Rattle.fnl_tree.specs.View.{inner_of, own_of, net_of}
use Rattle.fnl_flatten.specs.declared.head.Head.{Head as DeclaredHead}
use Rattle.fnl_flatten.specs.declared.writers.Writer.{Writer}
use Rattle.fnl_flatten.specs.contracts.joint.JointPartialEq.TheImpl as joints
use Rattle.fnl_flatten.specs.Arrows.{Entry, writer_of, written}
use Rattle.fnl_flatten.specs.Head.{IsHeadSound}
use Rattle.fnl_flatten.specs.Joints.{Joint, LeafPort, OwnPort, part_named}
use Rattle.fnl_flatten.specs.Named.{HasFewPorts, HasFewEnds, part_entry}
use Rattle.fnl_flatten.specs.Rules.{is_same, is_written}
use Rattle.fnl_flatten.specs.View.{head_of, head_port_of}

-- ---- what holds of each in a view

held_at : {B : Type 0} (P : B → Type 0) (ys : List B) (k : ℕ) (y : B) → slice_get ys k ≡ Some y → All P ys → P y
held_at P ys k y at all = subst P (get_or_from_slice_get ys k y y at) (All-get_or P ys k y (slice_get_within ys k y at) all)

pub few_ports : (nets : List DeclaredNet) (n : ℕ) (r : Option (Bor DeclaredNet)) → option_map (λ x. net_of x.now) r ≡ slice_get (map net_of nets) n
    → All IsNetSound (map net_of nets) → IfSome r (λ x. HasFewPorts x.now)
few_ports nets n None at all = tt
few_ports nets n (Some x) at all =
    let sound : IsNetSound (net_of x.now) = held_at IsNetSound (map net_of nets) n (net_of x.now) (sym at) all in
    let ins : length (map own_of x.now.ins.items) ≡ length x.now.ins.items = length-map x.now.ins.items own_of in
    let outs : length (map own_of x.now.outs.items) ≡ length x.now.outs.items = length-map x.now.outs.items own_of in
    record { ins = omega (arith, sound.few_ins, ins); outs = omega (arith, sound.few_outs, outs) }

pub few_ends : (heads : List DeclaredHead) (l : ℕ) (r : Option (Bor DeclaredHead)) → option_map (λ x. head_of x.now) r ≡ slice_get (map head_of heads) l
    → All IsHeadSound (map head_of heads) → IfSome r (λ x. HasFewEnds x.now)
few_ends heads l None at all = tt
few_ends heads l (Some x) at all =
    let sound : IsHeadSound (head_of x.now) = held_at IsHeadSound (map head_of heads) l (head_of x.now) (sym at) all in
    let ins : length (map head_port_of x.now.ins.items) ≡ length x.now.ins.items = length-map x.now.ins.items head_port_of in
    let outs : length (map head_port_of x.now.outs.items) ≡ length x.now.outs.items = length-map x.now.outs.items head_port_of in
    record { ins = omega (arith, sound.few_ins, ins); outs = omega (arith, sound.few_outs, outs) }

-- ---- parts by their names

turned : (a b : List ℕ) → bytes_eq a b ≡ bytes_eq b a
turned a b = same_from_decides (bytes_eq a b) (bytes_eq b a) (bytes_eq-Decides a b)
    ((λ h. sym ((bytes_eq-Decides b a).0 h)), (λ e. (bytes_eq-Decides b a).1 (sym e)))

pub found_part : (name : List ℕ) (es : List (String Heap × DeclaredInner))
    → option_map inner_of (lookup (λ k. bytes_eq name (string_bytes k)) es) ≡ part_named name (map part_entry es)
found_part name [] = refl
found_part name (e ∷ es) =
    ap (λ b. option_map inner_of (cond b (Some e.1) (lookup (λ k. bytes_eq name (string_bytes k)) es))) (turned name (string_bytes e.0))
    ∙ go (bytes_eq (string_bytes e.0) name) (found_part name es)
  where
    go : (b : Bool) → option_map inner_of (lookup (λ k. bytes_eq name (string_bytes k)) es) ≡ part_named name (map part_entry es)
        → option_map inner_of (cond b (Some e.1) (lookup (λ k. bytes_eq name (string_bytes k)) es)) ≡ (if b then Some (inner_of e.1) else part_named name (map part_entry es))
    go true rest = refl
    go false rest = rest

pub none_inner : (r : Option DeclaredInner) → is_some r ≡ false → option_map inner_of r ≡ None
none_inner None h = refl
none_inner (Some i) h = cc

pub some_inner : (r : Option DeclaredInner) → is_some r ≡ true → is_some (option_map inner_of r) ≡ true
some_inner None h = cc
some_inner (Some i) h = refl

absent : (r : Option DeclaredInner) → option_map inner_of r ≡ None → r ≡ None
absent None h = refl
absent (Some i) h = cc

-- a part whose name isn't there goes last
pub added_part : {S : Type 0} (m : IndexMap (String Heap) DeclaredInner S) (k : String Heap) (v : DeclaredInner)
    → part_named (string_bytes k) (map part_entry m.entries) ≡ None
    → map part_entry (insert_entry (λ a b. bytes_eq (string_bytes a) (string_bytes b)) m.entries k v)
    ≡ map part_entry m.entries ++ record { id = string_bytes k; inner = inner_of v } ∷ []
added_part m k v h =
    let none : lookup (λ x. bytes_eq (string_bytes k) (string_bytes x)) m.entries ≡ None = absent _ (found_part (string_bytes k) m.entries ∙ h) in
    ap (map part_entry) (insert_entry-new (λ a b. bytes_eq (string_bytes a) (string_bytes b)) m k v none)
    ∙ map-append part_entry m.entries ((k, v) ∷ [])

-- a part of another name is passed over
other_part : (id : List ℕ) (xs : List Part) (p : Part) (ys : List Part) → bytes_eq p.id id ≡ false
    → part_named id (xs ++ ys) ≡ part_named id (xs ++ p ∷ ys)
other_part id [] p ys h = ap (λ b. if b then Some p.inner else part_named id ys) (sym h)
other_part id (x ∷ xs) p ys h = ap (λ o. if bytes_eq x.id id then Some x.inner else o) (other_part id xs p ys h)

alike : (a b c : List ℕ) → bytes_eq a b ≡ true → bytes_eq a c ≡ bytes_eq b c
alike a b c h = ap (λ x. bytes_eq x c) ((bytes_eq-Decides a b).0 h)

-- and one whose name is there already
pub second_part : (id : List ℕ) (xs : List Part) (p : Part) (ys : List Part) → is_some (part_named p.id xs) ≡ true
    → part_named id (xs ++ ys) ≡ part_named id (xs ++ p ∷ ys)
second_part id [] p ys h = cc
second_part id (x ∷ xs) p ys h = go (bytes_eq x.id id) (bytes_eq x.id p.id) refl refl h (λ has. second_part id xs p ys has)
  where
    go : (b d : Bool) → bytes_eq x.id id ≡ b → bytes_eq x.id p.id ≡ d
        → is_some (if d then Some x.inner else part_named p.id xs) ≡ true
        → (is_some (part_named p.id xs) ≡ true → part_named id (xs ++ ys) ≡ part_named id (xs ++ p ∷ ys))
        → (if b then Some x.inner else part_named id (xs ++ ys)) ≡ (if b then Some x.inner else part_named id (xs ++ p ∷ ys))
    go true d is at has later = refl
    go false true is at has later = other_part id xs p ys (sym (alike x.id p.id id at) ∙ is)
    go false false is at has later = later has

-- ---- joints

pub same_joint : (j k : Joint) → (joints.ghosts).eq j k ≡ is_same j k
same_joint (LeafPort l true p) (LeafPort m true q) = refl
same_joint (LeafPort l true p) (LeafPort m false q) = refl
same_joint (LeafPort l false p) (LeafPort m true q) = refl
same_joint (LeafPort l false p) (LeafPort m false q) = refl
same_joint (OwnPort l true p) (OwnPort m true q) = refl
same_joint (OwnPort l true p) (OwnPort m false q) = refl
same_joint (OwnPort l false p) (OwnPort m true q) = refl
same_joint (OwnPort l false p) (OwnPort m false q) = refl
same_joint (LeafPort l input p) (OwnPort m other q) = refl
same_joint (OwnPort l input p) (LeafPort m other q) = refl

pub found_writer : (j : Joint) (es : List Entry) → lookup ((joints.ghosts).eq j) es ≡ writer_of j es
found_writer j [] = refl
found_writer j (e ∷ es) =
    ap (λ b. cond b (Some e.1) (lookup ((joints.ghosts).eq j) es)) (same_joint j e.0)
    ∙ go (is_same j e.0) (found_writer j es)
  where
    go : (b : Bool) → lookup ((joints.ghosts).eq j) es ≡ writer_of j es
        → cond b (Some e.1) (lookup ((joints.ghosts).eq j) es) ≡ (if b then Some e.1 else writer_of j es)
    go true rest = refl
    go false rest = rest

pub added_writer : {S : Type 0} (m : IndexMap Joint Writer S) (j : Joint) (w : Writer) → writer_of j m.entries ≡ None
    → insert_entry ((joints.ghosts).eq) m.entries j w ≡ m.entries ++ (j, w) ∷ []
added_writer m j w h = insert_entry-new ((joints.ghosts).eq) m j w (found_writer j m.entries ∙ h)

-- what is written has a writer
pub written_is : (j : Joint) (es : List Entry) → is_written j (written es) ≡ is_some (writer_of j es)
written_is j [] = refl
written_is j (e ∷ es) = go (is_same j e.0) (written_is j es)
  where
    go : (b : Bool) → is_written j (written es) ≡ is_some (writer_of j es)
        → (if b then true else is_written j (written es)) ≡ is_some (if b then Some e.1 else writer_of j es)
    go true rest = refl
    go false rest = rest
