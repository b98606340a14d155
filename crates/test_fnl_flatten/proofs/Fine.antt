-- What the tests of names and limits say.
use Rattle.std.proofs.Common.{◌≡◌, ◌≢◌, ℕ, ◌≤◌, Bool, true, false, List, [], ◌∷◌, length, refl, sym, ◌∙◌}
use Rattle.std.specs.Prelude.{All, AllPairs, nat_le, ◌&&◌, if◌then◌else◌}
use Rattle.std.specs.Str.{bytes_eq}
use Rattle.std.proofs.lemmas.Bool.{leb-true}
use Rattle.std.proofs.lemmas.List.Elements.{All-nil, All-cons}
use Rattle.std.proofs.lemmas.Slice.Eq.{bytes_eq-Decides}
use Rattle.cal_model.specs.Sound.{max_ports}
use Rattle.fnl_tree.specs.Tree.{Wire, Net}
use Rattle.fnl_tree.specs.Sound.{IsNetSound, max_buffer_size}
use Rattle.fnl_flatten.specs.Head.{Head, IsHeadSound, head_names}
use Rattle.fnl_flatten.specs.Joints.{own_names}
use Rattle.fnl_bind.proofs.Told.{IsNew, AreTold, told_pairs}
use Rattle.test_fnl_flatten.specs.Tested.{is_among, are_told, part_ids, are_bounded, is_net_fine, are_nets_fine, is_head_fine, are_heads_fine}

both : (a b : Bool) → (a && b) ≡ true → (a ≡ true) × (b ≡ true)
both true b h = (refl, h)
both false b h = absurd (cc)

then_true : (a b : Bool) → (if a then b else false) ≡ true → (a ≡ true) × (b ≡ true)
then_true true b h = (refl, h)
then_true false b h = absurd (cc)

else_true : (a b : Bool) → (if a then false else b) ≡ true → (a ≡ false) × (b ≡ true)
else_true true b h = absurd (cc)
else_true false b h = (refl, h)

neither : (a b : Bool) → (if a then true else b) ≡ false → (a ≡ false) × (b ≡ false)
neither true b h = absurd (cc)
neither false b h = (refl, h)

not_both : (b : Bool) → b ≡ true → b ≡ false → ⊥
not_both b p q = let e : true ≡ false = sym p ∙ q in grind Rattle.std.proofs.Common.arith

is_new : (n : List ℕ) (xs : List (List ℕ)) → is_among n xs ≡ false → IsNew n xs
is_new n [] h = tt
is_new n (x ∷ xs) h =
    let p = neither (bytes_eq x n) (is_among n xs) h in
    ((λ e. not_both (bytes_eq x n) ((bytes_eq-Decides x n).1 (sym e)) p.0), is_new n xs p.1)

told : (xs : List (List ℕ)) → are_told xs ≡ true → AreTold xs
told [] h = tt
told (x ∷ xs) h = let p = else_true (is_among x xs) (are_told xs) h in (is_new x xs p.0, told xs p.1)

apart : (xs : List (List ℕ)) → are_told xs ≡ true → AllPairs (λ a b. a ≢ b) xs
apart xs h = told_pairs xs (told xs h)

bounded : (ws : List Wire) → are_bounded ws ≡ true → All (λ w. w.size ≤ max_buffer_size) ws
bounded [] h = All-nil (λ w. w.size ≤ max_buffer_size)
bounded (w ∷ ws) h =
    let p = then_true (nat_le w.size max_buffer_size) (are_bounded ws) h in
    All-cons (λ v. v.size ≤ max_buffer_size) w ws (leb-true w.size max_buffer_size p.0) (bounded ws p.1)

net_sound : (n : Net) → is_net_fine n ≡ true → IsNetSound n
net_sound n h =
    let a = both (nat_le (length n.ins) max_ports) _ h in
    let b = both (nat_le (length n.outs) max_ports) _ a.1 in
    let c = both (are_told (own_names n.ins)) _ b.1 in
    let d = both (are_told (own_names n.outs)) _ c.1 in
    let e = both (are_told (part_ids n.parts)) _ d.1 in
    record {
      ins = apart (own_names n.ins) c.0;
      outs = apart (own_names n.outs) d.0;
      parts = apart (part_ids n.parts) e.0;
      few_ins = leb-true (length n.ins) max_ports a.0;
      few_outs = leb-true (length n.outs) max_ports b.0;
      sizes = bounded n.wires e.1;
    }

pub nets_sound : (ns : List Net) → are_nets_fine ns ≡ true → All IsNetSound ns
nets_sound [] h = All-nil IsNetSound
nets_sound (n ∷ ns) h =
    let p = then_true (is_net_fine n) (are_nets_fine ns) h in
    All-cons IsNetSound n ns (net_sound n p.0) (nets_sound ns p.1)

head_sound : (h : Head) → is_head_fine h ≡ true → IsHeadSound h
head_sound h fine =
    let a = both (nat_le (length h.ins) max_ports) _ fine in
    let b = both (nat_le (length h.outs) max_ports) _ a.1 in
    let c = both (are_told (head_names h.ins)) _ b.1 in
    record {
      ins = apart (head_names h.ins) c.0;
      outs = apart (head_names h.outs) c.1;
      few_ins = leb-true (length h.ins) max_ports a.0;
      few_outs = leb-true (length h.outs) max_ports b.0;
    }

pub heads_sound : (hs : List Head) → are_heads_fine hs ≡ true → All IsHeadSound hs
heads_sound [] h = All-nil IsHeadSound
heads_sound (x ∷ hs) h =
    let p = then_true (is_head_fine x) (are_heads_fine hs) h in
    All-cons IsHeadSound x hs (head_sound x p.0) (heads_sound hs p.1)
