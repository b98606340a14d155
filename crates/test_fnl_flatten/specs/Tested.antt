-- Tests of names and limits.
-- Not trusted: no promise is read with it.
use Rattle.std.specs.Prelude.{ℕ, Bool, true, false, ◌&&◌, nat_le, List, [], ◌∷◌, length, map, if◌then◌else◌}
use Rattle.std.specs.Str.{bytes_eq}
use Rattle.cal_model.specs.Sound.{max_ports}
use Rattle.fnl_flatten.specs.Head.{Head, head_names}
use Rattle.fnl_flatten.specs.Joints.{own_names}
use Rattle.fnl_tree.specs.Tree.{Part, Wire, Net}
use Rattle.fnl_tree.specs.Sound.{max_buffer_size}

abbrev pub is_among : List ℕ → List (List ℕ) → Bool
is_among name [] = false
is_among name (x ∷ xs) = if bytes_eq x name then true else is_among name xs

abbrev pub are_told : List (List ℕ) → Bool
are_told [] = true
are_told (x ∷ xs) = if is_among x xs then false else are_told xs

abbrev pub part_ids : List Part → List (List ℕ)
part_ids ps = map (λ p. p.id) ps

abbrev pub are_bounded : List Wire → Bool
are_bounded [] = true
are_bounded (w ∷ ws) = if nat_le w.size max_buffer_size then are_bounded ws else false

abbrev pub is_net_fine : Net → Bool
is_net_fine net = nat_le (length net.ins) max_ports && (nat_le (length net.outs) max_ports
    && (are_told (own_names net.ins) && (are_told (own_names net.outs)
    && (are_told (part_ids net.parts) && are_bounded net.wires))))

abbrev pub are_nets_fine : List Net → Bool
are_nets_fine [] = true
are_nets_fine (n ∷ ns) = if is_net_fine n then are_nets_fine ns else false

abbrev pub is_head_fine : Head → Bool
is_head_fine head = nat_le (length head.ins) max_ports && (nat_le (length head.outs) max_ports
    && (are_told (head_names head.ins) && are_told (head_names head.outs)))

abbrev pub are_heads_fine : List Head → Bool
are_heads_fine [] = true
are_heads_fine (h ∷ hs) = if is_head_fine h then are_heads_fine hs else false
