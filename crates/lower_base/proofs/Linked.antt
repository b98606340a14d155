-- Jumps whose targets are set.
use Rattle.std.proofs.Common.{◌≡◌, ℕ, ◌+◌, ◌-◌, List, ◌∷◌, ◌++◌, length, map, take, drop, set, sym, ap, ◌∙◌, arith, append_assoc, length-append}
use Rattle.std.proofs.lemmas.List.{take_at, drop_at, set_at, length-map}
use Rattle.code_ir.specs.declared.instr.Instr.{Instr}

-- a part of a list is mapped in place, and an element behind it replaced
pub mapped_set : (f : Instr → Instr) (before test first other all part : List Instr) (i j : Instr) (len start exits jump : ℕ)
    → all ≡ before ++ (test ++ (first ++ i ∷ other)) → len ≡ length all → start ≡ length before → exits ≡ start + length test → jump ≡ exits + length first
    → part ≡ map f (take (exits - start) (drop start all))
    → set (take len ((take start all ++ (part ++ drop (exits - start) (drop start all))) ++ drop (length (take start all ++ (part ++ drop (exits - start) (drop start all)))) all)) jump j
    ≡ before ++ (map f test ++ (first ++ j ∷ other))
mapped_set f before test first other all part i j len start exits jump e len_is start_is exits_is jump_is part_is =
    let rest : List Instr = first ++ i ∷ other in
    let count : exits - start ≡ length test = omega arith in
    let front : take start all ≡ before = ap (take start) e ∙ take_at before (test ++ rest) start (sym start_is) in
    let behind : drop start all ≡ test ++ rest = ap (drop start) e ∙ drop_at before (test ++ rest) start (sym start_is) in
    let middle : take (exits - start) (drop start all) ≡ test = ap (take (exits - start)) behind ∙ take_at test rest (exits - start) (sym count) in
    let last : drop (exits - start) (drop start all) ≡ rest = ap (drop (exits - start)) behind ∙ drop_at test rest (exits - start) (sym count) in
    let part_as : part ≡ map f test = part_is ∙ ap (map f) middle in
    let new : take start all ++ (part ++ drop (exits - start) (drop start all)) ≡ before ++ (map f test ++ rest) =
    ap (λ x. x ++ (part ++ drop (exits - start) (drop start all))) front ∙ ap (λ x. before ++ (x ++ drop (exits - start) (drop start all))) part_as ∙ ap (λ x. before ++ (map f test ++ x)) last in
    let size : length (before ++ (map f test ++ rest)) ≡ len =
    omega (arith, ap length e, length-append before (test ++ rest), length-append test rest, length-append before (map f test ++ rest), length-append (map f test) rest, length-map test f) in
    let at : length ((before ++ map f test) ++ first) ≡ jump =
    omega (arith, length-append (before ++ map f test) first, length-append before (map f test), length-map test f) in
    let regroup : before ++ (map f test ++ rest) ≡ ((before ++ map f test) ++ first) ++ i ∷ other = simp append_assoc in
    let back : ((before ++ map f test) ++ first) ++ j ∷ other ≡ before ++ (map f test ++ (first ++ j ∷ other)) = simp append_assoc in
    ap (λ x. set (take len (x ++ drop (length x) all)) jump j) new
    ∙ ap (λ x. set x jump j) (take_at (before ++ (map f test ++ rest)) (drop (length (before ++ (map f test ++ rest))) all) len size)
    ∙ ap (λ x. set x jump j) regroup
    ∙ set_at ((before ++ map f test) ++ first) i other j jump at
    ∙ back
