-- Lemmas on a line that is read again.
use Rattle.std.proofs.Common.{◌≡◌, ℕ, ◌+◌, ◌-◌, ◌≤◌, ◌++◌, ◌∙◌, true, List, length, ap, arith}
use Rattle.std.specs.Prelude.{Bool, take, drop, nat_eq}
use Rattle.std.proofs.lemmas.List.{drop-drop, drop-take, length-take}
use Rattle.std.proofs.lemmas.Slice.Eq.{starts_is}
use Rattle.std.proofs.lemmas.Bool.Decides.{Decides-eqb}
use Rattle.std.specs.List.{starts_with}

-- what is left of a part once so many items went from its front
behind : (items : List ℕ) (start end n : ℕ) → n ≤ end - start → drop n (take (end - start) (drop start items)) ≡ take (end - (start + n)) (drop (start + n) items)
behind items start end n few =
    let m = end - (start + n) in
    let whole : end - start ≡ n + m = omega (arith, few) in
    ap (λ k. drop n (take k (drop start items))) whole ∙ drop-take n m (drop start items) ∙ ap (λ xs. take m xs) (drop-drop n start items)

-- a text that the part begins with went from its front
pub skipped : (items text : List ℕ) (start end : ℕ) (r : Bool) → length text ≤ length (take (end - start) (drop start items))
    → r ≡ starts_with nat_eq (take (end - start) (drop start items)) text → r ≡ true
    → take (end - start) (drop start items) ≡ text ++ take (end - (start + length text)) (drop (start + length text) items)
skipped items text start end r few is begins =
    let part = take (end - start) (drop start items) in
    let within : length text ≤ end - start = omega (arith, few, length-take (end - start) (drop start items)) in
    (starts_is Decides-eqb part text r is).0 begins ∙ ap (λ xs. text ++ xs) (behind items start end (length text) within)
