-- Pieces in slots, in their order and in the reverse one.
use Rattle.std.proofs.Common.{◌≡◌, ℕ, zero, suc, ◌+◌, ◌≤◌, List, [], ◌∷◌, ◌++◌, length, reverse, sym, refl, ap, ◌∙◌, subst, append_assoc, append-nil, take, slice_get, Some, length-append, Vec, Global, vec_capacity, arith}
use Rattle.std.proofs.lemmas.List.{reverse-append, map-append}
use Rattle.std.proofs.lemmas.Option.{slice_get_within}
use mathlib.Core.Option.{some, some-injective}
use lib.ListN.{get_elem?}
use Rattle.atomic_table.proofs.Lists.{at_last}
use Rattle.claim_board.specs.declared.slot.Slot.{Slot}
use Rattle.claim_board.specs.declared.slot.Slot.TheVariants.{Empty, Holds, Room}
use Rattle.claim_board.specs.Rule.{IsRoom}
use Rattle.claim_board.specs.Layout.{holding, IsLaidOut, pieces_of}
use Rattle.claim_board.proofs.Keeps.{same-piece}
use Rattle.claim_board.proofs.Passes.{same-held}

module _ {P : Type 0} where
  pub reverse-last : (xs : List (Slot P)) (x : Slot P) → reverse (xs ++ x ∷ []) ≡ x ∷ reverse xs
  reverse-last xs x = reverse-append xs (x ∷ [])

  -- one more of the pieces went into a slot
  pub laid-more : (before after : List P) (slots now : List (Slot P)) (all : List P) (piece : P) → before ≡ after ++ piece ∷ [] → now ≡ slots ++ Holds piece ∷ []
      → holding before ++ reverse slots ≡ holding all → holding after ++ reverse now ≡ holding all
  laid-more before after slots now all piece e d h =
      ap (λ (l : List (Slot P)). holding after ++ l) (ap (λ (l : List (Slot P)). reverse l) d ∙ reverse-last slots (Holds piece))
      ∙ sym (append_assoc (holding after) (Holds piece ∷ []) (reverse slots))
      ∙ ap (λ (l : List (Slot P)). l ++ reverse slots) (sym (ap (λ (l : List P). holding l) e ∙ map-append (λ (p : P). Holds p) after (piece ∷ [])))
      ∙ h

  abbrev head_or : Slot P → List (Slot P) → Slot P
  head_or d [] = d
  head_or d (x ∷ xs) = x

  abbrev tail_of : List (Slot P) → List (Slot P)
  tail_of [] = []
  tail_of (x ∷ xs) = xs

  pub same-head : (x y : Slot P) (xs ys : List (Slot P)) → x ∷ xs ≡ y ∷ ys → x ≡ y
  same-head x y xs ys e = ap (λ l. head_or x l) e

  pub same-tail : (x y : Slot P) (xs ys : List (Slot P)) → x ∷ xs ≡ y ∷ ys → xs ≡ ys
  same-tail x y xs ys e = ap (λ l. tail_of l) e

  -- the slots from which pieces are taken, the first of the rest at the end
  abbrev pub IsPouring : List (Slot P) → List P → List P → Type 0
  IsPouring slots taken all = (rest : List P) × (reverse slots ≡ holding rest) × (taken ++ rest ≡ all)

  pub pours-piece : (slots : List (Slot P)) (x : Slot P) (rest : List P) → reverse (slots ++ x ∷ []) ≡ holding rest → (p : P) × (left : List P) × (rest ≡ p ∷ left) × (x ≡ Holds p) × (reverse slots ≡ holding left)
  pours-piece slots x [] e = absurd (omega (arith, ap (λ (l : List (Slot P)). length l) (sym (reverse-last slots x) ∙ e)))
  pours-piece slots x (p ∷ left) e = let both = sym (reverse-last slots x) ∙ e in (p, left, refl, same-head x (Holds p) (reverse slots) (holding left) both, same-tail x (Holds p) (reverse slots) (holding left) both)

  pub pours-more : (before slots : List (Slot P)) (x : Slot P) (taken now all : List P) (piece : P) → before ≡ slots ++ x ∷ [] → x ≡ Holds piece → now ≡ taken ++ piece ∷ [] → IsPouring before taken all → IsPouring slots now all
  pours-more before slots x taken now all piece e is more pours =
      let found = pours-piece slots x pours.0 (ap (λ (l : List (Slot P)). reverse l) (sym e) ∙ pours.1) in
      let same : found.0 ≡ piece = same-held found.0 piece (sym found.3 ∙ is) in (
        found.1,
        found.4,
        ap (λ (l : List P). l ++ found.1) more ∙ append_assoc taken (piece ∷ []) found.1 ∙ ap (λ (p : P). taken ++ p ∷ found.1) (sym same) ∙ ap (λ (l : List P). taken ++ l) (sym found.2) ∙ pours.2,
      )

  -- each slot but the last holds a piece
  pub pours-holds : (before slots : List (Slot P)) (x : Slot P) (taken all : List P) → before ≡ slots ++ x ∷ [] → IsPouring before taken all → (p : P) × (x ≡ Holds p)
  pours-holds before slots x taken all e pours =
      let found = pours-piece slots x pours.0 (ap (λ (l : List (Slot P)). reverse l) (sym e) ∙ pours.1) in (found.0, found.3)

  pub pieces-held : (pieces : List P) (room : Slot P) → pieces_of (room ∷ []) ≡ [] → pieces_of (holding pieces ++ room ∷ []) ≡ pieces
  pieces-held [] room e = e
  pieces-held (p ∷ ps) room e = ap (λ (l : List P). p ∷ l) (pieces-held ps room e)

  pub pieces_of-holding : (pieces : List P) (room : Slot P) → IsRoom (length pieces) room → pieces_of (holding pieces ++ room ∷ []) ≡ pieces
  pieces_of-holding pieces (Room list) is = pieces-held pieces (Room list) refl
  pieces_of-holding pieces Empty is = absurd is
  pieces_of-holding pieces (Holds piece) is = absurd is

  -- the pieces of slots that were laid out
  pub laid-pieces : (pieces : List P) (slots : List (Slot P)) → IsLaidOut pieces slots → pieces_of slots ≡ pieces
  laid-pieces pieces slots laid = ap (λ (l : List (Slot P)). pieces_of l) laid.1 ∙ pieces_of-holding pieces laid.0 laid.2

  pub reverse-twice : (xs : List (Slot P)) → reverse (reverse xs) ≡ xs
  reverse-twice [] = refl
  reverse-twice (x ∷ xs) = ap (λ (l : List (Slot P)). reverse l) (reverse-append (x ∷ []) xs) ∙ reverse-last (reverse xs) x ∙ ap (λ (l : List (Slot P)). x ∷ l) (reverse-twice xs)

  -- two lists that are one, without their last items
  pub last-of : (xs ys : List (Slot P)) (x y : Slot P) → xs ++ x ∷ [] ≡ ys ++ y ∷ [] → (xs ≡ ys) × (x ≡ y)
  last-of xs ys x y e =
      let turned : x ∷ reverse xs ≡ y ∷ reverse ys = sym (reverse-last xs x) ∙ ap (λ (l : List (Slot P)). reverse l) e ∙ reverse-last ys y in (
        sym (reverse-twice xs) ∙ ap (λ (l : List (Slot P)). reverse l) (same-tail x y (reverse xs) (reverse ys) turned) ∙ reverse-twice ys,
        same-head x y (reverse xs) (reverse ys) turned,
      )

  -- the room's list is empty, and has memory for so many pieces
  pub room-of : (n : ℕ) (room : Slot P) (list : Vec P Global) → IsRoom n room → room ≡ Room list → (list.items ≡ []) × (n ≤ vec_capacity list)
  room-of n room list is e = subst (λ (s : Slot P). IsRoom n s) e is

  pub pieces_of-all : (pieces : List P) → pieces_of (holding pieces) ≡ pieces
  pieces_of-all [] = refl
  pieces_of-all (p ∷ ps) = ap (λ (l : List P). p ∷ l) (pieces_of-all ps)

  pub held-length : (pieces : List P) → length (holding pieces) ≡ length pieces
  held-length [] = refl
  held-length (p ∷ ps) = ap suc (held-length ps)

  pub pours-start : (slots : List (Slot P)) (pieces taken : List P) → reverse slots ≡ holding pieces → taken ≡ [] → IsPouring slots taken (pieces_of (reverse slots))
  pours-start slots pieces taken order none = let all = ap (λ (l : List (Slot P)). pieces_of l) order ∙ pieces_of-all pieces in (pieces, order, ap (λ (l : List P). l ++ pieces) none ∙ sym all)

  pub pours-end : (slots : List (Slot P)) (taken all : List P) → length slots ≡ 0 → IsPouring slots taken all → taken ≡ all
  pours-end [] taken all e ([], order, is) = sym (append-nil taken) ∙ is
  pours-end [] taken all e (p ∷ ps, order, is) = absurd (omega (arith, ap (λ (l : List (Slot P)). length l) order))
  pours-end (x ∷ xs) taken all e pours = absurd (omega arith)

  -- a room is a list
  pub room-is : (n : ℕ) (room : Slot P) → IsRoom n room → (list : Vec P Global) × (room ≡ Room list)
  room-is n (Room list) is = (list, refl)
  room-is n Empty is = absurd is
  room-is n (Holds p) is = absurd is

  pub laid-length : (ps : List P) (xs : List (Slot P)) → IsLaidOut ps xs → length xs ≡ length ps + 1
  laid-length ps xs laid = ap (λ (l : List (Slot P)). length l) laid.1 ∙ length-append (holding ps) (laid.0 ∷ []) ∙ ap (λ n. n + 1) (held-length ps)

  pub laid-room : (ps : List P) (xs : List (Slot P)) (x : Slot P) (n : ℕ) (laid : IsLaidOut ps xs) → n ≡ length ps → get_elem? xs n ≡ some x → x ≡ laid.0
  laid-room ps xs x n laid count found = some-injective x laid.0 (sym found ∙ ap (λ (l : List (Slot P)). get_elem? l n) laid.1 ∙ at_last (holding ps) laid.0 n (held-length ps ∙ sym count))

  pub held-at : (ps : List P) (room : Slot P) (k : ℕ) (p : P) → slice_get ps k ≡ Some p → get_elem? (holding ps ++ room ∷ []) k ≡ some (Holds p)
  held-at [] room k p e = absurd (omega (arith, slice_get_within [] k p e))
  held-at (q ∷ ps) room zero p e = ap (λ (r : P). some (Holds r)) (same-piece (q ∷ ps) 0 q p refl e)
  held-at (q ∷ ps) room (suc k) p e = held-at ps room k p e

  pub laid-piece : (ps : List P) (xs now : List (Slot P)) (x : Slot P) (k : ℕ) (p : P) → IsLaidOut ps xs → now ≡ xs → get_elem? now k ≡ some x → slice_get ps k ≡ Some p → x ≡ Holds p
  laid-piece ps xs now x k p laid same found e = some-injective x (Holds p) (sym found ∙ ap (λ (l : List (Slot P)). get_elem? l k) (same ∙ laid.1) ∙ held-at ps laid.0 k p e)

  take-next : (ps : List P) (k : ℕ) (p : P) → slice_get ps k ≡ Some p → take (suc k) ps ≡ take k ps ++ p ∷ []
  take-next [] k p e = absurd (omega (arith, slice_get_within [] k p e))
  take-next (q ∷ ps) zero p e = ap (λ (r : P). r ∷ []) (same-piece (q ∷ ps) 0 q p refl e)
  take-next (q ∷ ps) (suc k) p e = ap (λ (l : List P). q ∷ l) (take-next ps k p e)

  pub take-more : (ps : List P) (k : ℕ) (p : P) → slice_get ps k ≡ Some p → take (k + 1) ps ≡ take k ps ++ p ∷ []
  take-more ps k p e = let next : k + 1 ≡ suc k = omega arith in ap (λ n. take n ps) next ∙ take-next ps k p e
