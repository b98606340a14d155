-- A row that is grouped by its levels is grouped so by what reads it, and the other way round.
use Rattle.std.proofs.Common.{◌≡◌, ◌⊎◌, inl, inr, ℕ, zero, suc, ◌+◌, ◌-◌, max, ◌≤◌, ◌<◌, Bool, true, false, List, [], ◌∷◌, ◌++◌, Option, None, Some, refl, sym, ap, subst, ◌∙◌, arith}
use Rattle.std.specs.Prelude.{nat_le}
use Rattle.std.proofs.lemmas.Bool.{leb-true, le-leb}
use Rattle.std.proofs.lemmas.Bool.Decides.{leb_tells}
use Rattle.std.proofs.lemmas.List.{append_assoc}
use Rattle.std.proofs.Math.Nat.{le-max_left, le-max_right}
use Rattle.cal_ast.specs.Tree.{Tree, binary}
use Rattle.cal_ast.specs.Places.{begins}
use Rattle.cal_ast.specs.declared.expr.BinOp.{BinOp}
use Rattle.cal_ast.specs.declared.expr.BinOp.TheVariants as binaries
use Rattle.cal_grammar.specs.Operators.{height, max_height}
use Rattle.fnl_expr.specs.Operations.{Pending, pending, fits, made, on, before_operator, grouped}
use Rattle.fnl_expr.specs.Operators.{level}
use Rattle.fnl_grammar.specs.Rows.{Item, operand, operator, loosest, Groups, the_operand, the_tighter, the_operation}
use Rattle.fnl_grammar.proofs.Reading.{Read, read, reads, reads_on, then_reads, reads_append, never_read}

-- ---- heights

fits_by : (t u : Tree) → height t ≤ height u → fits u ≡ true → fits t ≡ true
fits_by t u less h =
    let low : height u ≤ max_height = leb-true (height u) max_height h in
    let small : height t ≤ max_height = omega (arith, low, less) in
    le-leb (height t) max_height small

pub fits_left : (op : BinOp) (l r : Tree) (p : ℕ) → fits (binary op l r p) ≡ true → fits l ≡ true
fits_left op l r p h =
    let low = le-max_left (height l) (height r) in
    let less : height l ≤ suc (max (height l) (height r)) = omega (arith, low) in
    fits_by l (binary op l r p) less h

pub fits_right : (op : BinOp) (l r : Tree) (p : ℕ) → fits (binary op l r p) ≡ true → fits r ≡ true
fits_right op l r p h =
    let low = le-max_right (height l) (height r) in
    let less : height r ≤ suc (max (height l) (height r)) = omega (arith, low) in
    fits_by r (binary op l r p) less h

made_of : (t : Tree) → fits t ≡ true → made t ≡ Some t
made_of t h = rw h refl

fits_if_made : (t u : Tree) (b : Bool) → fits t ≡ b → made t ≡ Some u → (t ≡ u) × (fits t ≡ true)
fits_if_made t u true e h = let same : Some t ≡ Some u = sym (made_of t e) ∙ h in (cc, e)
fits_if_made t u false e h = let none : None ≡ Some u = (let is : made t ≡ None = rw e refl in sym is ∙ h) in absurd cc

-- what is made is the tree, which fits
pub is_made : (t u : Tree) → made t ≡ Some u → (t ≡ u) × (fits t ≡ true)
is_made t u h = fits_if_made t u (fits t) refl h

-- ---- operators and what waits

-- what waits last, if anything does, waits for an operator that is looser than a level
abbrev pub WaitsAbove : ℕ → List Pending → Type 0
WaitsAbove n [] = Unit {0}
WaitsAbove n (pending l op ∷ ws) = n < level op

above_less : (m n : ℕ) (ws : List Pending) → m ≤ n → WaitsAbove n ws → WaitsAbove m ws
above_less m n [] less h = tt
above_less m n (pending l op ∷ ws) less h = omega (arith, less, h)

not_due_above : (a n : ℕ) → n < a → nat_le a n ≡ false
not_due_above a n less = not_both (nat_le a n) refl
  where
    not_both : (b : Bool) → nat_le a n ≡ b → nat_le a n ≡ false
    not_both true e = let low : a ≤ n = leb-true a n e in absurd (omega (arith, low, less))
    not_both false e = e

-- a test that fails
less_of : (a n : ℕ) → nat_le a n ≡ false → n < a
less_of a n e = either (leb_tells a n)
  where
    either : ((nat_le a n ≡ true) × (a ≤ n)) ⊎ ((nat_le a n ≡ false) × (n < a)) → n < a
    either (inl both) = absurd cc
    either (inr both) = both.1

-- an operator that is tighter than what waits waits itself
waits : (op : BinOp) (ws : List Pending) (r : Tree) → WaitsAbove (level op) ws → before_operator op ws r ≡ Some (pending r op ∷ ws)
waits op [] r h = refl
waits op (pending l o ∷ ws) r h = let no_due = not_due_above (level o) (level op) h in rw no_due refl

-- an operator that isn't joins what waits
joins : (op o : BinOp) (l r t : Tree) (ws : List Pending) → level o ≤ level op → made (binary o l r (begins l)) ≡ Some t → before_operator op (pending l o ∷ ws) r ≡ before_operator op ws t
joins op o l r t ws less h =
    let due : nat_le (level o) (level op) ≡ true = le-leb (level o) (level op) less in
    rw (due, h) refl

-- ---- what is grouped is read so

-- what waits and the last operand are grouped as this operation, whatever its place is
pub record IsWhole (at : ℕ) (ws : List Pending) (last t : Tree) : Type 0 where
  pub op : BinOp
  pub left : Tree
  pub right : Tree
  pub place : ℕ
  pub is : t ≡ binary op left right place
  pub so : grouped at ws last ≡ made (binary op left right at)

-- what is read of a row after ws, with r last, is what one operand t after ws is
pub record Collapses (n : ℕ) (row : List Item) (ws0 ws : List Pending) (r t : Tree) : Type 0 where
  pub before : (op : BinOp) → n ≤ level op → before_operator op (ws ++ ws0) r ≡ before_operator op ws0 t
  pub ending : (at : ℕ) (p : Pending) (others : List Pending) → ws0 ≡ p ∷ others → grouped at (ws ++ ws0) r ≡ grouped at ws0 t
  pub whole : (at : ℕ) → ws0 ≡ [] → (row ≡ operand t ∷ []) ⊎ IsWhole at (ws ++ ws0) r t

pub record IsRead (n : ℕ) (row : List Item) (ws0 : List Pending) (t : Tree) : Type 0 where
  pub ws : List Pending
  pub last : Tree
  pub is : reads row ws0 None ≡ Some (read (ws ++ ws0) (Some last))
  pub so : Collapses n row ws0 ws last t

lift_read : (n : ℕ) (row : List Item) (ws0 : List Pending) (t : Tree) → IsRead n row ws0 t → IsRead (suc n) row ws0 t
lift_read n row ws0 t h = record {
  ws = h.ws;
  last = h.last;
  is = h.is;
  so = record { before = λ op less. h.so.before op (omega (arith, less)); ending = h.so.ending; whole = h.so.whole };
}

-- the row before an operator, the operator and the row behind it
joined_reads : (row others : List Item) (op : BinOp) (left : Tree) (ws0 ws : List Pending) (last : Tree) (more : Option Read)
    → reads row ws0 None ≡ Some (read ws (Some last)) → before_operator op ws last ≡ Some (pending left op ∷ ws0)
    → reads others (pending left op ∷ ws0) None ≡ more → reads (row ++ operator op ∷ others) ws0 None ≡ more
joined_reads row others op left ws0 ws last more h turns k =
    reads_append row (operator op ∷ others) ws0 None ∙ ap (λ x. then_reads x (operator op ∷ others)) h ∙ ap (reads_on others) turns ∙ k

operation_read : (n : ℕ) (row others : List Item) (op : BinOp) (left right : Tree) (ws0 : List Pending)
    → level op ≡ suc n → fits (binary op left right (begins left)) ≡ true → WaitsAbove (suc n) ws0
    → IsRead (suc n) row ws0 left → IsRead n others (pending left op ∷ ws0) right
    → IsRead (suc n) (row ++ operator op ∷ others) ws0 (binary op left right (begins left))
operation_read n row others op left right ws0 is_level fit above h k = record {
  ws = k.ws ++ (pending left op ∷ []);
  last = k.last;
  is =
      let here : before_operator op (h.ws ++ ws0) h.last ≡ before_operator op ws0 left = h.so.before op (omega (arith, is_level)) in
      let above_ : WaitsAbove (level op) ws0 = above_less (level op) (suc n) ws0 (omega (arith, is_level)) above in
      joined_reads row others op left ws0 (h.ws ++ ws0) h.last _ h.is (here ∙ waits op ws0 left above_) k.is ∙ ap (λ ws. Some (read ws (Some k.last))) (sym split);
  so = record {
    before = λ op_ less.
        let one : before_operator op_ (k.ws ++ (pending left op ∷ ws0)) k.last ≡ before_operator op_ (pending left op ∷ ws0) right = k.so.before op_ (omega (arith, less)) in
        let due : level op ≤ level op_ = omega (arith, less, is_level) in
        ap (λ ws. before_operator op_ ws k.last) split ∙ one ∙ joins op_ op left right whole_tree ws0 due (made_of whole_tree fit);
    ending = λ at p rest e.
        let one : grouped at (k.ws ++ (pending left op ∷ ws0)) k.last ≡ grouped at (pending left op ∷ ws0) right = k.so.ending at (pending left op) ws0 refl in
        ap (λ ws. grouped at ws k.last) split ∙ one ∙ two_wait at p rest e;
    whole = λ at e.
        let one : grouped at (k.ws ++ (pending left op ∷ ws0)) k.last ≡ grouped at (pending left op ∷ ws0) right = k.so.ending at (pending left op) ws0 refl in
        inr (record { op = op; left = left; right = right; place = begins left; is = refl; so = ap (λ ws. grouped at ws k.last) split ∙ one ∙ one_waits at e });
  };
}
  where
    whole_tree : Tree
    whole_tree = binary op left right (begins left)

    split : (k.ws ++ (pending left op ∷ [])) ++ ws0 ≡ k.ws ++ (pending left op ∷ ws0)
    split = append_assoc k.ws (pending left op ∷ []) ws0

    two_wait : (at : ℕ) (p : Pending) (rest : List Pending) → ws0 ≡ p ∷ rest → grouped at (pending left op ∷ ws0) right ≡ grouped at ws0 whole_tree
    two_wait at p rest e = rw (e, made_of whole_tree fit) refl

    one_waits : (at : ℕ) → ws0 ≡ [] → grouped at (pending left op ∷ ws0) right ≡ made (binary op left right at)
    one_waits at e = rw e refl

pub is_read : (n : ℕ) (row : List Item) (t : Tree) → Groups n row t → fits t ≡ true → (ws0 : List Pending) → WaitsAbove n ws0 → IsRead n row ws0 t
is_read n row t (the_operand) fit ws0 above = record {
  ws = [];
  last = t;
  is = refl;
  so = record { before = λ op less. refl; ending = λ at p rest e. refl; whole = λ at e. inl refl };
}
is_read n row t (the_tighter {n = m} g) fit ws0 above =
    lift_read m row ws0 t (is_read m row t g fit ws0 (above_less m n ws0 (omega arith) above))
is_read n row t (the_operation {n = m} {row = first} {others = others} {op = op} {left = left} {right = right} g is_level h) fit ws0 above =
    let one = is_read (suc m) first left g (fits_left op left right (begins left) fit) ws0 above in
    let waiting : m < level op = omega (arith, is_level) in
    let two = is_read m others right h (fits_right op left right (begins left) fit) (pending left op ∷ ws0) waiting in
    operation_read m first others op left right ws0 is_level fit above one two

-- ---- what is read is grouped so

-- each operand that waits is grouped of its part of the row, and they wait for looser operators the longer they wait
pub data Holds : List Item → List Pending → Type 0 where
  holds_none : Holds [] []
  holds_more : {row others : List Item} {ws : List Pending} {l : Tree} {op : BinOp}
      → Holds row ws → Groups (level op) others l → WaitsAbove (level op) ws
      → Holds (row ++ (others ++ operator op ∷ [])) (pending l op ∷ ws)

looser : (k n : ℕ) (row : List Item) (t : Tree) → Groups n row t → Groups (k + n) row t
looser zero n row t g = subst (λ m. Groups m row t) (omega arith) g
looser (suc k) n row t g = subst (λ m. Groups m row t) (omega arith) (the_tighter (looser k n row t g))

lifted : (m n : ℕ) (row : List Item) (t : Tree) → n ≤ m → Groups n row t → Groups m row t
lifted m n row t less g = subst (λ k. Groups k row t) (omega (arith, less)) (looser (m - n) n row t g)

level_some : (op : BinOp) → (n : ℕ) × (level op ≡ suc n) × (level op ≤ loosest)
level_some binaries.Or = (9, refl, omega arith)
level_some binaries.And = (8, refl, omega arith)
level_some binaries.BitOr = (7, refl, omega arith)
level_some binaries.BitXor = (6, refl, omega arith)
level_some binaries.BitAnd = (5, refl, omega arith)
level_some binaries.Eq = (4, refl, omega arith)
level_some binaries.Ne = (4, refl, omega arith)
level_some binaries.Lt = (3, refl, omega arith)
level_some binaries.Le = (3, refl, omega arith)
level_some binaries.Gt = (3, refl, omega arith)
level_some binaries.Ge = (3, refl, omega arith)
level_some binaries.Shl = (2, refl, omega arith)
level_some binaries.Shr = (2, refl, omega arith)
level_some binaries.Add = (1, refl, omega arith)
level_some binaries.Sub = (1, refl, omega arith)
level_some binaries.Mul = (0, refl, omega arith)
level_some binaries.Div = (0, refl, omega arith)
level_some binaries.Mod = (0, refl, omega arith)

-- an operand that waits and the one behind it
grouped_by : (op : BinOp) (n : ℕ) (row others : List Item) (l r : Tree) → Groups (level op) row l → n < level op → Groups n others r
    → Groups (level op) (row ++ operator op ∷ others) (binary op l r (begins l))
grouped_by op n row others l r g less h =
    let some = level_some op in
    let m = some.0 in
    let e : level op ≡ suc m = some.1 in
    let first : Groups (suc m) row l = subst (λ k. Groups k row l) e g in
    let second : Groups m others r = lifted m n others r (omega (arith, less, e)) h in
    subst (λ k. Groups k (row ++ operator op ∷ others) (binary op l r (begins l))) (sym e) (the_operation first e second)

regroup : (row first others : List Item) (o : BinOp) → (row ++ (first ++ operator o ∷ [])) ++ others ≡ row ++ (first ++ operator o ∷ others)
regroup row first others o = append_assoc row (first ++ operator o ∷ []) others ∙ ap (λ x. row ++ x) (append_assoc first (operator o ∷ []) others)

-- what waits last and what is read behind it are one operand
waits_joined : (op : BinOp) (o : BinOp) (l r : Tree) (ws new : List Pending) → nat_le (level o) (level op) ≡ true → before_operator op (pending l o ∷ ws) r ≡ Some new
    → (fits (binary o l r (begins l)) ≡ true) × (before_operator op ws (binary o l r (begins l)) ≡ Some new)
waits_joined op o l r ws new due e = by_fit (fits (binary o l r (begins l))) refl
  where
    whole : Tree
    whole = binary o l r (begins l)

    turns : before_operator op (pending l o ∷ ws) r ≡ on (made whole) (λ t. before_operator op ws t)
    turns = rw due refl

    by_fit : (b : Bool) → fits whole ≡ b → (fits whole ≡ true) × (before_operator op ws whole ≡ Some new)
    by_fit true f = let one : made whole ≡ Some whole = made_of whole f in (f, ap (λ x. on x (λ t. before_operator op ws t)) (sym one) ∙ sym turns ∙ e)
    by_fit false f = let none : made whole ≡ None = rw f refl in let no : None ≡ Some new = ap (λ x. on x (λ t. before_operator op ws t)) (sym none) ∙ sym turns ∙ e in absurd cc

-- what waits last joins an operator that isn't tighter, and else waits on
hold_test : (op : BinOp) (l : Tree) (o : BinOp) (ws new : List Pending) (row others : List Item) (n : ℕ) (r : Tree)
    → ((row_ others_ : List Item) (m : ℕ) (x : Tree) → Holds row_ ws → Groups m others_ x → WaitsAbove m ws → m ≤ level op → before_operator op ws x ≡ Some new → Holds (row_ ++ (others_ ++ operator op ∷ [])) new)
    → Holds row (pending l o ∷ ws) → Groups n others r → n < level o → n ≤ level op → before_operator op (pending l o ∷ ws) r ≡ Some new
    → (b : Bool) → nat_le (level o) (level op) ≡ b → Holds (row ++ (others ++ operator op ∷ [])) new
hold_test op l o ws new row others n r go held g above less e false is =
    let no : before_operator op (pending l o ∷ ws) r ≡ Some (pending r op ∷ pending l o ∷ ws) = rw is refl in
    let same : pending r op ∷ pending l o ∷ ws ≡ new = cc in
    let higher : level op < level o = less_of (level o) (level op) is in
    subst (λ x. Holds (row ++ (others ++ operator op ∷ [])) x) same (holds_more held (lifted (level op) n others r less g) higher)
hold_test op l o ws new row others n r go (holds_more {row = front} {others = first} held f looser_) g above less e true is =
    let two = waits_joined op o l r ws new is e in
    let due : level o ≤ level op = leb-true (level o) (level op) is in
    let one : Groups (level o) (first ++ operator o ∷ others) (binary o l r (begins l)) = grouped_by o n first others l r f above g in
    let so : Holds (front ++ ((first ++ operator o ∷ others) ++ operator op ∷ [])) new =
    go front (first ++ operator o ∷ others) (level o) (binary o l r (begins l)) held one looser_ due two.1 in
    let there : (front ++ (first ++ operator o ∷ [])) ++ (others ++ operator op ∷ []) ≡ front ++ ((first ++ operator o ∷ others) ++ operator op ∷ []) =
    regroup front first (others ++ operator op ∷ []) o ∙ ap (λ x. front ++ x) (sym (append_assoc first (operator o ∷ others) (operator op ∷ []))) in
    subst (λ x. Holds x new) (sym there) so

-- the operators that wait for one that isn't tighter are joined
before_holds : (op : BinOp) (ws new : List Pending) (row others : List Item) (n : ℕ) (r : Tree)
    → Holds row ws → Groups n others r → WaitsAbove n ws → n ≤ level op → before_operator op ws r ≡ Some new
    → Holds (row ++ (others ++ operator op ∷ [])) new
before_holds op [] new row others n r held g above less e =
    let same : pending r op ∷ [] ≡ new = cc in
    subst (λ ws. Holds (row ++ (others ++ operator op ∷ [])) ws) same (holds_more held (lifted (level op) n others r less g) tt)
before_holds op (pending l o ∷ ws) new row others n r held g above less e =
    hold_test op l o ws new row others n r (λ row_ others_ m x a b c d f. before_holds op ws new row_ others_ m x a b c d f) held g above less e (nat_le (level o) (level op)) refl

-- the whole row
pub data IsGrouped : ℕ → List Item → Tree → Type 0 where
  is_grouped : {at place : ℕ} {row : List Item} {op : BinOp} {l r : Tree} → Groups loosest row (binary op l r place)
      → fits (binary op l r at) ≡ true → IsGrouped at row (binary op l r at)

ends_joined : (at : ℕ) (p : Pending) (l : Tree) (o : BinOp) (ws : List Pending) (r t : Tree) → grouped at (pending l o ∷ p ∷ ws) r ≡ Some t
    → (grouped at (p ∷ ws) (binary o l r (begins l)) ≡ Some t)
ends_joined at p l o ws r t e = by_fit (fits (binary o l r (begins l))) refl
  where
    whole : Tree
    whole = binary o l r (begins l)

    by_fit : (b : Bool) → fits whole ≡ b → grouped at (p ∷ ws) whole ≡ Some t
    by_fit true f = let one : made whole ≡ Some whole = made_of whole f in ap (λ x. on x (λ t. grouped at (p ∷ ws) t)) (sym one) ∙ e
    by_fit false f = let none : made whole ≡ None = rw f refl in let no : None ≡ Some t = ap (λ x. on x (λ t. grouped at (p ∷ ws) t)) (sym none) ∙ e in absurd cc

pub ends_grouped : (at : ℕ) (ws : List Pending) (row others : List Item) (n : ℕ) (r t : Tree)
    → Holds row ws → Groups n others r → WaitsAbove n ws → grouped at ws r ≡ Some t → IsGrouped at (row ++ others) t
ends_grouped at [] row others n r t held g above e = absurd cc
ends_grouped at (pending l o ∷ []) row others n r t (holds_more {row = front} {others = first} held f looser_) g above e =
    let m = is_made (binary o l r at) t e in
    let one : Groups (level o) (first ++ operator o ∷ others) (binary o l r (begins l)) = grouped_by o n first others l r f above g in
    let most : level o ≤ loosest = (level_some o).2 in
    let all : Groups loosest (first ++ operator o ∷ others) (binary o l r (begins l)) = lifted loosest (level o) _ _ most one in
    subst (λ x. IsGrouped at x t) (sym (regroup front first others o ∙ no_front front first held)) (subst (λ x. IsGrouped at (first ++ operator o ∷ others) x) m.0 (is_grouped all m.1))
  where
    no_front : (front first : List Item) → Holds front [] → front ++ (first ++ operator o ∷ others) ≡ first ++ operator o ∷ others
    no_front front first holds_none = refl
ends_grouped at (pending l o ∷ p ∷ ws) row others n r t (holds_more {row = front} {others = first} held f looser_) g above e =
    let next = ends_joined at p l o ws r t e in
    let one : Groups (level o) (first ++ operator o ∷ others) (binary o l r (begins l)) = grouped_by o n first others l r f above g in
    let so : IsGrouped at (front ++ (first ++ operator o ∷ others)) t = ends_grouped at (p ∷ ws) front (first ++ operator o ∷ others) (level o) (binary o l r (begins l)) t held one looser_ next in
    subst (λ x. IsGrouped at x t) (sym (regroup front first others o)) so

-- a row that was read: what waits, and the last operand
pub record ReadOf (row : List Item) (ws : List Pending) (r : Tree) : Type 0 where
  pub before : List Item
  pub is : row ≡ before ++ operand r ∷ []
  pub held : Holds before ws

above_none : (ws : List Pending) → WaitsAbove 0 ws
above_none [] = tt
above_none (pending l op ∷ ws) = let some = level_some op in omega (arith, some.1)

turn_holds : (op : BinOp) (row front : List Item) (ws0 ws : List Pending) (t r : Tree)
    → ((front_ : List Item) (new : List Pending) → Holds front_ new → reads row new None ≡ Some (read ws (Some r)) → ReadOf (front_ ++ row) ws r)
    → Holds front ws0 → (found : Option (List Pending)) → before_operator op ws0 t ≡ found
    → reads_on row found ≡ Some (read ws (Some r)) → ReadOf (front ++ operand t ∷ operator op ∷ row) ws r
turn_holds op row front ws0 ws t r go held None is e = absurd (never_read row (read ws (Some r)) e)
turn_holds op row front ws0 ws t r go held (Some new) is e =
    let more : Holds (front ++ ((operand t ∷ []) ++ operator op ∷ [])) new = before_holds op ws0 new front (operand t ∷ []) 0 t held the_operand (above_none ws0) (omega arith) is in
    let all = go (front ++ (operand t ∷ operator op ∷ [])) new more e in
    subst (λ x. ReadOf x ws r) (append_assoc front (operand t ∷ operator op ∷ []) row) all

pub reads_holds : (row front : List Item) (ws0 ws : List Pending) (r : Tree) → Holds front ws0 → reads row ws0 None ≡ Some (read ws (Some r)) → ReadOf (front ++ row) ws r
reads_holds [] front ws0 ws r held e = absurd cc
reads_holds (operator op ∷ row) front ws0 ws r held e = absurd (never_read row (read ws (Some r)) e)
reads_holds (operand t ∷ []) front ws0 ws r held e =
    let same : ws0 ≡ ws = cc in
    let last : t ≡ r = cc in
    record { before = front; is = ap (λ x. front ++ operand x ∷ []) last; held = subst (Holds front) same held }
reads_holds (operand t ∷ operand u ∷ row) front ws0 ws r held e = absurd (never_read row (read ws (Some r)) e)
reads_holds (operand t ∷ operator op ∷ row) front ws0 ws r held e =
    turn_holds op row front ws0 ws t r (λ front_ new h k. reads_holds row front_ new ws r h k) held (before_operator op ws0 t) refl e

-- a row that was read to its end and grouped
pub read_is_grouped : (at : ℕ) (row : List Item) (ws : List Pending) (r t : Tree) → reads row [] None ≡ Some (read ws (Some r)) → grouped at ws r ≡ Some t → IsGrouped at row t
read_is_grouped at row ws r t h e =
    let all : ReadOf row ws r = reads_holds row [] [] ws r holds_none h in
    subst (λ x. IsGrouped at x t) (sym all.is) (ends_grouped at ws all.before (operand r ∷ []) 0 r t all.held the_operand (above_none ws) e)
