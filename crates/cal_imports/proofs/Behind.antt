-- A walk that ends gives an order in which each node stands behind those to which it leads.
use Rattle.std.proofs.Common.{◌≡◌, ℕ, zero, suc, ◌+◌, Bool, true, false, ◌||◌, List, [], ◌∷◌, ◌++◌, refl, sym, ap, subst, ◌∙◌}
use Rattle.std.proofs.lemmas.List.{append_assoc, append-nil}
use Rattle.std.proofs.lemmas.Slice.Eq.{bytes_eq-Decides}
use Rattle.std.specs.Prelude.{Option, None, Some, if◌then◌else◌}
use Rattle.std.specs.Str.{bytes_eq}
use Rattle.cal_scope.specs.Names.{is_among, with_name}
use Rattle.cal_imports.specs.Answer.{Answer, Gives, Refuses}
use Rattle.cal_imports.specs.Behind.{IsOrder, IsOrderBehind, LeadAmong, edges_of}
use Rattle.cal_imports.specs.Walk.{Edge, Graph, Node, Open, Step, Goes, Ends, Stops, Walk, begun, entered_from, followed, left_inside, node_named, order_from, past, step, step_at, step_in, steps_left, walk, walk_on, with_open}
use Rattle.cal_imports.proofs.Walks.{among_before, among_last, or_node}

-- ---- names among more names

among_more : (x y : List ℕ) (xs : List (List ℕ)) → is_among x xs ≡ true → is_among x (with_name y xs) ≡ true
among_more x y xs h = go (is_among y xs)
  where
    go : (b : Bool) → is_among x (if b then xs else xs ++ y ∷ []) ≡ true
    go true = h
    go false = among_before x xs (y ∷ []) h

among_added : (y : List ℕ) (xs : List (List ℕ)) → is_among y (with_name y xs) ≡ true
among_added y xs = go (is_among y xs) refl
  where
    go : (b : Bool) → is_among y xs ≡ b → is_among y (if b then xs else xs ++ y ∷ []) ≡ true
    go true h = h
    go false h = among_last y xs

-- a name that is one of these, or the one that is entered
data Known (x : List ℕ) (names inside : List (List ℕ)) : Type 0 where
  was_left : is_among x names ≡ true → Known x names inside
  is_inside : is_among x inside ≡ true → Known x names inside

abbrev AllKnown : List Edge → (names inside : List (List ℕ)) → Type 0
AllKnown [] names inside = Unit {0}
AllKnown (e ∷ es) names inside = Known e.to names inside × AllKnown es names inside

more_known : (es : List Edge) (y : List ℕ) (xs inside : List (List ℕ)) → AllKnown es xs inside → AllKnown es (with_name y xs) inside
more_known [] y xs inside h = tt
more_known (e ∷ es) y xs inside (was_left k, h) = (was_left (among_more e.to y xs k), more_known es y xs inside h)
more_known (e ∷ es) y xs inside (is_inside k, h) = (is_inside k, more_known es y xs inside h)

one_only : (x y : List ℕ) → is_among x (y ∷ []) ≡ true → x ≡ y
one_only x y h = go (bytes_eq x y) (λ e. (bytes_eq-Decides x y).0 e) h
  where
    go : (b : Bool) → (b ≡ true → x ≡ y) → (b || false) ≡ true → x ≡ y
    go true same h = same refl
    go false same h = cc

-- the one that was entered is left
all_left : (es : List Edge) (y : List ℕ) (xs inside : List (List ℕ)) → AllKnown es xs (y ∷ []) → AllKnown es (with_name y xs) []
all_left [] y xs inside h = tt
all_left (e ∷ es) y xs inside (was_left k, h) = (was_left (among_more e.to y xs k), all_left es y xs inside h)
all_left (e ∷ es) y xs inside (is_inside k, h) =
    (was_left (subst (λ z. is_among z (with_name y xs) ≡ true) (sym (one_only e.to y k)) (among_added y xs)), all_left es y xs inside h)

lead_among : (es : List Edge) (xs : List (List ℕ)) → AllKnown es xs [] → LeadAmong es xs
lead_among [] xs h = tt
lead_among (e ∷ es) xs (was_left k, h) = (k, lead_among es xs h)
lead_among (e ∷ es) xs (is_inside k, h) = cc

and_known : (es : List Edge) (e : Edge) (xs inside : List (List ℕ)) → AllKnown es xs [] → Known e.to xs inside → AllKnown (es ++ e ∷ []) xs inside
and_known [] e xs inside h k = (k, tt)
and_known (d ∷ es) e xs inside (was_left j, h) k = (was_left j, and_known es e xs inside h k)
and_known (d ∷ es) e xs inside (is_inside j, h) k = cc

-- ---- orders

longer_behind : (ns : List Node) (before order : List (List ℕ)) (x : List ℕ) → IsOrderBehind ns before order → LeadAmong (edges_of (node_named x ns)) (before ++ order)
    → IsOrderBehind ns before (order ++ x ∷ [])
longer_behind ns before [] x h k = (subst (λ names. LeadAmong (edges_of (node_named x ns)) names) (append-nil before) k, tt)
longer_behind ns before (y ∷ order) x (here, h) k =
    (here, longer_behind ns (before ++ y ∷ []) order x h (subst (λ names. LeadAmong (edges_of (node_named x ns)) names) (sym (append_assoc before (y ∷ []) order)) k))

longer : (ns : List Node) (order : List (List ℕ)) (x : List ℕ) → IsOrder ns order → LeadAmong (edges_of (node_named x ns)) order → IsOrder ns (with_name x order)
longer ns order x h k = go (is_among x order)
  where
    go : (b : Bool) → IsOrder ns (if b then order else order ++ x ∷ [])
    go true = h
    go false = longer_behind ns [] order x h k

-- ---- open nodes

-- all edges of an open node; `all` are those of the outermost, which stands in no other
abbrev edges_at : List Node → (all : List Edge) → (name : List ℕ) → (outside : List Open) → List Edge
edges_at ns all name [] = all
edges_at ns all name (u ∷ us) = edges_of (node_named name ns)

-- The edges of open nodes that were followed lead to nodes that were left, but for the last of an outer one, which leads
-- to the one inside it.
abbrev IsStack : List Node → List Edge → (left inside : List (List ℕ)) → List Open → Type 0
IsStack ns all left inside [] = Unit {0}
IsStack ns all left inside (o ∷ os) = (p : List Edge) × (edges_at ns all o.name os ≡ p ++ o.rest) × AllKnown p left inside × IsStack ns all left (o.name ∷ []) os

abbrev IsOpened : List Open → Type 0
IsOpened [] = ⊥
IsOpened (o ∷ os) = Unit {0}

stack_more : (ns : List Node) (all : List Edge) (x : List ℕ) (left inside : List (List ℕ)) (os : List Open) → IsStack ns all left inside os → IsStack ns all (with_name x left) inside os
stack_more ns all x left inside [] h = tt
stack_more ns all x left inside (o ∷ os) (p, e, k, h) = (p, e, more_known p x left inside k, stack_more ns all x left (o.name ∷ []) os h)

stack_left : (ns : List Node) (all : List Edge) (x : List ℕ) (left : List (List ℕ)) (os : List Open) → IsStack ns all left (x ∷ []) os → IsStack ns all (with_name x left) [] os
stack_left ns all x left [] h = tt
stack_left ns all x left (o ∷ os) (p, e, k, h) = (p, e, all_left p x left [] k, stack_more ns all x left (o.name ∷ []) os h)

named_is : (x : List ℕ) (ns : List Node) (n : Node) → node_named x ns ≡ Some n → x ≡ n.name
named_is x [] n h = cc
named_is x (m ∷ ns) n h = go (bytes_eq x m.name) (λ e. (bytes_eq-Decides x m.name).0 e) (λ k. named_is x ns n k) h
  where
    go : (b : Bool) → (b ≡ true → x ≡ m.name) → (node_named x ns ≡ Some n → x ≡ n.name) → (if b then Some m else node_named x ns) ≡ Some n → x ≡ n.name
    go true same behind h = same refl ∙ ap (λ o. (or_node m o).name) h
    go false same behind h = behind h

-- ---- steps

record IsFair (ns : List Node) (all : List Edge) (w : Walk) : Type 0 where
  order : IsOrder ns w.left
  stack : IsStack ns all w.left [] w.open_nodes
  opened : IsOpened w.open_nodes

abbrev IsFairStep : List Node → List Edge → Step → Type 0
IsFairStep ns all (Goes t) = IsFair ns all t
IsFairStep ns all (Ends left) = IsOrder ns left × LeadAmong all left
IsFairStep ns all (Stops rule file at) = Unit {0}

left_fair : (ns : List Node) (all : List Edge) (o : Open) (os : List Open) (w : Walk) (p : List Edge) → IsOrder ns w.left
    → edges_at ns all o.name os ≡ p ++ [] → AllKnown p w.left [] → IsStack ns all w.left (o.name ∷ []) os → IsFairStep ns all (left_inside os o.name (with_open os w))
left_fair ns all o [] w p order e k h = (order, subst (λ es. LeadAmong es w.left) (sym (e ∙ append-nil p)) (lead_among p w.left k))
left_fair ns all o (u ∷ us) w p order e k h = record {
  order = longer ns w.left o.name order (subst (λ es. LeadAmong es w.left) (sym (e ∙ append-nil p)) (lead_among p w.left k));
  stack = stack_left ns all o.name w.left (u ∷ us) h;
  opened = tt;
}

-- an edge is followed
one_more : (p : List Edge) (e : Edge) (es : List Edge) → (p ++ e ∷ []) ++ es ≡ p ++ (e ∷ es)
one_more p e es = append_assoc p (e ∷ []) es

followed_fair : (g : Graph) (all : List Edge) (o : Open) (e : Edge) (es : List Edge) (os : List Open) (w : Walk) (p : List Edge) (a b : Bool) (n : Option Node)
    → is_among e.to w.left ≡ a → node_named e.to g.nodes ≡ n → IsOrder g.nodes w.left
    → edges_at g.nodes all o.name os ≡ p ++ (e ∷ es) → AllKnown p w.left [] → IsStack g.nodes all w.left (o.name ∷ []) os
    → IsFairStep g.nodes all (if a then Goes (with_open (past o es ∷ os) w) else if b then Stops g.circle o.file e.at else entered_from n g o e es (with_open os w))
followed_fair g all o e es os w p true b n known found order same k h = record {
  order = order;
  stack = (p ++ e ∷ [], same ∙ sym (one_more p e es), and_known p e w.left [] k (was_left known), h);
  opened = tt;
}
followed_fair g all o e es os w p false true n known found order same k h = tt
followed_fair g all o e es os w p false false None known found order same k h = tt
followed_fair g all o e es os w p false false (Some n) known found order same k h =
    let named = named_is e.to g.nodes n found in
    let here : is_among e.to (n.name ∷ []) ≡ true = ap (λ b. b || false) ((bytes_eq-Decides e.to n.name).1 named) in
    record {
      order = order;
      stack = (
        [],
        ap edges_of (ap (λ x. node_named x g.nodes) (sym named) ∙ found),
        tt,
        (p ++ e ∷ [], same ∙ sym (one_more p e es), and_known p e w.left (n.name ∷ []) k (is_inside here), h),
      );
      opened = tt;
    }

at_fair : (g : Graph) (all : List Edge) (o : Open) (rest : List Edge) (os : List Open) (w : Walk) (p : List Edge) → IsOrder g.nodes w.left
    → edges_at g.nodes all o.name os ≡ p ++ rest → AllKnown p w.left [] → IsStack g.nodes all w.left (o.name ∷ []) os → IsFairStep g.nodes all (step_at g o rest (with_open os w))
at_fair g all o [] os w p order e k h = left_fair g.nodes all o os w p order e k h
at_fair g all o (d ∷ es) os w p order e k h =
    followed_fair g all o d es os w p (is_among d.to w.left) (is_among d.to w.entered) (node_named d.to g.nodes) refl refl order e k h

in_fair : (g : Graph) (all : List Edge) (os : List Open) (w : Walk) → IsOrder g.nodes w.left → IsStack g.nodes all w.left [] os → IsOpened os → IsFairStep g.nodes all (step_in os g w)
in_fair g all [] w order h opened = absurd opened
in_fair g all (o ∷ os) w order (p, e, k, h) opened = at_fair g all o o.rest os w p order e k h

-- ---- walks

abbrev IsFairAnswer : List Node → List Edge → Answer (List (List ℕ)) → Type 0
IsFairAnswer ns all (Gives order) = IsOrder ns order × LeadAmong all order
IsFairAnswer ns all (Refuses rule file at) = Unit {0}

walk_fair : (n : ℕ) (g : Graph) (all : List Edge) (w : Walk) → IsFair g.nodes all w → IsFairAnswer g.nodes all (walk n g w)
walk_fair zero g all w h = tt
walk_fair (suc n) g all w h = on (step g w) (in_fair g all w.open_nodes w h.order h.stack h.opened) (λ t f. walk_fair n g all t f)
  where
    on : (s : Step) → IsFairStep g.nodes all s → ((t : Walk) → IsFair g.nodes all t → IsFairAnswer g.nodes all (walk n g t)) → IsFairAnswer g.nodes all (walk_on (walk n g) s)
    on (Goes t) f again = again t f
    on (Ends left) f again = f
    on (Stops rule file at) f again = tt

-- The nodes that an order holds stand behind those to which they lead, and the edges from which it began lead to it.
pub order_is_behind : (g : Graph) (o : Open) (order : List (List ℕ)) → order_from g o ≡ Gives order → IsOrder g.nodes order × LeadAmong o.rest order
order_is_behind g o order h =
    subst (IsFairAnswer g.nodes o.rest) h
    (walk_fair (suc (steps_left g (begun o))) g o.rest (begun o) (record { order = tt; stack = ([], refl, tt, tt); opened = tt }))
