-- Where a walk along edges ends: each node stands behind those to which it leads, and all of them are nodes.
use Rattle.std.proofs.Common.{◌≡◌, ℕ, zero, suc, Bool, true, false, ◌||◌, List, [], ◌∷◌, ◌++◌, refl, sym, ap, subst, ◌∙◌}
use Rattle.std.proofs.lemmas.Slice.Eq.{bytes_eq-Decides}
use Rattle.std.specs.Prelude.{Option, None, Some, is_some, if◌then◌else◌}
use Rattle.std.specs.Str.{bytes_eq}
use Rattle.cal_model.specs.Sound.{Each}
use Rattle.cal_scope.specs.Names.{is_among, with_name}
use Rattle.cal_imports.specs.Answer.{Answer, Gives, Refuses}
use Rattle.cal_imports.specs.Behind.{IsOrder, IsOrderBehind, LeadAmong, edges_of}
use Rattle.cal_imports.specs.Walk.{Edge, Graph, Node, Open, Step, Goes, Ends, Stops, Walk, begun, entered_from, followed, left_inside, node_named, order_from, past, step, step_at, step_in, steps_left, walk, walk_on, with_inner, with_open}

-- ---- names among others

among_before : (x : List ℕ) (xs ys : List (List ℕ)) → is_among x xs ≡ true → is_among x (xs ++ ys) ≡ true
among_before x [] ys h = absurd cc
among_before x (z ∷ xs) ys h = go (bytes_eq x z) h (among_before x xs ys)
  where
    go : (b : Bool) → (b || is_among x xs) ≡ true → (is_among x xs ≡ true → is_among x (xs ++ ys) ≡ true) → (b || is_among x (xs ++ ys)) ≡ true
    go true i rest = refl
    go false i rest = rest i

among_last : (x : List ℕ) (xs : List (List ℕ)) → is_among x (xs ++ x ∷ []) ≡ true
among_last x [] = go (bytes_eq x x) ((bytes_eq-Decides x x).1 refl)
  where
    go : (b : Bool) → b ≡ true → (b || false) ≡ true
    go true e = refl
    go false e = e
among_last x (z ∷ xs) = go (bytes_eq x z) (among_last x xs)
  where
    go : (b : Bool) → is_among x (xs ++ x ∷ []) ≡ true → (b || is_among x (xs ++ x ∷ [])) ≡ true
    go true e = refl
    go false e = e

pub leads_before : (es : List Edge) (xs ys : List (List ℕ)) → LeadAmong es xs → LeadAmong es (xs ++ ys)
leads_before [] xs ys h = tt
leads_before (e ∷ es) xs ys h = (among_before e.to xs ys h.0, leads_before es xs ys h.1)

-- ---- what was left

-- the names that were left are nodes, each behind those to which it leads
record IsLeft (nodes : List Node) (left : List (List ℕ)) : Type 0 where
  is_order : IsOrder nodes left
  are_nodes : Each (λ x. is_some (node_named x nodes) ≡ true) left

order_with : (nodes : List Node) (before order : List (List ℕ)) (x : List ℕ) → IsOrderBehind nodes before order → LeadAmong (edges_of (node_named x nodes)) (before ++ order)
    → IsOrderBehind nodes before (order ++ x ∷ [])
order_with nodes before [] x h k = (subst (LeadAmong (edges_of (node_named x nodes))) (no_more before) k, tt)
  where
    no_more : (xs : List (List ℕ)) → xs ++ [] ≡ xs
    no_more [] = refl
    no_more (y ∷ xs) = ap (λ ys. y ∷ ys) (no_more xs)
order_with nodes before (y ∷ order) x h k =
    (h.0, order_with nodes (before ++ y ∷ []) order x h.1 (subst (LeadAmong (edges_of (node_named x nodes))) (sym (moved before)) k))
  where
    moved : (xs : List (List ℕ)) → (xs ++ y ∷ []) ++ order ≡ xs ++ y ∷ order
    moved [] = refl
    moved (z ∷ xs) = ap (λ zs. z ∷ zs) (moved xs)

each_with : (P : List ℕ → Type 0) (xs : List (List ℕ)) (x : List ℕ) → Each P xs → P x → Each P (xs ++ x ∷ [])
each_with P [] x h p = (p, tt)
each_with P (y ∷ xs) x h p = (h.0, each_with P xs x h.1 p)

-- ---- edges that were followed

-- the edges of a node, of which the last weren't followed yet; the others lead to these names
record IsFollowed (es rest : List Edge) (names : List (List ℕ)) : Type 0 where
  done : List Edge
  parts : es ≡ done ++ rest
  led : LeadAmong done names

abbrev pub AllAmong : (xs ys : List (List ℕ)) → Type 0
AllAmong xs ys = (x : List ℕ) → is_among x xs ≡ true → is_among x ys ≡ true

pub leads_on : (es : List Edge) (xs ys : List (List ℕ)) → AllAmong xs ys → LeadAmong es xs → LeadAmong es ys
leads_on [] xs ys all h = tt
leads_on (e ∷ es) xs ys all h = (all e.to h.0, leads_on es xs ys all h.1)

followed_on : (es rest : List Edge) (xs ys : List (List ℕ)) → AllAmong xs ys → IsFollowed es rest xs → IsFollowed es rest ys
followed_on es rest xs ys all h = record { done = h.done; parts = h.parts; led = leads_on h.done xs ys all h.led }

lead_more : (es : List Edge) (e : Edge) (names : List (List ℕ)) → LeadAmong es names → is_among e.to names ≡ true → LeadAmong (es ++ e ∷ []) names
lead_more [] e names h k = (k, tt)
lead_more (d ∷ es) e names h k = (h.0, lead_more es e names h.1 k)

moved_edge : (done rest : List Edge) (e : Edge) → done ++ e ∷ rest ≡ (done ++ e ∷ []) ++ rest
moved_edge [] rest e = refl
moved_edge (d ∷ done) rest e = ap (λ es. d ∷ es) (moved_edge done rest e)

one_more_followed : (es rest : List Edge) (e : Edge) (names : List (List ℕ)) → IsFollowed es (e ∷ rest) names → is_among e.to names ≡ true → IsFollowed es rest names
one_more_followed es rest e names h k = record {
  done = h.done ++ e ∷ [];
  parts = h.parts ∙ moved_edge h.done rest e;
  led = lead_more h.done e names h.led k;
}

no_rest : (es : List Edge) → es ++ [] ≡ es
no_rest [] = refl
no_rest (e ∷ es) = ap (λ ds. e ∷ ds) (no_rest es)

all_followed : (es : List Edge) (names : List (List ℕ)) → IsFollowed es [] names → LeadAmong es names
all_followed es names h = subst (λ ds. LeadAmong ds names) (sym (h.parts ∙ no_rest h.done)) h.led

none_followed : (es : List Edge) (names : List (List ℕ)) → IsFollowed es es names
none_followed es names = record { done = []; parts = refl; led = tt }

-- ---- names with one more

in_front : (i : List ℕ) (xs : List (List ℕ)) → AllAmong xs (i ∷ xs)
in_front i xs x h = go (bytes_eq x i)
  where
    go : (b : Bool) → (b || is_among x xs) ≡ true
    go true = refl
    go false = h

it_is_first : (i : List ℕ) (xs : List (List ℕ)) → is_among i (i ∷ xs) ≡ true
it_is_first i xs = go (bytes_eq i i) ((bytes_eq-Decides i i).1 refl)
  where
    go : (b : Bool) → b ≡ true → (b || is_among i xs) ≡ true
    go true e = refl
    go false e = absurd cc

front_in_both : (i : List ℕ) (xs ys : List (List ℕ)) → AllAmong xs ys → AllAmong (i ∷ xs) (i ∷ ys)
front_in_both i xs ys all x h = go (bytes_eq x i) h
  where
    go : (b : Bool) → (b || is_among x xs) ≡ true → (b || is_among x ys) ≡ true
    go true k = refl
    go false k = all x k

added_last : (i : List ℕ) (xs : List (List ℕ)) → AllAmong (i ∷ xs) (with_name i xs)
added_last i xs x h = choose (is_among i xs) refl (bytes_eq x i) (bytes_eq-Decides x i).0 h
  where
    choose : (c : Bool) → is_among i xs ≡ c → (b : Bool) → (b ≡ true → x ≡ i) → (b || is_among x xs) ≡ true → is_among x (if c then xs else xs ++ i ∷ []) ≡ true
    choose true e true same k = subst (λ z. is_among z xs ≡ true) (sym (same refl)) e
    choose true e false same k = k
    choose false e true same k = subst (λ z. is_among z (xs ++ i ∷ []) ≡ true) (sym (same refl)) (among_last i xs)
    choose false e false same k = among_before x xs (i ∷ []) k

kept_with : (i : List ℕ) (xs : List (List ℕ)) → AllAmong xs (with_name i xs)
kept_with i xs x h = added_last i xs x (in_front i xs x h)

-- ---- nodes by their names

pub found_name : (x : List ℕ) (nodes : List Node) (n : Node) → node_named x nodes ≡ Some n → n.name ≡ x
found_name x [] n h = absurd cc
found_name x (m ∷ ms) n h = go (bytes_eq x m.name) (bytes_eq-Decides x m.name).0 h (found_name x ms n)
  where
    some_same : Some m ≡ Some n → m ≡ n
    some_same e = cc

    go : (b : Bool) → (b ≡ true → x ≡ m.name) → (if b then Some m else node_named x ms) ≡ Some n → (node_named x ms ≡ Some n → n.name ≡ x) → n.name ≡ x
    go true same e rest = sym (same refl ∙ ap (λ k. k.name) (some_same e))
    go false same e rest = rest e

-- ---- walks

-- the edges of an open node: those with which the walk began, or a node's
abbrev its_edges : (nodes : List Node) (start : List Edge) (outside : List Open) (name : List ℕ) → List Edge
its_edges nodes start [] name = start
its_edges nodes start (p ∷ ps) name = edges_of (node_named name nodes)

-- all but the outermost are nodes
abbrev IsInner : (nodes : List Node) (outside : List Open) (name : List ℕ) → Type 0
IsInner nodes [] name = Unit {0}
IsInner nodes (p ∷ ps) name = is_some (node_named name nodes) ≡ true

-- those outside an open node, each of which led to the next
abbrev AreOutside : (nodes : List Node) (start : List Edge) (left : List (List ℕ)) (inner : List ℕ) (os : List Open) → Type 0
AreOutside nodes start left inner [] = Unit {0}
AreOutside nodes start left inner (o ∷ os) = IsFollowed (its_edges nodes start os o.name) o.rest (inner ∷ left)
    × IsInner nodes os o.name × AreOutside nodes start left o.name os

abbrev AreOpen : (nodes : List Node) (start : List Edge) (left : List (List ℕ)) (os : List Open) → Type 0
AreOpen nodes start left [] = ⊥
AreOpen nodes start left (o ∷ os) = IsFollowed (its_edges nodes start os o.name) o.rest left
    × IsInner nodes os o.name × AreOutside nodes start left o.name os

record IsWalk (nodes : List Node) (start : List Edge) (w : Walk) : Type 0 where
  left : IsLeft nodes w.left
  opened : AreOpen nodes start w.left w.open_nodes

-- where a walk ends that began with these edges
pub record IsEnd (nodes : List Node) (start : List Edge) (order : List (List ℕ)) : Type 0 where
  pub is_order : IsOrder nodes order
  pub are_nodes : Each (λ x. is_some (node_named x nodes) ≡ true) order
  pub whole : LeadAmong start order

abbrev IsStep : (nodes : List Node) (start : List Edge) → Step → Type 0
IsStep nodes start (Goes w) = IsWalk nodes start w
IsStep nodes start (Ends left) = IsEnd nodes start left
IsStep nodes start (Stops rule file at) = Unit {0}

outside_on : (nodes : List Node) (start : List Edge) (xs ys : List (List ℕ)) (inner : List ℕ) (os : List Open) → AllAmong xs ys → AreOutside nodes start xs inner os
    → AreOutside nodes start ys inner os
outside_on nodes start xs ys inner [] all h = tt
outside_on nodes start xs ys inner (o ∷ os) all h = (
  followed_on (its_edges nodes start os o.name) o.rest (inner ∷ xs) (inner ∷ ys) (front_in_both inner xs ys all) h.0,
  h.1,
  outside_on nodes start xs ys o.name os all h.2,
)

left_with : (nodes : List Node) (left : List (List ℕ)) (name : List ℕ) → IsLeft nodes left → is_some (node_named name nodes) ≡ true → LeadAmong (edges_of (node_named name nodes)) left
    → IsLeft nodes (with_name name left)
left_with nodes left name h node led = go (is_among name left)
  where
    go : (b : Bool) → IsLeft nodes (if b then left else left ++ name ∷ [])
    go true = h
    go false = record {
      is_order = order_with nodes [] left name h.is_order led;
      are_nodes = each_with (λ x. is_some (node_named x nodes) ≡ true) left name h.are_nodes node;
    }

leaving_is : (nodes : List Node) (start : List Edge) (os : List Open) (name : List ℕ) (w : Walk) → w.open_nodes ≡ os → IsLeft nodes w.left
    → IsFollowed (its_edges nodes start os name) [] w.left → IsInner nodes os name → AreOutside nodes start w.left name os → IsStep nodes start (left_inside os name w)
leaving_is nodes start [] name w same left done inner outside =
    record { is_order = left.is_order; are_nodes = left.are_nodes; whole = all_followed start w.left done }
leaving_is nodes start (p ∷ ps) name w same left done inner outside = record {
  left = left_with nodes w.left name left inner (all_followed (edges_of (node_named name nodes)) w.left done);
  opened = subst (AreOpen nodes start (with_name name w.left)) (sym same) (
    followed_on (its_edges nodes start ps p.name) p.rest (name ∷ w.left) (with_name name w.left) (added_last name w.left) outside.0,
    outside.1,
    outside_on nodes start w.left (with_name name w.left) p.name ps (kept_with name w.left) outside.2,
  );
}

entered_is : (g : Graph) (start : List Edge) (o : Open) (e : Edge) (es : List Edge) (w : Walk) (found : Option Node) → node_named e.to g.nodes ≡ found → IsLeft g.nodes w.left
    → IsFollowed (its_edges g.nodes start w.open_nodes o.name) (e ∷ es) w.left → IsInner g.nodes w.open_nodes o.name
    → AreOutside g.nodes start w.left o.name w.open_nodes → IsStep g.nodes start (entered_from found g o e es w)
entered_is g start o e es w None same left done inner outside = tt
entered_is g start o e es w (Some n) same left done inner outside =
    let named : n.name ≡ e.to = found_name e.to g.nodes n same in
    let here : node_named n.name g.nodes ≡ Some n = subst (λ z. node_named z g.nodes ≡ Some n) (sym named) same in
    let to_it : is_among e.to (n.name ∷ w.left) ≡ true = subst (λ z. is_among z (n.name ∷ w.left) ≡ true) named (it_is_first n.name w.left) in
    record {
      left = left;
      opened = (
        subst (λ f. IsFollowed (edges_of f) n.edges w.left) (sym here) (none_followed n.edges w.left),
        subst (λ f. is_some f ≡ true) (sym here) refl,
        (
          one_more_followed (its_edges g.nodes start w.open_nodes o.name) es e (n.name ∷ w.left)
              (followed_on (its_edges g.nodes start w.open_nodes o.name) (e ∷ es) w.left (n.name ∷ w.left) (in_front n.name w.left) done) to_it,
          inner,
          outside,
        ),
      );
    }

followed_is : (g : Graph) (start : List Edge) (o : Open) (e : Edge) (es : List Edge) (w : Walk) → IsLeft g.nodes w.left
    → IsFollowed (its_edges g.nodes start w.open_nodes o.name) (e ∷ es) w.left → IsInner g.nodes w.open_nodes o.name
    → AreOutside g.nodes start w.left o.name w.open_nodes → IsStep g.nodes start (followed g o e es w)
followed_is g start o e es w left done inner outside = go (is_among e.to w.left) refl (is_among e.to w.entered)
  where
    go : (a : Bool) → is_among e.to w.left ≡ a → (b : Bool)
        → IsStep g.nodes start (if a then Goes (with_inner (past o es) w) else if b then Stops g.circle o.file e.at else entered_from (node_named e.to g.nodes) g o e es w)
    go true among b = record {
      left = left;
      opened = (one_more_followed (its_edges g.nodes start w.open_nodes o.name) es e w.left done among, inner, outside);
    }
    go false among true = tt
    go false among false = entered_is g start o e es w (node_named e.to g.nodes) refl left done inner outside

at_is : (g : Graph) (start : List Edge) (o : Open) (rest : List Edge) (w : Walk) → IsLeft g.nodes w.left
    → IsFollowed (its_edges g.nodes start w.open_nodes o.name) rest w.left → IsInner g.nodes w.open_nodes o.name
    → AreOutside g.nodes start w.left o.name w.open_nodes → IsStep g.nodes start (step_at g o rest w)
at_is g start o [] w left done inner outside = leaving_is g.nodes start w.open_nodes o.name w refl left done inner outside
at_is g start o (e ∷ es) w left done inner outside = followed_is g start o e es w left done inner outside

in_is : (g : Graph) (start : List Edge) (os : List Open) (w : Walk) → IsLeft g.nodes w.left → AreOpen g.nodes start w.left os → IsStep g.nodes start (step_in os g w)
in_is g start [] w left h = absurd h
in_is g start (o ∷ os) w left h = at_is g start o o.rest (with_open os w) left h.0 h.1 h.2

abbrev IsAnswer : (nodes : List Node) (start : List Edge) → Answer (List (List ℕ)) → Type 0
IsAnswer nodes start (Gives order) = IsEnd nodes start order
IsAnswer nodes start (Refuses rule file at) = Unit {0}

walk_is : (n : ℕ) (g : Graph) (start : List Edge) (w : Walk) → IsWalk g.nodes start w → IsAnswer g.nodes start (walk n g w)
walk_is zero g start w h = tt
walk_is (suc n) g start w h = on (step g w) (in_is g start w.open_nodes w h.left h.opened) (λ t f. walk_is n g start t f)
  where
    on : (s : Step) → IsStep g.nodes start s → ((t : Walk) → IsWalk g.nodes start t → IsAnswer g.nodes start (walk n g t)) → IsAnswer g.nodes start (walk_on (walk n g) s)
    on (Goes t) f again = again t f
    on (Ends left) f again = f
    on (Stops rule file at) f again = tt

-- the names that a walk leaves are nodes, each behind those to which it leads
pub order_ends : (g : Graph) (o : Open) (order : List (List ℕ)) → order_from g o ≡ Gives order → IsEnd g.nodes o.rest order
order_ends g o order h =
    subst (IsAnswer g.nodes o.rest) h (walk_is (suc (steps_left g (begun o))) g o.rest (begun o) (record {
      left = record { is_order = tt; are_nodes = tt };
      opened = (none_followed o.rest [], tt, tt);
    }))
