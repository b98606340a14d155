-- Where a walk stops: at an edge to no node, or at one that leads back to a node from which edges led there.
use Rattle.std.proofs.Common.{◌≡◌, ◌⊎◌, inl, inr, ℕ, zero, suc, ◌<◌, Bool, true, false, ◌||◌, List, [], ◌∷◌, ◌++◌, refl, sym, ap, subst, ◌∙◌, arith}
use Rattle.std.proofs.lemmas.Slice.Eq.{bytes_eq-Decides}
use Rattle.std.specs.Prelude.{Option, None, Some, Contains, if◌then◌else◌}
use Rattle.std.specs.Str.{bytes_eq}
use Rattle.rvc_base.specs.declared.refusal.Rule.{Rule}
use Rattle.cal_scope.specs.Names.{is_among, with_name}
use Rattle.cal_imports.specs.Answer.{Answer, Gives, Refuses}
use Rattle.cal_imports.specs.Walk.{Edge, Graph, Node, Open, Step, Goes, Ends, Stops, Walk, begun, entered_from, entering, followed, left_inside, node_named, order_from, past, step, step_at, step_in, steps_left, walk, walk_on, with_inner, with_open}
use Rattle.cal_imports.proofs.Walks.{Fits, among_before, among_last, step_fits}

-- ---- nodes that are reached

pub data Reached (nodes : List Node) (from : Node) : Node → Type 0 where
  at_start : Reached nodes from from
  one_on : (n m : Node) (e : Edge) → Reached nodes from n → Contains n.edges e → node_named e.to nodes ≡ Some m → Reached nodes from m

-- an edge of a node that is reached leads to no node
pub record IsMissing (g : Graph) (from : Node) (file at : ℕ) : Type 0 where
  pub node : Node
  pub edge : Edge
  pub reached : Reached g.nodes from node
  pub is_edge : Contains node.edges edge
  pub is_file : node.file ≡ file
  pub is_at : edge.at ≡ at
  pub missing : node_named edge.to g.nodes ≡ None

-- .. or to one from which edges lead back
pub record IsBack (g : Graph) (from : Node) (file at : ℕ) : Type 0 where
  pub node : Node
  pub edge : Edge
  pub target : Node
  pub reached : Reached g.nodes from node
  pub is_edge : Contains node.edges edge
  pub is_file : node.file ≡ file
  pub is_at : edge.at ≡ at
  pub is_target : node_named edge.to g.nodes ≡ Some target
  pub back : Reached g.nodes target node

pub data IsStop (g : Graph) (from : Node) (rule : Rule) (file at : ℕ) : Type 0 where
  is_missing : rule ≡ g.missing → IsMissing g from file at → IsStop g from rule file at
  is_back : rule ≡ g.circle → IsBack g from file at → IsStop g from rule file at

-- a node that is reached, by its name
pub record IsReachedAs (nodes : List Node) (from : Node) (x : List ℕ) : Type 0 where
  pub node : Node
  pub reached : Reached nodes from node
  pub is_node : node_named x nodes ≡ Some node

abbrev pub AllReached : List Node → Node → List (List ℕ) → Type 0
AllReached nodes from names = (x : List ℕ) → is_among x names ≡ true → IsReachedAs nodes from x

-- where an edge leads to the name of the first node, it leads to that node
abbrev pub LeadsToFirst : Graph → Node → Type 0
LeadsToFirst g from = (n : Node) (e : Edge) → Reached g.nodes from n → Contains n.edges e → e.to ≡ from.name → node_named from.name g.nodes ≡ Some from

-- ---- names

pub named_is : (x : List ℕ) (ns : List Node) (n : Node) → node_named x ns ≡ Some n → n.name ≡ x
named_is x [] n h = absurd cc
named_is x (m ∷ ns) n h = go (bytes_eq x m.name) (bytes_eq-Decides x m.name).0 h (named_is x ns n)
  where
    some_same : Some m ≡ Some n → m ≡ n
    some_same e = cc

    go : (b : Bool) → (b ≡ true → x ≡ m.name) → (if b then Some m else node_named x ns) ≡ Some n → (node_named x ns ≡ Some n → n.name ≡ x) → n.name ≡ x
    go true same e rest = sym (same refl ∙ ap (λ k. k.name) (some_same e))
    go false same e rest = rest e

among_more : (x y : List ℕ) (xs : List (List ℕ)) → is_among x xs ≡ true → is_among x (with_name y xs) ≡ true
among_more x y xs h = go (is_among y xs)
  where
    go : (b : Bool) → is_among x (if b then xs else xs ++ y ∷ []) ≡ true
    go true = h
    go false = among_before x xs (y ∷ []) h

among_added : (y : List ℕ) (xs : List (List ℕ)) → is_among y (with_name y xs) ≡ true
among_added y xs = go (is_among y xs) refl
  where
    go : (b : Bool) → is_among y xs ≡ b → is_among y (if b then xs else xs ++ y ∷ []) ≡ true
    go true h = h
    go false h = among_last y xs

-- what is among names with one more is that one, or was there
one_or_before : (x y : List ℕ) (xs : List (List ℕ)) → is_among x (xs ++ y ∷ []) ≡ true → (y ≡ x) ⊎ (is_among x xs ≡ true)
one_or_before x y [] h = go (bytes_eq x y) (bytes_eq-Decides x y).0 h
  where
    go : (b : Bool) → (b ≡ true → x ≡ y) → (b || false) ≡ true → (y ≡ x) ⊎ (false ≡ true)
    go true same e = inl (sym (same refl))
    go false same e = absurd cc
one_or_before x y (z ∷ xs) h = go (bytes_eq x z) h (one_or_before x y xs)
  where
    go : (b : Bool) → (b || is_among x (xs ++ y ∷ [])) ≡ true → (is_among x (xs ++ y ∷ []) ≡ true → (y ≡ x) ⊎ (is_among x xs ≡ true)) → (y ≡ x) ⊎ ((b || is_among x xs) ≡ true)
    go true e rest = inr refl
    go false e rest = rest e

added_or_before : (x y : List ℕ) (xs : List (List ℕ)) → is_among x (with_name y xs) ≡ true → (y ≡ x) ⊎ (is_among x xs ≡ true)
added_or_before x y xs h = go (is_among y xs) h
  where
    go : (b : Bool) → is_among x (if b then xs else xs ++ y ∷ []) ≡ true → (y ≡ x) ⊎ (is_among x xs ≡ true)
    go true e = inr e
    go false e = one_or_before x y xs e

-- ---- open nodes

record IsOpenOf (n : Node) (o : Open) : Type 0 where
  name : o.name ≡ n.name
  file : o.file ≡ n.file
  rest : (e : Edge) → Contains o.rest e → Contains n.edges e

-- the open nodes, the innermost first, each of which an edge of the one outside led to
data Stack (nodes : List Node) (from : Node) : Node → List Open → Type 0 where
  bottom : (o : Open) → IsOpenOf from o → Stack nodes from from (o ∷ [])
  above : (n m : Node) (e : Edge) (o : Open) (os : List Open) → Stack nodes from m os → Contains m.edges e → node_named e.to nodes ≡ Some n → IsOpenOf n o
      → Stack nodes from n (o ∷ os)

abbrev IsOpenName : List ℕ → List Open → Type 0
IsOpenName x [] = ⊥
IsOpenName x (o ∷ os) = (o.name ≡ x) ⊎ IsOpenName x os

reached_by : (nodes : List Node) (from n : Node) (os : List Open) → Stack nodes from n os → Reached nodes from n
reached_by nodes from _ _ (bottom o h) = at_start
reached_by nodes from _ _ (above n m e o ps s c h i) = one_on m n e (reached_by nodes from m ps s) c h

-- an open node, by its name: edges lead from it to the innermost one
record IsInside (nodes : List Node) (from n : Node) (x : List ℕ) : Type 0 where
  node : Node
  name : node.name ≡ x
  leads : Reached nodes node n
  is : (node ≡ from) ⊎ (node_named x nodes ≡ Some node)

inside_more : (nodes : List Node) (from n m : Node) (e : Edge) (x : List ℕ) → Contains m.edges e → node_named e.to nodes ≡ Some n → IsInside nodes from m x → IsInside nodes from n x
inside_more nodes from n m e x c h i = record { node = i.node; name = i.name; leads = one_on m n e i.leads c h; is = i.is }

open_inside : (nodes : List Node) (from n : Node) (x : List ℕ) (os : List Open) → Stack nodes from n os → IsOpenName x os → IsInside nodes from n x
open_inside nodes from _ x _ (bottom o h) (inl e) = record { node = from; name = sym h.name ∙ e; leads = at_start; is = inl refl }
open_inside nodes from _ x _ (bottom o h) (inr e) = absurd e
open_inside nodes from _ x _ (above n m d o ps s c h i) (inl e) = record {
  node = n;
  name = sym i.name ∙ e;
  leads = at_start;
  is = inr (subst (λ y. node_named y nodes ≡ Some n) (sym (named_is d.to nodes n h) ∙ sym i.name ∙ e) h);
}
open_inside nodes from _ x _ (above n m d o ps s c h i) (inr k) = inside_more nodes from n m d x c h (open_inside nodes from m x ps s k)

-- the innermost node goes on
top_changed : (nodes : List Node) (from n : Node) (o p : Open) (os : List Open) → (IsOpenOf n o → IsOpenOf n p) → Stack nodes from n (o ∷ os) → Stack nodes from n (p ∷ os)
top_changed nodes from _ _ p _ f (bottom o h) = bottom p (f h)
top_changed nodes from _ _ p _ f (above n m d o ps s c h i) = above n m d p ps s c h (f i)

top_of : (nodes : List Node) (from n : Node) (o : Open) (os : List Open) → Stack nodes from n (o ∷ os) → IsOpenOf n o
top_of nodes from _ _ _ (bottom o h) = h
top_of nodes from _ _ _ (above n m d o ps s c h i) = i

-- ---- walks

record IsWalk (g : Graph) (from : Node) (w : Walk) : Type 0 where
  node : Node
  stack : Stack g.nodes from node w.open_nodes
  left : AllReached g.nodes from w.left
  entered : (x : List ℕ) → is_among x w.entered ≡ true → (is_among x w.left ≡ true) ⊎ IsOpenName x w.open_nodes

abbrev IsStep : Graph → Node → Step → Type 0
IsStep g from (Goes w) = IsWalk g from w
IsStep g from (Ends left) = AllReached g.nodes from left
IsStep g from (Stops rule file at) = IsStop g from rule file at

-- a name that is left, or open
abbrev IsMet : List ℕ → (left : List (List ℕ)) → List Open → Type 0
IsMet x left os = (is_among x left ≡ true) ⊎ IsOpenName x os

met_left : (x name : List ℕ) (left : List (List ℕ)) (o : Open) (os : List Open) → o.name ≡ name → IsMet x left (o ∷ os) → IsMet x (with_name name left) os
met_left x name left o os same (inl h) = inl (among_more x name left h)
met_left x name left o os same (inr (inl e)) = inl (subst (λ y. is_among y (with_name name left) ≡ true) (sym same ∙ e) (among_added name left))
met_left x name left o os same (inr (inr k)) = inr k

met_past : (x : List ℕ) (left : List (List ℕ)) (o p : Open) (os : List Open) → o.name ≡ p.name → IsMet x left (o ∷ os) → IsMet x left (p ∷ os)
met_past x left o p os same (inl h) = inl h
met_past x left o p os same (inr (inl e)) = inr (inl (sym same ∙ e))
met_past x left o p os same (inr (inr k)) = inr (inr k)

met_inside : (x : List ℕ) (left : List (List ℕ)) (p : Open) (os : List Open) → IsMet x left os → IsMet x left (p ∷ os)
met_inside x left p os (inl h) = inl h
met_inside x left p os (inr k) = inr (inr k)

left_reached : (nodes : List Node) (from n : Node) (d : Edge) (name : List ℕ) (left : List (List ℕ)) → Reached nodes from n → node_named d.to nodes ≡ Some n → name ≡ n.name
    → AllReached nodes from left → AllReached nodes from (with_name name left)
left_reached nodes from n d name left r h same all x k = go (added_or_before x name left k)
  where
    go : (name ≡ x) ⊎ (is_among x left ≡ true) → IsReachedAs nodes from x
    go (inl e) = record {
      node = n;
      reached = r;
      is_node = subst (λ y. node_named y nodes ≡ Some n) (sym (named_is d.to nodes n h) ∙ sym same ∙ e) h;
    }
    go (inr i) = all x i

left_steps : (g : Graph) (from n : Node) (o : Open) (os : List Open) (w : Walk) → AllReached g.nodes from w.left → Stack g.nodes from n (o ∷ os)
    → ((x : List ℕ) → is_among x w.entered ≡ true → IsMet x w.left (o ∷ os)) → IsStep g from (left_inside os o.name (with_open os w))
left_steps g from n o [] w lefts s met = lefts
left_steps g from _ _ (p ∷ ps) w lefts (above n m d o qs s c h i) met = record {
  node = m;
  stack = s;
  left = left_reached g.nodes from n d o.name w.left (one_on m n d (reached_by g.nodes from m (p ∷ ps) s) c h) h i.name lefts;
  entered = λ x k. met_left x o.name w.left o (p ∷ ps) refl (met x k);
}

past_open : (n : Node) (o : Open) (e : Edge) (es : List Edge) → o.rest ≡ e ∷ es → IsOpenOf n o → IsOpenOf n (past o es)
past_open n o e es same i = record {
  name = i.name;
  file = i.file;
  rest = λ d c. i.rest d (subst (λ ds. Contains ds d) (sym same) (behind d e es c));
}
  where
    behind : (d e : Edge) (es : List Edge) → Contains es d → Contains (e ∷ es) d
    behind d e es (k, h, f) = (suc k, omega arith, f)

pub first_of : {A : Type 0} (x : A) (xs : List A) → Contains (x ∷ xs) x
first_of x xs = (0, omega arith, refl)

entering_open : (n : Node) → IsOpenOf n (entering n)
entering_open n = record { name = refl; file = refl; rest = λ e c. c }

entered_steps : (g : Graph) (from n : Node) (o : Open) (e : Edge) (es : List Edge) (os : List Open) (w : Walk) (found : Option Node) → node_named e.to g.nodes ≡ found
    → o.rest ≡ e ∷ es → AllReached g.nodes from w.left → Stack g.nodes from n (o ∷ os) → ((x : List ℕ) → is_among x w.entered ≡ true → IsMet x w.left (o ∷ os))
    → IsStep g from (entered_from found g o e es (with_open os w))
entered_steps g from n o e es os w None found same lefts s met = is_missing refl (record {
  node = n;
  edge = e;
  reached = reached_by g.nodes from n (o ∷ os) s;
  is_edge = (top_of g.nodes from n o os s).rest e (subst (λ ds. Contains ds e) (sym same) (first_of e es));
  is_file = sym (top_of g.nodes from n o os s).file;
  is_at = refl;
  missing = found;
})
entered_steps g from n o e es os w (Some m) found same lefts s met =
    let edge : Contains n.edges e = (top_of g.nodes from n o os s).rest e (subst (λ ds. Contains ds e) (sym same) (first_of e es)) in
    record {
      node = m;
      stack = above m n e (entering m) (past o es ∷ os) (top_changed g.nodes from n o (past o es) os (past_open n o e es same) s) edge found (entering_open m);
      left = lefts;
      entered = λ x k. go x (added_or_before x e.to w.entered k);
    }
  where
    go : (x : List ℕ) → (e.to ≡ x) ⊎ (is_among x w.entered ≡ true) → IsMet x w.left (entering m ∷ past o es ∷ os)
    go x (inl f) = inr (inl (named_is e.to g.nodes m found ∙ f))
    go x (inr k) = met_inside x w.left (entering m) (past o es ∷ os) (met_past x w.left o (past o es) os refl (met x k))

back_stops : (g : Graph) (from n : Node) (o : Open) (e : Edge) (es : List Edge) (os : List Open) (left : List (List ℕ)) → LeadsToFirst g from
    → o.rest ≡ e ∷ es → Stack g.nodes from n (o ∷ os) → is_among e.to left ≡ false → IsMet e.to left (o ∷ os) → IsBack g from o.file e.at
back_stops g from n o e es os left firsts same s away (inl h) = absurd (let f : true ≡ false = sym h ∙ away in cc)
back_stops g from n o e es os left firsts same s away (inr k) =
    let i = open_inside g.nodes from n e.to (o ∷ os) s k in
    let edge : Contains n.edges e = (top_of g.nodes from n o os s).rest e (subst (λ ds. Contains ds e) (sym same) (first_of e es)) in
    let reached = reached_by g.nodes from n (o ∷ os) s in
    record {
      node = n;
      edge = e;
      target = i.node;
      reached = reached;
      is_edge = edge;
      is_file = sym (top_of g.nodes from n o os s).file;
      is_at = refl;
      is_target = target i edge reached i.is;
      back = i.leads;
    }
  where
    target : (i : IsInside g.nodes from n e.to) → Contains n.edges e → Reached g.nodes from n → (i.node ≡ from) ⊎ (node_named e.to g.nodes ≡ Some i.node) → node_named e.to g.nodes ≡ Some i.node
    target i edge reached (inl f) =
        let named : e.to ≡ from.name = sym i.name ∙ ap (λ m. m.name) f in
        subst (λ m. node_named e.to g.nodes ≡ Some m) (sym f) (subst (λ y. node_named y g.nodes ≡ Some from) (sym named) (firsts n e reached edge named))
    target i edge reached (inr f) = f

followed_steps : (g : Graph) (from n : Node) (o : Open) (e : Edge) (es : List Edge) (os : List Open) (w : Walk) → LeadsToFirst g from → o.rest ≡ e ∷ es → AllReached g.nodes from w.left → Stack g.nodes from n (o ∷ os)
    → ((x : List ℕ) → is_among x w.entered ≡ true → IsMet x w.left (o ∷ os)) → IsStep g from (followed g o e es (with_open os w))
followed_steps g from n o e es os w firsts same lefts s met = go (is_among e.to w.left) refl (is_among e.to w.entered) refl
  where
    go : (a : Bool) → is_among e.to w.left ≡ a → (b : Bool) → is_among e.to w.entered ≡ b
        → IsStep g from (if a then Goes (with_inner (past o es) (with_open os w)) else if b then Stops g.circle o.file e.at else entered_from (node_named e.to g.nodes) g o e es (with_open os w))
    go true left b h = record {
      node = n;
      stack = top_changed g.nodes from n o (past o es) os (past_open n o e es same) s;
      left = lefts;
      entered = λ x k. met_past x w.left o (past o es) os refl (met x k);
    }
    go false away true h = is_back refl (back_stops g from n o e es os w.left firsts same s away (met e.to h))
    go false away false h = entered_steps g from n o e es os w (node_named e.to g.nodes) refl same lefts s met

at_steps : (g : Graph) (from n : Node) (o : Open) (rest : List Edge) (os : List Open) (w : Walk) → LeadsToFirst g from → o.rest ≡ rest → AllReached g.nodes from w.left → Stack g.nodes from n (o ∷ os)
    → ((x : List ℕ) → is_among x w.entered ≡ true → IsMet x w.left (o ∷ os)) → IsStep g from (step_at g o rest (with_open os w))
at_steps g from n o [] os w firsts same lefts s met = left_steps g from n o os w lefts s met
at_steps g from n o (e ∷ es) os w firsts same lefts s met = followed_steps g from n o e es os w firsts same lefts s met

in_steps : (g : Graph) (from n : Node) (os : List Open) (w : Walk) → LeadsToFirst g from → AllReached g.nodes from w.left → Stack g.nodes from n os
    → ((x : List ℕ) → is_among x w.entered ≡ true → IsMet x w.left os) → IsStep g from (step_in os g w)
in_steps g from n [] w firsts lefts s met = lefts
in_steps g from n (o ∷ os) w firsts lefts s met = at_steps g from n o o.rest os w firsts refl lefts s met

abbrev IsAnswer : Graph → Node → Answer (List (List ℕ)) → Type 0
IsAnswer g from (Gives order) = AllReached g.nodes from order
IsAnswer g from (Refuses rule file at) = IsStop g from rule file at

walk_stops : (n : ℕ) (g : Graph) (from : Node) (w : Walk) → LeadsToFirst g from → steps_left g w < n → IsWalk g from w → IsAnswer g from (walk n g w)
walk_stops zero g from w firsts few h = absurd (omega arith)
walk_stops (suc n) g from w firsts few h = on (step g w) (step_fits g w) (in_steps g from h.node w.open_nodes w firsts h.left h.stack h.entered) (λ t left i. walk_stops n g from t firsts left i)
  where
    on : (s : Step) → Fits g (steps_left g w) s → IsStep g from s → ((t : Walk) → steps_left g t < n → IsWalk g from t → IsAnswer g from (walk n g t)) → IsAnswer g from (walk_on (walk n g) s)
    on (Goes t) fits i again = again t (omega arith) i
    on (Ends left) fits i again = i
    on (Stops rule file at) fits i again = i

order_is : (g : Graph) (from : Node) → LeadsToFirst g from → IsAnswer g from (order_from g (entering from))
order_is g from firsts =
    walk_stops (suc (steps_left g (begun (entering from)))) g from (begun (entering from)) firsts (omega arith) (record {
      node = from;
      stack = bottom (entering from) (entering_open from);
      left = λ x k. absurd cc;
      entered = λ x k. named x (bytes_eq x from.name) (bytes_eq-Decides x from.name).0 k;
    })
  where
    named : (x : List ℕ) (b : Bool) → (b ≡ true → x ≡ from.name) → (b || false) ≡ true → IsMet x [] (entering from ∷ [])
    named x true same e = inr (inl (sym (same refl)))
    named x false same e = absurd cc

-- a walk that begins at a node and is refused stops at such an edge
pub order_stops : (g : Graph) (from : Node) (rule : Rule) (file at : ℕ) → LeadsToFirst g from → order_from g (entering from) ≡ Refuses rule file at → IsStop g from rule file at
order_stops g from rule file at firsts h = subst (IsAnswer g from) h (order_is g from firsts)

-- .. and one that isn't gives nodes that are reached
pub order_reached : (g : Graph) (from : Node) (order : List (List ℕ)) → LeadsToFirst g from → order_from g (entering from) ≡ Gives order → AllReached g.nodes from order
order_reached g from order firsts h = subst (IsAnswer g from) h (order_is g from firsts)

-- ---- rules

abbrev IsRule : Graph → Answer (List (List ℕ)) → Type 0
IsRule g (Gives order) = Unit {0}
IsRule g (Refuses rule file at) = (rule ≡ g.missing) ⊎ (rule ≡ g.circle)

abbrev IsStepRule : Graph → Step → Type 0
IsStepRule g (Goes w) = Unit {0}
IsStepRule g (Ends left) = Unit {0}
IsStepRule g (Stops rule file at) = (rule ≡ g.missing) ⊎ (rule ≡ g.circle)

followed_rule : (g : Graph) (o : Open) (e : Edge) (es : List Edge) (w : Walk) → IsStepRule g (followed g o e es w)
followed_rule g o e es w = go (is_among e.to w.left) (is_among e.to w.entered) (node_named e.to g.nodes)
  where
    go : (a b : Bool) (n : Option Node) → IsStepRule g (if a then Goes (with_inner (past o es) w) else if b then Stops g.circle o.file e.at else entered_from n g o e es w)
    go true b n = tt
    go false true n = inr refl
    go false false None = inl refl
    go false false (Some n) = tt

at_rule : (g : Graph) (o : Open) (rest : List Edge) (os : List Open) (w : Walk) → IsStepRule g (step_at g o rest (with_open os w))
at_rule g o [] [] w = tt
at_rule g o [] (p ∷ os) w = tt
at_rule g o (e ∷ es) os w = followed_rule g o e es (with_open os w)

in_rule : (os : List Open) (g : Graph) (w : Walk) → IsStepRule g (step_in os g w)
in_rule [] g w = tt
in_rule (o ∷ os) g w = at_rule g o o.rest os w

walk_rule : (n : ℕ) (g : Graph) (w : Walk) → IsRule g (walk n g w)
walk_rule zero g w = inr refl
walk_rule (suc n) g w = on (step g w) (in_rule w.open_nodes g w) (λ t. walk_rule n g t)
  where
    on : (s : Step) → IsStepRule g s → ((t : Walk) → IsRule g (walk n g t)) → IsRule g (walk_on (walk n g) s)
    on (Goes t) i again = again t
    on (Ends left) i again = tt
    on (Stops rule file at) i again = i

-- a walk is refused by one of its two rules
pub order_rule : (g : Graph) (o : Open) (rule : Rule) (file at : ℕ) → order_from g o ≡ Refuses rule file at → (rule ≡ g.missing) ⊎ (rule ≡ g.circle)
order_rule g o rule file at h = subst (IsRule g) h (walk_rule (suc (steps_left g (begun o))) g (begun o))
