-- Nodes are files and imports, or routines and calls.
use Rattle.std.proofs.Common.{◌≡◌, inl, inr, ℕ, zero, suc, ◌<◌, Bool, true, false, List, [], ◌∷◌, ◌++◌, refl, sym, ap, subst, ◌∙◌, arith}
use Rattle.std.proofs.lemmas.Slice.Eq.{bytes_eq-Decides}
use Rattle.std.specs.Prelude.{Option, None, Some, Contains, is_some, option_map, if◌then◌else◌}
use Rattle.std.specs.Str.{bytes_eq}
use Rattle.cal_ast.specs.Tree as tree
use Rattle.cal_ast.specs.Tree.{Tree}
use Rattle.cal_model.specs.Sound.{Each}
use Rattle.cal_imports.specs.Calls.{with_calls}
use Rattle.cal_imports.specs.Recursion.{routine_node, routines, with_outer_routines, with_routine, with_routines}
use Rattle.cal_imports.specs.Sources.{Source, dotted, imports_of, source_named}
use Rattle.cal_imports.specs.Walk.{Edge, Node, node_named, with_node}
use Rattle.cal_imports.specs.Whole.{Outer, Scope, file_graph, file_node, import_edges, members_of, with_file_nodes}
use Rattle.law_imports.specs.Calling.{Calls, CallsLeadTo, IsOther, IsOwn, IsRoutine, Routine, routine_name, routine_of}
use Rattle.law_imports.specs.Calling as calling
use Rattle.law_imports.specs.Leading.{Imports, LeadTo, listed_in}
use Rattle.law_imports.specs.Leading as leading
use Rattle.law_imports.proofs.CalledIn.{called_in, first, later}
use Rattle.law_imports.proofs.Stopping.{Reached, at_start, named_is, one_on}

-- ---- nodes by their names

abbrev or_node : Option Node → Option Node → Option Node
or_node None other = other
or_node (Some n) other = Some n

abbrev if_named : Bool → Node → Option Node
if_named b n = if b then Some n else None

none_more : (o : Option Node) → o ≡ or_node o None
none_more None = refl
none_more (Some m) = refl

find_last : (x : List ℕ) (ns : List Node) (n : Node) → node_named x (ns ++ n ∷ []) ≡ or_node (node_named x ns) (if_named (bytes_eq x n.name) n)
find_last x [] n = refl
find_last x (m ∷ ns) n = go (bytes_eq x m.name) (find_last x ns n)
  where
    go : (b : Bool) → node_named x (ns ++ n ∷ []) ≡ or_node (node_named x ns) (if_named (bytes_eq x n.name) n)
        → (if b then Some m else node_named x (ns ++ n ∷ [])) ≡ or_node (if b then Some m else node_named x ns) (if_named (bytes_eq x n.name) n)
    go true rest = refl
    go false rest = rest

find_with : (x : List ℕ) (n : Node) (ns : List Node) → node_named x (with_node n ns) ≡ or_node (node_named x ns) (if_named (bytes_eq x n.name) n)
find_with x n ns = choose (is_some (node_named n.name ns)) refl
  where
    there : (o : Option Node) → is_some o ≡ true → o ≡ or_node o (Some n)
    there None e = absurd cc
    there (Some m) e = refl

    same : (b : Bool) → (b ≡ true → x ≡ n.name) → is_some (node_named n.name ns) ≡ true → node_named x ns ≡ or_node (node_named x ns) (if_named b n)
    same true is e = there (node_named x ns) (subst (λ z. is_some (node_named z ns) ≡ true) (sym (is refl)) e)
    same false is e = none_more (node_named x ns)

    choose : (b : Bool) → is_some (node_named n.name ns) ≡ b → node_named x (if b then ns else ns ++ n ∷ []) ≡ or_node (node_named x ns) (if_named (bytes_eq x n.name) n)
    choose true e = same (bytes_eq x n.name) (bytes_eq-Decides x n.name).0 e
    choose false e = find_last x ns n

-- ---- files

or_or : (a b c : Option Node) → or_node (or_node a b) c ≡ or_node a (or_node b c)
or_or None b c = refl
or_or (Some n) b c = refl

find_files : (x : List ℕ) (ss : List Source) (ns : List Node) → node_named x (with_file_nodes ss ns) ≡ or_node (node_named x ns) (option_map file_node (source_named x ss))
find_files x [] ns = none_more (node_named x ns)
find_files x (s ∷ ss) ns =
    find_files x ss (with_node (file_node s) ns)
    ∙ ap (λ o. or_node o (option_map file_node (source_named x ss))) (find_with x (file_node s) ns)
    ∙ or_or (node_named x ns) (if_named (bytes_eq x s.name) (file_node s)) (option_map file_node (source_named x ss))
    ∙ ap (λ o. or_node (node_named x ns) o) (both (bytes_eq x s.name))
  where
    both : (b : Bool) → or_node (if_named b (file_node s)) (option_map file_node (source_named x ss)) ≡ option_map file_node (if b then Some s else source_named x ss)
    both true = refl
    both false = refl

-- the node of a name is that of the file of the class
pub file_named : (x : List ℕ) (files : List Source) → node_named x (file_graph files).nodes ≡ option_map file_node (source_named x files)
file_named x files = find_files x files []

-- .. so there is one
pub file_found : (x : List ℕ) (files : List Source) (n : Node) → node_named x (file_graph files).nodes ≡ Some n → (s : Source) × (source_named x files ≡ Some s) × (n ≡ file_node s)
file_found x files n h = go (source_named x files) refl (sym (file_named x files) ∙ h)
  where
    some_same : (a b : Node) → Some a ≡ Some b → b ≡ a
    some_same a b e = cc

    go : (o : Option Source) → source_named x files ≡ o → option_map file_node o ≡ Some n → (s : Source) × (source_named x files ≡ Some s) × (n ≡ file_node s)
    go None e f = absurd cc
    go (Some s) e f = (s, e, some_same (file_node s) n f)

pub no_file : (x : List ℕ) (files : List Source) → node_named x (file_graph files).nodes ≡ None → source_named x files ≡ None
no_file x files h = go (source_named x files) refl (sym (file_named x files) ∙ h)
  where
    go : (o : Option Source) → source_named x files ≡ o → option_map file_node o ≡ None → source_named x files ≡ None
    go None e f = e
    go (Some s) e f = absurd cc

-- an edge of a file is an import
import_in : (is : Tree) (e : Edge) → Contains (import_edges is) e
    → (path : Tree) × (last : Tree) × Contains (listed_in is) (tree.import_part path last e.at) × (dotted path ≡ e.to)
import_in (tree.cons (tree.import_part path last at) is) e (zero, h, same) =
    let to : dotted path ≡ e.to = ap (λ d. d.to) same in
    let place : at ≡ e.at = ap (λ d. d.at) same in
    (path, last, subst (λ p. Contains (tree.import_part path last at ∷ listed_in is) (tree.import_part path last p)) place (first (tree.import_part path last at) (listed_in is)), to)
import_in (tree.cons (tree.import_part path last at) is) e (suc k, h, same) =
    let (p, l, c, to) = import_in is e (k, omega arith, same) in
    (p, l, later (tree.import_part p l e.at) (tree.import_part path last at) (listed_in is) c, to)
import_in other e (k, h, same) = let none : k < 0 = h in absurd (omega arith)

pub imports_by : (s : Source) (e : Edge) → Contains (file_node s).edges e → Imports s e.to e.at
imports_by s e c =
    let (path, last, is_import, is_path) = import_in (imports_of s.tree) e c in
    record { path = path; last = last; is_import = is_import; is_path = is_path }

-- the file of a class is the first of its name
source_name : (x : List ℕ) (files : List Source) (s : Source) → source_named x files ≡ Some s → x ≡ s.name
source_name x [] s h = absurd cc
source_name x (t ∷ ts) s h = go (bytes_eq x t.name) (bytes_eq-Decides x t.name).0 h (source_name x ts s)
  where
    some_same : Some t ≡ Some s → t ≡ s
    some_same e = cc

    go : (b : Bool) → (b ≡ true → x ≡ t.name) → (if b then Some t else source_named x ts) ≡ Some s → (source_named x ts ≡ Some s → x ≡ s.name) → x ≡ s.name
    go true same e rest = same refl ∙ ap (λ k. k.name) (some_same e)
    go false same e rest = rest e

pub first_of_name : (x : List ℕ) (files : List Source) (s : Source) → source_named x files ≡ Some s → source_named s.name files ≡ Some s
first_of_name x files s h = subst (λ y. source_named y files ≡ Some s) (source_name x files s h) h

-- a file, and imports lead to it
pub record IsLedTo (files : List Source) (from : Source) (n : Node) : Type 0 where
  pub source : Source
  pub is_node : n ≡ file_node source
  pub is_first : source_named source.name files ≡ Some source
  pub leads : LeadTo files from source

leads_by : (files : List Source) (from : Source) (n m : Node) (e : Edge) → IsLedTo files from n → Contains n.edges e → node_named e.to (file_graph files).nodes ≡ Some m → IsLedTo files from m
leads_by files from n m e i c h =
    let (t, found, same) = file_found e.to files m h in
    record {
      source = t;
      is_node = same;
      is_first = first_of_name e.to files t found;
      leads = leading.further i.source t e.to e.at i.leads (imports_by i.source e (subst (λ k. Contains k.edges e) i.is_node c)) found;
    }

pub led_to : (files : List Source) (from : Source) (n : Node) → source_named from.name files ≡ Some from → Reached (file_graph files).nodes (file_node from) n → IsLedTo files from n
led_to files from _ f at_start = record { source = from; is_node = refl; is_first = f; leads = leading.itself }
led_to files from _ f (one_on n m e r c h) = leads_by files from n m e (led_to files from n f r) c h

-- ---- functions and procedures

-- a node is that of a function or a procedure of the scope
pub record IsRoutineNode (scope : Scope) (n : Node) : Type 0 where
  pub routine : Routine
  pub is : IsRoutine scope routine
  pub name : routine.name ≡ n.name
  pub file : routine.file ≡ n.file
  pub edges : n.edges ≡ with_calls routine.decl []

each_last : (P : Node → Type 0) (ns : List Node) (n : Node) → Each P ns → P n → Each P (ns ++ n ∷ [])
each_last P [] n h p = (p, tt)
each_last P (m ∷ ns) n h p = (h.0, each_last P ns n h.1 p)

each_with : (P : Node → Type 0) (n : Node) (ns : List Node) → Each P ns → P n → Each P (with_node n ns)
each_with P n ns h p = go (is_some (node_named n.name ns))
  where
    go : (b : Bool) → Each P (if b then ns else ns ++ n ∷ [])
    go true = h
    go false = each_last P ns n h p

own_node : (scope : Scope) (name : List ℕ) (decl : Tree) → routine_name decl ≡ Some name → Contains (listed_in (members_of scope.actor)) decl
    → IsRoutineNode scope (routine_node name scope.file decl)
own_node scope name decl named c = record {
  routine = record { name = name; file = scope.file; decl = decl };
  is = inl (record { member = c; name = named; file = refl });
  name = refl;
  file = refl;
  edges = refl;
}

with_member : (scope : Scope) (m : Tree) (ns : List Node) → Contains (listed_in (members_of scope.actor)) m → Each (λ n. IsRoutineNode scope n) ns
    → Each (λ n. IsRoutineNode scope n) (with_routine scope.file m ns)
with_member scope (tree.function (tree.ident name place) formals result vars body at) ns c h =
    each_with (λ n. IsRoutineNode scope n) (routine_node name scope.file (tree.function (tree.ident name place) formals result vars body at)) ns h
    (own_node scope name (tree.function (tree.ident name place) formals result vars body at) refl c)
with_member scope (tree.procedure (tree.ident name place) formals vars body at) ns c h =
    each_with (λ n. IsRoutineNode scope n) (routine_node name scope.file (tree.procedure (tree.ident name place) formals vars body at)) ns h
    (own_node scope name (tree.procedure (tree.ident name place) formals vars body at) refl c)
with_member scope other ns c h = h

with_members : (scope : Scope) (ms : Tree) (ns : List Node) → ((m : Tree) → Contains (listed_in ms) m → Contains (listed_in (members_of scope.actor)) m)
    → Each (λ n. IsRoutineNode scope n) ns → Each (λ n. IsRoutineNode scope n) (with_routines scope.file ms ns)
with_members scope (tree.cons m ms) ns all h =
    with_members scope ms (with_routine scope.file m ns) (λ k c. all k (later k m (listed_in ms) c)) (with_member scope m ns (all m (first m (listed_in ms))) h)
with_members scope other ns all h = h

with_outers : (scope : Scope) (fs : List Outer) (ns : List Node) → ((f : Outer) → Contains fs f → Contains scope.funs f) → Each (λ n. IsRoutineNode scope n) ns
    → Each (λ n. IsRoutineNode scope n) (with_outer_routines fs ns)
with_outers scope [] ns all h = h
with_outers scope (f ∷ fs) ns all h =
    with_outers scope fs (with_node (routine_node f.name f.file f.decl) ns) (λ g c. all g (later g f fs c))
    (each_with (λ n. IsRoutineNode scope n) (routine_node f.name f.file f.decl) ns h (record {
      routine = routine_of f;
      is = inr (record { outer = f; is_outer = all f (first f fs); is = refl });
      name = refl;
      file = refl;
      edges = refl;
    }))

all_routines : (scope : Scope) → Each (λ n. IsRoutineNode scope n) (routines scope)
all_routines scope =
    with_outers scope scope.funs (with_routines scope.file (members_of scope.actor) []) (λ f c. c)
    (with_members scope (members_of scope.actor) [] (λ m c. c) tt)

found_each : (P : Node → Type 0) (x : List ℕ) (ns : List Node) (n : Node) → Each P ns → node_named x ns ≡ Some n → P n
found_each P x [] n h e = absurd cc
found_each P x (m ∷ ns) n h e = go (bytes_eq x m.name) e (found_each P x ns n h.1)
  where
    some_same : Some m ≡ Some n → m ≡ n
    some_same f = cc

    go : (b : Bool) → (if b then Some m else node_named x ns) ≡ Some n → (node_named x ns ≡ Some n → P n) → P n
    go true f rest = subst P (some_same f) h.0
    go false f rest = rest f

-- the node of a name is that of a function or a procedure
pub routine_found : (scope : Scope) (x : List ℕ) (n : Node) → node_named x (routines scope) ≡ Some n → IsRoutineNode scope n
routine_found scope x n h = found_each (λ m. IsRoutineNode scope m) x (routines scope) n (all_routines scope) h

pub routine_at : (scope : Scope) (n : Node) → Contains (routines scope) n → IsRoutineNode scope n
routine_at scope n c = go (routines scope) (all_routines scope) c
  where
    go : (ns : List Node) → Each (λ m. IsRoutineNode scope m) ns → Contains ns n → IsRoutineNode scope n
    go [] h (k, f, e) = let none : k < 0 = f in absurd (omega arith)
    go (m ∷ ns) h (zero, f, e) = subst (IsRoutineNode scope) e h.0
    go (m ∷ ns) h (suc k, f, e) = go ns h.1 (k, omega arith, e)

-- an edge of a routine is a call
pub calls_by : (scope : Scope) (n : Node) (i : IsRoutineNode scope n) (e : Edge) → Contains n.edges e → Calls i.routine e.to e.at
calls_by scope n i e c =
    let h = called_in i.routine.decl e (subst (λ es. Contains es e) i.edges c) in
    record { call = h.call; stands = h.stands; is_call = h.is_call }

-- calls lead from a routine to that of a node
pub record IsCalledFrom (scope : Scope) (from : Routine) (n : Node) : Type 0 where
  pub node : IsRoutineNode scope n
  pub leads : CallsLeadTo scope from node.routine

calls_on : (scope : Scope) (from : Routine) (n m : Node) (e : Edge) → IsCalledFrom scope from n → Contains n.edges e → node_named e.to (routines scope) ≡ Some m → IsCalledFrom scope from m
calls_on scope from n m e i c h =
    let j = routine_found scope e.to m h in
    let named : e.to ≡ j.routine.name = sym (named_is e.to (routines scope) m h) ∙ sym j.name in
    record {
      node = j;
      leads = calling.further i.node.routine j.routine e.at i.leads j.is (subst (λ x. Calls i.node.routine x e.at) named (calls_by scope n i.node e c));
    }

pub called_from : (scope : Scope) (from n : Node) (i : IsRoutineNode scope from) → Reached (routines scope) from n → IsCalledFrom scope i.routine n
called_from scope from _ i at_start = record { node = i; leads = calling.itself }
called_from scope from _ i (one_on n m e r c h) = calls_on scope i.routine n m e (called_from scope from n i r) c h
