-- Why there is no actor of a class in some files.
use Rattle.std.proofs.Common.{◌≡◌, ◌⊎◌, inl, inr, ℕ, zero, suc, ◌<◌, Bool, true, false, ◌||◌, List, [], ◌∷◌, ◌++◌, map, refl, sym, ap, subst, ◌∙◌, arith}
use Rattle.std.proofs.lemmas.Slice.Eq.{bytes_eq-Decides}
use Rattle.std.specs.Prelude.{Option, None, Some, Contains, option_map, if◌then◌else◌}
use Rattle.std.specs.Str.{bytes_eq}
use Rattle.rvc_base.specs.declared.refusal.Rule.{Rule}
use Rattle.rvc_base.specs.Rules.{import_cycle, import_not_found, not_as_asked, recursion, unknown_name}
use Rattle.cal_ast.specs.Tree as tree
use Rattle.cal_ast.specs.Tree.{Tree, listed}
use Rattle.cal_model.specs.Kinding.{Judged, Fine, Broken, and_so}
use Rattle.cal_scope.specs.Asked.{outermost}
use Rattle.cal_scope.specs.Expressions.{optional_resolved, type_resolved}
use Rattle.cal_scope.specs.Members.{members_resolved, ports_of}
use Rattle.cal_scope.specs.Names.{Global, Names, global_named, is_among}
use Rattle.cal_imports.specs.Answer.{Answer, Gives, Refuses, and_then, in_file}
use Rattle.cal_imports.specs.Brought.{asked_brought, brought_beside, import_brought, imports_brought, names_declared, names_seen, same_brought, unit_brought, with_all_brought, with_brought, with_last_brought, with_seen}
use Rattle.cal_imports.specs.OneFile.{body_resolved, header_resolved, param_resolved, params_resolved, port_resolved, source_resolved}
use Rattle.cal_imports.specs.Recursion.{above_all, call_graph, call_order, edge_to, routines, without_recursion}
use Rattle.cal_imports.specs.Resolved.{resolved, resolved_source}
use Rattle.cal_imports.specs.Sources.{Source, as_asked, body_of, dot, dotted, imports_of, is_as_asked, source_named}
use Rattle.cal_imports.specs.Walk.{Edge, Node}
use Rattle.cal_imports.specs.Whole.{Gathered, Scope, actor_gathered, file_graph, file_node, import_order, members_of, scope_of, source_gathered, unit_gathered, units_gathered, with_declarations}
use Rattle.law_imports.specs.Calling.{AreNamed, Calls, CallsInCircle}
use Rattle.law_imports.specs.Leading.{Imports, ImportsAt, ImportsInCircle, ImportsNoFile, LeadTo, listed_in}
use Rattle.law_imports.specs.Leading as leading
use Rattle.law_imports.specs.Refusing.{CircleOfCallsIsOne, CircleOfImportsIsOne, MissingIsMissing}
use Rattle.law_imports.proofs.ByNames.{ByNames, IsOfNames, actor_names_by, all_declared_by, is_other, is_twice, is_unknown, members_by, optional_by, shape_by, so_by}
use Rattle.law_imports.proofs.CalledIn.{first, later}
use Rattle.law_imports.proofs.Nodes.{IsLedTo, calls_by, called_from, file_found, file_named, first_of_name, imports_by, led_to, no_file, routine_at, routine_found}
use Rattle.law_imports.proofs.Stopping.{IsBack, IsMissing, IsStop, LeadsToFirst, Reached, is_back, is_missing, at_start, named_is, one_on, order_reached, order_rule, order_stops}

-- ---- answers

pub data WhyRefused {A B : Type 0} (o : Answer A) (f : A → Answer B) (rule : Rule) (file at : ℕ) : Type 0 where
  at_once : o ≡ Refuses rule file at → WhyRefused o f rule file at
  behind : (x : A) → o ≡ Gives x → f x ≡ Refuses rule file at → WhyRefused o f rule file at

why_refused : {A B : Type 0} (o : Answer A) (f : A → Answer B) (rule : Rule) (file at : ℕ) → and_then o f ≡ Refuses rule file at → WhyRefused o f rule file at
why_refused (Gives x) f rule file at h = behind x refl h
why_refused (Refuses r g p) f rule file at h = at_once (same h)
  where
    same : {C D : Type 0} → ◌≡◌ {A = Answer D} (Refuses r g p) (Refuses rule file at) → ◌≡◌ {A = Answer C} (Refuses r g p) (Refuses rule file at)
    same e = cc

-- ---- why there is nothing gathered

pub data WhyNot (files : List Source) (top : Source) (rule : Rule) (file at : ℕ) : Type 0 where
  by_names : IsOfNames rule → WhyNot files top rule file at
  by_missing : rule ≡ import_not_found → ImportsNoFile files top file at → WhyNot files top rule file at
  by_circle : rule ≡ import_cycle → ImportsInCircle files top file at → WhyNot files top rule file at

abbrev Why : {A : Type 0} → List Source → Source → Answer A → Type 0
Why files top (Gives x) = Unit {0}
Why files top (Refuses rule file at) = WhyNot files top rule file at

then_why : {A B : Type 0} (files : List Source) (top : Source) (o : Answer A) (f : A → Answer B) → Why files top o → ((x : A) → o ≡ Gives x → Why files top (f x))
    → Why files top (and_then o f)
then_why files top (Gives x) f h k = k x refl
then_why files top (Refuses rule file at) f h k = h

in_file_why : {A : Type 0} (files : List Source) (top : Source) (file : ℕ) (j : Judged A) → ByNames j → Why files top (in_file file j)
in_file_why files top file (Fine x) h = tt
in_file_why files top file (Broken rule at) h = by_names h

-- ---- what imports bring

brought_by : (g : Global) (at : ℕ) (here : List Global) → ByNames (with_brought g at here)
brought_by g at here = go (same_brought g here)
  where
    go : (o : Option Bool) → ByNames (brought_beside o g at here)
    go None = tt
    go (Some true) = tt
    go (Some false) = is_twice refl

all_brought_by : (gs : List Global) (at : ℕ) (here : List Global) → ByNames (with_all_brought gs at here)
all_brought_by [] at here = tt
all_brought_by (g ∷ gs) at here = so_by (with_brought g at here) (λ next. with_all_brought gs at next) (brought_by g at here) (λ next. all_brought_by gs at next)

last_brought_by : (last : Tree) (unit : List Global) (at : ℕ) (here : List Global) → ByNames (with_last_brought last unit at here)
last_brought_by (tree.present (tree.ident name place)) unit at here = go (global_named name unit)
  where
    go : (o : Option Global) → ByNames (asked_brought o place at here)
    go None = is_unknown refl
    go (Some g) = brought_by g at here
last_brought_by other unit at here = all_brought_by unit at here

names_declared_by : (class : List ℕ) (body : Tree) → ByNames (names_declared class body)
names_declared_by class (tree.unit name members at) = all_declared_by (class ++ dot ∷ []) members []
names_declared_by class (tree.actor name params ins outs members at) = actor_names_by params members
names_declared_by class other = tt

-- a file to which imports lead from the top
abbrev IsLed : List Source → Source → Source → Type 0
IsLed files top s = LeadTo files top s

unit_why : (files : List Source) (top s : Source) (path last : Tree) (at : ℕ) (here : List Global) (found : Option Source) → IsLed files top s
    → Contains (listed_in (imports_of s.tree)) (tree.import_part path last at) → source_named (dotted path) files ≡ found
    → Why files top (unit_brought found s.file last at here)
unit_why files top s path last at here None led c e = by_missing refl (record {
  class = dotted path;
  here = record {
    source = s;
    is_led_to = led;
    is_file = refl;
    imports = record { path = path; last = last; is_import = c; is_path = refl };
  };
  missing = e;
})
unit_why files top s path last at here (Some t) led c e =
    then_why files top (in_file t.file (names_declared t.name (body_of t.tree))) (λ unit. in_file s.file (with_last_brought last unit at here))
    (in_file_why files top t.file (names_declared t.name (body_of t.tree)) (names_declared_by t.name (body_of t.tree)))
    (λ unit f. in_file_why files top s.file (with_last_brought last unit at here) (last_brought_by last unit at here))

import_why : (files : List Source) (top s : Source) (i : Tree) (here : List Global) → IsLed files top s → Contains (listed_in (imports_of s.tree)) i
    → Why files top (import_brought files s.file i here)
import_why files top s (tree.import_part path last at) here led c = unit_why files top s path last at here (source_named (dotted path) files) led c refl
import_why files top s other here led c = tt

imports_why : (files : List Source) (top s : Source) (is : Tree) (here : List Global) → IsLed files top s
    → ((i : Tree) → Contains (listed_in is) i → Contains (listed_in (imports_of s.tree)) i) → Why files top (imports_brought files s.file is here)
imports_why files top s (tree.cons i is) here led all =
    then_why files top (import_brought files s.file i here) (λ next. imports_brought files s.file is next)
    (import_why files top s i here led (all i (first i (listed_in is))))
    (λ next e. imports_why files top s is next led (λ j c. all j (later j i (listed_in is) c)))
imports_why files top s other here led all = tt

seen_why : (files : List Source) (top s : Source) → IsLed files top s → Why files top (names_seen files s)
seen_why files top s led =
    then_why files top (in_file s.file (names_declared s.name (body_of s.tree)))
    (λ own. and_then (imports_brought files s.file (imports_of s.tree) []) (λ brought. Gives (with_seen brought own)))
    (in_file_why files top s.file (names_declared s.name (body_of s.tree)) (names_declared_by s.name (body_of s.tree)))
    (λ own e. then_why files top (imports_brought files s.file (imports_of s.tree) []) (λ brought. Gives (with_seen brought own))
    (imports_why files top s (imports_of s.tree) [] led (λ i c. c)) (λ brought f. tt))

-- ---- one file

param_by : (p : Tree) (names : Names) → ByNames (param_resolved p names)
param_by (tree.param shape name start at) names =
    so_by (type_resolved shape names) (λ t. and_so (optional_resolved start names) (λ e. Fine (tree.param t name e at))) (shape_by shape names)
    (λ t. so_by (optional_resolved start names) (λ e. Fine (tree.param t name e at)) (optional_by start names) (λ e. tt))
param_by other names = is_unknown refl

params_by : (ps : Tree) (names : Names) → ByNames (params_resolved ps names)
params_by tree.nil names = tt
params_by (tree.cons p ps) names =
    so_by (param_resolved p names) (λ r. and_so (params_resolved ps names) (λ rs. Fine (r ∷ rs))) (param_by p names)
    (λ r. so_by (params_resolved ps names) (λ rs. Fine (r ∷ rs)) (params_by ps names) (λ rs. tt))
params_by other names = is_unknown refl

port_by : (p : Tree) (names : Names) → ByNames (port_resolved p names)
port_by (tree.port shape name at) names = so_by (type_resolved shape names) (λ t. Fine (tree.port t name at)) (shape_by shape names) (λ t. tt)
port_by other names = is_unknown refl

header_by : (ps : Tree) (names : Names) → ByNames (header_resolved ps names)
header_by tree.nil names = tt
header_by (tree.cons p ps) names =
    so_by (port_resolved p names) (λ r. and_so (header_resolved ps names) (λ rs. Fine (r ∷ rs))) (port_by p names)
    (λ r. so_by (header_resolved ps names) (λ rs. Fine (r ∷ rs)) (header_by ps names) (λ rs. tt))
header_by other names = is_unknown refl

body_by : (body : Tree) (seen : List Global) → ByNames (body_resolved body seen)
body_by (tree.actor name params ins outs members at) seen =
    so_by (params_resolved params (outermost seen)) (λ ps. and_so (header_resolved ins (outermost seen)) (λ is. and_so (header_resolved outs (outermost seen)) (λ os.
    and_so (members_resolved members (ports_of ins outs) (outermost seen)) (λ ms. Fine (tree.actor name (listed ps) (listed is) (listed os) (listed ms) at)))))
    (params_by params (outermost seen))
    (λ ps. so_by (header_resolved ins (outermost seen)) (λ is. and_so (header_resolved outs (outermost seen)) (λ os.
    and_so (members_resolved members (ports_of ins outs) (outermost seen)) (λ ms. Fine (tree.actor name (listed ps) (listed is) (listed os) (listed ms) at))))
    (header_by ins (outermost seen))
    (λ is. so_by (header_resolved outs (outermost seen)) (λ os.
    and_so (members_resolved members (ports_of ins outs) (outermost seen)) (λ ms. Fine (tree.actor name (listed ps) (listed is) (listed os) (listed ms) at)))
    (header_by outs (outermost seen))
    (λ os. so_by (members_resolved members (ports_of ins outs) (outermost seen)) (λ ms. Fine (tree.actor name (listed ps) (listed is) (listed os) (listed ms) at))
    (members_by members (ports_of ins outs) (outermost seen)) (λ ms. tt))))
body_by (tree.unit name members at) seen =
    so_by (members_resolved members (ports_of tree.nil tree.nil) (outermost seen)) (λ ms. Fine (tree.unit name (listed ms) at))
    (members_by members (ports_of tree.nil tree.nil) (outermost seen)) (λ ms. tt)
body_by other seen = is_unknown refl

source_why : (files : List Source) (top s : Source) → IsLed files top s → Why files top (source_resolved files s)
source_why files top s led =
    then_why files top (names_seen files s) (λ seen. in_file s.file (body_resolved (body_of s.tree) seen)) (seen_why files top s led)
    (λ seen e. in_file_why files top s.file (body_resolved (body_of s.tree) seen) (body_by (body_of s.tree) seen))

-- ---- all files

asked_why : (files : List Source) (top s : Source) (unit : Bool) → Why files top (as_asked unit s)
asked_why files top s unit = go (is_as_asked unit s)
  where
    go : (b : Bool) → Why {A = Unit {0}} files top (if b then Gives tt else Refuses not_as_asked s.file 0)
    go true = tt
    go false = by_names (is_other refl)

gathered_why : (files : List Source) (top s : Source) (g : Gathered) → IsLed files top s → Why files top (source_gathered files s g)
gathered_why files top s g led =
    then_why files top (as_asked true s) (λ u. and_then (source_resolved files s) (λ body. Gives (with_declarations s.name s.file (members_of body) g))) (asked_why files top s true)
    (λ u e. then_why files top (source_resolved files s) (λ body. Gives (with_declarations s.name s.file (members_of body) g)) (source_why files top s led) (λ body f. tt))

unit_gathered_why : (files : List Source) (top : Source) (found : Option Source) (g : Gathered) → ((s : Source) → found ≡ Some s → IsLed files top s)
    → Why files top (unit_gathered files found g)
unit_gathered_why files top None g led = tt
unit_gathered_why files top (Some s) g led = gathered_why files top s g (led s refl)

units_why : (files : List Source) (top : Source) (names : List (List ℕ)) (g : Gathered) → ((x : List ℕ) (s : Source) → is_among x names ≡ true → source_named x files ≡ Some s → IsLed files top s)
    → Why files top (units_gathered files names g)
units_why files top [] g led = tt
units_why files top (name ∷ names) g led =
    then_why files top (unit_gathered files (source_named name files) g) (λ next. units_gathered files names next)
    (unit_gathered_why files top (source_named name files) g (λ s e. led name s (here name names) e))
    (λ next e. units_why files top names next (λ x s c f. led x s (there x name names c) f))
  where
    here : (x : List ℕ) (xs : List (List ℕ)) → is_among x (x ∷ xs) ≡ true
    here x xs = ap (λ b. b || is_among x xs) ((bytes_eq-Decides x x).1 refl)

    there : (x y : List ℕ) (xs : List (List ℕ)) → is_among x xs ≡ true → is_among x (y ∷ xs) ≡ true
    there x y xs c = go (bytes_eq x y)
      where
        go : (b : Bool) → (b || is_among x xs) ≡ true
        go true = refl
        go false = c

scope_why : (files : List Source) (top : Source) (class : List ℕ) (file : ℕ) (g : Gathered) (body : Tree) → Why files top (scope_of class file g body)
scope_why files top class file g (tree.actor name params ins outs members at) = tt
scope_why files top class file g other = by_names (is_other refl)

-- ---- the order of imports

top_is_first : (files : List Source) (top : Source) → source_named top.name files ≡ Some top → LeadsToFirst (file_graph files) (file_node top)
top_is_first files top h n e r c named = file_named top.name files ∙ ap (option_map file_node) h

abbrev import_at : (files : List Source) (top : Source) (n : Node) (e : Edge) (file at : ℕ) (i : IsLedTo files top n) → Contains n.edges e → n.file ≡ file → e.at ≡ at
    → ImportsAt files top file at e.to
import_at files top n e file at i c same place = record {
  source = i.source;
  is_led_to = i.leads;
  is_file = sym (ap (λ k. k.file) i.is_node) ∙ same;
  imports = subst (Imports i.source e.to) place (imports_by i.source e (subst (λ k. Contains k.edges e) i.is_node c));
}

missing_import : (files : List Source) (top : Source) (file at : ℕ) → source_named top.name files ≡ Some top → IsMissing (file_graph files) (file_node top) file at
    → ImportsNoFile files top file at
missing_import files top file at h m = record {
  class = m.edge.to;
  here = import_at files top m.node m.edge file at (led_to files top m.node h m.reached) m.is_edge m.is_file m.is_at;
  missing = no_file m.edge.to files m.missing;
}

-- a file is the first of its name, so two that have one node are one
same_source : (files : List Source) (s t : Source) → file_node s ≡ file_node t → source_named s.name files ≡ Some s → source_named t.name files ≡ Some t → s ≡ t
same_source files s t e h k =
    let named : s.name ≡ t.name = ap (λ n. n.name) e in
    some_same (sym h ∙ ap (λ x. source_named x files) named ∙ k)
  where
    some_same : Some s ≡ Some t → s ≡ t
    some_same f = cc

circle_import : (files : List Source) (top : Source) (file at : ℕ) → source_named top.name files ≡ Some top → IsBack (file_graph files) (file_node top) file at
    → ImportsInCircle files top file at
circle_import files top file at h m =
    let (t, found, is_node) = file_found m.edge.to files m.target m.is_target in
    let i = led_to files top m.node h m.reached in
    let j = led_to files t m.node (first_of_name m.edge.to files t found) (subst (λ k. Reached (file_graph files).nodes k m.node) is_node m.back) in
    record {
      class = m.edge.to;
      here = import_at files top m.node m.edge file at i m.is_edge m.is_file m.is_at;
      target = t;
      is_target = found;
      back = subst (LeadTo files t) (same_source files j.source i.source (sym j.is_node ∙ i.is_node) j.is_first i.is_first) j.leads;
    }

order_why : (files : List Source) (top : Source) → source_named top.name files ≡ Some top → Why files top (import_order files top)
order_why files top h = go (import_order files top) refl
  where
    why : (rule : Rule) (file at : ℕ) → IsStop (file_graph files) (file_node top) rule file at → WhyNot files top rule file at
    why rule file at (is_missing same m) = by_missing same (missing_import files top file at h m)
    why rule file at (is_back same m) = by_circle same (circle_import files top file at h m)

    go : (a : Answer (List (List ℕ))) → import_order files top ≡ a → Why files top a
    go (Gives order) e = tt
    go (Refuses rule file at) e = why rule file at (order_stops (file_graph files) (file_node top) rule file at (top_is_first files top h) e)

-- the classes in the order of imports are those of files that are led to
order_led : (files : List Source) (top : Source) (names : List (List ℕ)) → source_named top.name files ≡ Some top → import_order files top ≡ Gives names
    → (x : List ℕ) (s : Source) → is_among x names ≡ true → source_named x files ≡ Some s → LeadTo files top s
order_led files top names h e x s c found =
    let r = order_reached (file_graph files) (file_node top) names (top_is_first files top h) e x c in
    let i = led_to files top r.node h r.reached in
    let node : file_node s ≡ r.node = some_same s r.node (sym (file_named x files ∙ ap (option_map file_node) found) ∙ r.is_node) in
    subst (LeadTo files top) (same_source files i.source s (sym i.is_node ∙ sym node) i.is_first (first_of_name x files s found)) i.leads
  where
    some_same : (s : Source) (n : Node) → Some (file_node s) ≡ Some n → file_node s ≡ n
    some_same s n f = cc

actor_why : (files : List Source) (top : Source) → source_named top.name files ≡ Some top → Why files top (actor_gathered files top)
actor_why files top h =
    then_why files top (as_asked false top)
    (λ a. and_then (import_order files top) (λ names. and_then (units_gathered files names (record { vars = []; funs = [] })) (λ g.
    and_then (source_resolved files top) (λ body. scope_of top.name top.file g body))))
    (asked_why files top top false)
    (λ a e. then_why files top (import_order files top) (λ names. and_then (units_gathered files names (record { vars = []; funs = [] })) (λ g.
    and_then (source_resolved files top) (λ body. scope_of top.name top.file g body)))
    (order_why files top h)
    (λ names f. then_why files top (units_gathered files names (record { vars = []; funs = [] })) (λ g.
    and_then (source_resolved files top) (λ body. scope_of top.name top.file g body))
    (units_why files top names (record { vars = []; funs = [] }) (order_led files top names h f))
    (λ g i. then_why files top (source_resolved files top) (λ body. scope_of top.name top.file g body)
    (source_why files top top leading.itself)
    (λ body j. scope_why files top top.name top.file g body))))

-- ---- rules

other_rule : (a b : ℕ) (P : Type 0) → (a < b) ⊎ (b < a) → ◌≡◌ {A = Rule} (record { 0 = a }) (record { 0 = b }) → P
other_rule a b P d e = let same : a ≡ b = ap (λ r. r.0) e in absurd (differ d same)
  where
    differ : (a < b) ⊎ (b < a) → a ≡ b → ⊥
    differ (inl h) s = omega arith
    differ (inr h) s = omega arith

-- ---- calls

-- calls begin above all routines
abbrev above : Scope → Node
above scope = record { name = []; file = scope.file; edges = map edge_to (routines scope) }

edge_among : (ns : List Node) (e : Edge) → Contains (map edge_to ns) e → (n : Node) × Contains ns n × (edge_to n ≡ e)
edge_among [] e (k, h, f) = let none : k < 0 = h in absurd (omega arith)
edge_among (n ∷ ns) e (zero, h, f) = (n, first n ns, f)
edge_among (n ∷ ns) e (suc k, h, f) =
    let (m, c, g) = edge_among ns e (k, omega arith, f) in
    (m, later m n ns c, g)

none_unnamed : (scope : Scope) → AreNamed scope → LeadsToFirst (call_graph (routines scope)) (above scope)
none_unnamed scope named _ e at_start c same =
    let (n, here, is) = edge_among (routines scope) e c in
    let i = routine_at scope n here in
    absurd ((named i.routine i.is).0 (i.name ∙ ap (λ d. d.to) is ∙ same))
none_unnamed scope named _ e (one_on n m d r edge h) c same =
    let i = routine_found scope d.to m h in
    absurd ((named i.routine i.is).1 e.at (subst (λ x. Calls i.routine x e.at) same (calls_by scope m i e c)))

circle_call : (scope : Scope) (file at : ℕ) → IsBack (call_graph (routines scope)) (above scope) file at → CallsInCircle scope file at
circle_call scope file at m =
    let i = routine_found scope m.edge.to m.target m.is_target in
    let j = called_from scope m.target m.node i m.back in
    let named : m.edge.to ≡ i.routine.name = sym (named_is m.edge.to (routines scope) m.target m.is_target) ∙ sym i.name in
    record {
      caller = j.node.routine;
      callee = i.routine;
      is_caller = j.node.is;
      is_callee = i.is;
      is_file = j.node.file ∙ m.is_file;
      call = subst (λ p. Calls j.node.routine i.routine.name p) m.is_at
          (subst (λ x. Calls j.node.routine x m.edge.at) named (calls_by scope m.node j.node m.edge m.is_edge));
      back = j.leads;
    }

calls_circle : (scope : Scope) (file at : ℕ) → call_order scope.file (routines scope) ≡ Refuses recursion file at → AreNamed scope → CallsInCircle scope file at
calls_circle scope file at h named = go (order_stops (call_graph (routines scope)) (above scope) recursion file at (none_unnamed scope named) h)
  where
    go : IsStop (call_graph (routines scope)) (above scope) recursion file at → CallsInCircle scope file at
    go (is_missing same m) = other_rule 304 301 _ (inr (omega arith)) same
    go (is_back same m) = circle_call scope file at m

-- ---- actors of classes

data Refusal (files : List Source) (class : List ℕ) (rule : Rule) (file at : ℕ) : Type 0 where
  no_top : source_named class files ≡ None → rule ≡ import_not_found → Refusal files class rule file at
  in_files : (top : Source) → source_named class files ≡ Some top → WhyNot files top rule file at → Refusal files class rule file at
  in_calls : (top : Source) (scope : Scope) → source_named class files ≡ Some top → actor_gathered files top ≡ Gives scope
      → call_order scope.file (routines scope) ≡ Refuses rule file at → (rule ≡ unknown_name) ⊎ (rule ≡ recursion) → Refusal files class rule file at

calls_refuse : (scope : Scope) (rule : Rule) (file at : ℕ) → without_recursion scope ≡ Refuses rule file at → call_order scope.file (routines scope) ≡ Refuses rule file at
calls_refuse scope rule file at h = go (why_refused (call_order scope.file (routines scope)) (λ x. Gives scope) rule file at h)
  where
    go : WhyRefused (call_order scope.file (routines scope)) (λ x. Gives scope) rule file at → call_order scope.file (routines scope) ≡ Refuses rule file at
    go (at_once e) = e
    go (behind x e f) = absurd cc

top_refusal : (files : List Source) (class : List ℕ) (top : Source) (rule : Rule) (file at : ℕ) → source_named class files ≡ Some top
    → WhyRefused (actor_gathered files top) (λ scope. without_recursion scope) rule file at → Refusal files class rule file at
top_refusal files class top rule file at h (at_once e) = in_files top h (subst (Why files top) e (actor_why files top (first_of_name class files top h)))
top_refusal files class top rule file at h (behind scope e f) =
    let order = calls_refuse scope rule file at f in
    in_calls top scope h e order (order_rule (call_graph (routines scope)) (above_all scope.file (routines scope)) rule file at order)

refusal : (files : List Source) (class : List ℕ) (rule : Rule) (file at : ℕ) → resolved files class ≡ Refuses rule file at → Refusal files class rule file at
refusal files class rule file at h = go (source_named class files) refl h
  where
    same_rule : ◌≡◌ {A = Answer Scope} (Refuses import_not_found 0 0) (Refuses rule file at) → rule ≡ import_not_found
    same_rule e = cc

    go : (o : Option Source) → source_named class files ≡ o → resolved_source files o ≡ Refuses rule file at → Refusal files class rule file at
    go None e f = no_top e (same_rule f)
    go (Some top) e f = top_refusal files class top rule file at e (why_refused (actor_gathered files top) (λ scope. without_recursion scope) rule file at f)

-- ---- the laws

no_name_rule : (n : ℕ) (P : Type 0) → (n ≡ 303) ⊎ ((n ≡ 304) ⊎ (n ≡ 306)) → IsOfNames (record { 0 = n }) → P
no_name_rule n P d i = absurd (go d (number i))
  where
    number : IsOfNames (record { 0 = n }) → (n ≡ 301) ⊎ ((n ≡ 302) ⊎ (n ≡ 305))
    number (is_unknown e) = inl (ap (λ r. r.0) e)
    number (is_twice e) = inr (inl (ap (λ r. r.0) e))
    number (is_other e) = inr (inr (ap (λ r. r.0) e))

    go : (n ≡ 303) ⊎ ((n ≡ 304) ⊎ (n ≡ 306)) → (n ≡ 301) ⊎ ((n ≡ 302) ⊎ (n ≡ 305)) → ⊥
    go (inl a) (inl b) = omega arith
    go (inl a) (inr (inl b)) = omega arith
    go (inl a) (inr (inr b)) = omega arith
    go (inr (inl a)) (inl b) = omega arith
    go (inr (inl a)) (inr (inl b)) = omega arith
    go (inr (inl a)) (inr (inr b)) = omega arith
    go (inr (inr a)) (inl b) = omega arith
    go (inr (inr a)) (inr (inl b)) = omega arith
    go (inr (inr a)) (inr (inr b)) = omega arith

pub missing_is_missing : MissingIsMissing
missing_is_missing files class file at h = go (refusal files class import_not_found file at h)
  where
    in_file_set : (top : Source) → source_named class files ≡ Some top → WhyNot files top import_not_found file at
        → (source_named class files ≡ None) ⊎ ((t : Source) × (source_named class files ≡ Some t) × ImportsNoFile files t file at)
    in_file_set top e (by_names i) = no_name_rule 303 _ (inl refl) i
    in_file_set top e (by_missing same m) = inr (top, e, m)
    in_file_set top e (by_circle same m) = other_rule 303 306 _ (inl (omega arith)) same

    go : Refusal files class import_not_found file at → (source_named class files ≡ None) ⊎ ((t : Source) × (source_named class files ≡ Some t) × ImportsNoFile files t file at)
    go (no_top e same) = inl e
    go (in_files top e why) = in_file_set top e why
    go (in_calls top scope e f g (inl same)) = other_rule 303 301 _ (inr (omega arith)) same
    go (in_calls top scope e f g (inr same)) = other_rule 303 304 _ (inl (omega arith)) same

pub circle_of_imports : CircleOfImportsIsOne
circle_of_imports files class file at h = go (refusal files class import_cycle file at h)
  where
    in_file_set : (top : Source) → source_named class files ≡ Some top → WhyNot files top import_cycle file at
        → (t : Source) × (source_named class files ≡ Some t) × ImportsInCircle files t file at
    in_file_set top e (by_names i) = no_name_rule 306 _ (inr (inr refl)) i
    in_file_set top e (by_missing same m) = other_rule 306 303 _ (inr (omega arith)) same
    in_file_set top e (by_circle same m) = (top, e, m)

    go : Refusal files class import_cycle file at → (t : Source) × (source_named class files ≡ Some t) × ImportsInCircle files t file at
    go (no_top e same) = other_rule 306 303 _ (inr (omega arith)) same
    go (in_files top e why) = in_file_set top e why
    go (in_calls top scope e f g (inl same)) = other_rule 306 301 _ (inr (omega arith)) same
    go (in_calls top scope e f g (inr same)) = other_rule 306 304 _ (inr (omega arith)) same

pub circle_of_calls : CircleOfCallsIsOne
circle_of_calls files class file at h = go (refusal files class recursion file at h)
  where
    Circle : Type 0
    Circle = (top : Source) × (scope : Scope) × (source_named class files ≡ Some top) × (actor_gathered files top ≡ Gives scope) × (AreNamed scope → CallsInCircle scope file at)

    in_file_set : (top : Source) → WhyNot files top recursion file at → Circle
    in_file_set top (by_names i) = no_name_rule 304 _ (inr (inl refl)) i
    in_file_set top (by_missing same m) = other_rule 304 303 _ (inr (omega arith)) same
    in_file_set top (by_circle same m) = other_rule 304 306 _ (inl (omega arith)) same

    go : Refusal files class recursion file at → Circle
    go (no_top e same) = other_rule 304 303 _ (inr (omega arith)) same
    go (in_files top e why) = in_file_set top why
    go (in_calls top scope e f g same) = (top, scope, e, f, calls_circle scope file at g)
