-- Which actors are sound: their names, kinds, sizes and numbers are those that the rules of the language ask for.
-- Trusted: part of what a promise means.
use Rattle.std.specs.Prelude.{◌≡◌, ◌≢◌, ℕ, ◌+◌, ◌<◌, ◌≤◌, true, false, List, [], ◌∷◌, ◌++◌, map, length, Contains, if◌then◌else◌, Option, None, Some, slice_get}
use Rattle.rvc_base.specs.declared.scalar.Scalar.{Scalar}
use Rattle.rvc_base.specs.Storing.{IsSize}
use Rattle.cal_ast.specs.declared.expr.PrefixOp.TheVariants.{Neg}
use Rattle.cal_ast.specs.declared.expr.BinOp.TheVariants.{Sub}
use Rattle.cal_ast.specs.Places.{begins}
use Rattle.cal_ast.specs.Tree as tree
use Rattle.cal_ast.specs.Tree.{Tree}
use Rattle.cal_model.specs.Value.{Kind, NumKind, BoolKind, ListKind, Shape, Single, kind_of_scalar, kind_of_type, scalars_of_type, IsOf, IsType}
use Rattle.cal_model.specs.Actor.{Held, Local, Fun, Proc, Pattern, Output, Action, Move, Actor}
use Rattle.cal_model.specs.Rates.{need, give}
use Rattle.cal_model.specs.Selection.{Above, kind_of_port}
use Rattle.cal_model.specs.Statement.{proc_named}
use Rattle.cal_model.specs.Kinding.{Judged, Fine, Known, Names, known_as, meant_by, with_known, with_counters, counter, kind, kinds, arguments_fit, type_judged, counts}

-- ---- limits

abbrev pub max_actions : ℕ
max_actions = 256

abbrev pub max_states : ℕ
max_states = 1024

-- of one direction
abbrev pub max_ports : ℕ
max_ports = 32

-- that an action takes from a port or gives on one
abbrev pub max_rate : ℕ
max_rate = 4096

-- of all variables of an actor
abbrev pub max_variable_scalars : ℕ
max_variable_scalars = 65536

-- ---- lists

abbrev pub Each : {A : Type 0} → (A → Type 0) → List A → Type 0
Each P [] = Unit {0}
Each P (x ∷ xs) = P x × Each P xs

-- no element stands twice
abbrev pub AreDistinct : {A : Type 0} → List A → Type 0
AreDistinct [] = Unit {0}
AreDistinct (x ∷ xs) = ¬ Contains xs x × AreDistinct xs

-- ---- numbers that are written out

-- an expression of numbers and `-` alone: parentheses, and `-` before one part or between two
abbrev pub IsWrittenOut : Tree → Type 0
IsWrittenOut (tree.number n at) = Unit {0}
IsWrittenOut (tree.paren e at) = IsWrittenOut e
IsWrittenOut (tree.prefix Neg e at) = IsWrittenOut e
IsWrittenOut (tree.binary Sub l r at) = IsWrittenOut l × IsWrittenOut r
IsWrittenOut other = ⊥

-- each size of a type and each bound of a comprehension, in what an expression or a statement is made of
abbrev pub IsPlain : Tree → Type 0
IsPlain (tree.cons t ts) = IsPlain t × IsPlain ts
IsPlain (tree.present t) = IsPlain t
IsPlain (tree.call name args at) = IsPlain args
IsPlain (tree.paren e at) = IsPlain e
IsPlain (tree.if_expr test first other at) = IsPlain test × IsPlain first × IsPlain other
IsPlain (tree.list items at) = IsPlain items
IsPlain (tree.comp item gens at) = IsPlain item × IsPlain gens
IsPlain (tree.gen shape name from to at) = IsPlain shape × IsWrittenOut from × IsWrittenOut to
IsPlain (tree.index base place at) = IsPlain base × IsPlain place
IsPlain (tree.prefix op e at) = IsPlain e
IsPlain (tree.binary op l r at) = IsPlain l × IsPlain r
IsPlain (tree.type_of name args at) = IsPlain args
IsPlain (tree.shape_arg name shape) = IsPlain shape
IsPlain (tree.value_arg name value) = IsWrittenOut value
IsPlain (tree.assign name places value at) = IsPlain places × IsPlain value
IsPlain (tree.call_stmt name args at) = IsPlain args
IsPlain (tree.if_stmt test first other at) = IsPlain test × IsPlain first × IsPlain other
IsPlain (tree.while_stmt test body at) = IsPlain test × IsPlain body
IsPlain (tree.foreach_stmt shape name from to body at) = IsPlain shape × IsPlain from × IsPlain to
    × IsPlain body
IsPlain (tree.block vars body at) = IsPlain vars × IsPlain body
IsPlain (tree.var shape name start changes at) = IsPlain shape × IsPlain start
IsPlain other = Unit {0}

-- ---- calls

-- the names of all functions that an expression or a statement calls, and of all procedures, are such
abbrev pub EachCall : (P Q : List ℕ → Type 0) → Tree → Type 0
EachCall P Q (tree.cons t ts) = EachCall P Q t × EachCall P Q ts
EachCall P Q (tree.present t) = EachCall P Q t
EachCall P Q (tree.call name args at) = P name × EachCall P Q args
EachCall P Q (tree.paren e at) = EachCall P Q e
EachCall P Q (tree.if_expr test first other at) = EachCall P Q test × EachCall P Q first
    × EachCall P Q other
EachCall P Q (tree.list items at) = EachCall P Q items
EachCall P Q (tree.comp item gens at) = EachCall P Q item × EachCall P Q gens
EachCall P Q (tree.gen shape name from to at) = EachCall P Q shape × EachCall P Q from
    × EachCall P Q to
EachCall P Q (tree.index base place at) = EachCall P Q base × EachCall P Q place
EachCall P Q (tree.prefix op e at) = EachCall P Q e
EachCall P Q (tree.binary op l r at) = EachCall P Q l × EachCall P Q r
EachCall P Q (tree.type_of name args at) = EachCall P Q args
EachCall P Q (tree.shape_arg name shape) = EachCall P Q shape
EachCall P Q (tree.value_arg name value) = EachCall P Q value
EachCall P Q (tree.assign name places value at) = EachCall P Q places × EachCall P Q value
EachCall P Q (tree.call_stmt (tree.ident name place) args at) = Q name × EachCall P Q args
EachCall P Q (tree.if_stmt test first other at) = EachCall P Q test × EachCall P Q first
    × EachCall P Q other
EachCall P Q (tree.while_stmt test body at) = EachCall P Q test × EachCall P Q body
EachCall P Q (tree.foreach_stmt shape name from to body at) = EachCall P Q shape × EachCall P Q from
    × EachCall P Q to × EachCall P Q body
EachCall P Q (tree.block vars body at) = EachCall P Q vars × EachCall P Q body
EachCall P Q (tree.var shape name start changes at) = EachCall P Q shape × EachCall P Q start
EachCall P Q other = Unit {0}

abbrev pub StartCalls : (P Q : List ℕ → Type 0) → Local → Type 0
StartCalls P Q x = elim x.start [ None ↦ Unit {0} | Some e ↦ EachCall P Q e ]

-- a function or a procedure calls only those of lower ranks
pub record FunCallsBelow (rank : List ℕ → ℕ) (f : Fun) : Type 0 where
  pub locals : Each (StartCalls (λ name. rank name < rank f.name) (λ name. ⊥)) f.locals
  pub body : EachCall (λ name. rank name < rank f.name) (λ name. ⊥) f.body

pub record ProcCallsBelow (rank : List ℕ → ℕ) (p : Proc) : Type 0 where
  pub body : EachCall (λ name. Unit {0}) (λ name. rank name < rank p.name) p.body

-- None calls itself, directly or indirectly: they have ranks, as many as there are functions or procedures, and
-- each calls only those of lower ranks.
pub record FunsNeverReturn (funs : List Fun) : Type 0 where
  pub rank : List ℕ → ℕ
  pub in_range : Each (λ f. rank f.name < length funs) funs
  pub calls : Each (FunCallsBelow rank) funs

pub record ProcsNeverReturn (procs : List Proc) : Type 0 where
  pub rank : List ℕ → ℕ
  pub in_range : Each (λ p. rank p.name < length procs) procs
  pub calls : Each (ProcCallsBelow rank) procs

-- ---- names

-- an actor's variable as a name; one that doesn't change is a constant
abbrev pub known_of : Held → Known
known_of x =
    record {
      name = x.name;
      kind = kind_of_type x.shape;
      value = if x.changes then None
          else Some x.value;
      changes = x.changes;
    }

abbrev pub names_of : Actor → Names
names_of actor = record { globals = map known_of actor.vars; locals = []; funs = actor.funs }

-- a local, which is never a constant of the source
abbrev pub known_local : Local → Known
known_local x =
    record { name = x.name; kind = kind_of_type x.shape; value = None; changes = x.changes }

abbrev pub with_locals : List Local → Names → Names
with_locals [] names = names
with_locals (x ∷ xs) names = with_locals xs (with_known (known_local x) names)

-- the kind of what is held may be absent, and is else this one
abbrev pub StartHasKind : Kind → Option Tree → Names → Type 0
StartHasKind k None names = Unit {0}
StartHasKind k (Some e) names = (kind e names ≡ Fine k) × IsPlain e

-- each local has a type, and its start the kind of this type; it sees the locals before it
abbrev pub AreLocals : List Local → Names → Type 0
AreLocals [] names = Unit {0}
AreLocals (x ∷ xs) names =
    IsType x.shape × StartHasKind (kind_of_type x.shape) x.start names
    × AreLocals xs (with_known (known_local x) names)

-- formals are single values without starts
pub record IsFormal (x : Local) : Type 0 where
  pub scalar : Scalar
  pub single : x.shape ≡ Single scalar
  pub size : IsSize scalar
  pub bare : x.start ≡ None

-- ---- statements

-- the kind of what is inside at so many places
abbrev pub kind_inside : Kind → List Kind → Option Kind
kind_inside k [] = Some k
kind_inside (ListKind n k) (NumKind ∷ places) = kind_inside k places
kind_inside k places = None

-- a name that may be assigned, and what stands at these places in it is of this kind
pub record MayBeAssigned (name : List ℕ) (places : List Kind) (k : Kind) (names : Names) :
    Type 0 where
  pub meant : Known
  pub is_meant : meant_by name names ≡ Some meant
  pub changes : meant.changes ≡ true
  pub inside : kind_inside meant.kind places ≡ Some k

abbrev pub IsVarStart : Kind → Tree → Names → Type 0
IsVarStart k tree.absent names = Unit {0}
IsVarStart k (tree.present e) names = kind e names ≡ Fine k
IsVarStart k other names = ⊥

-- the variables of a block
abbrev pub AreVars : Tree → Names → Type 0
AreVars tree.nil names = Unit {0}
AreVars (tree.cons (tree.var shape (tree.ident name place) start changes at) vars) names =
    (t : Shape) × (type_judged shape names ≡ Fine t) × IsVarStart (kind_of_type t) start names
    × AreVars vars (with_known (record {
      name = name;
      kind = kind_of_type t;
      value = None;
      changes = changes;
    }) names)
AreVars other names = ⊥

abbrev pub names_of_vars : Tree → List (List ℕ)
names_of_vars (tree.cons (tree.var shape (tree.ident name place) start changes at) vars) = name
    ∷ names_of_vars vars
names_of_vars other = []

-- a kind for each type, which is judged before
abbrev pub kind_of_judged : Judged Shape → Kind
kind_of_judged (Fine t) = kind_of_type t
kind_of_judged other = NumKind

abbrev pub with_vars_known : Tree → Names → Names
with_vars_known (tree.cons (tree.var shape (tree.ident name place) start changes at) vars) names =
    with_vars_known vars (with_known
    (record {
      name = name;
      kind = kind_of_judged (type_judged shape names);
      value = None;
      changes = changes;
    }) names)
with_vars_known other names = names

abbrev mutual
  pub IsStatement : Tree → List Proc → Names → Type 0
  IsStatement (tree.assign (tree.ident name place) places value at) procs names =
      (ks : List Kind) × (k : Kind) × (kinds places names ≡ Fine ks) × (kind value names ≡ Fine k)
      × MayBeAssigned name ks k names
  IsStatement (tree.call_stmt (tree.ident name place) args at) procs names =
      (p : Proc) × (proc_named name procs ≡ Some p)
      × (arguments_fit args p.formals names ≡ Fine true)
  IsStatement (tree.if_stmt test first other at) procs names =
      (kind test names ≡ Fine BoolKind) × AreStatements first procs names
      × AreStatements other procs names
  IsStatement (tree.while_stmt test body at) procs names = (kind test names ≡ Fine BoolKind)
      × AreStatements body procs names
  IsStatement (tree.foreach_stmt shape (tree.ident name place) from to body at) procs names =
      (t : Shape) × (type_judged shape names ≡ Fine t) × (counts t (begins shape) ≡ Fine t)
      × (kind from names ≡ Fine NumKind) × (kind to names ≡ Fine NumKind)
      × AreStatements body procs (with_known (counter name) names)
  IsStatement (tree.block vars body at) procs names =
      AreVars vars names × AreDistinct (names_of_vars vars)
      × AreStatements body procs (with_vars_known vars names)
  IsStatement other procs names = ⊥

  pub AreStatements : Tree → List Proc → Names → Type 0
  AreStatements tree.nil procs names = Unit {0}
  AreStatements (tree.cons s rest) procs names = IsStatement s procs names
      × AreStatements rest procs names
  AreStatements tree.absent procs names = Unit {0}
  AreStatements (tree.present body) procs names = AreStatements body procs names
  AreStatements other procs names = ⊥

-- ---- functions and procedures

pub record IsFun (names : Names) (f : Fun) : Type 0 where
  pub formals : Each IsFormal f.formals
  pub locals : AreLocals f.locals (with_locals f.formals names)
  pub distinct : AreDistinct (map (λ x. x.name) (f.formals ++ f.locals))
  pub result : IsSize f.result
  pub body : kind f.body (with_locals f.locals (with_locals f.formals names))
      ≡ Fine (kind_of_scalar f.result)
  pub plain : IsPlain f.body

pub record IsProc (procs : List Proc) (names : Names) (p : Proc) : Type 0 where
  pub formals : Each IsFormal p.formals
  pub locals : AreLocals p.locals (with_locals p.formals names)
  pub distinct : AreDistinct (map (λ x. x.name) (p.formals ++ p.locals))
  pub body : AreStatements p.body procs (with_locals p.locals (with_locals p.formals names))
  pub plain : IsPlain p.body

-- ---- actions

-- a repeat is at least 1
abbrev pub IsRepeat : Option ℕ → Type 0
IsRepeat None = Unit {0}
IsRepeat (Some n) = 1 ≤ n

-- this holds of the repeat of each
abbrev pub AreRepeated : {A : Type 0} → (A → Option ℕ) → List A → Type 0
AreRepeated repeat [] = Unit {0}
AreRepeated repeat (x ∷ xs) = IsRepeat (repeat x) × AreRepeated repeat xs

abbrev pub repeat_in : Pattern → Option ℕ
repeat_in q = q.repeat

abbrev pub repeat_out : Output → Option ℕ
repeat_out o = o.repeat

-- the kind of what stands for tokens, which are lists if they are repeated
abbrev pub kind_of_tokens : Scalar → Option ℕ → Kind
kind_of_tokens t None = kind_of_scalar t
kind_of_tokens t (Some n) = ListKind n (kind_of_scalar t)

-- the names of a pattern are constants
abbrev pub with_pattern : Kind → List (List ℕ) → Names → Names
with_pattern k [] names = names
with_pattern k (name ∷ more) names = with_pattern k more
    (with_known (record { name = name; kind = k; value = None; changes = false }) names)

abbrev pub with_patterns : Actor → List Pattern → Names → Names
with_patterns actor [] names = names
with_patterns actor (q ∷ qs) names =
    with_patterns actor qs (with_pattern
    (kind_of_tokens (kind_of_port actor.ins q.port) q.repeat) q.names names)

pub record IsPattern (actor : Actor) (q : Pattern) : Type 0 where
  pub port : q.port < length actor.ins
  pub repeat : IsRepeat q.repeat

-- each of these kinds is this one
abbrev pub AreAll : Kind → List Kind → Type 0
AreAll k ks = Each (λ l. l ≡ k) ks

pub record IsOutput (actor : Actor) (names : Names) (o : Output) : Type 0 where
  pub port : o.port < length actor.outs
  pub repeat : IsRepeat o.repeat
  pub found : List Kind
  pub kinds : kinds o.values names ≡ Fine found
  pub each : AreAll (kind_of_tokens (kind_of_port actor.outs o.port) o.repeat) found
  pub plain : IsPlain o.values

abbrev pub names_in_patterns : List Pattern → List (List ℕ)
names_in_patterns [] = []
names_in_patterns (q ∷ qs) = q.names ++ names_in_patterns qs

-- guards see the variables of the actor and of the patterns, and the rest the action's locals too
pub record IsAction (actor : Actor) (act : Action) : Type 0 where
  pub patterns : Each (IsPattern actor) act.patterns
  pub ports_in : AreDistinct (map (λ q. q.port) act.patterns)
  pub ports_out : AreDistinct (map (λ o. o.port) act.outputs)
  pub distinct : AreDistinct (names_in_patterns act.patterns ++ map (λ x. x.name) act.locals)
  pub guards :
      Each (λ g. (kind g (with_patterns actor act.patterns (names_of actor)) ≡ Fine BoolKind)
      × IsPlain g) act.guards
  pub locals : AreLocals act.locals (with_patterns actor act.patterns (names_of actor))
  pub body : AreStatements act.body actor.procs
      (with_locals act.locals (with_patterns actor act.patterns (names_of actor)))
  pub plain : IsPlain act.body
  pub outputs :
      Each (IsOutput actor (with_locals act.locals
      (with_patterns actor act.patterns (names_of actor)))) act.outputs
  -- an `initialize` takes no tokens and has no guard
  pub takes_nothing : act.initialize ≡ true → act.patterns ≡ []
  pub unguarded : act.initialize ≡ true → act.guards ≡ []

-- ---- calls that are hidden

-- the name isn't declared inside
abbrev pub IsNotInside : List ℕ → Names → Type 0
IsNotInside name names = known_as name names.locals ≡ None

abbrev mutual
  -- No name that is declared inside is that of a function or a procedure which an expression or a statement calls at
  -- that place: such a name would hide it.
  pub HidesNoCall : Tree → Names → Type 0
  HidesNoCall (tree.cons t ts) names = HidesNoCall t names × HidesNoCall ts names
  HidesNoCall (tree.present t) names = HidesNoCall t names
  HidesNoCall (tree.call name args at) names = IsNotInside name names × HidesNoCall args names
  HidesNoCall (tree.paren e at) names = HidesNoCall e names
  HidesNoCall (tree.if_expr test first other at) names = HidesNoCall test names
      × HidesNoCall first names × HidesNoCall other names
  HidesNoCall (tree.list items at) names = HidesNoCall items names
  HidesNoCall (tree.comp item gens at) names = HidesNoCall item (with_counters gens names)
      × GensHideNoCall gens names
  HidesNoCall (tree.index base place at) names = HidesNoCall base names × HidesNoCall place names
  HidesNoCall (tree.prefix op e at) names = HidesNoCall e names
  HidesNoCall (tree.binary op l r at) names = HidesNoCall l names × HidesNoCall r names
  HidesNoCall (tree.type_of name args at) names = HidesNoCall args names
  HidesNoCall (tree.shape_arg name shape) names = HidesNoCall shape names
  HidesNoCall (tree.value_arg name value) names = HidesNoCall value names
  HidesNoCall (tree.assign name places value at) names = HidesNoCall places names
      × HidesNoCall value names
  HidesNoCall (tree.call_stmt (tree.ident name place) args at) names = IsNotInside name names
      × HidesNoCall args names
  HidesNoCall (tree.if_stmt test first other at) names = HidesNoCall test names
      × HidesNoCall first names × HidesNoCall other names
  HidesNoCall (tree.while_stmt test body at) names = HidesNoCall test names × HidesNoCall body names
  HidesNoCall (tree.foreach_stmt shape (tree.ident name place) from to body at) names =
      HidesNoCall shape names × HidesNoCall from names × HidesNoCall to names
      × HidesNoCall body (with_known (counter name) names)
  HidesNoCall (tree.block vars body at) names = VarsHideNoCall vars names
      × HidesNoCall body (with_vars_known vars names)
  HidesNoCall other names = Unit {0}

  -- each generator sees the variables of those before it
  pub GensHideNoCall : Tree → Names → Type 0
  GensHideNoCall (tree.cons (tree.gen shape (tree.ident name place) from to at) gens) names =
      HidesNoCall shape names × HidesNoCall from names × HidesNoCall to names
      × GensHideNoCall gens (with_known (counter name) names)
  GensHideNoCall other names = Unit {0}

  -- each variable of a block sees those before it
  pub VarsHideNoCall : Tree → Names → Type 0
  VarsHideNoCall (tree.cons (tree.var shape (tree.ident name place) start changes at) vars) names =
      HidesNoCall shape names × HidesNoCall start names
      × VarsHideNoCall vars (with_known
      (record {
        name = name;
        kind = kind_of_judged (type_judged shape names);
        value = None;
        changes = changes;
      }) names)
  VarsHideNoCall other names = Unit {0}

-- in no start of a local, each of which sees the locals before it
abbrev pub LocalsHideNoCall : List Local → Names → Type 0
LocalsHideNoCall [] names = Unit {0}
LocalsHideNoCall (x ∷ xs) names =
    elim x.start [ None ↦ Unit {0} | Some e ↦ HidesNoCall e names ]
    × LocalsHideNoCall xs (with_known (known_local x) names)

-- nowhere in a function ..
pub record FunHidesNoCall (names : Names) (f : Fun) : Type 0 where
  pub locals : LocalsHideNoCall f.locals (with_locals f.formals names)
  pub body : HidesNoCall f.body (with_locals f.locals (with_locals f.formals names))

-- .. or a procedure: formals stand inside the globals, and locals inside these
pub record ProcHidesNoCall (names : Names) (p : Proc) : Type 0 where
  pub locals : LocalsHideNoCall p.locals (with_locals p.formals names)
  pub body : HidesNoCall p.body (with_locals p.locals (with_locals p.formals names))

-- nowhere in an action: guards see the pattern variables, and the rest the action's locals too
pub record ActionHidesNoCall (actor : Actor) (act : Action) : Type 0 where
  pub guards :
      Each (λ g. HidesNoCall g (with_patterns actor act.patterns (names_of actor))) act.guards
  pub locals : LocalsHideNoCall act.locals (with_patterns actor act.patterns (names_of actor))
  pub body : HidesNoCall act.body
      (with_locals act.locals (with_patterns actor act.patterns (names_of actor)))
  pub outputs :
      Each (λ o. HidesNoCall o.values
      (with_locals act.locals (with_patterns actor act.patterns (names_of actor)))) act.outputs

-- Nowhere in an actor does a formal, a local, a pattern variable or the variable of a block, a loop or a generator have
-- the name of a function or a procedure that is called there.
pub record NoCallIsHidden (actor : Actor) : Type 0 where
  pub funs : Each (FunHidesNoCall (names_of actor)) actor.funs
  pub procs : Each (ProcHidesNoCall (names_of actor)) actor.procs
  pub actions : Each (ActionHidesNoCall actor) actor.actions

-- ---- schedules and priorities

abbrev pub IsTagged : Option Action → Type 0
IsTagged None = ⊥
IsTagged (Some act) = (act.initialize ≡ false) × (act.tag ≢ [])

pub record IsMove (actor : Actor) (m : Move) : Type 0 where
  pub from : m.from < length actor.states
  pub to : m.to < length actor.states
  pub tagged : IsTagged (slice_get actor.actions m.action)

-- from one state an action leads to one state
abbrev pub LeadToOne : List Move → Type 0
LeadToOne moves = (m n : Move) → Contains moves m → Contains moves n → m.from ≡ n.from
    → m.action ≡ n.action → m.to ≡ n.to

abbrev pub AreTagged : Actor → ℕ × ℕ → Type 0
AreTagged actor p = IsTagged (slice_get actor.actions p.0) × IsTagged (slice_get actor.actions p.1)

-- ---- actors

abbrev pub scalars_of_vars : List Held → ℕ
scalars_of_vars [] = 0
scalars_of_vars (x ∷ xs) = scalars_of_type x.shape + scalars_of_vars xs

pub record IsSound (actor : Actor) : Type 0 where
  -- names and their values
  pub ports : AreDistinct (map (λ p. p.name) (actor.ins ++ actor.outs))
  pub port_sizes : Each (λ p. IsSize p.kind) (actor.ins ++ actor.outs)
  pub distinct :
      AreDistinct (map (λ x. x.name) actor.vars ++ map (λ f. f.name) actor.funs
      ++ map (λ p. p.name) actor.procs)
  pub vars : Each (λ x. IsType x.shape × IsOf x.shape x.value) actor.vars
  -- functions and procedures
  pub funs : Each (IsFun (names_of actor)) actor.funs
  pub procs : Each (IsProc actor.procs (names_of actor)) actor.procs
  pub funs_end : FunsNeverReturn actor.funs
  pub procs_end : ProcsNeverReturn actor.procs
  pub calls : NoCallIsHidden actor
  -- actions; at most one is an `initialize`
  pub actions : Each (IsAction actor) actor.actions
  pub one_initialize : (a b : ℕ) (act other : Action) → slice_get actor.actions a ≡ Some act
      → slice_get actor.actions b ≡ Some other
      → act.initialize ≡ true → other.initialize ≡ true → a ≡ b
  pub takes : (a port : ℕ) → need actor a port ≤ max_rate
  pub gives : (a port : ℕ) → give actor a port ≤ max_rate
  -- schedule and priorities
  pub states : AreDistinct actor.states
  pub moves : Each (IsMove actor) actor.moves
  pub one_target : LeadToOne actor.moves
  pub pairs : Each (AreTagged actor) actor.pairs
  pub no_cycle : (a : ℕ) → ¬ Above actor a a
  -- limits
  pub few_actions : length actor.actions ≤ max_actions
  pub few_states : length actor.states ≤ max_states
  pub few_ins : length actor.ins ≤ max_ports
  pub few_outs : length actor.outs ≤ max_ports
  pub few_scalars : scalars_of_vars actor.vars ≤ max_variable_scalars
