-- The grammar of network files: which tags spell which network, one case a production.
--
-- A tag begins an element or ends the innermost one. `room` says how many elements may stand one in another. Above what
-- stands for a production is its line in EBNF; the order inside an element is free where the line says *any*.
-- Trusted: part of what a promise means.
use Rattle.std.specs.Prelude.{◌≡◌, ℕ, suc, List, [], ◌∷◌, ◌++◌, Bool, true, false, Option, None, Some, codes}
use Rattle.std.specs.Str.{bytes_eq}
use Rattle.cal_ast.specs.Tree.{Tree, absent, present, ident, listed, variable, prefix, binary, list, type_of, shape_arg, value_arg}
use Rattle.cal_ast.specs.declared.expr.PrefixOp.{PrefixOp}
use Rattle.cal_ast.specs.declared.expr.BinOp.{BinOp}
use Rattle.fnl_markup.specs.Tags.{Attribute, attribute, Tag, opens, closes}
use Rattle.fnl_expr.specs.Given.{given, either_given, Text, text_at, name_given, tag_given, end_given, entry_given, type_given, has_short_names, Literal, literal_given, kind_given, literal_tree}
use Rattle.fnl_expr.specs.Operations.{fits}
use Rattle.fnl_expr.specs.Operators.{binary_given, prefix_given}
use Rattle.fnl_frames.specs.Allowed.{element_named}
use Rattle.fnl_frames.specs.Frames.{Class, a_class}
use Rattle.fnl_frames.specs.Net.{Net, Port, a_port, Decl, a_decl, Parameter, a_parameter, Instance, an_instance, Size, a_size, Connection, a_connection}
use Rattle.fnl_frames.specs.declared.element.Element.{Element}
use Rattle.fnl_frames.specs.declared.element.Element.TheVariants as elements
use Rattle.fnl_expr.specs.declared.kind.ExprKind.TheVariants as kinds
use Rattle.fnl_grammar.specs.Rows.{Item, operand, operator, loosest, Groups, AreSeveral}

-- ---- what the productions have in common

-- an element with what stands in it
abbrev pub around : List ℕ → List Attribute → ℕ → List Tag → ℕ → List Tag
around name attributes at inside end = opens name attributes at ∷ inside ++ closes end ∷ []

-- the name is that of an element
abbrev pub IsCalled : List ℕ → Element → Type 0
IsCalled name e = element_named name ≡ Some e

-- a text is given, none of whose names is too long
pub record IsGiven (found : Option Text) (text : List ℕ) : Type 0 where
  pub place : ℕ
  pub is : found ≡ Some (text_at text place)
  pub short : has_short_names text ≡ true

-- whether an attribute's name is `bufferSize`, if it is given
abbrev pub is_size_in : Option Attribute → Option Bool
is_size_in None = None
is_size_in (Some (attribute key name place)) = Some (bytes_eq name (codes "bufferSize"))

abbrev pub is_buffer_size : List Attribute → Option Bool
is_buffer_size attributes = is_size_in (given (codes "name") attributes)

-- ---- what is passed over

-- any elements
pub data ArePassed : ℕ → List Tag → Type 0 where
  passed_none : {room : ℕ} → ArePassed room []
  passed_more : {room : ℕ} {before inside : List Tag} (name : List ℕ) (attributes : List Attribute) (at end : ℕ)
      → ArePassed (suc room) before → ArePassed room inside
      → ArePassed (suc room) (before ++ around name attributes at inside end)

-- Attribute = <Attribute name> any elements </Attribute>
pub data IsPassed : ℕ → List Tag → Type 0 where
  the_passed : {room at : ℕ} {inside : List Tag} {name : List ℕ} {attributes : List Attribute} {is : Bool} (end : ℕ)
      → IsCalled name elements.Attribute → is_buffer_size attributes ≡ Some is → ArePassed room inside
      → IsPassed (suc room) (around name attributes at inside end)

-- ---- expressions

-- Op = <Op name/>
pub data IsPrefixOp : ℕ → List Tag → PrefixOp → Type 0 where
  the_prefix_op : {room at : ℕ} {name : List ℕ} {attributes : List Attribute} {op : PrefixOp} (end : ℕ)
      → IsCalled name elements.Op → prefix_given attributes ≡ Some op
      → IsPrefixOp (suc room) (around name attributes at [] end) op

pub data IsBinaryOp : ℕ → List Tag → BinOp → Type 0 where
  the_binary_op : {room at : ℕ} {name : List ℕ} {attributes : List Attribute} {op : BinOp} (end : ℕ)
      → IsCalled name elements.Op → binary_given attributes ≡ Some op
      → IsBinaryOp (suc room) (around name attributes at [] end) op

mutual
  pub data IsExpr : ℕ → List Tag → Tree → Type 0 where
    -- Expr = <Expr kind="Literal" literal-kind value/>
    the_literal : {room at : ℕ} {name : List ℕ} {attributes : List Attribute} {l : Literal} (end : ℕ)
        → IsCalled name elements.Expr → kind_given attributes ≡ Some kinds.Literal
        → literal_given attributes ≡ Some l
        → IsExpr (suc room) (around name attributes at [] end) (literal_tree l at)
    --      | <Expr kind="Var" name/>
    the_variable : {room at : ℕ} {name text : List ℕ} {attributes : List Attribute} (end : ℕ)
        → IsCalled name elements.Expr → kind_given attributes ≡ Some kinds.Var
        → IsGiven (name_given (codes "name") attributes) text
        → IsExpr (suc room) (around name attributes at [] end) (variable text at)
    --      | <Expr kind="List"> Expr {Expr} </Expr>
    the_list : {room at : ℕ} {name : List ℕ} {attributes : List Attribute} {inside : List Tag}
        {item : Tree} {items : List Tree} (end : ℕ)
        → IsCalled name elements.Expr → kind_given attributes ≡ Some kinds.List
        → AreItems room inside (item ∷ items) → fits (list (listed (item ∷ items)) at) ≡ true
        → IsExpr (suc room) (around name attributes at inside end) (list (listed (item ∷ items)) at)
    --      | <Expr kind="UnaryOp"> Op Expr </Expr>
    the_operation : {room at : ℕ} {name : List ℕ} {attributes : List Attribute} {before inside : List Tag}
        {op : PrefixOp} {t : Tree} (end : ℕ)
        → IsCalled name elements.Expr → kind_given attributes ≡ Some kinds.Unary
        → IsPrefixOp room before op → IsExpr room inside t → fits (prefix op t at) ≡ true
        → IsExpr (suc room) (around name attributes at (before ++ inside) end) (prefix op t at)
    --      | <Expr kind="BinOpSeq"> Expr Op Expr {Op Expr} </Expr>
    the_sequence : {room at place : ℕ} {name : List ℕ} {attributes : List Attribute} {inside : List Tag}
        {row : List Item} {op : BinOp} {left right : Tree} (end : ℕ)
        → IsCalled name elements.Expr → kind_given attributes ≡ Some kinds.Sequence
        → IsRow room inside row → AreSeveral row → Groups loosest row (binary op left right place)
        → fits (binary op left right at) ≡ true
        → IsExpr (suc room) (around name attributes at inside end) (binary op left right at)

  pub data AreItems : ℕ → List Tag → List Tree → Type 0 where
    no_items : {room : ℕ} → AreItems room [] []
    one_item_more : {room : ℕ} {before inside : List Tag} {items : List Tree} {item : Tree}
        → AreItems room before items → IsExpr room inside item
        → AreItems room (before ++ inside) (items ++ item ∷ [])

  -- operands with an operator between each two
  pub data IsRow : ℕ → List Tag → List Item → Type 0 where
    the_first : {room : ℕ} {inside : List Tag} {t : Tree} → IsExpr room inside t
        → IsRow room inside (operand t ∷ [])
    the_next : {room : ℕ} {before between inside : List Tag} {row : List Item} {op : BinOp} {t : Tree}
        → IsRow room before row → IsBinaryOp room between op → IsExpr room inside t
        → IsRow room (before ++ (between ++ inside)) (row ++ operator op ∷ operand t ∷ [])

-- ---- types

mutual
  -- Type = <Type name> {Entry} </Type>
  pub data IsType : ℕ → List Tag → Tree → Type 0 where
    the_type : {room at place : ℕ} {name text : List ℕ} {attributes : List Attribute} {inside : List Tag}
        {args : List Tree} (end : ℕ)
        → IsCalled name elements.Type → type_given attributes ≡ Some (text_at text place)
        → AreEntries room inside args
        → IsType (suc room) (around name attributes at inside end) (type_of (ident text place) (listed args) at)

  pub data AreEntries : ℕ → List Tag → List Tree → Type 0 where
    no_entries : {room : ℕ} → AreEntries room [] []
    one_entry_more : {room : ℕ} {before inside : List Tag} {args : List Tree} {arg : Tree}
        → AreEntries room before args → IsEntry room inside arg
        → AreEntries room (before ++ inside) (args ++ arg ∷ [])

  pub data IsEntry : ℕ → List Tag → Tree → Type 0 where
    -- Entry = <Entry kind="Expr" name> Expr </Entry>
    the_value : {room at place : ℕ} {name text : List ℕ} {attributes : List Attribute} {inside : List Tag}
        {t : Tree} (end : ℕ)
        → IsCalled name elements.Entry
        → either_given (codes "kind") (codes "Expr") (codes "Type") attributes ≡ Some true
        → entry_given attributes ≡ Some (text_at text place) → IsExpr room inside t
        → IsEntry (suc room) (around name attributes at inside end) (value_arg (ident text place) t)
    --       | <Entry kind="Type" name> Type </Entry>
    the_shape : {room at place : ℕ} {name text : List ℕ} {attributes : List Attribute} {inside : List Tag}
        {t : Tree} (end : ℕ)
        → IsCalled name elements.Entry
        → either_given (codes "kind") (codes "Expr") (codes "Type") attributes ≡ Some false
        → entry_given attributes ≡ Some (text_at text place) → IsType room inside t
        → IsEntry (suc room) (around name attributes at inside end) (shape_arg (ident text place) t)

-- ---- ports and declarations

-- Port = <Port kind name> Type </Port>
pub data IsPort : ℕ → List Tag → Port → Type 0 where
  the_port : {room at : ℕ} {name text : List ℕ} {attributes : List Attribute} {inside : List Tag}
      {input : Bool} {shape : Tree} (end : ℕ)
      → IsCalled name elements.Port
      → either_given (codes "kind") (codes "Input") (codes "Output") attributes ≡ Some input
      → IsGiven (name_given (codes "name") attributes) text → IsType room inside shape
      → IsPort (suc room) (around name attributes at inside end) (a_port input shape text at)

-- a type and an expression, in any order, or one of them, or none
pub data HasDeclared : ℕ → List Tag → Option Tree → Option Tree → Type 0 where
  nothing_declared : {room : ℕ} → HasDeclared room [] None None
  type_declared : {room : ℕ} {before inside : List Tag} {shape : Tree} {value : Option Tree}
      → HasDeclared room before None value → IsType room inside shape
      → HasDeclared room (before ++ inside) (Some shape) value
  value_declared : {room : ℕ} {before inside : List Tag} {shape : Option Tree} {value : Tree}
      → HasDeclared room before shape None → IsExpr room inside value
      → HasDeclared room (before ++ inside) shape (Some value)

-- Decl = <Decl kind="Param" name> Type [Expr] </Decl>
--      | <Decl kind="Variable" name> Type Expr </Decl>
pub data IsDecl : ℕ → List Tag → Decl → Type 0 where
  the_param : {room at : ℕ} {name text : List ℕ} {attributes : List Attribute} {inside : List Tag}
      {shape : Tree} (end : ℕ)
      → IsCalled name elements.Decl
      → either_given (codes "kind") (codes "Param") (codes "Variable") attributes ≡ Some true
      → IsGiven (name_given (codes "name") attributes) text
      → HasDeclared room inside (Some shape) None
      → IsDecl (suc room) (around name attributes at inside end) (a_decl true shape text absent at)
  the_decl : {room at : ℕ} {name text : List ℕ} {attributes : List Attribute} {inside : List Tag}
      {param : Bool} {shape value : Tree} (end : ℕ)
      → IsCalled name elements.Decl
      → either_given (codes "kind") (codes "Param") (codes "Variable") attributes ≡ Some param
      → IsGiven (name_given (codes "name") attributes) text
      → HasDeclared room inside (Some shape) (Some value)
      → IsDecl (suc room) (around name attributes at inside end) (a_decl param shape text (present value) at)

-- ---- instances

-- Class = <Class name/>
pub data IsClass : ℕ → List Tag → List ℕ → ℕ → Type 0 where
  the_class : {room at : ℕ} {name text : List ℕ} {attributes : List Attribute} (end : ℕ)
      → IsCalled name elements.Class → IsGiven (tag_given (codes "name") attributes) text
      → IsClass (suc room) (around name attributes at [] end) text at

-- Parameter = <Parameter name> Expr </Parameter>
pub data IsParameter : ℕ → List Tag → Parameter → Type 0 where
  the_parameter : {room at : ℕ} {name text : List ℕ} {attributes : List Attribute} {inside : List Tag}
      {t : Tree} (end : ℕ)
      → IsCalled name elements.Parameter → IsGiven (name_given (codes "name") attributes) text
      → IsExpr room inside t
      → IsParameter (suc room) (around name attributes at inside end) (a_parameter text t at)

-- any: at most one Class, any Parameter, any Attribute
pub data InInstance : ℕ → List Tag → Option Class → List Parameter → Type 0 where
  instance_empty : {room : ℕ} → InInstance room [] None []
  and_class : {room at : ℕ} {before inside : List Tag} {text : List ℕ} {parameters : List Parameter}
      → InInstance room before None parameters → IsClass room inside text at
      → InInstance room (before ++ inside) (Some (a_class text at)) parameters
  and_parameter : {room : ℕ} {before inside : List Tag} {class : Option Class} {parameters : List Parameter}
      {p : Parameter} → InInstance room before class parameters → IsParameter room inside p
      → InInstance room (before ++ inside) class (parameters ++ p ∷ [])
  and_attribute : {room : ℕ} {before inside : List Tag} {class : Option Class} {parameters : List Parameter}
      → InInstance room before class parameters → IsPassed room inside
      → InInstance room (before ++ inside) class parameters

-- Instance = <Instance id> any: Class, {Parameter}, {Attribute} </Instance>
pub data IsInstance : ℕ → List Tag → Instance → Type 0 where
  the_instance : {room at class_at : ℕ} {name text class : List ℕ} {attributes : List Attribute}
      {inside : List Tag} {parameters : List Parameter} (end : ℕ)
      → IsCalled name elements.Instance → IsGiven (name_given (codes "id") attributes) text
      → InInstance room inside (Some (a_class class class_at)) parameters
      → IsInstance (suc room) (around name attributes at inside end) (an_instance text class class_at parameters at)

-- ---- connections

-- Size = <Attribute name="bufferSize"> Expr </Attribute>
pub data IsSize : ℕ → List Tag → Size → Type 0 where
  the_size : {room at : ℕ} {name : List ℕ} {attributes : List Attribute} {inside : List Tag} {t : Tree} (end : ℕ)
      → IsCalled name elements.Attribute → is_buffer_size attributes ≡ Some true → IsExpr room inside t
      → IsSize (suc room) (around name attributes at inside end) (a_size t at)

-- an attribute of a connection that is passed over isn't a size
pub data IsOther : ℕ → List Tag → Type 0 where
  the_other : {room at : ℕ} {inside : List Tag} {name : List ℕ} {attributes : List Attribute} (end : ℕ)
      → IsCalled name elements.Attribute → is_buffer_size attributes ≡ Some false → ArePassed room inside
      → IsOther (suc room) (around name attributes at inside end)

-- any: {Size}, {Attribute}
pub data InConnection : ℕ → List Tag → List Size → Type 0 where
  connection_empty : {room : ℕ} → InConnection room [] []
  and_size : {room : ℕ} {before inside : List Tag} {sizes : List Size} {size : Size}
      → InConnection room before sizes → IsSize room inside size
      → InConnection room (before ++ inside) (sizes ++ size ∷ [])
  and_other : {room : ℕ} {before inside : List Tag} {sizes : List Size}
      → InConnection room before sizes → IsOther room inside
      → InConnection room (before ++ inside) sizes

-- Connection = <Connection src src-port dst dst-port> any: {Size}, {Attribute} </Connection>
pub data IsConnection : ℕ → List Tag → Connection → Type 0 where
  the_connection : {room at : ℕ} {name src src_port dst dst_port : List ℕ} {attributes : List Attribute}
      {inside : List Tag} {sizes : List Size} (end : ℕ)
      → IsCalled name elements.Connection
      → IsGiven (end_given (codes "src") attributes) src
      → IsGiven (name_given (codes "src-port") attributes) src_port
      → IsGiven (end_given (codes "dst") attributes) dst
      → IsGiven (name_given (codes "dst-port") attributes) dst_port
      → InConnection room inside sizes
      → IsConnection (suc room) (around name attributes at inside end)
      (a_connection src src_port dst dst_port sizes at)

-- ---- networks

-- any: {Port}, {Decl}, {Instance}, {Connection}, {Attribute}
pub data InNetwork : ℕ → List Tag → List Port → List Decl → List Instance → List Connection → Type 0 where
  network_empty : {room : ℕ} → InNetwork room [] [] [] [] []
  with_a_port : {room : ℕ} {before inside : List Tag} {ps : List Port} {ds : List Decl} {is : List Instance}
      {cs : List Connection} {p : Port} → InNetwork room before ps ds is cs → IsPort room inside p
      → InNetwork room (before ++ inside) (ps ++ p ∷ []) ds is cs
  with_a_decl : {room : ℕ} {before inside : List Tag} {ps : List Port} {ds : List Decl} {is : List Instance}
      {cs : List Connection} {d : Decl} → InNetwork room before ps ds is cs → IsDecl room inside d
      → InNetwork room (before ++ inside) ps (ds ++ d ∷ []) is cs
  with_an_instance : {room : ℕ} {before inside : List Tag} {ps : List Port} {ds : List Decl} {is : List Instance}
      {cs : List Connection} {i : Instance} → InNetwork room before ps ds is cs → IsInstance room inside i
      → InNetwork room (before ++ inside) ps ds (is ++ i ∷ []) cs
  with_a_connection : {room : ℕ} {before inside : List Tag} {ps : List Port} {ds : List Decl} {is : List Instance}
      {cs : List Connection} {c : Connection} → InNetwork room before ps ds is cs → IsConnection room inside c
      → InNetwork room (before ++ inside) ps ds is (cs ++ c ∷ [])
  with_an_attribute : {room : ℕ} {before inside : List Tag} {ps : List Port} {ds : List Decl} {is : List Instance}
      {cs : List Connection} → InNetwork room before ps ds is cs → IsPassed room inside
      → InNetwork room (before ++ inside) ps ds is cs

-- XDF = <XDF name> any: {Port}, {Decl}, {Instance}, {Connection}, {Attribute} </XDF>
pub data IsNetwork : ℕ → List Tag → Net → Type 0 where
  the_network : {room at : ℕ} {name text : List ℕ} {attributes : List Attribute} {inside : List Tag}
      {ps : List Port} {ds : List Decl} {is : List Instance} {cs : List Connection} (end : ℕ)
      → IsCalled name elements.Xdf → IsGiven (name_given (codes "name") attributes) text
      → InNetwork room inside ps ds is cs
      → IsNetwork (suc room) (around name attributes at inside end)
      (record { name = text; ports = ps; decls = ds; instances = is; connections = cs; at = at })

-- how many elements may stand one in another
abbrev pub max_depth : ℕ
max_depth = 64

-- the tags of a text spell a network
abbrev pub Spells : List Tag → Net → Type 0
Spells tags net = IsNetwork max_depth tags net
