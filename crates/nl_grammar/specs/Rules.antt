-- The rules of the reader: each part of a network as a program that looks one token ahead.
--
-- A rule is one of the language's, and does what it does there, or one of these. A rule that reads a list is given what
-- was found of it before.
-- Not trusted: no promise is read with it.
use Rattle.std.specs.Prelude.{ℕ, zero, suc, ◌+◌, ◌*◌, Bool, true, false, List, [], ◌∷◌, ◌++◌, length}
use Rattle.cal_grammar.specs.Program.{Program, Outcome, give, fail, ask, take, jump, invoke, Gave, Refused, TooHigh, Spent, exec}
use Rattle.cal_grammar.specs.Token.{here, names, same_word, text_of, offset}
use Rattle.cal_grammar.specs.Rules.{at_end}
use Rattle.cal_grammar.specs.Rules as cal
use Rattle.cal_grammar.specs.Spells.{Part, any, comma, an_expr, a_param, a_port, a_tag, a_type}
use Rattle.cal_ast.specs.Tree.{Tree, absent, present}
use Rattle.cal_ast.specs.Places.{begins}
use Rattle.cal_lexer.specs.Lexeme.{Lexeme, Placed}
use Rattle.fnl_frames.specs.Net.{Net, Decl, a_decl, Parameter, a_parameter, Instance, an_instance, Size, Connection, a_connection, empty_net}
use Rattle.nl_grammar.specs.Headings.{is_called, network_word, entities_word, structure_word}
use Rattle.nl_grammar.specs.Spells.{End, an_end, asked, class_text, net_ports, param_decls}

-- what is found
pub data Found : Type 0 where
  a_tree : Tree → Found
  a_variable : Decl → Found
  some_decls : List Decl → Found
  one_parameter : Parameter → Found
  some_parameters : List Parameter → Found
  one_instance : Instance → Found
  some_instances : List Instance → Found
  one_end : End → Found
  some_sizes : List Size → Found
  one_connection : Connection → Found
  some_connections : List Connection → Found
  a_net : Net → Found
  nothing : Found

abbrev pub tree_in : Found → Tree
tree_in (a_tree x) = x
tree_in _ = absent

abbrev pub variable_in : Found → Decl
variable_in (a_variable d) = d
variable_in _ = a_decl false absent [] absent 0

abbrev pub decls_in : Found → List Decl
decls_in (some_decls ds) = ds
decls_in _ = []

abbrev pub parameter_in : Found → Parameter
parameter_in (one_parameter p) = p
parameter_in _ = a_parameter [] absent 0

abbrev pub parameters_in : Found → List Parameter
parameters_in (some_parameters ps) = ps
parameters_in _ = []

abbrev pub instance_in : Found → Instance
instance_in (one_instance i) = i
instance_in _ = an_instance [] [] 0 [] 0

abbrev pub instances_in : Found → List Instance
instances_in (some_instances is) = is
instances_in _ = []

abbrev pub end_in : Found → End
end_in (one_end e) = e
end_in _ = an_end [] [] 0

abbrev pub sizes_in : Found → List Size
sizes_in (some_sizes zs) = zs
sizes_in _ = []

abbrev pub connection_in : Found → Connection
connection_in (one_connection c) = c
connection_in _ = a_connection [] [] [] [] [] 0

abbrev pub connections_in : Found → List Connection
connections_in (some_connections cs) = cs
connections_in _ = []

abbrev pub net_in : Found → Net
net_in (a_net n) = n
net_in _ = empty_net [] 0

-- the instance and the port of an end, and where it stands
abbrev pub instance_of : End → List ℕ
instance_of (an_end instance port at) = instance

abbrev pub port_of : End → List ℕ
port_of (an_end instance port at) = port

abbrev pub place_of : End → ℕ
place_of (an_end instance port at) = at

pub data Own : Type 0 where
  variable : Own
  -- the variables behind those that were found, and the heading `entities`
  variables : List Decl → Own
  declared : List Decl → Own
  parameter : Own
  more_parameters : List Parameter → Own
  parameters : Own
  -- an instance behind its name and the sign, and instances up to the heading `structure`
  entity : List ℕ → ℕ → Own
  entities : List Instance → Own
  end_of : Own
  -- the value of an attribute behind its name, and attributes
  attribute : Own
  attributes : List Size → Own
  in_braces : Own
  connection : Own
  connections : List Connection → Own
  closing : Own
  -- a network up to the colon; the ports, with what stands behind them
  ports : Own
  heading : Own
  network : Own
  packaged : Own
  whole : Own

pub data Rule : Type 0 where
  language : Part → Rule
  own : Own → Rule

abbrev pub Step : Type 0
Step = Program Placed Found Rule

-- combinators

-- goes on behind this word, or otherwise
abbrev pub on : Lexeme → Step → Step → Step
on w p other = ask (here (same_word w)) (take (λ t. p)) other

-- this word must come
abbrev pub expect : Lexeme → Step → Step
expect w p = on w p fail

-- a name must come
abbrev pub named : (Placed → Step) → Step
named next = ask (here names) (take next) fail

-- this name must come
abbrev pub headed : List ℕ → (Placed → Step) → Step
headed name next = ask (here (is_called name)) (take next) fail

-- a part that the language has
abbrev pub part : Part → (Tree → Step) → Step
part p next = invoke (language p) (λ y. next (tree_in y))

-- the rules

-- Variable   = Type Name ("=" | ":=") Expr ";"
abbrev pub value_body : Tree → Placed → Step
value_body shape t = part an_expr
    (λ x. expect Lexeme.Semicolon
    (give (a_variable (a_decl false shape (text_of t) (present x) (begins shape)))))

abbrev pub variable_body : Step
variable_body = part a_type
    (λ shape. named (λ t. on Lexeme.Assign (value_body shape t)
    (expect Lexeme.Equal (value_body shape t))))

-- {Variable} "entities"
abbrev pub variables_body : List Decl → Step
variables_body ds = ask (here (is_called entities_word)) (take (λ t. give (some_decls ds)))
    (invoke (own variable) (λ y. jump (own (variables (ds ++ variable_in y ∷ [])))))

-- Variables "entities"
abbrev pub declared_body : List Decl → Step
declared_body ds = on Lexeme.Var (jump (own (variables ds)))
    (headed entities_word (λ t. give (some_decls ds)))

-- Parameter  = Name "=" Expr
abbrev pub parameter_body : Step
parameter_body = named (λ t. expect Lexeme.Equal (part an_expr
    (λ x. give (one_parameter (a_parameter (text_of t) x (offset t))))))

-- Parameters = [Parameter {"," Parameter}]
abbrev pub more_parameters_body : List Parameter → Step
more_parameters_body ps = invoke (own parameter)
    (λ y. on Lexeme.Comma (jump (own (more_parameters (ps ++ parameter_in y ∷ []))))
    (give (some_parameters (ps ++ parameter_in y ∷ []))))

abbrev pub parameters_body : Step
parameters_body = ask (here names) (jump (own (more_parameters []))) (give (some_parameters []))

-- Entity     = Name "=" Tag "(" Parameters ")" ";"
abbrev pub entity_body : List ℕ → ℕ → Step
entity_body s q = part a_tag
    (λ class. expect Lexeme.LeftParen (invoke (own parameters)
    (λ y. expect Lexeme.RightParen (expect Lexeme.Semicolon
    (give (one_instance (an_instance s (class_text class) (begins class) (parameters_in y) q)))))))

-- what stands behind a name is an instance's, or the name is the heading `structure`
abbrev pub headed_body : Bool → List Instance → Step
headed_body true is = give (some_instances is)
headed_body false is = fail

-- {Entity} "structure"
abbrev pub entities_body : List Instance → Step
entities_body is = named
    (λ t. on Lexeme.Equal
    (invoke (own (entity (text_of t) (offset t)))
    (λ y. jump (own (entities (is ++ instance_in y ∷ [])))))
    (headed_body (is_called structure_word (Lexeme.Name (text_of t))) is))

-- End        = [Name "."] Name
abbrev pub end_body : Step
end_body = named
    (λ t. on Lexeme.Dot (named (λ u. give (one_end (an_end (text_of t) (text_of u) (offset t)))))
    (give (one_end (an_end [] (text_of t) (offset t)))))

-- Attribute  = Name "=" Expr ";"
abbrev pub attribute_body : Step
attribute_body = expect Lexeme.Equal (part an_expr (λ x. expect Lexeme.Semicolon (give (a_tree x))))

-- {Attribute}
abbrev pub attributes_body : List Size → Step
attributes_body zs = ask (here names)
    (take (λ t. invoke (own attribute)
    (λ y. jump (own (attributes (zs ++ asked (text_of t) (tree_in y) (offset t)))))))
    (give (some_sizes zs))

-- Attributes = ["{" {Attribute} "}"]
abbrev pub in_braces_body : Step
in_braces_body = on Lexeme.LeftBrace
    (invoke (own (attributes [])) (λ y. expect Lexeme.RightBrace (give (some_sizes (sizes_in y)))))
    (give (some_sizes []))

-- Connection = End "-->" End Attributes ";"
abbrev pub connected : End → End → List Size → Connection
connected src dst zs =
    a_connection (instance_of src) (port_of src) (instance_of dst) (port_of dst) zs (place_of src)

abbrev pub connection_body : Step
connection_body = invoke (own end_of)
    (λ x. expect Lexeme.LongArrow (invoke (own end_of)
    (λ y. invoke (own in_braces)
    (λ z. expect Lexeme.Semicolon
    (give (one_connection (connected (end_in x) (end_in y) (sizes_in z))))))))

-- {Connection}
abbrev pub connections_body : List Connection → Step
connections_body cs = ask (here names)
    (invoke (own connection) (λ y. jump (own (connections (cs ++ connection_in y ∷ [])))))
    (give (some_connections cs))

-- End of a network = "end" ["network"]
abbrev pub closing_body : Step
closing_body = expect Lexeme.End
    (ask (here (is_called network_word)) (take (λ t. give nothing)) (give nothing))

-- Network    = "network" Name "(" [Param {"," Param}] ")" [Ports] "==>" [Ports] ":" Variables
--              "entities" {Entity} "structure" {Connection} "end" ["network"]
-- a network of which the ports alone were read
abbrev pub with_ports : Tree → Tree → Net
with_ports ins outs = record {
  name = [];
  ports = net_ports true ins ++ net_ports false outs;
  decls = [];
  instances = [];
  connections = [];
  at = 0;
}

abbrev pub ports_body : Step
ports_body = part (any comma a_port)
    (λ ins. expect Lexeme.LongDoubleArrow (part (any comma a_port)
    (λ outs. expect Lexeme.Colon (give (a_net (with_ports ins outs))))))

-- the same behind its name, its parameters and the place of its first word
abbrev pub with_heading : List ℕ → ℕ → Tree → Net → Net
with_heading name at ps net = record {
  name = name;
  ports = net.ports;
  decls = param_decls ps;
  instances = [];
  connections = [];
  at = at;
}

abbrev pub heading_body : Step
heading_body = headed network_word
    (λ t. named (λ u. expect Lexeme.LeftParen (part (any comma a_param)
    (λ ps. expect Lexeme.RightParen (invoke (own ports)
    (λ y. give (a_net (with_heading (text_of u) (offset t) ps (net_in y)))))))))

abbrev pub with_body : Net → List Decl → List Instance → List Connection → Net
with_body net ds is cs = record {
  name = net.name;
  ports = net.ports;
  decls = ds;
  instances = is;
  connections = cs;
  at = net.at;
}

abbrev pub network_body : Step
network_body = invoke (own heading)
    (λ y. invoke (own (declared (Net.decls (net_in y))))
    (λ ds. invoke (own (entities []))
    (λ is. invoke (own (connections []))
    (λ cs. invoke (own closing)
    (λ z. give (a_net (with_body (net_in y) (decls_in ds) (instances_in is) (connections_in cs))))))))

-- ["package" Tag ";"]
abbrev pub packaged_body : Step
packaged_body = on Lexeme.Package (part a_tag (λ t. expect Lexeme.Semicolon (give nothing)))
    (give nothing)

-- Text       = ["package" Tag ";"] Network
abbrev pub whole_body : Step
whole_body = invoke (own packaged)
    (λ t. invoke (own network) (λ y. ask at_end (give (a_net (net_in y))) fail))

abbrev pub body : Own → Step
body variable = variable_body
body (variables ds) = variables_body ds
body (declared ds) = declared_body ds
body parameter = parameter_body
body (more_parameters ps) = more_parameters_body ps
body parameters = parameters_body
body (entity s q) = entity_body s q
body (entities is) = entities_body is
body end_of = end_body
body attribute = attribute_body
body (attributes zs) = attributes_body zs
body in_braces = in_braces_body
body connection = connection_body
body (connections cs) = connections_body cs
body closing = closing_body
body ports = ports_body
body heading = heading_body
body network = network_body
body packaged = packaged_body
body whole = whole_body

-- which calls a rule may make at the same place: those of a smaller rank
abbrev pub rank : Own → ℕ
rank (variables ds) = 1
rank (more_parameters ps) = 1
rank parameters = 2
rank connection = 1
rank (connections cs) = 2
rank heading = 1
rank network = 4
rank whole = 5
rank _ = 0

abbrev pub size : Own → List Placed → ℕ
size r ts = rank r + 10 * length ts

-- what a rule of the language does
abbrev pub lift : Outcome Placed Tree → Outcome Placed Found
lift (Gave x left) = Gave (a_tree x) left
lift (Refused left) = Refused left
lift (TooHigh left) = TooHigh left
lift Spent = Spent

-- what a rule does, with a bound on how deep the calls go
abbrev pub go : ℕ → ℕ → Rule → List Placed → Outcome Placed Found
go n m (language p) ts = lift (cal.read m (cal.part p) ts)
go zero m (own r) ts = Spent
go (suc n) m (own r) ts = exec (go n) m (body r) ts

-- what a rule reads, in a room
unfoldable pub read : ℕ → Own → List Placed → Outcome Placed Found
read m r ts = go (suc (size r ts)) m (own r) ts

abbrev pub reads : ℕ → Rule → List Placed → Outcome Placed Found
reads m (language p) ts = lift (cal.read m (cal.part p) ts)
reads m (own r) ts = read m r ts
