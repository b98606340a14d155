-- The grammar of networks as text: which tokens spell which network, one case a production.
--
-- A production says that the tokens from those of a list up to those of another one spell a part, and how high it is:
-- as high as the highest type or expression in it. Types, expressions, parameters, ports and names with dots are spelled
-- as the language spells them (`Spells` of `cal_grammar`), so nothing of its grammar is said here again. The words
-- `network`, `entities` and `structure` are names. Above what stands for a production is its line in EBNF.
-- Trusted: part of what a promise means.
use Rattle.std.specs.Prelude.{◌≡◌, ℕ, max, Bool, true, false, ◌||◌, List, [], ◌∷◌, ◌++◌, if◌then◌else◌}
use Rattle.std.specs.Str.{bytes_eq}
use Rattle.cal_ast.specs.Tree.{Tree, present, cons, ident, tag, param, port}
use Rattle.cal_ast.specs.Places.{begins}
use Rattle.cal_lexer.specs.Lexeme.{Lexeme, Placed, placed}
use Rattle.cal_grammar.specs.Operators.{height}
use Rattle.cal_grammar.specs.Program.{ahead}
use Rattle.cal_grammar.specs.Spells.{Spells, any, comma, an_expr, a_param, a_port, a_tag, a_type}
use Rattle.cal_grammar.specs.Token.{here, same_word}
use Rattle.fnl_frames.specs.Net.{Net, Port, a_port as a_net_port, Decl, a_decl, Parameter, a_parameter, Instance, an_instance, Size, a_size, Connection, a_connection}
use Rattle.nl_grammar.specs.Headings.{is_called, network_word, entities_word, structure_word, size_word}

-- ---- what parts of the language are in a network

-- parameters, as declarations
abbrev pub param_decls : Tree → List Decl
param_decls (cons (param shape (ident name place) start at) rest) =
    a_decl true shape name start at ∷ param_decls rest
param_decls _ = []

-- ports of one direction
abbrev pub net_ports : (input : Bool) → Tree → List Port
net_ports input (cons (port shape (ident name place) at) rest) =
    a_net_port input shape name at ∷ net_ports input rest
net_ports input _ = []

-- names, with a dot before each
abbrev pub behind_dots : Tree → List ℕ
behind_dots (cons (ident name at) rest) = 46 ∷ (name ++ behind_dots rest)
behind_dots _ = []

-- names, with dots between
abbrev pub dotted : Tree → List ℕ
dotted (cons (ident name at) rest) = name ++ behind_dots rest
dotted _ = []

-- the class that names with dots between are
abbrev pub class_text : Tree → List ℕ
class_text (tag names at) = dotted names
class_text _ = []

-- ---- lists

-- Repeated   = {Part}
pub data Repeated {X : Type 0} (IsPart : List Placed → List Placed → X → ℕ → Type 0) :
    List Placed → List Placed → List X → ℕ → Type 0 where
  the_none : {a : List Placed} → Repeated IsPart a a [] 0
  the_next : {a b c : List Placed} {xs : List X} {x : X} {h k : ℕ} → Repeated IsPart a b xs h
      → IsPart b c x k → Repeated IsPart a c (xs ++ x ∷ []) (max h k)

-- ---- variables

-- the sign before the value of a variable: both mean the same
abbrev pub is_sign : Lexeme → Bool
is_sign w = same_word Lexeme.Equal w || same_word Lexeme.Assign w

-- Variable   = Type Name ("=" | ":=") Expr ";"
-- Its type doesn't begin with the name `entities`, which is the heading there.
pub data IsVariable : List Placed → List Placed → Decl → ℕ → Type 0 where
  the_variable : {w : Lexeme} {s : List ℕ} {q r t : ℕ} {a b c : List Placed} {shape x : Tree}
      → here (is_called entities_word) (ahead a) ≡ false
      → Spells a_type a (placed (Lexeme.Name s) q ∷ placed w r ∷ b) shape → is_sign w ≡ true
      → Spells an_expr b (placed Lexeme.Semicolon t ∷ c) x
      → IsVariable a c (a_decl false shape s (present x) (begins shape))
      (max (height shape) (height x))

-- Variables  = ["var" {Variable}]
pub data AreVariables : List Placed → List Placed → List Decl → ℕ → Type 0 where
  the_no_variables : {a : List Placed} → AreVariables a a [] 0
  the_variables : {q h : ℕ} {a b : List Placed} {ds : List Decl} → Repeated IsVariable a b ds h
      → AreVariables (placed Lexeme.Var q ∷ a) b ds h

-- ---- instances

-- Parameter  = Name "=" Expr
pub data IsParameter : List Placed → List Placed → Parameter → ℕ → Type 0 where
  the_parameter : {s : List ℕ} {q r : ℕ} {a b : List Placed} {x : Tree} → Spells an_expr a b x
      → IsParameter (placed (Lexeme.Name s) q ∷ placed Lexeme.Equal r ∷ a) b (a_parameter s x q)
      (height x)

-- Parameters = [Parameter {"," Parameter}]
pub data SomeParameters : List Placed → List Placed → List Parameter → ℕ → Type 0 where
  the_first : {a b : List Placed} {p : Parameter} {h : ℕ} → IsParameter a b p h
      → SomeParameters a b (p ∷ []) h
  the_more : {a b c : List Placed} {ps : List Parameter} {p : Parameter} {q h k : ℕ}
      → SomeParameters a (placed Lexeme.Comma q ∷ b) ps h → IsParameter b c p k
      → SomeParameters a c (ps ++ p ∷ []) (max h k)

pub data AreParameters : List Placed → List Placed → List Parameter → ℕ → Type 0 where
  the_no_parameters : {a : List Placed} → AreParameters a a [] 0
  the_parameters : {a b : List Placed} {ps : List Parameter} {h : ℕ} → SomeParameters a b ps h
      → AreParameters a b ps h

-- Entity     = Name "=" Tag "(" Parameters ")" ";"
pub data IsEntity : List Placed → List Placed → Instance → ℕ → Type 0 where
  the_entity : {s : List ℕ} {q r t u v h : ℕ} {a b c : List Placed} {class : Tree}
      {ps : List Parameter} → Spells a_tag a (placed Lexeme.LeftParen t ∷ b) class
      → AreParameters b (placed Lexeme.RightParen u ∷ placed Lexeme.Semicolon v ∷ c) ps h
      → IsEntity (placed (Lexeme.Name s) q ∷ placed Lexeme.Equal r ∷ a) c
      (an_instance s (class_text class) (begins class) ps q) h

-- ---- connections

-- a port of an instance, or of the network if that is empty
pub data End : Type 0 where
  an_end : (instance port : List ℕ) (at : ℕ) → End

-- End        = [Name "."] Name
pub data IsEnd : List Placed → List Placed → End → Type 0 where
  the_own_port : {s : List ℕ} {q : ℕ} {a : List Placed}
      → IsEnd (placed (Lexeme.Name s) q ∷ a) a (an_end [] s q)
  the_port_of : {s i : List ℕ} {q r t : ℕ} {a : List Placed}
      → IsEnd (placed (Lexeme.Name i) q ∷ placed Lexeme.Dot r ∷ placed (Lexeme.Name s) t ∷ a) a
      (an_end i s q)

-- what an attribute asks for: `bufferSize` counts, and other names are passed over
abbrev pub asked : (name : List ℕ) (value : Tree) (at : ℕ) → List Size
asked name value at = if bytes_eq name size_word then a_size value at ∷ [] else []

-- {Attribute}
-- Attribute  = Name "=" Expr ";"
pub data AreAttributes : List Placed → List Placed → List Size → ℕ → Type 0 where
  the_no_attributes : {a : List Placed} → AreAttributes a a [] 0
  the_next_attribute : {s : List ℕ} {q r t h : ℕ} {a b c : List Placed} {x : Tree}
      {zs : List Size}
      → AreAttributes a (placed (Lexeme.Name s) q ∷ placed Lexeme.Equal r ∷ b) zs h
      → Spells an_expr b (placed Lexeme.Semicolon t ∷ c) x
      → AreAttributes a c (zs ++ asked s x q) (max h (height x))

-- Attributes = ["{" {Attribute} "}"]
pub data InBraces : List Placed → List Placed → List Size → ℕ → Type 0 where
  the_no_braces : {a : List Placed} → InBraces a a [] 0
  the_braces : {q r h : ℕ} {a b : List Placed} {zs : List Size}
      → AreAttributes a (placed Lexeme.RightBrace r ∷ b) zs h
      → InBraces (placed Lexeme.LeftBrace q ∷ a) b zs h

-- Connection = End "-->" End Attributes ";"
pub data IsConnection : List Placed → List Placed → Connection → ℕ → Type 0 where
  the_connection : {src src_port dst dst_port : List ℕ} {at place q r h : ℕ}
      {a b c d : List Placed} {zs : List Size}
      → IsEnd a (placed Lexeme.LongArrow q ∷ b) (an_end src src_port at)
      → IsEnd b c (an_end dst dst_port place) → InBraces c (placed Lexeme.Semicolon r ∷ d) zs h
      → IsConnection a d (a_connection src src_port dst dst_port zs at) h

-- ---- networks

-- End of a network = "end" ["network"]
pub data IsClosed : List Placed → List Placed → Type 0 where
  the_end : {q : ℕ} {a : List Placed} → IsClosed (placed Lexeme.End q ∷ a) a
  the_named_end : {q r : ℕ} {a : List Placed}
      → IsClosed (placed Lexeme.End q ∷ placed (Lexeme.Name network_word) r ∷ a) a

-- Network    = "network" Name "(" [Param {"," Param}] ")" [Ports] "==>" [Ports] ":" Variables
--              "entities" {Entity} "structure" {Connection} "end" ["network"]
pub data IsNetwork : List Placed → List Placed → Net → ℕ → Type 0 where
  the_network : {s : List ℕ} {q r t u v w i j h k l : ℕ} {a b c d e f g o : List Placed}
      {ps ins outs : Tree} {ds : List Decl} {is : List Instance} {cs : List Connection}
      → Spells (any comma a_param) a (placed Lexeme.RightParen u ∷ b) ps
      → Spells (any comma a_port) b (placed Lexeme.LongDoubleArrow v ∷ c) ins
      → Spells (any comma a_port) c (placed Lexeme.Colon w ∷ d) outs
      → AreVariables d (placed (Lexeme.Name entities_word) i ∷ e) ds h
      → Repeated IsEntity e (placed (Lexeme.Name structure_word) j ∷ f) is k
      → Repeated IsConnection f g cs l → IsClosed g o
      → IsNetwork (placed (Lexeme.Name network_word) q ∷ placed (Lexeme.Name s) r
      ∷ placed Lexeme.LeftParen t ∷ a) o (record {
        name = s;
        ports = net_ports true ins ++ net_ports false outs;
        decls = param_decls ps ++ ds;
        instances = is;
        connections = cs;
        at = q;
      }) (max (max (height ps) (max (height ins) (height outs))) (max h (max k l)))

-- Text       = ["package" Tag ";"] Network
pub data IsText : List Placed → List Placed → Net → ℕ → Type 0 where
  the_text : {a b : List Placed} {n : Net} {h : ℕ} → IsNetwork a b n h → IsText a b n h
  the_packaged_text : {q r h : ℕ} {a b c : List Placed} {t : Tree} {n : Net}
      → Spells a_tag a (placed Lexeme.Semicolon r ∷ b) t → IsNetwork b c n h
      → IsText (placed Lexeme.Package q ∷ a) c n h

-- these tokens together spell the network, with this height
abbrev pub spells_nl : List Placed → Net → ℕ → Type 0
spells_nl ts n h = IsText ts [] n h
