-- A network as it was read: what is written, and where, with no memory.
--
-- `at` is the offset of the `<` of an element. Types and expressions are trees of the language; a
-- value that is missing is `absent`.
-- Trusted: part of what a promise means.
use Rattle.std.specs.Prelude.{ℕ, List, [], Bool}
use Rattle.cal_ast.specs.Tree.{Tree}

pub data Port : Type 0 where
  a_port : (input : Bool) (shape : Tree) (name : List ℕ) (at : ℕ) → Port

pub data Decl : Type 0 where
  a_decl : (param : Bool) (shape : Tree) (name : List ℕ) (value : Tree) (at : ℕ) → Decl

pub data Parameter : Type 0 where
  a_parameter : (name : List ℕ) (value : Tree) (at : ℕ) → Parameter

pub data Instance : Type 0 where
  an_instance : (id class : List ℕ) (class_at : ℕ) (parameters : List Parameter) (at : ℕ) → Instance

-- the value of a `bufferSize`
pub data Size : Type 0 where
  a_size : (value : Tree) (at : ℕ) → Size

-- an end with an empty instance is the network's own port
pub data Connection : Type 0 where
  a_connection : (src src_port dst dst_port : List ℕ) (sizes : List Size) (at : ℕ) → Connection

pub record Net : Type 0 where
  pub name : List ℕ
  pub ports : List Port
  pub decls : List Decl
  pub instances : List Instance
  pub connections : List Connection
  pub at : ℕ

-- a network in which nothing is
abbrev pub empty_net : List ℕ → ℕ → Net
empty_net name at = record {
  name = name;
  ports = [];
  decls = [];
  instances = [];
  connections = [];
  at = at;
}
