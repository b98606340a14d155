-- Elements that are open: of each, what was read of it.
-- Trusted: part of what a promise means.
use Rattle.std.specs.Prelude.{ℕ, List, Bool, Option}
use Rattle.cal_ast.specs.Tree.{Tree}
use Rattle.cal_ast.specs.declared.expr.PrefixOp.{PrefixOp}
use Rattle.fnl_expr.specs.Operations.{Pending}
use Rattle.fnl_frames.specs.Net.{Net, Parameter, Size}

-- the class of an instance, and the offset of its element
pub data Class : Type 0 where
  a_class : (name : List ℕ) (at : ℕ) → Class

pub data Frame : Type 0 where
  -- before the network, or behind it
  outside : Option Net → Frame
  in_network : Net → Frame
  in_port : (input : Bool) (name : List ℕ) (shape : Option Tree) (at : ℕ) → Frame
  in_decl : (param : Bool) (name : List ℕ) (shape value : Option Tree) (at : ℕ) → Frame
  in_instance : (id : List ℕ) (class : Option Class) (parameters : List Parameter) (at : ℕ) → Frame
  in_parameter : (name : List ℕ) (value : Option Tree) (at : ℕ) → Frame
  in_connection : (src src_port dst dst_port : List ℕ) (sizes : List Size) (at : ℕ) → Frame
  -- an attribute `bufferSize` of a connection
  in_size : (value : Option Tree) (at : ℕ) → Frame
  in_type : (name : Tree) (args : List Tree) (at : ℕ) → Frame
  -- an entry of a type: an expression, or a type
  in_value : (name : Tree) (value : Option Tree) → Frame
  in_shape : (name : Tree) (shape : Option Tree) → Frame
  in_list : (items : List Tree) (at : ℕ) → Frame
  in_unary : (op : Option PrefixOp) (operand : Option Tree) (at : ℕ) → Frame
  -- a `BinOpSeq`: the operands that wait, the last first, and the one that no operator followed yet
  in_sequence : (waiting : List Pending) (operand : Option Tree) (at : ℕ) → Frame
  -- an element that has nothing inside
  in_empty : Frame
  -- an attribute that is passed over, or what stands in it
  in_passed : Frame
