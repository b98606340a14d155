-- The parts of a network by their names, and which rule a fault names.
-- Not trusted: no promise is read with it.
use Rattle.std.specs.Prelude.{◌≡◌, ℕ, ◌≤◌, List, length, Contains, string_bytes, String}
use Rattle.std.specs.declared.alloc.Global.{Global}
use Rattle.rvc_base.specs.declared.refusal.Front.{Front}
use Rattle.rvc_base.specs.declared.refusal.Front.TheVariants.{Refused, Memory as NoMemory}
use Rattle.cal_model.specs.Sound.{max_ports}
use Rattle.fnl_tree.specs.declared.tree.Inner.{Inner as DeclaredInner}
use Rattle.fnl_tree.specs.declared.tree.Net.{Net as DeclaredNet}
use Rattle.fnl_tree.specs.Tree.{Part}
use Rattle.fnl_tree.specs.View.{inner_of}
use Rattle.fnl_flatten.specs.declared.fault.Fault.{Fault}
use Rattle.fnl_flatten.specs.declared.fault.Fault.TheVariants.{Broken, Memory}
use Rattle.fnl_flatten.specs.declared.head.Head.{Head as DeclaredHead}
use Rattle.fnl_flatten.specs.Joints.{part_named}
use Rattle.fnl_flatten.specs.Rules.{Found}

abbrev pub part_entry : String Global × DeclaredInner → Part
part_entry e = record { id = string_bytes e.0; inner = inner_of e.1 }

-- the same part by each name
abbrev pub NameAlike : List Part → List Part → Type 0
NameAlike parts those = (id : List ℕ) → part_named id parts ≡ part_named id those

-- its ports are within their limit
pub record HasFewPorts (net : DeclaredNet) : Type 0 where
  pub ins : length net.ins.items ≤ max_ports
  pub outs : length net.outs.items ≤ max_ports

pub record HasFewEnds (head : DeclaredHead) : Type 0 where
  pub ins : length head.ins.items ≤ max_ports
  pub outs : length head.outs.items ≤ max_ports

-- the rule that a fault names is broken there
abbrev pub IsCause : List Found → Fault → Type 0
IsCause broken (Broken rule file at) = Contains broken (record { rule = rule; file = file; at = at })
IsCause broken Memory = Unit {0}

-- a fault as it is answered
abbrev pub IsFrontOf : Fault → Front → Type 0
IsFrontOf (Broken rule file at) answer =
    answer ≡ Refused (record { rule = rule; place = record { file = file; offset = at } })
IsFrontOf Memory answer = answer ≡ NoMemory
