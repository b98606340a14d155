-- What the declared types stand for, without where they lie in memory.
-- Trusted: part of what a promise means.
use Rattle.std.specs.Prelude.{List, map, string_bytes}
use Rattle.fnl_flatten.specs.declared.head.Head.{Head as DeclaredHead}
use Rattle.fnl_flatten.specs.declared.head.HeadPort.{HeadPort as DeclaredPort}
use Rattle.fnl_flatten.specs.Head.{HeadPort, Head}

abbrev pub head_port_of : DeclaredPort → HeadPort
head_port_of p = record { name = string_bytes p.name; kind = p.kind; largest = p.largest }

abbrev pub head_of : DeclaredHead → Head
head_of head = record {
  ins = map head_port_of head.ins.items;
  outs = map head_port_of head.outs.items;
}

-- the ports of all leaves
abbrev pub heads_of : List DeclaredHead → List Head
heads_of heads = map head_of heads
