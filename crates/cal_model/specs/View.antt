-- What the declared types stand for, without where they lie in memory.
-- Trusted but for `values_view`: part of what a promise means.
use Rattle.std.specs.Prelude.{List, [], ◌∷◌, map, option_map, string_bytes}
use Rattle.cal_ast.specs.Tree.{listed}
use Rattle.cal_ast.specs.View.{expr_tree, stmt_tree}
use Rattle.cal_model.specs.declared.kind.Kind.{Kind as DeclaredKind}
use Rattle.cal_model.specs.declared.kind.Kind.TheOpen.{Kind-F}
use Rattle.cal_model.specs.declared.kind.Kind.TheFolds.{fold-Kind}
use Rattle.cal_model.specs.declared.kind.Shape.{Shape as DeclaredShape}
use Rattle.cal_model.specs.declared.kind.Shape.TheOpen.{Shape-F}
use Rattle.cal_model.specs.declared.kind.Shape.TheFolds.{fold-Shape}
use Rattle.cal_model.specs.declared.value.Value.{Value as DeclaredValue}
use Rattle.cal_model.specs.declared.value.Values.{Values as DeclaredValues}
use Rattle.cal_model.specs.declared.value.Value.TheOpen.{Value-F, Values-F}
use Rattle.cal_model.specs.declared.value.Value.TheFolds.{fold-Value, fold-Values}
use Rattle.cal_model.specs.declared.bound.Bound.{Bound}
use Rattle.cal_model.specs.declared.bound.Port.{Port as DeclaredPort}
use Rattle.cal_model.specs.declared.bound.BoundVar.{BoundVar}
use Rattle.cal_model.specs.declared.bound.BoundLocal.{BoundLocal}
use Rattle.cal_model.specs.declared.bound.BoundFun.{BoundFun}
use Rattle.cal_model.specs.declared.bound.BoundProc.{BoundProc}
use Rattle.cal_model.specs.declared.bound.BoundPattern.{BoundPattern}
use Rattle.cal_model.specs.declared.bound.BoundOutput.{BoundOutput}
use Rattle.cal_model.specs.declared.bound.BoundAction.{BoundAction}
use Rattle.cal_model.specs.declared.bound.BoundMove.{BoundMove}
use Rattle.cal_model.specs.Value.{Kind, NumKind, BoolKind, ListKind, Shape, Single, Many, Value, Num, Truth, Items, Values, Nil, Cons}
use Rattle.cal_model.specs.Actor.{Port, Held, Local, Fun, Proc, Pattern, Output, Action, Move, Actor}

abbrev pub kind_step : Kind-F Kind → Kind
kind_step Kind-F.Num = NumKind
kind_step Kind-F.Bool = BoolKind
kind_step (Kind-F.List size items) = ListKind size items.value

abbrev pub kind_view : DeclaredKind → Kind
kind_view = fold-Kind Kind kind_step

abbrev pub shape_step : Shape-F Shape → Shape
shape_step (Shape-F.Scalar t) = Single t
shape_step (Shape-F.List size items) = Many size items.value

abbrev pub shape_view : DeclaredShape → Shape
shape_view = fold-Shape Shape shape_step

-- the values of a list
abbrev pub in_order : List Value → Values
in_order [] = Nil
in_order (v ∷ vs) = Cons v (in_order vs)

abbrev pub value_step : Value-F Value Values → Value
value_step (Value-F.Num z) = Num z
value_step (Value-F.Bool b) = Truth b
value_step (Value-F.List vs) = Items vs

abbrev pub values_step : Values-F Value Values → Values
values_step vs = in_order vs.items.items

abbrev pub value_view : DeclaredValue → Value
value_view = fold-Value Value Values value_step values_step

abbrev pub values_view : DeclaredValues → Values
values_view = fold-Values Value Values value_step values_step

-- ---- actors

abbrev pub port_view : DeclaredPort → Port
port_view p = record { name = string_bytes p.name; kind = p.kind }

abbrev pub var_view : BoundVar → Held
var_view x =
    record {
      name = string_bytes x.name;
      shape = shape_view x.shape;
      value = value_view x.value;
      changes = x.changes;
    }

abbrev pub local_view : BoundLocal → Local
local_view x =
    record {
      name = string_bytes x.name;
      shape = shape_view x.shape;
      start = option_map expr_tree x.start;
      changes = x.changes;
    }

abbrev pub fun_view : BoundFun → Fun
fun_view f = record {
  name = string_bytes f.name;
  formals = map local_view f.formals.items;
  locals = map local_view f.locals.items;
  result = f.result;
  body = expr_tree f.body;
}

abbrev pub proc_view : BoundProc → Proc
proc_view p = record {
  name = string_bytes p.name;
  formals = map local_view p.formals.items;
  locals = map local_view p.locals.items;
  body = listed (map stmt_tree p.body.items);
}

abbrev pub pattern_view : BoundPattern → Pattern
pattern_view q = record { port = q.port; names = map string_bytes q.names.items; repeat = q.repeat }

abbrev pub output_view : BoundOutput → Output
output_view o =
    record { port = o.port; values = listed (map expr_tree o.values.items); repeat = o.repeat }

abbrev pub action_view : BoundAction → Action
action_view act = record {
  tag = map string_bytes act.tag.items;
  patterns = map pattern_view act.patterns.items;
  outputs = map output_view act.outputs.items;
  guards = map expr_tree act.guards.items;
  locals = map local_view act.locals.items;
  body = listed (map stmt_tree act.body.items);
  initialize = act.initialize;
}

abbrev pub move_view : BoundMove → Move
move_view m = record { from = m.from; action = m.action; to = m.to }

-- the actor that a `Bound` says
abbrev pub actor_of : Bound → Actor
actor_of b = record {
  class = string_bytes b.class;
  ins = map port_view b.ins.items;
  outs = map port_view b.outs.items;
  vars = map var_view b.vars.items;
  funs = map fun_view b.funs.items;
  procs = map proc_view b.procs.items;
  actions = map action_view b.actions.items;
  states = map string_bytes b.states.items;
  moves = map move_view b.moves.items;
  pairs = map (λ p. (p.0, p.1)) b.pairs.items;
}
