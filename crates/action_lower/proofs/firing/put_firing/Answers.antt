use Rattle.std.proofs.Common.{◌≡◌, List, None, map, rules, subst, sym}
use Rattle.std.specs.Prelude.{IfErr, IfOk}
use Rattle.std.proofs.lemmas.Result.{IfOk-weaker}
use Rattle.cal_model.specs.Actor.{Action, Port}
use Rattle.cal_model.specs.View.{action_view, local_view, port_view}
use Rattle.lower_base.specs.Held.{AreBelow}
use Rattle.lower_base.specs.Lowered.{Adds}
use Rattle.lower_stmt.specs.Changing.{AreTyped}
use Rattle.lower_base.specs.Names.{Name, names_view}
use Rattle.lower_stmt.specs.Procedures.{Routines, routines_of}
use Rattle.action_lower.specs.FiringCode.{IsFiringCode}
use Rattle.action_lower.specs.FiringWords.{IsBehindCode, left_out_behind}
use Rattle.action_lower.specs.LocalCode.{AreStarted, left_out_locals}
use Rattle.action_lower.specs.SendWords.{IsSendFault}
use Rattle.action_lower.proofs.AddingFirings.{firing_adds, firing_open, started_below, started_typed}
use Rattle.action_lower.proofs.firing.put_firing.Goals as goal

pub put_behind-requires : goal.put_behind-requires
put_behind-requires c =
    let rs : Routines = routines_of c.args.callees.now c.args.procedures.now in
    let names : List Name = names_view c.args.names.now.items in
    let behind : List Name = names_view c.lower_locals.new.names.items in
    let here : c.deref.result.now ≡ c.args.act.now.locals.items = search rules in
    let there : names_view c.deref-2.result.now ≡ behind = search rules in
    let started : Adds (AreStarted rs.functions names (map local_view c.args.act.now.locals.items) behind) c.args.draft.now c.lower_locals.new.draft =
    subst (λ xs. Adds (AreStarted rs.functions names (map local_view xs) behind) c.args.draft.now c.lower_locals.new.draft) here c.in_ok-lower_locals.ensures.code in
    record {
      below = subst (AreBelow c.lower_locals.new.draft.cells) (sym there) (started_below started.has c.requires.below);
      typed = subst AreTyped (sym there) (started_typed started.has c.requires.sized c.requires.typed);
      few = c.requires.few;
    }

pub returns-clause-code : goal.returns-clause-code
returns-clause-code c =
    let rs : Routines = routines_of c.args.callees.now c.args.procedures.now in
    let names : List Name = names_view c.args.names.now.items in
    let behind : List Name = names_view c.lower_locals.new.names.items in
    let ports : List Port = map port_view c.args.ports.now in
    let act : Action = action_view c.args.act.now in
    let here : c.deref.result.now ≡ c.args.act.now.locals.items = search rules in
    let there : names_view c.deref-2.result.now ≡ behind = search rules in
    let started : Adds (AreStarted rs.functions names act.locals behind) c.args.draft.now c.lower_locals.new.draft =
    subst (λ xs. Adds (AreStarted rs.functions names (map local_view xs) behind) c.args.draft.now c.lower_locals.new.draft) here c.in_ok-lower_locals.ensures.code in
    IfOk-weaker c.put_behind.result (λ firsts. Adds (IsBehindCode rs (names_view c.deref-2.result.now) ports act firsts.items) c.lower_locals.new.draft c.put_behind.new.draft)
    (λ firsts. Adds (IsFiringCode rs names ports act firsts.items) c.args.draft.now c.put_behind.new.draft)
    (λ firsts added. firing_adds rs names behind ports act firsts.items c.args.draft.now c.lower_locals.new.draft c.put_behind.new.draft started
    (subst (λ ns. Adds (IsBehindCode rs ns ports act firsts.items) c.lower_locals.new.draft c.put_behind.new.draft) there added))
    c.put_behind.ensures.code

pub returns-clause-whole : goal.returns-clause-whole
returns-clause-whole c =
    let rs : Routines = routines_of c.args.callees.now c.args.procedures.now in
    let names : List Name = names_view c.args.names.now.items in
    let behind : List Name = names_view c.lower_locals.new.names.items in
    let here : c.deref.result.now ≡ c.args.act.now.locals.items = search rules in
    let there : names_view c.deref-2.result.now ≡ behind = search rules in
    let started : Adds (AreStarted rs.functions names (map local_view c.args.act.now.locals.items) behind) c.args.draft.now c.lower_locals.new.draft =
    subst (λ xs. Adds (AreStarted rs.functions names (map local_view xs) behind) c.args.draft.now c.lower_locals.new.draft) here c.in_ok-lower_locals.ensures.code in
    let none : left_out_locals rs.functions names (map local_view c.args.act.now.locals.items) ≡ None = subst (λ xs. left_out_locals rs.functions names (map local_view xs) ≡ None) here c.in_ok-lower_locals.ensures.whole in
    let open_ = firing_open rs names behind c.args.act.now started.has none in
    subst (λ o. IfOk c.put_behind.result (λ firsts. o ≡ None)) (sym open_) (subst (λ ns. IfOk c.put_behind.result (λ firsts. left_out_behind rs ns c.args.act.now ≡ None)) there c.put_behind.ensures.whole)

pub returns-clause-fault : goal.returns-clause-fault
returns-clause-fault c =
    let rs : Routines = routines_of c.args.callees.now c.args.procedures.now in
    let names : List Name = names_view c.args.names.now.items in
    let behind : List Name = names_view c.lower_locals.new.names.items in
    let here : c.deref.result.now ≡ c.args.act.now.locals.items = search rules in
    let there : names_view c.deref-2.result.now ≡ behind = search rules in
    let started : Adds (AreStarted rs.functions names (map local_view c.args.act.now.locals.items) behind) c.args.draft.now c.lower_locals.new.draft =
    subst (λ xs. Adds (AreStarted rs.functions names (map local_view xs) behind) c.args.draft.now c.lower_locals.new.draft) here c.in_ok-lower_locals.ensures.code in
    let none : left_out_locals rs.functions names (map local_view c.args.act.now.locals.items) ≡ None = subst (λ xs. left_out_locals rs.functions names (map local_view xs) ≡ None) here c.in_ok-lower_locals.ensures.whole in
    let open_ = firing_open rs names behind c.args.act.now started.has none in
    subst (λ o. IfErr c.put_behind.result (IsSendFault o c.put_behind.new.draft)) (sym open_) (subst (λ ns. IfErr c.put_behind.result (IsSendFault (left_out_behind rs ns c.args.act.now) c.put_behind.new.draft)) there c.put_behind.ensures.fault)
