use Rattle.std.proofs.Common.{◌≡◌, [], ◌∷◌, ◌++◌, ap, ◌∙◌, rules}
use Rattle.std.specs.Prelude.{length, option_map, string_bytes}
use Rattle.cal_model.specs.View.{kind_view, value_view}
use Rattle.const_env.specs.Held.{entry_view, globals_of, last_first}
use Rattle.const_env.specs.Standing.{with_place}
use Rattle.const_env.proofs.Backwards.{last_more}
use Rattle.const_env.proofs.Leading.{entry_pushed}
use Rattle.const_env.specs.declared.held.Entry.{Entry}
use Rattle.const_env.proofs.env.Env.add.Goals as goal

pub invariant_of-self-2 : goal.invariant_of-self-2
invariant_of-self-2 c =
    let x : Entry = record { name = c.in_ok-own.own; kind = c.args.kind; value = c.args.value; changes = c.args.changes } in
    let items : c.push.new.self.items ≡ c.self.inside.entries.items ++ x ∷ [] = search rules in
    let name : string_bytes c.in_ok-own.own ≡ c.args.name.now = search rules in
    let places : c.put_next.new.self ≡ with_place c.args.name.now (length c.self.inside.entries.items) c.self.inside.entry_places = search rules in
    let leads = entry_pushed entry_view c.self.inside.entries.items c.push.new.self.items x c.args.name.now c.self.inside.entry_places c.put_next.new.self c.self.invariant.1 items name places in
    (c.self.invariant.0, leads, c.self.invariant.2)

pub returns-clause-added : goal.returns-clause-added
returns-clause-added c =
    let x : Entry = record { name = c.in_ok-own.own; kind = c.args.kind; value = c.args.value; changes = c.args.changes } in
    let items : c.push.new.self.items ≡ c.self.inside.entries.items ++ x ∷ [] = search rules in
    let same : last_first entry_view c.self.inside.entries.items [] ≡ globals_of c.args.self.now = search rules in
    let view : entry_view x ≡ record { name = c.args.name.now; kind = kind_view c.args.kind; value = option_map value_view c.args.value; changes = c.args.changes } = search rules in
    ap (λ xs. last_first entry_view xs []) items ∙ last_more entry_view c.self.inside.entries.items x [] ∙ ap (λ k. k ∷ last_first entry_view c.self.inside.entries.items []) view ∙ ap (λ ks. (record { name = c.args.name.now; kind = kind_view c.args.kind; value = option_map value_view c.args.value; changes = c.args.changes }) ∷ ks) same
