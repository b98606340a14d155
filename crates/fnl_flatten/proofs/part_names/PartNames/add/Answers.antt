use Rattle.std.proofs.Common.{◌≡◌, true, false, [], ◌∷◌, ◌++◌, None, map, sym, ap, ◌∙◌, rules, is_some}
use Rattle.std.proofs.lemmas.List.{append_assoc}
use Rattle.std.specs.Prelude.{string_bytes}
use Rattle.fnl_tree.specs.View.{inner_of, part_of}
use Rattle.fnl_flatten.specs.Joints.{part_named}
use Rattle.fnl_flatten.specs.Named.{part_entry}
use Rattle.fnl_flatten.proofs.Lookups.{added_part, none_inner, some_inner, second_part}
use Rattle.fnl_flatten.proofs.part_names.PartNames.add.Goals as goal

pub returns-then-is_some : goal.returns-then-is_some
returns-then-is_some c parts id =
    let name : c.as_str.result.now ≡ string_bytes c.args.part.now.id = search rules in
    let has : is_some c.get.result ≡ true = search rules in
    second_part id c.args.self.now (part_of c.args.part.now) parts
    (ap is_some (ap (λ n. part_named n c.args.self.now) (sym name) ∙ sym c.get.ensures) ∙ some_inner c.get.result has)

pub returns : goal.returns
returns c parts id =
    let name : c.as_str.result.now ≡ string_bytes c.args.part.now.id = search rules in
    let same : string_bytes c.in_ok-id.id ≡ string_bytes c.args.part.now.id = search rules in
    let lacks : is_some c.get.result ≡ false = search rules in
    let none : part_named (string_bytes c.in_ok-id.id) (map part_entry c.self.inside.inners.entries) ≡ None =
    ap (λ n. part_named n (map part_entry c.self.inside.inners.entries)) (same ∙ sym name)
    ∙ ap (part_named c.as_str.result.now) c.self.view_is
    ∙ sym c.get.ensures ∙ none_inner c.get.result lacks in
    ap (λ ps. part_named id (ps ++ parts))
    (ap (map part_entry) c.in_ok-insert.ensures.entries
    ∙ added_part c.self.inside.inners c.in_ok-id.id c.args.part.now.inner none
    ∙ ap (λ n. map part_entry c.self.inside.inners.entries ++ record { id = n; inner = inner_of c.args.part.now.inner } ∷ []) same
    ∙ ap (λ ps. ps ++ part_of c.args.part.now ∷ []) c.self.view_is)
    ∙ ap (part_named id) (append_assoc c.args.self.now (part_of c.args.part.now ∷ []) parts)
