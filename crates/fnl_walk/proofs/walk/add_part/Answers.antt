use Rattle.std.proofs.Common.{◌≡◌, [], ◌∷◌, ◌++◌, map, ap, ◌∙◌, rules}
use Rattle.std.specs.Prelude.{slice_index_or}
use Rattle.std.proofs.lemmas.List.{map-append}
use Rattle.fnl_tree.specs.View.{net_of, part_of}
use Rattle.fnl_tree.specs.declared.tree.Net.{Net}
use Rattle.fnl_tree.specs.declared.tree.Part.{Part as DeclaredPart}
use Rattle.fnl_walk.proofs.Parts.{set_parts}
use Rattle.fnl_walk.proofs.walk.add_part.Goals as goal

pub returns : goal.returns
returns c =
    let old : Net = c.index_mut.result.now in
    let new : Net = record old { parts = c.push.new.self } in
    let part : DeclaredPart = record { id = c.args.id; inner = c.args.inner } in
    let at : old ≡ slice_index_or c.args.nets.now.items c.args.number old = search rules in
    let pushed : c.push.new.self.items ≡ old.parts.items ++ part ∷ [] = search rules in
    set_parts c.args.nets.now.items c.args.number old new (part_of part) c.requires at
    (ap (λ ps. record (net_of old) { parts = ps }) (ap (map part_of) pushed ∙ map-append part_of old.parts.items (part ∷ [])))
