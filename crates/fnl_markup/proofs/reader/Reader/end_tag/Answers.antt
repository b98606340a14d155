use Rattle.std.proofs.Common.{◌≡◌, ◌∷◌, [], ◌++◌, refl, ap, ◌∙◌}
use Rattle.std.proofs.lemmas.List.{map-append}
use Rattle.std.specs.Prelude.{map}
use Rattle.fnl_markup.specs.Tags.{closes, plain, plain_tags}
use Rattle.fnl_markup.specs.Stepped.{bytes_of}
use Rattle.fnl_markup.proofs.Names.{last_added, others_kept, some_names}
use Rattle.fnl_markup.proofs.reader.Reader.end_tag.Goals as goal

pub returns : goal.returns
returns c =
    let others = map bytes_of c.pop.new.self.items in
    let name = c.in-Some.name.items in
    let split : map bytes_of c.args.self.now.opened.items ≡ others ++ name ∷ [] = ap (map bytes_of) c.in-Some.ensures.items ∙ map-append bytes_of c.pop.new.self.items _ in
    let tags : plain_tags c.push.new.self.items ≡ plain_tags c.args.self.now.tags.items ++ closes c.args.at ∷ [] = ap plain_tags c.in_ok-push.ensures.items ∙ map-append plain c.args.self.now.tags.items _ in
    rw (split, some_names others name, last_added others name, others_kept others name, tags) refl
