use Rattle.std.proofs.Common.{[], ◌∷◌, ◌++◌, ap, ◌∙◌}
use Rattle.check_functions.specs.Said.{with_places}
use Rattle.check_functions.proofs.Telling.{put_more}
use Rattle.check_functions.proofs.said.Said.add.Goals as goal

pub returns : goal.returns
returns c =
    put_more c.args.name.now c.args.place [] c.push.new.self.items c.args.self.now c.put-2.new.self c.put-3.new.self
    (c.in_ok-places.ensures.put ∙ ap (λ ps. with_places c.args.name.now ps c.args.self.now) c.new.ensures.items)
    (c.in_ok-push.ensures.items ∙ ap (λ ps. ps ++ c.args.place ∷ []) c.in_ok-places.ensures.before) c.in_ok-_none.ensures.put
