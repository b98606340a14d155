use Rattle.std.proofs.Common.{◌≡◌, ◌∷◌, ◌++◌, [], ap, ◌∙◌, rules}
use Rattle.cal_ast.specs.View.{action_tree}
use Rattle.cal_check.specs.Actors.{actions_of}
use Rattle.check_member.specs.Parts.{action_views}
use Rattle.check_build_actor.proofs.PastLacks.{head_added}
use Rattle.check_build_actor.specs.Building.{heads_of}
use Rattle.check_build_actor.proofs.others.push_head.Goals as goal

pub returns : goal.returns
returns c = λ acts around.
    let items : c.push.new.self.items ≡ c.args.found.now.items ++ (c.in_ok-head.head ∷ []) = search rules in
    ap (λ xs. heads_of (action_views xs) ++ heads_of (actions_of acts around)) items
    ∙ head_added c.args.found.now.items c.in_ok-head.head (action_tree c.args.a.now) acts around (c.in_ok-head.ensures around)
