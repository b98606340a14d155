use Rattle.std.proofs.Common.{◌≡◌, ◌++◌, ap, ◌∙◌, rules}
use Rattle.fnl_scopes.specs.View.{counters, frame_names, local_names}
use Rattle.fnl_scopes.specs.declared.frames.Frame as chain
use Rattle.fnl_scopes.specs.declared.frames.Frame.{out-Frame}
use Rattle.fnl_scopes.proofs.Gens.{seen_under}
use Rattle.fnl_scopes.proofs.frames.Inside.under.Goals as goal

pub returns : goal.returns
returns c =
    let these : frame_names c.args.frame.now ≡ counters (out-Frame c.args.frame.now).gens.now ++ local_names (out-Frame c.args.frame.now).outer = search (rules, chain.the_lemmas) in
    ap (λ ns. ns ++ c.args.self.now.declared.now) (these ∙ ap (λ ns. counters (out-Frame c.args.frame.now).gens.now ++ ns) c.requires)
    ∙ seen_under (out-Frame c.args.frame.now).gens.now (local_names c.args.self.now.frame) c.args.self.now.declared.now
