use Rattle.std.proofs.Common.{◌≡◌, true, false, sym, ◌∙◌, rules}
use Rattle.fnl_bind.specs.Library.{is_among}
use Rattle.fnl_scopes.specs.View.{local_names}
use Rattle.fnl_scopes.proofs.Gens.{among_here, among_outside}
use Rattle.fnl_scopes.proofs.frames.Inside.has.Goals as goal

pub returns-then-is_local : goal.returns-then-is_local
returns-then-is_local c =
    let found : is_among c.args.name.now (local_names c.args.self.now.frame) ≡ true = search rules in
    c.is_local.ensures ∙ found ∙ sym (among_here c.args.name.now (local_names c.args.self.now.frame) c.args.self.now.declared.now found)

pub returns-else-is_local : goal.returns-else-is_local
returns-else-is_local c =
    let missing : is_among c.args.name.now (local_names c.args.self.now.frame) ≡ false = search rules in
    c.has.ensures ∙ sym (among_outside c.args.name.now (local_names c.args.self.now.frame) c.args.self.now.declared.now missing)
