use Rattle.std.proofs.Common.{◌≡◌, false, Some, sym, ap, subst, ◌∙◌, rules}
use Rattle.std.specs.Prelude.{if◌then◌else◌, string_bytes}
use Rattle.cal_scope.specs.Judging.{Judges}
use Rattle.cal_scope.specs.Names.{full_name, global_named, is_among, local}
use Rattle.cal_scope.specs.Meanings.{meaning_of}
use Rattle.cal_scope.specs.View.{local_names}
use Rattle.cal_scope.proofs.frames.Inside.full_name.Goals as goal

pub returns-in-Some : goal.returns-in-Some
returns-in-Some c =
    let away : is_among c.args.name.now (local_names c.args.self.now.frame) ≡ false = search rules in
    let known : global_named c.args.name.now c.args.self.now.file.now ≡ Some (meaning_of c.args.name.now c.in-Some.meaning.now) = search rules in
    subst (λ o. Judges string_bytes c.meant.result (full_name c.args.role c.args.at o))
    (sym (ap (λ b. if b then Some (local c.args.name.now) else global_named c.args.name.now c.args.self.now.file.now) away ∙ known)) (c.meant.ensures c.args.name.now)
