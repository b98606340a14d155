-- The reader: reading a rule is running its program, and what is read keeps to the rule.
use Rattle.std.proofs.Common.{◌≡◌, ℕ, ◌<◌, List}
use Rattle.cal_grammar.specs.Program.{exec}
use Rattle.cal_grammar.proofs.Gets.{Gets}
use Rattle.cal_grammar.proofs.Ending
use Rattle.cal_lexer.specs.Lexeme.{Placed}
use Rattle.cal_grammar.specs.Spells.{Part, separated, rest, any, repeated, level, a_postfix, a_primary, a_gen, a_type, a_type_arg, a_var, some_vars, a_param, a_port, a_name, a_tag, a_place, a_stmt, otherwise, a_function, a_procedure, some_guards, some_repeat, a_body, an_in, an_out, an_action, a_labelled, a_move, a_schedule, a_chain, a_priority, a_member, members, a_unit_member, a_path, an_import, an_actor, a_unit, some_imports, a_file}
use Rattle.cal_grammar.specs.Rules.{Rule, part, chain, places, type_tail, var_tail, whole, size, body, read}
use Rattle.cal_grammar.proofs.Meets.{Meets, Keeps, fails, nothing_spent}
use Rattle.cal_grammar.proofs.Sound
use Rattle.cal_grammar.proofs.Sound.{Kept}
use Rattle.cal_grammar.proofs.SoundStatements
use Rattle.cal_grammar.proofs.SoundMembers

part_kept : (m : ℕ) (p : Part) (ts : List Placed) → Kept p m ts
part_kept m (separated v p) ts = Sound.separated_kept m v p ts
part_kept m (rest v p) ts = Sound.rest_kept m v p ts
part_kept m (any v p) ts = Sound.any_kept m v p ts
part_kept m (repeated p) ts = Sound.repeated_kept m p ts
part_kept m (level n) ts = Sound.level_kept m n ts
part_kept m a_postfix ts = Sound.postfix_kept m ts
part_kept m a_primary ts = Sound.primary_kept m ts
part_kept m a_gen ts = Sound.gen_kept m ts
part_kept m a_type ts = Sound.type_kept m ts
part_kept m a_type_arg ts = Sound.type_arg_kept m ts
part_kept m a_var ts = Sound.var_kept m ts
part_kept m some_vars ts = Sound.some_vars_kept m ts
part_kept m a_param ts = Sound.param_kept m ts
part_kept m a_port ts = Sound.port_kept m ts
part_kept m a_name ts = Sound.name_kept m ts
part_kept m a_tag ts = Sound.tag_kept m ts
part_kept m a_place ts = SoundStatements.place_kept m ts
part_kept m a_stmt ts = SoundStatements.stmt_kept m ts
part_kept m otherwise ts = SoundStatements.otherwise_kept m ts
part_kept m a_function ts = SoundMembers.function_kept m ts
part_kept m a_procedure ts = SoundMembers.procedure_kept m ts
part_kept m some_guards ts = SoundMembers.guards_kept m ts
part_kept m some_repeat ts = SoundMembers.repeat_kept m ts
part_kept m a_body ts = SoundMembers.body_kept m ts
part_kept m an_in ts = SoundMembers.in_kept m ts
part_kept m an_out ts = SoundMembers.out_kept m ts
part_kept m an_action ts = SoundMembers.action_kept m ts
part_kept m a_labelled ts = fails (size (part a_labelled) ts) m ts (Meets a_labelled m ts) tt
part_kept m a_move ts = SoundMembers.move_kept m ts
part_kept m a_schedule ts = SoundMembers.schedule_kept m ts
part_kept m a_chain ts = SoundMembers.chain_of_tags_kept m ts
part_kept m a_priority ts = SoundMembers.priority_kept m ts
part_kept m a_member ts = SoundMembers.member_kept m ts
part_kept m (members k) ts = SoundMembers.members_kept m k ts
part_kept m a_unit_member ts = SoundMembers.unit_member_kept m ts
part_kept m a_path ts = SoundMembers.path_kept m ts
part_kept m an_import ts = SoundMembers.import_kept m ts
part_kept m an_actor ts = SoundMembers.actor_kept m ts
part_kept m a_unit ts = SoundMembers.unit_kept m ts
part_kept m some_imports ts = SoundMembers.imports_kept m ts
part_kept m a_file ts = SoundMembers.file_kept m ts

pub gets : (m : ℕ) (r : Rule) (ts : List Placed) → Gets Keeps (λ r' ts'. size r' ts' < size r ts) m (body r) ts (Keeps m r ts)
gets m (part p) ts = (part_kept m p ts).it
gets m (chain n x) ts = (Sound.chain_kept m n x ts).it
gets m (places x) ts = (Sound.places_kept m x ts).it
gets m (type_tail s q) ts = (Sound.type_tail_kept m s q ts).it
gets m (var_tail x) ts = (Sound.var_tail_kept m x ts).it
gets m whole ts = (SoundMembers.whole_kept m ts).it

pub read_is : (m : ℕ) (r : Rule) (ts : List Placed) → read m r ts ≡ exec read m (body r) ts
unfolding read
read_is m r ts = Ending.read_is body size Keeps nothing_spent gets m r ts

pub read_keeps : (m : ℕ) (r : Rule) (ts : List Placed) → Keeps m r ts (read m r ts)
unfolding read
read_keeps m r ts = Ending.read_holds body size Keeps nothing_spent gets m r ts
