use Rattle.std.proofs.Common.{◌≡◌, Err, rules, sym, ◌∙◌}
use Rattle.cal_ast.specs.View.{member_tree}
use Rattle.cal_ast.specs.declared.member.Member.TheVariants as members
use Rattle.cal_parse_member.proofs.MemberLists.{all_members, member_fails, member_more, member_shorter, no_members_yet, no_schedule_left, schedule_fails, schedule_more, schedule_shorter}
use Rattle.cal_parse_member.proofs.members.members.Goals as goal

pub members-init : goal.members-init
members-init c = no_members_yet c.args.room c.args.tokens.now.now c.new-found.result.items c.new-found.ensures.items

pub returns-in_err-next : goal.returns-in_err-next
returns-in_err-next c =
    let same : c.from_residual.result ≡ Err c.in_err-next.field-0.0 = search rules in
    rw same (member_fails c.args.room c.args.tokens.now.now c.members.tokens.now c.members.may_schedule c.members.found.items c.members.invariant c.member.new.tokens.now c.in_err-next.field-0.0 (sym c.starts_member.ensures ∙ c.if-starts_member.true) c.in_err-next.ensures)

pub members-preserved-then-starts_member : goal.members-preserved-then-starts_member
members-preserved-then-starts_member c =
    member_more c.args.room c.args.tokens.now.now c.members.tokens.now c.members.may_schedule c.members.found.items c.members.invariant c.member.new.tokens.now c.in_ok-next.next c.push.new.self.items c.in_ok-push.ensures.items (sym c.starts_member.ensures ∙ c.if-starts_member.true) c.in_ok-next.ensures

pub members-smaller-then-starts_member : goal.members-smaller-then-starts_member
members-smaller-then-starts_member c = member_shorter c.args.room (member_tree c.in_ok-next.next) c.members.tokens.now c.member.new.tokens.now c.in_ok-next.ensures

pub returns-then-not-may_schedule : goal.returns-then-not-may_schedule
returns-then-not-may_schedule c =
    no_schedule_left c.args.room c.args.tokens.now.now c.members.tokens.now c.members.may_schedule c.members.found.items c.members.invariant (sym c.starts_member.ensures ∙ c.if-starts_member.false) c.if-not-may_schedule.true

pub returns-then-not-is_word : goal.returns-then-not-is_word
returns-then-not-is_word c =
    all_members c.args.room c.args.tokens.now.now c.members.tokens.now c.members.may_schedule c.members.found.items c.members.invariant (sym c.starts_member.ensures ∙ c.if-starts_member.false) (λ may. sym c.is_word.ensures ∙ c.if-not-is_word.true)

pub returns-in_err-last : goal.returns-in_err-last
returns-in_err-last c =
    let same : c.from_residual-in_err-last.result ≡ Err c.in_err-last.field-0.0 = search rules in
    rw same (schedule_fails c.args.room c.args.tokens.now.now c.members.tokens.now c.members.may_schedule c.members.found.items c.members.invariant c.schedule.new.tokens.now c.in_err-last.field-0.0 c.if-not-may_schedule.false (sym c.starts_member.ensures ∙ c.if-starts_member.false) (sym c.is_word.ensures ∙ c.if-not-is_word.false) c.in_err-last.ensures)

pub members-preserved : goal.members-preserved
members-preserved c =
    schedule_more c.args.room c.args.tokens.now.now c.members.tokens.now c.members.may_schedule c.members.found.items c.members.invariant c.schedule.new.tokens.now (members.Schedule c.in_ok-last.last) c.push-in-members.new.self.items c.in_ok-push-2.ensures.items c.if-not-may_schedule.false (sym c.starts_member.ensures ∙ c.if-starts_member.false) (sym c.is_word.ensures ∙ c.if-not-is_word.false) c.in_ok-last.ensures

pub members-smaller : goal.members-smaller
members-smaller c = schedule_shorter c.args.room (member_tree (members.Schedule c.in_ok-last.last)) c.members.tokens.now c.schedule.new.tokens.now c.in_ok-last.ensures
