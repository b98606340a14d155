pub mod MembersSoFar
pub mod Bodies
