mod MemberLists
mod Openings
mod Starts
