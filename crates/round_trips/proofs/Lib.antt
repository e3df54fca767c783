pub mod MembersAgain
pub mod RepliesAgain
pub mod IntrospectionsAgain
