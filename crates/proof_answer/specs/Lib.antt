pub mod Answers
pub mod Catalogues
pub mod KeptAnswers
