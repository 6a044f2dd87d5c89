pub mod AnswerWays
pub mod AnswerLaws
