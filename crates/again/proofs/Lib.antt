pub mod TrimmedTwice
pub mod AnsweredTwice
pub mod Laws
