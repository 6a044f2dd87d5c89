pub mod VerdictWays
pub mod VerdictLaws
