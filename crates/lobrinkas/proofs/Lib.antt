pub mod FinishLaws
pub mod CallLaws
pub mod SetUpLaws
pub mod RunLaws
pub mod PlainLaws
pub mod HistoryLaws
pub mod AnswerLaws
