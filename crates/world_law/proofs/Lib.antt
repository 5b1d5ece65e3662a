pub mod FlagLaws
pub mod AnswerLaws
pub mod FitLaws
pub mod StandsLaws
pub mod StepLaws
pub mod RunLaws
pub mod FormatLaws
