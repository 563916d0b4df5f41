-- The lemmas of this crate.
pub mod StatusCodes
pub mod Completed
pub mod AnswerStatuses
pub mod CommandAnswers
pub mod AnswersHeld
pub mod SideLines
pub mod LineAnswers
pub mod FlowHeld
