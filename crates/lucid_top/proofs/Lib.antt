pub mod Common
pub mod Counting
pub mod Naming
pub mod Reaching
pub mod NamesAsked
pub mod Refusing
pub mod Sources
pub mod Ending
pub mod Doing
pub mod RunEnds
pub mod Begun
pub mod Carrying
pub mod Views
pub mod Asking
pub mod OneList
pub mod Verdicts
pub mod NoJudgment
pub mod NoColumn
pub mod Within
pub mod FewInputs
pub mod FewColumns
pub mod Answering
pub mod TextsOnly
pub mod Beside
pub mod FirstWrong
pub mod FlatVerdicts
pub mod CertificateVerdicts
pub mod OneCall
pub mod LastLine
pub mod Unread
pub mod Proving
pub mod Promising
pub mod TreeTables
pub mod Certifying
pub mod CheckEnds
pub mod MakingEnds
pub mod Meeting
mod Headlines
mod Spelling
mod CountingSource
mod InputSource
mod Witnesses
mod InputWitnesses
mod CertificateWitnesses
mod ColumnWitnesses
pub mod Once
pub mod Solutions
