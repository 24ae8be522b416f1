pub mod Common
pub mod Falling
pub mod Slots
pub mod Totals
pub mod Seeing
pub mod Changing
pub mod Taking
pub mod Standing
pub mod References
pub mod MovingRows
pub mod Passing
pub mod Parting
pub mod PartFacts
pub mod Idling
pub mod Searching
pub mod NewRows
pub mod Answering
pub mod Putting
pub mod Ways
pub mod Looking
pub mod Coming
pub mod Leading
pub mod Giving
pub mod Asking
pub mod HeldByKey
pub mod Stocking
pub mod Noting
pub mod Places
pub mod History
pub mod Reading
pub mod Steps
pub mod Working
pub mod Settling
pub mod MoreRead
pub mod Ends
pub mod Setting
pub mod FirstRow
pub mod Knowing
pub mod Listing
pub mod Acting
pub mod Nothing
pub mod Owning
pub mod Storing
mod DecidingCommon
mod Aims
mod Applying
mod Deciding
mod FormNodes
pub mod FoundAims
mod Got
mod Leaves
pub mod OperatorParts
mod Passes
pub mod SearchForms
mod Starting
mod DecidingTaking
mod Within
